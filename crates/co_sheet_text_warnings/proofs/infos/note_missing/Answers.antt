use Rattle.std.proofs.Common.{◌∙◌, false, sym, map, arith}
use Rattle.std.proofs.lemmas.List.{ext_get_or, get_or-map, length-map}
use Rattle.co_sheet_text_warnings.specs.declared.known_key.KnownKey.TheVariants.{FileName}
use Rattle.co_sheet_text_warnings.specs.Infos.{is_missing}
use Rattle.co_sheet_text_warnings.specs.Views.{key_view}
use Rattle.co_sheet_text_warnings.proofs.infos.note_missing.Goals as goal

pub returns : goal.returns
returns c =
    let test = is_missing c.args.info (map key_view c.args.keys.now) in
    let required = c.args.required.now in
    let room = c.loop-place.invariant.room in
    ext_get_or false c.loop-place.missing (map test required) (room ∙ sym (length-map required test))
    (λ j below. c.loop-place.invariant.noted j FileName false (omega (arith, room, below)) ∙ sym (get_or-map test required j FileName false (omega (arith, room, below))))
