use Rattle.std.proofs.Common.{refl, map, rules}
use Rattle.std.specs.List.{flat_map}
use Rattle.conode_explain_cob_ids.specs.Known.{known_view}
use Rattle.conode_explain_forms.specs.Places.{channels_in, channels_of}
use Rattle.conode_explain_cob_ids.proofs.Pieces.{all_made, one_more}
use Rattle.conode_explain_forms.proofs.places.add_all_channels.Goals as goal

pub loop-sheet-preserved : goal.loop-sheet-preserved
loop-sheet-preserved c =
    one_more (λ sheets. flat_map channels_in (map known_view sheets)) (λ sheet. channels_in (known_view sheet)) (λ sheet sheets. refl) c.args.sheets.now c.loop-sheet.sheet-index c.sheet-item.result
    c.loop-sheet.channels.items c.add_channels.new.channels.items _ c.loop-sheet-test.true (search rules) c.loop-sheet.invariant

pub returns : goal.returns
unfolding channels_of
returns c =
    all_made (λ sheets. flat_map channels_in (map known_view sheets)) refl c.args.sheets.now c.loop-sheet.sheet-index c.loop-sheet.channels.items _ c.loop-sheet-test.false
    c.loop-sheet.invariant
