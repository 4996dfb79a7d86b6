use Rattle.std.proofs.Common.{◌∙◌, ap, map, refl}
use Rattle.co_sheet_text_warnings.specs.declared.keys.Topic.TheVariants.{FileInfo}
use Rattle.co_sheet_text_warnings.specs.Infos.{file_keys, missing_each}
use Rattle.co_sheet_text_warnings.specs.ReadTexts.{ReadText}
use Rattle.co_sheet_text_warnings.specs.Views.{key_view}
use Rattle.co_sheet_text_warnings.proofs.in_text.file_keys_missing.Goals as goal

pub note_missing-requires : goal.note_missing-requires
note_missing-requires c = rw c.file_keys.ensures refl

pub returns : goal.returns
returns c =
    c.note_missing.ensures ∙ ap (missing_each FileInfo (map key_view c.text.inside.keys.now)) c.file_keys.ensures
    ∙ ap (λ (t : ReadText). missing_each FileInfo t.keys file_keys) c.text.view_is
