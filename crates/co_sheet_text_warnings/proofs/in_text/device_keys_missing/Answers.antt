use Rattle.std.proofs.Common.{◌∙◌, ap, map, refl}
use Rattle.co_sheet_text_warnings.specs.declared.keys.Topic.TheVariants.{DeviceInfo}
use Rattle.co_sheet_text_warnings.specs.Infos.{device_keys, missing_each}
use Rattle.co_sheet_text_warnings.specs.ReadTexts.{ReadText}
use Rattle.co_sheet_text_warnings.specs.Views.{key_view}
use Rattle.co_sheet_text_warnings.proofs.in_text.device_keys_missing.Goals as goal

pub note_missing-requires : goal.note_missing-requires
note_missing-requires c = rw c.device_keys.ensures refl

pub returns : goal.returns
returns c =
    c.note_missing.ensures ∙ ap (missing_each DeviceInfo (map key_view c.text.inside.keys.now)) c.device_keys.ensures
    ∙ ap (λ (t : ReadText). missing_each DeviceInfo t.keys device_keys) c.text.view_is
