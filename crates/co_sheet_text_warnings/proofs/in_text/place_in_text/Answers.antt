use Rattle.std.proofs.Common.{◌≡◌, List, ◌∙◌, ap, map, refl, subst, sym}
use Rattle.std.specs.Prelude.{option_to_list}
use Rattle.co_sheet_text.specs.Sections.{TextSection}
use Rattle.co_sheet_text.specs.Views.{section_view}
use Rattle.co_sheet_text_warnings.specs.declared.keys.Topic.TheVariants.{FileInfo, DeviceInfo}
use Rattle.co_sheet_text_warnings.specs.declared.warning.WarningKind.{WarningKind}
use Rattle.co_sheet_text_warnings.specs.Infos.{device_keys, file_keys, missing_keys}
use Rattle.co_sheet_text_warnings.specs.KnownKeys.{unknown_key}
use Rattle.co_sheet_text_warnings.specs.Lines.{mixed_line_ends}
use Rattle.co_sheet_text_warnings.specs.ReadTexts.{ReadText}
use Rattle.co_sheet_text_warnings.specs.InText.{place_in_text}
use Rattle.co_sheet_text_warnings.specs.Views.{key_view}
use Rattle.co_sheet_text_warnings.proofs.in_text.place_in_text.Goals as goal

pub returns-in-FileInfoKeys : goal.returns-in-FileInfoKeys
unfolding place_in_text
returns-in-FileInfoKeys c =
    let missing = c.missing_keys.ensures ∙ ap (missing_keys FileInfo (map key_view c.text.inside.keys.now) (map section_view c.sections.result.now)) c.file_keys.ensures
    ∙ ap (λ (ss : List TextSection). missing_keys FileInfo (map key_view c.text.inside.keys.now) ss file_keys) c.sections.ensures
    ∙ ap (λ (t : ReadText). missing_keys FileInfo t.keys c.args.text.now.sections file_keys) c.text.view_is in
    subst (λ (kind : WarningKind). option_to_list c.missing_keys.result ≡ place_in_text c.args.text.now kind) (sym c.in-FileInfoKeys.is) missing

pub returns-in-DeviceInfoKeys : goal.returns-in-DeviceInfoKeys
unfolding place_in_text
returns-in-DeviceInfoKeys c =
    let missing = c.missing_keys-in-DeviceInfoKeys.ensures ∙ ap (missing_keys DeviceInfo (map key_view c.text.inside.keys.now) (map section_view c.sections-in-DeviceInfoKeys.result.now)) c.device_keys.ensures
    ∙ ap (λ (ss : List TextSection). missing_keys DeviceInfo (map key_view c.text.inside.keys.now) ss device_keys) c.sections-in-DeviceInfoKeys.ensures
    ∙ ap (λ (t : ReadText). missing_keys DeviceInfo t.keys c.args.text.now.sections device_keys) c.text.view_is in
    subst (λ (kind : WarningKind). option_to_list c.missing_keys-in-DeviceInfoKeys.result ≡ place_in_text c.args.text.now kind) (sym c.in-DeviceInfoKeys.is) missing

pub returns-in-NoErrorControl : goal.returns-in-NoErrorControl
unfolding place_in_text
returns-in-NoErrorControl c =
    subst (λ (kind : WarningKind). option_to_list c.no_error_control.result ≡ place_in_text c.args.text.now kind) (sym c.in-NoErrorControl.is) c.no_error_control.ensures

pub returns-in-Utf8 : goal.returns-in-Utf8
unfolding place_in_text
returns-in-Utf8 c =
    subst (λ (kind : WarningKind). option_to_list c.other_bytes.result ≡ place_in_text c.args.text.now kind) (sym c.in-Utf8.is) (c.other_bytes.ensures.utf8 refl)

pub returns-in-NotAscii : goal.returns-in-NotAscii
unfolding place_in_text
returns-in-NotAscii c =
    subst (λ (kind : WarningKind). option_to_list c.other_bytes-in-NotAscii.result ≡ place_in_text c.args.text.now kind) (sym c.in-NotAscii.is) (c.other_bytes-in-NotAscii.ensures.other refl)

pub returns-in-UnknownKey : goal.returns-in-UnknownKey
unfolding place_in_text
returns-in-UnknownKey c =
    subst (λ (kind : WarningKind). option_to_list c.unknown_key.result ≡ place_in_text c.args.text.now kind) (sym c.in-UnknownKey.is)
    (c.unknown_key.ensures ∙ ap (λ (t : ReadText). unknown_key t.keys) c.text.view_is)

pub returns-in-LineEnds : goal.returns-in-LineEnds
unfolding place_in_text
returns-in-LineEnds c =
    subst (λ (kind : WarningKind). option_to_list c.mixed_line_ends.result ≡ place_in_text c.args.text.now kind) (sym c.in-LineEnds.is)
    (c.mixed_line_ends.ensures ∙ ap (λ (t : ReadText). mixed_line_ends t.text) c.text.view_is)
