-- The kinds of warnings that apply at one line of a text at most, and what a kind says of a text
-- (CiA 306-1, structure of an EDS).
use Rattle.std.specs.Prelude.{ℕ, List, [], unwrap_or}
use Rattle.co_sheet_text_warnings.specs.declared.keys.Topic.TheVariants.{FileInfo, DeviceInfo}
use Rattle.co_sheet_text_warnings.specs.declared.warning.WarningKind.{WarningKind}
use Rattle.co_sheet_text_warnings.specs.declared.warning.WarningKind.TheVariants.{
  FileInfoKeys,
  DeviceInfoKeys,
  SharedCobId,
  HeartbeatTwice,
  NoErrorControl,
  Utf8,
  NotAscii,
  UnknownKey,
  LineEnds,
}
use Rattle.co_sheet_text_warnings.specs.Infos.{missing_each, missing_keys, file_keys, device_keys}
use Rattle.co_sheet_text_warnings.specs.KnownKeys.{unknown_key}
use Rattle.co_sheet_text_warnings.specs.Lines.{utf8, not_ascii, mixed_line_ends}
use Rattle.co_sheet_text_warnings.specs.Lists.{no_error_control}
use Rattle.co_sheet_text_warnings.specs.ReadTexts.{ReadText}

-- the line of a text where a kind applies, of the kinds that apply at one line at most
unfoldable pub place_in_text : ReadText → WarningKind → List ℕ
place_in_text t (FileInfoKeys missing) = missing_keys FileInfo t.keys t.sections file_keys
place_in_text t (DeviceInfoKeys missing) = missing_keys DeviceInfo t.keys t.sections device_keys
place_in_text t NoErrorControl = no_error_control t.sections
place_in_text t Utf8 = utf8 t
place_in_text t NotAscii = not_ascii t
place_in_text t UnknownKey = unknown_key t.keys
place_in_text t LineEnds = mixed_line_ends t.text
place_in_text t kind = []

-- a kind with what it says of a text: of each key whether it is missing, and the node-ID
unfoldable pub kind_in : ReadText → WarningKind → WarningKind
kind_in t (FileInfoKeys missing) = FileInfoKeys (missing_each FileInfo t.keys file_keys)
kind_in t (DeviceInfoKeys missing) = DeviceInfoKeys (missing_each DeviceInfo t.keys device_keys)
kind_in t (SharedCobId node) = SharedCobId (unwrap_or t.node 0)
kind_in t (HeartbeatTwice given) = HeartbeatTwice t.node
kind_in t kind = kind
