-- A text as it is read in spite of its lines at fault (CiA 306-1, structure of an EDS).
use Rattle.std.specs.Prelude.{ℕ, List, Option}
use Rattle.std.specs.Option.{option_or}
use Rattle.co_sheet_text.specs.Text.{Line, lines_of}
use Rattle.co_sheet_text.specs.Sections.{TextSection}
use Rattle.co_sheet_text.specs.LinesAtFault.{sections_read}
use Rattle.co_sheet.specs.Commissioning.{node_id_in}
use Rattle.co_sheet_text_warnings.specs.Keys.{WrittenKey}
use Rattle.co_sheet_text_warnings.specs.KnownKeys.{telling_keys}

-- its bytes, its lines, its sections with the keys that are read, the keys that a warning can be
-- about, as they are written, and the node-ID of the device, if it is known
pub record ReadText : Type 0 where
  pub text : List ℕ
  pub lines : List Line
  pub sections : List TextSection
  pub keys : List WrittenKey
  pub node : Option ℕ

-- the node-ID that is given, or else that of a device configuration file, read in spite of its
-- lines at fault
abbrev pub own_node : Option ℕ → List TextSection → Option ℕ
own_node node sections = option_or node (node_id_in sections)

abbrev pub read_text : List ℕ → Option ℕ → ReadText
read_text text node = record {
  text = text;
  lines = lines_of text;
  sections = sections_read (lines_of text);
  keys = telling_keys (lines_of text);
  node = own_node node (sections_read (lines_of text));
}
