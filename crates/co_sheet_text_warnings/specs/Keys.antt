-- The keys of a text as they are written, those too that are passed over where a text is read
-- (CiA 306-1, structure of an EDS).
use Rattle.std.specs.Prelude.{ℕ, nat_lt, if◌then◌else◌, List, [], ◌∷◌, ◌++◌, length, codes, Option, Some, None}
use Rattle.std.specs.Option.{option_map_or}
use Rattle.co_sheet_text.specs.declared.section_kind.SectionKind.{SectionKind}
use Rattle.co_sheet_text.specs.declared.section_kind.SectionKind.TheVariants as kind
use Rattle.co_sheet_text.specs.Names.{kind_of}
use Rattle.co_sheet_text.specs.Text.{Line, same_name, is_empty, trim}
use Rattle.co_sheet_text.specs.Sections.{LineForm, skipped, section_line, unclosed, name_value, form_of}
use Rattle.co_sheet_text_warnings.specs.declared.keys.Topic.{Topic}
use Rattle.co_sheet_text_warnings.specs.declared.keys.Topic.TheVariants.{
  FileInfo,
  DeviceInfo,
  DeviceCommissioning,
  ObjectLists,
  Dummies,
  Objects,
  Other,
}

-- what the keys of a section are about
abbrev pub topic_of_kind : SectionKind → Topic
topic_of_kind kind.MandatoryObjects = ObjectLists
topic_of_kind kind.OptionalObjects = ObjectLists
topic_of_kind kind.ManufacturerObjects = ObjectLists
topic_of_kind kind.DummyUsage = Dummies
topic_of_kind kind.DeviceInfo = DeviceInfo
topic_of_kind kind.DeviceCommissioning = DeviceCommissioning
topic_of_kind (kind.Object index) = Objects
topic_of_kind (kind.SubIndex key) = Objects
topic_of_kind other = Other

abbrev pub topic_of : List ℕ → Topic
topic_of name =
    if same_name name (codes "FileInfo") then FileInfo else topic_of_kind (kind_of name)

-- a key with its value, and its line
pub record WrittenKey : Type 0 where
  pub topic : Topic
  pub name : List ℕ
  pub value : List ℕ
  pub line : ℕ

-- what a line of these bytes is; one of more than 512 bytes isn't read
abbrev pub form_of_bytes : List ℕ → LineForm
form_of_bytes bytes = if nat_lt 512 (length bytes) then skipped else form_of (trim bytes)

abbrev pub form_read : Line → LineForm
form_read line = form_of_bytes line.bytes

-- the name of the section that a line begins; without `]` it has none
abbrev pub begun_name : LineForm → Option (List ℕ)
begun_name (section_line name) = Some name
begun_name unclosed = Some []
begun_name form = None

abbrev pub topic_after : Topic → LineForm → Topic
topic_after topic form = option_map_or topic_of (begun_name form) topic

-- the key that a line gives; one without a value is none
abbrev pub key_on : Topic → ℕ → LineForm → List WrittenKey
key_on topic line (name_value name value) =
    if is_empty value then []
    else record { topic = topic; name = name; value = value; line = line } ∷ []
key_on topic line form = []

-- the keys of lines, after a line of this topic
abbrev pub keys_from : Topic → List Line → List WrittenKey
keys_from topic [] = []
keys_from topic (line ∷ lines) =
    key_on topic line.number (form_read line) ++ keys_from (topic_after topic (form_read line)) lines

abbrev pub keys_of : List Line → List WrittenKey
keys_of lines = keys_from Other lines
