-- The access that CiA 301 has for an entry (CiA 301, objects of the communication profile).
use Rattle.std.specs.Prelude.{
  ℕ,
  Bool,
  ◌&&◌,
  ◌||◌,
  ◌==◌,
  nat_le,
  if◌then◌else◌,
  List,
  [],
  ◌∷◌,
  codes,
  Option,
  Some,
  None,
}
use Rattle.std.specs.Option.{option_map_or}
use Rattle.co_value.specs.declared.key.Key.{Key}
use Rattle.co_sheet_text.specs.declared.section_kind.SectionKind.{SectionKind}
use Rattle.co_sheet_text.specs.declared.section_kind.SectionKind.TheVariants.{Object, SubIndex}
use Rattle.co_sheet_text.specs.Sections.{Property, TextSection, property_at}
use Rattle.co_sheet_text.specs.Text.{same_name}
use Rattle.co_sheet_warnings.specs.SubIndices.{is_constant_word}
use Rattle.co_sheet_text_warnings.specs.Ranges.{is_within}
use Rattle.co_sheet_warnings.specs.declared.accesses.FixedAccess.{FixedAccess}
use Rattle.co_sheet_warnings.specs.declared.accesses.FixedAccess.TheVariants.{ReadOnly, Readable, ReadWrite}

-- nobody writes the device type, the error register, the manufacturer's status register, and the
-- manufacturer's names and versions
abbrev pub is_read_only_object : ℕ → Bool
is_read_only_object index = is_within 0x1000 0x1002 index || is_within 0x1008 0x100A index

-- nor the identity object and the identifiers of the first SDO server; 1200:03 is the node-ID of its client
abbrev pub is_read_only_sub_index : Key → Bool
is_read_only_sub_index key = (key.index == 0x1018) || ((key.index == 0x1200) && nat_le key.sub 2)

-- 1003:00 counts the errors, and a client writes 0 to empty the list; 1010h and 1011h, storing and
-- restoring parameters: a client reads what can be stored
abbrev pub is_parameters : ℕ → Bool
is_parameters index = (index == 0x1010) || (index == 0x1011)

abbrev pub sub_access : Key → Option FixedAccess
sub_access key =
    if key.index == 0x1003 then Some (if key.sub == 0 then ReadWrite else ReadOnly)
    else if is_parameters key.index then Some (if key.sub == 0 then ReadOnly else Readable)
    else if is_read_only_sub_index key then Some ReadOnly
    else None

abbrev pub fixed_access : SectionKind → Option FixedAccess
fixed_access (Object index) = if is_read_only_object index then Some ReadOnly else None
fixed_access (SubIndex key) = sub_access key
fixed_access kind = None

-- the words by which an entry isn't read, and by which it is written
abbrev pub is_write_only_word : List ℕ → Bool
is_write_only_word word = same_name word (codes "wo")

abbrev pub is_written_word : List ℕ → Bool
is_written_word word =
    same_name word (codes "rw") || same_name word (codes "rwr") || same_name word (codes "rww")
    || is_write_only_word word

-- a word of AccessType that isn't permitted; what is none of the six words is a fault
abbrev pub is_against : FixedAccess → List ℕ → Bool
is_against ReadOnly word = is_written_word word
is_against Readable word = is_write_only_word word
is_against ReadWrite word = is_constant_word word || is_write_only_word word

abbrev pub line_against : FixedAccess → Property → List ℕ
line_against access k = if is_against access k.value then k.line ∷ [] else []

abbrev pub access_against : TextSection → FixedAccess → List ℕ
access_against s access =
    option_map_or (line_against access) (property_at (codes "AccessType") s) []

abbrev pub wrong_access : TextSection → List ℕ
wrong_access s = option_map_or (access_against s) (fixed_access s.kind) []
