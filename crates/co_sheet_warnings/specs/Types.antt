-- The data types that CiA 301 has for entries, beyond those that a sheet has to have (fixed_types of
-- co_profile).
use Rattle.std.specs.Prelude.{
  ℕ,
  Bool,
  true,
  false,
  ◌&&◌,
  ◌||◌,
  ◌==◌,
  nat_le,
  nat_lt,
  not,
  if◌then◌else◌,
  List,
  [],
  ◌∷◌,
  codes,
  find,
  Option,
  Some,
  None,
  option_map,
}
use Rattle.std.specs.Option.{option_map_or}
use Rattle.co_value.specs.declared.key.Key.{Key}
use Rattle.co_value.specs.declared.data_type.DataType.{DataType}
use Rattle.co_value.specs.declared.data_type.DataType.TheVariants.{Unsigned8, Unsigned16, Unsigned32, VisibleString}
use Rattle.co_value.specs.Types.{code_of}
use Rattle.co_sheet_text.specs.declared.section_kind.SectionKind.{SectionKind}
use Rattle.co_sheet_text.specs.declared.section_kind.SectionKind.TheVariants.{Object, SubIndex}
use Rattle.co_sheet_text.specs.Sections.{TextSection, property_at}
use Rattle.co_sheet.specs.ObjectLists.{is_one_of}
use Rattle.co_sheet.specs.Entries.{compound_codes, object_code}
use Rattle.co_sheet.specs.SectionViews.{object_at}
use Rattle.co_sheet_text_warnings.specs.Ranges.{is_within}
use Rattle.co_sheet_warnings.specs.Communication.{line_if}

-- a type, the first and the last index, and the first and the last sub-index of the entries that
-- have it (CiA 301, objects of the communication profile): the status register; cycle and window of
-- SYNC; the names and versions; the times of node guarding; storing and restoring; TIME and the time
-- stamp; the identity; the configuration's date and time; the module list; EMCY consumers; error
-- behaviour; SDO servers and clients, each with a node-ID; and the times and the SYNC start value that
-- RPDOs have as TPDOs
abbrev pub standard_types : List (DataType × ℕ × ℕ × ℕ × ℕ)
standard_types =
    (Unsigned32, 0x1002, 0x1002, 0, 0)
    ∷ (Unsigned32, 0x1006, 0x1007, 0, 0)
    ∷ (VisibleString, 0x1008, 0x100A, 0, 0)
    ∷ (Unsigned16, 0x100C, 0x100C, 0, 0)
    ∷ (Unsigned8, 0x100D, 0x100D, 0, 0)
    ∷ (Unsigned32, 0x1010, 0x1011, 0x01, 0x7F)
    ∷ (Unsigned32, 0x1012, 0x1013, 0, 0)
    ∷ (Unsigned32, 0x1018, 0x1018, 1, 4)
    ∷ (Unsigned32, 0x1020, 0x1020, 1, 2)
    ∷ (Unsigned16, 0x1027, 0x1027, 0x01, 0xFE)
    ∷ (Unsigned32, 0x1028, 0x1028, 0x01, 0x7F)
    ∷ (Unsigned8, 0x1029, 0x1029, 0x02, 0xFE)
    ∷ (Unsigned8, 0x1200, 0x12FF, 3, 3)
    ∷ (Unsigned32, 0x1280, 0x12FF, 1, 2)
    ∷ (Unsigned16, 0x1400, 0x15FF, 3, 3)
    ∷ (Unsigned16, 0x1400, 0x15FF, 5, 5)
    ∷ (Unsigned8, 0x1400, 0x15FF, 6, 6)
    ∷ []

abbrev pub type_at_key : Key → Option DataType
type_at_key key =
    option_map (λ r. r.0)
    (find
    (λ r. is_within r.1 r.2 key.index && nat_le r.3 key.sub && nat_le key.sub r.4)
    standard_types)

-- whether sub-index 0 of an object, if it has sub-indices, is the highest of them: not of those that
-- CiA 301 has as a VAR or a DOMAIN, nor of 1004h and 100Fh, which it reserves, and which had the number
-- of PDOs and of SDOs there, an UNSIGNED32
abbrev pub has_count : ℕ → Bool
has_count index =
    not (is_within 0x1000 0x1002 index || is_within 0x1004 0x100F index
    || is_within 0x1012 0x1015 index || (index == 0x1017) || (index == 0x1019)
    || is_within 0x1021 0x1022 index || (index == 0x1024) || (index == 0x102A))

-- of sub-index 0 (CiA 301, sub-index 0 of arrays and records)
abbrev pub count_type : ℕ → Option DataType
count_type index = if has_count index then Some Unsigned8 else None

-- of the entry of a section
abbrev pub standard_type : SectionKind → Option DataType
standard_type (Object index) = type_at_key (record { index = index; sub = 0 })
standard_type (SubIndex key) = if key.sub == 0 then count_type key.index else type_at_key key
standard_type kind = None

-- an ARRAY or a RECORD by its own section: its entries are its sub-index sections (CiA 301, object
-- types)
abbrev pub is_compound : TextSection → Bool
is_compound s = is_one_of compound_codes (object_code s)

abbrev pub is_compound_at : List TextSection → ℕ → Bool
is_compound_at sections index =
    option_map_or (λ o. is_compound o.section) (object_at index sections) false

-- a section to which its standard type applies: that of sub-index 0 to no VAR or DOMAIN, whose value
-- is sub-index 0, and to no object without a section of its own
abbrev pub has_standard_type : List TextSection → SectionKind → Bool
has_standard_type sections (SubIndex key) = nat_lt 0 key.sub || is_compound_at sections key.index
has_standard_type sections kind = true

-- the line of a DataType with another code; what is no number is a fault
abbrev pub type_against : TextSection → DataType → List ℕ
type_against s t =
    option_map_or (line_if (λ code. not (code == code_of t))) (property_at (codes "DataType") s) []

abbrev pub wrong_type : List TextSection → TextSection → List ℕ
wrong_type sections s =
    if has_standard_type sections s.kind
    then option_map_or (type_against s) (standard_type s.kind) []
    else []
