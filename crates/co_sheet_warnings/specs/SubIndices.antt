-- What an object says of its sub-indices, against those that the text describes
-- (CiA 306-1, object description; CiA 301, sub-index 0 of arrays and records).
use Rattle.std.specs.Prelude.{
  ℕ,
  Bool,
  true,
  false,
  not,
  ◌&&◌,
  ◌||◌,
  ◌==◌,
  nat_lt,
  max,
  fold,
  if◌then◌else◌,
  List,
  [],
  ◌∷◌,
  length,
  map,
  codes,
  is_none,
}
use Rattle.std.specs.List.{list_any}
use Rattle.std.specs.Option.{option_map_or}
use Rattle.co_sheet_text.specs.declared.section_kind.SectionKind.{SectionKind}
use Rattle.co_sheet_text.specs.declared.section_kind.SectionKind.TheVariants.{Object, SubIndex}
use Rattle.co_sheet_text.specs.Text.{same_name}
use Rattle.co_sheet_text.specs.Sections.{Property, TextSection, property_at}
use Rattle.co_sheet_text.specs.Properties.{property_number}
use Rattle.co_sheet.specs.ObjectLists.{is_one_of}
use Rattle.co_sheet.specs.Entries.{Entry, object_code, single_codes, sub_indices}
use Rattle.co_sheet.specs.Limits.{value_property}
use Rattle.co_sheet.specs.Notes.{sub_number_note, unlisted_note}
use Rattle.co_sheet.specs.SectionViews.{object_at}
use Rattle.co_sheet_text_warnings.specs.Ranges.{is_within}

-- SubNumber isn't the number of the object's sub-index sections
abbrev pub sub_number : List TextSection → TextSection → SectionKind → List ℕ
sub_number sections s (Object index) =
    map (λ n. n.line) (sub_number_note s (length (sub_indices sections index)))
sub_number sections s kind = []

-- a VAR or a DOMAIN with sub-index sections: it has one entry, in its own section (CiA 301, object
-- types)
abbrev pub is_single : TextSection → Bool
is_single s = is_one_of single_codes (object_code s)

abbrev pub has_unread : List TextSection → TextSection → ℕ → Bool
has_unread sections s index = is_single s && nat_lt 0 (length (sub_indices sections index))

abbrev pub var_sub_indices : List TextSection → TextSection → SectionKind → List ℕ
var_sub_indices sections s (Object index) =
    if has_unread sections s index then s.line ∷ [] else []
var_sub_indices sections s kind = []

-- sub-index 1 is described
abbrev pub is_sub_1 : Entry → Bool
is_sub_1 e = e.key.sub == 1

abbrev pub has_sub_1 : List Entry → Bool
has_sub_1 entries = list_any is_sub_1 entries

-- an object in another form than CiA 301 has it: 1000h and 1001h are a VAR, 1018h is a RECORD with
-- sub-index 1, the vendor-ID
abbrev pub is_other_form : List TextSection → TextSection → ℕ → Bool
is_other_form sections s index =
    if (index == 0x1000) || (index == 0x1001) then not (is_one_of (7 ∷ []) (object_code s))
    else (index == 0x1018)
    && not (is_one_of (9 ∷ []) (object_code s) && has_sub_1 (sub_indices sections index))

-- a mandatory object in another form; of one whose sub-index sections aren't read, var_sub_indices
-- says so
abbrev pub mandatory_form : List TextSection → TextSection → SectionKind → List ℕ
mandatory_form sections s (Object index) =
    if is_other_form sections s index && not (has_unread sections s index) then s.line ∷ []
    else []
mandatory_form sections s kind = []

-- an object section that no list names; of an object without one its first sub-index section
abbrev pub is_first : List Entry → ℕ → Bool
is_first [] line = false
is_first (e ∷ entries) line = e.section.line == line

abbrev pub stands_for_object : List TextSection → ℕ → ℕ → Bool
stands_for_object sections index line =
    is_none (object_at index sections) && is_first (sub_indices sections index) line

abbrev pub unlisted : List TextSection → TextSection → SectionKind → List ℕ
unlisted sections s (Object index) = map (λ n. n.line) (unlisted_note sections s index)
unlisted sections s (SubIndex key) =
    if stands_for_object sections key.index s.line
    then map (λ n. n.line) (unlisted_note sections s key.index) else []
unlisted sections s kind = []

-- an object or a sub-index without a name
abbrev pub is_entry_kind : SectionKind → Bool
is_entry_kind (Object index) = true
is_entry_kind (SubIndex key) = true
is_entry_kind kind = false

abbrev pub missing_name : TextSection → List ℕ
missing_name s =
    if is_entry_kind s.kind && is_none (property_at (codes "ParameterName") s) then s.line ∷ []
    else []

-- the highest sub-index; FFh describes the object itself, and isn't counted
abbrev pub counted : ℕ → ℕ
counted sub = if sub == 0xFF then 0 else sub

abbrev pub highest_from : ℕ → List Entry → ℕ
highest_from first entries = fold (λ highest e. max highest (counted e.key.sub)) first entries

abbrev pub highest_of : List Entry → ℕ
highest_of entries = highest_from 0 entries

-- an entry that nobody writes
abbrev pub is_constant_word : List ℕ → Bool
is_constant_word word = same_name word (codes "ro") || same_name word (codes "const")

abbrev pub is_constant : Entry → Bool
is_constant e =
    option_map_or (λ k. is_constant_word k.value) (property_at (codes "AccessType") e.section) false

-- sub-index 0 of the error field counts errors, of the module list the modules that are connected,
-- and of a PDO's mapping the objects that are mapped
abbrev pub is_highest_by_rule : ℕ → Bool
is_highest_by_rule index =
    not ((index == 0x1003) || (index == 0x1027) || is_within 0x1600 0x17FF index
    || is_within 0x1A00 0x1BFF index)

-- a number of one byte, other than the highest sub-index
abbrev pub other_number : ℕ → Property → List ℕ
other_number highest k =
    option_map_or (λ n. if nat_lt 0xFF n || (n == highest) then [] else k.line ∷ [])
    (property_number k) []

-- a constant sub-index 0 isn't the highest sub-index of its object
abbrev pub sub_index_0_of : List Entry → Entry → List ℕ
sub_index_0_of entries e =
    if (e.key.sub == 0) && is_highest_by_rule e.key.index && is_constant e
    then option_map_or (other_number (highest_of entries)) (value_property e) []
    else []

abbrev pub sub_index_0 : List TextSection → TextSection → SectionKind → List ℕ
sub_index_0 sections s (SubIndex key) =
    sub_index_0_of (sub_indices sections key.index) (record { key = key; section = s })
sub_index_0 sections s kind = []
