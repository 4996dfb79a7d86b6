-- The sub-indices of an object in compact form, each with a section of its own (CiA 306, compact
-- storage). A section that the sheet has stays. Of the others sub-index 0 is an UNSIGNED8 with their number, but for what CiA 301 says of 1003h and of
-- mappings; the others are as the object's own keys say.
use Rattle.std.specs.Prelude.{ℕ, zero, suc, Bool, false, ◌&&◌, ◌||◌, ◌==◌, nat_le, nat_lt, if◌then◌else◌, List, [], ◌∷◌, ◌++◌, flat_map, codes, decimal, Option, Some, None, is_some, unwrap_or}
use Rattle.std.specs.Option.{option_map_or}
use Rattle.co_text.specs.Printed.{digits_text, byte_text, printed_digit}
use Rattle.co_value.specs.declared.key.Key.{Key}
use Rattle.co_sheet_text.specs.Text.{Line, same_name}
use Rattle.co_sheet_adapt.specs.declared.facts.Facts.{Facts}
use Rattle.co_sheet_changes.specs.Groups.{Given, Group, property_in, value_in}
use Rattle.co_sheet_adapt.specs.LeftOut.{value_in_place}
use Rattle.co_sheet_changes.specs.Pieces.{assigned}
use Rattle.co_sheet_adapt.specs.Entries.{entry_change}

-- `[2300sub1]`
abbrev pub sub_digits : ℕ → List ℕ
sub_digits sub = if nat_lt sub 16 then printed_digit sub ∷ [] else byte_text sub

unfoldable pub sub_head : Key → List ℕ
sub_head key =
    codes "[" ++ digits_text 16 4 key.index ++ codes "sub" ++ sub_digits key.sub ++ codes "]\n"

-- the keys of the object's section that each sub-index has
abbrev pub is_copied : List ℕ → Bool
is_copied name =
    same_name name (codes "DataType") || same_name name (codes "AccessType")
    || same_name name (codes "LowLimit") || same_name name (codes "HighLimit")
    || same_name name (codes "DefaultValue") || same_name name (codes "PDOMapping")

-- a name and its value in the section of an entry, changed if need be; else with this value
unfoldable pub written_as : Facts → List ℕ → List ℕ → List ℕ → List ℕ
written_as facts name value kept =
    option_map_or (λ m. m.new) (entry_change facts name value) (assigned name kept)

abbrev pub copied_given : Facts → Option Given → List ℕ
copied_given facts None = []
copied_given facts (Some given) =
    if is_copied given.name then written_as facts given.name given.value given.value else []

abbrev pub copied_line : Facts → Line → List ℕ
copied_line facts line = copied_given facts (property_in line)

abbrev pub copied_lines : Facts → Group → List ℕ
copied_lines facts g = flat_map (copied_line facts) g.body

-- the name of a sub-index that [..Name] doesn't name: the object's and its number
abbrev pub default_name : List ℕ → ℕ → List ℕ
default_name name sub = name ++ 32 ∷ [] ++ decimal sub

abbrev pub own_name : Group → List ℕ
own_name g = unwrap_or (value_in (codes "ParameterName") g.body) []

unfoldable pub name_line : (Key → Option (List ℕ)) → Group → Key → List ℕ
name_line names g key =
    assigned (codes "ParameterName") (unwrap_or (names key) (default_name (own_name g) key.sub))

-- a value that can't be written at the type that stands for its own gets a `?` in front, so that it
-- isn't accepted
abbrev pub kept_value : Facts → List ℕ → List ℕ
kept_value facts value =
    option_map_or (λ t. if is_some (value_in_place t value) then value else 63 ∷ value) facts.left_out
    value

unfoldable pub value_line : (Key → Option (List ℕ)) → Facts → Key → List ℕ
value_line values facts key =
    option_map_or (λ v. written_as facts (codes "ParameterValue") v (kept_value facts v)) (values key)
    []

unfoldable pub type_line : List ℕ
type_line = codes "ObjectType=0x7\n"

unfoldable pub sub_section : (Key → Option (List ℕ)) → (Key → Option (List ℕ)) → Facts → Group
    → List ℕ → Key → List ℕ
sub_section names values facts g copied key =
    sub_head key ++ name_line names g key ++ type_line ++ copied
    ++ value_line values facts key ++ 10 ∷ []

-- ---- sub-index 0

unfoldable pub first_keys : Bool → List ℕ
first_keys is_written =
    if is_written
    then codes "ParameterName=Number of entries\nObjectType=0x7\nDataType=0x0005\nAccessType=rw\nDefaultValue="
    else codes "ParameterName=Number of entries\nObjectType=0x7\nDataType=0x0005\nAccessType=ro\nDefaultValue="

unfoldable pub last_keys : List ℕ
last_keys = codes "\nPDOMapping=0\n\n"

unfoldable pub first_section : ℕ → Bool → ℕ → List ℕ
first_section index is_written number =
    sub_head (record { index = index; sub = 0 }) ++ first_keys is_written ++ decimal number ++ last_keys

-- the mapping of an RPDO or a TPDO
abbrev pub is_within : ℕ → ℕ → ℕ → Bool
is_within low high n = nat_le low n && nat_le n high

abbrev pub is_mapping : ℕ → Bool
is_mapping index = is_within 0x1600 0x17FF index || is_within 0x1A00 0x1BFF index

-- a client writes the sub-indices of the object
abbrev pub is_changed_word : List ℕ → Bool
is_changed_word word =
    same_name word (codes "rw") || same_name word (codes "rwr") || same_name word (codes "rww")

abbrev pub is_changed : Option (List ℕ) → Bool
is_changed access = option_map_or is_changed_word access false

-- 1003:00 is written, by 0 alone, to delete the errors, which are read-only themselves (CiA 301,
-- 7.5.2.4); sub-index 0 of a mapping is written where the mapping may be changed (7.5.2.36, 7.5.2.38)
abbrev pub is_count_written : ℕ → Option (List ℕ) → Bool
is_count_written index access = (index == 0x1003) || (is_mapping index && is_changed access)

-- 1003:00 counts the errors, of which there are none at first
abbrev pub count_at : ℕ → ℕ → ℕ
count_at index count = if index == 0x1003 then 0 else count

unfoldable pub compact_first : Group → ℕ → ℕ → List ℕ
compact_first g index count =
    first_section index (is_count_written index (value_in (codes "AccessType") g.body))
    (count_at index count)

-- ---- the sub-indices after it

-- the sections of sub-index 1 to a number
abbrev pub sub_sections : (Key → List ℕ) → ℕ → ℕ → List ℕ
sub_sections section index zero = []
sub_sections section index (suc sub) =
    sub_sections section index sub ++ section (record { index = index; sub = suc sub })

-- a sub-index that has a section of its own gets none
abbrev pub unless_own : (Key → Option (List ℕ)) → (Key → List ℕ) → Key → List ℕ
unless_own own section key = if is_some (own key) then [] else section key

abbrev pub first_unless_own : (Key → Option (List ℕ)) → Group → ℕ → ℕ → List ℕ
first_unless_own own g index count =
    if is_some (own (record { index = index; sub = 0 })) then [] else compact_first g index count

abbrev pub compact_text : (Key → Option (List ℕ)) → (Key → Option (List ℕ))
    → (Key → Option (List ℕ)) → Facts → Group → ℕ → ℕ → List ℕ
compact_text own names values facts g index count =
    first_unless_own own g index count
    ++ sub_sections (unless_own own (sub_section names values facts g (copied_lines facts g))) index
    count
