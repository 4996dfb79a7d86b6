-- The lines of entries and objects (CiA 306, object description).
use Rattle.std.specs.Prelude.{ℕ, ◌==◌, nat_lt, ◌||◌, ◌&&◌, Bool, false, if◌then◌else◌, List, [], ◌∷◌, ◌++◌, codes, Option, Some, None}
use Rattle.std.specs.Option.{option_map_or}
use Rattle.std.specs.List.{flat_map, list_any}
use Rattle.co_text.specs.Printed.{digits_text}
use Rattle.co_value.specs.declared.key.Key.{Key}
use Rattle.co_value.specs.KeyTexts.{key_text}
use Rattle.co_sheet_text.specs.declared.section_kind.SectionKind.{SectionKind}
use Rattle.co_sheet_text.specs.declared.section_kind.SectionKind.TheVariants.{Object, SubIndex}
use Rattle.co_sheet_text.specs.Sections.{TextSection, property_at}
use Rattle.co_sheet_text.specs.Text.{is_empty}
use Rattle.co_sheet_text.specs.Properties.{property_number, number_at}
use Rattle.co_sheet.specs.ObjectLists.{is_one_of}
use Rattle.co_sheet.specs.Entries.{object_code, is_other_than_zero}
use Rattle.conode_show_text.specs.declared.format.Format.{Format}
use Rattle.conode_show_text.specs.declared.format.Format.TheVariants.{Text, Markdown}
use Rattle.conode_show_text.specs.Names.{name_among}
use Rattle.conode_show_text.specs.Numbers.{hex_text}
use Rattle.conode_show_text.specs.Texts.{plain_text, property_text}
use Rattle.conode_show_text.specs.Values.{default_text, has_both, limits_text, value_at}
use Rattle.conode_show_text.specs.Layout.{Part, line_of, cell_byte, columns}

-- data types by their codes (CiA 301, 7.4.7.1)
abbrev pub type_names : List (ℕ × List ℕ)
type_names =
    (0x01, codes "BOOLEAN") ∷ (0x02, codes "INTEGER8") ∷ (0x03, codes "INTEGER16") ∷ (0x04, codes "INTEGER32")
    ∷ (0x05, codes "UNSIGNED8") ∷ (0x06, codes "UNSIGNED16") ∷ (0x07, codes "UNSIGNED32") ∷ (0x08, codes "REAL32")
    ∷ (0x09, codes "VISIBLE_STRING") ∷ (0x0A, codes "OCTET_STRING") ∷ (0x0B, codes "UNICODE_STRING")
    ∷ (0x0C, codes "TIME_OF_DAY") ∷ (0x0D, codes "TIME_DIFFERENCE") ∷ (0x0F, codes "DOMAIN") ∷ (0x10, codes "INTEGER24")
    ∷ (0x11, codes "REAL64") ∷ (0x12, codes "INTEGER40") ∷ (0x13, codes "INTEGER48") ∷ (0x14, codes "INTEGER56")
    ∷ (0x15, codes "INTEGER64") ∷ (0x16, codes "UNSIGNED24") ∷ (0x18, codes "UNSIGNED40") ∷ (0x19, codes "UNSIGNED48")
    ∷ (0x1A, codes "UNSIGNED56") ∷ (0x1B, codes "UNSIGNED64") ∷ []

-- the name of a data type, or its number if the code has no name
unfoldable pub type_name : ℕ → List ℕ
type_name code =
    option_map_or (λ name. name) (name_among code type_names) (codes "type " ++ hex_text code)

-- whether an object is an ARRAY, or a RECORD (CiA 301, object codes)
abbrev pub is_array : TextSection → Bool
is_array section = is_one_of (8 ∷ []) (object_code section)

abbrev pub is_record : TextSection → Bool
is_record section = is_one_of (9 ∷ []) (object_code section)

-- what an object type says of an entry without a data type: 2 is DOMAIN, one that is no number is
-- printed as it is
abbrev pub object_type_text : Option ℕ → TextSection → List ℕ
object_type_text (Some code) section = if code == 2 then codes "DOMAIN" else []
object_type_text None section = property_text (codes "ObjectType") section

-- the type of an entry
unfoldable pub entry_type : TextSection → List ℕ
entry_type section =
    option_map_or (λ k. option_map_or type_name (property_number k) (plain_text k.value))
    (property_at (codes "DataType") section) (object_type_text (object_code section) section)

-- the type of an entry, also of one whose object code is that of an ARRAY or a RECORD
unfoldable pub type_text : TextSection → List ℕ
type_text section =
    if is_array section then codes "ARRAY"
    else if is_record section then codes "RECORD" else entry_type section

-- the type of an object with sub-indices: an ObjectType that is no number, as `RECORD`, as it is
abbrev pub compound_type : TextSection → List ℕ
compound_type section =
    if is_array section then codes "ARRAY"
    else if is_record section then codes "RECORD" else property_text (codes "ObjectType") section

-- whether one of the sections is that of a sub-index of an object
abbrev pub is_sub_index : ℕ → SectionKind → Bool
is_sub_index index (SubIndex key) = key.index == index
is_sub_index index other = false

abbrev pub has_sub_index : ℕ → List TextSection → Bool
has_sub_index index sections = list_any (λ s. is_sub_index index s.kind) sections

-- whether an object's entries have sections of their own: it is an ARRAY or a RECORD. If ObjectType
-- is there and is no number, these sections say so; without it the object is a VAR (CiA 306)
abbrev pub is_compound : List TextSection → ℕ → Option ℕ → Bool
is_compound sections index (Some code) = code == 8 || code == 9
is_compound sections index None = has_sub_index index sections

abbrev pub has_sub_indices : List TextSection → ℕ → TextSection → Bool
has_sub_indices sections index section = is_compound sections index (object_code section)

-- whether the entry may be mapped into a PDO
abbrev pub is_mappable : TextSection → Bool
is_mappable section = is_other_than_zero (number_at (codes "PDOMapping") section)

unfoldable pub mappable_text : TextSection → List ℕ
mappable_text section = if is_mappable section then codes "PDO" else []

-- an entry: key, name, type, access, whether it may be mapped, its value, limits
abbrev pub entry_parts : List ℕ → Key → TextSection → List Part
entry_parts value key section =
    record { column = 0; text = key_text key }
    ∷ record { column = 8; text = property_text (codes "ParameterName") section }
    ∷ record { column = 38; text = type_text section }
    ∷ record { column = 53; text = property_text (codes "AccessType") section }
    ∷ record { column = 60; text = mappable_text section }
    ∷ record { column = 64; text = value }
    ∷ record { column = 87; text = limits_text section } ∷ []

-- the default beside the value of a device configuration file, and below it in a line of its own
unfoldable pub one_line : Format → Option ℕ → Key → TextSection → List ℕ
one_line format node key section = line_of format (entry_parts (default_text node section) key section)

unfoldable pub two_lines : Option ℕ → Key → TextSection → List ℕ
two_lines node key section =
    line_of Text (entry_parts (value_at node (codes "ParameterValue") section) key section)
    ++ line_of Text (record { column = 64; text = codes "default " ++ value_at node (codes "DefaultValue") section } ∷ [])

-- whether a line, with its end, has more than 100 columns
abbrev pub is_long : List ℕ → Bool
is_long line = nat_lt 101 (columns line)

-- in columns two lines, where there are both and one line is long
abbrev pub is_split : Format → TextSection → List ℕ → Bool
is_split Text section line = has_both section && is_long line
is_split Markdown section line = false

unfoldable pub entry_line : Format → Option ℕ → Key → TextSection → List ℕ
entry_line format node key section =
    if is_split format section (one_line format node key section) then two_lines node key section
    else one_line format node key section

-- an object with sub-indices: index, name, type
abbrev pub object_parts : ℕ → TextSection → List Part
object_parts index section =
    record { column = 0; text = digits_text 16 4 index }
    ∷ record { column = 8; text = property_text (codes "ParameterName") section }
    ∷ record { column = 38; text = compound_type section }
    ∷ record { column = 53; text = [] } ∷ record { column = 60; text = [] }
    ∷ record { column = 64; text = [] } ∷ record { column = 87; text = [] } ∷ []

unfoldable pub object_line : Format → ℕ → TextSection → List ℕ
object_line format index section = line_of format (object_parts index section)

-- the head of a table of entries
abbrev pub entries_head : Format → List ℕ
entries_head Text = codes "Entry   Name                          Type           Access PDO Default                Limits\n"
entries_head Markdown =
    codes "| Entry | Name | Type | Access | PDO | Default | Limits |\n| --- | --- | --- | --- | --- | --- | --- |\n"

-- the end of an index in a heading; a blank before a name
abbrev pub index_end : List ℕ → List ℕ
index_end name = if is_empty name then codes "h" else codes "h "

abbrev pub heading_with : ℕ → List ℕ → List ℕ
heading_with index name =
    codes "\n### " ++ digits_text 16 4 index ++ index_end name ++ flat_map cell_byte name

-- what comes before an object: in Markdown a heading, as `### 1018h Identity object`, and the head of
-- its table
unfoldable pub object_heading : Format → ℕ → TextSection → List ℕ
object_heading Text index section = []
object_heading Markdown index section =
    heading_with index (property_text (codes "ParameterName") section) ++ codes "\n\n" ++ entries_head Markdown

-- whether a sub-index comes first of its object, which then has no section
abbrev pub is_of_object : ℕ → SectionKind → Bool
is_of_object index (Object other) = other == index
is_of_object index other = is_sub_index index other

abbrev pub is_of_key : Key → SectionKind → Bool
is_of_key key (SubIndex other) = other.index == key.index && other.sub == key.sub
is_of_key key other = false

abbrev pub begins_object : Key → List TextSection → Bool
begins_object key [] = false
begins_object key (s ∷ sections) =
    if is_of_object key.index s.kind then is_of_key key s.kind else begins_object key sections

-- what comes before it: the heading of an object without a name
abbrev pub sub_heading : Format → Key → List TextSection → List ℕ
sub_heading Text key sections = []
sub_heading Markdown key sections =
    if begins_object key sections
    then heading_with key.index [] ++ codes "\n\n" ++ entries_head Markdown else []

-- an object with sub-indices, or else its entry
abbrev pub lines_of : Format → Option ℕ → List TextSection → ℕ → TextSection → List ℕ
lines_of format given sections index section =
    if has_sub_indices sections index section then object_line format index section
    else entry_line format given (record { index = index; sub = 0 }) section

-- the lines of a section, also the entry of a sub-index
abbrev pub described : Format → Option ℕ → List TextSection → TextSection → SectionKind → List ℕ
described format given sections section (Object index) =
    object_heading format index section ++ lines_of format given sections index section
described format given sections section (SubIndex key) =
    sub_heading format key sections ++ entry_line format given key section
described format given sections section other = []

abbrev pub section_text : Format → Option ℕ → List TextSection → TextSection → List ℕ
section_text format node sections section = described format node sections section section.kind
