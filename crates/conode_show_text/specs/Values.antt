-- The values that a sheet states (CiA 306, object description, device configuration file).
use Rattle.std.specs.Prelude.{ℕ, ◌+◌, ◌^◌, ◌==◌, nat_lt, Bool, true, false, if◌then◌else◌, List, [], ◌∷◌, ◌++◌, ℤ, pos, negsuc, codes, Option, Some, None, is_some, option_map, option_and_then, unwrap_or, ◌&&◌, ◌||◌}
use Rattle.std.specs.Option.{option_map_or, option_or}
use Rattle.std.specs.Result.{result_ok}
use Rattle.std.specs.Fmt.{signed_decimal}
use Rattle.co_value.specs.declared.data_type.DataType.{DataType}
use Rattle.co_value.specs.declared.data_type.DataType.TheVariants.{Unsigned32}
use Rattle.co_value.specs.Types.{code_of, width_of}
use Rattle.co_sheet_text.specs.Sections.{TextSection, Property, property_at}
use Rattle.co_sheet_text.specs.Properties.{number_at}
use Rattle.co_sheet.specs.Entries.{data_type_with}
use Rattle.co_sheet.specs.Limits.{Default, absent, number, node_id, numeric_default, number_at_type, is_in_type}
use Rattle.conode_show_text.specs.declared.values.Word.{Word}
use Rattle.conode_show_text.specs.Numbers.{hex_text, number_text}
use Rattle.conode_show_text.specs.Texts.{plain_text}

-- ---- what an entry begins with

-- a numeric text as a value: a number, a sum with the node-ID, or neither
abbrev pub numeric_value : DataType → List ℕ → Default
numeric_value t value = unwrap_or (result_ok (numeric_default t value)) absent

-- a sum with the node-ID as it is written
abbrev pub addend_text : ℕ → List ℕ
addend_text addend = codes "$NODEID" ++ (if addend == 0 then [] else codes "+" ++ hex_text addend)

-- its value for a given node, where that is one of the type
abbrev pub sum_for : DataType → Option ℕ → ℕ → Option ℤ
sum_for t given addend =
    option_and_then (λ id. if is_in_type t (pos (addend + id)) then Some (pos (addend + id)) else None) given

-- a sum as it is written, and its value of so many bytes, if there is one, as other numbers are printed:
-- `$NODEID+600h = 1541 (605h)`
unfoldable pub sum_text : DataType → Option ℕ → ℕ → ℕ → List ℕ
sum_text t given width addend =
    addend_text addend
    ++ option_map_or (λ sum. codes " = " ++ number_text width sum) (sum_for t given addend) []

-- a numeric value of so many bytes; any other text is printed as it is
unfoldable pub known_text : DataType → Option ℕ → ℕ → List ℕ → Default → List ℕ
known_text t given width value (number z) = number_text width z
known_text t given width value (node_id addend) = sum_text t given width addend
known_text t given width value other = plain_text value

-- a string in double quotes
unfoldable pub quoted : List ℕ → List ℕ
quoted value = 34 ∷ plain_text value ++ 34 ∷ []

-- a value of a type that isn't numeric
unfoldable pub unnumbered_text : DataType → List ℕ → List ℕ
unnumbered_text t value = if code_of t == 0x09 then quoted value else plain_text value

-- the value of a text of this type
unfoldable pub value_text : Option ℕ → Option DataType → List ℕ → List ℕ
value_text given None value = plain_text value
value_text given (Some t) value =
    option_map_or (λ width. known_text t given width value (numeric_value t value)) (width_of t)
    (unnumbered_text t value)

-- a number, if it is one of the type
abbrev pub if_in_type : DataType → ℤ → Option ℤ
if_in_type t z = if is_in_type t z then Some z else None

-- the number of a value of the type; a sum with the node-ID needs the given node, and has to be one of the type
abbrev pub number_for : DataType → Option ℕ → Default → Option ℤ
number_for t given (number z) = if_in_type t z
number_for t given (node_id addend) = sum_for t given addend
number_for t given other = None

-- the number of a text, if its type is numeric
abbrev pub value_number : Option ℕ → Option DataType → List ℕ → Option ℤ
value_number given None value = None
value_number given (Some t) value =
    option_and_then (λ width. number_for t given (numeric_value t value)) (width_of t)

-- the data type of a section, if its code is a supported one
abbrev pub type_of : TextSection → Option DataType
type_of section = option_and_then data_type_with (number_at (codes "DataType") section)

-- the value of a property, nothing if there is none
unfoldable pub property_value : Option ℕ → Option DataType → Option Property → List ℕ
property_value node t property = option_map_or (λ k. value_text node t k.value) property []

-- the value at a name of a section, by the section's type
abbrev pub value_at : Option ℕ → List ℕ → TextSection → List ℕ
value_at node name section = property_value node (type_of section) (property_at name section)

-- whether a section has the value of a device configuration file, and a default too
abbrev pub has_both : TextSection → Bool
has_both section =
    is_some (property_at (codes "ParameterValue") section) && is_some (property_at (codes "DefaultValue") section)

-- the value of a device configuration file and then the default, or the one of them that is there
unfoldable pub default_text : Option ℕ → TextSection → List ℕ
default_text node section =
    value_at node (codes "ParameterValue") section ++ (if has_both section then codes ", default " else [])
    ++ value_at node (codes "DefaultValue") section

-- the number of a limit as this type reads it, if it is a number; the same, if it is one of the type
abbrev pub limit_number : Option DataType → List ℕ → Option ℤ
limit_number t value = option_and_then (λ t. result_ok (number_at_type t value)) t

abbrev pub limit_in_type : Option DataType → List ℕ → Option ℤ
limit_in_type t value =
    option_and_then (λ t. option_and_then (if_in_type t) (limit_number (Some t) value)) t

unfoldable pub limit_text : Option DataType → Option Property → List ℕ
limit_text t limit =
    option_map_or (λ k. option_map_or signed_decimal (limit_number t k.value) (plain_text k.value)) limit []

-- both limits, as `0..100`, empty if there is neither
unfoldable pub limits_text : TextSection → List ℕ
limits_text section =
    let low = property_at (codes "LowLimit") section in
    let high = property_at (codes "HighLimit") section in
    limit_text (type_of section) low ++ (if is_some low || is_some high then codes ".." else [])
    ++ limit_text (type_of section) high

-- ---- words of the communication profile

-- a number of the communication profile, of at most 32 bits
abbrev pub if_word : ℕ → Option ℕ
if_word n = if nat_lt n (2 ^ 32) then Some n else None

abbrev pub small_number : ℤ → Option ℕ
small_number (pos n) = if_word n
small_number (negsuc n) = None

abbrev pub word_from : Bool → Option ℕ → Option Word
word_from relative word = option_map (λ n. record { relative = relative; number = n }) word

abbrev pub word_with : Option ℕ → Default → Option Word
word_with given (number z) = word_from false (small_number z)
word_with None (node_id addend) = word_from true (if_word addend)
word_with (Some id) (node_id addend) = word_from false (if_word (addend + id))
word_with given other = None

-- a text as such a number; with a node-ID, a sum is added up
abbrev pub word_of : Option ℕ → List ℕ → Option Word
word_of node value = word_with node (numeric_value Unsigned32 value)

-- the property with the value that an entry begins with: ParameterValue, or else DefaultValue
abbrev pub value_of : TextSection → Option Property
value_of section = option_or (property_at (codes "ParameterValue") section) (property_at (codes "DefaultValue") section)
