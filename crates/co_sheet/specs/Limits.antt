-- The limits of an entry and the value that it begins with (CiA 306, object description, device
-- configuration file).
use Rattle.std.specs.Prelude.{ℕ, ◌%◌, Bool, true, ◌&&◌, ◌==◌, if◌then◌else◌, ℤ, int_le, List, length, codes, Option, Some, None, is_some, option_and_then, unwrap_or, Result, Ok, Err}
use Rattle.std.specs.List.{list_any, list_all, before_first, after_first}
use Rattle.std.specs.Option.{option_map_or, option_or}
use Rattle.std.specs.Result.{result_ok}
use Rattle.co_sheet_text.specs.Names.{is_hexadecimal_digit}
use Rattle.co_value.specs.declared.data_type.DataType.{DataType}
use Rattle.co_value.specs.declared.data_type.DataType.TheVariants.{VisibleString, OctetString}
use Rattle.co_value.specs.Types.{width_of, least_of, greatest_of}
use Rattle.co_sheet_text.specs.declared.numeral.NumeralFault.{NumeralFault}
use Rattle.co_sheet_text.specs.declared.numeral.NumeralFault.TheVariants.{Malformed}
use Rattle.co_sheet_text.specs.Text.{trim, same_name}
use Rattle.co_sheet_text.specs.Sections.{Property, property_at}
use Rattle.co_sheet_text.specs.Numerals.{result_map, signed_numeral, unsigned_number, value_at}
use Rattle.co_sheet.specs.Entries.{Entry}

-- A default, without where its bytes lie in memory: none; a number; the node-ID plus a number;
-- bytes; pairs of hexadecimal digits.
pub data Default : Type 0 where
  absent : Default
  number : ℤ → Default
  node_id : ℕ → Default
  text : List ℕ → Default
  pairs : List ℕ → Default

-- a number, perhaps negative, as a type reads it
abbrev pub number_at_type : DataType → List ℕ → Result ℤ NumeralFault
number_at_type t value = result_map (value_at t) (signed_numeral value)

-- `$NODEID`, in either case
abbrev pub is_node_id : List ℕ → Bool
is_node_id value = same_name value (codes "$NODEID")

-- `+`, between the two parts of a sum
abbrev pub is_plus : ℕ → Bool
is_plus b = b == 43

-- `$NODEID` and a number, on either side of `+`
abbrev pub node_id_sum : List ℕ → List ℕ → Result Default NumeralFault
node_id_sum left right =
    if is_node_id left then result_map node_id (unsigned_number right)
    else if is_node_id right then result_map node_id (unsigned_number left)
    else Err Malformed

-- the default of a numeric type: `$NODEID`, a sum with it, or a number
abbrev pub numeric_default : DataType → List ℕ → Result Default NumeralFault
numeric_default t value =
    if is_node_id value then Ok (node_id 0)
    else if list_any is_plus value
    then node_id_sum (trim (before_first is_plus value)) (trim (after_first is_plus value))
    else result_map number (number_at_type t value)

-- pairs of hexadecimal digits, without blanks
abbrev pub is_pairs : List ℕ → Bool
is_pairs value = (length value % 2 == 0) && list_all is_hexadecimal_digit value

-- whether the values of a type are numbers
abbrev pub is_numeric : DataType → Bool
is_numeric t = is_some (width_of t)

-- the limit that an entry states at a key; those of strings and domains are passed over
abbrev pub limit_at : List ℕ → DataType → Entry → Option ℤ
limit_at name t e =
    if is_numeric t
    then option_and_then (λ k. result_ok (number_at_type t k.value)) (property_at name e.section)
    else None

-- LowLimit, and HighLimit
abbrev pub low_limit : DataType → Entry → Option ℤ
low_limit t e = limit_at (codes "LowLimit") t e

abbrev pub high_limit : DataType → Entry → Option ℤ
high_limit t e = limit_at (codes "HighLimit") t e

-- two numbers, where both are there, are in order
abbrev pub at_most : Option ℤ → Option ℤ → Bool
at_most (Some x) (Some y) = int_le x y
at_most x y = true

-- a number is one of a numeric type; and is within the entry's limits too
abbrev pub is_in_type : DataType → ℤ → Bool
is_in_type t value = at_most (least_of t) (Some value) && at_most (Some value) (greatest_of t)

abbrev pub is_in_limits : DataType → Entry → ℤ → Bool
is_in_limits t e value =
    is_in_type t value && at_most (low_limit t e) (Some value)
    && at_most (Some value) (high_limit t e)

-- the default that a value states; a DOMAIN's is passed over
abbrev pub default_with : DataType → List ℕ → Option Default
default_with VisibleString value = Some (text value)
default_with OctetString value = Some (pairs value)
default_with t value = if is_numeric t then result_ok (numeric_default t value) else None

-- the default that a property states at a type, absent where it is passed over
abbrev pub stated_default : DataType → Property → Default
stated_default t k = unwrap_or (default_with t k.value) absent

-- what states the value that an entry begins with: ParameterValue, or where it is absent
-- DefaultValue
abbrev pub value_property : Entry → Option Property
value_property e =
    option_or (property_at (codes "ParameterValue") e.section)
    (property_at (codes "DefaultValue") e.section)

-- the default of an entry: the value that it begins with, absent where it states none
abbrev pub default_of : DataType → Entry → Default
default_of t e = option_map_or (stated_default t) (value_property e) absent
