-- The data types of values, and how many bits they have (CiA 301, 7.4.7.1).
use Rattle.std.specs.Prelude.{ℕ, ◌*◌, ◌%◌, ◌==◌, Bool, false, ◌&&◌, ◌||◌, if◌then◌else◌, List, codes, Option, Some, None, option_map, option_and_then, unwrap_or}
use Rattle.std.specs.Option.{option_map_or}
use Rattle.std.specs.Str.{bytes_eq}
use Rattle.co_value.specs.declared.data_type.DataType.{DataType}
use Rattle.co_value.specs.Types.{width_of, is_boolean}
use Rattle.conode_explain_values.specs.declared.value_type.ValueType.{ValueType}
use Rattle.conode_explain_values.specs.declared.value_type.ValueType.TheVariants.{Plain, Real32, Real64, UnicodeString, TimeOfDay, TimeDifference}

-- how many bits a value has; a string or a domain may have any number of bytes
abbrev pub type_bits : ValueType → Option ℕ
type_bits (Plain t) = option_map (λ width. 8 * width) (width_of t)
type_bits Real32 = Some 32
type_bits Real64 = Some 64
type_bits UnicodeString = None
type_bits TimeOfDay = Some 48
type_bits TimeDifference = Some 48

abbrev pub is_boolean_type : ValueType → Bool
is_boolean_type (Plain t) = is_boolean t
is_boolean_type other = false

-- so many bits are a whole value: as many as the type has, or one of BOOLEAN; whole bytes of a
-- string or a domain
abbrev pub is_whole : ValueType → ℕ → Bool
is_whole t bits = option_map_or (λ size. bits == size || (bits == 1 && is_boolean_type t)) (type_bits t) (bits % 8 == 0)

-- the type that a code says, as a sheet that was adapted has it in OriginalDataType: REAL32,
-- UNICODE_STRING, TIME_OF_DAY, TIME_DIFFERENCE, REAL64
abbrev pub original_type : List ℕ → Option ValueType
original_type code =
    if bytes_eq code (codes "0x0008") then Some Real32
    else (if bytes_eq code (codes "0x000B") then Some UnicodeString
    else (if bytes_eq code (codes "0x000C") then Some TimeOfDay
    else (if bytes_eq code (codes "0x000D") then Some TimeDifference
    else (if bytes_eq code (codes "0x0011") then Some Real64
    else None))))

-- the type of an entry's values: by the code of its original type, if it has one of these, else
-- that of the sheet
abbrev pub type_of : Option (List ℕ) → DataType → ValueType
type_of code t = unwrap_or (option_and_then original_type code) (Plain t)
