-- The type, the limits and the values of the entry that a section describes (CiA 306, object
-- description).
use Rattle.std.specs.Prelude.{ℕ, ◌+◌, ◌*◌, ◌^◌, ℤ, pos, int_lt, Bool, true, false, ◌&&◌, ◌||◌, not, ◌==◌, if◌then◌else◌, List, [], ◌∷◌, codes, Option, Some, None, option_and_then}
use Rattle.std.specs.Option.{option_map_or}
use Rattle.std.specs.Result.{result_ok}
use Rattle.co_value.specs.declared.data_type.DataType.{DataType}
use Rattle.co_value.specs.Types.{width_of, is_signed}
use Rattle.co_sheet_text.specs.Numerals.{unsigned_number}
use Rattle.co_sheet_text.specs.Text.{same_name}
use Rattle.co_sheet.specs.Entries.{data_type_with}
use Rattle.co_sheet.specs.Limits.{number_at_type}
use Rattle.co_sheet.specs.ObjectLists.{is_one_of}
use Rattle.co_sheet_changes.specs.Groups.{Group, value_in, number_in_group}

abbrev pub is_low : List ℕ → Bool
is_low name = same_name name (codes "LowLimit")

abbrev pub is_limit : List ℕ → Bool
is_limit name = is_low name || same_name name (codes "HighLimit")

abbrev pub is_preset : List ℕ → Bool
is_preset name = same_name name (codes "DefaultValue") || same_name name (codes "ParameterValue")

-- the data type, where it is supported
abbrev pub data_type_of : Group → Option DataType
data_type_of g = option_and_then data_type_with (number_in_group (codes "DataType") g)

-- the bytes of a type in two's complement
abbrev pub signed_width : DataType → Option ℕ
signed_width t = if is_signed t then width_of t else None

-- a number is 0
abbrev pub is_zero : List ℕ → Bool
is_zero value = is_one_of (0 ∷ []) (result_ok (unsigned_number value))

-- a value is a number of 0 or more at its type
abbrev pub is_not_below_zero : ℤ → Bool
is_not_below_zero z = not (int_lt z (pos 0))

abbrev pub is_from_zero : DataType → List ℕ → Bool
is_from_zero t value = option_map_or is_not_below_zero (result_ok (number_at_type t value)) false

abbrev pub has_from_zero : DataType → Group → List ℕ → Bool
has_from_zero t g name = option_map_or (is_from_zero t) (value_in name g.body) false

-- Without a LowLimit, HighLimit isn't meant as -1: it is written in decimal, so that the signed type
-- doesn't have it, or the entry begins with 0 or more.
abbrev pub lacks_negative : DataType → Group → Bool
lacks_negative t g =
    has_from_zero t g (codes "HighLimit")
    || (has_from_zero t g (codes "DefaultValue") || has_from_zero t g (codes "ParameterValue"))

-- LowLimit is 0, or there is none, and no negative number is meant
abbrev pub starts_at_zero : DataType → Group → Bool
starts_at_zero t g =
    option_map_or is_zero (value_in (codes "LowLimit") g.body) (lacks_negative t g)

-- the greatest number of the unsigned type of as many bytes as a signed one has
abbrev pub is_greatest_at : Option ℕ → Option ℕ → Bool
is_greatest_at (Some width) (Some high) = high + 1 == 2 ^ (8 * width)
is_greatest_at width high = false

-- two limits are those of this unsigned type
abbrev pub is_whole_unsigned : DataType → Group → Bool
is_whole_unsigned t g =
    is_greatest_at (signed_width t) (number_in_group (codes "HighLimit") g) && starts_at_zero t g

-- the limits of a signed number are those of the unsigned type
abbrev pub has_unsigned_limits : Group → Bool
has_unsigned_limits g = option_map_or (λ t. is_whole_unsigned t g) (data_type_of g) false
