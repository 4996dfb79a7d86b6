-- The text of a number (CiA 301, 7.1.4.3 to 7.1.4.7).
use Rattle.std.specs.Prelude.{ℕ, ◌-◌, ◌*◌, ◌^◌, ◌==◌, nat_le, if◌then◌else◌, List, ◌++◌, length, codes, decimal}
use Rattle.co_value.specs.declared.data_type.DataType.{DataType}
use Rattle.co_value.specs.Types.{is_boolean, is_signed}
use Rattle.co_value.specs.Numbers.{unsigned_of}

-- in two's complement a number of so many bits whose top bit is set stands for itself less 2 ^ bits
abbrev pub signed_text : ℕ → ℕ → List ℕ
signed_text bits number =
    if nat_le (2 ^ (bits - 1)) number then codes "-" ++ decimal (2 ^ bits - number) else decimal number

-- a BOOLEAN; a byte that is neither 0 nor 1 is a number
abbrev pub boolean_text : ℕ → List ℕ
boolean_text number =
    if number == 0 then codes "false" else (if number == 1 then codes "true" else decimal number)

-- the bytes of a number of a type, the lowest first
unfoldable pub number_text : DataType → List ℕ → List ℕ
number_text t bytes =
    if is_boolean t then boolean_text (unsigned_of bytes)
    else (if is_signed t then signed_text (8 * length bytes) (unsigned_of bytes) else decimal (unsigned_of bytes))
