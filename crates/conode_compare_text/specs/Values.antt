-- The texts of values, and lines.
use Rattle.std.specs.Prelude.{ℕ, ◌/◌, ◌%◌, ◌==◌, nat_lt, if◌then◌else◌, List, [], ◌∷◌, ◌++◌, codes, decimal}
use Rattle.std.specs.Fmt.{signed_decimal}
use Rattle.co_text.specs.Printed.{digits_text}
use Rattle.co_value.specs.KeyTexts.{key_text}
use Rattle.co_value.specs.Numbers.{low_bytes}
use Rattle.conode_explain_values.specs.declared.value_type.ValueType.{ValueType}
use Rattle.conode_explain_values.specs.declared.value_type.ValueType.TheVariants.{Real32}
use Rattle.conode_explain_values.specs.Values.{value_text}
use Rattle.conode_text.specs.Filled.{filled}
use Rattle.conode_compare_text.specs.declared.details.Came.{Came}
use Rattle.conode_compare_text.specs.declared.value.Said.{Said}
use Rattle.conode_compare_text.specs.declared.value.Said.TheVariants.{Alone, One, Two, Three}
use Rattle.conode_compare_text.specs.declared.value.Value.{Value}
use Rattle.conode_compare_text.specs.declared.value.Value.TheVariants.{Words, Number, Signed, Millis, Bytes, Byte, Short, Long, Hexadecimal, Key, Shown, Answer}

-- microseconds, in ms with three digits after the point
unfoldable pub millis_text : ℕ → List ℕ
millis_text micros = decimal (micros / 1000) ++ codes "." ++ digits_text 10 3 (micros % 1000) ++ codes " ms"

-- the low 32 bits of a number in eight hexadecimal digits
unfoldable pub eight_digits : ℕ → List ℕ
eight_digits number = digits_text 16 4 (number / 0x10000 % 0x10000) ++ digits_text 16 4 (number % 0x10000)

-- the digits of the bits above these, where one is set
abbrev pub high_digits : ℕ → List ℕ
high_digits number = if nat_lt number 0x100000000 then [] else eight_digits (number / 0x100000000)

-- a number in eight hexadecimal digits, or in sixteen
unfoldable pub hexadecimal : ℕ → List ℕ
hexadecimal number = high_digits number ++ eight_digits number ++ codes "h"

-- a value of up to eight bytes: in hexadecimal digits; a REAL32, in a sheet that was adapted, as
-- `explain` shows it
unfoldable pub shown_value : ValueType → ℕ → List ℕ
shown_value Real32 number = value_text Real32 32 (low_bytes 4 (number % 0x100000000))
shown_value t number = hexadecimal number

-- a number of bytes
unfoldable pub bytes_text : ℕ → List ℕ
bytes_text number = decimal number ++ (if number == 1 then codes " byte" else codes " bytes")

-- an answer: the first of its eight bytes, which has its command specifier; with another number of bytes
-- that number
unfoldable pub came_text : Came → List ℕ
came_text came = if came.length == 8 then digits_text 16 2 came.command ++ codes "h" else codes "of " ++ bytes_text came.length

abbrev pub printed : Value → List ℕ
printed (Words words) = words.now
printed (Number number) = decimal number
printed (Signed number) = signed_decimal number
printed (Millis micros) = millis_text micros
printed (Bytes number) = bytes_text number
printed (Byte byte) = digits_text 16 2 byte
printed (Short number) = digits_text 16 4 number
printed (Long number) = digits_text 16 8 number
printed (Hexadecimal number) = hexadecimal number
printed (Key key) = key_text key
printed (Shown t number) = shown_value t number
printed (Answer came) = came_text came

-- words with values in their places
abbrev pub said_text : Said → List ℕ
said_text (Alone words) = words.now
said_text (One words first) = filled words.now (printed first ∷ [])
said_text (Two words first second) = filled words.now (printed first ∷ printed second ∷ [])
said_text (Three words first second third) =
    filled words.now (printed first ∷ printed second ∷ printed third ∷ [])

-- `recording.log:123: `
unfoldable pub line_front : List ℕ → ℕ → List ℕ
line_front recording line = recording ++ filled (codes ":%: ") (decimal line ∷ [])

-- `recording.log:123: heartbeat-late: ..`, of what is said
abbrev pub line_text : List ℕ → ℕ → List ℕ → List ℕ
line_text recording line said = line_front recording line ++ said ++ 10 ∷ []
