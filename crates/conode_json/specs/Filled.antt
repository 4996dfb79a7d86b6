-- Markup with values in it.
use Rattle.std.specs.Prelude.{ℕ, ◌/◌, ◌%◌, ◌==◌, if◌then◌else◌, Bool, true, false, List, [], ◌∷◌, ◌++◌, drop, codes, decimal, Option, Some, None}
use Rattle.std.specs.Option.{option_copied, option_map}
use Rattle.co_text.specs.Printed.{digits_text}
use Rattle.co_value.specs.KeyTexts.{key_text}
use Rattle.conode_json.specs.declared.value.Value.{Value}
use Rattle.conode_json.specs.declared.value.Value.TheVariants.{Text, Name, AnyText, Words, Either, Number, Count, Seconds, Key, Code, AnyCode}
use Rattle.conode_json.specs.Escapes.{escaped}

-- microseconds, in seconds with six digits after the point
unfoldable pub seconds_text : ℕ → List ℕ
seconds_text micros = decimal (micros / 1000000) ++ codes "." ++ digits_text 10 6 (micros % 1000000)

-- a text between these words; nothing if there is none
abbrev pub any_text : List ℕ → Option (List ℕ) → List ℕ → List ℕ
any_text before None after = []
any_text before (Some text) after = before ++ text ++ after

-- the lowest 32 bits of a number in hexadecimal digits
unfoldable pub code_digits : ℕ → List ℕ
code_digits code = digits_text 16 8 (code % 0x100000000) ++ codes "h"

-- the same; these words for none
abbrev pub code_text : Option ℕ → List ℕ → List ℕ
code_text None none = none
code_text (Some code) none = code_digits code

abbrev pub value_text : Value → List ℕ
value_text (Text bytes) = escaped bytes.now
value_text (Name name) = escaped name.now
value_text (AnyText before bytes after) = any_text before.now (option_map escaped (option_copied bytes)) after.now
value_text (Words words) = words.now
value_text (Either is word other) = if is then word.now else other.now
value_text (Number number) = decimal number
value_text (Count count none) = if count == 0 then none.now else decimal count
value_text (Seconds micros) = seconds_text micros
value_text (Key key) = key_text key
value_text (Code code none) = code_text code none.now
value_text (AnyCode before code after) = any_text before.now (option_map code_digits code) after.now

-- ---- in markup

-- the first value; nothing if there is none
abbrev pub first_text : List Value → List ℕ
first_text [] = []
first_text (value ∷ others) = value_text value

-- what a byte gives: the text of the first value at a place, else itself
abbrev pub text_of_byte : Bool → ℕ → List Value → List ℕ
text_of_byte true byte values = first_text values
text_of_byte false byte values = byte ∷ []

-- the values for the places after it
abbrev pub values_left : Bool → List Value → List Value
values_left true values = drop 1 values
values_left false values = values

-- markup with these values in its places, one after another: each percent sign is a place
abbrev pub filled : List ℕ → List Value → List ℕ
filled [] values = []
filled (byte ∷ rest) values =
    text_of_byte (byte == 37) byte values ++ filled rest (values_left (byte == 37) values)
