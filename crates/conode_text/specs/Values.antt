-- The texts of values.
use Rattle.std.specs.Prelude.{ℕ, List, decimal}
use Rattle.co_text.specs.Printed.{digits_text}
use Rattle.co_value.specs.KeyTexts.{key_text}
use Rattle.conode_text.specs.declared.value.Value.{Value}
use Rattle.conode_text.specs.declared.value.Value.TheVariants.{Words, Number, Byte, Short, Long, Key}

abbrev pub value_text : Value → List ℕ
value_text (Words words) = words.now
value_text (Number number) = decimal number
value_text (Byte byte) = digits_text 16 2 byte
value_text (Short number) = digits_text 16 4 number
value_text (Long number) = digits_text 16 8 number
value_text (Key key) = key_text key
