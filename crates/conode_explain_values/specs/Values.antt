-- The text of a value, by its data type and its bits, the lowest first, in as few bytes as they
-- need (CiA 301, 7.1.4, 7.4.7.1).
use Rattle.std.specs.Prelude.{ℕ, ◌+◌, ◌*◌, ◌≤◌, ◌<◌, ◌==◌, false, if◌then◌else◌, List, [], ◌++◌, length, codes, decimal, Option, unwrap_or}
use Rattle.std.specs.Option.{option_map_or}
use Rattle.co_value.specs.declared.key.Key.{Key}
use Rattle.co_value.specs.KeyTexts.{key_text}
use Rattle.co_value.specs.declared.data_type.DataType.{DataType}
use Rattle.std.specs.Float.Ieee.{Format, binary32, binary64}
use Rattle.co_value.specs.Numbers.{unsigned_of}
use Rattle.co_value.specs.Types.{code_of, width_of}
use Rattle.conode_explain_values.specs.declared.value_type.ValueType.{ValueType}
use Rattle.conode_explain_values.specs.declared.value_type.ValueType.TheVariants.{Plain, Real32, Real64, UnicodeString, TimeOfDay, TimeDifference}
use Rattle.conode_explain_values.specs.Bytes.{raw_text, visible_text}
use Rattle.conode_explain_values.specs.Numbers.{number_text}
use Rattle.conode_explain_values.specs.Reals.{real_text}
use Rattle.conode_explain_values.specs.Times.{difference_text, moment_text}
use Rattle.conode_explain_values.specs.Types.{type_bits, is_whole}
use Rattle.conode_explain_values.specs.Unicode.{unicode_text}

-- so many bytes have room for the bits, and none of them is left over
abbrev pub HasBits : ℕ → List ℕ → Type 0
HasBits bits bytes = (bits ≤ 8 * length bytes) × (8 * length bytes < bits + 8)

-- ---- whole values

-- bytes of a type without a width: VISIBLE_STRING, or raw
abbrev pub bytes_text : DataType → List ℕ → List ℕ
bytes_text t bytes = if code_of t == 0x09 then visible_text bytes else raw_text bytes

-- a number has as many bytes as its type
abbrev pub plain_text : DataType → List ℕ → List ℕ
plain_text t bytes =
    if option_map_or (λ width. length bytes == width) (width_of t) false then number_text t bytes else bytes_text t bytes

-- the digits of a REAL; raw where none are found that are read as the same bits
abbrev pub real_or_raw : Format → List ℕ → List ℕ
real_or_raw f bytes = unwrap_or (real_text f (unsigned_of bytes)) (raw_text bytes)

-- the text of a value
abbrev pub whole_text : ValueType → List ℕ → List ℕ
whole_text (Plain t) bytes = plain_text t bytes
whole_text Real32 bytes = real_or_raw binary32 bytes
whole_text Real64 bytes = real_or_raw binary64 bytes
whole_text UnicodeString bytes = unicode_text bytes
whole_text TimeOfDay bytes = moment_text bytes
whole_text TimeDifference bytes = difference_text bytes

-- ---- any bits

-- how many bits there are of those that the type has; a type without a width has whole bytes
abbrev pub count_text : Option ℕ → ℕ → List ℕ
count_text size bits =
    codes " (" ++ decimal bits ++ option_map_or (λ all. codes " of " ++ decimal all) size (codes "") ++ codes " bits)"

-- bits of another number than the type has are raw
unfoldable pub value_text : ValueType → ℕ → List ℕ → List ℕ
value_text t bits bytes =
    if is_whole t bits then whole_text t bytes else raw_text bytes ++ count_text (type_bits t) bits

-- ---- entries

-- the name of an entry, if it has one, and its key
abbrev pub named_key : Option (List ℕ) → Key → List ℕ
named_key name key = option_map_or (λ letters. letters ++ codes " ") name [] ++ key_text key

-- an entry with its value
unfoldable pub entry_text : Option (List ℕ) → Key → ValueType → ℕ → List ℕ → List ℕ
entry_text name key t bits bytes = named_key name key ++ codes " = " ++ value_text t bits bytes
