-- The text of a UNICODE_STRING: UTF-16, the low byte of each unit first (CiA 301, 7.1.6).
use Rattle.std.specs.Prelude.{ℕ, ◌+◌, ◌-◌, ◌*◌, ◌%◌, ◌==◌, nat_le, nat_lt, Bool, ◌&&◌, ◌||◌, if◌then◌else◌, List, [], ◌∷◌, ◌++◌, codes, encode_utf8, length, slice_index}
use Rattle.co_text.specs.Printed.{byte_text, digits_text}
use Rattle.conode_text.specs.Unseen.{code_text, is_unseen}

-- a unit, of its two bytes
abbrev pub unit_of : ℕ → ℕ → ℕ
unit_of low high = low + 256 * high

-- the first and the second unit of a pair that is one character
abbrev pub is_first : ℕ → Bool
is_first unit = nat_le 0xD800 unit && nat_lt unit 0xDC00

abbrev pub is_second : ℕ → Bool
is_second unit = nat_le 0xDC00 unit && nat_lt unit 0xE000

abbrev pub is_within : ℕ → ℕ → ℕ → Bool
is_within low high unit = nat_le low unit && nat_le unit high

-- a control character, a no-break space (U+00A0), the quote and the backslash, and what can't be seen or turns
-- the text around; a unit of a pair alone is no character
abbrev pub is_escaped : ℕ → Bool
is_escaped unit =
    (nat_lt unit 0x20 || is_within 0x7F 0xA0 unit)
    || ((unit == 0x22 || unit == 0x5C) || (is_unseen unit || is_within 0xD800 0xDFFF unit))

-- a unit alone
unfoldable pub unit_text : ℕ → List ℕ
unit_text unit = if is_escaped unit then codes "\\u" ++ digits_text 16 4 unit else encode_utf8 unit

-- the number of the character that two units are
abbrev pub code_of_pair : ℕ → ℕ → ℕ
code_of_pair first second = 0x10000 + 0x400 * (first - 0xD800) + (second - 0xDC00)

-- two units that are one character
unfoldable pub pair_text : ℕ → ℕ → List ℕ
pair_text first second =
    if is_unseen (code_of_pair first second) then code_text (code_of_pair first second)
    else encode_utf8 (code_of_pair first second)

-- the characters; a byte that is left over is none of them
unfoldable pub characters_text : List ℕ → List ℕ
characters_text [] = []
characters_text (low ∷ []) = []
characters_text (low ∷ high ∷ []) = unit_text (unit_of low high)
characters_text (low ∷ high ∷ left ∷ []) = unit_text (unit_of low high)
characters_text (low ∷ high ∷ next ∷ after ∷ more) =
    if is_first (unit_of low high) && is_second (unit_of next after)
    then pair_text (unit_of low high) (unit_of next after) ++ characters_text more
    else unit_text (unit_of low high) ++ characters_text (next ∷ after ∷ more)

-- the last byte of an odd number of them
abbrev pub left_over : List ℕ → List ℕ
left_over bytes = if length bytes % 2 == 0 then [] else codes "\\x" ++ byte_text (slice_index bytes (length bytes - 1))

-- in double quotes
abbrev pub unicode_text : List ℕ → List ℕ
unicode_text bytes = 0x22 ∷ [] ++ characters_text bytes ++ left_over bytes ++ 0x22 ∷ []
