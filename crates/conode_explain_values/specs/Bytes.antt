-- The text of bytes: raw, or as a VISIBLE_STRING (CiA 301, 7.1.6).
use Rattle.std.specs.Prelude.{ℕ, Bool, ◌==◌, nat_le, not, ◌&&◌, ◌||◌, if◌then◌else◌, List, [], ◌∷◌, ◌++◌, codes}
use Rattle.std.specs.List.{flat_map}
use Rattle.co_text.specs.Printed.{byte_text}

-- bytes in the order of the frame, two hexadecimal digits each; a hyphen for none
abbrev pub raw_text : List ℕ → List ℕ
raw_text [] = codes "-"
raw_text (byte ∷ bytes) = flat_map byte_text (byte ∷ bytes)

-- a character that stands for itself: ASCII that can be printed, but for the quote and the
-- backslash
abbrev pub is_itself : ℕ → Bool
is_itself byte = (nat_le 0x20 byte && nat_le byte 0x7E) && not (byte == 0x22 || byte == 0x5C)

-- every other byte is a backslash, an x and two digits
abbrev pub visible_byte : ℕ → List ℕ
visible_byte byte = if is_itself byte then byte ∷ [] else codes "\\x" ++ byte_text byte

-- a VISIBLE_STRING in double quotes
abbrev pub visible_text : List ℕ → List ℕ
visible_text bytes = 0x22 ∷ [] ++ flat_map visible_byte bytes ++ 0x22 ∷ []
