-- Characters that can't be seen.
use Rattle.std.specs.Prelude.{ℕ, ◌==◌, ◌&&◌, ◌||◌, nat_le, nat_lt, Bool, if◌then◌else◌, List, ◌++◌, codes}
use Rattle.co_text.specs.Printed.{digits_text}

abbrev pub is_within : ℕ → ℕ → ℕ → Bool
is_within low high n = nat_le low n && nat_le n high

-- a soft hyphen, a joiner, the Arabic letter mark, fillers, a blank, vowels of Khmer, selectors of Mongolian
abbrev pub is_low_unseen : ℕ → Bool
is_low_unseen code =
    code == 0xAD || code == 0x34F || code == 0x61C || is_within 0x115F 0x1160 code
    || code == 0x1680 || is_within 0x17B4 0x17B5 code || is_within 0x180B 0x180F code

-- blanks and joiners, ends of lines and what turns the text around, a wide blank, a filler, selectors of a
-- form, the byte order mark, a filler, and the marks of an annotation between lines
abbrev pub is_middle_unseen : ℕ → Bool
is_middle_unseen code =
    is_within 0x2000 0x200F code || is_within 0x2028 0x202F code || is_within 0x205F 0x206F code
    || code == 0x3000 || code == 0x3164 || is_within 0xFE00 0xFE0F code || code == 0xFEFF
    || code == 0xFFA0 || is_within 0xFFF0 0xFFFB code

-- marks of shorthand and of music, tags and more selectors
abbrev pub is_high_unseen : ℕ → Bool
is_high_unseen code =
    is_within 0x1BCA0 0x1BCA3 code || is_within 0x1D173 0x1D17A code || is_within 0xE0000 0xE0FFF code

-- above U+00A0 what has Unicode's property White_Space or Default_Ignorable_Code_Point (all of
-- Bidi_Control, which turns the text around, has the latter), and U+FFF9 to U+FFFB
abbrev pub is_unseen : ℕ → Bool
is_unseen code = is_low_unseen code || is_middle_unseen code || is_high_unseen code

-- a character by its number, in as few of two, four and eight digits as have room for it
unfoldable pub code_text : ℕ → List ℕ
code_text code =
    if nat_lt code 0x100 then codes "\\x" ++ digits_text 16 2 code
    else if nat_lt code 0x10000 then codes "\\u" ++ digits_text 16 4 code
    else codes "\\U" ++ digits_text 16 8 code
