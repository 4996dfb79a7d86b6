-- What a frame says, as it is shown.
use Rattle.std.specs.Prelude.{ℕ, ◌+◌, ◌-◌, ◌*◌, ◌%◌, ◌==◌, nat_le, nat_lt, Bool, true, not, ◌&&◌, ◌||◌, if◌then◌else◌, List, [], ◌∷◌, ◌++◌, get_or, codes, Option, Some, None, is_none}
use Rattle.co_text.specs.Printed.{byte_text}
use Rattle.conode_text.specs.Unseen.{code_text, is_unseen}

-- a control character of one byte
abbrev pub is_control : ℕ → Bool
is_control byte = nat_lt byte 0x20 || (byte == 0x7F)

-- a byte of what is said: a control character is a backslash, an x and two digits, so that a line
-- stays one
abbrev pub shown_byte : ℕ → List ℕ
shown_byte byte = if is_control byte then codes "\\x" ++ byte_text byte else byte ∷ []

abbrev pub is_within : ℕ → ℕ → ℕ → Bool
is_within low high byte = nat_le low byte && nat_le byte high

-- a character that is shown by its number: a control character above U+007F, which a terminal may obey,
-- a no-break space, and what can't be seen or turns the text around
abbrev pub is_numbered : ℕ → Bool
is_numbered code = is_within 0x80 0xA0 code || is_unseen code

-- the number of a character of two, three or four bytes in UTF-8: the lowest 5, 4 or 3 bits of the first
-- byte, and 6 of each other
abbrev pub code_of_two : ℕ → ℕ → ℕ
code_of_two first second = 0x40 * (first % 0x20) + second % 0x40

abbrev pub code_of_three : ℕ → ℕ → ℕ → ℕ
code_of_three first second third = 0x1000 * (first % 0x10) + 0x40 * (second % 0x40) + third % 0x40

abbrev pub code_of_four : ℕ → ℕ → ℕ → ℕ → ℕ
code_of_four first second third fourth =
    0x40000 * (first % 8) + 0x1000 * (second % 0x40) + 0x40 * (third % 0x40) + fourth % 0x40

-- a byte of a character after the first
abbrev pub is_next : ℕ → Bool
is_next byte = is_within 0x80 0xBF byte

-- the two, three or four bytes of a character that is shown by its number; a character is in as few bytes as
-- it needs, so three are one from U+0800 on and four from U+10000 on
abbrev pub is_two : ℕ → ℕ → Bool
is_two first second = is_within 0xC0 0xDF first && is_next second && is_numbered (code_of_two first second)

abbrev pub is_three : ℕ → ℕ → ℕ → Bool
is_three first second third =
    is_within 0xE0 0xEF first && is_next second && is_next third
    && nat_le 0x800 (code_of_three first second third) && is_numbered (code_of_three first second third)

abbrev pub is_four : ℕ → ℕ → ℕ → ℕ → Bool
is_four first second third fourth =
    is_within 0xF0 0xF7 first && is_next second && is_next third && is_next fourth
    && nat_le 0x10000 (code_of_four first second third fourth) && is_numbered (code_of_four first second third fourth)

-- the number of the character that begins with a byte, and how many bytes of it come after that, where it
-- is shown by its number; past the end there is no byte of a character, as 0 is none after the first
abbrev pub numbered : ℕ → List ℕ → Option (ℕ × ℕ)
numbered first rest =
    let second = get_or rest 0 0 in
    let third = get_or rest 1 0 in
    let fourth = get_or rest 2 0 in
    if is_two first second then Some (code_of_two first second, 1)
    else if is_three first second third then Some (code_of_three first second third, 2)
    else if is_four first second third fourth then Some (code_of_four first second third fourth, 3) else None

-- what the byte gives, and how many bytes are passed over after it
abbrev pub first_shown : ℕ → Option (ℕ × ℕ) → List ℕ
first_shown byte (Some n) = code_text n.0
first_shown byte None = shown_byte byte

abbrev pub passed_over : Option (ℕ × ℕ) → ℕ
passed_over (Some n) = n.1
passed_over None = 0

-- all of it after so many bytes: these characters by their numbers, every other byte as it is
abbrev pub shown_after : ℕ → List ℕ → List ℕ
shown_after skip [] = []
shown_after skip (byte ∷ rest) =
    if nat_lt 0 skip then shown_after (skip - 1) rest
    else first_shown byte (numbered byte rest) ++ shown_after (passed_over (numbered byte rest)) rest

abbrev pub shown : List ℕ → List ℕ
shown said = shown_after 0 said

-- a byte that stays as it is before the rest
abbrev pub stays : ℕ → List ℕ → Bool
stays byte rest = not (is_control byte) && is_none (numbered byte rest)

abbrev pub all_stay : List ℕ → Bool
all_stay [] = true
all_stay (byte ∷ rest) = stays byte rest && all_stay rest

-- a byte that stays as it is, whatever follows: no control character, and none with which a character
-- with a number begins
abbrev pub is_plain : ℕ → Bool
is_plain byte =
    not (is_control byte)
    && not ((byte == 0xC2) || (byte == 0xCD) || (byte == 0xD8) || is_within 0xE1 0xE3 byte || nat_le 0xEF byte)
