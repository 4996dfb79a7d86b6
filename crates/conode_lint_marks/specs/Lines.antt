-- The lines of a text.
use Rattle.std.specs.Prelude.{ℕ, ◌==◌, ◌-◌, Bool, ◌&&◌, nat_le, nat_lt, if◌then◌else◌, List, [], length, take, get_or}

-- a line by its number, from 1; empty if there is no such line
unfoldable pub whole_line : List (List ℕ) → ℕ → List ℕ
whole_line lines number = if number == 0 then [] else get_or lines (number - 1) []

-- a byte of a character in UTF-8 after its first
abbrev pub is_within_character : ℕ → Bool
is_within_character byte = nat_le 128 byte && nat_lt byte 192

-- how many bytes of a longer line are shown: 512, or fewer where the next byte is within a character,
-- which has at most four
abbrev pub place_of_cut : List ℕ → ℕ
place_of_cut line =
    if is_within_character (get_or line 512 0)
    then (if is_within_character (get_or line 511 0)
    then (if is_within_character (get_or line 510 0) then 509 else 510) else 511)
    else 512

-- at most the first 512 bytes of a line, and no part of a character
abbrev pub first_bytes : List ℕ → List ℕ
first_bytes line = if nat_le (length line) 512 then line else take (place_of_cut line) line

-- a line as it is shown
unfoldable pub line_at : List (List ℕ) → ℕ → List ℕ
line_at lines number = first_bytes (whole_line lines number)
