-- Numbers for people.
use Rattle.std.specs.Prelude.{ℕ, ◌-◌, ◌/◌, ◌%◌, ◌==◌, nat_lt, Bool, not, ◌&&◌, if◌then◌else◌, List, [], ◌++◌, codes, decimal}
use Rattle.co_text.specs.Printed.{digits_text}

-- the last three digits
abbrev pub three_digits : ℕ → List ℕ
three_digits number = digits_text 10 3 number

-- in hexadecimal digits
abbrev pub hexadecimal : ℕ → ℕ → List ℕ
hexadecimal width number = digits_text 16 width number

-- commas between groups of three digits, up to a number of millions, of thousands, and of any
unfoldable pub millions : ℕ → List ℕ
millions number = if nat_lt number 1000 then decimal number else decimal (number / 1000) ++ codes "," ++ three_digits (number % 1000)

unfoldable pub thousands : ℕ → List ℕ
thousands number = if nat_lt number 1000 then decimal number else millions (number / 1000) ++ codes "," ++ three_digits (number % 1000)

-- a number with commas between its digits; a thousand millions and more have none before them
unfoldable pub grouped : ℕ → List ℕ
grouped number = if nat_lt number 1000 then decimal number else thousands (number / 1000) ++ codes "," ++ three_digits (number % 1000)

-- what comes after a thing of which there are so many
abbrev pub plural : ℕ → List ℕ
plural number = if number == 1 then [] else codes "s"

-- the time between two stamps isn't known where the later one is before the other, and where both are 0, as
-- in a recording without stamps
abbrev pub is_time : ℕ → ℕ → Bool
is_time from to = not (nat_lt to from) && not ((from == 0) && (to == 0))

-- the time from one stamp in microseconds to another, in seconds
unfoldable pub known_seconds : ℕ → ℕ → List ℕ
known_seconds from to =
    decimal ((to - from) / 1000 / 1000) ++ codes "." ++ three_digits ((to - from) / 1000 % 1000) ++ codes " s"

abbrev pub seconds_text : ℕ → ℕ → List ℕ
seconds_text from to = if is_time from to then known_seconds from to else codes "? s"
