-- The text of TIME_OF_DAY and TIME_DIFFERENCE: 28 bits of ms, 4 bits that don't count, 16 bits of
-- days (CiA 301, 7.1.6).
use Rattle.std.specs.Prelude.{ℕ, ◌+◌, ◌/◌, ◌%◌, ◌^◌, nat_lt, Bool, if◌then◌else◌, List, [], ◌++◌, take, drop, codes, decimal}
use Rattle.co_text.specs.Printed.{digits_text}
use Rattle.co_value.specs.Numbers.{unsigned_of}
use Rattle.conode_explain_text.specs.Dates.{date_of}
use Rattle.conode_explain_text.specs.Stamps.{date_text, time_of_day_text}

abbrev pub ms_in : List ℕ → ℕ
ms_in bytes = unsigned_of (take 4 bytes) % 2 ^ 28

abbrev pub days_in : List ℕ → ℕ
days_in bytes = unsigned_of (drop 4 bytes)

-- 1 January 1984, counted in days from 1 January 1970
abbrev pub first_day : ℕ
first_day = 5113

-- ms as hours, minutes, seconds and ms
unfoldable pub ms_text : ℕ → List ℕ
ms_text ms = time_of_day_text (ms / 1000) ++ codes "." ++ digits_text 10 3 (ms % 1000)

-- a day has 86,400,000 ms; 28 bits have more
abbrev pub is_past_day : List ℕ → Bool
is_past_day bytes = nat_lt 86399999 (ms_in bytes)

abbrev pub past_words : List ℕ → List ℕ
past_words bytes = if is_past_day bytes then codes " (past the end of the day)" else []

-- TIME_OF_DAY: the date and the time, and whether that is past the end of the day
unfoldable pub moment_text : List ℕ → List ℕ
moment_text bytes =
    date_text (date_of (days_in bytes + first_day)) ++ codes " " ++ ms_text (ms_in bytes) ++ past_words bytes

-- TIME_DIFFERENCE: days and a time
unfoldable pub difference_text : List ℕ → List ℕ
difference_text bytes = decimal (days_in bytes) ++ codes " d " ++ ms_text (ms_in bytes)
