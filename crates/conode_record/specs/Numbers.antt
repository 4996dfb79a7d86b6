-- Numbers of a line: stamps, identifiers and bytes.
use Rattle.std.specs.Prelude.{ℕ, ◌+◌, ◌-◌, ◌*◌, ◌/◌, ◌^◌, ◌==◌, nat_le, nat_lt, Bool, ◌&&◌, if◌then◌else◌, List, [], ◌∷◌, length, Option, Some, None}
use Rattle.std.specs.List.{list_all}
use Rattle.co_text.specs.Texts.{◌>>=◌, is_digit, decimal_in}
use Rattle.co_text.specs.HexPairs.{byte_in}
use Rattle.conode_trace.specs.FrameLines.{number_at, past_byte}
use Rattle.conode_record.specs.Fields.{hex_number}
use Rattle.conode_record.specs.declared.numbers.Base.{Base}
use Rattle.conode_record.specs.declared.numbers.Base.TheVariants.{Hexadecimal, Decimal}

-- ---- stamps, in microseconds

-- the digits after a point; no digits at the end of the text
abbrev pub fraction_of : List ℕ → Option (List ℕ)
fraction_of [] = Some []
fraction_of (byte ∷ digits) = if (byte == 46) && list_all is_digit digits then Some digits else None

-- a number with one more digit, a 0 where there is none, and the digits after it
abbrev pub with_digit : ℕ → List ℕ → ℕ × List ℕ
with_digit number [] = (10 * number, [])
with_digit number (digit ∷ digits) = (10 * number + (digit - 48), digits)

-- a number with three more digits
unfoldable pub with_three : ℕ → List ℕ → ℕ × List ℕ
with_three number digits =
    let first = with_digit number digits in
    let second = with_digit first.0 first.1 in
    with_digit second.0 second.1

-- milliseconds, perhaps with a fraction; what is below a microsecond is left out
unfoldable pub millis_in : List ℕ → Option ℕ
millis_in word = do
  whole ← number_at 1 12 word
  fraction ← fraction_of whole.1
  Some (with_three whole.0 fraction).0

-- seconds, perhaps with a fraction
unfoldable pub seconds_in : List ℕ → Option ℕ
seconds_in word = do
  whole ← number_at 1 12 word
  fraction ← fraction_of whole.1
  let thousandths = with_three whole.0 fraction in Some (with_three thousandths.0 thousandths.1).0

-- the time of a stamp: it counts from the clock if it sums, else from 0; none from 10^12 seconds on
abbrev pub moved : Bool → ℕ → ℕ → Option ℕ
moved sums clock stamp =
    let now = (if sums then clock + stamp else stamp) in
    if nat_lt now (10 ^ 18) then Some now else None

-- ---- dates, as `2023-11-14 22:13:20`

-- the days from 1 January 1970 to a date; years are counted from March on, so that a leap day is
-- the last of its year
unfoldable pub day_of : ℕ → ℕ → ℕ → ℕ
day_of year month day =
    let y = (if nat_lt 2 month then year else year - 1) in
    let m = (if nat_lt 2 month then month - 3 else month + 9) in
    (365 * y + y / 4 + y / 400 + (153 * m + 2) / 5 + day) - (y / 100 + 719469)

-- a day from 1970 to 9999; a 31st passes in every month
abbrev pub is_date : ℕ → ℕ → ℕ → Bool
is_date year month day =
    nat_le 1970 year && (nat_le year 9999 && (nat_le 1 month && (nat_le month 12 && (nat_le 1 day && nat_le day 31))))

-- the days of a date, and what follows
unfoldable pub date_at : List ℕ → Option (ℕ × List ℕ)
date_at text = do
  year ← number_at 4 4 text
  first ← past_byte 45 year.1
  month ← number_at 2 2 first
  second ← past_byte 45 month.1
  day ← number_at 2 2 second
  if is_date year.0 month.0 day.0 then Some (day_of year.0 month.0 day.0, day.1) else None

-- a time of day; second 60 is a leap second
abbrev pub is_time : ℕ → ℕ → ℕ → Bool
is_time hour minute second = nat_le hour 23 && (nat_le minute 59 && nat_le second 60)

-- the seconds of a day, and what follows
unfoldable pub time_at : List ℕ → Option (ℕ × List ℕ)
time_at text = do
  hour ← number_at 2 2 text
  first ← past_byte 58 hour.1
  minute ← number_at 2 2 first
  last ← past_byte 58 minute.1
  second ← number_at 2 2 last
  if is_time hour.0 minute.0 second.0 then Some (3600 * hour.0 + 60 * minute.0 + second.0, second.1) else None

-- a date and a time of day in parentheses, in microseconds since 1970, and what follows
unfoldable pub moment_at : List ℕ → Option (ℕ × List ℕ)
moment_at text = do
  opened ← past_byte 40 text
  date ← date_at opened
  blank ← past_byte 32 date.1
  time ← time_at blank
  point ← past_byte 46 time.1
  micros ← number_at 6 6 point
  rest ← past_byte 41 micros.1
  Some (1000000 * (86400 * date.0 + time.0) + micros.0, rest)

-- ---- identifiers and bytes

-- a number below 2^32 in a base
abbrev pub number_in : Base → List ℕ → Option ℕ
number_in Hexadecimal digits = if nat_lt 0 (length digits) && nat_le (length digits) 8 then hex_number digits else None
number_in Decimal digits = decimal_in 0 4294967295 digits

-- a byte: two hexadecimal digits, or a decimal number
abbrev pub byte_of : Base → List ℕ → Option ℕ
byte_of Hexadecimal word = byte_in word
byte_of Decimal word = decimal_in 0 255 word
