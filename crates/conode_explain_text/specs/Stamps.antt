-- Stamps and times, in microseconds.
use Rattle.std.specs.Prelude.{ℕ, ◌-◌, ◌/◌, ◌%◌, ◌==◌, ◌&&◌, Bool, nat_le, nat_lt, if◌then◌else◌, List, ◌++◌, length, codes, decimal, replicate}
use Rattle.co_text.specs.Printed.{digits_text, printed_digit}
use Rattle.conode_explain_text.specs.declared.dates.Date.{Date}
use Rattle.conode_explain_text.specs.declared.so_far.Times.{Times}
use Rattle.conode_explain_text.specs.declared.stamps.StampForm.{StampForm}
use Rattle.conode_explain_text.specs.declared.stamps.StampForm.TheVariants.{Relative, Absolute, Delta, Date as AsDate}
use Rattle.conode_explain_text.specs.Dates.{date_of}

-- a number in decimal digits, with blanks before it up to this width
abbrev pub padded : ℕ → ℕ → List ℕ
padded width number = replicate (width - length (decimal number)) 32 ++ decimal number

-- a digit of a number, by its unit: blank where the number is smaller
abbrev pub column : ℕ → ℕ → ℕ
column unit number = if nat_lt number unit then 32 else printed_digit (number / unit % 10)

-- microseconds in six digits
abbrev pub micros_text : ℕ → List ℕ
micros_text micros = digits_text 10 6 micros

-- seconds, up to this width, and microseconds
unfoldable pub time_text : ℕ → ℕ → List ℕ
time_text width micros = padded width (micros / 1000000) ++ codes "." ++ micros_text (micros % 1000000)

-- the same with a hyphen right before the seconds
abbrev pub minus_text : ℕ → ℕ → List ℕ
minus_text width micros = replicate (width - length (decimal (micros / 1000000))) 32 ++ codes "-" ++ time_text 0 micros

-- the time from one stamp to another, with a hyphen where the other is the earlier one, else with this
-- text before it
unfoldable pub difference_text : List ℕ → ℕ → ℕ → ℕ → List ℕ
difference_text plus width from to =
    if nat_le from to then plus ++ time_text width (to - from) else minus_text width (from - to)

-- whether the time since the frame before isn't known: a log without stamps has each frame at 0
abbrev pub lacks_gap : Times → Bool
lacks_gap times = (times.before == 0) && (times.now == 0)

-- the time since the frame before; a hyphen where it isn't known
unfoldable pub gap_text : Times → List ℕ
gap_text times =
    if lacks_gap times then codes "        -" else difference_text (codes "+") 1 times.before times.now

-- two digits
abbrev pub two_digits : ℕ → List ℕ
two_digits number = digits_text 10 2 number

-- a date
unfoldable pub date_text : Date → List ℕ
date_text date =
    decimal date.year ++ codes "-" ++ two_digits date.month ++ codes "-" ++ two_digits date.day

-- the seconds of a day as hours, minutes and seconds
unfoldable pub time_of_day_text : ℕ → List ℕ
time_of_day_text seconds =
    two_digits (seconds / 3600) ++ codes ":" ++ two_digits (seconds / 60 % 60) ++ codes ":" ++ two_digits (seconds % 60)

-- the date and the time of day of a stamp that is counted from 1 January 1970, in UTC
unfoldable pub moment_text : ℕ → List ℕ
moment_text micros =
    date_text (date_of (micros / 1000000 / 86400)) ++ codes " " ++ time_of_day_text (micros / 1000000 % 86400)
    ++ codes "." ++ micros_text (micros % 1000000)

-- the stamp of a frame
unfoldable pub stamp_text : StampForm → Times → List ℕ
stamp_text Relative times = difference_text (codes " ") 5 times.first times.now
stamp_text Absolute times = time_text 10 times.now
stamp_text Delta times = gap_text times
stamp_text AsDate times = moment_text times.now
