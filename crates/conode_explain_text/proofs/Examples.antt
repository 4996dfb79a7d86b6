-- Dates, stamps, columns and lines, evaluated on both sides of each edge.
use Rattle.std.proofs.Common.{◌≡◌, ℕ, true, false, List, [], ◌∷◌, map, refl}
use Rattle.std.specs.Prelude.{None, codes}
use Rattle.std.specs.Fmt.{digits}
use Rattle.co_text.specs.Printed.{digits_text}
use Rattle.conode_text.specs.Unseen.{code_text}
use Rattle.conode_record.specs.declared.content.Content.TheVariants.{Data, Remote, Fd}
use Rattle.conode_record.specs.declared.fields.Identifier.TheVariants.{Base, Extended, Error}
use Rattle.conode_record.specs.declared.line.Record.{Record}
use Rattle.conode_explain_text.specs.declared.dates.Date.{Date}
use Rattle.conode_explain_text.specs.declared.so_far.Times.{Times}
use Rattle.conode_explain_text.specs.declared.stamps.StampForm.TheVariants.{Relative, Absolute, Delta, Date as AsDate}
use Rattle.conode_explain_text.specs.Columns.{bytes_text, content_text, escaped_name, id_text}
use Rattle.conode_explain_text.specs.Dates.{date_in_year, date_of, day_of_year, year_of_cycle}
use Rattle.conode_explain_text.specs.Lines.{line_parts, line_text, odd_words, own_parts}
use Rattle.conode_explain_text.specs.Said.{shown}
use Rattle.conode_explain_text.specs.SoFar.{SoFar, nothing_seen, seen_with, shows_interface, times_at}
use Rattle.conode_explain_text.specs.Stamps.{date_text, difference_text, gap_text, moment_text, stamp_text, time_of_day_text, time_text}

-- ---- dates: the days are those of an almanac

date : ℕ → ℕ → ℕ → Date
date year month day = record { year = year; month = month; day = day }

first_day : date_of 0 ≡ date 1970 1 1
unfolding date_of date_in_year day_of_year year_of_cycle date
first_day = refl

before_leap_day : date_of 788 ≡ date 1972 2 28
unfolding date_of date_in_year day_of_year year_of_cycle date
before_leap_day = refl

leap_day : date_of 789 ≡ date 1972 2 29
unfolding date_of date_in_year day_of_year year_of_cycle date
leap_day = refl

after_leap_day : date_of 790 ≡ date 1972 3 1
unfolding date_of date_in_year day_of_year year_of_cycle date
after_leap_day = refl

last_of_1999 : date_of 10956 ≡ date 1999 12 31
unfolding date_of date_in_year day_of_year year_of_cycle date
last_of_1999 = refl

leap_day_of_2000 : date_of 11016 ≡ date 2000 2 29
unfolding date_of date_in_year day_of_year year_of_cycle date
leap_day_of_2000 = refl

march_of_2000 : date_of 11017 ≡ date 2000 3 1
unfolding date_of date_in_year day_of_year year_of_cycle date
march_of_2000 = refl

last_of_2024 : date_of 20088 ≡ date 2024 12 31
unfolding date_of date_in_year day_of_year year_of_cycle date
last_of_2024 = refl

first_of_2025 : date_of 20089 ≡ date 2025 1 1
unfolding date_of date_in_year day_of_year year_of_cycle date
first_of_2025 = refl

no_leap_day_in_2100 : date_of 47540 ≡ date 2100 2 28
unfolding date_of date_in_year day_of_year year_of_cycle date
no_leap_day_in_2100 = refl

march_of_2100 : date_of 47541 ≡ date 2100 3 1
unfolding date_of date_in_year day_of_year year_of_cycle date
march_of_2100 = refl

leap_day_of_2400 : date_of 157113 ≡ date 2400 2 29
unfolding date_of date_in_year day_of_year year_of_cycle date
leap_day_of_2400 = refl

-- ---- stamps

times : ℕ → ℕ → ℕ → Times
times first before now = record { first = first; before = before; now = now }

since_first : stamp_text Relative (times 1000000 2000000 13345678) ≡ codes "    12.345678"
unfolding stamp_text difference_text time_text digits_text digits times
since_first = refl

since_a_later_first : stamp_text Relative (times 1000000 2000000 999999) ≡ codes "    -0.000001"
unfolding stamp_text difference_text time_text digits_text digits times
since_a_later_first = refl

at_first : stamp_text Relative (times 1000000 1000000 1000000) ≡ codes "     0.000000"
unfolding stamp_text difference_text time_text digits_text digits times
at_first = refl

wide : stamp_text Relative (times 0 0 123456000000) ≡ codes " 123456.000000"
unfolding stamp_text difference_text time_text digits_text digits times
wide = refl

as_recorded : stamp_text Absolute (times 0 0 1436509052249713) ≡ codes "1436509052.249713"
unfolding stamp_text time_text digits_text digits times
as_recorded = refl

since_before : stamp_text Delta (times 0 1000000 1000412) ≡ codes "+0.000412"
unfolding stamp_text gap_text difference_text time_text digits_text digits times
since_before = refl

-- of a log without stamps
no_gap : gap_text (times 0 0 0) ∷ gap_text (times 0 0 1) ∷ gap_text (times 0 1 0) ∷ []
    ≡ codes "        -" ∷ codes "+0.000001" ∷ codes "-0.000001" ∷ []
unfolding gap_text difference_text time_text digits_text digits times
no_gap = refl

gap_back : gap_text (times 0 1000400 1000388) ≡ codes "-0.000012"
unfolding gap_text difference_text time_text digits_text digits times
gap_back = refl

as_date : stamp_text AsDate (times 0 0 1436509052249713) ≡ codes "2015-07-10 06:17:32.249713"
unfolding stamp_text moment_text date_text time_of_day_text date_of date_in_year day_of_year year_of_cycle digits_text digits times
as_date = refl

begin_of_dates : stamp_text AsDate (times 0 0 0) ≡ codes "1970-01-01 00:00:00.000000"
unfolding stamp_text moment_text date_text time_of_day_text date_of date_in_year day_of_year year_of_cycle digits_text digits times
begin_of_dates = refl

end_of_a_day : stamp_text AsDate (times 0 0 86399999999) ≡ codes "1970-01-01 23:59:59.999999"
unfolding stamp_text moment_text date_text time_of_day_text date_of date_in_year day_of_year year_of_cycle digits_text digits times
end_of_a_day = refl

next_day : stamp_text AsDate (times 0 0 86400000000) ≡ codes "1970-01-02 00:00:00.000000"
unfolding stamp_text moment_text date_text time_of_day_text date_of date_in_year day_of_year year_of_cycle digits_text digits times
next_day = refl

-- ---- columns

name_escaped : escaped_name (0x20 ∷ 0x21 ∷ 0x7E ∷ 0x7F ∷ []) ≡ codes "\\x20!~\\x7F"
unfolding digits_text
name_escaped = refl

id_base : id_text (Base 0x7F) ≡ codes "07F"
unfolding digits_text
id_base = refl

id_extended : id_text (Extended 0x185) ≡ codes "00000185"
unfolding digits_text
id_extended = refl

id_error : id_text (Error 4) ≡ codes "20000004"
unfolding digits_text
id_error = refl

four_bytes : content_text (Data (0xE8 ∷ 3 ∷ 16 ∷ 39 ∷ [])) ≡ codes "[4] E8 03 10 27            "
unfolding bytes_text digits_text digits
four_bytes = refl

eight_bytes : content_text (Data (1 ∷ 2 ∷ 3 ∷ 4 ∷ 5 ∷ 6 ∷ 7 ∷ 8 ∷ [])) ≡ codes "[8] 01 02 03 04 05 06 07 08"
unfolding bytes_text digits_text digits
eight_bytes = refl

nine_bytes : content_text (Fd 1 (1 ∷ 2 ∷ 3 ∷ 4 ∷ 5 ∷ 6 ∷ 7 ∷ 8 ∷ 9 ∷ [])) ≡ codes "[9] 01 02 03 04 05 06 07 08 09"
unfolding bytes_text digits_text digits
nine_bytes = refl

remote_of_8 : content_text (Remote 8) ≡ codes "[8]                        "
unfolding bytes_text digits_text digits
remote_of_8 = refl

controls : shown (0x1B ∷ 0x1F ∷ 0x20 ∷ 0x7E ∷ 0x7F ∷ 0x80 ∷ []) ≡ 92 ∷ 120 ∷ 49 ∷ 66 ∷ 92 ∷ 120 ∷ 49 ∷ 70 ∷ 32 ∷ 126 ∷ 92 ∷ 120 ∷ 55 ∷ 70 ∷ 128 ∷ []
unfolding digits_text
controls = refl

-- of U+0080 to U+00A0 the first and the last, U+00AD, and what is beside them; a first byte alone
shorts : map shown ((0xC2 ∷ 0x80 ∷ []) ∷ (0x61 ∷ 0xC2 ∷ 0x9B ∷ 0x62 ∷ []) ∷ (0xC2 ∷ 0xA0 ∷ 0xC2 ∷ 0xA0 ∷ []) ∷ (0xC2 ∷ 0xAD ∷ []) ∷ [])
    ≡ codes "\\x80" ∷ codes "a\\x9Bb" ∷ codes "\\xA0\\xA0" ∷ codes "\\xAD" ∷ []
unfolding code_text digits_text
shorts = refl

no_shorts : map shown ((0xC2 ∷ 0x7F ∷ []) ∷ (0xC2 ∷ 0xA1 ∷ []) ∷ (0xC2 ∷ 0xAE ∷ []) ∷ (0xC3 ∷ 0x9B ∷ []) ∷ (0xC1 ∷ 0x9B ∷ 0x61 ∷ []) ∷ (0x61 ∷ 0xC2 ∷ []) ∷ (0xC2 ∷ 0xC2 ∷ 0x9B ∷ []) ∷ [])
    ≡ (0xC2 ∷ codes "\\x7F") ∷ (0xC2 ∷ 0xA1 ∷ []) ∷ (0xC2 ∷ 0xAE ∷ []) ∷ (0xC3 ∷ 0x9B ∷ []) ∷ (0xC1 ∷ 0x9B ∷ 0x61 ∷ []) ∷ (0x61 ∷ 0xC2 ∷ []) ∷ (0xC2 ∷ codes "\\x9B") ∷ []
unfolding code_text digits_text
no_shorts = refl

-- U+034F, U+061C, U+07FF; the first of three bytes with bytes that are none of a character
longer_shorts : map shown ((0xCD ∷ 0x8F ∷ []) ∷ (0x61 ∷ 0xD8 ∷ 0x9C ∷ 0x62 ∷ []) ∷ (0xDF ∷ 0xBF ∷ []) ∷ (0xE2 ∷ 0xC0 ∷ 0x8F ∷ []) ∷ (0xE2 ∷ 0x80 ∷ 0xCF ∷ []) ∷ [])
    ≡ codes "\\u034F" ∷ codes "a\\u061Cb" ∷ (0xDF ∷ 0xBF ∷ []) ∷ (0xE2 ∷ 0xC0 ∷ 0x8F ∷ []) ∷ (0xE2 ∷ 0x80 ∷ 0xCF ∷ []) ∷ []
unfolding code_text digits_text
longer_shorts = refl

abbrev long : ℕ → ℕ → ℕ → List ℕ
long first second third = first ∷ second ∷ third ∷ []

-- of three bytes: U+115F, U+2000, U+200F, U+2028, U+202F between letters, U+205F, U+3164, U+FEFF and U+FFFB
longs : map shown (long 0xE1 0x85 0x9F ∷ long 0xE2 0x80 0x80 ∷ long 0xE2 0x80 0x8F ∷ long 0xE2 0x80 0xA8 ∷ (0x61 ∷ 0xE2 ∷ 0x80 ∷ 0xAF ∷ 0x62 ∷ []) ∷ long 0xE2 0x81 0x9F ∷ long 0xE3 0x85 0xA4 ∷ long 0xEF 0xBB 0xBF ∷ long 0xEF 0xBF 0xBB ∷ [])
    ≡ codes "\\u115F" ∷ codes "\\u2000" ∷ codes "\\u200F" ∷ codes "\\u2028" ∷ codes "a\\u202Fb" ∷ codes "\\u205F" ∷ codes "\\u3164" ∷ codes "\\uFEFF" ∷ codes "\\uFFFB" ∷ []
unfolding code_text digits_text
longs = refl

-- and what is beside them; U+4E2D; some of their bytes alone; U+009B in a byte too many
no_longs : map shown (long 0xE1 0x85 0x9E ∷ long 0xE2 0x80 0x90 ∷ long 0xE2 0x80 0xA7 ∷ long 0xE2 0x80 0xB0 ∷ long 0xE2 0x81 0x9E ∷ long 0xE2 0x81 0xB0 ∷ long 0xE3 0x85 0xA5 ∷ long 0xEF 0xBB 0xBE ∷ long 0xEF 0xBF 0xBC ∷ long 0xEE 0xBB 0xBF ∷ long 0xE4 0xB8 0xAD ∷ (0x61 ∷ 0xE2 ∷ 0x80 ∷ []) ∷ (0xEF ∷ []) ∷ long 0xE0 0x82 0x9B ∷ [])
    ≡ long 0xE1 0x85 0x9E ∷ long 0xE2 0x80 0x90 ∷ long 0xE2 0x80 0xA7 ∷ long 0xE2 0x80 0xB0 ∷ long 0xE2 0x81 0x9E ∷ long 0xE2 0x81 0xB0 ∷ long 0xE3 0x85 0xA5 ∷ long 0xEF 0xBB 0xBE ∷ long 0xEF 0xBF 0xBC ∷ long 0xEE 0xBB 0xBF ∷ long 0xE4 0xB8 0xAD ∷ (0x61 ∷ 0xE2 ∷ 0x80 ∷ []) ∷ (0xEF ∷ []) ∷ long 0xE0 0x82 0x9B ∷ []
unfolding code_text digits_text
no_longs = refl

-- of four bytes: U+1BCA0, and U+E0041 between letters
longest : map shown ((0xF0 ∷ 0x9B ∷ 0xB2 ∷ 0xA0 ∷ []) ∷ (0x61 ∷ 0xF3 ∷ 0xA0 ∷ 0x81 ∷ 0x81 ∷ 0x62 ∷ []) ∷ [])
    ≡ codes "\\U0001BCA0" ∷ codes "a\\U000E0041b" ∷ []
unfolding code_text digits_text
longest = refl

-- U+1BC9F, U+1F600, U+E1000; three bytes of four, and four of which the third or the fourth is none of a character;
-- U+200B in a byte too many
no_longest : map shown ((0xF0 ∷ 0x9B ∷ 0xB2 ∷ 0x9F ∷ []) ∷ (0xF0 ∷ 0x9F ∷ 0x98 ∷ 0x80 ∷ []) ∷ (0xF3 ∷ 0xA1 ∷ 0x80 ∷ 0x80 ∷ []) ∷ (0xF3 ∷ 0xA0 ∷ 0x81 ∷ []) ∷ (0xF3 ∷ 0xA0 ∷ 0x41 ∷ 0x81 ∷ []) ∷ (0xF3 ∷ 0xA0 ∷ 0x81 ∷ 0x41 ∷ []) ∷ (0xF0 ∷ 0x82 ∷ 0x80 ∷ 0x8B ∷ []) ∷ [])
    ≡ (0xF0 ∷ 0x9B ∷ 0xB2 ∷ 0x9F ∷ []) ∷ (0xF0 ∷ 0x9F ∷ 0x98 ∷ 0x80 ∷ []) ∷ (0xF3 ∷ 0xA1 ∷ 0x80 ∷ 0x80 ∷ []) ∷ (0xF3 ∷ 0xA0 ∷ 0x81 ∷ []) ∷ (0xF3 ∷ 0xA0 ∷ 0x41 ∷ 0x81 ∷ []) ∷ (0xF3 ∷ 0xA0 ∷ 0x81 ∷ 0x41 ∷ []) ∷ (0xF0 ∷ 0x82 ∷ 0x80 ∷ 0x8B ∷ []) ∷ []
unfolding code_text digits_text
no_longest = refl

-- ---- what was seen

started : SoFar
started = seen_with nothing_seen 5 (codes "can0")

first_has_no_interface : shows_interface nothing_seen (codes "can0") ≡ false
first_has_no_interface = refl

same_has_none : shows_interface started (codes "can0") ≡ false
unfolding started
same_has_none = refl

other_has_one : shows_interface started (codes "can1") ≡ true
unfolding started
other_has_one = refl

then_each_has_one : shows_interface (seen_with (seen_with started 6 (codes "can1")) 7 (codes "can0")) (codes "can0") ≡ true
unfolding started
then_each_has_one = refl

times_of_first : times_at nothing_seen 5 ≡ times 5 5 5
unfolding times
times_of_first = refl

times_of_third : times_at (seen_with started 9 (codes "can0")) 7 ≡ times 5 9 7
unfolding started times
times_of_third = refl

-- ---- lines

sync : ℕ → List ℕ → Record
sync micros interface = record { micros = micros; interface = interface; id = Base 0x80; content = Data []; direction = None }

line_of : SoFar → Record → List ℕ
line_of so_far frame = line_text (line_parts Relative so_far frame (codes "SYNC"))

first_line : line_of nothing_seen (sync 5 (codes "can0")) ≡ codes "     0.000000  +0.000000  080  [0]                          SYNC\n"
unfolding line_of sync line_text line_parts odd_words stamp_text gap_text difference_text time_text bytes_text digits_text digits
first_line = refl

line_of_other : line_of started (sync 6 (codes "can1")) ≡ codes "     0.000001  +0.000001  can1  080  [0]                          SYNC\n"
unfolding line_of started sync line_text line_parts odd_words stamp_text gap_text difference_text time_text bytes_text digits_text digits
line_of_other = refl

line_back : line_of started (sync 4 (codes "can0")) ≡ codes "    -0.000001  -0.000001  080  [0]                          SYNC  note: the stamp steps back\n"
unfolding line_of started sync line_text line_parts odd_words stamp_text gap_text difference_text time_text bytes_text digits_text digits
line_back = refl

line_at_once : line_of started (sync 5 (codes "can0")) ≡ codes "     0.000000  +0.000000  080  [0]                          SYNC\n"
unfolding line_of started sync line_text line_parts odd_words stamp_text gap_text difference_text time_text bytes_text digits_text digits
line_at_once = refl

-- an hour, and a microsecond more
line_in_an_hour : line_of started (sync 3600000005 (codes "can0")) ≡ codes "  3600.000000  +3600.000000  080  [0]                          SYNC\n"
unfolding line_of started sync line_text line_parts odd_words stamp_text gap_text difference_text time_text bytes_text digits_text digits
line_in_an_hour = refl

line_far_ahead : line_of started (sync 3600000006 (codes "can0"))
    ≡ codes "  3600.000001  +3600.000001  080  [0]                          SYNC  note: the stamp is more than an hour ahead\n"
unfolding line_of started sync line_text line_parts odd_words stamp_text gap_text difference_text time_text bytes_text digits_text digits
line_far_ahead = refl

-- ---- lines of their own

own_line : line_text (own_parts Relative (times 5 5 6) false (codes "can0") (codes "node 5  SDO")) ≡ codes "     0.000001  node 5  SDO\n"
unfolding times line_text own_parts stamp_text difference_text time_text digits_text digits
own_line = refl

own_line_of_other : line_text (own_parts Relative (times 5 5 6) true (codes "can1") (codes "node 5  SDO")) ≡ codes "     0.000001  can1  node 5  SDO\n"
unfolding times line_text own_parts stamp_text difference_text time_text digits_text digits
own_line_of_other = refl
