-- Which form a log has, by its first lines, evaluated.
use Rattle.std.proofs.Common.{◌≡◌, ℕ, List, [], ◌∷◌, Ok, Err, refl}
use Rattle.std.specs.Prelude.{codes}
use Rattle.conode_record.specs.declared.bad_log_line.BadLogLine.{BadLogLine}
use Rattle.conode_record.specs.declared.bad_log_line.BadLogLine.TheVariants as bad
use Rattle.conode_record.specs.declared.frame.LogLine.TheVariants.{Skipped, AsItIs}
use Rattle.conode_logs.specs.declared.log.Form.{Form}
use Rattle.conode_logs.specs.declared.log.Form.TheVariants.{Unknown, Candump, Screen, Deltas, Trc, Asc}
use Rattle.conode_logs.specs.declared.log.Log.{Log}
use Rattle.conode_logs.specs.Logs.{asc_of_old, form_of, says}
use Rattle.conode_logs.specs.Trc.{version_1_1, version_1_3}
use Rattle.conode_logs.proofs.OnLines.{logs_on_lines}

-- a log of this form at 5 s
abbrev log : Form → Log
log form = record { form = form; clock = 5000000 }

candump : form_of (codes "(1700000000.000000) can0 605#4000100000000000") ≡ Candump
unfolding logs_on_lines
candump = refl

candump_received : form_of (codes "(1700000000.000000) can0 605#4000100000000000 R") ≡ Candump
unfolding logs_on_lines
candump_received = refl

screen : form_of (codes "  can0  605   [8]  40 00 10 00 00 00 00 00") ≡ Screen
unfolding logs_on_lines
screen = refl

screen_stamped : form_of (codes " (1700000000.000000)  can0  RX - -  605   [0] ") ≡ Screen
unfolding logs_on_lines
screen_stamped = refl

trc : form_of (codes ";$FILEVERSION=1.3") ≡ Trc version_1_3
unfolding logs_on_lines
trc = refl

trc_of_another_version : form_of (codes ";$FILEVERSION=1.2") ≡ Unknown
unfolding logs_on_lines
trc_of_another_version = refl

asc : form_of (codes "date Tue Nov 14 22:13:20 2023") ≡ Asc asc_of_old
unfolding logs_on_lines
asc = refl

asc_without_date : form_of (codes "base hex  timestamps absolute") ≡ Asc asc_of_old
unfolding logs_on_lines
asc_without_date = refl

event_line : form_of (codes "!tick 5") ≡ Unknown
unfolding logs_on_lines
event_line = refl

comment : form_of (codes "; a comment") ≡ Unknown
unfolding logs_on_lines
comment = refl

bad_frame : form_of (codes "  can0  605   [9]") ≡ Unknown
unfolding logs_on_lines
bad_frame = refl

-- after the byte order mark of an editor
abbrev marked : List ℕ → List ℕ
marked line = 0xEF ∷ 0xBB ∷ 0xBF ∷ line

marked_trc : form_of (marked (codes ";$FILEVERSION=1.3")) ≡ Trc version_1_3
unfolding logs_on_lines
marked_trc = refl

marked_asc : form_of (marked (codes "date Tue Nov 14 22:13:20 2023")) ≡ Asc asc_of_old
unfolding logs_on_lines
marked_asc = refl

marked_screen : form_of (marked (codes "  can0  605   [1]  05")) ≡ Screen
unfolding logs_on_lines
marked_screen = refl

-- a trace has no mark
marked_candump : form_of (marked (codes "(1700000000.000000) can0 605#05")) ≡ Unknown
unfolding logs_on_lines
marked_candump = refl

nothing : form_of (codes "") ≡ Unknown
unfolding logs_on_lines
nothing = refl

-- ---- a line before the form is known

as_it_is : says (log (Unknown)) (codes "; a comment") ≡ (log Unknown, Ok AsItIs)
unfolding logs_on_lines
as_it_is = refl

empty_as_it_is : says (log (Unknown)) (codes "") ≡ (log Unknown, Ok AsItIs)
unfolding logs_on_lines
empty_as_it_is = refl

marked_comment : says (log Unknown) (marked (codes "; a comment")) ≡ (log Unknown, Ok Skipped)
unfolding logs_on_lines
marked_comment = refl

marked_version : says (log (Trc version_1_1)) (marked (codes ";$FILEVERSION=1.3")) ≡ (log (Trc version_1_3), Ok Skipped)
unfolding logs_on_lines
marked_version = refl

blanks : says (log (Unknown)) (codes "  ") ≡ (log Unknown, Ok Skipped)
unfolding logs_on_lines
blanks = refl

not_known : says (log (Unknown)) (codes "605 40 00 10") ≡ (log Unknown, Err bad.Unknown)
unfolding logs_on_lines
not_known = refl

-- a parenthesis and a number sign: what is wrong is said as of a line of `candump -L`
short_stamp : says (log (Unknown)) (codes "(0.0) can0 705#05") ≡ (log Unknown, Err bad.RecordStamp)
unfolding logs_on_lines
short_stamp = refl

half_a_byte : says (log (Unknown)) (codes "(1.000000) can0 705#0") ≡ (log Unknown, Err bad.RecordData)
unfolding logs_on_lines
half_a_byte = refl

marked_record : says (log (Unknown)) (marked (codes "(1.000000) can0 705#05")) ≡ (log Unknown, Err bad.RecordStamp)
unfolding logs_on_lines
marked_record = refl

no_number_sign : says (log (Unknown)) (codes "(1.0) can0 705") ≡ (log Unknown, Err bad.Unknown)
unfolding logs_on_lines
no_number_sign = refl

no_parenthesis : says (log (Unknown)) (codes "can0 705#05") ≡ (log Unknown, Err bad.Unknown)
unfolding logs_on_lines
no_parenthesis = refl

not_a_version : says (log (Unknown)) (codes ";$FILEVERSION=1.2") ≡ (log Unknown, Err bad.Version)
unfolding logs_on_lines
not_a_version = refl

a_frame_shows_it : says (log (Unknown)) (codes "(1.000000) can0 605#40") ≡ (log Candump, Ok AsItIs)
unfolding logs_on_lines
a_frame_shows_it = refl

a_version_shows_it : says (log (Unknown)) (codes ";$FILEVERSION=1.1") ≡ (log (Trc version_1_1), Ok Skipped)
unfolding logs_on_lines
a_version_shows_it = refl

-- ---- a line of a form that is known

candump_bad : says (log (Candump)) (codes "(1.000000) can0 605#4") ≡ (log Candump, Err bad.RecordData)
unfolding logs_on_lines
candump_bad = refl

candump_event : says (log (Candump)) (codes "!tick 5") ≡ (log Candump, Ok AsItIs)
unfolding logs_on_lines
candump_event = refl

no_other_form : says (log (Candump)) (codes "  can0  605   [0] ") ≡ (log Candump, Err bad.RecordStamp)
unfolding logs_on_lines
no_other_form = refl

screen_stands : says (log (Screen)) (codes " (000.500000)  can0  605   [9] ") ≡ (record { form = Screen; clock = 500000 }, Err bad.Length)
unfolding logs_on_lines
screen_stands = refl

deltas_add : says (log (Deltas)) (codes " (000.500000)  can0  605   [9] ") ≡ (record { form = Deltas; clock = 5500000 }, Err bad.Length)
unfolding logs_on_lines
deltas_add = refl

trc_keeps_the_clock : says (log (Trc version_1_1)) (codes "  1) 7.0 Warng") ≡ (log (Trc version_1_1), Ok Skipped)
unfolding logs_on_lines
trc_keeps_the_clock = refl

asc_sets_it : says (log (Asc asc_of_old)) (codes "0.500000 log trigger event") ≡ (record { form = Asc asc_of_old; clock = 500000 }, Ok Skipped)
unfolding logs_on_lines
asc_sets_it = refl
