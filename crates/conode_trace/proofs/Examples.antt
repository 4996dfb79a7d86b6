-- Lines of a trace, evaluated: both sides of each edge.
use Rattle.std.proofs.Common.{◌≡◌, [], ◌∷◌, ◌++◌, Some, None, refl}
use Rattle.std.specs.Prelude.{codes, replicate}
use Rattle.std.specs.Fmt.{digits}
use Rattle.conode_trace.specs.declared.trace_line.TraceLine.TheVariants.{Skipped, PassedOver, Data}
use Rattle.conode_trace.specs.FrameLines.{line_in, stamp_at, identifier_at, body_in, frame_at, frame_line_in}
use Rattle.co_text.specs.Printed.{digits_text}
use Rattle.conode_trace.specs.Printed.{frame_line, frame_text, seconds_text, stamp_text}

-- ---- what a line says

-- the greatest identifier, and no data
greatest_identifier : line_in (codes "(0.000000) can0 7FF#") ≡ Some (Data 0 (record { id = 0x7FF; bytes = [] }))
unfolding line_in frame_line_in stamp_at frame_at identifier_at body_in
greatest_identifier = refl

identifier_above : line_in (codes "(0.000000) can0 800#") ≡ None
unfolding line_in frame_line_in stamp_at frame_at identifier_at body_in
identifier_above = refl

eight_bytes : line_in (codes "(0.000000) can0 000#0102030405060708") ≡ Some (Data 0 (record { id = 0; bytes = 1 ∷ 2 ∷ 3 ∷ 4 ∷ 5 ∷ 6 ∷ 7 ∷ 8 ∷ [] }))
unfolding line_in frame_line_in stamp_at frame_at identifier_at body_in
eight_bytes = refl

nine_bytes : line_in (codes "(0.000000) can0 000#010203040506070809") ≡ None
unfolding line_in frame_line_in stamp_at frame_at identifier_at body_in
nine_bytes = refl

-- digits in either case, blanks of both kinds, an interface of 15 bytes, and a mark
either_case : line_in (codes "(12.345678)" ++ 9 ∷ codes " 0123456789abcde " ++ 9 ∷ codes "605#aF " ++ 9 ∷ codes "T") ≡ Some (Data 12345 (record { id = 0x605; bytes = 0xAF ∷ [] }))
unfolding line_in frame_line_in stamp_at frame_at identifier_at body_in
either_case = refl

no_blank_before_interface : line_in (codes "(0.000000)can0 605#") ≡ None
unfolding line_in frame_line_in stamp_at frame_at identifier_at body_in
no_blank_before_interface = refl

below_decimal_digits : line_in (codes "(/.000000) can0 605#") ≡ None
unfolding line_in frame_line_in stamp_at frame_at identifier_at body_in
below_decimal_digits = refl

above_decimal_digits : line_in (codes "(:.000000) can0 605#") ≡ None
unfolding line_in frame_line_in stamp_at frame_at identifier_at body_in
above_decimal_digits = refl

below_capitals : line_in (codes "(0.000000) can0 605#@0") ≡ None
unfolding line_in frame_line_in stamp_at frame_at identifier_at body_in
below_capitals = refl

above_capitals : line_in (codes "(0.000000) can0 605#G0") ≡ None
unfolding line_in frame_line_in stamp_at frame_at identifier_at body_in
above_capitals = refl

below_small_letters : line_in (codes "(0.000000) can0 605#`0") ≡ None
unfolding line_in frame_line_in stamp_at frame_at identifier_at body_in
below_small_letters = refl

above_small_letters : line_in (codes "(0.000000) can0 605#g0") ≡ None
unfolding line_in frame_line_in stamp_at frame_at identifier_at body_in
above_small_letters = refl

extended_no_digit : line_in (codes "(0.000000) can0 0000060g#40") ≡ None
unfolding line_in frame_line_in stamp_at frame_at identifier_at body_in
extended_no_digit = refl

blank_after_remote_frame : line_in (codes "(0.000000) can0 605#R1 ") ≡ None
unfolding line_in frame_line_in stamp_at frame_at identifier_at body_in
blank_after_remote_frame = refl

nine_as_a_digit : line_in (codes "(0.000000) can0 609#9a") ≡ Some (Data 0 (record { id = 0x609; bytes = 0x9A ∷ [] }))
unfolding line_in frame_line_in stamp_at frame_at identifier_at body_in
nine_as_a_digit = refl

blank_before_semicolon : line_in (codes " ;") ≡ None
unfolding line_in frame_line_in stamp_at frame_at identifier_at body_in
blank_before_semicolon = refl

interface_of_16 : line_in (codes "(0.000000) 0123456789abcdef 605#") ≡ None
unfolding line_in frame_line_in stamp_at frame_at identifier_at body_in
interface_of_16 = refl

one_second : line_in (codes "(9.000999) can0 605#") ≡ Some (Data 9000 (record { id = 0x605; bytes = [] }))
unfolding line_in frame_line_in stamp_at frame_at identifier_at body_in
one_second = refl

twelve_seconds : line_in (codes "(999999999999.999999) can0 605#") ≡ Some (Data 999999999999999 (record { id = 0x605; bytes = [] }))
unfolding line_in frame_line_in stamp_at frame_at identifier_at body_in
twelve_seconds = refl

thirteen_seconds : line_in (codes "(0000000000000.000000) can0 605#") ≡ None
unfolding line_in frame_line_in stamp_at frame_at identifier_at body_in
thirteen_seconds = refl

no_seconds : line_in (codes "(.000000) can0 605#") ≡ None
unfolding line_in frame_line_in stamp_at frame_at identifier_at body_in
no_seconds = refl

five_micros : line_in (codes "(0.00000) can0 605#") ≡ None
unfolding line_in frame_line_in stamp_at frame_at identifier_at body_in
five_micros = refl

seven_micros : line_in (codes "(0.0000000) can0 605#") ≡ None
unfolding line_in frame_line_in stamp_at frame_at identifier_at body_in
seven_micros = refl

-- ---- frames that are passed over

remote_frame : line_in (codes "(1.000000) can0 605#R1 R") ≡ Some (PassedOver 1000)
unfolding line_in frame_line_in stamp_at frame_at identifier_at body_in
remote_frame = refl

two_digits_after_R : line_in (codes "(1.000000) can0 605#R12") ≡ None
unfolding line_in frame_line_in stamp_at frame_at identifier_at body_in
two_digits_after_R = refl

can_fd_frame : line_in (codes "(1.000000) can0 605##14000 ?") ≡ Some (PassedOver 1000)
unfolding line_in frame_line_in stamp_at frame_at identifier_at body_in
can_fd_frame = refl

extended_frame : line_in (codes "(1.000000) can0 00000605#40") ≡ Some (PassedOver 1000)
unfolding line_in frame_line_in stamp_at frame_at identifier_at body_in
extended_frame = refl

remote_frame_above : line_in (codes "(0.000000) can0 800#R") ≡ None
unfolding line_in frame_line_in stamp_at frame_at identifier_at body_in
remote_frame_above = refl

four_digits : line_in (codes "(0.000000) can0 0605#") ≡ None
unfolding line_in frame_line_in stamp_at frame_at identifier_at body_in
four_digits = refl

-- no digit after `R`, and one that is hexadecimal alone
no_digit_after_R : line_in (codes "(1.000000) can0 605#R") ≡ Some (PassedOver 1000)
unfolding line_in frame_line_in stamp_at frame_at identifier_at body_in
no_digit_after_R = refl

letter_after_R : line_in (codes "(1.000000) can0 605#RA") ≡ None
unfolding line_in frame_line_in stamp_at frame_at identifier_at body_in
letter_after_R = refl

can_fd_frame_above : line_in (codes "(0.000000) can0 800##0") ≡ None
unfolding line_in frame_line_in stamp_at frame_at identifier_at body_in
can_fd_frame_above = refl

-- an identifier of eight digits is followed by what may follow three
extended_remote_frame : line_in (codes "(1.000000) can0 1FFFFFFF#R8 T") ≡ Some (PassedOver 1000)
unfolding line_in frame_line_in stamp_at frame_at identifier_at body_in
extended_remote_frame = refl

extended_half_a_byte : line_in (codes "(1.000000) can0 00000605#4") ≡ None
unfolding line_in frame_line_in stamp_at frame_at identifier_at body_in
extended_half_a_byte = refl

-- ---- the end of a line

return_at_end : line_in (codes "(0.000000) can0 605#" ++ 13 ∷ []) ≡ None
unfolding line_in frame_line_in stamp_at frame_at identifier_at body_in
return_at_end = refl

lower_case_mark : line_in (codes "(0.000000) can0 605# t") ≡ None
unfolding line_in frame_line_in stamp_at frame_at identifier_at body_in
lower_case_mark = refl

blank_at_end : line_in (codes "(0.000000) can0 605# ") ≡ None
unfolding line_in frame_line_in stamp_at frame_at identifier_at body_in
blank_at_end = refl

half_a_byte : line_in (codes "(0.000000) can0 605#4") ≡ None
unfolding line_in frame_line_in stamp_at frame_at identifier_at body_in
half_a_byte = refl

another_mark : line_in (codes "(0.000000) can0 605#01 X") ≡ None
unfolding line_in frame_line_in stamp_at frame_at identifier_at body_in
another_mark = refl

mark_without_blank : line_in (codes "(0.000000) can0 605#01T") ≡ None
unfolding line_in frame_line_in stamp_at frame_at identifier_at body_in
mark_without_blank = refl

-- ---- lines that are skipped, or none

empty_line : line_in [] ≡ Some Skipped
unfolding line_in
empty_line = refl

comment_of_512 : line_in (replicate 512 59) ≡ Some Skipped
unfolding line_in
comment_of_512 = refl

comment_of_513 : line_in (replicate 513 59) ≡ None
unfolding line_in
comment_of_513 = refl

blank_line : line_in (codes " ") ≡ None
unfolding line_in frame_line_in stamp_at
blank_line = refl

blank_at_front : line_in (codes " (0.000000) can0 605#") ≡ None
unfolding line_in frame_line_in stamp_at
blank_at_front = refl

-- ---- the line of a frame

printed : frame_line 1700000000012 (record { id = 0x585; bytes = 0x43 ∷ 0x0A ∷ 0xFF ∷ [] }) ≡ codes "(1700000000.012000) can0 585#430AFF" ++ 10 ∷ []
unfolding frame_line frame_text digits_text seconds_text stamp_text
printed = refl

printed_at_start : frame_line 0 (record { id = 5; bytes = [] }) ≡ codes "(0000000000.000000) can0 005#" ++ 10 ∷ []
unfolding frame_line frame_text digits_text seconds_text stamp_text
printed_at_start = refl

-- ten digits of seconds, and the first time that takes eleven
printed_late : frame_line 9999999999999 (record { id = 0x7FF; bytes = [] }) ≡ codes "(9999999999.999000) can0 7FF#" ++ 10 ∷ []
unfolding frame_line frame_text digits_text seconds_text stamp_text
printed_late = refl

printed_later : frame_line 10000000000000 (record { id = 0x7FF; bytes = [] }) ≡ codes "(10000000000.000000) can0 7FF#" ++ 10 ∷ []
unfolding frame_line frame_text digits_text seconds_text stamp_text digits
printed_later = refl
