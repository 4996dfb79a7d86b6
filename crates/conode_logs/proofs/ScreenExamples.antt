-- Lines as candump shows them, evaluated: those of its options, and both sides of each edge.
use Rattle.std.proofs.Common.{◌≡◌, ℕ, List, [], ◌∷◌, ◌++◌, Option, Some, None, Result, Ok, Err, true, false, refl}
use Rattle.std.specs.Prelude.{codes, replicate}
use Rattle.std.specs.List.{flat_map}
use Rattle.conode_record.specs.declared.content.Direction.{Direction}
use Rattle.conode_record.specs.declared.content.Direction.TheVariants.{Received, Sent}
use Rattle.conode_record.specs.declared.fields.Identifier.{Identifier}
use Rattle.conode_record.specs.declared.fields.Identifier.TheVariants.{Base as Short, Extended, Error}
use Rattle.conode_record.specs.declared.bad_log_line.BadLogLine.{BadLogLine}
use Rattle.conode_record.specs.declared.bad_log_line.BadLogLine.TheVariants as bad
use Rattle.conode_record.specs.declared.frame.LogContent.{LogContent}
use Rattle.conode_record.specs.declared.frame.LogContent.TheVariants.{Data, Remote, Fd}
use Rattle.conode_record.specs.declared.frame.LogLine.{LogLine}
use Rattle.conode_record.specs.declared.frame.LogLine.TheVariants.{Skipped}
use Rattle.conode_record.specs.declared.frame.Place.TheVariants.{Interface}
use Rattle.conode_record.specs.Parts.{frame_of}
use Rattle.conode_logs.specs.Screen.{screen_line}
use Rattle.conode_logs.proofs.OnLines.{logs_on_lines}

-- what a line says where stamps stand for themselves
abbrev shows : List ℕ → Result LogLine BadLogLine
shows line = (screen_line false 0 line).1

-- a frame on can0
abbrev frame : ℕ → Identifier → LogContent → Option Direction → Result LogLine BadLogLine
frame micros id content direction = Ok (frame_of micros (Interface (codes "can0")) id content direction)

-- ---- stamps

no_stamp : shows (codes "  can0  605   [8]  40 00 10 00 00 00 00 00") ≡ frame 0 (Short 0x605) (Data (0x40 ∷ 0x00 ∷ 0x10 ∷ 0x00 ∷ 0x00 ∷ 0x00 ∷ 0x00 ∷ 0x00 ∷ [])) None
unfolding logs_on_lines
no_stamp = refl

absolute : shows (codes " (1700000000.012500)  can0  605   [8]  23 02 20 00 EF BE AD DE") ≡ frame 1700000000012500 (Short 0x605) (Data (0x23 ∷ 0x02 ∷ 0x20 ∷ 0x00 ∷ 0xEF ∷ 0xBE ∷ 0xAD ∷ 0xDE ∷ [])) None
unfolding logs_on_lines
absolute = refl

from_zero : shows (codes " (000.060000)  can0  706   [1]  05") ≡ frame 60000 (Short 0x706) (Data (0x05 ∷ [])) None
unfolding logs_on_lines
from_zero = refl

date : shows (codes " (2023-11-14 22:13:20.250000)  can0  706   [1]  05") ≡ frame 1700000000250000 (Short 0x706) (Data (0x05 ∷ [])) None
unfolding logs_on_lines
date = refl

stamp_of_five_digits : shows (codes " (1.00000)  can0  706   [1]  05") ≡ Err bad.Stamp
unfolding logs_on_lines
stamp_of_five_digits = refl

stamp_without_end : shows (codes " (1.000000  can0  706   [1]  05") ≡ Err bad.Stamp
unfolding logs_on_lines
stamp_without_end = refl

deltas : screen_line true 1700000000000000 (codes " (000.010000)  can0  080   [0] ") ≡ (1700000000010000, frame 1700000000010000 (Short 0x80) (Data []) None)
unfolding logs_on_lines
deltas = refl

bad_after_its_stamp : screen_line true 5000000 (codes " (001.000000)  can0  080   [9]") ≡ (6000000, Err bad.Length)
unfolding logs_on_lines
bad_after_its_stamp = refl

clock_stays_without_stamp : screen_line true 5000000 (codes " (1)  can0  080   [0]") ≡ (5000000, Err bad.Stamp)
unfolding logs_on_lines
clock_stays_without_stamp = refl

too_late : screen_line true 5000000 (codes " (999999999999.999999)  can0  080   [0]") ≡ (5000000, Err bad.TooLate)
unfolding logs_on_lines
too_late = refl

-- ---- direction and flags (-x)

marked_received : shows (codes "  can0  RX - -  706   [1]  05") ≡ frame 0 (Short 0x706) (Data (0x05 ∷ [])) (Some Received)
unfolding logs_on_lines
marked_received = refl

marked_sent : shows (codes " (1700000000.000000)  can0  TX - -  706   [1]  05") ≡ frame 1700000000000000 (Short 0x706) (Data (0x05 ∷ [])) (Some Sent)
unfolding logs_on_lines
marked_sent = refl

fd_with_switch : shows (codes "  can0  RX B -  123  [03]  AA BB CC") ≡ frame 0 (Short 0x123) (Fd 1 (0xAA ∷ 0xBB ∷ 0xCC ∷ [])) (Some Received)
unfolding logs_on_lines
fd_with_switch = refl

fd_with_error_state : shows (codes "  can0  RX - E  123  [00] ") ≡ frame 0 (Short 0x123) (Fd 2 []) (Some Received)
unfolding logs_on_lines
fd_with_error_state = refl

fd_with_both : shows (codes "  can0  TX B E  123  [00] ") ≡ frame 0 (Short 0x123) (Fd 3 []) (Some Sent)
unfolding logs_on_lines
fd_with_both = refl

flags_out_of_order : shows (codes "  can0  RX E -  123  [00] ") ≡ Err bad.Flags
unfolding logs_on_lines
flags_out_of_order = refl

one_flag : shows (codes "  can0  RX B 123  [00] ") ≡ Err bad.Flags
unfolding logs_on_lines
one_flag = refl

-- ---- identifiers

greatest_short : shows (codes "  can0       7FF   [0] ") ≡ frame 0 (Short 0x7FF) (Data []) None
unfolding logs_on_lines
greatest_short = refl

short_above : shows (codes "  can0  800   [0] ") ≡ Err bad.Identifier
unfolding logs_on_lines
short_above = refl

extended : shows (codes "  can0  18FEF100   [8]  01 02 03 04 05 06 07 08") ≡ frame 0 (Extended 0x18FEF100) (Data (0x01 ∷ 0x02 ∷ 0x03 ∷ 0x04 ∷ 0x05 ∷ 0x06 ∷ 0x07 ∷ 0x08 ∷ [])) None
unfolding logs_on_lines
extended = refl

small_extended : shows (codes "  can0  00000012   [0] ") ≡ frame 0 (Extended 0x12) (Data []) None
unfolding logs_on_lines
small_extended = refl

four_digits : shows (codes "  can0  0605   [0] ") ≡ Err bad.Identifier
unfolding logs_on_lines
four_digits = refl

-- ---- error frames (-e)

error_frame : shows (codes "  can0  20000080   [8]  00 00 00 00 00 00 00 00   ERRORFRAME") ≡ frame 0 (Error 0x80) (Data (replicate 8 0)) None
unfolding logs_on_lines
error_frame = refl

greatest_error : shows (codes "  can0  3FFFFFFF   [0]                           ERRORFRAME") ≡ frame 0 (Error 0x1FFFFFFF) (Data []) None
unfolding logs_on_lines
greatest_error = refl

error_above : shows (codes "  can0  40000000   [0]                           ERRORFRAME") ≡ Err bad.Identifier
unfolding logs_on_lines
error_above = refl

what_it_says : shows (9 ∷ codes "bus-error") ≡ Ok Skipped
unfolding logs_on_lines
what_it_says = refl

an_empty_line : shows [] ≡ Ok Skipped
unfolding logs_on_lines
an_empty_line = refl

-- ---- length and data

remote : shows (codes "  can0  18F   [2]  remote request") ≡ frame 0 (Short 0x18F) (Remote 2) None
unfolding logs_on_lines
remote = refl

remote_of_nothing : shows (codes "  can0  18F   [0]  remote request") ≡ frame 0 (Short 0x18F) (Remote 0) None
unfolding logs_on_lines
remote_of_nothing = refl

nine_bytes : shows (codes "  can0  605   [9]  00 00 00 00 00 00 00 00 00") ≡ Err bad.Length
unfolding logs_on_lines
nine_bytes = refl

fd_of_64 : shows (codes "  can0  123  [64] " ++ flat_map (λ (n : ℕ). codes " 00") (replicate 64 0)) ≡ frame 0 (Short 0x123) (Fd 0 (replicate 64 0)) None
unfolding logs_on_lines
fd_of_64 = refl

fd_of_65 : shows (codes "  can0  123  [65]  00") ≡ Err bad.Length
unfolding logs_on_lines
fd_of_65 = refl

raw_length_code : shows (codes "  can0  605   {F}  00 00 00 00 00 00 00 00") ≡ Err bad.Length
unfolding logs_on_lines
raw_length_code = refl

no_end_of_length : shows (codes "  can0  605   [8  00") ≡ Err bad.Length
unfolding logs_on_lines
no_end_of_length = refl

a_byte_lacks : shows (codes "  can0  605   [2]  40") ≡ Err bad.Data
unfolding logs_on_lines
a_byte_lacks = refl

a_byte_too_many : shows (codes "  can0  605   [1]  40 00") ≡ Err bad.Ending
unfolding logs_on_lines
a_byte_too_many = refl

binary : shows (codes "  can0  605   [1]  01000000") ≡ Err bad.Data
unfolding logs_on_lines
binary = refl

swapped : shows (codes "  can0  605   [2]  00`40") ≡ Err bad.Data
unfolding logs_on_lines
swapped = refl

-- ---- characters (-a), colours (-c) and interfaces

characters : shows (codes "  can0  605   [2]  41 20                     'A '") ≡ frame 0 (Short 0x605) (Data (0x41 ∷ 0x20 ∷ [])) None
unfolding logs_on_lines
characters = refl

no_characters : shows (codes "  can0  080   [0]                            ''") ≡ frame 0 (Short 0x80) (Data []) None
unfolding logs_on_lines
no_characters = refl

fd_characters : shows (codes "  can0  123  [01]  27                        '''") ≡ frame 0 (Short 0x123) (Fd 0 (0x27 ∷ [])) None
unfolding logs_on_lines
fd_characters = refl

colour_of_the_interface : shows (codes " (000.000000) " ++ 27 ∷ codes "[1m" ++ 27 ∷ codes "[31m can0" ++ 27 ∷ codes "[0m  706   [1]  05") ≡ frame 0 (Short 0x706) (Data (0x05 ∷ [])) None
unfolding logs_on_lines
colour_of_the_interface = refl

colour_of_the_line : shows (32 ∷ 27 ∷ codes "[31m (000.500000)  can0  706   [1]  05" ++ 27 ∷ codes "[0m") ≡ frame 500000 (Short 0x706) (Data (0x05 ∷ [])) None
unfolding logs_on_lines
colour_of_the_line = refl

name_of_16 : shows (codes "  0123456789abcdef  706   [1]  05") ≡ Err bad.Interface
unfolding logs_on_lines
name_of_16 = refl
