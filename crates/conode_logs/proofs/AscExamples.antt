-- Lines of a `.asc`, evaluated: as CANoe, log2asc and python-can write them, and both sides of each edge.
use Rattle.std.proofs.Common.{◌≡◌, ℕ, List, [], ◌∷◌, ◌++◌, Some, Result, Ok, Err, true, false, refl}
use Rattle.std.specs.Prelude.{codes, replicate}
use Rattle.std.specs.List.{flat_map}
use Rattle.conode_record.specs.declared.content.Direction.{Direction}
use Rattle.conode_record.specs.declared.content.Direction.TheVariants.{Received, Sent}
use Rattle.conode_record.specs.declared.fields.Identifier.{Identifier}
use Rattle.conode_record.specs.declared.fields.Identifier.TheVariants.{Base as Short, Extended, Error}
use Rattle.conode_record.specs.declared.bad_log_line.BadLogLine.{BadLogLine}
use Rattle.conode_record.specs.declared.bad_log_line.BadLogLine.TheVariants as bad
use Rattle.conode_record.specs.declared.frame.LogContent.{LogContent}
use Rattle.conode_record.specs.declared.frame.LogContent.TheVariants.{Data, Remote, Fd}
use Rattle.conode_record.specs.declared.frame.LogLine.{LogLine}
use Rattle.conode_record.specs.declared.frame.LogLine.TheVariants.{Skipped}
use Rattle.conode_record.specs.declared.frame.Place.TheVariants.{Channel}
use Rattle.conode_record.specs.declared.numbers.Base.TheVariants.{Hexadecimal, Decimal}
use Rattle.conode_record.specs.Parts.{error_frame, frame_of}
use Rattle.conode_logs.specs.declared.asc.AscForm.{AscForm}
use Rattle.conode_logs.specs.Asc.{asc_line}
use Rattle.conode_logs.proofs.OnLines.{logs_on_lines}

-- `base hex  timestamps absolute`
abbrev hex : AscForm
hex = record { base = Hexadecimal; relative = false }

-- `base dec  timestamps relative`
abbrev dec_relative : AscForm
dec_relative = record { base = Decimal; relative = true }

-- what a line says in hexadecimal digits
abbrev reads : List ℕ → Result LogLine BadLogLine
reads line = (asc_line hex 0 line).1.1

-- a frame on a channel
abbrev on : ℕ → ℕ → Identifier → LogContent → Direction → Result LogLine BadLogLine
on channel micros id content direction = Ok (frame_of micros (Channel channel) id content (Some direction))

-- ---- the header

date : asc_line hex 7 (codes "date Tue Nov 14 10:13:20.000 PM 2023") ≡ (hex, (7, Ok Skipped))
unfolding logs_on_lines
date = refl

base_hex : asc_line hex 7 (codes "base hex  timestamps absolute") ≡ (hex, (7, Ok Skipped))
unfolding logs_on_lines
base_hex = refl

base_dec : asc_line hex 7 (codes "base dec  timestamps relative") ≡ (dec_relative, (7, Ok Skipped))
unfolding logs_on_lines
base_dec = refl

base_alone : asc_line hex 7 (codes "base dec") ≡ (record { base = Decimal; relative = false }, (7, Ok Skipped))
unfolding logs_on_lines
base_alone = refl

hex_and_relative : asc_line hex 7 (codes "base hex timestamps relative") ≡ (record { base = Hexadecimal; relative = true }, (7, Ok Skipped))
unfolding logs_on_lines
hex_and_relative = refl

base_oct : asc_line hex 7 (codes "base oct  timestamps absolute") ≡ (hex, (7, Err bad.Base))
unfolding logs_on_lines
base_oct = refl

other_timestamps : asc_line hex 7 (codes "base dec  timestamps other") ≡ (hex, (7, Err bad.Base))
unfolding logs_on_lines
other_timestamps = refl

other_word_after_base : asc_line hex 7 (codes "base dec  stamps absolute") ≡ (hex, (7, Err bad.Base))
unfolding logs_on_lines
other_word_after_base = refl

events_logged : asc_line hex 7 (codes "internal events logged") ≡ (hex, (7, Ok Skipped))
unfolding logs_on_lines
events_logged = refl

no_events_logged : asc_line hex 7 (codes "no internal events logged") ≡ (hex, (7, Ok Skipped))
unfolding logs_on_lines
no_events_logged = refl

comment : asc_line hex 7 (codes "// version 9.0.0") ≡ (hex, (7, Ok Skipped))
unfolding logs_on_lines
comment = refl

begin : asc_line hex 7 (codes "Begin Triggerblock Tue Nov 14 22:13:20 2023") ≡ (hex, (7, Ok Skipped))
unfolding logs_on_lines
begin = refl

end : asc_line hex 7 (codes "End TriggerBlock") ≡ (hex, (7, Ok Skipped))
unfolding logs_on_lines
end = refl

previous : asc_line hex 7 (codes "previous log file: a.asc") ≡ (hex, (7, Ok Skipped))
unfolding logs_on_lines
previous = refl

empty : asc_line hex 7 (codes "") ≡ (hex, (7, Ok Skipped))
unfolding logs_on_lines
empty = refl

other_word : reads (codes "frames follow") ≡ Err bad.Stamp
unfolding logs_on_lines
other_word = refl

-- ---- frames

data_frame : reads (codes "   0.012500 1  605             Tx   d 8 23 02 20 00 EF BE AD DE") ≡ on 1 12500 (Short 0x605) (Data (0x23 ∷ 0x02 ∷ 0x20 ∷ 0x00 ∷ 0xEF ∷ 0xBE ∷ 0xAD ∷ 0xDE ∷ [])) Sent
unfolding logs_on_lines
data_frame = refl

data_with_more : reads (codes " 2.002367 1  605             Rx   d 2 17 FF  Length = 152013 BitCount = 78 ID = 1541") ≡ on 1 2002367 (Short 0x605) (Data (0x17 ∷ 0xFF ∷ [])) Received
unfolding logs_on_lines
data_with_more = refl

without_zeros : reads (codes "   0.065000 2  5               Rx   d 1 07") ≡ on 2 65000 (Short 0x5) (Data (0x07 ∷ [])) Received
unfolding logs_on_lines
without_zeros = refl

no_data : reads (codes "   0.065000 1  80              Rx   d 0") ≡ on 1 65000 (Short 0x80) (Data []) Received
unfolding logs_on_lines
no_data = refl

extended : reads (codes "   0.062000 1  18FEF100x       Rx   d 8 01 02 03 04 05 06 07 08") ≡ on 1 62000 (Extended 0x18FEF100) (Data (0x01 ∷ 0x02 ∷ 0x03 ∷ 0x04 ∷ 0x05 ∷ 0x06 ∷ 0x07 ∷ 0x08 ∷ [])) Received
unfolding logs_on_lines
extended = refl

small_extended : reads (codes "   0.062000 1  12x             Rx   d 0") ≡ on 1 62000 (Extended 0x12) (Data []) Received
unfolding logs_on_lines
small_extended = refl

greatest_short : reads (codes "0 1 7FF Rx d 0") ≡ on 1 0 (Short 0x7FF) (Data []) Received
unfolding logs_on_lines
greatest_short = refl

short_above : reads (codes "0 1 800 Rx d 0") ≡ Err bad.Identifier
unfolding logs_on_lines
short_above = refl

greatest_extended : reads (codes "0 1 1FFFFFFFx Rx d 0") ≡ on 1 0 (Extended 0x1FFFFFFF) (Data []) Received
unfolding logs_on_lines
greatest_extended = refl

extended_above : reads (codes "0 1 20000000x Rx d 0") ≡ Err bad.Identifier
unfolding logs_on_lines
extended_above = refl

an_x_alone : reads (codes "0 1 x Rx d 0") ≡ Err bad.Identifier
unfolding logs_on_lines
an_x_alone = refl

remote : reads (codes "   0.061000 1  18F             Rx   r 2") ≡ on 1 61000 (Short 0x18F) (Remote 2) Received
unfolding logs_on_lines
remote = refl

remote_without_length : reads (codes "   0.061000 1  18F             Rx   r") ≡ on 1 61000 (Short 0x18F) (Remote 0) Received
unfolding logs_on_lines
remote_without_length = refl

remote_with_more : reads (codes "   0.061000 1  18F             Rx   r Length = 0 BitCount = 0 ID = 399") ≡ on 1 61000 (Short 0x18F) (Remote 0) Received
unfolding logs_on_lines
remote_with_more = refl

nine_bytes : reads (codes "0 1 605 Rx d 9 00 00 00 00 00 00 00 00 00") ≡ Err bad.Length
unfolding logs_on_lines
nine_bytes = refl

a_byte_lacks : reads (codes "0 1 605 Rx d 2 00") ≡ Err bad.Data
unfolding logs_on_lines
a_byte_lacks = refl

other_kind : reads (codes "0 1 605 Rx e 0") ≡ Err bad.Type
unfolding logs_on_lines
other_kind = refl

no_direction : reads (codes "0 1 605 d 0") ≡ Err bad.Direction
unfolding logs_on_lines
no_direction = refl

request_to_send : reads (codes "   0.061000 1  605             TxRq d 1 00") ≡ Ok Skipped
unfolding logs_on_lines
request_to_send = refl

error_frame_on_1 : reads (codes "   0.064000 1  ErrorFrame") ≡ Ok (error_frame 64000 (Channel 1))
unfolding logs_on_lines
error_frame_on_1 = refl

error_frame_on_2 : reads (codes "   0.064000 2  ErrorFrame Flags = 0xe CodeExt = 0x20a2") ≡ Ok (error_frame 64000 (Channel 2))
unfolding logs_on_lines
error_frame_on_2 = refl

-- ---- events that are no frames

start : reads (codes "   0.000000 Start of measurement") ≡ Ok Skipped
unfolding logs_on_lines
start = refl

statistic : reads (codes "   1.000000 1  Statistic: D 1 R 0 XD 0 XR 0 E 0 O 0 B 1.00%") ≡ Ok Skipped
unfolding logs_on_lines
statistic = refl

overload : reads (codes "   1.000000 1  OverloadFrame") ≡ Ok Skipped
unfolding logs_on_lines
overload = refl

j1939 : reads (codes "   1.000000 1  J1939TP FEE3p 6  0   0   -   Rx   d 2 AA 00") ≡ Ok Skipped
unfolding logs_on_lines
j1939 = refl

status : reads (codes "   1.000000 CAN 1 Status:chip status error active") ≡ Ok Skipped
unfolding logs_on_lines
status = refl

trigger : reads (codes "   1.000000 log trigger event") ≡ Ok Skipped
unfolding logs_on_lines
trigger = refl

channel_0 : reads (codes "0 0 605 Rx d 0") ≡ Err bad.Interface
unfolding logs_on_lines
channel_0 = refl

stamp_alone : reads (codes "   1.000000") ≡ Err bad.Interface
unfolding logs_on_lines
stamp_alone = refl

-- ---- CAN FD

fd : reads (codes "   0.063000 CANFD   1 Rx        123                                   1 0 3  3 AA BB CC   130000  130     3000 0 0 0 0 0") ≡ on 1 63000 (Short 0x123) (Fd 1 (0xAA ∷ 0xBB ∷ 0xCC ∷ [])) Received
unfolding logs_on_lines
fd = refl

fd_of_12 : reads (codes "   0.063500 CANFD   2 Tx        123x                                  0 1 9 12 00 01 02 03 04 05 06 07 08 09 0A 0B        0    0     5000        0        0        0        0        0") ≡ on 2 63500 (Extended 0x123) (Fd 2 (0x00 ∷ 0x01 ∷ 0x02 ∷ 0x03 ∷ 0x04 ∷ 0x05 ∷ 0x06 ∷ 0x07 ∷ 0x08 ∷ 0x09 ∷ 0x0A ∷ 0x0B ∷ [])) Sent
unfolding logs_on_lines
fd_of_12 = refl

fd_with_a_name : reads (codes "  21.671796 CANFD   1 Tx         11  msgCanFdFr1                     1 1 0 0   100000  214   227040 80000000 46500250 460a0250 20011736 20010205") ≡ on 1 21671796 (Short 0x11) (Fd 3 []) Sent
unfolding logs_on_lines
fd_with_a_name = refl

fd_of_64 : reads (codes " 1.5 CANFD 1 Rx 123 1 0 f 64" ++ flat_map (λ (n : ℕ). codes " 00") (replicate 64 0) ++ codes " 0 0 3000") ≡ on 1 1500000 (Short 0x123) (Fd 1 (replicate 64 0)) Received
unfolding logs_on_lines
fd_of_64 = refl

fd_of_65 : reads (codes " 1.5 CANFD 1 Rx 123 1 0 f 65 00") ≡ Err bad.Length
unfolding logs_on_lines
fd_of_65 = refl

fd_alone : reads (codes " 1.5 CANFD 1 Rx 123 0 0 1 1 07") ≡ on 1 1500000 (Short 0x123) (Fd 0 (0x07 ∷ [])) Received
unfolding logs_on_lines
fd_alone = refl

classical : reads (codes " 1.5 CANFD 1 Rx 123 0 0 2 2 01 02 120000 60 0 0 0 0 0 0") ≡ on 1 1500000 (Short 0x123) (Data (0x01 ∷ 0x02 ∷ [])) Received
unfolding logs_on_lines
classical = refl

classical_remote : reads (codes " 1.5 CANFD 1 Rx 18F 0 0 2 0 120000 60 10 0 0 0 0 0") ≡ on 1 1500000 (Short 0x18F) (Remote 2) Received
unfolding logs_on_lines
classical_remote = refl

classical_of_12 : reads (codes " 1.5 CANFD 1 Rx 123 0 0 9 12 00 00 00 00 00 00 00 00 00 00 00 00 120000 60 0 0") ≡ Err bad.Length
unfolding logs_on_lines
classical_of_12 = refl

fd_flag_2 : reads (codes " 1.5 CANFD 1 Rx 123 2 0 1 1 07") ≡ Err bad.Flags
unfolding logs_on_lines
fd_flag_2 = refl

fd_a_byte_lacks : reads (codes " 1.5 CANFD 1 Rx 123 0 0 2 2 07") ≡ Err bad.Data
unfolding logs_on_lines
fd_a_byte_lacks = refl

fd_error_frame : reads (codes "   0.064000 CANFD   2 Rx   ErrorFrame   Bit Error   e 0") ≡ Ok (error_frame 64000 (Channel 2))
unfolding logs_on_lines
fd_error_frame = refl

fd_request_to_send : reads (codes " 1.5 CANFD 1 TxRq 123 0 0 1 1 07") ≡ Ok Skipped
unfolding logs_on_lines
fd_request_to_send = refl

fd_no_channel : reads (codes " 1.5 CANFD Rx 123 0 0 1 1 07") ≡ Err bad.Interface
unfolding logs_on_lines
fd_no_channel = refl

-- ---- decimal numbers, and stamps that are counted on

decimal : asc_line dec_relative 1000000 (codes "   0.012500 1  1541            Tx   d 4 35 2 32 255") ≡ (dec_relative, (1012500, on 1 1012500 (Short 1541) (Data (35 ∷ 2 ∷ 32 ∷ 255 ∷ [])) Sent))
unfolding logs_on_lines
decimal = refl

decimal_extended : asc_line dec_relative 0 (codes "   0.0 1  419361024x      Rx   d 0") ≡ (dec_relative, (0, on 1 0 (Extended 419361024) (Data []) Received))
unfolding logs_on_lines
decimal_extended = refl

decimal_byte_above : asc_line dec_relative 0 (codes "   0.5 1  1541            Rx   d 1 256") ≡ (dec_relative, (500000, Err bad.Data))
unfolding logs_on_lines
decimal_byte_above = refl

events_count_too : asc_line dec_relative 1000000 (codes "   0.001000 1  Statistic: D 1 R 0") ≡ (dec_relative, (1001000, Ok Skipped))
unfolding logs_on_lines
events_count_too = refl

absolute_stands : asc_line hex 1000000 (codes "   0.012500 1  ErrorFrame") ≡ (hex, (12500, Ok (error_frame 12500 (Channel 1))))
unfolding logs_on_lines
absolute_stands = refl

too_late : asc_line dec_relative 1 (codes "999999999999.999999 1  ErrorFrame") ≡ (dec_relative, (1, Err bad.TooLate))
unfolding logs_on_lines
too_late = refl
