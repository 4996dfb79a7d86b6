-- Lines of a `.trc`, evaluated: those of each version, and both sides of each edge.
use Rattle.std.proofs.Common.{◌≡◌, ℕ, List, [], ◌∷◌, ◌++◌, Some, Result, Ok, Err, true, false, refl}
use Rattle.std.specs.Prelude.{codes, replicate}
use Rattle.std.specs.List.{flat_map}
use Rattle.conode_record.specs.declared.content.Direction.{Direction}
use Rattle.conode_record.specs.declared.content.Direction.TheVariants.{Received, Sent}
use Rattle.conode_record.specs.declared.fields.Identifier.{Identifier}
use Rattle.conode_record.specs.declared.fields.Identifier.TheVariants.{Base as Short, Extended, Error}
use Rattle.conode_record.specs.declared.bad_log_line.BadLogLine.{BadLogLine}
use Rattle.conode_record.specs.declared.bad_log_line.BadLogLine.TheVariants as bad
use Rattle.conode_record.specs.declared.frame.LogContent.{LogContent}
use Rattle.conode_record.specs.declared.frame.LogContent.TheVariants.{Data, Remote, Fd}
use Rattle.conode_record.specs.declared.frame.LogLine.{LogLine}
use Rattle.conode_record.specs.declared.frame.LogLine.TheVariants.{Skipped}
use Rattle.conode_record.specs.declared.frame.Place.TheVariants.{Channel}
use Rattle.conode_record.specs.Parts.{error_frame, frame_of}
use Rattle.conode_logs.specs.declared.trc.Columns.{Columns}
use Rattle.conode_logs.specs.Trc.{named, trc_line, version_1_1, version_1_3}
use Rattle.conode_logs.proofs.OnLines.{logs_on_lines}

-- the columns that files of version 2.0 and 2.1 name: N,O,T,I,d,l,D and N,O,T,B,I,d,R,L,D
abbrev version_2_0 : Columns
version_2_0 = named false false true

abbrev version_2_1 : Columns
version_2_1 = named true true false

-- what a line says, by the columns of the file
abbrev reads : Columns → List ℕ → Result LogLine BadLogLine
reads columns line = (trc_line columns line).1

-- a frame on a channel
abbrev on : ℕ → ℕ → Identifier → LogContent → Direction → Result LogLine BadLogLine
on channel micros id content direction = Ok (frame_of micros (Channel channel) id content (Some direction))

-- ---- version 1.1

old_received : reads version_1_1 (codes "     1)      1059.9  Rx         0300  7  00 00 00 00 04 00 00 ") ≡ on 1 1059900 (Short 0x300) (Data (0x00 ∷ 0x00 ∷ 0x00 ∷ 0x00 ∷ 0x04 ∷ 0x00 ∷ 0x00 ∷ [])) Received
unfolding logs_on_lines
old_received = refl

old_sent : reads version_1_1 (codes "     2)        12.5  Tx         0605  8  23 02 20 00 EF BE AD DE ") ≡ on 1 12500 (Short 0x605) (Data (0x23 ∷ 0x02 ∷ 0x20 ∷ 0x00 ∷ 0xEF ∷ 0xBE ∷ 0xAD ∷ 0xDE ∷ [])) Sent
unfolding logs_on_lines
old_sent = refl

old_remote : reads version_1_1 (codes "     7)        61.0  Rx         018F  2  RTR") ≡ on 1 61000 (Short 0x18F) (Remote 2) Received
unfolding logs_on_lines
old_remote = refl

old_extended : reads version_1_1 (codes "     8)        62.0  Rx     18FEF100  0") ≡ on 1 62000 (Extended 0x18FEF100) (Data []) Received
unfolding logs_on_lines
old_extended = refl

old_warning : reads version_1_1 (codes "     9)        63.0  Warng  FFFFFFFF  4  00 00 00 08  BUSHEAVY") ≡ Ok Skipped
unfolding logs_on_lines
old_warning = refl

old_error : reads version_1_1 (codes "    10)        64.0  Error      0008  4  00 19 08 08") ≡ Ok (error_frame 64000 (Channel 1))
unfolding logs_on_lines
old_error = refl

old_other_type : reads version_1_1 (codes "    11)        65.0  Other      0300  0") ≡ Err bad.Type
unfolding logs_on_lines
old_other_type = refl

-- ---- version 1.3

bus_1 : reads version_1_3 (codes "     1)      1059.900 1  Rx        0300 -  7    00 00 00 00 04 00 00") ≡ on 1 1059900 (Short 0x300) (Data (0x00 ∷ 0x00 ∷ 0x00 ∷ 0x00 ∷ 0x04 ∷ 0x00 ∷ 0x00 ∷ [])) Received
unfolding logs_on_lines
bus_1 = refl

bus_2 : reads version_1_3 (codes "     2)      1283.231 2  Tx        0300 -  2    01 FE") ≡ on 2 1283231 (Short 0x300) (Data (0x01 ∷ 0xFE ∷ [])) Sent
unfolding logs_on_lines
bus_2 = refl

bus_remote : reads version_1_3 (codes "     3)      1283.231 1  Rx        0100 -  3    RTR") ≡ on 1 1283231 (Short 0x100) (Remote 3) Received
unfolding logs_on_lines
bus_remote = refl

bus_warning : reads version_1_3 (codes "     4)      1334.416 1  Warng FFFFFFFF -  4    00 00 00 04  BUSLIGHT") ≡ Ok Skipped
unfolding logs_on_lines
bus_warning = refl

bus_error : reads version_1_3 (codes "     5)      1334.522 2  Error     0008 -  4    00 19 08 08") ≡ Ok (error_frame 1334522 (Channel 2))
unfolding logs_on_lines
bus_error = refl

no_bus : reads version_1_3 (codes "     6)      1334.522 Rx        0300 -  0") ≡ Err bad.Interface
unfolding logs_on_lines
no_bus = refl

-- ---- version 2.0: the length is a number of bytes

data_frame : reads version_2_0 (codes "      1      1059.900 DT     0300 Rx 7  00 00 00 00 04 00 00 ") ≡ on 1 1059900 (Short 0x300) (Data (0x00 ∷ 0x00 ∷ 0x00 ∷ 0x00 ∷ 0x04 ∷ 0x00 ∷ 0x00 ∷ [])) Received
unfolding logs_on_lines
data_frame = refl

request : reads version_2_0 (codes "      7        61.000 RR     018F Rx 2  ") ≡ on 1 61000 (Short 0x18F) (Remote 2) Received
unfolding logs_on_lines
request = refl

request_with_data : reads version_2_0 (codes "      7        61.000 RR     018F Rx 1  00") ≡ Err bad.Ending
unfolding logs_on_lines
request_with_data = refl

fd_of_48 : reads version_2_0 (codes " 8 1334.416 FD 0500 Tx 48" ++ flat_map (λ (n : ℕ). codes " 00") (replicate 48 0)) ≡ on 1 1334416 (Short 0x500) (Fd 0 (replicate 48 0)) Sent
unfolding logs_on_lines
fd_of_48 = refl

fd_of_65 : reads version_2_0 (codes "      8      1334.416 FD     0500 Tx 65  00") ≡ Err bad.Length
unfolding logs_on_lines
fd_of_65 = refl

status : reads version_2_0 (codes "      5      1323.201 ST          Rx    00 00 00 08") ≡ Ok Skipped
unfolding logs_on_lines
status = refl

error : reads version_2_0 (codes "      6      1334.522 ER          Rx    04 00 02 00 00") ≡ Ok (error_frame 1334522 (Channel 1))
unfolding logs_on_lines
error = refl

old_type : reads version_2_0 (codes "      6      1334.522 Rx     0300 0") ≡ Err bad.Type
unfolding logs_on_lines
old_type = refl

-- ---- version 2.1: the length is a code

data_on_a_bus : reads version_2_1 (codes "      1      1059.900 DT 1      0300 Rx -  7    00 00 00 00 04 00 00 ") ≡ on 1 1059900 (Short 0x300) (Data (0x00 ∷ 0x00 ∷ 0x00 ∷ 0x00 ∷ 0x04 ∷ 0x00 ∷ 0x00 ∷ [])) Received
unfolding logs_on_lines
data_on_a_bus = refl

sent_on_a_bus : reads version_2_1 (codes "      2      1283.231 DT 2  18FEF100 Tx -  1    FF") ≡ on 2 1283231 (Extended 0x18FEF100) (Data (0xFF ∷ [])) Sent
unfolding logs_on_lines
sent_on_a_bus = refl

request_on_a_bus : reads version_2_1 (codes "      3      1323.201 RR 1      0100 Rx -  8") ≡ on 1 1323201 (Short 0x100) (Remote 8) Received
unfolding logs_on_lines
request_on_a_bus = refl

fd_of_12 : reads version_2_1 (codes "      4      1334.416 FB 1      0500 Tx -  9    00 01 02 03 04 05 06 07 08 09 0A 0B") ≡ on 1 1334416 (Short 0x500) (Fd 1 (0x00 ∷ 0x01 ∷ 0x02 ∷ 0x03 ∷ 0x04 ∷ 0x05 ∷ 0x06 ∷ 0x07 ∷ 0x08 ∷ 0x09 ∷ 0x0A ∷ 0x0B ∷ [])) Sent
unfolding logs_on_lines
fd_of_12 = refl

fd_with_error_state : reads version_2_1 (codes "      4      1334.416 FE 1      0500 Rx -  0") ≡ on 1 1334416 (Short 0x500) (Fd 2 []) Received
unfolding logs_on_lines
fd_with_error_state = refl

fd_with_both : reads version_2_1 (codes "      4      1334.416 BI 1      0500 Rx -  0") ≡ on 1 1334416 (Short 0x500) (Fd 3 []) Received
unfolding logs_on_lines
fd_with_both = refl

fd_of_code_15 : reads version_2_1 (codes " 4 1334.416 FD 1 0500 Rx - 15" ++ flat_map (λ (n : ℕ). codes " 00") (replicate 64 0)) ≡ on 1 1334416 (Short 0x500) (Fd 0 (replicate 64 0)) Received
unfolding logs_on_lines
fd_of_code_15 = refl

fd_of_code_16 : reads version_2_1 (codes "      4      1334.416 FD 1      0500 Rx -  16   00") ≡ Err bad.Length
unfolding logs_on_lines
fd_of_code_16 = refl

counters : reads version_2_1 (codes "      8      1358.003 EC 1         - Rx -  2    02 02") ≡ Ok Skipped
unfolding logs_on_lines
counters = refl

event_of_all_buses : reads version_2_1 (codes "      9      1358.103 EV -  by hand") ≡ Ok Skipped
unfolding logs_on_lines
event_of_all_buses = refl

error_on_a_bus : reads version_2_1 (codes "     10      1358.203 ER 2         - Rx -  5    04 00 02 00 00") ≡ Ok (error_frame 1358203 (Channel 2))
unfolding logs_on_lines
error_on_a_bus = refl

bus_0 : reads version_2_1 (codes "      1      1059.900 DT 0      0300 Rx -  0") ≡ Err bad.Interface
unfolding logs_on_lines
bus_0 = refl

other_direction : reads version_2_1 (codes "      1      1059.900 DT 1      0300 TX -  0") ≡ Err bad.Direction
unfolding logs_on_lines
other_direction = refl

nothing_after_the_direction : reads version_2_1 (codes "      1      1059.900 DT 1      0300 Tx") ≡ Err bad.Length
unfolding logs_on_lines
nothing_after_the_direction = refl

-- ---- identifiers, lengths and stamps

greatest_short : reads version_2_0 (codes "  1  0.000 DT  07FF Rx 0") ≡ on 1 0 (Short 0x7FF) (Data []) Received
unfolding logs_on_lines
greatest_short = refl

short_above : reads version_2_0 (codes "  1  0.000 DT  0800 Rx 0") ≡ Err bad.Identifier
unfolding logs_on_lines
short_above = refl

greatest_extended : reads version_2_0 (codes "  1  0.000 DT  1FFFFFFF Rx 0") ≡ on 1 0 (Extended 0x1FFFFFFF) (Data []) Received
unfolding logs_on_lines
greatest_extended = refl

extended_above : reads version_2_0 (codes "  1  0.000 DT  20000000 Rx 0") ≡ Err bad.Identifier
unfolding logs_on_lines
extended_above = refl

extended_of_7_digits : reads version_2_1 (codes "      3        62.500 DT  2  0000012 Rx -  1    01") ≡ on 2 62500 (Extended 0x12) (Data (0x01 ∷ [])) Received
unfolding logs_on_lines
extended_of_7_digits = refl

extended_of_5_digits : reads version_2_0 (codes "  1  0.000 DT  00012 Rx 0") ≡ on 1 0 (Extended 0x12) (Data []) Received
unfolding logs_on_lines
extended_of_5_digits = refl

three_digits : reads version_2_0 (codes "  1  0.000 DT  300 Rx 0") ≡ Err bad.Identifier
unfolding logs_on_lines
three_digits = refl

nine_digits : reads version_2_0 (codes "  1  0.000 DT  018FEF100 Rx 0") ≡ Err bad.Identifier
unfolding logs_on_lines
nine_digits = refl

nine_bytes : reads version_2_0 (codes "  1  0.000 DT  0300 Rx 9  00 00 00 00 00 00 00 00 00") ≡ Err bad.Length
unfolding logs_on_lines
nine_bytes = refl

a_byte_lacks : reads version_2_0 (codes "  1  0.000 DT  0300 Rx 2  00") ≡ Err bad.Data
unfolding logs_on_lines
a_byte_lacks = refl

a_byte_too_many : reads version_2_0 (codes "  1  0.000 DT  0300 Rx 1  00 00") ≡ Err bad.Ending
unfolding logs_on_lines
a_byte_too_many = refl

no_stamp : reads version_2_0 (codes "  1  DT  0300 Rx 0") ≡ Err bad.Stamp
unfolding logs_on_lines
no_stamp = refl

a_number_alone : reads version_2_0 (codes "  1") ≡ Err bad.Stamp
unfolding logs_on_lines
a_number_alone = refl

-- ---- lines that say nothing of frames, or how they are written

comment : reads version_2_0 (codes ";   Start time: 14.11.2023 22:13:20.000.0") ≡ Ok Skipped
unfolding logs_on_lines
comment = refl

empty : reads version_2_0 [] ≡ Ok Skipped
unfolding logs_on_lines
empty = refl

blanks : reads version_2_0 (codes "   ") ≡ Ok Skipped
unfolding logs_on_lines
blanks = refl

says_1_1 : trc_line (named true false false) (codes ";$FILEVERSION=1.1") ≡ (version_1_1, Ok Skipped)
unfolding logs_on_lines
says_1_1 = refl

says_1_3 : trc_line (named true false false) (codes ";$FILEVERSION=1.3") ≡ (version_1_3, Ok Skipped)
unfolding logs_on_lines
says_1_3 = refl

says_2_0 : trc_line (named true false false) (codes ";$FILEVERSION=2.0") ≡ (version_2_0, Ok Skipped)
unfolding logs_on_lines
says_2_0 = refl

says_2_1 : trc_line (named true false false) (codes ";$FILEVERSION=2.1") ≡ (version_2_1, Ok Skipped)
unfolding logs_on_lines
says_2_1 = refl

says_version_1_0 : trc_line version_2_0 (codes ";$FILEVERSION=1.0") ≡ (version_2_0, Err bad.Version)
unfolding logs_on_lines
says_version_1_0 = refl

says_version_1_2 : trc_line version_2_0 (codes ";$FILEVERSION=1.2") ≡ (version_2_0, Err bad.Version)
unfolding logs_on_lines
says_version_1_2 = refl

says_version_2_2 : trc_line version_2_0 (codes ";$FILEVERSION=2.2") ≡ (version_2_0, Err bad.Version)
unfolding logs_on_lines
says_version_2_2 = refl

says_version_3_0 : trc_line version_2_0 (codes ";$FILEVERSION=3.0") ≡ (version_2_0, Err bad.Version)
unfolding logs_on_lines
says_version_3_0 = refl

says_longer_version : trc_line version_2_0 (codes ";$FILEVERSION=2.10") ≡ (version_2_0, Err bad.Version)
unfolding logs_on_lines
says_longer_version = refl

columns_NOTBIdR_codeD : trc_line version_1_1 (codes ";$COLUMNS=N,O,T,B,I,d,R,L,D") ≡ (named true true false, Ok Skipped)
unfolding logs_on_lines
columns_NOTBIdR_codeD = refl

columns_NOTBIdR_countD : trc_line version_1_1 (codes ";$COLUMNS=N,O,T,B,I,d,R,l,D") ≡ (named true true true, Ok Skipped)
unfolding logs_on_lines
columns_NOTBIdR_countD = refl

columns_NOTBId_codeD : trc_line version_1_1 (codes ";$COLUMNS=N,O,T,B,I,d,L,D") ≡ (named true false false, Ok Skipped)
unfolding logs_on_lines
columns_NOTBId_codeD = refl

columns_NOTBId_countD : trc_line version_1_1 (codes ";$COLUMNS=N,O,T,B,I,d,l,D") ≡ (named true false true, Ok Skipped)
unfolding logs_on_lines
columns_NOTBId_countD = refl

columns_NOTIdR_codeD : trc_line version_1_1 (codes ";$COLUMNS=N,O,T,I,d,R,L,D") ≡ (named false true false, Ok Skipped)
unfolding logs_on_lines
columns_NOTIdR_codeD = refl

columns_NOTIdR_countD : trc_line version_1_1 (codes ";$COLUMNS=N,O,T,I,d,R,l,D") ≡ (named false true true, Ok Skipped)
unfolding logs_on_lines
columns_NOTIdR_countD = refl

columns_NOTId_codeD : trc_line version_1_1 (codes ";$COLUMNS=N,O,T,I,d,L,D") ≡ (named false false false, Ok Skipped)
unfolding logs_on_lines
columns_NOTId_codeD = refl

columns_NOTId_countD : trc_line version_1_1 (codes ";$COLUMNS=N,O,T,I,d,l,D") ≡ (named false false true, Ok Skipped)
unfolding logs_on_lines
columns_NOTId_countD = refl

columns_out_of_order : trc_line version_2_0 (codes ";$COLUMNS=N,O,T,B,d,I,R,L,D") ≡ (version_2_0, Err bad.Columns)
unfolding logs_on_lines
columns_out_of_order = refl

columns_without_a_type : trc_line version_2_0 (codes ";$COLUMNS=N,O,I,d,L,D") ≡ (version_2_0, Err bad.Columns)
unfolding logs_on_lines
columns_without_a_type = refl
