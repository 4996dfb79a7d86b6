-- Lines of differences, computed from the definitions.
use Rattle.std.proofs.Common.{◌≡◌, ℕ, ℤ, pos, negsuc, Bool, true, false, [], ◌∷◌, ◌++◌, map, Some, None, refl, codes}
use Rattle.std.specs.Fmt.{digits}
use Rattle.co_text.specs.Printed.{digits_text}
use Rattle.co_value.specs.declared.data_type.DataType.TheVariants.{Integer16, Unsigned8, Unsigned16, Unsigned32}
use Rattle.co_value.specs.declared.key.Key.{Key}
use Rattle.conode_explain_transfers.specs.declared.kinds.Side.TheVariants.{Client, Server}
use Rattle.conode_explain_values.specs.declared.value_type.ValueType.{ValueType}
use Rattle.conode_explain_values.specs.declared.value_type.ValueType.TheVariants.{Plain, Real32, TimeOfDay}
use Rattle.conode_explain_values.specs.Numbers.{number_text}
use Rattle.conode_explain_values.specs.Values.{value_text}
use Rattle.conode_compare_pdos.specs.declared.deviation.Deviation.TheVariants.{Length, NotOperational, WithoutSync, FewSyncs, Inhibit, Timer}
use Rattle.conode_compare_transfers.specs.declared.breach.Breach.TheVariants.{Toggle, Form, AbortKey, Size, Crc, Early}
use Rattle.conode_compare_values.specs.declared.mismatch.Mismatch.TheVariants.{ValueLength, ValueConst, ConstText, ReadRefused, ReadServed, Written, AboveLimit, BelowLimit, BeyondRoom}
use Rattle.conode_compare_nmt.specs.declared.finding.Finding.TheVariants.{BootMissing, SecondBootUp, HeartbeatLength, NoState, WrongState, TwoStates, HeartbeatLate, LateAfterBootUp, LateAfterTransfer, HeartbeatOff, EmergencyLength, EmergencyRegister, EmergencyInhibit, NoAnswer, AnswerKey, AnswerForm, AnswerStopped, Transfer, Value, Held, Pdo}
use Rattle.conode_compare_nmt.specs.declared.finding.NmtState.TheVariants.{PreOperational, Operational}
use Rattle.conode_compare_rules.specs.declared.kind.FrameKind.TheVariants.{Control, Emergency, Fault, OddControl, OddEmergency, Process, Sdo}
use Rattle.conode_compare_rules.specs.declared.verdict.Verdict.TheVariants.{Prescribed, Different, Unjudged}
use Rattle.conode_compare_choices.specs.declared.choice.Choice.TheVariants.{Segments, NoSize, ShortSegment, NoCrc, BlockSize, Switched, Code, Timeout, NoTimeout, Heartbeat, Phase, NoEmergency, OtherEmergency}
use Rattle.conode_compare_choices.specs.declared.length_error.LengthError.TheVariants.{ShortRpdo, LongRpdo, OddSync}
use Rattle.conode_compare_notes.specs.declared.warning.Warning.TheVariants.{Changed, ChangedBytes, OddCode, OtherError, OtherRevision, OtherText, Restarted, SteppedBack, Stored}
use Rattle.conode_compare_text.specs.declared.details.Details.{Details}
use Rattle.conode_compare_text.specs.ChoiceTexts.{choice_line, choice_text, choices_summary}
use Rattle.conode_text.specs.Filled.{filled}
use Rattle.conode_compare_text.specs.FindingTexts.{finding_line, finding_text, mismatch_text, pdo_text, transfer_text}
use Rattle.conode_compare_text.specs.Beside.{came_at, no_details, nothing_came}
use Rattle.conode_compare_text.specs.LearnedTexts.{learned_line, other_text, typed_text}
use Rattle.conode_compare_text.specs.Tallies.{no_frames, none_unjudged, summary, tally_text, tally_with, unjudged_line, unjudged_with}
use Rattle.conode_compare_text.specs.Values.{bytes_text, came_text, eight_digits, hexadecimal, line_front, millis_text, shown_value}
use Rattle.conode_compare_text.specs.WarningTexts.{warning_line, warning_text}

abbrev key : Key
key = record { index = 0x1018; sub = 1 }

abbrev plain : Details
plain = no_details

-- values of a type
abbrev of_type : ValueType → Details
of_type t = record no_details { value_type = t }

-- an answer of so many bytes with this command, of 1018:02, to a request that asks to write, or not
abbrev after : Bool → ℕ → ℕ → Details
after writes length command = record no_details { writes = writes; came = record { length = length; command = command; key = record { index = 0x1018; sub = 2 } } }

-- a number and a limit
abbrev beyond : ℤ → ℤ → Details
beyond number limit = record no_details { passed = record { number = number; limit = limit } }

-- what a frame of the channel says, by either end
came : came_at (Sdo Server (record { id = 0x585; bytes = 0x43 ∷ 0x18 ∷ 0x10 ∷ 2 ∷ 7 ∷ 0 ∷ 0 ∷ 0 ∷ [] })) ∷ came_at (Sdo Client (record { id = 0x605; bytes = 0x40 ∷ 0 ∷ 0x20 ∷ [] })) ∷ came_at (Control 5) ∷ []
    ≡ record { length = 8; command = 0x43; key = record { index = 0x1018; sub = 2 } } ∷ record { length = 3; command = 0x40; key = record { index = 0x2000; sub = 0 } } ∷ nothing_came ∷ []
came = refl

late_line : finding_line (codes "r.log") 120 plain (HeartbeatLate 1020001 1000) ≡ codes "r.log:120: heartbeat-late: 1020.001 ms since the last one, 1017:00 has 1000 ms" ++ 10 ∷ []
unfolding finding_line finding_text millis_text digits_text digits filled line_front
late_line = refl

late_after : finding_text plain (LateAfterBootUp 1020001 1000) ≡ codes "heartbeat-late: 1020.001 ms since the boot-up, 1017:00 has 1000 ms"
unfolding finding_text millis_text digits_text digits filled
late_after = refl

late_after_transfer : finding_text plain (LateAfterTransfer 515001 500) ≡ codes "heartbeat-late: 515.001 ms since a transfer of 1017:00, which has 500 ms"
unfolding finding_text millis_text digits_text digits filled
late_after_transfer = refl

off_line : finding_text plain HeartbeatOff ≡ codes "heartbeat-off: heartbeats go on, though 1017:00 has 0"
unfolding finding_text
off_line = refl

boot_missing : finding_text plain (BootMissing 10000001) ≡ codes "boot-missing: no boot-up 10000.001 ms after the reset command"
unfolding finding_text millis_text digits_text digits filled
boot_missing = refl

second_boot_up : finding_text plain (SecondBootUp 999) ≡ codes "second-sender: a boot-up 0.999 ms after the last one"
unfolding finding_text millis_text digits_text digits filled
second_boot_up = refl

heartbeat_length : finding_text plain (HeartbeatLength 2) ≡ codes "heartbeat-length: 2 bytes, not 1"
unfolding finding_text digits filled bytes_text
heartbeat_length = refl

no_state : finding_text plain (NoState 0xA) ≡ codes "heartbeat-state: 0Ah is no NMT state"
unfolding finding_text digits_text filled
no_state = refl

wrong_state : finding_text plain (WrongState Operational PreOperational) ≡ codes "heartbeat-state: operational, but by commands and heartbeats it is pre-operational"
unfolding finding_text filled
wrong_state = refl

two_states : finding_text plain (TwoStates Operational PreOperational) ≡ codes "second-sender: operational, again from pre-operational without a command"
unfolding finding_text filled
two_states = refl

emergency_length : finding_text plain (EmergencyLength 7) ≡ codes "emcy-length: 7 bytes, not 8"
unfolding finding_text digits filled bytes_text
emergency_length = refl

emergency_register : finding_text plain (EmergencyRegister 0x8130 0x10) ≡ codes "emcy-register: code 8130h with error register 10h, whose bit 0 isn't set"
unfolding finding_text digits_text filled
emergency_register = refl

emergency_inhibit : finding_text plain (EmergencyInhibit 88999 1000) ≡ codes "emcy-inhibit: 88.999 ms since the last one, 1015:00 has 100.000 ms"
unfolding finding_text millis_text digits_text digits filled
emergency_inhibit = refl

no_answer : finding_text plain (NoAnswer key 1000001) ≡ codes "no-answer: 1018:01 was requested 1000.001 ms ago"
unfolding finding_text millis_text digits_text digits filled
no_answer = refl

answer_key : finding_text (after false 8 0x43) (AnswerKey key) ≡ codes "answer-key: 1018:01 was requested, 1018:02 is answered"
unfolding finding_text digits_text filled
answer_key = refl

form_of_upload : finding_text (after false 8 0x6A) (AnswerForm key) ≡ codes "answer-form: an upload of 1018:01 was requested, which has no answer 6Ah"
unfolding finding_text came_text digits_text filled
form_of_upload = refl

form_of_download : finding_text (after true 8 0x43) (AnswerForm key) ≡ codes "answer-form: a download to 1018:01 was requested, which has no answer 43h"
unfolding finding_text came_text digits_text filled
form_of_download = refl

-- of another number of bytes than eight
short_answers : map (λ length. finding_text (after false length 0x43) (AnswerForm key)) (0 ∷ 1 ∷ 7 ∷ []) ≡
    codes "answer-form: an upload of 1018:01 was requested, which has no answer of 0 bytes"
    ∷ codes "answer-form: an upload of 1018:01 was requested, which has no answer of 1 byte"
    ∷ codes "answer-form: an upload of 1018:01 was requested, which has no answer of 7 bytes" ∷ []
unfolding finding_text came_text bytes_text digits digits_text filled
short_answers = refl

value_length : finding_text plain (Value (ValueLength key 2 4)) ≡ codes "value-length: 1018:01 has 2 bytes, its type 4"
unfolding finding_text mismatch_text digits_text digits filled bytes_text
value_length = refl

value_const : finding_text plain (Value (ValueConst key 0x12345678 0xABC)) ≡ codes "value-const: 1018:01 has 12345678h, the sheet 00000ABCh"
unfolding finding_text mismatch_text shown_value hexadecimal eight_digits digits_text filled
value_const = refl

value_const_text : finding_text plain (Value (ConstText key)) ≡ codes "value-const: 1018:01 has another text than the sheet"
unfolding finding_text mismatch_text digits_text filled
value_const_text = refl

-- a REAL32 of an adapted sheet, by its value
value_const_real : finding_text (of_type Real32) (Value (ValueConst key 0x7F800000 0x80000000)) ≡ codes "value-const: 1018:01 has inf, the sheet -0.0"
unfolding finding_text mismatch_text shown_value value_text digits_text filled
value_const_real = refl

-- another original type, of more than four bytes
value_const_time : finding_text (of_type TimeOfDay) (Value (ValueConst key 0xFFFFFFFF 0x100000000)) ≡ codes "value-const: 1018:01 has FFFFFFFFh, the sheet 0000000100000000h"
unfolding finding_text mismatch_text shown_value hexadecimal eight_digits digits_text filled
value_const_time = refl

refused : finding_text plain (Value (ReadRefused key (record { 0 = 0x06020000 }))) ≡ codes "access-read: 1018:01 refused with 06020000, the sheet has it as readable"
unfolding finding_text mismatch_text digits_text filled
refused = refl

served : finding_text plain (Value (ReadServed key)) ≡ codes "access-read: 1018:01 was read, the sheet has it as write only"
unfolding finding_text mismatch_text digits_text filled
served = refl

written : finding_text plain (Value (Written key)) ≡ codes "access-write: 1018:01 was written, the sheet has it as read only"
unfolding finding_text mismatch_text digits_text filled
written = refl

above_limit : finding_text (beyond (pos 101) (pos 100)) (Value (AboveLimit key)) ≡ codes "access-limits: 1018:01 was written, with 101, its HighLimit is 100"
unfolding finding_text mismatch_text digits_text digits filled
above_limit = refl

-- -11 and -10
below_limit : finding_text (beyond (negsuc 10) (negsuc 9)) (Value (BelowLimit key)) ≡ codes "access-limits: 1018:01 was written, with -11, its LowLimit is -10"
unfolding finding_text mismatch_text digits_text digits filled
below_limit = refl

beyond_room : finding_text plain (Value (BeyondRoom key 17 16)) ≡ codes "access-limits: 1018:01 was written, with 17 bytes, its room is 16"
unfolding finding_text mismatch_text digits_text digits filled bytes_text
beyond_room = refl

value_held : finding_text plain (Held (record { key = key; shown = 0x5; written = 0x12345678 })) ≡ codes "value-held: 1018:01 has 00000005h, written was 12345678h"
unfolding finding_text shown_value hexadecimal eight_digits digits_text filled
value_held = refl

sums : summary 5 (record { prescribed = 118; different = 2; unjudged = 14; services = none_unjudged })
    ≡ codes "node 5: 118 frames as prescribed, 2 with a difference, 14 unjudged" ++ 10 ∷ []
unfolding summary tally_text digits filled
sums = refl

one_frame : summary 5 (record { prescribed = 1; different = 1; unjudged = 1; services = none_unjudged }) ≡ codes "node 5: 1 frame as prescribed, 1 with a difference, 1 unjudged" ++ 10 ∷ []
unfolding summary tally_text digits filled
one_frame = refl

-- ---- of which services the unjudged frames are

error_control : unjudged_with none_unjudged (Control 5) ∷ unjudged_with none_unjudged (OddControl 2) ∷ []
    ≡ record none_unjudged { heartbeats = 1 } ∷ record none_unjudged { heartbeats = 1 } ∷ []
error_control = refl

emergencies : unjudged_with none_unjudged (Emergency 0x8110 0x11) ∷ unjudged_with none_unjudged (OddEmergency 2) ∷ []
    ≡ record none_unjudged { emergencies = 1 } ∷ record none_unjudged { emergencies = 1 } ∷ []
emergencies = refl

tpdos : unjudged_with none_unjudged (Process 0x185 2) ≡ record none_unjudged { tpdos = 1 }
tpdos = refl

-- an error frame has no verdict
no_service : unjudged_with none_unjudged Fault ≡ none_unjudged
no_service = refl

-- only unjudged frames are counted by their service
by_verdict : map (λ verdict. (tally_with no_frames (Control 5) verdict).services.heartbeats) (None ∷ Some Prescribed ∷ Some Different ∷ Some Unjudged ∷ []) ≡ 0 ∷ 0 ∷ 0 ∷ 1 ∷ []
by_verdict = refl

by_service : unjudged_line (record { heartbeats = 2; emergencies = 1; answers = 11; tpdos = 0 })
    ≡ codes "unjudged: heartbeats 2, EMCY 1, SDO answers 11, TPDOs 0" ++ 10 ∷ []
unfolding unjudged_line digits filled
by_service = refl

-- ---- TPDOs

pdo_length : finding_text plain (Pdo 1 (Length 3 4)) ≡ codes "pdo-length: TPDO1 has 3 bytes, its mapping 4"
unfolding finding_text pdo_text digits filled bytes_text
pdo_length = refl

one_byte : finding_text plain (Pdo 1 (Length 1 4)) ≡ codes "pdo-length: TPDO1 has 1 byte, its mapping 4"
unfolding finding_text pdo_text digits filled bytes_text
one_byte = refl

pdo_state : finding_text plain (Pdo 2 NotOperational) ≡ codes "pdo-state: TPDO2 while the device isn't operational"
unfolding finding_text pdo_text digits filled
pdo_state = refl

pdo_sync : finding_text plain (Pdo 3 WithoutSync) ≡ codes "pdo-sync: TPDO3 without a SYNC that it may answer"
unfolding finding_text pdo_text digits filled
pdo_sync = refl

pdo_few_syncs : finding_text plain (Pdo 1 (FewSyncs 1 240)) ≡ codes "pdo-sync: TPDO1 1 SYNC after the last one, its type is 240"
unfolding finding_text pdo_text digits filled
pdo_few_syncs = refl

pdo_no_syncs : finding_text plain (Pdo 2 (FewSyncs 0 2)) ≡ codes "pdo-sync: TPDO2 0 SYNCs after the last one, its type is 2"
unfolding finding_text pdo_text digits filled
pdo_no_syncs = refl

pdo_inhibit : finding_text plain (Pdo 4 (Inhibit 88999 1000)) ≡ codes "pdo-inhibit: TPDO4 88.999 ms since the last one, its inhibit time is 100.000 ms"
unfolding finding_text pdo_text millis_text digits_text digits filled
pdo_inhibit = refl

pdo_late : finding_text plain (Pdo 1 (Timer 1020001 1000)) ≡ codes "pdo-late: TPDO1 1020.001 ms since the last one, its event timer has 1000 ms"
unfolding finding_text pdo_text millis_text digits_text digits filled
pdo_late = refl

-- ---- transfers

answer_stopped : finding_text plain (AnswerStopped key) ≡ codes "answer-state: 1018:01 is answered while stopped"
unfolding finding_text digits_text filled
answer_stopped = refl

toggle : finding_text plain (Transfer (Toggle key)) ≡ codes "answer-toggle: 1018:01 is transferred, a segment has the wrong toggle bit"
unfolding finding_text transfer_text digits_text filled
toggle = refl

form : finding_text (after false 8 0x80) (Transfer (Form key)) ≡ codes "answer-form: 1018:01 is transferred, which has no answer 80h here"
unfolding finding_text transfer_text came_text digits_text filled
form = refl

short_form : finding_text (after false 3 0x80) (Transfer (Form key)) ≡ codes "answer-form: 1018:01 is transferred, which has no answer of 3 bytes here"
unfolding finding_text transfer_text came_text bytes_text digits digits_text filled
short_form = refl

abort_key : finding_text (after false 8 0x80) (Transfer (AbortKey key)) ≡ codes "abort-key: 1018:01 is transferred, the abort is of 1018:02"
unfolding finding_text transfer_text digits_text filled
abort_key = refl

abort_early : finding_text plain (Transfer (Early key 120001 1000)) ≡ codes "abort-early: 1018:01 was aborted as timed out 120.001 ms after the client's last frame, the timeout is 1000 ms"
unfolding finding_text transfer_text millis_text digits_text digits filled
abort_early = refl

abort_without_timeout : finding_text plain (Transfer (Early key 120001 0)) ≡ codes "abort-early: 1018:01 was aborted as timed out, and the device has no timeout"
unfolding finding_text transfer_text digits_text filled
abort_without_timeout = refl

size : finding_text plain (Transfer (Size key 10 9)) ≡ codes "answer-size: 1018:01 has 9 bytes, its response to initiate has 10"
unfolding finding_text transfer_text digits_text digits filled bytes_text
size = refl

crc : finding_text plain (Transfer (Crc key 0x1234 0xABC)) ≡ codes "answer-crc: 1018:01 has the CRC 1234h, that of its bytes is 0ABCh"
unfolding finding_text transfer_text digits_text filled
crc = refl

-- ---- choices

choice_segments : choice_text (Segments key 2) ≡ codes "choice-segments: 1018:01 has 2 bytes, and is uploaded in segments"
unfolding choice_text digits_text digits filled bytes_text
choice_segments = refl

choice_size : choice_text (NoSize key) ≡ codes "choice-size: 1018:01 is uploaded without its size"
unfolding choice_text digits_text filled bytes_text
choice_size = refl

choice_short : choice_text (ShortSegment key 3) ≡ codes "choice-short-segment: 1018:01 is uploaded, a segment before the last has 3 bytes"
unfolding choice_text digits_text digits filled bytes_text
choice_short = refl

choice_crc : choice_text (NoCrc key) ≡ codes "choice-crc: 1018:01 is transferred in blocks without a CRC"
unfolding choice_text digits_text filled
choice_crc = refl

choice_block : choice_text (BlockSize key 21) ≡ codes "choice-block-size: 1018:01 is downloaded, sub-blocks of 21 segments are asked for"
unfolding choice_text digits_text digits filled bytes_text
choice_block = refl

choice_switch : choice_text (Switched key) ≡ codes "choice-switch: 1018:01 is asked for in blocks, and uploaded by another protocol"
unfolding choice_text digits_text filled
choice_switch = refl

choice_code : choice_text (Code key 0x06010000 0x06010002) ≡ codes "choice-code: 1018:01 is refused with 06010000h, and not with 06010002h"
unfolding choice_text hexadecimal eight_digits digits_text filled
choice_code = refl

choice_heartbeat : choice_text (Heartbeat 300001 1000) ≡ codes "choice-heartbeat: 300.001 ms since the last one, 1017:00 has 1000 ms"
unfolding choice_text millis_text digits_text digits filled
choice_heartbeat = refl

choice_phase : choice_text (Phase 1 2 4) ≡ codes "choice-phase: TPDO 1 is sent at SYNC 2 since the start, its type is 4"
unfolding choice_text digits_text digits filled
choice_phase = refl

no_emcy : map (λ error. choice_text (NoEmergency error 1020001)) (ShortRpdo ∷ LongRpdo ∷ OddSync ∷ []) ≡
    codes "choice-emcy: an RPDO is too short, and EMCY 8210h didn't come for 1020.001 ms"
    ∷ codes "choice-emcy: an RPDO is too long, and EMCY 8220h didn't come for 1020.001 ms"
    ∷ codes "choice-emcy: a SYNC has another length, and EMCY 8240h didn't come for 1020.001 ms" ∷ []
unfolding choice_text millis_text digits_text digits filled
no_emcy = refl

other_emcy : map (λ error. choice_text (OtherEmergency error)) (ShortRpdo ∷ LongRpdo ∷ OddSync ∷ []) ≡
    codes "choice-emcy: an RPDO is too short, and EMCY 8200h came, not 8210h"
    ∷ codes "choice-emcy: an RPDO is too long, and EMCY 8200h came, not 8220h"
    ∷ codes "choice-emcy: a SYNC has another length, and EMCY 8200h came, not 8240h" ∷ []
unfolding choice_text
other_emcy = refl

choice_timeout : choice_text (Timeout key) ≡ codes "choice-timeout: the transfer of 1018:01 is aborted since it timed out"
unfolding choice_text digits_text filled
choice_timeout = refl

choice_no_timeout : choice_text (NoTimeout key 1500000 1000) ≡ codes "choice-timeout: the transfer of 1018:01 goes on 1500.000 ms after the client's frame before, the timeout is 1000 ms"
unfolding choice_text millis_text digits_text digits filled
choice_no_timeout = refl

choice_at_line : choice_line (codes "r.log") 12 (NoCrc key) ≡ codes "r.log:12: choice-crc: 1018:01 is transferred in blocks without a CRC" ++ 10 ∷ []
unfolding choice_line choice_text digits_text digits filled line_front
choice_at_line = refl

sums_choices : choices_summary 5 (record { prescribed = 118; different = 2; unjudged = 14; services = none_unjudged }) 3
    ≡ codes "node 5: 118 frames as prescribed, 2 with a difference, 14 unjudged, 3 choices" ++ 10 ∷ []
unfolding choices_summary tally_text digits filled
sums_choices = refl

sums_choice : choices_summary 5 (record { prescribed = 118; different = 2; unjudged = 14; services = none_unjudged }) 1
    ≡ codes "node 5: 118 frames as prescribed, 2 with a difference, 14 unjudged, 1 choice" ++ 10 ∷ []
unfolding choices_summary tally_text digits filled
sums_choice = refl

-- ---- warnings

restarted : warning_line (codes "r.log") 12 (Plain Unsigned32) Restarted ≡ codes "r.log:12: warning: restarted: a boot-up, and no reset was commanded" ++ 10 ∷ []
unfolding warning_line warning_text digits filled line_front
restarted = refl

stored : warning_text (Plain Unsigned32) (Stored key 0x1F4 0x3E8) ≡ codes "warning: stored: 1018:01 has 000001F4h after the boot-up, the sheet 000003E8h"
unfolding warning_text shown_value hexadecimal eight_digits digits_text filled
stored = refl

stepped_back : warning_text (Plain Unsigned32) (SteppedBack 3000001) ≡ codes "warning: stepped-back: the stamp is 3000.001 ms before the last one"
unfolding warning_text millis_text digits_text digits filled
stepped_back = refl

changed : warning_text (Plain Unsigned32) (Changed (record { key = key; shown = 0x5; written = 0x12345678 })) ≡ codes "warning: changed-after-write: 1018:01 has 00000005h, written was 12345678h"
unfolding warning_text shown_value hexadecimal eight_digits digits_text filled
changed = refl

other_revision : warning_text (Plain Unsigned32) (OtherRevision key 0x10003 0x10002) ≡ codes "warning: other-version: 1018:01 has 00010003h, the sheet 00010002h"
unfolding warning_text shown_value hexadecimal eight_digits digits_text filled
other_revision = refl

changed_bytes : warning_text (Plain Unsigned32) (ChangedBytes key) ≡ codes "warning: changed-after-write: 1018:01 has other bytes than were written"
unfolding warning_text digits_text filled
changed_bytes = refl

another_text : warning_text (Plain Unsigned32) (OtherText key) ≡ codes "warning: other-version: 1018:01 has another text than the sheet"
unfolding warning_text digits_text filled
another_text = refl

odd_code : warning_text (Plain Unsigned32) (OddCode 0xA123 1) ≡ codes "warning: emcy-code: code A123h with error register 01h, of a class that CiA 301 doesn't have"
unfolding warning_text digits_text filled
odd_code = refl

other_error : warning_text (Plain Unsigned32) (OtherError 0x8210 0x8130) ≡ codes "warning: emcy-history: 1003:01 has code 8210h, the last EMCY 8130h"
unfolding warning_text digits_text filled
other_error = refl

-- ---- learned values

learned_same : learned_line (Some (codes "Interval")) key (Plain Unsigned16) 2 1000 (Some 1000) ≡ codes "learned: Interval 1018:01 = 1000" ++ 10 ∷ []
unfolding learned_line other_text typed_text value_text number_text digits_text digits
learned_same = refl

learned_other : learned_line None key (Plain Integer16) 2 0xFFFE (Some 5) ≡ codes "learned: 1018:01 = -2, the sheet has 5" ++ 10 ∷ []
unfolding learned_line other_text typed_text value_text number_text digits_text digits
learned_other = refl

learned_alone : learned_line None key (Plain Unsigned8) 1 7 None ≡ codes "learned: 1018:01 = 7" ++ 10 ∷ []
unfolding learned_line other_text typed_text value_text number_text digits_text digits
learned_alone = refl
