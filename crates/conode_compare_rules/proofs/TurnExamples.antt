-- Recordings of a device that ignores a command, of two devices with one node-ID, and of one that makes a
-- mistake again and again: what is found at each frame, on both sides of each edge.
use Rattle.std.proofs.Common.{◌≡◌, ℕ, ◌+◌, true, false, List, [], ◌∷◌, ◌++◌, map, Option, Some, None, refl}
use Rattle.co_frame.specs.declared.nmt.NmtService.TheVariants.{Start, Stop, EnterPreOperational}
use Rattle.conode_compare_pdos.specs.declared.deviation.Deviation.TheVariants.{NotOperational}
use Rattle.conode_compare_pdos.specs.declared.parameters.Parameters.{Parameters}
use Rattle.conode_compare_pdos.specs.declared.pdos.Pdos.{Pdos}
use Rattle.conode_compare_pdos.specs.Followed.{framed, sighting, unknown_pdos}
use Rattle.conode_compare_pdos.specs.Deviations.{deviation_at, time_deviation}
use Rattle.conode_compare_pdos.specs.Tpdos.{booted_tpdo}
use Rattle.conode_compare_nmt.specs.declared.entries.Entries.{Entries}
use Rattle.conode_compare_nmt.specs.declared.finding.Finding.{Finding}
use Rattle.conode_compare_nmt.specs.declared.finding.Finding.TheVariants.{EmergencyStopped, HeartbeatLate, HeartbeatLength, LateAfterBootUp, NoState, Pdo as PdoFinding, TwoStates, WrongState}
use Rattle.conode_compare_nmt.specs.declared.finding.NmtState.TheVariants.{PreOperational, Operational, Stopped}
use Rattle.conode_compare_rules.specs.declared.kind.FrameKind.{FrameKind}
use Rattle.conode_compare_rules.specs.declared.kind.FrameKind.TheVariants.{Command, Control, Emergency, OddControl, Other, Process}
use Rattle.conode_compare_nmt.specs.declared.limits.Subject.{Subject}
use Rattle.conode_compare_rules.specs.declared.progress.Progress.{Progress}
use Rattle.conode_compare_rules.specs.declared.verdict.Verdict.{Verdict}
use Rattle.conode_compare_rules.specs.declared.verdict.Verdict.TheVariants.{Unjudged}
use Rattle.conode_compare_rules.specs.Answers.{silence_finding}
use Rattle.conode_compare_rules.specs.EmergencyRules.{emergency_finding, inhibit_finding, after_emergency, emergency_findings}
use Rattle.conode_compare_nmt.specs.Heartbeats.{early_remark, is_missing, late_finding, overdue_by}
use Rattle.conode_compare_rules.specs.NmtFrames as nmt_frames
use Rattle.conode_compare_rules.specs.Gaps.{before_recording, begun}
use Rattle.conode_compare_rules.specs.NmtFrames.{after_odd_control, booted, control_findings, control_judged, heartbeat_findings}
use Rattle.conode_compare_rules.specs.Processes.{after_process, moment_at, process_findings}
use Rattle.conode_compare_rules.specs.Progresses.{findings_at, progress_with}
use Rattle.conode_compare_nmt.specs.States as states
use Rattle.conode_compare_nmt.specs.States.{after_boot_up, after_other, awaits_boot_up, boot_finding, control_finding, is_settled, second_boot_up, state_finding}
use Rattle.conode_compare_rules.specs.Verdicts.{found}
use Rattle.conode_compare_nmt.specs.OtherClients.{no_clients}
use Rattle.conode_compare_nmt.proofs.Examples.{limits}

-- ---- node 5, whose first TPDO is on 185h, of four bytes and event-driven; 1017:00 has 1000 ms

abbrev event_driven : Parameters
event_driven = record { id = Some 0x185; kind = Some 255; inhibit = Some 0; timer = Some 0; length = Some 4 }

abbrev sheet : Entries
sheet = record { period = Some 1000; emergencies = true; inhibit = Some 0; inhibit_shown = None }

abbrev pdos : Pdos
pdos = record unknown_pdos { first = booted_tpdo None event_driven }

abbrev pub subject : Subject
subject = record {
  node = 5;
  limits = limits;
  facts = record { before = sheet; booted = sheet; pdos = pdos; clients = no_clients; starts_itself = false; modular = false; stores = false; as_sheet = true };
  held = record { entries = record { items = [] } };
  rooms = record { strings = None; domains = None };
}

-- frames with their stamps, one after another, and what is found of each; the last one's alone
abbrev pub after : Progress → List (ℕ × FrameKind) → Progress
after progress [] = progress
after progress (frame ∷ later) = after (progress_with subject progress frame.0 frame.1) later

abbrev pub last_found : List (ℕ × FrameKind) → ℕ → FrameKind → Option Finding
last_found before micros kind = (findings_at subject [] (after (before_recording subject) before) micros kind).frame

abbrev last_verdict : List (ℕ × FrameKind) → ℕ → FrameKind → Option Verdict
last_verdict before micros kind = (findings_at subject [] (after (before_recording subject) before) micros kind).verdict

abbrev last_late : List (ℕ × FrameKind) → ℕ → FrameKind → Option Finding
last_late before micros kind = (findings_at subject [] (after (before_recording subject) before) micros kind).heartbeat

abbrev tpdo : FrameKind
tpdo = Process 0x185 4

-- ---- a Start that the device ignores: it sends TPDOs, and its heartbeats go on with pre-operational

abbrev ignores : List (ℕ × FrameKind)
ignores = (0, Control 0) ∷ (100000, Command Start) ∷ (500000, Control 127) ∷ (600000, tpdo) ∷ []

-- it may have followed the command meanwhile
follows : last_found ((0, Control 0) ∷ (100000, Command Start) ∷ (500000, Control 127) ∷ []) 600000 tpdo ≡ None
unfolding findings_at progress_with begun booted found nmt_frames.after_control states.after_control after_boot_up after_other awaits_boot_up nmt_frames.after_command states.after_command after_process process_findings moment_at sighting framed deviation_at time_deviation is_settled overdue_by
follows = refl

-- and fall back by itself: from the heartbeat that shows that on it sends none
falls_back : last_found ignores 610001 (Control 127) ≡ None
unfolding findings_at progress_with begun booted found nmt_frames.after_control states.after_control after_boot_up after_other awaits_boot_up nmt_frames.after_command states.after_command after_process process_findings moment_at sighting framed deviation_at time_deviation is_settled control_findings heartbeat_findings control_finding state_finding overdue_by
falls_back = refl

sends_on : last_found (ignores ++ (610001, Control 127) ∷ []) 620002 tpdo ≡ Some (PdoFinding 1 NotOperational)
unfolding findings_at progress_with begun booted found nmt_frames.after_control states.after_control after_boot_up after_other awaits_boot_up nmt_frames.after_command states.after_command after_process process_findings moment_at sighting framed deviation_at time_deviation is_settled overdue_by
sends_on = refl

-- one that was on its way
on_its_way : last_found (ignores ++ (610001, Control 127) ∷ []) 620001 tpdo ≡ None
unfolding findings_at progress_with begun booted found nmt_frames.after_control states.after_control after_boot_up after_other awaits_boot_up nmt_frames.after_command states.after_command after_process process_findings moment_at sighting framed deviation_at time_deviation is_settled overdue_by
on_its_way = refl

-- a heartbeat within the tolerance after the TPDO may have been on its way
too_soon : last_found (ignores ++ (610000, Control 127) ∷ []) 700000 tpdo ≡ None
unfolding findings_at progress_with begun booted found nmt_frames.after_control states.after_control after_boot_up after_other awaits_boot_up nmt_frames.after_command states.after_command after_process process_findings moment_at sighting framed deviation_at time_deviation is_settled overdue_by
too_soon = refl

-- a device that is slow sends no TPDO before it follows the command, however late
slow : last_found ((0, Control 0) ∷ (100000, Command Start) ∷ (500000, Control 127) ∷ (1500000, Control 127) ∷ (2500000, Control 127) ∷ []) 3500000 (Control 5) ≡ None
unfolding findings_at progress_with begun booted found nmt_frames.after_control states.after_control after_boot_up after_other awaits_boot_up nmt_frames.after_command states.after_command is_settled control_findings heartbeat_findings control_finding state_finding
slow = refl

-- TPDOs before the first heartbeat say nothing, since the state before the command isn't shown then
not_shown : last_found ((0, Control 0) ∷ (100000, Command Start) ∷ (400000, tpdo) ∷ (500000, Control 127) ∷ []) 600000 tpdo ≡ None
unfolding findings_at progress_with begun booted found nmt_frames.after_control states.after_control after_boot_up after_other awaits_boot_up nmt_frames.after_command states.after_command after_process process_findings moment_at sighting framed deviation_at time_deviation is_settled overdue_by
not_shown = refl

-- the next Start may be followed, too
commanded_again : last_found (ignores ++ (700000, Control 127) ∷ (800000, Command Start) ∷ (900000, Control 127) ∷ []) 950000 tpdo ≡ None
unfolding findings_at progress_with begun booted found nmt_frames.after_control states.after_control after_boot_up after_other awaits_boot_up nmt_frames.after_command states.after_command after_process process_findings moment_at sighting framed deviation_at time_deviation is_settled overdue_by
commanded_again = refl

-- from stopped: an EMCY shows that it has left that
abbrev leaves : List (ℕ × FrameKind)
leaves = (0, Control 0) ∷ (100000, Command Stop) ∷ (200000, Control 4) ∷ (300000, Command EnterPreOperational) ∷ (400000, Control 4) ∷ []

stops_again : last_found (leaves ++ (500000, Emergency 0x8130 0x11) ∷ (600000, Control 4) ∷ []) 700000 (Emergency 0 0) ≡ Some EmergencyStopped
unfolding findings_at progress_with begun booted found nmt_frames.after_control states.after_control after_boot_up after_other awaits_boot_up nmt_frames.after_command states.after_command after_emergency emergency_findings emergency_finding inhibit_finding is_settled late_finding overdue_by
stops_again = refl

still_slow : last_found (leaves ++ (600000, Control 4) ∷ []) 700000 (Emergency 0 0) ≡ None
unfolding findings_at progress_with begun booted found nmt_frames.after_control states.after_control after_boot_up after_other awaits_boot_up nmt_frames.after_command states.after_command after_emergency emergency_findings emergency_finding inhibit_finding is_settled late_finding overdue_by
still_slow = refl

-- ---- two devices with one node-ID: their heartbeats come in turn

-- the first change may be a device's own mistake
changes : last_found ((0, Control 0) ∷ []) 500000 (Control 5) ≡ Some (WrongState Operational PreOperational)
unfolding findings_at progress_with begun booted found after_boot_up states.after_control control_findings heartbeat_findings control_finding state_finding is_settled
changes = refl

-- it returned, and does so again
abbrev in_turn : List (ℕ × FrameKind)
in_turn = (0, Control 0) ∷ (500000, Control 5) ∷ (1000000, Control 127) ∷ []

second : last_found in_turn 1500000 (Control 5) ≡ Some (TwoStates Operational PreOperational)
unfolding findings_at progress_with begun booted found nmt_frames.after_control states.after_control after_boot_up after_other awaits_boot_up control_findings heartbeat_findings control_finding state_finding is_settled early_remark
second = refl

-- one device that goes twice to a state by itself: its heartbeats come as their period has it
alone : last_found ((0, Control 0) ∷ (1000000, Control 5) ∷ (2000000, Control 127) ∷ []) 3000000 (Control 5) ≡ Some (WrongState Operational PreOperational)
unfolding findings_at progress_with begun booted found nmt_frames.after_control states.after_control after_boot_up after_other awaits_boot_up control_findings heartbeat_findings control_finding state_finding is_settled early_remark
alone = refl

-- With one stamp they came sooner than 980 ms after one another, where that before is no older.
abbrev one_stamp : ℕ → List (ℕ × FrameKind)
one_stamp between = (0, Control 0) ∷ (1000000, Control 127) ∷ (1000000, Control 5) ∷ (between, Other) ∷ (2000000, Control 127) ∷ []

with_one_stamp : map (λ between. last_found (one_stamp between) 2000000 (Control 5)) (1000000 ∷ 1020000 ∷ 1020001 ∷ [])
    ≡ Some (WrongState Operational PreOperational) ∷ Some (WrongState Operational PreOperational) ∷ Some (TwoStates Operational PreOperational) ∷ []
unfolding findings_at progress_with begun booted found nmt_frames.after_control states.after_control after_boot_up after_other awaits_boot_up control_findings heartbeat_findings control_finding state_finding is_settled early_remark
with_one_stamp = refl

-- said once, and no state is known any more
said : last_found (in_turn ++ (1500000, Control 5) ∷ (2000000, Control 127) ∷ []) 2500000 (Control 5) ≡ None
unfolding findings_at progress_with begun booted found nmt_frames.after_control states.after_control after_boot_up after_other awaits_boot_up control_findings heartbeat_findings control_finding state_finding is_settled early_remark
said = refl

unjudged : last_verdict (in_turn ++ (1500000, Control 5) ∷ []) 2000000 (Control 127) ≡ Some Unjudged
unfolding findings_at progress_with begun booted found nmt_frames.after_control states.after_control after_boot_up after_other awaits_boot_up boot_finding control_findings heartbeat_findings control_finding control_judged state_finding is_settled late_finding overdue_by silence_finding early_remark
unjudged = refl

-- a command begins anew
known_again : last_found (in_turn ++ (1500000, Control 5) ∷ (1600000, Command Stop) ∷ (2000000, Control 4) ∷ []) 2500000 (Control 5) ≡ Some (WrongState Operational Stopped)
unfolding findings_at progress_with begun booted found nmt_frames.after_control states.after_control after_boot_up after_other awaits_boot_up nmt_frames.after_command states.after_command control_findings heartbeat_findings control_finding state_finding is_settled early_remark
known_again = refl

-- a device that falls back by itself, and is started again by commands, does as it is prescribed
started_again : last_found ((0, Control 0) ∷ (100000, Command Start) ∷ (500000, Control 5) ∷ (1000000, Control 127) ∷ (1100000, Command Start) ∷ (1500000, Control 5) ∷ (2000000, Control 127) ∷ (2100000, Command Start) ∷ []) 2500000 (Control 5) ≡ None
unfolding findings_at progress_with begun booted found nmt_frames.after_control states.after_control after_boot_up after_other awaits_boot_up nmt_frames.after_command states.after_command control_findings heartbeat_findings control_finding state_finding is_settled early_remark
started_again = refl

-- a command between the two changes
commanded_between : last_found (in_turn ++ (1100000, Command EnterPreOperational) ∷ []) 1500000 (Control 5) ≡ Some (WrongState Operational PreOperational)
unfolding findings_at progress_with begun booted found nmt_frames.after_control states.after_control after_boot_up after_other awaits_boot_up nmt_frames.after_command states.after_command control_findings heartbeat_findings control_finding state_finding is_settled early_remark
commanded_between = refl

-- out of stopped, and then out of pre-operational: no return
without_return : last_found ((0, Control 0) ∷ (100000, Command Stop) ∷ (500000, Control 127) ∷ []) 1000000 (Control 5) ≡ Some (WrongState Operational PreOperational)
unfolding findings_at progress_with begun booted found nmt_frames.after_control states.after_control after_boot_up after_other awaits_boot_up nmt_frames.after_command states.after_command control_findings heartbeat_findings control_finding state_finding is_settled
without_return = refl

-- ---- the same mistake again

-- a byte that is no state
no_state : last_found ((0, Control 0) ∷ []) 500000 (Control 3) ≡ Some (NoState 3)
unfolding findings_at progress_with begun booted found after_boot_up states.after_control control_findings heartbeat_findings control_finding state_finding is_settled
no_state = refl

same_byte : last_found ((0, Control 0) ∷ (500000, Control 3) ∷ (1000000, Control 3) ∷ []) 1500000 (Control 3) ≡ None
unfolding findings_at progress_with begun booted found nmt_frames.after_control states.after_control after_boot_up after_other awaits_boot_up control_findings heartbeat_findings control_finding state_finding is_settled
same_byte = refl

same_byte_unjudged : last_verdict ((0, Control 0) ∷ (500000, Control 3) ∷ []) 1000000 (Control 3) ≡ Some Unjudged
unfolding findings_at progress_with begun booted found nmt_frames.after_control states.after_control after_boot_up after_other awaits_boot_up boot_finding control_findings heartbeat_findings control_finding control_judged state_finding is_settled late_finding overdue_by silence_finding
same_byte_unjudged = refl

other_byte : last_found ((0, Control 0) ∷ (500000, Control 3) ∷ []) 1000000 (Control 6) ≡ Some (NoState 6)
unfolding findings_at progress_with begun booted found nmt_frames.after_control states.after_control after_boot_up after_other awaits_boot_up control_findings heartbeat_findings control_finding state_finding is_settled
other_byte = refl

byte_between : last_found ((0, Control 0) ∷ (500000, Control 3) ∷ (1000000, Control 127) ∷ []) 1500000 (Control 3) ≡ Some (NoState 3)
unfolding findings_at progress_with begun booted found nmt_frames.after_control states.after_control after_boot_up after_other awaits_boot_up control_findings heartbeat_findings control_finding state_finding is_settled
byte_between = refl

boot_up_between : last_found ((0, Control 0) ∷ (500000, Control 3) ∷ (1600000, Control 0) ∷ []) 2000000 (Control 3) ≡ Some (NoState 3)
unfolding findings_at progress_with begun booted found nmt_frames.after_control states.after_control after_boot_up after_other awaits_boot_up control_findings heartbeat_findings control_finding state_finding is_settled second_boot_up
boot_up_between = refl

-- a number of bytes
wrong_length : last_found ((0, Control 0) ∷ []) 500000 (OddControl 2) ≡ Some (HeartbeatLength 2)
unfolding findings_at progress_with begun booted found after_boot_up states.after_control
wrong_length = refl

same_length : last_found ((0, Control 0) ∷ (500000, OddControl 2) ∷ []) 1000000 (OddControl 2) ≡ None
unfolding findings_at progress_with begun booted found after_boot_up states.after_control after_odd_control
same_length = refl

other_length : last_found ((0, Control 0) ∷ (500000, OddControl 2) ∷ []) 1000000 (OddControl 3) ≡ Some (HeartbeatLength 3)
unfolding findings_at progress_with begun booted found after_boot_up states.after_control after_odd_control
other_length = refl

length_between : last_found ((0, Control 0) ∷ (500000, OddControl 2) ∷ (1000000, Control 127) ∷ []) 1500000 (OddControl 2) ≡ Some (HeartbeatLength 2)
unfolding findings_at progress_with begun booted found nmt_frames.after_control states.after_control after_boot_up control_finding state_finding is_settled after_odd_control after_other awaits_boot_up
length_between = refl

-- ---- heartbeats that come late one after another: each 1100 ms, and not each 1000 ms

abbrev late_once : List (ℕ × FrameKind)
late_once = (0, Control 0) ∷ (1100000, Control 127) ∷ []

late_first : last_late ((0, Control 0) ∷ []) 1100000 (Control 127) ≡ Some (LateAfterBootUp 1100000 1000)
unfolding findings_at progress_with begun booted found control_findings heartbeat_findings late_finding overdue_by
late_first = refl

-- so is the next one, up to 10 ms and 1 % longer
late_again : last_late late_once 2220000 (Control 127) ≡ None
unfolding findings_at progress_with begun booted found control_findings heartbeat_findings nmt_frames.after_control late_finding overdue_by
late_again = refl

late_longer : last_late late_once 2220001 (Control 127) ≡ Some (HeartbeatLate 1120001 1000)
unfolding findings_at progress_with begun booted found control_findings heartbeat_findings nmt_frames.after_control late_finding overdue_by
late_longer = refl

late_unjudged : last_verdict late_once 2200000 (Control 127) ≡ Some Unjudged
unfolding findings_at progress_with begun booted found nmt_frames.after_control states.after_control after_boot_up after_other awaits_boot_up boot_finding control_findings heartbeat_findings control_finding control_judged state_finding is_settled late_finding overdue_by silence_finding
late_unjudged = refl

-- after a pause of more than two periods the next one is said
after_pause : map (λ pause. last_late ((0, Control 0) ∷ (pause, Control 127) ∷ []) (pause + 1100000) (Control 127)) (2000000 ∷ 2000001 ∷ [])
    ≡ None ∷ Some (HeartbeatLate 1100000 1000) ∷ []
unfolding findings_at progress_with begun booted found control_findings heartbeat_findings nmt_frames.after_control late_finding overdue_by
after_pause = refl

-- one that comes each 2500 ms is said once, up to 20 ms longer or shorter; so is one that comes each 2500 ms after one each 1100 ms
abbrev pauses : List (ℕ × FrameKind)
pauses = (0, Control 0) ∷ (2500000, Control 127) ∷ []

other_pause : map (λ taken. last_late pauses (2500000 + taken) (Control 127)) (2479999 ∷ 2480000 ∷ 2520000 ∷ 2520001 ∷ [])
    ≡ Some (HeartbeatLate 2479999 1000) ∷ None ∷ None ∷ Some (HeartbeatLate 2520001 1000) ∷ []
unfolding findings_at progress_with begun booted found control_findings heartbeat_findings nmt_frames.after_control late_finding overdue_by
other_pause = refl

pause_in_row : map (λ later. last_late ((0, Control 0) ∷ (1100000, Control 127) ∷ (3600000, Control 127) ∷ []) (3600000 + later) (Control 127)) (1100000 ∷ 2500000 ∷ [])
    ≡ Some (HeartbeatLate 1100000 1000) ∷ None ∷ []
unfolding findings_at progress_with begun booted found control_findings heartbeat_findings nmt_frames.after_control late_finding overdue_by
pause_in_row = refl

-- with a shorter one the row begins anew
after_shorter : last_late (pauses ++ (3600000, Control 127) ∷ []) 4700000 (Control 127) ∷ last_late (pauses ++ (3600000, Control 127) ∷ []) 6100000 (Control 127) ∷ []
    ≡ None ∷ Some (HeartbeatLate 2500000 1000) ∷ []
unfolding findings_at progress_with begun booted found control_findings heartbeat_findings nmt_frames.after_control late_finding overdue_by
after_shorter = refl

-- before it comes an EMCY doesn't show that it is missing, as long as the last one took; the first one shows it
abbrev emergency : FrameKind
emergency = Emergency 0x8130 0x11

missing_in_row : last_late ((0, Control 0) ∷ (1100000, emergency) ∷ []) 2200000 emergency ∷ last_late (pauses ++ (3600000, emergency) ∷ []) 4900000 emergency ∷ []
    ≡ Some (LateAfterBootUp 2200000 1000) ∷ None ∷ []
unfolding findings_at progress_with begun booted found control_findings heartbeat_findings nmt_frames.after_control after_emergency emergency_findings late_finding overdue_by is_missing
missing_in_row = refl

-- one in time ends the row
in_time : last_late (late_once ++ (2100000, Control 127) ∷ []) 3200000 (Control 127) ≡ Some (HeartbeatLate 1100000 1000)
unfolding findings_at progress_with begun booted found control_findings heartbeat_findings nmt_frames.after_control late_finding overdue_by
in_time = refl

-- so does a command
commanded_late : last_late (late_once ++ (1200000, Command Start) ∷ []) 2200000 (Control 5) ≡ Some (HeartbeatLate 1100000 1000)
unfolding findings_at progress_with begun booted found control_findings heartbeat_findings nmt_frames.after_control nmt_frames.after_command late_finding overdue_by
commanded_late = refl
