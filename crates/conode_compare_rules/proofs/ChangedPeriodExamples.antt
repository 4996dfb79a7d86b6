-- A period that may still run once 1017:00 has another, frame by frame, on both sides of each edge.
use Rattle.std.proofs.Common.{◌≡◌, ℕ, Bool, true, false, List, [], ◌∷◌, map, Option, Some, None, refl}
use Rattle.co_frame.specs.SdoRequests.{request_row_in}
use Rattle.co_frame.specs.declared.nmt.NmtService.TheVariants.{Start, ResetNode}
use Rattle.conode_explain_transfers.specs.declared.kinds.Side.TheVariants.{Client}
use Rattle.conode_compare_transfers.specs.Breaches.{breach_at}
use Rattle.conode_compare_transfers.specs.Dialogues.{dialogue_heard, exchange_in, is_certain}
use Rattle.conode_compare_transfers.specs.NewestFrames.{newest_after, newest_with}
use Rattle.conode_compare_nmt.specs.declared.entries.Entries.{Entries}
use Rattle.conode_compare_nmt.specs.declared.finding.Finding.{Finding}
use Rattle.conode_compare_nmt.specs.declared.finding.Finding.TheVariants.{HeartbeatOff}
use Rattle.conode_compare_nmt.specs.declared.heartbeats.Since.TheVariants.{Transfer}
use Rattle.conode_compare_rules.specs.declared.kind.FrameKind.{FrameKind}
use Rattle.conode_compare_rules.specs.declared.kind.FrameKind.TheVariants.{Command, Control, Fault, Guarding, OddControl, Other}
use Rattle.conode_compare_nmt.specs.declared.limits.Subject.{Subject}
use Rattle.conode_compare_rules.specs.declared.progress.Progress.{Progress}
use Rattle.conode_compare_rules.specs.declared.verdict.Verdict.TheVariants.{Different, Unjudged}
use Rattle.conode_compare_nmt.specs.EntriesInForce.{asked_to_write, shown_inhibit, shown_period}
use Rattle.conode_compare_nmt.specs.Heartbeats.{early_remark, late_finding, overdue_by}
use Rattle.conode_compare_rules.specs.NmtFrames as nmt_frames
use Rattle.conode_compare_rules.specs.Gaps.{after_fault, before_recording, begun, with_bad_line, with_gap}
use Rattle.conode_compare_rules.specs.NmtFrames.{after_odd_control, booted, control_findings, control_judged, heartbeat_findings, is_overdue}
use Rattle.conode_compare_rules.specs.Answers.{silence_finding}
use Rattle.conode_compare_rules.specs.Channels.{channel_heard, exchange_at}
use Rattle.conode_compare_rules.specs.Verdicts.{found}
use Rattle.conode_compare_rules.specs.Progresses.{findings_at, progress_with}
use Rattle.conode_compare_nmt.specs.States as states
use Rattle.conode_compare_nmt.proofs.Examples.{pulse}
use Rattle.conode_compare_rules.proofs.MissingExamples.{subject, waiting}
use Rattle.conode_compare_nmt.proofs.ChangedPeriodExamples.{request, write}

-- ---- which period may run, and until when

-- it may have been written before the recording
begins : (before_recording subject).heartbeats.former ≡ Some 65535
begins = refl

-- the device may be off all the same, once the new one is over
may_be_off : map (λ free. is_overdue subject (record waiting { free = free; heartbeats = record pulse { former = Some 65535; answered = Some 5 } })) (1020005 ∷ 1020006 ∷ []) ≡ false ∷ true ∷ []
may_be_off = refl

-- ---- a heartbeat ends it

abbrev former_of : Progress → ℕ → ℕ → Option ℕ
former_of progress micros byte = (progress_with subject progress micros (Control byte)).heartbeats.former

abbrev changing_from : ℕ → Progress
changing_from former = record waiting { heartbeats = record waiting.heartbeats { former = Some former; answered = Some 5 } }

abbrev changing : Progress
changing = changing_from 10000

by_heartbeat : map (λ former. former_of (changing_from former) 1010000 5) (10000 ∷ 65535 ∷ []) ≡ None ∷ None ∷ []
unfolding progress_with begun nmt_frames.after_control control_findings overdue_by early_remark
by_heartbeat = refl

-- not by an early one, as at a change of the state: sooner than 1000 ms less 10 ms and 1 %
early_heartbeat : map (λ sent. former_of (record changing { heartbeats = record changing.heartbeats { sent = Some sent } }) 1010000 5) (30000 ∷ 30001 ∷ []) ≡ None ∷ Some 10000 ∷ []
unfolding progress_with begun nmt_frames.after_control control_findings overdue_by early_remark
early_heartbeat = refl

-- nor by one that may be sent at a change of the state
of_change : map (λ byte. former_of changing 1010000 byte) (5 ∷ 127 ∷ []) ≡ None ∷ Some 10000 ∷ []
unfolding progress_with begun nmt_frames.after_control control_findings overdue_by early_remark
of_change = refl

-- a period that isn't longer than the tolerance: no heartbeat is early by it
abbrev brief : Entries
brief = record { period = Some 5; emergencies = true; inhibit = Some 0; inhibit_shown = None }

-- of two in a row, the first of which comes 5 ms after the answer, the second one counts by the answer
abbrev first_of_two : Progress
first_of_two = progress_with subject (record waiting { heartbeats = record waiting.heartbeats { former = Some 10000; answered = Some 1000000 }; entries = brief }) 1005000 (Control 5)

in_a_row : map (λ micros. former_of first_of_two micros 5) (1010000 ∷ 1010001 ∷ []) ≡ Some 10000 ∷ None ∷ []
unfolding progress_with begun nmt_frames.after_control control_findings overdue_by early_remark states.is_settled states.after_control states.after_other
in_a_row = refl

by_boot_up : former_of changing 1010000 0 ≡ None
unfolding progress_with begun booted
by_boot_up = refl

-- a client asked to write an entry within the tolerance before the boot-up: the device may have taken that
asked_before : map (λ asked. former_of (record changing { asked_at = Some asked }) 1010000 0) (999999 ∷ 1000000 ∷ []) ≡ None ∷ Some 65535 ∷ []
unfolding progress_with begun booted
asked_before = refl

-- 1017:00 isn't known after a boot-up: a client that can't be recognized may have written it. Where parameters can be
-- stored, or a master writes them, none may.
abbrev unknown_after : Bool → Subject
unknown_after as_sheet = record subject { facts = record subject.facts { booted = record subject.facts.booted { period = None }; as_sheet = as_sheet } }

unseen_client : map (λ as_sheet. (progress_with (unknown_after as_sheet) changing 1010000 (Control 0)).heartbeats.former) (true ∷ false ∷ []) ≡ Some 65535 ∷ None ∷ []
unfolding progress_with begun booted
unseen_client = refl

-- ---- heartbeats go on though 0 was written to 1017:00

-- it had 1000 ms, and the answer came at 1 s
abbrev zero_written : Progress
zero_written = record waiting {
  heartbeats = record waiting.heartbeats { since = Some 1000000; awaited = Transfer; former = Some 1000; answered = Some 1000000 };
  entries = record waiting.entries { period = Some 0 };
}

-- frames with their stamps, one after another, and what is found of a heartbeat after them
abbrev after_all : Progress → List (ℕ × FrameKind) → Progress
after_all progress [] = progress
after_all progress (frame ∷ later) = after_all (progress_with subject progress frame.0 frame.1) later

abbrev off_after : List (ℕ × FrameKind) → ℕ → ℕ → Option Finding
off_after before micros byte = (findings_at subject [] (after_all zero_written before) micros (Control byte)).heartbeat

-- the first one may be that of the old period; the second one is found, and no later one
off : off_after [] 1500000 5 ∷ off_after ((1500000, Control 5) ∷ []) 2000000 5 ∷ off_after ((1500000, Control 5) ∷ (2000000, Control 5) ∷ []) 2500000 5 ∷ []
    ≡ None ∷ Some HeartbeatOff ∷ None ∷ []
unfolding findings_at progress_with begun found control_findings heartbeat_findings nmt_frames.after_control late_finding overdue_by early_remark states.is_settled states.after_control states.after_other
off = refl

-- one that comes 10 ms after the answer may have been on its way
on_its_way : map (λ first. off_after ((first, Control 5) ∷ []) 1500000 5) (1010000 ∷ 1010001 ∷ []) ≡ None ∷ Some HeartbeatOff ∷ []
unfolding findings_at progress_with begun found control_findings heartbeat_findings nmt_frames.after_control late_finding overdue_by early_remark states.is_settled states.after_control states.after_other
on_its_way = refl

-- one that shows another state may be sent at its change, and the next one isn't
at_change : off_after ((1500000, Control 5) ∷ []) 2000000 127 ∷ off_after ((1500000, Control 5) ∷ (2000000, Control 127) ∷ []) 2500000 127 ∷ [] ≡ None ∷ Some HeartbeatOff ∷ []
unfolding findings_at progress_with begun found control_findings heartbeat_findings nmt_frames.after_control late_finding overdue_by early_remark states.is_settled states.after_control states.after_other states.awaits_boot_up
at_change = refl

-- other frames between them, of other nodes; error control of two bytes, node guarding, an error frame, a reset
between : map (λ kind. off_after ((1500000, Control 5) ∷ (1600000, kind) ∷ (1700000, Control 5) ∷ []) 2000000 5) (OddControl 2 ∷ Guarding ∷ Fault ∷ Command ResetNode ∷ []) ≡ None ∷ None ∷ None ∷ None ∷ []
unfolding findings_at progress_with begun found control_findings heartbeat_findings nmt_frames.after_control nmt_frames.after_command after_odd_control after_fault with_gap late_finding overdue_by early_remark states.is_settled states.after_control states.after_other states.awaits_boot_up
between = refl

others_between : map (λ kind. off_after ((1500000, Control 5) ∷ (1600000, kind) ∷ []) 2000000 5) (Other ∷ Command Start ∷ []) ≡ Some HeartbeatOff ∷ None ∷ []
unfolding findings_at progress_with begun found control_findings heartbeat_findings nmt_frames.after_control nmt_frames.after_command late_finding overdue_by early_remark states.is_settled states.after_control states.after_other states.awaits_boot_up states.after_command
others_between = refl

-- where nothing was recorded for longer than an answer may take nothing is known
in_a_gap : map (λ micros. off_after ((1500000, Control 5) ∷ []) micros 5) (2500000 ∷ 2500001 ∷ []) ≡ Some HeartbeatOff ∷ None ∷ []
unfolding findings_at progress_with begun found control_findings heartbeat_findings nmt_frames.after_control late_finding overdue_by early_remark states.is_settled states.after_control states.after_other
in_a_gap = refl

-- later ones are the same mistake, and unjudged
off_verdicts : map (λ before. (findings_at subject [] (after_all zero_written before) 2500000 (Control 5)).verdict) (((2000000, Control 5) ∷ []) ∷ ((1500000, Control 5) ∷ (2000000, Control 5) ∷ []) ∷ [])
    ≡ Some Different ∷ Some Unjudged ∷ []
unfolding findings_at progress_with begun found control_findings control_judged heartbeat_findings nmt_frames.after_control late_finding overdue_by early_remark states.is_settled states.after_control states.after_other states.awaits_boot_up states.boot_finding states.control_finding states.state_finding silence_finding
off_verdicts = refl

-- ---- a request to write 1017:00, and 1018:00

abbrev former_by : Option ℕ → ℕ → Option ℕ
former_by period index = (channel_heard subject (record waiting { entries = record waiting.entries { period = period } }) 1000000 Client (request index)).heartbeats.former

requests : map (former_by (Some 1000)) (0x17 ∷ 0x18 ∷ []) ≡ Some 1000 ∷ None ∷ []
unfolding channel_heard exchange_at dialogue_heard exchange_in is_certain newest_with newest_after breach_at shown_period shown_inhibit asked_to_write request_row_in
requests = refl

-- what 1017:00 has isn't known
requests_unknown : map (former_by None) (0x17 ∷ 0x18 ∷ []) ≡ Some 65535 ∷ None ∷ []
unfolding channel_heard exchange_at dialogue_heard exchange_in is_certain newest_with newest_after breach_at shown_period shown_inhibit asked_to_write request_row_in
requests_unknown = refl

-- ---- a request that comes again

-- 1017:00 has 1000 ms, and a client asks to write 500, or 458; then what it asked last is known
abbrev once : ℕ → Progress
once low = channel_heard subject waiting 1000000 Client (write low)

newest : map (λ low. (once low).heartbeats.asked) (0xF4 ∷ 0xCA ∷ []) ≡ Some 500 ∷ Some 458 ∷ []
unfolding channel_heard exchange_at dialogue_heard exchange_in is_certain newest_with newest_after breach_at shown_period shown_inhibit asked_to_write request_row_in
newest = refl

-- the same request again, and one of another number; of both 1000 ms is the longest
again : map (λ low. (channel_heard subject (once 0xF4) 1100000 Client (write low)).heartbeats.former) (0xF4 ∷ 0xCA ∷ []) ≡ Some 1000 ∷ Some 1000 ∷ []
unfolding channel_heard exchange_at dialogue_heard exchange_in is_certain newest_with newest_after breach_at shown_period shown_inhibit asked_to_write request_row_in
again = refl

-- 1017:00 has 400 ms: 500 ms may run once a client asks to write another number
longer_asked : (channel_heard subject (record (once 0xF4) { heartbeats = record (once 0xF4).heartbeats { former = Some 400 } }) 1100000 Client (write 0xCA)).heartbeats.former ≡ Some 500
unfolding channel_heard exchange_at dialogue_heard exchange_in is_certain newest_with newest_after breach_at shown_period shown_inhibit asked_to_write request_row_in
longer_asked = refl

-- between the two an error frame came, which may stand for a third; so 1017:00 may have any
after_error_frame : (channel_heard subject (after_fault (once 0xF4) 1050000) 1100000 Client (write 0xF4)).heartbeats.former ≡ Some 65535
unfolding channel_heard exchange_at dialogue_heard exchange_in is_certain newest_with newest_after breach_at shown_period shown_inhibit asked_to_write request_row_in after_fault with_gap
after_error_frame = refl

not_after_boot_up : (booted subject (once 0xF4) 1100000).heartbeats.asked ≡ None
unfolding booted
not_after_boot_up = refl

-- ---- a bad line

-- it had one request at most, which left what 1017:00 had, or what a client asked to write last
abbrev lost_of : Progress → ℕ → Option ℕ
lost_of progress micros = (begun subject (with_bad_line progress) micros).heartbeats.former

one_lost : lost_of waiting 1000001 ∷ lost_of changing 1000001 ∷ lost_of (once 0xF4) 1000001 ∷ [] ≡ Some 1000 ∷ Some 10000 ∷ Some 1000 ∷ []
unfolding begun channel_heard exchange_at dialogue_heard exchange_in is_certain newest_with newest_after breach_at shown_period shown_inhibit asked_to_write request_row_in
one_lost = refl

unknown_lost : lost_of (record waiting { entries = record waiting.entries { period = None } }) 1000001 ≡ Some 65535
unfolding begun
unknown_lost = refl

-- two had two; and none was recorded for longer than three periods, or a stamp steps back
two_lost : lost_of (with_bad_line waiting) 1000001 ≡ Some 65535
unfolding begun
two_lost = refl

lost_in_a_gap : map (lost_of waiting) (999999 ∷ 1000000 ∷ 4000000 ∷ 4000001 ∷ []) ≡ Some 65535 ∷ Some 1000 ∷ Some 1000 ∷ Some 65535 ∷ []
unfolding begun
lost_in_a_gap = refl

-- without a bad line the recorder rested
rested : (begun subject waiting 4000001).heartbeats.former ≡ Some 65535
unfolding begun
rested = refl
