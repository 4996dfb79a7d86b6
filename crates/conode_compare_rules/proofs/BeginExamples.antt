-- A recording that begins, also anew after a bad line: what a command before that allows, on both sides of each edge.
use Rattle.std.proofs.Common.{◌≡◌, ℕ, ◌+◌, List, [], ◌∷◌, ◌++◌, map, Option, Some, None, refl}
use Rattle.co_frame.specs.declared.nmt.NmtService.TheVariants.{Start, Stop, ResetNode}
use Rattle.conode_compare_nmt.specs.declared.finding.Finding.{Finding}
use Rattle.conode_compare_nmt.specs.declared.finding.Finding.TheVariants.{EmergencyStopped, SecondBootUp, WrongState}
use Rattle.conode_compare_nmt.specs.declared.finding.NmtState.TheVariants.{PreOperational, Operational}
use Rattle.conode_compare_rules.specs.declared.kind.FrameKind.{FrameKind}
use Rattle.conode_compare_rules.specs.declared.kind.FrameKind.TheVariants.{Command, Control, Emergency, Other}
use Rattle.conode_compare_nmt.specs.declared.nmt.Nmt.{Nmt}
use Rattle.conode_compare_rules.specs.declared.progress.Progress.{Progress}
use Rattle.conode_compare_rules.specs.EmergencyRules.{emergency_finding, inhibit_finding, emergency_findings}
use Rattle.conode_compare_nmt.specs.Heartbeats.{late_finding, overdue_by}
use Rattle.conode_compare_rules.specs.NmtFrames as nmt_frames
use Rattle.conode_compare_rules.specs.Gaps.{after_fault, anew_since, before_recording, begun, free_at, with_bad_line, with_gap}
use Rattle.conode_compare_rules.specs.NmtFrames.{booted, control_findings, heartbeat_findings}
use Rattle.conode_compare_rules.specs.Progresses.{findings_at, progress_with}
use Rattle.conode_compare_nmt.specs.States as states
use Rattle.conode_compare_nmt.specs.States.{after_boot_up, after_other, at_begin, awaits_boot_up, control_finding, is_settled, second_boot_up, state_finding}
use Rattle.conode_compare_rules.specs.Verdicts.{found}
use Rattle.conode_compare_nmt.proofs.Examples.{limits}
use Rattle.conode_compare_rules.proofs.TurnExamples.{after, last_found, subject}

-- frames, a bad line, and others; what is found at the last one of these
abbrev found_after : List (ℕ × FrameKind) → List (ℕ × FrameKind) → ℕ → FrameKind → Option Finding
found_after before later micros kind =
    (findings_at subject [] (after (with_bad_line (after (before_recording subject) before)) later) micros kind).frame

-- it begins, or begins anew: a bad line before the first frame says nothing
begins : map (λ p. anew_since limits p 7) (before_recording subject ∷ with_bad_line (before_recording subject) ∷ []) ≡ None ∷ None ∷ []
begins = refl

begins_anew : anew_since limits (with_bad_line (record (before_recording subject) { newest = Some 5 })) 7 ≡ Some 7
begins_anew = refl

-- After silence, or where a stamp steps back, it begins as at first, where no command came, and it didn't begin anew, within
-- 10 s.
abbrev recorded_with : Nmt → Progress
recorded_with nmt = record (before_recording subject) { newest = Some 5; nmt = nmt }

after_silence : anew_since limits (recorded_with (at_begin None)) 7 ≡ None
after_silence = refl

after_command_before : map (anew_since limits (recorded_with (record (at_begin None) { commanded = Some (record { service = Stop; micros = 6 }) }))) (5 ∷ 6 ∷ 10000006 ∷ 10000007 ∷ [])
    ≡ Some 5 ∷ Some 6 ∷ Some 6 ∷ None ∷ []
after_command_before = refl

after_begin_before : map (anew_since limits (recorded_with (at_begin (Some 6)))) (5 ∷ 6 ∷ 10000006 ∷ 10000007 ∷ []) ≡ Some 5 ∷ Some 6 ∷ Some 6 ∷ None ∷ []
after_begin_before = refl

-- the command counts, which is newer
after_both : anew_since limits (recorded_with (record (at_begin (Some 6)) { commanded = Some (record { service = Stop; micros = 7 }) })) 9 ≡ Some 7
after_both = refl

-- an error frame
after_error_frame : (after_fault (before_recording subject) 7).nmt ≡ at_begin (Some 7)
unfolding after_fault with_gap
after_error_frame = refl

-- a frame may have waited for one that came up to 1.5 ms before
bus_kept : free_at (Some 1000) 500 2000 ≡ 500
bus_kept = refl

bus_free : free_at (Some 1000) 500 3000 ≡ 3000
bus_free = refl

-- ---- a heartbeat shows that the device follows a command of before

-- the bad line comes after the Start; or it is the Start
follows_late : found_after ((0, Control 0) ∷ (100000, Command Start) ∷ []) ((200000, Control 127) ∷ (300000, Control 127) ∷ []) 400000 (Control 5) ≡ None
unfolding findings_at progress_with begun booted found nmt_frames.after_control states.after_control after_boot_up after_other awaits_boot_up nmt_frames.after_command states.after_command control_findings heartbeat_findings control_finding state_finding is_settled
follows_late = refl

follows_lost : found_after ((0, Control 0) ∷ (100000, Command Stop) ∷ []) ((200000, Control 4) ∷ (300000, Control 4) ∷ []) 400000 (Control 5) ≡ None
unfolding findings_at progress_with begun booted found nmt_frames.after_control states.after_control after_boot_up after_other awaits_boot_up nmt_frames.after_command states.after_command control_findings heartbeat_findings control_finding state_finding is_settled
follows_lost = refl

-- and as a recording begins
follows_earlier : map (λ byte. last_found ((0, Control byte) ∷ (100000, Control byte) ∷ []) 200000 (Control 5)) (127 ∷ 4 ∷ []) ≡ None ∷ None ∷ []
unfolding findings_at progress_with begun found nmt_frames.after_control states.after_control after_other awaits_boot_up control_findings heartbeat_findings control_finding state_finding is_settled
follows_earlier = refl

-- once it was operational it has followed it
followed : last_found ((0, Control 127) ∷ (100000, Control 5) ∷ (200000, Control 127) ∷ []) 300000 (Control 5) ≡ Some (WrongState Operational PreOperational)
unfolding findings_at progress_with begun found nmt_frames.after_control states.after_control after_other awaits_boot_up control_findings heartbeat_findings control_finding state_finding is_settled
followed = refl

-- A heartbeat later than 10 s after the begin ends it. After a command of the recording none does: the device may be slow.
abbrev beats : ℕ → List (ℕ × FrameKind)
beats byte = (2500000, Control byte) ∷ (5000000, Control byte) ∷ (7500000, Control byte) ∷ []

over : map (λ micros. last_found ((0, Other) ∷ beats 127 ++ (micros, Control 127) ∷ []) 12500000 (Control 5)) (10000000 ∷ 10000001 ∷ [])
    ≡ None ∷ Some (WrongState Operational PreOperational) ∷ []
unfolding findings_at progress_with begun found nmt_frames.after_control states.after_control after_other awaits_boot_up control_findings heartbeat_findings control_finding state_finding is_settled
over = refl

never_over : last_found ((0, Other) ∷ (100000, Command Start) ∷ beats 127 ++ (10000001, Control 127) ∷ []) 12500000 (Control 5) ≡ None
unfolding findings_at progress_with begun found nmt_frames.after_control states.after_control after_other awaits_boot_up nmt_frames.after_command states.after_command control_findings heartbeat_findings control_finding state_finding is_settled
never_over = refl

-- a byte that is no state shows none, so it ends nothing
no_state : last_found ((0, Other) ∷ beats 127 ++ (10000001, Control 6) ∷ []) 12500000 (Control 5) ≡ None
unfolding findings_at progress_with begun found nmt_frames.after_control states.after_control after_other awaits_boot_up control_findings heartbeat_findings control_finding state_finding is_settled
no_state = refl

-- so it is with an EMCY of a device that was shown stopped, with its answers
emergencies : map (λ micros. last_found ((0, Other) ∷ beats 4 ++ (micros, Control 4) ∷ []) 10500000 (Emergency 0 0)) (10000000 ∷ 10000001 ∷ [])
    ≡ None ∷ Some EmergencyStopped ∷ []
unfolding findings_at progress_with begun found nmt_frames.after_control states.after_control after_other awaits_boot_up emergency_findings emergency_finding inhibit_finding is_settled late_finding overdue_by
emergencies = refl

-- ---- a boot-up

-- the Start came before the bad line, or was that, and the boot-up frame waited
started : found_after ((0, Control 127) ∷ (100000, Command Start) ∷ []) ((200000, Control 0) ∷ []) 700000 (Control 5) ≡ None
unfolding findings_at progress_with begun booted found nmt_frames.after_control states.after_control after_boot_up after_other awaits_boot_up nmt_frames.after_command states.after_command control_findings heartbeat_findings control_finding state_finding is_settled
started = refl

-- The bus was quiet before the boot-up, as another node is there alone: the device starts itself. A Start came in the 10 s
-- before, which it may have taken.
quiet_start : last_found ((0, Other) ∷ (3000001, Control 0) ∷ []) 3500001 (Control 5) ≡ Some (WrongState Operational PreOperational)
unfolding findings_at progress_with begun booted found nmt_frames.after_control states.after_control after_boot_up control_findings heartbeat_findings control_finding state_finding is_settled
quiet_start = refl

started_before : map (λ micros. last_found ((0, Command Start) ∷ (micros, Control 0) ∷ []) (micros + 500000) (Control 5)) (10000000 ∷ 10000001 ∷ [])
    ≡ None ∷ Some (WrongState Operational PreOperational) ∷ []
unfolding findings_at progress_with begun booted found nmt_frames.after_control states.after_control after_boot_up nmt_frames.after_command states.after_command control_findings heartbeat_findings control_finding state_finding is_settled
started_before = refl

-- ---- two boot-ups: one of the reset commands came before the bad line, or was that

two_resets : found_after ((0, Control 127) ∷ (100000, Command ResetNode) ∷ []) ((200000, Control 0) ∷ []) 700000 (Control 0) ≡ None
unfolding findings_at progress_with begun booted found nmt_frames.after_control states.after_control after_boot_up after_other awaits_boot_up nmt_frames.after_command states.after_command second_boot_up is_settled with_gap
two_resets = refl

-- more than 10 s after that both are one device's, or two devices'
abbrev boots_late : ℕ → List (ℕ × FrameKind)
boots_late micros = (100000, Other) ∷ (3000000, Other) ∷ (5900000, Other) ∷ (8800000, Other) ∷ (micros, Control 0) ∷ []

two_late : map (λ micros. found_after ((0, Control 127) ∷ []) (boots_late micros) 10600000 (Control 0)) (10100000 ∷ 10100001 ∷ [])
    ≡ None ∷ Some (SecondBootUp 499999) ∷ []
unfolding findings_at progress_with begun booted found nmt_frames.after_control states.after_control after_boot_up second_boot_up is_settled
two_late = refl

one_device : last_found ((0, Control 0) ∷ []) 700000 (Control 0) ≡ Some (SecondBootUp 700000)
unfolding findings_at progress_with begun booted found states.after_control after_boot_up second_boot_up
one_device = refl

-- Two with one stamp may be far apart, however near the stamp before is: of a recorder that stamps a batch at its begin, or reads
-- its queue in parts.
one_stamp : map (λ micros. last_found ((1999999, Other) ∷ (2000000, Control 0) ∷ []) micros (Control 0)) (2000000 ∷ 2000001 ∷ [])
    ≡ None ∷ Some (SecondBootUp 1) ∷ []
unfolding findings_at progress_with begun booted found states.after_control after_boot_up second_boot_up
one_stamp = refl
