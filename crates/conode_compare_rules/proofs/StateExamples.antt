-- What NMT states and commands say of heartbeats, EMCY and TPDOs, on both sides of each edge, computed from the definitions.
use Rattle.std.proofs.Common.{◌≡◌, ℕ, true, false, [], ◌∷◌, map, Some, None, refl}
use Rattle.co_frame.specs.SdoRequests.{request_row_in}
use Rattle.co_frame.specs.declared.nmt.NmtService.TheVariants.{Start, Stop, ResetNode}
use Rattle.conode_compare_pdos.specs.declared.deviation.Moment.{Moment}
use Rattle.conode_explain_transfers.specs.declared.kinds.Side.TheVariants.{Client}
use Rattle.conode_compare_nmt.specs.declared.finding.Finding.TheVariants.{EmergencyStopped}
use Rattle.conode_compare_nmt.specs.declared.finding.NmtState.TheVariants.{Unknown, PreOperational, Operational, Stopped}
use Rattle.conode_compare_rules.specs.declared.kind.FrameKind.TheVariants.{Command, CommandToAll, LongCommand, Other}
use Rattle.conode_compare_nmt.specs.declared.nmt.Nmt.{Nmt}
use Rattle.conode_compare_rules.specs.declared.progress.Progress.{Progress}
use Rattle.conode_compare_transfers.specs.Dialogues.{dialogue_heard, is_certain, nothing_asked}
use Rattle.conode_compare_transfers.specs.NewestFrames.{newest_after, newest_with}
use Rattle.conode_compare_rules.specs.EmergencyRules.{emergency_finding, inhibit_finding, emergency_findings}
use Rattle.conode_compare_nmt.specs.Heartbeats.{overdue_by}
use Rattle.conode_compare_rules.specs.FrameKinds.{command_kind}
use Rattle.conode_compare_rules.specs.Gaps as gaps
use Rattle.conode_compare_rules.specs.NmtFrames as nmt_frames
use Rattle.conode_compare_rules.specs.Gaps.{before_recording, still_awaited}
use Rattle.conode_compare_rules.specs.NmtFrames.{control_judged}
use Rattle.conode_compare_rules.specs.Processes.{moment_at}
use Rattle.conode_compare_rules.specs.Progresses.{after_frame}
use Rattle.conode_compare_nmt.specs.States.{after_command, after_control, after_other, awaits_boot_up, boot_finding, is_settled, nothing_commanded}
use Rattle.conode_compare_rules.specs.Verdicts.{found}
use Rattle.conode_compare_nmt.proofs.Examples.{limits}
use Rattle.conode_compare_nmt.proofs.StateExamples.{changed_to, commanded_to, device, fell_back, slow_start, up_in}

-- ---- a heartbeat that waited for the bus, after a command at 100 ms

-- so is it judged, and an EMCY while stopped
abbrev after_stop : ℕ → Progress
after_stop free = record (before_recording device) { free = free; nmt = commanded_to Stop Stopped }

judged_when_free : map (λ free. control_judged device (after_stop free)) (110000 ∷ 110001 ∷ []) ≡ false ∷ true ∷ []
unfolding control_judged is_settled
judged_when_free = refl

emergency_waits : map (λ free. (emergency_findings device (after_stop free) 150000 0 0).frame) (110000 ∷ 110001 ∷ []) ≡ None ∷ Some EmergencyStopped ∷ []
unfolding emergency_findings emergency_finding inhibit_finding is_settled found overdue_by
emergency_waits = refl

-- ---- a device that is slow to follow a command

-- a TPDO and the next heartbeat may be those of either state
abbrev later_in : Nmt → Progress
later_in nmt = record (before_recording device) { free = 250000; nmt = nmt }

sends_pdo : (moment_at device (later_in slow_start) 250000).idle ≡ false
unfolding moment_at after_control after_other awaits_boot_up is_settled overdue_by
sends_pdo = refl

-- its inhibit time counts from the newest command, or from the begin of the recording
counts_from_command : map (λ nmt. (moment_at device (record (later_in nmt) { started = 7 }) 250000).commanded) (slow_start ∷ nothing_commanded ∷ []) ≡ Some 100000 ∷ Some 7 ∷ []
unfolding moment_at after_control after_other awaits_boot_up is_settled overdue_by
counts_from_command = refl

falls_back_later : (fell_back.due ≡ Unknown) × ((moment_at device (later_in fell_back) 250000).idle ≡ true)
unfolding moment_at after_control after_other awaits_boot_up is_settled overdue_by
falls_back_later = (refl, refl)

-- ---- a device that changes its state by itself, at 100 ms

-- an EMCY and a TPDO may have been on their way
emergency_on_its_way : map (λ free. (emergency_findings device (record (before_recording device) { free = free; nmt = changed_to Stopped }) 150000 0 0).frame) (110000 ∷ 110001 ∷ []) ≡ None ∷ Some EmergencyStopped ∷ []
unfolding emergency_findings emergency_finding inhibit_finding is_settled found overdue_by
emergency_on_its_way = refl

abbrev moment_after : ℕ → Moment
moment_after free = moment_at device (record (before_recording device) { free = free; nmt = changed_to PreOperational }) 150000

pdo_on_its_way : map (λ free. (moment_after free).idle) (110000 ∷ 110001 ∷ []) ≡ false ∷ true ∷ []
unfolding moment_at is_settled overdue_by
pdo_on_its_way = refl

pdo_unjudged : map (λ free. (moment_after free).known) (110000 ∷ 110001 ∷ []) ≡ false ∷ true ∷ []
unfolding moment_at is_settled overdue_by
pdo_unjudged = refl

-- ---- to whom a command is

to_all : command_kind 5 (record { id = 0; bytes = 2 ∷ 0 ∷ [] }) ≡ CommandToAll Stop
to_all = refl

to_it : command_kind 5 (record { id = 0; bytes = 2 ∷ 5 ∷ [] }) ≡ Command Stop
to_it = refl

to_another : command_kind 5 (record { id = 0; bytes = 2 ∷ 6 ∷ [] }) ≡ Other
to_another = refl

-- a command of more than two bytes: perhaps one
long_to_it : command_kind 5 (record { id = 0; bytes = 2 ∷ 5 ∷ 0 ∷ [] }) ≡ LongCommand Stop
long_to_it = refl

padded_to_all : command_kind 5 (record { id = 0; bytes = 1 ∷ 0 ∷ 0 ∷ 0 ∷ 0 ∷ 0 ∷ 0 ∷ 0 ∷ [] }) ≡ LongCommand Start
padded_to_all = refl

long_to_another : command_kind 5 (record { id = 0; bytes = 2 ∷ 6 ∷ 5 ∷ [] }) ≡ Other
long_to_another = refl

long_unknown : command_kind 5 (record { id = 0; bytes = 3 ∷ 5 ∷ 0 ∷ [] }) ≡ Other
long_unknown = refl

short : command_kind 5 (record { id = 0; bytes = 2 ∷ [] }) ≡ Other
short = refl

-- ---- a command with more than two bytes: the device is in the state before, or in that after it

long_stop : (after_frame device (record (before_recording device) { nmt = up_in Operational }) 5 (LongCommand Stop)).nmt.state ≡ Unknown
unfolding nmt_frames.after_command after_command
long_stop = refl

long_start : (after_frame device (record (before_recording device) { nmt = up_in Operational }) 5 (LongCommand Start)).nmt.state ≡ Operational
unfolding nmt_frames.after_command after_command
long_start = refl

long_reset : boot_finding limits (after_frame device (record (before_recording device) { nmt = up_in Operational }) 5 (LongCommand ResetNode)).nmt 10000006 ≡ None
unfolding nmt_frames.after_command gaps.with_gap after_command boot_finding awaits_boot_up
long_reset = refl

-- ---- gaps

-- a recording that begins anew awaits it all the same
still_saving : (still_awaited (dialogue_heard 1000 0 nothing_asked 2000000 Client (record { id = 0x605; bytes = 0x23 ∷ 0x10 ∷ 0x10 ∷ 1 ∷ 0x73 ∷ 0x61 ∷ 0x76 ∷ 0x65 ∷ [] })) 9000000).slow ≡ record { count = 1; newest = 9000000 }
unfolding dialogue_heard is_certain newest_after newest_with request_row_in
still_saving = refl
