-- TPDOs and EMCY that may have waited until the device could send again: what is found at the next ones, on both sides of each
-- edge.
use Rattle.std.proofs.Common.{◌≡◌, ℕ, true, false, List, [], ◌∷◌, ◌++◌, map, Option, Some, None, refl}
use Rattle.co_frame.specs.declared.nmt.NmtService.TheVariants.{Start}
use Rattle.conode_compare_pdos.specs.declared.deviation.Deviation.TheVariants.{Inhibit}
use Rattle.conode_compare_pdos.specs.declared.pdos.Pdos.{Pdos}
use Rattle.conode_compare_pdos.specs.Followed.{framed, sighting, unknown_pdos}
use Rattle.conode_compare_pdos.specs.Deviations.{deviation_at, time_deviation}
use Rattle.conode_compare_pdos.specs.Tpdos.{booted_tpdo}
use Rattle.conode_compare_nmt.specs.declared.entries.Entries.{Entries}
use Rattle.conode_compare_nmt.specs.declared.finding.Finding.{Finding}
use Rattle.conode_compare_nmt.specs.declared.finding.Finding.TheVariants.{EmergencyInhibit, EmergencyRegister, Pdo as PdoFinding}
use Rattle.conode_compare_nmt.specs.declared.leaving.Leaving.TheVariants.{Nothing, Awaited, Shown}
use Rattle.conode_compare_nmt.specs.declared.limits.Subject.{Subject}
use Rattle.conode_compare_nmt.specs.declared.nmt.Nmt.{Nmt}
use Rattle.conode_compare_nmt.specs.Heartbeats.{is_missing, late_finding, overdue_by}
use Rattle.conode_compare_nmt.specs.OtherClients.{no_clients}
use Rattle.conode_compare_nmt.specs.States as states
use Rattle.conode_compare_nmt.specs.States.{after_boot_up, after_other, awaits_boot_up, is_settled, nothing_commanded}
use Rattle.conode_compare_nmt.proofs.Examples.{limits}
use Rattle.conode_compare_rules.specs.declared.kind.FrameKind.{FrameKind}
use Rattle.conode_compare_rules.specs.declared.kind.FrameKind.TheVariants.{Command, Control, Emergency, Fault, Process}
use Rattle.conode_compare_rules.specs.declared.progress.Progress.{Progress}
use Rattle.conode_compare_rules.specs.EmergencyRules.{after_emergency, emergency_finding, emergency_findings, inhibit_finding}
use Rattle.conode_compare_rules.specs.Gaps.{after_fault, before_recording, begun, with_gap}
use Rattle.conode_compare_rules.specs.NmtFrames as nmt_frames
use Rattle.conode_compare_rules.specs.NmtFrames.{booted}
use Rattle.conode_compare_rules.specs.Processes.{after_process, moment_at, process_findings}
use Rattle.conode_compare_rules.specs.Progresses.{findings_at, progress_with}
use Rattle.conode_compare_rules.specs.Verdicts.{found}
use Rattle.conode_compare_rules.specs.Waits.{counts_since, is_among_first, sends_first}

-- ---- node 5, whose first TPDO is on 185h, of four bytes and event-driven; both inhibit times are 100 ms; 1017:00 has 1000 ms

abbrev pdos : Pdos
pdos = record unknown_pdos { first = booted_tpdo None (record { id = Some 0x185; kind = Some 255; inhibit = Some 1000; timer = Some 0; length = Some 4 }) }

abbrev subject_with : ℕ → Subject
subject_with inhibit =
    let sheet : Entries = record { period = Some 1000; emergencies = true; inhibit = Some inhibit; inhibit_shown = None } in
    record {
      node = 5;
      limits = limits;
      facts = record { before = sheet; booted = sheet; pdos = pdos; clients = no_clients; starts_itself = false; modular = false; stores = false; as_sheet = true };
      held = record { entries = record { items = [] } };
      rooms = record { strings = None; domains = None };
    }

abbrev subject : Subject
subject = subject_with 1000

-- frames with their stamps, one after another, and what is found of the last one
abbrev after : Subject → Progress → List (ℕ × FrameKind) → Progress
after subject progress [] = progress
after subject progress (frame ∷ later) = after subject (progress_with subject progress frame.0 frame.1) later

abbrev last_of : Subject → List (ℕ × FrameKind) → ℕ → FrameKind → Option Finding
last_of subject before micros kind = (findings_at subject [] (after subject (before_recording subject) before) micros kind).frame

abbrev tpdo : FrameKind
tpdo = Process 0x185 4

-- "error reset or no error"
abbrev emergency : FrameKind
emergency = Emergency 0 0

-- the device is operational, and its last heartbeat came at 2 s
abbrev runs : List (ℕ × FrameKind)
runs = (0, Control 0) ∷ (100000, Command Start) ∷ (1000000, Control 5) ∷ (2000000, Control 5) ∷ []

abbrev found_then : List (ℕ × FrameKind) → ℕ → FrameKind → Option Finding
found_then later micros kind = last_of subject (runs ++ later) micros kind

-- ---- TPDOs

-- without such a moment the second one of two comes too soon
too_soon : found_then ((2050000, tpdo) ∷ []) 2100000 tpdo ≡ Some (PdoFinding 1 (Inhibit 50000 1000))
unfolding findings_at progress_with begun booted found nmt_frames.after_control states.after_control after_boot_up after_other awaits_boot_up nmt_frames.after_command states.after_command after_process process_findings moment_at sighting framed deviation_at time_deviation is_settled overdue_by late_finding is_missing
too_soon = refl

-- the first one after an error frame may have waited; the next one hasn't
after_error : found_then ((2030000, Fault) ∷ (2050000, tpdo) ∷ []) 2100000 tpdo ∷ found_then ((2030000, Fault) ∷ (2050000, tpdo) ∷ (2100000, tpdo) ∷ []) 2150000 tpdo ∷ []
    ≡ None ∷ Some (PdoFinding 1 (Inhibit 50000 1000)) ∷ []
unfolding findings_at progress_with begun booted found nmt_frames.after_control states.after_control after_boot_up after_other awaits_boot_up nmt_frames.after_command states.after_command after_process process_findings moment_at sighting framed deviation_at time_deviation is_settled overdue_by late_finding is_missing after_fault with_gap
after_error = refl

-- so may one that comes within the tolerance after that
after_first : map (λ second. found_then ((2030000, Fault) ∷ (2050000, tpdo) ∷ (second, tpdo) ∷ []) 2100000 tpdo) (2060000 ∷ 2060001 ∷ [])
    ≡ None ∷ Some (PdoFinding 1 (Inhibit 39999 1000)) ∷ []
unfolding findings_at progress_with begun booted found nmt_frames.after_control states.after_control after_boot_up after_other awaits_boot_up nmt_frames.after_command states.after_command after_process process_findings moment_at sighting framed deviation_at time_deviation is_settled overdue_by late_finding is_missing after_fault with_gap
after_first = refl

-- or after a heartbeat, which shows as well that the device sends
after_heartbeat : map (λ first. found_then ((2030000, Fault) ∷ (2045000, Control 5) ∷ (first, tpdo) ∷ []) 2100000 tpdo) (2055000 ∷ 2055001 ∷ [])
    ≡ None ∷ Some (PdoFinding 1 (Inhibit 44999 1000)) ∷ []
unfolding findings_at progress_with begun booted found nmt_frames.after_control states.after_control after_boot_up after_other awaits_boot_up nmt_frames.after_command states.after_command after_process process_findings moment_at sighting framed deviation_at time_deviation is_settled overdue_by late_finding is_missing after_fault with_gap
after_heartbeat = refl

-- ---- EMCY

emergency_too_soon : found_then ((2050000, emergency) ∷ []) 2100000 emergency ≡ Some (EmergencyInhibit 50000 1000)
unfolding findings_at progress_with begun booted found nmt_frames.after_control states.after_control after_boot_up after_other awaits_boot_up nmt_frames.after_command states.after_command after_emergency emergency_findings emergency_finding inhibit_finding is_settled overdue_by late_finding is_missing
emergency_too_soon = refl

emergency_after_error : found_then ((2030000, Fault) ∷ (2050000, emergency) ∷ []) 2100000 emergency ∷ found_then ((2030000, Fault) ∷ (2050000, emergency) ∷ (2100000, emergency) ∷ []) 2150000 emergency ∷ []
    ≡ None ∷ Some (EmergencyInhibit 50000 1000) ∷ []
unfolding findings_at progress_with begun booted found nmt_frames.after_control states.after_control after_boot_up after_other awaits_boot_up nmt_frames.after_command states.after_command after_emergency emergency_findings emergency_finding inhibit_finding is_settled overdue_by late_finding is_missing after_fault with_gap
emergency_after_error = refl

emergency_after_first : map (λ second. found_then ((2030000, Fault) ∷ (2050000, tpdo) ∷ (second, emergency) ∷ []) 2100000 emergency) (2060000 ∷ 2060001 ∷ [])
    ≡ None ∷ Some (EmergencyInhibit 39999 1000) ∷ []
unfolding findings_at progress_with begun booted found nmt_frames.after_control states.after_control after_boot_up after_other awaits_boot_up nmt_frames.after_command states.after_command after_emergency emergency_findings emergency_finding inhibit_finding is_settled overdue_by late_finding is_missing after_fault with_gap after_process process_findings moment_at sighting framed deviation_at time_deviation
emergency_after_first = refl

-- ---- its error register, where no inhibit time is

register_after_error : map (λ before. last_of (subject_with 0) (runs ++ before) 2050000 (Emergency 0x8130 0)) ([] ∷ ((2030000, Fault) ∷ []) ∷ []) ≡ Some (EmergencyRegister 0x8130 0) ∷ None ∷ []
unfolding findings_at progress_with begun booted found nmt_frames.after_control states.after_control after_boot_up after_other awaits_boot_up nmt_frames.after_command states.after_command after_emergency emergency_findings emergency_finding inhibit_finding is_settled overdue_by late_finding is_missing after_fault with_gap
register_after_error = refl

-- ---- the definitions

-- before a frame shows that the device sends, within the tolerance after that, and later
among_first : map (is_among_first limits Awaited) (0 ∷ 9000000 ∷ []) ++ map (is_among_first limits (Shown 5)) (4 ∷ 5 ∷ 10005 ∷ 10006 ∷ []) ++ is_among_first limits Nothing 5 ∷ []
    ≡ true ∷ true ∷ true ∷ true ∷ true ∷ false ∷ false ∷ []
among_first = refl

abbrev awaited : Nmt
awaited = record nothing_commanded { leaving = Awaited }

-- after a command it may have waited for the end of stopped alone
commanded : sends_first limits awaited 200000 ∷ sends_first limits (record awaited { commanded = Some (record { service = Start; micros = 7 }) }) 200000 ∷ [] ≡ true ∷ false ∷ []
commanded = refl

abbrev counted : Nmt → ℕ
counted nmt = counts_since (record (before_recording subject) { started = 5; nmt = nmt })

-- the newest of them
times_since : counted nothing_commanded ∷ counted (record awaited { leaving = Shown 7 }) ∷ counted (record awaited { leaving = Shown 4 })
    ∷ counted (record awaited { leaving = Shown 7; commanded = Some (record { service = Start; micros = 6 }) }) ∷ []
    ≡ 5 ∷ 7 ∷ 5 ∷ 6 ∷ []
times_since = refl
