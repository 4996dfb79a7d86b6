-- A heartbeat that is missing, by EMCYs and by TPDOs of the device, on both sides of each edge.
use Rattle.std.proofs.Common.{◌≡◌, ℕ, true, false, [], ◌∷◌, map, Option, Some, None, refl}
use Rattle.conode_explain_transfers.specs.declared.kinds.Side.TheVariants.{Server}
use Rattle.conode_compare_pdos.specs.declared.deviation.Deviation.TheVariants.{NotOperational}
use Rattle.conode_compare_pdos.specs.declared.parameters.Parameters.{Parameters}
use Rattle.conode_compare_pdos.specs.declared.pdos.Pdos.{Pdos}
use Rattle.conode_compare_pdos.specs.Followed.{framed, sighting, unknown_pdos}
use Rattle.conode_compare_pdos.specs.Tpdos.{booted_tpdo}
use Rattle.conode_compare_nmt.specs.declared.entries.Entries.{Entries}
use Rattle.conode_compare_nmt.specs.declared.entries.Facts.{Facts}
use Rattle.conode_compare_nmt.specs.declared.finding.Finding.{Finding}
use Rattle.conode_compare_nmt.specs.declared.finding.Finding.TheVariants.{HeartbeatLate}
use Rattle.conode_compare_nmt.specs.declared.heartbeats.Since.TheVariants.{Heartbeat}
use Rattle.conode_compare_nmt.specs.declared.finding.NmtState.TheVariants.{Operational, Unknown}
use Rattle.conode_compare_rules.specs.declared.kind.FrameKind.{FrameKind}
use Rattle.conode_compare_rules.specs.declared.kind.FrameKind.TheVariants.{Control, Emergency, OddEmergency, Other, Process, Sdo}
use Rattle.conode_compare_nmt.specs.declared.limits.Subject.{Subject}
use Rattle.conode_compare_rules.specs.declared.progress.Progress.{Progress}
use Rattle.conode_compare_nmt.specs.Heartbeats.{is_missing, late_finding, overdue_by}
use Rattle.conode_compare_rules.specs.Gaps.{before_recording, begun}
use Rattle.conode_compare_rules.specs.NmtFrames.{control_findings, heartbeat_findings, steady_when_free}
use Rattle.conode_compare_rules.specs.EmergencyRules.{after_emergency, emergency_findings}
use Rattle.conode_compare_rules.specs.Channels.{answer_findings, answer_nmt, late_noted}
use Rattle.conode_compare_rules.specs.Processes.{after_process, moment_at, process_findings, unless_overdue}
use Rattle.conode_compare_rules.specs.Progresses.{findings_at, progress_with}
use Rattle.conode_compare_nmt.specs.States.{after_other, awaits_boot_up, is_settled, nothing_commanded}
use Rattle.conode_compare_rules.specs.Verdicts.{found}
use Rattle.conode_compare_nmt.specs.OtherClients.{no_clients}
use Rattle.conode_compare_nmt.proofs.Examples.{limits}

-- ---- node 5, whose first TPDO is on 185h, of four bytes and event-driven; 1017:00 has 1000 ms

abbrev event_driven : Parameters
event_driven = record { id = Some 0x185; kind = Some 255; inhibit = Some 0; timer = Some 0; length = Some 4 }

abbrev sheet : Entries
sheet = record { period = Some 1000; emergencies = true; inhibit = Some 0; inhibit_shown = None }

abbrev pdos : Pdos
pdos = record unknown_pdos { first = booted_tpdo None event_driven }

abbrev facts : Facts
facts = record { before = sheet; booted = sheet; pdos = pdos; clients = no_clients; starts_itself = false; modular = false; stores = false; as_sheet = true }

abbrev pub subject : Subject
subject = record {
  node = 5;
  limits = limits;
  facts = facts;
  held = record { entries = record { items = [] } };
  rooms = record { strings = None; domains = None };
}

-- operational, its last heartbeat came at 5 µs, and other frames come up to 1 s
abbrev pub waiting : Progress
waiting = record (before_recording subject) {
  newest = Some 1000000;
  free = 1000000;
  nmt = record nothing_commanded { state = Operational };
  heartbeats = record { guarded = false; since = Some 5; awaited = Heartbeat; sent = Some 5; shown = None; slow = None; former = None; answered = None; asked = None };
  pdos = pdos;
}

-- an EMCY or a TPDO showed at 1020006 µs that the device sends
abbrev shown_at : ℕ → Progress
shown_at micros = record waiting { heartbeats = record waiting.heartbeats { shown = Some micros } }

abbrev showing : Progress
showing = shown_at 1020006

abbrev found_of : Progress → ℕ → FrameKind → Option Finding
found_of progress micros kind = (findings_at subject [] progress micros kind).heartbeat

abbrev emergency : FrameKind
emergency = Emergency 0x8130 0x11

-- ---- by an EMCY: 1000 ms, 10 ms and 1 % after the one that showed that the device sends

by_emergency : found_of showing 2040007 emergency ≡ Some (HeartbeatLate 2040002 1000)
unfolding findings_at begun emergency_findings found late_finding overdue_by is_missing
by_emergency = refl

not_yet : found_of showing 2040006 emergency ≡ None
unfolding findings_at begun emergency_findings found late_finding overdue_by is_missing
not_yet = refl

-- the first frame since long isn't enough: the boot-up may come after it
first_frame : found_of waiting 2900000 emergency ≡ None
unfolding findings_at begun emergency_findings found late_finding overdue_by is_missing
first_frame = refl

-- one that came before the newest heartbeat doesn't count
before_heartbeat : found_of (shown_at 5) 2900000 emergency ≡ None
unfolding findings_at begun emergency_findings found late_finding overdue_by is_missing
before_heartbeat = refl

-- a late one that comes is said with its own stamp; by an EMCY nothing is said yet
late_itself : found_of waiting 1020006 (Control 5) ≡ Some (HeartbeatLate 1020001 1000)
unfolding findings_at begun control_findings heartbeat_findings found late_finding overdue_by
late_itself = refl

-- a TPDO may have its identifier, or 1014:00 isn't known
of_another : found_of (record showing { entries = record sheet { emergencies = false } }) 2040007 emergency ≡ None
unfolding findings_at begun emergency_findings found late_finding overdue_by is_missing
of_another = refl

-- of another number of bytes than eight: it needn't be the device's
odd : found_of showing 2040007 (OddEmergency 0) ≡ None
unfolding findings_at begun found
odd = refl

-- ---- by a TPDO

by_tpdo : found_of showing 2040007 (Process 0x185 4) ≡ Some (HeartbeatLate 2040002 1000)
unfolding findings_at begun process_findings moment_at sighting found late_finding overdue_by is_missing
by_tpdo = refl

tpdo_not_yet : found_of showing 2040006 (Process 0x185 4) ≡ None
unfolding findings_at begun process_findings moment_at sighting found late_finding overdue_by is_missing
tpdo_not_yet = refl

-- the bus wasn't free since 1 s: the heartbeat may wait
waits_for_bus : found_of (record showing { newest = Some 2040000 }) 2040007 (Process 0x185 4) ≡ None
unfolding findings_at begun process_findings moment_at sighting found late_finding overdue_by is_missing
waits_for_bus = refl

-- ---- by an answer

abbrev answer : FrameKind
answer = Sdo Server (record { id = 0x585; bytes = [] })

by_answer : found_of showing 2040007 answer ≡ Some (HeartbeatLate 2040002 1000)
unfolding findings_at begun answer_findings found late_finding overdue_by is_missing
by_answer = refl

answer_not_yet : found_of showing 2040006 answer ≡ None
unfolding findings_at begun answer_findings found late_finding overdue_by is_missing
answer_not_yet = refl

-- the first one may be of a device that was switched on again
first_answer : found_of waiting 1020006 answer ≡ None
unfolding findings_at begun answer_findings found late_finding overdue_by is_missing
first_answer = refl

-- so while a heartbeat is late the state says nothing, and no TPDO is judged
not_steady : map (λ free. steady_when_free subject (record waiting { free = free })) (1020005 ∷ 1020006 ∷ []) ≡ true ∷ false ∷ []
unfolding is_settled overdue_by
not_steady = refl

no_state : map (λ free. (answer_nmt subject (record waiting { free = free }) free).state) (1020005 ∷ 1020006 ∷ []) ≡ Operational ∷ Unknown ∷ []
unfolding overdue_by late_noted after_other awaits_boot_up
no_state = refl

unjudged_tpdo : map (λ late. unless_overdue late (Some (record { number = 1; deviation = Some NotOperational; judged = true }))) (false ∷ true ∷ [])
    ≡ Some (record { number = 1; deviation = Some NotOperational; judged = true }) ∷ Some (record { number = 1; deviation = None; judged = false }) ∷ []
unjudged_tpdo = refl

-- ---- no other frame says that the device sends: it may be switched off

other_pdo : found_of showing 2040007 (Process 0x186 4) ≡ None
unfolding findings_at begun process_findings moment_at sighting overdue_by
other_pdo = refl

other_frame : found_of showing 2040007 Other ≡ None
unfolding findings_at begun
other_frame = refl

-- nothing at all was recorded for longer than three periods
after_gap : found_of showing 4000001 emergency ≡ None
unfolding findings_at begun emergency_findings found late_finding overdue_by is_missing
after_gap = refl

-- ---- the first frame that shows it is kept, if the heartbeat is late

abbrev shown_by : Progress → ℕ → FrameKind → Option ℕ
shown_by progress micros kind = (progress_with subject progress micros kind).heartbeats.shown

shows : shown_by waiting 1020006 emergency ≡ Some 1020006
unfolding progress_with begun after_emergency late_finding overdue_by is_missing
shows = refl

shows_by_tpdo : shown_by waiting 1020006 (Process 0x185 4) ≡ Some 1020006
unfolding progress_with begun after_process moment_at framed sighting late_finding overdue_by is_missing
shows_by_tpdo = refl

not_late : shown_by waiting 1020005 emergency ≡ None
unfolding progress_with begun after_emergency late_finding overdue_by is_missing
not_late = refl

kept : shown_by showing 1500000 emergency ≡ Some 1020006
unfolding progress_with begun after_emergency late_finding overdue_by is_missing
kept = refl

anew : shown_by (shown_at 5) 1020006 emergency ≡ Some 1020006
unfolding progress_with begun after_emergency late_finding overdue_by is_missing
anew = refl

-- ---- once, until the next heartbeat

said_once : found_of (progress_with subject showing 2040007 emergency) 3900000 emergency ≡ None
unfolding findings_at progress_with begun after_emergency emergency_findings found late_finding overdue_by is_missing
said_once = refl

tpdo_once : found_of (progress_with subject showing 2040007 (Process 0x185 4)) 3900000 (Process 0x185 4) ≡ None
unfolding findings_at progress_with begun after_process process_findings moment_at framed sighting found late_finding overdue_by is_missing
tpdo_once = refl

heartbeat_once : found_of (progress_with subject showing 2040007 emergency) 3900000 (Control 5) ≡ None
unfolding findings_at progress_with begun after_emergency control_findings heartbeat_findings found late_finding overdue_by is_missing
heartbeat_once = refl

-- awaited until then
still_awaited : (progress_with subject showing 2040006 emergency).heartbeats.since ≡ Some 5
unfolding progress_with begun after_emergency late_finding overdue_by is_missing
still_awaited = refl

not_awaited : (progress_with subject showing 2040007 emergency).heartbeats.since ≡ None
unfolding progress_with begun after_emergency late_finding overdue_by is_missing
not_awaited = refl
