-- The client of another SDO channel writes 1017:00. By a data sheet that opens the channel compare takes its frames for such; by one that
-- doesn't it would say that the next heartbeat is late.
use Rattle.std.proofs.Common.{◌≡◌, ℕ, false, true, List, [], ◌∷◌, map, Option, Some, None, refl, sym, inr}
use Rattle.std.proofs.lemmas.Bool.{false≢true}
use Rattle.co_frame.specs.SdoRequests.{request_row_in}
use Rattle.co_profile.specs.declared.access.Access.TheVariants.{Rw}
use Rattle.co_profile.specs.Keys.{producer_key}
use Rattle.co_node_model.specs.Device.{moment}
use Rattle.co_node_model.specs.Inputs.{Applied, InputView, Written}
use Rattle.co_node_model.specs.Moments.{Constants}
use Rattle.co_node_model.proofs.ExampleNode.{came, device_with, frame, searches, u16}
use Rattle.conode_compare_pdos.specs.Followed.{framed, sighting, unknown_pdos}
use Rattle.conode_compare_nmt.specs.declared.clients.OtherClients.{OtherClients}
use Rattle.conode_compare_nmt.specs.declared.entries.Entries.{Entries}
use Rattle.conode_compare_nmt.specs.declared.finding.Finding.{Finding}
use Rattle.conode_compare_nmt.specs.declared.finding.Finding.TheVariants.{LateAfterBootUp}
use Rattle.conode_compare_nmt.specs.declared.limits.Subject.{Subject}
use Rattle.conode_compare_nmt.specs.EntriesInForce.{overwritten}
use Rattle.conode_compare_nmt.specs.Heartbeats.{is_missing, late_finding, overdue_by}
use Rattle.conode_compare_nmt.specs.OtherClients.{no_clients}
use Rattle.conode_compare_rules.specs.NmtFrames as nmt_frames
use Rattle.conode_compare_rules.specs.Gaps.{begun}
use Rattle.conode_compare_rules.specs.NmtFrames.{booted, control_findings, heartbeat_findings}
use Rattle.conode_compare_rules.specs.Processes.{after_process, moment_at, process_findings}
use Rattle.conode_compare_rules.specs.Progresses.{findings_at, progress_with}
use Rattle.conode_compare_nmt.specs.States as states
use Rattle.conode_compare_nmt.specs.States.{after_boot_up, after_other, awaits_boot_up, boot_finding, is_settled}
use Rattle.conode_compare_rules.specs.Verdicts.{found}
use Rattle.conode_compare_rules.specs.Answers.{silence_finding}
use Rattle.conode_compare_laws.specs.Differences.{differences_in, late_differences}
use Rattle.conode_compare_laws.specs.OtherWriters.{IsTold, WritesNot}
use Rattle.conode_compare_laws.specs.Periods.{WritesSeen, period_after}
use Rattle.conode_compare_laws.specs.Recordings.{with_stamp}

-- 680h is the identifier of the client of the device's second channel, 1201h
abbrev k : Constants
k = device_with (u16 Rw 0x1017 0 1000 ∷ [])

abbrev write : InputView
write = came 0x680 8 0x2B17_1000_DC05_0000

abbrev told : OtherClients
told = record { lowest = 0x680; highest = 0x680 }

written : map (period_after k) ([] ∷ (write ∷ []) ∷ []) ≡ 1000 ∷ 1500 ∷ []
unfolding searches request_row_in
written = refl

seen : WritesSeen told producer_key k (moment k [] write) write
seen on = inr (record { command = refl; device = refl; client = refl })

-- by a data sheet without the channel it isn't told; nor is an identifier of the device
not_told : IsTold 5 no_clients 0x680 → ⊥
not_told h = false≢true h.client

not_of_device : IsTold 5 (record { lowest = 0x580; highest = 0x680 }) 0x605 → ⊥
not_of_device h = false≢true (sym h.device)

-- the application writes 1017:00, and not 1015:00
of_application : WritesNot producer_key (Applied (Written (record { index = 0x1015; sub = 0 }) (1 ∷ 0 ∷ [])))
of_application = refl

not_of_application : WritesNot producer_key (Applied (Written producer_key (1 ∷ 0 ∷ []))) → ⊥
not_of_application h = false≢true (sym h)

-- ---- what compare says

abbrev entries : Option ℕ → Entries
entries period = record { period = period; emergencies = false; inhibit = Some 0; inhibit_shown = None }

abbrev subject : OtherClients → Subject
subject clients = record {
  node = 5;
  limits = record { tolerance = 10; drift = 1; answer = 1000; boot = 10000; time = None };
  facts = record { before = entries None; booted = entries (Some 1000); pdos = unknown_pdos; clients = clients; starts_itself = false; modular = false; stores = false; as_sheet = true };
  held = record { entries = record { items = [] } };
  rooms = record { strings = None; domains = None };
}

-- the period begins anew at the write, 0.1 s after the boot-up
abbrev late_found : OtherClients → List Finding
late_found clients = differences_in late_differences (subject clients) []
    (with_stamp 0 (frame 0x705 1 0) ∷ with_stamp 100000 (frame 0x680 8 0x2B17_1000_DC05_0000) ∷ with_stamp 1600000 (frame 0x705 1 127) ∷ [])

written_beside : map late_found (no_clients ∷ told ∷ []) ≡ (LateAfterBootUp 1600000 1000 ∷ []) ∷ [] ∷ []
unfolding findings_at progress_with begun booted found nmt_frames.after_control states.after_control silence_finding after_boot_up after_other awaits_boot_up boot_finding is_settled control_findings heartbeat_findings late_finding overdue_by process_findings moment_at sighting after_process framed overwritten is_missing
written_beside = refl
