-- Aborts before the timeout in recordings: where a tick comes sooner than 1 ms after the request, and of another sender; and none where the
-- data of a block upload look like one.
use Rattle.std.proofs.Common.{◌≡◌, ℕ, true, false, List, [], ◌∷◌, map, Some, None, refl}
use Rattle.co_frame.specs.SdoRequests.{request_row_in}
use Rattle.co_frame.specs.SdoResponses.{response_row_in}
use Rattle.co_profile.specs.declared.access.Access.TheVariants.{Rw}
use Rattle.co_node_model.specs.Inputs.{InputView, Ticked}
use Rattle.co_node_model.specs.Moments.{Constants}
use Rattle.co_node_model.proofs.ExampleNode.{device_with, frame, request, searches, u16}
use Rattle.conode_compare_pdos.specs.Followed.{unknown_pdos}
use Rattle.conode_compare_values.specs.HeldNumbers.{held_mismatch}
use Rattle.conode_compare_values.specs.SheetValues.{mismatch_at}
use Rattle.conode_compare_transfers.specs.Breaches.{breach_at}
use Rattle.conode_compare_transfers.specs.Dialogues.{dialogue_heard, exchange_in, is_certain}
use Rattle.conode_compare_transfers.specs.NewestFrames.{newest_after, newest_with}
use Rattle.conode_compare_nmt.specs.declared.entries.Entries.{Entries}
use Rattle.conode_compare_nmt.specs.declared.finding.Finding.{Finding}
use Rattle.conode_compare_transfers.specs.declared.breach.Breach.TheVariants.{Early}
use Rattle.conode_compare_nmt.specs.declared.finding.Finding.TheVariants.{Transfer}
use Rattle.conode_compare_nmt.specs.declared.limits.Subject.{Subject}
use Rattle.conode_compare_rules.specs.Answers.{answer_finding, confirmed_finding, held_finding, silence_finding, stopped_finding, what_finding}
use Rattle.conode_compare_nmt.specs.EntriesInForce.{asked_to_write, shown_inhibit, shown_period}
use Rattle.conode_compare_nmt.specs.Heartbeats.{is_missing, late_finding, overdue_by}
use Rattle.conode_compare_rules.specs.NmtFrames as nmt_frames
use Rattle.conode_compare_rules.specs.Gaps.{begun}
use Rattle.conode_compare_rules.specs.NmtFrames.{booted, control_findings, heartbeat_findings}
use Rattle.conode_compare_rules.specs.Channels.{answer_findings, channel_heard, exchange_at, exchange_noted, late_noted, request_findings}
use Rattle.conode_compare_rules.specs.Progresses.{findings_at, progress_with}
use Rattle.conode_compare_nmt.specs.States as states
use Rattle.conode_compare_nmt.specs.States.{after_boot_up, after_other, awaits_boot_up, is_settled}
use Rattle.conode_compare_rules.specs.Verdicts.{found}
use Rattle.conode_compare_nmt.specs.OtherClients.{no_clients}
use Rattle.conode_compare_laws.specs.AnswerFindings.{timeout_differences}
use Rattle.conode_compare_laws.specs.Differences.{differences_in}
use Rattle.conode_compare_laws.specs.Recordings.{Recorded, Stamped, recording, with_stamp}

abbrev at : ℕ → InputView → Stamped
at micros input = record { micros = micros; input = input }

abbrev sheet : Entries
sheet = record { period = Some 1; emergencies = true; inhibit = Some 0; inhibit_shown = None }

-- without tolerance and drift, with the device's timeout of 2 ms
abbrev subject : Subject
subject = record {
  node = 5;
  limits = record { tolerance = 0; drift = 0; answer = 1; boot = 10000; time = Some 2 };
  facts = record { before = sheet; booted = sheet; pdos = unknown_pdos; clients = no_clients; starts_itself = false; modular = false; stores = false; as_sheet = true };
  held = record { entries = record { items = [] } };
  rooms = record { strings = None; domains = None };
}

abbrev timeouts_found : List Recorded → List Finding
timeouts_found recorded = differences_in timeout_differences subject [] recorded

-- heartbeats of 1 ms, and a timeout of 2 ms
abbrev quick : Constants
quick = record (device_with (u16 Rw 0x1017 0 1 ∷ [])) { time = 2 }

-- ---- the request to download 2001:00 comes 0.1 ms before a tick: the device counts that as 1 ms

abbrev hurried : List Recorded
hurried = recording quick (at 0 Ticked ∷ at 1000 Ticked ∷ at 2000 Ticked ∷ at 2900 (request 0x2101_2000_0500_0000) ∷ at 3000 Ticked ∷ at 4000 Ticked ∷ [])

abbrev sooner : List Recorded
sooner = with_stamp 0 (frame 0x705 1 0)
    ∷ with_stamp 0 (frame 0x705 1 127)
    ∷ with_stamp 1000 (frame 0x705 1 127)
    ∷ with_stamp 2000 (frame 0x705 1 127)
    ∷ with_stamp 2900 (frame 0x605 8 0x2101_2000_0500_0000)
    ∷ with_stamp 2900 (frame 0x585 8 0x6001_2000_0000_0000)
    ∷ with_stamp 3000 (frame 0x705 1 127)
    ∷ with_stamp 4000 (frame 0x585 8 0x8001_2000_0000_0405)
    ∷ with_stamp 4000 (frame 0x705 1 127)
    ∷ []

sooner_heard : hurried ≡ sooner
unfolding searches
sooner_heard = refl

before_timeout : timeouts_found sooner ≡ Transfer (Early (record { index = 0x2001; sub = 0 }) 1100 2) ∷ []
unfolding findings_at progress_with begun booted found states.after_control after_boot_up after_other awaits_boot_up is_settled nmt_frames.after_control control_findings heartbeat_findings silence_finding channel_heard exchange_at exchange_noted late_noted
    request_findings confirmed_finding answer_findings answer_finding stopped_finding held_finding what_finding held_mismatch dialogue_heard exchange_in is_certain newest_with newest_after breach_at shown_period shown_inhibit asked_to_write mismatch_at request_row_in response_row_in overdue_by late_finding is_missing
before_timeout = refl

-- ---- as before, but the request comes with a tick: the device aborts the transfer after its 2 ms

abbrev in_time : List Recorded
in_time = recording quick (at 0 Ticked ∷ at 1000 Ticked ∷ at 2000 Ticked ∷ at 2000 (request 0x2101_2000_0500_0000) ∷ at 3000 Ticked ∷ at 4000 Ticked ∷ [])

abbrev after_timeout : List Recorded
after_timeout = with_stamp 0 (frame 0x705 1 0)
    ∷ with_stamp 0 (frame 0x705 1 127)
    ∷ with_stamp 1000 (frame 0x705 1 127)
    ∷ with_stamp 2000 (frame 0x705 1 127)
    ∷ with_stamp 2000 (frame 0x605 8 0x2101_2000_0500_0000)
    ∷ with_stamp 2000 (frame 0x585 8 0x6001_2000_0000_0000)
    ∷ with_stamp 3000 (frame 0x705 1 127)
    ∷ with_stamp 4000 (frame 0x585 8 0x8001_2000_0000_0405)
    ∷ with_stamp 4000 (frame 0x705 1 127)
    ∷ []

in_time_heard : in_time ≡ after_timeout
unfolding searches
in_time_heard = refl

-- compare is given another time: a shorter one, 0, and a longer one
abbrev found_by : ℕ → List Recorded → List Finding
found_by time recorded = differences_in timeout_differences (record subject { limits = record subject.limits { time = Some time } }) [] recorded

other_times : map (λ time. found_by time after_timeout) (2 ∷ 1 ∷ 0 ∷ 3 ∷ [])
    ≡ [] ∷ [] ∷ (Transfer (Early (record { index = 0x2001; sub = 0 }) 2000 0) ∷ []) ∷ (Transfer (Early (record { index = 0x2001; sub = 0 }) 2000 3) ∷ []) ∷ []
unfolding findings_at progress_with begun booted found states.after_control after_boot_up after_other awaits_boot_up is_settled nmt_frames.after_control control_findings heartbeat_findings silence_finding channel_heard exchange_at exchange_noted late_noted
    request_findings confirmed_finding answer_findings answer_finding stopped_finding held_finding what_finding held_mismatch dialogue_heard exchange_in is_certain newest_with newest_after breach_at shown_period shown_inhibit asked_to_write mismatch_at request_row_in response_row_in overdue_by late_finding is_missing
other_times = refl

-- ---- another device aborts it

abbrev foreign_abort : List Recorded
foreign_abort = with_stamp 0 (frame 0x705 1 0)
    ∷ with_stamp 1000 (frame 0x705 1 127)
    ∷ with_stamp 2000 (frame 0x605 8 0x2101_2000_0500_0000)
    ∷ with_stamp 2000 (frame 0x585 8 0x6001_2000_0000_0000)
    ∷ with_stamp 2500 (frame 0x585 8 0x8001_2000_0000_0405)
    ∷ []

other_abort : timeouts_found foreign_abort ≡ Transfer (Early (record { index = 0x2001; sub = 0 }) 500 2) ∷ []
unfolding findings_at progress_with begun booted found states.after_control after_boot_up after_other awaits_boot_up is_settled nmt_frames.after_control control_findings heartbeat_findings silence_finding channel_heard exchange_at exchange_noted late_noted
    request_findings confirmed_finding answer_findings answer_finding stopped_finding held_finding what_finding held_mismatch dialogue_heard exchange_in is_certain newest_with newest_after breach_at shown_period shown_inhibit asked_to_write mismatch_at request_row_in response_row_in overdue_by late_finding is_missing
other_abort = refl

-- ---- the second segment of a block upload of 2100:00, which is the last: its bytes are those of such an abort, but for the number 2

abbrev uploaded : List Recorded
uploaded = with_stamp 0 (frame 0x705 1 0)
    ∷ with_stamp 1000 (frame 0x705 1 127)
    ∷ with_stamp 2000 (frame 0x605 8 0xA000_2100_7F00_0000)
    ∷ with_stamp 2000 (frame 0x585 8 0xC200_2100_0E00_0000)
    ∷ with_stamp 2500 (frame 0x605 8 0xA300_0000_0000_0000)
    ∷ with_stamp 2500 (frame 0x585 8 0x0141_4141_4141_4141)
    ∷ with_stamp 2500 (frame 0x585 8 0x8200_2100_0000_0405)
    ∷ []

looks_like_abort : timeouts_found uploaded ≡ []
unfolding findings_at progress_with begun booted found states.after_control after_boot_up after_other awaits_boot_up is_settled nmt_frames.after_control control_findings heartbeat_findings silence_finding channel_heard exchange_at exchange_noted late_noted
    request_findings confirmed_finding answer_findings answer_finding stopped_finding held_finding what_finding held_mismatch dialogue_heard exchange_in is_certain newest_with newest_after breach_at shown_period shown_inhibit asked_to_write mismatch_at request_row_in response_row_in overdue_by late_finding is_missing
looks_like_abort = refl
