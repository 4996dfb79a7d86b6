-- What compare finds of answers in recordings: where another sender answers too, and none where a block download was begun before a pause.
use Rattle.std.proofs.Common.{◌≡◌, ℕ, true, false, List, [], ◌∷◌, Some, None, refl}
use Rattle.co_frame.specs.SdoRequests.{request_row_in}
use Rattle.co_frame.specs.SdoResponses.{response_row_in}
use Rattle.co_profile.specs.declared.access.Access.TheVariants.{Rw}
use Rattle.co_node_model.specs.Inputs.{InputView, Ticked}
use Rattle.co_node_model.proofs.ExampleNode.{device_with, frame, request, searches, u16}
use Rattle.conode_compare_pdos.specs.Followed.{unknown_pdos}
use Rattle.conode_compare_values.specs.HeldNumbers.{held_mismatch}
use Rattle.conode_compare_values.specs.SheetValues.{mismatch_at}
use Rattle.conode_compare_transfers.specs.Breaches.{breach_at}
use Rattle.conode_compare_transfers.specs.Dialogues.{dialogue_heard, exchange_in, is_certain}
use Rattle.conode_compare_transfers.specs.NewestFrames.{newest_after, newest_with}
use Rattle.conode_compare_nmt.specs.declared.entries.Entries.{Entries}
use Rattle.conode_compare_nmt.specs.declared.finding.Finding.{Finding}
use Rattle.conode_compare_transfers.specs.declared.breach.Breach.TheVariants.{Size}
use Rattle.conode_compare_nmt.specs.declared.finding.Finding.TheVariants.{Transfer, Unasked}
use Rattle.conode_compare_nmt.specs.declared.limits.Subject.{Subject}
use Rattle.conode_compare_rules.specs.Answers.{answer_finding, confirmed_finding, held_finding, silence_finding, stopped_finding, what_finding}
use Rattle.conode_compare_nmt.specs.EntriesInForce.{asked_to_write, shown_inhibit, shown_period}
use Rattle.conode_compare_nmt.specs.Heartbeats.{is_missing, late_finding, overdue_by}
use Rattle.conode_compare_rules.specs.NmtFrames as nmt_frames
use Rattle.conode_compare_rules.specs.Gaps.{begun}
use Rattle.conode_compare_rules.specs.NmtFrames.{booted, control_findings, heartbeat_findings}
use Rattle.conode_compare_rules.specs.Channels.{answer_findings, channel_heard, exchange_at, exchange_noted, late_noted, request_findings}
use Rattle.conode_compare_rules.specs.Progresses.{findings_at, progress_with}
use Rattle.conode_compare_nmt.specs.States as states
use Rattle.conode_compare_nmt.specs.States.{after_boot_up, after_other, awaits_boot_up, is_settled}
use Rattle.conode_compare_rules.specs.Verdicts.{found}
use Rattle.conode_compare_nmt.specs.OtherClients.{no_clients}
use Rattle.conode_compare_laws.specs.AnswerFindings.{answer_differences, data_differences}
use Rattle.conode_compare_laws.specs.Differences.{differences_in}
use Rattle.conode_compare_laws.specs.Recordings.{Recorded, Stamped, recording, with_stamp}

abbrev at : ℕ → InputView → Stamped
at micros input = record { micros = micros; input = input }

abbrev sheet : Entries
sheet = record { period = Some 0; emergencies = true; inhibit = Some 0; inhibit_shown = None }

abbrev subject : Subject
subject = record {
  node = 5;
  limits = record { tolerance = 10; drift = 1; answer = 1000; boot = 10000; time = None };
  facts = record { before = sheet; booted = sheet; pdos = unknown_pdos; clients = no_clients; starts_itself = false; modular = false; stores = false; as_sheet = true };
  held = record { entries = record { items = [] } };
  rooms = record { strings = None; domains = None };
}

abbrev answers_found : List Recorded → List Finding
answers_found recorded = differences_in answer_differences subject [] recorded

-- ---- a block download of 1017:00 is begun; nothing comes for 2 s, and a heartbeat; then comes segment 64, which looks like the
-- request to upload 1018:01

abbrev pausing : List Recorded
pausing = recording (device_with (u16 Rw 0x1017 0 1 ∷ []))
    (at 0 (request 0xC017_1000_0000_0000) ∷ at 2000000 Ticked ∷ at 2900000 Ticked ∷ at 3700000 (request 0x4018_1001_0000_0000) ∷ at 4500000 Ticked ∷ at 4800000 Ticked ∷ [])

-- the device takes it as a segment, and doesn't answer
abbrev paused : List Recorded
paused = with_stamp 0 (frame 0x705 1 0)
    ∷ with_stamp 0 (frame 0x605 8 0xC017_1000_0000_0000)
    ∷ with_stamp 0 (frame 0x585 8 0xA017_1000_7F00_0000)
    ∷ with_stamp 2000000 (frame 0x705 1 127)
    ∷ with_stamp 2900000 (frame 0x705 1 127)
    ∷ with_stamp 3700000 (frame 0x605 8 0x4018_1001_0000_0000)
    ∷ with_stamp 4500000 (frame 0x705 1 127)
    ∷ with_stamp 4800000 (frame 0x705 1 127)
    ∷ []

paused_heard : pausing ≡ paused
unfolding searches
paused_heard = refl

in_place_of_segment : answers_found paused ≡ []
unfolding findings_at progress_with begun booted found states.after_control after_boot_up after_other awaits_boot_up is_settled nmt_frames.after_control control_findings heartbeat_findings silence_finding channel_heard exchange_at exchange_noted late_noted
    request_findings confirmed_finding answer_findings answer_finding stopped_finding held_finding what_finding held_mismatch dialogue_heard exchange_in is_certain newest_with newest_after breach_at shown_period shown_inhibit asked_to_write mismatch_at request_row_in response_row_in overdue_by late_finding is_missing
in_place_of_segment = refl

-- ---- a second answer is another device's

abbrev twice_answered : List Recorded
twice_answered = with_stamp 0 (frame 0x705 1 0)
    ∷ with_stamp 900000 (frame 0x705 1 127)
    ∷ with_stamp 1700000 (frame 0x605 8 0x4018_1001_0000_0000)
    ∷ with_stamp 1700000 (frame 0x585 8 0x8018_1001_0000_0206)
    ∷ with_stamp 1800000 (frame 0x585 8 0x4318_1001_2301_0000)
    ∷ []

second_answer : answers_found twice_answered ≡ Unasked ∷ []
unfolding findings_at progress_with begun booted found states.after_control after_boot_up after_other awaits_boot_up is_settled nmt_frames.after_control control_findings heartbeat_findings silence_finding channel_heard exchange_at exchange_noted late_noted
    request_findings confirmed_finding answer_findings answer_finding stopped_finding held_finding what_finding held_mismatch dialogue_heard exchange_in is_certain newest_with newest_after breach_at shown_period shown_inhibit asked_to_write mismatch_at request_row_in response_row_in overdue_by late_finding is_missing
second_answer = refl

-- ---- nor is the last segment of another device: the device has eight bytes

abbrev foreign_segment : List Recorded
foreign_segment = with_stamp 0 (frame 0x705 1 0)
    ∷ with_stamp 900000 (frame 0x705 1 127)
    ∷ with_stamp 1700000 (frame 0x605 8 0x4008_1000_0000_0000)
    ∷ with_stamp 1700000 (frame 0x585 8 0x4108_1000_0800_0000)
    ∷ with_stamp 1800000 (frame 0x605 8 0x6000_0000_0000_0000)
    ∷ with_stamp 1800000 (frame 0x585 8 0x0B41_4200_0000_0000)
    ∷ []

other_size : differences_in data_differences subject [] foreign_segment ≡ Transfer (Size (record { index = 0x1008; sub = 0 }) 8 2) ∷ []
unfolding findings_at progress_with begun booted found states.after_control after_boot_up after_other awaits_boot_up is_settled nmt_frames.after_control control_findings heartbeat_findings silence_finding channel_heard exchange_at exchange_noted late_noted
    request_findings confirmed_finding answer_findings answer_finding stopped_finding held_finding what_finding held_mismatch dialogue_heard exchange_in is_certain newest_with newest_after breach_at shown_period shown_inhibit asked_to_write mismatch_at request_row_in response_row_in overdue_by late_finding is_missing
other_size = refl
