-- Within block uploads in recordings: data that look like an abort of another entry, and such an abort, or a wrong segment, of another sender.
use Rattle.std.proofs.Common.{◌≡◌, true, false, List, [], ◌∷◌, Some, None, refl}
use Rattle.co_frame.specs.SdoRequests.{request_row_in}
use Rattle.co_frame.specs.SdoResponses.{response_row_in}
use Rattle.co_node_model.proofs.ExampleNode.{frame}
use Rattle.conode_compare_pdos.specs.Followed.{unknown_pdos}
use Rattle.conode_compare_values.specs.HeldNumbers.{held_mismatch}
use Rattle.conode_compare_values.specs.SheetValues.{mismatch_at}
use Rattle.conode_compare_transfers.specs.Breaches.{breach_at}
use Rattle.conode_compare_transfers.specs.Dialogues.{dialogue_heard, exchange_in, is_certain}
use Rattle.conode_compare_transfers.specs.NewestFrames.{newest_after, newest_with}
use Rattle.conode_compare_nmt.specs.declared.entries.Entries.{Entries}
use Rattle.conode_compare_nmt.specs.declared.finding.Finding.{Finding}
use Rattle.conode_compare_transfers.specs.declared.breach.Breach.TheVariants.{AbortKey, Form}
use Rattle.conode_compare_nmt.specs.declared.finding.Finding.TheVariants.{Transfer}
use Rattle.conode_compare_nmt.specs.declared.limits.Subject.{Subject}
use Rattle.conode_compare_rules.specs.Answers.{answer_finding, confirmed_finding, held_finding, silence_finding, stopped_finding, what_finding}
use Rattle.conode_compare_nmt.specs.EntriesInForce.{asked_to_write, shown_inhibit, shown_period}
use Rattle.conode_compare_nmt.specs.OtherClients.{no_clients}
use Rattle.conode_compare_nmt.specs.Heartbeats.{is_missing, late_finding, overdue_by}
use Rattle.conode_compare_rules.specs.NmtFrames as nmt_frames
use Rattle.conode_compare_rules.specs.Gaps.{begun}
use Rattle.conode_compare_rules.specs.NmtFrames.{booted, control_findings, heartbeat_findings}
use Rattle.conode_compare_rules.specs.Channels.{answer_findings, channel_heard, exchange_at, exchange_noted, late_noted, request_findings}
use Rattle.conode_compare_rules.specs.Progresses.{findings_at, progress_with}
use Rattle.conode_compare_nmt.specs.States as states
use Rattle.conode_compare_nmt.specs.States.{after_boot_up, after_other, awaits_boot_up, is_settled}
use Rattle.conode_compare_rules.specs.Verdicts.{found}
use Rattle.conode_compare_laws.specs.AnswerFindings.{transfer_differences}
use Rattle.conode_compare_laws.specs.Differences.{differences_in}
use Rattle.conode_compare_laws.specs.Recordings.{Recorded, with_stamp}

abbrev sheet : Entries
sheet = record { period = Some 1; emergencies = true; inhibit = Some 0; inhibit_shown = None }

abbrev subject : Subject
subject = record {
  node = 5;
  limits = record { tolerance = 0; drift = 0; answer = 1; boot = 10000; time = None };
  facts = record { before = sheet; booted = sheet; pdos = unknown_pdos; clients = no_clients; starts_itself = false; modular = false; stores = false; as_sheet = true };
  held = record { entries = record { items = [] } };
  rooms = record { strings = None; domains = None };
}

-- the first segment of a block upload of 2100:00, and what comes after it
abbrev found_after : List Recorded → List Finding
found_after later =
    differences_in transfer_differences subject []
    (with_stamp 0 (frame 0x705 1 0)
    ∷ with_stamp 1000 (frame 0x705 1 127)
    ∷ with_stamp 2000 (frame 0x605 8 0xA000_2100_7F00_0000)
    ∷ with_stamp 2000 (frame 0x585 8 0xC200_2100_0E00_0000)
    ∷ with_stamp 2500 (frame 0x605 8 0xA300_0000_0000_0000)
    ∷ with_stamp 2500 (frame 0x585 8 0x0141_4141_4141_4141)
    ∷ later)

-- the second one is the last: its bytes are those of an abort of 2001:00, but for the number 2
looks_like_abort : found_after (with_stamp 2500 (frame 0x585 8 0x8201_2000_0000_0206) ∷ []) ≡ []
unfolding findings_at progress_with begun booted found states.after_control after_boot_up after_other awaits_boot_up is_settled nmt_frames.after_control control_findings heartbeat_findings silence_finding channel_heard exchange_at exchange_noted late_noted
    request_findings confirmed_finding answer_findings answer_finding stopped_finding held_finding what_finding held_mismatch dialogue_heard exchange_in is_certain newest_with newest_after breach_at shown_period shown_inhibit asked_to_write mismatch_at request_row_in response_row_in overdue_by late_finding is_missing
looks_like_abort = refl

-- ---- another device sends after it

-- a segment with the number 0
other_form : found_after (with_stamp 2500 (frame 0x585 8 0x0041_4141_4141_4141) ∷ []) ≡ Transfer (Form (record { index = 0x2100; sub = 0 })) ∷ []
unfolding findings_at progress_with begun booted found states.after_control after_boot_up after_other awaits_boot_up is_settled nmt_frames.after_control control_findings heartbeat_findings silence_finding channel_heard exchange_at exchange_noted late_noted
    request_findings confirmed_finding answer_findings answer_finding stopped_finding held_finding what_finding held_mismatch dialogue_heard exchange_in is_certain newest_with newest_after breach_at shown_period shown_inhibit asked_to_write mismatch_at request_row_in response_row_in overdue_by late_finding is_missing
other_form = refl

-- an abort of 2001:00, with the code 06020000h
other_key : found_after (with_stamp 2500 (frame 0x585 8 0x8001_2000_0000_0206) ∷ []) ≡ Transfer (AbortKey (record { index = 0x2100; sub = 0 })) ∷ []
unfolding findings_at progress_with begun booted found states.after_control after_boot_up after_other awaits_boot_up is_settled nmt_frames.after_control control_findings heartbeat_findings silence_finding channel_heard exchange_at exchange_noted late_noted
    request_findings confirmed_finding answer_findings answer_finding stopped_finding held_finding what_finding held_mismatch dialogue_heard exchange_in is_certain newest_with newest_after breach_at shown_period shown_inhibit asked_to_write mismatch_at request_row_in response_row_in overdue_by late_finding is_missing
other_key = refl
