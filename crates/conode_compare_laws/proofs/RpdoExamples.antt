-- What RPDOs write, in a recording: with it compare finds `value-held` where it finds nothing else, and the same of all other kinds.
use Rattle.std.proofs.Common.{◌≡◌, ℕ, true, false, List, [], ◌∷◌, map, Some, None, refl}
use Rattle.std.specs.Prelude.{pos}
use Rattle.std.specs.Option.{option_to_list}
use Rattle.co_frame.specs.SdoRequests.{request_row_in}
use Rattle.co_frame.specs.SdoResponses.{response_row_in}
use Rattle.co_profile.specs.declared.access.Access.TheVariants.{Rw}
use Rattle.co_sheet.specs.Content.{Row}
use Rattle.co_sheet.specs.Limits.{Default, absent, number}
use Rattle.co_value.specs.declared.data_type.DataType.{DataType}
use Rattle.co_value.specs.declared.data_type.DataType.TheVariants.{Unsigned8, Unsigned16, Unsigned32}
use Rattle.co_node_model.proofs.ExampleNode.{frame}
use Rattle.conode_compare_pdos.specs.Followed.{framed, sighting, unknown_pdos}
use Rattle.conode_compare_pdos.specs.Rpdos.{has_few_rpdos, mapped_from, rpdo_of}
use Rattle.conode_compare_values.specs.HeldNumbers.{held_mismatch, nothing_written, unmapped_from, written_heard}
use Rattle.conode_compare_values.specs.RpdoWrites.{brought_from, fits_from, no_writes, settled_from, taken_from}
use Rattle.conode_compare_values.specs.SheetValues.{mismatch_at, row_mismatch, value_mismatch}
use Rattle.conode_compare_transfers.specs.Breaches.{breach_at}
use Rattle.conode_compare_transfers.specs.Dialogues.{dialogue_heard, exchange_in, is_certain}
use Rattle.conode_compare_transfers.specs.NewestFrames.{newest_after, newest_with}
use Rattle.conode_compare_nmt.specs.declared.entries.Entries.{Entries}
use Rattle.conode_compare_nmt.specs.declared.finding.Finding.{Finding}
use Rattle.conode_compare_nmt.specs.declared.finding.Finding.TheVariants.{Held, Unasked}
use Rattle.conode_compare_rules.specs.declared.kind.FrameKind.{FrameKind}
use Rattle.conode_compare_nmt.specs.declared.limits.Subject.{Subject}
use Rattle.conode_compare_rules.specs.declared.verdict.Findings.{Findings}
use Rattle.conode_compare_rules.specs.Answers.{answer_finding, confirmed_finding, held_finding, silence_finding, stopped_finding, what_finding}
use Rattle.conode_compare_nmt.specs.EntriesInForce.{asked_to_write, shown_inhibit, shown_period}
use Rattle.conode_compare_nmt.specs.Heartbeats.{is_missing, late_finding, overdue_by}
use Rattle.conode_compare_rules.specs.NmtFrames as nmt_frames
use Rattle.conode_compare_rules.specs.Gaps.{begun}
use Rattle.conode_compare_rules.specs.NmtFrames.{after_command, booted, control_findings, heartbeat_findings}
use Rattle.conode_compare_rules.specs.Channels.{answer_findings, channel_heard, exchange_at, exchange_noted, late_noted, request_findings}
use Rattle.conode_compare_rules.specs.Processes.{after_process, moment_at, process_findings}
use Rattle.conode_compare_rules.specs.Progresses.{findings_at, progress_with}
use Rattle.conode_compare_nmt.specs.States as states
use Rattle.conode_compare_nmt.specs.States.{after_boot_up, after_other, awaits_boot_up, boot_finding, control_finding, is_settled, second_boot_up, state_finding}
use Rattle.conode_compare_rules.specs.Verdicts.{found}
use Rattle.conode_compare_nmt.specs.OtherClients.{no_clients}
use Rattle.conode_compare_receptions.specs.AllFrames.{program_over}
use Rattle.conode_compare_receptions.specs.OtherIds.{other_ids_of}
use Rattle.conode_compare_receptions.specs.Receptions.{booted_receptions, exchanged_by, is_sure, no_receptions, process_received, receptions_with, with_receptions}
use Rattle.conode_compare_laws.specs.Differences.{differences_in}
use Rattle.conode_compare_laws.specs.Recordings.{Recorded, with_stamp}
use Rattle.conode_compare_laws.specs.RpdoDifferences.{all_besides_held, as_read, besides_held}

-- ---- node 5, with an RPDO on 205h for 2000:00, which is held to what was written

abbrev row : ℕ → ℕ → DataType → Default → Row
row index sub data_type default = record {
  key = record { index = index; sub = sub };
  data_type = data_type;
  access = Rw;
  low = None;
  high = None;
  default = default;
  mappable = false;
  name = None;
  line = 1;
}

abbrev rows : List Row
rows = row 0x1400 1 Unsigned32 (number (pos 0x205)) ∷ row 0x1400 2 Unsigned8 (number (pos 255)) ∷ row 0x1600 0 Unsigned8 (number (pos 1))
    ∷ row 0x1600 1 Unsigned32 (number (pos 0x20000010)) ∷ record (row 0x2000 0 Unsigned16 absent) { mappable = true } ∷ []

abbrev sheet : Entries
sheet = record { period = Some 0; emergencies = true; inhibit = Some 0; inhibit_shown = None }

abbrev subject : Subject
subject = record {
  node = 5;
  limits = record { tolerance = 10; drift = 1; answer = 1000; boot = 10000; time = None };
  facts = record { before = sheet; booted = sheet; pdos = unknown_pdos; clients = no_clients; starts_itself = false; modular = false; stores = false; as_sheet = true };
  held = record { entries = record { items = record { key = record { index = 0x2000; sub = 0 }; width = 2; mappable = true } ∷ [] } };
  rooms = record { strings = None; domains = None };
}

-- ---- operational, the RPDO writes 0102h; a heartbeat; an upload shows another number; an answer without a request

abbrev written : List Recorded
written = with_stamp 0 (frame 0x705 1 0)
    ∷ with_stamp 500000 (frame 0 2 0x0105)
    ∷ with_stamp 1000000 (frame 0x205 2 0x0201)
    ∷ with_stamp 1020000 (frame 0x705 1 5)
    ∷ with_stamp 1030000 (frame 0x605 8 0x4000_2000_0000_0000)
    ∷ with_stamp 1031000 (frame 0x585 8 0x4B00_2000_0500_0000)
    ∷ with_stamp 1032000 (frame 0x585 8 0x4B00_2000_0500_0000)
    ∷ []

abbrev of_frames : FrameKind → Findings → List Finding
of_frames kind f = option_to_list f.frame

with_rpdos : program_over of_frames subject rows (map as_read written) ≡ Held (record { key = record { index = 0x2000; sub = 0 }; shown = 5; written = 0x102 }) ∷ Unasked ∷ []
unfolding findings_at progress_with begun booted found states.after_control after_boot_up after_other awaits_boot_up is_settled nmt_frames.after_control control_findings heartbeat_findings silence_finding channel_heard exchange_at exchange_noted late_noted
    request_findings confirmed_finding answer_findings answer_finding stopped_finding held_finding what_finding held_mismatch dialogue_heard exchange_in is_certain newest_with newest_after breach_at shown_period shown_inhibit asked_to_write mismatch_at request_row_in response_row_in
    control_finding second_boot_up state_finding boot_finding row_mismatch value_mismatch late_finding overdue_by after_command states.after_command after_process moment_at process_findings sighting framed written_heard unmapped_from nothing_written
    receptions_with with_receptions no_receptions booted_receptions other_ids_of has_few_rpdos rpdo_of mapped_from fits_from brought_from taken_from settled_from no_writes process_received is_sure exchanged_by is_missing
with_rpdos = refl

-- without them, and but for `value-held`
others : (differences_in of_frames subject rows written ≡ Unasked ∷ []) × (program_over all_besides_held subject rows (map as_read written) ≡ Unasked ∷ [])
unfolding findings_at progress_with begun booted found states.after_control after_boot_up after_other awaits_boot_up is_settled nmt_frames.after_control control_findings heartbeat_findings silence_finding channel_heard exchange_at exchange_noted late_noted
    request_findings confirmed_finding answer_findings answer_finding stopped_finding held_finding what_finding held_mismatch dialogue_heard exchange_in is_certain newest_with newest_after breach_at shown_period shown_inhibit asked_to_write mismatch_at request_row_in response_row_in
    control_finding second_boot_up state_finding boot_finding row_mismatch value_mismatch late_finding overdue_by after_command states.after_command after_process moment_at process_findings sighting framed written_heard unmapped_from nothing_written
    receptions_with with_receptions no_receptions booted_receptions other_ids_of has_few_rpdos rpdo_of mapped_from fits_from brought_from taken_from settled_from no_writes process_received is_sure exchanged_by is_missing
others = (refl, refl)

kinds : map besides_held (None ∷ Some Unasked ∷ Some (Held (record { key = record { index = 0x2000; sub = 0 }; shown = 5; written = 0x102 })) ∷ []) ≡ None ∷ Some Unasked ∷ None ∷ []
kinds = refl
