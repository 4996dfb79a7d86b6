-- That the conditions of the laws about TPDOs are needed: what compare finds where the device itself uses the identifier of a TPDO, or
-- that of its EMCY, a second time. CiA 301 doesn't restrict these, and the dictionary permits them.
use Rattle.std.proofs.Common.{◌≡◌, ℕ, Bool, true, false, List, [], ◌∷◌, ◌++◌, Some, None, refl, sym, map, arith}
use Rattle.std.proofs.lemmas.Bool.{false≢true}
use Rattle.co_frame.specs.SdoRequests.{request_row_in}
use Rattle.co_frame.specs.SdoResponses.{response_row_in}
use Rattle.co_profile.specs.declared.access.Access.TheVariants.{Rw}
use Rattle.co_dict.specs.FreeIds.{is_good_sync_word, is_good_word}
use Rattle.co_node_model.proofs.ExampleNode.{came, device, device_with, event, frame, raise, searches, start, u32, u8}
use Rattle.conode_compare_pdos.specs.declared.deviation.Deviation.{Deviation}
use Rattle.conode_compare_pdos.specs.declared.deviation.Deviation.TheVariants.{FewSyncs, Length, NotOperational, WithoutSync}
use Rattle.conode_compare_pdos.specs.declared.parameters.Parameters.{Parameters}
use Rattle.conode_compare_pdos.specs.declared.pdos.Pdos.{Pdos}
use Rattle.conode_compare_pdos.specs.Cycles.{new_cycle}
use Rattle.conode_compare_pdos.specs.Deviations.{deviation_at, time_deviation}
use Rattle.conode_compare_pdos.specs.Followed.{framed, sighting, transferred, unknown_pdos}
use Rattle.conode_compare_pdos.specs.Tpdos.{booted_tpdo}
use Rattle.conode_compare_nmt.specs.declared.entries.Entries.{Entries}
use Rattle.conode_compare_nmt.specs.declared.finding.Finding.{Finding}
use Rattle.conode_compare_nmt.specs.declared.finding.Finding.TheVariants.{Pdo}
use Rattle.conode_compare_nmt.specs.declared.limits.Subject.{Subject}
use Rattle.conode_compare_rules.specs.Answers.{confirmed_finding}
use Rattle.conode_compare_nmt.specs.EntriesInForce.{asked_to_write, shown_inhibit, shown_period}
use Rattle.conode_compare_nmt.specs.Heartbeats.{is_missing, late_finding, overdue_by}
use Rattle.conode_compare_rules.specs.Gaps.{begun}
use Rattle.conode_compare_rules.specs.NmtFrames.{after_command, booted}
use Rattle.conode_compare_rules.specs.EmergencyRules.{after_emergency}
use Rattle.conode_compare_rules.specs.Channels.{answer_findings, channel_heard, exchange_at, exchange_noted, late_noted, request_findings}
use Rattle.conode_compare_rules.specs.Processes.{after_process, moment_at, process_findings}
use Rattle.conode_compare_rules.specs.Progresses.{findings_at, progress_with}
use Rattle.conode_compare_nmt.specs.States as states
use Rattle.conode_compare_nmt.specs.States.{after_boot_up, awaits_boot_up, boot_finding, control_finding, is_settled, second_boot_up}
use Rattle.conode_compare_rules.specs.Verdicts.{found}
use Rattle.conode_compare_nmt.specs.OtherClients.{no_clients}
use Rattle.conode_compare_transfers.specs.Dialogues.{dialogue_heard, exchange_in, is_certain}
use Rattle.conode_compare_laws.specs.Differences.{differences_in}
use Rattle.conode_compare_laws.specs.NamedTpdos.{NameNoTpdos, NamesNoTpdo}
use Rattle.conode_compare_laws.specs.Recordings.{Recorded, Stamped, recording, with_stamp}
use Rattle.conode_compare_laws.specs.TpdoDifferences.{is_pdo_length, is_pdo_state, is_pdo_sync, tpdo_differences}
use Rattle.conode_compare_laws.specs.TpdoParameters.{AreTpdosOf, is_alone}
use Rattle.co_node_model.specs.Inputs.{InputView, Ticked}

abbrev at : ℕ → InputView → Stamped
at micros input = record { micros = micros; input = input }

-- node 5, whose first TPDO is on 185h, of four bytes, and event-driven
abbrev first : Parameters
first = record { id = Some 0x185; kind = Some 255; inhibit = Some 0; timer = Some 0; length = Some 4 }

abbrev sheet : Entries
sheet = record { period = Some 0; emergencies = true; inhibit = Some 0; inhibit_shown = None }

abbrev with_pdos : Pdos → Subject
with_pdos pdos = record {
  node = 5;
  limits = record { tolerance = 10; drift = 1; answer = 1000; boot = 10000; time = None };
  facts = record { before = sheet; booted = sheet; pdos = pdos; clients = no_clients; starts_itself = false; modular = false; stores = false; as_sheet = true };
  held = record { entries = record { items = [] } };
  rooms = record { strings = None; domains = None };
}

abbrev subject : Subject
subject = with_pdos (record unknown_pdos { first = booted_tpdo None first })

abbrev found_in : (Deviation → Bool) → Subject → List Recorded → List Finding
found_in is of recorded = differences_in (tpdo_differences is) of [] recorded

-- ---- an EMCY on the identifier of a TPDO, while pre-operational

permitted : is_good_word 5 device.start 0x185 ≡ true
unfolding searches
permitted = refl

abbrev shared : List Recorded
shared = with_stamp 0 (frame 0x705 1 0) ∷ with_stamp 20000 (frame 0x185 8 0x0010_0100_0000_0000) ∷ []

shared_heard : recording (device_with (u32 Rw 0x1014 0 0x185 ∷ [])) (at 0 Ticked ∷ at 20000 (raise 0x1000) ∷ []) ≡ shared
unfolding searches
shared_heard = refl

taken_for_tpdo : found_in is_pdo_state subject shared ≡ Pdo 1 NotOperational ∷ []
unfolding findings_at progress_with begun booted found control_finding second_boot_up states.after_control after_boot_up process_findings moment_at sighting deviation_at time_deviation is_settled after_process framed overdue_by late_finding is_missing
taken_for_tpdo = refl

-- ---- two TPDOs on one identifier, of four bytes and of two

abbrev twice : List Recorded
twice = with_stamp 0 (frame 0x705 1 0) ∷ with_stamp 0 (frame 0 2 0x0105) ∷ with_stamp 20000 (frame 0x185 2 0) ∷ []

twice_heard : recording (device_with (u32 Rw 0x1801 1 0x185 ∷ [])) (at 0 start ∷ at 20000 (event 1) ∷ []) ≡ twice
unfolding searches
twice_heard = refl

taken_for_first : found_in is_pdo_length subject twice ≡ Pdo 1 (Length 2 4) ∷ []
unfolding findings_at progress_with begun booted found control_finding second_boot_up states.after_control after_boot_up after_command states.after_command process_findings moment_at sighting deviation_at time_deviation is_settled after_process framed overdue_by late_finding is_missing
taken_for_first = refl

-- ---- SYNC on the identifier of EMCY, and a TPDO of type 1

sync_permitted : is_good_sync_word 5 device.start 0x85 ≡ true
unfolding searches
sync_permitted = refl

abbrev unsynced : List Recorded
unsynced = with_stamp 0 (frame 0x705 1 0) ∷ with_stamp 0 (frame 0 2 0x0105) ∷ with_stamp 20000 (frame 0x85 0 0) ∷ with_stamp 20000 (frame 0x185 4 0) ∷ []

unsynced_heard : recording (device_with (u32 Rw 0x1005 0 0x85 ∷ u8 Rw 0x1800 2 1 ∷ [])) (at 0 start ∷ at 20000 (came 0x85 0 0) ∷ []) ≡ unsynced
unfolding searches
unsynced_heard = refl

sync_taken_for_emergency : found_in is_pdo_sync (with_pdos (record unknown_pdos { sync = Some 0x85; first = booted_tpdo None (record first { kind = Some 1 }) })) unsynced ≡ Pdo 1 WithoutSync ∷ []
unfolding findings_at progress_with begun booted found control_finding second_boot_up states.after_control after_boot_up after_command states.after_command after_emergency process_findings moment_at sighting deviation_at time_deviation is_settled after_process framed overdue_by late_finding is_missing
sync_taken_for_emergency = refl

-- ---- a TPDO of type 2: the device sends it at each second SYNC

abbrev started : List Recorded
started = with_stamp 0 (frame 0x705 1 0) ∷ with_stamp 0 (frame 0 2 0x0105) ∷ []

abbrev sync_at : ℕ → List Recorded
sync_at micros = with_stamp micros (frame 0x80 0 0) ∷ []

abbrev sent_at : ℕ → List Recorded
sent_at micros = with_stamp micros (frame 0x185 4 0) ∷ []

second_heard : recording (device_with (u8 Rw 0x1800 2 2 ∷ [])) (at 0 start ∷ at 20000 (came 0x80 0 0) ∷ at 40000 (came 0x80 0 0) ∷ []) ≡ started ++ sync_at 20000 ++ sync_at 40000 ++ sent_at 40000
unfolding searches
second_heard = refl

-- one that sends it at each is found
too_few : found_in is_pdo_sync (with_pdos (record unknown_pdos { sync = Some 0x80; first = booted_tpdo (Some new_cycle) (record first { kind = Some 2 }) }))
    (started ++ (sync_at 20000 ++ sent_at 20000) ++ (sync_at 40000 ++ sent_at 40000) ++ (sync_at 60000 ++ sent_at 60000) ++ sync_at 80000 ++ sent_at 80000) ≡ Pdo 1 (FewSyncs 1 2) ∷ []
unfolding findings_at progress_with begun booted found control_finding second_boot_up states.after_control after_boot_up after_command states.after_command process_findings moment_at sighting deviation_at time_deviation is_settled after_process framed overdue_by late_finding is_missing
too_few = refl

-- ---- a device and a data sheet as the laws ask for: two TPDOs, each alone on its identifier

abbrev sheet_pdos : Pdos
sheet_pdos = record unknown_pdos {
  sync = Some 0x80;
  first = booted_tpdo None first;
  second = booted_tpdo None (record first { id = Some 0x285; length = Some 2 });
}

meets : AreTpdosOf device sheet_pdos
unfolding searches is_alone
meets = record {
  sync = refl;
  apart = refl;
  first = record { alone = refl; kind = refl; inhibit = refl; timer = refl; length = refl; unsent = refl };
  second = record { alone = refl; kind = refl; inhibit = refl; timer = refl; length = refl; unsent = refl };
  third = record { alone = refl; kind = tt; inhibit = tt; timer = tt; length = tt; unsent = refl };
  fourth = record { alone = refl; kind = tt; inhibit = tt; timer = tt; length = tt; unsent = refl };
}

-- with two of them on one it isn't such a device
not_alone : is_alone (device_with (u32 Rw 0x1801 1 0x185 ∷ [])).start 0 (booted_tpdo None first) ≡ false
unfolding searches is_alone
not_alone = refl

-- ---- parameters of TPDOs that a client names

-- by a request to upload 1800:02, by an abort of it, and by a request to download to 1803:05
upload_names : NamesNoTpdo 5 (frame 0x605 8 0x4000_1802_0000_0000) → ⊥
upload_names h = false≢true (sym (h refl refl).communication)

abort_names : NamesNoTpdo 5 (frame 0x605 8 0x8000_1802_0000_0008) → ⊥
abort_names h = false≢true (sym (h refl refl).communication)

download_names : NamesNoTpdo 5 (frame 0x605 8 0x2B03_1805_6400_0000) → ⊥
download_names h = false≢true (sym (h refl refl).communication)

-- by a request to write 1A00:01, and 1005:00 in blocks
mapping_written : NamesNoTpdo 5 (frame 0x605 8 0x2300_1A01_0800_0020) → ⊥
mapping_written h = false≢true (sym ((h refl refl).written refl))

sync_written : NamesNoTpdo 5 (frame 0x605 8 0xC205_1000_0400_0000) → ⊥
sync_written h = false≢true (sym ((h refl refl).written refl))

-- not by a request to upload these, nor to write 1804:02, 1A04:01 or 1006:00
none_named : NameNoTpdos 5 (map (with_stamp 0)
    (frame 0x605 8 0x4000_1A01_0000_0000 ∷ frame 0x605 8 0x4005_1000_0000_0000 ∷ frame 0x605 8 0x2F04_1802_FF00_0000 ∷ frame 0x605 8 0x2304_1A01_0800_0020 ∷ frame 0x605 8 0x2306_1000_0000_0000 ∷ []))
none_named = (
  (λ id eight. record { communication = refl; written = λ on. absurd (false≢true on) }),
  (
    (λ id eight. record { communication = refl; written = λ on. absurd (false≢true on) }),
    (
      (λ id eight. record { communication = refl; written = λ on. refl }),
      ((λ id eight. record { communication = refl; written = λ on. refl }), ((λ id eight. record { communication = refl; written = λ on. refl }), tt)),
    ),
  ),
)

-- nor by a frame of another node's client, of seven bytes, or by an answer
none_of_client : NameNoTpdos 5 (map (with_stamp 0) (frame 0x606 8 0x4000_1802_0000_0000 ∷ frame 0x605 7 0x4000_1802_0000_00 ∷ frame 0x585 8 0x4F00_1802_FF00_0000 ∷ []))
none_of_client = (
  (λ id eight. absurd (let identifier : 0x606 ≡ 0x605 = id in omega arith)),
  ((λ id eight. absurd (let seven : 7 ≡ 8 = eight in omega arith)), ((λ id eight. absurd (let identifier : 0x585 ≡ 0x605 = id in omega arith)), tt)),
)

-- the answer of another device may show another identifier then: what is sent there is taken for the first TPDO
abbrev shown : ℕ → ℕ → List Finding
shown request response = found_in is_pdo_state subject
    (with_stamp 0 (frame 0x705 1 0) ∷ with_stamp 20000 (frame 0x605 8 request) ∷ with_stamp 20000 (frame 0x585 8 response) ∷ with_stamp 40000 (frame 0x385 4 0) ∷ [])

shown_otherwise : shown 0x4000_1801_0000_0000 0x4300_1801_8503_0000 ≡ Pdo 1 NotOperational ∷ []
unfolding findings_at progress_with begun booted found control_finding second_boot_up states.after_control after_boot_up states.after_other awaits_boot_up boot_finding process_findings moment_at sighting deviation_at time_deviation is_settled after_process framed
    channel_heard exchange_at exchange_noted late_noted request_findings confirmed_finding answer_findings dialogue_heard exchange_in is_certain shown_period shown_inhibit asked_to_write request_row_in response_row_in transferred late_finding overdue_by is_missing
shown_otherwise = refl

-- not by an upload of 1A00:01
not_shown : shown 0x4000_1A01_0000_0000 0x4300_1A01_0800_0020 ≡ []
unfolding findings_at progress_with begun booted found control_finding second_boot_up states.after_control after_boot_up states.after_other awaits_boot_up boot_finding process_findings moment_at sighting deviation_at time_deviation is_settled after_process framed
    channel_heard exchange_at exchange_noted late_noted request_findings confirmed_finding answer_findings dialogue_heard exchange_in is_certain shown_period shown_inhibit asked_to_write request_row_in response_row_in transferred late_finding overdue_by is_missing
not_shown = refl
