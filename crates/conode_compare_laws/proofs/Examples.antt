-- A recording of a small device, and that the conditions of the laws are needed: what compare finds where another sender, or the
-- device itself, uses an identifier a second time.
use Rattle.std.specs.Prelude.{pos}
use Rattle.std.proofs.Common.{◌≡◌, ℕ, ◌+◌, true, false, List, [], ◌∷◌, map, Some, None, refl, ap, arith}
use Rattle.co_frame.specs.FrameContent.{FrameContent}
use Rattle.co_frame.specs.SdoRequests.{request_row_in}
use Rattle.co_frame.specs.SdoResponses.{response_row_in}
use Rattle.co_profile.specs.Keys.{producer_key}
use Rattle.co_profile.specs.declared.access.Access.TheVariants.{Rw}
use Rattle.co_dict.specs.FreeIds.{is_good_word}
use Rattle.co_sheet.specs.Content.{Row}
use Rattle.co_sheet.specs.Limits.{Default, number, node_id}
use Rattle.co_value.specs.declared.key.Key.{Key}
use Rattle.co_value.specs.declared.data_type.DataType.TheVariants.{Unsigned32}
use Rattle.co_node_model.specs.Inputs.{InputView, Ticked}
use Rattle.co_node_model.proofs.ExampleNode.{device, device_with, frame, reset_node, searches, start, u16, u32}
use Rattle.conode_record.specs.declared.content.Content.TheVariants.{Data}
use Rattle.conode_record.specs.declared.fields.Identifier.TheVariants.{Base}
use Rattle.conode_compare_pdos.specs.Followed.{unknown_pdos}
use Rattle.conode_compare_nmt.specs.declared.entries.Entries.{Entries}
use Rattle.conode_compare_nmt.specs.declared.finding.Finding.{Finding}
use Rattle.conode_compare_nmt.specs.declared.finding.Finding.TheVariants.{EmergencyInhibit, EmergencyLength, HeartbeatLength, LateAfterTransfer, SecondBootUp, WrongState}
use Rattle.conode_compare_nmt.specs.declared.finding.NmtState.TheVariants.{Operational, PreOperational}
use Rattle.conode_compare_nmt.specs.declared.limits.Subject.{Subject}
use Rattle.conode_compare_rules.specs.EmergencyRules.{emergency_finding, inhibit_finding, after_emergency, emergency_findings}
use Rattle.conode_compare_nmt.specs.EntriesInForce.{asked_to_write, facts_of, initial_entries, sheet_entries, shown_inhibit, shown_period}
use Rattle.conode_compare_rules.specs.FrameKinds.{data_kind, kind_of}
use Rattle.conode_compare_nmt.specs.Heartbeats.{is_missing, late_finding, overdue_by}
use Rattle.conode_compare_rules.specs.Gaps.{begun}
use Rattle.conode_compare_rules.specs.NmtFrames.{after_command, booted, control_findings, heartbeat_findings}
use Rattle.conode_compare_rules.specs.Channels.{answer_findings, channel_heard, exchange_at, exchange_noted, late_noted, request_findings}
use Rattle.conode_compare_rules.specs.Progresses.{findings_at, progress_with}
use Rattle.conode_compare_nmt.specs.States as states
use Rattle.conode_compare_nmt.specs.States.{after_boot_up, after_other, awaits_boot_up, boot_finding, control_finding, is_settled, second_boot_up, state_finding}
use Rattle.conode_compare_rules.specs.Verdicts.{found}
use Rattle.conode_compare_rules.specs.Answers.{confirmed_finding}
use Rattle.conode_compare_nmt.specs.OtherClients.{no_clients}
use Rattle.conode_compare_transfers.specs.Dialogues.{dialogue_heard, exchange_in, is_certain}
use Rattle.conode_compare_laws.specs.Differences.{differences_in, emergency_differences, inhibit_differences, late_differences, state_differences}
use Rattle.conode_compare_laws.specs.Identifiers.{IsUnnamed, IsUnnamedAt, JudgesNone}
use Rattle.conode_compare_laws.specs.Recordings.{Recorded, Stamped, recording, with_stamp}
use Rattle.conode_compare_laws.proofs.Unjudged.{none_judged}

abbrev at : ℕ → InputView → Stamped
at micros input = record { micros = micros; input = input }

-- the boot-up, with the stamp of the first input; each frame that comes, and what the device sends at it
heard : recording device (at 1000 start ∷ at 2000 Ticked ∷ at 3000 reset_node ∷ [])
    ≡ with_stamp 1000 (frame 0x705 1 0)
    ∷ with_stamp 1000 (frame 0 2 0x0105)
    ∷ with_stamp 3000 (frame 0 2 0x8105)
    ∷ with_stamp 3000 (frame 0x705 1 0)
    ∷ []
unfolding searches
heard = refl

-- data frames with identifiers of 11 bits are what compare takes them for
of_kind : (node : ℕ) (f : FrameContent) → kind_of node (Base f.id) (Data f.bytes) ≡ data_kind node f
of_kind node f = refl

-- ---- node 5, whose EMCY has the default identifier

abbrev sheet : Entries
sheet = record { period = Some 0; emergencies = true; inhibit = Some 0; inhibit_shown = None }

abbrev subject : Subject
subject = record {
  node = 5;
  limits = record { tolerance = 10; drift = 1; answer = 1000; boot = 10000; time = None };
  facts = record { before = sheet; booted = sheet; pdos = unknown_pdos; clients = no_clients; starts_itself = false; modular = false; stores = false; as_sheet = true };
  held = record { entries = record { items = [] } };
  rooms = record { strings = None; domains = None };
}

abbrev state_found : List Recorded → List Finding
state_found recorded = differences_in state_differences subject [] recorded

-- another boot-up half a second later is another device's; a second later it may be its own
second : state_found (with_stamp 0 (frame 0x705 1 0) ∷ with_stamp 500000 (frame 0x705 1 0) ∷ []) ≡ SecondBootUp 500000 ∷ []
unfolding findings_at progress_with begun booted found control_finding second_boot_up states.after_control after_boot_up
second = refl

not_second : state_found (with_stamp 0 (frame 0x705 1 0) ∷ with_stamp 1000001 (frame 0x705 1 0) ∷ []) ≡ []
unfolding findings_at progress_with begun booted found control_finding second_boot_up states.after_control after_boot_up
not_second = refl

-- so is a heartbeat of a state that the device can't be in, and one of two bytes
wrong : state_found (with_stamp 0 (frame 0x705 1 0) ∷ with_stamp 500000 (frame 0x705 1 5) ∷ []) ≡ WrongState Operational PreOperational ∷ []
unfolding findings_at progress_with begun booted found control_finding second_boot_up states.after_control after_boot_up control_findings heartbeat_findings boot_finding awaits_boot_up is_settled state_finding
wrong = refl

odd : state_found (with_stamp 0 (frame 0x705 1 0) ∷ with_stamp 500000 (frame 0x705 2 5) ∷ []) ≡ HeartbeatLength 2 ∷ []
unfolding findings_at progress_with begun booted found control_finding second_boot_up states.after_control after_boot_up boot_finding awaits_boot_up
odd = refl

-- ---- a TPDO with the identifier of EMCY: CiA 301 doesn't restrict it, and the dictionary permits it

permitted : is_good_word 5 device.start 0x85 ≡ true
unfolding searches
permitted = refl

-- entered operational, TPDO 0 is sent by its event timer: compare takes it for an EMCY of four bytes
abbrev twice : List Recorded
twice = recording (device_with (u32 Rw 0x1800 1 0x85 ∷ u16 Rw 0x1800 5 1 ∷ [])) (at 1000 start ∷ at 2000 Ticked ∷ [])

abbrev shared : List Recorded
shared = with_stamp 1000 (frame 0x705 1 0) ∷ with_stamp 1000 (frame 0 2 0x0105) ∷ with_stamp 2000 (frame 0x85 4 0) ∷ []

twice_heard : twice ≡ shared
unfolding searches
twice_heard = refl

taken_for_emergency : differences_in emergency_differences subject [] shared ≡ EmergencyLength 4 ∷ []
unfolding findings_at progress_with begun booted found states.after_control after_boot_up after_command states.after_command
taken_for_emergency = refl

-- not where its data sheet has it: compare judges no EMCY then
abbrev row : ℕ → ℕ → Default → Row
row index sub default = record {
  key = record { index = index; sub = sub };
  data_type = Unsigned32;
  access = Rw;
  low = None;
  high = None;
  default = default;
  mappable = false;
  name = None;
  line = 1;
}

abbrev sharing : Subject
sharing = record subject { facts = facts_of (row 0x1014 0 (node_id 0x80) ∷ row 0x1800 1 (number (pos 0x85)) ∷ []) 5 false }

judges_none : JudgesNone sharing
unfolding facts_of initial_entries sheet_entries
judges_none = record { before = refl; booted = refl }

not_taken : differences_in emergency_differences sharing [] shared ≡ []
not_taken = none_judged sharing [] shared judges_none

-- ---- two EMCY, with an inhibit time of 100 ms: 89 ms are as prescribed, by 10 ms of tolerance and 1 % of drift

abbrev pausing : Subject
pausing = record subject { facts = record subject.facts { booted = record sheet { inhibit = Some 1000 } } }

abbrev pause_found : ℕ → List Finding
pause_found micros = differences_in inhibit_differences pausing [] (with_stamp 0 (frame 0x705 1 0) ∷ with_stamp 5000 (frame 0x85 8 0x118130) ∷ with_stamp (5000 + micros) (frame 0x85 8 0x118130) ∷ [])

pauses : map pause_found (88999 ∷ 89000 ∷ []) ≡ (EmergencyInhibit 88999 1000 ∷ []) ∷ [] ∷ []
unfolding findings_at progress_with begun booted found states.after_control after_boot_up emergency_findings emergency_finding inhibit_finding after_emergency is_settled overdue_by late_finding is_missing
pauses = refl

-- ---- an entry that a client names

-- by a request to upload 1017:00, by an abort, and by a frame that is no request at all (ccs = 7)
upload_names : IsUnnamedAt producer_key 5 (with_stamp 0 (frame 0x605 8 0x4017_1000_0000_0000)) → ⊥
upload_names h = h refl refl refl

abort_names : IsUnnamedAt producer_key 5 (with_stamp 0 (frame 0x605 8 0x8017_1000_0000_0008)) → ⊥
abort_names h = h refl refl refl

other_names : IsUnnamedAt producer_key 5 (with_stamp 0 (frame 0x605 8 0xE017_1000_0000_0000)) → ⊥
other_names h = h refl refl refl

-- not by a frame of another index or sub-index, of another node's client, or of seven bytes, nor by an answer
not_named : IsUnnamed producer_key 5 (map (with_stamp 0) (frame 0x605 8 0x4016_1000_0000_0000 ∷ frame 0x605 8 0x4017_1001_0000_0000 ∷ frame 0x606 8 0x4017_1000_0000_0000 ∷ frame 0x605 7 0x4017_1000_0000_00 ∷ frame 0x585 8 0x4B17_1000_6400_0000 ∷ []))
not_named = (
  (λ id eight same. let index : 0x1016 ≡ 0x1017 = ap (λ (k : Key). k.index) same in omega arith),
  (
    (λ id eight same. let sub : 1 ≡ 0 = ap (λ (k : Key). k.sub) same in omega arith),
    (
      (λ id eight same. let identifier : 0x606 ≡ 0x605 = id in omega arith),
      (
        (λ id eight same. let seven : 7 ≡ 8 = eight in omega arith),
        ((λ id eight same. let identifier : 0x585 ≡ 0x605 = id in omega arith), tt),
      ),
    ),
  ),
)

-- the answer of another device may show another period then, 100 ms: the heartbeats of this one, whose period is 1 s, are late
abbrev beating : Subject
beating = record subject { facts = record subject.facts { booted = record sheet { period = Some 1000 } } }

abbrev late_found : ℕ → ℕ → List Finding
late_found request response = differences_in late_differences beating []
    (with_stamp 0 (frame 0x705 1 0) ∷ with_stamp 100000 (frame 0x605 8 request) ∷ with_stamp 100000 (frame 0x585 8 response) ∷ with_stamp 400000 (frame 0x705 1 127) ∷ [])

shown_otherwise : late_found 0x4017_1000_0000_0000 0x4B17_1000_6400_0000 ≡ LateAfterTransfer 300000 100 ∷ []
unfolding findings_at progress_with begun booted found states.after_control after_boot_up after_other awaits_boot_up boot_finding is_settled control_findings heartbeat_findings late_finding overdue_by channel_heard exchange_at exchange_noted late_noted
    request_findings confirmed_finding answer_findings dialogue_heard exchange_in is_certain shown_period shown_inhibit asked_to_write request_row_in response_row_in is_missing
shown_otherwise = refl

-- not by a transfer of 1016:01
not_shown : late_found 0x4016_1001_0000_0000 0x4316_1001_6400_0000 ≡ []
unfolding findings_at progress_with begun booted found states.after_control after_boot_up after_other awaits_boot_up boot_finding is_settled control_findings heartbeat_findings late_finding overdue_by channel_heard exchange_at exchange_noted late_noted
    request_findings confirmed_finding answer_findings dialogue_heard exchange_in is_certain shown_period shown_inhibit asked_to_write request_row_in response_row_in is_missing
not_shown = refl
