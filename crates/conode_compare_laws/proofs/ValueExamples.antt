-- What compare finds of the values and access of an entry, where another device answers too: each law has its condition on 580h + node-ID.
use Rattle.std.proofs.Common.{◌≡◌, ℕ, true, false, List, [], ◌∷◌, ◌++◌, Option, Some, None, refl}
use Rattle.std.specs.Prelude.{ℤ, pos}
use Rattle.co_frame.specs.SdoRequests.{request_row_in}
use Rattle.co_frame.specs.SdoResponses.{response_row_in}
use Rattle.co_profile.specs.declared.access.Access.{Access}
use Rattle.co_profile.specs.declared.access.Access.TheVariants.{Constant, Ro, Rw, Wo}
use Rattle.co_node_model.proofs.ExampleNode.{frame}
use Rattle.co_sheet.specs.Content.{Row}
use Rattle.co_dict_build.specs.InitialBytes.{initial_of}
use Rattle.co_sheet.specs.Limits.{Default, absent, number, text}
use Rattle.co_value.specs.declared.data_type.DataType.{DataType}
use Rattle.co_value.specs.declared.data_type.DataType.TheVariants.{Unsigned8, Unsigned32, VisibleString}
use Rattle.co_value.specs.declared.key.Key.{Key}
use Rattle.conode_compare_pdos.specs.Followed.{unknown_pdos}
use Rattle.conode_compare_values.specs.HeldNumbers.{held_mismatch}
use Rattle.conode_compare_values.specs.SheetValues.{mismatch_at, row_mismatch, value_mismatch}
use Rattle.conode_compare_values.specs.declared.mismatch.Mismatch.TheVariants.{AboveLimit, BelowLimit, BeyondRoom, ConstText, ReadRefused, ReadServed, ValueConst, ValueLength, Written}
use Rattle.conode_compare_transfers.specs.Breaches.{breach_at}
use Rattle.conode_compare_transfers.specs.Dialogues.{dialogue_heard, exchange_in, is_certain}
use Rattle.conode_compare_transfers.specs.NewestFrames.{newest_after, newest_with}
use Rattle.conode_compare_nmt.specs.declared.entries.Entries.{Entries}
use Rattle.conode_compare_nmt.specs.declared.finding.Finding.TheVariants.{Value}
use Rattle.conode_compare_nmt.specs.declared.limits.Subject.{Subject}
use Rattle.conode_compare_rules.specs.Answers.{answer_finding, confirmed_finding, held_finding, silence_finding, stopped_finding, what_finding}
use Rattle.conode_compare_nmt.specs.EntriesInForce.{asked_to_write, shown_inhibit, shown_period}
use Rattle.conode_compare_nmt.specs.Heartbeats.{is_missing, late_finding, overdue_by}
use Rattle.conode_compare_rules.specs.NmtFrames as nmt_frames
use Rattle.conode_compare_rules.specs.Gaps.{begun}
use Rattle.conode_compare_rules.specs.NmtFrames.{booted, control_findings, heartbeat_findings}
use Rattle.conode_compare_rules.specs.Channels.{answer_findings, channel_heard, exchange_at, exchange_noted, late_noted, request_findings}
use Rattle.conode_compare_rules.specs.Progresses.{findings_at, progress_with}
use Rattle.conode_compare_nmt.specs.States as states
use Rattle.conode_compare_nmt.specs.States.{after_boot_up, after_other, awaits_boot_up, is_settled}
use Rattle.conode_compare_rules.specs.Verdicts.{found}
use Rattle.conode_compare_nmt.specs.OtherClients.{no_clients}
use Rattle.conode_compare_laws.specs.ValueFindings.{constant_differences, length_differences, limit_differences, read_differences, room_differences, write_differences}
use Rattle.conode_compare_laws.specs.Differences.{differences_in}
use Rattle.conode_compare_laws.specs.Recordings.{Recorded, with_stamp}

abbrev sheet : Entries
sheet = record { period = Some 0; emergencies = true; inhibit = Some 0; inhibit_shown = None }

abbrev subject : Subject
subject = record {
  node = 5;
  limits = record { tolerance = 10; drift = 1; answer = 1000; boot = 10000; time = None };
  facts = record { before = sheet; booted = sheet; pdos = unknown_pdos; clients = no_clients; starts_itself = false; modular = false; stores = false; as_sheet = true };
  held = record { entries = record { items = [] } };
  rooms = record { strings = None; domains = None };
}

-- 2000:00, of UNSIGNED8
abbrev entry : Key
entry = record { index = 0x2000; sub = 0 }

abbrev rows : Access → Option ℤ → Option ℤ → List Row
rows access low high = record { key = entry; data_type = Unsigned8; access = access; low = low; high = high; default = absent; mappable = false; name = None; line = 1 } ∷ []

abbrev answered : ℕ → ℕ → List Recorded
answered asked answer = with_stamp 0 (frame 0x705 1 0)
    ∷ with_stamp 900000 (frame 0x705 1 127)
    ∷ with_stamp 1700000 (frame 0x605 8 asked)
    ∷ with_stamp 1800000 (frame 0x585 8 answer)
    ∷ []

-- it takes a write of 5, which this device refuses
read_only : differences_in write_differences subject (rows Ro None None) (answered 0x2F00_2000_0500_0000 0x6000_2000_0000_0000) ≡ Value (Written entry) ∷ []
unfolding findings_at progress_with begun booted found states.after_control after_boot_up after_other awaits_boot_up is_settled nmt_frames.after_control control_findings heartbeat_findings silence_finding channel_heard exchange_at exchange_noted late_noted
    request_findings confirmed_finding answer_findings answer_finding stopped_finding held_finding what_finding held_mismatch dialogue_heard exchange_in is_certain newest_with newest_after breach_at shown_period shown_inhibit asked_to_write mismatch_at row_mismatch value_mismatch request_row_in response_row_in overdue_by late_finding is_missing
read_only = refl

constant : differences_in write_differences subject (rows Constant None None) (answered 0x2F00_2000_0500_0000 0x6000_2000_0000_0000) ≡ Value (Written entry) ∷ []
unfolding findings_at progress_with begun booted found states.after_control after_boot_up after_other awaits_boot_up is_settled nmt_frames.after_control control_findings heartbeat_findings silence_finding channel_heard exchange_at exchange_noted late_noted
    request_findings confirmed_finding answer_findings answer_finding stopped_finding held_finding what_finding held_mismatch dialogue_heard exchange_in is_certain newest_with newest_after breach_at shown_period shown_inhibit asked_to_write mismatch_at row_mismatch value_mismatch request_row_in response_row_in overdue_by late_finding is_missing
constant = refl

above : differences_in limit_differences subject (rows Rw None (Some (pos 4))) (answered 0x2F00_2000_0500_0000 0x6000_2000_0000_0000) ≡ Value (AboveLimit entry) ∷ []
unfolding findings_at progress_with begun booted found states.after_control after_boot_up after_other awaits_boot_up is_settled nmt_frames.after_control control_findings heartbeat_findings silence_finding channel_heard exchange_at exchange_noted late_noted
    request_findings confirmed_finding answer_findings answer_finding stopped_finding held_finding what_finding held_mismatch dialogue_heard exchange_in is_certain newest_with newest_after breach_at shown_period shown_inhibit asked_to_write mismatch_at row_mismatch value_mismatch request_row_in response_row_in overdue_by late_finding is_missing
above = refl

below : differences_in limit_differences subject (rows Rw (Some (pos 6)) None) (answered 0x2F00_2000_0500_0000 0x6000_2000_0000_0000) ≡ Value (BelowLimit entry) ∷ []
unfolding findings_at progress_with begun booted found states.after_control after_boot_up after_other awaits_boot_up is_settled nmt_frames.after_control control_findings heartbeat_findings silence_finding channel_heard exchange_at exchange_noted late_noted
    request_findings confirmed_finding answer_findings answer_finding stopped_finding held_finding what_finding held_mismatch dialogue_heard exchange_in is_certain newest_with newest_after breach_at shown_period shown_inhibit asked_to_write mismatch_at row_mismatch value_mismatch request_row_in response_row_in overdue_by late_finding is_missing
below = refl

-- as this device does
within : differences_in limit_differences subject (rows Rw (Some (pos 5)) (Some (pos 5))) (answered 0x2F00_2000_0500_0000 0x6000_2000_0000_0000) ≡ []
unfolding findings_at progress_with begun booted found states.after_control after_boot_up after_other awaits_boot_up is_settled nmt_frames.after_control control_findings heartbeat_findings silence_finding channel_heard exchange_at exchange_noted late_noted
    request_findings confirmed_finding answer_findings answer_finding stopped_finding held_finding what_finding held_mismatch dialogue_heard exchange_in is_certain newest_with newest_after breach_at shown_period shown_inhibit asked_to_write mismatch_at row_mismatch value_mismatch request_row_in response_row_in overdue_by late_finding is_missing
within = refl

-- it has two bytes there
other_length : differences_in length_differences subject (rows Rw None None) (answered 0x4000_2000_0000_0000 0x4B00_2000_0500_0000) ≡ Value (ValueLength entry 2 1) ∷ []
unfolding findings_at progress_with begun booted found states.after_control after_boot_up after_other awaits_boot_up is_settled nmt_frames.after_control control_findings heartbeat_findings silence_finding channel_heard exchange_at exchange_noted late_noted
    request_findings confirmed_finding answer_findings answer_finding stopped_finding held_finding what_finding held_mismatch dialogue_heard exchange_in is_certain newest_with newest_after breach_at shown_period shown_inhibit asked_to_write mismatch_at row_mismatch value_mismatch request_row_in response_row_in overdue_by late_finding is_missing
other_length = refl

one_byte : differences_in length_differences subject (rows Rw None None) (answered 0x4000_2000_0000_0000 0x4F00_2000_0500_0000) ≡ []
unfolding findings_at progress_with begun booted found states.after_control after_boot_up after_other awaits_boot_up is_settled nmt_frames.after_control control_findings heartbeat_findings silence_finding channel_heard exchange_at exchange_noted late_noted
    request_findings confirmed_finding answer_findings answer_finding stopped_finding held_finding what_finding held_mismatch dialogue_heard exchange_in is_certain newest_with newest_after breach_at shown_period shown_inhibit asked_to_write mismatch_at row_mismatch value_mismatch request_row_in response_row_in overdue_by late_finding is_missing
one_byte = refl

-- ---- a refusal

-- it refuses to read what the sheet has as readable
unreadable : differences_in read_differences subject (rows Rw None None) (answered 0x4000_2000_0000_0000 0x8000_2000_0100_0106) ≡ Value (ReadRefused entry (record { 0 = 0x06010001 })) ∷ []
unfolding findings_at progress_with begun booted found states.after_control after_boot_up after_other awaits_boot_up is_settled nmt_frames.after_control control_findings heartbeat_findings silence_finding channel_heard exchange_at exchange_noted late_noted
    request_findings confirmed_finding answer_findings answer_finding stopped_finding held_finding what_finding held_mismatch dialogue_heard exchange_in is_certain newest_with newest_after breach_at shown_period shown_inhibit asked_to_write mismatch_at row_mismatch value_mismatch request_row_in response_row_in overdue_by late_finding is_missing
unreadable = refl

-- it hasn't sub-index 0
no_first : differences_in read_differences subject (rows Ro None None) (answered 0x4000_2000_0000_0000 0x8000_2000_1100_0906) ≡ Value (ReadRefused entry (record { 0 = 0x06090011 })) ∷ []
unfolding findings_at progress_with begun booted found states.after_control after_boot_up after_other awaits_boot_up is_settled nmt_frames.after_control control_findings heartbeat_findings silence_finding channel_heard exchange_at exchange_noted late_noted
    request_findings confirmed_finding answer_findings answer_finding stopped_finding held_finding what_finding held_mismatch dialogue_heard exchange_in is_certain newest_with newest_after breach_at shown_period shown_inhibit asked_to_write mismatch_at row_mismatch value_mismatch request_row_in response_row_in overdue_by late_finding is_missing
no_first = refl

-- as this device does
write_only : differences_in read_differences subject (rows Wo None None) (answered 0x4000_2000_0000_0000 0x8000_2000_0100_0106) ≡ []
unfolding findings_at progress_with begun booted found states.after_control after_boot_up after_other awaits_boot_up is_settled nmt_frames.after_control control_findings heartbeat_findings silence_finding channel_heard exchange_at exchange_noted late_noted
    request_findings confirmed_finding answer_findings answer_finding stopped_finding held_finding what_finding held_mismatch dialogue_heard exchange_in is_certain newest_with newest_after breach_at shown_period shown_inhibit asked_to_write mismatch_at row_mismatch value_mismatch request_row_in response_row_in overdue_by late_finding is_missing
write_only = refl

-- it gives data of a write-only entry
served : differences_in read_differences subject (rows Wo None None) (answered 0x4000_2000_0000_0000 0x4F00_2000_0500_0000) ≡ Value (ReadServed entry) ∷ []
unfolding findings_at progress_with begun booted found states.after_control after_boot_up after_other awaits_boot_up is_settled nmt_frames.after_control control_findings heartbeat_findings silence_finding channel_heard exchange_at exchange_noted late_noted
    request_findings confirmed_finding answer_findings answer_finding stopped_finding held_finding what_finding held_mismatch dialogue_heard exchange_in is_certain newest_with newest_after breach_at shown_period shown_inhibit asked_to_write mismatch_at row_mismatch value_mismatch request_row_in response_row_in overdue_by late_finding is_missing
served = refl

-- an abort of another entry
of_another : differences_in read_differences subject (rows Rw None None) (answered 0x4000_2000_0000_0000 0x8001_2000_0100_0106) ≡ []
unfolding findings_at progress_with begun booted found states.after_control after_boot_up after_other awaits_boot_up is_settled nmt_frames.after_control control_findings heartbeat_findings silence_finding channel_heard exchange_at exchange_noted late_noted
    request_findings confirmed_finding answer_findings answer_finding stopped_finding held_finding what_finding held_mismatch dialogue_heard exchange_in is_certain newest_with newest_after breach_at shown_period shown_inhibit asked_to_write mismatch_at row_mismatch value_mismatch request_row_in response_row_in overdue_by late_finding is_missing
of_another = refl

-- there is no value now
no_value : differences_in read_differences subject (rows Rw None None) (answered 0x4000_2000_0000_0000 0x8000_2000_2400_0008) ≡ []
unfolding findings_at progress_with begun booted found states.after_control after_boot_up after_other awaits_boot_up is_settled nmt_frames.after_control control_findings heartbeat_findings silence_finding channel_heard exchange_at exchange_noted late_noted
    request_findings confirmed_finding answer_findings answer_finding stopped_finding held_finding what_finding held_mismatch dialogue_heard exchange_in is_certain newest_with newest_after breach_at shown_period shown_inhibit asked_to_write mismatch_at row_mismatch value_mismatch request_row_in response_row_in overdue_by late_finding is_missing
no_value = refl

-- ---- rooms

-- strings with so many bytes
abbrev of_room : ℕ → Subject
of_room bytes = record subject { rooms = record { strings = Some bytes; domains = None } }

abbrev string : List Row
string = record { key = entry; data_type = VisibleString; access = Rw; low = None; high = None; default = absent; mappable = false; name = None; line = 1 } ∷ []

-- two bytes, where there is room for one
too_many : differences_in room_differences (of_room 1) string (answered 0x2B00_2000_4142_0000 0x6000_2000_0000_0000) ≡ Value (BeyondRoom entry 2 1) ∷ []
unfolding findings_at progress_with begun booted found states.after_control after_boot_up after_other awaits_boot_up is_settled nmt_frames.after_control control_findings heartbeat_findings silence_finding channel_heard exchange_at exchange_noted late_noted
    request_findings confirmed_finding answer_findings answer_finding stopped_finding held_finding what_finding held_mismatch dialogue_heard exchange_in is_certain newest_with newest_after breach_at shown_period shown_inhibit asked_to_write mismatch_at row_mismatch value_mismatch request_row_in response_row_in late_finding overdue_by is_missing
too_many = refl

enough : differences_in room_differences (of_room 2) string (answered 0x2B00_2000_4142_0000 0x6000_2000_0000_0000) ≡ []
unfolding findings_at progress_with begun booted found states.after_control after_boot_up after_other awaits_boot_up is_settled nmt_frames.after_control control_findings heartbeat_findings silence_finding channel_heard exchange_at exchange_noted late_noted
    request_findings confirmed_finding answer_findings answer_finding stopped_finding held_finding what_finding held_mismatch dialogue_heard exchange_in is_certain newest_with newest_after breach_at shown_period shown_inhibit asked_to_write mismatch_at row_mismatch value_mismatch request_row_in response_row_in late_finding overdue_by is_missing
enough = refl

-- of four without a size none has to count
one_counts : differences_in room_differences (of_room 1) string (answered 0x2200_2000_4142_4344 0x6000_2000_0000_0000) ≡ []
unfolding findings_at progress_with begun booted found states.after_control after_boot_up after_other awaits_boot_up is_settled nmt_frames.after_control control_findings heartbeat_findings silence_finding channel_heard exchange_at exchange_noted late_noted
    request_findings confirmed_finding answer_findings answer_finding stopped_finding held_finding what_finding held_mismatch dialogue_heard exchange_in is_certain newest_with newest_after breach_at shown_period shown_inhibit asked_to_write mismatch_at row_mismatch value_mismatch request_row_in response_row_in late_finding overdue_by is_missing
one_counts = refl

none_counts : differences_in room_differences (of_room 0) string (answered 0x2200_2000_4142_4344 0x6000_2000_0000_0000) ≡ []
unfolding findings_at progress_with begun booted found states.after_control after_boot_up after_other awaits_boot_up is_settled nmt_frames.after_control control_findings heartbeat_findings silence_finding channel_heard exchange_at exchange_noted late_noted
    request_findings confirmed_finding answer_findings answer_finding stopped_finding held_finding what_finding held_mismatch dialogue_heard exchange_in is_certain newest_with newest_after breach_at shown_period shown_inhibit asked_to_write mismatch_at row_mismatch value_mismatch request_row_in response_row_in late_finding overdue_by is_missing
none_counts = refl

-- ---- a value that is compared

abbrev preset : Key → DataType → Access → Default → Row
preset key data_type access default =
    record { key = key; data_type = data_type; access = access; low = None; high = None; default = default; mappable = false; name = None; line = 1 }

-- it has 6, and the sheet 5
other_number : differences_in constant_differences subject (preset entry Unsigned8 Constant (number (pos 5)) ∷ []) (answered 0x4000_2000_0000_0000 0x4F00_2000_0600_0000) ≡ Value (ValueConst entry 6 5) ∷ []
unfolding findings_at progress_with begun booted found states.after_control after_boot_up after_other awaits_boot_up is_settled nmt_frames.after_control control_findings heartbeat_findings silence_finding channel_heard exchange_at exchange_noted late_noted
    request_findings confirmed_finding answer_findings answer_finding stopped_finding held_finding what_finding held_mismatch dialogue_heard exchange_in is_certain newest_with newest_after breach_at shown_period shown_inhibit asked_to_write mismatch_at row_mismatch value_mismatch request_row_in response_row_in overdue_by late_finding is_missing
other_number = refl

as_sheet : differences_in constant_differences subject (preset entry Unsigned8 Constant (number (pos 5)) ∷ []) (answered 0x4000_2000_0000_0000 0x4F00_2000_0500_0000) ≡ []
unfolding findings_at progress_with begun booted found states.after_control after_boot_up after_other awaits_boot_up is_settled nmt_frames.after_control control_findings heartbeat_findings silence_finding channel_heard exchange_at exchange_noted late_noted
    request_findings confirmed_finding answer_findings answer_finding stopped_finding held_finding what_finding held_mismatch dialogue_heard exchange_in is_certain newest_with newest_after breach_at shown_period shown_inhibit asked_to_write mismatch_at row_mismatch value_mismatch request_row_in response_row_in overdue_by late_finding is_missing
as_sheet = refl

-- it has "PU", and the sheet "PT"
other_text : differences_in constant_differences subject (preset entry VisibleString Constant (text (0x50 ∷ 0x54 ∷ [])) ∷ []) (answered 0x4000_2000_0000_0000 0x4B00_2000_5055_0000) ≡ Value (ConstText entry) ∷ []
unfolding findings_at progress_with begun booted found states.after_control after_boot_up after_other awaits_boot_up is_settled nmt_frames.after_control control_findings heartbeat_findings silence_finding channel_heard exchange_at exchange_noted late_noted
    request_findings confirmed_finding answer_findings answer_finding stopped_finding held_finding what_finding held_mismatch dialogue_heard exchange_in is_certain newest_with newest_after breach_at shown_period shown_inhibit asked_to_write mismatch_at row_mismatch value_mismatch request_row_in response_row_in overdue_by late_finding is_missing
other_text = refl

-- rows of no sheet that was read: 300 is no UNSIGNED8, and a device that is built of them has 44
abbrev too_great : Row
too_great = preset entry Unsigned8 Constant (number (pos 300))

of_no_sheet : initial_of 5 too_great ≡ 44 ∷ []
of_no_sheet = refl

another_number : differences_in constant_differences subject (too_great ∷ []) (answered 0x4000_2000_0000_0000 0x4F00_2000_2C00_0000) ≡ Value (ValueConst entry 44 300) ∷ []
unfolding findings_at progress_with begun booted found states.after_control after_boot_up after_other awaits_boot_up is_settled nmt_frames.after_control control_findings heartbeat_findings silence_finding channel_heard exchange_at exchange_noted late_noted
    request_findings confirmed_finding answer_findings answer_finding stopped_finding held_finding what_finding held_mismatch dialogue_heard exchange_in is_certain newest_with newest_after breach_at shown_period shown_inhibit asked_to_write mismatch_at row_mismatch value_mismatch request_row_in response_row_in overdue_by late_finding is_missing
another_number = refl

-- 1000:00 is rw in the sheet: a client writes 2, and reads it
abbrev device_type : Key
device_type = record { index = 0x1000; sub = 0 }

written_type : differences_in constant_differences subject (preset device_type Unsigned32 Rw (number (pos 1)) ∷ [])
    (answered 0x2300_1000_0200_0000 0x6000_1000_0000_0000 ++ with_stamp 1900000 (frame 0x605 8 0x4000_1000_0000_0000) ∷ with_stamp 2000000 (frame 0x585 8 0x4300_1000_0200_0000) ∷ [])
    ≡ Value (ValueConst device_type 2 1) ∷ []
unfolding findings_at progress_with begun booted found states.after_control after_boot_up after_other awaits_boot_up is_settled nmt_frames.after_control control_findings heartbeat_findings silence_finding channel_heard exchange_at exchange_noted late_noted
    request_findings confirmed_finding answer_findings answer_finding stopped_finding held_finding what_finding held_mismatch dialogue_heard exchange_in is_certain newest_with newest_after breach_at shown_period shown_inhibit asked_to_write mismatch_at row_mismatch value_mismatch request_row_in response_row_in overdue_by late_finding is_missing
written_type = refl
