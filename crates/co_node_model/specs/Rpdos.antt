-- RPDOs: which one a frame is for, errors of its length, the frames that wait for a SYNC, and the
-- data that take effect (CiA 301, 7.2.2, 7.5.2.35 and 7.5.2.36).
use Rattle.std.specs.Prelude.{ℕ, ◌==◌, ◌&&◌, Bool, Option, find, ◌≡◌, IfSome, nat_lt, length, Some, if◌then◌else◌, ◌||◌, ◌-◌, None, not, is_some, [], ◌∷◌, List, ◌++◌}
use Rattle.std.specs.List.{range_with_len}
use Rattle.co_value.specs.declared.key.Key.{Key}
use Rattle.co_frame.specs.FrameContent.{FrameContent}
use Rattle.co_frame.specs.declared.emergency.Emergency.{Emergency}
use Rattle.co_profile.specs.Indices.{transmission_type, rpdo_communication, pdo_cob_id, is_within}
use Rattle.co_profile.specs.TransmissionTypes.{is_synchronous}
use Rattle.co_dict.specs.Rows.{Contents, number_at}
use Rattle.co_dict.specs.CobIds.{identifier_of}
use Rattle.co_dict.specs.declared.side.Side.TheVariants.{Rpdo}
use Rattle.co_dict.specs.Stores.{Description}
use Rattle.co_dict.specs.declared.side.Side.TheVariants as side
use Rattle.co_pdo.specs.Pdos.{communication_key, cob_id_of, is_pdo_active}
use Rattle.co_pdo.specs.Mappings.{mapping_of, total_of}
use Rattle.co_profile.specs.TransmissionTypes.{is_event_driven}
use Rattle.co_pdo.specs.declared.mapping.Mapped.{Mapped}
use Rattle.co_pdo.specs.declared.data.PdoFault.{PdoFault}
use Rattle.co_pdo.specs.declared.data.PdoFault.TheVariants.{OutOfLimits}
use Rattle.co_pdo.specs.Images.{fault_of, contents_after}
use Rattle.co_node_parts.specs.declared.rpdo_slots.KeptFrame.{KeptFrame}
use Rattle.co_node_parts.specs.declared.nmt_state.NodeState.{NodeState}
use Rattle.co_node_parts.specs.declared.nmt_state.NodeState.TheVariants.{Operational}
use Rattle.co_node_parts.specs.NmtStates.{is_state, leaves}
use Rattle.co_node_parts.specs.declared.rpdo_slots.SlotEvent.{SlotEvent}
use Rattle.co_node_parts.specs.declared.rpdo_slots.SlotEvent.TheVariants.{Empty, Quiet, Keep, Sync, EmptyAll}
use Rattle.co_node_parts.specs.declared.nmt_state.Transition.{Transition}
use Rattle.co_node_parts.specs.RpdoSlots.{SlotLog, taken_at}
use Rattle.co_node_model.specs.Moments.{Moment, Constants, History}
use Rattle.co_node_model.specs.declared.mark.Mark.{Mark}
use Rattle.co_node_model.specs.Nmt.{is_reset, transition_of}
use Rattle.co_node_model.specs.declared.device_error.DeviceError.{DeviceError}
use Rattle.co_node_model.specs.Emergencies.{pdo_too_short, pdo_too_long, value_outside_limits, all_raised, emergencies_of}
use Rattle.co_node_model.specs.Sync.{sync_errors}
use Rattle.co_node_model.specs.declared.mark.Mark.TheVariants as was
use Rattle.co_node_model.specs.Marks.{marked_key, marked_rpdo, marked_sync}

-- the transmission type of RPDO k
abbrev pub rpdo_type : Contents → ℕ → ℕ
rpdo_type contents k = number_at contents (communication_key side.Rpdo k transmission_type)

-- RPDO k is active, and has this identifier
abbrev pub is_rpdo_with : Contents → ℕ → ℕ → Bool
is_rpdo_with contents id k = is_pdo_active side.Rpdo contents k && identifier_of (cob_id_of side.Rpdo contents k) == id

-- the first active RPDO with an identifier
unfoldable pub rpdo_with : Contents → ℕ → Option ℕ
rpdo_with contents id = find (is_rpdo_with contents id) (range_with_len 0 512)

-- how many bytes RPDO k maps
abbrev pub mapped_length : Description → Contents → ℕ → ℕ
mapped_length d contents k = total_of (mapping_of Rpdo d contents k)

-- the number of bytes that the RPDO of a received frame maps, if there is such a frame
abbrev pub IsMappedLength : Description → Contents → Option KeptFrame → ℕ → Type 0
IsMappedLength d contents rpdo mapped = IfSome rpdo (λ r. mapped ≡ mapped_length d contents r.number)

-- the transmission type of the RPDO of a received frame, if there is such a frame
abbrev pub IsTypeOf : Contents → Option KeptFrame → ℕ → Type 0
IsTypeOf contents rpdo kind = IfSome rpdo (λ r. kind ≡ rpdo_type contents r.number)

-- a frame of an RPDO has fewer bytes than are mapped
abbrev pub is_short : Description → Contents → KeptFrame → Bool
is_short d contents rpdo = nat_lt (length rpdo.frame.bytes) (mapped_length d contents rpdo.number)

-- ---- a frame is received: in operational alone

-- the moment with a frame of RPDO n
abbrev pub with_rpdo : ℕ → NodeState → FrameContent → Moment → Moment
with_rpdo n state frame m =
    if is_state Operational state then record m { mark = was.Rpdo (record { number = n; frame = frame }) } else m

-- ---- the frames that wait for a SYNC: their event at an input

-- the COB-ID or the transmission type of an RPDO, 1400h to 15FFh, sub-index 1 or 2
abbrev pub empties_slot : Key → Bool
empties_slot key = is_within rpdo_communication key.index && (key.sub == pdo_cob_id || key.sub == transmission_type)

-- a written COB-ID or transmission type drops the frame of its RPDO
abbrev pub emptied_by : Option Key → SlotEvent
emptied_by None = Quiet
emptied_by (Some key) = if empties_slot key then Empty (key.index - rpdo_communication.0) else Quiet

-- a received frame of an RPDO waits if its transmission type is synchronous and it isn't too short
abbrev pub kept_by : Description → Contents → Option KeptFrame → SlotEvent
kept_by d contents None = Quiet
kept_by d contents (Some rpdo) =
    if is_synchronous (rpdo_type contents rpdo.number) && not (is_short d contents rpdo) then Keep rpdo.number rpdo.frame else Quiet

-- the event while operational isn't left: a SYNC, a write, or a received frame
abbrev pub slot_event_in : Description → Contents → Mark → Transition → SlotEvent
slot_event_in d contents mark t =
    if is_some (marked_sync mark) && is_state Operational t.after then Sync
    else (if is_some (marked_key mark) then emptied_by (marked_key mark) else kept_by d contents (marked_rpdo mark))

-- the event of the waiting frames: a reset and leaving operational drop all of them
abbrev pub slot_event : Description → Contents → Mark → Transition → SlotEvent
slot_event d contents mark t =
    if is_reset mark || leaves Operational t then EmptyAll else slot_event_in d contents mark t

-- ---- over all inputs

-- the events of the waiting frames
abbrev pub slot_log : Constants → History → SlotLog
slot_log k [] = []
slot_log k (m ∷ history) = slot_event k.description m.watched m.mark (transition_of m history) ∷ slot_log k history

-- ---- the error of a frame's length

-- the error of a frame of `count` bytes if `mapped` are mapped
abbrev pub length_errors : ℕ → ℕ → List DeviceError
length_errors mapped count =
    if nat_lt count mapped then pdo_too_short ∷ [] else (if nat_lt mapped count then pdo_too_long ∷ [] else [])

-- the error of the length of an RPDO's frame, if one was received, at any transmission type
abbrev pub rpdo_errors : Description → Contents → Option KeptFrame → List DeviceError
rpdo_errors d contents None = []
rpdo_errors d contents (Some rpdo) = length_errors (mapped_length d contents rpdo.number) (length rpdo.frame.bytes)

-- ---- data that take effect

-- a frame that takes effect at once: its transmission type is 254 or 255, and it isn't too short
abbrev pub immediate : Description → Contents → Option KeptFrame → List KeptFrame
immediate d contents None = []
immediate d contents (Some rpdo) =
    if is_event_driven (rpdo_type contents rpdo.number) && not (is_short d contents rpdo) then rpdo ∷ [] else []

-- the mapping of the RPDO of a frame
abbrev pub mapping_for : Description → Contents → KeptFrame → List Mapped
mapping_for d contents rpdo = mapping_of Rpdo d contents rpdo.number

-- a value outside its limits is an error; errors of length were raised at reception
abbrev pub value_errors : Option PdoFault → List DeviceError
value_errors (Some OutOfLimits) = value_outside_limits ∷ []
value_errors fault = []

-- the errors of data when they take effect
abbrev pub data_errors : Description → Contents → KeptFrame → List DeviceError
data_errors d contents rpdo = value_errors (fault_of d.rows (mapping_for d contents rpdo) rpdo.frame.bytes)

-- the contents with these data: all values are written, or none if one is outside its limits
abbrev pub with_data : Description → Contents → KeptFrame → Contents
with_data d contents rpdo = contents_after d.rows (mapping_for d contents rpdo) rpdo.frame.bytes contents

-- the contents after data took effect, with their errors
abbrev pub after_data : Description → Contents → KeptFrame → Contents
after_data d contents rpdo = all_raised d.rows (data_errors d contents rpdo) (with_data d contents rpdo)

-- the emergencies that they queue
abbrev pub data_emergencies : Description → Contents → KeptFrame → List Emergency
data_emergencies d contents rpdo = emergencies_of d.rows (data_errors d contents rpdo) (with_data d contents rpdo)

-- the contents after the data of several frames took effect, in order
abbrev pub after_all_data : Description → Contents → List KeptFrame → Contents
after_all_data d contents [] = contents
after_all_data d contents (rpdo ∷ rpdos) = after_all_data d (after_data d contents rpdo) rpdos

-- the emergencies that they queue
abbrev pub all_data_emergencies : Description → Contents → List KeptFrame → List Emergency
all_data_emergencies d contents [] = []
all_data_emergencies d contents (rpdo ∷ rpdos) =
    data_emergencies d contents rpdo ++ all_data_emergencies d (after_data d contents rpdo) rpdos

-- ---- at an input: errors of length first, then the data by number

-- the errors of the length of a SYNC, or of an RPDO's frame
abbrev pub arrival_errors : Description → Moment → List DeviceError
arrival_errors d m = sync_errors m.watched (marked_sync m.mark) ++ rpdo_errors d m.watched (marked_rpdo m.mark)

-- the frames whose data take effect: at a SYNC those that wait, and a frame of type 254 or 255 at
-- once
abbrev pub effective : Constants → History → Moment → List KeptFrame
effective k history m =
    taken_at 512 (slot_event k.description m.watched m.mark (transition_of m history)) (slot_log k history)
    ++ immediate k.description m.watched (marked_rpdo m.mark)

-- the moment after the errors of length, when the data of these frames take effect
abbrev pub with_taken : Description → List DeviceError → List KeptFrame → Moment → Moment
with_taken d errors taken m =
    let arrived = all_raised d.rows errors m.watched in
    record m {
      taken = taken;
      raised_by_pdo = emergencies_of d.rows errors m.watched ++ all_data_emergencies d arrived taken;
      contents = after_all_data d arrived taken;
    }

-- the moment with SYNC and RPDOs
abbrev pub with_pdos : Constants → History → Moment → Moment
with_pdos k history m = with_taken k.description (arrival_errors k.description m) (effective k history m) m
