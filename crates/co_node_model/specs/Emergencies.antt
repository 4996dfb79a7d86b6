-- EMCY: errors that are raised and cleared, the error register, the pre-defined error field, and
-- the emergencies that are queued and sent (CiA 301, 7.2.7, 7.5.2.2 and 7.5.2.4).
use Rattle.std.specs.Prelude.{ℕ, List, [], ◌∷◌, bit_or, ◌-◌, bit_and, if◌then◌else◌, ◌&&◌, not, Bool, Option, Some, None}
use Rattle.co_frame.specs.declared.emergency.Emergency.{Emergency}
use Rattle.co_frame.specs.FrameContent.{FrameContent}
use Rattle.co_frame.specs.Emergencies.{emergency_bytes}
use Rattle.co_dict.specs.Rows.{Contents, number_at, Rows, with_number}
use Rattle.co_dict.specs.ErrorField.{pushed}
use Rattle.co_dict.specs.CobIds.{is_valid, identifier_of}
use Rattle.co_node_parts.specs.declared.emergencies.EmergencyEvent.{EmergencyEvent}
use Rattle.co_node_parts.specs.declared.nmt_state.NodeState.{NodeState}
use Rattle.co_node_parts.specs.declared.nmt_state.NodeState.TheVariants.{Stopped}
use Rattle.co_node_parts.specs.NmtStates.{is_state}
use Rattle.co_node_parts.specs.EmergencyQueues.{EmergencyLog, Noted, with_queued, with_sending, emergency_due}
use Rattle.co_node_parts.specs.declared.emergencies.EmergencyEvent.TheVariants as emergencies
use Rattle.co_node_model.specs.declared.device_error.DeviceError.{DeviceError}
use Rattle.co_profile.specs.Keys.{error_register_key, emergency_key, emergency_inhibit_key}
use Rattle.co_node_model.specs.Nmt.{is_reset, state_at}
use Rattle.co_node_model.specs.declared.mark.Mark.{Mark}
use Rattle.co_node_model.specs.Moments.{Moment, History}
use Rattle.co_node_model.specs.Marks.{marked_tick, marked_time_out}

-- bits 0, generic error, and 4, communication error, of the error register
abbrev pub communication_bits : ℕ
communication_bits = 0x11

-- a manufacturer-specific error code of five zeros: the device has none of its own
abbrev pub no_manufacturer : List ℕ
no_manufacturer = 0 ∷ 0 ∷ 0 ∷ 0 ∷ 0 ∷ []

-- a communication error with a code
abbrev pub communication_error : ℕ → DeviceError
communication_error code = record { code = code; bits = communication_bits; manufacturer = no_manufacturer }

-- the heartbeat of another node is lost: 8130h
abbrev pub heartbeat_lost : DeviceError
heartbeat_lost = communication_error 0x8130

-- the data of an RPDO have a value outside its limits: 8200h
abbrev pub value_outside_limits : DeviceError
value_outside_limits = communication_error 0x8200

-- a frame of an RPDO is shorter than its mapping and isn't processed: 8210h
abbrev pub pdo_too_short : DeviceError
pdo_too_short = communication_error 0x8210

-- a frame of an RPDO is longer than its mapping: 8220h
abbrev pub pdo_too_long : DeviceError
pdo_too_long = communication_error 0x8220

-- a SYNC has an unexpected length: 8240h
abbrev pub unexpected_sync_length : DeviceError
unexpected_sync_length = communication_error 0x8240

-- the error register, 0 if there is none
abbrev pub error_register : Contents → ℕ
error_register contents = number_at contents error_register_key

-- the error register with bits set
abbrev pub register_with : ℕ → Contents → ℕ
register_with bits contents = bit_or (error_register contents) bits

-- the error register with bits cleared
abbrev pub register_without : ℕ → Contents → ℕ
register_without bits contents = bit_and (error_register contents) (255 - bits)

-- the contents with another value of the error register, if there is one
abbrev pub with_register : Rows → ℕ → Contents → Contents
with_register rows register contents = with_number rows error_register_key register contents

-- ---- raised

-- the contents after an error was raised: its bits are set, and its code is the first of the
-- pre-defined error field
abbrev pub raised : Rows → DeviceError → Contents → Contents
raised rows error contents = pushed rows error.code (with_register rows (register_with error.bits contents) contents)

-- the emergency that an error queues, with the error register after it
abbrev pub emergency_of : DeviceError → Contents → Emergency
emergency_of error contents =
    record { code = error.code; register = register_with error.bits contents; manufacturer = error.manufacturer }

-- the contents after several errors were raised, in order
abbrev pub all_raised : Rows → List DeviceError → Contents → Contents
all_raised rows [] contents = contents
all_raised rows (error ∷ errors) contents = all_raised rows errors (raised rows error contents)

-- the emergencies that several errors queue
abbrev pub emergencies_of : Rows → List DeviceError → Contents → List Emergency
emergencies_of rows [] contents = []
emergencies_of rows (error ∷ errors) contents =
    emergency_of error contents ∷ emergencies_of rows errors (raised rows error contents)

-- ---- cleared

-- the contents after bits were cleared: the pre-defined error field stays
abbrev pub cleared : Rows → ℕ → Contents → Contents
cleared rows bits contents = with_register rows (register_without bits contents) contents

-- the emergency that clearing queues: code 0000h, with the error register after it
abbrev pub clearing_of : ℕ → Contents → Emergency
clearing_of bits contents = record { code = 0; register = register_without bits contents; manufacturer = no_manufacturer }

-- ---- the event of the queue at an input

-- the event of the queue of emergencies besides those that the input raised: a reset empties it
abbrev pub emergency_event : Mark → EmergencyEvent
emergency_event mark =
    if is_reset mark then emergencies.Empty else (if marked_tick mark then emergencies.Tick else emergencies.Quiet)

-- an emergency may be sent at the end of the input: the node isn't stopped then, 1014h is a valid
-- COB-ID then, and no SDO transfer timed out
abbrev pub may_send : Mark → NodeState → Contents → Bool
may_send mark after contents =
    not (is_state Stopped after) && is_valid (number_at contents emergency_key) && not (marked_time_out mark)

-- ---- over all inputs: the emergencies of an input, then its event, then a sending

-- the log before a sending
abbrev pub unsent_log : Moment → EmergencyLog → EmergencyLog
unsent_log m log =
    Noted (emergency_event m.mark) ∷ with_queued m.raised_by_pdo (with_queued m.raised_by_loss (with_queued m.raised_by_app log))

-- the log after all inputs; the inhibit time is that at the sending
abbrev pub emergency_log : History → EmergencyLog
emergency_log [] = []
emergency_log (m ∷ history) =
    with_sending m.emergency (number_at m.contents emergency_inhibit_key) (unsent_log m (emergency_log history))

-- ---- what is sent: by the state and the entries at the end of the input

-- the moment with the emergency that is due (7.2.7), by the state and the entries at the end of the
-- input
abbrev pub with_emergency : History → Moment → Moment
with_emergency history m =
    record m { emergency = emergency_due (may_send m.mark (state_at (m ∷ history)) m.contents) (unsent_log m (emergency_log history)) }

-- an emergency on the identifier that 1014h has at the end of the input (CiA 301, 7.5.2.17)
abbrev pub emergency_frames : Contents → Option Emergency → List FrameContent
emergency_frames contents None = []
emergency_frames contents (Some emergency) =
    record { id = identifier_of (number_at contents emergency_key); bytes = emergency_bytes emergency } ∷ []
