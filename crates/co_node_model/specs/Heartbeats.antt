-- Heartbeats: consumers of those of other nodes, and the device's own (CiA 301, 7.2.8.3.2 and
-- 7.2.8.3.3).
use Rattle.std.specs.Prelude.{Bool, true, false, Option, Some, None, ℕ, if◌then◌else◌, ◌==◌, ◌&&◌, List, map, is_none, [], ◌∷◌, ◌||◌, ◌+◌}
use Rattle.std.specs.List.{range_with_len}
use Rattle.co_value.specs.declared.key.Key.{Key}
use Rattle.co_frame.specs.declared.heartbeat.Heartbeat.{Heartbeat}
use Rattle.co_frame.specs.FrameContent.{FrameContent}
use Rattle.co_frame.specs.Heartbeats.{heartbeat_in, heartbeat_bytes}
use Rattle.co_frame.specs.declared.heartbeat.Heartbeat.TheVariants.{BootUp}
use Rattle.co_frame.specs.declared.heartbeat.Heartbeat.TheVariants as heartbeat
use Rattle.co_profile.specs.Indices.{consumer_heartbeat}
use Rattle.co_dict.specs.CobIds.{is_from_to}
use Rattle.co_dict.specs.Rows.{Contents, number_at}
use Rattle.co_dict.specs.ConsumerHeartbeats.{consumer_key}
use Rattle.co_dict.specs.Stores.{Description}
use Rattle.co_node_parts.specs.declared.heartbeat_consumers.ConsumersEvent.{ConsumersEvent}
use Rattle.co_node_parts.specs.ConsumerTables.{ConsumersCall, Noted, AllBegun, ConsumersLog, lost_at}
use Rattle.co_node_parts.specs.declared.nmt_state.StateEvent.{StateEvent}
use Rattle.co_node_parts.specs.declared.nmt_state.StateEvent.TheVariants.{HeartbeatLost, Quiet}
use Rattle.co_node_parts.specs.NmtStates.{reaction_with, heartbeat_of}
use Rattle.co_node_parts.specs.declared.heartbeat_producer.ProducerEvent.{ProducerEvent}
use Rattle.co_node_parts.specs.declared.nmt_state.NodeState.{NodeState}
use Rattle.co_node_parts.specs.declared.heartbeat_producer.ProducerEvent.TheVariants.{Begin}
use Rattle.co_node_parts.specs.Producers.{ProducerLog, is_heartbeat_due}
use Rattle.co_node_parts.specs.declared.heartbeat_consumers.ConsumersEvent.TheVariants as consumers
use Rattle.co_node_parts.specs.declared.heartbeat_producer.ProducerEvent.TheVariants as producer
use Rattle.co_node_model.specs.Moments.{Moment, Constants, History}
use Rattle.co_node_model.specs.declared.mark.Mark.{Mark}
use Rattle.co_node_model.specs.Nmt.{is_reset, state_at}
use Rattle.co_node_model.specs.declared.device_error.DeviceError.{DeviceError}
use Rattle.co_node_model.specs.Emergencies.{heartbeat_lost, all_raised, emergencies_of}
use Rattle.co_node_model.specs.Keys.{is_set}
use Rattle.co_profile.specs.Keys.{error_behaviour_key, producer_key}
use Rattle.co_node_model.specs.declared.mark.Mark.TheVariants as was
use Rattle.co_node_model.specs.Marks.{marked_heartbeat, marked_key, marked_tick}

-- ---- consumers: a received heartbeat of another node, in every state; a boot-up is none

-- an error control frame is a heartbeat
abbrev pub is_heartbeat : Option Heartbeat → Bool
is_heartbeat None = false
is_heartbeat (Some heartbeat.BootUp) = false
is_heartbeat (Some heartbeat.Stopped) = true
is_heartbeat (Some heartbeat.Operational) = true
is_heartbeat (Some heartbeat.PreOperational) = true

-- the moment with an error control frame
abbrev pub with_error_control : ℕ → FrameContent → Moment → Moment
with_error_control node frame m =
    if is_heartbeat (heartbeat_in frame.bytes) then record m { mark = was.Heard node } else m

-- ---- consumers: their event at an input

-- an entry of 1016h, sub-indices 1 to 127
abbrev pub is_consumer_key : Key → Bool
is_consumer_key key = key.index == consumer_heartbeat && is_from_to 1 127 key.sub

-- the words of 1016:01 to 7F, in their order
unfoldable pub consumer_words : Contents → List ℕ
consumer_words contents = map (λ sub. number_at contents (consumer_key sub)) (range_with_len 1 127)

-- the event of a heartbeat, if one was received
abbrev pub heard_event : Option ℕ → ConsumersEvent
heard_event None = consumers.Quiet
heard_event (Some node) = consumers.Heard node

-- the begin of an entry of 1016h with its new word, if one was written
abbrev pub begin_event : Contents → Option Key → ConsumersEvent
begin_event contents None = consumers.Quiet
begin_event contents (Some key) = if is_consumer_key key then consumers.Begin key.sub (number_at contents key) else consumers.Quiet

-- the event of the consumers at an input that is no reset
abbrev pub consumers_event : Mark → Contents → ConsumersEvent
consumers_event mark contents =
    if marked_tick mark then consumers.Tick
    else (if is_none (marked_heartbeat mark) then begin_event contents (marked_key mark) else heard_event (marked_heartbeat mark))

-- the call of the consumers: at a reset each entry begins with its word then
abbrev pub consumers_call : Mark → Contents → ConsumersCall
consumers_call mark contents = if is_reset mark then AllBegun (consumer_words contents) else Noted (consumers_event mark contents)

-- ---- consumers: over all inputs; each entry of 1016h begins when the device is built

-- the calls of the consumers
abbrev pub consumers_log : Constants → History → ConsumersLog
consumers_log k [] = AllBegun (consumer_words k.start) ∷ []
consumers_log k (m ∷ history) = consumers_call m.mark m.received ∷ consumers_log k history

-- ---- consumers: heartbeats that are lost (7.5.2.32)

-- the sub-indices of 1016h whose heartbeat is lost at a call
abbrev pub lost_by : ConsumersCall → ConsumersLog → List ℕ
lost_by (AllBegun words) log = []
lost_by (Noted event) log = lost_at event log

-- an error for each of these entries
abbrev pub loss_errors : List ℕ → List DeviceError
loss_errors lost = map (λ sub. heartbeat_lost) lost

-- the event of the NMT state, by 1029:01; several losses are one event
abbrev pub loss_event : List ℕ → Contents → StateEvent
loss_event [] contents = Quiet
loss_event (sub ∷ lost) contents = HeartbeatLost (reaction_with (number_at contents error_behaviour_key))

-- the moment with these lost heartbeats
abbrev pub with_lost : Description → List ℕ → Moment → Moment
with_lost d lost m = record m {
  lost = lost;
  raised_by_loss = emergencies_of d.rows (loss_errors lost) m.received;
  watched = all_raised d.rows (loss_errors lost) m.received;
  loss = loss_event lost m.received;
}

-- the moment with the heartbeats that are lost at it
abbrev pub with_losses : Constants → History → Moment → Moment
with_losses k history m = with_lost k.description (lost_by (consumers_call m.mark m.received) (consumers_log k history)) m

-- ---- producer: its event at an input

-- the event of the producer: it begins at a reset and at a write of 1017h, with the time of 1017h
-- then
abbrev pub producer_event : Mark → Contents → ProducerEvent
producer_event mark contents =
    if is_reset mark || is_set (marked_key mark) producer_key then producer.Begin (number_at contents producer_key)
    else (if marked_tick mark then producer.Tick else producer.Quiet)

-- the boot-up at a reset, else the heartbeat of the state after the input, if one is due
abbrev pub life_of : Mark → NodeState → Bool → Option Heartbeat
life_of mark after due = if is_reset mark then Some BootUp else (if due then Some (heartbeat_of after) else None)

-- ---- producer: over all inputs; it begins when the device is built

-- the events of the producer
abbrev pub producer_log : Constants → History → ProducerLog
producer_log k [] = Begin (number_at k.start producer_key) ∷ []
producer_log k (m ∷ history) = producer_event m.mark m.contents ∷ producer_log k history

-- ---- producer: the boot-up, or a heartbeat with the state at the end of the input

-- the moment with the boot-up, or a heartbeat with the state at the end of the input (7.2.8.3.2 and
-- 7.2.8.3.3)
abbrev pub with_life : Constants → History → Moment → Moment
with_life k history m =
    record m { life = life_of m.mark (state_at (m ∷ history)) (is_heartbeat_due (producer_event m.mark m.contents) (producer_log k history)) }

-- a boot-up or heartbeat on 700h + node-ID (7.2.8.3.2 and 7.2.8.3.3)
abbrev pub life_frames : ℕ → Option Heartbeat → List FrameContent
life_frames node None = []
life_frames node (Some life) = record { id = 0x700 + node; bytes = heartbeat_bytes life } ∷ []

-- the boot-up of a device (7.2.8.3.3)
abbrev pub boot_up : Constants → FrameContent
boot_up k = record { id = 0x700 + k.description.node; bytes = 0 ∷ [] }
