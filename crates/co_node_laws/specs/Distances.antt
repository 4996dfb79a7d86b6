-- Heartbeats, lost heartbeats and emergencies by distances over all inputs, in ticks.
use Rattle.std.specs.Prelude.{ℕ, ◌+◌, ◌%◌, ◌==◌, ◌&&◌, ◌||◌, Bool, nat_lt, List, [], ◌∷◌, ◌++◌, drop, map, slice_get, Option, Some, None, if◌then◌else◌}
use Rattle.std.specs.List.{list_all}
use Rattle.circular_buffer.specs.Buffer.{keep_last}
use Rattle.co_frame.specs.declared.emergency.Emergency.{Emergency}
use Rattle.co_frame.specs.declared.heartbeat.Heartbeat.{Heartbeat}
use Rattle.co_dict.specs.Rows.{number_at}
use Rattle.co_dict.specs.ConsumerHeartbeats.{consumer_key}
use Rattle.co_node_parts.specs.declared.heartbeat_consumer.Monitored.{Monitored}
use Rattle.co_node_parts.specs.NmtStates.{heartbeat_of}
use Rattle.co_node_parts.specs.Consumers.{monitored_by, is_monitored, later, is_over_after}
use Rattle.co_node_parts.specs.EmergencyQueues.{Sending, older, is_past}
use Rattle.co_node_model.specs.Inputs.{InputView, Inputs, Ticked}
use Rattle.co_node_model.specs.Keys.{is_set}
use Rattle.co_profile.specs.Keys.{producer_key, emergency_inhibit_key}
use Rattle.co_node_model.specs.Nmt.{is_reset}
use Rattle.co_node_model.specs.Emergencies.{may_send}
use Rattle.co_node_model.specs.declared.mark.Mark.{Mark}
use Rattle.co_node_model.specs.Moments.{Constants, Moment}
use Rattle.co_node_model.specs.Device.{moment, moments, state_of, contents_of}
use Rattle.co_node_model.specs.Marks.{marked_heartbeat, marked_key, marked_tick}

-- the moment of one more input
abbrev pub moment_at : Constants → Inputs → InputView → Moment
moment_at k inputs input = moment k (moments k inputs) input

-- ---- the device's own heartbeat (CiA 301, 7.2.8.3.2 and 7.5.2.20)

-- the heartbeat begins again: the input is a reset, or writes 1017:00
abbrev pub begins_heartbeat : Mark → Bool
begins_heartbeat mark = is_reset mark || is_set (marked_key mark) producer_key

-- its period in ms: 1017:00 when it last began; it first begins when the device is built
abbrev pub heartbeat_period : Constants → Inputs → ℕ
heartbeat_period k [] = number_at k.start producer_key
heartbeat_period k (input ∷ inputs) =
    if begins_heartbeat (moment_at k inputs input).mark then number_at (contents_of k (input ∷ inputs)) producer_key
    else heartbeat_period k inputs

-- how many ticks came since it began
abbrev pub heartbeat_ticks : Constants → Inputs → ℕ
heartbeat_ticks k [] = 0
heartbeat_ticks k (input ∷ inputs) =
    if begins_heartbeat (moment_at k inputs input).mark then 0
    else (if (marked_tick (moment_at k inputs input).mark) then heartbeat_ticks k inputs + 1 else heartbeat_ticks k inputs)

-- one more tick after these makes a multiple of the period; a period of 0 has none
abbrev pub is_multiple : ℕ → ℕ → Bool
is_multiple ticks period = nat_lt 0 period && (ticks + 1) % period == 0

-- the heartbeat sent at one more tick
abbrev pub heartbeat_at_tick : Constants → Inputs → Option Heartbeat
heartbeat_at_tick k inputs =
    if is_multiple (heartbeat_ticks k inputs) (heartbeat_period k inputs) then Some (heartbeat_of (state_of k (Ticked ∷ inputs))) else None

-- ---- heartbeats of others (7.2.8.3.2 and 7.5.2.19)

-- an entry of 1016h begins again: the input is a reset, or writes it
abbrev pub begins_entry : ℕ → Mark → Bool
begins_entry sub mark = is_reset mark || is_set (marked_key mark) (consumer_key sub)

-- the node and the time in ms that an entry monitors, by its word when it last began; it first
-- begins when the device is built
abbrev pub monitored : Constants → ℕ → Inputs → Option Monitored
monitored k sub [] = monitored_by (number_at k.start (consumer_key sub))
monitored k sub (input ∷ inputs) =
    if begins_entry sub (moment_at k inputs input).mark then monitored_by (number_at (moment_at k inputs input).received (consumer_key sub))
    else monitored k sub inputs

-- a heartbeat of the monitored node was 0 ticks ago
abbrev pub heard_after : Option ℕ → Option Monitored → Option ℕ → Option ℕ
heard_after None m before = before
heard_after (Some node) m before = if is_monitored node m then Some 0 else before

-- how many ticks ago the last heartbeat was after one more tick, or a received heartbeat
abbrev pub silence_after : Mark → Option Monitored → Option ℕ → Option ℕ
silence_after mark m before = if marked_tick mark then later before else heard_after (marked_heartbeat mark) m before

-- how many ticks ago the last heartbeat was, if one came since the entry began
abbrev pub ticks_silent : Constants → ℕ → Inputs → Option ℕ
ticks_silent k sub [] = None
ticks_silent k sub (input ∷ inputs) =
    if begins_entry sub (moment_at k inputs input).mark then None
    else silence_after (moment_at k inputs input).mark (monitored k sub inputs) (ticks_silent k sub inputs)

-- at one more tick exactly the time of the entry has elapsed since the last heartbeat
abbrev pub is_time_passed : Constants → ℕ → Inputs → Bool
is_time_passed k sub inputs = is_over_after (ticks_silent k sub inputs) (monitored k sub inputs)

-- ---- emergencies (7.2.7, 7.5.2.17 and 7.5.2.18)

-- the sendings since the last reset, at one more input: none after a reset; at a tick each is one
-- tick older
abbrev pub aged : Mark → List Sending → List Sending
aged mark sendings = if is_reset mark then [] else (if marked_tick mark then map older sendings else sendings)

-- one more sending, if there is one
abbrev pub and_sent : Option Emergency → ℕ → List Sending → List Sending
and_sent None inhibit sendings = sendings
and_sent (Some emergency) inhibit sendings = record { age = 0; inhibit = inhibit } ∷ sendings

-- the emergencies sent since the last reset, newest first: how many ticks ago, and 1015:00 as it
-- was then
abbrev pub emergencies_sent : Constants → Inputs → List Sending
emergencies_sent k [] = []
emergencies_sent k (input ∷ inputs) =
    and_sent (moment_at k inputs input).emergency (number_at (contents_of k (input ∷ inputs)) emergency_inhibit_key)
    (aged (moment_at k inputs input).mark (emergencies_sent k inputs))

-- a queue after these emergencies were queued; a ninth overwrites the oldest
abbrev pub queued : List Emergency → List Emergency → List Emergency
queued [] queue = queue
queued (emergency ∷ emergencies) queue = queued emergencies (keep_last 8 (queue ++ emergency ∷ []))

-- a queue after all emergencies of an input; a reset empties it
abbrev pub queue_with : Moment → List Emergency → List Emergency
queue_with m queue =
    if is_reset m.mark then [] else queued m.raised_by_pdo (queued m.raised_by_loss (queued m.raised_by_app queue))

-- the rest of a queue after its front was sent, if it was
abbrev pub rest_after : Option Emergency → List Emergency → List Emergency
rest_after None queue = queue
rest_after (Some emergency) queue = drop 1 queue

-- the emergencies that wait after all inputs, oldest first
abbrev pub waiting : Constants → Inputs → List Emergency
waiting k [] = []
waiting k (input ∷ inputs) =
    rest_after (moment_at k inputs input).emergency (queue_with (moment_at k inputs input) (waiting k inputs))

-- the emergency sent at one more input: the front of the queue, if the device may send it, and the
-- inhibit time of each sending since the last reset has elapsed
abbrev pub emergency_by : Constants → Inputs → InputView → Option Emergency
emergency_by k inputs input =
    if may_send (moment_at k inputs input).mark (state_of k (input ∷ inputs)) (contents_of k (input ∷ inputs))
    && list_all is_past (aged (moment_at k inputs input).mark (emergencies_sent k inputs))
    then slice_get (queue_with (moment_at k inputs input) (waiting k inputs)) 0 else None
