-- The NMT state of the device after its events (CiA 301, 7.3.2).
use Rattle.std.specs.Prelude.{◌==◌, ◌&&◌, Bool, true, false, not, ℕ, if◌then◌else◌, List, [], ◌∷◌}
use Rattle.co_frame.specs.declared.nmt.NmtService.{NmtService}
use Rattle.co_frame.specs.declared.nmt.NmtService.TheVariants.{Start, Stop, EnterPreOperational, ResetNode, ResetCommunication}
use Rattle.co_frame.specs.declared.heartbeat.Heartbeat.{Heartbeat}
use Rattle.co_frame.specs.declared.heartbeat.Heartbeat.TheVariants as heartbeat
use Rattle.co_node_parts.specs.declared.nmt_state.NodeState.{NodeState}
use Rattle.co_node_parts.specs.declared.nmt_state.NodeState.TheVariants.{PreOperational, Operational, Stopped}
use Rattle.co_node_parts.specs.declared.nmt_state.LossReaction.{LossReaction}
use Rattle.co_node_parts.specs.declared.nmt_state.LossReaction.TheVariants.{LeaveOperational, NoChange, EnterStopped}
use Rattle.co_node_parts.specs.declared.nmt_state.StateEvent.{StateEvent}
use Rattle.co_node_parts.specs.declared.nmt_state.StateEvent.TheVariants.{Command, HeartbeatLost, Quiet}
use Rattle.co_node_parts.specs.declared.nmt_state.Transition.{Transition}

-- the events, newest first
abbrev pub StateLog : Type 0
StateLog = List StateEvent

-- the state that a command leads to; a reset ends in pre-operational (7.3.2.2 and 7.2.8.2.1)
abbrev pub commanded : NmtService → NodeState
commanded Start = Operational
commanded Stop = Stopped
commanded EnterPreOperational = PreOperational
commanded ResetNode = PreOperational
commanded ResetCommunication = PreOperational

-- the state that a lost heartbeat leads to (object 1029h, 7.5.2.32)
abbrev pub after_loss : LossReaction → NodeState → NodeState
after_loss LeaveOperational PreOperational = PreOperational
after_loss LeaveOperational Operational = PreOperational
after_loss LeaveOperational Stopped = Stopped
after_loss NoChange state = state
after_loss EnterStopped state = Stopped

-- the state after these events: pre-operational at first
abbrev pub state_after : StateLog → NodeState
state_after [] = PreOperational
state_after (Command service ∷ log) = commanded service
state_after (HeartbeatLost reaction ∷ log) = after_loss reaction (state_after log)
state_after (Quiet ∷ log) = state_after log

-- the reaction for a value of 1029h:01: 0 leaves operational, 2 enters stopped, any other changes
-- nothing
abbrev pub reaction_with : ℕ → LossReaction
reaction_with code =
    if code == 0 then LeaveOperational else (if code == 2 then EnterStopped else NoChange)

-- the heartbeat that reports a state (7.2.8.3.2)
abbrev pub heartbeat_of : NodeState → Heartbeat
heartbeat_of PreOperational = heartbeat.PreOperational
heartbeat_of Operational = heartbeat.Operational
heartbeat_of Stopped = heartbeat.Stopped

-- the states before and after one more event
abbrev pub transition_by : StateEvent → StateLog → Transition
transition_by event log = record { before = state_after log; after = state_after (event ∷ log) }

-- two states are the same
abbrev pub is_state : NodeState → NodeState → Bool
is_state PreOperational PreOperational = true
is_state PreOperational Operational = false
is_state PreOperational Stopped = false
is_state Operational PreOperational = false
is_state Operational Operational = true
is_state Operational Stopped = false
is_state Stopped PreOperational = false
is_state Stopped Operational = false
is_state Stopped Stopped = true

-- a state is entered from another one
abbrev pub enters : NodeState → Transition → Bool
enters state t = not (is_state t.before state) && is_state t.after state

-- a state is left for another one
abbrev pub leaves : NodeState → Transition → Bool
leaves state t = is_state t.before state && not (is_state t.after state)
