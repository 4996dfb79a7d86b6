-- The NMT state, computed from the definitions: each row of the tables.
use Rattle.std.proofs.Common.{◌≡◌, true, false, [], ◌∷◌, refl}
use Rattle.std.specs.Prelude.{map}
use Rattle.co_frame.specs.declared.nmt.NmtService.TheVariants.{Start, Stop, EnterPreOperational, ResetNode, ResetCommunication}
use Rattle.co_node_parts.specs.declared.nmt_state.NodeState.TheVariants.{PreOperational, Operational, Stopped}
use Rattle.co_node_parts.specs.declared.nmt_state.LossReaction.TheVariants.{LeaveOperational, NoChange, EnterStopped}
use Rattle.co_node_parts.specs.declared.nmt_state.StateEvent.TheVariants.{Command, HeartbeatLost, Quiet}
use Rattle.co_node_parts.specs.NmtStates.{state_after, reaction_with, transition_by, enters, leaves}

built : state_after [] ≡ PreOperational
built = refl

-- ---- commands

started : state_after (Command Start ∷ Command Stop ∷ []) ≡ Operational
started = refl

stopped : state_after (Quiet ∷ Command Stop ∷ Command Start ∷ []) ≡ Stopped
stopped = refl

pre_operational : state_after (Command EnterPreOperational ∷ Command Start ∷ []) ≡ PreOperational
pre_operational = refl

node_reset : state_after (Command ResetNode ∷ Command Stop ∷ []) ≡ PreOperational
node_reset = refl

communication_reset : state_after (Command ResetCommunication ∷ Command Start ∷ []) ≡ PreOperational
communication_reset = refl

-- ---- a lost heartbeat

codes : map reaction_with (0 ∷ 1 ∷ 2 ∷ 3 ∷ 128 ∷ 255 ∷ []) ≡ LeaveOperational ∷ NoChange ∷ EnterStopped ∷ NoChange ∷ NoChange ∷ NoChange ∷ []
codes = refl

loss_leaves_operational : state_after (HeartbeatLost LeaveOperational ∷ Command Start ∷ []) ≡ PreOperational
loss_leaves_operational = refl

loss_in_pre_operational : state_after (HeartbeatLost LeaveOperational ∷ []) ≡ PreOperational
loss_in_pre_operational = refl

loss_while_stopped : state_after (HeartbeatLost LeaveOperational ∷ Command Stop ∷ []) ≡ Stopped
loss_while_stopped = refl

loss_without_change : state_after (HeartbeatLost NoChange ∷ Command Start ∷ []) ≡ Operational
loss_without_change = refl

loss_stops : state_after (HeartbeatLost EnterStopped ∷ []) ≡ Stopped
loss_stops = refl

start_after_loss : state_after (Command Start ∷ HeartbeatLost EnterStopped ∷ Command Start ∷ []) ≡ Operational
start_after_loss = refl

-- ---- what is entered and left

entered : enters Operational (transition_by (Command Start) []) ≡ true
entered = refl

start_while_operational : enters Operational (transition_by (Command Start) (Command Start ∷ [])) ≡ false
start_while_operational = refl

nothing_entered : enters Operational (transition_by Quiet (Command Start ∷ [])) ≡ false
nothing_entered = refl

left_by_stop : leaves Operational (transition_by (Command Stop) (Command Start ∷ [])) ≡ true
left_by_stop = refl

left_by_loss : leaves Operational (transition_by (HeartbeatLost LeaveOperational) (Command Start ∷ [])) ≡ true
left_by_loss = refl

left_by_nothing : leaves Operational (transition_by Quiet (Command Start ∷ [])) ≡ false
left_by_nothing = refl

stop_from_pre_operational : leaves Operational (transition_by (Command Stop) []) ≡ false
stop_from_pre_operational = refl

entered_by_loss : enters Stopped (transition_by (HeartbeatLost EnterStopped) []) ≡ true
entered_by_loss = refl

stop_while_stopped : enters Stopped (transition_by (Command Stop) (Command Stop ∷ [])) ≡ false
stop_while_stopped = refl

reset_while_stopped : leaves Stopped (transition_by (Command ResetNode) (Command Stop ∷ [])) ≡ true
reset_while_stopped = refl
