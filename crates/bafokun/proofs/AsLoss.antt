-- Bus-off leads to the NMT state that a lost heartbeat leads to.
use Rattle.std.proofs.Common.{◌≡◌, [], ◌∷◌, refl}
use Rattle.co_frame.specs.declared.nmt.NmtService.TheVariants.{Stop, EnterPreOperational}
use Rattle.co_node_parts.specs.declared.nmt_state.LossReaction.{LossReaction}
use Rattle.co_node_parts.specs.declared.nmt_state.LossReaction.TheVariants.{LeaveOperational, NoChange, EnterStopped}
use Rattle.co_node_parts.specs.declared.nmt_state.NodeState.{NodeState}
use Rattle.co_node_parts.specs.declared.nmt_state.NodeState.TheVariants.{PreOperational, Operational, Stopped}
use Rattle.co_node_parts.specs.NmtStates.{after_loss, reaction_with}
use Rattle.co_node_model.specs.Inputs.{InputView, Inputs, Framed}
use Rattle.co_node_model.specs.Moments.{Constants}
use Rattle.co_node_model.specs.Device.{contents_of, state_of}
use Rattle.co_node_laws.specs.ByKind.{device_of, kind_of, state_with}
use Rattle.co_profile.specs.Keys.{error_behaviour_key}
use Rattle.bafokun.specs.declared.ending.Ending.{Ending}
use Rattle.bafokun.specs.Bus.{after_bus, bus_input, by_reaction, byte_of, command_to_all}

by_cases : (k : Constants) (before : Inputs) (r : LossReaction) (s : NodeState)
    → ((input : InputView) → state_of k (input ∷ before) ≡ state_with (kind_of k (device_of k before) input) (device_of k before))
    → state_of k before ≡ s → state_of k (after_bus (by_reaction r s) before) ≡ after_loss r s
by_cases k before NoChange s law now = now
by_cases k before EnterStopped s law now = law (command_to_all Stop)
by_cases k before LeaveOperational Operational law now = law (command_to_all EnterPreOperational)
by_cases k before LeaveOperational PreOperational law now = now
by_cases k before LeaveOperational Stopped law now = now

pub as_loss : (k : Constants) (before : Inputs) (e : Ending)
    → ((input : InputView) → state_of k (input ∷ before) ≡ state_with (kind_of k (device_of k before) input) (device_of k before))
    → state_of k (after_bus (bus_input k before e 2) before)
    ≡ after_loss (reaction_with (byte_of (contents_of k before error_behaviour_key))) (state_of k before)
as_loss k before e law = by_cases k before (reaction_with (byte_of (contents_of k before error_behaviour_key))) (state_of k before) law refl

-- the frames of the commands
stop : command_to_all Stop ≡ Framed (record { id = 0; bytes = 2 ∷ 0 ∷ [] })
stop = refl

leave : command_to_all EnterPreOperational ≡ Framed (record { id = 0; bytes = 128 ∷ 0 ∷ [] })
leave = refl
