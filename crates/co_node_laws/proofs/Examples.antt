-- That the laws are about something: a device that is operational, and inputs at which its schedule is asked.
use Rattle.std.proofs.Common.{◌≡◌, Bool, true, false, [], ◌∷◌, refl}
use Rattle.co_node_parts.specs.declared.nmt_state.NodeState.TheVariants.{Operational}
use Rattle.co_node_model.specs.Inputs.{InputView, Inputs, Ticked}
use Rattle.co_node_model.specs.Tpdos.{turn_at}
use Rattle.co_node_model.specs.Device.{moment, moments, state_of}
use Rattle.co_node_model.proofs.ExampleNode.{device, request, start, stop, sync, event, searches}
use Rattle.co_node_laws.specs.Calls.{is_asked}

-- the schedule is asked at an input
abbrev asks : Inputs → InputView → Bool
asks inputs input = is_asked (turn_at (moment device (moments device inputs) input) (moments device inputs))

-- 1800:02 of TPDO 0 becomes 2
abbrev writing : InputView
writing = request 0x2F00_1802_0200_0000

operational : state_of device (writing ∷ start ∷ []) ≡ Operational
unfolding searches
operational = refl

at_sync : asks (start ∷ []) sync ≡ true
unfolding searches
at_sync = refl

at_tick : asks (writing ∷ start ∷ []) Ticked ≡ true
unfolding searches
at_tick = refl

at_event : asks (start ∷ []) (event 0) ≡ true
unfolding searches
at_event = refl

-- neither by a write, nor as operational is entered, nor outside it
not_by_write : asks (start ∷ []) writing ≡ false
unfolding searches
not_by_write = refl

not_by_start : asks [] start ≡ false
unfolding searches
not_by_start = refl

not_while_stopped : asks (stop ∷ start ∷ []) Ticked ≡ false
unfolding searches
not_while_stopped = refl
