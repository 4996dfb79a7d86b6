-- A device after its inputs, and within one, over any store.
use Rattle.co_dict.specs.declared.store.ObjectStore.{Ghosts as StoreOf}
use Rattle.co_node_parts.specs.declared.nmt_state.Transition.{Transition}
use Rattle.co_node_model.specs.Inputs.{Inputs, InputView}
use Rattle.co_node_model.specs.Moments.{Constants}
use Rattle.co_node_model.specs.declared.mark.Mark.{Mark}
use Rattle.co_node_model.specs.Device.{moment, moments}
use Rattle.co_node_device.specs.declared.device.Device.{Device}
use Rattle.co_node_device.specs.NodeStanding.{NodeStands}
use Rattle.co_node_device.specs.Phases.{IsReceived, TookEffect}

-- this device is in the state after these inputs, newest first
abbrev pub Stands : {S : Type 0} {store : StoreOf S} → Constants → Device S store → Inputs → Type 0
Stands {S} {store} k device inputs =
    NodeStands k (store.description device.store) (store.contents device.store) device.parts inputs

-- after these inputs the device has received one more, with this mark
abbrev pub HasReceived : {S : Type 0} {store : StoreOf S} → Constants → Device S store → Inputs → InputView → Mark → Type 0
HasReceived {S} {store} k device inputs input mark =
    IsReceived k (moments k inputs) (moment k (moments k inputs) input)
    (store.description device.store) (store.contents device.store) device.parts mark

-- and the input took effect, with this transition of the NMT state
abbrev pub HasTakenEffect : {S : Type 0} {store : StoreOf S} → Constants → Device S store → Inputs → InputView → Mark → Transition → Type 0
HasTakenEffect {S} {store} k device inputs input mark transition =
    TookEffect k (moments k inputs) (moment k (moments k inputs) input)
    (store.description device.store) (store.contents device.store) device.parts mark transition
