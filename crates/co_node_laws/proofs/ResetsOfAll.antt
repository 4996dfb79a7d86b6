-- What a reset of all nodes leaves.
use Rattle.std.proofs.Common.{◌≡◌, ◌∷◌, refl}
use Rattle.co_dict.specs.Rows.{restored}
use Rattle.co_dict.specs.declared.area.Area.{Area}
use Rattle.co_dict.specs.declared.area.Area.TheVariants.{Communication, All}
use Rattle.co_node_parts.specs.declared.nmt_state.NodeState.TheVariants.{PreOperational}
use Rattle.co_node_model.specs.Inputs.{Inputs}
use Rattle.co_node_model.specs.Moments.{Constants}
use Rattle.co_node_model.specs.Device.{state_of, contents_of}
use Rattle.co_node_model.specs.Nmt.{reset_of}

pub pre_operational : (k : Constants) (inputs : Inputs) (area : Area) → state_of k (reset_of area ∷ inputs) ≡ PreOperational
pre_operational k inputs All = refl
pre_operational k inputs Communication = refl

pub area_restored : (k : Constants) (inputs : Inputs) (area : Area)
    → contents_of k (reset_of area ∷ inputs) ≡ restored area k.description.initial (contents_of k inputs)
area_restored k inputs All = refl
area_restored k inputs Communication = refl
