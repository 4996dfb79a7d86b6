-- How many bytes a device holds for its SDO transfers.
use Rattle.std.specs.Prelude.{ℕ, ◌+◌, ◌≤◌}
use Rattle.co_node_model.specs.Inputs.{Inputs}
use Rattle.co_node_model.specs.Moments.{Constants}
use Rattle.co_node_model.specs.Device.{held_of, room_of}

-- after these inputs each SDO channel holds at most the capacity of the transferred entry plus 889
-- bytes, a sub-block; so at most the greatest capacity of an entry plus 889
pub record HoldsWithin (k : Constants) (inputs : Inputs) : Type 0 where
  pub room : (channel : ℕ) → held_of k inputs channel ≤ room_of k inputs channel
  pub greatest : (channel : ℕ) → held_of k inputs channel ≤ k.greatest + 889
