-- A download that a node serves over its default SDO channel.
use Rattle.std.specs.Prelude.{◌≡◌, ◌<◌, ◌≤◌, ℕ, false, List, length, None}
use Rattle.co_value.specs.declared.key.Key.{Key}
use Rattle.co_dict.specs.Stores.{IsDictionary}
use Rattle.co_sdo.specs.OpenTransfers.{open_transfer}
use Rattle.co_sdo.specs.Refused.{completion_refusal}
use Rattle.co_node_parts.specs.declared.nmt_state.NodeState.TheVariants.{Stopped}
use Rattle.co_node_parts.specs.NmtStates.{is_state}
use Rattle.co_node_model.specs.Inputs.{Inputs}
use Rattle.co_node_model.specs.Sdo.{channel_logs}
use Rattle.co_node_model.specs.Moments.{Constants}
use Rattle.co_node_model.specs.Device.{contents_of, moments, state_of}

-- a node after these inputs serves a download of these bytes: it isn't stopped, no transfer is open
-- on its default channel, and the dictionary permits the download
pub record IsServed (k : Constants) (before : Inputs) (key : Key) (bytes : List ℕ) : Type 0 where
  pub dictionary : IsDictionary k.description (contents_of k before)
  pub running : is_state Stopped (state_of k before) ≡ false
  pub idle : open_transfer (channel_logs (moments k before) 0) ≡ None
  pub index : key.index < 65536
  pub few : length bytes ≤ 65535
  pub permitted : completion_refusal k.description (contents_of k before) key None bytes ≡ None
