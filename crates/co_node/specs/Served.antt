-- A segmented download that a device built from a data sheet permits, and its result, by what a
-- caller of the device knows (CiA 301, 7.2.4.3).
use Rattle.std.specs.Prelude.{◌≡◌, ◌<◌, ◌≤◌, ℕ, true, false, List, length, None}
use Rattle.co_value.specs.declared.key.Key.{Key}
use Rattle.co_dict.specs.Rows.{written}
use Rattle.co_dict.specs.Stores.{IsDictionary}
use Rattle.co_dict_build.specs.Built.{Plan}
use Rattle.co_sdo.specs.OpenTransfers.{open_transfer}
use Rattle.co_sdo.specs.Refused.{completion_refusal}
use Rattle.co_sdo_client.specs.declared.mode.Mode.{Mode}
use Rattle.co_sdo_client.specs.declared.state.ClientState.{ClientState}
use Rattle.co_sdo_client.specs.declared.state.ClientState.TheVariants.{Done}
use Rattle.co_sdo_client.specs.Calls.{Download}
use Rattle.co_sdo_client.specs.Segments.{requests_needed}
use Rattle.co_sdo_laws.specs.Undisturbed.{is_segmented_download}
use Rattle.co_node_parts.specs.declared.nmt_state.NodeState.TheVariants.{Stopped}
use Rattle.co_node_parts.specs.NmtStates.{is_state}
use Rattle.co_node_model.specs.Inputs.{Inputs}
use Rattle.co_node_model.specs.Loop.{download_of, last_ends, sent_of, state_at}
use Rattle.co_node_model.specs.Sdo.{channel_logs}
use Rattle.co_node_model.specs.Moments.{Constants}
use Rattle.co_node_model.specs.Device.{contents_of, moments, state_of}
use Rattle.co_node.specs.declared.node.Node.{Node}
use Rattle.co_node.specs.Built.{IsBuilt}
use Rattle.co_node.specs.Nodes.{Stands}

-- the entries of a device are those of a dictionary, after any inputs
abbrev pub StandOnDictionaries : Type 0
StandOnDictionaries = (k : Constants) (node : Node) (before : Inputs) → Stands k node before → IsDictionary k.description (contents_of k before)

-- a device built from a data sheet permits a segmented download after these inputs: it isn't
-- stopped, no transfer is open on its default channel, and the dictionary permits the bytes; in
-- plain mode they are none or more than four
pub record IsPermitted (k : Constants) (before : Inputs) (key : Key) (bytes : List ℕ) (mode : Mode) : Type 0 where
  pub plan : Plan
  pub built : IsBuilt plan k
  pub running : is_state Stopped (state_of k before) ≡ false
  pub idle : open_transfer (channel_logs (moments k before) 0) ≡ None
  pub index : key.index < 65536
  pub permitted : completion_refusal k.description (contents_of k before) key None bytes ≡ None
  pub segmented : is_segmented_download mode (Download bytes true) ≡ true

-- its result: the client is done after one request and one for each seven bytes or fewer, at least
-- one; the entry has the bytes, and no other entry was changed
pub record IsComplete (k : Constants) (before : Inputs) (key : Key) (bytes : List ℕ) (mode : Mode) (state : ClientState) : Type 0 where
  pub done : state ≡ Done
  pub requests : sent_of (download_of k key bytes mode) before ≡ requests_needed (length bytes)
  pub entry : contents_of k (last_ends (download_of k key bytes mode) before).inputs ≡ written (contents_of k before) key bytes

-- each such download of at most 65,535 bytes has this result
abbrev pub PermittedComplete : Type 0
PermittedComplete =
    (k : Constants) (node : Node) (before : Inputs) (key : Key) (bytes : List ℕ) (mode : Mode)
    → Stands k node before → IsPermitted k before key bytes mode → length bytes ≤ 65535
    → IsComplete k before key bytes mode (state_at (download_of k key bytes mode) (last_ends (download_of k key bytes mode) before))
