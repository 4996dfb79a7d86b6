-- SYNC and EMCY don't use the identifiers of the default SDO channel of a node: these are
-- restricted (CiA 301, 7.3.5), and the dictionary refuses them.
use Rattle.std.specs.Prelude.{◌==◌, ◌&&◌, ℕ, Bool, ◌≡◌, ◌+◌, false, ◌≤◌}
use Rattle.co_dict.specs.CobIds.{identifier_of, is_valid}
use Rattle.co_dict.specs.Rows.{Contents, number_at}
use Rattle.co_profile.specs.Keys.{emergency_key}
use Rattle.co_node_model.specs.Sync.{is_sync_id}
use Rattle.co_node_model.specs.Moments.{Constants}

-- emergencies are sent on this identifier
abbrev pub is_emergency_id : Contents → ℕ → Bool
is_emergency_id contents id = is_valid (number_at contents emergency_key) && identifier_of (number_at contents emergency_key) == id

-- SYNC hasn't the identifier of the default channel's requests, and EMCY not that of its responses
pub record AreApart (node : ℕ) (contents : Contents) : Type 0 where
  pub sync : is_sync_id contents (0x600 + node) ≡ false
  pub emergency : is_emergency_id contents (0x580 + node) ≡ false

-- a device with node-ID 1 to 127 for which this holds when it is built, and for the values that a
-- reset restores
pub record BeginsApart (k : Constants) : Type 0 where
  pub first_node : 1 ≤ k.description.node
  pub last_node : k.description.node ≤ 127
  pub start : AreApart k.description.node k.start
  pub initial : AreApart k.description.node k.description.initial
