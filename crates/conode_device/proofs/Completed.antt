-- A loop whose client stands as after the rounds has completed its download, where they complete it.
use Rattle.std.proofs.Common.{◌≡◌, ℕ, List, sym, subst}
use Rattle.std.specs.Prelude.{IfOk, Result, Ok, Err}
use Rattle.co_value.specs.declared.key.Key.{Key}
use Rattle.co_sdo_client.specs.declared.mode.Mode.{Mode}
use Rattle.co_sdo_client.specs.declared.state.ClientState.{ClientState}
use Rattle.co_node_model.specs.Inputs.{Inputs}
use Rattle.co_node_model.specs.Loop.{download_of, last_ends, state_at}
use Rattle.co_node_model.specs.Moments.{Constants}
use Rattle.co_node.specs.Served.{IsComplete}

pub is_complete : {E : Type 0} (r : Result ClientState E) (k : Constants) (before : Inputs) (key : Key) (bytes : List ℕ) (mode : Mode)
    → IfOk r (λ state. state ≡ state_at (download_of k key bytes mode) (last_ends (download_of k key bytes mode) before))
    → IsComplete k before key bytes mode (state_at (download_of k key bytes mode) (last_ends (download_of k key bytes mode) before)) → IfOk r (IsComplete k before key bytes mode)
is_complete (Ok state) k before key bytes mode is complete = subst (IsComplete k before key bytes mode) (sym is) complete
is_complete (Err fault) k before key bytes mode is complete = tt
