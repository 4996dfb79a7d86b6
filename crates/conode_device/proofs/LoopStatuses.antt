-- When the status is 0.
use Rattle.std.proofs.Common.{◌≡◌, ℕ, List, Option, Some, Result, Ok, Err, IsSomeAnd, sym, subst, ◌∙◌}
use Rattle.std.specs.Prelude.{IfOk, OnOk}
use Rattle.std.specs.List.{flat_map}
use Rattle.std.specs.Io.KnownBytes.{Keeps}
use Rattle.std.proofs.KnownBytes.{Appends-kept}
use Rattle.co_value.specs.declared.key.Key.{Key}
use Rattle.co_sdo_client.specs.declared.mode.Mode.{Mode}
use Rattle.co_sdo_client.specs.declared.state.ClientState.{ClientState}
use Rattle.co_sdo_client.specs.declared.state.ClientState.TheVariants.{Done}
use Rattle.co_node_model.specs.Inputs.{Inputs}
use Rattle.co_node_model.specs.Moments.{Constants}
use Rattle.co_node_model.specs.Loop.{download_of, last_ends, state_at}
use Rattle.conode_io.specs.declared.fault.CmdFault.{CmdFault}
use Rattle.conode_io.specs.Written.{WritesLines}
use Rattle.conode_device.specs.Printed.{loop_lines}
use Rattle.conode_device.specs.Standing.{EndsDone}

-- the client is done, and all that was written has gone out
pub ends_done : (k : Constants) (before : Inputs) (key : Key) (bytes : List ℕ) (mode : Mode) (old mid new : Option (List ℕ)) (outcome : Result ClientState CmdFault) → outcome ≡ Ok Done
    → IfOk outcome (λ state. state ≡ state_at (download_of k key bytes mode) (last_ends (download_of k key bytes mode) before)) → OnOk outcome (WritesLines old mid (loop_lines (download_of k key bytes mode) before))
    → Keeps mid new → EndsDone k before key bytes mode old new
ends_done k before key bytes mode old mid new (Ok state) is at written kept = record {
  done = let done : state ≡ Done = cc in sym at ∙ done;
  written = Appends-kept old mid new (flat_map (λ (line : List ℕ). line) (loop_lines (download_of k key bytes mode) before)) written kept;
}
ends_done k before key bytes mode old mid new (Err fault) is at written kept = cc

-- what holds of two words, once they are read
pub of_words : {A B : Type 0} (P : A → B → Type 0) (first : Option A) (second : Option B) (x : A) (y : B) → first ≡ Some x → second ≡ Some y
    → P x y → IsSomeAnd first (λ u. IsSomeAnd second (P u))
of_words {A = A} {B = B} P first second x y one two holds =
    subst (λ (a : Option A). IsSomeAnd a (λ u. IsSomeAnd second (P u))) (sym one)
    (subst (λ (b : Option B). IsSomeAnd b (P x)) (sym two) holds)
