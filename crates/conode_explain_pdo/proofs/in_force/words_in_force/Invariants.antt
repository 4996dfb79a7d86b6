use Rattle.std.proofs.Common.{◌≡◌, Some, length}
use Rattle.std.specs.Option.{option_copied}
use Rattle.conode_explain_pdo.specs.InForce.{words_in_force}
use Rattle.conode_explain_pdo.proofs.in_force.words_in_force.Given as goal

abbrev pub invariant-loop-place : goal.invariant-loop-place
invariant-loop-place l =
    (Some l.words.items ≡ words_in_force l.values (option_copied l.sheet) l.place) × (length l.words.items ≡ l.place)
