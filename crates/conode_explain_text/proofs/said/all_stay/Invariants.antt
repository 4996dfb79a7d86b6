use Rattle.std.proofs.Common.{◌≡◌, length}
use Rattle.conode_explain_text.specs.Said.{all_stay}
use Rattle.conode_explain_text.proofs.said.all_stay.Given as goal

abbrev pub invariant-loop-rest : goal.invariant-loop-rest
invariant-loop-rest l = all_stay l.rest ≡ all_stay l.fn.said

abbrev pub decreases-loop-rest : goal.decreases-loop-rest
decreases-loop-rest l = length l.rest
