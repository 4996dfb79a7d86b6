use Rattle.std.proofs.Common.{◌≡◌, ◌++◌, length}
use Rattle.conode_explain_text.specs.Said.{shown, shown_after}
use Rattle.conode_explain_text.proofs.said.add_each.Given as goal

abbrev pub invariant-loop-rest : goal.invariant-loop-rest
invariant-loop-rest l = l.line.items ++ shown_after l.skip l.rest ≡ l.fn.line.items ++ shown l.fn.said

abbrev pub decreases-loop-rest : goal.decreases-loop-rest
decreases-loop-rest l = length l.rest
