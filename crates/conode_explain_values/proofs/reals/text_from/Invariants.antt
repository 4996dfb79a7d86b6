use Rattle.std.proofs.Common.{◌≡◌, ◌≤◌}
use Rattle.conode_explain_values.specs.Reals.{format_of, text_from}
use Rattle.conode_explain_values.proofs.reals.text_from.Given as goal

-- what the rest gives is what all give
abbrev pub invariant-loop-left : goal.invariant-loop-left
invariant-loop-left l = record {
  found : text_from (format_of l.real) l.bits l.number l.left ≡ text_from (format_of l.real) l.bits l.number l.places;
  few : l.left ≤ 39;
}

abbrev pub decreases-loop-left : goal.decreases-loop-left
decreases-loop-left l = l.left
