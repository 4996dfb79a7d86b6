use Rattle.std.proofs.Common.{◌≡◌, drop}
use Rattle.std.specs.List.{list_any}
use Rattle.conode_explain_filter.specs.Conditions.{holds}
use Rattle.conode_explain_filter.proofs.filter.any_holds.Given as goal

-- it is none of those so far
abbrev pub invariant-loop-condition : goal.invariant-loop-condition
invariant-loop-condition l =
    list_any (holds l.subject l.times) (drop l.condition-index l.conditions) ≡ list_any (holds l.subject l.times) l.conditions
