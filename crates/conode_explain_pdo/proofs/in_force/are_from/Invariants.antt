use Rattle.std.proofs.Common.{◌≡◌, drop}
use Rattle.std.specs.List.{list_all}
use Rattle.conode_explain_cob_ids.specs.Origins.{is_from}
use Rattle.conode_explain_pdo.proofs.in_force.are_from.Given as goal

-- all of those so far are
abbrev pub invariant-loop-value : goal.invariant-loop-value
invariant-loop-value l = list_all (is_from l.origin) (drop l.value-index l.values) ≡ list_all (is_from l.origin) l.values
