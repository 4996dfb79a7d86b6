use Rattle.std.proofs.Common.{◌≡◌, map, take}
use Rattle.conode_lint.specs.Rules.{rule_of, seen_rule}
use Rattle.conode_lint.proofs.rules.add_rules_of.Given as goal

abbrev pub invariant-loop-subject : goal.invariant-loop-subject
invariant-loop-subject l = map seen_rule l.rules.items ≡ map rule_of (take l.subject-index l.subjects)
