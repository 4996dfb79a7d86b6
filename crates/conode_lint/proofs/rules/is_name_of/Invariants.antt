use Rattle.std.proofs.Common.{◌≡◌, drop}
use Rattle.conode_lint.specs.Rules.{is_name_of}
use Rattle.conode_lint.proofs.rules.is_name_of.Given as goal

-- what the rest gives is what all give
abbrev pub invariant-loop-subject : goal.invariant-loop-subject
invariant-loop-subject l = is_name_of (drop l.subject-index l.subjects) l.name ≡ is_name_of l.subjects l.name
