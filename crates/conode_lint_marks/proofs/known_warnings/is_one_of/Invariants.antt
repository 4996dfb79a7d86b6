use Rattle.std.proofs.Common.{◌≡◌, drop}
use Rattle.conode_lint_marks.specs.KnownWarnings.{is_one_of}
use Rattle.conode_lint_marks.proofs.known_warnings.is_one_of.Given as goal

-- what the rest gives is what all give
abbrev pub invariant-loop-own : goal.invariant-loop-own
invariant-loop-own l = is_one_of (drop l.own-index l.lines) l.line ≡ is_one_of l.lines l.line
