use Rattle.std.proofs.Common.{◌≡◌, map, drop}
use Rattle.conode_lint.specs.Formats.{has_other_end}
use Rattle.conode_lint.proofs.other_format.has_other_end.Given as goal

-- what the rest gives is what all give
abbrev pub invariant-loop-line : goal.invariant-loop-line
invariant-loop-line l =
    has_other_end (map (λ line. line.now) (drop l.line-index l.lines)) ≡ has_other_end (map (λ line. line.now) l.lines)
