use Rattle.std.proofs.Common.{◌≡◌, map, drop}
use Rattle.conode_lint.specs.Formats.{has_line}
use Rattle.conode_lint.proofs.other_format.has_line.Given as goal

-- what the rest gives is what all give
abbrev pub invariant-loop-line : goal.invariant-loop-line
invariant-loop-line l =
    has_line (map (λ line. line.now) (drop l.line-index l.lines)) l.word ≡ has_line (map (λ line. line.now) l.lines) l.word
