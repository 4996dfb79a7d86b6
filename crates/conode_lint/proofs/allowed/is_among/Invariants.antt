use Rattle.std.proofs.Common.{◌≡◌, map, drop}
use Rattle.conode_lint.specs.Allowed.{is_among}
use Rattle.conode_lint.proofs.allowed.is_among.Given as goal

-- what the rest gives is what all give
abbrev pub invariant-loop-one : goal.invariant-loop-one
invariant-loop-one l =
    is_among l.name (map (λ one. one.now) (drop l.one-index l.names)) ≡ is_among l.name (map (λ one. one.now) l.names)
