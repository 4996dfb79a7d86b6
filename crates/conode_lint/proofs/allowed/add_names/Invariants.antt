use Rattle.std.proofs.Common.{◌≡◌, map, take}
use Rattle.conode_lint.specs.Allowed.{names_in}
use Rattle.conode_lint.proofs.allowed.add_names.Given as goal

abbrev pub invariant-loop-line : goal.invariant-loop-line
invariant-loop-line l = map (λ name. name.now) l.names.items ≡ names_in (map (λ line. line.now) (take l.line-index l.lines))
