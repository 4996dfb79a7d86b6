use Rattle.std.proofs.Common.{◌≡◌, map, take}
use Rattle.conode_lint.specs.Allowed.{kept, passes_by}
use Rattle.conode_lint.proofs.allowed.add_kept.Given as goal

abbrev pub invariant-loop-mark : goal.invariant-loop-mark
invariant-loop-mark l =
    l.left.items ≡ kept (passes_by (map (λ one. one.now) l.given) (map (λ one. one.now) l.in_sheet)) (take l.mark-index l.marks)
