use Rattle.std.proofs.Common.{◌≡◌, ◌++◌, map, take}
use Rattle.std.specs.List.{flat_map}
use Rattle.conode_lint_marks.specs.Doubts.{kinds_again}
use Rattle.conode_lint_marks.proofs.doubts.add_kinds_again.Given as goal

abbrev pub invariant-loop-fault : goal.invariant-loop-fault
invariant-loop-fault l =
    l.kinds.items ≡ l.fn.kinds.items ++ flat_map (kinds_again (map (λ line. line.now) l.lines)) (take l.fault-index l.faults)
