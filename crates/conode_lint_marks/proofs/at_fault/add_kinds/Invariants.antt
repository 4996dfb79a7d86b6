use Rattle.std.proofs.Common.{◌≡◌, ◌++◌, length, map}
use Rattle.co_sheet_text.specs.Views.{section_view}
use Rattle.conode_lint_marks.specs.AtFault.{kinds_at}
use Rattle.conode_lint_marks.specs.Doubts.{doubts_at}
use Rattle.conode_lint_marks.proofs.at_fault.add_kinds.Given as goal

-- those so far, and after them those of the rest
abbrev pub invariant-loop-rest : goal.invariant-loop-rest
invariant-loop-rest l =
    (l.found.kinds.items ++ kinds_at l.left (map section_view l.rest) ≡ l.fn.found.kinds.items ++ kinds_at l.faults (map section_view l.sections))
    × (l.found.doubts.items ++ doubts_at (map (λ line. line.now) l.lines) l.left (map section_view l.rest)
    ≡ l.fn.found.doubts.items ++ doubts_at (map (λ line. line.now) l.lines) l.faults (map section_view l.sections))

abbrev pub decreases-loop-rest : goal.decreases-loop-rest
decreases-loop-rest l = length l.rest
