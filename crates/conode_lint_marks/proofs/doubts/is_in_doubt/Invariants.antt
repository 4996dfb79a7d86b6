use Rattle.std.proofs.Common.{◌≡◌, map, drop}
use Rattle.co_sheet_text.specs.Views.{section_view}
use Rattle.conode_lint_marks.specs.Doubts.{is_in_doubt}
use Rattle.conode_lint_marks.proofs.doubts.is_in_doubt.Given as goal

-- what the rest gives is what all give
abbrev pub invariant-loop-fault : goal.invariant-loop-fault
invariant-loop-fault l = is_in_doubt (map (λ line. line.now) l.lines) (section_view l.section) (drop l.fault-index l.faults) ≡ is_in_doubt (map (λ line. line.now) l.lines) (section_view l.section) l.faults
