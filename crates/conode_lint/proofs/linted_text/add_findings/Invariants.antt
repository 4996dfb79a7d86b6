use Rattle.std.proofs.Common.{◌≡◌, map, take}
use Rattle.co_sheet_text.specs.Views.{section_view}
use Rattle.conode_lint.specs.Found.{finding_of, seen}
use Rattle.conode_lint.proofs.linted_text.add_findings.Given as goal

abbrev pub invariant-loop-mark : goal.invariant-loop-mark
invariant-loop-mark l = map seen l.findings.items ≡ map (finding_of (map (λ line. line.now) l.lines) (map section_view l.sections) l.node) (take l.mark-index l.marks)
