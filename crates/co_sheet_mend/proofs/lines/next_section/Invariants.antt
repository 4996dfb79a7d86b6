use Rattle.std.proofs.Common.{◌≡◌, drop, map}
use Rattle.co_sheet_changes.specs.Views.{line_view}
use Rattle.co_sheet_mend.specs.Repairs.{next_section}
use Rattle.co_sheet_mend.proofs.lines.next_section.Given as goal

-- the next section is that of the rest
abbrev pub invariant-loop-line : goal.invariant-loop-line
invariant-loop-line l = next_section (map line_view (drop l.line-index l.lines)) ≡ next_section (map line_view l.lines)
