use Rattle.std.proofs.Common.{◌≡◌, ◌++◌, length, map}
use Rattle.co_sheet_changes.specs.Views.{line_view}
use Rattle.co_sheet_mend.specs.Repairs.{mandatory_lines}
use Rattle.co_sheet_mend.proofs.mended.push_mandatory_lines.Given as goal

-- those so far, and after them the rest
abbrev pub invariant-loop-rest : goal.invariant-loop-rest
invariant-loop-rest l =
    l.made.items ++ mandatory_lines (map line_view l.rest) ≡ l.fn.made.items ++ mandatory_lines (map line_view l.lines)

abbrev pub decreases-loop-rest : goal.decreases-loop-rest
decreases-loop-rest l = length l.rest
