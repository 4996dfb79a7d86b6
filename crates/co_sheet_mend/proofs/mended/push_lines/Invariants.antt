use Rattle.std.proofs.Common.{◌≡◌, ◌++◌, None, false, length, map}
use Rattle.co_sheet_changes.specs.Views.{line_view}
use Rattle.co_sheet_mend.specs.Repairs.{mended_lines}
use Rattle.co_sheet_mend.specs.ReadableTexts.{repair_in}
use Rattle.co_sheet_mend.proofs.mended.push_lines.Given as goal

-- those so far, and after them the rest
abbrev pub invariant-loop-rest : goal.invariant-loop-rest
invariant-loop-rest l =
    l.made.items ++ mended_lines (repair_in l.repairs) l.counted l.key (map line_view l.rest)
    ≡ l.fn.made.items ++ mended_lines (repair_in l.repairs) false None (map line_view l.lines)

abbrev pub decreases-loop-rest : goal.decreases-loop-rest
decreases-loop-rest l = length l.rest
