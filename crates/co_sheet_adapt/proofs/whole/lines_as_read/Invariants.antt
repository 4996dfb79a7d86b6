use Rattle.std.proofs.Common.{◌≡◌, ◌++◌, drop, map}
use Rattle.co_sheet_changes.specs.Views.{line_view}
use Rattle.co_sheet_adapt.specs.Expanded.{as_read}
use Rattle.co_sheet_adapt.proofs.whole.lines_as_read.Given as goal

-- those so far, and after them those of the rest
abbrev pub invariant-loop-line : goal.invariant-loop-line
invariant-loop-line l = map line_view l.made.items ++ map as_read (map line_view (drop l.line-index l.lines)) ≡ map as_read (map line_view l.lines)
