use Rattle.std.proofs.Common.{◌≡◌, drop, map}
use Rattle.std.specs.List.{list_any}
use Rattle.co_sheet_changes.specs.Views.{line_view}
use Rattle.co_sheet_mend.specs.Repairs.{begins_list}
use Rattle.co_sheet_mend.proofs.lines.has_list.Given as goal

-- what the rest has is what all have
abbrev pub invariant-loop-line : goal.invariant-loop-line
invariant-loop-line l = list_any begins_list (map line_view (drop l.line-index l.lines)) ≡ list_any begins_list (map line_view l.lines)
