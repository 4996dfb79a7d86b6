use Rattle.std.proofs.Common.{◌≡◌, drop, map}
use Rattle.std.specs.List.{list_any}
use Rattle.co_sheet_changes.specs.Views.{line_view}
use Rattle.co_sheet_adapt.specs.CompactPdo.{lists_line}
use Rattle.co_sheet_adapt.proofs.compact_pdo.has_line.Given as goal

-- what the rest has is what all have
abbrev pub invariant-loop-line : goal.invariant-loop-line
invariant-loop-line l = list_any (lists_line l.count l.index) (map line_view (drop l.line-index l.lines)) ≡ list_any (lists_line l.count l.index) (map line_view l.lines)
