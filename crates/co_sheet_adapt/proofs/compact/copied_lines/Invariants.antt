use Rattle.std.proofs.Common.{◌≡◌, map, take}
use Rattle.std.specs.List.{flat_map}
use Rattle.co_sheet_adapt.specs.Compact.{copied_line}
use Rattle.co_sheet_changes.specs.Views.{line_view}
use Rattle.co_sheet_adapt.proofs.compact.copied_lines.Given as goal

-- those so far
abbrev pub invariant-loop-line : goal.invariant-loop-line
invariant-loop-line l = l.text.items ≡ flat_map (copied_line l.facts) (map line_view (take l.line-index l.line-items))
