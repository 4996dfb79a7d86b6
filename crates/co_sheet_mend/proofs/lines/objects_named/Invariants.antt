use Rattle.std.proofs.Common.{◌≡◌, ◌++◌, drop, map}
use Rattle.std.specs.List.{filter_map}
use Rattle.co_sheet_changes.specs.Views.{line_view}
use Rattle.co_sheet_mend.specs.Repairs.{place_value}
use Rattle.co_sheet_mend.proofs.lines.objects_named.Given as goal

-- the objects so far, and after them those of the rest
abbrev pub invariant-loop-line : goal.invariant-loop-line
invariant-loop-line l =
    map (λ value. value.now) l.values.items ++ filter_map place_value (map line_view (drop l.line-index l.line-items))
    ≡ filter_map place_value (map line_view l.line-items)
