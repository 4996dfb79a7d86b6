use Rattle.std.proofs.Common.{◌≡◌, ◌++◌, drop, map}
use Rattle.std.specs.List.{flat_map}
use Rattle.co_sheet.specs.SectionViews.{entry_view}
use Rattle.co_sheet_faults.specs.private.Collected.{part_collected}
use Rattle.co_sheet_faults.proofs.objects.add_each_part.Given as goal

-- those so far, and after them those of the rest
abbrev pub invariant-loop-part : goal.invariant-loop-part
invariant-loop-part l =
    l.faults.items ++ flat_map (part_collected l.is_entry) (map entry_view (drop l.part-index l.parts))
    ≡ l.initial.faults.items ++ flat_map (part_collected l.is_entry) (map entry_view l.parts)
