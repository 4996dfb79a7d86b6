use Rattle.std.proofs.Common.{◌≡◌, ◌++◌, drop, map}
use Rattle.std.specs.List.{flat_map}
use Rattle.co_sheet_text.specs.Views.{property_view}
use Rattle.co_sheet.specs.Checks.{unread_number}
use Rattle.co_sheet_faults.proofs.lists.add_unread_numbers.Given as goal

-- those so far, and after them those of the rest
abbrev pub invariant-loop-given : goal.invariant-loop-given
invariant-loop-given l =
    l.faults.items ++ flat_map unread_number (map property_view (drop l.given-index l.properties))
    ≡ l.initial.faults.items ++ flat_map unread_number (map property_view l.properties)
