use Rattle.std.proofs.Common.{◌≡◌, ◌++◌, drop, map}
use Rattle.std.specs.List.{flat_map}
use Rattle.co_sheet_text.specs.Views.{section_view}
use Rattle.co_sheet_text_warnings.specs.Places.{warnings_at}
use Rattle.co_sheet_text_warnings.specs.Views.{list_places}
use Rattle.co_sheet_text_warnings.proofs.lists.add_places_of_lists.Given as goal

-- those so far, and after them those of the rest
abbrev pub invariant-loop-section : goal.invariant-loop-section
invariant-loop-section l = l.warnings.items ++ warnings_at l.kind (flat_map (list_places l.check) (map section_view (drop l.section-index l.sections))) ≡ l.initial.warnings.items ++ warnings_at l.kind (flat_map (list_places l.check) (map section_view l.sections))
