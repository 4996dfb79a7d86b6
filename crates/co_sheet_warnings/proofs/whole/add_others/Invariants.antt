use Rattle.std.proofs.Common.{◌≡◌, ◌++◌, drop, map}
use Rattle.std.specs.List.{flat_map}
use Rattle.co_sheet_text.specs.Views.{section_view}
use Rattle.co_sheet_warnings.specs.Warnings.{places_in}
use Rattle.co_sheet_text_warnings.specs.Places.{warnings_at}
use Rattle.co_sheet_warnings.proofs.whole.add_others.Given as goal

-- those so far, and after them those of the rest
abbrev pub invariant-loop-section : goal.invariant-loop-section
invariant-loop-section l = l.warnings.items ++ warnings_at l.kind (flat_map (places_in l.text l.kind) (map section_view (drop l.section-index l.section-items))) ≡ l.initial.warnings.items ++ warnings_at l.kind (flat_map (places_in l.text l.kind) (map section_view l.section-items))
