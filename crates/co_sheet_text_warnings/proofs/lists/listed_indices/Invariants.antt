use Rattle.std.proofs.Common.{◌≡◌, ◌++◌, drop, map}
use Rattle.std.specs.List.{flat_map}
use Rattle.co_sheet_text.specs.Views.{section_view}
use Rattle.co_sheet.specs.Listings.{listing_view, named_by}
use Rattle.co_sheet_text_warnings.proofs.lists.listed_indices.Given as goal

-- those so far, and after them those of the rest
abbrev pub invariant-loop-section : goal.invariant-loop-section
invariant-loop-section l = map listing_view l.all.items ++ flat_map named_by (map section_view (drop l.section-index l.sections)) ≡ flat_map named_by (map section_view l.sections)
