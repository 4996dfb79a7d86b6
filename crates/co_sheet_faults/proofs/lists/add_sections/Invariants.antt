use Rattle.std.proofs.Common.{◌≡◌, ◌++◌, ◌||◌, drop, map}
use Rattle.std.specs.List.{flat_map, list_any}
use Rattle.co_sheet_text.specs.Views.{section_view}
use Rattle.co_sheet.specs.Listings.{listing_view, named_by}
use Rattle.co_sheet_faults.specs.private.Collected.{section_collected}
use Rattle.co_sheet_faults.specs.private.ListParts.{is_list_at_fault}
use Rattle.co_sheet_faults.proofs.lists.add_sections.Given as goal

-- those so far, and after them those of the rest
abbrev pub invariant-loop-section : goal.invariant-loop-section
invariant-loop-section l = record {
  found : l.faults.items ++ flat_map section_collected (map section_view (drop l.section-index l.sections))
      ≡ l.initial.faults.items ++ flat_map section_collected (map section_view l.sections);
  named : map listing_view l.named.items ++ flat_map named_by (map section_view (drop l.section-index l.sections))
      ≡ map listing_view l.initial.named.items ++ flat_map named_by (map section_view l.sections);
  bad : (l.is_bad || list_any is_list_at_fault (map section_view (drop l.section-index l.sections)))
      ≡ list_any is_list_at_fault (map section_view l.sections);
}
