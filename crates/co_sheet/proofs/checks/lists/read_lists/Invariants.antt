use Rattle.std.proofs.Common.{◌≡◌, ◌++◌, None, drop, map}
use Rattle.std.specs.List.{flat_map}
use Rattle.co_sheet_text.specs.Views.{section_view}
use Rattle.co_sheet.specs.private.Findings.{sooner, soonest}
use Rattle.co_sheet.specs.private.ListReadings.{listing_view, list_finding, named_by}
use Rattle.co_sheet.proofs.checks.lists.read_lists.Given as goal

-- what is found first so far or in the rest is found first in all; where nothing is found, what is named so far and
-- what the rest names is all
abbrev pub invariant-loop-section : goal.invariant-loop-section
invariant-loop-section l = record {
  found : sooner l.first (soonest list_finding (map section_view (drop l.section-index l.sections))) ≡ soonest list_finding (map section_view l.sections);
  named : l.first ≡ None → map listing_view l.named.items ++ flat_map named_by (map section_view (drop l.section-index l.sections)) ≡ map listing_view l.initial.named.items ++ flat_map named_by (map section_view l.sections);
}
