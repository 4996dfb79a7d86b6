use Rattle.std.proofs.Common.{◌≡◌, ◌++◌, None, drop, map}
use Rattle.std.specs.List.{flat_map}
use Rattle.co_sheet.specs.SectionViews.{entry_view}
use Rattle.co_sheet.specs.private.Findings.{sooner, soonest}
use Rattle.co_sheet.specs.private.ListReadings.{listing_view}
use Rattle.co_sheet.specs.private.ObjectReadings.{listing_finding, rows_so_far, row_at, entries_at}
use Rattle.co_sheet.proofs.checks.objects.read_objects.Given as goal

-- what is found first so far or in the rest is found first in all; where nothing is found, the rows and the entries so
-- far and those of the rest are all
abbrev pub invariant-loop-listing : goal.invariant-loop-listing
invariant-loop-listing l = record {
  found : sooner l.first (soonest (listing_finding l.tables) (map listing_view (drop l.listing-index l.named))) ≡ sooner l.initial.first (soonest (listing_finding l.tables) (map listing_view l.named));
  rows : l.first ≡ None → rows_so_far l.objects.items ++ map (row_at l.tables) (map listing_view (drop l.listing-index l.named)) ≡ rows_so_far l.initial.objects.items ++ map (row_at l.tables) (map listing_view l.named);
  entries : l.first ≡ None → map entry_view l.entries.items ++ flat_map (entries_at l.tables) (map listing_view (drop l.listing-index l.named)) ≡ map entry_view l.initial.entries.items ++ flat_map (entries_at l.tables) (map listing_view l.named);
}
