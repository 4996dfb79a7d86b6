use Rattle.std.proofs.Common.{◌≡◌, ℕ, ◌++◌, ◌||◌, drop, take, map, eqb}
use Rattle.std.specs.List.{flat_map, list_any}
use Rattle.co_sheet.specs.Listings.{listing_view}
use Rattle.co_sheet_faults.specs.private.Collected.{listing_collected}
use Rattle.co_sheet_faults.specs.private.ListParts.{is_listing_at_fault}
use Rattle.co_sheet_faults.proofs.lists.add_each_listing.Given as goal

-- those so far, and after them those of the rest; the indices of the lines so far
abbrev pub invariant-loop-listing : goal.invariant-loop-listing
invariant-loop-listing l = record {
  found : l.faults.items ++ flat_map (listing_collected l.tables) (map listing_view (drop l.listing-index l.named))
      ≡ l.initial.faults.items ++ flat_map (listing_collected l.tables) (map listing_view l.named);
  bad : (l.is_bad || list_any (is_listing_at_fault l.tables) (map listing_view (drop l.listing-index l.named)))
      ≡ list_any (is_listing_at_fault l.tables) (map listing_view l.named);
  seen : (i : ℕ) → list_any (eqb i) l.seen.keys
      ≡ list_any (eqb i) (map (λ o. o.index) (take l.listing-index l.named));
}
