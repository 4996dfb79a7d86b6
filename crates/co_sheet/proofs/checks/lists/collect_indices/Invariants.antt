use Rattle.std.proofs.Common.{◌≡◌, ℕ, ◌||◌, [], drop, map, eqb}
use Rattle.std.specs.List.{list_any}
use Rattle.co_sheet.specs.private.ListReadings.{listing_view, is_listed_at}
use Rattle.co_sheet.proofs.TwiceLemmas.{first_twice}
use Rattle.co_sheet.proofs.checks.lists.collect_indices.Given as goal

-- what the rest names again is what all name again; an index is listed so far, or by the rest
abbrev pub invariant-loop-listing : goal.invariant-loop-listing
invariant-loop-listing l = record {
  found : first_twice l.indices.keys (map listing_view (drop l.listing-index l.listings)) ≡ first_twice [] (map listing_view l.listings);
  listed : (i : ℕ) → (list_any (eqb i) l.indices.keys || is_listed_at i (map listing_view (drop l.listing-index l.listings))) ≡ is_listed_at i (map listing_view l.listings);
}
