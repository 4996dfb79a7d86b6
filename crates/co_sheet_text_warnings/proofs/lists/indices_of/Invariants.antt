use Rattle.std.proofs.Common.{◌≡◌, ℕ, ◌||◌, nat_eq, drop, map}
use Rattle.indexmap.specs.IndexSet.{contains}
use Rattle.co_sheet.specs.Listings.{listing_view}
use Rattle.co_sheet_text_warnings.specs.private.Views.{names}
use Rattle.co_sheet_text_warnings.proofs.lists.indices_of.Given as goal

-- an index is there so far, or the rest names it
abbrev pub invariant-loop-listing : goal.invariant-loop-listing
invariant-loop-listing l = (i : ℕ) → (contains nat_eq l.indices i || names i (map listing_view (drop l.listing-index l.listings))) ≡ names i (map listing_view l.listings)
