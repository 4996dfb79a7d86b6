use Rattle.std.proofs.Common.{◌≡◌, ◌++◌, drop, map}
use Rattle.std.specs.List.{filter_map}
use Rattle.co_sheet.specs.Listings.{listing_view}
use Rattle.co_sheet_text_warnings.specs.Lists.{wrong_listing}
use Rattle.co_sheet_text_warnings.specs.Places.{warnings_at}
use Rattle.co_sheet_text_warnings.proofs.lists.add_wrong_listings.Given as goal

-- those so far, and after them those of the rest
abbrev pub invariant-loop-listing : goal.invariant-loop-listing
invariant-loop-listing l = l.warnings.items ++ warnings_at l.kind (filter_map (wrong_listing l.list) (map listing_view (drop l.listing-index l.listings))) ≡ l.initial.warnings.items ++ warnings_at l.kind (filter_map (wrong_listing l.list) (map listing_view l.listings))
