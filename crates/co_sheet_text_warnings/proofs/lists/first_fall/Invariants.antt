use Rattle.std.proofs.Common.{◌≡◌, drop, map}
use Rattle.co_sheet.specs.Listings.{listing_view}
use Rattle.co_sheet_text_warnings.specs.Lists.{first_fall}
use Rattle.co_sheet_text_warnings.proofs.lists.first_fall.Given as goal

-- what the rest has after the last is what all have
abbrev pub invariant-loop-listing : goal.invariant-loop-listing
invariant-loop-listing l = first_fall l.last (map listing_view (drop l.listing-index l.listings)) ≡ first_fall 0 (map listing_view l.listings)
