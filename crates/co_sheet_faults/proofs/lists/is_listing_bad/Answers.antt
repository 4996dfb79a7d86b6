use Rattle.std.proofs.Common.{◌≡◌, ◌||◌, ◌∙◌, ap, is_none, not, rules}
use Rattle.co_sheet.specs.Listings.{listing_view}
use Rattle.co_sheet_faults.proofs.ListingLemmas.{bad-listing}
use Rattle.co_sheet_faults.proofs.lists.is_listing_bad.Goals as goal

pub returns : goal.returns
returns c =
    let none : c.is_none.result ≡ is_none c.object-object.result = search rules in
    ap (λ b. not c.args.is_first || b) none ∙ bad-listing c.args.tables.now (listing_view c.args.listing.now) c.args.is_first c.object-object.result c.requires c.object-object.ensures
