use Rattle.std.proofs.lemmas.List.{drop_all}
use Rattle.co_sheet_text_warnings.proofs.lists.first_fall.Goals as goal

pub returns : goal.returns
returns c = rw (drop_all c.loop-listing.listing-index c.args.listings.now c.loop-listing-test.false) at c.loop-listing.invariant
