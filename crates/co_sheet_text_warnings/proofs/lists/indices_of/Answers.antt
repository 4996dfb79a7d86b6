use Rattle.co_sheet_text_warnings.proofs.IndexLemmas.{indices-end, indices-turn, none_named}
use Rattle.co_sheet_text_warnings.proofs.lists.indices_of.Goals as goal

pub loop-listing-preserved : goal.loop-listing-preserved
loop-listing-preserved c = λ i.
    indices-turn c.args.listings.now c.loop-listing.listing-index none_named c.loop-listing.indices.keys c.insert.new.self.keys i _ c.loop-listing-test.true c.in-Ok.ensures.keys (c.loop-listing.invariant i)

pub returns : goal.returns
returns c = λ i.
    indices-end c.args.listings.now c.loop-listing.listing-index c.loop-listing.indices.keys i _ c.loop-listing-test.false (c.loop-listing.invariant i)
