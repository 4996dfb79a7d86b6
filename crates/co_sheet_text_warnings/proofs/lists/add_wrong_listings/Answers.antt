use Rattle.std.proofs.Common.{ap, map, refl}
use Rattle.std.specs.Prelude.{filter_map, option_to_list}
use Rattle.co_sheet.specs.Listings.{listing_view}
use Rattle.co_sheet_text_warnings.specs.Lists.{wrong_listing}
use Rattle.co_sheet_text_warnings.specs.Places.{warnings_at}
use Rattle.co_sheet_text_warnings.proofs.PieceLemmas.{marked-turn, piece-first, pieces-end}
use Rattle.co_sheet_text_warnings.proofs.lists.add_wrong_listings.Goals as goal

pub loop-listing-preserved : goal.loop-listing-preserved
loop-listing-preserved c =
    let wrong = wrong_listing c.args.list in
    marked-turn c.args.kind (λ listings. filter_map wrong (map listing_view listings)) (λ listing. option_to_list (wrong (listing_view listing))) (λ listing listings. piece-first wrong (listing_view listing) (map listing_view listings))
    c.args.listings.now c.loop-listing.listing-index _ c.loop-listing.warnings.items c.add_one.new.warnings.items _ c.loop-listing-test.true (c.in-Ok.ensures _ (ap option_to_list c.wrong_listing.ensures)) c.loop-listing.invariant

pub returns : goal.returns
returns c =
    pieces-end (λ listings. warnings_at c.args.kind (filter_map (wrong_listing c.args.list) (map listing_view listings))) refl c.args.listings.now c.loop-listing.listing-index _ _ c.loop-listing-test.false c.loop-listing.invariant
