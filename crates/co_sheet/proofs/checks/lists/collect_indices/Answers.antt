use Rattle.std.proofs.Common.{◌≡◌, Bool, true, false, not, refl, sym, ◌∙◌, map, inr}
use Rattle.co_sheet.specs.declared.checks.lists.Listing.{Listing}
use Rattle.co_sheet.specs.private.ListReadings.{listing_view}
use Rattle.co_sheet.proofs.TwiceLemmas.{twice-turn, twice-here, twice-end, listed-turn, listed-end, twice-least}
use Rattle.co_sheet.proofs.checks.lists.collect_indices.Goals as goal

unlike : (a b : Bool) → a ≡ not b → a ≡ true → b ≡ false
unlike a true h k = absurd (cc)
unlike a false h k = refl

alike : (a b : Bool) → a ≡ not b → a ≡ false → b ≡ true
alike a true h k = refl
alike a false h k = absurd (cc)

pub loop-listing-preserved : goal.loop-listing-preserved
loop-listing-preserved c =
    let items = c.args.listings.now in
    let at = c.loop-listing.listing-index in
    let first : Listing = record { index = 0; line = 0 } in
    let seen = c.loop-listing.indices.keys in
    let fresh = unlike c.in_ok-is_new.is_new _ c.in_ok-is_new.ensures.added c.if-not-is_new.false in
    record {
      found = twice-turn items at first seen c.insert.new.self.keys _ c.loop-listing-test.true fresh c.in_ok-is_new.ensures.keys c.loop-listing.invariant.found;
      listed = λ i. listed-turn items at first seen c.insert.new.self.keys i _ c.loop-listing-test.true fresh c.in_ok-is_new.ensures.keys (c.loop-listing.invariant.listed i);
    }

pub returns-then-not-is_new-clause-err : goal.returns-then-not-is_new-clause-err
returns-then-not-is_new-clause-err c =
    let again = alike c.in_ok-is_new.is_new _ c.in_ok-is_new.ensures.added c.if-not-is_new.true in
    inr
    (sym (twice-least (map listing_view c.args.listings.now) c.requires.rise)
    ∙ twice-here c.args.listings.now c.loop-listing.listing-index (record { index = 0; line = 0 }) c.loop-listing.indices.keys _ c.loop-listing-test.true again c.loop-listing.invariant.found)

pub returns-clause-none : goal.returns-clause-none
returns-clause-none c =
    sym (twice-least (map listing_view c.args.listings.now) c.requires.rise)
    ∙ twice-end c.args.listings.now c.loop-listing.listing-index c.loop-listing.indices.keys _ c.loop-listing-test.false c.loop-listing.invariant.found

pub returns-clause-listed : goal.returns-clause-listed
returns-clause-listed c = λ i. listed-end c.args.listings.now c.loop-listing.listing-index c.loop-listing.indices.keys i _ c.loop-listing-test.false (c.loop-listing.invariant.listed i)
