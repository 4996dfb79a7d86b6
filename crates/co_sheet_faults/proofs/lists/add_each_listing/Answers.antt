use Rattle.std.proofs.Common.{◌∙◌, ◌++◌, ◌||◌, not, sym, ap, get_or}
use Rattle.std.specs.List.{flat_map, list_any}
use Rattle.co_sheet.specs.declared.checks.lists.Listing.{Listing}
use Rattle.co_sheet.specs.Listings.{listing_view}
use Rattle.co_sheet_faults.specs.private.Collected.{listing_collected}
use Rattle.co_sheet_faults.specs.private.ListParts.{is_listing_at_fault}
use Rattle.co_sheet_faults.proofs.ListCodeLemmas.{named-before, added-end, added-turn, any-turn, any-end, seen-turn}
use Rattle.co_sheet_faults.proofs.lists.add_each_listing.Goals as goal

abbrev none_named : Listing
none_named = record { index = 0; line = 0 }

pub add_listing-requires : goal.add_listing-requires
add_listing-requires c =
    let items = c.args.named.now in
    let i = c.loop-listing.listing-index in
    c.in-Ok.ensures.added
    ∙ ap not (c.loop-listing.invariant.seen (get_or items i none_named).index
    ∙ sym (named-before c.args.tables.now items i none_named c.requires.named c.requires.parsed c.loop-listing-test.true))

pub is_listing_bad-is_bad-requires : goal.is_listing_bad-is_bad-requires
is_listing_bad-is_bad-requires c =
    let items = c.args.named.now in
    let i = c.loop-listing.listing-index in
    c.in-Ok.ensures.added
    ∙ ap not (c.loop-listing.invariant.seen (get_or items i none_named).index
    ∙ sym (named-before c.args.tables.now items i none_named c.requires.named c.requires.parsed c.loop-listing-test.true))

pub loop-listing-preserved : goal.loop-listing-preserved
loop-listing-preserved c =
    let items = c.args.named.now in
    let i = c.loop-listing.listing-index in
    let sections = c.args.tables.now in
    record {
      found = added-turn listing_view (listing_collected sections) items i none_named _ _ _ c.loop-listing-test.true c.in-Ok-add_listing.ensures c.loop-listing.invariant.found;
      bad = any-turn listing_view (is_listing_at_fault sections) items i none_named c.loop-listing.is_bad _ _ c.loop-listing-test.true (ap (λ b. c.loop-listing.is_bad || b) c.is_listing_bad-is_bad.ensures) c.loop-listing.invariant.bad;
      seen = seen-turn items i none_named c.loop-listing.seen.keys c.insert.new.self.keys c.loop-listing-test.true c.in-Ok.ensures.keys c.loop-listing.invariant.seen;
    }

pub returns-clause-bad : goal.returns-clause-bad
returns-clause-bad c =
    any-end listing_view (is_listing_at_fault c.args.tables.now) c.args.named.now c.loop-listing.listing-index c.loop-listing.is_bad _ c.loop-listing-test.false c.loop-listing.invariant.bad
    ∙ ap (list_any (is_listing_at_fault c.args.tables.now)) c.requires.named

pub returns-clause-found : goal.returns-clause-found
returns-clause-found c =
    added-end listing_view (listing_collected c.args.tables.now) c.args.named.now c.loop-listing.listing-index _ _ c.loop-listing-test.false c.loop-listing.invariant.found
    ∙ ap (λ ls. c.args.faults.now.items ++ flat_map (listing_collected c.args.tables.now) ls) c.requires.named
