use Rattle.std.proofs.Common.{◌++◌, ◌∙◌, sym, ap}
use Rattle.co_sheet.specs.Listings.{listing_view}
use Rattle.co_sheet_faults.proofs.EntryCodeLemmas.{on-ok}
use Rattle.co_sheet_faults.proofs.ListingLemmas.{alike, listed-again, of-object, unlike}
use Rattle.co_sheet_faults.proofs.lists.add_listing.Goals as goal

pub returns-then-not-is_first : goal.returns-then-not-is_first
returns-then-not-is_first c =
    let l = listing_view c.args.listing.now in
    let few = c.if-listing-gt65535.false in
    on-ok c.add_if.result (λ pushed. pushed ∙ ap (λ fs. c.args.faults.now.items ++ fs) (sym (listed-again c.args.tables.now l few (unlike _ _ c.requires c.if-not-is_first.true)))) c.add_if.ensures

pub returns-in-Some : goal.returns-in-Some
returns-in-Some c =
    let l = listing_view c.args.listing.now in
    let few = c.if-listing-gt65535.false in
    on-ok c.add_object.result
    (λ pushed. pushed ∙ ap (λ fs. c.args.faults.now.items ++ fs) (sym (of-object c.args.tables.now l _ few (alike _ _ c.requires c.if-not-is_first.false) c.in-Some.ensures))) c.add_object.ensures

pub returns-in-None : goal.returns-in-None
returns-in-None c =
    let l = listing_view c.args.listing.now in
    let few = c.if-listing-gt65535.false in
    on-ok c.add_if-in-None.result
    (λ pushed. pushed ∙ ap (λ fs. c.args.faults.now.items ++ fs) (sym (of-object c.args.tables.now l _ few (alike _ _ c.requires c.if-not-is_first.false) c.in-None.ensures))) c.add_if-in-None.ensures
