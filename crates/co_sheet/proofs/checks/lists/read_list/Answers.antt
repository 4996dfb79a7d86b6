use Rattle.std.proofs.Common.{◌≡◌, ◌++◌, OnOk, sym, map, subst}
use Rattle.co_sheet_text.specs.Views.{section_view}
use Rattle.co_sheet.specs.private.ListReadings.{listing_view}
use Rattle.co_sheet.proofs.ListingLemmas.{named-in}
use Rattle.co_sheet.proofs.checks.lists.read_list.Goals as goal

pub returns-in-Some-clause-named : goal.returns-in-Some-clause-named
returns-in-Some-clause-named c =
    subst (λ ls. OnOk c.add_listings.result (map listing_view c.add_listings.new.listings.items ≡ map listing_view c.args.listings.now.items ++ ls))
    (sym (named-in (section_view c.args.section.now) c.in-Some.count (sym c.in-Some.ensures))) c.add_listings.ensures.named
