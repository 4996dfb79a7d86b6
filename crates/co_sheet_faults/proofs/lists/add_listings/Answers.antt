use Rattle.std.proofs.Common.{◌≡◌, ◌∙◌, ◌++◌, List, ap, subst, sym, OnOk, IfOk}
use Rattle.std.specs.List.{flat_map, list_any}
use Rattle.co_sheet_text.specs.Sections.{TextSection}
use Rattle.co_sheet_text.specs.SectionLaws.{IsParsed}
use Rattle.co_sheet.specs.ObjectLists.{listings}
use Rattle.co_sheet_faults.specs.private.Collected.{listing_collected}
use Rattle.co_sheet_faults.specs.private.ListParts.{is_listing_at_fault}
use Rattle.co_sheet_faults.proofs.lists.add_listings.Goals as goal

pub add_each_listing-requires-clause-named : goal.add_each_listing-requires-clause-named
add_each_listing-requires-clause-named c = c.requires.named ∙ ap listings (sym c.in-Ok.ensures)

pub add_each_listing-requires-clause-parsed : goal.add_each_listing-requires-clause-parsed
add_each_listing-requires-clause-parsed c = subst IsParsed (sym c.in-Ok.ensures) c.requires.parsed

pub returns-clause-found : goal.returns-clause-found
returns-clause-found c =
    subst (λ (ss : List TextSection). OnOk c.add_each_listing.result (c.add_each_listing.new.faults.items ≡ c.args.faults.now.items ++ flat_map (listing_collected ss) (listings ss)))
    c.in-Ok.ensures c.add_each_listing.ensures.found

pub returns-clause-bad : goal.returns-clause-bad
returns-clause-bad c =
    subst (λ (ss : List TextSection). IfOk c.add_each_listing.result (λ bad. bad ≡ list_any (is_listing_at_fault ss) (listings ss)))
    c.in-Ok.ensures c.add_each_listing.ensures.bad
