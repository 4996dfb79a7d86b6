use Rattle.std.proofs.Common.{◌∙◌, ◌++◌, ap, sym, map}
use Rattle.std.specs.List.{flat_map}
use Rattle.co_sheet_text.specs.Views.{section_view}
use Rattle.co_sheet.specs.Listings.{listing_view, named_by}
use Rattle.co_sheet.proofs.ListingLemmas.{named-all}
use Rattle.co_sheet_faults.proofs.EntryCodeLemmas.{on-ok}
use Rattle.co_sheet_faults.proofs.ListCodeLemmas.{collected-all}
use Rattle.co_sheet_faults.proofs.collect.collect.Goals as goal

pub add_after_lists-requires-clause-named : goal.add_after_lists-requires-clause-named
add_after_lists-requires-clause-named c =
    let sections = map section_view c.args.sections.now in
    ap (map listing_view) c.as_slice-named.ensures.value
    ∙ c.in-Ok-add_sections.ensures.named
    ∙ ap (λ l. map listing_view l ++ flat_map named_by sections) c.new-named.ensures.items
    ∙ sym (named-all sections)

pub returns : goal.returns
returns c =
    let sections = map section_view c.args.sections.now in
    let named = ap (map listing_view) c.as_slice-named.ensures.value
    ∙ c.in-Ok-add_sections.ensures.named
    ∙ ap (λ l. map listing_view l ++ flat_map named_by sections) c.new-named.ensures.items
    ∙ sym (named-all sections) in
    on-ok c.add_after_lists.result
    (λ last. collected-all sections c.as_slice-named.result.now c.args.faults.now.items c.add_if.new.faults.items
    c.add_sections.new.faults.items c.add_after_lists.new.faults.items c.has_mandatory_list-has_lists.result c.in-Ok-add_sections.value
    c.has_mandatory_list-has_lists.ensures c.in-Ok-add_sections.ensures.bad named
    c.in-Ok.ensures c.in-Ok-add_sections.ensures.found last) c.add_after_lists.ensures
