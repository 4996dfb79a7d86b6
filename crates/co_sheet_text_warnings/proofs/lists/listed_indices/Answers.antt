use Rattle.std.proofs.Common.{◌≡◌, ℕ, List, IfOk, nat_eq, map, refl, sym, ap, ◌∙◌, subst}
use Rattle.std.specs.List.{flat_map}
use Rattle.indexmap.specs.IndexSet.{contains}
use Rattle.co_sheet_text.specs.Views.{section_view}
use Rattle.co_sheet.specs.ObjectLists.{Listing}
use Rattle.co_sheet.specs.Listings.{listing_view, named_by}
use Rattle.co_sheet.proofs.ListingLemmas.{named-all}
use Rattle.co_sheet_text_warnings.specs.private.Views.{names}
use Rattle.co_sheet_text_warnings.proofs.PieceLemmas.{pieces-end, pieces-turn}
use Rattle.co_sheet_text_warnings.proofs.lists.listed_indices.Goals as goal

pub loop-section-preserved : goal.loop-section-preserved
loop-section-preserved c =
    pieces-turn (λ sections. flat_map named_by (map section_view sections)) (λ section. named_by (section_view section)) (λ section sections. refl) c.args.sections.now c.loop-section.section-index _
    (map listing_view c.loop-section.all.items) (map listing_view c.add_named.new.listings.items) _ c.loop-section-test.true c.in-Ok.ensures.named c.loop-section.invariant

pub returns : goal.returns
returns c =
    let found : map listing_view c.loop-section.all.items ≡ flat_map named_by (map section_view c.args.sections.now) =
    pieces-end (λ sections. flat_map named_by (map section_view sections)) refl c.args.sections.now c.loop-section.section-index _ _ c.loop-section-test.false c.loop-section.invariant in
    let all = ap (map listing_view) c.as_slice.ensures.value ∙ found ∙ sym (named-all (map section_view c.args.sections.now)) in
    subst (λ (ls : List Listing). IfOk c.indices_of.result (λ indices. (i : ℕ) → contains nat_eq indices i ≡ names i ls)) all c.indices_of.ensures
