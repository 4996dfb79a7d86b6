use Rattle.std.proofs.Common.{◌∷◌, ◌++◌, [], refl, sym, ap, ◌∙◌, map, inr}
use Rattle.std.specs.Prelude.{option_map, flat_map}
use Rattle.co_sheet.specs.declared.checks.findings.Finding.{Finding}
use Rattle.co_sheet.specs.declared.checks.lists.Listing.{Listing}
use Rattle.co_sheet.specs.SectionViews.{entry_view}
use Rattle.co_sheet.specs.Accepted.{least_fault}
use Rattle.co_sheet.specs.private.Findings.{found_by, sooner}
use Rattle.co_sheet.specs.private.ListReadings.{listing_view}
use Rattle.co_sheet.specs.private.ObjectReadings.{listing_finding, rows_so_far, row_at, entries_at, compact_pdo}
use Rattle.co_sheet.proofs.FindingLemmas.{soonest-turn, soonest-end, sooner-neither}
use Rattle.co_sheet.proofs.ListLemmas.{pieces-turn, flat-turn, flat-end}
use Rattle.co_sheet.proofs.ObjectReadingLemmas.{objects-answer, entries-over}
use Rattle.co_sheet.proofs.checks.objects.read_objects.Goals as goal

pub loop-listing-preserved : goal.loop-listing-preserved
loop-listing-preserved c =
    let tables = c.args.tables.now in
    let items = c.args.named.now in
    let i = c.loop-listing.listing-index in
    let d : Listing = record { index = 0; line = 0 } in
    let first = c.loop-listing.first in
    record {
      found = soonest-turn listing_view (listing_finding tables) items i d first c.sooner-first.result c.loop-listing-test.true
          (c.sooner-first.ensures ∙ ap (sooner first) c.in_ok-take.ensures.finding) c.loop-listing.invariant.found;
      rows = λ none.
          let both = sooner-neither first c.in_ok-take.field-0 (sym c.sooner-first.ensures ∙ none) in
          pieces-turn (λ l. map (row_at tables) (map listing_view l)) (λ x. row_at tables (listing_view x) ∷ []) (λ x l. refl) items i d (rows_so_far c.loop-listing.objects.items) (rows_so_far c.take.new.objects.items) _ c.loop-listing-test.true
          (c.in_ok-take.ensures.objects both.1) (c.loop-listing.invariant.rows both.0);
      entries = λ none.
          let both = sooner-neither first c.in_ok-take.field-0 (sym c.sooner-first.ensures ∙ none) in
          flat-turn listing_view (entries_at tables) items i d (map entry_view c.loop-listing.entries.items) (map entry_view c.take.new.entries.items) _ c.loop-listing-test.true
          (c.in_ok-take.ensures.entries both.1) (c.loop-listing.invariant.entries both.0);
    }

pub returns-in-Some-clause-err : goal.returns-in-Some-clause-err
returns-in-Some-clause-err c =
    let first = soonest-end listing_view (listing_finding c.args.tables.now) c.args.named.now c.loop-listing.listing-index c.loop-listing.first c.loop-listing-test.false c.loop-listing.invariant.found in
    inr
    (objects-answer c.args.tables.now (map listing_view c.args.named.now) c.compact_pdo-first.result c.loop-listing.first c.requires
    (c.compact_pdo-first.ensures ∙ ap (λ s. option_map (found_by 8) (least_fault (compact_pdo s))) c.sections.ensures) first
    ∙ ap (option_map (λ (f : Finding). f.fault)) c.in-Some.is)

pub returns-in-None-clause-none : goal.returns-in-None-clause-none
returns-in-None-clause-none c =
    let first = soonest-end listing_view (listing_finding c.args.tables.now) c.args.named.now c.loop-listing.listing-index c.loop-listing.first c.loop-listing-test.false c.loop-listing.invariant.found in
    objects-answer c.args.tables.now (map listing_view c.args.named.now) c.compact_pdo-first.result c.loop-listing.first c.requires
    (c.compact_pdo-first.ensures ∙ ap (λ s. option_map (found_by 8) (least_fault (compact_pdo s))) c.sections.ensures) first
    ∙ ap (option_map (λ (f : Finding). f.fault)) c.in-None.is

pub returns-in-None-clause-entries : goal.returns-in-None-clause-entries
returns-in-None-clause-entries c =
    flat-end listing_view (entries_at c.args.tables.now) c.args.named.now c.loop-listing.listing-index (map entry_view c.loop-listing.entries.items) _ c.loop-listing-test.false (c.loop-listing.invariant.entries c.in-None.is)
    ∙ ap (λ ls. map entry_view c.args.entries.now.items ++ flat_map (entries_at c.args.tables.now) ls) c.requires
    ∙ ap (λ es. map entry_view c.args.entries.now.items ++ es) (entries-over c.args.tables.now)
