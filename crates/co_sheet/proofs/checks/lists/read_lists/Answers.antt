use Rattle.std.proofs.Common.{◌++◌, sym, ap, ◌∙◌, map, inr}
use Rattle.std.specs.Prelude.{is_none, not, option_map}
use Rattle.co_sheet.specs.declared.checks.findings.Finding.{Finding}
use Rattle.co_sheet_text.specs.Views.{section_view}
use Rattle.co_sheet.specs.private.Findings.{sooner}
use Rattle.co_sheet.specs.private.ListReadings.{listing_view, list_finding, named_by}
use Rattle.co_sheet.proofs.FindingLemmas.{soonest-turn, soonest-end, sooner-neither}
use Rattle.co_sheet.proofs.ListLemmas.{flat-turn, flat-end}
use Rattle.co_sheet.proofs.ListingLemmas.{named-all}
use Rattle.co_sheet.proofs.ListReadingLemmas.{none-view, lists-found, none-mandatory}
use Rattle.co_sheet.proofs.checks.lists.read_lists.Goals as goal

pub loop-section-preserved : goal.loop-section-preserved
loop-section-preserved c =
    let items = c.args.sections.now in
    let i = c.loop-section.section-index in
    let first = c.loop-section.first in
    record {
      found = soonest-turn section_view list_finding items i _ first c.sooner-first.result c.loop-section-test.true
          (c.sooner-first.ensures ∙ ap (sooner first) c.in_ok-read_section.ensures.finding) c.loop-section.invariant.found;
      named = λ none.
          let both = sooner-neither first c.in_ok-read_section.field-0 (sym c.sooner-first.ensures ∙ none) in
          flat-turn section_view named_by items i _ (map listing_view c.loop-section.named.items) (map listing_view c.read_section.new.listings.items) _ c.loop-section-test.true
          (c.in_ok-read_section.ensures.named both.1) (c.loop-section.invariant.named both.0);
    }

pub returns-then-is_none-clause-err : goal.returns-then-is_none-clause-err
returns-then-is_none-clause-err c =
    inr (none-mandatory (map section_view c.args.sections.now) (sym (ap is_none c.section_at.ensures) ∙ none-view section_view c.section_at.result ∙ ap not c.if-is_none.ensures))

pub returns-in-Some-clause-err : goal.returns-in-Some-clause-err
returns-in-Some-clause-err c =
    let there = sym (ap is_none c.section_at.ensures) ∙ none-view section_view c.section_at.result ∙ ap not c.if-is_none.ensures in
    let first = soonest-end section_view list_finding c.args.sections.now c.loop-section.section-index c.loop-section.first c.loop-section-test.false c.loop-section.invariant.found in
    inr (lists-found (map section_view c.args.sections.now) there ∙ ap (option_map (λ (f : Finding). f.fault)) (sym first ∙ c.in-Some.is))

pub returns-in-None-clause-none : goal.returns-in-None-clause-none
returns-in-None-clause-none c =
    let there = sym (ap is_none c.section_at.ensures) ∙ none-view section_view c.section_at.result ∙ ap not c.if-is_none.ensures in
    let first = soonest-end section_view list_finding c.args.sections.now c.loop-section.section-index c.loop-section.first c.loop-section-test.false c.loop-section.invariant.found in
    lists-found (map section_view c.args.sections.now) there ∙ ap (option_map (λ (f : Finding). f.fault)) (sym first ∙ c.in-None.is)

pub returns-in-None-clause-listings : goal.returns-in-None-clause-listings
returns-in-None-clause-listings c =
    flat-end section_view named_by c.args.sections.now c.loop-section.section-index (map listing_view c.loop-section.named.items) _ c.loop-section-test.false (c.loop-section.invariant.named c.in-None.is)
    ∙ ap (λ ns. map listing_view c.args.named.now.items ++ ns) (sym (named-all (map section_view c.args.sections.now)))
