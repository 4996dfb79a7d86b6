use Rattle.std.proofs.Common.{◌≡◌, ℕ, ◌+◌, ◌<◌, List, [], ◌∷◌, ◌++◌, Option, Some, None, refl, sym, ap, ◌∙◌, length, get_or, drop, map, inr}
use Rattle.std.specs.Prelude.{option_map}
use Rattle.co_sheet_rows.specs.declared.entry.EntryRow.{EntryRow}
use Rattle.co_sheet.specs.declared.checks.findings.Finding.{Finding}
use Rattle.co_sheet.specs.declared.tables.EntrySection.{EntrySection}
use Rattle.co_sheet.specs.Content.{Row, row_of}
use Rattle.co_sheet.specs.private.Findings.{sooner}
use Rattle.co_sheet.specs.private.EntryReadings.{entry_finding, entry_rows}
use Rattle.co_sheet.specs.SectionViews.{entry_view}
use Rattle.co_sheet.specs.SheetViews.{row_view}
use Rattle.co_sheet.proofs.ListLemmas.{pieces-turn, pieces-end, map-push}
use Rattle.co_sheet.proofs.FindingLemmas.{sooner-none, soonest-turn, soonest-end}
use Rattle.co_sheet.proofs.checks.entries.read_entries.Goals as goal
use Rattle.co_sheet.proofs.checks.entries.read_entries.Goals.{in-Ok+in_ok-push-in-Ok, in-Err}

-- one entry more, with its row
row-turn : (items : List EntrySection) (i : ℕ) (d : EntrySection) (rows more : List EntryRow) (row : EntryRow) (all : List (Option Row)) → i < length items → more ≡ rows ++ row ∷ [] → row_of (entry_view (get_or items i d)) ≡ Some (row_view row)
    → entry_rows rows ++ map row_of (map entry_view (drop i items)) ≡ all → entry_rows more ++ map row_of (map entry_view (drop (i + 1) items)) ≡ all
row-turn items i d rows more row all inside is of invariant =
    pieces-turn (λ l. map row_of (map entry_view l)) (λ x. row_of (entry_view x) ∷ []) (λ x l. refl) items i d (entry_rows rows) (entry_rows more) all inside
    (ap entry_rows is ∙ map-push (λ r. Some (row_view r)) rows row ∙ ap (λ o. entry_rows rows ++ o ∷ []) (sym of)) invariant

-- no finding, where there was none before and none is added
none-more : (first : Option Finding) (f : Finding) → sooner first (Some f) ≡ None → ⊥
none-more None f h = cc
none-more (Some g) f h = cc

pub loop-entry-preserved : goal.loop-entry-preserved
loop-entry-preserved c =
    let items = c.args.entries.now in
    let i = c.loop-entry.entry-index in
    let first = c.loop-entry.first in
    record {
      found = elim c.match-read.branch [
        | in-Ok+in_ok-push-in-Ok w ↦
            soonest-turn entry_view entry_finding items i _ first c.match-read.first c.loop-entry-test.true
            (w.first-is ∙ sym (sooner-none first) ∙ ap (sooner first) w.in-Ok.ensures.finding) c.loop-entry.invariant.found
        | in-Err w ↦
            soonest-turn entry_view entry_finding items i _ first c.match-read.first c.loop-entry-test.true
            (w.first-is ∙ w.sooner-first.ensures ∙ ap (sooner first) w.in-Err.ensures.finding) c.loop-entry.invariant.found
      ];
      rows = elim c.match-read.branch [
        | in-Ok+in_ok-push-in-Ok w ↦ λ none.
            row-turn items i _ c.loop-entry.rows.items c.match-read.rows.items w.in-Ok.row _ c.loop-entry-test.true
            (ap (λ v. v.items) w.rows-is ∙ w.in_ok-push-in-Ok.ensures.items) w.in-Ok.ensures.row (c.loop-entry.invariant.rows (sym w.first-is ∙ none))
        | in-Err w ↦ λ none. absurd (none-more first w.in-Err.found (sym w.sooner-first.ensures ∙ sym w.first-is ∙ none))
      ];
    }

pub returns-in-Some-clause-err : goal.returns-in-Some-clause-err
returns-in-Some-clause-err c =
    let first = soonest-end entry_view entry_finding c.args.entries.now c.loop-entry.entry-index c.loop-entry.first c.loop-entry-test.false c.loop-entry.invariant.found in
    inr (ap (option_map (λ (f : Finding). f.fault)) (sym first ∙ c.in-Some.is))

pub returns-in-None-clause-none : goal.returns-in-None-clause-none
returns-in-None-clause-none c =
    let first = soonest-end entry_view entry_finding c.args.entries.now c.loop-entry.entry-index c.loop-entry.first c.loop-entry-test.false c.loop-entry.invariant.found in
    ap (option_map (λ (f : Finding). f.fault)) (sym first ∙ c.in-None.is)

pub returns-in-None-clause-rows : goal.returns-in-None-clause-rows
returns-in-None-clause-rows c =
    pieces-end (λ l. map row_of (map entry_view l)) refl c.args.entries.now c.loop-entry.entry-index (entry_rows c.loop-entry.rows.items) _ c.loop-entry-test.false (c.loop-entry.invariant.rows c.in-None.is)
