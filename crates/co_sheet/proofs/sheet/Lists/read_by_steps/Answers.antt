use Rattle.std.proofs.Common.{◌≡◌, ℕ, Bool, Option, Some, None, Result, Ok, Err, ◌++◌, ap, sym, ◌∙◌, subst, map, inr, refl, rules}
use Rattle.std.specs.Prelude.{IfErr}
use Rattle.std.specs.Result.{result_err}
use Rattle.co_sheet_text.specs.Views.{section_view}
use Rattle.co_sheet_rows.specs.declared.fault.SheetFault.{SheetFault}
use Rattle.co_sheet.specs.ObjectLists.{is_listed, listings}
use Rattle.co_sheet.specs.Entries.{entries_of}
use Rattle.co_sheet.specs.Checks.{checks}
use Rattle.co_sheet.specs.Content.{row_of, objects_in_order, rows_in_order, section_names_in}
use Rattle.co_sheet.specs.Notes.{notes_of}
use Rattle.co_sheet.specs.Accepted.{least_fault, first_found, IsAnswered}
use Rattle.co_sheet.specs.SectionViews.{entry_view}
use Rattle.co_sheet.specs.SheetViews.{row_view, section_name_view}
use Rattle.co_sheet.specs.private.EntryReadings.{HaveRows, entry_rows, first_in}
use Rattle.co_sheet.specs.private.ListReadings.{listing_view, is_listed_at, own_checks, twice_in, LinesRise, unlisted_mandatory}
use Rattle.co_sheet.specs.private.ObjectReadings.{HaveObjects, rows_so_far, row_at}
use Rattle.co_sheet.proofs.AcceptedLemmas.{rows-read, keys-read}
use Rattle.co_sheet.proofs.FirstLemmas.{of_lists, of_twice, of_objects, of_entries, of_mandatory}
use Rattle.co_sheet.proofs.KeyLemmas.{listings-rise}
use Rattle.co_sheet.proofs.ObjectReadingLemmas.{objects-read}
use Rattle.co_sheet.proofs.sheet.Lists.read_by_steps.Goals as goal

-- a step's fault, handed on
handed : {X : Type 0} (r : Result X SheetFault) (first : Option SheetFault) (fault : SheetFault) → result_err r ≡ Some fault → IsAnswered first fault → IfErr r (IsAnswered first)
handed (Ok x) first fault is h = tt
handed (Err e) first fault is h = let same : fault ≡ e = cc in subst (IsAnswered first) same h

-- the mandatory objects, by what is listed
same_listed : (f g : ℕ → Bool) → ((i : ℕ) → f i ≡ g i) → unlisted_mandatory f ≡ unlisted_mandatory g
same_listed f g same = rw (same 0x1000, same 0x1001, same 0x1018) refl

pub collect_indices-requires-clause-rise : goal.collect_indices-requires-clause-rise
collect_indices-requires-clause-rise c =
    let tables = c.args.tables.now in
    let named = ap (map listing_view) c.as_slice-listings.ensures.value ∙ c.in_ok-read_lists.ensures.listings ∙ ap (λ ns. map listing_view ns ++ listings (map section_view c.sections-sections.result.now)) c.requires.named ∙ ap listings c.sections-sections.ensures in
    subst LinesRise (sym named) (listings-rise tables c.requires.parsed)

pub read_objects-requires : goal.read_objects-requires
read_objects-requires c =
    ap (map listing_view) c.as_slice-listings.ensures.value ∙ c.in_ok-read_lists.ensures.listings ∙ ap (λ ns. map listing_view ns ++ listings (map section_view c.sections-sections.result.now)) c.requires.named ∙ ap listings c.sections-sections.ensures

pub add_notes-requires : goal.add_notes-requires
add_notes-requires c = λ i.
    let named = ap (map listing_view) c.as_slice-listings.ensures.value ∙ c.in_ok-read_lists.ensures.listings ∙ ap (λ ns. map listing_view ns ++ listings (map section_view c.sections-sections.result.now)) c.requires.named ∙ ap listings c.sections-sections.ensures in
    c.in_ok-collect_indices.ensures.listed i ∙ ap (is_listed_at i) named

pub returns-in_err-read_lists-clause-err : goal.returns-in_err-read_lists-clause-err
returns-in_err-read_lists-clause-err c =
    let tables = c.args.tables.now in
    let fault = c.in_err-read_lists.field-0.0 in
    let failed : result_err c.from_residual.result ≡ Some fault = search rules in
    handed c.from_residual.result (first_found checks tables) fault failed
    (of_lists tables fault (subst (λ ss. IsAnswered (first_found own_checks ss) fault) c.sections-sections.ensures c.in_err-read_lists.ensures.err))

pub returns-in_err-collect_indices-clause-err : goal.returns-in_err-collect_indices-clause-err
returns-in_err-collect_indices-clause-err c =
    let tables = c.args.tables.now in
    let named = ap (map listing_view) c.as_slice-listings.ensures.value ∙ c.in_ok-read_lists.ensures.listings ∙ ap (λ ns. map listing_view ns ++ listings (map section_view c.sections-sections.result.now)) c.requires.named ∙ ap listings c.sections-sections.ensures in
    let fault = c.in_err-collect_indices.field-0.0 in
    let failed : result_err c.from_residual-in_err-collect_indices.result ≡ Some fault = search rules in
    handed c.from_residual-in_err-collect_indices.result (first_found checks tables) fault failed
    (of_twice tables fault (subst (λ ss. first_found own_checks ss ≡ None) c.sections-sections.ensures c.in_ok-read_lists.ensures.none)
    (subst (λ ls. IsAnswered (least_fault (twice_in ls)) fault) named c.in_err-collect_indices.ensures.err))

pub returns-in_err-read_objects-clause-err : goal.returns-in_err-read_objects-clause-err
returns-in_err-read_objects-clause-err c =
    let tables = c.args.tables.now in
    let named = ap (map listing_view) c.as_slice-listings.ensures.value ∙ c.in_ok-read_lists.ensures.listings ∙ ap (λ ns. map listing_view ns ++ listings (map section_view c.sections-sections.result.now)) c.requires.named ∙ ap listings c.sections-sections.ensures in
    let fault = c.in_err-read_objects.field-0.0 in
    let failed : result_err c.from_residual-in_err-read_objects.result ≡ Some fault = search rules in
    handed c.from_residual-in_err-read_objects.result (first_found checks tables) fault failed
    (of_objects tables fault (subst (λ ss. first_found own_checks ss ≡ None) c.sections-sections.ensures c.in_ok-read_lists.ensures.none)
    (subst (λ ls. least_fault (twice_in ls) ≡ None) named c.in_ok-collect_indices.ensures.none) c.in_err-read_objects.ensures.err)

pub returns-in_err-read_entries-clause-err : goal.returns-in_err-read_entries-clause-err
returns-in_err-read_entries-clause-err c =
    let tables = c.args.tables.now in
    let named = ap (map listing_view) c.as_slice-listings.ensures.value ∙ c.in_ok-read_lists.ensures.listings ∙ ap (λ ns. map listing_view ns ++ listings (map section_view c.sections-sections.result.now)) c.requires.named ∙ ap listings c.sections-sections.ensures in
    let entries = ap (map entry_view) c.as_slice.ensures.value ∙ c.in_ok-read_objects.ensures.entries ∙ ap (λ es. map entry_view es ++ entries_of tables) c.requires.entries in
    let fault = c.in_err-read_entries.field-0.0 in
    let failed : result_err c.from_residual-in_err-read_entries.result ≡ Some fault = search rules in
    handed c.from_residual-in_err-read_entries.result (first_found checks tables) fault failed
    (of_entries tables fault (subst (λ ss. first_found own_checks ss ≡ None) c.sections-sections.ensures c.in_ok-read_lists.ensures.none)
    (subst (λ ls. least_fault (twice_in ls) ≡ None) named c.in_ok-collect_indices.ensures.none) c.in_ok-read_objects.ensures.none
    (subst (λ es. IsAnswered (first_in es) fault) entries c.in_err-read_entries.ensures.err))

pub returns-in-Some-clause-err : goal.returns-in-Some-clause-err
returns-in-Some-clause-err c =
    let tables = c.args.tables.now in
    let named = ap (map listing_view) c.as_slice-listings.ensures.value ∙ c.in_ok-read_lists.ensures.listings ∙ ap (λ ns. map listing_view ns ++ listings (map section_view c.sections-sections.result.now)) c.requires.named ∙ ap listings c.sections-sections.ensures in
    let entries = ap (map entry_view) c.as_slice.ensures.value ∙ c.in_ok-read_objects.ensures.entries ∙ ap (λ es. map entry_view es ++ entries_of tables) c.requires.entries in
    inr
    (of_mandatory tables (subst (λ ss. first_found own_checks ss ≡ None) c.sections-sections.ensures c.in_ok-read_lists.ensures.none)
    (subst (λ ls. least_fault (twice_in ls) ≡ None) named c.in_ok-collect_indices.ensures.none)
    c.in_ok-read_objects.ensures.none (subst (λ es. first_in es ≡ None) entries c.in_ok-read_entries.ensures.none)
    ∙ sym (ap least_fault (same_listed _ (is_listed tables) (λ i. c.in_ok-collect_indices.ensures.listed i ∙ ap (is_listed_at i) named)))
    ∙ sym c.missing_mandatory.ensures ∙ c.in-Some.is)

pub returns-clause-read : goal.returns-clause-read
returns-clause-read c =
    let tables = c.args.tables.now in
    let named = ap (map listing_view) c.as_slice-listings.ensures.value ∙ c.in_ok-read_lists.ensures.listings ∙ ap (λ ns. map listing_view ns ++ listings (map section_view c.sections-sections.result.now)) c.requires.named ∙ ap listings c.sections-sections.ensures in
    let entries = ap (map entry_view) c.as_slice.ensures.value ∙ c.in_ok-read_objects.ensures.entries ∙ ap (λ es. map entry_view es ++ entries_of tables) c.requires.entries in
    let rows = c.read_entries.new.rows.items in
    let rows_are : HaveRows (entries_of tables) rows =
    sym (c.in_ok-read_entries.ensures.rows ∙ ap (λ es. entry_rows es ++ map row_of (map entry_view c.as_slice.result.now)) c.requires.new.entries ∙ ap (map row_of) entries) in
    let objects = c.read_objects.new.objects.items in
    let objects_are : HaveObjects tables objects =
    sym (c.in_ok-read_objects.ensures.objects ∙ ap (λ os. rows_so_far os ++ map (row_at tables) (listings tables)) c.requires.new.objects) in
    record {
      accepted = of_mandatory tables (subst (λ ss. first_found own_checks ss ≡ None) c.sections-sections.ensures c.in_ok-read_lists.ensures.none)
          (subst (λ ls. least_fault (twice_in ls) ≡ None) named c.in_ok-collect_indices.ensures.none)
          c.in_ok-read_objects.ensures.none (subst (λ es. first_in es ≡ None) entries c.in_ok-read_entries.ensures.none)
          ∙ sym (ap least_fault (same_listed _ (is_listed tables) (λ i. c.in_ok-collect_indices.ensures.listed i ∙ ap (is_listed_at i) named)))
          ∙ sym c.missing_mandatory.ensures ∙ c.in_default.is;
      kept = keys-read row_view (entries_of tables) rows rows_are;
      objects = c.in_ok-sort_objects.ensures ∙ ap objects_in_order (sym (objects-read tables objects objects_are));
      rows = c.in_ok-sort_rows.ensures ∙ ap rows_in_order (sym (rows-read row_view (entries_of tables) rows rows_are));
      names = c.in_ok-add_section_names.ensures ∙ ap (λ ns. map section_name_view ns ++ section_names_in (map section_view c.sections-sections.result.now)) c.requires.new.sections ∙ ap section_names_in c.sections-sections.ensures;
      notes = c.in_ok-add_notes.ensures ∙ ap (λ ns. ns ++ notes_of tables) c.requires.new.notes;
    }
