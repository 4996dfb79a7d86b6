use Rattle.std.proofs.Common.{◌∷◌, [], ◌++◌, Some, sym, ap, ◌∙◌, map}
use Rattle.std.specs.Prelude.{option_and_then}
use Rattle.std.specs.Option.{option_map_or}
use Rattle.co_sheet_rows.specs.declared.object.Object.{Object}
use Rattle.co_sheet.specs.Content.{object_row_of}
use Rattle.co_sheet.specs.Entries.{entries_in}
use Rattle.co_sheet.specs.SectionViews.{object_view, entry_view}
use Rattle.co_sheet.specs.SheetViews.{object_row_view}
use Rattle.co_sheet.specs.private.ListReadings.{listing_view}
use Rattle.co_sheet.specs.private.ObjectReadings.{rows_so_far}
use Rattle.co_sheet.proofs.ListLemmas.{map-push}
use Rattle.co_sheet.proofs.ObjectReadingLemmas.{listing-found, listing-missing, row-type}
use Rattle.co_sheet.proofs.checks.objects.take.Goals as goal

pub add_entries-requires : goal.add_entries-requires
add_entries-requires c = row-type (object_view c.in-Some.object) (object_row_view c.in-Ok.row) c.in-Ok.ensures.row

pub returns-in_default-clause-finding : goal.returns-in_default-clause-finding
returns-in_default-clause-finding c = sym (listing-missing c.args.tables.now (listing_view c.args.listing.now) (sym c.in_default.ensures))

pub returns-in-Err-clause-finding : goal.returns-in-Err-clause-finding
returns-in-Err-clause-finding c =
    c.in-Err.ensures.finding ∙ sym (listing-found c.args.tables.now (listing_view c.args.listing.now) (object_view c.in-Some.object) (sym c.in-Some.ensures))

pub returns-in_ok-push-in-Ok-clause-finding : goal.returns-in_ok-push-in-Ok-clause-finding
returns-in_ok-push-in-Ok-clause-finding c =
    c.in-Ok.ensures.finding ∙ sym (listing-found c.args.tables.now (listing_view c.args.listing.now) (object_view c.in-Some.object) (sym c.in-Some.ensures))

pub returns-in_ok-push-in-Ok-clause-objects : goal.returns-in_ok-push-in-Ok-clause-objects
returns-in_ok-push-in-Ok-clause-objects c = λ none.
    let view = λ (r : Object). Some (object_row_view r) in
    ap (map view) c.in_ok-push-in-Ok.ensures.items
    ∙ map-push view c.args.objects.now.items c.in-Ok.row
    ∙ ap (λ o. rows_so_far c.args.objects.now.items ++ o ∷ []) (sym c.in-Ok.ensures.row ∙ ap (option_and_then object_row_of) c.in-Some.ensures)

pub returns-in_ok-push-in-Ok-clause-entries : goal.returns-in_ok-push-in-Ok-clause-entries
returns-in_ok-push-in-Ok-clause-entries c = λ none.
    c.in_ok-add_entries-in-Ok.ensures
    ∙ ap (λ o. map entry_view c.args.entries.now.items ++ option_map_or (entries_in c.args.tables.now) o []) c.in-Some.ensures
