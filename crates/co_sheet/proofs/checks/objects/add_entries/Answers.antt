use Rattle.std.proofs.Common.{◌++◌, sym, ap, ◌∙◌, map}
use Rattle.co_sheet.specs.SectionViews.{object_view, entry_view}
use Rattle.co_sheet.proofs.ListLemmas.{map-push}
use Rattle.co_sheet.proofs.ObjectReadingLemmas.{single-entries, parts-entries}
use Rattle.co_sheet.proofs.checks.objects.add_entries.Goals as goal

pub returns-in_ok-push-in-Var : goal.returns-in_ok-push-in-Var
returns-in_ok-push-in-Var c =
    let o = c.args.object.now in
    let before = c.args.entries.now.items in
    ap (map entry_view) c.in_ok-push-in-Var.ensures.items
    ∙ map-push entry_view before (record { key = record { index = o.index; sub = 0 }; section = o.section })
    ∙ ap (λ es. map entry_view before ++ es) (sym (single-entries c.args.tables.now (object_view o) c.args.object_type c.requires c.in-Var.is))

pub returns-in_ok-add_parts-in-Array : goal.returns-in_ok-add_parts-in-Array
returns-in_ok-add_parts-in-Array c =
    let before = map entry_view c.args.entries.now.items in
    c.in_ok-add_parts-in-Array.ensures
    ∙ ap (λ es. before ++ es)
    (c.parts.ensures ∙ sym (parts-entries c.args.tables.now (object_view c.args.object.now) c.args.object_type c.requires c.in-Array.is))
