use Rattle.std.proofs.Common.{◌++◌, refl}
use Rattle.co_sheet.specs.Entries.{compound_codes, single_codes}
use Rattle.co_sheet.specs.SectionViews.{object_view}
use Rattle.co_sheet_faults.specs.AllChecks.{sub_index_0_found}
use Rattle.co_sheet_faults.specs.private.Collected.{compact_collected, object_collected, object_type_collected, parts_collected}
use Rattle.co_sheet_faults.proofs.EntryCodeLemmas.{added, on-ok}
use Rattle.co_sheet_faults.proofs.objects.add_object.Goals as goal

pub returns : goal.returns
returns c =
    let sections = c.args.tables.now in
    let o = object_view c.args.object.now in
    let old = c.args.faults.now.items in
    let mid = c.add_object_type.new.faults.items in
    let next = c.add_compact.new.faults.items in
    let last = c.add_missing_sub_index_0.new.faults.items in
    let now = c.add_parts.new.faults.items in
    let parts = parts_collected sections o in
    let late = sub_index_0_found sections o ++ parts in
    on-ok c.add_parts.result
    (λ pushed. added now mid old (object_type_collected (single_codes ++ compound_codes) o.section) (compact_collected o.section ++ late) (object_collected sections o)
    (added now next mid (compact_collected o.section) late (compact_collected o.section ++ late)
    (added now last next (sub_index_0_found sections o) parts late pushed c.in-Ok-add_missing_sub_index_0.ensures refl)
    c.in-Ok-add_compact.ensures refl) c.in-Ok.ensures refl) c.add_parts.ensures
