use Rattle.std.proofs.Common.{◌∙◌, ◌++◌, sym, ap, eqb}
use Rattle.std.specs.List.{list_any}
use Rattle.co_sheet.specs.Entries.{compound_codes, Entry}
use Rattle.co_sheet.specs.ObjectLists.{is_one_of}
use Rattle.co_sheet.specs.SectionViews.{object_view, entry_view}
use Rattle.co_sheet_faults.proofs.EntryCodeLemmas.{on-ok, sub-0-found}
use Rattle.co_sheet_faults.proofs.ListCodeLemmas.{any-map}
use Rattle.co_sheet_faults.proofs.objects.add_missing_sub_index_0.Goals as goal

pub returns : goal.returns
returns c =
    let o = object_view c.args.object.now in
    let parts = c.parts.result.now in
    let whole = sym c.is_compact.ensures ∙ c.if-is_compact.false in
    let compound = ap (λ k. is_one_of compound_codes k) (sym c.object_code.ensures) ∙ sym c.is_compound.ensures ∙ c.if-not-is_compound.false in
    let has = c.has_sub_index_0-has_first.ensures ∙ any-map entry_view (λ (e : Entry). eqb e.key.sub 0) parts ∙ ap (list_any (λ (e : Entry). eqb e.key.sub 0)) c.parts.ensures in
    on-ok c.add_if.result (λ pushed. pushed ∙ ap (λ fs. c.args.faults.now.items ++ fs) (sym (sub-0-found c.args.tables.now o c.has_sub_index_0-has_first.result whole compound has))) c.add_if.ensures
