use Rattle.std.proofs.Common.{◌∙◌, ◌++◌, sym, ap, codes, true}
use Rattle.co_sheet_rows.specs.declared.fault.FaultKind.TheVariants.{BadType, LeftOutType}
use Rattle.co_sheet.specs.ObjectLists.{is_one_of}
use Rattle.co_sheet.specs.Entries.{type_code}
use Rattle.co_sheet.specs.Checks.{fault_if, at_key, unread_number, left_out_codes}
use Rattle.co_sheet.specs.SectionViews.{entry_view}
use Rattle.co_sheet_faults.specs.private.Collected.{type_collected}
use Rattle.co_sheet_faults.proofs.EntryCodeLemmas.{added, on-ok, type-bad, type-good}
use Rattle.co_sheet_faults.proofs.entries.add_type.Goals as goal

pub returns-then-is_type_bad : goal.returns-then-is_type_bad
returns-then-is_type_bad c =
    let e = entry_view c.args.entry.now in
    let at_fault = sym c.is_type_bad.ensures ∙ c.if-is_type_bad.true in
    let line = ap (λ n. fault_if true BadType n) c.type_line-line.ensures in
    on-ok c.add_if.result
    (λ pushed. added c.add_if.new.faults.items c.add_unread_at.new.faults.items c.args.faults.now.items (at_key unread_number (codes "DataType") e.section) _ (type_collected e)
    (pushed ∙ ap (λ fs. c.add_unread_at.new.faults.items ++ fs) line) c.in-Ok.ensures (type-bad e at_fault)) c.add_if.ensures

pub returns : goal.returns
returns c =
    let e = entry_view c.args.entry.now in
    let good = sym c.is_type_bad.ensures ∙ c.if-is_type_bad.false in
    let is = ap (λ b. fault_if b LeftOutType c.type_line-line.result) c.is_type_left_out-is_left_out.ensures ∙ ap (λ n. fault_if (is_one_of left_out_codes (type_code e)) LeftOutType n) c.type_line-line.ensures in
    on-ok c.add_if-2.result
    (λ pushed. added c.add_if-2.new.faults.items c.add_unread_at.new.faults.items c.args.faults.now.items (at_key unread_number (codes "DataType") e.section) _ (type_collected e)
    (pushed ∙ ap (λ fs. c.add_unread_at.new.faults.items ++ fs) is) c.in-Ok.ensures (type-good e good)) c.add_if-2.ensures
