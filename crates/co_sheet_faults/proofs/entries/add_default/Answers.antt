use Rattle.std.proofs.Common.{List, ◌++◌, sym, ap, ◌∙◌}
use Rattle.co_sheet_rows.specs.declared.fault.FaultKind.TheVariants.{BadDefault}
use Rattle.co_sheet_rows.specs.declared.fault.SheetFault.{SheetFault}
use Rattle.co_sheet_text.specs.Views.{property_view}
use Rattle.co_sheet.specs.Checks.{fault_if}
use Rattle.co_sheet.specs.SectionViews.{entry_view}
use Rattle.co_sheet.specs.Views.{default_view}
use Rattle.co_sheet_faults.proofs.EntryCodeLemmas.{default-read, default-unread, on-ok}
use Rattle.co_sheet_faults.proofs.entries.add_default.Goals as goal

pub returns-in-Ok : goal.returns-in-Ok
returns-in-Ok c =
    let k = property_view c.in-Some.given in
    let found = default-read c.args.name.now c.args.data_type (entry_view c.args.entry.now) k c.args.limits.now (default_view c.in-Ok.preset)
    c.requires.numeric c.requires.read c.requires.limits (sym c.in-Some.ensures) (sym c.in-Ok.ensures) in
    on-ok c.add_if.result
    (λ pushed. pushed ∙ ap (λ (fs : List SheetFault). c.args.faults.now.items ++ fs) (ap (λ b. fault_if b BadDefault k.line) c.is_default_bad-is_bad.ensures ∙ sym found)) c.add_if.ensures

pub returns-in-Err : goal.returns-in-Err
returns-in-Err c =
    let found = default-unread c.args.name.now c.args.data_type (entry_view c.args.entry.now) (property_view c.in-Some.given) c.in-Err.fault
    c.requires.numeric c.requires.read (sym c.in-Some.ensures) (sym c.in-Err.ensures) in
    on-ok c.add_unread.result (λ pushed. pushed ∙ ap (λ (fs : List SheetFault). c.args.faults.now.items ++ fs) (sym found)) c.add_unread.ensures
