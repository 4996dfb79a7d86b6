use Rattle.std.proofs.Common.{◌≡◌, false, sym, ap, ◌∙◌}
use Rattle.std.specs.Result.{result_err}
use Rattle.std.specs.Prelude.{ok_or}
use Rattle.co_sheet_rows.specs.declared.fault.FaultKind.TheVariants.{LeftOutType}
use Rattle.co_sheet.specs.Checks.{is_bad_type}
use Rattle.co_sheet.specs.private.Findings.{found_by}
use Rattle.co_sheet.specs.SectionViews.{entry_view}
use Rattle.co_sheet.proofs.EntryReadingLemmas.{type-read}
use Rattle.co_sheet.proofs.tables.EntrySection.data_type.Goals as goal

pub returns-clause-finding : goal.returns-clause-finding
returns-clause-finding c =
    let e = entry_view c.args.self.now in
    let good : is_bad_type e c.args.code ≡ false = sym c.is_bad_type.ensures ∙ c.if-is_bad_type.false in
    ap result_err c.ok_or.ensures.value
    ∙ ap (λ o. result_err (ok_or o (found_by 13 (record { kind = LeftOutType; line = c.args.line })))) c.data_type_with.ensures
    ∙ sym (type-read e c.args.code c.args.line c.requires.code c.requires.line good)
