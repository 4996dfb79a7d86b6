use Rattle.std.proofs.Common.{Some, ap, sym, ◌∙◌}
use Rattle.co_sheet_changes.proofs.Utf8.{utf8_stays, other_goes}
use Rattle.co_sheet_changes.proofs.names.if_utf8.Goals as goal

pub returns-in-Ok : goal.returns-in-Ok
returns-in-Ok c = ap Some c.in-Ok.ensures.cases.0 ∙ sym (utf8_stays c.args.text.now c.in-Ok.ensures.cases.1)

pub returns-in-Err : goal.returns-in-Err
returns-in-Err c = sym (other_goes c.args.text.now c.in-Err.ensures.cases.0)
