use Rattle.std.proofs.Common.{◌≡◌, Some, None, sym, ap, ◌∙◌, refl, rules}
use Rattle.std.specs.Prelude.{option_map}
use Rattle.std.specs.Result.{result_err}
use Rattle.co_sheet.specs.Accepted.{least_fault}
use Rattle.co_sheet.specs.Checks.{in_numeric, bad_limits, bad_default}
use Rattle.co_sheet.specs.private.Findings.{found_by}
use Rattle.co_sheet.specs.private.EntryReadings.{AreValues}
use Rattle.co_sheet.specs.SectionViews.{entry_view}
use Rattle.co_sheet.proofs.EntryReadingLemmas.{at_ok, checked-ok, checked-err, stops, value-steps}
use Rattle.co_sheet.proofs.tables.EntrySection.values.Goals as goal

pub returns-in_err-values-clause-finding : goal.returns-in_err-values-clause-finding
returns-in_err-values-clause-finding c =
    let e = entry_view c.args.self.now in
    let g = c.in_err-values.field-0.0 in
    let failed : result_err c.from_residual.result ≡ Some g = search rules in
    failed ∙ stops g (option_map (found_by 15) (result_err c.stated.result)) _ (checked-err 15 c.stated.result g c.in_err-values.ensures)
    ∙ value-steps e (result_err c.stated.result) (least_fault (in_numeric bad_limits e)) (least_fault (bad_default e)) c.stated.ensures.fault refl refl

pub returns-in-Some-clause-finding : goal.returns-in-Some-clause-finding
returns-in-Some-clause-finding c =
    let t = c.args.data_type in
    let e = entry_view c.args.self.now in
    let is = checked-ok 15 c.stated.result c.in_ok-values.values c.in_ok-values.ensures in
    let are = at_ok (AreValues t e) c.stated.result c.in_ok-values.values is c.stated.ensures.values in
    stops (found_by 16 c.in-Some.fault) (option_map (found_by 16) c.limits_fault.result) _ (ap (option_map (found_by 16)) (sym c.in-Some.is))
    ∙ value-steps e None c.limits_fault.result (least_fault (bad_default e)) (sym (ap result_err is) ∙ c.stated.ensures.fault) (c.limits_fault.ensures ∙ ap least_fault (sym are.limits)) refl

pub returns-in-Some-defaults_fault-clause-finding : goal.returns-in-Some-defaults_fault-clause-finding
returns-in-Some-defaults_fault-clause-finding c =
    let t = c.args.data_type in
    let e = entry_view c.args.self.now in
    let values = c.in_ok-values.values in
    let is = checked-ok 15 c.stated.result values c.in_ok-values.ensures in
    let are = at_ok (AreValues t e) c.stated.result values is c.stated.ensures.values in
    let limits = sym c.in_default.is ∙ c.limits_fault.ensures ∙ ap least_fault (sym are.limits) in
    stops (found_by 17 c.in-Some-defaults_fault.fault) (option_map (found_by 17) c.defaults_fault.result) None (ap (option_map (found_by 17)) (sym c.in-Some-defaults_fault.is))
    ∙ value-steps e None None c.defaults_fault.result (sym (ap result_err is) ∙ c.stated.ensures.fault) limits (c.defaults_fault.ensures ∙ ap least_fault (sym are.defaults))

pub returns-in-None-clause-finding : goal.returns-in-None-clause-finding
returns-in-None-clause-finding c =
    let t = c.args.data_type in
    let e = entry_view c.args.self.now in
    let values = c.in_ok-values.values in
    let is = checked-ok 15 c.stated.result values c.in_ok-values.ensures in
    let are = at_ok (AreValues t e) c.stated.result values is c.stated.ensures.values in
    let limits = sym c.in_default.is ∙ c.limits_fault.ensures ∙ ap least_fault (sym are.limits) in
    let defaults = sym c.in-None.is ∙ c.defaults_fault.ensures ∙ ap least_fault (sym are.defaults) in
    value-steps e None None None (sym (ap result_err is) ∙ c.stated.ensures.fault) limits defaults
