use Rattle.std.proofs.Common.{◌≡◌, Some, None, sym, ap, ◌∙◌, refl, rules}
use Rattle.std.specs.Prelude.{option_map}
use Rattle.std.specs.Result.{result_err}
use Rattle.co_sheet.specs.Accepted.{least_fault}
use Rattle.co_sheet.specs.Checks.{unread_entry_numbers, bad_access}
use Rattle.co_sheet.specs.private.Findings.{found_by}
use Rattle.co_sheet.specs.private.EntryReadings.{type_finding, value_finding}
use Rattle.co_sheet_text.specs.Views.{property_view}
use Rattle.co_sheet.specs.SectionViews.{entry_view}
use Rattle.co_sheet.proofs.EntryReadingLemmas.{checked-ok, checked-err, stops, entry-steps, no_type-domain, no_access-domain}
use Rattle.co_sheet.proofs.tables.EntrySection.read.Goals as goal

pub numbers-requires-clause-domain : goal.numbers-requires-clause-domain
numbers-requires-clause-domain c = λ none.
    no_type-domain (entry_view c.args.self.now) (sym c.missing_key.ensures ∙ c.in_default.is) (sym c.property-type_given.ensures ∙ ap (option_map property_view) none)

pub access-requires-clause-domain : goal.access-requires-clause-domain
access-requires-clause-domain c = λ none.
    no_access-domain (entry_view c.args.self.now) (sym c.missing_key.ensures ∙ c.in_default.is) (sym c.property-access_given.ensures ∙ ap (option_map property_view) none)

pub returns-in-Some-clause-finding : goal.returns-in-Some-clause-finding
returns-in-Some-clause-finding c =
    let e = entry_view c.args.self.now in
    stops (found_by 10 c.in-Some.fault) (option_map (found_by 10) c.missing_key.result) _ (ap (option_map (found_by 10)) (sym c.in-Some.is))
    ∙ entry-steps e c.missing_key.result (least_fault (unread_entry_numbers e)) (least_fault (bad_access e)) (type_finding e) (value_finding e) c.missing_key.ensures refl refl refl refl

pub returns-in_err-code-clause-finding : goal.returns-in_err-code-clause-finding
returns-in_err-code-clause-finding c =
    let e = entry_view c.args.self.now in
    let g = c.in_err-code.field-0.0 in
    let present = sym c.in_default.is ∙ c.missing_key.ensures in
    let failed : result_err c.from_residual.result ≡ Some g = search rules in
    failed ∙ stops g (option_map (found_by 11) (result_err c.numbers.result)) _ (checked-err 11 c.numbers.result g c.in_err-code.ensures)
    ∙ entry-steps e None (result_err c.numbers.result) (least_fault (bad_access e)) (type_finding e) (value_finding e) present c.numbers.ensures.fault refl refl refl

pub returns-in_err-data_type-clause-finding : goal.returns-in_err-data_type-clause-finding
returns-in_err-data_type-clause-finding c =
    let e = entry_view c.args.self.now in
    let g = c.in_err-data_type.field-0.0 in
    let present = sym c.in_default.is ∙ c.missing_key.ensures in
    let numbers = sym (ap result_err (checked-ok 11 c.numbers.result (c.in_ok-code.code, c.in_ok-code.mappable) c.in_ok-code.ensures)) ∙ c.numbers.ensures.fault in
    let failed : result_err c.from_residual-in_err-data_type.result ≡ Some g = search rules in
    failed ∙ entry-steps e None None (least_fault (bad_access e)) (Some g) (value_finding e) present numbers c.in_err-data_type.ensures.finding refl refl

pub returns-in_err-access-clause-finding : goal.returns-in_err-access-clause-finding
returns-in_err-access-clause-finding c =
    let e = entry_view c.args.self.now in
    let g = c.in_err-access.field-0.0 in
    let present = sym c.in_default.is ∙ c.missing_key.ensures in
    let numbers = sym (ap result_err (checked-ok 11 c.numbers.result (c.in_ok-code.code, c.in_ok-code.mappable) c.in_ok-code.ensures)) ∙ c.numbers.ensures.fault in
    let failed : result_err c.from_residual-in_err-access.result ≡ Some g = search rules in
    failed ∙ stops g (option_map (found_by 14) (result_err c.access.result)) (value_finding e) (checked-err 14 c.access.result g c.in_err-access.ensures)
    ∙ entry-steps e None None (result_err c.access.result) None (value_finding e) present numbers c.in_ok-data_type.ensures.finding c.access.ensures.fault refl

pub returns-in_err-values-clause-finding : goal.returns-in_err-values-clause-finding
returns-in_err-values-clause-finding c =
    let e = entry_view c.args.self.now in
    let g = c.in_err-values.field-0.0 in
    let present = sym c.in_default.is ∙ c.missing_key.ensures in
    let numbers = sym (ap result_err (checked-ok 11 c.numbers.result (c.in_ok-code.code, c.in_ok-code.mappable) c.in_ok-code.ensures)) ∙ c.numbers.ensures.fault in
    let access = sym (ap result_err (checked-ok 14 c.access.result c.in_ok-access.access c.in_ok-access.ensures)) ∙ c.access.ensures.fault in
    let failed : result_err c.from_residual-in_err-values.result ≡ Some g = search rules in
    failed ∙ entry-steps e None None None None (Some g) present numbers c.in_ok-data_type.ensures.finding access c.in_err-values.ensures.finding

pub returns-clause-finding : goal.returns-clause-finding
returns-clause-finding c =
    let e = entry_view c.args.self.now in
    let present = sym c.in_default.is ∙ c.missing_key.ensures in
    let numbers = sym (ap result_err (checked-ok 11 c.numbers.result (c.in_ok-code.code, c.in_ok-code.mappable) c.in_ok-code.ensures)) ∙ c.numbers.ensures.fault in
    let access = sym (ap result_err (checked-ok 14 c.access.result c.in_ok-access.access c.in_ok-access.ensures)) ∙ c.access.ensures.fault in
    entry-steps e None None None None None present numbers c.in_ok-data_type.ensures.finding access c.in_ok-values.ensures.finding
