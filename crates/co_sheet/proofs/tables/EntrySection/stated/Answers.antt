use Rattle.std.proofs.Common.{◌≡◌, Option, true, codes, ◌∙◌, rules}
use Rattle.std.specs.Result.{result_err}
use Rattle.co_sheet.specs.declared.checks.entries.Limit.{Limit}
use Rattle.co_sheet.specs.declared.checks.entries.Stated.{Stated}
use Rattle.co_sheet.specs.Limits.{is_numeric}
use Rattle.co_sheet.specs.private.EntryReadings.{IsLimitAt, IsDefaultAt}
use Rattle.co_sheet_text.specs.Sections.{property_at}
use Rattle.co_sheet.specs.SectionViews.{entry_view}
use Rattle.co_sheet.proofs.EntryReadingLemmas.{at_ok, unread-read, numeric-unread, numeric-values}
use Rattle.co_sheet.proofs.tables.EntrySection.stated.Goals as goal

pub returns-in_err-low-clause-fault : goal.returns-in_err-low-clause-fault
returns-in_err-low-clause-fault c =
    let t = c.args.data_type in
    let e = entry_view c.args.self.now in
    let numeric : is_numeric t ≡ true = search rules in
    let failed : result_err c.from_residual.result ≡ result_err c.both.result = search rules in
    failed ∙ c.both.ensures.fault
    ∙ unread-read t e (result_err c.limits-limits.result) (result_err c.defaults-defaults.result) c.limits-limits.ensures.fault c.defaults-defaults.ensures.fault
    ∙ numeric-unread t e c.requires numeric

pub returns-clause-fault : goal.returns-clause-fault
returns-clause-fault c =
    let t = c.args.data_type in
    let e = entry_view c.args.self.now in
    let numeric : is_numeric t ≡ true = search rules in
    c.in_ok-low.ensures.fault
    ∙ unread-read t e (result_err c.limits-limits.result) (result_err c.defaults-defaults.result) c.limits-limits.ensures.fault c.defaults-defaults.ensures.fault
    ∙ numeric-unread t e c.requires numeric

pub returns-clause-values : goal.returns-clause-values
returns-clause-values c =
    let t = c.args.data_type in
    let e = entry_view c.args.self.now in
    let numeric : is_numeric t ≡ true = search rules in
    let limits : Option Limit × Option Limit = (c.in_ok-low.low, c.in_ok-low.high) in
    let defaults : Option Stated × Option Stated = (c.in_ok-low.default, c.in_ok-low.parameter) in
    let all = c.in_ok-low.ensures.values in
    let low_key = property_at (codes "LowLimit") e.section in
    let high_key = property_at (codes "HighLimit") e.section in
    let default_key = property_at (codes "DefaultValue") e.section in
    let parameter_key = property_at (codes "ParameterValue") e.section in
    numeric-values t e _ c.requires numeric
    (at_ok (λ v. IsLimitAt t low_key v.0) c.limits-limits.result limits all.0 c.limits-limits.ensures.low)
    (at_ok (λ v. IsLimitAt t high_key v.1) c.limits-limits.result limits all.0 c.limits-limits.ensures.high)
    (at_ok (λ v. IsDefaultAt t default_key v.0) c.defaults-defaults.result defaults all.1 c.defaults-defaults.ensures.default)
    (at_ok (λ v. IsDefaultAt t parameter_key v.1) c.defaults-defaults.result defaults all.1 c.defaults-defaults.ensures.parameter)
