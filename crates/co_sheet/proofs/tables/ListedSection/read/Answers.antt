use Rattle.std.proofs.Common.{◌≡◌, Some, sym, ap, ◌∙◌, rules, ℕ, List, Option}
use Rattle.std.specs.Prelude.{option_map}
use Rattle.std.specs.Result.{result_ok, result_err}
use Rattle.co_sheet.specs.Content.{ObjectRow, object_row_with}
use Rattle.co_sheet_rows.specs.declared.object.ObjectType.{ObjectType}
use Rattle.co_sheet.specs.Entries.{ListedObject}
use Rattle.co_sheet.specs.SectionViews.{object_view}
use Rattle.co_sheet.specs.private.ObjectReadings.{parts_finding}
use Rattle.co_sheet.proofs.ObjectReadingLemmas.{object-steps}
use Rattle.co_sheet.proofs.tables.ListedSection.read.Goals as goal

abbrev named : ListedObject → ObjectType → Option (List ℕ) → ObjectRow
named o t name = record { index = o.index; object_type = t; name = name; line = o.section.line }

pub returns-in_err-unless-clause-finding : goal.returns-in_err-unless-clause-finding
returns-in_err-unless-clause-finding c =
    let failed : result_err c.from_residual.result ≡ result_err c.unless.result = search rules in
    failed
    ∙ object-steps c.args.tables.now (object_view c.args.self.now) c.object_type-of_type.result (result_err c.unless.result) c.sooner-found.result c.form_finding.result c.parts_finding-of_parts.result
    c.unless.ensures.finding c.sooner-found.ensures c.object_type-of_type.ensures.finding c.object_type-of_type.ensures.read c.form_finding.ensures
    (c.parts_finding-of_parts.ensures ∙ ap (parts_finding (result_ok c.object_type-of_type.result) (object_view c.args.self.now).section.line) c.parts.ensures)

pub returns-clause-finding : goal.returns-clause-finding
returns-clause-finding c =
    sym (ap result_err (c.in_ok-unless.was))
    ∙ object-steps c.args.tables.now (object_view c.args.self.now) c.object_type-of_type.result (result_err c.unless.result) c.sooner-found.result c.form_finding.result c.parts_finding-of_parts.result
    c.unless.ensures.finding c.sooner-found.ensures c.object_type-of_type.ensures.finding c.object_type-of_type.ensures.read c.form_finding.ensures
    (c.parts_finding-of_parts.ensures ∙ ap (parts_finding (result_ok c.object_type-of_type.result) (object_view c.args.self.now).section.line) c.parts.ensures)

pub returns-clause-row : goal.returns-clause-row
returns-clause-row c =
    let o = object_view c.args.self.now in
    ap (option_map (object_row_with o)) (sym c.object_type-of_type.ensures.read ∙ ap result_ok c.in_ok-unless.ensures.read)
    ∙ ap (λ (name : Option (List ℕ)). Some (named o c.in_ok-unless.field-0 name)) (sym c.name_of.ensures)
