use Rattle.std.proofs.Common.{[], codes, ap, ◌∙◌}
use Rattle.std.specs.Option.{option_map_or}
use Rattle.std.specs.Result.{result_err}
use Rattle.co_sheet.specs.Accepted.{least_fault}
use Rattle.co_sheet.specs.Checks.{unread_default}
use Rattle.co_sheet.specs.SectionViews.{entry_view}
use Rattle.co_sheet.proofs.EntryReadingLemmas.{both-keys}
use Rattle.co_sheet.proofs.tables.EntrySection.defaults.Goals as goal

pub returns-clause-fault : goal.returns-clause-fault
returns-clause-fault c =
    let found = unread_default c.args.data_type in
    c.both.ensures.fault
    ∙ both-keys found (codes "DefaultValue") (codes "ParameterValue") (entry_view c.args.self.now) (result_err c.default_at.result) (result_err c.default_at-2.result)
    (c.default_at.ensures.fault ∙ ap (λ k. least_fault (option_map_or found k [])) c.property-default_given.ensures)
    (c.default_at-2.ensures.fault ∙ ap (λ k. least_fault (option_map_or found k [])) c.property-parameter_given.ensures)
