use Rattle.std.proofs.Common.{◌≡◌, [], ap, ◌∙◌, rules, codes}
use Rattle.std.specs.Option.{option_map_or}
use Rattle.std.specs.Result.{result_err}
use Rattle.co_sheet.specs.Accepted.{least_fault}
use Rattle.co_sheet.specs.Checks.{at_key, unread_number}
use Rattle.co_sheet.specs.SectionViews.{entry_view}
use Rattle.co_sheet.proofs.LeastLemmas.{least-two}
use Rattle.co_sheet.proofs.tables.EntrySection.numbers.Goals as goal

pub returns-in_err-code-clause-fault : goal.returns-in_err-code-clause-fault
returns-in_err-code-clause-fault c =
    let section = (entry_view c.args.self.now).section in
    let failed : result_err c.from_residual.result ≡ result_err c.both.result = search rules in
    failed
    ∙ least-two (at_key unread_number (codes "DataType") section) (at_key unread_number (codes "PDOMapping") section) (result_err c.number_at.result) (result_err c.number_at-2.result) (result_err c.both.result) c.both.ensures.fault
    (c.number_at.ensures.fault ∙ ap (λ k. least_fault (option_map_or unread_number k [])) c.requires.given)
    (c.number_at-2.ensures.fault ∙ ap (λ k. least_fault (option_map_or unread_number k [])) c.property-mapping_given.ensures)
