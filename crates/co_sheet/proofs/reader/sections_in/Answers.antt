use Rattle.co_sheet.proofs.PlaceLemmas.{all-counted}
use Rattle.co_sheet.proofs.reader.sections_in.Goals as goal

-- no property is there twice, so none of a list's places is
pub returns-in-Ok-clause-counted : goal.returns-in-Ok-clause-counted
returns-in-Ok-clause-counted c = all-counted c.in-Ok.sections c.in-Ok.ensures.parsed.properties_differ
