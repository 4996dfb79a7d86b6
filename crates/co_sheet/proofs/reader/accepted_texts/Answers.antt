use Rattle.co_sheet.proofs.AcceptedLemmas.{faultless, accepted-faultless}
use Rattle.co_sheet.proofs.reader.accepted_texts.Goals as goal

pub returns-clause-faultless : goal.returns-clause-faultless
returns-clause-faultless c = faultless

pub returns-clause-accepted : goal.returns-clause-accepted
returns-clause-accepted c = accepted-faultless
