use Rattle.co_sheet_faults.proofs.AllLemmas.{accepted-none, none-accepted, contains, each, large-alone, line-contains, every-contains}
use Rattle.co_sheet_faults.proofs.laws.all_faults.Goals as goal

pub returns-clause-accepted : goal.returns-clause-accepted
returns-clause-accepted c = accepted-none

pub returns-clause-none : goal.returns-clause-none
returns-clause-none c = none-accepted

pub returns-clause-first : goal.returns-clause-first
returns-clause-first c = contains

pub returns-clause-each : goal.returns-clause-each
returns-clause-each c = each

pub returns-clause-large : goal.returns-clause-large
returns-clause-large c = large-alone

pub returns-clause-lines : goal.returns-clause-lines
returns-clause-lines c = line-contains

pub returns-clause-every : goal.returns-clause-every
returns-clause-every c = every-contains
