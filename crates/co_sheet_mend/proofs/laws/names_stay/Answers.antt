use Rattle.co_sheet_mend.specs.Repairs.{repair_at}
use Rattle.co_sheet_faults.specs.AllFaults.{faults_of}
use Rattle.co_sheet_mend.proofs.NameLemmas.{name-stays, section-stays, within}
use Rattle.co_sheet_mend.proofs.ListLineLemmas.{list-counted}
use Rattle.co_sheet_mend.proofs.laws.names_stay.Goals as goal

pub returns-clause-name : goal.returns-clause-name
returns-clause-name c = λ text s k is named. name-stays text s is k named

pub returns-clause-section : goal.returns-clause-section
returns-clause-section c = λ text s is key line more name begins.
    within (repair_at (faults_of text) s.line) (section-stays text s is) key line more name begins

pub returns-clause-list : goal.returns-clause-list
returns-clause-list c = list-counted
