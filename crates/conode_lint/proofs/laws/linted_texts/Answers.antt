use Rattle.conode_lint.proofs.BuildLaws.{error-build}
use Rattle.conode_lint.proofs.FoundLaws.{error-good, first-found}
use Rattle.conode_lint.proofs.laws.linted_texts.Goals as goal

pub returns-clause-error : goal.returns-clause-error
returns-clause-error c = λ text checks found is.
    error-good c.all_faults.ensures.accepted c.all_faults.ensures.first text
    (λ sheet sections plan. error-build sheet sections c.mapping_reasons.ensures.mapping c.all_build_faults.ensures.first plan) checks found is

pub returns-clause-first : goal.returns-clause-first
returns-clause-first c = λ text checks found fault is here other.
    first-found c.all_faults.ensures.accepted c.all_faults.ensures.first text checks found fault is here other
