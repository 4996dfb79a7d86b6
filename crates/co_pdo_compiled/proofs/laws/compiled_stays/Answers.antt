use Rattle.co_pdo_compiled.proofs.Parts.{parts_stay}
use Rattle.co_pdo_compiled.proofs.laws.compiled_stays.Goals as goal

pub returns-clause-parts : goal.returns-clause-parts
returns-clause-parts c = λ d e parts rows places has. parts_stay d e rows places parts has

pub returns-clause-form : goal.returns-clause-form
returns-clause-form c = λ d e mapping parts rows places form. record {
  same = form.same;
  has = parts_stay d e rows places parts form.has;
}
