use Rattle.bafokun.specs.Builds.{ByMemory}
use Rattle.bafokun.proofs.build.unchanged.Goals as goal

pub returns-in-Err-clause-err : goal.returns-in-Err-clause-err
returns-in-Err-clause-err c = λ plan. ByMemory c.of_build.ensures

pub returns-in-Ok-clause-err : goal.returns-in-Ok-clause-err
returns-in-Ok-clause-err c = λ plan. tt
