use Rattle.bafokun.specs.Builds.{ByFault}
use Rattle.bafokun.proofs.build.node_of.Goals as goal

pub returns-in-Ok-clause-ok : goal.returns-in-Ok-clause-ok
returns-in-Ok-clause-ok c = record { accepted = c.in-Ok.ensures.ok; stands = c.in-Ok.ensures.stands }

pub returns-in-Err-clause-err : goal.returns-in-Err-clause-err
returns-in-Err-clause-err c = ByFault c.in-Err.fault c.in-Err.ensures.err c.of_build.ensures
