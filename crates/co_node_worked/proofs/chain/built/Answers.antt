use Rattle.std.proofs.Common.{refl}
use Rattle.co_node_worked.proofs.ChainExamples.{begins_by}
use Rattle.co_node_worked.proofs.chain.built.Goals as goal

pub returns : goal.returns
returns c = record {
  begins = begins_by _ c.in-Ok.sheet c.in-Ok-build.node refl c.in-Ok.ensures.sheet c.in-Ok-build.ensures.begins;
}
