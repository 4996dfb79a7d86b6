use Rattle.co_node_worked.specs.Worked.{asked, constants}
use Rattle.co_node_worked.proofs.ChainExamples.{later_by}
use Rattle.co_node_worked.proofs.chain.elapse.Goals as goal

pub returns : goal.returns
returns c = record {
  heartbeats = λ stands. later_by c.run.result c.in-Ok.later c.run.new.kept c.in-Ok.ensures c.run.ensures.within
      (c.run.ensures.early constants asked stands) (c.run.ensures.few constants asked stands)
      (c.run.ensures.ends constants asked stands) c.run.ensures.frame_room c.run.ensures.input_room
      (c.run.ensures.frames constants asked stands);
}
