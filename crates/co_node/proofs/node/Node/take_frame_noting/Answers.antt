use Rattle.std.proofs.Common.{◌∷◌}
use Rattle.co_node_model.specs.Inputs.{Framed}
use Rattle.co_node.proofs.Held.{holds_within}
use Rattle.co_node.proofs.Memory.{memory_kept}
use Rattle.co_node.proofs.node.Node.take_frame_noting.Goals as goal

pub returns-clause-held : goal.returns-clause-held
returns-clause-held c = λ k before stands. holds_within k (Framed c.args.frame.now ∷ before) (record { device = c.take_frame_inlined.new.self }) (c.take_frame_inlined.ensures.stands k before stands)

pub returns-clause-memory : goal.returns-clause-memory
returns-clause-memory c = λ k before stands. memory_kept k before (Framed c.args.frame.now ∷ before) c.args.self.now (record { device = c.take_frame_inlined.new.self }) stands (c.take_frame_inlined.ensures.stands k before stands)
