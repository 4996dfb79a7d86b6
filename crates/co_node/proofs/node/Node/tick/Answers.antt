use Rattle.std.proofs.Common.{◌∷◌}
use Rattle.co_node_model.specs.Inputs.{Ticked}
use Rattle.co_node.proofs.Held.{holds_within}
use Rattle.co_node.proofs.Memory.{memory_kept}
use Rattle.co_node.proofs.node.Node.tick.Goals as goal

pub returns-clause-held : goal.returns-clause-held
returns-clause-held c = λ k before stands. holds_within k (Ticked ∷ before) (record { device = c.tick.new.self }) (c.tick.ensures.stands k before stands)

pub returns-clause-memory : goal.returns-clause-memory
returns-clause-memory c = λ k before stands. memory_kept k before (Ticked ∷ before) c.args.self.now (record { device = c.tick.new.self }) stands (c.tick.ensures.stands k before stands)
