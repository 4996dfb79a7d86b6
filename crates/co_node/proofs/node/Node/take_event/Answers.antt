use Rattle.std.proofs.Common.{◌∷◌}
use Rattle.co_node_model.specs.Inputs.{Applied, app_view}
use Rattle.co_node.proofs.Held.{holds_within}
use Rattle.co_node.proofs.Memory.{memory_kept}
use Rattle.co_node.proofs.Refused.{as_for_nobody}
use Rattle.co_node.proofs.node.Node.take_event.Goals as goal

pub returns-clause-held : goal.returns-clause-held
returns-clause-held c = λ k before stands. holds_within k (Applied (app_view c.args.event) ∷ before) (record { device = c.take_event.new.self }) (c.take_event.ensures.stands k before stands)

pub returns-clause-refused : goal.returns-clause-refused
returns-clause-refused c = λ k before stands code refused.
    as_for_nobody k (record { device = c.take_event.new.self }) c.take_event.new.outbox.items before (app_view c.args.event) code refused
    (c.take_event.ensures.frames k before stands) (c.take_event.ensures.stands k before stands)

pub returns-clause-memory : goal.returns-clause-memory
returns-clause-memory c = λ k before stands. memory_kept k before (Applied (app_view c.args.event) ∷ before) c.args.self.now (record { device = c.take_event.new.self }) stands (c.take_event.ensures.stands k before stands)
