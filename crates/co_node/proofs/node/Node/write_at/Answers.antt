use Rattle.std.proofs.Common.{◌∷◌}
use Rattle.co_node_model.specs.Inputs.{Applied, Written}
use Rattle.co_node.proofs.Held.{holds_within}
use Rattle.co_node.proofs.Memory.{memory_kept}
use Rattle.co_node.proofs.Refused.{as_for_nobody}
use Rattle.co_node.proofs.node.Node.write_at.Goals as goal

pub returns-in-Some-clause-held : goal.returns-in-Some-clause-held
returns-in-Some-clause-held c = λ k before stands.
    holds_within k (Applied (Written c.args.key c.args.bytes.now) ∷ before) (record { device = c.write_at.new.self }) (c.write_at.ensures.stands k before stands)

pub returns-in-Some-clause-refused : goal.returns-in-Some-clause-refused
returns-in-Some-clause-refused c = λ k before stands code refused.
    as_for_nobody k (record { device = c.write_at.new.self }) c.write_at.new.outbox.items before (Written c.args.key c.args.bytes.now) code refused
    (c.write_at.ensures.frames k before stands) (c.write_at.ensures.stands k before stands)

pub returns-in-Some-clause-memory : goal.returns-in-Some-clause-memory
returns-in-Some-clause-memory c = λ k before stands.
    memory_kept k before (Applied (Written c.args.key c.args.bytes.now) ∷ before) c.args.self.now (record { device = c.write_at.new.self }) stands (c.write_at.ensures.stands k before stands)
