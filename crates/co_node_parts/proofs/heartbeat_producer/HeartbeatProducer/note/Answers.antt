use Rattle.std.proofs.Common.{sym, subst}
use Rattle.co_node_parts.specs.Producers.{Producer, ProducerStands}
use Rattle.co_node_parts.proofs.Countdowns.{stands_running, stands_ending, not_due, due_unless_off}
use Rattle.co_node_parts.proofs.heartbeat_producer.HeartbeatProducer.note.Goals as goal

pub returns-then-self-gt1-clause-due : goal.returns-then-self-gt1-clause-due
returns-then-self-gt1-clause-due c = λ log h. rw c.in-Tick.is (not_due _ log (subst (λ (p : Producer). ProducerStands p log) (sym c.self.view_is) h) c.if-self-gt1.true)

pub returns-then-self-gt1-clause-stands : goal.returns-then-self-gt1-clause-stands
returns-then-self-gt1-clause-stands c = λ log h. rw c.in-Tick.is (stands_running _ log (subst (λ (p : Producer). ProducerStands p log) (sym c.self.view_is) h) c.if-self-gt1.true)

pub returns-else-self-gt1-clause-due : goal.returns-else-self-gt1-clause-due
returns-else-self-gt1-clause-due c = λ log h. rw c.in-Tick.is (due_unless_off _ log (subst (λ (p : Producer). ProducerStands p log) (sym c.self.view_is) h) c.if-self-gt1.false)

pub returns-else-self-gt1-clause-stands : goal.returns-else-self-gt1-clause-stands
returns-else-self-gt1-clause-stands c = λ log h. rw c.in-Tick.is (stands_ending _ log (subst (λ (p : Producer). ProducerStands p log) (sym c.self.view_is) h) c.if-self-gt1.false)
