use Rattle.std.proofs.Common.{List, ◌∙◌, sym, subst}
use Rattle.co_node_parts.specs.declared.heartbeat_consumer.HeartbeatConsumer.{HeartbeatConsumer}
use Rattle.co_node_parts.specs.Consumers.{is_lost}
use Rattle.co_node_parts.specs.ConsumerTables.{Noted, ConsumersStand, entry_log, entry_subs, event_of}
use Rattle.co_node_parts.proofs.Entries.{idle_kept, lost_of_all, none_lost}
use Rattle.co_node_parts.proofs.heartbeat_consumers.HeartbeatConsumers.note.Goals as goal

pub returns-in-Quiet-clause-lost : goal.returns-in-Quiet-clause-lost
returns-in-Quiet-clause-lost c = λ log h. rw c.in-Quiet.is (c.clear.ensures ∙ none_lost entry_subs)

pub returns-in-Begin-clause-lost : goal.returns-in-Begin-clause-lost
returns-in-Begin-clause-lost c = λ log h.
    let s = subst (λ (xs : List HeartbeatConsumer). ConsumersStand xs log) (sym c.self.view_is) h in
    c.note_all.ensures.lost (λ sub. entry_log sub log) s.all ∙ lost_of_all (λ sub. is_lost (event_of sub (Noted c.args.event)) (entry_log sub log)) _ s.count

pub returns-in-Begin-clause-stands : goal.returns-in-Begin-clause-stands
returns-in-Begin-clause-stands c = λ log h.
    let s = subst (λ (xs : List HeartbeatConsumer). ConsumersStand xs log) (sym c.self.view_is) h in
    record { count = c.note_all.auto.entries ∙ s.count; all = c.note_all.ensures.stand (λ sub. entry_log sub log) s.all }

pub returns-in-Heard-clause-lost : goal.returns-in-Heard-clause-lost
returns-in-Heard-clause-lost c = λ log h.
    let s = subst (λ (xs : List HeartbeatConsumer). ConsumersStand xs log) (sym c.self.view_is) h in
    c.note_all-in-Heard.ensures.lost (λ sub. entry_log sub log) s.all ∙ lost_of_all (λ sub. is_lost (event_of sub (Noted c.args.event)) (entry_log sub log)) _ s.count

pub returns-in-Heard-clause-stands : goal.returns-in-Heard-clause-stands
returns-in-Heard-clause-stands c = λ log h.
    let s = subst (λ (xs : List HeartbeatConsumer). ConsumersStand xs log) (sym c.self.view_is) h in
    record { count = c.note_all-in-Heard.auto.entries ∙ s.count; all = c.note_all-in-Heard.ensures.stand (λ sub. entry_log sub log) s.all }

pub invariant_of-self-in-Heard : goal.invariant_of-self-in-Heard
invariant_of-self-in-Heard c = (c.self.invariant.0, idle_kept c.self.inside.entries c.note_all-in-Heard.new.entries c.self.inside.used c.note_all-in-Heard.auto.entries c.self.invariant.1 c.note_all-in-Heard.ensures.rest)
