use Rattle.std.proofs.Common.{◌≡◌, ◌≤◌, ◌∷◌, length, ap, ◌∙◌, subst}
use Rattle.co_value.specs.declared.key.Key.{Key}
use Rattle.co_node_model.specs.Inputs.{Applied, Written}
use Rattle.co_node_model.specs.Device.{frame_bound, prescribed}
use Rattle.co_node.specs.Nodes.{Stands}
use Rattle.co_node_model.specs.declared.app_answer.AppAnswer.{AppAnswer}
use Rattle.bafokun.specs.Ending.{by_answer, by_input}
use Rattle.bafokun.specs.Happened.{and_input}
use Rattle.bafokun.proofs.held.Held.write.Goals as goal

pub returns-clause-gave : goal.returns-clause-gave
returns-clause-gave c = λ k before stands. record {
  stands = subst (λ (key : Key). Stands k c.write_at.new.self (Applied (Written key c.args.bytes.now) ∷ before))
      c.key-key.ensures (c.write_at.ensures.stands k before stands);
  sent = subst (λ (key : Key). c.write_at.new.outbox.items ≡ prescribed k before (Applied (Written key c.args.bytes.now)))
      c.key-key.ensures (c.write_at.ensures.frames k before stands);
  few = subst (λ (key : Key). length c.write_at.new.outbox.items ≤ frame_bound k before (Applied (Written key c.args.bytes.now)))
      c.key-key.ensures (c.write_at.ensures.few k before stands);
}

pub returns-clause-events : goal.returns-clause-events
returns-clause-events c = λ k before stands.
    subst (λ (key : Key). c.note.new.self ≡ and_input k before (Applied (Written key c.args.bytes.now)) c.args.self.now.events)
    c.key-key.ensures
    (c.note.ensures k before (Applied (Written c.key-key.result c.args.bytes.now)) (c.write_at.ensures.stands k before stands) (c.state-state.ensures k before stands))

pub returns-clause-ending : goal.returns-clause-ending
returns-clause-ending c = λ k before stands.
    subst (λ (key : Key). c.after_event-self.result ≡ by_input k before (Applied (Written key c.args.bytes.now)) c.args.self.now.ending)
    c.key-key.ensures
    (c.after_event-self.ensures
    ∙ ap (λ (answer : AppAnswer). by_answer answer (Written c.key-key.result c.args.bytes.now) c.args.self.now.ending)
    (c.last_app.ensures k (Applied (Written c.key-key.result c.args.bytes.now) ∷ before) (c.write_at.ensures.stands k before stands)))
