use Rattle.std.proofs.Common.{◌∙◌, ap, sym, subst}
use Rattle.std.specs.Prelude.{List, slice_get}
use Rattle.co_frame.specs.declared.emergency.Emergency.{Emergency}
use Rattle.co_node_parts.specs.EmergencyQueues.{Pending, EmergenciesStand}
use Rattle.co_node_parts.proofs.Sendings.{front_due, none_while_left, none_where_not}
use Rattle.co_node_parts.proofs.emergencies.Emergencies.send.Goals as goal
use Rattle.co_node_parts.proofs.emergencies.Emergencies.send.Goals.{then-not-may-via-then-not-may, then-not-may-via-else-not-may+then-self-gt0}

pub returns-then-not-may-clause-due : goal.returns-then-not-may-clause-due
returns-then-not-may-clause-due c = λ log h.
    let s = subst (λ (p : Pending). EmergenciesStand p log) (sym c.self.view_is) h in
    elim c.then-not-may.branch [
      | then-not-may-via-then-not-may w ↦ none_where_not c.args.may log _ s.left w.if-not-may.true
      | then-not-may-via-else-not-may+then-self-gt0 w ↦ none_while_left c.args.may log _ s.left w.if-self-gt0.true
    ]

pub returns-clause-due : goal.returns-clause-due
returns-clause-due c = λ log h.
    let s = subst (λ (p : Pending). EmergenciesStand p log) (sym c.self.view_is) h in
    sym c.in_ok-emergency.was ∙ c.pop_front.ensures.value ∙ ap (λ (q : List Emergency). slice_get q 0) s.queue
    ∙ front_due c.args.may log _ s.left c.if-not-may.false c.if-self-gt0.false
