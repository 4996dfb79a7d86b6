use Rattle.std.proofs.Common.{◌≡◌, ℕ, ◌+◌, ◌<◌, cond, [], ◌∷◌, ◌++◌, length, ap, ◌∙◌, subst, arith}
use Rattle.co_node_parts.specs.declared.heartbeat_consumer.ConsumerEvent.{ConsumerEvent}
use Rattle.co_node_parts.specs.Consumers.{ConsumerStands, is_lost}
use Rattle.co_node_parts.specs.ConsumerTables.{Noted, event_of}
use Rattle.co_node_parts.proofs.Entries.{pushed, kept, few_more, rest_set, stands_here, done_set, lost_more, lost_used, stand_used}
use Rattle.co_node_parts.proofs.heartbeat_consumers.note_all.Goals as goal
use Rattle.co_node_parts.proofs.heartbeat_consumers.note_all.Goals.{then-note, else-note}

pub loop-i-preserved : goal.loop-i-preserved
loop-i-preserved c =
    let answered : c.if-note.lost.items ≡ c.loop-i.lost.items ++ cond c.note.result ((c.loop-i.i + 1) ∷ []) [] = elim c.if-note.branch [
      | then-note w ↦ pushed _ _ _ _ w.if-note.true (ap (λ v. v.items) w.lost-is ∙ w.push.ensures.items)
      | else-note w ↦ kept _ _ _ _ w.if-note.false (ap (λ v. v.items) w.lost-is)
    ] in
    let before = c.loop-i.invariant in
    let lt : c.loop-i.i < length c.args.entries.now = omega arith in
    let within : c.loop-i.i < length c.loop-i.entries = omega arith in
    let sub : ℕ = c.loop-i.i + 1 in
    record {
      few = few_more _ _ _ _ _ before.few answered;
      rest = rest_set c.args.entries.now c.loop-i.entries _ _ before.rest;
      lost = λ logs all. lost_more (λ s. is_lost (event_of s (Noted c.args.event)) (logs s)) c.loop-i.i c.note.result _ _ (before.lost logs all)
          (c.note.ensures.lost (logs sub) (stands_here c.args.entries.now c.loop-i.entries _ _ lt before.rest logs all) ∙ ap (λ (e : ConsumerEvent). is_lost e (logs sub)) c.for_entry.ensures)
          answered;
      done = λ logs all. done_set (λ s. event_of s (Noted c.args.event)) c.loop-i.entries _ _ within logs
          (subst (λ (e : ConsumerEvent). ConsumerStands c.note.new.self (e ∷ logs sub)) c.for_entry.ensures (c.note.ensures.stands (logs sub) (stands_here c.args.entries.now c.loop-i.entries _ _ lt before.rest logs all)))
          (before.done logs all);
    }

pub returns-clause-lost : goal.returns-clause-lost
returns-clause-lost c = λ logs all.
    lost_used c.args.event c.args.entries.now c.args.used c.loop-i.i (omega arith) c.requires.within c.requires.used logs all _ (c.loop-i.invariant.lost logs all)

pub returns-clause-stand : goal.returns-clause-stand
returns-clause-stand c = λ logs all i d lt.
    stand_used c.args.event c.args.entries.now c.args.used c.loop-i.i (omega arith) c.requires.within c.requires.used logs all c.loop-i.entries
    c.loop-i.invariant.rest (c.loop-i.invariant.done logs all) i d (omega (arith, lt))
