use Rattle.std.proofs.Common.{◌≡◌, ℕ, ◌+◌, ◌-◌, ◌<◌, ◌∷◌, length, ap, ◌∙◌, subst, arith}
use Rattle.std.specs.Prelude.{slice_index}
use Rattle.co_node_parts.specs.declared.heartbeat_consumer.ConsumerEvent.TheVariants.{Begin}
use Rattle.co_node_parts.specs.Consumers.{ConsumerStands}
use Rattle.co_node_parts.specs.ConsumerTables.{AllBegun, event_of}
use Rattle.co_node_parts.proofs.Entries.{rest_set, stands_here, done_set}
use Rattle.co_node_parts.proofs.heartbeat_consumers.begin_each.Goals as goal

pub loop-i-preserved : goal.loop-i-preserved
loop-i-preserved c =
    let before = c.loop-i.invariant in
    let lt : c.loop-i.i < length c.args.entries.now = omega arith in
    let within : c.loop-i.i < length c.loop-i.entries = omega arith in
    let sub : ℕ = c.loop-i.i + 1 in
    let place : c.loop-i.i ≡ c.loop-i.i + 1 - 1 = omega arith in
    let word : c.word_at.result ≡ slice_index c.args.words.now (c.loop-i.i + 1 - 1) = c.word_at.ensures ∙ ap (slice_index c.args.words.now) place in
    record {
      rest = rest_set c.args.entries.now c.loop-i.entries _ _ before.rest;
      done = λ logs all. done_set (λ s. event_of s (AllBegun c.args.words.now)) c.loop-i.entries _ _ within logs
          (subst (λ (w : ℕ). ConsumerStands c.note.new.self (Begin w ∷ logs sub)) word (c.note.ensures.stands (logs sub) (stands_here c.args.entries.now c.loop-i.entries _ _ lt before.rest logs all)))
          (before.done logs all);
    }

pub returns : goal.returns
returns c = λ logs all i d lt. c.loop-i.invariant.done logs all i d (omega arith)
