use native.Mathlib.Nat.{zero-mul}
use Rattle.std.proofs.Common.{◌≡◌, ◌≤◌, true, length, map, take, refl, sym, append-nil, ap, ◌∙◌, rules, arith}
use Rattle.std.proofs.lemmas.Iterator.{YieldsList-from_slice}
use Rattle.std.proofs.lemmas.Iterator.Consumers.{YieldsList-from_copied, YieldsList-turn}
use Rattle.std.proofs.lemmas.List.{length_push}
use Rattle.co_node_model.specs.Inputs.{Inputs, input_view}
use Rattle.co_node_model.specs.Moments.{Constants}
use Rattle.co_node_model.specs.Device.{after_all}
use Rattle.co_node.specs.Held.{HoldsWithin}
use Rattle.co_node.specs.Nodes.{Stands}
use Rattle.co_node.specs.Records.{HasRoom}
use Rattle.co_node.specs.Runs.{most_frames, recorded_after}
use Rattle.co_node.proofs.Runs.{below_next, next_view, room_after, room_for, few_more, frames_more, ends_more, holds_first, holds_more, stands_more, up_to_next}
use Rattle.co_node.proofs.node.Node.run.Goals as goal

pub loop-input-init : goal.loop-input-init
loop-input-init c = record {
  count = refl;
  within = omega arith;
  frame_room = refl;
  input_room = refl;
  frames = λ k before stands. sym (append-nil c.args.kept.now.frames);
  ends = λ k before stands. sym (append-nil c.args.kept.now.ends);
  few = λ k before stands. omega (arith, zero-mul (most_frames k));
  held = λ k before stands. holds_first k before c.args.self.now (map input_view c.args.inputs.now) stands;
  roomy = λ k before stands n below. absurd (omega arith);
  memory = λ k before stands. refl;
  stands = λ k before stands. stands;
}

pub loop-input-preserved : goal.loop-input-preserved
loop-input-preserved c =
    let inv = c.loop-input.invariant in
    let turn = YieldsList-turn (YieldsList-from_copied (YieldsList-from_slice c.args.inputs.now cc)) c.loop-input.yielded _ c.loop-input.yielded_by _ _ c.in-Some.input c.in-Some.is c.next.ensures.steps in
    let next = next_view c.args.inputs.now c.loop-input.yielded c.loop-input.taken c.in-Some.input inv.count turn in
    let yes : c.has_room.result ≡ true = search rules in
    let few : (k : Constants) (before : Inputs) → Stands k c.args.self.now before → length c.deref.result.now ≤ c.most_frames-most.result = λ k before stands.
    omega (arith, ap length c.deref.ensures.0, c.step.ensures.few k _ (inv.stands k before stands), c.most_frames-most.ensures.enough k before stands (after_all before (take c.loop-input.taken (map input_view c.args.inputs.now))) (input_view c.in-Some.input)) in
    let fits : (k : Constants) (before : Inputs) → Stands k c.args.self.now before → HasRoom (length c.deref.result.now) c.loop-input.kept = λ k before stands.
    room_for c.loop-input.kept c.most_frames-most.result _ (c.has_room.ensures.yes yes) (few k before stands) in
    record {
      count = omega (arith, length_push c.loop-input.yielded c.in-Some.input);
      within = omega (arith, turn.0);
      frame_room = c.add.ensures.frame_room ∙ inv.frame_room;
      input_room = c.add.ensures.input_room ∙ inv.input_room;
      frames = λ k before stands. frames_more k before _ _ (input_view c.in-Some.input) _ c.loop-input.kept c.add.new.self c.deref.result.now c.step.new.outbox.items
          next (inv.frames k before stands) (c.step.ensures.frames k _ (inv.stands k before stands)) c.deref.ensures.0 (c.add.ensures.added (fits k before stands));
      ends = λ k before stands. ends_more k before _ _ (input_view c.in-Some.input) _ _ c.loop-input.kept c.add.new.self c.deref.result.now c.step.new.outbox.items
          next (inv.frames k before stands) (inv.ends k before stands) (c.step.ensures.frames k _ (inv.stands k before stands)) c.deref.ensures.0 (c.add.ensures.added (fits k before stands));
      few = λ k before stands. few_more c.loop-input.kept c.add.new.self c.deref.result.now (length c.args.kept.now.frames) c.loop-input.taken (most_frames k) c.most_frames-most.result
          (c.add.ensures.added (fits k before stands)) (inv.few k before stands) (few k before stands) (c.most_frames-most.ensures.most k before stands);
      held = λ k before stands. up_to_next
          (λ n. HoldsWithin k (after_all before (take n (map input_view c.args.inputs.now))))
          c.loop-input.taken (inv.held k before stands)
          (holds_more k before _ _ (input_view c.in-Some.input) next (c.step.ensures.held k _ (inv.stands k before stands)));
      roomy = λ k before stands. below_next
          (λ n. HasRoom (most_frames k) (recorded_after k before (take n (map input_view c.args.inputs.now)) c.args.kept.now))
          c.loop-input.taken (inv.roomy k before stands)
          (room_after k before (take c.loop-input.taken (map input_view c.args.inputs.now)) c.args.kept.now c.loop-input.kept _
          (c.most_frames-most.ensures.most k before stands) (inv.frames k before stands) (inv.ends k before stands)
          inv.frame_room inv.input_room (c.has_room.ensures.yes yes));
      memory = λ k before stands. c.step.ensures.memory k _ (inv.stands k before stands) ∙ inv.memory k before stands;
      stands = λ k before stands. stands_more k before _ _ (input_view c.in-Some.input) c.step.new.self next (c.step.ensures.stands k _ (inv.stands k before stands));
    }
