use Rattle.std.proofs.Common.{◌≡◌, ◌<◌, [], ◌++◌, length, take, rules, ◌∙◌}
use Rattle.co_node_model.specs.Loop.{events_after}
use Rattle.conode_device.proofs.Takes.{stands_more, asked_more}
use Rattle.conode_device.proofs.frames.take_frames.Goals as goal

pub loop-frame-preserved : goal.loop-frame-preserved
loop-frame-preserved c =
    let inv = c.loop-frame.invariant in
    let id = c.args.client.now.answer in
    let frames = c.args.frames.now in
    let i = c.loop-frame.frame-index in
    let frame = c.frame-item.result in
    let within : i < length frames = c.loop-frame-test.true in
    let added : c.extend_from_slice.new.self.items ≡ c.loop-frame.waiting.items ++ c.take.new.outbox.items = search rules in
    let empty : c.clear.new.self.items ≡ [] = search rules in
    record {
      stands = λ call events stands.
          stands_more call events id c.loop-frame.client.answer frames i frame c.take.new.self within c.frame-item.is inv.answer
          (c.take.ensures.stands call (events_after id events (take i frames)) (inv.stands call events stands));
      asked = λ call events stands.
          asked_more c.args.client.now.request id c.loop-frame.client.request c.loop-frame.client.answer call events frames i frame
          c.args.waiting.now.items c.loop-frame.waiting.items c.extend_from_slice.new.self.items c.clear.new.self.items c.take.new.outbox.items
          within c.frame-item.is inv.request inv.answer empty (inv.asked call events stands)
          (c.take.ensures.messages call (events_after id events (take i frames)) (inv.stands call events stands)) added;
      request = c.take.ensures.ids.0 ∙ inv.request;
      answer = c.take.ensures.ids.1 ∙ inv.answer;
    }
