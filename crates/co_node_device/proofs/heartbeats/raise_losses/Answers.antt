use Rattle.std.proofs.Common.{◌∙◌}
use Rattle.co_node_device.proofs.Raised.{raised_more, raised_queue}
use Rattle.co_node_device.proofs.heartbeats.raise_losses.Goals as goal

pub loop-preserved : goal.loop-preserved
loop-preserved g c =
    let before = c.loop.invariant in
    let d = g.S.ObjectStore.description c.args.store.now in
    let old = g.S.ObjectStore.contents c.args.store.now in
    record {
      description = c.raise_and_queue.ensures.description ∙ before.description;
      contents = raised_more d _ c.args.lost.now c.loop.index old _ c.loop-test.true before.description before.contents _ c.raise_and_queue.ensures.contents;
      emergencies = λ queued h. raised_queue d _ c.args.lost.now c.loop.index old _ c.loop-test.true before.description before.contents _ queued (c.raise_and_queue.ensures.emergencies _ (before.emergencies queued h));
    }
