use Rattle.std.proofs.Common.{ap, ◌∙◌, arith}
use Rattle.co_node_model.specs.Device.{contents_of}
use Rattle.bafokun.specs.Happened.{with_loss}
use Rattle.bafokun.proofs.Added.{one_more_loss}
use Rattle.bafokun.proofs.happened.Events.note_losses.Goals as goal

pub loop-i-preserved : goal.loop-i-preserved
loop-i-preserved c = λ k before stands.
    one_more_loss (contents_of k before) c.args.lost.now c.loop-i.i c.args.self.now c.loop-i.self c.note_loss.new.self
    (omega arith) (c.loop-i.invariant k before stands)
    (c.note_loss.ensures ∙ ap (λ node. with_loss node c.loop-i.self) (c.node_at.ensures k before stands))
