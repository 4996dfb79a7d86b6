use Rattle.std.proofs.Common.{◌≡◌, Ok}
use Rattle.co_sdo_client.specs.declared.state.ClientState.TheVariants.{Done}
use Rattle.conode_device.proofs.LoopStatuses.{ends_done}
use Rattle.conode_device.proofs.loop_file.loop_node.Goals as goal

pub returns-in-Ok-Done-clause-done : goal.returns-in-Ok-Done-clause-done
returns-in-Ok-Done-clause-done g c = λ _ k before stands.
    let is : c.loop_back-outcome.result ≡ Ok Done = cc (c.in-Ok-Done.ensures.ok, c.in-Ok-Done.field-0-is) in
    ends_done k before c.args.job.now.key c.args.job.now.bytes.now c.args.job.now.mode
    (g.O.Write.contents c.args.out.now) (g.O.Write.contents c.loop_back-outcome.new.writer) (g.O.Write.contents c.flushed.new.writer) c.loop_back-outcome.result is
    (c.loop_back-outcome.ensures.state k before stands) (c.loop_back-outcome.ensures.text k before stands) c.flushed.ensures.text
