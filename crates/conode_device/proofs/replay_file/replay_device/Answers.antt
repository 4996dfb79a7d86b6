use Rattle.std.proofs.Common.{[]}
use Rattle.co_node.specs.Nodes.{built_constants, planned}
use Rattle.conode_device.proofs.replay_file.replay_device.Goals as goal

pub returns-in-Ok-clause-whole : goal.returns-in-Ok-clause-whole
returns-in-Ok-clause-whole g c = λ zero.
    let (text, replayed) = c.replay_trace.ensures.whole zero in
    (text, replayed (built_constants (planned c.args.sheet.now c.args.node_id c.args.config.now) c.args.config.now.time) [] c.in-Ok.ensures.begins)
