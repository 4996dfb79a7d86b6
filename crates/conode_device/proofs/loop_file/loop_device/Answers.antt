use Rattle.std.proofs.Common.{[]}
use Rattle.co_node.specs.Nodes.{built_constants, planned}
use Rattle.conode_device.proofs.loop_file.loop_device.Goals as goal

pub returns-in-Ok-clause-done : goal.returns-in-Ok-clause-done
returns-in-Ok-clause-done g c = λ zero.
    c.loop_node.ensures.done zero (built_constants (planned c.args.sheet.now c.args.node_id c.args.config.now) c.args.config.now.time) [] c.in-Ok.ensures.begins
