use Rattle.std.proofs.Common.{◌≡◌, ◌++◌, map, take, drop}
use Rattle.conode_explain_services.specs.Nodes.{commanded}
use Rattle.conode_explain_services.proofs.nodes.Nodes.command_all.Given as goal

-- those so far are commanded, and with the rest commanded all are
abbrev pub invariant-loop-node : goal.invariant-loop-node
invariant-loop-node l =
    take l.node-index l.node-items ++ map (commanded l.interface l.command) (drop l.node-index l.node-items)
    ≡ map (commanded l.interface l.command) l.fn.self
