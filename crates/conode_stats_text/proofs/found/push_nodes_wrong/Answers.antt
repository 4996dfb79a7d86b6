use Rattle.std.proofs.Common.{arith}
use Rattle.conode_stats_text.specs.Found.{node_found, nodes_found}
use Rattle.conode_stats_text.specs.NodeIds.{up_to}
use Rattle.conode_stats_text.proofs.Listed.{last, next, nothing}
use Rattle.conode_stats_text.proofs.found.push_nodes_wrong.Goals as goal

pub loop-number-init : goal.loop-number-init
loop-number-init c = unfold up_to in nothing _ _

pub loop-number-preserved : goal.loop-number-preserved
loop-number-preserved c =
    next (node_found c.args.kind c.args.sheets.now c.args.bus.now) c.loop-number.number _ _ _ _ _ _ c.loop-number.auto.number
    c.loop-number.invariant c.push_node_wrong.ensures

pub returns : goal.returns
returns c =
    unfold nodes_found in
    last (node_found c.args.kind c.args.sheets.now c.args.bus.now) c.loop-number.number _ _ _ _ c.loop-number-test.false (omega arith)
    c.loop-number.invariant
