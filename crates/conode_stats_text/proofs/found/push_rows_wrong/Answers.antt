use Rattle.std.proofs.Common.{arith}
use Rattle.conode_stats_text.specs.Found.{rows_found, rows_found_of}
use Rattle.conode_stats_text.specs.NodeIds.{up_to}
use Rattle.conode_stats_text.proofs.Listed.{last, next, nothing}
use Rattle.conode_stats_text.proofs.found.push_rows_wrong.Goals as goal

pub loop-node-init : goal.loop-node-init
loop-node-init c = unfold up_to in nothing _ _

pub loop-node-preserved : goal.loop-node-preserved
loop-node-preserved c =
    next (rows_found_of c.args.kind c.args.interface.now c.args.rows.now) c.loop-node.node _ _ _ _ _ _ c.loop-node.auto.node
    c.loop-node.invariant c.push_rows_of.ensures

pub returns : goal.returns
returns c =
    unfold rows_found in
    last (rows_found_of c.args.kind c.args.interface.now c.args.rows.now) c.loop-node.node _ _ _ _ c.loop-node-test.false (omega arith)
    c.loop-node.invariant
