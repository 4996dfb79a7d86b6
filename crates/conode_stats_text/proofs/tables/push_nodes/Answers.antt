use Rattle.std.proofs.Common.{arith}
use Rattle.conode_stats_text.specs.Tables.{line_of, node_lines}
use Rattle.conode_stats_text.proofs.Appended.{last, next}
use Rattle.conode_stats_text.proofs.tables.push_nodes.Goals as goal

pub loop-number-preserved : goal.loop-number-preserved
loop-number-preserved c =
    next (line_of c.args.bus.now) c.loop-number.number _ _ _ c.loop-number.auto.number c.loop-number.invariant c.push_node_at.ensures

pub returns : goal.returns
returns c =
    unfold node_lines in
    last (line_of c.args.bus.now) c.loop-number.number _ _ c.loop-number-test.false (omega arith) c.loop-number.invariant
