use Rattle.conode_stats_text.specs.Tables.{lines_on}
use Rattle.conode_stats_text.proofs.Appended.{ends, more}
use Rattle.conode_stats_text.proofs.tables.push_lines.Goals as goal

pub loop-bus-preserved : goal.loop-bus-preserved
loop-bus-preserved c =
    more (lines_on c.args.table c.args.page.now) c.args.page.now.counts.now.buses c.loop-bus.bus-index _ _ _ _ _
    (rw c.buses-bus-items.ensures at c.loop-bus-test.true) (rw c.buses-bus-items.ensures at c.bus-item.is) c.loop-bus.invariant
    c.push_table_on.ensures

pub returns : goal.returns
returns c =
    ends (lines_on c.args.table c.args.page.now) c.args.page.now.counts.now.buses c.loop-bus.bus-index _ _
    (rw c.buses-bus-items.ensures at c.loop-bus-test.false) c.loop-bus.invariant
