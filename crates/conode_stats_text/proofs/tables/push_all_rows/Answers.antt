use Rattle.std.proofs.Common.{refl}
use Rattle.conode_stats_text.specs.StatsLines.{row_line}
use Rattle.conode_stats_text.proofs.Appended.{ends, more}
use Rattle.conode_stats_text.proofs.tables.push_all_rows.Goals as goal

pub loop-row-preserved : goal.loop-row-preserved
loop-row-preserved c =
    more (row_line c.args.interface.now) c.args.rows.now c.loop-row.row-index _ _ _ _ _ c.loop-row-test.true refl
    c.loop-row.invariant c.push_row.ensures

pub returns : goal.returns
returns c = ends (row_line c.args.interface.now) c.args.rows.now c.loop-row.row-index _ _ c.loop-row-test.false c.loop-row.invariant
