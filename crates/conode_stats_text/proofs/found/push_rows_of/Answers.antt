use Rattle.std.proofs.Common.{refl}
use Rattle.conode_stats_text.specs.Found.{row_found, rows_found_of}
use Rattle.conode_stats_text.proofs.Listed.{ends, further, nothing}
use Rattle.conode_stats_text.proofs.found.push_rows_of.Goals as goal

pub loop-row-init : goal.loop-row-init
loop-row-init c = nothing _ _

pub loop-row-preserved : goal.loop-row-preserved
loop-row-preserved c =
    further (row_found c.args.kind c.args.interface.now c.args.node) c.args.rows.now c.loop-row.row-index _ _ _ _ _ _ _ _ c.loop-row-test.true refl
    c.loop-row.invariant c.push_row_wrong.ensures

pub returns : goal.returns
returns c =
    unfold rows_found_of in
    ends (row_found c.args.kind c.args.interface.now c.args.node) c.args.rows.now c.loop-row.row-index _ _ _ _ c.loop-row-test.false
    c.loop-row.invariant
