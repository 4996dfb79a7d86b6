use Rattle.std.proofs.Common.{◌+◌, ap, ◌∙◌, arith}
use Rattle.std.specs.Prelude.{drop}
use Rattle.bafokun.specs.Changes.{with_area}
use Rattle.bafokun.proofs.ChangesSoFar.{area_turn}
use Rattle.bafokun.proofs.changes.note_area.Goals as goal

pub loop-number-preserved : goal.loop-number-preserved
loop-number-preserved c =
    ap (with_area c.args.area (drop (c.loop-number.number + 1) c.args.entries.now) (c.loop-number.number + 1)) c.note_in.ensures
    ∙ area_turn c.args.area c.args.entries.now c.loop-number.number c.loop-number.changes (omega (arith, c.loop-number-test.true, c.len-number-end.ensures))
    ∙ c.loop-number.invariant
