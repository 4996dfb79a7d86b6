use Rattle.std.proofs.Common.{take_all}
use Rattle.co_dict_faults.proofs.sound_rows.sound_rows.Goals as goal

pub returns : goal.returns
returns c = rw (take_all c.loop-row.row-index c.args.rows.now c.loop-row-test.false) at c.loop-row.invariant
