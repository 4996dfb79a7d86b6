-- Each row's default has room.
use Rattle.co_dict_build.proofs.Readiness.{short}
use Rattle.co_dict_build.proofs.build.room.room.Goals as goal

pub capacity-requires : goal.capacity-requires
capacity-requires c = short _ (c.requires.rows c.loop-row.row-index _ c.loop-row-test.true)
