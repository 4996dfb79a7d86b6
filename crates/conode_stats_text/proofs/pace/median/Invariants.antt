use Rattle.std.proofs.Common.{◌≡◌, ◌-◌, take}
use Rattle.std.specs.Prelude.{◌^◌, fold}
use Rattle.conode_stats_text.specs.Paces.{shorter_if}
use Rattle.conode_stats_text.proofs.pace.median.Given as goal

abbrev pub invariant-loop-gap : goal.invariant-loop-gap
invariant-loop-gap l = l.shortest ≡ fold (shorter_if l.gaps) (2 ^ 64 - 1) (take l.gap-index l.gaps)
