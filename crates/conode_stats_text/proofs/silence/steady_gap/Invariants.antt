use Rattle.std.proofs.Common.{◌≡◌, ◌-◌, take}
use Rattle.std.specs.Prelude.{◌^◌, fold}
use Rattle.conode_stats_text.specs.Silences.{gap_with}
use Rattle.conode_stats_text.proofs.silence.steady_gap.Given as goal

abbrev pub invariant-loop-row : goal.invariant-loop-row
invariant-loop-row l = l.gap ≡ fold (gap_with l.all l.node l.stamp) (2 ^ 64 - 1) (take l.row-index l.rows)
