use Rattle.std.proofs.Common.{◌≡◌, take}
use Rattle.std.specs.Prelude.{nat_le}
use Rattle.std.specs.List.{count_by}
use Rattle.conode_stats_text.proofs.pace.is_half.Given as goal

abbrev pub invariant-loop-other : goal.invariant-loop-other
invariant-loop-other l = l.shorter ≡ count_by (λ other. nat_le other l.gap) (take l.other-index l.gaps)
