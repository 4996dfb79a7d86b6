use Rattle.std.proofs.Common.{◌≡◌, None, take}
use Rattle.std.specs.Prelude.{fold}
use Rattle.conode_stats_text.specs.Silences.{last_with}
use Rattle.conode_stats_text.proofs.silence.last_of.Given as goal

abbrev pub invariant-loop-row : goal.invariant-loop-row
invariant-loop-row l = l.last ≡ fold (last_with l.all l.source) None (take l.row-index l.rows)
