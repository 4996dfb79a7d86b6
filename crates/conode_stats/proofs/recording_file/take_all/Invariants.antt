use Rattle.std.proofs.Common.{◌≡◌}
use Rattle.conode_stats.proofs.recording_file.take_all.Given as goal

abbrev pub invariant-loop-text : goal.invariant-loop-text
invariant-loop-text g l = g.O.Write.contents l.out ≡ g.O.Write.contents l.fn.out
