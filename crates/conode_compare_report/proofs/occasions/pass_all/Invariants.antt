-- What the kinds that are left give is what all give.
use Rattle.std.proofs.Common.{◌≡◌, drop}
use Rattle.conode_compare_report.specs.Occasions.{all_passed}
use Rattle.conode_compare_report.proofs.occasions.pass_all.Given as goal

abbrev pub invariant-loop-could : goal.invariant-loop-could
invariant-loop-could l = all_passed (drop l.could-index l.kinds) l.counts ≡ all_passed l.kinds l.fn.counts
