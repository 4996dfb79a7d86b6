-- What the rest has is what the whole text has.
use Rattle.std.proofs.Common.{◌≡◌, length}
use Rattle.std.specs.Str.Lines.{lines}
use Rattle.conode_compare_report.specs.SheetNames.{info_from, info_in}
use Rattle.conode_compare_report.proofs.names.info_in.Given as goal

abbrev pub invariant-loop-bytes : goal.invariant-loop-bytes
invariant-loop-bytes l = info_from l.name l.within (lines l.rest) ≡ info_in l.name l.text

abbrev pub decreases-loop-bytes : goal.decreases-loop-bytes
decreases-loop-bytes l = length l.rest
