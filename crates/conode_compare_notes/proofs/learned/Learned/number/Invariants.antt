use Rattle.std.proofs.Common.{◌≡◌, drop}
use Rattle.conode_compare_notes.specs.LearnedValues.{number_of}
use Rattle.conode_compare_notes.proofs.learned.Learned.number.Given as goal

-- it is none of those so far
abbrev pub invariant-loop-shown : goal.invariant-loop-shown
invariant-loop-shown l = number_of (drop l.shown-index l.all) l.key ≡ number_of l.all l.key
