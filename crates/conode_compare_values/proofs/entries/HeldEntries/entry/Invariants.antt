use Rattle.std.proofs.Common.{◌≡◌, drop}
use Rattle.conode_compare_values.specs.HeldWords.{entry_of}
use Rattle.conode_compare_values.proofs.entries.HeldEntries.entry.Given as goal

-- it is none of those so far
abbrev pub invariant-loop-entry : goal.invariant-loop-entry
invariant-loop-entry l = entry_of (drop l.entry-index l.entries) l.key ≡ entry_of l.entries l.key
