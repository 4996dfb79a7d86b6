use Rattle.std.proofs.Common.{◌≡◌, drop}
use Rattle.conode_compare_values.specs.HeldNumbers.{unmapped, unmapped_from}
use Rattle.conode_compare_values.proofs.written.Written.forget_mapped.Given as goal

-- those so far are unknown where a PDO may have them
abbrev pub invariant-loop-place : goal.invariant-loop-place
invariant-loop-place l = unmapped_from l.place (drop l.place l.held.entries.items) l.self ≡ unmapped l.held.entries.items l.fn.self
