use Rattle.std.proofs.Common.{◌≡◌, drop}
use Rattle.conode_compare_values.specs.RpdoWrites.{settled, settled_from}
use Rattle.conode_compare_values.proofs.rpdo_writes.RpdoWrites.settle.Given as goal

-- those so far are settled
abbrev pub invariant-loop-place : goal.invariant-loop-place
invariant-loop-place l =
    settled_from l.tolerance l.operational l.place (drop l.place l.held.entries.items) l.self
    ≡ settled l.held.entries.items l.fn.self l.tolerance l.operational
