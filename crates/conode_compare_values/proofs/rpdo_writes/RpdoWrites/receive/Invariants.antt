use Rattle.std.proofs.Common.{◌≡◌, drop}
use Rattle.conode_compare_values.specs.RpdoWrites.{received, taken_from}
use Rattle.conode_compare_values.proofs.rpdo_writes.RpdoWrites.receive.Given as goal

-- those so far have what the frame brings
abbrev pub invariant-loop-place : goal.invariant-loop-place
invariant-loop-place l =
    taken_from l.rpdos l.id l.rpdo l.bytes l.micros l.place (drop l.place l.held.entries.items) l.self
    ≡ received l.held.entries.items l.fn.self l.rpdos l.id l.rpdo l.bytes l.micros
