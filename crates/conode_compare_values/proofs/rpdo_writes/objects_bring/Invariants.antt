use Rattle.std.proofs.Common.{◌≡◌, drop}
use Rattle.conode_compare_values.specs.declared.rpdo_writes.Brought.TheVariants.{Nothing}
use Rattle.conode_compare_values.specs.RpdoWrites.{brought_from}
use Rattle.conode_compare_values.proofs.rpdo_writes.objects_bring.Given as goal

-- what those so far bring is there, and the bytes of the rest are left
abbrev pub invariant-loop-place : goal.invariant-loop-place
invariant-loop-place l =
    brought_from l.entry l.count l.place (drop l.place l.objects) l.rest l.brought ≡ brought_from l.entry l.count 0 l.objects l.bytes Nothing
