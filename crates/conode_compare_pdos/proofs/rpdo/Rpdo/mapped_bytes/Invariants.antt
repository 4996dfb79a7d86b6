use Rattle.std.proofs.Common.{◌≡◌, drop, Some}
use Rattle.conode_compare_pdos.specs.Rpdos.{mapped_from}
use Rattle.conode_compare_pdos.proofs.rpdo.Rpdo.mapped_bytes.Given as goal

-- those so far are counted
abbrev pub invariant-loop-place : goal.invariant-loop-place
invariant-loop-place l = mapped_from l.count l.place (drop l.place l.self.objects) l.bytes ≡ mapped_from l.count 0 l.self.objects (Some 0)
