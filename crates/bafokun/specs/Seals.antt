-- The memory that a seal owns.
use Rattle.std.specs.Prelude.{◌≡◌, ◌⊎◌, Option, Some, None}
use Rattle.std.proofs.Common.{ap, inl, inr}
use base.Fml.{Fml, ftrue}
use base.Stored.{Coded, Coded-set, coded_unit, coded⊎, coded_via}
use denote.RawPtr.{Ptr}
use Rattle.std.specs.Box.Ownership.{box_owns}
use Rattle.std.specs.Global.{Global}
use Rattle.std_heap.specs.contracts.GlobalAllocator.TheImpl.{ghosts}
use Rattle.bafokun.specs.contracts.held.Held.{the_row}

-- the box of a device, or nothing
abbrev pub seal_owns : Global → Ptr → Option the_row.Denot → Fml
seal_owns alloc p None = ftrue
seal_owns alloc p (Some v) = box_owns (ghosts.dealloc_token alloc) the_row p v

-- an optional device as a sum; `of_sum` is the inverse
abbrev as_sum : Option the_row.Denot → Unit {0} ⊎ the_row.Denot
as_sum None = inl tt
as_sum (Some v) = inr v

abbrev of_sum : Unit {0} ⊎ the_row.Denot → Option the_row.Denot
of_sum (inl u) = None
of_sum (inr v) = Some v

-- `as_sum` is injective
pub as_sum_inj : (x y : Option the_row.Denot) → as_sum x ≡ as_sum y → x ≡ y
as_sum_inj None None e = ap of_sum e
as_sum_inj None (Some v) e = ap of_sum e
as_sum_inj (Some v) None e = ap of_sum e
as_sum_inj (Some v) (Some w) e = ap of_sum e

-- the code of optional devices: their equality is a proposition
abbrev pub seal_coded : Coded (Option the_row.Denot)
seal_coded = coded_via (coded⊎ coded_unit the_row.coded) as_sum as_sum_inj

-- equality to no device is a proposition
pub alone : (o : Option the_row.Denot) (e f : o ≡ None) → e ≡ f
alone o = Coded-set seal_coded o None
