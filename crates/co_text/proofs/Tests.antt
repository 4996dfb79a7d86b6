-- What follows from a test.
use Rattle.std.proofs.Common.{◌≡◌, Bool, true, false, cond, Some, None, refl}

-- both ways that a test may go
pub by_test : {P : Type 0} (b : Bool) → (b ≡ true → P) → (b ≡ false → P) → P
by_test true then otherwise = then refl
by_test false then otherwise = otherwise refl

-- a test that guards a value was met
pub guarded : {A : Type 0} (b : Bool) (x y : A) → cond b (Some x) None ≡ Some y → (b ≡ true) × (x ≡ y)
guarded true x y e = (refl, cc)
guarded false x y e = cc
