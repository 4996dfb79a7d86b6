-- What holds of both branches of a test holds of it.
use Rattle.std.proofs.Common.{◌≡◌, Bool, true, false, cond, Option, IfSome, refl}

module _ {A : Type 0} (P : A → Type 0) where
  pub branches : (b : Bool) (x y : A) → (b ≡ true → P x) → (b ≡ false → P y) → P (cond b x y)
  branches true x y then otherwise = then refl
  branches false x y then otherwise = otherwise refl

  pub some_branches : (b : Bool) (x y : Option A) → (b ≡ true → IfSome x P) → (b ≡ false → IfSome y P) → IfSome (cond b x y) P
  some_branches true x y then otherwise = then refl
  some_branches false x y then otherwise = otherwise refl
