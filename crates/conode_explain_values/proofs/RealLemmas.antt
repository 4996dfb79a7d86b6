-- One step of a loop over what is left.
use Rattle.std.proofs.Common.{◌≡◌, ℕ, zero, suc, ◌-◌, ◌<◌, refl, arith}
use Rattle.std.specs.Option.{option_or}
use Rattle.std.specs.Float.Ieee.{Format}
use Rattle.conode_explain_values.specs.declared.scaled.Scaled.{Scaled}
use Rattle.conode_explain_values.specs.Reals.{text_at, text_from}

pub one_place : (f : Format) (bits : ℕ) (d : Scaled) (left : ℕ) → 0 < left →
    text_from f bits d left ≡ option_or (text_at f bits d (left - 1)) (text_from f bits d (left - 1))
unfolding text_from
one_place f bits d zero some = absurd (omega (arith, some))
one_place f bits d (suc left) some = let e : suc left - 1 ≡ left = omega arith in rw e refl
