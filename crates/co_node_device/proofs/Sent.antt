-- There is room for the TPDOs that are due at an input, after what it sent before them.
use Rattle.std.proofs.Common.{◌≡◌, ◌+◌, ◌≤◌, ℕ, Bool, true, false, cond, List, [], length, refl, ap, subst, arith}
use Rattle.std.specs.Prelude.{Option, None, is_some}

module _ {E T : Type 0} where
  -- where TPDOs may be due, an abort of an SDO transfer or an emergency came before, and not both
  pub tpdos_fit : (asked may timed_out : Bool) (first second third : ℕ) (due : List T) (emergency : Option E)
      → first ≤ 127
      → (may ≡ true → first ≤ cond timed_out 1 0)
      → (timed_out ≡ true → emergency ≡ None)
      → second ≤ first + cond (is_some emergency) 1 0
      → third ≤ second + 1
      → (asked ≡ true → may ≡ true)
      → (asked ≡ false → due ≡ [])
      → length due ≤ 512
      → third + length due ≤ 514
  tpdos_fit false may timed_out first second third due emergency few alone quiet s t turn idle many =
      let none : length due ≡ 0 = ap length (idle refl) in
      let one : cond (is_some emergency) 1 0 ≤ 1 = at_most (is_some emergency) in
      omega (arith, none, one)
    where
      at_most : (b : Bool) → cond b 1 0 ≤ 1
      at_most true = omega arith
      at_most false = omega arith
  tpdos_fit true may true first second third due emergency few alone quiet s t turn idle many =
      let one : first ≤ 1 = alone (turn refl) in
      let none : second ≤ first + 0 = subst (λ (e : Option E). second ≤ first + cond (is_some e) 1 0) (quiet refl) s in
      omega arith
  tpdos_fit true may false first second third due emergency few alone quiet s t turn idle many =
      let none : first ≤ 0 = alone (turn refl) in
      let one : cond (is_some emergency) 1 0 ≤ 1 = at_most (is_some emergency) in
      omega arith
    where
      at_most : (b : Bool) → cond b 1 0 ≤ 1
      at_most true = omega arith
      at_most false = omega arith
