-- Errors that move down by one, entry by entry.
use Rattle.std.proofs.Common.{◌≡◌, ℕ, zero, suc, ◌+◌, ◌-◌, ◌<◌, ◌≤◌, Bool, true, false, cond, List, Option, Some, refl, sym, ap, ◌∙◌, arith, eqb-true}
use Rattle.std.proofs.lemmas.Bool.Decides.{nat_tests}
use Rattle.std.proofs.lemmas.List.{length-take}
use Rattle.std.specs.Prelude.{◌==◌, ◌&&◌, nat_le, if◌then◌else◌}
use Rattle.std.specs.List.{range_with_len, prefix_len}
use Rattle.co_dict.specs.Rows.{Rows, Contents, written}
use Rattle.co_dict.specs.Objects.{has_sub, subs_present}
use Rattle.co_dict.specs.ErrorField.{error_key, moved_bytes, moved_down}

-- ---- what is among the first that pass, passes

in_first : (p : ℕ → Bool) (count first i : ℕ) (here : Bool) → p first ≡ here → ((j : ℕ) → j < prefix_len p (range_with_len (first + 1) count) → p (first + 1 + j) ≡ true) → i < cond here (1 + prefix_len p (range_with_len (first + 1) count)) 0 → p (first + i) ≡ true
in_first p count first zero true is next less = let same : first ≡ first + 0 = omega arith in ap p (sym same) ∙ is
in_first p count first (suc i) true is next less = let same : first + suc i ≡ first + 1 + i = omega arith in ap p same ∙ next i (omega arith)
in_first p count first i false is next less = absurd (omega arith)

in_prefix : (p : ℕ → Bool) (count first i : ℕ) → i < prefix_len p (range_with_len first count) → p (first + i) ≡ true
in_prefix p zero first i less = absurd (omega arith)
in_prefix p (suc count) first i less = in_first p count first i (p first) refl (λ j. in_prefix p count (first + 1) j) less

-- each sub-index up to those that are there is there
pub sub_present : (rows : Rows) (index most sub : ℕ) → 1 ≤ sub → sub ≤ subs_present rows index most → has_sub rows index sub ≡ true
unfolding subs_present
sub_present rows index most sub first last =
    let subs = range_with_len 1 most in
    let taken = length-take (prefix_len (has_sub rows index) subs) subs in
    let same : 1 + (sub - 1) ≡ sub = omega (arith, first) in
    ap (has_sub rows index) (sym same) ∙ in_prefix (has_sub rows index) most 1 (sub - 1) (omega (arith, first, last, taken))

-- ---- moving down

none_by_tests : (index low until : Bool) (moved held : Option (List ℕ)) → (low && until) ≡ false → (if index && low && until then moved else held) ≡ held
none_by_tests false low until moved held none = refl
none_by_tests true false until moved held none = refl
none_by_tests true true false moved held none = refl
none_by_tests true true true moved held none = absurd (cc)

-- up to 0 nothing moves
pub moved_none : (contents : Contents) (first : List ℕ) → moved_down contents first 0 ≡ contents
moved_none contents first = λ i key. none_by_tests (key.index == 0x1003) (nat_le 1 key.sub) (nat_le key.sub 0) (moved_bytes contents first key.sub) (contents key) (grind (arith, nat_tests)) i

next_by_tests : (index low until further here : Bool) (error : List ℕ) (moved held : Option (List ℕ)) → (here ≡ true → low ≡ true) → (here ≡ true → further ≡ true) → (here ≡ true → moved ≡ Some error) → (here ≡ false → further ≡ until)
    → (if index && low && further then moved else held) ≡ (if index && here then Some error else if index && low && until then moved else held)
next_by_tests false low until further here error moved held l f m s = refl
next_by_tests true low until further true error moved held l f m s = ap (λ b. if b && further then moved else held) (l refl) ∙ ap (λ b. if b then moved else held) (f refl) ∙ m refl
next_by_tests true low until further false error moved held l f m s = ap (λ b. if low && b then moved else held) (s refl)

-- one more moves where it is set to what moves there
pub moved_next : (contents : Contents) (first error : List ℕ) (last : ℕ) → moved_bytes contents first (last + 1) ≡ Some error → moved_down contents first (last + 1) ≡ written (moved_down contents first last) (error_key (last + 1)) error
moved_next contents first error last is = λ i key.
    next_by_tests (key.index == 0x1003) (nat_le 1 key.sub) (nat_le key.sub last) (nat_le key.sub (last + 1)) (key.sub == last + 1) error (moved_bytes contents first key.sub) (contents key)
    (λ h. grind (arith, nat_tests)) (λ h. grind (arith, nat_tests)) (λ h. ap (moved_bytes contents first) (eqb-true key.sub (last + 1) h) ∙ is) (λ h. grind (arith, nat_tests)) i

past_by_tests : (low until : Bool) (moved held : Option (List ℕ)) → until ≡ false → (if low && until then moved else held) ≡ held
past_by_tests low true moved held h = absurd (cc)
past_by_tests true false moved held h = refl
past_by_tests false false moved held h = refl

-- what was next to move moves to the next place
pub next_error : (contents : Contents) (first error : List ℕ) (last : ℕ) → moved_down contents first last (error_key (last + 1)) ≡ Some error → moved_bytes contents first (last + 1 + 1) ≡ Some error
next_error contents first error last h =
    let past : nat_le (last + 1) last ≡ false = grind (arith, nat_tests) in
    let place : last + 1 + 1 - 1 ≡ last + 1 = omega arith in
    let later : (last + 1 + 1 == 1) ≡ false = grind (arith, nat_tests) in
    ap (λ b. if b then Some first else contents (error_key (last + 1 + 1 - 1))) later ∙ ap (λ n. contents (error_key n)) place
    ∙ sym (past_by_tests (nat_le 1 (last + 1)) (nat_le (last + 1) last) (moved_bytes contents first (last + 1)) (contents (error_key (last + 1))) past) ∙ h
