-- One more tick.
use Rattle.std.proofs.Common.{◌≡◌, ◌<◌, ◌≤◌, ◌+◌, ℕ, zero, suc, Bool, true, false, ltb, [], ◌∷◌, refl, sym, subst, ◌∙◌, le_antisymm, arith}
use Rattle.std.proofs.lemmas.Bool.Decides.{nat_tests}
use Rattle.co_node_model.specs.Inputs.{Inputs, Ticked}
use Rattle.co_node_model.specs.Moments.{Constants}
use Rattle.co_node_model.specs.Device.{prescribed}
use Rattle.co_node.specs.declared.node.Node.{Node}
use Rattle.co_node.specs.Nodes.{Stands}
use Rattle.co_node_model.specs.Ticks.{IsQuietFor, after_ticks}
use Rattle.bafokun.specs.declared.held.Held.{Held}
use Rattle.bafokun.specs.Ticks.{AreTicks, GaveTicks, given_last}

plus_one : (n : ℕ) → suc n ≡ n + 1
plus_one n = omega arith

pub one_more_stands : (k : Constants) (before : Inputs) (n : ℕ) (node : Node)
    → Stands k node (Ticked ∷ after_ticks n before) → Stands k node (after_ticks (n + 1) before)
one_more_stands k before n node stands = subst (λ m. Stands k node (after_ticks m before)) (plus_one n) stands

pub one_more_given : (k : Constants) (before : Inputs) (n : ℕ)
    → given_last k before (n + 1) ≡ prescribed k (after_ticks n before) Ticked
one_more_given k before n =
    subst (λ m. given_last k before m ≡ prescribed k (after_ticks n before) Ticked) (plus_one n) refl

-- what holds of all numbers up to one and of the next
pub up_to_next : (P : ℕ → Type 0) (m : ℕ) → ((n : ℕ) → n ≤ m → P n) → P (m + 1) → (n : ℕ) → n ≤ m + 1 → P n
up_to_next P m each last n below = by_test (ltb m n) refl
  where
    by_test : (b : Bool) → ltb m n ≡ b → P n
    by_test true e = let same : n ≡ m + 1 = grind arith in subst P (sym same) last
    by_test false e = each n (grind arith)

-- ---- all ticks elapsed

within_itself : (n : ℕ) → n ≤ n
within_itself n = omega arith

not_below_itself : (n : ℕ) → n < n → ⊥
not_below_itself n below = omega arith

below_reached : (n most count : ℕ) → n < most → most ≤ count → n ≤ count
below_reached n most count below reached = omega arith

-- and none gave a frame
pub all_gave : (k : Constants) (before : Inputs) (most count : ℕ) (held : Held) → count ≤ most → most ≤ count → held.sent.items ≡ []
    → Stands k held.node (after_ticks count before) → ((n : ℕ) → n ≤ count → given_last k before n ≡ []) → GaveTicks k before most most held
all_gave k before most count held within reached empty stands quiet = record {
  ticks = record {
    within = within_itself most;
    quiet = λ n below. quiet n (below_reached n most count below reached);
    early = λ fewer none. not_below_itself most fewer;
  };
  stands = subst (λ (m : ℕ). Stands k held.node (after_ticks m before)) (le_antisymm within reached) stands;
  sent = empty ∙ sym (quiet most reached);
}

-- ---- ticks at which nothing is due

quiet_frames : (k : Constants) (before : Inputs) (count n : ℕ) → IsQuietFor k before count → n ≤ count → given_last k before n ≡ []
quiet_frames k before count zero q le = refl
quiet_frames k before count (suc n) q le = q.frames n (omega arith)

-- so many ticks at most all elapse, and the last gives no frame
pub all_elapse : (k : Constants) (before : Inputs) (count most elapsed : ℕ) → IsQuietFor k before count → most ≤ count → AreTicks k before most elapsed → elapsed ≡ most
all_elapse k before count most elapsed quiet le ticks = by_test (ltb elapsed most) refl
  where
    by_test : (b : Bool) → ltb elapsed most ≡ b → elapsed ≡ most
    by_test true e =
        let fewer : elapsed < most = grind (arith, nat_tests) in
        absurd (ticks.early fewer (quiet_frames k before count elapsed quiet (omega arith)))
    by_test false e =
        let within : elapsed ≤ most = ticks.within in
        let all : most ≤ elapsed = grind (arith, nat_tests) in
        omega arith
