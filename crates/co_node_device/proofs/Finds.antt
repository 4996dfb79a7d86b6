-- The first of a range of numbers that passes a test.
use Rattle.std.proofs.Common.{◌≡◌, ℕ, zero, suc, ◌+◌, ◌<◌, Bool, cond, [], ◌∷◌, ◌++◌, refl, sym, ap, ◌∙◌, arith}
use Rattle.std.specs.Prelude.{Option, Some}
use Rattle.std.specs.List.{find, range_with_len}
use Rattle.std.specs.Option.{option_or}
use Rattle.std.proofs.lemmas.List.{map-id}
use Rattle.std.proofs.lemmas.List.Folds.{find-append}
use Rattle.std.proofs.lemmas.List.FromFn.{map-range_with_len_more}
use Rattle.co_dict.specs.Rows.{Contents}
use Rattle.co_node_model.specs.Rpdos.{is_rpdo_with, rpdo_with}
use Rattle.co_node_device.specs.AddressTables.{number_if}

range_more : (n : ℕ) → range_with_len 0 (n + 1) ≡ range_with_len 0 n ++ n ∷ []
range_more n =
    sym (map-id (range_with_len 0 (n + 1)))
    ∙ map-range_with_len_more (λ (x : ℕ). x) 0 n n (omega arith)
    ∙ ap (λ xs. xs ++ n ∷ []) (map-id (range_with_len 0 n))

-- with one number more
pub find_more : (p : ℕ → Bool) (n : ℕ)
    → find p (range_with_len 0 (n + 1)) ≡ option_or (find p (range_with_len 0 n)) (number_if (p n) n)
find_more p n = ap (find p) (range_more n) ∙ find-append p (range_with_len 0 n) (n ∷ [])

-- by two tests that say the same of each number
pub find_same : (p q : ℕ → Bool) (a n : ℕ) → ((k : ℕ) → k < a + n → p k ≡ q k)
    → find p (range_with_len a n) ≡ find q (range_with_len a n)
find_same p q a zero same = refl
find_same p q a (suc n) same =
    ap (λ b. cond b (Some a) (find p (range_with_len (a + 1) n))) (same a (omega arith))
    ∙ ap (cond (q a) (Some a)) (find_same p q (a + 1) n (λ k below. same k (omega arith)))

-- after the last of 512 numbers
pub found_to_the_end : (contents : Contents) (id : ℕ) (o : Option ℕ) (n : ℕ) → n ≡ 512
    → o ≡ find (is_rpdo_with contents id) (range_with_len 0 n) → o ≡ rpdo_with contents id
unfolding rpdo_with
found_to_the_end contents id o n e is = is ∙ ap (λ m. find (is_rpdo_with contents id) (range_with_len 0 m)) e
