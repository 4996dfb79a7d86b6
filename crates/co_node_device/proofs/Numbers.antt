-- The numbers of TPDOs that pass a test, one after another.
use Rattle.std.proofs.Common.{◌≡◌, ℕ, ◌+◌, ◌≤◌, Bool, true, false, cond, List, [], ◌∷◌, ◌++◌, sym, ap, ◌∙◌, arith, length, append-nil, length-append}
use Rattle.co_pdo.specs.Tpdos.{tpdo_numbers}
use Rattle.std.specs.List.{filter, range_with_len}
use Rattle.std.proofs.lemmas.List.{map-id}
use Rattle.std.proofs.lemmas.List.FromFn.{filter_of_map_range_with_len_more}

filter_range_more : (p : ℕ → Bool) (n : ℕ)
    → filter p (range_with_len 0 (n + 1)) ≡ filter p (range_with_len 0 n) ++ cond (p n) (n ∷ []) []
filter_range_more p n =
    ap (filter p) (sym (map-id (range_with_len 0 (n + 1))))
    ∙ filter_of_map_range_with_len_more p (λ (x : ℕ). x) 0 n n (omega arith)
    ∙ ap (λ xs. filter p xs ++ cond (p n) (n ∷ []) []) (map-id (range_with_len 0 n))

pub one_more : (p : ℕ → Bool) (n : ℕ) (before after : List ℕ) → after ≡ before ++ n ∷ [] → p n ≡ true
    → before ≡ filter p (range_with_len 0 n) → after ≡ filter p (range_with_len 0 (n + 1))
one_more p n before after e h is =
    e ∙ ap (λ xs. xs ++ n ∷ []) is ∙ ap (λ b. filter p (range_with_len 0 n) ++ cond b (n ∷ []) []) (sym h)
    ∙ sym (filter_range_more p n)

pub no_more : (p : ℕ → Bool) (n : ℕ) (before : List ℕ) → p n ≡ false
    → before ≡ filter p (range_with_len 0 n) → before ≡ filter p (range_with_len 0 (n + 1))
no_more p n before h is =
    is ∙ sym (append-nil (filter p (range_with_len 0 n)))
    ∙ ap (λ b. filter p (range_with_len 0 n) ++ cond b (n ∷ []) []) (sym h) ∙ sym (filter_range_more p n)

pub few_pushed : (before : List ℕ) (k i : ℕ) (after : List ℕ) → after ≡ before ++ k ∷ []
    → length before ≤ i → length after ≤ i + 1
few_pushed before k i after e le = omega (arith, ap length e, length-append before (k ∷ []))

-- after the last of 512 numbers
pub all_numbers : (p : ℕ → Bool) (xs : List ℕ) (k : ℕ) → k ≡ 512
    → xs ≡ filter p (range_with_len 0 k) → xs ≡ filter p tpdo_numbers
unfolding tpdo_numbers
all_numbers p xs k e is = is ∙ ap (λ n. filter p (range_with_len 0 n)) e
