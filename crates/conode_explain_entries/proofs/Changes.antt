-- Elements of a list changed one after another.
use Rattle.std.proofs.Common.{◌≡◌, ℕ, zero, suc, ◌+◌, ◌<◌, ◌≤◌, List, [], ◌∷◌, ◌++◌, length, map, take, drop, set, get_or, refl, sym, ap, ◌∙◌, add-one, arith}

done_one : {A : Type 0} (f : A → A) (xs : List A) (i : ℕ) (e y : A) → i < length xs → y ≡ f (get_or xs i e)
    → take (suc i) (set xs i y) ++ map f (drop (suc i) (set xs i y)) ≡ take i xs ++ map f (drop i xs)
done_one f [] i e y lt is = absurd (omega (arith, lt))
done_one f (x ∷ xs) zero e y lt is = ap (λ z. z ∷ map f xs) is
done_one f (x ∷ xs) (suc i) e y lt is = ap (λ l. x ∷ l) (done_one f xs i e y (omega (arith, lt)) is)

-- one more is changed
pub done_more : {A : Type 0} (f : A → A) (xs : List A) (i : ℕ) (e y : A) → i < length xs → y ≡ f (get_or xs i e)
    → take (i + 1) (set xs i y) ++ map f (drop (i + 1) (set xs i y)) ≡ take i xs ++ map f (drop i xs)
done_more f xs i e y lt is = rw add-one (done_one f xs i e y lt is)

whole : {A : Type 0} (f : A → A) (xs : List A) (i : ℕ) → length xs ≤ i → take i xs ++ map f (drop i xs) ≡ xs
whole f [] zero le = refl
whole f [] (suc i) le = refl
whole f (x ∷ xs) zero le = absurd (omega (arith, le))
whole f (x ∷ xs) (suc i) le = ap (λ l. x ∷ l) (whole f xs i (omega (arith, le)))

-- all are
pub all_done : {A : Type 0} (f : A → A) (before now : List A) (i : ℕ) → length now ≤ i → take i now ++ map f (drop i now) ≡ map f before
    → now ≡ map f before
all_done f before now i le h = sym (whole f now i le) ∙ h

-- what stands at a place of a list: inside it nothing else is given
pub same_at : {A : Type 0} (xs : List A) (i : ℕ) (d e : A) → i < length xs → get_or xs i d ≡ get_or xs i e
same_at [] i d e lt = absurd (omega (arith, lt))
same_at (x ∷ xs) zero d e lt = refl
same_at (x ∷ xs) (suc i) d e lt = same_at xs i d e (omega (arith, lt))
