-- A text cut at the first byte of a kind.
use Rattle.std.proofs.Common.{◌≡◌, ℕ, ◌+◌, ◌<◌, Bool, true, false, cond, not, ◌||◌, List, [], ◌∷◌, length, suc, refl, sym, ◌∙◌, arith, ltb}
use Rattle.std.proofs.lemmas.Bool.Decides.{nat_tests}
use Rattle.std.proofs.lemmas.List.Splits.{slice_split_first}
use Rattle.std.specs.List.{list_any, position_or_len, before_first, after_first, slice_split, onto_first}

by_head : (head rest : Bool) (n m : ℕ) → rest ≡ ltb n m → (head || rest) ≡ ltb (cond (not head) (1 + n) 0) (suc m)
by_head true rest n m h = grind (arith, nat_tests)
by_head false true n m h = grind (arith, nat_tests)
by_head false false n m h = grind (arith, nat_tests)

-- whether some byte passes, by the place of the first
pub list_any-position : (p : ℕ → Bool) (xs : List ℕ) → list_any p xs ≡ ltb (position_or_len p xs) (length xs)
list_any-position p [] = refl
list_any-position p (x ∷ xs) = by_head (p x) (list_any p xs) (position_or_len p xs) (length xs) (list_any-position p xs)

neither : (a b : Bool) → (a || b) ≡ false → (a ≡ false) × (b ≡ false)
neither false b h = (refl, h)
neither true b h = cc

split_or : (p : ℕ → Bool) (x : ℕ) (xs : List ℕ) → p x ≡ false → slice_split p xs ≡ xs ∷ [] →
    cond (p x) ([] ∷ slice_split p xs) (onto_first x (slice_split p xs)) ≡ (x ∷ xs) ∷ []
split_or p x xs h e = rw (h, e) refl

-- a text where no byte passes is one part
pub one_part : (p : ℕ → Bool) (text : List ℕ) → list_any p text ≡ false → slice_split p text ≡ text ∷ []
one_part p [] h = refl
one_part p (x ∷ xs) h = let both = neither (p x) (list_any p xs) h in split_or p x xs both.0 (one_part p xs both.1)

within : (p : ℕ → Bool) (text : List ℕ) → list_any p text ≡ true → position_or_len p text < length text
within p text h =
    let e : ltb (position_or_len p text) (length text) ≡ true = sym (list_any-position p text) ∙ h in
    grind (arith, nat_tests)

-- the first part of any other, and the parts after it
pub first_part : (p : ℕ → Bool) (text : List ℕ) → list_any p text ≡ true → slice_split p text ≡ before_first p text ∷ slice_split p (after_first p text)
first_part p text h = slice_split_first p text 0 (within p text h)
