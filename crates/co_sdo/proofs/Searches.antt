-- What a search in a list finds, at its place and in what stays the same of the elements.
use Rattle.std.proofs.Common.{◌≡◌, ℕ, suc, ◌<◌, Bool, true, false, cond, ltb, List, [], ◌∷◌, length, get_or, refl, ap, ◌∙◌, arith, Some, None, ◌+◌}
use Rattle.std.specs.Prelude.{position, map, option_map, unwrap_or, ◌&&◌, not}
use Rattle.std.specs.List.{find, filter, position_or_len, prefix_len}
use Rattle.std.proofs.lemmas.List.Folds.{find_at}
use Rattle.std.proofs.lemmas.List.{length-map}
use Rattle.std.proofs.lemmas.Option.{slice_get-get_or, slice_get_past}
use Rattle.std.proofs.lemmas.Bool.Decides.{nat_tests}

-- a search in what is made of each element
pub find_map : {A B : Type 0} (q : B → Bool) (f : A → B) (xs : List A) → find q (map f xs) ≡ option_map f (find (λ x. q (f x)) xs)
find_map q f [] = refl
find_map q f (x ∷ xs) = by_test (q (f x)) (find_map q f xs)
  where
    by_test : (b : Bool) → find q (map f xs) ≡ option_map f (find (λ y. q (f y)) xs) → cond b (Some (f x)) (find q (map f xs)) ≡ option_map f (cond b (Some x) (find (λ y. q (f y)) xs))
    by_test true more = refl
    by_test false more = more

-- two tests that agree on each element find the same one
pub find_same : {A : Type 0} (p q : A → Bool) (xs : List A) → ((i : ℕ) (d : A) → i < length xs → p (get_or xs i d) ≡ q (get_or xs i d)) → find p xs ≡ find q xs
find_same p q [] agree = refl
find_same p q (x ∷ xs) agree =
    ap (λ b. cond b (Some x) (find p xs)) (agree 0 x (omega arith)) ∙ ap (λ o. cond (q x) (Some x) o) (find_same p q xs (λ i d lt. agree (suc i) d (omega arith)))

-- the element at the first place is found
pub find_at_place : {A : Type 0} (p : A → Bool) (xs : List A) (i : ℕ) (d : A) → position p xs ≡ Some i → find p xs ≡ Some (get_or xs i d)
find_at_place p xs i d at = by_test (ltb (position_or_len p xs) (length xs)) refl at
  where
    by_test : (b : Bool) → ltb (position_or_len p xs) (length xs) ≡ b → cond b (Some (position_or_len p xs)) None ≡ Some i → find p xs ≡ Some (get_or xs i d)
    by_test true e at =
        let lt : position_or_len p xs < length xs = grind (arith, nat_tests) in
        find_at p xs ∙ slice_get-get_or xs (position_or_len p xs) d lt ∙ ap (λ o. Some (get_or xs (unwrap_or o 0) d)) at
    by_test false e at = cc

-- nothing is found where there is no place
pub find_nowhere : {A : Type 0} (p : A → Bool) (xs : List A) → position p xs ≡ None → find p xs ≡ None
find_nowhere p xs at = by_test (ltb (position_or_len p xs) (length xs)) refl at
  where
    by_test : (b : Bool) → ltb (position_or_len p xs) (length xs) ≡ b → cond b (Some (position_or_len p xs)) None ≡ None → find p xs ≡ None
    by_test true e at = cc
    by_test false e at = find_at p xs ∙ slice_get_past xs (position_or_len p xs) (grind (arith, nat_tests))

-- a search among those that pass another test
pub find_filter : {A : Type 0} (p q : A → Bool) (xs : List A) → find p (filter q xs) ≡ find (λ x. q x && p x) xs
find_filter p q [] = refl
find_filter p q (x ∷ xs) = by_test (q x) (find_filter p q xs)
  where
    by_test : (b : Bool) → find p (filter q xs) ≡ find (λ y. q y && p y) xs → find p (cond b (x ∷ filter q xs) (filter q xs)) ≡ cond (b && p x) (Some x) (find (λ y. q y && p y) xs)
    by_test true more = ap (λ o. cond (p x) (Some x) o) more
    by_test false more = more

-- a place in what is made of each element
prefix_map : {A B : Type 0} (q : B → Bool) (f : A → B) (xs : List A) → prefix_len q (map f xs) ≡ prefix_len (λ x. q (f x)) xs
prefix_map q f [] = refl
prefix_map q f (x ∷ xs) = ap (λ n. cond (q (f x)) (1 + n) 0) (prefix_map q f xs)

pub position_map : {A B : Type 0} (p : B → Bool) (f : A → B) (xs : List A) → position p (map f xs) ≡ position (λ x. p (f x)) xs
position_map p f xs =
    let same : length (map f xs) ≡ length xs = simp length-map in
    ap (λ n. cond (ltb n (length (map f xs))) (Some n) None) (prefix_map (λ y. not (p y)) f xs)
    ∙ ap (λ n. cond (ltb (position_or_len (λ x. p (f x)) xs) n) (Some (position_or_len (λ x. p (f x)) xs)) None) same

-- a place is one of the list
pub place_within : {A : Type 0} (p : A → Bool) (xs : List A) (i : ℕ) → position p xs ≡ Some i → i < length xs
place_within p xs i at = by_test (ltb (position_or_len p xs) (length xs)) refl at
  where
    by_test : (b : Bool) → ltb (position_or_len p xs) (length xs) ≡ b → cond b (Some (position_or_len p xs)) None ≡ Some i → i < length xs
    by_test true e at =
        let lt : position_or_len p xs < length xs = grind (arith, nat_tests) in
        let same : position_or_len p xs ≡ i = ap (λ o. unwrap_or o 0) at in
        omega (arith, lt, same)
    by_test false e at = cc
