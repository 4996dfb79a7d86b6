-- Two lists side by side, one pair more.
use Rattle.std.proofs.Common.{◌≡◌, ℕ, zero, suc, ◌+◌, ◌<◌, ◌≤◌, List, [], ◌∷◌, ◌++◌, length, take, map, get_or, zip, Option, refl, ap, sym, subst, arith, add-one, ◌∙◌, append-nil}
use Rattle.std.specs.List.{flat_map}
use Rattle.std.proofs.lemmas.Grind.{flat_map-append}
use Rattle.conode_json.specs.Appended.{Appended}
use Rattle.conode_json.proofs.Appending.{both}

next_pair : {A B C : Type 0} (view : A → C) (xs : List A) (ys : List B) (k : ℕ) (x : A) (y : B) → k < length xs → k < length ys
    → zip (map view (take (suc k) xs)) (take (suc k) ys) ≡ zip (map view (take k xs)) (take k ys) ++ (view (get_or xs k x), get_or ys k y) ∷ []
next_pair view [] ys k x y h i = absurd (omega arith)
next_pair view (a ∷ xs) [] k x y h i = absurd (omega arith)
next_pair view (a ∷ xs) (b ∷ ys) zero x y h i = refl
next_pair view (a ∷ xs) (b ∷ ys) (suc k) x y h i = ap (λ ps. (view a, b) ∷ ps) (next_pair view xs ys k x y (omega arith) (omega arith))

pair_more : {A B C : Type 0} (view : A → C) (xs : List A) (ys : List B) (k : ℕ) (x : A) (y : B) → k < length xs → k < length ys
    → zip (map view (take (k + 1) xs)) (take (k + 1) ys) ≡ zip (map view (take k xs)) (take k ys) ++ (view (get_or xs k x), get_or ys k y) ∷ []
pair_more view xs ys k x y h i = rw add-one (next_pair view xs ys k x y h i)

no_next_pair : {A B C : Type 0} (view : A → C) (xs : List A) (ys : List B) (k : ℕ) → k < length xs → length ys ≤ k
    → zip (map view (take (suc k) xs)) (take (suc k) ys) ≡ zip (map view (take k xs)) (take k ys)
no_next_pair view [] ys k h i = absurd (omega arith)
no_next_pair view (a ∷ xs) [] zero h i = refl
no_next_pair view (a ∷ xs) [] (suc k) h i = refl
no_next_pair view (a ∷ xs) (b ∷ ys) zero h i = absurd (omega arith)
no_next_pair view (a ∷ xs) (b ∷ ys) (suc k) h i = ap (λ ps. (view a, b) ∷ ps) (no_next_pair view xs ys k (omega arith) (omega arith))

pairs_end : {A B C : Type 0} (view : A → C) (xs : List A) (ys : List B) (k : ℕ) → k < length xs → length ys ≤ k
    → zip (map view (take (k + 1) xs)) (take (k + 1) ys) ≡ zip (map view (take k xs)) (take k ys)
pairs_end view xs ys k h i = rw add-one (no_next_pair view xs ys k h i)

all_pairs : {A B C : Type 0} (view : A → C) (xs : List A) (ys : List B) (k : ℕ) → length xs ≤ k
    → zip (map view (take k xs)) (take k ys) ≡ zip (map view xs) ys
all_pairs view [] ys zero h = refl
all_pairs view [] ys (suc k) h = refl
all_pairs view (a ∷ xs) ys zero h = absurd (omega arith)
all_pairs view (a ∷ xs) [] (suc k) h = refl
all_pairs view (a ∷ xs) (b ∷ ys) (suc k) h = ap (λ ps. (view a, b) ∷ ps) (all_pairs view xs ys k (omega arith))

-- what is appended of the pairs so far, and of the next one
module _ {A B C T : Type 0} (tokens : C × B → List T) (view : A → C) (xs : List A) (ys : List B) (k : ℕ) where
  with_next : (p : C × B) (ps : List (C × B)) → flat_map tokens (ps ++ p ∷ []) ≡ flat_map tokens ps ++ tokens p
  with_next p ps = flat_map-append tokens ps (p ∷ []) ∙ ap (λ ts. flat_map tokens ps ++ ts) (append-nil (tokens p))

  added : (x : A) (y : B) → k < length xs → k < length ys → y ≡ get_or ys k y
      → flat_map tokens (zip (map view (take (k + 1) xs)) (take (k + 1) ys)) ≡ flat_map tokens (zip (map view (take k xs)) (take k ys)) ++ tokens (view (get_or xs k x), y)
  added x y h i is =
      ap (flat_map tokens) (pair_more view xs ys k x y h i) ∙ with_next (view (get_or xs k x), get_or ys k y) (zip (map view (take k xs)) (take k ys))
      ∙ ap (λ z. flat_map tokens (zip (map view (take k xs)) (take k ys)) ++ tokens (view (get_or xs k x), z)) (sym is)

  pub one_more : (x : A) (y : B) {t u v : Option (List T)} → k < length xs → k < length ys → y ≡ get_or ys k y
      → Appended t (flat_map tokens (zip (map view (take k xs)) (take k ys))) u → Appended u (tokens (view (get_or xs k x), y)) v
      → Appended t (flat_map tokens (zip (map view (take (k + 1) xs)) (take (k + 1) ys))) v
  one_more x y {t = t} {v = v} h i is e f = subst (λ part. Appended t part v) (sym (added x y h i is)) (both e f)

  pub no_more : {t u : Option (List T)} → k < length xs → length ys ≤ k → Appended t (flat_map tokens (zip (map view (take k xs)) (take k ys))) u
      → Appended t (flat_map tokens (zip (map view (take (k + 1) xs)) (take (k + 1) ys))) u
  no_more {t = t} {u = u} h i e = subst (λ ps. Appended t (flat_map tokens ps) u) (sym (pairs_end view xs ys k h i)) e

  pub no_left : {t u : Option (List T)} → length xs ≤ k → Appended t (flat_map tokens (zip (map view (take k xs)) (take k ys))) u
      → Appended t (flat_map tokens (zip (map view xs) ys)) u
  no_left {t = t} {u = u} h e = subst (λ ps. Appended t (flat_map tokens ps) u) (all_pairs view xs ys k h) e
