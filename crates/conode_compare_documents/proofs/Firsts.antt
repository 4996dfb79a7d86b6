-- The first elements of a list that a test gives true at.
use Rattle.std.proofs.Common.{◌≡◌, ℕ, ◌+◌, ◌<◌, ◌≤◌, Bool, true, false, ◌&&◌, nat_lt, cond, List, [], ◌∷◌, ◌++◌, Option, length, min, take, get_or, refl, ap, sym, subst, arith, take_all, append-nil, length-append, ◌∙◌}
use Rattle.std.specs.List.{filter, flat_map}
use Rattle.std.proofs.lemmas.Bool.Decides.{nat_tests}
use Rattle.std.proofs.lemmas.Grind.{flat_map-append}
use Rattle.std.proofs.lemmas.List.{take-append-le}
use Rattle.std.proofs.lemmas.List.Elements.{filter_more}
use Rattle.conode_json.specs.Appended.{Appended}
use Rattle.conode_json.proofs.Appending.{both}

-- of a list and one element more, or none, there are the first ones and that one, if they are fewer
module _ {A : Type 0} (n : ℕ) (xs : List A) (x : A) where
  abbrev fewer : Bool
  fewer = nat_lt (min (length xs) n) n

  next_first : (is : Bool) → take n (xs ++ cond is (x ∷ []) []) ≡ take n xs ++ cond (fewer && is) (x ∷ []) []
  next_first is = by fewer refl is
    where
      by : (b : Bool) → fewer ≡ b → (is : Bool) → take n (xs ++ cond is (x ∷ []) []) ≡ take n xs ++ cond (b && is) (x ∷ []) []
      by true e true =
          let few : length xs < n = grind (arith, nat_tests) in
          let all : take n (xs ++ x ∷ []) ≡ xs ++ x ∷ [] = take_all n (xs ++ x ∷ []) (omega (arith, length-append xs (x ∷ []))) in
          all ∙ ap (λ ys. ys ++ x ∷ []) (sym (take_all n xs (omega arith)))
      by true e false = ap (take n) (append-nil xs) ∙ sym (append-nil (take n xs))
      by false e true =
          let many : n ≤ length xs = grind (arith, nat_tests) in
          take-append-le n xs (x ∷ []) many ∙ sym (append-nil (take n xs))
      by false e false = ap (take n) (append-nil xs) ∙ sym (append-nil (take n xs))

  next_count : (is : Bool) → min (length (xs ++ cond is (x ∷ []) [])) n ≡ cond (fewer && is) (min (length xs) n + 1) (min (length xs) n)
  next_count is = by fewer refl is
    where
      by : (b : Bool) → fewer ≡ b → (is : Bool) → min (length (xs ++ cond is (x ∷ []) [])) n ≡ cond (b && is) (min (length xs) n + 1) (min (length xs) n)
      by true e true = let few : length xs < n = grind (arith, nat_tests) in omega (arith, length-append xs (x ∷ []))
      by true e false = ap (λ ys. min (length ys) n) (append-nil xs)
      by false e true = let many : n ≤ length xs = grind (arith, nat_tests) in omega (arith, length-append xs (x ∷ []))
      by false e false = ap (λ ys. min (length ys) n) (append-nil xs)

-- ---- in a loop

module _ {A X : Type 0} (p : A → Bool) (part : A → List X) (n : ℕ) (xs : List A) (i : ℕ) (d : A) where
  part_if : (x : A) (is : Bool) → flat_map part (cond is (x ∷ []) []) ≡ cond is (part x) []
  part_if x true = append-nil (part x)
  part_if x false = refl

  more : i < length xs → flat_map part (take n (filter p (take (i + 1) xs)))
      ≡ flat_map part (take n (filter p (take i xs))) ++ cond (fewer n (filter p (take i xs)) (get_or xs i d) && p (get_or xs i d)) (part (get_or xs i d)) []
  more h =
      let own : List A = filter p (take i xs) in
      let x : A = get_or xs i d in
      ap (λ ys. flat_map part (take n ys)) (filter_more p xs i d h) ∙ ap (flat_map part) (next_first n own x (p x))
      ∙ flat_map-append part (take n own) (cond (fewer n own x && p x) (x ∷ []) []) ∙ ap (λ ys. flat_map part (take n own) ++ ys) (part_if x (fewer n own x && p x))

  pub one_more : (count : ℕ) {t u v : Option (List X)} → i < length xs → count ≡ min (length (filter p (take i xs))) n
      → Appended t (flat_map part (take n (filter p (take i xs)))) u
      → Appended u (cond (nat_lt count n && p (get_or xs i d)) (part (get_or xs i d)) []) v
      → Appended t (flat_map part (take n (filter p (take (i + 1) xs)))) v
  one_more count {t = t} {u = u} {v = v} h e so_far this =
      let now : Appended u (cond (fewer n (filter p (take i xs)) (get_or xs i d) && p (get_or xs i d)) (part (get_or xs i d)) []) v =
      subst (λ (c : ℕ). Appended u (cond (nat_lt c n && p (get_or xs i d)) (part (get_or xs i d)) []) v) e this in
      subst (λ (all : List X). Appended t all v) (sym (more h)) (both so_far now)

  pub count_more : (count next : ℕ) → i < length xs → count ≡ min (length (filter p (take i xs))) n
      → next ≡ cond (nat_lt count n && p (get_or xs i d)) (count + 1) count
      → next ≡ min (length (filter p (take (i + 1) xs))) n
  count_more count next h e f =
      let own : List A = filter p (take i xs) in
      let x : A = get_or xs i d in
      let g : cond (nat_lt count n && p x) (count + 1) count ≡ cond (fewer n own x && p x) (min (length own) n + 1) (min (length own) n) =
      ap (λ (c : ℕ). cond (nat_lt c n && p x) (c + 1) c) e in
      f ∙ g ∙ sym (ap (λ ys. min (length ys) n) (filter_more p xs i d h) ∙ next_count n own x (p x))
