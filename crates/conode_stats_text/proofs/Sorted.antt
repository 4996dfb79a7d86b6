-- A stable sort by identifier gives the rows by identifier.
use Rattle.std.proofs.Common.{◌≡◌, ℕ, zero, suc, ◌<◌, ◌≤◌, Bool, true, false, cond, List, [], ◌∷◌, length, get_or, filter, nat_cmp, is_lt, nat_le, refl, sym, ap, ◌∙◌, arith, inl, inr, suc-le-suc, zero-le}
use Rattle.std.proofs.lemmas.Bool.{cond-true, cond-false, cases_Bool}
use Rattle.std.proofs.lemmas.Bool.Decides.{nat_tests}
use Rattle.std.specs.List.Sorted.{ties, IsNonDecreasingBy, IsStableByKey}
use Rattle.conode_stats_counts.specs.declared.row.Row.{Row}
use Rattle.conode_stats_text.specs.Tables.{by_id, inserted}

abbrev id : Row → ℕ
id row = row.can_id

abbrev same_id : Row → Row → Bool
same_id = ties (λ x y. is_lt (nat_cmp (id x) (id y)))

ties_at : (m n : ℕ) → (ties (λ x y. is_lt (nat_cmp x y)) m n ≡ true → m ≡ n) × (m ≡ n → ties (λ x y. is_lt (nat_cmp x y)) m n ≡ true)
ties_at m n = (λ h. grind (arith, nat_tests), λ h. grind (arith, nat_tests))

same_id-true : (x y : Row) → same_id x y ≡ true → id x ≡ id y
same_id-true x y = (ties_at (id x) (id y)).0

same_id_from : (x y : Row) → id x ≡ id y → same_id x y ≡ true
same_id_from x y = (ties_at (id x) (id y)).1

filter-kept : (p : Row → Bool) (y : Row) (ys : List Row) → p y ≡ true → filter p (y ∷ ys) ≡ y ∷ filter p ys
filter-kept p y ys h = cond-true _ _ _ h

filter-dropped : (p : Row → Bool) (y : Row) (ys : List Row) → p y ≡ false → filter p (y ∷ ys) ≡ filter p ys
filter-dropped p y ys h = cond-false _ _ _ h

-- ---- one row put in its place

inserted_first : (x y : Row) (ys : List Row) → nat_le (id x) (id y) ≡ true → inserted x (y ∷ ys) ≡ x ∷ y ∷ ys
unfolding inserted
inserted_first x y ys h = cond-true _ _ _ h

inserted_later : (x y : Row) (ys : List Row) → nat_le (id x) (id y) ≡ false → inserted x (y ∷ ys) ≡ y ∷ inserted x ys
unfolding inserted
inserted_later x y ys h = cond-false _ _ _ h

inserted_alone : (x : Row) → inserted x [] ≡ x ∷ []
unfolding inserted
inserted_alone x = refl

below_from : (m n : ℕ) → nat_le m n ≡ false → n < m
below_from m n h = grind (arith, nat_tests)

up_from : (m n : ℕ) → nat_le m n ≡ true → m ≤ n
up_from m n h = grind (arith, nat_tests)

filter-inserted : (x c : Row) (ds : List Row) → filter (same_id x) (inserted c ds) ≡ filter (same_id x) (c ∷ ds)
filter-inserted x c [] = ap (filter (same_id x)) (inserted_alone c)
filter-inserted x c (d ∷ ds) =
    let p = same_id x in
    elim (cases_Bool (nat_le (id c) (id d))) [
      | inl first ↦ ap (filter p) (inserted_first c d ds first)
      | inr later ↦
          let lower : id d < id c = below_from (id c) (id d) later in
          ap (filter p) (inserted_later c d ds later)
          ∙ elim (cases_Bool (p d)) [
            | inr without ↦
                filter-dropped p d (inserted c ds) without ∙ filter-inserted x c ds
                ∙ ap (λ l. cond (p c) (c ∷ l) l) (sym (filter-dropped p d ds without))
            | inl with ↦
                elim (cases_Bool (p c)) [
                  | inl both ↦ absurd (omega (arith, same_id-true x c both, same_id-true x d with))
                  | inr only ↦
                      filter-kept p d (inserted c ds) with ∙ ap (λ l. d ∷ l) (filter-inserted x c ds ∙ filter-dropped p c ds only)
                      ∙ sym (filter-dropped p c (d ∷ ds) only ∙ filter-kept p d ds with)
                ]
          ]
    ]

filter-by_id : (x : Row) (rows : List Row) → filter (same_id x) (by_id rows) ≡ filter (same_id x) rows
unfolding by_id
filter-by_id x [] = refl
filter-by_id x (c ∷ rows) =
    filter-inserted x c (by_id rows) ∙ ap (λ l. cond (same_id x c) (c ∷ l) l) (filter-by_id x rows)

-- ---- rows that rise

abbrev AreAtLeast : ℕ → List Row → Type 0
AreAtLeast n [] = Unit {0}
AreAtLeast n (y ∷ ys) = (n ≤ id y) × AreAtLeast n ys

abbrev Rises : List Row → Type 0
Rises [] = Unit {0}
Rises (y ∷ ys) = AreAtLeast (id y) ys × Rises ys

AreAtLeast-le : (n m : ℕ) (ys : List Row) → n ≤ m → AreAtLeast m ys → AreAtLeast n ys
AreAtLeast-le n m [] le h = tt
AreAtLeast-le n m (y ∷ ys) le h = let first = h.0 in (omega arith, AreAtLeast-le n m ys le h.1)

AreAtLeast-at : (n : ℕ) (ys : List Row) → ((j : ℕ) (d : Row) → j < length ys → n ≤ id (get_or ys j d)) → AreAtLeast n ys
AreAtLeast-at n [] h = tt
AreAtLeast-at n (y ∷ ys) h = (h zero y (suc-le-suc zero-le), AreAtLeast-at n ys (λ j d lt. h (suc j) d (suc-le-suc lt)))

Rises-from_sort : (ys : List Row) → IsNonDecreasingBy id ys → Rises ys
Rises-from_sort [] h = tt
Rises-from_sort (y ∷ ys) h = (
  AreAtLeast-at (id y) ys (λ j d lt. h zero (suc j) d zero-le (suc-le-suc lt)),
  Rises-from_sort ys (λ i j d le lt. h (suc i) (suc j) d (suc-le-suc le) (suc-le-suc lt)),
)

AreAtLeast-inserted : (n : ℕ) (x : Row) (ys : List Row) → n ≤ id x → AreAtLeast n ys → AreAtLeast n (inserted x ys)
unfolding inserted
AreAtLeast-inserted n x [] le h = (le, tt)
AreAtLeast-inserted n x (y ∷ ys) le h =
    elim (cases_Bool (nat_le (id x) (id y))) [
      | inl first ↦ rw first (le, h)
      | inr later ↦ rw later (h.0, AreAtLeast-inserted n x ys le h.1)
    ]

Rises-inserted : (x : Row) (ys : List Row) → Rises ys → Rises (inserted x ys)
unfolding inserted
Rises-inserted x [] h = (tt, tt)
Rises-inserted x (y ∷ ys) h =
    elim (cases_Bool (nat_le (id x) (id y))) [
      | inl first ↦
          let le = up_from (id x) (id y) first in
          rw first ((le, AreAtLeast-le (id x) (id y) ys le h.0), h)
      | inr later ↦
          let lower = below_from (id x) (id y) later in
          rw later (AreAtLeast-inserted (id y) x ys (omega arith) h.0, Rises-inserted x ys h.1)
    ]

Rises-by_id : (rows : List Row) → Rises (by_id rows)
unfolding by_id
Rises-by_id [] = tt
Rises-by_id (x ∷ rows) = Rises-inserted x (by_id rows) (Rises-by_id rows)

-- ---- the same list

-- one with the identifier of x is among them
AreAtLeast-found : (n : ℕ) (x : Row) (ys : List Row) (w : Row) (ws : List Row) → AreAtLeast n ys → filter (same_id x) ys ≡ w ∷ ws → n ≤ id x
AreAtLeast-found n x [] w ws h e = cc
AreAtLeast-found n x (y ∷ ys) w ws h e =
    elim (cases_Bool (same_id x y)) [
      | inl with ↦ omega (arith, h.0, same_id-true x y with)
      | inr without ↦ AreAtLeast-found n x ys w ws h.1 (sym (filter-dropped (same_id x) y ys without) ∙ e)
    ]

same_from_ids : (ys zs : List Row) → Rises ys → Rises zs → ((x : Row) → filter (same_id x) ys ≡ filter (same_id x) zs) → ys ≡ zs
same_from_ids [] [] left right same = refl
same_from_ids [] (z ∷ zs) left right same =
    let clash = same z ∙ filter-kept (same_id z) z zs (same_id_from z z refl) in cc
same_from_ids (y ∷ ys) [] left right same =
    let clash = sym (same y) ∙ filter-kept (same_id y) y ys (same_id_from y y refl) in cc
same_from_ids (y ∷ ys) (z ∷ zs) left right same =
    let at_y = filter-kept (same_id y) y ys (same_id_from y y refl) in
    let at_z = filter-kept (same_id z) z zs (same_id_from z z refl) in
    let up = AreAtLeast-found (id z) y (z ∷ zs) y _ (omega arith, right.0) (sym (same y) ∙ at_y) in
    let down = AreAtLeast-found (id y) z (y ∷ ys) z _ (omega arith, left.0) (same z ∙ at_z) in
    let heads = sym at_y ∙ same y ∙ filter-kept (same_id y) z zs (same_id_from y z (omega arith)) in
    let head : y ≡ z = cc in
    let tails : (x : Row) → filter (same_id x) ys ≡ filter (same_id x) zs =
    λ x. elim (cases_Bool (same_id x y)) [
      | inl with ↦
          let both = sym (filter-kept (same_id x) y ys with) ∙ same x ∙ filter-kept (same_id x) z zs (ap (same_id x) (sym head) ∙ with) in cc
      | inr without ↦
          sym (filter-dropped (same_id x) y ys without) ∙ same x ∙ filter-dropped (same_id x) z zs (ap (same_id x) (sym head) ∙ without)
    ] in
    ap (λ w. w ∷ ys) head ∙ ap (λ l. z ∷ l) (same_from_ids ys zs left.1 right.1 tails)

-- what the sort ensures says which list it is
pub by_id-from_sort : (rows sorted : List Row) → IsNonDecreasingBy (λ row. row.can_id) sorted → IsStableByKey (λ row. row.can_id) nat_cmp rows sorted → sorted ≡ by_id rows
by_id-from_sort rows sorted rises stable =
    same_from_ids sorted (by_id rows) (Rises-from_sort sorted rises) (Rises-by_id rows) (λ x. stable x ∙ sym (filter-by_id x rows))
