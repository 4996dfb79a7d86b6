-- The greatest capacity of the entries of a dictionary: none has more, and one has as much, if there is any.
use Rattle.std.proofs.Common.{◌≡◌, ℕ, ◌≤◌, ◌⊎◌, inl, inr, Bool, true, false, ◌||◌, ltb, max, List, [], ◌∷◌, Option, Some, None, refl, sym, ap, ◌∙◌, subst, arith}
use Rattle.std.specs.Prelude.{fold, is_some, IsSomeAnd}
use Rattle.std.specs.List.{list_any}
use Rattle.std.specs.Option.{option_map_or}
use Rattle.std.proofs.lemmas.Bool.{true≢false}
use Rattle.std.proofs.lemmas.Bool.Decides.{nat_tests}
use Rattle.co_value.specs.declared.key.Key.{Key}
use Rattle.co_value.specs.Keys.{same_key, same_key-is}
use Rattle.co_dict.specs.declared.row.Row.{Row}
use Rattle.co_dict.specs.Rows.{Rows, capacity_at}
use Rattle.co_dict.specs.Stores.{Description, IsDescription, IsGreatestCapacity, greatest_capacity}
use Rattle.co_dict.proofs.StoreLemmas.{room_of}

-- the greatest capacity at keys, and of this
abbrev pub most_at : Rows → ℕ → List Key → ℕ
most_at rows most keys = fold (λ most key. max most (capacity_at rows key)) most keys

above : (rows : Rows) (most : ℕ) (keys : List Key) → most ≤ most_at rows most keys
above rows most [] = omega arith
above rows most (key ∷ keys) = let rest = above rows (max most (capacity_at rows key)) keys in omega arith

-- a key that is listed has no more
listed : (rows : Rows) (most : ℕ) (keys : List Key) (key : Key) → list_any (same_key key) keys ≡ true → capacity_at rows key ≤ most_at rows most keys
listed rows most [] key h = absurd (true≢false (sym h))
listed rows most (first ∷ keys) key h = by_same (same_key key first) refl h (listed rows (max most (capacity_at rows first)) keys key)
  where
    by_same : (here : Bool) → same_key key first ≡ here → (here || list_any (same_key key) keys) ≡ true
        → (list_any (same_key key) keys ≡ true → capacity_at rows key ≤ most_at rows (max most (capacity_at rows first)) keys)
        → capacity_at rows key ≤ most_at rows (max most (capacity_at rows first)) keys
    by_same true same h later =
        let rest = above rows (max most (capacity_at rows first)) keys in
        let is : capacity_at rows key ≡ capacity_at rows first = ap (capacity_at rows) (same_key-is key first same) in
        omega arith
    by_same false other h later = later h

reached : (rows : Rows) (most : ℕ) (keys : List Key) → (most_at rows most keys ≡ most) ⊎ ((key : Key) × (capacity_at rows key ≡ most_at rows most keys))
reached rows most [] = inl refl
reached rows most (key ∷ keys) = elim (reached rows (max most (capacity_at rows key)) keys) [
  | inl is ↦ by_size (most_at rows (max most (capacity_at rows key)) keys) is (ltb most (capacity_at rows key)) refl
  | inr there ↦ inr there
]
  where
    by_size : (size : ℕ) → size ≡ max most (capacity_at rows key) → (more : Bool) → ltb most (capacity_at rows key) ≡ more → (size ≡ most) ⊎ ((key : Key) × (capacity_at rows key ≡ size))
    by_size size is true more = let same : capacity_at rows key ≡ size = grind (arith, nat_tests) in inr (key, same)
    by_size size is false more = let same : size ≡ most = grind (arith, nat_tests) in inl same

-- a capacity is that of an entry, or 0
of_entry : (rows : Rows) (key : Key) (size : ℕ) (found : Option Row) → rows key ≡ found → option_map_or (λ (row : Row). row.capacity) found 0 ≡ size
    → (size ≡ 0) ⊎ ((key : Key) × IsSomeAnd (rows key) (λ row. row.capacity ≡ size))
of_entry rows key size None is none = inl (sym none)
of_entry rows key size (Some row) is same = inr (key, subst (λ (o : Option Row). IsSomeAnd o (λ row. row.capacity ≡ size)) (sym is) same)

-- over rows of exactly these keys
pub greatest_at : (rows : Rows) (keys : List Key) → ((key : Key) → is_some (rows key) ≡ list_any (same_key key) keys) → IsGreatestCapacity rows (most_at rows 0 keys)
greatest_at rows keys finite =
    record {
      bound = λ key row is.
          subst (λ (o : Option Row). option_map_or (λ (row : Row). row.capacity) o 0 ≤ most_at rows 0 keys) is
          (listed rows 0 keys key (sym (finite key) ∙ ap is_some is));
      reached = elim (reached rows 0 keys) [
        | inl none ↦ inl none
        | inr there ↦ of_entry rows there.0 (most_at rows 0 keys) (rows there.0) refl there.1
      ];
    }

pub is_greatest : (d : Description) → IsDescription d → IsGreatestCapacity d.rows (greatest_capacity d)
is_greatest d described = greatest_at d.rows d.keys described.finite

-- the room of a key, where it has an entry or not
pub room_within : (rows : Rows) (size : ℕ) → IsGreatestCapacity rows size → (key : Key) → capacity_at rows key ≤ size
room_within rows size h key = room_of (rows key) size (h.bound key)

-- ---- there is one greatest capacity

-- a row's capacity is within what bounds it
within_bound : (found : Option Row) (size bound : ℕ) → ((row : Row) → found ≡ Some row → row.capacity ≤ bound)
    → IsSomeAnd found (λ row. row.capacity ≡ size) → size ≤ bound
within_bound None size bound each here = absurd here
within_bound (Some row) size bound each here = let le : row.capacity ≤ bound = each row refl in omega (arith, here)

-- the greatest capacity is within another greatest
within_other : (rows : Rows) (size other : ℕ) → IsGreatestCapacity rows other → (size ≡ 0) ⊎ ((key : Key) × IsSomeAnd (rows key) (λ row. row.capacity ≡ size))
    → size ≤ other
within_other rows size other greatest (inl none) = omega arith
within_other rows size other greatest (inr there) = within_bound (rows there.0) size other (greatest.bound there.0) there.1

pub one_greatest : (rows : Rows) (size other : ℕ) → IsGreatestCapacity rows size → IsGreatestCapacity rows other → size ≡ other
one_greatest rows size other one two =
    let le : size ≤ other = within_other rows size other two one.reached in
    let ge : other ≤ size = within_other rows other size one two.reached in
    omega arith
