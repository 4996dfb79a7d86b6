-- The greatest capacity of a list of entries.
use Rattle.std.proofs.lemmas.Bool.{and_parts}
use Rattle.std.proofs.Common.{◌≡◌, ◌≤◌, ◌⊎◌, ℕ, Bool, true, false, cond, ltb, max, List, [], ◌∷◌, Some, None, inl, inr, refl, sym, ap, ◌∙◌, subst, arith}
use Rattle.std.specs.Prelude.{fold, IsSomeAnd}
use Rattle.std.specs.List.{list_all}
use Rattle.std.specs.Option.{option_map}
use Rattle.std.specs.Ordering.{is_eq}
use Rattle.std.proofs.lemmas.Bool.Decides.{nat_tests}
use Rattle.std.proofs.lemmas.Option.{none-some, same_Some}
use Rattle.co_value.specs.declared.key.Key.{Key}
use Rattle.co_value.specs.Keys.{same_key, is_key_before}
use Rattle.co_dict.specs.declared.row.Row.{Row}
use Rattle.co_dict.specs.Stores.{IsGreatestCapacity, greatest_capacity}
use Rattle.co_dict_build.specs.ListedEntries.{ListedEntry, entry_at, rows_in, keys_in, description_in, are_increasing}
use Rattle.co_dict_build.specs.LawfulLists.{equal_keys, list_has}
use Rattle.co_dict.proofs.GreatestCapacity.{greatest_at, one_greatest}
use Rattle.co_dict_build.proofs.Search.{after_compares, other_compares, same_itself}

-- the greatest capacity of entries and of those before them
abbrev pub most_of : ℕ → List ListedEntry → ℕ
most_of most entries = fold (λ most (entry : ListedEntry). max most entry.row.capacity) most entries

most_of-above : (most : ℕ) (entries : List ListedEntry) → most ≤ most_of most entries
most_of-above most [] = omega arith
most_of-above most (e ∷ entries) = let above = most_of-above (max most e.row.capacity) entries in omega arith

bounded : (most : ℕ) (entries : List ListedEntry) (key : Key) (row : Row) → rows_in entries key ≡ Some row → row.capacity ≤ most_of most entries
bounded most [] key row h = absurd (none-some row h)
bounded most (e ∷ entries) key row h = by_same (same_key key e.key) h (bounded (max most e.row.capacity) entries key row)
  where
    by_same : (b : Bool) → option_map (λ (e : ListedEntry). e.row) (cond b (Some e) (entry_at entries key)) ≡ Some row
        → (rows_in entries key ≡ Some row → row.capacity ≤ most_of (max most e.row.capacity) entries) → row.capacity ≤ most_of (max most e.row.capacity) entries
    by_same true h later =
        let above = most_of-above (max most e.row.capacity) entries in
        subst (λ (row : Row). row.capacity ≤ most_of (max most e.row.capacity) entries) (same_Some e.row row h) (omega arith)
    by_same false h later = later h

-- a key that is before all keys of a list has no entry in it
absent : (key : Key) (entries : List ListedEntry) → list_all (is_key_before key) (keys_in entries) ≡ true → rows_in entries key ≡ None
absent key [] before = refl
absent key (e ∷ entries) before =
    let other = other_compares e.key key (ap is_eq (after_compares key e.key (and_parts (is_key_before key e.key) (list_all (is_key_before key) (keys_in entries)) before).0)) in
    ap (λ b. option_map (λ (e : ListedEntry). e.row) (cond b (Some e) (entry_at entries key))) other
    ∙ absent key entries (and_parts (is_key_before key e.key) (list_all (is_key_before key) (keys_in entries)) before).1

-- an entry of the list has this capacity
abbrev HasCapacity : List ListedEntry → ℕ → Type 0
HasCapacity entries size = (key : Key) × IsSomeAnd (rows_in entries key) (λ row. row.capacity ≡ size)

has_capacity_first : (e : ListedEntry) (entries : List ListedEntry) (size : ℕ) → e.row.capacity ≡ size → HasCapacity (e ∷ entries) size
has_capacity_first e entries size h =
    (e.key, subst (λ b. IsSomeAnd (option_map (λ (e : ListedEntry). e.row) (cond b (Some e) (entry_at entries e.key))) (λ row. row.capacity ≡ size)) (sym (same_itself e.key)) h)

has_capacity_later : (e : ListedEntry) (entries : List ListedEntry) (size : ℕ) → list_all (is_key_before e.key) (keys_in entries) ≡ true → HasCapacity entries size → HasCapacity (e ∷ entries) size
has_capacity_later e entries size before room = (room.0, by_same (same_key room.0 e.key) refl)
  where
    by_same : (b : Bool) → same_key room.0 e.key ≡ b → IsSomeAnd (option_map (λ (e : ListedEntry). e.row) (cond b (Some e) (entry_at entries room.0))) (λ row. row.capacity ≡ size)
    by_same true same =
        let none : rows_in entries room.0 ≡ None = subst (λ k. rows_in entries k ≡ None) (sym (equal_keys room.0 e.key same)) (absent e.key entries before) in
        absurd (subst (λ o. IsSomeAnd o (λ (row : Row). row.capacity ≡ size)) none room.1)
    by_same false other = room.1

-- one more entry before the others
one_more : (most : ℕ) (e : ListedEntry) (entries : List ListedEntry) (size : ℕ) → list_all (is_key_before e.key) (keys_in entries) ≡ true
    → (size ≡ max most e.row.capacity) ⊎ HasCapacity entries size → (size ≡ most) ⊎ HasCapacity (e ∷ entries) size
one_more most e entries size before (inr room) = inr (has_capacity_later e entries size before room)
one_more most e entries size before (inl is) = by_size (ltb most e.row.capacity) refl
  where
    by_size : (b : Bool) → ltb most e.row.capacity ≡ b → (size ≡ most) ⊎ HasCapacity (e ∷ entries) size
    by_size true more = let same : e.row.capacity ≡ size = grind (arith, nat_tests) in inr (has_capacity_first e entries size same)
    by_size false more = let same : size ≡ most = grind (arith, nat_tests) in inl same

reached : (most : ℕ) (entries : List ListedEntry) → are_increasing (keys_in entries) ≡ true → (most_of most entries ≡ most) ⊎ HasCapacity entries (most_of most entries)
reached most [] increasing = inl refl
reached most (e ∷ entries) increasing =
    one_more most e entries (most_of (max most e.row.capacity) entries)
    (and_parts (list_all (is_key_before e.key) (keys_in entries)) (are_increasing (keys_in entries)) increasing).0
    (reached (max most e.row.capacity) entries (and_parts (list_all (is_key_before e.key) (keys_in entries)) (are_increasing (keys_in entries)) increasing).1)

most_is_greatest : (entries : List ListedEntry) → are_increasing (keys_in entries) ≡ true → IsGreatestCapacity (rows_in entries) (most_of 0 entries)
most_is_greatest entries increasing = record { bound = bounded 0 entries; reached = reached 0 entries increasing }

-- it is the greatest capacity of the dictionary that the entries are
pub most_is : (node : ℕ) (dummies : List Bool) (entries : List ListedEntry) → are_increasing (keys_in entries) ≡ true → most_of 0 entries ≡ greatest_capacity (description_in node dummies entries)
most_is node dummies entries increasing =
    one_greatest (rows_in entries) _ _ (most_is_greatest entries increasing) (greatest_at (rows_in entries) (keys_in entries) (list_has entries))
