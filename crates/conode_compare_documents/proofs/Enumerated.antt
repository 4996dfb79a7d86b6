-- What is appended of each element and its index.
use Rattle.std.proofs.Common.{◌≡◌, ℕ, ◌+◌, ◌<◌, ◌≤◌, List, ◌∷◌, ◌++◌, Option, length, map, drop, get_or, add-one, ap}
use Rattle.std.proofs.Math.Seq.{drop-cons}
use Rattle.std.proofs.lemmas.List.{drop_all}
use Rattle.conode_json.specs.Appended.{Appended}
use Rattle.conode_json.proofs.Appending.{both, nothing}
use Rattle.conode_compare_documents.specs.Indexed.{indexed}

next_and_more : {A : Type 0} (xs : List A) (i : ℕ) (d : A) → i < length xs → drop i xs ≡ get_or xs i d ∷ drop (i + 1) xs
next_and_more xs i d h = rw add-one (drop-cons xs i d h)

module _ {A V : Type 0} (view : A → V) (text : ℕ → V → List ℕ) (xs : List A) (i : ℕ) where
  begun : (d : A) → i < length xs → indexed text i (map view (drop i xs)) ≡ text i (view (get_or xs i d)) ++ indexed text (i + 1) (map view (drop (i + 1) xs))
  begun d h = ap (λ ys. indexed text i (map view ys)) (next_and_more xs i d h)

  -- where this and what comes after it are all, so are what comes after it once this is appended
  pub next_viewed : (d : A) {all : List ℕ} {t u v : Option (List ℕ)} → i < length xs
      → ((end : Option (List ℕ)) → Appended u (indexed text i (map view (drop i xs))) end → Appended t all end)
      → Appended u (text i (view (get_or xs i d))) v
      → (end : Option (List ℕ)) → Appended v (indexed text (i + 1) (map view (drop (i + 1) xs))) end → Appended t all end
  next_viewed d h so_far this end rest = so_far end (rw (begun d h) (both this rest))

  pub last_viewed : {all : List ℕ} {t u : Option (List ℕ)} → length xs ≤ i
      → ((end : Option (List ℕ)) → Appended u (indexed text i (map view (drop i xs))) end → Appended t all end) → Appended t all u
  last_viewed {u = u} h so_far = so_far u (rw (drop_all i xs h) (nothing u))

module _ {A : Type 0} (text : ℕ → A → List ℕ) (xs : List A) (i : ℕ) where
  begun_one : (d : A) → i < length xs → indexed text i (drop i xs) ≡ text i (get_or xs i d) ++ indexed text (i + 1) (drop (i + 1) xs)
  begun_one d h = ap (indexed text i) (next_and_more xs i d h)

  pub next_one : (d : A) {all : List ℕ} {t u v : Option (List ℕ)} → i < length xs
      → ((end : Option (List ℕ)) → Appended u (indexed text i (drop i xs)) end → Appended t all end)
      → Appended u (text i (get_or xs i d)) v
      → (end : Option (List ℕ)) → Appended v (indexed text (i + 1) (drop (i + 1) xs)) end → Appended t all end
  next_one d h so_far this end rest = so_far end (rw (begun_one d h) (both this rest))

  pub last_one : {all : List ℕ} {t u : Option (List ℕ)} → length xs ≤ i
      → ((end : Option (List ℕ)) → Appended u (indexed text i (drop i xs)) end → Appended t all end) → Appended t all u
  last_one {u = u} h so_far = so_far u (rw (drop_all i xs h) (nothing u))
