-- The places of a dictionary that is a list of entries in increasing key: the positions in the list.
use Rattle.std.proofs.Common.{◌≡◌, ◌+◌, ◌*◌, ◌<◌, ◌≤◌, ℕ, zero, suc, Bool, true, false, cond, List, [], ◌∷◌, length, get_or, Some, None, refl, sym, ap, ◌∙◌, arith, eqb, ltb, ◌||◌, ◌&&◌}
use Rattle.std.specs.Prelude.{slice_get, nat_lt}
use Rattle.std.specs.Option.{option_map, option_map_or, option_and_then}
use Rattle.std.specs.List.{AllByRecursion}
use Rattle.std.proofs.lemmas.Bool.{false≢true}
use Rattle.std.proofs.lemmas.Bool.Decides.{nat_tests}
use Rattle.std.proofs.lemmas.Option.{none-some, slice_get-map, slice_get-get_or, slice_get_past}
use Rattle.std.specs.Ordering.{is_eq}
use Rattle.co_value.specs.declared.key.Key.{Key}
use Rattle.co_value.specs.Keys.{same_key, is_key_before}
use Rattle.co_dict.specs.Rows.{fits, takes, written}
use Rattle.co_dict.specs.Stores.{IsKey}
use Rattle.co_dict.specs.Places.{place_of, takes_at, written_at}
use Rattle.co_dict_build.specs.ListedEntries.{ListedEntry, IsEntry, entry_at, rows_in, contents_in, keys_in, are_increasing, description_in}
use Rattle.co_dict_build.proofs.Places.{part_at-place, place_within, fits_at-place, position-map, place_of as list_place}
use Rattle.co_dict_build.proofs.Search.{position_is, before_later, other_compares, same_itself, before_compares}
use Rattle.co_dict_build.proofs.Changes.{with_bytes, contents_in-with_bytes}

-- the place of a key in the list is that in the list of the keys
pub places_same : (node : ℕ) (dummies : List Bool) (entries : List ListedEntry) (key : Key) → list_place entries key ≡ place_of (description_in node dummies entries) key
places_same node dummies entries key = position-map (same_key key) (λ (e : ListedEntry). e.key) entries

-- the key at a place
key_here : (entries : List ListedEntry) (at : ℕ) (d : ListedEntry) → at < length entries → slice_get (keys_in entries) at ≡ Some (get_or entries at d).key
key_here entries at d within = slice_get-map (λ (e : ListedEntry). e.key) entries at ∙ ap (option_map (λ (e : ListedEntry). e.key)) (slice_get-get_or entries at d within)

no_key : (entries : List ListedEntry) (at : ℕ) → length entries ≤ at → slice_get (keys_in entries) at ≡ None
no_key entries at past = slice_get-map (λ (e : ListedEntry). e.key) entries at ∙ ap (option_map (λ (e : ListedEntry). e.key)) (slice_get_past entries at past)

module _ (entries : List ListedEntry) (increasing : are_increasing (keys_in entries) ≡ true) where
  -- each entry is the first of its key
  own_place : (at : ℕ) (d : ListedEntry) → at < length entries → Some at ≡ list_place entries (get_or entries at d).key
  own_place at d within =
      let key : Key = (get_or entries at d).key in
      let test : nat_lt at (length entries) ≡ true = grind (arith, nat_tests) in
      sym (position_is (λ (e : ListedEntry). e.key) entries increasing key at d (omega arith)
      (λ k lt. other_compares (get_or entries k d).key key (ap is_eq (before_compares (get_or entries k d).key key (before_later (λ (e : ListedEntry). e.key) entries k at d increasing lt within))))
      (λ lt. same_itself key)
      ∙ ap (λ b. cond b (Some at) None) test)

  -- a part of the entry at a place, by the key at the place
  pub part_by_place : {A : Type 0} (part : ListedEntry → A) (at : ℕ) (d : ListedEntry) → at < length entries → Some (part (get_or entries at d)) ≡ option_and_then (λ key. option_map part (entry_at entries key)) (slice_get (keys_in entries) at)
  part_by_place part at d within =
      part_at-place part entries (get_or entries at d).key at d (own_place at d within)
      ∙ sym (ap (option_and_then (λ key. option_map part (entry_at entries key))) (key_here entries at d within))

  -- bytes that fit at a place fit the entry there
  pub fits_by_place : (node : ℕ) (dummies : List Bool) (at : ℕ) (d : ListedEntry) (size : ℕ) → at < length entries → takes_at (description_in node dummies entries) at size ≡ true → fits (get_or entries at d).row size ≡ true
  fits_by_place node dummies at d size within taken =
      fits_at-place entries (get_or entries at d).key at d size
      (sym (ap (λ k. option_map_or (λ key. takes (rows_in entries) key size) k false) (key_here entries at d within)) ∙ taken)
      (own_place at d within)

  -- the entry at a place filled is the one of its key written
  pub written_by_place : (node : ℕ) (dummies : List Bool) (at : ℕ) (d : ListedEntry) (bytes : List ℕ) → at < length entries → contents_in (with_bytes entries at d bytes) ≡ written_at (description_in node dummies entries) (contents_in entries) at bytes
  written_by_place node dummies at d bytes within =
      contents_in-with_bytes entries at d (get_or entries at d).key bytes (own_place at d within)
      ∙ sym (ap (λ k. option_map_or (λ key. written (contents_in entries) key bytes) k (contents_in entries)) (key_here entries at d within))

-- where bytes fit there is an entry
pub within_by_place : (node : ℕ) (dummies : List Bool) (entries : List ListedEntry) (at size : ℕ) → takes_at (description_in node dummies entries) at size ≡ true → at < length entries
within_by_place node dummies entries at size taken = by_test (ltb at (length entries)) refl
  where
    by_test : (b : Bool) → ltb at (length entries) ≡ b → at < length entries
    by_test true h = grind (arith, nat_tests)
    by_test false h =
        let past : length entries ≤ at = grind (arith, nat_tests) in
        absurd (false≢true (sym (ap (λ k. option_map_or (λ key. takes (rows_in entries) key size) k false) (no_key entries at past)) ∙ taken))

-- ---- how many places there may be

-- a key as a number
abbrev code : Key → ℕ
code key = 256 * key.index + key.sub

code_rises : (a b : Key) → IsKey a → is_key_before a b ≡ true → code a < code b
code_rises a b small before = by_tests (ltb a.index b.index) (eqb a.index b.index) (ltb a.sub b.sub) refl refl refl before
  where
    by_tests : (less same less' : Bool) → ltb a.index b.index ≡ less → eqb a.index b.index ≡ same → ltb a.sub b.sub ≡ less' → (less || (same && less')) ≡ true → code a < code b
    by_tests true same less' l s l' h = let lower : a.index < b.index = grind (arith, nat_tests) in omega (arith, small.sub)
    by_tests false true true l s l' h =
        let equal : a.index ≡ b.index = grind (arith, nat_tests) in
        let lower : a.sub < b.sub = grind (arith, nat_tests) in
        omega arith
    by_tests false true false l s l' h = absurd (false≢true h)
    by_tests false false less' l s l' h = absurd (false≢true h)

is_key_at : (entries : List ListedEntry) → AllByRecursion IsEntry entries → (at : ℕ) (d : ListedEntry) → at < length entries → IsKey (get_or entries at d).key
is_key_at [] all at d within = absurd (omega arith)
is_key_at (e ∷ entries) all zero d within = all.0.key
is_key_at (e ∷ entries) all (suc at) d within = is_key_at entries all.1 at d (omega arith)

at_most_code : (entries : List ListedEntry) → AllByRecursion IsEntry entries → are_increasing (keys_in entries) ≡ true → (at : ℕ) (d : ListedEntry) → at < length entries → at ≤ code (get_or entries at d).key
at_most_code entries all increasing zero d within = omega arith
at_most_code entries all increasing (suc at) d within =
    let before = at_most_code entries all increasing at d (omega arith) in
    let rises = code_rises (get_or entries at d).key (get_or entries (suc at) d).key (is_key_at entries all at d (omega arith)) (before_later (λ (e : ListedEntry). e.key) entries at (suc at) d increasing (omega arith) within) in
    omega arith

-- keys are of 24 bits, so that a place is too
pub place_small : (entries : List ListedEntry) → AllByRecursion IsEntry entries → are_increasing (keys_in entries) ≡ true → (at : ℕ) (d : ListedEntry) → at < length entries → at < 16777216
place_small entries all increasing at d within =
    let most = at_most_code entries all increasing at d within in
    let key = is_key_at entries all at d within in
    let index : (get_or entries at d).key.index < 65536 = key.index in
    let sub : (get_or entries at d).key.sub < 256 = key.sub in
    omega arith

pub placed_small : (entries : List ListedEntry) → AllByRecursion IsEntry entries → are_increasing (keys_in entries) ≡ true → (key : Key) (at : ℕ) → Some at ≡ list_place entries key → at < 16777216
placed_small [] all increasing key at h = absurd (none-some at (sym h))
placed_small (e ∷ entries) all increasing key at h = place_small (e ∷ entries) all increasing at e (place_within (e ∷ entries) key at e h)
