-- The entry at a place of a list.
use Rattle.std.proofs.Common.{◌≡◌, ◌+◌, ◌<◌, ◌≤◌, ℕ, zero, suc, Bool, true, false, cond, not, List, [], ◌∷◌, length, get_or, map, Option, Some, None, refl, sym, ap, ◌∙◌, arith}
use Rattle.std.specs.Prelude.{find, position, nat_lt}
use Rattle.std.specs.List.{position_or_len}
use Rattle.std.specs.Option.{option_map, option_map_or}
use Rattle.std.proofs.lemmas.Bool.{false≢true}
use Rattle.std.proofs.lemmas.Bool.Decides.{nat_tests}
use Rattle.std.proofs.lemmas.List.Quantifiers.{position-Some}
use Rattle.std.proofs.lemmas.List.Sums.{fails_before_first}
use Rattle.std.proofs.lemmas.List.{length-map}
use Rattle.co_value.specs.declared.key.Key.{Key}
use Rattle.co_value.specs.Keys.{same_key}
use Rattle.co_dict.specs.Rows.{fits, takes}
use Rattle.co_dict_build.specs.ListedEntries.{ListedEntry, entry_at, rows_in}

-- ---- the first element that passes

module _ {X : Type 0} (p : X → Bool) where
  find-at : (xs : List X) (i : ℕ) (d : X) → i < length xs → p (get_or xs i d) ≡ true → ((k : ℕ) → k < i → p (get_or xs k d) ≡ false) → find p xs ≡ Some (get_or xs i d)
  find-at [] i d within here before = absurd (omega arith)
  find-at (x ∷ xs) zero d within here before = ap (λ b. cond b (Some x) (find p xs)) here
  find-at (x ∷ xs) (suc i) d within here before = ap (λ b. cond b (Some x) (find p xs)) (before 0 (omega arith)) ∙ find-at xs i d (omega arith) here (λ k lt. before (suc k) (omega arith))

  find-nowhere : (xs : List X) (d : X) → ((k : ℕ) → k < length xs → p (get_or xs k d) ≡ false) → find p xs ≡ None
  find-nowhere [] d nowhere = refl
  find-nowhere (x ∷ xs) d nowhere = ap (λ b. cond b (Some x) (find p xs)) (nowhere 0 (omega arith)) ∙ find-nowhere xs d (λ k lt. nowhere (suc k) (omega arith))

  find-position : (xs : List X) (i : ℕ) (d : X) → position p xs ≡ Some i → find p xs ≡ Some (get_or xs i d)
  find-position xs i d h = let first = position-Some p xs i d h in find-at xs i d first.0 first.1 first.2

  no_position : (xs : List X) → position p xs ≡ None → length xs ≤ position_or_len p xs
  no_position xs h = grind (arith, nat_tests)

  find-no_position : (xs : List X) → position p xs ≡ None → find p xs ≡ None
  find-no_position [] h = refl
  find-no_position (x ∷ xs) h = let past = no_position (x ∷ xs) h in find-nowhere (x ∷ xs) x (λ k lt. fails_before_first p (x ∷ xs) k x (omega arith))

-- ---- the entry of a key

abbrev pub place_of : List ListedEntry → Key → Option ℕ
place_of entries key = position (λ entry. same_key key entry.key) entries

-- what a part of the entry at a place is, by its key
pub part_at-place : {A : Type 0} (part : ListedEntry → A) (entries : List ListedEntry) (key : Key) (at : ℕ) (d : ListedEntry) → Some at ≡ place_of entries key → Some (part (get_or entries at d)) ≡ option_map part (entry_at entries key)
part_at-place part entries key at d place = sym (ap (option_map part) (find-position (λ entry. same_key key entry.key) entries at d (sym place)))

pub part_at-no_place : {A : Type 0} (part : ListedEntry → A) (entries : List ListedEntry) (key : Key) → None ≡ place_of entries key → None ≡ option_map part (entry_at entries key)
part_at-no_place part entries key place = sym (ap (option_map part) (find-no_position (λ entry. same_key key entry.key) entries (sym place)))

pub place_within : (entries : List ListedEntry) (key : Key) (at : ℕ) (d : ListedEntry) → Some at ≡ place_of entries key → at < length entries
place_within entries key at d place = (position-Some (λ entry. same_key key entry.key) entries at d (sym place)).0

-- where there is an entry that so many bytes fit, they fit the one at its place
pub fits_at-place : (entries : List ListedEntry) (key : Key) (at : ℕ) (d : ListedEntry) (size : ℕ) → takes (rows_in entries) key size ≡ true → Some at ≡ place_of entries key → fits (get_or entries at d).row size ≡ true
fits_at-place entries key at d size taken place = ap (λ row. option_map_or (λ row. fits row size) row false) (part_at-place (λ e. e.row) entries key at d place) ∙ taken

pub takes-no_place : (entries : List ListedEntry) (key : Key) (size : ℕ) → takes (rows_in entries) key size ≡ true → None ≡ place_of entries key → ⊥
takes-no_place entries key size taken place = false≢true (ap (λ row. option_map_or (λ row. fits row size) row false) (part_at-no_place (λ e. e.row) entries key place) ∙ taken)

-- ---- places among what is in memory, and among its views

module _ {X Y : Type 0} (p : Y → Bool) (view : X → Y) where
  position_or_len-map : (xs : List X) → position_or_len p (map view xs) ≡ position_or_len (λ x. p (view x)) xs
  position_or_len-map [] = refl
  position_or_len-map (x ∷ xs) = ap (λ n. cond (not (p (view x))) (1 + n) 0) (position_or_len-map xs)

  pub position-map : (xs : List X) → position (λ x. p (view x)) xs ≡ position p (map view xs)
  position-map xs =
      ap (λ n. cond (nat_lt n (length xs)) (Some n) None) (sym (position_or_len-map xs))
      ∙ ap (λ n. cond (nat_lt (position_or_len p (map view xs)) n) (Some (position_or_len p (map view xs))) None) (sym (length-map xs view))
