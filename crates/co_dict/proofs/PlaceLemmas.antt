-- What follows for places from what holds of each store.
use Rattle.std.proofs.Common.{◌≡◌, ℕ, suc, Bool, true, false, cond, not, ◌+◌, ◌||◌, List, [], ◌∷◌, length, Some, None, refl, sym, ap, ◌∙◌, arith}
use Rattle.std.specs.Prelude.{is_some, position, nat_lt}
use Rattle.std.specs.Option.{option_and_then, option_map_or}
use Rattle.std.specs.List.{list_any, position_or_len}
use Rattle.std.proofs.lemmas.List.Quantifiers.{position-Some}
use Rattle.std.proofs.lemmas.Option.{slice_get-get_or, same_Some}
use Rattle.std.proofs.lemmas.Bool.Decides.{nat_tests}
use Rattle.co_value.specs.declared.key.Key.{Key}
use Rattle.co_value.specs.Keys.{same_key, same_key-is}
use Rattle.co_dict.specs.Rows.{Contents, takes, written}
use Rattle.co_dict.specs.Stores.{Description, IsDescription}
use Rattle.co_dict.specs.Places.{place_of, key_at, row_at, bytes_at, takes_at, written_at}

-- the key of a place is at it
pub key_of_place : (d : Description) (key : Key) (place : ℕ) → place_of d key ≡ Some place → key_at d place ≡ Some key
key_of_place d key place h =
    let first = position-Some (same_key key) d.keys place key h in
    slice_get-get_or d.keys place key first.0 ∙ ap Some (sym (same_key-is key _ first.1))

-- a test passes somewhere exactly where there is a first place at which it does
by_first : (b : Bool) (n size : ℕ) → is_some (cond (nat_lt n size) (Some n) None) ≡ b → is_some (cond (nat_lt (1 + n) (suc size)) (Some (1 + n)) None) ≡ b
by_first b n size h =
    let same : nat_lt (1 + n) (suc size) ≡ nat_lt n size = grind (arith, nat_tests) in
    ap (λ t. is_some (cond t (Some (1 + n)) None)) same ∙ by_test (nat_lt n size) h
  where
    by_test : (t : Bool) → is_some (cond t (Some n) None) ≡ b → is_some (cond t (Some (1 + n)) None) ≡ b
    by_test true h = h
    by_test false h = h

somewhere : {X : Type 0} (p : X → Bool) (xs : List X) → is_some (position p xs) ≡ list_any p xs
somewhere p [] = refl
somewhere p (x ∷ xs) = by_test (p x) (somewhere p xs)
  where
    by_test : (t : Bool) → is_some (position p xs) ≡ list_any p xs
        → is_some (cond (nat_lt (cond (not t) (1 + position_or_len p xs) 0) (length (x ∷ xs))) (Some (cond (not t) (1 + position_or_len p xs) 0)) None) ≡ (t || list_any p xs)
    by_test true later = let here : nat_lt 0 (suc (length xs)) ≡ true = grind (arith, nat_tests) in ap (λ b. is_some {T = ℕ} (cond b (Some 0) None)) here
    by_test false later = by_first (list_any p xs) (position_or_len p xs) (length xs) later

-- exactly the keys that have an entry have a place
pub has_place : (d : Description) → IsDescription d → (key : Key) → is_some (place_of d key) ≡ is_some (d.rows key)
has_place d h key = somewhere (same_key key) d.keys ∙ sym (h.finite key)

-- different keys have different places
pub one_key : (d : Description) (a b : Key) (place : ℕ) → place_of d a ≡ Some place → place_of d b ≡ Some place → a ≡ b
one_key d a b place at_a at_b = same_Some a b (sym (key_of_place d a place at_a) ∙ key_of_place d b place at_b)

-- by its place an entry is what it is by its key
pub row_by_place : (d : Description) (key : Key) (place : ℕ) → place_of d key ≡ Some place → row_at d place ≡ d.rows key
row_by_place d key place h = ap (option_and_then d.rows) (key_of_place d key place h)

pub bytes_by_place : (d : Description) (contents : Contents) (key : Key) (place : ℕ) → place_of d key ≡ Some place → bytes_at d contents place ≡ contents key
bytes_by_place d contents key place h = ap (option_and_then contents) (key_of_place d key place h)

pub takes_by_place : (d : Description) (key : Key) (place size : ℕ) → place_of d key ≡ Some place → takes_at d place size ≡ takes d.rows key size
takes_by_place d key place size h = ap (λ k. option_map_or (λ key. takes d.rows key size) k false) (key_of_place d key place h)

pub written_by_place : (d : Description) (contents : Contents) (key : Key) (place : ℕ) (bytes : List ℕ) → place_of d key ≡ Some place → written_at d contents place bytes ≡ written contents key bytes
written_by_place d contents key place bytes h = ap (λ k. option_map_or (λ key. written contents key bytes) k contents) (key_of_place d key place h)
