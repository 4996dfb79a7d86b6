-- Which entries changed, a bit each: bit p % 8 of byte p / 8 is that of the entry at place p.
use Rattle.std.specs.Prelude.{ℕ, ◌-◌, ◌/◌, ◌%◌, ◌^◌, ◌==◌, Bool, false, List, [], ◌∷◌, bit_and, bit_or, slice_index, slice_set}
use Rattle.std.specs.Int.{bit_at}
use Rattle.std.specs.Option.{option_map_or}
use Rattle.co_value.specs.declared.key.Key.{Key}
use Rattle.co_dict.specs.Stores.{Description}
use Rattle.co_dict.specs.Places.{place_of}

-- the entry at a place changed; past the last byte none did
abbrev pub is_changed : List ℕ → ℕ → Bool
is_changed changes place = bit_at (slice_index changes (place / 8)) (place % 8) == 1

-- the changes with that of the entry at a place; past the last byte nothing is noted
abbrev pub with_change : List ℕ → ℕ → List ℕ
with_change changes place = slice_set changes (place / 8) (bit_or (slice_index changes (place / 8)) (2 ^ (place % 8)))

-- the changes without it
abbrev pub without_change : List ℕ → ℕ → List ℕ
without_change changes place =
    slice_set changes (place / 8) (bit_and (slice_index changes (place / 8)) (255 - 2 ^ (place % 8)))

-- the changes with that of the entry with a key, if there is one
abbrev pub with_key : Description → Key → List ℕ → List ℕ
with_key d key changes = option_map_or (λ place. with_change changes place) (place_of d key) changes

-- the changes with those of the entries with these keys
abbrev pub with_keys : Description → List Key → List ℕ → List ℕ
with_keys d [] changes = changes
with_keys d (key ∷ keys) changes = with_keys d keys (with_key d key changes)

-- the entry with a key is the one at a place
abbrev pub is_at : Description → ℕ → Key → Bool
is_at d place key = option_map_or (λ p. place == p) (place_of d key) false
