-- The places of the entries of a dictionary: their numbers in the list of its keys, from 0 on.
use Rattle.std.specs.Prelude.{ℕ, Bool, false, List, Option, position, slice_get}
use Rattle.std.specs.Option.{option_and_then, option_map_or}
use Rattle.co_value.specs.declared.key.Key.{Key}
use Rattle.co_value.specs.Keys.{same_key}
use Rattle.co_dict.specs.declared.row.Row.{Row}
use Rattle.co_dict.specs.Rows.{Contents, takes, written}
use Rattle.co_dict.specs.Stores.{Description}

-- the place of a key
abbrev pub place_of : Description → Key → Option ℕ
place_of d key = position (same_key key) d.keys

-- the key at a place
abbrev pub key_at : Description → ℕ → Option Key
key_at d place = slice_get d.keys place

-- the row of the entry at a place; none where there is no entry
abbrev pub row_at : Description → ℕ → Option Row
row_at d place = option_and_then d.rows (key_at d place)

-- the bytes of the entry at a place; none where there is no entry
abbrev pub bytes_at : Description → Contents → ℕ → Option (List ℕ)
bytes_at d contents place = option_and_then contents (key_at d place)

-- there is an entry at a place, and this many bytes fit it
abbrev pub takes_at : Description → ℕ → ℕ → Bool
takes_at d place size = option_map_or (λ key. takes d.rows key size) (key_at d place) false

-- the contents after the entry at a place was set
abbrev pub written_at : Description → Contents → ℕ → List ℕ → Contents
written_at d contents place bytes = option_map_or (λ key. written contents key bytes) (key_at d place) contents
