-- An object dictionary as a list of its entries (CiA 301, 7.4).
use Rattle.std.specs.Prelude.{◌≡◌, ◌≤◌, ℕ, Bool, true, ◌&&◌, List, [], ◌∷◌, map, find, length, Option, Some, option_map, if◌then◌else◌}
use Rattle.std.specs.List.{list_all}
use Rattle.co_value.specs.declared.key.Key.{Key}
use Rattle.co_value.specs.declared.data_type.DataType.{DataType}
use Rattle.co_value.specs.Keys.{same_key, is_key_before}
use Rattle.co_value.specs.Types.{width_of}
use Rattle.co_value.specs.Numbers.{AreBytes}
use Rattle.co_profile.specs.FixedTypes.{fixed_type_of}
use Rattle.co_sheet.specs.Content.{is_dummy}
use Rattle.co_dict.specs.declared.row.Row.{Row}
use Rattle.co_dict.specs.declared.area.Area.{Area}
use Rattle.co_dict.specs.Rows.{Rows, Contents, fits, is_in_area}
use Rattle.co_dict.specs.Stores.{Description, IsKey, HasLimits}

-- an entry: its key, its row, its bytes, and those that a reset restores
pub record ListedEntry : Type 0 where
  pub key : Key
  pub row : Row
  pub bytes : List ℕ
  pub initial : List ℕ

-- an entry that has its initial bytes
abbrev pub initial_entry : Key → Row → List ℕ → ListedEntry
initial_entry key row initial = record { key = key; row = row; bytes = initial; initial = initial }

-- an entry after a reset of an area
abbrev pub reset_entry : Area → ListedEntry → ListedEntry
reset_entry area entry = record entry { bytes = if is_in_area area entry.key then entry.initial else entry.bytes }

-- the capacity of a number is its width
abbrev pub HasWidth : Row → Type 0
HasWidth row = (width : ℕ) → width_of row.data_type ≡ Some width → row.capacity ≡ width

-- an entry whose type is fixed has that type
abbrev pub HasFixedType : Key → Row → Type 0
HasFixedType key row = (t : DataType) → fixed_type_of key ≡ Some t → row.data_type ≡ t

-- what holds of an entry of each dictionary
pub record IsEntry (entry : ListedEntry) : Type 0 where
  pub key : IsKey entry.key
  pub from_1000 : 0x1000 ≤ entry.key.index
  pub capacity : entry.row.capacity ≤ 65535
  pub width : HasWidth entry.row
  pub fixed : HasFixedType entry.key entry.row
  pub limits : HasLimits entry.row
  pub fitting : fits entry.row (length entry.bytes) ≡ true
  pub bytes : AreBytes entry.bytes
  pub initially : fits entry.row (length entry.initial) ≡ true
  pub initial_bytes : AreBytes entry.initial

-- the entry of a key: the first that has it
abbrev pub entry_at : List ListedEntry → Key → Option ListedEntry
entry_at entries key = find (λ entry. same_key key entry.key) entries

-- the rows of the entries, by their keys
abbrev pub rows_in : List ListedEntry → Rows
rows_in entries = λ key. option_map (λ entry. entry.row) (entry_at entries key)

-- the bytes of the entries, by their keys
abbrev pub contents_in : List ListedEntry → Contents
contents_in entries = λ key. option_map (λ entry. entry.bytes) (entry_at entries key)

-- the bytes that a reset restores, by the keys of the entries
abbrev pub initial_in : List ListedEntry → Contents
initial_in entries = λ key. option_map (λ entry. entry.initial) (entry_at entries key)

-- the keys of the entries
abbrev pub keys_in : List ListedEntry → List Key
keys_in entries = map (λ entry. entry.key) entries

-- each key is before all that come after it
abbrev pub are_increasing : List Key → Bool
are_increasing [] = true
are_increasing (key ∷ keys) = list_all (is_key_before key) keys && are_increasing keys

-- the dictionary of a node-ID, of which dummy entries from 0002h to 0007h may be mapped, and of
-- entries
abbrev pub description_in : ℕ → List Bool → List ListedEntry → Description
description_in node dummies entries = record {
  node = node;
  rows = rows_in entries;
  initial = initial_in entries;
  dummies = is_dummy dummies;
  keys = keys_in entries;
}
