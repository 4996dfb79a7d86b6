-- What a store of entries is, and what holds of each (CiA 301, 7.4).
use Rattle.std.specs.Prelude.{◌≡◌, ◌≤◌, ◌<◌, ◌≤ℤ◌, ◌⊎◌, ℕ, Bool, true, List, fold, length, max, Some, is_some, IsSomeAnd}
use Rattle.std.specs.List.{list_any}
use Rattle.co_value.specs.declared.key.Key.{Key}
use Rattle.co_value.specs.Keys.{same_key}
use Rattle.co_value.specs.Types.{width_of, InRange}
use Rattle.co_value.specs.Numbers.{AreBytes}
use Rattle.co_value.specs.declared.data_type.DataType.{DataType}
use Rattle.co_profile.specs.FixedTypes.{fixed_type_of}
use Rattle.co_dict.specs.declared.row.Row.{Row}
use Rattle.co_dict.specs.Rows.{Rows, Contents, capacity_at, fits}

-- what never changes of a dictionary: the node-ID, the rows, the bytes that a reset restores, the
-- dummy entries that may be mapped, and the keys that have an entry
pub record Description : Type 0 where
  pub node : ℕ
  pub rows : Rows
  pub initial : Contents
  pub dummies : ℕ → Bool
  pub keys : List Key

-- each entry has bytes, and they fit it
pub record IsFilled (rows : Rows) (contents : Contents) : Type 0 where
  pub present : (key : Key) → is_some (contents key) ≡ is_some (rows key)
  pub fitting : (key : Key) (row : Row) (bytes : List ℕ) → rows key ≡ Some row → contents key ≡ Some bytes → fits row (length bytes) ≡ true
  pub bytes : (key : Key) (bytes : List ℕ) → contents key ≡ Some bytes → AreBytes bytes

-- the index is of 16 bits, and the sub-index of 8
pub record IsKey (key : Key) : Type 0 where
  pub index : key.index < 65536
  pub sub : key.sub < 256

-- the low limit is at most the high one, and a number's limits are numbers of its type
pub record HasLimits (row : Row) : Type 0 where
  pub ordered : row.low ≤ℤ row.high
  pub low : (width : ℕ) → width_of row.data_type ≡ Some width → InRange row.data_type row.low
  pub high : (width : ℕ) → width_of row.data_type ≡ Some width → InRange row.data_type row.high

-- the rows of a dictionary: finitely many; their indices are from 1000h on; the capacity of a
-- number is its width; an entry whose type is fixed has that type; the dummy entries are 0002h to
-- 0007h
pub record IsDescription (d : Description) : Type 0 where
  pub first_node : 1 ≤ d.node
  pub last_node : d.node ≤ 127
  pub finite : (key : Key) → is_some (d.rows key) ≡ list_any (same_key key) d.keys
  pub width : (key : Key) (row : Row) (width : ℕ) → d.rows key ≡ Some row → width_of row.data_type ≡ Some width → row.capacity ≡ width
  pub fixed : (key : Key) (row : Row) (t : DataType) → d.rows key ≡ Some row → fixed_type_of key ≡ Some t → row.data_type ≡ t
  pub key : (key : Key) (row : Row) → d.rows key ≡ Some row → IsKey key
  pub from_1000 : (key : Key) (row : Row) → d.rows key ≡ Some row → 0x1000 ≤ key.index
  pub capacity : (key : Key) (row : Row) → d.rows key ≡ Some row → row.capacity ≤ 65535
  pub limits : (key : Key) (row : Row) → d.rows key ≡ Some row → HasLimits row
  pub dummies : (index : ℕ) → d.dummies index ≡ true → (2 ≤ index) × (index ≤ 7)

-- the greatest capacity of all entries: none has more, and one has as much, if there is any
pub record IsGreatestCapacity (rows : Rows) (size : ℕ) : Type 0 where
  pub bound : (key : Key) (row : Row) → rows key ≡ Some row → row.capacity ≤ size
  pub reached : (size ≡ 0) ⊎ ((key : Key) × IsSomeAnd (rows key) (λ row. row.capacity ≡ size))

-- the greatest capacity of the entries of a dictionary, in bytes; 0 if it has none
abbrev pub greatest_capacity : Description → ℕ
greatest_capacity d = fold (λ most key. max most (capacity_at d.rows key)) 0 d.keys

-- a dictionary with its contents
pub record IsDictionary (d : Description) (contents : Contents) : Type 0 where
  pub description : IsDescription d
  pub initially : IsFilled d.rows d.initial
  pub filled : IsFilled d.rows contents
