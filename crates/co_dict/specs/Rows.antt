-- An object dictionary: the rows and the bytes of its entries, by their keys (CiA 301, 7.4).
use Rattle.std.specs.Prelude.{ℕ, ◌==◌, Bool, true, false, nat_le, List, [], Option, Some, if◌then◌else◌, unwrap_or, is_some}
use Rattle.std.specs.Option.{option_map_or}
use Rattle.co_value.specs.declared.key.Key.{Key}
use Rattle.co_value.specs.Keys.{same_key}
use Rattle.co_value.specs.Types.{width_of}
use Rattle.co_value.specs.Numbers.{unsigned_of, low_bytes}
use Rattle.co_profile.specs.Indices.{is_within, communication_profile}
use Rattle.co_dict.specs.declared.row.Row.{Row}
use Rattle.co_dict.specs.declared.area.Area.{Area}
use Rattle.co_dict.specs.declared.area.Area.TheVariants.{Communication, All}

-- the row of each key that has an entry
abbrev pub Rows : Type 0
Rows = Key → Option Row

-- the bytes of each key that has an entry
abbrev pub Contents : Type 0
Contents = Key → Option (List ℕ)

-- this many bytes fit an entry: for a number exactly the width of its type, else at most its
-- capacity
abbrev pub fits : Row → ℕ → Bool
fits row size = option_map_or (λ width. size == width) (width_of row.data_type) (nat_le size row.capacity)

-- there is an entry, and this many bytes fit it
abbrev pub takes : Rows → Key → ℕ → Bool
takes rows key size = option_map_or (λ row. fits row size) (rows key) false

-- how many bytes an entry has room for; none where there is no entry
abbrev pub capacity_at : Rows → Key → ℕ
capacity_at rows key = option_map_or (λ row. row.capacity) (rows key) 0

-- the contents after one entry was set
abbrev pub written : Contents → Key → List ℕ → Contents
written contents key bytes = λ other. if same_key other key then Some bytes else contents other

-- the contents after the number of an entry of UNSIGNED8 was set, where there is such an entry
abbrev pub with_number : Rows → Key → ℕ → Contents → Contents
with_number rows key number contents = if is_some (rows key) then written contents key (low_bytes 1 number) else contents

-- the entries that a reset restores: the communication profile's, 1000h to 1FFFh, or all
abbrev pub is_in_area : Area → Key → Bool
is_in_area Communication key = is_within communication_profile key.index
is_in_area All key = true

-- the contents after a reset of an area to its initial bytes
abbrev pub restored : Area → Contents → Contents → Contents
restored area initial contents = λ key. if is_in_area area key then initial key else contents key

-- the number that an entry of an UNSIGNED type holds, 0 where there is no such entry
abbrev pub number_at : Contents → Key → ℕ
number_at contents key = unsigned_of (unwrap_or (contents key) [])
