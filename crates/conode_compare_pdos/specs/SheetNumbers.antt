-- The numbers that a data sheet gives entries, and that a transfer shows.
use Rattle.std.specs.Prelude.{ℕ, ◌+◌, ◌*◌, ◌^◌, nat_lt, if◌then◌else◌, pos, List, [], ◌∷◌, Option, Some, None, option_and_then}
use Rattle.std.specs.Option.{option_map_or}
use Rattle.co_sheet.specs.Content.{Row}
use Rattle.co_sheet.specs.Limits.{Default, number, node_id}
use Rattle.co_value.specs.declared.key.Key.{Key}
use Rattle.co_sheet_changes.specs.Names.{row_at}

-- the number that a value is, for a node
abbrev pub number_of : ℕ → Default → Option ℕ
number_of node (number (pos n)) = if nat_lt n (2 ^ 32) then Some n else None
number_of node (node_id n) = if nat_lt n (2 ^ 32) then Some (n + node) else None
number_of node other = None

-- the number, where it has 16 bits, or 8
abbrev pub small : Option ℕ → Option ℕ
small (Some n) = if nat_lt n (2 ^ 16) then Some n else None
small None = None

abbrev pub tiny : Option ℕ → Option ℕ
tiny (Some n) = if nat_lt n (2 ^ 8) then Some n else None
tiny None = None

-- the number that an entry begins with
abbrev pub preset_at : List Row → ℕ → Key → Option ℕ
preset_at rows node key = option_and_then (λ row. number_of node row.default) (row_at rows key)

-- a time that an entry begins with; none is kept where there is no such entry
abbrev pub time_at : List Row → ℕ → Key → Option ℕ
time_at rows node key = option_map_or (λ row. small (number_of node row.default)) (row_at rows key) (Some 0)

-- the number of two bytes, or of the first two of four
abbrev pub first_word : List ℕ → Option ℕ
first_word (low ∷ high ∷ []) = Some (low + high * 256)
first_word (low ∷ high ∷ c ∷ d ∷ []) = Some (low + high * 256)
first_word other = None
