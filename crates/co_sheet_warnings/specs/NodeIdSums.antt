-- Sums with `$NODEID` that are no value of their entry for any node-ID (CiA 306-1, object description;
-- CiA 301, node-ID).
use Rattle.std.specs.Prelude.{
  ℕ,
  ◌+◌,
  Bool,
  not,
  ◌&&◌,
  ◌||◌,
  if◌then◌else◌,
  List,
  [],
  ◌∷◌,
  codes,
  ℤ,
  pos,
  Option,
  Some,
  None,
  option_and_then,
}
use Rattle.std.specs.Option.{option_map_or}
use Rattle.std.specs.Result.{result_ok}
use Rattle.co_value.specs.declared.data_type.DataType.{DataType}
use Rattle.co_value.specs.Types.{greatest_of, least_of}
use Rattle.co_sheet_text.specs.Sections.{Property, TextSection, property_at}
use Rattle.co_sheet.specs.Limits.{
  Default,
  at_most,
  is_numeric,
  node_id,
  number_at_type,
  numeric_default,
}
use Rattle.co_sheet_warnings.specs.Limits.{type_at}
use Rattle.co_sheet_warnings.specs.Repeats.{value_in}

-- the limit that a section states at a key, as its type reads it
abbrev pub limit_in : List ℕ → DataType → TextSection → Option ℤ
limit_in name t s =
    option_and_then (λ k. result_ok (number_at_type t k.value)) (property_at name s)

-- a number is above what the type and the limits permit, or below it
abbrev pub is_above : DataType → TextSection → ℤ → Bool
is_above t s value =
    not (at_most (Some value) (greatest_of t)
    && at_most (Some value) (limit_in (codes "HighLimit") t s))

abbrev pub is_below : DataType → TextSection → ℤ → Bool
is_below t s value =
    not (at_most (least_of t) (Some value)
    && at_most (limit_in (codes "LowLimit") t s) (Some value))

-- a sum with a node-ID from 1 to 127 is permitted for none: that with 1 is above, or that with 127
-- below
abbrev pub is_never_permitted : DataType → TextSection → ℕ → Bool
is_never_permitted t s n = is_above t s (pos (n + 1)) || is_below t s (pos (n + 127))

-- the line of a value that is such a sum
abbrev pub line_of_sum : TextSection → DataType → Property → Default → List ℕ
line_of_sum s t k (node_id n) = if is_never_permitted t s n then k.line ∷ [] else []
line_of_sum s t k other = []

abbrev pub stated_sum : TextSection → DataType → Property → List ℕ
stated_sum s t k = option_map_or (line_of_sum s t k) (result_ok (numeric_default t k.value)) []

-- of the value that an entry begins with; a string or a domain has no sums
abbrev pub sum_in : TextSection → DataType → List ℕ
sum_in s t = if is_numeric t then option_map_or (stated_sum s t) (value_in s) [] else []

-- where the node-ID is known, this is a fault of what is built for it (ValueRange)
abbrev pub node_id_sum : Option ℕ → TextSection → List ℕ
node_id_sum (Some node) s = []
node_id_sum None s = option_map_or (sum_in s) (type_at s) []
