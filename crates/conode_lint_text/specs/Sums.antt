-- The node-IDs for which a sum with `$NODEID` is within its type and its limits (CiA 306-1, object
-- description; CiA 301, node-ID).
use Rattle.std.specs.Prelude.{ℕ, ◌-◌, min, max, nat_le, ℤ, pos, if◌then◌else◌, List, codes, Option, Some, None, option_and_then}
use Rattle.std.specs.Option.{option_map_or}
use Rattle.std.specs.Result.{result_ok}
use Rattle.co_value.specs.Types.{greatest_of}
use Rattle.co_value.specs.declared.data_type.DataType.{DataType}
use Rattle.co_value.specs.declared.key.Key.{Key}
use Rattle.co_sheet_text.specs.Sections.{TextSection}
use Rattle.co_sheet.specs.Limits.{Default, node_id, numeric_default}
use Rattle.conode_lint_text.specs.Bounds.{bound_at, numeric_type}
use Rattle.conode_lint_text.specs.Facts.{key_value, section_before}
use Rattle.conode_lint_text.specs.declared.finding.About.{About}
use Rattle.conode_lint_text.specs.declared.finding.About.TheVariants.{Entry, Sum, NoSum}

-- the last node-ID with which a sum is at most a number, 0 if there is none
abbrev pub last_to : ℕ → ℤ → ℕ
last_to n (pos most) = min (most - n) 127
last_to n other = 0

-- the first with which it is at least a number, 128 if there is none
abbrev pub first_from : ℕ → ℤ → ℕ
first_from n (pos least) = max (min (least - n) 128) 1
first_from n other = 1

-- the last by the type and HighLimit; the first by LowLimit, since no type begins above 0
abbrev pub last_node : DataType → TextSection → ℕ → ℕ
last_node t s n =
    min (option_map_or (last_to n) (greatest_of t) 127)
    (option_map_or (λ high. last_to n high.number) (bound_at t (codes "HighLimit") s) 127)

abbrev pub first_node : DataType → TextSection → ℕ → ℕ
first_node t s n =
    option_map_or (λ low. first_from n low.number) (bound_at t (codes "LowLimit") s) 1

-- the node-IDs from one to another, or none
abbrev pub nodes_of : Key → ℕ → ℕ → About
nodes_of key first last =
    if nat_le first last then Sum key.index key.sub first last else NoSum key.index key.sub

-- the number in a sum
abbrev pub addend_of : Default → Option ℕ
addend_of (node_id n) = Some n
addend_of other = None

abbrev pub sum_with : Key → TextSection → DataType → ℕ → About
sum_with key s t n = nodes_of key (first_node t s n) (last_node t s n)

abbrev pub sum_at_type : Key → List ℕ → TextSection → DataType → About
sum_at_type key text s t =
    option_map_or (sum_with key s t)
    (option_and_then addend_of (result_ok (numeric_default t (key_value text))))
    (Entry key.index key.sub)

abbrev pub sum_in : Key → List ℕ → TextSection → About
sum_in key text s =
    option_map_or (sum_at_type key text s) (numeric_type s) (Entry key.index key.sub)

-- of the ValueRange of an entry, at the line of its value
abbrev pub value_range : Key → ℕ → List TextSection → List ℕ → About
value_range key line sections text =
    option_map_or (sum_in key text) (section_before line sections) (Entry key.index key.sub)
