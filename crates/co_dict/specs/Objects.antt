-- Objects and their sub-indices: which are there, and the abort code where one is absent
-- (CiA 301, 7.4.1).
use Rattle.std.specs.Prelude.{ℕ, Bool, not, is_some, is_none, length, Option, option_and_then, List, [], ◌∷◌}
use Rattle.std.specs.List.{list_any, range_with_len, take_while}
use Rattle.co_value.specs.declared.key.Key.{Key}
use Rattle.co_dict.specs.declared.row.Row.{Row}
use Rattle.co_dict.specs.Rows.{Rows}
use Rattle.co_dict.specs.Refusals.{refused_if, first_of, first_refusal}
use Rattle.co_frame_aborts.specs.AbortCodes.{object_missing, sub_index_missing}

-- an object has an entry of a sub-index
abbrev pub has_sub : Rows → ℕ → ℕ → Bool
has_sub rows index sub = is_some (rows (record { index = index; sub = sub }))

-- there is an entry of the index, sub-index 0 to 255
unfoldable pub has_object : Rows → ℕ → Bool
has_object rows index = list_any (has_sub rows index) (range_with_len 0 256)

-- an entry is absent: no entry of the index, or no such sub-index
abbrev pub missing_entry : Rows → Key → Option ℕ
missing_entry rows key = first_refusal (
    refused_if (not (has_object rows key.index)) object_missing
    ∷ refused_if (is_none (rows key)) sub_index_missing
    ∷ [])

-- the first refusal at a key: the entry is absent, or the first of those that its row gives
abbrev pub entry_refusal : Rows → Key → (Row → List (Option ℕ)) → Option ℕ
entry_refusal rows key refusals = first_of (missing_entry rows key) (option_and_then (λ row. first_refusal (refusals row)) (rows key))

-- the greatest number up to `most` such that sub-indices 1 to it are there
unfoldable pub subs_present : Rows → ℕ → ℕ → ℕ
subs_present rows index most = length (take_while (has_sub rows index) (range_with_len 1 most))
