-- Counting in lists.
use Rattle.std.specs.Prelude.{ℕ, ◌+◌, ◌-◌, ◌^◌, ◌==◌, min, nat_lt, Bool, if◌then◌else◌, List, [], ◌∷◌, ◌++◌, length, position, slice_set, Option, Some, None}
use Rattle.std.specs.List.{slice_index_or}
use Rattle.conode_compare_report.specs.declared.coverage.Numbered.{Numbered}

-- one more, up to 2^64 - 1
abbrev pub one_more : ℕ → ℕ
one_more count = min (count + 1) (2 ^ 64 - 1)

-- the element at a place is changed, if there is one; `none` is any value
abbrev pub changed_at : {A : Type 0} → A → ℕ → (A → A) → List A → List A
changed_at none place change items =
    if nat_lt place (length items) then slice_set items place (change (slice_index_or items place none)) else items

-- ---- how often numbers came

abbrev pub is_number : ℕ → Numbered → Bool
is_number number counted = counted.number == number

abbrev pub first_one : ℕ → Numbered
first_one number = record { number = number; count = 1 }

abbrev pub one_more_of : Numbered → Numbered
one_more_of counted = record counted { count = one_more counted.count }

-- a number came that is at a place, or is new: so many different ones have room
abbrev pub numbered_at : Option ℕ → ℕ → ℕ → List Numbered → List Numbered
numbered_at (Some place) most number numbers = changed_at (first_one number) place one_more_of numbers
numbered_at None most number numbers = if nat_lt (length numbers) most then numbers ++ first_one number ∷ [] else numbers

unfoldable pub numbered_with : ℕ → ℕ → List Numbered → List Numbered
numbered_with most number numbers = numbered_at (position (is_number number) numbers) most number numbers
