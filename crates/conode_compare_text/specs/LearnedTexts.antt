-- The line of a value that a recording showed.
use Rattle.std.specs.Prelude.{ℕ, ◌*◌, ◌%◌, ◌==◌, if◌then◌else◌, List, [], ◌∷◌, ◌++◌, take, codes, Option, Some, None}
use Rattle.co_value.specs.declared.key.Key.{Key}
use Rattle.co_value.specs.Numbers.{low_bytes}
use Rattle.conode_explain_values.specs.declared.value_type.ValueType.{ValueType}
use Rattle.conode_explain_values.specs.Values.{named_key, value_text}

-- a number of up to four bytes, of a type: as `explain` shows it
unfoldable pub typed_text : ValueType → ℕ → ℕ → List ℕ
typed_text t width number = value_text t (8 * width) (take width (low_bytes 4 (number % 0x100000000)))

-- the number of the data sheet, where it is another one
unfoldable pub other_text : ValueType → ℕ → ℕ → List ℕ
other_text t width sheet = codes ", the sheet has " ++ typed_text t width sheet

abbrev pub sheet_text : ValueType → ℕ → ℕ → Option ℕ → List ℕ
sheet_text t width number None = []
sheet_text t width number (Some sheet) = if sheet == number then [] else other_text t width sheet

-- `learned: Temperature 2001:01 = 1000, the sheet has 500`
unfoldable pub learned_line : Option (List ℕ) → Key → ValueType → ℕ → ℕ → Option ℕ → List ℕ
learned_line name key t width number sheet =
    codes "learned: " ++ named_key name key ++ codes " = " ++ typed_text t width number ++ sheet_text t width number sheet ++ 10 ∷ []
