-- Original types as numbers, evaluated.
use Rattle.std.proofs.Common.{◌≡◌, ℕ, List, [], ◌∷◌, refl, codes, map}
use Rattle.co_value.specs.declared.data_type.DataType.TheVariants.{Unsigned32}
use Rattle.co_sheet_changes.specs.Originals.{original_at}
use Rattle.co_dict_table.specs.Entries.{code_or}

abbrev original_of : List ℕ → ℕ
original_of text = code_or (original_at text 1) Unsigned32

-- each original type, and one that no section says
each : map original_of (codes "[a]\nDataType=7\nOriginalDataType=8\n" ∷ codes "[a]\nDataType=10\nOriginalDataType=0xB\n"
    ∷ codes "[a]\nDataType=0x19\nOriginalDataType=12\n" ∷ codes "[a]\nDataType=0x19\nOriginalDataType=13\n"
    ∷ codes "[a]\nDataType=27\nOriginalDataType=17\n" ∷ codes "[a]\nDataType=7\n" ∷ [])
    ≡ 8 ∷ 11 ∷ 12 ∷ 13 ∷ 17 ∷ 7 ∷ []
unfolding original_at
each = refl
