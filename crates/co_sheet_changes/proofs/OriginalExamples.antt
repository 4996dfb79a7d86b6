-- Original data types, evaluated.
use Rattle.std.proofs.Common.{◌≡◌, ℕ, List, [], ◌∷◌, Option, Some, None, refl, codes, map}
use Rattle.co_sheet_changes.specs.Originals.{original_at}

abbrev originals : List ℕ → List (Option (List ℕ))
originals text = map (original_at text) (1 ∷ 2 ∷ 4 ∷ [])

adapted : originals (codes "; adapted\n[2000]\nDataType=0x0007\n[2001]\nDataType=7\nOriginalDataType=8\nOriginalDataType=9\n")
    ≡ None ∷ None ∷ Some (codes "0x0008") ∷ []
unfolding original_at
adapted = refl

-- the type that stands for it has other bytes, no such type, a type that isn't left out
others : map (λ text. original_at text 1) (codes "[2000]\nDataType=6\nOriginalDataType=8\n" ∷ codes "[2000]\nOriginalDataType=8\n" ∷ codes "[2000]\nDataType=7\nOriginalDataType=7\n"
    ∷ codes "[2000]\nDataType=7\nOriginalDataType=9\nOriginalDataType=8\n" ∷ [])
    ≡ None ∷ None ∷ None ∷ None ∷ []
unfolding original_at
others = refl

each : map (λ text. original_at text 1) (codes "[a]\nDataType=10\nOriginalDataType=0xB\n" ∷ codes "[a]\nDataType=0x19\nOriginalDataType=12\n"
    ∷ codes "[a]\nDataType=0x19\nOriginalDataType=13\n" ∷ codes "[a]\nDataType=27\nOriginalDataType=17\n" ∷ [])
    ≡ Some (codes "0x000B") ∷ Some (codes "0x000C") ∷ Some (codes "0x000D") ∷ Some (codes "0x0011") ∷ []
unfolding original_at
each = refl
