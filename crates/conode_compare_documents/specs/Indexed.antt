-- Texts of elements that depend on their index.
use Rattle.std.specs.Prelude.{ℕ, ◌+◌, List, [], ◌∷◌, ◌++◌}

-- what a function gives of each element and its index, from this index on
abbrev pub indexed : {A : Type 0} → (ℕ → A → List ℕ) → ℕ → List A → List ℕ
indexed text at [] = []
indexed text at (x ∷ rest) = text at x ++ indexed text (at + 1) rest
