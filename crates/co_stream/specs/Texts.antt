-- Whole texts.
use Rattle.std.specs.Prelude.{◌≡◌, ℕ, List, ◌++◌}

-- a text begins with this front, which may be all of it
abbrev pub BeginsWith : List ℕ → List ℕ → Type 0
BeginsWith text front = (rest : List ℕ) × (text ≡ front ++ rest)
