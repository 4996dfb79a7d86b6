-- Names by their numbers.
use denote.Ref.{Bor}
use Rattle.std.specs.Prelude.{ℕ, ◌==◌, List, Option, option_map, find}

-- a row of a table of names
abbrev pub row_view : ℕ × Bor (List ℕ) → ℕ × List ℕ
row_view row = (row.0, row.1.now)

-- the name of a number among these
abbrev pub name_among : ℕ → List (ℕ × List ℕ) → Option (List ℕ)
name_among n rows = option_map (λ row. row.1) (find (λ row. row.0 == n) rows)
