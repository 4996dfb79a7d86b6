-- A range of a list.
use Rattle.std.specs.Prelude.{ℕ, ◌+◌, List, ◌++◌, take, drop, length}

-- a list, overwritten with others from a place on
abbrev pub with_range : List ℕ → ℕ → List ℕ → List ℕ
with_range values start bytes = take start values ++ bytes ++ drop (start + length bytes) values
