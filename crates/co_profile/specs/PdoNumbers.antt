-- The numbers of the PDOs of a side, 0 to 511 (CiA 301, 7.5.2.35 and 7.5.2.37).
use Rattle.std.specs.Prelude.{ℕ, ◌+◌, Option, Some, None}

-- how many numbers there are up to that of the last PDO, if there is a PDO
abbrev pub count_to : Option ℕ → ℕ
count_to None = 0
count_to (Some last) = last + 1
