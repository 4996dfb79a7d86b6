-- The mapping of a PDO.
use Rattle.std.specs.Prelude.{ℕ, List}

-- a mapping parameter: its sub-index 0, and its sub-indices from 1 on
pub record Mapping : Type 0 where
  pub count : ℕ
  pub words : List ℕ
