-- A mapping parameter of a data sheet.
use Rattle.std.specs.Prelude.{ℕ, List, Option}

-- its sub-index 0, where the sheet has a number there, and its sub-indices from 1 on, 0 where it has
-- none
pub record SheetMapping : Type 0 where
  pub count : Option ℕ
  pub words : List ℕ
