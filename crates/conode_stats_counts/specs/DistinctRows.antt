-- No identifier has two rows.
use Rattle.std.specs.Prelude.{◌≡◌, ℕ, ◌==◌, ⊤, false, List, [], ◌∷◌, map}
use Rattle.conode_stats_counts.specs.declared.row.Row.{Row}

-- a number isn't among others
abbrev pub IsNew : ℕ → List ℕ → Type 0
IsNew number [] = ⊤
IsNew number (other ∷ others) = ((other == number) ≡ false) × IsNew number others

abbrev pub AreDistinct : List ℕ → Type 0
AreDistinct [] = ⊤
AreDistinct (number ∷ others) = IsNew number others × AreDistinct others

abbrev pub ids_of : List Row → List ℕ
ids_of rows = map (λ row. row.can_id) rows

-- a record, so that a search keeps it whole
pub record HaveDistinctIds (rows : List Row) : Type 0 where
  pub distinct : AreDistinct (ids_of rows)
