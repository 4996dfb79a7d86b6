-- What the texts of services share.
use Rattle.std.specs.Prelude.{ℕ, ◌==◌, List, [], find}
use Rattle.std.specs.Option.{option_map_or}
use Rattle.conode_explain_services.specs.declared.texts.Row.{Row}

-- the words of a number in a table; none where the table doesn't have it
abbrev pub words_in : List (ℕ × List ℕ) → ℕ → List ℕ
words_in table number = option_map_or (λ row. row.1) (find (λ row. row.0 == number) table) []

-- a row of a table of the code, and the words of a number in such a table
abbrev pub row_of : Row → ℕ × List ℕ
row_of row = (row.0, row.1.now)

abbrev pub words_of : List Row → ℕ → List ℕ
words_of rows number = option_map_or (λ row. row.1.now) (find (λ row. row.0 == number) rows) []
