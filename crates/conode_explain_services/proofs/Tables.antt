-- Tables of the code have the words of their rows.
use Rattle.std.proofs.Common.{◌≡◌, ℕ, ◌==◌, Bool, true, false, List, [], ◌∷◌, map, Option, Some, refl}
use Rattle.std.specs.Prelude.{if◌then◌else◌}
use Rattle.std.specs.Option.{option_map_or}
use Rattle.conode_explain_services.specs.declared.texts.Row.{Row}
use Rattle.conode_explain_services.specs.Parts.{row_of, words_in, words_of}

found_alike : (b : Bool) (row : Row) (rest : Option Row) (others : Option (ℕ × List ℕ))
    → option_map_or (λ (r : Row). r.1.now) rest [] ≡ option_map_or (λ (r : ℕ × List ℕ). r.1) others []
    → option_map_or (λ (r : Row). r.1.now) (if b then Some row else rest) []
    ≡ option_map_or (λ (r : ℕ × List ℕ). r.1) (if b then Some (row_of row) else others) []
found_alike true row rest others h = refl
found_alike false row rest others h = h

pub by_rows : (rows : List Row) (number : ℕ) → words_of rows number ≡ words_in (map row_of rows) number
by_rows [] number = refl
by_rows (row ∷ rows) number = found_alike (row.0 == number) row _ _ (by_rows rows number)
