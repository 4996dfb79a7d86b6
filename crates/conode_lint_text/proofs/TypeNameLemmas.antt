-- The names of types, of the code's table and of the definition's.
use Rattle.std.proofs.Common.{◌≡◌, ℕ, Bool, true, false, cond, List, [], ◌∷◌, map, Option, Some, refl}
use Rattle.std.specs.Prelude.{find, option_map}
use Rattle.co_sheet_text.specs.Text.{same_name}
use Rattle.conode_lint_text.specs.declared.type_names.TypeName.{TypeName}

abbrev row_of_code : TypeName → List ℕ × ℕ
row_of_code r = (r.0.now, r.1)

found_alike : (b : Bool) (r : TypeName) (rest : Option TypeName) (others : Option (List ℕ × ℕ)) → option_map (λ g. g.1) rest ≡ option_map (λ g. g.1) others
    → option_map (λ g. g.1) (cond b (Some r) rest) ≡ option_map (λ g. g.1) (cond b (Some (row_of_code r)) others)
found_alike true r rest others h = refl
found_alike false r rest others h = h

-- a table of the code and its rows give the same code
pub by_names : (name : List ℕ) (rows : List TypeName) → option_map (λ r. r.1) (find (λ r. same_name name r.0.now) rows) ≡ option_map (λ r. r.1) (find (λ r. same_name name r.0) (map row_of_code rows))
by_names name [] = refl
by_names name (r ∷ rows) = found_alike (same_name name r.0.now) r _ _ (by_names name rows)
