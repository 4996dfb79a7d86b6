-- The node-IDs.
use Rattle.std.specs.Prelude.{ℕ, zero, suc, List, [], ◌∷◌, ◌++◌}

-- 1, 2, .. up to a number
unfoldable pub up_to : ℕ → List ℕ
up_to zero = []
up_to (suc number) = up_to number ++ suc number ∷ []

abbrev pub node_ids : List ℕ
node_ids = up_to 127
