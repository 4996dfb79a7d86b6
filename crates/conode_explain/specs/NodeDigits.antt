-- Node-IDs in decimal digits, of which there are up to three.
use Rattle.std.specs.Prelude.{ℕ, ◌+◌, ◌/◌, ◌%◌, nat_lt, if◌then◌else◌, List, [], ◌∷◌, ◌++◌}

-- up to 127; that they are the decimal ones is proved
unfoldable pub node_digits : ℕ → List ℕ
node_digits node =
    (if nat_lt 99 node then 49 ∷ [] else []) ++ (if nat_lt 9 node then (48 + node / 10 % 10) ∷ [] else []) ++ (48 + node % 10) ∷ []
