-- One turn more of a loop over numbers.
use Rattle.std.proofs.Common.{◌≡◌, ℕ, ◌+◌, ◌<◌, List, [], ◌∷◌, ◌++◌, length, get_or, map, take, arith}
use Rattle.std.proofs.lemmas.Grind.{common_steps}
use Rattle.std.specs.List.{flat_map}

pub map_added : (f : ℕ → ℕ) (xs : List ℕ) (i : ℕ) (first before after : List ℕ) → i < length xs → before ≡ first ++ map f (take i xs)
    → after ≡ before ++ f (get_or xs i 0) ∷ [] → after ≡ first ++ map f (take (i + 1) xs)
map_added f xs i first before after inside so_far is = grind (arith, common_steps)

pub flat_added : (f : ℕ → List ℕ) (xs : List ℕ) (i : ℕ) (first before after : List ℕ) → i < length xs → before ≡ first ++ flat_map f (take i xs)
    → after ≡ before ++ f (get_or xs i 0) → after ≡ first ++ flat_map f (take (i + 1) xs)
flat_added f xs i first before after inside so_far is = grind (arith, common_steps)
