-- How many numbers of PDOs there are up to the last, computed from the definition.
use Rattle.std.proofs.Common.{◌≡◌, [], ◌∷◌, refl}
use Rattle.std.specs.Prelude.{Some, None, map}
use Rattle.co_profile.specs.PdoNumbers.{count_to}

without_a_pdo : count_to None ≡ 0
without_a_pdo = refl

up_to_the_last : map (λ k. count_to (Some k)) (0 ∷ 1 ∷ 511 ∷ []) ≡ 1 ∷ 2 ∷ 512 ∷ []
up_to_the_last = refl
