-- The first of some faults, one after another.
use Rattle.std.proofs.Common.{◌≡◌, Option, Some, None, [], ◌∷◌, refl}
use Rattle.std.specs.Option.{option_or}
use Rattle.co_dict_build.specs.declared.build_fault.BuildFault.{BuildFault}
use Rattle.co_dict_build.specs.BuildFaults.{first_there}

first_of_three : (a b c : Option BuildFault) → option_or (option_or a b) c ≡ first_there (a ∷ b ∷ c ∷ [])
first_of_three (Some x) b c = refl
first_of_three None (Some x) c = refl
first_of_three None None (Some x) = refl
first_of_three None None None = refl

-- the same, where each is known
pub first_of : (a b c a' b' c' : Option BuildFault) → a ≡ a' → b ≡ b' → c ≡ c' → option_or (option_or a b) c ≡ first_there (a' ∷ b' ∷ c' ∷ [])
first_of a b c a' b' c' p q r = rw (p, q, r) (first_of_three a' b' c')
