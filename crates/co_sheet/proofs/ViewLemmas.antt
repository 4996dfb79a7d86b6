-- What holds of values by what they say.
use Rattle.std.proofs.Common.{◌≡◌, List, get_or, map, sym, subst, arith}
use Rattle.std.specs.Prelude.{All, AllPairs}
use Rattle.std.proofs.lemmas.List.{get_or-map, length-map}

-- the views of a list are another list, of which something holds at each place
pub all-viewed : {X V : Type 0} (view : X → V) (P : V → Type 0) (xs : List X) (vs : List V) → map view xs ≡ vs → All P vs → All (λ x. P (view x)) xs
all-viewed view P xs vs same all k d h =
    let there = subst (All P) (sym same) all in
    subst P (get_or-map view xs k d (view d) h) (there k (view d) (omega (arith, length-map xs view)))

-- or at each two places
pub pairs-viewed : {X V : Type 0} (view : X → V) (R : V → V → Type 0) (xs : List X) (vs : List V) → map view xs ≡ vs → AllPairs R vs → AllPairs (λ x y. R (view x) (view y)) xs
pairs-viewed view R xs vs same all i j d h k =
    let there = subst (AllPairs R) (sym same) all in
    let first = subst (λ v. R v (get_or (map view xs) j (view d))) (get_or-map view xs i d (view d) (omega arith)) (there i j (view d) h (omega (arith, length-map xs view))) in
    subst (R (view (get_or xs i d))) (get_or-map view xs j d (view d) k) first
