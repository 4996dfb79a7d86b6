-- A set of the objects in compact form.
use Rattle.std.proofs.Common.{◌≡◌, ◌∙◌, ℕ, ◌+◌, ◌<◌, Bool, true, false, cond, ◌||◌, List, [], ◌∷◌, ◌++◌, length, map, get_or, drop, drop-cons, add-one, eqb, suc, refl, sym, ap, arith}
use Rattle.std.specs.List.{list_any}
use Rattle.std.proofs.lemmas.Bool.Decides.{nat_tests}

or-assoc : (a b c : Bool) → ((a || b) || c) ≡ (a || (b || c))
or-assoc true b c = refl
or-assoc false b c = refl

pub or-none : (a : Bool) → a ≡ (a || false)
or-none true = refl
or-none false = refl

any-append : {X : Type 0} (p : X → Bool) (xs : List X) (x : X) → list_any p (xs ++ x ∷ []) ≡ (list_any p xs || p x)
any-append p [] x = sym (or-none (p x))
any-append p (y ∷ xs) x = ap (λ b. p y || b) (any-append p xs x) ∙ sym (or-assoc (p y) (list_any p xs) (p x))

-- a set of numbers with one more
one-more : (i n : ℕ) (keys : List ℕ) (there same : Bool) → list_any (eqb n) keys ≡ there → eqb n i ≡ same
    → list_any (eqb i) (cond there keys (keys ++ n ∷ [])) ≡ (list_any (eqb i) keys || same)
one-more i n keys false same h e =
    let turned : eqb i n ≡ same = swapped i n ∙ e in any-append (eqb i) keys n ∙ ap (λ b. list_any (eqb i) keys || b) turned
  where
    swapped : (a b : ℕ) → eqb a b ≡ eqb b a
    swapped a b = grind (arith, nat_tests)
one-more i n keys true false h e = or-none (list_any (eqb i) keys)
one-more i n keys true true h e =
    let alike : i ≡ n = grind (arith, nat_tests) in
    let found : list_any (eqb i) keys ≡ true = ap (λ m. list_any (eqb m) keys) alike ∙ h in
    rw found refl

pub put-in : (i n : ℕ) (keys more : List ℕ) → more ≡ cond (list_any (eqb n) keys) keys (keys ++ n ∷ []) → list_any (eqb i) more ≡ (list_any (eqb i) keys || eqb n i)
put-in i n keys more is = ap (list_any (eqb i)) is ∙ one-more i n keys (list_any (eqb n) keys) (eqb n i) refl refl

-- what is there so far, or passes in the rest, of elements as contracts see them
pub any-view-turn : {X Z : Type 0} (view : X → Z) (test : Z → Bool) (xs : List X) (i : ℕ) (d : X) (before after all : Bool) → i < length xs → after ≡ (before || test (view (get_or xs i d)))
    → (before || list_any test (map view (drop i xs))) ≡ all → (after || list_any test (map view (drop (i + 1) xs))) ≡ all
any-view-turn view test xs i d before after all inside is invariant =
    rw (add-one i)
    (ap (λ b. b || list_any test (map view (drop (suc i) xs))) is ∙ or-assoc before (test (view (get_or xs i d))) (list_any test (map view (drop (suc i) xs)))
    ∙ sym (ap (λ ls. before || list_any test (map view ls)) (drop-cons xs i d inside)) ∙ invariant)
