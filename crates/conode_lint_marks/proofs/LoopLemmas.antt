-- A step of a loop that appends what each element gives.
use Rattle.std.proofs.Common.{◌≡◌, ◌∙◌, ℕ, ◌+◌, ◌-◌, ◌<◌, ◌≤◌, nat_lt, suc, Bool, true, false, cond, Option, Some, List, [], ◌∷◌, ◌++◌, map, length, take, drop, drop-cons, add-one, get_or, append_assoc, refl, ap, sym, arith}
use Rattle.std.specs.List.{flat_map, list_any, range_with_len}
use Rattle.std.specs.Prelude.{◌==◌, ◌||◌}
use Rattle.std.proofs.lemmas.Bool.Decides.{nat_tests}
use Rattle.std.proofs.lemmas.List.{flat_map_more, map-append, map_more, take_more}

pub appended_more : {X Y : Type 0} (f : X → List Y) (xs : List X) (i : ℕ) (d : X) (base before after : List Y) → i < length xs
    → before ≡ base ++ flat_map f (take i xs) → after ≡ before ++ f (get_or xs i d) → after ≡ base ++ flat_map f (take (i + 1) xs)
appended_more f xs i d base before after h so_far more =
    more ∙ ap (λ l. l ++ f (get_or xs i d)) so_far ∙ flat_map_more f base (take i xs) (get_or xs i d)
    ∙ ap (λ l. base ++ flat_map f l) (sym (take_more xs i d h))

-- one value each
pub pushed_more : {X Y : Type 0} (f : X → Y) (xs : List X) (i : ℕ) (d : X) (base before after : List Y) → i < length xs
    → before ≡ base ++ map f (take i xs) → after ≡ before ++ f (get_or xs i d) ∷ [] → after ≡ base ++ map f (take (i + 1) xs)
pushed_more f xs i d base before after h so_far more =
    more ∙ ap (λ l. l ++ f (get_or xs i d) ∷ []) so_far ∙ append_assoc base (map f (take i xs)) (f (get_or xs i d) ∷ [])
    ∙ ap (λ l. base ++ l) (sym (map_more f xs i d h))

-- of elements as contracts see them
pub appended_view_more : {X Z Y : Type 0} (f : Z → List Y) (view : X → Z) (xs : List X) (i : ℕ) (d : X) (base before after : List Y) → i < length xs
    → before ≡ base ++ flat_map f (map view (take i xs)) → after ≡ before ++ f (view (get_or xs i d)) → after ≡ base ++ flat_map f (map view (take (i + 1) xs))
appended_view_more f view xs i d base before after h so_far more =
    more ∙ ap (λ l. l ++ f (view (get_or xs i d))) so_far ∙ flat_map_more f base (map view (take i xs)) (view (get_or xs i d))
    ∙ ap (λ l. base ++ flat_map f l) (sym (map_more view xs i d h))

-- what is made of each, seen as contracts see it
pub pushed_seen_more : {X Z Y : Type 0} (f : X → Y) (view : Z → Y) (xs : List X) (i : ℕ) (d : X) (before after : List Z) (z : Z) → i < length xs
    → map view before ≡ map f (take i xs) → after ≡ before ++ z ∷ [] → view z ≡ f (get_or xs i d) → map view after ≡ map f (take (i + 1) xs)
pushed_seen_more f view xs i d before after z h so_far more is =
    ap (map view) more ∙ map-append view before (z ∷ []) ∙ ap (λ l. l ++ view z ∷ []) so_far ∙ ap (λ y. map f (take i xs) ++ y ∷ []) is
    ∙ sym (map_more f xs i d h)

-- A step of a search: an element that fails the test is passed over.
pub passed_more : {X Y : Type 0} (F : List X → Y) (test : X → Bool) (step : X → Bool → Y → Y) → ((x : X) (xs : List X) → F (x ∷ xs) ≡ step x (test x) (F xs)) → ((x : X) (y : Y) → step x false y ≡ y)
    → (xs : List X) (i : ℕ) (d : X) (all : Y) → i < length xs → test (get_or xs i d) ≡ false → F (drop i xs) ≡ all → F (drop (i + 1) xs) ≡ all
passed_more F test step cut past xs i d all inside fails invariant =
    let x = get_or xs i d in
    let rest = F (drop (suc i) xs) in
    rw (add-one i)
    (sym (past x rest) ∙ ap (λ b. step x b rest) (sym fails) ∙ sym (cut x (drop (suc i) xs)) ∙ ap F (sym (drop-cons xs i d inside)) ∙ invariant)

-- one that passes the test is what is found
pub found_here : {X Y : Type 0} (F : List X → Y) (test : X → Bool) (step : X → Bool → Y → Y) → ((x : X) (xs : List X) → F (x ∷ xs) ≡ step x (test x) (F xs))
    → (xs : List X) (i : ℕ) (d : X) (all : Y) → i < length xs → test (get_or xs i d) ≡ true → F (drop i xs) ≡ all → step (get_or xs i d) true (F (drop (suc i) xs)) ≡ all
found_here F test step cut xs i d all inside passes invariant =
    let x = get_or xs i d in
    let rest = F (drop (suc i) xs) in
    ap (λ b. step x b rest) (sym passes) ∙ sym (cut x (drop (suc i) xs)) ∙ ap F (sym (drop-cons xs i d inside)) ∙ invariant

-- what is made of an element that is found, or else of what the others have
pub made_first : {X Y : Type 0} (make : Option X → Y) (is_found : Bool) (x : X) (rest : Option X) → make (cond is_found (Some x) rest) ≡ cond is_found (make (Some x)) (make rest)
made_first make true x rest = refl
made_first make false x rest = refl

-- numbers that aren't equal
pub apart : (a b : ℕ) → (a ≡ b → ⊥) → (a == b) ≡ false
apart a b h = grind (arith, nat_tests)

pub alike : (a b : ℕ) → a ≡ b → (a == b) ≡ true
alike a b h = grind (arith, nat_tests)

pub not_below : (a b : ℕ) → b ≤ a → nat_lt a b ≡ false
not_below a b h = grind (arith, nat_tests)

-- a search for one that passes a test: one that fails, and one that passes
pub none_yet : {X : Type 0} (test : X → Bool) (xs : List X) (i : ℕ) (d : X) (all : Bool) → i < length xs → test (get_or xs i d) ≡ false → list_any test (drop i xs) ≡ all → list_any test (drop (i + 1) xs) ≡ all
none_yet test xs i d all = passed_more (list_any test) test (λ x b y. b || y) (λ x l. refl) (λ x y. refl) xs i d all

pub one_here : {X : Type 0} (test : X → Bool) (xs : List X) (i : ℕ) (d : X) (all : Bool) → i < length xs → test (get_or xs i d) ≡ true → list_any test (drop i xs) ≡ all → true ≡ all
one_here test xs i d all = found_here (list_any test) test (λ x b y. b || y) (λ x l. refl) xs i d all

-- the same of numbers in order
pub tried_more : (test : ℕ → Bool) (s : ℕ) (all : Bool) → s < 65 → test s ≡ false → list_any test (range_with_len s (65 - s)) ≡ all → list_any test (range_with_len (s + 1) (65 - (s + 1))) ≡ all
tried_more test s all inside fails so_far =
    let here : 65 - s ≡ suc (64 - s) = omega (arith, inside) in
    let after : 65 - (s + 1) ≡ 64 - s = omega (arith, inside) in
    ap (λ k. list_any test (range_with_len (s + 1) k)) after ∙ ap (λ b. b || list_any test (range_with_len (s + 1) (64 - s))) (sym fails)
    ∙ ap (λ k. list_any test (range_with_len s k)) (sym here) ∙ so_far

pub tried_here : (test : ℕ → Bool) (s : ℕ) (all : Bool) → s < 65 → test s ≡ true → list_any test (range_with_len s (65 - s)) ≡ all → true ≡ all
tried_here test s all inside passes so_far =
    let here : 65 - s ≡ suc (64 - s) = omega (arith, inside) in
    ap (λ b. b || list_any test (range_with_len (s + 1) (64 - s))) (sym passes) ∙ ap (λ k. list_any test (range_with_len s k)) (sym here) ∙ so_far
