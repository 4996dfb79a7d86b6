-- Lists that a loop makes item by item.
use Rattle.std.proofs.Common.{◌≡◌, ℕ, ◌+◌, ◌≤◌, ◌<◌, suc, Bool, true, false, cond, List, [], ◌∷◌, ◌++◌, Option, Some, None, refl, sym, ap, ◌∙◌, length, get_or, drop, drop-cons, add-one, append_assoc, map}
use Rattle.std.proofs.lemmas.List.{drop_all}
use Rattle.std.specs.List.{filter, filter_map, flat_map, cons_option}
use Rattle.std.specs.Prelude.{option_and_then}
use Rattle.std.specs.Option.{option_map_or}
use Rattle.co_sheet.specs.private.ListReadings.{listed}

cons-listed : {X : Type 0} (o : Option X) (xs : List X) → cons_option o xs ≡ listed o ++ xs
cons-listed None xs = refl
cons-listed (Some x) xs = refl

pub append-none : {X : Type 0} (xs : List X) → xs ++ [] ≡ xs
append-none [] = refl
append-none (x ∷ xs) = ap (λ l. x ∷ l) (append-none xs)

-- one item more of what a list gives, where F gives a piece for each
pub pieces-turn : {X Y : Type 0} (F : List X → List Y) (piece : X → List Y) → ((x : X) (xs : List X) → F (x ∷ xs) ≡ piece x ++ F xs)
    → (xs : List X) (i : ℕ) (d : X) (before after all : List Y) → i < length xs → after ≡ before ++ piece (get_or xs i d)
    → before ++ F (drop i xs) ≡ all → after ++ F (drop (i + 1) xs) ≡ all
pieces-turn F piece cut xs i d before after all inside is invariant =
    let rest = F (drop (suc i) xs) in
    rw (add-one i)
    (ap (λ l. l ++ rest) is ∙ append_assoc before (piece (get_or xs i d)) rest ∙ ap (λ l. before ++ l) (sym (cut (get_or xs i d) (drop (suc i) xs)))
    ∙ ap (λ l. before ++ F l) (sym (drop-cons xs i d inside)) ∙ invariant)

pub pieces-end : {X Y : Type 0} (F : List X → List Y) → F [] ≡ [] → (xs : List X) (i : ℕ) (before all : List Y) → length xs ≤ i → before ++ F (drop i xs) ≡ all → before ≡ all
pieces-end F none xs i before all past invariant =
    sym (append-none before) ∙ ap (λ l. before ++ l) (sym none ∙ ap F (sym (drop_all i xs past))) ∙ invariant

-- the same of a `filter_map` over views
pub collect-turn : {X V Y : Type 0} (view : X → V) (f : V → Option Y) (xs : List X) (i : ℕ) (d : X) (before after all : List Y) → i < length xs
    → after ≡ before ++ listed (f (view (get_or xs i d))) → before ++ filter_map f (map view (drop i xs)) ≡ all → after ++ filter_map f (map view (drop (i + 1) xs)) ≡ all
collect-turn view f = pieces-turn (λ l. filter_map f (map view l)) (λ x. listed (f (view x))) (λ x l. cons-listed (f (view x)) (filter_map f (map view l)))

-- and of a `flat_map`
pub flat-turn : {X V Y : Type 0} (view : X → V) (f : V → List Y) (xs : List X) (i : ℕ) (d : X) (before after all : List Y) → i < length xs
    → after ≡ before ++ f (view (get_or xs i d)) → before ++ flat_map f (map view (drop i xs)) ≡ all → after ++ flat_map f (map view (drop (i + 1) xs)) ≡ all
flat-turn view f = pieces-turn (λ l. flat_map f (map view l)) (λ x. f (view x)) (λ x l. refl)

pub flat-end : {X V Y : Type 0} (view : X → V) (f : V → List Y) (xs : List X) (i : ℕ) (before all : List Y) → length xs ≤ i → before ++ flat_map f (map view (drop i xs)) ≡ all → before ≡ all
flat-end view f = pieces-end (λ l. flat_map f (map view l)) refl

-- a map of one value more
pub map-push : {X Y : Type 0} (f : X → Y) (xs : List X) (x : X) → map f (xs ++ x ∷ []) ≡ map f xs ++ f x ∷ []
map-push f [] x = refl
map-push f (y ∷ xs) x = ap (λ l. f y ∷ l) (map-push f xs x)

-- a test of the items, as part of what is made of each
by_test : {X Y : Type 0} (b : Bool) (x : X) (f : X → List Y) (rest : List X) (tail : List Y) → flat_map f rest ≡ tail → flat_map f (cond b (x ∷ rest) rest) ≡ cond b (f x) [] ++ tail
by_test true x f rest tail e = ap (λ l. f x ++ l) e
by_test false x f rest tail e = e

pub flat_map-filter : {X Y : Type 0} (f : X → List Y) (p : X → Bool) (xs : List X) → flat_map f (filter p xs) ≡ flat_map (λ x. cond (p x) (f x) []) xs
flat_map-filter f p [] = refl
flat_map-filter f p (x ∷ xs) = by_test (p x) x f (filter p xs) (flat_map (λ y. cond (p y) (f y) []) xs) (flat_map-filter f p xs)

filter-append : {X : Type 0} (p : X → Bool) (xs ys : List X) → filter p (xs ++ ys) ≡ filter p xs ++ filter p ys
filter-append p [] ys = refl
filter-append p (x ∷ xs) ys = elim (p x) as (λ b. cond b (x ∷ filter p (xs ++ ys)) (filter p (xs ++ ys)) ≡ cond b (x ∷ filter p xs) (filter p xs) ++ filter p ys) [ true ↦ ap (λ l. x ∷ l) (filter-append p xs ys) | false ↦ filter-append p xs ys ]

pub filter-flat_map : {X Y : Type 0} (p : Y → Bool) (f : X → List Y) (xs : List X) → filter p (flat_map f xs) ≡ flat_map (λ x. filter p (f x)) xs
filter-flat_map p f [] = refl
filter-flat_map p f (x ∷ xs) = filter-append p (f x) (flat_map f xs) ∙ ap (λ l. filter p (f x) ++ l) (filter-flat_map p f xs)

-- of what some items have
some_cons : {Y Z : Type 0} (o : Option Y) (f : Y → List Z) (rest : List Y) (tail : List Z) → flat_map f rest ≡ tail → flat_map f (cons_option o rest) ≡ option_map_or f o [] ++ tail
some_cons None f rest tail e = e
some_cons (Some y) f rest tail e = ap (λ l. f y ++ l) e

pub flat_map-some : {X Y Z : Type 0} (f : Y → List Z) (g : X → Option Y) (xs : List X) → flat_map f (filter_map g xs) ≡ flat_map (λ x. option_map_or f (g x) []) xs
flat_map-some f g [] = refl
flat_map-some f g (x ∷ xs) = some_cons (g x) f (filter_map g xs) (flat_map (λ y. option_map_or f (g y) []) xs) (flat_map-some f g xs)

-- where each item has a value, those are all
pub all-some : {X Y Z : Type 0} (f : X → Option Y) (g : Z → Y) (xs : List X) (zs : List Z) → map f xs ≡ map (λ z. Some (g z)) zs → filter_map f xs ≡ map g zs
all-some f g [] [] h = refl
all-some f g [] (z ∷ zs) h = absurd (cc)
all-some f g (x ∷ xs) [] h = absurd (cc)
all-some f g (x ∷ xs) (z ∷ zs) h =
    let head : f x ≡ Some (g z) = cc in
    let tail : map f xs ≡ map (λ w. Some (g w)) zs = cc in
    ap (λ o. cons_option o (filter_map f xs)) head ∙ ap (λ l. g z ∷ l) (all-some f g xs zs tail)

-- one step after another
then_cons : {X Y : Type 0} (o : Option X) (f : X → Option Y) (rest : List X) → filter_map f (cons_option o rest) ≡ cons_option (option_and_then f o) (filter_map f rest)
then_cons None f rest = refl
then_cons (Some x) f rest = refl

pub filter_map-then : {X Y Z : Type 0} (f : Y → Option Z) (g : X → Option Y) (xs : List X) → filter_map f (filter_map g xs) ≡ filter_map (λ x. option_and_then f (g x)) xs
filter_map-then f g [] = refl
filter_map-then f g (x ∷ xs) = then_cons (g x) f (filter_map g xs) ∙ ap (cons_option (option_and_then f (g x))) (filter_map-then f g xs)
