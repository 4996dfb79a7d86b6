-- A list that is sorted, and keeps the order of what ties, is the definition's.
use Rattle.std.proofs.Common.{◌≡◌, ℕ, ◌≤◌, ◌<◌, suc, Bool, true, false, cond, not, ◌&&◌, List, [], ◌∷◌, refl, sym, ap, ◌∙◌, subst, arith, length, get_or, map, ltb, eqb}
use Rattle.std.specs.Cmp.{IsStrictWeakOrder}
use Rattle.std.specs.List.{filter}
use Rattle.std.specs.List.Sorted.{ties, IsSortedBy, IsStableBy}
use Rattle.std.specs.Ordering.{nat_cmp, is_lt}
use Rattle.std.specs.declared.cmp.Ordering.TheVariants.{Less, Equal, Greater}
use Rattle.std.proofs.lemmas.List.Sorted.{sorted_far}
use Rattle.co_sheet.specs.Content.{insert_before, in_order}

-- no value of a list is before x
abbrev NoneBefore : {X : Type 0} → (X → X → Bool) → X → List X → Type 0
NoneBefore lt x [] = Unit {0}
NoneBefore lt x (y ∷ ys) = (lt y x ≡ false) × NoneBefore lt x ys

-- no value is before an earlier one
abbrev Rising : {X : Type 0} → (X → X → Bool) → List X → Type 0
Rising lt [] = Unit {0}
Rising lt (x ∷ xs) = NoneBefore lt x xs × Rising lt xs

insert_none : {X : Type 0} (lt : X → X → Bool) (x y : X) (ys : List X) → lt x y ≡ false → NoneBefore lt y ys → NoneBefore lt y (insert_before lt x ys)
insert_none lt x y [] h none = (h, tt)
insert_none lt x y (z ∷ zs) h none =
    let rest = insert_none lt x y zs h none.1 in
    elim (lt z x) as (λ b. NoneBefore lt y (cond b (z ∷ insert_before lt x zs) (x ∷ z ∷ zs))) [ true ↦ (none.0, rest) | false ↦ (h, none) ]

lower : {X : Type 0} (lt : X → X → Bool) (order : IsStrictWeakOrder lt) (x y : X) (ys : List X) → lt y x ≡ false → NoneBefore lt y ys → NoneBefore lt x ys
lower lt order x y [] h none = tt
lower lt order x y (z ∷ zs) h none = (order.chain z y x none.0 h, lower lt order x y zs h none.1)

rising_cases : {X : Type 0} (lt : X → X → Bool) (order : IsStrictWeakOrder lt) (b : Bool) (x y : X) (ys : List X) → lt y x ≡ b → Rising lt (y ∷ ys) → Rising lt (insert_before lt x ys)
    → Rising lt (cond b (y ∷ insert_before lt x ys) (x ∷ y ∷ ys))
rising_cases lt order true x y ys e rising rest = (insert_none lt x y ys (order.one_way y x e) rising.0, rest)
rising_cases lt order false x y ys e rising rest = ((e, lower lt order x y ys e rising.0), rising)

insert-rising : {X : Type 0} (lt : X → X → Bool) (order : IsStrictWeakOrder lt) (x : X) (ys : List X) → Rising lt ys → Rising lt (insert_before lt x ys)
insert-rising lt order x [] rising = (tt, tt)
insert-rising lt order x (y ∷ ys) rising = rising_cases lt order (lt y x) x y ys refl rising (insert-rising lt order x ys rising.1)

in_order-rising : {X : Type 0} (lt : X → X → Bool) (order : IsStrictWeakOrder lt) (xs : List X) → Rising lt (in_order lt xs)
in_order-rising lt order [] = tt
in_order-rising lt order (x ∷ xs) = insert-rising lt order x (in_order lt xs) (in_order-rising lt order xs)

-- two values that change places, where a test passes at most one of them
swap_cases : {X : Type 0} (of_y of_x : Bool) (x y : X) (inserted tail : List X) → inserted ≡ cond of_x (x ∷ tail) tail → (of_y ≡ true → of_x ≡ true → ⊥)
    → cond of_y (y ∷ inserted) inserted ≡ cond of_x (x ∷ cond of_y (y ∷ tail) tail) (cond of_y (y ∷ tail) tail)
swap_cases true true x y inserted tail is apart = absurd (apart refl refl)
swap_cases true false x y inserted tail is apart = ap (λ l. y ∷ l) is
swap_cases false true x y inserted tail is apart = is
swap_cases false false x y inserted tail is apart = is

both : (a b : Bool) → (not a && not b) ≡ true → (a ≡ false) × (b ≡ false)
both true b h = absurd (cc)
both false true h = absurd (cc)
both false false h = (refl, refl)

apart_cases : {X : Type 0} (lt : X → X → Bool) (order : IsStrictWeakOrder lt) (a x y : X) → lt y x ≡ true → ties lt a y ≡ true → ties lt a x ≡ true → ⊥
apart_cases lt order a x y before of_y of_x =
    let at_y = both (lt a y) (lt y a) of_y in
    let at_x = both (lt a x) (lt x a) of_x in
    let not_before = order.chain y a x at_y.1 at_x.0 in
    cc

ties_cases : {X : Type 0} (lt : X → X → Bool) (order : IsStrictWeakOrder lt) (b : Bool) (a x y : X) (ys : List X) → lt y x ≡ b → filter (ties lt a) (insert_before lt x ys) ≡ filter (ties lt a) (x ∷ ys)
    → filter (ties lt a) (cond b (y ∷ insert_before lt x ys) (x ∷ y ∷ ys)) ≡ filter (ties lt a) (x ∷ y ∷ ys)
ties_cases lt order true a x y ys e rest = swap_cases (ties lt a y) (ties lt a x) x y (filter (ties lt a) (insert_before lt x ys)) (filter (ties lt a) ys) rest (apart_cases lt order a x y e)
ties_cases lt order false a x y ys e rest = refl

insert-ties : {X : Type 0} (lt : X → X → Bool) (order : IsStrictWeakOrder lt) (a x : X) (ys : List X) → filter (ties lt a) (insert_before lt x ys) ≡ filter (ties lt a) (x ∷ ys)
insert-ties lt order a x [] = refl
insert-ties lt order a x (y ∷ ys) = ties_cases lt order (lt y x) a x y ys refl (insert-ties lt order a x ys)

in_order-ties : {X : Type 0} (lt : X → X → Bool) (order : IsStrictWeakOrder lt) (a : X) (xs : List X) → filter (ties lt a) (in_order lt xs) ≡ filter (ties lt a) xs
in_order-ties lt order a [] = refl
in_order-ties lt order a (x ∷ xs) = insert-ties lt order a x (in_order lt xs) ∙ ap (λ l. cond (ties lt a x) (x ∷ l) l) (in_order-ties lt order a xs)

self_cases : (b : Bool) → (b ≡ true → b ≡ false) → b ≡ false
self_cases true h = h refl
self_cases false h = refl

self-ties : {X : Type 0} (lt : X → X → Bool) (order : IsStrictWeakOrder lt) (x : X) → ties lt x x ≡ true
self-ties lt order x = let none = self_cases (lt x x) (order.one_way x x) in rw none refl

-- after z, which y is before, nothing ties with y
none_cases : (before after : Bool) → (before ≡ false → ⊥) → (not before && not after) ≡ false
none_cases true after h = refl
none_cases false after h = absurd (h refl)

none-tie : {X : Type 0} (lt : X → X → Bool) (order : IsStrictWeakOrder lt) (y z : X) (zs : List X) → lt y z ≡ true → NoneBefore lt z zs → filter (ties lt y) zs ≡ []
none-tie lt order y z [] before none = refl
none-tie lt order y z (w ∷ ws) before none =
    let apart : ties lt y w ≡ false = none_cases (lt y w) (lt w y) (λ h. let not_before = order.chain y w z h none.0 in cc) in
    rw apart (none-tie lt order y z ws before none.1)

tail_cases : {X : Type 0} (b : Bool) (y : X) (l m : List X) → cond b (y ∷ l) l ≡ cond b (y ∷ m) m → l ≡ m
tail_cases true y l m h = cc
tail_cases false y l m h = h

first-tie : {X : Type 0} (lt : X → X → Bool) (order : IsStrictWeakOrder lt) (y : X) (ys : List X) → filter (ties lt y) (y ∷ ys) ≡ y ∷ filter (ties lt y) ys
first-tie lt order y ys = rw (self-ties lt order y) refl

-- of the heads of two lists, neither is before the other
not-before : {X : Type 0} (lt : X → X → Bool) (order : IsStrictWeakOrder lt) (b : Bool) (y z : X) (ys zs : List X) → lt y z ≡ b → NoneBefore lt z zs → filter (ties lt y) (y ∷ ys) ≡ filter (ties lt y) (z ∷ zs) → b ≡ false
not-before lt order true y z ys zs before none same =
    let self = self_cases (lt z z) (order.one_way z z) in
    let empty = none-tie lt order y z (z ∷ zs) before (self, none) in
    let first = first-tie lt order y ys in
    cc
not-before lt order false y z ys zs before none same = refl

head-same : {X : Type 0} (lt : X → X → Bool) (order : IsStrictWeakOrder lt) (y z : X) (ys zs : List X) → lt y z ≡ false → lt z y ≡ false → filter (ties lt y) (y ∷ ys) ≡ filter (ties lt y) (z ∷ zs) → y ≡ z
head-same lt order y z ys zs e f same =
    let tied : ties lt y z ≡ true = rw (e, f) refl in
    let there : filter (ties lt y) (z ∷ zs) ≡ z ∷ filter (ties lt y) zs = rw tied refl in
    let here = first-tie lt order y ys in
    cc

pub rising-same : {X : Type 0} (lt : X → X → Bool) (order : IsStrictWeakOrder lt) (ys zs : List X) → Rising lt ys → Rising lt zs → ((a : X) → filter (ties lt a) ys ≡ filter (ties lt a) zs) → ys ≡ zs
rising-same lt order [] [] r s same = refl
rising-same lt order [] (z ∷ zs) r s same = let h = same z in let first = first-tie lt order z zs in absurd (cc)
rising-same lt order (y ∷ ys) [] r s same = let h = same y in let first = first-tie lt order y ys in absurd (cc)
rising-same lt order (y ∷ ys) (z ∷ zs) r s same =
    let e = not-before lt order (lt y z) y z ys zs refl s.0 (same y) in
    let f = not-before lt order (lt z y) z y zs ys refl r.0 (sym (same z)) in
    let heads = head-same lt order y z ys zs e f (same y) in
    let tails = rising-same lt order ys zs r.1 s.1 (λ a. tail_cases (ties lt a y) y (filter (ties lt a) ys) (filter (ties lt a) zs) (subst (λ w. filter (ties lt a) (y ∷ ys) ≡ filter (ties lt a) (w ∷ zs)) (sym heads) (same a))) in
    cc

none_from : {X : Type 0} (lt : X → X → Bool) (x : X) (xs : List X) → ((j : ℕ) (d : X) → j < length xs → lt (get_or xs j d) x ≡ false) → NoneBefore lt x xs
none_from lt x [] all = tt
none_from lt x (y ∷ ys) all = (all 0 y (omega arith), none_from lt x ys (λ j d h. all (suc j) d (omega arith)))

rising_from : {X : Type 0} (lt : X → X → Bool) (xs : List X) → ((i j : ℕ) (d : X) → i ≤ j → j < length xs → lt (get_or xs j d) (get_or xs i d) ≡ false) → Rising lt xs
rising_from lt [] far = tt
rising_from lt (x ∷ xs) far = (none_from lt x xs (λ j d h. far 0 (suc j) d (omega arith) (omega arith)), rising_from lt xs (λ i j d h k. far (suc i) (suc j) d (omega arith) (omega arith)))

pub sorted-in_order : {X : Type 0} (lt : X → X → Bool) (order : IsStrictWeakOrder lt) (xs ys : List X) → IsSortedBy lt ys → IsStableBy lt xs ys → ys ≡ in_order lt xs
sorted-in_order lt order xs ys sorted stable =
    rising-same lt order ys (in_order lt xs) (rising_from lt ys (sorted_far lt order ys sorted)) (in_order-rising lt order xs) (λ a. stable a ∙ sym (in_order-ties lt order a xs))

-- of values by what they say, and by a test that answers alike
insert-map : {X Y : Type 0} (f : X → Y) (before : X → X → Bool) (lt : Y → Y → Bool) → ((a b : X) → before a b ≡ lt (f a) (f b)) → (x : X) (ys : List X) → map f (insert_before before x ys) ≡ insert_before lt (f x) (map f ys)
insert-map f before lt same x [] = refl
insert-map f before lt same x (y ∷ ys) =
    let rest = insert-map f before lt same x ys in
    rw (same y x) (elim (lt (f y) (f x)) as (λ b. map f (cond b (y ∷ insert_before before x ys) (x ∷ y ∷ ys)) ≡ cond b (f y ∷ insert_before lt (f x) (map f ys)) (f x ∷ f y ∷ map f ys)) [ true ↦ ap (λ l. f y ∷ l) rest | false ↦ refl ])

pub in_order-map : {X Y : Type 0} (f : X → Y) (before : X → X → Bool) (lt : Y → Y → Bool) → ((a b : X) → before a b ≡ lt (f a) (f b)) → (xs : List X) → map f (in_order before xs) ≡ in_order lt (map f xs)
in_order-map f before lt same [] = refl
in_order-map f before lt same (x ∷ xs) = insert-map f before lt same x (in_order before xs) ∙ ap (insert_before lt (f x)) (in_order-map f before lt same xs)

-- what a comparison of numbers tests
less_cases : (less same : Bool) → is_lt (cond less Less (cond same Equal Greater)) ≡ less
less_cases true same = refl
less_cases false true = refl
less_cases false false = refl

pub is_lt-number : (a b : ℕ) → is_lt (nat_cmp a b) ≡ ltb a b
is_lt-number a b = less_cases (ltb a b) (eqb a b)
