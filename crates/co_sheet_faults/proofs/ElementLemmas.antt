-- Elements of lists, by recursion; lists whose numbers rise have each once.
use Rattle.std.proofs.Common.{◌≡◌, ℕ, ◌+◌, ◌≤◌, Bool, true, false, cond, ◌&&◌, ◌||◌, List, [], ◌∷◌, ◌++◌, Option, Some, None, refl, sym, ap, ◌∙◌, subst, ◌⊎◌, inl, inr, arith, map}
use Rattle.std.specs.Prelude.{flat_map, filter, filter_map, find, option_map}
use Rattle.std.specs.List.{cons_option, list_any}
use Rattle.std.proofs.lemmas.List.Folds.{list_any-append}
use Rattle.co_sheet_text.specs.SectionLaws.{RisesFrom}

abbrev pub In : {X : Type 0} → X → List X → Type 0
In x [] = ⊥
In x (y ∷ ys) = (y ≡ x) ⊎ In x ys

pub in-left : {X : Type 0} (xs ys : List X) (x : X) → In x xs → In x (xs ++ ys)
in-left [] ys x h = absurd h
in-left (y ∷ xs) ys x (inl same) = inl same
in-left (y ∷ xs) ys x (inr h) = inr (in-left xs ys x h)

pub in-right : {X : Type 0} (xs ys : List X) (x : X) → In x ys → In x (xs ++ ys)
in-right [] ys x h = h
in-right (y ∷ xs) ys x h = inr (in-right xs ys x h)

in-more : {X : Type 0} (y : X) (xs ys : List X) (x : X) → In x xs ⊎ In x ys → In x (y ∷ xs) ⊎ In x ys
in-more y xs ys x (inl h) = inl (inr h)
in-more y xs ys x (inr h) = inr h

pub in-apart : {X : Type 0} (xs ys : List X) (x : X) → In x (xs ++ ys) → In x xs ⊎ In x ys
in-apart [] ys x h = inr h
in-apart (y ∷ xs) ys x (inl same) = inl (inl same)
in-apart (y ∷ xs) ys x (inr h) = in-more y xs ys x (in-apart xs ys x h)

-- ---- of lists made of others

pub in-flat : {X Y : Type 0} (f : X → List Y) (xs : List X) (x : X) (y : Y) → In x xs → In y (f x) → In y (flat_map f xs)
in-flat f [] x y h i = absurd h
in-flat f (w ∷ ws) x y (inl same) i = in-left (f w) (flat_map f ws) y (subst (λ v. In y (f v)) (sym same) i)
in-flat f (w ∷ ws) x y (inr h) i = in-right (f w) (flat_map f ws) y (in-flat f ws x y h i)

pub record IsFrom {X Y : Type 0} (f : X → List Y) (xs : List X) (y : Y) : Type 0 where
  pub item : X
  pub among : In item xs
  pub gives : In y (f item)

from-cases : {X Y : Type 0} (f : X → List Y) (x : X) (xs : List X) (y : Y) → In y (f x) ⊎ In y (flat_map f xs) → (In y (flat_map f xs) → IsFrom f xs y) → IsFrom f (x ∷ xs) y
from-cases f x xs y (inl i) more = record { item = x; among = inl refl; gives = i }
from-cases f x xs y (inr i) more = let found = more i in record { item = found.item; among = inr found.among; gives = found.gives }

pub from-flat : {X Y : Type 0} (f : X → List Y) (xs : List X) (y : Y) → In y (flat_map f xs) → IsFrom f xs y
from-flat f [] y h = absurd h
from-flat f (x ∷ xs) y h = from-cases f x xs y (in-apart (f x) (flat_map f xs) y h) (from-flat f xs y)

pub record IsMade {X Y : Type 0} (h : X → Option Y) (xs : List X) (y : Y) : Type 0 where
  pub item : X
  pub among : In item xs
  pub gives : h item ≡ Some y

made-more : {X Y : Type 0} (h : X → Option Y) (x : X) (xs : List X) (y : Y) → IsMade h xs y → IsMade h (x ∷ xs) y
made-more h x xs y found = record { item = found.item; among = inr found.among; gives = found.gives }

made-cases : {X Y : Type 0} (h : X → Option Y) (x : X) (xs : List X) (y : Y) (o : Option Y) → h x ≡ o → In y (cons_option o (filter_map h xs)) → (In y (filter_map h xs) → IsMade h xs y) → IsMade h (x ∷ xs) y
made-cases h x xs y None is i more = made-more h x xs y (more i)
made-cases h x xs y (Some z) is (inl same) more = record { item = x; among = inl refl; gives = is ∙ ap (λ v. Some v) same }
made-cases h x xs y (Some z) is (inr i) more = made-more h x xs y (more i)

pub made-by : {X Y : Type 0} (h : X → Option Y) (xs : List X) (y : Y) → In y (filter_map h xs) → IsMade h xs y
made-by h [] y i = absurd i
made-by h (x ∷ xs) y i = made-cases h x xs y (h x) refl i (made-by h xs y)

pub record IsFound {X : Type 0} (test : X → Bool) (xs : List X) (x : X) : Type 0 where
  pub among : In x xs
  pub passes : test x ≡ true

pub same-some : {X : Type 0} (x y : X) → ◌≡◌ {A = Option X} (Some x) (Some y) → x ≡ y
same-some x y h = cc

found-cases : {X : Type 0} (test : X → Bool) (y : X) (ys : List X) (x : X) (b : Bool) → test y ≡ b → cond b (Some y) (find test ys) ≡ Some x → (find test ys ≡ Some x → IsFound test ys x) → IsFound test (y ∷ ys) x
found-cases test y ys x true is h more = let same = same-some y x h in record { among = inl same; passes = ap test (sym same) ∙ is }
found-cases test y ys x false is h more = let found = more h in record { among = inr found.among; passes = found.passes }

pub found-by : {X : Type 0} (test : X → Bool) (xs : List X) (x : X) → find test xs ≡ Some x → IsFound test xs x
found-by test [] x h = absurd (cc)
found-by test (y ∷ ys) x h = found-cases test y ys x (test y) refl h (found-by test ys x)

-- ---- what is found in a filtered list, and in one whose items are changed

find-cases : {X : Type 0} (test p : X → Bool) (b : Bool) (x : X) (xs : List X) (passes kept : Bool) → test x ≡ passes → p x ≡ kept → (passes ≡ true → kept ≡ b)
    → find test (filter p xs) ≡ cond b (find test xs) None → find test (cond kept (x ∷ filter p xs) (filter p xs)) ≡ cond b (cond passes (Some x) (find test xs)) None
find-cases test p true x xs true true is was h more = rw is refl
find-cases test p false x xs true true is was h more = let wrong = h refl in absurd (cc)
find-cases test p true x xs true false is was h more = let wrong = h refl in absurd (cc)
find-cases test p false x xs true false is was h more = more
find-cases test p b x xs false true is was h more = rw is more
find-cases test p b x xs false false is was h more = more

pub find-kept : {X : Type 0} (test p : X → Bool) (b : Bool) (xs : List X) → ((x : X) → In x xs → test x ≡ true → p x ≡ b) → find test (filter p xs) ≡ cond b (find test xs) None
find-kept test p true [] h = refl
find-kept test p false [] h = refl
find-kept test p b (x ∷ xs) h = find-cases test p b x xs (test x) (p x) refl refl (h x (inl refl)) (find-kept test p b xs (λ y i. h y (inr i)))

find-map-cases : {X : Type 0} (test : X → Bool) (f : X → X) (b : Bool) (x : X) (xs : List X) → find test (map f xs) ≡ option_map f (find test xs) → cond b (Some (f x)) (find test (map f xs)) ≡ option_map f (cond b (Some x) (find test xs))
find-map-cases test f true x xs more = refl
find-map-cases test f false x xs more = more

pub find-map : {X : Type 0} (test : X → Bool) (f : X → X) → ((x : X) → test (f x) ≡ test x) → (xs : List X) → find test (map f xs) ≡ option_map f (find test xs)
find-map test f same [] = refl
find-map test f same (x ∷ xs) = ap (λ b. cond b (Some (f x)) (find test (map f xs))) (same x) ∙ find-map-cases test f (test x) x xs (find-map test f same xs)

-- ---- tests of all items

or-left : (a b : Bool) → a ≡ true → (a || b) ≡ true
or-left true b h = refl
or-left false b h = absurd (cc)

or-right : (a b : Bool) → b ≡ true → (a || b) ≡ true
or-right true b h = refl
or-right false b h = h

pub any-true : {X : Type 0} (p : X → Bool) (xs : List X) (x : X) → In x xs → p x ≡ true → list_any p xs ≡ true
any-true p [] x h is = absurd h
any-true p (y ∷ ys) x (inl same) is = or-left (p y) (list_any p ys) (ap p same ∙ is)
any-true p (y ∷ ys) x (inr h) is = or-right (p y) (list_any p ys) (any-true p ys x h is)

pub not-true : (b : Bool) → (b ≡ true → ⊥) → b ≡ false
not-true true h = absurd (h refl)
not-true false h = refl

any-false : {X : Type 0} (p : X → Bool) (xs : List X) → ((x : X) → In x xs → p x ≡ false) → list_any p xs ≡ false
any-false p [] h = refl
any-false p (x ∷ xs) h = ap (λ b. b || list_any p xs) (h x (inl refl)) ∙ any-false p xs (λ y i. h y (inr i))

pub record IsAny {X : Type 0} (p : X → Bool) (xs : List X) : Type 0 where
  pub item : X
  pub among : In item xs
  pub passes : p item ≡ true

any-cases : {X : Type 0} (p : X → Bool) (x : X) (xs : List X) (b : Bool) → p x ≡ b → (b || list_any p xs) ≡ true → (list_any p xs ≡ true → IsAny p xs) → IsAny p (x ∷ xs)
any-cases p x xs true is h more = record { item = x; among = inl refl; passes = is }
any-cases p x xs false is h more = let found = more h in record { item = found.item; among = inr found.among; passes = found.passes }

pub any-found : {X : Type 0} (p : X → Bool) (xs : List X) → list_any p xs ≡ true → IsAny p xs
any-found p [] h = absurd (cc)
any-found p (x ∷ xs) h = any-cases p x xs (p x) refl h (any-found p xs)

no-other : (a b : Bool) → b ≡ false → (a ≡ true → b ≡ true) → a ≡ false
no-other true b h f = let wrong = f refl in absurd (cc)
no-other false b h f = refl

any-as-cases : {X : Type 0} (p : X → Bool) (xs : List X) (x : X) (b : Bool) → p x ≡ b → In x xs → ((y : X) → In y xs → p y ≡ true → p x ≡ true) → list_any p xs ≡ b
any-as-cases p xs x true is i h = any-true p xs x i is
any-as-cases p xs x false is i h = any-false p xs (λ y j. no-other (p y) (p x) is (h y j))

-- where no item passes but those with which this one does
pub any-as : {X : Type 0} (p : X → Bool) (xs : List X) (x : X) → In x xs → ((y : X) → In y xs → p y ≡ true → p x ≡ true) → list_any p xs ≡ p x
any-as p xs x i h = any-as-cases p xs x (p x) refl i h

pub any-flat : {X Y : Type 0} (p : Y → Bool) (f : X → List Y) (xs : List X) → list_any p (flat_map f xs) ≡ list_any (λ x. list_any p (f x)) xs
any-flat p f [] = refl
any-flat p f (x ∷ xs) = list_any-append p (f x) (flat_map f xs) ∙ ap (λ b. list_any p (f x) || b) (any-flat p f xs)

any-filter-cases : {X : Type 0} (p q : X → Bool) (x : X) (xs : List X) (b : Bool) → list_any (λ y. p y && q y) xs ≡ list_any q (filter p xs) → ((b && q x) || list_any (λ y. p y && q y) xs) ≡ list_any q (cond b (x ∷ filter p xs) (filter p xs))
any-filter-cases p q x xs true more = ap (λ b. q x || b) more
any-filter-cases p q x xs false more = more

pub any-filter : {X : Type 0} (p q : X → Bool) (xs : List X) → list_any (λ x. p x && q x) xs ≡ list_any q (filter p xs)
any-filter p q [] = refl
any-filter p q (x ∷ xs) = any-filter-cases p q x xs (p x) (any-filter p q xs)

-- ---- maps

pub flat-same : {X Y : Type 0} (f g : X → List Y) (xs : List X) → ((x : X) → In x xs → f x ≡ g x) → flat_map f xs ≡ flat_map g xs
flat-same f g [] h = refl
flat-same f g (x ∷ xs) h = ap (λ l. l ++ flat_map f xs) (h x (inl refl)) ∙ ap (λ l. g x ++ l) (flat-same f g xs (λ y i. h y (inr i)))

pub map-append : {X Y : Type 0} (f : X → Y) (xs ys : List X) → map f (xs ++ ys) ≡ map f xs ++ map f ys
map-append f [] ys = refl
map-append f (x ∷ xs) ys = ap (λ l. f x ∷ l) (map-append f xs ys)

pub map-flat : {X Y Z : Type 0} (f : Y → Z) (g : X → List Y) (xs : List X) → map f (flat_map g xs) ≡ flat_map (λ x. map f (g x)) xs
map-flat f g [] = refl
map-flat f g (x ∷ xs) = map-append f (g x) (flat_map g xs) ∙ ap (λ l. map f (g x) ++ l) (map-flat f g xs)

pub map-same : {X Y : Type 0} (f g : X → Y) (xs : List X) → ((x : X) → In x xs → f x ≡ g x) → map f xs ≡ map g xs
map-same f g [] h = refl
map-same f g (x ∷ xs) h = ap (λ y. y ∷ map f xs) (h x (inl refl)) ∙ ap (λ l. g x ∷ l) (map-same f g xs (λ y i. h y (inr i)))

filter-cases : {X : Type 0} (p q : X → Bool) (x : X) (xs : List X) → p x ≡ q x → filter p xs ≡ filter q xs → cond (p x) (x ∷ filter p xs) (filter p xs) ≡ cond (q x) (x ∷ filter q xs) (filter q xs)
filter-cases p q x xs same more = ap (λ b. cond b (x ∷ filter p xs) (filter p xs)) same ∙ ap (λ l. cond (q x) (x ∷ l) l) more

pub filter-same : {X : Type 0} (p q : X → Bool) (xs : List X) → ((x : X) → In x xs → p x ≡ q x) → filter p xs ≡ filter q xs
filter-same p q [] h = refl
filter-same p q (x ∷ xs) h = filter-cases p q x xs (h x (inl refl)) (filter-same p q xs (λ y i. h y (inr i)))

pub filter-all : {X : Type 0} (p : X → Bool) (xs : List X) → ((x : X) → In x xs → p x ≡ true) → filter p xs ≡ xs
filter-all p [] h = refl
filter-all p (x ∷ xs) h = ap (λ b. cond b (x ∷ filter p xs) (filter p xs)) (h x (inl refl)) ∙ ap (λ l. x ∷ l) (filter-all p xs (λ y i. h y (inr i)))

pub cons-map : {X Y : Type 0} (f : X → Y) (o : Option X) (xs : List X) → cons_option (option_map f o) (map f xs) ≡ map f (cons_option o xs)
cons-map f None xs = refl
cons-map f (Some x) xs = refl

-- ---- numbers that rise

rises-in : {X : Type 0} (number : X → ℕ) (low : ℕ) (xs : List X) (x : X) → RisesFrom low (map number xs) → In x xs → low ≤ number x
rises-in number low [] x rises h = absurd h
rises-in number low (y ∷ ys) x rises (inl same) = subst (λ v. low ≤ number v) same rises.0
rises-in number low (y ∷ ys) x rises (inr h) =
    let first = rises.0 in
    let later = rises-in number (number y + 1) ys x rises.1 h in
    omega arith

-- so two of the same number are one
pub one-of-number : {X : Type 0} (number : X → ℕ) (low : ℕ) (xs : List X) (x y : X) → RisesFrom low (map number xs) → In x xs → In y xs → number x ≡ number y → x ≡ y
one-of-number number low [] x y rises h i same = absurd h
one-of-number number low (z ∷ zs) x y rises (inl p) (inl q) same = sym p ∙ q
one-of-number number low (z ∷ zs) x y rises (inl p) (inr i) same =
    let later = rises-in number (number z + 1) zs y rises.1 i in
    let here = ap number p in
    absurd (omega arith)
one-of-number number low (z ∷ zs) x y rises (inr h) (inl q) same =
    let later = rises-in number (number z + 1) zs x rises.1 h in
    let here = ap number q in
    absurd (omega arith)
one-of-number number low (z ∷ zs) x y rises (inr h) (inr i) same = one-of-number number (number z + 1) zs x y rises.1 h i same
