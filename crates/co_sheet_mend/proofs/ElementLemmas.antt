-- Elements of lists, by recursion; of lists whose numbers rise each is there once.
use Rattle.std.proofs.Common.{◌≡◌, ℕ, ◌+◌, ◌≤◌, Bool, true, false, cond, ◌||◌, List, [], ◌∷◌, ◌++◌, Option, Some, None, refl, sym, ap, ◌∙◌, subst, ◌⊎◌, inl, inr, arith, map}
use Rattle.std.specs.Prelude.{flat_map, filter, filter_map, find}
use Rattle.std.specs.List.{cons_option, list_any}
use Rattle.std.specs.Str.{bytes_eq, str_to_ascii_lowercase}
use Rattle.std.proofs.lemmas.Slice.Eq.{bytes_eq-Decides}
use Rattle.co_sheet_text.specs.SectionLaws.{RisesFrom}
use Rattle.co_sheet_text.specs.Text.{same_name}

abbrev pub In : {X : Type 0} → X → List X → Type 0
In x [] = ⊥
In x (y ∷ ys) = (y ≡ x) ⊎ In x ys

pub same-some : {X : Type 0} (x y : X) → ◌≡◌ {A = Option X} (Some x) (Some y) → x ≡ y
same-some x y h = cc

in-more : {X : Type 0} (y : X) (xs ys : List X) (x : X) → In x xs ⊎ In x ys → In x (y ∷ xs) ⊎ In x ys
in-more y xs ys x (inl h) = inl (inr h)
in-more y xs ys x (inr h) = inr h

pub in-apart : {X : Type 0} (xs ys : List X) (x : X) → In x (xs ++ ys) → In x xs ⊎ In x ys
in-apart [] ys x h = inr h
in-apart (y ∷ xs) ys x (inl same) = inl (inl same)
in-apart (y ∷ xs) ys x (inr h) = in-more y xs ys x (in-apart xs ys x h)

-- ---- of lists made of others

pub record IsFrom {X Y : Type 0} (f : X → List Y) (xs : List X) (y : Y) : Type 0 where
  pub item : X
  pub among : In item xs
  pub gives : In y (f item)

from-cases : {X Y : Type 0} (f : X → List Y) (x : X) (xs : List X) (y : Y) → In y (f x) ⊎ In y (flat_map f xs) → (In y (flat_map f xs) → IsFrom f xs y) → IsFrom f (x ∷ xs) y
from-cases f x xs y (inl i) more = record { item = x; among = inl refl; gives = i }
from-cases f x xs y (inr i) more = let found = more i in record { item = found.item; among = inr found.among; gives = found.gives }

pub from-flat : {X Y : Type 0} (f : X → List Y) (xs : List X) (y : Y) → In y (flat_map f xs) → IsFrom f xs y
from-flat f [] y h = absurd h
from-flat f (x ∷ xs) y h = from-cases f x xs y (in-apart (f x) (flat_map f xs) y h) (from-flat f xs y)

pub record IsMade {X Y : Type 0} (h : X → Option Y) (xs : List X) (y : Y) : Type 0 where
  pub item : X
  pub among : In item xs
  pub gives : h item ≡ Some y

made-more : {X Y : Type 0} (h : X → Option Y) (x : X) (xs : List X) (y : Y) → IsMade h xs y → IsMade h (x ∷ xs) y
made-more h x xs y found = record { item = found.item; among = inr found.among; gives = found.gives }

made-cases : {X Y : Type 0} (h : X → Option Y) (x : X) (xs : List X) (y : Y) (o : Option Y) → h x ≡ o → In y (cons_option o (filter_map h xs)) → (In y (filter_map h xs) → IsMade h xs y) → IsMade h (x ∷ xs) y
made-cases h x xs y None is i more = made-more h x xs y (more i)
made-cases h x xs y (Some z) is (inl same) more = record { item = x; among = inl refl; gives = is ∙ ap (λ v. Some v) same }
made-cases h x xs y (Some z) is (inr i) more = made-more h x xs y (more i)

pub made-by : {X Y : Type 0} (h : X → Option Y) (xs : List X) (y : Y) → In y (filter_map h xs) → IsMade h xs y
made-by h [] y i = absurd i
made-by h (x ∷ xs) y i = made-cases h x xs y (h x) refl i (made-by h xs y)

pub record IsFound {X : Type 0} (test : X → Bool) (xs : List X) (x : X) : Type 0 where
  pub among : In x xs
  pub passes : test x ≡ true

found-cases : {X : Type 0} (test : X → Bool) (y : X) (ys : List X) (x : X) (b : Bool) → test y ≡ b → cond b (Some y) (find test ys) ≡ Some x → (find test ys ≡ Some x → IsFound test ys x) → IsFound test (y ∷ ys) x
found-cases test y ys x true is h more = let same = same-some y x h in record { among = inl same; passes = ap test (sym same) ∙ is }
found-cases test y ys x false is h more = let found = more h in record { among = inr found.among; passes = found.passes }

pub found-by : {X : Type 0} (test : X → Bool) (xs : List X) (x : X) → find test xs ≡ Some x → IsFound test xs x
found-by test [] x h = absurd (cc)
found-by test (y ∷ ys) x h = found-cases test y ys x (test y) refl h (found-by test ys x)

kept-cases : {X : Type 0} (p : X → Bool) (y : X) (ys : List X) (x : X) (b : Bool) → p y ≡ b → In x (cond b (y ∷ filter p ys) (filter p ys)) → (In x (filter p ys) → IsFound p ys x) → IsFound p (y ∷ ys) x
kept-cases p y ys x true is (inl same) more = record { among = inl same; passes = ap p (sym same) ∙ is }
kept-cases p y ys x true is (inr h) more = let found = more h in record { among = inr found.among; passes = found.passes }
kept-cases p y ys x false is h more = let found = more h in record { among = inr found.among; passes = found.passes }

pub kept-by : {X : Type 0} (p : X → Bool) (xs : List X) (x : X) → In x (filter p xs) → IsFound p xs x
kept-by p [] x h = absurd h
kept-by p (y ∷ ys) x h = kept-cases p y ys x (p y) refl h (kept-by p ys x)

-- ---- tests of all items

pub not-true : (b : Bool) → (b ≡ true → ⊥) → b ≡ false
not-true true h = absurd (h refl)
not-true false h = refl

pub record IsAny {X : Type 0} (p : X → Bool) (xs : List X) : Type 0 where
  pub item : X
  pub among : In item xs
  pub passes : p item ≡ true

any-cases : {X : Type 0} (p : X → Bool) (x : X) (xs : List X) (b : Bool) → p x ≡ b → (b || list_any p xs) ≡ true → (list_any p xs ≡ true → IsAny p xs) → IsAny p (x ∷ xs)
any-cases p x xs true is h more = record { item = x; among = inl refl; passes = is }
any-cases p x xs false is h more = let found = more h in record { item = found.item; among = inr found.among; passes = found.passes }

pub any-found : {X : Type 0} (p : X → Bool) (xs : List X) → list_any p xs ≡ true → IsAny p xs
any-found p [] h = absurd (cc)
any-found p (x ∷ xs) h = any-cases p x xs (p x) refl h (any-found p xs)

-- ---- numbers that rise

pub rises-in : {X : Type 0} (number : X → ℕ) (low : ℕ) (xs : List X) (x : X) → RisesFrom low (map number xs) → In x xs → low ≤ number x
rises-in number low [] x rises h = absurd h
rises-in number low (y ∷ ys) x rises (inl same) = subst (λ v. low ≤ number v) same rises.0
rises-in number low (y ∷ ys) x rises (inr h) =
    let first = rises.0 in
    let later = rises-in number (number y + 1) ys x rises.1 h in
    omega arith

-- so two of the same number are one
pub one-of-number : {X : Type 0} (number : X → ℕ) (low : ℕ) (xs : List X) (x y : X) → RisesFrom low (map number xs) → In x xs → In y xs → number x ≡ number y → x ≡ y
one-of-number number low [] x y rises h i same = absurd h
one-of-number number low (z ∷ zs) x y rises (inl p) (inl q) same = sym p ∙ q
one-of-number number low (z ∷ zs) x y rises (inl p) (inr i) same =
    let later = rises-in number (number z + 1) zs y rises.1 i in
    let here = ap number p in
    absurd (omega arith)
one-of-number number low (z ∷ zs) x y rises (inr h) (inl q) same =
    let later = rises-in number (number z + 1) zs x rises.1 h in
    let here = ap number q in
    absurd (omega arith)
one-of-number number low (z ∷ zs) x y rises (inr h) (inr i) same = one-of-number number (number z + 1) zs x y rises.1 h i same

-- ---- names

pub same-as : (a b other : List ℕ) → same_name a b ≡ true → same_name a other ≡ same_name b other
same-as a b other h = ap (λ (l : List ℕ). bytes_eq l (str_to_ascii_lowercase other)) ((bytes_eq-Decides (str_to_ascii_lowercase a) (str_to_ascii_lowercase b)).0 h)
