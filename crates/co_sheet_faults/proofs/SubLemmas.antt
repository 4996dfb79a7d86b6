-- Faults of one list that are all in another.
use Rattle.std.proofs.Common.{◌≡◌, ℕ, Bool, true, false, List, [], ◌∷◌, ◌++◌, Option, Some, None, refl, sym, ap, ◌∙◌, subst, Contains, ◌⊎◌, inl, inr, arith}
use Rattle.std.specs.Prelude.{flat_map, filter, filter_map}
use Rattle.std.specs.Option.{option_map_or}
use Rattle.std.proofs.lemmas.List.Elements.{Contains-append_left, Contains-append_right, Contains-append_cases, Contains-push}
use Rattle.std.proofs.lemmas.Grind.{flat_map-append}
use Rattle.co_sheet_rows.specs.declared.fault.FaultKind.{FaultKind}
use Rattle.co_sheet_rows.specs.declared.fault.SheetFault.{SheetFault}
use Rattle.co_sheet_text.specs.Sections.{Property, TextSection, property_at}
use Rattle.co_sheet.specs.Checks.{fault_if, at_key}
use Rattle.co_sheet_faults.specs.Soundness.{unless}

abbrev pub Sub : List SheetFault → List SheetFault → Type 0
Sub xs ys = (a : SheetFault) → Contains xs a → Contains ys a

pub contains-none : (a : SheetFault) → Contains [] a → ⊥
contains-none a c = let inside = c.1 in absurd (omega arith)

pub sub-nil : (ys : List SheetFault) → Sub [] ys
sub-nil ys a c = absurd (contains-none a c)

pub sub-same : (xs ys : List SheetFault) → xs ≡ ys → Sub xs ys
sub-same xs ys same a c = subst (λ (zs : List SheetFault). Contains zs a) same c

pub sub-append : (xs ys zs ws : List SheetFault) → Sub xs zs → Sub ys ws → Sub (xs ++ ys) (zs ++ ws)
sub-append xs ys zs ws f g a c = by_cases (Contains-append_cases xs ys a c)
  where
    by_cases : Contains xs a ⊎ Contains ys a → Contains (zs ++ ws) a
    by_cases (inl h) = Contains-append_left zs ws a (f a h)
    by_cases (inr h) = Contains-append_right zs ws a (g a h)

-- a list in front, or after
pub sub-front : (xs ys zs : List SheetFault) → Sub xs ys → Sub xs (ys ++ zs)
sub-front xs ys zs f a c = Contains-append_left ys zs a (f a c)

pub sub-after : (xs ys zs : List SheetFault) → Sub xs zs → Sub xs (ys ++ zs)
sub-after xs ys zs f a c = Contains-append_right ys zs a (f a c)

pub sub-flat : {X : Type 0} (f g : X → List SheetFault) → ((x : X) → Sub (f x) (g x)) → (xs : List X) → Sub (flat_map f xs) (flat_map g xs)
sub-flat f g each [] = sub-nil []
sub-flat f g each (x ∷ xs) = sub-append (f x) (flat_map f xs) (g x) (flat_map g xs) (each x) (sub-flat f g each xs)

pub both-empty : {X : Type 0} (xs ys : List X) → xs ++ ys ≡ [] → (xs ≡ []) × (ys ≡ [])
both-empty [] ys h = (refl, h)
both-empty (x ∷ xs) ys h = absurd (cc)

-- of items in which something finds nothing
pub sub-where : {X : Type 0} (found f g : X → List SheetFault) → ((x : X) → found x ≡ [] → Sub (f x) (g x)) → (xs : List X) → flat_map found xs ≡ [] → Sub (flat_map f xs) (flat_map g xs)
sub-where found f g each [] none = sub-nil []
sub-where found f g each (x ∷ xs) none =
    let apart = both-empty (found x) (flat_map found xs) none in
    sub-append (f x) (flat_map f xs) (g x) (flat_map g xs) (each x apart.0) (sub-where found f g each xs apart.1)

pub sub-unless : (b : Bool) (xs : List SheetFault) → Sub (unless b xs) xs
sub-unless true xs = sub-nil xs
sub-unless false xs = λ a c. c

pub sub-holding : (b : Bool) (xs ys : List SheetFault) → b ≡ false → Sub xs ys → Sub xs (unless b ys)
sub-holding b xs ys h f = sub-trans xs ys (unless b ys) f (sub-same ys (unless b ys) (sym (ap (λ (c : Bool). unless c ys) h)))
  where
    sub-trans : (xs ys zs : List SheetFault) → Sub xs ys → Sub ys zs → Sub xs zs
    sub-trans xs ys zs f g a c = g a (f a c)

pub sub-if : (b c : Bool) (kind : FaultKind) (line : ℕ) → (b ≡ true → c ≡ true) → Sub (fault_if b kind line) (fault_if c kind line)
sub-if false c kind line h = sub-nil (fault_if c kind line)
sub-if true c kind line h = sub-same (fault_if true kind line) (fault_if c kind line) (sym (ap (λ (d : Bool). fault_if d kind line) (h refl)))

-- what is found at a key
pub sub-option : {X : Type 0} (f g : X → List SheetFault) → ((x : X) → Sub (f x) (g x)) → (o : Option X) → Sub (option_map_or f o []) (option_map_or g o [])
sub-option f g each None = sub-nil []
sub-option f g each (Some x) = each x

pub sub-key : (f g : Property → List SheetFault) → ((k : Property) → Sub (f k) (g k)) → (name : List ℕ) (s : TextSection) → Sub (at_key f name s) (at_key g name s)
sub-key f g each name s = sub-option f g each (property_at name s)

sub-first : {X Y : Type 0} (h : X → Option Y) (p : X → Bool) (f : Y → List SheetFault) (x : X) (xs : List X) (o : Option Y) (test : Bool) → h x ≡ o → p x ≡ test
    → Sub (flat_map f (filter_map h (filter p xs))) (flat_map f (filter_map h xs))
    → Sub (flat_map f (filter_map h (filter p (x ∷ xs)))) (flat_map f (filter_map h (x ∷ xs)))
sub-first h p f x xs None true is test more = rw (test, is) more
sub-first h p f x xs None false is test more = rw (test, is) more
sub-first h p f x xs (Some y) true is test more =
    rw (test, is) (sub-append (f y) (flat_map f (filter_map h (filter p xs))) (f y) (flat_map f (filter_map h xs)) (λ a c. c) more)
sub-first h p f x xs (Some y) false is test more =
    rw (test, is) (sub-after (flat_map f (filter_map h (filter p xs))) (f y) (flat_map f (filter_map h xs)) more)

-- of some of the items
pub sub-some : {X Y : Type 0} (h : X → Option Y) (p : X → Bool) (f : Y → List SheetFault) (xs : List X) → Sub (flat_map f (filter_map h (filter p xs))) (flat_map f (filter_map h xs))
sub-some h p f [] = sub-nil []
sub-some h p f (x ∷ xs) = sub-first h p f x xs (h x) (p x) refl refl (sub-some h p f xs)

-- what is found in the items of items
pub flat-flat : {X Y : Type 0} (f : Y → List SheetFault) (g : X → List Y) (xs : List X) → flat_map f (flat_map g xs) ≡ flat_map (λ x. flat_map f (g x)) xs
flat-flat f g [] = refl
flat-flat f g (x ∷ xs) = flat_map-append f (g x) (flat_map g xs) ∙ ap (λ (l : List SheetFault). flat_map f (g x) ++ l) (flat-flat f g xs)

-- nothing is found where all that is found is in an empty list
pub none-sub : (xs : List SheetFault) → Sub xs [] → xs ≡ []
none-sub [] f = refl
none-sub (x ∷ xs) f = absurd (contains-none x (f x (Contains-append_left (x ∷ []) xs x (Contains-push [] x))))
