-- The faults of an entry in the order of the code, and what is found item by item.
use Rattle.std.proofs.Common.{◌≡◌, ℕ, Bool, true, false, cond, not, List, [], ◌∷◌, ◌++◌, Option, Some, None, refl, ap}
use Rattle.std.specs.Prelude.{flat_map, filter, filter_map, codes}
use Rattle.std.specs.Option.{option_map_or}
use Rattle.std.proofs.lemmas.List.Elements.{Contains-append_left, Contains-append_right}
use Rattle.co_value.specs.declared.data_type.DataType.{DataType}
use Rattle.co_sheet_rows.specs.declared.fault.FaultKind.TheVariants.{BadDefault}
use Rattle.co_sheet_rows.specs.declared.fault.SheetFault.{SheetFault}
use Rattle.co_sheet_text.specs.Sections.{Property, property_at}
use Rattle.co_sheet.specs.Entries.{Entry, data_type_of}
use Rattle.co_sheet.specs.Limits.{is_numeric, stated_default}
use Rattle.co_sheet.specs.Checks.{fault_if, at_key, in_numeric, unread_limit, unread_default, unread_limits}
use Rattle.co_sheet_faults.specs.Soundness.{unless, is_data_type_at_fault}
use Rattle.co_sheet_faults.specs.AllChecks.{of_sound_type, limits_found, is_default_at_fault, default_found_at, default_found}
use Rattle.co_sheet_faults.specs.private.Collected.{numeric_collected, values_at, values_collected}
use Rattle.co_sheet_faults.proofs.SubLemmas.{Sub, sub-nil, sub-same, sub-flat, sub-key}
use Rattle.co_sheet_faults.proofs.CompleteLemmas.{sub-id, sub-twice}

-- ---- lists of faults

pub sub-trans : (xs ys zs : List SheetFault) → Sub xs ys → Sub ys zs → Sub xs zs
sub-trans xs ys zs f g a c = g a (f a c)

pub in-front : (xs ys : List SheetFault) → Sub xs (xs ++ ys)
in-front xs ys a c = Contains-append_left xs ys a c

pub at-end : (xs ys : List SheetFault) → Sub ys (xs ++ ys)
at-end xs ys a c = Contains-append_right xs ys a c

pub flat-twice : {X : Type 0} (f g : X → List SheetFault) (xs : List X) (zs : List SheetFault) → Sub (flat_map f xs) zs → Sub (flat_map g xs) zs → Sub (flat_map (λ x. f x ++ g x) xs) zs
flat-twice f g [] zs p q = sub-nil zs
flat-twice f g (x ∷ xs) zs p q =
    sub-twice (f x ++ g x) (flat_map (λ y. f y ++ g y) xs) zs
    (sub-twice (f x) (g x) zs (λ a c. p a (in-front (f x) (flat_map f xs) a c)) (λ a c. q a (in-front (g x) (flat_map g xs) a c)))
    (flat-twice f g xs zs (λ a c. p a (at-end (f x) (flat_map f xs) a c)) (λ a c. q a (at-end (g x) (flat_map g xs) a c)))

pub flat-within : {X : Type 0} (f g : X → List SheetFault) (xs : List X) (zs : List SheetFault) → ((x : X) → Sub (f x) (g x)) → Sub (flat_map g xs) zs → Sub (flat_map f xs) zs
flat-within f g xs zs each h a c = h a (sub-flat f g each xs a c)

pub flat-none : {X : Type 0} (xs : List X) → flat_map (λ (x : X). let none : List SheetFault = [] in none) xs ≡ []
flat-none [] = refl
flat-none (x ∷ xs) = flat-none xs

pub filter-flat : {X : Type 0} (f : X → List SheetFault) (p : X → Bool) (xs : List X) → flat_map f (filter p xs) ≡ flat_map (λ x. cond (p x) (f x) []) xs
filter-flat f p [] = refl
filter-flat f p (x ∷ xs) = by_test (p x) (filter-flat f p xs)
  where
    by_test : (test : Bool) → flat_map f (filter p xs) ≡ flat_map (λ y. cond (p y) (f y) []) xs
        → flat_map f (cond test (x ∷ filter p xs) (filter p xs)) ≡ cond test (f x) [] ++ flat_map (λ y. cond (p y) (f y) []) xs
    by_test true more = ap (λ (l : List SheetFault). f x ++ l) more
    by_test false more = more

-- what is found in some of the items, one by one
some-first : {X Y : Type 0} (h : X → Option Y) (p : X → Bool) (f : Y → List SheetFault) (x : X) (xs : List X) (o : Option Y) (test : Bool) → h x ≡ o → p x ≡ test
    → flat_map f (filter_map h (filter p xs)) ≡ flat_map (λ y. cond (not (p y)) [] (option_map_or f (h y) [])) xs
    → flat_map f (filter_map h (filter p (x ∷ xs))) ≡ flat_map (λ y. cond (not (p y)) [] (option_map_or f (h y) [])) (x ∷ xs)
some-first h p f x xs None true is test more = rw (test, is) more
some-first h p f x xs None false is test more = rw test more
some-first h p f x xs (Some y) true is test more = rw (test, is) (ap (λ (l : List SheetFault). f y ++ l) more)
some-first h p f x xs (Some y) false is test more = rw test more

pub some-flat : {X Y : Type 0} (h : X → Option Y) (p : X → Bool) (f : Y → List SheetFault) (xs : List X)
    → flat_map f (filter_map h (filter p xs)) ≡ flat_map (λ x. cond (not (p x)) [] (option_map_or f (h x) [])) xs
some-flat h p f [] = refl
some-flat h p f (x ∷ xs) = some-first h p f x xs (h x) (p x) refl refl (some-flat h p f xs)

pub unless-two : (b : Bool) (xs ys : List SheetFault) → unless b (xs ++ ys) ≡ unless b xs ++ unless b ys
unless-two true xs ys = refl
unless-two false xs ys = refl

pub unless-each : (b : Bool) (xs ys : List SheetFault) → Sub xs ys → Sub (unless b xs) (unless b ys)
unless-each true xs ys f = sub-nil []
unless-each false xs ys f = f

pub option-each : {X : Type 0} (f g : X → List SheetFault) → ((x : X) → Sub (f x) (g x)) → (o : Option X) → Sub (option_map_or f o []) (option_map_or g o [])
option-each f g each None = sub-nil []
option-each f g each (Some x) = each x

-- ---- what an entry has, both ways

-- at a type that is not at fault
values-apart : (t : DataType) (e : Entry) (numeric : Bool) → Sub (cond numeric (numeric_collected t e) (default_found e)) (cond numeric (unread_limits t e) [] ++ (cond numeric (limits_found t e) [] ++ default_found e))
values-apart t e false = sub-id (default_found e)
values-apart t e true =
    let low = at_key (unread_limit t) (codes "LowLimit") e.section in
    let high = at_key (unread_limit t) (codes "HighLimit") e.section in
    let unread_default_at = at_key (unread_default t) (codes "DefaultValue") e.section in
    let unread_parameter_at = at_key (unread_default t) (codes "ParameterValue") e.section in
    let default = at_key (default_found_at e) (codes "DefaultValue") e.section in
    let parameter = at_key (default_found_at e) (codes "ParameterValue") e.section in
    let limits = limits_found t e in
    let unreads = low ++ high ++ (unread_default_at ++ unread_parameter_at) in
    let defaults = default ++ parameter in
    let all = unreads ++ (limits ++ defaults) in
    let of_unread : Sub unreads all = in-front unreads (limits ++ defaults) in
    let of_limits : Sub limits all = λ a c. at-end unreads (limits ++ defaults) a (in-front limits defaults a c) in
    let of_defaults : Sub defaults all = λ a c. at-end unreads (limits ++ defaults) a (at-end limits defaults a c) in
    let of_low : Sub low all = λ a c. of_unread a (in-front (low ++ high) (unread_default_at ++ unread_parameter_at) a (in-front low high a c)) in
    let of_high : Sub high all = λ a c. of_unread a (in-front (low ++ high) (unread_default_at ++ unread_parameter_at) a (at-end low high a c)) in
    let of_unread_default : Sub unread_default_at all = λ a c. of_unread a (at-end (low ++ high) (unread_default_at ++ unread_parameter_at) a (in-front unread_default_at unread_parameter_at a c)) in
    let of_unread_parameter : Sub unread_parameter_at all = λ a c. of_unread a (at-end (low ++ high) (unread_default_at ++ unread_parameter_at) a (at-end unread_default_at unread_parameter_at a c)) in
    sub-twice low (high ++ (limits ++ ((unread_default_at ++ default) ++ (unread_parameter_at ++ parameter)))) all of_low
    (sub-twice high (limits ++ ((unread_default_at ++ default) ++ (unread_parameter_at ++ parameter))) all of_high
    (sub-twice limits ((unread_default_at ++ default) ++ (unread_parameter_at ++ parameter)) all of_limits
    (sub-twice (unread_default_at ++ default) (unread_parameter_at ++ parameter) all
    (sub-twice unread_default_at default all of_unread_default (λ a c. of_defaults a (in-front default parameter a c)))
    (sub-twice unread_parameter_at parameter all of_unread_parameter (λ a c. of_defaults a (at-end default parameter a c))))))

values-together : (t : DataType) (e : Entry) (numeric : Bool) → Sub (cond numeric (unread_limits t e) [] ++ (cond numeric (limits_found t e) [] ++ default_found e)) (cond numeric (numeric_collected t e) (default_found e))
values-together t e false = sub-id (default_found e)
values-together t e true =
    let low = at_key (unread_limit t) (codes "LowLimit") e.section in
    let high = at_key (unread_limit t) (codes "HighLimit") e.section in
    let unread_default_at = at_key (unread_default t) (codes "DefaultValue") e.section in
    let unread_parameter_at = at_key (unread_default t) (codes "ParameterValue") e.section in
    let default = at_key (default_found_at e) (codes "DefaultValue") e.section in
    let parameter = at_key (default_found_at e) (codes "ParameterValue") e.section in
    let limits = limits_found t e in
    let first = unread_default_at ++ default in
    let second = unread_parameter_at ++ parameter in
    let all = low ++ (high ++ (limits ++ (first ++ second))) in
    let of_rest : Sub (high ++ (limits ++ (first ++ second))) all = at-end low (high ++ (limits ++ (first ++ second))) in
    let of_values : Sub (limits ++ (first ++ second)) all = λ a c. of_rest a (at-end high (limits ++ (first ++ second)) a c) in
    let of_first : Sub first all = λ a c. of_values a (at-end limits (first ++ second) a (in-front first second a c)) in
    let of_second : Sub second all = λ a c. of_values a (at-end limits (first ++ second) a (at-end first second a c)) in
    sub-twice (low ++ high ++ (unread_default_at ++ unread_parameter_at)) (limits ++ (default ++ parameter)) all
    (sub-twice (low ++ high) (unread_default_at ++ unread_parameter_at) all
    (sub-twice low high all (in-front low (high ++ (limits ++ (first ++ second)))) (λ a c. of_rest a (in-front high (limits ++ (first ++ second)) a c)))
    (sub-twice unread_default_at unread_parameter_at all (λ a c. of_first a (in-front unread_default_at default a c)) (λ a c. of_second a (in-front unread_parameter_at parameter a c))))
    (sub-twice limits (default ++ parameter) all (λ a c. of_values a (in-front limits (first ++ second) a c))
    (sub-twice default parameter all (λ a c. of_first a (at-end unread_default_at default a c)) (λ a c. of_second a (at-end unread_parameter_at parameter a c))))

-- a default of an entry without a type is not looked at
default-none : (e : Entry) → data_type_of e ≡ None → Sub (default_found e) []
default-none e h =
    let each : (k : Property) → default_found_at e k ≡ [] = λ k. ap (λ (o : Option DataType). fault_if (option_map_or (λ t. is_default_at_fault t e (stated_default t k)) o false) BadDefault k.line) h in
    let at : (name : List ℕ) → Sub (at_key (default_found_at e) name e.section) []
    = λ name. sub-trans (at_key (default_found_at e) name e.section) (at_key (λ k. []) name e.section) [] (sub-key (default_found_at e) (λ k. []) (λ k. sub-same (default_found_at e k) [] (each k)) name e.section) (no-key (property_at name e.section)) in
    sub-twice (at_key (default_found_at e) (codes "DefaultValue") e.section) (at_key (default_found_at e) (codes "ParameterValue") e.section) [] (at (codes "DefaultValue")) (at (codes "ParameterValue"))
  where
    no-key : (o : Option Property) → Sub (option_map_or (λ (k : Property). let none : List SheetFault = [] in none) o []) []
    no-key None = sub-nil []
    no-key (Some k) = sub-nil []

-- checks 15 to 17 of an entry
abbrev pub values_checked : Entry → List SheetFault
values_checked e = in_numeric unread_limits e ++ (in_numeric limits_found e ++ default_found e)

values-in : (e : Entry) (o : Option DataType) → data_type_of e ≡ o
    → Sub (option_map_or (λ t. values_at t e) o []) (option_map_or (λ t. cond (is_numeric t) (unread_limits t e) []) o [] ++ (option_map_or (λ t. cond (is_numeric t) (limits_found t e) []) o [] ++ default_found e))
values-in e None is = sub-nil (default_found e)
values-in e (Some t) is = values-apart t e (is_numeric t)

values-of : (e : Entry) (o : Option DataType) → data_type_of e ≡ o
    → Sub (option_map_or (λ t. cond (is_numeric t) (unread_limits t e) []) o [] ++ (option_map_or (λ t. cond (is_numeric t) (limits_found t e) []) o [] ++ default_found e)) (option_map_or (λ t. values_at t e) o [])
values-of e None is = default-none e is
values-of e (Some t) is = values-together t e (is_numeric t)

pub typed-values : (e : Entry) → Sub (of_sound_type values_collected e) (of_sound_type values_checked e)
typed-values e = unless-each (is_data_type_at_fault e) (values_collected e) (values_checked e) (values-in e (data_type_of e) refl)

pub typed-checks : (e : Entry) → Sub (of_sound_type values_checked e) (of_sound_type values_collected e)
typed-checks e = unless-each (is_data_type_at_fault e) (values_checked e) (values_collected e) (values-of e (data_type_of e) refl)
