-- Names that are kept, and what a contract sees of them.
use Rattle.std.proofs.Common.{◌≡◌, ℕ, Bool, true, false, cond, ◌&&◌, ◌||◌, List, [], ◌∷◌, ◌++◌, nat_eq, map, not, refl, sym, ap, ◌∙◌, ◌+◌, ◌<◌, suc, length, get_or, drop, drop-cons, add-one, append_assoc}
use Rattle.std.specs.Prelude.{Option, Some, None, filter_map, option_and_then, option_map}
use Rattle.std.specs.List.{list_any, cons_option}
use Rattle.std.proofs.lemmas.List.{map-append}
use Rattle.std.specs.Str.{bytes_eq}
use Rattle.co_sheet_warnings.specs.declared.repeats.ScopedName.{ScopedName}
use Rattle.co_sheet_text.specs.Sections.{Property, TextSection}
use Rattle.co_sheet_warnings.specs.declared.repeats.CobIdUse.{CobIdUse}
use Rattle.co_sheet_warnings.specs.declared.repeats.Once.{Once}
use Rattle.co_sheet_warnings.specs.declared.repeats.Once.TheVariants.{Identifiers, Consumed, Names}
use Rattle.co_sheet_warnings.specs.Repeats.{Placed, as_name, has_cob_id, id_name, identifier_in, identifier_name, identifier_of, identifiers_in, repeats, same_scoped, use_of, value_in}
use Rattle.co_sheet_warnings.specs.Repeats.{ScopedName as Scoped}
use Rattle.co_sheet_text_warnings.specs.declared.warning.Warning.{Warning}
use Rattle.co_sheet_text_warnings.specs.declared.warning.WarningKind.{WarningKind}
use Rattle.co_sheet_text_warnings.specs.Places.{warning_at, warnings_at}
use Rattle.co_sheet_warnings.specs.private.Views.{again_at, kept_with, placed_in, repeats_of, scoped_view}

-- a name is among the kept ones
pub any_name : (name : ScopedName) (names : List ScopedName)
    → list_any (λ other. nat_eq name.scope other.scope && bytes_eq name.text.now other.text.now) names ≡ list_any (same_scoped (scoped_view name)) (map scoped_view names)
any_name name [] = refl
any_name name (other ∷ names) = ap (λ b. same_scoped (scoped_view name) (scoped_view other) || b) (any_name name names)

not_not : (b : Bool) → not (not b) ≡ b
not_not true = refl
not_not false = refl

-- what is no new name is one of those before
pub again : (is_new : Bool) (name : ScopedName) (names : List ScopedName)
    → is_new ≡ not (list_any (λ other. nat_eq name.scope other.scope && bytes_eq name.text.now other.text.now) names)
    → not is_new ≡ list_any (same_scoped (scoped_view name)) (map scoped_view names)
again is_new name names h =
    ap not h ∙ not_not (list_any (λ other. nat_eq name.scope other.scope && bytes_eq name.text.now other.text.now) names) ∙ any_name name names

-- one name more
pub more_names : (names : List ScopedName) (name : ScopedName) → map scoped_view (names ++ name ∷ []) ≡ map scoped_view names ++ scoped_view name ∷ []
more_names [] name = refl
more_names (other ∷ names) name = ap (λ rest. scoped_view other ∷ rest) (more_names names name)

-- ---- identifiers as names

and_true : (b : Bool) → (b && true) ≡ b
and_true true = refl
and_true false = refl

any_id : (n : ℕ) (before : List ℕ) → list_any (same_scoped (id_name n)) (map id_name before) ≡ list_any (nat_eq n) before
any_id n [] = refl
any_id n (m ∷ before) = ap (λ b. b || list_any (same_scoped (id_name n)) (map id_name before)) (and_true (nat_eq n m)) ∙ ap (λ b. nat_eq n m || b) (any_id n before)

one_more : (before : List ℕ) (n : ℕ) → map id_name before ++ id_name n ∷ [] ≡ map id_name (before ++ n ∷ [])
one_more [] n = refl
one_more (m ∷ before) n = ap (λ l. id_name m ∷ l) (one_more before n)

same_repeats : (before : List ℕ) (xs : List (Placed ℕ)) → repeats same_scoped (map id_name before) (map as_name xs) ≡ repeats nat_eq before xs
same_repeats before [] = refl
same_repeats before (x ∷ xs) =
    let again : List ℕ = x.line ∷ repeats same_scoped (map id_name before) (map as_name xs) in
    ap (λ b. cond b again (repeats same_scoped (map id_name before ++ id_name x.key ∷ []) (map as_name xs))) (any_id x.key before)
    ∙ ap (λ (l : List Scoped). cond (list_any (nat_eq x.key) before) again (repeats same_scoped l (map as_name xs))) (one_more before x.key)
    ∙ ap (λ l. cond (list_any (nat_eq x.key) before) (x.line ∷ l) (repeats same_scoped (map id_name (before ++ x.key ∷ [])) (map as_name xs))) (same_repeats before xs)
    ∙ ap (λ l. cond (list_any (nat_eq x.key) before) (x.line ∷ repeats nat_eq before xs) l) (same_repeats (before ++ x.key ∷ []) xs)

-- the identifier of an entry with a COB-ID and a value
pub identifier_known : (node : ℕ) (s : TextSection) (by : CobIdUse) (k : Property) (found : Option (Placed Scoped))
    → true ≡ has_cob_id s.kind → Some k ≡ value_in s → by ≡ use_of s.kind → found ≡ option_map as_name (identifier_of node by k) → found ≡ identifier_name node s
identifier_known node s by k found has given as_used is =
    let of_value : Option Property → Option (Placed ℕ) = option_and_then (identifier_of node (use_of s.kind)) in
    is ∙ ap (λ t. option_map as_name (identifier_of node t k)) as_used
    ∙ ap (λ (o : Option Property). option_map as_name (of_value o)) given
    ∙ ap (λ b. option_map as_name (cond b (of_value (value_in s)) None)) has

named : (ids : TextSection → Option (Placed ℕ)) (sections : List TextSection) → filter_map (λ s. option_map as_name (ids s)) sections ≡ map as_name (filter_map ids sections)
named ids [] = refl
named ids (s ∷ sections) = by_case (ids s) refl (named ids sections)
  where
    by_case : (o : Option (Placed ℕ)) → ids s ≡ o → filter_map (λ s. option_map as_name (ids s)) sections ≡ map as_name (filter_map ids sections)
        → filter_map (λ s. option_map as_name (ids s)) (s ∷ sections) ≡ map as_name (filter_map ids (s ∷ sections))
    by_case None e same = rw e same
    by_case (Some p) e same = rw e (ap (λ (l : List (Placed Scoped)). as_name p ∷ l) same)

-- what comes again, by names alone
pub repeated_names : (once : Once) (sections : List TextSection) → repeats same_scoped [] (filter_map (placed_in once) sections) ≡ repeats_of once sections
repeated_names (Identifiers node) sections = ap (λ (l : List (Placed Scoped)). repeats same_scoped [] l) (named (identifier_in node) sections) ∙ same_repeats [] (identifiers_in node sections)
repeated_names (Consumed given) sections = refl
repeated_names Names sections = refl

-- ---- section by section

-- the lines of what comes again, of one section and of the rest
repeats-first : (before : List Scoped) (found : Option (Placed Scoped)) (rest : List (Placed Scoped))
    → repeats same_scoped before (cons_option found rest) ≡ again_at before found ++ repeats same_scoped (kept_with before found) rest
repeats-first before None rest = refl
repeats-first before (Some p) rest = by_test (list_any (same_scoped p.key) before)
  where
    by_test : (b : Bool) → cond b (p.line ∷ repeats same_scoped before rest) (repeats same_scoped (before ++ p.key ∷ []) rest)
        ≡ cond b (p.line ∷ []) [] ++ repeats same_scoped (cond b before (before ++ p.key ∷ [])) rest
    by_test true = refl
    by_test false = refl

pub repeats-turn : {X : Type 0} (kind : WarningKind) (f : TextSection → Option (Placed Scoped)) (view : X → TextSection) (xs : List X) (i : ℕ) (d : X) (found : Option (Placed Scoped)) (before kept : List Scoped) (old new all : List Warning)
    → i < length xs → found ≡ f (view (get_or xs i d)) → new ≡ old ++ warnings_at kind (again_at before found) → kept ≡ kept_with before found
    → old ++ warnings_at kind (repeats same_scoped before (filter_map f (map view (drop i xs)))) ≡ all → new ++ warnings_at kind (repeats same_scoped kept (filter_map f (map view (drop (i + 1) xs)))) ≡ all
repeats-turn kind f view xs i d found before kept old new all inside is added more invariant =
    let rest = filter_map f (map view (drop (suc i) xs)) in
    rw (add-one i)
    (ap (λ l. l ++ warnings_at kind (repeats same_scoped kept rest)) added
    ∙ ap (λ (l : List Scoped). (old ++ warnings_at kind (again_at before found)) ++ warnings_at kind (repeats same_scoped l rest)) more
    ∙ append_assoc old (warnings_at kind (again_at before found)) (warnings_at kind (repeats same_scoped (kept_with before found) rest))
    ∙ ap (λ l. old ++ l) (sym (map-append (warning_at kind) (again_at before found) (repeats same_scoped (kept_with before found) rest)))
    ∙ ap (λ l. old ++ warnings_at kind l) (sym (repeats-first before found rest))
    ∙ ap (λ (o : Option (Placed Scoped)). old ++ warnings_at kind (repeats same_scoped before (cons_option o rest))) is
    ∙ ap (λ ss. old ++ warnings_at kind (repeats same_scoped before (filter_map f (map view ss)))) (sym (drop-cons xs i d inside))
    ∙ invariant)
