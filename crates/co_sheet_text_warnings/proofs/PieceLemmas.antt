-- Lists that a loop goes over, item by item.
use Rattle.std.proofs.Common.{◌≡◌, ℕ, ◌+◌, ◌<◌, ◌≤◌, suc, eqb, Bool, true, false, cond, Option, Some, None, List, [], ◌∷◌, ◌++◌, refl, sym, ap, ◌∙◌, length, get_or, drop, drop-cons, add-one, append_assoc, arith}
use Rattle.std.proofs.lemmas.List.{append-nil, drop_all, map-append}
use Rattle.std.proofs.lemmas.Bool.Decides.{nat_tests}
use Rattle.std.specs.List.{cons_option, filter_map}
use Rattle.std.specs.Prelude.{is_none, is_some, option_to_list}
use Rattle.co_sheet_text_warnings.specs.declared.warning.Warning.{Warning}
use Rattle.co_sheet_text_warnings.specs.declared.warning.WarningKind.{WarningKind}
use Rattle.co_sheet_text_warnings.specs.Places.{warning_at, warnings_at}

-- one item more of what a list gives, where F gives a piece for each
pub pieces-turn : {X Y : Type 0} (F : List X → List Y) (piece : X → List Y) → ((x : X) (xs : List X) → F (x ∷ xs) ≡ piece x ++ F xs)
    → (xs : List X) (i : ℕ) (d : X) (before after all : List Y) → i < length xs → after ≡ before ++ piece (get_or xs i d)
    → before ++ F (drop i xs) ≡ all → after ++ F (drop (i + 1) xs) ≡ all
pieces-turn F piece cut xs i d before after all inside is invariant =
    let rest = F (drop (suc i) xs) in
    rw (add-one i)
    (ap (λ l. l ++ rest) is ∙ append_assoc before (piece (get_or xs i d)) rest ∙ ap (λ l. before ++ l) (sym (cut (get_or xs i d) (drop (suc i) xs)))
    ∙ ap (λ l. before ++ F l) (sym (drop-cons xs i d inside)) ∙ invariant)

-- the same, of warnings at the lines that a list gives
pub marked-turn : {X : Type 0} (kind : WarningKind) (F : List X → List ℕ) (piece : X → List ℕ) → ((x : X) (xs : List X) → F (x ∷ xs) ≡ piece x ++ F xs)
    → (xs : List X) (i : ℕ) (d : X) (before after all : List Warning) → i < length xs → after ≡ before ++ warnings_at kind (piece (get_or xs i d))
    → before ++ warnings_at kind (F (drop i xs)) ≡ all → after ++ warnings_at kind (F (drop (i + 1) xs)) ≡ all
marked-turn kind F piece cut =
    pieces-turn (λ xs. warnings_at kind (F xs)) (λ x. warnings_at kind (piece x)) (λ x xs. ap (warnings_at kind) (cut x xs) ∙ map-append (warning_at kind) (piece x) (F xs))

-- one item less to search, where what is found depends on a test of each
pub search-turn : {X Y : Type 0} (F : List X → Y) (test : X → Bool) (step : X → Bool → Y → Y) → ((x : X) (xs : List X) → F (x ∷ xs) ≡ step x (test x) (F xs)) → ((x : X) (y : Y) → step x false y ≡ y)
    → (xs : List X) (i : ℕ) (d : X) (all : Y) → i < length xs → test (get_or xs i d) ≡ false
    → F (drop i xs) ≡ all → F (drop (i + 1) xs) ≡ all
search-turn F test step cut past xs i d all inside fails invariant =
    let x = get_or xs i d in
    let rest = F (drop (suc i) xs) in
    rw (add-one i)
    (sym (past x rest) ∙ ap (λ b. step x b rest) (sym fails) ∙ sym (cut x (drop (suc i) xs)) ∙ ap F (sym (drop-cons xs i d inside)) ∙ invariant)

-- what is made of an item that is found, or else of what the others have
pub made-first : {X Y : Type 0} (make : Option X → Y) (is_found : Bool) (x : X) (rest : Option X) → make (cond is_found (Some x) rest) ≡ cond is_found (make (Some x)) (make rest)
made-first make true x rest = refl
made-first make false x rest = refl

-- the first item's piece, where a function gives one item or none
pub piece-first : {X Y : Type 0} (f : X → Option Y) (x : X) (xs : List X) → filter_map f (x ∷ xs) ≡ option_to_list (f x) ++ filter_map f xs
piece-first {Y = Y} f x xs = by_case (f x)
  where
    by_case : (found : Option Y) → cons_option found (filter_map f xs) ≡ option_to_list found ++ filter_map f xs
    by_case (Some y) = refl
    by_case None = refl

-- numbers that aren't equal
pub apart : (a b : ℕ) → (a ≡ b → ⊥) → eqb a b ≡ false
apart a b h = grind (arith, nat_tests)

-- past the last item
pub pieces-end : {X Y : Type 0} (F : List X → List Y) → F [] ≡ [] → (xs : List X) (i : ℕ) (before all : List Y) → length xs ≤ i
    → before ++ F (drop i xs) ≡ all → before ≡ all
pieces-end F none xs i before all past invariant =
    sym (append-nil before) ∙ ap (λ l. before ++ l) (sym none) ∙ sym (ap (λ l. before ++ F l) (drop_all i xs past)) ∙ invariant

-- past the last item of a search
pub search-end : {X Y : Type 0} (F : List X → Y) (xs : List X) (i : ℕ) (all : Y) → length xs ≤ i → F (drop i xs) ≡ all → F [] ≡ all
search-end F xs i all past invariant = sym (ap F (drop_all i xs past)) ∙ invariant

-- what is there isn't absent
pub some-is : {X : Type 0} (found : Option X) → is_some found ≡ true → is_none found ≡ false
some-is (Some x) h = refl
some-is None h = cc
