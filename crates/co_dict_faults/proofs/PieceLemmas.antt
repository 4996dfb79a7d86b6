-- Lists that a loop makes item by item.
use Rattle.std.proofs.Common.{◌≡◌, ℕ, ◌+◌, ◌<◌, ◌≤◌, suc, Bool, true, false, cond, List, [], ◌∷◌, ◌++◌, sym, ap, ◌∙◌, length, get_or, drop, drop-cons, add-one, append_assoc}
use Rattle.std.proofs.lemmas.List.{append-nil, drop_all}
use Rattle.co_dict_build.specs.declared.build_fault.BuildFault.{BuildFault}
use Rattle.co_dict_faults.specs.AllBuildFaults.{list_if}

-- one item more, where F gives a piece for the first item and G what comes after it
piece-turn : {X Y : Type 0} (F : List X → List Y) (piece : X → List Y) (G : X → List X → List Y) → ((x : X) (xs : List X) → F (x ∷ xs) ≡ piece x ++ G x xs)
    → (xs : List X) (i : ℕ) (d : X) (before after all : List Y) → i < length xs → after ≡ before ++ piece (get_or xs i d)
    → before ++ F (drop i xs) ≡ all → after ++ G (get_or xs i d) (drop (i + 1) xs) ≡ all
piece-turn F piece G cut xs i d before after all inside is invariant =
    let x = get_or xs i d in
    let rest = G x (drop (suc i) xs) in
    rw (add-one i)
    (ap (λ l. l ++ rest) is ∙ append_assoc before (piece x) rest ∙ ap (λ l. before ++ l) (sym (cut x (drop (suc i) xs)))
    ∙ ap (λ l. before ++ F l) (sym (drop-cons xs i d inside)) ∙ invariant)

pub pieces-turn : {X Y : Type 0} (F : List X → List Y) (piece : X → List Y) → ((x : X) (xs : List X) → F (x ∷ xs) ≡ piece x ++ F xs)
    → (xs : List X) (i : ℕ) (d : X) (before after all : List Y) → i < length xs → after ≡ before ++ piece (get_or xs i d)
    → before ++ F (drop i xs) ≡ all → after ++ F (drop (i + 1) xs) ≡ all
pieces-turn F piece cut xs i d before after all inside is invariant = piece-turn F piece (λ x. F) cut xs i d before after all inside is invariant

-- one item more, which gives a fault where it passes a test
pub faults-turn : {X : Type 0} (F : List X → List BuildFault) (test : X → Bool) (fault : X → BuildFault) (G : X → List X → List BuildFault)
    → ((x : X) (xs : List X) → F (x ∷ xs) ≡ list_if (test x) (fault x) ++ G x xs)
    → (xs : List X) (i : ℕ) (d : X) (is_found : Bool) (before after all : List BuildFault) → i < length xs → is_found ≡ test (get_or xs i d)
    → after ≡ before ++ list_if is_found (fault (get_or xs i d))
    → before ++ F (drop i xs) ≡ all → after ++ G (get_or xs i d) (drop (i + 1) xs) ≡ all
faults-turn F test fault G cut xs i d is_found before after all inside is added invariant =
    piece-turn F (λ x. list_if (test x) (fault x)) G cut xs i d before after all inside (added ∙ ap (λ b. before ++ list_if b (fault (get_or xs i d))) is) invariant

-- past the last item
pub pieces-end : {X Y : Type 0} (F : List X → List Y) → F [] ≡ [] → (xs : List X) (i : ℕ) (before all : List Y) → length xs ≤ i
    → before ++ F (drop i xs) ≡ all → before ≡ all
pieces-end F none xs i before all past invariant =
    sym (append-nil before) ∙ ap (λ l. before ++ l) (sym none) ∙ sym (ap (λ l. before ++ F l) (drop_all i xs past)) ∙ invariant

-- one item more, kept where it passes a test, and passed over where it doesn't
pub kept-turn : {X Y : Type 0} (F : List X → List Y) (test : X → Bool) (make : X → Y) → ((x : X) (xs : List X) → F (x ∷ xs) ≡ cond (test x) (make x ∷ []) [] ++ F xs)
    → (xs : List X) (i : ℕ) (d : X) → test (get_or xs i d) ≡ true → (before after all : List Y) → i < length xs → after ≡ before ++ make (get_or xs i d) ∷ []
    → before ++ F (drop i xs) ≡ all → after ++ F (drop (i + 1) xs) ≡ all
kept-turn F test make cut xs i d passes before after all inside added invariant =
    let x = get_or xs i d in
    pieces-turn F (λ x. cond (test x) (make x ∷ []) []) cut xs i d before after all inside (added ∙ ap (λ b. before ++ cond b (make x ∷ []) []) (sym passes)) invariant

pub passed-turn : {X Y : Type 0} (F : List X → List Y) (test : X → Bool) (make : X → Y) → ((x : X) (xs : List X) → F (x ∷ xs) ≡ cond (test x) (make x ∷ []) [] ++ F xs)
    → (xs : List X) (i : ℕ) (d : X) → test (get_or xs i d) ≡ false → (before all : List Y) → i < length xs
    → before ++ F (drop i xs) ≡ all → before ++ F (drop (i + 1) xs) ≡ all
passed-turn F test make cut xs i d fails before all inside invariant =
    let x = get_or xs i d in
    pieces-turn F (λ x. cond (test x) (make x ∷ []) []) cut xs i d before before all inside
    (sym (append-nil before) ∙ ap (λ b. before ++ cond b (make x ∷ []) []) (sym fails)) invariant
