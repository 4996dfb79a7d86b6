-- A set of the indices that listings name.
use Rattle.std.proofs.Common.{◌≡◌, ℕ, ◌+◌, ◌<◌, ◌≤◌, suc, Bool, true, false, cond, ◌||◌, List, [], ◌∷◌, ◌++◌, refl, sym, ap, ◌∙◌, arith, map, length, get_or, drop, drop-cons, add-one, eqb}
use Rattle.std.specs.List.{list_any}
use Rattle.std.proofs.lemmas.Bool.Decides.{nat_tests}
use Rattle.std.proofs.lemmas.List.{drop_all}
use Rattle.co_sheet.specs.declared.checks.lists.Listing.{Listing}
use Rattle.co_sheet.specs.Listings.{listing_view}
use Rattle.co_sheet_text_warnings.specs.private.Views.{names}

abbrev pub none_named : Listing
none_named = record { index = 0; line = 0 }

or-assoc : (a b c : Bool) → ((a || b) || c) ≡ (a || (b || c))
or-assoc true b c = refl
or-assoc false b c = refl

or-none : (a : Bool) → a ≡ (a || false)
or-none true = refl
or-none false = refl

any-append : {X : Type 0} (p : X → Bool) (xs : List X) (x : X) → list_any p (xs ++ x ∷ []) ≡ (list_any p xs || p x)
any-append p [] x = sym (or-none (p x))
any-append p (y ∷ xs) x = ap (λ b. p y || b) (any-append p xs x) ∙ sym (or-assoc (p y) (list_any p xs) (p x))

-- a set of numbers with one more
one-more : (i n : ℕ) (keys : List ℕ) (there same : Bool) → list_any (eqb n) keys ≡ there → eqb n i ≡ same
    → list_any (eqb i) (cond there keys (keys ++ n ∷ [])) ≡ (list_any (eqb i) keys || same)
one-more i n keys false same h e =
    let turned : eqb i n ≡ same = swapped i n ∙ e in any-append (eqb i) keys n ∙ ap (λ b. list_any (eqb i) keys || b) turned
  where
    swapped : (a b : ℕ) → eqb a b ≡ eqb b a
    swapped a b = grind (arith, nat_tests)
one-more i n keys true false h e = or-none (list_any (eqb i) keys)
one-more i n keys true true h e =
    let alike : i ≡ n = grind (arith, nat_tests) in
    let found : list_any (eqb i) keys ≡ true = ap (λ m. list_any (eqb m) keys) alike ∙ h in
    rw found refl

pub indices-turn : (items : List Listing) (at : ℕ) (d : Listing) (keys more : List ℕ) (i : ℕ) (all : Bool) → at < length items
    → more ≡ cond (list_any (eqb (get_or items at d).index) keys) keys (keys ++ (get_or items at d).index ∷ [])
    → (list_any (eqb i) keys || names i (map listing_view (drop at items))) ≡ all → (list_any (eqb i) more || names i (map listing_view (drop (at + 1) items))) ≡ all
indices-turn items at d keys more i all inside is invariant =
    let n = (get_or items at d).index in
    let rest = names i (map listing_view (drop (suc at) items)) in
    rw (add-one at)
    (ap (λ b. b || rest) (ap (list_any (eqb i)) is ∙ one-more i n keys (list_any (eqb n) keys) (eqb n i) refl refl) ∙ or-assoc (list_any (eqb i) keys) (eqb n i) rest
    ∙ sym (ap (λ ls. list_any (eqb i) keys || names i (map listing_view ls)) (drop-cons items at d inside)) ∙ invariant)

pub indices-end : (items : List Listing) (at : ℕ) (keys : List ℕ) (i : ℕ) (all : Bool) → length items ≤ at
    → (list_any (eqb i) keys || names i (map listing_view (drop at items))) ≡ all → list_any (eqb i) keys ≡ all
indices-end items at keys i all past invariant =
    or-none (list_any (eqb i) keys) ∙ sym (ap (λ ls. list_any (eqb i) keys || names i (map listing_view ls)) (drop_all at items past)) ∙ invariant
