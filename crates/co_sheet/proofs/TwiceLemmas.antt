-- Listings come in the order of their lines, so the first that names an index again is the one with the smallest line.
use Rattle.std.proofs.Common.{◌≡◌, ℕ, ◌+◌, ◌≤◌, ◌<◌, suc, Bool, true, false, cond, ◌&&◌, ◌||◌, List, [], ◌∷◌, ◌++◌, Option, Some, None, refl, sym, ap, ◌∙◌, arith, eqb, ltb, leb, fold, length, get_or, drop, drop-cons, add-one, append_assoc, map}
use Rattle.std.proofs.lemmas.Bool.Decides.{nat_tests}
use Rattle.std.proofs.lemmas.List.{drop_all}
use Rattle.std.specs.Prelude.{flat_map}
use Rattle.std.specs.List.{list_any, AllByRecursion}
use Rattle.co_sheet_text.specs.SectionLaws.{RisesFrom}
use Rattle.co_sheet.specs.declared.checks.lists.Listing.{Listing as ListingOfCode}
use Rattle.co_sheet_rows.specs.declared.fault.FaultKind.TheVariants.{ListedTwice}
use Rattle.co_sheet_rows.specs.declared.fault.SheetFault.{SheetFault}
use Rattle.co_sheet.specs.Faults.{fault_at}
use Rattle.co_sheet.specs.ObjectLists.{Listing}
use Rattle.co_sheet.specs.Checks.{fault_if, is_listed_before}
use Rattle.co_sheet.specs.Accepted.{least_fault}
use Rattle.co_sheet.specs.private.ListReadings.{listing_view, is_listed_at, twice_in, LinesRise}

-- the first listing of an index that was seen before
abbrev pub first_twice : List ℕ → List Listing → Option SheetFault
first_twice seen [] = None
first_twice seen (l ∷ ls) =
    cond (list_any (eqb l.index) seen) (Some (fault_at l.line ListedTwice)) (first_twice (seen ++ l.index ∷ []) ls)

-- the indices with one more
abbrev with_index : List ℕ → ℕ → List ℕ
with_index seen i = cond (list_any (eqb i) seen) seen (seen ++ i ∷ [])

-- ---- item by item

turn_cases : (b : Bool) (seen more : List ℕ) (l : Listing) (ls : List Listing) → b ≡ false → more ≡ cond b seen (seen ++ l.index ∷ [])
    → cond b (Some (fault_at l.line ListedTwice)) (first_twice (seen ++ l.index ∷ []) ls) ≡ first_twice more ls
turn_cases true seen more l ls h is = absurd (cc)
turn_cases false seen more l ls h is = ap (λ s. first_twice s ls) (sym is)

pub twice-turn : (items : List ListingOfCode) (i : ℕ) (d : ListingOfCode) (seen more : List ℕ) (first : Option SheetFault) → i < length items
    → list_any (eqb (get_or items i d).index) seen ≡ false → more ≡ with_index seen (get_or items i d).index
    → first_twice seen (map listing_view (drop i items)) ≡ first → first_twice more (map listing_view (drop (i + 1) items)) ≡ first
twice-turn items i d seen more first inside fresh is invariant =
    let l = get_or items i d in
    rw (add-one i)
    (sym (turn_cases (list_any (eqb l.index) seen) seen more (listing_view l) (map listing_view (drop (suc i) items)) fresh is)
    ∙ sym (ap (λ xs. first_twice seen (map listing_view xs)) (drop-cons items i d inside)) ∙ invariant)

pub twice-here : (items : List ListingOfCode) (i : ℕ) (d : ListingOfCode) (seen : List ℕ) (first : Option SheetFault) → i < length items
    → list_any (eqb (get_or items i d).index) seen ≡ true
    → first_twice seen (map listing_view (drop i items)) ≡ first → first ≡ Some (fault_at (get_or items i d).line ListedTwice)
twice-here items i d seen first inside again invariant =
    let l = get_or items i d in
    sym invariant ∙ ap (λ xs. first_twice seen (map listing_view xs)) (drop-cons items i d inside)
    ∙ ap (λ b. cond b (Some (fault_at l.line ListedTwice)) (first_twice (seen ++ l.index ∷ []) (map listing_view (drop (suc i) items)))) again

pub twice-end : (items : List ListingOfCode) (i : ℕ) (seen : List ℕ) (first : Option SheetFault) → length items ≤ i
    → first_twice seen (map listing_view (drop i items)) ≡ first → first ≡ None
twice-end items i seen first past invariant = sym invariant ∙ ap (λ xs. first_twice seen (map listing_view xs)) (drop_all i items past)

-- which are listed
any-append : {X : Type 0} (p : X → Bool) (xs : List X) (x : X) → list_any p (xs ++ x ∷ []) ≡ (list_any p xs || p x)
any-append p [] x = or_last (p x)
  where
    or_last : (b : Bool) → (b || false) ≡ b
    or_last true = refl
    or_last false = refl
any-append p (y ∷ xs) x = ap (λ b. p y || b) (any-append p xs x) ∙ or_assoc (p y) (list_any p xs) (p x)
  where
    or_assoc : (a b c : Bool) → (a || (b || c)) ≡ ((a || b) || c)
    or_assoc true b c = refl
    or_assoc false b c = refl

same_either : (a b c d : Bool) → a ≡ b → ((c || a) || d) ≡ (c || (b || d))
same_either a b true d h = refl
same_either a b false d h = ap (λ x. x || d) h

eqb-swap : (m n : ℕ) → eqb m n ≡ eqb n m
eqb-swap m n = grind (arith, nat_tests)

pub listed-turn : (items : List ListingOfCode) (i : ℕ) (d : ListingOfCode) (seen more : List ℕ) (k : ℕ) (all : Bool) → i < length items
    → list_any (eqb (get_or items i d).index) seen ≡ false → more ≡ with_index seen (get_or items i d).index
    → (list_any (eqb k) seen || is_listed_at k (map listing_view (drop i items))) ≡ all
    → (list_any (eqb k) more || is_listed_at k (map listing_view (drop (i + 1) items))) ≡ all
listed-turn items i d seen more k all inside fresh is invariant =
    let l = get_or items i d in
    let rest = is_listed_at k (map listing_view (drop (suc i) items)) in
    let grown : more ≡ seen ++ l.index ∷ [] = is ∙ ap (λ b. cond b seen (seen ++ l.index ∷ [])) fresh in
    rw (add-one i)
    (ap (λ s. list_any (eqb k) s || rest) grown ∙ ap (λ b. b || rest) (any-append (eqb k) seen l.index)
    ∙ same_either (eqb k l.index) (eqb l.index k) (list_any (eqb k) seen) rest (eqb-swap k l.index)
    ∙ sym (ap (λ xs. list_any (eqb k) seen || is_listed_at k (map listing_view xs)) (drop-cons items i d inside)) ∙ invariant)

pub listed-end : (items : List ListingOfCode) (i : ℕ) (seen : List ℕ) (k : ℕ) (all : Bool) → length items ≤ i
    → (list_any (eqb k) seen || is_listed_at k (map listing_view (drop i items))) ≡ all → list_any (eqb k) seen ≡ all
listed-end items i seen k all past invariant =
    or_last (list_any (eqb k) seen) ∙ sym (ap (λ xs. list_any (eqb k) seen || is_listed_at k (map listing_view xs)) (drop_all i items past)) ∙ invariant
  where
    or_last : (b : Bool) → b ≡ (b || false)
    or_last true = refl
    or_last false = refl

-- ---- the smallest line

abbrev pub AllBelow : ℕ → List Listing → Type 0
AllBelow line ls = AllByRecursion (λ (l : Listing). l.line < line) ls

abbrev pub AllAbove : ℕ → List Listing → Type 0
AllAbove line ls = AllByRecursion (λ (l : Listing). line < l.line) ls

pub above : (line low : ℕ) (ls : List Listing) → line < low → RisesFrom low (map (λ (l : Listing). l.line) ls) → AllAbove line ls
above line low [] h rises = tt
above line low (l ∷ ls) h rises = let first = rises.0 in (omega arith, above line (l.line + 1) ls (omega arith) rises.1)

pub below-more : (line more : ℕ) (ls : List Listing) → line ≤ more → AllBelow line ls → AllBelow more ls
below-more line more [] h all = tt
below-more line more (l ∷ ls) h all = let first = all.0 in (omega arith, below-more line more ls h all.1)

pub below-append : (line : ℕ) (ls : List Listing) (l : Listing) → AllBelow line ls → l.line < line → AllBelow line (ls ++ l ∷ [])
below-append line [] l all h = (h, tt)
below-append line (x ∷ ls) l all h = (all.0, below-append line ls l all.1 h)

-- a test of earlier lines, among those before a line, at it and after it
none_after : (l : Listing) (ls : List Listing) → AllAbove l.line ls → list_any (λ o. eqb o.index l.index && ltb o.line l.line) ls ≡ false
none_after l [] all = refl
none_after l (o ∷ ls) all =
    let first = all.0 in
    let late : ltb o.line l.line ≡ false = grind (arith, nat_tests) in
    rw late (neither (eqb o.index l.index) (none_after l ls all.1))
  where
    neither : (a : Bool) {b : Bool} → b ≡ false → ((a && false) || b) ≡ false
    neither true h = h
    neither false h = h

itself : (l : Listing) → (eqb l.index l.index && ltb l.line l.line) ≡ false
itself l = let same : ltb l.line l.line ≡ false = grind (arith, nat_tests) in rw same (last (eqb l.index l.index))
  where
    last : (a : Bool) → (a && false) ≡ false
    last true = refl
    last false = refl

pub seen-before : (before : List Listing) (l : Listing) (rest : List Listing) → AllBelow l.line before → AllAbove l.line rest
    → is_listed_before (before ++ l ∷ rest) l ≡ list_any (eqb l.index) (map (λ (o : Listing). o.index) before)
seen-before [] l rest below up = ap (λ b. b || list_any (λ o. eqb o.index l.index && ltb o.line l.line) rest) (itself l) ∙ none_after l rest up
seen-before (o ∷ before) l rest below up =
    let first = below.0 in
    let early : ltb o.line l.line ≡ true = grind (arith, nat_tests) in
    rw early
    (ap (λ b. b || is_listed_before (before ++ l ∷ rest) l) (alone (eqb o.index l.index) ∙ eqb-swap o.index l.index)
    ∙ ap (λ b. eqb l.index o.index || b) (seen-before before l rest below.1 up))
  where
    alone : (a : Bool) → (a && true) ≡ a
    alone true = refl
    alone false = refl

-- the first of faults on rising lines
abbrev kept : SheetFault → List SheetFault → SheetFault
kept f faults = fold (λ f g. cond (leb f.line g.line) f g) f faults

stay_cases : (b : Bool) (f : SheetFault) (line : ℕ) (rest : List SheetFault) → leb f.line line ≡ true → kept f rest ≡ f → kept f (fault_if b ListedTwice line ++ rest) ≡ f
stay_cases true f line rest before more = rw before more
stay_cases false f line rest before more = more

first-stays : (p : Listing → Bool) (f : SheetFault) (ls : List Listing) → AllAbove f.line ls → kept f (flat_map (λ l. fault_if (p l) ListedTwice l.line) ls) ≡ f
first-stays p f [] all = refl
first-stays p f (l ∷ ls) all =
    let up = all.0 in
    stay_cases (p l) f l.line (flat_map (λ m. fault_if (p m) ListedTwice m.line) ls) (grind (arith, nat_tests)) (first-stays p f ls all.1)

module _ (all : List Listing) where
  abbrev twice_at : Listing → List SheetFault
  twice_at l = fault_if (is_listed_before all l) ListedTwice l.line

  least_cases : (b : Bool) (l : Listing) (rest : List Listing) (more : Option SheetFault) → AllAbove l.line rest → more ≡ least_fault (flat_map twice_at rest)
      → cond b (Some (fault_at l.line ListedTwice)) more ≡ least_fault (fault_if b ListedTwice l.line ++ flat_map twice_at rest)
  least_cases true l rest more up is = ap Some (sym (first-stays (is_listed_before all) (fault_at l.line ListedTwice) rest up))
  least_cases false l rest more up is = is

least-from : (before rest : List Listing) (low : ℕ) → AllBelow low before → RisesFrom low (map (λ (l : Listing). l.line) rest)
    → first_twice (map (λ (l : Listing). l.index) before) rest ≡ least_fault (flat_map (twice_at (before ++ rest)) rest)
least-from before [] low below rises = refl
least-from before (l ∷ rest) low below rises =
    let up = above l.line (l.line + 1) rest (omega arith) rises.1 in
    let lower = below-more low l.line before rises.0 below in
    let test = seen-before before l rest lower up in
    let more = least-from (before ++ l ∷ []) rest (l.line + 1) (below-append (l.line + 1) before l (below-more l.line (l.line + 1) before (omega arith) lower) (omega arith)) rises.1 in
    least_cases (before ++ l ∷ rest) (list_any (eqb l.index) (map (λ (o : Listing). o.index) before)) l rest (first_twice (map (λ (o : Listing). o.index) before ++ l.index ∷ []) rest) up
    (ap (λ seen. first_twice seen rest) (sym (map-last before l)) ∙ more ∙ ap (λ all. least_fault (flat_map (twice_at all) rest)) (append_assoc before (l ∷ []) rest))
    ∙ ap (λ b. least_fault (fault_if b ListedTwice l.line ++ flat_map (twice_at (before ++ l ∷ rest)) rest)) (sym test)
  where
    map-last : (ls : List Listing) (m : Listing) → map (λ (o : Listing). o.index) (ls ++ m ∷ []) ≡ map (λ (o : Listing). o.index) ls ++ m.index ∷ []
    map-last [] m = refl
    map-last (x ∷ ls) m = ap (λ r. x.index ∷ r) (map-last ls m)

pub twice-least : (listings : List Listing) → LinesRise listings → first_twice [] listings ≡ least_fault (twice_in listings)
twice-least listings rises = least-from [] listings 1 tt rises
