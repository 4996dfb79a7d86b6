-- What the code finds of the object lists, and whether they are at fault.
use Rattle.std.proofs.Common.{◌≡◌, ℕ, ◌+◌, ◌≤◌, ◌<◌, zero, suc, Bool, true, false, cond, not, ◌&&◌, ◌||◌, List, [], ◌∷◌, ◌++◌, Some, Result, Ok, Err, refl, sym, ap, ◌∙◌, subst, arith, map, length, get_or, take, drop, drop-cons, add-one, eqb, is_none}
use Rattle.std.specs.Prelude.{flat_map, filter}
use Rattle.std.specs.List.{list_any}
use Rattle.std.specs.Result.{result_ok}
use Rattle.std.proofs.lemmas.Bool.Decides.{nat_tests}
use Rattle.std.proofs.lemmas.List.{append-nil, append_assoc, drop_all}
use Rattle.std.proofs.Math.Seq.{take-suc}
use Rattle.co_sheet_text.specs.declared.section_kind.SectionKind.TheVariants.{MandatoryObjects}
use Rattle.co_sheet_text.specs.declared.numeral.NumeralFault.{NumeralFault}
use Rattle.co_sheet_text.specs.declared.text_section.Property.{Property as CodeProperty}
use Rattle.co_sheet_text.specs.Views.{property_view}
use Rattle.co_sheet_text.specs.Names.{is_list}
use Rattle.co_sheet_text.specs.Numerals.{unsigned_number}
use Rattle.co_sheet_text.specs.Properties.{property_number}
use Rattle.co_sheet_text.specs.Sections.{Property, TextSection, property_at, section_at}
use Rattle.co_sheet_text.specs.SectionLaws.{RisesFrom, IsParsed}
use Rattle.co_sheet_rows.specs.declared.fault.FaultKind.{FaultKind}
use Rattle.co_sheet_rows.specs.declared.fault.FaultKind.TheVariants.{BadList, ListedTwice, MissingSection, MissingMandatory}
use Rattle.co_sheet_rows.specs.declared.fault.SheetFault.{SheetFault}
use Rattle.co_sheet.specs.declared.checks.lists.Listing.{Listing as ListingOfCode}
use Rattle.co_sheet.specs.ObjectLists.{Listing, listings}
use Rattle.co_sheet.specs.Listings.{listing_view, is_bad_section}
use Rattle.co_sheet.specs.Checks.{fault_if, unread, unread_number, missing_lists, bad_lists, is_listed_before, listed_twice, missing_section, of_listings, missing_mandatory}
use Rattle.co_sheet.specs.private.ListReadings.{LinesRise}
use Rattle.co_sheet.proofs.TwiceLemmas.{AllBelow, AllAbove, above, seen-before}
use Rattle.co_sheet.proofs.KeyLemmas.{listings-rise}
use Rattle.co_sheet_faults.specs.Soundness.{unless, is_found, is_unread_at, unread_in_lists, are_lists_at_fault}
use Rattle.co_sheet_faults.specs.AllChecks.{all_missing_mandatory}
use Rattle.co_sheet_faults.specs.private.Collected.{collected_after, listing_collected, section_collected, compact_pdo, collected}
use Rattle.co_sheet_faults.specs.private.ListParts.{is_list_at_fault, is_listing_at_fault, is_named, lacks_mandatory}

-- ---- whether anything is found

pub any-map : {X Y : Type 0} (f : X → Y) (p : Y → Bool) (xs : List X) → list_any (λ x. p (f x)) xs ≡ list_any p (map f xs)
any-map f p [] = refl
any-map f p (x ∷ xs) = ap (λ b. p (f x) || b) (any-map f p xs)

pub found-if : (b : Bool) (kind : FaultKind) (line : ℕ) → is_found (fault_if b kind line) ≡ b
found-if true kind line = refl
found-if false kind line = refl

found-append : (xs ys : List SheetFault) → is_found (xs ++ ys) ≡ (is_found xs || is_found ys)
found-append [] ys = refl
found-append (x ∷ xs) ys = refl

pub found-flat : {X : Type 0} (f : X → List SheetFault) (xs : List X) → is_found (flat_map f xs) ≡ list_any (λ x. is_found (f x)) xs
found-flat f [] = refl
found-flat f (x ∷ xs) = found-append (f x) (flat_map f xs) ∙ ap (λ b. is_found (f x) || b) (found-flat f xs)

found-filter : {X : Type 0} (f : X → List SheetFault) (p : X → Bool) (xs : List X) → is_found (flat_map f (filter p xs)) ≡ list_any (λ x. p x && is_found (f x)) xs
found-filter f p [] = refl
found-filter f p (x ∷ xs) = by_test (p x) (found-filter f p xs)
  where
    by_test : (test : Bool) → is_found (flat_map f (filter p xs)) ≡ list_any (λ y. p y && is_found (f y)) xs
        → is_found (flat_map f (cond test (x ∷ filter p xs) (filter p xs))) ≡ ((test && is_found (f x)) || list_any (λ y. p y && is_found (f y)) xs)
    by_test true more = found-append (f x) (flat_map f (filter p xs)) ∙ ap (λ b. is_found (f x) || b) more
    by_test false more = more

either : (a b c d : Bool) → ((a || b) || (c || d)) ≡ ((a || c) || (b || d))
either true b c d = refl
either false true true d = refl
either false true false d = refl
either false false c d = refl

any-or : {X : Type 0} (p q r : X → Bool) → ((x : X) → r x ≡ (p x || q x)) → (xs : List X) → list_any r xs ≡ (list_any p xs || list_any q xs)
any-or p q r same [] = refl
any-or p q r same (x ∷ xs) =
    ap (λ b. b || list_any r xs) (same x) ∙ ap (λ b. (p x || q x) || b) (any-or p q r same xs) ∙ either (p x) (q x) (list_any p xs) (list_any q xs)

-- a number that can't be read
pub found-unread : (k : Property) → is_found (unread_number k) ≡ is_none (property_number k)
found-unread k = by_result (unsigned_number k.value)
  where
    by_result : (r : Result ℕ NumeralFault) → is_found (unread r k.line) ≡ is_none (result_ok r)
    by_result (Ok n) = refl
    by_result (Err e) = refl

-- ---- the lists as a whole

both-or : (l a b : Bool) → (l && (a || b)) ≡ ((l && a) || (l && b))
both-or true a b = refl
both-or false a b = refl

list-parts : (s : TextSection) → is_list_at_fault s ≡ ((is_list s.kind && is_found (flat_map unread_number s.properties)) || (is_list s.kind && is_found (fault_if (is_bad_section s) BadList s.line)))
list-parts s =
    both-or (is_list s.kind) (is_found (flat_map unread_number s.properties)) (is_bad_section s)
    ∙ ap (λ b. (is_list s.kind && is_found (flat_map unread_number s.properties)) || (is_list s.kind && b)) (sym (found-if (is_bad_section s) BadList s.line))

lists-parts : (sections : List TextSection) → list_any is_list_at_fault sections ≡ (is_found (unread_in_lists sections) || is_found (bad_lists sections))
lists-parts sections =
    any-or (λ s. is_list s.kind && is_found (flat_map unread_number s.properties)) (λ s. is_list s.kind && is_found (fault_if (is_bad_section s) BadList s.line)) is_list_at_fault list-parts sections
    ∙ ap (λ b. b || list_any (λ s. is_list s.kind && is_found (fault_if (is_bad_section s) BadList s.line)) sections)
    (sym (found-filter (λ s. flat_map unread_number s.properties) (λ s. is_list s.kind) sections))
    ∙ ap (λ b. is_found (unread_in_lists sections) || b)
    (sym (found-filter (λ s. fault_if (is_bad_section s) BadList s.line) (λ s. is_list s.kind) sections))

listings-parts : (sections : List TextSection) → list_any (is_listing_at_fault sections) (listings sections)
    ≡ (is_found (of_listings listed_twice sections) || is_found (of_listings missing_section sections))
listings-parts sections =
    any-or (λ l. is_found (listed_twice sections l)) (λ l. is_found (missing_section sections l)) (is_listing_at_fault sections)
    (λ l. ap (λ b. b || is_found (missing_section sections l)) (sym (found-if (is_listed_before (listings sections) l) ListedTwice l.line))) (listings sections)
    ∙ ap (λ b. b || list_any (λ l. is_found (missing_section sections l)) (listings sections)) (sym (found-flat (listed_twice sections) (listings sections)))
    ∙ ap (λ b. is_found (of_listings listed_twice sections) || b) (sym (found-flat (missing_section sections) (listings sections)))

five : (a b c d e : Bool) → (a || b || c || d || e) ≡ (a || ((b || c) || (d || e)))
five true b c d e = refl
five false true c d e = refl
five false false true d e = refl
five false false false d e = refl

all-parts : (sections : List TextSection) → are_lists_at_fault sections
    ≡ (is_none (section_at MandatoryObjects sections) || (list_any is_list_at_fault sections || list_any (is_listing_at_fault sections) (listings sections)))
all-parts sections =
    five (is_found (missing_lists sections)) (is_found (unread_in_lists sections)) (is_found (bad_lists sections)) (is_found (of_listings listed_twice sections)) (is_found (of_listings missing_section sections))
    ∙ ap (λ b. b || ((is_found (unread_in_lists sections) || is_found (bad_lists sections)) || (is_found (of_listings listed_twice sections) || is_found (of_listings missing_section sections))))
    (found-if (is_none (section_at MandatoryObjects sections)) MissingSection 0)
    ∙ ap (λ b. is_none (section_at MandatoryObjects sections) || (b || (is_found (of_listings listed_twice sections) || is_found (of_listings missing_section sections)))) (sym (lists-parts sections))
    ∙ ap (λ b. is_none (section_at MandatoryObjects sections) || (list_any is_list_at_fault sections || b)) (sym (listings-parts sections))

last-true : (a b c : Bool) → (a && (b && (c && true))) ≡ (a && b && c)
last-true true true true = refl
last-true true true false = refl
last-true true false c = refl
last-true false b c = refl

whole : (none bad again lacks : Bool) → unless (none || (bad || again)) (fault_if lacks MissingMandatory 0) ≡ fault_if (not none && not bad && not again && lacks) MissingMandatory 0
whole true bad again lacks = refl
whole false true again lacks = refl
whole false false true lacks = refl
whole false false false lacks = refl

-- what the code tests of its listings
pub lacks-code : (named : List ListingOfCode) (all : List Listing) → map listing_view named ≡ all → lacks_mandatory named
    ≡ not (list_any (λ l. eqb l.index 0x1000) all && list_any (λ l. eqb l.index 0x1001) all && list_any (λ l. eqb l.index 0x1018) all)
lacks-code named all is =
    let at : (i : ℕ) → is_named named i ≡ list_any (λ l. eqb l.index i) all = λ i. any-map listing_view (λ (l : Listing). eqb l.index i) named ∙ ap (list_any (λ l. eqb l.index i)) is in
    rw (at 0x1000, at 0x1001, at 0x1018) refl

-- 1000h, 1001h or 1018h in no list, by what the steps before say
pub mandatory-found : (sections : List TextSection) (named : List ListingOfCode) → map listing_view named ≡ listings sections → all_missing_mandatory sections
    ≡ fault_if (not (is_none (section_at MandatoryObjects sections)) && not (list_any is_list_at_fault sections) && not (list_any (is_listing_at_fault sections) (listings sections))
    && lacks_mandatory named) MissingMandatory 0
mandatory-found sections items is =
    let named : ℕ → Bool = λ i. list_any (λ (l : Listing). eqb l.index i) (listings sections) in
    let lacks = not (named 0x1000 && named 0x1001 && named 0x1018) in
    ap (λ b. unless b (missing_mandatory sections)) (all-parts sections)
    ∙ ap (λ b. unless (is_none (section_at MandatoryObjects sections) || (list_any is_list_at_fault sections || list_any (is_listing_at_fault sections) (listings sections))) (fault_if (not b) MissingMandatory 0))
    (last-true (named 0x1000) (named 0x1001) (named 0x1018))
    ∙ whole (is_none (section_at MandatoryObjects sections)) (list_any is_list_at_fault sections) (list_any (is_listing_at_fault sections) (listings sections)) lacks
    ∙ ap (λ b. fault_if (not (is_none (section_at MandatoryObjects sections)) && not (list_any is_list_at_fault sections) && not (list_any (is_listing_at_fault sections) (listings sections)) && b) MissingMandatory 0)
    (sym (lacks-code items (listings sections) is))

-- ---- the indices that are named before

lines-below : (l : Listing) (before rest : List Listing) (low : ℕ) → RisesFrom low (map (λ (o : Listing). o.line) (before ++ l ∷ rest)) → AllBelow l.line before × AllAbove l.line rest
lines-below l [] rest low rises = (tt, above l.line (l.line + 1) rest (omega arith) rises.1)
lines-below l (o ∷ before) rest low rises =
    let more = lines-below l before rest (o.line + 1) rises.1 in
    let below = first before (o.line + 1) rises.1 in
    let here : o.line < l.line = omega (arith, below) in
    ((here, more.0), more.1)
  where
    first : (ls : List Listing) (m : ℕ) → RisesFrom m (map (λ (p : Listing). p.line) (ls ++ l ∷ rest)) → m ≤ l.line
    first [] m r = r.0
    first (p ∷ ls) m r = let here = r.0 in let later = first ls (p.line + 1) r.1 in omega arith

-- of lines that rise
listed-before : (l : Listing) (before rest : List Listing) → LinesRise (before ++ l ∷ rest)
    → is_listed_before (before ++ l ∷ rest) l ≡ list_any (eqb l.index) (map (λ (o : Listing). o.index) before)
listed-before l before rest rises = let both = lines-below l before rest 1 rises in seen-before before l rest both.0 both.1

cut-at : (items : List ListingOfCode) (i : ℕ) (d : ListingOfCode) → i < length items
    → map listing_view items ≡ map listing_view (take i items) ++ listing_view (get_or items i d) ∷ map listing_view (drop (suc i) items)
cut-at [] i d h = absurd (omega arith)
cut-at (x ∷ items) zero d h = refl
cut-at (x ∷ items) (suc i) d h = ap (λ ls. listing_view x ∷ ls) (cut-at items i d (omega arith))

-- what the set of indices says of the next listing
pub named-before : (sections : List TextSection) (items : List ListingOfCode) (i : ℕ) (d : ListingOfCode) → map listing_view items ≡ listings sections → IsParsed sections → i < length items
    → is_listed_before (listings sections) (listing_view (get_or items i d)) ≡ list_any (eqb (get_or items i d).index) (map (λ (o : ListingOfCode). o.index) (take i items))
named-before sections items i d named parsed inside =
    let l = listing_view (get_or items i d) in
    let before = map listing_view (take i items) in
    let rest = map listing_view (drop (suc i) items) in
    let cut : listings sections ≡ before ++ l ∷ rest = sym named ∙ cut-at items i d inside in
    ap (λ ls. is_listed_before ls l) cut
    ∙ listed-before l before rest (subst LinesRise cut (listings-rise sections parsed))
    ∙ ap (list_any (eqb l.index)) (indices (take i items))
  where
    indices : (ls : List ListingOfCode) → map (λ (o : Listing). o.index) (map listing_view ls) ≡ map (λ (o : ListingOfCode). o.index) ls
    indices [] = refl
    indices (x ∷ ls) = ap (λ r. x.index ∷ r) (indices ls)

-- ---- item by item

any-same : {X : Type 0} (p q : X → Bool) → ((x : X) → p x ≡ q x) → (xs : List X) → list_any p xs ≡ list_any q xs
any-same p q same [] = refl
any-same p q same (x ∷ xs) = ap (λ b. b || list_any p xs) (same x) ∙ ap (λ b. q x || b) (any-same p q same xs)

-- whether one of these properties is no number
pub unread-any : (ks : List CodeProperty) → list_any (λ k. is_none (property_number (property_view k))) ks ≡ is_found (flat_map unread_number (map property_view ks))
unread-any ks =
    any-map property_view (λ k. is_none (property_number k)) ks
    ∙ any-same (λ k. is_none (property_number k)) (λ k. is_found (unread_number k)) (λ k. sym (found-unread k)) (map property_view ks)
    ∙ sym (found-flat unread_number (map property_view ks))

-- SupportedObjects that is no number
pub unread-at : (name : List ℕ) (s : TextSection) (k : Property) (b : Bool) → Some k ≡ property_at name s → b ≡ is_none (property_number k) → b ≡ is_unread_at name s
unread-at name s k b is h = rw (← is) (h ∙ sym (found-unread k))

-- what the items so far give, and what the rest gives
pub added-turn : {X V Y : Type 0} (view : X → V) (f : V → List Y) (xs : List X) (i : ℕ) (d : X) (before after all : List Y) → i < length xs
    → after ≡ before ++ f (view (get_or xs i d)) → before ++ flat_map f (map view (drop i xs)) ≡ all → after ++ flat_map f (map view (drop (i + 1) xs)) ≡ all
added-turn view f xs i d before after all inside is invariant =
    let rest = flat_map f (map view (drop (suc i) xs)) in
    rw (add-one i)
    (ap (λ l. l ++ rest) is ∙ append_assoc before (f (view (get_or xs i d))) rest
    ∙ sym (ap (λ l. before ++ flat_map f (map view l)) (drop-cons xs i d inside)) ∙ invariant)

pub added-end : {X V Y : Type 0} (view : X → V) (f : V → List Y) (xs : List X) (i : ℕ) (before all : List Y) → length xs ≤ i
    → before ++ flat_map f (map view (drop i xs)) ≡ all → before ≡ all
added-end view f xs i before all past invariant = sym (append-nil before) ∙ sym (ap (λ l. before ++ flat_map f (map view l)) (drop_all i xs past)) ∙ invariant

-- the same, where each item gives one
pub mapped-turn : {X Y : Type 0} (f : X → Y) (xs : List X) (i : ℕ) (d : X) (before after all : List Y) → i < length xs
    → after ≡ before ++ f (get_or xs i d) ∷ [] → before ++ map f (drop i xs) ≡ all → after ++ map f (drop (i + 1) xs) ≡ all
mapped-turn f xs i d before after all inside is invariant =
    let rest = map f (drop (suc i) xs) in
    rw (add-one i)
    (ap (λ l. l ++ rest) is ∙ append_assoc before (f (get_or xs i d) ∷ []) rest
    ∙ sym (ap (λ l. before ++ map f l) (drop-cons xs i d inside)) ∙ invariant)

pub mapped-end : {X Y : Type 0} (f : X → Y) (xs : List X) (i : ℕ) (before all : List Y) → length xs ≤ i
    → before ++ map f (drop i xs) ≡ all → before ≡ all
mapped-end f xs i before all past invariant = sym (append-nil before) ∙ sym (ap (λ l. before ++ map f l) (drop_all i xs past)) ∙ invariant

or-assoc : (a b c : Bool) → ((a || b) || c) ≡ (a || (b || c))
or-assoc true b c = refl
or-assoc false b c = refl

or-none : (a : Bool) → a ≡ (a || false)
or-none true = refl
or-none false = refl

pub any-turn : {X V : Type 0} (view : X → V) (p : V → Bool) (xs : List X) (i : ℕ) (d : X) (before after all : Bool) → i < length xs
    → after ≡ (before || p (view (get_or xs i d))) → (before || list_any p (map view (drop i xs))) ≡ all → (after || list_any p (map view (drop (i + 1) xs))) ≡ all
any-turn view p xs i d before after all inside is invariant =
    let rest = list_any p (map view (drop (suc i) xs)) in
    rw (add-one i)
    (ap (λ b. b || rest) is ∙ or-assoc before (p (view (get_or xs i d))) rest
    ∙ sym (ap (λ l. before || list_any p (map view l)) (drop-cons xs i d inside)) ∙ invariant)

pub any-end : {X V : Type 0} (view : X → V) (p : V → Bool) (xs : List X) (i : ℕ) (before all : Bool) → length xs ≤ i
    → (before || list_any p (map view (drop i xs))) ≡ all → before ≡ all
any-end view p xs i before all past invariant = or-none before ∙ sym (ap (λ l. before || list_any p (map view l)) (drop_all i xs past)) ∙ invariant

any-append : {X : Type 0} (p : X → Bool) (xs : List X) (x : X) → list_any p (xs ++ x ∷ []) ≡ (list_any p xs || p x)
any-append p [] x = sym (or-none (p x))
any-append p (y ∷ xs) x = ap (λ b. p y || b) (any-append p xs x) ∙ sym (or-assoc (p y) (list_any p xs) (p x))

-- a set of numbers with one more
seen-cases : (q n : ℕ) (seen : List ℕ) (there same : Bool) → list_any (eqb n) seen ≡ there → eqb q n ≡ same
    → list_any (eqb q) (cond there seen (seen ++ n ∷ [])) ≡ (list_any (eqb q) seen || same)
seen-cases q n seen false same h e = any-append (eqb q) seen n ∙ ap (λ b. list_any (eqb q) seen || b) e
seen-cases q n seen true false h e = or-none (list_any (eqb q) seen)
seen-cases q n seen true true h e =
    let alike : q ≡ n = grind (arith, nat_tests) in
    let found : list_any (eqb q) seen ≡ true = ap (λ m. list_any (eqb m) seen) alike ∙ h in
    rw found refl

index-push : (items : List ListingOfCode) (i : ℕ) (d : ListingOfCode) → i < length items
    → map (λ (o : ListingOfCode). o.index) (take (i + 1) items) ≡ map (λ (o : ListingOfCode). o.index) (take i items) ++ (get_or items i d).index ∷ []
index-push items i d inside =
    rw (add-one i) (ap (map (λ (o : ListingOfCode). o.index)) (take-suc items i d inside) ∙ push (take i items) (get_or items i d))
  where
    push : (ls : List ListingOfCode) (m : ListingOfCode) → map (λ (o : ListingOfCode). o.index) (ls ++ m ∷ []) ≡ map (λ (o : ListingOfCode). o.index) ls ++ m.index ∷ []
    push [] m = refl
    push (x ∷ ls) m = ap (λ r. x.index ∷ r) (push ls m)

pub seen-turn : (items : List ListingOfCode) (i : ℕ) (d : ListingOfCode) (seen more : List ℕ) → i < length items
    → more ≡ cond (list_any (eqb (get_or items i d).index) seen) seen (seen ++ (get_or items i d).index ∷ [])
    → ((q : ℕ) → list_any (eqb q) seen ≡ list_any (eqb q) (map (λ (o : ListingOfCode). o.index) (take i items)))
    → (q : ℕ) → list_any (eqb q) more ≡ list_any (eqb q) (map (λ (o : ListingOfCode). o.index) (take (i + 1) items))
seen-turn items i d seen more inside is known q =
    let n = (get_or items i d).index in
    let before = map (λ (o : ListingOfCode). o.index) (take i items) in
    ap (list_any (eqb q)) is
    ∙ seen-cases q n seen (list_any (eqb n) seen) (eqb q n) refl refl
    ∙ ap (λ b. b || eqb q n) (known q)
    ∙ sym (any-append (eqb q) before n)
    ∙ sym (ap (list_any (eqb q)) (index-push items i d inside))

-- ---- all of it

not-not : (b : Bool) → not (not b) ≡ b
not-not true = refl
not-not false = refl

three-append : (f a b c : List SheetFault) → ((f ++ a) ++ b) ++ c ≡ f ++ (a ++ (b ++ c))
three-append f a b c = append_assoc (f ++ a) b c ∙ append_assoc f a (b ++ c)

-- step by step
pub collected-all : (ss : List TextSection) (items : List ListingOfCode) (f f1 f2 f3 : List SheetFault) (has are : Bool)
    → has ≡ not (is_none (section_at MandatoryObjects ss)) → are ≡ list_any is_list_at_fault ss → map listing_view items ≡ listings ss
    → f1 ≡ f ++ fault_if (not has) MissingSection 0 → f2 ≡ f1 ++ flat_map section_collected ss → f3 ≡ f2 ++ collected_after has are items ss
    → f3 ≡ f ++ collected ss
collected-all ss items f f1 f2 f3 has are has-is are-is named-is e1 e2 e3 =
    let none = is_none (section_at MandatoryObjects ss) in
    let lists = list_any is_list_at_fault ss in
    let twice = list_any (is_listing_at_fault ss) (listings ss) in
    let lacks = lacks_mandatory items in
    let objects = flat_map (listing_collected ss) (listings ss) in
    let missing : (has && not are && not twice && lacks) ≡ (not none && not lists && not twice && lacks) =
    ap (λ b. b && not are && not twice && lacks) has-is ∙ ap (λ b. not none && not b && not twice && lacks) are-is in
    let first : fault_if (not has) MissingSection 0 ≡ missing_lists ss = ap (λ b. fault_if (not b) MissingSection 0) has-is ∙ ap (λ b. fault_if b MissingSection 0) (not-not none) in
    let last : fault_if (has && not are && not twice && lacks) MissingMandatory 0 ≡ all_missing_mandatory ss =
    ap (λ b. fault_if b MissingMandatory 0) missing ∙ sym (mandatory-found ss items named-is) in
    e3 ∙ ap (λ l. l ++ collected_after has are items ss) (e2 ∙ ap (λ l. l ++ flat_map section_collected ss) e1)
    ∙ ap (λ l. ((f ++ l) ++ flat_map section_collected ss) ++ collected_after has are items ss) first
    ∙ ap (λ l. ((f ++ missing_lists ss) ++ flat_map section_collected ss) ++ (compact_pdo ss ++ (objects ++ l))) last
    ∙ three-append f (missing_lists ss) (flat_map section_collected ss) (compact_pdo ss ++ (objects ++ all_missing_mandatory ss))
