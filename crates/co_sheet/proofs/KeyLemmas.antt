-- No index is listed twice and no entry has another's key, where the checks find nothing; so in order they increase.
use Rattle.std.proofs.Common.{◌≡◌, ℕ, ◌+◌, ◌<◌, Bool, true, false, cond, ◌&&◌, ◌||◌, if◌then◌else◌, List, [], ◌∷◌, ◌++◌, Option, Some, None, refl, sym, ap, ◌∙◌, subst, arith, map, eqb, ltb, leb, IfSome, eqb-true}
use Rattle.std.proofs.lemmas.Bool.Decides.{nat_tests}
use Rattle.std.specs.Prelude.{flat_map, filter, filter_map, option_and_then, AllPairs}
use Rattle.std.specs.List.{cons_option, list_any, AllByRecursion}
use Rattle.std.proofs.lemmas.List.Elements.{All-from_recursion}
use Rattle.std.proofs.lemmas.List.Kept.{AllPairs-cons}
use Rattle.co_value.specs.declared.key.Key.{Key}
use Rattle.co_sheet_text.specs.declared.section_kind.SectionKind.{SectionKind}
use Rattle.co_sheet_text.specs.declared.section_kind.SectionKind.TheVariants.{SubIndex}
use Rattle.co_sheet_rows.specs.declared.fault.FaultKind.TheVariants.{ListedTwice}
use Rattle.co_sheet_text.specs.Names.{is_list}
use Rattle.co_sheet_text.specs.Sections.{Property, TextSection}
use Rattle.co_sheet_text.specs.Properties.{property_number}
use Rattle.co_sheet.specs.ObjectLists.{is_one_of, count_of, Listing, listings_in, listings}
use Rattle.co_sheet.specs.private.ListReadings.{is_key_to, listing_at, named_by, LinesRise}
use Rattle.co_sheet.specs.Entries.{single_codes, compound_codes, object_code, ListedObject, listed_objects, Entry, sub_index_in, sub_indices, entries_in, entries_of}
use Rattle.co_sheet.specs.Checks.{fault_if, listed_twice}
use Rattle.co_value.specs.Keys.{is_key_before, same_key}
use Rattle.co_sheet.specs.Content.{insert_before, in_order}
use Rattle.co_sheet_text.specs.SectionLaws.{IsLikeNone, AllDiffer, is_read_twice, RisesFrom, property_lines, IsParsed}
use Rattle.co_sheet.proofs.ListingLemmas.{from_1000, named-all, named-in, none-named-in}
use Rattle.co_sheet_text.proofs.SectionLawLemmas.{rises-rest, rises-cons}
use Rattle.co_sheet.proofs.AcceptedLemmas.{no_fault, both-empty}

-- ---- lists

map-append : {X Y : Type 0} (f : X → Y) (xs ys : List X) → map f (xs ++ ys) ≡ map f xs ++ map f ys
map-append f [] ys = refl
map-append f (x ∷ xs) ys = ap (λ l. f x ∷ l) (map-append f xs ys)

map-flat_map : {X Y Z : Type 0} (f : Y → Z) (g : X → List Y) (xs : List X) → map f (flat_map g xs) ≡ flat_map (λ x. map f (g x)) xs
map-flat_map f g [] = refl
map-flat_map f g (x ∷ xs) = map-append f (g x) (flat_map g xs) ∙ ap (λ l. map f (g x) ++ l) (map-flat_map f g xs)

like_none-append : {X : Type 0} (alike : X → X → Bool) (x : X) (ys zs : List X) → IsLikeNone alike x ys → IsLikeNone alike x zs → IsLikeNone alike x (ys ++ zs)
like_none-append alike x [] zs none more = more
like_none-append alike x (y ∷ ys) zs none more = (none.0, like_none-append alike x ys zs none.1 more)

differ-append : {X : Type 0} (alike : X → X → Bool) (xs ys : List X) → AllDiffer alike xs → AllDiffer alike ys → AllByRecursion (λ x. IsLikeNone alike x ys) xs → AllDiffer alike (xs ++ ys)
differ-append alike [] ys differ more none = more
differ-append alike (x ∷ xs) ys differ more none = (like_none-append alike x xs ys differ.0 none.0, differ-append alike xs ys differ.1 more none.1)

-- ---- the lines of listings rise

at_line : (b : Bool) (line n : ℕ) → IfSome (if b then Some (record { index = n; line = line }) else None) (λ (l : Listing). l.line ≡ line)
at_line true line n = refl
at_line false line n = tt

at_number : (o : Option ℕ) (line : ℕ) → IfSome (option_and_then (λ n. if leb 0x1000 n then Some (record { index = n; line = line }) else None) o) (λ (l : Listing). l.line ≡ line)
at_number None line = tt
at_number (Some n) line = at_line (leb 0x1000 n) line n

at_test : (b : Bool) (o : Option Listing) (line : ℕ) → IfSome o (λ l. l.line ≡ line) → IfSome (if b then o else None) (λ l. l.line ≡ line)
at_test true o line h = h
at_test false o line h = tt

line-listed : (count : ℕ) (k : Property) → IfSome (listing_at count k) (λ l. l.line ≡ k.line)
line-listed count k = at_test (is_key_to count k) _ k.line (at_number (property_number k) k.line)

abbrev line_of : Listing → ℕ
line_of l = l.line

abbrev lines_of_keys : List Property → List ℕ
lines_of_keys keys = map (λ (k : Property). k.line) keys

-- what rises in a rest of lines, rises in another
abbrev Carries : List ℕ → List ℕ → Type 0
Carries rest other = (n : ℕ) → RisesFrom n rest → RisesFrom n other

rises-keys : (count : ℕ) (keys : List Property) (rest other : List ℕ) → Carries rest other → (low : ℕ) → RisesFrom low (lines_of_keys keys ++ rest)
    → RisesFrom low (map line_of (filter_map (listing_at count) keys) ++ other)
rises-keys count [] rest other more low rises = more low rises
rises-keys count (k ∷ keys) rest other more low rises =
    rises-cons line_of (listing_at count k) k.line low (filter_map (listing_at count) keys) other (line-listed count k) rises.0 (rises-keys count keys rest other more (k.line + 1) rises.1)

rises-counted : (s : TextSection) (count : Option ℕ) → count_of s ≡ count → (rest other : List ℕ) → Carries rest other → (low : ℕ) → RisesFrom low (lines_of_keys s.properties ++ rest)
    → RisesFrom low (map line_of (filter from_1000 (listings_in s)) ++ other)
rises-counted s (Some count) is rest other more low rises =
    subst (λ (ls : List Listing). RisesFrom low (map line_of ls ++ other)) (sym (named-in s count is)) (rises-keys count s.properties rest other more low rises)
rises-counted s None is rest other more low rises =
    subst (λ (ls : List Listing). RisesFrom low (map line_of ls ++ other)) (sym (none-named-in s is)) (more low (rises-rest low (lines_of_keys s.properties) rest rises))

rises-list : (b : Bool) (s : TextSection) (rest other : List ℕ) → Carries rest other → (low : ℕ) → RisesFrom low (lines_of_keys s.properties ++ rest)
    → RisesFrom low (map line_of (cond b (filter from_1000 (listings_in s)) []) ++ other)
rises-list true s rest other more low rises = rises-counted s (count_of s) refl rest other more low rises
rises-list false s rest other more low rises = more low (rises-rest low (lines_of_keys s.properties) rest rises)

rises-named : (ss : List TextSection) → Carries (property_lines ss) (flat_map (λ s. map line_of (named_by s)) ss)
rises-named [] low rises = tt
rises-named (s ∷ ss) low rises =
    rises-list (is_list s.kind) s (property_lines ss) (flat_map (λ t. map line_of (named_by t)) ss) (rises-named ss) low rises

pub listings-rise : (sections : List TextSection) → IsParsed sections → LinesRise (listings sections)
listings-rise sections parsed =
    subst (RisesFrom 1) (sym (ap (map line_of) (named-all sections) ∙ map-flat_map line_of named_by sections)) (rises-named sections 1 parsed.lines_rise)

-- ---- no index is listed twice

abbrev is_before : Listing → Listing → Bool
is_before other l = (eqb other.index l.index) && ltb other.line l.line

abbrev Quiet : List Listing → List Listing → Type 0
Quiet all ms = AllByRecursion (λ m. list_any (λ o. is_before o m) all ≡ false) ms

quiet : (all ms : List Listing) → flat_map (λ l. fault_if (list_any (λ o. is_before o l) all) ListedTwice l.line) ms ≡ [] → Quiet all ms
quiet all [] h = tt
quiet all (m ∷ ms) h =
    let apart = both-empty (fault_if (list_any (λ o. is_before o m) all) ListedTwice m.line) (flat_map (λ l. fault_if (list_any (λ o. is_before o l) all) ListedTwice l.line) ms) h in
    (no_fault (list_any (λ o. is_before o m) all) ListedTwice m.line apart.0, quiet all ms apart.1)

neither-true : (a b : Bool) → (a || b) ≡ false → (a ≡ false) × (b ≡ false)
neither-true true b h = absurd (cc)
neither-true false b h = (refl, h)

quiet-head : (x : Listing) (all ms : List Listing) → Quiet (x ∷ all) ms → AllByRecursion (λ m. is_before x m ≡ false) ms
quiet-head x all [] h = tt
quiet-head x all (m ∷ ms) h = ((neither-true (is_before x m) (list_any (λ o. is_before o m) all) h.0).0, quiet-head x all ms h.1)

quiet-tail : (x : Listing) (all ms : List Listing) → Quiet (x ∷ all) ms → Quiet all ms
quiet-tail x all [] h = tt
quiet-tail x all (m ∷ ms) h = ((neither-true (is_before x m) (list_any (λ o. is_before o m) all) h.0).1, quiet-tail x all ms h.1)

first_false : (a b : Bool) → (a && b) ≡ false → b ≡ true → a ≡ false
first_false true b h k = absurd (cc)
first_false false b h k = refl

unlike-later : (x : Listing) (low : ℕ) (ms : List Listing) → x.line < low → RisesFrom low (map line_of ms) → AllByRecursion (λ m. is_before x m ≡ false) ms
    → IsLikeNone eqb x.index (map (λ (l : Listing). l.index) ms)
unlike-later x low [] h rises none = tt
unlike-later x low (m ∷ ms) h rises none =
    let above = rises.0 in
    let later : ltb x.line m.line ≡ true = grind (arith, nat_tests) in
    (first_false (eqb x.index m.index) (ltb x.line m.line) none.0 later, unlike-later x (m.line + 1) ms (omega arith) rises.1 none.1)

indices-differ : (ls : List Listing) (low : ℕ) → RisesFrom low (map line_of ls) → Quiet ls ls → AllDiffer eqb (map (λ (l : Listing). l.index) ls)
indices-differ [] low rises none = tt
indices-differ (l ∷ ls) low rises none =
    (unlike-later l (l.line + 1) ls (omega arith) rises.1 (quiet-head l ls ls none.1), indices-differ ls (l.line + 1) rises.1 (quiet-tail l ls ls none.1))

pub listings-differ : (sections : List TextSection) → IsParsed sections → flat_map (listed_twice sections) (listings sections) ≡ [] → AllDiffer eqb (map (λ l. l.index) (listings sections))
listings-differ sections parsed none = indices-differ (listings sections) 1 (listings-rise sections parsed) (quiet (listings sections) (listings sections) none)

-- ---- no entry has another's key

abbrev key_of : Entry → Key
key_of e = e.key

abbrev kinds : List TextSection → List SectionKind
kinds ss = map (λ (s : TextSection). s.kind) ss

part_cases : (b : Bool) (key own : Key) (s : TextSection) (keys : List Entry) → same_key key own ≡ false → IsLikeNone same_key key (map key_of keys)
    → IsLikeNone same_key key (map key_of (cons_option (if b then Some (record { key = own; section = s }) else None) keys))
part_cases true key own s keys h none = (h, none)
part_cases false key own s keys h none = none

part-unlike-kind : (key : Key) (kind : SectionKind) (index : ℕ) (s : TextSection) (keys : List Entry) → is_read_twice (SubIndex key) kind ≡ false → IsLikeNone same_key key (map key_of keys)
    → IsLikeNone same_key key (map key_of (cons_option (sub_index_in index s kind) keys))
part-unlike-kind key (SubIndex own) index s keys h none = part_cases (eqb own.index index) key own s keys h none
part-unlike-kind key kind index s keys h none = none

part-unlike : (key : Key) (index : ℕ) (ss : List TextSection) → IsLikeNone is_read_twice (SubIndex key) (kinds ss) → IsLikeNone same_key key (map key_of (sub_indices ss index))
part-unlike key index [] none = tt
part-unlike key index (s ∷ ss) none = part-unlike-kind key s.kind index s (sub_indices ss index) none.0 (part-unlike key index ss none.1)

differ_cases : (b : Bool) (own : Key) (s : TextSection) (keys : List Entry) → IsLikeNone same_key own (map key_of keys) → AllDiffer same_key (map key_of keys)
    → AllDiffer same_key (map key_of (cons_option (if b then Some (record { key = own; section = s }) else None) keys))
differ_cases true own s keys none differ = (none, differ)
differ_cases false own s keys none differ = differ

parts-differ-kind : (kind : SectionKind) (index : ℕ) (s : TextSection) (ss : List TextSection) → IsLikeNone is_read_twice kind (kinds ss) → AllDiffer same_key (map key_of (sub_indices ss index))
    → AllDiffer same_key (map key_of (cons_option (sub_index_in index s kind) (sub_indices ss index)))
parts-differ-kind (SubIndex own) index s ss none differ = differ_cases (eqb own.index index) own s (sub_indices ss index) (part-unlike own index ss none) differ
parts-differ-kind kind index s ss none differ = differ

parts-differ : (index : ℕ) (ss : List TextSection) → AllDiffer is_read_twice (kinds ss) → AllDiffer same_key (map key_of (sub_indices ss index))
parts-differ index [] differ = tt
parts-differ index (s ∷ ss) differ = parts-differ-kind s.kind index s ss differ.0 (parts-differ index ss differ.1)

-- each entry of an object has its index
abbrev HaveIndex : ℕ → List Key → Type 0
HaveIndex index keys = AllByRecursion (λ k. k.index ≡ index) keys

index_cases : (b : Bool) (own : Key) (index : ℕ) (s : TextSection) (keys : List Entry) → (b ≡ true → own.index ≡ index) → HaveIndex index (map key_of keys)
    → HaveIndex index (map key_of (cons_option (if b then Some (record { key = own; section = s }) else None) keys))
index_cases true own index s keys is more = (is refl, more)
index_cases false own index s keys is more = more

parts-index-kind : (kind : SectionKind) (index : ℕ) (s : TextSection) (keys : List Entry) → HaveIndex index (map key_of keys)
    → HaveIndex index (map key_of (cons_option (sub_index_in index s kind) keys))
parts-index-kind (SubIndex own) index s keys more = index_cases (eqb own.index index) own index s keys (eqb-true own.index index) more
parts-index-kind kind index s keys more = more

parts-index : (index : ℕ) (ss : List TextSection) → HaveIndex index (map key_of (sub_indices ss index))
parts-index index [] = tt
parts-index index (s ∷ ss) = parts-index-kind s.kind index s (sub_indices ss index) (parts-index index ss)

keys-index : (single compound : Bool) (index : ℕ) (s : TextSection) (ss : List TextSection)
    → HaveIndex index (map key_of (cond single (record { key = record { index = index; sub = 0 }; section = s } ∷ []) (cond compound (sub_indices ss index) [])))
keys-index true compound index s ss = (refl, tt)
keys-index false true index s ss = parts-index index ss
keys-index false false index s ss = tt

keys-differ : (single compound : Bool) (index : ℕ) (s : TextSection) (ss : List TextSection) → AllDiffer is_read_twice (kinds ss)
    → AllDiffer same_key (map key_of (cond single (record { key = record { index = index; sub = 0 }; section = s } ∷ []) (cond compound (sub_indices ss index) [])))
keys-differ true compound index s ss differ = (tt, tt)
keys-differ false true index s ss differ = parts-differ index ss differ
keys-differ false false index s ss differ = tt

abbrev keys_in : List TextSection → ListedObject → List Key
keys_in sections o = map key_of (entries_in sections o)

other_index : (k l : Key) (i j : ℕ) → k.index ≡ i → l.index ≡ j → eqb i j ≡ false → same_key k l ≡ false
other_index k l i j of_k of_l h = rw (of_k, of_l, h) refl

unlike-index : (k : Key) (i j : ℕ) (keys : List Key) → k.index ≡ i → eqb i j ≡ false → HaveIndex j keys → IsLikeNone same_key k keys
unlike-index k i j [] of_k h have = tt
unlike-index k i j (l ∷ keys) of_k h have = (other_index k l i j of_k have.0 h, unlike-index k i j keys of_k h have.1)

unlike-objects : (sections : List TextSection) (k : Key) (i : ℕ) (os : List ListedObject) → k.index ≡ i → IsLikeNone eqb i (map (λ (o : ListedObject). o.index) os)
    → IsLikeNone same_key k (flat_map (keys_in sections) os)
unlike-objects sections k i [] of_k none = tt
unlike-objects sections k i (o ∷ os) of_k none =
    like_none-append same_key k (keys_in sections o) (flat_map (keys_in sections) os)
    (unlike-index k i o.index (keys_in sections o) of_k none.0 (keys-index (is_one_of single_codes (object_code o.section)) (is_one_of compound_codes (object_code o.section)) o.index o.section sections))
    (unlike-objects sections k i os of_k none.1)

each-unlike : (sections : List TextSection) (i : ℕ) (os : List ListedObject) (keys : List Key) → IsLikeNone eqb i (map (λ (o : ListedObject). o.index) os) → HaveIndex i keys
    → AllByRecursion (λ k. IsLikeNone same_key k (flat_map (keys_in sections) os)) keys
each-unlike sections i os [] none have = tt
each-unlike sections i os (k ∷ keys) none have = (unlike-objects sections k i os have.0 none, each-unlike sections i os keys none have.1)

objects-differ : (sections : List TextSection) (os : List ListedObject) → AllDiffer is_read_twice (kinds sections) → AllDiffer eqb (map (λ (o : ListedObject). o.index) os)
    → AllDiffer same_key (flat_map (keys_in sections) os)
objects-differ sections [] kinds-apart differ = tt
objects-differ sections (o ∷ os) kinds-apart differ =
    let single = is_one_of single_codes (object_code o.section) in
    let compound = is_one_of compound_codes (object_code o.section) in
    differ-append same_key (keys_in sections o) (flat_map (keys_in sections) os)
    (keys-differ single compound o.index o.section sections kinds-apart)
    (objects-differ sections os kinds-apart differ.1)
    (each-unlike sections o.index os (keys_in sections o) differ.0 (keys-index single compound o.index o.section sections))

pub entries-differ : (sections : List TextSection) → IsParsed sections → AllDiffer eqb (map (λ o. o.index) (listed_objects sections)) → AllDiffer same_key (map (λ e. e.key) (entries_of sections))
entries-differ sections parsed differ =
    subst (AllDiffer same_key) (sym (map-flat_map key_of (entries_in sections) (listed_objects sections))) (objects-differ sections (listed_objects sections) parsed.kinds_differ differ)

-- ---- values that differ increase in their order

pub record Orders {X : Type 0} (lt alike : X → X → Bool) : Type 0 where
  pub total : (x y : X) → alike x y ≡ false → lt y x ≡ false → lt x y ≡ true
  pub chain : (x y z : X) → lt x y ≡ true → lt y z ≡ true → lt x z ≡ true

abbrev AllAfter : {X : Type 0} → (X → X → Bool) → X → List X → Type 0
AllAfter lt x ys = AllByRecursion (λ y. lt x y ≡ true) ys

abbrev Increases : {X : Type 0} → (X → X → Bool) → List X → Type 0
Increases lt [] = Unit {0}
Increases lt (x ∷ xs) = AllAfter lt x xs × Increases lt xs

after-insert : {X : Type 0} (lt : X → X → Bool) (y x : X) (ys : List X) → lt y x ≡ true → AllAfter lt y ys → AllAfter lt y (insert_before lt x ys)
after-insert lt y x [] h after = (h, tt)
after-insert lt y x (z ∷ zs) h after =
    elim (lt z x) as (λ b. AllAfter lt y (cond b (z ∷ insert_before lt x zs) (x ∷ z ∷ zs))) [ true ↦ (after.0, after-insert lt y x zs h after.1) | false ↦ (h, after) ]

after-chain : {X : Type 0} (lt alike : X → X → Bool) (order : Orders lt alike) (x y : X) (ys : List X) → lt x y ≡ true → AllAfter lt y ys → AllAfter lt x ys
after-chain lt alike order x y [] h after = tt
after-chain lt alike order x y (z ∷ zs) h after = (order.chain x y z h after.0, after-chain lt alike order x y zs h after.1)

insert_cases : {X : Type 0} (lt alike : X → X → Bool) (order : Orders lt alike) (b : Bool) (x y : X) (ys : List X) → lt y x ≡ b → alike x y ≡ false → Increases lt (y ∷ ys) → Increases lt (insert_before lt x ys)
    → Increases lt (cond b (y ∷ insert_before lt x ys) (x ∷ y ∷ ys))
insert_cases lt alike order true x y ys is unlike rises more = (after-insert lt y x ys is rises.0, more)
insert_cases lt alike order false x y ys is unlike rises more =
    let below = order.total x y unlike is in
    ((below, after-chain lt alike order x y ys below rises.0), rises)

insert-increases : {X : Type 0} (lt alike : X → X → Bool) (order : Orders lt alike) (x : X) (ys : List X) → IsLikeNone alike x ys → Increases lt ys → Increases lt (insert_before lt x ys)
insert-increases lt alike order x [] none rises = (tt, tt)
insert-increases lt alike order x (y ∷ ys) none rises = insert_cases lt alike order (lt y x) x y ys refl none.0 rises (insert-increases lt alike order x ys none.1 rises.1)

like_none-insert : {X : Type 0} (lt alike : X → X → Bool) (x y : X) (ys : List X) → alike x y ≡ false → IsLikeNone alike x ys → IsLikeNone alike x (insert_before lt y ys)
like_none-insert lt alike x y [] h none = (h, tt)
like_none-insert lt alike x y (z ∷ zs) h none =
    elim (lt z y) as (λ b. IsLikeNone alike x (cond b (z ∷ insert_before lt y zs) (y ∷ z ∷ zs))) [ true ↦ (none.0, like_none-insert lt alike x y zs h none.1) | false ↦ (h, none) ]

like_none-in_order : {X : Type 0} (lt alike : X → X → Bool) (x : X) (ys : List X) → IsLikeNone alike x ys → IsLikeNone alike x (in_order lt ys)
like_none-in_order lt alike x [] none = tt
like_none-in_order lt alike x (y ∷ ys) none = like_none-insert lt alike x y (in_order lt ys) none.0 (like_none-in_order lt alike x ys none.1)

in_order-increases : {X : Type 0} (lt alike : X → X → Bool) (order : Orders lt alike) (xs : List X) → AllDiffer alike xs → Increases lt (in_order lt xs)
in_order-increases lt alike order [] differ = tt
in_order-increases lt alike order (x ∷ xs) differ =
    insert-increases lt alike order x (in_order lt xs) (like_none-in_order lt alike x xs differ.0) (in_order-increases lt alike order xs differ.1)

pairs-increase : {X : Type 0} (lt : X → X → Bool) (xs : List X) → Increases lt xs → AllPairs (λ x y. lt x y ≡ true) xs
pairs-increase lt [] rises = λ i j d h k. absurd (omega arith)
pairs-increase lt (x ∷ xs) rises =
    AllPairs-cons (λ x y. lt x y ≡ true) x xs (All-from_recursion (λ y. lt x y ≡ true) xs rises.0) (pairs-increase lt xs rises.1)

like_none-map : {X Y : Type 0} (f : X → Y) (alike : Y → Y → Bool) (x : X) (ys : List X) → IsLikeNone alike (f x) (map f ys) → IsLikeNone (λ a b. alike (f a) (f b)) x ys
like_none-map f alike x [] none = tt
like_none-map f alike x (y ∷ ys) none = (none.0, like_none-map f alike x ys none.1)

differ-map : {X Y : Type 0} (f : X → Y) (alike : Y → Y → Bool) (xs : List X) → AllDiffer alike (map f xs) → AllDiffer (λ a b. alike (f a) (f b)) xs
differ-map f alike [] differ = tt
differ-map f alike (x ∷ xs) differ = (like_none-map f alike x xs differ.0, differ-map f alike xs differ.1)

-- of values by what they say
pub increase : {X Y : Type 0} (f : X → Y) (lt alike : Y → Y → Bool) → Orders lt alike → (xs : List X) → AllDiffer alike (map f xs)
    → AllPairs (λ x y. lt (f x) (f y) ≡ true) (in_order (λ x y. lt (f x) (f y)) xs)
increase {X = X} f lt alike order xs differ =
    let own : Orders {X = X} (λ x y. lt (f x) (f y)) (λ x y. alike (f x) (f y)) = record {
      total = λ x y. order.total (f x) (f y);
      chain = λ x y z. order.chain (f x) (f y) (f z);
    } in
    pairs-increase (λ x y. lt (f x) (f y)) (in_order (λ x y. lt (f x) (f y)) xs)
    (in_order-increases (λ x y. lt (f x) (f y)) (λ x y. alike (f x) (f y)) own xs (differ-map f alike xs differ))

pub numbers_ordered : Orders ltb eqb
numbers_ordered = record {
  total = λ m n apart after. grind (arith, nat_tests);
  chain = λ k m n below more. grind (arith, nat_tests);
}

-- by the tests of two indices and two sub-indices
key_total : (k l : Key) → same_key k l ≡ false → is_key_before l k ≡ false → is_key_before k l ≡ true
key_total k l apart after = grind (arith, nat_tests)

key_chain : (k l m : Key) → is_key_before k l ≡ true → is_key_before l m ≡ true → is_key_before k m ≡ true
key_chain k l m below more = grind (arith, nat_tests)

pub keys_ordered : Orders is_key_before same_key
keys_ordered = record { total = key_total; chain = key_chain }
