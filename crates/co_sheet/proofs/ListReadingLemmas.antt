-- What is read of the lists, section by section.
use Rattle.std.proofs.Common.{Bor, not, ◌≡◌, ℕ, ◌+◌, ◌≤◌, ◌<◌, suc, arith, length, get_or, drop, drop-cons, add-one, ◌&&◌, add-zero, ◌⊎◌, inl, inr, ltb, Bool, true, false, cond, ◌||◌, List, [], ◌∷◌, ◌++◌, Option, Some, None, refl, sym, ap, ◌∙◌, map}
use Rattle.std.specs.Prelude.{flat_map, is_none, is_some, option_map, option_and_then}
use Rattle.std.proofs.lemmas.Bool.Decides.{nat_tests}
use Rattle.std.proofs.lemmas.List.{drop_all}
use Rattle.std.specs.List.{filter, list_any}
use Rattle.std.specs.Option.{option_map_or, option_or, option_copied}
use Rattle.co_sheet_text.specs.declared.text_section.Property.{Property as CodeProperty}
use Rattle.co_sheet_text.specs.Properties.{property_number}
use Rattle.co_sheet_text.specs.Views.{property_view}
use Rattle.co_sheet_text.specs.declared.section_kind.SectionKind.TheVariants.{MandatoryObjects, DummyUsage, DeviceInfo, DeviceCommissioning}
use Rattle.co_sheet_text.specs.Names.{is_list, same_kind}
use Rattle.co_sheet_text.specs.Sections.{Property, TextSection, section_at}
use Rattle.co_sheet.specs.declared.checks.findings.Finding.{Finding}
use Rattle.co_sheet_rows.specs.declared.fault.FaultKind.TheVariants.{BadList, MissingSection}
use Rattle.co_sheet_rows.specs.declared.fault.SheetFault.{SheetFault}
use Rattle.co_sheet.specs.ObjectLists.{Listing, keys_to}
use Rattle.co_sheet.specs.Checks.{fault_if, unread_number, has_numbers, is_bad_list}
use Rattle.co_sheet.specs.Accepted.{least_fault, first_found}
use Rattle.co_sheet.specs.Faults.{fault_at}
use Rattle.co_sheet.specs.private.Findings.{found_by, soonest}
use Rattle.co_sheet.specs.private.ListReadings.{listing_with, listing_at, is_key_to, unread_in, is_bad_section, bad_in, list_finding, named_in, named_by, own_checks}
use Rattle.co_sheet.proofs.FindingLemmas.{over_list, soonest-first, found-fault}
use Rattle.co_sheet.proofs.ListLemmas.{append-none, flat_map-filter}

-- ---- key by key

module _ (p : Property → Bool) where
  count_cases : (b : Bool) (n more all : ℕ) (k : Property) (keys : List Property) → more ≡ n + cond b 1 0 → n + length (cond b (k ∷ keys) keys) ≡ all → more + length keys ≡ all
  count_cases true n more all k keys is invariant = omega arith
  count_cases false n more all k keys is invariant = omega arith

  pub count-turn : (items : List CodeProperty) (i : ℕ) (d : CodeProperty) (n more all : ℕ) → i < length items → more ≡ n + cond (p (property_view (get_or items i d))) 1 0
      → n + length (filter p (map property_view (drop i items))) ≡ all → more + length (filter p (map property_view (drop (i + 1) items))) ≡ all
  count-turn items i d n more all inside is invariant =
      let k = property_view (get_or items i d) in
      rw (add-one i)
      (count_cases (p k) n more all k (filter p (map property_view (drop (suc i) items))) is
      (sym (ap (λ xs. n + length (filter p (map property_view xs))) (drop-cons items i d inside)) ∙ invariant))

  pub count-end : (items : List CodeProperty) (i n all : ℕ) → length items ≤ i → n + length (filter p (map property_view (drop i items))) ≡ all → n ≡ all
  count-end items i n all past invariant =
      let none : n + length (filter p (map property_view (drop i items))) ≡ n + 0 = ap (λ xs. n + length (filter p (map property_view xs))) (drop_all i items past) in
      omega arith

  any_cases : (q : Property → Bool) (b l more all : Bool) (k : Property) (keys : List Property) → more ≡ (l || (b && q k)) → (l || list_any q (cond b (k ∷ keys) keys)) ≡ all → (more || list_any q keys) ≡ all
  any_cases q true l more all k keys is invariant = ap (λ m. m || list_any q keys) is ∙ or_assoc l (q k) (list_any q keys) ∙ invariant
    where
      or_assoc : (x y z : Bool) → ((x || y) || z) ≡ (x || (y || z))
      or_assoc true y z = refl
      or_assoc false y z = refl
  any_cases q false l more all k keys is invariant = ap (λ m. m || list_any q keys) (is ∙ or_last l) ∙ invariant
    where
      or_last : (x : Bool) → (x || false) ≡ x
      or_last true = refl
      or_last false = refl

  pub any-turn : (q : Property → Bool) (items : List CodeProperty) (i : ℕ) (d : CodeProperty) (l more all : Bool) → i < length items
      → more ≡ (l || (p (property_view (get_or items i d)) && q (property_view (get_or items i d))))
      → (l || list_any q (filter p (map property_view (drop i items)))) ≡ all → (more || list_any q (filter p (map property_view (drop (i + 1) items)))) ≡ all
  any-turn q items i d l more all inside is invariant =
      let k = property_view (get_or items i d) in
      rw (add-one i)
      (any_cases q (p k) l more all k (filter p (map property_view (drop (suc i) items))) is
      (sym (ap (λ xs. l || list_any q (filter p (map property_view xs))) (drop-cons items i d inside)) ∙ invariant))

  pub any-end : (q : Property → Bool) (items : List CodeProperty) (i : ℕ) (l all : Bool) → length items ≤ i → (l || list_any q (filter p (map property_view (drop i items)))) ≡ all → l ≡ all
  any-end q items i l all past invariant =
      or_last l ∙ sym (ap (λ xs. l || list_any q (filter p (map property_view xs))) (drop_all i items past)) ∙ invariant
    where
      or_last : (x : Bool) → x ≡ (x || false)
      or_last true = refl
      or_last false = refl

-- what one key gives, if it is a place
pub counts-one : {p : Bool} (n : ℕ) {more : ℕ} → more ≡ n + 1 → true ≡ p → more ≡ n + cond p 1 0
counts-one n is key = is ∙ ap (λ b. n + cond b 1 0) key

pub counts-none : {p : Bool} (n : ℕ) {more : ℕ} → more ≡ n → false ≡ p → more ≡ n + cond p 1 0
counts-none n is key = is ∙ sym (add-zero n) ∙ ap (λ b. n + cond b 1 0) key

pub tests-one : {p q more big : Bool} (l : Bool) → more ≡ (l || big) → big ≡ q → true ≡ p → more ≡ (l || (p && q))
tests-one {q = q} l is same key = is ∙ ap (λ b. l || b) same ∙ ap (λ b. l || (b && q)) key

pub tests-none : {p more : Bool} (q l : Bool) → more ≡ l → false ≡ p → more ≡ (l || (p && q))
tests-none q l is key = is ∙ or_last l ∙ ap (λ b. l || (b && q)) key
  where
    or_last : (x : Bool) → x ≡ (x || false)
    or_last true = refl
    or_last false = refl

pub names-one : (count : ℕ) (k : Property) (index : Option ℕ) → true ≡ is_key_to count k → index ≡ property_number k → option_and_then (listing_with k.line) index ≡ listing_at count k
names-one count k index key number = ap (option_and_then (listing_with k.line)) number ∙ ap (λ b. cond b (option_and_then (listing_with k.line) (property_number k)) None) key

pub names-none : (count : ℕ) (k : Property) → false ≡ is_key_to count k → None ≡ listing_at count k
names-none count k key = ap (λ b. cond b (option_and_then (listing_with k.line) (property_number k)) None) key

-- a count that is too large, or more than there are places
pub bad-counts : (s : TextSection) (n places : ℕ) → places ≡ length (keys_to s n) → (65535 < n) ⊎ ((n ≤ 65535) × (places < n)) → true ≡ is_bad_list s n
bad-counts s n places len (inl h) = let large : ltb 65535 n ≡ true = grind (arith, nat_tests) in rw large refl
bad-counts s n places len (inr h) =
    let few = h.1 in
    let short : ltb (length (keys_to s n)) n ≡ true = grind (arith, nat_tests) in
    rw short (short_true (ltb 65535 n) _)
  where
    short_true : (a b : Bool) → true ≡ ((a || true) || b)
    short_true true b = refl
    short_true false b = refl

pub good-counts : (s : TextSection) (n places : ℕ) (large : Bool) → places ≡ length (keys_to s n) → (n ≤ 65535) × (n ≤ places)
    → large ≡ list_any (λ k. option_map_or (ltb 0xFFFF) (property_number k) false) (keys_to s n) → large ≡ is_bad_list s n
good-counts s n places large len h is =
    let fits = h.0 in
    let enough = h.1 in
    let small : ltb 65535 n ≡ false = grind (arith, nat_tests) in
    let whole : ltb (length (keys_to s n)) n ≡ false = grind (arith, nat_tests) in
    rw (small, whole) is

-- ---- one section

no_list : (list d i c : Bool) → (list || d || i || c) ≡ false → list ≡ false
no_list true d i c h = absurd (cc)
no_list false d i c h = refl

-- a section that isn't read here
pub none-named : (s : TextSection) (before : List Listing) → has_numbers s.kind ≡ false → before ≡ before ++ named_by s
none-named s before h = let other = no_list (is_list s.kind) (same_kind s.kind DummyUsage) (same_kind s.kind DeviceInfo) (same_kind s.kind DeviceCommissioning) h in rw other (sym (append-none before))

-- a number that can't be read
pub number-read : (s : TextSection) (fault : SheetFault) → has_numbers s.kind ≡ true → least_fault (flat_map unread_number s.properties) ≡ Some fault → Some (found_by 2 fault) ≡ list_finding s
number-read s fault h unread = rw (h, unread) refl

-- DummyUsage, DeviceInfo or the device commissioning
or-none : {X : Type 0} (o : Option X) → o ≡ option_or o None
or-none None = refl
or-none (Some x) = refl

-- a list
pub list-read : (s : TextSection) (bad : Bool) → has_numbers s.kind ≡ true → is_list s.kind ≡ true → least_fault (flat_map unread_number s.properties) ≡ None → bad ≡ is_bad_section s
    → option_map (found_by 3) (least_fault (fault_if bad BadList s.line)) ≡ list_finding s
list-read s bad h list unread is =
    rw (h, list, unread) (ap (λ b. option_map (found_by 3) (least_fault (fault_if b BadList s.line))) is ∙ or-none (option_map (found_by 3) (least_fault (fault_if (is_bad_section s) BadList s.line))))

pub list-named : (s : TextSection) (before after : List Listing) → is_list s.kind ≡ true → after ≡ before ++ named_in s → after ≡ before ++ named_by s
list-named s before after list is = rw list is

-- ---- all sections

-- whether a section is there
pub none-view : {X V : Type 0} (view : X → V) (o : Option (Bor X)) → is_none (option_map view (option_copied o)) ≡ not (is_some o)
none-view view None = refl
none-view view (Some x) = refl

pub lists-found : (sections : List TextSection) → is_none (section_at MandatoryObjects sections) ≡ false → first_found own_checks sections ≡ option_map (λ (f : Finding). f.fault) (soonest list_finding sections)
lists-found sections there =
    rw there
    (sym
    (ap (option_map (λ (f : Finding). f.fault)) (soonest-first 2 (unread_in ∷ bad_in ∷ []) sections)
    ∙ found-fault 2 (over_list (unread_in ∷ bad_in ∷ [])) sections
    ∙ ap (λ fs. option_or (least_fault fs) (option_or (least_fault (flat_map bad_in sections)) None)) (sym (flat_map-filter (λ s. flat_map unread_number s.properties) (λ s. has_numbers s.kind) sections))
    ∙ ap (λ fs. option_or (least_fault (flat_map (λ s. flat_map unread_number s.properties) (filter (λ s. has_numbers s.kind) sections))) (option_or (least_fault fs) None)) (sym (flat_map-filter (λ s. fault_if (is_bad_section s) BadList s.line) (λ s. is_list s.kind) sections))))

pub none-mandatory : (sections : List TextSection) → is_none (section_at MandatoryObjects sections) ≡ true → first_found own_checks sections ≡ Some (fault_at 0 MissingSection)
none-mandatory sections none = rw none refl
