-- What is read of a listed object, part by part.
use Rattle.std.proofs.Common.{◌≡◌, ℕ, Bool, true, false, cond, not, ◌||◌, ◌&&◌, List, [], ◌∷◌, ◌++◌, Option, Some, None, Result, refl, sym, ap, ◌∙◌, arith, eqb, map, append_assoc, ◌⊎◌, inl, inr}
use Rattle.std.proofs.lemmas.Bool.Decides.{nat_tests}
use Rattle.std.specs.Prelude.{flat_map, filter_map, is_none, option_map, option_and_then}
use Rattle.std.specs.List.{list_any}
use Rattle.std.specs.Option.{option_map_or, option_or}
use Rattle.std.specs.Result.{result_ok, result_err}
use Rattle.co_sheet_text.specs.declared.section_kind.SectionKind.TheVariants.{Object}
use Rattle.co_sheet.specs.declared.checks.findings.Finding.{Finding}
use Rattle.co_sheet_rows.specs.declared.fault.FaultKind.TheVariants.{MissingSection, MissingSub0}
use Rattle.co_sheet_rows.specs.declared.fault.SheetFault.{SheetFault}
use Rattle.co_sheet_rows.specs.declared.object.Object.{Object as CodeObject}
use Rattle.co_sheet_rows.specs.declared.object.ObjectType.{ObjectType}
use Rattle.co_sheet_rows.specs.declared.object.ObjectType.TheVariants.{Domain, Var, Array, Record}
use Rattle.co_sheet_text.specs.Sections.{TextSection, section_at}
use Rattle.co_sheet.specs.ObjectLists.{is_one_of, Listing, listings}
use Rattle.co_sheet.specs.Entries.{single_codes, compound_codes, object_code, object_type_with, ListedObject, listed_objects, Entry, sub_indices, entries_in, entries_of}
use Rattle.co_sheet.specs.Checks.{fault_if, other_object_type, missing_section, missing_sub_index_0, object_checks, bad_object_types, unread_object_numbers}
use Rattle.co_sheet.specs.Accepted.{least_fault, first_found}
use Rattle.co_sheet.specs.Content.{ObjectRow, object_row_with, object_row_of}
use Rattle.co_sheet.specs.SectionViews.{object_at}
use Rattle.co_sheet.specs.SheetViews.{object_row_view}
use Rattle.co_sheet.specs.private.Findings.{found_by, first_finding, sooner, soonest}
use Rattle.co_sheet.specs.private.ObjectReadings.{type_of, unread_type, type_finding, object_codes, part_finding, unread_form, compact_in, form_finding, parts_finding, compact_pdo, checks_of_object, object_finding, of_object, checks_of_listing, listing_finding, row_at, entries_at, HaveObjects}
use Rattle.co_sheet.proofs.ListLemmas.{append-none, flat_map-some, all-some, filter_map-then}
use Rattle.co_sheet.proofs.FindingLemmas.{over_list, soonest-first, found-fault, first_of, sooner-joined}

-- ---- object types

eqb-swap : (m n : ℕ) → eqb m n ≡ eqb n m
eqb-swap m n = grind (arith, nat_tests)

abbrev is_single : Option ObjectType → Bool
is_single (Some Domain) = true
is_single (Some Var) = true
is_single other = false

abbrev is_compound : Option ObjectType → Bool
is_compound (Some Array) = true
is_compound (Some Record) = true
is_compound other = false

abbrev by_tests : Bool → Bool → Bool → Bool → Option ObjectType
by_tests a b c d = cond a (Some Domain) (cond b (Some Var) (cond c (Some Array) (cond d (Some Record) None)))

single_tests : (a b c d : Bool) → (a || (b || false)) ≡ is_single (by_tests a b c d)
single_tests true b c d = refl
single_tests false true c d = refl
single_tests false false true d = refl
single_tests false false false true = refl
single_tests false false false false = refl

two_apart : (n j k : ℕ) → eqb j k ≡ false → eqb n j ≡ true → eqb n k ≡ false
two_apart n j k h e = grind (arith, nat_tests)

compound_tests : (a b c d : Bool) → (a ≡ true → c ≡ false) → (a ≡ true → d ≡ false) → (b ≡ true → c ≡ false) → (b ≡ true → d ≡ false) → (c || (d || false)) ≡ is_compound (by_tests a b c d)
compound_tests true b c d p q r s = rw (p refl, q refl) refl
compound_tests false true c d p q r s = rw (r refl, s refl) refl
compound_tests false false true d p q r s = refl
compound_tests false false false true p q r s = refl
compound_tests false false false false p q r s = refl

single-type : (code : Option ℕ) → is_one_of single_codes code ≡ is_single (option_and_then object_type_with code)
single-type None = refl
single-type (Some n) = rw (eqb-swap 2 n, eqb-swap 7 n) (single_tests (eqb n 2) (eqb n 7) (eqb n 8) (eqb n 9))

compound-type : (code : Option ℕ) → is_one_of compound_codes code ≡ is_compound (option_and_then object_type_with code)
compound-type None = refl
compound-type (Some n) =
    rw (eqb-swap 8 n, eqb-swap 9 n)
    (compound_tests (eqb n 2) (eqb n 7) (eqb n 8) (eqb n 9) (two_apart n 2 8 refl) (two_apart n 2 9 refl) (two_apart n 7 8 refl) (two_apart n 7 9 refl))

-- ---- an object

or-none : {X : Type 0} (o : Option X) → o ≡ option_or o None
or-none None = refl
or-none (Some x) = refl

-- a test of what items say
pub any-view : {X V : Type 0} (view : X → V) (p : V → Bool) (xs : List X) → list_any (λ x. p (view x)) xs ≡ list_any p (map view xs)
any-view view p [] = refl
any-view view p (x ∷ xs) = ap (λ b. p (view x) || b) (any-view view p xs)

-- the rows of faults of the sub-index sections
abbrev part_rows : Option ObjectType → List TextSection → ListedObject → List (List SheetFault)
part_rows t sections o =
    let parts = cond (is_single t) [] (sub_indices sections o.index) in
    flat_map (λ (e : Entry). unread_type e.section) parts
    ∷ flat_map (λ (e : Entry). other_object_type single_codes e.section) parts ∷ []
    ∷ fault_if (is_compound t && not (list_any (λ (e : Entry). eqb e.key.sub 0) (sub_indices sections o.index))) MissingSub0 o.section.line ∷ []

soonest-parts : (parts : List Entry) → soonest part_finding parts
    ≡ first_of 6 (flat_map (λ (e : Entry). unread_type e.section) parts ∷ flat_map (λ (e : Entry). other_object_type single_codes e.section) parts ∷ [])
soonest-parts parts = soonest-first 6 ((λ (e : Entry). unread_type e.section) ∷ (λ (e : Entry). other_object_type single_codes e.section) ∷ []) parts

two_rows : (p q s : List SheetFault) → sooner (first_of 6 (p ∷ q ∷ [])) (first_of 6 ([] ∷ [] ∷ [] ∷ s ∷ [])) ≡ first_of 6 (p ∷ q ∷ [] ∷ s ∷ [])
two_rows p q s = sooner-joined 6 (p ∷ q ∷ []) ([] ∷ [] ∷ [] ∷ s ∷ []) ∙ ap (λ l. first_of 6 (l ∷ (q ++ []) ∷ [] ∷ s ∷ [])) (append-none p) ∙ ap (λ l. first_of 6 (p ∷ l ∷ [] ∷ s ∷ [])) (append-none q)

rows-of-parts : (t : Option ObjectType) (sections : List TextSection) (o : ListedObject) → parts_finding t o.section.line (sub_indices sections o.index) ≡ first_of 6 (part_rows t sections o)
rows-of-parts (Some Domain) sections o = refl
rows-of-parts (Some Var) sections o = refl
rows-of-parts (Some Array) sections o =
    let parts = sub_indices sections o.index in
    let sub_0 = fault_if (not (list_any (λ (e : Entry). eqb e.key.sub 0) parts)) MissingSub0 o.section.line in
    ap (sooner (soonest part_finding parts)) (or-none (option_map (found_by 9) (least_fault sub_0)))
    ∙ ap (λ f. sooner f (first_of 6 ([] ∷ [] ∷ [] ∷ sub_0 ∷ []))) (soonest-parts parts) ∙ two_rows _ _ sub_0
rows-of-parts (Some Record) sections o =
    let parts = sub_indices sections o.index in
    let sub_0 = fault_if (not (list_any (λ (e : Entry). eqb e.key.sub 0) parts)) MissingSub0 o.section.line in
    ap (sooner (soonest part_finding parts)) (or-none (option_map (found_by 9) (least_fault sub_0)))
    ∙ ap (λ f. sooner f (first_of 6 ([] ∷ [] ∷ [] ∷ sub_0 ∷ []))) (soonest-parts parts) ∙ two_rows _ _ sub_0
rows-of-parts None sections o = soonest-parts (sub_indices sections o.index)

-- those of its own ObjectType, of its CompactSubObj, and of its sub-index sections
all_rows : (ut ot uf cf p q s : List SheetFault)
    → sooner (first_of 6 (ut ∷ ot ∷ [])) (sooner (first_of 6 (uf ∷ [] ∷ cf ∷ [])) (first_of 6 (p ∷ q ∷ [] ∷ s ∷ []))) ≡ first_of 6 ((ut ++ uf ++ p) ∷ (ot ++ q) ∷ cf ∷ s ∷ [])
all_rows ut ot uf cf p q s =
    ap (sooner (first_of 6 (ut ∷ ot ∷ []))) (sooner-joined 6 (uf ∷ [] ∷ cf ∷ []) (p ∷ q ∷ [] ∷ s ∷ []))
    ∙ sooner-joined 6 (ut ∷ ot ∷ []) ((uf ++ p) ∷ q ∷ (cf ++ []) ∷ s ∷ [])
    ∙ ap (λ l. first_of 6 (l ∷ (ot ++ q) ∷ (cf ++ []) ∷ s ∷ [])) (sym (append_assoc ut uf p))
    ∙ ap (λ l. first_of 6 ((ut ++ uf ++ p) ∷ (ot ++ q) ∷ l ∷ s ∷ [])) (append-none cf)

object-found : (sections : List TextSection) (o : ListedObject) (t : Option ObjectType) → t ≡ type_of o.section
    → sooner (type_finding object_codes o.section) (sooner (form_finding o.section) (parts_finding t o.section.line (sub_indices sections o.index))) ≡ object_finding sections o
object-found sections o t is =
    let single = single-type (object_code o.section) in
    let compound = compound-type (object_code o.section) in
    rw (single, compound, is, rows-of-parts (type_of o.section) sections o)
    (all_rows (unread_type o.section) (other_object_type object_codes o.section) (unread_form o.section) (compact_in o.section) _ _ _)

-- as the reading goes
pub object-steps : (sections : List TextSection) (o : ListedObject) (of_type : Result ObjectType Finding) (first found of_form of_parts : Option Finding)
    → first ≡ sooner (result_err of_type) found → found ≡ sooner of_form of_parts → result_err of_type ≡ type_finding object_codes o.section → result_ok of_type ≡ type_of o.section
    → of_form ≡ form_finding o.section → of_parts ≡ parts_finding (result_ok of_type) o.section.line (sub_indices sections o.index) → first ≡ object_finding sections o
object-steps sections o of_type first found of_form of_parts is both t read f p =
    is ∙ ap (λ e. sooner e found) t ∙ ap (sooner (type_finding object_codes o.section)) (both ∙ ap (λ e. sooner e of_parts) f ∙ ap (sooner (form_finding o.section)) p)
    ∙ object-found sections o (result_ok of_type) read

-- its entries
entries-of-type : (sections : List TextSection) (o : ListedObject) (t : ObjectType) → type_of o.section ≡ Some t
    → entries_in sections o ≡ cond (is_single (Some t)) (record { key = record { index = o.index; sub = 0 }; section = o.section } ∷ []) (cond (is_compound (Some t)) (sub_indices sections o.index) [])
entries-of-type sections o t is = rw (single-type (object_code o.section), compound-type (object_code o.section), is) refl

pub single-entries : (sections : List TextSection) (o : ListedObject) (t : ObjectType) → type_of o.section ≡ Some t → (t ≡ Var) ⊎ (t ≡ Domain)
    → entries_in sections o ≡ record { key = record { index = o.index; sub = 0 }; section = o.section } ∷ []
single-entries sections o t is (inl e) = entries-of-type sections o Var (is ∙ ap Some e)
single-entries sections o t is (inr e) = entries-of-type sections o Domain (is ∙ ap Some e)

pub parts-entries : (sections : List TextSection) (o : ListedObject) (t : ObjectType) → type_of o.section ≡ Some t → (t ≡ Array) ⊎ (t ≡ Record) → entries_in sections o ≡ sub_indices sections o.index
parts-entries sections o t is (inl e) = entries-of-type sections o Array (is ∙ ap Some e)
parts-entries sections o t is (inr e) = entries-of-type sections o Record (is ∙ ap Some e)

-- the type of an object that has a row
pub row-type : (o : ListedObject) (r : ObjectRow) → object_row_of o ≡ Some r → type_of o.section ≡ Some r.object_type
row-type o r h = cases (type_of o.section) h
  where
    cases : (t : Option ObjectType) → option_map (object_row_with o) t ≡ Some r → t ≡ Some r.object_type
    cases None h = absurd (cc)
    cases (Some t) h = let same : object_row_with o t ≡ r = cc in ap (λ (s : ObjectRow). Some s.object_type) same

-- ---- a listing

pub listing-found : (sections : List TextSection) (l : Listing) (o : ListedObject) → object_at l.index sections ≡ Some o → listing_finding sections l ≡ object_finding sections o
listing-found sections l o is = cases (section_at (Object l.index) sections) is
  where
    cases : (s : Option TextSection) → option_map (λ (t : TextSection). record { index = l.index; section = t }) s ≡ Some o
        → first_finding 5 ((λ (m : Listing). fault_if (is_none s) MissingSection m.line) ∷ map (λ (found : ListedObject → List SheetFault) (m : Listing). option_map_or found (option_map (λ (t : TextSection). record { index = l.index; section = t }) s) []) (checks_of_object sections)) l
        ≡ object_finding sections o
    cases None h = absurd (cc)
    cases (Some s) h = let same : record { index = l.index; section = s } ≡ o = cc in ap (object_finding sections) same

pub listing-missing : (sections : List TextSection) (l : Listing) → object_at l.index sections ≡ None → listing_finding sections l ≡ Some (found_by 5 (record { kind = MissingSection; line = l.line }))
listing-missing sections l is = cases (section_at (Object l.index) sections) is
  where
    cases : (s : Option TextSection) → ◌≡◌ {A = Option ListedObject} (option_map (λ (t : TextSection). record { index = l.index; section = t }) s) None
        → first_finding 5 ((λ (m : Listing). fault_if (is_none s) MissingSection m.line) ∷ map (λ (found : ListedObject → List SheetFault) (m : Listing). option_map_or found (option_map (λ (t : TextSection). record { index = l.index; section = t }) s) []) (checks_of_object sections)) l
        ≡ Some (found_by 5 (record { kind = MissingSection; line = l.line }))
    cases None h = refl
    cases (Some s) h = absurd (cc)

-- ---- all listings

objects-over : (sections : List TextSection) (check : ListedObject → List SheetFault) → flat_map (of_object sections check) (listings sections) ≡ flat_map check (listed_objects sections)
objects-over sections check = sym (flat_map-some check (λ (l : Listing). object_at l.index sections) (listings sections))

five_rows : (m u t p c s : List SheetFault) → sooner (first_of 5 ([] ∷ [] ∷ [] ∷ p ∷ [])) (first_of 5 (m ∷ u ∷ t ∷ c ∷ s ∷ [])) ≡ first_of 5 (m ∷ u ∷ t ∷ (p ++ c) ∷ s ∷ [])
five_rows m u t p c s = sooner-joined 5 ([] ∷ [] ∷ [] ∷ p ∷ []) (m ∷ u ∷ t ∷ c ∷ s ∷ [])

-- what is found first in all objects, and in the compact form of the PDOs
objects-found : (sections : List TextSection)
    → option_map (λ (f : Finding). f.fault) (sooner (option_map (found_by 8) (least_fault (compact_pdo sections))) (soonest (listing_finding sections) (listings sections))) ≡ first_found object_checks sections
objects-found sections =
    let ls = listings sections in
    let found = λ (u t c s : List SheetFault). option_map (λ (f : Finding). f.fault) (first_of 5 (flat_map (missing_section sections) ls ∷ u ∷ t ∷ (compact_pdo sections ++ c) ∷ s ∷ [])) in
    ap (λ (f : Option Finding). option_map (λ (g : Finding). g.fault) (sooner (option_map (found_by 8) (least_fault (compact_pdo sections))) f)) (soonest-first 5 (checks_of_listing sections) ls)
    ∙ ap (λ (f : Option Finding). option_map (λ (g : Finding). g.fault) (sooner f (first_finding 5 (over_list (checks_of_listing sections)) ls))) (or-none (option_map (found_by 8) (least_fault (compact_pdo sections))))
    ∙ ap (option_map (λ (f : Finding). f.fault)) (five_rows (flat_map (missing_section sections) ls) _ _ (compact_pdo sections) _ _)
    ∙ ap (λ u. found u (flat_map (of_object sections (bad_object_types sections)) ls) (flat_map (of_object sections (λ (o : ListedObject). compact_in o.section)) ls) (flat_map (of_object sections (missing_sub_index_0 sections)) ls)) (objects-over sections (unread_object_numbers sections))
    ∙ ap (λ t. found (flat_map (unread_object_numbers sections) (listed_objects sections)) t (flat_map (of_object sections (λ (o : ListedObject). compact_in o.section)) ls) (flat_map (of_object sections (missing_sub_index_0 sections)) ls)) (objects-over sections (bad_object_types sections))
    ∙ ap (λ c. found (flat_map (unread_object_numbers sections) (listed_objects sections)) (flat_map (bad_object_types sections) (listed_objects sections)) c (flat_map (of_object sections (missing_sub_index_0 sections)) ls)) (objects-over sections (λ (o : ListedObject). compact_in o.section))
    ∙ ap (λ s. found (flat_map (unread_object_numbers sections) (listed_objects sections)) (flat_map (bad_object_types sections) (listed_objects sections)) (flat_map (λ (o : ListedObject). compact_in o.section) (listed_objects sections)) s) (objects-over sections (missing_sub_index_0 sections))
    ∙ found-fault 5 object_checks sections

pub objects-answer : (sections : List TextSection) (ls : List Listing) (initial first : Option Finding) → ls ≡ listings sections
    → initial ≡ option_map (found_by 8) (least_fault (compact_pdo sections)) → first ≡ sooner initial (soonest (listing_finding sections) ls)
    → first_found object_checks sections ≡ option_map (λ (f : Finding). f.fault) first
objects-answer sections ls initial first all of_pdo is =
    sym (objects-found sections)
    ∙ ap (λ (f : Option Finding). option_map (λ (g : Finding). g.fault) (sooner f (soonest (listing_finding sections) (listings sections)))) (sym of_pdo)
    ∙ ap (λ (l : List Listing). option_map (λ (g : Finding). g.fault) (sooner initial (soonest (listing_finding sections) l))) (sym all)
    ∙ ap (option_map (λ (g : Finding). g.fault)) (sym is)

pub entries-over : (sections : List TextSection) → flat_map (entries_at sections) (listings sections) ≡ entries_of sections
entries-over sections = sym (flat_map-some (entries_in sections) (λ (l : Listing). object_at l.index sections) (listings sections))

-- where each listing has its object's row, the rows are those
pub objects-read : (sections : List TextSection) (rows : List CodeObject) → HaveObjects sections rows → filter_map object_row_of (listed_objects sections) ≡ map object_row_view rows
objects-read sections rows have =
    filter_map-then object_row_of (λ (l : Listing). object_at l.index sections) (listings sections) ∙ all-some (row_at sections) object_row_view (listings sections) rows have
