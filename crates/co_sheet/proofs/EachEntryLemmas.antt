-- What holds of each entry, by the sections of a text and by what its lists name.
use Rattle.std.proofs.Common.{◌≡◌, ℕ, ◌≤◌, Bool, true, false, cond, if◌then◌else◌, List, [], ◌∷◌, ◌++◌, Option, Some, None, refl, subst, sym, arith, eqb, leb, eqb-true, IfSome}
use Rattle.std.specs.Prelude.{flat_map, filter, filter_map, option_map}
use Rattle.std.specs.List.{cons_option, find, AllByRecursion}
use Rattle.std.proofs.lemmas.Bool.Decides.{nat_tests}
use Rattle.co_sheet_text.specs.declared.section_kind.SectionKind.{SectionKind}
use Rattle.co_sheet_text.specs.declared.section_kind.SectionKind.TheVariants.{Object, SubIndex}
use Rattle.co_sheet_text.specs.Names.{same_kind}
use Rattle.co_sheet_text.specs.Sections.{TextSection, section_at}
use Rattle.co_sheet_text.specs.SectionLaws.{ValuesShort}
use Rattle.co_sheet.specs.ObjectLists.{is_one_of, Listing, listings_in, object_lists, listings}
use Rattle.co_sheet.specs.Entries.{single_codes, compound_codes, object_code, sub_index_in, sub_indices, entries_in, ListedObject, listed_objects, Entry, entries_of}

-- what is found has what all have
pub found_all : {X : Type 0} (P : X → Type 0) (p : X → Bool) (xs : List X) → AllByRecursion P xs → IfSome (find p xs) P
found_all P p [] all = tt
found_all P p (x ∷ xs) all = elim (p x) as (λ b. IfSome (cond b (Some x) (find p xs)) P) [ true ↦ all.0 | false ↦ found_all P p xs all.1 ]

pub cons_all : {X : Type 0} (P : X → Type 0) (o : Option X) (xs : List X) → IfSome o P → AllByRecursion P xs → AllByRecursion P (cons_option o xs)
cons_all P None xs h all = all
cons_all P (Some x) xs h all = (h, all)

all-append : {X : Type 0} (P : X → Type 0) (xs ys : List X) → AllByRecursion P xs → AllByRecursion P ys → AllByRecursion P (xs ++ ys)
all-append P [] ys all more = more
all-append P (x ∷ xs) ys all more = (all.0, all-append P xs ys all.1 more)

-- what holds of each entry of an object
module _ (P : Entry → Type 0) (Q : ListedObject → Type 0) (sections : List TextSection)
    (own : (o : ListedObject) → Q o → P (record { key = record { index = o.index; sub = 0 }; section = o.section }))
    (parts : (o : ListedObject) → Q o → AllByRecursion P (sub_indices sections o.index)) where
  each_cases : (single compound : Bool) (o : ListedObject) → Q o
      → AllByRecursion P (cond single (record { key = record { index = o.index; sub = 0 }; section = o.section } ∷ []) (cond compound (sub_indices sections o.index) []))
  each_cases true compound o h = (own o h, tt)
  each_cases false true o h = parts o h
  each_cases false false o h = tt

  each-entry : (os : List ListedObject) → AllByRecursion Q os → AllByRecursion P (flat_map (entries_in sections) os)
  each-entry [] all = tt
  each-entry (o ∷ os) all =
      all-append P (entries_in sections o) (flat_map (entries_in sections) os)
      (each_cases (is_one_of single_codes (object_code o.section)) (is_one_of compound_codes (object_code o.section)) o all.0)
      (each-entry os all.1)

-- ---- the sections of entries are among all

abbrev HasValues : Entry → Type 0
HasValues e = ValuesShort e.section

object_values : (index : ℕ) (o : Option TextSection) → IfSome o ValuesShort → IfSome (option_map (λ s. record { index = index; section = s }) o) (λ (l : ListedObject). ValuesShort l.section)
object_values index None h = tt
object_values index (Some s) h = h

objects-short : (sections : List TextSection) (ls : List Listing) → AllByRecursion ValuesShort sections
    → AllByRecursion (λ (o : ListedObject). ValuesShort o.section) (filter_map (λ (l : Listing). option_map (λ s. record { index = l.index; section = s }) (section_at (Object l.index) sections)) ls)
objects-short sections [] all = tt
objects-short sections (l ∷ ls) all =
    cons_all (λ (o : ListedObject). ValuesShort o.section) _ _
    (object_values l.index (section_at (Object l.index) sections) (found_all ValuesShort (λ s. same_kind s.kind (Object l.index)) sections all)) (objects-short sections ls all)

part_values : (index : ℕ) (s : TextSection) (kind : SectionKind) → ValuesShort s → IfSome (sub_index_in index s kind) HasValues
part_values index s (SubIndex key) h = by_index (eqb key.index index)
  where
    by_index : (b : Bool) → IfSome (if b then Some (record { key = key; section = s }) else None) HasValues
    by_index true = h
    by_index false = tt
part_values index s kind h = tt

parts-short : (index : ℕ) (ss : List TextSection) → AllByRecursion ValuesShort ss → AllByRecursion HasValues (sub_indices ss index)
parts-short index [] all = tt
parts-short index (s ∷ ss) all = cons_all HasValues (sub_index_in index s s.kind) (sub_indices ss index) (part_values index s s.kind all.0) (parts-short index ss all.1)

pub entries-short : (sections : List TextSection) → AllByRecursion ValuesShort sections → AllByRecursion HasValues (entries_of sections)
entries-short sections all =
    each-entry HasValues (λ o. ValuesShort o.section) sections (λ o h. h) (λ o h. parts-short o.index sections all)
    (listed_objects sections) (objects-short sections (listings sections) all)

-- ---- what is listed is from 1000h on

abbrev IsFrom1000 : Entry → Type 0
IsFrom1000 e = 0x1000 ≤ e.key.index

kept_from : (b : Bool) (l : Listing) (ls : List Listing) → leb 0x1000 l.index ≡ b → AllByRecursion (λ (l : Listing). 0x1000 ≤ l.index) ls → AllByRecursion (λ (l : Listing). 0x1000 ≤ l.index) (cond b (l ∷ ls) ls)
kept_from true l ls h all = (grind (arith, nat_tests, h), all)
kept_from false l ls h all = all

listings-from : (ls : List Listing) → AllByRecursion (λ (l : Listing). 0x1000 ≤ l.index) (filter (λ (l : Listing). leb 0x1000 l.index) ls)
listings-from [] = tt
listings-from (l ∷ ls) = kept_from (leb 0x1000 l.index) l (filter (λ (l : Listing). leb 0x1000 l.index) ls) refl (listings-from ls)

object_from : (index : ℕ) (o : Option TextSection) → 0x1000 ≤ index → IfSome (option_map (λ s. record { index = index; section = s }) o) (λ (l : ListedObject). 0x1000 ≤ l.index)
object_from index None h = tt
object_from index (Some s) h = h

objects-from : (sections : List TextSection) (ls : List Listing) → AllByRecursion (λ (l : Listing). 0x1000 ≤ l.index) ls
    → AllByRecursion (λ (o : ListedObject). 0x1000 ≤ o.index) (filter_map (λ (l : Listing). option_map (λ s. record { index = l.index; section = s }) (section_at (Object l.index) sections)) ls)
objects-from sections [] all = tt
objects-from sections (l ∷ ls) all =
    cons_all (λ (o : ListedObject). 0x1000 ≤ o.index) _ _ (object_from l.index (section_at (Object l.index) sections) all.0) (objects-from sections ls all.1)

part_from : (index : ℕ) (s : TextSection) (kind : SectionKind) → 0x1000 ≤ index → IfSome (sub_index_in index s kind) IsFrom1000
part_from index s (SubIndex key) h = by_index (eqb key.index index) refl
  where
    by_index : (b : Bool) → eqb key.index index ≡ b → IfSome (if b then Some (record { key = key; section = s }) else None) IsFrom1000
    by_index true e = subst (λ n. 0x1000 ≤ n) (sym (eqb-true key.index index e)) h
    by_index false e = tt
part_from index s kind h = tt

parts-from : (index : ℕ) (ss : List TextSection) → 0x1000 ≤ index → AllByRecursion IsFrom1000 (sub_indices ss index)
parts-from index [] h = tt
parts-from index (s ∷ ss) h = cons_all IsFrom1000 (sub_index_in index s s.kind) (sub_indices ss index) (part_from index s s.kind h) (parts-from index ss h)

pub entries-from : (sections : List TextSection) → AllByRecursion IsFrom1000 (entries_of sections)
entries-from sections =
    each-entry IsFrom1000 (λ o. 0x1000 ≤ o.index) sections (λ o h. h) (λ o h. parts-from o.index sections h)
    (listed_objects sections) (objects-from sections (listings sections) (listings-from (flat_map listings_in (object_lists sections))))
