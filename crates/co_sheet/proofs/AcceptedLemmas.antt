-- In an accepted text nothing that the lists name is left out: each listed object and each of its entries has a row.
use Rattle.std.proofs.Common.{◌≡◌, ℕ, ◌≤◌, Bool, true, false, cond, not, ◌||◌, List, [], ◌∷◌, ◌++◌, Option, Some, None, refl, sym, ap, ◌∙◌, arith, eqb, ltb, map}
use Rattle.std.proofs.lemmas.Bool.Decides.{nat_tests}
use Rattle.std.specs.Prelude.{flat_map, filter_map, option_map, option_and_then, is_some, is_none, codes, nat_lt, length}
use Rattle.std.specs.List.{cons_option}
use Rattle.std.specs.Option.{option_map_or, option_or}
use Rattle.co_value.specs.declared.data_type.DataType.{DataType}
use Rattle.co_profile.specs.declared.access.Access.{Access}
use Rattle.co_sheet_rows.specs.declared.object.ObjectType.{ObjectType}
use Rattle.co_sheet_rows.specs.declared.object.ObjectType.TheVariants.{Domain, Var, Array, Record}
use Rattle.co_sheet_text.specs.declared.section_kind.SectionKind.TheVariants.{Object}
use Rattle.co_sheet_rows.specs.declared.fault.FaultKind.{FaultKind}
use Rattle.co_sheet_rows.specs.declared.fault.FaultKind.TheVariants.{MissingSection, BadType}
use Rattle.co_sheet_rows.specs.declared.fault.SheetFault.{SheetFault}
use Rattle.co_sheet_text.specs.Sections.{Property, TextSection, property_at, section_at}
use Rattle.co_sheet_text.specs.Properties.{property_number}
use Rattle.co_sheet.specs.ObjectLists.{is_one_of, Listing, listings}
use Rattle.co_sheet.specs.Entries.{ListedObject, listed_objects, object_code, object_type_with, Entry, entries_of, data_type_of, access_of, name_of}
use Rattle.co_sheet.specs.Checks.{fault_if, listed_twice, missing_section, bad_object_types, bad_type, in_numeric, bad_limits, bad_default, missing_mandatory, of_listings, of_objects, of_entries, checks}
use Rattle.co_sheet.specs.Accepted.{least_fault, first_bad_line, first_found, sections_in, IsAccepted}
use Rattle.co_sheet.specs.AcceptedTexts.{FindNothing, IsFaultless}
use Rattle.co_value.specs.Keys.{is_key_before}
use Rattle.co_sheet.specs.Content.{row_of, row_with, object_row_of, Row, ObjectRow, in_order, rows_in, keys_in, objects_in, indices_in}
use Rattle.co_sheet.specs.SheetLaws.{KeepsEntries}
use Rattle.co_sheet.proofs.OrderLemmas.{in_order-map}

-- a text that is not too large, where no line is at fault and no check finds anything
pub accepted-from : (text : List ℕ) → length text ≤ 1048576 → first_bad_line text ≡ None → first_found checks (sections_in text) ≡ None → IsAccepted text
accepted-from text small lines found =
    let test : ltb 1048576 (length text) ≡ false = grind (arith, nat_tests) in
    rw (test, lines) found

-- ---- nothing is found

pub neither : {X : Type 0} (o p : Option X) → option_or o p ≡ None → (o ≡ None) × (p ≡ None)
neither None p h = (refl, h)
neither (Some x) p h = absurd (cc)

least-none : (faults : List SheetFault) → least_fault faults ≡ None → faults ≡ []
least-none [] h = refl
least-none (f ∷ faults) h = absurd (cc)

pub nothing-found : (cs : List (List TextSection → List SheetFault)) (sections : List TextSection) → first_found cs sections ≡ None → FindNothing cs sections
nothing-found [] sections h = tt
nothing-found (check ∷ more) sections h =
    let none = neither (least_fault (check sections)) (first_found more sections) h in
    (least-none (check sections) none.0, nothing-found more sections none.1)

pub unless : {X : Type 0} (test : Bool) (x : X) (o : Option X) → cond test (Some x) o ≡ None → o ≡ None
unless true x o h = absurd (cc)
unless false x o h = h

pub checks-nothing : (text : List ℕ) → IsAccepted text → first_found checks (sections_in text) ≡ None
checks-nothing text accepted =
    (neither (first_bad_line text) (first_found checks (sections_in text)) (unless (nat_lt 1048576 (length text)) _ _ accepted)).1

-- and the other way round
all-nothing : (cs : List (List TextSection → List SheetFault)) (sections : List TextSection)
    → FindNothing cs sections → first_found cs sections ≡ None
all-nothing [] sections nothing = refl
all-nothing (check ∷ more) sections nothing =
    ap (λ found. option_or found (first_found more sections)) (ap least_fault nothing.0)
    ∙ all-nothing more sections nothing.1

not_large : {X : Type 0} (test : Bool) (x : X) (o : Option X) → cond test (Some x) o ≡ None → test ≡ false
not_large true x o h = absurd (cc)
not_large false x o h = refl

small_text : (size : ℕ) → ltb 1048576 size ≡ false → size ≤ 1048576
small_text size test = grind (arith, nat_tests)

pub faultless : (text : List ℕ) → IsAccepted text → IsFaultless text
faultless text accepted = record {
  size = small_text (length text) (not_large (nat_lt 1048576 (length text)) _ _ accepted);
  lines = (neither (first_bad_line text) (first_found checks (sections_in text))
      (unless (nat_lt 1048576 (length text)) _ _ accepted)).0;
  sections = nothing-found checks (sections_in text) (checks-nothing text accepted);
}

pub accepted-faultless : (text : List ℕ) → IsFaultless text → IsAccepted text
accepted-faultless text faultless =
    accepted-from text faultless.size faultless.lines
    (all-nothing checks (sections_in text) faultless.sections)

pub no_fault : (test : Bool) (kind : FaultKind) (line : ℕ) → fault_if test kind line ≡ [] → test ≡ false
no_fault true kind line h = absurd (cc)
no_fault false kind line h = refl

pub both-empty : {X : Type 0} (xs ys : List X) → xs ++ ys ≡ [] → (xs ≡ []) × (ys ≡ [])
both-empty [] ys h = (refl, h)
both-empty (x ∷ xs) ys h = absurd (cc)

pub two-empty : {X Y : Type 0} (f g : X → List Y) (xs : List X) → flat_map f xs ≡ [] → flat_map g xs ≡ [] → flat_map (λ x. f x ++ g x) xs ≡ []
two-empty f g [] h k = refl
two-empty f g (x ∷ xs) h k =
    let of_f = both-empty (f x) (flat_map f xs) h in
    let of_g = both-empty (g x) (flat_map g xs) k in
    ap (λ l. l ++ flat_map (λ y. f y ++ g y) xs) (ap (λ l. l ++ g x) of_f.0 ∙ of_g.0) ∙ two-empty f g xs of_f.1 of_g.1

-- ---- what each has, all have

kept-one : {Y K : Type 0} (of : Y → K) (o : Option Y) (rest : List Y) (k : K) (ks : List K) → option_map of o ≡ Some k → map of rest ≡ ks → map of (cons_option o rest) ≡ k ∷ ks
kept-one of None rest k ks h more = absurd (cc)
kept-one of (Some y) rest k ks h more = let same : of y ≡ k = cc in ap (λ l. of y ∷ l) more ∙ ap (λ j. j ∷ ks) same

kept : {X Y K : Type 0} (found : X → List SheetFault) (f : X → Option Y) (of : Y → K) (key : X → K) → ((x : X) → found x ≡ [] → option_map of (f x) ≡ Some (key x))
    → (xs : List X) → flat_map found xs ≡ [] → map of (filter_map f xs) ≡ map key xs
kept found f of key each [] none = refl
kept found f of key each (x ∷ xs) none =
    let apart = both-empty (found x) (flat_map found xs) none in
    kept-one of (f x) (filter_map f xs) (key x) (map key xs) (each x apart.0) (kept found f of key each xs apart.1)

-- ---- listed objects

section-kept : (o : Option TextSection) (n line : ℕ) → fault_if (is_none o) MissingSection line ≡ [] → option_map (λ (l : ListedObject). l.index) (option_map (λ s. record { index = n; section = s }) o) ≡ Some n
section-kept None n line h = absurd (cc)
section-kept (Some s) n line h = refl

-- each listing has its object
objects-listed : (sections : List TextSection) → flat_map (missing_section sections) (listings sections) ≡ [] → map (λ o. o.index) (listed_objects sections) ≡ map (λ l. l.index) (listings sections)
objects-listed sections none =
    kept (missing_section sections) (λ l. option_map (λ s. record { index = l.index; section = s }) (section_at (Object l.index) sections)) (λ (o : ListedObject). o.index) (λ (l : Listing). l.index)
    (λ l h. section-kept (section_at (Object l.index) sections) l.index l.line h) (listings sections) none

type_cases : (a b c d : Bool) → (a || (b || (c || (d || false)))) ≡ true → is_some (cond a (Some Domain) (cond b (Some Var) (cond c (Some Array) (cond d (Some Record) None)))) ≡ true
type_cases true b c d h = refl
type_cases false true c d h = refl
type_cases false false true d h = refl
type_cases false false false true h = refl
type_cases false false false false h = absurd (cc)

eqb-swap : (m n : ℕ) → eqb m n ≡ eqb n m
eqb-swap m n = grind (arith, nat_tests)

type-known : (code : Option ℕ) → is_one_of (2 ∷ 7 ∷ 8 ∷ 9 ∷ []) code ≡ true → is_some (option_and_then object_type_with code) ≡ true
type-known None h = absurd (cc)
type-known (Some n) h =
    type_cases (eqb n 2) (eqb n 7) (eqb n 8) (eqb n 9) (rw (eqb-swap n 2, eqb-swap n 7, eqb-swap n 8, eqb-swap n 9) h)

pub denied : (b : Bool) → not b ≡ false → b ≡ true
denied true h = refl
denied false h = absurd (cc)

-- the object type that a key states, or 7
code-good : (o : Option Property) → option_map_or (λ k. fault_if (not (is_one_of (2 ∷ 7 ∷ 8 ∷ 9 ∷ []) (property_number k))) BadType k.line) o [] ≡ [] → is_one_of (2 ∷ 7 ∷ 8 ∷ 9 ∷ []) (option_map_or property_number o (Some 7)) ≡ true
code-good None h = refl
code-good (Some k) h = denied (is_one_of (2 ∷ 7 ∷ 8 ∷ 9 ∷ []) (property_number k)) (no_fault _ BadType k.line h)

type-kept : (t : Option ObjectType) (o : ListedObject) (name : Option (List ℕ)) → is_some t ≡ true
    → option_map (λ (r : ObjectRow). r.index) (option_map (λ u. record { index = o.index; object_type = u; name = name; line = o.section.line }) t) ≡ Some o.index
type-kept None o name h = absurd (cc)
type-kept (Some t) o name h = refl

object-kept : (sections : List TextSection) (o : ListedObject) → bad_object_types sections o ≡ [] → option_map (λ r. r.index) (object_row_of o) ≡ Some o.index
object-kept sections o h =
    type-kept (option_and_then object_type_with (object_code o.section)) o (name_of o.section)
    (type-known (object_code o.section) (code-good (property_at (codes "ObjectType") o.section) (both-empty _ _ h).0))

-- ---- entries

row_cases : (e : Entry) (t : Option DataType) (access : Option Access) (r : Row) → option_and_then (λ u. option_map (row_with e u) access) t ≡ Some r → r.key ≡ e.key
row_cases e None access r h = absurd (cc)
row_cases e (Some t) None r h = absurd (cc)
row_cases e (Some t) (Some access) r h = let same : row_with e t access ≡ r = cc in ap (λ (s : Row). s.key) (sym same)

row-key : (e : Entry) (r : Row) → row_of e ≡ Some r → r.key ≡ e.key
row-key e r h = row_cases e (data_type_of e) (access_of e) r h

-- where each entry has its row, the rows are those
pub rows-read : {R : Type 0} (view : R → Row) (es : List Entry) (rows : List R) → map row_of es ≡ map (λ r. Some (view r)) rows → filter_map row_of es ≡ map view rows
rows-read view [] [] h = refl
rows-read view [] (r ∷ rows) h = absurd (cc)
rows-read view (e ∷ es) [] h = absurd (cc)
rows-read view (e ∷ es) (r ∷ rows) h =
    let head : row_of e ≡ Some (view r) = cc in
    let tail : map row_of es ≡ map (λ s. Some (view s)) rows = cc in
    ap (λ o. cons_option o (filter_map row_of es)) head ∙ ap (λ l. view r ∷ l) (rows-read view es rows tail)

-- and no entry is without
pub keys-read : {R : Type 0} (view : R → Row) (es : List Entry) (rows : List R) → map row_of es ≡ map (λ r. Some (view r)) rows → map (λ (r : Row). r.key) (filter_map row_of es) ≡ map (λ (e : Entry). e.key) es
keys-read view [] rows h = refl
keys-read view (e ∷ es) [] h = absurd (cc)
keys-read view (e ∷ es) (r ∷ rows) h =
    let head : row_of e ≡ Some (view r) = cc in
    let tail : map row_of es ≡ map (λ s. Some (view s)) rows = cc in
    ap (λ o. map (λ (s : Row). s.key) (cons_option o (filter_map row_of es))) head ∙ ap (λ k. k ∷ map (λ (s : Row). s.key) (filter_map row_of es)) (row-key e (view r) head)
    ∙ ap (λ l. e.key ∷ l) (keys-read view es rows tail)

-- ---- of sections in which nothing is found

-- what finds nothing, check by check, of those that a law rests on
pub record FindsNothing (sections : List TextSection) : Type 0 where
  pub listed_twice : of_listings listed_twice sections ≡ []
  pub missing_section : of_listings missing_section sections ≡ []
  pub bad_object_types : of_objects bad_object_types sections ≡ []
  pub bad_type : of_entries bad_type sections ≡ []
  pub bad_limits : of_entries (in_numeric bad_limits) sections ≡ []
  pub bad_default : of_entries bad_default sections ≡ []
  pub missing_mandatory : missing_mandatory sections ≡ []

pub finds-nothing : (sections : List TextSection) → first_found checks sections ≡ None → FindsNothing sections
finds-nothing sections found =
    let of_lists = nothing-found checks sections found in
    let of_objects = of_lists.1.1.1.1.1 in
    let of_entries = of_objects.1.1.1.1 in
    let of_values = of_entries.1.1.1.1.1 in
    record {
      listed_twice = of_lists.1.1.1.0;
      missing_section = of_lists.1.1.1.1.0;
      bad_object_types = of_objects.1.0;
      bad_type = of_entries.1.1.0;
      bad_limits = of_values.1.0;
      bad_default = of_values.1.1.0;
      missing_mandatory = of_values.1.1.1.0;
    }

-- each index that the lists name from 1000h on has an object
pub objects-all : (sections : List TextSection) → FindsNothing sections → map (λ o. o.index) (filter_map object_row_of (listed_objects sections)) ≡ map (λ l. l.index) (listings sections)
objects-all sections nothing =
    kept (bad_object_types sections) object_row_of (λ (o : ObjectRow). o.index) (λ (o : ListedObject). o.index) (object-kept sections) (listed_objects sections) nothing.bad_object_types
    ∙ objects-listed sections nothing.missing_section

-- each listed object has its section
pub listed-all : (sections : List TextSection) → FindsNothing sections → map (λ o. o.index) (listed_objects sections) ≡ map (λ l. l.index) (listings sections)
listed-all sections nothing = objects-listed sections nothing.missing_section

-- in increasing order, as the sheet of sections in which nothing is found has them
pub object_indices : (sections : List TextSection) → first_found checks sections ≡ None → map (λ o. o.index) (objects_in sections) ≡ indices_in sections
object_indices sections accepted =
    in_order-map (λ (o : ObjectRow). o.index) (λ o p. ltb o.index p.index) ltb (λ o p. refl) (filter_map object_row_of (listed_objects sections))
    ∙ ap (in_order ltb) (objects-all sections (finds-nothing sections accepted))

pub row_keys : (sections : List TextSection) → KeepsEntries sections → map (λ r. r.key) (rows_in sections) ≡ keys_in sections
row_keys sections kept =
    in_order-map (λ (r : Row). r.key) (λ r s. is_key_before r.key s.key) is_key_before (λ r s. refl) (filter_map row_of (entries_of sections))
    ∙ ap (in_order is_key_before) kept
