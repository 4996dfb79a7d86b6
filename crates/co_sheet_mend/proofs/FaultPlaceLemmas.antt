-- Where the checks find faults: at no ParameterName, and at a section line only what adds lines.
use Rattle.std.proofs.Common.{◌≡◌, ℕ, Bool, true, false, cond, not, ◌&&◌, ◌||◌, ◌==◌, List, [], ◌∷◌, ◌++◌, Option, Some, None, refl, sym, ap, ◌∙◌, subst, eqb-true, ◌⊎◌, inl, inr, arith, Result, Ok, Err}
use Rattle.std.specs.Prelude.{flat_map, filter, filter_map, is_some, option_map, codes, nat_le}
use Rattle.std.specs.List.{cons_option, list_all, list_any}
use Rattle.std.specs.Option.{option_map_or}
use Rattle.std.specs.Char.{is_digit, to_ascii_lowercase}
use Rattle.std.proofs.lemmas.Bool.Decides.{nat_tests}
use Rattle.co_text.proofs.Tests.{by_test}
use Rattle.co_value.specs.declared.data_type.DataType.{DataType}
use Rattle.co_value.specs.declared.data_type.DataType.TheVariants.{Domain}
use Rattle.co_value.specs.declared.key.Key.{Key}
use Rattle.co_value.specs.Types.{code_of}
use Rattle.co_sheet_text.specs.declared.numeral.NumeralFault.{NumeralFault}
use Rattle.co_sheet_text.specs.declared.numeral.NumeralFault.TheVariants.{Malformed, Ambiguous}
use Rattle.co_sheet_text.specs.declared.section_kind.SectionKind.{SectionKind}
use Rattle.co_sheet_text.specs.declared.section_kind.SectionKind.TheVariants.{MandatoryObjects, OptionalObjects, ManufacturerObjects, DummyUsage, DeviceInfo, DeviceCommissioning, Object, SubIndex, PassedOver}
use Rattle.co_sheet_rows.specs.declared.fault.FaultKind.{FaultKind}
use Rattle.co_sheet_rows.specs.declared.fault.FaultKind.TheVariants.{MissingSection, BadNumber, AmbiguousNumber, BadList, ListedTwice, MissingKey, BadType, LeftOutType, BadAccess, BadLimits, BadDefault, MissingSub0, CompactForm, MissingMandatory}
use Rattle.co_sheet_rows.specs.declared.fault.SheetFault.{SheetFault}
use Rattle.co_sheet_text.specs.Names.{kind_of, is_list, is_position, number_in, is_read_name, same_kind}
use Rattle.co_sheet_text.specs.Numerals.{unsigned_number}
use Rattle.co_sheet_text.specs.Properties.{property_number}
use Rattle.co_sheet_text.specs.Sections.{LineForm, section_line, name_value, Property, TextSection, is_given, property_given, is_section_line, body_of, section_begun, sections_of, line_form, property_at, section_at}
use Rattle.co_sheet_text.specs.Text.{Line, same_name}
use Rattle.co_sheet.specs.ObjectLists.{is_one_of, object_lists, count_of, keys_to, Listing, listings_in, listings}
use Rattle.co_sheet.specs.Entries.{single_codes, compound_codes, object_code, ListedObject, Entry, entries_in, sub_index_in, sub_indices, is_domain, data_type_of}
use Rattle.co_sheet.specs.Limits.{is_numeric, low_limit, number_at_type, numeric_default}
use Rattle.co_sheet.specs.Checks.{fault_if, at_key, unread, unread_number, has_numbers, unread_list_numbers, missing_lists, listed_twice, missing_section, sub_indices_checked, unread_object_numbers, other_object_type, compact_form, missing_sub_index_0, missing_key, unread_entry_numbers, type_line, bad_type, left_out_codes, left_out_type, bad_access, in_numeric, unread_limit, unread_default, unread_limits, limit_outside, missing_mandatory}
use Rattle.co_sheet.specs.SectionViews.{object_at}
use Rattle.co_sheet_faults.specs.Soundness.{unless, is_unread_at, is_index, is_sound, sound_listings, sound_objects, sound_entries, is_compact, is_object_type_at_fault, is_data_type_at_fault, are_lists_at_fault}
use Rattle.co_sheet_faults.specs.AllChecks.{bad_list, all_bad_lists, all_listed_twice, all_missing_sections, object_type_found, object_types_found, all_compact_forms, sub_index_0_found, key_found, of_sound_type, high_found, limits_found, default_found_at, default_found, all_missing_mandatory, of_sound_objects, of_sound_entries, all_checks}
use Rattle.co_sheet_faults.specs.AllFaults.{found_by}
use Rattle.co_sheet_mend.proofs.ElementLemmas.{In, from-flat, found-by, in-apart, kept-by, made-by, same-as, same-some}
use Rattle.co_sheet_mend.specs.NameLaws.{is_name, is_of_property, is_of_section, may_be_at}

-- ---- the lines that begin sections and give properties

pub record IsBegun (ls : List Line) (s : TextSection) : Type 0 where
  pub line : Line
  pub among : In line ls
  pub number : line.number ≡ s.line
  pub form : line_form line ≡ section_line s.name
  pub kind : s.kind ≡ kind_of s.name

pub record IsGiven (ls : List Line) (kind : SectionKind) (k : Property) : Type 0 where
  pub line : Line
  pub among : In line ls
  pub number : line.number ≡ k.line
  pub form : line_form line ≡ name_value k.name k.value
  pub given : is_given kind k.name k.value ≡ true

pub record IsRead (ls : List Line) (s : TextSection) : Type 0 where
  pub begun : IsBegun ls s
  pub given : (k : Property) → In k s.properties → IsGiven ls s.kind k

abbrev given_by : SectionKind → Line → Option Property
given_by kind l = property_given kind l.number (line_form l)

body-cond : (b : Bool) (l m : Line) (xs ls : List Line) → In m (cond b [] (l ∷ xs)) → (In m xs → In m ls) → In m (l ∷ ls)
body-cond true l m xs ls h more = absurd h
body-cond false l m xs ls (inl same) more = inl same
body-cond false l m xs ls (inr h) more = inr (more h)

in-body : (ls : List Line) (m : Line) → In m (body_of ls) → In m ls
in-body [] m h = h
in-body (l ∷ ls) m h = body-cond (is_section_line (line_form l)) l m (body_of ls) ls h (in-body ls m)

given-test : (ls : List Line) (kind : SectionKind) (m : Line) (name value : List ℕ) (k : Property) (b : Bool) → is_given kind name value ≡ b → In m ls → line_form m ≡ name_value name value
    → ◌≡◌ {A = Option Property} (cond b (Some (record { name = name; value = value; line = m.number })) None) (Some k) → IsGiven ls kind k
given-test ls kind m name value k true was i is h =
    let made : Property = record { name = name; value = value; line = m.number } in
    subst (IsGiven ls kind) (same-some made k h) (record { line = m; among = i; number = refl; form = is; given = was })
given-test ls kind m name value k false was i is h = absurd (cc)

given-form : (ls : List Line) (kind : SectionKind) (m : Line) (form : LineForm) (k : Property) → In m ls → line_form m ≡ form → property_given kind m.number form ≡ Some k → IsGiven ls kind k
given-form ls kind m (name_value name value) k i is h = given-test ls kind m name value k (is_given kind name value) refl i is h
given-form ls kind m form k i is h = absurd (cc)

key-given : (l : Line) (ls : List Line) (kind : SectionKind) (k : Property) → In k (filter_map (given_by kind) (body_of ls)) → IsGiven (l ∷ ls) kind k
key-given l ls kind k h =
    let made = made-by (given_by kind) (body_of ls) k h in
    given-form (l ∷ ls) kind made.item (line_form made.item) k (inr (in-body ls made.item made.among)) refl made.gives

begun-read : (l : Line) (ls : List Line) (form : LineForm) (s : TextSection) → line_form l ≡ form → In s (section_begun form l.number (body_of ls)) → IsRead (l ∷ ls) s
begun-read l ls (section_line name) s is (inl same) =
    subst (IsRead (l ∷ ls)) same (record {
      begun = record { line = l; among = inl refl; number = refl; form = is; kind = refl };
      given = λ k h. key-given l ls (kind_of name) k h;
    })
begun-read l ls (section_line name) s is (inr h) = absurd h
begun-read l ls form s is h = absurd h

more-lines : (l : Line) (ls : List Line) (s : TextSection) → IsRead ls s → IsRead (l ∷ ls) s
more-lines l ls s read = record {
  begun = record { line = read.begun.line; among = inr read.begun.among; number = read.begun.number; form = read.begun.form; kind = read.begun.kind };
  given = λ k h. let is = read.given k h in record { line = is.line; among = inr is.among; number = is.number; form = is.form; given = is.given };
}

read-cases : (l : Line) (ls : List Line) (s : TextSection) → In s (section_begun (line_form l) l.number (body_of ls)) ⊎ In s (sections_of ls) → (In s (sections_of ls) → IsRead ls s) → IsRead (l ∷ ls) s
read-cases l ls s (inl h) more = begun-read l ls (line_form l) s refl h
read-cases l ls s (inr h) more = more-lines l ls s (more h)

pub read : (ls : List Line) (s : TextSection) → In s (sections_of ls) → IsRead ls s
read [] s h = absurd h
read (l ∷ ls) s h = read-cases l ls s (in-apart (section_begun (line_form l) l.number (body_of ls)) (sections_of ls) s h) (read ls s)

-- ---- places

-- a section line of an object whose sub-index 0 has no section
pub record LacksSub0 (ls : List Line) (l : Line) : Type 0 where
  pub name : List ℕ
  pub form : line_form l ≡ section_line name
  pub index : ℕ
  pub object : kind_of name ≡ Object index
  pub none : section_at (SubIndex (record { index = index; sub = 0 })) (sections_of ls) ≡ None

pub record IsAt (ls : List Line) (f : SheetFault) : Type 0 where
  pub line : Line
  pub among : In line ls
  pub number : line.number ≡ f.line
  pub suits : may_be_at f.kind (line_form line) ≡ true
  pub lacks : f.kind ≡ MissingSub0 → LacksSub0 ls line

abbrev pub IsPlaced : List Line → SheetFault → Type 0
IsPlaced ls f = (f.line ≡ 0) ⊎ IsAt ls f

abbrev pub ArePlaced : List Line → List SheetFault → Type 0
ArePlaced ls xs = (f : SheetFault) → In f xs → IsPlaced ls f

abbrev fault : FaultKind → ℕ → SheetFault
fault kind line = record { kind = kind; line = line }

pub both-true : (a b : Bool) → (a && b) ≡ true → (a ≡ true) × (b ≡ true)
both-true true b h = (refl, h)
both-true false b h = absurd (cc)

-- ---- the names that are read in sections of numbers

-- two letters of a name
same-first : (c d : ℕ) (cs ds : List ℕ) → same_name (c ∷ cs) (d ∷ ds) ≡ true → to_ascii_lowercase c ≡ to_ascii_lowercase d
same-first c d cs ds h = eqb-true (to_ascii_lowercase c) (to_ascii_lowercase d) (both-true _ _ h).0

digit-letter : (c : ℕ) → is_digit c 10 ≡ true → to_ascii_lowercase c ≡ 112 → ⊥
digit-letter c is same = absurd (grind (arith, nat_tests, is, same))

position-cases : (name : List ℕ) → is_name name ≡ true → is_position name ≡ false
position-cases [] h = refl
position-cases (c ∷ cs) h =
    let letter = same-first c 80 cs (codes "arameterName") h in
    by_test (is_digit c 10)
    (λ is. absurd (digit-letter c is letter))
    (λ fails. ap (λ b. (b && list_all (λ d. is_digit d 10) cs) && not (c == 48)) fails)

-- a name that is read where all values are numbers is none
no_name : (kind : SectionKind) (name : List ℕ) → has_numbers kind ≡ true → is_read_name kind name ≡ true → is_name name ≡ false
no_name kind name numbers given = by_test (is_name name) (λ is. absurd (by_kind kind numbers given is)) (λ fails. fails)
  where
    other : (of : List ℕ) → is_name name ≡ true → same_name name of ≡ same_name (codes "ParameterName") of
    other of is = same-as name (codes "ParameterName") of is

    by_kind : (kind : SectionKind) → has_numbers kind ≡ true → is_read_name kind name ≡ true → is_name name ≡ true → ⊥
    by_kind MandatoryObjects numbers given is = let a = other (codes "SupportedObjects") is in let b = position-cases name is in cc
    by_kind OptionalObjects numbers given is = let a = other (codes "SupportedObjects") is in let b = position-cases name is in cc
    by_kind ManufacturerObjects numbers given is = let a = other (codes "SupportedObjects") is in let b = position-cases name is in cc
    by_kind DummyUsage numbers given is =
        let a = other (codes "Dummy0002") is in
        let b = other (codes "Dummy0003") is in
        let c = other (codes "Dummy0004") is in
        let d = other (codes "Dummy0005") is in
        let e = other (codes "Dummy0006") is in
        let f = other (codes "Dummy0007") is in
        cc
    by_kind DeviceInfo numbers given is = let a = other (codes "CompactPDO") is in cc
    by_kind DeviceCommissioning numbers given is = let a = other (codes "NodeID") is in cc
    by_kind (Object index) numbers given is = absurd (cc)
    by_kind (SubIndex key) numbers given is = absurd (cc)
    by_kind PassedOver numbers given is = absurd (cc)

list_numbers : (kind : SectionKind) → is_list kind ≡ true → has_numbers kind ≡ true
list_numbers MandatoryObjects h = refl
list_numbers OptionalObjects h = refl
list_numbers ManufacturerObjects h = refl
list_numbers kind h = absurd (cc)

listing-line : (k : Property) (o : Option ℕ) (l : Listing) → option_map (λ n. record { index = n; line = k.line }) o ≡ Some l → k.line ≡ l.line
listing-line k None l h = absurd (cc)
listing-line k (Some n) l h = let made : Listing = record { index = n; line = k.line } in ap (λ (x : Listing). x.line) (same-some made l h)

-- ---- sub-index 0

one-object : (kind : SectionKind) (index : ℕ) → same_kind kind (Object index) ≡ true → kind ≡ Object index
one-object (Object i) index h = ap (λ n. Object n) (eqb-true i index h)
one-object kind index h = absurd (cc)

not-any : (b : Bool) → not b ≡ true → b ≡ false
not-any true h = absurd (cc)
not-any false h = refl

abbrev is_sub0 : Entry → Bool
is_sub0 e = e.key.sub == 0

sub0-part : (b : Bool) (e : Entry) (es : List Entry) (s : TextSection) (o : Option TextSection) → list_any is_sub0 es ≡ is_some o → list_any is_sub0 (cons_option (cond b (Some e) None) es) ≡ is_some (cond (b && is_sub0 e) (Some s) o)
sub0-part false e es s o h = h
sub0-part true e es s o h = by_sub (is_sub0 e)
  where
    by_sub : (c : Bool) → (c || list_any is_sub0 es) ≡ is_some (cond c (Some s) o)
    by_sub true = refl
    by_sub false = h

sub0-kind : (index : ℕ) (s : TextSection) (kind : SectionKind) (es : List Entry) (o : Option TextSection) → list_any is_sub0 es ≡ is_some o
    → list_any is_sub0 (cons_option (sub_index_in index s kind) es) ≡ is_some (cond (same_kind kind (SubIndex (record { index = index; sub = 0 }))) (Some s) o)
sub0-kind index s (SubIndex key) es o h = sub0-part (key.index == index) (record { key = key; section = s }) es s o h
sub0-kind index s (Object i) es o h = h
sub0-kind index s kind es o h = h

sub0-there : (index : ℕ) (ss : List TextSection) → list_any is_sub0 (sub_indices ss index) ≡ is_some (section_at (SubIndex (record { index = index; sub = 0 })) ss)
sub0-there index [] = refl
sub0-there index (s ∷ ss) = sub0-kind index s s.kind (sub_indices ss index) (section_at (SubIndex (record { index = index; sub = 0 })) ss) (sub0-there index ss)

no-section : (o : Option TextSection) → is_some o ≡ false → o ≡ None
no-section None h = refl
no-section (Some s) h = absurd (cc)

no-sub0 : (index : ℕ) (ss : List TextSection) → list_any is_sub0 (sub_indices ss index) ≡ false → section_at (SubIndex (record { index = index; sub = 0 })) ss ≡ None
no-sub0 index ss h = no-section _ (sym (sub0-there index ss) ∙ h)

module _ (ls : List Line) where
  abbrev ss : List TextSection
  ss = sections_of ls

  none : ArePlaced ls []
  none f h = absurd h

  append : (xs ys : List SheetFault) → ArePlaced ls xs → ArePlaced ls ys → ArePlaced ls (xs ++ ys)
  append xs ys p q f h = by_cases (in-apart xs ys f h)
    where
      by_cases : In f xs ⊎ In f ys → IsPlaced ls f
      by_cases (inl i) = p f i
      by_cases (inr i) = q f i

  one : (g : SheetFault) → IsPlaced ls g → ArePlaced ls (g ∷ [])
  one g is f (inl same) = subst (IsPlaced ls) same is
  one g is f (inr h) = absurd h

  if_found : (test : Bool) (kind : FaultKind) (line : ℕ) → IsPlaced ls (fault kind line) → ArePlaced ls (fault_if test kind line)
  if_found true kind line is = one (fault kind line) is
  if_found false kind line is = none

  flat : {X : Type 0} (found : X → List SheetFault) (xs : List X) → ((x : X) → In x xs → ArePlaced ls (found x)) → ArePlaced ls (flat_map found xs)
  flat found xs each f h = let from = from-flat found xs f h in each from.item from.among f from.gives

  less : (test : Bool) (xs : List SheetFault) → ArePlaced ls xs → ArePlaced ls (unless test xs)
  less true xs h = none
  less false xs h = h

  if_so : (test : Bool) (xs : List SheetFault) → ArePlaced ls xs → ArePlaced ls (cond test xs [])
  if_so true xs h = h
  if_so false xs h = none

  option : {X : Type 0} (found : X → List SheetFault) (o : Option X) → ((x : X) → o ≡ Some x → ArePlaced ls (found x)) → ArePlaced ls (option_map_or found o [])
  option found None each = none
  option found (Some x) each = each x refl

  of_unread : {X : Type 0} (r : Result X NumeralFault) (line : ℕ) → IsPlaced ls (fault BadNumber line) → IsPlaced ls (fault AmbiguousNumber line) → ArePlaced ls (unread r line)
  of_unread (Ok x) line p q = none
  of_unread (Err Malformed) line p q = one (fault BadNumber line) p
  of_unread (Err Ambiguous) line p q = one (fault AmbiguousNumber line) q

  -- ---- at a property, and at a section line

  at_property : (s : TextSection) (k : Property) → In s ss → In k s.properties → is_name k.name ≡ false → (kind : FaultKind) → is_of_property kind ≡ true → IsPlaced ls (fault kind k.line)
  at_property s k i j other kind is =
      let given = (read ls s i).given k j in
      inr (record {
        line = given.line;
        among = given.among;
        number = given.number;
        suits = ap (may_be_at kind) given.form ∙ ap (λ b. b && not (is_name k.name)) is ∙ ap not other;
        lacks = λ same. let of : is_of_property MissingSub0 ≡ true = ap is_of_property (sym same) ∙ is in absurd (cc);
      })

  at_section_of : (s : TextSection) → (i : In s ss) → (kind : FaultKind) → is_of_section s.kind kind ≡ true → (kind ≡ MissingSub0 → LacksSub0 ls (read ls s i).begun.line) → IsPlaced ls (fault kind s.line)
  at_section_of s i kind is lacks =
      let begun = (read ls s i).begun in
      inr (record {
        line = begun.line;
        among = begun.among;
        number = begun.number;
        suits = ap (may_be_at kind) begun.form ∙ ap (λ (of : SectionKind). is_of_section of kind) (sym begun.kind) ∙ is;
        lacks = lacks;
      })

  abbrev is_missing_sub0 : FaultKind → Bool
  is_missing_sub0 MissingSub0 = true
  is_missing_sub0 kind = false

  at_section : (s : TextSection) → In s ss → (kind : FaultKind) → is_of_section s.kind kind ≡ true → is_missing_sub0 kind ≡ false → IsPlaced ls (fault kind s.line)
  at_section s i kind is other = at_section_of s i kind is (λ same. let of : is_missing_sub0 MissingSub0 ≡ false = ap is_missing_sub0 (sym same) ∙ other in absurd (cc))

  -- what is found at a key of another name
  key : (found : Property → List SheetFault) (name : List ℕ) (s : TextSection) → In s ss → same_name name (codes "ParameterName") ≡ false
      → ((k : Property) → ((kind : FaultKind) → is_of_property kind ≡ true → IsPlaced ls (fault kind k.line)) → ArePlaced ls (found k)) → ArePlaced ls (at_key found name s)
  key found name s i other each =
      option found (property_at name s)
      (λ k is.
      let there = found-by (λ j. same_name j.name name) s.properties k is in
      each k (at_property s k i there.among (same-as k.name name (codes "ParameterName") there.passes ∙ other)))

  number : (k : Property) → ((kind : FaultKind) → is_of_property kind ≡ true → IsPlaced ls (fault kind k.line)) → ArePlaced ls (unread_number k)
  number k here = of_unread (unsigned_number k.value) k.line (here BadNumber refl) (here AmbiguousNumber refl)

  -- ---- the object lists

  lists : ArePlaced ls (missing_lists ss)
  lists = if_found _ MissingSection 0 (inl refl)

  -- no name of a list, nor of what else has numbers, is ParameterName
  numbers : ArePlaced ls (unread_list_numbers ss)
  numbers =
      flat (λ (s : TextSection). flat_map unread_number s.properties) (filter (λ (s : TextSection). has_numbers s.kind) ss)
      (λ s i.
      let inside = kept-by (λ (t : TextSection). has_numbers t.kind) ss s i in
      flat unread_number s.properties
      (λ k j. number k (at_property s k inside.among j (no_name s.kind k.name inside.passes (both-true _ _ ((read ls s inside.among).given k j).given).0))))

  bad_lists : ArePlaced ls (all_bad_lists ss)
  bad_lists =
      flat (λ (s : TextSection). unless (is_unread_at (codes "SupportedObjects") s) (bad_list s)) (object_lists ss)
      (λ s i.
      let inside = kept-by (λ (t : TextSection). is_list t.kind) ss s i in
      less (is_unread_at (codes "SupportedObjects") s) (bad_list s) (if_found _ BadList s.line (at_section s inside.among BadList inside.passes refl)))

  listing_places : (list : TextSection) (n : Option ℕ) (l : Listing) → In list ss → is_list list.kind ≡ true
      → In l (filter_map (λ (k : Property). option_map (λ n. record { index = n; line = k.line }) (property_number k)) (option_map_or (keys_to list) n []))
      → (kind : FaultKind) → is_of_property kind ≡ true → IsPlaced ls (fault kind l.line)
  listing_places list None l i is h = absurd h
  listing_places list (Some n) l i is h =
      let made = made-by (λ (k : Property). option_map (λ n. record { index = n; line = k.line }) (property_number k)) (keys_to list n) l h in
      let k = made.item in
      let inside = kept-by (λ (j : Property). is_position j.name && nat_le (number_in 10 j.name) n) list.properties k made.among in
      let other = no_name list.kind k.name (list_numbers list.kind is) (both-true _ _ ((read ls list i).given k inside.among).given).0 in
      λ kind of. subst (λ (line : ℕ). IsPlaced ls (fault kind line)) (listing-line k (property_number k) l made.gives) (at_property list k i inside.among other kind of)

  listing : (l : Listing) → In l (listings ss) → (kind : FaultKind) → is_of_property kind ≡ true → IsPlaced ls (fault kind l.line)
  listing l h =
      let inside = kept-by (λ (x : Listing). nat_le 0x1000 x.index) (flat_map listings_in (object_lists ss)) l h in
      let from = from-flat listings_in (object_lists ss) l inside.among in
      let of = kept-by (λ (t : TextSection). is_list t.kind) ss from.item from.among in
      listing_places from.item (count_of from.item) l of.among of.passes from.gives

  twice : ArePlaced ls (all_listed_twice ss)
  twice =
      flat (λ (l : Listing). unless (not (is_index l.index)) (listed_twice ss l)) (listings ss)
      (λ l i. less (not (is_index l.index)) (listed_twice ss l) (if_found _ ListedTwice l.line (listing l i ListedTwice refl)))

  missing_sections : ArePlaced ls (all_missing_sections ss)
  missing_sections =
      flat (λ (l : Listing). unless (not (is_sound ss l)) (missing_section ss l)) (listings ss)
      (λ l i. less (not (is_sound ss l)) (missing_section ss l) (if_found _ MissingSection l.line (listing l i MissingSection refl)))

  -- ---- objects

  object_in : (index : ℕ) (s : Option TextSection) (o : ListedObject) → section_at (Object index) ss ≡ s → option_map (λ t. record { index = index; section = t }) s ≡ Some o → In o.section ss
  object_in index None o is h = absurd (cc)
  object_in index (Some s) o is h =
      let found = found-by (λ (t : TextSection). same_kind t.kind (Object index)) ss s is in
      let made : ListedObject = record { index = index; section = s } in
      subst (λ (x : ListedObject). In x.section ss) (same-some made o h) found.among

  object : (o : ListedObject) → In o (sound_objects ss) → In o.section ss
  object o h =
      let made = made-by (λ (l : Listing). object_at l.index ss) (sound_listings ss) o h in
      object_in made.item.index (section_at (Object made.item.index) ss) o refl made.gives

  part_test : (s : TextSection) (key : Key) (e : Entry) (b : Bool) → In s ss → ◌≡◌ {A = Option Entry} (cond b (Some (record { key = key; section = s })) None) (Some e) → In e.section ss
  part_test s key e true i h = let made : Entry = record { key = key; section = s } in subst (λ (x : Entry). In x.section ss) (same-some made e h) i
  part_test s key e false i h = absurd (cc)

  part_kind : (index : ℕ) (s : TextSection) (kind : SectionKind) (e : Entry) → In s ss → sub_index_in index s kind ≡ Some e → In e.section ss
  part_kind index s (SubIndex key) e i h = part_test s key e (key.index == index) i h
  part_kind index s kind e i h = absurd (cc)

  part : (index : ℕ) (e : Entry) → In e (sub_indices ss index) → In e.section ss
  part index e h =
      let made = made-by (λ (s : TextSection). sub_index_in index s s.kind) ss e h in
      part_kind index made.item made.item.kind e made.among made.gives

  checked_cases : (b : Bool) (index : ℕ) (e : Entry) → In e (cond b [] (sub_indices ss index)) → In e.section ss
  checked_cases true index e h = absurd h
  checked_cases false index e h = part index e h

  checked : (o : ListedObject) (e : Entry) → In e (sub_indices_checked ss o) → In e.section ss
  checked o e h = checked_cases (is_one_of single_codes (object_code o.section)) o.index e h

  of_objects : (check : List TextSection → ListedObject → List SheetFault) → ((o : ListedObject) → In o.section ss → ArePlaced ls (check ss o)) → ArePlaced ls (of_sound_objects check ss)
  of_objects check each = flat (check ss) (sound_objects ss) (λ o i. each o (object o i))

  object_numbers : (o : ListedObject) → In o.section ss → ArePlaced ls (unread_object_numbers ss o)
  object_numbers o i =
      append _ _
      (append _ _ (key unread_number (codes "ObjectType") o.section i refl number) (key unread_number (codes "CompactSubObj") o.section i refl number))
      (flat _ (sub_indices_checked ss o) (λ e j. key unread_number (codes "ObjectType") e.section (checked o e j) refl number))

  type_found : (allowed : List ℕ) (s : TextSection) → In s ss → ArePlaced ls (object_type_found allowed s)
  type_found allowed s i =
      less (is_unread_at (codes "ObjectType") s) (other_object_type allowed s)
      (key _ (codes "ObjectType") s i refl (λ k here. if_found _ BadType k.line (here BadType refl)))

  types_found : (o : ListedObject) → In o.section ss → ArePlaced ls (object_types_found ss o)
  types_found o i =
      append _ _ (type_found (single_codes ++ compound_codes) o.section i)
      (flat _ (sub_indices_checked ss o) (λ e j. type_found single_codes e.section (checked o e j)))

  form : (k : Property) → ((kind : FaultKind) → is_of_property kind ≡ true → IsPlaced ls (fault kind k.line)) → ArePlaced ls (compact_form k)
  form k here = if_found _ CompactForm k.line (here CompactForm refl)

  forms : ArePlaced ls (all_compact_forms ss)
  forms =
      append _ _
      (option (at_key compact_form (codes "CompactPDO")) (section_at DeviceInfo ss)
      (λ s is. key compact_form (codes "CompactPDO") s (found-by (λ (t : TextSection). same_kind t.kind DeviceInfo) ss s is).among refl form))
      (flat _ (sound_objects ss) (λ o i. key compact_form (codes "CompactSubObj") o.section (object o i) refl form))

  if_so_found : (test : Bool) (kind : FaultKind) (line : ℕ) → (test ≡ true → IsPlaced ls (fault kind line)) → ArePlaced ls (fault_if test kind line)
  if_so_found true kind line is = one (fault kind line) (is refl)
  if_so_found false kind line is = none

  object_kind_in : (index : ℕ) (s : Option TextSection) (o : ListedObject) → section_at (Object index) ss ≡ s → option_map (λ t. record { index = index; section = t }) s ≡ Some o → same_kind o.section.kind (Object o.index) ≡ true
  object_kind_in index None o is h = absurd (cc)
  object_kind_in index (Some s) o is h =
      let made : ListedObject = record { index = index; section = s } in
      subst (λ (x : ListedObject). same_kind x.section.kind (Object x.index) ≡ true) (same-some made o h) (found-by (λ (t : TextSection). same_kind t.kind (Object index)) ss s is).passes

  object_kind : (o : ListedObject) → In o (sound_objects ss) → same_kind o.section.kind (Object o.index) ≡ true
  object_kind o h =
      let made = made-by (λ (l : Listing). object_at l.index ss) (sound_listings ss) o h in
      object_kind_in made.item.index (section_at (Object made.item.index) ss) o refl made.gives

  sub_0 : (o : ListedObject) → In o.section ss → same_kind o.section.kind (Object o.index) ≡ true → ArePlaced ls (sub_index_0_found ss o)
  sub_0 o i object =
      let begun = (read ls o.section i).begun in
      less (is_compact o.section) (missing_sub_index_0 ss o)
      (if_so_found _ MissingSub0 o.section.line
      (λ found.
      at_section_of o.section i MissingSub0 refl
      (λ same. record {
        name = o.section.name;
        form = begun.form;
        index = o.index;
        object = sym begun.kind ∙ one-object o.section.kind o.index object;
        none = no-sub0 o.index ss (not-any _ (both-true _ _ found).1);
      })))

  all_sub_0 : ArePlaced ls (of_sound_objects sub_index_0_found ss)
  all_sub_0 = flat (sub_index_0_found ss) (sound_objects ss) (λ o i. sub_0 o (object o i) (object_kind o i))

  -- ---- entries

  entry_cases : (o : ListedObject) (e : Entry) (single compound : Bool) → In o.section ss
      → In e (cond single (record { key = record { index = o.index; sub = 0 }; section = o.section } ∷ []) (cond compound (sub_indices ss o.index) [])) → In e.section ss
  entry_cases o e true compound i (inl same) = subst (λ (x : Entry). In x.section ss) same i
  entry_cases o e true compound i (inr h) = absurd h
  entry_cases o e false true i h = part o.index e h
  entry_cases o e false false i h = absurd h

  entry : (e : Entry) → In e (sound_entries ss) → In e.section ss
  entry e h =
      let found = from-flat (entries_in ss) (sound_objects ss) e h in
      entry_cases found.item e (is_one_of single_codes (object_code found.item.section)) (is_one_of compound_codes (object_code found.item.section)) (object found.item found.among) found.gives

  of_entries : (check : Entry → List SheetFault) → ((e : Entry) → In e.section ss → ArePlaced ls (check e)) → ArePlaced ls (of_sound_entries check ss)
  of_entries check each = flat check (sound_entries ss) (λ e i. each e (entry e i))

  key_missing : (e : Entry) → In e.section ss → ArePlaced ls (key_found e)
  key_missing e i = less (is_object_type_at_fault e) (missing_key e) (if_found _ MissingKey e.section.line (at_section e.section i MissingKey refl refl))

  entry_numbers : (e : Entry) → In e.section ss → ArePlaced ls (unread_entry_numbers e)
  entry_numbers e i =
      append _ _ (key unread_number (codes "DataType") e.section i refl number) (key unread_number (codes "PDOMapping") e.section i refl number)

  -- at the DataType, or at the section line where there is none
  type_place : (s : TextSection) → In s ss → (o : Option Property) → property_at (codes "DataType") s ≡ o → IsPlaced ls (fault BadType (option_map_or (λ (k : Property). k.line) o s.line))
  type_place s i None is = at_section s i BadType refl refl
  type_place s i (Some k) is =
      let there = found-by (λ j. same_name j.name (codes "DataType")) s.properties k is in
      at_property s k i there.among (same-as k.name (codes "DataType") (codes "ParameterName") there.passes) BadType refl

  types : (e : Entry) → In e.section ss → ArePlaced ls (bad_type e)
  types e i = if_found _ BadType (type_line e) (type_place e.section i (property_at (codes "DataType") e.section) refl)

  left_out_none : (domain : Bool) (line : ℕ) → ArePlaced ls (fault_if (is_one_of left_out_codes (cond domain (Some (code_of Domain)) None)) LeftOutType line)
  left_out_none true line = none
  left_out_none false line = none

  left_out_cases : (e : Entry) → In e.section ss → (o : Option Property) → property_at (codes "DataType") e.section ≡ o
      → ArePlaced ls (fault_if (is_one_of left_out_codes (option_map_or property_number o (cond (is_domain e) (Some (code_of Domain)) None))) LeftOutType (option_map_or (λ (k : Property). k.line) o e.section.line))
  left_out_cases e i None is = left_out_none (is_domain e) e.section.line
  left_out_cases e i (Some k) is =
      let there = found-by (λ j. same_name j.name (codes "DataType")) e.section.properties k is in
      if_found _ LeftOutType k.line (at_property e.section k i there.among (same-as k.name (codes "DataType") (codes "ParameterName") there.passes) LeftOutType refl)

  left_out : (e : Entry) → In e.section ss → ArePlaced ls (of_sound_type left_out_type e)
  left_out e i = less (is_data_type_at_fault e) (left_out_type e) (left_out_cases e i (property_at (codes "DataType") e.section) refl)

  access : (e : Entry) → In e.section ss → ArePlaced ls (bad_access e)
  access e i = key _ (codes "AccessType") e.section i refl (λ k here. if_found _ BadAccess k.line (here BadAccess refl))

  numeric : (found : DataType → Entry → List SheetFault) (e : Entry) → ((t : DataType) → ArePlaced ls (found t e)) → ArePlaced ls (in_numeric found e)
  numeric found e each = option (λ t. cond (is_numeric t) (found t e) []) (data_type_of e) (λ t is. if_so (is_numeric t) (found t e) (each t))

  values : (e : Entry) → In e.section ss → ArePlaced ls (of_sound_type (in_numeric unread_limits) e)
  values e i =
      less (is_data_type_at_fault e) (in_numeric unread_limits e)
      (numeric unread_limits e (λ t.
      append _ _
      (append _ _ (key (unread_limit t) (codes "LowLimit") e.section i refl (λ k here. of_unread (number_at_type t k.value) k.line (here BadNumber refl) (here AmbiguousNumber refl)))
      (key (unread_limit t) (codes "HighLimit") e.section i refl (λ k here. of_unread (number_at_type t k.value) k.line (here BadNumber refl) (here AmbiguousNumber refl))))
      (append _ _ (key (unread_default t) (codes "DefaultValue") e.section i refl (λ k here. of_unread (numeric_default t k.value) k.line (here BadNumber refl) (here AmbiguousNumber refl)))
      (key (unread_default t) (codes "ParameterValue") e.section i refl (λ k here. of_unread (numeric_default t k.value) k.line (here BadNumber refl) (here AmbiguousNumber refl))))))

  limits : (e : Entry) → In e.section ss → ArePlaced ls (of_sound_type (in_numeric limits_found) e)
  limits e i =
      less (is_data_type_at_fault e) (in_numeric limits_found e)
      (numeric limits_found e (λ t.
      append _ _ (key (limit_outside t (low_limit t e)) (codes "LowLimit") e.section i refl (λ k here. if_found _ BadLimits k.line (here BadLimits refl)))
      (key (high_found t e) (codes "HighLimit") e.section i refl (λ k here. if_found _ BadLimits k.line (here BadLimits refl)))))

  defaults : (e : Entry) → In e.section ss → ArePlaced ls (of_sound_type default_found e)
  defaults e i =
      less (is_data_type_at_fault e) (default_found e)
      (append _ _ (key (default_found_at e) (codes "DefaultValue") e.section i refl (λ k here. if_found _ BadDefault k.line (here BadDefault refl)))
      (key (default_found_at e) (codes "ParameterValue") e.section i refl (λ k here. if_found _ BadDefault k.line (here BadDefault refl))))

  mandatory : ArePlaced ls (all_missing_mandatory ss)
  mandatory = less (are_lists_at_fault ss) (missing_mandatory ss) (if_found _ MissingMandatory 0 (inl refl))

  -- ---- all checks

  pub placed : ArePlaced ls (found_by all_checks ss)
  placed =
      append _ _ lists
      (append _ _ numbers
      (append _ _ bad_lists
      (append _ _ twice
      (append _ _ missing_sections
      (append _ _ (of_objects unread_object_numbers object_numbers)
      (append _ _ (of_objects object_types_found types_found)
      (append _ _ forms
      (append _ _ all_sub_0
      (append _ _ (of_entries key_found key_missing)
      (append _ _ (of_entries unread_entry_numbers entry_numbers)
      (append _ _ (of_entries bad_type types)
      (append _ _ (of_entries (of_sound_type left_out_type) left_out)
      (append _ _ (of_entries bad_access access)
      (append _ _ (of_entries (of_sound_type (in_numeric unread_limits)) values)
      (append _ _ (of_entries (of_sound_type (in_numeric limits_found)) limits)
      (append _ _ (of_entries (of_sound_type default_found) defaults)
      (append (all_missing_mandatory ss) [] mandatory none)))))))))))))))))
