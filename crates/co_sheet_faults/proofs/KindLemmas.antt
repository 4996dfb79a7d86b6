-- The kinds of what checks find: none is the kind of a line's fault, and each check has its own.
use Rattle.std.proofs.Common.{◌≡◌, ℕ, ◌≤◌, Bool, true, false, cond, not, List, [], ◌∷◌, ◌++◌, Option, Some, None, refl, ap, ◌∙◌, subst, Contains, ◌⊎◌, inl, inr, nat_le, arith, eqb, Result, Ok, Err}
use Rattle.std.specs.Prelude.{flat_map, filter, codes}
use Rattle.std.specs.Option.{option_map_or}
use Rattle.std.proofs.lemmas.Bool.Decides.{nat_tests}
use Rattle.std.proofs.lemmas.List.Elements.{Contains-append_cases, Contains-push_cases, Contains-append_left, Contains-append_right, Contains-push}
use Rattle.co_value.specs.declared.data_type.DataType.{DataType}
use Rattle.co_sheet_text.specs.declared.section_kind.SectionKind.TheVariants.{DeviceInfo}
use Rattle.co_sheet_text.specs.declared.numeral.NumeralFault.{NumeralFault}
use Rattle.co_sheet_text.specs.declared.numeral.NumeralFault.TheVariants.{Malformed, Ambiguous}
use Rattle.co_sheet_text.specs.declared.fault.TextFaultKind.{TextFaultKind}
use Rattle.co_sheet_text.specs.declared.fault.TextFaultKind.TheVariants as of_text
use Rattle.co_sheet_rows.specs.declared.fault.FaultKind.{FaultKind}
use Rattle.co_sheet_rows.specs.declared.fault.FaultKind.TheVariants.{TooLarge, BadLine, KeyOutsideSection, DuplicateSection, DuplicateKey, MissingSection, BadNumber, AmbiguousNumber, BadList, ListedTwice, MissingKey, BadType, LeftOutType, BadAccess, BadLimits, BadDefault, MissingSub0, CompactForm, MissingMandatory, Memory}
use Rattle.co_sheet_rows.specs.declared.fault.SheetFault.{SheetFault}
use Rattle.co_sheet_rows.specs.FaultTexts.{fault_number}
use Rattle.co_sheet_text.specs.Text.{Line}
use Rattle.co_sheet_text.specs.Sections.{Property, TextSection, property_at, section_at}
use Rattle.co_sheet_text.specs.Numerals.{unsigned_number}
use Rattle.co_sheet_text.specs.LinesAtFault.{own_fault, next_read}
use Rattle.co_sheet.specs.ObjectLists.{object_lists, listings}
use Rattle.co_sheet.specs.Entries.{single_codes, compound_codes, ListedObject, listed_objects, Entry, entries_of, data_type_of}
use Rattle.co_sheet.specs.Limits.{is_numeric, low_limit, high_limit, number_at_type, numeric_default}
use Rattle.co_sheet.specs.Checks.{fault_if, at_key, unread, unread_number, has_numbers, unread_list_numbers, missing_lists, listed_twice, missing_section, sub_indices_checked, unread_object_numbers, other_object_type, bad_object_types, compact_form, missing_sub_index_0, missing_key, unread_entry_numbers, bad_type, left_out_type, bad_access, in_numeric, unread_limit, unread_default, unread_limits, last_limit, limit_outside, limits_crossed, bad_limits, bad_default_at, bad_default, missing_mandatory, of_entries, checks}
use Rattle.co_sheet_faults.specs.LinesAtFault.{fault_of_line, line_faults}
use Rattle.co_sheet_faults.specs.Soundness.{unless, is_unread_at, is_index, is_sound, sound_objects, sound_entries, is_compact, is_object_type_at_fault, is_data_type_at_fault}
use Rattle.co_sheet_faults.specs.AllChecks.{bad_list, all_bad_lists, all_listed_twice, all_missing_sections, object_type_found, object_types_found, all_compact_forms, sub_index_0_found, key_found, of_sound_type, high_found, limits_found, default_found_at, default_found, all_missing_mandatory, of_sound_objects, of_sound_entries}
use Rattle.co_sheet_faults.specs.AllFaults.{found_by}
use Rattle.co_sheet_faults.specs.FaultLaws.{is_of, without}
use Rattle.co_sheet_faults.proofs.SubLemmas.{contains-none}

-- all faults are of kinds that pass a test
abbrev pub AreOf : (FaultKind → Bool) → List SheetFault → Type 0
AreOf P xs = (f : SheetFault) → Contains xs f → P f.kind ≡ true

-- the kinds of what checks find pass a test, but for BadLimits and BadDefault
pub record PassMost (P : FaultKind → Bool) : Type 0 where
  pub section : P MissingSection ≡ true
  pub number : P BadNumber ≡ true
  pub ambiguous : P AmbiguousNumber ≡ true
  pub list : P BadList ≡ true
  pub twice : P ListedTwice ≡ true
  pub key : P MissingKey ≡ true
  pub bad_type : P BadType ≡ true
  pub left_out : P LeftOutType ≡ true
  pub access : P BadAccess ≡ true
  pub sub_0 : P MissingSub0 ≡ true
  pub compact : P CompactForm ≡ true
  pub mandatory : P MissingMandatory ≡ true

of-nil : (P : FaultKind → Bool) → AreOf P []
of-nil P f c = absurd (contains-none f c)

pub of-append : (P : FaultKind → Bool) (xs ys : List SheetFault) → AreOf P xs → AreOf P ys → AreOf P (xs ++ ys)
of-append P xs ys p q f c = by_cases (Contains-append_cases xs ys f c)
  where
    by_cases : Contains xs f ⊎ Contains ys f → P f.kind ≡ true
    by_cases (inl h) = p f h
    by_cases (inr h) = q f h

of-one : (P : FaultKind → Bool) (g : SheetFault) → P g.kind ≡ true → AreOf P (g ∷ [])
of-one P g h f c = by_cases (Contains-push_cases [] g f c)
  where
    by_cases : Contains [] f ⊎ (g ≡ f) → P f.kind ≡ true
    by_cases (inl none) = absurd (contains-none f none)
    by_cases (inr same) = subst (λ (x : SheetFault). P x.kind ≡ true) same h

of-if : (P : FaultKind → Bool) (test : Bool) (kind : FaultKind) (line : ℕ) → P kind ≡ true → AreOf P (fault_if test kind line)
of-if P true kind line h = of-one P (record { kind = kind; line = line }) h
of-if P false kind line h = of-nil P

of-flat : (P : FaultKind → Bool) {X : Type 0} (f : X → List SheetFault) → ((x : X) → AreOf P (f x)) → (xs : List X) → AreOf P (flat_map f xs)
of-flat P f each [] = of-nil P
of-flat P f each (x ∷ xs) = of-append P (f x) (flat_map f xs) (each x) (of-flat P f each xs)

of-option : (P : FaultKind → Bool) {X : Type 0} (f : X → List SheetFault) → ((x : X) → AreOf P (f x)) → (o : Option X) → AreOf P (option_map_or f o [])
of-option P f each None = of-nil P
of-option P f each (Some x) = each x

of-key : (P : FaultKind → Bool) (f : Property → List SheetFault) → ((k : Property) → AreOf P (f k)) → (name : List ℕ) (s : TextSection) → AreOf P (at_key f name s)
of-key P f each name s = of-option P f each (property_at name s)

of-unless : (P : FaultKind → Bool) (test : Bool) (xs : List SheetFault) → AreOf P xs → AreOf P (unless test xs)
of-unless P true xs h = of-nil P
of-unless P false xs h = h

of-unread : (P : FaultKind → Bool) → PassMost P → {X : Type 0} (r : Result X NumeralFault) (line : ℕ) → AreOf P (unread r line)
of-unread P most (Ok x) line = of-nil P
of-unread P most (Err Malformed) line = of-one P (record { kind = BadNumber; line = line }) most.number
of-unread P most (Err Ambiguous) line = of-one P (record { kind = AmbiguousNumber; line = line }) most.ambiguous

of-number : (P : FaultKind → Bool) → PassMost P → (k : Property) → AreOf P (unread_number k)
of-number P most k = of-unread P most (unsigned_number k.value) k.line

-- ---- the checks of lists and objects

pub of-lists : (P : FaultKind → Bool) → PassMost P → (sections : List TextSection) → AreOf P (missing_lists sections)
of-lists P most sections = of-if P _ MissingSection 0 most.section

pub of-numbers : (P : FaultKind → Bool) → PassMost P → (sections : List TextSection) → AreOf P (unread_list_numbers sections)
of-numbers P most sections =
    of-flat P (λ s. flat_map unread_number s.properties) (λ s. of-flat P unread_number (of-number P most) s.properties) (filter (λ s. has_numbers s.kind) sections)

of-type : (P : FaultKind → Bool) → PassMost P → (allowed : List ℕ) (s : TextSection) → AreOf P (other_object_type allowed s)
of-type P most allowed s = of-key P _ (λ k. of-if P _ BadType k.line most.bad_type) (codes "ObjectType") s

pub of-object : (P : FaultKind → Bool) → PassMost P → (sections : List TextSection) (o : ListedObject) → AreOf P (unread_object_numbers sections o)
of-object P most sections o =
    of-append P _ _
    (of-append P _ _ (of-key P unread_number (of-number P most) (codes "ObjectType") o.section) (of-key P unread_number (of-number P most) (codes "CompactSubObj") o.section))
    (of-flat P _ (λ e. of-key P unread_number (of-number P most) (codes "ObjectType") e.section) (sub_indices_checked sections o))

of-types : (P : FaultKind → Bool) → PassMost P → (sections : List TextSection) (o : ListedObject) → AreOf P (bad_object_types sections o)
of-types P most sections o =
    of-append P _ _ (of-type P most (single_codes ++ compound_codes) o.section)
    (of-flat P _ (λ e. of-type P most single_codes e.section) (sub_indices_checked sections o))

of-form : (P : FaultKind → Bool) → PassMost P → (k : Property) → AreOf P (compact_form k)
of-form P most k = of-if P _ CompactForm k.line most.compact

of-forms : (P : FaultKind → Bool) → PassMost P → (sections : List TextSection) (objects : List ListedObject)
    → AreOf P (option_map_or (at_key compact_form (codes "CompactPDO")) (section_at DeviceInfo sections) [] ++ flat_map (λ o. at_key compact_form (codes "CompactSubObj") o.section) objects)
of-forms P most sections objects =
    of-append P _ _ (of-option P (at_key compact_form (codes "CompactPDO")) (λ s. of-key P compact_form (of-form P most) (codes "CompactPDO") s) (section_at DeviceInfo sections))
    (of-flat P _ (λ o. of-key P compact_form (of-form P most) (codes "CompactSubObj") o.section) objects)

of-mandatory : (P : FaultKind → Bool) → PassMost P → (sections : List TextSection) → AreOf P (missing_mandatory sections)
of-mandatory P most sections = of-if P _ MissingMandatory 0 most.mandatory

-- ---- those of an entry

of-cond : (P : FaultKind → Bool) (test : Bool) (xs : List SheetFault) → AreOf P xs → AreOf P (cond test xs [])
of-cond P true xs h = h
of-cond P false xs h = of-nil P

of-numeric : (P : FaultKind → Bool) (found : DataType → Entry → List SheetFault) → ((t : DataType) (e : Entry) → AreOf P (found t e)) → (e : Entry) → AreOf P (in_numeric found e)
of-numeric P found each e = of-option P (λ t. cond (is_numeric t) (found t e) []) (λ t. of-cond P (is_numeric t) (found t e) (each t e)) (data_type_of e)

of-missing : (P : FaultKind → Bool) → PassMost P → (e : Entry) → AreOf P (missing_key e)
of-missing P most e = of-if P _ MissingKey e.section.line most.key

of-entry-numbers : (P : FaultKind → Bool) → PassMost P → (e : Entry) → AreOf P (unread_entry_numbers e)
of-entry-numbers P most e =
    of-append P _ _ (of-key P unread_number (of-number P most) (codes "DataType") e.section)
    (of-key P unread_number (of-number P most) (codes "PDOMapping") e.section)

of-bad-type : (P : FaultKind → Bool) → PassMost P → (e : Entry) → AreOf P (bad_type e)
of-bad-type P most e = of-if P _ BadType _ most.bad_type

of-left-out : (P : FaultKind → Bool) → PassMost P → (e : Entry) → AreOf P (left_out_type e)
of-left-out P most e = of-if P _ LeftOutType _ most.left_out

of-access : (P : FaultKind → Bool) → PassMost P → (e : Entry) → AreOf P (bad_access e)
of-access P most e = of-key P _ (λ k. of-if P _ BadAccess k.line most.access) (codes "AccessType") e.section

of-values : (P : FaultKind → Bool) → PassMost P → (t : DataType) (e : Entry) → AreOf P (unread_limits t e)
of-values P most t e =
    of-append P _ _
    (of-append P _ _ (of-key P (unread_limit t) (λ k. of-unread P most (number_at_type t k.value) k.line) (codes "LowLimit") e.section)
    (of-key P (unread_limit t) (λ k. of-unread P most (number_at_type t k.value) k.line) (codes "HighLimit") e.section))
    (of-append P _ _ (of-key P (unread_default t) (λ k. of-unread P most (numeric_default t k.value) k.line) (codes "DefaultValue") e.section)
    (of-key P (unread_default t) (λ k. of-unread P most (numeric_default t k.value) k.line) (codes "ParameterValue") e.section))

of-limits : (P : FaultKind → Bool) → P BadLimits ≡ true → (t : DataType) (e : Entry) → AreOf P (bad_limits t e)
of-limits P h t e =
    of-append P _ _
    (of-append P _ _ (of-key P (limit_outside t (low_limit t e)) (λ k. of-if P _ BadLimits k.line h) (codes "LowLimit") e.section)
    (of-key P (limit_outside t (high_limit t e)) (λ k. of-if P _ BadLimits k.line h) (codes "HighLimit") e.section))
    (of-option P (limits_crossed t e) (λ k. of-if P _ BadLimits k.line h) (last_limit e))

of-default : (P : FaultKind → Bool) → P BadDefault ≡ true → (e : Entry) → AreOf P (bad_default e)
of-default P h e =
    of-append P _ _ (of-key P (bad_default_at e) (λ k. of-if P _ BadDefault k.line h) (codes "DefaultValue") e.section)
    (of-key P (bad_default_at e) (λ k. of-if P _ BadDefault k.line h) (codes "ParameterValue") e.section)

of-entries : (P : FaultKind → Bool) (check : Entry → List SheetFault) → ((e : Entry) → AreOf P (check e)) → (sections : List TextSection) → AreOf P (of_entries check sections)
of-entries P check each sections = of-flat P check each (entries_of sections)

-- ---- what any check of a sheet finds: kinds 6 to 19

abbrev is_late : FaultKind → Bool
is_late kind = nat_le 6 (fault_number kind)

most_late : PassMost is_late
most_late = record {
  section = refl;
  number = refl;
  ambiguous = refl;
  list = refl;
  twice = refl;
  key = refl;
  bad_type = refl;
  left_out = refl;
  access = refl;
  sub_0 = refl;
  compact = refl;
  mandatory = refl;
}

abbrev pub AreLate : List SheetFault → Type 0
AreLate xs = AreOf is_late xs

pub late : (sections : List TextSection) → AreLate (found_by checks sections)
late sections =
    let P = is_late in
    of-append P _ _ (of-lists P most_late sections)
    (of-append P _ _ (of-numbers P most_late sections)
    (of-append P _ _ (of-flat P _ (λ s. of-if P _ BadList s.line refl) (object_lists sections))
    (of-append P _ _ (of-flat P (listed_twice sections) (λ l. of-if P _ ListedTwice l.line refl) (listings sections))
    (of-append P _ _ (of-flat P (missing_section sections) (λ l. of-if P _ MissingSection l.line refl) (listings sections))
    (of-append P _ _ (of-flat P (unread_object_numbers sections) (of-object P most_late sections) (listed_objects sections))
    (of-append P _ _ (of-flat P (bad_object_types sections) (of-types P most_late sections) (listed_objects sections))
    (of-append P _ _ (of-forms P most_late sections (listed_objects sections))
    (of-append P _ _ (of-flat P (missing_sub_index_0 sections) (λ o. of-if P _ MissingSub0 o.section.line refl) (listed_objects sections))
    (of-append P _ _ (of-entries P missing_key (of-missing P most_late) sections)
    (of-append P _ _ (of-entries P unread_entry_numbers (of-entry-numbers P most_late) sections)
    (of-append P _ _ (of-entries P bad_type (of-bad-type P most_late) sections)
    (of-append P _ _ (of-entries P left_out_type (of-left-out P most_late) sections)
    (of-append P _ _ (of-entries P bad_access (of-access P most_late) sections)
    (of-append P _ _ (of-entries P (in_numeric unread_limits) (of-numeric P unread_limits (of-values P most_late)) sections)
    (of-append P _ _ (of-entries P (in_numeric bad_limits) (of-numeric P bad_limits (of-limits P refl)) sections)
    (of-append P _ _ (of-entries P bad_default (of-default P refl) sections)
    (of-append P (missing_mandatory sections) [] (of-mandatory P most_late sections) (of-nil P))))))))))))))))))

other-kind : (n early : ℕ) → nat_le 6 n ≡ true → early ≤ 5 → eqb n early ≡ false
other-kind n early h few = grind (arith, nat_tests)

-- is no fault of a line
pub all-stay : (kind : FaultKind) → fault_number kind ≤ 5 → (xs : List SheetFault) → AreLate xs → without kind xs ≡ xs
all-stay kind few [] are = refl
all-stay kind few (f ∷ xs) are =
    let here = are f (Contains-append_left (f ∷ []) xs f (Contains-push [] f)) in
    let rest = all-stay kind few xs (λ g c. are g (Contains-append_right (f ∷ []) xs g c)) in
    ap (λ (test : Bool). cond (not test) (f ∷ without kind xs) (without kind xs)) (other-kind (fault_number f.kind) (fault_number kind) here few) ∙ ap (λ (l : List SheetFault). f ∷ l) rest

-- ---- a kind that only one check finds

abbrev pub is_other : FaultKind → FaultKind → Bool
is_other kind found = not (eqb (fault_number found) (fault_number kind))

-- faults of other kinds
abbrev pub AreOther : FaultKind → List SheetFault → Type 0
AreOther kind xs = AreOf (is_other kind) xs

other-cases : (kind : FaultKind) (f : SheetFault) (xs : List SheetFault) (b : Bool) → not b ≡ true
    → (without kind xs ≡ xs) × (filter (is_of kind) xs ≡ []) → (cond (not b) (f ∷ without kind xs) (without kind xs) ≡ f ∷ xs) × (cond b (f ∷ filter (is_of kind) xs) (filter (is_of kind) xs) ≡ [])
other-cases kind f xs true h more = absurd (cc)
other-cases kind f xs false h more = (ap (λ (l : List SheetFault). f ∷ l) more.0, more.1)

-- stay, and none of them is of the kind
pub others-stay : (kind : FaultKind) (xs : List SheetFault) → AreOther kind xs → (without kind xs ≡ xs) × (filter (is_of kind) xs ≡ [])
others-stay kind [] are = (refl, refl)
others-stay kind (f ∷ xs) are =
    other-cases kind f xs (is_of kind f) (are f (Contains-append_left (f ∷ []) xs f (Contains-push [] f)))
    (others-stay kind xs (λ g c. are g (Contains-append_right (f ∷ []) xs g c)))

text-kind : (P : FaultKind → Bool) → ((kind : FaultKind) → nat_le (fault_number kind) 5 ≡ true → P kind ≡ true) → P Memory ≡ true → (l : Line) (o : Option TextFaultKind) → AreOf P (fault_of_line l o)
text-kind P early memory l None = of-nil P
text-kind P early memory l (Some of_text.TooLarge) = of-one P _ (early TooLarge refl)
text-kind P early memory l (Some of_text.BadLine) = of-one P _ (early BadLine refl)
text-kind P early memory l (Some of_text.KeyOutsideSection) = of-one P _ (early KeyOutsideSection refl)
text-kind P early memory l (Some of_text.DuplicateSection) = of-one P _ (early DuplicateSection refl)
text-kind P early memory l (Some of_text.DuplicateKey) = of-one P _ (early DuplicateKey refl)
text-kind P early memory l (Some of_text.Memory) = of-one P _ memory

pub of-line-faults : (P : FaultKind → Bool) → ((kind : FaultKind) → nat_le (fault_number kind) 5 ≡ true → P kind ≡ true) → P Memory ≡ true → (before ls : List Line) → AreOf P (line_faults before ls)
of-line-faults P early memory before [] = of-nil P
of-line-faults P early memory before (l ∷ ls) =
    of-append P _ _ (text-kind P early memory l (own_fault before l)) (of-line-faults P early memory (before ++ next_read before l ∷ []) ls)

-- ---- the checks of all faults

pub of-bad-lists : (P : FaultKind → Bool) → PassMost P → (sections : List TextSection) → AreOf P (all_bad_lists sections)
of-bad-lists P most sections = of-flat P _ (λ s. of-unless P (is_unread_at (codes "SupportedObjects") s) (bad_list s) (of-if P _ BadList s.line most.list)) (object_lists sections)

pub of-twice : (P : FaultKind → Bool) → PassMost P → (sections : List TextSection) → AreOf P (all_listed_twice sections)
of-twice P most sections = of-flat P _ (λ l. of-unless P (not (is_index l.index)) (listed_twice sections l) (of-if P _ ListedTwice l.line most.twice)) (listings sections)

pub of-missing-sections : (P : FaultKind → Bool) → PassMost P → (sections : List TextSection) → AreOf P (all_missing_sections sections)
of-missing-sections P most sections = of-flat P _ (λ l. of-unless P (not (is_sound sections l)) (missing_section sections l) (of-if P _ MissingSection l.line most.section)) (listings sections)

of-type-found : (P : FaultKind → Bool) → PassMost P → (allowed : List ℕ) (s : TextSection) → AreOf P (object_type_found allowed s)
of-type-found P most allowed s = of-unless P (is_unread_at (codes "ObjectType") s) (other_object_type allowed s) (of-type P most allowed s)

pub of-types-found : (P : FaultKind → Bool) → PassMost P → (sections : List TextSection) (o : ListedObject) → AreOf P (object_types_found sections o)
of-types-found P most sections o =
    of-append P _ _ (of-type-found P most (single_codes ++ compound_codes) o.section)
    (of-flat P _ (λ e. of-type-found P most single_codes e.section) (sub_indices_checked sections o))

pub of-compact-forms : (P : FaultKind → Bool) → PassMost P → (sections : List TextSection) → AreOf P (all_compact_forms sections)
of-compact-forms P most sections = of-forms P most sections (sound_objects sections)

pub of-sub-0 : (P : FaultKind → Bool) → PassMost P → (sections : List TextSection) (o : ListedObject) → AreOf P (sub_index_0_found sections o)
of-sub-0 P most sections o = of-unless P (is_compact o.section) (missing_sub_index_0 sections o) (of-if P _ MissingSub0 o.section.line most.sub_0)

pub of-objects : (P : FaultKind → Bool) (check : List TextSection → ListedObject → List SheetFault) → ((sections : List TextSection) (o : ListedObject) → AreOf P (check sections o)) → (sections : List TextSection) → AreOf P (of_sound_objects check sections)
of-objects P check each sections = of-flat P (check sections) (each sections) (sound_objects sections)

pub of-mandatory-found : (P : FaultKind → Bool) → PassMost P → (sections : List TextSection) → AreOf P (all_missing_mandatory sections)
of-mandatory-found P most sections = of-unless P _ (missing_mandatory sections) (of-mandatory P most sections)

-- those of an entry, checks 10 to 15
pub record EntryKinds (P : FaultKind → Bool) (e : Entry) : Type 0 where
  pub key : AreOf P (key_found e)
  pub numbers : AreOf P (unread_entry_numbers e)
  pub data_type : AreOf P (bad_type e)
  pub left_out : AreOf P (of_sound_type left_out_type e)
  pub access : AreOf P (bad_access e)
  pub values : AreOf P (of_sound_type (in_numeric unread_limits) e)

pub of-entry : (P : FaultKind → Bool) → PassMost P → (e : Entry) → EntryKinds P e
of-entry P most e = record {
  key = of-unless P (is_object_type_at_fault e) (missing_key e) (of-missing P most e);
  numbers = of-entry-numbers P most e;
  data_type = of-bad-type P most e;
  left_out = of-unless P (is_data_type_at_fault e) (left_out_type e) (of-left-out P most e);
  access = of-access P most e;
  values = of-unless P (is_data_type_at_fault e) (in_numeric unread_limits e) (of-numeric P unread_limits (of-values P most) e);
}

of-found-limits : (P : FaultKind → Bool) → P BadLimits ≡ true → (t : DataType) (e : Entry) → AreOf P (limits_found t e)
of-found-limits P h t e =
    of-append P _ _ (of-key P (limit_outside t (low_limit t e)) (λ k. of-if P _ BadLimits k.line h) (codes "LowLimit") e.section)
    (of-key P (high_found t e) (λ k. of-if P _ BadLimits k.line h) (codes "HighLimit") e.section)

-- checks 16 and 17
pub of-limits-found : (P : FaultKind → Bool) → P BadLimits ≡ true → (e : Entry) → AreOf P (of_sound_type (in_numeric limits_found) e)
of-limits-found P h e = of-unless P (is_data_type_at_fault e) (in_numeric limits_found e) (of-numeric P limits_found (of-found-limits P h) e)

pub of-default-found : (P : FaultKind → Bool) → P BadDefault ≡ true → (e : Entry) → AreOf P (of_sound_type default_found e)
of-default-found P h e =
    of-unless P (is_data_type_at_fault e) (default_found e)
    (of-append P _ _ (of-key P (default_found_at e) (λ k. of-if P _ BadDefault k.line h) (codes "DefaultValue") e.section)
    (of-key P (default_found_at e) (λ k. of-if P _ BadDefault k.line h) (codes "ParameterValue") e.section))

pub of-sound : (P : FaultKind → Bool) (check : Entry → List SheetFault) → ((e : Entry) → AreOf P (check e)) → (sections : List TextSection) → AreOf P (of_sound_entries check sections)
of-sound P check each sections = of-flat P check each (sound_entries sections)
