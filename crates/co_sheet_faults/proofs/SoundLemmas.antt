-- What is found everywhere is found by the checks of a sheet too, each by its own check.
use Rattle.std.proofs.Common.{◌≡◌, ℕ, Bool, true, false, cond, not, ◌&&◌, ◌||◌, List, [], ◌++◌, Option, Some, None, refl, sym}
use Rattle.std.specs.Prelude.{flat_map, codes, ℤ}
use Rattle.std.specs.Option.{option_map_or, option_or}
use Rattle.std.proofs.lemmas.List.{append_assoc}
use Rattle.co_value.specs.declared.data_type.DataType.{DataType}
use Rattle.co_value.specs.Types.{least_of, greatest_of}
use Rattle.co_sheet_rows.specs.declared.fault.FaultKind.TheVariants.{BadLimits, BadDefault}
use Rattle.co_sheet_rows.specs.declared.fault.SheetFault.{SheetFault}
use Rattle.co_sheet_text.specs.Sections.{Property, TextSection, property_at}
use Rattle.co_sheet.specs.ObjectLists.{object_lists, listings}
use Rattle.co_sheet.specs.Entries.{single_codes, compound_codes, ListedObject, listed_objects, Entry, entries_in, data_type_of}
use Rattle.co_sheet.specs.Limits.{Default, absent, number, node_id, text, pairs, at_most, is_in_type, is_numeric, low_limit, high_limit, stated_default}
use Rattle.co_sheet.specs.Checks.{fault_if, at_key, missing_lists, unread_list_numbers, bad_lists, listed_twice, missing_section, sub_indices_checked, unread_object_numbers, other_object_type, bad_object_types, compact_form, compact_forms, missing_sub_index_0, missing_key, unread_entry_numbers, bad_type, left_out_type, bad_access, in_numeric, unread_limits, lowest, highest, limit_outside, rests_on_low, limits_crossed, bad_limits, is_bad_default, bad_default_at, bad_default, missing_mandatory, of_listings, of_entries, checks}
use Rattle.co_sheet.specs.SectionViews.{object_at}
use Rattle.co_sheet_faults.specs.Soundness.{unless, are_lists_at_fault, is_unread_at, is_index, is_sound, sound_objects, is_compact, is_outside, is_low_at_fault, is_high_at_fault, sound_low, sound_high, is_object_type_at_fault, is_data_type_at_fault}
use Rattle.co_sheet_faults.specs.AllChecks.{bad_list, all_bad_lists, all_listed_twice, all_missing_sections, object_type_found, object_types_found, all_compact_forms, sub_index_0_found, key_found, of_sound_type, high_found, limits_found, is_default_at_fault, default_found_at, default_found, all_missing_mandatory, of_sound_entries, all_checks}
use Rattle.co_sheet_faults.specs.AllFaults.{found_by}
use Rattle.co_sheet_faults.proofs.SubLemmas.{Sub, sub-nil, sub-same, sub-append, sub-front, sub-flat, sub-unless, sub-if, sub-option, sub-key, sub-some, flat-flat}

-- ---- of the objects that are named, and of their entries

objects-some : (sections : List TextSection) (f : ListedObject → List SheetFault) → Sub (flat_map f (sound_objects sections)) (flat_map f (listed_objects sections))
objects-some sections f = sub-some (λ l. object_at l.index sections) (is_sound sections) f (listings sections)

objects-sound : (sections : List TextSection) (f g : ListedObject → List SheetFault) → ((o : ListedObject) → Sub (f o) (g o))
    → Sub (flat_map f (sound_objects sections)) (flat_map g (listed_objects sections))
objects-sound sections f g each a c = objects-some sections g a (sub-flat f g each (sound_objects sections) a c)

entries-sound : (sections : List TextSection) (f g : Entry → List SheetFault) → ((e : Entry) → Sub (f e) (g e))
    → Sub (of_sound_entries f sections) (of_entries g sections)
entries-sound sections f g each a c =
    let found = sub-same _ _ (flat-flat f (entries_in sections) (sound_objects sections)) a c in
    let listed = objects-sound sections (λ o. flat_map f (entries_in sections o)) (λ o. flat_map g (entries_in sections o)) (λ o. sub-flat f g each (entries_in sections o)) a found in
    sub-same _ _ (sym (flat-flat g (entries_in sections) (listed_objects sections))) a listed

-- ---- each check

lists-sound : (sections : List TextSection) → Sub (all_bad_lists sections) (bad_lists sections)
lists-sound sections =
    sub-flat (λ s. unless (is_unread_at (codes "SupportedObjects") s) (bad_list s)) bad_list (λ s. sub-unless (is_unread_at (codes "SupportedObjects") s) (bad_list s)) (object_lists sections)

twice-sound : (sections : List TextSection) → Sub (all_listed_twice sections) (of_listings listed_twice sections)
twice-sound sections =
    sub-flat (λ l. unless (not (is_index l.index)) (listed_twice sections l)) (listed_twice sections) (λ l. sub-unless (not (is_index l.index)) (listed_twice sections l)) (listings sections)

missing-sound : (sections : List TextSection) → Sub (all_missing_sections sections) (of_listings missing_section sections)
missing-sound sections =
    sub-flat (λ l. unless (not (is_sound sections l)) (missing_section sections l)) (missing_section sections) (λ l. sub-unless (not (is_sound sections l)) (missing_section sections l)) (listings sections)

type-sound : (allowed : List ℕ) (section : TextSection) → Sub (object_type_found allowed section) (other_object_type allowed section)
type-sound allowed section = sub-unless (is_unread_at (codes "ObjectType") section) (other_object_type allowed section)

types-sound : (sections : List TextSection) (o : ListedObject) → Sub (object_types_found sections o) (bad_object_types sections o)
types-sound sections o =
    sub-append _ _ _ _ (type-sound (single_codes ++ compound_codes) o.section)
    (sub-flat (λ e. object_type_found single_codes e.section) (λ e. other_object_type single_codes e.section) (λ e. type-sound single_codes e.section) (sub_indices_checked sections o))

compact-sound : (sections : List TextSection) → Sub (all_compact_forms sections) (compact_forms sections)
compact-sound sections =
    sub-append _ _ _ _ (λ a c. c) (objects-some sections (λ o. at_key compact_form (codes "CompactSubObj") o.section))

-- ---- limits and defaults

sub-cond : (b : Bool) (xs ys : List SheetFault) → Sub xs ys → Sub (cond b xs []) (cond b ys [])
sub-cond true xs ys f = f
sub-cond false xs ys f = sub-nil []

numeric-sound : (f g : DataType → Entry → List SheetFault) (e : Entry) → ((t : DataType) → Sub (f t e) (g t e)) → Sub (in_numeric f e) (in_numeric g e)
numeric-sound f g e each =
    sub-option (λ t. cond (is_numeric t) (f t e) []) (λ t. cond (is_numeric t) (g t e) []) (λ t. sub-cond (is_numeric t) (f t e) (g t e) (each t)) (data_type_of e)

-- limits that are not in order are not so either where an absent one is the type's end
crossed-ends : (low high least greatest : Option ℤ) → not (at_most low high) ≡ true → not (at_most (option_or low least) (option_or high greatest)) ≡ true
crossed-ends (Some v) (Some w) least greatest h = h
crossed-ends (Some v) None least greatest h = absurd (cc)
crossed-ends None high least greatest h = absurd (cc)

-- what is found at HighLimit: outside the type, or below the low limit
high-sound : (outside crossed ends : Bool) (line : ℕ) → (crossed ≡ true → ends ≡ true)
    → Sub (fault_if (outside || crossed) BadLimits line) (fault_if outside BadLimits line ++ fault_if ends BadLimits line)
high-sound true crossed ends line h = sub-front (fault_if true BadLimits line) (fault_if true BadLimits line) (fault_if ends BadLimits line) (λ a c. c)
high-sound false crossed ends line h = sub-if crossed ends BadLimits line h

-- a test that passes beside another one
beside-test : (a b r : Bool) → (a ≡ true → b ≡ true) → (a && r) ≡ true → (b && r) ≡ true
beside-test true b r f h = rw (f refl) h
beside-test false b r f h = absurd (cc)

limits-sound-at : (t : DataType) (e : Entry) (ol oh : Option Property)
    → Sub (option_map_or (limit_outside t (low_limit t e)) ol [] ++ option_map_or (high_found t e) oh [])
    (option_map_or (limit_outside t (low_limit t e)) ol [] ++ option_map_or (limit_outside t (high_limit t e)) oh [] ++ option_map_or (limits_crossed t e) (option_or oh ol) [])
limits-sound-at t e ol None =
    let low = option_map_or (limit_outside t (low_limit t e)) ol [] in
    sub-front (low ++ []) (low ++ []) (option_map_or (limits_crossed t e) ol []) (λ a c. c)
limits-sound-at t e ol (Some k) =
    let low = option_map_or (limit_outside t (low_limit t e)) ol [] in
    let high = limit_outside t (high_limit t e) k in
    let crossed = limits_crossed t e k in
    λ a c. sub-same (low ++ (high ++ crossed)) (low ++ high ++ crossed) (sym (append_assoc low high crossed)) a
    (sub-append low (high_found t e k) low (high ++ crossed) (λ b d. d)
    (high-sound (is_outside t (high_limit t e)) (not (at_most (low_limit t e) (high_limit t e)) && not (rests_on_low t e)) (not (at_most (lowest t e) (highest t e)) && not (rests_on_low t e)) k.line
    (beside-test (not (at_most (low_limit t e) (high_limit t e))) (not (at_most (lowest t e) (highest t e))) (not (rests_on_low t e))
    (crossed-ends (low_limit t e) (high_limit t e) (least_of t) (greatest_of t)))) a c)

pub limits-sound : (t : DataType) (e : Entry) → Sub (limits_found t e) (bad_limits t e)
limits-sound t e = limits-sound-at t e (property_at (codes "LowLimit") e.section) (property_at (codes "HighLimit") e.section)

-- a test that a weaker one fails fails too
weaker : (a l h l2 h2 : Bool) → (l ≡ true → l2 ≡ true) → (h ≡ true → h2 ≡ true) → not (a && l2 && h2) ≡ true → not (a && l && h) ≡ true
weaker false l h l2 h2 f g fails = refl
weaker true false h l2 h2 f g fails = refl
weaker true true false l2 h2 f g fails = refl
weaker true true true l2 h2 f g fails = let p = f refl in let q = g refl in absurd (cc)

low-weaker : (b : Bool) (low : Option ℤ) (v : ℤ) → at_most low (Some v) ≡ true → at_most (cond b None low) (Some v) ≡ true
low-weaker true low v h = refl
low-weaker false low v h = h

high-weaker : (b : Bool) (high : Option ℤ) (v : ℤ) → at_most (Some v) high ≡ true → at_most (Some v) (cond b None high) ≡ true
high-weaker true high v h = refl
high-weaker false high v h = h

default-test : (t : DataType) (e : Entry) (d : Default) → is_default_at_fault t e d ≡ true → is_bad_default t e d ≡ true
default-test t e (number v) h =
    weaker (is_in_type t v) (at_most (low_limit t e) (Some v)) (at_most (Some v) (high_limit t e)) (at_most (sound_low t e) (Some v)) (at_most (Some v) (sound_high t e))
    (low-weaker (is_low_at_fault t e) (low_limit t e) v) (high-weaker (is_high_at_fault t e) (high_limit t e) v) h
default-test t e (pairs digits) h = h
default-test t e absent h = absurd (cc)
default-test t e (node_id n) h = absurd (cc)
default-test t e (text bytes) h = absurd (cc)

default-typed : (e : Entry) (k : Property) (o : Option DataType) → option_map_or (λ t. is_default_at_fault t e (stated_default t k)) o false ≡ true
    → option_map_or (λ t. is_bad_default t e (stated_default t k)) o false ≡ true
default-typed e k None h = absurd (cc)
default-typed e k (Some t) h = default-test t e (stated_default t k) h

default-sound-at : (e : Entry) (k : Property) → Sub (default_found_at e k) (bad_default_at e k)
default-sound-at e k = sub-if _ _ BadDefault k.line (default-typed e k (data_type_of e))

default-sound : (e : Entry) → Sub (default_found e) (bad_default e)
default-sound e =
    sub-append _ _ _ _ (sub-key (default_found_at e) (bad_default_at e) (default-sound-at e) (codes "DefaultValue") e.section)
    (sub-key (default_found_at e) (bad_default_at e) (default-sound-at e) (codes "ParameterValue") e.section)

typed-sound : (f g : Entry → List SheetFault) (e : Entry) → Sub (f e) (g e) → Sub (of_sound_type f e) (g e)
typed-sound f g e each a c = each a (sub-unless (is_data_type_at_fault e) (f e) a c)

-- ---- all of them

pub sound : (sections : List TextSection) → Sub (found_by all_checks sections) (found_by checks sections)
sound sections =
    let same : (xs : List SheetFault) → Sub xs xs = λ xs a c. c in
    sub-append _ _ _ _ (same (missing_lists sections))
    (sub-append _ _ _ _ (same (unread_list_numbers sections))
    (sub-append _ _ _ _ (lists-sound sections)
    (sub-append _ _ _ _ (twice-sound sections)
    (sub-append _ _ _ _ (missing-sound sections)
    (sub-append _ _ _ _ (objects-some sections (unread_object_numbers sections))
    (sub-append _ _ _ _ (objects-sound sections (object_types_found sections) (bad_object_types sections) (types-sound sections))
    (sub-append _ _ _ _ (compact-sound sections)
    (sub-append _ _ _ _ (objects-sound sections (sub_index_0_found sections) (missing_sub_index_0 sections) (λ o. sub-unless (is_compact o.section) (missing_sub_index_0 sections o)))
    (sub-append _ _ _ _ (entries-sound sections key_found missing_key (λ e. sub-unless (is_object_type_at_fault e) (missing_key e)))
    (sub-append _ _ _ _ (entries-sound sections unread_entry_numbers unread_entry_numbers (λ e. same (unread_entry_numbers e)))
    (sub-append _ _ _ _ (entries-sound sections bad_type bad_type (λ e. same (bad_type e)))
    (sub-append _ _ _ _ (entries-sound sections (of_sound_type left_out_type) left_out_type (λ e. typed-sound left_out_type left_out_type e (same (left_out_type e))))
    (sub-append _ _ _ _ (entries-sound sections bad_access bad_access (λ e. same (bad_access e)))
    (sub-append _ _ _ _ (entries-sound sections (of_sound_type (in_numeric unread_limits)) (in_numeric unread_limits) (λ e. typed-sound (in_numeric unread_limits) (in_numeric unread_limits) e (same (in_numeric unread_limits e))))
    (sub-append _ _ _ _ (entries-sound sections (of_sound_type (in_numeric limits_found)) (in_numeric bad_limits) (λ e. typed-sound (in_numeric limits_found) (in_numeric bad_limits) e (numeric-sound limits_found bad_limits e (λ t. limits-sound t e))))
    (sub-append _ _ _ _ (entries-sound sections (of_sound_type default_found) bad_default (λ e. typed-sound default_found bad_default e (default-sound e)))
    (sub-append (all_missing_mandatory sections) [] (missing_mandatory sections) [] (sub-unless (are_lists_at_fault sections) (missing_mandatory sections)) (sub-nil []))))))))))))))))))
