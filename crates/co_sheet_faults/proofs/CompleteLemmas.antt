-- What a check of a sheet finds is found everywhere too, where the checks before it find nothing: then nothing that it
-- rests on is at fault.
use Rattle.std.proofs.Common.{◌≡◌, ℕ, Bool, true, false, cond, not, ◌&&◌, ◌||◌, List, [], ◌∷◌, ◌++◌, Option, Some, None, refl, sym, ap, ◌∙◌, subst, Contains, Result, Ok, Err, nat_lt, nat_le, length, ◌⊎◌, inl, inr}
use Rattle.std.proofs.lemmas.List.Elements.{Contains-append_cases}
use Rattle.std.specs.Prelude.{flat_map, filter, filter_map, find, codes, ℤ, option_map, option_and_then}
use Rattle.std.specs.List.{list_any, cons_option}
use Rattle.std.specs.Option.{option_map_or, option_or}
use Rattle.std.specs.Result.{result_ok}
use Rattle.co_value.specs.declared.data_type.DataType.{DataType}
use Rattle.co_value.specs.Types.{least_of, greatest_of}
use Rattle.co_sheet_text.specs.declared.section_kind.SectionKind.{SectionKind}
use Rattle.co_sheet_text.specs.declared.section_kind.SectionKind.TheVariants.{DeviceInfo}
use Rattle.co_sheet_text.specs.declared.numeral.NumeralFault.{NumeralFault}
use Rattle.co_sheet_rows.specs.declared.fault.FaultKind.{FaultKind}
use Rattle.co_sheet_rows.specs.declared.fault.FaultKind.TheVariants.{BadList, ListedTwice, BadType, BadLimits, BadDefault, CompactForm}
use Rattle.co_sheet_rows.specs.declared.fault.SheetFault.{SheetFault}
use Rattle.co_sheet_text.specs.Text.{same_name}
use Rattle.co_sheet_text.specs.Names.{is_list}
use Rattle.co_sheet_text.specs.Sections.{Property, TextSection, property_at, section_at}
use Rattle.co_sheet_text.specs.Numerals.{unsigned_number}
use Rattle.co_sheet_text.specs.Properties.{property_number}
use Rattle.co_sheet.specs.ObjectLists.{is_one_of, Listing, object_lists, listings, listings_in, count_of, keys_to}
use Rattle.co_sheet.specs.Entries.{single_codes, compound_codes, object_code, ListedObject, listed_objects, Entry, sub_indices, entries_in, entries_of, data_type_of, is_other_than_zero}
use Rattle.co_sheet.specs.Limits.{Default, absent, number, node_id, text, pairs, at_most, is_in_type, is_numeric, low_limit, high_limit, stated_default, number_at_type}
use Rattle.co_sheet.specs.Checks.{fault_if, at_key, is_low_first, unread, unread_number, missing_lists, has_numbers, unread_list_numbers, is_bad_list, bad_lists, is_listed_before, listed_twice, missing_section, sub_indices_checked, unread_object_numbers, other_object_type, bad_object_types, compact_form, compact_forms, missing_sub_index_0, missing_key, unread_entry_numbers, bad_type, left_out_type, bad_access, in_numeric, unread_limit, unread_defaults, unread_limits, bad_limits, is_bad_default, bad_default_at, bad_default, missing_mandatory, of_listings, of_objects, of_entries, checks}
use Rattle.co_sheet.specs.SectionViews.{object_at}
use Rattle.co_sheet_faults.specs.Soundness.{unless, is_found, is_unread_at, unread_in_lists, is_index, is_sound, sound_objects, is_outside, is_low_at_fault, is_high_at_fault, sound_low}
use Rattle.co_sheet_faults.specs.AllChecks.{bad_list, all_bad_lists, all_listed_twice, all_missing_sections, object_type_found, object_types_found, all_compact_forms, sub_index_0_found, key_found, of_sound_type, limits_found, is_default_at_fault, default_found_at, default_found, all_missing_mandatory, of_sound_entries, all_checks}
use Rattle.co_sheet_faults.proofs.SubLemmas.{Sub, sub-same, sub-append, sub-front, sub-after, sub-where, both-empty, sub-holding, sub-if, sub-key, flat-flat, none-sub}
use Rattle.co_sheet_faults.proofs.SoundLemmas.{limits-sound}

pub sub-id : (xs : List SheetFault) → Sub xs xs
sub-id xs a c = c

no_fault : (test : Bool) (kind : FaultKind) (line : ℕ) → fault_if test kind line ≡ [] → test ≡ false
no_fault true kind line h = absurd (cc)
no_fault false kind line h = refl

-- ---- nothing is found

filter-first : {X : Type 0} (f : X → List SheetFault) (test : Bool) (x : X) (xs : List X) → f x ≡ [] → flat_map f xs ≡ [] → flat_map f (cond test (x ∷ xs) xs) ≡ []
filter-first f true x xs h more = ap (λ (l : List SheetFault). l ++ flat_map f xs) h ∙ more
filter-first f false x xs h more = more

filter-none : {X : Type 0} (f : X → List SheetFault) (p : X → Bool) (xs : List X) → flat_map f xs ≡ [] → flat_map f (filter p xs) ≡ []
filter-none f p [] h = refl
filter-none f p (x ∷ xs) h =
    let apart = both-empty (f x) (flat_map f xs) h in
    filter-first f (p x) x (filter p xs) apart.0 (filter-none f p xs apart.1)

where-none : {X : Type 0} (found g : X → List SheetFault) → ((x : X) → found x ≡ [] → g x ≡ []) → (xs : List X) → flat_map found xs ≡ [] → flat_map g xs ≡ []
where-none found g each [] h = refl
where-none found g each (x ∷ xs) h =
    let apart = both-empty (found x) (flat_map found xs) h in
    ap (λ (l : List SheetFault). l ++ flat_map g xs) (each x apart.0) ∙ where-none found g each xs apart.1

two-empty : {X : Type 0} (f g : X → List SheetFault) (xs : List X) → flat_map f xs ≡ [] → flat_map g xs ≡ [] → flat_map (λ x. f x ++ g x) xs ≡ []
two-empty f g [] h k = refl
two-empty f g (x ∷ xs) h k =
    let of_f = both-empty (f x) (flat_map f xs) h in
    let of_g = both-empty (g x) (flat_map g xs) k in
    ap (λ l. l ++ flat_map (λ y. f y ++ g y) xs) (ap (λ l. l ++ g x) of_f.0 ∙ of_g.0) ∙ two-empty f g xs of_f.1 of_g.1

filter-all : {X : Type 0} (found : X → List SheetFault) (p : X → Bool) → ((x : X) → found x ≡ [] → p x ≡ true) → (xs : List X) → flat_map found xs ≡ [] → filter p xs ≡ xs
filter-all found p each [] h = refl
filter-all found p each (x ∷ xs) h =
    let apart = both-empty (found x) (flat_map found xs) h in
    ap (λ (test : Bool). cond test (x ∷ filter p xs) (filter p xs)) (each x apart.0) ∙ ap (λ l. x ∷ l) (filter-all found p each xs apart.1)

-- ---- numbers that are read

abbrev numbers_in : TextSection → List SheetFault
numbers_in s = flat_map unread_number s.properties

read-in : (p : Property → Bool) (ks : List Property) → flat_map unread_number ks ≡ [] → option_map_or (λ k. is_found (unread_number k)) (find p ks) false ≡ false
read-in p [] h = refl
read-in p (k ∷ ks) h = let apart = both-empty (unread_number k) (flat_map unread_number ks) h in read_here (p k) apart.0 (read-in p ks apart.1)
  where
    read_here : (here : Bool) → unread_number k ≡ [] → option_map_or (λ j. is_found (unread_number j)) (find p ks) false ≡ false
        → option_map_or (λ j. is_found (unread_number j)) (cond here (Some k) (find p ks)) false ≡ false
    read_here true h more = ap is_found h
    read_here false h more = more

read-at : (name : List ℕ) (s : TextSection) → numbers_in s ≡ [] → is_unread_at name s ≡ false
read-at name s h = read-in (λ k. same_name k.name name) s.properties h

read-option : (o : Option Property) → option_map_or unread_number o [] ≡ [] → option_map_or (λ k. is_found (unread_number k)) o false ≡ false
read-option None h = refl
read-option (Some k) h = ap is_found h

read-key : (name : List ℕ) (s : TextSection) → at_key unread_number name s ≡ [] → is_unread_at name s ≡ false
read-key name s h = read-option (property_at name s) h

-- ---- the object lists

numbers-of-list : (kind : SectionKind) → is_list kind ≡ true → has_numbers kind ≡ true
numbers-of-list kind h = rw h refl

lists-step : (l n : Bool) (s : TextSection) (ls ns : List TextSection) → (l ≡ true → n ≡ true) → flat_map numbers_in (cond n (s ∷ ns) ns) ≡ []
    → (flat_map numbers_in ns ≡ [] → flat_map numbers_in ls ≡ []) → flat_map numbers_in (cond l (s ∷ ls) ls) ≡ []
lists-step true true s ls ns f h more =
    let apart = both-empty (numbers_in s) (flat_map numbers_in ns) h in
    ap (λ (l : List SheetFault). l ++ flat_map numbers_in ls) apart.0 ∙ more apart.1
lists-step true false s ls ns f h more = let never = f refl in absurd (cc)
lists-step false true s ls ns f h more = more (both-empty (numbers_in s) (flat_map numbers_in ns) h).1
lists-step false false s ls ns f h more = more h

lists-read : (sections : List TextSection) → unread_list_numbers sections ≡ [] → unread_in_lists sections ≡ []
lists-read [] h = refl
lists-read (s ∷ ss) h =
    lists-step (is_list s.kind) (has_numbers s.kind) s (filter (λ t. is_list t.kind) ss) (filter (λ t. has_numbers t.kind) ss) (numbers-of-list s.kind) h (lists-read ss)

lists-complete : (sections : List TextSection) → unread_list_numbers sections ≡ [] → Sub (bad_lists sections) (all_bad_lists sections)
lists-complete sections none =
    sub-where numbers_in bad_list (λ s. unless (is_unread_at (codes "SupportedObjects") s) (bad_list s))
    (λ s h. sub-holding (is_unread_at (codes "SupportedObjects") s) (bad_list s) (bad_list s) (read-at (codes "SupportedObjects") s h) (sub-id (bad_list s)))
    (object_lists sections) (lists-read sections none)

-- an index that doesn't fit 16 bits
abbrev index_fault : Listing → List SheetFault
index_fault l = fault_if (nat_lt 0xFFFF l.index) BadList l.line

abbrev listing_of : Property → Option Listing
listing_of k = option_map (λ n. record { index = n; line = k.line }) (property_number k)

abbrev is_large : Option ℕ → Bool
is_large o = option_map_or (nat_lt 0xFFFF) o false

key-index : (line : ℕ) (o : Option ℕ) (rest : List Listing) → is_large o ≡ false → flat_map index_fault rest ≡ []
    → flat_map index_fault (cons_option (option_map (λ n. record { index = n; line = line }) o) rest) ≡ []
key-index line None rest h more = more
key-index line (Some n) rest h more = ap (λ (test : Bool). fault_if test BadList line ++ flat_map index_fault rest) h ∙ more

neither-true : (a b : Bool) → (a || b) ≡ false → (a ≡ false) × (b ≡ false)
neither-true true b h = absurd (cc)
neither-true false b h = (refl, h)

keys-index : (ks : List Property) → list_any (λ k. is_large (property_number k)) ks ≡ false → flat_map index_fault (filter_map listing_of ks) ≡ []
keys-index [] h = refl
keys-index (k ∷ ks) h =
    let apart = neither-true (is_large (property_number k)) (list_any (λ j. is_large (property_number j)) ks) h in
    key-index k.line (property_number k) (filter_map listing_of ks) apart.0 (keys-index ks apart.1)

list-index : (s : TextSection) (o : Option ℕ) → fault_if (option_map_or (is_bad_list s) o true) BadList s.line ≡ []
    → flat_map index_fault (filter_map listing_of (option_map_or (keys_to s) o [])) ≡ []
list-index s None h = refl
list-index s (Some n) h =
    let good = no_fault (is_bad_list s n) BadList s.line h in
    keys-index (keys_to s n) (neither-true (nat_lt 65535 n || nat_lt (length (keys_to s n)) n) (list_any (λ k. is_large (property_number k)) (keys_to s n)) good).1

indices-good : (sections : List TextSection) → bad_lists sections ≡ [] → flat_map index_fault (listings sections) ≡ []
indices-good sections none =
    filter-none index_fault (λ l. nat_le 0x1000 l.index) (flat_map listings_in (object_lists sections))
    (flat-flat index_fault listings_in (object_lists sections)
    ∙ where-none bad_list (λ s. flat_map index_fault (listings_in s)) (λ s h. list-index s (count_of s) h) (object_lists sections) none)

index-good : (test : Bool) (line : ℕ) → fault_if test BadList line ≡ [] → not (not test) ≡ false
index-good true line h = absurd (cc)
index-good false line h = refl

twice-complete : (sections : List TextSection) → bad_lists sections ≡ [] → Sub (of_listings listed_twice sections) (all_listed_twice sections)
twice-complete sections none =
    sub-where index_fault (listed_twice sections) (λ l. unless (not (is_index l.index)) (listed_twice sections l))
    (λ l h. sub-holding _ _ _ (index-good (nat_lt 0xFFFF l.index) l.line h) (sub-id (listed_twice sections l)))
    (listings sections) (indices-good sections none)

listing-good : (large before : Bool) (line : ℕ) → fault_if large BadList line ++ fault_if before ListedTwice line ≡ [] → (not large && not before) ≡ true
listing-good true before line h = absurd (cc)
listing-good false true line h = absurd (cc)
listing-good false false line h = refl

-- what the lists name, each by itself, and that it isn't named before
abbrev listing_faults : List TextSection → Listing → List SheetFault
listing_faults sections l = index_fault l ++ listed_twice sections l

listings-good : (sections : List TextSection) → bad_lists sections ≡ [] → of_listings listed_twice sections ≡ [] → flat_map (listing_faults sections) (listings sections) ≡ []
listings-good sections lists twice = two-empty index_fault (listed_twice sections) (listings sections) (indices-good sections lists) twice

sound-listing : (sections : List TextSection) (l : Listing) → listing_faults sections l ≡ [] → is_sound sections l ≡ true
sound-listing sections l h = listing-good (nat_lt 0xFFFF l.index) (is_listed_before (listings sections) l) l.line h

missing-complete : (sections : List TextSection) → bad_lists sections ≡ [] → of_listings listed_twice sections ≡ [] → Sub (of_listings missing_section sections) (all_missing_sections sections)
missing-complete sections lists twice =
    sub-where (listing_faults sections) (missing_section sections) (λ l. unless (not (is_sound sections l)) (missing_section sections l))
    (λ l h. sub-holding _ _ _ (ap not (sound-listing sections l h)) (sub-id (missing_section sections l)))
    (listings sections) (listings-good sections lists twice)

-- ---- objects

objects-same : (sections : List TextSection) → bad_lists sections ≡ [] → of_listings listed_twice sections ≡ [] → sound_objects sections ≡ listed_objects sections
objects-same sections lists twice =
    ap (λ (ls : List Listing). filter_map (λ (l : Listing). object_at l.index sections) ls)
    (filter-all (listing_faults sections) (is_sound sections) (sound-listing sections) (listings sections) (listings-good sections lists twice))

-- of the objects, where something finds nothing
module _ (sections : List TextSection) (same : sound_objects sections ≡ listed_objects sections) where
  objects-complete : (found f g : ListedObject → List SheetFault) → ((o : ListedObject) → found o ≡ [] → Sub (f o) (g o)) → flat_map found (listed_objects sections) ≡ []
      → Sub (flat_map f (listed_objects sections)) (flat_map g (sound_objects sections))
  objects-complete found f g each none a c =
      sub-same (flat_map g (listed_objects sections)) (flat_map g (sound_objects sections)) (ap (λ (os : List ListedObject). flat_map g os) (sym same)) a
      (sub-where found f g each (listed_objects sections) none a c)

  objects-all : (f : ListedObject → List SheetFault) → Sub (flat_map f (listed_objects sections)) (flat_map f (sound_objects sections))
  objects-all f = sub-same _ _ (ap (λ (os : List ListedObject). flat_map f os) (sym same))

  entries-complete : (found f g : Entry → List SheetFault) → ((e : Entry) → found e ≡ [] → Sub (f e) (g e)) → of_entries found sections ≡ [] → Sub (of_entries f sections) (of_sound_entries g sections)
  entries-complete found f g each none a c =
      sub-same (flat_map g (entries_of sections)) (of_sound_entries g sections) (ap (λ (os : List ListedObject). flat_map g (flat_map (entries_in sections) os)) (sym same)) a
      (sub-where found f g each (entries_of sections) none a c)

  entries-all : (f : Entry → List SheetFault) → Sub (of_entries f sections) (of_sound_entries f sections)
  entries-all f = sub-same _ _ (ap (λ (os : List ListedObject). flat_map f (flat_map (entries_in sections) os)) (sym same))

-- the ObjectType of a section that can be read
type-complete : (allowed : List ℕ) (section : TextSection) → at_key unread_number (codes "ObjectType") section ≡ [] → Sub (other_object_type allowed section) (object_type_found allowed section)
type-complete allowed section h = sub-holding _ _ _ (read-key (codes "ObjectType") section h) (sub-id (other_object_type allowed section))

-- what check 6 finds in parts
abbrev code_fault : Entry → List SheetFault
code_fault e = at_key unread_number (codes "ObjectType") e.section

types-complete : (sections : List TextSection) (o : ListedObject) → unread_object_numbers sections o ≡ [] → Sub (bad_object_types sections o) (object_types_found sections o)
types-complete sections o h =
    let first = both-empty (at_key unread_number (codes "ObjectType") o.section ++ at_key unread_number (codes "CompactSubObj") o.section) (flat_map code_fault (sub_indices_checked sections o)) h in
    let second = both-empty (at_key unread_number (codes "ObjectType") o.section) (at_key unread_number (codes "CompactSubObj") o.section) first.0 in
    sub-append _ _ _ _ (type-complete (single_codes ++ compound_codes) o.section second.0)
    (sub-where code_fault (λ e. other_object_type single_codes e.section) (λ e. object_type_found single_codes e.section) (λ e none. type-complete single_codes e.section none) (sub_indices_checked sections o) first.1)

-- CompactSubObj, where it can be read and isn't a compact form
compact_number : (r : Result ℕ NumeralFault) (line : ℕ) → unread r line ≡ [] → fault_if (is_other_than_zero (result_ok r)) CompactForm line ≡ [] → not (is_one_of (0 ∷ []) (result_ok r)) ≡ false
compact_number (Ok n) line h none = no_fault (not (is_one_of (0 ∷ []) (Some n))) CompactForm line none
compact_number (Err e) line h none = absurd (cc)

compact_option : (o : Option Property) → option_map_or unread_number o [] ≡ [] → option_map_or compact_form o [] ≡ []
    → option_map_or (λ k. not (is_one_of (0 ∷ []) (property_number k))) o false ≡ false
compact_option None h none = refl
compact_option (Some k) h none = compact_number (unsigned_number k.value) k.line h none

abbrev compact_fault : ListedObject → List SheetFault
compact_fault o = at_key compact_form (codes "CompactSubObj") o.section

sub_index_0_complete : (sections : List TextSection) (o : ListedObject) → unread_object_numbers sections o ++ compact_fault o ≡ [] → Sub (missing_sub_index_0 sections o) (sub_index_0_found sections o)
sub_index_0_complete sections o h =
    let both = both-empty (unread_object_numbers sections o) (compact_fault o) h in
    let first = both-empty (at_key unread_number (codes "ObjectType") o.section ++ at_key unread_number (codes "CompactSubObj") o.section) (flat_map code_fault (sub_indices_checked sections o)) both.0 in
    let second = both-empty (at_key unread_number (codes "ObjectType") o.section) (at_key unread_number (codes "CompactSubObj") o.section) first.0 in
    sub-holding _ _ _ (compact_option (property_at (codes "CompactSubObj") o.section) second.1 both.1) (sub-id (missing_sub_index_0 sections o))

-- ---- entries

abbrev kind_fault : Entry → List SheetFault
kind_fault e = other_object_type single_codes e.section

single-option : (o : Option Property) → is_one_of single_codes (option_map_or property_number o (Some 7)) ≡ true
    → option_map_or (λ k. fault_if (not (is_one_of single_codes (property_number k))) BadType k.line) o [] ≡ []
single-option None h = refl
single-option (Some k) h = ap (λ (test : Bool). fault_if (not test) BadType k.line) h

-- by whether the object is single or compound
entries-cases : (sections : List TextSection) (o : ListedObject) (single compound : Bool) → is_one_of single_codes (object_code o.section) ≡ single
    → flat_map kind_fault (cond single [] (sub_indices sections o.index)) ≡ []
    → flat_map kind_fault (cond single (record { key = record { index = o.index; sub = 0 }; section = o.section } ∷ []) (cond compound (sub_indices sections o.index) [])) ≡ []
entries-cases sections o true compound is none = ap (λ (l : List SheetFault). l ++ []) (single-option (property_at (codes "ObjectType") o.section) is)
entries-cases sections o false true is none = none
entries-cases sections o false false is none = refl

entries-kinds : (sections : List TextSection) (o : ListedObject) → bad_object_types sections o ≡ [] → flat_map kind_fault (entries_in sections o) ≡ []
entries-kinds sections o h =
    let both = both-empty (other_object_type (single_codes ++ compound_codes) o.section) (flat_map kind_fault (sub_indices_checked sections o)) h in
    entries-cases sections o (is_one_of single_codes (object_code o.section)) (is_one_of compound_codes (object_code o.section)) refl both.1

kinds-good : (sections : List TextSection) → of_objects bad_object_types sections ≡ [] → of_entries kind_fault sections ≡ []
kinds-good sections none =
    flat-flat kind_fault (entries_in sections) (listed_objects sections)
    ∙ where-none (bad_object_types sections) (λ o. flat_map kind_fault (entries_in sections o)) (entries-kinds sections) (listed_objects sections) none

key-complete : (e : Entry) → kind_fault e ≡ [] → Sub (missing_key e) (key_found e)
key-complete e h = sub-holding _ _ _ (ap is_found h) (sub-id (missing_key e))

typed-complete : (f g : Entry → List SheetFault) (e : Entry) → bad_type e ≡ [] → Sub (f e) (g e) → Sub (f e) (of_sound_type g e)
typed-complete f g e h each = sub-holding _ _ _ (ap is_found h) each

-- ---- limits

-- the limit that a property states at a numeric type
abbrev limit_with : DataType → Option Property → Option ℤ
limit_with t o = option_and_then (λ k. result_ok (number_at_type t k.value)) o

-- what check 16 finds, and what is found everywhere, by the two properties and the two limits
abbrev outside_at : DataType → Option ℤ → Option Property → List SheetFault
outside_at t limit o = option_map_or (λ k. fault_if (is_outside t limit) BadLimits k.line) o []

abbrev rests_at : DataType → Option ℤ → Option Property → Option Property → Bool
rests_at t low ol oh = is_low_first ol oh && is_outside t low

abbrev crossed_at : DataType → Option ℤ → Option ℤ → Option Property → Option Property → List SheetFault
crossed_at t low high ol oh =
    option_map_or (λ k. fault_if (not (at_most (option_or low (least_of t)) (option_or high (greatest_of t))) && not (rests_at t low ol oh)) BadLimits k.line) (option_or oh ol) []

abbrev high_at : DataType → Option ℤ → Option ℤ → Option Property → Option Property → List SheetFault
high_at t low high ol oh = option_map_or (λ k. fault_if (is_outside t high || (not (at_most low high) && not (rests_at t low ol oh))) BadLimits k.line) oh []

or-front : (a b : Bool) → a ≡ true → (a || b) ≡ true
or-front true b h = refl
or-front false b h = absurd (cc)

or-after : (a b : Bool) → b ≡ true → (a || b) ≡ true
or-after true b h = refl
or-after false b h = h

below-least : (b c d : Bool) → not b ≡ true → (not (b && c) || d) ≡ true
below-least false c d h = refl
below-least true c d h = absurd (cc)

above-greatest : (b c : Bool) → not c ≡ true → not (b && c) ≡ true
above-greatest false c h = refl
above-greatest true c h = h

pub sub-twice : (xs ys zs : List SheetFault) → Sub xs zs → Sub ys zs → Sub (xs ++ ys) zs
sub-twice xs ys zs f g a c = by_cases (Contains-append_cases xs ys a c)
  where
    by_cases : Contains xs a ⊎ Contains ys a → Contains zs a
    by_cases (inl h) = f a h
    by_cases (inr h) = g a h

and-front : (a b : Bool) → (a && b) ≡ true → a ≡ true
and-front true b h = refl
and-front false b h = absurd (cc)

-- HighLimit below the lowest number is outside the type, or below LowLimit
high-crossed : (t : DataType) (low : Option ℤ) (w : ℤ) (alone : Bool) → (not (at_most (option_or low (least_of t)) (Some w)) && alone) ≡ true
    → (is_outside t (Some w) || (not (at_most low (Some w)) && alone)) ≡ true
high-crossed t None w alone h = below-least (at_most (least_of t) (Some w)) (at_most (Some w) (greatest_of t)) false (and-front (not (at_most (least_of t) (Some w))) alone h)
high-crossed t (Some v) w alone h = or-after (is_outside t (Some w)) (not (at_most (Some v) (Some w)) && alone) h

-- a number that is read
read-some : (r : Result ℤ NumeralFault) (line : ℕ) → unread r line ≡ [] → (v : ℤ) × (result_ok r ≡ Some v)
read-some (Ok v) line h = (v, refl)
read-some (Err e) line h = absurd (cc)

low-alone : (t : DataType) (v : ℤ) (line : ℕ)
    → Sub (fault_if (is_outside t (Some v)) BadLimits line ++ [] ++ fault_if (not (at_most (Some v) (greatest_of t)) && true) BadLimits line) (fault_if (is_outside t (Some v)) BadLimits line ++ [])
low-alone t v line =
    let found = fault_if (is_outside t (Some v)) BadLimits line in
    let crossed = fault_if (not (at_most (Some v) (greatest_of t)) && true) BadLimits line in
    sub-twice (found ++ []) crossed (found ++ []) (sub-id (found ++ []))
    (sub-front crossed found [] (sub-if (not (at_most (Some v) (greatest_of t)) && true) (is_outside t (Some v)) BadLimits line
    (λ h. above-greatest (at_most (least_of t) (Some v)) (at_most (Some v) (greatest_of t)) (and-front (not (at_most (Some v) (greatest_of t))) true h))))

both-limits : (t : DataType) (low : Option ℤ) (w : ℤ) (line : ℕ) (found : List SheetFault) (alone : Bool)
    → Sub (found ++ fault_if (is_outside t (Some w)) BadLimits line ++ fault_if (not (at_most (option_or low (least_of t)) (Some w)) && alone) BadLimits line)
    (found ++ fault_if (is_outside t (Some w) || (not (at_most low (Some w)) && alone)) BadLimits line)
both-limits t low w line found alone =
    let below = not (at_most low (Some w)) && alone in
    let high = fault_if (is_outside t (Some w)) BadLimits line in
    let crossed = fault_if (not (at_most (option_or low (least_of t)) (Some w)) && alone) BadLimits line in
    let all = fault_if (is_outside t (Some w) || below) BadLimits line in
    sub-twice (found ++ high) crossed (found ++ all)
    (sub-append found high found all (sub-id found) (sub-if (is_outside t (Some w)) (is_outside t (Some w) || below) BadLimits line (or-front (is_outside t (Some w)) below)))
    (sub-after crossed found all (sub-if (not (at_most (option_or low (least_of t)) (Some w)) && alone) (is_outside t (Some w) || below) BadLimits line (high-crossed t low w alone)))

limits-complete-at : (t : DataType) (ol oh : Option Property) → option_map_or (unread_limit t) ol [] ≡ [] → option_map_or (unread_limit t) oh [] ≡ []
    → Sub (outside_at t (limit_with t ol) ol ++ outside_at t (limit_with t oh) oh ++ crossed_at t (limit_with t ol) (limit_with t oh) ol oh)
    (outside_at t (limit_with t ol) ol ++ high_at t (limit_with t ol) (limit_with t oh) ol oh)
limits-complete-at t None None low high = sub-id []
limits-complete-at t (Some k) None low high =
    let read = read-some (number_at_type t k.value) k.line low in
    subst (λ (o : Option ℤ). Sub (fault_if (is_outside t o) BadLimits k.line ++ [] ++ fault_if (not (at_most (option_or o (least_of t)) (greatest_of t)) && true) BadLimits k.line) (fault_if (is_outside t o) BadLimits k.line ++ [])) (sym read.1)
    (low-alone t read.0 k.line)
limits-complete-at t ol (Some k) low high =
    let read = read-some (number_at_type t k.value) k.line high in
    subst (λ (o : Option ℤ). Sub (outside_at t (limit_with t ol) ol ++ fault_if (is_outside t o) BadLimits k.line ++ crossed_at t (limit_with t ol) o ol (Some k))
    (outside_at t (limit_with t ol) ol ++ high_at t (limit_with t ol) o ol (Some k))) (sym read.1)
    (both-limits t (limit_with t ol) read.0 k.line (outside_at t (limit_with t ol) ol) (not (rests_at t (limit_with t ol) ol (Some k))))

limit-is : (t : DataType) (o : Option Property) → is_numeric t ≡ true → cond (is_numeric t) (limit_with t o) None ≡ limit_with t o
limit-is t o h = ap (λ (test : Bool). cond test (limit_with t o) None) h

limits-complete : (t : DataType) (e : Entry) → is_numeric t ≡ true → unread_limits t e ≡ [] → Sub (bad_limits t e) (limits_found t e)
limits-complete t e numeric h =
    let ol = property_at (codes "LowLimit") e.section in
    let oh = property_at (codes "HighLimit") e.section in
    let first = both-empty (option_map_or (unread_limit t) ol [] ++ option_map_or (unread_limit t) oh []) (unread_defaults t e) h in
    let second = both-empty (option_map_or (unread_limit t) ol []) (option_map_or (unread_limit t) oh []) first.0 in
    subst (λ (low : Option ℤ). Sub (outside_at t low ol ++ outside_at t (high_limit t e) oh ++ crossed_at t low (high_limit t e) ol oh) (outside_at t low ol ++ high_at t low (high_limit t e) ol oh)) (sym (limit-is t ol numeric))
    (subst (λ (high : Option ℤ). Sub (outside_at t (limit_with t ol) ol ++ outside_at t high oh ++ crossed_at t (limit_with t ol) high ol oh) (outside_at t (limit_with t ol) ol ++ high_at t (limit_with t ol) high ol oh)) (sym (limit-is t oh numeric))
    (limits-complete-at t ol oh second.0 second.1))

numeric-cases : (t : DataType) (e : Entry) (test : Bool) → is_numeric t ≡ test → cond test (unread_limits t e) [] ≡ [] → Sub (cond test (bad_limits t e) []) (cond test (limits_found t e) [])
numeric-cases t e true numeric h = limits-complete t e numeric h
numeric-cases t e false numeric h = sub-id []

numeric-typed : (e : Entry) (o : Option DataType) → option_map_or (λ t. cond (is_numeric t) (unread_limits t e) []) o [] ≡ []
    → Sub (option_map_or (λ t. cond (is_numeric t) (bad_limits t e) []) o []) (option_map_or (λ t. cond (is_numeric t) (limits_found t e) []) o [])
numeric-typed e None h = sub-id []
numeric-typed e (Some t) h = numeric-cases t e (is_numeric t) refl h

abbrev type_and : (Entry → List SheetFault) → Entry → List SheetFault
type_and found e = bad_type e ++ found e

limits-typed : (e : Entry) → type_and (in_numeric unread_limits) e ≡ [] → Sub (in_numeric bad_limits e) (of_sound_type (in_numeric limits_found) e)
limits-typed e h =
    let both = both-empty (bad_type e) (in_numeric unread_limits e) h in
    typed-complete (in_numeric bad_limits) (in_numeric limits_found) e both.0 (numeric-typed e (data_type_of e) both.1)

-- ---- defaults

low-good : (t : DataType) (o : Option Property) → outside_at t (limit_with t o) o ≡ [] → is_outside t (limit_with t o) ≡ false
low-good t None h = refl
low-good t (Some k) h = no_fault _ BadLimits k.line h

high-good : (t : DataType) (low : Option ℤ) (ol oh : Option Property) → high_at t low (limit_with t oh) ol oh ≡ [] → (is_outside t (limit_with t oh) || (not (at_most low (limit_with t oh)) && not (rests_at t low ol oh))) ≡ false
high-good t None ol None h = refl
high-good t (Some v) ol None h = refl
high-good t low ol (Some k) h = no_fault _ BadLimits k.line h

-- limits of an entry that are not at fault
record AreGood (t : DataType) (e : Entry) : Type 0 where
  pub low : is_low_at_fault t e ≡ false
  pub high : is_high_at_fault t e ≡ false

good-numeric : (t : DataType) (e : Entry) → is_numeric t ≡ true → bad_limits t e ≡ [] → AreGood t e
good-numeric t e numeric h =
    let ol = property_at (codes "LowLimit") e.section in
    let oh = property_at (codes "HighLimit") e.section in
    let none : limits_found t e ≡ [] = none-sub (limits_found t e) (λ a c. sub-same (bad_limits t e) [] h a (limits-sound t e a c)) in
    let both = both-empty (outside_at t (low_limit t e) ol) (high_at t (low_limit t e) (high_limit t e) ol oh) none in
    let low_same = limit-is t ol numeric in
    let high_same = limit-is t oh numeric in
    record {
      low = ap (is_outside t) low_same ∙ low-good t ol (ap (λ (o : Option ℤ). outside_at t o ol) (sym low_same) ∙ both.0);
      high = ap (λ (o : Option ℤ). is_outside t o || (not (at_most (low_limit t e) o) && not (rests_at t (low_limit t e) ol oh))) high_same
          ∙ high-good t (low_limit t e) ol oh (ap (λ (o : Option ℤ). high_at t (low_limit t e) o ol oh) (sym high_same) ∙ both.1);
    }

good-other : (t : DataType) (e : Entry) → is_numeric t ≡ false → AreGood t e
good-other t e h =
    let ol = property_at (codes "LowLimit") e.section in
    let oh = property_at (codes "HighLimit") e.section in
    record {
      low = ap (λ (test : Bool). is_outside t (cond test (limit_with t ol) None)) h;
      high = ap (λ (test : Bool). is_outside t (cond test (limit_with t oh) None) || (not (at_most (cond test (limit_with t ol) None) (cond test (limit_with t oh) None)) && not (rests_at t (cond test (limit_with t ol) None) ol oh))) h;
    }

good-cases : (t : DataType) (e : Entry) (test : Bool) → is_numeric t ≡ test → cond test (bad_limits t e) [] ≡ [] → AreGood t e
good-cases t e true is h = good-numeric t e is h
good-cases t e false is h = good-other t e is

default-same : (t : DataType) (e : Entry) → AreGood t e → (d : Default) → is_bad_default t e d ≡ is_default_at_fault t e d
default-same t e good (number v) =
    ap (λ (low : Option ℤ). not (is_in_type t v && at_most low (Some v) && at_most (Some v) (high_limit t e))) (sym (ap (λ (test : Bool). cond test None (low_limit t e)) good.low))
    ∙ ap (λ (high : Option ℤ). not (is_in_type t v && at_most (sound_low t e) (Some v) && at_most (Some v) high)) (sym (ap (λ (test : Bool). cond test None (high_limit t e)) good.high))
default-same t e good (pairs digits) = refl
default-same t e good absent = refl
default-same t e good (node_id n) = refl
default-same t e good (text bytes) = refl

default-test : (e : Entry) (k : Property) (o : Option DataType) → option_map_or (λ t. cond (is_numeric t) (bad_limits t e) []) o [] ≡ []
    → option_map_or (λ t. is_bad_default t e (stated_default t k)) o false ≡ option_map_or (λ t. is_default_at_fault t e (stated_default t k)) o false
default-test e k None h = refl
default-test e k (Some t) h = default-same t e (good-cases t e (is_numeric t) refl h) (stated_default t k)

default-complete : (e : Entry) → in_numeric bad_limits e ≡ [] → Sub (bad_default e) (default_found e)
default-complete e h =
    let each : (k : Property) → Sub (bad_default_at e k) (default_found_at e k)
    = λ k. sub-same _ _ (ap (λ (test : Bool). fault_if test BadDefault k.line) (default-test e k (data_type_of e) h)) in
    sub-append _ _ _ _ (sub-key (bad_default_at e) (default_found_at e) each (codes "DefaultValue") e.section)
    (sub-key (bad_default_at e) (default_found_at e) each (codes "ParameterValue") e.section)

default-typed : (e : Entry) → type_and (in_numeric bad_limits) e ≡ [] → Sub (bad_default e) (of_sound_type default_found e)
default-typed e h =
    let both = both-empty (bad_type e) (in_numeric bad_limits e) h in
    typed-complete bad_default default_found e both.0 (default-complete e both.1)

-- ---- the mandatory objects

none-found : (a b c d f : List SheetFault) → a ≡ [] → b ≡ [] → c ≡ [] → d ≡ [] → f ≡ [] → (is_found a || is_found b || is_found c || is_found d || is_found f) ≡ false
none-found a b c d f p q r s t = rw (p, q, r, s, t) refl

mandatory-complete : (sections : List TextSection) → missing_lists sections ≡ [] → unread_list_numbers sections ≡ [] → bad_lists sections ≡ [] → of_listings listed_twice sections ≡ []
    → of_listings missing_section sections ≡ [] → Sub (missing_mandatory sections) (all_missing_mandatory sections)
mandatory-complete sections first numbers lists twice sections_there =
    sub-holding _ _ _ (none-found _ _ _ _ _ first (lists-read sections numbers) lists twice sections_there) (sub-id (missing_mandatory sections))

-- ---- all of them

-- each check of the former finds no more than the latter's, where those before it find nothing
abbrev pub Complete : List (List TextSection → List SheetFault) → List (List TextSection → List SheetFault) → List TextSection → Type 0
Complete [] others sections = Unit {0}
Complete (check ∷ more) [] sections = ⊥
Complete (check ∷ more) (other ∷ others) sections = Sub (check sections) (other sections) × (check sections ≡ [] → Complete more others sections)

-- what check 8 finds of the device, and of the objects
abbrev compact_pdo : List TextSection → List SheetFault
compact_pdo sections = option_map_or (at_key compact_form (codes "CompactPDO")) (section_at DeviceInfo sections) []

compact-complete : (sections : List TextSection) → sound_objects sections ≡ listed_objects sections → Sub (compact_forms sections) (all_compact_forms sections)
compact-complete sections same =
    sub-append (compact_pdo sections) (flat_map compact_fault (listed_objects sections)) (compact_pdo sections) (flat_map compact_fault (sound_objects sections))
    (sub-id (compact_pdo sections)) (objects-all sections same compact_fault)

compact-objects : (sections : List TextSection) → compact_forms sections ≡ [] → flat_map compact_fault (listed_objects sections) ≡ []
compact-objects sections h = (both-empty (compact_pdo sections) (flat_map compact_fault (listed_objects sections)) h).1

pub complete : (sections : List TextSection) → Complete checks all_checks sections
complete sections = (
  sub-id (missing_lists sections),
  λ first. (
    sub-id (unread_list_numbers sections),
    λ numbers. (
      lists-complete sections numbers,
      λ lists. (
        twice-complete sections lists,
        λ twice. (
          missing-complete sections lists twice,
          λ there.
              let same = objects-same sections lists twice in (
                objects-all sections same (unread_object_numbers sections),
                λ objects. (
                  objects-complete sections same (unread_object_numbers sections) (bad_object_types sections) (object_types_found sections) (types-complete sections) objects,
                  λ types. (
                    compact-complete sections same,
                    λ compact. (
                      objects-complete sections same (λ o. unread_object_numbers sections o ++ compact_fault o) (missing_sub_index_0 sections) (sub_index_0_found sections) (sub_index_0_complete sections)
                          (two-empty (unread_object_numbers sections) compact_fault (listed_objects sections) objects (compact-objects sections compact)),
                      λ sub_0. (
                        entries-complete sections same kind_fault missing_key key_found key-complete (kinds-good sections types),
                        λ keys. (
                          entries-all sections same unread_entry_numbers,
                          λ entry_numbers. (
                            entries-all sections same bad_type,
                            λ data_types. (
                              entries-complete sections same bad_type left_out_type (of_sound_type left_out_type) (λ e h. typed-complete left_out_type left_out_type e h (sub-id (left_out_type e))) data_types,
                              λ left_out. (
                                entries-all sections same bad_access,
                                λ access. (
                                  entries-complete sections same bad_type (in_numeric unread_limits) (of_sound_type (in_numeric unread_limits)) (λ e h. typed-complete (in_numeric unread_limits) (in_numeric unread_limits) e h (sub-id (in_numeric unread_limits e))) data_types,
                                  λ values. (
                                    entries-complete sections same (type_and (in_numeric unread_limits)) (in_numeric bad_limits) (of_sound_type (in_numeric limits_found)) limits-typed (two-empty bad_type (in_numeric unread_limits) (entries_of sections) data_types values),
                                    λ limits. (
                                      entries-complete sections same (type_and (in_numeric bad_limits)) bad_default (of_sound_type default_found) default-typed (two-empty bad_type (in_numeric bad_limits) (entries_of sections) data_types limits),
                                      λ defaults.
                                          (mandatory-complete sections first numbers lists twice there, λ mandatory. tt),
                                    ),
                                  ),
                                ),
                              ),
                            ),
                          ),
                        ),
                      ),
                    ),
                  ),
                ),
              ),
        ),
      ),
    ),
  ),
)
