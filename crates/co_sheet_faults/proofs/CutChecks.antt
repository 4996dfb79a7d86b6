-- Sections of which some properties of two names are cut out: what the checks that don't look at these names find stays.
use Rattle.std.proofs.Common.{◌≡◌, ℕ, Bool, true, false, cond, not, ◌&&◌, ◌||◌, ◌==◌, nat_le, List, [], ◌∷◌, ◌++◌, Option, Some, None, refl, sym, ap, ◌∙◌, map}
use Rattle.std.specs.Prelude.{flat_map, filter, filter_map, find, option_map, codes, is_none}
use Rattle.std.specs.List.{cons_option, list_any, list_all}
use Rattle.std.specs.Option.{option_map_or}
use Rattle.std.specs.Str.{bytes_eq, str_to_ascii_lowercase}
use Rattle.std.proofs.lemmas.Slice.Eq.{bytes_eq-Decides}
use Rattle.std.proofs.lemmas.List.Folds.{flat_map-map}
use Rattle.co_value.specs.declared.key.Key.{Key}
use Rattle.co_sheet_text.specs.declared.section_kind.SectionKind.{SectionKind}
use Rattle.co_sheet_text.specs.declared.section_kind.SectionKind.TheVariants.{MandatoryObjects, DeviceInfo, Object, SubIndex}
use Rattle.co_sheet_rows.specs.declared.fault.FaultKind.TheVariants.{MissingSection, BadList, BadType, ListedTwice, MissingMandatory}
use Rattle.co_sheet_rows.specs.declared.fault.SheetFault.{SheetFault}
use Rattle.co_sheet_text.specs.Names.{same_kind, is_list}
use Rattle.co_sheet_text.specs.Text.{same_name}
use Rattle.co_sheet_text.specs.Sections.{Property, TextSection, property_at, section_at}
use Rattle.co_sheet_text.specs.Properties.{property_number}
use Rattle.co_sheet.specs.ObjectLists.{is_one_of, object_lists, count_of, Listing, listings_in, listings}
use Rattle.co_sheet.specs.Entries.{single_codes, compound_codes, object_code, ListedObject, Entry, sub_index_in, sub_indices, entries_in, type_code, data_type_of}
use Rattle.co_sheet.specs.SectionViews.{object_at}
use Rattle.co_sheet.specs.Checks.{fault_if, at_key, unread_number, has_numbers, unread_list_numbers, missing_lists, is_listed_before, listed_twice, missing_section, bad_lists, is_bad_list, of_listings, sub_indices_checked, unread_object_numbers, other_object_type, compact_form, unread_entry_numbers, is_bad_type, type_line, bad_type, left_out_type, bad_access, missing_mandatory}
use Rattle.co_sheet_faults.specs.Soundness.{unless, is_found, is_unread_at, is_index, is_sound, sound_listings, sound_objects, sound_entries, unread_in_lists, are_lists_at_fault, is_data_type_at_fault}
use Rattle.co_sheet_faults.specs.AllChecks.{bad_list, all_bad_lists, all_listed_twice, all_missing_sections, object_type_found, object_types_found, all_compact_forms, sub_index_0_found, key_found, of_sound_type, all_missing_mandatory, of_sound_objects, of_sound_entries}
use Rattle.co_sheet_faults.proofs.ElementLemmas.{find-kept, find-map, flat-same, map-flat, cons-map}

-- of which lines, and of which two names
pub record Cut : Type 0 where
  pub bad : ℕ → Bool
  pub first : List ℕ
  pub second : List ℕ

abbrev pub is_named : Cut → List ℕ → Bool
is_named c name = same_name name c.first || same_name name c.second

abbrev pub stays : Cut → Property → Bool
stays c k = not (c.bad k.line && is_named c k.name)

abbrev pub is_entry_kind : SectionKind → Bool
is_entry_kind (Object index) = true
is_entry_kind (SubIndex key) = true
is_entry_kind kind = false

abbrev pub cut_keys : Cut → Bool → List Property → List Property
cut_keys c is_entry keys = cond is_entry (filter (stays c) keys) keys

abbrev pub cut : Cut → TextSection → TextSection
cut c s = record s { properties = cut_keys c (is_entry_kind s.kind) s.properties }

abbrev pub cut_all : Cut → List TextSection → List TextSection
cut_all c ss = map (cut c) ss

abbrev pub cut_object : Cut → ListedObject → ListedObject
cut_object c o = record { index = o.index; section = cut c o.section }

abbrev pub cut_entry : Cut → Entry → Entry
cut_entry c e = record { key = e.key; section = cut c e.section }

-- ---- properties of other names

pub same-as : (a b other : List ℕ) → same_name a b ≡ true → same_name a other ≡ same_name b other
same-as a b other h = ap (λ (l : List ℕ). bytes_eq l (str_to_ascii_lowercase other)) ((bytes_eq-Decides (str_to_ascii_lowercase a) (str_to_ascii_lowercase b)).0 h)

never : (b : Bool) → not (b && false) ≡ true
never true = refl
never false = refl

apart-stays : (c : Cut) (name : List ℕ) → is_named c name ≡ false → (k : Property) → same_name k.name name ≡ true → stays c k ≡ true
apart-stays c name apart k h =
    ap (λ b. not (c.bad k.line && (b || same_name k.name c.second))) (same-as k.name name c.first h)
    ∙ ap (λ b. not (c.bad k.line && (same_name name c.first || b))) (same-as k.name name c.second h)
    ∙ ap (λ b. not (c.bad k.line && b)) apart
    ∙ never (c.bad k.line)

key-cases : (c : Cut) (name : List ℕ) → is_named c name ≡ false → (b : Bool) (keys : List Property) → find (λ k. same_name k.name name) (cut_keys c b keys) ≡ find (λ k. same_name k.name name) keys
key-cases c name apart true keys = find-kept (λ (k : Property). same_name k.name name) (stays c) true keys (λ k i h. apart-stays c name apart k h)
key-cases c name apart false keys = refl

pub key-cut : (c : Cut) (name : List ℕ) → is_named c name ≡ false → (s : TextSection) → property_at name (cut c s) ≡ property_at name s
key-cut c name apart s = key-cases c name apart (is_entry_kind s.kind) s.properties

-- the names that the other checks look at
pub record IsApart (c : Cut) : Type 0 where
  pub object_type : is_named c (codes "ObjectType") ≡ false
  pub compact : is_named c (codes "CompactSubObj") ≡ false
  pub compact_pdo : is_named c (codes "CompactPDO") ≡ false
  pub data_type : is_named c (codes "DataType") ≡ false
  pub access : is_named c (codes "AccessType") ≡ false
  pub mapping : is_named c (codes "PDOMapping") ≡ false

-- ---- sections of other kinds, and what the lists name

list-apart : (kind : SectionKind) → is_list kind ≡ true → is_entry_kind kind ≡ false
list-apart (Object index) h = absurd (cc)
list-apart (SubIndex key) h = absurd (cc)
list-apart kind h = refl

numbers-apart : (kind : SectionKind) → has_numbers kind ≡ true → is_entry_kind kind ≡ false
numbers-apart (Object index) h = absurd (cc)
numbers-apart (SubIndex key) h = absurd (cc)
numbers-apart kind h = refl

uncut : (c : Cut) (s : TextSection) → is_entry_kind s.kind ≡ false → cut c s ≡ s
uncut c s h = ap (λ (b : Bool). record s { properties = cut_keys c b s.properties }) h

filter-cut-cases : (c : Cut) (s : TextSection) (xs ys : List TextSection) (b : Bool) → (b ≡ true → is_entry_kind s.kind ≡ false) → xs ≡ ys → cond b (cut c s ∷ xs) xs ≡ cond b (s ∷ ys) ys
filter-cut-cases c s xs ys true apart same = ap (λ t. t ∷ xs) (uncut c s (apart refl)) ∙ ap (λ l. s ∷ l) same
filter-cut-cases c s xs ys false apart same = same

filter-cut : (c : Cut) (q : SectionKind → Bool) → ((kind : SectionKind) → q kind ≡ true → is_entry_kind kind ≡ false) → (ss : List TextSection)
    → filter (λ s. q s.kind) (cut_all c ss) ≡ filter (λ s. q s.kind) ss
filter-cut c q apart [] = refl
filter-cut c q apart (s ∷ ss) = filter-cut-cases c s _ _ (q s.kind) (apart s.kind) (filter-cut c q apart ss)

lists-cut : (c : Cut) (ss : List TextSection) → object_lists (cut_all c ss) ≡ object_lists ss
lists-cut c ss = filter-cut c is_list list-apart ss

listings-cut : (c : Cut) (ss : List TextSection) → listings (cut_all c ss) ≡ listings ss
listings-cut c ss = ap (λ (ls : List TextSection). filter (λ (l : Listing). nat_le 0x1000 l.index) (flat_map listings_in ls)) (lists-cut c ss)

section-cut : (c : Cut) (kind : SectionKind) (ss : List TextSection) → section_at kind (cut_all c ss) ≡ option_map (cut c) (section_at kind ss)
section-cut c kind ss = find-map (λ (s : TextSection). same_kind s.kind kind) (cut c) (λ s. refl) ss

none-map : (c : Cut) (o : Option TextSection) → is_none (option_map (cut c) o) ≡ is_none o
none-map c None = refl
none-map c (Some s) = refl

none-cut : (c : Cut) (kind : SectionKind) (ss : List TextSection) → is_none (section_at kind (cut_all c ss)) ≡ is_none (section_at kind ss)
none-cut c kind ss = ap (λ (o : Option TextSection). is_none o) (section-cut c kind ss) ∙ none-map c (section_at kind ss)

-- ---- the checks of the lists

pub lists-same : (c : Cut) (ss : List TextSection) → missing_lists (cut_all c ss) ≡ missing_lists ss
lists-same c ss = ap (λ (b : Bool). fault_if b MissingSection 0) (none-cut c MandatoryObjects ss)

pub numbers-same : (c : Cut) (ss : List TextSection) → unread_list_numbers (cut_all c ss) ≡ unread_list_numbers ss
numbers-same c ss = ap (λ (ls : List TextSection). flat_map (λ s. flat_map unread_number s.properties) ls) (filter-cut c has_numbers numbers-apart ss)

pub bad-lists-same : (c : Cut) (ss : List TextSection) → all_bad_lists (cut_all c ss) ≡ all_bad_lists ss
bad-lists-same c ss = ap (λ (ls : List TextSection). flat_map (λ s. unless (is_unread_at (codes "SupportedObjects") s) (bad_list s)) ls) (lists-cut c ss)

pub twice-same : (c : Cut) (ss : List TextSection) → all_listed_twice (cut_all c ss) ≡ all_listed_twice ss
twice-same c ss =
    ap (λ (ls : List Listing). flat_map (λ l. unless (not (is_index l.index)) (fault_if (is_listed_before ls l) ListedTwice l.line)) ls) (listings-cut c ss)

missing-same : (c : Cut) (ss : List TextSection) (l : Listing) → missing_section (cut_all c ss) l ≡ missing_section ss l
missing-same c ss l = ap (λ (b : Bool). fault_if b MissingSection l.line) (none-cut c (Object l.index) ss)

pub missing-sections-same : (c : Cut) (ss : List TextSection) → all_missing_sections (cut_all c ss) ≡ all_missing_sections ss
missing-sections-same c ss =
    ap (λ (ls : List Listing). flat_map (λ l. unless (not (is_index l.index && not (is_listed_before ls l))) (missing_section (cut_all c ss) l)) ls) (listings-cut c ss)
    ∙ flat-same _ _ (listings ss) (λ l i. ap (λ (fs : List SheetFault). unless (not (is_sound ss l)) fs) (missing-same c ss l))

unread-lists-same : (c : Cut) (ss : List TextSection) → unread_in_lists (cut_all c ss) ≡ unread_in_lists ss
unread-lists-same c ss = ap (λ (ls : List TextSection). flat_map (λ s. flat_map unread_number s.properties) ls) (lists-cut c ss)

mandatory-listed : (c : Cut) (ss : List TextSection) → missing_mandatory (cut_all c ss) ≡ missing_mandatory ss
mandatory-listed c ss =
    ap (λ (ls : List Listing). fault_if (not (list_all (λ index. list_any (λ l. l.index == index) ls) (0x1000 ∷ 0x1001 ∷ 0x1018 ∷ []))) MissingMandatory 0) (listings-cut c ss)

lists-at-fault : (c : Cut) (ss : List TextSection) → are_lists_at_fault (cut_all c ss) ≡ are_lists_at_fault ss
lists-at-fault c ss =
    let cs = cut_all c ss in
    let lists : bad_lists cs ≡ bad_lists ss = ap (λ (ls : List TextSection). flat_map (λ s. fault_if (option_map_or (is_bad_list s) (count_of s) true) BadList s.line) ls) (lists-cut c ss) in
    let twice : of_listings listed_twice cs ≡ of_listings listed_twice ss = ap (λ (ls : List Listing). flat_map (λ l. fault_if (is_listed_before ls l) ListedTwice l.line) ls) (listings-cut c ss) in
    let missing : of_listings missing_section cs ≡ of_listings missing_section ss =
    ap (λ (ls : List Listing). flat_map (missing_section cs) ls) (listings-cut c ss) ∙ flat-same (missing_section cs) (missing_section ss) (listings ss) (λ l i. missing-same c ss l) in
    ap (λ (fs : List SheetFault). is_found fs || is_found (unread_in_lists cs) || is_found (bad_lists cs) || is_found (of_listings listed_twice cs) || is_found (of_listings missing_section cs)) (lists-same c ss)
    ∙ ap (λ (fs : List SheetFault). is_found (missing_lists ss) || is_found fs || is_found (bad_lists cs) || is_found (of_listings listed_twice cs) || is_found (of_listings missing_section cs)) (unread-lists-same c ss)
    ∙ ap (λ (fs : List SheetFault). is_found (missing_lists ss) || is_found (unread_in_lists ss) || is_found fs || is_found (of_listings listed_twice cs) || is_found (of_listings missing_section cs)) lists
    ∙ ap (λ (fs : List SheetFault). is_found (missing_lists ss) || is_found (unread_in_lists ss) || is_found (bad_lists ss) || is_found fs || is_found (of_listings missing_section cs)) twice
    ∙ ap (λ (fs : List SheetFault). is_found (missing_lists ss) || is_found (unread_in_lists ss) || is_found (bad_lists ss) || is_found (of_listings listed_twice ss) || is_found fs) missing

pub mandatory-same : (c : Cut) (ss : List TextSection) → all_missing_mandatory (cut_all c ss) ≡ all_missing_mandatory ss
mandatory-same c ss =
    ap (λ (b : Bool). unless b (missing_mandatory (cut_all c ss))) (lists-at-fault c ss)
    ∙ ap (λ (fs : List SheetFault). unless (are_lists_at_fault ss) fs) (mandatory-listed c ss)

-- ---- objects and entries

object-cases : (c : Cut) (index : ℕ) (o : Option TextSection)
    → option_map (λ s. record { index = index; section = s }) (option_map (cut c) o) ≡ option_map (cut_object c) (option_map (λ s. record { index = index; section = s }) o)
object-cases c index None = refl
object-cases c index (Some s) = refl

object-cut : (c : Cut) (index : ℕ) (ss : List TextSection) → object_at index (cut_all c ss) ≡ option_map (cut_object c) (object_at index ss)
object-cut c index ss =
    ap (λ (o : Option TextSection). let made : Option ListedObject = option_map (λ s. record { index = index; section = s }) o in made) (section-cut c (Object index) ss)
    ∙ object-cases c index (section_at (Object index) ss)

objects-made : (c : Cut) (ss : List TextSection) (ls : List Listing) → filter_map (λ l. object_at l.index (cut_all c ss)) ls ≡ map (cut_object c) (filter_map (λ l. object_at l.index ss) ls)
objects-made c ss [] = refl
objects-made c ss (l ∷ ls) =
    ap (λ (o : Option ListedObject). cons_option o (filter_map (λ (m : Listing). object_at m.index (cut_all c ss)) ls)) (object-cut c l.index ss)
    ∙ ap (λ (os : List ListedObject). cons_option (option_map (cut_object c) (object_at l.index ss)) os) (objects-made c ss ls)
    ∙ cons-map (cut_object c) (object_at l.index ss) (filter_map (λ (m : Listing). object_at m.index ss) ls)

sound-listings-cut : (c : Cut) (ss : List TextSection) → sound_listings (cut_all c ss) ≡ sound_listings ss
sound-listings-cut c ss = ap (λ (ls : List Listing). filter (λ l. is_index l.index && not (is_listed_before ls l)) ls) (listings-cut c ss)

objects-cut : (c : Cut) (ss : List TextSection) → sound_objects (cut_all c ss) ≡ map (cut_object c) (sound_objects ss)
objects-cut c ss =
    ap (λ (ls : List Listing). filter_map (λ l. object_at l.index (cut_all c ss)) ls) (sound-listings-cut c ss)
    ∙ objects-made c ss (sound_listings ss)

part-cases : (c : Cut) (key : Key) (s : TextSection) (b : Bool)
    → ◌≡◌ {A = Option Entry} (cond b (Some (record { key = key; section = cut c s })) None) (option_map (cut_entry c) (cond b (Some (record { key = key; section = s })) None))
part-cases c key s true = refl
part-cases c key s false = refl

part-cut : (c : Cut) (index : ℕ) (s : TextSection) (kind : SectionKind) → sub_index_in index (cut c s) kind ≡ option_map (cut_entry c) (sub_index_in index s kind)
part-cut c index s (SubIndex key) = part-cases c key s (key.index == index)
part-cut c index s kind = refl

parts-cut : (c : Cut) (ss : List TextSection) (index : ℕ) → sub_indices (cut_all c ss) index ≡ map (cut_entry c) (sub_indices ss index)
parts-cut c [] index = refl
parts-cut c (s ∷ ss) index =
    ap (λ (o : Option Entry). cons_option o (sub_indices (cut_all c ss) index)) (part-cut c index s s.kind)
    ∙ ap (λ (es : List Entry). cons_option (option_map (cut_entry c) (sub_index_in index s s.kind)) es) (parts-cut c ss index)
    ∙ cons-map (cut_entry c) (sub_index_in index s s.kind) (sub_indices ss index)

code-cut : (c : Cut) → IsApart c → (s : TextSection) → object_code (cut c s) ≡ object_code s
code-cut c apart s = ap (λ (o : Option Property). option_map_or property_number o (Some 7)) (key-cut c (codes "ObjectType") apart.object_type s)

checked-cases : (c : Cut) (single : Bool) (ss : List TextSection) (index : ℕ) → cond single [] (sub_indices (cut_all c ss) index) ≡ map (cut_entry c) (cond single [] (sub_indices ss index))
checked-cases c true ss index = refl
checked-cases c false ss index = parts-cut c ss index

checked-cut : (c : Cut) → IsApart c → (ss : List TextSection) (o : ListedObject) → sub_indices_checked (cut_all c ss) (cut_object c o) ≡ map (cut_entry c) (sub_indices_checked ss o)
checked-cut c apart ss o =
    ap (λ (code : Option ℕ). cond (is_one_of single_codes code) [] (sub_indices (cut_all c ss) o.index)) (code-cut c apart o.section)
    ∙ checked-cases c (is_one_of single_codes (object_code o.section)) ss o.index

entries-cases : (c : Cut) (single compound : Bool) (ss : List TextSection) (o : ListedObject)
    → cond single (record { key = record { index = o.index; sub = 0 }; section = cut c o.section } ∷ []) (cond compound (sub_indices (cut_all c ss) o.index) [])
    ≡ map (cut_entry c) (cond single (record { key = record { index = o.index; sub = 0 }; section = o.section } ∷ []) (cond compound (sub_indices ss o.index) []))
entries-cases c true compound ss o = refl
entries-cases c false true ss o = parts-cut c ss o.index
entries-cases c false false ss o = refl

entries-cut : (c : Cut) → IsApart c → (ss : List TextSection) (o : ListedObject) → entries_in (cut_all c ss) (cut_object c o) ≡ map (cut_entry c) (entries_in ss o)
entries-cut c apart ss o =
    ap (λ (code : Option ℕ). let es : List Entry = cond (is_one_of single_codes code) (record { key = record { index = o.index; sub = 0 }; section = cut c o.section } ∷ []) (cond (is_one_of compound_codes code) (sub_indices (cut_all c ss) o.index) []) in es) (code-cut c apart o.section)
    ∙ entries-cases c (is_one_of single_codes (object_code o.section)) (is_one_of compound_codes (object_code o.section)) ss o

all-entries-cut : (c : Cut) → IsApart c → (ss : List TextSection) → sound_entries (cut_all c ss) ≡ map (cut_entry c) (sound_entries ss)
all-entries-cut c apart ss =
    ap (λ (os : List ListedObject). flat_map (entries_in (cut_all c ss)) os) (objects-cut c ss)
    ∙ flat_map-map (entries_in (cut_all c ss)) (cut_object c) (sound_objects ss)
    ∙ flat-same _ _ (sound_objects ss) (λ o i. entries-cut c apart ss o)
    ∙ sym (map-flat (cut_entry c) (entries_in ss) (sound_objects ss))

-- ---- their checks

objects-same : (c : Cut) (check : List TextSection → ListedObject → List SheetFault) (ss : List TextSection) → ((o : ListedObject) → check (cut_all c ss) (cut_object c o) ≡ check ss o)
    → of_sound_objects check (cut_all c ss) ≡ of_sound_objects check ss
objects-same c check ss same =
    ap (λ (os : List ListedObject). flat_map (check (cut_all c ss)) os) (objects-cut c ss)
    ∙ flat_map-map (check (cut_all c ss)) (cut_object c) (sound_objects ss)
    ∙ flat-same _ _ (sound_objects ss) (λ o i. same o)

parts-same : (c : Cut) → IsApart c → (check : Entry → List SheetFault) → ((e : Entry) → check (cut_entry c e) ≡ check e) → (ss : List TextSection) (o : ListedObject)
    → flat_map check (sub_indices_checked (cut_all c ss) (cut_object c o)) ≡ flat_map check (sub_indices_checked ss o)
parts-same c apart check same ss o =
    ap (λ (es : List Entry). flat_map check es) (checked-cut c apart ss o)
    ∙ flat_map-map check (cut_entry c) (sub_indices_checked ss o)
    ∙ flat-same _ _ (sub_indices_checked ss o) (λ e i. same e)

at-key-same : (c : Cut) (found : Property → List SheetFault) (name : List ℕ) → is_named c name ≡ false → (s : TextSection) → at_key found name (cut c s) ≡ at_key found name s
at-key-same c found name apart s = ap (λ (o : Option Property). option_map_or found o []) (key-cut c name apart s)

joined : (us vs xs ys : List SheetFault) → us ≡ vs → xs ≡ ys → us ++ xs ≡ vs ++ ys
joined us vs xs ys same more = ap (λ (l : List SheetFault). l ++ xs) same ∙ ap (λ (l : List SheetFault). vs ++ l) more

pub object-numbers-same : (c : Cut) → IsApart c → (ss : List TextSection) → of_sound_objects unread_object_numbers (cut_all c ss) ≡ of_sound_objects unread_object_numbers ss
object-numbers-same c apart ss =
    objects-same c unread_object_numbers ss
    (λ o. joined _ _ _ _
    (joined _ _ _ _ (at-key-same c unread_number (codes "ObjectType") apart.object_type o.section) (at-key-same c unread_number (codes "CompactSubObj") apart.compact o.section))
    (parts-same c apart (λ e. at_key unread_number (codes "ObjectType") e.section) (λ e. at-key-same c unread_number (codes "ObjectType") apart.object_type e.section) ss o))

type-same : (c : Cut) → IsApart c → (allowed : List ℕ) (s : TextSection) → object_type_found allowed (cut c s) ≡ object_type_found allowed s
type-same c apart allowed s =
    ap (λ (o : Option Property). unless (option_map_or (λ k. is_found (unread_number k)) o false) (other_object_type allowed (cut c s))) (key-cut c (codes "ObjectType") apart.object_type s)
    ∙ ap (λ (fs : List SheetFault). unless (is_unread_at (codes "ObjectType") s) fs) (at-key-same c _ (codes "ObjectType") apart.object_type s)

pub types-same : (c : Cut) → IsApart c → (ss : List TextSection) → of_sound_objects object_types_found (cut_all c ss) ≡ of_sound_objects object_types_found ss
types-same c apart ss =
    objects-same c object_types_found ss
    (λ o. joined _ _ _ _ (type-same c apart (single_codes ++ compound_codes) o.section) (parts-same c apart (λ e. object_type_found single_codes e.section) (λ e. type-same c apart single_codes e.section) ss o))

device-same : (c : Cut) → IsApart c → (o : Option TextSection) → option_map_or (at_key compact_form (codes "CompactPDO")) (option_map (cut c) o) [] ≡ option_map_or (at_key compact_form (codes "CompactPDO")) o []
device-same c apart None = refl
device-same c apart (Some s) = at-key-same c compact_form (codes "CompactPDO") apart.compact_pdo s

pub forms-same : (c : Cut) → IsApart c → (ss : List TextSection) → all_compact_forms (cut_all c ss) ≡ all_compact_forms ss
forms-same c apart ss =
    joined _ _ _ _
    (ap (λ (o : Option TextSection). option_map_or (at_key compact_form (codes "CompactPDO")) o []) (section-cut c DeviceInfo ss) ∙ device-same c apart (section_at DeviceInfo ss))
    (objects-same c (λ sections o. at_key compact_form (codes "CompactSubObj") o.section) ss (λ o. at-key-same c compact_form (codes "CompactSubObj") apart.compact o.section))

any-zero : (c : Cut) (es : List Entry) → list_any (λ e. e.key.sub == 0) (map (cut_entry c) es) ≡ list_any (λ e. e.key.sub == 0) es
any-zero c [] = refl
any-zero c (e ∷ es) = ap (λ (b : Bool). (e.key.sub == 0) || b) (any-zero c es)

pub sub-0-same : (c : Cut) → IsApart c → (ss : List TextSection) → of_sound_objects sub_index_0_found (cut_all c ss) ≡ of_sound_objects sub_index_0_found ss
sub-0-same c apart ss =
    objects-same c sub_index_0_found ss
    (λ o. rw (key-cut c (codes "CompactSubObj") apart.compact o.section, code-cut c apart o.section, parts-cut c ss o.index, any-zero c (sub_indices ss o.index)) refl)

-- ---- and those of entries

pub of-entries-cut : (c : Cut) → IsApart c → (check : Entry → List SheetFault) (ss : List TextSection) → of_sound_entries check (cut_all c ss) ≡ flat_map (λ e. check (cut_entry c e)) (sound_entries ss)
of-entries-cut c apart check ss = ap (λ (es : List Entry). flat_map check es) (all-entries-cut c apart ss) ∙ flat_map-map check (cut_entry c) (sound_entries ss)

-- what is found in an entry stays
pub record EntrySame (c : Cut) (e : Entry) : Type 0 where
  pub key : key_found (cut_entry c e) ≡ key_found e
  pub numbers : unread_entry_numbers (cut_entry c e) ≡ unread_entry_numbers e
  pub bad_type : bad_type (cut_entry c e) ≡ bad_type e
  pub left_out : of_sound_type left_out_type (cut_entry c e) ≡ of_sound_type left_out_type e
  pub access : bad_access (cut_entry c e) ≡ bad_access e
  pub data_type : data_type_of (cut_entry c e) ≡ data_type_of e
  pub is_type_bad : is_data_type_at_fault (cut_entry c e) ≡ is_data_type_at_fault e

bad-option : (c : Cut) → IsApart c → (e : Entry) (o : Option ℕ) → option_map_or (is_bad_type (cut_entry c e)) o false ≡ option_map_or (is_bad_type e) o false
bad-option c apart e None = refl
bad-option c apart e (Some code) = rw (key-cut c (codes "ObjectType") apart.object_type e.section) refl

bad-type-same : (c : Cut) → IsApart c → (e : Entry) → bad_type (cut_entry c e) ≡ bad_type e
bad-type-same c apart e =
    let object_type = key-cut c (codes "ObjectType") apart.object_type e.section in
    let data_type = key-cut c (codes "DataType") apart.data_type e.section in
    let f = cut_entry c e in
    let code : type_code f ≡ type_code e = rw (object_type, data_type) refl in
    let line : type_line f ≡ type_line e = ap (λ (o : Option Property). option_map_or (λ k. k.line) o e.section.line) data_type in
    ap (λ (o : Option ℕ). fault_if (option_map_or (is_bad_type f) o false) BadType (type_line f)) code
    ∙ ap (λ (b : Bool). fault_if b BadType (type_line f)) (bad-option c apart e (type_code e))
    ∙ ap (λ (n : ℕ). fault_if (option_map_or (is_bad_type e) (type_code e) false) BadType n) line

left-out-same : (c : Cut) → IsApart c → (e : Entry) → left_out_type (cut_entry c e) ≡ left_out_type e
left-out-same c apart e = rw (key-cut c (codes "ObjectType") apart.object_type e.section, key-cut c (codes "DataType") apart.data_type e.section) refl

pub entry-same : (c : Cut) → IsApart c → (e : Entry) → EntrySame c e
entry-same c apart e =
    let object_type = key-cut c (codes "ObjectType") apart.object_type e.section in
    let data_type = key-cut c (codes "DataType") apart.data_type e.section in
    let access = key-cut c (codes "AccessType") apart.access e.section in
    let mapping = key-cut c (codes "PDOMapping") apart.mapping e.section in
    let bad = bad-type-same c apart e in
    record {
      key = rw (object_type, data_type, access) refl;
      numbers = rw (data_type, mapping) refl;
      bad_type = bad;
      left_out =
          ap (λ (fs : List SheetFault). unless (is_found fs) (left_out_type (cut_entry c e))) bad
          ∙ ap (λ (fs : List SheetFault). unless (is_data_type_at_fault e) fs) (left-out-same c apart e);
      access = rw access refl;
      data_type = rw (object_type, data_type) refl;
      is_type_bad = ap (λ (fs : List SheetFault). is_found fs) bad;
    }
