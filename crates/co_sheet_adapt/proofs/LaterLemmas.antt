-- Sections one line later hold the same objects and entries, one line later.
use Rattle.std.proofs.Common.{◌≡◌, ℕ, ◌+◌, Bool, true, false, cond, List, [], ◌∷◌, ◌++◌, map, refl, sym, ◌∙◌, ap, codes}
use Rattle.std.specs.Prelude.{Option, Some, None, flat_map, filter, find, option_map, option_and_then, filter_map, nat_le, nat_lt, ◌==◌, ◌&&◌, ℤ}
use Rattle.std.specs.List.{cons_option}
use Rattle.std.specs.Option.{option_map_or, option_or}
use Rattle.std.specs.Result.{result_ok}
use Rattle.std.proofs.lemmas.List.{map-append}
use Rattle.co_value.specs.declared.key.Key.{Key}
use Rattle.co_value.specs.declared.data_type.DataType.{DataType}
use Rattle.co_value.specs.Keys.{is_key_before}
use Rattle.co_value.specs.Types.{code_of}
use Rattle.co_value.specs.declared.data_type.DataType.TheVariants.{Domain as DomainType}
use Rattle.co_profile.specs.declared.access.Access.{Access}
use Rattle.co_profile.specs.declared.access.Access.TheVariants.{Rw}
use Rattle.co_sheet_rows.specs.declared.object.ObjectType.{ObjectType}
use Rattle.co_sheet_text.specs.declared.section_kind.SectionKind.{SectionKind}
use Rattle.co_sheet_text.specs.declared.section_kind.SectionKind.TheVariants.{MandatoryObjects, OptionalObjects, ManufacturerObjects, DummyUsage, DeviceInfo, DeviceCommissioning, Object, SubIndex, PassedOver}
use Rattle.co_sheet_text.specs.Names.{is_list, is_position, number_in, same_kind}
use Rattle.co_sheet_text.specs.Text.{same_name}
use Rattle.co_sheet_text.specs.Sections.{Property, TextSection, property_at, section_at}
use Rattle.co_sheet_text.specs.Properties.{property_number, number_at}
use Rattle.co_sheet.specs.Accepted.{first_fault, sections_in}
use Rattle.co_sheet.specs.Commissioning.{node_id_in, node_id_of}
use Rattle.co_sheet.specs.Content.{Row, row_with, row_of, insert_before, in_order, rows_in, ObjectRow, object_row_with, object_row_of, objects_in, rows_of, objects_of}
use Rattle.co_sheet.specs.Entries.{ListedObject, Entry, access_of, access_with, compound_codes, data_type_of, data_type_with, entries_in, entries_of, is_domain, is_mappable, is_other_than_zero, listed_objects, name_of, object_code, object_type_with, single_codes, sub_index_in, sub_indices}
use Rattle.co_sheet.specs.Limits.{Default, absent, default_of, high_limit, is_numeric, limit_at, low_limit, number_at_type, stated_default, value_property}
use Rattle.co_sheet.specs.ObjectLists.{Listing, count_of, is_one_of, keys_to, listings, listings_in, object_lists}
use Rattle.co_sheet_adapt.specs.Adapted.{adapted_text, object_later, one_later, property_later, row_later}
use Rattle.co_sheet_adapt.proofs.CommentLemmas.{accepted-later}

-- ---- what doesn't look at what a map changes

found-cond : {A : Type 0} (f : A → A) (b : Bool) (x : A) (o : Option A) → cond b (Some (f x)) (option_map f o) ≡ option_map f (cond b (Some x) o)
found-cond f true x o = refl
found-cond f false x o = refl

find-map : {A : Type 0} (f : A → A) (p : A → Bool) → ((x : A) → p (f x) ≡ p x) → (xs : List A) → find p (map f xs) ≡ option_map f (find p xs)
find-map f p same [] = refl
find-map {A} f p same (x ∷ xs) =
    ap (λ (b : Bool). cond b (Some (f x)) (find p (map f xs))) (same x)
    ∙ ap (λ (o : Option A). cond (p x) (Some (f x)) o) (find-map f p same xs)
    ∙ found-cond f (p x) x (find p xs)

kept-cond : {A : Type 0} (f : A → A) (b : Bool) (x : A) (xs : List A) → cond b (f x ∷ map f xs) (map f xs) ≡ map f (cond b (x ∷ xs) xs)
kept-cond f true x xs = refl
kept-cond f false x xs = refl

filter-same : {A : Type 0} (f : A → A) (p : A → Bool) → ((x : A) → p (f x) ≡ p x) → (xs : List A) → filter p (map f xs) ≡ map f (filter p xs)
filter-same f p same [] = refl
filter-same {A} f p same (x ∷ xs) =
    ap (λ (b : Bool). cond b (f x ∷ filter p (map f xs)) (filter p (map f xs))) (same x)
    ∙ ap (λ (r : List A). cond (p x) (f x ∷ r) r) (filter-same f p same xs)
    ∙ kept-cond f (p x) x (filter p xs)

cons-map : {B : Type 0} (g : B → B) (o : Option B) (xs : List B) → cons_option (option_map g o) (map g xs) ≡ map g (cons_option o xs)
cons-map g None xs = refl
cons-map g (Some x) xs = refl

chosen-same : {A B : Type 0} (f : A → A) (g : B → B) (after before : A → Option B) → ((x : A) → after (f x) ≡ option_map g (before x)) → (xs : List A) → filter_map after (map f xs) ≡ map g (filter_map before xs)
chosen-same f g after before same [] = refl
chosen-same {A} {B} f g after before same (x ∷ xs) =
    ap (λ (o : Option B). cons_option o (filter_map after (map f xs))) (same x)
    ∙ ap (λ (r : List B). cons_option (option_map g (before x)) r) (chosen-same f g after before same xs)
    ∙ cons-map g (before x) (filter_map before xs)

joined-same : {A B : Type 0} (f : A → A) (g : B → B) (after before : A → List B) → ((x : A) → after (f x) ≡ map g (before x)) → (xs : List A) → flat_map after (map f xs) ≡ map g (flat_map before xs)
joined-same f g after before same [] = refl
joined-same {A} {B} f g after before same (x ∷ xs) =
    ap (λ (r : List B). r ++ flat_map after (map f xs)) (same x)
    ∙ ap (λ (r : List B). map g (before x) ++ r) (joined-same f g after before same xs)
    ∙ sym (map-append g (before x) (flat_map before xs))

inserted-cond : {A : Type 0} (f : A → A) (b : Bool) (x y : A) (r ys : List A) → cond b (f y ∷ map f r) (f x ∷ f y ∷ map f ys) ≡ map f (cond b (y ∷ r) (x ∷ y ∷ ys))
inserted-cond f true x y r ys = refl
inserted-cond f false x y r ys = refl

insert-same : {A : Type 0} (f : A → A) (less : A → A → Bool) → ((x y : A) → less (f x) (f y) ≡ less x y) → (x : A) (ys : List A) → insert_before less (f x) (map f ys) ≡ map f (insert_before less x ys)
insert-same f less same x [] = refl
insert-same {A} f less same x (y ∷ ys) =
    ap (λ (b : Bool). cond b (f y ∷ insert_before less (f x) (map f ys)) (f x ∷ f y ∷ map f ys)) (same y x)
    ∙ ap (λ (r : List A). cond (less y x) (f y ∷ r) (f x ∷ f y ∷ map f ys)) (insert-same f less same x ys)
    ∙ inserted-cond f (less y x) x y (insert_before less x ys) ys

order-same : {A : Type 0} (f : A → A) (less : A → A → Bool) → ((x y : A) → less (f x) (f y) ≡ less x y) → (xs : List A) → in_order less (map f xs) ≡ map f (in_order less xs)
order-same f less same [] = refl
order-same {A} f less same (x ∷ xs) =
    ap (λ (r : List A). insert_before less (f x) r) (order-same f less same xs)
    ∙ insert-same f less same x (in_order less xs)

-- ---- the properties of a section

property-same : (name : List ℕ) (s : TextSection) → property_at name (one_later s) ≡ option_map property_later (property_at name s)
property-same name s = find-map property_later (λ k. same_name k.name name) (λ k. refl) s.properties

then-same : {B : Type 0} (f : Property → Option B) → ((k : Property) → f (property_later k) ≡ f k) → (o : Option Property) → option_and_then f (option_map property_later o) ≡ option_and_then f o
then-same f same None = refl
then-same f same (Some k) = same k

or-same : {B : Type 0} (f : Property → B) (d : B) → ((k : Property) → f (property_later k) ≡ f k) → (o : Option Property) → option_map_or f (option_map property_later o) d ≡ option_map_or f o d
or-same f d same None = refl
or-same f d same (Some k) = same k

number-same : (name : List ℕ) (s : TextSection) → number_at name (one_later s) ≡ number_at name s
number-same name s =
    ap (λ (o : Option Property). option_and_then property_number o) (property-same name s)
    ∙ then-same property_number (λ k. refl) (property_at name s)

value-of : (o : Option Property) → option_map (λ (k : Property). k.value) (option_map property_later o) ≡ option_map (λ (k : Property). k.value) o
value-of None = refl
value-of (Some k) = refl

name-same : (s : TextSection) → name_of (one_later s) ≡ name_of s
name-same s =
    ap (λ (o : Option Property). option_map (λ (k : Property). k.value) o) (property-same (codes "ParameterName") s)
    ∙ value-of (property_at (codes "ParameterName") s)

code-same : (s : TextSection) → object_code (one_later s) ≡ object_code s
code-same s =
    ap (λ (o : Option Property). option_map_or property_number o (Some 7)) (property-same (codes "ObjectType") s)
    ∙ or-same property_number (Some 7) (λ k. refl) (property_at (codes "ObjectType") s)

section-same : (kind : SectionKind) (sections : List TextSection) → section_at kind (map one_later sections) ≡ option_map one_later (section_at kind sections)
section-same kind sections = find-map one_later (λ s. same_kind s.kind kind) (λ s. refl) sections

-- ---- what the lists name

abbrev listing_later : Listing → Listing
listing_later l = record { index = l.index; line = l.line + 1 }

abbrev listing_of : ℕ → ℕ → Listing
listing_of line n = record { index = n; line = line }

listing-with : (o : Option ℕ) (line : ℕ) → option_map (listing_of (line + 1)) o ≡ option_map listing_later (option_map (listing_of line) o)
listing-with None line = refl
listing-with (Some n) line = refl

abbrev listing_given : Property → Option Listing
listing_given k = option_map (listing_of k.line) (property_number k)

keys-same : (s : TextSection) (o : Option ℕ) → option_map_or (keys_to (one_later s)) o [] ≡ map property_later (option_map_or (keys_to s) o [])
keys-same s None = refl
keys-same s (Some n) = filter-same property_later (λ k. is_position k.name && nat_le (number_in 10 k.name) n) (λ k. refl) s.properties

list-same : (s : TextSection) → listings_in (one_later s) ≡ map listing_later (listings_in s)
list-same s =
    ap (λ (o : Option ℕ). filter_map listing_given (option_map_or (keys_to (one_later s)) o [])) (number-same (codes "SupportedObjects") s)
    ∙ ap (filter_map listing_given) (keys-same s (count_of s))
    ∙ chosen-same property_later listing_later listing_given listing_given (λ k. listing-with (property_number k) k.line) (option_map_or (keys_to s) (count_of s) [])

listings-same : (sections : List TextSection) → listings (map one_later sections) ≡ map listing_later (listings sections)
listings-same sections =
    ap (λ (s : List TextSection). filter (λ (l : Listing). nat_le 0x1000 l.index) (flat_map listings_in s)) (filter-same one_later (λ s. is_list s.kind) (λ s. refl) sections)
    ∙ ap (filter (λ (l : Listing). nat_le 0x1000 l.index)) (joined-same one_later listing_later listings_in listings_in list-same (object_lists sections))
    ∙ filter-same listing_later (λ l. nat_le 0x1000 l.index) (λ l. refl) (flat_map listings_in (object_lists sections))

-- ---- the listed objects and their entries

abbrev listed_later : ListedObject → ListedObject
listed_later o = record { index = o.index; section = one_later o.section }

abbrev listed_with : ℕ → TextSection → ListedObject
listed_with index s = record { index = index; section = s }

listed-with : (index : ℕ) (o : Option TextSection) → option_map (listed_with index) (option_map one_later o) ≡ option_map listed_later (option_map (listed_with index) o)
listed-with index None = refl
listed-with index (Some s) = refl

abbrev listed_in : List TextSection → Listing → Option ListedObject
listed_in sections l = option_map (listed_with l.index) (section_at (Object l.index) sections)

listed-in : (sections : List TextSection) (l : Listing) → listed_in (map one_later sections) (listing_later l) ≡ option_map listed_later (listed_in sections l)
listed-in sections l =
    ap (λ (o : Option TextSection). option_map (listed_with l.index) o) (section-same (Object l.index) sections)
    ∙ listed-with l.index (section_at (Object l.index) sections)

listed-same : (sections : List TextSection) → listed_objects (map one_later sections) ≡ map listed_later (listed_objects sections)
listed-same sections =
    ap (filter_map (listed_in (map one_later sections))) (listings-same sections)
    ∙ chosen-same listing_later listed_later (listed_in (map one_later sections)) (listed_in sections) (listed-in sections) (listings sections)

abbrev entry_later : Entry → Entry
entry_later e = record { key = e.key; section = one_later e.section }

abbrev entry_with : Key → TextSection → Entry
entry_with key s = record { key = key; section = s }

entry-cond : (b : Bool) (key : Key) (s : TextSection) → cond b (Some (entry_with key (one_later s))) None ≡ option_map entry_later (cond b (Some (entry_with key s)) None)
entry-cond true key s = refl
entry-cond false key s = refl

sub-same : (index : ℕ) (s : TextSection) (kind : SectionKind) → sub_index_in index (one_later s) kind ≡ option_map entry_later (sub_index_in index s kind)
sub-same index s MandatoryObjects = refl
sub-same index s OptionalObjects = refl
sub-same index s ManufacturerObjects = refl
sub-same index s DummyUsage = refl
sub-same index s DeviceInfo = refl
sub-same index s DeviceCommissioning = refl
sub-same index s (Object other) = refl
sub-same index s (SubIndex key) = entry-cond (key.index == index) key s
sub-same index s PassedOver = refl

subs-same : (sections : List TextSection) (index : ℕ) → sub_indices (map one_later sections) index ≡ map entry_later (sub_indices sections index)
subs-same sections index =
    chosen-same one_later entry_later (λ s. sub_index_in index s s.kind) (λ s. sub_index_in index s s.kind) (λ s. sub-same index s s.kind) sections

entries-cond : (a b : Bool) (e : Entry) (xs ys : List Entry) → xs ≡ map entry_later ys → cond a (entry_later e ∷ []) (cond b xs []) ≡ map entry_later (cond a (e ∷ []) (cond b ys []))
entries-cond true b e xs ys h = refl
entries-cond false true e xs ys h = h
entries-cond false false e xs ys h = refl

abbrev entries_by : List TextSection → TextSection → ℕ → Option ℕ → List Entry
entries_by sections s index code =
    cond (is_one_of single_codes code) (entry_with (record { index = index; sub = 0 }) s ∷ [])
    (cond (is_one_of compound_codes code) (sub_indices sections index) [])

entries-in : (sections : List TextSection) (o : ListedObject) → entries_in (map one_later sections) (listed_later o) ≡ map entry_later (entries_in sections o)
entries-in sections o =
    ap (entries_by (map one_later sections) (one_later o.section) o.index) (code-same o.section)
    ∙ entries-cond (is_one_of single_codes (object_code o.section)) (is_one_of compound_codes (object_code o.section))
    (entry_with (record { index = o.index; sub = 0 }) o.section) (sub_indices (map one_later sections) o.index) (sub_indices sections o.index) (subs-same sections o.index)

entries-same : (sections : List TextSection) → entries_of (map one_later sections) ≡ map entry_later (entries_of sections)
entries-same sections =
    ap (flat_map (entries_in (map one_later sections))) (listed-same sections)
    ∙ joined-same listed_later entry_later (entries_in (map one_later sections)) (entries_in sections) (entries-in sections) (listed_objects sections)

-- ---- the row of an entry

domain-same : (e : Entry) → is_domain (entry_later e) ≡ is_domain e
domain-same e = ap (is_one_of (2 ∷ [])) (code-same e.section)

abbrev code_with : Bool → Option Property → Option ℕ
code_with is o = option_map_or property_number o (cond is (Some (code_of DomainType)) None)

type-same : (e : Entry) → data_type_of (entry_later e) ≡ data_type_of e
type-same e =
    ap (λ (b : Bool). option_and_then data_type_with (code_with b (property_at (codes "DataType") (one_later e.section)))) (domain-same e)
    ∙ ap (λ (o : Option Property). option_and_then data_type_with (code_with (is_domain e) o)) (property-same (codes "DataType") e.section)
    ∙ ap (option_and_then data_type_with) (or-same property_number (cond (is_domain e) (Some (code_of DomainType)) None) (λ k. refl) (property_at (codes "DataType") e.section))

abbrev access_given : Property → Option Access
access_given k = access_with k.value

abbrev access_by : Bool → Option Property → Option Access
access_by is o = option_map_or access_given o (cond is (Some Rw) None)

access-same : (e : Entry) → access_of (entry_later e) ≡ access_of e
access-same e =
    ap (λ (b : Bool). access_by b (property_at (codes "AccessType") (one_later e.section))) (domain-same e)
    ∙ ap (access_by (is_domain e)) (property-same (codes "AccessType") e.section)
    ∙ or-same access_given (cond (is_domain e) (Some Rw) None) (λ k. refl) (property_at (codes "AccessType") e.section)

abbrev number_given : DataType → Property → Option ℤ
number_given t k = result_ok (number_at_type t k.value)

limit-same : (name : List ℕ) (t : DataType) (e : Entry) → limit_at name t (entry_later e) ≡ limit_at name t e
limit-same name t e =
    ap (λ (o : Option Property). cond (is_numeric t) (option_and_then (number_given t) o) None) (property-same name e.section)
    ∙ ap (λ (o : Option ℤ). cond (is_numeric t) o None) (then-same (number_given t) (λ k. refl) (property_at name e.section))

or-later : (a b : Option Property) → option_or (option_map property_later a) (option_map property_later b) ≡ option_map property_later (option_or a b)
or-later None b = refl
or-later (Some k) b = refl

default-same : (t : DataType) (e : Entry) → default_of t (entry_later e) ≡ default_of t e
default-same t e =
    ap (λ (o : Option Property). option_map_or (stated_default t) (option_or o (property_at (codes "DefaultValue") (one_later e.section))) absent) (property-same (codes "ParameterValue") e.section)
    ∙ ap (λ (o : Option Property). option_map_or (stated_default t) (option_or (option_map property_later (property_at (codes "ParameterValue") e.section)) o) absent) (property-same (codes "DefaultValue") e.section)
    ∙ ap (λ (o : Option Property). option_map_or (stated_default t) o absent) (or-later (property_at (codes "ParameterValue") e.section) (property_at (codes "DefaultValue") e.section))
    ∙ or-same (stated_default t) absent (λ k. refl) (value_property e)

mappable-same : (e : Entry) → is_mappable (entry_later e) ≡ is_mappable e
mappable-same e = ap is_other_than_zero (number-same (codes "PDOMapping") e.section)

abbrev row_by : Entry → DataType → Access → Option ℤ → Option ℤ → Default → Bool → Option (List ℕ) → Row
row_by e t access low high default mappable name = record {
  key = e.key;
  data_type = t;
  access = access;
  low = low;
  high = high;
  default = default;
  mappable = mappable;
  name = name;
  line = e.section.line + 1;
}

row-with : (e : Entry) (t : DataType) (access : Access) → row_with (entry_later e) t access ≡ row_later (row_with e t access)
row-with e t access =
    let later = entry_later e in
    let at = row_by e t access in
    ap (λ (low : Option ℤ). at low (high_limit t later) (default_of t later) (is_mappable later) (name_of later.section)) (limit-same (codes "LowLimit") t e)
    ∙ ap (λ (high : Option ℤ). at (low_limit t e) high (default_of t later) (is_mappable later) (name_of later.section)) (limit-same (codes "HighLimit") t e)
    ∙ ap (λ (d : Default). at (low_limit t e) (high_limit t e) d (is_mappable later) (name_of later.section)) (default-same t e)
    ∙ ap (λ (b : Bool). at (low_limit t e) (high_limit t e) (default_of t e) b (name_of later.section)) (mappable-same e)
    ∙ ap (λ (n : Option (List ℕ)). at (low_limit t e) (high_limit t e) (default_of t e) (is_mappable e) n) (name-same e.section)

row-access : (e : Entry) (t : DataType) (o : Option Access) → option_map (row_with (entry_later e) t) o ≡ option_map row_later (option_map (row_with e t) o)
row-access e t None = refl
row-access e t (Some access) = ap (λ (r : Row). Some r) (row-with e t access)

row-type : (e : Entry) (o : Option DataType) →
    option_and_then (λ (t : DataType). option_map (row_with (entry_later e) t) (access_of (entry_later e))) o
    ≡ option_map row_later (option_and_then (λ (t : DataType). option_map (row_with e t) (access_of e)) o)
row-type e None = refl
row-type e (Some t) =
    ap (λ (o : Option Access). option_map (row_with (entry_later e) t) o) (access-same e) ∙ row-access e t (access_of e)

row-same : (e : Entry) → row_of (entry_later e) ≡ option_map row_later (row_of e)
row-same e =
    ap (λ (o : Option DataType). option_and_then (λ (t : DataType). option_map (row_with (entry_later e) t) (access_of (entry_later e))) o) (type-same e)
    ∙ row-type e (data_type_of e)

abbrev row_less : Row → Row → Bool
row_less r s = is_key_before r.key s.key

rows-same : (sections : List TextSection) → rows_in (map one_later sections) ≡ map row_later (rows_in sections)
rows-same sections =
    ap (λ (es : List Entry). in_order row_less (filter_map row_of es)) (entries-same sections)
    ∙ ap (in_order row_less) (chosen-same entry_later row_later row_of row_of row-same (entries_of sections))
    ∙ order-same row_later row_less (λ x y. refl) (filter_map row_of (entries_of sections))

-- ---- the row of an object

abbrev object_by : ListedObject → ObjectType → Option (List ℕ) → ObjectRow
object_by o t name = record { index = o.index; object_type = t; name = name; line = o.section.line + 1 }

object-with : (o : ListedObject) (t : Option ObjectType) → option_map (object_row_with (listed_later o)) t ≡ option_map object_later (option_map (object_row_with o) t)
object-with o None = refl
object-with o (Some t) =
    ap (λ (n : Option (List ℕ)). Some (object_by o t n)) (name-same o.section)

object-same : (o : ListedObject) → object_row_of (listed_later o) ≡ option_map object_later (object_row_of o)
object-same o =
    ap (λ (code : Option ℕ). option_map (object_row_with (listed_later o)) (option_and_then object_type_with code)) (code-same o.section)
    ∙ object-with o (option_and_then object_type_with (object_code o.section))

abbrev object_less : ObjectRow → ObjectRow → Bool
object_less o p = nat_lt o.index p.index

objects-same : (sections : List TextSection) → objects_in (map one_later sections) ≡ map object_later (objects_in sections)
objects-same sections =
    ap (λ (os : List ListedObject). in_order object_less (filter_map object_row_of os)) (listed-same sections)
    ∙ ap (in_order object_less) (chosen-same listed_later object_later object_row_of object_row_of object-same (listed_objects sections))
    ∙ order-same object_later object_less (λ x y. refl) (filter_map object_row_of (listed_objects sections))

-- ---- the node-ID

abbrev node_in : TextSection → Option ℕ
node_in s = option_and_then node_id_of (property_at (codes "NodeID") s)

node-in : (o : Option TextSection) → option_and_then node_in (option_map one_later o) ≡ option_and_then node_in o
node-in None = refl
node-in (Some s) =
    ap (λ (o : Option Property). option_and_then node_id_of o) (property-same (codes "NodeID") s)
    ∙ then-same node_id_of (λ k. refl) (property_at (codes "NodeID") s)

node-same : (sections : List TextSection) → node_id_in (map one_later sections) ≡ node_id_in sections
node-same sections =
    ap (λ (o : Option TextSection). option_and_then node_in o) (section-same DeviceCommissioning sections)
    ∙ node-in (section_at DeviceCommissioning sections)

-- ---- a text that is accepted

pub accepted-rows : (by text : List ℕ) → first_fault text ≡ None → rows_of (adapted_text by text) ≡ map row_later (rows_of text)
accepted-rows by text e = ap rows_in (accepted-later by text e) ∙ rows-same (sections_in text)

pub accepted-objects : (by text : List ℕ) → first_fault text ≡ None → objects_of (adapted_text by text) ≡ map object_later (objects_of text)
accepted-objects by text e = ap objects_in (accepted-later by text e) ∙ objects-same (sections_in text)

pub accepted-node : (by text : List ℕ) → first_fault text ≡ None → node_id_in (sections_in (adapted_text by text)) ≡ node_id_in (sections_in text)
accepted-node by text e = ap node_id_in (accepted-later by text e) ∙ node-same (sections_in text)
