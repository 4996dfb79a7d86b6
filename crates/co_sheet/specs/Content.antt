-- What a sheet holds, by the sections of its text: its objects, entries, section lines, notes,
-- dummies and node-ID (CiA 306).
use Rattle.std.specs.Prelude.{◌≡◌, ℕ, ◌-◌, Bool, false, ◌&&◌, nat_lt, nat_le, if◌then◌else◌, List, [], ◌∷◌, map, filter_map, codes, ℤ, Option, None, option_map, option_and_then, slice_get, unwrap_or}
use Rattle.co_value.specs.declared.key.Key.{Key}
use Rattle.co_value.specs.declared.data_type.DataType.{DataType}
use Rattle.co_value.specs.Keys.{is_key_before}
use Rattle.co_sheet_text.specs.declared.section_kind.SectionKind.TheVariants.{DummyUsage}
use Rattle.co_sheet_rows.specs.declared.object.ObjectType.{ObjectType}
use Rattle.co_profile.specs.declared.access.Access.{Access}
use Rattle.co_sheet_rows.specs.declared.note.Note.{Note}
use Rattle.co_sheet_text.specs.Sections.{TextSection, section_at}
use Rattle.co_sheet_text.specs.Properties.{number_at}
use Rattle.co_sheet.specs.ObjectLists.{is_one_of, listings}
use Rattle.co_sheet.specs.Entries.{ListedObject, listed_objects, object_type_with, object_code, Entry, entries_of, data_type_of, access_of, is_mappable, name_of}
use Rattle.co_sheet.specs.Limits.{Default, low_limit, high_limit, default_of}
use Rattle.co_sheet.specs.Commissioning.{node_id_in}
use Rattle.co_sheet.specs.Notes.{notes_of}
use Rattle.co_sheet.specs.Checks.{checks}
use Rattle.co_sheet.specs.Accepted.{first_found, sections_in, IsAccepted}

-- an entry, without where its texts lie in memory
pub record Row : Type 0 where
  pub key : Key
  pub data_type : DataType
  pub access : Access
  pub low : Option ℤ
  pub high : Option ℤ
  pub default : Default
  pub mappable : Bool
  pub name : Option (List ℕ)
  pub line : ℕ

-- the row of an entry, by its type and its access
abbrev pub row_with : Entry → DataType → Access → Row
row_with e t access = record {
  key = e.key;
  data_type = t;
  access = access;
  low = low_limit t e;
  high = high_limit t e;
  default = default_of t e;
  mappable = is_mappable e;
  name = name_of e.section;
  line = e.section.line;
}

-- the row of an entry; in an accepted text each has one
abbrev pub row_of : Entry → Option Row
row_of e = option_and_then (λ t. option_map (row_with e t) (access_of e)) (data_type_of e)

-- a value at its place among values in increasing order
abbrev pub insert_before : {X : Type 0} → (X → X → Bool) → X → List X → List X
insert_before is_before x [] = x ∷ []
insert_before is_before x (y ∷ ys) =
    if is_before y x then y ∷ insert_before is_before x ys else x ∷ y ∷ ys

-- values in increasing order
abbrev pub in_order : {X : Type 0} → (X → X → Bool) → List X → List X
in_order is_before [] = []
in_order is_before (x ∷ xs) = insert_before is_before x (in_order is_before xs)

-- rows in increasing key, and those of all entries
abbrev pub rows_in_order : List Row → List Row
rows_in_order rows = in_order (λ r s. is_key_before r.key s.key) rows

abbrev pub rows_in : List TextSection → List Row
rows_in sections = rows_in_order (filter_map row_of (entries_of sections))

-- an object, without where its name lies in memory
pub record ObjectRow : Type 0 where
  pub index : ℕ
  pub object_type : ObjectType
  pub name : Option (List ℕ)
  pub line : ℕ

-- the row of an object, by its type
abbrev pub object_row_with : ListedObject → ObjectType → ObjectRow
object_row_with o t =
    record { index = o.index; object_type = t; name = name_of o.section; line = o.section.line }

-- the row of an object; in an accepted text each has one
abbrev pub object_row_of : ListedObject → Option ObjectRow
object_row_of o =
    option_map (object_row_with o) (option_and_then object_type_with (object_code o.section))

-- objects in increasing index, and the rows of all listed objects
abbrev pub objects_in_order : List ObjectRow → List ObjectRow
objects_in_order objects = in_order (λ o p. nat_lt o.index p.index) objects

abbrev pub objects_in : List TextSection → List ObjectRow
objects_in sections = objects_in_order (filter_map object_row_of (listed_objects sections))

-- a section line of a text
pub record SectionName : Type 0 where
  pub name : List ℕ
  pub line : ℕ

-- the section lines, in their order, those that are passed over too
abbrev pub section_names_in : List TextSection → List SectionName
section_names_in sections = map (λ s. record { name = s.name; line = s.line }) sections

-- whether DummyUsage has 1 at a key
abbrev pub is_dummy_key : List TextSection → List ℕ → Bool
is_dummy_key sections name =
    is_one_of (1 ∷ []) (option_and_then (number_at name) (section_at DummyUsage sections))

-- which of the dummy entries 0002h to 0007h may be mapped (CiA 306, dummy usage)
abbrev pub dummies_in : List TextSection → List Bool
dummies_in sections =
    is_dummy_key sections (codes "Dummy0002") ∷ is_dummy_key sections (codes "Dummy0003")
    ∷ is_dummy_key sections (codes "Dummy0004") ∷ is_dummy_key sections (codes "Dummy0005")
    ∷ is_dummy_key sections (codes "Dummy0006") ∷ is_dummy_key sections (codes "Dummy0007") ∷ []

-- whether an index is a dummy entry that may be mapped
abbrev pub is_dummy : List Bool → ℕ → Bool
is_dummy dummies index = nat_le 2 index && unwrap_or (slice_get dummies (index - 2)) false

-- what a sheet holds
pub record SheetContent : Type 0 where
  pub objects : List ObjectRow
  pub rows : List Row
  pub sections : List SectionName
  pub notes : List Note
  pub dummies : List Bool
  pub node_id : Option ℕ

-- what a sheet holds, by the sections of its text
abbrev pub content_of : List TextSection → SheetContent
content_of sections = record {
  objects = objects_in sections;
  rows = rows_in sections;
  sections = section_names_in sections;
  notes = notes_of sections;
  dummies = dummies_in sections;
  node_id = node_id_in sections;
}

-- no check finds anything in sections, and this is what their sheet holds
pub record IsSheetOf (sections : List TextSection) (sheet : SheetContent) : Type 0 where
  pub accepted : first_found checks sections ≡ None
  pub content : sheet ≡ content_of sections

-- the text is a data sheet, and this is what it holds
pub record IsSheet (text : List ℕ) (sheet : SheetContent) : Type 0 where
  pub accepted : IsAccepted text
  pub content : sheet ≡ content_of (sections_in text)

-- the entries and the objects of a text
abbrev pub rows_of : List ℕ → List Row
rows_of text = rows_in (sections_in text)

abbrev pub objects_of : List ℕ → List ObjectRow
objects_of text = objects_in (sections_in text)

-- the keys of the entries, in increasing order
abbrev pub keys_in : List TextSection → List Key
keys_in sections = in_order is_key_before (map (λ e. e.key) (entries_of sections))

-- the indices that the lists name from 1000h on, in increasing order
abbrev pub indices_in : List TextSection → List ℕ
indices_in sections = in_order nat_lt (map (λ l. l.index) (listings sections))

-- nothing of sections is left out: each entry has its row, and each index that the lists name an
-- object
pub record IsWholeOf (sections : List TextSection) (sheet : SheetContent) : Type 0 where
  pub keys : map (λ r. r.key) sheet.rows ≡ keys_in sections
  pub indices : map (λ o. o.index) sheet.objects ≡ indices_in sections

-- the same of a text
abbrev pub IsWhole : List ℕ → SheetContent → Type 0
IsWhole text sheet = IsWholeOf (sections_in text) sheet
