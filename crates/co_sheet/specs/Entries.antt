-- The objects that the lists name, and their entries (CiA 306, object description).
use Rattle.std.specs.Prelude.{ℕ, Bool, not, ◌&&◌, ◌==◌, if◌then◌else◌, List, [], ◌∷◌, filter_map, flat_map, find, codes, Option, Some, None, is_some, option_map, option_and_then}
use Rattle.std.specs.Option.{option_map_or}
use Rattle.co_value.specs.declared.key.Key.{Key}
use Rattle.co_value.specs.declared.data_type.DataType.{DataType}
use Rattle.co_value.specs.declared.data_type.DataType.TheVariants.{Boolean, Integer8, Integer16, Integer24, Integer32, Integer40, Integer48, Integer56, Integer64, Unsigned8, Unsigned16, Unsigned24, Unsigned32, Unsigned40, Unsigned48, Unsigned56, Unsigned64, VisibleString, OctetString, Domain as DomainType}
use Rattle.co_value.specs.Types.{code_of}
use Rattle.co_sheet_text.specs.declared.section_kind.SectionKind.{SectionKind}
use Rattle.co_sheet_text.specs.declared.section_kind.SectionKind.TheVariants.{Object, SubIndex}
use Rattle.co_sheet_rows.specs.declared.object.ObjectType.{ObjectType}
use Rattle.co_sheet_rows.specs.declared.object.ObjectType.TheVariants.{Domain, Var, Array, Record}
use Rattle.co_profile.specs.declared.access.Access.{Access}
use Rattle.co_profile.specs.declared.access.Access.TheVariants.{Ro, Wo, Rw, Rwr, Rww, Constant}
use Rattle.co_sheet_text.specs.Text.{same_name}
use Rattle.co_sheet_text.specs.Sections.{TextSection, property_at, section_at}
use Rattle.co_sheet_text.specs.Properties.{property_number, number_at}
use Rattle.co_sheet.specs.ObjectLists.{is_one_of, listings}

-- the object type with this code
abbrev pub object_type_with : ℕ → Option ObjectType
object_type_with code =
    if code == 2 then Some Domain
    else if code == 7 then Some Var
    else if code == 8 then Some Array
    else if code == 9 then Some Record
    else None

-- the object type that a section states, 7 where it states none
abbrev pub object_code : TextSection → Option ℕ
object_code section =
    option_map_or property_number (property_at (codes "ObjectType") section) (Some 7)

-- a DOMAIN or a VAR has one entry, sub-index 0, in its own section; an ARRAY's or a RECORD's are
-- its sub-index sections
abbrev pub single_codes : List ℕ
single_codes = 2 ∷ 7 ∷ []

abbrev pub compound_codes : List ℕ
compound_codes = 8 ∷ 9 ∷ []

-- a listed object, and its section
pub record ListedObject : Type 0 where
  pub index : ℕ
  pub section : TextSection

abbrev pub listed_objects : List TextSection → List ListedObject
listed_objects sections =
    filter_map
    (λ l. option_map (λ s. record { index = l.index; section = s })
    (section_at (Object l.index) sections))
    (listings sections)

-- an entry, and the section that describes it
pub record Entry : Type 0 where
  pub key : Key
  pub section : TextSection

-- the sub-index sections of an object
abbrev pub sub_index_in : ℕ → TextSection → SectionKind → Option Entry
sub_index_in index section (SubIndex key) =
    if key.index == index then Some (record { key = key; section = section }) else None
sub_index_in index section kind = None

abbrev pub sub_indices : List TextSection → ℕ → List Entry
sub_indices sections index = filter_map (λ s. sub_index_in index s s.kind) sections

-- the entries of a listed object, and of all
abbrev pub entries_in : List TextSection → ListedObject → List Entry
entries_in sections o =
    if is_one_of single_codes (object_code o.section)
    then record { key = record { index = o.index; sub = 0 }; section = o.section } ∷ []
    else if is_one_of compound_codes (object_code o.section) then sub_indices sections o.index
    else []

abbrev pub entries_of : List TextSection → List Entry
entries_of sections = flat_map (entries_in sections) (listed_objects sections)

-- object type 2 needs neither DataType nor AccessType
abbrev pub is_domain : Entry → Bool
is_domain e = is_one_of (2 ∷ []) (object_code e.section)

-- the types that are supported
abbrev pub data_types : List DataType
data_types =
    Boolean ∷ Integer8 ∷ Integer16 ∷ Integer24 ∷ Integer32 ∷ Integer40 ∷ Integer48 ∷ Integer56 ∷ Integer64
    ∷ Unsigned8 ∷ Unsigned16 ∷ Unsigned24 ∷ Unsigned32 ∷ Unsigned40 ∷ Unsigned48 ∷ Unsigned56
    ∷ Unsigned64 ∷ VisibleString ∷ OctetString ∷ DomainType ∷ []

-- the data type with this code
abbrev pub data_type_with : ℕ → Option DataType
data_type_with code = find (λ t. code_of t == code) data_types

-- the code of an entry's data type: DOMAIN's where object type 2 states none
abbrev pub type_code : Entry → Option ℕ
type_code e =
    option_map_or property_number (property_at (codes "DataType") e.section)
    (if is_domain e then Some (code_of DomainType) else None)

-- the type of an entry, where its code is one of these
abbrev pub data_type_of : Entry → Option DataType
data_type_of e = option_and_then data_type_with (type_code e)

-- the access that a word means
abbrev pub access_with : List ℕ → Option Access
access_with word =
    if same_name word (codes "ro") then Some Ro
    else if same_name word (codes "wo") then Some Wo
    else if same_name word (codes "rw") then Some Rw
    else if same_name word (codes "rwr") then Some Rwr
    else if same_name word (codes "rww") then Some Rww
    else if same_name word (codes "const") then Some Constant
    else None

-- an entry's access: rw where object type 2 states none
abbrev pub access_of : Entry → Option Access
access_of e =
    option_map_or (λ k. access_with k.value) (property_at (codes "AccessType") e.section)
    (if is_domain e then Some Rw else None)

-- a number that is there and isn't 0
abbrev pub is_other_than_zero : Option ℕ → Bool
is_other_than_zero number = is_some number && not (is_one_of (0 ∷ []) number)

-- whether PDOMapping lets an entry be mapped
abbrev pub is_mappable : Entry → Bool
is_mappable e = is_other_than_zero (number_at (codes "PDOMapping") e.section)

-- ParameterName, where it is given
abbrev pub name_of : TextSection → Option (List ℕ)
name_of section = option_map (λ k. k.value) (property_at (codes "ParameterName") section)
