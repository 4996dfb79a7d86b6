-- PDOs in compact form (CiA 306, compact storage): the communication and mapping objects that no
-- section describes. By its bits CompactPDO says which sub-indices a communication object has; the
-- sheet says no more, so the PDOs aren't valid, their timers are 0, and their mappings have no
-- entries.
use Rattle.std.specs.Prelude.{ℕ, ◌+◌, ◌%◌, ◌/◌, Bool, false, ◌&&◌, ◌||◌, not, ◌==◌, nat_le, nat_lt, if◌then◌else◌, List, [], ◌∷◌, ◌++◌, length, filter, find, flat_map, codes, decimal, Option, Some, None, option_and_then, option_map, unwrap_or}
use Rattle.std.specs.List.{list_any, range_with_len}
use Rattle.std.specs.Option.{option_map_or, option_or}
use Rattle.std.specs.Result.{result_ok}
use Rattle.co_text.specs.Printed.{digits_text}
use Rattle.co_value.specs.declared.key.Key.{Key}
use Rattle.co_sheet_text.specs.declared.section_kind.SectionKind.{SectionKind}
use Rattle.co_sheet_text.specs.declared.section_kind.SectionKind.TheVariants.{DeviceInfo, Object, OptionalObjects}
use Rattle.co_sheet_text.specs.Names.{is_list, number_in, same_kind}
use Rattle.co_sheet_text.specs.Numerals.{is_number_in, unsigned_number}
use Rattle.co_sheet_text.specs.Text.{Line, is_empty, same_name}
use Rattle.co_sheet.specs.ObjectLists.{is_one_of}
use Rattle.co_sheet_changes.specs.declared.change.ChangeKind.TheVariants.{CompactPdo, ListCount}
use Rattle.co_sheet_changes.specs.Groups.{Given, Group, number_in_group, property_in}
use Rattle.co_sheet_changes.specs.Pieces.{Mended, mended, assigned, Piece, added_lines}
use Rattle.co_sheet_adapt.specs.declared.pdo_sections.Part.{Part}
use Rattle.co_sheet_adapt.specs.declared.pdo_sections.Part.TheVariants.{Communication, Mapping, CobId, TransmissionType, InhibitTime, Reserved, EventTimer, SyncStart, MappingCount, MappingWord}
use Rattle.co_sheet_adapt.specs.Compact.{first_section, sub_head, sub_sections}

-- what sections say of PDOs: the sub-indices of their communication objects, bit 0 for sub-index 1,
-- the number of optional objects, the objects that get sections, and those of them that get a place
-- in the list
pub record PdoForm : Type 0 where
  pub subs : ℕ
  pub listed : ℕ
  pub absent : List ℕ
  pub unlisted : List ℕ

abbrev pub is_object_of : ℕ → Group → Bool
is_object_of index g = same_kind g.kind (Object index)

-- of this many objects from an index on, those that have no section
abbrev pub absent_of : List Group → ℕ → ℕ → List ℕ
absent_of groups first count =
    filter (λ index. not (list_any (is_object_of index) groups)) (range_with_len first count)

abbrev pub is_kind : SectionKind → Group → Bool
is_kind kind g = same_kind g.kind kind

abbrev pub group_at : SectionKind → List Group → Option Group
group_at kind groups = find (is_kind kind) groups

-- a number at a name, from one to another
abbrev pub number_within : ℕ → ℕ → List ℕ → Group → Option ℕ
number_within low high name g =
    option_and_then (λ n. if nat_le low n && nat_le n high then Some n else None) (number_in_group name g)

abbrev pub absent_objects : List Group → ℕ → ℕ → List ℕ
absent_objects groups receive transmit =
    absent_of groups 0x1400 receive ++ absent_of groups 0x1600 receive
    ++ absent_of groups 0x1800 transmit ++ absent_of groups 0x1A00 transmit

-- ---- which of them the object lists have

-- the number of a key in decimal digits; zeros before a place of a list are taken out
abbrev pub key_number : List ℕ → Option ℕ
key_number name = if is_number_in 10 name then Some (number_in 10 name) else None

-- a key that a list counts
abbrev pub is_counted : ℕ → List ℕ → Bool
is_counted count name =
    option_map_or (λ n. nat_le 1 n && nat_le n count) (key_number name) false

abbrev pub lists_given : ℕ → ℕ → Option Given → Bool
lists_given count index None = false
lists_given count index (Some given) =
    is_counted count given.name && is_one_of (index ∷ []) (result_ok (unsigned_number given.value))

abbrev pub lists_line : ℕ → ℕ → Line → Bool
lists_line count index line = lists_given count index (property_in line)

-- whether a section is an object list that names an index
abbrev pub count_in : Group → ℕ
count_in g = unwrap_or (number_in_group (codes "SupportedObjects") g) 0

abbrev pub is_in_list : ℕ → Group → Bool
is_in_list index g = is_list g.kind && list_any (lists_line (count_in g) index) g.body

abbrev pub unlisted_of : List Group → List ℕ → List ℕ
unlisted_of groups indices =
    filter (λ index. not (list_any (is_in_list index) groups)) indices

-- ---- the sub-indices of a communication object (CiA 301, 7.5.2.35 and 7.5.2.37)

-- of bit 0 for sub-index 1 on: COB-ID and transmission type are there, and at most sub-index 6
abbrev pub has_needed : ℕ → Bool
has_needed subs = (subs % 4 == 3) && nat_lt subs 64

-- the reserved sub-index 4, and no sub-index 5
abbrev pub ends_reserved : ℕ → Bool
ends_reserved subs = (subs / 8 % 2 == 1) && (subs / 16 % 2 == 0)

-- some sheets count the bits from sub-index 1, others from sub-index 0. Where CiA 301 allows both,
-- it is from sub-index 1; a reserved sub-index 4 in the place of the event timer tells that it is
-- from sub-index 0. None: it is neither
abbrev pub subs_of : ℕ → Option ℕ
subs_of bits =
    if has_needed bits && not (ends_reserved bits) then Some bits
    else if has_needed (bits / 2) then Some (bits / 2)
    else None

abbrev pub form_with : List Group → ℕ → ℕ → List ℕ → PdoForm
form_with groups subs listed absent = record {
  subs = subs;
  listed = listed;
  absent = absent;
  unlisted = unlisted_of groups absent;
}

-- there are 512 PDOs each way at most
abbrev pub form_in : List Group → Group → Group → Option PdoForm
form_in groups info list =
    option_and_then (λ subs.
    option_and_then (λ receive.
    option_and_then (λ transmit.
    option_map (λ listed.
    form_with groups subs listed (absent_objects groups receive transmit))
    (number_within 0 60000 (codes "SupportedObjects") list))
    (number_within 0 512 (codes "NrOfTXPDO") info))
    (number_within 0 512 (codes "NrOfRXPDO") info))
    (option_and_then subs_of (number_within 1 127 (codes "CompactPDO") info))

-- None: there is no compact form, or what it needs isn't there
abbrev pub pdo_form : List Group → Option PdoForm
pdo_form groups =
    option_and_then (λ info. option_and_then (form_in groups info) (group_at OptionalObjects groups))
    (group_at DeviceInfo groups)

-- ---- the lines of [DeviceInfo] and of the list

abbrev pub form_change : PdoForm → List ℕ → Option Mended
form_change form name =
    if same_name name (codes "CompactPDO")
    then Some (mended (CompactPdo (length form.absent) form.subs) (assigned name (codes "0"))) else None

abbrev pub count_change : PdoForm → List ℕ → Option Mended
count_change form name =
    if same_name name (codes "SupportedObjects") && not (is_empty form.unlisted)
    then Some (mended ListCount (assigned name (decimal (form.listed + length form.unlisted))))
    else None

-- a key that the list doesn't count gets a number past those that it counts now
abbrev pub is_past : ℕ → ℕ → Bool
is_past listed n = nat_lt listed n && nat_lt n 0x100000000

abbrev pub key_moved : PdoForm → List ℕ → ℕ → Option Mended
key_moved form value n =
    if is_past form.listed n && not (is_empty form.unlisted)
    then Some (mended ListCount (assigned (decimal (n + length form.unlisted)) value))
    else None

abbrev pub list_change : PdoForm → List ℕ → List ℕ → Option Mended
list_change form name value =
    option_or (count_change form name) (option_and_then (key_moved form value) (key_number name))

abbrev pub pdo_change : Option PdoForm → SectionKind → List ℕ → List ℕ → Option Mended
pdo_change (Some form) DeviceInfo name value = form_change form name
pdo_change (Some form) OptionalObjects name value = list_change form name value
pdo_change form kind name value = None

-- ---- the sections of objects

unfoldable pub object_head : ℕ → List ℕ
object_head index = codes "[" ++ digits_text 16 4 index ++ codes "]\n"

-- the keys of a communication or a mapping object, and of their sub-indices (CiA 301, 7.5.2.35 to
-- 7.5.2.38)
unfoldable pub keys_of : Part → List ℕ
keys_of Communication = codes "ParameterName=PDO communication parameter\nObjectType=0x9\n\n"
keys_of Mapping = codes "ParameterName=PDO mapping parameter\nObjectType=0x9\n\n"
keys_of CobId = codes "ParameterName=COB-ID\nDataType=0x0007\nAccessType=rw\nDefaultValue=0x80000000\n\n"
keys_of TransmissionType = codes "ParameterName=Transmission type\nDataType=0x0005\nAccessType=rw\nDefaultValue=255\n\n"
keys_of InhibitTime = codes "ParameterName=Inhibit time\nDataType=0x0006\nAccessType=rw\nDefaultValue=0\n\n"
keys_of Reserved = codes "ParameterName=Reserved\nDataType=0x0005\nAccessType=rw\nDefaultValue=0\n\n"
keys_of EventTimer = codes "ParameterName=Event timer\nDataType=0x0006\nAccessType=rw\nDefaultValue=0\n\n"
keys_of SyncStart = codes "ParameterName=SYNC start value\nDataType=0x0005\nAccessType=rw\nDefaultValue=0\n\n"
keys_of MappingCount = codes "ParameterName=Number of mapped objects\nDataType=0x0005\nAccessType=rw\nDefaultValue=0\n\n"
keys_of MappingWord = codes "ParameterName=Mapped object\nDataType=0x0007\nAccessType=rw\nDefaultValue=0\n\n"

-- the highest sub-index
abbrev pub highest_of : ℕ → ℕ
highest_of subs =
    if nat_le 32 subs then 6
    else if nat_le 16 subs then 5
    else if nat_le 8 subs then 4
    else if nat_le 4 subs then 3
    else 2

abbrev pub sub_if : Bool → Key → List ℕ → List ℕ
sub_if is key keys = if is then sub_head key ++ keys else []

abbrev pub key_at : ℕ → ℕ → Key
key_at index sub = record { index = index; sub = sub }

unfoldable pub communication_text : ℕ → ℕ → List ℕ
communication_text subs index =
    object_head index ++ keys_of Communication ++ first_section index false (highest_of subs)
    ++ sub_head (key_at index 1) ++ keys_of CobId
    ++ sub_head (key_at index 2) ++ keys_of TransmissionType
    ++ sub_if (subs / 4 % 2 == 1) (key_at index 3) (keys_of InhibitTime)
    ++ sub_if (subs / 8 % 2 == 1) (key_at index 4) (keys_of Reserved)
    ++ sub_if (subs / 16 % 2 == 1) (key_at index 5) (keys_of EventTimer)
    ++ sub_if (subs / 32 % 2 == 1) (key_at index 6) (keys_of SyncStart)

-- room for eight entries
abbrev pub word_section : Key → List ℕ
word_section key = sub_head key ++ keys_of MappingWord

unfoldable pub mapping_text : ℕ → List ℕ
mapping_text index =
    object_head index ++ keys_of Mapping ++ sub_head (key_at index 0) ++ keys_of MappingCount
    ++ sub_sections word_section index 8

abbrev pub is_communication : ℕ → Bool
is_communication index = nat_lt index 0x1600 || (nat_le 0x1800 index && nat_lt index 0x1A00)

abbrev pub object_text : ℕ → ℕ → List ℕ
object_text subs index =
    if is_communication index then communication_text subs index else mapping_text index

-- ---- the places in the list

abbrev pub place_line : ℕ → ℕ → List ℕ
place_line place index = assigned (decimal place) (codes "0x" ++ digits_text 16 4 index)

abbrev pub places_from : ℕ → List ℕ → List ℕ
places_from place [] = []
places_from place (index ∷ indices) = place_line place index ++ places_from (place + 1) indices

-- what is added to a section
abbrev pub pdo_text : Option PdoForm → SectionKind → List ℕ
pdo_text (Some form) DeviceInfo = flat_map (object_text form.subs) form.absent
pdo_text (Some form) OptionalObjects = places_from (form.listed + 1) form.unlisted
pdo_text form kind = []

abbrev pub pdo_added : Option PdoForm → Group → List Piece
pdo_added form g =
    if is_empty (pdo_text form g.kind) then []
    else added_lines g.head.number (pdo_text form g.kind) ∷ []
