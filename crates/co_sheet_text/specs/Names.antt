-- The names of sections and of the properties that are read in them (CiA 306, object lists,
-- object description, dummy usage, device commissioning).
use Rattle.std.specs.Prelude.{ℕ, ◌+◌, ◌*◌, Bool, true, false, ◌&&◌, ◌||◌, not, ◌==◌, nat_le, if◌then◌else◌, List, [], ◌∷◌, length, take, drop, fold, take_while, codes}
use Rattle.std.specs.List.{list_any, list_all, prefix_len}
use Rattle.std.specs.Char.{is_digit, digit_value}
use Rattle.co_sheet_text.specs.declared.section_kind.SectionKind.{SectionKind}
use Rattle.co_sheet_text.specs.declared.section_kind.SectionKind.TheVariants.{MandatoryObjects, OptionalObjects, ManufacturerObjects, DummyUsage, DeviceInfo, DeviceCommissioning, Object, SubIndex, PassedOver}
use Rattle.co_sheet_text.specs.Text.{same_name, is_empty}

-- the number that digits of a base write
abbrev pub number_in : ℕ → List ℕ → ℕ
number_in base digits = fold (λ n digit. base * n + digit_value digit) 0 digits

-- a digit, or a letter up to F in either case
abbrev pub is_hexadecimal_digit : ℕ → Bool
is_hexadecimal_digit c = is_digit c 16

-- from 1 to this many hexadecimal digits, and nothing else
abbrev pub is_hexadecimal_up_to : ℕ → List ℕ → Bool
is_hexadecimal_up_to most text =
    not (is_empty text) && nat_le (length text) most && list_all is_hexadecimal_digit text

-- `1018sub1`: an index of up to four digits, `sub`, and a sub-index of up to two
abbrev pub sub_index_kind : List ℕ → List ℕ → SectionKind
sub_index_kind index rest =
    if is_hexadecimal_up_to 4 index && same_name (take 3 rest) (codes "sub")
    && is_hexadecimal_up_to 2 (drop 3 rest)
    then SubIndex (record { index = number_in 16 index; sub = number_in 16 (drop 3 rest) })
    else PassedOver

-- CiA 306 spells the section `DeviceComissioning`; the other spelling names the same one
abbrev pub is_commissioning : List ℕ → Bool
is_commissioning name =
    same_name name (codes "DeviceComissioning") || same_name name (codes "DeviceCommissioning")

-- what a section is about, by its name
abbrev pub kind_of : List ℕ → SectionKind
kind_of name =
    if same_name name (codes "MandatoryObjects") then MandatoryObjects
    else if same_name name (codes "OptionalObjects") then OptionalObjects
    else if same_name name (codes "ManufacturerObjects") then ManufacturerObjects
    else if same_name name (codes "DummyUsage") then DummyUsage
    else if same_name name (codes "DeviceInfo") then DeviceInfo
    else if is_commissioning name then DeviceCommissioning
    else if is_hexadecimal_up_to 4 name then Object (number_in 16 name)
    else sub_index_kind (take_while is_hexadecimal_digit name)
    (drop (prefix_len is_hexadecimal_digit name) name)

-- two names are one section where index and sub-index agree, however they are spelled
abbrev pub same_kind : SectionKind → SectionKind → Bool
same_kind MandatoryObjects MandatoryObjects = true
same_kind OptionalObjects OptionalObjects = true
same_kind ManufacturerObjects ManufacturerObjects = true
same_kind DummyUsage DummyUsage = true
same_kind DeviceInfo DeviceInfo = true
same_kind DeviceCommissioning DeviceCommissioning = true
same_kind (Object index) (Object other) = index == other
same_kind (SubIndex key) (SubIndex other) = (key.index == other.index) && (key.sub == other.sub)
same_kind PassedOver PassedOver = true
same_kind kind other = false

-- a section that isn't read is passed over with its lines
abbrev pub is_read : SectionKind → Bool
is_read kind = not (same_kind kind PassedOver)

-- the object lists
abbrev pub is_list : SectionKind → Bool
is_list kind = same_kind kind MandatoryObjects || same_kind kind OptionalObjects
    || same_kind kind ManufacturerObjects

-- a place in an object list: a decimal number from 1, without leading zeros
abbrev pub is_position : List ℕ → Bool
is_position [] = false
is_position (digit ∷ digits) = list_all (λ c. is_digit c 10) (digit ∷ digits) && not (digit == 48)

-- the names that are read in objects and sub-indices
abbrev pub object_names : List (List ℕ)
object_names =
    codes "ParameterName" ∷ codes "ObjectType" ∷ codes "DataType" ∷ codes "AccessType"
    ∷ codes "LowLimit" ∷ codes "HighLimit" ∷ codes "DefaultValue" ∷ codes "ParameterValue"
    ∷ codes "PDOMapping" ∷ codes "SubNumber" ∷ codes "CompactSubObj" ∷ []

-- the names that are read in a section
abbrev pub read_names : SectionKind → List (List ℕ)
read_names DummyUsage =
    codes "Dummy0002" ∷ codes "Dummy0003" ∷ codes "Dummy0004" ∷ codes "Dummy0005"
    ∷ codes "Dummy0006" ∷ codes "Dummy0007" ∷ []
read_names DeviceInfo = codes "CompactPDO" ∷ []
read_names DeviceCommissioning = codes "NodeID" ∷ []
read_names (Object index) = object_names
read_names (SubIndex key) = object_names
read_names PassedOver = []
read_names list = codes "SupportedObjects" ∷ []

-- whether a property of this name is read in a section; the others are passed over
abbrev pub is_read_name : SectionKind → List ℕ → Bool
is_read_name kind name =
    list_any (same_name name) (read_names kind) || (is_list kind && is_position name)
