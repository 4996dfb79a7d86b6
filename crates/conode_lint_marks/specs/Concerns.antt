-- What a section is about, as far as a finding rests on it.
use Rattle.std.specs.Prelude.{ℕ, Bool, true, false, ◌&&◌, ◌||◌, ◌==◌, ◌+◌, List}
use Rattle.std.specs.List.{list_any}
use Rattle.co_value.specs.declared.key.Key.{Key}
use Rattle.co_value.specs.Keys.{same_key}
use Rattle.co_profile.specs.Indices.{is_within, sdo_server}
use Rattle.co_sheet_text.specs.declared.section_kind.SectionKind.{SectionKind}
use Rattle.co_sheet_text.specs.declared.section_kind.SectionKind.TheVariants.{DeviceCommissioning, DeviceInfo, Object, PassedOver, SubIndex}
use Rattle.co_sheet_text_warnings.specs.Ranges.{is_within as is_from_to}
use Rattle.co_dict_build.specs.BuildFaults.{is_channel_key}
use Rattle.conode_lint_marks.specs.declared.concerns.Concern.{Concern}
use Rattle.conode_lint_marks.specs.declared.concerns.Concern.TheVariants.{EntryOf, ObjectOf, PdoOf, Channel, Hiding, SectionLine, CompactPdo, Same, SubsOf}

-- an entry: its own section, or that of its object, which has the type of the object
abbrev pub is_of_entry : Key → SectionKind → Bool
is_of_entry key (Object index) = index == key.index
is_of_entry key (SubIndex sub) = same_key sub key
is_of_entry key kind = false

-- an object or one of its sub-indices
abbrev pub is_of_object : ℕ → SectionKind → Bool
is_of_object index (Object other) = other == index
is_of_object index (SubIndex key) = key.index == index
is_of_object index kind = false

-- two indices are those of the objects of one PDO (CiA 301, 7.5.2.35 to 7.5.2.38)
abbrev pub is_same_pdo : ℕ → ℕ → Bool
is_same_pdo index other = (index == other) || (index + 0x200 == other) || (other + 0x200 == index)

-- an object of a PDO or one of its sub-indices
abbrev pub is_of_pdo : ℕ → SectionKind → Bool
is_of_pdo index (Object other) = is_same_pdo index other
is_of_pdo index (SubIndex key) = is_same_pdo index key.index
is_of_pdo index kind = false

-- an SDO channel, whose words decide which identifiers are free
abbrev pub is_of_channel : SectionKind → Bool
is_of_channel (Object index) = is_within sdo_server index
is_of_channel (SubIndex key) = is_channel_key key
is_of_channel kind = false

-- something that isn't found may be there: an object list, DummyUsage, the compact form of PDOs in
-- DeviceInfo or a section line is at fault
abbrev pub hides : SectionKind → Bool
hides (Object index) = false
hides (SubIndex key) = false
hides DeviceCommissioning = false
hides kind = true

-- a section line, which may be that of any section
abbrev pub is_passed_over : SectionKind → Bool
is_passed_over PassedOver = true
is_passed_over kind = false

-- CompactPDO says whether the sheet lacks PDOs
abbrev pub is_info : SectionKind → Bool
is_info DeviceInfo = true
is_info kind = false

-- the same object or sub-index
abbrev pub is_same : SectionKind → SectionKind → Bool
is_same (Object index) (Object other) = index == other
is_same (SubIndex key) (SubIndex other) = same_key key other
is_same kind other = false

-- a sub-index of an object, from one to another
abbrev pub is_sub_of : ℕ → ℕ → ℕ → SectionKind → Bool
is_sub_of index first last (SubIndex key) = (key.index == index) && is_from_to first last key.sub
is_sub_of index first last kind = false

-- ---- any of these

abbrev pub concerns : Concern → SectionKind → Bool
concerns (EntryOf key) kind = is_of_entry key kind
concerns (ObjectOf index) kind = is_of_object index kind
concerns (PdoOf index) kind = is_of_pdo index kind
concerns Channel kind = is_of_channel kind
concerns Hiding kind = hides kind
concerns SectionLine kind = is_passed_over kind
concerns CompactPdo kind = is_info kind
concerns (Same other) kind = is_same other kind
concerns (SubsOf index first last) kind = is_sub_of index first last kind

abbrev pub is_any : Concern → List SectionKind → Bool
is_any concern kinds = list_any (concerns concern) kinds
