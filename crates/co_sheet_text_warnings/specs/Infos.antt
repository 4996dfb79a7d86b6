-- What FileInfo and DeviceInfo say (CiA 306-1, file information, device information).
use Rattle.std.specs.Prelude.{
  ℕ,
  ◌==◌,
  Bool,
  true,
  false,
  ◌&&◌,
  ◌||◌,
  if◌then◌else◌,
  List,
  [],
  ◌∷◌,
  ◌++◌,
  length,
  map,
  take,
  drop,
  count_by,
  codes,
  find,
  nat_le,
  is_none,
  is_some,
  Option,
  option_and_then,
  Result,
  Ok,
  Err,
}
use Rattle.std.specs.List.{list_any, before_first, after_first}
use Rattle.std.specs.Option.{option_map_or}
use Rattle.std.specs.Result.{result_ok}
use Rattle.co_text.specs.Texts.{decimal_in}
use Rattle.co_sheet_text.specs.declared.section_kind.SectionKind.{SectionKind}
use Rattle.co_sheet_text.specs.declared.section_kind.SectionKind.TheVariants.{Object}
use Rattle.co_sheet_text.specs.declared.numeral.NumeralFault.{NumeralFault}
use Rattle.co_sheet_text.specs.declared.numeral.NumeralFault.TheVariants.{Malformed, Ambiguous}
use Rattle.co_sheet_text.specs.Names.{number_in}
use Rattle.co_sheet_text.specs.Numerals.{is_number_in, unsigned_number}
use Rattle.co_sheet_text.specs.Sections.{TextSection}
use Rattle.co_sheet_text.specs.Text.{same_name}
use Rattle.co_sheet.specs.Entries.{is_other_than_zero}
use Rattle.co_sheet.specs.ObjectLists.{is_listed}
use Rattle.co_sheet_text_warnings.specs.declared.keys.Topic.{Topic}
use Rattle.co_sheet_text_warnings.specs.declared.keys.Topic.TheVariants.{FileInfo, DeviceInfo}
use Rattle.co_sheet_text_warnings.specs.declared.known_key.KnownKey.{KnownKey}
use Rattle.co_sheet_text_warnings.specs.declared.known_key.KnownKey.TheVariants as key
use Rattle.co_sheet_text_warnings.specs.Keys.{WrittenKey, topic_of}
use Rattle.co_sheet_text_warnings.specs.KnownKeys.{has_text}
use Rattle.co_sheet_text_warnings.specs.Ranges.{is_within}

-- the first key of this name in a section of FileInfo, or of DeviceInfo
abbrev pub is_info : Topic → Topic → Bool
is_info FileInfo FileInfo = true
is_info DeviceInfo DeviceInfo = true
is_info info topic = false

abbrev pub is_key : Topic → KnownKey → WrittenKey → Bool
is_key info known k = is_info info k.topic && has_text k.name known

abbrev pub key_at : Topic → List WrittenKey → KnownKey → Option WrittenKey
key_at info keys known = find (is_key info known) keys

-- ---- what is missing

-- the keys that must be there
abbrev pub file_keys : List KnownKey
file_keys =
    key.FileName ∷ key.FileVersion ∷ key.FileRevision ∷ key.Description ∷ key.CreationTime
    ∷ key.CreationDate ∷ key.CreatedBy ∷ key.ModificationTime ∷ key.ModificationDate
    ∷ key.ModifiedBy ∷ []

abbrev pub device_keys : List KnownKey
device_keys =
    key.VendorName ∷ key.VendorNumber ∷ key.ProductName ∷ key.ProductNumber ∷ key.RevisionNumber
    ∷ key.OrderCode ∷ key.BaudRate10 ∷ key.BaudRate20 ∷ key.BaudRate50 ∷ key.BaudRate125
    ∷ key.BaudRate250 ∷ key.BaudRate500 ∷ key.BaudRate800 ∷ key.BaudRate1000
    ∷ key.SimpleBootUpMaster ∷ key.SimpleBootUpSlave ∷ key.Granularity
    ∷ key.DynamicChannelsSupported ∷ key.GroupMessaging ∷ key.NrOfRxPdo ∷ key.NrOfTxPdo
    ∷ key.LssSupported ∷ []

abbrev pub is_missing : Topic → List WrittenKey → KnownKey → Bool
is_missing info keys known = is_none (key_at info keys known)

abbrev pub lacks_any : Topic → List WrittenKey → List KnownKey → Bool
lacks_any info keys required = list_any (is_missing info keys) required

-- of each whether it is missing
abbrev pub missing_each : Topic → List WrittenKey → List KnownKey → List Bool
missing_each info keys required = map (is_missing info keys) required

-- the line of the section, 0 where there is none
abbrev pub info_line : Topic → List TextSection → ℕ
info_line info sections =
    option_map_or (λ s. s.line) (find (λ s. is_info info (topic_of s.name)) sections) 0

abbrev pub missing_keys :
    Topic → List WrittenKey → List TextSection → List KnownKey → List ℕ
missing_keys info keys sections required =
    if lacks_any info keys required then info_line info sections ∷ [] else []

-- ---- numbers of DeviceInfo

abbrev pub key_number : WrittenKey → Option ℕ
key_number k = result_ok (unsigned_number k.value)

-- a number from a least to a most, both included
abbrev pub is_from_to : ℕ × ℕ → ℕ → Bool
is_from_to range n = nat_le range.0 n && nat_le n range.1

-- digits of a base that write such a number
abbrev pub writes : ℕ → ℕ × ℕ → List ℕ → Bool
writes base range text = is_number_in base text && is_from_to range (number_in base text)

-- A text that reads so is such a number. A leading zero may mean octal to the tool that wrote it:
-- either reading may be it. Another text that can't be read isn't.
abbrev pub is_read_as : ℕ × ℕ → List ℕ → Result ℕ NumeralFault → Bool
is_read_as range text (Ok n) = is_from_to range n
is_read_as range text (Err Ambiguous) = writes 10 range text || writes 8 range text
is_read_as range text (Err Malformed) = false

-- a key that isn't such a number
abbrev pub other_than : ℕ × ℕ → WrittenKey → List ℕ
other_than range k =
    if is_read_as range k.value (unsigned_number k.value) then [] else k.line ∷ []

abbrev pub other_number_at : List WrittenKey → KnownKey → ℕ × ℕ → List ℕ
other_number_at keys known range =
    option_map_or (other_than range) (key_at DeviceInfo keys known) []

-- the number of objects in a range of indices
abbrev pub is_object_within : ℕ → ℕ → SectionKind → Bool
is_object_within low high (Object index) = is_within low high index
is_object_within low high kind = false

abbrev pub object_count : ℕ → ℕ → List TextSection → ℕ
object_count low high sections = count_by (λ s. is_object_within low high s.kind) sections

-- the same, of those that the lists name
abbrev pub is_listed_within : List TextSection → ℕ → ℕ → SectionKind → Bool
is_listed_within all low high (Object index) = is_within low high index && is_listed all index
is_listed_within all low high kind = false

abbrev pub listed_count : List TextSection → ℕ → ℕ → List TextSection → ℕ
listed_count all low high sections =
    count_by (λ s. is_listed_within all low high s.kind) sections

-- from the number of those that the lists name to that of all: whether one that no list names is the
-- device's isn't known, and Unlisted is about it
abbrev pub counts_between : ℕ → ℕ → List TextSection → ℕ × ℕ
counts_between low high sections =
    (listed_count sections low high sections, object_count low high sections)

-- PDOs in compact form have no sections
abbrev pub has_compact_pdos : List WrittenKey → Bool
has_compact_pdos keys =
    is_other_than_zero (option_and_then key_number (key_at DeviceInfo keys key.CompactPdo))

abbrev pub other_counts : List WrittenKey → ℕ × ℕ → ℕ × ℕ → List ℕ
other_counts keys receive transmit =
    if has_compact_pdos keys then []
    else other_number_at keys key.NrOfRxPdo receive
    ++ other_number_at keys key.NrOfTxPdo transmit

abbrev pub pdo_counts : List WrittenKey → List TextSection → List ℕ
pdo_counts keys sections =
    other_counts keys (counts_between 0x1400 0x15FF sections)
    (counts_between 0x1800 0x19FF sections)

-- ---- dates and times of FileInfo

-- this many decimal digits, of a number in a range
abbrev pub is_number_of : ℕ → ℕ → ℕ → List ℕ → Bool
is_number_of digits least most text =
    (length text == digits) && is_some (decimal_in least most text)

abbrev pub is_dash : ℕ → Bool
is_dash b = b == 45

abbrev pub is_colon : ℕ → Bool
is_colon b = b == 58

-- `dd-yyyy`, and `mm-dd-yyyy`
abbrev pub is_day_and_year : List ℕ → Bool
is_day_and_year text =
    list_any is_dash text && is_number_of 2 1 31 (before_first is_dash text)
    && is_number_of 4 0 9999 (after_first is_dash text)

abbrev pub is_date : List ℕ → Bool
is_date text =
    list_any is_dash text && is_number_of 2 1 12 (before_first is_dash text)
    && is_day_and_year (after_first is_dash text)

-- `mmAM` or `mmPM`, and `hh:mmAM`
abbrev pub is_minute : List ℕ → Bool
is_minute text =
    is_number_of 2 0 59 (take 2 text)
    && (same_name (drop 2 text) (codes "AM") || same_name (drop 2 text) (codes "PM"))

abbrev pub is_time : List ℕ → Bool
is_time text =
    list_any is_colon text && is_number_of 2 1 12 (before_first is_colon text)
    && is_minute (after_first is_colon text)

-- a key of FileInfo in another format
abbrev pub other_format : (List ℕ → Bool) → List WrittenKey → KnownKey → List ℕ
other_format is_format keys known =
    option_map_or (λ k. if is_format k.value then [] else k.line ∷ [])
    (key_at FileInfo keys known) []

abbrev pub date_formats : List WrittenKey → List ℕ
date_formats keys =
    other_format is_time keys key.CreationTime ++ other_format is_date keys key.CreationDate
    ++ other_format is_time keys key.ModificationTime
    ++ other_format is_date keys key.ModificationDate
