-- What a mapping says of data: each part is the bits at its offset (CiA 301, 7.2.2.1 and 7.5.2.36).
use Rattle.std.specs.Prelude.{ℕ, ◌+◌, ◌-◌, ◌*◌, ◌/◌, ◌%◌, ◌^◌, ◌==◌, nat_lt, nat_le, min, Bool, ◌&&◌, if◌then◌else◌, List, [], ◌∷◌, ◌++◌, length, take, drop, slice_index, codes, decimal, Option, None, is_some, unwrap_or}
use Rattle.std.specs.List.{flat_map}
use Rattle.std.specs.Option.{option_map_or}
use Rattle.co_text.specs.Printed.{byte_text}
use Rattle.co_value.specs.declared.data_type.DataType.{DataType}
use Rattle.co_value.specs.declared.key.Key.{Key}
use Rattle.co_value.specs.KeyTexts.{key_text}
use Rattle.co_value.specs.Numbers.{low_bytes, unsigned_of}
use Rattle.co_value.specs.Types.{width_of}
use Rattle.co_sheet.specs.Content.{Row}
use Rattle.co_sheet_changes.specs.Names.{entry_of}
use Rattle.conode_text.specs.Filled.{filled}
use Rattle.conode_explain_cob_ids.specs.Buses.{Bus}
use Rattle.conode_explain_cob_ids.specs.Devices.{Device, device_at}
use Rattle.conode_explain_pdo.specs.Content.{Mapping}
use Rattle.conode_explain_pdo.specs.KnownEntries.{known_text}

-- ---- a word of a mapping: index, sub-index and length in bits

abbrev pub word_key : ℕ → Key
word_key word = record { index = word / 65536; sub = word / 256 % 256 }

abbrev pub word_bits : ℕ → ℕ
word_bits word = word % 256

-- the bits of all words
abbrev pub total_bits : List ℕ → ℕ
total_bits [] = 0
total_bits (word ∷ words) = word_bits word + total_bits words

-- the bytes that so many bits need
abbrev pub bytes_for : ℕ → ℕ
bytes_for bits = (bits + 7) / 8

-- ---- a part of data

-- the bits of data from an offset on, as a number
abbrev pub bits_at : List ℕ → ℕ → ℕ → ℕ
bits_at bytes offset bits = unsigned_of bytes / 2 ^ offset % 2 ^ bits

-- the same in as few bytes as they need
unfoldable pub part_bytes : List ℕ → ℕ → ℕ → List ℕ
part_bytes bytes offset bits = low_bytes (bytes_for bits) (bits_at bytes offset bits)

-- a data type in place of an entry: a gap, 0001h to 001Fh (CiA 301, 7.4.7)
abbrev pub is_gap : Key → Bool
is_gap key = (nat_lt 0 key.index && nat_lt key.index 0x20) && (key.sub == 0)

-- an entry of a node's sheet with the bits at the offset
abbrev pub value_part : Device → ℕ → Key → List ℕ → ℕ → ℕ → Row → List ℕ
value_part device node key bytes offset bits row = known_text device node key row bits (part_bytes bytes offset bits)

-- an entry without a name, with its bits
abbrev pub bits_text : List ℕ → List ℕ
bits_text [] = []
bits_text (byte ∷ bytes) = codes " = " ++ flat_map byte_text (byte ∷ bytes)

unfoldable pub with_bits : Key → List ℕ → List ℕ
with_bits key bytes = key_text key ++ bits_text bytes

-- one that the node's sheet lacks; of a node without a sheet no more is said
unfoldable pub missing_text : Bool → Key → List ℕ → List ℕ
missing_text has_sheet key bytes = with_bits key bytes ++ (if has_sheet then codes " (not in sheet)" else [])

-- what a word says of the data from an offset on
unfoldable pub part_text : Device → ℕ → List ℕ → ℕ → ℕ → List ℕ
part_text device node bytes offset word =
    if is_gap (word_key word) then codes "-"
    else option_map_or (value_part device node (word_key word) bytes offset (word_bits word))
    (entry_of device.names node (word_key word)) (missing_text (is_some device.names.sheet) (word_key word) (part_bytes bytes offset (word_bits word)))

-- the parts one after another from an offset on, each after a semicolon
unfoldable pub more_parts : Device → ℕ → List ℕ → ℕ → List ℕ → List ℕ
more_parts device node bytes offset [] = []
more_parts device node bytes offset (word ∷ words) =
    codes "; " ++ part_text device node bytes offset word ++ more_parts device node bytes (offset + word_bits word) words

-- all parts
unfoldable pub parts_text : Device → ℕ → List ℕ → List ℕ → List ℕ
parts_text device node bytes [] = []
parts_text device node bytes (word ∷ words) =
    part_text device node bytes 0 word ++ more_parts device node bytes (word_bits word) words

-- ---- all data

-- the word after a number of bytes
abbrev pub unit_of : ℕ → List ℕ
unit_of count = if count == 1 then codes " byte" else codes " bytes"

-- data that are shorter than what is mapped have no values
unfoldable pub short_text : ℕ → ℕ → List ℕ
short_text count mapped = filled (codes "%%, mapping has %") (decimal count ∷ unit_of count ∷ decimal mapped ∷ [])

-- bytes after what is mapped
unfoldable pub more_text : ℕ → ℕ → List ℕ
more_text count mapped =
    if nat_lt mapped count then filled (codes "; +%%") (decimal (count - mapped) ∷ unit_of (count - mapped) ∷ []) else []

unfoldable pub mapped_text : Device → ℕ → List ℕ → List ℕ → List ℕ
mapped_text device node words bytes =
    if nat_lt (length bytes) (bytes_for (total_bits words)) then short_text (length bytes) (bytes_for (total_bits words))
    else parts_text device node bytes words ++ more_text (length bytes) (bytes_for (total_bits words))

-- a multiplexed PDO: its destination or source, the node, the key, four bytes (CiA 301, 7.2.2.5)
abbrev pub multiplexed_key : List ℕ → Key
multiplexed_key bytes = record { index = unsigned_of (take 2 (drop 1 bytes)); sub = slice_index bytes 3 }

-- bit 7 of the first byte
unfoldable pub addressing_word : ℕ → List ℕ
addressing_word byte = if nat_lt byte 128 then codes "source" else codes "destination"

-- which of the two, the node and the key
unfoldable pub addressed_text : List ℕ → ℕ → Key → List ℕ
addressed_text word node key = filled (codes "% node % % ") (word ∷ decimal node ∷ key_text key ∷ [])

-- the destination 0 is all nodes
unfoldable pub all_text : Key → List ℕ
all_text key = filled (codes "destination all nodes % ") (key_text key ∷ [])

abbrev pub address_text : ℕ → Key → List ℕ
address_text byte key = if byte == 128 then all_text key else addressed_text (addressing_word byte) (byte % 128) key

-- of the last four bytes as many as the type of the entry has
abbrev pub multiplexed_value : DataType → List ℕ → List ℕ
multiplexed_value t bytes = take (min (unwrap_or (width_of t) 4) 4) (drop 4 bytes)

-- the entry is one of the destination's dictionary, or of the source's
abbrev pub addressed_row : Device → ℕ → Key → Option Row
addressed_row device node key = if node == 0 then None else entry_of device.names node key

-- which of the two, and the node
unfoldable pub node_text : List ℕ → ℕ → List ℕ
node_text word node = filled (codes "% node %: ") (word ∷ decimal node ∷ [])

-- that node, and its entry with the value
unfoldable pub named_text : Device → ℕ → List ℕ → Row → List ℕ
named_text device node bytes row =
    let value = multiplexed_value row.data_type bytes in
    node_text (addressing_word (slice_index bytes 0)) node
    ++ known_text device node (multiplexed_key bytes) row (8 * length value) value

-- an entry without a name, with all four bytes
unfoldable pub unnamed_text : List ℕ → List ℕ
unnamed_text bytes = address_text (slice_index bytes 0) (multiplexed_key bytes) ++ flat_map byte_text (drop 4 bytes)

-- by the sheet of the node that is named in the lower seven bits of the first byte
abbrev pub multiplexed_by : Device → ℕ → List ℕ → List ℕ
multiplexed_by device node bytes =
    option_map_or (named_text device node bytes) (addressed_row device node (multiplexed_key bytes)) (unnamed_text bytes)

unfoldable pub multiplexed_text : Bus → List ℕ → List ℕ
multiplexed_text bus bytes = multiplexed_by (device_at bus (slice_index bytes 0 % 128)) (slice_index bytes 0 % 128) bytes

-- the data of one
unfoldable pub multiplexed_data : Bus → List ℕ → List ℕ
multiplexed_data bus bytes = if length bytes == 8 then multiplexed_text bus bytes else short_text (length bytes) 8

-- data by the mapping in force: by its count 1 to 64 entries, FEh or FFh multiplexed, else nothing
-- is known of them
unfoldable pub data_text : Bus → ℕ → Mapping → List ℕ → List ℕ
data_text bus node mapping bytes =
    if mapping.count == 0 then []
    else (if nat_le mapping.count 64 then codes ": " ++ mapped_text (device_at bus node) node (take mapping.count mapping.words) bytes
    else (if nat_le 0xFE mapping.count then codes ": " ++ multiplexed_data bus bytes else []))
