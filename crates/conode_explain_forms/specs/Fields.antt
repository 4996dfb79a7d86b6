-- Which value of a signal a frame has, and its text.
use Rattle.std.specs.Prelude.{ℕ, ◌*◌, ◌%◌, ◌==◌, Bool, true, false, not, nat_lt, ◌&&◌, ◌||◌, if◌then◌else◌, List, [], ◌∷◌, length, slice_index, take, decimal, Option, Some, None, min, option_map, option_and_then, unwrap_or}
use Rattle.std.specs.Option.{option_map_or}
use Rattle.co_value.specs.declared.data_type.DataType.{DataType}
use Rattle.co_value.specs.Keys.{same_key}
use Rattle.co_value.specs.Numbers.{unsigned_of}
use Rattle.co_value.specs.Types.{width_of}
use Rattle.co_sheet.specs.Content.{Row}
use Rattle.co_sheet_changes.specs.Names.{Names, entry_of}
use Rattle.conode_explain_transfers.specs.declared.told.Told.{Told}
use Rattle.conode_explain_transfers.specs.declared.ended.Ended.{Ended}
use Rattle.conode_explain_transfers.specs.declared.ended.Ending.{Ending}
use Rattle.conode_explain_transfers.specs.declared.ended.Ending.TheVariants.{Done}
use Rattle.conode_explain_transfers.specs.declared.kinds.Direction.{Direction}
use Rattle.conode_explain_transfers.specs.declared.kinds.Direction.TheVariants.{Upload}
use Rattle.conode_explain_transfers.specs.declared.kinds.Protocol.{Protocol}
use Rattle.conode_explain_transfers.specs.declared.kinds.Protocol.TheVariants.{Expedited}
use Rattle.conode_explain_cob_ids.specs.declared.claim.Claim.{Claim}
use Rattle.conode_explain_pdo.specs.declared.entry_bits.EntryBits.{EntryBits}
use Rattle.conode_explain_cob_ids.specs.Buses.{Bus, names_at}
use Rattle.conode_explain_pdo.specs.EntryBits.{bits_in_force}
use Rattle.conode_explain_pdo.specs.Types.{type_in}
use Rattle.conode_explain_values.specs.declared.value_type.ValueType.{ValueType}
use Rattle.conode_explain_values.specs.Types.{is_boolean_type}
use Rattle.conode_explain_values.specs.Values.{value_text}
use Rattle.conode_explain_forms.specs.declared.signal.Signal.{Signal}

-- ---- its text

-- a whole BOOLEAN, of one bit or of a byte, that is false or true
abbrev pub is_zero_or_one : ValueType → ℕ → List ℕ → Bool
is_zero_or_one t bits bytes =
    (is_boolean_type t && ((bits == 1) || (bits == 8))) && nat_lt (unsigned_of bytes) 2

-- such a one is 0 or 1; every other value is as `explain` has it, a string thus in double quotes
abbrev pub value_field : ValueType → ℕ → List ℕ → List ℕ
value_field t bits bytes =
    if is_zero_or_one t bits bytes then decimal (unsigned_of bytes) else value_text t bits bytes

-- ---- of an SDO transfer

abbrev pub is_done : Ending → Bool
is_done (Done crc) = true
is_done other = false

abbrev pub is_expedited : Protocol → Bool
is_expedited Expedited = true
is_expedited other = false

abbrev pub is_upload : Direction → Bool
is_upload Upload = true
is_upload other = false

-- the size bit of the answer of an expedited upload (7.2.4.3.6)
abbrev pub size_bit : List ℕ → Bool
size_bit frame = nat_lt 0 (length frame) && (slice_index frame 0 % 2 == 1)

-- the frame with which a transfer ended indicates how many bytes it had; of a download the request
-- would, and isn't kept
abbrev pub shows_size : List ℕ → Ended → Bool
shows_size frame e = is_upload e.direction && size_bit frame

-- the bytes that count of those that a transfer had that ended with a frame: of an expedited one no
-- more than the type has, where the frame doesn't show how many there are
abbrev pub bytes_of : DataType → List ℕ → Ended → List ℕ
bytes_of t frame e =
    if is_expedited e.protocol && not (shows_size frame e)
    then take (min (unwrap_or (width_of t) 4) 4) e.first.items else e.first.items

-- it is done, is of the entry, and all of its bytes are kept
abbrev pub has_value : Signal → Ended → Bool
has_value signal e = is_done e.ending && (same_key e.key signal.key && (e.bytes == length e.first.items))

abbrev pub ended_value : Signal → DataType → List ℕ → Ended → Option (List ℕ)
ended_value signal t frame e = if has_value signal e then Some (bytes_of t frame e) else None

-- where a transfer of the node ended with the frame
abbrev pub told_value : Signal → DataType → List ℕ → Told → Option (List ℕ)
told_value signal t frame told =
    if told.node == signal.node then option_and_then (ended_value signal t frame) told.ended else None

abbrev pub sdo_value : Signal → DataType → List ℕ → Option Told → Option (List ℕ)
sdo_value signal t frame told = option_and_then (told_value signal t frame) told

-- ---- of PDOs

abbrev pub claim_bits : Bus → Signal → List ℕ → Claim → Option EntryBits
claim_bits bus signal bytes claim =
    if claim.node == signal.node then bits_in_force bus claim signal.key bytes else None

-- the first of them that has the entry
unfoldable pub pdo_bits : Bus → Signal → List ℕ → List Claim → Option EntryBits
pdo_bits bus signal bytes [] = None
pdo_bits bus signal bytes (claim ∷ claims) =
    option_map_or (λ bits. Some bits) (claim_bits bus signal bytes claim) (pdo_bits bus signal bytes claims)

-- ---- of a frame

abbrev pub part_field : ValueType → EntryBits → List ℕ
part_field t part = value_field t part.bits part.bytes.items

-- the text of the value of an entry in a frame with these bytes that is these PDOs: that of an SDO
-- transfer that is done with it, else that of a PDO
unfoldable pub entry_field : Bus → List Claim → List ℕ → Option Told → Signal → ValueType → DataType → Option (List ℕ)
entry_field bus claims bytes told signal t data_type =
    option_map_or (λ value. Some (value_field t (8 * length value) value)) (sdo_value signal data_type bytes told)
    (option_map (part_field t) (pdo_bits bus signal bytes claims))

abbrev pub row_field : Bus → List Claim → List ℕ → Option Told → Signal → Names → Row → Option (List ℕ)
row_field bus claims bytes told signal names row =
    entry_field bus claims bytes told signal (type_in names row) row.data_type

-- where the node's sheet has the entry
unfoldable pub field_of : Bus → List Claim → List ℕ → Option Told → Signal → Option (List ℕ)
field_of bus claims bytes told signal =
    option_and_then (row_field bus claims bytes told signal (names_at bus signal.node))
    (entry_of (names_at bus signal.node) signal.node signal.key)
