-- The forms that rows of both tables of SDO services share (CiA 301, 7.2.4.3): what spells them,
-- what bytes say, and how they are written.
use Rattle.std.specs.Prelude.{◌≡◌, ℕ, ◌+◌, ◌-◌, ◌*◌, ◌≤◌, Bool, true, false, if◌then◌else◌, Option, Some, None, List, ◌∷◌, ◌++◌, length, slice_index, take, drop, replicate}
use Rattle.arrayvec.specs.ArrayVec.{ArrayVec}
use Rattle.co_value.specs.declared.key.Key.{Key}
use Rattle.co_value.specs.Numbers.{low_bytes}
use Rattle.co_frame_aborts.specs.declared.abort_code.AbortCode.{AbortCode}
use Rattle.co_frame.specs.declared.sdo_request.ExpeditedData.{ExpeditedData}
use Rattle.co_frame.specs.declared.sdo_request.ExpeditedData.TheVariants.{Indicated, NotIndicated}
use Rattle.co_frame.specs.Ccs as ccs
use Rattle.co_frame.specs.Subcommands as subcommands
use Rattle.co_frame.specs.SdoFields.{command_with, has_bit, unused_of_segment, unused_of_expedited, unused_of_end, key_in, number_in, key_bytes, weight, padded}

-- expedited data: bit 1 (e) is set; where bit 0 (s) is, bits 3 to 2 (n) are the unused ones of the
-- four data bytes
abbrev pub SpellsExpedited : Key → ExpeditedData → List ℕ → Type 0
SpellsExpedited key (Indicated counted) bytes = (has_bit 1 bytes ≡ true) × (has_bit 0 bytes ≡ true) × (key ≡ key_in bytes) × (counted.items ≡ take (4 - unused_of_expedited bytes) (drop 4 bytes))
SpellsExpedited key (NotIndicated four) bytes = (has_bit 1 bytes ≡ true) × (has_bit 0 bytes ≡ false) × (key ≡ key_in bytes) × (four ≡ drop 4 bytes)

-- initiate of a segmented transfer: bit 1 (e) is clear; where bit 0 (s) is set, the data bytes are
-- the size
abbrev pub SpellsInitiate : Key → Option ℕ → List ℕ → Type 0
SpellsInitiate key (Some size) bytes = (has_bit 1 bytes ≡ false) × (has_bit 0 bytes ≡ true) × (key ≡ key_in bytes) × (size ≡ number_in bytes)
SpellsInitiate key None bytes = (has_bit 1 bytes ≡ false) × (has_bit 0 bytes ≡ false) × (key ≡ key_in bytes)

-- a segment: bit 4 is the toggle, bits 3 to 1 (n) the unused ones of the seven data bytes, bit 0
-- (c) marks the last
abbrev pub SpellsSegment : Bool → ArrayVec ℕ → Bool → List ℕ → Type 0
SpellsSegment toggle segment last bytes = (toggle ≡ has_bit 4 bytes) × (segment.items ≡ take (7 - unused_of_segment bytes) (drop 1 bytes)) × (last ≡ has_bit 0 bytes)

-- an abort: the data bytes are the code
abbrev pub SpellsAbort : Key → AbortCode → List ℕ → Type 0
SpellsAbort key code bytes = (key ≡ key_in bytes) × (code.0 ≡ number_in bytes)

-- initiate of a block transfer: bit 0 is clear; where bit 1 (s) is set, the data bytes are the size
abbrev pub SpellsBlockInitiate : Key → Option ℕ → List ℕ → Type 0
SpellsBlockInitiate key (Some size) bytes = (has_bit 0 bytes ≡ false) × (has_bit 1 bytes ≡ true) × (key ≡ key_in bytes) × (size ≡ number_in bytes)
SpellsBlockInitiate key None bytes = (has_bit 0 bytes ≡ false) × (has_bit 1 bytes ≡ false) × (key ≡ key_in bytes)

-- the end of a block transfer: bit 0 is set, bits 4 to 2 (n) are the unused bytes of the last
-- segment
abbrev pub SpellsBlockEnd : ℕ → List ℕ → Type 0
SpellsBlockEnd unused bytes = (has_bit 0 bytes ≡ true) × (unused ≡ unused_of_end bytes)

-- the acknowledgement of a sub-block: byte 1 is the sequence number of the last segment taken,
-- byte 2 the next sub-block's size
abbrev pub SpellsAcknowledge : ℕ → ℕ → List ℕ → Type 0
SpellsAcknowledge sequence block_size bytes = (sequence ≡ slice_index bytes 1) × (block_size ≡ slice_index bytes 2)

-- ---- what bytes say

-- the data of an expedited transfer, by bits 0 (s) and 3 to 2 (n)
abbrev pub expedited_in : List ℕ → ExpeditedData
expedited_in bytes =
    if has_bit 0 bytes
    then Indicated (record { items = take (4 - unused_of_expedited bytes) (drop 4 bytes) })
    else NotIndicated (drop 4 bytes)

-- the data of a segment, by bits 3 to 1 (n)
abbrev pub segment_in : List ℕ → ArrayVec ℕ
segment_in bytes = record { items = take (7 - unused_of_segment bytes) (drop 1 bytes) }

-- the size in the data bytes, where a bit says that it is indicated
abbrev pub size_in : Bool → List ℕ → Option ℕ
size_in indicated bytes = if indicated then Some (number_in bytes) else None

-- the abort code in the data bytes
abbrev pub code_in : List ℕ → AbortCode
code_in bytes = record { 0 = number_in bytes }

-- ---- what is written: reserved bits and bytes are 0

-- expedited data: s and n where the size is indicated
abbrev pub expedited_bytes : ℕ → Key → ExpeditedData → List ℕ
expedited_bytes specifier key (Indicated counted) = command_with specifier (4 * (4 - length counted.items) + 3) ∷ key_bytes key ++ padded 4 counted.items
expedited_bytes specifier key (NotIndicated four) = command_with specifier 2 ∷ key_bytes key ++ four

-- initiate of a segmented transfer
abbrev pub initiate_bytes : ℕ → Key → Option ℕ → List ℕ
initiate_bytes specifier key (Some size) = command_with specifier 1 ∷ key_bytes key ++ low_bytes 4 size
initiate_bytes specifier key None = command_with specifier 0 ∷ key_bytes key ++ replicate 4 0

-- a segment: toggle, n and c
abbrev pub segment_bytes : Bool → ArrayVec ℕ → Bool → List ℕ
segment_bytes toggle segment last = (weight 4 toggle + 2 * (7 - length segment.items) + weight 0 last) ∷ padded 7 segment.items

-- an abort, of a client or a server
abbrev pub abort_bytes : Key → AbortCode → List ℕ
abort_bytes key code = command_with ccs.abort 0 ∷ key_bytes key ++ low_bytes 4 code.0

-- initiate of a block transfer, without a CRC
abbrev pub block_initiate_bytes : ℕ → Key → Option ℕ → List ℕ
block_initiate_bytes specifier key (Some size) = command_with specifier 2 ∷ key_bytes key ++ low_bytes 4 size
block_initiate_bytes specifier key None = command_with specifier 0 ∷ key_bytes key ++ replicate 4 0

-- the end of a block transfer
abbrev pub block_end_bytes : ℕ → ℕ → List ℕ
block_end_bytes specifier unused = command_with specifier (4 * unused + 1) ∷ replicate 7 0

-- the acknowledgement of a sub-block
abbrev pub acknowledge_bytes : ℕ → ℕ → ℕ → List ℕ
acknowledge_bytes specifier sequence block_size = command_with specifier subcommands.acknowledge ∷ sequence ∷ block_size ∷ replicate 5 0

-- a key, and four bytes after it
abbrev pub keyed_bytes : ℕ → Key → List ℕ → List ℕ
keyed_bytes command key bytes = command ∷ key_bytes key ++ bytes

-- a command byte alone
abbrev pub bare_bytes : ℕ → List ℕ
bare_bytes command = command ∷ replicate 7 0

-- ---- what can be written

-- expedited data of which the size is indicated isn't empty; it has at most the four bytes that
-- there is room for
abbrev pub IsExpeditedData : ExpeditedData → Type 0
IsExpeditedData (Indicated counted) = 1 ≤ length counted.items
IsExpeditedData (NotIndicated four) = Unit {0}
