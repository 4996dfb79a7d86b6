-- The fields of an SDO frame's eight bytes (CiA 301, 7.2.4.3). Bit 0 is the lowest.
use Rattle.std.specs.Prelude.{ℕ, ◌+◌, ◌-◌, ◌*◌, ◌/◌, ◌%◌, ◌^◌, ◌==◌, Bool, if◌then◌else◌, List, [], ◌∷◌, ◌++◌, length, slice_index, take, drop, replicate}
use Rattle.co_value.specs.declared.key.Key.{Key}
use Rattle.co_value.specs.Numbers.{unsigned_of, low_bytes}

-- the command byte, which says what the frame is
abbrev pub command : List ℕ → ℕ
command bytes = slice_index bytes 0

-- its bits 7 to 5, the command specifier
abbrev pub specifier : List ℕ → ℕ
specifier bytes = command bytes / 32

-- the command byte of a specifier, with what bits 4 to 0 are
abbrev pub command_with : ℕ → ℕ → ℕ
command_with specifier bits = 32 * specifier + bits

-- its bits 1 to 0, the subcommand of a block transfer
abbrev pub subcommand : List ℕ → ℕ
subcommand bytes = command bytes % 4

-- one of its bits
abbrev pub has_bit : ℕ → List ℕ → Bool
has_bit k bytes = command bytes / 2 ^ k % 2 == 1

-- bits 3 to 1 of a segment: how many of the seven bytes are unused
abbrev pub unused_of_segment : List ℕ → ℕ
unused_of_segment bytes = command bytes / 2 % 8

-- bits 3 to 2 of an expedited transfer: how many of the four bytes are unused
abbrev pub unused_of_expedited : List ℕ → ℕ
unused_of_expedited bytes = command bytes / 4 % 4

-- bits 4 to 2 of a block transfer's end: how many of the last segment's seven bytes are unused
abbrev pub unused_of_end : List ℕ → ℕ
unused_of_end bytes = command bytes / 4 % 8

-- bytes 1 and 2 are the index, the low byte first, byte 3 is the sub-index
abbrev pub key_in : List ℕ → Key
key_in bytes = record { index = unsigned_of (take 2 (drop 1 bytes)); sub = slice_index bytes 3 }

-- bytes 4 to 7 as one number, the lowest byte first: a size, or an abort code
abbrev pub number_in : List ℕ → ℕ
number_in bytes = unsigned_of (drop 4 bytes)

-- bytes 1 to 3 of a key
abbrev pub key_bytes : Key → List ℕ
key_bytes key = low_bytes 2 key.index ++ key.sub ∷ []

-- a bit's weight where it is set
abbrev pub weight : ℕ → Bool → ℕ
weight k set = if set then 2 ^ k else 0

-- data and zeros up to a length
abbrev pub padded : ℕ → List ℕ → List ℕ
padded size bytes = bytes ++ replicate (size - length bytes) 0
