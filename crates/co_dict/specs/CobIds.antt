-- COB-ID words (CiA 301, 7.5.2): bit 31 says that the object does not exist, bits 10 to 0 are the
-- identifier.
use Rattle.std.specs.Prelude.{ℕ, ◌/◌, ◌%◌, ◌==◌, nat_le, Bool, ◌&&◌, ◌||◌, not}

-- the identifier, bits 10 to 0: below 800h
abbrev pub identifier_of : ℕ → ℕ
identifier_of word = word % 0x800

-- bit 31 of a word of 32 bits is set
abbrev pub has_bit_31 : ℕ → Bool
has_bit_31 word = nat_le 0x8000_0000 word

-- bit 31 is clear and the word is not 0: the PDO, the emergency or one direction of the SDO channel
-- exists
abbrev pub is_valid : ℕ → Bool
is_valid word = not (has_bit_31 word) && not (word == 0)

-- bits 29 to 11 are 0: the identifier has 11 bits
abbrev pub has_11_bits : ℕ → Bool
has_11_bits word = word / 0x800 % 0x8_0000 == 0

-- bits 30 to 11 are 0: the identifier has 11 bits, and the device doesn't produce SYNC
abbrev pub is_sync_consumer : ℕ → Bool
is_sync_consumer word = word / 0x800 % 0x10_0000 == 0

-- an identifier is from the first to the last
abbrev pub is_from_to : ℕ → ℕ → ℕ → Bool
is_from_to first last identifier = nat_le first identifier && nat_le identifier last

-- identifiers that no COB-ID word may have: NMT and those below SYNC, 101h to 180h, error control
-- and those next to it
abbrev pub is_restricted : ℕ → Bool
is_restricted identifier = is_from_to 0 0x7F identifier || is_from_to 0x101 0x180 identifier || is_from_to 0x6E0 0x7FF identifier

-- identifiers of the default SDO channel of each node: 581h to 5FFh and 601h to 67Fh
abbrev pub is_default_sdo : ℕ → Bool
is_default_sdo identifier = is_from_to 0x581 0x5FF identifier || is_from_to 0x601 0x67F identifier
