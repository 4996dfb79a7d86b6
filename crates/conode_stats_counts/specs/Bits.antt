-- The bits of a classical CAN frame on the bus (ISO 11898-1): its fields, the CRC over them, stuff
-- bits, and its end.
use Rattle.std.specs.Prelude.{ℕ, zero, suc, ◌+◌, ◌-◌, ◌*◌, ◌/◌, ◌%◌, ◌^◌, ◌==◌, bit_xor, if◌then◌else◌, List, [], ◌∷◌, ◌++◌, length, fold}
use Rattle.std.specs.List.{flat_map}

-- a number in so many bits, the highest first
unfoldable pub bits_of : ℕ → ℕ → List ℕ
bits_of zero number = []
bits_of (suc count) number = number / 2 ^ count % 2 ∷ bits_of count number

-- ---- from the start of a frame to its data

-- start of frame, identifier, remote bit, two dominant bits, data length code: 1, 11, 1, 2 and 4
-- bits
abbrev pub base_head : ℕ → ℕ → ℕ → List ℕ
base_head id remote code = bits_of 19 (128 * id + 64 * remote + code)

-- of 29 bits: start of frame, the upper 11, two recessive bits, the lower 18, remote bit, two
-- dominant bits, data length code
abbrev pub extended_head : ℕ → ℕ → ℕ → List ℕ
extended_head id remote code =
    bits_of 39 (0x8000000 * (id / 0x40000) + 0x6000000 + 128 * (id % 0x40000) + 64 * remote + code)

-- the bits of bytes
abbrev pub data_bits : List ℕ → List ℕ
data_bits bytes = flat_map (bits_of 8) bytes

-- ---- the CRC of 15 bits

-- One bit more: shifted by one, and the polynomial x^15 + x^14 + x^10 + x^8 + x^7 + x^4 + x^3 + 1
-- (4599h without x^15) added where the bit that is shifted out and the bit of the frame differ.
unfoldable pub crc_with : ℕ → ℕ → ℕ
crc_with crc bit = if crc / 0x4000 % 2 == bit then 2 * (crc % 0x4000) else bit_xor (2 * (crc % 0x4000)) 0x4599

abbrev pub crc_of : List ℕ → ℕ
crc_of bits = fold crc_with 0 bits

-- ---- stuff bits

-- How many stuff bits follow after so many equal bits: after five equal bits one of the other value
-- is inserted, and counts itself.
unfoldable pub stuffed_from : ℕ → ℕ → List ℕ → ℕ
stuffed_from last run [] = 0
stuffed_from last run (bit ∷ more) =
    if bit == last then (if run == 4 then 1 + stuffed_from (1 - bit) 1 more else stuffed_from last (run + 1) more)
    else stuffed_from bit 1 more

-- the stuff bits of a frame from its start to the end of its CRC; the bus is recessive before it
abbrev pub stuff_bits : List ℕ → ℕ
stuff_bits bits = stuffed_from 1 0 bits

-- ---- the whole

-- CRC delimiter, acknowledge slot and delimiter, end of frame (7) and intermission (3)
abbrev pub tail_bits : ℕ
tail_bits = 13

-- a frame from its start to the end of its CRC
abbrev pub with_crc : List ℕ → List ℕ
with_crc bits = bits ++ bits_of 15 (crc_of bits)

-- what a frame takes on the bus, with the intermission after it
unfoldable pub frame_bits : List ℕ → ℕ
frame_bits bits = length (with_crc bits) + stuff_bits (with_crc bits) + tail_bits

-- the most bits of a frame with so many from its start to the end of its CRC: a stuff bit after the
-- first five, and after each four that follow
abbrev pub most_bits : ℕ → ℕ
most_bits count = count + (count - 1) / 4 + tail_bits
