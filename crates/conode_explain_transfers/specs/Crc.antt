-- The CRC of a block transfer (CiA 301, 7.2.4.3.16): the polynomial x^16 + x^12 + x^5 + 1, 1021h,
-- the initial value 0, the highest bit first.
use Rattle.std.specs.Prelude.{ℕ, ◌-◌, ◌*◌, nat_lt, bit_xor, if◌then◌else◌, List, [], ◌∷◌}

-- one bit more: where a 1 is shifted out, the polynomial is added
unfoldable pub shifted : ℕ → ℕ
shifted crc = if nat_lt crc 0x8000 then 2 * crc else bit_xor (2 * (crc - 0x8000)) 0x1021

-- one byte more
unfoldable pub crc_with : ℕ → ℕ → ℕ
crc_with crc byte =
    shifted (shifted (shifted (shifted (shifted (shifted (shifted (shifted (bit_xor crc (256 * byte)))))))))

-- of data that goes on with these bytes
abbrev pub crc_from : ℕ → List ℕ → ℕ
crc_from crc [] = crc
crc_from crc (byte ∷ bytes) = crc_from (crc_with crc byte) bytes

-- of data
abbrev pub crc_of : List ℕ → ℕ
crc_of bytes = crc_from 0 bytes
