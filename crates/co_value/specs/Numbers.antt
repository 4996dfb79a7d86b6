-- Numbers as bytes: little-endian, signed ones in two's complement (CiA 301, 7.1.4).
use Rattle.std.specs.Prelude.{◌≡◌, ℕ, suc, ◌+◌, ◌-◌, ◌*◌, ◌^◌, ◌<◌, ◌+ℤ◌, nat_le, if◌then◌else◌, ℤ, pos, negsuc, neg_ℤ, Some, List, [], ◌∷◌, length, unwrap_or}
use Rattle.std.specs.List.{AllByRecursion}
use Rattle.std.specs.Int.{bytes_low_first}
use Rattle.co_value.specs.declared.data_type.DataType.{DataType}
use Rattle.co_value.specs.Types.{width_of, is_signed, FitsWidth}

-- the bytes as an unsigned number, the lowest byte first
abbrev pub unsigned_of : List ℕ → ℕ
unsigned_of [] = 0
unsigned_of (byte ∷ bytes) = byte + 256 * unsigned_of bytes

-- two's complement: an unsigned number of this many bits whose top bit is set stands for itself
-- less 2 ^ bits
abbrev pub signed_of : ℕ → ℕ → ℤ
signed_of bits number = if nat_le (2 ^ (bits - 1)) number then pos number +ℤ neg_ℤ (pos (2 ^ bits)) else pos number

-- the bytes as a number of a numeric type
abbrev pub number_of : DataType → List ℕ → ℤ
number_of t bytes = if is_signed t then signed_of (8 * length bytes) (unsigned_of bytes) else pos (unsigned_of bytes)

-- the bytes are those of the number, and as many as the type's width
pub record IsNumber (t : DataType) (bytes : List ℕ) (value : ℤ) : Type 0 where
  pub width : width_of t ≡ Some (length bytes)
  pub number : number_of t bytes ≡ value

-- the lowest bytes of an unsigned number, the lowest first: byte i is number / 256 ^ i % 256
abbrev pub low_bytes : ℕ → ℕ → List ℕ
low_bytes width number = bytes_low_first 0 width number

-- a number as unsigned bits: a negative one plus 2 ^ bits
abbrev pub bits_of : ℕ → ℤ → ℕ
bits_of bits (pos n) = n
bits_of bits (negsuc n) = 2 ^ bits - suc n

-- the bytes of a number at a numeric type
abbrev pub bytes_of : DataType → ℤ → List ℕ
bytes_of t value = let width = unwrap_or (width_of t) 0 in low_bytes width (bits_of (8 * width) value)

-- each is below 256
abbrev pub AreBytes : List ℕ → Type 0
AreBytes bytes = AllByRecursion (λ byte. byte < 256) bytes

-- bytes of the same length and with the same number are the same bytes
abbrev pub HasOneSpelling : DataType → Type 0
HasOneSpelling t = (a b : List ℕ) → AreBytes a → AreBytes b → length a ≡ length b → number_of t a ≡ number_of t b → a ≡ b

-- bytes of the type's width are the bytes of their number
abbrev pub HasWayBack : DataType → Type 0
HasWayBack t = (bytes : List ℕ) → AreBytes bytes → width_of t ≡ Some (length bytes) → bytes_of t (number_of t bytes) ≡ bytes

-- the bytes of each number that fits are below 256, and as many as the type's width
abbrev pub HasBytes : DataType → Type 0
HasBytes t = (value : ℤ) → FitsWidth t value → AreBytes (bytes_of t value) × (width_of t ≡ Some (length (bytes_of t value)))
