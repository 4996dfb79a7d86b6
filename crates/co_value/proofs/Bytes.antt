-- Numbers and their bytes determine each other.
use Rattle.std.proofs.Common.{◌+ℤ◌, ◌+◌, List, [], ◌∷◌, ◌≡◌, ℕ, zero, suc, ◌-◌, ◌*◌, ◌/◌, ◌%◌, ◌^◌, ◌<◌, ◌≤ℤ◌, ℤ, pos, negsuc, neg_ℤ, length, get_or, Option, Some, IfSome, refl, sym, subst, lit≤, ◌≤◌, ap, ◌∙◌, arith, true, false, Bool, cond, leb, lit<}
use Rattle.std.proofs.lemmas.Int.{ints}
use Rattle.std.proofs.lemmas.Bool.Decides.{nat_tests}
use Rattle.std.proofs.Math.Nat.{pow-suc, div-div-eq-div-mul, div-one}
use Rattle.std.proofs.lemmas.Nat.{div_below, pow-add}
use Rattle.std.specs.Int.{byte_at, bytes_low_first}
use Rattle.byteorder.specs.Numbers.{length-bytes_low_first}
use Rattle.co_value.specs.declared.data_type.DataType.{DataType}
use Rattle.co_value.specs.declared.data_type.DataType.TheVariants.{Boolean, Integer8, Integer16, Integer24, Integer32, Integer40, Integer48, Integer56, Integer64, Unsigned8, Unsigned16, Unsigned24, Unsigned32, Unsigned40, Unsigned48, Unsigned56, Unsigned64, VisibleString, OctetString, Domain}
use Rattle.co_value.specs.Types.{width_of, is_signed, least_at, greatest_at, FitsWidth, InRange}
use Rattle.co_value.specs.Numbers.{unsigned_of, signed_of, low_bytes, bits_of, bytes_of, number_of, AreBytes, HasOneSpelling, HasWayBack, HasBytes, IsNumber}

-- the same bytes by a recursion on the number
quotient_bytes : ℕ → ℕ → List ℕ
quotient_bytes zero number = []
quotient_bytes (suc width) number = number % 256 ∷ quotient_bytes width (number / 256)

byte_at-pow : (k x : ℕ) → byte_at k x ≡ x / 256 ^ k % 256
byte_at-pow zero x = ap (λ (y : ℕ). y % 256) (sym (div-one x))
byte_at-pow (suc k) x = refl

-- the bytes from byte j up are those of the number without its lowest j bytes
bytes_low_first-is : (j k x : ℕ) → bytes_low_first j k x ≡ quotient_bytes k (x / 256 ^ j)
unfolding quotient_bytes
bytes_low_first-is j zero x = refl
bytes_low_first-is j (suc k) x =
    let shift : x / 256 ^ suc j ≡ x / 256 ^ j / 256 = ap (λ (p : ℕ). x / p) (pow-suc 256 j) ∙ sym (div-div-eq-div-mul x (256 ^ j) 256) in
    rw (byte_at-pow j x, bytes_low_first-is (suc j) k x, shift) refl

unsigned_of-quotient_bytes : (k x : ℕ) → x < 256 ^ k → unsigned_of (quotient_bytes k x) ≡ x
unfolding quotient_bytes
unsigned_of-quotient_bytes zero x h = omega arith
unsigned_of-quotient_bytes (suc k) x h =
    let below : x / 256 < 256 ^ k = div_below x 256 (256 ^ k) (omega arith) (rw (pow-suc 256 k) at h) in
    let rest = unsigned_of-quotient_bytes k (x / 256) below in
    omega (arith, rest)

pub unsigned_of-low_bytes : (k x : ℕ) → x < 256 ^ k → unsigned_of (low_bytes k x) ≡ x
unsigned_of-low_bytes k x h =
    ap unsigned_of (bytes_low_first-is 0 k x ∙ ap (quotient_bytes k) (div-one x)) ∙ unsigned_of-quotient_bytes k x h

-- a number in two's complement of at least one bit
pub signed_of-bits_of : (bits half : ℕ) (value : ℤ) → 0 < half → 2 ^ (bits - 1) ≡ half → 2 ^ bits ≡ 2 * half → neg_ℤ (pos half) ≤ℤ value → value ≤ℤ pos (half - 1) → signed_of bits (bits_of bits value) ≡ value
signed_of-bits_of bits half (pos n) some p q low high =
    let small : n < half = omega (arith, ints) in
    let test : leb half n ≡ false = grind (arith, nat_tests) in
    rw (p, test) refl
signed_of-bits_of bits half (negsuc n) some p q low high =
    let small : n < half = omega (arith, ints) in
    let test : leb half (2 * half - suc n) ≡ true = grind (arith, nat_tests) in
    rw (p, q, test) (omega (arith, ints))

bits_below : (bits half : ℕ) {end : ℕ} (value : ℤ) → 0 < half → 2 ^ bits ≡ 2 * half → end ≡ 2 * half → neg_ℤ (pos half) ≤ℤ value → value ≤ℤ pos (half - 1) → bits_of bits value < end
bits_below bits half (pos n) some q r low high = omega (arith, ints)
bits_below bits half (negsuc n) some q r low high = omega (arith, ints)

-- the bytes of an unsigned number at a width
unsigned_bytes : (width : ℕ) (value : ℤ) → pos 0 ≤ℤ value → value ≤ℤ pos (256 ^ width - 1) → 0 < 256 ^ width → pos (unsigned_of (low_bytes width (bits_of (8 * width) value))) ≡ value
unsigned_bytes width (pos n) low high some = ap pos (unsigned_of-low_bytes width n (omega (arith, ints)))
unsigned_bytes width (negsuc n) low high some = absurd (omega (arith, ints))

-- the bytes of a signed one
signed_bytes : (width half : ℕ) (value : ℤ) → 0 < half → 2 ^ (8 * width - 1) ≡ half → 2 ^ (8 * width) ≡ 2 * half → 256 ^ width ≡ 2 * half → neg_ℤ (pos half) ≤ℤ value → value ≤ℤ pos (half - 1) → signed_of (8 * length (low_bytes width (bits_of (8 * width) value))) (unsigned_of (low_bytes width (bits_of (8 * width) value))) ≡ value
signed_bytes width half value some p q r low high =
    let fits : bits_of (8 * width) value < 256 ^ width = bits_below (8 * width) half value some q r low high in
    rw (length-bytes_low_first 0 width (bits_of (8 * width) value), unsigned_of-low_bytes width (bits_of (8 * width) value) fits) (signed_of-bits_of (8 * width) half value some p q low high)

-- the bytes of a number that fits are those of the number
pub IsNumber-bytes_of : (t : DataType) (value : ℤ) → FitsWidth t value → IsNumber t (bytes_of t value) value
IsNumber-bytes_of Boolean value range = record { width = refl; number = unsigned_bytes 1 value range.0 range.1 (lit< tt) }
IsNumber-bytes_of Integer8 value range = record { width = refl; number = signed_bytes 1 (2 ^ 7) value (lit< tt) refl refl refl range.0 range.1 }
IsNumber-bytes_of Integer16 value range = record { width = refl; number = signed_bytes 2 (2 ^ 15) value (lit< tt) refl refl refl range.0 range.1 }
IsNumber-bytes_of Integer24 value range = record { width = refl; number = signed_bytes 3 (2 ^ 23) value (lit< tt) refl refl refl range.0 range.1 }
IsNumber-bytes_of Integer32 value range = record { width = refl; number = signed_bytes 4 (2 ^ 31) value (lit< tt) refl refl refl range.0 range.1 }
IsNumber-bytes_of Integer40 value range = record { width = refl; number = signed_bytes 5 (2 ^ 39) value (lit< tt) refl refl refl range.0 range.1 }
IsNumber-bytes_of Integer48 value range = record { width = refl; number = signed_bytes 6 (2 ^ 47) value (lit< tt) refl refl refl range.0 range.1 }
IsNumber-bytes_of Integer56 value range = record { width = refl; number = signed_bytes 7 (2 ^ 55) value (lit< tt) refl refl refl range.0 range.1 }
IsNumber-bytes_of Integer64 value range = record { width = refl; number = signed_bytes 8 (2 ^ 63) value (lit< tt) refl refl refl range.0 range.1 }
IsNumber-bytes_of Unsigned8 value range = record { width = refl; number = unsigned_bytes 1 value range.0 range.1 (lit< tt) }
IsNumber-bytes_of Unsigned16 value range = record { width = refl; number = unsigned_bytes 2 value range.0 range.1 (lit< tt) }
IsNumber-bytes_of Unsigned24 value range = record { width = refl; number = unsigned_bytes 3 value range.0 range.1 (lit< tt) }
IsNumber-bytes_of Unsigned32 value range = record { width = refl; number = unsigned_bytes 4 value range.0 range.1 (lit< tt) }
IsNumber-bytes_of Unsigned40 value range = record { width = refl; number = unsigned_bytes 5 value range.0 range.1 (lit< tt) }
IsNumber-bytes_of Unsigned48 value range = record { width = refl; number = unsigned_bytes 6 value range.0 range.1 (lit< tt) }
IsNumber-bytes_of Unsigned56 value range = record { width = refl; number = unsigned_bytes 7 value range.0 range.1 (lit< tt) }
IsNumber-bytes_of Unsigned64 value range = record { width = refl; number = unsigned_bytes 8 value range.0 range.1 (lit< tt) }
IsNumber-bytes_of VisibleString value range = absurd range
IsNumber-bytes_of OctetString value range = absurd range
IsNumber-bytes_of Domain value range = absurd range

-- a number in a type's range fits its width
pub fits_width : (t : DataType) (value : ℤ) → InRange t value → FitsWidth t value
fits_width Boolean value range = (range.0, omega (arith, ints, range.1))
fits_width VisibleString value range = absurd range.0
fits_width OctetString value range = absurd range.0
fits_width Domain value range = absurd range.0
fits_width t value range = range

-- ---- as many bytes with the same number are the same bytes

pub unsigned_of-exact : (a b : List ℕ) → AreBytes a → AreBytes b → length a ≡ length b → unsigned_of a ≡ unsigned_of b → a ≡ b
unsigned_of-exact [] [] p q n e = refl
unsigned_of-exact [] (y ∷ ys) p q n e = absurd (omega arith)
unsigned_of-exact (x ∷ xs) [] p q n e = absurd (omega arith)
unsigned_of-exact (x ∷ xs) (y ∷ ys) p q n e =
    let low = p.0 in
    let low' = q.0 in
    let same : x ≡ y = omega arith in
    let rest = unsigned_of-exact xs ys p.1 q.1 (omega arith) (omega arith) in
    cc

pub unsigned_of-below : (a : List ℕ) → AreBytes a → unsigned_of a < 256 ^ length a
unsigned_of-below [] p = lit< tt
unsigned_of-below (x ∷ xs) p =
    let low = p.0 in
    let rest = unsigned_of-below xs p.1 in
    rw (pow-suc 256 (length xs)) (omega (arith, rest))

-- with or without the top bit, less 2 ^ bits a number is negative
by_halves : (c d : Bool) (end m n : ℕ) → m < end → n < end → cond c (pos m +ℤ neg_ℤ (pos end)) (pos m) ≡ cond d (pos n +ℤ neg_ℤ (pos end)) (pos n) → m ≡ n
by_halves true true end m n p q e = omega (arith, ints)
by_halves true false end m n p q e = omega (arith, ints)
by_halves false true end m n p q e = omega (arith, ints)
by_halves false false end m n p q e = omega (arith, ints)

signed_of-exact : (bits m n : ℕ) → m < 2 ^ bits → n < 2 ^ bits → signed_of bits m ≡ signed_of bits n → m ≡ n
signed_of-exact bits m n p q e = by_halves (leb (2 ^ (bits - 1)) m) (leb (2 ^ (bits - 1)) n) (2 ^ bits) m n p q e

-- 2 ^ bits of as many bytes
pub power_of_bytes : (n : ℕ) → 2 ^ (8 * n) ≡ 256 ^ n
power_of_bytes zero = refl
power_of_bytes (suc n) =
    let split : 8 * suc n ≡ 8 + 8 * n = omega arith in
    rw (split, pow-add 2 8 (8 * n), power_of_bytes n, pow-suc 256 n) (omega arith)

same_unsigned : (signed : Bool) (a b : List ℕ) → AreBytes a → AreBytes b → length a ≡ length b → cond signed (signed_of (8 * length a) (unsigned_of a)) (pos (unsigned_of a)) ≡ cond signed (signed_of (8 * length b) (unsigned_of b)) (pos (unsigned_of b)) → unsigned_of a ≡ unsigned_of b
same_unsigned false a b p q n e = omega (arith, ints)
same_unsigned true a b p q n e =
    let bits : 2 ^ (8 * length b) ≡ 256 ^ length b = power_of_bytes (length b) in
    let first : unsigned_of a < 2 ^ (8 * length b) = rw (bits, ← n) (unsigned_of-below a p) in
    let second : unsigned_of b < 2 ^ (8 * length b) = rw bits (unsigned_of-below b q) in
    signed_of-exact (8 * length b) (unsigned_of a) (unsigned_of b) first second (rw n at e)

pub has_one_spelling : (t : DataType) → HasOneSpelling t
has_one_spelling t a b p q n e = unsigned_of-exact a b p q n (same_unsigned (is_signed t) a b p q n e)

-- ---- a number of bytes as many as the type is wide fits, and has these bytes

-- each element of a slice of bytes is a byte
pub bytes_by_index : (bytes : List ℕ) → ((k : ℕ) → k < length bytes → get_or bytes k 0 < 256) → AreBytes bytes
bytes_by_index [] h = tt
bytes_by_index (x ∷ xs) h = (h 0 (omega arith), bytes_by_index xs (λ k below. h (suc k) (omega arith)))

quotient_bytes-AreBytes : (k x : ℕ) → AreBytes (quotient_bytes k x)
unfolding quotient_bytes
quotient_bytes-AreBytes zero x = tt
quotient_bytes-AreBytes (suc k) x = (omega arith, quotient_bytes-AreBytes k (x / 256))

pub low_bytes-AreBytes : (k x : ℕ) → AreBytes (low_bytes k x)
low_bytes-AreBytes k x = subst AreBytes (sym (bytes_low_first-is 0 k x)) (quotient_bytes-AreBytes k (x / 256 ^ 0))

-- a type's width is at least one byte
width_some : (t : DataType) → IfSome (width_of t) (λ width. 1 ≤ width)
width_some VisibleString = tt
width_some OctetString = tt
width_some Domain = tt
width_some t = lit≤ tt

halves : (bits : ℕ) → 1 ≤ bits → 2 ^ bits ≡ 2 * 2 ^ (bits - 1)
halves zero some = absurd (omega arith)
halves (suc bits) some =
    let one : suc bits - 1 ≡ bits = omega arith in
    rw (pow-suc 2 bits, one) (omega arith)

signed_fits : (b : Bool) (half n : ℕ) → (b ≡ leb half n) → n < 2 * half → (neg_ℤ (pos half) ≤ℤ cond b (pos n +ℤ neg_ℤ (pos (2 * half))) (pos n)) × (cond b (pos n +ℤ neg_ℤ (pos (2 * half))) (pos n) ≤ℤ pos (half - 1))
signed_fits true half n test below = let large : half ≤ n = grind (arith, nat_tests) in (omega (arith, ints), omega (arith, ints))
signed_fits false half n test below = let small : n < half = grind (arith, nat_tests) in (omega (arith, ints), omega (arith, ints))

by_sign : (signed : Bool) (bytes : List ℕ) → AreBytes bytes → 1 ≤ length bytes → (least_at signed (length bytes) ≤ℤ cond signed (signed_of (8 * length bytes) (unsigned_of bytes)) (pos (unsigned_of bytes))) × (cond signed (signed_of (8 * length bytes) (unsigned_of bytes)) (pos (unsigned_of bytes)) ≤ℤ greatest_at signed (length bytes))
by_sign false bytes p some =
    let below : unsigned_of bytes < 2 ^ (8 * length bytes) = rw (power_of_bytes (length bytes)) (unsigned_of-below bytes p) in
    (omega (arith, ints), omega (arith, ints))
by_sign true bytes p some =
    let below : unsigned_of bytes < 2 ^ (8 * length bytes) = rw (power_of_bytes (length bytes)) (unsigned_of-below bytes p) in
    let twice : 2 ^ (8 * length bytes) ≡ 2 * 2 ^ (8 * length bytes - 1) = halves (8 * length bytes) (omega arith) in
    rw twice (signed_fits (leb (2 ^ (8 * length bytes - 1)) (unsigned_of bytes)) (2 ^ (8 * length bytes - 1)) (unsigned_of bytes) refl (rw twice at below))

pub number_of-FitsWidth : (t : DataType) (bytes : List ℕ) → AreBytes bytes → width_of t ≡ Some (length bytes) → FitsWidth t (number_of t bytes)
number_of-FitsWidth t bytes p e =
    let some : 1 ≤ length bytes = subst (λ (o : Option ℕ). IfSome o (λ width. 1 ≤ width)) e (width_some t) in
    rw e (by_sign (is_signed t) bytes p some)

pub has_bytes : (t : DataType) → HasBytes t
has_bytes t value fits = (low_bytes-AreBytes _ _, (IsNumber-bytes_of t value fits).width)

some_exact : (m n : ℕ) → Some m ≡ Some n → m ≡ n
some_exact m n e = cc

pub has_way_back : (t : DataType) → HasWayBack t
has_way_back t bytes p e =
    let fits = number_of-FitsWidth t bytes p e in
    let value = number_of t bytes in
    let spelled = IsNumber-bytes_of t value fits in
    has_one_spelling t (bytes_of t value) bytes (has_bytes t value fits).0 p (some_exact _ _ (sym spelled.width ∙ e)) spelled.number
