-- Bytes packed into one number, and the bytes of that number.
use Rattle.std.proofs.Common.{◌≡◌, ℕ, zero, suc, ◌+◌, ◌-◌, ◌*◌, ◌%◌, ◌^◌, ◌<◌, ◌≤◌, List, [], ◌∷◌, ◌++◌, length, replicate, take, refl, sym, ap, ◌∙◌, arith, lit<}
use Rattle.std.proofs.Math.Nat.{pow-suc, mul_comm, mul_assoc, mul-le-mul_left, pow-le-pow_right}
use Rattle.std.proofs.lemmas.Nat.{pow-add}
use Rattle.std.proofs.lemmas.List.{length-append, length-replicate}
use Rattle.std.proofs.Math.Seq.{take-append_seam}
use Rattle.byteorder.specs.Numbers.{length-bytes_low_first}
use Rattle.co_value.specs.Numbers.{unsigned_of, low_bytes, AreBytes}
use Rattle.co_value.proofs.Bytes.{power_of_bytes, unsigned_of-exact, unsigned_of-below, unsigned_of-low_bytes, low_bytes-AreBytes}

unsigned_of-append : (a b : List ℕ) → unsigned_of (a ++ b) ≡ unsigned_of a + 256 ^ length a * unsigned_of b
unsigned_of-append [] b = omega arith
unsigned_of-append (x ∷ xs) b =
    let rest = unsigned_of-append xs b in
    let factor : 256 ^ suc (length xs) * unsigned_of b ≡ 256 * (256 ^ length xs * unsigned_of b) = rw (pow-suc 256 (length xs), mul_assoc (256 ^ length xs) 256 (unsigned_of b)) (omega arith) in
    omega (arith, rest, factor)

AreBytes-append : (a b : List ℕ) → AreBytes a → AreBytes b → AreBytes (a ++ b)
AreBytes-append [] b p q = q
AreBytes-append (x ∷ xs) b p q = (p.0, AreBytes-append xs b p.1 q)

AreBytes-zeros : (n : ℕ) → AreBytes (replicate n 0)
AreBytes-zeros zero = tt
AreBytes-zeros (suc n) = (omega arith, AreBytes-zeros n)

unsigned_of-zeros : (n : ℕ) → unsigned_of (replicate n 0) ≡ 0
unsigned_of-zeros zero = refl
unsigned_of-zeros (suc n) = let rest = unsigned_of-zeros n in omega (arith, rest)

pub length-low_bytes : (width number : ℕ) → length (low_bytes width number) ≡ width
length-low_bytes width number = length-bytes_low_first 0 width number

below_product : (low high width more : ℕ) → low < width → high < more → low + width * high < width * more
below_product low high width more p q =
    let times : width * suc high ≤ width * more = mul-le-mul_left width (omega arith) in
    omega (arith, times)

-- a number below 256 ^ length with more bytes above it
pub packed_below : (held number : ℕ) (bytes : List ℕ) → number < 256 ^ held → AreBytes bytes → number + 256 ^ held * unsigned_of bytes < 256 ^ (held + length bytes)
packed_below held number bytes p q =
    rw (pow-add 256 held (length bytes)) (below_product number (unsigned_of bytes) (256 ^ held) (256 ^ length bytes) p (unsigned_of-below bytes q))

-- has its bytes, and then those
pub packed_append : (held number : ℕ) (bytes : List ℕ) → number < 256 ^ held → AreBytes bytes → low_bytes (held + length bytes) (number + 256 ^ held * unsigned_of bytes) ≡ low_bytes held number ++ bytes
packed_append held number bytes p q =
    let whole = number + 256 ^ held * unsigned_of bytes in
    let own = length-low_bytes held number in
    let same_length : length (low_bytes (held + length bytes) whole) ≡ length (low_bytes held number ++ bytes) = rw (length-low_bytes (held + length bytes) whole, length-append (low_bytes held number) bytes, own) refl in
    let value : unsigned_of (low_bytes held number ++ bytes) ≡ whole = unsigned_of-append (low_bytes held number) bytes ∙ rw (own, unsigned_of-low_bytes held number p) refl in
    unsigned_of-exact (low_bytes (held + length bytes) whole) (low_bytes held number ++ bytes) (low_bytes-AreBytes _ _) (AreBytes-append _ _ (low_bytes-AreBytes _ _) q) same_length
    (unsigned_of-low_bytes (held + length bytes) whole (packed_below held number bytes p q) ∙ sym value)

-- which is below 2 ^ 64 where there are at most eight bytes
pub packed_fits : (held number : ℕ) (bytes : List ℕ) → held + length bytes ≤ 8 → number < 256 ^ held → AreBytes bytes → number + 256 ^ held * unsigned_of bytes < 18446744073709551616
packed_fits held number bytes few p q =
    let below = packed_below held number bytes p q in
    let most : 256 ^ (held + length bytes) ≤ 256 ^ 8 = pow-le-pow_right (lit< tt) few in
    omega (arith, below, most)

-- so a shift by bits gives it
pub packed_sum : (held number : ℕ) (bytes : List ℕ) → held + length bytes ≤ 8 → number < 256 ^ held → AreBytes bytes → number + unsigned_of bytes * 2 ^ (8 * held) % 18446744073709551616 ≡ number + 256 ^ held * unsigned_of bytes
packed_sum held number bytes few p q =
    let product : unsigned_of bytes * 2 ^ (8 * held) ≡ 256 ^ held * unsigned_of bytes = rw (power_of_bytes held) (mul_comm (unsigned_of bytes) (256 ^ held)) in
    let below = packed_fits held number bytes few p q in
    omega (arith, product, below)

-- eight bytes of a number are its own and zeros
pub packed_padded : (held number : ℕ) → held ≤ 8 → number < 256 ^ held → low_bytes 8 number ≡ low_bytes held number ++ replicate (8 - length (low_bytes held number)) 0
packed_padded held number few p =
    let zeros = replicate (8 - held) 0 in
    let own = length-low_bytes held number in
    let count : held + length zeros ≡ 8 = omega (arith, length-replicate {A = ℕ} (8 - held) 0) in
    let same : number + 256 ^ held * unsigned_of zeros ≡ number = rw (unsigned_of-zeros (8 - held)) (omega arith) in
    ap (λ (k : ℕ). low_bytes k number) (sym count) ∙ ap (low_bytes (held + length zeros)) (sym same)
    ∙ packed_append held number zeros p (AreBytes-zeros (8 - held)) ∙ ap (λ (k : ℕ). low_bytes held number ++ replicate (8 - k) 0) (sym own)

-- of its bytes and more, the first ones are its own
pub packed_front : (held number : ℕ) (more : List ℕ) → take held (low_bytes held number ++ more) ≡ low_bytes held number
packed_front held number more =
    ap (λ (k : ℕ). take k (low_bytes held number ++ more)) (sym (length-low_bytes held number)) ∙ take-append_seam (low_bytes held number) more
