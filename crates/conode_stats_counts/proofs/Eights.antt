-- Eight bits at once, by the tables, are eight bits one after another.
use Rattle.std.proofs.Common.{ℕ, zero, suc, Bool, true, false, List, [], ◌∷◌, ◌++◌, ◌≡◌, ◌∙◌, ◌+◌, ◌*◌, ◌/◌, ◌%◌, ◌^◌, ◌<◌, ◌≤◌, map, length, drop, get_or, bit_xor, subst, ap, ap₂, refl, sym, drop-cons, drop_of_length-le, arith}
use Rattle.std.specs.Prelude.{◌==◌, if◌then◌else◌, fold}
use Rattle.std.specs.List.{range_with_len}
use Rattle.std.proofs.lemmas.List.{get_or-map}
use Rattle.std.proofs.lemmas.List.FromFn.{get_or-map-range_with_len}
use Rattle.std.proofs.lemmas.Nat.{xor_lt}
use lib.Bits.{xor_assoc, xor_block, xor_comm, xor_mod, xor_shifted, xor_shr, xor_zero_r}
use Rattle.conode_stats_counts.specs.declared.steps.TheConstants.{CRC_STEPS, STUFF_STEPS}
use Rattle.conode_stats_counts.specs.declared.wire.Wire.{Wire}
use Rattle.conode_stats_counts.specs.Bits.{bits_of, crc_with, data_bits, stuffed_from}
use Rattle.conode_stats_counts.specs.Wires.{IsAfter, Sends}
use Rattle.conode_stats_counts.proofs.Sent.{both, none, split}

-- what a table has at a place is what a function gives there
at_place : (f : ℕ → ℕ) (table : List ℕ) (n k : ℕ) → map f (range_with_len 0 n) ≡ table → k < n → f k ≡ get_or table k 0
at_place f table n k e below = sym (get_or-map-range_with_len f 0 n k k 0 below (omega arith)) ∙ ap (λ (xs : List ℕ). get_or xs k 0) e

-- ---- the CRC

doubled : (a b : ℕ) → 2 * bit_xor a b ≡ bit_xor (2 * a) (2 * b)
doubled a b =
    let up : 2 * bit_xor a b ≡ bit_xor a b * 2 + 0 = omega arith in
    let e : bit_xor (a * 2 + 0) (b * 2 + 0) ≡ bit_xor a b * 2 + 0 = xor_block 1 a b 0 0 (omega arith) (omega arith) in
    let l : a * 2 + 0 ≡ 2 * a = omega arith in
    let m : b * 2 + 0 ≡ 2 * b = omega arith in
    up ∙ sym e ∙ ap₂ bit_xor l m

last_two : (a b c : ℕ) → bit_xor (bit_xor a b) c ≡ bit_xor (bit_xor a c) b
last_two a b c = xor_assoc a b c ∙ ap (λ (n : ℕ). bit_xor a n) (xor_comm b c) ∙ sym (xor_assoc a c b)

by_top : (same : Bool) (a b : ℕ)
    → (if same then bit_xor a b else bit_xor (bit_xor a b) 0x4599) ≡ bit_xor (if same then a else bit_xor a 0x4599) b
by_top true a b = refl
by_top false a b = last_two a b 0x4599

-- bits below the uppermost one are only shifted
apart : (upper lower bit : ℕ) → lower < 0x4000 → crc_with (bit_xor upper lower) bit ≡ bit_xor (crc_with upper bit) (2 * lower)
unfolding crc_with
apart upper lower bit small =
    let none : lower / 0x4000 ≡ 0 = omega arith in
    let all : lower % 0x4000 ≡ lower = omega arith in
    let top : bit_xor upper lower / 0x4000 ≡ upper / 0x4000 =
    xor_shr upper lower 14 ∙ ap (λ (n : ℕ). bit_xor (upper / 0x4000) n) none ∙ xor_zero_r (upper / 0x4000) in
    let rest : bit_xor upper lower % 0x4000 ≡ bit_xor (upper % 0x4000) lower =
    xor_mod upper lower 14 ∙ ap (λ (n : ℕ). bit_xor (upper % 0x4000) n) all in
    let twice : 2 * (bit_xor upper lower % 0x4000) ≡ bit_xor (2 * (upper % 0x4000)) (2 * lower) =
    ap (λ (n : ℕ). 2 * n) rest ∙ doubled (upper % 0x4000) lower in
    ap₂ (λ (t : ℕ) (s : ℕ). if t % 2 == bit then s else bit_xor s 0x4599) top twice
    ∙ by_top (upper / 0x4000 % 2 == bit) (2 * (upper % 0x4000)) (2 * lower)

same_bit : (top bit : ℕ) → top < 2 → bit < 2 → (bit_xor top bit == 0) ≡ (top == bit)
same_bit zero zero a b = refl
same_bit zero (suc zero) a b = refl
same_bit (suc zero) zero a b = refl
same_bit (suc zero) (suc zero) a b = refl
same_bit top (suc (suc bit)) a b = absurd (omega (arith, b))
same_bit (suc (suc top)) bit a b = absurd (omega (arith, a))

-- a bit of the frame counts as the uppermost one of the CRC
in_crc : (crc bit : ℕ) → bit < 2 → crc_with (bit_xor crc (bit * 0x4000)) 0 ≡ crc_with crc bit
unfolding crc_with
in_crc crc bit small =
    let down : bit * 0x4000 / 0x4000 ≡ bit = omega arith in
    let none : bit * 0x4000 % 0x4000 ≡ 0 = omega arith in
    let itself : bit % 2 ≡ bit = omega (arith, small) in
    let lower : crc / 0x4000 % 2 < 2 = omega arith in
    let top : bit_xor crc (bit * 0x4000) / 0x4000 % 2 ≡ bit_xor (crc / 0x4000 % 2) bit =
    ap (λ (n : ℕ). n % 2) (xor_shr crc (bit * 0x4000) 14 ∙ ap (λ (n : ℕ). bit_xor (crc / 0x4000) n) down)
    ∙ xor_mod (crc / 0x4000) bit 1 ∙ ap (λ (n : ℕ). bit_xor (crc / 0x4000 % 2) n) itself in
    let rest : bit_xor crc (bit * 0x4000) % 0x4000 ≡ crc % 0x4000 =
    xor_mod crc (bit * 0x4000) 14 ∙ ap (λ (n : ℕ). bit_xor (crc % 0x4000) n) none ∙ xor_zero_r (crc % 0x4000) in
    ap₂ (λ (t : ℕ) (s : ℕ). if t == 0 then 2 * s else bit_xor (2 * s) 0x4599) top rest
    ∙ ap (λ (test : Bool). if test then 2 * (crc % 0x4000) else bit_xor (2 * (crc % 0x4000)) 0x4599) (same_bit (crc / 0x4000 % 2) bit lower small)

first_of : (crc bit lower : ℕ) → bit < 2 → lower < 0x4000 → crc_with (bit_xor crc (0x4000 * bit + lower)) 0 ≡ bit_xor (crc_with crc bit) (2 * lower)
first_of crc bit lower a b =
    let sum : bit * 0x4000 + lower ≡ 0x4000 * bit + lower = omega arith in
    let parts : bit_xor crc (0x4000 * bit + lower) ≡ bit_xor (bit_xor crc (bit * 0x4000)) lower =
    ap (λ (n : ℕ). bit_xor crc n) (sym sum ∙ sym (xor_shifted bit 14 lower b)) ∙ sym (xor_assoc crc (bit * 0x4000) lower) in
    ap (λ (n : ℕ). crc_with n 0) parts ∙ apart (bit_xor crc (bit * 0x4000)) lower 0 b
    ∙ ap (λ (n : ℕ). bit_xor n (2 * lower)) (in_crc crc bit a)

abbrev four_zeros : ℕ → ℕ
four_zeros crc = crc_with (crc_with (crc_with (crc_with crc 0) 0) 0) 0

first_four : (crc a b c d lower : ℕ) → a < 2 → b < 2 → c < 2 → d < 2 → lower < 0x800
    → four_zeros (bit_xor crc (0x4000 * a + (0x2000 * b + (0x1000 * c + (0x800 * d + lower)))))
    ≡ bit_xor (crc_with (crc_with (crc_with (crc_with crc a) b) c) d) (16 * lower)
first_four crc a b c d lower e f g h small =
    let once = crc_with crc a in
    let twice = crc_with once b in
    let thrice = crc_with twice c in
    let p : 2 * (0x2000 * b + (0x1000 * c + (0x800 * d + lower))) ≡ 0x4000 * b + (0x2000 * c + (0x1000 * d + 2 * lower)) = omega arith in
    let q : 2 * (0x2000 * c + (0x1000 * d + 2 * lower)) ≡ 0x4000 * c + (0x2000 * d + 4 * lower) = omega arith in
    let r : 2 * (0x2000 * d + 4 * lower) ≡ 0x4000 * d + 8 * lower = omega arith in
    let s : 2 * (8 * lower) ≡ 16 * lower = omega arith in
    ap (λ (n : ℕ). crc_with (crc_with (crc_with n 0) 0) 0)
    (first_of crc a (0x2000 * b + (0x1000 * c + (0x800 * d + lower))) e (omega (arith, f, g, h, small)) ∙ ap (λ (n : ℕ). bit_xor once n) p)
    ∙ ap (λ (n : ℕ). crc_with (crc_with n 0) 0)
    (first_of once b (0x2000 * c + (0x1000 * d + 2 * lower)) f (omega (arith, g, h, small)) ∙ ap (λ (n : ℕ). bit_xor twice n) q)
    ∙ ap (λ (n : ℕ). crc_with n 0)
    (first_of twice c (0x2000 * d + 4 * lower) g (omega (arith, h, small)) ∙ ap (λ (n : ℕ). bit_xor thrice n) r)
    ∙ first_of thrice d (8 * lower) h (omega (arith, small)) ∙ ap (λ (n : ℕ). bit_xor (crc_with thrice d) n) s

abbrev eight_zeros : ℕ → ℕ
eight_zeros crc = four_zeros (four_zeros crc)

byte_in_crc : (crc byte : ℕ) → byte < 256 → eight_zeros (bit_xor crc (byte * 0x80)) ≡ fold crc_with crc (bits_of 8 byte)
unfolding bits_of
byte_in_crc crc byte small =
    let a = byte / 128 % 2 in
    let b = byte / 64 % 2 in
    let c = byte / 32 % 2 in
    let d = byte / 16 % 2 in
    let middle = crc_with (crc_with (crc_with (crc_with crc a) b) c) d in
    let upper : byte * 0x80 ≡ 0x4000 * (byte / 128 % 2) + (0x2000 * (byte / 64 % 2) + (0x1000 * (byte / 32 % 2) + (0x800 * (byte / 16 % 2) + 0x80 * (byte % 16)))) =
    omega (arith, small) in
    let lower : 16 * (0x80 * (byte % 16)) ≡ 0x4000 * (byte / 8 % 2) + (0x2000 * (byte / 4 % 2) + (0x1000 * (byte / 2 % 2) + (0x800 * (byte / 1 % 2) + 0))) =
    omega arith in
    ap (λ (n : ℕ). four_zeros (four_zeros (bit_xor crc n))) upper
    ∙ ap (λ (n : ℕ). four_zeros n) (first_four crc a b c d (0x80 * (byte % 16)) (omega arith) (omega arith) (omega arith) (omega arith) (omega arith))
    ∙ ap (λ (n : ℕ). four_zeros (bit_xor middle n)) lower
    ∙ first_four middle (byte / 8 % 2) (byte / 4 % 2) (byte / 2 % 2) (byte / 1 % 2) 0 (omega arith) (omega arith) (omega arith) (omega arith) (omega arith)
    ∙ xor_zero_r _

-- below the uppermost eight bits
shifted : (upper lower : ℕ) → lower < 0x80 → eight_zeros (bit_xor upper lower) ≡ bit_xor (eight_zeros upper) (256 * lower)
shifted upper lower small =
    let sum : 0x4000 * 0 + (0x2000 * 0 + (0x1000 * 0 + (0x800 * 0 + lower))) ≡ lower = omega arith in
    let more : 0x4000 * 0 + (0x2000 * 0 + (0x1000 * 0 + (0x800 * 0 + 16 * lower))) ≡ 16 * lower = omega arith in
    let all : 16 * (16 * lower) ≡ 256 * lower = omega arith in
    ap (λ (n : ℕ). four_zeros (four_zeros (bit_xor upper n))) (sym sum)
    ∙ ap (λ (n : ℕ). four_zeros n) (first_four upper 0 0 0 0 lower (omega arith) (omega arith) (omega arith) (omega arith) (omega (arith, small)))
    ∙ ap (λ (n : ℕ). four_zeros (bit_xor (four_zeros upper) n)) (sym more)
    ∙ first_four (four_zeros upper) 0 0 0 0 (16 * lower) (omega arith) (omega arith) (omega arith) (omega arith) (omega (arith, small))
    ∙ ap (λ (n : ℕ). bit_xor (eight_zeros upper) n) all

crc_steps : map (λ (k : ℕ). eight_zeros (k * 0x80)) (range_with_len 0 512) ≡ CRC_STEPS ++ CRC_STEPS
unfolding crc_with
crc_steps = refl

crc_twice : map (λ (k : ℕ). get_or CRC_STEPS (k % 256) 0) (range_with_len 0 512) ≡ CRC_STEPS ++ CRC_STEPS
crc_twice = refl

crc_step : (upper : ℕ) → upper < 512 → eight_zeros (upper * 0x80) ≡ get_or CRC_STEPS (upper % 256) 0
crc_step upper few =
    at_place (λ (k : ℕ). eight_zeros (k * 0x80)) (CRC_STEPS ++ CRC_STEPS) 512 upper crc_steps few
    ∙ sym (at_place (λ (k : ℕ). get_or CRC_STEPS (k % 256) 0) (CRC_STEPS ++ CRC_STEPS) 512 upper crc_twice few)

pub crc_byte : (crc byte : ℕ) → crc < 0x10000 → byte < 256
    → bit_xor (256 * (crc % 0x80)) (get_or CRC_STEPS (bit_xor (crc / 0x80) byte % 256) 0) ≡ fold crc_with crc (bits_of 8 byte)
crc_byte crc byte short small =
    let upper = bit_xor (crc / 0x80) byte in
    let step = get_or CRC_STEPS (bit_xor (crc / 0x80) byte % 256) 0 in
    let below : crc % 0x80 < 0x80 = omega arith in
    let parts : crc / 0x80 * 0x80 + crc % 0x80 ≡ crc = omega arith in
    let more : byte * 0x80 + 0 ≡ byte * 0x80 = omega arith in
    let few : bit_xor (crc / 0x80) byte < 512 = xor_lt 9 (crc / 0x80) byte (omega (arith, short)) (omega (arith, small)) in
    let all : bit_xor crc (byte * 0x80) ≡ bit_xor (bit_xor (crc / 0x80) byte * 0x80) (crc % 0x80) =
    ap₂ bit_xor (sym parts) (sym more) ∙ xor_block 7 (crc / 0x80) byte (crc % 0x80) 0 below (omega arith)
    ∙ ap (λ (n : ℕ). upper * 0x80 + n) (xor_zero_r (crc % 0x80)) ∙ sym (xor_shifted upper 7 (crc % 0x80) below) in
    xor_comm (256 * (crc % 0x80)) step ∙ ap (λ (n : ℕ). bit_xor n (256 * (crc % 0x80))) (sym (crc_step upper few))
    ∙ sym (shifted (upper * 0x80) (crc % 0x80) below) ∙ ap (λ (n : ℕ). eight_zeros n) (sym all) ∙ byte_in_crc crc byte small

-- ---- stuff bits

-- those of eight bits after a run, by 256 * run + the bits, and of more after them
before_more : List ℕ → ℕ → ℕ
before_more more k = stuffed_from (k / 1024) (k / 256 % 4 + 1) (bits_of 8 (k % 256) ++ more)

ones : ℕ → ℕ → ℕ
ones zero n = n
ones (suc k) n = 1 + ones k n

ones_added : (k n : ℕ) → ones k n ≡ k + n
unfolding ones
ones_added zero n = omega arith
ones_added (suc k) n = let e = ones_added k n in omega (arith, e)

with_step : List ℕ → ℕ → ℕ
with_step more step = ones (step / 8) (stuffed_from (step % 8 / 4) (step % 8 % 4 + 1) more)

stuff_steps : (more : List ℕ) → map (before_more more) (range_with_len 0 2048) ≡ map (with_step more) STUFF_STEPS
unfolding bits_of stuffed_from before_more with_step ones
stuff_steps more = refl

abbrev pub step_of : ℕ → ℕ → ℕ
step_of run byte = get_or STUFF_STEPS (256 * run + byte) 0

stuff_step : (more : List ℕ) (run byte : ℕ) → run < 8 → byte < 256
    → stuffed_from (run / 4) (run % 4 + 1) (bits_of 8 byte ++ more)
    ≡ step_of run byte / 8 + stuffed_from (step_of run byte % 8 / 4) (step_of run byte % 8 % 4 + 1) more
unfolding before_more with_step
stuff_step more run byte a b =
    let k = 256 * run + byte in
    let e : (256 * run + byte) / 1024 ≡ run / 4 = omega (arith, b) in
    let f : (256 * run + byte) / 256 % 4 ≡ run % 4 = omega (arith, b) in
    let g : (256 * run + byte) % 256 ≡ byte = omega (arith, b) in
    let below : 256 * run + byte < 2048 = omega (arith, a, b) in
    ap₂ (λ (last : ℕ) (length : ℕ). stuffed_from last (length + 1) (bits_of 8 byte ++ more)) (sym e) (sym f)
    ∙ ap (λ (n : ℕ). stuffed_from (k / 1024) (k / 256 % 4 + 1) (bits_of 8 n ++ more)) (sym g)
    ∙ at_place (before_more more) (map (with_step more) STUFF_STEPS) 2048 k (stuff_steps more) below
    ∙ get_or-map (with_step more) STUFF_STEPS k 0 0 below
    ∙ ones_added (step_of run byte / 8) _

pub byte_sent : (wire next : Wire) (byte : ℕ) → wire.run < 8 → byte < 256 → next.crc ≡ fold crc_with wire.crc (bits_of 8 byte)
    → next.run ≡ step_of wire.run byte % 8
    → next.stuffed ≡ wire.stuffed + step_of wire.run byte / 8
    → Sends wire (bits_of 8 byte) next
byte_sent wire next byte a b e f g = record {
  crc = e;
  stuffed = λ more. let h = stuff_step more wire.run byte a b in
      rw (f, g) (omega (arith, h));
}

-- ---- eight bits of a number, and a byte of bytes

eight : (n a b c d e f g h : ℕ) → n / 128 % 2 ≡ a → n / 64 % 2 ≡ b → n / 32 % 2 ≡ c → n / 16 % 2 ≡ d → n / 8 % 2 ≡ e → n / 4 % 2 ≡ f → n / 2 % 2 ≡ g
    → n / 1 % 2 ≡ h
    → bits_of 8 n ≡ a ∷ b ∷ c ∷ d ∷ e ∷ f ∷ g ∷ h ∷ []
unfolding bits_of
eight n a b c d e f g h p q r s t u v w =
    ap₂ (λ (x : ℕ) (xs : List ℕ). x ∷ xs) p (ap₂ (λ (x : ℕ) (xs : List ℕ). x ∷ xs) q (ap₂ (λ (x : ℕ) (xs : List ℕ). x ∷ xs) r
    (ap₂ (λ (x : ℕ) (xs : List ℕ). x ∷ xs) s (ap₂ (λ (x : ℕ) (xs : List ℕ). x ∷ xs) t (ap₂ (λ (x : ℕ) (xs : List ℕ). x ∷ xs) u
    (ap₂ (λ (x : ℕ) (xs : List ℕ). x ∷ xs) v (ap (λ (x : ℕ). x ∷ []) w)))))))

byte_of : (n : ℕ) → bits_of 8 (n % 256) ≡ bits_of 8 n
unfolding bits_of
byte_of n =
    eight (n % 256) _ _ _ _ _ _ _ _
    (let e : n % 256 / 128 % 2 ≡ n / 128 % 2 = omega arith in e)
    (let e : n % 256 / 64 % 2 ≡ n / 64 % 2 = omega arith in e)
    (let e : n % 256 / 32 % 2 ≡ n / 32 % 2 = omega arith in e)
    (let e : n % 256 / 16 % 2 ≡ n / 16 % 2 = omega arith in e)
    (let e : n % 256 / 8 % 2 ≡ n / 8 % 2 = omega arith in e)
    (let e : n % 256 / 4 % 2 ≡ n / 4 % 2 = omega arith in e)
    (let e : n % 256 / 2 % 2 ≡ n / 2 % 2 = omega arith in e)
    (let e : n % 256 / 1 % 2 ≡ n / 1 % 2 = omega arith in e)

pub eight_first : (wire next after : Wire) (low count number : ℕ) → count ≡ low + 8 → Sends wire (bits_of 8 (number / 2 ^ low % 256)) next
    → Sends next (bits_of low number) after
    → Sends wire (bits_of count number) after
eight_first wire next after low count number e s t =
    let all : 8 + low ≡ count = omega (arith, e) in
    let bits : bits_of 8 (number / 2 ^ low % 256) ++ bits_of low number ≡ bits_of count number =
    ap (λ (xs : List ℕ). xs ++ bits_of low number) (byte_of (number / 2 ^ low)) ∙ sym (split 8 low number) ∙ ap (λ (n : ℕ). bits_of n number) all in
    subst (λ (xs : List ℕ). Sends wire xs after) bits (both wire next after (bits_of 8 (number / 2 ^ low % 256)) (bits_of low number) s t)

pub no_more_bits : (wire before : Wire) (low count number : ℕ) → low % 8 ≡ 0 → low < 8
    → ((after : Wire) → Sends wire (bits_of low number) after → Sends before (bits_of count number) after)
    → Sends before (bits_of count number) wire
unfolding bits_of
no_more_bits wire before low count number whole few rest =
    let zero_left : 0 ≡ low = omega (arith, whole, few) in
    rest wire (subst (λ (n : ℕ). Sends wire (bits_of n number) wire) zero_left (none wire))

pub byte_first : (wire next after : Wire) (bytes : List ℕ) (place byte : ℕ) → place < length bytes → byte ≡ get_or bytes place 0
    → Sends wire (bits_of 8 byte) next
    → Sends next (data_bits (drop (place + 1) bytes)) after
    → Sends wire (data_bits (drop place bytes)) after
byte_first wire next after bytes place byte inside e s t =
    let further : suc place ≡ place + 1 = omega arith in
    let rest : drop place bytes ≡ byte ∷ drop (place + 1) bytes =
    drop-cons bytes place 0 inside ∙ ap₂ (λ (b : ℕ) (n : ℕ). b ∷ drop n bytes) (sym e) further in
    subst (λ (xs : List ℕ). Sends wire (data_bits xs) after) (sym rest) (both wire next after (bits_of 8 byte) (data_bits (drop (place + 1) bytes)) s t)

pub no_more_bytes : (wire before : Wire) (bytes : List ℕ) (place : ℕ) → length bytes ≤ place
    → ((after : Wire) → Sends wire (data_bits (drop place bytes)) after → Sends before (data_bits bytes) after)
    → Sends before (data_bits bytes) wire
no_more_bytes wire before bytes place past rest =
    rest wire (subst (λ (xs : List ℕ). Sends wire (data_bits xs) wire) (sym (drop_of_length-le bytes past)) (none wire))

-- ---- the start of a head, with the bits before it

abbrev before : ℕ → Wire
before crc = record { crc = crc; run = 4; stuffed = 0 }

after_dominant : (wire : Wire) (bits : List ℕ) → Sends (before 0x5400) (1 ∷ 0 ∷ 1 ∷ 0 ∷ 1 ∷ 0 ∷ bits) wire → IsAfter wire (0 ∷ bits)
unfolding crc_with stuffed_from
after_dominant wire bits s = record {
  crc = s.crc;
  stuffed = λ more. let e : 0 + stuffed_from 0 1 (bits ++ more) ≡ stuffed_from 0 1 (bits ++ more) = omega arith in s.stuffed more ∙ e;
}

after_recessive : (wire : Wire) (bits : List ℕ) → Sends (before 0x2800) (0 ∷ 1 ∷ 0 ∷ 1 ∷ 0 ∷ 1 ∷ bits) wire → IsAfter wire (1 ∷ bits)
unfolding crc_with stuffed_from
after_recessive wire bits s = record {
  crc = s.crc;
  stuffed = λ more. let e : 0 + stuffed_from 1 1 (bits ++ more) ≡ stuffed_from 1 1 (bits ++ more) = omega arith in s.stuffed more ∙ e;
}

after_one : (wire : Wire) (bits : List ℕ) → Sends (before 0x4000) (1 ∷ 0 ∷ bits) wire → IsAfter wire (0 ∷ bits)
unfolding crc_with stuffed_from
after_one wire bits s = record {
  crc = s.crc;
  stuffed = λ more. let e : 0 + stuffed_from 0 1 (bits ++ more) ≡ stuffed_from 0 1 (bits ++ more) = omega arith in s.stuffed more ∙ e;
}

after_zero : (wire : Wire) (bits : List ℕ) → Sends (before 0) (0 ∷ 1 ∷ bits) wire → IsAfter wire (1 ∷ bits)
unfolding crc_with stuffed_from
after_zero wire bits s = record {
  crc = s.crc;
  stuffed = λ more. let e : 0 + stuffed_from 1 1 (bits ++ more) ≡ stuffed_from 1 1 (bits ++ more) = omega arith in s.stuffed more ∙ e;
}

first_is : (n rest first : ℕ) (wire : Wire) → n / 2 ^ rest % 2 ≡ first → IsAfter wire (first ∷ bits_of rest n) → IsAfter wire (bits_of (suc rest) n)
unfolding bits_of
first_is n rest first wire e s = subst (λ (b : ℕ). IsAfter wire (b ∷ bits_of rest n)) (sym e) s

pub base_dominant : (wire : Wire) (upper : ℕ) → upper < 4 → Sends (before 0x5400) (bits_of 8 (0xA8 + upper)) wire → IsAfter wire (bits_of 3 upper)
unfolding bits_of
base_dominant wire upper small s =
    let e : bits_of 8 (0xA8 + upper) ≡ 1 ∷ 0 ∷ 1 ∷ 0 ∷ 1 ∷ 0 ∷ upper / 2 % 2 ∷ upper / 1 % 2 ∷ [] =
    eight (0xA8 + upper) 1 0 1 0 1 0 _ _ (omega (arith, small)) (omega (arith, small)) (omega (arith, small)) (omega (arith, small)) (omega (arith, small))
    (omega (arith, small)) (omega (arith, small)) (omega (arith, small)) in
    let first : upper / 4 % 2 ≡ 0 = omega (arith, small) in
    first_is upper 2 0 wire first (after_dominant wire (bits_of 2 upper) (subst (λ (xs : List ℕ). Sends (before 0x5400) xs wire) e s))

pub base_recessive : (wire : Wire) (upper : ℕ) → 4 ≤ upper → upper < 8 → Sends (before 0x2800) (bits_of 8 (0x50 + upper)) wire → IsAfter wire (bits_of 3 upper)
unfolding bits_of
base_recessive wire upper large small s =
    let e : bits_of 8 (0x50 + upper) ≡ 0 ∷ 1 ∷ 0 ∷ 1 ∷ 0 ∷ 1 ∷ upper / 2 % 2 ∷ upper / 1 % 2 ∷ [] =
    eight (0x50 + upper) 0 1 0 1 0 1 _ _ (omega (arith, large, small)) (omega (arith, large, small)) (omega (arith, large, small)) (omega (arith, large, small))
    (omega (arith, large, small)) (omega (arith, large, small)) (omega (arith, large, small)) (omega (arith, large, small)) in
    let first : upper / 4 % 2 ≡ 1 = omega (arith, large, small) in
    first_is upper 2 1 wire first (after_recessive wire (bits_of 2 upper) (subst (λ (xs : List ℕ). Sends (before 0x2800) xs wire) e s))

lower_six : (n : ℕ) → bits_of 6 n ≡ n / 32 % 2 ∷ n / 16 % 2 ∷ n / 8 % 2 ∷ n / 4 % 2 ∷ n / 2 % 2 ∷ n / 1 % 2 ∷ []
unfolding bits_of
lower_six n = refl

pub extended_dominant : (wire : Wire) (upper : ℕ) → upper < 64 → Sends (before 0x4000) (bits_of 8 (0x80 + upper)) wire → IsAfter wire (bits_of 7 upper)
extended_dominant wire upper small s =
    let e : bits_of 8 (0x80 + upper) ≡ 1 ∷ 0 ∷ upper / 32 % 2 ∷ upper / 16 % 2 ∷ upper / 8 % 2 ∷ upper / 4 % 2 ∷ upper / 2 % 2 ∷ upper / 1 % 2 ∷ [] =
    eight (0x80 + upper) 1 0 _ _ _ _ _ _ (omega (arith, small)) (omega (arith, small)) (omega (arith, small)) (omega (arith, small)) (omega (arith, small))
    (omega (arith, small)) (omega (arith, small)) (omega (arith, small)) in
    let f : bits_of 8 (0x80 + upper) ≡ 1 ∷ 0 ∷ bits_of 6 upper = e ∙ ap (λ (xs : List ℕ). 1 ∷ 0 ∷ xs) (sym (lower_six upper)) in
    let first : upper / 64 % 2 ≡ 0 = omega (arith, small) in
    first_is upper 6 0 wire first (after_one wire (bits_of 6 upper) (subst (λ (xs : List ℕ). Sends (before 0x4000) xs wire) f s))

pub extended_recessive : (wire : Wire) (upper : ℕ) → 64 ≤ upper → upper < 128 → Sends (before 0) (bits_of 8 upper) wire → IsAfter wire (bits_of 7 upper)
extended_recessive wire upper large small s =
    let e : bits_of 8 upper ≡ 0 ∷ 1 ∷ upper / 32 % 2 ∷ upper / 16 % 2 ∷ upper / 8 % 2 ∷ upper / 4 % 2 ∷ upper / 2 % 2 ∷ upper / 1 % 2 ∷ [] =
    eight upper 0 1 _ _ _ _ _ _ (omega (arith, large, small)) (omega (arith, large, small)) refl refl refl refl refl refl in
    let f : bits_of 8 upper ≡ 0 ∷ 1 ∷ bits_of 6 upper = e ∙ ap (λ (xs : List ℕ). 0 ∷ 1 ∷ xs) (sym (lower_six upper)) in
    let first : upper / 64 % 2 ≡ 1 = omega (arith, large, small) in
    first_is upper 6 1 wire first (after_zero wire (bits_of 6 upper) (subst (λ (xs : List ℕ). Sends (before 0) xs wire) f s))
