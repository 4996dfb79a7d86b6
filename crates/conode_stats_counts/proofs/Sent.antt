-- What is counted while bits are sent is what the definitions say of them.
use Rattle.std.proofs.Common.{ℕ, zero, suc, Bool, true, false, List, [], ◌∷◌, ◌++◌, ◌≡◌, ◌∙◌, ◌+◌, ◌-◌, ◌*◌, ◌/◌, ◌%◌, ◌^◌, ◌<◌, length, ap, ap₂, subst, refl, sym, append-nil, shr-shr, arith}
use Rattle.std.specs.Prelude.{◌==◌, if◌then◌else◌, fold}
use Rattle.std.proofs.lemmas.Bool.Decides.{nat_tests}
use Rattle.std.proofs.lemmas.List.{append_assoc, length-append}
use Rattle.std.proofs.lemmas.List.Sums.{fold-append}
use Rattle.co_text.proofs.Tests.{by_test}
use Rattle.conode_stats_counts.specs.declared.wire.Wire.{Wire}
use Rattle.conode_stats_counts.specs.Bits.{bits_of, crc_of, crc_with, data_bits, frame_bits, stuff_bits, stuffed_from, with_crc}
use Rattle.conode_stats_counts.specs.Wires.{IsAfter, Sends, stuffed_with}

-- ---- bits after bits

pub none : (wire : Wire) → Sends wire [] wire
none wire = record { crc = refl; stuffed = λ more. refl }

pub both : (a b c : Wire) (xs ys : List ℕ) → Sends a xs b → Sends b ys c → Sends a (xs ++ ys) c
both a b c xs ys s t = record {
  crc = t.crc ∙ ap (λ (n : ℕ). fold crc_with n ys) s.crc ∙ sym (fold-append crc_with a.crc xs ys);
  stuffed = λ more. t.stuffed more ∙ s.stuffed (ys ++ more) ∙ ap (λ (bits : List ℕ). stuffed_with a bits) (sym (append_assoc xs ys more));
}

pub after_both : (a b : Wire) (xs ys : List ℕ) → IsAfter a xs → Sends a ys b → IsAfter b (xs ++ ys)
after_both a b xs ys s t = record {
  crc = t.crc ∙ ap (λ (n : ℕ). fold crc_with n ys) s.crc ∙ sym (fold-append crc_with 0 xs ys);
  stuffed = λ more. t.stuffed more ∙ s.stuffed (ys ++ more) ∙ ap (λ (bits : List ℕ). stuff_bits bits) (sym (append_assoc xs ys more));
}

-- ---- a number in two parts

pub split : (m n number : ℕ) → bits_of (m + n) number ≡ bits_of m (number / 2 ^ n) ++ bits_of n number
unfolding bits_of
split zero n number = let e : 0 + n ≡ n = omega arith in ap (λ (k : ℕ). bits_of k number) e
split (suc m) n number =
    let e : suc m + n ≡ suc (m + n) = omega arith in
    let f : m + n ≡ n + m = omega arith in
    let g : number / 2 ^ (m + n) % 2 ≡ number / 2 ^ n / 2 ^ m % 2 =
    ap (λ (k : ℕ). number / 2 ^ k % 2) f ∙ ap (λ (k : ℕ). k % 2) (sym (shr-shr number n m)) in
    ap (λ (k : ℕ). bits_of k number) e ∙ ap₂ (λ (b : ℕ) (bits : List ℕ). b ∷ bits) g (split m n number)

pub counted : (n number : ℕ) → length (bits_of n number) ≡ n
unfolding bits_of
counted zero number = refl
counted (suc n) number = ap (λ (k : ℕ). suc k) (counted n number)

pub counted_data : (bytes : List ℕ) → length (data_bits bytes) ≡ 8 * length bytes
counted_data [] = refl
counted_data (byte ∷ bytes) =
    let rest = counted_data bytes in
    let one = counted 8 byte in
    length-append (bits_of 8 byte) (data_bits bytes) ∙ omega (arith, rest, one)

-- ---- the bit after the CRC

-- one bit more has no stuff bit, unless it is the fifth that is the same
alone : (bit last run : ℕ) → (run == 4) ≡ false → stuffed_from last run (bit ∷ []) ≡ 0
unfolding stuffed_from
alone bit last run e = by_test (bit == last) (λ is. rw (is, e) refl) (λ isn't. rw isn't refl)

other : (bit last run : ℕ) → (bit == last) ≡ false → stuffed_from last run (bit ∷ []) ≡ 0
unfolding stuffed_from
other bit last run e = rw e refl

by_cases : (same four : Bool) (p q r s t u : ℕ) → p ≡ s → q ≡ t → r ≡ u
    → (if same then (if four then 1 + p else q) else r) ≡ (if same then (if four then 1 + s else t) else u)
by_cases true true p q r s t u e f g = ap (λ (n : ℕ). 1 + n) e
by_cases true false p q r s t u e f g = f
by_cases false four p q r s t u e f g = g

-- a bit other than the last one has none
last_other : (last run bit : ℕ) → bit < 2 → stuffed_from last run (bit ∷ (1 - bit) ∷ []) ≡ stuffed_from last run (bit ∷ [])
unfolding stuffed_from
last_other last run bit small = by_test (bit == last)
    (λ is. let isn't : (1 - bit == last) ≡ false = grind (arith, nat_tests) in
    rw is (by_cases true (run == 4) _ _ 0 _ _ 0 (alone (1 - bit) (1 - bit) 1 refl) (other (1 - bit) last (run + 1) isn't) refl))
    (λ isn't. rw isn't (alone (1 - bit) bit 1 refl))

one_more : (bits : List ℕ) (last run bit : ℕ) → bit < 2 → stuffed_from last run (bits ++ bit ∷ (1 - bit) ∷ []) ≡ stuffed_from last run (bits ++ bit ∷ [])
unfolding stuffed_from
one_more [] last run bit small = last_other last run bit small
one_more (x ∷ bits) last run bit small =
    by_cases (x == last) (run == 4) _ _ _ _ _ _ (one_more bits (1 - x) 1 bit small) (one_more bits last (run + 1) bit small) (one_more bits x 1 bit small)

-- the CRC and such a bit
closed : (bits : List ℕ) (crc : ℕ) → stuff_bits (bits ++ bits_of 16 (2 * crc + (1 - crc % 2))) ≡ stuff_bits (bits ++ bits_of 15 crc)
unfolding bits_of
closed bits crc =
    let half : (2 * crc + (1 - crc % 2)) / 2 ≡ crc = omega arith in
    let last : (2 * crc + (1 - crc % 2)) / 1 % 2 ≡ 1 - crc % 2 = omega arith in
    let own : crc / 1 % 2 ≡ crc % 2 = omega arith in
    let small : crc % 2 < 2 = omega arith in
    let front = bits_of 14 (crc / 2) in
    let up : bits_of 15 crc ≡ bits_of 14 (crc / 2) ++ crc % 2 ∷ [] =
    split 14 1 crc ∙ ap (λ (b : ℕ). bits_of 14 (crc / 2) ++ b ∷ []) own in
    let all : bits_of 16 (2 * crc + (1 - crc % 2)) ≡ bits_of 14 (crc / 2) ++ crc % 2 ∷ (1 - crc % 2) ∷ [] =
    split 15 1 (2 * crc + (1 - crc % 2))
    ∙ ap₂ (λ (n : ℕ) (b : ℕ). bits_of 15 n ++ b ∷ []) half last
    ∙ ap (λ (xs : List ℕ). xs ++ (1 - crc % 2) ∷ []) up
    ∙ append_assoc (bits_of 14 (crc / 2)) (crc % 2 ∷ []) ((1 - crc % 2) ∷ []) in
    ap (λ (xs : List ℕ). stuff_bits (bits ++ xs)) all
    ∙ ap (λ (xs : List ℕ). stuff_bits xs) (sym (append_assoc bits front (crc % 2 ∷ (1 - crc % 2) ∷ [])))
    ∙ one_more (bits ++ front) 1 0 (crc % 2) small
    ∙ ap (λ (xs : List ℕ). stuff_bits xs) (append_assoc bits front (crc % 2 ∷ []))
    ∙ ap (λ (xs : List ℕ). stuff_bits (bits ++ xs)) (sym up)

-- ---- the whole

nothing_left : (wire : Wire) → stuffed_with wire [] ≡ wire.stuffed
unfolding stuffed_from
nothing_left wire = omega arith

pub sent_all : (wire end : Wire) (bits : List ℕ) (sent : ℕ) → IsAfter wire bits → Sends wire (bits_of 16 (2 * wire.crc + (1 - wire.crc % 2))) end
    → length bits + 15 ≡ sent
    → sent + end.stuffed + 13 ≡ frame_bits bits
unfolding frame_bits
sent_all wire end bits sent s t e =
    let last = bits_of 16 (2 * wire.crc + (1 - wire.crc % 2)) in
    let stuffed : end.stuffed ≡ stuff_bits (with_crc bits) =
    sym (nothing_left end) ∙ t.stuffed [] ∙ ap (λ (xs : List ℕ). stuffed_with wire xs) (append-nil last) ∙ s.stuffed last
    ∙ closed bits wire.crc
    ∙ ap (λ (n : ℕ). stuff_bits (bits ++ bits_of 15 n)) s.crc in
    let fifteen = counted 15 (crc_of bits) in
    let long : length (with_crc bits) ≡ sent = length-append bits (bits_of 15 (crc_of bits)) ∙ omega (arith, e, fifteen) in
    rw (stuffed, long) refl

-- a head in two parts, and the data
pub headed : (start middle all : Wire) (m n head : ℕ) (bytes : List ℕ) → IsAfter start (bits_of m (head / 2 ^ n)) → Sends start (bits_of n head) middle
    → Sends middle (data_bits bytes) all
    → IsAfter all (bits_of (m + n) head ++ data_bits bytes)
headed start middle all m n head bytes s t u =
    let parts = after_both start middle (bits_of m (head / 2 ^ n)) (bits_of n head) s t in
    after_both middle all (bits_of (m + n) head) (data_bits bytes)
    (subst (λ (bits : List ℕ). IsAfter middle bits) (sym (split m n head)) parts) u

pub headed_length : (count head : ℕ) (bytes : List ℕ) → length (bits_of count head ++ data_bits bytes) ≡ count + 8 * length bytes
headed_length count head bytes =
    let a = counted count head in
    let b = counted_data bytes in
    length-append (bits_of count head) (data_bits bytes) ∙ omega (arith, a, b)

-- a remote frame has no data
pub nothing_after : (bits : List ℕ) → bits ++ [] ≡ bits
nothing_after bits = append-nil bits
