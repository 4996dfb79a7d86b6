-- Words that stay are shown as they are; what a byte gives, and the rest after it.
use Rattle.std.proofs.Common.{◌≡◌, ℕ, ◌*◌, ◌+◌, ◌%◌, ◌<◌, ◌≤◌, Bool, true, false, List, [], ◌∷◌, ◌++◌, refl, ap, ◌∙◌, append_assoc, arith, leb-true, length, get_or, Option, Some, None}
use Rattle.std.proofs.lemmas.Bool.{le-leb, leb-false, lt-leb}
use Rattle.std.proofs.lemmas.Bool.Decides.{nat_tests}
use Rattle.std.specs.Prelude.{not, ◌&&◌, ◌||◌, ◌==◌, nat_le, is_none}
use Rattle.std.specs.List.{list_all, range_with_len}
use Rattle.std.proofs.lemmas.List.FromFn.{get_or-range_with_len, length-range_with_len}
use Rattle.std.proofs.lemmas.List.Folds.{list_all_at}
use Rattle.conode_text.specs.Unseen.{is_high_unseen, is_low_unseen, is_middle_unseen}
use Rattle.conode_text.specs.Unseen.{is_within as is_among}
use Rattle.conode_explain_text.specs.Said.{all_stay, code_of_three, code_of_two, first_shown, is_control, is_four, is_next, is_numbered, is_plain, is_three, is_two, is_within, numbered, passed_over, shown, shown_after, stays}

both : (a b : Bool) → (a && b) ≡ true → (a ≡ true) × (b ≡ true)
both true b h = (refl, h)
both false b h = cc

fails : (a : Bool) → not a ≡ true → a ≡ false
fails true h = absurd cc
fails false h = refl

and_false : (a : Bool) → (a && false) ≡ false
and_false true = refl
and_false false = refl

-- ---- a test that holds for each of a range

all_hold : (test : ℕ → Bool) (count n : ℕ) → list_all test (range_with_len 0 count) ≡ true → n < count → test n ≡ true
all_hold test count n all lt = by (test n) refl
  where
    by : (b : Bool) → test n ≡ b → test n ≡ true
    by true e = e
    by false e =
        let from_zero : 0 + n ≡ n = omega arith in
        let there : get_or (range_with_len 0 count) n 0 ≡ n = get_or-range_with_len 0 count n 0 lt ∙ from_zero in
        let some : n < length (range_with_len 0 count) = rw (length-range_with_len 0 count) lt in
        let none : list_all test (range_with_len 0 count) ≡ false = list_all_at test (range_with_len 0 count) n 0 some (ap test there ∙ e) in
        absurd cc

-- ---- no character with a number between U+061C and U+115F, and between U+3164 and U+FE00

is_other : (code n : ℕ) → code < n → (code == n) ≡ false
is_other code n h = grind (arith, nat_tests)

is_another : (code n : ℕ) → n < code → (code == n) ≡ false
is_another code n h = grind (arith, nat_tests)

is_before : (low high code : ℕ) → code < low → is_among low high code ≡ false
is_before low high code h = rw (lt-leb low code h) refl

is_after : (low high code : ℕ) → high < code → is_among low high code ≡ false
is_after low high code h = rw (lt-leb code high h) (and_false (nat_le low code))

not_numbered : (code : ℕ) → 0xA0 < code → is_low_unseen code ≡ false → is_middle_unseen code ≡ false → is_high_unseen code ≡ false → is_numbered code ≡ false
not_numbered code h low middle high = rw (lt-leb code 0xA0 h, and_false (nat_le 0x80 code), low, middle, high) refl

none_high : (code : ℕ) → code < 0x10000 → is_high_unseen code ≡ false
none_high code h = rw (is_before 0x1BCA0 0x1BCA3 code (omega arith), is_before 0x1D173 0x1D17A code (omega arith), is_before 0xE0000 0xE0FFF code (omega arith)) refl

none_early : (code : ℕ) → 0x61C < code → code < 0x115F → is_numbered code ≡ false
none_early code above below =
    let low : is_low_unseen code ≡ false = rw (is_another code 0xAD (omega arith), is_another code 0x34F (omega arith), is_another code 0x61C (omega arith), is_before 0x115F 0x1160 code (omega arith), is_other code 0x1680 (omega arith), is_before 0x17B4 0x17B5 code (omega arith), is_before 0x180B 0x180F code (omega arith)) refl in
    let middle : is_middle_unseen code ≡ false = rw (is_before 0x2000 0x200F code (omega arith), is_before 0x2028 0x202F code (omega arith), is_before 0x205F 0x206F code (omega arith), is_other code 0x3000 (omega arith), is_other code 0x3164 (omega arith), is_before 0xFE00 0xFE0F code (omega arith), is_other code 0xFEFF (omega arith), is_other code 0xFFA0 (omega arith), is_before 0xFFF0 0xFFFB code (omega arith)) refl in
    not_numbered code (omega arith) low middle (none_high code (omega arith))

none_late : (code : ℕ) → 0x3164 < code → code < 0xFE00 → is_numbered code ≡ false
none_late code above below =
    let low : is_low_unseen code ≡ false = rw (is_another code 0xAD (omega arith), is_another code 0x34F (omega arith), is_another code 0x61C (omega arith), is_after 0x115F 0x1160 code (omega arith), is_another code 0x1680 (omega arith), is_after 0x17B4 0x17B5 code (omega arith), is_after 0x180B 0x180F code (omega arith)) refl in
    let middle : is_middle_unseen code ≡ false = rw (is_after 0x2000 0x200F code (omega arith), is_after 0x2028 0x202F code (omega arith), is_after 0x205F 0x206F code (omega arith), is_another code 0x3000 (omega arith), is_another code 0x3164 (omega arith), is_before 0xFE00 0xFE0F code (omega arith), is_other code 0xFEFF (omega arith), is_other code 0xFFA0 (omega arith), is_before 0xFFF0 0xFFFB code (omega arith)) refl in
    not_numbered code (omega arith) low middle (none_high code (omega arith))

-- ---- the first bytes with which a character with a number may begin

abbrev begins : ℕ → Bool
begins byte = (byte == 0xC2) || (byte == 0xCD) || (byte == 0xD8) || is_within 0xE1 0xE3 byte || nat_le 0xEF byte

abbrev is_quiet : ℕ → Bool
is_quiet byte = list_all (λ low. not (is_numbered (0x40 * (byte % 0x20) + low))) (range_with_len 0 0x40)

abbrev fits : ℕ → Bool
fits byte = begins byte || (not (is_within 0xC0 0xDF byte) || is_quiet byte)

table : list_all fits (range_with_len 0 0xE0) ≡ true
table = refl

record Plain (byte : ℕ) : Type 0 where
  control : is_control byte ≡ false
  quiet : begins byte ≡ false

parts : (byte : ℕ) → is_plain byte ≡ true → Plain byte
parts byte h =
    let one = both (not (is_control byte)) (not (begins byte)) h in
    record { control = fails (is_control byte) one.0; quiet = fails (begins byte) one.1 }

-- the parts of `begins`
last : (a b c d e : Bool) → (a || b || c || d || e) ≡ false → (d ≡ false) × (e ≡ false)
last false false false false false h = (refl, refl)
last true b c d e h = absurd cc
last false true c d e h = absurd cc
last false false true d e h = absurd cc
last false false false true e h = absurd cc
last false false false false true h = absurd cc

record Within (low high byte : ℕ) : Type 0 where
  from : low ≤ byte
  to : byte ≤ high

within : (low high byte : ℕ) → is_within low high byte ≡ true → Within low high byte
within low high byte h =
    let parts = both (nat_le low byte) (nat_le byte high) h in
    record { from = leb-true low byte parts.0; to = leb-true byte high parts.1 }

-- less than E1h, or from E4h to EEh
record Sides (byte : ℕ) : Type 0 where
  below : byte < 0xEF
  gap : 0xE1 ≤ byte → 0xE4 ≤ byte

sides : (byte : ℕ) → Plain byte → Sides byte
sides byte p =
    let two = last (byte == 0xC2) (byte == 0xCD) (byte == 0xD8) (is_within 0xE1 0xE3 byte) (nat_le 0xEF byte) p.quiet in
    let below : byte < 0xEF = leb-false 0xEF byte two.1 in
    record { below = below; gap = λ from. gap from }
  where
    gap : 0xE1 ≤ byte → 0xE4 ≤ byte
    gap from =
        let two = last (byte == 0xC2) (byte == 0xCD) (byte == 0xD8) (is_within 0xE1 0xE3 byte) (nat_le 0xEF byte) p.quiet in
        let high : nat_le byte 0xE3 ≡ false = rw (le-leb 0xE1 byte from) at two.0 in
        leb-false byte 0xE3 high

two_never : (byte second : ℕ) → Plain byte → is_two byte second ≡ false
two_never byte second p = by (is_within 0xC0 0xDF byte) refl
  where
    by : (w : Bool) → is_within 0xC0 0xDF byte ≡ w → is_two byte second ≡ false
    by false e = rw e refl
    by true e =
        let high = leb-true byte 0xDF (both (nat_le 0xC0 byte) (nat_le byte 0xDF) e).1 in
        let holds : fits byte ≡ true = all_hold fits 0xE0 byte table (omega arith) in
        let quiet : is_quiet byte ≡ true = rw (p.quiet, e) at holds in
        let low : second % 0x40 < 0x40 = omega arith in
        let none : not (is_numbered (code_of_two byte second)) ≡ true =
        all_hold (λ low. not (is_numbered (0x40 * (byte % 0x20) + low))) 0x40 (second % 0x40) quiet low in
        rw (e, fails (is_numbered (code_of_two byte second)) none) (and_false (is_next second))

-- U+0800 to U+0FFF, and U+4000 to U+EFFF
three_quiet : (byte code second third : ℕ) → Sides byte → Within 0xE0 0xEF byte → code ≡ code_of_three byte second third → 0x800 ≤ code → is_numbered code ≡ false
three_quiet byte code second third s w same from = by (nat_le 0xE1 byte) refl
  where
    by : (b : Bool) → nat_le 0xE1 byte ≡ b → is_numbered code ≡ false
    by false e =
        let low : byte < 0xE1 = leb-false 0xE1 byte e in
        let first : byte ≡ 0xE0 = omega arith in
        let below : code < 0x1000 = omega arith in
        none_early code (omega arith) (omega arith)
    by true e =
        let gap : 0xE4 ≤ byte = s.gap (leb-true 0xE1 byte e) in
        let some : 4 ≤ byte % 0x10 = omega arith in
        let most : byte % 0x10 ≤ 0xE = omega arith in
        none_late code (omega arith) (omega arith)

three_never : (byte second third : ℕ) → Plain byte → is_three byte second third ≡ false
three_never byte second third p = by (is_within 0xE0 0xEF byte) refl
  where
    by : (w : Bool) → is_within 0xE0 0xEF byte ≡ w → is_three byte second third ≡ false
    by false e = rw e refl
    by true e = from (nat_le 0x800 (code_of_three byte second third)) refl
      where
        from : (b : Bool) → nat_le 0x800 (code_of_three byte second third) ≡ b → is_three byte second third ≡ false
        from false f = rw (e, f, and_false (is_next second && is_next third)) refl
        from true f =
            let w = within 0xE0 0xEF byte e in
            let least = leb-true 0x800 (code_of_three byte second third) f in
            let none = three_quiet byte (code_of_three byte second third) second third (sides byte p) w refl least in
            rw (e, none) (and_false (is_next second && is_next third && nat_le 0x800 (code_of_three byte second third)))

four_never : (byte second third fourth : ℕ) → Plain byte → is_four byte second third fourth ≡ false
four_never byte second third fourth p = by (is_within 0xF0 0xF7 byte) refl
  where
    by : (w : Bool) → is_within 0xF0 0xF7 byte ≡ w → is_four byte second third fourth ≡ false
    by false e = rw e refl
    by true e =
        let w = within 0xF0 0xF7 byte e in
        let s = sides byte p in
        absurd (omega arith)

-- a plain byte, whatever follows
none_numbered : (byte : ℕ) (rest : List ℕ) → Plain byte → numbered byte rest ≡ None
none_numbered byte rest p =
    rw (two_never byte (get_or rest 0 0) p, three_never byte (get_or rest 0 0) (get_or rest 1 0) p, four_never byte (get_or rest 0 0) (get_or rest 1 0) (get_or rest 2 0) p) refl

pub plain_byte_stays : (byte : ℕ) (rest : List ℕ) → is_plain byte ≡ true → stays byte rest ≡ true
plain_byte_stays byte rest h =
    let p = parts byte h in
    rw (none_numbered byte rest p, p.control) refl

-- ---- bytes that stay are shown as they are

first_stays : (byte : ℕ) (rest : List ℕ) → stays byte rest ≡ true → shown (byte ∷ rest) ≡ byte ∷ shown rest
first_stays byte rest h =
    let parts = both (not (is_control byte)) (is_none (numbered byte rest)) h in
    let control = fails (is_control byte) parts.0 in
    by (numbered byte rest) refl control parts.1
  where
    by : (n : Option (ℕ × ℕ)) → numbered byte rest ≡ n → is_control byte ≡ false → is_none (numbered byte rest) ≡ true → shown (byte ∷ rest) ≡ byte ∷ shown rest
    by None e control none = rw (e, control) refl
    by (Some n) e control none = absurd (let no = rw e at none in cc)

rest_stays : (byte : ℕ) (rest : List ℕ) → stays byte rest ≡ true → shown rest ≡ rest → shown (byte ∷ rest) ≡ byte ∷ rest
rest_stays byte rest h same = first_stays byte rest h ∙ ap (λ (more : List ℕ). byte ∷ more) same

pub all_shown : (said : List ℕ) → all_stay said ≡ true → shown said ≡ said
all_shown [] h = refl
all_shown (byte ∷ rest) h =
    let split = both (stays byte rest) (all_stay rest) h in
    rest_stays byte rest split.0 (all_shown rest split.1)

pub plain_stays : (said : List ℕ) → list_all is_plain said ≡ true → shown said ≡ said
plain_stays [] h = refl
plain_stays (byte ∷ bytes) h =
    let split = both (is_plain byte) (list_all is_plain bytes) h in
    rest_stays byte bytes (plain_byte_stays byte bytes split.0) (plain_stays bytes split.1)

-- ---- what a byte gives, and the rest after it

pub next : (old new rest : List ℕ) (skip after byte : ℕ) → skip ≤ 0 → new ≡ old ++ first_shown byte (numbered byte rest)
    → after ≡ passed_over (numbered byte rest) → new ++ shown_after after rest ≡ old ++ shown_after skip (byte ∷ rest)
next old new rest skip after byte none e f =
    let zero : skip ≡ 0 = omega arith in
    rw (zero, e, f) (append_assoc old (first_shown byte (numbered byte rest)) (shown_after (passed_over (numbered byte rest)) rest))
