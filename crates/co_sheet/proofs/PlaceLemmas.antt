-- In a list whose keys differ, to count the places up to n is to ask whether one of them is missing.
use Rattle.std.proofs.Common.{◌≡◌, ℕ, zero, suc, ◌+◌, ◌*◌, ◌≤◌, ◌<◌, Bool, true, false, cond, not, ◌&&◌, ◌||◌, List, [], ◌∷◌, refl, sym, ap, ◌∙◌, subst, arith, length, map, fold, eqb, ltb, leb, eqb-true, leb-true, ltb-true}
use Rattle.std.proofs.lemmas.Bool.{and_parts}
use Rattle.std.proofs.lemmas.Bool.Decides.{nat_tests}
use Rattle.std.specs.Str.{str_to_ascii_lowercase}
use Rattle.std.proofs.lemmas.Slice.Eq.{bytes_eq-Decides}
use Rattle.std.proofs.lemmas.Str.{digit_value_digit}
use Rattle.std.proofs.lemmas.Str.Parse.{digit_from_value}
use Rattle.std.specs.List.{filter, list_any, list_all, range_with_len, AllByRecursion}
use Rattle.std.specs.Char.{digit_value, is_digit}
use Rattle.co_sheet_text.specs.Text.{same_name}
use Rattle.co_sheet_text.specs.Names.{number_in, is_position}
use Rattle.co_sheet_text.specs.Sections.{Property, TextSection}
use Rattle.co_sheet.specs.ObjectLists.{keys_to, has_place}
use Rattle.co_sheet_text.specs.SectionLaws.{IsLikeNone, AllDiffer, PropertiesDiffer}
use Rattle.co_sheet.specs.PlaceLaws.{CountsPlaces}

-- ---- a number is written in one way, without leading zeros

abbrev with_digit : ℕ → ℕ → ℕ
with_digit n digit = 10 * n + digit_value digit

abbrev AreDigits : List ℕ → Type 0
AreDigits cs = AllByRecursion (λ c. digit_value c < 10) cs

grows : (n : ℕ) (cs : List ℕ) → n ≤ fold with_digit n cs
grows n [] = omega arith
grows n (c ∷ cs) = let more = grows (10 * n + digit_value c) cs in omega arith

one_digit : (c d : ℕ) → digit_value c < 10 → digit_value d < 10 → digit_value c ≡ digit_value d → c ≡ d
one_digit c d h k same =
    let first = digit_value_digit c (digit_from_value c h) in
    let second = digit_value_digit d (digit_from_value d k) in
    omega arith

last_digits : (m n v w : ℕ) → v < 10 → w < 10 → 10 * m + v ≡ 10 * n + w → (m ≡ n) × (v ≡ w)
last_digits m n v w h k same = (omega arith, omega arith)

-- digits of one length give one number from one start alone
same_digits : (cs ds : List ℕ) (m n : ℕ) → length cs ≡ length ds → AreDigits cs → AreDigits ds → fold with_digit m cs ≡ fold with_digit n ds → (m ≡ n) × (cs ≡ ds)
same_digits [] [] m n len h k same = (same, refl)
same_digits [] (d ∷ ds) m n len h k same = absurd (omega arith)
same_digits (c ∷ cs) [] m n len h k same = absurd (omega arith)
same_digits (c ∷ cs) (d ∷ ds) m n len h k same =
    let rest = same_digits cs ds (10 * m + digit_value c) (10 * n + digit_value d) (omega arith) h.1 k.1 same in
    let digits = last_digits m n (digit_value c) (digit_value d) h.0 k.0 rest.0 in
    let first = one_digit c d h.0 k.0 digits.1 in
    let others = rest.1 in
    (digits.0, cc)

-- more digits after a digit that isn't 0 give a greater number
more_cases : (same : Bool) (d : ℕ) (ds cs : List ℕ) (n : ℕ) → eqb (length cs) (length (d ∷ ds)) ≡ same → 1 ≤ n → length cs ≤ length (d ∷ ds) → AreDigits cs → AreDigits (d ∷ ds)
    → (1 ≤ 10 * n + digit_value d → length cs ≤ length ds → fold with_digit 0 cs ≡ fold with_digit (10 * n + digit_value d) ds → ⊥)
    → fold with_digit 0 cs ≡ fold with_digit n (d ∷ ds) → ⊥
more_cases true d ds cs n is some len h k more same = let first = (same_digits cs (d ∷ ds) 0 n (eqb-true _ _ is) h k same).0 in omega arith
more_cases false d ds cs n is some len h k more same = more (omega arith) (grind (arith, nat_tests)) same

more_digits : (ds cs : List ℕ) (n : ℕ) → 1 ≤ n → length cs ≤ length ds → AreDigits cs → AreDigits ds → fold with_digit 0 cs ≡ fold with_digit n ds → ⊥
more_digits [] cs n some len h k same = let first = (same_digits cs [] 0 n (omega arith) h k same).0 in omega arith
more_digits (d ∷ ds) cs n some len h k same =
    more_cases (eqb (length cs) (length (d ∷ ds))) d ds cs n refl some len h k (λ s l e. more_digits ds cs (10 * n + digit_value d) s l h k.1 e) same

abbrev IsPlace : List ℕ → Type 0
IsPlace cs = is_position cs ≡ true

are_digits : (cs : List ℕ) → list_all (λ c. is_digit c 10) cs ≡ true → AreDigits cs
are_digits [] h = tt
are_digits (c ∷ cs) h =
    let parts = and_parts (is_digit c 10) (list_all (λ d. is_digit d 10) cs) h in
    (ltb-true (digit_value c) 10 parts.0, are_digits cs parts.1)

denied : (b : Bool) → not b ≡ true → b ≡ false
denied true h = absurd (cc)
denied false h = refl

-- its first digit isn't 0
first_digit : (c : ℕ) (cs : List ℕ) → IsPlace (c ∷ cs) → AreDigits (c ∷ cs) × (1 ≤ digit_value c)
first_digit c cs h =
    let parts = and_parts (list_all (λ d. is_digit d 10) (c ∷ cs)) (not (eqb c 48)) h in
    let digits = are_digits (c ∷ cs) parts.0 in
    let value = digit_value_digit c (digit_from_value c digits.0) in
    let other = denied (eqb c 48) parts.1 in
    (digits, grind (arith, nat_tests))

by_length : (less : Bool) (x y : ℕ) → ltb x y ≡ less → (x < y → ⊥) → (y < x → ⊥) → x ≡ y
by_length true x y is not_less not_more = absurd (not_less (ltb-true x y is))
by_length false x y is not_less not_more = equal (ltb y x) refl
  where
    equal : (more : Bool) → ltb y x ≡ more → x ≡ y
    equal true after = absurd (not_more (ltb-true y x after))
    equal false after = grind (arith, nat_tests)

one_spelling : (cs ds : List ℕ) → IsPlace cs → IsPlace ds → number_in 10 cs ≡ number_in 10 ds → cs ≡ ds
one_spelling [] ds h k same = absurd (cc)
one_spelling (c ∷ cs) [] h k same = absurd (cc)
one_spelling (c ∷ cs) (d ∷ ds) h k same =
    let first = first_digit c cs h in
    let second = first_digit d ds k in
    let some = first.1 in
    let other = second.1 in
    let len : length (c ∷ cs) ≡ length (d ∷ ds) =
    by_length (ltb (length (c ∷ cs)) (length (d ∷ ds))) (length (c ∷ cs)) (length (d ∷ ds)) refl
    (λ l. more_digits ds (c ∷ cs) (10 * 0 + digit_value d) (omega arith) (omega arith) first.0 second.0.1 same)
    (λ l. more_digits cs (d ∷ ds) (10 * 0 + digit_value c) (omega arith) (omega arith) second.0 first.0.1 (sym same)) in
    (same_digits (c ∷ cs) (d ∷ ds) 0 0 len first.0 second.0 same).1

-- ---- numbers of places differ

abbrev number_of : Property → ℕ
number_of k = number_in 10 k.name

abbrev is_place_to : ℕ → Property → Bool
is_place_to n k = is_position k.name && leb (number_of k) n

abbrev key_of : Property → List ℕ
key_of k = k.name

same_self : (cs : List ℕ) → same_name cs cs ≡ true
same_self cs = (bytes_eq-Decides (str_to_ascii_lowercase cs) (str_to_ascii_lowercase cs)).1 refl

apart_cases : (same : Bool) (cs ds : List ℕ) → eqb (number_in 10 cs) (number_in 10 ds) ≡ same → IsPlace cs → IsPlace ds → same_name cs ds ≡ false → same ≡ false
apart_cases true cs ds is h k apart =
    let equal = one_spelling cs ds h k (eqb-true _ _ is) in
    let twice : same_name cs ds ≡ true = subst (λ es. same_name cs es ≡ true) equal (same_self cs) in
    absurd (cc)
apart_cases false cs ds is h k apart = refl

-- numbers from a first one on, this many at most, each once
abbrev AreWithin : ℕ → ℕ → List ℕ → Type 0
AreWithin low n xs = AllByRecursion (λ x. (low ≤ x) × (x < low + n)) xs

unlike_cases : (test : Bool) (n : ℕ) (k j : Property) (ks : List Property) → is_place_to n j ≡ test → IsPlace k.name → same_name k.name j.name ≡ false
    → IsLikeNone eqb (number_of k) (map number_of (filter (is_place_to n) ks)) → IsLikeNone eqb (number_of k) (map number_of (cond test (j ∷ filter (is_place_to n) ks) (filter (is_place_to n) ks)))
unlike_cases true n k j ks is place apart none =
    (apart_cases (eqb (number_of k) (number_of j)) k.name j.name refl place (and_parts _ _ is).0 apart, none)
unlike_cases false n k j ks is place apart none = none

unlike : (n : ℕ) (k : Property) (ks : List Property) → IsPlace k.name → IsLikeNone same_name k.name (map key_of ks) → IsLikeNone eqb (number_of k) (map number_of (filter (is_place_to n) ks))
unlike n k [] place none = tt
unlike n k (j ∷ ks) place none = unlike_cases (is_place_to n j) n k j ks refl place none.0 (unlike n k ks place none.1)

differ_cases : (test : Bool) (n : ℕ) (k : Property) (ks : List Property) → is_place_to n k ≡ test → IsLikeNone same_name k.name (map key_of ks) → AllDiffer eqb (map number_of (filter (is_place_to n) ks))
    → AllDiffer eqb (map number_of (cond test (k ∷ filter (is_place_to n) ks) (filter (is_place_to n) ks)))
differ_cases true n k ks is none differ = (unlike n k ks (and_parts _ _ is).0 none, differ)
differ_cases false n k ks is none differ = differ

numbers-differ : (n : ℕ) (ks : List Property) → AllDiffer same_name (map key_of ks) → AllDiffer eqb (map number_of (filter (is_place_to n) ks))
numbers-differ n [] differ = tt
numbers-differ n (k ∷ ks) differ = differ_cases (is_place_to n k) n k ks refl differ.0 (numbers-differ n ks differ.1)

from_one : (cs : List ℕ) → IsPlace cs → 1 ≤ number_in 10 cs
from_one [] h = absurd (cc)
from_one (c ∷ cs) h =
    let some = (first_digit c cs h).1 in
    let more = grows (10 * 0 + digit_value c) cs in
    omega arith

within_cases : (test : Bool) (n : ℕ) (k : Property) (ks : List Property) → is_place_to n k ≡ test → AreWithin 1 n (map number_of (filter (is_place_to n) ks))
    → AreWithin 1 n (map number_of (cond test (k ∷ filter (is_place_to n) ks) (filter (is_place_to n) ks)))
within_cases true n k ks is within =
    let parts = and_parts (is_position k.name) (leb (number_of k) n) is in
    let some = from_one k.name parts.0 in
    let few = leb-true (number_of k) n parts.1 in
    ((some, omega arith), within)
within_cases false n k ks is within = within

numbers-within : (n : ℕ) (ks : List Property) → AreWithin 1 n (map number_of (filter (is_place_to n) ks))
numbers-within n [] = tt
numbers-within n (k ∷ ks) = within_cases (is_place_to n k) n k ks refl (numbers-within n ks)

-- ---- numbers that differ, of n

abbrev has : List ℕ → ℕ → Bool
has xs i = list_any (λ x. eqb x i) xs

abbrev others : ℕ → List ℕ → List ℕ
others a xs = filter (λ x. not (eqb x a)) xs

others_cases : (same : Bool) (x a n : ℕ) (xs : List ℕ) → eqb x a ≡ same → (a ≤ x) × (x < a + suc n) → AreWithin (a + 1) n (others a xs) → AreWithin (a + 1) n (cond (not same) (x ∷ others a xs) (others a xs))
others_cases true x a n xs is inside within = within
others_cases false x a n xs is inside within =
    let low = inside.0 in
    let high = inside.1 in
    ((grind (arith, nat_tests), omega arith), within)

others-within : (a n : ℕ) (xs : List ℕ) → AreWithin a (suc n) xs → AreWithin (a + 1) n (others a xs)
others-within a n [] within = tt
others-within a n (x ∷ xs) within = others_cases (eqb x a) x a n xs refl within.0 (others-within a n xs within.1)

like_cases : (same : Bool) (x y a : ℕ) (ys : List ℕ) → eqb x y ≡ false → IsLikeNone eqb x (others a ys) → IsLikeNone eqb x (cond (not same) (y ∷ others a ys) (others a ys))
like_cases true x y a ys h none = none
like_cases false x y a ys h none = (h, none)

others-like : (x a : ℕ) (ys : List ℕ) → IsLikeNone eqb x ys → IsLikeNone eqb x (others a ys)
others-like x a [] none = tt
others-like x a (y ∷ ys) none = like_cases (eqb y a) x y a ys none.0 (others-like x a ys none.1)

apart_cases_of : (same : Bool) (x a : ℕ) (xs : List ℕ) → IsLikeNone eqb x (others a xs) → AllDiffer eqb (others a xs) → AllDiffer eqb (cond (not same) (x ∷ others a xs) (others a xs))
apart_cases_of true x a xs none differ = differ
apart_cases_of false x a xs none differ = (none, differ)

others-differ : (a : ℕ) (xs : List ℕ) → AllDiffer eqb xs → AllDiffer eqb (others a xs)
others-differ a [] differ = tt
others-differ a (x ∷ xs) differ = apart_cases_of (eqb x a) x a xs (others-like x a xs differ.0) (others-differ a xs differ.1)

has_cases : (same : Bool) (x a i : ℕ) (xs : List ℕ) → eqb x a ≡ same → a < i → has (others a xs) i ≡ has xs i → has (cond (not same) (x ∷ others a xs) (others a xs)) i ≡ (eqb x i || has xs i)
has_cases true x a i xs is above rest =
    let equal = eqb-true x a is in
    let apart : eqb x i ≡ false = grind (arith, nat_tests) in
    rw apart rest
has_cases false x a i xs is above rest = ap (λ b. eqb x i || b) rest

-- the others have what lies above
others-have : (a i : ℕ) (xs : List ℕ) → a < i → has (others a xs) i ≡ has xs i
others-have a i [] above = refl
others-have a i (x ∷ xs) above = has_cases (eqb x a) x a i xs refl above (others-have a i xs above)

none-like : (x a : ℕ) (ys : List ℕ) → x ≡ a → IsLikeNone eqb x ys → has ys a ≡ false
none-like x a [] is none = refl
none-like x a (y ∷ ys) is none =
    let apart = none.0 in
    let other : eqb y a ≡ false = grind (arith, nat_tests) in
    rw other (none-like x a ys is none.1)

neither : (a b : Bool) → (a || b) ≡ false → (a ≡ false) × (b ≡ false)
neither true b h = absurd (cc)
neither false b h = (refl, h)

all-others : (a : ℕ) (xs : List ℕ) → has xs a ≡ false → others a xs ≡ xs
all-others a [] h = refl
all-others a (x ∷ xs) h =
    let parts = neither (eqb x a) (has xs a) h in
    rw parts.0 (ap (λ l. x ∷ l) (all-others a xs parts.1))

fewer_cases : (same : Bool) (x a : ℕ) (xs : List ℕ) → eqb x a ≡ same → IsLikeNone eqb x xs → (same || has xs a) ≡ true → (has xs a ≡ true → length xs ≡ length (others a xs) + 1)
    → length (x ∷ xs) ≡ length (cond (not same) (x ∷ others a xs) (others a xs)) + 1
fewer_cases true x a xs is none there more =
    let same = ap length (all-others a xs (none-like x a xs (eqb-true x a is) none)) in
    omega arith
fewer_cases false x a xs is none there more = let rest = more there in omega arith

-- one fewer than with it
one-fewer : (a : ℕ) (xs : List ℕ) → AllDiffer eqb xs → has xs a ≡ true → length xs ≡ length (others a xs) + 1
one-fewer a [] differ h = absurd (cc)
one-fewer a (x ∷ xs) differ h = fewer_cases (eqb x a) x a xs refl differ.0 h (one-fewer a xs differ.1)

abbrev lacks : List ℕ → List ℕ → Bool
lacks xs is = list_any (λ i. not (has xs i)) is

lacks-alike : (xs ys : List ℕ) (low n : ℕ) → ((i : ℕ) → low ≤ i → has ys i ≡ has xs i) → lacks ys (range_with_len low n) ≡ lacks xs (range_with_len low n)
lacks-alike xs ys low zero same = refl
lacks-alike xs ys low (suc n) same =
    let rest = lacks-alike xs ys (low + 1) n (λ i h. same i (omega arith)) in
    let first = same low (omega arith) in
    ap (λ b. not b || lacks ys (range_with_len (low + 1) n)) first ∙ ap (λ b. not (has xs low) || b) rest

-- of n numbers fewer than n are there exactly where one is missing
pub record Counted (xs : List ℕ) (low n : ℕ) : Type 0 where
  pub few : length xs ≤ n
  pub same : ltb (length xs) n ≡ lacks xs (range_with_len low n)

counted_cases : (there : Bool) (a n : ℕ) (xs : List ℕ) → has xs a ≡ there → AllDiffer eqb xs → Counted (others a xs) (a + 1) n → Counted xs a (suc n)
counted_cases true a n xs is differ rest =
    let len = one-fewer a xs differ is in
    let few_others = rest.few in
    let alike = lacks-alike xs (others a xs) (a + 1) n (λ i h. others-have a i xs (omega arith)) in
    record {
      few = omega arith;
      same = next_test (length xs) (length (others a xs)) n len ∙ rest.same ∙ alike ∙ sym (ap (λ b. not b || lacks xs (range_with_len (a + 1) n)) is);
    }
  where
    next_test : (x y n : ℕ) → x ≡ y + 1 → ltb x (suc n) ≡ ltb y n
    next_test x y n h = grind (arith, nat_tests)
counted_cases false a n xs is differ rest =
    let all = ap length (all-others a xs is) in
    let few_others = rest.few in
    let below : ltb (length xs) (suc n) ≡ true = grind (arith, nat_tests) in
    record {
      few = omega arith;
      same = below ∙ sym (ap (λ b. not b || lacks xs (range_with_len (a + 1) n)) is);
    }

counted : (n low : ℕ) (xs : List ℕ) → AllDiffer eqb xs → AreWithin low n xs → Counted xs low n
counted zero low [] differ within = record { few = omega arith; same = refl }
counted zero low (x ∷ xs) differ within =
    let low_is = within.0.0 in
    let high_is = within.0.1 in
    absurd (omega arith)
counted (suc n) low xs differ within =
    counted_cases (has xs low) low n xs refl differ (counted n (low + 1) (others low xs) (others-differ low xs differ) (others-within low n xs within))

-- ---- of a list

place_cases : (place small : Bool) (i n : ℕ) (k : Property) (rest : List Property) (more : Bool) → is_position k.name ≡ place → leb (number_of k) n ≡ small → i ≤ n
    → has (map number_of rest) i ≡ more → has (map number_of (cond (place && small) (k ∷ rest) rest)) i ≡ ((place && eqb (number_of k) i) || more)
place_cases true true i n k rest more is few h same = ap (λ b. eqb (number_of k) i || b) same
place_cases true false i n k rest more is few h same =
    let apart : eqb (number_of k) i ≡ false = grind (arith, nat_tests) in
    rw apart same
place_cases false small i n k rest more is few h same = same

place-counted : (i n : ℕ) (ks : List Property) → i ≤ n → has (map number_of (filter (is_place_to n) ks)) i ≡ list_any (λ (k : Property). is_position k.name && eqb (number_of k) i) ks
place-counted i n [] h = refl
place-counted i n (k ∷ ks) h =
    place_cases (is_position k.name) (leb (number_of k) n) i n k (filter (is_place_to n) ks) (list_any (λ (j : Property). is_position j.name && eqb (number_of j) i) ks) refl refl h (place-counted i n ks h)

lacks-listed : (s : TextSection) (n low m : ℕ) → low + m ≤ n + 1 → lacks (map number_of (keys_to s n)) (range_with_len low m) ≡ list_any (λ i. not (has_place s i)) (range_with_len low m)
lacks-listed s n low zero h = refl
lacks-listed s n low (suc m) h =
    ap (λ b. not b || lacks (map number_of (keys_to s n)) (range_with_len (low + 1) m)) (place-counted low n s.properties (omega arith))
    ∙ ap (λ b. not (has_place s low) || b) (lacks-listed s n (low + 1) m (omega arith))

map-length : {X Y : Type 0} (f : X → Y) (xs : List X) → length (map f xs) ≡ length xs
map-length f [] = refl
map-length f (x ∷ xs) = let rest = map-length f xs in omega arith

pub places-counted : (s : TextSection) → PropertiesDiffer s → CountsPlaces s
places-counted s differ n =
    ap (λ l. ltb l n) (sym (map-length number_of (keys_to s n)))
    ∙ (counted n 1 (map number_of (keys_to s n)) (numbers-differ n s.properties differ) (numbers-within n s.properties)).same
    ∙ lacks-listed s n 1 n (omega arith)

pub all-counted : (ss : List TextSection) → AllByRecursion PropertiesDiffer ss → AllByRecursion CountsPlaces ss
all-counted [] differ = tt
all-counted (s ∷ ss) differ = (places-counted s differ.0, all-counted ss differ.1)
