-- The TPDOs that are due at an input, and parameters that are as the device was built with.
use Rattle.std.proofs.Common.{◌≡◌, ℕ, zero, suc, ◌+◌, ◌<◌, ◌≤◌, Bool, true, false, List, [], ◌∷◌, refl, ap, ◌∙◌, arith}
use Rattle.std.specs.Prelude.{if◌then◌else◌, ◌&&◌, ◌||◌, ◌==◌, filter, not, unwrap_or}
use Rattle.std.specs.List.{AllByRecursion, list_all, range_with_len}
use Rattle.std.proofs.lemmas.Bool.{and_parts, eqb-true}
use Rattle.std.proofs.lemmas.Bool.Decides.{nat_tests}
use Rattle.std.proofs.lemmas.Map.Views.{any-filter_same}
use Rattle.co_value.specs.declared.key.Key.{Key}
use Rattle.co_value.specs.Numbers.{unsigned_of}
use Rattle.co_dict.specs.declared.side.Side.TheVariants as side
use Rattle.co_dict.specs.CobIds.{identifier_of, is_valid}
use Rattle.co_dict.specs.Rows.{Contents, number_at}
use Rattle.co_dict.specs.Stores.{Description}
use Rattle.co_profile.specs.Indices.{nth, tpdo_mapping}
use Rattle.co_profile.specs.TransmissionTypes.{is_supported_type}
use Rattle.co_pdo.specs.declared.settings.Settings.{Settings}
use Rattle.co_pdo.specs.declared.tpdo.Occasion.{Occasion}
use Rattle.co_pdo.specs.declared.tpdo.Occasion.TheVariants as occasion
use Rattle.co_pdo.specs.Due.{is_due}
use Rattle.co_pdo.specs.Log as tpdo_log
use Rattle.co_pdo.specs.Mappings.{count_of}
use Rattle.co_pdo.specs.Schedules.{History as Schedule, is_among, is_tpdo_due, log_of, sync_with}
use Rattle.co_pdo.specs.Tpdos.{is_active, settings_of, tpdo_key, tpdo_numbers}
use Rattle.co_node_model.specs.declared.turn.Turn.{Turn}
use Rattle.co_node_model.specs.declared.turn.Turn.TheVariants as turn
use Rattle.co_node_model.specs.Moments.{Constants, Moment}
use Rattle.co_node_model.specs.Tpdos.{due_at, numbers_asked}
use Rattle.co_node_laws.proofs.LossDistances.{among_range, same}
use Rattle.conode_compare_pdos.specs.declared.tpdo.Tpdo.{Tpdo}
use Rattle.conode_compare_pdos.specs.Tpdos.{is_id}
use Rattle.conode_compare_laws.specs.TpdoParameters.{KeepsTpdos, is_alone, is_tpdo_parameter}

-- ---- the numbers of TPDOs

all_below : (first count : ℕ) → first + count ≤ 512 → AllByRecursion (λ n. n < 512) (range_with_len first count)
all_below first zero h = tt
all_below first (suc count) h = (omega arith, all_below (first + 1) count (omega arith))

numbers_below : AllByRecursion (λ n. n < 512) tpdo_numbers
unfolding tpdo_numbers
numbers_below = all_below 0 512 (omega arith)

filtered : (P : ℕ → Type 0) (test : ℕ → Bool) (numbers : List ℕ) → AllByRecursion (λ n. n < 512) numbers → ((n : ℕ) → n < 512 → test n ≡ true → P n) → AllByRecursion P (filter test numbers)
filtered P test [] below h = tt
filtered P test (n ∷ numbers) below h = by (test n) refl (filtered P test numbers below.1 h)
  where
    by : (b : Bool) → test n ≡ b → AllByRecursion P (filter test numbers) → AllByRecursion P (if b then n ∷ filter test numbers else filter test numbers)
    by true is later = (h n below.0 is, later)
    by false is later = later

right_true : (b : Bool) → (b && true) ≡ b
right_true true = refl
right_true false = refl

among_numbers : (n : ℕ) → n < 512 → is_among n tpdo_numbers ≡ true
unfolding tpdo_numbers
among_numbers n less = among_range 0 512 n (omega arith) (omega (arith, less))

pub among_filter : (p : ℕ → Bool) (n : ℕ) → n < 512 → is_among n (filter p tpdo_numbers) ≡ p n
among_filter p n less = any-filter_same (λ m. m == n) p (p n) (λ m e. ap p (same m n e)) tpdo_numbers ∙ ap (λ b. p n && b) (among_numbers n less) ∙ right_true (p n)

-- what a turn is to the TPDOs that are sent at it
abbrev pub IsAt : Contents → Turn → Occasion → Type 0
IsAt c turn.Quiet o = ⊥
IsAt c turn.StartAll o = ⊥
IsAt c (turn.Start n part) o = ⊥
IsAt c (turn.Sync counter) o = o ≡ sync_with counter c
IsAt c (turn.Asked asked) o = o ≡ occasion.Event
IsAt c turn.Tick o = o ≡ occasion.Tick

pub due_all : (P : ℕ → Type 0) (d : Description) (t : Turn) (c : Contents) (schedule : Schedule)
    → ((n : ℕ) (o : Occasion) → n < 512 → IsAt c t o → is_tpdo_due c schedule o n ≡ true → is_among n (due_at d t c schedule) ≡ true → P n) → AllByRecursion P (due_at d t c schedule)
due_all P d turn.Quiet c schedule h = tt
due_all P d turn.StartAll c schedule h = tt
due_all P d (turn.Start n part) c schedule h = tt
due_all P d (turn.Sync counter) c schedule h =
    let test : ℕ → Bool = λ n. is_tpdo_due c schedule (sync_with counter c) n in
    filtered P test tpdo_numbers numbers_below (λ n less due. h n (sync_with counter c) less refl due (among_filter test n less ∙ due))
due_all P d (turn.Asked asked) c schedule h =
    let test : ℕ → Bool = λ n. is_among n (numbers_asked d c asked) && is_tpdo_due c schedule occasion.Event n in
    filtered P test tpdo_numbers numbers_below
    (λ n less due. h n occasion.Event less refl (and_parts (is_among n (numbers_asked d c asked)) (is_tpdo_due c schedule occasion.Event n) due).1 (among_filter test n less ∙ due))
due_all P d turn.Tick c schedule h =
    let test : ℕ → Bool = λ n. is_tpdo_due c schedule occasion.Tick n in
    filtered P test tpdo_numbers numbers_below (λ n less due. h n occasion.Tick less refl due (among_filter test n less ∙ due))

due_active : (s : Settings) (log : tpdo_log.Log) (o : Occasion) → is_due s log o ≡ true → s.is_active ≡ true
due_active s log (occasion.Sync overflow counter) h = (and_parts s.is_active _ h).0
due_active s log occasion.Event h = (and_parts s.is_active _ h).0
due_active s log occasion.Tick h = (and_parts s.is_active _ h).0

pub active : (c : Contents) (schedule : Schedule) (o : Occasion) (n : ℕ) → is_tpdo_due c schedule o n ≡ true → is_active c n ≡ true
active c schedule o n due = due_active (settings_of c n) (log_of n schedule) o due

-- no number comes twice
abbrev pub AreDistinct : List ℕ → Type 0
AreDistinct [] = Unit {0}
AreDistinct (n ∷ numbers) = (is_among n numbers ≡ false) × AreDistinct numbers

above_none : (k : ℕ) (numbers : List ℕ) → AllByRecursion (λ n. k < n) numbers → is_among k numbers ≡ false
above_none k [] h = refl
above_none k (n ∷ numbers) h = by (n == k) refl (above_none k numbers h.1)
  where
    by : (b : Bool) → (n == k) ≡ b → is_among k numbers ≡ false → (b || is_among k numbers) ≡ false
    by true is later = absurd (let same : n ≡ k = eqb-true n k is in let less : k < n = h.0 in omega arith)
    by false is later = later

still_all : (P : ℕ → Type 0) (test : ℕ → Bool) (numbers : List ℕ) → AllByRecursion P numbers → AllByRecursion P (filter test numbers)
still_all P test [] h = tt
still_all P test (n ∷ numbers) h = by (test n) (still_all P test numbers h.1)
  where
    by : (b : Bool) → AllByRecursion P (filter test numbers) → AllByRecursion P (if b then n ∷ filter test numbers else filter test numbers)
    by true later = (h.0, later)
    by false later = later

all_above : (k first count : ℕ) → k < first → AllByRecursion (λ n. k < n) (range_with_len first count)
all_above k first zero h = tt
all_above k first (suc count) h = (h, all_above k (first + 1) count (omega arith))

range_distinct : (test : ℕ → Bool) (first count : ℕ) → AreDistinct (filter test (range_with_len first count))
range_distinct test first zero = tt
range_distinct test first (suc count) = by (test first) (range_distinct test (first + 1) count)
  where
    later : List ℕ
    later = range_with_len (first + 1) count

    by : (b : Bool) → AreDistinct (filter test later) → AreDistinct (if b then first ∷ filter test later else filter test later)
    by true h = (above_none first (filter test later) (still_all (λ n. first < n) test later (all_above first (first + 1) count (omega arith))), h)
    by false h = h

filter_distinct : (test : ℕ → Bool) → AreDistinct (filter test tpdo_numbers)
unfolding tpdo_numbers
filter_distinct test = range_distinct test 0 512

pub due_distinct : (d : Description) (t : Turn) (c : Contents) (schedule : Schedule) → AreDistinct (due_at d t c schedule)
due_distinct d turn.Quiet c schedule = tt
due_distinct d turn.StartAll c schedule = tt
due_distinct d (turn.Start n part) c schedule = tt
due_distinct d (turn.Sync counter) c schedule = filter_distinct (λ n. is_tpdo_due c schedule (sync_with counter c) n)
due_distinct d (turn.Asked asked) c schedule = filter_distinct (λ n. is_among n (numbers_asked d c asked) && is_tpdo_due c schedule occasion.Event n)
due_distinct d turn.Tick c schedule = filter_distinct (λ n. is_tpdo_due c schedule occasion.Tick n)

-- ---- no other TPDO has its identifier

passes_all : (test : ℕ → Bool) (n first count : ℕ) → first ≤ n → n < first + count → list_all test (range_with_len first count) ≡ true → test n ≡ true
passes_all test n first zero low high all = absurd (omega arith)
passes_all test n first (suc count) low high all =
    by (n == first) refl (and_parts (test first) (list_all test (range_with_len (first + 1) count)) all)
    (λ more. passes_all test n (first + 1) count more (omega arith) (and_parts (test first) (list_all test (range_with_len (first + 1) count)) all).1)
  where
    by : (b : Bool) → (n == first) ≡ b → (test first ≡ true) × (list_all test (range_with_len (first + 1) count) ≡ true) → (first + 1 ≤ n → test n ≡ true) → test n ≡ true
    by true is parts later = ap test (eqb-true n first is) ∙ parts.0
    by false is parts later = later (grind (arith, nat_tests))

pub alone : (c : Contents) (number : ℕ) (sheet : Tpdo) (n : ℕ) → is_alone c number sheet ≡ true → n < 512 → is_active c n ≡ true → is_id sheet.parameters.id (identifier_of (number_at c (tpdo_key n 1))) ≡ true → n ≡ number
unfolding is_alone tpdo_numbers
alone c number sheet n all less on here =
    by (n == number) (is_active c n) (is_id sheet.parameters.id (identifier_of (number_at c (tpdo_key n 1)))) refl on here
    (passes_all (λ i. (i == number) || not (is_active c i && is_id sheet.parameters.id (identifier_of (number_at c (tpdo_key i 1))))) n 0 512 (omega arith) (omega (arith, less)) all)
  where
    by : (same a b : Bool) → (n == number) ≡ same → a ≡ true → b ≡ true → (same || not (a && b)) ≡ true → n ≡ number
    by true a b is p q h = eqb-true n number is
    by false true true is p q h = absurd (cc)
    by false true false is p q h = absurd (cc)
    by false false b is p q h = absurd (cc)

-- ---- the parameters are as the device was built with

key_is : (n sub : ℕ) → n < 512 → is_tpdo_parameter (tpdo_key n sub) ≡ true
key_is n sub less = grind (arith, nat_tests)

pub map_key_is : (n sub : ℕ) → n < 512 → is_tpdo_parameter (record { index = nth tpdo_mapping n; sub = sub }) ≡ true
map_key_is n sub less = grind (arith, nat_tests)

pub number_kept : (k : Constants) (m : Moment) (key : Key) → KeepsTpdos k m → is_tpdo_parameter key ≡ true → number_at m.contents key ≡ number_at k.start key
number_kept k m key keeps is = ap (λ o. unsigned_of (unwrap_or o [])) (keeps.same key is)

pub tpdo_number : (k : Constants) (m : Moment) (n sub : ℕ) → KeepsTpdos k m → n < 512 → number_at m.contents (tpdo_key n sub) ≡ number_at k.start (tpdo_key n sub)
tpdo_number k m n sub keeps less = number_kept k m (tpdo_key n sub) keeps (key_is n sub less)

active_by : (c e : Contents) (n : ℕ) → number_at c (tpdo_key n 1) ≡ number_at e (tpdo_key n 1) → count_of side.Tpdo c n ≡ count_of side.Tpdo e n → number_at c (tpdo_key n 2) ≡ number_at e (tpdo_key n 2) → is_active c n ≡ is_active e n
active_by c e n word count kind =
    ap (λ w. is_valid w && not (count_of side.Tpdo c n == 0) && is_supported_type (number_at c (tpdo_key n 2))) word
    ∙ ap (λ x. is_valid (number_at e (tpdo_key n 1)) && not (x == 0) && is_supported_type (number_at c (tpdo_key n 2))) count
    ∙ ap (λ t. is_valid (number_at e (tpdo_key n 1)) && not (count_of side.Tpdo e n == 0) && is_supported_type t) kind

pub active_kept : (k : Constants) (m : Moment) (n : ℕ) → KeepsTpdos k m → n < 512 → is_active m.contents n ≡ is_active k.start n
active_kept k m n keeps less =
    active_by m.contents k.start n (tpdo_number k m n 1 keeps less) (number_kept k m (record { index = nth tpdo_mapping n; sub = 0 }) keeps (map_key_is n 0 less)) (tpdo_number k m n 2 keeps less)
