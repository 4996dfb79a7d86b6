-- A TPDO of a device that is built from a data sheet maps as many bytes as `compare` has by the sheet: both add the same words, and
-- what the dictionary would refuse of them is a fault of the sheet.
use Rattle.std.proofs.Common.{◌≡◌, ℕ, zero, suc, ◌+◌, ◌-◌, ◌*◌, ◌/◌, ◌%◌, ◌<◌, ◌≤◌, Bool, true, false, List, [], ◌∷◌, map, Option, Some, None, refl, ap, sym, ◌∙◌, subst, arith, inl, inr}
use Rattle.std.specs.Prelude.{if◌then◌else◌, ◌==◌, ◌&&◌, ◌||◌, not, nat_le, nat_lt, find, is_none, is_some, option_and_then, option_map, IfSome}
use Rattle.std.specs.List.{All, cons_option, filter_map, list_any, range_with_len}
use Rattle.std.specs.Option.{option_or}
use Rattle.std.proofs.lemmas.Bool.{and_parts, eqb-true, or_parts}
use Rattle.std.proofs.lemmas.Bool.Decides.{nat_tests}
use Rattle.std.proofs.lemmas.List.Sums.{sum_by-cons}
use Rattle.co_value.specs.declared.data_type.DataType.TheVariants.{Unsigned8, Unsigned32}
use Rattle.co_value.specs.declared.key.Key.{Key}
use Rattle.co_dict.specs.declared.side.Side.TheVariants as side
use Rattle.co_dict.specs.MappingCounts.{count_refusal, counted_words, is_mapping_index, total_width}
use Rattle.co_dict.specs.MappingWords.{mapped_bits, mapped_key, mapping_width, word_width}
use Rattle.co_dict.specs.Objects.{has_object, has_sub, subs_present}
use Rattle.co_dict.specs.Refusals.{first_refusal, refused_if}
use Rattle.co_dict.specs.Rows.{Contents, Rows, number_at}
use Rattle.co_dict.specs.Stores.{Description}
use Rattle.co_dict_build.specs.Built.{Plan, built, built_contents, built_description}
use Rattle.co_dict_build.specs.declared.build_fault.BuildFault.{BuildFault}
use Rattle.co_dict_build.specs.declared.build_fault.BuildFault.TheVariants.{BadMapping, PdoPair, ValueRange}
use Rattle.co_dict_build.specs.BuildFaults.{bad_mapping, build_fault, dictionary_fault, is_bad_count, is_bad_mapping, is_communication, is_lone_communication, is_lone_mapping, is_mapping, is_unpaired, unpaired, value_out_of_range}
use Rattle.co_dict_build.specs.ListedEntries.{ListedEntry, entry_at, keys_in}
use Rattle.co_sheet.specs.Content.{Row}
use Rattle.co_sheet.specs.SheetLaws.{IsSheetRow}
use Rattle.co_pdo.specs.declared.mapping.Mapped.TheVariants.{Entry}
use Rattle.co_pdo.specs.Mappings.{count_of, has_pdo, mapped_by, mapped_words, mapping_of, total_of, width_in}
use Rattle.conode_compare_pdos.specs.PdoParameters.{counted_bytes, key_of, length_by, length_of, mapped_bytes, summed, with_object}
use Rattle.conode_compare_pdos.specs.SheetNumbers.{preset_at}
use Rattle.conode_compare_laws.proofs.Begins.{absent_is_0, node_ok, passes, to_127}
use Rattle.conode_compare_laws.proofs.SheetNumbers.{IsOwnKey, byte, from_some, long, preset_is}

-- ---- what `compare` counts: one object after another

abbrev added : List Row → ℕ → ℕ → ℕ → ℕ → ℕ → Option ℕ → Option ℕ
added rows node index count first zero sum = sum
added rows node index count first (suc n) sum = added rows node index count (first + 1) n (with_object rows node index count first sum)

counted_is : (rows : List Row) (node index count : ℕ) → counted_bytes rows node index count ≡ added rows node index count 1 8 (Some 0)
unfolding counted_bytes
counted_is rows node index count = refl

-- past the count nothing is added
past : (rows : List Row) (node index count first n : ℕ) (sum : Option ℕ) → count < first → added rows node index count first n sum ≡ sum
past rows node index count first zero sum less = refl
past rows node index count first (suc n) sum less =
    let off : nat_le first count ≡ false = grind (arith, nat_tests) in
    past rows node index count (first + 1) n (with_object rows node index count first sum) (omega (arith, less))
    ∙ ap (λ b. if b then summed sum (option_and_then mapped_bytes (preset_at rows node (key_of index first))) else sum) off

-- the parts of a sum that is there
record IsSum (first second : Option ℕ) (total : ℕ) : Type 0 where
  a : ℕ
  b : ℕ
  first_is : first ≡ Some a
  second_is : second ≡ Some b
  total_is : total ≡ a + b

sum_of : (first second : Option ℕ) (total : ℕ) → summed first second ≡ Some total → IsSum first second total
sum_of None None total e = absurd (cc)
sum_of None (Some b) total e = absurd (cc)
sum_of (Some a) None total e = absurd (cc)
sum_of (Some a) (Some b) total e = by (nat_le (a + b) 8) e
  where
    by : (x : Bool) → (if x then Some (a + b) else None) ≡ Some total → IsSum (Some a) (Some b) total
    by true h = record { a = a; b = b; first_is = refl; second_is = refl; total_is = cc }
    by false h = absurd (cc)

-- a word of the sheet, which has so many bytes
record IsWord (preset : Option ℕ) (bytes : ℕ) : Type 0 where
  word : ℕ
  is : preset ≡ Some word
  bits : word % 256 ≡ 8 * bytes

eight_times : (bits bytes : ℕ) → bits / 8 ≡ bytes → bits % 8 ≡ 0 → bits ≡ 8 * bytes
eight_times bits bytes e none = omega (arith, e, none)

word_of : (preset : Option ℕ) (bytes : ℕ) → option_and_then mapped_bytes preset ≡ Some bytes → IsWord preset bytes
word_of None bytes e = absurd (cc)
word_of (Some word) bytes e = by ((word % 256) % 8 == 0) refl e
  where
    by : (x : Bool) → ((word % 256) % 8 == 0) ≡ x → (if x then Some ((word % 256) / 8) else None) ≡ Some bytes → IsWord (Some word) bytes
    by true even h = record { word = word; is = refl; bits = eight_times (word % 256) bytes (cc) (eqb-true (word % 256 % 8) 0 even) }
    by false even h = absurd (cc)

-- ---- what the device maps

eight_same : (bits width bytes : ℕ) → bits ≡ 8 * bytes → bits ≡ 8 * width → width ≡ bytes
eight_same bits width bytes e f = omega (arith, e, f)

-- a word that may be mapped has the width that its bits say
width_is : (d : Description) (word bytes : ℕ) → word % 256 ≡ 8 * bytes → is_none (word_width side.Tpdo d word) ≡ false → word_width side.Tpdo d word ≡ Some bytes
width_is d word bytes bits there = by (mapping_width side.Tpdo d (mapped_key word)) there
  where
    within : (width : ℕ) (x : Bool) → (mapped_bits word == 8 * width) ≡ x → is_none (if x then Some width else None) ≡ false → (if x then Some width else None) ≡ Some bytes
    within width true e g = ap Some (eight_same (word % 256) width bytes bits (eqb-true (mapped_bits word) (8 * width) e))
    within width false e g = absurd (cc)

    by : (o : Option ℕ) → is_none (option_and_then (λ width. if mapped_bits word == 8 * width then Some width else None) o) ≡ false
        → option_and_then (λ width. if mapped_bits word == 8 * width then Some width else None) o ≡ Some bytes
    by None h = absurd (cc)
    by (Some width) h = within width (mapped_bits word == 8 * width) refl h

-- the objects that words map, in bytes
abbrev in_all : Description → List ℕ → ℕ
in_all d words = total_of (filter_map (mapped_by side.Tpdo d) words)

one_more : (d : Description) (word bytes : ℕ) (words : List ℕ) → word_width side.Tpdo d word ≡ Some bytes → in_all d (word ∷ words) ≡ bytes + in_all d words
one_more d word bytes words width =
    ap (λ o. total_of (cons_option (option_map (λ w. Entry (mapped_key word) w) o) (filter_map (mapped_by side.Tpdo d) words))) width
    ∙ sum_by-cons width_in (Entry (mapped_key word) bytes) (filter_map (mapped_by side.Tpdo d) words)

-- some words of a mapping parameter cannot be mapped
abbrev any_unmapped : Description → List ℕ → Bool
any_unmapped d words = list_any (λ word. is_none (word_width side.Tpdo d word)) words

-- ---- both add the same

-- a sum that was there, and what is added to it
record Adds (sum : Option ℕ) (more total : ℕ) : Type 0 where
  a : ℕ
  is : sum ≡ Some a
  adds : total ≡ a + more

abbrev words_from : Contents → ℕ → ℕ → ℕ → List ℕ
words_from c index first n = map (λ sub. number_at c (record { index = index; sub = sub })) (range_with_len first n)

same_bits : (a b bytes : ℕ) → a ≡ b → b % 256 ≡ 8 * bytes → a % 256 ≡ 8 * bytes
same_bits a b bytes e bits = ap (λ x. x % 256) e ∙ bits

added_up : (total a b one rest all : ℕ) → total ≡ one + rest → one ≡ a + b → all ≡ b + rest → total ≡ a + all
added_up total a b one rest all e f g = omega (arith, e, f, g)

-- the entries of a mapping parameter hold the numbers that the sheet gives them
module _ (rows : List Row) (node : ℕ) (c : Contents) (d : Description) (index count : ℕ) (few : count ≤ 8)
    (holds : (sub word : ℕ) → 1 ≤ sub → sub ≤ 8 → preset_at rows node (record { index = index; sub = sub }) ≡ Some word → number_at c (record { index = index; sub = sub }) ≡ word) where
  same_total : (n first left : ℕ) (sum : Option ℕ) (total : ℕ) → 1 ≤ first → first + left ≡ count + 1 → left ≤ n → any_unmapped d (words_from c index first left) ≡ false
      → added rows node index count first n sum ≡ Some total → Adds sum (in_all d (words_from c index first left)) total
  same_total n first zero sum total low at most fine is =
      record { a = total; is = sym (past rows node index count first n sum (omega (arith, at))) ∙ is; adds = omega arith }
  same_total zero first (suc left) sum total low at most fine is = absurd (omega (arith, most))
  same_total (suc n) first (suc left) sum total low at most fine is =
      let within : first ≤ count = omega (arith, at) in
      let here : nat_le first count ≡ true = grind (arith, nat_tests, within) in
      let eight : first ≤ 8 = omega (arith, within, few) in
      let word : ℕ = number_at c (record { index = index; sub = first }) in
      let words : List ℕ = words_from c index (first + 1) left in
      let bytes : Option ℕ = option_and_then mapped_bytes (preset_at rows node (key_of index first)) in
      let each = or_parts (is_none (word_width side.Tpdo d word)) (any_unmapped d words) fine in
      let rest : Adds (with_object rows node index count first sum) (in_all d words) total = same_total n (first + 1) left (with_object rows node index count first sum) total (omega arith) (omega (arith, at)) (omega (arith, most)) each.1 is in
      let one : IsSum sum bytes rest.a = sum_of sum bytes rest.a (sym (ap (λ b. if b then summed sum bytes else sum) here) ∙ rest.is) in
      let w : IsWord (preset_at rows node (key_of index first)) one.b = word_of (preset_at rows node (key_of index first)) one.b one.second_is in
      let number : word ≡ w.word = holds first w.word low eight w.is in
      let width : word_width side.Tpdo d word ≡ Some one.b = width_is d word one.b (same_bits word w.word one.b number w.bits) each.0 in
      record { a = one.a; is = one.first_is; adds = added_up total one.a one.b rest.a (in_all d words) (in_all d (word ∷ words)) rest.adds one.total_is (one_more d word one.b words width) }

-- ---- what is no fault of the sheet

neither : (a b : Option BuildFault) → option_or a b ≡ None → (a ≡ None) × (b ≡ None)
neither None b h = (refl, h)
neither (Some x) b h = absurd (cc)

unmapped : {A : Type 0} (f : A → BuildFault) (o : Option A) → option_map f o ≡ None → o ≡ None
unmapped f None h = refl
unmapped f (Some x) h = absurd (cc)

pub none_out : (plan : Plan) → build_fault plan ≡ None → value_out_of_range plan.node plan.rows ≡ None
none_out plan h = unmapped ValueRange _ (neither _ _ (neither _ _ h).1).0

sound : (plan : Plan) → build_fault plan ≡ None → dictionary_fault plan.limits plan.rows (built_description plan) (built_contents plan) ≡ None
sound plan h = (neither _ _ (neither _ _ (neither _ _ h).1).1).0

all_paired : (plan : Plan) → build_fault plan ≡ None → unpaired (built_description plan) ≡ None
all_paired plan h = unmapped PdoPair _ (neither _ _ (neither _ _ (sound plan h)).1).0

none_bad : (plan : Plan) → build_fault plan ≡ None → bad_mapping (built_description plan) (built_contents plan) ≡ None
none_bad plan h = unmapped BadMapping _ (neither _ _ (neither _ _ (neither _ _ (sound plan h)).1).1).0

-- ---- a count that isn't 0 is permitted

third_false : (a b c : Bool) → (a && b && c) ≡ false → a ≡ true → b ≡ true → c ≡ false
third_false true true c h p q = h
third_false true false c h p q = absurd (cc)
third_false false b c h p q = absurd (cc)

none_is : {A : Type 0} (o : Option A) → is_some o ≡ false → o ≡ None
none_is None h = refl
none_is (Some x) h = absurd (cc)

counts : (plan : Plan) (key : Key) (count : ℕ) → number_at (built_contents plan) key ≡ count → 1 ≤ count → entry_at (built plan) key ≡ None → ⊥
counts plan key count is some absent = let zero : count ≡ 0 = sym is ∙ absent_is_0 plan key absent in omega (arith, some, zero)

count_fine : (plan : Plan) (index count : ℕ) → build_fault plan ≡ None → is_mapping_index side.Tpdo index ≡ true → number_at (built_contents plan) (record { index = index; sub = 0 }) ≡ count → 1 ≤ count
    → count_refusal side.Tpdo (built_description plan) (built_contents plan) index count ≡ None
count_fine plan index count h mapping is some =
    elim (passes (is_bad_mapping (built_description plan) (built_contents plan)) (built plan) key (none_bad plan h)) [
      | inl off ↦ none_is refusal (third_false (is_mapping_index side.Tpdo index) (not (count == 0)) (is_some refusal) (sym (at_count (number_at (built_contents plan) key) is)
          ∙ (or_parts (is_bad_count side.Rpdo (built_description plan) (built_contents plan) index) (is_bad_count side.Tpdo (built_description plan) (built_contents plan) index) off).1) mapping (grind (arith, nat_tests)))
      | inr absent ↦ absurd (counts plan key count is some absent)
    ]
  where
    key : Key
    key = record { index = index; sub = 0 }

    refusal : Option ℕ
    refusal = count_refusal side.Tpdo (built_description plan) (built_contents plan) index count

    at_count : (n : ℕ) → n ≡ count → (is_mapping_index side.Tpdo index && not (n == 0) && is_some (count_refusal side.Tpdo (built_description plan) (built_contents plan) index n))
        ≡ (is_mapping_index side.Tpdo index && not (count == 0) && is_some refusal)
    at_count n e = ap (λ m. is_mapping_index side.Tpdo index && not (m == 0) && is_some (count_refusal side.Tpdo (built_description plan) (built_contents plan) index m)) e

-- ---- its communication parameter is there

index_none : (bad : ℕ → Bool) (keys : List Key) → find bad (map (λ (k : Key). k.index) keys) ≡ None → find (λ (k : Key). bad k.index) keys ≡ None
index_none bad [] h = refl
index_none bad (k ∷ keys) h = by (bad k.index) h (index_none bad keys)
  where
    by : (x : Bool) → (if x then Some k.index else find bad (map (λ (k : Key). k.index) keys)) ≡ None → (find bad (map (λ (k : Key). k.index) keys) ≡ None → find (λ (k : Key). bad k.index) keys ≡ None)
        → (if x then Some k else find (λ (k : Key). bad k.index) keys) ≡ None
    by true g later = absurd (cc)
    by false g later = later g

-- an index that an entry has is paired
paired : (plan : Plan) (key : Key) → build_fault plan ≡ None → (entry_at (built plan) key ≡ None → ⊥) → is_unpaired (built_description plan).rows key.index ≡ false
paired plan key h there =
    elim (passes (λ (k : Key). is_unpaired (built_description plan).rows k.index) (built plan) key (index_none (is_unpaired (built_description plan).rows) (keys_in (built plan)) (all_paired plan h))) [
      | inl off ↦ off
      | inr absent ↦ absurd (there absent)
    ]

found_any : (test : ℕ → Bool) (xs : List ℕ) → list_any test xs ≡ true → (x : ℕ) × (test x ≡ true)
found_any test [] h = absurd (cc)
found_any test (x ∷ xs) h = by (test x) refl h (found_any test xs)
  where
    by : (b : Bool) → test x ≡ b → (b || list_any test xs) ≡ true → (list_any test xs ≡ true → (y : ℕ) × (test y ≡ true)) → (y : ℕ) × (test y ≡ true)
    by true is g later = (x, is)
    by false is g later = later g

a_sub : (rows : Rows) (index : ℕ) → has_object rows index ≡ true → (sub : ℕ) × (has_sub rows index sub ≡ true)
unfolding has_object
a_sub rows index h = found_any (has_sub rows index) (range_with_len 0 256) h

-- the parts of what a lone parameter is
object_by : (is object count : Bool) → (is && not (object && count)) ≡ false → is ≡ true → object ≡ true
object_by true true count h i = refl
object_by true false count h i = absurd (cc)
object_by false object count h i = absurd (cc)

first_by : (is object first second : Bool) → (is && not (object && first && second)) ≡ false → is ≡ true → first ≡ true
first_by true true true second h i = refl
first_by true true false second h i = absurd (cc)
first_by true false first second h i = absurd (cc)
first_by false object first second h i = absurd (cc)

is_mapping_of : (n : ℕ) → n < 512 → is_mapping (0x1A00 + n) ≡ true
is_mapping_of n less = grind (arith, nat_tests)

is_communication_of : (n : ℕ) → n < 512 → is_communication (0x1800 + n) ≡ true
is_communication_of n less = grind (arith, nat_tests)

pair_there : (plan : Plan) (n : ℕ) → n < 512 → build_fault plan ≡ None → (entry_at (built plan) (record { index = 0x1A00 + n; sub = 0 }) ≡ None → ⊥) → has_pdo side.Tpdo (built_description plan).rows n ≡ true
pair_there plan n less h there =
    let rows : Rows = (built_description plan).rows in
    let mapping = or_parts (is_lone_communication rows (0x1A00 + n)) (is_lone_mapping rows (0x1A00 + n)) (paired plan (record { index = 0x1A00 + n; sub = 0 }) h there) in
    let same : 0x1A00 + n - 0x200 ≡ 0x1800 + n = omega arith in
    let object : has_object rows (0x1800 + n) ≡ true = subst (λ i. has_object rows i ≡ true) same
    (object_by (is_mapping (0x1A00 + n)) (has_object rows (0x1A00 + n - 0x200)) (has_sub rows (0x1A00 + n) 0) mapping.1 (is_mapping_of n less)) in
    let sub = a_sub rows (0x1800 + n) object in
    let communication = or_parts (is_lone_communication rows (0x1800 + n)) (is_lone_mapping rows (0x1800 + n)) (paired plan (record { index = 0x1800 + n; sub = sub.0 }) h (present (record { index = 0x1800 + n; sub = sub.0 }) sub.1)) in
    first_by (is_communication (0x1800 + n)) (has_object rows (0x1800 + n + 0x200)) (has_sub rows (0x1800 + n) 1) (has_sub rows (0x1800 + n) 2) communication.0 (is_communication_of n less)
  where
    present : (key : Key) → is_some ((built_description plan).rows key) ≡ true → entry_at (built plan) key ≡ None → ⊥
    present key is absent = let off : is_some ((built_description plan).rows key) ≡ false = ap (λ o. is_some (option_map (λ (e : ListedEntry). e.row) o)) absent in cc

-- ---- together

second_no : (a b c : Bool) (x y z : ℕ) → first_refusal (refused_if a x ∷ refused_if b y ∷ refused_if c z ∷ []) ≡ None → b ≡ false
second_no true b c x y z h = absurd (cc)
second_no false true c x y z h = absurd (cc)
second_no false false c x y z h = refl

none_unmapped : (d : Description) (c : Contents) (index count : ℕ) → count_refusal side.Tpdo d c index count ≡ None → any_unmapped d (counted_words c index count) ≡ false
none_unmapped d c index count h =
    second_no (nat_lt (subs_present d.rows index 64) count) (any_unmapped d (counted_words c index count)) (nat_lt 8 (total_width side.Tpdo d (counted_words c index count))) _ _ _ h

-- a mapping that is there, with this count, which is permitted
mapped_is : (d : Description) (c : Contents) (n count : ℕ) → has_pdo side.Tpdo d.rows n ≡ true → count_of side.Tpdo c n ≡ count → count_refusal side.Tpdo d c (0x1A00 + n) count ≡ None
    → total_of (mapping_of side.Tpdo d c n) ≡ in_all d (counted_words c (0x1A00 + n) count)
mapped_is d c n count pdo is fine =
    ap (λ m. total_of (if has_pdo side.Tpdo d.rows n && is_none (count_refusal side.Tpdo d c (0x1A00 + n) m) then mapped_words side.Tpdo d c (0x1A00 + n) m else [])) is
    ∙ ap (λ b. total_of (if b && is_none (count_refusal side.Tpdo d c (0x1A00 + n) count) then mapped_words side.Tpdo d c (0x1A00 + n) count else [])) pdo
    ∙ ap (λ o. total_of (if is_none o then mapped_words side.Tpdo d c (0x1A00 + n) count else [])) fine

from_0 : (a more total : ℕ) → Some 0 ≡ Some a → total ≡ a + more → more ≡ total
from_0 a more total e f = let zero : 0 ≡ a = cc in omega (arith, zero, f)

mapping_key : (n : ℕ) → n < 512 → is_mapping_index side.Tpdo (0x1A00 + n) ≡ true
mapping_key n less = grind (arith, nat_tests)

count_own : (n : ℕ) → n < 512 → IsOwnKey (record { index = 0x1A00 + n; sub = 0 }) Unsigned8
count_own n less = record { request = grind (arith, nat_tests); answer = grind (arith, nat_tests); fixed = grind (arith, nat_tests); numeric = refl }

word_own : (n sub : ℕ) → n < 512 → 1 ≤ sub → sub ≤ 8 → IsOwnKey (record { index = 0x1A00 + n; sub = sub }) Unsigned32
word_own n sub less low high = record { request = grind (arith, nat_tests); answer = grind (arith, nat_tests); fixed = grind (arith, nat_tests); numeric = refl }

pub bytes_mapped : (plan : Plan) (n : ℕ) → n < 512 → All IsSheetRow plan.rows → build_fault plan ≡ None
    → IfSome (length_of plan.rows plan.node (0x1A00 + n)) (λ bytes. total_of (mapping_of side.Tpdo (built_description plan) (built_contents plan) n) ≡ bytes)
unfolding length_of
bytes_mapped plan n less lawful h = by (preset_at plan.rows plan.node (key_of (0x1A00 + n) 0)) refl
  where
    one : (count : ℕ) → 1 ≤ count → count ≤ 8 → count_of side.Tpdo (built_contents plan) n ≡ count → (total : ℕ) → counted_bytes plan.rows plan.node (0x1A00 + n) count ≡ Some total
        → total_of (mapping_of side.Tpdo (built_description plan) (built_contents plan) n) ≡ total
    one count some few is total e =
        let fine : count_refusal side.Tpdo (built_description plan) (built_contents plan) (0x1A00 + n) count ≡ None = count_fine plan (0x1A00 + n) count h (mapping_key n less) is some in
        let pdo : has_pdo side.Tpdo (built_description plan).rows n ≡ true = pair_there plan n less h (counts plan (record { index = 0x1A00 + n; sub = 0 }) count is some) in
        let adds : Adds (Some 0) (in_all (built_description plan) (words_from (built_contents plan) (0x1A00 + n) 1 count)) total =
        same_total plan.rows plan.node (built_contents plan) (built_description plan) (0x1A00 + n) count few
        (λ sub word low high preset. preset_is plan (to_127 plan.node (node_ok plan h)) lawful (none_out plan h) (record { index = 0x1A00 + n; sub = sub }) Unsigned32 word long (word_own n sub less low high) preset)
        8 1 count (Some 0) total (omega arith) (omega arith) few
        (none_unmapped (built_description plan) (built_contents plan) (0x1A00 + n) count fine) (sym (counted_is plan.rows plan.node (0x1A00 + n) count) ∙ e) in
        mapped_is (built_description plan) (built_contents plan) n count pdo is fine
        ∙ from_0 adds.a (in_all (built_description plan) (words_from (built_contents plan) (0x1A00 + n) 1 count)) total adds.is adds.adds

    within : (count : ℕ) → count_of side.Tpdo (built_contents plan) n ≡ count → (b : Bool) → (nat_le 1 count && nat_le count 8) ≡ b
        → IfSome (if b then counted_bytes plan.rows plan.node (0x1A00 + n) count else None) (λ bytes. total_of (mapping_of side.Tpdo (built_description plan) (built_contents plan) n) ≡ bytes)
    within count is false e = tt
    within count is true e =
        let both = and_parts (nat_le 1 count) (nat_le count 8) e in
        let some : 1 ≤ count = grind (arith, nat_tests, both.0) in
        let few : count ≤ 8 = grind (arith, nat_tests, both.1) in
        from_some _ (counted_bytes plan.rows plan.node (0x1A00 + n) count) (one count some few is)

    by : (o : Option ℕ) → preset_at plan.rows plan.node (key_of (0x1A00 + n) 0) ≡ o
        → IfSome (length_by plan.rows plan.node (0x1A00 + n) o) (λ bytes. total_of (mapping_of side.Tpdo (built_description plan) (built_contents plan) n) ≡ bytes)
    by None e = tt
    by (Some count) e =
        within count (preset_is plan (to_127 plan.node (node_ok plan h)) lawful (none_out plan h) (record { index = 0x1A00 + n; sub = 0 }) Unsigned8 count byte (count_own n less) e) (nat_le 1 count && nat_le count 8) refl
