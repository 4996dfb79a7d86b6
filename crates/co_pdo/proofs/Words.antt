-- What mapping words map: widths of at least one byte, and entries that are there.
use Rattle.std.proofs.Common.{◌≡◌, ℕ, zero, suc, ◌+◌, ◌-◌, ◌*◌, ◌<◌, ◌≤◌, Bool, true, false, cond, eqb, leb, ltb, List, [], ◌∷◌, ◌++◌, length, take, min, Option, Some, None, refl, sym, ap, ◌∙◌, subst, arith, append-nil, length-append}
use Rattle.std.specs.Prelude.{◌&&◌, is_some, find, unwrap_or, option_map, option_and_then}
use Rattle.std.specs.Option.{option_map_or}
use Rattle.std.specs.List.{list_all, filter_map, cons_option, range_with_len, take_while, prefix_len}
use Rattle.std.proofs.lemmas.List.{length-take}
use Rattle.std.proofs.lemmas.List.FromFn.{map-range_with_len_more, sum_by-map-range_with_len_more}
use Rattle.std.proofs.lemmas.List.Elements.{filter_map-append}
use Rattle.std.proofs.lemmas.List.Sums.{sum_by-append}
use Rattle.std.proofs.lemmas.Bool.Decides.{nat_tests}
use Rattle.co_value.specs.declared.key.Key.{Key}
use Rattle.co_value.specs.declared.data_type.DataType.{DataType}
use Rattle.co_value.specs.declared.data_type.DataType.TheVariants.{Boolean, Integer8, Integer16, Integer24, Integer32, Integer40, Integer48, Integer56, Integer64, Unsigned8, Unsigned16, Unsigned24, Unsigned32, Unsigned40, Unsigned48, Unsigned56, Unsigned64, VisibleString, OctetString, Domain}
use Rattle.co_value.specs.Types.{width_of}
use Rattle.co_dict.specs.declared.row.Row.{Row}
use Rattle.co_dict.specs.declared.side.Side.{Side}
use Rattle.co_dict.specs.declared.side.Side.TheVariants.{Rpdo, Tpdo}
use Rattle.co_dict.specs.Rows.{Rows, Contents, number_at}
use Rattle.co_dict.specs.Stores.{Description}
use Rattle.co_dict.specs.Refusals.{refused_if, first_refusal}
use Rattle.co_dict.specs.Objects.{has_sub, subs_present}
use Rattle.co_dict.specs.MappingWords.{mapped_key, mapped_bits, dummy_widths, dummy_width, usable_dummy, may_be_mapped, entry_width, mapping_width, word_width}
use Rattle.co_dict.specs.MappingCounts.{counted_words, total_width, count_refusal}
use Rattle.co_frame_aborts.specs.AbortCodes.{invalid_value, not_mappable, mapping_too_long}
use Rattle.co_pdo.specs.declared.mapping.Mapped.{Mapped}
use Rattle.co_pdo.specs.declared.mapping.Mapped.TheVariants.{Entry, Dummy}
use Rattle.co_pdo.specs.Mappings.{mapped_by, mapped_words, width_in, total_of, is_there, all_there}

-- ---- widths

-- a width, where there is one, is at least 1
abbrev wide : Option ℕ → Bool
wide o = option_map_or (λ w. leb 1 w) o true

type_wide : (t : DataType) → wide (width_of t) ≡ true
type_wide Boolean = refl
type_wide Integer8 = refl
type_wide Integer16 = refl
type_wide Integer24 = refl
type_wide Integer32 = refl
type_wide Integer40 = refl
type_wide Integer48 = refl
type_wide Integer56 = refl
type_wide Integer64 = refl
type_wide Unsigned8 = refl
type_wide Unsigned16 = refl
type_wide Unsigned24 = refl
type_wide Unsigned32 = refl
type_wide Unsigned40 = refl
type_wide Unsigned48 = refl
type_wide Unsigned56 = refl
type_wide Unsigned64 = refl
type_wide VisibleString = refl
type_wide OctetString = refl
type_wide Domain = refl

wide_cond : (b : Bool) (o p : Option ℕ) → wide o ≡ true → wide p ≡ true → wide (cond b o p) ≡ true
wide_cond true o p h k = h
wide_cond false o p h k = k

found_wide : (p : (ℕ × ℕ) → Bool) (xs : List (ℕ × ℕ)) → list_all (λ x. leb 1 x.1) xs ≡ true → wide (option_map (λ x. x.1) (find p xs)) ≡ true
found_wide p [] h = refl
found_wide p (x ∷ xs) h = by_tests (p x) (leb 1 x.1) refl h (λ more. found_wide p xs more)
  where
    by_tests : (b c : Bool) → leb 1 x.1 ≡ c → c && list_all (λ y. leb 1 y.1) xs ≡ true → (list_all (λ y. leb 1 y.1) xs ≡ true → wide (option_map (λ y. y.1) (find p xs)) ≡ true) → wide (option_map (λ y. y.1) (cond b (Some x) (find p xs))) ≡ true
    by_tests true true e h more = e
    by_tests false true e h more = more h
    by_tests b false e h more = cc

dummy_wide : (side : Side) (dummies : ℕ → Bool) (index : ℕ) → wide (usable_dummy side dummies index) ≡ true
dummy_wide Rpdo dummies index = wide_cond (dummies index) (dummy_width index) None (found_wide (λ dummy. eqb dummy.0 index) dummy_widths refl) refl
dummy_wide Tpdo dummies index = refl

row_wide : (side : Side) (index : ℕ) (o : Option Row) → wide (option_and_then (λ row. cond (may_be_mapped side index row) (width_of row.data_type) None) o) ≡ true
row_wide side index None = refl
row_wide side index (Some row) = wide_cond (may_be_mapped side index row) (width_of row.data_type) None (type_wide row.data_type) refl

bits_wide : (bits : ℕ) (o : Option ℕ) → wide o ≡ true → wide (option_and_then (λ width. cond (eqb bits (8 * width)) (Some width) None) o) ≡ true
bits_wide bits None h = refl
bits_wide bits (Some w) h = wide_cond (eqb bits (8 * w)) (Some w) None h refl

word_wide : (side : Side) (d : Description) (word : ℕ) → wide (word_width side d word) ≡ true
word_wide side d word = let key = mapped_key word in bits_wide (mapped_bits word) (mapping_width side d key)
    (wide_cond (is_some (usable_dummy side d.dummies key.index)) _ _
    (wide_cond (eqb key.sub 0) _ None (dummy_wide side d.dummies key.index) refl)
    (row_wide side key.index (d.rows key)))

-- a word maps at least one byte
pub at_least_1 : (side : Side) (d : Description) (word width : ℕ) → Some width ≡ word_width side d word → 1 ≤ width
at_least_1 side d word width e = let h : leb 1 width ≡ true = ap wide e ∙ word_wide side d word in grind (arith, nat_tests)

-- ---- entries that are there

eqb_same : (n : ℕ) → eqb n n ≡ true
eqb_same n = grind (arith, nat_tests)

there_of_row : (side : Side) (index : ℕ) (o : Option Row) (w : ℕ) → option_and_then (λ row. cond (may_be_mapped side index row) (width_of row.data_type) None) o ≡ Some w
    → option_map_or (λ row. option_map_or (λ v. eqb v w) (width_of row.data_type) false) o false ≡ true
there_of_row side index None w e = cc
there_of_row side index (Some row) w e = by_test (may_be_mapped side index row) e
  where
    by_test : (b : Bool) → cond b (width_of row.data_type) None ≡ Some w → option_map_or (λ v. eqb v w) (width_of row.data_type) false ≡ true
    by_test true h = ap (λ o. option_map_or (λ v. eqb v w) o false) h ∙ eqb_same w
    by_test false h = cc

same_width : (bits w : ℕ) (o : Option ℕ) → option_and_then (λ width. cond (eqb bits (8 * width)) (Some width) None) o ≡ Some w → o ≡ Some w
same_width bits w None e = cc
same_width bits w (Some v) e = by_test (eqb bits (8 * v)) e
  where
    by_test : (b : Bool) → cond b (Some v) None ≡ Some w → Some v ≡ Some w
    by_test true h = h
    by_test false h = cc

-- what a word maps is there
word_there : (side : Side) (d : Description) (word : ℕ) → option_map_or (is_there d.rows) (mapped_by side d word) true ≡ true
word_there side d word = by_width (word_width side d word) refl (is_some (usable_dummy side d.dummies key.index)) refl
  where
    key : Key
    key = mapped_key word

    by_width : (o : Option ℕ) → word_width side d word ≡ o → (b : Bool) → is_some (usable_dummy side d.dummies (mapped_key word).index) ≡ b → option_map_or (is_there d.rows) (option_map (λ width. cond b (Dummy width) (Entry (mapped_key word) width)) o) true ≡ true
    by_width None e b h = refl
    by_width (Some w) e true h = refl
    by_width (Some w) e false h =
        let mapping : mapping_width side d (mapped_key word) ≡ Some w = same_width (mapped_bits word) w (mapping_width side d (mapped_key word)) e in
        let own : cond (is_some (usable_dummy side d.dummies (mapped_key word).index)) (cond (eqb (mapped_key word).sub 0) (usable_dummy side d.dummies (mapped_key word).index) None) (entry_width side d.rows (mapped_key word)) ≡ entry_width side d.rows (mapped_key word) =
        ap (λ t. cond t (cond (eqb (mapped_key word).sub 0) (usable_dummy side d.dummies (mapped_key word).index) None) (entry_width side d.rows (mapped_key word))) h in
        there_of_row side (mapped_key word).index (d.rows (mapped_key word)) w (sym own ∙ mapping)

-- what words map is there
pub words_there : (side : Side) (d : Description) (words : List ℕ) → all_there d.rows (filter_map (mapped_by side d) words) ≡ true
words_there side d [] = refl
words_there side d (word ∷ words) = by_mapped (mapped_by side d word) (word_there side d word) (words_there side d words)
  where
    by_mapped : (o : Option Mapped) → option_map_or (is_there d.rows) o true ≡ true → all_there d.rows (filter_map (mapped_by side d) words) ≡ true → all_there d.rows (cons_option o (filter_map (mapped_by side d) words)) ≡ true
    by_mapped None h more = more
    by_mapped (Some m) h more = ap (λ b. b && all_there d.rows (filter_map (mapped_by side d) words)) h ∙ more

-- ---- one word after another

abbrev word_at : Contents → ℕ → ℕ → ℕ
word_at contents index sub = number_at contents (record { index = index; sub = sub })

-- one word more
pub words_more : (side : Side) (d : Description) (contents : Contents) (index n : ℕ) → mapped_words side d contents index (n + 1) ≡ mapped_words side d contents index n ++ cons_option (mapped_by side d (word_at contents index (n + 1))) []
words_more side d contents index n =
    ap (filter_map (mapped_by side d)) (map-range_with_len_more (word_at contents index) 1 n (n + 1) (omega arith))
    ∙ filter_map-append (mapped_by side d) (counted_words contents index n) (word_at contents index (n + 1) ∷ [])

pub total_more : (side : Side) (d : Description) (contents : Contents) (index n : ℕ) → total_width side d (counted_words contents index (n + 1)) ≡ total_width side d (counted_words contents index n) + unwrap_or (word_width side d (word_at contents index (n + 1))) 0
total_more side d contents index n = sum_by-map-range_with_len_more (λ word. unwrap_or (word_width side d word) 0) (word_at contents index) 1 n (n + 1) (omega arith)

total_up : (side : Side) (d : Description) (contents : Contents) (index n m : ℕ) → total_width side d (counted_words contents index n) ≤ total_width side d (counted_words contents index (n + m))
total_up side d contents index n zero = let e : n ≡ n + 0 = omega arith in subst (λ k. total_width side d (counted_words contents index n) ≤ total_width side d (counted_words contents index k)) e (omega arith)
total_up side d contents index n (suc m) =
    let e : n + m + 1 ≡ n + suc m = omega arith in
    let more : total_width side d (counted_words contents index n) ≤ total_width side d (counted_words contents index (n + m)) = total_up side d contents index n m in
    let step : total_width side d (counted_words contents index (n + m + 1)) ≡ total_width side d (counted_words contents index (n + m)) + unwrap_or (word_width side d (word_at contents index (n + m + 1))) 0 = total_more side d contents index (n + m) in
    subst (λ k. total_width side d (counted_words contents index n) ≤ total_width side d (counted_words contents index k)) e (omega arith)

-- the width of what a word maps, where it maps something
mapped_width : (side : Side) (d : Description) (word : ℕ) → option_map_or width_in (mapped_by side d word) 0 ≡ unwrap_or (word_width side d word) 0
mapped_width side d word = by_width (word_width side d word) (is_some (usable_dummy side d.dummies (mapped_key word).index))
  where
    by_width : (o : Option ℕ) (b : Bool) → option_map_or width_in (option_map (λ width. cond b (Dummy width) (Entry (mapped_key word) width)) o) 0 ≡ unwrap_or o 0
    by_width None b = refl
    by_width (Some w) true = refl
    by_width (Some w) false = refl

-- what the count's rule lets through
all_clear : (a b c : Bool) → first_refusal (refused_if a invalid_value ∷ refused_if b not_mappable ∷ refused_if c mapping_too_long ∷ []) ≡ None → (a ≡ false) × (c ≡ false)
all_clear true b c e = cc
all_clear false true c e = cc
all_clear false false true e = cc
all_clear false false false e = (refl, refl)

length-take_while : (p : ℕ → Bool) (xs : List ℕ) → length (take_while p xs) ≤ length xs
length-take_while p xs = let short : length (take (prefix_len p xs) xs) ≡ min (prefix_len p xs) (length xs) = length-take (prefix_len p xs) xs in omega (arith, short)

subs_few : (rows : Rows) (index : ℕ) → subs_present rows index 64 ≤ 64
unfolding subs_present
subs_few rows index = length-take_while (has_sub rows index) (range_with_len 1 64)

pub count_few : (side : Side) (d : Description) (contents : Contents) (index count : ℕ) → count_refusal side d contents index count ≡ None → count ≤ 64
count_few side d contents index count e =
    let few : ltb (subs_present d.rows index 64) count ≡ false = (all_clear _ _ _ e).0 in
    let most : subs_present d.rows index 64 ≤ 64 = subs_few d.rows index in
    let up : count ≤ subs_present d.rows index 64 = grind (arith, nat_tests) in
    omega arith

count_total : (side : Side) (d : Description) (contents : Contents) (index count : ℕ) → count_refusal side d contents index count ≡ None → total_width side d (counted_words contents index count) ≤ 8
count_total side d contents index count e = let few : ltb 8 (total_width side d (counted_words contents index count)) ≡ false = (all_clear _ _ _ e).1 in grind (arith, nat_tests)

pub prefix_total : (side : Side) (d : Description) (contents : Contents) (index count n : ℕ) → count_refusal side d contents index count ≡ None → n ≤ count → total_width side d (counted_words contents index n) ≤ 8
prefix_total side d contents index count n e le =
    let up : total_width side d (counted_words contents index n) ≤ total_width side d (counted_words contents index (n + (count - n))) = total_up side d contents index n (count - n) in
    let end : n + (count - n) ≡ count = omega arith in
    let all : total_width side d (counted_words contents index (n + (count - n))) ≤ 8 = subst (λ k. total_width side d (counted_words contents index k) ≤ 8) (sym end) (count_total side d contents index count e) in
    omega arith

-- ---- the entries so far

-- a word that maps something is one entry more
pub record More (side : Side) (d : Description) (contents : Contents) (index n : ℕ) (after : List Mapped) : Type 0 where
  pub mapping : after ≡ mapped_words side d contents index n
  pub total : total_of after ≡ total_width side d (counted_words contents index n)
  pub few : length after ≤ total_of after

pub pushed : (side : Side) (d : Description) (contents : Contents) (index n : ℕ) (before after : List Mapped) (m : Mapped) → More side d contents index n before → after ≡ before ++ m ∷ [] → Some m ≡ mapped_by side d (word_at contents index (n + 1)) → 1 ≤ width_in m
    → More side d contents index (n + 1) after
pushed side d contents index n before after m b e is width =
    let sum : total_of after ≡ total_of before + width_in m = ap total_of e ∙ sum_by-append width_in before (m ∷ []) ∙ omega arith in
    let one : width_in m ≡ unwrap_or (word_width side d (word_at contents index (n + 1))) 0 = ap (λ o. option_map_or width_in o 0) is ∙ mapped_width side d (word_at contents index (n + 1)) in
    let long : length after ≡ length before + 1 = ap length e ∙ length-append before (m ∷ []) in
    record {
      mapping = e ∙ ap (λ xs. xs ++ m ∷ []) b.mapping ∙ ap (λ o. mapped_words side d contents index n ++ cons_option o []) is ∙ sym (words_more side d contents index n);
      total = sum ∙ ap (λ k. k + width_in m) b.total ∙ ap (λ k. total_width side d (counted_words contents index n) + k) one ∙ sym (total_more side d contents index n);
      few = omega (arith, sum, long, b.few);
    }

pub passed : (side : Side) (d : Description) (contents : Contents) (index n : ℕ) (before : List Mapped) → More side d contents index n before → None ≡ mapped_by side d (word_at contents index (n + 1)) → More side d contents index (n + 1) before
passed side d contents index n before b is =
    let none : 0 ≡ unwrap_or (word_width side d (word_at contents index (n + 1))) 0 = ap (λ o. option_map_or width_in o 0) is ∙ mapped_width side d (word_at contents index (n + 1)) in
    record {
      mapping = b.mapping ∙ sym (append-nil (mapped_words side d contents index n)) ∙ ap (λ o. mapped_words side d contents index n ++ cons_option o []) is ∙ sym (words_more side d contents index n);
      total = b.total ∙ omega (arith, none, total_more side d contents index n);
      few = b.few;
    }

-- there is room for one entry more
pub room : (side : Side) (d : Description) (contents : Contents) (index count n : ℕ) (before : List Mapped) (m : Mapped) → More side d contents index n before → count_refusal side d contents index count ≡ None → n < count
    → Some m ≡ mapped_by side d (word_at contents index (n + 1)) → 1 ≤ width_in m → length before < 8
room side d contents index count n before m b clear less is width =
    let one : width_in m ≡ unwrap_or (word_width side d (word_at contents index (n + 1))) 0 = ap (λ o. option_map_or width_in o 0) is ∙ mapped_width side d (word_at contents index (n + 1)) in
    let sum : total_width side d (counted_words contents index (n + 1)) ≡ total_width side d (counted_words contents index n) + unwrap_or (word_width side d (word_at contents index (n + 1))) 0 = total_more side d contents index n in
    let most : total_width side d (counted_words contents index (n + 1)) ≤ 8 = prefix_total side d contents index count (n + 1) clear (omega arith) in
    omega (arith, b.few, b.total)
