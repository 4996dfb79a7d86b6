-- A mapping has faults exactly where its count is refused.
use Rattle.std.proofs.Common.{◌≡◌, ℕ, zero, suc, ◌+◌, ◌-◌, ◌*◌, ◌==◌, ◌<◌, ◌≤◌, Bool, true, false, cond, List, [], ◌∷◌, ◌++◌, min, Option, Some, None, refl, sym, ap, ◌∙◌, subst, arith, inl, inr, map}
use Rattle.std.proofs.lemmas.Bool.Decides.{nat_tests}
use Rattle.std.proofs.lemmas.Bool.{true≢false}
use Rattle.std.proofs.Math.Nat.{eq-or-lt_of_le}
use Rattle.std.specs.Prelude.{is_some, is_none, not, ◌&&◌, ◌||◌, nat_lt, flat_map}
use Rattle.std.specs.List.{list_any, range_with_len, prefix_len}
use Rattle.std.proofs.lemmas.List.Folds.{length-prefix_len}
use Rattle.co_frame_aborts.specs.AbortCodes.{invalid_value, not_mappable, mapping_too_long}
use Rattle.co_dict.specs.declared.side.Side.{Side}
use Rattle.co_dict.specs.Rows.{Rows, Contents, number_at}
use Rattle.co_dict.specs.Stores.{Description}
use Rattle.co_dict.specs.Refusals.{refused_if, first_refusal}
use Rattle.co_dict.specs.Objects.{has_sub, subs_present}
use Rattle.co_dict.specs.MappingWords.{word_width}
use Rattle.co_dict.specs.declared.side.Side.TheVariants.{Rpdo, Tpdo}
use Rattle.co_dict.specs.MappingCounts.{is_mapping_index, counted_words, total_width, count_refusal}
use Rattle.co_profile.specs.Indices.{is_within, rpdo_mapping, tpdo_mapping}
use Rattle.co_dict_build.specs.BuildFaults.{is_bad_mapping}
use Rattle.co_dict.proofs.ObjectLemmas.{any_in_range}
use Rattle.co_dict_faults.specs.declared.mapping_fault.MappingFault.{MappingFault}
use Rattle.co_dict_faults.specs.declared.mapping_fault.MappingReason.{MappingReason}
use Rattle.co_dict_faults.specs.declared.mapping_fault.MappingReason.TheVariants.{CountsMore, TooLong, Multiplexed, Missing}
use Rattle.co_dict_faults.specs.MappingReasons.{word_reason, has_from, sub_reason, fault_list, word_faults, is_empty, length_fault, count_reason, counted_faults, is_multiplexed, mapping_fault_at, side_of, mapping_faults}
use Rattle.co_dict_faults.proofs.ReasonLemmas.{reason_of_word}

-- ---- ranges

-- the numbers of a range for which something holds
any_found : (p : ℕ → Bool) (first count : ℕ) → list_any p (range_with_len first count) ≡ true → (i : ℕ) × (first ≤ i) × (i < first + count) × (p i ≡ true)
any_found p first zero h = absurd (true≢false (sym h))
any_found p first (suc count) h = by_test (p first) refl h (any_found p (first + 1) count)
  where
    rest : List ℕ
    rest = range_with_len (first + 1) count

    by_test : (b : Bool) → p first ≡ b → (b || list_any p rest) ≡ true → (list_any p rest ≡ true → (i : ℕ) × (first + 1 ≤ i) × (i < first + 1 + count) × (p i ≡ true)) → (i : ℕ) × (first ≤ i) × (i < first + suc count) × (p i ≡ true)
    by_test true is g next = (first, omega arith, omega arith, is)
    by_test false is g next = let later = next g in (later.0, omega (arith, later.1), omega (arith, later.2), later.3)

none_mapped : (p : ℕ → Bool) (f : ℕ → ℕ) (first count : ℕ) → ((i : ℕ) → first ≤ i → i < first + count → p (f i) ≡ false) → list_any p (map f (range_with_len first count)) ≡ false
none_mapped p f first zero each = refl
none_mapped p f first (suc count) each =
    ap (λ b. b || list_any p (map f (range_with_len (first + 1) count))) (each first (omega arith) (omega arith))
    ∙ none_mapped p f (first + 1) count (λ i low high. each i (omega arith) (omega arith))

or_false : (a b : Bool) → (a || b) ≡ false → (a ≡ false) × (b ≡ false)
or_false true b h = absurd (true≢false h)
or_false false b h = (refl, h)

each_mapped : (p : ℕ → Bool) (f : ℕ → ℕ) (first count i : ℕ) → list_any p (map f (range_with_len first count)) ≡ false → first ≤ i → i < first + count → p (f i) ≡ false
each_mapped p f first zero i h low high = absurd (omega arith)
each_mapped p f first (suc count) i h low high =
    let parts = or_false (p (f first)) (list_any p (map f (range_with_len (first + 1) count))) h in
    elim (eq-or-lt_of_le low) [
      | inl same ↦ subst (λ n. p (f n) ≡ false) same parts.0
      | inr less ↦ each_mapped p f (first + 1) count i parts.1 (omega arith) (omega arith)
    ]

-- the first numbers of a range for which something holds
as_many : (p : ℕ → Bool) (first count k : ℕ) → k ≤ count → ((i : ℕ) → first ≤ i → i < first + k → p i ≡ true) → k ≤ prefix_len p (range_with_len first count)
as_many p first count zero few each = omega arith
as_many p first zero (suc k) few each = absurd (omega arith)
as_many p first (suc count) (suc k) few each =
    let rest = as_many p (first + 1) count k (omega arith) (λ i low high. each i (omega arith) (omega arith)) in
    subst (λ (b : Bool). suc k ≤ cond b (1 + prefix_len p (range_with_len (first + 1) count)) 0) (sym (each first (omega arith) (omega arith))) (omega (arith, rest))

each_of : (p : ℕ → Bool) (first count i : ℕ) → first ≤ i → i < first + prefix_len p (range_with_len first count) → p i ≡ true
each_of p first zero i low high = absurd (omega arith)
each_of p first (suc count) i low high = by_test (p first) refl high (λ from to. each_of p (first + 1) count i from to)
  where
    rest : ℕ
    rest = prefix_len p (range_with_len (first + 1) count)

    by_test : (b : Bool) → p first ≡ b → i < first + cond b (1 + rest) 0 → (first + 1 ≤ i → i < first + 1 + rest → p i ≡ true) → p i ≡ true
    by_test true is high later =
        elim (eq-or-lt_of_le low) [
          | inl same ↦ ap p (sym same) ∙ is
          | inr less ↦ later (omega arith) (omega arith)
        ]
    by_test false is high later = absurd (omega arith)

no_more : (p : ℕ → Bool) (first count : ℕ) → prefix_len p (range_with_len first count) ≤ count
no_more p first zero = omega arith
no_more p first (suc count) = by_test (p first) (no_more p (first + 1) count)
  where
    rest : ℕ
    rest = prefix_len p (range_with_len (first + 1) count)

    by_test : (b : Bool) → rest ≤ count → cond b (1 + rest) 0 ≤ suc count
    by_test true h = omega (arith, h)
    by_test false h = omega arith

present_is : (rows : Rows) (index : ℕ) → subs_present rows index 64 ≡ prefix_len (has_sub rows index) (range_with_len 1 64)
unfolding subs_present
present_is rows index = length-prefix_len (has_sub rows index) (range_with_len 1 64)

-- ---- lists of faults

empty_parts : (xs ys : List MappingFault) → is_empty (xs ++ ys) ≡ (is_empty xs && is_empty ys)
empty_parts [] ys = refl
empty_parts (x ∷ xs) ys = refl

both_true : (a b : Bool) → (a && b) ≡ true → (a ≡ true) × (b ≡ true)
both_true true b h = (refl, h)
both_true false b h = absurd (true≢false (sym h))

empty_each : (f : ℕ → List MappingFault) (first count i : ℕ) → is_empty (flat_map f (range_with_len first count)) ≡ true → first ≤ i → i < first + count → is_empty (f i) ≡ true
empty_each f first zero i h low high = absurd (omega arith)
empty_each f first (suc count) i h low high =
    let parts = both_true (is_empty (f first)) (is_empty (flat_map f (range_with_len (first + 1) count))) (sym (empty_parts (f first) (flat_map f (range_with_len (first + 1) count))) ∙ h) in
    elim (eq-or-lt_of_le low) [
      | inl same ↦ subst (λ n. is_empty (f n) ≡ true) same parts.0
      | inr less ↦ empty_each f (first + 1) count i parts.1 (omega arith) (omega arith)
    ]

all_empty : (f : ℕ → List MappingFault) (first count : ℕ) → ((i : ℕ) → first ≤ i → i < first + count → f i ≡ []) → flat_map f (range_with_len first count) ≡ []
all_empty f first zero each = refl
all_empty f first (suc count) each =
    ap (λ here. here ++ flat_map f (range_with_len (first + 1) count)) (each first (omega arith) (omega arith))
    ∙ all_empty f (first + 1) count (λ i low high. each i (omega arith) (omega arith))

no_reason : (index sub : ℕ) (reason : Option MappingReason) → is_empty (fault_list index sub reason) ≡ true → reason ≡ None
no_reason index sub None h = refl
no_reason index sub (Some reason) h = absurd (true≢false (sym h))

none_of : {X : Type 0} (o : Option X) → is_some o ≡ false → o ≡ None
none_of None h = refl
none_of (Some x) h = absurd (true≢false h)

more_is : (present counted : ℕ) → present < counted → nat_lt present counted ≡ true
more_is present counted less = grind (arith, nat_tests)

-- ---- a mapping

module _ (side : Side) (d : Description) (contents : Contents) (index count : ℕ) (some : 1 ≤ count) where
  abbrev word_at : ℕ → ℕ
  word_at sub = number_at contents (record { index = index; sub = sub })

  abbrev words : List MappingFault
  words = word_faults side d contents index count

  abbrev faults_at : ℕ → List MappingFault
  faults_at sub = fault_list index sub (sub_reason side d contents index sub)

  abbrev is_unmapped : ℕ → Bool
  is_unmapped word = is_none (word_width side d word)

  -- the count is more than the words that are there; a counted word can't be mapped; all map too much
  abbrev many : Bool
  many = nat_lt (subs_present d.rows index 64) count

  abbrev bad : Bool
  bad = list_any is_unmapped (counted_words contents index count)

  abbrev total : ℕ → ℕ
  total n = total_width side d (counted_words contents index n)

  later_there : has_from d.rows index count ≡ true → (i : ℕ) × (count ≤ i) × (i < 65) × (has_sub d.rows index i ≡ true)
  unfolding has_from
  later_there h = let found = any_found (has_sub d.rows index) count (65 - count) h in (found.0, found.1, omega (arith, found.1, found.2), found.3)

  from_there : (sub i : ℕ) → sub ≤ i → i < 65 → has_sub d.rows index i ≡ true → has_from d.rows index sub ≡ true
  unfolding has_from
  from_there sub i low high is = any_in_range (has_sub d.rows index) sub (65 - sub) i low (omega arith) is

  -- where no word and no count is at fault
  module _ (empty : is_empty words ≡ true) (later : has_from d.rows index count ≡ true) where
    few : count ≤ 64
    few = let t = later_there later in omega (arith, t.1, t.2)

    at_sub : (sub : ℕ) → 1 ≤ sub → sub ≤ count → (has_sub d.rows index sub ≡ true) × (is_unmapped (word_at sub) ≡ false)
    at_sub sub low high = by_test (has_sub d.rows index sub) refl none
      where
        short : count ≤ 64
        short = few

        none : sub_reason side d contents index sub ≡ None
        none = no_reason index sub (sub_reason side d contents index sub) (empty_each faults_at 1 (min count 64) sub empty low (omega (arith, short)))

        by_test : (b : Bool) → has_sub d.rows index sub ≡ b → cond b (word_reason side d (word_at sub)) (cond (has_from d.rows index sub) (Some Missing) None) ≡ None
            → (has_sub d.rows index sub ≡ true) × (is_unmapped (word_at sub) ≡ false)
        by_test true is h = (is, sym (reason_of_word side d (word_at sub)) ∙ ap is_some h)
        by_test false is h =
            let t = later_there later in
            let from : has_from d.rows index sub ≡ true = from_there sub t.0 (omega (arith, t.1)) t.2 t.3 in
            let found : Some Missing ≡ None = ap (λ b. cond b (Some Missing) None) (sym from) ∙ h in
            absurd (cc)

    not_many : many ≡ false
    not_many =
        let enough : count ≤ subs_present d.rows index 64 = subst (λ n. count ≤ n) (sym (present_is d.rows index))
        (as_many (has_sub d.rows index) 1 64 count few (λ i low high. (at_sub i low (omega arith)).0)) in
        grind (arith, nat_tests)

    not_bad : bad ≡ false
    not_bad = none_mapped is_unmapped word_at 1 count (λ i low high. (at_sub i low (omega arith)).1)

  -- where the count isn't refused for its words
  module _ (not_many : many ≡ false) (not_bad : bad ≡ false) where
    enough : count ≤ subs_present d.rows index 64
    enough = grind (arith, nat_tests)

    first_words : count ≤ prefix_len (has_sub d.rows index) (range_with_len 1 64)
    first_words = subst (λ n. count ≤ n) (present_is d.rows index) enough

    short : count ≤ 64
    short =
        let most = no_more (has_sub d.rows index) 1 64 in
        let counted = first_words in
        omega (arith, most, counted)

    there : (sub : ℕ) → 1 ≤ sub → sub ≤ count → has_sub d.rows index sub ≡ true
    there sub low high = let counted = first_words in each_of (has_sub d.rows index) 1 64 sub low (omega (arith, counted))

    is_from : has_from d.rows index count ≡ true
    is_from = from_there count count (omega arith) (omega (arith, short)) (there count some (omega arith))

    nothing_at : (sub : ℕ) → 1 ≤ sub → sub < 1 + min count 64 → faults_at sub ≡ []
    nothing_at sub low high =
        let low_count : sub ≤ count = omega (arith, high) in
        let mapped : is_unmapped (word_at sub) ≡ false = each_mapped is_unmapped word_at 1 count sub not_bad low (omega (arith, low_count)) in
        let reason : word_reason side d (word_at sub) ≡ None = none_of (word_reason side d (word_at sub)) (reason_of_word side d (word_at sub) ∙ mapped) in
        ap (λ b. fault_list index sub (cond b (word_reason side d (word_at sub)) (cond (has_from d.rows index sub) (Some Missing) None))) (there sub low low_count)
        ∙ ap (fault_list index sub) reason

    is_nothing : is_empty words ≡ true
    is_nothing = ap is_empty (all_empty faults_at 1 (min count 64) nothing_at)

  abbrev long : ℕ → Bool
  long n = nat_lt 8 (total n)

  refused_by_tests : (a b c : Bool) → is_none (first_refusal (refused_if a invalid_value ∷ refused_if b not_mappable ∷ refused_if c mapping_too_long ∷ [])) ≡ not (a || b || c)
  refused_by_tests true b c = refl
  refused_by_tests false true c = refl
  refused_by_tests false false true = refl
  refused_by_tests false false false = refl

  length_by_test : (b : Bool) (reason : MappingReason) → is_empty (fault_list index 0 (cond b (Some reason) None)) ≡ not b
  length_by_test true reason = refl
  length_by_test false reason = refl

  found_by_tests : (empty later : Bool) → is_empty words ≡ empty → has_from d.rows index count ≡ later
      → (empty && is_empty (fault_list index 0 (cond (not later) (Some CountsMore) (cond empty (length_fault (total (min count 64))) None)))) ≡ not (many || bad || long count)
  found_by_tests true true e l =
      let clear : (many || bad || long count) ≡ long count = ap (λ b. b || bad || long count) (not_many e l) ∙ ap (λ b. b || long count) (not_bad e l) in
      let short = few e l in
      let same : min count 64 ≡ count = omega (arith, short) in
      ap (λ n. is_empty (fault_list index 0 (length_fault (total n)))) same ∙ length_by_test (long count) (TooLong (8 * total count)) ∙ ap not (sym clear)
  found_by_tests false later e l = sym (ap not (refused (λ m b. true≢false (sym (is_nothing m b) ∙ e))))
    where
      refused : (many ≡ false → bad ≡ false → ⊥) → (many || bad || long count) ≡ true
      refused never = by_cases many bad refl refl
        where
          by_cases : (m b : Bool) → many ≡ m → bad ≡ b → (m || b || long count) ≡ true
          by_cases true b p q = refl
          by_cases false true p q = refl
          by_cases false false p q = absurd (never p q)
  found_by_tests true false e l = sym (ap not (refused (λ m b. true≢false (sym (is_from m b) ∙ l))))
    where
      refused : (many ≡ false → bad ≡ false → ⊥) → (many || bad || long count) ≡ true
      refused never = by_cases many bad refl refl
        where
          by_cases : (m b : Bool) → many ≡ m → bad ≡ b → (m || b || long count) ≡ true
          by_cases true b p q = refl
          by_cases false true p q = refl
          by_cases false false p q = absurd (never p q)

  pub reasons_of_count_ : is_empty (counted_faults side d contents index count) ≡ is_none (count_refusal side d contents index count)
  reasons_of_count_ =
      empty_parts words (fault_list index 0 (count_reason (is_empty words) side d contents index count))
      ∙ found_by_tests (is_empty words) (has_from d.rows index count) refl refl
      ∙ sym (refused_by_tests many bad (long count))

  -- more words than a mapping has
  pub refused_past_ : 64 < count → is_none (count_refusal side d contents index count) ≡ false
  refused_past_ past =
      let most = no_more (has_sub d.rows index) 1 64 in
      let there = present_is d.rows index in
      let is_many : many ≡ true = more_is (subs_present d.rows index 64) count (omega (arith, most, there, past)) in
      refused_by_tests many bad (long count) ∙ ap (λ b. not (b || bad || long count)) is_many

pub reasons_of_count : (side : Side) (d : Description) (contents : Contents) (index count : ℕ) → 1 ≤ count
    → is_empty (counted_faults side d contents index count) ≡ is_none (count_refusal side d contents index count)
reasons_of_count side d contents index count some = reasons_of_count_ side d contents index count some

refused_past : (side : Side) (d : Description) (contents : Contents) (index count : ℕ) → 64 < count → is_none (count_refusal side d contents index count) ≡ false
refused_past side d contents index count past = refused_past_ side d contents index count (omega arith) past

-- ---- a mapping that a dictionary begins with

none_is : (o : Option ℕ) → is_none o ≡ not (is_some o)
none_is None = refl
none_is (Some code) = refl

or_none : (a : Bool) → (a || false) ≡ a
or_none true = refl
or_none false = refl

module _ (d : Description) (contents : Contents) (index : ℕ) where
  abbrev count : ℕ
  count = number_at contents (record { index = index; sub = 0 })

  abbrev is_refused : Side → Bool
  is_refused side = is_some (count_refusal side d contents index count)

  by_multiplexed : (side : Side) (m : Bool) → is_multiplexed count ≡ m → 1 ≤ count
      → is_empty (cond m (mapping_fault_at index 0 Multiplexed ∷ []) (counted_faults side d contents index count)) ≡ not (is_refused side)
  by_multiplexed side true m some =
      let past : 64 < count = grind (arith, nat_tests) in
      sym (refused_past side d contents index count past) ∙ none_is (count_refusal side d contents index count)
  by_multiplexed side false m some = reasons_of_count side d contents index count some ∙ none_is (count_refusal side d contents index count)

  by_count : (side : Side) (b : Bool) → (count == 0) ≡ b
      → is_empty (cond b [] (cond (is_multiplexed count) (mapping_fault_at index 0 Multiplexed ∷ []) (counted_faults side d contents index count))) ≡ not (not b && is_refused side)
  by_count side true e = refl
  by_count side false e = by_multiplexed side (is_multiplexed count) refl (grind (arith, nat_tests))

  other_side : is_within rpdo_mapping index ≡ true → is_within tpdo_mapping index ≡ false
  other_side h = grind (arith, nat_tests)

  abbrev bad_by : Bool → Bool → Bool
  bad_by receive transmit = (receive && not (count == 0) && is_refused Rpdo) || (transmit && not (count == 0) && is_refused Tpdo)

  by_side : (b : Bool) → is_within rpdo_mapping index ≡ b → is_mapping_index (cond b Rpdo Tpdo) index ≡ true
      → is_empty (mapping_faults (cond b Rpdo Tpdo) d contents index) ≡ not (bad_by (is_within rpdo_mapping index) (is_within tpdo_mapping index))
  by_side true e h =
      by_count Rpdo (count == 0) refl
      ∙ sym (ap not (ap (λ b. bad_by b (is_within tpdo_mapping index)) e ∙ ap (bad_by true) (other_side e) ∙ or_none (not (count == 0) && is_refused Rpdo)))
  by_side false e h =
      by_count Tpdo (count == 0) refl
      ∙ sym (ap not (ap (λ b. bad_by b (is_within tpdo_mapping index)) e ∙ ap (bad_by false) h))

pub reasons_of_mapping : (d : Description) (contents : Contents) (index : ℕ) → is_mapping_index (side_of index) index ≡ true
    → is_empty (mapping_faults (side_of index) d contents index) ≡ not (is_bad_mapping d contents (record { index = index; sub = 0 }))
reasons_of_mapping d contents index h = by_side d contents index (is_within rpdo_mapping index) refl h
