-- Words of a mapping parameter, one after another.
use Rattle.std.proofs.Common.{◌≡◌, ℕ, suc, ◌+◌, ◌-◌, ◌<◌, ◌≤◌, Bool, true, false, List, ◌∷◌, Some, None, refl, sym, ap, ◌∙◌, arith}
use Rattle.std.proofs.lemmas.Bool.Decides.{nat_tests}
use Rattle.std.proofs.lemmas.List.Sums.{sum_by-cons}
use Rattle.std.specs.Prelude.{map, sum_by, ◌||◌, is_none, nat_lt, unwrap_or}
use Rattle.std.specs.List.{list_any, range_with_len}
use Rattle.co_dict.specs.declared.side.Side.{Side}
use Rattle.co_dict.specs.Rows.{Contents, number_at}
use Rattle.co_dict.specs.Stores.{Description}
use Rattle.co_dict.specs.Refusals.{refused_if, first_of}
use Rattle.co_dict.specs.Objects.{subs_present}
use Rattle.co_dict.specs.MappingWords.{word_width}
use Rattle.co_dict.specs.MappingCounts.{counted_words, total_width, count_refusal}
use Rattle.co_frame_aborts.specs.AbortCodes.{invalid_value, not_mappable, mapping_too_long}

-- the words past the first `earlier` ones, of `count`
abbrev pub words_left : Contents → ℕ → ℕ → ℕ → List ℕ
words_left contents index count earlier = map (λ sub. number_at contents (record { index = index; sub = sub })) (range_with_len (earlier + 1) (count - earlier))

-- the next word is the first of them
pub next_word : (contents : Contents) (index count earlier : ℕ) → earlier < count → words_left contents index count earlier ≡ number_at contents (record { index = index; sub = earlier + 1 }) ∷ words_left contents index count (earlier + 1)
next_word contents index count earlier less =
    let rest : count - earlier ≡ suc (count - (earlier + 1)) = omega arith in
    ap (λ n. map (λ sub. number_at contents (record { index = index; sub = sub })) (range_with_len (earlier + 1) n)) rest

any_next : (p : ℕ → Bool) (word : ℕ) (words left rest : List ℕ) → left ≡ word ∷ rest → p word ≡ false → list_any p words ≡ list_any p left → list_any p words ≡ list_any p rest
any_next p word words left rest next passed h = h ∙ ap (list_any p) next ∙ ap (λ b. b || list_any p rest) passed

any_found : (p : ℕ → Bool) (word : ℕ) (words left rest : List ℕ) → left ≡ word ∷ rest → p word ≡ true → list_any p words ≡ list_any p left → list_any p words ≡ true
any_found p word words left rest next found h = h ∙ ap (list_any p) next ∙ ap (λ b. b || list_any p rest) found

sum_next : (f : ℕ → ℕ) (word width total all : ℕ) (left rest : List ℕ) → left ≡ word ∷ rest → f word ≡ width → total + sum_by f left ≡ all → total + width + sum_by f rest ≡ all
sum_next f word width total all left rest next wide h =
    let split : sum_by f left ≡ width + sum_by f rest = ap (sum_by f) next ∙ sum_by-cons f word rest ∙ ap (λ n. n + sum_by f rest) wide in
    omega (arith, split, h)

-- a word that maps so much was passed
pub passed_next : (side : Side) (d : Description) (contents : Contents) (index count earlier word width : ℕ) → earlier < count → word ≡ number_at contents (record { index = index; sub = earlier + 1 }) → Some width ≡ word_width side d word
    → list_any (λ w. is_none (word_width side d w)) (counted_words contents index count) ≡ list_any (λ w. is_none (word_width side d w)) (words_left contents index count earlier)
    → list_any (λ w. is_none (word_width side d w)) (counted_words contents index count) ≡ list_any (λ w. is_none (word_width side d w)) (words_left contents index count (earlier + 1))
passed_next side d contents index count earlier word width less is wide h =
    any_next (λ w. is_none (word_width side d w)) word _ _ _ (next_word contents index count earlier less ∙ ap (λ w. w ∷ words_left contents index count (earlier + 1)) (sym is)) (ap is_none (sym wide)) h

pub total_next : (side : Side) (d : Description) (contents : Contents) (index count earlier word width total : ℕ) → earlier < count → word ≡ number_at contents (record { index = index; sub = earlier + 1 }) → Some width ≡ word_width side d word
    → total + total_width side d (words_left contents index count earlier) ≡ total_width side d (counted_words contents index count)
    → total + width + total_width side d (words_left contents index count (earlier + 1)) ≡ total_width side d (counted_words contents index count)
total_next side d contents index count earlier word width total less is wide h =
    sum_next (λ w. unwrap_or (word_width side d w) 0) word width total _ _ _ (next_word contents index count earlier less ∙ ap (λ w. w ∷ words_left contents index count (earlier + 1)) (sym is)) (ap (λ o. unwrap_or o 0) (sym wide)) h

bad_by_tests : (many bad long : Bool) → many ≡ false → bad ≡ true → Some not_mappable ≡ first_of (refused_if many invalid_value) (first_of (refused_if bad not_mappable) (first_of (refused_if long mapping_too_long) None))
bad_by_tests false true long m b = refl
bad_by_tests true bad long m b = absurd (cc)
bad_by_tests false false long m b = absurd (cc)

-- a word that can't be mapped refuses the count
pub bad_word : (side : Side) (d : Description) (contents : Contents) (index count earlier word : ℕ) → count ≤ subs_present d.rows index 64 → earlier < count → word ≡ number_at contents (record { index = index; sub = earlier + 1 }) → None ≡ word_width side d word
    → list_any (λ w. is_none (word_width side d w)) (counted_words contents index count) ≡ list_any (λ w. is_none (word_width side d w)) (words_left contents index count earlier)
    → Some not_mappable ≡ count_refusal side d contents index count
bad_word side d contents index count earlier word few less is none h =
    bad_by_tests (nat_lt (subs_present d.rows index 64) count) _ _ (grind (arith, nat_tests))
    (any_found (λ w. is_none (word_width side d w)) word _ _ _ (next_word contents index count earlier less ∙ ap (λ w. w ∷ words_left contents index count (earlier + 1)) (sym is)) (ap is_none (sym none)) h)
