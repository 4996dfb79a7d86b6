-- The words of an option, one after the other.
use Rattle.std.proofs.Common.{◌≡◌, ℕ, ◌==◌, Bool, true, false, List, [], ◌∷◌, ◌++◌, Option, Some, None, IfSome, IfNone, Bor, Result, Ok, Err, refl, sym, ap, ◌∙◌, arith, append_assoc}
use Rattle.std.specs.List.{list_any, after_first, slice_split}
use Rattle.std.proofs.lemmas.Bool.Decides.{nat_tests}
use Rattle.std.proofs.lemmas.List.Splits.{slice_split_first}
use Rattle.std.proofs.lemmas.Str.Pattern.{IsSplitOnceResult, split_once_first}
use Rattle.co_text.proofs.CutLemmas.{list_any-position, one_part}
use Rattle.conode_explain_filter.specs.declared.condition.Condition.{Condition}
use Rattle.conode_explain_filter.specs.declared.option.FilterOption.{FilterOption}
use Rattle.conode_explain_filter.specs.Conditions.{condition_in, conditions_of, is_time, with_first, words_in}

abbrev is_comma : ℕ → Bool
is_comma b = b == 44

-- ---- a text cut at its first comma

many : (option : FilterOption) (text : List ℕ) → is_time option ≡ false → words_in option text ≡ slice_split is_comma text
unfolding words_in
many option text h = rw h refl

module _ (option : FilterOption) (text : List ℕ) where
  pub one_time : is_time option ≡ true → words_in option text ≡ text ∷ []
  unfolding words_in
  one_time h = rw h refl

  module _ (lists : is_time option ≡ false) (r : Option (Bor (List ℕ) × Bor (List ℕ))) (split : IsSplitOnceResult 44 text r) where
    pub one_word : r ≡ None → words_in option text ≡ text ∷ []
    one_word is =
        let ends = rw is at (split_once_first 44 text r split (omega arith)) in
        let none : list_any is_comma text ≡ false = list_any-position is_comma text ∙ (grind (arith, nat_tests)) in
        many option text lists ∙ one_part is_comma text none

    pub more_words : (x : Bor (List ℕ) × Bor (List ℕ)) → r ≡ Some x → words_in option text ≡ x.0.now ∷ words_in option x.1.now
    more_words x is =
        let (inside, front, back) = rw is at (split_once_first 44 text r split (omega arith)) in
        many option text lists ∙ slice_split_first is_comma text 0 inside
        ∙ rw (front, back, many option (after_first is_comma text) lists) refl

pub one_if : (option : FilterOption) (text : List ℕ) → is_time option ≡ false → (r : Option (Bor (List ℕ) × Bor (List ℕ))) → IsSplitOnceResult 44 text r
    → IfNone r (words_in option text ≡ text ∷ [])
one_if option text lists None split = one_word option text lists None split refl
one_if option text lists (Some x) split = tt

pub more_if : (option : FilterOption) (text : List ℕ) → is_time option ≡ false → (r : Option (Bor (List ℕ) × Bor (List ℕ))) → IsSplitOnceResult 44 text r
    → IfSome r (λ x. words_in option text ≡ x.0.now ∷ words_in option x.1.now)
more_if option text lists None split = tt
more_if option text lists (Some x) split = more_words option text lists (Some x) split x refl

-- ---- what words ask for

-- conditions before those that the words after them ask for
abbrev pub onto : List Condition → Result (List Condition) (List ℕ) → Result (List Condition) (List ℕ)
onto found (Ok more) = Ok (found ++ more)
onto found (Err word) = Err word

onto_first : (found : List Condition) (condition : Condition) (rest : Result (List Condition) (List ℕ)) → onto found (with_first condition rest) ≡ onto (found ++ condition ∷ []) rest
onto_first found condition (Ok more) = ap Ok (sym (append_assoc found (condition ∷ []) more))
onto_first found condition (Err word) = refl

onto_none : (rest : Result (List Condition) (List ℕ)) → rest ≡ onto [] rest
onto_none (Ok more) = refl
onto_none (Err word) = refl

pub onto_empty : (found : List Condition) (rest : Result (List Condition) (List ℕ)) → found ≡ [] → rest ≡ onto found rest
onto_empty found rest h = rw h (onto_none rest)

module _ (option : FilterOption) (text rest : List ℕ) (found : List Condition)
    (so_far : conditions_of option (words_in option text) ≡ onto found (conditions_of option (words_in option rest))) where
  module _ (word more : List ℕ) (cut : words_in option rest ≡ word ∷ words_in option more) where
    pub goes_on : (condition : Condition) → Some condition ≡ condition_in option word
        → conditions_of option (words_in option text) ≡ onto (found ++ condition ∷ []) (conditions_of option (words_in option more))
    unfolding conditions_of
    goes_on condition h = so_far ∙ rw (cut, sym h) (onto_first found condition (conditions_of option (words_in option more)))

    pub fails_at : None ≡ condition_in option word → conditions_of option (words_in option text) ≡ Err word
    unfolding conditions_of
    fails_at h = so_far ∙ rw (cut, sym h) refl

  module _ (last : words_in option rest ≡ rest ∷ []) where
    pub ends : (condition : Condition) → Some condition ≡ condition_in option rest
        → conditions_of option (words_in option text) ≡ Ok (found ++ condition ∷ [])
    unfolding conditions_of
    ends condition h = so_far ∙ rw (last, sym h) refl

    pub fails_last : None ≡ condition_in option rest → conditions_of option (words_in option text) ≡ Err rest
    unfolding conditions_of
    fails_last h = so_far ∙ rw (last, sym h) refl
