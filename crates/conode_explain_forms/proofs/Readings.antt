-- The words of a text, one after the other.
use Rattle.std.proofs.Common.{◌≡◌, ℕ, ◌==◌, Bool, false, List, [], ◌∷◌, ◌++◌, Option, Some, None, IfSome, IfNone, Bor, Result, Ok, Err, refl, sym, ap, ◌∙◌, arith, append_assoc}
use Rattle.std.specs.List.{list_any}
use Rattle.std.proofs.lemmas.Bool.Decides.{nat_tests}
use Rattle.std.proofs.lemmas.List.Splits.{slice_split_first}
use Rattle.std.proofs.lemmas.Str.Pattern.{IsSplitOnceResult, split_once_first}
use Rattle.co_text.proofs.CutLemmas.{list_any-position, one_part}
use Rattle.conode_explain_forms.specs.declared.signal.Signal.{Signal}
use Rattle.conode_explain_forms.specs.Words.{signal_word, signals_of, with_first, words_in}

abbrev is_comma : ℕ → Bool
is_comma b = b == 44

-- ---- a text cut at its first comma

module _ (text : List ℕ) (r : Option (Bor (List ℕ) × Bor (List ℕ))) (split : IsSplitOnceResult 44 text r) where
  one_word : r ≡ None → words_in text ≡ text ∷ []
  unfolding words_in
  one_word is =
      let ends = rw is at (split_once_first 44 text r split (omega arith)) in
      let none : list_any is_comma text ≡ false = list_any-position is_comma text ∙ (grind (arith, nat_tests)) in
      one_part is_comma text none

  more_words : (x : Bor (List ℕ) × Bor (List ℕ)) → r ≡ Some x → words_in text ≡ x.0.now ∷ words_in x.1.now
  unfolding words_in
  more_words x is =
      let (inside, front, back) = rw is at (split_once_first 44 text r split (omega arith)) in
      slice_split_first is_comma text 0 inside ∙ rw (front, back) refl

pub one_if : (text : List ℕ) → (r : Option (Bor (List ℕ) × Bor (List ℕ))) → IsSplitOnceResult 44 text r → IfNone r (words_in text ≡ text ∷ [])
one_if text None split = one_word text None split refl
one_if text (Some x) split = tt

pub more_if : (text : List ℕ) → (r : Option (Bor (List ℕ) × Bor (List ℕ))) → IsSplitOnceResult 44 text r
    → IfSome r (λ x. words_in text ≡ x.0.now ∷ words_in x.1.now)
more_if text None split = tt
more_if text (Some x) split = more_words text (Some x) split x refl

-- ---- what words name

-- signals before those that the words after them name
abbrev pub onto : List Signal → Result (List Signal) (List ℕ) → Result (List Signal) (List ℕ)
onto found (Ok more) = Ok (found ++ more)
onto found (Err word) = Err word

onto_first : (found : List Signal) (signal : Signal) (rest : Result (List Signal) (List ℕ)) → onto found (with_first signal rest) ≡ onto (found ++ signal ∷ []) rest
onto_first found signal (Ok more) = ap Ok (sym (append_assoc found (signal ∷ []) more))
onto_first found signal (Err word) = refl

pub onto_none : (rest : Result (List Signal) (List ℕ)) → onto [] rest ≡ rest
onto_none (Ok more) = refl
onto_none (Err word) = refl

module _ (text rest : List ℕ) (found : List Signal) (so_far : signals_of (words_in text) ≡ onto found (signals_of (words_in rest))) where
  module _ (word more : List ℕ) (cut : words_in rest ≡ word ∷ words_in more) where
    pub goes_on : (signal : Signal) → Some signal ≡ signal_word word
        → signals_of (words_in text) ≡ onto (found ++ signal ∷ []) (signals_of (words_in more))
    unfolding signals_of
    goes_on signal h = so_far ∙ rw (cut, sym h) (onto_first found signal (signals_of (words_in more)))

    pub fails_at : None ≡ signal_word word → signals_of (words_in text) ≡ Err word
    unfolding signals_of
    fails_at h = so_far ∙ rw (cut, sym h) refl

  module _ (last : words_in rest ≡ rest ∷ []) where
    pub ends : (signal : Signal) → Some signal ≡ signal_word rest → signals_of (words_in text) ≡ Ok (found ++ signal ∷ [])
    unfolding signals_of
    ends signal h = so_far ∙ rw (last, sym h) refl

    pub fails_last : None ≡ signal_word rest → signals_of (words_in text) ≡ Err rest
    unfolding signals_of
    fails_last h = so_far ∙ rw (last, sym h) refl
