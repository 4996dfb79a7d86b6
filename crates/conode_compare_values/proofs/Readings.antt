-- The words of a text, one after the other.
use Rattle.std.proofs.Common.{◌≡◌, ℕ, ◌==◌, ◌<◌, ◌+◌, Bool, true, List, [], ◌∷◌, ◌++◌, length, length-drop, Option, Some, None, IfSome, IfNone, Bor, is_some, refl, sym, ap, ◌∙◌, append_assoc, arith, ltb}
use Rattle.std.specs.List.{list_any, before_first, after_first, position_or_len}
use Rattle.std.proofs.lemmas.Bool.Decides.{nat_tests}
use Rattle.co_text.proofs.CutLemmas.{first_part, list_any-position, one_part}
use Rattle.co_sheet.specs.Content.{Row}
use Rattle.conode_compare_values.specs.declared.entries.HeldEntry.{HeldEntry}
use Rattle.conode_compare_values.specs.HeldWords.{held_of, held_word, with_first, words_in}

abbrev is_comma : ℕ → Bool
is_comma b = b == 44

-- ---- a text cut at its first comma

pub one_if : (text : List ℕ) (r : Option (Bor (List ℕ) × Bor (List ℕ))) → is_some r ≡ list_any is_comma text → IfNone r (words_in text ≡ text ∷ [])
unfolding words_in
one_if text None some = one_part is_comma text (sym some)
one_if text (Some cut) some = tt

pub more_if : (text : List ℕ) (r : Option (Bor (List ℕ) × Bor (List ℕ))) → is_some r ≡ list_any is_comma text
    → IfSome r (λ cut. cut.0.now ≡ before_first is_comma text) → IfSome r (λ cut. cut.1.now ≡ after_first is_comma text)
    → IfSome r (λ cut. words_in text ≡ cut.0.now ∷ words_in cut.1.now)
unfolding words_in
more_if text None some before after = tt
more_if text (Some cut) some before after = first_part is_comma text (sym some) ∙ rw (before, after) refl

pub shorter_if : (text : List ℕ) (r : Option (Bor (List ℕ) × Bor (List ℕ))) → is_some r ≡ list_any is_comma text
    → IfSome r (λ cut. cut.1.now ≡ after_first is_comma text) → IfSome r (λ cut. length cut.1.now < length text)
shorter_if text None some after = tt
shorter_if text (Some cut) some after =
    let within : true ≡ ltb (position_or_len is_comma text) (length text) = some ∙ list_any-position is_comma text in
    let dropped = length-drop (1 + position_or_len is_comma text) text in
    rw after (grind (arith, nat_tests, within, dropped))

-- ---- what words name

-- entries before those that the words after them name
abbrev pub onto : List HeldEntry → Option (List HeldEntry) → Option (List HeldEntry)
onto found None = None
onto found (Some more) = Some (found ++ more)

onto_first : (found : List HeldEntry) (entry : HeldEntry) (rest : Option (List HeldEntry)) → onto found (with_first entry rest) ≡ onto (found ++ entry ∷ []) rest
onto_first found entry None = refl
onto_first found entry (Some more) = ap Some (sym (append_assoc found (entry ∷ []) more))

pub onto_none : (rest : Option (List HeldEntry)) → onto [] rest ≡ rest
onto_none None = refl
onto_none (Some more) = refl

module _ (rows : List Row) (text rest : List ℕ) (found : List HeldEntry) (so_far : held_of rows (words_in text) ≡ onto found (held_of rows (words_in rest))) where
  module _ (word more : List ℕ) (cut : words_in rest ≡ word ∷ words_in more) where
    pub goes_on : (entry : HeldEntry) → held_word rows word ≡ Some entry
        → held_of rows (words_in text) ≡ onto (found ++ entry ∷ []) (held_of rows (words_in more))
    unfolding held_of
    goes_on entry h = so_far ∙ rw (cut, h) (onto_first found entry (held_of rows (words_in more)))

    pub fails_at : held_word rows word ≡ None → held_of rows (words_in text) ≡ None
    unfolding held_of
    fails_at h = so_far ∙ rw (cut, h) refl

  module _ (last : words_in rest ≡ rest ∷ []) where
    pub ends : (entry : HeldEntry) → held_word rows rest ≡ Some entry → held_of rows (words_in text) ≡ Some (found ++ entry ∷ [])
    unfolding held_of
    ends entry h = so_far ∙ rw (last, h) refl

    pub fails_last : held_word rows rest ≡ None → held_of rows (words_in text) ≡ None
    unfolding held_of
    fails_last h = so_far ∙ rw (last, h) refl
