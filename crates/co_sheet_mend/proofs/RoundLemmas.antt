-- One round of mending.
use Rattle.std.proofs.Common.{◌≡◌, ℕ, zero, suc, ◌-◌, ◌<◌, ◌≤◌, ltb, Bool, true, false, List, length, Option, Some, None, refl, sym, ap, ◌∙◌, arith}
use Rattle.std.specs.Prelude.{if◌then◌else◌}
use Rattle.std.proofs.lemmas.Bool.Decides.{nat_tests}
use Rattle.co_sheet_mend.specs.ReadableTexts.{is_accepted, is_too_large, mended, mended_in}

-- none where the text is too large, what is made where that is accepted, else what the rounds after it make
module _ (made more : Option (List ℕ)) where
  abbrev choose : Bool → Bool → Option (List ℕ)
  choose large accepted = if large then None else (if accepted then made else more)

  choose_none : (large accepted : Bool) → large ≡ true → choose large accepted ≡ None
  choose_none true accepted is = refl
  choose_none false accepted is = absurd cc

  choose_made : (large accepted : Bool) → large ≡ false → accepted ≡ true → choose large accepted ≡ made
  choose_made true accepted few is = absurd cc
  choose_made false true few is = refl
  choose_made false false few is = absurd cc

  choose_more : (large accepted : Bool) → large ≡ false → accepted ≡ false → choose large accepted ≡ more
  choose_more true accepted few fails = absurd cc
  choose_more false true few fails = absurd cc
  choose_more false false few fails = refl

pub no_round : (rounds : ℕ) (text : List ℕ) → rounds ≤ 0 → mended_in rounds text ≡ None
unfolding mended_in
no_round zero text none = refl
no_round (suc rounds) text none = absurd (omega arith)

round : (rounds : ℕ) (text : List ℕ) → 0 < rounds
    → mended_in rounds text ≡ choose (Some (mended text)) (mended_in (rounds - 1) (mended text)) (is_too_large text) (is_accepted (mended text))
unfolding mended_in
round zero text some = absurd (omega arith)
round (suc rounds) text some =
    let before : rounds ≡ suc rounds - 1 = omega arith in
    ap (λ (n : ℕ). choose (Some (mended text)) (mended_in n (mended text)) (is_too_large text) (is_accepted (mended text))) before

module _ (rounds : ℕ) (text : List ℕ) (some : 0 < rounds) where
  pub too_large : 1048576 < length text → mended_in rounds text ≡ None
  too_large many =
      let is : ltb 1048576 (length text) ≡ true = grind (arith, nat_tests) in
      round rounds text some ∙ choose_none _ _ (is_too_large text) (is_accepted (mended text)) is

  module _ (few : length text ≤ 1048576) (after : List ℕ) (made : after ≡ mended text) where
    whole : ltb 1048576 (length text) ≡ false
    whole = grind (arith, nat_tests)

    pub accepted : is_accepted after ≡ true → mended_in rounds text ≡ Some after
    accepted is =
        round rounds text some
        ∙ choose_made _ _ (is_too_large text) (is_accepted (mended text)) whole (ap (λ (t : List ℕ). is_accepted t) (sym made) ∙ is)
        ∙ ap (λ (t : List ℕ). Some t) (sym made)

    pub refused : is_accepted after ≡ false → mended_in rounds text ≡ mended_in (rounds - 1) after
    refused fails =
        round rounds text some
        ∙ choose_more _ _ (is_too_large text) (is_accepted (mended text)) whole (ap (λ (t : List ℕ). is_accepted t) (sym made) ∙ fails)
        ∙ ap (λ (t : List ℕ). mended_in (rounds - 1) t) (sym made)
