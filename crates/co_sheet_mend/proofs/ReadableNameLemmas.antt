-- All rounds of mending give each entry the name that it had.
use Rattle.std.proofs.Common.{◌≡◌, ℕ, zero, suc, ◌≤◌, Bool, true, false, cond, ◌||◌, List, [], length, Option, Some, None, refl, sym, ap, ◌∙◌, ltb, arith}
use Rattle.std.proofs.lemmas.Bool.Decides.{nat_tests}
use Rattle.co_sheet_text.specs.declared.section_kind.SectionKind.{SectionKind}
use Rattle.co_sheet_adapt.specs.Adapted.{adapted_text}
use Rattle.co_sheet_mend.specs.NameLaws.{is_entry, name_read}
use Rattle.co_sheet_mend.specs.ReadableTexts.{ReadableText, as_mended, is_accepted, is_too_large, mended, mended_in, readable, rewritten}
use Rattle.co_sheet_mend.proofs.FirstLineLemmas.{IsCommented, adapted-commented, mended-commented, unmarked}
use Rattle.co_sheet_mend.proofs.RoundNameLemmas.{round-named}

few-bytes : (text : List ℕ) → ltb 1048576 (length text) ≡ false → length text ≤ 1048576
few-bytes text h = grind (arith, nat_tests, h)

same-text : (x y : List ℕ) → ◌≡◌ {A = Option (List ℕ)} (Some x) (Some y) → x ≡ y
same-text x y h = cc

same-readable : (x y : ReadableText) → ◌≡◌ {A = Option ReadableText} (Some x) (Some y) → x.text ≡ y.text
same-readable x y h = cc

mended-text : (m : Option (List ℕ)) (made : ReadableText) → as_mended m ≡ Some made → m ≡ Some made.text
mended-text None made h = absurd (cc)
mended-text (Some text) made h = let of : ReadableText = record { text = text; is_mended = true } in ap (λ t. Some t) (same-readable of made h)

or-right : (t u : Bool) → (t || u) ≡ false → u ≡ false
or-right true u h = absurd (cc)
or-right false u h = h

module _ (entry : SectionKind) (is : is_entry entry ≡ true) where
  round-cases : (text made : List ℕ) → IsCommented text → (large accepted : Bool) (more : Option (List ℕ)) → is_too_large text ≡ large → cond large None (cond accepted (Some (mended text)) more) ≡ Some made
      → (length text ≤ 1048576 → more ≡ Some made → name_read entry made ≡ name_read entry (mended text)) → name_read entry made ≡ name_read entry text
  round-cases text made of true accepted more large h rest = absurd (cc)
  round-cases text made of false true more large h rest =
      let few = few-bytes text large in
      ap (λ t. name_read entry t) (sym (same-text (mended text) made h)) ∙ round-named entry is text few (unmarked (mended text) (mended-commented text few of))
  round-cases text made of false false more large h rest =
      let few = few-bytes text large in rest few h ∙ round-named entry is text few (unmarked (mended text) (mended-commented text few of))

  pub rounds-named : (rounds : ℕ) (text made : List ℕ) → IsCommented text → mended_in rounds text ≡ Some made → name_read entry made ≡ name_read entry text
  unfolding mended_in
  rounds-named zero text made of h = absurd (cc)
  rounds-named (suc rounds) text made of h =
      round-cases text made of (is_too_large text) (is_accepted (mended text)) (mended_in rounds (mended text)) refl h
      (λ few more. rounds-named rounds (mended text) made (mended-commented text few of) more)

  rewritten-cases : (adapted : List ℕ) (made : ReadableText) → IsCommented adapted → (accepted : Bool) → cond accepted (Some (record { text = adapted; is_mended = false })) (as_mended (mended_in 8 adapted)) ≡ Some made
      → name_read entry made.text ≡ name_read entry adapted
  rewritten-cases adapted made of_text true h = let of : ReadableText = record { text = adapted; is_mended = false } in ap (λ t. name_read entry t) (sym (same-readable of made h))
  rewritten-cases adapted made of_text false h = rounds-named 8 adapted made.text of_text (mended-text (mended_in 8 adapted) made h)

  readable-cases : (text : List ℕ) (made : ReadableText) (stays : Bool) → (is_too_large text || is_accepted text) ≡ stays → cond stays None (rewritten text) ≡ Some made → name_read entry made.text ≡ name_read entry (adapted_text [] text)
  unfolding rewritten
  readable-cases text made true e h = absurd (cc)
  readable-cases text made false e h =
      rewritten-cases (adapted_text [] text) made (adapted-commented text (or-right (is_too_large text) (is_accepted text) e)) (is_accepted (adapted_text [] text)) h

pub readable-named : (text : List ℕ) (made : ReadableText) (kind : SectionKind) → readable text ≡ Some made → is_entry kind ≡ true → name_read kind made.text ≡ name_read kind (adapted_text [] text)
readable-named text made kind h is = readable-cases kind is text made (is_too_large text || is_accepted text) refl h
