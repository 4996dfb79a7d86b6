-- A word cut at the first of a mark.
use Rattle.std.proofs.Common.{◌≡◌, ℕ, ◌<◌, ◌==◌, true, false, List, Option, Some, None, Bor, refl, ◌∙◌, arith}
use Rattle.std.specs.Prelude.{option_map}
use Rattle.std.specs.List.{list_any}
use Rattle.std.proofs.lemmas.Bool.Decides.{nat_tests}
use Rattle.std.proofs.lemmas.Str.Pattern.{IsSplitOnceResult, split_once_first}
use Rattle.co_text.proofs.CutLemmas.{list_any-position}
use Rattle.conode_sheets.specs.SheetWords.{first_cut}

pub cut_is : (mark : ℕ) (text : List ℕ) (r : Option (Bor (List ℕ) × Bor (List ℕ))) → IsSplitOnceResult mark text r → mark < 128
    → option_map (λ cut. (cut.0.now, cut.1.now)) r ≡ first_cut mark text
cut_is mark text None split low =
    let ends = split_once_first mark text None split low in
    let none : list_any (λ byte. byte == mark) text ≡ false = list_any-position (λ byte. byte == mark) text ∙ (grind (arith, nat_tests)) in
    rw none refl
cut_is mark text (Some cut) split low =
    let (inside, front, back) = split_once_first mark text (Some cut) split low in
    let some : list_any (λ byte. byte == mark) text ≡ true = list_any-position (λ byte. byte == mark) text ∙ (grind (arith, nat_tests)) in
    rw (some, ← front, ← back) refl
