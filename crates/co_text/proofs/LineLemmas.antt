-- The first line of a text.
use Rattle.std.proofs.Common.{◌≡◌, ℕ, ◌<◌, Bool, true, false, ◌==◌, cond, List, [], ◌∷◌, length, refl, sym, ◌∙◌, ap, arith, eqb}
use Rattle.std.specs.List.{list_any, before_first, after_first, slice_split}
use Rattle.std.specs.Str.Lines.{lines, lines_of_parts, strip_carriage_return}
use Rattle.std.proofs.lemmas.List.Splits.{length-slice_split}
use Rattle.co_text.proofs.CutLemmas.{one_part, first_part}

abbrev pub is_line_feed : ℕ → Bool
is_line_feed b = b == 10

parts_more : (x : List ℕ) (parts : List (List ℕ)) → 0 < length parts → lines_of_parts (x ∷ parts) ≡ strip_carriage_return x ∷ lines_of_parts parts
parts_more x [] h = absurd (omega arith)
parts_more x (y ∷ more) h = refl

-- a line that ends with a line feed
lines-first : (text : List ℕ) → list_any is_line_feed text ≡ true →
    lines text ≡ strip_carriage_return (before_first is_line_feed text) ∷ lines (after_first is_line_feed text)
lines-first text h =
    let some : 0 < length (slice_split is_line_feed (after_first is_line_feed text)) = omega (arith, length-slice_split is_line_feed (after_first is_line_feed text)) in
    ap lines_of_parts (first_part is_line_feed text h)
    ∙ parts_more (before_first is_line_feed text) (slice_split is_line_feed (after_first is_line_feed text)) some

one_line : (text : List ℕ) → eqb (length text) 0 ≡ false → lines_of_parts (text ∷ []) ≡ text ∷ []
one_line text h = ap (λ (b : Bool). cond b [] (text ∷ [])) h

-- a text that is one line without an end
pub lines-last : (text : List ℕ) → list_any is_line_feed text ≡ false → eqb (length text) 0 ≡ false → lines text ≡ text ∷ lines []
lines-last text h some = ap lines_of_parts (one_part is_line_feed text h) ∙ one_line text some

pub lines-at : (text front rest line : List ℕ) → list_any is_line_feed text ≡ true → front ≡ before_first is_line_feed text → rest ≡ after_first is_line_feed text
    → line ≡ strip_carriage_return front → lines text ≡ line ∷ lines rest
lines-at text front rest line h before after stripped =
    lines-first text h
    ∙ sym (ap (λ (l : List ℕ). l ∷ lines rest) (stripped ∙ ap strip_carriage_return before)
    ∙ ap (λ (r : List ℕ). strip_carriage_return (before_first is_line_feed text) ∷ lines r) after)
