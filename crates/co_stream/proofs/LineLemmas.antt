-- The first line of a text, by its line feed.
use Rattle.std.proofs.Common.{◌≡◌, ℕ, ◌+◌, ◌-◌, ◌<◌, ◌≤◌, Bool, true, false, ◌||◌, ◌==◌, cond, List, [], ◌∷◌, ◌++◌, length, take, All, refl, sym, ap, ◌∙◌, arith, eqb, eqb-true, ltb, append_assoc, append-nil, length-append, get_or, length-take}
use Rattle.std.specs.Prelude.{slice_index}
use Rattle.std.specs.List.{list_any, before_first, after_first, position_or_len, slice_split, onto_first}
use Rattle.std.specs.Str.Lines.{lines, lines_of_parts, strip_carriage_return}
use Rattle.std.proofs.lemmas.Bool.Decides.{nat_tests}
use Rattle.std.proofs.lemmas.List.{get_or-append_right}
use Rattle.std.proofs.Math.Seq.{take-append-add}
use Rattle.std.proofs.lemmas.List.Folds.{list_any-append, list_any_none}
use Rattle.std.proofs.lemmas.List.Splits.{length-slice_split}
use Rattle.std.proofs.lemmas.List.Sums.{split_at_first, fails_before_first, passes_at_first}
use Rattle.std.proofs.lemmas.Grind.{common_steps}
use Rattle.co_text.proofs.CutLemmas.{list_any-position, one_part}
use Rattle.co_stream.specs.Lines.{has_line_feed, with_return, IsTooLong}

abbrev is_feed : ℕ → Bool
is_feed b = b == 10

neither : (a b : Bool) → (a || b) ≡ false → (a ≡ false) × (b ≡ false)
neither false b h = (refl, h)
neither true b h = cc

-- ---- line feeds

pub no_feed-append : (xs ys : List ℕ) → has_line_feed xs ≡ false → has_line_feed ys ≡ false → has_line_feed (xs ++ ys) ≡ false
no_feed-append xs ys h k = list_any-append is_feed xs ys ∙ (rw (h, k) refl)

within : (text : List ℕ) → has_line_feed text ≡ true → position_or_len is_feed text < length text
within text h =
    let e : ltb (position_or_len is_feed text) (length text) ≡ true = sym (list_any-position is_feed text) ∙ h in
    grind (arith, nat_tests)

-- a text at its first line feed
pub cut_at_feed : (text front after : List ℕ) → list_any is_feed text ≡ true → front ≡ before_first is_feed text → after ≡ after_first is_feed text
    → (text ≡ front ++ 10 ∷ after) × (has_line_feed front ≡ false)
cut_at_feed text front after some before past =
    let l = within text some in
    let fails : All (λ x. is_feed x ≡ false) (before_first is_feed text) = λ k e m. let k' = fails_before_first is_feed text k e (grind (arith, common_steps)) in grind (arith, common_steps) in
    let ten : get_or text (position_or_len is_feed text) 0 ≡ 10 = eqb-true _ _ (passes_at_first is_feed text 0 l) in
    (rw (before, past) (split_at_first is_feed text 0 l ∙ ap (λ b. before_first is_feed text ++ b ∷ after_first is_feed text) ten), rw before (list_any_none is_feed _ fails))

split_more : (x : ℕ) (xs : List ℕ) (parts all : List (List ℕ)) → is_feed x ≡ false → all ≡ xs ∷ parts → cond (is_feed x) ([] ∷ all) (onto_first x all) ≡ (x ∷ xs) ∷ parts
split_more x xs parts all h e = rw (h, e) refl

split_at_feed : (xs ys : List ℕ) → has_line_feed xs ≡ false → slice_split is_feed (xs ++ 10 ∷ ys) ≡ xs ∷ slice_split is_feed ys
split_at_feed [] ys h = refl
split_at_feed (x ∷ xs) ys h = let both = neither (is_feed x) (has_line_feed xs) h in split_more x xs _ _ both.0 (split_at_feed xs ys both.1)

parts_more : (x : List ℕ) (parts : List (List ℕ)) → 0 < length parts → lines_of_parts (x ∷ parts) ≡ strip_carriage_return x ∷ lines_of_parts parts
parts_more x [] h = absurd (omega arith)
parts_more x (y ∷ more) h = refl

-- a line that ends with a line feed
pub lines-feed : (line rest : List ℕ) → has_line_feed line ≡ false → lines (line ++ 10 ∷ rest) ≡ strip_carriage_return line ∷ lines rest
lines-feed line rest h =
    ap lines_of_parts (split_at_feed line rest h)
    ∙ parts_more line (slice_split is_feed rest) (omega (arith, length-slice_split is_feed rest))

one_line : (text : List ℕ) → eqb (length text) 0 ≡ false → lines_of_parts (text ∷ []) ≡ text ∷ []
one_line text h = ap (λ (b : Bool). cond b [] (text ∷ [])) h

-- a text that is one line without an end
pub lines-last : (text : List ℕ) → has_line_feed text ≡ false → 0 < length text → lines text ≡ text ∷ []
lines-last text h some = ap lines_of_parts (one_part is_feed text h) ∙ one_line text (grind (arith, nat_tests))

-- ---- carriage returns

choose : (b : Bool) (xs ys zs : List ℕ) → cond b (xs ++ ys) (xs ++ zs) ≡ xs ++ cond b ys zs
choose true xs ys zs = refl
choose false xs ys zs = refl

-- the last byte of some that follow others
strip-append : (xs ys : List ℕ) → 0 < length ys → strip_carriage_return (xs ++ ys) ≡ xs ++ strip_carriage_return ys
strip-append xs ys some =
    let last : slice_index (xs ++ ys) (length (xs ++ ys) - 1) ≡ slice_index ys (length ys - 1) =
    get_or-append_right xs ys (length xs) (length (xs ++ ys) - 1) 0 refl (omega (arith, length-append xs ys))
    ∙ ap (λ n. get_or ys n 0) (omega (arith, length-append xs ys)) in
    let front : take (length (xs ++ ys) - 1) (xs ++ ys) ≡ xs ++ take (length ys - 1) ys =
    ap (λ n. take n (xs ++ ys)) (omega (arith, length-append xs ys)) ∙ take-append-add xs ys (length ys - 1) in
    ap (λ b. cond (b == 13) (take (length (xs ++ ys) - 1) (xs ++ ys)) (xs ++ ys)) last
    ∙ ap (λ l. cond (slice_index ys (length ys - 1) == 13) l (xs ++ ys)) front
    ∙ choose (slice_index ys (length ys - 1) == 13) xs _ ys

shorter : (b : Bool) (n : ℕ) (xs : List ℕ) → length (cond b (take n xs) xs) ≤ length xs
shorter true n xs = omega (arith, length-take n xs)
shorter false n xs = omega arith

strip-length : (xs : List ℕ) → length (strip_carriage_return xs) ≤ length xs
strip-length xs = shorter _ _ xs

longer : (raw more : List ℕ) → length (strip_carriage_return raw) ≤ length (strip_carriage_return (raw ++ more))
longer raw [] = rw (append-nil raw) (omega arith)
longer raw (x ∷ more) = omega (arith, strip-length raw, ap length (strip-append raw (x ∷ more) (omega arith)), length-append raw (strip_carriage_return (x ∷ more)))

marked : (bytes front : List ℕ) (flag : Bool) → with_return (bytes ++ front) flag ≡ bytes ++ with_return front flag
marked bytes front true = append_assoc bytes front (13 ∷ [])
marked bytes front false = refl

-- bytes that are added to a line: a carriage return at their end is not yet a part of it
pub added : (old front bytes new : List ℕ) (flag : Bool) → 0 < length bytes → front ≡ strip_carriage_return bytes → with_return front flag ≡ bytes → new ≡ old ++ front
    → strip_carriage_return (with_return new flag) ≡ new
added old front bytes new flag some stripped whole grown =
    ap (λ l. strip_carriage_return (with_return l flag)) grown
    ∙ ap strip_carriage_return (marked old front flag ∙ ap (λ l. old ++ l) whole)
    ∙ strip-append old bytes some
    ∙ ap (λ l. old ++ l) (sym stripped)
    ∙ sym grown

-- ---- lines that are too long

with_feed : (raw front after text : List ℕ) → text ≡ raw ++ (front ++ 10 ∷ after) → has_line_feed raw ≡ false → has_line_feed front ≡ false → 512 < length (strip_carriage_return raw) → IsTooLong text
with_feed raw front after text e h k long =
    (strip_carriage_return (raw ++ front), lines after, ap lines (e ∙ sym (append_assoc raw front (10 ∷ after))) ∙ lines-feed (raw ++ front) after (no_feed-append raw front h k), omega (arith, longer raw front))

without_feed : (raw after text : List ℕ) → text ≡ raw ++ after → has_line_feed raw ≡ false → has_line_feed after ≡ false → 512 < length (strip_carriage_return raw) → IsTooLong text
without_feed raw after text e h k long =
    let size : length text ≡ length raw + length after = ap length e ∙ length-append raw after in
    let none : has_line_feed text ≡ false = ap has_line_feed e ∙ no_feed-append raw after h k in
    (text, [], lines-last text none (omega (arith, strip-length raw)), omega (arith, strip-length raw))

by_feed : (raw after text : List ℕ) (b : Bool) → has_line_feed after ≡ b → text ≡ raw ++ after → has_line_feed raw ≡ false → 512 < length (strip_carriage_return raw) → IsTooLong text
by_feed raw after text true k e h long =
    let cut = cut_at_feed after (before_first is_feed after) (after_first is_feed after) k refl refl in
    with_feed raw (before_first is_feed after) (after_first is_feed after) text (e ∙ ap (λ l. raw ++ l) cut.0) h cut.1 long
by_feed raw after text false k e h long = without_feed raw after text e h k long

-- a line that has begun with so many bytes is too long, whatever follows
pub too_long : (raw after text : List ℕ) → text ≡ raw ++ after → has_line_feed raw ≡ false → 512 < length (strip_carriage_return raw) → IsTooLong text
too_long raw after text e h long = by_feed raw after text (has_line_feed after) refl e h long
