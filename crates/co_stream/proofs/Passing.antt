-- How far the next line is read, and what it is.
use Rattle.std.proofs.Common.{◌≡◌, ℕ, ◌+◌, ◌-◌, ◌<◌, ◌≤◌, Bool, true, false, not, cond, List, [], ◌∷◌, ◌++◌, length, take, Option, None, Some, IfSome, refl, sym, ap, subst, ◌∙◌, arith, length-append, length-take, append-nil, append_assoc}
use Rattle.std.proofs.Common.{⊎_elim, inl, inr}
use Rattle.std.proofs.lemmas.Bool.{cases_lt}
use Rattle.std.specs.Prelude.{slice_index, ◌==◌}
use Rattle.std.specs.Io.KnownBytes.{Consumes, Keeps, IsAtEnd}
use Rattle.std.specs.Str.Lines.{strip_carriage_return}
use Rattle.std.proofs.KnownBytes.{Consumes-trans, Consumes-kept}
use Rattle.co_stream.specs.Lines.{has_line_feed, GivesLine}
use Rattle.co_stream.specs.Readings.{known_bytes, Gave, LosesPartOfLine, MayHave}
use Rattle.co_stream.proofs.LineLemmas.{no_feed-append}
use Rattle.co_stream.proofs.ReadingLemmas.{known-taken, line_ended, last_given, nothing_came, part_lost}
use Rattle.co_stream.specs.declared.bounded_lines.Found.{Found}
use Rattle.co_stream.specs.declared.bounded_lines.Found.TheVariants.{Line, Last, TooLong, End}
use Rattle.co_stream.proofs.Readers.{gave_kept, gave_so, gave_then}
use Rattle.co_stream.specs.Founds.{is_closed, ClosesAlike, Finds}

-- A part of a line was passed over, which makes it longer than 512 bytes; or nothing was.
pub record Passed (old now : Option (List ℕ)) (passing : Bool) : Type 0 where
  pub part : List ℕ
  pub came : Consumes old now part
  pub within : has_line_feed part ≡ false
  pub long : passing ≡ true → 513 < length part
  pub none : passing ≡ false → part ≡ []

pub nothing_passed : (known : Option (List ℕ)) → Passed known known false
nothing_passed known = record { part = []; came = nothing known; within = refl; long = λ e. absurd cc; none = λ _. refl } where
  nothing : (known : Option (List ℕ)) → Consumes known known []
  nothing None = tt
  nothing (Some bytes) = refl

pub length_zero : (xs : List ℕ) → length xs ≡ 0 → xs ≡ []
length_zero [] e = refl
length_zero (x ∷ xs) e = absurd (omega arith)

-- all that is left is passed over
pub more_passed : (old : Option (List ℕ)) (ended passing : Bool) (rest : List ℕ) (remaining : Option (List ℕ)) → Passed old (known_bytes ended rest remaining) passing
    → has_line_feed rest ≡ false → (passing ≡ false → 513 < length rest) → Passed old (known_bytes ended [] remaining) true
more_passed old ended passing rest remaining h none long = record {
  part = h.part ++ rest;
  came = Consumes-trans old _ _ h.part rest h.came (known-taken ended rest rest [] remaining (sym (append-nil rest)));
  within = no_feed-append h.part rest h.within none;
  long = λ _. longer passing h.long long;
  none = λ e. absurd cc;
} where
  longer : (passing : Bool) → (passing ≡ true → 513 < length h.part) → (passing ≡ false → 513 < length rest) → 513 < length (h.part ++ rest)
  longer true a b = omega (arith, a refl, length-append h.part rest)
  longer false a b = omega (arith, b refl, length-append h.part rest)

-- what is left is passed over, or kept
pub passed_over : (old : Option (List ℕ)) (ended passing over : Bool) (rest left : List ℕ) (remaining : Option (List ℕ)) → Passed old (known_bytes ended rest remaining) passing
    → has_line_feed rest ≡ false → (over ≡ true → (length left ≡ 0) × (passing ≡ false → 513 < length rest)) → (over ≡ false → (passing ≡ false) × (left ≡ rest))
    → Passed old (known_bytes ended left remaining) over × (has_line_feed left ≡ false)
passed_over old ended passing true rest left remaining h none over kept =
    let o = over refl in
    let empty = length_zero left o.0 in
    subst (λ (l : List ℕ). Passed old (known_bytes ended l remaining) true × (has_line_feed l ≡ false)) (sym empty) (more_passed old ended passing rest remaining h none o.1, refl)
passed_over old ended passing false rest left remaining h none over kept =
    let k = kept refl in
    subst (λ (l : List ℕ). Passed old (known_bytes ended l remaining) false × (has_line_feed l ≡ false)) (sym k.1)
    (subst (λ (p : Bool). Passed old (known_bytes ended rest remaining) p) k.0 h, none)

-- more came
pub refilled : (old : Option (List ℕ)) (passing : Bool) (rest new came : List ℕ) (before after : Option (List ℕ)) → Passed old (known_bytes false rest before) passing
    → new ≡ rest ++ came → Consumes before after came → Passed old (known_bytes false new after) passing
refilled old passing rest new came before after h e more = record {
  part = h.part;
  came = Consumes-kept old _ _ h.part h.came (grown before after more);
  within = h.within;
  long = h.long;
  none = h.none;
} where
  grown : (before after : Option (List ℕ)) → Consumes before after came → Keeps (known_bytes false rest before) (known_bytes false new after)
  grown None after c = tt
  grown (Some xs) None c = absurd c
  grown (Some xs) (Some ys) c = ap (λ (l : List ℕ). l ++ ys) e ∙ append_assoc rest came ys ∙ ap (λ (l : List ℕ). rest ++ l) (sym c)

-- the end came
pub finished : (old : Option (List ℕ)) (passing : Bool) (rest new came : List ℕ) (before after : Option (List ℕ)) → Passed old (known_bytes false rest before) passing
    → new ≡ rest ++ came → Consumes before after came → IsAtEnd after → Passed old (known_bytes true new after) passing
finished old passing rest new came before after h e more end = record {
  part = h.part;
  came = Consumes-kept old _ _ h.part h.came (whole before after more end);
  within = h.within;
  long = h.long;
  none = h.none;
} where
  whole : (before after : Option (List ℕ)) → Consumes before after came → IsAtEnd after → Keeps (known_bytes false rest before) (known_bytes true new after)
  whole None after c end = tt
  whole (Some xs) None c end = absurd c
  whole (Some xs) (Some ys) c end = e ∙ ap (λ (l : List ℕ). rest ++ l) (sym (c ∙ ap (λ (l : List ℕ). came ++ l) end ∙ append-nil came))

-- more came, or the end
pub after_refill : (old : Option (List ℕ)) (passing more : Bool) (rest new came : List ℕ) (before after : Option (List ℕ)) → Passed old (known_bytes false rest before) passing
    → new ≡ rest ++ came → Consumes before after came → (more ≡ false → IsAtEnd after) → Passed old (known_bytes (not more) new after) passing
after_refill old passing true rest new came before after h e c end = refilled old passing rest new came before after h e c
after_refill old passing false rest new came before after h e c end = finished old passing rest new came before after h e c (end refl)

-- ---- whether the last line has its line feed

closed_past : (front after : List ℕ) → is_closed (front ++ 10 ∷ after) ≡ is_closed after
closed_past [] [] = refl
closed_past [] (byte ∷ more) = refl
closed_past (byte ∷ []) after = closed_past [] after
closed_past (byte ∷ next ∷ more) after = closed_past (next ∷ more) after

alike_past : (old new : Option (List ℕ)) (front : List ℕ) → Consumes old new (front ++ 10 ∷ []) → ClosesAlike old new
alike_past None new front came = tt
alike_past (Some xs) None front came = absurd came
alike_past (Some xs) (Some ys) front came = ap is_closed (came ∙ append_assoc front (10 ∷ []) ys) ∙ closed_past front ys

-- a line feed ended the line that has begun
closes_alike : (old : Option (List ℕ)) (ended : Bool) (part piece front rest : List ℕ) (remaining : Option (List ℕ)) → Consumes old (known_bytes ended piece remaining) part
    → piece ≡ front ++ 10 ∷ rest → ClosesAlike old (known_bytes ended rest remaining)
closes_alike old ended part piece front rest remaining came e =
    let all = Consumes-trans old _ _ part (front ++ 10 ∷ []) came (known-taken ended piece (front ++ 10 ∷ []) rest remaining (e ∙ sym (append_assoc front (10 ∷ []) rest))) in
    alike_past old (known_bytes ended rest remaining) (part ++ front) (subst (Consumes old (known_bytes ended rest remaining)) (sym (append_assoc part front (10 ∷ []))) all)

-- ---- what is found

strip_one : (b : Bool) (xs : List ℕ) → length xs ≤ length (cond b (take (length xs - 1) xs) xs) + 1
strip_one true xs = omega (arith, length-take (length xs - 1) xs)
strip_one false xs = omega arith

-- at most one byte less
pub strip-less : (xs : List ℕ) → length xs ≤ length (strip_carriage_return xs) + 1
strip-less xs = strip_one (slice_index xs (length xs - 1) == 13) xs

-- a line feed ended the line
pub line_finds : (old : Option (List ℕ)) (ended passing : Bool) (rest front after line : List ℕ) (remaining : Option (List ℕ)) (found : Found) → Passed old (known_bytes ended rest remaining) passing
    → rest ≡ front ++ 10 ∷ after → has_line_feed front ≡ false → line ≡ strip_carriage_return front
    → (passing ≡ true → found ≡ TooLong) → (passing ≡ false → length line ≤ 512 → found ≡ Line) → (passing ≡ false → 512 < length line → found ≡ TooLong)
    → Finds old (known_bytes ended after remaining) line found
line_finds old ended true rest front after line remaining found h e none is long short longer =
    let size = h.long refl in
    let result : Finds old (known_bytes ended after remaining) line TooLong = (
      strip_carriage_return (h.part ++ front),
      line_ended old ended h.part rest front after remaining h.came h.within e none,
      omega (arith, strip-less (h.part ++ front), length-append h.part front, size),
      inr (closes_alike old ended h.part rest front after remaining h.came e),
    ) in
    subst (λ (f : Found). Finds old (known_bytes ended after remaining) line f) (sym (long refl)) result
line_finds old ended false rest front after line remaining found h e none is long short longer =
    let alone : h.part ++ front ≡ front = ap (λ (p : List ℕ). p ++ front) (h.none refl) in
    let gives : GivesLine old (known_bytes ended after remaining) line =
    subst (GivesLine old (known_bytes ended after remaining)) (ap strip_carriage_return alone ∙ sym is) (line_ended old ended h.part rest front after remaining h.came h.within e none) in
    let alike : ClosesAlike old (known_bytes ended after remaining) = closes_alike old ended h.part rest front after remaining h.came e in
    ⊎_elim
    (λ (more : 512 < length line).
    let result : Finds old (known_bytes ended after remaining) line TooLong = (line, gives, more, inr alike) in
    subst (λ (f : Found). Finds old (known_bytes ended after remaining) line f) (sym (longer refl more)) result)
    (λ (few : length line ≤ 512).
    let result : Finds old (known_bytes ended after remaining) line Line = (gives, few, alike) in
    subst (λ (f : Found). Finds old (known_bytes ended after remaining) line f) (sym (short refl few)) result)
    (cases_lt 512 (length line))

-- all that was to come at the reader's end
taken : (old : Option (List ℕ)) (passing : Bool) (rest : List ℕ) (remaining : Option (List ℕ)) (h : Passed old (Some rest) passing) → Consumes old (Some []) (h.part ++ rest)
taken old passing rest remaining h = Consumes-trans old (Some rest) (Some []) h.part rest h.came (sym (append-nil rest))

no_feed : (old : Option (List ℕ)) (rest : List ℕ) → Consumes old (Some []) rest → has_line_feed rest ≡ false → IfSome old (λ bytes. has_line_feed bytes ≡ false)
no_feed None rest came none = tt
no_feed (Some xs) rest came none = ap has_line_feed (came ∙ append-nil rest) ∙ none

-- the reader's end ended it
pub last_finds : (old : Option (List ℕ)) (passing : Bool) (rest line : List ℕ) (remaining : Option (List ℕ)) (found : Found) → Passed old (known_bytes true rest remaining) passing
    → has_line_feed rest ≡ false → line ≡ rest
    → (passing ≡ true → found ≡ TooLong) → (passing ≡ false → length rest ≡ 0 → found ≡ End) → (passing ≡ false → 0 < length rest → length rest ≤ 512 → found ≡ Last) → (passing ≡ false → 512 < length rest → found ≡ TooLong)
    → Finds old (known_bytes true [] remaining) line found
last_finds old true rest line remaining found h none is long end short longer =
    let size = h.long refl in
    let result : Finds old (Some []) line TooLong = (
      h.part ++ rest,
      last_given old (h.part ++ rest) (taken old true rest remaining h) (no_feed-append h.part rest h.within none) (omega (arith, length-append h.part rest, size)),
      omega (arith, length-append h.part rest, size),
      inl refl,
    ) in
    subst (λ (f : Found). Finds old (Some []) line f) (sym (long refl)) result
last_finds old false rest line remaining found h none is long end short longer =
    let came : Consumes old (Some []) rest = subst (λ (p : List ℕ). Consumes old (Some []) (p ++ rest)) (h.none refl) (taken old false rest remaining h) in
    ⊎_elim
    (λ (some : 0 < length rest).
    let gives : GivesLine old (Some []) line = subst (GivesLine old (Some [])) (sym is) (last_given old rest came none some) in
    ⊎_elim
    (λ (more : 512 < length rest).
    let result : Finds old (Some []) line TooLong = (line, gives, subst (λ (l : List ℕ). 512 < length l) (sym is) more, inl refl) in
    subst (λ (f : Found). Finds old (Some []) line f) (sym (longer refl more)) result)
    (λ (few : length rest ≤ 512).
    let result : Finds old (Some []) line Last = (gives, subst (λ (l : List ℕ). length l ≤ 512) (sym is) few, no_feed old rest came none) in
    subst (λ (f : Found). Finds old (Some []) line f) (sym (short refl some few)) result)
    (cases_lt 512 (length rest)))
    (λ (few : length rest ≤ 0).
    let empty : length rest ≡ 0 = omega arith in
    let nothing : rest ≡ [] = length_zero rest empty in
    let result : Finds old (Some []) line End = nothing_came old (subst (Consumes old (Some [])) nothing came) in
    subst (λ (f : Found). Finds old (Some []) line f) (sym (end refl empty)) result)
    (cases_lt 0 (length rest))

-- the reader failed
pub fails : (old : Option (List ℕ)) (passing : Bool) (rest : List ℕ) (before after : Option (List ℕ)) → Passed old (known_bytes false rest before) passing
    → has_line_feed rest ≡ false → Keeps before after → LosesPartOfLine old after
fails old passing rest before after h none kept = part_lost old false h.part rest before after h.came h.within none refl kept

-- ---- of whatever the reader may have

-- `was` and `is` say whether the reader had come to its end, `begun` and `rest` are what was held of it, `before` and
-- `after` what is known of its bytes
abbrev pub PassedAny : Bool → Bool → List ℕ → List ℕ → Option (List ℕ) → Option (List ℕ) → Bool → Type 0
PassedAny was is begun rest before after passing =
    Gave was is before after (λ had has. Passed (known_bytes was begun had) (known_bytes is rest has) passing)

module _ (was is : Bool) (begun rest : List ℕ) (before after : Option (List ℕ)) (passing : Bool) (h : PassedAny was is begun rest before after passing) where
  pub passed_over_any : (over : Bool) (left : List ℕ) → has_line_feed rest ≡ false → (over ≡ true → (length left ≡ 0) × (passing ≡ false → 513 < length rest))
      → (over ≡ false → (passing ≡ false) × (left ≡ rest)) → PassedAny was is begun left before after over
  passed_over_any over left none all kept =
      gave_so was is before after _ _ h (λ had has p. (passed_over (known_bytes was begun had) is passing over rest left has p none all kept).0)

  pub line_finds_any : (front left line : List ℕ) (found : Found) → rest ≡ front ++ 10 ∷ left → has_line_feed front ≡ false → line ≡ strip_carriage_return front
      → (passing ≡ true → found ≡ TooLong) → (passing ≡ false → length line ≤ 512 → found ≡ Line) → (passing ≡ false → 512 < length line → found ≡ TooLong)
      → Gave was is before after (λ had has. Finds (known_bytes was begun had) (known_bytes is left has) line found)
  line_finds_any front left line found e none same long short longer =
      gave_so was is before after _ _ h (λ had has p. line_finds (known_bytes was begun had) is passing rest front left line has found p e none same long short longer)

-- no line feed is left
pub over_feed : (passing over : Bool) (rest left : List ℕ) → has_line_feed rest ≡ false → (over ≡ true → (length left ≡ 0) × (passing ≡ false → 513 < length rest))
    → (over ≡ false → (passing ≡ false) × (left ≡ rest)) → has_line_feed left ≡ false
over_feed passing true rest left none all kept = ap has_line_feed (length_zero left (all refl).0)
over_feed passing false rest left none all kept = ap has_line_feed (kept refl).1 ∙ none

pub last_finds_any : (was is : Bool) (begun rest : List ℕ) (before after : Option (List ℕ)) (passing : Bool) → PassedAny was is begun rest before after passing
    → is ≡ true → (line left : List ℕ) (found : Found) → has_line_feed rest ≡ false → line ≡ rest → length left ≡ 0
    → (passing ≡ true → found ≡ TooLong) → (passing ≡ false → length rest ≡ 0 → found ≡ End) → (passing ≡ false → 0 < length rest → length rest ≤ 512 → found ≡ Last) → (passing ≡ false → 512 < length rest → found ≡ TooLong)
    → Gave was is before after (λ had has. Finds (known_bytes was begun had) (known_bytes is left has) line found)
last_finds_any was true begun rest before after passing h e line left found none same empty long end short longer =
    subst (λ (l : List ℕ). Gave was true before after (λ had has. Finds (known_bytes was begun had) (known_bytes true l has) line found)) (sym (length_zero left empty))
    (gave_so was true before after _ _ h (λ had has p. last_finds (known_bytes was begun had) passing rest line has found p none same long end short longer))
last_finds_any was false begun rest before after passing h e line left found none same empty long end short longer = cc

pub fails_any : (was is : Bool) (begun rest : List ℕ) (before between after : Option (List ℕ)) (passing : Bool) → PassedAny was is begun rest before between passing
    → is ≡ false → has_line_feed rest ≡ false → Keeps between after → Gave was is before after (λ had has. LosesPartOfLine (known_bytes was begun had) has)
fails_any was true begun rest before between after passing h e none kept = cc
fails_any was false begun rest before between after passing h e none kept =
    gave_then was false false before between after _ _ _ h (gave_kept false false between after refl kept)
    (λ had mid has p same. fails (known_bytes was begun had) passing rest mid has p none same)

consumes_any : (before after had has : Option (List ℕ)) (bytes : List ℕ) (ended : Bool) → Consumes before after bytes → MayHave before after bytes ended had has → Consumes had has bytes
consumes_any before after had has bytes ended taken (inl (e, f)) = subst (λ (l : Option (List ℕ)). Consumes l has bytes) (sym e) (subst (λ (l : Option (List ℕ)). Consumes before l bytes) (sym f) taken)
consumes_any before after had has bytes ended taken (inr (later, e, f, c)) = subst (λ (l : Option (List ℕ)). Consumes l has bytes) (sym e) (subst (λ (l : Option (List ℕ)). Consumes (Some (bytes ++ later)) l bytes) (sym f) refl)

at_end_any : (before after had has : Option (List ℕ)) (bytes : List ℕ) → IsAtEnd after → MayHave before after bytes true had has → IsAtEnd has
at_end_any before after had has bytes end (inl (e, f)) = subst IsAtEnd (sym f) end
at_end_any before after had has bytes end (inr (later, e, f, c)) = subst IsAtEnd (sym f) (c refl)

-- more came, or the end
gave_read : (came : List ℕ) (before after : Option (List ℕ)) (more : Bool) → Consumes before after came → (more ≡ false → IsAtEnd after)
    → Gave false (not more) before after (λ had has. Consumes had has came × (more ≡ false → IsAtEnd has))
gave_read came before after true taken end = record {
  bytes = came;
  taken = taken;
  none_past_end = λ (ended : false ≡ true). cc;
  holds = λ had has may. (consumes_any before after had has came false taken may, λ (e : true ≡ false). cc);
}
gave_read came before after false taken end = record {
  bytes = came;
  taken = taken;
  none_past_end = λ (ended : false ≡ true). cc;
  holds = λ had has may. (consumes_any before after had has came true taken may, λ _. at_end_any before after had has came (end refl) may);
}

pub refilled_any : (was is : Bool) (begun rest : List ℕ) (before between after : Option (List ℕ)) (passing : Bool) → PassedAny was is begun rest before between passing
    → is ≡ false → (more : Bool) (new came : List ℕ) → new ≡ rest ++ came → Consumes between after came → (more ≡ false → IsAtEnd after) → PassedAny was (not more) begun new before after passing
refilled_any was true begun rest before between after passing h e more new came grown taken end = cc
refilled_any was false begun rest before between after passing h e more new came grown taken end =
    gave_then was false (not more) before between after _ _ _ h (gave_read came between after more taken end)
    (λ had mid has p read. after_refill (known_bytes was begun had) passing more rest new came mid has p grown read.0 read.1)
