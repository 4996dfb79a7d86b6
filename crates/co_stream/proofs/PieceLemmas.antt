-- What is left of a piece.
use Rattle.std.proofs.Common.{◌≡◌, ℕ, ◌+◌, ◌-◌, List, ◌∷◌, ◌++◌, length, drop, refl, sym, ap, ◌∙◌, arith, length-append}
use Rattle.std.proofs.Common.{Result, Ok, Err, IfErr}
use Rattle.std.proofs.Common.{◌<◌, ◌≤◌, ◌==◌, Bool, true, false, get_or, ◌⊎◌, ⊎_elim}
use Rattle.std.proofs.lemmas.Bool.{cases_lt}
use Rattle.std.proofs.lemmas.List.{drop-drop, length-drop, drop_at, get_or-drop, get_or_default}
use Rattle.std.proofs.lemmas.List.Folds.{list_any_none, list_any_at}
use Rattle.std.proofs.lemmas.Bool.Decides.{nat_tests}
use Rattle.memchr.specs.Find.{NoneAfter, Nowhere, Passes, is_byte}
use Rattle.co_stream.specs.Lines.{has_line_feed, EndsAt}

-- the bytes after the line feed are the last ones
pub past_feed : (whole front after : List ℕ) (start size : ℕ) → drop start whole ≡ front ++ 10 ∷ after → length whole ≡ size → drop (size - length after) whole ≡ after
past_feed whole front after start size e full =
    let counted : size - start ≡ length front + length (10 ∷ after) = ap (λ n. n - start) (sym full) ∙ sym (length-drop start whole) ∙ ap length e ∙ length-append front (10 ∷ after) in
    ap (λ n. drop n whole) {y = start + (length front + 1)} (omega arith)
    ∙ sym (drop-drop (length front + 1) start whole)
    ∙ ap (drop (length front + 1)) e
    ∙ sym (drop-drop 1 (length front) (front ++ 10 ∷ after))
    ∙ ap (drop 1) (drop_at front (10 ∷ after) (length front) refl)

-- what doesn't depend on the error
pub always_err : {T E : Type 0} (r : Result T E) (P : E → Type 0) → ((e : E) → P e) → IfErr r P
always_err (Ok x) P h = tt
always_err (Err e) P h = h e

not_true : (b : Bool) → ¬ (b ≡ true) → b ≡ false
not_true true h = absurd (h refl)
not_true false h = refl

-- no line feed is left from a place on
none_from : (bytes : List ℕ) (start low : ℕ) → low ≤ start → Nowhere (Passes (is_byte 10) bytes) low (length bytes) → has_line_feed (drop start bytes) ≡ false
none_from bytes start low le h = list_any_none (λ byte. byte == 10) (drop start bytes)
    (λ i d less.
    let within : start + i < length bytes = omega (arith, length-drop start bytes) in
    let same : get_or (drop start bytes) i d ≡ get_or bytes (start + i) 0 = get_or-drop start bytes i d ∙ get_or_default bytes (start + i) d 0 within in
    ap (λ byte. byte == 10) same ∙ not_true (get_or bytes (start + i) 0 == 10) (h (start + i) (omega arith) within))

pub ends_nowhere : (bytes : List ℕ) → Nowhere (Passes (is_byte 10) bytes) 0 (length bytes) → EndsAt 0 bytes
ends_nowhere bytes h start = let none = none_from bytes start 0 (omega arith) h in grind (arith, nat_tests, none)

pub ends_past : (bytes : List ℕ) (place : ℕ) → NoneAfter (Passes (is_byte 10) bytes) 0 (length bytes) place → Passes (is_byte 10) bytes place → EndsAt (place + 1) bytes
ends_past bytes place h feed start =
    let cases : (place < start) ⊎ (start ≤ place) = cases_lt place start in
    ⊎_elim
    (λ past. let none = none_from bytes start (place + 1) (omega arith) h.after in grind (arith, nat_tests, none))
    (λ upto.
    let within : place - start < length (drop start bytes) = omega (arith, length-drop start bytes, h.high) in
    let sum : start + (place - start) ≡ place = omega arith in
    let same : get_or (drop start bytes) (place - start) 0 ≡ get_or bytes place 0 = get_or-drop start bytes (place - start) 0 ∙ ap (λ k. get_or bytes k 0) sum in
    let some = list_any_at (λ byte. byte == 10) (drop start bytes) (place - start) 0 within (ap (λ byte. byte == 10) same ∙ feed) in
    grind (arith, nat_tests, some))
    cases
