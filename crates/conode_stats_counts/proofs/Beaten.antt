-- One event more of a node's heartbeats, as it is counted, is one event more by definition.
use Rattle.std.proofs.Common.{ℕ, zero, suc, ◌+◌, ◌<◌, ◌≤◌, Bool, true, false, List, [], ◌∷◌, ◌++◌, ◌≡◌, ◌∙◌, Option, Some, None, length, take, reverse, set, refl, sym, ap, arith}
use Rattle.std.specs.Prelude.{nat_lt, if◌then◌else◌}
use Rattle.std.proofs.lemmas.Bool.Decides.{nat_tests}
use Rattle.std.proofs.lemmas.List.{length-take-le, reverse-append}
use Rattle.co_text.proofs.Tests.{by_test}
use Rattle.conode_explain_transfers.specs.declared.kinds.Direction.{Direction}
use Rattle.conode_stats_counts.specs.declared.heartbeats.Heartbeats.{Heartbeats}
use Rattle.conode_stats_counts.specs.declared.sdo_frame.SdoFrame.{SdoFrame}
use Rattle.conode_stats_counts.specs.declared.state.NmtState.{NmtState}
use Rattle.conode_stats_counts.specs.declared.state.NmtState.TheVariants.{BootUp}
use Rattle.conode_stats_counts.specs.Gaps.{counted, greatest}
use Rattle.conode_stats_counts.specs.Heartbeats.{beat_with, first_gaps, first_with, heartbeats_of, is_late, late_gaps, late_with, other_gaps, other_with, since, timed_with, wait, wait_with, written_time}
use Rattle.conode_stats_counts.specs.States.{NodeEvent, Commanded, Sent, Exchanged, Timed, Asked, same_state}
use Rattle.conode_stats_counts.proofs.Tallied.{counted_next}

pub none : heartbeats_of [] ≡ record { written = None; since = None; late = 0; longest_late = 0; longest = 0; first = [] }
unfolding heartbeats_of written_time since late_gaps other_gaps greatest
none = refl

-- ---- the first gaps

abbrev added : ℕ → List ℕ → ℕ → List ℕ
added most gaps gap = if nat_lt (length gaps) most then gaps ++ gap ∷ [] else gaps

taken_more : (xs : List ℕ) (gap n : ℕ) → added n (take n xs) gap ≡ take n (xs ++ gap ∷ [])
taken_more [] gap zero = refl
taken_more [] gap (suc zero) = refl
taken_more [] gap (suc (suc n)) = let some : nat_lt 0 (suc (suc n)) ≡ true = grind (arith, nat_tests) in rw some refl
taken_more (x ∷ xs) gap zero = refl
taken_more (x ∷ xs) gap (suc n) =
    let rest = taken_more xs gap n in
    by_test (nat_lt (length (take n xs)) n)
    (λ few. let more : nat_lt (suc (length (take n xs))) (suc n) ≡ true = grind (arith, nat_tests) in
    let it : take n xs ++ gap ∷ [] ≡ take n (xs ++ gap ∷ []) = rw few at rest in
    rw more (ap (λ (ys : List ℕ). x ∷ ys) it))
    (λ full. let no : nat_lt (suc (length (take n xs))) (suc n) ≡ false = grind (arith, nat_tests) in
    let it : take n xs ≡ take n (xs ++ gap ∷ []) = rw full at rest in
    rw no (ap (λ (ys : List ℕ). x ∷ ys) it))

first_more : (gaps : List ℕ) (gap : ℕ) → first_with gap (first_gaps gaps) ≡ first_gaps (gap ∷ gaps)
first_more gaps gap = taken_more (reverse gaps) gap 32 ∙ ap (λ (xs : List ℕ). take 32 xs) (sym (reverse-append (gap ∷ []) gaps))

-- ---- all of it

abbrev kept : Option ℕ → Option ℕ → List ℕ → List ℕ → Heartbeats
kept written since late other = record {
  written = written;
  since = since;
  late = counted (length late);
  longest_late = greatest late;
  longest = greatest other;
  first = first_gaps other;
}

same : (w s : Option ℕ) (n n' l l' m m' : ℕ) (f f' : List ℕ) → n ≡ n' → l ≡ l' → m ≡ m' → f ≡ f'
    → ◌≡◌ {A = Heartbeats}
    (record { written = w; since = s; late = n; longest_late = l; longest = m; first = f })
    (record { written = w; since = s; late = n'; longest_late = l'; longest = m'; first = f' })
same w s n n' l l' m m' f f' d e g h = cc

module _ (before : Option ℕ) (micros : ℕ) (late other : List ℕ) where
  waits : (w gap : Option ℕ) → (record (wait_with gap (kept w before late other)) { since = Some micros })
      ≡ kept w (Some micros) (late_with w gap late) (other_with w gap other)
  unfolding greatest
  waits None None = refl
  waits (Some time) None = refl
  waits None (Some gap) = same _ _ _ _ _ _ _ _ _ _ refl refl refl (first_more other gap)
  waits (Some time) (Some gap) = by_test (is_late time gap)
      (λ holds. rw holds (same _ _ _ _ _ _ _ _ _ _ (counted_next (length late)) refl refl refl))
      (λ fails. rw fails refl)

  beats : (boots : Bool) (w : Option ℕ) → beat_with boots micros (kept w before late other)
      ≡ kept (if boots then None else w) (Some micros) (if boots then late else late_with w (wait before micros) late) (if boots then other else other_with w (wait before micros) other)
  beats true w = refl
  beats false w = waits w (wait before micros)

pub shown_more : (log : List NodeEvent) (state : NmtState) (toggle : Bool) (micros : ℕ)
    → beat_with (same_state state BootUp) micros (heartbeats_of log) ≡ heartbeats_of (Sent state toggle micros ∷ log)
unfolding heartbeats_of written_time since late_gaps other_gaps
shown_more log state toggle micros = beats (since log) micros (late_gaps log) (other_gaps log) (same_state state BootUp) (written_time log)

pub exchanged_more : (log : List NodeEvent) (frame : SdoFrame) (micros : ℕ) → heartbeats_of log ≡ heartbeats_of (Exchanged frame micros ∷ log)
unfolding heartbeats_of written_time since late_gaps other_gaps
exchanged_more log frame micros = refl

pub timed_more : (log : List NodeEvent) (direction : Direction) (time micros : ℕ)
    → timed_with direction time micros (heartbeats_of log) ≡ heartbeats_of (Timed direction time micros ∷ log)
unfolding heartbeats_of written_time since late_gaps other_gaps
timed_more log direction time micros = refl

pub commanded_more : (log : List NodeEvent) → heartbeats_of log ≡ heartbeats_of (Commanded ∷ log)
unfolding heartbeats_of written_time since late_gaps other_gaps
commanded_more log = refl

pub asked_more : (log : List NodeEvent) (micros : ℕ) → heartbeats_of log ≡ heartbeats_of (Asked micros ∷ log)
unfolding heartbeats_of written_time since late_gaps other_gaps
asked_more log micros = refl

-- ---- the array that holds the first gaps

set_taken : (xs : List ℕ) (n gap : ℕ) → n < length xs → take (suc n) (set xs n gap) ≡ take n xs ++ gap ∷ []
set_taken [] n gap lt = absurd (omega (arith, lt))
set_taken (x ∷ xs) zero gap lt = refl
set_taken (x ∷ xs) (suc n) gap lt = ap (λ (ys : List ℕ). x ∷ ys) (set_taken xs n gap (omega (arith, lt)))

pub one_added : (gaps : List ℕ) (count gap : ℕ) → length gaps ≡ 32 → count < 32
    → take (count + 1) (set gaps count gap) ≡ first_with gap (take count gaps)
one_added gaps count gap all lt =
    let few : length (take count gaps) ≡ count = length-take-le count gaps (omega (arith, all, lt)) in
    let test : nat_lt count 32 ≡ true = grind (arith, nat_tests) in
    let next : count + 1 ≡ suc count = omega arith in
    rw (few, test, next) (set_taken gaps count gap (omega (arith, all, lt)))

pub none_added : (gaps : List ℕ) (count gap : ℕ) → length gaps ≡ 32 → 32 ≤ count → count ≤ 32
    → take count gaps ≡ first_with gap (take count gaps)
none_added gaps count gap all ge le =
    let few : length (take count gaps) ≡ count = length-take-le count gaps (omega (arith, all, le)) in
    let test : nat_lt count 32 ≡ false = grind (arith, nat_tests) in
    rw (few, test) refl
