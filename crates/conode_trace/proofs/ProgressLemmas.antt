-- A trace that is taken line by line.
use Rattle.std.proofs.Common.{◌≡◌, ℕ, ◌+◌, ◌<◌, true, List, [], ◌∷◌, length, Some, None, refl, arith}
use Rattle.std.specs.Prelude.{nat_lt}
use Rattle.std.proofs.lemmas.Bool.Decides.{nat_tests}
use Rattle.conode_trace.specs.declared.timed_line.TimedLine.{TimedLine}
use Rattle.conode_trace.specs.Clocks.{ClockState}
use Rattle.conode_trace.specs.FrameLines.{line_in}
use Rattle.conode_trace.specs.Traces.{timed, inputs_of, preceded, Progress, trace_next}
use Rattle.conode_trace.proofs.Reading.{good_line, bad_line}

pub next_is_good : (old new : Progress) (number : ℕ) (clock after : ClockState) (line : List ℕ) (more : List (List ℕ)) (t : TimedLine) → record { number = number; clock = clock } ≡ old → record { number = number + 1; clock = after } ≡ new → timed (number + 1) clock line ≡ Some (t, after) → trace_next old (line ∷ more) ≡ preceded (inputs_of t) (trace_next new more)
unfolding trace_next
next_is_good old new number clock after line more t e f h = rw (← e, ← f) (good_line (number + 1) clock line more t after h)

pub next_is_bad : (old : Progress) (number : ℕ) (clock : ClockState) (line : List ℕ) (more : List (List ℕ)) → record { number = number; clock = clock } ≡ old → timed (number + 1) clock line ≡ None → trace_next old (line ∷ more) ≡ record { inputs = []; bad = Some (number + 1) }
unfolding trace_next
next_is_bad old number clock line more e h = rw (← e) (bad_line (number + 1) clock line more h)

long_line : (number : ℕ) (clock : ClockState) (line : List ℕ) → 512 < length line → timed number clock line ≡ None
unfolding timed line_in
long_line number clock line long =
    let test : nat_lt 512 (length line) ≡ true = grind (arith, nat_tests) in
    rw test refl

pub next_is_long : (old : Progress) (number : ℕ) (clock : ClockState) (line : List ℕ) (more : List (List ℕ)) → record { number = number; clock = clock } ≡ old → 512 < length line → trace_next old (line ∷ more) ≡ record { inputs = []; bad = Some (number + 1) }
next_is_long old number clock line more e long = next_is_bad old number clock line more e (long_line (number + 1) clock line long)
