-- The trace of lines, by its first line.
use Rattle.std.proofs.Common.{◌≡◌, ℕ, ◌+◌, List, [], ◌∷◌, Some, None, refl}
use Rattle.conode_trace.specs.declared.timed_line.TimedLine.{TimedLine}
use Rattle.conode_trace.specs.Clocks.{ClockState}
use Rattle.conode_trace.specs.Traces.{timed, inputs_of, preceded, trace_from}

-- a line that is good, and the rest
pub good_line : (number : ℕ) (clock : ClockState) (line : List ℕ) (more : List (List ℕ)) (t : TimedLine) (after : ClockState) → timed number clock line ≡ Some (t, after) → trace_from number clock (line ∷ more) ≡ preceded (inputs_of t) (trace_from (number + 1) after more)
unfolding trace_from
good_line number clock line more t after e = rw e refl

pub bad_line : (number : ℕ) (clock : ClockState) (line : List ℕ) (more : List (List ℕ)) → timed number clock line ≡ None → trace_from number clock (line ∷ more) ≡ record { inputs = []; bad = Some number }
unfolding trace_from
bad_line number clock line more e = rw e refl

pub no_line : (number : ℕ) (clock : ClockState) → trace_from number clock [] ≡ record { inputs = []; bad = None }
unfolding trace_from
no_line number clock = refl
