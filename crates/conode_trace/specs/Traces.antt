-- What a trace is: the inputs that its lines give, each at its time, before its first bad line.
use Rattle.std.specs.Prelude.{ℕ, zero, suc, ◌+◌, List, [], ◌∷◌, ◌++◌, Option, Some, None}
use Rattle.std.specs.Option.{option_map, option_map_or}
use Rattle.co_frame.specs.FrameContent.{FrameContent}
use Rattle.conode_trace.specs.declared.trace_line.TraceLine.{TraceLine}
use Rattle.conode_trace.specs.declared.trace_line.TraceLine.TheVariants.{Skipped, PassedOver, Data, Event}
use Rattle.conode_trace.specs.declared.event_line.EventLine.TheVariants.{Ticks, App}
use Rattle.co_frame.specs.declared.app_event.AppEvent.{AppEvent}
use Rattle.conode_trace.specs.declared.timed_line.TimedLine.{TimedLine}
use Rattle.co_text.specs.Texts.{◌>>=◌}
use Rattle.conode_trace.specs.FrameLines.{line_in}
use Rattle.conode_trace.specs.Clocks.{ClockState, clock_at_start, move_to, move_by}

-- an input of a device: a frame, a tick of 1 ms, or an event of the application
pub data Input : Type 0 where
  frame : FrameContent → Input
  tick : Input
  app : AppEvent (List ℕ) → Input

-- an input, the number of the line that gives it, and the clock at it in ms
pub record TimedInput : Type 0 where
  pub line : ℕ
  pub ms : ℕ
  pub input : Input

-- the inputs before the first bad line, and the number of that line, if there is one
pub record Trace : Type 0 where
  pub inputs : List TimedInput
  pub bad : Option ℕ

-- how many ticks a line gives, and the clock after it; none where its stamp is too far past the
-- clock
abbrev pub moved : ClockState → TraceLine → Option (ℕ × ClockState)
moved clock Skipped = Some (0, clock)
moved clock (PassedOver stamp) = move_to clock stamp
moved clock (Data stamp content) = move_to clock stamp
moved clock (Event (Ticks count)) = Some (move_by clock count)
moved clock (Event (App event)) = Some (0, clock)

-- what the line of this number gives from this clock, and the clock after it; none where it is bad
unfoldable pub timed : ℕ → ClockState → List ℕ → Option (TimedLine × ClockState)
timed number clock line =
    line_in line >>= λ said. option_map
    (λ m. (record { number = number; before = clock.ms; ticks = m.0; ms = m.1.ms; said = said }, m.1))
    (moved clock said)

-- the input that a line gives after its ticks, if it gives one
abbrev pub own_input : TraceLine → Option Input
own_input (Data stamp content) = Some (frame content)
own_input (Event (App event)) = Some (app event)
own_input other = None

-- so many ticks of a line, the first of them 1 ms after this time
unfoldable pub ticks_after : ℕ → ℕ → ℕ → List TimedInput
ticks_after line ms zero = []
ticks_after line ms (suc count) =
    record { line = line; ms = ms + 1; input = tick } ∷ ticks_after line (ms + 1) count

-- the inputs of a line: its ticks, and after them its own, if it has one
abbrev pub inputs_of : TimedLine → List TimedInput
inputs_of t =
    ticks_after t.number t.before t.ticks
    ++ option_map_or (λ input. record { line = t.number; ms = t.ms; input = input } ∷ []) (own_input t.said) []

-- a trace with these inputs before its own
abbrev pub preceded : List TimedInput → Trace → Trace
preceded inputs trace = record trace { inputs = inputs ++ trace.inputs }

-- the trace of lines, the first of this number, from this clock
unfoldable pub trace_from : ℕ → ClockState → List (List ℕ) → Trace
trace_from number clock [] = record { inputs = []; bad = None }
trace_from number clock (line ∷ lines) =
    option_map_or (λ t. preceded (inputs_of t.0) (trace_from (number + 1) t.1 lines))
    (timed number clock line) (record { inputs = []; bad = Some number })

-- the trace of all lines of a text
unfoldable pub trace_of : List (List ℕ) → Trace
trace_of lines = trace_from 1 clock_at_start lines

-- ---- a trace that is read line by line

-- the number of lines read, and the clock after them
pub record Progress : Type 0 where
  pub number : ℕ
  pub clock : ClockState

-- the trace of the lines that come next
unfoldable pub trace_next : Progress → List (List ℕ) → Trace
trace_next progress lines = trace_from (progress.number + 1) progress.clock lines
