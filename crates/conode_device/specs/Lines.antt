-- What is printed for the inputs that a device takes: the frames that it sends, refused events, and
-- the totals.
use Rattle.std.specs.Prelude.{ℕ, ◌+◌, List, [], ◌∷◌, ◌++◌, length, map, sum_by, codes, decimal}
use Rattle.std.specs.Option.{option_map_or}
use Rattle.co_text.specs.Printed.{digits_text}
use Rattle.conode_trace.specs.Printed.{frame_line}
use Rattle.conode_trace.specs.declared.timed_line.TimedLine.{TimedLine}
use Rattle.conode_trace.specs.Traces.{Input, frame, tick, app, TimedInput, own_input}
use Rattle.co_node_model.specs.Inputs.{Applied, Framed, InputView, Inputs, Ticked, event_view}
use Rattle.co_node_model.specs.declared.app_answer.AppAnswer.{AppAnswer}
use Rattle.co_node_model.specs.declared.app_answer.AppAnswer.TheVariants as answer
use Rattle.co_node_model.specs.Moments.{Constants}
use Rattle.co_node_model.specs.Heartbeats.{boot_up}
use Rattle.co_node_model.specs.Device.{after_all, all_frames, app_after, prescribed}
use Rattle.conode_device.specs.declared.totals.Totals.{Totals}

-- ---- inputs of a trace, as a device takes them

-- an input of a trace as one of the device
abbrev pub view_of : Input → InputView
view_of (frame content) = Framed content
view_of tick = Ticked
view_of (app event) = Applied (event_view event)

-- the own input of a line, if it has one
abbrev pub own_inputs : TimedLine → List TimedInput
own_inputs t = option_map_or (λ input. record { line = t.number; ms = t.ms; input = input } ∷ []) (own_input t.said) []

-- timed inputs as inputs of the device
abbrev pub views_of : List TimedInput → List InputView
views_of inputs = map (λ t. view_of t.input) inputs

-- all inputs of a device, the newest first, after those of a trace
abbrev pub after_inputs : Inputs → List TimedInput → Inputs
after_inputs before inputs = after_all before (views_of inputs)

-- ---- their lines

-- the line of a refused event: the number of its line in the trace, and the abort code in eight
-- digits
unfoldable pub refused_line : ℕ → ℕ → List ℕ
refused_line number code =
    codes "; line " ++ decimal number ++ codes " refused " ++ digits_text 16 8 code ++ 10 ∷ []

-- the line of an answer to an event, if that is a refusal
abbrev pub refused_lines : ℕ → AppAnswer → List (List ℕ)
refused_lines number answer.None = []
refused_lines number answer.Done = []
refused_lines number (answer.Refused code) = refused_line number code.0 ∷ []

-- the lines of an input, after the inputs before it: a refusal, and the prescribed frames, with the
-- input's clock
abbrev pub input_lines : Constants → Inputs → TimedInput → List (List ℕ)
input_lines k before t =
    refused_lines t.line (app_after k (view_of t.input ∷ before))
    ++ map (frame_line t.ms) (prescribed k before (view_of t.input))

-- the lines of inputs in their order, each after the inputs before it
abbrev pub replayed_lines : Constants → Inputs → List TimedInput → List (List ℕ)
replayed_lines k before [] = []
replayed_lines k before (t ∷ more) = input_lines k before t ++ replayed_lines k (view_of t.input ∷ before) more

-- the line of the boot-up, at clock 0
abbrev pub boot_line : Constants → List ℕ
boot_line k = frame_line 0 (boot_up k)

-- the boot-up, and the lines of inputs
abbrev pub started_lines : Constants → Inputs → List TimedInput → List (List ℕ)
started_lines k before inputs = boot_line k ∷ replayed_lines k before inputs

-- ---- totals

-- how many frames an input hands to the device, and how many ticks
abbrev pub handed_by : Input → ℕ
handed_by (frame content) = 1
handed_by tick = 0
handed_by (app event) = 0

abbrev pub ticks_by : Input → ℕ
ticks_by (frame content) = 0
ticks_by tick = 1
ticks_by (app event) = 0

-- the totals of inputs; the boot-up counts as a printed frame
abbrev pub totals_of : Constants → Inputs → List TimedInput → Totals
totals_of k before inputs = record {
  handed = sum_by (λ t. handed_by t.input) inputs;
  printed = 1 + length (all_frames k before (views_of inputs));
  ticks = sum_by (λ t. ticks_by t.input) inputs;
}

-- the line of the totals
unfoldable pub totals_line : Totals → List ℕ
totals_line totals =
    codes "; in " ++ decimal totals.handed ++ codes ", out " ++ decimal totals.printed
    ++ codes ", ticks " ++ decimal totals.ticks ++ 10 ∷ []
