-- What is printed about a client and a node.
use Rattle.std.specs.Prelude.{ℕ, ◌≤◌, List, [], ◌∷◌, ◌++◌, length, map, take, Option, codes, decimal}
use Rattle.co_text.specs.Printed.{digits_text}
use Rattle.co_frame.specs.FrameContent.{FrameContent}
use Rattle.co_sdo_client.specs.declared.state.ClientState.{ClientState}
use Rattle.co_sdo_client.specs.declared.state.ClientState.TheVariants.{Waiting, Done, Failed}
use Rattle.co_sdo_client.specs.Outcomes.{sent}
use Rattle.co_sdo_client.specs.Standing.{counted}
use Rattle.co_node_model.specs.Inputs.{Inputs}
use Rattle.conode_io.specs.Written.{WritesLines}
use Rattle.conode_trace.specs.Printed.{frame_line}
use Rattle.co_node_model.specs.Loop.{Loop, BothEnds, first_ends, frames_in, most_rounds, rounds, state_at}

-- frames as the lines of a trace, all at time 0
abbrev pub frame_lines : List FrameContent → List (List ℕ)
frame_lines frames = map (frame_line 0) frames

-- how many frames the client sent, at the end of a line
unfoldable pub requests_text : ℕ → List ℕ
requests_text count = decimal count ++ codes " requests" ++ 10 ∷ []

-- the last line: the state of the client, and how many frames it sent
unfoldable pub last_line : ClientState → ℕ → List ℕ
last_line Waiting count = codes "; gave up" ++ 10 ∷ []
last_line Done count = codes "; done, " ++ requests_text count
last_line (Failed code) count = codes "; failed " ++ digits_text 16 8 code.0 ++ codes ", " ++ requests_text count

-- the lines from this state on: each request with the node's frames after it, and the last line
abbrev pub lines_from : Loop → BothEnds → List (List ℕ)
lines_from l e =
    frame_lines (frames_in most_rounds l e)
    ++ last_line (state_at l (rounds most_rounds l e)) (counted (sent l.call (rounds most_rounds l e).events)) ∷ []

-- the lines of a whole download, from its beginning on
abbrev pub loop_lines : Loop → Inputs → List (List ℕ)
loop_lines l before = lines_from l (first_ends l before)

-- a writer's bytes have grown by some of these lines, from the first on, perhaps all
abbrev pub WritesFirst : Option (List ℕ) → Option (List ℕ) → List (List ℕ) → Type 0
WritesFirst old new lines = (number : ℕ) × (number ≤ length lines) × WritesLines old new (take number lines)
