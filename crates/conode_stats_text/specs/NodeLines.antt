-- The lines of the page about nodes.
use Rattle.std.specs.Prelude.{ℕ, ◌/◌, ◌==◌, Bool, ◌||◌, if◌then◌else◌, List, [], ◌∷◌, codes, decimal, Option, Some, None, is_some}
use Rattle.std.specs.List.{concat}
use Rattle.conode_stats_counts.specs.declared.node.Node.{Node}
use Rattle.conode_stats_counts.specs.declared.node.Shown.{Shown}
use Rattle.conode_stats_counts.specs.declared.state.NmtState.{NmtState}
use Rattle.conode_stats_counts.specs.declared.state.NmtState.TheVariants.{BootUp, PreOperational, Operational, Stopped, Unknown}
use Rattle.conode_stats_text.specs.Cells.{figure, left, name_text, or_none, seconds, thousandths}
use Rattle.conode_stats_text.specs.StatsLines.{node_front}

-- the words of a state
abbrev pub state_word : NmtState → List ℕ
state_word BootUp = codes "boot-up"
state_word PreOperational = codes "pre-operational"
state_word Operational = codes "operational"
state_word Stopped = codes "stopped"
state_word Unknown = codes "unknown"

-- ---- what looks wrong

unfoldable pub restart_line : List ℕ → ℕ → ℕ → ℕ → List ℕ
restart_line interface number count last =
    concat (node_front interface number ∷ codes " restarts without a reset command: " ∷ decimal count ∷ codes ", the last at "
    ∷ seconds last ∷ codes "\n" ∷ [])

-- ---- the table of nodes

-- a time in milliseconds, for seconds with three decimals; none in a log without stamps, where that
-- of the bus's last frame is 0
abbrev pub millis_of : ℕ → ℕ → Option ℕ
millis_of end micros = if end == 0 then None else Some (micros / 1000)

-- the cell of a time in a column of this width
abbrev pub time_cell : ℕ → ℕ → ℕ → List ℕ
time_cell end width micros = figure width (or_none thousandths (millis_of end micros))

-- the longest answer in milliseconds
abbrev pub answer_of : ℕ → Option ℕ → Option ℕ
answer_of end answer = if end == 0 then None else answer

-- the state at the end
abbrev pub shown_word : Option Shown → List ℕ
shown_word None = codes "-"
shown_word (Some last) = state_word last.state

-- the line of a node on an interface whose last frame has a stamp
unfoldable pub node_line : List ℕ → ℕ → ℕ → Node → List ℕ
node_line interface end number node =
    concat (left 15 (name_text interface) ∷ codes "  " ∷ figure 8 (decimal number) ∷ figure 13 (decimal node.boot_ups) ∷ figure 12 (decimal node.restarts)
    ∷ time_cell end 13 node.times.boot_up ∷ time_cell end 19 node.times.pre_operational ∷ time_cell end 15 node.times.operational
    ∷ time_cell end 13 node.times.stopped ∷ time_cell end 13 node.times.unknown
    ∷ figure 19 (or_none thousandths (answer_of end node.longest_answer)) ∷ codes "  " ∷ shown_word node.last ∷ codes "\n" ∷ [])

-- whether a node sent a frame of error control, or an answer
abbrev pub is_shown : Node → Bool
is_shown node = is_some node.last || is_some node.longest_answer

-- nothing of another one
abbrev pub node_in : List ℕ → ℕ → ℕ → Node → List ℕ
node_in interface end number node = if is_shown node then node_line interface end number node else []
