-- The nodes of a bus in JSON. Times are in microseconds.
use Rattle.std.specs.Prelude.{ℕ, ◌==◌, ◌||◌, if◌then◌else◌, List, [], ◌∷◌, ◌++◌, codes, length, Option, Some, None, is_some}
use Rattle.json.specs.Token.{Token, begin_object, end_object}
use Rattle.conode_json.specs.Members.{object_begin, text_member}
use Rattle.conode_stats_counts.specs.declared.heartbeats.Heartbeats.{Heartbeats}
use Rattle.conode_stats_counts.specs.declared.node.Node.{Node}
use Rattle.conode_stats_counts.specs.declared.node.Shown.{Shown}
use Rattle.conode_stats_counts.specs.Buses.{BusCounts}
use Rattle.conode_stats_text.specs.declared.silence.Silence.{Silence}
use Rattle.conode_stats_text.specs.NodeLines.{is_shown, state_word}
use Rattle.conode_stats_text.specs.Paces.{lost_gap, median, usual_pace}
use Rattle.conode_stats_text.specs.Silences.{silence_of}
use Rattle.conode_stats.specs.StatsTokens.{joined, number_in, number_of}

-- the last restart, if there is one
abbrev pub restart_in : Node → Option ℕ
restart_in node = if node.restarts == 0 then None else Some node.last_restart

-- the state at the end, and the stamp that shows it, if there is one
abbrev pub state_member : Option Shown → List Token
state_member None = []
state_member (Some last) = text_member (codes "state") (state_word last.state)

abbrev pub last_in : Option Shown → Option ℕ
last_in None = None
last_in (Some last) = Some last.micros

-- a node's counts, its state at the end, and its times in the states
unfoldable pub node_front : ℕ → Node → List Token
node_front number node =
    joined ((begin_object ∷ []) ∷ number_of (codes "node") number ∷ number_of (codes "bootUps") node.boot_ups
    ∷ number_of (codes "restartsWithoutCommand") node.restarts ∷ number_in (codes "lastRestart") (restart_in node)
    ∷ state_member node.last ∷ number_in (codes "last") (last_in node.last)
    ∷ object_begin (codes "times") ∷ number_of (codes "bootUp") node.times.boot_up
    ∷ number_of (codes "preOperational") node.times.pre_operational ∷ number_of (codes "operational") node.times.operational
    ∷ number_of (codes "stopped") node.times.stopped ∷ number_of (codes "unknown") node.times.unknown ∷ (end_object ∷ []) ∷ [])

-- the longest wait for a heartbeat, if there was any
abbrev pub gap_in : Heartbeats → Option ℕ
gap_in heartbeats = if length heartbeats.first == 0 then None else Some heartbeats.longest

abbrev pub late_gap_in : Heartbeats → Option ℕ
late_gap_in heartbeats = if heartbeats.late == 0 then None else Some heartbeats.longest_late

-- its heartbeats: the time that a transfer shows, in ms, how many were later than 1.5 times that, and
-- the longest wait for one of these; the longest wait while no transfer shows it, and the median
unfoldable pub wait_members : Heartbeats → List Token
wait_members heartbeats =
    joined (number_in (codes "heartbeatTime") heartbeats.written ∷ number_of (codes "lateHeartbeats") heartbeats.late
    ∷ number_in (codes "longestLateGap") (late_gap_in heartbeats) ∷ number_in (codes "longestGap") (gap_in heartbeats)
    ∷ number_in (codes "medianGap") (median heartbeats.first) ∷ [])

-- the stamp since which a node is silent at the end, if it is
abbrev pub since_in : Option Silence → Option ℕ
since_in None = None
since_in (Some silence) = Some silence.since

-- what the page says of them by the time of a sheet; since when it is silent, its longest answer, and the
-- end
unfoldable pub node_end : Option ℕ → Heartbeats → Option Silence → Option ℕ → List Token
node_end sheet heartbeats silence answer =
    joined (number_in (codes "lostGap") (lost_gap (usual_pace sheet heartbeats) heartbeats.longest)
    ∷ number_in (codes "silentSince") (since_in silence)
    ∷ number_in (codes "longestAnswer") answer ∷ (end_object ∷ []) ∷ [])

-- a node
unfoldable pub node_tokens : Option ℕ → ℕ → Node → Option Silence → List Token
node_tokens sheet number node silence =
    node_front number node ++ wait_members node.heartbeats ++ node_end sheet node.heartbeats silence node.longest_answer

-- nothing of a node without a line, if it isn't silent
abbrev pub tokens_if : Option ℕ → ℕ → Node → Option Silence → List Token
tokens_if sheet number node silence =
    if is_shown node || is_some silence then node_tokens sheet number node silence else []

-- of a node of a bus
abbrev pub tokens_in : BusCounts → Option ℕ → ℕ → Node → List Token
tokens_in bus sheet number node = tokens_if sheet number node (silence_of bus sheet number node)
