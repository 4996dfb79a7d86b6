-- Nodes that are silent at the end: by their heartbeats or guarding answers, and one that sends none by its PDOs. Times are in
-- microseconds.
use Rattle.std.specs.Prelude.{ℕ, ◌+◌, ◌-◌, ◌/◌, ◌^◌, ◌==◌, Bool, true, false, nat_le, not, min, fold, ◌&&◌, ◌||◌, if◌then◌else◌, List, Option, Some, None, is_some}
use Rattle.std.specs.Option.{option_or}
use Rattle.conode_stats_counts.specs.declared.guarding.ErrorControl.{ErrorControl}
use Rattle.conode_stats_counts.specs.declared.guarding.ErrorControl.TheVariants.{Requested, Answer}
use Rattle.conode_stats_counts.specs.declared.node.Node.{Node}
use Rattle.conode_stats_counts.specs.declared.node.Shown.{Shown}
use Rattle.conode_stats_counts.specs.declared.row.Row.{Row}
use Rattle.conode_stats_counts.specs.declared.state.NmtState.TheVariants.{BootUp}
use Rattle.conode_stats_counts.specs.declared.tally.Tally.{Tally}
use Rattle.conode_stats_counts.specs.Buses.{BusCounts}
use Rattle.conode_stats_counts.specs.States.{same_state}
use Rattle.conode_stats_counts.specs.Tallies.{elapsed}
use Rattle.conode_stats_text.specs.declared.pace.Pace.{Pace}
use Rattle.conode_stats_text.specs.declared.pace.Pace.TheVariants.{Pdos}
use Rattle.conode_stats_text.specs.declared.silence.Silence.{Silence}
use Rattle.conode_stats_text.specs.declared.silence.Source.{Source}
use Rattle.conode_stats_text.specs.declared.silence.Source.TheVariants.{Commands, Syncs, Sender}
use Rattle.conode_stats_text.specs.Paces.{is_long, pace_of}

-- ---- by heartbeats and guarding answers

-- Whether a node is guarded: its newest frame of error control is an answer by its toggle bit or the one before; or by
-- a request alone, and no sheet says that the node sends heartbeats.
abbrev pub is_guarded : Option ℕ → ErrorControl → Bool
is_guarded sheet (Answer toggle) = true
is_guarded sheet Requested = not (is_some sheet)
is_guarded sheet _ = false

-- Since when a frame of error control is awaited: since the newest one, or the download of 1017:00 after it. A
-- guarded node sends none but as an answer: since the first request that it didn't answer.
abbrev pub awaited_since : Option ℕ → Node → Option ℕ
awaited_since sheet node = if is_guarded sheet node.guarding.control then node.guarding.asked else node.heartbeats.since

-- since this stamp up to the end of the bus it is too long at this pace; a node of which no heartbeat is known
-- to be awaited isn't silent
abbrev pub beat_silence_by : Tally → Option Pace → Option ℕ → Option Silence
beat_silence_by all (Some pace) (Some since) =
    if is_long pace (elapsed all since) then Some (record { since = since; pace = pace }) else None
beat_silence_by all _ _ = None

abbrev pub beat_silence : Tally → Option ℕ → Node → Option Silence
beat_silence all sheet node = beat_silence_by all (pace_of sheet node.heartbeats) (awaited_since sheet node)

-- ---- who sends a frame, by the pre-defined connection set (CiA 301, 7.3.3)

-- the four TPDOs of a node
abbrev pub is_tpdo : ℕ → ℕ → Bool
is_tpdo node id = (id == 0x180 + node) || ((id == 0x280 + node) || ((id == 0x380 + node) || (id == 0x480 + node)))

-- its EMCY messages, SDO responses and frames of error control
abbrev pub is_service : ℕ → ℕ → Bool
is_service node id = (id == 0x80 + node) || ((id == 0x580 + node) || (id == 0x700 + node))

-- NMT commands, SYNC, and all that a node sends
abbrev pub is_from : Source → ℕ → Bool
is_from Commands id = id == 0
is_from Syncs id = id == 0x80
is_from (Sender node) id = is_tpdo node id || is_service node id

-- ---- the newest of frames

-- the one after which less time passed
abbrev pub later : Tally → Option ℕ → ℕ → Option ℕ
later all None stamp = Some stamp
later all (Some last) stamp = if nat_le (elapsed all last) (elapsed all stamp) then Some last else Some stamp

abbrev pub last_with : Tally → Source → Option ℕ → Row → Option ℕ
last_with all source last row = if is_from source row.can_id then later all last row.tally.last else last

-- the stamp of the last frame from there, if there is any
abbrev pub last_of : Tally → Source → List Row → Option ℕ
last_of all source rows = fold (last_with all source) None rows

-- ---- cyclic PDOs

-- whether frames came at a steady pace: there are 20 gaps, and the greatest is at most twice the mean. Of
-- frames that are sent when something happens that is hardly so
abbrev pub is_cyclic : Tally → Bool
is_cyclic tally = nat_le 20 tally.gaps && nat_le (tally.greatest / 2) (tally.total / tally.gaps)

-- whether they came up to a stamp: no more than such a gap before it
abbrev pub came_until : Tally → ℕ → Tally → Bool
came_until all stamp tally = nat_le (elapsed all tally.last - elapsed all stamp) tally.greatest

-- whether a row is of a node's TPDO that came at a steady pace up to a stamp
abbrev pub is_steady : Tally → ℕ → ℕ → Row → Bool
is_steady all node stamp row = is_tpdo node row.can_id && (is_cyclic row.tally && came_until all stamp row.tally)

abbrev pub gap_with : Tally → ℕ → ℕ → ℕ → Row → ℕ
gap_with all node stamp gap row = if is_steady all node stamp row then min gap row.tally.greatest else gap

-- the greatest gap of such a TPDO, of several the smallest one; 2^64 - 1 without any
abbrev pub steady_gap : Tally → ℕ → ℕ → List Row → ℕ
steady_gap all node stamp rows = fold (gap_with all node stamp) (2 ^ 64 - 1) rows

-- ---- by PDOs

-- the time from a stamp to the last SYNC, since PDOs may wait for one; of a bus without any to its end
abbrev pub wait_to : Tally → Option ℕ → ℕ → ℕ
wait_to all None stamp = elapsed all stamp
wait_to all (Some sync) stamp = elapsed all stamp - elapsed all sync

-- whether an NMT command, which may have stopped the node, came after a stamp, or at most such a gap before
abbrev pub is_stopped : Tally → Option ℕ → ℕ → ℕ → Bool
is_stopped all None gap stamp = false
is_stopped all (Some command) gap stamp = nat_le (elapsed all command - elapsed all stamp) gap

-- whether PDOs with this gap are missed after a stamp
abbrev pub are_missed : Tally → List Row → ℕ → ℕ → Bool
are_missed all rows gap stamp =
    is_long (Pdos gap) (wait_to all (last_of all Syncs rows) stamp) && not (is_stopped all (last_of all Commands rows) gap stamp)

abbrev pub missed_since : Tally → List Row → ℕ → ℕ → Option Silence
missed_since all rows gap stamp =
    if are_missed all rows gap stamp then Some (record { since = stamp; pace = Pdos gap }) else None

abbrev pub pdo_silence_after : Tally → List Row → ℕ → Option ℕ → Option Silence
pdo_silence_after all rows node None = None
pdo_silence_after all rows node (Some stamp) = missed_since all rows (steady_gap all node stamp rows) stamp

-- since the last frame of a node
unfoldable pub pdo_silence : Tally → List Row → ℕ → Option Silence
pdo_silence all rows node = pdo_silence_after all rows node (last_of all (Sender node) rows)

-- ---- the whole

-- whether a node sent no heartbeat: no frame of error control, or a boot-up message last
abbrev pub is_without_beats : Option Shown → Bool
is_without_beats None = true
is_without_beats (Some last) = same_state last.state BootUp

-- of a node that sent no heartbeat, by its PDOs
abbrev pub other_silence : Tally → List Row → ℕ → Option Shown → Option Silence
other_silence all rows node last = if is_without_beats last then pdo_silence all rows node else None

-- since when a node is silent at the end of its bus, if it is, and at which pace; by the time of a sheet
unfoldable pub silence_of : BusCounts → Option ℕ → ℕ → Node → Option Silence
silence_of bus sheet number node =
    option_or (beat_silence bus.all sheet node) (other_silence bus.all bus.rows number node.last)
