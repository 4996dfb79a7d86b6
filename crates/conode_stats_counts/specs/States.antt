-- What happens to a node, the newest first, and what it shows of its NMT state by its frames of error
-- control (CiA 301, 7.2.8.3.2).
use Rattle.std.specs.Prelude.{ℕ, ◌+◌, ◌-◌, ◌%◌, ◌==◌, nat_lt, Bool, true, false, if◌then◌else◌, List, [], ◌∷◌, Option, Some, None}
use Rattle.conode_explain_transfers.specs.declared.kinds.Direction.{Direction}
use Rattle.conode_stats_counts.specs.declared.sdo_frame.SdoFrame.{SdoFrame}
use Rattle.conode_stats_counts.specs.declared.node.Shown.{Shown}
use Rattle.conode_stats_counts.specs.declared.state.NmtState.{NmtState}
use Rattle.conode_stats_counts.specs.declared.state.NmtState.TheVariants.{BootUp, PreOperational, Operational, Stopped, Unknown}
use Rattle.conode_stats_counts.specs.declared.state.StateTimes.{StateTimes}
use Rattle.conode_stats_counts.specs.Gaps.{counted}

-- ---- states

-- by its number; bit 7 of the byte is the toggle bit of node guarding
abbrev pub numbered : ℕ → NmtState
numbered number =
    if number == 4 then Stopped else (if number == 5 then Operational else (if number == 127 then PreOperational else Unknown))

-- the state that a byte shows; 0 is the boot-up message
abbrev pub state_of : ℕ → NmtState
state_of byte = if byte == 0 then BootUp else numbered (byte % 128)

-- bit 7: it toggles from answer to answer of node guarding, and is 0 in heartbeats and boot-up messages
abbrev pub toggle_of : ℕ → Bool
toggle_of byte = nat_lt 127 byte

abbrev pub same_state : NmtState → NmtState → Bool
same_state BootUp BootUp = true
same_state PreOperational PreOperational = true
same_state Operational Operational = true
same_state Stopped Stopped = true
same_state Unknown Unknown = true
same_state _ _ = false

-- ---- what happens to a node

pub data NodeEvent : Type 0 where
  -- a command to reset the node, or all nodes, or their communication
  Commanded : NodeEvent
  -- a frame of error control that shows a state, with its toggle bit and its stamp
  Sent : NmtState → Bool → ℕ → NodeEvent
  -- an SDO frame on its default channel, with its stamp
  Exchanged : SdoFrame → ℕ → NodeEvent
  -- an SDO transfer that is done wrote or read its producer heartbeat time, in ms; with its stamp
  Timed : Direction → ℕ → ℕ → NodeEvent
  -- a guarding request for it, with its stamp
  Asked : ℕ → NodeEvent

-- its newest frame
unfoldable pub newest : List NodeEvent → Option Shown
newest [] = None
newest (Commanded ∷ older) = newest older
newest (Exchanged frame micros ∷ older) = newest older
newest (Timed direction time micros ∷ older) = newest older
newest (Asked micros ∷ older) = newest older
newest (Sent state toggle micros ∷ older) = Some (record { state = state; micros = micros })

-- ---- times

abbrev pub gap_if : Bool → ℕ → ℕ
gap_if true gap = gap
gap_if false gap = 0

-- the time since a frame, if it shows this state; none where the stamp steps back
abbrev pub time_since : NmtState → Option Shown → ℕ → ℕ
time_since state None micros = 0
time_since state (Some before) micros = gap_if (same_state before.state state) (micros - before.micros)

-- the time in a state: after each frame that shows it, up to the next one
unfoldable pub time_in : NmtState → List NodeEvent → ℕ
time_in state [] = 0
time_in state (Commanded ∷ older) = time_in state older
time_in state (Exchanged frame micros ∷ older) = time_in state older
time_in state (Timed direction time micros ∷ older) = time_in state older
time_in state (Asked micros ∷ older) = time_in state older
time_in state (Sent other toggle micros ∷ older) = time_since state (newest older) micros + time_in state older

abbrev pub times_of : List NodeEvent → StateTimes
times_of log = record {
  boot_up = counted (time_in BootUp log);
  pre_operational = counted (time_in PreOperational log);
  operational = counted (time_in Operational log);
  stopped = counted (time_in Stopped log);
  unknown = counted (time_in Unknown log);
}

-- ---- boot-ups

unfoldable pub boot_ups : List NodeEvent → ℕ
boot_ups [] = 0
boot_ups (Commanded ∷ older) = boot_ups older
boot_ups (Exchanged frame micros ∷ older) = boot_ups older
boot_ups (Timed direction time micros ∷ older) = boot_ups older
boot_ups (Asked micros ∷ older) = boot_ups older
boot_ups (Sent state toggle micros ∷ older) = (if same_state state BootUp then 1 else 0) + boot_ups older

-- whether a command to reset came since the last boot-up
unfoldable pub is_commanded : List NodeEvent → Bool
is_commanded [] = false
is_commanded (Commanded ∷ older) = true
is_commanded (Exchanged frame micros ∷ older) = is_commanded older
is_commanded (Timed direction time micros ∷ older) = is_commanded older
is_commanded (Asked micros ∷ older) = is_commanded older
is_commanded (Sent state toggle micros ∷ older) = if same_state state BootUp then false else is_commanded older

-- ---- one event more, as it is counted

abbrev pub times_with : NmtState → ℕ → StateTimes → StateTimes
times_with BootUp gap times = record times { boot_up = counted (times.boot_up + gap) }
times_with PreOperational gap times = record times { pre_operational = counted (times.pre_operational + gap) }
times_with Operational gap times = record times { operational = counted (times.operational + gap) }
times_with Stopped gap times = record times { stopped = counted (times.stopped + gap) }
times_with Unknown gap times = record times { unknown = counted (times.unknown + gap) }

abbrev pub times_since : Option Shown → ℕ → StateTimes → StateTimes
times_since None micros times = times
times_since (Some before) micros times = times_with before.state (micros - before.micros) times
