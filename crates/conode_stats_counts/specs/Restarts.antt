-- Restarts of a node without a command (CiA 301, 7.2.8.2.2.2, 7.2.8.3.3).
use Rattle.std.specs.Prelude.{ℕ, ◌+◌, Bool, not, ◌&&◌, ◌||◌, if◌then◌else◌, List, [], ◌∷◌, is_some}
use Rattle.conode_stats_counts.specs.declared.state.NmtState.{NmtState}
use Rattle.conode_stats_counts.specs.declared.state.NmtState.TheVariants.{BootUp}
use Rattle.conode_stats_counts.specs.Heartbeats.{longest_answer}
use Rattle.conode_stats_counts.specs.States.{NodeEvent, Commanded, Sent, Exchanged, Timed, Asked, is_commanded, newest, same_state}

-- whether the node was there before: it sent a frame of error control, or answered an SDO request
abbrev pub is_known : List NodeEvent → Bool
is_known log = is_some (newest log) || is_some (longest_answer log)

-- whether a frame that shows this state is a restart without a command: a boot-up of a node that was
-- there before, and for which no command came since the boot-up before
abbrev pub is_restart : NmtState → List NodeEvent → Bool
is_restart state older = same_state state BootUp && (is_known older && not (is_commanded older))

unfoldable pub restarts : List NodeEvent → ℕ
restarts [] = 0
restarts (Commanded ∷ older) = restarts older
restarts (Exchanged frame micros ∷ older) = restarts older
restarts (Timed direction time micros ∷ older) = restarts older
restarts (Asked micros ∷ older) = restarts older
restarts (Sent state toggle micros ∷ older) = (if is_restart state older then 1 else 0) + restarts older

-- the stamp of the last of them, 0 where there is none
unfoldable pub last_restart : List NodeEvent → ℕ
last_restart [] = 0
last_restart (Commanded ∷ older) = last_restart older
last_restart (Exchanged frame micros ∷ older) = last_restart older
last_restart (Timed direction time micros ∷ older) = last_restart older
last_restart (Asked micros ∷ older) = last_restart older
last_restart (Sent state toggle micros ∷ older) = if is_restart state older then micros else last_restart older
