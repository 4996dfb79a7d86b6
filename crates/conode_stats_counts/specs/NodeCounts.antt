-- All that is counted of a node.
use Rattle.std.specs.Prelude.{ℕ, ◌+◌, Bool, true, false, not, ◌&&◌, ◌||◌, if◌then◌else◌, List, Some, None, is_some}
use Rattle.conode_explain_transfers.specs.declared.kinds.Direction.{Direction}
use Rattle.conode_stats_counts.specs.declared.sdo_frame.SdoFrame.{SdoFrame}
use Rattle.conode_stats_counts.specs.declared.node.Node.{Node}
use Rattle.conode_stats_counts.specs.declared.state.NmtState.{NmtState}
use Rattle.conode_stats_counts.specs.declared.state.NmtState.TheVariants.{BootUp}
use Rattle.conode_stats_counts.specs.Gaps.{counted}
use Rattle.conode_stats_counts.specs.Heartbeats.{answer_time, beat_with, heartbeats_of, longer, longest_answer, pending, pending_by, timed_with}
use Rattle.conode_stats_counts.specs.Guardings.{answered_with, asked_with, guarding_of, timed_with as guarding_timed}
use Rattle.conode_stats_counts.specs.Restarts.{last_restart, restarts}
use Rattle.conode_stats_counts.specs.States.{NodeEvent, boot_ups, is_commanded, newest, same_state, times_of, times_since}

unfoldable pub node_of : List NodeEvent → Node
node_of log = record {
  last = newest log;
  boot_ups = counted (boot_ups log);
  restarts = counted (restarts log);
  last_restart = last_restart log;
  is_commanded = is_commanded log;
  times = times_of log;
  heartbeats = heartbeats_of log;
  guarding = guarding_of log;
  pending = pending log;
  longest_answer = longest_answer log;
}

-- ---- one event more, as it is counted

-- a boot-up
abbrev pub booted : ℕ → Node → Node
booted micros node =
    if (is_some node.last || is_some node.longest_answer) && not node.is_commanded
    then record node {
      boot_ups = counted (node.boot_ups + 1);
      restarts = counted (node.restarts + 1);
      last_restart = micros;
      is_commanded = false;
      pending = None;
    }
    else record node { boot_ups = counted (node.boot_ups + 1); is_commanded = false; pending = None }

abbrev pub booted_if : Bool → ℕ → Node → Node
booted_if true micros node = booted micros node
booted_if false micros node = node

-- a frame of error control
unfoldable pub node_with : NmtState → Bool → ℕ → Node → Node
node_with state toggle micros node = record (booted_if (same_state state BootUp) micros node) {
  last = Some (record { state = state; micros = micros });
  times = times_since node.last micros node.times;
  heartbeats = beat_with (same_state state BootUp) micros node.heartbeats;
  guarding = answered_with (same_state state BootUp) toggle node.guarding;
}

-- a command to reset it
unfoldable pub node_commanded : Node → Node
node_commanded node = record node { is_commanded = true }

-- an SDO frame on its default channel
unfoldable pub node_exchanged : SdoFrame → ℕ → Node → Node
node_exchanged frame micros node = record node {
  pending = pending_by frame micros;
  longest_answer = longer node.longest_answer (answer_time node.pending frame micros);
}

-- an SDO transfer that shows its producer heartbeat time
unfoldable pub node_timed : Direction → ℕ → ℕ → Node → Node
node_timed direction time micros node =
    record node { heartbeats = timed_with direction time micros node.heartbeats; guarding = guarding_timed time node.guarding }

-- a guarding request
unfoldable pub node_asked : ℕ → Node → Node
node_asked micros node = record node { guarding = asked_with micros node.guarding }
