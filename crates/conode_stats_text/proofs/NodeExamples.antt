-- The lines of nodes, evaluated.
use Rattle.std.proofs.Common.{ℕ, Option, [], ◌∷◌, ◌≡◌, Some, None, false, refl}
use Rattle.std.specs.Prelude.{codes}
use Rattle.std.specs.Fmt.{digits}
use Rattle.co_text.specs.Printed.{digits_text}
use Rattle.conode_stats_counts.specs.declared.guarding.ErrorControl.TheVariants.{Nothing}
use Rattle.conode_stats_counts.specs.declared.heartbeats.Heartbeats.{Heartbeats}
use Rattle.conode_stats_counts.specs.declared.node.Node.{Node}
use Rattle.conode_stats_counts.specs.declared.node.Shown.{Shown}
use Rattle.conode_stats_counts.specs.declared.state.NmtState.TheVariants.{Stopped}
use Rattle.conode_stats_counts.specs.declared.state.StateTimes.{StateTimes}
use Rattle.conode_stats_counts.specs.declared.tally.Tally.{Tally}
use Rattle.conode_stats_counts.specs.Buses.{BusCounts}
use Rattle.conode_stats_text.specs.declared.finding.Finding.TheVariants.{Restarted}
use Rattle.conode_stats_text.specs.declared.finding.Kind.TheVariants.{Restarts}
use Rattle.conode_stats_text.specs.Cells.{seconds, thousandths}
use Rattle.conode_stats_text.specs.Findings.{node_finding}
use Rattle.conode_stats_text.specs.NodeLines.{answer_of, millis_of, node_in, node_line, restart_line}
use Rattle.conode_stats_text.specs.StatsLines.{node_front}

abbrev pub no_heartbeats : Heartbeats
no_heartbeats = record { written = None; since = None; late = 0; longest_late = 0; longest = 0; first = [] }

-- five different times
abbrev pub times : StateTimes
times = record { boot_up = 1999; pre_operational = 2000000; operational = 30000000; stopped = 400; unknown = 5000 }

abbrev pub last : Shown
last = record { state = Stopped; micros = 40000000 }

-- heartbeats later than the time that the recording has, and others
abbrev pub heartbeats : Heartbeats
heartbeats = record { written = Some 100; since = Some 40000000; late = 2; longest_late = 151000; longest = 800000; first = 200000 ∷ 800000 ∷ 210000 ∷ [] }

abbrev pub node : ℕ → Node
node restarts = record {
  last = Some last;
  boot_ups = 3;
  restarts = restarts;
  last_restart = 1130000;
  is_commanded = false;
  times = times;
  heartbeats = heartbeats;
  guarding = record { control = Nothing; asked = None };
  pending = None;
  longest_answer = Some 1200;
}

-- one that only answers
abbrev pub server : Option ℕ → Node
server answer = record (node 0) { last = None; heartbeats = no_heartbeats; longest_answer = answer }

-- of a bus whose last frame has this stamp, and no stamp steps back
abbrev pub ended_at : ℕ → Tally
ended_at last = record {
  first = 1;
  last = last;
  frames = 90;
  steps_back = 0;
  step_from = 0;
  step_to = 0;
  gaps = 89;
  total = 44000000;
  smallest = 1;
  greatest = 9999999;
}

-- ---- what looks wrong

module _ (bus : BusCounts) where
  two_restarts : node_finding Restarts bus None 6 (node 2) ≡ Some (Restarted 2 1130000)
  two_restarts = refl

  no_restart : node_finding Restarts bus None 6 (node 0) ≡ None
  no_restart = refl

restarts : restart_line (codes "can0") 6 2 1130000 ≡ codes "  can0: node 6 restarts without a reset command: 2, the last at 1.130000\n"
unfolding restart_line node_front seconds digits_text digits
restarts = refl

-- ---- the table

row : node_in (codes "can0") 41000000 127 (node 2)
    ≡ codes "can0                  127            3           2        0.001              2.000         30.000        0.000        0.005              1.200  stopped\n"
unfolding node_line thousandths digits_text digits
row = refl

server_row : node_in (codes "can0") 41000000 7 (server (Some 250))
    ≡ codes "can0                    7            3           0        0.001              2.000         30.000        0.000        0.005              0.250  -\n"
unfolding node_line thousandths digits_text digits
server_row = refl

no_row : node_in (codes "can0") 41000000 127 (server None) ≡ []
no_row = refl

-- in a log without stamps no answer has a time
no_answer_time : answer_of 0 (Some 0) ≡ None
no_answer_time = refl

-- by the stamp of the bus's last frame, and not by that of the node's
with_stamps : millis_of 1 1999 ≡ Some 1
with_stamps = refl

without_stamps : millis_of 0 0 ≡ None
without_stamps = refl
