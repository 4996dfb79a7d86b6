-- Whether a device may still be stopped after a command that leads out of stopped: CiA 301 sets no time for
-- a transition (7.3.2.2), and a stopped device answers no request.
use Rattle.std.specs.Prelude.{ℕ, nat_le, Bool, true, false, ◌||◌, if◌then◌else◌}
use Rattle.conode_compare_nmt.specs.declared.finding.NmtState.{NmtState}
use Rattle.conode_compare_nmt.specs.declared.finding.NmtState.TheVariants.{Unknown, PreOperational, Operational, Stopped}
use Rattle.conode_compare_nmt.specs.declared.leaving.Leaving.{Leaving}
use Rattle.conode_compare_nmt.specs.declared.leaving.Leaving.TheVariants.{Nothing, Awaited, Shown}

-- as far as commands and heartbeats show
abbrev pub may_be_stopped : NmtState → Bool
may_be_stopped Stopped = true
may_be_stopped Unknown = true
may_be_stopped state = false

-- a command comes, in this state
abbrev pub leaving_after : NmtState → Leaving → Leaving
leaving_after state leaving = if may_be_stopped state then Awaited else leaving

-- a frame shows that the device isn't stopped
abbrev pub shown_by : ℕ → Leaving → Leaving
shown_by micros Awaited = Shown micros
shown_by micros leaving = leaving

abbrev pub leaving_shown : Bool → ℕ → Leaving → Leaving
leaving_shown shows micros leaving = if shows then shown_by micros leaving else leaving

-- a heartbeat shows such a state
abbrev pub is_running : NmtState → Bool
is_running PreOperational = true
is_running Operational = true
is_running state = false

-- the device may have been stopped when a request came after the command
abbrev pub was_stopped : Leaving → ℕ → Bool
was_stopped Nothing asked = false
was_stopped Awaited asked = true
was_stopped (Shown micros) asked = nat_le asked micros

-- the device may be stopped when a frame comes
abbrev pub may_be_stopped_at : NmtState → Leaving → ℕ → Bool
may_be_stopped_at state leaving micros = may_be_stopped state || was_stopped leaving micros
