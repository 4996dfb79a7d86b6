-- The clock of a trace.
use Rattle.std.specs.Prelude.{ℕ, ◌+◌, ◌-◌, nat_lt, max, Bool, true, false, not, if◌then◌else◌, Option, Some, None}

-- the time in ms, and whether a frame line came
pub record ClockState : Type 0 where
  pub ms : ℕ
  pub started : Bool

-- the clock before the first line
abbrev pub clock_at_start : ClockState
clock_at_start = record { ms = 0; started = false }

-- the ticks of a frame line, and the clock after it. The first line sets the clock to its stamp,
-- also backwards, without a tick. A later line gives a tick for each ms up to its stamp, an older
-- one none. None where the stamp is more than a day past the clock
abbrev pub move_to : ClockState → ℕ → Option (ℕ × ClockState)
move_to clock stamp =
    if not clock.started then Some (0, record { ms = stamp; started = true })
    else (if nat_lt (clock.ms + 86400000) stamp then None
    else Some (stamp - clock.ms, record { ms = max clock.ms stamp; started = true }))

-- so many ticks, and the clock after them
abbrev pub move_by : ClockState → ℕ → ℕ × ClockState
move_by clock count = (count, record clock { ms = clock.ms + count })
