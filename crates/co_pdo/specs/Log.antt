-- The log of one TPDO, newest first.
use Rattle.std.specs.Prelude.{ℕ, Bool, List, [], ◌∷◌, Option, Some, None}
use Rattle.co_pdo.specs.declared.settings.Settings.{Settings}
use Rattle.co_pdo.specs.declared.tpdo.Occasion.{Occasion}
use Rattle.co_pdo.specs.declared.tpdo.Part.{Part}
use Rattle.co_pdo.specs.declared.tpdo.Part.TheVariants.{Whole, Timer}

-- an entry of the log, with the settings of the TPDO in the dictionary then
pub data LogEntry : Type 0 where
  -- the whole TPDO, or its event timer alone, was started
  Started : Part → Settings → LogEntry
  -- a SYNC, an event or a tick came, and whether the TPDO was sent then
  Happened : Occasion → Settings → Bool → LogEntry

-- the newest first
abbrev pub Log : Type 0
Log = List LogEntry

-- the settings at the last whole start
abbrev pub started_with : Log → Option Settings
started_with [] = None
started_with (Started Whole s ∷ log) = Some s
started_with (Started Timer s ∷ log) = started_with log
started_with (Happened occasion s sent ∷ log) = started_with log

-- the event timer in ms as it was at the last start, whole or of the timer; 0 before any
abbrev pub timer_of : Log → ℕ
timer_of [] = 0
timer_of (Started Whole s ∷ log) = s.event_timer
timer_of (Started Timer s ∷ log) = s.event_timer
timer_of (Happened occasion s sent ∷ log) = timer_of log
