-- The countdowns of a TPDO after its log.
use Rattle.std.specs.Prelude.{◌≡◌, ℕ, ◌-◌, ◌%◌, true, List, [], ◌∷◌, Option, Some, None}
use Rattle.co_frame.specs.InhibitTimes.{in_ms}
use Rattle.co_profile.specs.TransmissionTypes.{is_synchronous}
use Rattle.co_pdo.specs.declared.settings.Settings.{Settings}
use Rattle.co_pdo.specs.declared.tpdo.Tpdo.{Tpdo}
use Rattle.co_pdo.specs.Log.{Log, started_with, timer_of}
use Rattle.co_pdo.specs.Due.{syncs, has_begun, counted_syncs, event_since_sync, timer_ticks, event_waits, sendings}

-- what is left of a time that began at the last sending; 0 if there was none
abbrev pub left_of : ℕ → List ℕ → ℕ
left_of time [] = 0
left_of time (n ∷ older) = time - n

-- the transmission type at a start, 0 if there was none
abbrev pub type_of : Option Settings → ℕ
type_of None = 0
type_of (Some s) = s.transmission_type.0

-- the inhibit time at a start in ms, 0 if there was none
abbrev pub inhibit_of : Option Settings → ℕ
inhibit_of None = 0
inhibit_of (Some s) = in_ms s.inhibit_time

-- SYNCs count at transmission types 0 to 240; above, their count is of no use
abbrev pub CountsSyncs : Tpdo → Type 0
CountsSyncs t = is_synchronous t.transmission_type.0 ≡ true

-- the countdowns of a TPDO are those after this log
pub record IsAfter (t : Tpdo) (log : Log) : Type 0 where
  pub transmission_type : t.transmission_type.0 ≡ type_of (started_with log)
  pub inhibit : t.inhibit ≡ inhibit_of (started_with log)
  pub timer : t.timer ≡ timer_of log
  pub has_begun : CountsSyncs t → t.has_begun ≡ has_begun (syncs log)
  pub syncs_left : CountsSyncs t → t.syncs_left ≡ t.transmission_type.0 - counted_syncs (syncs log) % t.transmission_type.0
  pub event_since_sync : CountsSyncs t → t.event_since_sync ≡ event_since_sync log
  pub event_waits : t.event_waits ≡ event_waits log
  pub inhibit_left : t.inhibit_left ≡ left_of t.inhibit (sendings log)
  pub timer_left : t.timer_left ≡ t.timer - timer_ticks log

-- the same transmission type and inhibit time as at a start
abbrev pub IsAsAt : Option Settings → Settings → Type 0
IsAsAt None s = ⊥
IsAsAt (Some start) s = (start.transmission_type.0 ≡ s.transmission_type.0) × (start.inhibit_time ≡ s.inhibit_time)

-- a TPDO that is active has the transmission type and the inhibit time of its last whole start
abbrev pub IsAsStarted : Settings → Log → Type 0
IsAsStarted s log = s.is_active ≡ true → IsAsAt (started_with log) s

-- the last starts of this log had these settings: if the TPDO is active, its last whole start had
-- this transmission type and inhibit time; and the last start, whole or of the timer, had this
-- event timer
pub record IsCurrent (s : Settings) (log : Log) : Type 0 where
  pub started : IsAsStarted s log
  pub timer : s.event_timer ≡ timer_of log
