-- When a TPDO is due, by distances in its log (CiA 301, 7.2.2.2 to 7.2.2.4 and 7.5.2.37). A tick is
-- 1 ms.
use Rattle.std.specs.Prelude.{◌≡◌, ℕ, zero, suc, ◌+◌, ◌%◌, ◌==◌, ◌&&◌, ◌||◌, Bool, true, false, not, nat_lt, Option, List, [], ◌∷◌, length, map, if◌then◌else◌}
use Rattle.std.specs.List.{list_all, list_any}
use Rattle.std.specs.Option.{option_map_or}
use Rattle.co_profile.specs.TransmissionTypes.{is_synchronous, is_event_driven}
use Rattle.co_frame.specs.InhibitTimes.{has_elapsed}
use Rattle.co_pdo.specs.declared.settings.Settings.{Settings}
use Rattle.co_pdo.specs.declared.tpdo.Occasion.{Occasion}
use Rattle.co_pdo.specs.declared.tpdo.Occasion.TheVariants.{Sync, Event, Tick}
use Rattle.co_pdo.specs.declared.tpdo.Part.TheVariants.{Whole, Timer}
use Rattle.co_pdo.specs.Log.{Log, LogEntry, Started, Happened}

-- a TPDO with this SYNC start value waits for no counter: 0 is none, and no counter is above 240
abbrev pub waits_for_none : ℕ → Bool
waits_for_none start_value = start_value == 0 || nat_lt 240 start_value

-- a SYNC begins a count that has not begun: the TPDO waits for no counter, no counter is used (its
-- overflow value is 0), or the counter of the SYNC is the start value
abbrev pub begins_count : ℕ → ℕ → Option ℕ → Bool
begins_count start_value overflow counter =
    waits_for_none start_value || (overflow == 0 || option_map_or (λ n. n == start_value) counter false)

-- the SYNCs since the last whole start, newest first: for each, whether it would begin a count that
-- has not begun
abbrev pub syncs : Log → List Bool
syncs [] = []
syncs (Started Whole s ∷ log) = []
syncs (Started Timer s ∷ log) = syncs log
syncs (Happened (Sync overflow counter) s sent ∷ log) = begins_count s.start_value overflow counter ∷ syncs log
syncs (Happened Event s sent ∷ log) = syncs log
syncs (Happened Tick s sent ∷ log) = syncs log

-- one of some SYNCs begins the count
abbrev pub has_begun : List Bool → Bool
has_begun begins = list_any (λ b. b) begins

-- of these SYNCs, newest first, the one that begins the count and all after it; none if none begins
-- it
abbrev pub since_beginning : List Bool → List Bool
since_beginning [] = []
since_beginning (b ∷ older) = if has_begun (b ∷ older) then b ∷ since_beginning older else []

-- how many SYNCs came from the one that begins the count on, that one included
abbrev pub counted_syncs : List Bool → ℕ
counted_syncs begins = length (since_beginning begins)

-- an event came since the last whole start and since the last SYNC
abbrev pub event_since_sync : Log → Bool
event_since_sync [] = false
event_since_sync (Started Whole s ∷ log) = false
event_since_sync (Started Timer s ∷ log) = event_since_sync log
event_since_sync (Happened (Sync overflow counter) s sent ∷ log) = false
event_since_sync (Happened Event s sent ∷ log) = true
event_since_sync (Happened Tick s sent ∷ log) = event_since_sync log

-- how many ticks came since the event timer began: at the last start, whole or of the timer, or at
-- a later sending
abbrev pub timer_ticks : Log → ℕ
timer_ticks [] = 0
timer_ticks (Started Whole s ∷ log) = 0
timer_ticks (Started Timer s ∷ log) = 0
timer_ticks (Happened (Sync overflow counter) s sent ∷ log) = if sent then 0 else timer_ticks log
timer_ticks (Happened Event s sent ∷ log) = if sent then 0 else timer_ticks log
timer_ticks (Happened Tick s sent ∷ log) = if sent then 0 else timer_ticks log + 1

-- the event timer elapses at a tick after this log; a timer of 0 never does
abbrev pub is_timer_event : ℕ → Log → Bool
is_timer_event timer log = timer_ticks log + 1 == timer

-- an event, of the application or of the timer, came since the last whole start and since the last
-- sending
abbrev pub event_waits : Log → Bool
event_waits [] = false
event_waits (Started Whole s ∷ log) = false
event_waits (Started Timer s ∷ log) = event_waits log
event_waits (Happened (Sync overflow counter) s sent ∷ log) = not sent && event_waits log
event_waits (Happened Event s sent ∷ log) = not sent
event_waits (Happened Tick s sent ∷ log) = not sent && (event_waits log || is_timer_event s.event_timer log)

-- how many ticks ago each sending since the last whole start was, newest first
abbrev pub sendings : Log → List ℕ
sendings [] = []
sendings (Started Whole s ∷ log) = []
sendings (Started Timer s ∷ log) = sendings log
sendings (Happened (Sync overflow counter) s sent ∷ log) = if sent then 0 ∷ sendings log else sendings log
sendings (Happened Event s sent ∷ log) = if sent then 0 ∷ sendings log else sendings log
sendings (Happened Tick s sent ∷ log) = if sent then 0 ∷ map (λ n. n + 1) (sendings log) else map (λ n. n + 1) (sendings log)

-- the inhibit time has elapsed since each sending since the last whole start
abbrev pub is_inhibit_over : ℕ → Log → Bool
is_inhibit_over inhibit_time log = list_all (λ n. has_elapsed inhibit_time n) (sendings log)

-- type n from 1 to 240 is due at the newest of these SYNCs if the count has begun, and the number
-- of SYNCs counted is a multiple of n
abbrev pub is_due_by_count : ℕ → List Bool → Bool
is_due_by_count kind begins = has_begun begins && (counted_syncs begins % kind == 0 && is_synchronous kind)

-- at a SYNC after this log, type 0 is due if an event came since the last SYNC, and type n from 1
-- to 240 by its count
abbrev pub is_due_at_sync : ℕ → Log → LogEntry → Bool
is_due_at_sync kind log sync = if kind == 0 then event_since_sync log else is_due_by_count kind (syncs (sync ∷ log))

-- types 254 and 255 are due at an event or a tick, the newest of the log, if an event waits and the
-- inhibit time is over
abbrev pub is_due_by_event : Settings → Log → Bool
is_due_by_event s log = is_event_driven s.transmission_type.0 && (event_waits log && is_inhibit_over s.inhibit_time log)

-- whether a TPDO is due at a SYNC, an event or a tick after this log
abbrev pub is_due : Settings → Log → Occasion → Bool
is_due s log (Sync overflow counter) =
    s.is_active && is_due_at_sync s.transmission_type.0 log (Happened (Sync overflow counter) s false)
is_due s log Event = s.is_active && is_due_by_event s (Happened Event s false ∷ log)
is_due s log Tick = s.is_active && is_due_by_event s (Happened Tick s false ∷ log)

-- a TPDO with these settings is not due at any of the next `n` ticks
abbrev pub NotDueFor : Settings → ℕ → Log → Type 0
NotDueFor s zero log = Unit {0}
NotDueFor s (suc n) log = (is_due s log Tick ≡ false) × NotDueFor s n (Happened Tick s false ∷ log)
