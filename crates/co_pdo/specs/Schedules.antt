-- The calls of a schedule with their results, newest first, and which TPDOs are due after them.
use Rattle.std.specs.Prelude.{◌≡◌, ℕ, zero, suc, ◌<◌, ◌≤◌, ◌==◌, ◌&&◌, Bool, Option, List, [], ◌∷◌, ◌++◌, length, map, if◌then◌else◌}
use Rattle.std.specs.List.{filter, list_any, slice_index_or}
use Rattle.co_dict.specs.Rows.{Contents, number_at}
use Rattle.co_dict.specs.Stores.{Description}
use Rattle.co_pdo.specs.declared.settings.Settings.{Settings}
use Rattle.co_pdo.specs.declared.tpdo.Part.{Part}
use Rattle.co_pdo.specs.declared.tpdo.Part.TheVariants.{Whole}
use Rattle.co_pdo.specs.declared.tpdo.Occasion.{Occasion}
use Rattle.co_pdo.specs.declared.tpdo.Occasion.TheVariants.{Sync, Event, Tick}
use Rattle.co_pdo.specs.declared.tpdo.Tpdo.{Tpdo}
use Rattle.co_pdo.specs.declared.places.Places.{Places}
use Rattle.co_profile.specs.Keys.{counter_overflow_key}
use Rattle.co_pdo.specs.Tpdos.{places_of, settings_of, tpdo_numbers, tpdos_of}
use Rattle.co_pdo.specs.Log.{Log, Started, Happened}
use Rattle.co_pdo.specs.Due.{NotDueFor, is_due}
use Rattle.co_pdo.specs.Countdowns.{IsAfter, IsCurrent}

-- one call of a schedule
pub data Call : Type 0 where
  Start : ℕ → Part → Call
  StartAll : Call
  OnSync : Option ℕ → Call
  OnEvent : ℕ → Call
  OnEvents : List ℕ → Call
  OnTick : Call

-- a call, the contents of the dictionary then, and the numbers of the TPDOs that were sent
pub record Moment : Type 0 where
  pub call : Call
  pub contents : Contents
  pub sent : List ℕ

-- the newest first
abbrev pub History : Type 0
History = List Moment

-- a SYNC with this counter, with the counter overflow value of the dictionary then
abbrev pub sync_with : Option ℕ → Contents → Occasion
sync_with counter contents = Sync (number_at contents counter_overflow_key) counter

-- a number is among these
abbrev pub is_among : ℕ → List ℕ → Bool
is_among k numbers = list_any (λ j. j == k) numbers

-- the part of one call in the log of TPDO k
abbrev pub part_of : ℕ → Call → Contents → List ℕ → Log
part_of k (Start j part) contents sent = if j == k then Started part (settings_of contents k) ∷ [] else []
part_of k StartAll contents sent = Started Whole (settings_of contents k) ∷ []
part_of k (OnSync counter) contents sent = Happened (sync_with counter contents) (settings_of contents k) (is_among k sent) ∷ []
part_of k (OnEvent j) contents sent = if j == k then Happened Event (settings_of contents k) (is_among k sent) ∷ [] else []
part_of k (OnEvents numbers) contents sent = if is_among k numbers then Happened Event (settings_of contents k) (is_among k sent) ∷ [] else []
part_of k OnTick contents sent = Happened Tick (settings_of contents k) (is_among k sent) ∷ []

-- the log of TPDO k
abbrev pub log_of : ℕ → History → Log
log_of k [] = []
log_of k (m ∷ history) = part_of k m.call m.contents m.sent ++ log_of k history

-- a history with one more call: a start of TPDO k
abbrev pub with_start : ℕ → Part → Contents → History → History
with_start k part contents history = record { call = Start k part; contents = contents; sent = [] } ∷ history

-- a history with one more call: a start of all TPDOs
abbrev pub with_all_started : Contents → History → History
with_all_started contents history = record { call = StartAll; contents = contents; sent = [] } ∷ history

-- a history with one more call: a SYNC, with or without a counter
abbrev pub with_sync : Option ℕ → Contents → List ℕ → History → History
with_sync counter contents sent history = record { call = OnSync counter; contents = contents; sent = sent } ∷ history

-- a history with one more call: an event of TPDO k, which was sent or not
abbrev pub with_event : ℕ → Contents → Bool → History → History
with_event k contents is_sent history = record { call = OnEvent k; contents = contents; sent = if is_sent then k ∷ [] else [] } ∷ history

-- a history with one more call: an event of each of these TPDOs
abbrev pub with_events : List ℕ → Contents → List ℕ → History → History
with_events numbers contents sent history = record { call = OnEvents numbers; contents = contents; sent = sent } ∷ history

-- a history with one more call: a tick
abbrev pub with_tick : Contents → List ℕ → History → History
with_tick contents sent history = record { call = OnTick; contents = contents; sent = sent } ∷ history

-- TPDO k is due
abbrev pub is_tpdo_due : Contents → History → Occasion → ℕ → Bool
is_tpdo_due contents history occasion k = is_due (settings_of contents k) (log_of k history) occasion

-- the numbers of the TPDOs that are due, increasing
abbrev pub all_due : Contents → History → Occasion → List ℕ
all_due contents history occasion = filter (λ k. is_tpdo_due contents history occasion k) tpdo_numbers

-- the numbers of those among these that are due at an event, increasing
abbrev pub all_due_among : List ℕ → Contents → History → List ℕ
all_due_among numbers contents history = filter (λ k. is_among k numbers && is_tpdo_due contents history Event k) tpdo_numbers

-- no TPDO is due at any of the next `n` ticks, if the dictionary keeps these contents
abbrev pub NoTpdoDueFor : Contents → ℕ → History → Type 0
NoTpdoDueFor contents zero history = Unit {0}
NoTpdoDueFor contents (suc n) history = (all_due contents history Tick ≡ []) × NoTpdoDueFor contents n (with_tick contents [] history)

-- none of the first `count` TPDOs is due at any of the next `n` ticks
abbrev pub AreNotDueFor : Contents → ℕ → ℕ → List Tpdo → (ℕ → Log) → Type 0
AreNotDueFor contents n count tpdos logs = (i : ℕ) (e : Tpdo) → i < count →
    NotDueFor (settings_of contents (slice_index_or tpdos i e).number) n (logs (slice_index_or tpdos i e).number)

-- at most 512 TPDOs, with numbers up to 511
pub record IsTable (tpdos : List Tpdo) : Type 0 where
  pub few : length tpdos ≤ 512
  pub small : (i : ℕ) (d : Tpdo) → i < length tpdos → (slice_index_or tpdos i d).number < 512

-- the TPDOs of a schedule, and the places of each
pub record Timetable : Type 0 where
  pub tpdos : List Tpdo
  pub places : List Places

-- a table, and as many places
pub record IsTimetable (tpdos : List Tpdo) (places : List Places) : Type 0 where
  pub table : IsTable tpdos
  pub placed : length places ≡ length tpdos

-- those are the places of the TPDOs with these numbers
abbrev pub ArePlaces : Description → List ℕ → List Places → Type 0
ArePlaces d numbers places = places ≡ map (places_of d) numbers

-- each TPDO has the countdowns after its log
abbrev pub AllAfter : List Tpdo → (ℕ → Log) → Type 0
AllAfter tpdos logs = (i : ℕ) (e : Tpdo) → i < length tpdos → IsAfter (slice_index_or tpdos i e) (logs (slice_index_or tpdos i e).number)

-- the last starts of each log had the settings of these contents
abbrev pub AllCurrentAfter : Contents → (ℕ → Log) → Type 0
AllCurrentAfter contents logs = (k : ℕ) → k < 512 → IsCurrent (settings_of contents k) (logs k)

-- the logs with one more SYNC or tick in each, at which it is sent if it is due
abbrev pub with_occasion : Contents → Occasion → (ℕ → Log) → ℕ → Log
with_occasion contents occasion logs = λ k.
    Happened occasion (settings_of contents k) (is_due (settings_of contents k) (logs k) occasion) ∷ logs k

-- the logs with one more whole start in each
abbrev pub with_whole_start : Contents → (ℕ → Log) → ℕ → Log
with_whole_start contents logs = λ k. Started Whole (settings_of contents k) ∷ logs k

-- the log with one more event, if there is one, at which the TPDO is sent if it is due
abbrev pub with_event_if : Bool → Settings → Log → Log
with_event_if is_there s log = if is_there then Happened Event s (is_due s log Event) ∷ log else log

-- the logs with one more event in those of some numbers
abbrev pub with_events_among : List ℕ → Contents → (ℕ → Log) → ℕ → Log
with_events_among numbers contents logs = λ k. with_event_if (is_among k numbers) (settings_of contents k) (logs k)

-- a schedule is in the state after this history: it has the TPDOs of the dictionary, each with its
-- places and the countdowns after its log
pub record IsScheduleAfter (d : Description) (schedule : Timetable) (history : History) : Type 0 where
  pub numbers : map (λ t. t.number) schedule.tpdos ≡ tpdos_of d.rows
  pub places : ArePlaces d (tpdos_of d.rows) schedule.places
  pub countdowns : AllAfter schedule.tpdos (λ k. log_of k history)

-- the last starts of TPDO k had the settings of these contents
abbrev pub IsCurrentOn : Contents → ℕ → History → Type 0
IsCurrentOn contents k history = IsCurrent (settings_of contents k) (log_of k history)

-- the contents that `on_sync`, `on_event`, `on_events` and `on_tick` need after this history: each
-- active TPDO had a whole start with its transmission type and inhibit time, and each event timer
-- was started with its time
abbrev pub AllCurrent : Contents → History → Type 0
AllCurrent contents history = AllCurrentAfter contents (λ k. log_of k history)
