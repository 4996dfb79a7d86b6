-- When one TPDO is due, computed from the definitions: both sides of each edge.
use Rattle.std.proofs.Common.{◌≡◌, ℕ, Bool, true, false, List, [], ◌∷◌, ◌++◌, Some, None, map, replicate, refl}
use Rattle.co_frame.specs.InhibitTimes.{in_ms}
use Rattle.co_pdo.specs.declared.settings.Settings.{Settings}
use Rattle.co_pdo.specs.declared.tpdo.Occasion.{Occasion}
use Rattle.co_pdo.specs.declared.tpdo.Occasion.TheVariants.{Sync, Event, Tick}
use Rattle.co_pdo.specs.declared.tpdo.Part.TheVariants.{Whole, Timer}
use Rattle.co_pdo.specs.Log.{Log, Started, Happened}
use Rattle.co_pdo.specs.Due.{begins_count, is_due}

-- an active TPDO with a transmission type, an inhibit time in 100 µs and an event timer in ms
abbrev active : ℕ → ℕ → ℕ → Settings
active kind inhibit_time event_timer = record { is_active = true; transmission_type = record { 0 = kind }; inhibit_time = inhibit_time; event_timer = event_timer; start_value = 0 }

-- a SYNC where no counter is used
abbrev sync : Occasion
sync = Sync 0 None

-- whether it is sent at each of these, one after another
abbrev sent_at : Settings → Log → List Occasion → List Bool
sent_at s log [] = []
sent_at s log (o ∷ os) = is_due s log o ∷ sent_at s (Happened o s (is_due s log o) ∷ log) os

-- the same from a whole start on
abbrev from_start : Settings → List Occasion → List Bool
from_start s os = sent_at s (Started Whole s ∷ []) os

-- ---- types 1 to 240

each_sync : from_start (active 1 0 0) (sync ∷ sync ∷ []) ≡ true ∷ true ∷ []
each_sync = refl

third_of_four : from_start (active 3 0 0) (sync ∷ sync ∷ sync ∷ sync ∷ []) ≡ false ∷ false ∷ true ∷ false ∷ []
third_of_four = refl

sixth_of_six : from_start (active 3 0 0) (sync ∷ sync ∷ sync ∷ sync ∷ sync ∷ sync ∷ []) ≡ false ∷ false ∷ true ∷ false ∷ false ∷ true ∷ []
sixth_of_six = refl

-- type 240 is due at the 240th SYNC, and not at those next to it
abbrev after_syncs : ℕ → Log
after_syncs count = replicate count (Happened sync (active 240 0 0) false) ++ Started Whole (active 240 0 0) ∷ []

at_240 : is_due (active 240 0 0) (after_syncs 239) sync ≡ true
at_240 = refl

not_at_239 : is_due (active 240 0 0) (after_syncs 238) sync ≡ false
not_at_239 = refl

not_at_241 : is_due (active 240 0 0) (after_syncs 240) sync ≡ false
not_at_241 = refl

-- events, ticks and the inhibit time make no difference
sync_alone : from_start (active 2 100 1) (sync ∷ Event ∷ Tick ∷ sync ∷ Tick ∷ sync ∷ sync ∷ []) ≡ false ∷ false ∷ false ∷ true ∷ false ∷ false ∷ true ∷ []
sync_alone = refl

-- a whole start begins the count anew, a start of the timer doesn't
whole_start_counts_anew : is_due (active 2 0 0) (Started Whole (active 2 0 0) ∷ Happened sync (active 2 0 0) false ∷ Started Whole (active 2 0 0) ∷ []) sync ≡ false
whole_start_counts_anew = refl

timer_start_counts_on : is_due (active 2 0 0) (Started Timer (active 2 0 0) ∷ Happened sync (active 2 0 0) false ∷ Started Whole (active 2 0 0) ∷ []) sync ≡ true
timer_start_counts_on = refl

-- ---- the SYNC start value

-- with a start value
abbrev from_value : ℕ → Settings → Settings
from_value start_value s = record s { start_value = start_value }

-- a SYNC with a counter, where the counter goes up to 4
abbrev counter : ℕ → Occasion
counter n = Sync 4 (Some n)

-- where a SYNC with the counter 2 begins the count: by the start value
by_start_value : map (λ v. begins_count v 4 (Some 2)) (0 ∷ 1 ∷ 2 ∷ 3 ∷ 240 ∷ 241 ∷ 255 ∷ []) ≡ true ∷ false ∷ true ∷ false ∷ false ∷ true ∷ true ∷ []
by_start_value = refl

-- the greatest start value
by_240 : map (λ n. begins_count 240 240 (Some n)) (239 ∷ 240 ∷ 241 ∷ []) ≡ false ∷ true ∷ false ∷ []
by_240 = refl

no_counter_reaches_241 : begins_count 241 240 (Some 1) ≡ true
no_counter_reaches_241 = refl

-- by the counter overflow value
by_overflow : map (λ o. begins_count 2 o (Some 3)) (0 ∷ 1 ∷ 2 ∷ 240 ∷ 241 ∷ []) ≡ true ∷ false ∷ false ∷ false ∷ false ∷ []
by_overflow = refl

-- a SYNC without a counter, and none is used
no_counter : map (λ o. begins_count 2 o None) (0 ∷ 2 ∷ 240 ∷ []) ≡ true ∷ false ∷ false ∷ []
no_counter = refl

no_counter_and_no_start_value : map (λ v. begins_count v 4 None) (0 ∷ 1 ∷ 240 ∷ 241 ∷ []) ≡ true ∷ false ∷ false ∷ true ∷ []
no_counter_and_no_start_value = refl

-- type 2 from the counter 2 on: the third and the fifth of these
third_and_fifth : from_start (from_value 2 (active 2 0 0)) (counter 1 ∷ counter 2 ∷ counter 3 ∷ counter 4 ∷ counter 1 ∷ []) ≡ false ∷ false ∷ true ∷ false ∷ true ∷ []
third_and_fifth = refl

-- a SYNC without a counter before them doesn't begin the count
unexpected_length_first : from_start (from_value 2 (active 2 0 0)) (Sync 4 None ∷ counter 1 ∷ counter 2 ∷ counter 3 ∷ counter 4 ∷ counter 1 ∷ []) ≡ false ∷ false ∷ false ∷ true ∷ false ∷ true ∷ []
unexpected_length_first = refl

-- but counts once the count has begun
unexpected_length_later : from_start (from_value 2 (active 2 0 0)) (counter 1 ∷ counter 2 ∷ Sync 4 None ∷ counter 4 ∷ Sync 4 None ∷ []) ≡ false ∷ false ∷ true ∷ false ∷ true ∷ []
unexpected_length_later = refl

-- type 1: the SYNC that begins the count is the first to send
first_sends : from_start (from_value 3 (active 1 0 0)) (counter 1 ∷ counter 2 ∷ counter 3 ∷ counter 4 ∷ counter 1 ∷ []) ≡ false ∷ false ∷ true ∷ true ∷ true ∷ []
first_sends = refl

-- the counter comes again: the count goes on
counter_comes_again : from_start (from_value 1 (active 3 0 0)) (counter 1 ∷ counter 2 ∷ counter 1 ∷ counter 1 ∷ counter 2 ∷ counter 1 ∷ []) ≡ false ∷ false ∷ true ∷ false ∷ false ∷ true ∷ []
counter_comes_again = refl

-- a counter that never comes
never_begins : from_start (from_value 5 (active 1 0 0)) (counter 1 ∷ counter 2 ∷ counter 3 ∷ counter 4 ∷ []) ≡ false ∷ false ∷ false ∷ false ∷ []
never_begins = refl

above_240_is_none : from_start (from_value 241 (active 2 0 0)) (counter 1 ∷ counter 2 ∷ Sync 4 None ∷ counter 4 ∷ []) ≡ false ∷ true ∷ false ∷ true ∷ []
above_240_is_none = refl

no_counter_is_used : from_start (from_value 2 (active 2 0 0)) (Sync 0 (Some 1) ∷ sync ∷ Sync 0 (Some 3) ∷ sync ∷ []) ≡ false ∷ true ∷ false ∷ true ∷ []
no_counter_is_used = refl

-- the counter overflow value is set to 0 while the TPDO waits, and back once the count has begun
overflow_changes : from_start (from_value 2 (active 2 0 0)) (counter 1 ∷ counter 3 ∷ Sync 0 (Some 4) ∷ counter 1 ∷ []) ≡ false ∷ false ∷ false ∷ true ∷ []
overflow_changes = refl

-- a whole start in the middle: the TPDO waits for its counter again; a start of the timer doesn't make it wait
waits_again : sent_at (from_value 2 (active 1 0 0)) (Started Whole (from_value 2 (active 1 0 0)) ∷ Happened (counter 2) (from_value 2 (active 1 0 0)) true ∷ Started Whole (from_value 2 (active 1 0 0)) ∷ []) (counter 3 ∷ counter 4 ∷ counter 1 ∷ counter 2 ∷ counter 3 ∷ []) ≡ false ∷ false ∷ false ∷ true ∷ true ∷ []
waits_again = refl

timer_start_goes_on : sent_at (from_value 2 (active 1 0 0)) (Started Timer (from_value 2 (active 1 0 0)) ∷ Happened (counter 2) (from_value 2 (active 1 0 0)) true ∷ Started Whole (from_value 2 (active 1 0 0)) ∷ []) (counter 3 ∷ counter 4 ∷ []) ≡ true ∷ true ∷ []
timer_start_goes_on = refl

-- events and ticks begin no count
no_sync_no_beginning : from_start (from_value 2 (active 1 0 0)) (Event ∷ Tick ∷ counter 1 ∷ Event ∷ counter 2 ∷ []) ≡ false ∷ false ∷ false ∷ false ∷ true ∷ []
no_sync_no_beginning = refl

-- type 0 has no count: the start value makes no difference
type_0_waits_for_no_counter : from_start (from_value 2 (active 0 0 0)) (Event ∷ counter 1 ∷ Event ∷ Sync 4 None ∷ counter 2 ∷ []) ≡ false ∷ true ∷ false ∷ true ∷ false ∷ []
type_0_waits_for_no_counter = refl

-- ---- type 0

once_after_an_event : from_start (active 0 0 0) (sync ∷ Event ∷ Event ∷ sync ∷ sync ∷ []) ≡ false ∷ false ∷ false ∷ true ∷ false ∷ []
once_after_an_event = refl

event_before_the_last_sync : from_start (active 0 0 0) (Event ∷ sync ∷ Tick ∷ sync ∷ Event ∷ sync ∷ []) ≡ false ∷ true ∷ false ∷ false ∷ false ∷ true ∷ []
event_before_the_last_sync = refl

-- the event timer gives no event to it, and the inhibit time holds nothing back
type_0_has_no_timer : from_start (active 0 100 1) (Tick ∷ sync ∷ Event ∷ sync ∷ Event ∷ sync ∷ []) ≡ false ∷ false ∷ false ∷ true ∷ false ∷ true ∷ []
type_0_has_no_timer = refl

whole_start_forgets_an_event : is_due (active 0 0 0) (Started Whole (active 0 0 0) ∷ Happened Event (active 0 0 0) false ∷ []) sync ≡ false
whole_start_forgets_an_event = refl

timer_start_keeps_an_event : is_due (active 0 0 0) (Started Timer (active 0 0 0) ∷ Happened Event (active 0 0 0) false ∷ Started Whole (active 0 0 0) ∷ []) sync ≡ true
timer_start_keeps_an_event = refl

-- ---- the inhibit time

no_time : in_ms 0 ≡ 0
no_time = refl

rounded_up : in_ms 1 ≡ 1
rounded_up = refl

one_ms : in_ms 10 ≡ 1
one_ms = refl

past_one_ms : in_ms 11 ≡ 2
past_one_ms = refl

longest : in_ms 65535 ≡ 6554
longest = refl

-- 2.5 ms: the first of two events at once, the other at the third tick
inhibited : from_start (active 255 25 0) (Event ∷ Event ∷ Tick ∷ Tick ∷ Tick ∷ Tick ∷ []) ≡ true ∷ false ∷ false ∷ false ∷ true ∷ false ∷ []
inhibited = refl

-- several events while it is inhibited are one
one_of_several : from_start (active 254 10 0) (Event ∷ Event ∷ Event ∷ Tick ∷ Tick ∷ Tick ∷ []) ≡ true ∷ false ∷ false ∷ true ∷ false ∷ false ∷ []
one_of_several = refl

-- no event while it is inhibited: none is sent as the time ends, and the next event is sent at once
inhibit_is_over : from_start (active 254 10 0) (Event ∷ Tick ∷ Event ∷ []) ≡ true ∷ false ∷ true ∷ []
inhibit_is_over = refl

-- without inhibit time each event is sent
not_inhibited : from_start (active 255 0 0) (Event ∷ Event ∷ Tick ∷ Event ∷ []) ≡ true ∷ true ∷ false ∷ true ∷ []
not_inhibited = refl

whole_start_ends_the_inhibit_time : is_due (active 255 25 0) (Started Whole (active 255 25 0) ∷ Happened Event (active 255 25 0) true ∷ Started Whole (active 255 25 0) ∷ []) Event ≡ true
whole_start_ends_the_inhibit_time = refl

timer_start_leaves_the_inhibit_time : is_due (active 255 25 0) (Started Timer (active 255 25 0) ∷ Happened Event (active 255 25 0) true ∷ Started Whole (active 255 25 0) ∷ []) Event ≡ false
timer_start_leaves_the_inhibit_time = refl

-- a SYNC is no event, and leaves one that waits: it is sent as the inhibit time of 2 ms ends
sync_is_no_event : from_start (active 255 0 0) (sync ∷ Tick ∷ []) ≡ false ∷ false ∷ []
sync_is_no_event = refl

sync_leaves_an_event : from_start (active 254 20 0) (Event ∷ Event ∷ sync ∷ Tick ∷ Tick ∷ []) ≡ true ∷ false ∷ false ∷ false ∷ true ∷ []
sync_leaves_an_event = refl

-- SYNCs don't send it
no_sync : from_start (active 255 0 0) (sync ∷ Event ∷ sync ∷ []) ≡ false ∷ true ∷ false ∷ []
no_sync = refl

-- ---- the event timer

-- 3 ms: at the third tick, and anew after the sending at an event
timer_again : from_start (active 254 0 3) (Tick ∷ Tick ∷ Tick ∷ Tick ∷ Event ∷ Tick ∷ Tick ∷ Tick ∷ []) ≡ false ∷ false ∷ true ∷ false ∷ true ∷ false ∷ false ∷ true ∷ []
timer_again = refl

each_tick : from_start (active 255 0 1) (Tick ∷ Tick ∷ []) ≡ true ∷ true ∷ []
each_tick = refl

-- a SYNC leaves the time that ran: the third tick sends
sync_leaves_the_timer : from_start (active 254 0 3) (Tick ∷ sync ∷ Tick ∷ sync ∷ Tick ∷ []) ≡ false ∷ false ∷ false ∷ false ∷ true ∷ []
sync_leaves_the_timer = refl

-- a whole start begins the timer anew
whole_start_begins_the_timer : sent_at (active 254 0 2) (Started Whole (active 254 0 2) ∷ Happened Tick (active 254 0 2) false ∷ Started Whole (active 254 0 2) ∷ []) (Tick ∷ Tick ∷ []) ≡ false ∷ true ∷ []
whole_start_begins_the_timer = refl

-- 2 ms inside an inhibit time of 3 ms: its one event waits, and the timer begins anew with the sending
timer_inside_inhibit_time : from_start (active 254 30 2) (Event ∷ Tick ∷ Tick ∷ Tick ∷ Tick ∷ Tick ∷ Tick ∷ []) ≡ true ∷ false ∷ false ∷ true ∷ false ∷ false ∷ true ∷ []
timer_inside_inhibit_time = refl

-- both times end in one tick
both_in_one_tick : from_start (active 254 20 2) (Event ∷ Tick ∷ Tick ∷ Tick ∷ Tick ∷ []) ≡ true ∷ false ∷ true ∷ false ∷ true ∷ []
both_in_one_tick = refl

-- an event and the timer's in one inhibit time are one
event_and_timer : from_start (active 254 30 2) (Event ∷ Tick ∷ Event ∷ Tick ∷ Tick ∷ Tick ∷ []) ≡ true ∷ false ∷ false ∷ false ∷ true ∷ false ∷ []
event_and_timer = refl

-- the timer changes from 3 ms to 2 ms after two ticks: it counts from there
timer_is_changed : sent_at (active 254 0 2) (Started Timer (active 254 0 2) ∷ Happened Tick (active 254 0 3) false ∷ Happened Tick (active 254 0 3) false ∷ Started Whole (active 254 0 3) ∷ []) (Tick ∷ Tick ∷ []) ≡ false ∷ true ∷ []
timer_is_changed = refl

-- the timer is started while an event waits: the event still waits
event_still_waits : is_due (active 254 30 2) (Started Timer (active 254 30 2) ∷ Happened Event (active 254 30 2) false ∷ Happened Tick (active 254 30 2) false ∷ Happened Tick (active 254 30 2) false ∷ Happened Event (active 254 30 2) true ∷ Started Whole (active 254 30 2) ∷ []) Tick ≡ true
event_still_waits = refl

whole_start_forgets_a_waiting_event : is_due (active 254 30 0) (Started Whole (active 254 30 0) ∷ Happened Event (active 254 30 0) false ∷ Happened Event (active 254 30 0) true ∷ Started Whole (active 254 30 0) ∷ []) Tick ≡ false
whole_start_forgets_a_waiting_event = refl

-- ---- a TPDO that is not active

never_due : sent_at (record (active 255 0 1) { is_active = false }) (Started Whole (active 255 0 1) ∷ []) (Event ∷ Tick ∷ sync ∷ []) ≡ false ∷ false ∷ false ∷ []
never_due = refl

never_at_sync : is_due (record (active 1 0 0) { is_active = false }) (Started Whole (active 1 0 0) ∷ []) sync ≡ false
never_at_sync = refl
