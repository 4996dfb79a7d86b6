-- Which TPDOs of a small device are due, computed from the definitions.
use Rattle.std.proofs.Common.{◌≡◌, ℕ, zero, suc, true, false, List, [], ◌∷◌, refl, length, Option, Some, None}
use Rattle.std.specs.Prelude.{◌==◌, nat_le, if◌then◌else◌}
use Rattle.co_value.specs.Numbers.{low_bytes}
use Rattle.co_dict.specs.Rows.{Contents, written}
use Rattle.co_dict.proofs.ExampleDevice.{at, nothing, with_u8, with_u32}
use Rattle.co_pdo.specs.declared.tpdo.Occasion.TheVariants.{Sync, Event, Tick}
use Rattle.co_pdo.specs.declared.tpdo.Part.TheVariants.{Whole}
use Rattle.co_pdo.specs.Tpdos.{is_active, settings_of, tpdo_numbers}
use Rattle.co_pdo.specs.Schedules.{History, sync_with, with_start, with_all_started, with_sync, with_event, with_events, with_tick, is_tpdo_due, all_due, all_due_among}

abbrev with_u16 : ℕ → ℕ → ℕ → Contents → Contents
with_u16 index sub number contents = written contents (at index sub) (low_bytes 2 number)

-- TPDOs 0 and 1 with COB-IDs, transmission types, inhibit times and event timers, one object mapped into each
abbrev device : ℕ → ℕ → ℕ → Contents
device kind inhibit_time event_timer =
    with_u32 0x1800 1 0x185 (with_u8 0x1800 2 kind (with_u16 0x1800 3 inhibit_time (with_u16 0x1800 5 event_timer (with_u8 0x1A00 0 1
    (with_u32 0x1801 1 0x285 (with_u8 0x1801 2 255 (with_u16 0x1801 5 event_timer (with_u8 0x1A01 0 1 nothing))))))))

active : is_active (device 255 0 0) 0 ≡ true
active = refl

greatest_valid_word : is_active (with_u32 0x1800 1 0x7FFF_FFFF (device 255 0 0)) 0 ≡ true
greatest_valid_word = refl

word_with_bit_31 : is_active (with_u32 0x1800 1 0x8000_0185 (device 255 0 0)) 0 ≡ false
word_with_bit_31 = refl

word_0 : is_active (with_u32 0x1800 1 0 (device 255 0 0)) 0 ≡ false
word_0 = refl

nothing_mapped : is_active (with_u8 0x1A00 0 0 (device 255 0 0)) 0 ≡ false
nothing_mapped = refl

reserved_type : is_active (device 241 0 0) 0 ≡ false
reserved_type = refl

absent : is_active (device 255 0 0) 2 ≡ false
absent = refl

settings : settings_of (device 254 25 10) 0 ≡ record { is_active = true; transmission_type = record { 0 = 254 }; inhibit_time = 25; event_timer = 10; start_value = 0 }
settings = refl

-- both started
abbrev started : Contents → History
started contents = with_start 1 Whole contents (with_start 0 Whole contents [])

-- a number of SYNCs or ticks that send nothing
abbrev syncs : ℕ → Contents → History → History
syncs zero contents history = history
syncs (suc n) contents history = with_sync None contents [] (syncs n contents history)

abbrev ticks : ℕ → Contents → History → History
ticks zero contents history = history
ticks (suc n) contents history = with_tick contents [] (ticks n contents history)

-- type 3: the third SYNC, not the second and not the fourth
third_sync : all_due (device 3 0 0) (syncs 2 (device 3 0 0) (started (device 3 0 0))) (Sync 0 None) ≡ 0 ∷ []
unfolding tpdo_numbers
third_sync = refl

-- the second of three
second_sync : all_due (device 3 0 0) (syncs 1 (device 3 0 0) (started (device 3 0 0))) (Sync 0 None) ≡ []
unfolding tpdo_numbers
second_sync = refl

-- the one after a sending
fourth_sync : all_due (device 3 0 0) (with_sync None (device 3 0 0) (0 ∷ []) (syncs 2 (device 3 0 0) (started (device 3 0 0)))) (Sync 0 None) ≡ []
unfolding tpdo_numbers
fourth_sync = refl

-- type 0: without an event nothing
sync_without_event : all_due (device 0 0 0) (started (device 0 0 0)) (Sync 0 None) ≡ []
unfolding tpdo_numbers
sync_without_event = refl

-- type 0: the SYNC after an event
sync_after_event : all_due (device 0 0 0) (with_event 0 (device 0 0 0) false (started (device 0 0 0))) (Sync 0 None) ≡ 0 ∷ []
unfolding tpdo_numbers
sync_after_event = refl

-- and once
once : all_due (device 0 0 0) (with_sync None (device 0 0 0) (0 ∷ []) (with_event 0 (device 0 0 0) false (started (device 0 0 0)))) (Sync 0 None) ≡ []
unfolding tpdo_numbers
once = refl

-- an event on TPDO 1 is none on TPDO 0
event_of_another : all_due (device 0 0 0) (with_event 1 (device 0 0 0) true (started (device 0 0 0))) (Sync 0 None) ≡ []
unfolding tpdo_numbers
event_of_another = refl

-- event timers of 10 ms: both at the tenth tick, none at the ninth
ninth_tick : all_due (device 255 0 10) (ticks 8 (device 255 0 10) (started (device 255 0 10))) Tick ≡ []
unfolding tpdo_numbers
ninth_tick = refl

-- both in increasing order
tenth_tick : all_due (device 255 0 10) (ticks 9 (device 255 0 10) (started (device 255 0 10))) Tick ≡ 0 ∷ 1 ∷ []
unfolding tpdo_numbers
tenth_tick = refl

-- and not at the one after
eleventh_tick : all_due (device 255 0 10) (with_tick (device 255 0 10) (0 ∷ 1 ∷ []) (ticks 9 (device 255 0 10) (started (device 255 0 10)))) Tick ≡ []
unfolding tpdo_numbers
eleventh_tick = refl

-- an inhibit time of 2.5 ms: an event is sent at once
first_event : is_tpdo_due (device 255 25 0) (started (device 255 25 0)) Event 0 ≡ true
unfolding tpdo_numbers
first_event = refl

-- the next one not
second_event : is_tpdo_due (device 255 25 0) (with_event 0 (device 255 25 0) true (started (device 255 25 0))) Event 0 ≡ false
unfolding tpdo_numbers
second_event = refl

-- it still waits at the second tick
second_tick : all_due (device 255 25 0) (ticks 1 (device 255 25 0) (with_event 0 (device 255 25 0) false (with_event 0 (device 255 25 0) true (started (device 255 25 0))))) Tick ≡ []
unfolding tpdo_numbers
second_tick = refl

-- and is sent at the third
third_tick : all_due (device 255 25 0) (ticks 2 (device 255 25 0) (with_event 0 (device 255 25 0) false (with_event 0 (device 255 25 0) true (started (device 255 25 0))))) Tick ≡ 0 ∷ []
unfolding tpdo_numbers
third_tick = refl

-- ---- calls that concern several

-- all are started: the third SYNC again
third_sync_after_all_started : all_due (device 3 0 0) (syncs 2 (device 3 0 0) (with_all_started (device 3 0 0) (syncs 1 (device 3 0 0) (started (device 3 0 0))))) (Sync 0 None) ≡ 0 ∷ []
unfolding tpdo_numbers
third_sync_after_all_started = refl

second_sync_after_all_started : all_due (device 3 0 0) (syncs 1 (device 3 0 0) (with_all_started (device 3 0 0) (syncs 1 (device 3 0 0) (started (device 3 0 0))))) (Sync 0 None) ≡ []
unfolding tpdo_numbers
second_sync_after_all_started = refl

-- an event for some: those that are there, increasing
event_for_both : all_due_among (511 ∷ 1 ∷ 0 ∷ []) (device 255 0 0) (started (device 255 0 0)) ≡ 0 ∷ 1 ∷ []
unfolding tpdo_numbers
event_for_both = refl

event_for_one : all_due_among (1 ∷ 2 ∷ []) (device 255 0 0) (started (device 255 0 0)) ≡ 1 ∷ []
unfolding tpdo_numbers
event_for_one = refl

event_for_none : all_due_among [] (device 255 0 0) (started (device 255 0 0)) ≡ []
unfolding tpdo_numbers
event_for_none = refl

-- type 0: the SYNC after it
sync_after_events : all_due (device 0 0 0) (with_events (1 ∷ 0 ∷ []) (device 0 0 0) (1 ∷ []) (started (device 0 0 0))) (Sync 0 None) ≡ 0 ∷ []
unfolding tpdo_numbers
sync_after_events = refl

sync_after_event_for_another : all_due (device 0 0 0) (with_events (1 ∷ []) (device 0 0 0) (1 ∷ []) (started (device 0 0 0))) (Sync 0 None) ≡ []
unfolding tpdo_numbers
sync_after_event_for_another = refl

-- ---- the SYNC start value

-- the device with a SYNC start value of TPDO 0, and a counter overflow value
abbrev counting : ℕ → ℕ → ℕ → Contents
counting kind start_value overflow = with_u8 0x1800 6 start_value (with_u8 0x1019 0 overflow (device kind 0 0))

settings_from_value : settings_of (counting 2 240 4) 0 ≡ record { is_active = true; transmission_type = record { 0 = 2 }; inhibit_time = 0; event_timer = 0; start_value = 240 }
settings_from_value = refl

-- TPDO 1 has none
no_start_value : (settings_of (counting 2 240 4) 1).start_value ≡ 0
no_start_value = refl

overflow_value : sync_with (Some 3) (counting 2 2 240) ≡ Sync 240 (Some 3)
overflow_value = refl

no_overflow_value : sync_with None (device 2 0 0) ≡ Sync 0 None
no_overflow_value = refl

-- which TPDOs are due at SYNCs with these counters, one after another
abbrev sent_at_syncs : Contents → History → List (Option ℕ) → List (List ℕ)
sent_at_syncs contents history [] = []
sent_at_syncs contents history (c ∷ cs) =
    all_due contents history (sync_with c contents) ∷ sent_at_syncs contents (with_sync c contents (all_due contents history (sync_with c contents)) history) cs

-- type 2 from the counter 2 on: the third and the fifth SYNC
from_second : sent_at_syncs (counting 2 2 4) (started (counting 2 2 4)) (Some 1 ∷ Some 2 ∷ Some 3 ∷ Some 4 ∷ Some 1 ∷ []) ≡ [] ∷ [] ∷ (0 ∷ []) ∷ [] ∷ (0 ∷ []) ∷ []
unfolding tpdo_numbers
from_second = refl

-- a SYNC of no or of two bytes before them has no counter
from_second_after_none : sent_at_syncs (counting 2 2 4) (started (counting 2 2 4)) (None ∷ Some 1 ∷ Some 2 ∷ Some 3 ∷ Some 4 ∷ Some 1 ∷ []) ≡ [] ∷ [] ∷ [] ∷ (0 ∷ []) ∷ [] ∷ (0 ∷ []) ∷ []
unfolding tpdo_numbers
from_second_after_none = refl

-- without 1019h, or where it is 0, from the first SYNC on
overflow_0 : sent_at_syncs (counting 2 2 0) (started (counting 2 2 0)) (Some 1 ∷ Some 2 ∷ []) ≡ [] ∷ (0 ∷ []) ∷ []
unfolding tpdo_numbers
overflow_0 = refl

overflow_absent : sent_at_syncs (with_u8 0x1800 6 2 (device 2 0 0)) (started (with_u8 0x1800 6 2 (device 2 0 0))) (Some 1 ∷ Some 2 ∷ []) ≡ [] ∷ (0 ∷ []) ∷ []
unfolding tpdo_numbers
overflow_absent = refl

-- started again after the first of the SYNCs that count: they count from the next 2 on
started_again : sent_at_syncs (counting 2 2 4) (with_start 0 Whole (counting 2 2 4) (with_sync (Some 2) (counting 2 2 4) [] (started (counting 2 2 4)))) (Some 3 ∷ Some 4 ∷ Some 1 ∷ Some 2 ∷ Some 3 ∷ []) ≡ [] ∷ [] ∷ [] ∷ [] ∷ (0 ∷ []) ∷ []
unfolding tpdo_numbers
started_again = refl

-- ---- all 512 TPDOs, of type 1

abbrev full : Contents
full key = if key.sub == 1 then Some (low_bytes 4 0x185) else (if nat_le key.sub 2 then Some (low_bytes 1 1) else None)

all_512 : length (all_due full [] (Sync 0 None)) ≡ 512
unfolding tpdo_numbers
all_512 = refl

last_of_512 : is_tpdo_due full [] (Sync 0 None) 511 ≡ true
last_of_512 = refl
