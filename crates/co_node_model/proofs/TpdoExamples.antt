-- When TPDOs are sent, computed from the definitions.
use Rattle.std.proofs.Common.{◌≡◌, ℕ, true, [], ◌∷◌, ◌++◌, refl}
use Rattle.co_node_model.specs.Inputs.{InputView, Ticked, Applied, Written, ChangedAt}
use Rattle.co_profile.specs.declared.access.Access.TheVariants.{Ro, Rw}
use Rattle.co_value.specs.declared.data_type.DataType.TheVariants.{Unsigned8}
use Rattle.co_dict.proofs.ExampleDevice.{at, number_row}
use Rattle.co_node_model.specs.Moments.{Constants}
use Rattle.co_node_model.proofs.ExampleNode.{device, device_with, u8, u16, u32, frame, came, request, response, emcy, start, enter_pre_operational, sync, raise, event, ticks, first_answered, searches}

-- TPDO 0, which maps 2002:00, with a transmission type, an inhibit time in 100 µs and an event timer in ms
abbrev tpdo : ℕ → ℕ → ℕ → Constants
tpdo kind inhibit timer = device_with (u8 Rw 0x1800 2 kind ∷ u16 Rw 0x1800 3 inhibit ∷ u16 Rw 0x1800 5 timer ∷ [])

-- ---- synchronous types

every_third_sync : first_answered (tpdo 3 0 0) (start ∷ sync ∷ sync ∷ sync ∷ sync ∷ [])
    ≡ [] ∷ [] ∷ [] ∷ (frame 0x185 4 0 ∷ []) ∷ [] ∷ []
unfolding searches
every_third_sync = refl

-- SYNCs before operational don't count, and entering it again counts anew
counted_in_operational : first_answered (tpdo 2 0 0) (sync ∷ start ∷ sync ∷ enter_pre_operational ∷ sync ∷ start ∷ sync ∷ sync ∷ [])
    ≡ [] ∷ [] ∷ [] ∷ [] ∷ [] ∷ [] ∷ [] ∷ (frame 0x185 4 0 ∷ []) ∷ []
unfolding searches
counted_in_operational = refl

-- start in operational starts no TPDO
started_twice : first_answered (tpdo 2 0 0) (start ∷ sync ∷ start ∷ sync ∷ []) ≡ [] ∷ [] ∷ [] ∷ (frame 0x185 4 0 ∷ []) ∷ []
unfolding searches
started_twice = refl

-- a write of the same type counts anew, and sends nothing
type_written : first_answered (tpdo 2 0 0) (start ∷ sync ∷ request 0x2F00_1802_0200_0000 ∷ sync ∷ sync ∷ [])
    ≡ [] ∷ [] ∷ (response 0x6000_1802_0000_0000 ∷ []) ∷ [] ∷ (frame 0x185 4 0 ∷ []) ∷ []
unfolding searches
type_written = refl

-- type 0: without an event nothing; after one, the next SYNC sends it once
type_0 : first_answered (tpdo 0 0 0) (start ∷ sync ∷ event 0 ∷ event 0 ∷ sync ∷ sync ∷ [])
    ≡ [] ∷ [] ∷ [] ∷ [] ∷ (frame 0x185 4 0 ∷ []) ∷ [] ∷ []
unfolding searches
type_0 = refl

-- and an event before operational is none
type_0_event_before : first_answered (tpdo 0 0 0) (event 0 ∷ start ∷ sync ∷ []) ≡ [] ∷ [] ∷ [] ∷ []
unfolding searches
type_0_event_before = refl

-- ---- the SYNC start value 2, of counters up to 4, and type 2: the count begins at the counter 2

abbrev start_value : Constants
start_value = device_with (u8 Rw 0x1019 0 4 ∷ u8 Rw 0x1800 2 2 ∷ u8 Rw 0x1800 6 2 ∷ [])

-- a SYNC with a counter
abbrev counter : ℕ → InputView
counter n = came 0x080 1 n

from_counter_2 : first_answered start_value (start ∷ counter 1 ∷ counter 2 ∷ counter 3 ∷ counter 4 ∷ counter 1 ∷ [])
    ≡ [] ∷ [] ∷ [] ∷ (frame 0x185 4 0 ∷ []) ∷ [] ∷ (frame 0x185 4 0 ∷ []) ∷ []
unfolding searches
from_counter_2 = refl

-- a SYNC without a counter is an error, and begins no count
without_counter : first_answered start_value (start ∷ sync ∷ counter 1 ∷ counter 2 ∷ counter 3 ∷ [])
    ≡ [] ∷ (emcy 0x4082_1100_0000_0000 ∷ []) ∷ [] ∷ [] ∷ (frame 0x185 4 0 ∷ []) ∷ []
unfolding searches
without_counter = refl

-- nor does one of two bytes, whose first is 2
two_bytes : first_answered start_value (start ∷ came 0x080 2 0x0203 ∷ counter 3 ∷ counter 2 ∷ counter 3 ∷ [])
    ≡ [] ∷ (emcy 0x4082_1100_0000_0000 ∷ []) ∷ [] ∷ [] ∷ (frame 0x185 4 0 ∷ []) ∷ []
unfolding searches
two_bytes = refl

-- the start value is written while the COB-ID isn't valid
start_value_written : first_answered start_value
    (request 0x2F00_1806_0300_0000 ∷ request 0x2300_1801_8501_0080 ∷ request 0x2F00_1806_F100_0000 ∷ request 0x2F00_1806_0300_0000 ∷ [])
    ≡ (response 0x8000_1806_2200_0008 ∷ []) ∷ (response 0x6000_1801_0000_0000 ∷ []) ∷ (response 0x8000_1806_3000_0906 ∷ []) ∷ (response 0x6000_1806_0000_0000 ∷ []) ∷ []
unfolding searches
start_value_written = refl

-- ---- types 254 and 255

-- an inhibit time of 2.5 ms: one at once, one at the third tick
inhibited : first_answered (tpdo 255 25 0) (start ∷ event 0 ∷ event 0 ∷ ticks 4)
    ≡ [] ∷ (frame 0x185 4 0 ∷ []) ∷ [] ∷ [] ∷ [] ∷ (frame 0x185 4 0 ∷ []) ∷ [] ∷ []
unfolding searches
inhibited = refl

-- the event timer, from entering operational on; an event restarts it
timer : first_answered (tpdo 254 0 2) (Ticked ∷ start ∷ ticks 3 ++ event 0 ∷ ticks 2)
    ≡ [] ∷ [] ∷ [] ∷ (frame 0x185 4 0 ∷ []) ∷ [] ∷ (frame 0x185 4 0 ∷ []) ∷ [] ∷ (frame 0x185 4 0 ∷ []) ∷ []
unfolding searches
timer = refl

-- a write of the event timer starts it anew, and forgets no event that waits
timer_written : first_answered (tpdo 254 30 2) (start ∷ event 0 ∷ event 0 ∷ request 0x2B00_1805_0200_0000 ∷ ticks 5)
    ≡ [] ∷ (frame 0x185 4 0 ∷ []) ∷ [] ∷ (response 0x6000_1805_0000_0000 ∷ []) ∷ [] ∷ [] ∷ (frame 0x185 4 0 ∷ []) ∷ [] ∷ [] ∷ []
unfolding searches
timer_written = refl

-- a write of the COB-ID forgets it, and ends the inhibit time
cob_id_written : first_answered (tpdo 254 30 0) (start ∷ event 0 ∷ event 0 ∷ request 0x2300_1801_8501_0000 ∷ ticks 3 ++ event 0 ∷ [])
    ≡ [] ∷ (frame 0x185 4 0 ∷ []) ∷ [] ∷ (response 0x6000_1801_0000_0000 ∷ []) ∷ [] ∷ [] ∷ [] ∷ (frame 0x185 4 0 ∷ []) ∷ []
unfolding searches
cob_id_written = refl

-- one that the application writes too, and the frame has the new identifier
cob_id_moved : first_answered (tpdo 255 30 0)
    (start ∷ event 0 ∷ Applied (Written (at 0x1800 1) (0x85 ∷ 0x01 ∷ 0x00 ∷ 0x80 ∷ [])) ∷ Applied (Written (at 0x1800 1) (0x86 ∷ 0x01 ∷ 0x00 ∷ 0x00 ∷ [])) ∷ event 0 ∷ [])
    ≡ [] ∷ (frame 0x185 4 0 ∷ []) ∷ [] ∷ [] ∷ (frame 0x186 4 0 ∷ []) ∷ []
unfolding searches
cob_id_moved = refl

-- a TPDO whose COB-ID has bit 31 isn't sent; its event is done, and nothing
not_valid : first_answered (device_with (u32 Rw 0x1800 1 0x8000_0185 ∷ [])) (start ∷ event 0 ∷ []) ≡ [] ∷ [] ∷ []
unfolding searches
not_valid = refl

-- outside operational an event does nothing
event_before : first_answered (tpdo 255 0 0) (event 0 ∷ start ∷ Ticked ∷ []) ≡ [] ∷ [] ∷ [] ∷ []
unfolding searches
event_before = refl

-- ---- a change of an entry is an event on each active TPDO that maps it

changed : first_answered (device_with (u32 Rw 0x1A01 1 0x2002_0020 ∷ [])) (start ∷ Applied (Written (at 0x2002 0) (4 ∷ 3 ∷ 2 ∷ 1 ∷ [])) ∷ Applied (ChangedAt (at 0x2002 0)) ∷ [])
    ≡ [] ∷ [] ∷ (frame 0x185 4 0x0403_0201 ∷ frame 0x285 4 0x0403_0201 ∷ []) ∷ []
unfolding searches
changed = refl

changed_elsewhere : first_answered device (start ∷ Applied (ChangedAt (at 0x2003 0)) ∷ Applied (ChangedAt (at 0x2001 0)) ∷ [])
    ≡ [] ∷ (frame 0x285 2 0 ∷ []) ∷ [] ∷ []
unfolding searches
changed_elsewhere = refl

-- a TPDO that maps the error register has it as it is at the end of the input
maps_register : first_answered (device_with (record (u8 Ro 0x1001 0 0) { row = number_row Unsigned8 Ro true } ∷ u32 Rw 0x1A00 1 0x1001_0008 ∷ u8 Rw 0x1800 2 1 ∷ []))
    (start ∷ came 0x080 1 1 ∷ [])
    ≡ [] ∷ (emcy 0x4082_1100_0000_0000 ∷ frame 0x185 1 0x11 ∷ []) ∷ []
unfolding searches
maps_register = refl

-- ---- a tick: inhibit times, transfers, heartbeats, emergencies, the heartbeat, TPDOs; one transfer and one emergency a tick

abbrev busy : Constants
busy = record (device_with (u16 Rw 0x1017 0 10 ∷ u16 Rw 0x1800 5 10 ∷ u16 Rw 0x1801 5 10 ∷ u16 Rw 0x1015 0 100 ∷ [])) { time = 10 }

one_transfer_a_tick : first_answered busy
    (start ∷ raise 0x1000 ∷ raise 0x1000 ∷ request 0x2101_2000_0A00_0000 ∷ came 0x680 8 0x2101_2000_0A00_0000 ∷ ticks 12)
    ≡ [] ∷ (emcy 0x0010_0100_0000_0000 ∷ []) ∷ [] ∷ (response 0x6001_2000_0000_0000 ∷ []) ∷ (frame 0x681 8 0x6001_2000_0000_0000 ∷ [])
    ∷ [] ∷ [] ∷ [] ∷ [] ∷ [] ∷ [] ∷ [] ∷ [] ∷ []
    ∷ (response 0x8001_2000_0000_0405 ∷ frame 0x705 1 5 ∷ frame 0x185 4 0 ∷ frame 0x285 2 0 ∷ [])
    ∷ (frame 0x681 8 0x8001_2000_0000_0405 ∷ [])
    ∷ (emcy 0x0010_0100_0000_0000 ∷ []) ∷ []
unfolding searches
one_transfer_a_tick = refl
