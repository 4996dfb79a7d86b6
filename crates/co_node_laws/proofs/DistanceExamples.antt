-- What the laws by distances say of a small device, computed from the definitions.
use Rattle.std.proofs.Common.{◌≡◌, true, false, [], ◌∷◌, Some, None, refl}
use Rattle.co_frame.specs.declared.heartbeat.Heartbeat.TheVariants.{PreOperational}
use Rattle.co_profile.specs.declared.access.Access.TheVariants.{Rw}
use Rattle.co_pdo.specs.Due.{event_waits}
use Rattle.co_node_model.specs.Rpdos.{rpdo_type, is_short}
use Rattle.co_profile.specs.TransmissionTypes.{is_synchronous}
use Rattle.co_node_model.specs.Inputs.{Ticked}
use Rattle.co_node_model.specs.declared.address.Address.TheVariants.{Sync, Rpdo}
use Rattle.co_node_model.specs.declared.turn.Turn.TheVariants as turn
use Rattle.co_node_model.specs.Moments.{Constants}
use Rattle.co_node_model.specs.Addresses.{address_at}
use Rattle.co_node_model.specs.Device.{contents_of, moments}
use Rattle.co_node_model.proofs.ExampleNode.{device_with, u8, u16, u32, came, frame, raise, start, searches}
use Rattle.co_node_laws.specs.Distances.{heartbeat_at_tick, is_time_passed, emergency_by}
use Rattle.co_node_laws.specs.RpdoWaits.{waiting_frame, all_keep_waiting}
use Rattle.co_node_laws.specs.TpdoDistances.{is_sent, ticks_of_timer, tpdo_log, turn_of_input}

-- ---- a heartbeat each 2 ms

abbrev beating : Constants
beating = device_with (u16 Rw 0x1017 0 2 ∷ [])

first_tick : heartbeat_at_tick beating [] ≡ None
unfolding searches
first_tick = refl

second_tick : heartbeat_at_tick beating (Ticked ∷ []) ≡ Some PreOperational
unfolding searches
second_tick = refl

-- ---- the heartbeat of node 7, of which 2 ms may pass

abbrev listening : Constants
listening = device_with (u32 Rw 0x1016 1 0x0007_0002 ∷ [])

never_heard : is_time_passed listening 1 (Ticked ∷ Ticked ∷ []) ≡ false
unfolding searches
never_heard = refl

one_tick_ago : is_time_passed listening 1 (came 0x707 1 0x7F ∷ []) ≡ false
unfolding searches
one_tick_ago = refl

two_ticks_ago : is_time_passed listening 1 (Ticked ∷ came 0x707 1 0x7F ∷ []) ≡ true
unfolding searches
two_ticks_ago = refl

-- ---- emergencies, 1 ms apart

abbrev inhibited : Constants
inhibited = device_with (u16 Rw 0x1015 0 10 ∷ [])

sent_at_once : emergency_by inhibited [] (raise 0x1000) ≡ Some (record { code = 0x1000; register = 1; manufacturer = 0 ∷ 0 ∷ 0 ∷ 0 ∷ 0 ∷ [] })
unfolding searches
sent_at_once = refl

not_at_once : emergency_by inhibited (raise 0x1000 ∷ []) (raise 0x2000) ≡ None
unfolding searches
not_at_once = refl

at_next_tick : emergency_by inhibited (raise 0x2000 ∷ raise 0x1000 ∷ []) Ticked ≡ Some (record { code = 0x2000; register = 1; manufacturer = 0 ∷ 0 ∷ 0 ∷ 0 ∷ 0 ∷ [] })
unfolding searches
at_next_tick = refl

-- ---- an RPDO of type 1

abbrev synchronous : Constants
synchronous = device_with (u8 Rw 0x1400 2 1 ∷ [])

to_rpdo : address_at synchronous (moments synchronous (start ∷ [])) 0x205 ≡ Rpdo 0
unfolding searches
to_rpdo = refl

of_type_1 : is_synchronous (rpdo_type (contents_of synchronous (start ∷ [])) 0) ≡ true
unfolding searches
of_type_1 = refl

long_enough : is_short synchronous.description (contents_of synchronous (start ∷ [])) (record { number = 0; frame = frame 0x205 4 0x0102_0304 }) ≡ false
unfolding searches
long_enough = refl

waits_on : all_keep_waiting synchronous 0 (came 0x205 4 0x0102_0304 ∷ start ∷ []) (Ticked ∷ []) ≡ true
unfolding searches
waits_on = refl

still_waits : waiting_frame synchronous 0 (Ticked ∷ came 0x205 4 0x0102_0304 ∷ start ∷ []) ≡ Some (frame 0x205 4 0x0102_0304)
unfolding searches
still_waits = refl

to_sync : address_at synchronous (moments synchronous (start ∷ [])) 0x80 ≡ Sync
unfolding searches
to_sync = refl

-- ---- a TPDO with an event timer of 2 ms

abbrev timed : Constants
timed = device_with (u16 Rw 0x1800 5 2 ∷ [])

ticks_in_operational : turn_of_input timed (start ∷ []) Ticked ≡ turn.Tick
unfolding searches
ticks_in_operational = refl

no_event_waits : event_waits (tpdo_log timed 0 (Ticked ∷ start ∷ [])) ≡ false
unfolding searches
no_event_waits = refl

one_tick : ticks_of_timer timed 0 (Ticked ∷ start ∷ []) ≡ 1
unfolding searches
one_tick = refl

not_at_first : is_sent timed 0 (start ∷ []) Ticked ≡ false
unfolding searches
not_at_first = refl

at_second : is_sent timed 0 (Ticked ∷ start ∷ []) Ticked ≡ true
unfolding searches
at_second = refl
