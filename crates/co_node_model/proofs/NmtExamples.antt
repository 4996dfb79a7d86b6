-- NMT, boot-up, heartbeats and SDO of a small device, computed from the definitions.
use Rattle.std.proofs.Common.{◌≡◌, Some, [], ◌∷◌, ◌++◌, refl}
use Rattle.co_node_parts.specs.declared.nmt_state.NodeState.TheVariants.{PreOperational, Operational}
use Rattle.co_node_model.specs.Inputs.{Ticked}
use Rattle.co_node_model.specs.Device.{held_of, room_of, after_all}
use Rattle.co_node_model.proofs.ExampleNode.{device, device_with, u16, frame, came, request, response, start, stop, enter_pre_operational, reset_node, reset_communication, ticks, first_answered, number_after, value_after, state_after, searches}
use Rattle.co_profile.specs.declared.access.Access.TheVariants.{Rw}

built : state_after device [] ≡ PreOperational
built = refl

started : state_after device (start ∷ []) ≡ Operational
unfolding searches
started = refl

started_for_all : state_after device (came 0 2 0x0100 ∷ []) ≡ Operational
unfolding searches
started_for_all = refl

-- a command for another node
started_elsewhere : state_after device (came 0 2 0x0106 ∷ []) ≡ PreOperational
unfolding searches
started_elsewhere = refl

-- ---- the heartbeat is sent at every third tick after 1017:00 was written, in each state

every_third_tick : first_answered device (request 0x2B17_1000_0300_0000 ∷ ticks 7)
    ≡ (response 0x6017_1000_0000_0000 ∷ []) ∷ [] ∷ [] ∷ (frame 0x705 1 0x7F ∷ []) ∷ [] ∷ [] ∷ (frame 0x705 1 0x7F ∷ []) ∷ [] ∷ []
unfolding searches
every_third_tick = refl

-- ---- an open download is dropped as stopped is entered, without an abort; stopped nodes answer no request, and send heartbeats

dropped_by_stop : first_answered (device_with (u16 Rw 0x1017 0 2 ∷ []))
    (request 0x2101_2000_0A00_0000 ∷ stop ∷ request 0x0030_3132_3334_3536 ∷ ticks 2 ++ start ∷ request 0x0030_3132_3334_3536 ∷ [])
    ≡ (response 0x6001_2000_0000_0000 ∷ []) ∷ [] ∷ [] ∷ [] ∷ (frame 0x705 1 4 ∷ []) ∷ [] ∷ (response 0x8000_0000_0100_0405 ∷ []) ∷ []
unfolding searches
dropped_by_stop = refl

-- and not by stop while stopped is left for pre-operational alone: each begin is answered again
answered_again : first_answered device (stop ∷ request 0x4001_1000_0000_0000 ∷ enter_pre_operational ∷ request 0x4001_1000_0000_0000 ∷ [])
    ≡ [] ∷ [] ∷ [] ∷ (response 0x4F01_1000_0000_0000 ∷ []) ∷ []
unfolding searches
answered_again = refl

-- seven bytes on the identifier of requests are ignored; an open transfer's time goes on
seven_bytes : first_answered (record device { time = 2 }) (request 0x2101_2000_0A00_0000 ∷ Ticked ∷ came 0x605 7 0x0030_3132_3334_35 ∷ Ticked ∷ [])
    ≡ (response 0x6001_2000_0000_0000 ∷ []) ∷ [] ∷ [] ∷ (response 0x8001_2000_0000_0405 ∷ []) ∷ []
unfolding searches
seven_bytes = refl

-- eight bytes set it anew
eight_bytes : first_answered (record device { time = 2 }) (request 0x2101_2000_0A00_0000 ∷ Ticked ∷ request 0x0030_3132_3334_3536 ∷ ticks 2)
    ≡ (response 0x6001_2000_0000_0000 ∷ []) ∷ [] ∷ (response 0x2000_0000_0000_0000 ∷ []) ∷ [] ∷ (response 0x8001_2000_0000_0405 ∷ []) ∷ []
unfolding searches
eight_bytes = refl

-- of two channels whose time is over in one tick the lower one is aborted; the other stays open and goes on with its next frame
other_stays_open : first_answered (record device { time = 1 })
    (request 0x2101_2000_0A00_0000 ∷ came 0x680 8 0x2101_2000_0A00_0000 ∷ Ticked ∷ came 0x680 8 0x0030_3132_3334_3536 ∷ [])
    ≡ (response 0x6001_2000_0000_0000 ∷ []) ∷ (frame 0x681 8 0x6001_2000_0000_0000 ∷ []) ∷ (response 0x8001_2000_0000_0405 ∷ []) ∷ (frame 0x681 8 0x2000_0000_0000_0000 ∷ []) ∷ []
unfolding searches
other_stays_open = refl

-- each channel holds its own bytes
held_on_0 : held_of device (after_all [] (request 0x2101_2000_0A00_0000 ∷ came 0x680 8 0x2101_2000_0A00_0000 ∷ request 0x0030_3132_3334_3536 ∷ [])) 0 ≡ 7
unfolding searches
held_on_0 = refl

held_on_1 : held_of device (after_all [] (request 0x2101_2000_0A00_0000 ∷ came 0x680 8 0x2101_2000_0A00_0000 ∷ request 0x0030_3132_3334_3536 ∷ [])) 1 ≡ 0
unfolding searches
held_on_1 = refl

no_channel_2 : held_of device (after_all [] (request 0x2101_2000_0A00_0000 ∷ [])) 2 ≡ 0
unfolding searches
no_channel_2 = refl

-- room for the capacity of the entry, here 16, and a sub-block; none on the other channel, and none without a transfer
room_on_0 : room_of device (after_all [] (request 0x2101_2000_0A00_0000 ∷ [])) 0 ≡ 905
unfolding searches
room_on_0 = refl

room_on_1 : room_of device (after_all [] (request 0x2101_2000_0A00_0000 ∷ [])) 1 ≡ 0
unfolding searches
room_on_1 = refl

no_room : room_of device (after_all [] (request 0x4001_1000_0000_0000 ∷ [])) 0 ≡ 0
unfolding searches
no_room = refl

-- a reset drops the transfer
dropped_by_reset : first_answered device (request 0x2101_2000_0A00_0000 ∷ reset_communication ∷ request 0x0030_3132_3334_3536 ∷ [])
    ≡ (response 0x6001_2000_0000_0000 ∷ []) ∷ (frame 0x705 1 0 ∷ []) ∷ (response 0x8000_0000_0100_0405 ∷ []) ∷ []
unfolding searches
dropped_by_reset = refl

-- a whole download in segments
segmented : first_answered device (request 0x2101_2000_0A00_0000 ∷ request 0x0030_3132_3334_3536 ∷ request 0x1937_3839_0000_0000 ∷ [])
    ≡ (response 0x6001_2000_0000_0000 ∷ []) ∷ (response 0x2000_0000_0000_0000 ∷ []) ∷ (response 0x3000_0000_0000_0000 ∷ []) ∷ []
unfolding searches
segmented = refl

segmented_value : value_after device (request 0x2101_2000_0A00_0000 ∷ request 0x0030_3132_3334_3536 ∷ request 0x1937_3839_0000_0000 ∷ []) 0x2001 0
    ≡ Some (0x30 ∷ 0x31 ∷ 0x32 ∷ 0x33 ∷ 0x34 ∷ 0x35 ∷ 0x36 ∷ 0x37 ∷ 0x38 ∷ 0x39 ∷ [])
unfolding searches
segmented_value = refl

-- ---- resets: the boot-up alone; reset communication leaves the entries from 2000h on

reset : first_answered device (start ∷ came 0 2 0x8100 ∷ []) ≡ [] ∷ (frame 0x705 1 0 ∷ []) ∷ []
unfolding searches
reset = refl

-- what was written from 2000h on stays at a reset of the communication, and not at one of the node
kept_by_communication : number_after device (request 0x2302_2000_0100_0000 ∷ request 0x2B17_1000_0300_0000 ∷ reset_communication ∷ []) 0x2002 0 ≡ 1
unfolding searches
kept_by_communication = refl

not_by_node : number_after device (request 0x2302_2000_0100_0000 ∷ request 0x2B17_1000_0300_0000 ∷ reset_node ∷ []) 0x2002 0 ≡ 0
unfolding searches
not_by_node = refl

-- and the heartbeat time is as after build, from which it is counted
restored_time : first_answered (device_with (u16 Rw 0x1017 0 2 ∷ [])) (request 0x2B17_1000_0900_0000 ∷ Ticked ∷ reset_communication ∷ ticks 2)
    ≡ (response 0x6017_1000_0000_0000 ∷ []) ∷ [] ∷ (frame 0x705 1 0 ∷ []) ∷ [] ∷ (frame 0x705 1 0x7F ∷ []) ∷ []
unfolding searches
restored_time = refl

reset_while_stopped : first_answered device (stop ∷ reset_communication ∷ []) ≡ [] ∷ (frame 0x705 1 0 ∷ []) ∷ []
unfolding searches
reset_while_stopped = refl
