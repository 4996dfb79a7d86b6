-- Heartbeats of other nodes, and what their loss does, computed from the definitions.
use Rattle.std.proofs.Common.{◌≡◌, ℕ, [], ◌∷◌, ◌++◌, refl}
use Rattle.co_node_parts.specs.declared.nmt_state.NodeState.TheVariants.{PreOperational, Operational, Stopped}
use Rattle.co_node_model.specs.Inputs.{InputView, Ticked}
use Rattle.co_profile.specs.declared.access.Access.TheVariants.{Rw}
use Rattle.co_node_model.specs.Moments.{Constants}
use Rattle.co_node_model.specs.Device.{all_frames}
use Rattle.co_node_model.proofs.ExampleNode.{device, device_with, u8, u16, u32, frame, came, request, response, emcy, start, stop, enter_pre_operational, reset_communication, ticks, first_answered, number_after, state_after, searches}

-- 1016:01 monitors node 7 with a time of 3 ms
abbrev monitoring : ℕ → Constants
monitoring reaction = device_with (u32 Rw 0x1016 1 0x0007_0003 ∷ u8 Rw 0x1029 1 reaction ∷ [])

-- the heartbeat of node 7, operational
abbrev heard : InputView
heard = came 0x707 1 5

-- ---- a node-ID is used once

used_once : first_answered device (request 0x2316_1001_0300_0700 ∷ request 0x2316_1002_C800_0700 ∷ [])
    ≡ (response 0x6016_1001_0000_0000 ∷ []) ∷ (response 0x8016_1002_4300_0406 ∷ []) ∷ []
unfolding searches
used_once = refl

-- ---- lost at the tick at which exactly its time has passed; operational is left

lost_at_the_third_tick : first_answered device (request 0x2316_1001_0300_0700 ∷ start ∷ heard ∷ ticks 4)
    ≡ (response 0x6016_1001_0000_0000 ∷ []) ∷ [] ∷ [] ∷ [] ∷ [] ∷ (emcy 0x3081_1100_0000_0000 ∷ []) ∷ [] ∷ []
unfolding searches
lost_at_the_third_tick = refl

leaves_operational : state_after (monitoring 0) (start ∷ heard ∷ ticks 3) ≡ PreOperational
unfolding searches
leaves_operational = refl

not_before : state_after (monitoring 0) (start ∷ heard ∷ ticks 2) ≡ Operational
unfolding searches
not_before = refl

no_reaction : state_after (monitoring 1) (start ∷ heard ∷ ticks 3) ≡ Operational
unfolding searches
no_reaction = refl

stops : state_after (monitoring 2) (start ∷ heard ∷ ticks 3) ≡ Stopped
unfolding searches
stops = refl

-- a heartbeat sets the time anew
later_heartbeat : first_answered (monitoring 0) (heard ∷ ticks 2 ++ heard ∷ ticks 3)
    ≡ [] ∷ [] ∷ [] ∷ [] ∷ [] ∷ [] ∷ (emcy 0x3081_1100_0000_0000 ∷ []) ∷ []
unfolding searches
later_heartbeat = refl

-- monitoring begins with the first heartbeat; a boot-up, two bytes and another node's are none
never_heard : first_answered (monitoring 0) (came 0x707 1 0 ∷ came 0x707 2 0x0505 ∷ came 0x708 1 5 ∷ ticks 4)
    ≡ [] ∷ [] ∷ [] ∷ [] ∷ [] ∷ [] ∷ [] ∷ []
unfolding searches
never_heard = refl

-- in pre-operational too it is one
heard_pre_operational : first_answered (monitoring 0) (came 0x707 1 0x7F ∷ ticks 3)
    ≡ [] ∷ [] ∷ [] ∷ (emcy 0x3081_1100_0000_0000 ∷ []) ∷ []
unfolding searches
heard_pre_operational = refl

-- a write of 1016:02 begins that entry alone: node 8, which 1016:01 monitors, is lost a tick after node 7
second_entry : first_answered (device_with (u32 Rw 0x1016 1 0x0008_0003 ∷ [])) (came 0x708 1 5 ∷ request 0x2316_1002_0200_0700 ∷ heard ∷ ticks 3)
    ≡ [] ∷ (response 0x6016_1002_0000_0000 ∷ []) ∷ [] ∷ [] ∷ (emcy 0x3081_1100_0000_0000 ∷ []) ∷ (emcy 0x3081_1100_0000_0000 ∷ []) ∷ []
unfolding searches
second_entry = refl

-- a reset begins each anew: nothing is lost before the next heartbeat
begun_by_reset : first_answered (monitoring 0) (heard ∷ Ticked ∷ reset_communication ∷ ticks 3)
    ≡ [] ∷ [] ∷ (frame 0x705 1 0 ∷ []) ∷ [] ∷ [] ∷ [] ∷ []
unfolding searches
begun_by_reset = refl

-- a write of the same word begins anew: the time that ran is forgotten
written_again : first_answered (monitoring 0) (heard ∷ Ticked ∷ request 0x2316_1001_0300_0700 ∷ ticks 3)
    ≡ [] ∷ [] ∷ (response 0x6016_1001_0000_0000 ∷ []) ∷ [] ∷ [] ∷ [] ∷ []
unfolding searches
written_again = refl

-- a write that is refused doesn't: here of a node-ID that 1016:02 uses
refused_write : first_answered (device_with (u32 Rw 0x1016 1 0x0007_0003 ∷ u32 Rw 0x1016 2 0x0008_0009 ∷ []))
    (heard ∷ Ticked ∷ request 0x2316_1001_0300_0800 ∷ ticks 2)
    ≡ [] ∷ [] ∷ (response 0x8016_1001_4300_0406 ∷ []) ∷ [] ∷ (emcy 0x3081_1100_0000_0000 ∷ []) ∷ []
unfolding searches
refused_write = refl

-- ---- two losses in a tick are two emergencies, and two errors in 1003h

two_losses : first_answered (device_with (u32 Rw 0x1016 1 0x0007_0001 ∷ u32 Rw 0x1016 2 0x0008_0001 ∷ [])) (heard ∷ came 0x708 1 4 ∷ ticks 2)
    ≡ [] ∷ [] ∷ (emcy 0x3081_1100_0000_0000 ∷ []) ∷ (emcy 0x3081_1100_0000_0000 ∷ []) ∷ []
unfolding searches
two_losses = refl

two_errors : number_after (device_with (u32 Rw 0x1016 1 0x0007_0001 ∷ u32 Rw 0x1016 2 0x0008_0001 ∷ [])) (heard ∷ came 0x708 1 4 ∷ Ticked ∷ []) 0x1003 0 ≡ 2
unfolding searches
two_errors = refl

-- ---- an emergency goes before a heartbeat in the same tick

abbrev losing_with_heartbeat : Constants
losing_with_heartbeat = device_with (u32 Rw 0x1016 1 0x0007_0001 ∷ u16 Rw 0x1017 0 1 ∷ [])

emergency_before_heartbeat : first_answered losing_with_heartbeat (heard ∷ Ticked ∷ [])
    ≡ [] ∷ (emcy 0x3081_1100_0000_0000 ∷ frame 0x705 1 0x7F ∷ []) ∷ []
unfolding searches
emergency_before_heartbeat = refl

-- the frames of all inputs, one after another
one_after_another : all_frames losing_with_heartbeat [] (heard ∷ ticks 2)
    ≡ emcy 0x3081_1100_0000_0000 ∷ frame 0x705 1 0x7F ∷ frame 0x705 1 0x7F ∷ []
unfolding searches
one_after_another = refl

-- and after other inputs: of a node that was stopped, and then heard node 7
after_other_inputs : all_frames losing_with_heartbeat (heard ∷ stop ∷ []) (Ticked ∷ enter_pre_operational ∷ Ticked ∷ [])
    ≡ frame 0x705 1 4 ∷ emcy 0x3081_1100_0000_0000 ∷ frame 0x705 1 0x7F ∷ []
unfolding searches
after_other_inputs = refl

-- ---- stopped nodes listen, lose, and fill 1003h; no emergency goes before they leave stopped

lost_while_stopped : first_answered (monitoring 0) (heard ∷ stop ∷ ticks 3 ++ enter_pre_operational ∷ [])
    ≡ [] ∷ [] ∷ [] ∷ [] ∷ [] ∷ (emcy 0x3081_1100_0000_0000 ∷ []) ∷ []
unfolding searches
lost_while_stopped = refl

error_while_stopped : number_after (monitoring 0) (heard ∷ stop ∷ ticks 3) 0x1003 1 ≡ 0x8130
unfolding searches
error_while_stopped = refl

-- ---- a loss that stops the node in a tick in which an SDO transfer's time is over: the abort goes, no emergency, and the
-- heartbeat says stopped

abbrev stopping : Constants
stopping = record (device_with (u32 Rw 0x1016 1 0x0007_0003 ∷ u8 Rw 0x1029 1 2 ∷ u16 Rw 0x1017 0 3 ∷ u8 Rw 0x1800 2 254 ∷ u16 Rw 0x1800 5 3 ∷ [])) { time = 3 }

loss_with_time_out : first_answered stopping (start ∷ heard ∷ request 0x2101_2000_0A00_0000 ∷ ticks 3)
    ≡ [] ∷ [] ∷ (response 0x6001_2000_0000_0000 ∷ []) ∷ [] ∷ [] ∷ (response 0x8001_2000_0000_0405 ∷ frame 0x705 1 4 ∷ []) ∷ []
unfolding searches
loss_with_time_out = refl

-- a loss that stops the node drops the transfers that are open
dropped_by_loss : first_answered (monitoring 2) (heard ∷ request 0x2101_2000_0A00_0000 ∷ ticks 3 ++ start ∷ request 0x0030_3132_3334_3536 ∷ [])
    ≡ [] ∷ (response 0x6001_2000_0000_0000 ∷ []) ∷ [] ∷ [] ∷ [] ∷ (emcy 0x3081_1100_0000_0000 ∷ []) ∷ (response 0x8000_0000_0100_0405 ∷ []) ∷ []
unfolding searches
dropped_by_loss = refl
