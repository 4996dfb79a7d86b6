-- Application events, and how many frames an input prescribes, computed from the definitions.
use Rattle.std.proofs.Common.{◌≡◌, ℕ, List, [], ◌∷◌, ◌++◌, length, refl}
use Rattle.std.proofs.Math.ListN.{replicate}
use Rattle.co_node_model.specs.Inputs.{InputView, Ticked, Applied, Written, ChangedAt, Cleared}
use Rattle.co_profile.specs.declared.access.Access.TheVariants.{Rw}
use Rattle.co_dict.proofs.ExampleDevice.{at}
use Rattle.co_node_model.specs.Moments.{Constants}
use Rattle.co_node_model.specs.Device.{after_all, app_after, prescribed, frame_bound}
use Rattle.co_node_model.specs.declared.app_answer.AppAnswer.{AppAnswer}
use Rattle.co_node_model.specs.declared.app_answer.AppAnswer.TheVariants.{None as AppNone, Done, Refused}
use Rattle.co_node_model.proofs.ExampleNode.{device, device_with, u16, u32, frame, came, request, response, emcy, start, stop, sync, raise, event, ticks, answered, first_answered, number_after, searches}

-- the answer to the last of some inputs
abbrev answer_after : Constants → List InputView → AppAnswer
answer_after k more = app_after k (after_all [] more)

-- refused with an abort code
abbrev refused : ℕ → AppAnswer
refused code = Refused (record { 0 = code })

none_yet : answer_after device [] ≡ AppNone
none_yet = refl

-- frames and ticks have no answer
after_a_frame : answer_after device (event 0 ∷ sync ∷ []) ≡ AppNone
unfolding searches
after_a_frame = refl

after_a_tick : answer_after device (event 0 ∷ Ticked ∷ []) ≡ AppNone
unfolding searches
after_a_tick = refl

-- ---- events on TPDOs: also outside operational, and where the TPDO isn't active

event_done : answer_after device (event 1 ∷ []) ≡ Done
unfolding searches
event_done = refl

event_on_inactive : answer_after (device_with (u32 Rw 0x1800 1 0x8000_0185 ∷ [])) (event 0 ∷ []) ≡ Done
unfolding searches
event_on_inactive = refl

no_such_tpdo : answer_after device (event 2 ∷ []) ≡ refused 0x0602_0000
unfolding searches
no_such_tpdo = refl

-- 1800h + 512 is 1A00h, whose sub-index 1 is there, and no TPDO
past_the_last_tpdo : answer_after device (event 512 ∷ []) ≡ refused 0x0602_0000
unfolding searches
past_the_last_tpdo = refl

-- ---- changes

changed_done : answer_after device (Applied (ChangedAt (at 0x2001 0)) ∷ []) ≡ Done
unfolding searches
changed_done = refl

no_such_object : answer_after device (Applied (ChangedAt (at 0x2999 0)) ∷ []) ≡ refused 0x0602_0000
unfolding searches
no_such_object = refl

no_such_sub_index : answer_after device (Applied (ChangedAt (at 0x2001 1)) ∷ []) ≡ refused 0x0609_0011
unfolding searches
no_such_sub_index = refl

-- ---- errors

raise_done : answer_after device (raise 1 ∷ []) ≡ Done
unfolding searches
raise_done = refl

raise_0 : answer_after device (raise 0 ∷ []) ≡ refused 0x0609_0030
unfolding searches
raise_0 = refl

-- clearing is never refused, and always queues
clear_done : answer_after device (Applied (Cleared 0) ∷ []) ≡ Done
unfolding searches
clear_done = refl

clear_queues : first_answered device (Applied (Cleared 0) ∷ []) ≡ (emcy 0 ∷ []) ∷ []
unfolding searches
clear_queues = refl

-- ---- writes

-- a client may only read the error register
write_read_only : answer_after device (Applied (Written (at 0x1001 0) (3 ∷ [])) ∷ []) ≡ Done
unfolding searches
write_read_only = refl

written_read_only : number_after device (Applied (Written (at 0x1001 0) (3 ∷ [])) ∷ []) 0x1001 0 ≡ 3
unfolding searches
written_read_only = refl

-- no SDO server parameter
write_sdo_parameter : answer_after device (Applied (Written (at 0x1201 1) (0x80 ∷ 6 ∷ 0 ∷ 0 ∷ [])) ∷ []) ≡ refused 0x0601_0002
unfolding searches
write_sdo_parameter = refl

write_too_long : answer_after device (Applied (Written (at 0x2002 0) (1 ∷ 2 ∷ 3 ∷ 4 ∷ 5 ∷ [])) ∷ []) ≡ refused 0x0607_0012
unfolding searches
write_too_long = refl

write_outside_limits : answer_after device (Applied (Written (at 0x2003 0) (0xE9 ∷ 3 ∷ [])) ∷ []) ≡ refused 0x0609_0031
unfolding searches
write_outside_limits = refl

nothing_written : number_after device (Applied (Written (at 0x2003 0) (0xE9 ∷ 3 ∷ [])) ∷ []) 0x2003 0 ≡ 0
unfolding searches
nothing_written = refl

-- a write of the heartbeat time counts as one by SDO, also of the same time
heartbeat_time : first_answered (device_with (u16 Rw 0x1017 0 2 ∷ [])) (Ticked ∷ Applied (Written (at 0x1017 0) (2 ∷ 0 ∷ [])) ∷ ticks 2)
    ≡ [] ∷ [] ∷ [] ∷ (frame 0x705 1 0x7F ∷ []) ∷ []
unfolding searches
heartbeat_time = refl

-- one that is refused doesn't
heartbeat_time_refused : first_answered (device_with (u16 Rw 0x1017 0 2 ∷ [])) (Ticked ∷ Applied (Written (at 0x1017 0) (2 ∷ [])) ∷ ticks 2)
    ≡ [] ∷ [] ∷ (frame 0x705 1 0x7F ∷ []) ∷ [] ∷ []
unfolding searches
heartbeat_time_refused = refl

-- ---- the greatest numbers of frames

-- an object of 889 bytes, and two emergencies that wait while the node is stopped
abbrev waiting : List InputView
waiting = Applied (Written (at 0x2100 0) (replicate 889 0)) ∷ stop ∷ raise 0x1000 ∷ raise 0x1000 ∷ raise 0x1000 ∷ []

waiting_goes : answered device (after_all [] waiting) (start ∷ request 0xA000_2100_7F00_0000 ∷ [])
    ≡ (emcy 0x0010_0100_0000_0000 ∷ []) ∷ (response 0xC200_2100_7903_0000 ∷ emcy 0x0010_0100_0000_0000 ∷ []) ∷ []
unfolding searches
waiting_goes = refl

-- 127 segments and an emergency
most_by_sdo : length (prescribed device (after_all [] (waiting ++ start ∷ request 0xA000_2100_7F00_0000 ∷ [])) (request 0xA300_0000_0000_0000)) ≡ 128
unfolding searches
most_by_sdo = refl

bound_of_sdo : frame_bound device [] (request 0) ≡ 128
unfolding searches
bound_of_sdo = refl

bound_of_channel_1 : frame_bound device [] (came 0x680 0 0) ≡ 128
unfolding searches
bound_of_channel_1 = refl

bound_of_nmt : frame_bound device [] start ≡ 1
unfolding searches
bound_of_nmt = refl

-- two TPDOs
bound_of_sync : frame_bound device [] sync ≡ 3
unfolding searches
bound_of_sync = refl

bound_of_tick : frame_bound device [] Ticked ≡ 4
unfolding searches
bound_of_tick = refl

bound_of_event : frame_bound device [] (event 0) ≡ 3
unfolding searches
bound_of_event = refl

bound_of_rpdo : frame_bound device [] (came 0x205 0 0) ≡ 1
unfolding searches
bound_of_rpdo = refl

bound_of_heartbeat : frame_bound device [] (came 0x707 0 0) ≡ 1
unfolding searches
bound_of_heartbeat = refl

bound_of_nobody : frame_bound device [] (came 0x123 0 0) ≡ 1
unfolding searches
bound_of_nobody = refl
