-- Inputs at the edges of what a device looks at, computed from the definitions.
use Rattle.std.proofs.Common.{◌≡◌, ℕ, true, None, [], ◌∷◌, refl}
use Rattle.std.specs.Prelude.{List, negsuc, pos, ◌==◌, if◌then◌else◌}
use Rattle.co_value.specs.declared.data_type.DataType.TheVariants.{Integer16}
use Rattle.co_profile.specs.declared.access.Access.TheVariants.{Rw, Constant}
use Rattle.co_dict.specs.Rows.{Rows}
use Rattle.co_dict.proofs.ExampleDevice.{at, number_row}
use Rattle.co_node_parts.specs.declared.nmt_state.NodeState.TheVariants.{PreOperational}
use Rattle.co_node_model.specs.Inputs.{InputView, Ticked, Applied, Written, ChangedAt}
use Rattle.co_node_model.specs.declared.app_answer.AppAnswer.{AppAnswer}
use Rattle.co_node_model.specs.declared.app_answer.AppAnswer.TheVariants.{Done, Refused}
use Rattle.co_node_model.specs.Moments.{Constants}
use Rattle.co_node_model.specs.Device.{after_all, app_after}
use Rattle.co_node_model.proofs.ExampleNode.{device, device_with, u8, u16, u32, frame, came, request, response, emcy, start, stop, reset_communication, sync, raise, ticks, first_answered, number_after, state_after, searches}

-- a write of the application
abbrev write : ℕ → ℕ → List ℕ → InputView
write index sub bytes = Applied (Written (at index sub) bytes)

-- the answer to the last of some inputs
abbrev answer_after : Constants → List InputView → AppAnswer
answer_after k more = app_after k (after_all [] more)

abbrev refused : ℕ → AppAnswer
refused code = Refused (record { 0 = code })

-- ---- NMT: no command has no, one or three bytes, another command specifier, or a node-ID above 127

no_commands : state_after device (came 0 0 0 ∷ came 0 1 0x01 ∷ came 0 3 0x0105_00 ∷ came 0 2 0x0305 ∷ came 0 2 0x0185 ∷ []) ≡ PreOperational
unfolding searches
no_commands = refl

no_reset : first_answered device (came 0 1 0x81 ∷ came 0 3 0x8105_00 ∷ came 0 2 0x8305 ∷ []) ≡ [] ∷ [] ∷ [] ∷ []
unfolding searches
no_reset = refl

-- stop in stopped changes nothing: the heartbeat goes on
stop_in_stopped : first_answered (device_with (u16 Rw 0x1017 0 2 ∷ [])) (stop ∷ Ticked ∷ stop ∷ Ticked ∷ [])
    ≡ [] ∷ [] ∷ [] ∷ (frame 0x705 1 4 ∷ []) ∷ []
unfolding searches
stop_in_stopped = refl

-- ---- emergencies

-- a reset drops those that wait
dropped_by_reset : first_answered device (stop ∷ raise 0x1001 ∷ raise 0x1002 ∷ reset_communication ∷ Ticked ∷ [])
    ≡ [] ∷ [] ∷ [] ∷ (frame 0x705 1 0 ∷ []) ∷ [] ∷ []
unfolding searches
dropped_by_reset = refl

-- one that waits goes after the abort of a request that is refused
after_an_abort : first_answered device (stop ∷ raise 0x1001 ∷ raise 0x1002 ∷ start ∷ request 0x4000_3000_0000_0000 ∷ [])
    ≡ [] ∷ [] ∷ [] ∷ (emcy 0x0110_0100_0000_0000 ∷ [])
    ∷ (response 0x8000_3000_0000_0206 ∷ emcy 0x0210_0100_0000_0000 ∷ []) ∷ []
unfolding searches
after_an_abort = refl

-- without 1003h an error is sent, and in the error register
abbrev rows_without : ℕ → Rows → Rows
rows_without index rows key = if key.index == index then None else rows key

abbrev without_list : Constants
without_list = record device { description = record device.description { rows = rows_without 0x1003 device.description.rows } }

sent_without_list : first_answered without_list (raise 0x1001 ∷ request 0x4003_1000_0000_0000 ∷ [])
    ≡ (emcy 0x0110_0100_0000_0000 ∷ []) ∷ (response 0x8003_1000_0000_0206 ∷ []) ∷ []
unfolding searches
sent_without_list = refl

register_without_list : number_after without_list (raise 0x1001 ∷ []) 0x1001 0 ≡ 1
unfolding searches
register_without_list = refl

-- the application clears the list by 0, and by nothing else
list_cleared : answer_after device (raise 0x1001 ∷ write 0x1003 0 (0 ∷ []) ∷ []) ≡ Done
unfolding searches
list_cleared = refl

none_after_clearing : number_after device (raise 0x1001 ∷ write 0x1003 0 (0 ∷ []) ∷ []) 0x1003 0 ≡ 0
unfolding searches
none_after_clearing = refl

list_not_cleared : answer_after device (raise 0x1001 ∷ write 0x1003 0 (1 ∷ []) ∷ []) ≡ refused 0x0609_0030
unfolding searches
list_not_cleared = refl

-- ---- a loss in the tick of a TPDO's event timer: where it leaves operational the TPDO isn't sent

abbrev losing : ℕ → Constants
losing reaction = device_with (u32 Rw 0x1016 1 0x0007_0002 ∷ u8 Rw 0x1029 1 reaction ∷ u16 Rw 0x1800 5 2 ∷ [])

loss_without_tpdo : first_answered (losing 0) (start ∷ came 0x707 1 5 ∷ ticks 2)
    ≡ [] ∷ [] ∷ [] ∷ (emcy 0x3081_1100_0000_0000 ∷ []) ∷ []
unfolding searches
loss_without_tpdo = refl

loss_with_tpdo : first_answered (losing 1) (start ∷ came 0x707 1 5 ∷ ticks 2)
    ≡ [] ∷ [] ∷ [] ∷ (emcy 0x3081_1100_0000_0000 ∷ frame 0x185 4 0 ∷ []) ∷ []
unfolding searches
loss_with_tpdo = refl

-- ---- RPDOs

abbrev rpdo : ℕ → Constants
rpdo kind = device_with (u8 Rw 0x1400 2 kind ∷ [])

-- with a reserved type, which a data sheet may give, an RPDO isn't active: a short frame is no error
reserved : first_answered (rpdo 241) (start ∷ came 0x205 3 0x0102_03 ∷ came 0x205 4 0x0102_0304 ∷ sync ∷ [])
    ≡ [] ∷ [] ∷ [] ∷ [] ∷ []
unfolding searches
reserved = refl

nothing_at_241 : number_after (rpdo 241) (start ∷ came 0x205 4 0x0102_0304 ∷ sync ∷ []) 0x2002 0 ≡ 0
unfolding searches
nothing_at_241 = refl

nothing_at_253 : number_after (rpdo 253) (start ∷ came 0x205 4 0x0102_0304 ∷ sync ∷ []) 0x2002 0 ≡ 0
unfolding searches
nothing_at_253 = refl

reserved_types : first_answered device
    (request 0x2F00_1402_F000_0000 ∷ request 0x2F00_1402_F100_0000 ∷ request 0x2F00_1402_FD00_0000 ∷ request 0x2F00_1402_FE00_0000 ∷ [])
    ≡ (response 0x6000_1402_0000_0000 ∷ []) ∷ (response 0x8000_1402_3000_0906 ∷ []) ∷ (response 0x8000_1402_3000_0906 ∷ [])
    ∷ (response 0x6000_1402_0000_0000 ∷ []) ∷ []
unfolding searches
reserved_types = refl

-- of a frame that is too long the first bytes wait, and take effect at the SYNC
long_waits : number_after (rpdo 1) (start ∷ came 0x205 5 0x0102_0304_05 ∷ []) 0x2002 0 ≡ 0
unfolding searches
long_waits = refl

long_takes_effect : number_after (rpdo 1) (start ∷ came 0x205 5 0x0102_0304_05 ∷ sync ∷ []) 0x2002 0 ≡ 0x0403_0201
unfolding searches
long_takes_effect = refl

-- ---- a value below its low limit: 2005:00 is from -10 to 10, and RPDO 0 maps it

abbrev limited : Constants
limited = device_with (record { key = at 0x2005 0; row = record (number_row Integer16 Rw true) { low = negsuc 9; high = pos 10 }; bytes = 0 ∷ 0 ∷ [] }
    ∷ u32 Rw 0x1600 1 0x2005_0010 ∷ [])

below_by_sdo : first_answered limited (request 0x2B05_2000_F5FF_0000 ∷ request 0x2B05_2000_F6FF_0000 ∷ [])
    ≡ (response 0x8005_2000_3200_0906 ∷ []) ∷ (response 0x6005_2000_0000_0000 ∷ []) ∷ []
unfolding searches
below_by_sdo = refl

below_by_application : answer_after limited (write 0x2005 0 (0xF5 ∷ 0xFF ∷ []) ∷ []) ≡ refused 0x0609_0032
unfolding searches
below_by_application = refl

below_by_rpdo : first_answered limited (start ∷ came 0x205 2 0xF5FF ∷ request 0x4005_2000_0000_0000 ∷ came 0x205 2 0xF6FF ∷ request 0x4005_2000_0000_0000 ∷ [])
    ≡ [] ∷ (emcy 0x0082_1100_0000_0000 ∷ []) ∷ (response 0x4B05_2000_0000_0000 ∷ []) ∷ [] ∷ (response 0x4B05_2000_F6FF_0000 ∷ []) ∷ []
unfolding searches
below_by_rpdo = refl

-- ---- changes

abbrev changed : ℕ → InputView
changed index = Applied (ChangedAt (at index 0))

-- of an entry that a TPDO of type 0 maps: it goes at the next SYNC
changed_at_type_0 : first_answered (device_with (u8 Rw 0x1800 2 0 ∷ [])) (start ∷ changed 0x2002 ∷ sync ∷ sync ∷ [])
    ≡ [] ∷ [] ∷ (frame 0x185 4 0 ∷ []) ∷ [] ∷ []
unfolding searches
changed_at_type_0 = refl

-- of an entry that a TPDO maps twice: it goes once
mapped_twice : first_answered (device_with (u8 Rw 0x1A00 0 2 ∷ u32 Rw 0x1A00 2 0x2002_0020 ∷ [])) (start ∷ changed 0x2002 ∷ Ticked ∷ [])
    ≡ [] ∷ (frame 0x185 8 0 ∷ []) ∷ [] ∷ []
unfolding searches
mapped_twice = refl

-- ---- writes of the application to a TPDO: its type counts SYNCs anew, its event timer begins anew

abbrev tpdo : ℕ → ℕ → Constants
tpdo kind timer = device_with (u8 Rw 0x1800 2 kind ∷ u16 Rw 0x1800 5 timer ∷ [])

type_written : first_answered (tpdo 2 0) (start ∷ sync ∷ write 0x1800 2 (2 ∷ []) ∷ sync ∷ sync ∷ [])
    ≡ [] ∷ [] ∷ [] ∷ [] ∷ (frame 0x185 4 0 ∷ []) ∷ []
unfolding searches
type_written = refl

timer_written : first_answered (tpdo 254 2) (start ∷ Ticked ∷ write 0x1800 5 (2 ∷ 0 ∷ []) ∷ ticks 2)
    ≡ [] ∷ [] ∷ [] ∷ [] ∷ (frame 0x185 4 0 ∷ []) ∷ []
unfolding searches
timer_written = refl

-- those that are refused change neither

type_refused : first_answered (tpdo 2 0) (start ∷ sync ∷ write 0x1800 2 (252 ∷ []) ∷ sync ∷ [])
    ≡ [] ∷ [] ∷ [] ∷ (frame 0x185 4 0 ∷ []) ∷ []
unfolding searches
type_refused = refl

timer_refused : first_answered (tpdo 254 2) (start ∷ Ticked ∷ write 0x1800 5 (2 ∷ []) ∷ Ticked ∷ [])
    ≡ [] ∷ [] ∷ [] ∷ (frame 0x185 4 0 ∷ []) ∷ []
unfolding searches
timer_refused = refl

why_type_refused : answer_after device (write 0x1800 2 (252 ∷ []) ∷ []) ≡ refused 0x0609_0030
unfolding searches
why_type_refused = refl

too_short : answer_after device (write 0x1800 5 (2 ∷ []) ∷ []) ≡ refused 0x0607_0013
unfolding searches
too_short = refl

-- the inhibit time of a TPDO that is valid
while_valid : answer_after device (write 0x1800 3 (1 ∷ 0 ∷ []) ∷ []) ≡ refused 0x0800_0022
unfolding searches
while_valid = refl

-- an entry with access const
of_const : answer_after (device_with (u8 Constant 0x2006 0 1 ∷ [])) (write 0x2006 0 (2 ∷ []) ∷ []) ≡ refused 0x0601_0002
unfolding searches
of_const = refl
