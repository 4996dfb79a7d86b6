-- Errors, and the emergencies that they queue, computed from the definitions.
use Rattle.std.proofs.Common.{◌≡◌, List, [], ◌∷◌, ◌++◌, refl}
use Rattle.co_node_model.specs.Inputs.{InputView, Ticked, Applied, Raised, Cleared}
use Rattle.co_profile.specs.declared.access.Access.TheVariants.{Rw}
use Rattle.co_node_model.specs.Moments.{Constants}
use Rattle.co_node_model.proofs.ExampleNode.{device, device_with, u8, u16, u32, frame, came, request, response, emcy, start, stop, reset_communication, sync, raise, ticks, first_answered, number_after, searches}

-- ---- after one error: 1003:00 is cleared by 0 alone

abbrev one_error : List InputView
one_error = came 0x080 1 1 ∷ []

cleared_by_0_alone : first_answered device (one_error ++ request 0x2F03_1000_0100_0000 ∷ request 0x2F03_1000_0000_0000 ∷ request 0x4003_1001_0000_0000 ∷ [])
    ≡ (emcy 0x4082_1100_0000_0000 ∷ []) ∷ (response 0x8003_1000_3000_0906 ∷ []) ∷ (response 0x6003_1000_0000_0000 ∷ []) ∷ (response 0x8003_1001_2400_0008 ∷ []) ∷ []
unfolding searches
cleared_by_0_alone = refl

-- a reset gives the boot-up alone, and 1003h and the error register are as after build
reset_after_error : first_answered device (one_error ++ came 0 2 0x8105 ∷ request 0x4001_1000_0000_0000 ∷ [])
    ≡ (emcy 0x4082_1100_0000_0000 ∷ []) ∷ (frame 0x705 1 0 ∷ []) ∷ (response 0x4F01_1000_0000_0000 ∷ []) ∷ []
unfolding searches
reset_after_error = refl

errors_after_reset : number_after device (one_error ++ reset_communication ∷ []) 0x1003 0 ≡ 0
unfolding searches
errors_after_reset = refl

-- ---- raised by the application: the register gets bit 0 too; of three, 1003h has room for two

register_bits : number_after device (Applied (Raised 0x1000 0x08 (1 ∷ 2 ∷ 3 ∷ 4 ∷ 5 ∷ [])) ∷ []) 0x1001 0 ≡ 0x09
unfolding searches
register_bits = refl

of_the_application : first_answered device (Applied (Raised 0x1000 0x08 (1 ∷ 2 ∷ 3 ∷ 4 ∷ 5 ∷ [])) ∷ []) ≡ (emcy 0x0010_0901_0203_0405 ∷ []) ∷ []
unfolding searches
of_the_application = refl

room_for_two : number_after device (raise 0x1001 ∷ raise 0x1002 ∷ raise 0x1003 ∷ []) 0x1003 0 ≡ 2
unfolding searches
room_for_two = refl

newest_first : number_after device (raise 0x1001 ∷ raise 0x1002 ∷ raise 0x1003 ∷ []) 0x1003 1 ≡ 0x1003
unfolding searches
newest_first = refl

older_second : number_after device (raise 0x1001 ∷ raise 0x1002 ∷ raise 0x1003 ∷ []) 0x1003 2 ≡ 0x1002
unfolding searches
older_second = refl

-- clearing queues an emergency with what is left of the register, and enters nothing into 1003h
cleared : first_answered device (Applied (Raised 0x1000 0x08 (1 ∷ 2 ∷ 3 ∷ 4 ∷ 5 ∷ [])) ∷ Applied (Cleared 0x01) ∷ Applied (Cleared 0xFF) ∷ [])
    ≡ (emcy 0x0010_0901_0203_0405 ∷ []) ∷ (emcy 0x0000_0800_0000_0000 ∷ []) ∷ (emcy 0x0000_0000_0000_0000 ∷ []) ∷ []
unfolding searches
cleared = refl

nothing_entered : number_after device (raise 0x1001 ∷ Applied (Cleared 0x01) ∷ []) 0x1003 0 ≡ 1
unfolding searches
nothing_entered = refl

-- code 0 is refused and changes nothing
code_0 : first_answered device (raise 0 ∷ Ticked ∷ []) ≡ [] ∷ [] ∷ []
unfolding searches
code_0 = refl

-- ---- the inhibit time, 2.1 ms rounded up: ten errors, of which the first goes at once, a ninth that waits overwrites the
-- oldest, and the next goes at the third tick

abbrev inhibited : Constants
inhibited = device_with (u16 Rw 0x1015 0 21 ∷ [])

ten_errors : first_answered inhibited
    (raise 0x1001 ∷ raise 0x1002 ∷ raise 0x1003 ∷ raise 0x1004 ∷ raise 0x1005 ∷ raise 0x1006 ∷ raise 0x1007 ∷ raise 0x1008 ∷ raise 0x1009 ∷ raise 0x100A ∷ ticks 4)
    ≡ (emcy 0x0110_0100_0000_0000 ∷ []) ∷ [] ∷ [] ∷ [] ∷ [] ∷ [] ∷ [] ∷ [] ∷ [] ∷ [] ∷ [] ∷ [] ∷ (emcy 0x0310_0100_0000_0000 ∷ []) ∷ [] ∷ []
unfolding searches
ten_errors = refl

-- it counts as it stood at the sending
inhibit_as_sent : first_answered inhibited (raise 0x1001 ∷ raise 0x1002 ∷ request 0x2B15_1000_0000_0000 ∷ ticks 3)
    ≡ (emcy 0x0110_0100_0000_0000 ∷ []) ∷ [] ∷ (response 0x6015_1000_0000_0000 ∷ []) ∷ [] ∷ [] ∷ (emcy 0x0210_0100_0000_0000 ∷ []) ∷ []
unfolding searches
inhibit_as_sent = refl

-- also where it was written by the input that sends: the second goes with the response, the third 1 ms later
inhibit_written : first_answered device
    (stop ∷ raise 0x1001 ∷ raise 0x1002 ∷ raise 0x1003 ∷ start ∷ request 0x2B15_1000_0A00_0000 ∷ came 0x123 0 0 ∷ Ticked ∷ [])
    ≡ [] ∷ [] ∷ [] ∷ [] ∷ (emcy 0x0110_0100_0000_0000 ∷ []) ∷ (response 0x6015_1000_0000_0000 ∷ emcy 0x0210_0100_0000_0000 ∷ []) ∷ [] ∷ (emcy 0x0310_0100_0000_0000 ∷ []) ∷ []
unfolding searches
inhibit_written = refl

-- and a reset ends it
inhibit_after_reset : first_answered inhibited (raise 0x1001 ∷ raise 0x1002 ∷ reset_communication ∷ raise 0x1003 ∷ [])
    ≡ (emcy 0x0110_0100_0000_0000 ∷ []) ∷ [] ∷ (frame 0x705 1 0 ∷ []) ∷ (emcy 0x0310_0100_0000_0000 ∷ []) ∷ []
unfolding searches
inhibit_after_reset = refl

-- ---- what waits goes at the end of any input: after an answer of SDO, an ignored frame, a command for another node, a
-- refused event; its bytes are those queued

after_an_answer : first_answered device (stop ∷ raise 0x1001 ∷ raise 0x1002 ∷ start ∷ request 0x4001_1000_0000_0000 ∷ [])
    ≡ [] ∷ [] ∷ [] ∷ (emcy 0x0110_0100_0000_0000 ∷ []) ∷ (response 0x4F01_1000_0100_0000 ∷ emcy 0x0210_0100_0000_0000 ∷ []) ∷ []
unfolding searches
after_an_answer = refl

after_ignored_inputs : first_answered device
    (stop ∷ raise 0x1001 ∷ raise 0x1002 ∷ raise 0x1003 ∷ raise 0x1004 ∷ start ∷ came 0x123 0 0 ∷ came 0 2 0x0207 ∷ raise 0 ∷ [])
    ≡ [] ∷ [] ∷ [] ∷ [] ∷ [] ∷ (emcy 0x0110_0100_0000_0000 ∷ []) ∷ (emcy 0x0210_0100_0000_0000 ∷ []) ∷ (emcy 0x0310_0100_0000_0000 ∷ []) ∷ (emcy 0x0410_0100_0000_0000 ∷ []) ∷ []
unfolding searches
after_ignored_inputs = refl

bytes_as_queued : first_answered device (stop ∷ raise 0x1001 ∷ Applied (Cleared 0xFF) ∷ start ∷ [])
    ≡ [] ∷ [] ∷ [] ∷ (emcy 0x0110_0100_0000_0000 ∷ []) ∷ []
unfolding searches
bytes_as_queued = refl

-- 1014h with bit 31, or 0, keeps it back; a write that makes it valid sends it at once, on the new identifier
identifier_written : first_answered (device_with (u32 Rw 0x1014 0 0x8000_0085 ∷ [])) (raise 0x1001 ∷ request 0x2314_1000_8600_0000 ∷ [])
    ≡ [] ∷ (response 0x6014_1000_0000_0000 ∷ frame 0x086 8 0x0110_0100_0000_0000 ∷ []) ∷ []
unfolding searches
identifier_written = refl

no_identifier : first_answered (device_with (u32 Rw 0x1014 0 0 ∷ [])) (raise 0x1001 ∷ Ticked ∷ []) ≡ [] ∷ [] ∷ []
unfolding searches
no_identifier = refl

-- ---- SYNC: one of an unexpected length is an error, also in pre-operational, and none while stopped

sync_while_stopped : first_answered device (stop ∷ came 0x080 1 1 ∷ start ∷ []) ≡ [] ∷ [] ∷ [] ∷ []
unfolding searches
sync_while_stopped = refl

-- with 1019h a SYNC has one byte
sync_with_counter : first_answered (device_with (u8 Rw 0x1019 0 2 ∷ [])) (came 0x080 1 1 ∷ sync ∷ came 0x080 2 0x0101 ∷ [])
    ≡ [] ∷ (emcy 0x4082_1100_0000_0000 ∷ []) ∷ (emcy 0x4082_1100_0000_0000 ∷ []) ∷ []
unfolding searches
sync_with_counter = refl

-- the identifier of 1005h counts, whatever bit 31 is; 0 is none
sync_with_bit_31 : first_answered (device_with (u32 Rw 0x1005 0 0x8000_0090 ∷ [])) (came 0x080 1 1 ∷ came 0x090 1 1 ∷ []) ≡ [] ∷ (emcy 0x4082_1100_0000_0000 ∷ []) ∷ []
unfolding searches
sync_with_bit_31 = refl

no_sync : first_answered (device_with (u32 Rw 0x1005 0 0 ∷ [])) (came 0x080 1 1 ∷ []) ≡ [] ∷ []
unfolding searches
no_sync = refl
