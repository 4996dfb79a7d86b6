-- RPDOs, and what their data do, computed from the definitions.
use Rattle.std.proofs.Common.{◌≡◌, ℕ, List, [], ◌∷◌, ◌++◌, refl}
use Rattle.co_node_model.specs.Inputs.{InputView, Ticked, Applied, Written}
use Rattle.co_profile.specs.declared.access.Access.TheVariants.{Rw}
use Rattle.co_dict.proofs.ExampleDevice.{at}
use Rattle.co_node_model.specs.Moments.{Constants}
use Rattle.co_node_model.specs.Device.{after_all}
use Rattle.co_node_model.proofs.ExampleNode.{device, device_with, u8, u32, frame, came, request, response, emcy, start, enter_pre_operational, sync, answered, first_answered, number_after, searches}

-- RPDO 0, which maps the four bytes of 2002:00, with a transmission type
abbrev rpdo : ℕ → Constants
rpdo kind = device_with (u8 Rw 0x1400 2 kind ∷ [])

-- ---- types 254 and 255 take effect at once

at_once : number_after (rpdo 254) (start ∷ came 0x205 4 0x0102_0304 ∷ []) 0x2002 0 ≡ 0x0403_0201
unfolding searches
at_once = refl

in_operational_alone : number_after (rpdo 255) (came 0x205 4 0x0102_0304 ∷ []) 0x2002 0 ≡ 0
unfolding searches
in_operational_alone = refl

-- too short: an error, and nothing is written
short : first_answered device (start ∷ came 0x205 3 0x0102_03 ∷ request 0x4003_1001_0000_0000 ∷ [])
    ≡ [] ∷ (emcy 0x1082_1100_0000_0000 ∷ []) ∷ (response 0x4303_1001_1082_0000 ∷ []) ∷ []
unfolding searches
short = refl

nothing_of_short_data : number_after device (start ∷ came 0x205 3 0x0102_03 ∷ []) 0x2002 0 ≡ 0
unfolding searches
nothing_of_short_data = refl

-- longer: an error, and the first bytes count
long : first_answered device (start ∷ came 0x205 5 0x0102_0304_05 ∷ []) ≡ [] ∷ (emcy 0x2082_1100_0000_0000 ∷ []) ∷ []
unfolding searches
long = refl

first_bytes : number_after device (start ∷ came 0x205 5 0x0102_0304_05 ∷ []) 0x2002 0 ≡ 0x0403_0201
unfolding searches
first_bytes = refl

-- ---- remapping

valid : first_answered device (request 0x2F00_1600_0000_0000 ∷ []) ≡ (response 0x8000_1600_2200_0008 ∷ []) ∷ []
unfolding searches
valid = refl

-- 1400:01 gets bit 31, 1600:00 is 0, 1600:01 is 2003:00, 1600:00 is 1, and 1400:01 is 205h again
abbrev remapped : List InputView
remapped = request 0x2300_1401_0502_0080 ∷ request 0x2F00_1600_0000_0000 ∷ request 0x2300_1601_1000_0320
    ∷ request 0x2F00_1600_0100_0000 ∷ request 0x2300_1401_0502_0000 ∷ start ∷ []

confirmed : first_answered device remapped
    ≡ (response 0x6000_1401_0000_0000 ∷ []) ∷ (response 0x6000_1600_0000_0000 ∷ []) ∷ (response 0x6000_1601_0000_0000 ∷ [])
    ∷ (response 0x6000_1600_0000_0000 ∷ []) ∷ (response 0x6000_1401_0000_0000 ∷ []) ∷ [] ∷ []
unfolding searches
confirmed = refl

mapped_anew : number_after device (remapped ++ came 0x205 2 0x0500 ∷ []) 0x2003 0 ≡ 5
unfolding searches
mapped_anew = refl

-- 1001 is above the high limit: an error, and nothing is written
outside_limits : answered device (after_all [] remapped) (came 0x205 2 0x0500 ∷ came 0x205 2 0xE903 ∷ [])
    ≡ [] ∷ (emcy 0x0082_1100_0000_0000 ∷ []) ∷ []
unfolding searches
outside_limits = refl

nothing_outside_limits : number_after device (remapped ++ came 0x205 2 0x0500 ∷ came 0x205 2 0xE903 ∷ []) 0x2003 0 ≡ 5
unfolding searches
nothing_outside_limits = refl

-- longer, and outside its limits: two errors, the one of the length first
long_and_outside : answered device (after_all [] remapped) (came 0x205 3 0xE903_00 ∷ Ticked ∷ [])
    ≡ (emcy 0x2082_1100_0000_0000 ∷ []) ∷ (emcy 0x0082_1100_0000_0000 ∷ []) ∷ []
unfolding searches
long_and_outside = refl

reserved_type : first_answered device (request 0x2F00_1802_FC00_0000 ∷ []) ≡ (response 0x8000_1802_3000_0906 ∷ []) ∷ []
unfolding searches
reserved_type = refl

-- ---- types 0 to 240 take effect at the next SYNC

waits : number_after (rpdo 1) (start ∷ came 0x205 4 0x0102_0304 ∷ []) 0x2002 0 ≡ 0
unfolding searches
waits = refl

-- a short one after it is dropped and leaves it
at_the_sync : first_answered (device_with (u8 Rw 0x1400 2 1 ∷ u8 Rw 0x1800 2 1 ∷ [])) (start ∷ came 0x205 4 0x0102_0304 ∷ came 0x205 3 0x0102_03 ∷ sync ∷ [])
    ≡ [] ∷ [] ∷ (emcy 0x1082_1100_0000_0000 ∷ []) ∷ (frame 0x185 4 0x0102_0304 ∷ []) ∷ []
unfolding searches
at_the_sync = refl

the_last_counts : number_after (rpdo 240) (start ∷ came 0x205 4 0x0102_0304 ∷ came 0x205 4 0x0500_0000 ∷ sync ∷ []) 0x2002 0 ≡ 5
unfolding searches
the_last_counts = refl

-- type 0 too, and at one SYNC alone
once : number_after (rpdo 0) (start ∷ came 0x205 4 0x0500_0000 ∷ sync ∷ Applied (Written (at 0x2002 0) (7 ∷ 0 ∷ 0 ∷ 0 ∷ [])) ∷ sync ∷ []) 0x2002 0 ≡ 7
unfolding searches
once = refl

-- a SYNC of an unexpected length counts; its error comes before those of the values
errors_at_the_sync : answered (device_with (u8 Rw 0x1400 2 1 ∷ u32 Rw 0x1600 1 0x2003_0010 ∷ [])) [] (start ∷ came 0x205 2 0xE903 ∷ came 0x080 1 1 ∷ Ticked ∷ [])
    ≡ [] ∷ [] ∷ (emcy 0x4082_1100_0000_0000 ∷ []) ∷ (emcy 0x0082_1100_0000_0000 ∷ []) ∷ []
unfolding searches
errors_at_the_sync = refl

-- a frame that is too long is an error as it comes, and not again at the SYNC
long_at_the_sync : first_answered (rpdo 1) (start ∷ came 0x205 5 0x0102_0304_05 ∷ sync ∷ [])
    ≡ [] ∷ (emcy 0x2082_1100_0000_0000 ∷ []) ∷ [] ∷ []
unfolding searches
long_at_the_sync = refl

-- ---- two RPDOs at a SYNC: by number, whichever came first; here both map 2002:00

abbrev two_rpdos : Constants
two_rpdos = device_with (u8 Rw 0x1400 2 1 ∷ u32 Rw 0x1401 1 0x305 ∷ u8 Rw 0x1401 2 1 ∷ u8 Rw 0x1601 0 1 ∷ u32 Rw 0x1601 1 0x2002_0020 ∷ [])

higher_came_first : number_after two_rpdos (start ∷ came 0x305 4 0x0700_0000 ∷ came 0x205 4 0x0500_0000 ∷ sync ∷ []) 0x2002 0 ≡ 7
unfolding searches
higher_came_first = refl

lower_came_first : number_after two_rpdos (start ∷ came 0x205 4 0x0500_0000 ∷ came 0x305 4 0x0700_0000 ∷ sync ∷ []) 0x2002 0 ≡ 7
unfolding searches
lower_came_first = refl

-- ---- what drops a frame that waits: leaving operational, a reset, a write of COB-ID or type, also of the same

dropped_by_state : number_after (rpdo 1) (start ∷ came 0x205 4 0x0500_0000 ∷ enter_pre_operational ∷ start ∷ sync ∷ []) 0x2002 0 ≡ 0
unfolding searches
dropped_by_state = refl

dropped_by_type : number_after (rpdo 1) (start ∷ came 0x205 4 0x0500_0000 ∷ request 0x2F00_1402_0100_0000 ∷ sync ∷ []) 0x2002 0 ≡ 0
unfolding searches
dropped_by_type = refl

dropped_by_cob_id : number_after (rpdo 1) (start ∷ came 0x205 4 0x0500_0000 ∷ request 0x2300_1401_0502_0000 ∷ sync ∷ []) 0x2002 0 ≡ 0
unfolding searches
dropped_by_cob_id = refl

-- so does a lost heartbeat that leaves operational, and not one that leaves the state as it is
abbrev monitoring : ℕ → Constants
monitoring reaction = device_with (u8 Rw 0x1400 2 1 ∷ u32 Rw 0x1016 1 0x0007_0001 ∷ u8 Rw 0x1029 1 reaction ∷ [])

dropped_by_loss : number_after (monitoring 0) (start ∷ came 0x205 4 0x0500_0000 ∷ came 0x707 1 5 ∷ Ticked ∷ start ∷ sync ∷ []) 0x2002 0 ≡ 0
unfolding searches
dropped_by_loss = refl

kept_by_loss : number_after (monitoring 1) (start ∷ came 0x205 4 0x0500_0000 ∷ came 0x707 1 5 ∷ Ticked ∷ start ∷ sync ∷ []) 0x2002 0 ≡ 5
unfolding searches
kept_by_loss = refl

-- a refused write doesn't
kept_by_refused_write : number_after (rpdo 1) (start ∷ came 0x205 4 0x0500_0000 ∷ request 0x2F00_1402_FC00_0000 ∷ sync ∷ []) 0x2002 0 ≡ 5
unfolding searches
kept_by_refused_write = refl

-- nor does start in operational
kept_by_start : number_after (rpdo 1) (start ∷ came 0x205 4 0x0500_0000 ∷ start ∷ sync ∷ []) 0x2002 0 ≡ 5
unfolding searches
kept_by_start = refl

-- ---- the data of an RPDO restart nothing, and send no TPDO of types 254 and 255
no_event : first_answered device (start ∷ came 0x205 4 0x0102_0304 ∷ []) ≡ [] ∷ [] ∷ []
unfolding searches
no_event = refl
