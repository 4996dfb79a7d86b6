-- The entries that the last of some inputs sets, computed from the definitions.
use Rattle.std.proofs.Common.{◌≡◌, ℕ, List, [], ◌∷◌, true, refl}
use Rattle.std.specs.Prelude.{negsuc, pos}
use Rattle.co_value.specs.declared.key.Key.{Key}
use Rattle.co_value.specs.declared.data_type.DataType.TheVariants.{Integer16}
use Rattle.co_profile.specs.declared.access.Access.TheVariants.{Rw}
use Rattle.co_dict.proofs.ExampleDevice.{at, number_row}
use Rattle.co_node_model.specs.Inputs.{Applied, InputView, Ticked, Written}
use Rattle.co_node_model.specs.Moments.{Constants}
use Rattle.co_node_model.specs.Device.{after_all}
use Rattle.co_node_model.proofs.ExampleNode.{came, device, device_with, request, reset_node, searches, start, stop, sync, u32, u8}
use Rattle.co_node_device.specs.SetEntries.{last_set}

-- by the last of these inputs, the first one first
abbrev set_by : Constants → List InputView → List Key
set_by k inputs = last_set k (after_all [] inputs)

-- ---- SDO: a download that is complete and accepted, also of the bytes that the entry has

download : set_by device (request 0x2302_2000_0000_0000 ∷ []) ≡ at 0x2002 0 ∷ []
unfolding searches
download = refl

above_its_limit : set_by device (request 0x2B03_2000_E903_0000 ∷ []) ≡ []
unfolding searches
above_its_limit = refl

up_to_its_limit : set_by device (request 0x2B03_2000_E803_0000 ∷ []) ≡ at 0x2003 0 ∷ []
unfolding searches
up_to_its_limit = refl

upload : set_by device (request 0x4002_2000_0000_0000 ∷ []) ≡ []
unfolding searches
upload = refl

while_stopped : set_by device (stop ∷ request 0x2302_2000_0000_0000 ∷ []) ≡ []
unfolding searches
while_stopped = refl

-- ten bytes in two segments: by the second one
first_segment : set_by device (request 0x2101_2000_0A00_0000 ∷ request 0x0030_3132_3334_3536 ∷ []) ≡ []
unfolding searches
first_segment = refl

last_segment : set_by device (request 0x2101_2000_0A00_0000 ∷ request 0x0030_3132_3334_3536 ∷ request 0x1937_3839_0000_0000 ∷ []) ≡ at 0x2001 0 ∷ []
unfolding searches
last_segment = refl

by_the_application : set_by device (Applied (Written (at 0x2002 0) (1 ∷ 0 ∷ 0 ∷ 0 ∷ [])) ∷ []) ≡ []
unfolding searches
by_the_application = refl

-- ---- RPDOs: when their data take effect, by number

-- RPDO 0 maps 2002:00
abbrev rpdo : ℕ → Constants
rpdo kind = device_with (u8 Rw 0x1400 2 kind ∷ [])

at_once : set_by (rpdo 254) (start ∷ came 0x205 4 0 ∷ []) ≡ at 0x2002 0 ∷ []
unfolding searches
at_once = refl

before_start : set_by (rpdo 254) (came 0x205 4 0 ∷ []) ≡ []
unfolding searches
before_start = refl

too_short : set_by (rpdo 254) (start ∷ came 0x205 3 0 ∷ []) ≡ []
unfolding searches
too_short = refl

longer : set_by (rpdo 254) (start ∷ came 0x205 5 0 ∷ []) ≡ at 0x2002 0 ∷ []
unfolding searches
longer = refl

waits : set_by (rpdo 1) (start ∷ came 0x205 4 0 ∷ []) ≡ []
unfolding searches
waits = refl

at_the_sync : set_by (rpdo 1) (start ∷ came 0x205 4 0 ∷ sync ∷ []) ≡ at 0x2002 0 ∷ []
unfolding searches
at_the_sync = refl

once : set_by (rpdo 1) (start ∷ came 0x205 4 0 ∷ sync ∷ sync ∷ []) ≡ []
unfolding searches
once = refl

-- RPDO 1 maps 2003:00 and 2002:00
abbrev two_rpdos : Constants
two_rpdos = device_with (u8 Rw 0x1400 2 1 ∷ u32 Rw 0x1401 1 0x305 ∷ u8 Rw 0x1401 2 1 ∷ u8 Rw 0x1601 0 2 ∷ u32 Rw 0x1601 1 0x2003_0010 ∷ u32 Rw 0x1601 2 0x2002_0020 ∷ [])

two_at_the_sync : set_by two_rpdos (start ∷ came 0x305 6 0 ∷ came 0x205 4 0 ∷ sync ∷ []) ≡ at 0x2002 0 ∷ at 0x2003 0 ∷ at 0x2002 0 ∷ []
unfolding searches
two_at_the_sync = refl

-- 2005:00 is from -10 to 10: RPDO 0 maps it, and 2003:00
abbrev limited : Constants
limited = device_with (record { key = at 0x2005 0; row = record (number_row Integer16 Rw true) { low = negsuc 9; high = pos 10 }; bytes = 0 ∷ 0 ∷ [] }
    ∷ u8 Rw 0x1600 0 2 ∷ u32 Rw 0x1600 1 0x2003_0010 ∷ u32 Rw 0x1600 2 0x2005_0010 ∷ [])

one_outside : set_by limited (start ∷ came 0x205 4 0x0000_F5FF ∷ []) ≡ []
unfolding searches
one_outside = refl

both_within : set_by limited (start ∷ came 0x205 4 0x0000_F6FF ∷ []) ≡ at 0x2003 0 ∷ at 0x2005 0 ∷ []
unfolding searches
both_within = refl

-- ---- others

nothing : last_set device [] ≡ []
nothing = refl

tick : set_by device (start ∷ Ticked ∷ []) ≡ []
unfolding searches
tick = refl

-- what a reset restores is seen of it apart
reset : set_by (rpdo 1) (start ∷ came 0x205 4 0 ∷ reset_node ∷ []) ≡ []
unfolding searches
reset = refl
