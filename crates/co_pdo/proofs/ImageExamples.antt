-- Data of PDOs of the dictionary's example device, computed from the definitions.
use Rattle.std.proofs.Common.{◌≡◌, Some, None, List, [], ◌∷◌, refl}
use Rattle.co_value.specs.Numbers.{low_bytes}
use Rattle.co_dict.specs.Rows.{Contents, written}
use Rattle.co_dict.proofs.ExampleDevice.{at, device, nothing, with_u32}
use Rattle.co_pdo.specs.declared.mapping.Mapped.{Mapped}
use Rattle.co_pdo.specs.declared.mapping.Mapped.TheVariants.{Entry, Dummy}
use Rattle.co_pdo.specs.declared.data.PdoFault.TheVariants.{Short, OutOfLimits, Long}
use Rattle.co_pdo.specs.Images.{image_of, parts_of, fault_of, contents_after}

-- 2002:00 is 04030201h, 2003:00 is 5
abbrev held : Contents
held = with_u32 0x2002 0 0x0403_0201 (written nothing (at 0x2003 0) (low_bytes 2 5))

-- four bytes of 2002:00, a dummy of 1 byte, two of 2003:00, whose high limit is 1000
abbrev mapping : List Mapped
mapping = Entry (at 0x2002 0) 4 ∷ Dummy 1 ∷ Entry (at 0x2003 0) 2 ∷ []

image : image_of held mapping ≡ 1 ∷ 2 ∷ 3 ∷ 4 ∷ 0 ∷ 5 ∷ 0 ∷ []
image = refl

in_the_other_order : image_of held (Entry (at 0x2003 0) 2 ∷ Entry (at 0x2002 0) 4 ∷ []) ≡ 5 ∷ 0 ∷ 1 ∷ 2 ∷ 3 ∷ 4 ∷ []
in_the_other_order = refl

parts : parts_of mapping (1 ∷ 2 ∷ 3 ∷ 4 ∷ 9 ∷ 5 ∷ 0 ∷ 7 ∷ []) ≡ (1 ∷ 2 ∷ 3 ∷ 4 ∷ []) ∷ (9 ∷ []) ∷ (5 ∷ 0 ∷ []) ∷ []
parts = refl

-- ---- faults

six_bytes : fault_of device.rows mapping (1 ∷ 2 ∷ 3 ∷ 4 ∷ 9 ∷ 5 ∷ []) ≡ Some Short
six_bytes = refl

seven_bytes : fault_of device.rows mapping (1 ∷ 2 ∷ 3 ∷ 4 ∷ 9 ∷ 5 ∷ 0 ∷ []) ≡ None
seven_bytes = refl

eight_bytes : fault_of device.rows mapping (1 ∷ 2 ∷ 3 ∷ 4 ∷ 9 ∷ 5 ∷ 0 ∷ 7 ∷ []) ≡ Some Long
eight_bytes = refl

-- 1000 and 1001
at_the_limit : fault_of device.rows mapping (1 ∷ 2 ∷ 3 ∷ 4 ∷ 9 ∷ 0xE8 ∷ 3 ∷ []) ≡ None
at_the_limit = refl

above_the_limit : fault_of device.rows mapping (1 ∷ 2 ∷ 3 ∷ 4 ∷ 9 ∷ 0xE9 ∷ 3 ∷ []) ≡ Some OutOfLimits
above_the_limit = refl

long_and_above_the_limit : fault_of device.rows mapping (1 ∷ 2 ∷ 3 ∷ 4 ∷ 9 ∷ 0xE9 ∷ 3 ∷ 7 ∷ []) ≡ Some OutOfLimits
long_and_above_the_limit = refl

nothing_mapped : fault_of device.rows [] (1 ∷ []) ≡ Some Long
nothing_mapped = refl

-- ---- what is written

in_order : contents_after device.rows mapping (9 ∷ 8 ∷ 7 ∷ 6 ∷ 9 ∷ 4 ∷ 0 ∷ []) held (at 0x2002 0) ≡ Some (9 ∷ 8 ∷ 7 ∷ 6 ∷ [])
in_order = refl

past_the_dummy : contents_after device.rows mapping (9 ∷ 8 ∷ 7 ∷ 6 ∷ 9 ∷ 4 ∷ 0 ∷ []) held (at 0x2003 0) ≡ Some (4 ∷ 0 ∷ [])
past_the_dummy = refl

no_dummy_is_written : contents_after device.rows mapping (9 ∷ 8 ∷ 7 ∷ 6 ∷ 9 ∷ 4 ∷ 0 ∷ []) held (at 0x0005 0) ≡ None
no_dummy_is_written = refl

first_bytes_of_long_data : contents_after device.rows mapping (9 ∷ 8 ∷ 7 ∷ 6 ∷ 9 ∷ 4 ∷ 0 ∷ 3 ∷ []) held (at 0x2003 0) ≡ Some (4 ∷ 0 ∷ [])
first_bytes_of_long_data = refl

nothing_of_short_data : contents_after device.rows mapping (9 ∷ 8 ∷ 7 ∷ 6 ∷ []) held (at 0x2002 0) ≡ Some (1 ∷ 2 ∷ 3 ∷ 4 ∷ [])
nothing_of_short_data = refl

nothing_outside_the_limits : contents_after device.rows mapping (9 ∷ 8 ∷ 7 ∷ 6 ∷ 9 ∷ 0xE9 ∷ 3 ∷ []) held (at 0x2002 0) ≡ Some (1 ∷ 2 ∷ 3 ∷ 4 ∷ [])
nothing_outside_the_limits = refl

-- an entry that is mapped twice gets the later part
later_part : contents_after device.rows (Entry (at 0x2003 0) 2 ∷ Entry (at 0x2003 0) 2 ∷ []) (1 ∷ 0 ∷ 2 ∷ 0 ∷ []) held (at 0x2003 0) ≡ Some (2 ∷ 0 ∷ [])
later_part = refl

-- and its earlier part is within the limits too
earlier_part_outside : fault_of device.rows (Entry (at 0x2003 0) 2 ∷ Entry (at 0x2003 0) 2 ∷ []) (0xE9 ∷ 3 ∷ 2 ∷ 0 ∷ []) ≡ Some OutOfLimits
earlier_part_outside = refl
