-- The types that are fixed, at both ends of each row and just past them, computed from the definitions.
use Rattle.std.proofs.Common.{◌≡◌, ℕ, List, [], ◌∷◌, refl, Option, Some, None}
use Rattle.std.specs.Prelude.{map}
use Rattle.co_value.specs.declared.data_type.DataType.{DataType}
use Rattle.co_value.specs.declared.data_type.DataType.TheVariants.{Unsigned8, Unsigned16, Unsigned32}
use Rattle.co_profile.specs.FixedTypes.{fixed_type_of}

-- the types that are fixed at these sub-indices of an object
abbrev types_at : ℕ → List ℕ → List (Option DataType)
types_at index subs = map (λ sub. fixed_type_of (record { index = index; sub = sub })) subs

before_device_type : types_at 0x0FFF (0 ∷ []) ≡ None ∷ []
before_device_type = refl

device_type : types_at 0x1000 (0 ∷ 1 ∷ []) ≡ Some Unsigned32 ∷ None ∷ []
device_type = refl

error_register : types_at 0x1001 (0 ∷ 1 ∷ []) ≡ Some Unsigned8 ∷ None ∷ []
error_register = refl

status_register : types_at 0x1002 (0 ∷ 1 ∷ []) ≡ None ∷ None ∷ []
status_register = refl

error_field : types_at 0x1003 (0 ∷ 1 ∷ 0xFE ∷ 0xFF ∷ [])
    ≡ Some Unsigned8 ∷ Some Unsigned32 ∷ Some Unsigned32 ∷ None ∷ []
error_field = refl

after_error_field : types_at 0x1004 (0 ∷ 1 ∷ []) ≡ None ∷ None ∷ []
after_error_field = refl

sync_word : types_at 0x1005 (0 ∷ 1 ∷ []) ≡ Some Unsigned32 ∷ None ∷ []
sync_word = refl

cycle_period : types_at 0x1006 (0 ∷ []) ≡ None ∷ []
cycle_period = refl

before_emergency_word : types_at 0x1013 (0 ∷ []) ≡ None ∷ []
before_emergency_word = refl

emergency_word : types_at 0x1014 (0 ∷ 1 ∷ []) ≡ Some Unsigned32 ∷ None ∷ []
emergency_word = refl

emergency_inhibit_time : types_at 0x1015 (0 ∷ 1 ∷ []) ≡ Some Unsigned16 ∷ None ∷ []
emergency_inhibit_time = refl

consumer_heartbeat_time : types_at 0x1016 (0 ∷ 1 ∷ 0x7F ∷ 0x80 ∷ [])
    ≡ None ∷ Some Unsigned32 ∷ Some Unsigned32 ∷ None ∷ []
consumer_heartbeat_time = refl

producer_heartbeat_time : types_at 0x1017 (0 ∷ 1 ∷ []) ≡ Some Unsigned16 ∷ None ∷ []
producer_heartbeat_time = refl

identity : types_at 0x1018 (0 ∷ 1 ∷ []) ≡ None ∷ None ∷ []
identity = refl

counter_overflow : types_at 0x1019 (0 ∷ 1 ∷ []) ≡ Some Unsigned8 ∷ None ∷ []
counter_overflow = refl

after_counter_overflow : types_at 0x101A (0 ∷ []) ≡ None ∷ []
after_counter_overflow = refl

before_error_behaviour : types_at 0x1028 (1 ∷ []) ≡ None ∷ []
before_error_behaviour = refl

error_behaviour : types_at 0x1029 (0 ∷ 1 ∷ 2 ∷ []) ≡ None ∷ Some Unsigned8 ∷ None ∷ []
error_behaviour = refl

after_error_behaviour : types_at 0x102A (1 ∷ []) ≡ None ∷ []
after_error_behaviour = refl

before_channels : types_at 0x11FF (1 ∷ 2 ∷ []) ≡ None ∷ None ∷ []
before_channels = refl

first_channel : types_at 0x1200 (0 ∷ 1 ∷ 2 ∷ 3 ∷ [])
    ≡ None ∷ Some Unsigned32 ∷ Some Unsigned32 ∷ None ∷ []
first_channel = refl

last_channel : types_at 0x127F (0 ∷ 1 ∷ 2 ∷ 3 ∷ [])
    ≡ None ∷ Some Unsigned32 ∷ Some Unsigned32 ∷ None ∷ []
last_channel = refl

after_channels : types_at 0x1280 (1 ∷ 2 ∷ []) ≡ None ∷ None ∷ []
after_channels = refl

before_rpdos : types_at 0x13FF (1 ∷ 2 ∷ []) ≡ None ∷ None ∷ []
before_rpdos = refl

first_rpdo : types_at 0x1400 (0 ∷ 1 ∷ 2 ∷ 3 ∷ [])
    ≡ None ∷ Some Unsigned32 ∷ Some Unsigned8 ∷ None ∷ []
first_rpdo = refl

last_rpdo : types_at 0x15FF (0 ∷ 1 ∷ 2 ∷ 3 ∷ [])
    ≡ None ∷ Some Unsigned32 ∷ Some Unsigned8 ∷ None ∷ []
last_rpdo = refl

first_rpdo_mapping : types_at 0x1600 (0 ∷ 1 ∷ 2 ∷ 64 ∷ 65 ∷ [])
    ≡ Some Unsigned8 ∷ Some Unsigned32 ∷ Some Unsigned32 ∷ Some Unsigned32 ∷ None ∷ []
first_rpdo_mapping = refl

last_rpdo_mapping : types_at 0x17FF (0 ∷ 1 ∷ 2 ∷ 64 ∷ 65 ∷ [])
    ≡ Some Unsigned8 ∷ Some Unsigned32 ∷ Some Unsigned32 ∷ Some Unsigned32 ∷ None ∷ []
last_rpdo_mapping = refl

first_tpdo : types_at 0x1800 (0 ∷ 1 ∷ 2 ∷ 3 ∷ 4 ∷ 5 ∷ 6 ∷ 7 ∷ [])
    ≡ None ∷ Some Unsigned32 ∷ Some Unsigned8 ∷ Some Unsigned16 ∷ None ∷ Some Unsigned16 ∷ Some Unsigned8 ∷ None ∷ []
first_tpdo = refl

last_tpdo : types_at 0x19FF (0 ∷ 1 ∷ 2 ∷ 3 ∷ 4 ∷ 5 ∷ 6 ∷ 7 ∷ [])
    ≡ None ∷ Some Unsigned32 ∷ Some Unsigned8 ∷ Some Unsigned16 ∷ None ∷ Some Unsigned16 ∷ Some Unsigned8 ∷ None ∷ []
last_tpdo = refl

first_tpdo_mapping : types_at 0x1A00 (0 ∷ 1 ∷ 2 ∷ 64 ∷ 65 ∷ [])
    ≡ Some Unsigned8 ∷ Some Unsigned32 ∷ Some Unsigned32 ∷ Some Unsigned32 ∷ None ∷ []
first_tpdo_mapping = refl

last_tpdo_mapping : types_at 0x1BFF (0 ∷ 1 ∷ 2 ∷ 64 ∷ 65 ∷ [])
    ≡ Some Unsigned8 ∷ Some Unsigned32 ∷ Some Unsigned32 ∷ Some Unsigned32 ∷ None ∷ []
last_tpdo_mapping = refl

after_tpdo_mappings : types_at 0x1C00 (0 ∷ 1 ∷ []) ≡ None ∷ None ∷ []
after_tpdo_mappings = refl
