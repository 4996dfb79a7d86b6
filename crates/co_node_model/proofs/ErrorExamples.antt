-- Errors and lengths, computed from the definitions: both sides of each edge.
use Rattle.std.proofs.Common.{◌≡◌, ℕ, Some, None, [], ◌∷◌, map, refl}
use Rattle.co_dict.specs.Objects.{subs_present}
use Rattle.co_dict.proofs.ExampleDevice.{at, rows, nothing, with_u8}
use Rattle.co_dict.specs.Rows.{Contents, number_at}
use Rattle.co_pdo.specs.declared.data.PdoFault.TheVariants.{Short, OutOfLimits, Long}
use Rattle.co_node_model.specs.Emergencies.{register_with, register_without, with_register, raised, emergency_of, cleared, clearing_of, heartbeat_lost, value_outside_limits, pdo_too_short, pdo_too_long, unexpected_sync_length}
use Rattle.co_node_model.specs.Sync.{sync_length, sync_errors}
use Rattle.co_node_model.specs.Rpdos.{length_errors, value_errors}
use Rattle.co_node_model.specs.declared.device_error.DeviceError.{DeviceError}

-- ---- the device's own errors

codes : map (λ (e : DeviceError). e.code) (heartbeat_lost ∷ value_outside_limits ∷ pdo_too_short ∷ pdo_too_long ∷ unexpected_sync_length ∷ [])
    ≡ 0x8130 ∷ 0x8200 ∷ 0x8210 ∷ 0x8220 ∷ 0x8240 ∷ []
codes = refl

bits : map (λ (e : DeviceError). e.bits) (heartbeat_lost ∷ value_outside_limits ∷ pdo_too_short ∷ pdo_too_long ∷ unexpected_sync_length ∷ [])
    ≡ 0x11 ∷ 0x11 ∷ 0x11 ∷ 0x11 ∷ 0x11 ∷ []
bits = refl

-- ---- the error register: bits are set beside those that are, and cleared alone

abbrev holding : ℕ → Contents
holding register = with_u8 0x1001 0 register nothing

set_beside : map (λ register. register_with 0x11 (holding register)) (0 ∷ 0x11 ∷ 0x80 ∷ 0xFF ∷ []) ≡ 0x11 ∷ 0x11 ∷ 0x91 ∷ 0xFF ∷ []
set_beside = refl

cleared_alone : map (λ register. register_without 0x11 (holding register)) (0 ∷ 0x11 ∷ 0x91 ∷ 0xFF ∷ []) ≡ 0 ∷ 0 ∷ 0x80 ∷ 0xEE ∷ []
cleared_alone = refl

without_a_register : register_with 0x11 nothing ≡ 0x11
without_a_register = refl

-- a dictionary without 1001:00 gets none
no_entry : with_register rows 0x11 nothing (at 0x1001 0) ≡ None
no_entry = refl

-- ---- 1003h: raising puts the code in front, clearing enters nothing

entered : number_at (raised rows heartbeat_lost nothing) (at 0x1003 1) ≡ 0x8130
unfolding subs_present
entered = refl

counted : number_at (raised rows heartbeat_lost nothing) (at 0x1003 0) ≡ 1
unfolding subs_present
counted = refl

not_entered : cleared rows 0x11 nothing (at 0x1003 0) ≡ None
not_entered = refl

-- ---- emergencies

queued : emergency_of pdo_too_long (holding 0x02) ≡ record { code = 0x8220; register = 0x13; manufacturer = 0 ∷ 0 ∷ 0 ∷ 0 ∷ 0 ∷ [] }
queued = refl

queued_by_clearing : clearing_of 0x01 (holding 0x13) ≡ record { code = 0; register = 0x12; manufacturer = 0 ∷ 0 ∷ 0 ∷ 0 ∷ 0 ∷ [] }
queued_by_clearing = refl

-- ---- lengths of SYNCs: by 1019:00

sync_lengths : map (λ overflow. sync_length (with_u8 0x1019 0 overflow nothing)) (0 ∷ 2 ∷ 240 ∷ []) ≡ 0 ∷ 1 ∷ 1 ∷ []
sync_lengths = refl

without_1019 : sync_length nothing ≡ 0
without_1019 = refl

expected_sync : sync_errors nothing (Some (record { id = 0x80; bytes = [] })) ≡ []
expected_sync = refl

unexpected_sync : sync_errors nothing (Some (record { id = 0x80; bytes = 1 ∷ [] })) ≡ unexpected_sync_length ∷ []
unexpected_sync = refl

-- ---- lengths of RPDO frames: four bytes are mapped

lengths : map (length_errors 4) (0 ∷ 3 ∷ 4 ∷ 5 ∷ 8 ∷ [])
    ≡ (pdo_too_short ∷ []) ∷ (pdo_too_short ∷ []) ∷ [] ∷ (pdo_too_long ∷ []) ∷ (pdo_too_long ∷ []) ∷ []
lengths = refl

-- as data take effect, a value outside its limits alone is an error
as_data_take_effect : map value_errors (None ∷ Some Short ∷ Some OutOfLimits ∷ Some Long ∷ []) ≡ [] ∷ [] ∷ (value_outside_limits ∷ []) ∷ [] ∷ []
as_data_take_effect = refl
