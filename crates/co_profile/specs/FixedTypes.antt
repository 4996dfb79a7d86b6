-- The entries whose data type is fixed in every sheet (CiA 301, object dictionary).
use Rattle.std.specs.Prelude.{ℕ, ◌&&◌, nat_le, List, [], ◌∷◌, find, Option, option_map}
use Rattle.co_value.specs.declared.key.Key.{Key}
use Rattle.co_value.specs.declared.data_type.DataType.{DataType}
use Rattle.co_profile.specs.declared.indices.IndexRange.{IndexRange}
use Rattle.co_profile.specs.Indices.{only, is_within, device_type, error_register, error_field, sync_cob_id, emergency_cob_id, emergency_inhibit_time, consumer_heartbeat, producer_heartbeat, sync_counter_overflow, error_behaviour, sdo_server, rpdo_communication, rpdo_mapping, tpdo_communication, tpdo_mapping, pdo_cob_id, transmission_type, inhibit_time, event_timer, sync_start_value}
use Rattle.co_value.specs.declared.data_type.DataType.TheVariants.{Unsigned8, Unsigned16, Unsigned32}

-- a type, the indices, and the first and the last sub-index of the entries that have it
abbrev pub fixed_types : List (DataType × IndexRange × ℕ × ℕ)
fixed_types =
    (Unsigned32, only device_type, 0, 0)
    ∷ (Unsigned8, only error_register, 0, 0)
    ∷ (Unsigned8, only error_field, 0, 0)
    ∷ (Unsigned32, only error_field, 0x01, 0xFE)
    ∷ (Unsigned32, only sync_cob_id, 0, 0)
    ∷ (Unsigned32, only emergency_cob_id, 0, 0)
    ∷ (Unsigned16, only emergency_inhibit_time, 0, 0)
    ∷ (Unsigned32, only consumer_heartbeat, 0x01, 0x7F)
    ∷ (Unsigned16, only producer_heartbeat, 0, 0)
    ∷ (Unsigned8, only sync_counter_overflow, 0, 0)
    ∷ (Unsigned8, only error_behaviour, 1, 1)
    ∷ (Unsigned32, sdo_server, 1, 2)
    ∷ (Unsigned32, rpdo_communication, pdo_cob_id, pdo_cob_id)
    ∷ (Unsigned8, rpdo_communication, transmission_type, transmission_type)
    ∷ (Unsigned8, rpdo_mapping, 0, 0)
    ∷ (Unsigned32, rpdo_mapping, 1, 64)
    ∷ (Unsigned32, tpdo_communication, pdo_cob_id, pdo_cob_id)
    ∷ (Unsigned8, tpdo_communication, transmission_type, transmission_type)
    ∷ (Unsigned16, tpdo_communication, inhibit_time, inhibit_time)
    ∷ (Unsigned16, tpdo_communication, event_timer, event_timer)
    ∷ (Unsigned8, tpdo_communication, sync_start_value, sync_start_value)
    ∷ (Unsigned8, tpdo_mapping, 0, 0)
    ∷ (Unsigned32, tpdo_mapping, 1, 64)
    ∷ []

-- the data type that is fixed for the entry of this key, if one is
abbrev pub fixed_type_of : Key → Option DataType
fixed_type_of key =
    option_map (λ f. f.0)
    (find
    (λ f. is_within f.1 key.index && nat_le f.2 key.sub && nat_le key.sub f.3)
    fixed_types)
