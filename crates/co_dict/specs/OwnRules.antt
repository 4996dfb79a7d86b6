-- The rules that entries of the communication profile have of their own, by their keys
-- (CiA 301, 7.5.2).
use Rattle.std.specs.Prelude.{ℕ, ◌==◌, nat_lt, ◌&&◌, ◌||◌, find, Bool, true, Option, Some, None, option_map, option_and_then, List, [], ◌∷◌}
use Rattle.co_value.specs.declared.key.Key.{Key}
use Rattle.co_value.specs.Numbers.{unsigned_of}
use Rattle.co_value.specs.declared.data_type.DataType.{DataType}
use Rattle.co_value.specs.declared.data_type.DataType.TheVariants.{Unsigned8, Unsigned16, Unsigned32}
use Rattle.co_dict.specs.declared.side.Side.TheVariants.{Rpdo, Tpdo}
use Rattle.co_dict.specs.declared.own_rule.OwnRule.{OwnRule}
use Rattle.co_dict.specs.declared.own_rule.OwnRule.TheVariants.{ErrorCount, SyncCobId, StoredParameters, CobId, ConsumerHeartbeat, SyncCounterOverflow, ErrorBehaviour, TransmissionType, InhibitTime, SyncStartValue, MappingCount, MappingEntry}
use Rattle.co_profile.specs.declared.indices.IndexRange.{IndexRange}
use Rattle.co_profile.specs.Indices.{from_to, only, is_within, error_field, sync_cob_id, store_parameters, restore_parameters, emergency_cob_id, consumer_heartbeat, sync_counter_overflow, error_behaviour, rpdo_communication, rpdo_mapping, tpdo_communication, tpdo_mapping, pdo_cob_id, transmission_type, inhibit_time, sync_start_value}
use Rattle.co_dict.specs.Rows.{Contents}
use Rattle.co_dict.specs.Stores.{Description}
use Rattle.co_dict.specs.Refusals.{refused_if}
use Rattle.co_dict.specs.CobIds.{is_from_to}
use Rattle.co_dict.specs.MappingCounts.{is_mapping_index}
use Rattle.co_dict.specs.ErrorField.{error_count_refusal}
use Rattle.co_dict.specs.CobIdRules.{sync_cob_id_refusal, cob_id_refusal}
use Rattle.co_dict.specs.ConsumerHeartbeats.{consumer_refusal}
use Rattle.co_dict.specs.PdoRules.{transmission_type_refusal, inhibit_time_refusal, sync_start_refusal, mapping_entry_refusal, mapping_count_refusal}
use Rattle.co_frame_aborts.specs.AbortCodes.{invalid_value, not_storable}

-- 1010h and 1011h, storing and restoring parameters, aren't supported
abbrev pub stored_parameters_refusal : Option ℕ
stored_parameters_refusal = Some not_storable

-- 1019:00, the synchronous counter overflow value: 0 or 2 to 240
abbrev pub counter_overflow_refusal : ℕ → Option ℕ
counter_overflow_refusal value = refused_if ((value == 1) || nat_lt 240 value) invalid_value

-- 1029:01, what a communication error does to the state: 0 to 2
abbrev pub error_behaviour_refusal : ℕ → Option ℕ
error_behaviour_refusal value = refused_if (nat_lt 2 value) invalid_value

-- a rule, the indices, and the first and the last sub-index of the entries that have it
abbrev pub own_rules : List (OwnRule × IndexRange × ℕ × ℕ)
own_rules =
    (ErrorCount, only error_field, 0, 0)
    ∷ (SyncCobId, only sync_cob_id, 0, 0)
    ∷ (StoredParameters, from_to store_parameters restore_parameters, 0, 255)
    ∷ (CobId, only emergency_cob_id, 0, 0)
    ∷ (ConsumerHeartbeat, only consumer_heartbeat, 0x01, 0x7F)
    ∷ (SyncCounterOverflow, only sync_counter_overflow, 0, 0)
    ∷ (ErrorBehaviour, only error_behaviour, 1, 1)
    ∷ (CobId, rpdo_communication, pdo_cob_id, pdo_cob_id)
    ∷ (TransmissionType, rpdo_communication, transmission_type, transmission_type)
    ∷ (MappingCount Rpdo, rpdo_mapping, 0, 0)
    ∷ (MappingEntry Rpdo, rpdo_mapping, 1, 64)
    ∷ (CobId, tpdo_communication, pdo_cob_id, pdo_cob_id)
    ∷ (TransmissionType, tpdo_communication, transmission_type, transmission_type)
    ∷ (InhibitTime, tpdo_communication, inhibit_time, inhibit_time)
    ∷ (SyncStartValue, tpdo_communication, sync_start_value, sync_start_value)
    ∷ (MappingCount Tpdo, tpdo_mapping, 0, 0)
    ∷ (MappingEntry Tpdo, tpdo_mapping, 1, 64)
    ∷ []

-- the rule of a key, if it has one
abbrev pub own_rule_of : Key → Option OwnRule
own_rule_of key = option_map (λ r. r.0) (find (λ r. is_within r.1 key.index && is_from_to r.2 r.3 key.sub) own_rules)

-- what a rule's index is: a communication parameter of a TPDO, or a mapping parameter of a side
abbrev pub is_rule_index : OwnRule → ℕ → Bool
is_rule_index InhibitTime index = is_within tpdo_communication index
is_rule_index SyncStartValue index = is_within tpdo_communication index
is_rule_index (MappingCount side) index = is_mapping_index side index
is_rule_index (MappingEntry side) index = is_mapping_index side index
is_rule_index rule index = true

-- the fixed type of the entries that have a rule; those of 1010h and 1011h may have any
abbrev pub rule_type : OwnRule → Option DataType
rule_type ErrorCount = Some Unsigned8
rule_type SyncCobId = Some Unsigned32
rule_type StoredParameters = None
rule_type CobId = Some Unsigned32
rule_type ConsumerHeartbeat = Some Unsigned32
rule_type SyncCounterOverflow = Some Unsigned8
rule_type ErrorBehaviour = Some Unsigned8
rule_type TransmissionType = Some Unsigned8
rule_type InhibitTime = Some Unsigned16
rule_type SyncStartValue = Some Unsigned8
rule_type (MappingCount side) = Some Unsigned8
rule_type (MappingEntry side) = Some Unsigned32

-- why a rule refuses a number at a key
abbrev pub rule_refusal : OwnRule → Description → Contents → Key → ℕ → Option ℕ
rule_refusal ErrorCount d contents key number = error_count_refusal number
rule_refusal SyncCobId d contents key number = sync_cob_id_refusal d.node contents number
rule_refusal StoredParameters d contents key number = stored_parameters_refusal
rule_refusal CobId d contents key number = cob_id_refusal d.node contents key number
rule_refusal ConsumerHeartbeat d contents key number = consumer_refusal contents key.sub number
rule_refusal SyncCounterOverflow d contents key number = counter_overflow_refusal number
rule_refusal ErrorBehaviour d contents key number = error_behaviour_refusal number
rule_refusal TransmissionType d contents key number = transmission_type_refusal number
rule_refusal InhibitTime d contents key number = inhibit_time_refusal contents key.index
rule_refusal SyncStartValue d contents key number = sync_start_refusal contents key.index number
rule_refusal (MappingCount side) d contents key number = mapping_count_refusal side d contents key.index number
rule_refusal (MappingEntry side) d contents key number = mapping_entry_refusal side d contents key.index number

-- why an entry's own rule refuses bytes
abbrev pub own_refusal : Description → Contents → Key → List ℕ → Option ℕ
own_refusal d contents key bytes = option_and_then (λ rule. rule_refusal rule d contents key (unsigned_of bytes)) (own_rule_of key)
