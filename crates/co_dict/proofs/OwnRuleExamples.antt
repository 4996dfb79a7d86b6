-- The rules that entries have of their own, computed from the definitions on both sides of each edge.
use Rattle.std.proofs.Common.{◌≡◌, ℕ, List, [], ◌∷◌, ◌++◌, replicate, refl, Some, None, Option, true, false}
use Rattle.co_dict.specs.declared.side.Side.TheVariants.{Rpdo, Tpdo}
use Rattle.std.specs.Prelude.{map}
use Rattle.co_dict.specs.declared.side.Side.{Side}
use Rattle.co_dict.specs.declared.own_rule.OwnRule.{OwnRule}
use Rattle.co_dict.specs.declared.own_rule.OwnRule.TheVariants.{ErrorCount, SyncCobId, StoredParameters, CobId, ConsumerHeartbeat, SyncCounterOverflow, ErrorBehaviour, TransmissionType, InhibitTime, SyncStartValue, MappingCount, MappingEntry}
use Rattle.co_value.specs.Numbers.{low_bytes}
use Rattle.co_dict.specs.Rows.{Contents}
use Rattle.co_dict.specs.ConsumerHeartbeats.{is_consumer}
use Rattle.co_dict.specs.OwnRules.{own_rule_of, own_refusal}
use Rattle.co_dict.proofs.ExampleDevice.{searches, at, device, nothing, with_u8, with_u32}

-- what the own rule answers to a byte, and to a word of 32 bits
abbrev byte : Contents → ℕ → ℕ → ℕ → Option ℕ
byte contents index sub number = own_refusal device contents (at index sub) (low_bytes 1 number)

abbrev word : Contents → ℕ → ℕ → ℕ → Option ℕ
word contents index sub number = own_refusal device contents (at index sub) (low_bytes 4 number)

-- ---- which keys have which rule

-- the rules of sub-indices of an object, and of a sub-index of objects
abbrev of_subs : ℕ → List ℕ → List (Option OwnRule)
of_subs index subs = map (λ sub. own_rule_of (at index sub)) subs

abbrev of_indexes : List ℕ → ℕ → List (Option OwnRule)
of_indexes indexes sub = map (λ index. own_rule_of (at index sub)) indexes

-- objects round those that have a rule at sub-index 0
sub_index_0 : of_indexes (0x1002 ∷ 0x1003 ∷ 0x1004 ∷ 0x1005 ∷ 0x1006 ∷ 0x1013 ∷ 0x1014 ∷ 0x1015 ∷ 0x1018 ∷ 0x1019 ∷ 0x101A ∷ []) 0
    ≡ None ∷ Some ErrorCount ∷ None ∷ Some SyncCobId ∷ None ∷ None ∷ Some CobId ∷ None ∷ None ∷ Some SyncCounterOverflow ∷ None ∷ []
sub_index_0 = refl

-- and at sub-index 1
sub_index_1 : of_indexes (0x1003 ∷ 0x1005 ∷ 0x1014 ∷ 0x1015 ∷ 0x1016 ∷ 0x1017 ∷ 0x1019 ∷ 0x1028 ∷ 0x1029 ∷ 0x102A ∷ []) 1
    ≡ None ∷ None ∷ None ∷ None ∷ Some ConsumerHeartbeat ∷ None ∷ None ∷ None ∷ Some ErrorBehaviour ∷ None ∷ []
sub_index_1 = refl

stored_parameters : of_indexes (0x100F ∷ 0x1010 ∷ 0x1011 ∷ 0x1012 ∷ []) 0 ≡ None ∷ Some StoredParameters ∷ Some StoredParameters ∷ None ∷ []
stored_parameters = refl

last_stored_parameters : of_indexes (0x100F ∷ 0x1010 ∷ 0x1011 ∷ 0x1012 ∷ []) 255 ≡ None ∷ Some StoredParameters ∷ Some StoredParameters ∷ None ∷ []
last_stored_parameters = refl

consumers : of_subs 0x1016 (0 ∷ 1 ∷ 0x7F ∷ 0x80 ∷ []) ≡ None ∷ Some ConsumerHeartbeat ∷ Some ConsumerHeartbeat ∷ None ∷ []
consumers = refl

error_behaviour : of_subs 0x1029 (0 ∷ 1 ∷ 2 ∷ []) ≡ None ∷ Some ErrorBehaviour ∷ None ∷ []
error_behaviour = refl

-- sub-indices 0 to 7 of communication parameters, at each end of their indexes
abbrev to_7 : List ℕ
to_7 = 0 ∷ 1 ∷ 2 ∷ 3 ∷ 4 ∷ 5 ∷ 6 ∷ 7 ∷ []

abbrev received : List (Option OwnRule)
received = None ∷ Some CobId ∷ Some TransmissionType ∷ None ∷ None ∷ None ∷ None ∷ None ∷ []

abbrev transmitted : List (Option OwnRule)
transmitted = None ∷ Some CobId ∷ Some TransmissionType ∷ Some InhibitTime ∷ None ∷ None ∷ Some SyncStartValue ∷ None ∷ []

before_rpdos : of_subs 0x13FF to_7 ≡ replicate 8 None
before_rpdos = refl

first_rpdo : of_subs 0x1400 to_7 ≡ received
first_rpdo = refl

last_rpdo : of_subs 0x15FF to_7 ≡ received
last_rpdo = refl

before_tpdos : of_subs 0x17FF (1 ∷ 2 ∷ 3 ∷ 6 ∷ []) ≡ replicate 4 (Some (MappingEntry Rpdo))
before_tpdos = refl

first_tpdo : of_subs 0x1800 to_7 ≡ transmitted
first_tpdo = refl

last_tpdo : of_subs 0x19FF to_7 ≡ transmitted
last_tpdo = refl

-- mapping parameters, at each end of their indexes and sub-indices
abbrev to_65 : List ℕ
to_65 = 0 ∷ 1 ∷ 2 ∷ 3 ∷ 6 ∷ 63 ∷ 64 ∷ 65 ∷ []

abbrev mapping : Side → List (Option OwnRule)
mapping side = Some (MappingCount side) ∷ replicate 6 (Some (MappingEntry side)) ++ None ∷ []

before_rpdo_mappings : of_subs 0x15FF to_65 ≡ None ∷ Some CobId ∷ Some TransmissionType ∷ replicate 5 None
before_rpdo_mappings = refl

first_rpdo_mapping : of_subs 0x1600 to_65 ≡ mapping Rpdo
first_rpdo_mapping = refl

last_rpdo_mapping : of_subs 0x17FF to_65 ≡ mapping Rpdo
last_rpdo_mapping = refl

after_rpdo_mappings : of_subs 0x1800 to_65 ≡ None ∷ Some CobId ∷ Some TransmissionType ∷ Some InhibitTime ∷ Some SyncStartValue ∷ replicate 3 None
after_rpdo_mappings = refl

before_tpdo_mappings : of_subs 0x19FF to_65 ≡ None ∷ Some CobId ∷ Some TransmissionType ∷ Some InhibitTime ∷ Some SyncStartValue ∷ replicate 3 None
before_tpdo_mappings = refl

first_tpdo_mapping : of_subs 0x1A00 to_65 ≡ mapping Tpdo
first_tpdo_mapping = refl

last_tpdo_mapping : of_subs 0x1BFF to_65 ≡ mapping Tpdo
last_tpdo_mapping = refl

after_tpdo_mappings : of_subs 0x1C00 to_65 ≡ replicate 8 None
after_tpdo_mappings = refl

-- ---- 1003:00, the number of errors

clears_the_errors : byte nothing 0x1003 0 0 ≡ None
unfolding searches
clears_the_errors = refl

sets_the_number_of_errors : byte nothing 0x1003 0 1 ≡ Some 0x0609_0030
unfolding searches
sets_the_number_of_errors = refl

-- ---- 1005:00, the COB-ID of SYNC

good_sync : word nothing 0x1005 0 0x80 ≡ None
unfolding searches
good_sync = refl

changed_sync : word (with_u32 0x1005 0 0x80 nothing) 0x1005 0 0x181 ≡ None
unfolding searches
changed_sync = refl

sync_producer : word nothing 0x1005 0 0x4000_0080 ≡ Some 0x0609_0030
unfolding searches
sync_producer = refl

sync_0 : word nothing 0x1005 0 0 ≡ Some 0x0609_0030
unfolding searches
sync_0 = refl

-- ---- 1010h, 1011h

stores_parameters : word nothing 0x1010 1 0x6576_6173 ≡ Some 0x0800_0020
unfolding searches
stores_parameters = refl

-- ---- 1014:00 and COB-IDs of PDOs

sets_a_cob_id : word (with_u32 0x1800 1 0x8000_0185 nothing) 0x1800 1 0x285 ≡ None
unfolding searches
sets_a_cob_id = refl

sets_an_absent_cob_id : word nothing 0x1800 1 0x285 ≡ None
unfolding searches
sets_an_absent_cob_id = refl

changes_a_valid_cob_id : word (with_u32 0x1800 1 0x185 nothing) 0x1800 1 0x186 ≡ Some 0x0800_0022
unfolding searches
changes_a_valid_cob_id = refl

-- a word with bit 29 is never good, so bit 28 of an old one is the highest that can differ
changes_high_bits : word (with_u32 0x1800 1 0x2000_0185 nothing) 0x1800 1 0x185 ≡ Some 0x0800_0022
unfolding searches
changes_high_bits = refl

changes_bit_30 : word (with_u32 0x1800 1 0x185 nothing) 0x1800 1 0x4000_0185 ≡ None
unfolding searches
changes_bit_30 = refl

same_cob_id : word (with_u32 0x1800 1 0x185 nothing) 0x1800 1 0x185 ≡ None
unfolding searches
same_cob_id = refl

takes_a_pdo_out : word (with_u32 0x1800 1 0x185 nothing) 0x1800 1 0x8000_0286 ≡ None
unfolding searches
takes_a_pdo_out = refl

bad_cob_id : word (with_u32 0x1800 1 0x185 nothing) 0x1800 1 0x101 ≡ Some 0x0609_0030
unfolding searches
bad_cob_id = refl

cob_id_0 : word nothing 0x1400 1 0 ≡ Some 0x0609_0030
unfolding searches
cob_id_0 = refl

changes_the_emergency_cob_id : word (with_u32 0x1014 0 0x85 nothing) 0x1014 0 0x86 ≡ Some 0x0800_0022
unfolding searches
changes_the_emergency_cob_id = refl

cob_id_of_a_channel : word (with_u32 0x1201 1 0x680 (with_u32 0x1201 2 0x681 nothing)) 0x1800 1 0x681 ≡ Some 0x0609_0030
unfolding searches
cob_id_of_a_channel = refl

cob_id_beside_a_channel : word (with_u32 0x1201 1 0x680 (with_u32 0x1201 2 0x681 nothing)) 0x1800 1 0x682 ≡ None
unfolding searches
cob_id_beside_a_channel = refl

-- ---- 1016h, the consumer heartbeat time

consumer : is_consumer 0x0007_0064 ≡ true
consumer = refl

without_time : is_consumer 0x0007_0000 ≡ false
without_time = refl

of_node_0 : is_consumer 0x0000_0064 ≡ false
of_node_0 = refl

of_node_127 : is_consumer 0x007F_0001 ≡ true
of_node_127 = refl

of_node_128 : is_consumer 0x0080_0001 ≡ false
of_node_128 = refl

-- bits 31 to 24 are not looked at
high_byte : is_consumer 0xFF07_0064 ≡ true
high_byte = refl

first_consumer : word nothing 0x1016 1 0x0007_0064 ≡ None
unfolding searches
first_consumer = refl

consumer_in_place : word (with_u32 0x1016 1 0x0007_0064 nothing) 0x1016 1 0x0007_00C8 ≡ None
unfolding searches
consumer_in_place = refl

second_consumer : word (with_u32 0x1016 1 0x0007_0064 nothing) 0x1016 2 0x0007_00C8 ≡ Some 0x0604_0043
unfolding searches
second_consumer = refl

consumer_with_high_byte : word (with_u32 0x1016 1 0x1107_0064 nothing) 0x1016 2 0x2207_00C8 ≡ Some 0x0604_0043
unfolding searches
consumer_with_high_byte = refl

last_consumer : word (with_u32 0x1016 0x7F 0x0007_0064 nothing) 0x1016 1 0x0007_00C8 ≡ Some 0x0604_0043
unfolding searches
last_consumer = refl

past_the_consumers : word (with_u32 0x1016 0x80 0x0007_0064 nothing) 0x1016 1 0x0007_00C8 ≡ None
unfolding searches
past_the_consumers = refl

consumer_of_another_node : word (with_u32 0x1016 1 0x0007_0064 nothing) 0x1016 2 0x0008_0064 ≡ None
unfolding searches
consumer_of_another_node = refl

unused_here : word (with_u32 0x1016 1 0x0007_0064 nothing) 0x1016 2 0x0007_0000 ≡ None
unfolding searches
unused_here = refl

unused_there : word (with_u32 0x1016 1 0x0007_0000 nothing) 0x1016 2 0x0007_0064 ≡ None
unfolding searches
unused_there = refl

-- ---- 1019:00, 1029:01

counter_0 : byte nothing 0x1019 0 0 ≡ None
unfolding searches
counter_0 = refl

counter_1 : byte nothing 0x1019 0 1 ≡ Some 0x0609_0030
unfolding searches
counter_1 = refl

counter_2 : byte nothing 0x1019 0 2 ≡ None
unfolding searches
counter_2 = refl

counter_240 : byte nothing 0x1019 0 240 ≡ None
unfolding searches
counter_240 = refl

counter_241 : byte nothing 0x1019 0 241 ≡ Some 0x0609_0030
unfolding searches
counter_241 = refl

behavior_2 : byte nothing 0x1029 1 2 ≡ None
unfolding searches
behavior_2 = refl

behavior_3 : byte nothing 0x1029 1 3 ≡ Some 0x0609_0030
unfolding searches
behavior_3 = refl

-- ---- communication parameters of PDOs

type_240 : byte nothing 0x1400 2 240 ≡ None
unfolding searches
type_240 = refl

type_241 : byte nothing 0x1400 2 241 ≡ Some 0x0609_0030
unfolding searches
type_241 = refl

type_253 : byte nothing 0x1800 2 253 ≡ Some 0x0609_0030
unfolding searches
type_253 = refl

type_254 : byte nothing 0x1800 2 254 ≡ None
unfolding searches
type_254 = refl

inhibit_time_of_a_valid_pdo : own_refusal device (with_u32 0x1800 1 0x185 nothing) (at 0x1800 3) (low_bytes 2 10) ≡ Some 0x0800_0022
unfolding searches
inhibit_time_of_a_valid_pdo = refl

inhibit_time : own_refusal device (with_u32 0x1800 1 0x8000_0185 nothing) (at 0x1800 3) (low_bytes 2 10) ≡ None
unfolding searches
inhibit_time = refl

inhibit_time_beside_a_valid_pdo : own_refusal device (with_u32 0x1801 1 0x185 nothing) (at 0x1800 3) (low_bytes 2 10) ≡ None
unfolding searches
inhibit_time_beside_a_valid_pdo = refl

sync_start_0 : byte nothing 0x1800 6 0 ≡ None
unfolding searches
sync_start_0 = refl

sync_start_240 : byte (with_u32 0x1800 1 0x8000_0185 nothing) 0x1800 6 240 ≡ None
unfolding searches
sync_start_240 = refl

sync_start_241 : byte (with_u32 0x1800 1 0x8000_0185 nothing) 0x1800 6 241 ≡ Some 0x0609_0030
unfolding searches
sync_start_241 = refl

-- the state comes before the value, and 0 is refused as well
sync_start_of_a_valid_pdo : byte (with_u32 0x1800 1 0x185 nothing) 0x1800 6 241 ≡ Some 0x0800_0022
unfolding searches
sync_start_of_a_valid_pdo = refl

sync_start_0_of_a_valid_pdo : byte (with_u32 0x19FF 1 0x185 nothing) 0x19FF 6 0 ≡ Some 0x0800_0022
unfolding searches
sync_start_0_of_a_valid_pdo = refl

sync_start_beside_a_valid_pdo : byte (with_u32 0x1801 1 0x185 nothing) 0x1800 6 1 ≡ None
unfolding searches
sync_start_beside_a_valid_pdo = refl

-- ---- mapping parameters of PDOs

-- PDO 0 of each side out, with a word mapped that doesn't count
abbrev out : Contents
out = with_u32 0x1400 1 0x8000_0205 (with_u32 0x1600 1 0x2003_0010 (with_u32 0x1800 1 0x8000_0185 (with_u32 0x1A00 1 0x2002_0020 nothing)))

maps_an_entry : word out 0x1600 1 0x2003_0010 ≡ None
unfolding searches
maps_an_entry = refl

unmaps_an_entry : word out 0x1600 1 0 ≡ None
unfolding searches
unmaps_an_entry = refl

maps_while_valid : word (with_u32 0x1400 1 0x205 nothing) 0x1600 1 0x2003_0010 ≡ Some 0x0800_0022
unfolding searches
maps_while_valid = refl

transmits_while_valid : word (with_u32 0x1800 1 0x185 nothing) 0x1A00 1 0x2003_0010 ≡ Some 0x0800_0022
unfolding searches
transmits_while_valid = refl

maps_while_the_other_side_is_valid : word (with_u32 0x1800 1 0x185 nothing) 0x1600 1 0x2003_0010 ≡ None
unfolding searches
maps_while_the_other_side_is_valid = refl

maps_while_counted : word (with_u8 0x1600 0 1 out) 0x1600 2 0 ≡ Some 0x0800_0022
unfolding searches
maps_while_counted = refl

maps_an_absent_object : word out 0x1600 1 0x3000_0008 ≡ Some 0x0602_0000
unfolding searches
maps_an_absent_object = refl

maps_an_absent_sub_index : word out 0x1600 1 0x2003_0110 ≡ Some 0x0609_0011
unfolding searches
maps_an_absent_sub_index = refl

maps_another_length : word out 0x1600 1 0x2003_0008 ≡ Some 0x0604_0041
unfolding searches
maps_another_length = refl

receives_a_dummy : word out 0x1600 1 0x0005_0008 ≡ None
unfolding searches
receives_a_dummy = refl

transmits_a_dummy : word out 0x1A00 1 0x0005_0008 ≡ Some 0x0602_0000
unfolding searches
transmits_a_dummy = refl

receives_what_is_written : word out 0x1600 1 0x2004_0010 ≡ None
unfolding searches
receives_what_is_written = refl

transmits_what_is_written : word out 0x1A00 1 0x2004_0010 ≡ Some 0x0604_0041
unfolding searches
transmits_what_is_written = refl

counts_one : byte out 0x1600 0 1 ≡ None
unfolding searches
counts_one = refl

counts_word_0 : byte out 0x1600 0 2 ≡ Some 0x0604_0041
unfolding searches
counts_word_0 = refl

counts_an_absent_word : byte out 0x1600 0 3 ≡ Some 0x0609_0030
unfolding searches
counts_an_absent_word = refl

counts_none : byte out 0x1600 0 0 ≡ None
unfolding searches
counts_none = refl

counts_while_valid : byte (with_u32 0x1400 1 0x205 nothing) 0x1600 0 0 ≡ Some 0x0800_0022
unfolding searches
counts_while_valid = refl

counts_too_many_bytes : byte (with_u32 0x1A00 1 0x2002_0020 (with_u32 0x1A00 2 0x2002_0020 (with_u32 0x1A00 3 0x2000_0008 nothing))) 0x1A00 0 3 ≡ Some 0x0604_0042
unfolding searches
counts_too_many_bytes = refl
