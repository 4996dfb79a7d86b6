-- The objects of the communication profile, 1000h to 1FFFh, by their indices (CiA 301, 7.5.2).
use Rattle.std.specs.Prelude.{ℕ, ◌+◌, nat_le, Bool, ◌&&◌}
use Rattle.co_profile.specs.declared.indices.IndexRange.{IndexRange}

-- ---- objects of one index

-- 1000h, the device type
abbrev pub device_type : ℕ
device_type = 0x1000

-- 1001h, the error register
abbrev pub error_register : ℕ
error_register = 0x1001

-- 1003h, the pre-defined error field
abbrev pub error_field : ℕ
error_field = 0x1003

-- 1005h, the COB-ID of SYNC
abbrev pub sync_cob_id : ℕ
sync_cob_id = 0x1005

-- 1010h, store parameters
abbrev pub store_parameters : ℕ
store_parameters = 0x1010

-- 1011h, restore default parameters
abbrev pub restore_parameters : ℕ
restore_parameters = 0x1011

-- 1014h, the COB-ID of EMCY
abbrev pub emergency_cob_id : ℕ
emergency_cob_id = 0x1014

-- 1015h, the inhibit time of EMCY, in 100 µs
abbrev pub emergency_inhibit_time : ℕ
emergency_inhibit_time = 0x1015

-- 1016h, the consumer heartbeat time
abbrev pub consumer_heartbeat : ℕ
consumer_heartbeat = 0x1016

-- 1017h, the producer heartbeat time
abbrev pub producer_heartbeat : ℕ
producer_heartbeat = 0x1017

-- 1018h, the identity object
abbrev pub identity : ℕ
identity = 0x1018

-- 1019h, the synchronous counter overflow value
abbrev pub sync_counter_overflow : ℕ
sync_counter_overflow = 0x1019

-- 1027h, the module list
abbrev pub module_list : ℕ
module_list = 0x1027

-- 1029h, the error behaviour
abbrev pub error_behaviour : ℕ
error_behaviour = 0x1029

-- 1F80h, NMT startup (CiA 302-2)
abbrev pub nmt_startup : ℕ
nmt_startup = 0x1F80

-- ---- objects of one kind

-- the indices from a first to a last
abbrev pub from_to : ℕ → ℕ → IndexRange
from_to first last = record { 0 = first; 1 = last }

-- one index
abbrev pub only : ℕ → IndexRange
only index = from_to index index

-- an index is one of a range
abbrev pub is_within : IndexRange → ℕ → Bool
is_within range index = nat_le range.0 index && nat_le index range.1

-- the index of an object of the range by its number, counted from 0
abbrev pub nth : IndexRange → ℕ → ℕ
nth range number = range.0 + number

-- the communication profile
abbrev pub communication_profile : IndexRange
communication_profile = from_to 0x1000 0x1FFF

-- the SDO server parameters
abbrev pub sdo_server : IndexRange
sdo_server = from_to 0x1200 0x127F

-- the RPDO communication parameters
abbrev pub rpdo_communication : IndexRange
rpdo_communication = from_to 0x1400 0x15FF

-- the RPDO mapping parameters
abbrev pub rpdo_mapping : IndexRange
rpdo_mapping = from_to 0x1600 0x17FF

-- the TPDO communication parameters
abbrev pub tpdo_communication : IndexRange
tpdo_communication = from_to 0x1800 0x19FF

-- the TPDO mapping parameters
abbrev pub tpdo_mapping : IndexRange
tpdo_mapping = from_to 0x1A00 0x1BFF

-- ---- sub-indices of PDO communication parameters

-- the COB-ID
abbrev pub pdo_cob_id : ℕ
pdo_cob_id = 1

-- the transmission type
abbrev pub transmission_type : ℕ
transmission_type = 2

-- the inhibit time, of a TPDO, in 100 µs
abbrev pub inhibit_time : ℕ
inhibit_time = 3

-- the event timer, of a TPDO, in ms
abbrev pub event_timer : ℕ
event_timer = 5

-- the SYNC start value, of a TPDO
abbrev pub sync_start_value : ℕ
sync_start_value = 6
