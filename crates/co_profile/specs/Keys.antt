-- The entries of the communication profile that have a meaning of their own, by their keys (CiA 301,
-- 7.5.2): a device itself reads or writes them, or a recording is read by them.
use Rattle.co_value.specs.declared.key.Key.{Key}
use Rattle.co_profile.specs.Indices.{device_type, error_register, sync_cob_id, emergency_cob_id, emergency_inhibit_time, producer_heartbeat, sync_counter_overflow, error_behaviour}

-- 1000:00, the device type
abbrev pub device_type_key : Key
device_type_key = record { index = device_type; sub = 0 }

-- 1001:00, the error register
abbrev pub error_register_key : Key
error_register_key = record { index = error_register; sub = 0 }

-- 1005:00, the COB-ID of SYNC
abbrev pub sync_key : Key
sync_key = record { index = sync_cob_id; sub = 0 }

-- 1014:00, the COB-ID of EMCY
abbrev pub emergency_key : Key
emergency_key = record { index = emergency_cob_id; sub = 0 }

-- 1015:00, the inhibit time of EMCY in 100 µs
abbrev pub emergency_inhibit_key : Key
emergency_inhibit_key = record { index = emergency_inhibit_time; sub = 0 }

-- 1017:00, the producer heartbeat time in ms
abbrev pub producer_key : Key
producer_key = record { index = producer_heartbeat; sub = 0 }

-- 1019:00, the synchronous counter overflow value
abbrev pub counter_overflow_key : Key
counter_overflow_key = record { index = sync_counter_overflow; sub = 0 }

-- 1029:01, the error behaviour at a communication error
abbrev pub error_behaviour_key : Key
error_behaviour_key = record { index = error_behaviour; sub = 1 }
