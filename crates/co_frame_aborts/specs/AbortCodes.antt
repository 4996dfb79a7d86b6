-- The abort codes of the SDO protocol (CiA 301, 7.2.4.3.17).
use Rattle.std.specs.Prelude.{ℕ}

-- the toggle bit wasn't alternated
abbrev pub toggle_not_alternated : ℕ
toggle_not_alternated = 0x05030000

-- the protocol timed out
abbrev pub timed_out : ℕ
timed_out = 0x05040000

-- the command specifier isn't valid or known
abbrev pub unknown_command : ℕ
unknown_command = 0x05040001

-- the block size isn't valid
abbrev pub invalid_block_size : ℕ
invalid_block_size = 0x05040002

-- the sequence number isn't valid
abbrev pub invalid_sequence_number : ℕ
invalid_sequence_number = 0x05040003

-- out of memory: there is no room for the value
abbrev pub out_of_memory : ℕ
out_of_memory = 0x05040005

-- a read of an object that is write only
abbrev pub write_only : ℕ
write_only = 0x06010001

-- a write to an object that is read only
abbrev pub read_only : ℕ
read_only = 0x06010002

-- the object doesn't exist
abbrev pub object_missing : ℕ
object_missing = 0x06020000

-- the object can't be mapped to the PDO
abbrev pub not_mappable : ℕ
not_mappable = 0x06040041

-- the mapped objects are longer than a PDO
abbrev pub mapping_too_long : ℕ
mapping_too_long = 0x06040042

-- the parameter isn't compatible with another one
abbrev pub parameter_incompatible : ℕ
parameter_incompatible = 0x06040043

-- the value is longer than the entry
abbrev pub too_long : ℕ
too_long = 0x06070012

-- the value is shorter than the entry
abbrev pub too_short : ℕ
too_short = 0x06070013

-- the sub-index doesn't exist
abbrev pub sub_index_missing : ℕ
sub_index_missing = 0x06090011

-- the value is invalid for the parameter
abbrev pub invalid_value : ℕ
invalid_value = 0x06090030

-- the value is above the high limit
abbrev pub above_high_limit : ℕ
above_high_limit = 0x06090031

-- the value is below the low limit
abbrev pub below_low_limit : ℕ
below_low_limit = 0x06090032

-- the value can't be stored by the application
abbrev pub not_storable : ℕ
not_storable = 0x08000020

-- the value can't be stored in the device's present state
abbrev pub not_in_this_state : ℕ
not_in_this_state = 0x08000022

-- no value is there to be read
abbrev pub no_value : ℕ
no_value = 0x08000024
