-- The SDO abort codes and what they mean (CiA 301, 7.2.4.3.17, table 22).
use Rattle.std.specs.Prelude.{ℕ, List, codes}
use Rattle.co_words.specs.declared.abort_reason.AbortReason.{AbortReason}
use Rattle.co_words.specs.declared.abort_reason.AbortReason.TheVariants.{ToggleNotAlternated, TimedOut, UnknownCommand, InvalidBlockSize, InvalidSequenceNumber, CrcError, OutOfMemory, UnsupportedAccess, WriteOnly, ReadOnly, ObjectMissing, NotMappable, MappingTooLong, ParameterIncompatible, DeviceIncompatible, HardwareError, LengthMismatch, TooLong, TooShort, SubIndexMissing, InvalidValue, AboveHighLimit, BelowLowLimit, LimitsCrossed, NoConnection, GeneralError, NotStorable, NotStorableByControl, NotInThisState, NoDictionary, NoValue}

-- the code
abbrev pub code_of : AbortReason → ℕ
code_of ToggleNotAlternated = 0x05030000
code_of TimedOut = 0x05040000
code_of UnknownCommand = 0x05040001
code_of InvalidBlockSize = 0x05040002
code_of InvalidSequenceNumber = 0x05040003
code_of CrcError = 0x05040004
code_of OutOfMemory = 0x05040005
code_of UnsupportedAccess = 0x06010000
code_of WriteOnly = 0x06010001
code_of ReadOnly = 0x06010002
code_of ObjectMissing = 0x06020000
code_of NotMappable = 0x06040041
code_of MappingTooLong = 0x06040042
code_of ParameterIncompatible = 0x06040043
code_of DeviceIncompatible = 0x06040047
code_of HardwareError = 0x06060000
code_of LengthMismatch = 0x06070010
code_of TooLong = 0x06070012
code_of TooShort = 0x06070013
code_of SubIndexMissing = 0x06090011
code_of InvalidValue = 0x06090030
code_of AboveHighLimit = 0x06090031
code_of BelowLowLimit = 0x06090032
code_of LimitsCrossed = 0x06090036
code_of NoConnection = 0x060A0023
code_of GeneralError = 0x08000000
code_of NotStorable = 0x08000020
code_of NotStorableByControl = 0x08000021
code_of NotInThisState = 0x08000022
code_of NoDictionary = 0x08000023
code_of NoValue = 0x08000024

-- what it means
abbrev pub text_of : AbortReason → List ℕ
text_of ToggleNotAlternated = codes "the toggle bit of a segment isn't the awaited one"
text_of TimedOut = codes "the transfer timed out"
text_of UnknownCommand = codes "the command specifier is unknown, or not awaited now"
text_of InvalidBlockSize = codes "the block size isn't 1 to 127"
text_of InvalidSequenceNumber = codes "an acknowledge names a segment that wasn't sent"
text_of CrcError = codes "the CRC of a block transfer is wrong"
text_of OutOfMemory = codes "out of memory: no room for the value"
text_of UnsupportedAccess = codes "this access isn't supported"
text_of WriteOnly = codes "a read of an entry that is write only"
text_of ReadOnly = codes "a write of an entry that is read only"
text_of ObjectMissing = codes "no such object"
text_of NotMappable = codes "the entry can't be mapped into this PDO"
text_of MappingTooLong = codes "the mapped entries are longer than 8 bytes"
text_of ParameterIncompatible = codes "the parameter contradicts another one"
text_of DeviceIncompatible = codes "the parameter contradicts something in the device"
text_of HardwareError = codes "a hardware error"
text_of LengthMismatch = codes "wrong data type or length"
text_of TooLong = codes "the value is too long"
text_of TooShort = codes "the value is too short"
text_of SubIndexMissing = codes "no such sub-index"
text_of InvalidValue = codes "the value isn't allowed"
text_of AboveHighLimit = codes "the value is above the high limit"
text_of BelowLowLimit = codes "the value is below the low limit"
text_of LimitsCrossed = codes "the maximum is less than the minimum"
text_of NoConnection = codes "no SDO connection is left"
text_of GeneralError = codes "a general error"
text_of NotStorable = codes "the value can't be transferred or stored"
text_of NotStorableByControl = codes "the value can't be transferred or stored, for local control"
text_of NotInThisState = codes "the value can't be transferred or stored in the device's present state"
text_of NoDictionary = codes "there is no object dictionary"
text_of NoValue = codes "no data is there"
