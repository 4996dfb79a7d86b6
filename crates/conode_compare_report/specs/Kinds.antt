-- The kinds of differences, in the order of the table in docs/COMPARE.md.
use Rattle.std.specs.Prelude.{ℕ, List, codes}
use Rattle.conode_compare_pdos.specs.declared.deviation.Deviation.{Deviation}
use Rattle.conode_compare_pdos.specs.declared.deviation.Deviation.TheVariants.{Length, NotOperational, WithoutSync, FewSyncs, Inhibit, Timer}
use Rattle.conode_compare_transfers.specs.declared.breach.Breach.{Breach}
use Rattle.conode_compare_transfers.specs.declared.breach.Breach.TheVariants.{Toggle, Form, Size, Crc, Early}
use Rattle.conode_compare_values.specs.declared.mismatch.Mismatch.{Mismatch}
use Rattle.conode_compare_values.specs.declared.mismatch.Mismatch.TheVariants.{ConstText, ReadRefused, ReadServed, Written, AboveLimit, BelowLimit, BeyondRoom}
use Rattle.conode_compare_nmt.specs.declared.finding.Finding.{Finding}
use Rattle.conode_compare_nmt.specs.declared.finding.Finding.TheVariants.{SecondBootUp, NoState, TwoStates, WrongState, EmergencyStopped, Unasked, AnswerStopped, Transfer, Value, Held, Pdo}
use Rattle.conode_compare_report.specs.declared.kind.Kind.{Kind}
use Rattle.conode_compare_report.specs.declared.kind.Kind.TheVariants.{HeartbeatLate, HeartbeatOff, HeartbeatState, HeartbeatLength, PdoLength, PdoState, PdoSync, PdoInhibit, PdoLate, BootMissing, SecondSender, EmergencyLength, EmergencyState, EmergencyRegister, EmergencyInhibit, NoAnswer, AnswerKey, AnswerForm, AnswerToggle, AnswerSize, AnswerCrc, AnswerState, AbortKey, AbortEarly, ValueLength, ValueConst, ValueHeld, AccessRead, AccessWrite, AccessLimits}

abbrev pub of_deviation : Deviation → Kind
of_deviation (Length length mapped) = PdoLength
of_deviation NotOperational = PdoState
of_deviation WithoutSync = PdoSync
of_deviation (FewSyncs syncs kind) = PdoSync
of_deviation (Inhibit passed inhibit) = PdoInhibit
of_deviation (Timer passed timer) = PdoLate

abbrev pub of_breach : Breach → Kind
of_breach (Toggle key) = AnswerToggle
of_breach (Form key) = AnswerForm
of_breach (Breach.AbortKey key) = AbortKey
of_breach (Size key indicated bytes) = AnswerSize
of_breach (Crc key came computed) = AnswerCrc
of_breach (Early key waited time) = AbortEarly

abbrev pub of_mismatch : Mismatch → Kind
of_mismatch (Mismatch.ValueLength key length width) = ValueLength
of_mismatch (Mismatch.ValueConst key shown held) = ValueConst
of_mismatch (ConstText key) = ValueConst
of_mismatch (ReadRefused key code) = AccessRead
of_mismatch (ReadServed key) = AccessRead
of_mismatch (Written key) = AccessWrite
of_mismatch (AboveLimit key) = AccessLimits
of_mismatch (BelowLimit key) = AccessLimits
of_mismatch (BeyondRoom key bytes room) = AccessLimits

-- the kind of a difference
abbrev pub kind_of : Finding → Kind
kind_of (Finding.BootMissing passed) = BootMissing
kind_of (SecondBootUp passed) = SecondSender
kind_of (TwoStates shown held) = SecondSender
kind_of Unasked = SecondSender
kind_of (Finding.HeartbeatLength length) = HeartbeatLength
kind_of (NoState byte) = HeartbeatState
kind_of (WrongState shown held) = HeartbeatState
kind_of (Finding.HeartbeatLate passed period) = HeartbeatLate
kind_of (Finding.LateAfterBootUp passed period) = HeartbeatLate
kind_of (Finding.LateAfterTransfer passed period) = HeartbeatLate
kind_of Finding.HeartbeatOff = HeartbeatOff
kind_of (Finding.EmergencyLength length) = EmergencyLength
kind_of EmergencyStopped = EmergencyState
kind_of (Finding.EmergencyRegister code register) = EmergencyRegister
kind_of (Finding.EmergencyInhibit passed inhibit) = EmergencyInhibit
kind_of (Finding.NoAnswer key passed) = NoAnswer
kind_of (Finding.AnswerKey key) = AnswerKey
kind_of (Finding.AnswerForm key) = AnswerForm
kind_of (AnswerStopped key) = AnswerState
kind_of (Transfer breach) = of_breach breach
kind_of (Value mismatch) = of_mismatch mismatch
kind_of (Held mismatch) = ValueHeld
kind_of (Pdo number deviation) = of_deviation deviation

abbrev pub kind_name : Kind → List ℕ
kind_name HeartbeatLate = codes "heartbeat-late"
kind_name HeartbeatOff = codes "heartbeat-off"
kind_name HeartbeatState = codes "heartbeat-state"
kind_name HeartbeatLength = codes "heartbeat-length"
kind_name PdoLength = codes "pdo-length"
kind_name PdoState = codes "pdo-state"
kind_name PdoSync = codes "pdo-sync"
kind_name PdoInhibit = codes "pdo-inhibit"
kind_name PdoLate = codes "pdo-late"
kind_name BootMissing = codes "boot-missing"
kind_name SecondSender = codes "second-sender"
kind_name EmergencyLength = codes "emcy-length"
kind_name EmergencyState = codes "emcy-state"
kind_name EmergencyRegister = codes "emcy-register"
kind_name EmergencyInhibit = codes "emcy-inhibit"
kind_name NoAnswer = codes "no-answer"
kind_name AnswerKey = codes "answer-key"
kind_name AnswerForm = codes "answer-form"
kind_name AnswerToggle = codes "answer-toggle"
kind_name AnswerSize = codes "answer-size"
kind_name AnswerCrc = codes "answer-crc"
kind_name AnswerState = codes "answer-state"
kind_name AbortKey = codes "abort-key"
kind_name AbortEarly = codes "abort-early"
kind_name ValueLength = codes "value-length"
kind_name ValueConst = codes "value-const"
kind_name ValueHeld = codes "value-held"
kind_name AccessRead = codes "access-read"
kind_name AccessWrite = codes "access-write"
kind_name AccessLimits = codes "access-limits"

-- what CiA 301 prescribes
abbrev pub kind_rule : Kind → List ℕ
kind_rule HeartbeatLate = codes "a heartbeat comes within the producer heartbeat time, 1017:00 (CiA 301, 7.2.8.3.2)"
kind_rule HeartbeatOff = codes "no heartbeat comes while the producer heartbeat time, 1017:00, is 0 (CiA 301, 7.5.2.20)"
kind_rule HeartbeatState = codes "a heartbeat has the NMT state that the commands gave (CiA 301, 7.3.2.2)"
kind_rule HeartbeatLength = codes "a frame of error control has one byte (CiA 301, 7.2.8.3.2)"
kind_rule PdoLength = codes "a TPDO has as many bytes as its mapping (CiA 301, 7.5.2.38)"
kind_rule PdoState = codes "a TPDO is sent while operational only (CiA 301, 7.3.2.2)"
kind_rule PdoSync = codes "a TPDO of type n up to 240 is sent at each n-th SYNC, of type 0 after one (CiA 301, 7.5.2.37)"
kind_rule PdoInhibit = codes "two frames of a TPDO are at least its inhibit time apart (CiA 301, 7.5.2.37)"
kind_rule PdoLate = codes "a TPDO is sent when its event timer has passed (CiA 301, 7.5.2.37)"
kind_rule BootMissing = codes "after a reset a boot-up comes before any other frame (CiA 301, 7.3.2.2)"
kind_rule SecondSender = codes "one device has the node-ID, and it answers requests only (CiA 301, 7.2.4.3)"
kind_rule EmergencyLength = codes "an EMCY has eight bytes (CiA 301, 7.2.7)"
kind_rule EmergencyState = codes "no EMCY is sent in the NMT state stopped (CiA 301, 7.3.2.2)"
kind_rule EmergencyRegister = codes "with any error bit 0 of the error register is set (CiA 301, 7.5.2.2)"
kind_rule EmergencyInhibit = codes "two EMCY are at least the inhibit time 1015:00 apart (CiA 301, 7.5.2.18)"
kind_rule NoAnswer = codes "the server answers each request of an SDO client (CiA 301, 7.2.4.3)"
kind_rule AnswerKey = codes "an answer has the multiplexer of its request (CiA 301, 7.2.4.3)"
kind_rule AnswerForm = codes "an answer is one that the protocol of its request has (CiA 301, 7.2.4.3)"
kind_rule AnswerToggle = codes "a segment, or its confirmation, has the toggle bit awaited (CiA 301, 7.2.4.3)"
kind_rule AnswerSize = codes "an upload has as many bytes as it indicates (CiA 301, 7.2.4.3.6)"
kind_rule AnswerCrc = codes "a block upload ends with the CRC of its bytes (CiA 301, 7.2.4.3.16)"
kind_rule AnswerState = codes "no SDO is served in the NMT state stopped (CiA 301, 7.3.2.2)"
kind_rule AbortKey = codes "an abort has the multiplexer of its transfer (CiA 301, 7.2.4.3.17)"
kind_rule AbortEarly = codes "no transfer is aborted as timed out before its timeout (CiA 301, 7.2.4.3.17)"
kind_rule ValueLength = codes "a number has as many bytes as its data type (CiA 301, 7.4.7.1)"
kind_rule ValueConst = codes "a constant entry has the value of the data sheet (CiA 301, 7.4)"
kind_rule ValueHeld = codes "an entry that is named as held keeps what is written to it"
kind_rule AccessRead = codes "an entry that is readable can be read, one that is write only can't (CiA 301, 7.4)"
kind_rule AccessWrite = codes "an entry that is read only isn't written (CiA 301, 7.2.4.3.17)"
kind_rule AccessLimits = codes "a value outside the limits is refused (CiA 301, 7.2.4.3.17)"

-- the place in the table
abbrev pub kind_number : Kind → ℕ
kind_number HeartbeatLate = 0
kind_number HeartbeatOff = 1
kind_number HeartbeatState = 2
kind_number HeartbeatLength = 3
kind_number PdoLength = 4
kind_number PdoState = 5
kind_number PdoSync = 6
kind_number PdoInhibit = 7
kind_number PdoLate = 8
kind_number BootMissing = 9
kind_number SecondSender = 10
kind_number EmergencyLength = 11
kind_number EmergencyState = 12
kind_number EmergencyRegister = 13
kind_number EmergencyInhibit = 14
kind_number NoAnswer = 15
kind_number AnswerKey = 16
kind_number AnswerForm = 17
kind_number AnswerToggle = 18
kind_number AnswerSize = 19
kind_number AnswerCrc = 20
kind_number AnswerState = 21
kind_number AbortKey = 22
kind_number AbortEarly = 23
kind_number ValueLength = 24
kind_number ValueConst = 25
kind_number ValueHeld = 26
kind_number AccessRead = 27
kind_number AccessWrite = 28
kind_number AccessLimits = 29
