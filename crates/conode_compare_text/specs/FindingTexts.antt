-- The line of a difference.
use Rattle.std.specs.Prelude.{ℕ, ◌*◌, ◌==◌, Bool, true, false, if◌then◌else◌, List, [], ◌∷◌, codes, decimal}
use Rattle.std.specs.Fmt.{signed_decimal}
use Rattle.co_text.specs.Printed.{digits_text}
use Rattle.co_value.specs.declared.key.Key.{Key}
use Rattle.co_value.specs.KeyTexts.{key_text}
use Rattle.conode_compare_pdos.specs.declared.deviation.Deviation.{Deviation}
use Rattle.conode_compare_pdos.specs.declared.deviation.Deviation.TheVariants.{Length, NotOperational, WithoutSync, FewSyncs, Inhibit, Timer}
use Rattle.conode_compare_transfers.specs.declared.breach.Breach.{Breach}
use Rattle.conode_compare_transfers.specs.declared.breach.Breach.TheVariants.{Toggle, Form, AbortKey, Size, Crc, Early}
use Rattle.conode_compare_values.specs.declared.mismatch.Mismatch.{Mismatch}
use Rattle.conode_compare_values.specs.declared.mismatch.Mismatch.TheVariants.{ValueLength, ValueConst, ConstText, ReadRefused, ReadServed, Written, AboveLimit, BelowLimit, BeyondRoom}
use Rattle.conode_compare_nmt.specs.declared.finding.Finding.{Finding}
use Rattle.conode_compare_nmt.specs.declared.finding.Finding.TheVariants.{BootMissing, SecondBootUp, HeartbeatLength, NoState, WrongState, TwoStates, HeartbeatLate, LateAfterBootUp, LateAfterTransfer, HeartbeatOff, EmergencyLength, EmergencyStopped, EmergencyRegister, EmergencyInhibit, NoAnswer, Unasked, AnswerKey, AnswerForm, AnswerStopped, Transfer, Value, Held, Pdo}
use Rattle.conode_compare_nmt.specs.declared.finding.NmtState.{NmtState}
use Rattle.conode_compare_nmt.specs.declared.finding.NmtState.TheVariants.{Unknown, Initialising, PreOperational, Operational, Stopped}
use Rattle.conode_text.specs.Filled.{filled}
use Rattle.conode_compare_text.specs.declared.details.Details.{Details}
use Rattle.conode_compare_text.specs.Values.{bytes_text, came_text, line_text, millis_text, shown_value}

abbrev pub state_name : NmtState → List ℕ
state_name Unknown = codes "unknown"
state_name Initialising = codes "initialising"
state_name PreOperational = codes "pre-operational"
state_name Operational = codes "operational"
state_name Stopped = codes "stopped"

-- of a TPDO, so many SYNCs after the last one, by its transmission type
abbrev pub few_text : ℕ → ℕ → ℕ → List ℕ
few_text number syncs kind =
    if syncs == 1 then
    filled (codes "pdo-sync: TPDO% 1 SYNC after the last one, its type is %")
    (decimal number ∷ decimal kind ∷ [])
    else
    filled (codes "pdo-sync: TPDO% % SYNCs after the last one, its type is %")
    (decimal number ∷ decimal syncs ∷ decimal kind ∷ [])

-- of a TPDO by its number
unfoldable pub pdo_text : ℕ → Deviation → List ℕ
pdo_text number (Length length mapped) =
    filled (codes "pdo-length: TPDO% has %, its mapping %")
    (decimal number ∷ bytes_text length ∷ decimal mapped ∷ [])
pdo_text number NotOperational =
    filled (codes "pdo-state: TPDO% while the device isn't operational") (decimal number ∷ [])
pdo_text number WithoutSync =
    filled (codes "pdo-sync: TPDO% without a SYNC that it may answer") (decimal number ∷ [])
pdo_text number (FewSyncs syncs kind) = few_text number syncs kind
pdo_text number (Inhibit passed inhibit) =
    filled (codes "pdo-inhibit: TPDO% % since the last one, its inhibit time is %")
    (decimal number ∷ millis_text passed ∷ millis_text (inhibit * 100) ∷ [])
pdo_text number (Timer passed timer) =
    filled (codes "pdo-late: TPDO% % since the last one, its event timer has % ms")
    (decimal number ∷ millis_text passed ∷ decimal timer ∷ [])

-- of a transfer that was aborted so long after the client's last frame; with a timeout of 0 ms there is
-- none
abbrev pub early_text : Key → ℕ → ℕ → List ℕ
early_text key waited time =
    if time == 0 then
    filled (codes "abort-early: % was aborted as timed out, and the device has no timeout")
    (key_text key ∷ [])
    else
    filled (codes "abort-early: % was aborted as timed out % after the client's last frame, the timeout is % ms")
    (key_text key ∷ millis_text waited ∷ decimal time ∷ [])

-- in an open transfer, where the line has these details
unfoldable pub transfer_text : Details → Breach → List ℕ
transfer_text details (Toggle key) =
    filled (codes "answer-toggle: % is transferred, a segment has the wrong toggle bit")
    (key_text key ∷ [])
transfer_text details (Form key) =
    filled (codes "answer-form: % is transferred, which has no answer % here")
    (key_text key ∷ came_text details.came ∷ [])
transfer_text details (AbortKey key) =
    filled (codes "abort-key: % is transferred, the abort is of %")
    (key_text key ∷ key_text details.came.key ∷ [])
transfer_text details (Size key indicated bytes) =
    filled (codes "answer-size: % has %, its response to initiate has %")
    (key_text key ∷ bytes_text bytes ∷ decimal indicated ∷ [])
transfer_text details (Crc key came computed) =
    filled (codes "answer-crc: % has the CRC %h, that of its bytes is %h")
    (key_text key ∷ digits_text 16 4 came ∷ digits_text 16 4 computed ∷ [])
transfer_text details (Early key waited time) = early_text key waited time

-- at the end of a transfer
unfoldable pub mismatch_text : Details → Mismatch → List ℕ
mismatch_text details (ValueLength key length width) =
    filled (codes "value-length: % has %, its type %")
    (key_text key ∷ bytes_text length ∷ decimal width ∷ [])
mismatch_text details (ValueConst key shown held) =
    filled (codes "value-const: % has %, the sheet %")
    (key_text key ∷ shown_value details.value_type shown ∷ shown_value details.value_type held ∷ [])
mismatch_text details (ConstText key) =
    filled (codes "value-const: % has another text than the sheet") (key_text key ∷ [])
mismatch_text details (ReadRefused key code) =
    filled (codes "access-read: % refused with %, the sheet has it as readable")
    (key_text key ∷ digits_text 16 8 code.0 ∷ [])
mismatch_text details (ReadServed key) =
    filled (codes "access-read: % was read, the sheet has it as write only") (key_text key ∷ [])
mismatch_text details (Written key) =
    filled (codes "access-write: % was written, the sheet has it as read only") (key_text key ∷ [])
mismatch_text details (AboveLimit key) =
    filled (codes "access-limits: % was written, with %, its HighLimit is %")
    (key_text key ∷ signed_decimal details.passed.number ∷ signed_decimal details.passed.limit ∷ [])
mismatch_text details (BelowLimit key) =
    filled (codes "access-limits: % was written, with %, its LowLimit is %")
    (key_text key ∷ signed_decimal details.passed.number ∷ signed_decimal details.passed.limit ∷ [])
mismatch_text details (BeyondRoom key bytes room) =
    filled (codes "access-limits: % was written, with %, its room is %")
    (key_text key ∷ bytes_text bytes ∷ decimal room ∷ [])

-- an answer to an initiate request that has none of this form: by whether that asks to write
abbrev pub form_words : Bool → List ℕ
form_words true = codes "answer-form: a download to % was requested, which has no answer %"
form_words false = codes "answer-form: an upload of % was requested, which has no answer %"

-- the name of the kind, and what is different, where the line has these details
unfoldable pub finding_text : Details → Finding → List ℕ
finding_text details (BootMissing passed) =
    filled (codes "boot-missing: no boot-up % after the reset command") (millis_text passed ∷ [])
finding_text details (SecondBootUp passed) =
    filled (codes "second-sender: a boot-up % after the last one") (millis_text passed ∷ [])
finding_text details (HeartbeatLength length) =
    filled (codes "heartbeat-length: % bytes, not 1") (decimal length ∷ [])
finding_text details (NoState byte) =
    filled (codes "heartbeat-state: %h is no NMT state") (digits_text 16 2 byte ∷ [])
finding_text details (WrongState shown held) =
    filled (codes "heartbeat-state: %, but by commands and heartbeats it is %")
    (state_name shown ∷ state_name held ∷ [])
finding_text details (TwoStates shown held) =
    filled (codes "second-sender: %, again from % without a command")
    (state_name shown ∷ state_name held ∷ [])
finding_text details (HeartbeatLate passed period) =
    filled (codes "heartbeat-late: % since the last one, 1017:00 has % ms")
    (millis_text passed ∷ decimal period ∷ [])
finding_text details (LateAfterBootUp passed period) =
    filled (codes "heartbeat-late: % since the boot-up, 1017:00 has % ms")
    (millis_text passed ∷ decimal period ∷ [])
finding_text details (LateAfterTransfer passed period) =
    filled (codes "heartbeat-late: % since a transfer of 1017:00, which has % ms")
    (millis_text passed ∷ decimal period ∷ [])
finding_text details HeartbeatOff = codes "heartbeat-off: heartbeats go on, though 1017:00 has 0"
finding_text details (EmergencyLength length) =
    filled (codes "emcy-length: %, not 8") (bytes_text length ∷ [])
finding_text details EmergencyStopped = codes "emcy-state: an EMCY while stopped"
finding_text details (EmergencyRegister code register) =
    filled (codes "emcy-register: code %h with error register %h, whose bit 0 isn't set")
    (digits_text 16 4 code ∷ digits_text 16 2 register ∷ [])
finding_text details (EmergencyInhibit passed inhibit) =
    filled (codes "emcy-inhibit: % since the last one, 1015:00 has %")
    (millis_text passed ∷ millis_text (inhibit * 100) ∷ [])
finding_text details (NoAnswer key passed) =
    filled (codes "no-answer: % was requested % ago") (key_text key ∷ millis_text passed ∷ [])
finding_text details Unasked = codes "second-sender: an answer without a request"
finding_text details (AnswerKey key) =
    filled (codes "answer-key: % was requested, % is answered")
    (key_text key ∷ key_text details.came.key ∷ [])
finding_text details (AnswerForm key) =
    filled (form_words details.writes) (key_text key ∷ came_text details.came ∷ [])
finding_text details (AnswerStopped key) =
    filled (codes "answer-state: % is answered while stopped") (key_text key ∷ [])
finding_text details (Transfer breach) = transfer_text details breach
finding_text details (Value mismatch) = mismatch_text details mismatch
finding_text details (Held mismatch) =
    filled (codes "value-held: % has %, written was %")
    (key_text mismatch.key ∷ shown_value details.value_type mismatch.shown ∷ shown_value details.value_type mismatch.written ∷ [])
finding_text details (Pdo number deviation) = pdo_text number deviation

unfoldable pub finding_line : List ℕ → ℕ → Details → Finding → List ℕ
finding_line recording line details finding = line_text recording line (finding_text details finding)
