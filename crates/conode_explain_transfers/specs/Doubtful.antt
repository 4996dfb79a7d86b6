-- Requests that were taken for segments. In a sub-block of a download a frame of the client whose number is
-- at most the block size is read as a segment (CiA 301, 7.2.4.3.10). A client that has given the download
-- up without an abort begins another transfer there, and its request is read so too. The server's answer
-- shows what it was.
use Rattle.std.specs.Prelude.{ℕ, ◌-◌, ◌&&◌, not, Bool, true, false, if◌then◌else◌, List, [], Option, Some, None}
use Rattle.co_frame.specs.SdoResponses.{response_in}
use Rattle.co_frame.specs.declared.sdo_response.SdoResponse.{SdoResponse}
use Rattle.co_frame.specs.declared.sdo_response.SdoResponse.TheVariants.{DownloadDone, UploadExpedited, UploadInitiated, Abort, BlockDownloadInitiated, BlockUploadInitiated}
use Rattle.co_value.specs.Keys.{same_key}
use Rattle.co_value.specs.declared.key.Key.{Key}
use Rattle.conode_explain_transfers.specs.declared.ended.Ended.{Ended}
use Rattle.conode_explain_transfers.specs.declared.ended.Ending.TheVariants.{Interrupted}
use Rattle.conode_explain_transfers.specs.declared.kinds.Side.{Side}
use Rattle.conode_explain_transfers.specs.declared.kinds.Side.TheVariants.{Client, Server}
use Rattle.conode_explain_transfers.specs.declared.kinds.What.{What}
use Rattle.conode_explain_transfers.specs.declared.kinds.What.TheVariants.{OutOfSequence, Unexpected}
use Rattle.conode_explain_transfers.specs.declared.reading.Reading.{Reading}
use Rattle.conode_explain_transfers.specs.declared.reading.Reading.TheVariants.{Begin}
use Rattle.conode_explain_transfers.specs.declared.transfer.Transfer.{Transfer}
use Rattle.conode_explain_transfers.specs.BlockTurns.{is_block}
use Rattle.conode_explain_transfers.specs.Endings.{ended}
use Rattle.conode_explain_transfers.specs.Readings.{plain_reading}
use Rattle.conode_explain_transfers.specs.Transfers.{begun, is_download}
use Rattle.conode_explain_transfers.specs.Unanswered.{multiplexer_of}

-- ---- the frame that may be a request

-- a segment that isn't the next one, or comes after the last
abbrev pub is_odd : What → Bool
is_odd (OutOfSequence number awaited) = true
is_odd Unexpected = true
is_odd _ = false

abbrev pub odd_bytes : What → List ℕ → List ℕ
odd_bytes what bytes = if is_odd what then bytes else []

-- the client's newest frame is kept with its stamp, if it is one
abbrev pub with_newest : Side → What → ℕ → List ℕ → Transfer → Transfer
with_newest Server what micros bytes transfer = transfer
with_newest Client what micros bytes transfer =
    record transfer { doubtful = record { id = 0; bytes = odd_bytes what bytes }; doubtful_at = micros }

abbrev pub noted : Side → What → ℕ → List ℕ → Option Transfer → Option Transfer
noted side what micros bytes None = None
noted side what micros bytes (Some transfer) = Some (with_newest side what micros bytes transfer)

-- the transfer that it begins, read as an initiate request
abbrev pub begun_by : Reading → Transfer → Option Transfer
begun_by (Begin initiate) transfer = Some (begun initiate transfer.doubtful_at transfer.doubtful.bytes)
begun_by _ transfer = None

-- ---- its answer

-- a response to initiate that a request asks for, by its protocol (CiA 301, 7.2.4.3.3, 7.2.4.3.6,
-- 7.2.4.3.9 and 7.2.4.3.13): an upload in blocks may be answered by another one
abbrev pub asks_for : Transfer → SdoResponse → Bool
asks_for request (DownloadDone key) = is_download request.direction && not (is_block request.protocol)
asks_for request (BlockDownloadInitiated key block_size) = is_download request.direction && is_block request.protocol
asks_for request (UploadExpedited key value) = not (is_download request.direction)
asks_for request (UploadInitiated key size) = not (is_download request.direction)
asks_for request (BlockUploadInitiated key size) = not (is_download request.direction) && is_block request.protocol
asks_for request _ = false

-- an entry that isn't this one; many devices send 0000:00 in each abort
abbrev pub names_other : Key → Key → Bool
names_other named key = not (same_key named key) && not (same_key named (record { index = 0; sub = 0 }))

-- a server answers it: such a response, or an abort, which is of the open transfer where that has the
-- same entry, or the abort 0000:00
abbrev pub answers : Key → Transfer → SdoResponse → Bool
answers entry request (Abort key code) = names_other request.key entry
answers entry request response = asks_for request response

-- the entry of the request is named in bytes 1 to 3
abbrev pub is_answer : Key → Transfer → Option SdoResponse → List ℕ → Bool
is_answer entry request None bytes = false
is_answer entry request (Some response) bytes = same_key (multiplexer_of bytes) request.key && answers entry request response

abbrev pub if_answered : Option Transfer → Key → List ℕ → Option Transfer
if_answered None entry bytes = None
if_answered (Some request) entry bytes = if is_answer entry request (response_in bytes) bytes then Some request else None

-- the transfer of the request that the server's frame answers
abbrev pub shown_by : Option Transfer → Side → List ℕ → Option Transfer
shown_by (Some transfer) Server bytes = if_answered (begun_by (plain_reading Client transfer.doubtful.bytes) transfer) transfer.key bytes
shown_by current side bytes = None

-- ---- before the frame

-- the transfer that is open then is that of the request
abbrev pub freed_by : Option Transfer → Option Transfer → Option Transfer
freed_by None current = current
freed_by (Some request) current = Some request

abbrev pub freed : Option Transfer → Side → List ℕ → Option Transfer
freed current side bytes = freed_by (shown_by current side bytes) current

-- the download that was open is left; the request is none of its frames
abbrev pub left_behind : Transfer → ℕ → Ended
left_behind transfer micros = ended (record transfer { frames = transfer.frames - 1 }) micros Interrupted

abbrev pub left_for : Option Transfer → Option Transfer → ℕ → Option Ended
left_for None current micros = None
left_for (Some request) None micros = None
left_for (Some request) (Some transfer) micros = Some (left_behind transfer micros)
