-- The uploads that explain says are done, and those that the channel of co_sdo has served whole.
use Rattle.std.specs.Prelude.{ℕ, suc, Bool, true, false, List, [], ◌∷◌, ◌++◌, length, Option, Some, None, if◌then◌else◌}
use Rattle.std.specs.List.{list_any}
use Rattle.co_value.specs.declared.key.Key.{Key}
use Rattle.co_frame.specs.SdoRequests.{request_in}
use Rattle.co_frame.specs.declared.sdo_request.SdoRequest.{SdoRequest}
use Rattle.co_frame.specs.declared.sdo_request.SdoRequest.TheVariants.{Upload as UploadInitiate, BlockUploadInitiate}
use Rattle.co_dict.specs.Rows.{Contents}
use Rattle.co_dict.specs.Stores.{Description}
use Rattle.co_sdo.specs.Log.{Answer, Log, Exchanged, Ticked, TimedOut, Dropped}
use Rattle.co_sdo.specs.OpenTransfers.{Since, is_last_part, is_upload_end, since_initiate}
use Rattle.co_sdo.specs.Opened.{is_end_sent}
use Rattle.co_sdo.specs.Uploads.{value_at}
use Rattle.conode_explain_transfers.specs.declared.ended.Ended.{Ended}
use Rattle.conode_explain_transfers.specs.declared.kinds.Direction.{Direction}
use Rattle.conode_explain_transfers.specs.declared.kinds.Direction.TheVariants.{Download, Upload}
use Rattle.conode_explain_transfers.specs.Data.{data_after}
use Rattle.conode_explain_transfers.specs.Followed.{Event, Framed, BootedUp, said}
use Rattle.conode_explain_laws.specs.Recordings.{Input, Received, Elapsed, Expired, Abandoned, Started, log_of, answers_with, recorded}
use Rattle.conode_explain_laws.specs.Downloads.{Complete, if_done}

-- ---- by explain

abbrev pub is_upload : Direction → Bool
is_upload Upload = true
is_upload Download = false

-- what explain says is read, where a transfer with these data ended with a frame
abbrev pub read_said : Option Ended → List ℕ → ℕ → List Complete
read_said None got frame = []
read_said (Some ended) got frame =
    if is_upload ended.direction
    then if_done ended.ending (record { frame = frame; key = ended.key; bytes = got } ∷ [])
    else []

-- the uploads that explain says are done, over a whole recording, newest first: the bytes are the
-- data that their frames carry
abbrev pub uploads_done : List Event → List Complete
uploads_done [] = []
uploads_done (Framed micros side frame ∷ older) =
    read_said (said older micros side frame).ended (data_after (Framed micros side frame ∷ older)) (length (Framed micros side frame ∷ older))
    ++ uploads_done older
uploads_done (BootedUp micros ∷ older) = uploads_done older

-- ---- by the channel

-- an upload: its entry, and the bytes that the entry had when it began
pub record Read : Type 0 where
  pub key : Key
  pub bytes : List ℕ

-- the upload of an initiate request, which came when the entries had these contents
abbrev pub upload_of : Option SdoRequest → Contents → Option Read
upload_of (Some (UploadInitiate key)) contents = Some (record { key = key; bytes = value_at contents key })
upload_of (Some (BlockUploadInitiate key block_size threshold)) contents = Some (record { key = key; bytes = value_at contents key })
upload_of _ contents = None

-- the upload of the last initiate request, with the bytes that its entry had when the request came
abbrev pub upload_since : Option Since → Option Read
upload_since None = None
upload_since (Some s) = upload_of (request_in s.begin.request) s.begin.contents

-- the upload that answers complete, where this is the channel's log after them: one of the answers
-- has all its bytes, or its last segment
abbrev pub answered_whole : List Answer → Log → Option Read
answered_whole answers log = if list_any is_last_part answers then upload_since (since_initiate log) else None

-- what the channel has sent last: its answers to the newest request, or the abort when a transfer
-- timed out
abbrev pub sent_last : Log → List Answer
sent_last [] = []
sent_last (Exchanged x ∷ log) = x.answers
sent_last (Ticked ∷ log) = sent_last log
sent_last (TimedOut answers ∷ log) = answers
sent_last (Dropped ∷ log) = sent_last log

-- the upload in blocks whose end the server has sent last (7.2.4.3.15): the client has acknowledged
-- all its segments
abbrev pub acknowledged_whole : Log → Option Read
acknowledged_whole log = if list_any is_end_sent (sent_last log) then upload_since (since_initiate log) else None

-- the upload in blocks that a request ends: it is the client's end
abbrev pub ended_by : Option SdoRequest → Option Read → Option Read
ended_by request acknowledged = if is_upload_end request then acknowledged else None

-- an upload that is served whole with a frame
abbrev pub read_served : Option Read → ℕ → List Complete
read_served None frame = []
read_served (Some upload) frame = record { frame = frame; key = upload.key; bytes = upload.bytes } ∷ []

-- the uploads that the channel serves whole, newest first: expedited and segmented ones with the
-- answer that has the last of their bytes, which is the newest frame of the recording then; those
-- in blocks with the client's end
abbrev pub uploads_served : (ℕ → ℕ) → Description → List Input → List Complete
uploads_served stamp d [] = []
uploads_served stamp d (Received contents frame ∷ older) =
    read_served (answered_whole (answers_with d contents frame (log_of d older)) (log_of d (Received contents frame ∷ older)))
    (length (recorded stamp d (Received contents frame ∷ older)))
    ++ (read_served (ended_by (request_in frame) (acknowledged_whole (log_of d older))) (suc (length (recorded stamp d older)))
    ++ uploads_served stamp d older)
uploads_served stamp d (Elapsed ∷ older) = uploads_served stamp d older
uploads_served stamp d (Expired ∷ older) = uploads_served stamp d older
uploads_served stamp d (Abandoned ∷ older) = uploads_served stamp d older
uploads_served stamp d (Started ∷ older) = uploads_served stamp d older
