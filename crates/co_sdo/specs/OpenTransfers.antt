-- Which transfer is open after a log (CiA 301, 7.2.4.3): the exchanges since the last initiate.
use Rattle.std.specs.Prelude.{ℕ, ◌==◌, ◌||◌, ◌&&◌, Bool, true, false, not, List, [], ◌∷◌, Option, Some, None, if◌then◌else◌}
use Rattle.std.specs.List.{list_any}
use Rattle.std.specs.Option.{option_map_or}
use Rattle.co_frame.specs.SdoFields.{command}
use Rattle.co_frame.specs.SdoRequests.{request_in}
use Rattle.co_frame.specs.declared.sdo_request.SdoRequest.{SdoRequest}
use Rattle.co_frame.specs.declared.sdo_request.SdoRequest.TheVariants.{DownloadExpedited, DownloadInitiate, Upload, Abort, BlockUploadInitiate, BlockUploadEnd, BlockDownloadInitiate}
use Rattle.co_frame.specs.declared.sdo_response.SdoResponse.TheVariants.{UploadExpedited, UploadSegment}
use Rattle.co_sdo.specs.Log.{Answer, Response, Exchange, Event, Exchanged, Ticked, TimedOut, Dropped, Log, is_abort, exchanges, requests}
use Rattle.co_sdo.specs.SubBlocks.{has_last}
use Rattle.co_sdo.specs.Downloads.{is_whole_download}

-- the exchange of an initiate request, and the exchanges after it, newest first
pub record Transfer : Type 0 where
  pub begin : Exchange
  pub later : List Exchange

-- a request that initiates a transfer, expedited too
abbrev pub is_initiate : Option SdoRequest → Bool
is_initiate (Some (DownloadExpedited key expedited)) = true
is_initiate (Some (DownloadInitiate key size)) = true
is_initiate (Some (Upload key)) = true
is_initiate (Some (BlockUploadInitiate key block_size threshold)) = true
is_initiate (Some (BlockDownloadInitiate key size)) = true
is_initiate _ = false

-- after this initiate and these requests, newest first, the next frame falls inside a sub-block
abbrev pub is_inside_after : Option SdoRequest → List (List ℕ) → Bool
is_inside_after (Some (BlockDownloadInitiate key size)) later = not (has_last later)
is_inside_after _ later = false

-- the next frame falls inside a sub-block: a block download was initiated, and its last segment not
-- yet taken
abbrev pub is_inside : Transfer → Bool
is_inside t = is_inside_after (request_in t.begin.request) (requests t.later)

-- a request is an abort (7.2.4.3.17)
abbrev pub is_abort_request : Option SdoRequest → Bool
is_abort_request (Some (Abort key code)) = true
is_abort_request _ = false

-- an abort received: inside a sub-block the command 80h alone is one, since any other frame is a
-- segment there
abbrev pub is_abort_received : Bool → List ℕ → Bool
is_abort_received true request = command request == 0x80
is_abort_received false request = is_abort_request (request_in request)

-- an event that ends a transfer early: an abort received or sent, or a drop
abbrev pub is_cut : Bool → Event → Bool
is_cut inside (Exchanged x) = is_abort_received inside x.request || list_any is_abort x.answers
is_cut inside Ticked = false
is_cut inside (TimedOut answers) = true
is_cut inside Dropped = true

-- the initiate request was refused, or an event after it ends the transfer early; whether an event
-- is inside a sub-block depends on the events before it
abbrev pub has_cut : Exchange → Log → Bool
has_cut begin [] = list_any is_abort begin.answers
has_cut begin (e ∷ older) = is_cut (is_inside (record { begin = begin; later = exchanges older })) e || has_cut begin older

-- an answer that completes an upload: all its bytes at once, or its last segment
abbrev pub is_last_part : Answer → Bool
is_last_part (Response (UploadExpedited key expedited)) = true
is_last_part (Response (UploadSegment toggle segment last)) = last
is_last_part _ = false

-- the newest exchange of a transfer
abbrev pub newest : Exchange → List Exchange → Exchange
newest begin [] = begin
newest begin (x ∷ older) = x

-- a request is the client's end of a block upload (7.2.4.3.15)
abbrev pub is_upload_end : Option SdoRequest → Bool
is_upload_end (Some BlockUploadEnd) = true
is_upload_end _ = false

-- an upload is finished after this initiate, with its newest exchange
abbrev pub is_uploaded : Option SdoRequest → Exchange → Bool
is_uploaded (Some (Upload key)) last = list_any is_last_part last.answers
is_uploaded (Some (BlockUploadInitiate key block_size threshold)) last = is_upload_end (request_in last.request)
is_uploaded _ last = false

-- a transfer is finished: a whole download, an upload whose last segment was sent, or a block
-- upload that the client has ended
abbrev pub is_finished : Transfer → Bool
is_finished t = is_whole_download t.begin.request (requests t.later) || is_uploaded (request_in t.begin.request) (newest t.begin t.later)

-- the last initiate of a log, and the events after it, newest first
pub record Since : Type 0 where
  pub begin : Exchange
  pub later : Log

-- the transfer of an initiate and the events after it
abbrev pub transfer_of : Since → Transfer
transfer_of s = record { begin = s.begin; later = exchanges s.later }

-- the transfer since an initiate, unless it ended early or is finished
abbrev pub open_since : Option Since → Option Transfer
open_since None = None
open_since (Some s) = if has_cut s.begin s.later || is_finished (transfer_of s) then None else Some (transfer_of s)

-- a request initiates a transfer, unless it falls inside a sub-block
abbrev pub begins : Option Transfer → List ℕ → Bool
begins current request = not (option_map_or is_inside current false) && is_initiate (request_in request)

-- one more event after an initiate
abbrev pub and_event : Event → Option Since → Option Since
and_event e None = None
and_event e (Some s) = Some (record { begin = s.begin; later = e ∷ s.later })

-- the last initiate, with one more event
abbrev pub since_with : Event → Option Since → Option Since
since_with (Exchanged x) s = if begins (open_since s) x.request then Some (record { begin = x; later = [] }) else and_event (Exchanged x) s
since_with Ticked s = and_event Ticked s
since_with (TimedOut answers) s = and_event (TimedOut answers) s
since_with Dropped s = and_event Dropped s

-- the last initiate of a log that isn't inside a sub-block, and the events after it
abbrev pub since_initiate : Log → Option Since
since_initiate [] = None
since_initiate (e ∷ log) = since_with e (since_initiate log)

-- the transfer that is open after a log
abbrev pub open_transfer : Log → Option Transfer
open_transfer log = open_since (since_initiate log)
