-- What a channel answers (CiA 301, 7.2.4.3).
use Rattle.std.specs.Prelude.{ℕ, ◌+◌, ◌==◌, ◌&&◌, Bool, true, false, not, nat_lt, nat_le, List, [], ◌∷◌, ◌++◌, length, Option, Some, None, if◌then◌else◌}
use Rattle.std.specs.Option.{option_map_or}
use Rattle.co_value.specs.declared.key.Key.{Key}
use Rattle.co_frame.specs.SegmentSizes.{segments_per_sub_block}
use Rattle.co_frame_aborts.specs.AbortCodes.{unknown_command, toggle_not_alternated, too_long, invalid_block_size, invalid_sequence_number, timed_out}
use Rattle.co_frame.specs.SdoRequests.{request_in}
use Rattle.co_frame.specs.declared.sdo_request.SdoRequest.{SdoRequest}
use Rattle.co_frame.specs.declared.sdo_request.SdoRequest.TheVariants.{DownloadExpedited, DownloadInitiate, DownloadSegment, Upload, UploadSegment, BlockUploadInitiate, BlockUploadEnd, BlockUploadAcknowledge, BlockUploadStart, BlockDownloadInitiate, BlockDownloadEnd}
use Rattle.co_frame.specs.declared.sdo_response.SdoResponse.TheVariants.{DownloadDone, DownloadSegmentDone, Abort as Aborted, BlockDownloadInitiated, BlockDownloadDone, BlockDownloadAcknowledge, BlockUploadInitiated}
use Rattle.co_dict.specs.Rows.{Rows, Contents}
use Rattle.co_dict.specs.Stores.{Description}
use Rattle.co_dict.specs.Refusals.{refused_if, first_of, first_refusal}
use Rattle.co_sdo.specs.declared.stage.Stage.{Stage}
use Rattle.co_sdo.specs.declared.stage.Stage.TheVariants.{Download, Upload as Uploading, SubBlock, LastTaken, BlockUploadInitiated as Begun, BlockUpload, BlockUploadEnded}
use Rattle.co_sdo.specs.Refused.{capacity_at, reading_refusal, initiate_refusal, completion_refusal}
use Rattle.co_sdo.specs.Log.{Answer, Response, Log}
use Rattle.co_sdo.specs.SubBlocks.{ends_sub_block, is_last_taken}
pub use Rattle.co_sdo_segments.specs.Taken.{segment_next, taken_with, held_with}
use Rattle.co_sdo.specs.Downloads.{is_odd, same_bool, expedited_part, without}
use Rattle.co_sdo.specs.Uploads.{value_at, upload_initiated, upload_segment, segment_count, sub_block_sent, block_upload_end}
use Rattle.co_sdo.specs.OpenTransfers.{is_initiate}
use Rattle.co_sdo.specs.Opened.{OpenTransfer, opened_after}

-- an abort with a key and a code (7.2.4.3.17)
abbrev pub aborted : Key → ℕ → List Answer
aborted key code = Response (Aborted key (record { 0 = code })) ∷ []

-- the answers, or an abort after a refusal
abbrev pub unless_refused : Option ℕ → Key → List Answer → List Answer
unless_refused None key answers = answers
unless_refused (Some code) key answers = aborted key code

-- the key of the open transfer; index 0 and sub-index 0 if none is open
abbrev pub open_key : Option OpenTransfer → Key
open_key None = record { index = 0; sub = 0 }
open_key (Some o) = o.key

-- a request that fits no open transfer: command specifier not valid or unknown
abbrev pub unexpected : Option OpenTransfer → List Answer
unexpected current = aborted (open_key current) unknown_command

-- a toggle that isn't the one expected
abbrev pub toggle_refusal : Bool → Bool → Option ℕ
toggle_refusal toggle expected = refused_if (not (same_bool toggle expected)) toggle_not_alternated

-- more bytes than the entry has room for
abbrev pub room_refusal : Rows → Key → List ℕ → Option ℕ
room_refusal rows key bytes = refused_if (nat_lt (capacity_at rows key) (length bytes)) too_long

-- a block size is 1 to 127
abbrev pub block_size_refusal : ℕ → Option ℕ
block_size_refusal size = refused_if (not (nat_le 1 size && nat_le size segments_per_sub_block)) invalid_block_size

-- ---- downloads

-- why a segment of a segmented download is refused: its toggle, its room, and if c = 1 the
-- completion
abbrev pub segment_refusal : Description → Contents → OpenTransfer → Option ℕ → Bool → Bool → List ℕ → Bool → Option ℕ
segment_refusal d contents o indicated expected toggle part last = first_refusal (toggle_refusal toggle expected
    ∷ room_refusal d.rows o.key (o.bytes ++ part)
    ∷ (if last then completion_refusal d contents o.key indicated (o.bytes ++ part) else None)
    ∷ [])

-- the answers to a segment of a download
abbrev pub segment_answers : Description → Contents → OpenTransfer → Stage → Bool → List ℕ → Bool → List Answer
segment_answers d contents o (Download indicated expected) toggle part last =
    unless_refused (segment_refusal d contents o indicated expected toggle part last) o.key (Response (DownloadSegmentDone toggle) ∷ [])
segment_answers d contents o _ toggle part last = unexpected (Some o)

-- the end of a sub-block is refused if the entry has no room for the bytes held, unless the last
-- segment was taken
abbrev pub sub_block_refusal : Rows → OpenTransfer → ℕ → List ℕ → Option ℕ
sub_block_refusal rows o taken frame =
    if is_last_taken (segment_next taken frame) then None else room_refusal rows o.key (held_with o.bytes taken frame)

-- the answers to a frame inside a sub-block: none before its end
abbrev pub sub_block_answers : Rows → OpenTransfer → ℕ → List ℕ → List Answer
sub_block_answers rows o taken frame =
    if ends_sub_block frame
    then unless_refused (sub_block_refusal rows o taken frame) o.key (Response (BlockDownloadAcknowledge (taken_with taken frame) segments_per_sub_block) ∷ [])
    else []

-- the answers to the end of a block download
abbrev pub block_end_answers : Description → Contents → OpenTransfer → Stage → ℕ → List Answer
block_end_answers d contents o (LastTaken indicated) unused =
    unless_refused (completion_refusal d contents o.key indicated (without unused o.bytes)) o.key (Response BlockDownloadDone ∷ [])
block_end_answers d contents o _ unused = unexpected (Some o)

-- ---- uploads

-- the answers to the request of an upload's segment
abbrev pub upload_answers : OpenTransfer → Stage → Bool → List Answer
upload_answers o (Uploading sent) toggle = unless_refused (toggle_refusal toggle (is_odd sent)) o.key (upload_segment toggle sent o.bytes)
upload_answers o _ toggle = unexpected (Some o)

-- the answers to the start of a block upload
abbrev pub start_answers : OpenTransfer → Stage → List Answer
start_answers o (Begun block_size) = sub_block_sent o.bytes 0 block_size
start_answers o _ = unexpected (Some o)

-- the answers after the first `position` segments are acknowledged: the end after the last, else
-- the next sub-block
abbrev pub next_sub_block : OpenTransfer → ℕ → ℕ → List Answer
next_sub_block o position block_size =
    if position == segment_count o.bytes then block_upload_end o.bytes
    else unless_refused (block_size_refusal block_size) o.key (sub_block_sent o.bytes position block_size)

-- the answers to an acknowledgement of a block upload's sub-block
abbrev pub acknowledge_answers : OpenTransfer → Stage → ℕ → ℕ → List Answer
acknowledge_answers o (BlockUpload count sent) sequence block_size =
    unless_refused (refused_if (nat_lt sent sequence) invalid_sequence_number) o.key (next_sub_block o (count + sequence) block_size)
acknowledge_answers o _ sequence block_size = unexpected (Some o)

-- the answers to the client's end of a block upload: none
abbrev pub upload_end_answers : OpenTransfer → Stage → List Answer
upload_end_answers o BlockUploadEnded = []
upload_end_answers o _ = unexpected (Some o)

-- ---- the table

-- the answers to an initiate request: its first refusal, or its confirmation
abbrev pub initiate_answers : Description → Contents → SdoRequest → List Answer
initiate_answers d contents (DownloadExpedited key expedited) =
    unless_refused (completion_refusal d contents key None (expedited_part d.rows key expedited)) key (Response (DownloadDone key) ∷ [])
initiate_answers d contents (DownloadInitiate key size) = unless_refused (initiate_refusal d key size) key (Response (DownloadDone key) ∷ [])
initiate_answers d contents (Upload key) = unless_refused (reading_refusal d contents key) key (upload_initiated key (value_at contents key))
initiate_answers d contents (BlockUploadInitiate key block_size threshold) =
    unless_refused (first_of (reading_refusal d contents key) (block_size_refusal block_size)) key (Response (BlockUploadInitiated key (Some (length (value_at contents key)))) ∷ [])
initiate_answers d contents (BlockDownloadInitiate key size) = unless_refused (initiate_refusal d key size) key (Response (BlockDownloadInitiated key segments_per_sub_block) ∷ [])
initiate_answers d contents _ = []

-- the answers to a request that continues the open transfer
abbrev pub on_open : Option OpenTransfer → (OpenTransfer → Stage → List Answer) → List Answer
on_open None answers = unexpected None
on_open (Some o) answers = answers o o.stage

-- the answers to a request that initiates no transfer
abbrev pub later_answers : Description → Contents → Option OpenTransfer → SdoRequest → List Answer
later_answers d contents current (DownloadSegment toggle segment last) = on_open current (λ o stage. segment_answers d contents o stage toggle segment.items last)
later_answers d contents current (UploadSegment toggle) = on_open current (λ o stage. upload_answers o stage toggle)
later_answers d contents current BlockUploadStart = on_open current start_answers
later_answers d contents current (BlockUploadAcknowledge sequence block_size) = on_open current (λ o stage. acknowledge_answers o stage sequence block_size)
later_answers d contents current BlockUploadEnd = on_open current upload_end_answers
later_answers d contents current (BlockDownloadEnd unused) = on_open current (λ o stage. block_end_answers d contents o stage unused)
later_answers d contents current _ = []

-- the answers to a request outside a sub-block; an abort is not answered
abbrev pub request_answers : Description → Contents → Option OpenTransfer → Option SdoRequest → List Answer
request_answers d contents current None = unexpected current
request_answers d contents current (Some request) =
    if is_initiate (Some request) then initiate_answers d contents request else later_answers d contents current request

-- a block download is inside a sub-block
abbrev pub is_sub_block : Stage → Bool
is_sub_block (SubBlock indicated taken) = true
is_sub_block _ = false

-- the open transfer is a block download, and the next frame falls inside a sub-block
abbrev pub is_in_sub_block : Option OpenTransfer → Bool
is_in_sub_block current = option_map_or (λ o. is_sub_block o.stage) current false

-- the answers to a frame inside a sub-block, by the progress of the transfer
abbrev pub frame_answers : Rows → OpenTransfer → Stage → List ℕ → List Answer
frame_answers rows o (SubBlock indicated taken) frame = sub_block_answers rows o taken frame
frame_answers rows o _ frame = unexpected (Some o)

-- the answers to a frame with this transfer open: inside a sub-block as a segment, elsewhere as a
-- request
abbrev pub answers_to : Description → Contents → Option OpenTransfer → List ℕ → List Answer
answers_to d contents current frame =
    if is_in_sub_block current then on_open current (λ o stage. frame_answers d.rows o stage frame)
    else request_answers d contents current (request_in frame)

-- the answers to a frame after a log
abbrev pub reply_to : Description → Contents → Log → List ℕ → List Answer
reply_to d contents log frame = answers_to d contents (opened_after log) frame

-- what is sent when a transfer times out
abbrev pub time_out_answers : Option OpenTransfer → List Answer
time_out_answers current = aborted (open_key current) timed_out

-- what is sent when the transfer that is open after a log times out
abbrev pub time_out_reply : Log → List Answer
time_out_reply log = time_out_answers (opened_after log)
