-- What a waiting client does at one more event (CiA 301, 7.2.4.3).
use Rattle.std.specs.Prelude.{ℕ, ◌+◌, ◌==◌, ◌&&◌, Bool, false, not, nat_lt, nat_le, List, [], ◌∷◌, ◌++◌, length, Option, Some, None, if◌then◌else◌}
use Rattle.std.specs.Option.{option_map_or}
use Rattle.co_value.specs.declared.key.Key.{Key}
use Rattle.co_value.specs.Keys.{same_key}
use Rattle.co_frame.specs.SegmentSizes.{segments_per_sub_block}
use Rattle.co_frame_aborts.specs.AbortCodes.{toggle_not_alternated, timed_out, unknown_command, invalid_block_size, invalid_sequence_number, out_of_memory, too_long, too_short}
use Rattle.co_frame.specs.BlockSegments.{is_abort_in_sub_block}
use Rattle.co_frame.specs.SdoParts.{code_in}
use Rattle.co_frame.specs.SdoResponses.{response_in}
use Rattle.co_frame.specs.declared.sdo_request.ExpeditedData.{ExpeditedData}
use Rattle.co_frame.specs.declared.sdo_request.ExpeditedData.TheVariants.{Indicated, NotIndicated}
use Rattle.co_frame.specs.declared.sdo_request.SdoRequest.TheVariants.{UploadSegment as NextSegment, BlockUploadEnd as UploadEnd, BlockUploadAcknowledge, BlockUploadStart}
use Rattle.co_frame.specs.declared.sdo_response.SdoResponse.{SdoResponse}
use Rattle.co_frame.specs.declared.sdo_response.SdoResponse.TheVariants.{DownloadDone, DownloadSegmentDone, UploadExpedited, UploadInitiated, UploadSegment, Abort as Aborted, BlockDownloadInitiated, BlockDownloadDone, BlockDownloadAcknowledge, BlockUploadInitiated, BlockUploadEnd}
use Rattle.co_sdo_client.specs.declared.stage.Stage.{Stage}
use Rattle.co_sdo_client.specs.declared.stage.Stage.TheVariants.{Begun, Download, Upload, BlockDownload, BlockDownloadEnded, SubBlock, LastTaken}
use Rattle.co_sdo_client.specs.declared.transfer.Transfer.{Transfer}
use Rattle.co_sdo_client.specs.declared.transfer.Transfer.TheVariants.{ExpeditedDownload, SegmentedDownload, BlockDownload as InBlocks, SegmentedUpload, BlockUpload}
use Rattle.co_sdo_client.specs.Calls.{Call, Message, Request, Event, Answered, Ticked, is_time_over}
use Rattle.co_sdo_client.specs.Segments.{is_odd, bytes_of, cap_of, transfer_of, segment_after, is_last_after, segment_count, sub_block_sent, block_download_end}
use Rattle.co_sdo_client.specs.SubBlocks.{ends_sub_block, is_last_taken}
pub use Rattle.co_sdo_segments.specs.Taken.{segment_next, taken_with, held_with}
use Rattle.co_sdo_client.specs.Stages.{stage_after, held_after}
pub use Rattle.co_frame.specs.Segments.{same_bool, without}

-- the reaction of a client to an event
pub data Verdict : Type 0 where
  -- the client goes on waiting, and sends these
  GoesOn : List Message → Verdict
  -- the transfer is complete: it sends these; the bytes are those of an upload
  Ends : List Message → List ℕ → Verdict
  -- it finds a fault, and aborts the transfer with this code
  GivesUp : ℕ → Verdict
  -- the server aborted the transfer with this code: nothing is sent
  IsAborted : ℕ → Verdict

-- the first fault that these checks find, in their order, else the verdict
abbrev pub unless_fault : List (Bool × ℕ) → Verdict → Verdict
unless_fault [] verdict = verdict
unless_fault (check ∷ checks) verdict = if check.0 then GivesUp check.1 else unless_fault checks verdict

-- an answer that isn't the awaited one
abbrev pub unexpected : Verdict
unexpected = GivesUp unknown_command

-- an answer has another key than the call
abbrev pub other_key : Call → Key → Bool × ℕ
other_key call key = (not (same_key key call.key), unknown_command)

-- a toggle isn't the expected one
abbrev pub other_toggle : Bool → Bool → Bool × ℕ
other_toggle toggle expected = (not (same_bool toggle expected), toggle_not_alternated)

-- `size` bytes are more than the call has room for
abbrev pub no_room : Call → ℕ → Bool × ℕ
no_room call size = (nat_lt (cap_of call.job) size, out_of_memory)

-- an indicated size is more than the call has room for
abbrev pub no_room_indicated : Call → Option ℕ → Bool × ℕ
no_room_indicated call size = no_room call (option_map_or (λ s. s) size 0)

-- more bytes than the indicated size
abbrev pub is_above_size : Option ℕ → ℕ → Bool
is_above_size size total = option_map_or (λ s. nat_lt s total) size false

-- the fault of more bytes than the indicated size
abbrev pub above_indicated : Option ℕ → ℕ → Bool × ℕ
above_indicated size total = (is_above_size size total, too_long)

-- fewer bytes than the indicated size
abbrev pub is_below_size : Option ℕ → ℕ → Bool
is_below_size size total = option_map_or (λ s. nat_lt total s) size false

-- the fault of fewer bytes than the indicated size
abbrev pub below_indicated : Option ℕ → ℕ → Bool × ℕ
below_indicated size total = (is_below_size size total, too_short)

-- a block size is 1 to 127
abbrev pub bad_block_size : ℕ → Bool × ℕ
bad_block_size size = (not (nat_le 1 size && nat_le size segments_per_sub_block), invalid_block_size)

-- more segments are acknowledged than were sent
abbrev pub bad_sequence : ℕ → ℕ → Bool × ℕ
bad_sequence sent sequence = (nat_lt sent sequence, invalid_sequence_number)

-- ---- downloads

-- the confirmation of initiate SDO download
abbrev pub download_confirmed : Call → Transfer → Key → Verdict
download_confirmed call ExpeditedDownload key = unless_fault (other_key call key ∷ []) (Ends [] [])
download_confirmed call SegmentedDownload key = unless_fault (other_key call key ∷ []) (GoesOn (segment_after 0 (bytes_of call.job) ∷ []))
download_confirmed call _ key = unexpected

-- the segment after the first `count` is confirmed: the download is done after the last, else the
-- next is sent
abbrev pub segment_confirmed : List ℕ → ℕ → Verdict
segment_confirmed bytes count = if is_last_after count bytes then Ends [] [] else GoesOn (segment_after (count + 1) bytes ∷ [])

-- the confirmation of initiate SDO block download, with the first sub-block's size
abbrev pub block_download_confirmed : Call → Transfer → Key → ℕ → Verdict
block_download_confirmed call InBlocks key block_size =
    unless_fault (other_key call key ∷ bad_block_size block_size ∷ []) (GoesOn (sub_block_sent (bytes_of call.job) 0 block_size))
block_download_confirmed call _ key block_size = unexpected

-- the first `count` segments are acknowledged: the end follows the last, else the next sub-block
abbrev pub next_sub_block : List ℕ → ℕ → ℕ → Verdict
next_sub_block bytes count block_size =
    if count == segment_count bytes then GoesOn (block_download_end bytes)
    else unless_fault (bad_block_size block_size ∷ []) (GoesOn (sub_block_sent bytes count block_size))

-- ---- uploads

-- the data of an expedited upload: without a size all four bytes
abbrev pub expedited_value : ExpeditedData → List ℕ
expedited_value (Indicated counted) = counted.items
expedited_value (NotIndicated four) = four

-- a whole upload in one answer
abbrev pub upload_expedited : Call → Transfer → Key → List ℕ → Verdict
upload_expedited call SegmentedUpload key value = unless_fault (other_key call key ∷ no_room call (length value) ∷ []) (Ends [] value)
upload_expedited call _ key value = unexpected

-- the confirmation of initiate SDO upload: the first segment is requested
abbrev pub upload_confirmed : Call → Transfer → Key → Option ℕ → Verdict
upload_confirmed call SegmentedUpload key size =
    unless_fault (other_key call key ∷ no_room_indicated call size ∷ []) (GoesOn (Request (NextSegment false) ∷ []))
upload_confirmed call _ key size = unexpected

-- the last segment was taken: the total is compared with the indicated size
abbrev pub upload_complete : Option ℕ → List ℕ → Verdict
upload_complete size value = unless_fault (above_indicated size (length value) ∷ below_indicated size (length value) ∷ []) (Ends [] value)

-- a segment of an upload
abbrev pub upload_segment_taken : Call → Option ℕ → Bool → List ℕ → Bool → Bool → Verdict
upload_segment_taken call size expected value toggle last =
    unless_fault (other_toggle toggle expected ∷ no_room call (length value) ∷ [])
    (if last then upload_complete size value else GoesOn (Request (NextSegment (not expected)) ∷ []))

-- the confirmation of initiate SDO block upload: the upload is started
abbrev pub block_upload_confirmed : Call → Transfer → Key → Option ℕ → Verdict
block_upload_confirmed call BlockUpload key size =
    unless_fault (other_key call key ∷ no_room_indicated call size ∷ []) (GoesOn (Request BlockUploadStart ∷ []))
block_upload_confirmed call _ key size = unexpected

-- the end of a sub-block: it is acknowledged, unless more segments follow and the call has no room
-- for the bytes held
abbrev pub sub_block_end : Call → ℕ → List ℕ → List ℕ → Verdict
sub_block_end call taken held frame =
    unless_fault ((if is_last_taken (segment_next taken frame) then (false, 0) else no_room call (length (held_with held taken frame))) ∷ [])
    (GoesOn (Request (BlockUploadAcknowledge (taken_with taken frame) segments_per_sub_block) ∷ []))

-- a frame inside a sub-block: command 80h is an abort, any other frame a segment or ignored
abbrev pub sub_block_verdict : Call → ℕ → List ℕ → List ℕ → Verdict
sub_block_verdict call taken held frame =
    if is_abort_in_sub_block frame then IsAborted (code_in frame).0
    else (if ends_sub_block frame then sub_block_end call taken held frame else GoesOn [])

-- the end of a block upload: the total is compared with the indicated size, then with the room
abbrev pub block_upload_complete : Call → Option ℕ → List ℕ → Verdict
block_upload_complete call size value =
    unless_fault (above_indicated size (length value) ∷ below_indicated size (length value) ∷ no_room call (length value) ∷ [])
    (Ends (Request UploadEnd ∷ []) value)

-- ---- the table: by how far the transfer is and by the answer

-- an answer to the initiate request
abbrev pub initiate_verdict : Call → SdoResponse → Verdict
initiate_verdict call (DownloadDone key) = download_confirmed call (transfer_of call) key
initiate_verdict call (BlockDownloadInitiated key block_size) = block_download_confirmed call (transfer_of call) key block_size
initiate_verdict call (UploadExpedited key expedited) = upload_expedited call (transfer_of call) key (expedited_value expedited)
initiate_verdict call (UploadInitiated key size) = upload_confirmed call (transfer_of call) key size
initiate_verdict call (BlockUploadInitiated key size) = block_upload_confirmed call (transfer_of call) key size
initiate_verdict call _ = unexpected

-- an answer that is no abort
abbrev pub stage_verdict : Call → Stage → List ℕ → SdoResponse → Verdict
stage_verdict call Begun held response = initiate_verdict call response
stage_verdict call (Download confirmed) held (DownloadSegmentDone toggle) =
    unless_fault (other_toggle toggle (is_odd confirmed) ∷ []) (segment_confirmed (bytes_of call.job) confirmed)
stage_verdict call (Upload size expected) held (UploadSegment toggle segment last) =
    upload_segment_taken call size expected (held ++ segment.items) toggle last
stage_verdict call (BlockDownload count sent) held (BlockDownloadAcknowledge sequence block_size) =
    unless_fault (bad_sequence sent sequence ∷ []) (next_sub_block (bytes_of call.job) (count + sequence) block_size)
stage_verdict call BlockDownloadEnded held BlockDownloadDone = Ends [] []
stage_verdict call (LastTaken size) held (BlockUploadEnd unused) = block_upload_complete call size (without unused held)
stage_verdict call _ held _ = unexpected

-- an answer outside a sub-block; an abort counts whatever its key
abbrev pub response_verdict : Call → Stage → List ℕ → Option SdoResponse → Verdict
response_verdict call stage held None = unexpected
response_verdict call stage held (Some (Aborted key code)) = IsAborted code.0
response_verdict call stage held (Some response) = stage_verdict call stage held response

-- an answer: inside a sub-block as a segment
abbrev pub answer_verdict : Call → Stage → List ℕ → List ℕ → Verdict
answer_verdict call (SubBlock size taken) held frame = sub_block_verdict call taken held frame
answer_verdict call stage held frame = response_verdict call stage held (response_in frame)

-- what a client that waits after older events does at one more event
abbrev pub verdict : Call → List Event → Event → Verdict
verdict call older (Answered frame) = answer_verdict call (stage_after call older) (held_after call older) frame
verdict call older Ticked = if is_time_over call.time (Ticked ∷ older) then GivesUp timed_out else GoesOn []
