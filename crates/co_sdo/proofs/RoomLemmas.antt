-- The room that a channel knows is that of the entry of its segmented download, also after one more frame.
use Rattle.std.proofs.Common.{◌≡◌, ℕ, ◌+◌, ◌*◌, ◌++◌, Bool, true, false, cond, not, List, [], length, Option, Some, None, refl}
use Rattle.std.specs.Prelude.{◌==◌, ◌&&◌, nat_le, nat_lt}
use Rattle.std.proofs.lemmas.Bool.{false≢true}
use Rattle.co_value.specs.declared.key.Key.{Key}
use Rattle.co_frame_aborts.specs.AbortCodes.{invalid_sequence_number}
use Rattle.co_frame.specs.SdoFields.{command}
use Rattle.co_frame.specs.SdoRequests.{request_in}
use Rattle.co_frame.specs.declared.sdo_request.SdoRequest.{SdoRequest}
use Rattle.co_frame.specs.declared.sdo_request.SdoRequest.TheVariants.{DownloadExpedited, DownloadInitiate, DownloadSegment, Upload, UploadSegment, BlockUploadInitiate, BlockUploadAcknowledge, BlockUploadStart, BlockDownloadInitiate}
use Rattle.co_dict.specs.Rows.{Rows, Contents}
use Rattle.co_dict.specs.Stores.{Description}
use Rattle.co_dict.specs.Refusals.{refused_if, first_of}
use Rattle.co_sdo.specs.declared.stage.Stage.{Stage}
use Rattle.co_sdo.specs.declared.stage.Stage.TheVariants.{Download, Upload as Uploading, SubBlock, LastTaken, BlockUploadInitiated as Begun, BlockUpload, BlockUploadEnded}
use Rattle.co_sdo.specs.Refused.{capacity_at, reading_refusal, initiate_refusal}
use Rattle.co_sdo.specs.SubBlocks.{ends_sub_block, is_last_taken}
use Rattle.co_sdo.specs.Downloads.{is_odd}
use Rattle.co_sdo.specs.Uploads.{value_at, segment_count, sub_block_length}
use Rattle.co_sdo.specs.Opened.{OpenTransfer}
use Rattle.co_sdo.specs.Completed.{unless}
use Rattle.co_sdo.specs.Replies.{toggle_refusal, block_size_refusal, segment_refusal, segment_next, taken_with, held_with, sub_block_refusal, is_in_sub_block}
use Rattle.co_sdo.specs.Steps.{opened_at, stage_after_frame, after_upload_initiate, after_next_sub_block, after_segment, after_frame_at, after_upload_segment, after_start, after_acknowledge, after_initiate, after_later, after_request, opened_next, room_after, room_next}
use Rattle.co_sdo.specs.Standing.{is_room_for, is_room_at}

of_unless : (rows : Rows) (room : ℕ) (refusal : Option ℕ) (next : Option OpenTransfer) → is_room_for rows room next → is_room_for rows room (unless refusal next)
of_unless rows room None next h = h
of_unless rows room (Some code) next h = tt

of_cond : (rows : Rows) (room : ℕ) (b : Bool) (one other : Option OpenTransfer) → is_room_for rows room one → is_room_for rows room other → is_room_for rows room (cond b one other)
of_cond rows room true one other h k = h
of_cond rows room false one other h k = k

-- after a begin
of_initiate : (d : Description) (contents : Contents) (room : ℕ) (request : SdoRequest) → is_room_for d.rows (room_after d.rows room (Some request)) (after_initiate d contents request)
of_initiate d contents room (DownloadInitiate key size) = of_unless d.rows (capacity_at d.rows key) (initiate_refusal d key size) (opened_at key (Download size false) []) refl
of_initiate d contents room (Upload key) =
    let value = value_at contents key in
    of_unless d.rows room (reading_refusal d contents key) (after_upload_initiate key value) (of_cond d.rows room (nat_le 1 (length value) && nat_le (length value) 4) None (opened_at key (Uploading 0) value) tt tt)
of_initiate d contents room (BlockUploadInitiate key block_size threshold) =
    of_unless d.rows room (first_of (reading_refusal d contents key) (block_size_refusal block_size)) (opened_at key (Begun block_size) (value_at contents key)) tt
of_initiate d contents room (BlockDownloadInitiate key size) = of_unless d.rows room (initiate_refusal d key size) (opened_at key (SubBlock size 0) []) tt
of_initiate d contents room _ = tt

of_segment : (d : Description) (contents : Contents) (room : ℕ) (o : OpenTransfer) (stage : Stage) (toggle : Bool) (part : List ℕ) (last : Bool)
    → is_room_at d.rows room o.key stage → is_room_for d.rows room (after_segment d contents o stage toggle part last)
of_segment d contents room o (Download indicated expected) toggle part last h =
    let next = opened_at o.key (Download indicated (not expected)) (o.bytes ++ part) in
    of_unless d.rows room (segment_refusal d contents o indicated expected toggle part last) (cond last None next) (of_cond d.rows room last None next tt h)
of_segment d contents room o _ toggle part last h = tt

of_upload_segment : (rows : Rows) (room : ℕ) (o : OpenTransfer) (stage : Stage) (toggle : Bool) → is_room_for rows room (after_upload_segment o stage toggle)
of_upload_segment rows room o (Uploading sent) toggle =
    let next = opened_at o.key (Uploading (sent + 1)) o.bytes in
    of_unless rows room (toggle_refusal toggle (is_odd sent)) (cond (nat_le (length o.bytes) (7 * sent + 7)) None next) (of_cond rows room (nat_le (length o.bytes) (7 * sent + 7)) None next tt tt)
of_upload_segment rows room o _ toggle = tt

of_start : (rows : Rows) (room : ℕ) (o : OpenTransfer) (stage : Stage) → is_room_for rows room (after_start o stage)
of_start rows room o (Begun block_size) = tt
of_start rows room o _ = tt

of_acknowledge : (rows : Rows) (room : ℕ) (o : OpenTransfer) (stage : Stage) (sequence block_size : ℕ) → is_room_for rows room (after_acknowledge o stage sequence block_size)
of_acknowledge rows room o (BlockUpload count sent) sequence block_size =
    let next = opened_at o.key (BlockUpload (count + sequence) (sub_block_length o.bytes (count + sequence) block_size)) o.bytes in
    of_unless rows room (refused_if (nat_lt sent sequence) invalid_sequence_number) (after_next_sub_block o (count + sequence) block_size)
    (of_cond rows room (count + sequence == segment_count o.bytes) (opened_at o.key BlockUploadEnded o.bytes) (unless (block_size_refusal block_size) next) tt
    (of_unless rows room (block_size_refusal block_size) next tt))
of_acknowledge rows room o _ sequence block_size = tt

-- after a request that goes on with what is open
of_later : (d : Description) (contents : Contents) (room : ℕ) (current : Option OpenTransfer) (request : SdoRequest)
    → is_room_for d.rows room current → is_room_for d.rows room (after_later d contents current request)
of_later d contents room None (DownloadSegment toggle segment last) h = tt
of_later d contents room (Some o) (DownloadSegment toggle segment last) h = of_segment d contents room o o.stage toggle segment.items last h
of_later d contents room None (UploadSegment toggle) h = tt
of_later d contents room (Some o) (UploadSegment toggle) h = of_upload_segment d.rows room o o.stage toggle
of_later d contents room None BlockUploadStart h = tt
of_later d contents room (Some o) BlockUploadStart h = of_start d.rows room o o.stage
of_later d contents room None (BlockUploadAcknowledge sequence block_size) h = tt
of_later d contents room (Some o) (BlockUploadAcknowledge sequence block_size) h = of_acknowledge d.rows room o o.stage sequence block_size
of_later d contents room current _ h = tt

of_request : (d : Description) (contents : Contents) (room : ℕ) (current : Option OpenTransfer) (request : Option SdoRequest)
    → is_room_for d.rows room current → is_room_for d.rows (room_after d.rows room request) (after_request d contents current request)
of_request d contents room current None h = tt
of_request d contents room current (Some (DownloadExpedited key expedited)) h = tt
of_request d contents room current (Some (DownloadInitiate key size)) h = of_initiate d contents room (DownloadInitiate key size)
of_request d contents room current (Some (Upload key)) h = of_initiate d contents room (Upload key)
of_request d contents room current (Some (BlockUploadInitiate key block_size threshold)) h = of_initiate d contents room (BlockUploadInitiate key block_size threshold)
of_request d contents room current (Some (BlockDownloadInitiate key size)) h = of_initiate d contents room (BlockDownloadInitiate key size)
of_request d contents room current (Some (DownloadSegment toggle segment last)) h = of_later d contents room current (DownloadSegment toggle segment last) h
of_request d contents room current (Some (UploadSegment toggle)) h = of_later d contents room current (UploadSegment toggle) h
of_request d contents room current (Some BlockUploadStart) h = of_later d contents room current BlockUploadStart h
of_request d contents room current (Some (BlockUploadAcknowledge sequence block_size)) h = of_later d contents room current (BlockUploadAcknowledge sequence block_size) h
of_request d contents room current (Some _) h = tt

-- after a frame inside a sub-block
of_last : (rows : Rows) (room : ℕ) (key : Key) (indicated : Option ℕ) (bytes : List ℕ) (last : Bool)
    → is_room_for rows room (Some (record { key = key; stage = cond last (LastTaken indicated) (SubBlock indicated 0); bytes = bytes }))
of_last rows room key indicated bytes true = tt
of_last rows room key indicated bytes false = tt

of_frame : (rows : Rows) (room : ℕ) (o : OpenTransfer) (stage : Stage) (frame : List ℕ) → is_room_for rows room (after_frame_at rows o stage frame)
of_frame rows room o (SubBlock indicated taken) frame =
    let ended = unless (sub_block_refusal rows o taken frame) (opened_at o.key (stage_after_frame indicated taken frame) (held_with o.bytes taken frame)) in
    let next = opened_at o.key (SubBlock indicated (taken_with taken frame)) (held_with o.bytes taken frame) in
    of_cond rows room (command frame == 0x80) None (cond (ends_sub_block frame) ended next) tt
    (of_cond rows room (ends_sub_block frame) ended next
    (of_unless rows room (sub_block_refusal rows o taken frame) (opened_at o.key (stage_after_frame indicated taken frame) (held_with o.bytes taken frame)) (of_last rows room o.key indicated (held_with o.bytes taken frame) (is_last_taken (segment_next taken frame)))) tt)
of_frame rows room o _ frame = tt

of_next : (d : Description) (contents : Contents) (room : ℕ) (current : Option OpenTransfer) (frame : List ℕ) (inside : Bool) → is_in_sub_block current ≡ inside
    → is_room_for d.rows room current → is_room_for d.rows (room_next d.rows room current frame) (opened_next d contents current frame)
of_next d contents room None frame true e h = absurd (false≢true e)
of_next d contents room (Some o) frame true e h = rw e (of_frame d.rows room o o.stage frame)
of_next d contents room current frame false e h = rw e (of_request d contents room current (request_in frame) h)

-- after a frame
pub room_is : (d : Description) (contents : Contents) (room : ℕ) (current : Option OpenTransfer) (frame : List ℕ)
    → is_room_for d.rows room current → is_room_for d.rows (room_next d.rows room current frame) (opened_next d contents current frame)
room_is d contents room current frame h = of_next d contents room current frame _ refl h
