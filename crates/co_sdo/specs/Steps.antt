-- What one frame does to the open transfer, without the log.
use Rattle.std.specs.Prelude.{ℕ, ◌+◌, ◌==◌, ◌&&◌, Bool, false, not, nat_lt, nat_le, List, [], ◌++◌, length, Option, Some, None, if◌then◌else◌}
use Rattle.co_value.specs.declared.key.Key.{Key}
use Rattle.co_frame_aborts.specs.AbortCodes.{invalid_sequence_number}
use Rattle.co_frame.specs.SdoFields.{command}
use Rattle.co_frame.specs.SdoRequests.{request_in}
use Rattle.co_frame.specs.declared.sdo_request.SdoRequest.{SdoRequest}
use Rattle.co_frame.specs.declared.sdo_request.SdoRequest.TheVariants.{DownloadExpedited, DownloadInitiate, DownloadSegment, Upload, UploadSegment, BlockUploadInitiate, BlockUploadAcknowledge, BlockUploadStart, BlockDownloadInitiate, BlockDownloadEnd}
use Rattle.co_dict.specs.Rows.{Rows, Contents}
use Rattle.co_dict.specs.Stores.{Description}
use Rattle.co_dict.specs.Refusals.{refused_if, first_of}
use Rattle.co_sdo.specs.declared.stage.Stage.{Stage}
use Rattle.co_sdo.specs.declared.stage.Stage.TheVariants.{Download, Upload as Uploading, SubBlock, LastTaken, BlockUploadInitiated as Begun, BlockUpload, BlockUploadEnded}
use Rattle.co_sdo.specs.Refused.{capacity_at, reading_refusal, initiate_refusal, completion_refusal}
use Rattle.co_sdo.specs.SubBlocks.{ends_sub_block, is_last_taken}
use Rattle.co_sdo.specs.Downloads.{Download as Whole, is_odd, expedited_part, without}
use Rattle.co_sdo.specs.Uploads.{value_at, is_last_after, segment_count, sub_block_length}
use Rattle.co_sdo.specs.OpenTransfers.{is_initiate}
use Rattle.co_sdo.specs.Opened.{OpenTransfer}
use Rattle.co_sdo.specs.Completed.{unless}
use Rattle.co_sdo.specs.Replies.{toggle_refusal, block_size_refusal, segment_refusal, segment_next, taken_with, held_with, sub_block_refusal, is_in_sub_block}

-- ---- what is open after

-- an open transfer with this progress and these bytes
abbrev pub opened_at : Key → Stage → List ℕ → Option OpenTransfer
opened_at key stage bytes = Some (record { key = key; stage = stage; bytes = bytes })

-- after a segment of a download
abbrev pub after_segment : Description → Contents → OpenTransfer → Stage → Bool → List ℕ → Bool → Option OpenTransfer
after_segment d contents o (Download indicated expected) toggle part last =
    unless (segment_refusal d contents o indicated expected toggle part last) (if last then None else opened_at o.key (Download indicated (not expected)) (o.bytes ++ part))
after_segment d contents o _ toggle part last = None

-- the progress of a block download after the end of a sub-block
abbrev pub stage_after_frame : Option ℕ → ℕ → List ℕ → Stage
stage_after_frame indicated taken frame = if is_last_taken (segment_next taken frame) then LastTaken indicated else SubBlock indicated 0

-- after a frame inside a sub-block
abbrev pub after_frame : Rows → OpenTransfer → Option ℕ → ℕ → List ℕ → Option OpenTransfer
after_frame rows o indicated taken frame =
    if command frame == 0x80 then None
    else (if ends_sub_block frame
    then unless (sub_block_refusal rows o taken frame) (opened_at o.key (stage_after_frame indicated taken frame) (held_with o.bytes taken frame))
    else opened_at o.key (SubBlock indicated (taken_with taken frame)) (held_with o.bytes taken frame))

-- after the request of a segment of an upload
abbrev pub after_upload_segment : OpenTransfer → Stage → Bool → Option OpenTransfer
after_upload_segment o (Uploading sent) toggle =
    unless (toggle_refusal toggle (is_odd sent)) (if is_last_after sent o.bytes then None else opened_at o.key (Uploading (sent + 1)) o.bytes)
after_upload_segment o _ toggle = None

-- after the start of a block upload
abbrev pub after_start : OpenTransfer → Stage → Option OpenTransfer
after_start o (Begun block_size) = opened_at o.key (BlockUpload 0 (sub_block_length o.bytes 0 block_size)) o.bytes
after_start o _ = None

-- after the first `position` segments of a block upload are acknowledged
abbrev pub after_next_sub_block : OpenTransfer → ℕ → ℕ → Option OpenTransfer
after_next_sub_block o position block_size =
    if position == segment_count o.bytes then opened_at o.key BlockUploadEnded o.bytes
    else unless (block_size_refusal block_size) (opened_at o.key (BlockUpload position (sub_block_length o.bytes position block_size)) o.bytes)

-- after an acknowledgement of a sub-block of a block upload
abbrev pub after_acknowledge : OpenTransfer → Stage → ℕ → ℕ → Option OpenTransfer
after_acknowledge o (BlockUpload count sent) sequence block_size =
    unless (refused_if (nat_lt sent sequence) invalid_sequence_number) (after_next_sub_block o (count + sequence) block_size)
after_acknowledge o _ sequence block_size = None

-- after the initiate of an upload: 1 to 4 bytes are sent at once
abbrev pub after_upload_initiate : Key → List ℕ → Option OpenTransfer
after_upload_initiate key value = if nat_le 1 (length value) && nat_le (length value) 4 then None else opened_at key (Uploading 0) value

-- after a request that initiates a transfer
abbrev pub after_initiate : Description → Contents → SdoRequest → Option OpenTransfer
after_initiate d contents (DownloadInitiate key size) = unless (initiate_refusal d key size) (opened_at key (Download size false) [])
after_initiate d contents (Upload key) = unless (reading_refusal d contents key) (after_upload_initiate key (value_at contents key))
after_initiate d contents (BlockUploadInitiate key block_size threshold) =
    unless (first_of (reading_refusal d contents key) (block_size_refusal block_size)) (opened_at key (Begun block_size) (value_at contents key))
after_initiate d contents (BlockDownloadInitiate key size) = unless (initiate_refusal d key size) (opened_at key (SubBlock size 0) [])
after_initiate d contents _ = None

-- after a request that continues the open transfer
abbrev pub next_on : Option OpenTransfer → (OpenTransfer → Stage → Option OpenTransfer) → Option OpenTransfer
next_on None next = None
next_on (Some o) next = next o o.stage

-- after a request that initiates no transfer
abbrev pub after_later : Description → Contents → Option OpenTransfer → SdoRequest → Option OpenTransfer
after_later d contents current (DownloadSegment toggle segment last) = next_on current (λ o stage. after_segment d contents o stage toggle segment.items last)
after_later d contents current (UploadSegment toggle) = next_on current (λ o stage. after_upload_segment o stage toggle)
after_later d contents current BlockUploadStart = next_on current after_start
after_later d contents current (BlockUploadAcknowledge sequence block_size) = next_on current (λ o stage. after_acknowledge o stage sequence block_size)
after_later d contents current _ = None

-- after a request outside a sub-block
abbrev pub after_request : Description → Contents → Option OpenTransfer → Option SdoRequest → Option OpenTransfer
after_request d contents current None = None
after_request d contents current (Some request) =
    if is_initiate (Some request) then after_initiate d contents request else after_later d contents current request

-- after a frame inside a sub-block, by the progress of the transfer
abbrev pub after_frame_at : Rows → OpenTransfer → Stage → List ℕ → Option OpenTransfer
after_frame_at rows o (SubBlock indicated taken) frame = after_frame rows o indicated taken frame
after_frame_at rows o _ frame = None

-- the transfer that is open after a frame
abbrev pub opened_next : Description → Contents → Option OpenTransfer → List ℕ → Option OpenTransfer
opened_next d contents current frame =
    if is_in_sub_block current then next_on current (λ o stage. after_frame_at d.rows o stage frame)
    else after_request d contents current (request_in frame)

-- the room of a channel after a request: the capacity of the entry after the initiate of a
-- segmented download
abbrev pub room_after : Rows → ℕ → Option SdoRequest → ℕ
room_after rows room (Some (DownloadInitiate key size)) = capacity_at rows key
room_after rows room _ = room

-- and after a frame
abbrev pub room_next : Rows → ℕ → Option OpenTransfer → List ℕ → ℕ
room_next rows room current frame = if is_in_sub_block current then room else room_after rows room (request_in frame)

-- ---- what is set

-- a complete download
abbrev pub whole : Key → Option ℕ → List ℕ → Option Whole
whole key indicated bytes = Some (record { key = key; indicated = indicated; bytes = bytes })

-- the download that an expedited one sets
abbrev pub set_expedited : Description → Contents → Key → List ℕ → Option Whole
set_expedited d contents key bytes = unless (completion_refusal d contents key None bytes) (whole key None bytes)

-- the download that a segment sets
abbrev pub set_by_segment : Description → Contents → OpenTransfer → Stage → Bool → List ℕ → Bool → Option Whole
set_by_segment d contents o (Download indicated expected) toggle part last =
    unless (segment_refusal d contents o indicated expected toggle part last) (if last then whole o.key indicated (o.bytes ++ part) else None)
set_by_segment d contents o _ toggle part last = None

-- the download that the end of a block download sets
abbrev pub set_by_end : Description → Contents → OpenTransfer → Stage → ℕ → Option Whole
set_by_end d contents o (LastTaken indicated) unused =
    unless (completion_refusal d contents o.key indicated (without unused o.bytes)) (whole o.key indicated (without unused o.bytes))
set_by_end d contents o _ unused = None

-- the download that a request sets which continues the open transfer
abbrev pub set_on_open : Option OpenTransfer → (OpenTransfer → Stage → Option Whole) → Option Whole
set_on_open None set = None
set_on_open (Some o) set = set o o.stage

-- the download that a request outside a sub-block sets
abbrev pub set_by_request : Description → Contents → Option OpenTransfer → Option SdoRequest → Option Whole
set_by_request d contents current (Some (DownloadExpedited key expedited)) = set_expedited d contents key (expedited_part d.rows key expedited)
set_by_request d contents current (Some (DownloadSegment toggle segment last)) = set_on_open current (λ o stage. set_by_segment d contents o stage toggle segment.items last)
set_by_request d contents current (Some (BlockDownloadEnd unused)) = set_on_open current (λ o stage. set_by_end d contents o stage unused)
set_by_request d contents current _ = None

-- the download that a frame sets
abbrev pub set_next : Description → Contents → Option OpenTransfer → List ℕ → Option Whole
set_next d contents current frame = if is_in_sub_block current then None else set_by_request d contents current (request_in frame)
