-- The uploads of a channel are of entries that may be read: those that are open, those that the answers to a frame complete, and those in
-- blocks all of which is acknowledged.
use Rattle.std.proofs.Common.{◌≡◌, ℕ, ◌+◌, Bool, true, false, List, Option, Some, None, refl}
use Rattle.std.specs.Prelude.{◌==◌, ◌&&◌, nat_le, nat_lt, length, if◌then◌else◌, IfSome}
use Rattle.co_value.specs.declared.key.Key.{Key}
use Rattle.co_frame_aborts.specs.AbortCodes.{invalid_sequence_number}
use Rattle.co_frame.specs.SdoFields.{command}
use Rattle.co_frame.specs.SdoRequests.{request_in}
use Rattle.co_frame.specs.declared.sdo_request.SdoRequest.{SdoRequest}
use Rattle.co_frame.specs.declared.sdo_request.SdoRequest.TheVariants.{DownloadInitiate, DownloadSegment, Upload as UploadInitiate, UploadSegment as NextSegment, BlockUploadInitiate, BlockUploadAcknowledge, BlockUploadStart, BlockDownloadInitiate}
use Rattle.co_frame.specs.Segments.{is_odd}
use Rattle.co_dict.specs.Refusals.{first_of, refused_if}
use Rattle.co_dict.specs.Rows.{Contents}
use Rattle.co_dict.specs.Stores.{Description}
use Rattle.co_sdo.specs.declared.stage.Stage.{Stage}
use Rattle.co_sdo.specs.declared.stage.Stage.TheVariants.{Download as Receiving, Upload as Uploading, SubBlock, LastTaken, BlockUploadInitiated as Begun, BlockUpload, BlockUploadEnded}
use Rattle.co_sdo.specs.Completed.{unless}
use Rattle.co_sdo.specs.Opened.{OpenTransfer}
use Rattle.co_sdo.specs.OpenTransfers.{is_initiate}
use Rattle.co_sdo.specs.Refused.{initiate_refusal, reading_refusal}
use Rattle.co_sdo.specs.Replies.{block_size_refusal, held_with, is_in_sub_block, segment_next, segment_refusal, sub_block_refusal, toggle_refusal}
use Rattle.co_sdo.specs.Steps.{after_acknowledge, after_frame_at, after_initiate, after_later, after_next_sub_block, after_request, after_segment, after_start, after_upload_segment, next_on, opened_at, opened_next, stage_after_frame}
use Rattle.co_sdo.specs.SubBlocks.{ends_sub_block, is_last_taken}
use Rattle.co_sdo.specs.Uploads.{is_last_after, segment_count, sub_block_length, value_at}
use Rattle.conode_explain_laws.specs.Uploads.{Read}
use Rattle.conode_explain_laws.proofs.UploadSteps.{acknowledged_by, acknowledged_next, all_of, answered_by, answered_next, with_acknowledge, with_segment}

-- whatever entry
abbrev pub Any : Key → Type 0
Any key = Unit {0}

module _ (R : Key → Type 0) where
  -- an upload of such an entry
  abbrev pub IsAllowed : Option Read → Type 0
  IsAllowed o = IfSome o (λ r. R r.key)

  -- by its progress, an open transfer is none, or of such an entry
  abbrev pub IsStageAllowed : Key → Stage → Type 0
  IsStageAllowed key (Uploading sent) = R key
  IsStageAllowed key (Begun size) = R key
  IsStageAllowed key (BlockUpload position sent) = R key
  IsStageAllowed key BlockUploadEnded = R key
  IsStageAllowed key _ = Unit {0}

  abbrev pub IsOpenAllowed : Option OpenTransfer → Type 0
  IsOpenAllowed o = IfSome o (λ t. IsStageAllowed t.key t.stage)

  -- ---- by parts

  open_unless : (refusal : Option ℕ) (next : Option OpenTransfer) → IsOpenAllowed next → IsOpenAllowed (unless refusal next)
  open_unless None next h = h
  open_unless (Some code) next h = tt

  open_if : (b : Bool) (x y : Option OpenTransfer) → IsOpenAllowed x → IsOpenAllowed y → IsOpenAllowed (if b then x else y)
  open_if true x y p q = p
  open_if false x y p q = q

  read_unless : (refusal : Option ℕ) (o : Option Read) → IsAllowed o → IsAllowed (unless refusal o)
  read_unless None o h = h
  read_unless (Some code) o h = tt

  read_if : (b : Bool) (o : Option Read) → IsAllowed o → IsAllowed (if b then o else None)
  read_if true o h = h
  read_if false o h = tt

  -- ---- the transfer that is open after a frame

  module _ (d : Description) (allows : (c : Contents) (key : Key) → reading_refusal d c key ≡ None → R key) (contents : Contents) where
    -- a request that begins an upload, where reading isn't refused
    begun_open : (key : Key) (refusal : Option ℕ) (next : Option OpenTransfer) → reading_refusal d contents key ≡ refusal → (R key → IsOpenAllowed next) → IsOpenAllowed (unless refusal next)
    begun_open key None next is h = h (allows contents key is)
    begun_open key (Some code) next is h = tt

    blocks_open : (key : Key) (refusal other : Option ℕ) (next : Option OpenTransfer) → reading_refusal d contents key ≡ refusal → (R key → IsOpenAllowed next) → IsOpenAllowed (unless (first_of refusal other) next)
    blocks_open key None other next is h = open_unless other next (h (allows contents key is))
    blocks_open key (Some code) other next is h = tt

    initiate_open : (request : SdoRequest) → IsOpenAllowed (after_initiate d contents request)
    initiate_open (DownloadInitiate key size) = open_unless (initiate_refusal d key size) _ tt
    initiate_open (UploadInitiate key) =
        begun_open key (reading_refusal d contents key) _ refl
        (λ r. open_if (nat_le 1 (length (value_at contents key)) && nat_le (length (value_at contents key)) 4) None (opened_at key (Uploading 0) (value_at contents key)) tt r)
    initiate_open (BlockUploadInitiate key size threshold) = blocks_open key (reading_refusal d contents key) (block_size_refusal size) _ refl (λ r. r)
    initiate_open (BlockDownloadInitiate key size) = open_unless (initiate_refusal d key size) _ tt
    initiate_open _ = tt

    segment_open : (o : OpenTransfer) (stage : Stage) (toggle : Bool) (part : List ℕ) (last : Bool) → IsOpenAllowed (after_segment d contents o stage toggle part last)
    segment_open o (Receiving indicated expected) toggle part last =
        open_unless (segment_refusal d contents o indicated expected toggle part last) _ (open_if last None _ tt tt)
    segment_open o _ toggle part last = tt

    upload_open : (o : OpenTransfer) (stage : Stage) (toggle : Bool) → IsStageAllowed o.key stage → IsOpenAllowed (after_upload_segment o stage toggle)
    upload_open o (Uploading sent) toggle h =
        open_unless (toggle_refusal toggle (is_odd sent)) _ (open_if (is_last_after sent o.bytes) None (opened_at o.key (Uploading (sent + 1)) o.bytes) tt h)
    upload_open o _ toggle h = tt

    start_open : (o : OpenTransfer) (stage : Stage) → IsStageAllowed o.key stage → IsOpenAllowed (after_start o stage)
    start_open o (Begun size) h = h
    start_open o _ h = tt

    acknowledge_open : (o : OpenTransfer) (stage : Stage) (sequence size : ℕ) → IsStageAllowed o.key stage → IsOpenAllowed (after_acknowledge o stage sequence size)
    acknowledge_open o (BlockUpload position sent) sequence size h =
        let next : Option OpenTransfer = opened_at o.key (BlockUpload (position + sequence) (sub_block_length o.bytes (position + sequence) size)) o.bytes in
        open_unless (refused_if (nat_lt sent sequence) invalid_sequence_number) (after_next_sub_block o (position + sequence) size)
        (open_if (position + sequence == segment_count o.bytes) (opened_at o.key BlockUploadEnded o.bytes) (unless (block_size_refusal size) next) h (open_unless (block_size_refusal size) next h))
    acknowledge_open o _ sequence size h = tt

    later_open : (current : Option OpenTransfer) (request : SdoRequest) → IsOpenAllowed current → IsOpenAllowed (after_later d contents current request)
    later_open None (DownloadSegment toggle segment last) h = tt
    later_open None (NextSegment toggle) h = tt
    later_open None BlockUploadStart h = tt
    later_open None (BlockUploadAcknowledge sequence size) h = tt
    later_open (Some o) (DownloadSegment toggle segment last) h = segment_open o o.stage toggle segment.items last
    later_open (Some o) (NextSegment toggle) h = upload_open o o.stage toggle h
    later_open (Some o) BlockUploadStart h = start_open o o.stage h
    later_open (Some o) (BlockUploadAcknowledge sequence size) h = acknowledge_open o o.stage sequence size h
    later_open current _ h = tt

    request_open : (current : Option OpenTransfer) (r : Option SdoRequest) → IsOpenAllowed current → IsOpenAllowed (after_request d contents current r)
    request_open current None h = tt
    request_open current (Some request) h = open_if (is_initiate (Some request)) (after_initiate d contents request) (after_later d contents current request) (initiate_open request) (later_open current request h)

    -- inside a sub-block of a download
    stage_open : (key : Key) (b : Bool) (x y : Stage) → IsStageAllowed key x → IsStageAllowed key y → IsStageAllowed key (if b then x else y)
    stage_open key true x y p q = p
    stage_open key false x y p q = q

    frame_open : (o : OpenTransfer) (stage : Stage) (frame : List ℕ) → IsOpenAllowed (after_frame_at d.rows o stage frame)
    frame_open o (SubBlock indicated taken) frame =
        open_if (command frame == 0x80) None _ tt
        (open_if (ends_sub_block frame) _ _
        (open_unless (sub_block_refusal d.rows o taken frame) (opened_at o.key (stage_after_frame indicated taken frame) (held_with o.bytes taken frame))
        (stage_open o.key (is_last_taken (segment_next taken frame)) (LastTaken indicated) (SubBlock indicated 0) tt tt))
        tt)
    frame_open o _ frame = tt

    inside_open : (current : Option OpenTransfer) (frame : List ℕ) → IsOpenAllowed (next_on current (λ o stage. after_frame_at d.rows o stage frame))
    inside_open None frame = tt
    inside_open (Some o) frame = frame_open o o.stage frame

    pub opened_allowed : (current : Option OpenTransfer) (frame : List ℕ) → IsOpenAllowed current → IsOpenAllowed (opened_next d contents current frame)
    opened_allowed current frame h = open_if (is_in_sub_block current) _ (after_request d contents current (request_in frame)) (inside_open current frame) (request_open current (request_in frame) h)

    -- ---- the upload that the answers complete

    short_read : (key : Key) (refusal : Option ℕ) → reading_refusal d contents key ≡ refusal
        → IsAllowed (unless refusal (if nat_le 1 (length (value_at contents key)) && nat_le (length (value_at contents key)) 4 then Some (record { key = key; bytes = value_at contents key }) else None))
    short_read key None is = read_if (nat_le 1 (length (value_at contents key)) && nat_le (length (value_at contents key)) 4) (Some (record { key = key; bytes = value_at contents key })) (allows contents key is)
    short_read key (Some code) is = tt

    segment_read : (o : OpenTransfer) (stage : Stage) (toggle : Bool) → IsStageAllowed o.key stage → IsAllowed (with_segment o stage toggle)
    segment_read o (Uploading sent) toggle h = read_unless (toggle_refusal toggle (is_odd sent)) _ (read_if (is_last_after sent o.bytes) (all_of o) h)
    segment_read o _ toggle h = tt

    request_read : (current : Option OpenTransfer) (r : Option SdoRequest) → IsOpenAllowed current → IsAllowed (answered_by d contents current r)
    request_read current (Some (UploadInitiate key)) h = short_read key (reading_refusal d contents key) refl
    request_read None (Some (NextSegment toggle)) h = tt
    request_read (Some o) (Some (NextSegment toggle)) h = segment_read o o.stage toggle h
    request_read current (Some _) h = tt
    request_read current None h = tt

    pub answered_allowed : (current : Option OpenTransfer) (frame : List ℕ) → IsOpenAllowed current → IsAllowed (answered_next d contents current frame)
    answered_allowed current frame h = by (is_in_sub_block current)
      where
        by : (b : Bool) → IsAllowed (if b then None else answered_by d contents current (request_in frame))
        by true = tt
        by false = request_read current (request_in frame) h

  -- ---- the upload in blocks all of which is acknowledged

  acknowledge_read : (o : OpenTransfer) (stage : Stage) (sequence : ℕ) → IsStageAllowed o.key stage → IsAllowed (with_acknowledge o stage sequence)
  acknowledge_read o (BlockUpload position sent) sequence h =
      read_unless (refused_if (nat_lt sent sequence) invalid_sequence_number) _ (read_if (position + sequence == segment_count o.bytes) (all_of o) h)
  acknowledge_read o _ sequence h = tt

  by_acknowledge : (current : Option OpenTransfer) (r : Option SdoRequest) → IsOpenAllowed current → IsAllowed (acknowledged_by current r)
  by_acknowledge None (Some (BlockUploadAcknowledge sequence size)) h = tt
  by_acknowledge (Some o) (Some (BlockUploadAcknowledge sequence size)) h = acknowledge_read o o.stage sequence h
  by_acknowledge current (Some _) h = tt
  by_acknowledge current None h = tt

  pub acknowledged_allowed : (current : Option OpenTransfer) (frame : List ℕ) → IsOpenAllowed current → IsAllowed (acknowledged_next current frame)
  acknowledged_allowed current frame h = by (is_in_sub_block current)
    where
      by : (b : Bool) → IsAllowed (if b then None else acknowledged_by current (request_in frame))
      by true = tt
      by false = by_acknowledge current (request_in frame) h
