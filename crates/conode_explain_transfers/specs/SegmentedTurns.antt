-- Expedited and segmented transfers (CiA 301, 7.2.4.3.3 to 7.2.4.3.7): what one frame makes of an
-- open transfer.
use Rattle.std.specs.Prelude.{ℕ, Bool, false, not, if◌then◌else◌, List, Option, Some, None, length}
use Rattle.arrayvec.specs.ArrayVec.{ArrayVec}
use Rattle.co_value.specs.declared.key.Key.{Key}
use Rattle.co_value.specs.Keys.{same_key}
use Rattle.co_frame.specs.Segments.{same_bool}
use Rattle.conode_explain_transfers.specs.declared.kinds.Protocol.{Protocol}
use Rattle.conode_explain_transfers.specs.declared.kinds.Protocol.TheVariants.{Expedited, Segmented}
use Rattle.conode_explain_transfers.specs.declared.stage.Stage.{Stage}
use Rattle.conode_explain_transfers.specs.declared.stage.Stage.TheVariants.{DownloadConfirmed, DownloadSent, UploadTaken, UploadAsked, Confirmed}
use Rattle.conode_explain_transfers.specs.declared.transfer.Transfer.{Transfer}
use Rattle.conode_explain_transfers.specs.Stages.{is_initiated}
use Rattle.conode_explain_transfers.specs.Transfers.{Turn, is_download, irregular, unexpected, repeated, overtaken, goes_on, takes_data, takes_pending}

-- a response to initiate, where one is awaited: of this entry; or of another one, whose request was
-- overtaken by this one
abbrev pub answering : Transfer → Key → Turn → Turn
answering transfer key turn =
    if is_initiated transfer.stage then (if same_key key transfer.key then turn else overtaken transfer) else unexpected transfer

-- all data has been confirmed
abbrev pub confirmed : Transfer → Transfer
confirmed transfer = record transfer { stage = Confirmed None }

-- ---- downloads

-- initiate is confirmed: an expedited download is complete, of a segmented one the first segment
-- comes
abbrev pub download_answered : Transfer → Protocol → Turn
download_answered transfer Expedited = takes_pending (confirmed transfer) (length transfer.pending.items)
download_answered transfer Segmented = goes_on (record transfer { stage = DownloadConfirmed false })
download_answered transfer _ = unexpected transfer

abbrev pub download_done : Transfer → Key → Turn
download_done transfer key =
    answering transfer key (if is_download transfer.direction then download_answered transfer transfer.protocol else unexpected transfer)

-- the segment is sent, and not yet confirmed
abbrev pub segment_pending : Transfer → Bool → Bool → ArrayVec ℕ → Transfer
segment_pending transfer toggle last segment = record transfer { stage = DownloadSent toggle last; pending = record { items = segment.items } }

-- a segment is sent: the next one; or the one after one that isn't confirmed, whose confirmation is
-- missing in the recording
abbrev pub download_segment_at : Stage → Transfer → Bool → ArrayVec ℕ → Bool → Turn
download_segment_at (DownloadConfirmed awaited) transfer toggle segment last =
    if same_bool toggle awaited then goes_on (segment_pending transfer toggle last segment) else repeated transfer
download_segment_at (DownloadSent sent was_last) transfer toggle segment last =
    if same_bool toggle sent then repeated transfer
    else record (goes_on (segment_pending (irregular transfer) toggle last segment)) { takes = Some transfer.pending.items }
download_segment_at _ transfer toggle segment last = unexpected transfer

abbrev pub download_segment : Transfer → Bool → ArrayVec ℕ → Bool → Turn
download_segment transfer = download_segment_at transfer.stage transfer

-- how far a download is once a segment is confirmed
abbrev pub download_stage : Bool → Bool → Stage
download_stage toggle last = if last then Confirmed None else DownloadConfirmed (not toggle)

-- a segment is confirmed: the one that was sent; or one that is missing in the recording
abbrev pub segment_done_at : Stage → Transfer → Bool → Turn
segment_done_at (DownloadSent sent last) transfer toggle =
    if same_bool toggle sent then takes_pending (record transfer { stage = download_stage sent last }) (length transfer.pending.items)
    else repeated transfer
segment_done_at (DownloadConfirmed awaited) transfer toggle =
    if same_bool toggle awaited then goes_on (record (irregular transfer) { stage = DownloadConfirmed (not awaited) })
    else repeated transfer
segment_done_at _ transfer toggle = unexpected transfer

abbrev pub segment_done : Transfer → Bool → Turn
segment_done transfer = segment_done_at transfer.stage transfer

-- ---- uploads

-- an upload is answered at once, whichever protocol its request asked for
abbrev pub upload_expedited : Transfer → Key → List ℕ → Turn
upload_expedited transfer key bytes =
    answering transfer key
    (if is_download transfer.direction then unexpected transfer
    else takes_data (record (confirmed transfer) { protocol = Expedited; crc = false }) bytes)

-- an upload is answered in segments, whichever protocol its request asked for
abbrev pub upload_initiated : Transfer → Key → Option ℕ → Turn
upload_initiated transfer key size =
    answering transfer key
    (if is_download transfer.direction then unexpected transfer
    else goes_on (record transfer { protocol = Segmented; crc = false; size = size; stage = UploadTaken false }))

-- a segment is requested: the next one; or the one after one that hasn't come, and is missing in
-- the recording
abbrev pub upload_request_at : Stage → Transfer → Bool → Turn
upload_request_at (UploadTaken awaited) transfer toggle =
    if same_bool toggle awaited then goes_on (record transfer { stage = UploadAsked toggle }) else repeated transfer
upload_request_at (UploadAsked asked) transfer toggle =
    if same_bool toggle asked then repeated transfer else goes_on (record (irregular transfer) { stage = UploadAsked toggle })
upload_request_at _ transfer toggle = unexpected transfer

abbrev pub upload_request : Transfer → Bool → Turn
upload_request transfer = upload_request_at transfer.stage transfer

-- how far an upload is once a segment came
abbrev pub upload_stage : Bool → Bool → Stage
upload_stage toggle last = if last then Confirmed None else UploadTaken (not toggle)

-- a segment comes: the one that was requested; or one whose request is missing in the recording
abbrev pub upload_segment_at : Stage → Transfer → Bool → ArrayVec ℕ → Bool → Turn
upload_segment_at (UploadAsked asked) transfer toggle segment last =
    if same_bool toggle asked then takes_data (record transfer { stage = upload_stage toggle last }) segment.items
    else repeated transfer
upload_segment_at (UploadTaken awaited) transfer toggle segment last =
    if same_bool toggle awaited then takes_data (record (irregular transfer) { stage = upload_stage toggle last }) segment.items
    else repeated transfer
upload_segment_at _ transfer toggle segment last = unexpected transfer

abbrev pub upload_segment : Transfer → Bool → ArrayVec ℕ → Bool → Turn
upload_segment transfer = upload_segment_at transfer.stage transfer
