-- The progress of an open transfer, and the bytes held for it (CiA 301, 7.2.4.3).
use Rattle.std.specs.Prelude.{◌≡◌, ℕ, zero, suc, ◌+◌, ◌&&◌, Bool, true, false, nat_lt, nat_le, is_some, List, [], ◌∷◌, length, Option, Some, None, if◌then◌else◌}
use Rattle.std.specs.List.{list_any}
use Rattle.std.specs.Option.{option_map_or}
use Rattle.co_value.specs.declared.key.Key.{Key}
use Rattle.co_frame.specs.SdoRequests.{request_in}
use Rattle.co_frame.specs.declared.sdo_request.SdoRequest.{SdoRequest}
use Rattle.co_frame.specs.declared.sdo_request.SdoRequest.TheVariants.{DownloadInitiate, Upload, BlockUploadInitiate, BlockUploadAcknowledge, BlockDownloadInitiate}
use Rattle.co_frame.specs.declared.sdo_response.SdoResponse.TheVariants.{BlockUploadEnd as EndSent}
use Rattle.co_sdo.specs.declared.stage.Stage.{Stage}
use Rattle.co_sdo.specs.declared.stage.Stage.TheVariants.{Download, Upload as Uploading, SubBlock, LastTaken, BlockUploadInitiated, BlockUpload, BlockUploadEnded}
use Rattle.co_sdo.specs.Log.{Answer, Response, Exchange, Log, Ticked, requests, ticks_quiet}
use Rattle.co_sdo.specs.SubBlocks.{sub_block, taken_segments, block_bytes, has_last}
use Rattle.co_sdo.specs.Downloads.{is_odd, segments_joined}
use Rattle.co_sdo.specs.Uploads.{value_at}
use Rattle.co_sdo.specs.OpenTransfers.{Transfer, open_transfer}

-- an open transfer as the next request finds it: its key, its progress, and its bytes. Those of a
-- download are its data so far, those of an upload the value of the entry at initiate
pub record OpenTransfer : Type 0 where
  pub key : Key
  pub stage : Stage
  pub bytes : List ℕ

-- how many segments of a block upload the client has acknowledged
abbrev pub acknowledged_by : Option SdoRequest → ℕ
acknowledged_by (Some (BlockUploadAcknowledge sequence block_size)) = sequence
acknowledged_by _ = 0

-- how many segments of a block upload these requests, newest first, have acknowledged
abbrev pub acknowledged : List (List ℕ) → ℕ
acknowledged [] = 0
acknowledged (frame ∷ older) = acknowledged older + acknowledged_by (request_in frame)

-- an answer is the server's end of a block upload
abbrev pub is_end_sent : Answer → Bool
is_end_sent (Response (EndSent unused)) = true
is_end_sent _ = false

-- a block upload: before its start, after a sub-block, or after the server's end
abbrev pub block_upload_stage : ℕ → List Exchange → Stage
block_upload_stage block_size [] = BlockUploadInitiated block_size
block_upload_stage block_size (x ∷ older) =
    if list_any is_end_sent x.answers then BlockUploadEnded
    else BlockUpload (acknowledged (requests (x ∷ older))) (length x.answers)

-- a block download: inside a sub-block, or after the segment with c = 1
abbrev pub block_download_stage : Option ℕ → List (List ℕ) → Stage
block_download_stage size later = if has_last later then LastTaken size else SubBlock size (length (taken_segments (sub_block later)))

-- the progress of a transfer and its bytes, by its initiate request
abbrev pub opened_by : Option SdoRequest → Transfer → Option OpenTransfer
opened_by (Some (DownloadInitiate key size)) t = Some (record { key = key; stage = Download size (is_odd (length (requests t.later))); bytes = segments_joined (requests t.later) })
opened_by (Some (Upload key)) t = Some (record { key = key; stage = Uploading (length t.later); bytes = value_at t.begin.contents key })
opened_by (Some (BlockUploadInitiate key block_size threshold)) t = Some (record { key = key; stage = block_upload_stage block_size t.later; bytes = value_at t.begin.contents key })
opened_by (Some (BlockDownloadInitiate key size)) t = Some (record { key = key; stage = block_download_stage size (requests t.later); bytes = block_bytes (requests t.later) })
opened_by _ t = None

-- the progress of a transfer, and its bytes
abbrev pub opened : Option Transfer → Option OpenTransfer
opened None = None
opened (Some t) = opened_by (request_in t.begin.request) t

-- the transfer that is open after a log, as the next request finds it
abbrev pub opened_after : Log → Option OpenTransfer
opened_after log = opened (open_transfer log)

-- how many bytes are held for an open transfer
abbrev pub bytes_held : Option OpenTransfer → ℕ
bytes_held current = option_map_or (λ o. length o.bytes) current 0

-- how many bytes are held after a log
abbrev pub held_bytes : Log → ℕ
held_bytes log = bytes_held (opened_after log)

-- a transfer is open and has timed out; a time of 0 disables it
abbrev pub is_time_over : ℕ → Log → Bool
is_time_over time log = is_some (opened_after log) && (nat_lt 0 time && nat_le time (ticks_quiet log))

-- no transfer times out within the next `n` ticks, if nothing else happens
abbrev pub NotOverFor : ℕ → ℕ → Log → Type 0
NotOverFor time zero log = Unit {0}
NotOverFor time (suc n) log = (is_time_over time (Ticked ∷ log) ≡ false) × NotOverFor time n (Ticked ∷ log)
