-- The progress of a transfer after the answers so far, and the bytes held for it, while the client
-- waits (CiA 301, 7.2.4.3): sums and parities over the answers, newest first.
use Rattle.std.specs.Prelude.{ℕ, ◌+◌, ◌==◌, List, [], ◌∷◌, ◌++◌, length, Option, Some, None, if◌then◌else◌}
use Rattle.co_frame.specs.declared.sdo_response.SdoResponse.{SdoResponse}
use Rattle.co_frame.specs.declared.sdo_response.SdoResponse.TheVariants.{UploadInitiated, UploadSegment, BlockDownloadInitiated, BlockDownloadAcknowledge, BlockUploadInitiated}
use Rattle.co_frame.specs.SdoResponses.{response_in}
use Rattle.co_sdo_client.specs.declared.stage.Stage.{Stage}
use Rattle.co_sdo_client.specs.declared.stage.Stage.TheVariants.{Begun, Download, Upload, BlockDownload, BlockDownloadEnded, SubBlock, LastTaken}
use Rattle.co_sdo_client.specs.declared.transfer.Transfer.{Transfer}
use Rattle.co_sdo_client.specs.declared.transfer.Transfer.TheVariants.{ExpeditedDownload, SegmentedDownload, BlockDownload as InBlocks, SegmentedUpload, BlockUpload}
use Rattle.co_sdo_client.specs.Calls.{Call, Event, answers, Answers, since_first}
use Rattle.co_sdo_client.specs.Segments.{is_odd, bytes_of, transfer_of, segment_count, sub_block_length}
use Rattle.co_sdo_client.specs.SubBlocks.{sub_block, taken_segments, block_bytes, has_last}

-- the size that an answer indicates
abbrev pub size_by : Option SdoResponse → Option ℕ
size_by (Some (UploadInitiated key size)) = size
size_by (Some (BlockUploadInitiated key size)) = size
size_by _ = None

-- how many segments of a block download an answer acknowledges
abbrev pub acknowledged_by : Option SdoResponse → ℕ
acknowledged_by (Some (BlockDownloadAcknowledge sequence block_size)) = sequence
acknowledged_by _ = 0

-- how many segments of a block download were acknowledged
abbrev pub acknowledged : List (List ℕ) → ℕ
acknowledged [] = 0
acknowledged (frame ∷ older) = acknowledged older + acknowledged_by (response_in frame)

-- the size that an answer gives the next sub-block of a block download
abbrev pub block_size_by : Option SdoResponse → ℕ
block_size_by (Some (BlockDownloadInitiated key block_size)) = block_size
block_size_by (Some (BlockDownloadAcknowledge sequence block_size)) = block_size
block_size_by _ = 0

-- the data of an upload's segment
abbrev pub segment_part : Option SdoResponse → List ℕ
segment_part (Some (UploadSegment toggle segment last)) = segment.items
segment_part _ = []

-- the data of segments, in their order
abbrev pub segments_joined : List (List ℕ) → List ℕ
segments_joined [] = []
segments_joined (frame ∷ older) = segments_joined older ++ segment_part (response_in frame)

-- the newest answer
abbrev pub newest : Answers → List ℕ
newest a = newest_of a.first a.later
  where
    newest_of : List ℕ → List (List ℕ) → List ℕ
    newest_of first [] = first
    newest_of first (frame ∷ older) = frame

-- a block download: its end is sent once all segments are acknowledged
abbrev pub block_download_stage : List ℕ → ℕ → ℕ → Stage
block_download_stage bytes count block_size =
    if count == segment_count bytes then BlockDownloadEnded else BlockDownload count (sub_block_length bytes count block_size)

-- a block upload: inside a sub-block, or after the segment with c = 1
abbrev pub block_upload_stage : Option ℕ → List (List ℕ) → Stage
block_upload_stage size later = if has_last later then LastTaken size else SubBlock size (length (taken_segments (sub_block later)))

-- the progress after these answers, by the protocol
abbrev pub stage_by : Call → Transfer → Answers → Stage
stage_by call ExpeditedDownload a = Begun
stage_by call SegmentedDownload a = Download (length a.later)
stage_by call InBlocks a = block_download_stage (bytes_of call.job) (acknowledged a.later) (block_size_by (response_in (newest a)))
stage_by call SegmentedUpload a = Upload (size_by (response_in a.first)) (is_odd (length a.later))
stage_by call BlockUpload a = block_upload_stage (size_by (response_in a.first)) a.later

-- the progress after these answers, if there are any
abbrev pub stage_since : Call → Option Answers → Stage
stage_since call None = Begun
stage_since call (Some a) = stage_by call (transfer_of call) a

-- the progress of the transfer after events
abbrev pub stage_after : Call → List Event → Stage
stage_after call events = stage_since call (since_first (answers events))

-- the bytes held after these answers, by the protocol
abbrev pub held_by : Transfer → Answers → List ℕ
held_by SegmentedUpload a = segments_joined a.later
held_by BlockUpload a = block_bytes a.later
held_by _ a = []

-- the bytes held after these answers, if there are any
abbrev pub held_since : Call → Option Answers → List ℕ
held_since call None = []
held_since call (Some a) = held_by (transfer_of call) a

-- the bytes that are held for an upload after events: the data of the segments taken, in their
-- order
abbrev pub held_after : Call → List Event → List ℕ
held_after call events = held_since call (since_first (answers events))
