-- The requests and segments in which a client sends its bytes (CiA 301, 7.2.4.3.4 and 7.2.4.3.10).
use Rattle.std.specs.Prelude.{ℕ, ◌+◌, ◌/◌, ◌&&◌, Bool, max, nat_le, List, [], ◌∷◌, length, map, Option, Some, None, if◌then◌else◌}
use Rattle.std.specs.List.{range_with_len}
use Rattle.co_frame.specs.SegmentSizes.{bytes_per_segment, segments_per_sub_block}
use Rattle.co_frame.specs.declared.sdo_request.ExpeditedData.TheVariants.{Indicated}
use Rattle.co_frame.specs.declared.sdo_request.SdoRequest.TheVariants.{DownloadExpedited, DownloadInitiate, DownloadSegment, Upload as UploadRequest, BlockUploadInitiate, BlockDownloadInitiate, BlockDownloadEnd}
use Rattle.co_sdo_client.specs.declared.mode.Mode.{Mode}
use Rattle.co_sdo_client.specs.declared.mode.Mode.TheVariants.{Plain, Segmented, Block}
use Rattle.co_sdo_client.specs.declared.transfer.Transfer.{Transfer}
use Rattle.co_sdo_client.specs.declared.transfer.Transfer.TheVariants.{ExpeditedDownload, SegmentedDownload, BlockDownload, SegmentedUpload, BlockUpload}
use Rattle.co_sdo_client.specs.Calls.{Job, Download, Upload, Call, Message, Request, Segment}
pub use Rattle.co_sdo_segments.specs.Sent.{is_odd, part_after, is_last_after, segments_for, segment_count, unused_after, block_segment, sub_block_length}

-- the bytes of a download
abbrev pub bytes_of : Job → List ℕ
bytes_of (Download bytes tells) = bytes
bytes_of (Upload cap) = []

-- the most bytes that an upload may have
abbrev pub cap_of : Job → ℕ
cap_of (Download bytes tells) = 0
cap_of (Upload cap) = cap

-- the size that initiate indicates
abbrev pub size_sent : Job → Option ℕ
size_sent (Download bytes tells) = if tells then Some (length bytes) else None
size_sent (Upload cap) = None

-- in the plain mode 1 to 4 bytes are downloaded at once
abbrev pub plain_download : List ℕ → Transfer
plain_download bytes = if nat_le 1 (length bytes) && nat_le (length bytes) 4 then ExpeditedDownload else SegmentedDownload

-- the protocol of a job, by the mode
abbrev pub transfer_by : Mode → Job → Transfer
transfer_by Plain (Download bytes tells) = plain_download bytes
transfer_by Segmented (Download bytes tells) = SegmentedDownload
transfer_by Block (Download bytes tells) = BlockDownload
transfer_by Plain (Upload cap) = SegmentedUpload
transfer_by Segmented (Upload cap) = SegmentedUpload
transfer_by Block (Upload cap) = BlockUpload

-- the protocol that carries the bytes
abbrev pub transfer_of : Call → Transfer
transfer_of call = transfer_by call.mode call.job

-- the initiate request of a protocol
abbrev pub initiate_request : Call → Transfer → Message
initiate_request call ExpeditedDownload = Request (DownloadExpedited call.key (Indicated (record { items = bytes_of call.job })))
initiate_request call SegmentedDownload = Request (DownloadInitiate call.key (size_sent call.job))
initiate_request call BlockDownload = Request (BlockDownloadInitiate call.key (size_sent call.job))
initiate_request call SegmentedUpload = Request (UploadRequest call.key)
initiate_request call BlockUpload = Request (BlockUploadInitiate call.key segments_per_sub_block 0)

-- the initiate request
abbrev pub initiate_messages : Call → List Message
initiate_messages call = initiate_request call (transfer_of call) ∷ []

-- how many requests a segmented download of `size` bytes needs: initiate, and one for each seven
-- bytes or fewer, at least one
abbrev pub requests_needed : ℕ → ℕ
requests_needed size = 1 + max 1 ((size + 6) / bytes_per_segment)

-- the segment after the first `count`; its toggle is their parity
abbrev pub segment_after : ℕ → List ℕ → Message
segment_after count bytes = Request (DownloadSegment (is_odd count) (record { items = part_after count bytes }) (is_last_after count bytes))

-- ---- block downloads

-- the sub-block after the first `position` segments, numbered from 1
abbrev pub sub_block_sent : List ℕ → ℕ → ℕ → List Message
sub_block_sent bytes position size = map (λ number. Segment (block_segment bytes position number)) (range_with_len 1 (sub_block_length bytes position size))

-- the end of a block download, with the number of bytes of its last segment that contain no data
abbrev pub block_download_end : List ℕ → List Message
block_download_end bytes = Request (BlockDownloadEnd (unused_after bytes)) ∷ []
