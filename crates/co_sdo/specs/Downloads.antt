-- Whole downloads: expedited, segmented and in blocks (CiA 301, 7.2.4.3.3, 7.2.4.3.4 and 7.2.4.3.9
-- to 7.2.4.3.11).
use Rattle.std.specs.Prelude.{ℕ, ◌==◌, ◌&&◌, Bool, true, false, List, [], ◌∷◌, ◌++◌, length, take, Option, Some, None, if◌then◌else◌}
use Rattle.co_value.specs.declared.key.Key.{Key}
use Rattle.co_frame.specs.declared.sdo_request.ExpeditedData.{ExpeditedData}
use Rattle.co_frame.specs.declared.sdo_request.ExpeditedData.TheVariants.{Indicated, NotIndicated}
use Rattle.co_frame.specs.declared.sdo_request.SdoRequest.{SdoRequest}
use Rattle.co_frame.specs.declared.sdo_request.SdoRequest.TheVariants.{DownloadExpedited, DownloadInitiate, DownloadSegment, BlockDownloadInitiate, BlockDownloadEnd}
use Rattle.co_frame.specs.SdoRequests.{request_in}
use Rattle.co_dict.specs.Rows.{Rows}
use Rattle.co_sdo.specs.Refused.{capacity_at}
use Rattle.co_sdo.specs.SubBlocks.{block_bytes, has_last}
pub use Rattle.co_frame.specs.Segments.{is_odd, same_bool, without}

-- a complete download: its key, the size if one was indicated, and the bytes
pub record Download : Type 0 where
  pub key : Key
  pub indicated : Option ℕ
  pub bytes : List ℕ

-- a size that was indicated is the number of bytes
abbrev pub is_as_indicated : Option ℕ → ℕ → Bool
is_as_indicated None total = true
is_as_indicated (Some size) total = size == total

-- the data of an expedited download: if no size is indicated (s = 0), the first of the four bytes,
-- as many as the entry has room for
abbrev pub expedited_within : ℕ → ExpeditedData → List ℕ
expedited_within capacity (Indicated counted) = counted.items
expedited_within capacity (NotIndicated four) = take capacity four

-- the data of an expedited download into an entry
abbrev pub expedited_part : Rows → Key → ExpeditedData → List ℕ
expedited_part rows key expedited = expedited_within (capacity_at rows key) expedited

-- a request is a segment of a download, with this toggle and this c
abbrev pub is_segment : Bool → Bool → Option SdoRequest → Bool
is_segment toggle last (Some (DownloadSegment t segment l)) = same_bool t toggle && same_bool l last
is_segment toggle last _ = false

-- the data of a segment
abbrev pub segment_part : Option SdoRequest → List ℕ
segment_part (Some (DownloadSegment toggle segment last)) = segment.items
segment_part _ = []

-- requests, newest first, that are segments with the toggles 0, 1, 0, .., and c = 0
abbrev pub are_segments : List (List ℕ) → Bool
are_segments [] = true
are_segments (frame ∷ older) = is_segment (is_odd (length older)) false (request_in frame) && are_segments older

-- the same, but c = 1 in the last
abbrev pub are_all_segments : List (List ℕ) → Bool
are_all_segments [] = false
are_all_segments (frame ∷ older) = is_segment (is_odd (length older)) true (request_in frame) && are_segments older

-- the data of segments, in their order
abbrev pub segments_joined : List (List ℕ) → List ℕ
segments_joined [] = []
segments_joined (frame ∷ older) = segments_joined older ++ segment_part (request_in frame)

-- how many bytes of the last segment contain no data: n of the end of a block download
abbrev pub unused_by : Option SdoRequest → ℕ
unused_by (Some (BlockDownloadEnd unused)) = unused
unused_by _ = 0

-- a request is the end of a block download (7.2.4.3.11)
abbrev pub is_block_end : Option SdoRequest → Bool
is_block_end (Some (BlockDownloadEnd unused)) = true
is_block_end _ = false

-- requests, newest first, that are sub-blocks and then the end; a segment with c = 1 was taken in
-- the last sub-block
abbrev pub are_all_sub_blocks : List (List ℕ) → Bool
are_all_sub_blocks [] = false
are_all_sub_blocks (frame ∷ older) = is_block_end (request_in frame) && has_last older

-- the data of all segments taken, without the last n bytes
abbrev pub sub_blocks_joined : List (List ℕ) → List ℕ
sub_blocks_joined [] = []
sub_blocks_joined (frame ∷ older) = without (unused_by (request_in frame)) (block_bytes older)

-- no requests
abbrev pub is_empty : List (List ℕ) → Bool
is_empty [] = true
is_empty (frame ∷ older) = false

-- the requests after an initiate, newest first, complete its download
abbrev pub is_whole_after : Option SdoRequest → List (List ℕ) → Bool
is_whole_after (Some (DownloadExpedited key expedited)) later = is_empty later
is_whole_after (Some (DownloadInitiate key size)) later = are_all_segments later && is_as_indicated size (length (segments_joined later))
is_whole_after (Some (BlockDownloadInitiate key size)) later = are_all_sub_blocks later && is_as_indicated size (length (sub_blocks_joined later))
is_whole_after _ later = false

-- an initiate request and the requests after it, newest first, are a whole download
abbrev pub is_whole_download : List ℕ → List (List ℕ) → Bool
is_whole_download begin later = is_whole_after (request_in begin) later

-- the download of an initiate and the requests after it, newest first
abbrev pub download_after : Rows → Option SdoRequest → List (List ℕ) → Option Download
download_after rows (Some (DownloadExpedited key expedited)) later = Some (record { key = key; indicated = None; bytes = expedited_part rows key expedited })
download_after rows (Some (DownloadInitiate key size)) later = Some (record { key = key; indicated = size; bytes = segments_joined later })
download_after rows (Some (BlockDownloadInitiate key size)) later = Some (record { key = key; indicated = size; bytes = sub_blocks_joined later })
download_after rows _ later = None

-- the download of an initiate request and the requests after it, if they are a whole one
abbrev pub whole_download : Rows → List ℕ → List (List ℕ) → Option Download
whole_download rows begin later = if is_whole_download begin later then download_after rows (request_in begin) later else None
