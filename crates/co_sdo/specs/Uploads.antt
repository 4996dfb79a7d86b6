-- What an upload sends of a value: segments, and the sub-blocks of a block upload (CiA 301,
-- 7.2.4.3.6, 7.2.4.3.7 and 7.2.4.3.13 to 7.2.4.3.15).
use Rattle.std.specs.Prelude.{ℕ, ◌&&◌, Bool, nat_le, List, [], ◌∷◌, length, map, Some, if◌then◌else◌, unwrap_or}
use Rattle.std.specs.List.{range_with_len}
use Rattle.co_value.specs.declared.key.Key.{Key}
use Rattle.co_frame.specs.declared.sdo_request.ExpeditedData.TheVariants.{Indicated}
use Rattle.co_frame.specs.declared.sdo_response.SdoResponse.TheVariants.{UploadExpedited, UploadInitiated, UploadSegment, BlockUploadEnd}
use Rattle.co_dict.specs.Rows.{Contents}
use Rattle.co_sdo.specs.Log.{Answer, Response, Segment}
pub use Rattle.co_sdo_segments.specs.Sent.{part_after, is_last_after, segments_for, segment_count, unused_after, block_segment, sub_block_length}

-- the value of an entry
abbrev pub value_at : Contents → Key → List ℕ
value_at contents key = unwrap_or (contents key) []

-- an upload's confirmation: 1 to 4 bytes are sent at once, of others the size
abbrev pub upload_initiated : Key → List ℕ → List Answer
upload_initiated key value =
    if nat_le 1 (length value) && nat_le (length value) 4
    then Response (UploadExpedited key (Indicated (record { items = value }))) ∷ []
    else Response (UploadInitiated key (Some (length value))) ∷ []

-- the segment after the first `count`; c = 1 if no bytes remain after it
abbrev pub upload_segment : Bool → ℕ → List ℕ → List Answer
upload_segment toggle count value =
    Response (UploadSegment toggle (record { items = part_after count value }) (is_last_after count value)) ∷ []

-- the sub-block after the first `position` segments, numbered from 1
abbrev pub sub_block_sent : List ℕ → ℕ → ℕ → List Answer
sub_block_sent value position size = map (λ number. Segment (block_segment value position number)) (range_with_len 1 (sub_block_length value position size))

-- the end of a block upload, with the number of bytes that its last segment leaves unused
abbrev pub block_upload_end : List ℕ → List Answer
block_upload_end value = Response (BlockUploadEnd (unused_after value)) ∷ []
