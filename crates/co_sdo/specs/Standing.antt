-- A channel as contracts see it, and when it is in the state after a log.
use Rattle.std.specs.Prelude.{◌≡◌, ℕ, ◌+◌, ◌*◌, ◌-◌, ◌<◌, ◌≤◌, ◌&&◌, Bool, true, false, nat_lt, not, is_some, List, [], ◌∷◌, length, Option, Some, None, if◌then◌else◌}
use Rattle.std.specs.Option.{option_map_or}
use Rattle.co_value.specs.declared.key.Key.{Key}
use Rattle.co_frame.specs.SegmentSizes.{bytes_per_segment, segments_per_sub_block, bytes_per_sub_block}
use Rattle.co_frame.specs.FrameContent.{FrameContent}
use Rattle.co_frame.specs.SdoRequests.{request_in}
use Rattle.co_frame.specs.declared.sdo_request.SdoRequest.{SdoRequest}
use Rattle.co_frame.specs.declared.sdo_request.SdoRequest.TheVariants.{DownloadInitiate, Upload, BlockUploadInitiate, BlockDownloadInitiate}
use Rattle.co_dict.specs.Rows.{Rows, Contents}
use Rattle.co_dict.specs.Stores.{Description}
use Rattle.co_sdo.specs.declared.stage.Stage.{Stage}
use Rattle.co_sdo.specs.declared.stage.Stage.TheVariants.{Download as Downloading}
use Rattle.co_sdo.specs.Refused.{capacity_at}
use Rattle.co_sdo.specs.Log.{Answer, Exchanged, Log, is_request_on, requests, ticks_quiet}
use Rattle.co_sdo.specs.SubBlocks.{sub_block, taken_segments, block_bytes, has_last}
use Rattle.co_sdo.specs.Downloads.{Download, are_segments, segments_joined}
use Rattle.co_sdo.specs.Uploads.{value_at}
use Rattle.co_sdo.specs.OpenTransfers.{Transfer, open_transfer}
use Rattle.co_sdo.specs.Opened.{OpenTransfer, opened_after}
use Rattle.co_sdo.specs.Replies.{reply_to}
use Rattle.co_sdo.specs.Completed.{set_by}

-- what contracts see of a channel: its identifiers, the greatest capacity, the SDO timeout and what
-- is left of it (both in ms), the capacity of the entry of a segmented download, and the open
-- transfer
pub record Standing : Type 0 where
  pub request : ℕ
  pub answer : ℕ
  pub greatest : ℕ
  pub time : ℕ
  pub left : ℕ
  pub room : ℕ
  pub current : Option OpenTransfer

-- the bytes of an open block download: at most the capacity of the entry, and seven for each
-- segment taken in this sub-block
pub record IsBlockDownload (capacity : ℕ) (later : List (List ℕ)) : Type 0 where
  pub inside : has_last later ≡ false → (length (block_bytes later) ≤ capacity + bytes_per_segment * length (taken_segments (sub_block later))) × (length (taken_segments (sub_block later)) < segments_per_sub_block)
  pub bytes : length (block_bytes later) ≤ capacity + bytes_per_sub_block

-- the segments of an open segmented download: their toggles alternate, none is the last, and the
-- entry has room for their data
pub record IsSegmentedDownload (capacity : ℕ) (later : List (List ℕ)) : Type 0 where
  pub segments : are_segments later ≡ true
  pub bytes : length (segments_joined later) ≤ capacity

-- the requests of a transfer and its bytes, by its initiate request
abbrev pub is_transfer_after : Rows → Option SdoRequest → Transfer → Type 0
is_transfer_after rows (Some (DownloadInitiate key size)) t = IsSegmentedDownload (capacity_at rows key) (requests t.later)
is_transfer_after rows (Some (Upload key)) t = length (value_at t.begin.contents key) ≤ capacity_at rows key
is_transfer_after rows (Some (BlockUploadInitiate key block_size threshold)) t = length (value_at t.begin.contents key) ≤ capacity_at rows key
is_transfer_after rows (Some (BlockDownloadInitiate key size)) t = IsBlockDownload (capacity_at rows key) (requests t.later)
is_transfer_after rows _ t = ⊥

-- the open transfer is of one of the four kinds, and its bytes are bounded
abbrev pub is_under_way : Rows → Option Transfer → Type 0
is_under_way rows None = Unit {0}
is_under_way rows (Some t) = is_transfer_after rows (request_in t.begin.request) t

-- the room is the capacity of the entry, during a segmented download
abbrev pub is_room_at : Rows → ℕ → Key → Stage → Type 0
is_room_at rows room key (Downloading indicated expected) = room ≡ capacity_at rows key
is_room_at rows room key _ = Unit {0}

-- the room is the capacity of the entry of an open segmented download
abbrev pub is_room_for : Rows → ℕ → Option OpenTransfer → Type 0
is_room_for rows room None = Unit {0}
is_room_for rows room (Some o) = is_room_at rows room o.key o.stage

-- a channel is in the state after a log
pub record Stands (d : Description) (channel : Standing) (log : Log) : Type 0 where
  pub current : channel.current ≡ opened_after log
  pub left : channel.left ≡ channel.time - ticks_quiet log
  pub room : is_room_for d.rows channel.room channel.current
  pub under_way : is_under_way d.rows (open_transfer log)

-- ---- one frame: those that are no request of the channel are ignored

-- the answers to a frame after a log
abbrev pub reply_on : ℕ → Description → Contents → Log → FrameContent → List Answer
reply_on id d contents log frame = if is_request_on id frame then reply_to d contents log frame.bytes else []

-- the download that a frame sets after a log
abbrev pub set_on : ℕ → Description → Contents → Log → FrameContent → Option Download
set_on id d contents log frame = if is_request_on id frame then set_by d contents log frame.bytes else None

-- the log after a frame
abbrev pub log_on : ℕ → Description → Contents → Log → FrameContent → Log
log_on id d contents log frame =
    if is_request_on id frame
    then Exchanged (record { request = frame.bytes; contents = contents; answers = reply_to d contents log frame.bytes }) ∷ log
    else log

-- how many bytes may be held after a log: the capacity of the open entry and a sub-block
abbrev pub room_after : Rows → Log → ℕ
room_after rows log = option_map_or (λ o. capacity_at rows o.key + bytes_per_sub_block) (opened_after log) 0

-- ---- time

-- a transfer is open and none of its time is left; a time of 0 disables it
abbrev pub is_expired : Standing → Bool
is_expired channel = is_some channel.current && (nat_lt 0 channel.time && not (nat_lt 0 channel.left))
