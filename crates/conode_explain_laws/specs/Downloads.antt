-- The downloads that explain says are done, and those that the channel of co_sdo sets.
use Rattle.std.specs.Prelude.{◌≡◌, ℕ, ◌==◌, ◌&&◌, ◌||◌, nat_lt, Bool, true, false, not, List, [], ◌∷◌, ◌++◌, length, take, Option, Some, None, if◌then◌else◌, ◌⊎◌}
use Rattle.std.specs.List.{AllByRecursion}
use Rattle.std.specs.Option.{option_map_or}
use Rattle.co_value.specs.declared.key.Key.{Key}
use Rattle.co_frame.specs.BlockSegments.{block_segment_in, is_abort_in_sub_block}
use Rattle.co_frame.specs.SubBlocks.{ends_sub_block}
use Rattle.co_frame.specs.declared.sdo_request.ExpeditedData.TheVariants.{NotIndicated}
use Rattle.co_frame.specs.declared.sdo_request.SdoRequest.{SdoRequest}
use Rattle.co_frame.specs.declared.sdo_request.SdoRequest.TheVariants.{DownloadExpedited, BlockDownloadInitiate}
use Rattle.co_frame.specs.SdoRequests.{request_in}
use Rattle.co_dict.specs.Rows.{Rows, Contents}
use Rattle.co_dict.specs.Stores.{Description}
use Rattle.co_sdo.specs.Refused.{capacity_at}
use Rattle.co_sdo.specs.Log.{Log}
use Rattle.co_sdo.specs.Completed.{set_by}
use Rattle.co_sdo.specs.Opened.{opened_after}
use Rattle.co_sdo.specs.Replies.{is_in_sub_block}
use Rattle.co_sdo.specs.Downloads.{Download as Whole}
use Rattle.conode_explain_transfers.specs.declared.ended.Ended.{Ended}
use Rattle.conode_explain_transfers.specs.declared.ended.Ending.{Ending}
use Rattle.conode_explain_transfers.specs.declared.ended.Ending.TheVariants.{Done}
use Rattle.conode_explain_transfers.specs.declared.transfer.Transfer.{Transfer}
use Rattle.conode_explain_transfers.specs.Data.{data_after}
use Rattle.conode_explain_transfers.specs.Transfers.{is_download}
use Rattle.conode_explain_transfers.specs.Followed.{Event, Framed, BootedUp, following_after, said}
use Rattle.conode_explain_laws.specs.Recordings.{Input, Received, Elapsed, Expired, Abandoned, Started, log_of, recorded}

-- a transfer that is complete: with which frame of the recording, its entry, and the entry's bytes
pub record Complete : Type 0 where
  pub frame : ℕ
  pub key : Key
  pub bytes : List ℕ

-- ---- by explain

-- the initiate request of the open transfer
abbrev pub initiated_by : Option Transfer → Option SdoRequest
initiated_by None = None
initiated_by (Some transfer) = request_in transfer.request.items

-- the bytes of a transfer's entry are its data; of an expedited download without a size (s = 0) the
-- first of the four bytes, as many as the entry has room for
abbrev pub entry_bytes : Rows → Key → Option SdoRequest → List ℕ → List ℕ
entry_bytes rows key (Some (DownloadExpedited k (NotIndicated four))) got = take (capacity_at rows key) got
entry_bytes rows key _ got = got

abbrev pub if_done : {A : Type 0} → Ending → List A → List A
if_done (Done crc) write = write
if_done _ write = []

-- what explain says is written, where a transfer with this initiate request and these data ended
-- with a frame
abbrev pub write_said : Rows → Option SdoRequest → Option Ended → List ℕ → ℕ → List Complete
write_said rows initiate None got frame = []
write_said rows initiate (Some ended) got frame =
    if is_download ended.direction
    then if_done ended.ending (record { frame = frame; key = ended.key; bytes = entry_bytes rows ended.key initiate got } ∷ [])
    else []

-- the downloads that explain says are done, over a whole recording, newest first
abbrev pub downloads_done : Rows → List Event → List Complete
downloads_done rows [] = []
downloads_done rows (Framed micros side frame ∷ older) =
    write_said rows (initiated_by (following_after older).transfer) (said older micros side frame).ended
    (data_after (Framed micros side frame ∷ older)) (length (Framed micros side frame ∷ older))
    ++ downloads_done rows older
downloads_done rows (BootedUp micros ∷ older) = downloads_done rows older

-- ---- by the channel

-- a download that is set with a frame
abbrev pub write_set : Option Whole → ℕ → List Complete
write_set None frame = []
write_set (Some download) frame = record { frame = frame; key = download.key; bytes = download.bytes } ∷ []

-- what a frame sets
abbrev pub set_with : Description → Contents → List ℕ → Log → Option Whole
set_with d contents frame log = if length frame == 8 then set_by d contents log frame else None

-- the downloads that the channel sets, newest first, each with its answer: that is the newest frame
-- of the recording then
abbrev pub downloads_set : (ℕ → ℕ) → Description → List Input → List Complete
downloads_set stamp d [] = []
downloads_set stamp d (Received contents frame ∷ older) =
    write_set (set_with d contents frame (log_of d older)) (length (recorded stamp d (Received contents frame ∷ older)))
    ++ downloads_set stamp d older
downloads_set stamp d (Elapsed ∷ older) = downloads_set stamp d older
downloads_set stamp d (Expired ∷ older) = downloads_set stamp d older
downloads_set stamp d (Abandoned ∷ older) = downloads_set stamp d older
downloads_set stamp d (Started ∷ older) = downloads_set stamp d older

-- ---- frames of plain transfers alone

-- a request that begins a block download
abbrev pub is_block_begin : Option SdoRequest → Bool
is_block_begin (Some (BlockDownloadInitiate key size)) = true
is_block_begin _ = false

-- each frame has eight bytes, and begins no block download
abbrev pub IsPlainInput : Input → Type 0
IsPlainInput (Received contents frame) = (length frame ≡ 8) × (is_block_begin (request_in frame) ≡ false)
IsPlainInput _ = Unit {0}

abbrev pub ArePlain : List Input → Type 0
ArePlain inputs = AllByRecursion IsPlainInput inputs

-- ---- whole frames, and sub-blocks in order

-- the number of the segment in a frame; 0 where it has none
abbrev pub number_in : List ℕ → ℕ
number_in frame = option_map_or (λ segment. segment.sequence) (block_segment_in frame) 0

-- inside a sub-block, after a segment with this number: an abort, or a segment with a higher one
abbrev pub goes_up : ℕ → List ℕ → Bool
goes_up newest frame = is_abort_in_sub_block frame || nat_lt newest (number_in frame)

-- the channel's next frame falls inside a sub-block of a download
abbrev pub is_inside : Log → Bool
is_inside log = is_in_sub_block (opened_after log)

-- the number of the newest frame, where the next one falls inside the same sub-block; else 0
abbrev pub newest_in : Description → List Input → ℕ
newest_in d [] = 0
newest_in d (Received contents frame ∷ older) = if is_inside (log_of d older) && not (ends_sub_block frame) then number_in frame else 0
newest_in d (_ ∷ older) = newest_in d older

-- each frame has eight bytes; in a sub-block the numbers go up, and its transfer isn't dropped
-- without an abort
abbrev pub IsOrderlyInput : Description → List Input → Input → Type 0
IsOrderlyInput d older (Received contents frame) = (length frame ≡ 8) × (is_inside (log_of d older) ≡ true → goes_up (newest_in d older) frame ≡ true)
IsOrderlyInput d older Abandoned = is_inside (log_of d older) ≡ false
IsOrderlyInput d older _ = Unit {0}

abbrev pub AreOrderly : Description → List Input → Type 0
AreOrderly d [] = Unit {0}
AreOrderly d (input ∷ older) = IsOrderlyInput d older input × AreOrderly d older

-- ---- the two

-- these are some of those, in their order
abbrev pub AreSome : {A : Type 0} → List A → List A → Type 0
AreSome [] all = Unit {0}
AreSome (write ∷ others) [] = ⊥
AreSome (write ∷ others) (set ∷ later) = ((write ≡ set) × AreSome others later) ⊎ AreSome (write ∷ others) later
