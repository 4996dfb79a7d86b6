-- A client that goes on before an answer. After an initiate request it sends nothing until the
-- response comes, but for an abort, and once it gives up another initiate request (CiA 301, 7.2.4.3).
-- Where it goes on otherwise, the response isn't in the recording, or this was no request: a segment
-- of a sub-block begins with its number, 1 to 127, and with bit 7 where it is the last one
-- (7.2.4.3.10), so it may look like a request. That is known of a segment only where the begin of its
-- transfer is in the recording.
use Rattle.std.specs.Prelude.{ℕ, ◌+◌, ◌*◌, ◌%◌, ◌==◌, ◌&&◌, ◌||◌, not, Bool, true, false, if◌then◌else◌, List, slice_index, Option, Some, None}
use Rattle.co_value.specs.Keys.{same_key}
use Rattle.co_value.specs.declared.key.Key.{Key}
use Rattle.conode_explain_transfers.specs.declared.kinds.Side.{Side}
use Rattle.conode_explain_transfers.specs.declared.kinds.Side.TheVariants.{Client, Server}
use Rattle.conode_explain_transfers.specs.declared.stage.Stage.{Stage}
use Rattle.conode_explain_transfers.specs.declared.stage.Stage.TheVariants.{Initiated, BlockInitiated}
use Rattle.conode_explain_transfers.specs.declared.transfer.Transfer.{Transfer}
use Rattle.conode_explain_transfers.specs.BlockTurns.{is_block}
use Rattle.conode_explain_transfers.specs.Stages.{is_initiated}
use Rattle.conode_explain_transfers.specs.Transfers.{is_download}

abbrev pub is_client : Side → Bool
is_client Client = true
is_client Server = false

-- the response to initiate is awaited, the newest frame is the client's, and none of the server was put
-- aside
abbrev pub is_unanswered : Transfer → Bool
is_unanswered transfer = is_initiated transfer.stage && (is_client transfer.by && not transfer.put_aside)

-- the number of a segment
abbrev pub number_of : List ℕ → ℕ
number_of bytes = slice_index bytes 0 % 128

-- The client goes on with the segment after what looked like its initiate request, and which looks
-- like another one. None comes after the last segment, which begins with 128 or more. The server sends
-- nothing between the segments of a sub-block (7.2.4.3.10), so where it sent something, there was a
-- request.
abbrev pub segment_follows : Transfer → List ℕ → Bool
segment_follows transfer bytes =
    is_unanswered transfer && (slice_index transfer.request.items 0 + 1 == number_of bytes)

-- a frame that looks like an initiate request is such a segment of the open transfer
abbrev pub is_next_segment : Option Transfer → List ℕ → Bool
is_next_segment None bytes = false
is_next_segment (Some transfer) bytes = segment_follows transfer bytes

-- The client went on, after a frame of this end that begins nothing and that isn't the response.
-- What begins with such a segment has it from the start (`begun_after`).
abbrev pub went_on_with : Side → Stage → Bool → Bool
went_on_with Client stage before = before || is_initiated stage
went_on_with Server stage before = before

-- it did, and the response didn't come since
abbrev pub is_lost : Transfer → Bool
is_lost transfer = is_initiated transfer.stage && transfer.went_on

-- the multiplexer of an abort: bytes 1 to 3, the index with the low byte first
abbrev pub multiplexer_of : List ℕ → Key
multiplexer_of bytes = record { index = slice_index bytes 1 + slice_index bytes 2 * 256; sub = slice_index bytes 3 }

-- The server of a block upload sends nothing between its response and the client's start (7.2.4.3.13),
-- and no segment before both: where one comes, they aren't in the recording.
abbrev pub awaits_start : Stage → Bool
awaits_start Initiated = true
awaits_start BlockInitiated = true
awaits_start _ = false

-- A segment of a sub-block may come of this end, whose begin, response or start isn't in the recording:
-- of a client before the response, since what looked like its request may be a segment too; of a server
-- where a block upload hasn't started. What a client sends after the request of a block download is
-- read as a segment of that (`awaits_segment`), and not as an abort.
abbrev pub may_send_segment : Side → Transfer → Bool
may_send_segment Client transfer = is_initiated transfer.stage
may_send_segment Server transfer =
    is_block transfer.protocol && not (is_download transfer.direction) && awaits_start transfer.stage

-- A server that refuses the upload directly after the request, or gives it up after its response, names
-- the entry in bytes 1 to 3. Data that are the same there are taken for it too: of 2^24 segments one.
abbrev pub refuses_with : Side → Transfer → List ℕ → Bool
refuses_with Client transfer bytes = false
refuses_with Server transfer bytes = not transfer.irregular && same_key (multiplexer_of bytes) transfer.key

-- A frame that is read as an abort, and may be the last segment of a sub-block, with a number of 1 to
-- 31. An abort has cs = 4, and its bits 4 to 0 are 0 (7.2.4.3.17): 80h, which is no segment, as
-- segments are numbered from 1 (7.2.4.3.10, 7.2.4.3.14).
abbrev pub may_be_segment : Side → Transfer → List ℕ → Bool
may_be_segment side transfer bytes =
    not (slice_index bytes 0 == 128) && (may_send_segment side transfer && not (refuses_with side transfer bytes))

-- An abort of the client with another multiplexer, once it went on: of the transfer that the recording
-- doesn't have the begin of, or of this one, as many clients send 0000:00.
abbrev pub may_be_of_other : Side → Transfer → List ℕ → Bool
may_be_of_other Client transfer bytes = is_lost transfer && not (same_key (multiplexer_of bytes) transfer.key)
may_be_of_other Server transfer bytes = false

-- A frame that is read as an abort ends a transfer as one that can't be followed: with the number of
-- the segment that the frame may be. `None`: it is the abort of this transfer.
abbrev pub not_followed_by : Side → Transfer → List ℕ → Option (Option ℕ)
not_followed_by side transfer bytes =
    if may_be_segment side transfer bytes then Some (Some (number_of bytes))
    else (if may_be_of_other side transfer bytes then Some None else None)
