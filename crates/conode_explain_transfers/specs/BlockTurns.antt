-- Block transfers (CiA 301, 7.2.4.3.9 to 7.2.4.3.15): what one frame makes of an open transfer. The
-- sender is the client of a download and the server of an upload; the receiver acknowledges.
use Rattle.std.specs.Prelude.{ℕ, ◌+◌, ◌-◌, ◌*◌, ◌==◌, ◌&&◌, nat_lt, Bool, true, false, if◌then◌else◌, List, ◌++◌, length, take, drop, Option, Some, None}
use Rattle.co_value.specs.Numbers.{unsigned_of}
use Rattle.co_value.specs.declared.key.Key.{Key}
use Rattle.co_frame.specs.SegmentSizes.{bytes_per_segment}
use Rattle.co_frame.specs.declared.block_segment.BlockSegment.{BlockSegment}
use Rattle.conode_explain_transfers.specs.declared.kinds.Protocol.{Protocol}
use Rattle.conode_explain_transfers.specs.declared.kinds.Protocol.TheVariants.{Block}
use Rattle.conode_explain_transfers.specs.declared.kinds.What.TheVariants.{Segment, OutOfSequence}
use Rattle.conode_explain_transfers.specs.declared.stage.Stage.{Stage}
use Rattle.conode_explain_transfers.specs.declared.stage.Stage.TheVariants.{Initiated, BlockInitiated, SubBlock, AllAcknowledged, BlockEnded, Confirmed}
use Rattle.conode_explain_transfers.specs.declared.transfer.Transfer.{Transfer}
use Rattle.conode_explain_transfers.specs.Transfers.{Turn, is_download, awaited_number, irregular, unexpected, goes_on, takes_pending}
use Rattle.conode_explain_transfers.specs.SegmentedTurns.{answering}

-- the transfer is in blocks
abbrev pub is_block : Protocol → Bool
is_block Block = true
is_block _ = false

-- ---- initiate

-- a download is answered in blocks: its first sub-block comes
abbrev pub block_download_initiated : Transfer → Key → ℕ → Bool → Turn
block_download_initiated transfer key block_size crc =
    answering transfer key
    (if is_download transfer.direction && is_block transfer.protocol
    then goes_on (record transfer { block_size = block_size; crc = transfer.crc && crc; stage = SubBlock false })
    else unexpected transfer)

-- an upload is answered in blocks
abbrev pub block_upload_initiated : Transfer → Key → Option ℕ → Bool → Turn
block_upload_initiated transfer key size crc =
    answering transfer key
    (if is_download transfer.direction then unexpected transfer
    else (if is_block transfer.protocol then goes_on (record transfer { size = size; crc = transfer.crc && crc; stage = BlockInitiated })
    else unexpected transfer))

-- an upload is started: its first sub-block comes
abbrev pub upload_started_at : Stage → Transfer → Turn
upload_started_at BlockInitiated transfer = goes_on (record transfer { stage = SubBlock false })
upload_started_at _ transfer = unexpected transfer

abbrev pub upload_started : Transfer → Turn
upload_started transfer = upload_started_at transfer.stage transfer

-- ---- sub-blocks

-- the numbers of a sub-block's segments go up: the next one has the number after this one's
abbrev pub numbered_after : Transfer → BlockSegment → Transfer
numbered_after transfer segment = record transfer { next_number = segment.sequence + 1 }

-- the next segment is pending
abbrev pub segment_added : Transfer → BlockSegment → Turn
segment_added transfer segment = record {
  what = Segment segment.sequence;
  transfer = record (numbered_after transfer segment) { pending = record { items = transfer.pending.items ++ segment.bytes }; stage = SubBlock segment.last };
  takes = None;
}

-- a segment after one that is missing, which may be lost on its way: the acknowledge says what was
-- taken
abbrev pub segment_ahead : Transfer → BlockSegment → Turn
segment_ahead transfer segment = record {
  what = (if segment.sequence == transfer.next_number then Segment segment.sequence else OutOfSequence segment.sequence transfer.next_number);
  transfer = numbered_after transfer segment;
  takes = None;
}

-- a segment whose number isn't above those before it: it came already, or is of another sub-block,
-- and the acknowledge between them is missing
abbrev pub segment_again : Transfer → BlockSegment → Turn
segment_again transfer segment = record {
  what = OutOfSequence segment.sequence transfer.next_number;
  transfer = irregular transfer;
  takes = None;
}

-- a sub-block has at most so many segments (CiA 301, 7.2.4.3.9)
abbrev pub most_segments : ℕ
most_segments = 127

-- the first segment of a download, of which the answer to initiate is missing in the recording, and
-- with it the number of segments that a sub-block may have
abbrev pub segment_first : Transfer → BlockSegment → Turn
segment_first transfer segment = record {
  what = Segment segment.sequence;
  transfer = record (numbered_after (irregular transfer) segment) {
    block_size = most_segments;
    pending = record { items = segment.bytes };
    stage = SubBlock segment.last;
  };
  takes = None;
}

-- a segment: it is the next one where its number is the awaited one and none was missing before it;
-- none comes after the last
abbrev pub block_segment_at : Stage → Transfer → BlockSegment → Turn
block_segment_at (SubBlock false) transfer segment =
    if nat_lt segment.sequence transfer.next_number then segment_again transfer segment
    else (if segment.sequence == awaited_number transfer then segment_added transfer segment
    else segment_ahead transfer segment)
block_segment_at Initiated transfer segment =
    if is_download transfer.direction && is_block transfer.protocol then segment_first transfer segment else unexpected transfer
block_segment_at _ transfer segment = unexpected transfer

abbrev pub block_segment : Transfer → BlockSegment → Turn
block_segment transfer = block_segment_at transfer.stage transfer

-- the next sub-block has this size
abbrev pub next_sub_block : Transfer → ℕ → Transfer
next_sub_block transfer block_size = record transfer { block_size = block_size; next_number = 1; stage = SubBlock false }

-- so many segments of the sub-block are acknowledged: those are taken, the others are sent again.
-- If more are acknowledged than came, some are missing in the recording. Once all with the last one
-- are acknowledged, the end comes, with the number of unused bytes in the last segment
abbrev pub acknowledged_in : Bool → Transfer → ℕ → ℕ → Turn
acknowledged_in last transfer sequence block_size =
    if nat_lt sequence (awaited_number transfer)
    then (if last && (sequence + 1 == awaited_number transfer)
    then goes_on (record transfer { stage = AllAcknowledged })
    else takes_pending (next_sub_block transfer block_size) (bytes_per_segment * sequence))
    else takes_pending (next_sub_block (irregular transfer) block_size) (bytes_per_segment * sequence)

abbrev pub acknowledged_at : Stage → Transfer → ℕ → ℕ → Turn
acknowledged_at (SubBlock last) transfer sequence block_size = acknowledged_in last transfer sequence block_size
acknowledged_at _ transfer sequence block_size = unexpected transfer

-- the receiver acknowledges: the server of a download, the client of an upload
abbrev pub acknowledged : Bool → Transfer → ℕ → ℕ → Turn
acknowledged true transfer sequence block_size = acknowledged_at transfer.stage transfer sequence block_size
acknowledged false transfer sequence block_size = unexpected transfer

-- ---- the end

-- bytes 1 and 2 of the end
abbrev pub crc_in : List ℕ → ℕ
crc_in bytes = if length bytes == 8 then unsigned_of (take 2 (drop 1 bytes)) else 0

-- the end, with the number of bytes that the last segment leaves unused
abbrev pub block_ended_at : Stage → Transfer → ℕ → ℕ → Turn
block_ended_at AllAcknowledged transfer unused crc =
    takes_pending (record transfer { stage = BlockEnded crc }) (length transfer.pending.items - unused)
block_ended_at _ transfer unused crc = unexpected transfer

abbrev pub block_ended : Bool → Transfer → ℕ → ℕ → Turn
block_ended true transfer unused crc = block_ended_at transfer.stage transfer unused crc
block_ended false transfer unused crc = unexpected transfer

-- the end is confirmed; where it didn't come, frames are missing
abbrev pub end_confirmed_at : Stage → Transfer → Turn
end_confirmed_at (BlockEnded crc) transfer = goes_on (record transfer { stage = Confirmed (if transfer.crc then Some crc else None) })
end_confirmed_at Initiated transfer = unexpected transfer
end_confirmed_at _ transfer = goes_on (record (irregular transfer) { stage = Confirmed None })

abbrev pub end_confirmed : Bool → Transfer → Turn
end_confirmed true transfer = if is_block transfer.protocol then end_confirmed_at transfer.stage transfer else unexpected transfer
end_confirmed false transfer = unexpected transfer
