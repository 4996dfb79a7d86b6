-- What a device chose where CiA 301 leaves a choice (7.2.4.3).
use Rattle.std.specs.Prelude.{ℕ, ◌-◌, ◌/◌, ◌%◌, ◌==◌, nat_le, nat_lt, Bool, not, ◌&&◌, ◌||◌, if◌then◌else◌, List, Option, Some, None, option_and_then}
use Rattle.std.specs.Option.{option_or}
use Rattle.co_frame_aborts.specs.AbortCodes.{timed_out}
use Rattle.co_frame.specs.FrameContent.{FrameContent}
use Rattle.co_frame_aborts.specs.declared.abort_code.AbortCode.{AbortCode}
use Rattle.co_sheet.specs.Content.{Row}
use Rattle.co_value.specs.declared.key.Key.{Key}
use Rattle.conode_explain_transfers.specs.declared.ended.Ended.{Ended}
use Rattle.conode_explain_transfers.specs.declared.ended.Ending.{Ending}
use Rattle.conode_explain_transfers.specs.declared.ended.Ending.TheVariants.{Done, Aborted}
use Rattle.conode_explain_transfers.specs.declared.kinds.Direction.{Direction}
use Rattle.conode_explain_transfers.specs.declared.kinds.Direction.TheVariants.{Upload}
use Rattle.conode_explain_transfers.specs.declared.kinds.Protocol.{Protocol}
use Rattle.conode_explain_transfers.specs.declared.kinds.Protocol.TheVariants.{Expedited, Segmented}
use Rattle.conode_explain_transfers.specs.declared.kinds.Side.TheVariants.{Server}
use Rattle.conode_explain_transfers.specs.declared.kinds.What.{What}
use Rattle.conode_explain_transfers.specs.declared.kinds.What.TheVariants.{Part, Stray}
use Rattle.conode_compare_transfers.specs.declared.dialogue.Asked.{Asked}
use Rattle.conode_compare_transfers.specs.declared.dialogue.Exchange.{Exchange}
use Rattle.conode_compare_transfers.specs.Breaches.{byte_at, key_in}
use Rattle.conode_compare_nmt.specs.declared.finding.Remark.{Remark}
use Rattle.conode_compare_nmt.specs.declared.finding.Remark.TheVariants.{Restarted, EarlyHeartbeat}
use Rattle.conode_compare_rules.specs.declared.kind.FrameKind.{FrameKind}
use Rattle.conode_compare_rules.specs.declared.kind.FrameKind.TheVariants.{Sdo}
use Rattle.conode_compare_choices.specs.declared.choice.Choice.{Choice}
use Rattle.conode_compare_choices.specs.declared.choice.Choice.TheVariants.{Segments, NoSize, ShortSegment, NoCrc, BlockSize, Switched, Timeout, Heartbeat}
use Rattle.conode_compare_choices.specs.declared.request.Request.{Request}
use Rattle.conode_compare_choices.specs.RefusalCodes.{code_choice}

-- ---- the end of a transfer

-- `choice-timeout`: a server may abort a transfer that timed out, or leave it
abbrev pub aborted_choice : List Row → Request → Option Asked → FrameContent → Ended → AbortCode → Option Choice
aborted_choice rows request asked frame ended code =
    if code.0 == timed_out then Some (Timeout ended.key) else code_choice rows request asked frame ended code.0

-- `choice-segments`: up to four bytes could go in one frame
abbrev pub segments_choice : Ended → Option Choice
segments_choice ended = if nat_le 1 ended.bytes && nat_le ended.bytes 4 then Some (Segments ended.key ended.bytes) else None

-- `choice-size`, of an expedited upload: s = 0
abbrev pub expedited_choice : ℕ → Ended → Option Choice
expedited_choice first ended = if first % 2 == 0 then Some (NoSize ended.key) else None

abbrev pub ending_choice : List Row → Request → Option Asked → FrameContent → Ended → Direction → Protocol → Ending → Option Choice
ending_choice rows request asked frame ended direction protocol (Aborted Server code) = aborted_choice rows request asked frame ended code
ending_choice rows request asked frame ended Upload Segmented (Done crc) = segments_choice ended
ending_choice rows request asked frame ended Upload Expedited (Done crc) = expedited_choice (byte_at frame 0) ended
ending_choice rows request asked frame ended direction protocol ending = None

-- by the frame that ends it
abbrev pub ended_choice : List Row → Request → Option Asked → FrameContent → Ended → Option Choice
ended_choice rows request asked frame ended =
    ending_choice rows request asked frame ended ended.direction ended.protocol ended.ending

-- ---- an answer after which the transfer goes on

-- `choice-short-segment`: scs = 0, c = 0, and n bytes are unused
abbrev pub short_choice : ℕ → Key → Option Choice
short_choice first key = if (first % 2 == 0) && nat_lt 0 (first / 2 % 8) then Some (ShortSegment key (7 - first / 2 % 8)) else None

abbrev pub segment_choice : Option Key → ℕ → Option Choice
segment_choice of first = option_and_then (short_choice first) of

-- `choice-size`: scs = 2, e = 0, s = 0
abbrev pub initiate_choice : Key → ℕ → Option Choice
initiate_choice key first = if first % 4 == 0 then Some (NoSize key) else None

-- `choice-crc`, `choice-block-size`: scs = 5, ss = 0
abbrev pub block_download_choice : Key → ℕ → ℕ → Option Choice
block_download_choice key first size =
    if not (first % 4 == 0) then None
    else (if first / 4 % 2 == 0 then Some (NoCrc key) else (if size == 127 then None else Some (BlockSize key size)))

-- `choice-block-size`, in the acknowledge of a sub-block: scs = 5, ss = 2; 0 is no size
abbrev pub next_choice : ℕ → Key → Option Choice
next_choice size key = if (size == 0) || (size == 127) then None else Some (BlockSize key size)

abbrev pub acknowledge_choice : Option Key → ℕ → Option Choice
acknowledge_choice of size = option_and_then (next_choice size) of

-- `choice-crc`, `choice-size`: scs = 6, ss = 0
abbrev pub block_upload_choice : Key → ℕ → Option Choice
block_upload_choice key first =
    if not (first % 2 == 0) then None
    else (if first / 4 % 2 == 0 then Some (NoCrc key) else (if first / 2 % 2 == 0 then Some (NoSize key) else None))

-- by the server command specifier
abbrev pub part_choice : Option Key → FrameContent → Option Choice
part_choice of frame =
    let first = byte_at frame 0 in
    if first / 32 == 0 then segment_choice of first
    else (if first / 32 == 2 then initiate_choice (key_in frame) first
    else (if first / 32 == 5 then
    (if first % 4 == 2 then acknowledge_choice of (byte_at frame 2) else block_download_choice (key_in frame) first (byte_at frame 4))
    else (if first / 32 == 6 then block_upload_choice (key_in frame) first
    else None)))

-- ---- an answer by another protocol

-- `choice-switch`: the response to initiate of an upload, scs = 2, to initiate of a block upload with
-- a threshold
abbrev pub switched_from : FrameContent → Asked → Option Choice
switched_from frame asked = if asked.switches && (byte_at frame 0 / 32 == 2) then Some (Switched asked.key) else None

abbrev pub switched_choice : Option Asked → FrameContent → Option Choice
switched_choice asked frame = option_and_then (switched_from frame) asked

-- ---- a frame without an open transfer

-- 05040000h: the transfer timed out
abbrev pub is_abort : FrameContent → Bool
is_abort frame =
    (byte_at frame 0 == 0x80)
    && ((byte_at frame 4 == 0) && ((byte_at frame 5 == 0) && ((byte_at frame 6 == 4) && (byte_at frame 7 == 5))))

abbrev pub stray_choice : FrameContent → Option Choice
stray_choice frame = if is_abort frame then Some (Timeout (key_in frame)) else None

-- ---- every frame

-- in the open transfer, which ends with the frame or goes on
abbrev pub in_transfer : List Row → Request → Exchange → FrameContent → Option Ended → Option Choice
in_transfer rows request exchange frame (Some ended) = ended_choice rows request exchange.asked frame ended
in_transfer rows request exchange frame None = part_choice exchange.heard.of frame

abbrev pub server_choice : List Row → Request → Exchange → FrameContent → Option Choice
server_choice rows request exchange frame =
    option_or (switched_choice exchange.asked frame) (in_transfer rows request exchange frame exchange.heard.ended)

abbrev pub heard_choice : List Row → Request → Exchange → FrameContent → What → Option Ended → Option Choice
heard_choice rows request exchange frame Part ended = server_choice rows request exchange frame
heard_choice rows request exchange frame Stray None = stray_choice frame
heard_choice rows request exchange frame what ended = None

abbrev pub exchange_choice : List Row → Request → Exchange → FrameContent → Option Choice
exchange_choice rows request exchange frame =
    if exchange.certain then heard_choice rows request exchange frame exchange.heard.what exchange.heard.ended else None

-- `choice-heartbeat`: a heartbeat comes early
abbrev pub remark_choice : Option Remark → Option Choice
remark_choice None = None
remark_choice (Some Restarted) = None
remark_choice (Some (EarlyHeartbeat passed period)) = Some (Heartbeat passed period)

-- What the device chose with a frame, by what that is to it, and on its SDO channel, and what else it
-- shows; `request` is the newest one there.
unfoldable pub choice_at : List Row → Request → FrameKind → Option Exchange → Option Remark → Option Choice
choice_at rows request (Sdo Server frame) (Some exchange) remark = exchange_choice rows request exchange frame
choice_at rows request kind exchange remark = remark_choice remark
