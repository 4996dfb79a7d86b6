-- What a device does otherwise in an open transfer, by what both ends named (CiA 301, 7.2.4.3).
use Rattle.std.specs.Prelude.{ℕ, ◌+◌, ◌*◌, ◌/◌, ◌%◌, ◌==◌, nat_le, nat_lt, Bool, true, false, ◌&&◌, ◌||◌, if◌then◌else◌, slice_index, Option, Some, None}
use Rattle.co_frame_aborts.specs.AbortCodes.{unknown_command}
use Rattle.co_frame.specs.FrameContent.{FrameContent}
use Rattle.co_frame_aborts.specs.declared.abort_code.AbortCode.{AbortCode}
use Rattle.co_value.specs.declared.key.Key.{Key}
use Rattle.co_value.specs.Keys.{same_key}
use Rattle.conode_explain_transfers.specs.declared.channel.Heard.{Heard}
use Rattle.conode_explain_transfers.specs.declared.ended.Ended.{Ended}
use Rattle.conode_explain_transfers.specs.declared.ended.Ending.{Ending}
use Rattle.conode_explain_transfers.specs.declared.ended.Ending.TheVariants.{Aborted, SizeDiffers, CrcDiffers}
use Rattle.conode_explain_transfers.specs.declared.ended.Fault.{Fault}
use Rattle.conode_explain_transfers.specs.declared.ended.Fault.TheVariants as fault
use Rattle.conode_explain_transfers.specs.declared.kinds.Direction.{Direction}
use Rattle.conode_explain_transfers.specs.declared.kinds.Direction.TheVariants.{Download, Upload}
use Rattle.conode_explain_transfers.specs.declared.kinds.Protocol.{Protocol}
use Rattle.conode_explain_transfers.specs.declared.kinds.Protocol.TheVariants.{Block, Segmented}
use Rattle.conode_explain_transfers.specs.declared.kinds.Side.{Side}
use Rattle.conode_explain_transfers.specs.declared.kinds.Side.TheVariants.{Client, Server}
use Rattle.conode_explain_transfers.specs.declared.kinds.What.{What}
use Rattle.conode_explain_transfers.specs.declared.kinds.What.TheVariants.{Repeated, Unexpected}
use Rattle.conode_compare_transfers.specs.declared.breach.Breach.{Breach}
use Rattle.conode_compare_transfers.specs.declared.breach.Breach.TheVariants.{Toggle, Form, AbortKey, Size, Crc}
use Rattle.conode_compare_transfers.specs.declared.newest.Newest.{Newest}
use Rattle.conode_compare_transfers.specs.declared.newest.Newest.TheVariants.{Request, Data, LastData, Acknowledge, LaterData, LaterAcknowledge, AllAcknowledged}
use Rattle.conode_compare_transfers.specs.Timeouts.{times_out}

-- ---- frames

abbrev pub byte_at : FrameContent → ℕ → ℕ
byte_at frame place = slice_index frame.bytes place

-- the multiplexer
abbrev pub key_in : FrameContent → Key
key_in frame = record { index = byte_at frame 1 + byte_at frame 2 * 256; sub = byte_at frame 3 }

-- ---- the end of a transfer

-- A frame of the device may answer one of the client that has no multiplexer: the newest one of the
-- transfer is such a frame of the client, or a segment that was on its way before the client's
-- acknowledge. Of so many frames with this one the first is the initiate request, which has one. After
-- an answer, and among the segments that the client asked for, the device knows the entry.
abbrev pub answers_without_key : Newest → ℕ → Bool
answers_without_key Request frames = nat_lt 2 frames
answers_without_key Acknowledge frames = true
answers_without_key LaterData frames = true
answers_without_key LaterAcknowledge frames = true
answers_without_key AllAcknowledged frames = true
answers_without_key newest frames = false

-- 0000:00, where the client's frame has no multiplexer: a server may have given the transfer up after
-- its timeout without an abort
abbrev pub names_none : Newest → Key → ℕ → Bool
names_none newest named frames =
    same_key named (record { index = 0; sub = 0 }) && answers_without_key newest frames

-- A server that has given up a block download without an abort takes the client's next frame for a
-- request, which may look like the next segment (7.2.4.3.10); an abort of it is of the entry in that.
abbrev pub is_block_download : Protocol → Direction → Bool
is_block_download Block Download = true
is_block_download protocol direction = false

-- That may be so after a frame of the client, but for the initiate request. After that one, of two frames
-- with the abort, another reason has an abort of a transfer that timed out: the server may have sent it for
-- an earlier transfer before it took the request, and the two crossed.
abbrev pub may_refuse_next : Newest → Ended → Bool
may_refuse_next Request ended =
    if nat_lt 2 ended.frames then is_block_download ended.protocol ended.direction else times_out ended.ending
may_refuse_next newest ended = false

-- `abort-key`: an abort of another entry; a server that doesn't know a command may not know where
-- its multiplexer is
abbrev pub abort_breach : Newest → Key → Ended → AbortCode → Option Breach
abort_breach newest named ended code =
    if ((same_key named ended.key || (code.0 == unknown_command)) || names_none newest named ended.frames) || may_refuse_next newest ended
    then None else Some (AbortKey ended.key)

abbrev pub is_segmented : Protocol → Bool
is_segmented Segmented = true
is_segmented other = false

-- The last segment of an upload may have n = 0, where its data end within it: so many bytes are no
-- difference.
abbrev pub is_padded : FrameContent → Ended → ℕ → Bool
is_padded frame ended indicated =
    is_segmented ended.protocol && ((byte_at frame 0 / 2 % 8 == 0) && (nat_le indicated ended.bytes && nat_le ended.bytes (indicated + 6)))

abbrev pub size_breach : FrameContent → Ended → ℕ → Option Breach
size_breach frame ended indicated = if is_padded frame ended indicated then None else Some (Size ended.key indicated ended.bytes)

-- of an upload that the client refuses
abbrev pub fault_breach : Key → Option Fault → Option Breach
fault_breach key None = None
fault_breach key (Some (fault.Size indicated bytes)) = Some (Size key indicated bytes)
fault_breach key (Some (fault.Crc came computed)) = Some (Crc key came computed)

-- `answer-size`, `answer-crc`: an upload whose bytes aren't those that the device named
abbrev pub ending_breach : Newest → FrameContent → Ended → Direction → Ending → Option Breach
ending_breach newest frame ended direction (Aborted Server code) = abort_breach newest (key_in frame) ended code
ending_breach newest frame ended direction (Aborted Client code) = fault_breach ended.key ended.fault
ending_breach newest frame ended Upload (SizeDiffers indicated) = size_breach frame ended indicated
ending_breach newest frame ended Upload (CrcDiffers came computed) = Some (Crc ended.key came computed)
ending_breach newest frame ended direction ending = None

abbrev pub ended_breach : Newest → FrameContent → Ended → Option Breach
ended_breach newest frame ended = ending_breach newest frame ended ended.direction ended.ending

-- ---- another frame of the device

-- `answer-toggle`, `answer-form`, by the first byte: the answer to a request of the open transfer.
-- Among the segments of a block upload one whose number is 0 or above the block size; not what
-- looks like the end of a block upload, before which segments may be missing in the recording.
-- After an acknowledge a segment may be of the sub-block before, whose block size may have been
-- greater: only the number 0 is none. After the acknowledge of the last segment nothing of the upload
-- is on its way.
abbrev pub server_breach : Newest → Key → What → ℕ → Option Breach
server_breach Request key Repeated first = Some (Toggle key)
server_breach Request key Unexpected first = if first / 32 == 6 then None else Some (Form key)
server_breach Data key Unexpected first = if first / 32 == 6 then None else Some (Form key)
server_breach (LastData number) key Unexpected first = if first / 32 == 6 then None else Some (Form key)
server_breach AllAcknowledged key Unexpected first = if first / 32 == 6 then None else Some (Form key)
server_breach Acknowledge key Unexpected first = if first % 128 == 0 then Some (Form key) else None
server_breach LaterAcknowledge key Unexpected first = if first % 128 == 0 then Some (Form key) else None
server_breach LaterData key Unexpected first = if first % 128 == 0 then Some (Form key) else None
server_breach newest key what first = None

-- of a frame without a multiplexer of its own
abbrev pub keyed_breach : Newest → Side → Option Key → What → ℕ → Option Breach
keyed_breach newest Server (Some key) what first = server_breach newest key what first
keyed_breach newest side key what first = None

-- ---- every frame

abbrev pub breach_by : Newest → Side → Heard → FrameContent → Option Ended → Option Breach
breach_by newest side heard frame (Some ended) = ended_breach newest frame ended
breach_by newest side heard frame None = keyed_breach newest side heard.of heard.what (byte_at frame 0)

-- of a frame by an end, after the newest one of the open transfer
unfoldable pub breach_at : Option Newest → Side → Heard → FrameContent → Option Breach
breach_at None side heard frame = None
breach_at (Some newest) side heard frame = breach_by newest side heard frame heard.ended
