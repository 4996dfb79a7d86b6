-- What a frame is read as, by what came before it.
use Rattle.std.specs.Prelude.{ℕ, nat_le, ◌&&◌, Bool, true, false, if◌then◌else◌, List, Option, Some, None}
use Rattle.co_frame.specs.BlockSegments.{IsBlockSegment, block_segment_in, is_abort_in_sub_block}
use Rattle.co_frame.specs.SdoParts.{code_in}
use Rattle.co_frame.specs.SdoRequests.{request_in}
use Rattle.co_frame.specs.SdoResponses.{response_in}
use Rattle.co_frame.specs.declared.block_segment.BlockSegment.{BlockSegment}
use Rattle.co_frame.specs.declared.sdo_request.SdoRequest.{SdoRequest}
use Rattle.co_frame.specs.declared.sdo_request.SdoRequest.TheVariants.{Abort as Abandon}
use Rattle.co_frame.specs.declared.sdo_response.SdoResponse.{SdoResponse}
use Rattle.co_frame.specs.declared.sdo_response.SdoResponse.TheVariants.{DownloadDone, UploadExpedited, UploadInitiated, Abort as Refuse, BlockDownloadInitiated, BlockUploadInitiated}
use Rattle.conode_explain_transfers.specs.declared.initiate.Initiate.{Initiate}
use Rattle.conode_explain_transfers.specs.declared.kinds.Direction.{Direction}
use Rattle.conode_explain_transfers.specs.declared.kinds.Direction.TheVariants.{Download, Upload}
use Rattle.conode_explain_transfers.specs.declared.kinds.Protocol.{Protocol}
use Rattle.conode_explain_transfers.specs.declared.kinds.Side.{Side}
use Rattle.conode_explain_transfers.specs.declared.kinds.Side.TheVariants.{Client, Server}
use Rattle.conode_explain_transfers.specs.declared.reading.Reading.{Reading}
use Rattle.conode_explain_transfers.specs.declared.reading.Reading.TheVariants.{Segment, Begin, Abort, Request, Response, Nothing}
use Rattle.conode_explain_transfers.specs.declared.stage.Stage.{Stage}
use Rattle.conode_explain_transfers.specs.declared.stage.Stage.TheVariants.{Initiated, SubBlock}
use Rattle.conode_explain_transfers.specs.declared.transfer.Transfer.{Transfer}
use Rattle.conode_explain_transfers.specs.BlockTurns.{is_block}
use Rattle.conode_explain_transfers.specs.Initiates.{initiate_by}
use Rattle.conode_explain_transfers.specs.Transfers.{is_download}

-- ---- outside a sub-block

-- a request: one that begins a transfer, or another
abbrev pub begins_or : Option Initiate → Reading → Reading
begins_or (Some initiate) otherwise = Begin initiate
begins_or None otherwise = otherwise

abbrev pub request_reading : Option SdoRequest → List ℕ → Reading
request_reading None bytes = Nothing
request_reading (Some (Abandon key code)) bytes = Abort code
request_reading (Some request) bytes = begins_or (initiate_by request bytes) (Request request)

abbrev pub response_reading : Option SdoResponse → Reading
response_reading None = Nothing
response_reading (Some (Refuse key code)) = Abort code
response_reading (Some response) = Response response

abbrev pub plain_reading : Side → List ℕ → Reading
plain_reading Client bytes = request_reading (request_in bytes) bytes
plain_reading Server bytes = response_reading (response_in bytes)

-- ---- inside a sub-block

-- a frame that isn't a segment there: it may begin a transfer
abbrev pub beginning : Reading → Reading
beginning (Begin initiate) = Begin initiate
beginning _ = Nothing

-- a segment is one with a number up to the block size
abbrev pub segment_reading : ℕ → Option BlockSegment → Reading → Reading
segment_reading block_size (Some segment) otherwise = if nat_le segment.sequence block_size then Segment segment else otherwise
segment_reading block_size None otherwise = otherwise

-- byte 0 of 80h is an abort there, and 81h to 9Fh are segments
abbrev pub sub_block_reading : ℕ → Side → List ℕ → Reading
sub_block_reading block_size side bytes =
    if is_abort_in_sub_block bytes then Abort (code_in bytes)
    else segment_reading block_size (block_segment_in bytes) (beginning (plain_reading side bytes))

-- ---- which

abbrev pub is_in_sub_block : Stage → Bool
is_in_sub_block (SubBlock last) = true
is_in_sub_block _ = false

-- the end that sends the data
abbrev pub is_sender : Direction → Side → Bool
is_sender Download Client = true
is_sender Download Server = false
is_sender Upload Client = false
is_sender Upload Server = true

-- a segment may come: inside a sub-block; and after the initiate request of a block download, of
-- which the answer is missing in the recording
abbrev pub may_have_segment : Stage → Direction → Protocol → Bool
may_have_segment (SubBlock last) direction protocol = true
may_have_segment Initiated direction protocol = is_download direction && is_block protocol
may_have_segment _ direction protocol = false

-- a segment of a sub-block may come of this end
abbrev pub awaits_segment : Transfer → Side → Bool
awaits_segment transfer side =
    if may_have_segment transfer.stage transfer.direction transfer.protocol then is_sender transfer.direction side else false

-- what an end's frame is read as, by the open transfer
abbrev pub reading_of : Option Transfer → Side → List ℕ → Reading
reading_of None side bytes = plain_reading side bytes
reading_of (Some transfer) side bytes =
    if awaits_segment transfer side then sub_block_reading transfer.block_size side bytes else plain_reading side bytes

-- a frame that has a key of its own: an initiate request or its response, and an abort
abbrev pub answers_key : SdoResponse → Bool
answers_key (DownloadDone key) = true
answers_key (UploadExpedited key value) = true
answers_key (UploadInitiated key size) = true
answers_key (BlockDownloadInitiated key block_size) = true
answers_key (BlockUploadInitiated key size) = true
answers_key _ = false

abbrev pub has_key : Reading → Bool
has_key (Begin initiate) = true
has_key (Abort code) = true
has_key (Response response) = answers_key response
has_key _ = false

-- a segment that is read has a number from 1 to 127
abbrev pub IsReading : Reading → Type 0
IsReading (Segment segment) = IsBlockSegment segment
IsReading _ = Unit {0}
