-- What `explain` says in words of its own, where `decode` says it otherwise: SDO frames with a size, which is a number
-- of bytes or that of the segments in a sub-block (CiA 301, 7.2.4.3), and NMT commands to all nodes (7.2.8.3.1).
use Rattle.std.specs.Prelude.{ℕ, ◌-◌, ◌==◌, Bool, true, false, if◌then◌else◌, List, [], ◌++◌, codes, decimal, Option, Some, None, option_map, option_and_then}
use Rattle.std.specs.Option.{option_or}
use Rattle.co_value.specs.declared.key.Key.{Key}
use Rattle.co_value.specs.KeyTexts.{key_text}
use Rattle.co_frame.specs.FrameContent.{FrameContent}
use Rattle.co_frame.specs.declared.nmt.NmtCommand.{NmtCommand}
use Rattle.co_frame.specs.declared.nmt.NmtService.{NmtService}
use Rattle.co_frame.specs.declared.nmt.NmtService.TheVariants.{Start, Stop, EnterPreOperational, ResetNode, ResetCommunication}
use Rattle.co_frame.specs.declared.sdo_request.SdoRequest.{SdoRequest}
use Rattle.co_frame.specs.declared.sdo_request.SdoRequest.TheVariants.{DownloadInitiate, BlockDownloadInitiate, BlockUploadInitiate, BlockUploadAcknowledge}
use Rattle.co_frame.specs.declared.sdo_response.SdoResponse.{SdoResponse}
use Rattle.co_frame.specs.declared.sdo_response.SdoResponse.TheVariants.{UploadInitiated, BlockUploadInitiated, BlockDownloadInitiated, BlockDownloadAcknowledge}
use Rattle.co_frame.specs.Nmt.{nmt_command_in}
use Rattle.co_frame.specs.SdoRequests.{request_in}
use Rattle.co_frame.specs.SdoResponses.{response_in}
use Rattle.co_sheet_changes.specs.Names.{Names}
use Rattle.conode_decode.specs.Names.{name_text}
use Rattle.conode_explain.specs.declared.own_words.SizedFrame.{SizedFrame}
use Rattle.conode_explain.specs.declared.own_words.SizedService.{SizedService}
use Rattle.conode_explain.specs.declared.own_words.SizedService.TheVariants.{Download, Upload, BlockDownload, BlockUpload, Acknowledge}
use Rattle.conode_explain.specs.declared.own_words.Subject.{Subject}
use Rattle.conode_explain.specs.declared.own_words.Subject.TheVariants.{Entry, Segment}
use Rattle.conode_explain.specs.declared.own_words.FrameSize.{FrameSize}
use Rattle.conode_explain.specs.declared.own_words.FrameSize.TheVariants.{Bytes, Segments}
use Rattle.conode_explain.specs.Transfers.{is_answer, is_request, service_text}

-- ---- which frames have a size

-- a transfer begins, with its number of bytes where that is indicated
abbrev pub with_bytes : Bool → ℕ → SizedService → Key → Option ℕ → Option SizedFrame
with_bytes asked node service key None = None
with_bytes asked node service key (Some count) = Some (record { asked = asked; node = node; service = service; subject = Entry key; size = Bytes count })

-- one in blocks, with the number of the segments in its next sub-block
abbrev pub in_blocks : Bool → ℕ → SizedService → Subject → ℕ → SizedFrame
in_blocks asked node service subject count = record { asked = asked; node = node; service = service; subject = subject; size = Segments count }

-- a request to a node
abbrev pub sized_request : ℕ → SdoRequest → Option SizedFrame
sized_request node (DownloadInitiate key size) = with_bytes true node Download key size
sized_request node (BlockDownloadInitiate key size) = with_bytes true node BlockDownload key size
sized_request node (BlockUploadInitiate key block_size threshold) = Some (in_blocks true node BlockUpload (Entry key) block_size)
sized_request node (BlockUploadAcknowledge sequence block_size) = Some (in_blocks true node Acknowledge (Segment sequence) block_size)
sized_request node other = None

-- an answer of it
abbrev pub sized_answer : ℕ → SdoResponse → Option SizedFrame
sized_answer node (UploadInitiated key size) = with_bytes false node Upload key size
sized_answer node (BlockUploadInitiated key size) = with_bytes false node BlockUpload key size
sized_answer node (BlockDownloadInitiated key block_size) = Some (in_blocks false node BlockDownload (Entry key) block_size)
sized_answer node (BlockDownloadAcknowledge sequence block_size) = Some (in_blocks false node Acknowledge (Segment sequence) block_size)
sized_answer node other = None

unfoldable pub sized_in : FrameContent → Option SizedFrame
sized_in frame =
    if is_request frame then option_and_then (sized_request (frame.id - 0x600)) (request_in frame.bytes)
    else (if is_answer frame then option_and_then (sized_answer (frame.id - 0x580)) (response_in frame.bytes) else None)

-- ---- what they say

abbrev pub sized_front : Bool → List ℕ
sized_front asked = if asked then codes "SDO request node " else codes "SDO answer node "

abbrev pub sized_words : SizedService → List ℕ
sized_words Download = codes " download "
sized_words Upload = codes " upload "
sized_words BlockDownload = codes " block download "
sized_words BlockUpload = codes " block upload "
sized_words Acknowledge = codes " block ack "

-- the entry, or the last segment that was taken
abbrev pub subject_text : Subject → List ℕ
subject_text (Entry key) = key_text key
subject_text (Segment number) = decimal number

abbrev pub subject_key : Subject → Option Key
subject_key (Entry key) = Some key
subject_key (Segment number) = None

-- a number between words
unfoldable pub counted_text : List ℕ → ℕ → List ℕ → List ℕ
counted_text front count end = front ++ decimal count ++ end

abbrev pub bytes_words : ℕ → List ℕ
bytes_words count = if count == 1 then codes " byte" else codes " bytes"

abbrev pub size_text : FrameSize → List ℕ
size_text (Bytes count) = counted_text (codes " ") count (bytes_words count)
size_text (Segments count) = counted_text (codes " block size ") count []

-- with the name of the entry
unfoldable pub sized_text : Names → SizedFrame → List ℕ
sized_text names frame =
    service_text (sized_front frame.asked) frame.node (sized_words frame.service)
    ++ subject_text frame.subject ++ size_text frame.size ++ name_text names frame.node (subject_key frame.subject)

-- ---- commands to all nodes, of which node-ID 0 is

abbrev pub if_to_all : NmtCommand → Option NmtService
if_to_all command = if command.node == 0 then Some command.service else None

unfoldable pub service_to_all : FrameContent → Option NmtService
service_to_all frame = option_and_then if_to_all (nmt_command_in frame)

abbrev pub to_all_words : NmtService → List ℕ
to_all_words Start = codes "NMT start all nodes"
to_all_words Stop = codes "NMT stop all nodes"
to_all_words EnterPreOperational = codes "NMT pre-operational all nodes"
to_all_words ResetNode = codes "NMT reset-node all nodes"
to_all_words ResetCommunication = codes "NMT reset-communication all nodes"

-- ---- the whole

unfoldable pub own_words : Names → FrameContent → Option (List ℕ)
own_words names frame = option_or (option_map (sized_text names) (sized_in frame)) (option_map to_all_words (service_to_all frame))
