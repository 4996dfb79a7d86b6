-- The texts of SDO requests and answers (CiA 301, 7.2.4.3).
use Rattle.std.specs.Prelude.{ℕ, Bool, if◌then◌else◌, List, [], ◌++◌, codes, Option, Some, None, decimal}
use Rattle.co_value.specs.declared.key.Key.{Key}
use Rattle.co_text.specs.Printed.{digits_text}
use Rattle.co_frame_aborts.specs.declared.abort_code.AbortCode.{AbortCode}
use Rattle.co_frame.specs.declared.sdo_request.ExpeditedData.{ExpeditedData}
use Rattle.co_frame.specs.declared.sdo_request.ExpeditedData.TheVariants.{Indicated, NotIndicated}
use Rattle.co_frame.specs.declared.sdo_request.SdoRequest.{SdoRequest}
use Rattle.co_frame.specs.declared.sdo_request.SdoRequest.TheVariants as requests
use Rattle.co_frame.specs.declared.sdo_response.SdoResponse.{SdoResponse}
use Rattle.co_frame.specs.declared.sdo_response.SdoResponse.TheVariants as answers
use Rattle.co_value.specs.KeyTexts.{key_text}
use Rattle.conode_decode.specs.Numbers.{hex_text, toggle_text, size_text}

-- ---- what requests and answers share

-- the bytes of an expedited transfer; all four if their number isn't indicated
abbrev pub expedited_part : ExpeditedData → List ℕ
expedited_part (Indicated counted) = counted.items
expedited_part (NotIndicated four) = four

-- a whole transfer in one frame
unfoldable pub expedited_text : List ℕ → Key → ExpeditedData → List ℕ
expedited_text service key expedited =
    service ++ key_text key ++ codes " expedited " ++ hex_text (expedited_part expedited)

-- the beginning of a transfer, with the size if it is indicated
unfoldable pub initiate_text : List ℕ → Key → Option ℕ → List ℕ
initiate_text service key size = service ++ key_text key ++ size_text size

-- a segment, and whether it is the last
unfoldable pub segment_text : Bool → List ℕ → Bool → List ℕ
segment_text toggle part last =
    codes "segment " ++ toggle_text toggle ++ codes " " ++ hex_text part ++ (if last then codes " last" else [])

-- an abort with its code
unfoldable pub abort_text : Key → AbortCode → List ℕ
abort_text key code = codes "abort " ++ key_text key ++ codes " " ++ digits_text 16 8 code.0

-- the acknowledgement of a sub-block: the last segment received in sequence, and the next
-- sub-block's size
unfoldable pub acknowledge_text : ℕ → ℕ → List ℕ
acknowledge_text sequence block_size =
    codes "block ack " ++ decimal sequence ++ codes " size " ++ decimal block_size

-- the end of a block transfer, with the unused bytes of its last segment
unfoldable pub block_end_text : List ℕ → ℕ → List ℕ
block_end_text service unused = service ++ codes "end unused " ++ decimal unused

-- ---- requests

-- the text of a request, for each row of the table of requests
unfoldable pub request_text : SdoRequest → List ℕ
request_text (requests.DownloadExpedited key expedited) = expedited_text (codes "download ") key expedited
request_text (requests.DownloadInitiate key size) = initiate_text (codes "download ") key size
request_text (requests.DownloadSegment toggle part last) = segment_text toggle part.items last
request_text (requests.Upload key) = codes "upload " ++ key_text key
request_text (requests.UploadSegment toggle) = codes "segment request " ++ toggle_text toggle
request_text (requests.Abort key code) = abort_text key code
request_text (requests.BlockUploadInitiate key block_size threshold) = initiate_text (codes "block upload ") key (Some block_size)
request_text requests.BlockUploadEnd = codes "block upload end"
request_text (requests.BlockUploadAcknowledge sequence block_size) = acknowledge_text sequence block_size
request_text requests.BlockUploadStart = codes "block upload start"
request_text (requests.BlockDownloadInitiate key size) = initiate_text (codes "block download ") key size
request_text (requests.BlockDownloadEnd unused) = block_end_text (codes "block download ") unused

-- the key in a request's text
unfoldable pub request_key : SdoRequest → Option Key
request_key (requests.DownloadExpedited key expedited) = Some key
request_key (requests.DownloadInitiate key size) = Some key
request_key (requests.Upload key) = Some key
request_key (requests.Abort key code) = Some key
request_key (requests.BlockUploadInitiate key block_size threshold) = Some key
request_key (requests.BlockDownloadInitiate key size) = Some key
request_key other = None

-- ---- answers

-- the text of an answer, for each row of the table of answers
unfoldable pub answer_text : SdoResponse → List ℕ
answer_text (answers.DownloadDone key) = codes "download " ++ key_text key ++ codes " done"
answer_text (answers.DownloadSegmentDone toggle) = codes "segment done " ++ toggle_text toggle
answer_text (answers.UploadExpedited key expedited) = expedited_text (codes "upload ") key expedited
answer_text (answers.UploadInitiated key size) = initiate_text (codes "upload ") key size
answer_text (answers.UploadSegment toggle part last) = segment_text toggle part.items last
answer_text (answers.Abort key code) = abort_text key code
answer_text (answers.BlockDownloadInitiated key block_size) = initiate_text (codes "block download ") key (Some block_size)
answer_text answers.BlockDownloadDone = codes "block download done"
answer_text (answers.BlockDownloadAcknowledge sequence block_size) = acknowledge_text sequence block_size
answer_text (answers.BlockUploadInitiated key size) = initiate_text (codes "block upload ") key size
answer_text (answers.BlockUploadEnd unused) = block_end_text (codes "block upload ") unused

-- the key in an answer's text
unfoldable pub answer_key : SdoResponse → Option Key
answer_key (answers.DownloadDone key) = Some key
answer_key (answers.UploadExpedited key expedited) = Some key
answer_key (answers.UploadInitiated key size) = Some key
answer_key (answers.Abort key code) = Some key
answer_key (answers.BlockDownloadInitiated key block_size) = Some key
answer_key (answers.BlockUploadInitiated key size) = Some key
answer_key other = None
