-- What a request or a response makes of the open transfer.
use Rattle.std.specs.Prelude.{ℕ, not, List}
use Rattle.co_frame.specs.declared.sdo_request.SdoRequest.{SdoRequest}
use Rattle.co_frame.specs.declared.sdo_request.SdoRequest.TheVariants.{DownloadSegment, UploadSegment as NextSegment, BlockUploadEnd as UploadEnd, BlockUploadAcknowledge, BlockUploadStart, BlockDownloadEnd}
use Rattle.co_frame.specs.declared.sdo_response.SdoResponse.{SdoResponse}
use Rattle.co_frame.specs.declared.sdo_response.SdoResponse.TheVariants.{DownloadDone, DownloadSegmentDone, UploadExpedited, UploadInitiated, UploadSegment, Abort, BlockDownloadInitiated, BlockDownloadDone, BlockDownloadAcknowledge, BlockUploadInitiated, BlockUploadEnd}
use Rattle.conode_explain_transfers.specs.declared.reading.Reading.{Reading}
use Rattle.conode_explain_transfers.specs.declared.reading.Reading.TheVariants.{Segment, Request, Response}
use Rattle.conode_explain_transfers.specs.declared.transfer.Transfer.{Transfer}
use Rattle.conode_explain_transfers.specs.Initiates.{has_crc, data_of}
use Rattle.conode_explain_transfers.specs.Transfers.{Turn, is_download, unexpected}
use Rattle.conode_explain_transfers.specs.SegmentedTurns.{download_done, download_segment, segment_done, upload_expedited, upload_initiated, upload_request, upload_segment}
use Rattle.conode_explain_transfers.specs.BlockTurns.{block_download_initiated, block_upload_initiated, upload_started, block_segment, acknowledged, crc_in, block_ended, end_confirmed}

-- a request that begins nothing, which these bytes spell
abbrev pub request_turn : Transfer → SdoRequest → List ℕ → Turn
request_turn transfer (DownloadSegment toggle segment last) bytes = download_segment transfer toggle segment last
request_turn transfer (NextSegment toggle) bytes = upload_request transfer toggle
request_turn transfer BlockUploadStart bytes = upload_started transfer
request_turn transfer (BlockUploadAcknowledge sequence block_size) bytes =
    acknowledged (not (is_download transfer.direction)) transfer sequence block_size
request_turn transfer UploadEnd bytes = end_confirmed (not (is_download transfer.direction)) transfer
request_turn transfer (BlockDownloadEnd unused) bytes = block_ended (is_download transfer.direction) transfer unused (crc_in bytes)
request_turn transfer _ bytes = unexpected transfer

-- a response that is no abort
abbrev pub response_turn : Transfer → SdoResponse → List ℕ → Turn
response_turn transfer (DownloadDone key) bytes = download_done transfer key
response_turn transfer (DownloadSegmentDone toggle) bytes = segment_done transfer toggle
response_turn transfer (UploadExpedited key expedited) bytes = upload_expedited transfer key (data_of expedited)
response_turn transfer (UploadInitiated key size) bytes = upload_initiated transfer key size
response_turn transfer (UploadSegment toggle segment last) bytes = upload_segment transfer toggle segment last
response_turn transfer (Abort key code) bytes = unexpected transfer
response_turn transfer (BlockDownloadInitiated key block_size) bytes = block_download_initiated transfer key block_size (has_crc bytes)
response_turn transfer BlockDownloadDone bytes = end_confirmed (is_download transfer.direction) transfer
response_turn transfer (BlockDownloadAcknowledge sequence block_size) bytes =
    acknowledged (is_download transfer.direction) transfer sequence block_size
response_turn transfer (BlockUploadInitiated key size) bytes = block_upload_initiated transfer key size (has_crc bytes)
response_turn transfer (BlockUploadEnd unused) bytes = block_ended (not (is_download transfer.direction)) transfer unused (crc_in bytes)

-- a frame that is neither an initiate request nor an abort
abbrev pub turn_of : Transfer → Reading → List ℕ → Turn
turn_of transfer (Segment segment) bytes = block_segment transfer segment
turn_of transfer (Request request) bytes = request_turn transfer request bytes
turn_of transfer (Response response) bytes = response_turn transfer response bytes
turn_of transfer _ bytes = unexpected transfer
