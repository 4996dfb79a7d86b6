-- Initiate requests (CiA 301, 7.2.4.3.3, 7.2.4.3.6, 7.2.4.3.9 and 7.2.4.3.13).
use Rattle.std.specs.Prelude.{ℕ, ◌==◌, ◌&&◌, Bool, false, List, [], length, Option, Some, None}
use Rattle.co_value.specs.declared.key.Key.{Key}
use Rattle.co_frame.specs.SdoFields.{has_bit}
use Rattle.co_frame.specs.declared.sdo_request.ExpeditedData.{ExpeditedData}
use Rattle.co_frame.specs.declared.sdo_request.ExpeditedData.TheVariants.{Indicated, NotIndicated}
use Rattle.co_frame.specs.declared.sdo_request.SdoRequest.{SdoRequest}
use Rattle.co_frame.specs.declared.sdo_request.SdoRequest.TheVariants.{DownloadExpedited, DownloadInitiate, Upload as UploadInitiate, BlockUploadInitiate, BlockDownloadInitiate}
use Rattle.conode_explain_transfers.specs.declared.initiate.Initiate.{Initiate}
use Rattle.conode_explain_transfers.specs.declared.kinds.Direction.{Direction}
use Rattle.conode_explain_transfers.specs.declared.kinds.Direction.TheVariants.{Download, Upload}
use Rattle.conode_explain_transfers.specs.declared.kinds.Protocol.{Protocol}
use Rattle.conode_explain_transfers.specs.declared.kinds.Protocol.TheVariants.{Undecided, Expedited, Segmented, Block}

-- initiate of a block transfer, or its response, says in bit 2 that the end supports the CRC
abbrev pub has_crc : List ℕ → Bool
has_crc bytes = (length bytes == 8) && has_bit 2 bytes

-- the data of an expedited transfer: all four bytes where their number isn't indicated
abbrev pub data_of : ExpeditedData → List ℕ
data_of (Indicated counted) = counted.items
data_of (NotIndicated four) = four

-- of an entry, without what only some requests have
abbrev pub initiate_of : Key → Direction → Protocol → Initiate
initiate_of key direction protocol = record {
  key = key;
  direction = direction;
  protocol = protocol;
  size = None;
  crc = false;
  block_size = 0;
  bytes = record { items = [] };
}

-- before the answer to initiate of a block download only its first segment can come, where this
-- answer is missing in the recording: the greatest number of a segment is 1
abbrev pub first_segment : ℕ
first_segment = 1

-- what a request initiates, which these bytes spell; the others are no initiate requests
abbrev pub initiate_by : SdoRequest → List ℕ → Option Initiate
initiate_by (DownloadExpedited key expedited) bytes =
    Some (record (initiate_of key Download Expedited) { bytes = record { items = data_of expedited } })
initiate_by (DownloadInitiate key size) bytes = Some (record (initiate_of key Download Segmented) { size = size })
initiate_by (UploadInitiate key) bytes = Some (initiate_of key Upload Undecided)
initiate_by (BlockUploadInitiate key block_size threshold) bytes =
    Some (record (initiate_of key Upload Block) { crc = has_crc bytes; block_size = block_size })
initiate_by (BlockDownloadInitiate key size) bytes =
    Some (record (initiate_of key Download Block) { size = size; crc = has_crc bytes; block_size = first_segment })
initiate_by _ bytes = None
