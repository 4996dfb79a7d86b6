-- The requests of an SDO client (CiA 301, 7.2.4.3): the table of the eight bytes that spell each.
use Rattle.std.specs.Prelude.{◌≡◌, ℕ, ◌≤◌, ◌==◌, if◌then◌else◌, Option, Some, None, List, [], ◌∷◌, length, slice_index, replicate}
use Rattle.co_frame.specs.declared.sdo_request.SdoRequest.{SdoRequest}
use Rattle.co_frame.specs.declared.sdo_request.SdoRequest.TheVariants.{DownloadExpedited, DownloadInitiate, DownloadSegment, Upload, UploadSegment, Abort, BlockUploadInitiate, BlockUploadEnd, BlockUploadAcknowledge, BlockUploadStart, BlockDownloadInitiate, BlockDownloadEnd}
use Rattle.co_frame.specs.Ccs as ccs
use Rattle.co_frame.specs.Subcommands as subcommands
use Rattle.co_frame.specs.SdoFields.{specifier, command_with, subcommand, has_bit, unused_of_end, key_in, weight}
use Rattle.co_frame.specs.SdoParts.{SpellsExpedited, SpellsInitiate, SpellsSegment, SpellsAbort, SpellsBlockInitiate, SpellsBlockEnd, SpellsAcknowledge, IsExpeditedData, expedited_in, segment_in, size_in, code_in, expedited_bytes, initiate_bytes, segment_bytes, abort_bytes, block_initiate_bytes, block_end_bytes, acknowledge_bytes, keyed_bytes, bare_bytes}

-- the row of the table: bits and bytes that it doesn't name are reserved, and free
abbrev pub SpellsRequestRow : SdoRequest → List ℕ → Type 0
SpellsRequestRow (DownloadSegment toggle segment last) bytes = (specifier bytes ≡ ccs.download_segment) × SpellsSegment toggle segment last bytes
SpellsRequestRow (DownloadExpedited key expedited) bytes = (specifier bytes ≡ ccs.initiate_download) × SpellsExpedited key expedited bytes
SpellsRequestRow (DownloadInitiate key size) bytes = (specifier bytes ≡ ccs.initiate_download) × SpellsInitiate key size bytes
SpellsRequestRow (Upload key) bytes = (specifier bytes ≡ ccs.initiate_upload) × (key ≡ key_in bytes)
SpellsRequestRow (UploadSegment toggle) bytes = (specifier bytes ≡ ccs.upload_segment) × (toggle ≡ has_bit 4 bytes)
SpellsRequestRow (Abort key code) bytes = (specifier bytes ≡ ccs.abort) × SpellsAbort key code bytes
SpellsRequestRow (BlockUploadInitiate key block_size threshold) bytes = (specifier bytes ≡ ccs.block_upload) × (subcommand bytes ≡ subcommands.initiate) × (key ≡ key_in bytes) × (block_size ≡ slice_index bytes 4) × (threshold ≡ slice_index bytes 5)
SpellsRequestRow BlockUploadEnd bytes = (specifier bytes ≡ ccs.block_upload) × (subcommand bytes ≡ subcommands.end)
SpellsRequestRow (BlockUploadAcknowledge sequence block_size) bytes = (specifier bytes ≡ ccs.block_upload) × (subcommand bytes ≡ subcommands.acknowledge) × SpellsAcknowledge sequence block_size bytes
SpellsRequestRow BlockUploadStart bytes = (specifier bytes ≡ ccs.block_upload) × (subcommand bytes ≡ subcommands.start)
SpellsRequestRow (BlockDownloadInitiate key size) bytes = (specifier bytes ≡ ccs.block_download) × SpellsBlockInitiate key size bytes
SpellsRequestRow (BlockDownloadEnd unused) bytes = (specifier bytes ≡ ccs.block_download) × SpellsBlockEnd unused bytes

-- eight bytes that are in the request's row
abbrev pub SpellsSdoRequest : SdoRequest → List ℕ → Type 0
SpellsSdoRequest request bytes = (length bytes ≡ 8) × SpellsRequestRow request bytes

-- ---- what a frame's bytes say

-- a download: expedited where e is set, else initiate of a segmented one
abbrev pub download_in : List ℕ → SdoRequest
download_in bytes =
    if has_bit 1 bytes
    then DownloadExpedited (key_in bytes) (expedited_in bytes)
    else DownloadInitiate (key_in bytes) (size_in (has_bit 0 bytes) bytes)

-- a block upload, by the subcommand
abbrev pub block_upload_in : List ℕ → SdoRequest
block_upload_in bytes =
    if subcommand bytes == subcommands.initiate then BlockUploadInitiate (key_in bytes) (slice_index bytes 4) (slice_index bytes 5)
    else (if subcommand bytes == subcommands.end then BlockUploadEnd
    else (if subcommand bytes == subcommands.acknowledge then BlockUploadAcknowledge (slice_index bytes 1) (slice_index bytes 2)
    else BlockUploadStart))

-- a block download: end or initiate
abbrev pub block_download_in : List ℕ → SdoRequest
block_download_in bytes =
    if has_bit 0 bytes then BlockDownloadEnd (unused_of_end bytes)
    else BlockDownloadInitiate (key_in bytes) (size_in (has_bit 1 bytes) bytes)

-- the request that eight bytes spell, by the command specifier; none where it is 7
unfoldable pub request_row_in : List ℕ → Option SdoRequest
request_row_in bytes =
    if specifier bytes == ccs.download_segment then Some (DownloadSegment (has_bit 4 bytes) (segment_in bytes) (has_bit 0 bytes))
    else (if specifier bytes == ccs.initiate_download then Some (download_in bytes)
    else (if specifier bytes == ccs.initiate_upload then Some (Upload (key_in bytes))
    else (if specifier bytes == ccs.upload_segment then Some (UploadSegment (has_bit 4 bytes))
    else (if specifier bytes == ccs.abort then Some (Abort (key_in bytes) (code_in bytes))
    else (if specifier bytes == ccs.block_upload then Some (block_upload_in bytes)
    else (if specifier bytes == ccs.block_download then Some (block_download_in bytes)
    else None))))))

-- the request that a frame's data spells
abbrev pub request_in : List ℕ → Option SdoRequest
request_in bytes = if length bytes == 8 then request_row_in bytes else None

-- ---- what is written

-- a request that can be spelled
abbrev pub IsSdoRequest : SdoRequest → Type 0
IsSdoRequest (DownloadExpedited key expedited) = IsExpeditedData expedited
IsSdoRequest (BlockDownloadEnd unused) = unused ≤ 7
IsSdoRequest other = Unit {0}

-- an abort
abbrev pub IsAbortRequest : SdoRequest → Type 0
IsAbortRequest (Abort key code) = Unit {0}
IsAbortRequest other = ⊥

-- the eight bytes of a request, reserved bits and bytes 0
abbrev pub request_bytes : SdoRequest → List ℕ
request_bytes (DownloadSegment toggle segment last) = segment_bytes toggle segment last
request_bytes (DownloadExpedited key expedited) = expedited_bytes ccs.initiate_download key expedited
request_bytes (DownloadInitiate key size) = initiate_bytes ccs.initiate_download key size
request_bytes (Upload key) = keyed_bytes (command_with ccs.initiate_upload 0) key (replicate 4 0)
request_bytes (UploadSegment toggle) = bare_bytes (command_with ccs.upload_segment (weight 4 toggle))
request_bytes (Abort key code) = abort_bytes key code
request_bytes (BlockUploadInitiate key block_size threshold) = keyed_bytes (command_with ccs.block_upload subcommands.initiate) key (block_size ∷ threshold ∷ 0 ∷ 0 ∷ [])
request_bytes BlockUploadEnd = bare_bytes (command_with ccs.block_upload subcommands.end)
request_bytes (BlockUploadAcknowledge sequence block_size) = acknowledge_bytes ccs.block_upload sequence block_size
request_bytes BlockUploadStart = bare_bytes (command_with ccs.block_upload subcommands.start)
request_bytes (BlockDownloadInitiate key size) = block_initiate_bytes ccs.block_download key size
request_bytes (BlockDownloadEnd unused) = block_end_bytes ccs.block_download unused
