-- The responses of an SDO server (CiA 301, 7.2.4.3): the table of the eight bytes that spell each.
use Rattle.std.specs.Prelude.{◌≡◌, ℕ, ◌≤◌, ◌==◌, if◌then◌else◌, Option, Some, None, List, [], ◌∷◌, length, slice_index, replicate}
use Rattle.co_frame.specs.declared.sdo_response.SdoResponse.{SdoResponse}
use Rattle.co_frame.specs.declared.sdo_response.SdoResponse.TheVariants.{DownloadDone, DownloadSegmentDone, UploadExpedited, UploadInitiated, UploadSegment, Abort, BlockDownloadInitiated, BlockDownloadDone, BlockDownloadAcknowledge, BlockUploadInitiated, BlockUploadEnd}
use Rattle.co_frame.specs.Scs as scs
use Rattle.co_frame.specs.Subcommands as subcommands
use Rattle.co_frame.specs.SdoFields.{specifier, command_with, subcommand, has_bit, unused_of_end, key_in, weight}
use Rattle.co_frame.specs.SdoParts.{SpellsExpedited, SpellsInitiate, SpellsSegment, SpellsAbort, SpellsBlockInitiate, SpellsBlockEnd, SpellsAcknowledge, IsExpeditedData, expedited_in, segment_in, size_in, code_in, expedited_bytes, initiate_bytes, segment_bytes, abort_bytes, block_initiate_bytes, block_end_bytes, acknowledge_bytes, keyed_bytes, bare_bytes}

-- the row of the table: bits and bytes that it doesn't name are reserved, and free
abbrev pub SpellsResponseRow : SdoResponse → List ℕ → Type 0
SpellsResponseRow (UploadSegment toggle segment last) bytes = (specifier bytes ≡ scs.upload_segment) × SpellsSegment toggle segment last bytes
SpellsResponseRow (DownloadSegmentDone toggle) bytes = (specifier bytes ≡ scs.download_segment) × (toggle ≡ has_bit 4 bytes)
SpellsResponseRow (UploadExpedited key expedited) bytes = (specifier bytes ≡ scs.initiate_upload) × SpellsExpedited key expedited bytes
SpellsResponseRow (UploadInitiated key size) bytes = (specifier bytes ≡ scs.initiate_upload) × SpellsInitiate key size bytes
SpellsResponseRow (DownloadDone key) bytes = (specifier bytes ≡ scs.initiate_download) × (key ≡ key_in bytes)
SpellsResponseRow (Abort key code) bytes = (specifier bytes ≡ scs.abort) × SpellsAbort key code bytes
SpellsResponseRow (BlockDownloadInitiated key block_size) bytes = (specifier bytes ≡ scs.block_download) × (subcommand bytes ≡ subcommands.initiate) × (key ≡ key_in bytes) × (block_size ≡ slice_index bytes 4)
SpellsResponseRow BlockDownloadDone bytes = (specifier bytes ≡ scs.block_download) × (subcommand bytes ≡ subcommands.end)
SpellsResponseRow (BlockDownloadAcknowledge sequence block_size) bytes = (specifier bytes ≡ scs.block_download) × (subcommand bytes ≡ subcommands.acknowledge) × SpellsAcknowledge sequence block_size bytes
SpellsResponseRow (BlockUploadInitiated key size) bytes = (specifier bytes ≡ scs.block_upload) × SpellsBlockInitiate key size bytes
SpellsResponseRow (BlockUploadEnd unused) bytes = (specifier bytes ≡ scs.block_upload) × SpellsBlockEnd unused bytes

-- eight bytes that are in the response's row
abbrev pub SpellsSdoResponse : SdoResponse → List ℕ → Type 0
SpellsSdoResponse response bytes = (length bytes ≡ 8) × SpellsResponseRow response bytes

-- ---- what a frame's bytes say

-- an upload: expedited where e is set, else initiate of a segmented one
abbrev pub upload_in : List ℕ → SdoResponse
upload_in bytes =
    if has_bit 1 bytes
    then UploadExpedited (key_in bytes) (expedited_in bytes)
    else UploadInitiated (key_in bytes) (size_in (has_bit 0 bytes) bytes)

-- a block download, by the subcommand; none where it is 3
abbrev pub block_download_in : List ℕ → Option SdoResponse
block_download_in bytes =
    if subcommand bytes == subcommands.initiate then Some (BlockDownloadInitiated (key_in bytes) (slice_index bytes 4))
    else (if subcommand bytes == subcommands.end then Some BlockDownloadDone
    else (if subcommand bytes == subcommands.acknowledge then Some (BlockDownloadAcknowledge (slice_index bytes 1) (slice_index bytes 2))
    else None))

-- a block upload: end or initiate
abbrev pub block_upload_in : List ℕ → SdoResponse
block_upload_in bytes =
    if has_bit 0 bytes then BlockUploadEnd (unused_of_end bytes)
    else BlockUploadInitiated (key_in bytes) (size_in (has_bit 1 bytes) bytes)

-- the response that eight bytes spell, by the command specifier; none where it is 7
unfoldable pub response_row_in : List ℕ → Option SdoResponse
response_row_in bytes =
    if specifier bytes == scs.upload_segment then Some (UploadSegment (has_bit 4 bytes) (segment_in bytes) (has_bit 0 bytes))
    else (if specifier bytes == scs.download_segment then Some (DownloadSegmentDone (has_bit 4 bytes))
    else (if specifier bytes == scs.initiate_upload then Some (upload_in bytes)
    else (if specifier bytes == scs.initiate_download then Some (DownloadDone (key_in bytes))
    else (if specifier bytes == scs.abort then Some (Abort (key_in bytes) (code_in bytes))
    else (if specifier bytes == scs.block_download then block_download_in bytes
    else (if specifier bytes == scs.block_upload then Some (block_upload_in bytes)
    else None))))))

-- the response that a frame's data spells
abbrev pub response_in : List ℕ → Option SdoResponse
response_in bytes = if length bytes == 8 then response_row_in bytes else None

-- ---- what is written

-- a response that can be spelled
abbrev pub IsSdoResponse : SdoResponse → Type 0
IsSdoResponse (UploadExpedited key expedited) = IsExpeditedData expedited
IsSdoResponse (BlockUploadEnd unused) = unused ≤ 7
IsSdoResponse other = Unit {0}

-- an abort
abbrev pub IsAbortResponse : SdoResponse → Type 0
IsAbortResponse (Abort key code) = Unit {0}
IsAbortResponse other = ⊥

-- the eight bytes of a response, reserved bits and bytes 0
abbrev pub response_bytes : SdoResponse → List ℕ
response_bytes (UploadSegment toggle segment last) = segment_bytes toggle segment last
response_bytes (DownloadSegmentDone toggle) = bare_bytes (command_with scs.download_segment (weight 4 toggle))
response_bytes (UploadExpedited key expedited) = expedited_bytes scs.initiate_upload key expedited
response_bytes (UploadInitiated key size) = initiate_bytes scs.initiate_upload key size
response_bytes (DownloadDone key) = keyed_bytes (command_with scs.initiate_download 0) key (replicate 4 0)
response_bytes (Abort key code) = abort_bytes key code
response_bytes (BlockDownloadInitiated key block_size) = keyed_bytes (command_with scs.block_download subcommands.initiate) key (block_size ∷ 0 ∷ 0 ∷ 0 ∷ [])
response_bytes BlockDownloadDone = bare_bytes (command_with scs.block_download subcommands.end)
response_bytes (BlockDownloadAcknowledge sequence block_size) = acknowledge_bytes scs.block_download sequence block_size
response_bytes (BlockUploadInitiated key size) = block_initiate_bytes scs.block_upload key size
response_bytes (BlockUploadEnd unused) = block_end_bytes scs.block_upload unused
