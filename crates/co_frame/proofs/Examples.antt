-- Worked examples, computed from the definitions: each row of the SDO tables in both directions, the edges between rows, and the other services.
use Rattle.std.proofs.Common.{◌≡◌, ℕ, ◌*◌, replicate, List, [], ◌∷◌, true, false, None, Some, Option, refl, lit<, lit≤, arith}
use Rattle.co_value.specs.declared.key.Key.{Key}
use Rattle.arrayvec.specs.ArrayVec.{ArrayVec}
use Rattle.co_frame.specs.declared.sdo_request.ExpeditedData.TheVariants.{Indicated, NotIndicated}
use Rattle.co_frame.specs.declared.sdo_request.SdoRequest.{SdoRequest}
use Rattle.co_frame.specs.declared.sdo_request.SdoRequest.TheVariants as requests
use Rattle.co_frame.specs.declared.sdo_response.SdoResponse.{SdoResponse}
use Rattle.co_frame.specs.declared.sdo_response.SdoResponse.TheVariants as responses
use Rattle.co_frame.specs.declared.block_segment.BlockSegment.{BlockSegment}
use Rattle.co_frame.specs.declared.emergency.Emergency.{Emergency}
use Rattle.co_frame.specs.declared.heartbeat.Heartbeat.TheVariants.{BootUp, Stopped, Operational, PreOperational}
use Rattle.co_frame.specs.declared.nmt.NmtService.{NmtService}
use Rattle.co_frame.specs.declared.nmt.NmtService.TheVariants.{Start, Stop, EnterPreOperational, ResetNode, ResetCommunication}
use Rattle.co_frame.specs.BlockSegments.{IsBlockSegment, block_segment_in, block_segment_bytes, is_abort_in_sub_block}
use Rattle.co_frame.specs.Emergencies.{emergency_in, emergency_bytes}
use Rattle.co_frame.specs.FrameContent.{IsFrame}
use Rattle.co_frame.specs.Heartbeats.{heartbeat_in}
use Rattle.co_frame.specs.Outboxes.{HasRoomFor}
use Rattle.co_frame.specs.SegmentSizes.{bytes_per_segment, segments_per_sub_block, bytes_per_sub_block}
use Rattle.co_frame.specs.Nmt.{IsNmtCommand, nmt_command_in, nmt_command_bytes}
use Rattle.co_frame.specs.Syncs.{sync_in}
use Rattle.co_frame.specs.SdoRequests.{IsSdoRequest, request_in, request_row_in, request_bytes}
use Rattle.co_frame.specs.SdoResponses.{IsSdoResponse, response_in, response_row_in, response_bytes}

-- sub-index 1 of object 1018h
abbrev pub key : Key
key = record { index = 0x1018; sub = 1 }

-- the bytes of an expedited transfer or a segment
abbrev pub counted : List ℕ → ArrayVec ℕ
counted bytes = record { items = bytes }

-- a request and its bytes
abbrev pub IsRequest : SdoRequest → List ℕ → Type 0
IsRequest request bytes = (request_bytes request ≡ bytes) × (request_in bytes ≡ Some request)

-- a response and its bytes
abbrev pub IsResponse : SdoResponse → List ℕ → Type 0
IsResponse response bytes = (response_bytes response ≡ bytes) × (response_in bytes ≡ Some response)

-- ---- requests

download_one_byte : IsRequest (requests.DownloadExpedited key (Indicated (counted (0xE8 ∷ [])))) (0x2F ∷ 0x18 ∷ 0x10 ∷ 1 ∷ 0xE8 ∷ 0 ∷ 0 ∷ 0 ∷ [])
unfolding request_row_in
download_one_byte = (refl, refl)

download_four_bytes : IsRequest (requests.DownloadExpedited key (Indicated (counted (1 ∷ 2 ∷ 3 ∷ 4 ∷ [])))) (0x23 ∷ 0x18 ∷ 0x10 ∷ 1 ∷ 1 ∷ 2 ∷ 3 ∷ 4 ∷ [])
unfolding request_row_in
download_four_bytes = (refl, refl)

download_without_s : IsRequest (requests.DownloadExpedited key (NotIndicated (1 ∷ 0 ∷ 0 ∷ 0 ∷ []))) (0x22 ∷ 0x18 ∷ 0x10 ∷ 1 ∷ 1 ∷ 0 ∷ 0 ∷ 0 ∷ [])
unfolding request_row_in
download_without_s = (refl, refl)

download_with_size : IsRequest (requests.DownloadInitiate key (Some 0x0102030A)) (0x21 ∷ 0x18 ∷ 0x10 ∷ 1 ∷ 0x0A ∷ 3 ∷ 2 ∷ 1 ∷ [])
unfolding request_row_in
download_with_size = (refl, refl)

download_without_size : IsRequest (requests.DownloadInitiate key None) (0x20 ∷ 0x18 ∷ 0x10 ∷ 1 ∷ 0 ∷ 0 ∷ 0 ∷ 0 ∷ [])
unfolding request_row_in
download_without_size = (refl, refl)

download_first_segment : IsRequest (requests.DownloadSegment false (counted (0x30 ∷ 0x31 ∷ 0x32 ∷ 0x33 ∷ 0x34 ∷ 0x35 ∷ 0x36 ∷ [])) false) (0 ∷ 0x30 ∷ 0x31 ∷ 0x32 ∷ 0x33 ∷ 0x34 ∷ 0x35 ∷ 0x36 ∷ [])
unfolding request_row_in
download_first_segment = (refl, refl)

download_last_segment : IsRequest (requests.DownloadSegment true (counted (0x37 ∷ 0x38 ∷ 0x39 ∷ [])) true) (0x19 ∷ 0x37 ∷ 0x38 ∷ 0x39 ∷ 0 ∷ 0 ∷ 0 ∷ 0 ∷ [])
unfolding request_row_in
download_last_segment = (refl, refl)

download_empty_segment : IsRequest (requests.DownloadSegment false (counted []) true) (0x0F ∷ 0 ∷ 0 ∷ 0 ∷ 0 ∷ 0 ∷ 0 ∷ 0 ∷ [])
unfolding request_row_in
download_empty_segment = (refl, refl)

upload : IsRequest (requests.Upload key) (0x40 ∷ 0x18 ∷ 0x10 ∷ 1 ∷ 0 ∷ 0 ∷ 0 ∷ 0 ∷ [])
unfolding request_row_in
upload = (refl, refl)

upload_segment : IsRequest (requests.UploadSegment false) (0x60 ∷ 0 ∷ 0 ∷ 0 ∷ 0 ∷ 0 ∷ 0 ∷ 0 ∷ [])
unfolding request_row_in
upload_segment = (refl, refl)

upload_segment_toggled : IsRequest (requests.UploadSegment true) (0x70 ∷ 0 ∷ 0 ∷ 0 ∷ 0 ∷ 0 ∷ 0 ∷ 0 ∷ [])
unfolding request_row_in
upload_segment_toggled = (refl, refl)

abort : IsRequest (requests.Abort key (record { 0 = 0x06070012 })) (0x80 ∷ 0x18 ∷ 0x10 ∷ 1 ∷ 0x12 ∷ 0 ∷ 7 ∷ 6 ∷ [])
unfolding request_row_in
abort = (refl, refl)

block_upload_initiate : IsRequest (requests.BlockUploadInitiate key 0x7F 4) (0xA0 ∷ 0x18 ∷ 0x10 ∷ 1 ∷ 0x7F ∷ 4 ∷ 0 ∷ 0 ∷ [])
unfolding request_row_in
block_upload_initiate = (refl, refl)

block_upload_end : IsRequest (requests.BlockUploadEnd) (0xA1 ∷ 0 ∷ 0 ∷ 0 ∷ 0 ∷ 0 ∷ 0 ∷ 0 ∷ [])
unfolding request_row_in
block_upload_end = (refl, refl)

block_upload_acknowledge : IsRequest (requests.BlockUploadAcknowledge 5 0x7F) (0xA2 ∷ 5 ∷ 0x7F ∷ 0 ∷ 0 ∷ 0 ∷ 0 ∷ 0 ∷ [])
unfolding request_row_in
block_upload_acknowledge = (refl, refl)

block_upload_start : IsRequest (requests.BlockUploadStart) (0xA3 ∷ 0 ∷ 0 ∷ 0 ∷ 0 ∷ 0 ∷ 0 ∷ 0 ∷ [])
unfolding request_row_in
block_upload_start = (refl, refl)

block_download_with_size : IsRequest (requests.BlockDownloadInitiate key (Some 14)) (0xC2 ∷ 0x18 ∷ 0x10 ∷ 1 ∷ 0x0E ∷ 0 ∷ 0 ∷ 0 ∷ [])
unfolding request_row_in
block_download_with_size = (refl, refl)

block_download_without_size : IsRequest (requests.BlockDownloadInitiate key None) (0xC0 ∷ 0x18 ∷ 0x10 ∷ 1 ∷ 0 ∷ 0 ∷ 0 ∷ 0 ∷ [])
unfolding request_row_in
block_download_without_size = (refl, refl)

block_download_end : IsRequest (requests.BlockDownloadEnd 0) (0xC1 ∷ 0 ∷ 0 ∷ 0 ∷ 0 ∷ 0 ∷ 0 ∷ 0 ∷ [])
unfolding request_row_in
block_download_end = (refl, refl)

block_download_end_seven_unused : IsRequest (requests.BlockDownloadEnd 7) (0xDD ∷ 0 ∷ 0 ∷ 0 ∷ 0 ∷ 0 ∷ 0 ∷ 0 ∷ [])
unfolding request_row_in
block_download_end_seven_unused = (refl, refl)

-- ---- responses

download_done : IsResponse (responses.DownloadDone key) (0x60 ∷ 0x18 ∷ 0x10 ∷ 1 ∷ 0 ∷ 0 ∷ 0 ∷ 0 ∷ [])
unfolding response_row_in
download_done = (refl, refl)

download_segment_done : IsResponse (responses.DownloadSegmentDone false) (0x20 ∷ 0 ∷ 0 ∷ 0 ∷ 0 ∷ 0 ∷ 0 ∷ 0 ∷ [])
unfolding response_row_in
download_segment_done = (refl, refl)

download_segment_done_toggled : IsResponse (responses.DownloadSegmentDone true) (0x30 ∷ 0 ∷ 0 ∷ 0 ∷ 0 ∷ 0 ∷ 0 ∷ 0 ∷ [])
unfolding response_row_in
download_segment_done_toggled = (refl, refl)

upload_four_bytes : IsResponse (responses.UploadExpedited key (Indicated (counted (0x91 ∷ 1 ∷ 0 ∷ 0 ∷ [])))) (0x43 ∷ 0x18 ∷ 0x10 ∷ 1 ∷ 0x91 ∷ 1 ∷ 0 ∷ 0 ∷ [])
unfolding response_row_in
upload_four_bytes = (refl, refl)

upload_one_byte : IsResponse (responses.UploadExpedited key (Indicated (counted (5 ∷ [])))) (0x4F ∷ 0x18 ∷ 0x10 ∷ 1 ∷ 5 ∷ 0 ∷ 0 ∷ 0 ∷ [])
unfolding response_row_in
upload_one_byte = (refl, refl)

upload_without_s : IsResponse (responses.UploadExpedited key (NotIndicated (5 ∷ 6 ∷ 7 ∷ 8 ∷ []))) (0x42 ∷ 0x18 ∷ 0x10 ∷ 1 ∷ 5 ∷ 6 ∷ 7 ∷ 8 ∷ [])
unfolding response_row_in
upload_without_s = (refl, refl)

upload_with_size : IsResponse (responses.UploadInitiated key (Some 10)) (0x41 ∷ 0x18 ∷ 0x10 ∷ 1 ∷ 0x0A ∷ 0 ∷ 0 ∷ 0 ∷ [])
unfolding response_row_in
upload_with_size = (refl, refl)

upload_without_size : IsResponse (responses.UploadInitiated key None) (0x40 ∷ 0x18 ∷ 0x10 ∷ 1 ∷ 0 ∷ 0 ∷ 0 ∷ 0 ∷ [])
unfolding response_row_in
upload_without_size = (refl, refl)

upload_last_segment : IsResponse (responses.UploadSegment true (counted (0x37 ∷ 0x38 ∷ 0x39 ∷ [])) true) (0x19 ∷ 0x37 ∷ 0x38 ∷ 0x39 ∷ 0 ∷ 0 ∷ 0 ∷ 0 ∷ [])
unfolding response_row_in
upload_last_segment = (refl, refl)

response_abort : IsResponse (responses.Abort key (record { 0 = 0x06020000 })) (0x80 ∷ 0x18 ∷ 0x10 ∷ 1 ∷ 0 ∷ 0 ∷ 2 ∷ 6 ∷ [])
unfolding response_row_in
response_abort = (refl, refl)

block_download_initiated : IsResponse (responses.BlockDownloadInitiated key 0x7F) (0xA0 ∷ 0x18 ∷ 0x10 ∷ 1 ∷ 0x7F ∷ 0 ∷ 0 ∷ 0 ∷ [])
unfolding response_row_in
block_download_initiated = (refl, refl)

block_download_done : IsResponse (responses.BlockDownloadDone) (0xA1 ∷ 0 ∷ 0 ∷ 0 ∷ 0 ∷ 0 ∷ 0 ∷ 0 ∷ [])
unfolding response_row_in
block_download_done = (refl, refl)

block_download_acknowledge : IsResponse (responses.BlockDownloadAcknowledge 2 0x7F) (0xA2 ∷ 2 ∷ 0x7F ∷ 0 ∷ 0 ∷ 0 ∷ 0 ∷ 0 ∷ [])
unfolding response_row_in
block_download_acknowledge = (refl, refl)

block_upload_initiated : IsResponse (responses.BlockUploadInitiated key (Some 4)) (0xC2 ∷ 0x18 ∷ 0x10 ∷ 1 ∷ 4 ∷ 0 ∷ 0 ∷ 0 ∷ [])
unfolding response_row_in
block_upload_initiated = (refl, refl)

block_upload_initiated_without_size : IsResponse (responses.BlockUploadInitiated key None) (0xC0 ∷ 0x18 ∷ 0x10 ∷ 1 ∷ 0 ∷ 0 ∷ 0 ∷ 0 ∷ [])
unfolding response_row_in
block_upload_initiated_without_size = (refl, refl)

block_upload_response_end : IsResponse (responses.BlockUploadEnd 3) (0xCD ∷ 0 ∷ 0 ∷ 0 ∷ 0 ∷ 0 ∷ 0 ∷ 0 ∷ [])
unfolding response_row_in
block_upload_response_end = (refl, refl)

-- ---- the edges between rows, with every reserved bit set

-- a frame whose byte 0 is this, and whose others are FFh
abbrev pub with_command : ℕ → List ℕ
with_command command = command ∷ 0xFF ∷ 0xFF ∷ 0xFF ∷ 0xFF ∷ 0xFF ∷ 0xFF ∷ 0xFF ∷ []

abbrev pub last_key : Key
last_key = record { index = 0xFFFF; sub = 0xFF }

abbrev pub Reads : ℕ → Option SdoRequest → Option SdoResponse → Type 0
Reads command request response = (request_in (with_command command) ≡ request) × (response_in (with_command command) ≡ response)

at_1f : Reads 0x1F (Some (requests.DownloadSegment true (counted []) true)) (Some (responses.UploadSegment true (counted []) true))
unfolding request_row_in response_row_in
at_1f = (refl, refl)

at_20 : Reads 0x20 (Some (requests.DownloadInitiate last_key None)) (Some (responses.DownloadSegmentDone false))
unfolding request_row_in response_row_in
at_20 = (refl, refl)

at_3c : Reads 0x3C (Some (requests.DownloadInitiate last_key None)) (Some (responses.DownloadSegmentDone true))
unfolding request_row_in response_row_in
at_3c = (refl, refl)

at_3f : Reads 0x3F (Some (requests.DownloadExpedited last_key (Indicated (counted (0xFF ∷ []))))) (Some (responses.DownloadSegmentDone true))
unfolding request_row_in response_row_in
at_3f = (refl, refl)

at_40 : Reads 0x40 (Some (requests.Upload last_key)) (Some (responses.UploadInitiated last_key None))
unfolding request_row_in response_row_in
at_40 = (refl, refl)

at_5e : Reads 0x5E (Some (requests.Upload last_key)) (Some (responses.UploadExpedited last_key (NotIndicated (0xFF ∷ 0xFF ∷ 0xFF ∷ 0xFF ∷ []))))
unfolding request_row_in response_row_in
at_5e = (refl, refl)

at_5f : Reads 0x5F (Some (requests.Upload last_key)) (Some (responses.UploadExpedited last_key (Indicated (counted (0xFF ∷ [])))))
unfolding request_row_in response_row_in
at_5f = (refl, refl)

at_60 : Reads 0x60 (Some (requests.UploadSegment false)) (Some (responses.DownloadDone last_key))
unfolding request_row_in response_row_in
at_60 = (refl, refl)

at_7f : Reads 0x7F (Some (requests.UploadSegment true)) (Some (responses.DownloadDone last_key))
unfolding request_row_in response_row_in
at_7f = (refl, refl)

at_80 : Reads 0x80 (Some (requests.Abort last_key (record { 0 = 0xFFFFFFFF }))) (Some (responses.Abort last_key (record { 0 = 0xFFFFFFFF })))
unfolding request_row_in response_row_in
at_80 = (refl, refl)

at_9f : Reads 0x9F (Some (requests.Abort last_key (record { 0 = 0xFFFFFFFF }))) (Some (responses.Abort last_key (record { 0 = 0xFFFFFFFF })))
unfolding request_row_in response_row_in
at_9f = (refl, refl)

at_a0 : Reads 0xA0 (Some (requests.BlockUploadInitiate last_key 0xFF 0xFF)) (Some (responses.BlockDownloadInitiated last_key 0xFF))
unfolding request_row_in response_row_in
at_a0 = (refl, refl)

at_bd : Reads 0xBD (Some requests.BlockUploadEnd) (Some responses.BlockDownloadDone)
unfolding request_row_in response_row_in
at_bd = (refl, refl)

at_be : Reads 0xBE (Some (requests.BlockUploadAcknowledge 0xFF 0xFF)) (Some (responses.BlockDownloadAcknowledge 0xFF 0xFF))
unfolding request_row_in response_row_in
at_be = (refl, refl)

at_bf : Reads 0xBF (Some requests.BlockUploadStart) None
unfolding request_row_in response_row_in
at_bf = (refl, refl)

at_c0 : Reads 0xC0 (Some (requests.BlockDownloadInitiate last_key None)) (Some (responses.BlockUploadInitiated last_key None))
unfolding request_row_in response_row_in
at_c0 = (refl, refl)

at_de : Reads 0xDE (Some (requests.BlockDownloadInitiate last_key (Some 0xFFFFFFFF))) (Some (responses.BlockUploadInitiated last_key (Some 0xFFFFFFFF)))
unfolding request_row_in response_row_in
at_de = (refl, refl)

at_df : Reads 0xDF (Some (requests.BlockDownloadEnd 7)) (Some (responses.BlockUploadEnd 7))
unfolding request_row_in response_row_in
at_df = (refl, refl)

at_e0 : Reads 0xE0 None None
unfolding request_row_in response_row_in
at_e0 = (refl, refl)

at_ff : Reads 0xFF None None
unfolding request_row_in response_row_in
at_ff = (refl, refl)

seven_bytes : (request_in (0x40 ∷ 0x18 ∷ 0x10 ∷ 1 ∷ 0 ∷ 0 ∷ 0 ∷ []) ≡ None) × (response_in (0x40 ∷ 0x18 ∷ 0x10 ∷ 1 ∷ 0 ∷ 0 ∷ 0 ∷ []) ≡ None)
seven_bytes = (refl, refl)

nine_bytes : (request_in (0x40 ∷ 0x18 ∷ 0x10 ∷ 1 ∷ 0 ∷ 0 ∷ 0 ∷ 0 ∷ 0 ∷ []) ≡ None) × (response_in (0x40 ∷ 0x18 ∷ 0x10 ∷ 1 ∷ 0 ∷ 0 ∷ 0 ∷ 0 ∷ 0 ∷ []) ≡ None)
nine_bytes = (refl, refl)

-- ---- an abort inside a sub-block

abort_at_80 : is_abort_in_sub_block (with_command 0x80) ≡ true
abort_at_80 = refl

segment_at_81 : is_abort_in_sub_block (with_command 0x81) ≡ false
segment_at_81 = refl

segment_at_9f : is_abort_in_sub_block (with_command 0x9F) ≡ false
segment_at_9f = refl

segment_at_7f : is_abort_in_sub_block (with_command 0x7F) ≡ false
segment_at_7f = refl

no_abort_of_seven_bytes : is_abort_in_sub_block (0x80 ∷ 0 ∷ 0 ∷ 0 ∷ 0 ∷ 0 ∷ 0 ∷ []) ≡ false
no_abort_of_seven_bytes = refl

-- ---- the segments of a block transfer

abbrev pub segment : ℕ → List ℕ
segment first = first ∷ 1 ∷ 2 ∷ 3 ∷ 4 ∷ 5 ∷ 6 ∷ 7 ∷ []

abbrev pub IsSegment : BlockSegment → List ℕ → Type 0
IsSegment block bytes = (block_segment_bytes block ≡ bytes) × (block_segment_in bytes ≡ Some block)

first_segment : IsSegment (record { last = false; sequence = 1; bytes = 1 ∷ 2 ∷ 3 ∷ 4 ∷ 5 ∷ 6 ∷ 7 ∷ [] }) (segment 0x01)
first_segment = (refl, refl)

last_segment : IsSegment (record { last = true; sequence = 127; bytes = 1 ∷ 2 ∷ 3 ∷ 4 ∷ 5 ∷ 6 ∷ 7 ∷ [] }) (segment 0xFF)
last_segment = (refl, refl)

no_segment_0 : (block_segment_in (segment 0x00) ≡ None) × (block_segment_in (segment 0x80) ≡ None)
no_segment_0 = (refl, refl)

-- a whole sub-block
sub_block_size : segments_per_sub_block * bytes_per_segment ≡ bytes_per_sub_block
sub_block_size = refl

-- 387 frames leave room for a sub-block, 388 do not
room_for_sub_block : HasRoomFor segments_per_sub_block (record { items = replicate 387 (record { id = 0; bytes = [] }) })
room_for_sub_block = lit≤ tt

no_room_for_sub_block : HasRoomFor segments_per_sub_block (record { items = replicate 388 (record { id = 0; bytes = [] }) }) → ⊥
no_room_for_sub_block h = omega arith

-- ---- the other services

abbrev pub IsCommand : NmtService → ℕ → ℕ → Type 0
IsCommand service node specifier =
    (nmt_command_bytes (record { service = service; node = node }) ≡ specifier ∷ node ∷ [])
    × (nmt_command_in (record { id = 0; bytes = specifier ∷ node ∷ [] }) ≡ Some (record { service = service; node = node }))

nmt_commands : IsCommand Start 5 1 × IsCommand Stop 127 2 × IsCommand EnterPreOperational 0 128 × IsCommand ResetNode 1 129 × IsCommand ResetCommunication 5 130
nmt_commands = ((refl, refl), (refl, refl), (refl, refl), (refl, refl), (refl, refl))

no_nmt_command : (nmt_command_in (record { id = 1; bytes = 1 ∷ 5 ∷ [] }) ≡ None) × (nmt_command_in (record { id = 0; bytes = 1 ∷ 128 ∷ [] }) ≡ None) × (nmt_command_in (record { id = 0; bytes = 3 ∷ 5 ∷ [] }) ≡ None) × (nmt_command_in (record { id = 0; bytes = 1 ∷ 5 ∷ 0 ∷ [] }) ≡ None)
no_nmt_command = (refl, refl, refl, refl)

error_control : (heartbeat_in (0 ∷ []) ≡ Some BootUp) × (heartbeat_in (4 ∷ []) ≡ Some Stopped) × (heartbeat_in (5 ∷ []) ≡ Some Operational) × (heartbeat_in (127 ∷ []) ≡ Some PreOperational)
error_control = (refl, refl, refl, refl)

no_error_control : (heartbeat_in [] ≡ None) × (heartbeat_in (1 ∷ []) ≡ None) × (heartbeat_in (0x85 ∷ []) ≡ None) × (heartbeat_in (5 ∷ 0 ∷ []) ≡ None)
no_error_control = (refl, refl, refl, refl)

syncs : (sync_in [] ≡ Some (record { counter = None })) × (sync_in (240 ∷ []) ≡ Some (record { counter = Some 240 })) × (sync_in (1 ∷ 0 ∷ []) ≡ None)
syncs = (refl, refl, refl)

abbrev pub rpdo_too_short : Emergency
rpdo_too_short = record { code = 0x8210; register = 0x11; manufacturer = 0 ∷ 0 ∷ 0 ∷ 0 ∷ 0 ∷ [] }

emergency : (emergency_bytes rpdo_too_short ≡ (0x10 ∷ 0x82 ∷ 0x11 ∷ 0 ∷ 0 ∷ 0 ∷ 0 ∷ 0 ∷ [])) × (emergency_in (0x10 ∷ 0x82 ∷ 0x11 ∷ 0 ∷ 0 ∷ 0 ∷ 0 ∷ 0 ∷ []) ≡ Some rpdo_too_short)
emergency = (refl, refl)

-- ---- what can be a frame, and what can be spelled, on both sides of each edge

frames : IsFrame (record { id = 0x7FF; bytes = with_command 0 }) × IsFrame (record { id = 0; bytes = [] })
frames = ((lit< tt, lit≤ tt), (lit< tt, lit≤ tt))

no_frame_on_800 : IsFrame (record { id = 0x800; bytes = [] }) → ⊥
no_frame_on_800 h = let below = h.0 in omega arith

no_frame_of_nine_bytes : IsFrame (record { id = 0; bytes = 0 ∷ with_command 0 }) → ⊥
no_frame_of_nine_bytes h = let few = h.1 in omega arith

ends : IsSdoRequest (requests.BlockDownloadEnd 7) × IsSdoResponse (responses.BlockUploadEnd 7)
ends = (lit≤ tt, lit≤ tt)

no_end_with_eight_unused : (IsSdoRequest (requests.BlockDownloadEnd 8) → ⊥) × (IsSdoResponse (responses.BlockUploadEnd 8) → ⊥)
no_end_with_eight_unused = (λ h. omega arith, λ h. omega arith)

one_byte : IsSdoRequest (requests.DownloadExpedited key (Indicated (counted (0 ∷ [])))) × IsSdoResponse (responses.UploadExpedited key (Indicated (counted (0 ∷ []))))
one_byte = (lit≤ tt, lit≤ tt)

no_empty_expedited : (IsSdoRequest (requests.DownloadExpedited key (Indicated (counted []))) → ⊥) × (IsSdoResponse (responses.UploadExpedited key (Indicated (counted []))) → ⊥)
no_empty_expedited = (λ h. omega arith, λ h. omega arith)

sequences : IsBlockSegment (record { last = false; sequence = 1; bytes = [] }) × IsBlockSegment (record { last = true; sequence = 127; bytes = [] })
sequences = ((lit≤ tt, lit< tt), (lit≤ tt, lit< tt))

no_sequence_0 : IsBlockSegment (record { last = false; sequence = 0; bytes = [] }) → ⊥
no_sequence_0 h = let some = h.0 in omega arith

no_sequence_128 : IsBlockSegment (record { last = false; sequence = 128; bytes = [] }) → ⊥
no_sequence_128 h = let few = h.1 in omega arith

nodes : IsNmtCommand (record { service = Start; node = 127 })
nodes = lit< tt

no_node_128 : IsNmtCommand (record { service = Start; node = 128 }) → ⊥
no_node_128 h = omega arith
