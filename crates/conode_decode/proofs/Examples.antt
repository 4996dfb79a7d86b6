-- The text of frames, evaluated: each text once, and both sides of each edge.
use Rattle.std.proofs.Common.{◌≡◌, ℕ, ◌/◌, ◌%◌, [], ◌∷◌, ◌++◌, List, Some, None, refl, false}
use Rattle.std.specs.Prelude.{codes}
use Rattle.std.specs.Fmt.{digits}
use Rattle.std.specs.Str.{is_utf8, chars}
use lib.Utf8.{encode}
use Rattle.co_value.specs.declared.data_type.DataType.TheVariants.{Unsigned16}
use Rattle.co_frame.specs.FrameContent.{FrameContent}
use Rattle.co_frame.specs.SdoRequests.{request_row_in}
use Rattle.co_frame.specs.SdoResponses.{response_row_in}
use Rattle.co_profile.specs.declared.access.Access.TheVariants.{Rw}
use Rattle.co_sheet.specs.Limits.{absent}
use Rattle.co_sheet.specs.Content.{Row, SheetContent}
use Rattle.co_text.specs.Printed.{digits_text}
use Rattle.conode_trace.specs.Printed.{frame_text}
use Rattle.co_sheet_changes.specs.Names.{Names, name_of}
use Rattle.conode_decode.specs.Names.{name_text}
use Rattle.conode_decode.specs.SdoTexts.{expedited_text, initiate_text, segment_text, abort_text, acknowledge_text, block_end_text, request_text, request_key, answer_text, answer_key}
use Rattle.conode_decode.specs.Texts.{nmt_text, sync_text, of_node, emergency_text, pdo_text, named_request, named_answer, sdo_request_text, sdo_answer_text, text_of_frame, decoded_line}

-- the text of a frame without a data sheet
abbrev no_names : Names
no_names = record { sheet = None; only = None; originals = λ line. None }

abbrev text_of : ℕ → List ℕ → List ℕ
text_of id bytes = text_of_frame no_names (record { id = id; bytes = bytes })

-- ---- NMT, SYNC and EMCY

nmt_start : text_of 0x000 (0x01 ∷ 0x05 ∷ []) ≡ codes "NMT start 5"
unfolding text_of_frame nmt_text digits
nmt_start = refl

nmt_stop : text_of 0x000 (0x02 ∷ 0x7F ∷ []) ≡ codes "NMT stop 127"
unfolding text_of_frame nmt_text digits
nmt_stop = refl

nmt_pre_operational : text_of 0x000 (0x80 ∷ 0x00 ∷ []) ≡ codes "NMT pre-operational 0"
unfolding text_of_frame nmt_text digits
nmt_pre_operational = refl

nmt_reset_node : text_of 0x000 (0x81 ∷ 0x05 ∷ []) ≡ codes "NMT reset-node 5"
unfolding text_of_frame nmt_text digits
nmt_reset_node = refl

nmt_reset_communication : text_of 0x000 (0x82 ∷ 0x05 ∷ []) ≡ codes "NMT reset-communication 5"
unfolding text_of_frame nmt_text digits
nmt_reset_communication = refl

nmt_node_128 : text_of 0x000 (0x01 ∷ 0x80 ∷ []) ≡ codes "unknown"
unfolding text_of_frame nmt_text digits
nmt_node_128 = refl

nmt_other_specifier : text_of 0x000 (0x03 ∷ 0x05 ∷ []) ≡ codes "unknown"
unfolding text_of_frame nmt_text digits
nmt_other_specifier = refl

nmt_one_byte : text_of 0x000 (0x01 ∷ []) ≡ codes "unknown"
unfolding text_of_frame nmt_text digits
nmt_one_byte = refl

other_below_80 : text_of 0x001 (0x01 ∷ 0x05 ∷ []) ≡ codes "unknown"
unfolding text_of_frame
other_below_80 = refl

other_7F : text_of 0x07F ([]) ≡ codes "unknown"
unfolding text_of_frame
other_7F = refl

sync_alone : text_of 0x080 ([]) ≡ codes "SYNC"
unfolding text_of_frame sync_text digits
sync_alone = refl

sync_counted : text_of 0x080 (0x10 ∷ []) ≡ codes "SYNC 16"
unfolding text_of_frame sync_text digits
sync_counted = refl

sync_of_two_bytes : text_of 0x080 (0x07 ∷ 0x01 ∷ []) ≡ codes "unknown"
unfolding text_of_frame sync_text digits
sync_of_two_bytes = refl

emergency : text_of 0x085 (0x10 ∷ 0x82 ∷ 0x11 ∷ 0x00 ∷ 0x00 ∷ 0x00 ∷ 0x00 ∷ 0x00 ∷ []) ≡ codes "EMCY node 5 code 8210 register 11"
unfolding text_of_frame emergency_text of_node digits digits_text
emergency = refl

first_emergency : text_of 0x081 (0x00 ∷ 0x00 ∷ 0x00 ∷ 0x00 ∷ 0x00 ∷ 0x00 ∷ 0x00 ∷ 0x00 ∷ []) ≡ codes "EMCY node 1 code 0000 register 00"
unfolding text_of_frame emergency_text of_node digits digits_text
first_emergency = refl

last_emergency : text_of 0x0FF (0x34 ∷ 0x12 ∷ 0x0A ∷ 0x00 ∷ 0x00 ∷ 0x00 ∷ 0x00 ∷ 0x00 ∷ []) ≡ codes "EMCY node 127 code 1234 register 0A"
unfolding text_of_frame emergency_text of_node digits digits_text
last_emergency = refl

short_emergency : text_of 0x085 (0x10 ∷ 0x82 ∷ 0x11 ∷ 0x00 ∷ 0x00 ∷ 0x00 ∷ 0x00 ∷ []) ≡ codes "unknown"
unfolding text_of_frame emergency_text of_node digits digits_text
short_emergency = refl

other_100 : text_of 0x100 (0x10 ∷ 0x82 ∷ 0x11 ∷ 0x00 ∷ 0x00 ∷ 0x00 ∷ 0x00 ∷ 0x00 ∷ []) ≡ codes "unknown"
unfolding text_of_frame
other_100 = refl

other_105 : text_of 0x105 (0x10 ∷ 0x82 ∷ 0x11 ∷ 0x00 ∷ 0x00 ∷ 0x00 ∷ 0x00 ∷ 0x00 ∷ []) ≡ codes "unknown"
unfolding text_of_frame
other_105 = refl

-- ---- PDOs

first_pdo : text_of 0x181 ([]) ≡ codes "TPDO1 node 1"
unfolding text_of_frame pdo_text of_node digits
first_pdo = refl

other_180 : text_of 0x180 ([]) ≡ codes "unknown"
unfolding text_of_frame
other_180 = refl

tpdo_1 : text_of 0x185 (0x01 ∷ []) ≡ codes "TPDO1 node 5"
unfolding text_of_frame pdo_text of_node digits
tpdo_1 = refl

last_tpdo_1 : text_of 0x1FF (0x01 ∷ []) ≡ codes "TPDO1 node 127"
unfolding text_of_frame pdo_text of_node digits
last_tpdo_1 = refl

other_200 : text_of 0x200 (0x01 ∷ []) ≡ codes "unknown"
unfolding text_of_frame
other_200 = refl

rpdo_1 : text_of 0x201 (0x01 ∷ 0x02 ∷ 0x03 ∷ 0x04 ∷ 0x05 ∷ 0x06 ∷ 0x07 ∷ 0x08 ∷ []) ≡ codes "RPDO1 node 1"
unfolding text_of_frame pdo_text of_node digits
rpdo_1 = refl

tpdo_2 : text_of 0x285 (0x01 ∷ []) ≡ codes "TPDO2 node 5"
unfolding text_of_frame pdo_text of_node digits
tpdo_2 = refl

rpdo_2 : text_of 0x305 (0x01 ∷ []) ≡ codes "RPDO2 node 5"
unfolding text_of_frame pdo_text of_node digits
rpdo_2 = refl

tpdo_3 : text_of 0x385 (0x01 ∷ []) ≡ codes "TPDO3 node 5"
unfolding text_of_frame pdo_text of_node digits
tpdo_3 = refl

rpdo_3 : text_of 0x405 (0x01 ∷ []) ≡ codes "RPDO3 node 5"
unfolding text_of_frame pdo_text of_node digits
rpdo_3 = refl

tpdo_4 : text_of 0x485 (0x01 ∷ []) ≡ codes "TPDO4 node 5"
unfolding text_of_frame pdo_text of_node digits
tpdo_4 = refl

rpdo_4 : text_of 0x505 (0x01 ∷ []) ≡ codes "RPDO4 node 5"
unfolding text_of_frame pdo_text of_node digits
rpdo_4 = refl

last_rpdo_4 : text_of 0x57F (0x01 ∷ []) ≡ codes "RPDO4 node 127"
unfolding text_of_frame pdo_text of_node digits
last_rpdo_4 = refl

other_580 : text_of 0x580 (0x43 ∷ 0x00 ∷ 0x10 ∷ 0x00 ∷ 0x91 ∷ 0x01 ∷ 0x00 ∷ 0x00 ∷ []) ≡ codes "unknown"
unfolding text_of_frame
other_580 = refl

-- ---- boot-up and heartbeats

boot_up : text_of 0x705 (0x00 ∷ []) ≡ codes "boot-up node 5"
unfolding text_of_frame of_node digits
boot_up = refl

heartbeat_stopped : text_of 0x705 (0x04 ∷ []) ≡ codes "heartbeat node 5 stopped"
unfolding text_of_frame of_node digits
heartbeat_stopped = refl

heartbeat_operational : text_of 0x701 (0x05 ∷ []) ≡ codes "heartbeat node 1 operational"
unfolding text_of_frame of_node digits
heartbeat_operational = refl

heartbeat_pre_operational : text_of 0x77F (0x7F ∷ []) ≡ codes "heartbeat node 127 pre-operational"
unfolding text_of_frame of_node digits
heartbeat_pre_operational = refl

heartbeat_of_another_byte : text_of 0x705 (0x01 ∷ []) ≡ codes "unknown"
unfolding text_of_frame of_node digits
heartbeat_of_another_byte = refl

heartbeat_of_two_bytes : text_of 0x705 (0x05 ∷ 0x00 ∷ []) ≡ codes "unknown"
unfolding text_of_frame of_node digits
heartbeat_of_two_bytes = refl

other_700 : text_of 0x700 (0x00 ∷ []) ≡ codes "unknown"
unfolding text_of_frame
other_700 = refl

other_780 : text_of 0x785 (0x00 ∷ []) ≡ codes "unknown"
unfolding text_of_frame
other_780 = refl

other_680 : text_of 0x685 (0x40 ∷ 0x00 ∷ 0x10 ∷ 0x00 ∷ 0x00 ∷ 0x00 ∷ 0x00 ∷ 0x00 ∷ []) ≡ codes "unknown"
unfolding text_of_frame
other_680 = refl

last_identifier : text_of 0x7FF ([]) ≡ codes "unknown"
unfolding text_of_frame
last_identifier = refl

-- ---- SDO requests

download_expedited : text_of 0x605 (0x2B ∷ 0x17 ∷ 0x10 ∷ 0x00 ∷ 0xE8 ∷ 0x03 ∷ 0x00 ∷ 0x00 ∷ []) ≡ codes "SDO request node 5 download 1017:00 expedited E803"
unfolding text_of_frame sdo_request_text named_request of_node digits digits_text request_row_in request_text request_key expedited_text initiate_text segment_text abort_text acknowledge_text block_end_text name_text name_of
download_expedited = refl

download_expedited_without_size : text_of 0x605 (0x22 ∷ 0x01 ∷ 0x20 ∷ 0x80 ∷ 0x01 ∷ 0x02 ∷ 0x03 ∷ 0x04 ∷ []) ≡ codes "SDO request node 5 download 2001:80 expedited 01020304"
unfolding text_of_frame sdo_request_text named_request of_node digits digits_text request_row_in request_text request_key expedited_text initiate_text segment_text abort_text acknowledge_text block_end_text name_text name_of
download_expedited_without_size = refl

download_initiate : text_of 0x605 (0x21 ∷ 0x01 ∷ 0x20 ∷ 0x00 ∷ 0x0A ∷ 0x00 ∷ 0x00 ∷ 0x00 ∷ []) ≡ codes "SDO request node 5 download 2001:00 size 10"
unfolding text_of_frame sdo_request_text named_request of_node digits digits_text request_row_in request_text request_key expedited_text initiate_text segment_text abort_text acknowledge_text block_end_text name_text name_of
download_initiate = refl

download_initiate_without_size : text_of 0x605 (0x20 ∷ 0x01 ∷ 0x20 ∷ 0x00 ∷ 0x0A ∷ 0x00 ∷ 0x00 ∷ 0x00 ∷ []) ≡ codes "SDO request node 5 download 2001:00"
unfolding text_of_frame sdo_request_text named_request of_node digits digits_text request_row_in request_text request_key expedited_text initiate_text segment_text abort_text acknowledge_text block_end_text name_text name_of
download_initiate_without_size = refl

greatest_size : text_of 0x605 (0x21 ∷ 0x01 ∷ 0x20 ∷ 0x00 ∷ 0xFF ∷ 0xFF ∷ 0xFF ∷ 0xFF ∷ []) ≡ codes "SDO request node 5 download 2001:00 size 4294967295"
unfolding text_of_frame sdo_request_text named_request of_node digits digits_text request_row_in request_text request_key expedited_text initiate_text segment_text abort_text acknowledge_text block_end_text name_text name_of
greatest_size = refl

download_segment : text_of 0x605 (0x00 ∷ 0x31 ∷ 0x32 ∷ 0x33 ∷ 0x34 ∷ 0x35 ∷ 0x36 ∷ 0x37 ∷ []) ≡ codes "SDO request node 5 segment 0 31323334353637"
unfolding text_of_frame sdo_request_text named_request of_node digits digits_text request_row_in request_text request_key expedited_text initiate_text segment_text abort_text acknowledge_text block_end_text name_text name_of
download_segment = refl

last_download_segment : text_of 0x605 (0x1B ∷ 0x41 ∷ 0x42 ∷ 0x00 ∷ 0x00 ∷ 0x00 ∷ 0x00 ∷ 0x00 ∷ []) ≡ codes "SDO request node 5 segment 1 4142 last"
unfolding text_of_frame sdo_request_text named_request of_node digits digits_text request_row_in request_text request_key expedited_text initiate_text segment_text abort_text acknowledge_text block_end_text name_text name_of
last_download_segment = refl

empty_download_segment : text_of 0x605 (0x0F ∷ 0x00 ∷ 0x00 ∷ 0x00 ∷ 0x00 ∷ 0x00 ∷ 0x00 ∷ 0x00 ∷ []) ≡ codes "SDO request node 5 segment 0 - last"
unfolding text_of_frame sdo_request_text named_request of_node digits digits_text request_row_in request_text request_key expedited_text initiate_text segment_text abort_text acknowledge_text block_end_text name_text name_of
empty_download_segment = refl

upload : text_of 0x67F (0x40 ∷ 0x05 ∷ 0x00 ∷ 0x01 ∷ 0x00 ∷ 0x00 ∷ 0x00 ∷ 0x00 ∷ []) ≡ codes "SDO request node 127 upload 0005:01"
unfolding text_of_frame sdo_request_text named_request of_node digits digits_text request_row_in request_text request_key expedited_text initiate_text segment_text abort_text acknowledge_text block_end_text name_text name_of
upload = refl

upload_segment : text_of 0x601 (0x60 ∷ 0x00 ∷ 0x00 ∷ 0x00 ∷ 0x00 ∷ 0x00 ∷ 0x00 ∷ 0x00 ∷ []) ≡ codes "SDO request node 1 segment request 0"
unfolding text_of_frame sdo_request_text named_request of_node digits digits_text request_row_in request_text request_key expedited_text initiate_text segment_text abort_text acknowledge_text block_end_text name_text name_of
upload_segment = refl

upload_segment_toggled : text_of 0x605 (0x70 ∷ 0x00 ∷ 0x00 ∷ 0x00 ∷ 0x00 ∷ 0x00 ∷ 0x00 ∷ 0x00 ∷ []) ≡ codes "SDO request node 5 segment request 1"
unfolding text_of_frame sdo_request_text named_request of_node digits digits_text request_row_in request_text request_key expedited_text initiate_text segment_text abort_text acknowledge_text block_end_text name_text name_of
upload_segment_toggled = refl

abort : text_of 0x605 (0x80 ∷ 0x01 ∷ 0x20 ∷ 0x00 ∷ 0x00 ∷ 0x00 ∷ 0x04 ∷ 0x05 ∷ []) ≡ codes "SDO request node 5 abort 2001:00 05040000"
unfolding text_of_frame sdo_request_text named_request of_node digits digits_text request_row_in request_text request_key expedited_text initiate_text segment_text abort_text acknowledge_text block_end_text name_text name_of
abort = refl

block_upload : text_of 0x605 (0xA0 ∷ 0x00 ∷ 0x21 ∷ 0x00 ∷ 0x7F ∷ 0x00 ∷ 0x00 ∷ 0x00 ∷ []) ≡ codes "SDO request node 5 block upload 2100:00 size 127"
unfolding text_of_frame sdo_request_text named_request of_node digits digits_text request_row_in request_text request_key expedited_text initiate_text segment_text abort_text acknowledge_text block_end_text name_text name_of
block_upload = refl

block_upload_end : text_of 0x605 (0xA1 ∷ 0x00 ∷ 0x00 ∷ 0x00 ∷ 0x00 ∷ 0x00 ∷ 0x00 ∷ 0x00 ∷ []) ≡ codes "SDO request node 5 block upload end"
unfolding text_of_frame sdo_request_text named_request of_node digits digits_text request_row_in request_text request_key expedited_text initiate_text segment_text abort_text acknowledge_text block_end_text name_text name_of
block_upload_end = refl

block_upload_acknowledge : text_of 0x605 (0xA2 ∷ 0x10 ∷ 0x7F ∷ 0x00 ∷ 0x00 ∷ 0x00 ∷ 0x00 ∷ 0x00 ∷ []) ≡ codes "SDO request node 5 block ack 16 size 127"
unfolding text_of_frame sdo_request_text named_request of_node digits digits_text request_row_in request_text request_key expedited_text initiate_text segment_text abort_text acknowledge_text block_end_text name_text name_of
block_upload_acknowledge = refl

block_upload_start : text_of 0x605 (0xA3 ∷ 0x00 ∷ 0x00 ∷ 0x00 ∷ 0x00 ∷ 0x00 ∷ 0x00 ∷ 0x00 ∷ []) ≡ codes "SDO request node 5 block upload start"
unfolding text_of_frame sdo_request_text named_request of_node digits digits_text request_row_in request_text request_key expedited_text initiate_text segment_text abort_text acknowledge_text block_end_text name_text name_of
block_upload_start = refl

block_download : text_of 0x605 (0xC2 ∷ 0x01 ∷ 0x20 ∷ 0x00 ∷ 0x0E ∷ 0x00 ∷ 0x00 ∷ 0x00 ∷ []) ≡ codes "SDO request node 5 block download 2001:00 size 14"
unfolding text_of_frame sdo_request_text named_request of_node digits digits_text request_row_in request_text request_key expedited_text initiate_text segment_text abort_text acknowledge_text block_end_text name_text name_of
block_download = refl

block_download_without_size : text_of 0x605 (0xC0 ∷ 0x01 ∷ 0x20 ∷ 0x00 ∷ 0x00 ∷ 0x00 ∷ 0x00 ∷ 0x00 ∷ []) ≡ codes "SDO request node 5 block download 2001:00"
unfolding text_of_frame sdo_request_text named_request of_node digits digits_text request_row_in request_text request_key expedited_text initiate_text segment_text abort_text acknowledge_text block_end_text name_text name_of
block_download_without_size = refl

block_download_end : text_of 0x605 (0xC1 ∷ 0x00 ∷ 0x00 ∷ 0x00 ∷ 0x00 ∷ 0x00 ∷ 0x00 ∷ 0x00 ∷ []) ≡ codes "SDO request node 5 block download end unused 0"
unfolding text_of_frame sdo_request_text named_request of_node digits digits_text request_row_in request_text request_key expedited_text initiate_text segment_text abort_text acknowledge_text block_end_text name_text name_of
block_download_end = refl

block_download_end_unused : text_of 0x605 (0xDD ∷ 0x00 ∷ 0x00 ∷ 0x00 ∷ 0x00 ∷ 0x00 ∷ 0x00 ∷ 0x00 ∷ []) ≡ codes "SDO request node 5 block download end unused 7"
unfolding text_of_frame sdo_request_text named_request of_node digits digits_text request_row_in request_text request_key expedited_text initiate_text segment_text abort_text acknowledge_text block_end_text name_text name_of
block_download_end_unused = refl

other_request : text_of 0x605 (0xE0 ∷ 0x00 ∷ 0x00 ∷ 0x00 ∷ 0x00 ∷ 0x00 ∷ 0x00 ∷ 0x00 ∷ []) ≡ codes "SDO request node 5 unknown"
unfolding text_of_frame sdo_request_text named_request of_node digits digits_text request_row_in request_text request_key expedited_text initiate_text segment_text abort_text acknowledge_text block_end_text name_text name_of
other_request = refl

short_request : text_of 0x605 (0x40 ∷ 0x18 ∷ 0x10 ∷ 0x01 ∷ 0x00 ∷ 0x00 ∷ 0x00 ∷ []) ≡ codes "unknown"
unfolding text_of_frame sdo_request_text named_request of_node digits digits_text request_row_in request_text request_key expedited_text initiate_text segment_text abort_text acknowledge_text block_end_text name_text name_of
short_request = refl

other_600 : text_of 0x600 (0x40 ∷ 0x18 ∷ 0x10 ∷ 0x01 ∷ 0x00 ∷ 0x00 ∷ 0x00 ∷ 0x00 ∷ []) ≡ codes "unknown"
unfolding text_of_frame
other_600 = refl

-- ---- SDO answers

download_done : text_of 0x585 (0x60 ∷ 0x17 ∷ 0x10 ∷ 0x00 ∷ 0x00 ∷ 0x00 ∷ 0x00 ∷ 0x00 ∷ []) ≡ codes "SDO answer node 5 download 1017:00 done"
unfolding text_of_frame sdo_answer_text named_answer of_node digits digits_text response_row_in answer_text answer_key expedited_text initiate_text segment_text abort_text acknowledge_text block_end_text name_text name_of
download_done = refl

download_segment_done : text_of 0x585 (0x20 ∷ 0x00 ∷ 0x00 ∷ 0x00 ∷ 0x00 ∷ 0x00 ∷ 0x00 ∷ 0x00 ∷ []) ≡ codes "SDO answer node 5 segment done 0"
unfolding text_of_frame sdo_answer_text named_answer of_node digits digits_text response_row_in answer_text answer_key expedited_text initiate_text segment_text abort_text acknowledge_text block_end_text name_text name_of
download_segment_done = refl

download_segment_done_toggled : text_of 0x585 (0x30 ∷ 0x00 ∷ 0x00 ∷ 0x00 ∷ 0x00 ∷ 0x00 ∷ 0x00 ∷ 0x00 ∷ []) ≡ codes "SDO answer node 5 segment done 1"
unfolding text_of_frame sdo_answer_text named_answer of_node digits digits_text response_row_in answer_text answer_key expedited_text initiate_text segment_text abort_text acknowledge_text block_end_text name_text name_of
download_segment_done_toggled = refl

upload_expedited : text_of 0x5FF (0x4F ∷ 0x01 ∷ 0x10 ∷ 0x00 ∷ 0x81 ∷ 0x00 ∷ 0x00 ∷ 0x00 ∷ []) ≡ codes "SDO answer node 127 upload 1001:00 expedited 81"
unfolding text_of_frame sdo_answer_text named_answer of_node digits digits_text response_row_in answer_text answer_key expedited_text initiate_text segment_text abort_text acknowledge_text block_end_text name_text name_of
upload_expedited = refl

upload_expedited_without_size : text_of 0x581 (0x42 ∷ 0x01 ∷ 0x20 ∷ 0x00 ∷ 0x01 ∷ 0x02 ∷ 0x03 ∷ 0x04 ∷ []) ≡ codes "SDO answer node 1 upload 2001:00 expedited 01020304"
unfolding text_of_frame sdo_answer_text named_answer of_node digits digits_text response_row_in answer_text answer_key expedited_text initiate_text segment_text abort_text acknowledge_text block_end_text name_text name_of
upload_expedited_without_size = refl

upload_initiated : text_of 0x585 (0x41 ∷ 0x08 ∷ 0x10 ∷ 0x00 ∷ 0x11 ∷ 0x00 ∷ 0x00 ∷ 0x00 ∷ []) ≡ codes "SDO answer node 5 upload 1008:00 size 17"
unfolding text_of_frame sdo_answer_text named_answer of_node digits digits_text response_row_in answer_text answer_key expedited_text initiate_text segment_text abort_text acknowledge_text block_end_text name_text name_of
upload_initiated = refl

upload_initiated_without_size : text_of 0x585 (0x40 ∷ 0x08 ∷ 0x10 ∷ 0x00 ∷ 0x00 ∷ 0x00 ∷ 0x00 ∷ 0x00 ∷ []) ≡ codes "SDO answer node 5 upload 1008:00"
unfolding text_of_frame sdo_answer_text named_answer of_node digits digits_text response_row_in answer_text answer_key expedited_text initiate_text segment_text abort_text acknowledge_text block_end_text name_text name_of
upload_initiated_without_size = refl

upload_segment_answer : text_of 0x585 (0x00 ∷ 0x54 ∷ 0x65 ∷ 0x6D ∷ 0x70 ∷ 0x65 ∷ 0x72 ∷ 0x61 ∷ []) ≡ codes "SDO answer node 5 segment 0 54656D70657261"
unfolding text_of_frame sdo_answer_text named_answer of_node digits digits_text response_row_in answer_text answer_key expedited_text initiate_text segment_text abort_text acknowledge_text block_end_text name_text name_of
upload_segment_answer = refl

last_upload_segment : text_of 0x585 (0x1D ∷ 0x61 ∷ 0x00 ∷ 0x00 ∷ 0x00 ∷ 0x00 ∷ 0x00 ∷ 0x00 ∷ []) ≡ codes "SDO answer node 5 segment 1 61 last"
unfolding text_of_frame sdo_answer_text named_answer of_node digits digits_text response_row_in answer_text answer_key expedited_text initiate_text segment_text abort_text acknowledge_text block_end_text name_text name_of
last_upload_segment = refl

abort_answer : text_of 0x585 (0x80 ∷ 0x01 ∷ 0x20 ∷ 0x00 ∷ 0x00 ∷ 0x00 ∷ 0x03 ∷ 0x05 ∷ []) ≡ codes "SDO answer node 5 abort 2001:00 05030000"
unfolding text_of_frame sdo_answer_text named_answer of_node digits digits_text response_row_in answer_text answer_key expedited_text initiate_text segment_text abort_text acknowledge_text block_end_text name_text name_of
abort_answer = refl

block_download_initiated : text_of 0x585 (0xA4 ∷ 0x01 ∷ 0x20 ∷ 0x00 ∷ 0x7F ∷ 0x00 ∷ 0x00 ∷ 0x00 ∷ []) ≡ codes "SDO answer node 5 block download 2001:00 size 127"
unfolding text_of_frame sdo_answer_text named_answer of_node digits digits_text response_row_in answer_text answer_key expedited_text initiate_text segment_text abort_text acknowledge_text block_end_text name_text name_of
block_download_initiated = refl

block_download_done : text_of 0x585 (0xA1 ∷ 0x00 ∷ 0x00 ∷ 0x00 ∷ 0x00 ∷ 0x00 ∷ 0x00 ∷ 0x00 ∷ []) ≡ codes "SDO answer node 5 block download done"
unfolding text_of_frame sdo_answer_text named_answer of_node digits digits_text response_row_in answer_text answer_key expedited_text initiate_text segment_text abort_text acknowledge_text block_end_text name_text name_of
block_download_done = refl

block_download_acknowledge : text_of 0x585 (0xA2 ∷ 0x7F ∷ 0x10 ∷ 0x00 ∷ 0x00 ∷ 0x00 ∷ 0x00 ∷ 0x00 ∷ []) ≡ codes "SDO answer node 5 block ack 127 size 16"
unfolding text_of_frame sdo_answer_text named_answer of_node digits digits_text response_row_in answer_text answer_key expedited_text initiate_text segment_text abort_text acknowledge_text block_end_text name_text name_of
block_download_acknowledge = refl

other_block_download_answer : text_of 0x585 (0xA3 ∷ 0x00 ∷ 0x00 ∷ 0x00 ∷ 0x00 ∷ 0x00 ∷ 0x00 ∷ 0x00 ∷ []) ≡ codes "SDO answer node 5 unknown"
unfolding text_of_frame sdo_answer_text named_answer of_node digits digits_text response_row_in answer_text answer_key expedited_text initiate_text segment_text abort_text acknowledge_text block_end_text name_text name_of
other_block_download_answer = refl

block_upload_initiated : text_of 0x585 (0xC2 ∷ 0x00 ∷ 0x21 ∷ 0x00 ∷ 0x79 ∷ 0x03 ∷ 0x00 ∷ 0x00 ∷ []) ≡ codes "SDO answer node 5 block upload 2100:00 size 889"
unfolding text_of_frame sdo_answer_text named_answer of_node digits digits_text response_row_in answer_text answer_key expedited_text initiate_text segment_text abort_text acknowledge_text block_end_text name_text name_of
block_upload_initiated = refl

block_upload_initiated_without_size : text_of 0x585 (0xC0 ∷ 0x00 ∷ 0x21 ∷ 0x00 ∷ 0x00 ∷ 0x00 ∷ 0x00 ∷ 0x00 ∷ []) ≡ codes "SDO answer node 5 block upload 2100:00"
unfolding text_of_frame sdo_answer_text named_answer of_node digits digits_text response_row_in answer_text answer_key expedited_text initiate_text segment_text abort_text acknowledge_text block_end_text name_text name_of
block_upload_initiated_without_size = refl

block_upload_end_answer : text_of 0x585 (0xC9 ∷ 0x00 ∷ 0x00 ∷ 0x00 ∷ 0x00 ∷ 0x00 ∷ 0x00 ∷ 0x00 ∷ []) ≡ codes "SDO answer node 5 block upload end unused 2"
unfolding text_of_frame sdo_answer_text named_answer of_node digits digits_text response_row_in answer_text answer_key expedited_text initiate_text segment_text abort_text acknowledge_text block_end_text name_text name_of
block_upload_end_answer = refl

other_answer : text_of 0x585 (0xE0 ∷ 0x00 ∷ 0x00 ∷ 0x00 ∷ 0x00 ∷ 0x00 ∷ 0x00 ∷ 0x00 ∷ []) ≡ codes "SDO answer node 5 unknown"
unfolding text_of_frame sdo_answer_text named_answer of_node digits digits_text response_row_in answer_text answer_key expedited_text initiate_text segment_text abort_text acknowledge_text block_end_text name_text name_of
other_answer = refl

short_answer : text_of 0x585 (0x60 ∷ 0x17 ∷ 0x10 ∷ 0x00 ∷ 0x00 ∷ 0x00 ∷ 0x00 ∷ []) ≡ codes "unknown"
unfolding text_of_frame sdo_answer_text named_answer of_node digits digits_text response_row_in answer_text answer_key expedited_text initiate_text segment_text abort_text acknowledge_text block_end_text name_text name_of
short_answer = refl

-- ---- names

-- an entry with a name, one without, and one whose name isn't UTF-8
abbrev named_row : ℕ → ℕ → Row → Row
named_row index sub row = record row { key = record { index = index; sub = sub } }

abbrev unnamed : Row
unnamed = record {
  key = record { index = 0x1017; sub = 0 };
  data_type = Unsigned16;
  access = Rw;
  low = None;
  high = None;
  default = absent;
  mappable = false;
  name = None;
  line = 1;
}

abbrev sheet : SheetContent
sheet = record {
  objects = [];
  rows =
      record unnamed { name = Some (codes "Producer heartbeat time") }
      ∷ named_row 0x1018 0 unnamed
      ∷ named_row 0x1018 1 (record unnamed { name = Some (0xE9 ∷ []) })
      ∷ named_row 0x1018 2 (record unnamed { name = Some (0xC3 ∷ 0xA9 ∷ []) })
      ∷ [];
  sections = [];
  notes = [];
  dummies = [];
  node_id = None;
}

abbrev names_for : List ℕ → Names
names_for [] = record { sheet = Some sheet; only = None; originals = λ line. None }
names_for (node ∷ nodes) = record { sheet = Some sheet; only = Some node; originals = λ line. None }

abbrev upload_of : ℕ → ℕ → FrameContent
upload_of index sub = record { id = 0x605; bytes = 0x40 ∷ index % 256 ∷ index / 256 ∷ sub ∷ 0 ∷ 0 ∷ 0 ∷ 0 ∷ [] }

with_name : text_of_frame (names_for []) (upload_of 0x1017 0) ≡ codes "SDO request node 5 upload 1017:00 " ++ 34 ∷ (codes "Producer heartbeat time" ++ 34 ∷ [])
unfolding text_of_frame sdo_request_text named_request of_node digits digits_text request_row_in request_text request_key name_text name_of is_utf8 chars encode
with_name = refl

name_of_this_node : text_of_frame (names_for (5 ∷ [])) (upload_of 0x1017 0) ≡ codes "SDO request node 5 upload 1017:00 " ++ 34 ∷ (codes "Producer heartbeat time" ++ 34 ∷ [])
unfolding text_of_frame sdo_request_text named_request of_node digits digits_text request_row_in request_text request_key name_text name_of is_utf8 chars encode
name_of_this_node = refl

name_of_another_node : text_of_frame (names_for (6 ∷ [])) (upload_of 0x1017 0) ≡ codes "SDO request node 5 upload 1017:00"
unfolding text_of_frame sdo_request_text named_request of_node digits digits_text request_row_in request_text request_key name_text name_of is_utf8 chars encode
name_of_another_node = refl

without_entry : text_of_frame (names_for []) (upload_of 0x1017 1) ≡ codes "SDO request node 5 upload 1017:01"
unfolding text_of_frame sdo_request_text named_request of_node digits digits_text request_row_in request_text request_key name_text name_of is_utf8 chars encode
without_entry = refl

without_name : text_of_frame (names_for []) (upload_of 0x1018 0) ≡ codes "SDO request node 5 upload 1018:00"
unfolding text_of_frame sdo_request_text named_request of_node digits digits_text request_row_in request_text request_key name_text name_of is_utf8 chars encode
without_name = refl

name_not_utf8 : text_of_frame (names_for []) (upload_of 0x1018 1) ≡ codes "SDO request node 5 upload 1018:01"
unfolding text_of_frame sdo_request_text named_request of_node digits digits_text request_row_in request_text request_key name_text name_of is_utf8 chars encode
name_not_utf8 = refl

name_of_two_bytes : text_of_frame (names_for []) (upload_of 0x1018 2) ≡ codes "SDO request node 5 upload 1018:02 " ++ 34 ∷ 0xC3 ∷ 0xA9 ∷ 34 ∷ []
unfolding text_of_frame sdo_request_text named_request of_node digits digits_text request_row_in request_text request_key name_text name_of is_utf8 chars encode
name_of_two_bytes = refl

-- ---- lines

a_line : decoded_line no_names 1 (record { id = 0x605; bytes = 0x2B ∷ 0x17 ∷ 0x10 ∷ 0x00 ∷ 0xE8 ∷ 0x03 ∷ 0x00 ∷ 0x00 ∷ [] }) ≡ codes "1 605#2B171000E8030000 SDO request node 5 download 1017:00 expedited E803" ++ 10 ∷ []
unfolding decoded_line frame_text text_of_frame sdo_request_text named_request of_node digits digits_text request_row_in request_text request_key expedited_text name_text name_of
a_line = refl

line_of_no_bytes : decoded_line no_names 1000000 (record { id = 0x080; bytes = [] }) ≡ codes "1000000 080# SYNC" ++ 10 ∷ []
unfolding decoded_line frame_text text_of_frame sync_text digits digits_text
line_of_no_bytes = refl
