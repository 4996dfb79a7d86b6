-- Worked uploads, computed from the definitions.
use Rattle.std.proofs.Common.{◌≡◌, [], ◌∷◌, refl, codes, replicate}
use Rattle.co_frame.specs.SdoResponses.{response_row_in}
use Rattle.co_frame_aborts.specs.AbortCodes.{toggle_not_alternated, timed_out, unknown_command, out_of_memory, object_missing, too_long, too_short}
use Rattle.co_sdo_client.specs.declared.mode.Mode.TheVariants.{Plain, Segmented, Block}
use Rattle.co_sdo_client.specs.Calls.{Ticked, Request}
use Rattle.co_frame.specs.declared.sdo_request.SdoRequest.TheVariants.{BlockUploadAcknowledge}
use Rattle.co_sdo_client.specs.Verdicts.{GoesOn, GivesUp, sub_block_verdict}
use Rattle.co_sdo_client.proofs.Reports.{upload, a, report, waiting, done, failed}

-- ---- segmented uploads

-- ten bytes into room for ten
upload_initiated : report (upload Plain 10) (a (codes "410120000A000000") ∷ [])
    ≡ waiting (codes "4001200000000000" ∷ codes "6000000000000000" ∷ [])
unfolding response_row_in
upload_initiated = refl

upload_next : report (upload Plain 10) (a (codes "410120000A000000") ∷ a (codes "0030313233343536") ∷ [])
    ≡ waiting (codes "4001200000000000" ∷ codes "6000000000000000" ∷ codes "7000000000000000" ∷ [])
unfolding response_row_in
upload_next = refl

upload_ten : report (upload Plain 10) (a (codes "410120000A000000") ∷ a (codes "0030313233343536") ∷ a (codes "1937383900000000") ∷ [])
    ≡ done (codes "4001200000000000" ∷ codes "6000000000000000" ∷ codes "7000000000000000" ∷ []) (codes "0123456789")
unfolding response_row_in
upload_ten = refl

-- nothing changes after success
after_uploaded : report (upload Plain 10) (a (codes "410120000A000000") ∷ a (codes "0030313233343536") ∷ a (codes "1937383900000000") ∷ a (codes "0030313233343536") ∷ a (codes "8000000000000000") ∷ Ticked ∷ Ticked ∷ Ticked ∷ [])
    ≡ done (codes "4001200000000000" ∷ codes "6000000000000000" ∷ codes "7000000000000000" ∷ []) (codes "0123456789")
unfolding response_row_in
after_uploaded = refl

upload_ten_segmented : report (upload Segmented 10) (a (codes "410120000A000000") ∷ a (codes "0030313233343536") ∷ a (codes "1937383900000000") ∷ [])
    ≡ done (codes "4001200000000000" ∷ codes "6000000000000000" ∷ codes "7000000000000000" ∷ []) (codes "0123456789")
unfolding response_row_in
upload_ten_segmented = refl

-- without a size
upload_unindicated : report (upload Plain 10) (a (codes "4001200000000000") ∷ a (codes "0030313233343536") ∷ a (codes "1937383900000000") ∷ [])
    ≡ done (codes "4001200000000000" ∷ codes "6000000000000000" ∷ codes "7000000000000000" ∷ []) (codes "0123456789")
unfolding response_row_in
upload_unindicated = refl

-- an indicated size above the room
upload_above_cap : report (upload Plain 5) (a (codes "410120000A000000") ∷ [])
    ≡ failed out_of_memory (codes "4001200000000000" ∷ codes "8001200005000405" ∷ [])
unfolding response_row_in
upload_above_cap = refl

upload_just_above_cap : report (upload Plain 9) (a (codes "410120000A000000") ∷ [])
    ≡ failed out_of_memory (codes "4001200000000000" ∷ codes "8001200005000405" ∷ [])
unfolding response_row_in
upload_just_above_cap = refl

-- bytes above the room: at the first segment, and at the last
held_above_cap : report (upload Plain 6) (a (codes "4001200000000000") ∷ a (codes "0030313233343536") ∷ [])
    ≡ failed out_of_memory (codes "4001200000000000" ∷ codes "6000000000000000" ∷ codes "8001200005000405" ∷ [])
unfolding response_row_in
held_above_cap = refl

held_at_cap : report (upload Plain 7) (a (codes "4001200000000000") ∷ a (codes "0030313233343536") ∷ [])
    ≡ waiting (codes "4001200000000000" ∷ codes "6000000000000000" ∷ codes "7000000000000000" ∷ [])
unfolding response_row_in
held_at_cap = refl

total_above_cap : report (upload Plain 9) (a (codes "4001200000000000") ∷ a (codes "0030313233343536") ∷ a (codes "1937383900000000") ∷ [])
    ≡ failed out_of_memory (codes "4001200000000000" ∷ codes "6000000000000000" ∷ codes "7000000000000000" ∷ codes "8001200005000405" ∷ [])
unfolding response_row_in
total_above_cap = refl

-- an indicated size that is less than the total, and one that is greater
indicated_nine : report (upload Plain 10) (a (codes "4101200009000000") ∷ a (codes "0030313233343536") ∷ a (codes "1937383900000000") ∷ [])
    ≡ failed too_long (codes "4001200000000000" ∷ codes "6000000000000000" ∷ codes "7000000000000000" ∷ codes "8001200012000706" ∷ [])
unfolding response_row_in
indicated_nine = refl

indicated_eleven : report (upload Plain 11) (a (codes "410120000B000000") ∷ a (codes "0030313233343536") ∷ a (codes "1937383900000000") ∷ [])
    ≡ failed too_short (codes "4001200000000000" ∷ codes "6000000000000000" ∷ codes "7000000000000000" ∷ codes "8001200013000706" ∷ [])
unfolding response_row_in
indicated_eleven = refl

-- a last segment without bytes
empty_last_too_short : report (upload Plain 10) (a (codes "410120000A000000") ∷ a (codes "0030313233343536") ∷ a (codes "1F00000000000000") ∷ [])
    ≡ failed too_short (codes "4001200000000000" ∷ codes "6000000000000000" ∷ codes "7000000000000000" ∷ codes "8001200013000706" ∷ [])
unfolding response_row_in
empty_last_too_short = refl

-- the room goes before the indicated size
cap_before_indicated : report (upload Plain 9) (a (codes "4101200009000000") ∷ a (codes "0030313233343536") ∷ a (codes "1937383900000000") ∷ [])
    ≡ failed out_of_memory (codes "4001200000000000" ∷ codes "6000000000000000" ∷ codes "7000000000000000" ∷ codes "8001200005000405" ∷ [])
unfolding response_row_in
cap_before_indicated = refl

-- the toggle goes before the room
upload_toggle : report (upload Plain 6) (a (codes "4001200000000000") ∷ a (codes "1030313233343536") ∷ [])
    ≡ failed toggle_not_alternated (codes "4001200000000000" ∷ codes "6000000000000000" ∷ codes "8001200000000305" ∷ [])
unfolding response_row_in
upload_toggle = refl

upload_second_toggle : report (upload Plain 14) (a (codes "4001200000000000") ∷ a (codes "0030313233343536") ∷ a (codes "0030313233343536") ∷ [])
    ≡ failed toggle_not_alternated (codes "4001200000000000" ∷ codes "6000000000000000" ∷ codes "7000000000000000" ∷ codes "8001200000000305" ∷ [])
unfolding response_row_in
upload_second_toggle = refl

-- the toggle goes back to 0, over a segment without bytes too
upload_third : report (upload Plain 14) (a (codes "4001200000000000") ∷ a (codes "0030313233343536") ∷ a (codes "1E00000000000000") ∷ a (codes "0F00000000000000") ∷ [])
    ≡ done (codes "4001200000000000" ∷ codes "6000000000000000" ∷ codes "7000000000000000" ∷ codes "6000000000000000" ∷ []) (codes "0123456")
unfolding response_row_in
upload_third = refl

-- an empty value
upload_empty : report (upload Plain 0) (a (codes "4101200000000000") ∷ a (codes "0F00000000000000") ∷ [])
    ≡ done (codes "4001200000000000" ∷ codes "6000000000000000" ∷ []) ([])
unfolding response_row_in
upload_empty = refl

-- all at once: three bytes, and four where no size is indicated
upload_expedited : report (upload Plain 3) (a (codes "4701200031323300") ∷ [])
    ≡ done (codes "4001200000000000" ∷ []) (codes "123")
unfolding response_row_in
upload_expedited = refl

upload_expedited_four : report (upload Segmented 4) (a (codes "4201200031323334") ∷ [])
    ≡ done (codes "4001200000000000" ∷ []) (codes "1234")
unfolding response_row_in
upload_expedited_four = refl

upload_expedited_above : report (upload Plain 2) (a (codes "4701200031323300") ∷ [])
    ≡ failed out_of_memory (codes "4001200000000000" ∷ codes "8001200005000405" ∷ [])
unfolding response_row_in
upload_expedited_above = refl

upload_four_above : report (upload Plain 3) (a (codes "4201200031323334") ∷ [])
    ≡ failed out_of_memory (codes "4001200000000000" ∷ codes "8001200005000405" ∷ [])
unfolding response_row_in
upload_four_above = refl

upload_expedited_other_key : report (upload Plain 3) (a (codes "4702200031323300") ∷ [])
    ≡ failed unknown_command (codes "4001200000000000" ∷ codes "8001200001000405" ∷ [])
unfolding response_row_in
upload_expedited_other_key = refl

-- another key, before the room
upload_other_key : report (upload Plain 5) (a (codes "410220000A000000") ∷ [])
    ≡ failed unknown_command (codes "4001200000000000" ∷ codes "8001200001000405" ∷ [])
unfolding response_row_in
upload_other_key = refl

-- not the awaited answer
upload_not_awaited : report (upload Plain 10) (a (codes "6001200000000000") ∷ [])
    ≡ failed unknown_command (codes "4001200000000000" ∷ codes "8001200001000405" ∷ [])
unfolding response_row_in
upload_not_awaited = refl

upload_in_blocks : report (upload Plain 10) (a (codes "C20120000A000000") ∷ [])
    ≡ failed unknown_command (codes "4001200000000000" ∷ codes "8001200001000405" ∷ [])
unfolding response_row_in
upload_in_blocks = refl

upload_segment_not_awaited : report (upload Plain 10) (a (codes "410120000A000000") ∷ a (codes "410120000A000000") ∷ [])
    ≡ failed unknown_command (codes "4001200000000000" ∷ codes "6000000000000000" ∷ codes "8001200001000405" ∷ [])
unfolding response_row_in
upload_segment_not_awaited = refl

upload_aborted : report (upload Plain 10) (a (codes "410120000A000000") ∷ a (codes "0030313233343536") ∷ a (codes "8001200000000206") ∷ [])
    ≡ failed object_missing (codes "4001200000000000" ∷ codes "6000000000000000" ∷ codes "7000000000000000" ∷ [])
unfolding response_row_in
upload_aborted = refl

upload_timed_out : report (upload Plain 10) (a (codes "410120000A000000") ∷ Ticked ∷ Ticked ∷ Ticked ∷ [])
    ≡ failed timed_out (codes "4001200000000000" ∷ codes "6000000000000000" ∷ codes "8001200000000405" ∷ [])
unfolding response_row_in
upload_timed_out = refl

-- ---- block uploads

-- ten bytes into room for ten
block_upload_started : report (upload Block 10) (a (codes "C20120000A000000") ∷ [])
    ≡ waiting (codes "A00120007F000000" ∷ codes "A300000000000000" ∷ [])
unfolding response_row_in
block_upload_started = refl

block_upload_segments : report (upload Block 10) (a (codes "C20120000A000000") ∷ a (codes "0130313233343536") ∷ [])
    ≡ waiting (codes "A00120007F000000" ∷ codes "A300000000000000" ∷ [])
unfolding response_row_in
block_upload_segments = refl

block_upload_taken : report (upload Block 10) (a (codes "C20120000A000000") ∷ a (codes "0130313233343536") ∷ a (codes "8237383900000000") ∷ [])
    ≡ waiting (codes "A00120007F000000" ∷ codes "A300000000000000" ∷ codes "A2027F0000000000" ∷ [])
unfolding response_row_in
block_upload_taken = refl

block_upload_ten : report (upload Block 10) (a (codes "C20120000A000000") ∷ a (codes "0130313233343536") ∷ a (codes "8237383900000000") ∷ a (codes "D100000000000000") ∷ [])
    ≡ done (codes "A00120007F000000" ∷ codes "A300000000000000" ∷ codes "A2027F0000000000" ∷ codes "A100000000000000" ∷ []) (codes "0123456789")
unfolding response_row_in
block_upload_ten = refl

block_upload_unindicated : report (upload Block 10) (a (codes "C001200000000000") ∷ a (codes "0130313233343536") ∷ a (codes "8237383900000000") ∷ a (codes "D100000000000000") ∷ [])
    ≡ done (codes "A00120007F000000" ∷ codes "A300000000000000" ∷ codes "A2027F0000000000" ∷ codes "A100000000000000" ∷ []) (codes "0123456789")
unfolding response_row_in
block_upload_unindicated = refl

-- 81h is a last segment inside a sub-block
block_upload_of_one : report (upload Block 7) (a (codes "C201200007000000") ∷ a (codes "8130313233343536") ∷ a (codes "C100000000000000") ∷ [])
    ≡ done (codes "A00120007F000000" ∷ codes "A300000000000000" ∷ codes "A2017F0000000000" ∷ codes "A100000000000000" ∷ []) (codes "0123456")
unfolding response_row_in
block_upload_of_one = refl

-- an indicated size above the room
block_upload_above : report (upload Block 9) (a (codes "C20120000A000000") ∷ [])
    ≡ failed out_of_memory (codes "A00120007F000000" ∷ codes "8001200005000405" ∷ [])
unfolding response_row_in
block_upload_above = refl

-- a total above the room is found at the end
block_upload_total_above : report (upload Block 9) (a (codes "C001200000000000") ∷ a (codes "0130313233343536") ∷ a (codes "8237383900000000") ∷ [])
    ≡ waiting (codes "A00120007F000000" ∷ codes "A300000000000000" ∷ codes "A2027F0000000000" ∷ [])
unfolding response_row_in
block_upload_total_above = refl

block_upload_end_above : report (upload Block 9) (a (codes "C001200000000000") ∷ a (codes "0130313233343536") ∷ a (codes "8237383900000000") ∷ a (codes "D100000000000000") ∷ [])
    ≡ failed out_of_memory (codes "A00120007F000000" ∷ codes "A300000000000000" ∷ codes "A2027F0000000000" ∷ codes "8001200005000405" ∷ [])
unfolding response_row_in
block_upload_end_above = refl

-- the indicated size goes before the room
block_indicated_nine : report (upload Block 9) (a (codes "C201200009000000") ∷ a (codes "0130313233343536") ∷ a (codes "8237383900000000") ∷ a (codes "D100000000000000") ∷ [])
    ≡ failed too_long (codes "A00120007F000000" ∷ codes "A300000000000000" ∷ codes "A2027F0000000000" ∷ codes "8001200012000706" ∷ [])
unfolding response_row_in
block_indicated_nine = refl

block_indicated_eleven : report (upload Block 11) (a (codes "C20120000B000000") ∷ a (codes "0130313233343536") ∷ a (codes "8237383900000000") ∷ a (codes "D100000000000000") ∷ [])
    ≡ failed too_short (codes "A00120007F000000" ∷ codes "A300000000000000" ∷ codes "A2027F0000000000" ∷ codes "8001200013000706" ∷ [])
unfolding response_row_in
block_indicated_eleven = refl

-- bytes above the room at the end of a sub-block that isn't the last
sub_block_above : report (upload Block 6) (a (codes "C001200000000000") ∷ a (codes "0130313233343536") ∷ a (codes "7F00000000000000") ∷ [])
    ≡ failed out_of_memory (codes "A00120007F000000" ∷ codes "A300000000000000" ∷ codes "8001200005000405" ∷ [])
unfolding response_row_in
sub_block_above = refl

sub_block_at_cap : report (upload Block 7) (a (codes "C001200000000000") ∷ a (codes "0130313233343536") ∷ a (codes "7F00000000000000") ∷ [])
    ≡ waiting (codes "A00120007F000000" ∷ codes "A300000000000000" ∷ codes "A2017F0000000000" ∷ [])
unfolding response_row_in
sub_block_at_cap = refl

-- segments out of sequence are not taken
out_of_sequence : report (upload Block 10) (a (codes "C20120000A000000") ∷ a (codes "8237383900000000") ∷ [])
    ≡ waiting (codes "A00120007F000000" ∷ codes "A300000000000000" ∷ codes "A2007F0000000000" ∷ [])
unfolding response_row_in
out_of_sequence = refl

in_sequence_again : report (upload Block 10) (a (codes "C20120000A000000") ∷ a (codes "8237383900000000") ∷ a (codes "0130313233343536") ∷ a (codes "8237383900000000") ∷ a (codes "D100000000000000") ∷ [])
    ≡ done (codes "A00120007F000000" ∷ codes "A300000000000000" ∷ codes "A2007F0000000000" ∷ codes "A2027F0000000000" ∷ codes "A100000000000000" ∷ []) (codes "0123456789")
unfolding response_row_in
in_sequence_again = refl

-- a sub-block of which the second segment is lost, and then the rest
segment_lost : report (upload Block 10) (a (codes "C20120000A000000") ∷ a (codes "0130313233343536") ∷ a (codes "0300000000000000") ∷ a (codes "7F00000000000000") ∷ a (codes "8137383900000000") ∷ a (codes "D100000000000000") ∷ [])
    ≡ done (codes "A00120007F000000" ∷ codes "A300000000000000" ∷ codes "A2017F0000000000" ∷ codes "A2017F0000000000" ∷ codes "A100000000000000" ∷ []) (codes "0123456789")
unfolding response_row_in
segment_lost = refl

-- 80h is an abort inside a sub-block; 00h is nothing, but sets the time anew
aborted_inside : report (upload Block 10) (a (codes "C20120000A000000") ∷ a (codes "0130313233343536") ∷ a (codes "8002200000000206") ∷ [])
    ≡ failed object_missing (codes "A00120007F000000" ∷ codes "A300000000000000" ∷ [])
unfolding response_row_in
aborted_inside = refl

nothing_inside : report (upload Block 10) (a (codes "C20120000A000000") ∷ a (codes "0130313233343536") ∷ Ticked ∷ Ticked ∷ a (codes "0000000000000000") ∷ Ticked ∷ Ticked ∷ [])
    ≡ waiting (codes "A00120007F000000" ∷ codes "A300000000000000" ∷ [])
unfolding response_row_in
nothing_inside = refl

block_upload_quiet : report (upload Block 10) (a (codes "C20120000A000000") ∷ a (codes "0130313233343536") ∷ Ticked ∷ Ticked ∷ Ticked ∷ [])
    ≡ failed timed_out (codes "A00120007F000000" ∷ codes "A300000000000000" ∷ codes "8001200000000405" ∷ [])
unfolding response_row_in
block_upload_quiet = refl

-- not the awaited answer
block_upload_not_ended : report (upload Block 10) (a (codes "C20120000A000000") ∷ a (codes "0130313233343536") ∷ a (codes "8237383900000000") ∷ a (codes "0130313233343536") ∷ [])
    ≡ failed unknown_command (codes "A00120007F000000" ∷ codes "A300000000000000" ∷ codes "A2027F0000000000" ∷ codes "8001200001000405" ∷ [])
unfolding response_row_in
block_upload_not_ended = refl

-- outside a sub-block 82h is an abort, here of a code that is none
last_segment_again : report (upload Block 10) (a (codes "C20120000A000000") ∷ a (codes "0130313233343536") ∷ a (codes "8237383900000000") ∷ a (codes "8237383900000000") ∷ [])
    ≡ failed 0 (codes "A00120007F000000" ∷ codes "A300000000000000" ∷ codes "A2027F0000000000" ∷ [])
unfolding response_row_in
last_segment_again = refl

block_upload_not_confirmed : report (upload Block 10) (a (codes "410120000A000000") ∷ [])
    ≡ failed unknown_command (codes "A00120007F000000" ∷ codes "8001200001000405" ∷ [])
unfolding response_row_in
block_upload_not_confirmed = refl

block_upload_expedited : report (upload Block 10) (a (codes "4F01200031000000") ∷ [])
    ≡ failed unknown_command (codes "A00120007F000000" ∷ codes "8001200001000405" ∷ [])
unfolding response_row_in
block_upload_expedited = refl

block_upload_end_at_once : report (upload Block 10) (a (codes "D100000000000000") ∷ [])
    ≡ failed unknown_command (codes "A00120007F000000" ∷ codes "8001200001000405" ∷ [])
unfolding response_row_in
block_upload_end_at_once = refl

-- another key, before the room
block_upload_other_key : report (upload Block 5) (a (codes "C20220000A000000") ∷ [])
    ≡ failed unknown_command (codes "A00120007F000000" ∷ codes "8001200001000405" ∷ [])
unfolding response_row_in
block_upload_other_key = refl

block_upload_aborted : report (upload Block 10) (a (codes "C20120000A000000") ∷ a (codes "0130313233343536") ∷ a (codes "8237383900000000") ∷ a (codes "8002200000000206") ∷ [])
    ≡ failed object_missing (codes "A00120007F000000" ∷ codes "A300000000000000" ∷ codes "A2027F0000000000" ∷ [])
unfolding response_row_in
block_upload_aborted = refl

-- an empty value: a segment of zeros, all unused
block_upload_empty : report (upload Block 0) (a (codes "C201200000000000") ∷ a (codes "8100000000000000") ∷ a (codes "DD00000000000000") ∷ [])
    ≡ done (codes "A00120007F000000" ∷ codes "A300000000000000" ∷ codes "A2017F0000000000" ∷ codes "A100000000000000" ∷ []) ([])
unfolding response_row_in
block_upload_empty = refl

-- ---- a whole sub-block

-- segment 127 with c is taken and ends its sub-block, whatever the room; without c the room is looked at
whole_taken : sub_block_verdict (upload Block 0) 126 (replicate 882 0x30) (0xFF ∷ replicate 7 0x30) ≡ GoesOn (Request (BlockUploadAcknowledge 127 127) ∷ [])
whole_taken = refl

whole_room : sub_block_verdict (upload Block 889) 126 (replicate 882 0x30) (0x7F ∷ replicate 7 0x30) ≡ GoesOn (Request (BlockUploadAcknowledge 127 127) ∷ [])
whole_room = refl

whole_no_room : sub_block_verdict (upload Block 888) 126 (replicate 882 0x30) (0x7F ∷ replicate 7 0x30) ≡ GivesUp out_of_memory
whole_no_room = refl
