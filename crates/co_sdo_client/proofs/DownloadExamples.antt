-- Worked downloads, computed from the definitions.
use Rattle.std.proofs.Common.{◌≡◌, ℕ, ◌+◌, ◌-◌, ◌^◌, List, [], ◌∷◌, refl, codes, true, false, map, drop, replicate}
use Rattle.co_frame.specs.SdoResponses.{response_row_in}
use Rattle.co_frame_aborts.specs.AbortCodes.{toggle_not_alternated, timed_out, unknown_command, invalid_block_size, invalid_sequence_number, object_missing}
use Rattle.co_sdo_client.specs.declared.mode.Mode.TheVariants.{Plain, Segmented, Block}
use Rattle.co_sdo_client.specs.Calls.{Call, Answered, Ticked, message_bytes}
use Rattle.co_sdo_client.specs.Segments.{requests_needed}
use Rattle.co_sdo_client.specs.Outcomes.{asked}
use Rattle.co_sdo_client.specs.Standing.{counted}
use Rattle.co_sdo_client.proofs.Reports.{download, hex, a, report, waiting, done, failed}

-- ---- segmented downloads

-- nothing answered yet
begun : report (download Segmented (codes "0123456789abcd") true) ([])
    ≡ waiting (codes "210120000E000000" ∷ [])
unfolding response_row_in
begun = refl

-- the begin is confirmed
first_segment : report (download Segmented (codes "0123456789abcd") true) (a (codes "6001200000000000") ∷ [])
    ≡ waiting (codes "210120000E000000" ∷ codes "0030313233343536" ∷ [])
unfolding response_row_in
first_segment = refl

second_segment : report (download Segmented (codes "0123456789abcd") true) (a (codes "6001200000000000") ∷ a (codes "2000000000000000") ∷ [])
    ≡ waiting (codes "210120000E000000" ∷ codes "0030313233343536" ∷ codes "1137383961626364" ∷ [])
unfolding response_row_in
second_segment = refl

-- fourteen bytes need three requests
fourteen : report (download Segmented (codes "0123456789abcd") true) (a (codes "6001200000000000") ∷ a (codes "2000000000000000") ∷ a (codes "3000000000000000") ∷ [])
    ≡ done (codes "210120000E000000" ∷ codes "0030313233343536" ∷ codes "1137383961626364" ∷ []) ([])
unfolding response_row_in
fourteen = refl

fourteen_needed : requests_needed 14 ≡ 3
fourteen_needed = refl

fifteen_needed : requests_needed 15 ≡ 4
fifteen_needed = refl

five_needed : requests_needed 5 ≡ 2
five_needed = refl

seven_needed : requests_needed 7 ≡ 2
seven_needed = refl

eight_needed : requests_needed 8 ≡ 3
eight_needed = refl

most_needed : requests_needed 65535 ≡ 9364
most_needed = refl

-- without the size
without_size : report (download Segmented (codes "0123456789abcd") false) (a (codes "6001200000000000") ∷ [])
    ≡ waiting (codes "2001200000000000" ∷ codes "0030313233343536" ∷ [])
unfolding response_row_in
without_size = refl

-- the last segment leaves a byte unused
thirteen : report (download Segmented (codes "0123456789abc") true) (a (codes "6001200000000000") ∷ a (codes "2000000000000000") ∷ [])
    ≡ waiting (codes "210120000D000000" ∷ codes "0030313233343536" ∷ codes "1337383961626300" ∷ [])
unfolding response_row_in
thirteen = refl

-- seven bytes are one segment
seven : report (download Segmented (codes "0123456") true) (a (codes "6001200000000000") ∷ a (codes "2000000000000000") ∷ [])
    ≡ done (codes "2101200007000000" ∷ codes "0130313233343536" ∷ []) ([])
unfolding response_row_in
seven = refl

-- eight are two
eight : report (download Segmented (codes "01234567") true) (a (codes "6001200000000000") ∷ a (codes "2000000000000000") ∷ a (codes "3000000000000000") ∷ [])
    ≡ done (codes "2101200008000000" ∷ codes "0030313233343536" ∷ codes "1D37000000000000" ∷ []) ([])
unfolding response_row_in
eight = refl

-- no bytes at all are one segment
no_bytes : report (download Segmented ([]) true) (a (codes "6001200000000000") ∷ a (codes "2000000000000000") ∷ [])
    ≡ done (codes "2101200000000000" ∷ codes "0F00000000000000" ∷ []) ([])
unfolding response_row_in
no_bytes = refl

-- the toggle goes back to 0
three_segments : report (download Segmented (codes "0123456789abcde") true) (a (codes "6001200000000000") ∷ a (codes "2000000000000000") ∷ a (codes "3000000000000000") ∷ [])
    ≡ waiting (codes "210120000F000000" ∷ codes "0030313233343536" ∷ codes "1037383961626364" ∷ codes "0D65000000000000" ∷ [])
unfolding response_row_in
three_segments = refl

-- another index, and another sub-index
confirmed_other_key : report (download Segmented (codes "0123456789abcd") true) (a (codes "6002200000000000") ∷ [])
    ≡ failed unknown_command (codes "210120000E000000" ∷ codes "8001200001000405" ∷ [])
unfolding response_row_in
confirmed_other_key = refl

confirmed_other_sub : report (download Segmented (codes "0123456789abcd") true) (a (codes "6001200100000000") ∷ [])
    ≡ failed unknown_command (codes "210120000E000000" ∷ codes "8001200001000405" ∷ [])
unfolding response_row_in
confirmed_other_sub = refl

-- not the awaited answer: a block download begun, a segment too early, an upload, no answer at all
confirmed_in_blocks : report (download Segmented (codes "0123456789abcd") true) (a (codes "A00120007F000000") ∷ [])
    ≡ failed unknown_command (codes "210120000E000000" ∷ codes "8001200001000405" ∷ [])
unfolding response_row_in
confirmed_in_blocks = refl

segment_too_early : report (download Segmented (codes "0123456789abcd") true) (a (codes "2000000000000000") ∷ [])
    ≡ failed unknown_command (codes "210120000E000000" ∷ codes "8001200001000405" ∷ [])
unfolding response_row_in
segment_too_early = refl

confirmed_upload : report (download Segmented (codes "0123456789abcd") true) (a (codes "410120000E000000") ∷ [])
    ≡ failed unknown_command (codes "210120000E000000" ∷ codes "8001200001000405" ∷ [])
unfolding response_row_in
confirmed_upload = refl

confirmed_expedited : report (download Segmented (codes "0123456789abcd") true) (a (codes "4F01200031000000") ∷ [])
    ≡ failed unknown_command (codes "210120000E000000" ∷ codes "8001200001000405" ∷ [])
unfolding response_row_in
confirmed_expedited = refl

no_answer : report (download Segmented (codes "0123456789abcd") true) (a (codes "E000000000000000") ∷ [])
    ≡ failed unknown_command (codes "210120000E000000" ∷ codes "8001200001000405" ∷ [])
unfolding response_row_in
no_answer = refl

confirmed_twice : report (download Segmented (codes "0123456789abcd") true) (a (codes "6001200000000000") ∷ a (codes "6001200000000000") ∷ [])
    ≡ failed unknown_command (codes "210120000E000000" ∷ codes "0030313233343536" ∷ codes "8001200001000405" ∷ [])
unfolding response_row_in
confirmed_twice = refl

-- the toggle not alternated, at the first segment and at the second
first_toggle : report (download Segmented (codes "0123456789abcd") true) (a (codes "6001200000000000") ∷ a (codes "3000000000000000") ∷ [])
    ≡ failed toggle_not_alternated (codes "210120000E000000" ∷ codes "0030313233343536" ∷ codes "8001200000000305" ∷ [])
unfolding response_row_in
first_toggle = refl

second_toggle : report (download Segmented (codes "0123456789abcd") true) (a (codes "6001200000000000") ∷ a (codes "2000000000000000") ∷ a (codes "2000000000000000") ∷ [])
    ≡ failed toggle_not_alternated (codes "210120000E000000" ∷ codes "0030313233343536" ∷ codes "1137383961626364" ∷ codes "8001200000000305" ∷ [])
unfolding response_row_in
second_toggle = refl

-- an abort counts whatever its key, and is not answered
aborted : report (download Segmented (codes "0123456789abcd") true) (a (codes "6001200000000000") ∷ a (codes "8002200000000206") ∷ [])
    ≡ failed object_missing (codes "210120000E000000" ∷ codes "0030313233343536" ∷ [])
unfolding response_row_in
aborted = refl

-- nothing more is sent after a failure
after_failed : report (download Segmented (codes "0123456789abcd") true) (a (codes "2000000000000000") ∷ a (codes "6001200000000000") ∷ Ticked ∷ Ticked ∷ Ticked ∷ [])
    ≡ failed unknown_command (codes "210120000E000000" ∷ codes "8001200001000405" ∷ [])
unfolding response_row_in
after_failed = refl

-- and nothing after success
after_done : report (download Segmented (codes "0123456789abcd") true) (a (codes "6001200000000000") ∷ a (codes "2000000000000000") ∷ a (codes "3000000000000000") ∷ a (codes "3000000000000000") ∷ a (codes "8000000000000000") ∷ Ticked ∷ Ticked ∷ Ticked ∷ [])
    ≡ done (codes "210120000E000000" ∷ codes "0030313233343536" ∷ codes "1137383961626364" ∷ []) ([])
unfolding response_row_in
after_done = refl

-- ---- time

-- two of three milliseconds, then an answer, and two more
in_time : report (download Segmented (codes "0123456789abcd") true) (Ticked ∷ Ticked ∷ a (codes "6001200000000000") ∷ Ticked ∷ Ticked ∷ [])
    ≡ waiting (codes "210120000E000000" ∷ codes "0030313233343536" ∷ [])
unfolding response_row_in
in_time = refl

-- three without an answer
timed_out_at_begin : report (download Segmented (codes "0123456789abcd") true) (Ticked ∷ Ticked ∷ Ticked ∷ [])
    ≡ failed timed_out (codes "210120000E000000" ∷ codes "8001200000000405" ∷ [])
unfolding response_row_in
timed_out_at_begin = refl

timed_out_later : report (download Segmented (codes "0123456789abcd") true) (Ticked ∷ Ticked ∷ a (codes "6001200000000000") ∷ Ticked ∷ Ticked ∷ Ticked ∷ Ticked ∷ [])
    ≡ failed timed_out (codes "210120000E000000" ∷ codes "0030313233343536" ∷ codes "8001200000000405" ∷ [])
unfolding response_row_in
timed_out_later = refl

-- a time of 1 ms
first_tick : report (record (download Segmented (codes "0123456789abcd") true) { time = 1 }) (Ticked ∷ [])
    ≡ failed timed_out (codes "210120000E000000" ∷ codes "8001200000000405" ∷ [])
unfolding response_row_in
first_tick = refl

-- time 0 is for ever
no_time : report (record (download Segmented (codes "0123456789abcd") true) { time = 0 }) (Ticked ∷ Ticked ∷ Ticked ∷ [])
    ≡ waiting (codes "210120000E000000" ∷ [])
unfolding response_row_in
no_time = refl

-- ---- expedited downloads

-- one to four bytes in the plain mode
expedited_four : report (download Plain (codes "1234") true) (a (codes "6001200000000000") ∷ [])
    ≡ done (codes "2301200031323334" ∷ []) ([])
unfolding response_row_in
expedited_four = refl

expedited_one : report (download Plain (codes "1") false) (a (codes "6001200000000000") ∷ [])
    ≡ done (codes "2F01200031000000" ∷ []) ([])
unfolding response_row_in
expedited_one = refl

expedited_waits : report (download Plain (codes "1") true) ([])
    ≡ waiting (codes "2F01200031000000" ∷ [])
unfolding response_row_in
expedited_waits = refl

expedited_other_key : report (download Plain (codes "1") true) (a (codes "6000200000000000") ∷ [])
    ≡ failed unknown_command (codes "2F01200031000000" ∷ codes "8001200001000405" ∷ [])
unfolding response_row_in
expedited_other_key = refl

-- five or none are segmented
plain_five : report (download Plain (codes "12345") true) (a (codes "6001200000000000") ∷ [])
    ≡ waiting (codes "2101200005000000" ∷ codes "0531323334350000" ∷ [])
unfolding response_row_in
plain_five = refl

plain_none : report (download Plain ([]) true) (a (codes "6001200000000000") ∷ [])
    ≡ waiting (codes "2101200000000000" ∷ codes "0F00000000000000" ∷ [])
unfolding response_row_in
plain_none = refl

-- and four, where segments are asked for
segmented_four : report (download Segmented (codes "1234") true) (a (codes "6001200000000000") ∷ a (codes "2000000000000000") ∷ [])
    ≡ done (codes "2101200004000000" ∷ codes "0731323334000000" ∷ []) ([])
unfolding response_row_in
segmented_four = refl

-- ---- block downloads

-- fourteen bytes in one sub-block
block_initiated : report (download Block (codes "0123456789abcd") true) (a (codes "A00120007F000000") ∷ [])
    ≡ waiting (codes "C20120000E000000" ∷ codes "0130313233343536" ∷ codes "8237383961626364" ∷ [])
unfolding response_row_in
block_initiated = refl

block_acknowledged : report (download Block (codes "0123456789abcd") true) (a (codes "A00120007F000000") ∷ a (codes "A2027F0000000000") ∷ [])
    ≡ waiting (codes "C20120000E000000" ∷ codes "0130313233343536" ∷ codes "8237383961626364" ∷ codes "C100000000000000" ∷ [])
unfolding response_row_in
block_acknowledged = refl

block_fourteen : report (download Block (codes "0123456789abcd") true) (a (codes "A00120007F000000") ∷ a (codes "A2027F0000000000") ∷ a (codes "A100000000000000") ∷ [])
    ≡ done (codes "C20120000E000000" ∷ codes "0130313233343536" ∷ codes "8237383961626364" ∷ codes "C100000000000000" ∷ []) ([])
unfolding response_row_in
block_fourteen = refl

block_without_size : report (download Block (codes "0123456789abcd") false) ([])
    ≡ waiting (codes "C001200000000000" ∷ [])
unfolding response_row_in
block_without_size = refl

-- sub-blocks of one segment: each is numbered from 1
block_of_one : report (download Block (codes "0123456789abcd") true) (a (codes "A001200001000000") ∷ a (codes "A201010000000000") ∷ [])
    ≡ waiting (codes "C20120000E000000" ∷ codes "0130313233343536" ∷ codes "8137383961626364" ∷ [])
unfolding response_row_in
block_of_one = refl

-- the newest answer gives the size of the next sub-block
block_next_size : report (download Block (codes "0123456789abcde") true) (a (codes "A001200001000000") ∷ a (codes "A200020000000000") ∷ [])
    ≡ waiting (codes "C20120000F000000" ∷ codes "0130313233343536" ∷ codes "0130313233343536" ∷ codes "0237383961626364" ∷ [])
unfolding response_row_in
block_next_size = refl

block_next_of_one : report (download Block (codes "0123456789abcde") true) (a (codes "A00120007F000000") ∷ a (codes "A201010000000000") ∷ [])
    ≡ waiting (codes "C20120000F000000" ∷ codes "0130313233343536" ∷ codes "0237383961626364" ∷ codes "8365000000000000" ∷ codes "0137383961626364" ∷ [])
unfolding response_row_in
block_next_of_one = refl

none_taken_size_0 : report (download Block (codes "0123456789abcd") true) (a (codes "A00120007F000000") ∷ a (codes "A200000000000000") ∷ [])
    ≡ failed invalid_block_size (codes "C20120000E000000" ∷ codes "0130313233343536" ∷ codes "8237383961626364" ∷ codes "8001200002000405" ∷ [])
unfolding response_row_in
none_taken_size_0 = refl

-- no segment was taken, and only the first
block_again : report (download Block (codes "0123456789abcd") true) (a (codes "A00120007F000000") ∷ a (codes "A2007F0000000000") ∷ [])
    ≡ waiting (codes "C20120000E000000" ∷ codes "0130313233343536" ∷ codes "8237383961626364" ∷ codes "0130313233343536" ∷ codes "8237383961626364" ∷ [])
unfolding response_row_in
block_again = refl

block_second_again : report (download Block (codes "0123456789abcd") true) (a (codes "A00120007F000000") ∷ a (codes "A2017F0000000000") ∷ a (codes "A2017F0000000000") ∷ [])
    ≡ waiting (codes "C20120000E000000" ∷ codes "0130313233343536" ∷ codes "8237383961626364" ∷ codes "8137383961626364" ∷ codes "C100000000000000" ∷ [])
unfolding response_row_in
block_second_again = refl

-- eight bytes leave six of the last segment unused
block_eight : report (download Block (codes "01234567") true) (a (codes "A00120007F000000") ∷ a (codes "A2027F0000000000") ∷ [])
    ≡ waiting (codes "C201200008000000" ∷ codes "0130313233343536" ∷ codes "8237000000000000" ∷ codes "D900000000000000" ∷ [])
unfolding response_row_in
block_eight = refl

-- no bytes at all: a segment of zeros
block_none : report (download Block ([]) true) (a (codes "A00120007F000000") ∷ a (codes "A2017F0000000000") ∷ a (codes "A100000000000000") ∷ [])
    ≡ done (codes "C201200000000000" ∷ codes "8100000000000000" ∷ codes "DD00000000000000" ∷ []) ([])
unfolding response_row_in
block_none = refl

-- block sizes 0 and 128
block_size_0 : report (download Block (codes "0123456789abcd") true) (a (codes "A001200000000000") ∷ [])
    ≡ failed invalid_block_size (codes "C20120000E000000" ∷ codes "8001200002000405" ∷ [])
unfolding response_row_in
block_size_0 = refl

block_size_128 : report (download Block (codes "0123456789abcd") true) (a (codes "A001200080000000") ∷ [])
    ≡ failed invalid_block_size (codes "C20120000E000000" ∷ codes "8001200002000405" ∷ [])
unfolding response_row_in
block_size_128 = refl

-- in an acknowledgement too, where a sub-block follows it
next_block_size_0 : report (download Block (codes "0123456789abcd") true) (a (codes "A00120007F000000") ∷ a (codes "A201000000000000") ∷ [])
    ≡ failed invalid_block_size (codes "C20120000E000000" ∷ codes "0130313233343536" ∷ codes "8237383961626364" ∷ codes "8001200002000405" ∷ [])
unfolding response_row_in
next_block_size_0 = refl

next_block_size_128 : report (download Block (codes "0123456789abcd") true) (a (codes "A00120007F000000") ∷ a (codes "A200800000000000") ∷ [])
    ≡ failed invalid_block_size (codes "C20120000E000000" ∷ codes "0130313233343536" ∷ codes "8237383961626364" ∷ codes "8001200002000405" ∷ [])
unfolding response_row_in
next_block_size_128 = refl

last_block_size : report (download Block (codes "0123456789abcd") true) (a (codes "A00120007F000000") ∷ a (codes "A202000000000000") ∷ [])
    ≡ waiting (codes "C20120000E000000" ∷ codes "0130313233343536" ∷ codes "8237383961626364" ∷ codes "C100000000000000" ∷ [])
unfolding response_row_in
last_block_size = refl

-- more acknowledged than sent
block_sequence_3 : report (download Block (codes "0123456789abcd") true) (a (codes "A00120007F000000") ∷ a (codes "A2037F0000000000") ∷ [])
    ≡ failed invalid_sequence_number (codes "C20120000E000000" ∷ codes "0130313233343536" ∷ codes "8237383961626364" ∷ codes "8001200003000405" ∷ [])
unfolding response_row_in
block_sequence_3 = refl

block_sequence_2 : report (download Block (codes "0123456789abcd") true) (a (codes "A001200001000000") ∷ a (codes "A2027F0000000000") ∷ [])
    ≡ failed invalid_sequence_number (codes "C20120000E000000" ∷ codes "0130313233343536" ∷ codes "8001200003000405" ∷ [])
unfolding response_row_in
block_sequence_2 = refl

block_sequence_before_size : report (download Block (codes "0123456789abcd") true) (a (codes "A00120007F000000") ∷ a (codes "A203000000000000") ∷ [])
    ≡ failed invalid_sequence_number (codes "C20120000E000000" ∷ codes "0130313233343536" ∷ codes "8237383961626364" ∷ codes "8001200003000405" ∷ [])
unfolding response_row_in
block_sequence_before_size = refl

-- another key, before the block size
block_other_key : report (download Block (codes "0123456789abcd") true) (a (codes "A002200000000000") ∷ [])
    ≡ failed unknown_command (codes "C20120000E000000" ∷ codes "8001200001000405" ∷ [])
unfolding response_row_in
block_other_key = refl

-- not the awaited answer
block_not_awaited : report (download Block (codes "0123456789abcd") true) (a (codes "6001200000000000") ∷ [])
    ≡ failed unknown_command (codes "C20120000E000000" ∷ codes "8001200001000405" ∷ [])
unfolding response_row_in
block_not_awaited = refl

block_end_too_early : report (download Block (codes "0123456789abcd") true) (a (codes "A00120007F000000") ∷ a (codes "A100000000000000") ∷ [])
    ≡ failed unknown_command (codes "C20120000E000000" ∷ codes "0130313233343536" ∷ codes "8237383961626364" ∷ codes "8001200001000405" ∷ [])
unfolding response_row_in
block_end_too_early = refl

block_acknowledged_twice : report (download Block (codes "0123456789abcd") true) (a (codes "A00120007F000000") ∷ a (codes "A2027F0000000000") ∷ a (codes "A2027F0000000000") ∷ [])
    ≡ failed unknown_command (codes "C20120000E000000" ∷ codes "0130313233343536" ∷ codes "8237383961626364" ∷ codes "C100000000000000" ∷ codes "8001200001000405" ∷ [])
unfolding response_row_in
block_acknowledged_twice = refl

block_segment_answer : report (download Block (codes "0123456789abcd") true) (a (codes "A00120007F000000") ∷ a (codes "A2027F0000000000") ∷ a (codes "2000000000000000") ∷ [])
    ≡ failed unknown_command (codes "C20120000E000000" ∷ codes "0130313233343536" ∷ codes "8237383961626364" ∷ codes "C100000000000000" ∷ codes "8001200001000405" ∷ [])
unfolding response_row_in
block_segment_answer = refl

block_aborted : report (download Block (codes "0123456789abcd") true) (a (codes "A00120007F000000") ∷ a (codes "A2027F0000000000") ∷ a (codes "8002200000000206") ∷ [])
    ≡ failed object_missing (codes "C20120000E000000" ∷ codes "0130313233343536" ∷ codes "8237383961626364" ∷ codes "C100000000000000" ∷ [])
unfolding response_row_in
block_aborted = refl

block_timed_out : report (download Block (codes "0123456789abcd") true) (a (codes "A00120007F000000") ∷ Ticked ∷ Ticked ∷ Ticked ∷ [])
    ≡ failed timed_out (codes "C20120000E000000" ∷ codes "0130313233343536" ∷ codes "8237383961626364" ∷ codes "8001200000000405" ∷ [])
unfolding response_row_in
block_timed_out = refl

-- ---- whole sub-blocks

-- the frames to the newest event, without the first 126
abbrev after_126 : Call → List (List ℕ) → List (List ℕ)
after_126 call frames = drop 126 (map message_bytes (asked call (map (λ frame. Answered (hex frame)) frames)))

-- 889 bytes are one sub-block, whose last segment has c
one_sub_block : after_126 (download Block (replicate 889 0x30) true) (codes "A00120007F000000" ∷ []) ≡ (0xFF ∷ replicate 7 0x30) ∷ []
unfolding response_row_in
one_sub_block = refl

-- 890 bytes are one and a segment
two_sub_blocks : after_126 (download Block (replicate 890 0x30) true) (codes "A00120007F000000" ∷ []) ≡ (0x7F ∷ replicate 7 0x30) ∷ []
unfolding response_row_in
two_sub_blocks = refl

second_sub_block : map message_bytes (asked (download Block (replicate 890 0x30) true) (Answered (hex (codes "A27F7F0000000000")) ∷ Answered (hex (codes "A00120007F000000")) ∷ []))
    ≡ (0x81 ∷ 0x30 ∷ replicate 6 0) ∷ []
unfolding response_row_in
second_sub_block = refl

-- ---- how many frames were sent

-- the count stays at 2^64 - 1 once it is there
count_is_kept : counted (2 ^ 64 - 1 + 1) ≡ 2 ^ 64 - 1
count_is_kept = refl

count_below : counted (2 ^ 64 - 2) ≡ 2 ^ 64 - 2
count_below = refl
