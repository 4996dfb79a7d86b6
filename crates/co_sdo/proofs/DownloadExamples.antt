-- Worked exchanges of expedited transfers and segmented downloads, their time, and begins and aborts.
use Rattle.std.proofs.Common.{◌≡◌, ℕ, List, [], ◌∷◌, refl, codes, Some, None, true, false, map}
use Rattle.co_dict.specs.Objects.{has_object}
use Rattle.co_frame.specs.SdoRequests.{request_row_in}
use Rattle.co_sdo.specs.Refused.{reading_refusal, initiate_refusal, completion_refusal}
use Rattle.co_sdo.specs.Log.{answer_bytes}
use Rattle.co_sdo.specs.Opened.{held_bytes, is_time_over}
use Rattle.co_sdo.specs.Replies.{time_out_reply}
use Rattle.co_sdo.proofs.ExampleChannel.{Run, at, start, received, timed_out, dropped, ticked, all_received, answered, set_at, bytes_at, hex, one}

-- ---- expedited transfers

-- a number is read
upload_expedited : answered (hex (codes "4000100000000000")) start ≡ one (codes "4300100091010000")
unfolding request_row_in reading_refusal initiate_refusal completion_refusal has_object
upload_expedited = refl

-- a number is set
download_expedited : answered (hex (codes "2B171000E8030000")) start ≡ one (codes "6017100000000000")
unfolding request_row_in reading_refusal initiate_refusal completion_refusal has_object
download_expedited = refl

download_expedited_sets : bytes_at (at 0x1017 0) (received (hex (codes "2B171000E8030000")) start) ≡ Some (hex (codes "E803"))
unfolding request_row_in reading_refusal initiate_refusal completion_refusal has_object
download_expedited_sets = refl

download_expedited_key : set_at (hex (codes "2B171000E8030000")) start ≡ Some (at 0x1017 0)
unfolding request_row_in reading_refusal initiate_refusal completion_refusal has_object
download_expedited_key = refl

-- refusals: write only, read only, no object, no sub-index
refused_write_only : answered (hex (codes "4004200000000000")) start ≡ one (codes "8004200001000106")
unfolding request_row_in reading_refusal initiate_refusal completion_refusal has_object
refused_write_only = refl

refused_read_only : answered (hex (codes "2300100001000000")) start ≡ one (codes "8000100002000106")
unfolding request_row_in reading_refusal initiate_refusal completion_refusal has_object
refused_read_only = refl

refused_object : answered (hex (codes "4000300000000000")) start ≡ one (codes "8000300000000206")
unfolding request_row_in reading_refusal initiate_refusal completion_refusal has_object
refused_object = refl

refused_sub_index : answered (hex (codes "4018100500000000")) start ≡ one (codes "8018100511000906")
unfolding request_row_in reading_refusal initiate_refusal completion_refusal has_object
refused_sub_index = refl

-- above the high limit, at it, too short, and without a size
above_limit : answered (hex (codes "2B032000E9030000")) start ≡ one (codes "8003200031000906")
unfolding request_row_in reading_refusal initiate_refusal completion_refusal has_object
above_limit = refl

above_limit_sets_nothing : set_at (hex (codes "2B032000E9030000")) start ≡ None
unfolding request_row_in reading_refusal initiate_refusal completion_refusal has_object
above_limit_sets_nothing = refl

at_limit : answered (hex (codes "2B032000E8030000")) start ≡ one (codes "6003200000000000")
unfolding request_row_in reading_refusal initiate_refusal completion_refusal has_object
at_limit = refl

too_short : answered (hex (codes "2F03200001000000")) start ≡ one (codes "8003200013000706")
unfolding request_row_in reading_refusal initiate_refusal completion_refusal has_object
too_short = refl

without_size : answered (hex (codes "2203200001000000")) start ≡ one (codes "6003200000000000")
unfolding request_row_in reading_refusal initiate_refusal completion_refusal has_object
without_size = refl

without_size_sets : bytes_at (at 0x2003 0) (received (hex (codes "2203200001000000")) start) ≡ Some (hex (codes "0100"))
unfolding request_row_in reading_refusal initiate_refusal completion_refusal has_object
without_size_sets = refl

-- ---- segmented downloads

abbrev begin10 : List ℕ
begin10 = hex (codes "210120000A000000")

abbrev data0 : List ℕ
data0 = hex (codes "0030313233343536")

abbrev data1 : List ℕ
data1 = hex (codes "1937383900000000")

segmented_initiate : answered begin10 start ≡ one (codes "6001200000000000")
unfolding request_row_in reading_refusal initiate_refusal completion_refusal has_object
segmented_initiate = refl

segmented_first : answered data0 (received begin10 start) ≡ one (codes "2000000000000000")
unfolding request_row_in reading_refusal initiate_refusal completion_refusal has_object
segmented_first = refl

segmented_last : answered data1 (all_received (begin10 ∷ data0 ∷ []) start) ≡ one (codes "3000000000000000")
unfolding request_row_in reading_refusal initiate_refusal completion_refusal has_object
segmented_last = refl

segmented_sets : bytes_at (at 0x2001 0) (all_received (begin10 ∷ data0 ∷ data1 ∷ []) start) ≡ Some (codes "0123456789")
unfolding request_row_in reading_refusal initiate_refusal completion_refusal has_object
segmented_sets = refl

segmented_key : set_at data1 (all_received (begin10 ∷ data0 ∷ []) start) ≡ Some (at 0x2001 0)
unfolding request_row_in reading_refusal initiate_refusal completion_refusal has_object
segmented_key = refl

segmented_held : held_bytes (all_received (begin10 ∷ data0 ∷ []) start).log ≡ 7
unfolding request_row_in reading_refusal initiate_refusal completion_refusal has_object
segmented_held = refl

-- after the last segment nothing is open
segmented_closed : answered data0 (all_received (begin10 ∷ data0 ∷ data1 ∷ []) start) ≡ one (codes "8000000001000405")
unfolding request_row_in reading_refusal initiate_refusal completion_refusal has_object
segmented_closed = refl

-- a segment that comes twice has the wrong toggle
repeated_segment : answered data0 (all_received (begin10 ∷ data0 ∷ []) start) ≡ one (codes "8001200000000305")
unfolding request_row_in reading_refusal initiate_refusal completion_refusal has_object
repeated_segment = refl

repeated_segment_sets_nothing : bytes_at (at 0x2001 0) (all_received (begin10 ∷ data0 ∷ data0 ∷ data1 ∷ []) start) ≡ Some []
unfolding request_row_in reading_refusal initiate_refusal completion_refusal has_object
repeated_segment_sets_nothing = refl

-- a size above the entry's room, and at it
size_above_room : answered (hex (codes "2101200011000000")) start ≡ one (codes "8001200012000706")
unfolding request_row_in reading_refusal initiate_refusal completion_refusal has_object
size_above_room = refl

size_at_room : answered (hex (codes "2101200010000000")) start ≡ one (codes "6001200000000000")
unfolding request_row_in reading_refusal initiate_refusal completion_refusal has_object
size_at_room = refl

-- bytes above the room: at the third segment of seven into sixteen
above_room : answered data0 (all_received (hex (codes "2001200000000000") ∷ data0 ∷ hex (codes "1030313233343536") ∷ []) start) ≡ one (codes "8001200012000706")
unfolding request_row_in reading_refusal initiate_refusal completion_refusal has_object
above_room = refl

-- a total below the indicated size, and above it
below_indicated : answered (hex (codes "1B37380000000000")) (all_received (begin10 ∷ data0 ∷ []) start) ≡ one (codes "8001200013000706")
unfolding request_row_in reading_refusal initiate_refusal completion_refusal has_object
below_indicated = refl

above_indicated : answered (hex (codes "1737383930000000")) (all_received (begin10 ∷ data0 ∷ []) start) ≡ one (codes "8001200012000706")
unfolding request_row_in reading_refusal initiate_refusal completion_refusal has_object
above_indicated = refl

-- no bytes at all
empty_download : set_at (hex (codes "0F00000000000000")) (received (hex (codes "2101200000000000")) start) ≡ Some (at 0x2001 0)
unfolding request_row_in reading_refusal initiate_refusal completion_refusal has_object
empty_download = refl

-- ---- time

abbrev ten_ticks : Run → Run
ten_ticks run = ticked (ticked (ticked (ticked (ticked (ticked (ticked (ticked (ticked (ticked run)))))))))

abbrev waiting : Run
waiting = ten_ticks (all_received (begin10 ∷ data0 ∷ []) start)

over_at_time : is_time_over 10 waiting.log ≡ true
unfolding request_row_in reading_refusal initiate_refusal completion_refusal has_object
over_at_time = refl

not_over_before : is_time_over 11 waiting.log ≡ false
unfolding request_row_in reading_refusal initiate_refusal completion_refusal has_object
not_over_before = refl

time_0_is_none : is_time_over 0 waiting.log ≡ false
unfolding request_row_in reading_refusal initiate_refusal completion_refusal has_object
time_0_is_none = refl

-- a request sets the time anew
time_anew : is_time_over 1 (received data0 waiting).log ≡ false
unfolding request_row_in reading_refusal initiate_refusal completion_refusal has_object
time_anew = refl

not_over_without_transfer : is_time_over 10 (ten_ticks start).log ≡ false
unfolding request_row_in reading_refusal initiate_refusal completion_refusal has_object
not_over_without_transfer = refl

time_out_sends : map answer_bytes (time_out_reply waiting.log) ≡ one (codes "8001200000000405")
unfolding request_row_in reading_refusal initiate_refusal completion_refusal has_object
time_out_sends = refl

time_out_holds_nothing : held_bytes (timed_out waiting).log ≡ 0
unfolding request_row_in reading_refusal initiate_refusal completion_refusal has_object
time_out_holds_nothing = refl

after_time_out : answered data1 (timed_out waiting) ≡ one (codes "8000000001000405")
unfolding request_row_in reading_refusal initiate_refusal completion_refusal has_object
after_time_out = refl

after_drop : answered data1 (dropped (all_received (begin10 ∷ data0 ∷ []) start)) ≡ one (codes "8000000001000405")
unfolding request_row_in reading_refusal initiate_refusal completion_refusal has_object
after_drop = refl

-- ---- begins and aborts

-- a begin drops what is open, also when it is refused itself
initiate_drops : answered data1 (all_received (begin10 ∷ data0 ∷ hex (codes "4000300000000000") ∷ []) start) ≡ one (codes "8000000001000405")
unfolding request_row_in reading_refusal initiate_refusal completion_refusal has_object
initiate_drops = refl

initiate_again : answered data0 (all_received (begin10 ∷ data0 ∷ begin10 ∷ []) start) ≡ one (codes "2000000000000000")
unfolding request_row_in reading_refusal initiate_refusal completion_refusal has_object
initiate_again = refl

-- an abort is not answered, and drops what is open
abort_is_not_answered : answered (hex (codes "8000000000000000")) (received begin10 start) ≡ []
unfolding request_row_in reading_refusal initiate_refusal completion_refusal has_object
abort_is_not_answered = refl

abort_drops : answered data0 (all_received (begin10 ∷ hex (codes "8000000000000000") ∷ []) start) ≡ one (codes "8000000001000405")
unfolding request_row_in reading_refusal initiate_refusal completion_refusal has_object
abort_drops = refl

-- a request that doesn't go with what is open drops it, and has its key
other_request : answered (hex (codes "6000000000000000")) (received begin10 start) ≡ one (codes "8001200001000405")
unfolding request_row_in reading_refusal initiate_refusal completion_refusal has_object
other_request = refl

other_request_drops : held_bytes (all_received (begin10 ∷ data0 ∷ hex (codes "6000000000000000") ∷ []) start).log ≡ 0
unfolding request_row_in reading_refusal initiate_refusal completion_refusal has_object
other_request_drops = refl

unknown_specifier : answered (hex (codes "E000000000000000")) start ≡ one (codes "8000000001000405")
unfolding request_row_in reading_refusal initiate_refusal completion_refusal has_object
unknown_specifier = refl
