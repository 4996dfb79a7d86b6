-- Worked exchanges of block downloads.
use Rattle.std.proofs.Common.{◌≡◌, ℕ, List, [], ◌∷◌, refl, codes, Some, None, map}
use Rattle.co_dict.specs.Objects.{has_object}
use Rattle.co_frame.specs.SdoRequests.{request_row_in}
use Rattle.co_sdo.specs.Refused.{reading_refusal, initiate_refusal, completion_refusal}
use Rattle.co_sdo.specs.Log.{answer_bytes}
use Rattle.co_sdo.specs.Opened.{held_bytes}
use Rattle.co_sdo.specs.Replies.{time_out_reply}
use Rattle.co_sdo.proofs.ExampleChannel.{Run, at, start, received, timed_out, all_received, answered, set_at, bytes_at, hex, one}

-- ---- block downloads

abbrev block14 : List ℕ
block14 = hex (codes "C20120000E000000")

abbrev segment1 : List ℕ
segment1 = hex (codes "0130313233343536")

abbrev last2 : List ℕ
last2 = hex (codes "8237383961626364")

block_initiated : answered block14 start ≡ one (codes "A00120007F000000")
unfolding request_row_in reading_refusal initiate_refusal completion_refusal has_object
block_initiated = refl

-- the second segment alone comes
gap : answered last2 (received block14 start) ≡ one (codes "A2007F0000000000")
unfolding request_row_in reading_refusal initiate_refusal completion_refusal has_object
gap = refl

-- and then both
both_taken : answered last2 (all_received (block14 ∷ last2 ∷ segment1 ∷ []) start) ≡ one (codes "A2027F0000000000")
unfolding request_row_in reading_refusal initiate_refusal completion_refusal has_object
both_taken = refl

first_is_not_answered : answered segment1 (all_received (block14 ∷ last2 ∷ []) start) ≡ []
unfolding request_row_in reading_refusal initiate_refusal completion_refusal has_object
first_is_not_answered = refl

abbrev block_end0 : List ℕ
block_end0 = hex (codes "C100000000000000")

block_done : answered block_end0 (all_received (block14 ∷ last2 ∷ segment1 ∷ last2 ∷ []) start) ≡ one (codes "A100000000000000")
unfolding request_row_in reading_refusal initiate_refusal completion_refusal has_object
block_done = refl

block_sets : bytes_at (at 0x2001 0) (all_received (block14 ∷ last2 ∷ segment1 ∷ last2 ∷ block_end0 ∷ []) start) ≡ Some (codes "0123456789abcd")
unfolding request_row_in reading_refusal initiate_refusal completion_refusal has_object
block_sets = refl

-- four bytes of the last segment are unused: a size of ten
block_unused : bytes_at (at 0x2001 0) (all_received (hex (codes "C20120000A000000") ∷ segment1 ∷ last2 ∷ hex (codes "D100000000000000") ∷ []) start) ≡ Some (codes "0123456789")
unfolding request_row_in reading_refusal initiate_refusal completion_refusal has_object
block_unused = refl

block_below_indicated : answered (hex (codes "D100000000000000")) (all_received (block14 ∷ segment1 ∷ last2 ∷ []) start) ≡ one (codes "8001200013000706")
unfolding request_row_in reading_refusal initiate_refusal completion_refusal has_object
block_below_indicated = refl

-- the end is unexpected where nothing was taken before it: inside a sub-block it is segment 65 with c
end_in_sub_block : answered block_end0 (received block14 start) ≡ one (codes "A2007F0000000000")
unfolding request_row_in reading_refusal initiate_refusal completion_refusal has_object
end_in_sub_block = refl

-- inside a sub-block 00h is passed over, 80h is an abort, 81h to 9Fh are segments
zero_in_sub_block : answered (hex (codes "0000000000000000")) (received block14 start) ≡ []
unfolding request_row_in reading_refusal initiate_refusal completion_refusal has_object
zero_in_sub_block = refl

abort_in_sub_block : answered (hex (codes "8000000000000000")) (received block14 start) ≡ []
unfolding request_row_in reading_refusal initiate_refusal completion_refusal has_object
abort_in_sub_block = refl

abort_in_sub_block_drops : held_bytes (all_received (block14 ∷ segment1 ∷ hex (codes "8000000000000000") ∷ []) start).log ≡ 0
unfolding request_row_in reading_refusal initiate_refusal completion_refusal has_object
abort_in_sub_block_drops = refl

zero_in_sub_block_keeps : held_bytes (all_received (block14 ∷ segment1 ∷ hex (codes "0000000000000000") ∷ []) start).log ≡ 7
unfolding request_row_in reading_refusal initiate_refusal completion_refusal has_object
zero_in_sub_block_keeps = refl

segment_like_an_abort : answered (hex (codes "8130313233343536")) (received block14 start) ≡ one (codes "A2017F0000000000")
unfolding request_row_in reading_refusal initiate_refusal completion_refusal has_object
segment_like_an_abort = refl

-- an expedited download inside a sub-block is a segment
expedited_in_sub_block : set_at (hex (codes "23022000EFBEADDE")) (received block14 start) ≡ None
unfolding request_row_in reading_refusal initiate_refusal completion_refusal has_object
expedited_in_sub_block = refl

-- above the room at a sub-block's end alone: fourteen bytes into ten
abbrev block_room10 : Run
block_room10 = all_received (hex (codes "C000210000000000") ∷ segment1 ∷ hex (codes "0237383961626364") ∷ []) start

no_check_before_the_end : answered (hex (codes "0230313233343536")) (all_received (hex (codes "C000210000000000") ∷ segment1 ∷ []) start) ≡ []
unfolding request_row_in reading_refusal initiate_refusal completion_refusal has_object
no_check_before_the_end = refl

above_room_held : held_bytes block_room10.log ≡ 14
unfolding request_row_in reading_refusal initiate_refusal completion_refusal has_object
above_room_held = refl

-- segment 127 ends the sub-block, taken or not
above_room_at_the_end : answered (hex (codes "7F00000000000000")) block_room10 ≡ one (codes "8000210012000706")
unfolding request_row_in reading_refusal initiate_refusal completion_refusal has_object
above_room_at_the_end = refl

within_room_at_the_end : answered (hex (codes "7F00000000000000")) (all_received (hex (codes "C000210000000000") ∷ segment1 ∷ []) start) ≡ one (codes "A2017F0000000000")
unfolding request_row_in reading_refusal initiate_refusal completion_refusal has_object
within_room_at_the_end = refl

-- numbers begin anew in each sub-block
next_sub_block : held_bytes (all_received (hex (codes "C000210000000000") ∷ segment1 ∷ hex (codes "7F00000000000000") ∷ segment1 ∷ []) start).log ≡ 14
unfolding request_row_in reading_refusal initiate_refusal completion_refusal has_object
next_sub_block = refl

-- with c taken, the room is looked at when the end completes the transfer
above_room_after_last : answered (hex (codes "8300000000000000")) block_room10 ≡ one (codes "A2037F0000000000")
unfolding request_row_in reading_refusal initiate_refusal completion_refusal has_object
above_room_after_last = refl

above_room_completed : answered block_end0 (received (hex (codes "8300000000000000")) block_room10) ≡ one (codes "8000210012000706")
unfolding request_row_in reading_refusal initiate_refusal completion_refusal has_object
above_room_completed = refl

-- the time is over inside a sub-block, and then an expedited download is carried out
abbrev block_timed_out : Run
block_timed_out = timed_out (all_received (hex (codes "C000210000000000") ∷ segment1 ∷ []) start)

block_time_out : map answer_bytes (time_out_reply (all_received (hex (codes "C000210000000000") ∷ segment1 ∷ []) start).log) ≡ one (codes "8000210000000405")
unfolding request_row_in reading_refusal initiate_refusal completion_refusal has_object
block_time_out = refl

expedited_after_time_out : answered (hex (codes "23022000EFBEADDE")) block_timed_out ≡ one (codes "6002200000000000")
unfolding request_row_in reading_refusal initiate_refusal completion_refusal has_object
expedited_after_time_out = refl

expedited_after_time_out_sets : bytes_at (at 0x2002 0) (received (hex (codes "23022000EFBEADDE")) block_timed_out) ≡ Some (hex (codes "EFBEADDE"))
unfolding request_row_in reading_refusal initiate_refusal completion_refusal has_object
expedited_after_time_out_sets = refl
