-- Worked exchanges of segmented uploads and block uploads.
use Rattle.std.proofs.Common.{◌≡◌, ℕ, List, [], ◌∷◌, refl, codes}
use Rattle.co_dict.specs.Objects.{has_object}
use Rattle.co_frame.specs.SdoRequests.{request_row_in}
use Rattle.co_sdo.specs.Refused.{reading_refusal, initiate_refusal, completion_refusal}
use Rattle.co_sdo.specs.Opened.{held_bytes}
use Rattle.co_sdo.proofs.ExampleChannel.{Run, start, received, all_received, answered, hex, one}

-- ---- segmented uploads

-- an empty value is one segment without bytes
empty_upload : answered (hex (codes "4001200000000000")) start ≡ one (codes "4101200000000000")
unfolding request_row_in reading_refusal initiate_refusal completion_refusal has_object
empty_upload = refl

empty_upload_segment : answered (hex (codes "6000000000000000")) (received (hex (codes "4001200000000000")) start) ≡ one (codes "0F00000000000000")
unfolding request_row_in reading_refusal initiate_refusal completion_refusal has_object
empty_upload_segment = refl

-- ten bytes are seven and three
abbrev upload10 : List ℕ
upload10 = hex (codes "4002210000000000")

upload_begun10 : answered upload10 start ≡ one (codes "410221000A000000")
unfolding request_row_in reading_refusal initiate_refusal completion_refusal has_object
upload_begun10 = refl

upload_first : answered (hex (codes "6000000000000000")) (received upload10 start) ≡ one (codes "0030313233343536")
unfolding request_row_in reading_refusal initiate_refusal completion_refusal has_object
upload_first = refl

upload_last : answered (hex (codes "7000000000000000")) (all_received (upload10 ∷ hex (codes "6000000000000000") ∷ []) start) ≡ one (codes "1937383900000000")
unfolding request_row_in reading_refusal initiate_refusal completion_refusal has_object
upload_last = refl

upload_wrong_toggle : answered (hex (codes "6000000000000000")) (all_received (upload10 ∷ hex (codes "6000000000000000") ∷ []) start) ≡ one (codes "8002210000000305")
unfolding request_row_in reading_refusal initiate_refusal completion_refusal has_object
upload_wrong_toggle = refl

upload_held : held_bytes (received upload10 start).log ≡ 10
unfolding request_row_in reading_refusal initiate_refusal completion_refusal has_object
upload_held = refl

upload_closed : held_bytes (all_received (upload10 ∷ hex (codes "6000000000000000") ∷ hex (codes "7000000000000000") ∷ []) start).log ≡ 0
unfolding request_row_in reading_refusal initiate_refusal completion_refusal has_object
upload_closed = refl

-- seven bytes are one segment
upload7 : answered (hex (codes "6000000000000000")) (received (hex (codes "4003210000000000")) start) ≡ one (codes "0130313233343536")
unfolding request_row_in reading_refusal initiate_refusal completion_refusal has_object
upload7 = refl

-- ---- block uploads

abbrev block_upload4 : List ℕ
block_upload4 = hex (codes "A00220007F000000")

abbrev block_start : List ℕ
block_start = hex (codes "A300000000000000")

block_upload_initiated : answered block_upload4 start ≡ one (codes "C202200004000000")
unfolding request_row_in reading_refusal initiate_refusal completion_refusal has_object
block_upload_initiated = refl

block_upload_sent : answered block_start (received block_upload4 start) ≡ one (codes "81EFBEADDE000000")
unfolding request_row_in reading_refusal initiate_refusal completion_refusal has_object
block_upload_sent = refl

block_upload_ends : answered (hex (codes "A2017F0000000000")) (all_received (block_upload4 ∷ block_start ∷ []) start) ≡ one (codes "CD00000000000000")
unfolding request_row_in reading_refusal initiate_refusal completion_refusal has_object
block_upload_ends = refl

block_upload_closed : answered (hex (codes "A100000000000000")) (all_received (block_upload4 ∷ block_start ∷ hex (codes "A2017F0000000000") ∷ []) start) ≡ []
unfolding request_row_in reading_refusal initiate_refusal completion_refusal has_object
block_upload_closed = refl

block_upload_holds_nothing : held_bytes (all_received (block_upload4 ∷ block_start ∷ hex (codes "A2017F0000000000") ∷ hex (codes "A100000000000000") ∷ []) start).log ≡ 0
unfolding request_row_in reading_refusal initiate_refusal completion_refusal has_object
block_upload_holds_nothing = refl

block_size_0 : answered (hex (codes "A002200000000000")) start ≡ one (codes "8002200002000405")
unfolding request_row_in reading_refusal initiate_refusal completion_refusal has_object
block_size_0 = refl

block_size_128 : answered (hex (codes "A002200080000000")) start ≡ one (codes "8002200002000405")
unfolding request_row_in reading_refusal initiate_refusal completion_refusal has_object
block_size_128 = refl

-- a sub-block of which nothing came is sent again; a number above those sent is refused
abbrev block_upload10 : Run
block_upload10 = all_received (hex (codes "A002210002000000") ∷ block_start ∷ []) start

block_sent10 : answered block_start (received (hex (codes "A002210002000000")) start) ≡ hex (codes "0130313233343536") ∷ hex (codes "8237383900000000") ∷ []
unfolding request_row_in reading_refusal initiate_refusal completion_refusal has_object
block_sent10 = refl

nothing_acknowledged : answered (hex (codes "A200020000000000")) block_upload10 ≡ hex (codes "0130313233343536") ∷ hex (codes "8237383900000000") ∷ []
unfolding request_row_in reading_refusal initiate_refusal completion_refusal has_object
nothing_acknowledged = refl

one_acknowledged : answered (hex (codes "A201020000000000")) block_upload10 ≡ one (codes "8137383900000000")
unfolding request_row_in reading_refusal initiate_refusal completion_refusal has_object
one_acknowledged = refl

rest_acknowledged : answered (hex (codes "A201020000000000")) (received (hex (codes "A201020000000000")) block_upload10) ≡ one (codes "D100000000000000")
unfolding request_row_in reading_refusal initiate_refusal completion_refusal has_object
rest_acknowledged = refl

too_many_acknowledged : answered (hex (codes "A203020000000000")) block_upload10 ≡ one (codes "8002210003000405")
unfolding request_row_in reading_refusal initiate_refusal completion_refusal has_object
too_many_acknowledged = refl

next_block_size_0 : answered (hex (codes "A201000000000000")) block_upload10 ≡ one (codes "8002210002000405")
unfolding request_row_in reading_refusal initiate_refusal completion_refusal has_object
next_block_size_0 = refl

-- the block size is not looked at once all came
last_block_size_0 : answered (hex (codes "A202000000000000")) block_upload10 ≡ one (codes "D100000000000000")
unfolding request_row_in reading_refusal initiate_refusal completion_refusal has_object
last_block_size_0 = refl

acknowledged_before_start : answered (hex (codes "A200020000000000")) (received (hex (codes "A002210002000000")) start) ≡ one (codes "8002210001000405")
unfolding request_row_in reading_refusal initiate_refusal completion_refusal has_object
acknowledged_before_start = refl

started_twice : answered block_start block_upload10 ≡ one (codes "8002210001000405")
unfolding request_row_in reading_refusal initiate_refusal completion_refusal has_object
started_twice = refl

-- an empty value is one segment of zeros, all seven unused
empty_block_upload : answered block_start (received (hex (codes "A00120007F000000")) start) ≡ one (codes "8100000000000000")
unfolding request_row_in reading_refusal initiate_refusal completion_refusal has_object
empty_block_upload = refl

empty_block_upload_ends : answered (hex (codes "A2017F0000000000")) (all_received (hex (codes "A00120007F000000") ∷ block_start ∷ []) start) ≡ one (codes "DD00000000000000")
unfolding request_row_in reading_refusal initiate_refusal completion_refusal has_object
empty_block_upload_ends = refl
