-- Worked recordings of a channel over a small dictionary: what explain says is done, and what the channel sets.
use Rattle.std.proofs.Common.{◌≡◌, ℕ, Bool, true, false, List, [], ◌∷◌, refl, codes}
use Rattle.co_dict.specs.Objects.{has_object}
use Rattle.co_dict.specs.Rows.{Contents}
use Rattle.co_frame.specs.SdoRequests.{request_row_in}
use Rattle.co_frame.specs.SdoResponses.{response_row_in}
use Rattle.co_value.specs.declared.key.Key.{Key}
use Rattle.co_sdo.specs.Completed.{contents_with}
use Rattle.co_sdo.specs.Refused.{reading_refusal, initiate_refusal, completion_refusal}
use Rattle.co_sdo.proofs.ExampleChannel.{at, entries, bytes_in, dictionary, hex}
use Rattle.conode_explain_laws.specs.Recordings.{Input, Received, Abandoned, log_of, recorded}
use Rattle.conode_explain_laws.specs.Downloads.{Complete, downloads_done, set_with, downloads_set, goes_up, is_inside, newest_in}

-- the inputs, newest first, and the contents after them
pub record Scene : Type 0 where
  pub contents : Contents
  pub inputs : List Input

abbrev pub start : Scene
start = record { contents = bytes_in entries; inputs = [] }

abbrev comes : List ℕ → Scene → Scene
comes frame s = record {
  contents = contents_with s.contents (set_with dictionary s.contents frame (log_of dictionary s.inputs));
  inputs = Received s.contents frame ∷ s.inputs;
}

abbrev pub happens : Input → Scene → Scene
happens input s = record { contents = s.contents; inputs = input ∷ s.inputs }

-- frames, the first one first
abbrev pub all_come : List (List ℕ) → Scene → Scene
all_come [] s = s
all_come (digits ∷ later) s = all_come later (comes (hex digits) s)

abbrev done : Scene → List Complete
done s = downloads_done dictionary.rows (recorded (λ n. n) dictionary s.inputs)

abbrev set : Scene → List Complete
set s = downloads_set (λ n. n) dictionary s.inputs

abbrev write : ℕ → Key → List ℕ → Complete
write frame key digits = record { frame = frame; key = key; bytes = hex digits }

-- an expedited download is done with the second frame
abbrev expedited : Scene
expedited = all_come (codes "2B171000E8030000" ∷ []) start

expedited_done : done expedited ≡ write 2 (at 0x1017 0) (codes "E803") ∷ []
unfolding request_row_in response_row_in reading_refusal initiate_refusal completion_refusal has_object
expedited_done = refl

expedited_set : set expedited ≡ write 2 (at 0x1017 0) (codes "E803") ∷ []
unfolding request_row_in response_row_in reading_refusal initiate_refusal completion_refusal has_object
expedited_set = refl

-- without a size: of the four bytes the entry has room for two
abbrev unsized : Scene
unsized = all_come (codes "22171000E8030000" ∷ []) start

unsized_done : done unsized ≡ write 2 (at 0x1017 0) (codes "E803") ∷ []
unfolding request_row_in response_row_in reading_refusal initiate_refusal completion_refusal has_object
unsized_done = refl

-- one that is refused isn't done
refused_done : done (all_come (codes "2B032000E9030000" ∷ []) start) ≡ []
unfolding request_row_in response_row_in reading_refusal initiate_refusal completion_refusal has_object
refused_done = refl

-- in segments: ten bytes, done with the sixth frame
abbrev in_segments : Scene
in_segments = all_come (codes "210021000A000000" ∷ codes "0030313233343536" ∷ codes "1937383900000000" ∷ []) start

segments_done : done in_segments ≡ write 6 (at 0x2100 0) (codes "30313233343536373839") ∷ []
unfolding request_row_in response_row_in reading_refusal initiate_refusal completion_refusal has_object
segments_done = refl

segments_set : set in_segments ≡ write 6 (at 0x2100 0) (codes "30313233343536373839") ∷ []
unfolding request_row_in response_row_in reading_refusal initiate_refusal completion_refusal has_object
segments_set = refl

-- the same with a frame of three bytes between: the channel ignores it, and explain says that the transfer is irregular
abbrev with_short : Scene
with_short = all_come (codes "210021000A000000" ∷ codes "003031" ∷ codes "0030313233343536" ∷ codes "1937383900000000" ∷ []) start

short_done : done with_short ≡ []
unfolding request_row_in response_row_in reading_refusal initiate_refusal completion_refusal has_object
short_done = refl

short_set : set with_short ≡ write 7 (at 0x2100 0) (codes "30313233343536373839") ∷ []
unfolding request_row_in response_row_in reading_refusal initiate_refusal completion_refusal has_object
short_set = refl

-- dropped after its first segment: the rest of it sets nothing, and the next download is done
abbrev dropped : Scene
dropped = all_come (codes "1937383900000000" ∷ codes "2B171000E8030000" ∷ [])
    (happens Abandoned (all_come (codes "210021000A000000" ∷ codes "0030313233343536" ∷ []) start))

dropped_done : done dropped ≡ write 8 (at 0x1017 0) (codes "E803") ∷ []
unfolding request_row_in response_row_in reading_refusal initiate_refusal completion_refusal has_object
dropped_done = refl

dropped_set : set dropped ≡ write 8 (at 0x1017 0) (codes "E803") ∷ []
unfolding request_row_in response_row_in reading_refusal initiate_refusal completion_refusal has_object
dropped_set = refl

-- in blocks: ten bytes in two segments, done with the seventh frame
abbrev pub in_blocks : Scene
in_blocks = all_come (codes "C20021000A000000" ∷ codes "0130313233343536" ∷ codes "8237383900000000" ∷ codes "D100000000000000" ∷ []) start

blocks_done : done in_blocks ≡ write 7 (at 0x2100 0) (codes "30313233343536373839") ∷ []
unfolding request_row_in response_row_in reading_refusal initiate_refusal completion_refusal has_object
blocks_done = refl

blocks_set : set in_blocks ≡ write 7 (at 0x2100 0) (codes "30313233343536373839") ∷ []
unfolding request_row_in response_row_in reading_refusal initiate_refusal completion_refusal has_object
blocks_set = refl

-- the first segment is lost on its way to both, and the sub-block sent again
abbrev again : Scene
again = all_come (codes "C20021000A000000" ∷ codes "8237383900000000" ∷ codes "0130313233343536" ∷ codes "8237383900000000" ∷ codes "D100000000000000" ∷ []) start

again_done : done again ≡ write 9 (at 0x2100 0) (codes "30313233343536373839") ∷ []
unfolding request_row_in response_row_in reading_refusal initiate_refusal completion_refusal has_object
again_done = refl

again_set : set again ≡ write 9 (at 0x2100 0) (codes "30313233343536373839") ∷ []
unfolding request_row_in response_row_in reading_refusal initiate_refusal completion_refusal has_object
again_set = refl

-- dropped inside its sub-block: its second segment is an unknown request to the channel, which aborts it
abbrev blocks_dropped : Scene
blocks_dropped = all_come (codes "8237383900000000" ∷ codes "D100000000000000" ∷ [])
    (happens Abandoned (all_come (codes "C20021000A000000" ∷ codes "0130313233343536" ∷ []) start))

blocks_dropped_done : done blocks_dropped ≡ []
unfolding request_row_in response_row_in reading_refusal initiate_refusal completion_refusal has_object
blocks_dropped_done = refl

-- dropped there, a download that begins sets its entry: explain reads its request as a segment of the first one
abbrev begun_inside : Scene
begun_inside = all_come (codes "2B171000E8030000" ∷ []) (happens Abandoned (all_come (codes "C20021000A000000" ∷ codes "0130313233343536" ∷ []) start))

begun_inside_done : done begun_inside ≡ []
unfolding request_row_in response_row_in reading_refusal initiate_refusal completion_refusal has_object
begun_inside_done = refl

begun_inside_set : set begun_inside ≡ write 5 (at 0x1017 0) (codes "E803") ∷ []
unfolding request_row_in response_row_in reading_refusal initiate_refusal completion_refusal has_object
begun_inside_set = refl

-- dropped after its last segment, which ends the sub-block: the next one is done too
abbrev dropped_after : Scene
dropped_after = all_come (codes "D100000000000000" ∷ codes "2B171000E8030000" ∷ [])
    (happens Abandoned (all_come (codes "C20021000A000000" ∷ codes "0130313233343536" ∷ codes "8237383900000000" ∷ []) start))

dropped_after_done : done dropped_after ≡ write 9 (at 0x1017 0) (codes "E803") ∷ []
unfolding request_row_in response_row_in reading_refusal initiate_refusal completion_refusal has_object
dropped_after_done = refl

dropped_after_set : set dropped_after ≡ write 9 (at 0x1017 0) (codes "E803") ∷ []
unfolding request_row_in response_row_in reading_refusal initiate_refusal completion_refusal has_object
dropped_after_set = refl

-- the first segment comes twice: the channel passes over it, and explain says that the transfer is irregular
abbrev twice : Scene
twice = all_come (codes "C20021000A000000" ∷ codes "0130313233343536" ∷ codes "0130313233343536" ∷ codes "8237383900000000" ∷ codes "D100000000000000" ∷ []) start

twice_done : done twice ≡ []
unfolding request_row_in response_row_in reading_refusal initiate_refusal completion_refusal has_object
twice_done = refl

twice_set : set twice ≡ write 8 (at 0x2100 0) (codes "30313233343536373839") ∷ []
unfolding request_row_in response_row_in reading_refusal initiate_refusal completion_refusal has_object
twice_set = refl

-- ---- which frames are in order

-- after segment 1 comes segment 2, or the last one with a higher number; segment 1 again isn't in order, nor a frame with number 0
higher : goes_up 1 (hex (codes "0237383900000000")) ≡ true
higher = refl

higher_last : goes_up 1 (hex (codes "8237383900000000")) ≡ true
higher_last = refl

same_number : goes_up 1 (hex (codes "0130313233343536")) ≡ false
same_number = refl

same_last : goes_up 1 (hex (codes "8130313233343536")) ≡ false
same_last = refl

zero : goes_up 0 (hex (codes "0030313233343536")) ≡ false
zero = refl

-- an abort is in order after each of them
aborts : goes_up 127 (hex (codes "8000210000000008")) ≡ true
aborts = refl

-- the newest number of a scene, and whether the next frame falls inside a sub-block
abbrev newest : Scene → ℕ
newest s = newest_in dictionary s.inputs

abbrev inside : Scene → Bool
inside s = is_inside (log_of dictionary s.inputs)

abbrev begun : Scene
begun = all_come (codes "C20021000A000000" ∷ []) start

begun_inside_it : inside begun ≡ true
unfolding request_row_in response_row_in reading_refusal initiate_refusal completion_refusal has_object
begun_inside_it = refl

begun_newest : newest begun ≡ 0
unfolding request_row_in response_row_in reading_refusal initiate_refusal completion_refusal has_object
begun_newest = refl

-- before it nothing is
start_outside : inside start ≡ false
unfolding request_row_in response_row_in reading_refusal initiate_refusal completion_refusal has_object
start_outside = refl

first_newest : newest (all_come (codes "0130313233343536" ∷ []) begun) ≡ 1
unfolding request_row_in response_row_in reading_refusal initiate_refusal completion_refusal has_object
first_newest = refl

-- a segment that isn't taken counts too
ahead_newest : newest (all_come (codes "0537383900000000" ∷ []) begun) ≡ 5
unfolding request_row_in response_row_in reading_refusal initiate_refusal completion_refusal has_object
ahead_newest = refl

-- a last segment that isn't taken ends the sub-block, and the next one begins
abbrev next_begun : Scene
next_begun = all_come (codes "8537383900000000" ∷ []) begun

next_newest : newest next_begun ≡ 0
unfolding request_row_in response_row_in reading_refusal initiate_refusal completion_refusal has_object
next_newest = refl

next_inside : inside next_begun ≡ true
unfolding request_row_in response_row_in reading_refusal initiate_refusal completion_refusal has_object
next_inside = refl

-- the one that is taken ends the last
abbrev all_taken : Scene
all_taken = all_come (codes "8130313233343536" ∷ []) begun

taken_outside : inside all_taken ≡ false
unfolding request_row_in response_row_in reading_refusal initiate_refusal completion_refusal has_object
taken_outside = refl
