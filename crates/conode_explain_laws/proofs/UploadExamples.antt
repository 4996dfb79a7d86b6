-- Worked recordings of uploads from a channel over a small dictionary: what explain says is done, and what the channel serves whole.
use Rattle.std.proofs.Common.{◌≡◌, ℕ, List, [], ◌∷◌, refl, codes}
use Rattle.co_dict.specs.Objects.{has_object}
use Rattle.co_dict.specs.Rows.{written as after_write}
use Rattle.co_frame.specs.SdoRequests.{request_row_in}
use Rattle.co_frame.specs.SdoResponses.{response_row_in}
use Rattle.co_value.specs.declared.key.Key.{Key}
use Rattle.co_sdo.specs.Refused.{reading_refusal, initiate_refusal, completion_refusal}
use Rattle.co_sdo.proofs.ExampleChannel.{at, dictionary, hex}
use Rattle.conode_explain_laws.specs.Recordings.{Expired, Abandoned, recorded}
use Rattle.conode_explain_laws.specs.Downloads.{Complete}
use Rattle.conode_explain_laws.specs.Uploads.{uploads_done, uploads_served}
use Rattle.conode_explain_laws.proofs.Examples.{Scene, start, happens, all_come, in_blocks as in_blocks_written}

abbrev done : Scene → List Complete
done s = uploads_done (recorded (λ n. n) dictionary s.inputs)

abbrev served : Scene → List Complete
served s = uploads_served (λ n. n) dictionary s.inputs

abbrev read : ℕ → Key → List ℕ → Complete
read frame key digits = record { frame = frame; key = key; bytes = hex digits }

-- two bytes are written, and read at once with the fourth frame
abbrev expedited : Scene
expedited = all_come (codes "2B171000E8030000" ∷ codes "4017100000000000" ∷ []) start

expedited_done : done expedited ≡ read 4 (at 0x1017 0) (codes "E803") ∷ []
unfolding request_row_in response_row_in reading_refusal initiate_refusal completion_refusal has_object
expedited_done = refl

expedited_served : served expedited ≡ read 4 (at 0x1017 0) (codes "E803") ∷ []
unfolding request_row_in response_row_in reading_refusal initiate_refusal completion_refusal has_object
expedited_served = refl

-- one that is refused is neither: there is no such entry
refused_done : done (all_come (codes "4003550000000000" ∷ []) start) ≡ []
unfolding request_row_in response_row_in reading_refusal initiate_refusal completion_refusal has_object
refused_done = refl

refused_served : served (all_come (codes "4003550000000000" ∷ []) start) ≡ []
unfolding request_row_in response_row_in reading_refusal initiate_refusal completion_refusal has_object
refused_served = refl

-- ten bytes are written, and read in two segments: done with the twelfth frame
abbrev written : Scene
written = all_come (codes "210021000A000000" ∷ codes "0030313233343536" ∷ codes "1937383900000000" ∷ []) start

abbrev in_segments : Scene
in_segments = all_come (codes "4000210000000000" ∷ codes "6000000000000000" ∷ codes "7000000000000000" ∷ []) written

segments_done : done in_segments ≡ read 12 (at 0x2100 0) (codes "30313233343536373839") ∷ []
unfolding request_row_in response_row_in reading_refusal initiate_refusal completion_refusal has_object
segments_done = refl

segments_served : served in_segments ≡ read 12 (at 0x2100 0) (codes "30313233343536373839") ∷ []
unfolding request_row_in response_row_in reading_refusal initiate_refusal completion_refusal has_object
segments_served = refl

-- the device writes other bytes to the entry between the segments: those that were there when the upload began are read
abbrev with_other : Scene → Scene
with_other s = record { contents = after_write s.contents (at 0x2100 0) (hex (codes "AAAAAAAAAAAAAAAAAAAA")); inputs = s.inputs }

abbrev overwritten : Scene
overwritten = all_come (codes "7000000000000000" ∷ []) (with_other (all_come (codes "4000210000000000" ∷ codes "6000000000000000" ∷ []) written))

overwritten_done : done overwritten ≡ read 12 (at 0x2100 0) (codes "30313233343536373839") ∷ []
unfolding request_row_in response_row_in reading_refusal initiate_refusal completion_refusal has_object
overwritten_done = refl

overwritten_served : served overwritten ≡ read 12 (at 0x2100 0) (codes "30313233343536373839") ∷ []
unfolding request_row_in response_row_in reading_refusal initiate_refusal completion_refusal has_object
overwritten_served = refl

-- the same toggle twice, and dropped after its first segment: the channel aborts what comes then
abbrev repeated : Scene
repeated = all_come (codes "4000210000000000" ∷ codes "6000000000000000" ∷ codes "6000000000000000" ∷ []) written

abbrev dropped : Scene
dropped = all_come (codes "7000000000000000" ∷ []) (happens Abandoned (all_come (codes "4000210000000000" ∷ codes "6000000000000000" ∷ []) written))

repeated_done : done repeated ≡ []
unfolding request_row_in response_row_in reading_refusal initiate_refusal completion_refusal has_object
repeated_done = refl

dropped_done : done dropped ≡ []
unfolding request_row_in response_row_in reading_refusal initiate_refusal completion_refusal has_object
dropped_done = refl

-- with a frame of three bytes between, explain says that it is irregular; the channel serves it whole
abbrev with_short : Scene
with_short = all_come (codes "4000210000000000" ∷ codes "6000000000000000" ∷ codes "700000" ∷ codes "7000000000000000" ∷ []) written

short_done : done with_short ≡ []
unfolding request_row_in response_row_in reading_refusal initiate_refusal completion_refusal has_object
short_done = refl

short_served : served with_short ≡ read 13 (at 0x2100 0) (codes "30313233343536373839") ∷ []
unfolding request_row_in response_row_in reading_refusal initiate_refusal completion_refusal has_object
short_served = refl

-- ---- in blocks

-- in sub-blocks of one segment each: done with the fifteenth frame, the client's end
abbrev acknowledged : Scene
acknowledged = all_come (codes "A000210001000000" ∷ codes "A300000000000000" ∷ codes "A201010000000000" ∷ codes "A201010000000000" ∷ []) written

abbrev in_blocks : Scene
in_blocks = all_come (codes "A100000000000000" ∷ []) acknowledged

blocks_done : done in_blocks ≡ read 15 (at 0x2100 0) (codes "30313233343536373839") ∷ []
unfolding request_row_in response_row_in reading_refusal initiate_refusal completion_refusal has_object
blocks_done = refl

blocks_served : served in_blocks ≡ read 15 (at 0x2100 0) (codes "30313233343536373839") ∷ []
unfolding request_row_in response_row_in reading_refusal initiate_refusal completion_refusal has_object
blocks_served = refl

-- before it, it isn't done
acknowledged_done : done acknowledged ≡ []
unfolding request_row_in response_row_in reading_refusal initiate_refusal completion_refusal has_object
acknowledged_done = refl

acknowledged_served : served acknowledged ≡ []
unfolding request_row_in response_row_in reading_refusal initiate_refusal completion_refusal has_object
acknowledged_served = refl

-- the client supports the CRC (the server doesn't), and acknowledges one of two segments first; the second comes again. The device
-- writes other bytes to the entry between
abbrev sent_again : Scene
sent_again =
    all_come (codes "A2017F0000000000" ∷ codes "A2017F0000000000" ∷ codes "A100000000000000" ∷ [])
    (with_other (all_come (codes "A40021007F000000" ∷ codes "A300000000000000" ∷ []) written))

again_done : done sent_again ≡ read 16 (at 0x2100 0) (codes "30313233343536373839") ∷ []
unfolding request_row_in response_row_in reading_refusal initiate_refusal completion_refusal has_object
again_done = refl

again_served : served sent_again ≡ read 16 (at 0x2100 0) (codes "30313233343536373839") ∷ []
unfolding request_row_in response_row_in reading_refusal initiate_refusal completion_refusal has_object
again_served = refl

-- the channel drops it after its own end: with the client's end it is served whole, though the channel answers with an abort
abbrev ended_late : Scene
ended_late = all_come (codes "A100000000000000" ∷ []) (happens Abandoned acknowledged)

late_done : done ended_late ≡ read 15 (at 0x2100 0) (codes "30313233343536373839") ∷ []
unfolding request_row_in response_row_in reading_refusal initiate_refusal completion_refusal has_object
late_done = refl

late_served : served ended_late ≡ read 15 (at 0x2100 0) (codes "30313233343536373839") ∷ []
unfolding request_row_in response_row_in reading_refusal initiate_refusal completion_refusal has_object
late_served = refl

-- where it times out there, the abort comes before the client's end: it is neither
abbrev timed_out : Scene
timed_out = all_come (codes "A100000000000000" ∷ []) (happens Expired acknowledged)

timed_out_done : done timed_out ≡ []
unfolding request_row_in response_row_in reading_refusal initiate_refusal completion_refusal has_object
timed_out_done = refl

timed_out_served : served timed_out ≡ []
unfolding request_row_in response_row_in reading_refusal initiate_refusal completion_refusal has_object
timed_out_served = refl

-- the client ends it before the last acknowledgement: it is neither
abbrev ended_early : Scene
ended_early = all_come (codes "A000210001000000" ∷ codes "A300000000000000" ∷ codes "A201010000000000" ∷ codes "A100000000000000" ∷ []) written

early_done : done ended_early ≡ []
unfolding request_row_in response_row_in reading_refusal initiate_refusal completion_refusal has_object
early_done = refl

early_served : served ended_early ≡ []
unfolding request_row_in response_row_in reading_refusal initiate_refusal completion_refusal has_object
early_served = refl

-- the channel drops a download in blocks: explain takes the next request for a segment of it, and the channel serves it
abbrev after_blocks : Scene
after_blocks = all_come (codes "4017100000000000" ∷ []) (happens Abandoned (all_come (codes "2B171000E8030000" ∷ codes "C000210000000000" ∷ []) start))

after_blocks_done : done after_blocks ≡ []
unfolding request_row_in response_row_in reading_refusal initiate_refusal completion_refusal has_object
after_blocks_done = refl

after_blocks_served : served after_blocks ≡ read 6 (at 0x1017 0) (codes "E803") ∷ []
unfolding request_row_in response_row_in reading_refusal initiate_refusal completion_refusal has_object
after_blocks_served = refl

-- the ten bytes are written in blocks, and read: done with the thirteenth frame
abbrev blocks_read : Scene
blocks_read = all_come (codes "4000210000000000" ∷ codes "6000000000000000" ∷ codes "7000000000000000" ∷ []) in_blocks_written

blocks_read_done : done blocks_read ≡ read 13 (at 0x2100 0) (codes "30313233343536373839") ∷ []
unfolding request_row_in response_row_in reading_refusal initiate_refusal completion_refusal has_object
blocks_read_done = refl

blocks_read_served : served blocks_read ≡ read 13 (at 0x2100 0) (codes "30313233343536373839") ∷ []
unfolding request_row_in response_row_in reading_refusal initiate_refusal completion_refusal has_object
blocks_read_served = refl
