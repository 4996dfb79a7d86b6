-- What an answer and the end of a transfer are otherwise than prescribed and what they aren't, on both sides of each edge, computed from the definitions.
use Rattle.std.proofs.Common.{◌≡◌, ℕ, [], ◌∷◌, true, map, Option, Some, None, refl}
use Rattle.co_frame.specs.FrameContent.{FrameContent}
use Rattle.co_value.specs.declared.key.Key.{Key}
use Rattle.conode_explain_transfers.specs.declared.channel.Heard.{Heard}
use Rattle.conode_explain_transfers.specs.declared.ended.Ending.{Ending}
use Rattle.conode_explain_transfers.specs.declared.ended.Ending.TheVariants.{Aborted, CrcDiffers, Done, Irregular, SizeDiffers}
use Rattle.conode_explain_transfers.specs.declared.ended.Fault.{Fault}
use Rattle.conode_explain_transfers.specs.declared.ended.Fault.TheVariants as fault
use Rattle.conode_explain_transfers.specs.declared.kinds.Direction.{Direction}
use Rattle.conode_explain_transfers.specs.declared.kinds.Direction.TheVariants.{Download, Upload}
use Rattle.conode_explain_transfers.specs.declared.kinds.Protocol.{Protocol}
use Rattle.conode_explain_transfers.specs.declared.kinds.Protocol.TheVariants.{Block, Segmented}
use Rattle.conode_explain_transfers.specs.declared.kinds.Side.TheVariants.{Client, Server}
use Rattle.conode_explain_transfers.specs.declared.kinds.What.{What}
use Rattle.conode_explain_transfers.specs.declared.kinds.What.TheVariants.{Initiate, OutOfSequence, Part, Repeated, Segment, Unexpected}
use Rattle.conode_compare_transfers.specs.declared.breach.Breach.{Breach}
use Rattle.conode_compare_transfers.specs.declared.breach.Breach.TheVariants.{AbortKey, Crc, Form, Size, Toggle}
use Rattle.conode_compare_transfers.specs.declared.newest.Newest.{Newest}
use Rattle.conode_compare_transfers.specs.declared.newest.Newest.TheVariants.{Acknowledge, AllAcknowledged, Answer, Data, LastData, LaterAcknowledge, LaterData, Request}
use Rattle.conode_compare_transfers.specs.Breaches.{breach_at, ended_breach, server_breach}
use Rattle.conode_compare_transfers.specs.NewestFrames.{newest_after, newest_with}

abbrev key : Key
key = record { index = 0x1008; sub = 0 }

-- ---- turns

begins : newest_after Client Initiate None ≡ Some Request
unfolding newest_after
begins = refl

answered : newest_after Server Part (Some Request) ≡ Some Answer
unfolding newest_after
answered = refl

answered_twice : newest_after Server Part (Some Answer) ≡ None
unfolding newest_after
answered_twice = refl

asked : newest_after Client Part (Some Answer) ≡ Some Request
unfolding newest_after
asked = refl

asked_twice : newest_after Client Part (Some Request) ≡ None
unfolding newest_after
asked_twice = refl

-- the client acknowledges a block upload after its segments; of a block download the device does
upload_segment : newest_after Server (Segment 1) (Some Request) ≡ Some Data
unfolding newest_after
upload_segment = refl

segment_after_segment : newest_after Server (OutOfSequence 3 2) (Some Data) ≡ Some Data
unfolding newest_after
segment_after_segment = refl

upload_acknowledged : newest_after Client Part (Some Data) ≡ Some Acknowledge
unfolding newest_after
upload_acknowledged = refl

-- the new sub-block begins; or a segment of the one before is on its way
new_sub_block : newest_after Server (Segment 1) (Some Acknowledge) ≡ Some Data
unfolding newest_after
new_sub_block = refl

segment_after_acknowledge : newest_after Server (OutOfSequence 2 1) (Some Acknowledge) ≡ Some LaterData
unfolding newest_after
segment_after_acknowledge = refl

segment_later : newest_after Server (Segment 2) (Some LaterData) ≡ Some LaterData
unfolding newest_after
segment_later = refl

acknowledged_again : newest_after Client Part (Some LaterData) ≡ Some LaterAcknowledge
unfolding newest_after
acknowledged_again = refl

-- it may be of the sub-block before
segment_of_either : newest_after Server (Segment 1) (Some LaterAcknowledge) ≡ Some LaterData
unfolding newest_after
segment_of_either = refl

end_of_either : newest_after Server Part (Some LaterAcknowledge) ≡ Some Answer
unfolding newest_after
end_of_either = refl

number_of_either : map (server_breach LaterAcknowledge key Unexpected) (0 ∷ 0x80 ∷ 1 ∷ []) ≡ Some (Form key) ∷ Some (Form key) ∷ None ∷ []
number_of_either = refl

acknowledged_twice : newest_after Client Part (Some Acknowledge) ≡ None
unfolding newest_after
acknowledged_twice = refl

-- the end of the block upload
end_after_acknowledge : newest_after Server Part (Some Acknowledge) ≡ Some Answer
unfolding newest_after
end_after_acknowledge = refl

-- one on its way, which the new block size has no room for: nothing more is said
segment_on_its_way : newest_after Server Unexpected (Some Acknowledge) ≡ None
unfolding newest_after
segment_on_its_way = refl

download_segment : newest_after Client (Segment 2) (Some Request) ≡ Some Request
unfolding newest_after
download_segment = refl

-- after a frame out of its turn nothing is held against the device until the next initiate request
out_of_turn : newest_after Client Repeated (Some Answer) ≡ None
unfolding newest_after
out_of_turn = refl

stays_so : newest_after Client (Segment 1) None ≡ None
unfolding newest_after
stays_so = refl

-- ---- frames within a transfer

abbrev within : What → Heard
within what = record { what = what; of = Some key; ended = None }

abbrev answer : ℕ → FrameContent
answer first = record { id = 0x585; bytes = first ∷ 0 ∷ 0 ∷ 0 ∷ 0 ∷ 0 ∷ 0 ∷ 0 ∷ [] }

toggle : breach_at (Some Request) Server (within Repeated) (answer 0x10) ≡ Some (Toggle key)
unfolding breach_at
toggle = refl

-- another answer to the same request
toggle_again : breach_at (Some Answer) Server (within Repeated) (answer 0x10) ≡ None
unfolding breach_at
toggle_again = refl

toggle_of_client : breach_at (Some Request) Client (within Repeated) (answer 0x10) ≡ None
unfolding breach_at
toggle_of_client = refl

toggle_in_doubt : breach_at None Server (within Repeated) (answer 0x10) ≡ None
unfolding breach_at
toggle_in_doubt = refl

right_segment : breach_at (Some Request) Server (within Part) (answer 0x10) ≡ None
unfolding breach_at
right_segment = refl

form : breach_at (Some Request) Server (within Unexpected) (answer 0x20) ≡ Some (Form key)
unfolding breach_at
form = refl

-- a segment of a block with the number 0; and what may be the end of the block upload
block_number : server_breach Data key Unexpected 0 ≡ Some (Form key)
block_number = refl

block_end : server_breach Data key Unexpected 0xC1 ≡ None
block_end = refl

-- after an acknowledge too, where the sub-block's last segment is missing in the recording
block_end_early : server_breach Acknowledge key Unexpected 0xD5 ≡ None
block_end_early = refl

-- a number above the block size: in the first sub-block; after an acknowledge the segment may be of the sub-block before
above_size : server_breach Data key Unexpected 5 ≡ Some (Form key)
above_size = refl

above_smaller_size : server_breach Acknowledge key Unexpected 5 ≡ None
above_smaller_size = refl

above_smaller_size_last : server_breach LaterData key Unexpected 0x85 ≡ None
above_smaller_size_last = refl

-- none has the number 0
number_0 : server_breach Acknowledge key Unexpected 0 ≡ Some (Form key)
number_0 = refl

number_0_later : server_breach LaterData key Unexpected 0 ≡ Some (Form key)
number_0_later = refl

block_gap : server_breach Data key (OutOfSequence 3 2) 3 ≡ None
block_gap = refl

-- the last segment, c = 1; not where it may be of the sub-block before
last_segment : newest_with Server (Segment 3) (answer 0x83) (Some Data) ≡ Some (LastData 3)
unfolding newest_with newest_after
last_segment = refl

first_is_last : newest_with Server (Segment 1) (answer 0x81) (Some Acknowledge) ≡ Some (LastData 1)
unfolding newest_with newest_after
first_is_last = refl

not_last : newest_with Server (Segment 3) (answer 0x03) (Some Data) ≡ Some Data
unfolding newest_with newest_after
not_last = refl

last_of_either : newest_with Server (Segment 2) (answer 0x82) (Some LaterData) ≡ Some LaterData
unfolding newest_with newest_after
last_of_either = refl

-- the client has all of the upload, or asks for some of the sub-block again
all_acknowledged : newest_with Client Part (record { id = 0x605; bytes = 0xA2 ∷ 3 ∷ 4 ∷ [] }) (Some (LastData 3)) ≡ Some AllAcknowledged
unfolding newest_with newest_after
all_acknowledged = refl

some_acknowledged : newest_with Client Part (record { id = 0x605; bytes = 0xA2 ∷ 2 ∷ 4 ∷ [] }) (Some (LastData 3)) ≡ Some Acknowledge
unfolding newest_with newest_after
some_acknowledged = refl

-- then its end comes, and nothing else
end_of_all : newest_with Server Part (answer 0xC1) (Some AllAcknowledged) ≡ Some Answer
unfolding newest_with newest_after
end_of_all = refl

only_its_end : map (server_breach AllAcknowledged key Unexpected) (0x02 ∷ 0x20 ∷ 0xA1 ∷ 0xD5 ∷ []) ≡ Some (Form key) ∷ Some (Form key) ∷ Some (Form key) ∷ None ∷ []
only_its_end = refl

-- ---- ends

abbrev ended_by : Direction → Ending → Heard
ended_by direction ending = record {
  what = Part;
  of = None;
  ended = Some (record {
    key = key;
    direction = direction;
    protocol = Segmented;
    bytes = 9;
    first = record { items = [] };
    frames = 6;
    begun = 1;
    newest = 5;
    end = 6;
    ending = ending;
    fault = None;
  });
}

abbrev last : Direction → Ending → Option Breach
last direction ending = breach_at (Some Request) Server (ended_by direction ending) (answer 0x01)

size : last Upload (SizeDiffers 10) ≡ Some (Size key 10 9)
unfolding breach_at
size = refl

-- more bytes, where n = 0: up to 6 may be no data
padded : last Upload (SizeDiffers 3) ≡ None
unfolding breach_at
padded = refl

too_many : last Upload (SizeDiffers 2) ≡ Some (Size key 2 9)
unfolding breach_at
too_many = refl

not_padded : breach_at (Some Request) Server (ended_by Upload (SizeDiffers 8)) (answer 0x03) ≡ Some (Size key 8 9)
unfolding breach_at
not_padded = refl

-- the size of a download is the client's
size_of_download : last Download (SizeDiffers 10) ≡ None
unfolding breach_at
size_of_download = refl

crc : last Upload (CrcDiffers 0x1234 0x4321) ≡ Some (Crc key 0x1234 0x4321)
unfolding breach_at
crc = refl

crc_of_download : last Download (CrcDiffers 0x1234 0x4321) ≡ None
unfolding breach_at
crc_of_download = refl

done : last Upload (Done true) ≡ None
unfolding breach_at
done = refl

irregular : last Upload Irregular ≡ None
unfolding breach_at
irregular = refl

-- ---- aborts

abbrev abort_of : ℕ → ℕ → FrameContent
abort_of low sub = record { id = 0x585; bytes = 0x80 ∷ low ∷ 0x10 ∷ sub ∷ 0 ∷ 0 ∷ 0 ∷ 8 ∷ [] }

abbrev aborted : ℕ → FrameContent → Option Breach
aborted code frame = breach_at (Some Request) Server (ended_by Download (Aborted Server (record { 0 = code }))) frame

own_key : aborted 0x08000000 (abort_of 8 0) ≡ None
unfolding breach_at
own_key = refl

other_index : aborted 0x08000000 (abort_of 9 0) ≡ Some (AbortKey key)
unfolding breach_at
other_index = refl

other_sub : aborted 0x08000000 (abort_of 8 1) ≡ Some (AbortKey key)
unfolding breach_at
other_sub = refl

-- an unknown command may have no multiplexer
no_key : aborted 0x05040001 (abort_of 9 0) ≡ None
unfolding breach_at
no_key = refl

-- 0000:00 in answer to a frame without a multiplexer, whatever the code
abbrev refused : Newest → ℕ → FrameContent → Option Breach
refused newest frames frame = ended_breach newest frame (record {
  key = key;
  direction = Download;
  protocol = Segmented;
  bytes = 0;
  first = record { items = [] };
  frames = frames;
  begun = 1;
  newest = 1;
  end = 2;
  ending = Aborted Server (record { 0 = 0x08000000 });
  fault = None;
})

abbrev abort_of_none : ℕ → ℕ → ℕ → FrameContent
abort_of_none low high sub = record { id = 0x585; bytes = 0x80 ∷ low ∷ high ∷ sub ∷ 0 ∷ 0 ∷ 0 ∷ 8 ∷ [] }

-- two frames are the initiate request and the abort; of three the second is the client's
no_entry : map (λ frames. refused Request frames (abort_of_none 0 0 0)) (2 ∷ 3 ∷ []) ≡ Some (AbortKey key) ∷ None ∷ []
no_entry = refl

an_entry : refused Request 3 (abort_of_none 1 0 0) ∷ refused Request 3 (abort_of_none 0 1 0) ∷ refused Request 3 (abort_of_none 0 0 1) ∷ [] ≡ Some (AbortKey key) ∷ Some (AbortKey key) ∷ Some (AbortKey key) ∷ []
an_entry = refl

-- The newest frame is the device's: it answered, or it sends the segments that the client asked for.
knows_entry : map (λ newest. refused newest 9 (abort_of_none 0 0 0)) (Answer ∷ Data ∷ LastData 3 ∷ []) ≡ Some (AbortKey key) ∷ Some (AbortKey key) ∷ Some (AbortKey key) ∷ []
knows_entry = refl

-- the client acknowledged; a segment after that may have been on its way
asked_without_key : map (λ newest. refused newest 9 (abort_of_none 0 0 0)) (Acknowledge ∷ LaterData ∷ LaterAcknowledge ∷ AllAcknowledged ∷ []) ≡ None ∷ None ∷ None ∷ None ∷ []
asked_without_key = refl

asked_of_another : map (λ newest. refused newest 9 (abort_of_none 0 0 1)) (Acknowledge ∷ LaterData ∷ LaterAcknowledge ∷ AllAcknowledged ∷ []) ≡ Some (AbortKey key) ∷ Some (AbortKey key) ∷ Some (AbortKey key) ∷ Some (AbortKey key) ∷ []
asked_of_another = refl

-- A segment of a block download may be a request for a server that has given it up: of three frames the
-- second is the client's. Not after the server's answer, nor of another transfer.
abbrev in_blocks : Newest → Direction → Protocol → ℕ → Option Breach
in_blocks newest direction protocol frames = ended_breach newest (abort_of_none 9 0x20 1) (record {
  key = key;
  direction = direction;
  protocol = protocol;
  bytes = 0;
  first = record { items = [] };
  frames = frames;
  begun = 1;
  newest = 1;
  end = 2;
  ending = Aborted Server (record { 0 = 0x06020000 });
  fault = None;
})

next_segment : map (λ frames. in_blocks Request Download Block frames) (2 ∷ 3 ∷ 66 ∷ []) ≡ Some (AbortKey key) ∷ None ∷ None ∷ []
next_segment = refl

no_next_segment : in_blocks Answer Download Block 66 ∷ in_blocks Request Upload Block 66 ∷ in_blocks Request Download Segmented 66 ∷ [] ≡ Some (AbortKey key) ∷ Some (AbortKey key) ∷ Some (AbortKey key) ∷ []
no_next_segment = refl

-- An abort of what timed out may be of an earlier transfer where the initiate request is the newest of two
-- frames: not after an answer, nor after the client's next frame; and no other code.
abbrev timed_out_for : Newest → ℕ → ℕ → Option Breach
timed_out_for newest code frames = ended_breach newest (abort_of_none 9 0x20 1) (record {
  key = key;
  direction = Upload;
  protocol = Segmented;
  bytes = 0;
  first = record { items = [] };
  frames = frames;
  begun = 1;
  newest = 1;
  end = 2;
  ending = Aborted Server (record { 0 = code });
  fault = None;
})

crossed : timed_out_for Request 0x05040000 2 ≡ None
crossed = refl

not_crossed : timed_out_for Request 0x05040000 3 ∷ timed_out_for Answer 0x05040000 2 ∷ timed_out_for Request 0x08000000 2 ∷ timed_out_for Request 0x05030000 2 ∷ [] ≡ Some (AbortKey key) ∷ Some (AbortKey key) ∷ Some (AbortKey key) ∷ Some (AbortKey key) ∷ []
not_crossed = refl

by_client : breach_at (Some Answer) Client (ended_by Download (Aborted Client (record { 0 = 0x08000000 }))) (abort_of 9 0) ≡ None
unfolding breach_at
by_client = refl

-- An upload that the client refuses, by what was wrong with its data: after whichever frame, also where the size would be that of a
-- padded last segment. Not where the device aborts it.
abbrev refused_for : Newest → Ending → Option Fault → Option Breach
refused_for newest ending wrong = ended_breach newest (abort_of 8 0) (record {
  key = key;
  direction = Upload;
  protocol = Segmented;
  bytes = 7;
  first = record { items = [] };
  frames = 5;
  begun = 1;
  newest = 5;
  end = 6;
  ending = ending;
  fault = wrong;
})

abbrev by_its_client : Ending
by_its_client = Aborted Client (record { 0 = 0x06070012 })

refused_size : refused_for Answer by_its_client (Some (fault.Size 3 7)) ∷ refused_for Data by_its_client (Some (fault.Size 20 28)) ∷ [] ≡ Some (Size key 3 7) ∷ Some (Size key 20 28) ∷ []
refused_size = refl

refused_crc : refused_for Answer by_its_client (Some (fault.Crc 0x1234 0x4321)) ≡ Some (Crc key 0x1234 0x4321)
refused_crc = refl

refused_without_fault : refused_for Answer by_its_client None ∷ refused_for Answer (Aborted Server (record { 0 = 0x06070012 })) (Some (fault.Size 3 7)) ∷ [] ≡ None ∷ None ∷ []
refused_without_fault = refl
