-- Worked recordings of a client: what explain says is done, and what the client reports.
use Rattle.std.proofs.Common.{◌≡◌, ℕ, true, false, List, [], ◌∷◌, Option, Some, None, reverse, refl, codes}
use Rattle.co_frame.specs.SdoRequests.{request_row_in}
use Rattle.co_frame.specs.SdoResponses.{response_row_in}
use Rattle.co_sdo_client.specs.declared.mode.Mode.TheVariants.{Plain, Segmented, Block}
use Rattle.co_sdo_client.specs.Calls.{Call, answers, since_first}
use Rattle.co_sdo_client.proofs.Reports.{download, upload, hex}
use Rattle.conode_explain_transfers.specs.declared.kinds.Direction.TheVariants.{Download, Upload}
use Rattle.conode_explain_laws.specs.Clients.{ClientInput, Came, Elapsed, events_of, open_sub_block, heard, Transferred, transfers_done, transfers_reported}
use Rattle.conode_explain_laws.specs.Downloads.{Complete}
use Rattle.conode_explain_laws.specs.Uploads.{uploads_done}

-- inputs, the first one first
abbrev done : Call → List ClientInput → List Transferred
done call inputs = transfers_done call (heard (λ n. n) call (reverse inputs))

abbrev reports : Call → List ClientInput → List Transferred
reports call inputs = transfers_reported (λ n. n) call (reverse inputs)

-- all uploads that explain says are done, those too that the client doesn't take
abbrev all_done : Call → List ClientInput → List Complete
all_done call inputs = uploads_done (heard (λ n. n) call (reverse inputs))

abbrev c : List ℕ → ClientInput
c digits = Came (hex digits)

abbrev read : ℕ → List ℕ → Transferred
read frame digits = record { frame = frame; direction = Upload; key = record { index = 0x2001; sub = 0 }; bytes = hex digits }

abbrev written : ℕ → List ℕ → Transferred
written frame digits = record { frame = frame; direction = Download; key = record { index = 0x2001; sub = 0 }; bytes = hex digits }

-- ---- uploads

-- two bytes come at once, with the second frame
abbrev expedited : List ClientInput
expedited = c (codes "4B012000E8030000") ∷ []

expedited_done : done (upload Plain 10) expedited ≡ read 2 (codes "E803") ∷ []
unfolding request_row_in response_row_in
expedited_done = refl

expedited_reported : reports (upload Plain 10) expedited ≡ read 2 (codes "E803") ∷ []
unfolding request_row_in response_row_in
expedited_reported = refl

-- into a room of two bytes, and of one: there the client gives it up with the bytes, which have come whole
room_reported : reports (upload Plain 2) expedited ≡ read 2 (codes "E803") ∷ []
unfolding request_row_in response_row_in
room_reported = refl

room_done : done (upload Plain 2) expedited ≡ read 2 (codes "E803") ∷ []
unfolding request_row_in response_row_in
room_done = refl

no_room_reported : reports (upload Plain 1) expedited ≡ []
unfolding request_row_in response_row_in
no_room_reported = refl

no_room_done : done (upload Plain 1) expedited ≡ []
unfolding request_row_in response_row_in
no_room_done = refl

no_room_all : all_done (upload Plain 1) expedited ≡ record { frame = 2; key = record { index = 0x2001; sub = 0 }; bytes = hex (codes "E803") } ∷ []
unfolding request_row_in response_row_in
no_room_all = refl

-- a client that asks for blocks doesn't take them at once, though they have come whole
at_once_reported : reports (upload Block 10) expedited ≡ []
unfolding request_row_in response_row_in
at_once_reported = refl

at_once_done : done (upload Block 10) expedited ≡ []
unfolding request_row_in response_row_in
at_once_done = refl

at_once_all : all_done (upload Block 10) expedited ≡ record { frame = 2; key = record { index = 0x2001; sub = 0 }; bytes = hex (codes "E803") } ∷ []
unfolding request_row_in response_row_in
at_once_all = refl

-- the answer of another entry
abbrev of_another : List ClientInput
of_another = c (codes "4B022000E8030000") ∷ c (codes "4B012000E8030000") ∷ []

another_done : done (upload Plain 10) of_another ≡ []
unfolding request_row_in response_row_in
another_done = refl

another_reported : reports (upload Plain 10) of_another ≡ []
unfolding request_row_in response_row_in
another_reported = refl

-- ten bytes come in segments, with the sixth frame
abbrev in_segments : List ClientInput
in_segments = c (codes "410120000A000000") ∷ c (codes "0030313233343536") ∷ Elapsed ∷ c (codes "1937383900000000") ∷ []

segments_done : done (upload Plain 10) in_segments ≡ read 6 (codes "30313233343536373839") ∷ []
unfolding request_row_in response_row_in
segments_done = refl

segments_reported : reports (upload Plain 10) in_segments ≡ read 6 (codes "30313233343536373839") ∷ []
unfolding request_row_in response_row_in
segments_reported = refl

-- into a room of nine bytes: its client gives it up as soon as the size is indicated; where none is, with the last segment
abbrev unsized : List ClientInput
unsized = c (codes "4001200000000000") ∷ c (codes "0030313233343536") ∷ c (codes "1937383900000000") ∷ []

unsized_reported : reports (upload Segmented 10) unsized ≡ read 6 (codes "30313233343536373839") ∷ []
unfolding request_row_in response_row_in
unsized_reported = refl

unsized_room : reports (upload Segmented 9) unsized ≡ []
unfolding request_row_in response_row_in
unsized_room = refl

unsized_done : done (upload Segmented 9) unsized ≡ []
unfolding request_row_in response_row_in
unsized_done = refl

unsized_all : all_done (upload Segmented 9) unsized ≡ record { frame = 6; key = record { index = 0x2001; sub = 0 }; bytes = hex (codes "30313233343536373839") } ∷ []
unfolding request_row_in response_row_in
unsized_all = refl

-- a frame of seven bytes among them: the client ignores it, and explain says that the transfer is irregular
abbrev with_short : List ClientInput
with_short = c (codes "410120000A000000") ∷ c (codes "00303132333435") ∷ c (codes "0030313233343536") ∷ c (codes "1937383900000000") ∷ []

with_short_done : done (upload Plain 10) with_short ≡ []
unfolding request_row_in response_row_in
with_short_done = refl

with_short_reported : reports (upload Plain 10) with_short ≡ read 7 (codes "30313233343536373839") ∷ []
unfolding request_row_in response_row_in
with_short_reported = refl

-- a segment that comes twice: the client gives it up with an abort
abbrev repeated : List ClientInput
repeated = c (codes "410120000A000000") ∷ c (codes "0030313233343536") ∷ c (codes "0030313233343536") ∷ c (codes "1937383900000000") ∷ []

repeated_done : done (upload Plain 10) repeated ≡ []
unfolding request_row_in response_row_in
repeated_done = refl

repeated_reported : reports (upload Plain 10) repeated ≡ []
unfolding request_row_in response_row_in
repeated_reported = refl

-- nine bytes, where ten were indicated: neither
abbrev short : List ClientInput
short = c (codes "410120000A000000") ∷ c (codes "0030313233343536") ∷ c (codes "1B37380000000000") ∷ []

short_done : done (upload Plain 10) short ≡ []
unfolding request_row_in response_row_in
short_done = refl

short_reported : reports (upload Plain 10) short ≡ []
unfolding request_row_in response_row_in
short_reported = refl

-- an answer after two ticks, and after three: the time is over then
abbrev in_time : List ClientInput
in_time = Elapsed ∷ Elapsed ∷ c (codes "4B012000E8030000") ∷ []

in_time_done : done (upload Plain 10) in_time ≡ read 2 (codes "E803") ∷ []
unfolding request_row_in response_row_in
in_time_done = refl

in_time_reported : reports (upload Plain 10) in_time ≡ read 2 (codes "E803") ∷ []
unfolding request_row_in response_row_in
in_time_reported = refl

late_done : done (upload Plain 10) (Elapsed ∷ in_time) ≡ []
unfolding request_row_in response_row_in
late_done = refl

late_reported : reports (upload Plain 10) (Elapsed ∷ in_time) ≡ []
unfolding request_row_in response_row_in
late_reported = refl

-- ---- uploads in blocks

-- ten bytes: done with the client's end, the eighth frame
abbrev in_blocks : List ClientInput
in_blocks = c (codes "C20120000A000000") ∷ c (codes "0130313233343536") ∷ c (codes "8237383900000000") ∷ c (codes "D100000000000000") ∷ []

blocks_done : done (upload Block 10) in_blocks ≡ read 8 (codes "30313233343536373839") ∷ []
unfolding request_row_in response_row_in
blocks_done = refl

blocks_reported : reports (upload Block 10) in_blocks ≡ read 8 (codes "30313233343536373839") ∷ []
unfolding request_row_in response_row_in
blocks_reported = refl

-- its second segment doesn't come, and the sub-block ends with the third: the first is acknowledged, and the others come again
abbrev lossy : List ClientInput
lossy =
    c (codes "C001200000000000") ∷ c (codes "0130313233343536") ∷ c (codes "8345464700000000")
    ∷ c (codes "013738393A3B3C3D") ∷ c (codes "8245464700000000") ∷ c (codes "D100000000000000") ∷ []

lossy_done : done (upload Block 20) lossy ≡ read 11 (codes "303132333435363738393A3B3C3D454647") ∷ []
unfolding request_row_in response_row_in
lossy_done = refl

lossy_reported : reports (upload Block 20) lossy ≡ read 11 (codes "303132333435363738393A3B3C3D454647") ∷ []
unfolding request_row_in response_row_in
lossy_reported = refl

-- a segment of a sub-block that comes twice: the client passes over it, and explain says that the transfer is irregular
abbrev twice : List ClientInput
twice = c (codes "C20120000A000000") ∷ c (codes "0130313233343536") ∷ c (codes "0130313233343536") ∷ c (codes "8237383900000000") ∷ c (codes "D100000000000000") ∷ []

twice_done : done (upload Block 10) twice ≡ []
unfolding request_row_in response_row_in
twice_done = refl

twice_reported : reports (upload Block 10) twice ≡ read 9 (codes "30313233343536373839") ∷ []
unfolding request_row_in response_row_in
twice_reported = refl

-- the third segment comes before the second, and again after it: the client takes the second
abbrev swapped : List ClientInput
swapped = c (codes "C001200000000000") ∷ c (codes "0130313233343536") ∷ c (codes "0345464748494A4B") ∷ c (codes "023738393A3B3C3D") ∷ c (codes "8345464700000000") ∷ c (codes "D100000000000000") ∷ []

swapped_done : done (upload Block 20) swapped ≡ []
unfolding request_row_in response_row_in
swapped_done = refl

swapped_reported : reports (upload Block 20) swapped ≡ read 10 (codes "303132333435363738393A3B3C3D454647") ∷ []
unfolding request_row_in response_row_in
swapped_reported = refl

-- a frame that is no segment, with number 0
abbrev with_zero : List ClientInput
with_zero = c (codes "C20120000A000000") ∷ c (codes "0000000000000000") ∷ c (codes "0130313233343536") ∷ c (codes "8237383900000000") ∷ c (codes "D100000000000000") ∷ []

with_zero_done : done (upload Block 10) with_zero ≡ []
unfolding request_row_in response_row_in
with_zero_done = refl

with_zero_reported : reports (upload Block 10) with_zero ≡ read 9 (codes "30313233343536373839") ∷ []
unfolding request_row_in response_row_in
with_zero_reported = refl

-- 80h is an abort there, and 81h the last segment
abbrev cut : List ClientInput
cut = c (codes "C20120000A000000") ∷ c (codes "8001200000000008") ∷ c (codes "8130313233343536") ∷ c (codes "C100000000000000") ∷ []

cut_done : done (upload Block 10) cut ≡ []
unfolding request_row_in response_row_in
cut_done = refl

cut_reported : reports (upload Block 10) cut ≡ []
unfolding request_row_in response_row_in
cut_reported = refl

-- ---- downloads

-- two bytes at once, with the answer
abbrev confirmed : List ClientInput
confirmed = c (codes "6001200000000000") ∷ []

at_once_written : done (download Plain (hex (codes "E803")) true) confirmed ≡ written 2 (codes "E803") ∷ []
unfolding request_row_in response_row_in
at_once_written = refl

at_once_told : reports (download Plain (hex (codes "E803")) true) confirmed ≡ written 2 (codes "E803") ∷ []
unfolding request_row_in response_row_in
at_once_told = refl

-- in segments the first answer isn't the last
begun_written : done (download Segmented (hex (codes "E803")) true) confirmed ≡ []
unfolding request_row_in response_row_in
begun_written = refl

begun_told : reports (download Segmented (hex (codes "E803")) true) confirmed ≡ []
unfolding request_row_in response_row_in
begun_told = refl

-- eight bytes in segments: with the sixth frame
abbrev segments_confirmed : List ClientInput
segments_confirmed = c (codes "6001200000000000") ∷ c (codes "2000000000000000") ∷ c (codes "3000000000000000") ∷ []

segments_written : done (download Plain (hex (codes "3031323334353637")) true) segments_confirmed ≡ written 6 (codes "3031323334353637") ∷ []
unfolding request_row_in response_row_in
segments_written = refl

segments_told : reports (download Plain (hex (codes "3031323334353637")) true) segments_confirmed ≡ written 6 (codes "3031323334353637") ∷ []
unfolding request_row_in response_row_in
segments_told = refl

-- no bytes: one segment
abbrev none_confirmed : List ClientInput
none_confirmed = c (codes "6001200000000000") ∷ c (codes "2000000000000000") ∷ []

none_written : done (download Plain [] false) none_confirmed ≡ written 4 [] ∷ []
unfolding request_row_in response_row_in
none_written = refl

none_told : reports (download Plain [] false) none_confirmed ≡ written 4 [] ∷ []
unfolding request_row_in response_row_in
none_told = refl

-- a frame of seven bytes among the answers: the client ignores it, and explain says that the transfer is irregular
abbrev short_confirmed : List ClientInput
short_confirmed = c (codes "6001200000000000") ∷ c (codes "20000000000000") ∷ c (codes "2000000000000000") ∷ c (codes "3000000000000000") ∷ []

short_written : done (download Plain (hex (codes "3031323334353637")) true) short_confirmed ≡ []
unfolding request_row_in response_row_in
short_written = refl

short_told : reports (download Plain (hex (codes "3031323334353637")) true) short_confirmed ≡ written 7 (codes "3031323334353637") ∷ []
unfolding request_row_in response_row_in
short_told = refl

-- in blocks: two segments, their acknowledge, the end and its confirmation, the seventh frame
abbrev blocks_confirmed : List ClientInput
blocks_confirmed = c (codes "A00120007F000000") ∷ c (codes "A2027F0000000000") ∷ c (codes "A100000000000000") ∷ []

blocks_written : done (download Block (hex (codes "3031323334353637")) true) blocks_confirmed ≡ written 7 (codes "3031323334353637") ∷ []
unfolding request_row_in response_row_in
blocks_written = refl

blocks_told : reports (download Block (hex (codes "3031323334353637")) true) blocks_confirmed ≡ written 7 (codes "3031323334353637") ∷ []
unfolding request_row_in response_row_in
blocks_told = refl

-- the second of them isn't taken, and is sent again
abbrev again_confirmed : List ClientInput
again_confirmed = c (codes "A00120007F000000") ∷ c (codes "A2017F0000000000") ∷ c (codes "A2017F0000000000") ∷ c (codes "A100000000000000") ∷ []

again_written : done (download Block (hex (codes "3031323334353637")) true) again_confirmed ≡ written 9 (codes "3031323334353637") ∷ []
unfolding request_row_in response_row_in
again_written = refl

again_told : reports (download Block (hex (codes "3031323334353637")) true) again_confirmed ≡ written 9 (codes "3031323334353637") ∷ []
unfolding request_row_in response_row_in
again_told = refl

-- more are acknowledged than were sent
abbrev too_many : List ClientInput
too_many = c (codes "A00120007F000000") ∷ c (codes "A2037F0000000000") ∷ c (codes "A100000000000000") ∷ []

too_many_written : done (download Block (hex (codes "3031323334353637")) true) too_many ≡ []
unfolding request_row_in response_row_in
too_many_written = refl

too_many_told : reports (download Block (hex (codes "3031323334353637")) true) too_many ≡ []
unfolding request_row_in response_row_in
too_many_told = refl

-- ---- the sub-block that a client is in, of an upload in blocks

abbrev its_frames : Call → List ClientInput → Option (List (List ℕ))
its_frames call inputs = open_sub_block call.mode call.job (since_first (answers (events_of (reverse inputs))))

abbrev asked : List ClientInput
asked = []

abbrev answered : List ClientInput
answered = c (codes "C20120000A000000") ∷ []

-- none before the answer to initiate; an empty one after it
not_yet : its_frames (upload Block 10) asked ≡ None
not_yet = refl

first_begins : its_frames (upload Block 10) answered ≡ Some []
first_begins = refl

-- none of an upload in segments, and of a download
in_segments_none : its_frames (upload Segmented 10) answered ≡ None
in_segments_none = refl

download_none : its_frames (download Block (hex (codes "E803")) true) (c (codes "A00120007F000000") ∷ []) ≡ None
download_none = refl

-- with its frames, the newest first
one_came : its_frames (upload Block 10) (c (codes "C20120000A000000") ∷ c (codes "0130313233343536") ∷ []) ≡ Some (hex (codes "0130313233343536") ∷ [])
one_came = refl

-- a last segment that isn't taken begins another one; the one that is taken ends the last
next_begins : its_frames (upload Block 10) (c (codes "C20120000A000000") ∷ c (codes "8530313233343536") ∷ []) ≡ Some []
next_begins = refl

last_ends : its_frames (upload Block 10) (c (codes "C20120000A000000") ∷ c (codes "8130313233343536") ∷ []) ≡ None
last_ends = refl

-- a frame that hasn't eight bytes is no event
short_is_none : events_of (c (codes "00303132333435") ∷ []) ≡ []
short_is_none = refl
