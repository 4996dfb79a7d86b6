-- Requests that were taken for segments of a block download, and what their answers show (CiA 301, 7.2.4.3).
use Rattle.std.proofs.Common.{◌≡◌, ℕ, Bool, true, false, List, [], ◌∷◌, ◌++◌, refl, codes}
use Rattle.std.specs.Prelude.{is_some, map}
use Rattle.co_frame.specs.SdoRequests.{request_row_in}
use Rattle.co_frame.specs.SdoResponses.{response_row_in}
use Rattle.co_value.specs.declared.key.Key.{Key}
use Rattle.conode_explain_transfers.specs.declared.ended.Ending.TheVariants.{Done, Aborted, Interrupted}
use Rattle.conode_explain_transfers.specs.declared.kinds.Protocol.TheVariants.{Undecided, Expedited, Block}
use Rattle.conode_explain_transfers.specs.declared.kinds.Side.TheVariants.{Client, Server}
use Rattle.conode_explain_transfers.specs.declared.kinds.What.TheVariants.{Initiate, Part, Segment, OutOfSequence}
use Rattle.conode_explain_transfers.specs.Crc.{shifted, crc_with}
use Rattle.conode_explain_transfers.specs.Doubtful.{is_odd, shown_by}
use Rattle.conode_explain_transfers.specs.Followed.{nothing_heard}
use Rattle.conode_explain_transfers.proofs.Dialogues.{End, Sent, c, heard_all, hex, s, shown, unclear_from}

-- a segment of a block download
abbrev segment : ℕ → Sent
segment first = record { side = Client; bytes = first ∷ 0x41 ∷ 0x42 ∷ 0x43 ∷ 0x44 ∷ 0x45 ∷ 0x46 ∷ 0x47 ∷ [] }

-- 2100:00 is written in blocks of up to 127 segments, of which the first came
abbrev one_segment : List Sent
one_segment = c (codes "C000210000000000") ∷ s (codes "A00021007F000000") ∷ segment 1 ∷ []

abbrev left : ℕ → End
left frames = record { protocol = Block; bytes = 0; first = []; frames = frames; ending = Interrupted }

-- 1000:00 was read, in two frames
abbrev device_type : End
device_type = record { protocol = Expedited; bytes = 4; first = 0x94 ∷ 0x01 ∷ 0x02 ∷ 0x00 ∷ []; frames = 2; ending = Done false }

-- ---- which responses a request asks for

abbrev frees : List ℕ → List ℕ → Bool
frees request answer = is_some (shown_by (heard_all nothing_heard (one_segment ++ c request ∷ [])).transfer Server (hex answer))

-- expedited, in segments, the download in blocks; read, and read in blocks
requests : map (λ request. map (frees request) (codes "6000100000000000" ∷ codes "A00010007F000000" ∷ codes "4300100094010200" ∷ codes "4100100009000000" ∷ codes "C000100000000000" ∷ []))
    (codes "2300100001020304" ∷ codes "2100100009000000" ∷ codes "C000100000000000" ∷ codes "4000100000000000" ∷ codes "A00010007F000000" ∷ [])
    ≡ (true ∷ false ∷ false ∷ false ∷ false ∷ [])
    ∷ (true ∷ false ∷ false ∷ false ∷ false ∷ [])
    ∷ (false ∷ true ∷ false ∷ false ∷ false ∷ [])
    ∷ (false ∷ false ∷ true ∷ true ∷ false ∷ [])
    ∷ (false ∷ false ∷ true ∷ true ∷ true ∷ [])
    ∷ []
unfolding request_row_in response_row_in shifted crc_with
requests = refl

-- each part of the entry; and a segment that is no request
entries : map (frees (codes "4000100000000000")) (codes "4301100094010200" ∷ codes "4300110094010200" ∷ codes "4300100194010200" ∷ [])
    ++ map (λ request. frees request (codes "4300100094010200")) (codes "4100100000000000" ∷ codes "6000100000000000" ∷ [])
    ≡ false ∷ false ∷ false ∷ true ∷ false ∷ []
unfolding request_row_in response_row_in shifted crc_with
entries = refl

-- an abort of its entry, unless that is the download's; 0000:00, another entry, and a response without one
aborts : map (frees (codes "4000100000000000")) (codes "8000100000000206" ∷ codes "8000210000000206" ∷ codes "8000000000000206" ∷ codes "8001100000000206" ∷ codes "2000100000000000" ∷ [])
    ++ map (frees (codes "4000210000000000")) (codes "8000210000000206" ∷ codes "4F002100AA000000" ∷ [])
    ≡ true ∷ false ∷ false ∷ false ∷ false ∷ false ∷ true ∷ []
unfolding request_row_in response_row_in shifted crc_with
aborts = refl

-- a segment of zeros isn't the request of 0000:00 that an abort without an entry ends; an answer of 0000:00 is one to it
zeros : map (frees (codes "4000000000000000")) (codes "8000000003000405" ∷ codes "4300000094010200" ∷ []) ≡ false ∷ true ∷ []
unfolding request_row_in response_row_in shifted crc_with
zeros = refl

-- the frames that may be one
odd : map is_odd (Initiate ∷ Part ∷ Segment 64 ∷ OutOfSequence 64 2 ∷ []) ≡ false ∷ false ∷ false ∷ true ∷ []
odd = refl

-- ---- transfers

-- the answer is an abort: the transfer of the request was aborted, and the download was left
refused : shown (one_segment ++ c (codes "4000100000000000") ∷ s (codes "8000100000000206") ∷ [])
    ≡ record {
      whats = Initiate ∷ Part ∷ Segment 1 ∷ OutOfSequence 64 2 ∷ Part ∷ [];
      ends = left 3 ∷ record { protocol = Undecided; bytes = 0; first = []; frames = 2; ending = Aborted Server (record { 0 = 0x06020000 }) } ∷ [];
    }
unfolding request_row_in response_row_in shifted crc_with
refused = refl

-- the acknowledge of the sub-block comes late, before the answer
late_acknowledge : (shown (one_segment ++ c (codes "4000100000000000") ∷ s (codes "A2017F0000000000") ∷ s (codes "4300100094010200") ∷ [])).ends
    ≡ record { protocol = Block; bytes = 7; first = 0x41 ∷ 0x42 ∷ 0x43 ∷ 0x44 ∷ 0x45 ∷ 0x46 ∷ 0x47 ∷ []; frames = 4; ending = Interrupted } ∷ device_type ∷ []
unfolding request_row_in response_row_in shifted crc_with
late_acknowledge = refl

-- the download of the same entry begins again, and is done with the data that came since
again : shown (one_segment ++ c (codes "C200210009000000") ∷ s (codes "A00021007F000000") ∷ segment 1 ∷ segment 0x82 ∷ s (codes "A2027F0000000000") ∷ c (codes "D500000000000000") ∷ s (codes "A100000000000000") ∷ [])
    ≡ record {
      whats = Initiate ∷ Part ∷ Segment 1 ∷ OutOfSequence 66 2 ∷ Part ∷ Segment 1 ∷ Segment 2 ∷ Part ∷ Part ∷ Part ∷ [];
      ends = left 3
          ∷ record {
            protocol = Block;
            bytes = 9;
            first = 0x41 ∷ 0x42 ∷ 0x43 ∷ 0x44 ∷ 0x45 ∷ 0x46 ∷ 0x47 ∷ 0x41 ∷ 0x42 ∷ [];
            frames = 7;
            ending = Done false;
          }
          ∷ [];
    }
unfolding request_row_in response_row_in shifted crc_with
again = refl

-- of two requests the newest counts; and one after the last segment, where a segment came twice
newest : map (λ frames. (shown (one_segment ++ frames)).ends)
    ((c (codes "4001100000000000") ∷ c (codes "4000100000000000") ∷ s (codes "4300100094010200") ∷ [])
    ∷ (c (codes "4001100000000000") ∷ c (codes "4000100000000000") ∷ s (codes "4F01100000000000") ∷ [])
    ∷ (segment 1 ∷ segment 0x82 ∷ c (codes "4000100000000000") ∷ s (codes "4300100094010200") ∷ []) ∷ [])
    ≡ (left 4 ∷ device_type ∷ []) ∷ (left 5 ∷ []) ∷ (left 5 ∷ device_type ∷ []) ∷ []
unfolding request_row_in response_row_in shifted crc_with
newest = refl

-- once the next segment comes, the frame before it was one too
no_request : (shown (one_segment ++ c (codes "4000100000000000") ∷ segment 65 ∷ s (codes "4300100094010200") ∷ [])).ends ≡ left 5 ∷ []
unfolding request_row_in response_row_in shifted crc_with
no_request = refl

-- ---- entries of which nothing is known

abbrev unclear : List Sent → List Key
unclear frames = unclear_from nothing_heard frames

abbrev segments_to_31 : List Sent
segments_to_31 = map segment (1 ∷ 2 ∷ 3 ∷ 4 ∷ 5 ∷ 6 ∷ 7 ∷ 8 ∷ 9 ∷ 10 ∷ 11 ∷ 12 ∷ 13 ∷ 14 ∷ 15 ∷ 16 ∷ 17 ∷ 18 ∷ 19 ∷ 20 ∷ 21 ∷ 22 ∷ 23 ∷ 24 ∷ 25 ∷ 26 ∷ 27 ∷ 28 ∷ 29 ∷ 30 ∷ 31 ∷ [])

-- 20h is the next segment, 32, so it isn't known whether it is the request that is answered
next_segment : map (λ sent. (shown (c (codes "C000210000000000") ∷ s (codes "A00021007F000000") ∷ segments_to_31 ++ c (codes "2000100000000000") ∷ sent ∷ [])).ends)
    (s (codes "6000100000000000") ∷ s (codes "A2207F0000000000") ∷ [])
    ≡ (left 34 ∷ []) ∷ [] ∷ []
unfolding request_row_in response_row_in shifted crc_with
next_segment = refl

next_unclear : unclear (c (codes "C000210000000000") ∷ s (codes "A00021007F000000") ∷ segments_to_31 ++ c (codes "2000100000000000") ∷ s (codes "6000100000000000") ∷ [])
    ≡ record { index = 0x1000; sub = 0 } ∷ []
unfolding request_row_in response_row_in shifted crc_with
next_unclear = refl

-- a download that is accepted, in blocks or not, of an entry that the client's newest frame isn't of; an upload; the request's own answer
accepted : map (λ answer. unclear (one_segment ++ c (codes "2300100001020304") ∷ s answer ∷ []))
    (codes "6001180200000000" ∷ codes "A00118027F000000" ∷ codes "4301180294010200" ∷ codes "4101180209000000" ∷ codes "C001180200000000" ∷ codes "6000100000000000" ∷ codes "A2017F0000000000" ∷ [])
    ≡ (record { index = 0x1801; sub = 2 } ∷ []) ∷ (record { index = 0x1801; sub = 2 } ∷ []) ∷ [] ∷ [] ∷ [] ∷ [] ∷ [] ∷ []
unfolding request_row_in response_row_in shifted crc_with
accepted = refl

-- also where no request was heard, while another entry is read, and in a sub-block
elsewhere : map unclear
    ((s (codes "6001180200000000") ∷ []) ∷ (c (codes "4000100000000000") ∷ s (codes "6001180200000000") ∷ []) ∷ (one_segment ++ s (codes "6001180200000000") ∷ []) ∷ [])
    ≡ (record { index = 0x1801; sub = 2 } ∷ []) ∷ (record { index = 0x1801; sub = 2 } ∷ []) ∷ (record { index = 0x1801; sub = 2 } ∷ []) ∷ []
unfolding request_row_in response_row_in shifted crc_with
elsewhere = refl

-- of the entry that is written, again after that is done, and a segment of a block upload
expected : map unclear
    ((c (codes "2301180201000000") ∷ s (codes "6001180200000000") ∷ s (codes "6001180200000000") ∷ [])
    ∷ (c (codes "2101180209000000") ∷ s (codes "6001180200000000") ∷ s (codes "6001180200000000") ∷ [])
    ∷ (c (codes "A00010007F000000") ∷ s (codes "C200100009000000") ∷ c (codes "A300000000000000") ∷ s (codes "6001180200000000") ∷ [])
    ∷ [])
    ≡ [] ∷ [] ∷ [] ∷ []
unfolding request_row_in response_row_in shifted crc_with
expected = refl
