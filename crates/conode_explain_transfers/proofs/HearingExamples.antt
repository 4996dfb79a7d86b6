-- What is heard of transfers in a recording: answers to earlier requests, and frames that are missing (CiA 301, 7.2.4.3).
use Rattle.std.proofs.Common.{◌≡◌, ℕ, true, false, List, [], ◌∷◌, ◌++◌, refl, codes}
use Rattle.std.specs.Prelude.{Bool, map, Some, None}
use Rattle.std.specs.Option.{option_map_or}
use Rattle.co_frame.specs.SdoRequests.{request_row_in}
use Rattle.co_frame.specs.SdoResponses.{response_row_in}
use Rattle.conode_explain_transfers.specs.declared.ended.Ending.TheVariants.{Done, Aborted, Unanswered, Repeated as AskedAgain, Interrupted, Irregular}
use Rattle.conode_explain_transfers.specs.declared.kinds.Protocol.TheVariants.{Undecided, Expedited, Segmented, Block}
use Rattle.conode_explain_transfers.specs.declared.kinds.Side.TheVariants.{Client, Server}
use Rattle.conode_explain_transfers.specs.declared.kinds.What.{What}
use Rattle.conode_explain_transfers.specs.declared.kinds.What.TheVariants.{Initiate, Part, Segment, OutOfSequence, LastAgain, Overtaken, Unexpected, Stray, BegunBefore}
use Rattle.conode_explain_transfers.specs.Crc.{shifted, crc_with}
use Rattle.conode_explain_transfers.specs.Followed.{nothing_heard}
use Rattle.conode_explain_transfers.specs.Hearings.{begins_as_last, hearing, is_last_again, is_low_last, is_low_segment, named}
use Rattle.conode_explain_transfers.proofs.Dialogues.{End, Sent, Told, c, ends_with, heard_all, hex, s, shown}

-- a segment of a block download, of a block upload
abbrev segment : ℕ → Sent
segment first = record { side = Client; bytes = first ∷ 0x41 ∷ 0x42 ∷ 0x43 ∷ 0x44 ∷ 0x45 ∷ 0x46 ∷ 0x47 ∷ [] }

abbrev uploaded : ℕ → Sent
uploaded first = record { side = Server; bytes = first ∷ 0x41 ∷ 0x42 ∷ 0x43 ∷ 0x44 ∷ 0x45 ∷ 0x46 ∷ 0x47 ∷ [] }

-- ---- an abort of the server that answers an earlier request

-- 1A00:01 is written; the abort is of 1018:04
late_abort : shown (c (codes "23001A0108001620") ∷ s (codes "8018100411000906") ∷ s (codes "60001A0100000000") ∷ [])
    ≡ record {
      whats = Initiate ∷ Overtaken ∷ Part ∷ [];
      ends = record { protocol = Expedited; bytes = 4; first = 0x08 ∷ 0x00 ∷ 0x16 ∷ 0x20 ∷ []; frames = 2; ending = Done false } ∷ [];
    }
unfolding request_row_in response_row_in shifted crc_with
late_abort = refl

-- another low byte of the index, another high byte, another sub-index; 0000:01, 0001:00 and 0100:00
other_entries : map (λ abort. (shown (c (codes "4000210000000000") ∷ s abort ∷ [])).ends)
    (codes "8001210000000206" ∷ codes "8000200000000206" ∷ codes "8000210100000206" ∷ codes "8000000100000206" ∷ codes "8001000000000206" ∷ codes "8000010000000206" ∷ [])
    ≡ [] ∷ [] ∷ [] ∷ [] ∷ [] ∷ [] ∷ []
unfolding request_row_in response_row_in shifted crc_with
other_entries = refl

-- that of the entry, and 0000:00, which many devices send; so of 81h, which isn't as CiA 301 has it
own_aborts : map (λ abort. (shown (c (codes "4000210000000000") ∷ s abort ∷ [])).ends) (codes "8000210000000206" ∷ codes "8000000000000206" ∷ codes "8100210000000206" ∷ codes "8100000000000206" ∷ [])
    ≡ (record { protocol = Undecided; bytes = 0; first = []; frames = 2; ending = Aborted Server (record { 0 = 0x06020000 }) } ∷ [])
    ∷ (record { protocol = Undecided; bytes = 0; first = []; frames = 2; ending = Aborted Server (record { 0 = 0x06020000 }) } ∷ [])
    ∷ (record { protocol = Undecided; bytes = 0; first = []; frames = 2; ending = Aborted Server (record { 0 = 0x06020000 }) } ∷ [])
    ∷ (record { protocol = Undecided; bytes = 0; first = []; frames = 2; ending = Aborted Server (record { 0 = 0x06020000 }) } ∷ [])
    ∷ []
unfolding request_row_in response_row_in shifted crc_with
own_aborts = refl

-- once the client went on, and once the response came, it ends the transfer, as the client's own abort does at once
not_late : map (λ frames. (shown (c (codes "4000210000000000") ∷ frames)).ends)
    ((c (codes "6000000000000000") ∷ s (codes "8001210000000206") ∷ []) ∷ (s (codes "4100210009000000") ∷ s (codes "8001210000000206") ∷ []) ∷ (c (codes "8001210000000206") ∷ []) ∷ [])
    ≡ (record { protocol = Undecided; bytes = 0; first = []; frames = 3; ending = Aborted Server (record { 0 = 0x06020000 }) } ∷ [])
    ∷ (record { protocol = Segmented; bytes = 0; first = []; frames = 3; ending = Aborted Server (record { 0 = 0x06020000 }) } ∷ [])
    ∷ (record { protocol = Undecided; bytes = 0; first = []; frames = 2; ending = Aborted Client (record { 0 = 0x06020000 }) } ∷ [])
    ∷ []
unfolding request_row_in response_row_in shifted crc_with
not_late = refl

-- and where the request may be a segment: 41h after 40h
not_late_after_segment : (shown (c (codes "4000210000000000") ∷ c (codes "4101210000000000") ∷ s (codes "8000210000000206") ∷ [])).ends
    ≡ record { protocol = Undecided; bytes = 0; first = []; frames = 2; ending = Aborted Server (record { 0 = 0x06020000 }) } ∷ []
unfolding request_row_in response_row_in shifted crc_with
not_late_after_segment = refl

-- the device may have meant this request: where it is left then, it isn't said that it had no answer. After another late answer it is
abort_or_answer : map (λ answer. (shown (c (codes "4005210000000000") ∷ s answer ∷ c (codes "4000100000000000") ∷ [])).ends) (codes "8000210011000906" ∷ codes "A100000000000000" ∷ [])
    ≡ (record { protocol = Undecided; bytes = 0; first = []; frames = 1; ending = Interrupted } ∷ [])
    ∷ (record { protocol = Undecided; bytes = 0; first = []; frames = 1; ending = Unanswered } ∷ [])
    ∷ []
unfolding request_row_in response_row_in shifted crc_with
abort_or_answer = refl

-- the same request comes again: after such an abort, and where a frame didn't go on, it isn't said that it had no answer
again_after_abort : (shown (c (codes "4000200500000000") ∷ s (codes "8000200011000906") ∷ c (codes "4000200500000000") ∷ s (codes "4B00200501000000") ∷ [])).ends
    ≡ record { protocol = Undecided; bytes = 0; first = []; frames = 1; ending = Interrupted }
    ∷ record { protocol = Expedited; bytes = 2; first = 0x01 ∷ 0x00 ∷ []; frames = 2; ending = Done false } ∷ []
unfolding request_row_in response_row_in shifted crc_with
again_after_abort = refl

again_after : map (λ frames. (shown (c (codes "A40021007F000000") ∷ frames ++ c (codes "A40021007F000000") ∷ [])).ends)
    ([] ∷ (s (codes "A100000000000000") ∷ []) ∷ (s (codes "0141424344454647") ∷ []) ∷ (s (codes "8000200011000906") ∷ s (codes "A100000000000000") ∷ []) ∷ [])
    ≡ (record { protocol = Block; bytes = 0; first = []; frames = 1; ending = AskedAgain } ∷ [])
    ∷ (record { protocol = Block; bytes = 0; first = []; frames = 1; ending = AskedAgain } ∷ [])
    ∷ (record { protocol = Block; bytes = 0; first = []; frames = 2; ending = Interrupted } ∷ [])
    ∷ (record { protocol = Block; bytes = 0; first = []; frames = 1; ending = Interrupted } ∷ [])
    ∷ []
unfolding request_row_in response_row_in shifted crc_with
again_after = refl

-- a request whose first byte is one higher is no segment after it
no_segment_after_answer : shown (c (codes "2000200000000000") ∷ s (codes "2000000000000000") ∷ c (codes "210120010E000000") ∷ s (codes "6001200100000000") ∷ c (codes "8001200100000405") ∷ [])
    ≡ record {
      whats = Initiate ∷ Overtaken ∷ Initiate ∷ Part ∷ Part ∷ [];
      ends = record { protocol = Segmented; bytes = 0; first = []; frames = 1; ending = Unanswered }
          ∷ record { protocol = Segmented; bytes = 0; first = []; frames = 3; ending = Aborted Client (record { 0 = 0x05040000 }) } ∷ [];
    }
unfolding request_row_in response_row_in shifted crc_with
no_segment_after_answer = refl

-- nothing came; an answer without a key, an abort, the last segment of an upload, an answer of another entry
no_segment_after : map (λ frames. (shown (c (codes "2000200000000000") ∷ frames ++ c (codes "210120010E000000") ∷ [])).ends)
    ([] ∷ (s (codes "3000000000000000") ∷ []) ∷ (s (codes "8018100411000906") ∷ []) ∷ (uploaded 0x84 ∷ []) ∷ (s (codes "6000100000000000") ∷ []) ∷ [])
    ≡ []
    ∷ (record { protocol = Segmented; bytes = 0; first = []; frames = 1; ending = Unanswered } ∷ [])
    ∷ (record { protocol = Segmented; bytes = 0; first = []; frames = 1; ending = Interrupted } ∷ [])
    ∷ (record { protocol = Segmented; bytes = 0; first = []; frames = 1; ending = Unanswered } ∷ [])
    ∷ (record { protocol = Segmented; bytes = 0; first = []; frames = 1; ending = Unanswered } ∷ [])
    ∷ []
unfolding request_row_in response_row_in shifted crc_with
no_segment_after = refl

-- the last segment of a block upload that was given up, while 2100:00 is read, and written in blocks
late_last : map (λ request. (shown (c request ∷ uploaded 0x84 ∷ [])).whats) (codes "4000210000000000" ∷ codes "C000210000000000" ∷ []) ≡ (Initiate ∷ Segment 4 ∷ []) ∷ (Initiate ∷ Segment 4 ∷ []) ∷ []
unfolding request_row_in response_row_in shifted crc_with
late_last = refl

late_last_done : shown (c (codes "4000210000000000") ∷ uploaded 0x84 ∷ s (codes "4F002100AA000000") ∷ [])
    ≡ record {
      whats = Initiate ∷ Segment 4 ∷ Part ∷ [];
      ends = record { protocol = Expedited; bytes = 1; first = 0xAA ∷ []; frames = 2; ending = Done false } ∷ [];
    }
unfolding request_row_in response_row_in shifted crc_with
late_last_done = refl

-- ---- other answers to an earlier request

-- 2100:00 is read: they aren't counted, and the transfer is done
abbrev answered_late : Told
answered_late = record {
  whats = Initiate ∷ Overtaken ∷ Part ∷ [];
  ends = record { protocol = Expedited; bytes = 1; first = 0xAA ∷ []; frames = 2; ending = Done false } ∷ [];
}

late_answers : map (λ answer. shown (c (codes "4000210000000000") ∷ s answer ∷ s (codes "4F002100AA000000") ∷ []))
    (codes "A100000000000000" ∷ codes "A2047F0000000000" ∷ codes "C500000000000000" ∷ codes "2000000000000000" ∷ codes "0031323334353637" ∷ [])
    ≡ answered_late ∷ answered_late ∷ answered_late ∷ answered_late ∷ answered_late ∷ []
unfolding request_row_in response_row_in shifted crc_with
late_answers = refl

-- one that is no response, and one after the client went on
odd_answers : map (λ frames. (shown (c (codes "4000210000000000") ∷ frames)).whats) ((s (codes "E000000000000000") ∷ []) ∷ (c (codes "6000000000000000") ∷ s (codes "A100000000000000") ∷ []) ∷ [])
    ≡ (Initiate ∷ Unexpected ∷ []) ∷ (Initiate ∷ Unexpected ∷ Unexpected ∷ []) ∷ []
unfolding request_row_in response_row_in shifted crc_with
odd_answers = refl

-- a segment may be of a block upload; of a block download it isn't. A1h is of neither
late_segments : map (λ frames. (shown frames).whats)
    ((c (codes "A00021007F000000") ∷ s (codes "0031323334353637") ∷ []) ∷ (c (codes "C000210000000000") ∷ s (codes "0031323334353637") ∷ [])
    ∷ (c (codes "A00021007F000000") ∷ s (codes "A100000000000000") ∷ []) ∷ (c (codes "C000210000000000") ∷ s (codes "A100000000000000") ∷ []) ∷ [])
    ≡ (Initiate ∷ Unexpected ∷ []) ∷ (Initiate ∷ Overtaken ∷ []) ∷ (Initiate ∷ Overtaken ∷ []) ∷ (Initiate ∷ Overtaken ∷ []) ∷ []
unfolding request_row_in response_row_in shifted crc_with
late_segments = refl

-- an answer of the same entry is awaited by its protocol: here a download is acknowledged, an upload answered at once and in segments, and a
-- block download and a block upload answered; to an upload, two downloads, a block upload, which may be answered by another one, and a
-- block download
abbrev answered : List ℕ → List (List What)
answered request =
    map (λ answer. (shown (c request ∷ s answer ∷ [])).whats)
    (codes "6000210000000000" ∷ codes "4F002100AA000000" ∷ codes "4100210009000000" ∷ codes "A00021007F000000" ∷ codes "C000210000000000" ∷ [])

answers_by_request : map answered (codes "4000210000000000" ∷ codes "2F002100AA000000" ∷ codes "2100210009000000" ∷ codes "A00021007F000000" ∷ codes "C000210000000000" ∷ [])
    ≡ ((Initiate ∷ Overtaken ∷ []) ∷ (Initiate ∷ Part ∷ []) ∷ (Initiate ∷ Part ∷ []) ∷ (Initiate ∷ Overtaken ∷ []) ∷ (Initiate ∷ Overtaken ∷ []) ∷ [])
    ∷ ((Initiate ∷ Part ∷ []) ∷ (Initiate ∷ Overtaken ∷ []) ∷ (Initiate ∷ Overtaken ∷ []) ∷ (Initiate ∷ Overtaken ∷ []) ∷ (Initiate ∷ Overtaken ∷ []) ∷ [])
    ∷ ((Initiate ∷ Part ∷ []) ∷ (Initiate ∷ Overtaken ∷ []) ∷ (Initiate ∷ Overtaken ∷ []) ∷ (Initiate ∷ Overtaken ∷ []) ∷ (Initiate ∷ Overtaken ∷ []) ∷ [])
    ∷ ((Initiate ∷ Overtaken ∷ []) ∷ (Initiate ∷ Part ∷ []) ∷ (Initiate ∷ Part ∷ []) ∷ (Initiate ∷ Overtaken ∷ []) ∷ (Initiate ∷ Part ∷ []) ∷ [])
    ∷ ((Initiate ∷ Overtaken ∷ []) ∷ (Initiate ∷ Overtaken ∷ []) ∷ (Initiate ∷ Overtaken ∷ []) ∷ (Initiate ∷ Part ∷ []) ∷ (Initiate ∷ Overtaken ∷ []) ∷ [])
    ∷ []
unfolding request_row_in response_row_in shifted crc_with
answers_by_request = refl

-- 2100:00 is written, without an answer in time, and read back: the acknowledge comes before what was read
read_back : shown (c (codes "2B00210001000000") ∷ c (codes "4000210000000000") ∷ s (codes "6000210000000000") ∷ s (codes "4B00210001000000") ∷ [])
    ≡ record {
      whats = Initiate ∷ Initiate ∷ Overtaken ∷ Part ∷ [];
      ends = record { protocol = Expedited; bytes = 0; first = []; frames = 1; ending = Unanswered }
          ∷ record { protocol = Expedited; bytes = 2; first = 0x01 ∷ 0x00 ∷ []; frames = 2; ending = Done false } ∷ [];
    }
unfolding request_row_in response_row_in shifted crc_with
read_back = refl

-- ---- an answer to another request in a sub-block of a download

abbrev one_segment : List Sent
one_segment = c (codes "C000210000000000") ∷ s (codes "A00021007F000000") ∷ segment 1 ∷ []

-- the client gave the download up, and reads 1000:00: 40h is segment 64 until it is answered
left_download : shown (one_segment ++ c (codes "4000100000000000") ∷ s (codes "4300100094010200") ∷ c (codes "4000210000000000") ∷ s (codes "4F002100AA000000") ∷ [])
    ≡ record {
      whats = Initiate ∷ Part ∷ Segment 1 ∷ OutOfSequence 64 2 ∷ Part ∷ Initiate ∷ Part ∷ [];
      ends = record { protocol = Block; bytes = 0; first = []; frames = 3; ending = Interrupted }
          ∷ record { protocol = Expedited; bytes = 4; first = 0x94 ∷ 0x01 ∷ 0x02 ∷ 0x00 ∷ []; frames = 2; ending = Done false }
          ∷ record { protocol = Expedited; bytes = 1; first = 0xAA ∷ []; frames = 2; ending = Done false } ∷ [];
    }
unfolding request_row_in response_row_in shifted crc_with
left_download = refl

-- it falls back to another protocol for the same entry
left_for_same : shown (c (codes "C600200015000000") ∷ s (codes "A40020007F000000") ∷ segment 1 ∷ c (codes "2F00200005000000") ∷ s (codes "6000200000000000") ∷ c (codes "4000200000000000") ∷ s (codes "4F00200005000000") ∷ [])
    ≡ record {
      whats = Initiate ∷ Part ∷ Segment 1 ∷ OutOfSequence 47 2 ∷ Part ∷ Initiate ∷ Part ∷ [];
      ends = record { protocol = Block; bytes = 0; first = []; frames = 3; ending = Interrupted }
          ∷ record { protocol = Expedited; bytes = 1; first = 0x05 ∷ []; frames = 2; ending = Done false }
          ∷ record { protocol = Expedited; bytes = 1; first = 0x05 ∷ []; frames = 2; ending = Done false } ∷ [];
    }
unfolding request_row_in response_row_in shifted crc_with
left_for_same = refl

abbrev left : ℕ → List End
left frames = record { protocol = Block; bytes = 0; first = []; frames = frames; ending = Interrupted } ∷ []

-- 40h is segment 64
abbrev with_request : List Sent
with_request = one_segment ++ c (codes "4000100000000000") ∷ []

-- each response to initiate, which doesn't answer that request; of a block download each part of the entry; and of the entry all others
over : map (λ answer. (shown (with_request ++ s answer ∷ [])).ends)
    (codes "6000100000000000" ∷ codes "4301100094010200" ∷ codes "4101100009000000" ∷ codes "A00010007F000000" ∷ codes "C000100000000000"
    ∷ codes "A00121007F000000" ∷ codes "A00020007F000000" ∷ codes "A00021017F000000"
    ∷ codes "6000210000000000" ∷ codes "4F002100AA000000" ∷ codes "4100210009000000" ∷ codes "C000210000000000" ∷ [])
    ≡ left 4 ∷ left 4 ∷ left 4 ∷ left 4 ∷ left 4 ∷ left 4 ∷ left 4 ∷ left 4 ∷ left 4 ∷ left 4 ∷ left 4 ∷ left 4 ∷ []
unfolding request_row_in response_row_in shifted crc_with
over = refl

-- its own one, which may be in the recording twice, and other responses
not_over : map (λ answer. (shown (with_request ++ s answer ∷ [])).ends)
    (codes "A00021007F000000" ∷ codes "A400210004000000" ∷ codes "A2017F0000000000" ∷ codes "2000000000000000" ∷ codes "0031323334353637" ∷ [])
    ≡ [] ∷ [] ∷ [] ∷ [] ∷ [] ∷ []
unfolding request_row_in response_row_in shifted crc_with
not_over = refl

-- 1 and 31 look like no request, 32 and 64 do; A0h too, after missing ones
looks_like_request : map (λ first. (shown (c (codes "C000210000000000") ∷ s (codes "A00021007F000000") ∷ segment first ∷ s (codes "4300100094010200") ∷ [])).ends)
    (1 ∷ 31 ∷ 32 ∷ 64 ∷ 0x81 ∷ 0x9F ∷ 0xA0 ∷ [])
    ≡ [] ∷ [] ∷ left 3 ∷ left 3 ∷ [] ∷ [] ∷ left 3 ∷ []
unfolding request_row_in response_row_in shifted crc_with
looks_like_request = refl

abbrev segments_to_31 : List Sent
segments_to_31 = map segment (1 ∷ 2 ∷ 3 ∷ 4 ∷ 5 ∷ 6 ∷ 7 ∷ 8 ∷ 9 ∷ 10 ∷ 11 ∷ 12 ∷ 13 ∷ 14 ∷ 15 ∷ 16 ∷ 17 ∷ 18 ∷ 19 ∷ 20 ∷ 21 ∷ 22 ∷ 23 ∷ 24 ∷ 25 ∷ 26 ∷ 27 ∷ 28 ∷ 29 ∷ 30 ∷ 31 ∷ [])

-- the last one is A0h, which begins as a request does, or A1h: none is missing; and 31 comes twice
over_after_last : map (λ frames. (shown (c (codes "C000210000000000") ∷ s (codes "A00021007F000000") ∷ segments_to_31 ++ frames ++ s (codes "4300100094010200") ∷ [])).ends)
    ((segment 0xA0 ∷ []) ∷ (segment 32 ∷ segment 0xA1 ∷ []) ∷ (segment 31 ∷ segment 0xA1 ∷ []) ∷ [])
    ≡ left 34 ∷ [] ∷ left 35 ∷ []
unfolding request_row_in response_row_in shifted crc_with
over_after_last = refl

-- the numbers of last segments that begin as the request of a block transfer does: 32, 36, .., 60, and 64, 66, .., 94
last_requests : map begins_as_last (32 ∷ 33 ∷ 34 ∷ 36 ∷ 37 ∷ 61 ∷ 62 ∷ 64 ∷ 65 ∷ 66 ∷ 67 ∷ 95 ∷ 96 ∷ 97 ∷ 113 ∷ [])
    ≡ false ∷ true ∷ false ∷ false ∷ true ∷ true ∷ false ∷ false ∷ true ∷ false ∷ true ∷ true ∷ false ∷ false ∷ false ∷ []
last_requests = refl

-- an answer to a request before the download is late, or comes twice: the download isn't left
late_in_sub_block : shown (c (codes "C600210015000000") ∷ s (codes "A40021007F000000") ∷ s (codes "4300100092010200") ∷ segment 1 ∷ segment 2 ∷ segment 0x83 ∷ s (codes "A2037F0000000000") ∷ c (codes "C15C8B0000000000") ∷ s (codes "A100000000000000") ∷ [])
    ≡ record {
      whats = Initiate ∷ Part ∷ Unexpected ∷ Segment 1 ∷ Segment 2 ∷ Segment 3 ∷ Part ∷ Part ∷ Part ∷ [];
      ends = record {
        protocol = Block;
        bytes = 21;
        first = 0x41 ∷ 0x42 ∷ 0x43 ∷ 0x44 ∷ 0x45 ∷ 0x46 ∷ 0x47 ∷ 0x41 ∷ 0x42 ∷ 0x43 ∷ 0x44 ∷ 0x45 ∷ 0x46 ∷ 0x47 ∷ 0x41 ∷ 0x42 ∷ 0x43 ∷ 0x44 ∷ 0x45 ∷ 0x46 ∷ 0x47 ∷ [];
        frames = 9;
        ending = Irregular;
      }
          ∷ [];
    }
unfolding request_row_in response_row_in shifted crc_with
late_in_sub_block = refl

-- in a sub-block of an upload it is a segment, and after the last acknowledge of a download it is of none
elsewhere : map (λ frames. (shown frames).whats)
    ((c (codes "A00021007F000000") ∷ s (codes "C000210000000000") ∷ c (codes "A300000000000000") ∷ s (codes "4300100094010200") ∷ [])
    ∷ (c (codes "C000210000000000") ∷ s (codes "A00021007F000000") ∷ segment 0x81 ∷ s (codes "A2017F0000000000") ∷ s (codes "4300100094010200") ∷ c (codes "C100000000000000") ∷ []) ∷ [])
    ≡ (Initiate ∷ Part ∷ Part ∷ OutOfSequence 67 1 ∷ []) ∷ (Initiate ∷ Part ∷ Segment 1 ∷ Part ∷ Unexpected ∷ Part ∷ []) ∷ []
unfolding request_row_in response_row_in shifted crc_with
elsewhere = refl

-- ---- segments by their first byte

low_segments : map (λ first. is_low_segment (uploaded first).bytes) (0 ∷ 1 ∷ 31 ∷ 32 ∷ 127 ∷ 0x80 ∷ 0x81 ∷ 0x9F ∷ 0xA0 ∷ 0xFF ∷ [])
    ≡ false ∷ true ∷ true ∷ false ∷ false ∷ false ∷ true ∷ true ∷ false ∷ false ∷ []
low_segments = refl

low_last : map (λ first. is_low_last (uploaded first).bytes) (0 ∷ 1 ∷ 31 ∷ 32 ∷ 127 ∷ 0x80 ∷ 0x81 ∷ 0x9F ∷ 0xA0 ∷ 0xFF ∷ [])
    ≡ false ∷ false ∷ false ∷ false ∷ false ∷ false ∷ true ∷ true ∷ false ∷ false ∷ []
low_last = refl

short_segment : map is_low_segment (hex (codes "81414243444546") ∷ hex (codes "814142434445464748") ∷ []) ≡ false ∷ false ∷ []
short_segment = refl

-- ---- where no transfer is open, 81h to 9Fh is no abort

alone : map (λ frame. (shown (frame ∷ [])).whats) (uploaded 0x84 ∷ segment 0x84 ∷ uploaded 0x80 ∷ segment 0x80 ∷ uploaded 4 ∷ [])
    ≡ (Segment 4 ∷ []) ∷ (Segment 4 ∷ []) ∷ (BegunBefore ∷ []) ∷ (BegunBefore ∷ []) ∷ (BegunBefore ∷ []) ∷ []
unfolding request_row_in response_row_in shifted crc_with
alone = refl

-- of a block upload whose request is missing, after another transfer
request_missing : shown (c (codes "4000210000000000") ∷ s (codes "4F002100AA000000") ∷ s (codes "C600210009000000") ∷ c (codes "A300000000000000") ∷ uploaded 1 ∷ uploaded 0x82 ∷ c (codes "A2027F0000000000") ∷ [])
    ≡ record {
      whats = Initiate ∷ Part ∷ Stray ∷ Stray ∷ Stray ∷ Segment 2 ∷ Stray ∷ [];
      ends = record { protocol = Expedited; bytes = 1; first = 0xAA ∷ []; frames = 2; ending = Done false } ∷ [];
    }
unfolding request_row_in response_row_in shifted crc_with
request_missing = refl

-- ---- the start of a block upload is missing

-- two segments, nine bytes
start_missing : shown (c (codes "A00021007F000000") ∷ s (codes "C200210009000000") ∷ uploaded 1 ∷ uploaded 0x82 ∷ c (codes "A2027F0000000000") ∷ s (codes "D500000000000000") ∷ c (codes "A100000000000000") ∷ [])
    ≡ record {
      whats = Initiate ∷ Part ∷ Segment 1 ∷ Segment 2 ∷ Part ∷ Part ∷ Part ∷ [];
      ends = record {
        protocol = Block;
        bytes = 9;
        first = 0x41 ∷ 0x42 ∷ 0x43 ∷ 0x44 ∷ 0x45 ∷ 0x46 ∷ 0x47 ∷ 0x41 ∷ 0x42 ∷ [];
        frames = 7;
        ending = Irregular;
      }
          ∷ [];
    }
unfolding request_row_in response_row_in shifted crc_with
start_missing = refl

-- the only segment; the first ones are missing too; 0 and 32 are none, and a client sends none
first_segments : map (λ frame. (shown (c (codes "A00021001F000000") ∷ s (codes "C000210000000000") ∷ frame ∷ [])).whats)
    (uploaded 0x81 ∷ uploaded 31 ∷ uploaded 0 ∷ uploaded 32 ∷ segment 1 ∷ [])
    ≡ (Initiate ∷ Part ∷ Segment 1 ∷ []) ∷ (Initiate ∷ Part ∷ OutOfSequence 31 1 ∷ []) ∷ (Initiate ∷ Part ∷ Unexpected ∷ []) ∷ (Initiate ∷ Part ∷ Unexpected ∷ [])
    ∷ (Initiate ∷ Part ∷ Unexpected ∷ []) ∷ []
unfolding request_row_in response_row_in shifted crc_with
first_segments = refl

-- 80h is an abort, and so is 81h that names the entry, directly after the response
upload_given_up : map (λ abort. (shown (c (codes "A00021007F000000") ∷ s (codes "C000210000000000") ∷ s abort ∷ [])).ends) (codes "8001210000000206" ∷ codes "8100210000000206" ∷ [])
    ≡ (record { protocol = Block; bytes = 0; first = []; frames = 3; ending = Aborted Server (record { 0 = 0x06020000 }) } ∷ [])
    ∷ (record { protocol = Block; bytes = 0; first = []; frames = 3; ending = Aborted Server (record { 0 = 0x06020000 }) } ∷ [])
    ∷ []
unfolding request_row_in response_row_in shifted crc_with
upload_given_up = refl

-- ---- an acknowledge with a larger block size is missing

-- a sub-block of two segments; after the missing acknowledge one of four, whose last has one byte
abbrev sub_block_of_two : List Sent
sub_block_of_two = c (codes "C000210000000000") ∷ s (codes "A000210002000000") ∷ segment 1 ∷ segment 2 ∷ []

acknowledge_missing : shown (sub_block_of_two ++ map segment (1 ∷ 2 ∷ 3 ∷ 0x84 ∷ []) ++ s (codes "A2047F0000000000") ∷ c (codes "D900000000000000") ∷ s (codes "A100000000000000") ∷ [])
    ≡ record {
      whats = Initiate ∷ Part ∷ Segment 1 ∷ Segment 2 ∷ OutOfSequence 1 3 ∷ OutOfSequence 2 3 ∷ Segment 3 ∷ Segment 4 ∷ Part ∷ Part ∷ Part ∷ [];
      ends = record {
        protocol = Block;
        bytes = 22;
        first = 0x41 ∷ 0x42 ∷ 0x43 ∷ 0x44 ∷ 0x45 ∷ 0x46 ∷ 0x47 ∷ 0x41 ∷ 0x42 ∷ 0x43 ∷ 0x44 ∷ 0x45 ∷ 0x46 ∷ 0x47 ∷ 0x41 ∷ 0x42 ∷ 0x43 ∷ 0x44 ∷ 0x45 ∷ 0x46 ∷ 0x47 ∷ 0x41 ∷ [];
        frames = 11;
        ending = Irregular;
      }
          ∷ [];
    }
unfolding request_row_in response_row_in shifted crc_with
acknowledge_missing = refl

-- the next one, where the sender doesn't begin again; one that isn't the next, and one of the server
no_segments : map (λ frames. (shown (sub_block_of_two ++ frames)).whats) ((segment 3 ∷ []) ∷ (segment 1 ∷ segment 4 ∷ []) ∷ (segment 1 ∷ uploaded 3 ∷ []) ∷ [])
    ≡ (Initiate ∷ Part ∷ Segment 1 ∷ Segment 2 ∷ Unexpected ∷ []) ∷ (Initiate ∷ Part ∷ Segment 1 ∷ Segment 2 ∷ OutOfSequence 1 3 ∷ Unexpected ∷ [])
    ∷ (Initiate ∷ Part ∷ Segment 1 ∷ Segment 2 ∷ OutOfSequence 1 3 ∷ Unexpected ∷ []) ∷ []
unfolding request_row_in response_row_in shifted crc_with
no_segments = refl

-- nor one after the last segment
after_the_last : (shown (c (codes "C000210000000000") ∷ s (codes "A000210002000000") ∷ segment 1 ∷ segment 0x82 ∷ segment 3 ∷ [])).whats
    ≡ Initiate ∷ Part ∷ Segment 1 ∷ Segment 2 ∷ Unexpected ∷ []
unfolding request_row_in response_row_in shifted crc_with
after_the_last = refl

-- of an upload too, where the client's acknowledge is missing
upload_acknowledge_missing : (shown (c (codes "A000210001000000") ∷ s (codes "C000210000000000") ∷ c (codes "A300000000000000") ∷ map uploaded (1 ∷ 1 ∷ 2 ∷ 0x83 ∷ []))).whats
    ≡ Initiate ∷ Part ∷ Part ∷ Segment 1 ∷ OutOfSequence 1 2 ∷ Segment 2 ∷ Segment 3 ∷ []
unfolding request_row_in response_row_in shifted crc_with
upload_acknowledge_missing = refl

-- a request isn't taken for a segment: 20h, after 31 of 31
request_after_31 : (shown (c (codes "C000210000000000") ∷ s (codes "A00021001F000000") ∷ map segment (29 ∷ 30 ∷ 31 ∷ []) ++ c (codes "2001210000000000") ∷ [])).whats
    ≡ Initiate ∷ Part ∷ OutOfSequence 29 1 ∷ Segment 30 ∷ Segment 31 ∷ Initiate ∷ []
unfolding request_row_in response_row_in shifted crc_with
request_after_31 = refl

-- ---- after the last segment of a download

-- its acknowledge doesn't come, and the client reads 1000:00
left_after_last : shown (c (codes "C000210000000000") ∷ s (codes "A00021007F000000") ∷ segment 0x81 ∷ c (codes "4000100000000000") ∷ s (codes "4300100094010200") ∷ [])
    ≡ record {
      whats = Initiate ∷ Part ∷ Segment 1 ∷ Initiate ∷ Part ∷ [];
      ends = record { protocol = Block; bytes = 0; first = []; frames = 3; ending = Unanswered }
          ∷ record { protocol = Expedited; bytes = 4; first = 0x94 ∷ 0x01 ∷ 0x02 ∷ 0x00 ∷ []; frames = 2; ending = Done false } ∷ [];
    }
unfolding request_row_in response_row_in shifted crc_with
left_after_last = refl

-- a frame that is no request; and a request where a segment came twice, and before the last one
within_last : map (λ frames. (shown frames).whats)
    ((c (codes "C000210000000000") ∷ s (codes "A00021007F000000") ∷ segment 0x81 ∷ c (codes "C100000000000000") ∷ [])
    ∷ (c (codes "C000210000000000") ∷ s (codes "A00021007F000000") ∷ segment 1 ∷ segment 1 ∷ segment 0x82 ∷ c (codes "4000100000000000") ∷ [])
    ∷ (c (codes "C000210000000000") ∷ s (codes "A00021007F000000") ∷ segment 1 ∷ c (codes "4000100000000000") ∷ []) ∷ [])
    ≡ (Initiate ∷ Part ∷ Segment 1 ∷ Unexpected ∷ [])
    ∷ (Initiate ∷ Part ∷ Segment 1 ∷ OutOfSequence 1 2 ∷ Segment 2 ∷ Unexpected ∷ [])
    ∷ (Initiate ∷ Part ∷ Segment 1 ∷ OutOfSequence 64 2 ∷ []) ∷ []
unfolding request_row_in response_row_in shifted crc_with
within_last = refl

-- ---- the last segment again

-- nine bytes; 82h, the last segment, is in the recording twice
last_twice : shown (c (codes "C200210009000000") ∷ s (codes "A000210004000000") ∷ c (codes "0131323334353637") ∷ c (codes "8238390000000000") ∷ c (codes "8238390000000000") ∷ s (codes "A202040000000000") ∷ c (codes "D500000000000000") ∷ s (codes "A100000000000000") ∷ [])
    ≡ record {
      whats = Initiate ∷ Part ∷ Segment 1 ∷ Segment 2 ∷ LastAgain 2 ∷ Part ∷ Part ∷ Part ∷ [];
      ends = record { protocol = Block; bytes = 9; first = codes "123456789"; frames = 8; ending = Irregular } ∷ [];
    }
unfolding request_row_in response_row_in shifted crc_with
last_twice = refl

-- of an upload too
last_uploaded_twice : (shown (c (codes "A00021007F000000") ∷ s (codes "C000210000000000") ∷ c (codes "A300000000000000") ∷ uploaded 0x81 ∷ uploaded 0x81 ∷ [])).whats
    ≡ Initiate ∷ Part ∷ Part ∷ Segment 1 ∷ LastAgain 1 ∷ []
unfolding request_row_in response_row_in shifted crc_with
last_uploaded_twice = refl

-- another end, number or length, and one that isn't the last; and before the last one came
abbrev again_after_segment : ℕ → List Sent → List Bool
again_after_segment first sent =
    let current = (heard_all nothing_heard (c (codes "C000210000000000") ∷ s (codes "A000210004000000") ∷ segment 1 ∷ segment first ∷ [])).transfer in
    map (λ frame. option_map_or (λ t. is_last_again t frame.side frame.bytes) current false) sent

again_by_frame : again_after_segment 0x82 (segment 0x82 ∷ uploaded 0x82 ∷ segment 0x81 ∷ segment 0x83 ∷ segment 2 ∷ c (codes "82414243444546") ∷ [])
    ≡ true ∷ false ∷ false ∷ false ∷ false ∷ false ∷ []
unfolding request_row_in response_row_in shifted crc_with
again_by_frame = refl

again_before_last : again_after_segment 2 (segment 0x82 ∷ []) ≡ false ∷ []
unfolding request_row_in response_row_in shifted crc_with
again_before_last = refl

-- C1h is the end of a block transfer too, and so may be one that comes after segment 65; C2h is none
abbrev again_at : ℕ → List ℕ → Bool
again_at next bytes =
    option_map_or (λ t. is_last_again (record t { next_number = next }) Client bytes)
    (heard_all nothing_heard (c (codes "C000210000000000") ∷ s (codes "A000210004000000") ∷ segment 0x81 ∷ [])).transfer false

end_or_again : again_at 66 (0xC1 ∷ 0xAB ∷ 0xCD ∷ 0 ∷ 0 ∷ 0 ∷ 0 ∷ 0 ∷ []) ∷ again_at 67 (0xC2 ∷ 0xAB ∷ 0xCD ∷ 0 ∷ 0 ∷ 0 ∷ 0 ∷ 0 ∷ []) ∷ [] ≡ false ∷ true ∷ []
unfolding request_row_in response_row_in shifted crc_with
end_or_again = refl

-- A0h of the last segment may be a request, which isn't renamed
named_again : map (named (Some (LastAgain 32))) (Unexpected ∷ Initiate ∷ Part ∷ []) ++ named None Unexpected ∷ [] ≡ LastAgain 32 ∷ Initiate ∷ Part ∷ Unexpected ∷ []
named_again = refl

-- ---- no answer

-- the client awaits one when it begins another transfer: where a frame came twice, it isn't said that there was none
no_answer : map (λ asks. (shown (c (codes "4000210000000000") ∷ s (codes "4100210009000000") ∷ asks ++ c (codes "4001210000000000") ∷ [])).ends)
    ((c (codes "6000000000000000") ∷ []) ∷ (c (codes "6000000000000000") ∷ c (codes "6000000000000000") ∷ []) ∷ [])
    ≡ (record { protocol = Segmented; bytes = 0; first = []; frames = 3; ending = Unanswered } ∷ [])
    ∷ (record { protocol = Segmented; bytes = 0; first = []; frames = 4; ending = Interrupted } ∷ [])
    ∷ []
unfolding request_row_in response_row_in shifted crc_with
no_answer = refl

-- within a sub-block it is the turn of the end that sends the data, until all segments of it came, or the last one: after segment 1 of 2 it is
-- the client of a download that stops, and the server of an upload, whose next segment may be due. Where a segment came twice, it isn't said
-- that there was no answer
abbrev unanswered : ℕ → List End
unanswered frames = record { protocol = Block; bytes = 0; first = []; frames = frames; ending = Unanswered } ∷ []

left_in_download : map (λ frames. (shown (c (codes "C000210000000000") ∷ s (codes "A000210002000000") ∷ frames ++ c (codes "4000100000000000") ∷ [])).ends)
    ([] ∷ (segment 1 ∷ []) ∷ (segment 1 ∷ segment 2 ∷ []) ∷ (segment 0x81 ∷ []) ∷ [])
    ≡ left 2 ∷ left 3 ∷ unanswered 4 ∷ unanswered 3 ∷ []
unfolding request_row_in response_row_in shifted crc_with
left_in_download = refl

left_in_upload : map (λ frames. (shown (c (codes "A000210002000000") ∷ s (codes "C000210000000000") ∷ c (codes "A300000000000000") ∷ frames ++ c (codes "4000100000000000") ∷ [])).ends)
    ([] ∷ (uploaded 1 ∷ []) ∷ (uploaded 1 ∷ uploaded 2 ∷ []) ∷ (uploaded 0x81 ∷ []) ∷ (uploaded 1 ∷ uploaded 1 ∷ []) ∷ [])
    ≡ left 3 ∷ left 4 ∷ left 5 ∷ left 4 ∷ left 5 ∷ []
unfolding request_row_in response_row_in shifted crc_with
left_in_upload = refl

-- segment 1 comes at 60 ms, the other frames at 0; and then a request, with this stamp in microseconds
abbrev left_at : List Sent → Sent → ℕ → List End
left_at before sent micros =
    let current = (hearing (heard_all nothing_heard before) 60000 sent.side sent.bytes).next in
    ends_with (hearing current micros Client (hex (codes "4000100000000000"))).says.ended []

-- the next segment of an upload is due for 50 ms, also where the stamp steps back, and where there is none
due_in_upload : map (left_at (c (codes "A000210002000000") ∷ s (codes "C000210000000000") ∷ c (codes "A300000000000000") ∷ []) (uploaded 1)) (0 ∷ 60000 ∷ 109999 ∷ 110000 ∷ [])
    ≡ left 4 ∷ left 4 ∷ left 4 ∷ unanswered 4 ∷ []
unfolding request_row_in response_row_in shifted crc_with
due_in_upload = refl

-- all segments of an upload came, and the last one; a download: 1 s later as well
not_due : map (λ frames. left_at (c (codes "A000210001000000") ∷ s (codes "C000210000000000") ∷ c (codes "A300000000000000") ∷ []) frames 1060000) (uploaded 1 ∷ uploaded 0x81 ∷ [])
    ++ left_at (c (codes "C000210000000000") ∷ s (codes "A000210002000000") ∷ []) (segment 1) 1060000 ∷ []
    ≡ left 4 ∷ left 4 ∷ left 3 ∷ []
unfolding request_row_in response_row_in shifted crc_with
not_due = refl

-- segment 2 of 4 is missing, and 83h is the last one: it isn't known whether others are left, so it is as the newest frame has it
gap_in_download : (shown (c (codes "C000210000000000") ∷ s (codes "A000210004000000") ∷ segment 1 ∷ segment 0x83 ∷ c (codes "4000100000000000") ∷ [])).ends ≡ unanswered 4
unfolding request_row_in response_row_in shifted crc_with
gap_in_download = refl

gap_in_upload : (shown (c (codes "A000210004000000") ∷ s (codes "C000210000000000") ∷ c (codes "A300000000000000") ∷ uploaded 1 ∷ uploaded 0x83 ∷ c (codes "4000100000000000") ∷ [])).ends ≡ left 5
unfolding request_row_in response_row_in shifted crc_with
gap_in_upload = refl

-- a response of this entry that the request doesn't ask for may be meant for it: the server isn't silent
wrong_response : map (λ answer. (shown (c (codes "4000210000000000") ∷ s answer ∷ c (codes "4001210000000000") ∷ [])).ends)
    (codes "6000210000000000" ∷ codes "6005210000000000" ∷ [])
    ≡ (record { protocol = Undecided; bytes = 0; first = []; frames = 1; ending = Interrupted } ∷ [])
    ∷ (record { protocol = Undecided; bytes = 0; first = []; frames = 1; ending = Unanswered } ∷ []) ∷ []
unfolding request_row_in response_row_in shifted crc_with
wrong_response = refl
