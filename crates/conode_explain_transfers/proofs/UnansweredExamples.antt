-- Clients that go on before an answer, and recordings that begin within a sub-block (CiA 301, 7.2.4.3.10): what is heard, and what is
-- shown of it.
use Rattle.std.proofs.Common.{◌≡◌, ℕ, false, List, [], ◌∷◌, ◌++◌, Some, None, refl, codes}
use Rattle.std.specs.Prelude.{map, replicate}
use Rattle.co_frame.specs.SdoRequests.{request_row_in}
use Rattle.co_frame.specs.SdoResponses.{response_row_in}
use Rattle.conode_explain_transfers.specs.declared.ended.Ending.TheVariants.{Done, Aborted, Unanswered, Repeated as AskedAgain, Interrupted, Unfinished, NotFollowed}
use Rattle.conode_explain_transfers.specs.declared.kinds.Protocol.TheVariants.{Undecided, Expedited, Segmented, Block}
use Rattle.conode_explain_transfers.specs.declared.kinds.Side.TheVariants.{Client, Server}
use Rattle.conode_explain_transfers.specs.declared.kinds.What.TheVariants.{Initiate, Part, Segment, Overtaken, Unexpected, Stray, BegunBefore}
use Rattle.conode_explain_transfers.specs.Crc.{shifted, crc_with}
use Rattle.conode_explain_transfers.specs.Followed.{broken_off, followed, nothing_heard}
use Rattle.conode_explain_transfers.specs.Tellings.{telling}
use Rattle.conode_explain_transfers.specs.Tracks.{placed, sdo_telling, shown_end}
use Rattle.conode_explain_transfers.proofs.Dialogues.{Sent, after_all, c, ends_with, left_open, s, shown, told}

-- a segment of a block download, of a block upload
abbrev segment : ℕ → Sent
segment first = record { side = Client; bytes = first ∷ 0x41 ∷ 0x42 ∷ 0x43 ∷ 0x44 ∷ 0x45 ∷ 0x46 ∷ 0x47 ∷ [] }

abbrev uploaded : ℕ → Sent
uploaded first = record { side = Server; bytes = first ∷ 0x41 ∷ 0x42 ∷ 0x43 ∷ 0x44 ∷ 0x45 ∷ 0x46 ∷ 0x47 ∷ [] }

-- the end of a block download after its last acknowledge
abbrev block_end : List Sent
block_end = c (codes "C100000000000000") ∷ s (codes "A100000000000000") ∷ []

-- an upload after it
abbrev next_upload : List Sent
next_upload = c (codes "4000210000000000") ∷ s (codes "4F002100AA000000") ∷ []

-- ---- recordings that begin within a sub-block of a download

-- at segment 5 of 20: none of these looks like an initiate request, and 94h is the last segment
at_5_of_20 : shown (map segment (5 ∷ 6 ∷ 7 ∷ 8 ∷ 9 ∷ 10 ∷ 11 ∷ 12 ∷ 13 ∷ 14 ∷ 15 ∷ 16 ∷ 17 ∷ 18 ∷ 19 ∷ 0x94 ∷ []) ++ s (codes "A2147F0000000000") ∷ block_end)
    ≡ record {
      whats = replicate 15 BegunBefore ++ Segment 20 ∷ replicate 3 BegunBefore;
      ends = [];
    }
unfolding request_row_in response_row_in shifted crc_with
at_5_of_20 = refl

-- at segment 30 of 34, and the next sub-block has two: 32 to 34 look like initiate requests, and 82h like an abort
abbrev at_30_of_34 : List Sent
at_30_of_34 =
    map segment (30 ∷ 31 ∷ 32 ∷ 33 ∷ 34 ∷ []) ++ s (codes "A2227F0000000000") ∷ segment 1 ∷ segment 0x82 ∷ s (codes "A2027F0000000000") ∷ block_end ++ next_upload

heard_at_30_of_34 : told at_30_of_34
    ≡ record {
      whats = BegunBefore ∷ BegunBefore ∷ Initiate ∷ Initiate ∷ Initiate ∷ Unexpected ∷ Unexpected ∷ Part ∷ BegunBefore ∷ BegunBefore ∷ BegunBefore ∷ Initiate ∷ Part ∷ [];
      ends = record { protocol = Segmented; bytes = 0; first = []; frames = 1; ending = NotFollowed (Some 33) }
          ∷ record { protocol = Segmented; bytes = 0; first = []; frames = 1; ending = NotFollowed (Some 34) }
          ∷ record { protocol = Expedited; bytes = 0; first = []; frames = 4; ending = NotFollowed (Some 2) }
          ∷ record { protocol = Expedited; bytes = 1; first = 0xAA ∷ []; frames = 2; ending = Done false } ∷ [];
    }
unfolding request_row_in response_row_in shifted crc_with
heard_at_30_of_34 = refl

shown_at_30_of_34 : shown at_30_of_34
    ≡ record {
      whats = BegunBefore ∷ BegunBefore ∷ Initiate ∷ Segment 33 ∷ Segment 34 ∷ Unexpected ∷ Unexpected ∷ Segment 2 ∷ BegunBefore ∷ BegunBefore ∷ BegunBefore ∷ Initiate ∷ Part ∷ [];
      ends = record { protocol = Expedited; bytes = 1; first = 0xAA ∷ []; frames = 2; ending = Done false } ∷ [];
    }
unfolding request_row_in response_row_in shifted crc_with
shown_at_30_of_34 = refl

-- at 94 of 98: 96 looks like a segment request. The sub-block is the last
shown_at_94_of_98 : shown (map segment (94 ∷ 95 ∷ 96 ∷ 97 ∷ 0xE2 ∷ []) ++ s (codes "A2627F0000000000") ∷ block_end ++ next_upload)
    ≡ record {
      whats = Initiate ∷ Segment 95 ∷ Unexpected ∷ Unexpected ∷ Unexpected ∷ Unexpected ∷ Unexpected ∷ Unexpected ∷ Initiate ∷ Part ∷ [];
      ends = record { protocol = Expedited; bytes = 1; first = 0xAA ∷ []; frames = 2; ending = Done false } ∷ [];
    }
unfolding request_row_in response_row_in shifted crc_with
shown_at_94_of_98 = refl

-- a sub-block of 32 segments, each time
shown_at_32_of_32 : shown (segment 32 ∷ s (codes "A220200000000000") ∷ map segment (1 ∷ 2 ∷ 32 ∷ []) ++ s (codes "A220200000000000") ∷ segment 1 ∷ segment 32 ∷ [])
    ≡ record { whats = Initiate ∷ Overtaken ∷ Unexpected ∷ Unexpected ∷ Initiate ∷ Overtaken ∷ Unexpected ∷ Initiate ∷ []; ends = [] }
unfolding request_row_in response_row_in shifted crc_with
shown_at_32_of_32 = refl

-- its last two: A1h is number 33
two_segments : shown (segment 32 ∷ segment 0xA1 ∷ s (codes "A2217F0000000000") ∷ block_end ++ next_upload)
    ≡ record {
      whats = Initiate ∷ Unexpected ∷ Unexpected ∷ Unexpected ∷ Unexpected ∷ Initiate ∷ Part ∷ [];
      ends = record { protocol = Expedited; bytes = 1; first = 0xAA ∷ []; frames = 2; ending = Done false } ∷ [];
    }
unfolding request_row_in response_row_in shifted crc_with
two_segments = refl

-- 63 and the last, C0h: both look like initiate requests
last_of_64 : shown (segment 63 ∷ segment 0xC0 ∷ s (codes "A2407F0000000000") ∷ block_end ++ next_upload)
    ≡ record {
      whats = Initiate ∷ Segment 64 ∷ Unexpected ∷ Unexpected ∷ Unexpected ∷ Initiate ∷ Part ∷ [];
      ends = record { protocol = Expedited; bytes = 1; first = 0xAA ∷ []; frames = 2; ending = Done false } ∷ [];
    }
unfolding request_row_in response_row_in shifted crc_with
last_of_64 = refl

-- the last one alone: 20, 32, and 64
last_segment : map (λ first. shown (segment first ∷ s (codes "A2147F0000000000") ∷ block_end ++ next_upload)) (0x94 ∷ 0xA0 ∷ 0xC0 ∷ [])
    ≡ record {
      whats = Segment 20 ∷ BegunBefore ∷ BegunBefore ∷ BegunBefore ∷ Initiate ∷ Part ∷ [];
      ends = record { protocol = Expedited; bytes = 1; first = 0xAA ∷ []; frames = 2; ending = Done false } ∷ [];
    }
    ∷ record {
      whats = Initiate ∷ Overtaken ∷ Unexpected ∷ Unexpected ∷ Initiate ∷ Part ∷ [];
      ends = record { protocol = Expedited; bytes = 1; first = 0xAA ∷ []; frames = 2; ending = Done false } ∷ [];
    }
    ∷ record {
      whats = Initiate ∷ Overtaken ∷ Unexpected ∷ Unexpected ∷ Initiate ∷ Part ∷ [];
      ends = record { protocol = Expedited; bytes = 1; first = 0xAA ∷ []; frames = 2; ending = Done false } ∷ [];
    }
    ∷ []
unfolding request_row_in response_row_in shifted crc_with
last_segment = refl

-- the initiate request is missing, the answer isn't
request_lost : shown (s (codes "A4002100227F0000") ∷ map segment (1 ∷ 32 ∷ 33 ∷ []) ++ segment 0xA2 ∷ s (codes "A2227F0000000000") ∷ block_end)
    ≡ record { whats = BegunBefore ∷ BegunBefore ∷ Initiate ∷ Segment 33 ∷ Unexpected ∷ Unexpected ∷ Unexpected ∷ Unexpected ∷ []; ends = [] }
unfolding request_row_in response_row_in shifted crc_with
request_lost = refl

-- ---- and of an upload: no frame of it begins a transfer

within_upload : shown (map uploaded (31 ∷ 32 ∷ 33 ∷ 64 ∷ 0xC1 ∷ []) ++ c (codes "A2417F0000000000") ∷ uploaded 1 ∷ uploaded 0x82 ∷ c (codes "A2027F0000000000") ∷ s (codes "C100000000000000") ∷ c (codes "A100000000000000") ∷ [])
    ≡ record { whats = replicate 7 BegunBefore ++ Segment 2 ∷ replicate 3 BegunBefore; ends = [] }
unfolding request_row_in response_row_in shifted crc_with
within_upload = refl

-- ---- requests without an answer

-- a client that asks for one entry after the other
polling : shown (c (codes "4000210000000000") ∷ c (codes "4001210000000000") ∷ c (codes "4002210000000000") ∷ [])
    ≡ record {
      whats = Initiate ∷ Initiate ∷ Initiate ∷ [];
      ends = record { protocol = Undecided; bytes = 0; first = []; frames = 1; ending = Unanswered }
          ∷ record { protocol = Undecided; bytes = 0; first = []; frames = 1; ending = Unanswered } ∷ [];
    }
unfolding request_row_in response_row_in shifted crc_with
polling = refl

-- the same request again, and another service with a lower and with a higher first byte
asked_again : shown (c (codes "4000210000000000") ∷ c (codes "4000210000000000") ∷ c (codes "2F002100AA000000") ∷ c (codes "2B002100AAAA0000") ∷ c (codes "A400210004000000") ∷ [])
    ≡ record {
      whats = Initiate ∷ Initiate ∷ Initiate ∷ Initiate ∷ Initiate ∷ [];
      ends = record { protocol = Undecided; bytes = 0; first = []; frames = 1; ending = AskedAgain }
          ∷ record { protocol = Undecided; bytes = 0; first = []; frames = 1; ending = Unanswered }
          ∷ record { protocol = Expedited; bytes = 0; first = []; frames = 1; ending = Unanswered }
          ∷ record { protocol = Expedited; bytes = 0; first = []; frames = 1; ending = Unanswered } ∷ [];
    }
unfolding request_row_in response_row_in shifted crc_with
asked_again = refl

-- what follows 40h, by its first byte: 41h is the next segment; the others aren't
after_40 : map (λ first. (shown (c (codes "4000210000000000") ∷ segment first ∷ [])).ends) (0x3F ∷ 0x41 ∷ 0x42 ∷ 0xC0 ∷ 0xC2 ∷ [])
    ≡ (record { protocol = Undecided; bytes = 0; first = []; frames = 1; ending = Unanswered } ∷ [])
    ∷ []
    ∷ (record { protocol = Undecided; bytes = 0; first = []; frames = 1; ending = Unanswered } ∷ [])
    ∷ (record { protocol = Undecided; bytes = 0; first = []; frames = 1; ending = Unanswered } ∷ [])
    ∷ (record { protocol = Undecided; bytes = 0; first = []; frames = 1; ending = Unanswered } ∷ [])
    ∷ []
unfolding request_row_in response_row_in shifted crc_with
after_40 = refl

-- what follows 2Fh: 30h is the next segment; 31h isn't
after_2F : map (λ first. (shown (c (codes "2F002100AA000000") ∷ segment first ∷ [])).ends) (0x30 ∷ 0x31 ∷ [])
    ≡ [] ∷ (record { protocol = Expedited; bytes = 0; first = []; frames = 1; ending = Unanswered } ∷ []) ∷ []
unfolding request_row_in response_row_in shifted crc_with
after_2F = refl

-- requests that look like segments: 22h and 23h, and 23h and A4h, which would be the last one. That the first had no answer isn't said
looks_like_segments : map (λ frames. (shown frames).ends) ((c (codes "22002100AABBCCDD") ∷ c (codes "23012100AABBCCDD") ∷ []) ∷ (c (codes "23002100AABBCCDD") ∷ c (codes "A400210004000000") ∷ []) ∷ [])
    ≡ [] ∷ [] ∷ []
unfolding request_row_in response_row_in shifted crc_with
looks_like_segments = refl

-- the second is followed
second_followed : shown (c (codes "22002100AABBCCDD") ∷ c (codes "23012100AABBCCDD") ∷ s (codes "6001210000000000") ∷ [])
    ≡ record {
      whats = Initiate ∷ Segment 35 ∷ Part ∷ [];
      ends = record { protocol = Expedited; bytes = 4; first = 0xAA ∷ 0xBB ∷ 0xCC ∷ 0xDD ∷ []; frames = 2; ending = Done false } ∷ [];
    }
unfolding request_row_in response_row_in shifted crc_with
second_followed = refl

-- none comes after the last segment: A0h has number 32
none_after_the_last : shown (c (codes "A000210004000000") ∷ c (codes "2100210009000000") ∷ [])
    ≡ record {
      whats = Initiate ∷ Initiate ∷ [];
      ends = record { protocol = Block; bytes = 0; first = []; frames = 1; ending = Unanswered } ∷ [];
    }
unfolding request_row_in response_row_in shifted crc_with
none_after_the_last = refl

-- nor after an answer, a wrong one too; in a recording 30h answers an earlier request, and the client wasn't answered
after_a_wrong_answer : told (c (codes "22002100AABBCCDD") ∷ s (codes "3000000000000000") ∷ c (codes "23002100AABBCCDD") ∷ [])
    ≡ record {
      whats = Initiate ∷ Unexpected ∷ Initiate ∷ [];
      ends = record { protocol = Expedited; bytes = 0; first = []; frames = 2; ending = Interrupted } ∷ [];
    }
unfolding request_row_in response_row_in shifted crc_with
after_a_wrong_answer = refl

after_an_earlier_answer : shown (c (codes "22002100AABBCCDD") ∷ s (codes "3000000000000000") ∷ c (codes "23002100AABBCCDD") ∷ [])
    ≡ record {
      whats = Initiate ∷ Overtaken ∷ Initiate ∷ [];
      ends = record { protocol = Expedited; bytes = 0; first = []; frames = 1; ending = Unanswered } ∷ [];
    }
unfolding request_row_in response_row_in shifted crc_with
after_an_earlier_answer = refl

-- the client awaits a segment: the response to initiate came
within_a_transfer : shown (c (codes "4000210000000000") ∷ s (codes "4100210009000000") ∷ c (codes "6000000000000000") ∷ c (codes "4100210000000000") ∷ [])
    ≡ record {
      whats = Initiate ∷ Part ∷ Part ∷ Initiate ∷ [];
      ends = record { protocol = Segmented; bytes = 0; first = []; frames = 3; ending = Unanswered } ∷ [];
    }
unfolding request_row_in response_row_in shifted crc_with
within_a_transfer = refl

-- ---- answers that are missing in the recording

-- of the initiate request of an upload: it isn't said that there was none
answer_lost : shown (c (codes "4000210000000000") ∷ c (codes "6000000000000000") ∷ s (codes "0031323334353637") ∷ c (codes "7000000000000000") ∷ c (codes "4001210000000000") ∷ [])
    ≡ record { whats = Initiate ∷ Unexpected ∷ Unexpected ∷ Unexpected ∷ Initiate ∷ []; ends = [] }
unfolding request_row_in response_row_in shifted crc_with
answer_lost = refl

-- where it comes after all, the transfer is followed
answer_late : shown (c (codes "4000210000000000") ∷ c (codes "6000000000000000") ∷ s (codes "4100210009000000") ∷ c (codes "8000210000000405") ∷ [])
    ≡ record {
      whats = Initiate ∷ Unexpected ∷ Part ∷ Part ∷ [];
      ends = record { protocol = Segmented; bytes = 0; first = []; frames = 4; ending = Aborted Client (record { 0 = 0x05040000 }) } ∷ [];
    }
unfolding request_row_in response_row_in shifted crc_with
answer_late = refl

-- ---- aborts: of the client before it went on and after that, and of the server

given_up : shown (c (codes "4000210000000000") ∷ c (codes "8000210000000405") ∷ [])
    ≡ record {
      whats = Initiate ∷ Part ∷ [];
      ends = record { protocol = Undecided; bytes = 0; first = []; frames = 2; ending = Aborted Client (record { 0 = 0x05040000 }) } ∷ [];
    }
unfolding request_row_in response_row_in shifted crc_with
given_up = refl

given_up_later : shown (c (codes "4000210000000000") ∷ c (codes "6000000000000000") ∷ c (codes "8000210000000405") ∷ [])
    ≡ record {
      whats = Initiate ∷ Unexpected ∷ Part ∷ [];
      ends = record { protocol = Undecided; bytes = 0; first = []; frames = 3; ending = Aborted Client (record { 0 = 0x05040000 }) } ∷ [];
    }
unfolding request_row_in response_row_in shifted crc_with
given_up_later = refl

-- of 2100:00 that went on: with another low or high byte of the index, another sub-index, and 81h and 9Fh, which may be segments 1 and 31
not_given_up : map (λ abort. (shown (c (codes "4000210000000000") ∷ c (codes "6000000000000000") ∷ c abort ∷ [])).ends) (codes "8001210000000405" ∷ codes "8000200000000405" ∷ codes "8000210100000405" ∷ codes "8100210000000405" ∷ codes "9F00210000000405" ∷ [])
    ≡ [] ∷ [] ∷ [] ∷ [] ∷ [] ∷ []
unfolding request_row_in response_row_in shifted crc_with
not_given_up = refl

-- while the client didn't go on, it is the one that it awaits an answer to, whatever the multiplexer
given_up_as_another : map (λ abort. (shown (c (codes "4000210000000000") ∷ c abort ∷ [])).ends) (codes "8001210000000405" ∷ codes "8000000000000405" ∷ [])
    ≡ (record { protocol = Undecided; bytes = 0; first = []; frames = 2; ending = Aborted Client (record { 0 = 0x05040000 }) } ∷ [])
    ∷ (record { protocol = Undecided; bytes = 0; first = []; frames = 2; ending = Aborted Client (record { 0 = 0x05040000 }) } ∷ [])
    ∷ []
unfolding request_row_in response_row_in shifted crc_with
given_up_as_another = refl

-- before the response 81h and 9Fh may be segments, and by the standard they are no aborts: directly after the request too. After it they are
-- read as aborts
given_up_with : map (λ abort. shown (c (codes "4000210000000000") ∷ c abort ∷ [])) (codes "8100210000000405" ∷ codes "9F00210000000405" ∷ [])
    ≡ record { whats = Initiate ∷ Segment 1 ∷ []; ends = [] } ∷ record { whats = Initiate ∷ Segment 31 ∷ []; ends = [] } ∷ []
unfolding request_row_in response_row_in shifted crc_with
given_up_with = refl

given_up_within : map (λ abort. (shown (c (codes "4000210000000000") ∷ s (codes "4100210009000000") ∷ c abort ∷ [])).ends) (codes "8101210000000405" ∷ codes "9F00210000000405" ∷ [])
    ≡ (record { protocol = Segmented; bytes = 0; first = []; frames = 3; ending = Aborted Client (record { 0 = 0x05040000 }) } ∷ [])
    ∷ (record { protocol = Segmented; bytes = 0; first = []; frames = 3; ending = Aborted Client (record { 0 = 0x05040000 }) } ∷ [])
    ∷ []
unfolding request_row_in response_row_in shifted crc_with
given_up_within = refl

-- at 32 of 34 of a sub-block, and the next one has one segment
one_segment : shown (map segment (32 ∷ 33 ∷ 34 ∷ []) ++ s (codes "A2227F0000000000") ∷ segment 0x81 ∷ s (codes "A2017F0000000000") ∷ block_end)
    ≡ record { whats = Initiate ∷ Segment 33 ∷ Segment 34 ∷ Unexpected ∷ Segment 1 ∷ BegunBefore ∷ BegunBefore ∷ BegunBefore ∷ []; ends = [] }
unfolding request_row_in response_row_in shifted crc_with
one_segment = refl

refused_later : shown (c (codes "4000210000000000") ∷ c (codes "6000000000000000") ∷ s (codes "8000210000000206") ∷ [])
    ≡ record {
      whats = Initiate ∷ Unexpected ∷ Part ∷ [];
      ends = record { protocol = Undecided; bytes = 0; first = []; frames = 3; ending = Aborted Server (record { 0 = 0x06020000 }) } ∷ [];
    }
unfolding request_row_in response_row_in shifted crc_with
refused_later = refl

-- after an abort of the transfer none is open
after_an_abort : shown (c (codes "4000210000000000") ∷ c (codes "6000000000000000") ∷ c (codes "8000210000000405") ∷ s (codes "A100000000000000") ∷ [])
    ≡ record {
      whats = Initiate ∷ Unexpected ∷ Part ∷ Stray ∷ [];
      ends = record { protocol = Undecided; bytes = 0; first = []; frames = 3; ending = Aborted Client (record { 0 = 0x05040000 }) } ∷ [];
    }
unfolding request_row_in response_row_in shifted crc_with
after_an_abort = refl

-- after one with another multiplexer, as 0000:00, none is open either; 81h may be of one that began before the recording
after_another_abort : map (λ abort. shown (c (codes "4000210000000000") ∷ c (codes "6000000000000000") ∷ c abort ∷ s (codes "A100000000000000") ∷ [])) (codes "8000000000000405" ∷ codes "8100000000000405" ∷ [])
    ≡ record { whats = Initiate ∷ Unexpected ∷ Part ∷ Stray ∷ []; ends = [] }
    ∷ record { whats = Initiate ∷ Unexpected ∷ Segment 1 ∷ BegunBefore ∷ []; ends = [] } ∷ []
unfolding request_row_in response_row_in shifted crc_with
after_another_abort = refl

-- ---- a block upload whose response and start aren't in the recording

-- its only segment, and its last one: numbers 1 and 31
segment_uploaded : map (λ first. shown (c (codes "A00021007F000000") ∷ uploaded first ∷ [])) (0x81 ∷ 0x9F ∷ [])
    ≡ record { whats = Initiate ∷ Segment 1 ∷ []; ends = [] } ∷ record { whats = Initiate ∷ Segment 31 ∷ []; ends = [] } ∷ []
unfolding request_row_in response_row_in shifted crc_with
segment_uploaded = refl

-- the client starts it, and two segments come
upload_started : shown (c (codes "A00021007F000000") ∷ c (codes "A300000000000000") ∷ uploaded 1 ∷ uploaded 0x82 ∷ c (codes "A2027F0000000000") ∷ s (codes "C100000000000000") ∷ c (codes "A100000000000000") ∷ [])
    ≡ record { whats = Initiate ∷ Unexpected ∷ Unexpected ∷ Segment 2 ∷ BegunBefore ∷ BegunBefore ∷ BegunBefore ∷ []; ends = [] }
unfolding request_row_in response_row_in shifted crc_with
upload_started = refl

-- 80h is the server's abort, whatever its multiplexer, and after the start too
upload_refused : map (λ frames. (shown (c (codes "A00021007F000000") ∷ frames)).ends)
    ((s (codes "8000210000000206") ∷ []) ∷ (s (codes "8000000000000206") ∷ []) ∷ (c (codes "A300000000000000") ∷ s (codes "8000000000000206") ∷ []) ∷ [])
    ≡ (record { protocol = Block; bytes = 0; first = []; frames = 2; ending = Aborted Server (record { 0 = 0x06020000 }) } ∷ [])
    ∷ (record { protocol = Block; bytes = 0; first = []; frames = 2; ending = Aborted Server (record { 0 = 0x06020000 }) } ∷ [])
    ∷ (record { protocol = Block; bytes = 0; first = []; frames = 3; ending = Aborted Server (record { 0 = 0x06020000 }) } ∷ [])
    ∷ []
unfolding request_row_in response_row_in shifted crc_with
upload_refused = refl

-- so do 81h and 9Fh directly after the request that name the entry; another low or high byte of the index, or another sub-index, is data
upload_refused_with : map (λ abort. shown (c (codes "A00021007F000000") ∷ s abort ∷ [])) (codes "8100210000000206" ∷ codes "9F00210000000206" ∷ codes "8101210000000206" ∷ codes "8100200000000206" ∷ codes "8100210100000206" ∷ [])
    ≡ record {
      whats = Initiate ∷ Part ∷ [];
      ends = record { protocol = Block; bytes = 0; first = []; frames = 2; ending = Aborted Server (record { 0 = 0x06020000 }) } ∷ [];
    }
    ∷ record {
      whats = Initiate ∷ Part ∷ [];
      ends = record { protocol = Block; bytes = 0; first = []; frames = 2; ending = Aborted Server (record { 0 = 0x06020000 }) } ∷ [];
    }
    ∷ record { whats = Initiate ∷ Segment 1 ∷ []; ends = [] }
    ∷ record { whats = Initiate ∷ Segment 1 ∷ []; ends = [] }
    ∷ record { whats = Initiate ∷ Segment 1 ∷ []; ends = [] }
    ∷ []
unfolding request_row_in response_row_in shifted crc_with
upload_refused_with = refl

-- once another frame came, it is data that is the same as the entry: after the start, and after segment 1
upload_data : map (λ before. shown (c (codes "A00021007F000000") ∷ before ∷ s (codes "8200210000000206") ∷ [])) (c (codes "A300000000000000") ∷ uploaded 1 ∷ [])
    ≡ record { whats = Initiate ∷ Unexpected ∷ Segment 2 ∷ []; ends = [] }
    ∷ record { whats = Initiate ∷ Unexpected ∷ Segment 2 ∷ []; ends = [] } ∷ []
unfolding request_row_in response_row_in shifted crc_with
upload_data = refl

-- after such an abort no transfer is open
after_a_refusal : shown (c (codes "A00021007F000000") ∷ s (codes "8100210000000206") ∷ c (codes "A100000000000000") ∷ [])
    ≡ record {
      whats = Initiate ∷ Part ∷ Stray ∷ [];
      ends = record { protocol = Block; bytes = 0; first = []; frames = 2; ending = Aborted Server (record { 0 = 0x06020000 }) } ∷ [];
    }
unfolding request_row_in response_row_in shifted crc_with
after_a_refusal = refl

-- ---- a block upload of which the start alone isn't in the recording

-- a channel doesn't follow its segments: its only one, the last of two, and of 31. In a recording they are followed (`HearingExamples`)
start_lost : map (λ frames. told (c (codes "A00021007F000000") ∷ s (codes "C000210000000000") ∷ frames))
    ((uploaded 0x81 ∷ c (codes "A2017F0000000000") ∷ []) ∷ (uploaded 1 ∷ uploaded 0x82 ∷ []) ∷ (uploaded 0x9F ∷ []) ∷ [])
    ≡ record {
      whats = Initiate ∷ Part ∷ Part ∷ BegunBefore ∷ [];
      ends = record { protocol = Block; bytes = 0; first = []; frames = 3; ending = NotFollowed (Some 1) } ∷ [];
    }
    ∷ record {
      whats = Initiate ∷ Part ∷ Unexpected ∷ Part ∷ [];
      ends = record { protocol = Block; bytes = 0; first = []; frames = 4; ending = NotFollowed (Some 2) } ∷ [];
    }
    ∷ record {
      whats = Initiate ∷ Part ∷ Part ∷ [];
      ends = record { protocol = Block; bytes = 0; first = []; frames = 3; ending = NotFollowed (Some 31) } ∷ [];
    }
    ∷ []
unfolding request_row_in response_row_in shifted crc_with
start_lost = refl

-- ---- where no segment of this end is awaited, 81h is read as an abort

-- of the server: of an upload that isn't in blocks, before and after its response, of a block download, once a block upload was answered and it
-- names the entry, and once all its segments are acknowledged
refused_with : map (λ frames. ends_with (followed (after_all nothing_heard frames) 0 Server (s (codes "8100210000000206")).bytes).says.ended [])
    ((c (codes "4000210000000000") ∷ []) ∷ (c (codes "4000210000000000") ∷ s (codes "4100210009000000") ∷ []) ∷ (c (codes "C000210000000000") ∷ []) ∷ (c (codes "A00021007F000000") ∷ s (codes "C000210000000000") ∷ [])
    ∷ (c (codes "A00021007F000000") ∷ s (codes "C000210000000000") ∷ c (codes "A300000000000000") ∷ uploaded 0x81 ∷ c (codes "A2017F0000000000") ∷ []) ∷ [])
    ≡ (record { protocol = Undecided; bytes = 0; first = []; frames = 2; ending = Aborted Server (record { 0 = 0x06020000 }) } ∷ [])
    ∷ (record { protocol = Segmented; bytes = 0; first = []; frames = 3; ending = Aborted Server (record { 0 = 0x06020000 }) } ∷ [])
    ∷ (record { protocol = Block; bytes = 0; first = []; frames = 2; ending = Aborted Server (record { 0 = 0x06020000 }) } ∷ [])
    ∷ (record { protocol = Block; bytes = 0; first = []; frames = 3; ending = Aborted Server (record { 0 = 0x06020000 }) } ∷ [])
    ∷ (record { protocol = Block; bytes = 0; first = []; frames = 6; ending = Aborted Server (record { 0 = 0x06020000 }) } ∷ [])
    ∷ []
unfolding request_row_in response_row_in shifted crc_with
refused_with = refl

-- with another multiplexer too, but before the start of a block upload
refused_as_another : map (λ frames. ends_with (followed (after_all nothing_heard frames) 0 Server (s (codes "8101210000000206")).bytes).says.ended [])
    ((c (codes "4000210000000000") ∷ []) ∷ (c (codes "C000210000000000") ∷ [])
    ∷ (c (codes "A00021007F000000") ∷ s (codes "C000210000000000") ∷ c (codes "A300000000000000") ∷ uploaded 0x81 ∷ c (codes "A2017F0000000000") ∷ []) ∷ [])
    ≡ (record { protocol = Undecided; bytes = 0; first = []; frames = 2; ending = Aborted Server (record { 0 = 0x06020000 }) } ∷ [])
    ∷ (record { protocol = Block; bytes = 0; first = []; frames = 2; ending = Aborted Server (record { 0 = 0x06020000 }) } ∷ [])
    ∷ (record { protocol = Block; bytes = 0; first = []; frames = 6; ending = Aborted Server (record { 0 = 0x06020000 }) } ∷ [])
    ∷ []
unfolding request_row_in response_row_in shifted crc_with
refused_as_another = refl

-- of the client, once a block upload was answered
given_up_before_start : (shown (c (codes "A00021007F000000") ∷ s (codes "C000210000000000") ∷ c (codes "8101210000000405") ∷ [])).ends
    ≡ record { protocol = Block; bytes = 0; first = []; frames = 3; ending = Aborted Client (record { 0 = 0x05040000 }) } ∷ []
unfolding request_row_in response_row_in shifted crc_with
given_up_before_start = refl

-- ---- what begins with such a segment

-- nothing is said of its end: where another request follows, or after a frame of the server
third_request : map shown
    ((c (codes "22002100AABBCCDD") ∷ c (codes "23012100AABBCCDD") ∷ c (codes "4000210000000000") ∷ [])
    ∷ (c (codes "22002100AABBCCDD") ∷ c (codes "23012100AABBCCDD") ∷ s (codes "3000000000000000") ∷ c (codes "4000210000000000") ∷ [])
    ∷ [])
    ≡ record { whats = Initiate ∷ Segment 35 ∷ Initiate ∷ []; ends = [] }
    ∷ record { whats = Initiate ∷ Segment 35 ∷ Unexpected ∷ Initiate ∷ []; ends = [] }
    ∷ []
unfolding request_row_in response_row_in shifted crc_with
third_request = refl

-- nor where the recording ends, or the server boots up
pair_left : left_open (c (codes "22002100AABBCCDD") ∷ c (codes "23012100AABBCCDD") ∷ []) ≡ []
unfolding request_row_in response_row_in shifted crc_with
pair_left = refl

pair_broken : ends_with (shown_end (broken_off (after_all nothing_heard (c (codes "22002100AABBCCDD") ∷ c (codes "23012100AABBCCDD") ∷ [])).transfer 0)) [] ≡ []
unfolding request_row_in response_row_in shifted crc_with
pair_broken = refl

-- once its response came it is one, and its end is said
pair_answered : shown (c (codes "4000210000000000") ∷ c (codes "4101210000000000") ∷ s (codes "4101210009000000") ∷ c (codes "4002210000000000") ∷ [])
    ≡ record {
      whats = Initiate ∷ Segment 65 ∷ Part ∷ Initiate ∷ [];
      ends = record { protocol = Segmented; bytes = 0; first = []; frames = 2; ending = Interrupted } ∷ [];
    }
unfolding request_row_in response_row_in shifted crc_with
pair_answered = refl

-- ---- whose entry a frame has

-- that of the transfer, until the client goes on, and again once the response came
entries : map (λ frames. (followed (after_all nothing_heard frames) 0 Client (c (codes "6000000000000000")).bytes).says.of)
    ((c (codes "4000210000000000") ∷ [])
    ∷ (c (codes "4000210000000000") ∷ c (codes "6000000000000000") ∷ [])
    ∷ (c (codes "4000210000000000") ∷ c (codes "6000000000000000") ∷ s (codes "4100210009000000") ∷ [])
    ∷ [])
    ≡ None ∷ None ∷ Some (record { index = 0x2100; sub = 0 }) ∷ []
unfolding request_row_in response_row_in shifted crc_with
entries = refl

-- of a segment of the server before and after that, and where what began may be a segment
entries_of_others : map (λ frames. (followed (after_all nothing_heard frames) 0 Server (s (codes "0031323334353637")).bytes).says.of)
    ((c (codes "4000210000000000") ∷ [])
    ∷ (c (codes "4000210000000000") ∷ c (codes "6000000000000000") ∷ [])
    ∷ (c (codes "4000210000000000") ∷ c (codes "4101210000000000") ∷ [])
    ∷ [])
    ≡ Some (record { index = 0x2100; sub = 0 }) ∷ None ∷ None ∷ []
unfolding request_row_in response_row_in shifted crc_with
entries_of_others = refl

-- of segment 1 of a block download: the response is missing, and the segment goes on with it
entry_of_segment : (followed (after_all nothing_heard (c (codes "C000210000000000") ∷ [])) 0 Client (segment 1).bytes).says.of ≡ Some (record { index = 0x2100; sub = 0 })
unfolding request_row_in response_row_in shifted crc_with
entry_of_segment = refl

-- ---- where the recording ends, and the server boots up

open_request : left_open (c (codes "4000210000000000") ∷ []) ≡ record { protocol = Undecided; bytes = 0; first = []; frames = 1; ending = Unfinished } ∷ []
unfolding request_row_in response_row_in shifted crc_with
open_request = refl

open_segments : left_open (segment 95 ∷ segment 96 ∷ []) ≡ []
unfolding request_row_in response_row_in shifted crc_with
open_segments = refl

boot_up : map (λ frames. ends_with (shown_end (broken_off (after_all nothing_heard frames).transfer 0)) []) ((c (codes "4000210000000000") ∷ []) ∷ (segment 95 ∷ segment 96 ∷ []) ∷ [])
    ≡ (record { protocol = Undecided; bytes = 0; first = []; frames = 1; ending = Interrupted } ∷ []) ∷ [] ∷ []
unfolding request_row_in response_row_in shifted crc_with
boot_up = refl

-- ---- two channels

-- a request to node 6 isn't the segment after one of node 5
other_channel : (telling (telling [] [] 0 (record { id = 0x605; bytes = (segment 32).bytes })).tracks [] 0 (record { id = 0x606; bytes = (segment 33).bytes })).told
    ≡ Some (record { node = 6; part = Some (record { side = Client; what = Initiate; of = None }); left = None; ended = None; unclear = None })
unfolding request_row_in response_row_in shifted crc_with placed sdo_telling telling
other_channel = refl

same_channel : (telling (telling [] [] 0 (record { id = 0x605; bytes = (segment 32).bytes })).tracks [] 0 (record { id = 0x605; bytes = (segment 33).bytes })).told
    ≡ Some (record { node = 5; part = Some (record { side = Client; what = Segment 33; of = None }); left = None; ended = None; unclear = None })
unfolding request_row_in response_row_in shifted crc_with placed sdo_telling telling
same_channel = refl
