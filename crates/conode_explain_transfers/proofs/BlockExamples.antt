-- Worked block transfers of 2100:00, computed from the definitions. The CRC of "123456789" is 31C3h.
use Rattle.std.proofs.Common.{◌≡◌, true, false, [], ◌∷◌, None, refl, codes}
use Rattle.co_frame.specs.SdoRequests.{request_row_in}
use Rattle.co_frame.specs.SdoResponses.{response_row_in}
use Rattle.conode_explain_transfers.specs.declared.ended.Ending.TheVariants.{Done, Aborted, NotFollowed, Interrupted, Irregular, SizeDiffers, CrcDiffers}
use Rattle.conode_explain_transfers.specs.declared.kinds.Protocol.TheVariants.{Expedited, Segmented, Block}
use Rattle.conode_explain_transfers.specs.declared.kinds.Side.TheVariants.{Client}
use Rattle.conode_explain_transfers.specs.declared.kinds.What.TheVariants.{Initiate, Part, Segment, OutOfSequence, Unexpected}
use Rattle.conode_explain_transfers.specs.Crc.{shifted, crc_with, crc_of}
use Rattle.conode_explain_transfers.proofs.Dialogues.{c, s, told}

check_value : crc_of (codes "123456789") ≡ 0x31C3
unfolding shifted crc_with
check_value = refl

-- ---- downloads

-- nine bytes, sub-blocks of four segments
download_of_nine : told (c (codes "C600210009000000") ∷ s (codes "A400210004000000") ∷ c (codes "0131323334353637") ∷ c (codes "8238390000000000") ∷ s (codes "A202040000000000") ∷ c (codes "D5C3310000000000") ∷ s (codes "A100000000000000") ∷ [])
    ≡ record {
      whats = Initiate ∷ Part ∷ Segment 1 ∷ Segment 2 ∷ Part ∷ Part ∷ Part ∷ [];
      ends = record { protocol = Block; bytes = 9; first = codes "123456789"; frames = 7; ending = Done true } ∷ [];
    }
unfolding request_row_in response_row_in shifted crc_with
download_of_nine = refl

-- another CRC came
wrong_crc : told (c (codes "C600210009000000") ∷ s (codes "A400210004000000") ∷ c (codes "0131323334353637") ∷ c (codes "8238390000000000") ∷ s (codes "A202040000000000") ∷ c (codes "D5213F0000000000") ∷ s (codes "A100000000000000") ∷ [])
    ≡ record {
      whats = Initiate ∷ Part ∷ Segment 1 ∷ Segment 2 ∷ Part ∷ Part ∷ Part ∷ [];
      ends = record { protocol = Block; bytes = 9; first = codes "123456789"; frames = 7; ending = CrcDiffers 0x3F21 0x31C3 } ∷ [];
    }
unfolding request_row_in response_row_in shifted crc_with
wrong_crc = refl

-- it isn't compared where one end doesn't support it
no_crc : told (c (codes "C600210009000000") ∷ s (codes "A000210004000000") ∷ c (codes "0131323334353637") ∷ c (codes "8238390000000000") ∷ s (codes "A202040000000000") ∷ c (codes "D5213F0000000000") ∷ s (codes "A100000000000000") ∷ [])
    ≡ record {
      whats = Initiate ∷ Part ∷ Segment 1 ∷ Segment 2 ∷ Part ∷ Part ∷ Part ∷ [];
      ends = record { protocol = Block; bytes = 9; first = codes "123456789"; frames = 7; ending = Done false } ∷ [];
    }
unfolding request_row_in response_row_in shifted crc_with
no_crc = refl

-- ten bytes indicated, nine came
one_too_few : told (c (codes "C20021000A000000") ∷ s (codes "A000210004000000") ∷ c (codes "0131323334353637") ∷ c (codes "8238390000000000") ∷ s (codes "A202040000000000") ∷ c (codes "D500000000000000") ∷ s (codes "A100000000000000") ∷ [])
    ≡ record {
      whats = Initiate ∷ Part ∷ Segment 1 ∷ Segment 2 ∷ Part ∷ Part ∷ Part ∷ [];
      ends = record { protocol = Block; bytes = 9; first = codes "123456789"; frames = 7; ending = SizeDiffers 10 } ∷ [];
    }
unfolding request_row_in response_row_in shifted crc_with
one_too_few = refl

-- sub-blocks of two segments; of the first one the second segment is lost on its way and sent again
sent_again : told (c (codes "C200210010000000") ∷ s (codes "A000210002000000") ∷ c (codes "0141424344454647") ∷ c (codes "0248494A4B4C4D4E") ∷ s (codes "A201020000000000") ∷ c (codes "0148494A4B4C4D4E") ∷ c (codes "824F500000000000") ∷ s (codes "A202020000000000") ∷ c (codes "D500000000000000") ∷ s (codes "A100000000000000") ∷ [])
    ≡ record {
      whats = Initiate ∷ Part ∷ Segment 1 ∷ Segment 2 ∷ Part ∷ Segment 1 ∷ Segment 2 ∷ Part ∷ Part ∷ Part ∷ [];
      ends = record { protocol = Block; bytes = 16; first = codes "ABCDEFGHIJKLMNOP"; frames = 10; ending = Done false } ∷ [];
    }
unfolding request_row_in response_row_in shifted crc_with
sent_again = refl

-- it is lost before the recorder too
sent_again_unseen : told (c (codes "C200210010000000") ∷ s (codes "A000210003000000") ∷ c (codes "0141424344454647") ∷ c (codes "834F500000000000") ∷ s (codes "A201020000000000") ∷ c (codes "0148494A4B4C4D4E") ∷ c (codes "824F500000000000") ∷ s (codes "A202020000000000") ∷ c (codes "D500000000000000") ∷ s (codes "A100000000000000") ∷ [])
    ≡ record {
      whats = Initiate ∷ Part ∷ Segment 1 ∷ OutOfSequence 3 2 ∷ Part ∷ Segment 1 ∷ Segment 2 ∷ Part ∷ Part ∷ Part ∷ [];
      ends = record { protocol = Block; bytes = 16; first = codes "ABCDEFGHIJKLMNOP"; frames = 10; ending = Done false } ∷ [];
    }
unfolding request_row_in response_row_in shifted crc_with
sent_again_unseen = refl

-- a segment that the server took is lost in the recording
segment_lost : told (c (codes "C200210009000000") ∷ s (codes "A000210002000000") ∷ c (codes "8238390000000000") ∷ s (codes "A202020000000000") ∷ c (codes "D500000000000000") ∷ s (codes "A100000000000000") ∷ [])
    ≡ record {
      whats = Initiate ∷ Part ∷ OutOfSequence 2 1 ∷ Part ∷ Unexpected ∷ Part ∷ [];
      ends = record { protocol = Block; bytes = 0; first = []; frames = 6; ending = Irregular } ∷ [];
    }
unfolding request_row_in response_row_in shifted crc_with
segment_lost = refl

-- an acknowledge is lost in the recording: the next sub-block's segments aren't taken for those of the one before
acknowledge_lost : told (c (codes "C000210000000000") ∷ s (codes "A000210001000000") ∷ c (codes "0141424344454647") ∷ c (codes "8148494A4B4C4D4E") ∷ s (codes "A201010000000000") ∷ c (codes "C100000000000000") ∷ s (codes "A100000000000000") ∷ [])
    ≡ record {
      whats = Initiate ∷ Part ∷ Segment 1 ∷ OutOfSequence 1 2 ∷ Part ∷ Unexpected ∷ Part ∷ [];
      ends = record { protocol = Block; bytes = 7; first = codes "ABCDEFG"; frames = 7; ending = Irregular } ∷ [];
    }
unfolding request_row_in response_row_in shifted crc_with
acknowledge_lost = refl

-- the first segment of a sub-block and its acknowledge are lost in the recording: the next sub-block isn't taken for the first one,
-- sent again
sub_block_missed : told (c (codes "C000210000000000") ∷ s (codes "A000210002000000") ∷ c (codes "0248494A4B4C4D4E") ∷ c (codes "814F500000000000") ∷ s (codes "A201020000000000") ∷ c (codes "D500000000000000") ∷ s (codes "A100000000000000") ∷ [])
    ≡ record {
      whats = Initiate ∷ Part ∷ OutOfSequence 2 1 ∷ OutOfSequence 1 3 ∷ Part ∷ Unexpected ∷ Part ∷ [];
      ends = record { protocol = Block; bytes = 0; first = []; frames = 7; ending = Irregular } ∷ [];
    }
unfolding request_row_in response_row_in shifted crc_with
sub_block_missed = refl

-- segments after a missing one go on by their numbers, and aren't taken
after_a_gap : told (c (codes "C000210000000000") ∷ s (codes "A000210004000000") ∷ c (codes "0141424344454647") ∷ c (codes "034F505152535455") ∷ c (codes "8456570000000000") ∷ s (codes "A201040000000000") ∷ [])
    ≡ record { whats = Initiate ∷ Part ∷ Segment 1 ∷ OutOfSequence 3 2 ∷ Segment 4 ∷ Part ∷ []; ends = [] }
unfolding request_row_in response_row_in shifted crc_with
after_a_gap = refl

-- the answer to initiate is lost in the recording: the client goes on with segment 1
answer_lost : told (c (codes "C200210009000000") ∷ c (codes "0131323334353637") ∷ c (codes "8238390000000000") ∷ s (codes "A202040000000000") ∷ c (codes "D500000000000000") ∷ s (codes "A100000000000000") ∷ [])
    ≡ record {
      whats = Initiate ∷ Segment 1 ∷ Segment 2 ∷ Part ∷ Part ∷ Part ∷ [];
      ends = record { protocol = Block; bytes = 9; first = codes "123456789"; frames = 6; ending = Irregular } ∷ [];
    }
unfolding request_row_in response_row_in shifted crc_with
answer_lost = refl

-- 81h is segment 1 there, which is the last, and 80h an abort
only_segment : told (c (codes "C600210002000000") ∷ c (codes "8141420000000000") ∷ s (codes "A201040000000000") ∷ c (codes "D500000000000000") ∷ s (codes "A100000000000000") ∷ [])
    ≡ record {
      whats = Initiate ∷ Segment 1 ∷ Part ∷ Part ∷ Part ∷ [];
      ends = record { protocol = Block; bytes = 2; first = codes "AB"; frames = 5; ending = Irregular } ∷ [];
    }
unfolding request_row_in response_row_in shifted crc_with
only_segment = refl

given_up : told (c (codes "C200210009000000") ∷ c (codes "8000210000000405") ∷ [])
    ≡ record {
      whats = Initiate ∷ Part ∷ [];
      ends = record { protocol = Block; bytes = 0; first = []; frames = 2; ending = Aborted Client (record { 0 = 0x05040000 }) } ∷ [];
    }
unfolding request_row_in response_row_in shifted crc_with
given_up = refl

-- segments up to 127 go on with it: 20h, A0h and 7Fh begin nothing
long_sub_block : told (c (codes "C000210000000000") ∷ c (codes "0131323334353637") ∷ c (codes "2031323334353637") ∷ c (codes "4231323334353637") ∷ c (codes "7F31323334353637") ∷ [])
    ≡ record { whats = Initiate ∷ Segment 1 ∷ OutOfSequence 32 2 ∷ OutOfSequence 66 33 ∷ OutOfSequence 127 67 ∷ []; ends = [] }
unfolding request_row_in response_row_in shifted crc_with
long_sub_block = refl

-- segment 2 is no first segment: what comes after it is read as before, and 40h begins an upload. The answer isn't in the recording
no_first_segment : told (c (codes "C200210009000000") ∷ c (codes "0238390000000000") ∷ c (codes "4000210000000000") ∷ s (codes "4F002100AA000000") ∷ [])
    ≡ record {
      whats = Initiate ∷ Unexpected ∷ Initiate ∷ Part ∷ [];
      ends = record { protocol = Block; bytes = 0; first = []; frames = 2; ending = NotFollowed None }
          ∷ record { protocol = Expedited; bytes = 1; first = 0xAA ∷ []; frames = 2; ending = Done false } ∷ [];
    }
unfolding request_row_in response_row_in shifted crc_with
no_first_segment = refl

-- in an upload, and in a download in segments, 01h before the answer is no segment of a sub-block
other_protocols : told (c (codes "A400210004000000") ∷ c (codes "0131323334353637") ∷ s (codes "C000210000000000") ∷ c (codes "2100210009000000") ∷ c (codes "0131323334353637") ∷ s (codes "6000210000000000") ∷ [])
    ≡ record {
      whats = Initiate ∷ Unexpected ∷ Part ∷ Initiate ∷ Unexpected ∷ Part ∷ [];
      ends = record { protocol = Block; bytes = 0; first = []; frames = 3; ending = Interrupted } ∷ [];
    }
unfolding request_row_in response_row_in shifted crc_with
other_protocols = refl

-- none comes after the last
after_the_last : told (c (codes "C000210000000000") ∷ s (codes "A000210004000000") ∷ c (codes "8141420000000000") ∷ c (codes "0243444546474849") ∷ [])
    ≡ record { whats = Initiate ∷ Part ∷ Segment 1 ∷ Unexpected ∷ []; ends = [] }
unfolding request_row_in response_row_in shifted crc_with
after_the_last = refl

-- byte 0 of 81h is a segment in a sub-block, and 80h an abort
abort_in_sub_block : told (c (codes "C000210000000000") ∷ s (codes "A000210004000000") ∷ c (codes "8100210000000405") ∷ c (codes "8000210000000405") ∷ [])
    ≡ record {
      whats = Initiate ∷ Part ∷ Segment 1 ∷ Part ∷ [];
      ends = record { protocol = Block; bytes = 0; first = []; frames = 4; ending = Aborted Client (record { 0 = 0x05040000 }) } ∷ [];
    }
unfolding request_row_in response_row_in shifted crc_with
abort_in_sub_block = refl

-- a number above the block size is no segment: 40h begins an upload; up to it, it is one
begun_in_sub_block : told (c (codes "C000210000000000") ∷ s (codes "A00021003F000000") ∷ c (codes "4000210000000000") ∷ s (codes "4F002100AA000000") ∷ [])
    ≡ record {
      whats = Initiate ∷ Part ∷ Initiate ∷ Part ∷ [];
      ends = record { protocol = Block; bytes = 0; first = []; frames = 2; ending = Interrupted }
          ∷ record { protocol = Expedited; bytes = 1; first = 0xAA ∷ []; frames = 2; ending = Done false } ∷ [];
    }
unfolding request_row_in response_row_in shifted crc_with
begun_in_sub_block = refl

segment_64 : told (c (codes "C000210000000000") ∷ s (codes "A000210040000000") ∷ c (codes "4000210000000000") ∷ [])
    ≡ record { whats = Initiate ∷ Part ∷ OutOfSequence 64 1 ∷ []; ends = [] }
unfolding request_row_in response_row_in shifted crc_with
segment_64 = refl

-- ---- uploads

upload_of_nine : told (c (codes "A400210004000000") ∷ s (codes "C600210009000000") ∷ c (codes "A300000000000000") ∷ s (codes "0131323334353637") ∷ s (codes "8238390000000000") ∷ c (codes "A202040000000000") ∷ s (codes "D5C3310000000000") ∷ c (codes "A100000000000000") ∷ [])
    ≡ record {
      whats = Initiate ∷ Part ∷ Part ∷ Segment 1 ∷ Segment 2 ∷ Part ∷ Part ∷ Part ∷ [];
      ends = record { protocol = Block; bytes = 9; first = codes "123456789"; frames = 8; ending = Done true } ∷ [];
    }
unfolding request_row_in response_row_in shifted crc_with
upload_of_nine = refl

-- the client doesn't confirm the end
upload_unconfirmed : told (c (codes "A400210004000000") ∷ s (codes "C600210009000000") ∷ c (codes "A300000000000000") ∷ s (codes "0131323334353637") ∷ s (codes "8238390000000000") ∷ c (codes "A202040000000000") ∷ s (codes "D5C3310000000000") ∷ c (codes "8000210004000405") ∷ [])
    ≡ record {
      whats = Initiate ∷ Part ∷ Part ∷ Segment 1 ∷ Segment 2 ∷ Part ∷ Part ∷ Part ∷ [];
      ends = record { protocol = Block; bytes = 9; first = codes "123456789"; frames = 8; ending = Aborted Client (record { 0 = 0x05040004 }) } ∷ [];
    }
unfolding request_row_in response_row_in shifted crc_with
upload_unconfirmed = refl

-- answered at once, and in segments: it goes on as that
switched_to_expedited : told (c (codes "A400210004000000") ∷ s (codes "4F002100AA000000") ∷ [])
    ≡ record {
      whats = Initiate ∷ Part ∷ [];
      ends = record { protocol = Expedited; bytes = 1; first = 0xAA ∷ []; frames = 2; ending = Done false } ∷ [];
    }
unfolding request_row_in response_row_in shifted crc_with
switched_to_expedited = refl

switched_to_segments : told (c (codes "A400210004000000") ∷ s (codes "4100210003000000") ∷ c (codes "6000000000000000") ∷ s (codes "0937383900000000") ∷ [])
    ≡ record {
      whats = Initiate ∷ Part ∷ Part ∷ Part ∷ [];
      ends = record { protocol = Segmented; bytes = 3; first = codes "789"; frames = 4; ending = Done false } ∷ [];
    }
unfolding request_row_in response_row_in shifted crc_with
switched_to_segments = refl
