-- Worked expedited and segmented transfers of 2100:00, computed from the definitions.
use Rattle.std.proofs.Common.{◌≡◌, false, [], ◌∷◌, refl, codes}
use Rattle.co_frame.specs.SdoRequests.{request_row_in}
use Rattle.co_frame.specs.SdoResponses.{response_row_in}
use Rattle.conode_explain_transfers.specs.declared.ended.Ending.TheVariants.{Done, Aborted, Unanswered, Repeated as AskedAgain, Interrupted, Irregular, SizeDiffers}
use Rattle.conode_explain_transfers.specs.declared.kinds.Protocol.TheVariants.{Undecided, Expedited, Segmented}
use Rattle.conode_explain_transfers.specs.declared.kinds.Side.TheVariants.{Client, Server}
use Rattle.conode_explain_transfers.specs.declared.kinds.What.TheVariants.{Initiate, Part, Repeated, Overtaken, Unexpected, Stray, BegunBefore}
use Rattle.conode_explain_transfers.specs.Crc.{shifted, crc_with}
use Rattle.conode_explain_transfers.proofs.Dialogues.{hex, c, s, told}

-- ---- expedited

download_of_four : told (c (codes "23002100EFBEADDE") ∷ s (codes "6000210000000000") ∷ [])
    ≡ record {
      whats = Initiate ∷ Part ∷ [];
      ends = record { protocol = Expedited; bytes = 4; first = hex (codes "EFBEADDE"); frames = 2; ending = Done false } ∷ [];
    }
unfolding request_row_in response_row_in shifted crc_with
download_of_four = refl

upload_of_one : told (c (codes "4000210000000000") ∷ s (codes "4F002100AA000000") ∷ [])
    ≡ record {
      whats = Initiate ∷ Part ∷ [];
      ends = record { protocol = Expedited; bytes = 1; first = hex (codes "AA"); frames = 2; ending = Done false } ∷ [];
    }
unfolding request_row_in response_row_in shifted crc_with
upload_of_one = refl

-- an answer of another entry is of a request that this one overtook; this one is answered after it
overtaken_answer : told (c (codes "4000210000000000") ∷ c (codes "4001210000000000") ∷ s (codes "4F002100AA000000") ∷ s (codes "4F012100BB000000") ∷ [])
    ≡ record {
      whats = Initiate ∷ Initiate ∷ Overtaken ∷ Part ∷ [];
      ends = record { protocol = Undecided; bytes = 0; first = []; frames = 1; ending = Unanswered }
          ∷ record { protocol = Expedited; bytes = 1; first = hex (codes "BB"); frames = 2; ending = Done false } ∷ [];
    }
unfolding request_row_in response_row_in shifted crc_with
overtaken_answer = refl

-- a response to initiate inside another transfer: the request of the one is missing, and what comes after it may be of either
initiate_lost : told (c (codes "2000210000000000") ∷ s (codes "6000210000000000") ∷ s (codes "6001210000000000") ∷ c (codes "0131323334353637") ∷ s (codes "2000000000000000") ∷ [])
    ≡ record {
      whats = Initiate ∷ Part ∷ Unexpected ∷ Part ∷ Part ∷ [];
      ends = record { protocol = Segmented; bytes = 7; first = codes "1234567"; frames = 5; ending = Irregular } ∷ [];
    }
unfolding request_row_in response_row_in shifted crc_with
initiate_lost = refl

-- the same request again
asked_again : told (c (codes "4000210000000000") ∷ c (codes "4000210000000000") ∷ s (codes "4F002100AA000000") ∷ [])
    ≡ record {
      whats = Initiate ∷ Initiate ∷ Part ∷ [];
      ends = record { protocol = Undecided; bytes = 0; first = []; frames = 1; ending = AskedAgain }
          ∷ record { protocol = Expedited; bytes = 1; first = hex (codes "AA"); frames = 2; ending = Done false } ∷ [];
    }
unfolding request_row_in response_row_in shifted crc_with
asked_again = refl

-- an upload isn't done by the confirmation of a download, and what isn't SDO is none of its frames
wrong_answers : told (c (codes "4000210000000000") ∷ s (codes "6000210000000000") ∷ s (codes "FF00210000000000") ∷ s (codes "4F002100") ∷ s (codes "4F002100AA000000") ∷ [])
    ≡ record {
      whats = Initiate ∷ Unexpected ∷ Unexpected ∷ Unexpected ∷ Part ∷ [];
      ends = record { protocol = Expedited; bytes = 1; first = hex (codes "AA"); frames = 5; ending = Irregular } ∷ [];
    }
unfolding request_row_in response_row_in shifted crc_with
wrong_answers = refl

-- ---- aborted: by the server with 06020000h, by the client with 05040000h

refused : told (c (codes "4000210000000000") ∷ s (codes "8000210000000206") ∷ s (codes "4F002100AA000000") ∷ [])
    ≡ record {
      whats = Initiate ∷ Part ∷ Stray ∷ [];
      ends = record { protocol = Undecided; bytes = 0; first = []; frames = 2; ending = Aborted Server (record { 0 = 0x06020000 }) } ∷ [];
    }
unfolding request_row_in response_row_in shifted crc_with
refused = refl

given_up : told (c (codes "210021000A000000") ∷ s (codes "6000210000000000") ∷ c (codes "0030313233343536") ∷ c (codes "8000210000000405") ∷ [])
    ≡ record {
      whats = Initiate ∷ Part ∷ Part ∷ Part ∷ [];
      ends = record { protocol = Segmented; bytes = 0; first = []; frames = 4; ending = Aborted Client (record { 0 = 0x05040000 }) } ∷ [];
    }
unfolding request_row_in response_row_in shifted crc_with
given_up = refl

-- ---- segmented downloads

download_of_ten : told (c (codes "210021000A000000") ∷ s (codes "6000210000000000") ∷ c (codes "0030313233343536") ∷ s (codes "2000000000000000") ∷ c (codes "1937383900000000") ∷ s (codes "3000000000000000") ∷ [])
    ≡ record {
      whats = Initiate ∷ Part ∷ Part ∷ Part ∷ Part ∷ Part ∷ [];
      ends = record { protocol = Segmented; bytes = 10; first = codes "0123456789"; frames = 6; ending = Done false } ∷ [];
    }
unfolding request_row_in response_row_in shifted crc_with
download_of_ten = refl

-- ten bytes indicated, nine came
one_too_few : told (c (codes "210021000A000000") ∷ s (codes "6000210000000000") ∷ c (codes "0030313233343536") ∷ s (codes "2000000000000000") ∷ c (codes "1B37380000000000") ∷ s (codes "3000000000000000") ∷ [])
    ≡ record {
      whats = Initiate ∷ Part ∷ Part ∷ Part ∷ Part ∷ Part ∷ [];
      ends = record { protocol = Segmented; bytes = 9; first = codes "012345678"; frames = 6; ending = SizeDiffers 10 } ∷ [];
    }
unfolding request_row_in response_row_in shifted crc_with
one_too_few = refl

-- the last segment isn't confirmed
interrupted_download : told (c (codes "200021000A000000") ∷ s (codes "6000210000000000") ∷ c (codes "0F00000000000000") ∷ c (codes "4001210000000000") ∷ [])
    ≡ record {
      whats = Initiate ∷ Part ∷ Part ∷ Initiate ∷ [];
      ends = record { protocol = Segmented; bytes = 0; first = []; frames = 3; ending = Unanswered } ∷ [];
    }
unfolding request_row_in response_row_in shifted crc_with
interrupted_download = refl

-- the client had its turn
left_download : told (c (codes "200021000A000000") ∷ s (codes "6000210000000000") ∷ c (codes "4001210000000000") ∷ [])
    ≡ record {
      whats = Initiate ∷ Part ∷ Initiate ∷ [];
      ends = record { protocol = Segmented; bytes = 0; first = []; frames = 2; ending = Interrupted } ∷ [];
    }
unfolding request_row_in response_row_in shifted crc_with
left_download = refl

-- a segment twice in the recording
segment_twice : told (c (codes "2000210000000000") ∷ s (codes "6000210000000000") ∷ c (codes "0030313233343536") ∷ c (codes "0030313233343536") ∷ s (codes "2000000000000000") ∷ c (codes "1937383900000000") ∷ s (codes "3000000000000000") ∷ [])
    ≡ record {
      whats = Initiate ∷ Part ∷ Part ∷ Repeated ∷ Part ∷ Part ∷ Part ∷ [];
      ends = record { protocol = Segmented; bytes = 10; first = codes "0123456789"; frames = 7; ending = Irregular } ∷ [];
    }
unfolding request_row_in response_row_in shifted crc_with
segment_twice = refl

-- the confirmation of the first segment is lost in the recording; and so is the first segment
confirmation_lost : told (c (codes "2000210000000000") ∷ s (codes "6000210000000000") ∷ c (codes "0030313233343536") ∷ c (codes "1937383900000000") ∷ s (codes "3000000000000000") ∷ [])
    ≡ record {
      whats = Initiate ∷ Part ∷ Part ∷ Part ∷ Part ∷ [];
      ends = record { protocol = Segmented; bytes = 10; first = codes "0123456789"; frames = 5; ending = Irregular } ∷ [];
    }
unfolding request_row_in response_row_in shifted crc_with
confirmation_lost = refl

segment_lost : told (c (codes "2000210000000000") ∷ s (codes "6000210000000000") ∷ s (codes "2000000000000000") ∷ c (codes "1937383900000000") ∷ s (codes "3000000000000000") ∷ [])
    ≡ record {
      whats = Initiate ∷ Part ∷ Part ∷ Part ∷ Part ∷ [];
      ends = record { protocol = Segmented; bytes = 3; first = codes "789"; frames = 5; ending = Irregular } ∷ [];
    }
unfolding request_row_in response_row_in shifted crc_with
segment_lost = refl

-- ---- segmented uploads

upload_of_ten : told (c (codes "4000210000000000") ∷ s (codes "410021000A000000") ∷ c (codes "6000000000000000") ∷ s (codes "0030313233343536") ∷ c (codes "7000000000000000") ∷ s (codes "1937383900000000") ∷ [])
    ≡ record {
      whats = Initiate ∷ Part ∷ Part ∷ Part ∷ Part ∷ Part ∷ [];
      ends = record { protocol = Segmented; bytes = 10; first = codes "0123456789"; frames = 6; ending = Done false } ∷ [];
    }
unfolding request_row_in response_row_in shifted crc_with
upload_of_ten = refl

-- an empty value
upload_of_none : told (c (codes "4000210000000000") ∷ s (codes "4100210000000000") ∷ c (codes "6000000000000000") ∷ s (codes "0F00000000000000") ∷ [])
    ≡ record {
      whats = Initiate ∷ Part ∷ Part ∷ Part ∷ [];
      ends = record { protocol = Segmented; bytes = 0; first = []; frames = 4; ending = Done false } ∷ [];
    }
unfolding request_row_in response_row_in shifted crc_with
upload_of_none = refl

-- the request of the last segment is lost in the recording, and the segment before it
request_lost : told (c (codes "4000210000000000") ∷ s (codes "410021000A000000") ∷ c (codes "6000000000000000") ∷ c (codes "7000000000000000") ∷ s (codes "1937383900000000") ∷ [])
    ≡ record {
      whats = Initiate ∷ Part ∷ Part ∷ Part ∷ Part ∷ [];
      ends = record { protocol = Segmented; bytes = 3; first = codes "789"; frames = 5; ending = Irregular } ∷ [];
    }
unfolding request_row_in response_row_in shifted crc_with
request_lost = refl

-- ---- a recording that begins in the midst of a transfer

begun_before : told (c (codes "0030313233343536") ∷ s (codes "2000000000000000") ∷ c (codes "4000210000000000") ∷ s (codes "4F002100AA000000") ∷ s (codes "3000000000000000") ∷ [])
    ≡ record {
      whats = BegunBefore ∷ BegunBefore ∷ Initiate ∷ Part ∷ Stray ∷ [];
      ends = record { protocol = Expedited; bytes = 1; first = hex (codes "AA"); frames = 2; ending = Done false } ∷ [];
    }
unfolding request_row_in response_row_in shifted crc_with
begun_before = refl
