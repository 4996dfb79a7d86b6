-- Segments that come after an acknowledge (CiA 301, 7.2.4.3.10 and 7.2.4.3.14): the last one again, and those that don't begin with 1.
use Rattle.std.proofs.Common.{◌≡◌, ℕ, true, false, List, [], ◌∷◌, ◌++◌, refl, codes}
use Rattle.std.specs.Prelude.{Bool, map}
use Rattle.std.specs.Option.{option_map_or}
use Rattle.co_frame.specs.SdoRequests.{request_row_in}
use Rattle.co_frame.specs.SdoResponses.{response_row_in}
use Rattle.conode_explain_transfers.specs.declared.ended.Ending.TheVariants.{Aborted, Irregular}
use Rattle.conode_explain_transfers.specs.declared.kinds.Protocol.TheVariants.{Block}
use Rattle.conode_explain_transfers.specs.declared.kinds.Side.TheVariants.{Client, Server}
use Rattle.conode_explain_transfers.specs.declared.kinds.What.TheVariants.{Initiate, Part, Segment, OutOfSequence, LastAgain, Unexpected}
use Rattle.conode_explain_transfers.specs.declared.transfer.Transfer.{Transfer}
use Rattle.conode_explain_transfers.specs.Crc.{shifted, crc_with}
use Rattle.conode_explain_transfers.specs.Followed.{nothing_heard}
use Rattle.conode_explain_transfers.specs.Hearings.{is_again_acknowledged, is_last_again}
use Rattle.conode_explain_transfers.proofs.Dialogues.{Sent, c, heard_all, hex, s, shown}

-- the data of a segment, and of two
abbrev seven : List ℕ
seven = 0x41 ∷ 0x42 ∷ 0x43 ∷ 0x44 ∷ 0x45 ∷ 0x46 ∷ 0x47 ∷ []

abbrev fourteen : List ℕ
fourteen = 0x41 ∷ 0x42 ∷ 0x43 ∷ 0x44 ∷ 0x45 ∷ 0x46 ∷ 0x47 ∷ 0x41 ∷ 0x42 ∷ 0x43 ∷ 0x44 ∷ 0x45 ∷ 0x46 ∷ 0x47 ∷ []

-- a segment of a block download, of a block upload
abbrev segment : ℕ → Sent
segment first = record { side = Client; bytes = first ∷ 0x41 ∷ 0x42 ∷ 0x43 ∷ 0x44 ∷ 0x45 ∷ 0x46 ∷ 0x47 ∷ [] }

abbrev uploaded : ℕ → Sent
uploaded first = record { side = Server; bytes = first ∷ 0x41 ∷ 0x42 ∷ 0x43 ∷ 0x44 ∷ 0x45 ∷ 0x46 ∷ 0x47 ∷ [] }

-- a fact of the open transfer, after these frames
abbrev holds_after : List Sent → (Transfer → Bool) → Bool
holds_after frames fact = option_map_or fact (heard_all nothing_heard frames).transfer false

-- ---- the last segment again

-- 2100:00 is written in blocks, two segments, and the last one is acknowledged
abbrev acknowledged : List Sent
acknowledged = c (codes "C000210000000000") ∷ s (codes "A000210004000000") ∷ segment 1 ∷ segment 0x82 ∷ s (codes "A202040000000000") ∷ []

-- 82h is in the recording twice: it isn't an abort, and the transfer ends with its end
last_again : shown (acknowledged ++ segment 0x82 ∷ c (codes "C100000000000000") ∷ s (codes "A100000000000000") ∷ [])
    ≡ record {
      whats = Initiate ∷ Part ∷ Segment 1 ∷ Segment 2 ∷ Part ∷ LastAgain 2 ∷ Part ∷ Part ∷ [];
      ends = record { protocol = Block; bytes = 14; first = fourteen; frames = 8; ending = Irregular } ∷ [];
    }
unfolding request_row_in response_row_in shifted crc_with
last_again = refl

-- of an upload too
last_uploaded_again : shown (c (codes "A00021007F000000") ∷ s (codes "C000210000000000") ∷ c (codes "A300000000000000") ∷ uploaded 0x81 ∷ c (codes "A2017F0000000000") ∷ uploaded 0x81 ∷ s (codes "C100000000000000") ∷ c (codes "A100000000000000") ∷ [])
    ≡ record {
      whats = Initiate ∷ Part ∷ Part ∷ Segment 1 ∷ Part ∷ LastAgain 1 ∷ Part ∷ Part ∷ [];
      ends = record { protocol = Block; bytes = 7; first = seven; frames = 8; ending = Irregular } ∷ [];
    }
unfolding request_row_in response_row_in shifted crc_with
last_uploaded_again = refl

-- another number, 80h, that of the other end, and one after the end are aborts
aborts : map (λ frames. (shown (acknowledged ++ frames)).ends)
    ((segment 0x83 ∷ []) ∷ (segment 0x81 ∷ []) ∷ (segment 0x80 ∷ []) ∷ (uploaded 0x82 ∷ []) ∷ (c (codes "C100000000000000") ∷ segment 0x82 ∷ []) ∷ [])
    ≡ (record { protocol = Block; bytes = 0; first = []; frames = 6; ending = Aborted Client (record { 0 = 0x47464544 }) } ∷ [])
    ∷ (record { protocol = Block; bytes = 0; first = []; frames = 6; ending = Aborted Client (record { 0 = 0x47464544 }) } ∷ [])
    ∷ (record { protocol = Block; bytes = 0; first = []; frames = 6; ending = Aborted Client (record { 0 = 0x47464544 }) } ∷ [])
    ∷ (record { protocol = Block; bytes = 0; first = []; frames = 6; ending = Aborted Server (record { 0 = 0x47464544 }) } ∷ [])
    ∷ (record { protocol = Block; bytes = 14; first = fourteen; frames = 7; ending = Aborted Client (record { 0 = 0x47464544 }) } ∷ [])
    ∷ []
unfolding request_row_in response_row_in shifted crc_with
aborts = refl

-- 31 is the highest number, and a segment has eight bytes; before the acknowledge it is as before
again_at : map (λ next. map (λ bytes. holds_after acknowledged (λ t. is_again_acknowledged (record t { next_number = next }) Client bytes))
    ((segment 0x82).bytes ∷ (segment 0x9F).bytes ∷ (segment 0xA0).bytes ∷ (segment 2).bytes ∷ hex (codes "82414243444546") ∷ []))
    (3 ∷ 32 ∷ 33 ∷ [])
    ≡ (true ∷ false ∷ false ∷ false ∷ false ∷ []) ∷ (false ∷ true ∷ false ∷ false ∷ false ∷ []) ∷ (false ∷ false ∷ false ∷ false ∷ false ∷ []) ∷ []
unfolding request_row_in response_row_in shifted crc_with
again_at = refl

not_before : holds_after (c (codes "C000210000000000") ∷ s (codes "A000210004000000") ∷ segment 1 ∷ segment 0x82 ∷ []) (λ t. is_again_acknowledged t Client (segment 0x82).bytes) ≡ false
unfolding request_row_in response_row_in shifted crc_with
not_before = refl

-- with a higher number it is named, also after the acknowledge; after the end it isn't
higher : map (λ frames. holds_after (acknowledged ++ frames) (λ t. is_last_again (record t { next_number = 102 }) Client (segment 0xE5).bytes)) ([] ∷ (c (codes "C100000000000000") ∷ []) ∷ [])
    ≡ true ∷ false ∷ []
unfolding request_row_in response_row_in shifted crc_with
higher = refl

-- ---- segments after an acknowledge of fewer than came

-- Segments 1 and 2 of the second sub-block and its acknowledge are missing in the recording. Segments 3 and 4 come after an acknowledge of fewer
-- than came, but nothing shows that they were under way, and will be sent again: the transfer isn't done
sub_block_missed : shown (c (codes "C000210000000000") ∷ s (codes "A000210002000000") ∷ segment 1 ∷ segment 2 ∷ s (codes "A201040000000000") ∷ segment 3 ∷ segment 4 ∷ segment 0x81 ∷ s (codes "A201040000000000") ∷ c (codes "C100000000000000") ∷ s (codes "A100000000000000") ∷ [])
    ≡ record {
      whats = Initiate ∷ Part ∷ Segment 1 ∷ Segment 2 ∷ Part ∷ OutOfSequence 3 1 ∷ Segment 4 ∷ OutOfSequence 1 5 ∷ Part ∷ Unexpected ∷ Part ∷ [];
      ends = record { protocol = Block; bytes = 7; first = seven; frames = 11; ending = Irregular } ∷ [];
    }
unfolding request_row_in response_row_in shifted crc_with
sub_block_missed = refl
