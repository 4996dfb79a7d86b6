-- After which block transfers an earlier request may still be answered, and which frames come in their turn, on both sides of each edge,
-- computed from the definitions.
use Rattle.std.proofs.Common.{◌≡◌, ℕ, ◌+◌, Bool, List, [], ◌∷◌, true, false, map, Option, Some, None, refl}
use Rattle.co_frame.specs.FrameContent.{FrameContent}
use Rattle.co_frame.specs.SdoRequests.{request_row_in}
use Rattle.co_frame.specs.SdoResponses.{response_row_in}
use Rattle.conode_explain_transfers.specs.declared.ended.Ending.{Ending}
use Rattle.conode_explain_transfers.specs.declared.ended.Ending.TheVariants.{Aborted, CrcDiffers, Done, Irregular, SizeDiffers}
use Rattle.conode_explain_transfers.specs.declared.kinds.Side.{Side}
use Rattle.conode_explain_transfers.specs.declared.kinds.Side.TheVariants.{Client, Server}
use Rattle.conode_compare_transfers.specs.declared.dialogue.Dialogue.{Dialogue}
use Rattle.conode_compare_transfers.specs.Breaches.{breach_at}
use Rattle.conode_compare_transfers.specs.Dialogues.{comes_in_turn, confirms_all, dialogue_heard, exchange_in, is_certain, is_known_end, nothing_asked, owes}
use Rattle.conode_compare_transfers.specs.NewestFrames.{newest_after, newest_with}

-- ---- the rule

-- nothing left a doubt, or only what came before the initiate request; not with the same stamp, nor later
confirmed : map (λ doubted. confirms_all Server doubted 2000000) (None ∷ Some 1999999 ∷ Some 2000000 ∷ Some 2000001 ∷ [])
    ≡ true ∷ true ∷ false ∷ false ∷ []
confirmed = refl

-- the client's confirmation isn't answered
not_by_client : map (λ doubted. confirms_all Client doubted 2000000) (None ∷ Some 1999999 ∷ []) ≡ false ∷ false ∷ []
not_by_client = refl

abbrev ends : Bool → Bool → Ending → Bool
ends confirmed block ending =
    is_known_end true true confirmed block ending (record { index = 0; sub = 0 }) (record { id = 0x585; bytes = 0xA1 ∷ 0 ∷ 0 ∷ 0 ∷ 0 ∷ 0 ∷ 0 ∷ 0 ∷ [] })

known_ends : ends true true (Done false) ∷ ends false false (Done true) ∷ ends false true (Done true) ∷ [] ≡ true ∷ true ∷ false ∷ []
known_ends = refl

-- whatever is confirmed: frames are missing, and another number of bytes or another CRC came
unknown_ends : map (ends true true) (Irregular ∷ SizeDiffers 4 ∷ CrcDiffers 1 2 ∷ []) ≡ false ∷ false ∷ false ∷ []
unknown_ends = refl

-- ---- a block download

-- a frame of an end, a millisecond after the one before
abbrev sent : Dialogue → ℕ → Side → List ℕ → Dialogue
sent dialogue micros side bytes = dialogue_heard 1000 0 dialogue micros side (record { id = 0x585; bytes = bytes })

-- 2000:01 is written in blocks, of so many bytes, which is answered
abbrev begun : Dialogue → ℕ → Dialogue
begun before size =
    sent (sent before 2000000 Client (0xC2 ∷ 0 ∷ 0x20 ∷ 1 ∷ size ∷ 0 ∷ 0 ∷ 0 ∷ [])) 2001000 Server (0xA0 ∷ 0 ∷ 0x20 ∷ 1 ∷ 127 ∷ 0 ∷ 0 ∷ 0 ∷ [])

-- one segment, the last, which is acknowledged
abbrev acknowledged : Dialogue → Dialogue
acknowledged before =
    sent (sent before 2002000 Client (0x81 ∷ 1 ∷ 2 ∷ 3 ∷ 4 ∷ 0 ∷ 0 ∷ 0 ∷ [])) 2003000 Server (0xA2 ∷ 1 ∷ 127 ∷ 0 ∷ 0 ∷ 0 ∷ 0 ∷ 0 ∷ [])

-- the client's end, with four bytes in the last segment, and the confirmation
abbrev end : Dialogue → Dialogue
end before = sent before 2004000 Client (0xCD ∷ 0 ∷ 0 ∷ 0 ∷ 0 ∷ 0 ∷ 0 ∷ 0 ∷ [])

abbrev confirmation : Dialogue → ℕ → Dialogue
confirmation before micros = sent before micros Server (0xA1 ∷ 0 ∷ 0 ∷ 0 ∷ 0 ∷ 0 ∷ 0 ∷ 0 ∷ [])

abbrev downloaded : Dialogue → ℕ → Dialogue
downloaded before size = confirmation (end (acknowledged (begun before size))) 2005000

abbrev request : Dialogue → ℕ → Dialogue
request before micros = sent before micros Client (0x40 ∷ 0 ∷ 0x10 ∷ 0 ∷ 0 ∷ 0 ∷ 0 ∷ 0 ∷ [])

-- so an answer is owed to the next request, 1 ms later
no_doubt : (downloaded nothing_asked 4).doubted ∷ [] ≡ None ∷ []
unfolding dialogue_heard is_certain newest_after newest_with request_row_in response_row_in
no_doubt = refl

owed_next : owes 1000 0 (request (downloaded nothing_asked 4) 2006000) ≡ true
unfolding dialogue_heard is_certain newest_after newest_with request_row_in response_row_in
owed_next = refl

-- another number of bytes than was indicated; no end of the client, which may be missing in the recording
doubted_ends : (downloaded nothing_asked 5).doubted ∷ (confirmation (acknowledged (begun nothing_asked 4)) 2005000).doubted ∷ [] ≡ Some 2005000 ∷ Some 2005000 ∷ []
unfolding dialogue_heard is_certain newest_after newest_with request_row_in response_row_in
doubted_ends = refl

-- what left a doubt before the initiate request does so still, and no longer: so of block downloads right after one another those are
-- judged that begin later than an answer may take after it
doubted_before : map (λ doubted. (downloaded (record nothing_asked { doubted = Some doubted }) 4).doubted) (1999999 ∷ 2000000 ∷ [])
    ≡ Some 1999999 ∷ Some 2005000 ∷ []
unfolding dialogue_heard is_certain newest_after newest_with request_row_in response_row_in
doubted_before = refl

-- the request is in doubt: the entry is asked for again, and segments of another block download may be awaited
doubted_request : map (λ before. (downloaded before 4).doubted)
    (record nothing_asked { doubted = Some 1000000; entry = Some (record { index = 0x2000; sub = 1 }) } ∷ record nothing_asked { sub_block = true } ∷ [])
    ≡ Some 2005000 ∷ Some 2005000 ∷ []
unfolding dialogue_heard is_certain newest_after newest_with request_row_in response_row_in
doubted_request = refl

-- a segment that isn't the next one: the client sends it once more, in the next sub-block
abbrev sent_again : Dialogue
sent_again = sent
    (sent (begun nothing_asked 4) 2001300 Client (0x82 ∷ 1 ∷ 2 ∷ 3 ∷ 4 ∷ 0 ∷ 0 ∷ 0 ∷ []))
    2001600
    Server
    (0xA2 ∷ 0 ∷ 127 ∷ 0 ∷ 0 ∷ 0 ∷ 0 ∷ 0 ∷ [])

doubted_segment : sent_again.doubted ∷ (confirmation (end (acknowledged sent_again)) 2005000).doubted ∷ [] ≡ Some 2001300 ∷ Some 2005000 ∷ []
unfolding dialogue_heard is_certain newest_after newest_with request_row_in response_row_in
doubted_segment = refl

-- the client sends its end twice, of which the device may confirm either
doubted_twice : (confirmation (sent (end (acknowledged (begun nothing_asked 4))) 2004500 Client (0xCD ∷ 0 ∷ 0 ∷ 0 ∷ 0 ∷ 0 ∷ 0 ∷ 0 ∷ [])) 2005000).doubted ≡ Some 2005000
unfolding dialogue_heard is_certain newest_after newest_with request_row_in response_row_in
doubted_twice = refl

-- after the confirmation: another one is an answer without a request; the client's end once more may be answered
doubted_after_end : (confirmation (downloaded nothing_asked 4) 2006000).doubted ∷ (sent (downloaded nothing_asked 4) 2006000 Client (0xCD ∷ 0 ∷ 0 ∷ 0 ∷ 0 ∷ 0 ∷ 0 ∷ 0 ∷ [])).doubted ∷ []
    ≡ Some 2006000 ∷ Some 2006000 ∷ []
unfolding dialogue_heard is_certain newest_after newest_with request_row_in response_row_in
doubted_after_end = refl

-- ---- a block upload

-- of four bytes: the client starts it; it acknowledges the only segment; the device ends it, and the client confirms that
abbrev started : Dialogue
started = sent
    (sent (sent nothing_asked 2000000 Client (0xA0 ∷ 0 ∷ 0x20 ∷ 1 ∷ 127 ∷ 0 ∷ 0 ∷ 0 ∷ [])) 2001000 Server (0xC2 ∷ 0 ∷ 0x20 ∷ 1 ∷ 4 ∷ 0 ∷ 0 ∷ 0 ∷ []))
    2002000
    Client
    (0xA3 ∷ 0 ∷ 0 ∷ 0 ∷ 0 ∷ 0 ∷ 0 ∷ 0 ∷ [])

abbrev segment_taken : Dialogue
segment_taken = sent (sent started 2003000 Server (0x81 ∷ 1 ∷ 2 ∷ 3 ∷ 4 ∷ 0 ∷ 0 ∷ 0 ∷ [])) 2004000 Client (0xA2 ∷ 1 ∷ 127 ∷ 0 ∷ 0 ∷ 0 ∷ 0 ∷ 0 ∷ [])

abbrev uploaded : Dialogue
uploaded = sent
    (sent segment_taken 2005000 Server (0xCD ∷ 0 ∷ 0 ∷ 0 ∷ 0 ∷ 0 ∷ 0 ∷ 0 ∷ []))
    2006000
    Client
    (0xA1 ∷ 0 ∷ 0 ∷ 0 ∷ 0 ∷ 0 ∷ 0 ∷ 0 ∷ [])

-- whether the device has taken that isn't known
doubted_upload : uploaded.doubted ≡ Some 2006000
unfolding dialogue_heard is_certain newest_after newest_with request_row_in response_row_in
doubted_upload = refl

-- ---- which frames come in their turn

abbrev in_turn_as : Dialogue → ℕ → FrameContent → Bool
in_turn_as dialogue micros frame = comes_in_turn dialogue.newest (exchange_in 1000 0 dialogue micros Server frame).heard frame

abbrev in_turn : Dialogue → ℕ → List ℕ → Bool
in_turn dialogue micros bytes = in_turn_as dialogue micros (record { id = 0x585; bytes = bytes })

-- the answer to initiate, the acknowledge and the confirmation of a block download
download_turns : in_turn (sent nothing_asked 2000000 Client (0xC2 ∷ 0 ∷ 0x20 ∷ 1 ∷ 4 ∷ 0 ∷ 0 ∷ 0 ∷ [])) 2001000 (0xA0 ∷ 0 ∷ 0x20 ∷ 1 ∷ 127 ∷ 0 ∷ 0 ∷ 0 ∷ [])
    ∷ in_turn (sent (begun nothing_asked 4) 2002000 Client (0x81 ∷ 1 ∷ 2 ∷ 3 ∷ 4 ∷ 0 ∷ 0 ∷ 0 ∷ [])) 2003000 (0xA2 ∷ 1 ∷ 127 ∷ 0 ∷ 0 ∷ 0 ∷ 0 ∷ 0 ∷ [])
    ∷ in_turn (end (acknowledged (begun nothing_asked 4))) 2005000 (0xA1 ∷ 0 ∷ 0 ∷ 0 ∷ 0 ∷ 0 ∷ 0 ∷ 0 ∷ []) ∷ []
    ≡ true ∷ true ∷ true ∷ []
unfolding comes_in_turn dialogue_heard exchange_in is_certain newest_after newest_with breach_at request_row_in response_row_in
download_turns = refl

-- an upload in segments that begins within a second after the recording
abbrev early : Dialogue
early = sent (sent nothing_asked 900000 Client (0x40 ∷ 0 ∷ 0x20 ∷ 1 ∷ 0 ∷ 0 ∷ 0 ∷ 0 ∷ [])) 1500000 Server (0x41 ∷ 0 ∷ 0x20 ∷ 1 ∷ 9 ∷ 0 ∷ 0 ∷ 0 ∷ [])

-- another number of bytes; a second acknowledge; an abort in place of the acknowledge; of a transfer whose request came within a second
-- after the recording began; and without a transfer
not_in_turn : in_turn (end (acknowledged (begun nothing_asked 5))) 2005000 (0xA1 ∷ 0 ∷ 0 ∷ 0 ∷ 0 ∷ 0 ∷ 0 ∷ 0 ∷ [])
    ∷ in_turn (begun nothing_asked 4) 2003000 (0xA2 ∷ 0 ∷ 127 ∷ 0 ∷ 0 ∷ 0 ∷ 0 ∷ 0 ∷ [])
    ∷ in_turn (sent (begun nothing_asked 4) 2002000 Client (0x81 ∷ 1 ∷ 2 ∷ 3 ∷ 4 ∷ 0 ∷ 0 ∷ 0 ∷ [])) 2003000 (0x80 ∷ 0 ∷ 0x20 ∷ 1 ∷ 0 ∷ 0 ∷ 4 ∷ 5 ∷ [])
    ∷ in_turn (sent early 1550000 Client (0x60 ∷ 0 ∷ 0 ∷ 0 ∷ 0 ∷ 0 ∷ 0 ∷ 0 ∷ [])) 1600000 (0 ∷ 1 ∷ 2 ∷ 3 ∷ 4 ∷ 5 ∷ 6 ∷ 7 ∷ [])
    ∷ in_turn nothing_asked 2000000 (0x60 ∷ 0 ∷ 0x20 ∷ 1 ∷ 0 ∷ 0 ∷ 0 ∷ 0 ∷ []) ∷ []
    ≡ false ∷ false ∷ false ∷ false ∷ false ∷ []
unfolding comes_in_turn dialogue_heard exchange_in is_certain newest_after newest_with breach_at request_row_in response_row_in
not_in_turn = refl

-- segments of an upload, with the toggle bit of their request and without: the second is a difference
abbrev asked_segment : Dialogue
asked_segment = sent
    (sent (sent nothing_asked 2000000 Client (0x40 ∷ 0 ∷ 0x20 ∷ 1 ∷ 0 ∷ 0 ∷ 0 ∷ 0 ∷ [])) 2001000 Server (0x41 ∷ 0 ∷ 0x20 ∷ 1 ∷ 9 ∷ 0 ∷ 0 ∷ 0 ∷ []))
    2002000
    Client
    (0x60 ∷ 0 ∷ 0 ∷ 0 ∷ 0 ∷ 0 ∷ 0 ∷ 0 ∷ [])

segment_turns : map (λ first. in_turn asked_segment 2003000 (first ∷ 1 ∷ 2 ∷ 3 ∷ 4 ∷ 5 ∷ 6 ∷ 7 ∷ [])) (0 ∷ 0x10 ∷ []) ≡ true ∷ false ∷ []
unfolding comes_in_turn dialogue_heard exchange_in is_certain newest_after newest_with breach_at request_row_in response_row_in
segment_turns = refl

-- the segment of a block upload; not its end, which counts with the client's confirmation
upload_turns : in_turn started 2003000 (0x81 ∷ 1 ∷ 2 ∷ 3 ∷ 4 ∷ 0 ∷ 0 ∷ 0 ∷ []) ∷ in_turn segment_taken 2005000 (0xCD ∷ 0 ∷ 0 ∷ 0 ∷ 0 ∷ 0 ∷ 0 ∷ 0 ∷ []) ∷ []
    ≡ true ∷ false ∷ []
unfolding comes_in_turn dialogue_heard exchange_in is_certain newest_after newest_with breach_at request_row_in response_row_in
upload_turns = refl
