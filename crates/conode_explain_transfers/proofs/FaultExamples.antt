-- What was wrong with the data of an upload of 2100:00 that the client aborts, on both sides of each edge, computed from the
-- definitions. The CRC of "123456789" is 31C3h.
use Rattle.std.proofs.Common.{◌≡◌, ℕ, List, [], ◌∷◌, Option, Some, None, refl, codes}
use Rattle.std.specs.Prelude.{◌++◌}
use Rattle.co_frame.specs.SdoRequests.{request_row_in}
use Rattle.co_frame.specs.SdoResponses.{response_row_in}
use Rattle.conode_explain_transfers.specs.declared.ended.Ended.{Ended}
use Rattle.conode_explain_transfers.specs.declared.ended.Fault.{Fault}
use Rattle.conode_explain_transfers.specs.declared.ended.Fault.TheVariants.{Size, Crc}
use Rattle.conode_explain_transfers.specs.Crc.{shifted, crc_with}
use Rattle.conode_explain_transfers.specs.Followed.{Following, nothing_heard, followed}
use Rattle.conode_explain_transfers.proofs.Dialogues.{Sent, c, s}

-- of each transfer that ended
abbrev fault_and : Option Ended → List (Option Fault) → List (Option Fault)
fault_and None faults = faults
fault_and (Some e) faults = e.fault ∷ faults

abbrev faults_from : Following → List Sent → List (Option Fault)
faults_from following [] = []
faults_from following (sent ∷ later) =
    let step = followed following 0 sent.side sent.bytes in
    fault_and step.says.ended (faults_from step.next later)

abbrev faults : List Sent → List (Option Fault)
faults frames = faults_from nothing_heard frames

abbrev abort : List Sent
abort = c (codes "8000210004000405") ∷ []

-- ---- a block upload that the device ended

-- nine bytes with their CRC in two segments, by the first bytes of the response and of the end
abbrev nine : List ℕ → List ℕ → List Sent → List Sent
nine response end later =
    c (codes "A400210004000000") ∷ s (response ++ codes "000000") ∷ c (codes "A300000000000000") ∷ s (codes "0131323334353637") ∷ s (codes "8238390000000000") ∷ c (codes "A202040000000000") ∷ s (end ++ codes "0000000000") ∷ later

right : faults (nine (codes "C600210009") (codes "D5C331") abort) ≡ None ∷ []
unfolding request_row_in response_row_in shifted crc_with
right = refl

other_crc : faults (nine (codes "C600210009") (codes "D5213F") abort) ≡ Some (Crc 0x3F21 0x31C3) ∷ []
unfolding request_row_in response_row_in shifted crc_with
other_crc = refl

-- which the device doesn't support
no_crc : faults (nine (codes "C200210009") (codes "D5213F") abort) ≡ None ∷ []
unfolding request_row_in response_row_in shifted crc_with
no_crc = refl

one_too_few : faults (nine (codes "C60021000A") (codes "D5C331") abort) ≡ Some (Size 10 9) ∷ []
unfolding request_row_in response_row_in shifted crc_with
one_too_few = refl

one_too_many : faults (nine (codes "C600210008") (codes "D5C331") abort) ≡ Some (Size 8 9) ∷ []
unfolding request_row_in response_row_in shifted crc_with
one_too_many = refl

-- the size is first
both : faults (nine (codes "C60021000A") (codes "D5213F") abort) ≡ Some (Size 10 9) ∷ []
unfolding request_row_in response_row_in shifted crc_with
both = refl

-- no size was indicated
without_size : faults (nine (codes "C400210000") (codes "D5213F") abort) ≡ Some (Crc 0x3F21 0x31C3) ∷ []
unfolding request_row_in response_row_in shifted crc_with
without_size = refl

-- a frame came twice
end_twice : faults (nine (codes "C600210009") (codes "D5213F") (s (codes "D5213F0000000000") ∷ abort)) ≡ None ∷ []
unfolding request_row_in response_row_in shifted crc_with
end_twice = refl

-- the device aborts; the client begins another one, or confirms the end
otherwise : faults (nine (codes "C600210008") (codes "D5213F") (s (codes "8000210000000008") ∷ []))
    ++ faults (nine (codes "C600210008") (codes "D5213F") (c (codes "4000100000000000") ∷ []))
    ++ faults (nine (codes "C600210008") (codes "D5213F") (c (codes "A100000000000000") ∷ []))
    ≡ None ∷ None ∷ None ∷ []
unfolding request_row_in response_row_in shifted crc_with
otherwise = refl

-- ---- before its end

-- by the indicated size, after these segments
abbrev begun : List ℕ → List Sent → List Sent
begun size later = c (codes "A40021007F000000") ∷ s (codes "C2002100" ++ size ++ codes "000000") ∷ c (codes "A300000000000000") ∷ later

abbrev segment : List ℕ → Sent
segment number = s (number ++ codes "41424344454647")

nothing_came : faults (begun (codes "00") abort) ≡ None ∷ []
unfolding request_row_in response_row_in shifted crc_with
nothing_came = refl

seven : faults (begun (codes "07") (segment (codes "01") ∷ abort)) ++ faults (begun (codes "06") (segment (codes "01") ∷ abort)) ≡ None ∷ Some (Size 6 7) ∷ []
unfolding request_row_in response_row_in shifted crc_with
seven = refl

-- the last one has seven unused bytes at most, before and after the acknowledge
last_one : faults (begun (codes "00") (segment (codes "81") ∷ abort)) ++ faults (begun (codes "00") (segment (codes "81") ∷ c (codes "A201020000000000") ∷ abort)) ≡ None ∷ None ∷ []
unfolding request_row_in response_row_in shifted crc_with
last_one = refl

two : faults (begun (codes "07") (segment (codes "01") ∷ segment (codes "82") ∷ abort)) ++ faults (begun (codes "06") (segment (codes "01") ∷ segment (codes "82") ∷ abort)) ≡ None ∷ Some (Size 6 7) ∷ []
unfolding request_row_in response_row_in shifted crc_with
two = refl

two_acknowledged : faults (begun (codes "07") (segment (codes "01") ∷ segment (codes "82") ∷ c (codes "A202020000000000") ∷ abort)) ++ faults (begun (codes "06") (segment (codes "01") ∷ segment (codes "82") ∷ c (codes "A202020000000000") ∷ abort))
    ≡ None ∷ Some (Size 6 7) ∷ []
unfolding request_row_in response_row_in shifted crc_with
two_acknowledged = refl

-- in the next sub-block those before it count; of a segment that is asked for again the bytes count once
next_sub_block : faults (begun (codes "0E") (segment (codes "01") ∷ segment (codes "02") ∷ c (codes "A202020000000000") ∷ abort))
    ++ faults (begun (codes "14") (segment (codes "01") ∷ segment (codes "02") ∷ c (codes "A202020000000000") ∷ segment (codes "01") ∷ abort))
    ++ faults (begun (codes "0E") (segment (codes "01") ∷ segment (codes "02") ∷ c (codes "A201020000000000") ∷ segment (codes "01") ∷ abort))
    ≡ None ∷ Some (Size 20 21) ∷ None ∷ []
unfolding request_row_in response_row_in shifted crc_with
next_sub_block = refl

-- one that comes after a missing one doesn't count; after one that comes again nothing is said
out_of_sequence : faults (begun (codes "07") (segment (codes "01") ∷ segment (codes "03") ∷ abort)) ++ faults (begun (codes "06") (segment (codes "01") ∷ segment (codes "01") ∷ abort)) ≡ None ∷ None ∷ []
unfolding request_row_in response_row_in shifted crc_with
out_of_sequence = refl

-- ---- in segments

abbrev asked : List ℕ → List Sent → List Sent
asked size later = c (codes "4000210000000000") ∷ s (codes "41002100" ++ size ++ codes "000000") ∷ c (codes "6000000000000000") ∷ s (codes "0041424344454647") ∷ later

in_segments : faults (asked (codes "07") abort) ++ faults (asked (codes "06") abort) ≡ None ∷ Some (Size 6 7) ∷ []
unfolding request_row_in response_row_in shifted crc_with
in_segments = refl

-- the next one was asked for; it was asked for twice
asked_for : faults (asked (codes "06") (c (codes "7000000000000000") ∷ abort)) ++ faults (asked (codes "06") (c (codes "7000000000000000") ∷ c (codes "7000000000000000") ∷ abort)) ≡ Some (Size 6 7) ∷ None ∷ []
unfolding request_row_in response_row_in shifted crc_with
asked_for = refl

-- fewer than indicated; before the response; in a download
no_fault : faults (asked (codes "09") abort) ++ faults (c (codes "4000210000000000") ∷ abort)
    ++ faults (c (codes "2100210006000000") ∷ s (codes "6000210000000000") ∷ c (codes "0041424344454647") ∷ s (codes "2000000000000000") ∷ abort)
    ≡ None ∷ None ∷ None ∷ []
unfolding request_row_in response_row_in shifted crc_with
no_fault = refl
