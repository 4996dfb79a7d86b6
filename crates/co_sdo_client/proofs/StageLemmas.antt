-- One more answer: how far the transfer then is, and what is held for it.
use Rattle.std.proofs.Common.{◌≡◌, ℕ, zero, suc, ◌+◌, ◌%◌, ◌<◌, Bool, true, false, not, cond, List, [], ◌∷◌, length, Option, Some, None, refl, sym, ap, ◌∙◌, arith}
use Rattle.std.specs.Prelude.{◌==◌, ◌||◌}
use Rattle.std.specs.Option.{option_map_or}
use Rattle.std.proofs.lemmas.Bool.{false≢true}
use Rattle.std.proofs.Math.Nat.{suc-mod, mod-lt}
use Rattle.co_frame.specs.BlockSegments.{block_segment_in}
use Rattle.co_frame.specs.SdoResponses.{response_in}
use Rattle.co_frame.specs.declared.block_segment.BlockSegment.{BlockSegment}
use Rattle.co_frame.specs.declared.sdo_response.SdoResponse.{SdoResponse}
use Rattle.co_frame.specs.declared.sdo_response.SdoResponse.TheVariants.{Abort, BlockDownloadDone, BlockUploadEnd}
use Rattle.co_sdo_client.specs.declared.stage.Stage.TheVariants.{Download, Upload, BlockDownload, BlockDownloadEnded, SubBlock, LastTaken}
use Rattle.co_sdo_client.specs.declared.transfer.Transfer.{Transfer}
use Rattle.co_sdo_client.specs.declared.transfer.Transfer.TheVariants.{ExpeditedDownload, SegmentedDownload, BlockDownload as InBlocks, SegmentedUpload, BlockUpload}
use Rattle.co_frame.specs.declared.sdo_request.SdoRequest.TheVariants.{BlockUploadEnd as UploadEnd}
use Rattle.co_sdo_client.specs.Calls.{Request, Call, Answers, with_answer}
use Rattle.co_sdo_client.specs.Segments.{is_odd, bytes_of, transfer_of, segment_count, sub_block_length}
use Rattle.co_sdo_client.specs.SubBlocks.{ends_sub_block, sub_block, segment_taken, and_segment, taken_segments, is_last_taken, has_last}
use Rattle.co_sdo_client.specs.Stages.{size_by, acknowledged_by, acknowledged, block_size_by, newest, stage_by, stage_since, held_by, held_since, block_download_stage, block_upload_stage}
use Rattle.co_sdo_client.specs.Verdicts.{Verdict, Ends, GivesUp, above_indicated, below_indicated, no_room, without, unless_fault, response_verdict, answer_verdict, segment_next, taken_with, held_with}
use Rattle.co_sdo_client.specs.Steps.{first_stage, frame_stage, frame_held, sub_block_stage}
use Rattle.co_sdo_client.proofs.EventLemmas.{goes_on}

-- ---- the first answer

pub first_is : (call : Call) (t : Transfer) (frame : List ℕ) → first_stage call t (response_in frame) ≡ stage_by call t (record { first = frame; later = [] })
first_is call ExpeditedDownload frame = refl
first_is call SegmentedDownload frame = refl
first_is call InBlocks frame = refl
first_is call SegmentedUpload frame = refl
first_is call BlockUpload frame = refl

first_held : (t : Transfer) (frame : List ℕ) → [] ≡ held_by t (record { first = frame; later = [] })
first_held ExpeditedDownload frame = refl
first_held SegmentedDownload frame = refl
first_held InBlocks frame = refl
first_held SegmentedUpload frame = refl
first_held BlockUpload frame = refl

-- ---- a later answer

-- with one more the parity is the other one
odd_more : (n : ℕ) → not (is_odd n) ≡ is_odd (suc n)
odd_more n = by_rest (n % 2) (mod-lt n (omega arith)) ∙ ap (λ r. r == 1) (sym (suc-mod n 2))
  where
    by_rest : (r : ℕ) → r < 2 → not (r == 1) ≡ (suc r % 2 == 1)
    by_rest zero h = refl
    by_rest (suc zero) h = refl
    by_rest (suc (suc r)) h = absurd (omega (arith, h))

-- the transfer doesn't go on after the end of a block download was sent
ended_over : (call : Call) (held : List ℕ) (r : Option SdoResponse) → goes_on (response_verdict call BlockDownloadEnded held r) ≡ false
ended_over call held None = refl
ended_over call held (Some (Abort key code)) = refl
ended_over call held (Some BlockDownloadDone) = refl
ended_over call held (Some _) = refl

over_unless : (checks : List (Bool × ℕ)) (v : Verdict) → goes_on v ≡ false → goes_on (unless_fault checks v) ≡ false
over_unless [] v h = h
over_unless (check ∷ checks) v h = over_by check.0 (GivesUp check.1) _ refl (over_unless checks v h)
  where
    over_by : (b : Bool) (v w : Verdict) → goes_on v ≡ false → goes_on w ≡ false → goes_on (cond b v w) ≡ false
    over_by true v w x y = x
    over_by false v w x y = y

-- nor after the last segment of a block upload was taken
last_over : (call : Call) (size : Option ℕ) (held : List ℕ) (r : Option SdoResponse) → goes_on (response_verdict call (LastTaken size) held r) ≡ false
last_over call size held None = refl
last_over call size held (Some (Abort key code)) = refl
last_over call size held (Some (BlockUploadEnd unused)) =
    let value : List ℕ = without unused held in
    over_unless (above_indicated size (length value) ∷ below_indicated size (length value) ∷ no_room call (length value) ∷ []) (Ends (Request UploadEnd ∷ []) value) refl
last_over call size held (Some _) = refl

-- a further answer of a block download
download_more : (call : Call) (bytes : List ℕ) (count size : ℕ) (ended : Bool) (held frame : List ℕ) → bytes_of call.job ≡ bytes → (count == segment_count bytes) ≡ ended
    → goes_on (answer_verdict call (block_download_stage bytes count size) held frame) ≡ true
    → frame_stage call (block_download_stage bytes count size) frame ≡ block_download_stage bytes (count + acknowledged_by (response_in frame)) (block_size_by (response_in frame))
download_more call bytes count size true held frame b e g =
    let stage : block_download_stage bytes count size ≡ BlockDownloadEnded = rw e refl in
    let on : goes_on (response_verdict call BlockDownloadEnded held (response_in frame)) ≡ true = ap (λ s. goes_on (answer_verdict call s held frame)) (sym stage) ∙ g in
    absurd (false≢true (sym (ended_over call held (response_in frame)) ∙ on))
download_more call bytes count size false held frame b e g =
    let stage : block_download_stage bytes count size ≡ BlockDownload count (sub_block_length bytes count size) = rw e refl in
    ap (λ s. frame_stage call s frame) stage ∙ ap (λ bs. block_download_stage bs (count + acknowledged_by (response_in frame)) (block_size_by (response_in frame))) b

-- the segments taken of a sub-block with one more frame
taken_more : (sub : List (List ℕ)) (frame : List ℕ) → taken_with (length (taken_segments sub)) frame ≡ length (taken_segments (frame ∷ sub))
taken_more sub frame = more (taken_segments sub) (segment_taken (length (taken_segments sub)) (block_segment_in frame))
  where
    more : (taken : List BlockSegment) (next : Option BlockSegment) → option_map_or (λ segment. length taken + 1) next (length taken) ≡ length (and_segment next taken)
    more taken None = refl
    more taken (Some segment) = omega arith

sub_block_more : (size : Option ℕ) (later : List (List ℕ)) (frame : List ℕ) → has_last later ≡ false
    → sub_block_stage size (length (taken_segments (sub_block later))) frame ≡ block_upload_stage size (frame ∷ later)
sub_block_more size later frame e =
    ap (λ x. cond (is_last_taken (segment_next (length (taken_segments (sub_block later))) frame)) (LastTaken size) x) (by_end (ends_sub_block frame))
    ∙ sym (ap (λ h. cond (h || is_last_taken (segment_next (length (taken_segments (sub_block later))) frame)) (LastTaken size) (SubBlock size (length (taken_segments (sub_block (frame ∷ later)))))) e)
  where
    by_end : (ends : Bool) → cond ends (SubBlock size 0) (SubBlock size (taken_with (length (taken_segments (sub_block later))) frame)) ≡ SubBlock size (length (taken_segments (cond ends [] (frame ∷ sub_block later))))
    by_end true = refl
    by_end false = ap (λ n. SubBlock size n) (taken_more (sub_block later) frame)

-- a further frame of a block upload
upload_more : (call : Call) (size : Option ℕ) (later : List (List ℕ)) (last : Bool) (held frame : List ℕ) → has_last later ≡ last
    → goes_on (answer_verdict call (block_upload_stage size later) held frame) ≡ true
    → (frame_stage call (block_upload_stage size later) frame ≡ block_upload_stage size (frame ∷ later))
    × (frame_held (block_upload_stage size later) held frame ≡ held_with held (length (taken_segments (sub_block later))) frame)
upload_more call size later true held frame e g =
    let stage : block_upload_stage size later ≡ LastTaken size = rw e refl in
    let on : goes_on (response_verdict call (LastTaken size) held (response_in frame)) ≡ true = ap (λ s. goes_on (answer_verdict call s held frame)) (sym stage) ∙ g in
    absurd (false≢true (sym (last_over call size held (response_in frame)) ∙ on))
upload_more call size later false held frame e g =
    let taken : ℕ = length (taken_segments (sub_block later)) in
    let stage : block_upload_stage size later ≡ SubBlock size taken = rw e refl in
    (ap (λ s. frame_stage call s frame) stage ∙ sub_block_more size later frame e, ap (λ s. frame_held s held frame) stage)

held_kept : (count size : ℕ) (b : Bool) (frame : List ℕ) → frame_held (cond b BlockDownloadEnded (BlockDownload count size)) [] frame ≡ []
held_kept count size true frame = refl
held_kept count size false frame = refl

-- a further answer, by the protocol
more_is : (call : Call) (t : Transfer) (a : Answers) (frame : List ℕ) → transfer_of call ≡ t → goes_on (answer_verdict call (stage_by call t a) (held_by t a) frame) ≡ true
    → (frame_stage call (stage_by call t a) frame ≡ stage_by call t (record { first = a.first; later = frame ∷ a.later }))
    × (frame_held (stage_by call t a) (held_by t a) frame ≡ held_by t (record { first = a.first; later = frame ∷ a.later }))
more_is call ExpeditedDownload a frame e g = (ap (λ t. first_stage call t (response_in frame)) e, refl)
more_is call SegmentedDownload a frame e g = (ap (λ n. Download n) (omega arith), refl)
more_is call InBlocks a frame e g = (
  download_more call (bytes_of call.job) (acknowledged a.later) (block_size_by (response_in (newest a))) _ [] frame refl refl g,
  held_kept (acknowledged a.later) (sub_block_length (bytes_of call.job) (acknowledged a.later) (block_size_by (response_in (newest a)))) (acknowledged a.later == segment_count (bytes_of call.job)) frame,
)
more_is call SegmentedUpload a frame e g = (ap (λ b. Upload (size_by (response_in a.first)) b) (odd_more (length a.later)), refl)
more_is call BlockUpload a frame e g = upload_more call (size_by (response_in a.first)) a.later _ _ frame refl g

-- one more answer
pub next_is : (call : Call) (s : Option Answers) (frame : List ℕ) → goes_on (answer_verdict call (stage_since call s) (held_since call s) frame) ≡ true
    → (frame_stage call (stage_since call s) frame ≡ stage_since call (Some (with_answer frame s)))
    × (frame_held (stage_since call s) (held_since call s) frame ≡ held_since call (Some (with_answer frame s)))
next_is call None frame g = (first_is call (transfer_of call) frame, first_held (transfer_of call) frame)
next_is call (Some a) frame g = more_is call (transfer_of call) a frame refl g
