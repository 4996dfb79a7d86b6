-- What is done is done: after every log.
use Rattle.std.proofs.Common.{◌≡◌, ℕ, List, length, refl, ap, ◌∙◌, arith}
use Rattle.std.proofs.lemmas.Bool.Decides.{nat_tests}
use Rattle.std.specs.Prelude.{Bool, true, false, ◌==◌, if◌then◌else◌, Option, Some, None, IfSome}
use Rattle.co_frame_aborts.specs.declared.abort_code.AbortCode.{AbortCode}
use Rattle.conode_explain_transfers.specs.declared.ended.Ending.TheVariants.{Done, Repeated, Irregular, CrcDiffers, NotFollowed}
use Rattle.conode_explain_transfers.specs.declared.kinds.Side.{Side}
use Rattle.conode_explain_transfers.specs.declared.kinds.Side.TheVariants.{Client, Server}
use Rattle.conode_explain_transfers.specs.declared.reading.Reading.{Reading}
use Rattle.conode_explain_transfers.specs.declared.reading.Reading.TheVariants.{Segment, Begin, Abort, Request, Response, Nothing}
use Rattle.conode_explain_transfers.specs.declared.transfer.Transfer.{Transfer}
use Rattle.conode_explain_transfers.specs.Data.{data_with, data_by, data_after, IsDoneWith, IfDone, IsDoneAfter}
use Rattle.conode_explain_transfers.specs.Digests.{counted, digest_of}
use Rattle.conode_explain_transfers.specs.Endings.{size_fault, crc_verdict, size_verdict}
use Rattle.conode_explain_transfers.specs.Followed.{Event, abort_ending, following_after, followed_by, left_by, said, turns, turns_at}
use Rattle.conode_explain_transfers.specs.Readings.{reading_of}
use Rattle.conode_explain_transfers.specs.Stages.{confirmed_with}
use Rattle.conode_explain_transfers.specs.Transfers.{after, is_same_request}
use Rattle.conode_explain_transfers.specs.Turns.{turn_of}
use Rattle.conode_explain_transfers.specs.Unanswered.{is_lost, not_followed_by, number_of, segment_follows}
use Rattle.conode_explain_transfers.proofs.Confirmations.{frame_confirms}
use Rattle.conode_explain_transfers.proofs.DataLemmas.{IsOpenWith, StaysOpen, open_after, taking}

-- ---- a verdict

no_fault : (size : Option ℕ) (count : ℕ) → size_fault size count ≡ None → IfSome size (λ s. s ≡ count)
no_fault None count h = tt
no_fault (Some size) count h = by_test (size == count) refl h
  where
    by_test : (b : Bool) → (size == count) ≡ b → (if b then None else Some size) ≡ None → size ≡ count
    by_test true e n = grind (arith, nat_tests)
    by_test false e n = absurd (let f : Some size ≡ None = n in cc)

-- where a transfer is done by its verdict, nothing is wrong
verdict_done : (irregular : Bool) (fault : Option ℕ) (computed : ℕ) (crc : Option ℕ) (fact : Bool → Type 0)
    → (irregular ≡ false → fault ≡ None → crc ≡ None → fact false)
    → (irregular ≡ false → fault ≡ None → crc ≡ Some computed → fact true)
    → IfDone (if irregular then Irregular else size_verdict fault (crc_verdict computed crc)) fact
verdict_done true fault computed crc fact without right = tt
verdict_done false (Some size) computed crc fact without right = tt
verdict_done false None computed None fact without right = without refl refl refl
verdict_done false None computed (Some came) fact without right = by_test (came == computed) refl
  where
    by_test : (b : Bool) → (came == computed) ≡ b → IfDone (if b then Done true else CrcDiffers came computed) fact
    by_test true e = let same : came ≡ computed = grind (arith, nat_tests) in right refl refl (ap Some same)
    by_test false e = tt

-- ---- one frame

left_not_done : (follows lost same : Bool) (number : ℕ) (by : Side) (fact : Bool → Type 0)
    → IfDone (if follows then NotFollowed (Some number) else (if lost then NotFollowed None else (if same then Repeated else left_by by))) fact
left_not_done true lost same number by fact = tt
left_not_done false true same number by fact = tt
left_not_done false false true number by fact = tt
left_not_done false false false number Client fact = tt
left_not_done false false false number Server fact = tt

abort_not_done : (side : Side) (segment : Option (Option ℕ)) (code : AbortCode) (fact : Bool → Type 0) → IfDone (abort_ending side segment code) fact
abort_not_done side None code fact = tt
abort_not_done side (Some next) code fact = tt

-- what is done with a frame that goes on with the open transfer
abbrev pub DoneWith : Transfer → Reading → List ℕ → List ℕ → Bool → Type 0
DoneWith transfer reading frame bytes crc = IsDoneWith transfer reading (turn_of transfer reading frame) bytes crc

turn_at : (x : Option (Option ℕ)) (heard : Bool) (transfer : Transfer) (reading : Reading) (frame : List ℕ) (micros : ℕ) (side : Side) (bytes : List ℕ)
    → confirmed_with (turn_of transfer reading frame).transfer.stage ≡ x → IsOpenWith transfer bytes
    → IfSome (turns_at x heard (turn_of transfer reading frame).what (after transfer (turn_of transfer reading frame)) micros side).says.ended
    (λ e. IfDone e.ending (DoneWith transfer reading frame (data_with bytes (turn_of transfer reading frame).takes)))
turn_at None heard transfer reading frame micros side bytes e h = tt
turn_at (Some crc) heard transfer reading frame micros side bytes e h =
    let turn = turn_of transfer reading frame in
    let now = after transfer turn in
    let all = data_with bytes turn.takes in
    let kept : now.taken ≡ digest_of all = taking transfer.taken bytes turn.takes h.taken in
    let size = λ (n : size_fault turn.transfer.size now.taken.count ≡ None).
    let s : IfSome turn.transfer.size (λ size. size ≡ now.taken.count) = no_fault turn.transfer.size now.taken.count n in
    let count : now.taken.count ≡ counted (length all) = ap (λ d. d.count) kept in
    rw count at s in
    verdict_done turn.transfer.irregular (size_fault turn.transfer.size now.taken.count) now.taken.crc crc
    (DoneWith transfer reading frame all)
    (λ r n c. record {
      confirmed = frame_confirms transfer reading frame crc h.unconfirmed e r;
      regular = r;
      size = size n;
      crc_agrees = λ f. absurd (let g : false ≡ true = f in cc);
    })
    (λ r n c. record {
      confirmed = frame_confirms transfer reading frame crc h.unconfirmed e r;
      regular = r;
      size = size n;
      crc_agrees = λ f. e ∙ ap Some (c ∙ ap (λ d. Some d.crc) kept);
    })

turn_done : (heard : Bool) (transfer : Transfer) (reading : Reading) (frame : List ℕ) (micros : ℕ) (side : Side) (bytes : List ℕ) → IsOpenWith transfer bytes
    → IfSome (turns heard transfer (turn_of transfer reading frame) micros side).says.ended
    (λ e. IfDone e.ending (DoneWith transfer reading frame (data_with bytes (turn_of transfer reading frame).takes)))
turn_done heard transfer reading frame micros side bytes h =
    turn_at (confirmed_with (turn_of transfer reading frame).transfer.stage) heard transfer reading frame micros side bytes refl h

-- what is done with any frame
abbrev pub DoneBy : Option Transfer → Reading → List ℕ → List ℕ → Bool → Type 0
DoneBy current reading frame bytes crc =
    IfSome current (λ transfer. DoneWith transfer reading frame (data_by current reading frame bytes) crc)

pub frame_done : (heard : Bool) (current : Option Transfer) (reading : Reading) (micros : ℕ) (side : Side) (frame bytes : List ℕ) → StaysOpen current bytes
    → IfSome (followed_by heard current reading micros side frame).says.ended (λ e. IfDone e.ending (DoneBy current reading frame bytes))
frame_done heard None (Begin request) micros side frame bytes h = tt
frame_done heard None (Segment segment) micros side frame bytes h = tt
frame_done heard None (Abort code) micros side frame bytes h = tt
frame_done heard None (Request request) micros side frame bytes h = tt
frame_done heard None (Response response) micros side frame bytes h = tt
frame_done heard None Nothing micros side frame bytes h = tt
frame_done heard (Some transfer) (Begin request) micros side frame bytes h =
    left_not_done (segment_follows transfer frame) (is_lost transfer) (is_same_request transfer frame) (number_of frame) transfer.by
    (DoneBy (Some transfer) (Begin request) frame bytes)
frame_done heard (Some transfer) (Abort code) micros side frame bytes h = abort_not_done side (not_followed_by side transfer frame) code (DoneBy (Some transfer) (Abort code) frame bytes)
frame_done heard (Some transfer) (Segment segment) micros side frame bytes h = turn_done heard transfer (Segment segment) frame micros side bytes h
frame_done heard (Some transfer) (Request request) micros side frame bytes h = turn_done heard transfer (Request request) frame micros side bytes h
frame_done heard (Some transfer) (Response response) micros side frame bytes h = turn_done heard transfer (Response response) frame micros side bytes h
frame_done heard (Some transfer) Nothing micros side frame bytes h = turn_done heard transfer Nothing frame micros side bytes h

-- ---- every log

pub done_after : (log : List Event) (micros : ℕ) (side : Side) (frame : List ℕ)
    → IfSome (said log micros side frame).ended (λ e. IfDone e.ending (IsDoneAfter log micros side frame))
done_after log micros side frame =
    let following = following_after log in
    frame_done following.heard following.transfer (reading_of following.transfer side frame) micros side frame (data_after log) (open_after log)
