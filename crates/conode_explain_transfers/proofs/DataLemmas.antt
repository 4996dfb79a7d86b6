-- What is kept of the open transfer after every log.
use Rattle.std.proofs.Common.{◌≡◌, ℕ, zero, suc, ◌+◌, List, [], ◌∷◌, ◌++◌, length, take, refl, ap, sym, ◌∙◌, arith, length-append}
use Rattle.std.specs.Prelude.{Bool, Option, Some, None, IfSome, min}
use Rattle.conode_explain_transfers.specs.declared.digest.Digest.{Digest}
use Rattle.conode_explain_transfers.specs.declared.kinds.Side.{Side}
use Rattle.conode_explain_transfers.specs.declared.kinds.What.{What}
use Rattle.conode_explain_transfers.specs.declared.kinds.What.TheVariants.{Overtaken}
use Rattle.conode_explain_transfers.specs.declared.reading.Reading.{Reading}
use Rattle.conode_explain_transfers.specs.declared.reading.Reading.TheVariants.{Segment, Begin, Abort, Request, Response, Nothing}
use Rattle.conode_explain_transfers.specs.declared.transfer.Transfer.{Transfer}
use Rattle.conode_explain_transfers.specs.Crc.{crc_with, crc_from, crc_of}
use Rattle.conode_explain_transfers.specs.Data.{data_with, data_by, data_after}
use Rattle.conode_explain_transfers.specs.Digests.{shown_bytes, counted, digest_of, digest_with, digest_taking}
use Rattle.conode_explain_transfers.specs.Followed.{Event, Framed, BootedUp, following_after, followed_by, with_frame, turns, turns_at}
use Rattle.conode_explain_transfers.specs.Readings.{reading_of}
use Rattle.conode_explain_transfers.specs.Stages.{confirmed_with}
use Rattle.conode_explain_transfers.specs.Transfers.{Turn, after}
use Rattle.conode_explain_transfers.specs.Turns.{turn_of}

-- ---- a digest of data that goes on

crc_goes_on : (crc : ℕ) (bytes more : List ℕ) → crc_from crc (bytes ++ more) ≡ crc_from (crc_from crc bytes) more
crc_goes_on crc [] more = refl
crc_goes_on crc (byte ∷ bytes) more = crc_goes_on (crc_with crc byte) bytes more

take_front : (n : ℕ) (bytes more : List ℕ) → take n (take n bytes ++ more) ≡ take n (bytes ++ more)
take_front zero bytes more = refl
take_front (suc n) [] more = refl
take_front (suc n) (byte ∷ bytes) more = ap (λ l. byte ∷ l) (take_front n bytes more)

count_goes_on : (most m n : ℕ) → min (min m most + n) most ≡ min (m + n) most
count_goes_on most m n = omega arith

digest_more : (bytes more : List ℕ) → digest_with (digest_of bytes) more ≡ digest_of (bytes ++ more)
digest_more bytes more =
    let count : counted (counted (length bytes) + length more) ≡ counted (length (bytes ++ more)) =
    count_goes_on _ (length bytes) (length more) ∙ ap counted (sym (length-append bytes more)) in
    let crc : crc_from (crc_of bytes) more ≡ crc_of (bytes ++ more) = sym (crc_goes_on 0 bytes more) in
    let first : take shown_bytes (take shown_bytes bytes ++ more) ≡ take shown_bytes (bytes ++ more) = take_front shown_bytes bytes more in
    rw (count, crc, first) refl

pub taking : (digest : Digest) (bytes : List ℕ) (takes : Option (List ℕ)) → digest ≡ digest_of bytes
    → digest_taking digest takes ≡ digest_of (data_with bytes takes)
taking digest bytes None h = h
taking digest bytes (Some more) h = ap (λ d. digest_with d more) h ∙ digest_more bytes more

-- ---- one frame

-- an open transfer isn't confirmed, and what is kept of it is of this data
pub record IsOpenWith (transfer : Transfer) (bytes : List ℕ) : Type 0 where
  pub unconfirmed : confirmed_with transfer.stage ≡ None
  pub taken : transfer.taken ≡ digest_of bytes

abbrev pub StaysOpen : Option Transfer → List ℕ → Type 0
StaysOpen current bytes = IfSome current (λ transfer. IsOpenWith transfer bytes)

pub frame_open : (what : What) (transfer : Transfer) (micros : ℕ) (side : Side) (bytes : List ℕ)
    → IsOpenWith transfer bytes → IsOpenWith (with_frame what transfer micros side) bytes
frame_open Overtaken transfer micros side bytes h = h
frame_open _ transfer micros side bytes h = record { unconfirmed = h.unconfirmed; taken = h.taken }

turn_at : (x : Option (Option ℕ)) (heard : Bool) (before : Transfer) (turn : Turn) (micros : ℕ) (side : Side) (bytes : List ℕ)
    → confirmed_with turn.transfer.stage ≡ x → IsOpenWith before bytes
    → StaysOpen (turns_at x heard turn.what (after before turn) micros side).next.transfer (data_with bytes turn.takes)
turn_at (Some crc) heard before turn micros side bytes e h = tt
turn_at None heard before turn micros side bytes e h =
    frame_open turn.what (after before turn) micros side _ (record { unconfirmed = e; taken = taking before.taken bytes turn.takes h.taken })

turn_open : (heard : Bool) (before : Transfer) (turn : Turn) (micros : ℕ) (side : Side) (bytes : List ℕ) → IsOpenWith before bytes
    → StaysOpen (turns heard before turn micros side).next.transfer (data_with bytes turn.takes)
turn_open heard before turn micros side bytes h = turn_at (confirmed_with turn.transfer.stage) heard before turn micros side bytes refl h

pub frame_step : (heard : Bool) (current : Option Transfer) (reading : Reading) (micros : ℕ) (side : Side) (frame bytes : List ℕ)
    → StaysOpen current bytes
    → StaysOpen (followed_by heard current reading micros side frame).next.transfer (data_by current reading frame bytes)
frame_step heard None (Begin request) micros side frame bytes h = record { unconfirmed = refl; taken = refl }
frame_step heard None (Segment segment) micros side frame bytes h = tt
frame_step heard None (Abort code) micros side frame bytes h = tt
frame_step heard None (Request request) micros side frame bytes h = tt
frame_step heard None (Response response) micros side frame bytes h = tt
frame_step heard None Nothing micros side frame bytes h = tt
frame_step heard (Some transfer) (Begin request) micros side frame bytes h = record { unconfirmed = refl; taken = refl }
frame_step heard (Some transfer) (Abort code) micros side frame bytes h = tt
frame_step heard (Some transfer) (Segment segment) micros side frame bytes h =
    turn_open heard transfer (turn_of transfer (Segment segment) frame) micros side bytes h
frame_step heard (Some transfer) (Request request) micros side frame bytes h =
    turn_open heard transfer (turn_of transfer (Request request) frame) micros side bytes h
frame_step heard (Some transfer) (Response response) micros side frame bytes h =
    turn_open heard transfer (turn_of transfer (Response response) frame) micros side bytes h
frame_step heard (Some transfer) Nothing micros side frame bytes h =
    turn_open heard transfer (turn_of transfer Nothing frame) micros side bytes h

-- ---- every log

pub open_after : (log : List Event) → StaysOpen (following_after log).transfer (data_after log)
open_after [] = tt
open_after (Framed micros side frame ∷ older) =
    frame_step (following_after older).heard (following_after older).transfer
    (reading_of (following_after older).transfer side frame) micros side frame (data_after older) (open_after older)
open_after (BootedUp micros ∷ older) = tt
