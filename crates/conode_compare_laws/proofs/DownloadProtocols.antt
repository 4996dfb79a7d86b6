-- Which protocol explain's download has, by its initiate request: after an expedited one it is expedited.
use Rattle.std.proofs.Common.{◌≡◌, ℕ, Bool, false, List, Option, Some, None, refl, sym, ap, ◌∙◌, subst}
use Rattle.std.specs.Prelude.{IfSome}
use Rattle.std.proofs.lemmas.Bool.{false≢true}
use Rattle.co_frame.specs.SdoRequests.{request_in}
use Rattle.co_frame.specs.declared.sdo_request.SdoRequest.{SdoRequest}
use Rattle.co_frame.specs.declared.sdo_request.SdoRequest.TheVariants.{DownloadExpedited, DownloadInitiate, Upload as UploadInitiate, BlockUploadInitiate, BlockDownloadInitiate}
use Rattle.conode_explain_transfers.specs.declared.ended.Ended.{Ended}
use Rattle.conode_explain_transfers.specs.declared.kinds.Direction.TheVariants.{Download, Upload}
use Rattle.conode_explain_transfers.specs.declared.kinds.Protocol.{Protocol}
use Rattle.conode_explain_transfers.specs.declared.kinds.Protocol.TheVariants.{Block, Expedited, Segmented, Undecided}
use Rattle.conode_explain_transfers.specs.declared.kinds.Side.{Side}
use Rattle.conode_explain_transfers.specs.declared.kinds.Side.TheVariants.{Client, Server}
use Rattle.conode_explain_transfers.specs.declared.kinds.What.{What}
use Rattle.conode_explain_transfers.specs.declared.kinds.What.TheVariants.{Overtaken}
use Rattle.conode_explain_transfers.specs.declared.transfer.Transfer.{Transfer}
use Rattle.conode_explain_transfers.specs.Followed.{Followed, turns_at, with_frame}
use Rattle.conode_explain_transfers.specs.Initiates.{data_of, first_segment, has_crc, initiate_of}
use Rattle.conode_explain_transfers.specs.Stages.{confirmed_with}
use Rattle.conode_explain_transfers.specs.Transfers.{after, begun}
use Rattle.conode_explain_laws.specs.Downloads.{initiated_by}
use Rattle.conode_explain_laws.proofs.Follows.{BegunBy, begun_by}
use Rattle.conode_explain_laws.proofs.Kept.{Keeps, keeps}
use Rattle.conode_explain_laws.proofs.Readings.{Abort, Begin, Nothing, Reading, Request, Response, Segment, begun_after, begun_with, follows_by, reading_of, turn_of, went_on_as}
use Rattle.conode_explain_laws.proofs.Views.{is_begin, server_no_begin}
use Rattle.conode_compare_laws.proofs.AnswerKeys.{Kept, kept}

abbrev pub IsFit : Option SdoRequest → Protocol → Type 0
IsFit (Some (DownloadExpedited key value)) protocol = protocol ≡ Expedited
IsFit _ protocol = Unit {0}

abbrev pub Fits : Transfer → Type 0
Fits t = t.direction ≡ Download → IsFit (request_in t.request.items) t.protocol

-- of one that ends, with this request
abbrev pub FitsEnd : Option SdoRequest → Option Ended → Type 0
FitsEnd initiate ended = IfSome ended (λ e. e.direction ≡ Download → IsFit initiate e.protocol)

-- ---- as it begins

begun_fits : (frame : List ℕ) (micros : ℕ) (t : Transfer) (request : SdoRequest) → request_in frame ≡ Some request → begun_with request micros frame ≡ Some (went_on_as false t) → Fits t
begun_fits frame micros t (DownloadExpedited key value) is e =
    let first : begun (record (initiate_of key Download Expedited) { bytes = record { items = data_of value } }) micros frame ≡ went_on_as false t = cc in
    subst Fits first (λ down. subst (λ r. IsFit r Expedited) (sym is) refl)
begun_fits frame micros t (DownloadInitiate key size) is e =
    let first : begun (record (initiate_of key Download Segmented) { size = size }) micros frame ≡ went_on_as false t = cc in
    subst Fits first (λ down. subst (λ r. IsFit r Segmented) (sym is) tt)
begun_fits frame micros t (UploadInitiate key) is e =
    let first : begun (initiate_of key Upload Undecided) micros frame ≡ went_on_as false t = cc in
    subst Fits first (λ down. subst (λ r. IsFit r Undecided) (sym is) tt)
begun_fits frame micros t (BlockUploadInitiate key size threshold) is e =
    let first : begun (record (initiate_of key Upload Block) { crc = has_crc frame; block_size = size }) micros frame ≡ went_on_as false t = cc in
    subst Fits first (λ down. subst (λ r. IsFit r Block) (sym is) tt)
begun_fits frame micros t (BlockDownloadInitiate key size) is e =
    let first : begun (record (initiate_of key Download Block) { size = size; crc = has_crc frame; block_size = first_segment }) micros frame ≡ went_on_as false t = cc in
    subst Fits first (λ down. subst (λ r. IsFit r Block) (sym is) tt)
begun_fits frame micros t _ is e = absurd (let none : None ≡ Some (went_on_as false t) = e in cc)

-- ---- after a frame

pub record FitsThen (initiate : Option SdoRequest) (f : Followed) : Type 0 where
  pub ended : FitsEnd initiate f.says.ended
  pub next : IfSome f.next.transfer Fits

frame_fits : (w : What) (u : Transfer) (micros : ℕ) (side : Side) → Fits u → Fits (with_frame w u micros side)
frame_fits Overtaken u micros side h = h
frame_fits _ u micros side h = h

turn_fits : (x : Option (Option ℕ)) (heard : Bool) (w : What) (u : Transfer) (micros : ℕ) (side : Side) (initiate : Option SdoRequest) → (u.direction ≡ Download → IsFit initiate u.protocol) → Fits u
    → FitsThen initiate (turns_at x heard w u micros side)
turn_fits None heard w u micros side initiate end h = record { ended = tt; next = frame_fits w u micros side h }
turn_fits (Some crc) heard w u micros side initiate end h = record { ended = end; next = tt }

by_turn : (heard : Bool) (t : Transfer) (reading : Reading) (micros : ℕ) (side : Side) (bytes : List ℕ) → Fits t
    → FitsThen (request_in t.request.items) (turns_at (confirmed_with (turn_of t reading bytes).transfer.stage) heard (turn_of t reading bytes).what (after t (turn_of t reading bytes)) micros side)
by_turn heard t reading micros side bytes fits =
    turn_fits (confirmed_with (turn_of t reading bytes).transfer.stage) heard (turn_of t reading bytes).what (after t (turn_of t reading bytes)) micros side (request_in t.request.items) same
    (λ down. subst (λ r. IsFit r (turn_of t reading bytes).transfer.protocol) (sym request_same) (same down))
  where
    request_same : request_in (turn_of t reading bytes).transfer.request.items ≡ request_in t.request.items
    request_same = let k : Kept t (turn_of t reading bytes).transfer = kept t reading bytes in ap (λ r. request_in r.items) k.request

    same : (turn_of t reading bytes).transfer.direction ≡ Download → IsFit (request_in t.request.items) (turn_of t reading bytes).transfer.protocol
    same down =
        let k : Keeps t (turn_of t reading bytes).transfer = keeps t reading bytes in
        let first : t.direction ≡ Download = sym k.direction ∙ down in
        subst (λ p. IsFit (request_in t.request.items) p) (sym (k.protocol first)) (fits first)

begin_fits : (o : Option Transfer) (new : Transfer) (micros : ℕ) (bytes : List ℕ) → reading_of o Client micros bytes ≡ Begin new → Fits (begun_after o bytes new)
begin_fits o new micros bytes e = let b : BegunBy bytes micros (begun_after o bytes new) = begun_by o micros bytes new e in begun_fits bytes micros (begun_after o bytes new) b.request b.is b.initiates

pub fits_after : (heard : Bool) (o : Option Transfer) (reading : Reading) (micros : ℕ) (side : Side) (bytes : List ℕ) → reading_of o side micros bytes ≡ reading → IfSome o Fits
    → FitsThen (initiated_by o) (follows_by heard o reading micros side bytes)
fits_after heard o (Begin new) micros Server bytes e h = absurd (false≢true (sym (server_no_begin o micros bytes) ∙ ap is_begin e))
fits_after heard None (Begin new) micros Client bytes e h = record { ended = tt; next = begin_fits None new micros bytes e }
fits_after heard (Some t) (Begin new) micros Client bytes e h = record { ended = h; next = begin_fits (Some t) new micros bytes e }
fits_after heard None _ micros side bytes e h = record { ended = tt; next = tt }
fits_after heard (Some t) (Abort code) micros side bytes e h = record { ended = h; next = tt }
fits_after heard (Some t) (Segment one) micros side bytes e h = by_turn heard t (Segment one) micros side bytes h
fits_after heard (Some t) (Request one) micros side bytes e h = by_turn heard t (Request one) micros side bytes h
fits_after heard (Some t) (Response one) micros side bytes e h = by_turn heard t (Response one) micros side bytes h
fits_after heard (Some t) Nothing micros side bytes e h = by_turn heard t Nothing micros side bytes h
