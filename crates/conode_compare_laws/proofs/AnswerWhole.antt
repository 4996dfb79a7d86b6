-- A request with its answers, as explain follows them: no upload ends in it with another size or CRC than was indicated; and what is kept
-- of the data.
use Rattle.std.proofs.Common.{◌≡◌, ℕ, suc, ◌+◌, ◌*◌, Bool, true, false, not, List, [], ◌∷◌, ◌++◌, length, take, Option, Some, None, refl, sym, ap, ◌∙◌, ◌⊎◌, inl, inr, subst}
use Rattle.std.specs.Prelude.{◌&&◌, ◌==◌, nat_lt, if◌then◌else◌, is_some, IfSome}
use Rattle.std.proofs.lemmas.Bool.{false≢true}
use Rattle.arrayvec.specs.ArrayVec.{ArrayVec}
use Rattle.co_value.specs.declared.key.Key.{Key}
use Rattle.co_frame.specs.Segments.{is_odd}
use Rattle.co_frame.specs.SdoRequests.{request_in}
use Rattle.co_frame.specs.SdoResponses.{response_bytes}
use Rattle.co_frame.specs.declared.sdo_request.SdoRequest.{SdoRequest}
use Rattle.co_frame.specs.declared.sdo_request.SdoRequest.TheVariants.{DownloadExpedited, DownloadInitiate, DownloadSegment, Upload as UploadInitiate, UploadSegment as NextSegment, Abort as Abandon, BlockUploadInitiate, BlockUploadEnd as UploadEnd, BlockUploadAcknowledge, BlockUploadStart, BlockDownloadInitiate, BlockDownloadEnd}
use Rattle.co_frame.specs.declared.sdo_response.SdoResponse.{SdoResponse}
use Rattle.co_frame.specs.declared.sdo_response.SdoResponse.TheVariants.{UploadSegment}
use Rattle.co_dict.specs.Rows.{Contents}
use Rattle.co_dict.specs.Stores.{Description}
use Rattle.co_sdo.specs.declared.stage.Stage.TheVariants.{Upload as Uploading}
use Rattle.co_sdo.specs.Log.{Answer, Response as Replied, answer_bytes}
use Rattle.co_sdo.specs.Opened.{OpenTransfer}
use Rattle.co_sdo.specs.OpenTransfers.{is_initiate as initiates}
use Rattle.co_sdo.specs.Replies.{answers_to, request_answers, unless_refused, toggle_refusal}
use Rattle.co_sdo.specs.Uploads.{is_last_after, part_after, upload_segment}
use Rattle.co_sdo_laws.proofs.Frames.{segment_sent_read}
use Rattle.co_sdo_laws.proofs.Segments.{joined, part_small, taken_all}
use Rattle.conode_explain_transfers.specs.declared.digest.Digest.{Digest}
use Rattle.conode_explain_transfers.specs.declared.ended.Ending.TheVariants.{Repeated, NotFollowed}
use Rattle.conode_explain_transfers.specs.declared.kinds.Direction.{Direction}
use Rattle.conode_explain_transfers.specs.declared.kinds.Direction.TheVariants.{Upload}
use Rattle.conode_explain_transfers.specs.declared.kinds.Side.{Side}
use Rattle.conode_explain_transfers.specs.declared.kinds.Side.TheVariants.{Client, Server}
use Rattle.conode_explain_transfers.specs.declared.kinds.What.{What}
use Rattle.conode_explain_transfers.specs.declared.kinds.What.TheVariants as what
use Rattle.conode_explain_transfers.specs.declared.stage.Stage.{Stage}
use Rattle.conode_explain_transfers.specs.declared.stage.Stage.TheVariants.{AllAcknowledged, BlockEnded, BlockInitiated, Confirmed, DownloadConfirmed, DownloadSent, Initiated, SubBlock, UploadAsked, UploadTaken}
use Rattle.conode_explain_transfers.specs.declared.transfer.Transfer.{Transfer}
use Rattle.conode_explain_transfers.specs.BlockTurns.{acknowledged, acknowledged_at, block_ended, crc_in, end_confirmed, end_confirmed_at, is_block, next_sub_block as after_sub_block, upload_started_at}
use Rattle.conode_explain_transfers.specs.Data.{data_with}
use Rattle.conode_explain_transfers.specs.Digests.{counted, digest_of}
use Rattle.conode_explain_transfers.specs.Endings.{size_fault, upload_fault, verdict}
use Rattle.conode_explain_transfers.specs.Followed.{Followed, left, left_by, one_more, turns_at, with_frame}
use Rattle.conode_explain_transfers.specs.Readings.{may_have_segment, is_sender}
use Rattle.conode_explain_transfers.specs.SegmentedTurns.{download_segment_at, upload_request_at}
use Rattle.conode_explain_transfers.specs.Stages.{confirmed_with}
use Rattle.conode_explain_transfers.specs.Transfers.{Turn, after, awaited_number, goes_on as part, irregular, is_download, is_same_request, takes_pending, unexpected}
use Rattle.conode_explain_transfers.specs.Turns.{request_turn}
use Rattle.conode_explain_transfers.proofs.DataLemmas.{taking}
use Rattle.conode_explain_transfers.specs.Unanswered.{is_lost, is_next_segment, number_of, segment_follows}
use Rattle.conode_explain_laws.specs.Downloads.{Complete}
use Rattle.conode_explain_laws.specs.Uploads.{Read}
use Rattle.conode_explain_laws.proofs.Begins.{outside_answers}
use Rattle.conode_explain_laws.proofs.Exchanges.{same_toggle}
use Rattle.conode_explain_laws.proofs.Follows.{BegunBy, IsLate, begun_by, client_no_response, is_response, request_spoils, segment_spoils, begun_of}
use Rattle.conode_explain_laws.proofs.NoUploads.{begins_nothing}
use Rattle.conode_explain_laws.proofs.Readings.{Abort, Begin, Nothing, Reading, Request, Response, Segment, begun_with, bytes_by, follows_by, plain_reading, reading_of, request_reading, response_reading, sub_block_reading, turn_of, begun_after, begun_on}
use Rattle.conode_explain_laws.proofs.UploadFaults.{begun_within, blocks_within, download_right, end_right, first_right, sending_right, upload_within, worn_right}
use Rattle.conode_explain_laws.proofs.UploadStanding.{AtEnd, FollowsIn, InUpload, IsWaiting, aside, asked, at_end, begun, blocks, gone, is_sending, late_request, segmented, size_is}
use Rattle.conode_explain_laws.proofs.UploadViews.{hears, hears_answers, holds, read_as}
use Rattle.conode_explain_laws.proofs.Views.{View, is_begin, server_no_begin}
use Rattle.conode_compare_laws.proofs.AnswerEnds.{AllWhole, Faultless, IsWhole, Leads, Rests, Whole, abort_answers, abort_whole, calm, differs, download, download_leads, faultless, first, frame_whole, is_calm, other_whole, rest_answers, rests, right_verdict, stray_whole, worn, worn_leads}
use Rattle.conode_compare_laws.proofs.AnswerFollowed.{reads}

-- ---- a request in an upload whose segments come, or whose next one the client asks for

spoilt : (u : Transfer) → u.irregular ≡ true → Leads u
spoilt u i = rests (worn i)

-- no answer ends it wrongly after that; or the client asks for the next segment; or it confirms the device's end
pub data Sent (t : Transfer) (request : SdoRequest) (turn : Turn) : Type 0 where
  leads : Leads turn.transfer → Sent t request turn
  next_one : (toggle : Bool) → t.stage ≡ UploadTaken toggle → request ≡ NextSegment toggle → Sent t request turn
  end : (crc : ℕ) → t.stage ≡ BlockEnded crc → request ≡ UploadEnd → Sent t request turn

either : (t : Transfer) (request : SdoRequest) (b : Bool) (x y : Turn) → Sent t request x → Sent t request y → Sent t request (if b then x else y)
either t request true x y p q = p
either t request false x y p q = q

module _ (t : Transfer) where
  no_download : (stage : Stage) (toggle : Bool) (items : ArrayVec ℕ) (last : Bool) → is_calm stage ≡ true → (download_segment_at stage t toggle items last).transfer.irregular ≡ true
  no_download (DownloadConfirmed awaited) toggle items last c = absurd (false≢true c)
  no_download (DownloadSent sent was_last) toggle items last c = absurd (false≢true c)
  no_download _ toggle items last c = refl

  by_toggle : (awaited toggle : Bool) → t.stage ≡ UploadTaken awaited → Sent t (NextSegment toggle) (upload_request_at (UploadTaken awaited) t toggle)
  by_toggle true true e = next_one true e refl
  by_toggle false false e = next_one false e refl
  by_toggle true false e = leads (spoilt _ refl)
  by_toggle false true e = leads (spoilt _ refl)

  asks : (stage : Stage) (toggle : Bool) → t.stage ≡ stage → is_calm stage ≡ true → Sent t (NextSegment toggle) (upload_request_at stage t toggle)
  asks (UploadTaken awaited) toggle e c = by_toggle awaited toggle e
  asks (UploadAsked other) toggle e c = absurd (false≢true c)
  asks _ toggle e c = leads (spoilt _ refl)

  starts : (stage : Stage) → Sent t BlockUploadStart (upload_started_at stage t)
  starts BlockInitiated = leads (rests (calm refl))
  starts _ = leads (spoilt _ refl)

  acknowledges_in : (sequence size : ℕ) (last below all : Bool) → Sent t (BlockUploadAcknowledge sequence size)
      (if below then (if last && all then part (record t { stage = AllAcknowledged }) else takes_pending (after_sub_block t size) (7 * sequence)) else takes_pending (after_sub_block (irregular t) size) (7 * sequence))
  acknowledges_in sequence size true true true = leads (rests (calm refl))
  acknowledges_in sequence size true true false = leads (rests (calm refl))
  acknowledges_in sequence size false true all = leads (rests (calm refl))
  acknowledges_in sequence size last false all = leads (spoilt _ refl)

  acknowledges_at : (stage : Stage) (sequence size : ℕ) → Sent t (BlockUploadAcknowledge sequence size) (acknowledged_at stage t sequence size)
  acknowledges_at (SubBlock last) sequence size = acknowledges_in sequence size last (nat_lt sequence (awaited_number t)) (sequence + 1 == awaited_number t)
  acknowledges_at _ sequence size = leads (spoilt _ refl)

  acknowledges : (by : Bool) (sequence size : ℕ) → Sent t (BlockUploadAcknowledge sequence size) (acknowledged by t sequence size)
  acknowledges true sequence size = acknowledges_at t.stage sequence size
  acknowledges false sequence size = leads (spoilt _ refl)

  ends_at : (stage : Stage) → t.stage ≡ stage → Sent t UploadEnd (end_confirmed_at stage t)
  ends_at (BlockEnded crc) e = end crc e refl
  ends_at _ e = leads (spoilt _ refl)

  ends : (by : Bool) → Sent t UploadEnd (end_confirmed by t)
  ends true = either t UploadEnd (is_block t.protocol) (end_confirmed_at t.stage t) (unexpected t) (ends_at t.stage refl) (leads (spoilt _ refl))
  ends false = leads (spoilt _ refl)

  pub sent_by : (request : SdoRequest) (bytes : List ℕ) → is_download t.direction ≡ false → is_calm t.stage ≡ true → Sent t request (request_turn t request bytes)
  sent_by (DownloadSegment toggle items last) bytes up c = leads (spoilt _ (no_download t.stage toggle items last c))
  sent_by (NextSegment toggle) bytes up c = asks t.stage toggle refl c
  sent_by BlockUploadStart bytes up c = starts t.stage
  sent_by (BlockUploadAcknowledge sequence size) bytes up c = acknowledges (not (is_download t.direction)) sequence size
  sent_by UploadEnd bytes up c = ends (not (is_download t.direction))
  sent_by (BlockDownloadEnd unused) bytes up c = leads (spoilt _ (ap (λ x. (block_ended x t unused (crc_in bytes)).transfer.irregular) up))
  sent_by _ bytes up c = leads (spoilt _ refl)

-- a request that confirms nothing
late_whole : (x : Option (Option ℕ)) (heard : Bool) (w : What) (u : Transfer) (micros : ℕ) (side : Side) → confirmed_with u.stage ≡ x → (u.irregular ≡ true) ⊎ (confirmed_with u.stage ≡ None) → IsWhole (turns_at x heard w u micros side).says.ended
late_whole None heard w u micros side e late = tt
late_whole (Some crc) heard w u micros side e (inl i) = (other_whole u.direction (verdict u crc) (rw i refl), refl)
late_whole (Some crc) heard w u micros side e (inr n) = absurd (let no : is_some (Some crc) ≡ false = ap is_some (sym e ∙ n) in false≢true (sym no))

late_turn : (heard : Bool) (t : Transfer) (turn : Turn) (micros : ℕ) (side : Side) → IsLate turn → IsWhole (turns_at (confirmed_with turn.transfer.stage) heard turn.what (after t turn) micros side).says.ended
late_turn heard t turn micros side late = late_whole (confirmed_with turn.transfer.stage) heard turn.what (after t turn) micros side refl late

-- a transfer that another one follows
pub left_whole : (current : Option Transfer) (micros : ℕ) (bytes : List ℕ) → IsWhole (left current micros bytes)
left_whole None micros bytes = tt
left_whole (Some t) micros bytes = (other_whole t.direction _ (by (segment_follows t bytes) (is_lost t) (is_same_request t bytes) t.by), refl)
  where
    by : (follows lost same : Bool) (side : Side)
        → differs (if follows then NotFollowed (Some (number_of bytes)) else (if lost then NotFollowed None else (if same then Repeated else left_by side))) ≡ false
    by true lost same side = refl
    by false true same side = refl
    by false false true side = refl
    by false false false Client = refl
    by false false false Server = refl

begun_rests : (on : Bool) (request : SdoRequest) (micros : ℕ) (bytes : List ℕ) → IfSome (begun_on on request micros bytes) Rests
begun_rests on (DownloadExpedited key value) micros bytes = download refl
begun_rests on (DownloadInitiate key size) micros bytes = download refl
begun_rests on (BlockDownloadInitiate key size) micros bytes = download refl
begun_rests on (UploadInitiate key) micros bytes = first refl refl
begun_rests on (BlockUploadInitiate key size threshold) micros bytes = first refl refl
begun_rests on _ micros bytes = tt

-- the client's frames in an upload are read as requests
pub upload_plain : (t : Transfer) (micros : ℕ) (bytes : List ℕ) → t.direction ≡ Upload → reading_of (Some t) Client micros bytes ≡ request_reading (request_in bytes) micros bytes
upload_plain t micros bytes e = by (may_have_segment t.stage t.direction t.protocol) t.direction e
  where
    by : (inside : Bool) (x : Direction) → x ≡ Upload
        → (if (if inside then is_sender x Client else false) then sub_block_reading t.block_size Client micros bytes else plain_reading Client micros bytes) ≡ request_reading (request_in bytes) micros bytes
    by true x e = rw e refl
    by false x e = refl

abbrev none_key : Key
none_key = record { index = 0; sub = 0 }

-- a device without an open transfer answers with an abort, or not
none_answers : (d : Description) (contents : Contents) (stamp : ℕ → ℕ) (r : Option SdoRequest) (v : View) → initiates r ≡ false → AllWhole stamp (request_answers d contents None r) v
none_answers d contents stamp None v n = abort_answers stamp none_key 0x05040001 v
none_answers d contents stamp (Some (DownloadSegment toggle items last)) v n = abort_answers stamp none_key 0x05040001 v
none_answers d contents stamp (Some (NextSegment toggle)) v n = abort_answers stamp none_key 0x05040001 v
none_answers d contents stamp (Some BlockUploadStart) v n = abort_answers stamp none_key 0x05040001 v
none_answers d contents stamp (Some (BlockUploadAcknowledge sequence size)) v n = abort_answers stamp none_key 0x05040001 v
none_answers d contents stamp (Some UploadEnd) v n = abort_answers stamp none_key 0x05040001 v
none_answers d contents stamp (Some (BlockDownloadEnd unused)) v n = abort_answers stamp none_key 0x05040001 v
none_answers d contents stamp (Some (Abandon key code)) v n = tt
none_answers d contents stamp (Some _) v n = absurd (false≢true (sym n))

-- ---- a segment that is asked for, and comes

module _ (stamp : ℕ → ℕ) (heard : Bool) (t : Transfer) (got : List ℕ) (done : List Complete) (count sent micros : ℕ) (bytes : List ℕ) (toggle : Bool) (h : InUpload t bytes sent) (g : got ≡ take (7 * sent) bytes) (kept : t.taken ≡ digest_of got) where
  abbrev asked_for : Transfer
  asked_for = with_frame what.Part (after t (part (record t { stage = UploadAsked toggle }))) micros Client

  comes_whole : (last : Bool) → is_last_after sent bytes ≡ last
      → IsWhole (follows_by heard (Some asked_for) (Response (UploadSegment toggle (record { items = part_after sent bytes }) last)) (stamp (suc count)) Server (response_bytes (UploadSegment toggle (record { items = part_after sent bytes }) last))).says.ended
  comes_whole false l = rw (same_toggle toggle) tt
  comes_whole true l = rw (same_toggle toggle) (other_whole t.direction _ (right_verdict confirmed right), refl)
    where
      confirmed : Transfer
      confirmed = after asked_for (record { what = what.Part; transfer = record asked_for { stage = Confirmed None; pending = record { items = [] } }; takes = Some (part_after sent bytes) })

      all : got ++ part_after sent bytes ≡ bytes
      all = ap (λ xs. xs ++ part_after sent bytes) g ∙ joined bytes sent ∙ taken_all bytes sent l

      right : size_fault t.size confirmed.taken.count ≡ None
      right =
          let k = taking t.taken got (Some (part_after sent bytes)) kept in
          size_is t.size confirmed.taken.count bytes h.size (ap (λ (x : Digest). x.count) k ∙ ap (λ xs. counted (length xs)) all) h.few

  segment_whole : AllWhole stamp (Replied (UploadSegment toggle (record { items = part_after sent bytes }) (is_last_after sent bytes)) ∷ []) (holds heard (Some asked_for) got done (suc count))
  segment_whole =
      let response : SdoResponse = UploadSegment toggle (record { items = part_after sent bytes }) (is_last_after sent bytes) in (
        subst (λ r. IsWhole (follows_by heard (Some asked_for) r (stamp (suc count)) Server (response_bytes response)).says.ended)
            (sym (ap response_reading (segment_sent_read toggle (part_after sent bytes) (is_last_after sent bytes) (part_small sent bytes)))) (comes_whole (is_last_after sent bytes) refl),
        tt,
      )

-- ---- before the answer to initiate

pub asked_worn : (t : Transfer) (reading : Reading) (bytes : List ℕ) → is_begin reading ≡ false → is_response reading ≡ false → t.stage ≡ Initiated → (turn_of t reading bytes).transfer.irregular ≡ true
asked_worn t (Begin new) bytes n m e = absurd (false≢true (sym n))
asked_worn t (Response response) bytes n m e = absurd (false≢true (sym m))
asked_worn t (Segment one) bytes n m e = segment_spoils t one e
asked_worn t (Request request) bytes n m e = request_spoils t request bytes e
asked_worn t (Abort code) bytes n m e = refl
asked_worn t Nothing bytes n m e = refl

-- ---- the client's end

pub record EndsWhole (f : Followed) : Type 0 where
  pub ended : IsWhole f.says.ended
  pub none : f.next.transfer ≡ None

pub end_whole : (heard : Bool) (micros : ℕ) (frame : List ℕ) (t : Transfer) (got : List ℕ) (crc : ℕ) (bytes : List ℕ) → AtEnd t bytes crc → got ≡ bytes → t.taken ≡ digest_of got
    → EndsWhole (follows_by heard (Some t) (Request UploadEnd) micros Client frame)
end_whole heard micros frame t got crc bytes h g kept = subst Ended (sym turn) (record { ended = (other_whole t.direction _ (right_verdict (after t confirmed) right), refl); none = refl })
  where
    confirmed : Turn
    confirmed = part (record t { stage = Confirmed None })

    Ended : Turn → Type 0
    Ended x = EndsWhole (turns_at (confirmed_with x.transfer.stage) heard x.what (after t x) micros Client)

    turn : turn_of t (Request UploadEnd) frame ≡ part (record t { stage = Confirmed None })
    turn =
        ap (λ x. end_confirmed (not (is_download x)) t) h.is.direction
        ∙ ap (λ b. if b then end_confirmed_at t.stage t else unexpected t) h.is.protocol
        ∙ ap (λ stage. end_confirmed_at stage t) h.stage
        ∙ ap (λ b. part (record t { stage = Confirmed (if b then Some crc else None) })) h.is.crc

    right : size_fault t.size t.taken.count ≡ None
    right = size_is t.size t.taken.count bytes h.is.size (ap (λ (x : Digest). x.count) kept ∙ ap (λ xs. counted (length xs)) g) h.is.few

-- the client's abort after it
pub counted_right : (t : Transfer) (got bytes : List ℕ) (crc : ℕ) → AtEnd t bytes crc → got ≡ bytes → t.taken ≡ digest_of got → upload_fault (one_more t) ≡ None
counted_right t got bytes crc h g kept =
    end_right (one_more t) got bytes crc (record { is = record { direction = h.is.direction; protocol = h.is.protocol; regular = h.is.regular; crc = h.is.crc; size = h.is.size; few = h.is.few }; stage = h.stage }) g kept

-- ---- a request with its answers

module _ (d : Description) (contents : Contents) (stamp : ℕ → ℕ) (frame : List ℕ) (heard : Bool) (got : List ℕ) (done : List Complete) (count : ℕ) where
  abbrev After : Option OpenTransfer → Option Transfer → Reading → Type 0
  After current held reading =
      IsWhole (follows_by heard held reading (stamp count) Client frame).says.ended
      × AllWhole stamp (answers_to d contents current frame) (read_as (stamp count) Client frame (holds heard held got done count) reading)

  resting : (current : Option OpenTransfer) (held : Option Transfer) (reading : Reading) → Whole (follows_by heard held reading (stamp count) Client frame) → After current held reading
  resting current held reading w = (w.ended, rest_answers stamp (answers_to d contents current frame) (read_as (stamp count) Client frame (holds heard held got done count) reading) w.next)

  led : (current : Option OpenTransfer) (t : Transfer) (reading : Reading) → is_begin reading ≡ false → Leads (turn_of t reading frame).transfer → Faultless reading t → After current (Some t) reading
  led current t reading n h f = resting current (Some t) reading (frame_whole heard t reading (stamp count) Client frame n h (λ c. f))

  -- where the channel has dropped the upload
  gone_request : (t : Transfer) (request : SdoRequest) → IsWaiting t → IsWhole (follows_by heard (Some t) (Request request) (stamp count) Client frame).says.ended
  gone_request t request h = late_turn heard t (request_turn t request frame) (stamp count) Client (late_request t request frame (inl h.unended))

  gone_ends : (t : Transfer) (r : Option SdoRequest) → IsWaiting t → is_begin (request_reading r (stamp count) frame) ≡ false → IsWhole (follows_by heard (Some t) (request_reading r (stamp count) frame) (stamp count) Client frame).says.ended
  gone_ends t None h n = late_turn heard t (unexpected t) (stamp count) Client (inl refl)
  gone_ends t (Some (Abandon key code)) h n = abort_whole heard t code (stamp count) Client frame (λ c. sending_right (one_more t) h.sending h.within)
  gone_ends t (Some (DownloadSegment toggle items last)) h n = gone_request t (DownloadSegment toggle items last) h
  gone_ends t (Some (NextSegment toggle)) h n = gone_request t (NextSegment toggle) h
  gone_ends t (Some BlockUploadStart) h n = gone_request t BlockUploadStart h
  gone_ends t (Some (BlockUploadAcknowledge sequence size)) h n = gone_request t (BlockUploadAcknowledge sequence size) h
  gone_ends t (Some UploadEnd) h n = gone_request t UploadEnd h
  gone_ends t (Some (BlockDownloadEnd unused)) h n = gone_request t (BlockDownloadEnd unused) h
  gone_ends t (Some (DownloadExpedited key value)) h n = absurd (false≢true (sym n))
  gone_ends t (Some (DownloadInitiate key size)) h n = absurd (false≢true (sym n))
  gone_ends t (Some (UploadInitiate key)) h n = absurd (false≢true (sym n))
  gone_ends t (Some (BlockUploadInitiate key size threshold)) h n = absurd (false≢true (sym n))
  gone_ends t (Some (BlockDownloadInitiate key size)) h n = absurd (false≢true (sym n))

  to_gone : (t : Transfer) → IsWaiting t → is_begin (request_reading (request_in frame) (stamp count) frame) ≡ false → After None (Some t) (request_reading (request_in frame) (stamp count) frame)
  to_gone t h n = (gone_ends t (request_in frame) h n, none_answers d contents stamp (request_in frame) _ (begins_nothing (request_in frame) (stamp count) frame n))

  -- in an upload that goes on
  module _ (current : Option OpenTransfer) (t : Transfer) (up : t.direction ≡ Upload) (c : is_calm t.stage ≡ true) (right : upload_fault (one_more t) ≡ None) where
    abbrev OnSegment : Option SdoRequest → Type 0
    OnSegment r = (toggle : Bool) → t.stage ≡ UploadTaken toggle → r ≡ Some (NextSegment toggle) → After current (Some t) (Request (NextSegment toggle))

    abbrev OnEnd : Option SdoRequest → Type 0
    OnEnd r = (crc : ℕ) → t.stage ≡ BlockEnded crc → r ≡ Some UploadEnd → After current (Some t) (Request UploadEnd)

    by_sent : (request : SdoRequest) → OnSegment (Some request) → OnEnd (Some request) → Sent t request (request_turn t request frame) → After current (Some t) (Request request)
    by_sent request s e (leads l) = led current t (Request request) refl l tt
    by_sent request s e (next_one toggle stage is) = subst (λ x. After current (Some t) (Request x)) (sym is) (s toggle stage (ap (λ x. Some x) is))
    by_sent request s e (end crc stage is) = subst (λ x. After current (Some t) (Request x)) (sym is) (e crc stage (ap (λ x. Some x) is))

    to_open : (r : Option SdoRequest) → is_begin (request_reading r (stamp count) frame) ≡ false → OnSegment r → OnEnd r → After current (Some t) (request_reading r (stamp count) frame)
    to_open None n s e = led current t Nothing refl (spoilt _ refl) tt
    to_open (Some (Abandon key code)) n s e = led current t (Abort code) refl (spoilt _ refl) right
    to_open (Some (DownloadSegment toggle items last)) n s e = by_sent (DownloadSegment toggle items last) s e (sent_by t (DownloadSegment toggle items last) frame (ap is_download up) c)
    to_open (Some (NextSegment toggle)) n s e = by_sent (NextSegment toggle) s e (sent_by t (NextSegment toggle) frame (ap is_download up) c)
    to_open (Some BlockUploadStart) n s e = by_sent BlockUploadStart s e (sent_by t BlockUploadStart frame (ap is_download up) c)
    to_open (Some (BlockUploadAcknowledge sequence size)) n s e = by_sent (BlockUploadAcknowledge sequence size) s e (sent_by t (BlockUploadAcknowledge sequence size) frame (ap is_download up) c)
    to_open (Some UploadEnd) n s e = by_sent UploadEnd s e (sent_by t UploadEnd frame (ap is_download up) c)
    to_open (Some (BlockDownloadEnd unused)) n s e = by_sent (BlockDownloadEnd unused) s e (sent_by t (BlockDownloadEnd unused) frame (ap is_download up) c)
    to_open (Some (DownloadExpedited key value)) n s e = absurd (false≢true (sym n))
    to_open (Some (DownloadInitiate key size)) n s e = absurd (false≢true (sym n))
    to_open (Some (UploadInitiate key)) n s e = absurd (false≢true (sym n))
    to_open (Some (BlockUploadInitiate key size threshold)) n s e = absurd (false≢true (sym n))
    to_open (Some (BlockDownloadInitiate key size)) n s e = absurd (false≢true (sym n))

  -- the request of a segment
  asks_segment : (t : Transfer) (toggle : Bool) → t.stage ≡ UploadTaken toggle
      → read_as (stamp count) Client frame (holds heard (Some t) got done count) (Request (NextSegment toggle))
      ≡ holds heard (Some (with_frame what.Part (after t (part (record t { stage = UploadAsked toggle }))) (stamp count) Client)) got done (suc count)
  asks_segment t toggle e = rw (e, same_toggle toggle) refl

  asks_ends : (t : Transfer) (toggle : Bool) → t.stage ≡ UploadTaken toggle → IsWhole (follows_by heard (Some t) (Request (NextSegment toggle)) (stamp count) Client frame).says.ended
  asks_ends t toggle e = rw (e, same_toggle toggle) tt

  on_segment : (t : Transfer) (sent : ℕ) (bytes : List ℕ) (toggle : Bool) → InUpload t bytes sent → got ≡ take (7 * sent) bytes → t.taken ≡ digest_of got → t.stage ≡ UploadTaken toggle → is_odd sent ≡ toggle → request_in frame ≡ Some (NextSegment toggle)
      → After (Some (record { key = t.key; stage = Uploading sent; bytes = bytes })) (Some t) (Request (NextSegment toggle))
  on_segment t sent bytes toggle h g kept e o r =
      let current : Option OpenTransfer = Some (record { key = t.key; stage = Uploading sent; bytes = bytes }) in (
        asks_ends t toggle e,
        subst (λ v. AllWhole stamp (answers_to d contents current frame) v) (sym (asks_segment t toggle e))
            (subst (λ answers. AllWhole stamp answers (holds heard (Some (with_frame what.Part (after t (part (record t { stage = UploadAsked toggle }))) (stamp count) Client)) got done (suc count)))
            (sym (outside_answers d contents current frame refl ∙ ap (request_answers d contents current) r ∙ by toggle o))
            (segment_whole stamp heard t got done count sent (stamp count) bytes toggle h g kept)),
      )
    where
      by : (toggle : Bool) → is_odd sent ≡ toggle → unless_refused (toggle_refusal toggle (is_odd sent)) t.key (upload_segment toggle sent bytes) ≡ upload_segment toggle sent bytes
      by true o = rw o refl
      by false o = rw o refl

  -- the client's end
  on_end : (current : Option OpenTransfer) (t : Transfer) (crc : ℕ) (bytes : List ℕ) → AtEnd t bytes crc → got ≡ bytes → t.taken ≡ digest_of got → After current (Some t) (Request UploadEnd)
  on_end current t crc bytes h g kept =
      let e : EndsWhole (follows_by heard (Some t) (Request UploadEnd) (stamp count) Client frame) = end_whole heard (stamp count) frame t got crc bytes h g kept in
      resting current (Some t) (Request UploadEnd) (record { ended = e.ended; next = subst (λ o. IfSome o Rests) (sym e.none) tt })

  -- ---- by what both have

  followed : (current : Option OpenTransfer) (t : Transfer) (reading : Reading) → reading_of (Some t) Client (stamp count) frame ≡ reading → is_begin reading ≡ false → t.direction ≡ Upload
      → (is_begin (request_reading (request_in frame) (stamp count) frame) ≡ false → After current (Some t) (request_reading (request_in frame) (stamp count) frame)) → After current (Some t) reading
  followed current t reading e n up go =
      let is : reading ≡ request_reading (request_in frame) (stamp count) frame = sym e ∙ upload_plain t (stamp count) frame up in
      subst (After current (Some t)) (sym is) (go (sym (ap is_begin is) ∙ n))

  goes_on : (current : Option OpenTransfer) (ended : Option Read) (held : Option Transfer) (reading : Reading) → reading_of held Client (stamp count) frame ≡ reading → is_begin reading ≡ false
      → FollowsIn (Unit {0}) held got current ended → IfSome held (λ t. t.taken ≡ digest_of got) → After current held reading
  goes_on current ended None reading e n h kept = resting current None reading (stray_whole heard reading (stamp count) Client frame n)
  goes_on current ended (Some t) reading e n (aside (inl i) a) kept = led current t reading n (worn_leads t reading frame i.1) (faultless reading t (worn_right (one_more t) i.1))
  goes_on current ended (Some t) reading e n (aside (inr down) a) kept = led current t reading n (download_leads t reading frame down) (faultless reading t (download_right (one_more t) down))
  goes_on current ended (Some t) reading e n (asked l a) kept = led current t reading n (spoilt _ (asked_worn t reading frame n (sym (ap is_response e) ∙ client_no_response (Some t) (stamp count) frame) a)) (faultless reading t (first_right (one_more t) a))
  goes_on current ended (Some t) reading e n (gone a c x) kept = followed current t reading e n a.direction (λ m. rw c (to_gone t a m))
  goes_on current ended (Some t) reading e n (segmented sent bytes a g c x) kept =
      followed current t reading e n a.direction
      (λ m. to_open current t a.direction (ap is_calm a.stage) (sending_right (one_more t) (ap is_sending a.stage) (upload_within t got bytes sent a g kept)) (request_in frame) m
      (λ toggle taken r. rw c (on_segment t sent bytes toggle a g kept taken (let q = a.stage in cc) r))
      (λ crc ended r. absurd (let q = a.stage in cc)))
  goes_on current ended (Some t) reading e n (begun size bytes a g c x) kept =
      followed current t reading e n a.is.direction
      (λ m. to_open current t a.is.direction (ap is_calm a.stage) (sending_right (one_more t) (ap is_sending a.stage) (begun_within t got bytes size a g kept)) (request_in frame) m (λ toggle taken r. absurd (let q = a.stage in cc)) (λ crc ended r. absurd (let q = a.stage in cc)))
  goes_on current ended (Some t) reading e n (blocks position sent bytes a c x) kept =
      followed current t reading e n a.is.direction
      (λ m. to_open current t a.is.direction (ap is_calm a.stage) (sending_right (one_more t) (ap is_sending a.stage) (blocks_within t got bytes position sent a kept)) (request_in frame) m (λ toggle taken r. absurd (let q = a.stage in cc)) (λ crc ended r. absurd (let q = a.stage in cc)))
  goes_on current ended (Some t) reading e n (at_end crc bytes a g c x) kept =
      followed current t reading e n a.is.direction
      (λ m. to_open current t a.is.direction (ap is_calm a.stage) (counted_right t got bytes crc a g kept) (request_in frame) m (λ toggle taken r. absurd (let q = a.stage in cc)) (λ crc ended r. on_end current t _ bytes a g kept))

  by_reading : (current : Option OpenTransfer) (ended : Option Read) (held : Option Transfer) (reading : Reading) → reading_of held Client (stamp count) frame ≡ reading
      → FollowsIn (Unit {0}) held got current ended → IfSome held (λ t. t.taken ≡ digest_of got) → After current held reading
  by_reading current ended held (Begin new) e h kept =
      let b : BegunBy frame (stamp count) (begun_after held frame new) = begun_by held (stamp count) frame new e in
      resting current held (Begin new) (record { ended = left_whole held (stamp count) frame; next = subst (λ o. IfSome o Rests) (begun_of frame (stamp count) (begun_after held frame new) b) (begun_rests (is_next_segment held frame) b.request (stamp count) frame) })
  by_reading current ended held reading e h kept = goes_on current ended held reading e refl h kept

-- after what has come of the upload, with what both have: nothing ends wrongly
pub exchange_whole : (d : Description) (contents : Contents) (stamp : ℕ → ℕ) (frame : List ℕ) (current : Option OpenTransfer) (ended : Option Read) (v : View) → FollowsIn (Unit {0}) v.following.transfer v.got current ended
    → IfSome v.following.transfer (λ t. t.taken ≡ digest_of v.got)
    → IsWhole (reads v.following (stamp v.count) Client frame).says.ended × AllWhole stamp (answers_to d contents current frame) (hears stamp Client frame v)
exchange_whole d contents stamp frame current ended v h kept =
    by_reading d contents stamp frame v.following.heard v.got v.done v.count current ended v.following.transfer (reading_of v.following.transfer Client (stamp v.count) frame) refl h kept

-- ---- what is kept of the data

begun_taken : (request : SdoRequest) (micros : ℕ) (bytes : List ℕ) → IfSome (begun_with request micros bytes) (λ t. t.taken ≡ digest_of [])
begun_taken (DownloadExpedited key value) micros bytes = refl
begun_taken (DownloadInitiate key size) micros bytes = refl
begun_taken (BlockDownloadInitiate key size) micros bytes = refl
begun_taken (UploadInitiate key) micros bytes = refl
begun_taken (BlockUploadInitiate key size threshold) micros bytes = refl
begun_taken _ micros bytes = tt

frame_taken : (w : What) (u : Transfer) (micros : ℕ) (side : Side) (got : List ℕ) → u.taken ≡ digest_of got → (with_frame w u micros side).taken ≡ digest_of got
frame_taken what.Overtaken u micros side got h = h
frame_taken _ u micros side got h = h

turn_taken : (x : Option (Option ℕ)) (heard : Bool) (w : What) (u : Transfer) (micros : ℕ) (side : Side) (got : List ℕ) → u.taken ≡ digest_of got → IfSome (turns_at x heard w u micros side).next.transfer (λ t. t.taken ≡ digest_of got)
turn_taken (Some crc) heard w u micros side got h = tt
turn_taken None heard w u micros side got h = frame_taken w u micros side got h

by_turn : (heard : Bool) (t : Transfer) (turn : Turn) (micros : ℕ) (side : Side) (got : List ℕ) → t.taken ≡ digest_of got
    → IfSome (turns_at (confirmed_with turn.transfer.stage) heard turn.what (after t turn) micros side).next.transfer (λ u. u.taken ≡ digest_of (data_with got turn.takes))
by_turn heard t turn micros side got h = turn_taken (confirmed_with turn.transfer.stage) heard turn.what (after t turn) micros side (data_with got turn.takes) (taking t.taken got turn.takes h)

kept_by : (heard : Bool) (current : Option Transfer) (reading : Reading) (micros : ℕ) (side : Side) (bytes got : List ℕ) → ((new : Transfer) → reading ≡ Begin new → new.taken ≡ digest_of []) → IfSome current (λ t. t.taken ≡ digest_of got)
    → IfSome (follows_by heard current reading micros side bytes).next.transfer (λ t. t.taken ≡ digest_of (bytes_by current reading bytes got))
kept_by heard current (Begin new) micros side bytes got b h = b new refl
kept_by heard None _ micros side bytes got b h = tt
kept_by heard (Some t) (Abort code) micros side bytes got b h = tt
kept_by heard (Some t) (Segment segment) micros side bytes got b h = by_turn heard t (turn_of t (Segment segment) bytes) micros side got h
kept_by heard (Some t) (Request request) micros side bytes got b h = by_turn heard t (turn_of t (Request request) bytes) micros side got h
kept_by heard (Some t) (Response response) micros side bytes got b h = by_turn heard t (turn_of t (Response response) bytes) micros side got h
kept_by heard (Some t) Nothing micros side bytes got b h = by_turn heard t (turn_of t Nothing bytes) micros side got h

begins_empty : (current : Option Transfer) (side : Side) (micros : ℕ) (bytes : List ℕ) (new : Transfer) → reading_of current side micros bytes ≡ Begin new → new.taken ≡ digest_of []
begins_empty current Client micros bytes new e =
    let b : BegunBy bytes micros (begun_after current bytes new) = begun_by current micros bytes new e in subst (λ o. IfSome o (λ t. t.taken ≡ digest_of [])) b.initiates (begun_taken b.request micros bytes)
begins_empty current Server micros bytes new e = absurd (false≢true (sym (server_no_begin current micros bytes) ∙ ap is_begin e))

abbrev pub HasTaken : View → Type 0
HasTaken v = IfSome v.following.transfer (λ t. t.taken ≡ digest_of v.got)

pub kept_hears : (stamp : ℕ → ℕ) (side : Side) (bytes : List ℕ) (v : View) → HasTaken v → HasTaken (hears stamp side bytes v)
kept_hears stamp side bytes v h =
    kept_by v.following.heard v.following.transfer (reading_of v.following.transfer side (stamp v.count) bytes) (stamp v.count) side bytes v.got (λ new e. begins_empty v.following.transfer side (stamp v.count) bytes new e) h

pub kept_answers : (stamp : ℕ → ℕ) (answers : List Answer) (v : View) → HasTaken v → HasTaken (hears_answers stamp answers v)
kept_answers stamp [] v h = h
kept_answers stamp (answer ∷ later) v h = kept_answers stamp later (hears stamp Server (answer_bytes answer) v) (kept_hears stamp Server (answer_bytes answer) v h)
