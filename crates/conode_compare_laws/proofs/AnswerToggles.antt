-- What one frame makes of explain's open transfer, whether in blocks or not: where an answer comes again (`Repeated`), and where none can.
use Rattle.std.proofs.Common.{◌≡◌, ℕ, ◌+◌, Bool, true, false, not, List, Option, Some, None, refl, sym, ap, ◌∙◌, ◌⊎◌, inl, inr, subst}
use Rattle.std.specs.Prelude.{◌&&◌, ◌==◌, nat_lt, if◌then◌else◌, IfSome, nat_le}
use Rattle.std.proofs.lemmas.Bool.{false≢true}
use Rattle.arrayvec.specs.ArrayVec.{ArrayVec}
use Rattle.co_value.specs.declared.key.Key.{Key}
use Rattle.co_value.specs.Keys.{same_key}
use Rattle.co_frame.specs.BlockSegments.{block_segment_in, is_abort_in_sub_block}
use Rattle.co_frame.specs.SdoParts.{code_in}
use Rattle.co_frame.specs.SdoRequests.{request_in}
use Rattle.co_frame.specs.Segments.{same_bool}
use Rattle.co_frame.specs.declared.block_segment.BlockSegment.{BlockSegment}
use Rattle.co_frame.specs.declared.sdo_request.SdoRequest.{SdoRequest}
use Rattle.co_frame.specs.declared.sdo_request.SdoRequest.TheVariants.{DownloadExpedited, DownloadInitiate, DownloadSegment, Upload as UploadInitiate, UploadSegment as NextSegment, Abort as Abandon, BlockUploadInitiate, BlockUploadEnd as UploadEnd, BlockUploadAcknowledge, BlockUploadStart, BlockDownloadInitiate, BlockDownloadEnd}
use Rattle.co_frame.specs.declared.sdo_response.SdoResponse.{SdoResponse}
use Rattle.co_frame.specs.declared.sdo_response.SdoResponse.TheVariants.{Abort as Refuse, DownloadDone, DownloadSegmentDone, UploadExpedited, UploadInitiated, UploadSegment, BlockDownloadInitiated, BlockDownloadDone, BlockDownloadAcknowledge, BlockUploadInitiated, BlockUploadEnd}
use Rattle.co_sdo.specs.OpenTransfers.{is_initiate as initiates}
use Rattle.conode_explain_transfers.specs.declared.kinds.Direction.{Direction}
use Rattle.conode_explain_transfers.specs.declared.kinds.Direction.TheVariants.{Download, Upload}
use Rattle.conode_explain_transfers.specs.declared.kinds.Protocol.{Protocol}
use Rattle.conode_explain_transfers.specs.declared.kinds.Protocol.TheVariants.{Expedited, Segmented}
use Rattle.conode_explain_transfers.specs.declared.kinds.Side.{Side}
use Rattle.conode_explain_transfers.specs.declared.kinds.Side.TheVariants.{Client, Server}
use Rattle.conode_explain_transfers.specs.declared.kinds.What.{What}
use Rattle.conode_explain_transfers.specs.declared.kinds.What.TheVariants as what
use Rattle.conode_explain_transfers.specs.declared.stage.Stage.{Stage}
use Rattle.conode_explain_transfers.specs.declared.stage.Stage.TheVariants.{AllAcknowledged, BlockEnded, BlockInitiated, Confirmed, DownloadConfirmed, DownloadSent, Initiated, SubBlock, UploadAsked, UploadTaken}
use Rattle.conode_explain_transfers.specs.declared.transfer.Transfer.{Transfer}
use Rattle.conode_explain_transfers.specs.BlockTurns.{acknowledged, acknowledged_at, block_ended, block_ended_at, block_segment_at, crc_in, end_confirmed, end_confirmed_at, is_block, segment_added, segment_again, segment_ahead, upload_started_at, segment_first, block_segment}
use Rattle.conode_explain_transfers.specs.Followed.{Followed, Following, turns_at, with_frame}
use Rattle.conode_explain_transfers.specs.Readings.{awaits_segment, is_sender, may_have_segment}
use Rattle.conode_explain_transfers.specs.SegmentedTurns.{answering, download_answered, download_segment_at, segment_done_at, upload_request_at, upload_segment_at}
use Rattle.conode_explain_transfers.specs.Stages.{confirmed_with, is_initiated}
use Rattle.conode_explain_transfers.specs.Transfers.{Turn, after, awaited_number, is_download, overtaken, unexpected}
use Rattle.conode_explain_transfers.specs.Turns.{request_turn, response_turn}
use Rattle.conode_explain_laws.proofs.Follows.{BegunBy, begun_by}
use Rattle.conode_explain_laws.proofs.Begins.{awaits}
use Rattle.conode_explain_laws.proofs.Readings.{Abort, Begin, Nothing, Reading, Request, Response, Segment, begun_with, follows_by, reading_of, request_reading, turn_of, beginning, plain_reading, segment_reading, begun_after}
use Rattle.conode_explain_laws.proofs.Views.{is_begin}
use Rattle.conode_compare_transfers.specs.Dialogues.{continues}
use Rattle.conode_compare_laws.proofs.AnswerFollowed.{reads}
use Rattle.conode_compare_laws.proofs.AnswerKeys.{asked_next, sent_next}
use Rattle.conode_compare_laws.proofs.AnswerTurns.{in_blocks, is_request}

-- ---- an answer that came before

abbrev pub is_again : What → Bool
is_again what.Repeated = true
is_again _ = false

-- in blocks none is, and it stays so, or ends
abbrev is_settled : Stage → Bool
is_settled (Confirmed crc) = true
is_settled stage = in_blocks stage

record Steady (turn : Turn) : Type 0 where
  pub once : is_again turn.what ≡ false
  pub stays : is_settled turn.transfer.stage ≡ true

either : (b : Bool) (x y : Turn) → Steady x → Steady y → Steady (if b then x else y)
either true x y p q = p
either false x y p q = q

settled : (stage : Stage) → in_blocks stage ≡ true → is_settled stage ≡ true
settled (Confirmed crc) h = refl
settled _ h = h

answered : (stage : Stage) → in_blocks stage ≡ true → is_initiated stage ≡ false
answered Initiated h = absurd (false≢true h)
answered _ h = refl

late : (initiated : Bool) (t : Transfer) (turn : Turn) → initiated ≡ false → Steady (unexpected t) → Steady (if initiated then turn else unexpected t)
late true t turn off h = absurd (false≢true (sym off))
late false t turn off h = h

module _ (t : Transfer) (b : in_blocks t.stage ≡ true) where
  odd : Steady (unexpected t)
  odd = record { once = refl; stays = settled t.stage b }

  no_download : (stage : Stage) (toggle : Bool) (items : ArrayVec ℕ) (last : Bool) → in_blocks stage ≡ true → Steady (download_segment_at stage t toggle items last)
  no_download (DownloadConfirmed awaited) toggle items last h = absurd (false≢true h)
  no_download (DownloadSent sent was_last) toggle items last h = absurd (false≢true h)
  no_download _ toggle items last h = odd

  no_request : (stage : Stage) (toggle : Bool) → in_blocks stage ≡ true → Steady (upload_request_at stage t toggle)
  no_request (UploadTaken awaited) toggle h = absurd (false≢true h)
  no_request (UploadAsked other) toggle h = absurd (false≢true h)
  no_request _ toggle h = odd

  no_done : (stage : Stage) (toggle : Bool) → in_blocks stage ≡ true → Steady (segment_done_at stage t toggle)
  no_done (DownloadSent sent last) toggle h = absurd (false≢true h)
  no_done (DownloadConfirmed awaited) toggle h = absurd (false≢true h)
  no_done _ toggle h = odd

  no_segment : (stage : Stage) (toggle : Bool) (items : ArrayVec ℕ) (last : Bool) → in_blocks stage ≡ true → Steady (upload_segment_at stage t toggle items last)
  no_segment (UploadAsked other) toggle items last h = absurd (false≢true h)
  no_segment (UploadTaken awaited) toggle items last h = absurd (false≢true h)
  no_segment _ toggle items last h = odd

  starts : (stage : Stage) → Steady (upload_started_at stage t)
  starts BlockInitiated = record { once = refl; stays = refl }
  starts _ = odd

  acknowledges_at : (stage : Stage) (sequence size : ℕ) → Steady (acknowledged_at stage t sequence size)
  acknowledges_at (SubBlock last) sequence size =
      either (nat_lt sequence (awaited_number t)) _ _
      (either (last && (sequence + 1 == awaited_number t)) _ _ (record { once = refl; stays = refl }) (record { once = refl; stays = refl })) (record { once = refl; stays = refl })
  acknowledges_at _ sequence size = odd

  acknowledges : (by : Bool) (sequence size : ℕ) → Steady (acknowledged by t sequence size)
  acknowledges true sequence size = acknowledges_at t.stage sequence size
  acknowledges false sequence size = odd

  ends_at : (stage : Stage) (unused crc : ℕ) → Steady (block_ended_at stage t unused crc)
  ends_at AllAcknowledged unused crc = record { once = refl; stays = refl }
  ends_at _ unused crc = odd

  ends : (by : Bool) (unused crc : ℕ) → Steady (block_ended by t unused crc)
  ends true unused crc = ends_at t.stage unused crc
  ends false unused crc = odd

  confirms_at : (stage : Stage) → Steady (end_confirmed_at stage t)
  confirms_at (BlockEnded crc) = record { once = refl; stays = refl }
  confirms_at Initiated = odd
  confirms_at _ = record { once = refl; stays = refl }

  confirms : (by : Bool) → Steady (end_confirmed by t)
  confirms true = either (is_block t.protocol) (end_confirmed_at t.stage t) (unexpected t) (confirms_at t.stage) odd
  confirms false = odd

  ahead : (c : Bool) (number awaited : ℕ) → is_again (if c then what.Segment number else what.OutOfSequence number awaited) ≡ false
  ahead true number awaited = refl
  ahead false number awaited = refl

  segments : (stage : Stage) (one : BlockSegment) → Steady (block_segment_at stage t one)
  segments (SubBlock false) one =
      either (nat_lt one.sequence t.next_number) (segment_again t one) _ (record { once = refl; stays = settled t.stage b })
      (either (one.sequence == awaited_number t) (segment_added t one) (segment_ahead t one) (record { once = refl; stays = refl })
      (record { once = ahead (one.sequence == t.next_number) one.sequence t.next_number; stays = settled t.stage b }))
  segments Initiated one = either (is_download t.direction && is_block t.protocol) (segment_first t one) (unexpected t) (record { once = refl; stays = refl }) odd
  segments _ one = odd

  first_late : (key : Key) (turn : Turn) → Steady (answering t key turn)
  first_late key turn = late (is_initiated t.stage) t _ (answered t.stage b) odd

  steady : (reading : Reading) (bytes : List ℕ) → Steady (turn_of t reading bytes)
  steady (Segment one) bytes = segments t.stage one
  steady (Request (DownloadSegment toggle items last)) bytes = no_download t.stage toggle items last b
  steady (Request (NextSegment toggle)) bytes = no_request t.stage toggle b
  steady (Request BlockUploadStart) bytes = starts t.stage
  steady (Request (BlockUploadAcknowledge sequence size)) bytes = acknowledges (not (is_download t.direction)) sequence size
  steady (Request UploadEnd) bytes = confirms (not (is_download t.direction))
  steady (Request (BlockDownloadEnd unused)) bytes = ends (is_download t.direction) unused (crc_in bytes)
  steady (Request _) bytes = odd
  steady (Response (DownloadDone key)) bytes = first_late key _
  steady (Response (DownloadSegmentDone toggle)) bytes = no_done t.stage toggle b
  steady (Response (UploadExpedited key value)) bytes = first_late key _
  steady (Response (UploadInitiated key size)) bytes = first_late key _
  steady (Response (UploadSegment toggle items last)) bytes = no_segment t.stage toggle items last b
  steady (Response (BlockDownloadInitiated key size)) bytes = first_late key _
  steady (Response BlockDownloadDone) bytes = confirms (is_download t.direction)
  steady (Response (BlockDownloadAcknowledge sequence size)) bytes = acknowledges (is_download t.direction) sequence size
  steady (Response (BlockUploadInitiated key size)) bytes = first_late key _
  steady (Response (BlockUploadEnd unused)) bytes = ends (not (is_download t.direction)) unused (crc_in bytes)
  steady (Response (Refuse key code)) bytes = odd
  steady (Abort code) bytes = odd
  steady (Begin new) bytes = odd
  steady Nothing bytes = odd

-- ---- at a frame

abbrev pub AreBlocks : Option Transfer → Type 0
AreBlocks o = IfSome o (λ u. in_blocks u.stage ≡ true)

pub record Once (f : Followed) : Type 0 where
  pub once : is_again f.says.what ≡ false
  pub blocks : AreBlocks f.next.transfer

frame_blocks : (w : What) (u : Transfer) (micros : ℕ) (side : Side) → in_blocks u.stage ≡ true → in_blocks (with_frame w u micros side).stage ≡ true
frame_blocks what.Overtaken u micros side h = h
frame_blocks _ u micros side h = h

unsettled : (stage : Stage) → confirmed_with stage ≡ None → is_settled stage ≡ true → in_blocks stage ≡ true
unsettled (Confirmed crc) e h = absurd (cc)
unsettled _ e h = h

turn_once : (x : Option (Option ℕ)) (heard : Bool) (w : What) (u : Transfer) (micros : ℕ) (side : Side) → confirmed_with u.stage ≡ x → is_again w ≡ false → is_settled u.stage ≡ true → Once (turns_at x heard w u micros side)
turn_once (Some crc) heard w u micros side e o s = record { once = o; blocks = tt }
turn_once None heard w u micros side e o s = record { once = o; blocks = frame_blocks w u micros side (unsettled u.stage e s) }

by_turn : (heard : Bool) (t : Transfer) (turn : Turn) (micros : ℕ) (side : Side) → Steady turn → Once (turns_at (confirmed_with turn.transfer.stage) heard turn.what (after t turn) micros side)
by_turn heard t turn micros side s = turn_once (confirmed_with turn.transfer.stage) heard turn.what (after t turn) micros side refl s.once s.stays

pub blocks_once : (heard : Bool) (current : Option Transfer) (reading : Reading) (micros : ℕ) (side : Side) (bytes : List ℕ) → is_begin reading ≡ false → AreBlocks current → Once (follows_by heard current reading micros side bytes)
blocks_once heard current (Begin new) micros side bytes n b = absurd (false≢true (sym n))
blocks_once true None _ micros side bytes n b = record { once = refl; blocks = tt }
blocks_once false None _ micros side bytes n b = record { once = refl; blocks = tt }
blocks_once heard (Some t) (Abort code) micros side bytes n b = record { once = refl; blocks = tt }
blocks_once heard (Some t) (Segment one) micros side bytes n b = by_turn heard t (turn_of t (Segment one) bytes) micros side (steady t b (Segment one) bytes)
blocks_once heard (Some t) (Request request) micros side bytes n b = by_turn heard t (turn_of t (Request request) bytes) micros side (steady t b (Request request) bytes)
blocks_once heard (Some t) (Response one) micros side bytes n b = by_turn heard t (turn_of t (Response one) bytes) micros side (steady t b (Response one) bytes)
blocks_once heard (Some t) Nothing micros side bytes n b = by_turn heard t (turn_of t Nothing bytes) micros side (steady t b Nothing bytes)

pub turn_what : (x : Option (Option ℕ)) (heard : Bool) (w : What) (u : Transfer) (micros : ℕ) (side : Side) → (turns_at x heard w u micros side).says.what ≡ w
turn_what None heard w u micros side = refl
turn_what (Some crc) heard w u micros side = refl

-- ---- the answer to an initiate request, where it is awaited

both : (b : Bool) (x y : Turn) → is_again x.what ≡ false → is_again y.what ≡ false → is_again (if b then x else y).what ≡ false
both true x y p q = p
both false x y p q = q

module _ (t : Transfer) where
  first_answer : (key : Key) (turn : Turn) → is_again turn.what ≡ false → is_again (answering t key turn).what ≡ false
  first_answer key turn h = both (is_initiated t.stage) _ (unexpected t) (both (same_key key t.key) turn (overtaken t) h refl) refl

  done_first : (protocol : Protocol) → is_again (download_answered t protocol).what ≡ false
  done_first Expedited = refl
  done_first Segmented = refl
  done_first _ = refl

  pub acknowledged_once : (by : Bool) (sequence size : ℕ) → is_again (acknowledged by t sequence size).what ≡ false
  acknowledged_once true sequence size = at t.stage
    where
      at : (stage : Stage) → is_again (acknowledged_at stage t sequence size).what ≡ false
      at (SubBlock last) = both (nat_lt sequence (awaited_number t)) _ _ (both (last && (sequence + 1 == awaited_number t)) _ _ refl refl) refl
      at _ = refl
  acknowledged_once false sequence size = refl

  pub confirmed_once : (by : Bool) → is_again (end_confirmed by t).what ≡ false
  confirmed_once true = both (is_block t.protocol) (end_confirmed_at t.stage t) (unexpected t) (at t.stage) refl
    where
      at : (stage : Stage) → is_again (end_confirmed_at stage t).what ≡ false
      at (BlockEnded crc) = refl
      at Initiated = refl
      at _ = refl
  confirmed_once false = refl

  ended_once : (by : Bool) (unused crc : ℕ) → is_again (block_ended by t unused crc).what ≡ false
  ended_once true unused crc = at t.stage
    where
      at : (stage : Stage) → is_again (block_ended_at stage t unused crc).what ≡ false
      at AllAcknowledged = refl
      at _ = refl
  ended_once false unused crc = refl

  response_once : (response : SdoResponse) (bytes : List ℕ) → t.stage ≡ Initiated → is_again (response_turn t response bytes).what ≡ false
  response_once (DownloadDone key) bytes e = first_answer key _ (both (is_download t.direction) _ _ (done_first t.protocol) refl)
  response_once (DownloadSegmentDone toggle) bytes e = ap (λ s. is_again (segment_done_at s t toggle).what) e
  response_once (UploadExpedited key value) bytes e = first_answer key _ (both (is_download t.direction) _ _ refl refl)
  response_once (UploadInitiated key size) bytes e = first_answer key _ (both (is_download t.direction) _ _ refl refl)
  response_once (UploadSegment toggle items last) bytes e = ap (λ s. is_again (upload_segment_at s t toggle items last).what) e
  response_once (BlockDownloadInitiated key size) bytes e = first_answer key _ (both (is_download t.direction && is_block t.protocol) _ _ refl refl)
  response_once BlockDownloadDone bytes e = confirmed_once (is_download t.direction)
  response_once (BlockDownloadAcknowledge sequence size) bytes e = acknowledged_once (is_download t.direction) sequence size
  response_once (BlockUploadInitiated key size) bytes e = first_answer key _ (both (is_download t.direction) _ _ refl (both (is_block t.protocol) _ _ refl refl))
  response_once (BlockUploadEnd unused) bytes e = ended_once (not (is_download t.direction)) unused (crc_in bytes)
  response_once (Refuse key code) bytes e = refl

pub first_once : (heard : Bool) (t : Transfer) (reading : Reading) (micros : ℕ) (bytes : List ℕ) → is_begin reading ≡ false → is_request reading ≡ false → t.stage ≡ Initiated → is_again (follows_by heard (Some t) reading micros Server bytes).says.what ≡ false
first_once heard t (Begin new) micros bytes n q e = absurd (false≢true (sym n))
first_once heard t (Request request) micros bytes n q e = absurd (false≢true (sym q))
first_once heard t (Abort code) micros bytes n q e = refl
first_once heard t (Segment one) micros bytes n q e =
    ap is_again (turn_what _ heard _ _ micros Server) ∙ ap (λ s. is_again (block_segment_at s t one).what) e
    ∙ both (is_download t.direction && is_block t.protocol) (segment_first t one) (unexpected t) refl refl
first_once heard t (Response one) micros bytes n q e = ap is_again (turn_what _ heard _ _ micros Server) ∙ response_once t one bytes e
first_once heard t Nothing micros bytes n q e = ap is_again (turn_what (confirmed_with (turn_of t Nothing bytes).transfer.stage) heard (turn_of t Nothing bytes).what (after t (turn_of t Nothing bytes)) micros Server)

-- ---- a frame of the client

-- it begins a transfer, or goes on with one
abbrev pub is_kept : What → Bool
is_kept what.Initiate = true
is_kept what.Part = true
is_kept (what.Segment number) = true
is_kept (what.OutOfSequence number awaited) = true
is_kept _ = false

pub data Heard (r : Option SdoRequest) (w : What) (o : Option Transfer) : Type 0 where
  odd_frame : is_kept w ≡ false → Heard r w o
  in_turn : AreBlocks o → Heard r w o
  begins_one : initiates r ≡ true → IfSome o (λ u. u.stage ≡ Initiated) → Heard r w o
  sends_one : (toggle last : Bool) (items : ArrayVec ℕ) → r ≡ Some (DownloadSegment toggle items last) → IfSome o (λ u. u.stage ≡ DownloadSent toggle last) → Heard r w o
  asks_one : (toggle : Bool) → r ≡ Some (NextSegment toggle) → IfSome o (λ u. u.stage ≡ UploadAsked toggle) → Heard r w o

initiates_it : (request : SdoRequest) (micros : ℕ) (bytes : List ℕ) (new : Transfer) → begun_with request micros bytes ≡ Some new → initiates (Some request) ≡ true
initiates_it (DownloadExpedited key value) micros bytes new e = refl
initiates_it (DownloadInitiate key size) micros bytes new e = refl
initiates_it (UploadInitiate key) micros bytes new e = refl
initiates_it (BlockUploadInitiate key size threshold) micros bytes new e = refl
initiates_it (BlockDownloadInitiate key size) micros bytes new e = refl
initiates_it _ micros bytes new e = absurd (let f : None ≡ Some new = e in cc)

begun_heard : (current : Option Transfer) (micros : ℕ) (bytes : List ℕ) (new : Transfer) (w : What) → reading_of current Client micros bytes ≡ Begin new → Heard (request_in bytes) w (Some (begun_after current bytes new))
begun_heard current micros bytes new w e =
    let b : BegunBy bytes micros (begun_after current bytes new) = begun_by current micros bytes new e in
    begins_one (ap initiates b.is ∙ initiates_it b.request micros bytes _ b.initiates) (subst (λ o. IfSome o (λ t. t.stage ≡ Initiated)) b.initiates (awaits b.request micros bytes))

frame_stage : (w : What) (u : Transfer) (micros : ℕ) (stage : Stage) → u.stage ≡ stage → (with_frame w u micros Client).stage ≡ stage
frame_stage what.Overtaken u micros stage e = e
frame_stage _ u micros stage e = e

turn_stage : (x : Option (Option ℕ)) (heard : Bool) (w : What) (u : Transfer) (micros : ℕ) (stage : Stage) → u.stage ≡ stage → IfSome (turns_at x heard w u micros Client).next.transfer (λ v. v.stage ≡ stage)
turn_stage (Some crc) heard w u micros stage e = tt
turn_stage None heard w u micros stage e = frame_stage w u micros stage e

-- a request where no transfer in blocks is open

module _ (heard : Bool) (t : Transfer) (micros : ℕ) (bytes : List ℕ) (out : in_blocks t.stage ≡ false) where
  abbrev After : Option SdoRequest → SdoRequest → Type 0
  After r request =
      Heard r (turns_at (confirmed_with (request_turn t request bytes).transfer.stage) heard (request_turn t request bytes).what (after t (request_turn t request bytes)) micros Client).says.what
      (turns_at (confirmed_with (request_turn t request bytes).transfer.stage) heard (request_turn t request bytes).what (after t (request_turn t request bytes)) micros Client).next.transfer

  not_kept : (r : Option SdoRequest) (request : SdoRequest) → is_kept (request_turn t request bytes).what ≡ false → After r request
  not_kept r request h =
      let turn : Turn = request_turn t request bytes in
      odd_frame (ap is_kept (turn_what (confirmed_with turn.transfer.stage) heard turn.what (after t turn) micros Client) ∙ h)

  sends : (toggle : Bool) (items : ArrayVec ℕ) (last : Bool) (go : Bool) → continues (request_turn t (DownloadSegment toggle items last) bytes).what ≡ go → After (Some (DownloadSegment toggle items last)) (DownloadSegment toggle items last)
  sends toggle items last true c =
      let turn : Turn = request_turn t (DownloadSegment toggle items last) bytes in
      sends_one toggle last items refl (turn_stage (confirmed_with turn.transfer.stage) heard turn.what (after t turn) micros (DownloadSent toggle last) (sent_next t.stage t toggle items last c))
  sends toggle items last false c = not_kept (Some (DownloadSegment toggle items last)) (DownloadSegment toggle items last) (by t.stage c)
    where
      either_kept : (b : Bool) (x y : Turn) → continues (if b then x else y).what ≡ false → (continues x.what ≡ false → is_kept x.what ≡ false) → (continues y.what ≡ false → is_kept y.what ≡ false) → is_kept (if b then x else y).what ≡ false
      either_kept true x y c p q = p c
      either_kept false x y c p q = q c

      by : (stage : Stage) → continues (download_segment_at stage t toggle items last).what ≡ false → is_kept (download_segment_at stage t toggle items last).what ≡ false
      by (DownloadConfirmed awaited) c = either_kept (same_bool toggle awaited) _ _ c (λ h. absurd (false≢true (sym h))) (λ h. refl)
      by (DownloadSent before was_last) c = either_kept (same_bool toggle before) _ _ c (λ h. refl) (λ h. absurd (false≢true (sym h)))
      by _ c = refl

  asks : (toggle : Bool) (go : Bool) → continues (request_turn t (NextSegment toggle) bytes).what ≡ go → After (Some (NextSegment toggle)) (NextSegment toggle)
  asks toggle true c =
      let turn : Turn = request_turn t (NextSegment toggle) bytes in
      asks_one toggle refl (turn_stage (confirmed_with turn.transfer.stage) heard turn.what (after t turn) micros (UploadAsked toggle) (asked_next t.stage t toggle c))
  asks toggle false c = not_kept (Some (NextSegment toggle)) (NextSegment toggle) (by t.stage c)
    where
      either_kept : (b : Bool) (x y : Turn) → continues (if b then x else y).what ≡ false → (continues x.what ≡ false → is_kept x.what ≡ false) → (continues y.what ≡ false → is_kept y.what ≡ false) → is_kept (if b then x else y).what ≡ false
      either_kept true x y c p q = p c
      either_kept false x y c p q = q c

      by : (stage : Stage) → continues (upload_request_at stage t toggle).what ≡ false → is_kept (upload_request_at stage t toggle).what ≡ false
      by (UploadTaken awaited) c = either_kept (same_bool toggle awaited) _ _ c (λ h. absurd (false≢true (sym h))) (λ h. refl)
      by (UploadAsked before) c = either_kept (same_bool toggle before) _ _ c (λ h. refl) (λ h. absurd (false≢true (sym h)))
      by _ c = refl

  no_start : (stage : Stage) → in_blocks stage ≡ false → is_kept (upload_started_at stage t).what ≡ false
  no_start BlockInitiated h = absurd (false≢true (sym h))
  no_start _ h = refl

  no_acknowledge : (by : Bool) (sequence size : ℕ) → is_kept (acknowledged by t sequence size).what ≡ false
  no_acknowledge true sequence size = at t.stage out
    where
      at : (stage : Stage) → in_blocks stage ≡ false → is_kept (acknowledged_at stage t sequence size).what ≡ false
      at (SubBlock last) h = absurd (false≢true (sym h))
      at _ h = refl
  no_acknowledge false sequence size = refl

  no_end : (by : Bool) (unused crc : ℕ) → is_kept (block_ended by t unused crc).what ≡ false
  no_end true unused crc = at t.stage out
    where
      at : (stage : Stage) → in_blocks stage ≡ false → is_kept (block_ended_at stage t unused crc).what ≡ false
      at AllAcknowledged h = absurd (false≢true (sym h))
      at _ h = refl
  no_end false unused crc = refl

  -- the client's end, of a transfer whose end didn't come: it ends
  turned_off : (turn : Turn) → (is_kept turn.what ≡ false) ⊎ (is_settled turn.transfer.stage ≡ true) → Heard (Some UploadEnd) (turns_at (confirmed_with turn.transfer.stage) heard turn.what (after t turn) micros Client).says.what
      (turns_at (confirmed_with turn.transfer.stage) heard turn.what (after t turn) micros Client).next.transfer
  turned_off turn (inl h) = odd_frame (ap is_kept (turn_what (confirmed_with turn.transfer.stage) heard turn.what (after t turn) micros Client) ∙ h)
  turned_off turn (inr h) = in_turn (by (confirmed_with turn.transfer.stage) refl)
    where
      by : (x : Option (Option ℕ)) → confirmed_with turn.transfer.stage ≡ x → AreBlocks (turns_at x heard turn.what (after t turn) micros Client).next.transfer
      by (Some crc) e = tt
      by None e = frame_blocks turn.what (after t turn) micros Client (unsettled turn.transfer.stage e h)

  ends_or : (by : Bool) → (is_kept (end_confirmed by t).what ≡ false) ⊎ (is_settled (end_confirmed by t).transfer.stage ≡ true)
  ends_or true = if_block (is_block t.protocol)
    where
      at : (stage : Stage) → (is_kept (end_confirmed_at stage t).what ≡ false) ⊎ (is_settled (end_confirmed_at stage t).transfer.stage ≡ true)
      at (BlockEnded crc) = inr refl
      at Initiated = inl refl
      at _ = inr refl

      if_block : (b : Bool) → (is_kept (if b then end_confirmed_at t.stage t else unexpected t).what ≡ false) ⊎ (is_settled (if b then end_confirmed_at t.stage t else unexpected t).transfer.stage ≡ true)
      if_block true = at t.stage
      if_block false = inl refl
  ends_or false = inl refl

  by_request : (r : Option SdoRequest) → is_begin (request_reading r micros bytes) ≡ false
      → Heard r (follows_by heard (Some t) (request_reading r micros bytes) micros Client bytes).says.what (follows_by heard (Some t) (request_reading r micros bytes) micros Client bytes).next.transfer
  by_request None n = odd_frame (ap is_kept (turn_what (confirmed_with (turn_of t Nothing bytes).transfer.stage) heard (turn_of t Nothing bytes).what (after t (turn_of t Nothing bytes)) micros Client))
  by_request (Some (Abandon key code)) n = in_turn tt
  by_request (Some (DownloadSegment toggle items last)) n = sends toggle items last (continues (request_turn t (DownloadSegment toggle items last) bytes).what) refl
  by_request (Some (NextSegment toggle)) n = asks toggle (continues (request_turn t (NextSegment toggle) bytes).what) refl
  by_request (Some BlockUploadStart) n = not_kept (Some BlockUploadStart) BlockUploadStart (no_start t.stage out)
  by_request (Some (BlockUploadAcknowledge sequence size)) n = not_kept (Some (BlockUploadAcknowledge sequence size)) (BlockUploadAcknowledge sequence size) (no_acknowledge (not (is_download t.direction)) sequence size)
  by_request (Some UploadEnd) n = turned_off (end_confirmed (not (is_download t.direction)) t) (ends_or (not (is_download t.direction)))
  by_request (Some (BlockDownloadEnd unused)) n = not_kept (Some (BlockDownloadEnd unused)) (BlockDownloadEnd unused) (no_end (is_download t.direction) unused (crc_in bytes))
  by_request (Some (DownloadExpedited key value)) n = absurd (false≢true (sym n))
  by_request (Some (DownloadInitiate key size)) n = absurd (false≢true (sym n))
  by_request (Some (UploadInitiate key)) n = absurd (false≢true (sym n))
  by_request (Some (BlockUploadInitiate key size threshold)) n = absurd (false≢true (sym n))
  by_request (Some (BlockDownloadInitiate key size)) n = absurd (false≢true (sym n))

plain : (t : Transfer) (micros : ℕ) (bytes : List ℕ) → awaits_segment t Client ≡ false → reading_of (Some t) Client micros bytes ≡ request_reading (request_in bytes) micros bytes
plain t micros bytes out = rw out refl

-- where a segment may come, no other request is read
abbrev is_inner : Reading → Bool
is_inner (Request request) = false
is_inner (Response response) = false
is_inner _ = true

beginning_inner : (reading : Reading) → is_inner (beginning reading) ≡ true
beginning_inner (Begin new) = refl
beginning_inner _ = refl

segment_inner : (block_size : ℕ) (segment : Option BlockSegment) (otherwise : Reading) → is_inner otherwise ≡ true → is_inner (segment_reading block_size segment otherwise) ≡ true
segment_inner block_size None otherwise h = h
segment_inner block_size (Some segment) otherwise h = by (nat_le segment.sequence block_size)
  where
    by : (b : Bool) → is_inner (if b then Segment segment else otherwise) ≡ true
    by true = refl
    by false = h

inner : (t : Transfer) (micros : ℕ) (bytes : List ℕ) → awaits_segment t Client ≡ true → is_inner (reading_of (Some t) Client micros bytes) ≡ true
inner t micros bytes on = rw on (by (is_abort_in_sub_block bytes))
  where
    by : (abort : Bool) → is_inner (if abort then Abort (code_in bytes) else segment_reading t.block_size (block_segment_in bytes) (beginning (plain_reading Client micros bytes))) ≡ true
    by true = refl
    by false = segment_inner t.block_size (block_segment_in bytes) _ (beginning_inner (plain_reading Client micros bytes))

-- outside blocks it may come after the initiate request of a download in blocks, and is in its first sub-block then
may_come : (stage : Stage) (direction : Direction) (protocol : Protocol) → in_blocks stage ≡ false → (if may_have_segment stage direction protocol then is_sender direction Client else false) ≡ true
    → (stage ≡ Initiated) × ((is_download direction && is_block protocol) ≡ true)
may_come (SubBlock last) direction protocol out on = absurd (false≢true (sym out))
may_come Initiated Download protocol out on = (refl, by (is_block protocol) on)
  where
    by : (block : Bool) → (if block then true else false) ≡ true → block ≡ true
    by true h = refl
    by false h = absurd (false≢true h)
may_come Initiated Upload protocol out on = absurd (false≢true on)
may_come _ direction protocol out on = absurd (false≢true on)

first_comes : (heard : Bool) (t : Transfer) (segment : BlockSegment) (micros : ℕ) (bytes : List ℕ) → in_blocks t.stage ≡ false → awaits_segment t Client ≡ true
    → AreBlocks (follows_by heard (Some t) (Segment segment) micros Client bytes).next.transfer
first_comes heard t segment micros bytes out on =
    let m = may_come t.stage t.direction t.protocol out on in
    let turn : block_segment t segment ≡ segment_first t segment =
    ap (λ s. block_segment_at s t segment) m.0 ∙ ap (λ b. if b then segment_first t segment else unexpected t) m.1 in
    subst (λ x. AreBlocks (turns_at (confirmed_with x.transfer.stage) heard x.what (after t x) micros Client).next.transfer) (sym turn) refl

inside_first : (heard : Bool) (t : Transfer) (reading : Reading) (micros : ℕ) (bytes : List ℕ) → in_blocks t.stage ≡ false → awaits_segment t Client ≡ true → is_begin reading ≡ false → is_inner reading ≡ true
    → Heard (request_in bytes) (follows_by heard (Some t) reading micros Client bytes).says.what (follows_by heard (Some t) reading micros Client bytes).next.transfer
inside_first heard t (Begin new) micros bytes out on n i = absurd (false≢true (sym n))
inside_first heard t (Request request) micros bytes out on n i = absurd (false≢true i)
inside_first heard t (Response response) micros bytes out on n i = absurd (false≢true i)
inside_first heard t (Abort code) micros bytes out on n i = in_turn tt
inside_first heard t (Segment segment) micros bytes out on n i = in_turn (first_comes heard t segment micros bytes out on)
inside_first heard t Nothing micros bytes out on n i =
    odd_frame (ap is_kept (turn_what (confirmed_with t.stage) heard what.Unexpected (after t (turn_of t Nothing bytes)) micros Client))

outside : (heard : Bool) (t : Transfer) (reading : Reading) (micros : ℕ) (bytes : List ℕ) → reading_of (Some t) Client micros bytes ≡ reading → is_begin reading ≡ false
    → Heard (request_in bytes) (follows_by heard (Some t) reading micros Client bytes).says.what (follows_by heard (Some t) reading micros Client bytes).next.transfer
outside heard t reading micros bytes e n = by (in_blocks t.stage) refl
  where
    by : (b : Bool) → in_blocks t.stage ≡ b → Heard (request_in bytes) (follows_by heard (Some t) reading micros Client bytes).says.what (follows_by heard (Some t) reading micros Client bytes).next.transfer
    by true b = in_turn (blocks_once heard (Some t) reading micros Client bytes n b).blocks
    by false out = by_end (awaits_segment t Client) refl
      where
        by_end : (awaited : Bool) → awaits_segment t Client ≡ awaited → Heard (request_in bytes) (follows_by heard (Some t) reading micros Client bytes).says.what (follows_by heard (Some t) reading micros Client bytes).next.transfer
        by_end true on = inside_first heard t reading micros bytes out on n (ap is_inner (sym e) ∙ inner t micros bytes on)
        by_end false off =
            let is : reading ≡ request_reading (request_in bytes) micros bytes = sym e ∙ plain t micros bytes off in
            subst (λ x. Heard (request_in bytes) (follows_by heard (Some t) x micros Client bytes).says.what (follows_by heard (Some t) x micros Client bytes).next.transfer) (sym is)
            (by_request heard t micros bytes out (request_in bytes) (sym (ap is_begin is) ∙ n))

by_reading : (heard : Bool) (current : Option Transfer) (reading : Reading) (micros : ℕ) (bytes : List ℕ) → reading_of current Client micros bytes ≡ reading
    → Heard (request_in bytes) (follows_by heard current reading micros Client bytes).says.what (follows_by heard current reading micros Client bytes).next.transfer
by_reading heard current (Begin new) micros bytes e = begun_heard current micros bytes new what.Initiate e
by_reading heard None reading micros bytes e = in_turn (blocks_once heard None reading micros Client bytes refl tt).blocks
by_reading heard (Some t) reading micros bytes e = outside heard t reading micros bytes e refl

pub client_heard : (following : Following) (micros : ℕ) (bytes : List ℕ) → Heard (request_in bytes) (reads following micros Client bytes).says.what (reads following micros Client bytes).next.transfer
client_heard following micros bytes = by_reading following.heard following.transfer (reading_of following.transfer Client micros bytes) micros bytes refl
