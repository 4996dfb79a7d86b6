-- What one frame makes of explain's open transfer that isn't expedited, as one that a request begins which isn't an expedited download:
-- it ends expedited only with the answer that has all its data, where nothing came of it before.
use Rattle.std.proofs.Common.{◌≡◌, ℕ, ◌+◌, Bool, true, false, not, List, None, refl, sym, ap, ◌∙◌, ◌⊎◌, inl, inr}
use Rattle.std.specs.Prelude.{◌&&◌, ◌==◌, nat_lt, if◌then◌else◌}
use Rattle.std.proofs.lemmas.Bool.{false≢true}
use Rattle.arrayvec.specs.ArrayVec.{ArrayVec}
use Rattle.co_value.specs.declared.key.Key.{Key}
use Rattle.co_value.specs.Keys.{same_key}
use Rattle.co_frame.specs.Segments.{same_bool}
use Rattle.co_frame.specs.declared.block_segment.BlockSegment.{BlockSegment}
use Rattle.co_frame.specs.declared.sdo_request.ExpeditedData.{ExpeditedData}
use Rattle.co_frame.specs.declared.sdo_request.SdoRequest.{SdoRequest}
use Rattle.co_frame.specs.declared.sdo_request.SdoRequest.TheVariants.{DownloadSegment, UploadSegment as NextSegment, BlockUploadEnd as UploadEnd, BlockUploadAcknowledge, BlockUploadStart, BlockDownloadEnd}
use Rattle.co_frame.specs.declared.sdo_response.SdoResponse.{SdoResponse}
use Rattle.co_frame.specs.declared.sdo_response.SdoResponse.TheVariants.{DownloadDone, DownloadSegmentDone, UploadExpedited, UploadInitiated, UploadSegment, BlockDownloadInitiated, BlockDownloadDone, BlockDownloadAcknowledge, BlockUploadInitiated, BlockUploadEnd}
use Rattle.conode_explain_transfers.specs.declared.kinds.Protocol.{Protocol}
use Rattle.conode_explain_transfers.specs.declared.kinds.Protocol.TheVariants.{Expedited, Segmented}
use Rattle.conode_explain_transfers.specs.declared.stage.Stage.{Stage}
use Rattle.conode_explain_transfers.specs.declared.stage.Stage.TheVariants.{Initiated, DownloadConfirmed, DownloadSent, UploadTaken, UploadAsked, BlockInitiated, SubBlock, AllAcknowledged, BlockEnded}
use Rattle.conode_explain_transfers.specs.declared.transfer.Transfer.{Transfer}
use Rattle.conode_explain_transfers.specs.BlockTurns.{is_block, upload_started_at, segment_added, segment_ahead, segment_again, block_segment_at, acknowledged_at, acknowledged, crc_in, block_ended_at, block_ended, end_confirmed_at, end_confirmed, segment_first}
use Rattle.conode_explain_transfers.specs.Initiates.{data_of}
use Rattle.conode_explain_transfers.specs.SegmentedTurns.{answering, confirmed, download_answered, download_segment_at, download_stage, segment_done_at, upload_request_at, upload_segment_at, upload_stage}
use Rattle.conode_explain_transfers.specs.Stages.{is_initiated}
use Rattle.conode_explain_transfers.specs.Transfers.{Turn, is_download, awaited_number, unexpected, repeated, overtaken, takes_data}
use Rattle.conode_explain_transfers.specs.Turns.{request_turn, response_turn}
use Rattle.conode_explain_laws.proofs.Follows.{is_response}
use Rattle.conode_explain_laws.proofs.Readings.{Reading, Segment, Begin, Abort, Request, Response, Nothing, turn_of}

abbrev pub is_expedited : Protocol → Bool
is_expedited Expedited = true
is_expedited _ = false

-- a turn after which the answer to initiate is awaited still: it takes no data, and spoils the transfer; or leaves one that was (`strict`:
-- it spoils it in any case)
pub record Still (strict : Bool) (t : Transfer) (turn : Turn) : Type 0 where
  pub was : is_initiated t.stage ≡ true
  pub takes : turn.takes ≡ None
  pub spoilt : (strict ≡ true) ⊎ (t.irregular ≡ true) → turn.transfer.irregular ≡ true

pub record Goes (strict : Bool) (t : Transfer) (turn : Turn) : Type 0 where
  pub expedited : is_expedited turn.transfer.protocol ≡ false
  pub key : turn.transfer.key ≡ t.key
  pub still : is_initiated turn.transfer.stage ≡ true → Still strict t turn

module _ (strict : Bool) (t : Transfer) (e : is_expedited t.protocol ≡ false) where
  spoiled : Goes strict t (unexpected t)
  spoiled = record { expedited = e; key = refl; still = λ i. record { was = i; takes = refl; spoilt = λ s. refl } }

  again : Goes strict t (repeated t)
  again = record { expedited = e; key = refl; still = λ i. record { was = i; takes = refl; spoilt = λ s. refl } }

  -- another answer or frame of the transfer, after which it isn't awaited
  turned : (turn : Turn) → is_expedited turn.transfer.protocol ≡ false → turn.transfer.key ≡ t.key → is_initiated turn.transfer.stage ≡ false → Goes strict t turn
  turned turn p k n = record { expedited = p; key = k; still = λ i. absurd (false≢true (sym n ∙ i)) }

  either : (b : Bool) (x y : Turn) → Goes strict t x → Goes strict t y → Goes strict t (if b then x else y)
  either true x y p q = p
  either false x y p q = q

  download_segments : (stage : Stage) (toggle : Bool) (segment : ArrayVec ℕ) (last : Bool) → Goes strict t (download_segment_at stage t toggle segment last)
  download_segments (DownloadConfirmed awaited) toggle segment last = either (same_bool toggle awaited) _ _ (turned _ e refl refl) again
  download_segments (DownloadSent sent was_last) toggle segment last = either (same_bool toggle sent) _ _ again (turned _ e refl refl)
  download_segments _ toggle segment last = spoiled

  done_stage : (toggle last : Bool) → is_initiated (download_stage toggle last) ≡ false
  done_stage toggle true = refl
  done_stage toggle false = refl

  segments_done : (stage : Stage) (toggle : Bool) → Goes strict t (segment_done_at stage t toggle)
  segments_done (DownloadSent sent last) toggle = either (same_bool toggle sent) _ _ (turned _ e refl (done_stage sent last)) again
  segments_done (DownloadConfirmed awaited) toggle = either (same_bool toggle awaited) _ _ (turned _ e refl refl) again
  segments_done _ toggle = spoiled

  upload_requests : (stage : Stage) (toggle : Bool) → Goes strict t (upload_request_at stage t toggle)
  upload_requests (UploadTaken awaited) toggle = either (same_bool toggle awaited) _ _ (turned _ e refl refl) again
  upload_requests (UploadAsked asked) toggle = either (same_bool toggle asked) _ _ again (turned _ e refl refl)
  upload_requests _ toggle = spoiled

  came_stage : (toggle last : Bool) → is_initiated (upload_stage toggle last) ≡ false
  came_stage toggle true = refl
  came_stage toggle false = refl

  upload_segments : (stage : Stage) (toggle : Bool) (segment : ArrayVec ℕ) (last : Bool) → Goes strict t (upload_segment_at stage t toggle segment last)
  upload_segments (UploadAsked asked) toggle segment last = either (same_bool toggle asked) _ _ (turned _ e refl (came_stage toggle last)) again
  upload_segments (UploadTaken awaited) toggle segment last = either (same_bool toggle awaited) _ _ (turned _ e refl (came_stage toggle last)) again
  upload_segments _ toggle segment last = spoiled

  starts : (stage : Stage) → Goes strict t (upload_started_at stage t)
  starts BlockInitiated = turned _ e refl refl
  starts _ = spoiled

  block_segments : (stage : Stage) (segment : BlockSegment) → t.stage ≡ stage → Goes strict t (block_segment_at stage t segment)
  block_segments (SubBlock false) segment is =
      let off : is_initiated t.stage ≡ false = ap is_initiated is in
      either (nat_lt segment.sequence t.next_number) (segment_again t segment) _ (turned _ e refl off)
      (either (segment.sequence == awaited_number t) (segment_added t segment) (segment_ahead t segment) (turned _ e refl refl) (turned _ e refl off))
  block_segments Initiated segment is = either (is_download t.direction && is_block t.protocol) (segment_first t segment) (unexpected t) (turned _ e refl refl) spoiled
  block_segments _ segment is = spoiled

  acknowledges_at : (stage : Stage) (sequence size : ℕ) → Goes strict t (acknowledged_at stage t sequence size)
  acknowledges_at (SubBlock last) sequence size =
      either (nat_lt sequence (awaited_number t)) _ _
      (either (last && (sequence + 1 == awaited_number t)) _ _ (turned _ e refl refl) (turned _ e refl refl))
      (turned _ e refl refl)
  acknowledges_at _ sequence size = spoiled

  acknowledges : (by : Bool) (sequence size : ℕ) → Goes strict t (acknowledged by t sequence size)
  acknowledges true sequence size = acknowledges_at t.stage sequence size
  acknowledges false sequence size = spoiled

  block_ends_at : (stage : Stage) (unused crc : ℕ) → Goes strict t (block_ended_at stage t unused crc)
  block_ends_at AllAcknowledged unused crc = turned _ e refl refl
  block_ends_at _ unused crc = spoiled

  block_ends : (by : Bool) (unused crc : ℕ) → Goes strict t (block_ended by t unused crc)
  block_ends true unused crc = block_ends_at t.stage unused crc
  block_ends false unused crc = spoiled

  confirms_at : (stage : Stage) → Goes strict t (end_confirmed_at stage t)
  confirms_at (BlockEnded crc) = turned _ e refl refl
  confirms_at Initiated = spoiled
  confirms_at _ = turned _ e refl refl

  confirms : (by : Bool) → Goes strict t (end_confirmed by t)
  confirms true = either (is_block t.protocol) (end_confirmed_at t.stage t) (unexpected t) (confirms_at t.stage) spoiled
  confirms false = spoiled

  request_goes : (request : SdoRequest) (frame : List ℕ) → Goes strict t (request_turn t request frame)
  request_goes (DownloadSegment toggle segment last) frame = download_segments t.stage toggle segment last
  request_goes (NextSegment toggle) frame = upload_requests t.stage toggle
  request_goes BlockUploadStart frame = starts t.stage
  request_goes (BlockUploadAcknowledge sequence size) frame = acknowledges (not (is_download t.direction)) sequence size
  request_goes UploadEnd frame = confirms (not (is_download t.direction))
  request_goes (BlockDownloadEnd unused) frame = block_ends (is_download t.direction) unused (crc_in frame)
  request_goes _ frame = spoiled

-- an answer to initiate
module _ (t : Transfer) (e : is_expedited t.protocol ≡ false) where
  passed : Goes false t (overtaken t)
  passed = record { expedited = e; key = refl; still = λ i. record { was = i; takes = refl; spoilt = by } }
    where
      by : (false ≡ true) ⊎ (t.irregular ≡ true) → t.irregular ≡ true
      by (inl never) = absurd (false≢true never)
      by (inr spoilt) = spoilt

  answers : (key : Key) (turn : Turn) → Goes false t turn → Goes false t (answering t key turn)
  answers key turn g = either false t e (is_initiated t.stage) _ (unexpected t) (either false t e (same_key key t.key) turn (overtaken t) g passed) (spoiled false t e)

  downloads : (protocol : Protocol) → is_expedited protocol ≡ false → Goes false t (download_answered t protocol)
  downloads Expedited n = absurd (false≢true (sym n))
  downloads Segmented n = turned false t e _ e refl refl
  downloads _ n = spoiled false t e

-- what a frame makes of it
pub data Outcome (t : Transfer) (reading : Reading) (turn : Turn) : Type 0 where
  goes_on : Goes false t turn → Outcome t reading turn
  shows : (key : Key) (value : ExpeditedData) → reading ≡ Response (UploadExpedited key value) → same_key key t.key ≡ true → is_initiated t.stage ≡ true
      → turn ≡ takes_data (record (confirmed t) { protocol = Expedited; crc = false }) (data_of value) → Outcome t reading turn

module _ (t : Transfer) (e : is_expedited t.protocol ≡ false) where
  -- with the data
  data_comes : (key : Key) (value : ExpeditedData) (awaited same : Bool) (down : Bool) → is_initiated t.stage ≡ awaited → same_key key t.key ≡ same
      → Outcome t (Response (UploadExpedited key value))
      (if awaited then (if same then (if down then unexpected t else takes_data (record (confirmed t) { protocol = Expedited; crc = false }) (data_of value)) else overtaken t) else unexpected t)
  data_comes key value false same down i k = goes_on (spoiled false t e)
  data_comes key value true false down i k = goes_on (passed t e)
  data_comes key value true true true i k = goes_on (spoiled false t e)
  data_comes key value true true false i k = shows key value refl k i refl

  response_outcome : (response : SdoResponse) (frame : List ℕ) → Outcome t (Response response) (response_turn t response frame)
  response_outcome (DownloadDone key) frame =
      goes_on (answers t e key _ (either false t e (is_download t.direction) (download_answered t t.protocol) (unexpected t) (downloads t e t.protocol e) (spoiled false t e)))
  response_outcome (DownloadSegmentDone toggle) frame = goes_on (segments_done false t e t.stage toggle)
  response_outcome (UploadExpedited key value) frame = data_comes key value (is_initiated t.stage) (same_key key t.key) (is_download t.direction) refl refl
  response_outcome (UploadInitiated key size) frame = goes_on (answers t e key _ (either false t e (is_download t.direction) (unexpected t) _ (spoiled false t e) (turned false t e _ refl refl refl)))
  response_outcome (UploadSegment toggle segment last) frame = goes_on (upload_segments false t e t.stage toggle segment last)
  response_outcome (BlockDownloadInitiated key size) frame =
      goes_on (answers t e key _ (either false t e (is_download t.direction && is_block t.protocol) _ (unexpected t) (turned false t e _ e refl refl) (spoiled false t e)))
  response_outcome BlockDownloadDone frame = goes_on (confirms false t e (is_download t.direction))
  response_outcome (BlockDownloadAcknowledge sequence size) frame = goes_on (acknowledges false t e (is_download t.direction) sequence size)
  response_outcome (BlockUploadInitiated key size) frame =
      goes_on (answers t e key _ (either false t e (is_download t.direction) (unexpected t) _ (spoiled false t e) (either false t e (is_block t.protocol) _ (unexpected t) (turned false t e _ e refl refl) (spoiled false t e))))
  response_outcome (BlockUploadEnd unused) frame = goes_on (block_ends false t e (not (is_download t.direction)) unused (crc_in frame))
  response_outcome _ frame = goes_on (spoiled false t e)

  pub outcome : (reading : Reading) (frame : List ℕ) → Outcome t reading (turn_of t reading frame)
  outcome (Segment segment) frame = goes_on (block_segments false t e t.stage segment refl)
  outcome (Request request) frame = goes_on (request_goes false t e request frame)
  outcome (Response response) frame = response_outcome response frame
  outcome (Begin new) frame = goes_on (spoiled false t e)
  outcome (Abort code) frame = goes_on (spoiled false t e)
  outcome Nothing frame = goes_on (spoiled false t e)

  -- a frame of a client spoils it, where the answer is awaited still
  pub client_goes : (reading : Reading) (frame : List ℕ) → is_response reading ≡ false → Goes true t (turn_of t reading frame)
  client_goes (Segment segment) frame n = block_segments true t e t.stage segment refl
  client_goes (Request request) frame n = request_goes true t e request frame
  client_goes (Response response) frame n = absurd (false≢true (sym n))
  client_goes (Begin new) frame n = spoiled true t e
  client_goes (Abort code) frame n = spoiled true t e
  client_goes Nothing frame n = spoiled true t e
