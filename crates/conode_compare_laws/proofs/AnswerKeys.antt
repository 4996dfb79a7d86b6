-- What no frame changes of explain's open transfer: its entry, its request, and that it isn't in blocks; and where it is after a segment was
-- asked for or sent.
use Rattle.std.proofs.Common.{◌≡◌, ℕ, ◌+◌, Bool, true, false, not, List, Some, refl, ap, ◌∙◌}
use Rattle.std.specs.Prelude.{◌&&◌, ◌==◌, nat_lt, if◌then◌else◌}
use Rattle.std.proofs.lemmas.Bool.{false≢true}
use Rattle.arrayvec.specs.ArrayVec.{ArrayVec}
use Rattle.co_value.specs.declared.key.Key.{Key}
use Rattle.co_value.specs.Keys.{same_key}
use Rattle.co_frame.specs.Segments.{same_bool}
use Rattle.co_frame.specs.declared.block_segment.BlockSegment.{BlockSegment}
use Rattle.co_frame.specs.declared.sdo_request.SdoRequest.{SdoRequest}
use Rattle.co_frame.specs.declared.sdo_request.SdoRequest.TheVariants.{DownloadSegment, UploadSegment as NextSegment, BlockUploadEnd as UploadEnd, BlockUploadAcknowledge, BlockUploadStart, BlockDownloadEnd}
use Rattle.co_frame.specs.declared.sdo_response.SdoResponse.{SdoResponse}
use Rattle.co_frame.specs.declared.sdo_response.SdoResponse.TheVariants.{DownloadDone, DownloadSegmentDone, UploadExpedited, UploadInitiated, UploadSegment, BlockDownloadInitiated, BlockDownloadDone, BlockDownloadAcknowledge, BlockUploadInitiated, BlockUploadEnd}
use Rattle.conode_explain_transfers.specs.declared.kinds.Protocol.{Protocol}
use Rattle.conode_explain_transfers.specs.declared.kinds.Protocol.TheVariants.{Expedited, Segmented}
use Rattle.conode_explain_transfers.specs.declared.kinds.What.TheVariants as what
use Rattle.conode_explain_transfers.specs.declared.stage.Stage.{Stage}
use Rattle.conode_explain_transfers.specs.declared.stage.Stage.TheVariants.{Initiated, DownloadConfirmed, DownloadSent, UploadTaken, UploadAsked, BlockInitiated, SubBlock, AllAcknowledged, BlockEnded}
use Rattle.conode_explain_transfers.specs.declared.transfer.Transfer.{Transfer}
use Rattle.conode_explain_transfers.specs.BlockTurns.{is_block, upload_started_at, segment_added, segment_ahead, segment_again, block_segment_at, acknowledged_at, acknowledged, crc_in, block_ended_at, block_ended, end_confirmed_at, end_confirmed, segment_first}
use Rattle.conode_explain_transfers.specs.SegmentedTurns.{answering, download_answered, download_segment_at, segment_done_at, segment_pending, upload_request_at, upload_segment_at}
use Rattle.conode_explain_transfers.specs.Stages.{is_initiated}
use Rattle.conode_explain_transfers.specs.Transfers.{Turn, is_download, awaited_number, unexpected, repeated, overtaken, irregular, goes_on}
use Rattle.conode_explain_transfers.specs.Turns.{request_turn, response_turn}
use Rattle.conode_explain_laws.proofs.Readings.{Reading, Segment, Request, Response, turn_of}
use Rattle.conode_compare_transfers.specs.Dialogues.{continues, is_initiate}

-- ---- what is kept

-- the entry, the request, and that the protocol isn't in blocks
pub record Kept (t u : Transfer) : Type 0 where
  pub key : u.key ≡ t.key
  pub request : u.request ≡ t.request
  pub protocol : is_block t.protocol ≡ false → is_block u.protocol ≡ false

-- by a frame that is no initiate request
record KeptIn (t : Transfer) (turn : Turn) : Type 0 where
  is : Kept t turn.transfer
  what : is_initiate turn.what ≡ false

same : (t : Transfer) (turn : Turn) → turn.transfer.key ≡ t.key → turn.transfer.request ≡ t.request → turn.transfer.protocol ≡ t.protocol → is_initiate turn.what ≡ false → KeptIn t turn
same t turn k r p w = record { is = record { key = k; request = r; protocol = λ h. ap is_block p ∙ h }; what = w }

either : (b : Bool) (t : Transfer) (x y : Turn) → KeptIn t x → KeptIn t y → KeptIn t (if b then x else y)
either true t x y p q = p
either false t x y p q = q

spoiled : (t : Transfer) → KeptIn t (unexpected t)
spoiled t = same t (unexpected t) refl refl refl refl

answers : (t : Transfer) (key : Key) (turn : Turn) → KeptIn t turn → KeptIn t (answering t key turn)
answers t key turn k = either (is_initiated t.stage) t _ _ (either (same_key key t.key) t turn (overtaken t) k (same t (overtaken t) refl refl refl refl)) (spoiled t)

download_kept : (t : Transfer) (protocol : Protocol) → KeptIn t (download_answered t protocol)
download_kept t Expedited = same t _ refl refl refl refl
download_kept t Segmented = same t _ refl refl refl refl
download_kept t _ = spoiled t

download_segment_kept : (stage : Stage) (t : Transfer) (toggle : Bool) (segment : ArrayVec ℕ) (last : Bool) → KeptIn t (download_segment_at stage t toggle segment last)
download_segment_kept (DownloadConfirmed awaited) t toggle segment last = either (same_bool toggle awaited) t _ _ (same t _ refl refl refl refl) (same t _ refl refl refl refl)
download_segment_kept (DownloadSent sent was_last) t toggle segment last = either (same_bool toggle sent) t _ _ (same t _ refl refl refl refl) (same t _ refl refl refl refl)
download_segment_kept _ t toggle segment last = spoiled t

segment_done_kept : (stage : Stage) (t : Transfer) (toggle : Bool) → KeptIn t (segment_done_at stage t toggle)
segment_done_kept (DownloadSent sent last) t toggle = either (same_bool toggle sent) t _ _ (same t _ refl refl refl refl) (same t _ refl refl refl refl)
segment_done_kept (DownloadConfirmed awaited) t toggle = either (same_bool toggle awaited) t _ _ (same t _ refl refl refl refl) (same t _ refl refl refl refl)
segment_done_kept _ t toggle = spoiled t

upload_request_kept : (stage : Stage) (t : Transfer) (toggle : Bool) → KeptIn t (upload_request_at stage t toggle)
upload_request_kept (UploadTaken awaited) t toggle = either (same_bool toggle awaited) t _ _ (same t _ refl refl refl refl) (same t _ refl refl refl refl)
upload_request_kept (UploadAsked asked) t toggle = either (same_bool toggle asked) t _ _ (same t _ refl refl refl refl) (same t _ refl refl refl refl)
upload_request_kept _ t toggle = spoiled t

upload_segment_kept : (stage : Stage) (t : Transfer) (toggle : Bool) (segment : ArrayVec ℕ) (last : Bool) → KeptIn t (upload_segment_at stage t toggle segment last)
upload_segment_kept (UploadAsked asked) t toggle segment last = either (same_bool toggle asked) t _ _ (same t _ refl refl refl refl) (same t _ refl refl refl refl)
upload_segment_kept (UploadTaken awaited) t toggle segment last = either (same_bool toggle awaited) t _ _ (same t _ refl refl refl refl) (same t _ refl refl refl refl)
upload_segment_kept _ t toggle segment last = spoiled t

started_kept : (stage : Stage) (t : Transfer) → KeptIn t (upload_started_at stage t)
started_kept BlockInitiated t = same t _ refl refl refl refl
started_kept _ t = spoiled t

block_segment_kept : (stage : Stage) (t : Transfer) (segment : BlockSegment) → KeptIn t (block_segment_at stage t segment)
block_segment_kept (SubBlock false) t segment =
    either (nat_lt segment.sequence t.next_number) t (segment_again t segment) _ (same t _ refl refl refl refl)
    (either (segment.sequence == awaited_number t) t (segment_added t segment) (segment_ahead t segment) (same t _ refl refl refl refl) (same t _ refl refl refl (ahead (segment.sequence == t.next_number))))
  where
    ahead : (b : Bool) → is_initiate (if b then what.Segment segment.sequence else what.OutOfSequence segment.sequence t.next_number) ≡ false
    ahead true = refl
    ahead false = refl
block_segment_kept Initiated t segment = either (is_download t.direction && is_block t.protocol) t (segment_first t segment) (unexpected t) (same t _ refl refl refl refl) (spoiled t)
block_segment_kept _ t segment = spoiled t

acknowledged_kept : (stage : Stage) (t : Transfer) (sequence block_size : ℕ) → KeptIn t (acknowledged_at stage t sequence block_size)
acknowledged_kept (SubBlock last) t sequence block_size =
    either (nat_lt sequence (awaited_number t)) t _ _
    (either (last && (sequence + 1 == awaited_number t)) t _ _ (same t _ refl refl refl refl) (same t _ refl refl refl refl))
    (same t _ refl refl refl refl)
acknowledged_kept _ t sequence block_size = spoiled t

by_receiver_kept : (by_receiver : Bool) (t : Transfer) (sequence block_size : ℕ) → KeptIn t (acknowledged by_receiver t sequence block_size)
by_receiver_kept true t sequence block_size = acknowledged_kept t.stage t sequence block_size
by_receiver_kept false t sequence block_size = spoiled t

ended_kept : (stage : Stage) (t : Transfer) (unused crc : ℕ) → KeptIn t (block_ended_at stage t unused crc)
ended_kept AllAcknowledged t unused crc = same t _ refl refl refl refl
ended_kept _ t unused crc = spoiled t

by_sender_kept : (by_sender : Bool) (t : Transfer) (unused crc : ℕ) → KeptIn t (block_ended by_sender t unused crc)
by_sender_kept true t unused crc = ended_kept t.stage t unused crc
by_sender_kept false t unused crc = spoiled t

end_at_kept : (stage : Stage) (t : Transfer) → KeptIn t (end_confirmed_at stage t)
end_at_kept (BlockEnded crc) t = same t _ refl refl refl refl
end_at_kept Initiated t = spoiled t
end_at_kept _ t = same t _ refl refl refl refl

end_kept : (by_receiver : Bool) (t : Transfer) → KeptIn t (end_confirmed by_receiver t)
end_kept true t = either (is_block t.protocol) t (end_confirmed_at t.stage t) (unexpected t) (end_at_kept t.stage t) (spoiled t)
end_kept false t = spoiled t

request_kept : (t : Transfer) (request : SdoRequest) (frame : List ℕ) → KeptIn t (request_turn t request frame)
request_kept t (DownloadSegment toggle segment last) frame = download_segment_kept t.stage t toggle segment last
request_kept t (NextSegment toggle) frame = upload_request_kept t.stage t toggle
request_kept t BlockUploadStart frame = started_kept t.stage t
request_kept t (BlockUploadAcknowledge sequence block_size) frame = by_receiver_kept (not (is_download t.direction)) t sequence block_size
request_kept t UploadEnd frame = end_kept (not (is_download t.direction)) t
request_kept t (BlockDownloadEnd unused) frame = by_sender_kept (is_download t.direction) t unused (crc_in frame)
request_kept t _ frame = spoiled t

response_kept : (t : Transfer) (response : SdoResponse) (frame : List ℕ) → KeptIn t (response_turn t response frame)
response_kept t (DownloadDone key) frame =
    answers t key _ (either (is_download t.direction) t (download_answered t t.protocol) (unexpected t) (download_kept t t.protocol) (spoiled t))
response_kept t (DownloadSegmentDone toggle) frame = segment_done_kept t.stage t toggle
response_kept t (UploadExpedited key value) frame = answers t key _ (either (is_download t.direction) t _ _ (spoiled t) (record { is = record { key = refl; request = refl; protocol = λ h. refl }; what = refl }))
response_kept t (UploadInitiated key size) frame = answers t key _ (either (is_download t.direction) t _ _ (spoiled t) (record { is = record { key = refl; request = refl; protocol = λ h. refl }; what = refl }))
response_kept t (UploadSegment toggle segment last) frame = upload_segment_kept t.stage t toggle segment last
response_kept t (BlockDownloadInitiated key block_size) frame = answers t key _ (either (is_download t.direction && is_block t.protocol) t _ _ (same t _ refl refl refl refl) (spoiled t))
response_kept t BlockDownloadDone frame = end_kept (is_download t.direction) t
response_kept t (BlockDownloadAcknowledge sequence block_size) frame = by_receiver_kept (is_download t.direction) t sequence block_size
response_kept t (BlockUploadInitiated key size) frame =
    answers t key _ (either (is_download t.direction) t _ _ (spoiled t) (either (is_block t.protocol) t _ _ (same t _ refl refl refl refl) (spoiled t)))
response_kept t (BlockUploadEnd unused) frame = by_sender_kept (not (is_download t.direction)) t unused (crc_in frame)
response_kept t _ frame = spoiled t

turn_kept : (t : Transfer) (reading : Reading) (frame : List ℕ) → KeptIn t (turn_of t reading frame)
turn_kept t (Segment segment) frame = block_segment_kept t.stage t segment
turn_kept t (Request request) frame = request_kept t request frame
turn_kept t (Response response) frame = response_kept t response frame
turn_kept t _ frame = spoiled t

pub kept : (t : Transfer) (reading : Reading) (frame : List ℕ) → Kept t (turn_of t reading frame).transfer
kept t reading frame = (turn_kept t reading frame).is

-- and it is taken for no initiate request
pub uninitiated : (t : Transfer) (reading : Reading) (frame : List ℕ) → is_initiate (turn_of t reading frame).what ≡ false
uninitiated t reading frame = (turn_kept t reading frame).what

-- ---- after a segment

-- where a segment of a download is the next frame, it is the one that is confirmed next
pub sent_next : (stage : Stage) (t : Transfer) (toggle : Bool) (segment : ArrayVec ℕ) (last : Bool) → continues (download_segment_at stage t toggle segment last).what ≡ true
    → (download_segment_at stage t toggle segment last).transfer.stage ≡ DownloadSent toggle last
sent_next (DownloadConfirmed awaited) t toggle segment last h = by (same_bool toggle awaited) h
  where
    by : (b : Bool) → continues (if b then goes_on (segment_pending t toggle last segment) else repeated t).what ≡ true
        → (if b then goes_on (segment_pending t toggle last segment) else repeated t).transfer.stage ≡ DownloadSent toggle last
    by true c = refl
    by false c = absurd (false≢true c)
sent_next (DownloadSent sent was_last) t toggle segment last h = by (same_bool toggle sent) h
  where
    by : (b : Bool) → continues (if b then repeated t else record (goes_on (segment_pending (irregular t) toggle last segment)) { takes = Some t.pending.items }).what ≡ true
        → (if b then repeated t else record (goes_on (segment_pending (irregular t) toggle last segment)) { takes = Some t.pending.items }).transfer.stage ≡ DownloadSent toggle last
    by true c = absurd (false≢true c)
    by false c = refl
sent_next _ t toggle segment last h = absurd (false≢true h)

-- where a segment of an upload is asked for in its turn, it is the one that comes next
pub asked_next : (stage : Stage) (t : Transfer) (toggle : Bool) → continues (upload_request_at stage t toggle).what ≡ true → (upload_request_at stage t toggle).transfer.stage ≡ UploadAsked toggle
asked_next (UploadTaken awaited) t toggle h = by (same_bool toggle awaited) h
  where
    by : (b : Bool) → continues (if b then goes_on (record t { stage = UploadAsked toggle }) else repeated t).what ≡ true
        → (if b then goes_on (record t { stage = UploadAsked toggle }) else repeated t).transfer.stage ≡ UploadAsked toggle
    by true c = refl
    by false c = absurd (false≢true c)
asked_next (UploadAsked asked) t toggle h = by (same_bool toggle asked) h
  where
    by : (b : Bool) → continues (if b then repeated t else goes_on (record (irregular t) { stage = UploadAsked toggle })).what ≡ true
        → (if b then repeated t else goes_on (record (irregular t) { stage = UploadAsked toggle })).transfer.stage ≡ UploadAsked toggle
    by true c = absurd (false≢true c)
    by false c = refl
asked_next _ t toggle h = absurd (false≢true h)
