-- What no frame changes of an open transfer.
use Rattle.std.proofs.Common.{◌≡◌, ℕ, ◌+◌, Bool, true, false, not, List, [], refl, sym, ap, ◌∙◌}
use Rattle.std.specs.Prelude.{◌&&◌, ◌==◌, nat_lt, if◌then◌else◌}
use Rattle.arrayvec.specs.ArrayVec.{ArrayVec}
use Rattle.co_value.specs.declared.key.Key.{Key}
use Rattle.co_value.specs.Keys.{same_key}
use Rattle.co_frame.specs.Segments.{same_bool}
use Rattle.co_frame.specs.declared.block_segment.BlockSegment.{BlockSegment}
use Rattle.co_frame.specs.declared.sdo_request.SdoRequest.{SdoRequest}
use Rattle.co_frame.specs.declared.sdo_request.SdoRequest.TheVariants.{DownloadSegment, UploadSegment as NextSegment, BlockUploadEnd as UploadEnd, BlockUploadAcknowledge, BlockUploadStart, BlockDownloadEnd}
use Rattle.co_frame.specs.declared.sdo_response.SdoResponse.{SdoResponse}
use Rattle.co_frame.specs.declared.sdo_response.SdoResponse.TheVariants.{DownloadDone, DownloadSegmentDone, UploadExpedited, UploadInitiated, UploadSegment, BlockDownloadInitiated, BlockDownloadDone, BlockDownloadAcknowledge, BlockUploadInitiated, BlockUploadEnd}
use Rattle.conode_explain_transfers.specs.declared.kinds.Direction.{Direction}
use Rattle.conode_explain_transfers.specs.declared.kinds.Direction.TheVariants.{Download, Upload}
use Rattle.conode_explain_transfers.specs.declared.kinds.Protocol.{Protocol}
use Rattle.conode_explain_transfers.specs.declared.kinds.Protocol.TheVariants.{Expedited, Segmented}
use Rattle.conode_explain_transfers.specs.declared.stage.Stage.{Stage}
use Rattle.conode_explain_transfers.specs.declared.stage.Stage.TheVariants.{Initiated, DownloadConfirmed, DownloadSent, UploadTaken, UploadAsked, BlockInitiated, SubBlock, AllAcknowledged, BlockEnded}
use Rattle.conode_explain_transfers.specs.declared.transfer.Transfer.{Transfer}
use Rattle.conode_explain_transfers.specs.BlockTurns.{is_block, upload_started_at, segment_added, segment_ahead, segment_again, segment_first, block_segment_at, acknowledged_at, acknowledged, crc_in, block_ended_at, block_ended, end_confirmed_at, end_confirmed}
use Rattle.conode_explain_transfers.specs.SegmentedTurns.{answering, confirmed, download_answered, download_segment_at, download_stage, segment_done_at, upload_request_at, upload_segment_at, upload_stage}
use Rattle.conode_explain_transfers.specs.Stages.{is_initiated}
use Rattle.conode_explain_transfers.specs.Transfers.{Turn, is_download, awaited_number, unexpected, repeated, overtaken, irregular, takes_data}
use Rattle.conode_explain_transfers.specs.Turns.{request_turn, response_turn}
use Rattle.conode_explain_laws.proofs.Readings.{Reading, Segment, Request, Response, turn_of}

-- a transfer that is irregular or answered stays so; its direction stays, and so does the protocol
-- of a download
pub record Keeps (before after : Transfer) : Type 0 where
  pub irregular : before.irregular ≡ true → after.irregular ≡ true
  pub answered : is_initiated before.stage ≡ false → is_initiated after.stage ≡ false
  pub direction : after.direction ≡ before.direction
  pub protocol : before.direction ≡ Download → after.protocol ≡ before.protocol

abbrev pub KeepsIn : Transfer → Turn → Type 0
KeepsIn before turn = Keeps before turn.transfer

-- ---- by what changes

-- nothing that is kept, but the stage
moves : (t u : Transfer) → u.irregular ≡ t.irregular → is_initiated u.stage ≡ false → u.direction ≡ t.direction → u.protocol ≡ t.protocol
    → Keeps t u
moves t u i s d p = record { irregular = λ h. i ∙ h; answered = λ h. s; direction = d; protocol = λ h. p }

-- it is irregular then
spoils : (t u : Transfer) → u.irregular ≡ true → (is_initiated t.stage ≡ false → is_initiated u.stage ≡ false) → u.direction ≡ t.direction
    → u.protocol ≡ t.protocol → Keeps t u
spoils t u i s d p = record { irregular = λ h. i; answered = s; direction = d; protocol = λ h. p }

same : (t : Transfer) → Keeps t t
same t = record { irregular = λ h. h; answered = λ h. h; direction = refl; protocol = λ h. refl }

spoiled : (t : Transfer) → Keeps t (irregular t)
spoiled t = spoils t (irregular t) refl (λ h. h) refl refl

either : (b : Bool) (t : Transfer) (x y : Turn) → KeepsIn t x → KeepsIn t y → KeepsIn t (if b then x else y)
either true t x y kx ky = kx
either false t x y kx ky = ky

-- an upload becomes of any protocol when it is answered
uploads : (t u : Transfer) → t.direction ≡ Upload → u.irregular ≡ t.irregular → is_initiated u.stage ≡ false → u.direction ≡ t.direction → Keeps t u
uploads t u up i s d = record {
  irregular = λ h. i ∙ h;
  answered = λ h. s;
  direction = d;
  protocol = λ h. absurd (let e : Download ≡ Upload = sym h ∙ up in cc);
}

-- ---- responses to initiate

answers : (t : Transfer) (key : Key) (turn : Turn) → (is_initiated t.stage ≡ true → KeepsIn t turn) → KeepsIn t (answering t key turn)
answers t key turn k = by (is_initiated t.stage) refl
  where
    by : (first : Bool) → is_initiated t.stage ≡ first → KeepsIn t (if first then (if same_key key t.key then turn else overtaken t) else unexpected t)
    by true e = either (same_key key t.key) t turn (overtaken t) (k e) (same t)
    by false e = spoiled t

download_keeps : (t : Transfer) (protocol : Protocol) → t.protocol ≡ protocol → KeepsIn t (download_answered t protocol)
download_keeps t Expedited e = moves t (takes_data (confirmed t) []).transfer refl refl refl refl
download_keeps t Segmented e = moves t _ refl refl refl refl
download_keeps t _ e = spoiled t

upload_keeps : (t : Transfer) (x : Direction) (turn : Turn) → t.direction ≡ x → (x ≡ Upload → KeepsIn t turn)
    → KeepsIn t (if is_download x then unexpected t else turn)
upload_keeps t Download turn e k = spoiled t
upload_keeps t Upload turn e k = k refl

-- ---- segments

download_segment_keeps : (stage : Stage) (t : Transfer) (toggle : Bool) (segment : ArrayVec ℕ) (last : Bool) → KeepsIn t (download_segment_at stage t toggle segment last)
download_segment_keeps (DownloadConfirmed awaited) t toggle segment last =
    either (same_bool toggle awaited) t _ (repeated t) (moves t _ refl refl refl refl) (spoiled t)
download_segment_keeps (DownloadSent sent was_last) t toggle segment last =
    either (same_bool toggle sent) t (repeated t) _ (spoiled t) (spoils t _ refl (λ h. refl) refl refl)
download_segment_keeps _ t toggle segment last = spoiled t

goes_to : (t : Transfer) (toggle last : Bool) → is_initiated (download_stage toggle last) ≡ false
goes_to t toggle true = refl
goes_to t toggle false = refl

segment_done_keeps : (stage : Stage) (t : Transfer) (toggle : Bool) → KeepsIn t (segment_done_at stage t toggle)
segment_done_keeps (DownloadSent sent last) t toggle =
    either (same_bool toggle sent) t _ (repeated t) (moves t _ refl (goes_to t sent last) refl refl) (spoiled t)
segment_done_keeps (DownloadConfirmed awaited) t toggle =
    either (same_bool toggle awaited) t _ (repeated t) (spoils t _ refl (λ h. refl) refl refl) (spoiled t)
segment_done_keeps _ t toggle = spoiled t

upload_request_keeps : (stage : Stage) (t : Transfer) (toggle : Bool) → KeepsIn t (upload_request_at stage t toggle)
upload_request_keeps (UploadTaken awaited) t toggle = either (same_bool toggle awaited) t _ (repeated t) (moves t _ refl refl refl refl) (spoiled t)
upload_request_keeps (UploadAsked asked) t toggle = either (same_bool toggle asked) t (repeated t) _ (spoiled t) (spoils t _ refl (λ h. refl) refl refl)
upload_request_keeps _ t toggle = spoiled t

comes_to : (toggle last : Bool) → is_initiated (upload_stage toggle last) ≡ false
comes_to toggle true = refl
comes_to toggle false = refl

upload_segment_keeps : (stage : Stage) (t : Transfer) (toggle : Bool) (segment : ArrayVec ℕ) (last : Bool) → KeepsIn t (upload_segment_at stage t toggle segment last)
upload_segment_keeps (UploadAsked asked) t toggle segment last =
    either (same_bool toggle asked) t _ (repeated t) (moves t _ refl (comes_to toggle last) refl refl) (spoiled t)
upload_segment_keeps (UploadTaken awaited) t toggle segment last =
    either (same_bool toggle awaited) t _ (repeated t) (spoils t _ refl (λ h. comes_to toggle last) refl refl) (spoiled t)
upload_segment_keeps _ t toggle segment last = spoiled t

-- ---- blocks

started_keeps : (stage : Stage) (t : Transfer) → KeepsIn t (upload_started_at stage t)
started_keeps BlockInitiated t = moves t _ refl refl refl refl
started_keeps _ t = spoiled t

block_segment_keeps : (stage : Stage) (t : Transfer) (segment : BlockSegment) → t.stage ≡ stage → KeepsIn t (block_segment_at stage t segment)
block_segment_keeps (SubBlock false) t segment e =
    either (nat_lt segment.sequence t.next_number) t (segment_again t segment) _ (spoiled t)
    (either (segment.sequence == awaited_number t) t (segment_added t segment) (segment_ahead t segment)
    (moves t _ refl refl refl refl) (moves t _ refl (ap is_initiated e) refl refl))
block_segment_keeps Initiated t segment e =
    either (is_download t.direction && is_block t.protocol) t (segment_first t segment) (unexpected t) (spoils t _ refl (λ h. refl) refl refl) (spoiled t)
block_segment_keeps _ t segment e = spoiled t

acknowledged_keeps : (stage : Stage) (t : Transfer) (sequence block_size : ℕ) → KeepsIn t (acknowledged_at stage t sequence block_size)
acknowledged_keeps (SubBlock last) t sequence block_size =
    either (nat_lt sequence (awaited_number t)) t _ _
    (either (last && (sequence + 1 == awaited_number t)) t _ _ (moves t _ refl refl refl refl) (moves t _ refl refl refl refl))
    (spoils t _ refl (λ h. refl) refl refl)
acknowledged_keeps _ t sequence block_size = spoiled t

by_receiver_keeps : (by_receiver : Bool) (t : Transfer) (sequence block_size : ℕ) → KeepsIn t (acknowledged by_receiver t sequence block_size)
by_receiver_keeps true t sequence block_size = acknowledged_keeps t.stage t sequence block_size
by_receiver_keeps false t sequence block_size = spoiled t

ended_keeps : (stage : Stage) (t : Transfer) (unused crc : ℕ) → KeepsIn t (block_ended_at stage t unused crc)
ended_keeps AllAcknowledged t unused crc = moves t _ refl refl refl refl
ended_keeps _ t unused crc = spoiled t

by_sender_keeps : (by_sender : Bool) (t : Transfer) (unused crc : ℕ) → KeepsIn t (block_ended by_sender t unused crc)
by_sender_keeps true t unused crc = ended_keeps t.stage t unused crc
by_sender_keeps false t unused crc = spoiled t

end_at_keeps : (stage : Stage) (t : Transfer) → KeepsIn t (end_confirmed_at stage t)
end_at_keeps (BlockEnded crc) t = moves t _ refl refl refl refl
end_at_keeps Initiated t = spoiled t
end_at_keeps _ t = spoils t _ refl (λ h. refl) refl refl

end_keeps : (by_receiver : Bool) (t : Transfer) → KeepsIn t (end_confirmed by_receiver t)
end_keeps true t = either (is_block t.protocol) t (end_confirmed_at t.stage t) (unexpected t) (end_at_keeps t.stage t) (spoiled t)
end_keeps false t = spoiled t

-- ---- every frame

request_keeps : (t : Transfer) (request : SdoRequest) (frame : List ℕ) → KeepsIn t (request_turn t request frame)
request_keeps t (DownloadSegment toggle segment last) frame = download_segment_keeps t.stage t toggle segment last
request_keeps t (NextSegment toggle) frame = upload_request_keeps t.stage t toggle
request_keeps t BlockUploadStart frame = started_keeps t.stage t
request_keeps t (BlockUploadAcknowledge sequence block_size) frame = by_receiver_keeps (not (is_download t.direction)) t sequence block_size
request_keeps t UploadEnd frame = end_keeps (not (is_download t.direction)) t
request_keeps t (BlockDownloadEnd unused) frame = by_sender_keeps (is_download t.direction) t unused (crc_in frame)
request_keeps t _ frame = spoiled t

response_keeps : (t : Transfer) (response : SdoResponse) (frame : List ℕ) → KeepsIn t (response_turn t response frame)
response_keeps t (DownloadDone key) frame =
    answers t key _ (λ first. either (is_download t.direction) t (download_answered t t.protocol) (unexpected t) (download_keeps t t.protocol refl) (spoiled t))
response_keeps t (DownloadSegmentDone toggle) frame = segment_done_keeps t.stage t toggle
response_keeps t (UploadExpedited key value) frame =
    answers t key _ (λ first. upload_keeps t t.direction _ refl (λ up. uploads t _ up refl refl refl))
response_keeps t (UploadInitiated key size) frame =
    answers t key _ (λ first. upload_keeps t t.direction _ refl (λ up. uploads t _ up refl refl refl))
response_keeps t (UploadSegment toggle segment last) frame = upload_segment_keeps t.stage t toggle segment last
response_keeps t (BlockDownloadInitiated key block_size) frame =
    answers t key _ (λ first. either (is_download t.direction && is_block t.protocol) t _ (unexpected t) (moves t _ refl refl refl refl) (spoiled t))
response_keeps t BlockDownloadDone frame = end_keeps (is_download t.direction) t
response_keeps t (BlockDownloadAcknowledge sequence block_size) frame = by_receiver_keeps (is_download t.direction) t sequence block_size
response_keeps t (BlockUploadInitiated key size) frame =
    answers t key _ (λ first. upload_keeps t t.direction _ refl
    (λ up. either (is_block t.protocol) t _ (unexpected t) (moves t _ refl refl refl refl) (spoiled t)))
response_keeps t (BlockUploadEnd unused) frame = by_sender_keeps (not (is_download t.direction)) t unused (crc_in frame)
response_keeps t _ frame = spoiled t

pub keeps : (t : Transfer) (reading : Reading) (frame : List ℕ) → KeepsIn t (turn_of t reading frame)
keeps t (Segment segment) frame = block_segment_keeps t.stage t segment refl
keeps t (Request request) frame = request_keeps t request frame
keeps t (Response response) frame = response_keeps t response frame
keeps t _ frame = spoiled t
