-- What one frame makes of explain's open transfer, of whatever kind: which transfers are in blocks, and that no frame but an initiate
-- request begins one.
use Rattle.std.proofs.Common.{◌≡◌, ℕ, ◌+◌, Bool, true, false, not, List, None, refl, sym, ap, ◌∙◌}
use Rattle.std.specs.Prelude.{◌&&◌, ◌==◌, nat_lt, if◌then◌else◌, is_some}
use Rattle.std.proofs.lemmas.Bool.{false≢true}
use Rattle.arrayvec.specs.ArrayVec.{ArrayVec}
use Rattle.co_value.specs.declared.key.Key.{Key}
use Rattle.co_value.specs.Keys.{same_key}
use Rattle.co_frame.specs.Segments.{same_bool}
use Rattle.co_frame.specs.declared.block_segment.BlockSegment.{BlockSegment}
use Rattle.co_frame.specs.declared.sdo_request.SdoRequest.{SdoRequest}
use Rattle.co_frame.specs.declared.sdo_request.SdoRequest.TheVariants.{DownloadSegment, UploadSegment as NextSegment, BlockUploadEnd as UploadEnd, BlockUploadAcknowledge, BlockUploadStart, BlockDownloadEnd}
use Rattle.co_frame.specs.declared.sdo_response.SdoResponse.{SdoResponse}
use Rattle.co_frame.specs.declared.sdo_response.SdoResponse.TheVariants.{DownloadDone, DownloadSegmentDone, UploadExpedited, UploadInitiated, UploadSegment, BlockDownloadInitiated, BlockDownloadDone, BlockDownloadAcknowledge, BlockUploadInitiated, BlockUploadEnd}
use Rattle.conode_explain_transfers.specs.declared.kinds.Protocol.{Protocol}
use Rattle.conode_explain_transfers.specs.declared.kinds.Protocol.TheVariants.{Expedited, Segmented}
use Rattle.conode_explain_transfers.specs.declared.kinds.Side.TheVariants.{Client}
use Rattle.conode_explain_transfers.specs.declared.kinds.What.TheVariants as what
use Rattle.conode_explain_transfers.specs.declared.stage.Stage.{Stage}
use Rattle.conode_explain_transfers.specs.declared.stage.Stage.TheVariants.{Initiated, DownloadConfirmed, DownloadSent, UploadTaken, UploadAsked, BlockInitiated, SubBlock, AllAcknowledged, BlockEnded}
use Rattle.conode_explain_transfers.specs.declared.transfer.Transfer.{Transfer}
use Rattle.conode_explain_transfers.specs.BlockTurns.{is_block, upload_started_at, segment_added, segment_ahead, segment_again, block_segment, block_segment_at, acknowledged_at, acknowledged, crc_in, block_ended_at, block_ended, end_confirmed_at, end_confirmed, segment_first}
use Rattle.conode_explain_transfers.specs.Readings.{is_sender, may_have_segment}
use Rattle.conode_explain_transfers.specs.SegmentedTurns.{answering, download_answered, download_segment_at, segment_done_at, upload_request_at, upload_segment_at}
use Rattle.conode_explain_transfers.specs.Stages.{confirmed_with, is_initiated}
use Rattle.conode_explain_transfers.specs.Transfers.{Turn, is_download, awaited_number, unexpected, repeated, overtaken}
use Rattle.conode_explain_transfers.specs.Turns.{request_turn, response_turn}
use Rattle.conode_explain_laws.proofs.Readings.{Reading, Segment, Request, Response, turn_of}
use Rattle.conode_compare_laws.proofs.AnswerTurns.{in_blocks, is_ended, is_request, is_turned, out_of_blocks, still_out, unconfirmed}

-- ---- which transfers are in blocks

-- one in blocks has that protocol
abbrev pub Blocks : Transfer → Type 0
Blocks t = in_blocks t.stage ≡ true → is_block t.protocol ≡ true

-- an open transfer
pub record Live (t : Transfer) : Type 0 where
  pub unconfirmed : confirmed_with t.stage ≡ None
  pub blocks : Blocks t

-- ---- what a frame is in it

pub record Turned (turn : Turn) : Type 0 where
  pub what : is_turned turn.what ≡ true
  pub blocks : Blocks turn.transfer

either : (b : Bool) (x y : Turn) → Turned x → Turned y → Turned (if b then x else y)
either true x y p q = p
either false x y p q = q

spoiled : (t : Transfer) → Blocks t → Turned (unexpected t)
spoiled t b = record { what = refl; blocks = b }

again : (t : Transfer) → Blocks t → Turned (repeated t)
again t b = record { what = refl; blocks = b }

passed : (t : Transfer) → Blocks t → Turned (overtaken t)
passed t b = record { what = refl; blocks = b }

-- it isn't in blocks then
leaves : (turn : Turn) → is_turned turn.what ≡ true → in_blocks turn.transfer.stage ≡ false → Turned turn
leaves turn w out = record { what = w; blocks = λ h. absurd (false≢true (sym out ∙ h)) }

-- it has the protocol
moves : (turn : Turn) → is_turned turn.what ≡ true → is_block turn.transfer.protocol ≡ true → Turned turn
moves turn w p = record { what = w; blocks = λ h. p }

answers : (t : Transfer) (key : Key) (turn : Turn) → Blocks t → Turned turn → Turned (answering t key turn)
answers t key turn b k =
    either (is_initiated t.stage) _ _ (either (same_key key t.key) turn (overtaken t) k (passed t b)) (spoiled t b)

-- ---- responses to initiate

download_turned : (t : Transfer) (protocol : Protocol) → Blocks t → Turned (download_answered t protocol)
download_turned t Expedited b = leaves _ refl refl
download_turned t Segmented b = leaves _ refl refl
download_turned t _ b = spoiled t b

down_turned : (t : Transfer) (turn : Turn) (down block : Bool) → Blocks t → (block ≡ true → Turned turn) → Turned (if down && block then turn else unexpected t)
down_turned t turn true true b h = h refl
down_turned t turn true false b h = spoiled t b
down_turned t turn false block b h = spoiled t b

up_turned : (t : Transfer) (turn : Turn) (down block : Bool) → Blocks t → (block ≡ true → Turned turn) → Turned (if down then unexpected t else (if block then turn else unexpected t))
up_turned t turn true block b h = spoiled t b
up_turned t turn false true b h = h refl
up_turned t turn false false b h = spoiled t b

-- ---- segments

download_segment_turned : (stage : Stage) (t : Transfer) (toggle : Bool) (segment : ArrayVec ℕ) (last : Bool) → Blocks t → Turned (download_segment_at stage t toggle segment last)
download_segment_turned (DownloadConfirmed awaited) t toggle segment last b = either (same_bool toggle awaited) _ _ (leaves _ refl refl) (again t b)
download_segment_turned (DownloadSent sent was_last) t toggle segment last b = either (same_bool toggle sent) _ _ (again t b) (leaves _ refl refl)
download_segment_turned _ t toggle segment last b = spoiled t b

segment_done_turned : (stage : Stage) (t : Transfer) (toggle : Bool) → Blocks t → Turned (segment_done_at stage t toggle)
segment_done_turned (DownloadSent sent last) t toggle b = either (same_bool toggle sent) _ _ (leaves _ refl (out_of_blocks sent last)) (again t b)
segment_done_turned (DownloadConfirmed awaited) t toggle b = either (same_bool toggle awaited) _ _ (leaves _ refl refl) (again t b)
segment_done_turned _ t toggle b = spoiled t b

upload_request_turned : (stage : Stage) (t : Transfer) (toggle : Bool) → Blocks t → Turned (upload_request_at stage t toggle)
upload_request_turned (UploadTaken awaited) t toggle b = either (same_bool toggle awaited) _ _ (leaves _ refl refl) (again t b)
upload_request_turned (UploadAsked asked) t toggle b = either (same_bool toggle asked) _ _ (again t b) (leaves _ refl refl)
upload_request_turned _ t toggle b = spoiled t b

upload_segment_turned : (stage : Stage) (t : Transfer) (toggle : Bool) (segment : ArrayVec ℕ) (last : Bool) → Blocks t → Turned (upload_segment_at stage t toggle segment last)
upload_segment_turned (UploadAsked asked) t toggle segment last b = either (same_bool toggle asked) _ _ (leaves _ refl (still_out toggle last)) (again t b)
upload_segment_turned (UploadTaken awaited) t toggle segment last b = either (same_bool toggle awaited) _ _ (leaves _ refl (still_out toggle last)) (again t b)
upload_segment_turned _ t toggle segment last b = spoiled t b

-- ---- blocks

started_turned : (stage : Stage) (t : Transfer) → t.stage ≡ stage → Blocks t → Turned (upload_started_at stage t)
started_turned BlockInitiated t e b = moves _ refl (b (ap in_blocks e))
started_turned _ t e b = spoiled t b

ahead : (same : Bool) (number next : ℕ) → is_turned (if same then what.Segment number else what.OutOfSequence number next) ≡ true
ahead true number next = refl
ahead false number next = refl

block_segment_turned : (stage : Stage) (t : Transfer) (segment : BlockSegment) → t.stage ≡ stage → Blocks t → Turned (block_segment_at stage t segment)
block_segment_turned (SubBlock false) t segment e b =
    let u = b (ap in_blocks e) in
    either (nat_lt segment.sequence t.next_number) (segment_again t segment) _ (moves _ refl u)
    (either (segment.sequence == awaited_number t) (segment_added t segment) (segment_ahead t segment) (moves _ refl u)
    (moves _ (ahead (segment.sequence == t.next_number) segment.sequence t.next_number) u))
block_segment_turned Initiated t segment e b = down_turned t (segment_first t segment) (is_download t.direction) (is_block t.protocol) b (λ p. moves _ refl p)
block_segment_turned _ t segment e b = spoiled t b

acknowledged_turned : (stage : Stage) (t : Transfer) (sequence block_size : ℕ) → t.stage ≡ stage → Blocks t → Turned (acknowledged_at stage t sequence block_size)
acknowledged_turned (SubBlock last) t sequence block_size e b =
    let u = b (ap in_blocks e) in
    either (nat_lt sequence (awaited_number t)) _ _
    (either (last && (sequence + 1 == awaited_number t)) _ _ (moves _ refl u) (moves _ refl u))
    (moves _ refl u)
acknowledged_turned _ t sequence block_size e b = spoiled t b

by_receiver_turned : (by_receiver : Bool) (t : Transfer) (sequence block_size : ℕ) → Blocks t → Turned (acknowledged by_receiver t sequence block_size)
by_receiver_turned true t sequence block_size b = acknowledged_turned t.stage t sequence block_size refl b
by_receiver_turned false t sequence block_size b = spoiled t b

ended_turned : (stage : Stage) (t : Transfer) (unused crc : ℕ) → t.stage ≡ stage → Blocks t → Turned (block_ended_at stage t unused crc)
ended_turned AllAcknowledged t unused crc e b = moves _ refl (b (ap in_blocks e))
ended_turned _ t unused crc e b = spoiled t b

by_sender_turned : (by_sender : Bool) (t : Transfer) (unused crc : ℕ) → Blocks t → Turned (block_ended by_sender t unused crc)
by_sender_turned true t unused crc b = ended_turned t.stage t unused crc refl b
by_sender_turned false t unused crc b = spoiled t b

end_at_turned : (stage : Stage) (t : Transfer) → Blocks t → Turned (end_confirmed_at stage t)
end_at_turned (BlockEnded crc) t b = leaves _ refl refl
end_at_turned Initiated t b = spoiled t b
end_at_turned _ t b = leaves _ refl refl

end_turned : (by_receiver : Bool) (t : Transfer) → Blocks t → Turned (end_confirmed by_receiver t)
end_turned true t b = either (is_block t.protocol) (end_confirmed_at t.stage t) (unexpected t) (end_at_turned t.stage t b) (spoiled t b)
end_turned false t b = spoiled t b

-- ---- every frame

request_turned : (t : Transfer) (request : SdoRequest) (frame : List ℕ) → Blocks t → Turned (request_turn t request frame)
request_turned t (DownloadSegment toggle segment last) frame b = download_segment_turned t.stage t toggle segment last b
request_turned t (NextSegment toggle) frame b = upload_request_turned t.stage t toggle b
request_turned t BlockUploadStart frame b = started_turned t.stage t refl b
request_turned t (BlockUploadAcknowledge sequence block_size) frame b = by_receiver_turned (not (is_download t.direction)) t sequence block_size b
request_turned t UploadEnd frame b = end_turned (not (is_download t.direction)) t b
request_turned t (BlockDownloadEnd unused) frame b = by_sender_turned (is_download t.direction) t unused (crc_in frame) b
request_turned t _ frame b = spoiled t b

response_turned : (t : Transfer) (response : SdoResponse) (frame : List ℕ) → Blocks t → Turned (response_turn t response frame)
response_turned t (DownloadDone key) frame b =
    answers t key _ b (either (is_download t.direction) (download_answered t t.protocol) (unexpected t) (download_turned t t.protocol b) (spoiled t b))
response_turned t (DownloadSegmentDone toggle) frame b = segment_done_turned t.stage t toggle b
response_turned t (UploadExpedited key value) frame b = answers t key _ b (either (is_download t.direction) _ _ (spoiled t b) (leaves _ refl refl))
response_turned t (UploadInitiated key size) frame b = answers t key _ b (either (is_download t.direction) _ _ (spoiled t b) (leaves _ refl refl))
response_turned t (UploadSegment toggle segment last) frame b = upload_segment_turned t.stage t toggle segment last b
response_turned t (BlockDownloadInitiated key block_size) frame b =
    answers t key _ b (down_turned t _ (is_download t.direction) (is_block t.protocol) b (λ p. moves _ refl p))
response_turned t BlockDownloadDone frame b = end_turned (is_download t.direction) t b
response_turned t (BlockDownloadAcknowledge sequence block_size) frame b = by_receiver_turned (is_download t.direction) t sequence block_size b
response_turned t (BlockUploadInitiated key size) frame b =
    answers t key _ b (up_turned t _ (is_download t.direction) (is_block t.protocol) b (λ p. moves _ refl p))
response_turned t (BlockUploadEnd unused) frame b = by_sender_turned (not (is_download t.direction)) t unused (crc_in frame) b
response_turned t _ frame b = spoiled t b

pub turned : (t : Transfer) (reading : Reading) (frame : List ℕ) → Live t → Turned (turn_of t reading frame)
turned t (Segment segment) frame s = block_segment_turned t.stage t segment refl s.blocks
turned t (Request request) frame s = request_turned t request frame s.blocks
turned t (Response response) frame s = response_turned t response frame s.blocks
turned t _ frame s = spoiled t s.blocks

-- ---- in blocks: a transfer stays so until it is confirmed

-- the client's end of a download didn't come
abbrev pub IsUnended : Transfer → Type 0
IsUnended t = (is_download t.direction && is_ended t.stage) ≡ false

pub record Lasts (t : Transfer) : Type 0 where
  pub stage : in_blocks t.stage ≡ true
  pub block : is_block t.protocol ≡ true
  pub unended : IsUnended t

-- it is still in blocks, unless the frame was the last confirmation, before which frames are missing
pub record LastsIn (turn : Turn) : Type 0 where
  pub block : is_block turn.transfer.protocol ≡ true
  pub stage : confirmed_with turn.transfer.stage ≡ None → in_blocks turn.transfer.stage ≡ true
  pub unended : confirmed_with turn.transfer.stage ≡ None → IsUnended turn.transfer
  pub irregular : is_some (confirmed_with turn.transfer.stage) ≡ true → turn.transfer.irregular ≡ true

pub and_none : (a b : Bool) → b ≡ false → (a && b) ≡ false
and_none true b h = h
and_none false b h = refl

not_true : (b : Bool) → not b ≡ true → b ≡ false
not_true true h = absurd (false≢true h)
not_true false h = refl

either_lasts : (b : Bool) (x y : Turn) → LastsIn x → LastsIn y → LastsIn (if b then x else y)
either_lasts true x y p q = p
either_lasts false x y p q = q

stays : (t : Transfer) → Lasts t → LastsIn (unexpected t)
stays t l = record { block = l.block; stage = λ c. l.stage; unended = λ c. l.unended; irregular = λ h. refl }

goes : (turn : Turn) → in_blocks turn.transfer.stage ≡ true → is_block turn.transfer.protocol ≡ true → IsUnended turn.transfer → LastsIn turn
goes turn i p n = record {
  block = p;
  stage = λ c. i;
  unended = λ c. n;
  irregular = λ h. absurd (false≢true (sym (ap is_some (unconfirmed turn.transfer.stage i)) ∙ h));
}

on : (turn : Turn) → in_blocks turn.transfer.stage ≡ true → is_block turn.transfer.protocol ≡ true → is_ended turn.transfer.stage ≡ false → LastsIn turn
on turn i p e = goes turn i p (and_none (is_download turn.transfer.direction) (is_ended turn.transfer.stage) e)

-- the last confirmation
ends : (turn : Turn) → is_some (confirmed_with turn.transfer.stage) ≡ true → is_block turn.transfer.protocol ≡ true → turn.transfer.irregular ≡ true → LastsIn turn
ends turn c p r = record {
  block = p;
  stage = λ none. absurd (false≢true (sym (ap is_some none) ∙ c));
  unended = λ none. absurd (false≢true (sym (ap is_some none) ∙ c));
  irregular = λ h. r;
}

late : (stage : Stage) (t : Transfer) (key : Key) (turn : Turn) → in_blocks stage ≡ true → Lasts t
    → LastsIn (if is_initiated stage then (if same_key key t.key then turn else overtaken t) else unexpected t)
late Initiated t key turn i l = absurd (false≢true i)
late _ t key turn i l = stays t l

segment_done_lasts : (stage : Stage) (t : Transfer) (toggle : Bool) → in_blocks stage ≡ true → Lasts t → LastsIn (segment_done_at stage t toggle)
segment_done_lasts (DownloadSent sent last) t toggle i l = absurd (false≢true i)
segment_done_lasts (DownloadConfirmed awaited) t toggle i l = absurd (false≢true i)
segment_done_lasts _ t toggle i l = stays t l

upload_segment_lasts : (stage : Stage) (t : Transfer) (toggle : Bool) (segment : ArrayVec ℕ) (last : Bool) → in_blocks stage ≡ true → Lasts t → LastsIn (upload_segment_at stage t toggle segment last)
upload_segment_lasts (UploadAsked asked) t toggle segment last i l = absurd (false≢true i)
upload_segment_lasts (UploadTaken awaited) t toggle segment last i l = absurd (false≢true i)
upload_segment_lasts _ t toggle segment last i l = stays t l

block_segment_lasts : (stage : Stage) (t : Transfer) (segment : BlockSegment) → Lasts t → LastsIn (block_segment_at stage t segment)
block_segment_lasts (SubBlock false) t segment l =
    either_lasts (nat_lt segment.sequence t.next_number) (segment_again t segment) _ (goes _ l.stage l.block l.unended)
    (either_lasts (segment.sequence == awaited_number t) (segment_added t segment) (segment_ahead t segment) (on _ refl l.block refl) (goes _ l.stage l.block l.unended))
block_segment_lasts Initiated t segment l = either_lasts (is_download t.direction && is_block t.protocol) (segment_first t segment) (unexpected t) (on _ refl l.block refl) (stays t l)
block_segment_lasts _ t segment l = stays t l

acknowledged_lasts : (stage : Stage) (t : Transfer) (sequence block_size : ℕ) → Lasts t → LastsIn (acknowledged_at stage t sequence block_size)
acknowledged_lasts (SubBlock last) t sequence block_size l =
    either_lasts (nat_lt sequence (awaited_number t)) _ _
    (either_lasts (last && (sequence + 1 == awaited_number t)) _ _ (on _ refl l.block refl) (on _ refl l.block refl))
    (on _ refl l.block refl)
acknowledged_lasts _ t sequence block_size l = stays t l

by_receiver_lasts : (by_receiver : Bool) (t : Transfer) (sequence block_size : ℕ) → Lasts t → LastsIn (acknowledged by_receiver t sequence block_size)
by_receiver_lasts true t sequence block_size l = acknowledged_lasts t.stage t sequence block_size l
by_receiver_lasts false t sequence block_size l = stays t l

-- the server ends an upload
ended_lasts : (stage : Stage) (t : Transfer) (unused crc : ℕ) → is_download t.direction ≡ false → Lasts t → LastsIn (block_ended_at stage t unused crc)
ended_lasts AllAcknowledged t unused crc up l = goes _ refl l.block (ap (λ b. b && true) up)
ended_lasts _ t unused crc up l = stays t l

by_sender_lasts : (by_sender : Bool) (t : Transfer) (unused crc : ℕ) → not (is_download t.direction) ≡ by_sender → Lasts t → LastsIn (block_ended by_sender t unused crc)
by_sender_lasts true t unused crc up l = ended_lasts t.stage t unused crc (not_true (is_download t.direction) up) l
by_sender_lasts false t unused crc up l = stays t l

-- it confirms a download, whose end didn't come
end_at_lasts : (stage : Stage) (t : Transfer) → t.stage ≡ stage → is_download t.direction ≡ true → Lasts t → LastsIn (end_confirmed_at stage t)
end_at_lasts (BlockEnded crc) t e down l = absurd (false≢true (sym l.unended ∙ ap (λ b. b && is_ended t.stage) down ∙ ap is_ended e))
end_at_lasts Initiated t e down l = stays t l
end_at_lasts _ t e down l = ends _ refl l.block refl

end_lasts : (by_receiver : Bool) (t : Transfer) → is_download t.direction ≡ by_receiver → Lasts t → LastsIn (end_confirmed by_receiver t)
end_lasts true t down l = either_lasts (is_block t.protocol) (end_confirmed_at t.stage t) (unexpected t) (end_at_lasts t.stage t refl down l) (stays t l)
end_lasts false t down l = stays t l

response_lasts : (t : Transfer) (response : SdoResponse) (frame : List ℕ) → Lasts t → LastsIn (response_turn t response frame)
response_lasts t (DownloadDone key) frame l = late t.stage t key _ l.stage l
response_lasts t (DownloadSegmentDone toggle) frame l = segment_done_lasts t.stage t toggle l.stage l
response_lasts t (UploadExpedited key value) frame l = late t.stage t key _ l.stage l
response_lasts t (UploadInitiated key size) frame l = late t.stage t key _ l.stage l
response_lasts t (UploadSegment toggle segment last) frame l = upload_segment_lasts t.stage t toggle segment last l.stage l
response_lasts t (BlockDownloadInitiated key block_size) frame l = late t.stage t key _ l.stage l
response_lasts t BlockDownloadDone frame l = end_lasts (is_download t.direction) t refl l
response_lasts t (BlockDownloadAcknowledge sequence block_size) frame l = by_receiver_lasts (is_download t.direction) t sequence block_size l
response_lasts t (BlockUploadInitiated key size) frame l = late t.stage t key _ l.stage l
response_lasts t (BlockUploadEnd unused) frame l = by_sender_lasts (not (is_download t.direction)) t unused (crc_in frame) refl l
response_lasts t _ frame l = stays t l

pub lasts : (t : Transfer) (reading : Reading) (frame : List ℕ) → is_request reading ≡ false → Lasts t → LastsIn (turn_of t reading frame)
lasts t (Segment segment) frame n l = block_segment_lasts t.stage t segment l
lasts t (Request request) frame n l = absurd (false≢true (sym n))
lasts t (Response response) frame n l = response_lasts t response frame l
lasts t _ frame n l = stays t l

-- ---- a segment of the client

and_second : (a b : Bool) → (a && b) ≡ true → b ≡ true
and_second true b h = h
and_second false b h = absurd (false≢true h)

segment_lasts_at : (stage : Stage) (t : Transfer) (segment : BlockSegment) → t.stage ≡ stage → Blocks t → (if may_have_segment stage t.direction t.protocol then is_sender t.direction Client else false) ≡ true
    → LastsIn (block_segment_at stage t segment)
segment_lasts_at (SubBlock last) t segment e b h =
    block_segment_lasts (SubBlock last) t segment
    (record { stage = ap in_blocks e; block = b (ap in_blocks e); unended = and_none (is_download t.direction) (is_ended t.stage) (ap is_ended e) })
segment_lasts_at Initiated t segment e b h = by (is_download t.direction && is_block t.protocol) h (and_second (is_download t.direction) (is_block t.protocol))
  where
    by : (first : Bool) → (if first then is_sender t.direction Client else false) ≡ true → (first ≡ true → is_block t.protocol ≡ true) → LastsIn (if first then segment_first t segment else unexpected t)
    by true h p = on _ refl (p refl) refl
    by false h p = absurd (false≢true h)
segment_lasts_at _ t segment e b h = absurd (false≢true h)

-- inside a sub-block, or before the answer to initiate of a block download
pub segment_lasts : (t : Transfer) (segment : BlockSegment) → Live t → (if may_have_segment t.stage t.direction t.protocol then is_sender t.direction Client else false) ≡ true → LastsIn (block_segment t segment)
segment_lasts t segment s h = segment_lasts_at t.stage t segment refl s.blocks h
