-- What one frame makes of explain's open transfer, as far as the laws of answers need it: which transfers are in blocks, and that no
-- frame but an initiate request begins one.
use Rattle.std.proofs.Common.{◌≡◌, ℕ, ◌+◌, Bool, true, false, not, List, Option, None, refl, sym, ap, ◌∙◌}
use Rattle.std.specs.Prelude.{◌&&◌, ◌==◌, nat_lt, if◌then◌else◌, is_some}
use Rattle.std.proofs.lemmas.Bool.{false≢true}
use Rattle.arrayvec.specs.ArrayVec.{ArrayVec}
use Rattle.co_value.specs.declared.key.Key.{Key}
use Rattle.co_value.specs.Keys.{same_key}
use Rattle.co_frame.specs.Segments.{same_bool}
use Rattle.co_frame.specs.declared.block_segment.BlockSegment.{BlockSegment}
use Rattle.co_frame.specs.declared.sdo_request.SdoRequest.{SdoRequest}
use Rattle.co_frame.specs.declared.sdo_request.SdoRequest.TheVariants.{DownloadSegment, UploadSegment as NextSegment, BlockUploadEnd as UploadEnd, BlockUploadAcknowledge, BlockUploadStart, BlockDownloadEnd}
use Rattle.co_frame.specs.declared.sdo_response.SdoResponse.{SdoResponse}
use Rattle.co_frame.specs.declared.sdo_response.SdoResponse.TheVariants.{DownloadDone, DownloadSegmentDone, UploadExpedited, UploadInitiated, UploadSegment, BlockDownloadInitiated, BlockDownloadDone, BlockDownloadAcknowledge, BlockUploadInitiated, BlockUploadEnd}
use Rattle.conode_explain_transfers.specs.declared.kinds.Direction.{Direction}
use Rattle.conode_explain_transfers.specs.declared.kinds.Direction.TheVariants.{Download, Upload}
use Rattle.conode_explain_transfers.specs.declared.kinds.Protocol.{Protocol}
use Rattle.conode_explain_transfers.specs.declared.kinds.Protocol.TheVariants.{Expedited, Segmented}
use Rattle.conode_explain_transfers.specs.declared.kinds.What.{What}
use Rattle.conode_explain_transfers.specs.declared.kinds.What.TheVariants as what
use Rattle.conode_explain_transfers.specs.declared.stage.Stage.{Stage}
use Rattle.conode_explain_transfers.specs.declared.stage.Stage.TheVariants.{Initiated, DownloadConfirmed, DownloadSent, UploadTaken, UploadAsked, BlockInitiated, SubBlock, AllAcknowledged, BlockEnded}
use Rattle.conode_explain_transfers.specs.declared.transfer.Transfer.{Transfer}
use Rattle.conode_explain_transfers.specs.BlockTurns.{is_block, upload_started_at, segment_added, segment_ahead, segment_again, block_segment_at, acknowledged_at, acknowledged, crc_in, block_ended_at, block_ended, end_confirmed_at, end_confirmed, segment_first}
use Rattle.conode_explain_transfers.specs.SegmentedTurns.{answering, download_answered, download_segment_at, download_stage, segment_done_at, upload_request_at, upload_segment_at, upload_stage}
use Rattle.conode_explain_transfers.specs.Stages.{confirmed_with, is_initiated}
use Rattle.conode_explain_transfers.specs.Transfers.{Turn, is_download, awaited_number, unexpected, repeated, overtaken, goes_on}
use Rattle.conode_explain_transfers.specs.Turns.{request_turn, response_turn}
use Rattle.conode_explain_laws.proofs.Readings.{Reading, Segment, Request, Response, turn_of}
use Rattle.conode_compare_transfers.specs.Dialogues.{continues}

-- ---- which transfers are in blocks

-- after its initiate request was answered in blocks
abbrev pub in_blocks : Stage → Bool
in_blocks BlockInitiated = true
in_blocks (SubBlock last) = true
in_blocks AllAcknowledged = true
in_blocks (BlockEnded crc) = true
in_blocks _ = false

-- the end came, which isn't confirmed
abbrev pub is_ended : Stage → Bool
is_ended (BlockEnded crc) = true
is_ended _ = false

pub record IsBlockUpload (t : Transfer) : Type 0 where
  pub direction : t.direction ≡ Upload
  pub protocol : is_block t.protocol ≡ true

-- one in blocks is an upload
abbrev pub Blocks : Transfer → Type 0
Blocks t = in_blocks t.stage ≡ true → IsBlockUpload t

-- no download is in blocks
abbrev pub Plain : Transfer → Type 0
Plain t = t.direction ≡ Download → is_block t.protocol ≡ false

-- an open transfer that is no block download
pub record Sound (t : Transfer) : Type 0 where
  pub unconfirmed : confirmed_with t.stage ≡ None
  pub plain : Plain t
  pub blocks : Blocks t

-- ---- what a frame is in it

-- a frame of an open transfer
abbrev pub is_turned : What → Bool
is_turned what.Initiate = false
is_turned what.Stray = false
is_turned what.BegunBefore = false
is_turned _ = true

pub record Turned (turn : Turn) : Type 0 where
  pub what : is_turned turn.what ≡ true
  pub blocks : Blocks turn.transfer

pub either : (b : Bool) (x y : Turn) → Turned x → Turned y → Turned (if b then x else y)
either true x y p q = p
either false x y p q = q

spoiled : (t : Transfer) → Blocks t → Turned (unexpected t)
spoiled t b = record { what = refl; blocks = λ h. let u = b h in record { direction = u.direction; protocol = u.protocol } }

again : (t : Transfer) → Blocks t → Turned (repeated t)
again t b = record { what = refl; blocks = λ h. let u = b h in record { direction = u.direction; protocol = u.protocol } }

passed : (t : Transfer) → Blocks t → Turned (overtaken t)
passed t b = record { what = refl; blocks = b }

-- it isn't in blocks then
leaves : (turn : Turn) → is_turned turn.what ≡ true → in_blocks turn.transfer.stage ≡ false → Turned turn
leaves turn w out = record { what = w; blocks = λ h. absurd (false≢true (sym out ∙ h)) }

answers : (t : Transfer) (key : Key) (turn : Turn) → Blocks t → Turned turn → Turned (answering t key turn)
answers t key turn b k =
    either (is_initiated t.stage) _ _ (either (same_key key t.key) turn (overtaken t) k (passed t b)) (spoiled t b)

-- ---- responses to initiate

download_turned : (t : Transfer) (protocol : Protocol) → Blocks t → Turned (download_answered t protocol)
download_turned t Expedited b = leaves _ refl refl
download_turned t Segmented b = leaves _ refl refl
download_turned t _ b = spoiled t b

none_down : (x : Direction) (block : Bool) → (x ≡ Download → block ≡ false) → (is_download x && block) ≡ false
none_down Download block h = h refl
none_down Upload block h = refl

uploads : (x : Direction) → is_download x ≡ false → x ≡ Upload
uploads Download h = absurd (false≢true (sym h))
uploads Upload h = refl

block_download_turned : (t : Transfer) (turn : Turn) (b : Bool) → b ≡ false → Blocks t → Turned (if b then turn else unexpected t)
block_download_turned t turn true off b = absurd (false≢true (sym off))
block_download_turned t turn false off b = spoiled t b

block_upload_turned : (t : Transfer) (size : Option ℕ) (crc down block : Bool) → is_download t.direction ≡ down → is_block t.protocol ≡ block → Blocks t
    → Turned (if down then unexpected t else (if block then goes_on (record t { size = size; crc = crc; stage = BlockInitiated }) else unexpected t))
block_upload_turned t size crc true block d p b = spoiled t b
block_upload_turned t size crc false false d p b = spoiled t b
block_upload_turned t size crc false true d p b = record { what = refl; blocks = λ h. record { direction = uploads t.direction d; protocol = p } }

-- ---- segments

pub out_of_blocks : (toggle last : Bool) → in_blocks (download_stage toggle last) ≡ false
out_of_blocks toggle true = refl
out_of_blocks toggle false = refl

pub still_out : (toggle last : Bool) → in_blocks (upload_stage toggle last) ≡ false
still_out toggle true = refl
still_out toggle false = refl

download_segment_turned : (stage : Stage) (t : Transfer) (toggle : Bool) (segment : ArrayVec ℕ) (last : Bool) → Blocks t → Turned (download_segment_at stage t toggle segment last)
download_segment_turned (DownloadConfirmed awaited) t toggle segment last b = either (same_bool toggle awaited) _ _ (leaves _ refl refl) (again t b)
download_segment_turned (DownloadSent sent was_last) t toggle segment last b = either (same_bool toggle sent) _ _ (again t b) (leaves _ refl refl)
download_segment_turned _ t toggle segment last b = spoiled t b

segment_done_turned : (stage : Stage) (t : Transfer) (toggle : Bool) → Blocks t → Turned (segment_done_at stage t toggle)
segment_done_turned (DownloadSent sent last) t toggle b = either (same_bool toggle sent) _ _ (leaves _ refl (out_of_blocks sent last)) (again t b)
segment_done_turned (DownloadConfirmed awaited) t toggle b = either (same_bool toggle awaited) _ _ (leaves _ refl refl) (again t b)
segment_done_turned _ t toggle b = spoiled t b

upload_request_turned : (stage : Stage) (t : Transfer) (toggle : Bool) → Blocks t → Turned (upload_request_at stage t toggle)
upload_request_turned (UploadTaken awaited) t toggle b = either (same_bool toggle awaited) _ _ (leaves _ refl refl) (again t b)
upload_request_turned (UploadAsked asked) t toggle b = either (same_bool toggle asked) _ _ (again t b) (leaves _ refl refl)
upload_request_turned _ t toggle b = spoiled t b

upload_segment_turned : (stage : Stage) (t : Transfer) (toggle : Bool) (segment : ArrayVec ℕ) (last : Bool) → Blocks t → Turned (upload_segment_at stage t toggle segment last)
upload_segment_turned (UploadAsked asked) t toggle segment last b = either (same_bool toggle asked) _ _ (leaves _ refl (still_out toggle last)) (again t b)
upload_segment_turned (UploadTaken awaited) t toggle segment last b = either (same_bool toggle awaited) _ _ (leaves _ refl (still_out toggle last)) (again t b)
upload_segment_turned _ t toggle segment last b = spoiled t b

-- ---- blocks

-- another stage in blocks, and the same way
moves : (turn : Turn) (t : Transfer) → is_turned turn.what ≡ true → turn.transfer.direction ≡ t.direction → turn.transfer.protocol ≡ t.protocol → IsBlockUpload t → Turned turn
moves turn t w d p u = record { what = w; blocks = λ h. record { direction = d ∙ u.direction; protocol = ap is_block p ∙ u.protocol } }

started_turned : (stage : Stage) (t : Transfer) → t.stage ≡ stage → Blocks t → Turned (upload_started_at stage t)
started_turned BlockInitiated t e b = moves _ t refl refl refl (b (ap in_blocks e))
started_turned _ t e b = spoiled t b

block_segment_turned : (stage : Stage) (t : Transfer) (segment : BlockSegment) → t.stage ≡ stage → Plain t → Blocks t → Turned (block_segment_at stage t segment)
block_segment_turned (SubBlock false) t segment e p b =
    let u = b (ap in_blocks e) in
    either (nat_lt segment.sequence t.next_number) (segment_again t segment) _ (moves _ t refl refl refl u)
    (either (segment.sequence == awaited_number t) (segment_added t segment) (segment_ahead t segment) (moves _ t refl refl refl u)
    (moves _ t (ahead (segment.sequence == t.next_number) segment.sequence t.next_number) refl refl u))
  where
    ahead : (same : Bool) (number next : ℕ) → is_turned (if same then what.Segment number else what.OutOfSequence number next) ≡ true
    ahead true number next = refl
    ahead false number next = refl
block_segment_turned Initiated t segment e p b =
    block_download_turned t (segment_first t segment) (is_download t.direction && is_block t.protocol) (none_down t.direction (is_block t.protocol) p) b
block_segment_turned _ t segment e p b = spoiled t b

acknowledged_turned : (stage : Stage) (t : Transfer) (sequence block_size : ℕ) → t.stage ≡ stage → Blocks t → Turned (acknowledged_at stage t sequence block_size)
acknowledged_turned (SubBlock last) t sequence block_size e b =
    let u = b (ap in_blocks e) in
    either (nat_lt sequence (awaited_number t)) _ _
    (either (last && (sequence + 1 == awaited_number t)) _ _ (moves _ t refl refl refl u) (moves _ t refl refl refl u))
    (moves _ t refl refl refl u)
acknowledged_turned _ t sequence block_size e b = spoiled t b

by_receiver_turned : (by_receiver : Bool) (t : Transfer) (sequence block_size : ℕ) → Blocks t → Turned (acknowledged by_receiver t sequence block_size)
by_receiver_turned true t sequence block_size b = acknowledged_turned t.stage t sequence block_size refl b
by_receiver_turned false t sequence block_size b = spoiled t b

ended_turned : (stage : Stage) (t : Transfer) (unused crc : ℕ) → t.stage ≡ stage → Blocks t → Turned (block_ended_at stage t unused crc)
ended_turned AllAcknowledged t unused crc e b = moves _ t refl refl refl (b (ap in_blocks e))
ended_turned _ t unused crc e b = spoiled t b

by_sender_turned : (by_sender : Bool) (t : Transfer) (unused crc : ℕ) → Blocks t → Turned (block_ended by_sender t unused crc)
by_sender_turned true t unused crc b = ended_turned t.stage t unused crc refl b
by_sender_turned false t unused crc b = spoiled t b

end_at_turned : (stage : Stage) (t : Transfer) → Blocks t → Turned (end_confirmed_at stage t)
end_at_turned (BlockEnded crc) t b = leaves _ refl refl
end_at_turned Initiated t b = spoiled t b
end_at_turned _ t b = leaves _ refl refl

end_turned : (by_receiver : Bool) (t : Transfer) → Blocks t → Turned (end_confirmed by_receiver t)
end_turned true t b = either (is_block t.protocol) (end_confirmed_at t.stage t) (unexpected t) (end_at_turned t.stage t b) (spoiled t b)
end_turned false t b = spoiled t b

-- ---- every frame

request_turned : (t : Transfer) (request : SdoRequest) (frame : List ℕ) → Blocks t → Turned (request_turn t request frame)
request_turned t (DownloadSegment toggle segment last) frame b = download_segment_turned t.stage t toggle segment last b
request_turned t (NextSegment toggle) frame b = upload_request_turned t.stage t toggle b
request_turned t BlockUploadStart frame b = started_turned t.stage t refl b
request_turned t (BlockUploadAcknowledge sequence block_size) frame b = by_receiver_turned (not (is_download t.direction)) t sequence block_size b
request_turned t UploadEnd frame b = end_turned (not (is_download t.direction)) t b
request_turned t (BlockDownloadEnd unused) frame b = by_sender_turned (is_download t.direction) t unused (crc_in frame) b
request_turned t _ frame b = spoiled t b

response_turned : (t : Transfer) (response : SdoResponse) (frame : List ℕ) → Plain t → Blocks t → Turned (response_turn t response frame)
response_turned t (DownloadDone key) frame p b =
    answers t key _ b (either (is_download t.direction) (download_answered t t.protocol) (unexpected t) (download_turned t t.protocol b) (spoiled t b))
response_turned t (DownloadSegmentDone toggle) frame p b = segment_done_turned t.stage t toggle b
response_turned t (UploadExpedited key value) frame p b = answers t key _ b (either (is_download t.direction) _ _ (spoiled t b) (leaves _ refl refl))
response_turned t (UploadInitiated key size) frame p b = answers t key _ b (either (is_download t.direction) _ _ (spoiled t b) (leaves _ refl refl))
response_turned t (UploadSegment toggle segment last) frame p b = upload_segment_turned t.stage t toggle segment last b
response_turned t (BlockDownloadInitiated key block_size) frame p b =
    answers t key _ b (block_download_turned t _ (is_download t.direction && is_block t.protocol) (none_down t.direction (is_block t.protocol) p) b)
response_turned t BlockDownloadDone frame p b = end_turned (is_download t.direction) t b
response_turned t (BlockDownloadAcknowledge sequence block_size) frame p b = by_receiver_turned (is_download t.direction) t sequence block_size b
response_turned t (BlockUploadInitiated key size) frame p b =
    answers t key _ b (block_upload_turned t size _ (is_download t.direction) (is_block t.protocol) refl refl b)
response_turned t (BlockUploadEnd unused) frame p b = by_sender_turned (not (is_download t.direction)) t unused (crc_in frame) b
response_turned t _ frame p b = spoiled t b

pub turned : (t : Transfer) (reading : Reading) (frame : List ℕ) → Sound t → Turned (turn_of t reading frame)
turned t (Segment segment) frame s = block_segment_turned t.stage t segment refl s.plain s.blocks
turned t (Request request) frame s = request_turned t request frame s.blocks
turned t (Response response) frame s = response_turned t response frame s.plain s.blocks
turned t _ frame s = spoiled t s.blocks

-- ---- a request that goes on with a transfer

-- the start of a block upload, or an acknowledgement of a sub-block: segments answer it
abbrev pub asks_for_blocks : SdoRequest → Bool
asks_for_blocks BlockUploadStart = true
asks_for_blocks (BlockUploadAcknowledge sequence block_size) = true
asks_for_blocks _ = false

-- where it is the next frame of the transfer, that is in blocks; and the last confirmation comes in blocks alone
pub record Asked (blocks : Bool) (turn : Turn) : Type 0 where
  pub goes : blocks ≡ true → continues turn.what ≡ true → in_blocks turn.transfer.stage ≡ true
  pub unended : blocks ≡ true → continues turn.what ≡ true → is_ended turn.transfer.stage ≡ false
  pub ends : is_some (confirmed_with turn.transfer.stage) ≡ true → is_block turn.transfer.protocol ≡ true

-- a frame that doesn't go on with it
off : (blocks : Bool) (turn : Turn) → continues turn.what ≡ false → confirmed_with turn.transfer.stage ≡ None → Asked blocks turn
off blocks turn w c = record { goes = λ on part. absurd (false≢true (sym w ∙ part)); unended = λ on part. absurd (false≢true (sym w ∙ part)); ends = λ h. absurd (false≢true (sym (ap is_some c) ∙ h)) }

-- a plain one
plainly : (turn : Turn) → confirmed_with turn.transfer.stage ≡ None → Asked false turn
plainly turn c = record { goes = λ on. absurd (false≢true on); unended = λ on. absurd (false≢true on); ends = λ h. absurd (false≢true (sym (ap is_some c) ∙ h)) }

-- one in blocks
blockwise : (blocks : Bool) (turn : Turn) → in_blocks turn.transfer.stage ≡ true → is_ended turn.transfer.stage ≡ false → confirmed_with turn.transfer.stage ≡ None → Asked blocks turn
blockwise blocks turn i e c = record { goes = λ on part. i; unended = λ on part. e; ends = λ h. absurd (false≢true (sym (ap is_some c) ∙ h)) }

either_asked : (blocks b : Bool) (x y : Turn) → Asked blocks x → Asked blocks y → Asked blocks (if b then x else y)
either_asked blocks true x y p q = p
either_asked blocks false x y p q = q

download_segment_asked : (stage : Stage) (t : Transfer) (toggle : Bool) (segment : ArrayVec ℕ) (last : Bool) → confirmed_with t.stage ≡ None → Asked false (download_segment_at stage t toggle segment last)
download_segment_asked (DownloadConfirmed awaited) t toggle segment last c = either_asked false (same_bool toggle awaited) _ _ (plainly _ refl) (plainly _ c)
download_segment_asked (DownloadSent sent was_last) t toggle segment last c = either_asked false (same_bool toggle sent) _ _ (plainly _ c) (plainly _ refl)
download_segment_asked _ t toggle segment last c = plainly _ c

upload_request_asked : (stage : Stage) (t : Transfer) (toggle : Bool) → confirmed_with t.stage ≡ None → Asked false (upload_request_at stage t toggle)
upload_request_asked (UploadTaken awaited) t toggle c = either_asked false (same_bool toggle awaited) _ _ (plainly _ refl) (plainly _ c)
upload_request_asked (UploadAsked asked) t toggle c = either_asked false (same_bool toggle asked) _ _ (plainly _ c) (plainly _ refl)
upload_request_asked _ t toggle c = plainly _ c

started_asked : (stage : Stage) (t : Transfer) → confirmed_with t.stage ≡ None → Asked true (upload_started_at stage t)
started_asked BlockInitiated t c = blockwise true _ refl refl refl
started_asked _ t c = off true _ refl c

acknowledged_asked : (stage : Stage) (t : Transfer) (sequence block_size : ℕ) → confirmed_with t.stage ≡ None → Asked true (acknowledged_at stage t sequence block_size)
acknowledged_asked (SubBlock last) t sequence block_size c =
    either_asked true (nat_lt sequence (awaited_number t)) _ _
    (either_asked true (last && (sequence + 1 == awaited_number t)) _ _ (blockwise true _ refl refl refl) (blockwise true _ refl refl refl))
    (blockwise true _ refl refl refl)
acknowledged_asked _ t sequence block_size c = off true _ refl c

by_receiver_asked : (by_receiver : Bool) (t : Transfer) (sequence block_size : ℕ) → confirmed_with t.stage ≡ None → Asked true (acknowledged by_receiver t sequence block_size)
by_receiver_asked true t sequence block_size c = acknowledged_asked t.stage t sequence block_size c
by_receiver_asked false t sequence block_size c = off true _ refl c

ended_asked : (stage : Stage) (t : Transfer) (unused crc : ℕ) → confirmed_with t.stage ≡ None → Asked false (block_ended_at stage t unused crc)
ended_asked AllAcknowledged t unused crc c = plainly _ refl
ended_asked _ t unused crc c = plainly _ c

by_sender_asked : (by_sender : Bool) (t : Transfer) (unused crc : ℕ) → confirmed_with t.stage ≡ None → Asked false (block_ended by_sender t unused crc)
by_sender_asked true t unused crc c = ended_asked t.stage t unused crc c
by_sender_asked false t unused crc c = plainly _ c

end_at_asked : (stage : Stage) (t : Transfer) → is_block t.protocol ≡ true → Asked false (end_confirmed_at stage t)
end_at_asked (BlockEnded crc) t p = record { goes = λ on. absurd (false≢true on); unended = λ on. absurd (false≢true on); ends = λ h. p }
end_at_asked Initiated t p = record { goes = λ on. absurd (false≢true on); unended = λ on. absurd (false≢true on); ends = λ h. p }
end_at_asked _ t p = record { goes = λ on. absurd (false≢true on); unended = λ on. absurd (false≢true on); ends = λ h. p }

end_in_blocks : (block : Bool) (t : Transfer) → is_block t.protocol ≡ block → confirmed_with t.stage ≡ None → Asked false (if block then end_confirmed_at t.stage t else unexpected t)
end_in_blocks true t p c = end_at_asked t.stage t p
end_in_blocks false t p c = plainly _ c

end_asked : (by_receiver : Bool) (t : Transfer) → confirmed_with t.stage ≡ None → Asked false (end_confirmed by_receiver t)
end_asked true t c = end_in_blocks (is_block t.protocol) t refl c
end_asked false t c = plainly _ c

pub asked : (t : Transfer) (request : SdoRequest) (frame : List ℕ) → confirmed_with t.stage ≡ None → Asked (asks_for_blocks request) (request_turn t request frame)
asked t (DownloadSegment toggle segment last) frame c = download_segment_asked t.stage t toggle segment last c
asked t (NextSegment toggle) frame c = upload_request_asked t.stage t toggle c
asked t BlockUploadStart frame c = started_asked t.stage t c
asked t (BlockUploadAcknowledge sequence block_size) frame c = by_receiver_asked (not (is_download t.direction)) t sequence block_size c
asked t UploadEnd frame c = end_asked (not (is_download t.direction)) t c
asked t (BlockDownloadEnd unused) frame c = by_sender_asked (is_download t.direction) t unused (crc_in frame) c
asked t _ frame c = plainly _ c

-- ---- what isn't a request, and isn't confirmed

abbrev pub is_request : Reading → Bool
is_request (Request request) = true
is_request _ = false

-- in blocks
pub unconfirmed : (stage : Stage) → in_blocks stage ≡ true → confirmed_with stage ≡ None
unconfirmed BlockInitiated i = refl
unconfirmed (SubBlock last) i = refl
unconfirmed AllAcknowledged i = refl
unconfirmed (BlockEnded crc) i = refl
unconfirmed _ i = absurd (false≢true i)
