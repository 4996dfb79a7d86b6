-- That a sub-block of a download which the device is in is known to compare: explain has a block download open then, or it is kept that
-- one may be. Whatever frames come, this stays so; no step of the device is compared with explain's.
use Rattle.std.proofs.Common.{◌≡◌, ℕ, Bool, true, false, not, List, Option, Some, None, refl, sym, ap, ◌∙◌, ◌⊎◌, inl, inr, subst}
use Rattle.std.specs.Prelude.{◌&&◌, ◌||◌, ◌==◌, ◌/◌, ◌+◌, if◌then◌else◌, is_some, IfSome, nat_lt}
use Rattle.std.proofs.lemmas.Bool.{false≢true}
use Rattle.arrayvec.specs.ArrayVec.{ArrayVec}
use Rattle.co_value.specs.Keys.{same_key}
use Rattle.co_frame.specs.FrameContent.{FrameContent}
use Rattle.co_frame.specs.Segments.{same_bool}
use Rattle.co_frame.specs.SdoRequests.{request_in}
use Rattle.co_frame.specs.SdoResponses.{response_in}
use Rattle.co_frame.specs.declared.sdo_request.SdoRequest.{SdoRequest}
use Rattle.co_frame.specs.declared.sdo_request.SdoRequest.TheVariants.{DownloadExpedited, DownloadInitiate, DownloadSegment, Upload as UploadInitiate, UploadSegment as NextSegment, BlockUploadInitiate, BlockUploadEnd as UploadEnd, BlockUploadAcknowledge, BlockUploadStart, BlockDownloadInitiate, BlockDownloadEnd}
use Rattle.co_frame.specs.declared.sdo_response.SdoResponse.{SdoResponse}
use Rattle.co_frame.specs.declared.sdo_response.SdoResponse.TheVariants.{BlockDownloadInitiated, BlockDownloadAcknowledge}
use Rattle.conode_explain_transfers.specs.declared.ended.Ended.{Ended}
use Rattle.conode_explain_transfers.specs.declared.ended.Ending.TheVariants.{Interrupted, NotFollowed}
use Rattle.conode_explain_transfers.specs.declared.kinds.Direction.{Direction}
use Rattle.conode_explain_transfers.specs.declared.kinds.Direction.TheVariants.{Download, Upload}
use Rattle.conode_explain_transfers.specs.declared.kinds.Side.{Side}
use Rattle.conode_explain_transfers.specs.declared.kinds.Side.TheVariants.{Client, Server}
use Rattle.conode_explain_transfers.specs.declared.kinds.What.{What}
use Rattle.conode_explain_transfers.specs.declared.kinds.What.TheVariants as what
use Rattle.conode_explain_transfers.specs.declared.stage.Stage.{Stage}
use Rattle.conode_explain_transfers.specs.declared.stage.Stage.TheVariants.{Initiated, DownloadConfirmed, DownloadSent, UploadTaken, UploadAsked, BlockInitiated, SubBlock, AllAcknowledged, BlockEnded}
use Rattle.conode_explain_transfers.specs.declared.transfer.Transfer.{Transfer}
use Rattle.conode_explain_transfers.specs.BlockTurns.{is_block, upload_started_at, acknowledged, acknowledged_at, crc_in, block_ended, block_ended_at, end_confirmed, end_confirmed_at}
use Rattle.conode_explain_transfers.specs.Endings.{ended, verdict}
use Rattle.conode_explain_transfers.specs.Followed.{Followed, Following, broken_off, followed, left_ending, one_more, stray, turns_at, with_frame}
use Rattle.conode_explain_transfers.specs.Readings.{awaits_segment, is_in_sub_block, is_sender, may_have_segment}
use Rattle.conode_explain_transfers.specs.SegmentedTurns.{download_segment_at, upload_request_at}
use Rattle.conode_explain_transfers.specs.Stages.{confirmed_with, is_initiated}
use Rattle.conode_explain_transfers.specs.Transfers.{Turn, after, awaited_number, is_download, overtaken, unexpected}
use Rattle.conode_explain_transfers.specs.Turns.{request_turn, response_turn}
use Rattle.conode_explain_transfers.specs.Unanswered.{is_lost}
use Rattle.conode_explain_laws.proofs.Follows.{none_of_server, response_read}
use Rattle.conode_explain_laws.proofs.Kept.{keeps}
use Rattle.conode_explain_laws.proofs.Readings.{Reading, Segment, Begin, Abort, Request, Response, Nothing, request_reading, response_reading, reading_of, turn_of, follows_by, same as same_reading}
use Rattle.conode_explain_laws.proofs.Views.{is_abort_reading, is_begin}
use Rattle.conode_compare_transfers.specs.declared.dialogue.Dialogue.{Dialogue}
use Rattle.conode_compare_transfers.specs.Breaches.{byte_at}
use Rattle.conode_compare_rules.specs.Channels.{left_open}
use Rattle.conode_compare_transfers.specs.Dialogues.{continues, dialogue_heard, interrupted, is_aborted, leaves_block, names_other, opens_sub_block, sub_block_after}
use Rattle.conode_compare_transfers.specs.Dialogues as dialogues
use Rattle.conode_compare_laws.proofs.AnswerTurns.{in_blocks}
use Rattle.conode_compare_laws.proofs.AnswerFollowed.{not_aborted, not_aborted_left, reads, same_block}
use Rattle.conode_compare_laws.proofs.AnswerDialogues.{channel_is}
use Rattle.conode_compare_laws.proofs.BlockTurns.{Live}
use Rattle.conode_compare_laws.proofs.BlockFollowed.{begins_plain}

-- ---- which transfer explain has

-- a block download
pub record Down (t : Transfer) : Type 0 where
  pub direction : t.direction ≡ Download
  pub block : is_block t.protocol ≡ true

-- it, or one that isn't in blocks: no upload whose segments may come
abbrev pub Apart : Transfer → Type 0
Apart t = (in_blocks t.stage ≡ false) ⊎ Down t

abbrev pub IsDown : Option Transfer → Type 0
IsDown None = ⊥
IsDown (Some t) = Down t

pub record Covers (d : Dialogue) : Type 0 where
  pub apart : IfSome d.channel.transfer Apart
  pub covered : (d.sub_block ≡ true) ⊎ IsDown d.channel.transfer

-- ---- a frame of a block download

stays_down : (t : Transfer) (reading : Reading) (frame : List ℕ) → Down t → Down (turn_of t reading frame).transfer
stays_down t reading frame d = let k = keeps t reading frame in record { direction = k.direction ∙ d.direction; block = ap is_block (k.protocol d.direction) ∙ d.block }

down_frame : (w : What) (u : Transfer) (micros : ℕ) (side : Side) → Down u → Down (with_frame w u micros side)
down_frame what.Overtaken u micros side d = d
down_frame _ u micros side d = record { direction = d.direction; block = d.block }

apart_frame : (w : What) (u : Transfer) (micros : ℕ) (side : Side) → Apart u → Apart (with_frame w u micros side)
apart_frame what.Overtaken u micros side a = a
apart_frame _ u micros side (inl out) = inl out
apart_frame _ u micros side (inr d) = inr (record { direction = d.direction; block = d.block })

apart_turn : (x : Option (Option ℕ)) (heard : Bool) (w : What) (u : Transfer) (micros : ℕ) (side : Side) → Apart u → IfSome (turns_at x heard w u micros side).next.transfer Apart
apart_turn (Some crc) heard w u micros side a = tt
apart_turn None heard w u micros side a = apart_frame w u micros side a

after_down : (t : Transfer) (turn : Turn) → Down turn.transfer → Down (after t turn)
after_down t turn d = record { direction = d.direction; block = d.block }

-- ---- where explain awaits a segment of the client

sender_down : (x : Direction) → is_sender x Client ≡ true → x ≡ Download
sender_down Download h = refl
sender_down Upload h = absurd (false≢true h)

first_of : (a b : Bool) → (if a then b else false) ≡ true → a ≡ true
first_of true b h = refl
first_of false b h = absurd (false≢true h)

then_of : (a b : Bool) → (if a then b else false) ≡ true → b ≡ true
then_of true b h = h
then_of false b h = absurd (false≢true h)

last_of : (a b : Bool) → (a && b) ≡ true → b ≡ true
last_of true b h = h
last_of false b h = absurd (false≢true h)

may_be_block : (stage : Stage) (t : Transfer) → t.stage ≡ stage → Live t → may_have_segment stage t.direction t.protocol ≡ true → is_block t.protocol ≡ true
may_be_block (SubBlock last) t e s h = s.blocks (ap in_blocks e)
may_be_block Initiated t e s h = last_of (is_download t.direction) (is_block t.protocol) h
may_be_block _ t e s h = absurd (false≢true h)

segment_down : (t : Transfer) → Live t → awaits_segment t Client ≡ true → Down t
segment_down t s h = record {
  direction = sender_down t.direction (then_of (may_have_segment t.stage t.direction t.protocol) (is_sender t.direction Client) h);
  block = may_be_block t.stage t refl s (first_of (may_have_segment t.stage t.direction t.protocol) (is_sender t.direction Client) h);
}

-- ---- what begins is initiated

abbrev pub IsFresh : Reading → Type 0
IsFresh (Begin new) = new.stage ≡ Initiated
IsFresh _ = Unit {0}

fresh_request : (r : Option SdoRequest) (micros : ℕ) (bytes : List ℕ) → IsFresh (request_reading r micros bytes)
fresh_request None micros bytes = tt
fresh_request (Some (DownloadExpedited key value)) micros bytes = refl
fresh_request (Some (DownloadInitiate key size)) micros bytes = refl
fresh_request (Some (UploadInitiate key)) micros bytes = refl
fresh_request (Some (BlockUploadInitiate key size threshold)) micros bytes = refl
fresh_request (Some (BlockDownloadInitiate key size)) micros bytes = refl
fresh_request (Some _) micros bytes = tt

fresh_none : (reading : Reading) → is_begin reading ≡ false → IsFresh reading
fresh_none (Begin new) n = absurd (false≢true (sym n))
fresh_none _ n = tt

pub fresh : (current : Option Transfer) (micros : ℕ) (bytes : List ℕ) → IsFresh (reading_of current Client micros bytes)
fresh current micros bytes = elim (begins_plain current micros bytes) [
  | inl same ↦ subst IsFresh (sym same) (fresh_request (request_in bytes) micros bytes)
  | inr none ↦ fresh_none (reading_of current Client micros bytes) none.2
]

-- ---- the client's frames

apart_stage : (t : Transfer) → t.stage ≡ Initiated → Apart t
apart_stage t e = inl (ap in_blocks e)

-- of a block download
apart_down : (heard : Bool) (t : Transfer) (reading : Reading) (micros : ℕ) (side : Side) (bytes : List ℕ) → Down t → IsFresh reading → IfSome (follows_by heard (Some t) reading micros side bytes).next.transfer Apart
apart_down heard t (Begin new) micros side bytes d f = inl (ap in_blocks f)
apart_down heard t (Abort code) micros side bytes d f = tt
apart_down heard t (Segment segment) micros side bytes d f =
    apart_turn (confirmed_with (turn_of t (Segment segment) bytes).transfer.stage) heard (turn_of t (Segment segment) bytes).what (after t (turn_of t (Segment segment) bytes)) micros side (inr (after_down t (turn_of t (Segment segment) bytes) (stays_down t (Segment segment) bytes d)))
apart_down heard t (Request request) micros side bytes d f =
    apart_turn (confirmed_with (turn_of t (Request request) bytes).transfer.stage) heard (turn_of t (Request request) bytes).what (after t (turn_of t (Request request) bytes)) micros side (inr (after_down t (turn_of t (Request request) bytes) (stays_down t (Request request) bytes d)))
apart_down heard t (Response response) micros side bytes d f =
    apart_turn (confirmed_with (turn_of t (Response response) bytes).transfer.stage) heard (turn_of t (Response response) bytes).what (after t (turn_of t (Response response) bytes)) micros side (inr (after_down t (turn_of t (Response response) bytes) (stays_down t (Response response) bytes d)))
apart_down heard t Nothing micros side bytes d f =
    apart_turn (confirmed_with (turn_of t Nothing bytes).transfer.stage) heard (turn_of t Nothing bytes).what (after t (turn_of t Nothing bytes)) micros side (inr (after_down t (turn_of t Nothing bytes) (stays_down t Nothing bytes d)))

-- of one that isn't in blocks: a request doesn't make it so
abbrev IsOut : Turn → Type 0
IsOut turn = in_blocks turn.transfer.stage ≡ false

either_out : (b : Bool) (x y : Turn) → IsOut x → IsOut y → IsOut (if b then x else y)
either_out true x y p q = p
either_out false x y p q = q

download_segment_out : (stage : Stage) (t : Transfer) (toggle : Bool) (segment : ArrayVec ℕ) (last : Bool) → in_blocks t.stage ≡ false → IsOut (download_segment_at stage t toggle segment last)
download_segment_out (DownloadConfirmed awaited) t toggle segment last o = either_out (same_bool toggle awaited) _ _ refl o
download_segment_out (DownloadSent sent was_last) t toggle segment last o = either_out (same_bool toggle sent) _ _ o refl
download_segment_out _ t toggle segment last o = o

upload_request_out : (stage : Stage) (t : Transfer) (toggle : Bool) → in_blocks t.stage ≡ false → IsOut (upload_request_at stage t toggle)
upload_request_out (UploadTaken awaited) t toggle o = either_out (same_bool toggle awaited) _ _ refl o
upload_request_out (UploadAsked asked) t toggle o = either_out (same_bool toggle asked) _ _ o refl
upload_request_out _ t toggle o = o

started_out : (stage : Stage) (t : Transfer) → in_blocks stage ≡ false → in_blocks t.stage ≡ false → IsOut (upload_started_at stage t)
started_out BlockInitiated t i o = absurd (false≢true (sym i))
started_out _ t i o = o

acknowledged_out : (stage : Stage) (t : Transfer) (sequence size : ℕ) → in_blocks stage ≡ false → in_blocks t.stage ≡ false → IsOut (acknowledged_at stage t sequence size)
acknowledged_out (SubBlock last) t sequence size i o = absurd (false≢true (sym i))
acknowledged_out _ t sequence size i o = o

by_receiver_out : (by_receiver : Bool) (t : Transfer) (sequence size : ℕ) → in_blocks t.stage ≡ false → IsOut (acknowledged by_receiver t sequence size)
by_receiver_out true t sequence size o = acknowledged_out t.stage t sequence size o o
by_receiver_out false t sequence size o = o

end_at_out : (stage : Stage) (t : Transfer) → in_blocks t.stage ≡ false → IsOut (end_confirmed_at stage t)
end_at_out (BlockEnded crc) t o = refl
end_at_out Initiated t o = o
end_at_out _ t o = refl

end_out : (by_receiver : Bool) (t : Transfer) → in_blocks t.stage ≡ false → IsOut (end_confirmed by_receiver t)
end_out true t o = either_out (is_block t.protocol) (end_confirmed_at t.stage t) (unexpected t) (end_at_out t.stage t o) o
end_out false t o = o

ended_out : (stage : Stage) (t : Transfer) (unused crc : ℕ) → in_blocks stage ≡ false → in_blocks t.stage ≡ false → IsOut (block_ended_at stage t unused crc)
ended_out AllAcknowledged t unused crc i o = absurd (false≢true (sym i))
ended_out _ t unused crc i o = o

by_sender_out : (by_sender : Bool) (t : Transfer) (unused crc : ℕ) → in_blocks t.stage ≡ false → IsOut (block_ended by_sender t unused crc)
by_sender_out true t unused crc o = ended_out t.stage t unused crc o o
by_sender_out false t unused crc o = o

request_out : (t : Transfer) (request : SdoRequest) (frame : List ℕ) → in_blocks t.stage ≡ false → IsOut (request_turn t request frame)
request_out t (DownloadSegment toggle segment last) frame o = download_segment_out t.stage t toggle segment last o
request_out t (NextSegment toggle) frame o = upload_request_out t.stage t toggle o
request_out t BlockUploadStart frame o = started_out t.stage t o o
request_out t (BlockUploadAcknowledge sequence size) frame o = by_receiver_out (not (is_download t.direction)) t sequence size o
request_out t UploadEnd frame o = end_out (not (is_download t.direction)) t o
request_out t (BlockDownloadEnd unused) frame o = by_sender_out (is_download t.direction) t unused (crc_in frame) o
request_out t _ frame o = o

abbrev IsAsking : Reading → Type 0
IsAsking (Segment segment) = ⊥
IsAsking (Response response) = ⊥
IsAsking _ = Unit {0}

asking : (r : Option SdoRequest) (micros : ℕ) (bytes : List ℕ) → IsAsking (request_reading r micros bytes)
asking None micros bytes = tt
asking (Some (DownloadExpedited key value)) micros bytes = tt
asking (Some (DownloadInitiate key size)) micros bytes = tt
asking (Some (UploadInitiate key)) micros bytes = tt
asking (Some (BlockUploadInitiate key size threshold)) micros bytes = tt
asking (Some (BlockDownloadInitiate key size)) micros bytes = tt
asking (Some _) micros bytes = tt

apart_out : (heard : Bool) (t : Transfer) (reading : Reading) (micros : ℕ) (side : Side) (bytes : List ℕ) → in_blocks t.stage ≡ false → IsAsking reading → IsFresh reading
    → IfSome (follows_by heard (Some t) reading micros side bytes).next.transfer Apart
apart_out heard t (Begin new) micros side bytes o a f = inl (ap in_blocks f)
apart_out heard t (Abort code) micros side bytes o a f = tt
apart_out heard t (Segment segment) micros side bytes o a f = absurd a
apart_out heard t (Request request) micros side bytes o a f =
    apart_turn (confirmed_with (turn_of t (Request request) bytes).transfer.stage) heard (turn_of t (Request request) bytes).what (after t (turn_of t (Request request) bytes)) micros side (inl (request_out t request bytes o))
apart_out heard t (Response response) micros side bytes o a f = absurd a
apart_out heard t Nothing micros side bytes o a f =
    apart_turn (confirmed_with (turn_of t Nothing bytes).transfer.stage) heard (turn_of t Nothing bytes).what (after t (turn_of t Nothing bytes)) micros side (inl o)

apart_none : (heard : Bool) (reading : Reading) (micros : ℕ) (side : Side) (bytes : List ℕ) → IsFresh reading → IfSome (follows_by heard None reading micros side bytes).next.transfer Apart
apart_none heard (Begin new) micros side bytes f = inl (ap in_blocks f)
apart_none heard _ micros side bytes f = tt

-- whatever it is read as
apart_client : (heard : Bool) (current : Option Transfer) (micros : ℕ) (bytes : List ℕ) → IfSome current Live → IfSome current Apart → IfSome (reads (record { heard = heard; transfer = current }) micros Client bytes).next.transfer Apart
apart_client heard None micros bytes s a = apart_none heard (reading_of None Client micros bytes) micros Client bytes (fresh None micros bytes)
apart_client heard (Some t) micros bytes s a = by (begins_plain (Some t) micros bytes) a
  where
    down : Down t → IfSome (reads (record { heard = heard; transfer = Some t }) micros Client bytes).next.transfer Apart
    down d = apart_down heard t (reading_of (Some t) Client micros bytes) micros Client bytes d (fresh (Some t) micros bytes)

    by : ((reading_of (Some t) Client micros bytes ≡ request_reading (request_in bytes) micros bytes)
        ⊎ ((awaits_segment t Client ≡ true) × (true ≡ true) × (is_begin (reading_of (Some t) Client micros bytes) ≡ false)))
        → Apart t → IfSome (reads (record { heard = heard; transfer = Some t }) micros Client bytes).next.transfer Apart
    by (inr h) a = down (segment_down t s h.0)
    by (inl same) (inr d) = down d
    by (inl same) (inl o) = apart_out heard t (reading_of (Some t) Client micros bytes) micros Client bytes o (subst IsAsking (sym same) (asking (request_in bytes) micros bytes)) (fresh (Some t) micros bytes)

-- an initiate request, of which explain begins a transfer, or takes it as a segment
begun_apart : (heard : Bool) (current : Option Transfer) (reading : Reading) (micros : ℕ) (side : Side) (bytes : List ℕ) → is_begin reading ≡ true → IsFresh reading → IfSome (follows_by heard current reading micros side bytes).next.transfer Apart
begun_apart heard current (Begin new) micros side bytes b f = inl (ap in_blocks f)
begun_apart heard current _ micros side bytes b f = absurd (false≢true b)

apart_initiate : (heard : Bool) (current : Option Transfer) (micros : ℕ) (bytes : List ℕ) → IfSome current Live → is_begin (request_reading (request_in bytes) micros bytes) ≡ true
    → IfSome (reads (record { heard = heard; transfer = current }) micros Client bytes).next.transfer Apart
apart_initiate heard None micros bytes s b = apart_none heard (reading_of None Client micros bytes) micros Client bytes (fresh None micros bytes)
apart_initiate heard (Some t) micros bytes s b = elim (begins_plain (Some t) micros bytes) [
  | inl same ↦ begun_apart heard (Some t) (reading_of (Some t) Client micros bytes) micros Client bytes (ap is_begin same ∙ b) (fresh (Some t) micros bytes)
  | inr h ↦ apart_down heard t (reading_of (Some t) Client micros bytes) micros Client bytes (segment_down t s h.0) (fresh (Some t) micros bytes)
]

-- ---- what is kept of a sub-block

pub ended_is : (following : Following) (micros : ℕ) (side : Side) (bytes : List ℕ) → (followed following micros side bytes).says.ended ≡ (reads following micros side bytes).says.ended
ended_is following micros side bytes = ap (λ (f : Followed). f.says.ended) (same_reading following.heard following.transfer micros side bytes bytes).followed

what_is : (following : Following) (micros : ℕ) (side : Side) (bytes : List ℕ) → (followed following micros side bytes).says.what ≡ (reads following micros side bytes).says.what
what_is following micros side bytes = ap (λ (f : Followed). f.says.what) (same_reading following.heard following.transfer micros side bytes bytes).followed

abbrev kept_by : Dialogue → Side → Option Ended → What → FrameContent → Bool
kept_by d side e w frame = sub_block_after side (leaves_block (names_other e frame) e) w (byte_at frame 0) d.sub_block

pub sub_block_is : (answer started : ℕ) (d : Dialogue) (micros : ℕ) (side : Side) (frame : FrameContent)
    → (dialogue_heard answer started d micros side frame).sub_block ≡ kept_by d side (reads d.channel micros side frame.bytes).says.ended (reads d.channel micros side frame.bytes).says.what frame
unfolding dialogue_heard
sub_block_is answer started d micros side frame =
    ap (λ e. kept_by d side e (followed d.channel micros side frame.bytes).says.what frame) (ended_is d.channel micros side frame.bytes)
    ∙ ap (λ w. kept_by d side (reads d.channel micros side frame.bytes).says.ended w frame) (what_is d.channel micros side frame.bytes)

leaves_down : (other : Bool) (x : Ended) (down block : Bool) → dialogues.is_block x.protocol ≡ block → dialogues.is_download x.direction ≡ down → down ≡ true → block ≡ true → is_aborted x.ending ≡ false → leaves_block other (Some x) ≡ true
leaves_down other x true true p d on b a = rw (p, d, a) (any other)
  where
    any : (other : Bool) → (other || true) ≡ true
    any true = refl
    any false = refl
leaves_down other x false block p d on b a = absurd (false≢true on)
leaves_down other x true false p d on b a = absurd (false≢true b)

down_left : (other : Bool) (x : Ended) → x.direction ≡ Download → is_block x.protocol ≡ true → is_aborted x.ending ≡ false → leaves_block other (Some x) ≡ true
down_left other x d b a = leaves_down other x (dialogues.is_download x.direction) (dialogues.is_block x.protocol) refl refl (ap dialogues.is_download d) (same_block x.protocol b) a

-- ---- the client's frames, inside a sub-block

or_last : (a b : Bool) → b ≡ true → (a || b) ≡ true
or_last true b h = refl
or_last false b h = h

ended_covered : (d : Dialogue) (x : Option (Option ℕ)) (heard : Bool) (w : What) (u : Transfer) (micros : ℕ) (frame : FrameContent) → Down u
    → (kept_by d Client (turns_at x heard w u micros Client).says.ended (turns_at x heard w u micros Client).says.what frame ≡ true) ⊎ IsDown (turns_at x heard w u micros Client).next.transfer
ended_covered d None heard w u micros frame down = inr (down_frame w u micros Client down)
ended_covered d (Some crc) heard w u micros frame down =
    let x : Ended = ended (one_more u) micros (verdict u crc) in
    inl (or_last d.sub_block (leaves_block (names_other (Some x) frame) (Some x)) (down_left (names_other (Some x) frame) x down.direction down.block (not_aborted u crc)))

down_covered : (d : Dialogue) (heard : Bool) (t : Transfer) (reading : Reading) (micros : ℕ) (frame : FrameContent) → Down t → is_abort_reading reading ≡ false
    → (kept_by d Client (follows_by heard (Some t) reading micros Client frame.bytes).says.ended (follows_by heard (Some t) reading micros Client frame.bytes).says.what frame ≡ true)
    ⊎ IsDown (follows_by heard (Some t) reading micros Client frame.bytes).next.transfer
down_covered d heard t (Begin new) micros frame down n =
    let x : Ended = ended t micros (left_ending t frame.bytes) in
    inl (or_last d.sub_block (leaves_block (names_other (Some x) frame) (Some x)) (down_left (names_other (Some x) frame) x down.direction down.block (not_aborted_left t frame.bytes)))
down_covered d heard t (Abort code) micros frame down n = absurd (false≢true (sym n))
down_covered d heard t (Segment segment) micros frame down n =
    let turn : Turn = turn_of t (Segment segment) frame.bytes in
    ended_covered d (confirmed_with turn.transfer.stage) heard turn.what (after t turn) micros frame (after_down t turn (stays_down t (Segment segment) frame.bytes down))
down_covered d heard t (Request request) micros frame down n =
    let turn : Turn = turn_of t (Request request) frame.bytes in
    ended_covered d (confirmed_with turn.transfer.stage) heard turn.what (after t turn) micros frame (after_down t turn (stays_down t (Request request) frame.bytes down))
down_covered d heard t (Response response) micros frame down n =
    let turn : Turn = turn_of t (Response response) frame.bytes in
    ended_covered d (confirmed_with turn.transfer.stage) heard turn.what (after t turn) micros frame (after_down t turn (stays_down t (Response response) frame.bytes down))
down_covered d heard t Nothing micros frame down n =
    let turn : Turn = turn_of t Nothing frame.bytes in
    ended_covered d (confirmed_with turn.transfer.stage) heard turn.what (after t turn) micros frame (after_down t turn (stays_down t Nothing frame.bytes down))

covered_none : (d : Dialogue) (e : Option Ended) (w : What) (frame : FrameContent) → d.sub_block ≡ true → kept_by d Client e w frame ≡ true
covered_none d e w frame on = ap (λ b. b || leaves_block (names_other e frame) e) on

pub covers_client : (answer started : ℕ) (d : Dialogue) (micros : ℕ) (frame : FrameContent) → IfSome d.channel.transfer Live → Covers d → is_abort_reading (reading_of d.channel.transfer Client micros frame.bytes) ≡ false
    → Covers (dialogue_heard answer started d micros Client frame)
covers_client answer started d micros frame s c n = record {
  apart = subst (λ (x : Following). IfSome x.transfer Apart) (sym (channel_is answer started d micros Client frame)) (apart_client d.channel.heard d.channel.transfer micros frame.bytes s c.apart);
  covered = elim (by d.channel.transfer refl c.covered) [
    | inl kept ↦ inl (sub_block_is answer started d micros Client frame ∙ kept)
    | inr down ↦ inr (subst (λ (x : Following). IsDown x.transfer) (sym (channel_is answer started d micros Client frame)) down)
  ];
}
  where
    f : Followed
    f = reads d.channel micros Client frame.bytes

    by : (current : Option Transfer) → d.channel.transfer ≡ current → ((d.sub_block ≡ true) ⊎ IsDown current) → (kept_by d Client f.says.ended f.says.what frame ≡ true) ⊎ IsDown f.next.transfer
    by current e (inl kept) = inl (covered_none d f.says.ended f.says.what frame kept)
    by None e (inr down) = absurd down
    by (Some t) e (inr down) =
        let same : reads d.channel micros Client frame.bytes ≡ follows_by d.channel.heard (Some t) (reading_of d.channel.transfer Client micros frame.bytes) micros Client frame.bytes =
        ap (λ o. follows_by d.channel.heard o (reading_of d.channel.transfer Client micros frame.bytes) micros Client frame.bytes) e in
        subst (λ (x : Followed). (kept_by d Client x.says.ended x.says.what frame ≡ true) ⊎ IsDown x.next.transfer) (sym same)
        (down_covered d d.channel.heard t (reading_of d.channel.transfer Client micros frame.bytes) micros frame down n)

-- after a request that may be an abort, explain has none open, or one that is apart
pub apart_heard : (answer started : ℕ) (d : Dialogue) (micros : ℕ) (frame : FrameContent) → IfSome d.channel.transfer Live → IfSome d.channel.transfer Apart
    → IfSome (dialogue_heard answer started d micros Client frame).channel.transfer Apart
apart_heard answer started d micros frame s a =
    subst (λ (x : Following). IfSome x.transfer Apart) (sym (channel_is answer started d micros Client frame)) (apart_client d.channel.heard d.channel.transfer micros frame.bytes s a)

pub initiate_apart : (answer started : ℕ) (d : Dialogue) (micros : ℕ) (frame : FrameContent) → IfSome d.channel.transfer Live → is_begin (request_reading (request_in frame.bytes) micros frame.bytes) ≡ true
    → IfSome (dialogue_heard answer started d micros Client frame).channel.transfer Apart
initiate_apart answer started d micros frame s b =
    subst (λ (x : Following). IfSome x.transfer Apart) (sym (channel_is answer started d micros Client frame)) (apart_initiate d.channel.heard d.channel.transfer micros frame.bytes s b)

-- ---- the answers with which a sub-block begins

abbrev pub OpensOne : SdoResponse → Type 0
OpensOne (BlockDownloadInitiated key size) = Unit {0}
OpensOne (BlockDownloadAcknowledge sequence size) = Unit {0}
OpensOne _ = ⊥

-- explain has a block download then, or the frame goes on with none
record Opened (turn : Turn) : Type 0 where
  pub unconfirmed : confirmed_with turn.transfer.stage ≡ None
  pub apart : Apart turn.transfer
  pub covered : (continues turn.what ≡ false) ⊎ Down turn.transfer

either_opened : (b : Bool) (x y : Turn) → (b ≡ true → Opened x) → Opened y → Opened (if b then x else y)
either_opened true x y p q = p refl
either_opened false x y p q = q

unopened : (t : Transfer) → Live t → Apart t → Opened (unexpected t)
unopened t s (inl o) = record { unconfirmed = s.unconfirmed; apart = inl o; covered = inl refl }
unopened t s (inr d) = record { unconfirmed = s.unconfirmed; apart = inr (record { direction = d.direction; block = d.block }); covered = inl refl }

passed : (t : Transfer) → Live t → Apart t → Opened (overtaken t)
passed t s a = record { unconfirmed = s.unconfirmed; apart = a; covered = inl refl }

downs : (x : Direction) → is_download x ≡ true → x ≡ Download
downs Download h = refl
downs Upload h = absurd (false≢true h)

and_first : (a b : Bool) → (a && b) ≡ true → a ≡ true
and_first true b h = refl
and_first false b h = absurd (false≢true h)

opens : (turn : Turn) → confirmed_with turn.transfer.stage ≡ None → Down turn.transfer → Opened turn
opens turn c d = record { unconfirmed = c; apart = inr d; covered = inr d }

both_down : (t : Transfer) → (is_download t.direction && is_block t.protocol) ≡ true → Down t
both_down t h = record { direction = downs t.direction (and_first (is_download t.direction) (is_block t.protocol) h); block = last_of (is_download t.direction) (is_block t.protocol) h }

in_blocks_down : (t : Transfer) → in_blocks t.stage ≡ true → Apart t → Down t
in_blocks_down t i (inl o) = absurd (false≢true (sym o ∙ i))
in_blocks_down t i (inr d) = d

acknowledged_opened : (stage : Stage) (t : Transfer) (sequence size : ℕ) → t.stage ≡ stage → Live t → Apart t → Opened (acknowledged_at stage t sequence size)
acknowledged_opened (SubBlock last) t sequence size e s a =
    let d : Down t = in_blocks_down t (ap in_blocks e) a in
    either_opened (nat_lt sequence (awaited_number t)) _ _
    (λ h. either_opened (last && (sequence + 1 == awaited_number t)) _ _
    (λ h. opens _ refl (record { direction = d.direction; block = d.block })) (opens _ refl (record { direction = d.direction; block = d.block })))
    (opens _ refl (record { direction = d.direction; block = d.block }))
acknowledged_opened _ t sequence size e s a = unopened t s a

by_receiver_opened : (by_receiver : Bool) (t : Transfer) (sequence size : ℕ) → Live t → Apart t → Opened (acknowledged by_receiver t sequence size)
by_receiver_opened true t sequence size s a = acknowledged_opened t.stage t sequence size refl s a
by_receiver_opened false t sequence size s a = unopened t s a

response_opened : (t : Transfer) (response : SdoResponse) (bytes : List ℕ) → OpensOne response → Live t → Apart t → Opened (response_turn t response bytes)
response_opened t (BlockDownloadInitiated key size) bytes one s a =
    either_opened (is_initiated t.stage) (if same_key key t.key then _ else overtaken t) (unexpected t)
    (λ h. either_opened (same_key key t.key) _ (overtaken t)
    (λ h. either_opened (is_download t.direction && is_block t.protocol) _ (unexpected t)
    (λ h. let d : Down t = both_down t h in opens _ refl (record { direction = d.direction; block = d.block })) (unopened t s a)) (passed t s a))
    (unopened t s a)
response_opened t (BlockDownloadAcknowledge sequence size) bytes one s a = by_receiver_opened (is_download t.direction) t sequence size s a
response_opened t _ bytes one s a = absurd one

-- it is read as this answer
outside : (stage : Stage) → in_blocks stage ≡ false → is_in_sub_block stage ≡ false
outside (SubBlock last) o = absurd (false≢true (sym o))
outside _ o = refl

read_plain : (t : Transfer) (micros : ℕ) (bytes : List ℕ) → Apart t → reading_of (Some t) Server micros bytes ≡ response_reading (response_in bytes)
read_plain t micros bytes (inl o) = rw (none_of_server t.stage t.direction t.protocol (outside t.stage o)) refl
read_plain t micros bytes (inr d) = response_read t micros bytes d.direction

reading_is : (response : SdoResponse) → OpensOne response → response_reading (Some response) ≡ Response response
reading_is (BlockDownloadInitiated key size) one = refl
reading_is (BlockDownloadAcknowledge sequence size) one = refl
reading_is _ one = absurd one

-- no command specifier of an abort
kept_open : (d : Dialogue) (e : Option Ended) (w : What) (frame : FrameContent) → (byte_at frame 0 / 32 == 4) ≡ false → opens_sub_block (byte_at frame 0) ≡ true → continues w ≡ false → kept_by d Server e w frame ≡ true
kept_open d e w frame f o c = by (byte_at frame 0 / 32 == 4) (opens_sub_block (byte_at frame 0)) f o
  where
    by : (abort opening : Bool) → abort ≡ false → opening ≡ true → (if abort then d.sub_block || leaves_block (names_other e frame) e else opening && not (continues w)) ≡ true
    by true opening f o = absurd (false≢true (sym f))
    by false true f o = ap not c
    by false false f o = absurd (false≢true o)

stray_open : (heard : Bool) → continues (stray heard) ≡ false
stray_open true = refl
stray_open false = refl

pub covers_server : (answer started : ℕ) (d : Dialogue) (micros : ℕ) (frame : FrameContent) (response : SdoResponse) → IfSome d.channel.transfer Live → IfSome d.channel.transfer Apart → response_in frame.bytes ≡ Some response
    → OpensOne response → (byte_at frame 0 / 32 == 4) ≡ false → opens_sub_block (byte_at frame 0) ≡ true → Covers (dialogue_heard answer started d micros Server frame)
covers_server answer started d micros frame response s a is one f o = by d.channel.transfer refl s a
  where
    Covered : Followed → Type 0
    Covered x = IfSome x.next.transfer Apart × ((kept_by d Server x.says.ended x.says.what frame ≡ true) ⊎ IsDown x.next.transfer)

    turned : (x : Option (Option ℕ)) (w : What) (u : Transfer) → x ≡ None → Apart u → (continues w ≡ false) ⊎ Down u → Covered (turns_at x d.channel.heard w u micros Server)
    turned (Some crc) w u none a c = absurd (let no : is_some (Some crc) ≡ false = ap is_some none in false≢true (sym no))
    turned None w u none a (inl c) = (apart_frame w u micros Server a, inl (kept_open d None w frame f o c))
    turned None w u none a (inr down) = (apart_frame w u micros Server a, inr (down_frame w u micros Server down))

    downed : (t : Transfer) (turn : Turn) → (continues turn.what ≡ false) ⊎ Down turn.transfer → (continues turn.what ≡ false) ⊎ Down (after t turn)
    downed t turn (inl c) = inl c
    downed t turn (inr d) = inr (after_down t turn d)

    aparted : (t : Transfer) (turn : Turn) → Apart turn.transfer → Apart (after t turn)
    aparted t turn (inl o) = inl o
    aparted t turn (inr d) = inr (after_down t turn d)

    answered : (t : Transfer) → Live t → Apart t → Covered (follows_by d.channel.heard (Some t) (Response response) micros Server frame.bytes)
    answered t s a =
        let turn : Turn = response_turn t response frame.bytes in
        let h : Opened turn = response_opened t response frame.bytes one s a in
        turned (confirmed_with turn.transfer.stage) turn.what (after t turn) h.unconfirmed (aparted t turn h.apart) (downed t turn h.covered)

    ends : (x : Followed) → reads d.channel micros Server frame.bytes ≡ x → Covered x → Covers (dialogue_heard answer started d micros Server frame)
    ends x same c = record {
      apart = subst (λ (y : Following). IfSome y.transfer Apart) (sym (channel_is answer started d micros Server frame ∙ ap (λ (y : Followed). y.next) same)) c.0;
      covered = elim c.1 [
        | inl kept ↦ inl (sub_block_is answer started d micros Server frame ∙ ap (λ (y : Followed). kept_by d Server y.says.ended y.says.what frame) same ∙ kept)
        | inr down ↦ inr (subst (λ (y : Following). IsDown y.transfer) (sym (channel_is answer started d micros Server frame ∙ ap (λ (y : Followed). y.next) same)) down)
      ];
    }

    by : (current : Option Transfer) → d.channel.transfer ≡ current → IfSome current Live → IfSome current Apart → Covers (dialogue_heard answer started d micros Server frame)
    by None e s a =
        ends (follows_by d.channel.heard None (Response response) micros Server frame.bytes)
        (ap (λ o. follows_by d.channel.heard o (reading_of o Server micros frame.bytes) micros Server frame.bytes) e
        ∙ ap (λ r. follows_by d.channel.heard None r micros Server frame.bytes) (ap response_reading is ∙ reading_is response one))
        (tt, inl (kept_open d None (stray d.channel.heard) frame f o (stray_open d.channel.heard)))
    by (Some t) e s a =
        ends (follows_by d.channel.heard (Some t) (Response response) micros Server frame.bytes)
        (ap (λ o. follows_by d.channel.heard o (reading_of o Server micros frame.bytes) micros Server frame.bytes) e
        ∙ ap (λ r. follows_by d.channel.heard (Some t) r micros Server frame.bytes) (read_plain t micros frame.bytes a ∙ ap response_reading is ∙ reading_is response one))
        (answered t s a)

-- ---- other events

-- a transfer that is broken off is left
pub interrupted_kept : (d : Dialogue) (micros : ℕ) → Covers d → (interrupted d micros).sub_block ≡ true
interrupted_kept d micros c = by d.channel.transfer c.covered
  where
    left : (t : Transfer) → Down t → leaves_block false (Some (ended t micros (if is_lost t then NotFollowed None else Interrupted))) ≡ true
    left t down = down_left false (ended t micros (if is_lost t then NotFollowed None else Interrupted)) down.direction down.block (fine (is_lost t))
      where
        fine : (lost : Bool) → is_aborted (if lost then NotFollowed None else Interrupted) ≡ false
        fine true = refl
        fine false = refl

    by : (current : Option Transfer) → (d.sub_block ≡ true) ⊎ IsDown current → (d.sub_block || leaves_block false (broken_off current micros)) ≡ true
    by current (inl kept) = ap (λ b. b || leaves_block false (broken_off current micros)) kept
    by None (inr down) = absurd down
    by (Some t) (inr down) = or_last d.sub_block _ (left t down)

pub covers_interrupted : (d : Dialogue) (micros : ℕ) → Covers d → Covers (interrupted d micros)
covers_interrupted d micros c = record { apart = tt; covered = inl (interrupted_kept d micros c) }

-- a frame of the client that the device may not have taken
pub covers_open : (misses : Bool) (d : Dialogue) → Covers d → Covers (left_open Client misses d)
covers_open misses d c = record { apart = c.apart; covered = elim c.covered [ inl on ↦ inl (or_last misses d.sub_block on) | inr down ↦ inr down ] }
