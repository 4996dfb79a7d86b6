-- What explain's open download and the channel's open transfer have to do with one another, and what a frame of the client makes
-- of the former.
use Rattle.std.proofs.Common.{◌≡◌, ℕ, suc, ◌+◌, ◌*◌, ◌≤◌, Bool, true, false, not, List, ◌++◌, length, Option, Some, None, refl, sym, ap, ◌∙◌, ◌⊎◌, inl, inr, subst}
use Rattle.std.specs.Prelude.{if◌then◌else◌, IfSome, nat_le, nat_lt, ◌==◌, ◌&&◌}
use Rattle.std.proofs.lemmas.Bool.{false≢true}
use Rattle.arrayvec.specs.ArrayVec.{ArrayVec}
use Rattle.co_frame.specs.Segments.{same_bool}
use Rattle.co_frame.specs.BlockSegments.{block_segment_in, is_abort_in_sub_block}
use Rattle.co_frame.specs.SdoParts.{code_in}
use Rattle.co_frame.specs.SdoRequests.{request_in}
use Rattle.co_frame.specs.SdoResponses.{response_in}
use Rattle.co_frame.specs.declared.block_segment.BlockSegment.{BlockSegment}
use Rattle.co_frame.specs.declared.sdo_request.SdoRequest.{SdoRequest}
use Rattle.co_frame.specs.declared.sdo_request.SdoRequest.TheVariants.{DownloadInitiate, BlockDownloadInitiate, DownloadSegment, UploadSegment as NextSegment, BlockUploadEnd as UploadEnd, BlockUploadAcknowledge, BlockUploadStart, BlockDownloadEnd, Abort as Abandon}
use Rattle.co_frame.specs.declared.sdo_response.SdoResponse.{SdoResponse}
use Rattle.co_frame.specs.declared.sdo_response.SdoResponse.TheVariants.{DownloadDone, UploadExpedited, UploadInitiated, BlockDownloadInitiated, BlockUploadInitiated}
use Rattle.co_dict.specs.Rows.{Rows}
use Rattle.co_sdo.specs.declared.stage.Stage.TheVariants.{Download as Receiving, SubBlock as InSubBlock, LastTaken}
use Rattle.co_sdo.specs.OpenTransfers.{is_upload_end}
use Rattle.co_sdo.specs.Opened.{OpenTransfer}
use Rattle.co_sdo.specs.Downloads.{Download as Whole}
use Rattle.conode_explain_transfers.specs.declared.kinds.Direction.{Direction}
use Rattle.conode_explain_transfers.specs.declared.kinds.Direction.TheVariants.{Download, Upload}
use Rattle.conode_explain_transfers.specs.declared.kinds.Protocol.{Protocol}
use Rattle.conode_explain_transfers.specs.declared.kinds.Protocol.TheVariants.{Block}
use Rattle.conode_explain_transfers.specs.declared.kinds.Side.TheVariants.{Client, Server}
use Rattle.conode_explain_transfers.specs.declared.kinds.Side.{Side}
use Rattle.conode_explain_transfers.specs.declared.kinds.What.{What}
use Rattle.conode_explain_transfers.specs.declared.kinds.What.TheVariants.{Overtaken}
use Rattle.conode_explain_transfers.specs.declared.stage.Stage.{Stage}
use Rattle.conode_explain_transfers.specs.declared.stage.Stage.TheVariants.{Initiated, DownloadConfirmed, DownloadSent, UploadTaken, UploadAsked, BlockInitiated, SubBlock, AllAcknowledged}
use Rattle.conode_explain_transfers.specs.declared.transfer.Transfer.{Transfer}
use Rattle.conode_explain_transfers.specs.BlockTurns.{segment_added, segment_ahead, segment_again, segment_first, block_segment_at, block_segment, acknowledged, acknowledged_at, block_ended, block_ended_at, crc_in, end_confirmed, upload_started_at, is_block, end_confirmed_at}
use Rattle.conode_explain_transfers.specs.Data.{data_with}
use Rattle.conode_explain_transfers.specs.Followed.{with_frame, turns, turns_at}
use Rattle.conode_explain_transfers.specs.Readings.{may_have_segment, is_sender, awaits_segment, is_in_sub_block}
use Rattle.conode_explain_transfers.specs.SegmentedTurns.{download_segment_at, upload_request_at}
use Rattle.conode_explain_transfers.specs.Stages.{is_initiated, confirmed_with}
use Rattle.conode_explain_transfers.specs.Transfers.{Turn, after, is_download, awaited_number, unexpected, repeated}
use Rattle.conode_explain_transfers.specs.Turns.{request_turn}
use Rattle.conode_explain_transfers.specs.Unanswered.{is_next_segment, not_followed_by}
use Rattle.conode_explain_laws.specs.Downloads.{Complete, initiated_by, write_said, write_set}
use Rattle.conode_explain_laws.proofs.Readings.{begun_after, begun_so, went_on_as, Reading, Segment, Begin, Abort, Request, Response, Nothing, begun_with, begins_or, request_reading, response_reading, plain_reading, beginning, segment_reading, sub_block_reading, reading_of, turn_of, begun_on, with_client}
use Rattle.conode_explain_laws.proofs.Kept.{keeps}
use Rattle.conode_explain_laws.proofs.Views.{abort_no_write, View, read_as, Knows, Closes, IsAside, KnowsAside, aside_turn, is_begin, no_write, aside_write}

-- ---- both

-- a download in segments, all of which are confirmed
pub record InSegments (t : Transfer) (toggle : Bool) : Type 0 where
  pub direction : t.direction ≡ Download
  pub stage : t.stage ≡ DownloadConfirmed toggle
  pub request : request_in t.request.items ≡ Some (DownloadInitiate t.key t.size)

-- a download in blocks
pub record IsBlocks (t : Transfer) : Type 0 where
  pub direction : t.direction ≡ Download
  pub protocol : t.protocol ≡ Block
  pub request : request_in t.request.items ≡ Some (BlockDownloadInitiate t.key t.size)

-- inside a sub-block, of which this many segments were taken
pub record InBlocks (t : Transfer) (taken : ℕ) : Type 0 where
  pub is : IsBlocks t
  pub stage : t.stage ≡ SubBlock false
  pub pending : length t.pending.items ≡ 7 * taken

-- all of whose segments are acknowledged
pub record AllSent (t : Transfer) : Type 0 where
  pub is : IsBlocks t
  pub stage : t.stage ≡ AllAcknowledged
  pub pending : 7 ≤ length t.pending.items

-- a download that was answered, and isn't confirmed
pub record IsAnswered (t : Transfer) : Type 0 where
  pub answered : is_initiated t.stage ≡ false
  pub direction : t.direction ≡ Download
  pub unconfirmed : confirmed_with t.stage ≡ None

-- explain's transfer isn't followed; or its initiate request isn't answered; or the channel has dropped it; or both have the same
-- bytes of a download in segments, or in blocks
pub data Follows (t : Transfer) (got : List ℕ) (current : Option OpenTransfer) : Type 0 where
  aside : IsAside t → Follows t got current
  asked : t.stage ≡ Initiated → Follows t got current
  gone : IsAnswered t → current ≡ None → Follows t got current
  segmented : (toggle : Bool) → InSegments t toggle → current ≡ Some (record { key = t.key; stage = Receiving t.size toggle; bytes = got }) → Follows t got current
  blocks : (taken : ℕ) (size : Option ℕ) → InBlocks t taken → current ≡ Some (record { key = t.key; stage = InSubBlock size taken; bytes = got ++ t.pending.items }) → Follows t got current
  all_sent : (size : Option ℕ) → AllSent t → current ≡ Some (record { key = t.key; stage = LastTaken size; bytes = got ++ t.pending.items }) → Follows t got current

pub in_blocks : (t : Transfer) (taken : ℕ) → InBlocks t taken → IsAnswered t
in_blocks t taken h = record { answered = ap is_initiated h.stage; direction = h.is.direction; unconfirmed = ap confirmed_with h.stage }

pub are_sent : (t : Transfer) → AllSent t → IsAnswered t
are_sent t h = record { answered = ap is_initiated h.stage; direction = h.is.direction; unconfirmed = ap confirmed_with h.stage }

pub in_segments : (t : Transfer) (toggle : Bool) → InSegments t toggle → IsAnswered t
in_segments t toggle h = record { answered = ap is_initiated h.stage; direction = h.direction; unconfirmed = ap confirmed_with h.stage }

-- after a request with its answers: what is open then, and what was set
pub record Ends (next : Option OpenTransfer) (set : Option Whole) (done : List Complete) (v : View) : Type 0 where
  pub follows : IfSome v.following.transfer (λ t. Follows t v.got next)
  pub writes : (v.done ≡ done) ⊎ (v.done ≡ write_set set v.count ++ done)

pub ends_closed : (next : Option OpenTransfer) (set : Option Whole) (done : List Complete) (v : View) → Closes done v → Ends next set done v
ends_closed next set done v h = record { follows = rw h.none tt; writes = inl h.same }

aside_follows : (current : Option Transfer) (got : List ℕ) (next : Option OpenTransfer) → IfSome current IsAside → IfSome current (λ t. Follows t got next)
aside_follows None got next h = tt
aside_follows (Some t) got next h = aside h

pub ends_aside : (next : Option OpenTransfer) (set : Option Whole) (done : List Complete) (v : View) → KnowsAside done v → Ends next set done v
ends_aside next set done v h = record { follows = aside_follows v.following.transfer v.got next h.holds; writes = inl h.same }

-- ---- how a frame is read

-- the request that a frame begins this transfer with, whether its client went on or not
pub record BegunBy (frame : List ℕ) (micros : ℕ) (new : Transfer) : Type 0 where
  pub request : SdoRequest
  pub is : request_in frame ≡ Some request
  pub initiates : begun_with request micros frame ≡ Some (went_on_as false new)

pub begun_of : (frame : List ℕ) (micros : ℕ) (new : Transfer) (b : BegunBy frame micros new) → begun_on new.went_on b.request micros frame ≡ Some new
begun_of frame micros new b = ap (with_client new.went_on) b.initiates

beginning_is : (reading : Reading) (new : Transfer) → beginning reading ≡ Begin new → reading ≡ Begin new
beginning_is (Begin other) new h = h
beginning_is _ new h = absurd (let e : Nothing ≡ Begin new = h in cc)

segment_is : (block_size : ℕ) (segment : Option BlockSegment) (otherwise : Reading) (new : Transfer) → segment_reading block_size segment otherwise ≡ Begin new → otherwise ≡ Begin new
segment_is block_size None otherwise new h = h
segment_is block_size (Some segment) otherwise new h = by (nat_le segment.sequence block_size) h
  where
    by : (b : Bool) → (if b then Segment segment else otherwise) ≡ Begin new → otherwise ≡ Begin new
    by true h = absurd (let e : Segment segment ≡ Begin new = h in cc)
    by false h = h

plain_is : (current : Option Transfer) (micros : ℕ) (frame : List ℕ) (new : Transfer) → reading_of current Client micros frame ≡ Begin new → request_reading (request_in frame) micros frame ≡ Begin new
plain_is None micros frame new h = h
plain_is (Some t) micros frame new h = by (awaits_segment t Client) (is_abort_in_sub_block frame) h
  where
    by : (awaited abort : Bool)
        → (if awaited then (if abort then Abort (code_in frame) else segment_reading t.block_size (block_segment_in frame) (beginning (plain_reading Client micros frame))) else plain_reading Client micros frame) ≡ Begin new
        → request_reading (request_in frame) micros frame ≡ Begin new
    by true true h = absurd (let e : Abort (code_in frame) ≡ Begin new = h in cc)
    by true false h = beginning_is (plain_reading Client micros frame) new (segment_is t.block_size (block_segment_in frame) _ new h)
    by false abort h = h

begun_or : (on : Bool) (frame : List ℕ) (micros : ℕ) (new : Transfer) (request : SdoRequest) (x : Option Transfer) → request_in frame ≡ Some request → begun_with request micros frame ≡ x
    → begins_or x (Request request) ≡ Begin new → BegunBy frame micros (went_on_as on new)
begun_or on frame micros new request None q e h = absurd (let f : Request request ≡ Begin new = h in cc)
begun_or on frame micros new request (Some other) q e h =
    let same : other ≡ new = cc in record { request = request; is = q; initiates = begun_so request micros frame new (e ∙ ap (λ x. Some x) same) }

begun_request : (on : Bool) (frame : List ℕ) (micros : ℕ) (new : Transfer) (r : Option SdoRequest) → request_in frame ≡ r → request_reading r micros frame ≡ Begin new → BegunBy frame micros (went_on_as on new)
begun_request on frame micros new None q h = absurd (let f : Nothing ≡ Begin new = h in cc)
begun_request on frame micros new (Some (Abandon key code)) q h = absurd (let f : Abort code ≡ Begin new = h in cc)
begun_request on frame micros new (Some request) q h = begun_or on frame micros new request (begun_with request micros frame) q refl h

pub begun_by : (current : Option Transfer) (micros : ℕ) (frame : List ℕ) (new : Transfer) → reading_of current Client micros frame ≡ Begin new → BegunBy frame micros (begun_after current frame new)
begun_by current micros frame new h = begun_request (is_next_segment current frame) frame micros new (request_in frame) refl (plain_is current micros frame new h)

-- outside a sub-block no segment is awaited of the server
pub none_of_server : (stage : Stage) (direction : Direction) (protocol : Protocol) → is_in_sub_block stage ≡ false
    → (if may_have_segment stage direction protocol then is_sender direction Server else false) ≡ false
none_of_server Initiated Upload protocol h = refl
none_of_server Initiated Download protocol h = by (is_block protocol)
  where
    by : (block : Bool) → (if block then false else false) ≡ false
    by true = refl
    by false = refl
none_of_server (SubBlock last) direction protocol h = absurd (false≢true (sym h))
none_of_server _ direction protocol h = refl

-- the server's frames are no segments in a download
pub response_read : (t : Transfer) (micros : ℕ) (frame : List ℕ) → t.direction ≡ Download → reading_of (Some t) Server micros frame ≡ response_reading (response_in frame)
response_read t micros frame e = by (may_have_segment t.stage t.direction t.protocol) t.direction e
  where
    by : (inside : Bool) (x : Direction) → x ≡ Download
        → (if (if inside then is_sender x Server else false) then sub_block_reading t.block_size Server micros frame else plain_reading Server micros frame) ≡ response_reading (response_in frame)
    by true x e = rw e refl
    by false x e = refl

abbrev pub is_response : Reading → Bool
is_response (Response response) = true
is_response _ = false

request_no_response : (r : Option SdoRequest) (micros : ℕ) (frame : List ℕ) → is_response (request_reading r micros frame) ≡ false
request_no_response None micros frame = refl
request_no_response (Some (Abandon key code)) micros frame = refl
request_no_response (Some request) micros frame = by (begun_with request micros frame)
  where
    by : (x : Option Transfer) → is_response (begins_or x (Request request)) ≡ false
    by None = refl
    by (Some new) = refl

beginning_no_response : (reading : Reading) → is_response (beginning reading) ≡ false
beginning_no_response (Begin new) = refl
beginning_no_response _ = refl

segment_no_response : (block_size : ℕ) (segment : Option BlockSegment) (otherwise : Reading) → is_response otherwise ≡ false → is_response (segment_reading block_size segment otherwise) ≡ false
segment_no_response block_size None otherwise h = h
segment_no_response block_size (Some segment) otherwise h = by (nat_le segment.sequence block_size)
  where
    by : (b : Bool) → is_response (if b then Segment segment else otherwise) ≡ false
    by true = refl
    by false = h

-- the client sends no responses
pub client_no_response : (current : Option Transfer) (micros : ℕ) (frame : List ℕ) → is_response (reading_of current Client micros frame) ≡ false
client_no_response None micros frame = request_no_response (request_in frame) micros frame
client_no_response (Some t) micros frame = by (awaits_segment t Client) (is_abort_in_sub_block frame)
  where
    by : (awaited abort : Bool)
        → is_response (if awaited then (if abort then Abort (code_in frame) else segment_reading t.block_size (block_segment_in frame) (beginning (plain_reading Client micros frame))) else plain_reading Client micros frame) ≡ false
    by true true = refl
    by true false = segment_no_response t.block_size (block_segment_in frame) _ (beginning_no_response (plain_reading Client micros frame))
    by false abort = request_no_response (request_in frame) micros frame

-- ---- a frame of the client confirms no download

-- the transfer isn't confirmed, or is irregular
abbrev pub IsLate : Turn → Type 0
IsLate turn = (turn.transfer.irregular ≡ true) ⊎ (confirmed_with turn.transfer.stage ≡ None)

either_late : (b : Bool) (x y : Turn) → IsLate x → IsLate y → IsLate (if b then x else y)
either_late true x y hx hy = hx
either_late false x y hx hy = hy

pub late_segment_at : (stage : Stage) (t : Transfer) (segment : BlockSegment) → confirmed_with t.stage ≡ None → IsLate (block_segment_at stage t segment)
late_segment_at (SubBlock false) t segment u =
    either_late (nat_lt segment.sequence t.next_number) (segment_again t segment) _ (inl refl)
    (either_late (segment.sequence == awaited_number t) (segment_added t segment) (segment_ahead t segment) (inr refl) (inr u))
late_segment_at Initiated t segment u = either_late (is_download t.direction && is_block t.protocol) (segment_first t segment) (unexpected t) (inl refl) (inl refl)
late_segment_at _ t segment u = inl refl

late_download : (stage : Stage) (t : Transfer) (toggle : Bool) (segment : ArrayVec ℕ) (last : Bool) → IsLate (download_segment_at stage t toggle segment last)
late_download (DownloadConfirmed awaited) t toggle segment last = either_late (same_bool toggle awaited) _ (repeated t) (inr refl) (inl refl)
late_download (DownloadSent sent was_last) t toggle segment last = either_late (same_bool toggle sent) (repeated t) _ (inl refl) (inl refl)
late_download _ t toggle segment last = inl refl

late_upload : (stage : Stage) (t : Transfer) (toggle : Bool) → IsLate (upload_request_at stage t toggle)
late_upload (UploadTaken awaited) t toggle = either_late (same_bool toggle awaited) _ (repeated t) (inr refl) (inl refl)
late_upload (UploadAsked wanted) t toggle = either_late (same_bool toggle wanted) (repeated t) _ (inl refl) (inl refl)
late_upload _ t toggle = inl refl

late_start : (stage : Stage) (t : Transfer) → IsLate (upload_started_at stage t)
late_start BlockInitiated t = inr refl
late_start _ t = inl refl

late_acknowledge_at : (stage : Stage) (t : Transfer) (sequence block_size : ℕ) → IsLate (acknowledged_at stage t sequence block_size)
late_acknowledge_at (SubBlock last) t sequence block_size =
    either_late (nat_lt sequence (awaited_number t)) _ _ (either_late (last && (sequence + 1 == awaited_number t)) _ _ (inr refl) (inr refl)) (inl refl)
late_acknowledge_at _ t sequence block_size = inl refl

late_acknowledge : (by : Bool) (t : Transfer) (sequence block_size : ℕ) → IsLate (acknowledged by t sequence block_size)
late_acknowledge true t sequence block_size = late_acknowledge_at t.stage t sequence block_size
late_acknowledge false t sequence block_size = inl refl

late_end_at : (stage : Stage) (t : Transfer) (unused crc : ℕ) → IsLate (block_ended_at stage t unused crc)
late_end_at AllAcknowledged t unused crc = inr refl
late_end_at _ t unused crc = inl refl

late_end : (by : Bool) (t : Transfer) (unused crc : ℕ) → IsLate (block_ended by t unused crc)
late_end true t unused crc = late_end_at t.stage t unused crc
late_end false t unused crc = inl refl

-- only the client's end of a block upload may confirm one
pub late_other : (t : Transfer) (request : SdoRequest) (frame : List ℕ) → is_upload_end (Some request) ≡ false → IsLate (request_turn t request frame)
late_other t (DownloadSegment toggle segment last) frame n = late_download t.stage t toggle segment last
late_other t (NextSegment toggle) frame n = late_upload t.stage t toggle
late_other t BlockUploadStart frame n = late_start t.stage t
late_other t (BlockUploadAcknowledge sequence block_size) frame n = late_acknowledge (not (is_download t.direction)) t sequence block_size
late_other t UploadEnd frame n = absurd (false≢true (sym n))
late_other t (BlockDownloadEnd unused) frame n = late_end (is_download t.direction) t unused (crc_in frame)
late_other t _ frame n = inl refl

late_request : (t : Transfer) (request : SdoRequest) (frame : List ℕ) → t.direction ≡ Download → IsLate (request_turn t request frame)
late_request t UploadEnd frame d = inl (ap (λ x. (end_confirmed (not (is_download x)) t).transfer.irregular) d)
late_request t request frame d = late_other t request frame refl

-- it isn't followed, or was answered
abbrev pub Stays : Transfer → Type 0
Stays t = IsAside t ⊎ IsAnswered t

answered_frame : (what : What) (u : Transfer) (micros : ℕ) (side : Side) → IsAnswered u → IsAnswered (with_frame what u micros side)
answered_frame Overtaken u micros side h = h
answered_frame _ u micros side h = record { answered = h.answered; direction = h.direction; unconfirmed = h.unconfirmed }

answered_turns : (rows : Rows) (x : Option (Option ℕ)) (heard : Bool) (what : What) (u : Transfer) (initiate : Option SdoRequest) (got : List ℕ) (done : List Complete) (count micros : ℕ) (side : Side)
    → is_initiated u.stage ≡ false → u.direction ≡ Download → confirmed_with u.stage ≡ x → (u.irregular ≡ true) ⊎ (confirmed_with u.stage ≡ None)
    → Knows (λ t got. Stays t) done (record {
      following = (turns_at x heard what u micros side).next;
      got = got;
      done = write_said rows initiate (turns_at x heard what u micros side).says.ended got count ++ done;
      count = count;
    })
answered_turns rows None heard what u initiate got done count micros side a d e late = record {
  holds = inr (answered_frame what u micros side (record { answered = a; direction = d; unconfirmed = e }));
  same = refl;
}
answered_turns rows (Some crc) heard what u initiate got done count micros side a d e (inl i) = record {
  holds = tt;
  same = ap (λ w. w ++ done) (aside_write u crc _ (inl i));
}
answered_turns rows (Some crc) heard what u initiate got done count micros side a d e (inr n) = absurd (let f : None ≡ Some crc = sym n ∙ e in cc)

answered_turn : (rows : Rows) (micros : ℕ) (side : Side) (frame : List ℕ) (heard : Bool) (t : Transfer) (got : List ℕ) (done : List Complete) (count : ℕ) (reading : Reading) → IsAnswered t
    → IsLate (turn_of t reading frame)
    → Knows (λ t got. Stays t) done (record {
      following = (turns heard t (turn_of t reading frame) micros side).next;
      got = data_with got (turn_of t reading frame).takes;
      done =
          write_said rows (initiated_by (Some t)) (turns heard t (turn_of t reading frame) micros side).says.ended (data_with got (turn_of t reading frame).takes) (suc count)
          ++ done;
      count = suc count;
    })
answered_turn rows micros side frame heard t got done count reading h late =
    let turn = turn_of t reading frame in
    let k = keeps t reading frame in
    answered_turns rows (confirmed_with turn.transfer.stage) heard turn.what (after t turn) (initiated_by (Some t)) (data_with got turn.takes) done (suc count) micros side
    (k.answered h.answered) (k.direction ∙ h.direction) refl late

-- a frame of the client that begins no transfer
pub answered_reads : (rows : Rows) (micros : ℕ) (frame : List ℕ) (heard : Bool) (t : Transfer) (got : List ℕ) (done : List Complete) (count : ℕ) (reading : Reading)
    → IsAnswered t → is_begin reading ≡ false → is_response reading ≡ false
    → Knows (λ t got. Stays t) done (read_as rows micros Client frame (record { following = record { heard = heard; transfer = Some t }; got = got; done = done; count = count }) reading)
answered_reads rows micros frame heard t got done count (Begin new) h n m = absurd (false≢true (sym n))
answered_reads rows micros frame heard t got done count (Response response) h n m = absurd (false≢true (sym m))
answered_reads rows micros frame heard t got done count (Abort code) h n m = record {
  holds = tt;
  same = ap (λ w. w ++ done) (no_write (is_download t.direction) _ (abort_no_write Client (not_followed_by Client t frame) code _));
}
answered_reads rows micros frame heard t got done count (Segment segment) h n m =
    answered_turn rows micros Client frame heard t got done count (Segment segment) h (late_segment_at t.stage t segment h.unconfirmed)
answered_reads rows micros frame heard t got done count (Request request) h n m =
    answered_turn rows micros Client frame heard t got done count (Request request) h (late_request t request frame h.direction)
answered_reads rows micros frame heard t got done count Nothing h n m =
    answered_turn rows micros Client frame heard t got done count Nothing h (inl refl)

-- ---- before the answer to initiate

ended_by : (by : Bool) (t : Transfer) (unused crc : ℕ) → t.stage ≡ Initiated → (block_ended by t unused crc).transfer.irregular ≡ true
ended_by true t unused crc e = ap (λ s. (block_ended_at s t unused crc).transfer.irregular) e
ended_by false t unused crc e = refl

acknowledged_by : (by : Bool) (t : Transfer) (sequence block_size : ℕ) → t.stage ≡ Initiated → (acknowledged by t sequence block_size).transfer.irregular ≡ true
acknowledged_by true t sequence block_size e = ap (λ s. (acknowledged_at s t sequence block_size).transfer.irregular) e
acknowledged_by false t sequence block_size e = refl

confirmed_by : (by block : Bool) (t : Transfer) → t.stage ≡ Initiated → is_block t.protocol ≡ block → (end_confirmed by t).transfer.irregular ≡ true
confirmed_by true true t e b = rw b (ap (λ s. (end_confirmed_at s t).transfer.irregular) e)
confirmed_by true false t e b = rw b refl
confirmed_by false block t e b = refl

pub segment_spoils : (t : Transfer) (segment : BlockSegment) → t.stage ≡ Initiated → (block_segment t segment).transfer.irregular ≡ true
segment_spoils t segment e = ap (λ s. (block_segment_at s t segment).transfer.irregular) e ∙ by (is_download t.direction && is_block t.protocol)
  where
    by : (b : Bool) → (if b then segment_first t segment else unexpected t).transfer.irregular ≡ true
    by true = refl
    by false = refl

pub request_spoils : (t : Transfer) (request : SdoRequest) (frame : List ℕ) → t.stage ≡ Initiated → (request_turn t request frame).transfer.irregular ≡ true
request_spoils t (DownloadSegment toggle segment last) frame e = ap (λ s. (download_segment_at s t toggle segment last).transfer.irregular) e
request_spoils t (NextSegment toggle) frame e = ap (λ s. (upload_request_at s t toggle).transfer.irregular) e
request_spoils t BlockUploadStart frame e = ap (λ s. (upload_started_at s t).transfer.irregular) e
request_spoils t (BlockUploadAcknowledge sequence block_size) frame e = acknowledged_by (not (is_download t.direction)) t sequence block_size e
request_spoils t UploadEnd frame e = confirmed_by (not (is_download t.direction)) (is_block t.protocol) t e refl
request_spoils t (BlockDownloadEnd unused) frame e = ended_by (is_download t.direction) t unused (crc_in frame) e
request_spoils t _ frame e = refl

-- any frame of the client but an initiate request ends it, or makes it irregular
pub asked_reads : (rows : Rows) (micros : ℕ) (frame : List ℕ) (heard : Bool) (t : Transfer) (got : List ℕ) (done : List Complete) (count : ℕ) (reading : Reading)
    → t.stage ≡ Initiated → is_begin reading ≡ false → is_response reading ≡ false
    → KnowsAside done (read_as rows micros Client frame (record { following = record { heard = heard; transfer = Some t }; got = got; done = done; count = count }) reading)
asked_reads rows micros frame heard t got done count (Begin new) h n m = absurd (false≢true (sym n))
asked_reads rows micros frame heard t got done count (Response response) h n m = absurd (false≢true (sym m))
asked_reads rows micros frame heard t got done count (Abort code) h n m = record {
  holds = tt;
  same = ap (λ w. w ++ done) (no_write (is_download t.direction) _ (abort_no_write Client (not_followed_by Client t frame) code _));
}
asked_reads rows micros frame heard t got done count (Segment segment) h n m =
    aside_turn rows micros Client frame heard t got done count (Segment segment) (inl (segment_spoils t segment h))
asked_reads rows micros frame heard t got done count (Request request) h n m =
    aside_turn rows micros Client frame heard t got done count (Request request) (inl (request_spoils t request frame h))
asked_reads rows micros frame heard t got done count Nothing h n m =
    aside_turn rows micros Client frame heard t got done count Nothing (inl refl)

-- ---- an answer to initiate, where it was answered before

-- it is a response to initiate
abbrev pub is_first : Option SdoResponse → Bool
is_first (Some (DownloadDone key)) = true
is_first (Some (UploadExpedited key value)) = true
is_first (Some (UploadInitiated key size)) = true
is_first (Some (BlockDownloadInitiated key block_size)) = true
is_first (Some (BlockUploadInitiated key size)) = true
is_first _ = false

unawaited : (initiated : Bool) (t : Transfer) (turn : Turn) → initiated ≡ false → (if initiated then turn else unexpected t).transfer.irregular ≡ true
unawaited true t turn e = absurd (false≢true (sym e))
unawaited false t turn e = refl

again_reads : (rows : Rows) (micros : ℕ) (frame : List ℕ) (heard : Bool) (t : Transfer) (got : List ℕ) (done : List Complete) (count : ℕ) (r : Option SdoResponse)
    → IsAnswered t → is_first r ≡ true
    → KnowsAside done (read_as rows micros Server frame (record { following = record { heard = heard; transfer = Some t }; got = got; done = done; count = count }) (response_reading r))
again_reads rows micros frame heard t got done count (Some (DownloadDone key)) h f =
    aside_turn rows micros Server frame heard t got done count (Response (DownloadDone key)) (inl (unawaited (is_initiated t.stage) t _ h.answered))
again_reads rows micros frame heard t got done count (Some (UploadExpedited key value)) h f =
    aside_turn rows micros Server frame heard t got done count (Response (UploadExpedited key value)) (inl (unawaited (is_initiated t.stage) t _ h.answered))
again_reads rows micros frame heard t got done count (Some (UploadInitiated key size)) h f =
    aside_turn rows micros Server frame heard t got done count (Response (UploadInitiated key size)) (inl (unawaited (is_initiated t.stage) t _ h.answered))
again_reads rows micros frame heard t got done count (Some (BlockDownloadInitiated key block_size)) h f =
    aside_turn rows micros Server frame heard t got done count (Response (BlockDownloadInitiated key block_size)) (inl (unawaited (is_initiated t.stage) t _ h.answered))
again_reads rows micros frame heard t got done count (Some (BlockUploadInitiated key size)) h f =
    aside_turn rows micros Server frame heard t got done count (Response (BlockUploadInitiated key size)) (inl (unawaited (is_initiated t.stage) t _ h.answered))
again_reads rows micros frame heard t got done count _ h f = absurd (false≢true f)

pub again : (rows : Rows) (micros : ℕ) (frame : List ℕ) (heard : Bool) (t : Transfer) (got : List ℕ) (done : List Complete) (count : ℕ) → IsAnswered t → is_first (response_in frame) ≡ true
    → KnowsAside done (read_as rows micros Server frame (record { following = record { heard = heard; transfer = Some t }; got = got; done = done; count = count }) (reading_of (Some t) Server micros frame))
again rows micros frame heard t got done count h f =
    subst (λ reading. KnowsAside done (read_as rows micros Server frame (record { following = record { heard = heard; transfer = Some t }; got = got; done = done; count = count }) reading))
    (sym (response_read t micros frame h.direction)) (again_reads rows micros frame heard t got done count (response_in frame) h f)
