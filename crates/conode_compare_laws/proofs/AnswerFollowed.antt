-- What explain says of a frame on the channel, and the transfer that is open then, as far as the laws of answers need it.
use Rattle.std.proofs.Common.{◌≡◌, ℕ, ◌<◌, ◌≤◌, Bool, true, false, not, List, length, Option, Some, None, refl, sym, ap, ◌∙◌, ◌⊎◌, inl, inr, subst, arith}
use Rattle.std.specs.Prelude.{◌||◌, ◌==◌, if◌then◌else◌, is_some, IfSome}
use Rattle.std.proofs.lemmas.Bool.{false≢true}
use Rattle.arrayvec.specs.ArrayVec.{ArrayVec}
use Rattle.co_value.specs.declared.key.Key.{Key}
use Rattle.co_value.specs.Keys.{same_key-refl}
use Rattle.co_value.specs.Numbers.{low_bytes, unsigned_of}
use Rattle.co_frame.specs.FrameContent.{FrameContent}
use Rattle.co_frame.specs.BlockSegments.{block_segment_in, is_abort_in_sub_block}
use Rattle.co_frame.specs.SdoParts.{code_in}
use Rattle.co_frame.specs.SdoRequests.{request_in}
use Rattle.co_frame.specs.SdoResponses.{response_bytes, response_in, response_row_in}
use Rattle.co_frame_aborts.specs.declared.abort_code.AbortCode.{AbortCode}
use Rattle.co_frame.specs.declared.block_segment.BlockSegment.{BlockSegment}
use Rattle.co_frame.specs.declared.sdo_request.ExpeditedData.TheVariants.{Indicated}
use Rattle.co_frame.specs.declared.sdo_request.SdoRequest.{SdoRequest}
use Rattle.co_frame.specs.declared.sdo_request.SdoRequest.TheVariants.{DownloadExpedited, DownloadInitiate, DownloadSegment, Upload as UploadInitiate, UploadSegment as NextSegment, Abort as Abandon, BlockUploadInitiate, BlockUploadEnd as UploadEnd, BlockUploadAcknowledge, BlockUploadStart, BlockDownloadInitiate, BlockDownloadEnd}
use Rattle.co_frame.specs.declared.sdo_response.SdoResponse.{SdoResponse}
use Rattle.co_frame.specs.declared.sdo_response.SdoResponse.TheVariants.{Abort as Refuse, DownloadDone, UploadExpedited, UploadInitiated, BlockDownloadInitiated, BlockUploadInitiated}
use Rattle.co_sdo.specs.OpenTransfers.{is_initiate as initiates}
use Rattle.co_sdo_laws.proofs.Frames.{block_initiated_read, done_read, expedited_sent_read}
use Rattle.conode_explain_transfers.specs.declared.ended.Ended.{Ended}
use Rattle.conode_explain_transfers.specs.declared.ended.Ending.{Ending}
use Rattle.conode_explain_transfers.specs.declared.ended.Ending.TheVariants.{Aborted, CrcDiffers, Done, Irregular, NotFollowed, Repeated}
use Rattle.conode_explain_transfers.specs.declared.kinds.Direction.{Direction}
use Rattle.conode_explain_transfers.specs.declared.kinds.Direction.TheVariants.{Download, Upload}
use Rattle.conode_explain_transfers.specs.declared.kinds.Protocol.{Protocol}
use Rattle.conode_explain_transfers.specs.declared.kinds.Protocol.TheVariants.{Block, Expedited, Segmented, Undecided}
use Rattle.conode_explain_transfers.specs.declared.kinds.Side.{Side}
use Rattle.conode_explain_transfers.specs.declared.kinds.Side.TheVariants.{Client, Server}
use Rattle.conode_explain_transfers.specs.declared.kinds.What.{What}
use Rattle.conode_explain_transfers.specs.declared.kinds.What.TheVariants as what
use Rattle.conode_explain_transfers.specs.declared.stage.Stage.{Stage}
use Rattle.conode_explain_transfers.specs.declared.stage.Stage.TheVariants.{Initiated, SubBlock}
use Rattle.conode_explain_transfers.specs.declared.transfer.Transfer.{Transfer}
use Rattle.conode_explain_transfers.specs.BlockTurns.{is_block}
use Rattle.conode_explain_transfers.specs.Endings.{crc_verdict, ended, size_fault, size_verdict, verdict}
use Rattle.conode_explain_transfers.specs.Followed.{Followed, Following, abort_ending, followed, left_by, left_ending, one_more, turns_at, with_frame}
use Rattle.conode_explain_transfers.specs.Readings.{awaits_segment, is_sender, may_have_segment, is_in_sub_block}
use Rattle.conode_explain_transfers.specs.Stages.{confirmed_with}
use Rattle.conode_explain_transfers.specs.Initiates.{first_segment, initiate_of}
use Rattle.conode_explain_transfers.specs.Transfers.{Turn, after, begun, is_same_request}
use Rattle.conode_explain_laws.specs.Downloads.{is_block_begin}
use Rattle.conode_explain_transfers.specs.Turns.{request_turn, response_turn}
use Rattle.conode_explain_transfers.specs.Unanswered.{is_lost, not_followed_by, number_of, segment_follows}
use Rattle.conode_explain_laws.proofs.Begins.{response_is}
use Rattle.conode_explain_laws.proofs.Follows.{none_of_server}
use Rattle.conode_explain_laws.proofs.Kept.{Keeps, keeps}
use Rattle.conode_explain_laws.proofs.Readings.{Reading, Segment, Begin, Abort, Request, Response, Nothing, request_reading, response_reading, plain_reading, beginning, segment_reading, reading_of, turn_of, follows_by, same as same_reading, begun_on, went_on_as}
use Rattle.conode_explain_laws.proofs.Views.{abort_is, is_abort_reading, is_begin, server_no_begin}
use Rattle.conode_compare_transfers.specs.Dialogues.{continues, ends_in_doubt, is_aborted, is_initiate, is_known_end, is_odd, leaves_request_open}
use Rattle.conode_compare_transfers.specs.Dialogues as dialogues
use Rattle.conode_compare_laws.proofs.AnswerTurns.{Asked, Blocks, Plain, Sound, Turned, asked, asks_for_blocks, in_blocks, is_request, is_turned, turned}

-- ---- explain's frames, by the readings of conode_explain_laws

abbrev pub reads : Following → ℕ → Side → List ℕ → Followed
reads following micros side bytes = follows_by following.heard following.transfer (reading_of following.transfer side micros bytes) micros side bytes

pub what_is : (following : Following) (micros : ℕ) (side : Side) (bytes : List ℕ) → (followed following micros side bytes).says.what ≡ (reads following micros side bytes).says.what
what_is following micros side bytes = ap (λ (f : Followed). f.says.what) (same_reading following.heard following.transfer micros side bytes bytes).followed

pub next_is : (following : Following) (micros : ℕ) (side : Side) (bytes : List ℕ) → (followed following micros side bytes).next ≡ (reads following micros side bytes).next
next_is following micros side bytes = ap (λ (f : Followed). f.next) (same_reading following.heard following.transfer micros side bytes bytes).followed

pub leaves_is : (owed quiet : Bool) (doubted : Option ℕ) (following : Following) (micros : ℕ) (side : Side) (frame : FrameContent)
    → leaves_request_open owed quiet side doubted (followed following micros side frame.bytes).says frame ≡ leaves_request_open owed quiet side doubted (reads following micros side frame.bytes).says frame
leaves_is owed quiet doubted following micros side frame = ap (λ (f : Followed). leaves_request_open owed quiet side doubted f.says frame) (same_reading following.heard following.transfer micros side frame.bytes frame.bytes).followed

-- ---- a frame that begins nothing

pub record GoesOn (current : Option Transfer) (f : Followed) : Type 0 where
  pub sound : IfSome f.next.transfer Sound
  pub what : is_initiate f.says.what ≡ false
  pub turned : is_some current ≡ true → is_turned f.says.what ≡ true

no_initiate : (w : What) → is_turned w ≡ true → is_initiate w ≡ false
no_initiate what.Initiate h = absurd (false≢true h)
no_initiate _ h = refl

sound_frame : (w : What) (u : Transfer) (micros : ℕ) (side : Side) → Sound u → Sound (with_frame w u micros side)
sound_frame what.Overtaken u micros side s = s
sound_frame _ u micros side s = record {
  unconfirmed = s.unconfirmed;
  plain = s.plain;
  blocks = λ h. let b = s.blocks h in record { direction = b.direction; protocol = b.protocol };
}

turn_goes : (x : Option (Option ℕ)) (heard : Bool) (w : What) (u : Transfer) (micros : ℕ) (side : Side) (current : Option Transfer) → confirmed_with u.stage ≡ x → Plain u → Blocks u → is_turned w ≡ true
    → GoesOn current (turns_at x heard w u micros side)
turn_goes (Some crc) heard w u micros side current e p b on = record { sound = tt; what = no_initiate w on; turned = λ h. on }
turn_goes None heard w u micros side current e p b on = record {
  sound = sound_frame w u micros side (record { unconfirmed = e; plain = p; blocks = b });
  what = no_initiate w on;
  turned = λ h. on;
}

stays_plain : (t u : Transfer) → Keeps t u → Plain t → Plain u
stays_plain t u k p = λ h. let down : t.direction ≡ Download = sym k.direction ∙ h in ap is_block (k.protocol down) ∙ p down

by_turn : (heard : Bool) (t : Transfer) (reading : Reading) (micros : ℕ) (side : Side) (bytes : List ℕ) → Sound t
    → GoesOn (Some t) (turns_at (confirmed_with (turn_of t reading bytes).transfer.stage) heard (turn_of t reading bytes).what (after t (turn_of t reading bytes)) micros side)
by_turn heard t reading micros side bytes s =
    let h : Turned (turn_of t reading bytes) = turned t reading bytes s in
    turn_goes (confirmed_with (turn_of t reading bytes).transfer.stage) heard (turn_of t reading bytes).what (after t (turn_of t reading bytes)) micros side (Some t) refl
    (stays_plain t (turn_of t reading bytes).transfer (keeps t reading bytes) s.plain)
    (λ on. let b = h.blocks on in record { direction = b.direction; protocol = b.protocol }) h.what

unopened : (heard : Bool) → is_initiate (if heard then what.Stray else what.BegunBefore) ≡ false
unopened true = refl
unopened false = refl

passes_by : (heard : Bool) (f : Followed) → f.next.transfer ≡ None → is_initiate f.says.what ≡ false → GoesOn None f
passes_by heard f none w = record { sound = subst (λ o. IfSome o Sound) (sym none) tt; what = w; turned = λ h. absurd (false≢true h) }

strays : (heard : Bool) (reading : Reading) (micros : ℕ) (side : Side) (bytes : List ℕ) → is_begin reading ≡ false → GoesOn None (follows_by heard None reading micros side bytes)
strays heard (Begin t) micros side bytes n = absurd (false≢true (sym n))
strays true _ micros side bytes n = record { sound = tt; what = refl; turned = λ h. absurd (false≢true h) }
strays false _ micros side bytes n = record { sound = tt; what = refl; turned = λ h. absurd (false≢true h) }

pub goes_on : (heard : Bool) (current : Option Transfer) (reading : Reading) (micros : ℕ) (side : Side) (bytes : List ℕ) → IfSome current Sound → is_begin reading ≡ false
    → GoesOn current (follows_by heard current reading micros side bytes)
goes_on heard None reading micros side bytes s n = strays heard reading micros side bytes n
goes_on heard (Some t) (Begin new) micros side bytes s n = absurd (false≢true (sym n))
goes_on heard (Some t) (Abort code) micros side bytes s n = record { sound = tt; what = refl; turned = λ h. refl }
goes_on heard (Some t) (Segment segment) micros side bytes s n = by_turn heard t (Segment segment) micros side bytes s
goes_on heard (Some t) (Request request) micros side bytes s n = by_turn heard t (Request request) micros side bytes s
goes_on heard (Some t) (Response response) micros side bytes s n = by_turn heard t (Response response) micros side bytes s
goes_on heard (Some t) Nothing micros side bytes s n = by_turn heard t Nothing micros side bytes s

-- ---- the server's frames

pub server_goes : (following : Following) (micros : ℕ) (bytes : List ℕ) → IfSome following.transfer Sound → GoesOn following.transfer (reads following micros Server bytes)
server_goes following micros bytes s =
    goes_on following.heard following.transfer (reading_of following.transfer Server micros bytes) micros Server bytes s (server_no_begin following.transfer micros bytes)

response_no_request : (response : Option SdoResponse) → is_request (response_reading response) ≡ false
response_no_request None = refl
response_no_request (Some (Refuse key code)) = refl
response_no_request (Some _) = refl

no_request : (reading : Reading) → is_request (beginning reading) ≡ false
no_request (Begin new) = refl
no_request _ = refl

segment_no_request : (block_size : ℕ) (segment : Option BlockSegment) (otherwise : Reading) → is_request otherwise ≡ false → is_request (segment_reading block_size segment otherwise) ≡ false
segment_no_request block_size None otherwise h = h
segment_no_request block_size (Some segment) otherwise h = by _
  where
    by : (b : Bool) → is_request (if b then Segment segment else otherwise) ≡ false
    by true = refl
    by false = h

pub server_no_request : (current : Option Transfer) (micros : ℕ) (bytes : List ℕ) → is_request (reading_of current Server micros bytes) ≡ false
server_no_request None micros bytes = response_no_request (response_in bytes)
server_no_request (Some t) micros bytes = by (awaits_segment t Server) (is_abort_in_sub_block bytes)
  where
    by : (awaited abort : Bool)
        → is_request (if awaited then (if abort then Abort (code_in bytes) else segment_reading t.block_size (block_segment_in bytes) (beginning (plain_reading Server micros bytes))) else plain_reading Server micros bytes) ≡ false
    by true true = refl
    by true false = segment_no_request t.block_size (block_segment_in bytes) _ (no_request (plain_reading Server micros bytes))
    by false abort = response_no_request (response_in bytes)

-- ---- the client's frames

none_sent : (stage : Stage) (direction : Direction) (protocol : Protocol) → (in_blocks stage ≡ true → direction ≡ Upload) → (direction ≡ Download → is_block protocol ≡ false)
    → (if may_have_segment stage direction protocol then is_sender direction Client else false) ≡ false
none_sent (SubBlock last) direction protocol up plain = ap (λ x. is_sender x Client) (up refl)
none_sent Initiated Download protocol up plain = ap (λ b. if b then true else false) (plain refl)
none_sent Initiated Upload protocol up plain = refl
none_sent _ direction protocol up plain = refl

no_segment : (t : Transfer) → Sound t → awaits_segment t Client ≡ false
no_segment t s = none_sent t.stage t.direction t.protocol (λ h. (s.blocks h).direction) s.plain

-- it is read as a request
pub client_reading : (current : Option Transfer) (micros : ℕ) (bytes : List ℕ) → IfSome current Sound → reading_of current Client micros bytes ≡ request_reading (request_in bytes) micros bytes
client_reading None micros bytes s = refl
client_reading (Some t) micros bytes s = rw (no_segment t s) refl

-- after a frame an earlier request may be answered, whether an answer was owed or not, whether the device had answered all or not, and
-- whatever left a doubt before
abbrev pub Leaves : Side → Followed → FrameContent → Type 0
Leaves side f frame = (owed quiet : Bool) (doubted : Option ℕ) → leaves_request_open owed quiet side doubted f.says frame ≡ true

-- so after a frame of the client that begins nothing; or the transfer is open
abbrev pub GoesOpen : Followed → FrameContent → Type 0
GoesOpen f frame = Leaves Client f frame ⊎ (is_some f.next.transfer ≡ true)

or_last : (a b : Bool) → b ≡ true → (a || b) ≡ true
or_last true b h = refl
or_last false b h = h

-- explain's protocol of blocks is compare's
pub same_block : (protocol : Protocol) → is_block protocol ≡ true → dialogues.is_block protocol ≡ true
same_block Block h = refl
same_block _ h = absurd (false≢true h)

-- a transfer that is left isn't aborted, nor is one that is confirmed
pub not_aborted_left : (t : Transfer) (bytes : List ℕ) → is_aborted (left_ending t bytes) ≡ false
not_aborted_left t bytes = by (segment_follows t bytes) (is_lost t) (is_same_request t bytes) t.by
  where
    by : (follows lost same : Bool) (side : Side) → is_aborted (if follows then NotFollowed (Some (number_of bytes)) else (if lost then NotFollowed None else (if same then Repeated else left_by side))) ≡ false
    by true lost same side = refl
    by false true same side = refl
    by false false true side = refl
    by false false false Client = refl
    by false false false Server = refl

not_aborted_crc : (computed : ℕ) (came : Option ℕ) → is_aborted (crc_verdict computed came) ≡ false
not_aborted_crc computed None = refl
not_aborted_crc computed (Some came) = by (came == computed)
  where
    by : (same : Bool) → is_aborted (if same then Done true else CrcDiffers came computed) ≡ false
    by true = refl
    by false = refl

pub not_aborted : (u : Transfer) (crc : Option ℕ) → is_aborted (verdict u crc) ≡ false
not_aborted u crc = by u.irregular (size_fault u.size u.taken.count)
  where
    by : (irregular : Bool) (size : Option ℕ) → is_aborted (if irregular then Irregular else size_verdict size (crc_verdict u.taken.crc crc)) ≡ false
    by true size = refl
    by false None = not_aborted_crc u.taken.crc crc
    by false (Some size) = refl

-- where the server doesn't confirm it
known_end : (owed quiet : Bool) (ending : Ending) (key : Key) (frame : FrameContent) → is_aborted ending ≡ false → is_known_end owed quiet false true ending key frame ≡ false
known_end owed quiet (Aborted side code) key frame h = absurd (false≢true (sym h))
known_end owed quiet (Done crc) key frame h = refl
known_end owed quiet _ key frame h = refl

-- the end of a block transfer by the client, without an abort
pub block_ends : (owed quiet : Bool) (doubted : Option ℕ) (x : Ended) (frame : FrameContent) → is_block x.protocol ≡ true → is_aborted x.ending ≡ false → ends_in_doubt owed quiet Client doubted (Some x) frame ≡ true
block_ends owed quiet doubted x frame block ending = ap (λ b. not (is_known_end owed quiet false b x.ending x.key frame)) (same_block x.protocol block) ∙ ap not (known_end owed quiet x.ending x.key frame ending)

-- its confirmation of a block upload
pub confirmed_in_doubt : (crc : Option ℕ) (heard : Bool) (w : What) (u : Transfer) (micros : ℕ) (frame : FrameContent) → is_block u.protocol ≡ true
    → Leaves Client (turns_at (Some crc) heard w u micros Client) frame
confirmed_in_doubt crc heard w u micros frame block owed quiet doubted =
    or_last (is_odd Client w) (ends_in_doubt owed quiet Client doubted (Some (ended (one_more u) micros (verdict u crc))) frame)
    (block_ends owed quiet doubted (ended (one_more u) micros (verdict u crc)) frame block (not_aborted u crc))

open_turn : (x : Option (Option ℕ)) (heard : Bool) (w : What) (u : Transfer) (micros : ℕ) (frame : FrameContent) (go : Bool) → continues w ≡ go → is_turned w ≡ true
    → (is_some x ≡ true → is_block u.protocol ≡ true) → GoesOpen (turns_at x heard w u micros Client) frame
open_turn x heard w u micros frame false c on ends = inl (odd x w c on)
  where
    odd : (x : Option (Option ℕ)) (w : What) → continues w ≡ false → is_turned w ≡ true → Leaves Client (turns_at x heard w u micros Client) frame
    odd None what.Initiate c on owed quiet doubted = absurd (false≢true on)
    odd None what.Part c on owed quiet doubted = absurd (false≢true (sym c))
    odd None (what.Segment n) c on owed quiet doubted = absurd (false≢true (sym c))
    odd None _ c on owed quiet doubted = refl
    odd (Some crc) what.Initiate c on owed quiet doubted = absurd (false≢true on)
    odd (Some crc) what.Part c on owed quiet doubted = absurd (false≢true (sym c))
    odd (Some crc) (what.Segment n) c on owed quiet doubted = absurd (false≢true (sym c))
    odd (Some crc) _ c on owed quiet doubted = refl
open_turn (Some crc) heard w u micros frame true c on ends = inl (confirmed_in_doubt crc heard w u micros frame (ends refl))
open_turn None heard w u micros frame true c on ends = inr refl

request_open : (heard : Bool) (t : Transfer) (request : SdoRequest) (micros : ℕ) (frame : FrameContent) → Sound t
    → GoesOpen (follows_by heard (Some t) (Request request) micros Client frame.bytes) frame
request_open heard t request micros frame s =
    let turn : Turn = request_turn t request frame.bytes in
    let h : Turned turn = turned t (Request request) frame.bytes s in
    let a : Asked (asks_for_blocks request) turn = asked t request frame.bytes s.unconfirmed in
    open_turn (confirmed_with turn.transfer.stage) heard turn.what (after t turn) micros frame (continues turn.what) refl h.what a.ends

stray_open : (heard : Bool) (reading : Reading) (micros : ℕ) (frame : FrameContent) → is_begin reading ≡ false → GoesOpen (follows_by heard None reading micros Client frame.bytes) frame
stray_open heard (Begin new) micros frame n = absurd (false≢true (sym n))
stray_open true _ micros frame n = inl (λ owed quiet doubted. refl)
stray_open false _ micros frame n = inl (λ owed quiet doubted. refl)

abort_open : (heard : Bool) (t : Transfer) (code : AbortCode) (micros : ℕ) (frame : FrameContent) → GoesOpen (follows_by heard (Some t) (Abort code) micros Client frame.bytes) frame
abort_open heard t code micros frame = inl (by (is_block t.protocol) (not_followed_by Client t frame.bytes))
  where
    by : (block : Bool) (segment : Option (Option ℕ)) (owed quiet : Bool) (doubted : Option ℕ) → not (is_known_end owed quiet false block (abort_ending Client segment code) t.key frame) ≡ true
    by block None owed quiet doubted = refl
    by block (Some next) owed quiet doubted = refl

nothing_open : (heard : Bool) (t : Transfer) (micros : ℕ) (frame : FrameContent) → Sound t → GoesOpen (follows_by heard (Some t) Nothing micros Client frame.bytes) frame
nothing_open heard t micros frame s = inl (by (confirmed_with t.stage))
  where
    by : (x : Option (Option ℕ)) → Leaves Client (turns_at x heard what.Unexpected (after t (turn_of t Nothing frame.bytes)) micros Client) frame
    by None owed quiet doubted = refl
    by (Some crc) owed quiet doubted = refl

-- what a request asks for
abbrev pub asks_in : Option SdoRequest → Bool
asks_in None = false
asks_in (Some request) = asks_for_blocks request

by_request : (heard : Bool) (current : Option Transfer) (request : SdoRequest) (micros : ℕ) (frame : FrameContent) → IfSome current Sound
    → GoesOpen (follows_by heard current (Request request) micros Client frame.bytes) frame
by_request heard None request micros frame s = stray_open heard (Request request) micros frame refl
by_request heard (Some t) request micros frame s = request_open heard t request micros frame s

by_nothing : (heard : Bool) (current : Option Transfer) (micros : ℕ) (frame : FrameContent) → IfSome current Sound → GoesOpen (follows_by heard current Nothing micros Client frame.bytes) frame
by_nothing heard None micros frame s = stray_open heard Nothing micros frame refl
by_nothing heard (Some t) micros frame s = nothing_open heard t micros frame s

by_abort : (heard : Bool) (current : Option Transfer) (code : AbortCode) (micros : ℕ) (frame : FrameContent) → GoesOpen (follows_by heard current (Abort code) micros Client frame.bytes) frame
by_abort heard None code micros frame = stray_open heard (Abort code) micros frame refl
by_abort heard (Some t) code micros frame = abort_open heard t code micros frame

pub client_open : (heard : Bool) (current : Option Transfer) (r : Option SdoRequest) (micros : ℕ) (frame : FrameContent) → IfSome current Sound → initiates r ≡ false
    → GoesOpen (follows_by heard current (request_reading r micros frame.bytes) micros Client frame.bytes) frame
client_open heard current None micros frame s n = by_nothing heard current micros frame s
client_open heard current (Some (Abandon key code)) micros frame s n = by_abort heard current code micros frame
client_open heard current (Some (DownloadSegment toggle segment last)) micros frame s n = by_request heard current (DownloadSegment toggle segment last) micros frame s
client_open heard current (Some (NextSegment toggle)) micros frame s n = by_request heard current (NextSegment toggle) micros frame s
client_open heard current (Some UploadEnd) micros frame s n = by_request heard current UploadEnd micros frame s
client_open heard current (Some (BlockUploadAcknowledge sequence size)) micros frame s n = by_request heard current (BlockUploadAcknowledge sequence size) micros frame s
client_open heard current (Some BlockUploadStart) micros frame s n = by_request heard current BlockUploadStart micros frame s
client_open heard current (Some (BlockDownloadEnd unused)) micros frame s n = by_request heard current (BlockDownloadEnd unused) micros frame s
client_open heard current (Some _) micros frame s n = absurd (false≢true (sym n))

pub no_begin : (r : Option SdoRequest) (micros : ℕ) (bytes : List ℕ) → initiates r ≡ false → is_begin (request_reading r micros bytes) ≡ false
no_begin None micros bytes n = refl
no_begin (Some (Abandon key code)) micros bytes n = refl
no_begin (Some (DownloadSegment toggle segment last)) micros bytes n = refl
no_begin (Some (NextSegment toggle)) micros bytes n = refl
no_begin (Some UploadEnd) micros bytes n = refl
no_begin (Some (BlockUploadAcknowledge sequence size)) micros bytes n = refl
no_begin (Some BlockUploadStart) micros bytes n = refl
no_begin (Some (BlockDownloadEnd unused)) micros bytes n = refl
no_begin (Some _) micros bytes n = absurd (false≢true (sym n))

-- ---- an initiate request

begun_sound : (t : Transfer) → t.stage ≡ Initiated → Plain t → Sound t
begun_sound t e p = record {
  unconfirmed = ap confirmed_with e;
  plain = p;
  blocks = λ h. absurd (false≢true (sym (ap in_blocks e) ∙ h));
}

upward : (x : Direction) (block : Bool) → x ≡ Upload → x ≡ Download → block ≡ false
upward x block up down = let no : Download ≡ Upload = sym down ∙ up in absurd (cc)

-- whatever transfer an initiate request begins, it is none in blocks that goes down
pub begins_sound : (on : Bool) (request : SdoRequest) (micros : ℕ) (bytes : List ℕ) → is_block_begin (Some request) ≡ false → IfSome (begun_on on request micros bytes) Sound
begins_sound on (DownloadExpedited key value) micros bytes n = begun_sound _ refl (λ down. refl)
begins_sound on (DownloadInitiate key size) micros bytes n = begun_sound _ refl (λ down. refl)
begins_sound on (UploadInitiate key) micros bytes n = begun_sound _ refl (λ down. refl)
begins_sound on (BlockUploadInitiate key size threshold) micros bytes n = begun_sound _ refl (upward _ true refl)
begins_sound on (BlockDownloadInitiate key size) micros bytes n = absurd (false≢true (sym n))
begins_sound on _ micros bytes n = tt

-- ---- the answer to an initiate request

turns_what : (x : Option (Option ℕ)) (heard : Bool) (w : What) (u : Transfer) (micros : ℕ) (side : Side) → (turns_at x heard w u micros side).says.what ≡ w
turns_what None heard w u micros side = refl
turns_what (Some crc) heard w u micros side = refl

-- where explain has this transfer, of whatever the channel answers
abbrev pub says_of : Bool → Transfer → ℕ → List ℕ → What
says_of heard t micros bytes = (reads (record { heard = heard; transfer = Some t }) micros Server bytes).says.what

part_by : (heard : Bool) (t : Transfer) (response : SdoResponse) (micros : ℕ) → response_reading (Some response) ≡ Response response → t.stage ≡ Initiated → response_in (response_bytes response) ≡ Some response
    → (response_turn t response (response_bytes response)).what ≡ what.Part → says_of heard t micros (response_bytes response) ≡ what.Part
part_by heard t response micros plain stage read part =
    ap (λ r. (follows_by heard (Some t) r micros Server (response_bytes response)).says.what) (response_is response t micros stage read ∙ plain)
    ∙ turns_what (confirmed_with (response_turn t response (response_bytes response)).transfer.stage) heard (response_turn t response (response_bytes response)).what (after t (response_turn t response (response_bytes response))) micros Server
    ∙ part

pub expedited_download : (heard on : Bool) (key : Key) (bytes : ArrayVec ℕ) (micros : ℕ) (frame : List ℕ) → key.index < 65536
    → says_of heard (went_on_as on (begun (record (initiate_of key Download Expedited) { bytes = bytes }) micros frame)) micros (response_bytes (DownloadDone key)) ≡ what.Part
expedited_download heard on key bytes micros frame small =
    part_by heard (went_on_as on (begun (record (initiate_of key Download Expedited) { bytes = bytes }) micros frame)) (DownloadDone key) micros refl refl (done_read key small) (rw (same_key-refl key) refl)

pub segmented_download : (heard on : Bool) (key : Key) (size : Option ℕ) (micros : ℕ) (frame : List ℕ) → key.index < 65536
    → says_of heard (went_on_as on (begun (record (initiate_of key Download Segmented) { size = size }) micros frame)) micros (response_bytes (DownloadDone key)) ≡ what.Part
segmented_download heard on key size micros frame small =
    part_by heard (went_on_as on (begun (record (initiate_of key Download Segmented) { size = size }) micros frame)) (DownloadDone key) micros refl refl (done_read key small) (rw (same_key-refl key) refl)

pub expedited_upload : (heard on : Bool) (key : Key) (value : List ℕ) (micros : ℕ) (frame : List ℕ) → key.index < 65536 → 1 ≤ length value → length value ≤ 4
    → says_of heard (went_on_as on (begun (initiate_of key Upload Undecided) micros frame)) micros (response_bytes (UploadExpedited key (Indicated (record { items = value })))) ≡ what.Part
expedited_upload heard on key value micros frame small some few =
    part_by heard (went_on_as on (begun (initiate_of key Upload Undecided) micros frame)) (UploadExpedited key (Indicated (record { items = value }))) micros refl refl (expedited_sent_read key value small some few) (rw (same_key-refl key) refl)

-- the size that is sent is read as its lowest four bytes
two_bytes : (x : ℕ) → x < 65536 → unsigned_of (low_bytes 2 x) ≡ x
two_bytes x h = omega arith

pub upload_read : (key : Key) (size : ℕ) → key.index < 65536 → response_in (response_bytes (UploadInitiated key (Some size))) ≡ Some (UploadInitiated key (Some (unsigned_of (low_bytes 4 size))))
unfolding response_row_in
upload_read key size small = rw (two_bytes key.index small) refl

block_upload_read : (key : Key) (size : ℕ) → key.index < 65536 → response_in (response_bytes (BlockUploadInitiated key (Some size))) ≡ Some (BlockUploadInitiated key (Some (unsigned_of (low_bytes 4 size))))
unfolding response_row_in
block_upload_read key size small = rw (two_bytes key.index small) refl

-- by what it is read as
part_read : (heard : Bool) (t : Transfer) (bytes : List ℕ) (response : SdoResponse) (micros : ℕ) → response_reading (Some response) ≡ Response response → t.stage ≡ Initiated → response_in bytes ≡ Some response
    → (response_turn t response bytes).what ≡ what.Part → says_of heard t micros bytes ≡ what.Part
part_read heard t bytes response micros plain stage read part =
    ap (λ r. (follows_by heard (Some t) r micros Server bytes).says.what) (first stage ∙ ap response_reading read ∙ plain)
    ∙ turns_what (confirmed_with (response_turn t response bytes).transfer.stage) heard (response_turn t response bytes).what (after t (response_turn t response bytes)) micros Server
    ∙ part
  where
    first : t.stage ≡ Initiated → reading_of (Some t) Server micros bytes ≡ response_reading (response_in bytes)
    first e = rw (none_of_server t.stage t.direction t.protocol (ap is_in_sub_block e)) refl

pub segmented_upload : (heard on : Bool) (key : Key) (size : ℕ) (micros : ℕ) (frame : List ℕ) → key.index < 65536
    → says_of heard (went_on_as on (begun (initiate_of key Upload Undecided) micros frame)) micros (response_bytes (UploadInitiated key (Some size))) ≡ what.Part
segmented_upload heard on key size micros frame small =
    part_read heard (went_on_as on (begun (initiate_of key Upload Undecided) micros frame)) (response_bytes (UploadInitiated key (Some size))) (UploadInitiated key (Some (unsigned_of (low_bytes 4 size)))) micros refl refl (upload_read key size small)
    (rw (same_key-refl key) refl)

pub block_upload : (heard on crc : Bool) (key : Key) (block_size size : ℕ) (micros : ℕ) (frame : List ℕ) → key.index < 65536
    → says_of heard (went_on_as on (begun (record (initiate_of key Upload Block) { crc = crc; block_size = block_size }) micros frame)) micros (response_bytes (BlockUploadInitiated key (Some size))) ≡ what.Part
block_upload heard on crc key block_size size micros frame small =
    part_read heard (went_on_as on (begun (record (initiate_of key Upload Block) { crc = crc; block_size = block_size }) micros frame)) (response_bytes (BlockUploadInitiated key (Some size))) (BlockUploadInitiated key (Some (unsigned_of (low_bytes 4 size)))) micros refl refl
    (block_upload_read key size small) (rw (same_key-refl key) refl)

pub block_download : (heard on crc : Bool) (key : Key) (size : Option ℕ) (block_size : ℕ) (micros : ℕ) (frame : List ℕ) → key.index < 65536
    → says_of heard (went_on_as on (begun (record (initiate_of key Download Block) { size = size; crc = crc; block_size = first_segment }) micros frame)) micros (response_bytes (BlockDownloadInitiated key block_size)) ≡ what.Part
block_download heard on crc key size block_size micros frame small =
    part_by heard (went_on_as on (begun (record (initiate_of key Download Block) { size = size; crc = crc; block_size = first_segment }) micros frame)) (BlockDownloadInitiated key block_size) micros refl refl (block_initiated_read key block_size small) (rw (same_key-refl key) refl)

-- an abort
abort_what : (heard : Bool) (t : Transfer) (reading : Reading) (micros : ℕ) (bytes : List ℕ) → is_abort_reading reading ≡ true → (follows_by heard (Some t) reading micros Server bytes).says.what ≡ what.Part
abort_what heard t (Abort code) micros bytes h = refl
abort_what heard t _ micros bytes h = absurd (false≢true h)

pub aborted_part : (heard : Bool) (t : Transfer) (key : Key) (code : ℕ) (micros : ℕ) → says_of heard t micros (response_bytes (Refuse key (record { 0 = code }))) ≡ what.Part
aborted_part heard t key code micros =
    abort_what heard t (reading_of (Some t) Server micros (response_bytes (Refuse key (record { 0 = code })))) micros (response_bytes (Refuse key (record { 0 = code }))) (abort_is (Some t) micros key code)
