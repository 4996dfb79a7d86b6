-- A request on the default channel of a device without block transfers, and its answers: nothing is found within the transfer.
use Rattle.std.proofs.Common.{◌≡◌, ℕ, ◌<◌, Bool, true, false, not, List, Option, Some, None, refl, sym, ap, ◌∙◌, ◌⊎◌, inl, inr}
use Rattle.std.specs.Prelude.{if◌then◌else◌, is_some, IfSome}
use Rattle.std.proofs.lemmas.Bool.{false≢true}
use Rattle.co_value.specs.declared.key.Key.{Key}
use Rattle.co_frame.specs.FrameContent.{FrameContent}
use Rattle.co_frame.specs.declared.sdo_request.SdoRequest.{SdoRequest}
use Rattle.co_frame.specs.declared.sdo_request.SdoRequest.TheVariants.{DownloadExpedited, DownloadInitiate, DownloadSegment, Upload as UploadInitiate, UploadSegment as NextSegment, Abort as Abandon, BlockUploadInitiate, BlockUploadEnd as UploadEnd, BlockUploadAcknowledge, BlockUploadStart, BlockDownloadInitiate, BlockDownloadEnd}
use Rattle.co_frame_aborts.specs.declared.abort_code.AbortCode.{AbortCode}
use Rattle.co_sdo.specs.OpenTransfers.{is_initiate as initiates}
use Rattle.conode_explain_transfers.specs.declared.kinds.Side.{Side}
use Rattle.conode_explain_transfers.specs.declared.kinds.Side.TheVariants.{Client}
use Rattle.conode_explain_transfers.specs.declared.kinds.What.{What}
use Rattle.conode_explain_transfers.specs.declared.kinds.What.TheVariants as what
use Rattle.conode_explain_transfers.specs.declared.stage.Stage.{Stage}
use Rattle.conode_explain_transfers.specs.declared.stage.Stage.TheVariants.{DownloadSent, UploadAsked, SubBlock, BlockInitiated, AllAcknowledged}
use Rattle.conode_explain_transfers.specs.declared.transfer.Transfer.{Transfer}
use Rattle.conode_explain_transfers.specs.BlockTurns.{acknowledged, acknowledged_at, block_ended, block_ended_at, crc_in, end_confirmed, end_confirmed_at, is_block, upload_started_at}
use Rattle.conode_explain_transfers.specs.Followed.{abort_ending, turns_at, with_frame}
use Rattle.conode_explain_transfers.specs.Readings.{is_in_sub_block}
use Rattle.conode_explain_transfers.specs.Stages.{confirmed_with}
use Rattle.conode_explain_transfers.specs.Transfers.{Turn, after, is_download, unexpected}
use Rattle.conode_explain_transfers.specs.Turns.{request_turn}
use Rattle.conode_explain_transfers.specs.Unanswered.{not_followed_by}
use Rattle.conode_explain_laws.proofs.Readings.{Reading, Segment, Begin, Abort, Request, Response, Nothing, follows_by, request_reading, turn_of}
use Rattle.conode_explain_laws.proofs.Views.{is_begin}
use Rattle.conode_compare_transfers.specs.Dialogues.{continues, is_known_end}
use Rattle.conode_compare_laws.proofs.AnswerTurns.{Sound, in_blocks, is_turned, turned}
use Rattle.conode_compare_laws.proofs.AnswerKeys.{Kept, asked_next, kept, sent_next}
use Rattle.conode_compare_laws.proofs.AnswerFollowed.{Leaves, goes_on, no_begin}

-- ---- a transfer of an entry that isn't in blocks

pub record Shape (key : Key) (t : Transfer) : Type 0 where
  pub sound : Sound t
  pub block : is_block t.protocol ≡ false
  pub of : t.key ≡ key
  pub small : key.index < 65536

pub outside_blocks : (key : Key) (t : Transfer) → Shape key t → in_blocks t.stage ≡ false
outside_blocks key t s = by (in_blocks t.stage) refl
  where
    by : (b : Bool) → in_blocks t.stage ≡ b → b ≡ false
    by true is = absurd (false≢true (sym s.block ∙ (s.sound.blocks is).protocol))
    by false is = refl

inside_blocks : (stage : Stage) → in_blocks stage ≡ false → is_in_sub_block stage ≡ false
inside_blocks (SubBlock last) h = absurd (false≢true (sym h))
inside_blocks _ h = refl

pub outside_sub_block : (key : Key) (t : Transfer) → Shape key t → is_in_sub_block t.stage ≡ false
outside_sub_block key t s = inside_blocks t.stage (outside_blocks key t s)

-- with a frame that begins nothing it is of the same entry
abbrev OfSame : Key → Transfer → Type 0
OfSame key u = (is_block u.protocol ≡ false) × (u.key ≡ key) × (key.index < 65536)

frame_same : (key : Key) (w : What) (u : Transfer) (micros : ℕ) (side : Side) → OfSame key u → OfSame key (with_frame w u micros side)
frame_same key what.Overtaken u micros side h = h
frame_same key _ u micros side h = h

turn_same : (key : Key) (x : Option (Option ℕ)) (heard : Bool) (w : What) (u : Transfer) (micros : ℕ) (side : Side) → OfSame key u → IfSome (turns_at x heard w u micros side).next.transfer (OfSame key)
turn_same key (Some crc) heard w u micros side h = tt
turn_same key None heard w u micros side h = frame_same key w u micros side h

by_turn : (key : Key) (heard : Bool) (t : Transfer) (reading : Reading) (micros : ℕ) (side : Side) (bytes : List ℕ) → Shape key t
    → IfSome (turns_at (confirmed_with (turn_of t reading bytes).transfer.stage) heard (turn_of t reading bytes).what (after t (turn_of t reading bytes)) micros side).next.transfer (OfSame key)
by_turn key heard t reading micros side bytes s =
    let k : Kept t (turn_of t reading bytes).transfer = kept t reading bytes in
    turn_same key (confirmed_with (turn_of t reading bytes).transfer.stage) heard (turn_of t reading bytes).what (after t (turn_of t reading bytes)) micros side (k.protocol s.block, k.key ∙ s.of, s.small)

stray_same : (key : Key) (heard : Bool) (reading : Reading) (micros : ℕ) (side : Side) (bytes : List ℕ) → is_begin reading ≡ false → IfSome (follows_by heard None reading micros side bytes).next.transfer (OfSame key)
stray_same key heard (Begin new) micros side bytes n = absurd (false≢true (sym n))
stray_same key heard _ micros side bytes n = tt

goes_same : (key : Key) (heard : Bool) (current : Option Transfer) (reading : Reading) (micros : ℕ) (side : Side) (bytes : List ℕ) → IfSome current (Shape key) → is_begin reading ≡ false
    → IfSome (follows_by heard current reading micros side bytes).next.transfer (OfSame key)
goes_same key heard None reading micros side bytes s n = stray_same key heard reading micros side bytes n
goes_same key heard (Some t) (Begin new) micros side bytes s n = absurd (false≢true (sym n))
goes_same key heard (Some t) (Abort code) micros side bytes s n = tt
goes_same key heard (Some t) (Segment segment) micros side bytes s n = by_turn key heard t (Segment segment) micros side bytes s
goes_same key heard (Some t) (Request request) micros side bytes s n = by_turn key heard t (Request request) micros side bytes s
goes_same key heard (Some t) (Response response) micros side bytes s n = by_turn key heard t (Response response) micros side bytes s
goes_same key heard (Some t) Nothing micros side bytes s n = by_turn key heard t Nothing micros side bytes s

both_some : (key : Key) (o : Option Transfer) → IfSome o Sound → IfSome o (OfSame key) → IfSome o (Shape key)
both_some key None s h = tt
both_some key (Some t) s h = record { sound = s; block = h.0; of = h.1; small = h.2 }

sound_of : (key : Key) (o : Option Transfer) → IfSome o (Shape key) → IfSome o Sound
sound_of key None s = tt
sound_of key (Some t) s = s.sound

pub shape_goes : (key : Key) (heard : Bool) (current : Option Transfer) (reading : Reading) (micros : ℕ) (side : Side) (bytes : List ℕ) → IfSome current (Shape key) → is_begin reading ≡ false
    → IfSome (follows_by heard current reading micros side bytes).next.transfer (Shape key)
shape_goes key heard current reading micros side bytes s n =
    both_some key _ (goes_on heard current reading micros side bytes (sound_of key current s) n).sound (goes_same key heard current reading micros side bytes s n)

-- ---- after a frame of the client that begins nothing: it leaves a doubt, or a segment is awaited

abbrev pub StandsFor : Option SdoRequest → Transfer → Type 0
StandsFor (Some (DownloadSegment toggle segment last)) t = t.stage ≡ DownloadSent toggle last
StandsFor (Some (NextSegment toggle)) t = t.stage ≡ UploadAsked toggle
StandsFor _ t = ⊥

abbrev pub StandsIn : Option SdoRequest → Option Transfer → Type 0
StandsIn r None = ⊥
StandsIn r (Some t) = StandsFor r t

frame_stands : (r : Option SdoRequest) (w : What) (u : Transfer) (micros : ℕ) (side : Side) → StandsFor r u → StandsFor r (with_frame w u micros side)
frame_stands (Some (DownloadSegment toggle segment last)) what.Overtaken u micros side h = h
frame_stands (Some (DownloadSegment toggle segment last)) _ u micros side h = h
frame_stands (Some (NextSegment toggle)) what.Overtaken u micros side h = h
frame_stands (Some (NextSegment toggle)) _ u micros side h = h
frame_stands _ w u micros side h = absurd h

odd_frame : (x : Option (Option ℕ)) (heard : Bool) (w : What) (u : Transfer) (micros : ℕ) (frame : FrameContent) → continues w ≡ false → is_turned w ≡ true → Leaves Client (turns_at x heard w u micros Client) frame
odd_frame None heard what.Initiate u micros frame c on owed quiet doubted = absurd (false≢true on)
odd_frame None heard what.Part u micros frame c on owed quiet doubted = absurd (false≢true (sym c))
odd_frame None heard (what.Segment n) u micros frame c on owed quiet doubted = absurd (false≢true (sym c))
odd_frame None heard _ u micros frame c on owed quiet doubted = refl
odd_frame (Some crc) heard what.Initiate u micros frame c on owed quiet doubted = absurd (false≢true on)
odd_frame (Some crc) heard what.Part u micros frame c on owed quiet doubted = absurd (false≢true (sym c))
odd_frame (Some crc) heard (what.Segment n) u micros frame c on owed quiet doubted = absurd (false≢true (sym c))
odd_frame (Some crc) heard _ u micros frame c on owed quiet doubted = refl

some_confirmed : (x : Option (Option ℕ)) → x ≡ None → is_some x ≡ false
some_confirmed x e = ap is_some e

-- by whether it goes on
stands_by : (r : Option SdoRequest) (x : Option (Option ℕ)) (heard : Bool) (w : What) (u : Transfer) (micros : ℕ) (frame : FrameContent) (go : Bool) → continues w ≡ go → is_turned w ≡ true
    → (go ≡ true → (x ≡ None) × StandsFor r u) → Leaves Client (turns_at x heard w u micros Client) frame ⊎ StandsIn r (turns_at x heard w u micros Client).next.transfer
stands_by r x heard w u micros frame false c on h = inl (odd_frame x heard w u micros frame c on)
stands_by r None heard w u micros frame true c on h = inr (frame_stands r w u micros Client (h refl).1)
stands_by r (Some crc) heard w u micros frame true c on h = absurd (false≢true (sym (some_confirmed (Some crc) (h refl).0)))

request_stands : (key : Key) (heard : Bool) (t : Transfer) (request : SdoRequest) (micros : ℕ) (frame : FrameContent) → Shape key t
    → (continues (request_turn t request frame.bytes).what ≡ true → (confirmed_with (request_turn t request frame.bytes).transfer.stage ≡ None) × StandsFor (Some request) (request_turn t request frame.bytes).transfer)
    → Leaves Client (follows_by heard (Some t) (Request request) micros Client frame.bytes) frame ⊎ StandsIn (Some request) (follows_by heard (Some t) (Request request) micros Client frame.bytes).next.transfer
request_stands key heard t request micros frame s h =
    let turn : Turn = request_turn t request frame.bytes in
    stands_by (Some request) (confirmed_with turn.transfer.stage) heard turn.what (after t turn) micros frame (continues turn.what) refl (turned t (Request request) frame.bytes s.sound).what
    (λ go. let n = h go in (n.0, after_stands (Some request) t turn n.1))
  where
    after_stands : (r : Option SdoRequest) (t : Transfer) (turn : Turn) → StandsFor r turn.transfer → StandsFor r (after t turn)
    after_stands (Some (DownloadSegment toggle segment last)) t turn e = e
    after_stands (Some (NextSegment toggle)) t turn e = e
    after_stands _ t turn e = absurd e

-- requests of block transfers don't go on with it
started_off : (stage : Stage) (t : Transfer) → in_blocks stage ≡ false → continues (upload_started_at stage t).what ≡ false
started_off BlockInitiated t h = absurd (false≢true (sym h))
started_off _ t h = refl

acknowledged_off : (stage : Stage) (t : Transfer) (sequence size : ℕ) → in_blocks stage ≡ false → continues (acknowledged_at stage t sequence size).what ≡ false
acknowledged_off (SubBlock last) t sequence size h = absurd (false≢true (sym h))
acknowledged_off _ t sequence size h = refl

by_receiver_off : (by : Bool) (t : Transfer) (sequence size : ℕ) → in_blocks t.stage ≡ false → continues (acknowledged by t sequence size).what ≡ false
by_receiver_off true t sequence size h = acknowledged_off t.stage t sequence size h
by_receiver_off false t sequence size h = refl

ended_off : (stage : Stage) (t : Transfer) (unused crc : ℕ) → in_blocks stage ≡ false → continues (block_ended_at stage t unused crc).what ≡ false
ended_off AllAcknowledged t unused crc h = absurd (false≢true (sym h))
ended_off _ t unused crc h = refl

by_sender_off : (by : Bool) (t : Transfer) (unused crc : ℕ) → in_blocks t.stage ≡ false → continues (block_ended by t unused crc).what ≡ false
by_sender_off true t unused crc h = ended_off t.stage t unused crc h
by_sender_off false t unused crc h = refl

end_off : (by block : Bool) (t : Transfer) → block ≡ false → continues (if block then end_confirmed_at t.stage t else unexpected t).what ≡ false
end_off by true t h = absurd (false≢true (sym h))
end_off by false t h = refl

end_by : (by : Bool) (t : Transfer) → is_block t.protocol ≡ false → continues (end_confirmed by t).what ≡ false
end_by true t h = end_off true (is_block t.protocol) t h
end_by false t h = refl

never : {A : Type 0} (b : Bool) → b ≡ false → b ≡ true → A
never b off on = absurd (false≢true (sym off ∙ on))

goes_on_stands : (key : Key) (heard : Bool) (t : Transfer) (request : SdoRequest) (micros : ℕ) (frame : FrameContent) → Shape key t
    → Leaves Client (follows_by heard (Some t) (Request request) micros Client frame.bytes) frame ⊎ StandsIn (Some request) (follows_by heard (Some t) (Request request) micros Client frame.bytes).next.transfer
goes_on_stands key heard t (DownloadSegment toggle segment last) micros frame s =
    request_stands key heard t (DownloadSegment toggle segment last) micros frame s (λ go. let e = sent_next t.stage t toggle segment last go in (ap confirmed_with e, e))
goes_on_stands key heard t (NextSegment toggle) micros frame s =
    request_stands key heard t (NextSegment toggle) micros frame s (λ go. let e = asked_next t.stage t toggle go in (ap confirmed_with e, e))
goes_on_stands key heard t BlockUploadStart micros frame s = request_stands key heard t BlockUploadStart micros frame s (λ go. never _ (started_off t.stage t (outside_blocks key t s)) go)
goes_on_stands key heard t (BlockUploadAcknowledge sequence size) micros frame s =
    request_stands key heard t (BlockUploadAcknowledge sequence size) micros frame s (λ go. never _ (by_receiver_off (not (is_download t.direction)) t sequence size (outside_blocks key t s)) go)
goes_on_stands key heard t UploadEnd micros frame s = request_stands key heard t UploadEnd micros frame s (λ go. never _ (end_by (not (is_download t.direction)) t s.block) go)
goes_on_stands key heard t (BlockDownloadEnd unused) micros frame s =
    request_stands key heard t (BlockDownloadEnd unused) micros frame s (λ go. never _ (by_sender_off (is_download t.direction) t unused (crc_in frame.bytes) (outside_blocks key t s)) go)
goes_on_stands key heard t (DownloadExpedited k value) micros frame s = request_stands key heard t (DownloadExpedited k value) micros frame s (λ go. never _ refl go)
goes_on_stands key heard t (DownloadInitiate k size) micros frame s = request_stands key heard t (DownloadInitiate k size) micros frame s (λ go. never _ refl go)
goes_on_stands key heard t (UploadInitiate k) micros frame s = request_stands key heard t (UploadInitiate k) micros frame s (λ go. never _ refl go)
goes_on_stands key heard t (Abandon k code) micros frame s = request_stands key heard t (Abandon k code) micros frame s (λ go. never _ refl go)
goes_on_stands key heard t (BlockUploadInitiate k size threshold) micros frame s = request_stands key heard t (BlockUploadInitiate k size threshold) micros frame s (λ go. never _ refl go)
goes_on_stands key heard t (BlockDownloadInitiate k size) micros frame s = request_stands key heard t (BlockDownloadInitiate k size) micros frame s (λ go. never _ refl go)

-- whatever it is
stray_leaves : (heard : Bool) (reading : Reading) (micros : ℕ) (frame : FrameContent) → is_begin reading ≡ false → Leaves Client (follows_by heard None reading micros Client frame.bytes) frame
stray_leaves heard (Begin new) micros frame n owed quiet doubted = absurd (false≢true (sym n))
stray_leaves true _ micros frame n owed quiet doubted = refl
stray_leaves false _ micros frame n owed quiet doubted = refl

abort_leaves : (heard : Bool) (t : Transfer) (code : AbortCode) (micros : ℕ) (frame : FrameContent) → Leaves Client (follows_by heard (Some t) (Abort code) micros Client frame.bytes) frame
abort_leaves heard t code micros frame = by (is_block t.protocol) (not_followed_by Client t frame.bytes)
  where
    by : (block : Bool) (segment : Option (Option ℕ)) (owed quiet : Bool) (doubted : Option ℕ) → not (is_known_end owed quiet false block (abort_ending Client segment code) t.key frame) ≡ true
    by block None owed quiet doubted = refl
    by block (Some next) owed quiet doubted = refl

pub later_stands : (key : Key) (heard : Bool) (current : Option Transfer) (r : Option SdoRequest) (micros : ℕ) (frame : FrameContent) → IfSome current (Shape key) → initiates r ≡ false
    → Leaves Client (follows_by heard current (request_reading r micros frame.bytes) micros Client frame.bytes) frame
    ⊎ StandsIn r (follows_by heard current (request_reading r micros frame.bytes) micros Client frame.bytes).next.transfer
later_stands key heard None r micros frame s n = inl (stray_leaves heard (request_reading r micros frame.bytes) micros frame (no_begin r micros frame.bytes n))
later_stands key heard (Some t) None micros frame s n = inl (odd_frame (confirmed_with t.stage) heard what.Unexpected (after t (turn_of t Nothing frame.bytes)) micros frame refl refl)
later_stands key heard (Some t) (Some (Abandon k code)) micros frame s n = inl (abort_leaves heard t code micros frame)
later_stands key heard (Some t) (Some (DownloadSegment toggle segment last)) micros frame s n = goes_on_stands key heard t (DownloadSegment toggle segment last) micros frame s
later_stands key heard (Some t) (Some (NextSegment toggle)) micros frame s n = goes_on_stands key heard t (NextSegment toggle) micros frame s
later_stands key heard (Some t) (Some UploadEnd) micros frame s n = goes_on_stands key heard t UploadEnd micros frame s
later_stands key heard (Some t) (Some (BlockUploadAcknowledge sequence size)) micros frame s n = goes_on_stands key heard t (BlockUploadAcknowledge sequence size) micros frame s
later_stands key heard (Some t) (Some BlockUploadStart) micros frame s n = goes_on_stands key heard t BlockUploadStart micros frame s
later_stands key heard (Some t) (Some (BlockDownloadEnd unused)) micros frame s n = goes_on_stands key heard t (BlockDownloadEnd unused) micros frame s
later_stands key heard (Some t) (Some _) micros frame s n = absurd (false≢true (sym n))
