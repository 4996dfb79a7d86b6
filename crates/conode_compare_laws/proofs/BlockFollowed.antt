-- What explain says of a frame on the channel, and the transfer that is open then, of whatever kind: inside a sub-block of a download
-- explain reads a frame of the client as a segment.
use Rattle.std.proofs.Common.{◌≡◌, ℕ, Bool, true, false, not, List, Option, Some, None, refl, sym, ap, ◌∙◌, ◌⊎◌, inl, inr}
use Rattle.std.specs.Prelude.{◌||◌, if◌then◌else◌, is_some, IfSome, nat_le}
use Rattle.std.proofs.lemmas.Bool.{false≢true}
use Rattle.co_value.specs.declared.key.Key.{Key}
use Rattle.co_frame.specs.FrameContent.{FrameContent}
use Rattle.co_frame.specs.BlockSegments.{block_segment_in, is_abort_in_sub_block}
use Rattle.co_frame.specs.SdoParts.{code_in}
use Rattle.co_frame.specs.SdoRequests.{request_in}
use Rattle.co_frame_aborts.specs.declared.abort_code.AbortCode.{AbortCode}
use Rattle.co_frame.specs.declared.block_segment.BlockSegment.{BlockSegment}
use Rattle.co_frame.specs.declared.sdo_request.SdoRequest.{SdoRequest}
use Rattle.co_frame.specs.declared.sdo_request.SdoRequest.TheVariants.{DownloadSegment, UploadSegment as NextSegment, Abort as Abandon, BlockUploadEnd as UploadEnd, BlockUploadAcknowledge, BlockUploadStart, BlockDownloadEnd}
use Rattle.conode_explain_transfers.specs.declared.ended.Ending.{Ending}
use Rattle.conode_explain_transfers.specs.declared.ended.Ending.TheVariants.{Irregular}
use Rattle.conode_explain_transfers.specs.declared.kinds.Side.{Side}
use Rattle.conode_explain_transfers.specs.declared.kinds.Side.TheVariants.{Client, Server}
use Rattle.conode_explain_transfers.specs.declared.kinds.What.{What}
use Rattle.conode_explain_transfers.specs.declared.kinds.What.TheVariants as what
use Rattle.conode_explain_transfers.specs.declared.transfer.Transfer.{Transfer}
use Rattle.conode_explain_transfers.specs.BlockTurns.{block_segment, is_block}
use Rattle.conode_explain_transfers.specs.Endings.{crc_verdict, ended, size_fault, size_verdict, verdict}
use Rattle.conode_explain_transfers.specs.Followed.{Followed, Following, abort_ending, one_more, turns_at, with_frame}
use Rattle.conode_explain_transfers.specs.Readings.{awaits_segment}
use Rattle.conode_explain_transfers.specs.Stages.{confirmed_with}
use Rattle.conode_explain_transfers.specs.Transfers.{Turn, after, is_download}
use Rattle.conode_explain_transfers.specs.Turns.{request_turn}
use Rattle.conode_explain_transfers.specs.Unanswered.{not_followed_by}
use Rattle.conode_explain_laws.proofs.Readings.{Reading, Segment, Begin, Abort, Request, Response, Nothing, request_reading, plain_reading, beginning, segment_reading, sub_block_reading, reading_of, turn_of, follows_by}
use Rattle.conode_explain_laws.proofs.Views.{is_begin, server_no_begin}
use Rattle.conode_compare_transfers.specs.Dialogues as dialogues
use Rattle.conode_compare_transfers.specs.Dialogues.{confirms_all, continues, ends_in_doubt, is_initiate, is_known_end, is_odd, leaves_request_open}
use Rattle.conode_compare_laws.proofs.AnswerTurns.{Asked, asked, asks_for_blocks, in_blocks, is_ended, is_request, is_turned}
use Rattle.conode_compare_laws.proofs.AnswerFollowed.{Leaves, asks_in, confirmed_in_doubt, reads, same_block, server_no_request}
use Rattle.conode_compare_laws.proofs.BlockTurns.{Blocks, IsUnended, Lasts, LastsIn, Live, Turned, and_none, lasts, segment_lasts, turned}

-- ---- a frame that begins nothing

pub record GoesOn (current : Option Transfer) (f : Followed) : Type 0 where
  pub live : IfSome f.next.transfer Live
  pub what : is_initiate f.says.what ≡ false
  pub turned : is_some current ≡ true → is_turned f.says.what ≡ true

no_initiate : (w : What) → is_turned w ≡ true → is_initiate w ≡ false
no_initiate what.Initiate h = absurd (false≢true h)
no_initiate _ h = refl

live_frame : (w : What) (u : Transfer) (micros : ℕ) (side : Side) → Live u → Live (with_frame w u micros side)
live_frame what.Overtaken u micros side s = s
live_frame _ u micros side s = record { unconfirmed = s.unconfirmed; blocks = s.blocks }

turn_goes : (x : Option (Option ℕ)) (heard : Bool) (w : What) (u : Transfer) (micros : ℕ) (side : Side) (current : Option Transfer) → confirmed_with u.stage ≡ x → Blocks u → is_turned w ≡ true
    → GoesOn current (turns_at x heard w u micros side)
turn_goes (Some crc) heard w u micros side current e b on = record { live = tt; what = no_initiate w on; turned = λ h. on }
turn_goes None heard w u micros side current e b on = record {
  live = live_frame w u micros side (record { unconfirmed = e; blocks = b });
  what = no_initiate w on;
  turned = λ h. on;
}

by_turn : (heard : Bool) (t : Transfer) (reading : Reading) (micros : ℕ) (side : Side) (bytes : List ℕ) → Live t
    → GoesOn (Some t) (turns_at (confirmed_with (turn_of t reading bytes).transfer.stage) heard (turn_of t reading bytes).what (after t (turn_of t reading bytes)) micros side)
by_turn heard t reading micros side bytes s =
    let h : Turned (turn_of t reading bytes) = turned t reading bytes s in
    turn_goes (confirmed_with (turn_of t reading bytes).transfer.stage) heard (turn_of t reading bytes).what (after t (turn_of t reading bytes)) micros side (Some t) refl
    h.blocks h.what

strays : (heard : Bool) (reading : Reading) (micros : ℕ) (side : Side) (bytes : List ℕ) → is_begin reading ≡ false → GoesOn None (follows_by heard None reading micros side bytes)
strays heard (Begin t) micros side bytes n = absurd (false≢true (sym n))
strays true _ micros side bytes n = record { live = tt; what = refl; turned = λ h. absurd (false≢true h) }
strays false _ micros side bytes n = record { live = tt; what = refl; turned = λ h. absurd (false≢true h) }

pub goes_on : (heard : Bool) (current : Option Transfer) (reading : Reading) (micros : ℕ) (side : Side) (bytes : List ℕ) → IfSome current Live → is_begin reading ≡ false
    → GoesOn current (follows_by heard current reading micros side bytes)
goes_on heard None reading micros side bytes s n = strays heard reading micros side bytes n
goes_on heard (Some t) (Begin new) micros side bytes s n = absurd (false≢true (sym n))
goes_on heard (Some t) (Abort code) micros side bytes s n = record { live = tt; what = refl; turned = λ h. refl }
goes_on heard (Some t) (Segment segment) micros side bytes s n = by_turn heard t (Segment segment) micros side bytes s
goes_on heard (Some t) (Request request) micros side bytes s n = by_turn heard t (Request request) micros side bytes s
goes_on heard (Some t) (Response response) micros side bytes s n = by_turn heard t (Response response) micros side bytes s
goes_on heard (Some t) Nothing micros side bytes s n = by_turn heard t Nothing micros side bytes s

pub server_goes : (following : Following) (micros : ℕ) (bytes : List ℕ) → IfSome following.transfer Live → GoesOn following.transfer (reads following micros Server bytes)
server_goes following micros bytes s =
    goes_on following.heard following.transfer (reading_of following.transfer Server micros bytes) micros Server bytes s (server_no_begin following.transfer micros bytes)

-- ---- the end of a block transfer leaves a doubt

pub or_last : (a b : Bool) → b ≡ true → (a || b) ≡ true
or_last true b h = refl
or_last false b h = h

-- where no answer is owed, an abort too
not_owed : (quiet confirmed : Bool) (side : Side) (segment : Option (Option ℕ)) (code : AbortCode) (key : Key) (frame : FrameContent)
    → is_known_end false quiet confirmed true (abort_ending side segment code) key frame ≡ false
not_owed quiet confirmed Server None code key frame = refl
not_owed quiet confirmed Client None code key frame = refl
not_owed quiet confirmed side (Some next) code key frame = refl

aborted_in_doubt : (heard : Bool) (t : Transfer) (code : AbortCode) (micros : ℕ) (side : Side) (frame : FrameContent) → is_block t.protocol ≡ true
    → (quiet : Bool) (doubted : Option ℕ) → leaves_request_open false quiet side doubted (follows_by heard (Some t) (Abort code) micros side frame.bytes).says frame ≡ true
aborted_in_doubt heard t code micros side frame p quiet doubted =
    let segment : Option (Option ℕ) = not_followed_by side t frame.bytes in
    let ending : Ending = abort_ending side segment code in
    let confirmed : Bool = confirms_all side doubted t.begun in
    or_last (is_odd side what.Part) (ends_in_doubt false quiet side doubted (Some (ended (one_more t) micros ending)) frame)
    (ap (λ b. not (is_known_end false quiet confirmed b ending t.key frame)) (same_block t.protocol p) ∙ ap not (not_owed quiet confirmed side segment code t.key frame))

-- the server's confirmation of a download too, where frames are missing
irregular_in_doubt : (crc : Option ℕ) (heard : Bool) (w : What) (u : Transfer) (micros : ℕ) (frame : FrameContent) → u.irregular ≡ true
    → (quiet : Bool) (doubted : Option ℕ) → leaves_request_open false quiet Server doubted (turns_at (Some crc) heard w u micros Server).says frame ≡ true
irregular_in_doubt crc heard w u micros frame h quiet doubted =
    or_last (is_odd Server w) (ends_in_doubt false quiet Server doubted (Some (ended (one_more u) micros (verdict u crc))) frame)
    (ap (λ (ending : Ending). not (is_known_end false quiet (confirms_all Server doubted u.begun) (dialogues.is_block u.protocol) ending u.key frame))
    (ap (λ b. if b then Irregular else size_verdict (size_fault u.size u.taken.count) (crc_verdict u.taken.crc crc)) h))

-- ---- the server's frames in blocks, after which no answer is owed: the transfer lasts, or its end leaves a doubt

pub record LastsOn (f : Followed) (frame : FrameContent) : Type 0 where
  pub lasts : ((quiet : Bool) (doubted : Option ℕ) → leaves_request_open false quiet Server doubted f.says frame ≡ true) ⊎ (is_some f.next.transfer ≡ true)
  pub blocks : IfSome f.next.transfer Lasts

lasts_frame : (w : What) (u : Transfer) (micros : ℕ) (side : Side) → Lasts u → Lasts (with_frame w u micros side)
lasts_frame what.Overtaken u micros side l = l
lasts_frame _ u micros side l = record { stage = l.stage; block = l.block; unended = l.unended }

turn_lasts : (x : Option (Option ℕ)) (heard : Bool) (w : What) (u : Transfer) (micros : ℕ) (frame : FrameContent) → is_block u.protocol ≡ true → (x ≡ None → in_blocks u.stage ≡ true)
    → (x ≡ None → IsUnended u) → (is_some x ≡ true → u.irregular ≡ true) → LastsOn (turns_at x heard w u micros Server) frame
turn_lasts (Some crc) heard w u micros frame p i n r = record { lasts = inl (irregular_in_doubt crc heard w u micros frame (r refl)); blocks = tt }
turn_lasts None heard w u micros frame p i n r = record { lasts = inr refl; blocks = lasts_frame w u micros Server (record { stage = i refl; block = p; unended = n refl }) }

by_block_turn : (heard : Bool) (t : Transfer) (reading : Reading) (micros : ℕ) (frame : FrameContent) → is_request reading ≡ false → Lasts t
    → LastsOn (turns_at (confirmed_with (turn_of t reading frame.bytes).transfer.stage) heard (turn_of t reading frame.bytes).what (after t (turn_of t reading frame.bytes)) micros Server) frame
by_block_turn heard t reading micros frame n l =
    let h : LastsIn (turn_of t reading frame.bytes) = lasts t reading frame.bytes n l in
    turn_lasts (confirmed_with (turn_of t reading frame.bytes).transfer.stage) heard (turn_of t reading frame.bytes).what (after t (turn_of t reading frame.bytes)) micros frame h.block h.stage
    h.unended h.irregular

lasts_by : (heard : Bool) (t : Transfer) (reading : Reading) (micros : ℕ) (frame : FrameContent) → is_begin reading ≡ false → is_request reading ≡ false → Lasts t
    → LastsOn (follows_by heard (Some t) reading micros Server frame.bytes) frame
lasts_by heard t (Begin new) micros frame n r l = absurd (false≢true (sym n))
lasts_by heard t (Abort code) micros frame n r l = record { lasts = inl (aborted_in_doubt heard t code micros Server frame l.block); blocks = tt }
lasts_by heard t (Segment segment) micros frame n r l = by_block_turn heard t (Segment segment) micros frame r l
lasts_by heard t (Request request) micros frame n r l = absurd (false≢true (sym r))
lasts_by heard t (Response response) micros frame n r l = by_block_turn heard t (Response response) micros frame r l
lasts_by heard t Nothing micros frame n r l = by_block_turn heard t Nothing micros frame r l

pub server_lasts : (heard : Bool) (t : Transfer) (micros : ℕ) (frame : FrameContent) → Lasts t → LastsOn (reads (record { heard = heard; transfer = Some t }) micros Server frame.bytes) frame
server_lasts heard t micros frame l =
    lasts_by heard t (reading_of (Some t) Server micros frame.bytes) micros frame (server_no_begin (Some t) micros frame.bytes) (server_no_request (Some t) micros frame.bytes) l

-- ---- the client's frames that begin nothing

-- an earlier request may be answered; or the transfer is open, and in blocks where segments are asked for
pub record GoesOpen (blocks : Bool) (f : Followed) (frame : FrameContent) : Type 0 where
  pub live : Leaves Client f frame ⊎ (is_some f.next.transfer ≡ true)
  pub lasting : blocks ≡ true → Leaves Client f frame ⊎ IfSome f.next.transfer Lasts

doubted : (blocks : Bool) (f : Followed) (frame : FrameContent) → Leaves Client f frame → GoesOpen blocks f frame
doubted blocks f frame h = record { live = inl h; lasting = λ on. inl h }

open_turn : (blocks : Bool) (x : Option (Option ℕ)) (heard : Bool) (w : What) (u : Transfer) (micros : ℕ) (frame : FrameContent) (go : Bool) → continues w ≡ go → is_turned w ≡ true
    → (is_some x ≡ true → is_block u.protocol ≡ true) → (blocks ≡ true → go ≡ true → Lasts u) → GoesOpen blocks (turns_at x heard w u micros Client) frame
open_turn blocks x heard w u micros frame false c on ends goes = doubted blocks _ frame (odd x w c on)
  where
    odd : (x : Option (Option ℕ)) (w : What) → continues w ≡ false → is_turned w ≡ true → Leaves Client (turns_at x heard w u micros Client) frame
    odd None what.Initiate c on owed quiet doubted = absurd (false≢true on)
    odd None what.Part c on owed quiet doubted = absurd (false≢true (sym c))
    odd None (what.Segment n) c on owed quiet doubted = absurd (false≢true (sym c))
    odd None _ c on owed quiet doubted = refl
    odd (Some crc) what.Initiate c on owed quiet doubted = absurd (false≢true on)
    odd (Some crc) what.Part c on owed quiet doubted = absurd (false≢true (sym c))
    odd (Some crc) (what.Segment n) c on owed quiet doubted = absurd (false≢true (sym c))
    odd (Some crc) _ c on owed quiet doubted = refl
open_turn blocks (Some crc) heard w u micros frame true c on ends goes = doubted blocks _ frame (confirmed_in_doubt crc heard w u micros frame (ends refl))
open_turn blocks None heard w u micros frame true c on ends goes = record { live = inr refl; lasting = λ b. inr (lasts_frame w u micros Client (goes b refl)) }

request_open : (heard : Bool) (t : Transfer) (request : SdoRequest) (micros : ℕ) (frame : FrameContent) → Live t
    → GoesOpen (asks_for_blocks request) (follows_by heard (Some t) (Request request) micros Client frame.bytes) frame
request_open heard t request micros frame s =
    let turn : Turn = request_turn t request frame.bytes in
    let h : Turned turn = turned t (Request request) frame.bytes s in
    let a : Asked (asks_for_blocks request) turn = asked t request frame.bytes s.unconfirmed in
    open_turn (asks_for_blocks request) (confirmed_with turn.transfer.stage) heard turn.what (after t turn) micros frame (continues turn.what) refl h.what a.ends
    (λ b c. let i : in_blocks turn.transfer.stage ≡ true = a.goes b c in record { stage = i; block = h.blocks i; unended = and_none (is_download turn.transfer.direction) (is_ended turn.transfer.stage) (a.unended b c) })

segment_open : (blocks heard : Bool) (t : Transfer) (segment : BlockSegment) (micros : ℕ) (frame : FrameContent) → Live t → awaits_segment t Client ≡ true
    → GoesOpen blocks (follows_by heard (Some t) (Segment segment) micros Client frame.bytes) frame
segment_open blocks heard t segment micros frame s awaited =
    let turn : Turn = block_segment t segment in
    let l : LastsIn turn = segment_lasts t segment s awaited in
    by (confirmed_with turn.transfer.stage) turn.what (after t turn) l.block l.stage l.unended
  where
    by : (x : Option (Option ℕ)) (w : What) (u : Transfer) → is_block u.protocol ≡ true → (x ≡ None → in_blocks u.stage ≡ true) → (x ≡ None → IsUnended u) → GoesOpen blocks (turns_at x heard w u micros Client) frame
    by (Some crc) w u p i n = doubted blocks _ frame (confirmed_in_doubt crc heard w u micros frame p)
    by None w u p i n = record { live = inr refl; lasting = λ on. inr (lasts_frame w u micros Client (record { stage = i refl; block = p; unended = n refl })) }

stray_open : (blocks heard : Bool) (reading : Reading) (micros : ℕ) (frame : FrameContent) → is_begin reading ≡ false → GoesOpen blocks (follows_by heard None reading micros Client frame.bytes) frame
stray_open blocks heard (Begin new) micros frame n = absurd (false≢true (sym n))
stray_open blocks true _ micros frame n = doubted blocks _ frame (λ owed quiet doubted. refl)
stray_open blocks false _ micros frame n = doubted blocks _ frame (λ owed quiet doubted. refl)

abort_open : (blocks heard : Bool) (t : Transfer) (code : AbortCode) (micros : ℕ) (frame : FrameContent) → GoesOpen blocks (follows_by heard (Some t) (Abort code) micros Client frame.bytes) frame
abort_open blocks heard t code micros frame = doubted blocks _ frame (by (is_block t.protocol) (not_followed_by Client t frame.bytes))
  where
    by : (block : Bool) (segment : Option (Option ℕ)) (owed quiet : Bool) (doubted : Option ℕ) → not (is_known_end owed quiet false block (abort_ending Client segment code) t.key frame) ≡ true
    by block None owed quiet doubted = refl
    by block (Some next) owed quiet doubted = refl

nothing_open : (blocks heard : Bool) (t : Transfer) (micros : ℕ) (frame : FrameContent) → GoesOpen blocks (follows_by heard (Some t) Nothing micros Client frame.bytes) frame
nothing_open blocks heard t micros frame = doubted blocks _ frame (by (confirmed_with t.stage))
  where
    by : (x : Option (Option ℕ)) → Leaves Client (turns_at x heard what.Unexpected (after t (turn_of t Nothing frame.bytes)) micros Client) frame
    by None owed quiet doubted = refl
    by (Some crc) owed quiet doubted = refl

-- read as a request
plain_open : (heard : Bool) (t : Transfer) (r : Option SdoRequest) (micros : ℕ) (frame : FrameContent) → Live t → is_begin (request_reading r micros frame.bytes) ≡ false
    → GoesOpen (asks_in r) (follows_by heard (Some t) (request_reading r micros frame.bytes) micros Client frame.bytes) frame
plain_open heard t None micros frame s n = nothing_open false heard t micros frame
plain_open heard t (Some (Abandon key code)) micros frame s n = abort_open false heard t code micros frame
plain_open heard t (Some (DownloadSegment toggle segment last)) micros frame s n = request_open heard t (DownloadSegment toggle segment last) micros frame s
plain_open heard t (Some (NextSegment toggle)) micros frame s n = request_open heard t (NextSegment toggle) micros frame s
plain_open heard t (Some UploadEnd) micros frame s n = request_open heard t UploadEnd micros frame s
plain_open heard t (Some (BlockUploadAcknowledge sequence size)) micros frame s n = request_open heard t (BlockUploadAcknowledge sequence size) micros frame s
plain_open heard t (Some BlockUploadStart) micros frame s n = request_open heard t BlockUploadStart micros frame s
plain_open heard t (Some (BlockDownloadEnd unused)) micros frame s n = request_open heard t (BlockDownloadEnd unused) micros frame s
plain_open heard t (Some _) micros frame s n = absurd (false≢true (sym n))

-- inside a sub-block what isn't a segment is nothing, but for what begins a transfer
beginning_open : (blocks heard : Bool) (t : Transfer) (reading : Reading) (micros : ℕ) (frame : FrameContent) → is_begin (beginning reading) ≡ false
    → GoesOpen blocks (follows_by heard (Some t) (beginning reading) micros Client frame.bytes) frame
beginning_open blocks heard t (Begin new) micros frame n = absurd (false≢true (sym n))
beginning_open blocks heard t _ micros frame n = nothing_open blocks heard t micros frame

sub_block_open : (blocks heard : Bool) (t : Transfer) (micros : ℕ) (frame : FrameContent) → Live t → awaits_segment t Client ≡ true → is_begin (sub_block_reading t.block_size Client micros frame.bytes) ≡ false
    → GoesOpen blocks (follows_by heard (Some t) (sub_block_reading t.block_size Client micros frame.bytes) micros Client frame.bytes) frame
sub_block_open blocks heard t micros frame s awaited = by (is_abort_in_sub_block frame.bytes) (block_segment_in frame.bytes)
  where
    plain : Reading
    plain = beginning (plain_reading Client micros frame.bytes)

    numbered : (low : Bool) (segment : BlockSegment) → is_begin (if low then Segment segment else plain) ≡ false
        → GoesOpen blocks (follows_by heard (Some t) (if low then Segment segment else plain) micros Client frame.bytes) frame
    numbered true segment n = segment_open blocks heard t segment micros frame s awaited
    numbered false segment n = beginning_open blocks heard t (plain_reading Client micros frame.bytes) micros frame n

    by : (abort : Bool) (segment : Option BlockSegment) → is_begin (if abort then Abort (code_in frame.bytes) else segment_reading t.block_size segment plain) ≡ false
        → GoesOpen blocks (follows_by heard (Some t) (if abort then Abort (code_in frame.bytes) else segment_reading t.block_size segment plain) micros Client frame.bytes) frame
    by true segment n = abort_open blocks heard t (code_in frame.bytes) micros frame
    by false None n = beginning_open blocks heard t (plain_reading Client micros frame.bytes) micros frame n
    by false (Some segment) n = numbered (nat_le segment.sequence t.block_size) segment n

pub client_open : (heard : Bool) (current : Option Transfer) (micros : ℕ) (frame : FrameContent) → IfSome current Live → is_begin (reading_of current Client micros frame.bytes) ≡ false
    → GoesOpen (asks_in (request_in frame.bytes)) (follows_by heard current (reading_of current Client micros frame.bytes) micros Client frame.bytes) frame
client_open heard None micros frame s n = stray_open (asks_in (request_in frame.bytes)) heard (plain_reading Client micros frame.bytes) micros frame n
client_open heard (Some t) micros frame s n = by (awaits_segment t Client) refl n
  where
    by : (awaited : Bool) → awaits_segment t Client ≡ awaited → is_begin (if awaited then sub_block_reading t.block_size Client micros frame.bytes else plain_reading Client micros frame.bytes) ≡ false
        → GoesOpen (asks_in (request_in frame.bytes)) (follows_by heard (Some t) (if awaited then sub_block_reading t.block_size Client micros frame.bytes else plain_reading Client micros frame.bytes) micros Client frame.bytes) frame
    by true e n = sub_block_open (asks_in (request_in frame.bytes)) heard t micros frame s e n
    by false e n = plain_open heard t (request_in frame.bytes) micros frame s n

-- ---- what begins a transfer is read as its request

begins_or_not : (block_size : ℕ) (bytes : List ℕ) (plain : Reading)
    → ((if is_abort_in_sub_block bytes then Abort (code_in bytes) else segment_reading block_size (block_segment_in bytes) (beginning plain)) ≡ plain)
    ⊎ (is_begin (if is_abort_in_sub_block bytes then Abort (code_in bytes) else segment_reading block_size (block_segment_in bytes) (beginning plain)) ≡ false)
begins_or_not block_size bytes plain = by (is_abort_in_sub_block bytes) (block_segment_in bytes)
  where
    of_beginning : (reading : Reading) → (beginning reading ≡ reading) ⊎ (is_begin (beginning reading) ≡ false)
    of_beginning (Begin new) = inl refl
    of_beginning _ = inr refl

    numbered : (low : Bool) (segment : BlockSegment) → ((if low then Segment segment else beginning plain) ≡ plain) ⊎ (is_begin (if low then Segment segment else beginning plain) ≡ false)
    numbered true segment = inr refl
    numbered false segment = of_beginning plain

    by : (abort : Bool) (segment : Option BlockSegment)
        → ((if abort then Abort (code_in bytes) else segment_reading block_size segment (beginning plain)) ≡ plain)
        ⊎ (is_begin (if abort then Abort (code_in bytes) else segment_reading block_size segment (beginning plain)) ≡ false)
    by true segment = inr refl
    by false None = of_beginning plain
    by false (Some segment) = numbered (nat_le segment.sequence block_size) segment

-- where it isn't, explain awaits a segment
pub begins_plain : (current : Option Transfer) (micros : ℕ) (bytes : List ℕ)
    → (reading_of current Client micros bytes ≡ request_reading (request_in bytes) micros bytes)
    ⊎ (IfSome current (λ t. awaits_segment t Client ≡ true) × (is_some current ≡ true) × (is_begin (reading_of current Client micros bytes) ≡ false))
begins_plain None micros bytes = inl refl
begins_plain (Some t) micros bytes = by (awaits_segment t Client) refl
  where
    at : (awaited : Bool) → awaits_segment t Client ≡ awaited → awaited ≡ true
        → ((sub_block_reading t.block_size Client micros bytes ≡ request_reading (request_in bytes) micros bytes) ⊎ (is_begin (sub_block_reading t.block_size Client micros bytes) ≡ false))
        → ((sub_block_reading t.block_size Client micros bytes ≡ request_reading (request_in bytes) micros bytes)
        ⊎ ((awaits_segment t Client ≡ true) × (true ≡ true) × (is_begin (sub_block_reading t.block_size Client micros bytes) ≡ false)))
    at awaited e on (inl h) = inl h
    at awaited e on (inr h) = inr (e ∙ on, refl, h)

    by : (awaited : Bool) → awaits_segment t Client ≡ awaited
        → ((if awaited then sub_block_reading t.block_size Client micros bytes else plain_reading Client micros bytes) ≡ request_reading (request_in bytes) micros bytes)
        ⊎ ((awaits_segment t Client ≡ true) × (true ≡ true) × (is_begin (if awaited then sub_block_reading t.block_size Client micros bytes else plain_reading Client micros bytes) ≡ false))
    by true e = at true e refl (begins_or_not t.block_size bytes (plain_reading Client micros bytes))
    by false e = inl refl
