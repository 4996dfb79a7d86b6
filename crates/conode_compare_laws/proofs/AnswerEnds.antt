-- How uploads end that explain follows: not with another size than was indicated, nor with another CRC, whichever answer ends them (`Rests`).
use Rattle.std.proofs.Common.{◌≡◌, ℕ, Bool, true, false, not, List, [], ◌∷◌, Option, Some, None, refl, sym, ap, ◌∙◌}
use Rattle.std.specs.Prelude.{◌&&◌, ◌==◌, nat_lt, if◌then◌else◌, is_some, IfSome}
use Rattle.std.proofs.lemmas.Bool.{false≢true}
use Rattle.arrayvec.specs.ArrayVec.{ArrayVec}
use Rattle.co_value.specs.declared.key.Key.{Key}
use Rattle.co_value.specs.Keys.{same_key}
use Rattle.co_frame_aborts.specs.declared.abort_code.AbortCode.{AbortCode}
use Rattle.co_frame.specs.Segments.{same_bool}
use Rattle.co_frame.specs.declared.block_segment.BlockSegment.{BlockSegment}
use Rattle.co_frame.specs.declared.sdo_response.SdoResponse.{SdoResponse}
use Rattle.co_frame.specs.declared.sdo_response.SdoResponse.TheVariants.{Abort as Refuse, DownloadDone, DownloadSegmentDone, UploadExpedited, UploadInitiated, UploadSegment, BlockDownloadInitiated, BlockDownloadDone, BlockDownloadAcknowledge, BlockUploadInitiated, BlockUploadEnd}
use Rattle.co_sdo.specs.Log.{Answer, answer_bytes}
use Rattle.co_sdo.specs.Replies.{aborted}
use Rattle.conode_explain_transfers.specs.declared.ended.Ended.{Ended}
use Rattle.conode_explain_transfers.specs.declared.ended.Ending.{Ending}
use Rattle.conode_explain_transfers.specs.declared.ended.Ending.TheVariants.{CrcDiffers, Done, Irregular, SizeDiffers}
use Rattle.conode_explain_transfers.specs.declared.kinds.Direction.{Direction}
use Rattle.conode_explain_transfers.specs.declared.kinds.Direction.TheVariants.{Download, Upload}
use Rattle.conode_explain_transfers.specs.declared.kinds.Side.{Side}
use Rattle.conode_explain_transfers.specs.declared.kinds.Side.TheVariants.{Client, Server}
use Rattle.conode_explain_transfers.specs.declared.kinds.What.{What}
use Rattle.conode_explain_transfers.specs.declared.kinds.What.TheVariants as what
use Rattle.conode_explain_transfers.specs.declared.stage.Stage.{Stage}
use Rattle.conode_explain_transfers.specs.declared.stage.Stage.TheVariants.{AllAcknowledged, BlockEnded, BlockInitiated, Confirmed, DownloadConfirmed, DownloadSent, Initiated, SubBlock, UploadAsked, UploadTaken}
use Rattle.conode_explain_transfers.specs.declared.transfer.Transfer.{Transfer}
use Rattle.conode_explain_transfers.specs.BlockTurns.{acknowledged, block_ended, block_ended_at, block_segment_at, crc_in, end_confirmed, is_block, segment_added, segment_again, segment_ahead, segment_first}
use Rattle.conode_explain_transfers.specs.Endings.{fault_with, size_fault, size_verdict, upload_fault, verdict}
use Rattle.conode_explain_transfers.specs.Followed.{Followed, abort_ending, one_more, turns_at, with_frame}
use Rattle.conode_explain_transfers.specs.SegmentedTurns.{answering, segment_done_at, upload_segment_at}
use Rattle.conode_explain_transfers.specs.Stages.{confirmed_with, is_initiated}
use Rattle.conode_explain_transfers.specs.Transfers.{Turn, after, awaited_number, is_download, overtaken, unexpected}
use Rattle.conode_explain_transfers.specs.Turns.{response_turn}
use Rattle.conode_explain_transfers.specs.Unanswered.{not_followed_by}
use Rattle.conode_explain_laws.proofs.Kept.{keeps}
use Rattle.conode_explain_laws.proofs.Follows.{segment_spoils}
use Rattle.conode_explain_laws.proofs.Readings.{Abort, Begin, Nothing, Reading, Request, Response, Segment, follows_by, reading_of, turn_of}
use Rattle.conode_explain_laws.proofs.UploadViews.{hears}
use Rattle.conode_explain_laws.proofs.Views.{View, abort_is, is_abort_reading, is_begin, server_no_begin}
use Rattle.conode_compare_laws.proofs.AnswerFollowed.{reads, server_no_request}
use Rattle.conode_compare_laws.proofs.AnswerTurns.{is_request}

-- ---- how a transfer ends

-- its data aren't those that were named
abbrev pub differs : Ending → Bool
differs (SizeDiffers indicated) = true
differs (CrcDiffers came computed) = true
differs _ = false

abbrev pub is_partial : Direction → Ending → Bool
is_partial Upload ending = differs ending
is_partial Download ending = false

-- where it ends, it is no such upload, nor one that the client aborts for its data
abbrev pub IsWhole : Option Ended → Type 0
IsWhole None = Unit {0}
IsWhole (Some e) = (is_partial e.direction e.ending ≡ false) × (e.fault ≡ None)

pub other_whole : (direction : Direction) (ending : Ending) → differs ending ≡ false → is_partial direction ending ≡ false
other_whole Upload ending h = h
other_whole Download ending h = refl

pub download_whole : (direction : Direction) (ending : Ending) → direction ≡ Download → is_partial direction ending ≡ false
download_whole Upload ending e = absurd (cc)
download_whole Download ending e = refl

worn_verdict : (u : Transfer) (crc : Option ℕ) → u.irregular ≡ true → differs (verdict u crc) ≡ false
worn_verdict u crc i = rw i refl

pub right_verdict : (u : Transfer) → size_fault u.size u.taken.count ≡ None → differs (verdict u None) ≡ false
right_verdict u s = by u.irregular
  where
    by : (irregular : Bool) → differs (if irregular then Irregular else size_verdict (size_fault u.size u.taken.count) (Done false)) ≡ false
    by true = refl
    by false = rw s refl

-- ---- a transfer that no answer ends so

-- the stages of an upload in which the client has its turn, or segments come
abbrev pub is_calm : Stage → Bool
is_calm (UploadTaken awaited) = true
is_calm BlockInitiated = true
is_calm (SubBlock last) = true
is_calm AllAcknowledged = true
is_calm (BlockEnded crc) = true
is_calm _ = false

pub data Rests (u : Transfer) : Type 0 where
  worn : u.irregular ≡ true → Rests u
  download : u.direction ≡ Download → Rests u
  first : u.stage ≡ Initiated → u.size ≡ None → Rests u
  calm : is_calm u.stage ≡ true → Rests u

-- after a frame; or all its data came at once
pub data Leads (u : Transfer) : Type 0 where
  rests : Rests u → Leads u
  done : u.stage ≡ Confirmed None → u.size ≡ None → Leads u

-- what comes of a frame
pub record Whole (f : Followed) : Type 0 where
  pub ended : IsWhole f.says.ended
  pub next : IfSome f.next.transfer Rests

frame_rests : (w : What) (u : Transfer) (micros : ℕ) (side : Side) → Rests u → Rests (with_frame w u micros side)
frame_rests what.Overtaken u micros side h = h
frame_rests _ u micros side (worn i) = worn i
frame_rests _ u micros side (download d) = download d
frame_rests _ u micros side (first s n) = first s n
frame_rests _ u micros side (calm c) = calm c

calm_open : (stage : Stage) → is_calm stage ≡ true → confirmed_with stage ≡ None
calm_open (Confirmed crc) c = absurd (false≢true c)
calm_open _ c = refl

ended_whole : (u : Transfer) (crc : Option ℕ) → confirmed_with u.stage ≡ Some crc → Leads u → is_partial u.direction (verdict u crc) ≡ false
ended_whole u crc e (rests (worn i)) = other_whole u.direction (verdict u crc) (worn_verdict u crc i)
ended_whole u crc e (rests (download d)) = download_whole u.direction (verdict u crc) d
ended_whole u crc e (rests (first s n)) = absurd (let no : is_some (Some crc) ≡ false = ap is_some (sym e ∙ ap confirmed_with s) in false≢true (sym no))
ended_whole u crc e (rests (calm c)) = absurd (let no : is_some (Some crc) ≡ false = ap is_some (sym e ∙ calm_open u.stage c) in false≢true (sym no))
ended_whole u crc e (done s n) =
    let none : crc ≡ None = some_none crc (sym e ∙ ap confirmed_with s) in
    other_whole u.direction (verdict u crc) (ap (λ c. differs (verdict u c)) none ∙ right_verdict u (ap (λ size. size_fault size u.taken.count) n))
  where
    some_none : (crc : Option ℕ) → Some crc ≡ Some None → crc ≡ None
    some_none crc h = cc

unfinished : {A : Type 0} (u : Transfer) → confirmed_with u.stage ≡ None → u.stage ≡ Confirmed None → A
unfinished u e s = absurd (let yes : is_some (confirmed_with u.stage) ≡ true = ap (λ stage. is_some (confirmed_with stage)) s in false≢true (sym (ap is_some e) ∙ yes))

turn_whole : (x : Option (Option ℕ)) (heard : Bool) (w : What) (u : Transfer) (micros : ℕ) (side : Side) → confirmed_with u.stage ≡ x → Leads u → Whole (turns_at x heard w u micros side)
turn_whole (Some crc) heard w u micros side e h = record { ended = (ended_whole u crc e h, refl); next = tt }
turn_whole None heard w u micros side e (rests r) = record { ended = tt; next = frame_rests w u micros side r }
turn_whole None heard w u micros side e (done s n) = unfinished u e s

after_leads : (t : Transfer) (turn : Turn) → Leads turn.transfer → Leads (after t turn)
after_leads t turn (rests (worn i)) = rests (worn i)
after_leads t turn (rests (download d)) = rests (download d)
after_leads t turn (rests (first s n)) = rests (first s n)
after_leads t turn (rests (calm c)) = rests (calm c)
after_leads t turn (done s n) = done s n

pub by_turn : (heard : Bool) (t : Transfer) (turn : Turn) (micros : ℕ) (side : Side) → Leads turn.transfer → Whole (turns_at (confirmed_with turn.transfer.stage) heard turn.what (after t turn) micros side)
by_turn heard t turn micros side h = turn_whole (confirmed_with turn.transfer.stage) heard turn.what (after t turn) micros side refl (after_leads t turn h)

abort_same : (side : Side) (segment : Option (Option ℕ)) (code : AbortCode) → differs (abort_ending side segment code) ≡ false
abort_same side None code = refl
abort_same side (Some next) code = refl

-- nothing is wrong with its data where it is the client's abort
abbrev pub Faultless : Reading → Transfer → Type 0
Faultless (Abort code) t = upload_fault (one_more t) ≡ None
Faultless _ t = Unit {0}

pub faultless : (reading : Reading) (t : Transfer) → upload_fault (one_more t) ≡ None → Faultless reading t
faultless (Abort code) t f = f
faultless _ t f = tt

no_fault : (side : Side) (segment : Option (Option ℕ)) (code : AbortCode) (t : Transfer) → (side ≡ Client → upload_fault (one_more t) ≡ None) → fault_with (abort_ending side segment code) (one_more t) ≡ None
no_fault Client None code t f = f refl
no_fault Server None code t f = refl
no_fault side (Some next) code t f = refl

pub abort_whole : (heard : Bool) (t : Transfer) (code : AbortCode) (micros : ℕ) (side : Side) (bytes : List ℕ) → (side ≡ Client → upload_fault (one_more t) ≡ None)
    → IsWhole (follows_by heard (Some t) (Abort code) micros side bytes).says.ended
abort_whole heard t code micros side bytes f = (other_whole t.direction _ (abort_same side (not_followed_by side t bytes) code), no_fault side (not_followed_by side t bytes) code t f)

pub frame_whole : (heard : Bool) (t : Transfer) (reading : Reading) (micros : ℕ) (side : Side) (bytes : List ℕ) → is_begin reading ≡ false → Leads (turn_of t reading bytes).transfer
    → (side ≡ Client → Faultless reading t) → Whole (follows_by heard (Some t) reading micros side bytes)
frame_whole heard t (Begin new) micros side bytes n h f = absurd (false≢true (sym n))
frame_whole heard t (Abort code) micros side bytes n h f = record { ended = abort_whole heard t code micros side bytes f; next = tt }
frame_whole heard t (Segment segment) micros side bytes n h f = by_turn heard t (turn_of t (Segment segment) bytes) micros side h
frame_whole heard t (Request request) micros side bytes n h f = by_turn heard t (turn_of t (Request request) bytes) micros side h
frame_whole heard t (Response response) micros side bytes n h f = by_turn heard t (turn_of t (Response response) bytes) micros side h
frame_whole heard t Nothing micros side bytes n h f = by_turn heard t (turn_of t Nothing bytes) micros side h

pub stray_whole : (heard : Bool) (reading : Reading) (micros : ℕ) (side : Side) (bytes : List ℕ) → is_begin reading ≡ false → Whole (follows_by heard None reading micros side bytes)
stray_whole heard (Begin t) micros side bytes n = absurd (false≢true (sym n))
stray_whole heard _ micros side bytes n = record { ended = tt; next = tt }

-- ---- the device's frames

pub worn_leads : (t : Transfer) (reading : Reading) (bytes : List ℕ) → t.irregular ≡ true → Leads (turn_of t reading bytes).transfer
worn_leads t reading bytes i = rests (worn ((keeps t reading bytes).irregular i))

pub download_leads : (t : Transfer) (reading : Reading) (bytes : List ℕ) → t.direction ≡ Download → Leads (turn_of t reading bytes).transfer
download_leads t reading bytes d = rests (download ((keeps t reading bytes).direction ∙ d))

spoilt : (u : Transfer) → u.irregular ≡ true → Leads u
spoilt u i = rests (worn i)

either : (b : Bool) (x y : Turn) → Leads x.transfer → Leads y.transfer → Leads (if b then x else y).transfer
either true x y p q = p
either false x y p q = q

-- a response to initiate
answers : (t : Transfer) (key : Key) (turn : Turn) → Leads turn.transfer → Rests t → Leads (answering t key turn).transfer
answers t key turn h r = either (is_initiated t.stage) _ (unexpected t) (either (same_key key t.key) turn (overtaken t) h (rests r)) (spoilt _ refl)

-- to an upload
no_download : (down : Bool) (t : Transfer) (turn : Turn) → down ≡ false → (if down then turn else unexpected t).transfer.irregular ≡ true
no_download true t turn e = absurd (false≢true (sym e))
no_download false t turn e = refl

an_upload : (down : Bool) (t : Transfer) (turn : Turn) → Leads turn.transfer → Leads (if down then unexpected t else turn).transfer
an_upload true t turn h = spoilt _ refl
an_upload false t turn h = h

second_off : (a b : Bool) → a ≡ false → (a && b) ≡ false
second_off true b e = absurd (false≢true (sym e))
second_off false b e = refl

ended_at : (by : Bool) (t : Transfer) (unused crc : ℕ) → t.stage ≡ Initiated → (block_ended by t unused crc).transfer.irregular ≡ true
ended_at true t unused crc e = ap (λ s. (block_ended_at s t unused crc).transfer.irregular) e
ended_at false t unused crc e = refl

module _ (t : Transfer) (bytes : List ℕ) (up : is_download t.direction ≡ false) where
  -- the answer to initiate is awaited
  first_response : (response : SdoResponse) → t.stage ≡ Initiated → t.size ≡ None → Leads (response_turn t response bytes).transfer
  first_response (DownloadDone key) s n = answers t key _ (spoilt _ (no_download (is_download t.direction) t _ up)) (first s n)
  first_response (UploadExpedited key expedited) s n = answers t key _ (an_upload (is_download t.direction) t _ (done refl n)) (first s n)
  first_response (UploadInitiated key size) s n = answers t key _ (an_upload (is_download t.direction) t _ (rests (calm refl))) (first s n)
  first_response (BlockDownloadInitiated key size) s n =
      answers t key _ (spoilt _ (no_download (is_download t.direction && is_block t.protocol) t _ (second_off (is_download t.direction) (is_block t.protocol) up))) (first s n)
  first_response (BlockUploadInitiated key size) s n = answers t key _ (an_upload (is_download t.direction) t _ (either (is_block t.protocol) _ (unexpected t) (rests (calm refl)) (spoilt _ refl))) (first s n)
  first_response (DownloadSegmentDone toggle) s n = spoilt _ (ap (λ x. (segment_done_at x t toggle).transfer.irregular) s)
  first_response (UploadSegment toggle segment last) s n = spoilt _ (ap (λ x. (upload_segment_at x t toggle segment last).transfer.irregular) s)
  first_response BlockDownloadDone s n = spoilt _ (ap (λ x. (end_confirmed x t).transfer.irregular) up)
  first_response (BlockDownloadAcknowledge sequence size) s n = spoilt _ (ap (λ x. (acknowledged x t sequence size).transfer.irregular) up)
  first_response (BlockUploadEnd unused) s n = spoilt _ (ended_at (not (is_download t.direction)) t unused (crc_in bytes) s)
  first_response (Refuse key code) s n = spoilt _ refl

  first_leads : (reading : Reading) → is_begin reading ≡ false → is_request reading ≡ false → t.stage ≡ Initiated → t.size ≡ None → Leads (turn_of t reading bytes).transfer
  first_leads (Begin new) b q s n = absurd (false≢true (sym b))
  first_leads (Request request) b q s n = absurd (false≢true (sym q))
  first_leads (Segment segment) b q s n = spoilt _ (segment_spoils t segment s)
  first_leads (Response response) b q s n = first_response response s n
  first_leads (Abort code) b q s n = spoilt _ refl
  first_leads Nothing b q s n = spoilt _ refl

  -- it came
  late_answer : (key : Key) (turn : Turn) (initiated : Bool) → initiated ≡ false → (if initiated then (if same_key key t.key then turn else overtaken t) else unexpected t).transfer.irregular ≡ true
  late_answer key turn true e = absurd (false≢true (sym e))
  late_answer key turn false e = refl

  calm_answered : (stage : Stage) → is_calm stage ≡ true → is_initiated stage ≡ false
  calm_answered Initiated c = absurd (false≢true c)
  calm_answered _ c = refl

  no_segment_done : (stage : Stage) (toggle : Bool) → is_calm stage ≡ true → (segment_done_at stage t toggle).transfer.irregular ≡ true
  no_segment_done (DownloadSent sent last) toggle c = absurd (false≢true c)
  no_segment_done (DownloadConfirmed awaited) toggle c = absurd (false≢true c)
  no_segment_done _ toggle c = refl

  both : (b : Bool) (x y : Turn) → x.transfer.irregular ≡ true → y.transfer.irregular ≡ true → (if b then x else y).transfer.irregular ≡ true
  both true x y p q = p
  both false x y p q = q

  no_segment : (stage : Stage) (toggle : Bool) (segment : ArrayVec ℕ) (last : Bool) → is_calm stage ≡ true → (upload_segment_at stage t toggle segment last).transfer.irregular ≡ true
  no_segment (UploadAsked asked) toggle segment last c = absurd (false≢true c)
  no_segment (UploadTaken awaited) toggle segment last c = both (same_bool toggle awaited) _ _ refl refl
  no_segment _ toggle segment last c = refl

  end_leads : (stage : Stage) (unused crc : ℕ) → Leads (block_ended_at stage t unused crc).transfer
  end_leads AllAcknowledged unused crc = rests (calm refl)
  end_leads _ unused crc = spoilt _ refl

  by_end : (by : Bool) (unused crc : ℕ) → Leads (block_ended by t unused crc).transfer
  by_end true unused crc = end_leads t.stage unused crc
  by_end false unused crc = spoilt _ refl

  block_leads : (stage : Stage) (segment : BlockSegment) → is_calm t.stage ≡ true → Leads (block_segment_at stage t segment).transfer
  block_leads (SubBlock false) segment c =
      either (nat_lt segment.sequence t.next_number) (segment_again t segment) _ (spoilt _ refl)
      (either (segment.sequence == awaited_number t) (segment_added t segment) (segment_ahead t segment) (rests (calm refl)) (rests (calm c)))
  block_leads Initiated segment c = either (is_download t.direction && is_block t.protocol) (segment_first t segment) (unexpected t) (spoilt _ refl) (spoilt _ refl)
  block_leads _ segment c = spoilt _ refl

  calm_response : (response : SdoResponse) → is_calm t.stage ≡ true → Leads (response_turn t response bytes).transfer
  calm_response (DownloadDone key) c = spoilt _ (late_answer key _ (is_initiated t.stage) (calm_answered t.stage c))
  calm_response (UploadExpedited key expedited) c = spoilt _ (late_answer key _ (is_initiated t.stage) (calm_answered t.stage c))
  calm_response (UploadInitiated key size) c = spoilt _ (late_answer key _ (is_initiated t.stage) (calm_answered t.stage c))
  calm_response (BlockDownloadInitiated key size) c = spoilt _ (late_answer key _ (is_initiated t.stage) (calm_answered t.stage c))
  calm_response (BlockUploadInitiated key size) c = spoilt _ (late_answer key _ (is_initiated t.stage) (calm_answered t.stage c))
  calm_response (DownloadSegmentDone toggle) c = spoilt _ (no_segment_done t.stage toggle c)
  calm_response (UploadSegment toggle segment last) c = spoilt _ (no_segment t.stage toggle segment last c)
  calm_response BlockDownloadDone c = spoilt _ (ap (λ x. (end_confirmed x t).transfer.irregular) up)
  calm_response (BlockDownloadAcknowledge sequence size) c = spoilt _ (ap (λ x. (acknowledged x t sequence size).transfer.irregular) up)
  calm_response (BlockUploadEnd unused) c = by_end (not (is_download t.direction)) unused (crc_in bytes)
  calm_response (Refuse key code) c = spoilt _ refl

  calm_leads : (reading : Reading) → is_begin reading ≡ false → is_request reading ≡ false → is_calm t.stage ≡ true → Leads (turn_of t reading bytes).transfer
  calm_leads (Begin new) b q c = absurd (false≢true (sym b))
  calm_leads (Request request) b q c = absurd (false≢true (sym q))
  calm_leads (Segment segment) b q c = block_leads t.stage segment c
  calm_leads (Response response) b q c = calm_response response c
  calm_leads (Abort code) b q c = spoilt _ refl
  calm_leads Nothing b q c = spoilt _ refl

server_leads : (t : Transfer) (reading : Reading) (bytes : List ℕ) → is_begin reading ≡ false → is_request reading ≡ false → Rests t → Leads (turn_of t reading bytes).transfer
server_leads t reading bytes b q (worn i) = worn_leads t reading bytes i
server_leads t reading bytes b q (download d) = download_leads t reading bytes d
server_leads t reading bytes b q (first s n) = by t.direction refl
  where
    by : (x : Direction) → t.direction ≡ x → Leads (turn_of t reading bytes).transfer
    by Download e = download_leads t reading bytes e
    by Upload e = first_leads t bytes (ap is_download e) reading b q s n
server_leads t reading bytes b q (calm c) = by t.direction refl
  where
    by : (x : Direction) → t.direction ≡ x → Leads (turn_of t reading bytes).transfer
    by Download e = download_leads t reading bytes e
    by Upload e = calm_leads t bytes (ap is_download e) reading b q c

no_client : {A : Type 0} → Server ≡ Client → A
no_client e = absurd (cc)

pub server_whole : (heard : Bool) (current : Option Transfer) (micros : ℕ) (bytes : List ℕ) → IfSome current Rests → Whole (reads (record { heard = heard; transfer = current }) micros Server bytes)
server_whole heard None micros bytes h = stray_whole heard (reading_of None Server micros bytes) micros Server bytes (server_no_begin None micros bytes)
server_whole heard (Some t) micros bytes h =
    let reading : Reading = reading_of (Some t) Server micros bytes in
    let n : is_begin reading ≡ false = server_no_begin (Some t) micros bytes in
    frame_whole heard t reading micros Server bytes n (server_leads t reading bytes n (server_no_request (Some t) micros bytes) h) no_client

-- ---- all answers to a request

abbrev pub AllWhole : (ℕ → ℕ) → List Answer → View → Type 0
AllWhole stamp [] v = Unit {0}
AllWhole stamp (answer ∷ later) v = IsWhole (reads v.following (stamp v.count) Server (answer_bytes answer)).says.ended × AllWhole stamp later (hears stamp Server (answer_bytes answer) v)

pub rest_answers : (stamp : ℕ → ℕ) (answers : List Answer) (v : View) → IfSome v.following.transfer Rests → AllWhole stamp answers v
rest_answers stamp [] v h = tt
rest_answers stamp (answer ∷ later) v h =
    let w : Whole (reads v.following (stamp v.count) Server (answer_bytes answer)) = server_whole v.following.heard v.following.transfer (stamp v.count) (answer_bytes answer) h in
    (w.ended, rest_answers stamp later (hears stamp Server (answer_bytes answer) v) w.next)

-- an abort
aborted_whole : (heard : Bool) (current : Option Transfer) (reading : Reading) (micros : ℕ) (bytes : List ℕ) → is_abort_reading reading ≡ true → IsWhole (follows_by heard current reading micros Server bytes).says.ended
aborted_whole heard None (Abort code) micros bytes h = tt
aborted_whole heard (Some t) (Abort code) micros bytes h = abort_whole heard t code micros Server bytes no_client
aborted_whole heard current _ micros bytes h = absurd (false≢true h)

pub abort_answers : (stamp : ℕ → ℕ) (key : Key) (code : ℕ) (v : View) → AllWhole stamp (aborted key code) v
abort_answers stamp key code v = (aborted_whole v.following.heard v.following.transfer _ (stamp v.count) _ (abort_is v.following.transfer (stamp v.count) key code), tt)
