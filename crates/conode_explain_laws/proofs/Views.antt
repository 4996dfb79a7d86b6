-- What explain knows of a channel after each frame, and which frames are nothing to it.
use Rattle.std.proofs.Common.{◌≡◌, ℕ, suc, Bool, true, false, List, [], ◌∷◌, ◌++◌, length, Option, Some, None, refl, sym, ap, ◌∙◌, ◌⊎◌, inl, inr}
use Rattle.std.specs.Prelude.{if◌then◌else◌, IfSome, nat_le}
use Rattle.std.proofs.lemmas.Bool.{false≢true}
use Rattle.co_value.specs.declared.key.Key.{Key}
use Rattle.co_frame.specs.BlockSegments.{block_segment_in, is_abort_in_sub_block}
use Rattle.co_frame_aborts.specs.declared.abort_code.AbortCode.{AbortCode}
use Rattle.co_frame.specs.declared.block_segment.BlockSegment.{BlockSegment}
use Rattle.co_frame.specs.declared.sdo_request.SdoRequest.{SdoRequest}
use Rattle.co_frame.specs.declared.sdo_response.SdoResponse.{SdoResponse}
use Rattle.co_frame.specs.declared.sdo_response.SdoResponse.TheVariants.{Abort as Refuse}
use Rattle.co_frame.specs.SdoParts.{code_in}
use Rattle.co_frame.specs.SdoResponses.{response_row_in, response_in}
use Rattle.co_dict.specs.Rows.{Rows}
use Rattle.co_sdo.specs.Log.{Answer, Response as Replied, answer_bytes}
use Rattle.co_sdo.specs.Replies.{aborted}
use Rattle.conode_explain_transfers.specs.declared.ended.Ending.TheVariants.{Repeated, NotFollowed}
use Rattle.conode_explain_transfers.specs.declared.kinds.Side.{Side}
use Rattle.conode_explain_transfers.specs.declared.kinds.Side.TheVariants.{Client, Server}
use Rattle.conode_explain_transfers.specs.declared.kinds.What.{What}
use Rattle.conode_explain_transfers.specs.declared.kinds.What.TheVariants.{Overtaken}
use Rattle.conode_explain_transfers.specs.declared.transfer.Transfer.{Transfer}
use Rattle.conode_explain_transfers.specs.Data.{data_with, data_after}
use Rattle.conode_explain_transfers.specs.Endings.{verdict}
use Rattle.conode_explain_transfers.specs.Followed.{Event, Following, Followed, abort_ending, following_after, left_by, with_frame, turns, turns_at}
use Rattle.conode_explain_transfers.specs.Readings.{awaits_segment}
use Rattle.conode_explain_transfers.specs.Stages.{confirmed_with}
use Rattle.conode_explain_transfers.specs.Transfers.{after, is_download, is_same_request}
use Rattle.conode_explain_transfers.specs.Unanswered.{is_lost, not_followed_by, number_of, segment_follows}
use Rattle.conode_explain_laws.specs.Recordings.{and_frame, and_answers}
use Rattle.conode_explain_laws.specs.Downloads.{Complete, initiated_by, if_done, write_said, downloads_done}
use Rattle.conode_explain_laws.proofs.Readings.{Reading, Segment, Begin, Abort, Request, Response, Nothing, response_reading, plain_reading, beginning, segment_reading, sub_block_reading, reading_of, turn_of, follows_by, bytes_by, same as same_reading}
use Rattle.conode_explain_laws.proofs.Kept.{Keeps, keeps}

-- ---- what explain knows

-- the open transfer with its data, the downloads that are done, and how many frames there are
pub record View : Type 0 where
  pub following : Following
  pub got : List ℕ
  pub done : List Complete
  pub count : ℕ

abbrev pub view_of : Rows → List Event → View
view_of rows recording = record {
  following = following_after recording;
  got = data_after recording;
  done = downloads_done rows recording;
  count = length recording;
}

-- after what a frame makes of it
abbrev pub after_frame : Rows → View → Followed → List ℕ → View
after_frame rows v followed got = record {
  following = followed.next;
  got = got;
  done = write_said rows (initiated_by v.following.transfer) followed.says.ended got (suc v.count) ++ v.done;
  count = suc v.count;
}

-- after a frame that is read so
abbrev pub read_as : Rows → ℕ → Side → List ℕ → View → Reading → View
read_as rows micros side frame v reading =
    after_frame rows v (follows_by v.following.heard v.following.transfer reading micros side frame)
    (bytes_by v.following.transfer reading frame v.got)

-- after a frame
abbrev pub hears : Rows → (ℕ → ℕ) → Side → List ℕ → View → View
hears rows stamp side frame v = read_as rows (stamp v.count) side frame v (reading_of v.following.transfer side (stamp v.count) frame)

pub hears_frame : (rows : Rows) (stamp : ℕ → ℕ) (side : Side) (frame : List ℕ) (recording : List Event)
    → view_of rows (and_frame stamp side frame recording) ≡ hears rows stamp side frame (view_of rows recording)
hears_frame rows stamp side frame recording =
    let v = view_of rows recording in
    let s = same_reading v.following.heard v.following.transfer (stamp v.count) side frame v.got in
    ap (λ f. after_frame rows v f (data_after (and_frame stamp side frame recording))) s.followed
    ∙ ap (λ bytes. after_frame rows v (follows_by v.following.heard v.following.transfer (reading_of v.following.transfer side (stamp v.count) frame) (stamp v.count) side frame) bytes) s.bytes_are

-- after answers
abbrev pub hears_answers : Rows → (ℕ → ℕ) → List Answer → View → View
hears_answers rows stamp [] v = v
hears_answers rows stamp (answer ∷ later) v = hears_answers rows stamp later (hears rows stamp Server (answer_bytes answer) v)

pub hears_all : (rows : Rows) (stamp : ℕ → ℕ) (answers : List Answer) (recording : List Event)
    → view_of rows (and_answers stamp answers recording) ≡ hears_answers rows stamp answers (view_of rows recording)
hears_all rows stamp [] recording = refl
hears_all rows stamp (answer ∷ later) recording =
    hears_all rows stamp later (and_frame stamp Server (answer_bytes answer) recording)
    ∙ ap (hears_answers rows stamp later) (hears_frame rows stamp Server (answer_bytes answer) recording)

-- with what is known of the open transfer and its data, and nothing more done
pub record Knows (P : Transfer → List ℕ → Type 0) (done : List Complete) (v : View) : Type 0 where
  pub holds : IfSome v.following.transfer (λ t. P t v.got)
  pub same : v.done ≡ done

-- ---- what isn't done

pub no_write : (b : Bool) (write : List Complete) → write ≡ [] → (if b then write else []) ≡ []
no_write true write h = h
no_write false write h = refl

pub left_no_write : (follows lost same : Bool) (number : ℕ) (by : Side) (write : List Complete)
    → if_done (if follows then NotFollowed (Some number) else (if lost then NotFollowed None else (if same then Repeated else left_by by))) write ≡ []
left_no_write true lost same number by write = refl
left_no_write false true same number by write = refl
left_no_write false false true number by write = refl
left_no_write false false false number Client write = refl
left_no_write false false false number Server write = refl

pub abort_no_write : {A : Type 0} (side : Side) (segment : Option (Option ℕ)) (code : AbortCode) (write : List A) → if_done (abort_ending side segment code) write ≡ []
abort_no_write side None code write = refl
abort_no_write side (Some next) code write = refl

-- ---- an initiate request

-- it ends no transfer that is done
pub begin_writes : (rows : Rows) (micros : ℕ) (frame : List ℕ) (heard : Bool) (current : Option Transfer) (got : List ℕ) (done : List Complete) (count : ℕ) (new : Transfer)
    → (read_as rows micros Client frame (record { following = record { heard = heard; transfer = current }; got = got; done = done; count = count }) (Begin new)).done ≡ done
begin_writes rows micros frame heard None got done count new = refl
begin_writes rows micros frame heard (Some t) got done count new =
    ap (λ w. w ++ done) (no_write (is_download t.direction) _ (left_no_write (segment_follows t frame) (is_lost t) (is_same_request t frame) (number_of frame) t.by _))

-- ---- aborts

abbrev pub is_abort_reading : Reading → Bool
is_abort_reading (Abort code) = true
is_abort_reading _ = false

-- nothing is open then, and nothing more done
pub record Closes (done : List Complete) (v : View) : Type 0 where
  pub none : v.following.transfer ≡ None
  pub same : v.done ≡ done

pub abort_closes : (rows : Rows) (micros : ℕ) (side : Side) (frame : List ℕ) (heard : Bool) (current : Option Transfer) (got : List ℕ) (done : List Complete) (count : ℕ) (reading : Reading)
    → is_abort_reading reading ≡ true
    → Closes done (read_as rows micros side frame (record { following = record { heard = heard; transfer = current }; got = got; done = done; count = count }) reading)
abort_closes rows micros side frame heard None got done count (Abort code) h = record { none = refl; same = refl }
abort_closes rows micros side frame heard (Some t) got done count (Abort code) h = record {
  none = refl;
  same = ap (λ w. w ++ done) (no_write (is_download t.direction) _ (abort_no_write side (not_followed_by side t frame) code _));
}
abort_closes rows micros side frame heard current got done count _ h = absurd (false≢true h)

-- ---- transfers that aren't followed any more

-- frames are missing, or it's no download
abbrev pub IsAside : Transfer → Type 0
IsAside t = (t.irregular ≡ true) ⊎ (is_download t.direction ≡ false)

pub stays_aside : (t u : Transfer) → Keeps t u → IsAside t → IsAside u
stays_aside t u k (inl i) = inl (k.irregular i)
stays_aside t u k (inr p) = inr (ap is_download k.direction ∙ p)

aside_frame : (what : What) (u : Transfer) (micros : ℕ) (side : Side) → IsAside u → IsAside (with_frame what u micros side)
aside_frame Overtaken u micros side h = h
aside_frame _ u micros side h = h

pub aside_write : (u : Transfer) (crc : Option ℕ) (write : List Complete) → IsAside u
    → (if is_download u.direction then if_done (verdict u crc) write else []) ≡ []
aside_write u crc write (inl i) = no_write (is_download u.direction) _ (rw i refl)
aside_write u crc write (inr p) = rw p refl

-- a turn's transfer, kept or confirmed
aside_turns : (rows : Rows) (x : Option (Option ℕ)) (heard : Bool) (what : What) (u : Transfer) (initiate : Option SdoRequest) (got : List ℕ) (done : List Complete) (count micros : ℕ) (side : Side) → IsAside u
    → Knows (λ t got. IsAside t) done (record {
      following = (turns_at x heard what u micros side).next;
      got = got;
      done = write_said rows initiate (turns_at x heard what u micros side).says.ended got count ++ done;
      count = count;
    })
aside_turns rows None heard what u initiate got done count micros side h = record { holds = aside_frame what u micros side h; same = refl }
aside_turns rows (Some crc) heard what u initiate got done count micros side h = record { holds = tt; same = ap (λ w. w ++ done) (aside_write u crc _ h) }

pub aside_turn : (rows : Rows) (micros : ℕ) (side : Side) (frame : List ℕ) (heard : Bool) (t : Transfer) (got : List ℕ) (done : List Complete) (count : ℕ) (reading : Reading)
    → IsAside (turn_of t reading frame).transfer
    → Knows (λ t got. IsAside t) done (record {
      following = (turns heard t (turn_of t reading frame) micros side).next;
      got = data_with got (turn_of t reading frame).takes;
      done =
          write_said rows (initiated_by (Some t)) (turns heard t (turn_of t reading frame) micros side).says.ended (data_with got (turn_of t reading frame).takes) (suc count)
          ++ done;
      count = suc count;
    })
aside_turn rows micros side frame heard t got done count reading h =
    let turn = turn_of t reading frame in
    aside_turns rows (confirmed_with turn.transfer.stage) heard turn.what (after t turn) (initiated_by (Some t)) (data_with got turn.takes) done (suc count) micros side h

abbrev pub is_begin : Reading → Bool
is_begin (Begin new) = true
is_begin _ = false

-- what is known of one that isn't followed
abbrev pub KnowsAside : List Complete → View → Type 0
KnowsAside done v = Knows (λ t got. IsAside t) done v

pub aside_reads : (rows : Rows) (micros : ℕ) (side : Side) (frame : List ℕ) (heard : Bool) (current : Option Transfer) (got : List ℕ) (done : List Complete) (count : ℕ) (reading : Reading)
    → IfSome current IsAside → is_begin reading ≡ false
    → KnowsAside done (read_as rows micros side frame (record { following = record { heard = heard; transfer = current }; got = got; done = done; count = count }) reading)
aside_reads rows micros side frame heard current got done count (Begin new) h n = absurd (false≢true (sym n))
aside_reads rows micros side frame heard None got done count _ h n = record { holds = tt; same = refl }
aside_reads rows micros side frame heard (Some t) got done count (Abort code) h n = record {
  holds = tt;
  same = ap (λ w. w ++ done) (no_write (is_download t.direction) _ (abort_no_write side (not_followed_by side t frame) code _));
}
aside_reads rows micros side frame heard (Some t) got done count (Segment segment) h n =
    aside_turn rows micros side frame heard t got done count (Segment segment) (stays_aside t (turn_of t (Segment segment) frame).transfer (keeps t (Segment segment) frame) h)
aside_reads rows micros side frame heard (Some t) got done count (Request request) h n =
    aside_turn rows micros side frame heard t got done count (Request request) (stays_aside t (turn_of t (Request request) frame).transfer (keeps t (Request request) frame) h)
aside_reads rows micros side frame heard (Some t) got done count (Response response) h n =
    aside_turn rows micros side frame heard t got done count (Response response) (stays_aside t (turn_of t (Response response) frame).transfer (keeps t (Response response) frame) h)
aside_reads rows micros side frame heard (Some t) got done count Nothing h n =
    aside_turn rows micros side frame heard t got done count Nothing (stays_aside t (turn_of t Nothing frame).transfer (keeps t Nothing frame) h)

-- ---- a server's frames

response_no_begin : (response : Option SdoResponse) → is_begin (response_reading response) ≡ false
response_no_begin None = refl
response_no_begin (Some (Refuse key code)) = refl
response_no_begin (Some _) = refl

no_beginning : (reading : Reading) → is_begin reading ≡ false → is_begin (beginning reading) ≡ false
no_beginning (Begin new) h = h
no_beginning _ h = refl

segment_no_begin : (block_size : ℕ) (segment : Option BlockSegment) (otherwise : Reading) → is_begin otherwise ≡ false → is_begin (segment_reading block_size segment otherwise) ≡ false
segment_no_begin block_size None otherwise h = h
segment_no_begin block_size (Some segment) otherwise h = by (nat_le segment.sequence block_size)
  where
    by : (b : Bool) → is_begin (if b then Segment segment else otherwise) ≡ false
    by true = refl
    by false = h

-- none of them begins a transfer
pub server_no_begin : (current : Option Transfer) (micros : ℕ) (frame : List ℕ) → is_begin (reading_of current Server micros frame) ≡ false
server_no_begin None micros frame = response_no_begin (response_in frame)
server_no_begin (Some t) micros frame = by (awaits_segment t Server) (is_abort_in_sub_block frame)
  where
    by : (awaited abort : Bool) → is_begin (if awaited then (if abort then Abort (code_in frame) else segment_reading t.block_size (block_segment_in frame) (beginning (plain_reading Server micros frame))) else plain_reading Server micros frame) ≡ false
    by true true = refl
    by true false = segment_no_begin t.block_size (block_segment_in frame) _ (no_beginning (plain_reading Server micros frame) (response_no_begin (response_in frame)))
    by false abort = response_no_begin (response_in frame)

-- whatever the server answers
pub aside_answers : (rows : Rows) (stamp : ℕ → ℕ) (answers : List Answer) (done : List Complete) (v : View) → KnowsAside done v → KnowsAside done (hears_answers rows stamp answers v)
aside_answers rows stamp [] done v h = h
aside_answers rows stamp (answer ∷ later) done v h =
    let frame = answer_bytes answer in
    let step = aside_reads rows (stamp v.count) Server frame v.following.heard v.following.transfer v.got v.done v.count (reading_of v.following.transfer Server (stamp v.count) frame) h.holds (server_no_begin v.following.transfer (stamp v.count) frame) in
    aside_answers rows stamp later done (hears rows stamp Server frame v) (record { holds = step.holds; same = step.same ∙ h.same })

-- an abort of the server
pub abort_is : (current : Option Transfer) (micros : ℕ) (key : Key) (code : ℕ) → is_abort_reading (reading_of current Server micros (answer_bytes (Replied (Refuse key (record { 0 = code }))))) ≡ true
unfolding response_row_in
abort_is None micros key code = refl
abort_is (Some t) micros key code = by (awaits_segment t Server)
  where
    by : (awaited : Bool) → is_abort_reading (if awaited then sub_block_reading t.block_size Server micros (answer_bytes (Replied (Refuse key (record { 0 = code })))) else plain_reading Server micros (answer_bytes (Replied (Refuse key (record { 0 = code }))))) ≡ true
    by true = refl
    by false = refl

pub aborted_closes : (rows : Rows) (stamp : ℕ → ℕ) (key : Key) (code : ℕ) (v : View) → Closes v.done (hears_answers rows stamp (aborted key code) v)
aborted_closes rows stamp key code v =
    let frame = answer_bytes (Replied (Refuse key (record { 0 = code }))) in
    abort_closes rows (stamp v.count) Server frame v.following.heard v.following.transfer v.got v.done v.count (reading_of v.following.transfer Server (stamp v.count) frame) (abort_is v.following.transfer (stamp v.count) key code)
