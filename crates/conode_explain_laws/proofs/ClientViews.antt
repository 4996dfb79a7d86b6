-- What explain knows after each frame of a client's recording, and which frames complete nothing.
use Rattle.std.proofs.Common.{◌≡◌, ℕ, suc, ◌+◌, ◌*◌, Bool, true, false, not, List, [], ◌∷◌, ◌++◌, length, Option, Some, None, refl, sym, ap, ◌∙◌, ◌⊎◌, inl, inr}
use Rattle.std.specs.Prelude.{if◌then◌else◌, IfSome, nat_lt, ◌==◌, ◌&&◌}
use Rattle.std.proofs.lemmas.Bool.{false≢true}
use Rattle.arrayvec.specs.ArrayVec.{ArrayVec}
use Rattle.co_value.specs.declared.key.Key.{Key}
use Rattle.co_value.specs.Keys.{same_key}
use Rattle.co_frame.specs.SdoRequests.{request_row_in, request_bytes}
use Rattle.co_frame.specs.declared.sdo_request.SdoRequest.TheVariants.{Abort as Abandon}
use Rattle.co_frame.specs.declared.sdo_response.SdoResponse.{SdoResponse}
use Rattle.co_frame.specs.declared.sdo_response.SdoResponse.TheVariants.{DownloadDone, DownloadSegmentDone, UploadExpedited, UploadInitiated, UploadSegment, Abort as Refuse, BlockDownloadInitiated, BlockDownloadDone, BlockDownloadAcknowledge, BlockUploadInitiated, BlockUploadEnd as EndSent}
use Rattle.co_sdo_client.specs.Calls.{Call, Message, Request as Asked, message_bytes}
use Rattle.conode_explain_transfers.specs.declared.kinds.Direction.TheVariants.{Upload}
use Rattle.conode_explain_transfers.specs.declared.kinds.Side.{Side}
use Rattle.conode_explain_transfers.specs.declared.kinds.Side.TheVariants.{Client, Server}
use Rattle.conode_explain_transfers.specs.declared.kinds.What.{What}
use Rattle.conode_explain_transfers.specs.declared.kinds.What.TheVariants.{Overtaken}
use Rattle.conode_explain_transfers.specs.declared.stage.Stage.{Stage as Progress}
use Rattle.conode_explain_transfers.specs.declared.stage.Stage.TheVariants.{Initiated, DownloadConfirmed, DownloadSent, UploadTaken, UploadAsked, SubBlock, AllAcknowledged, BlockEnded}
use Rattle.conode_explain_transfers.specs.declared.transfer.Transfer.{Transfer}
use Rattle.conode_explain_transfers.specs.BlockTurns.{is_block, next_sub_block, acknowledged, acknowledged_at, block_ended, block_ended_at, end_confirmed, end_confirmed_at, crc_in}
use Rattle.conode_explain_transfers.specs.Data.{data_with, data_after}
use Rattle.conode_explain_transfers.specs.Endings.{verdict}
use Rattle.conode_explain_transfers.specs.Followed.{Event, Following, Followed, following_after, with_frame, turns, turns_at}
use Rattle.conode_explain_transfers.specs.Readings.{awaits_segment}
use Rattle.conode_explain_transfers.specs.SegmentedTurns.{answering, segment_done_at, upload_segment_at}
use Rattle.conode_explain_transfers.specs.Stages.{is_initiated, confirmed_with}
use Rattle.conode_explain_transfers.specs.Transfers.{Turn, after, is_download, awaited_number, irregular, unexpected, overtaken, goes_on, takes_pending}
use Rattle.conode_explain_transfers.specs.Turns.{response_turn}
use Rattle.conode_explain_transfers.specs.Unanswered.{not_followed_by}
use Rattle.conode_explain_laws.specs.Recordings.{and_frame}
use Rattle.conode_explain_laws.specs.Downloads.{if_done}
use Rattle.conode_explain_laws.specs.Clients.{Transferred, refuses, transfer_said, transfers_done, and_messages}
use Rattle.conode_explain_laws.proofs.Readings.{Reading, Segment, Begin, Abort, Request, Response, Nothing, plain_reading, sub_block_reading, reading_of, turn_of, follows_by, bytes_by, same as same_reading}
use Rattle.conode_explain_laws.proofs.Kept.{keeps}
use Rattle.conode_explain_laws.proofs.Follows.{IsLate}
use Rattle.conode_explain_laws.proofs.Views.{abort_no_write, is_abort_reading, is_begin, server_no_begin}

-- ---- what explain knows

-- the open transfer with its data, the transfers that are done, and how many frames there are
pub record Seen : Type 0 where
  pub following : Following
  pub got : List ℕ
  pub done : List Transferred
  pub count : ℕ

abbrev pub seen_of : Call → List Event → Seen
seen_of call recording = record {
  following = following_after recording;
  got = data_after recording;
  done = transfers_done call recording;
  count = length recording;
}

-- explain has this transfer, or none
abbrev pub holds : Bool → Option Transfer → List ℕ → List Transferred → ℕ → Seen
holds heard current got done count = record { following = record { heard = heard; transfer = current }; got = got; done = done; count = count }

-- explain has lost an upload, and will never say that it is done
abbrev pub IsLost : Transfer → Type 0
IsLost t = (t.irregular ≡ true) × (t.direction ≡ Upload)

module _ (call : Call) where
  -- after what a frame makes of it
  abbrev pub after_frame : Seen → Followed → List ℕ → Seen
  after_frame v followed got = record {
    following = followed.next;
    got = got;
    done = transfer_said call followed.says.ended got (suc v.count) ++ v.done;
    count = suc v.count;
  }

  -- after a frame that is read so
  abbrev pub read_as : ℕ → Side → List ℕ → Seen → Reading → Seen
  read_as micros side frame v reading =
      after_frame v (follows_by v.following.heard v.following.transfer reading micros side frame)
      (bytes_by v.following.transfer reading frame v.got)

  -- after a frame
  abbrev pub hears : (ℕ → ℕ) → Side → List ℕ → Seen → Seen
  hears stamp side frame v = read_as (stamp v.count) side frame v (reading_of v.following.transfer side (stamp v.count) frame)

  pub hears_frame : (stamp : ℕ → ℕ) (side : Side) (frame : List ℕ) (recording : List Event)
      → seen_of call (and_frame stamp side frame recording) ≡ hears stamp side frame (seen_of call recording)
  hears_frame stamp side frame recording =
      let v = seen_of call recording in
      let s = same_reading v.following.heard v.following.transfer (stamp v.count) side frame v.got in
      ap (λ f. after_frame v f (data_after (and_frame stamp side frame recording))) s.followed
      ∙ ap (λ bytes. after_frame v (follows_by v.following.heard v.following.transfer (reading_of v.following.transfer side (stamp v.count) frame) (stamp v.count) side frame) bytes) s.bytes_are

  -- after messages of the client
  abbrev pub says : (ℕ → ℕ) → List Message → Seen → Seen
  says stamp [] v = v
  says stamp (message ∷ later) v = says stamp later (hears stamp Client (message_bytes message) v)

  pub says_all : (stamp : ℕ → ℕ) (messages : List Message) (recording : List Event) → seen_of call (and_messages stamp messages recording) ≡ says stamp messages (seen_of call recording)
  says_all stamp [] recording = refl
  says_all stamp (message ∷ later) recording =
      says_all stamp later (and_frame stamp Client (message_bytes message) recording) ∙ ap (says stamp later) (hears_frame stamp Client (message_bytes message) recording)

  -- ---- aborts

  pub unless_none : (b : Bool) (write : List Transferred) → write ≡ [] → (if b then [] else write) ≡ []
  unless_none true write h = refl
  unless_none false write h = h

  -- nothing is open then, and nothing more done
  pub record Closes (done : List Transferred) (v : Seen) : Type 0 where
    pub none : v.following.transfer ≡ None
    pub same : v.done ≡ done

  pub abort_closes : (micros : ℕ) (side : Side) (frame : List ℕ) (heard : Bool) (current : Option Transfer) (got : List ℕ) (done : List Transferred) (count : ℕ) (reading : Reading)
      → is_abort_reading reading ≡ true → Closes done (read_as micros side frame (holds heard current got done count) reading)
  abort_closes micros side frame heard None got done count (Abort code) h = record { none = refl; same = refl }
  abort_closes micros side frame heard (Some t) got done count (Abort code) h = record {
    none = refl;
    same = ap (λ w. w ++ done) (unless_none (refuses call.mode call.job t.protocol got) _ (abort_no_write side (not_followed_by side t frame) code _));
  }
  abort_closes micros side frame heard current got done count _ h = absurd (false≢true h)

  client_abort_is : (current : Option Transfer) (micros : ℕ) (key : Key) (code : ℕ) → is_abort_reading (reading_of current Client micros (request_bytes (Abandon key (record { 0 = code })))) ≡ true
  unfolding request_row_in
  client_abort_is None micros key code = refl
  client_abort_is (Some t) micros key code = by (awaits_segment t Client)
    where
      by : (awaited : Bool) → is_abort_reading (if awaited then sub_block_reading t.block_size Client micros (request_bytes (Abandon key (record { 0 = code }))) else plain_reading Client micros (request_bytes (Abandon key (record { 0 = code })))) ≡ true
      by true = refl
      by false = refl

  pub client_closes : (stamp : ℕ → ℕ) (key : Key) (code : ℕ) (v : Seen) → Closes v.done (says stamp (Asked (Abandon key (record { 0 = code })) ∷ []) v)
  client_closes stamp key code v =
      let frame = request_bytes (Abandon key (record { 0 = code })) in
      abort_closes (stamp v.count) Client frame v.following.heard v.following.transfer v.got v.done v.count (reading_of v.following.transfer Client (stamp v.count) frame) (client_abort_is v.following.transfer (stamp v.count) key code)

  -- ---- a frame that completes nothing

  -- after a frame that makes this of the open transfer
  abbrev pub turned : ℕ → Side → Bool → Transfer → List ℕ → List Transferred → ℕ → Turn → Seen
  turned micros side heard t got done count turn = record {
    following = (turns heard t turn micros side).next;
    got = data_with got turn.takes;
    done = transfer_said call (turns heard t turn micros side).says.ended (data_with got turn.takes) (suc count) ++ done;
    count = suc count;
  }

  spoilt_ending : (u : Transfer) (crc : Option ℕ) (write : List Transferred) → u.irregular ≡ true → if_done (verdict u crc) write ≡ []
  spoilt_ending u crc write i = rw i refl

  pub late_turns : (x : Option (Option ℕ)) (heard : Bool) (what : What) (u : Transfer) (got : List ℕ) (done : List Transferred) (count micros : ℕ) (side : Side)
      → confirmed_with u.stage ≡ x → (u.irregular ≡ true) ⊎ (confirmed_with u.stage ≡ None)
      → transfer_said call (turns_at x heard what u micros side).says.ended got count ++ done ≡ done
  late_turns None heard what u got done count micros side e late = refl
  late_turns (Some crc) heard what u got done count micros side e (inl i) = ap (λ w. w ++ done) (unless_none (refuses call.mode call.job u.protocol got) _ (spoilt_ending u crc _ i))
  late_turns (Some crc) heard what u got done count micros side e (inr n) = absurd (let f : None ≡ Some crc = sym n ∙ e in cc)

  -- its transfer isn't confirmed, or is irregular
  pub late_turn : (micros : ℕ) (side : Side) (heard : Bool) (t : Transfer) (got : List ℕ) (done : List Transferred) (count : ℕ) (turn : Turn)
      → IsLate turn → (turned micros side heard t got done count turn).done ≡ done
  late_turn micros side heard t got done count turn late =
      late_turns (confirmed_with turn.transfer.stage) heard turn.what (after t turn) (data_with got turn.takes) done (suc count) micros side refl late

  -- ---- an irregular upload

  pub record Loses (done : List Transferred) (v : Seen) : Type 0 where
    pub lost : IfSome v.following.transfer IsLost
    pub same : v.done ≡ done

  lost_frame : (what : What) (u : Transfer) (micros : ℕ) (side : Side) → IsLost u → IsLost (with_frame what u micros side)
  lost_frame Overtaken u micros side h = h
  lost_frame _ u micros side h = h

  lost_turns : (x : Option (Option ℕ)) (heard : Bool) (what : What) (u : Transfer) (got : List ℕ) (done : List Transferred) (count micros : ℕ) (side : Side) → IsLost u
      → Loses done (record {
        following = (turns_at x heard what u micros side).next;
        got = got;
        done = transfer_said call (turns_at x heard what u micros side).says.ended got count ++ done;
        count = count;
      })
  lost_turns None heard what u got done count micros side h = record { lost = lost_frame what u micros side h; same = refl }
  lost_turns (Some crc) heard what u got done count micros side h = record {
    lost = tt;
    same = ap (λ w. w ++ done) (unless_none (refuses call.mode call.job u.protocol got) _ (spoilt_ending u crc _ h.0));
  }

  pub lost_turn : (micros : ℕ) (side : Side) (frame : List ℕ) (heard : Bool) (t : Transfer) (got : List ℕ) (done : List Transferred) (count : ℕ) (turn : Turn)
      → IsLost turn.transfer → Loses done (turned micros side heard t got done count turn)
  lost_turn micros side frame heard t got done count turn h =
      lost_turns (confirmed_with turn.transfer.stage) heard turn.what (after t turn) (data_with got turn.takes) done (suc count) micros side h

  stays_lost : (t : Transfer) (reading : Reading) (frame : List ℕ) → IsLost t → IsLost (turn_of t reading frame).transfer
  stays_lost t reading frame h = let k = keeps t reading frame in (k.irregular h.0, k.direction ∙ h.1)

  pub lost_reads : (micros : ℕ) (side : Side) (frame : List ℕ) (heard : Bool) (current : Option Transfer) (got : List ℕ) (done : List Transferred) (count : ℕ) (reading : Reading)
      → IfSome current IsLost → is_begin reading ≡ false → Loses done (read_as micros side frame (holds heard current got done count) reading)
  lost_reads micros side frame heard current got done count (Begin new) h n = absurd (false≢true (sym n))
  lost_reads micros side frame heard None got done count _ h n = record { lost = tt; same = refl }
  lost_reads micros side frame heard (Some t) got done count (Abort code) h n = record {
    lost = tt;
    same = ap (λ w. w ++ done) (unless_none (refuses call.mode call.job t.protocol got) _ (abort_no_write side (not_followed_by side t frame) code _));
  }
  lost_reads micros side frame heard (Some t) got done count (Segment segment) h n = lost_turn micros side frame heard t got done count (turn_of t (Segment segment) frame) (stays_lost t (Segment segment) frame h)
  lost_reads micros side frame heard (Some t) got done count (Request request) h n = lost_turn micros side frame heard t got done count (turn_of t (Request request) frame) (stays_lost t (Request request) frame h)
  lost_reads micros side frame heard (Some t) got done count (Response response) h n = lost_turn micros side frame heard t got done count (turn_of t (Response response) frame) (stays_lost t (Response response) frame h)
  lost_reads micros side frame heard (Some t) got done count Nothing h n = lost_turn micros side frame heard t got done count (turn_of t Nothing frame) (stays_lost t Nothing frame h)

  -- a frame of the server
  pub lost_answer : (stamp : ℕ → ℕ) (frame : List ℕ) (v : Seen) → IfSome v.following.transfer IsLost → Loses v.done (hears stamp Server frame v)
  lost_answer stamp frame v h =
      lost_reads (stamp v.count) Server frame v.following.heard v.following.transfer v.got v.done v.count (reading_of v.following.transfer Server (stamp v.count) frame) h (server_no_begin v.following.transfer (stamp v.count) frame)

-- ---- responses that confirm nothing

-- the response that may confirm a transfer, or that answers its initiate request
abbrev pub is_expected : Progress → SdoResponse → Bool
is_expected Initiated (DownloadDone key) = true
is_expected Initiated (UploadExpedited key value) = true
is_expected (DownloadSent sent last) (DownloadSegmentDone toggle) = true
is_expected (UploadAsked asked) (UploadSegment toggle segment last) = true
is_expected (BlockEnded crc) BlockDownloadDone = true
is_expected _ _ = false

pub either_late : (b : Bool) (x y : Turn) → IsLate x → IsLate y → IsLate (if b then x else y)
either_late true x y hx hy = hx
either_late false x y hx hy = hy

-- an answer to initiate that doesn't confirm it
pub late_answering : (t : Transfer) (key : Key) (turn : Turn) → confirmed_with t.stage ≡ None → IsLate turn → IsLate (answering t key turn)
late_answering t key turn u l = either_late (is_initiated t.stage) _ (unexpected t) (either_late (same_key key t.key) turn _ l (inr u)) (inl refl)

-- one of another entry
pub late_other_key : (t : Transfer) (key : Key) (turn : Turn) → confirmed_with t.stage ≡ None → same_key key t.key ≡ false → IsLate (answering t key turn)
late_other_key t key turn u e = either_late (is_initiated t.stage) (if same_key key t.key then turn else overtaken t) (unexpected t) (other (same_key key t.key) e) (inl refl)
  where
    other : (b : Bool) → b ≡ false → IsLate (if b then turn else overtaken t)
    other true e = absurd (false≢true (sym e))
    other false e = inr u

-- after initiate none is awaited
late_first : (stage : Progress) (t : Transfer) (key : Key) (turn : Turn) (response : SdoResponse) → t.stage ≡ stage → is_expected Initiated response ≡ true → is_expected stage response ≡ false → IsLate (answering t key turn)
late_first Initiated t key turn response e first h = absurd (false≢true (sym h ∙ first))
late_first _ t key turn response e first h = rw e (inl refl)

late_segment_done : (stage : Progress) (t : Transfer) (toggle : Bool) → is_expected stage (DownloadSegmentDone toggle) ≡ false → IsLate (segment_done_at stage t toggle)
late_segment_done (DownloadSent sent last) t toggle h = absurd (false≢true (sym h))
late_segment_done (DownloadConfirmed awaited) t toggle h = either_late _ _ _ (inl refl) (inl refl)
late_segment_done _ t toggle h = inl refl

late_end : (stage : Progress) (t : Transfer) → is_expected stage BlockDownloadDone ≡ false → IsLate (end_confirmed_at stage t)
late_end (BlockEnded crc) t h = absurd (false≢true (sym h))
late_end Initiated t h = inl refl
late_end _ t h = inl refl

late_end_confirmed : (by_receiver : Bool) (t : Transfer) → is_expected t.stage BlockDownloadDone ≡ false → IsLate (end_confirmed by_receiver t)
late_end_confirmed true t h = either_late (is_block t.protocol) (end_confirmed_at t.stage t) (unexpected t) (late_end t.stage t h) (inl refl)
late_end_confirmed false t h = inl refl

pub late_acknowledged : (stage : Progress) (t : Transfer) (sequence size : ℕ) → IsLate (acknowledged_at stage t sequence size)
late_acknowledged (SubBlock last) t sequence size = by (nat_lt sequence (awaited_number t)) (last && (sequence + 1 == awaited_number t))
  where
    by : (came all : Bool)
        → IsLate (if came then (if all then goes_on (record t { stage = AllAcknowledged }) else takes_pending (next_sub_block t size) (7 * sequence)) else takes_pending (next_sub_block (irregular t) size) (7 * sequence))
    by true true = inr refl
    by true false = inr refl
    by false all = inl refl
late_acknowledged _ t sequence size = inl refl

late_by_receiver : (by_receiver : Bool) (t : Transfer) (sequence size : ℕ) → IsLate (acknowledged by_receiver t sequence size)
late_by_receiver true t sequence size = late_acknowledged t.stage t sequence size
late_by_receiver false t sequence size = inl refl

late_ended : (stage : Progress) (t : Transfer) (unused crc : ℕ) → IsLate (block_ended_at stage t unused crc)
late_ended AllAcknowledged t unused crc = inr refl
late_ended _ t unused crc = inl refl

late_by_sender : (by_sender : Bool) (t : Transfer) (unused crc : ℕ) → IsLate (block_ended by_sender t unused crc)
late_by_sender true t unused crc = late_ended t.stage t unused crc
late_by_sender false t unused crc = inl refl

late_upload_segment : (stage : Progress) (t : Transfer) (toggle : Bool) (segment : ArrayVec ℕ) (last : Bool) → is_expected stage (UploadSegment toggle segment last) ≡ false → IsLate (upload_segment_at stage t toggle segment last)
late_upload_segment (UploadAsked asked) t toggle segment last h = absurd (false≢true (sym h))
late_upload_segment (UploadTaken awaited) t toggle segment last h = either_late _ _ _ (inl refl) (inl refl)
late_upload_segment _ t toggle segment last h = inl refl

pub late_response : (t : Transfer) (response : SdoResponse) (frame : List ℕ) → confirmed_with t.stage ≡ None → is_expected t.stage response ≡ false → IsLate (response_turn t response frame)
late_response t (DownloadDone key) frame u h = late_first t.stage t key _ (DownloadDone key) refl refl h
late_response t (DownloadSegmentDone toggle) frame u h = late_segment_done t.stage t toggle h
late_response t (UploadExpedited key value) frame u h = late_first t.stage t key _ (UploadExpedited key value) refl refl h
late_response t (UploadInitiated key size) frame u h = late_answering t key _ u (either_late (is_download t.direction) (unexpected t) _ (inl refl) (inr refl))
late_response t (UploadSegment toggle segment last) frame u h = late_upload_segment t.stage t toggle segment last h
late_response t (Refuse key code) frame u h = inl refl
late_response t (BlockDownloadInitiated key size) frame u h = late_answering t key _ u (either_late (is_download t.direction && is_block t.protocol) _ (unexpected t) (inr refl) (inl refl))
late_response t BlockDownloadDone frame u h = late_end_confirmed (is_download t.direction) t h
late_response t (BlockDownloadAcknowledge sequence size) frame u h = late_by_receiver (is_download t.direction) t sequence size
late_response t (BlockUploadInitiated key size) frame u h =
    late_answering t key _ u (either_late (is_download t.direction) (unexpected t) _ (inl refl) (either_late (is_block t.protocol) _ (unexpected t) (inr refl) (inl refl)))
late_response t (EndSent unused) frame u h = late_by_sender (not (is_download t.direction)) t unused (crc_in frame)
