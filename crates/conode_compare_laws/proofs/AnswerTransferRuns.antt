-- Frames of a device without block transfers, one after another: nothing is found within the transfers of its default channel.
use Rattle.std.proofs.Common.{◌≡◌, ℕ, ◌+◌, Bool, true, false, List, [], ◌∷◌, Option, Some, None, refl, sym, ap, ◌∙◌, ◌⊎◌, inl, inr, subst}
use Rattle.std.specs.Prelude.{◌||◌, if◌then◌else◌, is_some, IfSome}
use Rattle.std.proofs.lemmas.Bool.{false≢true}
use Rattle.co_value.specs.declared.key.Key.{Key}
use Rattle.co_frame.specs.FrameContent.{FrameContent}
use Rattle.co_frame.specs.SdoRequests.{request_in}
use Rattle.co_frame.specs.declared.sdo_request.SdoRequest.{SdoRequest}
use Rattle.co_frame.specs.declared.sdo_request.SdoRequest.TheVariants.{DownloadExpedited, DownloadInitiate, DownloadSegment, Upload as UploadInitiate, UploadSegment as NextSegment, Abort as Abandon, BlockUploadInitiate, BlockUploadEnd as UploadEnd, BlockUploadAcknowledge, BlockUploadStart, BlockDownloadInitiate, BlockDownloadEnd}
use Rattle.co_sdo.specs.Log.{Answer, answer_bytes, frames_on}
use Rattle.co_sheet.specs.Content.{Row}
use Rattle.conode_explain_transfers.specs.declared.channel.Heard.{Heard}
use Rattle.conode_explain_transfers.specs.declared.ended.Ended.{Ended}
use Rattle.conode_explain_transfers.specs.declared.ended.Ending.{Ending}
use Rattle.conode_explain_transfers.specs.declared.ended.Ending.TheVariants.{Repeated, NotFollowed}
use Rattle.conode_explain_transfers.specs.declared.kinds.Direction.{Direction}
use Rattle.conode_explain_transfers.specs.declared.kinds.Direction.TheVariants.{Download, Upload}
use Rattle.conode_explain_transfers.specs.declared.kinds.Side.{Side}
use Rattle.conode_explain_transfers.specs.declared.kinds.Side.TheVariants.{Client, Server}
use Rattle.conode_explain_transfers.specs.declared.kinds.What.{What}
use Rattle.conode_explain_transfers.specs.declared.kinds.What.TheVariants as what
use Rattle.conode_explain_transfers.specs.declared.stage.Stage.{Stage}
use Rattle.conode_explain_transfers.specs.declared.stage.Stage.TheVariants.{BlockEnded}
use Rattle.conode_explain_transfers.specs.declared.transfer.Transfer.{Transfer}
use Rattle.conode_explain_transfers.specs.BlockTurns.{is_block}
use Rattle.conode_explain_transfers.specs.Endings.{ended}
use Rattle.conode_explain_transfers.specs.Followed.{Followed, Following, followed, key_for, left, left_by, turns_at, unless_lost}
use Rattle.conode_explain_transfers.specs.Readings.{reading_of as their_reading_of}
use Rattle.conode_explain_transfers.specs.Stages.{confirmed_with}
use Rattle.conode_explain_transfers.specs.Transfers.{Turn, after, is_same_request}
use Rattle.conode_explain_transfers.specs.Turns.{request_turn}
use Rattle.conode_explain_transfers.specs.Unanswered.{is_lost, not_followed_by, number_of, segment_follows}
use Rattle.conode_explain_laws.proofs.Readings.{Request, Nothing, follows_by, request_reading, same as same_reading, turn_of}
use Rattle.conode_explain_laws.proofs.UploadStanding.{is_ended}
use Rattle.conode_explain_laws.proofs.Views.{server_no_begin}
use Rattle.conode_compare_transfers.specs.declared.dialogue.Dialogue.{Dialogue}
use Rattle.conode_compare_transfers.specs.declared.newest.Newest.{Newest}
use Rattle.conode_compare_transfers.specs.declared.breach.Breach.TheVariants.{Early}
use Rattle.conode_compare_transfers.specs.Breaches.{breach_at, breach_by, ending_breach}
use Rattle.conode_compare_transfers.specs.Dialogues.{dialogue_heard, doubts_request, exchange_in, is_in_doubt, leaves_request_open, owes, owes_nothing}
use Rattle.conode_compare_nmt.specs.declared.finding.Finding.{Finding}
use Rattle.conode_compare_nmt.specs.declared.finding.Finding.TheVariants.{Transfer as Within}
use Rattle.conode_compare_rules.specs.declared.kind.FrameKind.{FrameKind}
use Rattle.conode_compare_rules.specs.declared.kind.FrameKind.TheVariants.{Sdo}
use Rattle.conode_compare_nmt.specs.declared.limits.Subject.{Subject}
use Rattle.conode_compare_rules.specs.declared.progress.Progress.{Progress}
use Rattle.conode_compare_rules.specs.Answers.{breach_finding}
use Rattle.conode_compare_rules.specs.FrameKinds.{data_kind}
use Rattle.conode_compare_rules.specs.Gaps.{begun}
use Rattle.conode_compare_rules.specs.Channels.{channel_heard, exchange_noted, late_noted, left_open, may_miss_end}
use Rattle.conode_compare_rules.specs.Progresses.{after_frame, findings_at, findings_in, progress_with}
use Rattle.conode_compare_laws.specs.AnswerFindings.{of_transfers, transfer_differences}
use Rattle.conode_compare_laws.proofs.AnswerTurns.{Sound, asked, in_blocks}
use Rattle.conode_compare_laws.proofs.AnswerKeys.{kept}
use Rattle.conode_compare_laws.proofs.AnswerFollowed.{client_reading, reads}
use Rattle.conode_compare_laws.proofs.AnswerBreaches.{Fine, FineEnd, refused_fine}
use Rattle.conode_compare_laws.proofs.AnswerDialogues.{channel_is, doubted_is, in_doubt}
use Rattle.conode_compare_laws.proofs.AnswerOnly.{client_found, is_breach, server_found}
use Rattle.conode_compare_laws.proofs.AnswerSteps.{Same, begun_same}
use Rattle.conode_compare_laws.proofs.AnswerTransfers.{Shape, outside_blocks, shape_goes}
use Rattle.conode_compare_laws.proofs.AnswerExchange.{answer_kind}
use Rattle.conode_compare_laws.proofs.Runs.{AllRun, joined}

-- ---- what isn't of these kinds

no_other : (finding : Finding) → is_breach finding ≡ false → of_transfers (Some finding) ≡ []
no_other (Within (Early key waited time)) off = refl
no_other (Within breach) off = absurd (cc)
no_other _ off = refl

-- ---- a frame of the server

says_is : (following : Following) (micros : ℕ) (side : Side) (bytes : List ℕ)
    → (followed following micros side bytes).says ≡ record (reads following micros side bytes).says { of = unless_lost (reads following micros side bytes).next.transfer (key_for following.transfer (their_reading_of following.transfer side bytes)) }
says_is following micros side bytes =
    ap (λ (f : Followed). record f.says { of = unless_lost f.next.transfer (key_for following.transfer (their_reading_of following.transfer side bytes)) }) (same_reading following.heard following.transfer micros side bytes bytes).followed

no_breach : (answer started : ℕ) (d : Dialogue) (micros : ℕ) (frame : FrameContent) → Fine frame (reads d.channel micros Server frame.bytes).says
    → of_transfers (breach_finding (exchange_in answer started d micros Server frame).breach) ≡ []
unfolding exchange_in
no_breach answer started d micros frame f = ap (λ h. of_transfers (breach_finding (breach_at d.newest Server h frame))) (says_is d.channel micros Server frame.bytes) ∙ f d.newest _

-- it is in doubt, or nothing is found of it in its transfer
abbrev pub IsFine : ℕ → Dialogue → FrameContent → Type 0
IsFine micros d frame = (d.doubted ≡ Some micros) ⊎ Fine frame (reads d.channel micros Server frame.bytes).says

server_none : (subject : Subject) (rows : List Row) (p : Progress) (micros : ℕ) (frame : FrameContent) → IsFine micros p.dialogue frame
    → transfer_differences (Sdo Server frame) (findings_in subject rows p micros (Sdo Server frame)) ≡ []
server_none subject rows p micros frame h =
    server_found of_transfers refl no_other subject rows p micros frame (λ certain. elim h [
      | inl doubt ↦ absurd (false≢true (sym (in_doubt subject.limits.answer p.started p.dialogue micros frame doubt) ∙ certain))
      | inr f ↦ no_breach subject.limits.answer p.started p.dialogue micros frame f
    ])

-- ---- a frame of the client

abbrev leaves_as : ℕ → Bool → Bool → Bool → Side → Ending
leaves_as number follows lost same side =
    if follows then NotFollowed (Some number) else (if lost then NotFollowed None else (if same then Repeated else left_by side))

-- how the transfer ends that another one follows
pub left_end : (frame : FrameContent) (current : Option Transfer) (micros : ℕ) (bytes : List ℕ) → FineEnd frame (left current micros bytes)
left_end frame None micros bytes = tt
left_end frame (Some t) micros bytes = by t.direction (segment_follows t bytes) (is_lost t) (is_same_request t bytes) t.by
  where
    by : (direction : Direction) (follows lost same : Bool) (side : Side) (newest : Newest)
        → of_transfers (breach_finding (ending_breach newest frame (ended t micros (leaves_as (number_of bytes) follows lost same side)) direction (leaves_as (number_of bytes) follows lost same side))) ≡ []
    by Download true lost same side newest = refl
    by Upload true lost same side newest = refl
    by Download false true same side newest = refl
    by Upload false true same side newest = refl
    by Download false false true side newest = refl
    by Upload false false true side newest = refl
    by Download false false false Client newest = refl
    by Upload false false false Client newest = refl
    by Download false false false Server newest = refl
    by Upload false false false Server newest = refl

unended : (stage : Stage) → in_blocks stage ≡ false → is_ended stage ≡ false
unended (BlockEnded crc) h = absurd (false≢true (sym h))
unended _ h = refl

-- no request confirms a transfer that isn't in blocks
turn_end : (x : Option (Option ℕ)) (heard : Bool) (w : What) (u : Transfer) (micros : ℕ) (frame : FrameContent) → is_some x ≡ false → FineEnd frame (turns_at x heard w u micros Client).says.ended
turn_end None heard w u micros frame h = tt
turn_end (Some crc) heard w u micros frame h = absurd (false≢true (sym h))

unconfirmed_by : (x : Bool) (block : Bool) → (x ≡ true → block ≡ true) → block ≡ false → x ≡ false
unconfirmed_by true block h off = absurd (false≢true (sym off ∙ h refl))
unconfirmed_by false block h off = refl

request_end : (key : Key) (heard : Bool) (t : Transfer) (request : SdoRequest) (micros : ℕ) (frame : FrameContent) → Shape key t → FineEnd frame (follows_by heard (Some t) (Request request) micros Client frame.bytes).says.ended
request_end key heard t request micros frame s =
    let turn : Turn = request_turn t request frame.bytes in
    turn_end (confirmed_with turn.transfer.stage) heard turn.what (after t turn) micros frame
    (unconfirmed_by (is_some (confirmed_with turn.transfer.stage)) (is_block turn.transfer.protocol) (asked t request frame.bytes s.sound.unconfirmed).ends ((kept t (Request request) frame.bytes).protocol s.block))

-- a reading of a request
client_end : (key : Key) (heard : Bool) (current : Option Transfer) (r : Option SdoRequest) (micros : ℕ) (frame : FrameContent) → IfSome current (Shape key)
    → FineEnd frame (follows_by heard current (request_reading r micros frame.bytes) micros Client frame.bytes).says.ended
client_end key heard current None micros frame s = by current s
  where
    by : (o : Option Transfer) → IfSome o (Shape key) → FineEnd frame (follows_by heard o Nothing micros Client frame.bytes).says.ended
    by None s = tt
    by (Some t) s = turn_end (confirmed_with t.stage) heard what.Unexpected (after t (turn_of t Nothing frame.bytes)) micros frame (ap is_some s.sound.unconfirmed)
client_end key heard None (Some (Abandon k code)) micros frame s = tt
client_end key heard (Some t) (Some (Abandon k code)) micros frame s = refused_fine frame t code micros t.direction (not_followed_by Client t frame.bytes) (inl (unended t.stage (outside_blocks key t s)))
client_end key heard current (Some (DownloadExpedited k value)) micros frame s = left_end frame current micros frame.bytes
client_end key heard current (Some (DownloadInitiate k size)) micros frame s = left_end frame current micros frame.bytes
client_end key heard current (Some (UploadInitiate k)) micros frame s = left_end frame current micros frame.bytes
client_end key heard current (Some (BlockUploadInitiate k size threshold)) micros frame s = left_end frame current micros frame.bytes
client_end key heard current (Some (BlockDownloadInitiate k size)) micros frame s = left_end frame current micros frame.bytes
client_end key heard None (Some (DownloadSegment toggle segment last)) micros frame s = tt
client_end key heard (Some t) (Some (DownloadSegment toggle segment last)) micros frame s = request_end key heard t (DownloadSegment toggle segment last) micros frame s
client_end key heard None (Some (NextSegment toggle)) micros frame s = tt
client_end key heard (Some t) (Some (NextSegment toggle)) micros frame s = request_end key heard t (NextSegment toggle) micros frame s
client_end key heard None (Some UploadEnd) micros frame s = tt
client_end key heard (Some t) (Some UploadEnd) micros frame s = request_end key heard t UploadEnd micros frame s
client_end key heard None (Some (BlockUploadAcknowledge sequence size)) micros frame s = tt
client_end key heard (Some t) (Some (BlockUploadAcknowledge sequence size)) micros frame s = request_end key heard t (BlockUploadAcknowledge sequence size) micros frame s
client_end key heard None (Some BlockUploadStart) micros frame s = tt
client_end key heard (Some t) (Some BlockUploadStart) micros frame s = request_end key heard t BlockUploadStart micros frame s
client_end key heard None (Some (BlockDownloadEnd unused)) micros frame s = tt
client_end key heard (Some t) (Some (BlockDownloadEnd unused)) micros frame s = request_end key heard t (BlockDownloadEnd unused) micros frame s

client_breach : (newest : Option Newest) (heard : Heard) (frame : FrameContent) → FineEnd frame heard.ended → of_transfers (breach_finding (breach_at newest Client heard frame)) ≡ []
unfolding breach_at
client_breach None heard frame h = refl
client_breach (Some newest) heard frame h = by heard.ended h
  where
    by : (o : Option Ended) → FineEnd frame o → of_transfers (breach_finding (breach_by newest Client heard frame o)) ≡ []
    by None h = refl
    by (Some e) h = h newest

says_client : (d : Dialogue) (micros : ℕ) (frame : FrameContent) → IfSome d.channel.transfer Sound
    → (followed d.channel micros Client frame.bytes).says.ended ≡ (follows_by d.channel.heard d.channel.transfer (request_reading (request_in frame.bytes) micros frame.bytes) micros Client frame.bytes).says.ended
says_client d micros frame s =
    ap (λ (h : Heard). h.ended) (says_is d.channel micros Client frame.bytes)
    ∙ ap (λ r. (follows_by d.channel.heard d.channel.transfer r micros Client frame.bytes).says.ended) (client_reading d.channel.transfer micros frame.bytes s)

pub sound_in : (key : Key) (o : Option Transfer) → IfSome o (Shape key) → IfSome o Sound
sound_in key None s = tt
sound_in key (Some t) s = s.sound

client_breach_none : (key : Key) (answer started : ℕ) (d : Dialogue) (micros : ℕ) (frame : FrameContent) → IfSome d.channel.transfer (Shape key) → of_transfers (breach_finding (exchange_in answer started d micros Client frame).breach) ≡ []
unfolding exchange_in
client_breach_none key answer started d micros frame s =
    client_breach d.newest (followed d.channel micros Client frame.bytes).says frame
    (subst (FineEnd frame) (sym (says_client d micros frame (sound_in key d.channel.transfer s))) (client_end key d.channel.heard d.channel.transfer (request_in frame.bytes) micros frame s))

client_none : (key : Key) (subject : Subject) (rows : List Row) (p : Progress) (micros : ℕ) (frame : FrameContent) → IfSome p.dialogue.channel.transfer (Shape key)
    → transfer_differences (Sdo Client frame) (findings_in subject rows p micros (Sdo Client frame)) ≡ []
client_none key subject rows p micros frame s =
    client_found of_transfers refl no_other subject rows p micros frame (λ certain. client_breach_none key subject.limits.answer p.started p.dialogue micros frame s)

-- ---- frames one after another

-- nothing is found at a frame, and this holds then
pub record Quiet (subject : Subject) (rows : List Row) (p : Progress) (micros : ℕ) (kind : FrameKind) (after : Progress → Type 0) : Type 0 where
  pub none : transfer_differences kind (findings_in subject rows p micros kind) ≡ []
  pub next : after (after_frame subject p micros kind)

pub frame_runs : (subject : Subject) (rows : List Row) (micros : ℕ) (p : Progress) (frame : FrameContent) (kind : FrameKind) (after : Progress → Type 0) → data_kind subject.node frame ≡ kind
    → Quiet subject rows (begun subject p micros) micros kind after → AllRun transfer_differences subject rows micros p (frame ∷ []) after
unfolding findings_at progress_with
frame_runs subject rows micros p frame kind after is q =
    let at : Quiet subject rows (begun subject p micros) micros (data_kind subject.node frame) after = subst (λ k. Quiet subject rows (begun subject p micros) micros k after) (sym is) q in
    (at.none, at.next)

pub cons_runs : (subject : Subject) (rows : List Row) (micros : ℕ) (p : Progress) (frame : FrameContent) (later : List FrameContent) (kind : FrameKind) (between after : Progress → Type 0) → data_kind subject.node frame ≡ kind
    → Quiet subject rows (begun subject p micros) micros kind between → ((q : Progress) → between q → AllRun transfer_differences subject rows micros q later after)
    → AllRun transfer_differences subject rows micros p (frame ∷ later) after
cons_runs subject rows micros p frame later kind between after is q rest =
    joined transfer_differences subject rows micros (frame ∷ []) later p between after (frame_runs subject rows micros p frame kind between is q) rest

pub server_quiet : (subject : Subject) (rows : List Row) (p : Progress) (micros : ℕ) (frame : FrameContent) (After : Option ℕ → Dialogue → Type 0) → IsFine micros p.dialogue frame
    → After p.newest (dialogue_heard subject.limits.answer p.started p.dialogue micros Server frame)
    → Quiet subject rows p micros (Sdo Server frame) (λ q. After q.newest q.dialogue)
unfolding channel_heard exchange_noted late_noted
server_quiet subject rows p micros frame After f h = record { none = server_none subject rows p micros frame f; next = h }

pub client_quiet : (key : Key) (subject : Subject) (rows : List Row) (p : Progress) (micros : ℕ) (frame : FrameContent) (After : Option ℕ → Dialogue → Type 0) → IfSome p.dialogue.channel.transfer (Shape key)
    → After p.newest (left_open Client (may_miss_end p.nmt micros frame) (dialogue_heard subject.limits.answer p.started p.dialogue micros Client frame))
    → Quiet subject rows p micros (Sdo Client frame) (λ q. After q.newest q.dialogue)
unfolding channel_heard exchange_noted
client_quiet key subject rows p micros frame After s h = record { none = client_none key subject rows p micros frame s; next = h }

-- ---- the transfer after a frame of the server

pub shape_after : (key : Key) (answer started : ℕ) (d : Dialogue) (micros : ℕ) (frame : FrameContent) → IfSome d.channel.transfer (Shape key)
    → IfSome (dialogue_heard answer started d micros Server frame).channel.transfer (Shape key)
shape_after key answer started d micros frame s =
    subst (λ (f : Following). IfSome f.transfer (Shape key)) (sym (channel_is answer started d micros Server frame))
    (shape_goes key d.channel.heard d.channel.transfer _ micros Server frame.bytes s (server_no_begin d.channel.transfer micros frame.bytes))

doubt_after : (answer started : ℕ) (d : Dialogue) (micros : ℕ) (frame : FrameContent) → d.doubted ≡ Some micros → (dialogue_heard answer started d micros Server frame).doubted ≡ Some micros
doubt_after answer started d micros frame h = doubted_is answer started d micros Server frame ∙ by (leaves_request_open (owes answer started d) (owes_nothing d.newest) Server d.doubted (reads d.channel micros Server frame.bytes).says frame || is_in_doubt (doubts_request answer d micros frame) (reads d.channel micros Server frame.bytes).says.what)
  where
    by : (b : Bool) → (if b then Some micros else d.doubted) ≡ Some micros
    by true = refl
    by false = h

abbrev pub HasShape : Key → Progress → Type 0
HasShape key q = IfSome q.dialogue.channel.transfer (Shape key)

-- answers in doubt
pub record InDoubt (key : Key) (micros : ℕ) (newest : Option ℕ) (d : Dialogue) : Type 0 where
  pub now : newest ≡ Some micros
  pub doubt : d.doubted ≡ Some micros
  pub shape : IfSome d.channel.transfer (Shape key)

pub doubt_runs : (key : Key) (subject : Subject) (rows : List Row) (micros : ℕ) (answers : List Answer) (q : Progress) → InDoubt key micros q.newest q.dialogue
    → AllRun transfer_differences subject rows micros q (frames_on (0x580 + subject.node) answers) (HasShape key)
doubt_runs key subject rows micros [] q h = h.shape
doubt_runs key subject rows micros (answer ∷ later) q h =
    let same : Same q (begun subject q micros) micros = begun_same subject q micros h.now in
    let p : Progress = begun subject q micros in
    let doubt : p.dialogue.doubted ≡ Some micros = ap (λ (d : Dialogue). d.doubted) same.dialogue ∙ h.doubt in
    let shape : IfSome p.dialogue.channel.transfer (Shape key) = subst (λ (d : Dialogue). IfSome d.channel.transfer (Shape key)) (sym same.dialogue) h.shape in
    let frame : FrameContent = record { id = 0x580 + subject.node; bytes = answer_bytes answer } in
    cons_runs subject rows micros q frame (frames_on (0x580 + subject.node) later) (Sdo Server frame) (λ x. InDoubt key micros x.newest x.dialogue) (HasShape key) (answer_kind subject.node (answer_bytes answer))
    (server_quiet subject rows p micros frame (InDoubt key micros) (inl doubt)
    (record {
      now = same.newest;
      doubt = doubt_after subject.limits.answer p.started p.dialogue micros frame doubt;
      shape = shape_after key subject.limits.answer p.started p.dialogue micros frame shape;
    }))
    (λ x g. doubt_runs key subject rows micros later x g)

-- one answer, of which nothing is found with this transfer
pub one_runs : (key : Key) (subject : Subject) (rows : List Row) (micros : ℕ) (answer : Answer) (q : Progress) (t : Transfer) → q.newest ≡ Some micros → q.dialogue.channel.transfer ≡ Some t → Shape key t
    → ((heard : Bool) → Fine (record { id = 0x580 + subject.node; bytes = answer_bytes answer }) (reads (record { heard = heard; transfer = Some t }) micros Server (answer_bytes answer)).says)
    → AllRun transfer_differences subject rows micros q (frames_on (0x580 + subject.node) (answer ∷ [])) (HasShape key)
one_runs key subject rows micros answer q t now is shape f =
    let same : Same q (begun subject q micros) micros = begun_same subject q micros now in
    let p : Progress = begun subject q micros in
    let here : p.dialogue.channel.transfer ≡ Some t = ap (λ (d : Dialogue). d.channel.transfer) same.dialogue ∙ is in
    let frame : FrameContent = record { id = 0x580 + subject.node; bytes = answer_bytes answer } in
    frame_runs subject rows micros q frame (Sdo Server frame) (HasShape key) (answer_kind subject.node (answer_bytes answer))
    (server_quiet subject rows p micros frame (λ newest d. IfSome d.channel.transfer (Shape key))
    (inr (subst (λ o. Fine frame (reads (record { heard = p.dialogue.channel.heard; transfer = o }) micros Server frame.bytes).says) (sym here) (f p.dialogue.channel.heard)))
    (shape_after key subject.limits.answer p.started p.dialogue micros frame (subst (λ o. IfSome o (Shape key)) (sym here) shape)))
