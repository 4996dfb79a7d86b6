-- One frame of the channel: no transfer ends in it with another size or CRC than was indicated, where that is so of explain's.
use Rattle.std.proofs.Common.{◌≡◌, ℕ, ◌+◌, Bool, true, false, List, [], ◌∷◌, Option, Some, None, refl, sym, ap, ◌∙◌, subst}
use Rattle.std.specs.Prelude.{◌%◌, ◌/◌, ◌==◌, ◌||◌, if◌then◌else◌}
use Rattle.co_value.specs.declared.key.Key.{Key}
use Rattle.co_value.specs.Keys.{same_key}
use Rattle.co_frame_aborts.specs.AbortCodes.{unknown_command}
use Rattle.co_frame.specs.FrameContent.{FrameContent}
use Rattle.co_frame.specs.declared.sdo_response.SdoResponse.TheVariants.{Abort as Refuse}
use Rattle.co_sdo.specs.Log.{Answer, Response as Replied, answer_bytes, frames_on}
use Rattle.co_sdo.specs.Replies.{aborted}
use Rattle.co_sheet.specs.Content.{Row}
use Rattle.conode_explain_transfers.specs.declared.channel.Heard.{Heard}
use Rattle.conode_explain_transfers.specs.declared.ended.Ended.{Ended}
use Rattle.conode_explain_transfers.specs.declared.ended.Ending.{Ending}
use Rattle.conode_explain_transfers.specs.declared.ended.Ending.TheVariants.{Aborted, CrcDiffers, SizeDiffers}
use Rattle.conode_explain_transfers.specs.declared.kinds.Direction.{Direction}
use Rattle.conode_explain_transfers.specs.declared.kinds.Direction.TheVariants.{Upload}
use Rattle.conode_explain_transfers.specs.declared.kinds.Side.{Side}
use Rattle.conode_explain_transfers.specs.declared.kinds.Side.TheVariants.{Client, Server}
use Rattle.conode_explain_transfers.specs.declared.kinds.What.{What}
use Rattle.conode_explain_transfers.specs.declared.kinds.What.TheVariants as what
use Rattle.conode_explain_transfers.specs.Followed.{Followed, Following, followed}
use Rattle.conode_explain_laws.proofs.Readings.{same as same_reading}
use Rattle.conode_explain_laws.proofs.UploadViews.{hears, hears_answers}
use Rattle.conode_explain_laws.proofs.Views.{View}
use Rattle.conode_compare_transfers.specs.declared.breach.Breach.TheVariants.{AbortKey, Early, Form}
use Rattle.conode_compare_transfers.specs.declared.dialogue.Dialogue.{Dialogue}
use Rattle.conode_compare_transfers.specs.declared.newest.Newest.{Newest}
use Rattle.conode_compare_transfers.specs.declared.newest.Newest.TheVariants.{Acknowledge, AllAcknowledged, Data, LastData, LaterAcknowledge, LaterData, Request}
use Rattle.conode_compare_transfers.specs.Breaches.{breach_at, ending_breach, fault_breach, key_in, keyed_breach, may_refuse_next, names_none, server_breach}
use Rattle.conode_compare_transfers.specs.Dialogues.{dialogue_heard, exchange_in}
use Rattle.conode_compare_nmt.specs.declared.finding.Finding.{Finding}
use Rattle.conode_compare_nmt.specs.declared.finding.Finding.TheVariants.{Transfer}
use Rattle.conode_compare_rules.specs.declared.kind.FrameKind.TheVariants.{Sdo}
use Rattle.conode_compare_nmt.specs.declared.limits.Subject.{Subject}
use Rattle.conode_compare_rules.specs.declared.progress.Progress.{Progress}
use Rattle.conode_compare_rules.specs.Answers.{breach_finding}
use Rattle.conode_compare_rules.specs.FrameKinds.{data_kind}
use Rattle.conode_compare_rules.specs.Gaps.{begun}
use Rattle.conode_compare_rules.specs.Channels.{channel_heard, exchange_noted, late_noted, left_open, may_miss_end}
use Rattle.conode_compare_rules.specs.Progresses.{after_frame, findings_at, findings_in, progress_with}
use Rattle.conode_compare_laws.specs.AnswerFindings.{data_differences, of_data}
use Rattle.conode_compare_laws.proofs.AnswerDialogues.{channel_is}
use Rattle.conode_compare_laws.proofs.AnswerEnds.{AllWhole, IsWhole, abort_answers, is_partial}
use Rattle.conode_compare_laws.proofs.AnswerExchange.{answer_kind}
use Rattle.conode_compare_laws.proofs.AnswerFollowed.{reads}
use Rattle.conode_compare_laws.proofs.AnswerOnly.{client_found, is_breach, server_found}
use Rattle.conode_compare_laws.proofs.AnswerSteps.{Same, begun_newest, begun_same}
use Rattle.conode_compare_laws.proofs.Runs.{AllRun}

-- ---- what is found of a transfer

no_data : (finding : Finding) → is_breach finding ≡ false → of_data (Some finding) ≡ []
no_data (Transfer (Early key waited time)) off = refl
no_data (Transfer breach) off = absurd (cc)
no_data _ off = refl

-- of its data by its end alone
key_breach : (b : Bool) (key : Key) → of_data (breach_finding (if b then None else Some (AbortKey key))) ≡ []
key_breach true key = refl
key_breach false key = refl

whole_end : (newest : Newest) (frame : FrameContent) (e : Ended) (direction : Direction) (ending : Ending) → is_partial direction ending ≡ false → e.fault ≡ None
    → of_data (breach_finding (ending_breach newest frame e direction ending)) ≡ []
whole_end newest frame e direction (Aborted Server code) h f = key_breach (((same_key (key_in frame) e.key || (code.0 == unknown_command)) || names_none newest (key_in frame) e.frames) || may_refuse_next newest e) e.key
whole_end newest frame e direction (Aborted Client code) h f = ap (λ o. of_data (breach_finding (fault_breach e.key o))) f
whole_end newest frame e Upload (SizeDiffers indicated) h f = absurd (cc)
whole_end newest frame e Upload (CrcDiffers came computed) h f = absurd (cc)
whole_end newest frame e direction ending h f = refl

form_breach : (b : Bool) (key : Key) → of_data (breach_finding (if b then None else Some (Form key))) ≡ []
form_breach true key = refl
form_breach false key = refl

number_breach : (b : Bool) (key : Key) → of_data (breach_finding (if b then Some (Form key) else None)) ≡ []
number_breach true key = refl
number_breach false key = refl

no_server_breach : (newest : Newest) (key : Key) (w : What) (byte : ℕ) → of_data (breach_finding (server_breach newest key w byte)) ≡ []
no_server_breach Request key what.Repeated byte = refl
no_server_breach Request key what.Unexpected byte = form_breach (byte / 32 == 6) key
no_server_breach Data key what.Unexpected byte = form_breach (byte / 32 == 6) key
no_server_breach (LastData number) key what.Unexpected byte = form_breach (byte / 32 == 6) key
no_server_breach AllAcknowledged key what.Unexpected byte = form_breach (byte / 32 == 6) key
no_server_breach Acknowledge key what.Unexpected byte = number_breach (byte % 128 == 0) key
no_server_breach LaterAcknowledge key what.Unexpected byte = number_breach (byte % 128 == 0) key
no_server_breach LaterData key what.Unexpected byte = number_breach (byte % 128 == 0) key
no_server_breach newest key w byte = refl

no_keyed : (newest : Newest) (side : Side) (of : Option Key) (w : What) (byte : ℕ) → of_data (breach_finding (keyed_breach newest side of w byte)) ≡ []
no_keyed newest Server (Some key) w byte = no_server_breach newest key w byte
no_keyed newest Server None w byte = refl
no_keyed newest Client of w byte = refl

whole_breach : (newest : Option Newest) (side : Side) (heard : Heard) (frame : FrameContent) → IsWhole heard.ended → of_data (breach_finding (breach_at newest side heard frame)) ≡ []
unfolding breach_at
whole_breach None side heard frame h = refl
whole_breach (Some newest) side heard frame h = by heard.ended h
  where
    by : (o : Option Ended) → IsWhole o → of_data (breach_finding (breach_at (Some newest) side (record heard { ended = o }) frame)) ≡ []
    by None h = no_keyed newest side heard.of heard.what _
    by (Some e) h = whole_end newest frame e e.direction e.ending h.0 h.1

ended_is : (following : Following) (micros : ℕ) (side : Side) (bytes : List ℕ) → (followed following micros side bytes).says.ended ≡ (reads following micros side bytes).says.ended
ended_is following micros side bytes = ap (λ (f : Followed). f.says.ended) (same_reading following.heard following.transfer micros side bytes bytes).followed

no_breach : (answer started : ℕ) (d : Dialogue) (micros : ℕ) (side : Side) (frame : FrameContent) → IsWhole (reads d.channel micros side frame.bytes).says.ended → of_data (breach_finding (exchange_in answer started d micros side frame).breach) ≡ []
unfolding exchange_in
no_breach answer started d micros side frame h = whole_breach d.newest side (followed d.channel micros side frame.bytes).says frame (subst IsWhole (sym (ended_is d.channel micros side frame.bytes)) h)

-- ---- frames one after another

pub none_found : (subject : Subject) (rows : List Row) (p : Progress) (micros : ℕ) (side : Side) (frame : FrameContent) → IsWhole (reads p.dialogue.channel micros side frame.bytes).says.ended
    → data_differences (Sdo side frame) (findings_in subject rows p micros (Sdo side frame)) ≡ []
none_found subject rows p micros Server frame h = server_found of_data refl no_data subject rows p micros frame (λ c. no_breach subject.limits.answer p.started p.dialogue micros Server frame h)
none_found subject rows p micros Client frame h = client_found of_data refl no_data subject rows p micros frame (λ c. no_breach subject.limits.answer p.started p.dialogue micros Client frame h)

-- whether the device may not have taken it
pub open_channel : (side : Side) (misses : Bool) (d : Dialogue) → (left_open side misses d).channel ≡ d.channel
open_channel Client misses d = refl
open_channel Server misses d = refl

-- what is known then
sdo_after : (subject : Subject) (p : Progress) (micros : ℕ) (side : Side) (frame : FrameContent) (After : Option ℕ → Dialogue → Type 0) → After p.newest (left_open side (may_miss_end p.nmt micros frame) (dialogue_heard subject.limits.answer p.started p.dialogue micros side frame))
    → After (after_frame subject p micros (Sdo side frame)).newest (after_frame subject p micros (Sdo side frame)).dialogue
unfolding channel_heard exchange_noted late_noted
sdo_after subject p micros Server frame After h = h
sdo_after subject p micros Client frame After h = h

pub sdo_run : (subject : Subject) (rows : List Row) (micros : ℕ) (p : Progress) (frame : FrameContent) (later : List FrameContent) (side : Side) (after : Progress → Type 0) → data_kind subject.node frame ≡ Sdo side frame
    → IsWhole (reads (begun subject p micros).dialogue.channel micros side frame.bytes).says.ended
    → ((q : Progress) → q.newest ≡ Some micros → q.dialogue.channel ≡ (reads (begun subject p micros).dialogue.channel micros side frame.bytes).next → AllRun data_differences subject rows micros q later after)
    → AllRun data_differences subject rows micros p (frame ∷ later) after
unfolding findings_at progress_with
sdo_run subject rows micros p frame later side after is h rest =
    let q : Progress = begun subject p micros in
    let Next : Option ℕ → Dialogue → Type 0 = λ newest d. (newest ≡ Some micros) × (d.channel ≡ (reads q.dialogue.channel micros side frame.bytes).next) in
    let next : Next (after_frame subject q micros (Sdo side frame)).newest (after_frame subject q micros (Sdo side frame)).dialogue =
    sdo_after subject q micros side frame Next (begun_newest subject p micros, open_channel side _ _ ∙ channel_is subject.limits.answer q.started q.dialogue micros side frame) in
    subst (λ kind. (data_differences kind (findings_in subject rows (begun subject p micros) micros kind) ≡ []) × AllRun data_differences subject rows micros (after_frame subject (begun subject p micros) micros kind) later after) (sym is)
    (none_found subject rows q micros side frame h, rest (after_frame subject q micros (Sdo side frame)) next.0 next.1)

-- what explain knows before a frame
abbrev pub begun_view : Subject → Progress → ℕ → View
begun_view subject q micros = record { following = (begun subject q micros).dialogue.channel; got = []; done = []; count = 0 }

pub mapped : (subject : Subject) (rows : List Row) (micros : ℕ) (frames : List FrameContent) (p : Progress) (x y : Progress → Type 0) → ((q : Progress) → x q → y q) → AllRun data_differences subject rows micros p frames x
    → AllRun data_differences subject rows micros p frames y
mapped subject rows micros [] p x y f h = f p h
mapped subject rows micros (frame ∷ later) p x y f h = (h.0, mapped subject rows micros later _ x y f h.1)

-- the answers to a request
pub answers_run : (subject : Subject) (rows : List Row) (micros : ℕ) (answers : List Answer) (v : View) (q : Progress) → q.newest ≡ Some micros → q.dialogue.channel ≡ v.following → AllWhole (λ n. micros) answers v
    → AllRun data_differences subject rows micros q (frames_on (0x580 + subject.node) answers) (λ x. x.dialogue.channel ≡ (hears_answers (λ n. micros) answers v).following)
answers_run subject rows micros [] v q now is w = is
answers_run subject rows micros (answer ∷ later) v q now is w =
    let same : Same q (begun subject q micros) micros = begun_same subject q micros now in
    let here : (begun subject q micros).dialogue.channel ≡ v.following = ap (λ (d : Dialogue). d.channel) same.dialogue ∙ is in
    sdo_run subject rows micros q (record { id = 0x580 + subject.node; bytes = answer_bytes answer }) (frames_on (0x580 + subject.node) later) Server (λ x. x.dialogue.channel ≡ (hears_answers (λ n. micros) (answer ∷ later) v).following)
    (answer_kind subject.node (answer_bytes answer)) (subst (λ f. IsWhole (reads f micros Server (answer_bytes answer)).says.ended) (sym here) w.0)
    (λ x n next. answers_run subject rows micros later (hears (λ n. micros) Server (answer_bytes answer) v) x n (next ∙ ap (λ f. (reads f micros Server (answer_bytes answer)).next) here) w.1)

-- an abort, at whatever time
pub abort_run : (subject : Subject) (rows : List Row) (micros : ℕ) (key : Key) (code : ℕ) (q : Progress)
    → AllRun data_differences subject rows micros q (frames_on (0x580 + subject.node) (aborted key code)) (λ x. x.dialogue.channel ≡ (hears_answers (λ n. micros) (aborted key code) (begun_view subject q micros)).following)
abort_run subject rows micros key code q =
    let v : View = begun_view subject q micros in
    let whole : AllWhole (λ n. micros) (aborted key code) v = abort_answers (λ n. micros) key code v in
    sdo_run subject rows micros q (record { id = 0x580 + subject.node; bytes = answer_bytes (Replied (Refuse key (record { 0 = code }))) }) [] Server (λ x. x.dialogue.channel ≡ (hears_answers (λ n. micros) (aborted key code) (begun_view subject q micros)).following)
    (answer_kind subject.node (answer_bytes (Replied (Refuse key (record { 0 = code }))))) whole.0 (λ x n next. next)
