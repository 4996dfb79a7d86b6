-- One frame of the channel, for the law about timeouts: where an answer isn't found to be an abort before the timeout.
use Rattle.std.proofs.Common.{◌≡◌, ℕ, ◌+◌, ◌-◌, ◌*◌, ◌≤◌, ◌<◌, Bool, true, false, List, [], ◌∷◌, Option, Some, None, refl, sym, ap, ◌∙◌, ◌⊎◌, inl, inr, subst, arith}
use Rattle.std.specs.Prelude.{◌/◌, ◌%◌, ◌==◌, ◌||◌, if◌then◌else◌, IfSome, nat_lt, option_and_then}
use Rattle.std.specs.Option.{option_or}
use Rattle.std.proofs.lemmas.Bool.{false≢true}
use Rattle.std.proofs.lemmas.Bool.Decides.{nat_tests}
use Rattle.co_value.specs.declared.key.Key.{Key}
use Rattle.co_value.specs.Keys.{same_key}
use Rattle.co_frame_aborts.specs.AbortCodes.{unknown_command}
use Rattle.co_frame.specs.FrameContent.{FrameContent}
use Rattle.co_sheet.specs.Content.{Row}
use Rattle.conode_explain_transfers.specs.declared.channel.Heard.{Heard as Says}
use Rattle.conode_explain_transfers.specs.declared.ended.Ended.{Ended}
use Rattle.conode_explain_transfers.specs.declared.ended.Ending.{Ending}
use Rattle.conode_explain_transfers.specs.declared.ended.Ending.TheVariants.{Aborted, CrcDiffers, SizeDiffers}
use Rattle.conode_explain_transfers.specs.declared.ended.Fault.{Fault}
use Rattle.conode_explain_transfers.specs.declared.ended.Fault.TheVariants as fault
use Rattle.conode_explain_transfers.specs.declared.kinds.Direction.{Direction}
use Rattle.conode_explain_transfers.specs.declared.kinds.Direction.TheVariants.{Upload}
use Rattle.conode_explain_transfers.specs.declared.kinds.Side.{Side}
use Rattle.conode_explain_transfers.specs.declared.kinds.Side.TheVariants.{Client, Server}
use Rattle.conode_explain_transfers.specs.declared.kinds.What.{What}
use Rattle.conode_explain_transfers.specs.declared.kinds.What.TheVariants as what
use Rattle.conode_explain_transfers.specs.Followed.{followed}
use Rattle.conode_explain_laws.proofs.Readings.{same as same_reading}
use Rattle.conode_compare_transfers.specs.declared.breach.Breach.{Breach}
use Rattle.conode_compare_transfers.specs.declared.breach.Breach.TheVariants.{AbortKey, Early, Form, Size}
use Rattle.conode_compare_transfers.specs.declared.dialogue.Dialogue.{Dialogue}
use Rattle.conode_compare_transfers.specs.declared.newest.Newest.{Newest}
use Rattle.conode_compare_transfers.specs.declared.newest.Newest.TheVariants.{Acknowledge, AllAcknowledged, Answer, Data, LastData, LaterAcknowledge, LaterData, Request}
use Rattle.conode_compare_transfers.specs.Breaches.{breach_at, byte_at, ending_breach, fault_breach, is_padded, key_in, keyed_breach, may_refuse_next, names_none, server_breach}
use Rattle.conode_compare_transfers.specs.Dialogues.{awaited_for, dialogue_heard, exchange_in, newest_heard, owes_nothing}
use Rattle.conode_compare_transfers.specs.NewestFrames.{all_after, asks_after, goes_on, newest_after, newest_with}
use Rattle.conode_compare_transfers.specs.Timeouts.{drift_of, early_abort, early_breach, early_end, is_early, times_out}
use Rattle.conode_compare_transfers.specs.Times.{micros_of}
use Rattle.conode_compare_nmt.specs.declared.finding.Finding.{Finding}
use Rattle.conode_compare_nmt.specs.declared.finding.Finding.TheVariants.{Transfer as Within}
use Rattle.conode_compare_rules.specs.declared.kind.FrameKind.TheVariants.{Sdo}
use Rattle.conode_compare_nmt.specs.declared.limits.Subject.{Subject}
use Rattle.conode_compare_rules.specs.declared.progress.Progress.{Progress}
use Rattle.conode_compare_rules.specs.Answers.{breach_finding}
use Rattle.conode_compare_rules.specs.FrameKinds.{data_kind}
use Rattle.conode_compare_rules.specs.Gaps.{begun}
use Rattle.conode_compare_rules.specs.Channels.{left_open, may_miss_end}
use Rattle.conode_compare_rules.specs.Progresses.{after_frame, findings_at, findings_in, progress_with}
use Rattle.conode_compare_laws.specs.AnswerFindings.{of_timeouts, timeout_differences}
use Rattle.conode_compare_laws.proofs.AnswerFollowed.{reads}
use Rattle.conode_compare_laws.proofs.AnswerOnly.{client_found_within, is_within, server_found_within}
use Rattle.conode_compare_laws.proofs.AnswerToggleRuns.{newest_stays, sdo_after}
use Rattle.conode_compare_laws.proofs.AnswerToggles.{is_kept}
use Rattle.conode_compare_laws.proofs.Runs.{AllRun}

-- ---- no other difference is one of these

outside : (finding : Finding) → is_within finding ≡ false → of_timeouts (Some finding) ≡ []
outside (Within breach) off = absurd (false≢true (sym off))
outside _ off = refl

either_breach : (b : Bool) (x y : Option Breach) → of_timeouts (breach_finding x) ≡ [] → of_timeouts (breach_finding y) ≡ [] → of_timeouts (breach_finding (if b then x else y)) ≡ []
either_breach true x y p q = p
either_breach false x y p q = q

no_fault : (key : Key) (o : Option Fault) → of_timeouts (breach_finding (fault_breach key o)) ≡ []
no_fault key None = refl
no_fault key (Some (fault.Size indicated bytes)) = refl
no_fault key (Some (fault.Crc came computed)) = refl

no_end : (newest : Newest) (frame : FrameContent) (e : Ended) (direction : Direction) (ending : Ending) → of_timeouts (breach_finding (ending_breach newest frame e direction ending)) ≡ []
no_end newest frame e direction (Aborted Server code) = either_breach (((same_key (key_in frame) e.key || (code.0 == unknown_command)) || names_none newest (key_in frame) e.frames) || may_refuse_next newest e) None (Some (AbortKey e.key)) refl refl
no_end newest frame e direction (Aborted Client code) = no_fault e.key e.fault
no_end newest frame e Upload (SizeDiffers indicated) = either_breach (is_padded frame e indicated) None (Some (Size e.key indicated e.bytes)) refl refl
no_end newest frame e Upload (CrcDiffers came computed) = refl
no_end newest frame e direction ending = refl

no_server_breach : (newest : Newest) (key : Key) (w : What) (byte : ℕ) → of_timeouts (breach_finding (server_breach newest key w byte)) ≡ []
no_server_breach Request key what.Repeated byte = refl
no_server_breach Request key what.Unexpected byte = either_breach (byte / 32 == 6) None (Some (Form key)) refl refl
no_server_breach Data key what.Unexpected byte = either_breach (byte / 32 == 6) None (Some (Form key)) refl refl
no_server_breach (LastData number) key what.Unexpected byte = either_breach (byte / 32 == 6) None (Some (Form key)) refl refl
no_server_breach AllAcknowledged key what.Unexpected byte = either_breach (byte / 32 == 6) None (Some (Form key)) refl refl
no_server_breach Acknowledge key what.Unexpected byte = either_breach (byte % 128 == 0) (Some (Form key)) None refl refl
no_server_breach LaterAcknowledge key what.Unexpected byte = either_breach (byte % 128 == 0) (Some (Form key)) None refl refl
no_server_breach LaterData key what.Unexpected byte = either_breach (byte % 128 == 0) (Some (Form key)) None refl refl
no_server_breach newest key w byte = refl

no_keyed : (newest : Newest) (side : Side) (of : Option Key) (w : What) (byte : ℕ) → of_timeouts (breach_finding (keyed_breach newest side of w byte)) ≡ []
no_keyed newest Server (Some key) w byte = no_server_breach newest key w byte
no_keyed newest side of w byte = refl

no_breach : (newest : Option Newest) (side : Side) (says : Says) (frame : FrameContent) → of_timeouts (breach_finding (breach_at newest side says frame)) ≡ []
unfolding breach_at
no_breach None side says frame = refl
no_breach (Some newest) side says frame = by says.ended
  where
    by : (o : Option Ended) → of_timeouts (breach_finding (breach_at (Some newest) side (record says { ended = o }) frame)) ≡ []
    by None = no_keyed newest side says.of says.what (byte_at frame 0)
    by (Some e) = no_end newest frame e e.direction e.ending

breach_none : (answer started : ℕ) (d : Dialogue) (micros : ℕ) (side : Side) (frame : FrameContent) → of_timeouts (breach_finding (exchange_in answer started d micros side frame).breach) ≡ []
unfolding exchange_in
breach_none answer started d micros side frame = no_breach d.newest side (followed d.channel micros side frame.bytes).says frame

-- ---- an answer that isn't an early abort

-- at these limits, of the recording that began then
abbrev pub IsInTime : Subject → ℕ → Dialogue → ℕ → FrameContent → Type 0
IsInTime subject started d micros frame =
    early_abort subject.limits.tolerance subject.limits.drift subject.limits.time (exchange_in subject.limits.answer started d micros Server frame) ≡ None

breach_or : (b e : Option Breach) → of_timeouts (breach_finding b) ≡ [] → e ≡ None → of_timeouts (breach_finding (option_or b e)) ≡ []
breach_or None e p q = ap (λ x. of_timeouts (breach_finding x)) q
breach_or (Some b) e p q = p

server_none : (subject : Subject) (rows : List Row) (p : Progress) (micros : ℕ) (frame : FrameContent) → IsInTime subject p.started p.dialogue micros frame
    → timeout_differences (Sdo Server frame) (findings_in subject rows p micros (Sdo Server frame)) ≡ []
server_none subject rows p micros frame h =
    server_found_within of_timeouts refl outside subject rows p micros frame
    (λ c. breach_or (exchange_in subject.limits.answer p.started p.dialogue micros Server frame).breach _ (breach_none subject.limits.answer p.started p.dialogue micros Server frame) h)

client_none : (subject : Subject) (rows : List Row) (p : Progress) (micros : ℕ) (frame : FrameContent)
    → timeout_differences (Sdo Client frame) (findings_in subject rows p micros (Sdo Client frame)) ≡ []
client_none subject rows p micros frame = client_found_within of_timeouts refl outside subject rows p micros frame (λ c. breach_none subject.limits.answer p.started p.dialogue micros Client frame)

-- ---- when it isn't

-- while the device owes something
unawaited : (tolerance drift : ℕ) (time : Option ℕ) (ended : Option Ended) → option_and_then (early_end tolerance drift time None) ended ≡ None
unawaited tolerance drift time None = refl
unawaited tolerance drift time (Some e) = by (times_out e.ending)
  where
    by : (b : Bool) → (if b then option_and_then (λ waited. option_and_then (early_breach tolerance drift e.key waited) time) None else None) ≡ None
    by true = refl
    by false = refl

pub while_owing : (subject : Subject) (started : ℕ) (d : Dialogue) (micros : ℕ) (frame : FrameContent) → owes_nothing d.newest ≡ false → IsInTime subject started d micros frame
unfolding exchange_in
while_owing subject started d micros frame h =
    ap (λ b. option_and_then (early_end subject.limits.tolerance subject.limits.drift subject.limits.time (if b then Some (micros - d.requested) else None)) (followed d.channel micros Server frame.bytes).says.ended) h
    ∙ unawaited subject.limits.tolerance subject.limits.drift subject.limits.time (followed d.channel micros Server frame.bytes).says.ended

-- where no transfer ends
pub without_end : (subject : Subject) (started : ℕ) (d : Dialogue) (micros : ℕ) (frame : FrameContent) → (reads d.channel micros Server frame.bytes).says.ended ≡ None → IsInTime subject started d micros frame
unfolding exchange_in
without_end subject started d micros frame h =
    ap (λ o. option_and_then (early_end subject.limits.tolerance subject.limits.drift subject.limits.time (awaited_for d.newest d.requested micros)) o)
    (ap (λ f. f.says.ended) (same_reading d.channel.heard d.channel.transfer micros Server frame.bytes frame.bytes).followed ∙ h)

-- once the device's time is over
waited_enough : (tolerance drift time waited : ℕ) → 0 < time → time * 1000 ≤ waited → is_early tolerance drift time waited ≡ false
waited_enough tolerance drift time waited some enough = by (time == 0) _ (grind (arith, nat_tests)) (less (time * 1000) (micros_of tolerance) (drift_of drift time))
  where
    less : (a b c : ℕ) → a ≤ waited → nat_lt waited ((a - b) - c) ≡ false
    less a b c h = grind (arith, nat_tests)

    by : (a b : Bool) → a ≡ false → (time * 1000 ≤ waited → b ≡ false) → a || b ≡ false
    by true b p q = absurd (false≢true (sym p))
    by false b p q = q enough

in_time_by : (tolerance drift : ℕ) (time : Option ℕ) (waited : ℕ) (ended : Option Ended) → IfSome time (λ t. is_early tolerance drift t waited ≡ false) → option_and_then (early_end tolerance drift time (Some waited)) ended ≡ None
in_time_by tolerance drift time waited None h = refl
in_time_by tolerance drift time waited (Some e) h = by (times_out e.ending) time h
  where
    by : (b : Bool) (time : Option ℕ) → IfSome time (λ t. is_early tolerance drift t waited ≡ false)
        → (if b then option_and_then (λ waited. option_and_then (early_breach tolerance drift e.key waited) time) (Some waited) else None) ≡ None
    by true None h = refl
    by true (Some t) h = ap (λ x. if x then Some (Early e.key waited t) else None) h
    by false time h = refl

enough_of : (tolerance drift limit waited : ℕ) (time : Option ℕ) → IfSome time (λ t. 0 < limit → (0 < t) × (t ≤ limit)) → 0 < limit → limit * 1000 ≤ waited
    → IfSome time (λ t. is_early tolerance drift t waited ≡ false)
enough_of tolerance drift limit waited None is some enough = tt
enough_of tolerance drift limit waited (Some t) is some enough =
    let less : t ≤ limit = (is some).1 in
    waited_enough tolerance drift t waited (is some).0 (omega arith)

awaited_enough : (subject : Subject) (started : ℕ) (d : Dialogue) (micros : ℕ) (frame : FrameContent) (limit : ℕ) → IfSome subject.limits.time (λ t. 0 < limit → (0 < t) × (t ≤ limit)) → 0 < limit
    → owes_nothing d.newest ≡ true → limit * 1000 ≤ micros - d.requested → IsInTime subject started d micros frame
unfolding exchange_in
awaited_enough subject started d micros frame limit is some e enough =
    ap (λ b. option_and_then (early_end subject.limits.tolerance subject.limits.drift subject.limits.time (if b then Some (micros - d.requested) else None)) (followed d.channel micros Server frame.bytes).says.ended) e
    ∙ in_time_by subject.limits.tolerance subject.limits.drift subject.limits.time (micros - d.requested) (followed d.channel micros Server frame.bytes).says.ended
    (enough_of subject.limits.tolerance subject.limits.drift limit (micros - d.requested) subject.limits.time is some enough)

pub once_over : (subject : Subject) (started : ℕ) (d : Dialogue) (micros : ℕ) (frame : FrameContent) (limit : ℕ) → IfSome subject.limits.time (λ t. 0 < limit → (0 < t) × (t ≤ limit)) → 0 < limit
    → (owes_nothing d.newest ≡ true → d.requested + limit * 1000 ≤ micros) → IsInTime subject started d micros frame
once_over subject started d micros frame limit is some h = by (owes_nothing d.newest) refl
  where
    by : (b : Bool) → owes_nothing d.newest ≡ b → IsInTime subject started d micros frame
    by false e = while_owing subject started d micros frame e
    by true e = awaited_enough subject started d micros frame limit is some e (let room : d.requested + limit * 1000 ≤ micros = h e in omega arith)

-- ---- what is known of the channel after a frame

-- after a frame of the client the device owes something
asks_owing : (newest : Option Newest) → owes_nothing (asks_after newest) ≡ false
asks_owing (Some Answer) = refl
asks_owing (Some Data) = refl
asks_owing (Some (LastData number)) = refl
asks_owing (Some LaterData) = refl
asks_owing (Some Request) = refl
asks_owing (Some Acknowledge) = refl
asks_owing (Some LaterAcknowledge) = refl
asks_owing (Some AllAcknowledged) = refl
asks_owing None = refl

all_owing : (sequence : ℕ) (newest next : Option Newest) → owes_nothing next ≡ false → owes_nothing (all_after sequence newest next) ≡ false
all_owing sequence (Some (LastData number)) next h = by (sequence == number)
  where
    by : (b : Bool) → owes_nothing (if b then Some AllAcknowledged else next) ≡ false
    by true = refl
    by false = h
all_owing sequence newest next h = h

on_owing : (newest : Option Newest) → owes_nothing (goes_on newest) ≡ false
on_owing (Some newest) = refl
on_owing None = refl

heard_owing : (certain : Bool) (w : What) (frame : FrameContent) (newest : Option Newest) → owes_nothing (newest_heard certain Client w frame newest) ≡ false
unfolding newest_with newest_after
heard_owing true what.Initiate frame newest = refl
heard_owing false what.Initiate frame newest = refl
heard_owing certain what.Part frame newest = all_owing (byte_at frame 1) newest (asks_after newest) (asks_owing newest)
heard_owing certain (what.Segment number) frame newest = on_owing newest
heard_owing certain (what.OutOfSequence number awaited) frame newest = on_owing newest
heard_owing certain _ frame newest = refl

pub client_owing : (answer started : ℕ) (d : Dialogue) (micros : ℕ) (frame : FrameContent) → owes_nothing (dialogue_heard answer started d micros Client frame).newest ≡ false
unfolding dialogue_heard
client_owing answer started d micros frame = heard_owing _ (followed d.channel micros Client frame.bytes).says.what frame d.newest

pub client_requested : (answer started : ℕ) (d : Dialogue) (micros : ℕ) (frame : FrameContent) → (dialogue_heard answer started d micros Client frame).requested ≡ micros
unfolding dialogue_heard
client_requested answer started d micros frame = refl

pub server_requested : (answer started : ℕ) (d : Dialogue) (micros : ℕ) (frame : FrameContent) → (dialogue_heard answer started d micros Server frame).requested ≡ d.requested
unfolding dialogue_heard
server_requested answer started d micros frame = refl

-- nothing is known after an answer that goes on with none
gone : (certain : Bool) (w : What) (frame : FrameContent) (newest : Option Newest) → is_kept w ≡ false → newest_heard certain Server w frame newest ≡ None
unfolding newest_with newest_after
gone certain what.Initiate frame newest n = absurd (false≢true (sym n))
gone certain what.Part frame newest n = absurd (false≢true (sym n))
gone certain (what.Segment number) frame newest n = absurd (false≢true (sym n))
gone certain (what.OutOfSequence number awaited) frame newest n = absurd (false≢true (sym n))
gone certain _ frame newest n = refl

pub server_gone : (answer started : ℕ) (d : Dialogue) (micros : ℕ) (frame : FrameContent) → is_kept (reads d.channel micros Server frame.bytes).says.what ≡ false → (dialogue_heard answer started d micros Server frame).newest ≡ None
unfolding dialogue_heard
server_gone answer started d micros frame n =
    gone _ (followed d.channel micros Server frame.bytes).says.what frame d.newest
    (ap (λ f. is_kept f.says.what) (same_reading d.channel.heard d.channel.transfer micros Server frame.bytes frame.bytes).followed ∙ n)

-- of nothing known, or of the client's newest frame at this time
abbrev pub IsAt : ℕ → Dialogue → Type 0
IsAt micros d = (d.newest ≡ None) ⊎ (d.requested ≡ micros)

pub at_next : (answer started : ℕ) (d : Dialogue) (micros : ℕ) (frame : FrameContent) → IsAt micros d → IsAt micros (dialogue_heard answer started d micros Server frame)
at_next answer started d micros frame (inl none) = inl (newest_stays answer started d micros frame none)
at_next answer started d micros frame (inr at) = inr (server_requested answer started d micros frame ∙ at)

-- ---- a frame, before those that follow it

pub server_run : (subject : Subject) (rows : List Row) (micros : ℕ) (p : Progress) (frame : FrameContent) (later : List FrameContent) (Next : Dialogue → Type 0) (after : Progress → Type 0) → data_kind subject.node frame ≡ Sdo Server frame
    → IsInTime subject (begun subject p micros).started (begun subject p micros).dialogue micros frame → Next (dialogue_heard subject.limits.answer (begun subject p micros).started (begun subject p micros).dialogue micros Server frame)
    → ((q : Progress) → Next q.dialogue → AllRun timeout_differences subject rows micros q later after) → AllRun timeout_differences subject rows micros p (frame ∷ later) after
unfolding findings_at progress_with
server_run subject rows micros p frame later Next after is h next rest =
    let q : Progress = begun subject p micros in
    subst (λ kind. (timeout_differences kind (findings_in subject rows (begun subject p micros) micros kind) ≡ []) × AllRun timeout_differences subject rows micros (after_frame subject (begun subject p micros) micros kind) later after) (sym is)
    (server_none subject rows q micros frame h, rest (after_frame subject q micros (Sdo Server frame)) (sdo_after subject q micros Server frame (λ newest d. Next d) next))

pub client_run : (subject : Subject) (rows : List Row) (micros : ℕ) (p : Progress) (frame : FrameContent) (later : List FrameContent) (Next : Dialogue → Type 0) (after : Progress → Type 0) → data_kind subject.node frame ≡ Sdo Client frame
    → Next (left_open Client (may_miss_end (begun subject p micros).nmt micros frame) (dialogue_heard subject.limits.answer (begun subject p micros).started (begun subject p micros).dialogue micros Client frame))
    → ((q : Progress) → Next q.dialogue → AllRun timeout_differences subject rows micros q later after) → AllRun timeout_differences subject rows micros p (frame ∷ later) after
unfolding findings_at progress_with
client_run subject rows micros p frame later Next after is next rest =
    let q : Progress = begun subject p micros in
    subst (λ kind. (timeout_differences kind (findings_in subject rows (begun subject p micros) micros kind) ≡ []) × AllRun timeout_differences subject rows micros (after_frame subject (begun subject p micros) micros kind) later after) (sym is)
    (client_none subject rows q micros frame, rest (after_frame subject q micros (Sdo Client frame)) (sdo_after subject q micros Client frame (λ newest d. Next d) next))
