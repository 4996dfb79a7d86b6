-- The EMCY that a device sends, over all its inputs: none within the inhibit time by what compare knows of it.
use Rattle.std.proofs.Common.{◌≡◌, ℕ, ◌+◌, ◌≤◌, Bool, true, false, List, [], ◌∷◌, ◌++◌, map, Option, Some, None, refl, sym, ap, ◌∙◌, subst, arith}
use Rattle.std.specs.Prelude.{if◌then◌else◌, ◌&&◌, not, slice_get}
use Rattle.std.specs.List.{list_all}
use Rattle.co_value.specs.declared.key.Key.{Key}
use Rattle.co_frame.specs.FrameContent.{FrameContent}
use Rattle.co_frame.specs.Emergencies.{emergency_bytes}
use Rattle.co_frame.specs.Heartbeats.{heartbeat_in}
use Rattle.co_frame.specs.Nmt.{nmt_command_in}
use Rattle.co_frame.specs.declared.emergency.Emergency.{Emergency}
use Rattle.co_frame.specs.declared.heartbeat.Heartbeat.TheVariants.{BootUp}
use Rattle.co_frame.specs.declared.nmt.NmtService.{NmtService}
use Rattle.co_profile.specs.Keys.{emergency_inhibit_key, emergency_key}
use Rattle.co_dict.specs.CobIds.{identifier_of, is_valid}
use Rattle.co_dict.specs.Rows.{Contents, number_at}
use Rattle.co_dict.specs.Stores.{Description}
use Rattle.co_sdo.specs.Completed.{key_set}
use Rattle.co_sdo.specs.Events.{frames_at, set_of}
use Rattle.co_sheet.specs.Content.{Row}
use Rattle.co_node_parts.specs.EmergencyQueues.{EmergencyLog, Noted, Sending, is_inhibit_over, is_past, older, queue_of, sendings, with_queued, with_sending}
use Rattle.co_node_parts.specs.NmtStates.{heartbeat_of, is_state}
use Rattle.co_node_parts.specs.Producers.{is_heartbeat_due}
use Rattle.co_node_parts.specs.declared.emergencies.EmergencyEvent.TheVariants.{Queue, Empty, Tick, Quiet}
use Rattle.co_node_parts.specs.declared.nmt_state.NodeState.{NodeState}
use Rattle.co_node_parts.specs.declared.nmt_state.NodeState.TheVariants.{Operational, Stopped}
use Rattle.co_node_model.specs.declared.address.Address.{Address}
use Rattle.co_node_model.specs.declared.address.Address.TheVariants.{ErrorControl, Nobody, Rpdo, Channel, Nmt, Sync}
use Rattle.co_node_model.specs.Addresses.{address_at}
use Rattle.co_node_model.specs.AppEvents.{event_refusal, with_app_event}
use Rattle.co_node_model.specs.Device.{moment, moments, prescribed, state_of, with_frame}
use Rattle.co_node_model.specs.Emergencies.{emergency_frames, emergency_log}
use Rattle.co_node_model.specs.Heartbeats.{boot_up, is_heartbeat, life_frames, producer_event, producer_log}
use Rattle.co_node_model.specs.Inputs.{AppView, Applied, ChangedAt, Cleared, EventOn, Framed, Inputs, InputView, Raised, Ticked, Written}
use Rattle.co_node_model.specs.Marks.{command_mark, marked_tick, marked_time_out, written_mark}
use Rattle.co_node_model.specs.Moments.{Constants, History, Moment, channels, contents_at, nothing_of}
use Rattle.co_node_model.specs.Nmt.{is_reset, service_for, state_at}
use Rattle.co_node_model.specs.Sdo.{channel_logs}
use Rattle.co_node_model.specs.Tpdos.{tpdo_frame}
use Rattle.conode_compare_nmt.specs.declared.limits.Subject.{Subject}
use Rattle.conode_compare_rules.specs.declared.progress.Progress.{Progress}
use Rattle.conode_compare_rules.specs.Gaps.{before_recording}
use Rattle.conode_compare_laws.specs.Differences.{differences_from, differences_in, inhibit_differences}
use Rattle.conode_compare_laws.specs.Identifiers.{AllSendAside, AllSendWithout, AreElsewhere, AreWithout, IsElsewhere, IsUnnamed, SendsAside, SendsWithout}
use Rattle.conode_compare_laws.specs.Periods.{AllHaveInhibit, KnowsInhibit}
use Rattle.conode_compare_laws.specs.Recordings.{AreSpaced, AreUnhurried, Recorded, Stamped, elapsed, frame_of, heard_from, recording}
use Rattle.conode_compare_laws.proofs.Heard.{of_device}
use Rattle.conode_compare_laws.proofs.Heartbeats.{came_without, uncontrolled}
use Rattle.conode_compare_laws.proofs.Pauses.{Calm, boots, emergency_runs, later, lives, quiets}
use Rattle.conode_compare_laws.proofs.Runs.{AllRun, joined, then_none}
use Rattle.conode_compare_laws.proofs.ShowsWord.{AllShow, ShowsFrom, at_once, both, parts, unnamed_shows}

-- ---- the log of an input

queued_same : (es : List Emergency) (log : EmergencyLog) → sendings (with_queued es log) ≡ sendings log
queued_same [] log = refl
queued_same (e ∷ es) log = queued_same es (Noted (Queue e) ∷ log)

-- what was queued at an input
abbrev queued : Moment → EmergencyLog → EmergencyLog
queued m log = with_queued m.raised_by_pdo (with_queued m.raised_by_loss (with_queued m.raised_by_app log))

all_same : (m : Moment) (log : EmergencyLog) → sendings (queued m log) ≡ sendings log
all_same m log =
    queued_same m.raised_by_pdo (with_queued m.raised_by_loss (with_queued m.raised_by_app log))
    ∙ queued_same m.raised_by_loss (with_queued m.raised_by_app log)
    ∙ queued_same m.raised_by_app log

-- only a tick is marked as one
command_off : (service : Option NmtService) → marked_tick (command_mark service) ≡ false
command_off None = refl
command_off (Some service) = refl

written_off : (key : Option Key) → marked_tick (written_mark key) ≡ false
written_off None = refl
written_off (Some key) = refl

either_off : (b : Bool) (x y : Moment) → marked_tick x.mark ≡ false → marked_tick y.mark ≡ false → marked_tick (if b then x else y).mark ≡ false
either_off true x y p q = p
either_off false x y p q = q

frame_off : (k : Constants) (history : History) (address : Address) (frame : FrameContent) (input : InputView) (c : Contents) → marked_tick (with_frame k history address frame (nothing_of input c)).mark ≡ false
frame_off k history Nmt frame input c = command_off (service_for k.description.node (nmt_command_in frame))
frame_off k history Sync frame input c = either_off (is_state Stopped (state_at history)) _ _ refl refl
frame_off k history (Channel j) frame input c = either_off (is_state Stopped (state_at history)) _ _ refl (written_off (key_set (set_of (channels k) k.description c (channel_logs history) frame)))
frame_off k history (Rpdo n) frame input c = either_off (is_state Operational (state_at history)) _ _ refl refl
frame_off k history (ErrorControl node) frame input c = either_off (is_heartbeat (heartbeat_in frame.bytes)) _ _ refl refl
frame_off k history Nobody frame input c = refl

event_off : (d : Description) (event : AppView) (refusal : Option ℕ) (input : InputView) (c : Contents) → marked_tick (with_app_event d event refusal (nothing_of input c)).mark ≡ false
event_off d event (Some code) input c = refl
event_off d (Written key bytes) None input c = refl
event_off d (EventOn n) None input c = refl
event_off d (ChangedAt key) None input c = refl
event_off d (Raised code bits manufacturer) None input c = refl
event_off d (Cleared bits) None input c = refl

pub took : (k : Constants) (history : History) (input : InputView) → (if marked_tick (moment k history input).mark then 1000 else 0) ≡ elapsed input
took k history (Framed frame) = ap (λ b. if b then 1000 else 0) (frame_off k history (address_at k history frame.id) frame (Framed frame) (contents_at k history))
took k history Ticked = refl
took k history (Applied event) = ap (λ b. if b then 1000 else 0) (event_off k.description event (event_refusal k.description (contents_at k history) event) (Applied event) (contents_at k history))

-- ---- the EMCY that is sent at an input, then the boot-up or a heartbeat

front_runs : (inhibit micros : ℕ) (subject : Subject) (rows : List Row) (p : Progress) (c : Contents) (front : Option Emergency) (log : EmergencyLog) → KnowsInhibit inhibit subject → number_at c emergency_inhibit_key ≡ inhibit
    → AreWithout (0x700 + subject.node) (emergency_frames c front) → list_all is_past (sendings log) ≡ true → Calm inhibit micros (sendings log) p
    → (after : Progress → Type 0) → AllShow emergency_inhibit_key inhibit subject micros p (emergency_frames c front) after
    → AllRun inhibit_differences subject rows micros p (emergency_frames c front) (Calm inhibit micros (sendings (with_sending front (number_at c emergency_inhibit_key) log)))
front_runs inhibit micros subject rows p c None log knows same control over h after shows = h
front_runs inhibit micros subject rows p c (Some e) log knows same control over h after shows =
    let frame : FrameContent = record { id = identifier_of (number_at c emergency_key); bytes = emergency_bytes e } in
    subst (λ n. AllRun inhibit_differences subject rows micros p (frame ∷ []) (Calm inhibit micros (record { age = 0; inhibit = n } ∷ sendings log))) (sym same)
    (emergency_runs inhibit micros (sendings log) subject rows frame p knows control.0 over h after shows)

due_runs : (inhibit micros : ℕ) (subject : Subject) (rows : List Row) (p : Progress) (c : Contents) (may : Bool) (log : EmergencyLog) → KnowsInhibit inhibit subject → number_at c emergency_inhibit_key ≡ inhibit
    → AreWithout (0x700 + subject.node) (emergency_frames c (if may && is_inhibit_over log then slice_get (queue_of log) 0 else None))
    → Calm inhibit micros (sendings log) p → (after : Progress → Type 0)
    → AllShow emergency_inhibit_key inhibit subject micros p (emergency_frames c (if may && is_inhibit_over log then slice_get (queue_of log) 0 else None)) after
    → AllRun inhibit_differences subject rows micros p (emergency_frames c (if may && is_inhibit_over log then slice_get (queue_of log) 0 else None))
    (Calm inhibit micros (sendings (with_sending (if may && is_inhibit_over log then slice_get (queue_of log) 0 else None) (number_at c emergency_inhibit_key) log)))
due_runs inhibit micros subject rows p c false log knows same control h after shows = h
due_runs inhibit micros subject rows p c true log knows same control h after shows = by (is_inhibit_over log) refl control shows
  where
    by : (b : Bool) → is_inhibit_over log ≡ b → AreWithout (0x700 + subject.node) (emergency_frames c (if b then slice_get (queue_of log) 0 else None))
        → AllShow emergency_inhibit_key inhibit subject micros p (emergency_frames c (if b then slice_get (queue_of log) 0 else None)) after
        → AllRun inhibit_differences subject rows micros p (emergency_frames c (if b then slice_get (queue_of log) 0 else None))
        (Calm inhibit micros (sendings (with_sending (if b then slice_get (queue_of log) 0 else None) (number_at c emergency_inhibit_key) log)))
    by true is o n = front_runs inhibit micros subject rows p c (slice_get (queue_of log) 0) log knows same o is h after n
    by false is o n = h

-- a reset empties the queue, and no EMCY is sent; so what compare has changes with the boot-up
abbrev event_log : Bool → Bool → EmergencyLog → EmergencyLog
event_log reset tick log = Noted (if reset then Empty else (if tick then Tick else Quiet)) ∷ log

abbrev due_in : Bool → EmergencyLog → Option Emergency
due_in may log = if may && is_inhibit_over log then slice_get (queue_of log) 0 else None

abbrev aged : Bool → EmergencyLog → List Sending
aged tick log = if tick then map older (sendings log) else sendings log

-- between the EMCY and the boot-up
abbrev Between : ℕ → ℕ → Contents → Bool → Bool → Bool → EmergencyLog → Progress → Type 0
Between inhibit micros c may true tick log p = Calm inhibit micros (aged tick log) p
Between inhibit micros c may false tick log p =
    Calm inhibit micros (sendings (with_sending (due_in may (event_log false tick log)) (number_at c emergency_inhibit_key) (event_log false tick log))) p

emergency_part : (inhibit micros : ℕ) (subject : Subject) (rows : List Row) (p : Progress) (c : Contents) (may reset tick : Bool) (log : EmergencyLog) → KnowsInhibit inhibit subject → number_at c emergency_inhibit_key ≡ inhibit
    → AreWithout (0x700 + subject.node) (emergency_frames c (due_in may (event_log reset tick log))) → Calm inhibit micros (aged tick log) p
    → (after : Progress → Type 0) → AllShow emergency_inhibit_key inhibit subject micros p (emergency_frames c (due_in may (event_log reset tick log))) after
    → AllRun inhibit_differences subject rows micros p (emergency_frames c (due_in may (event_log reset tick log))) (Between inhibit micros c may reset tick log)
emergency_part inhibit micros subject rows p c true true tick log knows same control h after shows = h
emergency_part inhibit micros subject rows p c false true tick log knows same control h after shows = h
emergency_part inhibit micros subject rows p c may false true log knows same control h after shows = due_runs inhibit micros subject rows p c may (Noted Tick ∷ log) knows same control h after shows
emergency_part inhibit micros subject rows p c may false false log knows same control h after shows = due_runs inhibit micros subject rows p c may (Noted Quiet ∷ log) knows same control h after shows

life_part : (inhibit micros : ℕ) (subject : Subject) (rows : List Row) (p : Progress) (c : Contents) (may reset tick due : Bool) (log : EmergencyLog) (final : NodeState) → KnowsInhibit inhibit subject
    → Between inhibit micros c may reset tick log p
    → AllRun inhibit_differences subject rows micros p (life_frames subject.node (if reset then Some BootUp else (if due then Some (heartbeat_of final) else None)))
    (Calm inhibit micros (sendings (with_sending (due_in may (event_log reset tick log)) (number_at c emergency_inhibit_key) (event_log reset tick log))))
life_part inhibit micros subject rows p c may true tick due log final knows h =
    boots inhibit micros (aged tick log) (sendings (with_sending (due_in may (event_log true tick log)) (number_at c emergency_inhibit_key) (event_log true tick log))) subject rows p BootUp refl knows h.fresh
life_part inhibit micros subject rows p c may false tick false log final knows h = h
life_part inhibit micros subject rows p c may false tick true log final knows h =
    lives inhibit micros (sendings (with_sending (due_in may (event_log false tick log)) (number_at c emergency_inhibit_key) (event_log false tick log))) subject rows p (heartbeat_of final) knows h

-- ---- an input

input_runs : (k : Constants) (subject : Subject) (rows : List Row) (micros inhibit : ℕ) (before : Inputs) (input : InputView) (p : Progress) → KnowsInhibit inhibit subject
    → number_at (moment k (moments k before) input).contents emergency_inhibit_key ≡ inhibit
    → IsElsewhere (0x700 + k.description.node) input → IsElsewhere (0x80 + k.description.node) input
    → SendsAside k (moment k (moments k before) input) → SendsWithout (0x80 + k.description.node) k (moment k (moments k before) input)
    → (after : Progress → Type 0) → Calm inhibit micros (aged (marked_tick (moment k (moments k before) input).mark) (emergency_log (moments k before))) p
    → AllShow emergency_inhibit_key inhibit (of_device k subject) micros p (frame_of input ++ prescribed k before input) after
    → AllRun inhibit_differences (of_device k subject) rows micros p (frame_of input ++ prescribed k before input) (λ q. Calm inhibit micros (sendings (emergency_log (moments k (input ∷ before)))) q × after q)
input_runs k subject rows micros inhibit before input p knows same control emergency aside without last_shows h shows =
    let s : Subject = of_device k subject in
    let n : ℕ = k.description.node in
    let m : Moment = moment k (moments k before) input in
    let old : EmergencyLog = emergency_log (moments k before) in
    let log : EmergencyLog = queued m old in
    let tick : Bool = marked_tick m.mark in
    let reset : Bool = is_reset m.mark in
    let final : NodeState = state_of k (input ∷ before) in
    let may : Bool = not (is_state Stopped final) && is_valid (number_at m.contents emergency_key) && not (marked_time_out m.mark) in
    let due : Bool = is_heartbeat_due (producer_event m.mark m.contents) (producer_log k (moments k before)) in
    let a : List FrameContent = frames_at m.exchange in
    let b : List FrameContent = frames_at m.timed_out in
    let c : List FrameContent = emergency_frames m.contents m.emergency in
    let d : List FrameContent = life_frames n m.life in
    let e : List FrameContent = map (tpdo_frame k.description m.contents) m.due in
    let known : KnowsInhibit inhibit s = record { before = knows.before; booted = knows.booted } in
    let last : List Sending = sendings (emergency_log (m ∷ moments k before)) in
    let came : Progress → Type 0 = Calm inhibit micros (aged tick log) in
    let between : Progress → Type 0 = Between inhibit micros m.contents may reset tick log in
    let ends : Progress → Type 0 = Calm inhibit micros last in
    let show_e : Progress → Type 0 = λ q. AllShow emergency_inhibit_key inhibit s micros q e last_shows in
    let show_d : Progress → Type 0 = λ q. AllShow emergency_inhibit_key inhibit s micros q d show_e in
    let show_c : Progress → Type 0 = λ q. AllShow emergency_inhibit_key inhibit s micros q c show_d in
    let show_b : Progress → Type 0 = λ q. AllShow emergency_inhibit_key inhibit s micros q b show_c in
    let now : came p = subst (λ sendings_then. Calm inhibit micros (if tick then map older sendings_then else sendings_then) p) (sym (all_same m old)) h in
    joined inhibit_differences s rows micros (frame_of input) (a ++ b ++ c ++ d ++ e) p (λ q. came q × AllShow emergency_inhibit_key inhibit s micros q (a ++ b ++ c ++ d ++ e) last_shows) (λ q. ends q × last_shows q)
    (quiets inhibit micros (aged tick log) s rows (frame_of input) p (λ q. AllShow emergency_inhibit_key inhibit s micros q (a ++ b ++ c ++ d ++ e) last_shows) known (came_without (0x80 + n) input emergency) (came_without (0x700 + n) input control) now
    (parts emergency_inhibit_key inhibit s micros (frame_of input) (a ++ b ++ c ++ d ++ e) p last_shows shows))
    (λ q0 g0.
    joined inhibit_differences s rows micros (a ++ b ++ c ++ d) e q0 (λ q. ends q × show_e q) (λ q. ends q × last_shows q)
    (joined inhibit_differences s rows micros (a ++ b ++ c) d q0 (λ q. between q × show_d q) (λ q. ends q × show_e q)
    (joined inhibit_differences s rows micros (a ++ b) c q0 (λ q. came q × show_c q) (λ q. between q × show_d q)
    (joined inhibit_differences s rows micros a b q0 (λ q. came q × show_b q) (λ q. came q × show_c q)
    (quiets inhibit micros (aged tick log) s rows a q0 show_b known without.answers (uncontrolled n a aside.answers) g0.0
    (parts emergency_inhibit_key inhibit s micros a b q0 show_c
    (parts emergency_inhibit_key inhibit s micros (a ++ b) c q0 show_d
    (parts emergency_inhibit_key inhibit s micros (a ++ b ++ c) d q0 show_e
    (parts emergency_inhibit_key inhibit s micros (a ++ b ++ c ++ d) e q0 last_shows g0.1)))))
    (λ q g. quiets inhibit micros (aged tick log) s rows b q show_c known without.time_out (uncontrolled n b aside.time_out) g.0 g.1))
    (λ q g. both emergency_inhibit_key inhibit s micros inhibit_differences rows c q between show_d
    (emergency_part inhibit micros s rows q m.contents may reset tick log known same (uncontrolled n c aside.emergency) g.0 show_d g.1) g.1))
    (λ q g. both emergency_inhibit_key inhibit s micros inhibit_differences rows d q ends show_e
    (life_part inhibit micros s rows q m.contents may reset tick due log final known g.0) g.1))
    (λ q g. quiets inhibit micros last s rows e q last_shows known without.tpdos (uncontrolled n e aside.tpdos) g.0 g.1))

-- ---- all inputs

-- after an input nothing is found at those that follow it
step : (k : Constants) (subject : Subject) (rows : List Row) (inhibit : ℕ) (s : Stamped) (others : List Stamped) (before : Inputs) (p : Progress) → KnowsInhibit inhibit subject → AllHaveInhibit inhibit k before (s ∷ others)
    → AreElsewhere (0x700 + k.description.node) (s ∷ others) → AreElsewhere (0x80 + k.description.node) (s ∷ others) → AllSendAside k before (s ∷ others) → AllSendWithout (0x80 + k.description.node) k before (s ∷ others)
    → ShowsFrom emergency_inhibit_key inhibit (of_device k subject) p (heard_from k before (s ∷ others))
    → Calm inhibit s.micros (aged (marked_tick (moment k (moments k before) s.input).mark) (emergency_log (moments k before))) p
    → ((q : Progress) → Calm inhibit s.micros (sendings (emergency_log (moments k (s.input ∷ before)))) q → ShowsFrom emergency_inhibit_key inhibit (of_device k subject) q (heard_from k (s.input ∷ before) others)
    → differences_from inhibit_differences (of_device k subject) rows q (heard_from k (s.input ∷ before) others) ≡ [])
    → differences_from inhibit_differences (of_device k subject) rows p (heard_from k before (s ∷ others)) ≡ []
step k subject rows inhibit s others before p knows same control emergency aside without shows h rest_none =
    let frames : List FrameContent = frame_of s.input ++ prescribed k before s.input in
    let rest : List Recorded = heard_from k (s.input ∷ before) others in
    let shown : Progress → Type 0 = λ q. ShowsFrom emergency_inhibit_key inhibit (of_device k subject) q rest in
    then_none inhibit_differences (of_device k subject) rows s.micros frames rest p (λ q. Calm inhibit s.micros (sendings (emergency_log (moments k (s.input ∷ before)))) q × shown q)
    (input_runs k subject rows s.micros inhibit before s.input p knows same.0 control.0 emergency.0 aside.0 without.0 shown h (at_once emergency_inhibit_key inhibit (of_device k subject) s.micros frames rest p shows))
    (λ q g. rest_none q g.0 g.1)

all_none : (k : Constants) (subject : Subject) (rows : List Row) (inhibit : ℕ) (inputs : List Stamped) (before : Inputs) (last : ℕ) (p : Progress) → KnowsInhibit inhibit subject → AllHaveInhibit inhibit k before inputs
    → AreSpaced last inputs → AreElsewhere (0x700 + k.description.node) inputs → AreElsewhere (0x80 + k.description.node) inputs → AllSendAside k before inputs → AllSendWithout (0x80 + k.description.node) k before inputs
    → ShowsFrom emergency_inhibit_key inhibit (of_device k subject) p (heard_from k before inputs) → Calm inhibit last (sendings (emergency_log (moments k before))) p
    → differences_from inhibit_differences (of_device k subject) rows p (heard_from k before inputs) ≡ []
all_none k subject rows inhibit [] before last p knows same time control emergency aside without shows h = refl
all_none k subject rows inhibit (s ∷ others) before last p knows same time control emergency aside without shows h =
    let history : History = moments k before in
    step k subject rows inhibit s others before p knows same control emergency aside without shows
    (later inhibit last s.micros (marked_tick (moment k history s.input).mark) (sendings (emergency_log history)) p (subst (λ more. last + more ≤ s.micros) (sym (took k history s.input)) time.0) h)
    (λ q g rest. all_none k subject rows inhibit others (s.input ∷ before) s.micros q knows same.1 time.1 control.1 emergency.1 aside.1 without.1 rest g)

-- before the first one no EMCY was sent
none_aged : (inhibit micros : ℕ) (tick : Bool) (p : Progress) → Calm inhibit micros [] p → Calm inhibit micros (aged tick []) p
none_aged inhibit micros true p h = h
none_aged inhibit micros false p h = h

of_recording : (k : Constants) (subject : Subject) (rows : List Row) (inhibit : ℕ) (inputs : List Stamped) → KnowsInhibit inhibit subject → AllHaveInhibit inhibit k [] inputs → AreUnhurried inputs
    → AreElsewhere (0x700 + k.description.node) inputs → AreElsewhere (0x80 + k.description.node) inputs → AllSendAside k [] inputs → AllSendWithout (0x80 + k.description.node) k [] inputs
    → ShowsFrom emergency_inhibit_key inhibit (of_device k subject) (before_recording (of_device k subject)) (recording k inputs) → differences_in inhibit_differences (of_device k subject) rows (recording k inputs) ≡ []
of_recording k subject rows inhibit [] knows same time control emergency aside without shows = refl
of_recording k subject rows inhibit (s ∷ others) knows same time control emergency aside without shows =
    let subj : Subject = of_device k subject in
    let known : KnowsInhibit inhibit subj = record { before = knows.before; booted = knows.booted } in
    let rest : List Recorded = heard_from k [] (s ∷ others) in
    let shown : Progress → Type 0 = λ q. ShowsFrom emergency_inhibit_key inhibit subj q rest in
    then_none inhibit_differences subj rows s.micros (boot_up k ∷ []) rest (before_recording subj) (λ q. Calm inhibit s.micros [] q × shown q)
    (both emergency_inhibit_key inhibit subj s.micros inhibit_differences rows (boot_up k ∷ []) (before_recording subj) (Calm inhibit s.micros []) shown
    (boots inhibit s.micros [] [] subj rows (before_recording subj) BootUp refl known (omega arith)) (at_once emergency_inhibit_key inhibit subj s.micros (boot_up k ∷ []) rest (before_recording subj) shows))
    (λ q g. step k subject rows inhibit s others [] q knows same control emergency aside without g.1
    (none_aged inhibit s.micros (marked_tick (moment k [] s.input).mark) q g.0)
    (λ q2 g2 rest_shows. all_none k subject rows inhibit others (s.input ∷ []) s.micros q2 knows same.1 time control.1 emergency.1 aside.1 without.1 rest_shows g2))

-- where each transfer of 1015:00 that ends shows this time, or nothing
pub none_early : (k : Constants) (subject : Subject) (rows : List Row) (inhibit : ℕ) (inputs : List Stamped) → subject.node ≡ k.description.node → KnowsInhibit inhibit subject → AllHaveInhibit inhibit k [] inputs
    → AreUnhurried inputs → AreElsewhere (0x700 + k.description.node) inputs → AreElsewhere (0x80 + k.description.node) inputs → AllSendAside k [] inputs → AllSendWithout (0x80 + k.description.node) k [] inputs
    → ShowsFrom emergency_inhibit_key inhibit (of_device k subject) (before_recording (of_device k subject)) (recording k inputs) → differences_in inhibit_differences subject rows (recording k inputs) ≡ []
none_early k subject rows inhibit inputs is knows same time control emergency aside without shows =
    subst (λ n. differences_in inhibit_differences (record subject { node = n }) rows (recording k inputs) ≡ []) (sym is)
    (of_recording k subject rows inhibit inputs knows same time control emergency aside without shows)

pub no_early_emergencies : (k : Constants) (subject : Subject) (rows : List Row) (inhibit : ℕ) (inputs : List Stamped) → subject.node ≡ k.description.node → KnowsInhibit inhibit subject → AllHaveInhibit inhibit k [] inputs
    → AreUnhurried inputs → AreElsewhere (0x700 + k.description.node) inputs → AreElsewhere (0x80 + k.description.node) inputs → AllSendAside k [] inputs → AllSendWithout (0x80 + k.description.node) k [] inputs
    → IsUnnamed emergency_inhibit_key k.description.node (recording k inputs) → differences_in inhibit_differences subject rows (recording k inputs) ≡ []
no_early_emergencies k subject rows inhibit inputs is knows same time control emergency aside without none =
    none_early k subject rows inhibit inputs is knows same time control emergency aside without
    (unnamed_shows emergency_inhibit_key inhibit (of_device k subject) (recording k inputs) (before_recording (of_device k subject)) none tt)
