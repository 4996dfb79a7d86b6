-- The EMCY of a device in its recording.
use Rattle.std.proofs.Common.{◌≡◌, ℕ, ◌+◌, ◌%◌, Bool, true, false, List, [], ◌∷◌, ◌++◌, length, map, take, Option, Some, None, refl, sym, ap, ◌∙◌, subst, arith}
use Rattle.std.specs.Prelude.{if◌then◌else◌, ◌==◌, ◌&&◌, ◌||◌, not, nat_lt, slice_get, slice_index, IfSome}
use Rattle.std.specs.List.{AllByRecursion}
use Rattle.std.proofs.lemmas.Bool.{ne_eqb}
use Rattle.co_frame.specs.FrameContent.{FrameContent}
use Rattle.co_frame.specs.Emergencies.{emergency_bytes}
use Rattle.co_frame.specs.Nmt.{nmt_command_in}
use Rattle.co_frame.specs.declared.emergency.Emergency.{Emergency}
use Rattle.co_frame.specs.declared.heartbeat.Heartbeat.{Heartbeat}
use Rattle.co_frame.specs.declared.nmt.NmtCommand.{NmtCommand}
use Rattle.co_frame.specs.declared.nmt.NmtService.{NmtService}
use Rattle.co_profile.specs.Keys.{emergency_key}
use Rattle.co_dict.specs.CobIds.{identifier_of, is_valid}
use Rattle.co_dict.specs.Rows.{Contents, number_at}
use Rattle.co_sheet.specs.Content.{Row}
use Rattle.co_value.specs.Numbers.{unsigned_of}
use Rattle.co_sdo.specs.Events.{frames_at}
use Rattle.co_node_parts.specs.EmergencyQueues.{EmergencyLog, is_inhibit_over, queue_of}
use Rattle.co_node_parts.specs.NmtStates.{is_state}
use Rattle.co_node_parts.specs.Producers.{is_heartbeat_due}
use Rattle.co_node_parts.specs.declared.nmt_state.NodeState.{NodeState}
use Rattle.co_node_parts.specs.declared.nmt_state.NodeState.TheVariants as node
use Rattle.co_node_model.specs.Device.{moment, moments, prescribed, state_of}
use Rattle.co_node_model.specs.Emergencies.{emergency_frames, emergency_log, no_manufacturer, unsent_log}
use Rattle.co_node_model.specs.Heartbeats.{boot_up, life_frames, producer_event, producer_log}
use Rattle.co_node_model.specs.Inputs.{Applied, Framed, Inputs, InputView, Ticked}
use Rattle.co_node_model.specs.Marks.{marked_command, marked_time_out}
use Rattle.co_node_model.specs.Moments.{Constants, Moment}
use Rattle.co_node_model.specs.Nmt.{is_reset_by}
use Rattle.co_node_model.specs.Tpdos.{tpdo_frame}
use Rattle.conode_explain_transfers.specs.declared.kinds.Side.TheVariants.{Client, Server}
use Rattle.conode_compare_nmt.specs.declared.entries.Entries.{Entries}
use Rattle.conode_compare_nmt.specs.declared.finding.Finding.{Finding}
use Rattle.conode_compare_nmt.specs.declared.finding.Finding.TheVariants.{EmergencyInhibit, EmergencyRegister, EmergencyStopped}
use Rattle.conode_compare_nmt.specs.declared.finding.NmtState.{NmtState}
use Rattle.conode_compare_nmt.specs.declared.finding.NmtState.TheVariants.{Unknown, Initialising, PreOperational, Operational, Stopped}
use Rattle.conode_compare_rules.specs.declared.kind.FrameKind.{FrameKind}
use Rattle.conode_compare_rules.specs.declared.kind.FrameKind.TheVariants.{Command, CommandToAll, Control, OddControl, Emergency as Emcy, OddEmergency, Other, Process, Sdo}
use Rattle.conode_compare_nmt.specs.declared.limits.Limits.{Limits}
use Rattle.conode_compare_nmt.specs.declared.limits.Subject.{Subject}
use Rattle.conode_compare_rules.specs.declared.progress.Progress.{Progress}
use Rattle.conode_compare_rules.specs.declared.verdict.Findings.{Findings}
use Rattle.conode_compare_nmt.specs.States.{is_stopped, is_initialising, judged_state}
use Rattle.conode_compare_rules.specs.EmergencyRules.{emergency_finding, fits_register, gap_finding, has_register, inhibit_finding, inhibit_with, is_in_force, is_inhibited, least_gap, may_wait, emergency_findings, is_uncounted, may_have_waited}
use Rattle.conode_compare_rules.specs.FrameKinds.{command_kind, command_to, control_kind, data_kind, emergency_kind, length_of, long_command_in}
use Rattle.conode_compare_rules.specs.Gaps.{before_recording, begun}
use Rattle.conode_compare_rules.specs.NmtFrames.{steady_when_free}
use Rattle.conode_compare_rules.specs.Progresses.{findings_at, findings_in, progress_with}
use Rattle.conode_compare_rules.specs.Verdicts.{found}
use Rattle.conode_compare_laws.specs.Differences.{besides_inhibit, differences_from, differences_in, emergency_differences, state_differences}
use Rattle.conode_compare_laws.specs.Identifiers.{AllSendAside, AllSendWithout, AreElsewhere, AreNoEvents, AreWithout, IsAside, IsElsewhere, IsNoEvent, SendsAside, SendsWithout}
use Rattle.conode_compare_laws.specs.Recordings.{Stamped, frame_of, heard_from, recording}
use Rattle.conode_compare_laws.proofs.LongCommands.{long_such}
use Rattle.conode_compare_laws.proofs.Shown.{Fits, Stage, boots, runs, fits_nothing, freer_running, is_shown, stage_after}
use Rattle.conode_compare_laws.proofs.Frames.{FitsAt, begun_fits}
use Rattle.conode_compare_laws.proofs.Along.{AllGo, Goes, joined, one, then_none}
use Rattle.conode_compare_laws.proofs.Inputs.{command_in, command_is, end_shown, state_by}
use Rattle.conode_compare_laws.proofs.Heard.{Ends, aside_goes, asides, before_sending, boot_goes, life_goes, of_device, received, stage_at}
use Rattle.conode_compare_laws.proofs.Queues.{AreSound, IsSound, front_sound, log_sound, unsent_sound}

-- ---- frames that are no EMCY

abbrev is_emergency : FrameKind → Bool
is_emergency (Emcy code register) = true
is_emergency (OddEmergency length) = true
is_emergency _ = false

none_of : (kind : FrameKind) (f : Findings) → is_emergency kind ≡ false → emergency_differences kind f ≡ []
none_of (Emcy code register) f h = absurd (cc)
none_of (OddEmergency length) f h = absurd (cc)
none_of _ f h = refl

command_no : (n : ℕ) (long command : Option NmtCommand) → is_emergency (command_to n long command) ≡ false
command_no n long None = long_such (λ kind. is_emergency kind ≡ false) n long (λ service. refl) refl
command_no n long (Some command) = by (command.node == 0) (command.node == n)
  where
    by : (a b : Bool) → is_emergency (if a then CommandToAll command.service else (if b then Command command.service else Other)) ≡ false
    by true b = refl
    by false true = refl
    by false false = refl

control_no : (frame : FrameContent) (b : Bool) → is_emergency (if b then Control (slice_index frame.bytes 0) else OddControl (length_of frame)) ≡ false
control_no frame true = refl
control_no frame false = refl

no_emergency : (n : ℕ) (frame : FrameContent) → (frame.id == 0x80 + n) ≡ false → is_emergency (data_kind n frame) ≡ false
no_emergency n frame other = by (frame.id == 0) (frame.id == 0x80 + n) (frame.id == 0x580 + n) (frame.id == 0x600 + n) (frame.id == 0x700 + n) other
  where
    by : (a b c d e : Bool) → b ≡ false
        → is_emergency (if a then command_kind n frame
        else (if b then emergency_kind frame
        else (if c then Sdo Server frame
        else (if d then Sdo Client frame
        else (if e then control_kind frame else Process frame.id (length_of frame)))))) ≡ false
    by true b c d e p = command_no n (long_command_in frame) (nmt_command_in frame)
    by false true c d e p = absurd (cc)
    by false false true d e p = refl
    by false false false true e p = refl
    by false false false false true p = control_no frame (length frame.bytes == 1)
    by false false false false false p = refl

-- where no state differs, and none is an EMCY, nothing is found of EMCY either
instead : (subject : Subject) (rows : List Row) (micros : ℕ) (frames : List FrameContent) (p : Progress) (stage : Stage) → AreWithout (0x80 + subject.node) frames → AllGo state_differences subject rows micros p frames stage
    → AllGo emergency_differences subject rows micros p frames stage
instead subject rows micros [] p stage are h = h
instead subject rows micros (frame ∷ later) p stage are h = (
  none_of (data_kind subject.node frame) (findings_at subject rows p micros (data_kind subject.node frame)) (no_emergency subject.node frame (ne_eqb frame.id (0x80 + subject.node) are.0)),
  instead subject rows micros later (progress_with subject p micros (data_kind subject.node frame)) stage are.1 h.1,
)

life_without : (n : ℕ) (life : Option Heartbeat) → AreWithout (0x80 + n) (life_frames n life)
life_without n None = tt
life_without n (Some life) = (λ e. omega arith, tt)

frame_without : (id : ℕ) (input : InputView) → IsElsewhere id input → AreWithout id (frame_of input)
frame_without id (Framed frame) h = (h, tt)
frame_without id Ticked h = tt
frame_without id (Applied event) h = tt

-- ---- an EMCY

gap_none : (limits : Limits) (inhibit passed : ℕ) → besides_inhibit (gap_finding limits inhibit passed) ≡ []
gap_none limits inhibit passed = by (nat_lt passed (least_gap limits inhibit))
  where
    by : (b : Bool) → besides_inhibit (if b then Some (EmergencyInhibit passed inhibit) else None) ≡ []
    by true = refl
    by false = refl

force_none : (limits : Limits) (inhibit passed : ℕ) (b : Bool) → besides_inhibit (if b then gap_finding limits inhibit passed else None) ≡ []
force_none limits inhibit passed true = gap_none limits inhibit passed
force_none limits inhibit passed false = refl

with_none : (limits : Limits) (inhibit shown : Option ℕ) (last micros : ℕ) → besides_inhibit (inhibit_with limits inhibit shown last micros) ≡ []
with_none limits None shown last micros = refl
with_none limits (Some inhibit) shown last micros = force_none limits inhibit _ (is_in_force limits shown last)

inhibit_none : (limits : Limits) (entries : Entries) (last : Option ℕ) (micros : ℕ) → besides_inhibit (inhibit_finding limits entries last micros) ≡ []
unfolding inhibit_finding
inhibit_none limits entries None micros = refl
inhibit_none limits entries (Some last) micros = with_none limits entries.inhibit entries.inhibit_shown last micros

finding_none : (limits : Limits) (entries : Entries) (state : NmtState) (settled waits : Bool) (last : Option ℕ) (micros code register : ℕ) → is_stopped state ≡ false → has_register code register ≡ true
    → besides_inhibit (emergency_finding limits entries state settled waits last micros code register) ≡ []
unfolding emergency_finding
finding_none limits entries state settled waits last micros code register up odd = by (not entries.emergencies || is_initialising state) settled (is_stopped state) (fits_register (waits || may_wait limits entries last) code register) up (ap (λ b. b || ((register == 0) && (waits || may_wait limits entries last))) odd)
  where
    by : (unknown settled stopped has : Bool) → stopped ≡ false → has ≡ true
        → besides_inhibit (if unknown then None else (if settled && stopped then Some EmergencyStopped else (if not has then Some (EmergencyRegister code register) else inhibit_finding limits entries last micros))) ≡ []
    by true settled stopped has p q = refl
    by false settled true has p q = absurd (cc)
    by false settled false false p q = absurd (cc)
    by false true false true p q = inhibit_none limits entries last micros
    by false false false true p q = inhibit_none limits entries last micros

restarted_none : (b : Bool) (f : Option Finding) → besides_inhibit f ≡ [] → besides_inhibit (if b then None else f) ≡ []
restarted_none true f h = refl
restarted_none false f h = h

judged_none : (subject : Subject) (rows : List Row) (p : Progress) (micros code register : ℕ) → is_stopped p.nmt.state ≡ false → has_register code register ≡ true
    → emergency_differences (Emcy code register) (findings_in subject rows p micros (Emcy code register)) ≡ []
unfolding emergency_findings found
judged_none subject rows p micros code register up odd =
    let f : Option Finding = emergency_finding subject.limits p.entries (judged_state p.nmt) (steady_when_free subject p) (may_have_waited subject p micros) p.emergency micros code register in
    restarted_none (is_inhibited f && is_uncounted subject p micros) f
    (finding_none subject.limits p.entries (judged_state p.nmt) (steady_when_free subject p) (may_have_waited subject p micros) p.emergency micros code register (freer_running p.nmt.state p.nmt.due up) odd)

-- its bytes are read as it is
whole : (e : Emergency) → e.manufacturer ≡ no_manufacturer → e ≡ record { code = e.code; register = e.register; manufacturer = no_manufacturer }
whole e h = ap (λ m. record { code = e.code; register = e.register; manufacturer = m }) h

abbrev code_read : ℕ → ℕ → ℕ
code_read code register = unsigned_of (take 2 (emergency_bytes (record { code = code; register = register; manufacturer = no_manufacturer })))

read_back : (code register : ℕ) → emergency_kind (record { id = 0; bytes = emergency_bytes (record { code = code; register = register; manufacturer = no_manufacturer }) }) ≡ Emcy (code_read code register) register
read_back code register = refl

emergency_is : (n id : ℕ) (e : Emergency) → e.manufacturer ≡ no_manufacturer → (id == 0) ≡ false → (id == 0x80 + n) ≡ true → data_kind n (record { id = id; bytes = emergency_bytes e }) ≡ Emcy (code_read e.code e.register) e.register
emergency_is n id e bytes command here =
    let frame : FrameContent = record { id = id; bytes = emergency_bytes e } in
    let kind : data_kind n frame ≡ emergency_kind frame = rw (command, here) refl in
    kind ∙ ap (λ (x : Emergency). emergency_kind (record { id = 0; bytes = emergency_bytes x })) (whole e bytes) ∙ read_back e.code e.register

is_odd : (code register : ℕ) → register % 2 ≡ 1 → has_register code register ≡ true
is_odd code register h = ap (λ n. (n == 1) || ((register == 0) && nat_lt code 0x100)) h

-- the device isn't stopped as it sends one, and compare has it in no such state
not_stopped : (micros : ℕ) (reset : Bool) (final : NodeState) (state : NmtState) (last booted : Option ℕ) → is_state node.Stopped final ≡ false → Fits micros (if reset then boots else runs final) state last booted → is_stopped state ≡ false
not_stopped micros reset final Unknown last booted off h = refl
not_stopped micros reset final Initialising last booted off h = refl
not_stopped micros reset final PreOperational last booted off h = refl
not_stopped micros reset final Operational last booted off h = refl
not_stopped micros true final Stopped last booted off h = absurd h.1
not_stopped micros false node.PreOperational Stopped last booted off h = absurd (cc)
not_stopped micros false node.Operational Stopped last booted off h = absurd (cc)
not_stopped micros false node.Stopped Stopped last booted off h = absurd (cc)

one_goes : (subject : Subject) (rows : List Row) (micros : ℕ) (p : Progress) (id : ℕ) (e : Emergency) (reset : Bool) (final : NodeState) → IsAside subject.node id → IsSound e → is_state node.Stopped final ≡ false
    → FitsAt micros (if reset then boots else runs final) p → Goes emergency_differences subject rows micros p (record { id = id; bytes = emergency_bytes e }) (if reset then boots else runs final)
unfolding findings_at
one_goes subject rows micros p id e reset final aside sound off h = by (id == 0x80 + subject.node) refl
  where
    stage : Stage
    stage = if reset then boots else runs final

    frame : FrameContent
    frame = record { id = id; bytes = emergency_bytes e }

    state : Goes state_differences subject rows micros p frame stage
    state = aside_goes subject rows micros p frame stage (ne_eqb id 0 aside.0) (ne_eqb id (0x700 + subject.node) aside.1) h

    by : (b : Bool) → (id == 0x80 + subject.node) ≡ b → Goes emergency_differences subject rows micros p frame stage
    by true is =
        let q : Progress = begun subject p micros in
        let kind : data_kind subject.node frame ≡ Emcy (code_read e.code e.register) e.register = emergency_is subject.node id e sound.manufacturer (ne_eqb id 0 aside.0) is in
        record {
          none = subst (λ other. emergency_differences other (findings_in subject rows q micros other) ≡ []) (sym kind)
              (judged_none subject rows q micros (code_read e.code e.register) e.register
              (not_stopped micros reset final q.nmt.state q.nmt.reset q.nmt.booted off (begun_fits subject p micros micros stage h))
              (is_odd (code_read e.code e.register) e.register sound.register));
          fits = state.fits;
        }
    by false is = record { none = none_of (data_kind subject.node frame) _ (no_emergency subject.node frame is); fits = state.fits }

-- ---- the EMCY that is sent at an input

front_goes : (subject : Subject) (rows : List Row) (micros : ℕ) (p : Progress) (c : Contents) (front : Option Emergency) (reset : Bool) (final : NodeState)
    → IfSome front (λ e. IsAside subject.node (identifier_of (number_at c emergency_key))) → IfSome front IsSound → is_state node.Stopped final ≡ false → FitsAt micros (if reset then boots else runs final) p
    → AllGo emergency_differences subject rows micros p (emergency_frames c front) (if reset then boots else runs final)
front_goes subject rows micros p c None reset final aside sound off h = h
front_goes subject rows micros p c (Some e) reset final aside sound off h =
    one emergency_differences subject rows micros p (record { id = identifier_of (number_at c emergency_key); bytes = emergency_bytes e }) (if reset then boots else runs final)
    (one_goes subject rows micros p (identifier_of (number_at c emergency_key)) e reset final aside sound off h)

aside_front : (n : ℕ) (c : Contents) (e : Option Emergency) → AllByRecursion (λ frame. IsAside n frame.id) (emergency_frames c e) → IfSome e (λ x. IsAside n (identifier_of (number_at c emergency_key)))
aside_front n c None h = tt
aside_front n c (Some e) h = h.0

first_off : (a b c : Bool) → (not a && b && not c) ≡ true → a ≡ false
first_off true b c h = absurd (cc)
first_off false b c h = refl

due_goes : (subject : Subject) (rows : List Row) (micros : ℕ) (p : Progress) (c : Contents) (queue : List Emergency) (stopped valid aborted over reset : Bool) (final : NodeState)
    → AllByRecursion (λ frame. IsAside subject.node frame.id) (emergency_frames c (if (not stopped && valid && not aborted) && over then slice_get queue 0 else None)) → AreSound queue → is_state node.Stopped final ≡ stopped
    → FitsAt micros (if reset then boots else runs final) p
    → AllGo emergency_differences subject rows micros p (emergency_frames c (if (not stopped && valid && not aborted) && over then slice_get queue 0 else None)) (if reset then boots else runs final)
due_goes subject rows micros p c queue true valid aborted over reset final aside sound off h = h
due_goes subject rows micros p c queue false false aborted over reset final aside sound off h = h
due_goes subject rows micros p c queue false true true over reset final aside sound off h = h
due_goes subject rows micros p c queue false true false false reset final aside sound off h = h
due_goes subject rows micros p c queue false true false true reset final aside sound off h =
    front_goes subject rows micros p c (slice_get queue 0) reset final (aside_front subject.node c (slice_get queue 0) aside) (front_sound queue sound) off h

-- ---- an input

sent : (k : Constants) (subject : Subject) (rows : List Row) (micros : ℕ) (before : Inputs) (input : InputView) (p : Progress) → IsNoEvent input → AreSound (queue_of (emergency_log (moments k before)))
    → SendsAside k (moment k (moments k before) input) → SendsWithout (0x80 + k.description.node) k (moment k (moments k before) input)
    → FitsAt micros (stage_at (marked_command (moment k (moments k before) input).mark) (state_of k (input ∷ before))) p
    → AllGo emergency_differences (of_device k subject) rows micros p (prescribed k before input) (runs (state_of k (input ∷ before)))
sent k subject rows micros before input p no_event sound aside without h =
    let s : Subject = of_device k subject in
    let m : Moment = moment k (moments k before) input in
    let command : Option NmtService = marked_command m.mark in
    let final : NodeState = state_of k (input ∷ before) in
    let ends : Ends command (state_of k before) final = λ state shown. end_shown k (moments k before) input state (subst (λ c. is_shown state (state_by c (state_of k before)) ≡ true) (command_is k (moments k before) input) shown) in
    let stage : Stage = stage_at command final in
    let log : EmergencyLog = unsent_log m (emergency_log (moments k before)) in
    let a : List FrameContent = frames_at m.exchange in
    let b : List FrameContent = frames_at m.timed_out in
    let c : List FrameContent = emergency_frames m.contents m.emergency in
    let d : List FrameContent = life_frames k.description.node m.life in
    let e : List FrameContent = map (tpdo_frame k.description m.contents) m.due in
    let first : AllGo emergency_differences s rows micros p a stage = instead s rows micros a p stage without.answers (asides s rows micros a p stage aside.answers h) in
    let second : AllGo emergency_differences s rows micros p (a ++ b) stage =
    joined emergency_differences s rows micros a b p stage stage first (λ q g. instead s rows micros b q stage without.time_out (asides s rows micros b q stage aside.time_out g)) in
    let third : AllGo emergency_differences s rows micros p (a ++ b ++ c) stage =
    joined emergency_differences s rows micros (a ++ b) c p stage stage second
    (λ q g. due_goes s rows micros q m.contents (queue_of log) (is_state node.Stopped final) (is_valid (number_at m.contents emergency_key)) (marked_time_out m.mark) (is_inhibit_over log) (is_reset_by command) final
    aside.emergency (unsent_sound k (moments k before) input no_event sound) refl g) in
    let fourth : AllGo emergency_differences s rows micros p (a ++ b ++ c ++ d) (runs final) =
    joined emergency_differences s rows micros (a ++ b ++ c) d p stage (runs final) third
    (λ q g. instead s rows micros d q (runs final) (life_without k.description.node m.life)
    (life_goes s rows micros q command (is_heartbeat_due (producer_event m.mark m.contents) (producer_log k (moments k before))) (state_of k before) final ends g)) in
    joined emergency_differences s rows micros (a ++ b ++ c ++ d) e p (runs final) (runs final) fourth
    (λ q g. instead s rows micros e q (runs final) without.tpdos (asides s rows micros e q (runs final) aside.tpdos g))

input_goes : (k : Constants) (subject : Subject) (rows : List Row) (micros : ℕ) (before : Inputs) (input : InputView) (p : Progress) → IsNoEvent input → AreSound (queue_of (emergency_log (moments k before)))
    → IsElsewhere (0x700 + k.description.node) input → IsElsewhere (0x80 + k.description.node) input
    → SendsAside k (moment k (moments k before) input) → SendsWithout (0x80 + k.description.node) k (moment k (moments k before) input)
    → FitsAt micros (runs (state_of k before)) p
    → AllGo emergency_differences (of_device k subject) rows micros p (frame_of input ++ prescribed k before input) (runs (state_of k (input ∷ before)))
input_goes k subject rows micros before input p no_event sound control emergency aside without h =
    let s : Subject = of_device k subject in
    let final : NodeState = state_of k (input ∷ before) in
    let command : Option NmtService = command_in k.description.node input in
    joined emergency_differences s rows micros (frame_of input) (prescribed k before input) p (stage_after command (state_of k before)) (runs final)
    (instead s rows micros (frame_of input) p (stage_after command (state_of k before)) (frame_without (0x80 + k.description.node) input emergency) (received s rows micros input p (state_of k before) control h))
    (λ q g. sent k subject rows micros before input q no_event sound aside without
    (subst (λ c. FitsAt micros (stage_at c final) q) (sym (command_is k (moments k before) input))
    (before_sending micros command (state_of k before) final q (λ state shown. end_shown k (moments k before) input state shown) g)))

-- ---- all inputs

all_none : (k : Constants) (subject : Subject) (rows : List Row) (inputs : List Stamped) (before : Inputs) (p : Progress) → AreNoEvents inputs → AreSound (queue_of (emergency_log (moments k before)))
    → AreElsewhere (0x700 + k.description.node) inputs → AreElsewhere (0x80 + k.description.node) inputs → AllSendAside k before inputs → AllSendWithout (0x80 + k.description.node) k before inputs
    → is_shown p.nmt.state (state_of k before) ≡ true
    → differences_from emergency_differences (of_device k subject) rows p (heard_from k before inputs) ≡ []
all_none k subject rows [] before p no_events sound control emergency aside without h = refl
all_none k subject rows (s ∷ later) before p no_events sound control emergency aside without h =
    then_none emergency_differences (of_device k subject) rows s.micros (frame_of s.input ++ prescribed k before s.input) (heard_from k (s.input ∷ before) later) p (runs (state_of k (s.input ∷ before)))
    (input_goes k subject rows s.micros before s.input p no_events.0 sound control.0 emergency.0 aside.0 without.0 h)
    (λ q g. all_none k subject rows later (s.input ∷ before) q no_events.1 (log_sound k (moments k before) s.input no_events.0 sound) control.1 emergency.1 aside.1 without.1 g)

of_recording : (k : Constants) (subject : Subject) (rows : List Row) (inputs : List Stamped) → AreNoEvents inputs → AreElsewhere (0x700 + k.description.node) inputs → AreElsewhere (0x80 + k.description.node) inputs
    → AllSendAside k [] inputs → AllSendWithout (0x80 + k.description.node) k [] inputs
    → differences_in emergency_differences (of_device k subject) rows (recording k inputs) ≡ []
of_recording k subject rows [] no_events control emergency aside without = refl
of_recording k subject rows (s ∷ later) no_events control emergency aside without =
    let subj : Subject = of_device k subject in
    let g : Goes state_differences subj rows s.micros (before_recording subj) (boot_up k) (runs node.PreOperational) =
    boot_goes subj rows s.micros (before_recording subj) (fits_nothing s.micros boots None) in
    then_none emergency_differences subj rows s.micros (boot_up k ∷ []) (heard_from k [] (s ∷ later)) (before_recording subj) (runs node.PreOperational)
    (instead subj rows s.micros (boot_up k ∷ []) (before_recording subj) (runs node.PreOperational) (λ e. omega arith, tt) (g.none, g.fits))
    (λ q h. all_none k subject rows (s ∷ later) [] q no_events tt control emergency aside without h)

pub no_emergency_differences : (k : Constants) (subject : Subject) (rows : List Row) (inputs : List Stamped) → subject.node ≡ k.description.node → AreNoEvents inputs
    → AreElsewhere (0x700 + k.description.node) inputs → AreElsewhere (0x80 + k.description.node) inputs → AllSendAside k [] inputs → AllSendWithout (0x80 + k.description.node) k [] inputs
    → differences_in emergency_differences subject rows (recording k inputs) ≡ []
no_emergency_differences k subject rows inputs is no_events control emergency aside without =
    subst (λ n. differences_in emergency_differences (record subject { node = n }) rows (recording k inputs) ≡ []) (sym is)
    (of_recording k subject rows inputs no_events control emergency aside without)
