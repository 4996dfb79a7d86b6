-- The frames of an input one after another, and all inputs.
use Rattle.std.proofs.Common.{◌≡◌, ℕ, ◌+◌, Bool, true, false, List, [], ◌∷◌, ◌++◌, map, Option, Some, None, refl, sym, subst}
use Rattle.std.specs.Prelude.{if◌then◌else◌, ◌==◌}
use Rattle.std.proofs.lemmas.Bool.{ne_eqb}
use Rattle.co_frame.specs.FrameContent.{FrameContent}
use Rattle.co_frame.specs.Heartbeats.{heartbeat_bytes, state_byte}
use Rattle.co_frame.specs.Nmt.{nmt_command_in}
use Rattle.co_frame.specs.declared.heartbeat.Heartbeat.TheVariants.{BootUp}
use Rattle.co_frame.specs.declared.nmt.NmtService.{NmtService}
use Rattle.co_frame.specs.declared.nmt.NmtService.TheVariants.{Start, Stop, EnterPreOperational, ResetNode, ResetCommunication}
use Rattle.co_sheet.specs.Content.{Row}
use Rattle.co_sdo.specs.Events.{frames_at}
use Rattle.co_node_parts.specs.declared.nmt_state.NodeState.{NodeState}
use Rattle.co_node_parts.specs.declared.nmt_state.NodeState.TheVariants as node
use Rattle.co_node_parts.specs.NmtStates.{heartbeat_of}
use Rattle.co_node_parts.specs.Producers.{is_heartbeat_due}
use Rattle.co_node_model.specs.Device.{moment, moments, prescribed, state_of}
use Rattle.co_node_model.specs.Emergencies.{emergency_frames}
use Rattle.co_node_model.specs.Heartbeats.{boot_up, life_frames, producer_event, producer_log}
use Rattle.co_node_model.specs.Inputs.{Applied, Framed, Inputs, InputView, Ticked}
use Rattle.co_node_model.specs.Marks.{marked_command}
use Rattle.co_node_model.specs.Moments.{Constants, Moment}
use Rattle.co_node_model.specs.Nmt.{is_reset_by, service_for}
use Rattle.co_node_model.specs.Tpdos.{tpdo_frame}
use Rattle.conode_compare_nmt.specs.declared.finding.NmtState.{NmtState}
use Rattle.conode_compare_rules.specs.declared.kind.FrameKind.{FrameKind}
use Rattle.conode_compare_rules.specs.declared.kind.FrameKind.TheVariants.{Control}
use Rattle.conode_compare_nmt.specs.declared.limits.Subject.{Subject}
use Rattle.conode_compare_rules.specs.declared.progress.Progress.{Progress}
use Rattle.conode_compare_rules.specs.FrameKinds.{command_kind, data_kind, long_command_in}
use Rattle.conode_compare_rules.specs.Gaps.{before_recording, begun}
use Rattle.conode_compare_rules.specs.Progresses.{findings_at, progress_with}
use Rattle.conode_compare_laws.specs.Differences.{differences_from, differences_in, state_differences}
use Rattle.conode_compare_laws.specs.Identifiers.{AllSendAside, AreAside, AreElsewhere, IsElsewhere, SendsAside}
use Rattle.conode_compare_laws.specs.Recordings.{Stamped, frame_of, heard_from, recording}
use Rattle.conode_compare_laws.proofs.Shown.{Stage, boots, runs, fits_nothing, is_shown, stage_after}
use Rattle.conode_compare_laws.proofs.Along.{AllGo, Goes, joined, one, then_none}
use Rattle.conode_compare_laws.proofs.Frames.{FitsAt, Passes, aside_kind, aside_passes, begun_fits, boot_passes, command_passes, heartbeat_passes, life_kind, nmt_kind}
use Rattle.conode_compare_laws.proofs.Inputs.{command_in, command_is, end_shown, state_by}

-- ---- one frame

pub goes : (subject : Subject) (rows : List Row) (micros : ℕ) (p : Progress) (frame : FrameContent) (kind : FrameKind) (stage : Stage) → data_kind subject.node frame ≡ kind
    → Passes subject rows (begun subject p micros) micros kind stage → Goes state_differences subject rows micros p frame stage
unfolding findings_at progress_with
goes subject rows micros p frame kind stage is h =
    let pass : Passes subject rows (begun subject p micros) micros (data_kind subject.node frame) stage = subst (λ other. Passes subject rows (begun subject p micros) micros other stage) (sym is) h in
    record { none = pass.none; fits = pass.fits }

pub aside_goes : (subject : Subject) (rows : List Row) (micros : ℕ) (p : Progress) (frame : FrameContent) (stage : Stage) → (frame.id == 0) ≡ false → (frame.id == 0x700 + subject.node) ≡ false
    → FitsAt micros stage p → Goes state_differences subject rows micros p frame stage
aside_goes subject rows micros p frame stage command control h =
    goes subject rows micros p frame (data_kind subject.node frame) stage refl
    (aside_passes subject rows (begun subject p micros) micros (data_kind subject.node frame) stage (aside_kind subject.node frame command control) (begun_fits subject p micros micros stage h))

-- ---- frames that are neither commands nor error control

pub asides : (subject : Subject) (rows : List Row) (micros : ℕ) (frames : List FrameContent) (p : Progress) (stage : Stage) → AreAside subject.node frames → FitsAt micros stage p → AllGo state_differences subject rows micros p frames stage
asides subject rows micros [] p stage are h = h
asides subject rows micros (frame ∷ later) p stage are h =
    let first : Goes state_differences subject rows micros p frame stage =
    aside_goes subject rows micros p frame stage (ne_eqb frame.id 0 are.0.0) (ne_eqb frame.id (0x700 + subject.node) are.0.1) h in
    (first.none, asides subject rows micros later (progress_with subject p micros (data_kind subject.node frame)) stage are.1 first.fits)

-- ---- the frame that an input is

pub received : (subject : Subject) (rows : List Row) (micros : ℕ) (input : InputView) (p : Progress) (actual : NodeState) → IsElsewhere (0x700 + subject.node) input → FitsAt micros (runs actual) p
    → AllGo state_differences subject rows micros p (frame_of input) (stage_after (command_in subject.node input) actual)
received subject rows micros Ticked p actual foreign h = h
received subject rows micros (Applied event) p actual foreign h = h
received subject rows micros (Framed frame) p actual foreign h = by (frame.id == 0) refl
  where
    by : (b : Bool) → (frame.id == 0) ≡ b → AllGo state_differences subject rows micros p (frame ∷ []) (stage_after (if b then service_for subject.node (nmt_command_in frame) else None) actual)
    by true is =
        one state_differences subject rows micros p frame (stage_after (service_for subject.node (nmt_command_in frame)) actual)
        (goes subject rows micros p frame (command_kind subject.node frame) (stage_after (service_for subject.node (nmt_command_in frame)) actual)
        (nmt_kind subject.node frame is)
        (command_passes subject rows (begun subject p micros) micros (long_command_in frame) (nmt_command_in frame) actual (begun_fits subject p micros micros (runs actual) h)))
    by false is =
        one state_differences subject rows micros p frame (runs actual)
        (aside_goes subject rows micros p frame (runs actual) is (ne_eqb frame.id (0x700 + subject.node) foreign) h)

-- ---- the boot-up, or a heartbeat

-- before the frames that the device sends: its boot-up comes, or it is in the state after the input
abbrev pub stage_at : Option NmtService → NodeState → Stage
stage_at command final = if is_reset_by command then boots else runs final

-- what is shown after the command is shown after the input
abbrev pub Ends : Option NmtService → NodeState → NodeState → Type 0
Ends command actual final = (state : NmtState) → is_shown state (state_by command actual) ≡ true → is_shown state final ≡ true

pub before_sending : (micros : ℕ) (command : Option NmtService) (actual final : NodeState) (p : Progress) → Ends command actual final → FitsAt micros (stage_after command actual) p → FitsAt micros (stage_at command final) p
before_sending micros None actual final p ends h = ends p.nmt.state h
before_sending micros (Some Start) actual final p ends h = ends p.nmt.state h
before_sending micros (Some Stop) actual final p ends h = ends p.nmt.state h
before_sending micros (Some EnterPreOperational) actual final p ends h = ends p.nmt.state h
before_sending micros (Some ResetNode) actual final p ends h = h
before_sending micros (Some ResetCommunication) actual final p ends h = h

heartbeat_goes : (subject : Subject) (rows : List Row) (micros : ℕ) (p : Progress) (due : Bool) (final : NodeState) → FitsAt micros (runs final) p
    → AllGo state_differences subject rows micros p (life_frames subject.node (if due then Some (heartbeat_of final) else None)) (runs final)
heartbeat_goes subject rows micros p false final h = h
heartbeat_goes subject rows micros p true final h =
    one state_differences subject rows micros p _ (runs final)
    (goes subject rows micros p (record { id = 0x700 + subject.node; bytes = heartbeat_bytes (heartbeat_of final) }) (Control (state_byte (heartbeat_of final))) (runs final) (life_kind subject.node (heartbeat_of final))
    (heartbeat_passes subject rows (begun subject p micros) micros final (begun_fits subject p micros micros (runs final) h)))

pub boot_goes : (subject : Subject) (rows : List Row) (micros : ℕ) (p : Progress) → FitsAt micros boots p
    → Goes state_differences subject rows micros p (record { id = 0x700 + subject.node; bytes = heartbeat_bytes BootUp }) (runs node.PreOperational)
boot_goes subject rows micros p h =
    goes subject rows micros p (record { id = 0x700 + subject.node; bytes = heartbeat_bytes BootUp }) (Control 0) (runs node.PreOperational) (life_kind subject.node BootUp)
    (boot_passes subject rows (begun subject p micros) micros (begun_fits subject p micros micros boots h))

reset_goes : (subject : Subject) (rows : List Row) (micros : ℕ) (p : Progress) (final : NodeState) → ((state : NmtState) → is_shown state node.PreOperational ≡ true → is_shown state final ≡ true) → FitsAt micros boots p
    → AllGo state_differences subject rows micros p (life_frames subject.node (Some BootUp)) (runs final)
reset_goes subject rows micros p final ends h =
    let g : Goes state_differences subject rows micros p (record { id = 0x700 + subject.node; bytes = heartbeat_bytes BootUp }) (runs node.PreOperational) = boot_goes subject rows micros p h in
    (g.none, ends _ g.fits)

pub life_goes : (subject : Subject) (rows : List Row) (micros : ℕ) (p : Progress) (command : Option NmtService) (due : Bool) (actual final : NodeState) → Ends command actual final → FitsAt micros (stage_at command final) p
    → AllGo state_differences subject rows micros p (life_frames subject.node (if is_reset_by command then Some BootUp else (if due then Some (heartbeat_of final) else None))) (runs final)
life_goes subject rows micros p None due actual final ends h = heartbeat_goes subject rows micros p due final h
life_goes subject rows micros p (Some Start) due actual final ends h = heartbeat_goes subject rows micros p due final h
life_goes subject rows micros p (Some Stop) due actual final ends h = heartbeat_goes subject rows micros p due final h
life_goes subject rows micros p (Some EnterPreOperational) due actual final ends h = heartbeat_goes subject rows micros p due final h
life_goes subject rows micros p (Some ResetNode) due actual final ends h = reset_goes subject rows micros p final ends h
life_goes subject rows micros p (Some ResetCommunication) due actual final ends h = reset_goes subject rows micros p final ends h

-- ---- an input

-- compare with the node-ID of the device
abbrev pub of_device : Constants → Subject → Subject
of_device k subject = record subject { node = k.description.node }

sent : (k : Constants) (subject : Subject) (rows : List Row) (micros : ℕ) (before : Inputs) (input : InputView) (p : Progress) → SendsAside k (moment k (moments k before) input)
    → FitsAt micros (stage_at (marked_command (moment k (moments k before) input).mark) (state_of k (input ∷ before))) p
    → AllGo state_differences (of_device k subject) rows micros p (prescribed k before input) (runs (state_of k (input ∷ before)))
sent k subject rows micros before input p aside h =
    let s : Subject = of_device k subject in
    let m : Moment = moment k (moments k before) input in
    let command : Option NmtService = marked_command m.mark in
    let final : NodeState = state_of k (input ∷ before) in
    let ends : Ends command (state_of k before) final = λ state shown. end_shown k (moments k before) input state (subst (λ c. is_shown state (state_by c (state_of k before)) ≡ true) (command_is k (moments k before) input) shown) in
    let a : List FrameContent = frames_at m.exchange in
    let b : List FrameContent = frames_at m.timed_out in
    let c : List FrameContent = emergency_frames m.contents m.emergency in
    let d : List FrameContent = life_frames k.description.node m.life in
    let first : AllGo state_differences s rows micros p a (stage_at command final) = asides s rows micros a p (stage_at command final) aside.answers h in
    let second : AllGo state_differences s rows micros p (a ++ b) (stage_at command final) =
    joined state_differences s rows micros a b p (stage_at command final) (stage_at command final) first (λ q g. asides s rows micros b q (stage_at command final) aside.time_out g) in
    let third : AllGo state_differences s rows micros p (a ++ b ++ c) (stage_at command final) =
    joined state_differences s rows micros (a ++ b) c p (stage_at command final) (stage_at command final) second (λ q g. asides s rows micros c q (stage_at command final) aside.emergency g) in
    let fourth : AllGo state_differences s rows micros p (a ++ b ++ c ++ d) (runs final) =
    joined state_differences s rows micros (a ++ b ++ c) d p (stage_at command final) (runs final) third
    (λ q g. life_goes s rows micros q command (is_heartbeat_due (producer_event m.mark m.contents) (producer_log k (moments k before))) (state_of k before) final ends g) in
    joined state_differences s rows micros (a ++ b ++ c ++ d) (map (tpdo_frame k.description m.contents) m.due) p (runs final) (runs final) fourth
    (λ q g. asides s rows micros (map (tpdo_frame k.description m.contents) m.due) q (runs final) aside.tpdos g)

pub input_goes : (k : Constants) (subject : Subject) (rows : List Row) (micros : ℕ) (before : Inputs) (input : InputView) (p : Progress) → IsElsewhere (0x700 + k.description.node) input → SendsAside k (moment k (moments k before) input)
    → FitsAt micros (runs (state_of k before)) p
    → AllGo state_differences (of_device k subject) rows micros p (frame_of input ++ prescribed k before input) (runs (state_of k (input ∷ before)))
input_goes k subject rows micros before input p foreign aside h =
    let s : Subject = of_device k subject in
    let final : NodeState = state_of k (input ∷ before) in
    let command : Option NmtService = command_in k.description.node input in
    joined state_differences s rows micros (frame_of input) (prescribed k before input) p (stage_after command (state_of k before)) (runs final)
    (received s rows micros input p (state_of k before) foreign h)
    (λ q g. sent k subject rows micros before input q aside
    (subst (λ c. FitsAt micros (stage_at c final) q) (sym (command_is k (moments k before) input))
    (before_sending micros command (state_of k before) final q (λ state shown. end_shown k (moments k before) input state shown) g)))

-- ---- all inputs

all_none : (k : Constants) (subject : Subject) (rows : List Row) (inputs : List Stamped) (before : Inputs) (p : Progress) → AreElsewhere (0x700 + k.description.node) inputs → AllSendAside k before inputs
    → is_shown p.nmt.state (state_of k before) ≡ true
    → differences_from state_differences (of_device k subject) rows p (heard_from k before inputs) ≡ []
all_none k subject rows [] before p foreign aside h = refl
all_none k subject rows (s ∷ later) before p foreign aside h =
    then_none state_differences (of_device k subject) rows s.micros (frame_of s.input ++ prescribed k before s.input) (heard_from k (s.input ∷ before) later) p (runs (state_of k (s.input ∷ before)))
    (input_goes k subject rows s.micros before s.input p foreign.0 aside.0 h)
    (λ q g. all_none k subject rows later (s.input ∷ before) q foreign.1 aside.1 g)

of_recording : (k : Constants) (subject : Subject) (rows : List Row) (inputs : List Stamped) → AreElsewhere (0x700 + k.description.node) inputs → AllSendAside k [] inputs
    → differences_in state_differences (of_device k subject) rows (recording k inputs) ≡ []
of_recording k subject rows [] foreign aside = refl
of_recording k subject rows (s ∷ later) foreign aside =
    let subj : Subject = of_device k subject in
    let g : Goes state_differences subj rows s.micros (before_recording subj) (boot_up k) (runs node.PreOperational) =
    boot_goes subj rows s.micros (before_recording subj) (fits_nothing s.micros boots None) in
    then_none state_differences subj rows s.micros (boot_up k ∷ []) (heard_from k [] (s ∷ later)) (before_recording subj) (runs node.PreOperational) (g.none, g.fits)
    (λ q h. all_none k subject rows (s ∷ later) [] q foreign aside h)

pub no_state_differences : (k : Constants) (subject : Subject) (rows : List Row) (inputs : List Stamped) → subject.node ≡ k.description.node → AreElsewhere (0x700 + k.description.node) inputs → AllSendAside k [] inputs
    → differences_in state_differences subject rows (recording k inputs) ≡ []
no_state_differences k subject rows inputs is foreign aside =
    subst (λ n. differences_in state_differences (record subject { node = n }) rows (recording k inputs) ≡ []) (sym is)
    (of_recording k subject rows inputs foreign aside)
