-- A device sends TPDOs while operational alone, and compare never has it in another state then.
use Rattle.std.proofs.Common.{◌≡◌, ℕ, ◌+◌, Bool, true, false, List, [], ◌∷◌, ◌++◌, map, None, refl, sym, ap, ◌∙◌, subst, ◌⊎◌, inl, inr}
use Rattle.std.specs.Prelude.{if◌then◌else◌, ◌&&◌, not, is_some}
use Rattle.std.specs.List.{AllByRecursion}
use Rattle.std.proofs.lemmas.Bool.{ne_eqb}
use Rattle.co_frame.specs.FrameContent.{FrameContent}
use Rattle.co_dict.specs.Rows.{Contents}
use Rattle.co_dict.specs.Stores.{Description}
use Rattle.co_sheet.specs.Content.{Row}
use Rattle.co_sdo.specs.Events.{frames_at}
use Rattle.co_pdo.specs.Schedules.{History as Schedule}
use Rattle.co_node_parts.specs.NmtStates.{is_state}
use Rattle.co_node_parts.specs.Producers.{is_heartbeat_due}
use Rattle.co_node_parts.specs.declared.nmt_state.NodeState.{NodeState}
use Rattle.co_node_parts.specs.declared.nmt_state.NodeState.TheVariants as node
use Rattle.co_node_model.specs.declared.turn.Turn.{Turn}
use Rattle.co_node_model.specs.declared.turn.Turn.TheVariants as turn
use Rattle.co_node_model.specs.Device.{moment, moments, prescribed, state_of}
use Rattle.co_node_model.specs.Emergencies.{emergency_frames}
use Rattle.co_node_model.specs.Heartbeats.{boot_up, life_frames, producer_event, producer_log}
use Rattle.co_node_model.specs.Inputs.{Inputs, InputView}
use Rattle.co_node_model.specs.Marks.{marked_command, marked_key}
use Rattle.co_node_model.specs.Moments.{Constants, Moment}
use Rattle.co_node_model.specs.Tpdos.{due_at, schedule_log, tpdo_frame, turn_at, turn_with}
use Rattle.conode_compare_pdos.specs.declared.pdos.Pdos.{Pdos}
use Rattle.conode_compare_pdos.specs.declared.tpdo.Tpdo.{Tpdo}
use Rattle.conode_compare_pdos.specs.Deviations.{deviation_at, state_deviation}
use Rattle.conode_compare_nmt.specs.declared.finding.Finding.{Finding}
use Rattle.conode_compare_nmt.specs.declared.finding.NmtState.{NmtState}
use Rattle.conode_compare_nmt.specs.declared.finding.NmtState.TheVariants.{Unknown, Initialising, PreOperational, Operational, Stopped}
use Rattle.conode_compare_rules.specs.declared.kind.FrameKind.{FrameKind}
use Rattle.conode_compare_nmt.specs.declared.limits.Subject.{Subject}
use Rattle.conode_compare_rules.specs.declared.progress.Progress.{Progress}
use Rattle.conode_compare_rules.specs.declared.verdict.Findings.{Findings}
use Rattle.conode_compare_rules.specs.FrameKinds.{data_kind, length_of}
use Rattle.conode_compare_nmt.specs.States.{is_idle, judged_state}
use Rattle.conode_compare_rules.specs.Gaps.{before_recording, begun}
use Rattle.conode_compare_rules.specs.NmtFrames.{steady_when_free}
use Rattle.conode_compare_rules.specs.Processes.{moment_at}
use Rattle.conode_compare_rules.specs.Progresses.{progress_with}
use Rattle.conode_compare_laws.specs.Differences.{differences_from, differences_in, state_differences}
use Rattle.conode_compare_laws.specs.Identifiers.{AllSendAside, AreElsewhere, IsElsewhere, SendsAside}
use Rattle.conode_compare_laws.specs.NamedTpdos.{NameNoTpdos, NamesNoTpdo}
use Rattle.conode_compare_laws.specs.Recordings.{Recorded, Stamped, frame_of, heard_from, recording, stamped}
use Rattle.conode_compare_laws.specs.TpdoDifferences.{is_pdo_state, tpdo_differences}
use Rattle.conode_compare_laws.specs.TpdoFrames.{AllSendBesideTpdos, AreNoTpdos, IsNoTpdo, SendsBesideTpdos}
use Rattle.conode_compare_laws.proofs.Along as along
use Rattle.conode_compare_laws.proofs.Along.{AllGo, Goes}
use Rattle.conode_compare_laws.proofs.Frames.{FitsAt, begun_fits}
use Rattle.conode_compare_laws.proofs.Heard.{Ends, aside_goes, asides, before_sending, boot_goes, life_goes, of_device, received, stage_at}
use Rattle.conode_compare_laws.proofs.Inputs.{command_in, command_is, end_shown, state_by}
use Rattle.conode_compare_laws.proofs.NamedKeys.{first_of, last_of}
use Rattle.conode_compare_laws.proofs.Runs.{AllRun, joined, then_none}
use Rattle.conode_compare_laws.proofs.Shown.{Stage, boots, fits_nothing, freer_operational, is_shown, runs, stage_after}
use Rattle.conode_compare_laws.proofs.TpdoDue.{AreDistinct, due_distinct}
use Rattle.conode_compare_laws.proofs.TpdoKinds.{deviation_none, few_none, length_none, sync_none, untimed}
use Rattle.conode_compare_laws.proofs.TpdoNames.{AllNameNone, unstamped_names}
use Rattle.conode_compare_laws.proofs.TpdoOthers as others
use Rattle.conode_compare_laws.proofs.TpdoOthers.{AreFine, Holds, Knows, is_of, knows_framed, knows_kept, knows_sheet}
use Rattle.conode_compare_laws.proofs.TpdoParts.{IsTpdoFrame, Walk, Walked, besides, besides_run, came_other, tpdo_ids, walks}

-- ---- one TPDO

never_idle : (alone : Bool) (state : NmtState) → is_shown state node.Operational ≡ true → is_idle alone state ≡ false
never_idle alone Unknown h = refl
never_idle alone Initialising h = absurd (cc)
never_idle alone PreOperational h = absurd (cc)
never_idle alone Operational h = refl
never_idle alone Stopped h = absurd (cc)

last_off : (a b : Bool) → b ≡ false → (a && b) ≡ false
last_off true b h = h
last_off false b h = refl

operational : (subject : Subject) (p : Progress) (micros : ℕ) → is_shown p.nmt.state node.Operational ≡ true → is_of is_pdo_state (state_deviation (moment_at subject p micros)) ≡ false
unfolding moment_at
operational subject p micros h =
    rw (last_off (steady_when_free subject p) (is_idle subject.facts.starts_itself (judged_state p.nmt))
    (ap (is_idle subject.facts.starts_itself) (freer_operational p.nmt.state p.nmt.due h) ∙ never_idle subject.facts.starts_itself p.nmt.state h)) refl

fine : (subject : Subject) (p : Progress) (micros length : ℕ) (has_sync : Bool) (pdo : Tpdo) → is_shown p.nmt.state node.Operational ≡ true → is_of is_pdo_state (deviation_at (moment_at subject p micros) has_sync pdo length) ≡ false
fine subject p micros length has_sync pdo h =
    deviation_none is_pdo_state (moment_at subject p micros) has_sync pdo length (operational subject p micros h) (length_none is_pdo_state pdo.parameters.length pdo.odd length (λ l m. refl))
    (sync_none is_pdo_state has_sync pdo refl) (few_none is_pdo_state (moment_at subject p micros) has_sync pdo (λ s n. refl)) (untimed is_pdo_state (moment_at subject p micros) pdo (λ passed n. refl) (λ passed n. refl))

all_fine : (subject : Subject) (p : Progress) (micros id length : ℕ) → is_shown p.nmt.state node.Operational ≡ true → AreFine is_pdo_state (moment_at subject p micros) p.pdos id length
all_fine subject p micros id length h = record {
  first = λ on. fine subject p micros length (is_some p.pdos.sync) p.pdos.first h;
  second = λ on. fine subject p micros length (is_some p.pdos.sync) p.pdos.second h;
  third = λ on. fine subject p micros length (is_some p.pdos.sync) p.pdos.third h;
  fourth = λ on. fine subject p micros length (is_some p.pdos.sync) p.pdos.fourth h;
}

-- ---- the TPDOs of an input

state_walk : (subject : Subject) (rows : List Row) (micros : ℕ) (frame : ℕ → FrameContent) → Walk is_pdo_state (λ n. Unit {0}) (λ due. Knows subject.facts.pdos) (FitsAt micros (runs node.Operational)) subject micros frame
state_walk subject rows micros frame = record {
  kept = λ due. knows_kept subject.facts.pdos;
  begins = λ p h. begun_fits subject p micros micros (runs node.Operational) h;
  goes_on = λ p n id h. (aside_goes subject rows micros p (frame n) (runs node.Operational) (ne_eqb (frame n).id 0 id.0) (ne_eqb (frame n).id (0x700 + subject.node) id.1) h).fits;
  step = λ n later p new ok once fits h. record {
    fine = all_fine subject p micros (frame n).id (length_of (frame n)) fits;
    kept = λ other. knows_framed subject.facts.pdos p.pdos (moment_at subject p micros) (frame n).id (length_of (frame n)) h;
    unseen = λ emergency. h;
  };
}

-- TPDOs are due in operational alone
pub due_or : (d : Description) (c : Contents) (schedule : Schedule) (final : NodeState) (other : Turn) → (due_at d (if not (is_state node.Operational final) then turn.Quiet else other) c schedule ≡ []) ⊎ (final ≡ node.Operational)
due_or d c schedule node.PreOperational other = inl refl
due_or d c schedule node.Operational other = inr refl
due_or d c schedule node.Stopped other = inl refl

abbrev pub due_in_state : Constants → Inputs → InputView → Type 0
due_in_state k before input = ((moment k (moments k before) input).due ≡ []) ⊎ (state_of k (input ∷ before) ≡ node.Operational)

pub due_operational : (k : Constants) (before : Inputs) (input : InputView) → due_in_state k before input
due_operational k before input =
    let m : Moment = moment k (moments k before) input in
    due_or k.description m.contents (schedule_log k (moments k before)) (state_of k (input ∷ before))
    (if not (is_state node.Operational (state_of k before)) then turn.StartAll else turn_with (marked_key m.mark) m.mark)

all_units : (numbers : List ℕ) → AllByRecursion (λ n. Unit {0}) numbers
all_units [] = tt
all_units (n ∷ numbers) = (tt, all_units numbers)

tpdos_run : (subject : Subject) (rows : List Row) (micros : ℕ) (frame : ℕ → FrameContent) (due : List ℕ) (final : NodeState) (p : Progress) → (due ≡ []) ⊎ (final ≡ node.Operational) → AllByRecursion (λ n. IsTpdoFrame subject.node (frame n)) due → AreDistinct due
    → Holds (Knows subject.facts.pdos) p → FitsAt micros (runs final) p → AllRun (tpdo_differences is_pdo_state) subject rows micros p (map frame due) (Walked (Knows subject.facts.pdos) (FitsAt micros (runs final)))
tpdos_run subject rows micros frame due final p (inl none) ids once h g =
    subst (λ numbers. AllRun (tpdo_differences is_pdo_state) subject rows micros p (map frame numbers) (Walked (Knows subject.facts.pdos) (FitsAt micros (runs final)))) (sym none)
    (record { holds = h; besides = g })
tpdos_run subject rows micros frame due final p (inr is) ids once h g =
    subst (λ state. AllRun (tpdo_differences is_pdo_state) subject rows micros p (map frame due) (Walked (Knows subject.facts.pdos) (FitsAt micros (runs state)))) (sym is)
    (walks is_pdo_state (λ n. Unit {0}) (λ numbers. Knows subject.facts.pdos) (FitsAt micros (runs node.Operational)) subject rows micros frame due p (state_walk subject rows micros frame) ids (all_units due) once h
    (subst (λ state. FitsAt micros (runs state) p) is g))

-- ---- with the NMT state that compare has

with_fits : (these : FrameKind → Findings → List Finding) (subject : Subject) (rows : List Row) (micros : ℕ) (frames : List FrameContent) (p : Progress) (stage : Stage) (after : Progress → Type 0)
    → AllGo state_differences subject rows micros p frames stage → AllRun these subject rows micros p frames after → AllRun these subject rows micros p frames (λ q. FitsAt micros stage q × after q)
with_fits these subject rows micros [] p stage after g h = (g, h)
with_fits these subject rows micros (frame ∷ later) p stage after g h = (h.0, with_fits these subject rows micros later (progress_with subject p micros (data_kind subject.node frame)) stage after g.1 h.1)

fits_besides : (k : Constants) (subject : Subject) (rows : List Row) (micros : ℕ) (before : Inputs) (input : InputView) (p : Progress) → SendsAside k (moment k (moments k before) input)
    → FitsAt micros (stage_at (marked_command (moment k (moments k before) input).mark) (state_of k (input ∷ before))) p
    → AllGo state_differences (of_device k subject) rows micros p (besides k (moment k (moments k before) input)) (runs (state_of k (input ∷ before)))
fits_besides k subject rows micros before input p aside h =
    let s : Subject = of_device k subject in
    let m : Moment = moment k (moments k before) input in
    let command = marked_command m.mark in
    let final : NodeState = state_of k (input ∷ before) in
    let ends : Ends command (state_of k before) final = λ state shown. end_shown k (moments k before) input state (subst (λ c. is_shown state (state_by c (state_of k before)) ≡ true) (command_is k (moments k before) input) shown) in
    let stage : Stage = stage_at command final in
    let a : List FrameContent = frames_at m.exchange in
    let b : List FrameContent = frames_at m.timed_out in
    let c : List FrameContent = emergency_frames m.contents m.emergency in
    let d : List FrameContent = life_frames k.description.node m.life in
    let second : AllGo state_differences s rows micros p (a ++ b) stage =
    along.joined state_differences s rows micros a b p stage stage (asides s rows micros a p stage aside.answers h) (λ q g. asides s rows micros b q stage aside.time_out g) in
    along.joined state_differences s rows micros (a ++ b ++ c) d p stage (runs final)
    (along.joined state_differences s rows micros (a ++ b) c p stage stage second (λ q g. asides s rows micros c q stage aside.emergency g))
    (λ q g. life_goes s rows micros q command (is_heartbeat_due (producer_event m.mark m.contents) (producer_log k (moments k before))) (state_of k before) final ends g)

-- ---- an input

-- what compare has of the TPDOs, and of the state, before an input and after it
record IsShown (facts : Pdos) (actual : NodeState) (p : Progress) : Type 0 where
  holds : Holds (Knows facts) p
  state : is_shown p.nmt.state actual ≡ true

input_runs : (k : Constants) (subject : Subject) (rows : List Row) (micros : ℕ) (before : Inputs) (input : InputView) (p : Progress) → IsElsewhere (0x700 + k.description.node) input → IsNoTpdo subject.facts.pdos input
    → SendsAside k (moment k (moments k before) input) → SendsBesideTpdos subject.facts.pdos k (moment k (moments k before) input) → AllNameNone k.description.node (frame_of input ++ prescribed k before input)
    → IsShown subject.facts.pdos (state_of k before) p
    → AllRun (tpdo_differences is_pdo_state) (of_device k subject) rows micros p (frame_of input ++ prescribed k before input) (Walked (Knows subject.facts.pdos) (FitsAt micros (runs (state_of k (input ∷ before)))))
input_runs k subject rows micros before input p control no_tpdo aside off none h =
    let s : Subject = of_device k subject in
    let n : ℕ = k.description.node in
    let facts : Pdos = subject.facts.pdos in
    let m : Moment = moment k (moments k before) input in
    let these : FrameKind → Findings → List Finding = tpdo_differences is_pdo_state in
    let final : NodeState = state_of k (input ∷ before) in
    let frame : ℕ → FrameContent = tpdo_frame k.description m.contents in
    let stage : Stage = stage_after (command_in n input) (state_of k before) in
    let came : List FrameContent = frame_of input in
    let more : List FrameContent = besides k m in
    let N : FrameContent → Type 0 = NamesNoTpdo n in
    let sent : AllNameNone n (more ++ map frame m.due) = last_of N came (prescribed k before input) none in
    let after_came : Progress → Type 0 = λ q. FitsAt micros stage q × Holds (Knows facts) q in
    let after_more : Progress → Type 0 = λ q. FitsAt micros (runs final) q × Holds (Knows facts) q in
    let after : Progress → Type 0 = Walked (Knows facts) (FitsAt micros (runs final)) in
    joined these s rows micros came (more ++ map frame m.due) p after_came after
    (with_fits these s rows micros came p stage (Holds (Knows facts)) (received s rows micros input p (state_of k before) control h.state)
    (others.others is_pdo_state (Knows facts) s rows micros came p (knows_kept facts) (came_other facts n input (first_of N came (prescribed k before input) none) control no_tpdo) h.holds))
    (λ q g.
    joined these s rows micros more (map frame m.due) q after_more after
    (with_fits these s rows micros more q (runs final) (Holds (Knows facts))
    (fits_besides k subject rows micros before input q aside
    (subst (λ c. FitsAt micros (stage_at c final) q) (sym (command_is k (moments k before) input))
    (before_sending micros (command_in n input) (state_of k before) final q (λ state shown. end_shown k (moments k before) input state shown) g.0)))
    (besides_run is_pdo_state (Knows facts) k subject rows micros before input q (knows_kept facts) (λ reset. knows_sheet facts) aside off (first_of N more (map frame m.due) sent) g.1))
    (λ r f. tpdos_run s rows micros frame m.due final r (due_operational k before input) (tpdo_ids n frame m.due aside.tpdos (last_of N more (map frame m.due) sent))
    (due_distinct k.description (turn_at m (moments k before)) m.contents (schedule_log k (moments k before))) f.1 f.0))

-- ---- all inputs

all_none : (k : Constants) (subject : Subject) (rows : List Row) (inputs : List Stamped) (before : Inputs) (p : Progress) → AreElsewhere (0x700 + k.description.node) inputs → AreNoTpdos subject.facts.pdos inputs
    → AllSendAside k before inputs → AllSendBesideTpdos subject.facts.pdos k before inputs → NameNoTpdos k.description.node (heard_from k before inputs) → IsShown subject.facts.pdos (state_of k before) p
    → differences_from (tpdo_differences is_pdo_state) (of_device k subject) rows p (heard_from k before inputs) ≡ []
all_none k subject rows [] before p control no_tpdos aside off none h = refl
all_none k subject rows (s ∷ later) before p control no_tpdos aside off none h =
    let frames : List FrameContent = frame_of s.input ++ prescribed k before s.input in
    let rest : List Recorded = heard_from k (s.input ∷ before) later in
    let N : Recorded → Type 0 = λ r. NamesNoTpdo k.description.node r.frame in
    then_none (tpdo_differences is_pdo_state) (of_device k subject) rows s.micros frames rest p (Walked (Knows subject.facts.pdos) (FitsAt s.micros (runs (state_of k (s.input ∷ before)))))
    (input_runs k subject rows s.micros before s.input p control.0 no_tpdos.0 aside.0 off.0 (unstamped_names k.description.node s.micros frames (first_of N (stamped s.micros frames) rest none)) h)
    (λ q g. all_none k subject rows later (s.input ∷ before) q control.1 no_tpdos.1 aside.1 off.1 (last_of N (stamped s.micros frames) rest none) (record { holds = g.holds; state = g.besides }))

of_recording : (k : Constants) (subject : Subject) (rows : List Row) (inputs : List Stamped) → AreElsewhere (0x700 + k.description.node) inputs → AreNoTpdos subject.facts.pdos inputs
    → AllSendAside k [] inputs → AllSendBesideTpdos subject.facts.pdos k [] inputs → NameNoTpdos k.description.node (recording k inputs)
    → differences_in (tpdo_differences is_pdo_state) (of_device k subject) rows (recording k inputs) ≡ []
unfolding begun
of_recording k subject rows [] control no_tpdos aside off none = refl
of_recording k subject rows (s ∷ later) control no_tpdos aside off none =
    let subj : Subject = of_device k subject in
    let these : FrameKind → Findings → List Finding = tpdo_differences is_pdo_state in
    let g : Goes state_differences subj rows s.micros (before_recording subj) (boot_up k) (runs node.PreOperational) =
    boot_goes subj rows s.micros (before_recording subj) (fits_nothing s.micros boots None) in
    then_none these subj rows s.micros (boot_up k ∷ []) (heard_from k [] (s ∷ later)) (before_recording subj) (λ q. FitsAt s.micros (runs node.PreOperational) q × Holds (Knows subject.facts.pdos) q)
    (with_fits these subj rows s.micros (boot_up k ∷ []) (before_recording subj) (runs node.PreOperational) (Holds (Knows subject.facts.pdos)) (g.none, g.fits)
    (others.boots is_pdo_state (Knows subject.facts.pdos) subj rows s.micros (before_recording subj) (knows_sheet subject.facts.pdos) tt tt))
    (λ q h. all_none k subject rows (s ∷ later) [] q control no_tpdos aside off none.1 (record { holds = h.1; state = h.0 }))

pub no_pdo_state : (k : Constants) (subject : Subject) (rows : List Row) (inputs : List Stamped) → subject.node ≡ k.description.node → AreElsewhere (0x700 + k.description.node) inputs → AreNoTpdos subject.facts.pdos inputs
    → AllSendAside k [] inputs → AllSendBesideTpdos subject.facts.pdos k [] inputs → NameNoTpdos k.description.node (recording k inputs)
    → differences_in (tpdo_differences is_pdo_state) subject rows (recording k inputs) ≡ []
no_pdo_state k subject rows inputs is control no_tpdos aside off none =
    subst (λ n. differences_in (tpdo_differences is_pdo_state) (record subject { node = n }) rows (recording k inputs) ≡ []) (sym is)
    (of_recording k subject rows inputs control no_tpdos aside off none)
