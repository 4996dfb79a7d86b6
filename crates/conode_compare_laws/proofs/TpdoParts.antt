-- The frames of an input: those besides TPDOs, and then the TPDOs one after another.
use Rattle.std.proofs.Common.{◌≡◌, ◌≢◌, ℕ, ◌+◌, Bool, true, false, List, [], ◌∷◌, ◌++◌, map, Option, Some, None, refl}
use Rattle.std.specs.Prelude.{if◌then◌else◌, ◌==◌, ◌||◌}
use Rattle.std.specs.List.{AllByRecursion}
use Rattle.std.proofs.lemmas.Bool.{eqb-true, ne_eqb}
use Rattle.co_frame.specs.FrameContent.{FrameContent}
use Rattle.co_frame.specs.Emergencies.{emergency_in}
use Rattle.co_frame.specs.declared.emergency.Emergency.{Emergency}
use Rattle.co_sheet.specs.Content.{Row}
use Rattle.co_sdo.specs.Events.{frames_at}
use Rattle.co_pdo.specs.Schedules.{is_among}
use Rattle.co_node_parts.specs.Producers.{is_heartbeat_due}
use Rattle.co_node_parts.specs.declared.nmt_state.NodeState.{NodeState}
use Rattle.co_node_model.specs.Device.{moment, moments, state_of}
use Rattle.co_node_model.specs.Emergencies.{emergency_frames}
use Rattle.co_node_model.specs.Heartbeats.{life_frames, producer_event, producer_log}
use Rattle.co_node_model.specs.Inputs.{Applied, Framed, Inputs, InputView, Ticked}
use Rattle.co_node_model.specs.Moments.{Constants, Moment}
use Rattle.co_node_model.specs.Nmt.{is_reset}
use Rattle.conode_explain_transfers.specs.declared.kinds.Side.TheVariants.{Client, Server}
use Rattle.conode_compare_pdos.specs.declared.deviation.Deviation.{Deviation}
use Rattle.conode_compare_pdos.specs.declared.pdos.Pdos.{Pdos}
use Rattle.conode_compare_pdos.specs.Followed.{framed, sighting, unknown_pdos}
use Rattle.conode_compare_nmt.specs.declared.finding.Finding.{Finding}
use Rattle.conode_compare_rules.specs.declared.kind.FrameKind.{FrameKind}
use Rattle.conode_compare_rules.specs.declared.kind.FrameKind.TheVariants.{Process, Sdo}
use Rattle.conode_compare_nmt.specs.declared.limits.Subject.{Subject}
use Rattle.conode_compare_rules.specs.declared.progress.Progress.{Progress}
use Rattle.conode_compare_rules.specs.declared.verdict.Findings.{Findings}
use Rattle.conode_compare_rules.specs.FrameKinds.{command_kind, control_kind, data_kind, emergency_kind, emergency_with, length_of}
use Rattle.conode_compare_rules.specs.Gaps.{begun}
use Rattle.conode_compare_rules.specs.NmtFrames.{is_overdue}
use Rattle.conode_compare_rules.specs.EmergencyRules.{after_emergency}
use Rattle.conode_compare_rules.specs.Processes.{after_process, is_of_client, late_by_tpdo, moment_at, process_findings, sighted}
use Rattle.conode_compare_rules.specs.Progresses.{progress_with}
use Rattle.conode_compare_laws.specs.Identifiers.{AreAside, IsElsewhere, SendsAside}
use Rattle.conode_compare_laws.specs.NamedTpdos.{NamesNoTpdo}
use Rattle.conode_compare_laws.specs.Recordings.{frame_of}
use Rattle.conode_compare_laws.specs.TpdoDifferences.{tpdo_differences}
use Rattle.conode_compare_laws.specs.TpdoFrames.{AreUnfollowed, IsNoTpdo, SendsBesideTpdos}
use Rattle.conode_compare_laws.proofs.Heard.{of_device}
use Rattle.conode_compare_laws.proofs.NamedKeys.{IsOpenOn, begun_open, first_of, last_of}
use Rattle.conode_compare_laws.proofs.Runs.{AllRun, joined}
use Rattle.conode_compare_laws.proofs.TpdoDue.{AreDistinct}
use Rattle.conode_compare_laws.proofs.TpdoNames.{AllNameNone, IsApart, NamesNoneBy}
use Rattle.conode_compare_laws.proofs.TpdoOthers.{AreFine, Holds, IsKept, IsNewest, IsOther, Passes, all_fine, begun_kept, begun_newest, either_kept, fresh, lives, one, others, overdue_fine, sdo_passes, sighted_none}

-- ---- which frames these are

pub others_of : (facts : Pdos) (node : ℕ) (frames : List FrameContent) → AllNameNone node frames → AreAside node frames → AreUnfollowed facts frames → AllByRecursion (λ frame. IsOther facts node frame) frames
others_of facts node [] none aside off = tt
others_of facts node (frame ∷ frames) none aside off = ((aside.0.1, off.0, none.0), others_of facts node frames none.1 aside.1 off.1)

pub came_other : (facts : Pdos) (node : ℕ) (input : InputView) → AllNameNone node (frame_of input) → IsElsewhere (0x700 + node) input → IsNoTpdo facts input → AllByRecursion (λ frame. IsOther facts node frame) (frame_of input)
came_other facts node (Framed frame) none control off = ((control, off, none.0), tt)
came_other facts node Ticked none control off = tt
came_other facts node (Applied event) none control off = tt

-- ---- what a device sends at an input besides its TPDOs

abbrev pub besides : Constants → Moment → List FrameContent
besides k m = frames_at m.exchange ++ frames_at m.timed_out ++ emergency_frames m.contents m.emergency ++ life_frames k.description.node m.life

pub besides_run : (is : Deviation → Bool) (I : Pdos → Type 0) (k : Constants) (subject : Subject) (rows : List Row) (micros : ℕ) (before : Inputs) (input : InputView) (p : Progress) → IsKept subject.facts.pdos I
    → (is_reset (moment k (moments k before) input).mark ≡ true → I subject.facts.pdos) → SendsAside k (moment k (moments k before) input) → SendsBesideTpdos subject.facts.pdos k (moment k (moments k before) input)
    → AllNameNone k.description.node (besides k (moment k (moments k before) input)) → Holds I p
    → AllRun (tpdo_differences is) (of_device k subject) rows micros p (besides k (moment k (moments k before) input)) (Holds I)
besides_run is I k subject rows micros before input p kept begins aside off none h =
    let s : Subject = of_device k subject in
    let n : ℕ = k.description.node in
    let facts : Pdos = subject.facts.pdos in
    let m : Moment = moment k (moments k before) input in
    let final : NodeState = state_of k (input ∷ before) in
    let due : Bool = is_heartbeat_due (producer_event m.mark m.contents) (producer_log k (moments k before)) in
    let a : List FrameContent = frames_at m.exchange in
    let b : List FrameContent = frames_at m.timed_out in
    let c : List FrameContent = emergency_frames m.contents m.emergency in
    let d : List FrameContent = life_frames n m.life in
    let N : FrameContent → Type 0 = NamesNoTpdo n in
    let none_c : AllNameNone n (a ++ b ++ c) = first_of N (a ++ b ++ c) d none in
    let none_b : AllNameNone n (a ++ b) = first_of N (a ++ b) c none_c in
    joined (tpdo_differences is) s rows micros (a ++ b ++ c) d p (Holds I) (Holds I)
    (joined (tpdo_differences is) s rows micros (a ++ b) c p (Holds I) (Holds I)
    (joined (tpdo_differences is) s rows micros a b p (Holds I) (Holds I)
    (others is I s rows micros a p kept (others_of facts n a (first_of N a b none_b) aside.answers off.answers) h)
    (λ q g. others is I s rows micros b q kept (others_of facts n b (last_of N a b none_b) aside.time_out off.time_out) g))
    (λ q g. others is I s rows micros c q kept (others_of facts n c (last_of N (a ++ b) c none_c) aside.emergency off.emergency) g))
    (λ q g. lives is I s rows micros q (is_reset m.mark) due final kept begins g)

-- ---- one TPDO

-- what is asked of a TPDO of the device: it has the identifier of neither a command nor error control, and what it names, if it is
-- taken for a frame of a client
abbrev pub IsTpdoFrame : ℕ → FrameContent → Type 0
IsTpdoFrame node frame = (frame.id ≢ 0) × (frame.id ≢ 0x700 + node) × NamesNoTpdo node frame

-- with the identifier of EMCY, or of the default SDO channel, it isn't taken for a TPDO
abbrev pub is_unwatched : ℕ → ℕ → Bool
is_unwatched node id = (id == 0x80 + node) || ((id == 0x580 + node) || (id == 0x600 + node))

-- it is as it should be, and what holds then; and what, where it isn't taken for a TPDO
pub record Step (is : Deviation → Bool) (J : Pdos → Type 0) (subject : Subject) (p : Progress) (micros id length : ℕ) : Type 0 where
  pub fine : AreFine is (moment_at subject p micros) p.pdos id length
  pub kept : is_unwatched subject.node id ≡ false → J (framed p.pdos (moment_at subject p micros) id length)
  pub unseen : is_unwatched subject.node id ≡ true → J p.pdos

emergency_passes : (is : Deviation → Bool) (J : Pdos → Type 0) (subject : Subject) (rows : List Row) (p : Progress) (micros length : ℕ) (o : Option Emergency) → IsNewest micros p → J p.pdos
    → Passes is J subject rows p micros (emergency_with length o)
unfolding after_emergency
emergency_passes is J subject rows p micros length None new h = record { none = refl; after = record { fresh = fresh micros p new; kept = h } }
emergency_passes is J subject rows p micros length (Some emergency) new h = record { none = refl; after = record { fresh = fresh micros p new; kept = h } }

process_passes : (is : Deviation → Bool) (J : Pdos → Type 0) (subject : Subject) (rows : List Row) (p : Progress) (micros id length : ℕ) → J unknown_pdos → is_unwatched subject.node id ≡ false → IsNewest micros p → Step is J subject p micros id length
    → Passes is J subject rows p micros (Process id length)
unfolding process_findings after_process
process_passes is J subject rows p micros id length unknown other new step = record {
  none = sighted_none is (late_by_tpdo subject p micros id length) id length (sighted subject p micros id length)
      (overdue_fine is (is_overdue subject p) (sighting (moment_at subject p micros) p.pdos id length) (all_fine is (moment_at subject p micros) p.pdos id length step.fine));
  after = record { fresh = fresh micros p new; kept = either_kept J (is_of_client subject id) _ _ unknown (step.kept other) };
}

tpdo_passes : (is : Deviation → Bool) (J : Pdos → Type 0) (subject : Subject) (rows : List Row) (p : Progress) (micros : ℕ) (frame : FrameContent) → J unknown_pdos → IsTpdoFrame subject.node frame → IsOpenOn IsApart p → IsNewest micros p
    → Step is J subject p micros frame.id (length_of frame) → Passes is J subject rows p micros (data_kind subject.node frame)
tpdo_passes is J subject rows p micros frame unknown id opened new step =
    by (frame.id == 0) (frame.id == 0x80 + subject.node) (frame.id == 0x580 + subject.node) (frame.id == 0x600 + subject.node) (frame.id == 0x700 + subject.node)
    (ne_eqb frame.id 0 id.0) refl (λ e. id.2 (eqb-true frame.id (0x600 + subject.node) e)) (ne_eqb frame.id (0x700 + subject.node) id.1)
  where
    by : (a b c d e : Bool) → a ≡ false → is_unwatched subject.node frame.id ≡ b || (c || d) → (d ≡ true → NamesNoneBy Client frame) → e ≡ false
        → Passes is J subject rows p micros (if a then command_kind subject.node frame
        else (if b then emergency_kind frame
        else (if c then Sdo Server frame
        else (if d then Sdo Client frame
        else (if e then control_kind frame else Process frame.id (length_of frame))))))
    by true b c d e o other q s = absurd (cc)
    by false true c d e o other q s = emergency_passes is J subject rows p micros (length_of frame) (emergency_in frame.bytes) new (step.unseen other)
    by false false true d e o other q s = sdo_passes is J subject rows p micros Server frame unknown tt opened new (step.unseen other)
    by false false false true e o other q s = sdo_passes is J subject rows p micros Client frame unknown (q refl) opened new (step.unseen other)
    by false false false false true o other q s = absurd (cc)
    by false false false false false o other q s = process_passes is J subject rows p micros frame.id (length_of frame) unknown other new step

-- ---- the TPDOs that are due, one after another

-- What holds of each that is sent (`Ok`), of what compare has of TPDOs before these are sent (`J`), and of what it has besides (`Q`).
pub record Walk (is : Deviation → Bool) (Ok : ℕ → Type 0) (J : List ℕ → Pdos → Type 0) (Q : Progress → Type 0) (subject : Subject) (micros : ℕ) (frame : ℕ → FrameContent) : Type 0 where
  pub kept : (due : List ℕ) → IsKept subject.facts.pdos (J due)
  pub begins : (p : Progress) → Q p → Q (begun subject p micros)
  pub goes_on : (p : Progress) (n : ℕ) → IsTpdoFrame subject.node (frame n) → Q p → Q (progress_with subject p micros (data_kind subject.node (frame n)))
  pub step : (n : ℕ) (later : List ℕ) (p : Progress) → IsNewest micros p → Ok n → is_among n later ≡ false → Q p → J (n ∷ later) p.pdos → Step is (J later) subject p micros (frame n).id (length_of (frame n))

-- what holds after the last one
pub record Walked (J : Pdos → Type 0) (Q : Progress → Type 0) (p : Progress) : Type 0 where
  pub holds : Holds J p
  pub besides : Q p

pub walks : (is : Deviation → Bool) (Ok : ℕ → Type 0) (J : List ℕ → Pdos → Type 0) (Q : Progress → Type 0) (subject : Subject) (rows : List Row) (micros : ℕ) (frame : ℕ → FrameContent) (due : List ℕ) (p : Progress)
    → Walk is Ok J Q subject micros frame → AllByRecursion (λ n. IsTpdoFrame subject.node (frame n)) due → AllByRecursion Ok due → AreDistinct due → Holds (J due) p → Q p
    → AllRun (tpdo_differences is) subject rows micros p (map frame due) (Walked (J []) Q)
walks is Ok J Q subject rows micros frame [] p walk ids oks once h g = record { holds = h; besides = g }
walks is Ok J Q subject rows micros frame (n ∷ later) p walk ids oks once h g =
    let new : IsNewest micros (begun subject p micros) = begun_newest subject p micros h.fresh in
    let step : Step is (J later) subject (begun subject p micros) micros (frame n).id (length_of (frame n)) =
    walk.step n later (begun subject p micros) new oks.0 once.0 (walk.begins p g) (begun_kept subject (J (n ∷ later)) p micros (walk.kept (n ∷ later)) h.kept) in
    let first : AllRun (tpdo_differences is) subject rows micros p (frame n ∷ []) (Holds (J later)) =
    one is (J later) subject rows micros p (frame n) (data_kind subject.node (frame n)) refl ids.0.2 h.opened
    (tpdo_passes is (J later) subject rows (begun subject p micros) micros (frame n) (walk.kept later).unknown ids.0 (begun_open IsApart subject p micros h.opened) new step) in
    (first.0, walks is Ok J Q subject rows micros frame later (progress_with subject p micros (data_kind subject.node (frame n))) walk ids.1 oks.1 once.1 first.1 (walk.goes_on p n ids.0 g))

pub tpdo_ids : (node : ℕ) (frame : ℕ → FrameContent) (due : List ℕ) → AreAside node (map frame due) → AllNameNone node (map frame due) → AllByRecursion (λ n. IsTpdoFrame node (frame n)) due
tpdo_ids node frame [] aside none = tt
tpdo_ids node frame (n ∷ due) aside none = ((aside.0.0, aside.0.1, none.0), tpdo_ids node frame due aside.1 none.1)

-- what holds after the last one gives something else
pub weaken : (these : FrameKind → Findings → List Finding) (subject : Subject) (rows : List Row) (micros : ℕ) (frames : List FrameContent) (p : Progress) (A B : Progress → Type 0) → ((q : Progress) → A q → B q)
    → AllRun these subject rows micros p frames A → AllRun these subject rows micros p frames B
weaken these subject rows micros [] p A B f h = f p h
weaken these subject rows micros (frame ∷ later) p A B f h = (h.0, weaken these subject rows micros later (progress_with subject p micros (data_kind subject.node frame)) A B f h.1)
