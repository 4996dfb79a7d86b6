-- All inputs one after another, with what a law says of TPDOs between them.
use Rattle.std.proofs.Common.{◌≡◌, ℕ, ◌+◌, Bool, List, [], ◌∷◌, ◌++◌, refl, subst, sym}
use Rattle.co_frame.specs.FrameContent.{FrameContent}
use Rattle.co_sheet.specs.Content.{Row}
use Rattle.co_node_model.specs.Device.{moment, moments, prescribed}
use Rattle.co_node_model.specs.Heartbeats.{boot_up}
use Rattle.co_node_model.specs.Inputs.{Inputs}
use Rattle.co_node_model.specs.Moments.{Constants}
use Rattle.conode_compare_pdos.specs.declared.deviation.Deviation.{Deviation}
use Rattle.conode_compare_pdos.specs.declared.pdos.Pdos.{Pdos}
use Rattle.conode_compare_nmt.specs.declared.limits.Subject.{Subject}
use Rattle.conode_compare_rules.specs.declared.progress.Progress.{Progress}
use Rattle.conode_compare_rules.specs.Gaps.{before_recording, begun}
use Rattle.conode_compare_laws.specs.Differences.{differences_from, differences_in}
use Rattle.conode_compare_laws.specs.Identifiers.{AllSendAside, AreElsewhere, IsElsewhere, SendsAside}
use Rattle.conode_compare_laws.specs.NamedTpdos.{NameNoTpdos, NamesNoTpdo}
use Rattle.conode_compare_laws.specs.Recordings.{Recorded, Stamped, frame_of, heard_from, recording, stamped}
use Rattle.conode_compare_laws.specs.TpdoDifferences.{tpdo_differences}
use Rattle.conode_compare_laws.specs.TpdoFrames.{AllSendBesideTpdos, AreNoTpdos, IsNoTpdo, SendsBesideTpdos}
use Rattle.conode_compare_laws.proofs.Heard.{of_device}
use Rattle.conode_compare_laws.proofs.NamedKeys.{first_of, last_of}
use Rattle.conode_compare_laws.proofs.Runs.{AllRun, then_none}
use Rattle.conode_compare_laws.proofs.TpdoNames.{AllNameNone, unstamped_names}
use Rattle.conode_compare_laws.proofs.TpdoOthers.{Holds, boots}

-- something holds of each input, of those before it, and of the stamp before it
abbrev pub AllInputs : (Inputs → ℕ → Stamped → Type 0) → Inputs → ℕ → List Stamped → Type 0
AllInputs P before last [] = Unit {0}
AllInputs P before last (s ∷ later) = P before last s × AllInputs P (s.input ∷ before) s.micros later

pub both : (P Q : Inputs → ℕ → Stamped → Type 0) (inputs : List Stamped) (before : Inputs) (last : ℕ) → AllInputs P before last inputs → AllInputs Q before last inputs
    → AllInputs (λ b l s. P b l s × Q b l s) before last inputs
both P Q [] before last p q = tt
both P Q (s ∷ later) before last p q = ((p.0, q.0), both P Q later (s.input ∷ before) s.micros p.1 q.1)

-- what the laws of TPDOs ask of the frames of an input
pub record AreClear (pdos : Pdos) (k : Constants) (before : Inputs) (s : Stamped) : Type 0 where
  pub control : IsElsewhere (0x700 + k.description.node) s.input
  pub foreign : IsNoTpdo pdos s.input
  pub aside : SendsAside k (moment k (moments k before) s.input)
  pub beside : SendsBesideTpdos pdos k (moment k (moments k before) s.input)
  pub sdo : AllNameNone k.description.node (frame_of s.input ++ prescribed k before s.input)

pub all_clear : (pdos : Pdos) (k : Constants) (inputs : List Stamped) (before : Inputs) (last : ℕ) → AreElsewhere (0x700 + k.description.node) inputs → AreNoTpdos pdos inputs → AllSendAside k before inputs
    → AllSendBesideTpdos pdos k before inputs → NameNoTpdos k.description.node (heard_from k before inputs) → AllInputs (λ b l s. AreClear pdos k b s) before last inputs
all_clear pdos k [] before last control foreign aside beside none = tt
all_clear pdos k (s ∷ later) before last control foreign aside beside none =
    let frames : List FrameContent = frame_of s.input ++ prescribed k before s.input in
    let rest : List Recorded = heard_from k (s.input ∷ before) later in
    let N : Recorded → Type 0 = λ r. NamesNoTpdo k.description.node r.frame in (
      record {
        control = control.0;
        foreign = foreign.0;
        aside = aside.0;
        beside = beside.0;
        sdo = unstamped_names k.description.node s.micros frames (first_of N (stamped s.micros frames) rest none);
      },
      all_clear pdos k later (s.input ∷ before) s.micros control.1 foreign.1 aside.1 beside.1 (last_of N (stamped s.micros frames) rest none),
    )

-- ---- by one input

module _ (is : Deviation → Bool) (k : Constants) (subject : Subject) (rows : List Row) (P : Inputs → ℕ → Stamped → Type 0) (I : Inputs → ℕ → Pdos → Type 0)
    (step : (before : Inputs) (last : ℕ) (s : Stamped) (p : Progress) → P before last s → Holds (I before last) p
    → AllRun (tpdo_differences is) (of_device k subject) rows s.micros p (frame_of s.input ++ prescribed k before s.input) (Holds (I (s.input ∷ before) s.micros))) where
  all_none : (inputs : List Stamped) (before : Inputs) (last : ℕ) (p : Progress) → AllInputs P before last inputs → Holds (I before last) p
      → differences_from (tpdo_differences is) (of_device k subject) rows p (heard_from k before inputs) ≡ []
  all_none [] before last p all h = refl
  all_none (s ∷ later) before last p all h =
      then_none (tpdo_differences is) (of_device k subject) rows s.micros (frame_of s.input ++ prescribed k before s.input) (heard_from k (s.input ∷ before) later) p (Holds (I (s.input ∷ before) s.micros))
      (step before last s p all.0 h)
      (λ q g. all_none later (s.input ∷ before) s.micros q all.1 g)

  pub of_recording : (inputs : List Stamped) → ((micros : ℕ) → I [] micros subject.facts.pdos) → ((last : ℕ) → AllInputs P [] last inputs) → differences_in (tpdo_differences is) (of_device k subject) rows (recording k inputs) ≡ []
  unfolding begun
  of_recording [] begins all = refl
  of_recording (s ∷ later) begins all =
      let subj : Subject = of_device k subject in
      then_none (tpdo_differences is) subj rows s.micros (boot_up k ∷ []) (heard_from k [] (s ∷ later)) (before_recording subj) (Holds (I [] s.micros))
      (boots is (I [] s.micros) subj rows s.micros (before_recording subj) (begins s.micros) tt tt)
      (λ q g. all_none (s ∷ later) [] s.micros q (all s.micros) g)

pub of_device_too : (is : Deviation → Bool) (k : Constants) (subject : Subject) (rows : List Row) (inputs : List Stamped) → subject.node ≡ k.description.node
    → differences_in (tpdo_differences is) (of_device k subject) rows (recording k inputs) ≡ [] → differences_in (tpdo_differences is) subject rows (recording k inputs) ≡ []
of_device_too is k subject rows inputs same h = subst (λ n. differences_in (tpdo_differences is) (record subject { node = n }) rows (recording k inputs) ≡ []) (sym same) h

pub names_later : (k : Constants) (inputs : List Stamped) → NameNoTpdos k.description.node (recording k inputs) → NameNoTpdos k.description.node (heard_from k [] inputs)
names_later k [] none = tt
names_later k (s ∷ later) none = none.1
