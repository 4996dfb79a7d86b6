-- A TPDO of a device has as many bytes as its data sheet maps.
use Rattle.std.proofs.Common.{◌≡◌, ℕ, ◌+◌, ◌<◌, Bool, true, false, List, [], ◌∷◌, ◌++◌, length, map, Option, Some, None, refl, ap, sym, ◌∙◌, inl, inr}
use Rattle.std.specs.Prelude.{is_some, IfSome}
use Rattle.std.proofs.lemmas.Bool.{eq-eqb}
use Rattle.co_frame.specs.FrameContent.{FrameContent}
use Rattle.co_dict.specs.CobIds.{identifier_of}
use Rattle.co_dict.specs.Rows.{number_at}
use Rattle.co_dict.specs.declared.side.Side.TheVariants as side
use Rattle.co_sheet.specs.Content.{Row}
use Rattle.co_pdo.specs.Mappings.{mapping_of, total_of}
use Rattle.co_pdo.specs.Tpdos.{is_active, tpdo_key}
use Rattle.co_node_model.specs.Device.{moment, moments, prescribed}
use Rattle.co_node_model.specs.Inputs.{Inputs}
use Rattle.co_node_model.specs.Moments.{Constants, Moment}
use Rattle.co_node_model.specs.Tpdos.{schedule_log, tpdo_frame, turn_at}
use Rattle.conode_compare_pdos.specs.declared.deviation.Moment.{Moment as Judged}
use Rattle.conode_compare_pdos.specs.declared.pdos.Pdos.{Pdos}
use Rattle.conode_compare_pdos.specs.declared.tpdo.Tpdo.{Tpdo}
use Rattle.conode_compare_pdos.specs.Deviations.{deviation_at, length_deviation}
use Rattle.conode_compare_pdos.specs.Tpdos.{is_id}
use Rattle.conode_compare_nmt.specs.declared.limits.Subject.{Subject}
use Rattle.conode_compare_rules.specs.declared.progress.Progress.{Progress}
use Rattle.conode_compare_rules.specs.FrameKinds.{length_of}
use Rattle.conode_compare_rules.specs.Processes.{moment_at}
use Rattle.conode_compare_laws.specs.Differences.{differences_in}
use Rattle.conode_compare_laws.specs.Identifiers.{AllSendAside, AreElsewhere}
use Rattle.conode_compare_laws.specs.NamedTpdos.{NameNoTpdos, NamesNoTpdo}
use Rattle.conode_compare_laws.specs.Recordings.{Stamped, frame_of, recording}
use Rattle.conode_compare_laws.specs.TpdoDifferences.{is_pdo_length, tpdo_differences}
use Rattle.conode_compare_laws.specs.TpdoFrames.{AllSendBesideTpdos, AreNoTpdos}
use Rattle.conode_compare_laws.specs.TpdoParameters.{AllKeepTpdos, AreTpdosOf, IsTpdoOf, KeepsTpdos}
use Rattle.conode_compare_laws.proofs.AlwaysFitted.{AllAreFitted}
use Rattle.conode_compare_laws.proofs.Fitting.{AreFitted}
use Rattle.conode_compare_laws.proofs.Heard.{of_device}
use Rattle.conode_compare_laws.proofs.NamedKeys.{first_of, last_of}
use Rattle.conode_compare_laws.proofs.Runs.{AllRun, joined}
use Rattle.conode_compare_laws.proofs.TpdoDue.{active, active_kept, alone, due_all, due_distinct, tpdo_number}
use Rattle.conode_compare_laws.proofs.TpdoImages.{mapping_kept, tpdo_wide}
use Rattle.conode_compare_laws.proofs.TpdoInputs.{AllInputs, AreClear, all_clear, names_later, of_device_too, of_recording}
use Rattle.conode_compare_laws.proofs.TpdoKinds.{deviation_none, few_none, state_none, sync_none, untimed}
use Rattle.conode_compare_laws.proofs.TpdoNames.{AllNameNone}
use Rattle.conode_compare_laws.proofs.TpdoOthers.{AreFine, Holds, IsOf, Knows, is_of, knows_framed, knows_kept, knows_sheet, others}
use Rattle.conode_compare_laws.proofs.TpdoParts.{Walk, Walked, besides, besides_run, came_other, tpdo_ids, walks, weaken}

-- ---- one TPDO

-- a frame has the bytes of a TPDO that is followed, if it has its identifier
abbrev HasBytes : Tpdo → ℕ → ℕ → Type 0
HasBytes sheet id length = is_id sheet.parameters.id id ≡ true → IfSome sheet.parameters.length (λ bytes. length ≡ bytes)

record HaveBytes (facts : Pdos) (id length : ℕ) : Type 0 where
  first : HasBytes facts.first id length
  second : HasBytes facts.second id length
  third : HasBytes facts.third id length
  fourth : HasBytes facts.fourth id length

mapped_none : (mapped odd : Option ℕ) (length : ℕ) → IfSome mapped (λ bytes. length ≡ bytes) → is_of is_pdo_length (length_deviation mapped odd length) ≡ false
mapped_none None odd length h = refl
mapped_none (Some bytes) odd length h = rw (eq-eqb length bytes h) refl

bytes_fine : (sheet pdo : Tpdo) (id length : ℕ) → IsOf sheet pdo → is_id pdo.parameters.id id ≡ true → HasBytes sheet id length → is_of is_pdo_length (length_deviation pdo.parameters.length pdo.odd length) ≡ false
bytes_fine sheet pdo id length (inl unknown) on has = absurd (let off : is_id pdo.parameters.id id ≡ false = ap (λ parameters. is_id parameters.id id) unknown in cc)
bytes_fine sheet pdo id length (inr same) on has =
    let here : is_id sheet.parameters.id id ≡ true = sym (ap (λ parameters. is_id parameters.id id) same) ∙ on in
    ap (λ parameters. is_of is_pdo_length (length_deviation parameters.length pdo.odd length)) same ∙ mapped_none sheet.parameters.length pdo.odd length (has here)

fine : (moment : Judged) (has_sync : Bool) (sheet pdo : Tpdo) (id length : ℕ) → IsOf sheet pdo → HasBytes sheet id length → is_id pdo.parameters.id id ≡ true → is_of is_pdo_length (deviation_at moment has_sync pdo length) ≡ false
fine moment has_sync sheet pdo id length of has on =
    deviation_none is_pdo_length moment has_sync pdo length (state_none is_pdo_length moment refl) (bytes_fine sheet pdo id length of on has) (sync_none is_pdo_length has_sync pdo refl)
    (few_none is_pdo_length moment has_sync pdo (λ s n. refl))
    (untimed is_pdo_length moment pdo (λ passed n. refl) (λ passed n. refl))

all_fine : (moment : Judged) (facts pdos : Pdos) (id length : ℕ) → Knows facts pdos → HaveBytes facts id length → AreFine is_pdo_length moment pdos id length
all_fine moment facts pdos id length knows have = record {
  first = fine moment (is_some pdos.sync) facts.first pdos.first id length knows.first have.first;
  second = fine moment (is_some pdos.sync) facts.second pdos.second id length knows.second have.second;
  third = fine moment (is_some pdos.sync) facts.third pdos.third id length knows.third have.third;
  fourth = fine moment (is_some pdos.sync) facts.fourth pdos.fourth id length knows.fourth have.fourth;
}

length_walk : (subject : Subject) (micros : ℕ) (frame : ℕ → FrameContent)
    → Walk is_pdo_length (λ n. HaveBytes subject.facts.pdos (frame n).id (length_of (frame n))) (λ due. Knows subject.facts.pdos) (λ p. Unit {0}) subject micros frame
length_walk subject micros frame = record {
  kept = λ due. knows_kept subject.facts.pdos;
  begins = λ p h. tt;
  goes_on = λ p n id h. tt;
  step = λ n later p new have once none h. record {
    fine = all_fine (moment_at subject p micros) subject.facts.pdos p.pdos (frame n).id (length_of (frame n)) h have;
    kept = λ other. knows_framed subject.facts.pdos p.pdos (moment_at subject p micros) (frame n).id (length_of (frame n)) h;
    unseen = λ emergency. h;
  };
}

-- ---- what a device sends

one_has : (k : Constants) (m : Moment) (number : ℕ) (sheet : Tpdo) (n : ℕ) → IsTpdoOf k number sheet → KeepsTpdos k m → AreFitted k.description.rows m.contents → n < 512 → is_active m.contents n ≡ true
    → HasBytes sheet (tpdo_frame k.description m.contents n).id (length_of (tpdo_frame k.description m.contents n))
one_has k m number sheet n of keeps filled less on here =
    let id : identifier_of (number_at m.contents (tpdo_key n 1)) ≡ identifier_of (number_at k.start (tpdo_key n 1)) = ap identifier_of (tpdo_number k m n 1 keeps less) in
    let same : n ≡ number = alone k.start number sheet n of.alone less (sym (active_kept k m n keeps less) ∙ on) (sym (ap (λ i. is_id sheet.parameters.id i) id) ∙ here) in
    let bytes : length_of (tpdo_frame k.description m.contents n) ≡ total_of (mapping_of side.Tpdo k.description k.start number) =
    tpdo_wide k.description m.contents n filled ∙ ap total_of (mapping_kept k m n keeps less) ∙ ap (λ i. total_of (mapping_of side.Tpdo k.description k.start i)) same in
    by sheet.parameters.length of.length bytes
  where
    by : (known : Option ℕ) → IfSome known (λ b. total_of (mapping_of side.Tpdo k.description k.start number) ≡ b)
        → length_of (tpdo_frame k.description m.contents n) ≡ total_of (mapping_of side.Tpdo k.description k.start number) → IfSome known (λ b. length_of (tpdo_frame k.description m.contents n) ≡ b)
    by None h e = tt
    by (Some b) h e = e ∙ h

all_have : (k : Constants) (m : Moment) (facts : Pdos) (n : ℕ) → AreTpdosOf k facts → KeepsTpdos k m → AreFitted k.description.rows m.contents → n < 512 → is_active m.contents n ≡ true
    → HaveBytes facts (tpdo_frame k.description m.contents n).id (length_of (tpdo_frame k.description m.contents n))
all_have k m facts n of keeps filled less on = record {
  first = one_has k m 0 facts.first n of.first keeps filled less on;
  second = one_has k m 1 facts.second n of.second keeps filled less on;
  third = one_has k m 2 facts.third n of.third keeps filled less on;
  fourth = one_has k m 3 facts.fourth n of.fourth keeps filled less on;
}

-- ---- an input

record IsMet (pdos : Pdos) (k : Constants) (before : Inputs) (s : Stamped) : Type 0 where
  clear : AreClear pdos k before s
  keeps : KeepsTpdos k (moment k (moments k before) s.input)
  filled : AreFitted k.description.rows (moment k (moments k before) s.input).contents

input_runs : (k : Constants) (subject : Subject) (rows : List Row) (before : Inputs) (last : ℕ) (s : Stamped) (p : Progress) → AreTpdosOf k subject.facts.pdos → IsMet subject.facts.pdos k before s
    → Holds (Knows subject.facts.pdos) p → AllRun (tpdo_differences is_pdo_length) (of_device k subject) rows s.micros p (frame_of s.input ++ prescribed k before s.input) (Holds (Knows subject.facts.pdos))
input_runs k subject rows before last s p of met h =
    let subj : Subject = of_device k subject in
    let n : ℕ = k.description.node in
    let facts : Pdos = subject.facts.pdos in
    let m : Moment = moment k (moments k before) s.input in
    let frame : ℕ → FrameContent = tpdo_frame k.description m.contents in
    let came : List FrameContent = frame_of s.input in
    let more : List FrameContent = besides k m in
    let N : FrameContent → Type 0 = NamesNoTpdo n in
    let sent : AllNameNone n (more ++ map frame m.due) = last_of N came (prescribed k before s.input) met.clear.sdo in
    let I : Progress → Type 0 = Holds (Knows facts) in
    joined (tpdo_differences is_pdo_length) subj rows s.micros came (more ++ map frame m.due) p I I
    (others is_pdo_length (Knows facts) subj rows s.micros came p (knows_kept facts) (came_other facts n s.input (first_of N came (prescribed k before s.input) met.clear.sdo) met.clear.control met.clear.foreign) h)
    (λ q g.
    joined (tpdo_differences is_pdo_length) subj rows s.micros more (map frame m.due) q I I
    (besides_run is_pdo_length (Knows facts) k subject rows s.micros before s.input q (knows_kept facts) (λ reset. knows_sheet facts) met.clear.aside met.clear.beside (first_of N more (map frame m.due) sent) g)
    (λ r f. weaken (tpdo_differences is_pdo_length) subj rows s.micros (map frame m.due) r (Walked (Knows facts) (λ x. Unit {0})) I (λ x e. e.holds)
    (walks is_pdo_length (λ i. HaveBytes facts (frame i).id (length_of (frame i))) (λ due. Knows facts) (λ x. Unit {0}) subj rows s.micros frame m.due r (length_walk subj s.micros frame)
    (tpdo_ids n frame m.due met.clear.aside.tpdos (last_of N more (map frame m.due) sent))
    (due_all (λ i. HaveBytes facts (frame i).id (length_of (frame i))) k.description (turn_at m (moments k before)) m.contents (schedule_log k (moments k before))
    (λ i o less at due sent. all_have k m facts i of met.keeps met.filled less (active m.contents (schedule_log k (moments k before)) o i due)))
    (due_distinct k.description (turn_at m (moments k before)) m.contents (schedule_log k (moments k before))) f tt)))

-- ---- all inputs

all_met : (pdos : Pdos) (k : Constants) (inputs : List Stamped) (before : Inputs) (last : ℕ) → AllInputs (λ b l s. AreClear pdos k b s) before last inputs → AllKeepTpdos k before inputs → AllAreFitted k before inputs
    → AllInputs (λ b l s. IsMet pdos k b s) before last inputs
all_met pdos k [] before last clear keeps filled = tt
all_met pdos k (s ∷ later) before last clear keeps filled = (record { clear = clear.0; keeps = keeps.0; filled = filled.0 }, all_met pdos k later (s.input ∷ before) s.micros clear.1 keeps.1 filled.1)

pub no_pdo_length : (k : Constants) (subject : Subject) (rows : List Row) (inputs : List Stamped) → subject.node ≡ k.description.node → AreTpdosOf k subject.facts.pdos → AllKeepTpdos k [] inputs → AllAreFitted k [] inputs
    → AreElsewhere (0x700 + k.description.node) inputs → AreNoTpdos subject.facts.pdos inputs → AllSendAside k [] inputs → AllSendBesideTpdos subject.facts.pdos k [] inputs
    → NameNoTpdos k.description.node (recording k inputs) → differences_in (tpdo_differences is_pdo_length) subject rows (recording k inputs) ≡ []
no_pdo_length k subject rows inputs is of keeps filled control foreign aside beside none =
    let facts : Pdos = subject.facts.pdos in
    of_device_too is_pdo_length k subject rows inputs is
    (of_recording is_pdo_length k subject rows (λ b l s. IsMet facts k b s) (λ b l. Knows facts) (λ before last s p met h. input_runs k subject rows before last s p of met h) inputs (λ micros. knows_sheet facts)
    (λ last. all_met facts k inputs [] last (all_clear facts k inputs [] last control foreign aside beside (names_later k inputs none)) keeps filled))
