-- An event-driven TPDO of a device doesn't come within the inhibit time of the one before, by what compare knows of it.
use Rattle.std.proofs.Common.{◌≡◌, ℕ, ◌+◌, ◌*◌, ◌-◌, ◌/◌, ◌<◌, ◌≤◌, Bool, true, false, List, [], ◌∷◌, ◌++◌, map, Option, Some, None, refl, ap, sym, ◌∙◌, subst, arith, ◌⊎◌, inl, inr}
use Rattle.std.specs.Prelude.{if◌then◌else◌, nat_le, nat_lt, IfSome}
use Rattle.std.specs.List.{list_all}
use Rattle.std.proofs.lemmas.Bool.{and_parts, le-ltb, leb-true}
use Rattle.co_frame.specs.FrameContent.{FrameContent}
use Rattle.co_frame.specs.InhibitTimes.{has_elapsed, in_ms}
use Rattle.co_dict.specs.CobIds.{identifier_of}
use Rattle.co_dict.specs.Rows.{Contents, number_at}
use Rattle.co_sheet.specs.Content.{Row}
use Rattle.co_pdo.specs.declared.tpdo.Occasion.{Occasion}
use Rattle.co_pdo.specs.Due.{sendings}
use Rattle.co_pdo.specs.Schedules.{History as Schedule, is_among, is_tpdo_due, log_of}
use Rattle.co_pdo.specs.Tpdos.{settings_of, tpdo_key}
use Rattle.co_node_model.specs.declared.turn.Turn.{Turn}
use Rattle.co_node_model.specs.declared.turn.Turn.TheVariants as turn
use Rattle.co_node_model.specs.Device.{moment, moments, prescribed}
use Rattle.co_node_model.specs.Inputs.{Inputs}
use Rattle.co_node_model.specs.Moments.{Constants, Moment}
use Rattle.co_node_model.specs.Tpdos.{schedule_log, tpdo_frame, turn_at}
use Rattle.conode_compare_pdos.specs.declared.deviation.Deviation.TheVariants.{Inhibit}
use Rattle.conode_compare_pdos.specs.declared.deviation.Moment.{Moment as Judged}
use Rattle.conode_compare_pdos.specs.declared.pdos.Pdos.{Pdos}
use Rattle.conode_compare_pdos.specs.declared.tpdo.Sent.{Sent}
use Rattle.conode_compare_pdos.specs.declared.tpdo.Tpdo.{Tpdo}
use Rattle.conode_compare_pdos.specs.Deviations.{drift_of, inhibit_deviation, is_event_driven, least_gap, micros_of}
use Rattle.conode_compare_pdos.specs.Tpdos.{is_id}
use Rattle.conode_compare_nmt.specs.declared.limits.Subject.{Subject}
use Rattle.conode_compare_rules.specs.declared.progress.Progress.{Progress}
use Rattle.conode_compare_rules.specs.FrameKinds.{length_of}
use Rattle.conode_compare_rules.specs.Processes.{moment_at}
use Rattle.conode_compare_laws.specs.Differences.{differences_in}
use Rattle.conode_compare_laws.specs.Identifiers.{AllSendAside, AreElsewhere}
use Rattle.conode_compare_laws.specs.NamedTpdos.{NameNoTpdos, NamesNoTpdo}
use Rattle.conode_compare_laws.specs.Recordings.{AreSpaced, AreUnhurried, Stamped, elapsed, frame_of, recording}
use Rattle.conode_compare_laws.specs.TpdoDifferences.{is_pdo_inhibit, tpdo_differences}
use Rattle.conode_compare_laws.specs.TpdoFrames.{AllSendBesideTpdos, AreNoTpdos}
use Rattle.conode_compare_laws.specs.TpdoParameters.{AllKeepTpdos, AreTpdosOf, IsTpdoOf, KeepsTpdos}
use Rattle.conode_compare_laws.proofs.Heard.{of_device}
use Rattle.conode_compare_laws.proofs.NamedKeys.{first_of, last_of}
use Rattle.conode_compare_laws.proofs.Runs.{AllRun, joined}
use Rattle.conode_compare_laws.proofs.TpdoDue.{IsAt, active, alone, active_kept, due_all, due_distinct, tpdo_number}
use Rattle.conode_compare_laws.proofs.TpdoInputs.{AllInputs, AreClear, all_clear, names_later, of_device_too, of_recording}
use Rattle.conode_compare_laws.proofs.TpdoKinds.{deviation_none, few_none, length_none, state_none, sync_none, time_none, timer_none}
use Rattle.conode_compare_laws.proofs.TpdoLogs.{ages_at, ages_of, ages_then, log_is, next_ages, over, then_at}
use Rattle.conode_compare_laws.proofs.TpdoNames.{AllNameNone}
use Rattle.conode_compare_laws.proofs.TpdoOthers.{Holds, is_of, others}
use Rattle.conode_compare_laws.proofs.TpdoParts.{Walk, Walked, besides, besides_run, came_other, tpdo_ids, walks, weaken}
use Rattle.conode_compare_laws.proofs.TpdoStarts.{command_comes, is_start_all, is_tick_turn, start_commanded, takes_a_tick}
use Rattle.conode_compare_laws.proofs.TpdoTimes.{AreOwn, AreTimed, IsJudged, IsOwn, ages_before, at_first, begins_timed, changed, changed_below, time_step, timed_kept}

-- ---- one TPDO

abbrev pub ids : Constants → ℕ → ℕ
ids k n = identifier_of (number_at k.start (tpdo_key n 1))

abbrev pub olds : Constants → Inputs → Turn → ℕ → List ℕ
olds k before t n = ages_at t (ages_of k n before)

-- the bus was free before its newest frame as long ago at least as its newest sending is
abbrev Since : ℕ → Sent → List ℕ → Type 0
Since micros s [] = ⊥
Since micros s (n ∷ ages) = s.free + n * 1000 ≤ micros

long_ago : (free micros age i inhibit tolerance drift : ℕ) → free + age * 1000 ≤ micros → inhibit ≡ i → (inhibit + 9) / 10 ≤ age → (i * 100 - tolerance) - drift ≤ micros - free
long_ago free micros age i inhibit tolerance drift past same elapsed =
    let tenfold : inhibit ≤ age * 10 = omega arith in
    omega arith

off_none : (b : Bool) (passed i : ℕ) → b ≡ false → is_of is_pdo_inhibit (if b then Some (Inhibit passed i) else None) ≡ false
off_none true passed i h = absurd (cc)
off_none false passed i h = refl

gap_none : (subject : Subject) (p : Progress) (micros i inhibit : ℕ) (s : Sent) (ages : List ℕ) → Since micros s ages → inhibit ≡ i → list_all (λ n. has_elapsed inhibit n) ages ≡ true
    → is_of is_pdo_inhibit (inhibit_deviation (moment_at subject p micros) i s) ≡ false
unfolding moment_at
gap_none subject p micros i inhibit s [] since same elapsed = absurd since
gap_none subject p micros i inhibit s (age ∷ ages) since same elapsed =
    let moment : Judged = moment_at subject p micros in
    let old : in_ms inhibit ≤ age = leb-true (in_ms inhibit) age (and_parts (has_elapsed inhibit age) (list_all (λ n. has_elapsed inhibit n) ages) elapsed).0 in
    off_none (nat_lt (micros - s.free) (least_gap moment i)) (micros - s.micros) i
    (le-ltb (micros - s.free) (least_gap moment i) (long_ago s.free micros age i inhibit (micros_of subject.limits.tolerance) (drift_of moment (i / 10)) since same old))

some_since : (sent : Option Sent) (s : Sent) (micros : ℕ) (ages : List ℕ) → sent ≡ Some s → IfSome sent (λ x. Since micros x ages) → Since micros s ages
some_since None s micros ages is h = absurd (cc)
some_since (Some x) s micros ages is h = subst (λ y. IfSome y (λ z. Since micros z ages)) is h

pub some_is : (known : Option ℕ) (n number : ℕ) → known ≡ Some n → IfSome known (λ x. number ≡ x) → number ≡ n
some_is None n number is h = absurd (cc)
some_is (Some x) n number is h = subst (λ y. IfSome y (λ z. number ≡ z)) is h

pub driven : (known : Option ℕ) (number : ℕ) → IfSome known (λ x. number ≡ x) → is_event_driven known ≡ true → nat_le 254 number ≡ true
driven None number h on = absurd (cc)
driven (Some x) number h on = ap (nat_le 254) h ∙ on

judged : (subject : Subject) (micros : ℕ) (frame : ℕ → FrameContent) (all : List ℕ) (old : ℕ → List ℕ) (k : Constants) (sheet : Tpdo) (number n : ℕ) → IsTpdoOf k number sheet
    → (nat_le 254 (number_at k.start (tpdo_key n 2)) ≡ true → list_all (λ a. has_elapsed (number_at k.start (tpdo_key n 3)) a) (old n) ≡ true) → IsJudged is_pdo_inhibit Since subject micros frame (ids k) all old sheet number n
judged subject micros frame all old k sheet number n of over_then p has_sync pdo new same own since =
    let moment : Judged = moment_at subject p micros in
    deviation_none is_pdo_inhibit moment has_sync pdo (length_of (frame n)) (state_none is_pdo_inhibit moment refl) (length_none is_pdo_inhibit pdo.parameters.length pdo.odd (length_of (frame n)) (λ l m. refl))
    (sync_none is_pdo_inhibit has_sync pdo refl)
    (few_none is_pdo_inhibit moment has_sync pdo (λ s n. refl))
    (time_none is_pdo_inhibit moment pdo
    (λ on.
    let kind : nat_le 254 (number_at k.start (tpdo_key n 2)) ≡ true =
    ap (λ i. nat_le 254 (number_at k.start (tpdo_key i 2))) own ∙ driven sheet.parameters.kind (number_at k.start (tpdo_key number 2)) of.kind (ap (λ parameters. is_event_driven parameters.kind) (sym same) ∙ on) in
    record {
      inhibit = λ i s known sent.
          gap_none subject p micros i (number_at k.start (tpdo_key number 3)) s (old number) (some_since pdo.sent s micros (old number) sent since)
          (some_is sheet.parameters.inhibit i (number_at k.start (tpdo_key number 3)) (ap (λ parameters. parameters.inhibit) (sym same) ∙ known) of.inhibit)
          (subst (λ j. list_all (λ a. has_elapsed (number_at k.start (tpdo_key j 3)) a) (old j) ≡ true) own (over_then kind));
      timer = λ i t s known timer sent. timer_none is_pdo_inhibit moment i t s (λ passed m. refl);
    }))

-- ---- what a device sends

-- the inhibit time of each sending is over, where it is event-driven
all_over : (k : Constants) (before : Inputs) (m : Moment) (t : Turn) (o : Occasion) (n : ℕ) → KeepsTpdos k m → n < 512 → IsAt m.contents t o → is_tpdo_due m.contents (schedule_log k (moments k before)) o n ≡ true
    → nat_le 254 (number_at k.start (tpdo_key n 2)) ≡ true → list_all (λ a. has_elapsed (number_at k.start (tpdo_key n 3)) a) (ages_at t (ages_of k n before)) ≡ true
all_over k before m t o n keeps less at due kind =
    let c : Contents = m.contents in
    let now : list_all (λ a. has_elapsed (number_at c (tpdo_key n 3)) a) (ages_then o (sendings (log_of n (schedule_log k (moments k before))))) ≡ true =
    over (settings_of c n) (log_of n (schedule_log k (moments k before))) o due (ap (nat_le 254) (tpdo_number k m n 2 keeps less) ∙ kind) in
    let ages : ages_then o (sendings (log_of n (schedule_log k (moments k before)))) ≡ ages_at t (ages_of k n before) = ap (λ log. ages_then o (sendings log)) (log_is k n before) ∙ then_at c t o (ages_of k n before) at in
    subst (λ a. list_all (λ x. has_elapsed (number_at k.start (tpdo_key n 3)) x) a ≡ true) ages
    (subst (λ i. list_all (λ x. has_elapsed i x) (ages_then o (sendings (log_of n (schedule_log k (moments k before))))) ≡ true) (tpdo_number k m n 3 keeps less) now)

module _ (k : Constants) (subject : Subject) (micros : ℕ) (before : Inputs) (m : Moment) (t : Turn) (keeps : KeepsTpdos k m) where
  abbrev frame : ℕ → FrameContent
  frame n = tpdo_frame k.description m.contents n

  one_own : (o : Occasion) (number : ℕ) (sheet : Tpdo) (n : ℕ) → IsTpdoOf k number sheet → n < 512 → IsAt m.contents t o → is_tpdo_due m.contents (schedule_log k (moments k before)) o n ≡ true
      → IsOwn is_pdo_inhibit Since subject micros frame (ids k) m.due (olds k before t) sheet number n
  one_own o number sheet n of less at due = record {
    own = λ here. alone k.start number sheet n of.alone less (sym (active_kept k m n keeps less) ∙ active m.contents (schedule_log k (moments k before)) o n due)
        (sym (ap (λ w. is_id sheet.parameters.id (identifier_of w)) (tpdo_number k m n 1 keeps less)) ∙ here);
    judged = judged subject micros frame m.due (olds k before t) k sheet number n of (all_over k before m t o n keeps less at due);
  }

  all_own : (o : Occasion) (n : ℕ) → AreTpdosOf k subject.facts.pdos → n < 512 → IsAt m.contents t o → is_tpdo_due m.contents (schedule_log k (moments k before)) o n ≡ true → is_among n m.due ≡ true
      → AreOwn is_pdo_inhibit Since subject micros frame (ids k) m.due (olds k before t) subject.facts.pdos n
  all_own o n of less at due sent = record {
    id = ap identifier_of (tpdo_number k m n 1 keeps less);
    sent = sent;
    first = one_own o 0 subject.facts.pdos.first n of.first less at due;
    second = one_own o 1 subject.facts.pdos.second n of.second less at due;
    third = one_own o 2 subject.facts.pdos.third n of.third less at due;
    fourth = one_own o 3 subject.facts.pdos.fourth n of.fourth less at due;
  }

inhibit_walk : (k : Constants) (subject : Subject) (micros : ℕ) (frame : ℕ → FrameContent) (all : List ℕ) (old : ℕ → List ℕ) → AreTpdosOf k subject.facts.pdos
    → Walk is_pdo_inhibit (AreOwn is_pdo_inhibit Since subject micros frame (ids k) all old subject.facts.pdos) (λ due. AreTimed Since subject.node (ids k) subject.facts.pdos micros (ages_before all old due)) (λ p. Unit {0}) subject micros frame
inhibit_walk k subject micros frame all old of = record {
  kept = λ due. timed_kept Since subject.node (ids k) subject.facts.pdos micros (ages_before all old due);
  begins = λ p h. tt;
  goes_on = λ p n id h. tt;
  step = λ n later p new ok once none h.
      time_step is_pdo_inhibit Since subject micros frame (ids k) all old (λ free ages less. omega arith) p n later of.apart new ok once h;
}

-- ---- time passes

-- no input but the first is earlier than the ticks have it
abbrev IsSpaced : Inputs → ℕ → Stamped → Type 0
IsSpaced before last s = (before ≡ []) ⊎ (last + elapsed s.input ≤ s.micros)

aged : (t : Turn) (last micros : ℕ) (s : Sent) (ages : List ℕ) → is_start_all t ≡ false → last + (if is_tick_turn t then 1000 else 0) ≤ micros → Since last s ages → Since micros s (ages_at t ages)
aged t last micros s [] apart less h = absurd h
aged turn.Quiet last micros s (age ∷ ages) apart less h = omega arith
aged turn.StartAll last micros s (age ∷ ages) apart less h = absurd (cc)
aged (turn.Start n part) last micros s (age ∷ ages) apart less h = omega arith
aged (turn.Sync counter) last micros s (age ∷ ages) apart less h = omega arith
aged (turn.Asked asked) last micros s (age ∷ ages) apart less h = omega arith
aged turn.Tick last micros s (age ∷ ages) apart less h = omega arith

passes : (k : Constants) (before : Inputs) (last : ℕ) (s : Stamped) → is_start_all (turn_at (moment k (moments k before) s.input) (moments k before)) ≡ false → IsSpaced before last s
    → (number : ℕ) (sent : Sent) → Since last sent (ages_of k number before) → Since s.micros sent (ages_at (turn_at (moment k (moments k before) s.input) (moments k before)) (ages_of k number before))
passes k before last s apart (inl first) number sent h = absurd (subst (λ b. Since last sent (ages_of k number b)) first h)
passes k before last s apart (inr less) number sent h =
    let t : Turn = turn_at (moment k (moments k before) s.input) (moments k before) in
    let tick : (if is_tick_turn t then 1000 else 0) ≤ elapsed s.input = takes_a_tick k (moments k before) s.input in
    aged t last s.micros sent (ages_of k number before) apart (omega arith) h

-- ---- an input

record IsMet (pdos : Pdos) (k : Constants) (before : Inputs) (last : ℕ) (s : Stamped) : Type 0 where
  clear : AreClear pdos k before s
  keeps : KeepsTpdos k (moment k (moments k before) s.input)
  time : IsSpaced before last s

abbrev Between : Constants → Pdos → Inputs → ℕ → Pdos → Type 0
Between k facts before last = AreTimed Since k.description.node (ids k) facts last (λ n. ages_of k n before)

came : (k : Constants) (subject : Subject) (rows : List Row) (before : Inputs) (last : ℕ) (s : Stamped) (p : Progress) (b : Bool) → is_start_all (turn_at (moment k (moments k before) s.input) (moments k before)) ≡ b
    → IsMet subject.facts.pdos k before last s → AllNameNone k.description.node (frame_of s.input) → Holds (Between k subject.facts.pdos before last) p
    → AllRun (tpdo_differences is_pdo_inhibit) (of_device k subject) rows s.micros p (frame_of s.input)
    (Holds (AreTimed Since k.description.node (ids k) subject.facts.pdos s.micros (olds k before (turn_at (moment k (moments k before) s.input) (moments k before)))))
came k subject rows before last s p true is met none h =
    let t : Turn = turn_at (moment k (moments k before) s.input) (moments k before) in
    command_comes is_pdo_inhibit Since (ids k) (olds k before t) (of_device k subject) rows s.micros s.input p (start_commanded k (moments k before) s.input is) (record { fresh = h.fresh; kept = h.kept.knows; opened = h.opened })
came k subject rows before last s p false is met none h =
    let facts : Pdos = subject.facts.pdos in
    let t : Turn = turn_at (moment k (moments k before) s.input) (moments k before) in
    others is_pdo_inhibit (AreTimed Since k.description.node (ids k) facts s.micros (olds k before t)) (of_device k subject) rows s.micros (frame_of s.input) p (timed_kept Since k.description.node (ids k) facts s.micros (olds k before t))
    (came_other facts k.description.node s.input none met.clear.control met.clear.foreign)
    (record { fresh = h.fresh; kept = changed Since Since k.description.node (ids k) facts last s.micros (λ n. ages_of k n before) (olds k before t) p.pdos (passes k before last s is met.time) h.kept; opened = h.opened })

input_runs : (k : Constants) (subject : Subject) (rows : List Row) (before : Inputs) (last : ℕ) (s : Stamped) (p : Progress) → AreTpdosOf k subject.facts.pdos → IsMet subject.facts.pdos k before last s
    → Holds (Between k subject.facts.pdos before last) p
    → AllRun (tpdo_differences is_pdo_inhibit) (of_device k subject) rows s.micros p (frame_of s.input ++ prescribed k before s.input) (Holds (Between k subject.facts.pdos (s.input ∷ before) s.micros))
input_runs k subject rows before last s p of met h =
    let subj : Subject = of_device k subject in
    let n : ℕ = k.description.node in
    let facts : Pdos = subject.facts.pdos in
    let m : Moment = moment k (moments k before) s.input in
    let t : Turn = turn_at m (moments k before) in
    let schedule : Schedule = schedule_log k (moments k before) in
    let frames : ℕ → FrameContent = tpdo_frame k.description m.contents in
    let first : List FrameContent = frame_of s.input in
    let more : List FrameContent = besides k m in
    let N : FrameContent → Type 0 = NamesNoTpdo n in
    let sent : AllNameNone n (more ++ map frames m.due) = last_of N first (prescribed k before s.input) met.clear.sdo in
    let old : ℕ → List ℕ = olds k before t in
    let waits : Pdos → Type 0 = AreTimed Since k.description.node (ids k) facts s.micros old in
    let J : List ℕ → Pdos → Type 0 = λ due. AreTimed Since k.description.node (ids k) facts s.micros (ages_before m.due old due) in
    let after : Progress → Type 0 = Holds (Between k facts (s.input ∷ before) s.micros) in
    joined (tpdo_differences is_pdo_inhibit) subj rows s.micros first (more ++ map frames m.due) p (Holds waits) after
    (came k subject rows before last s p (is_start_all t) refl met (first_of N first (prescribed k before s.input) met.clear.sdo) h)
    (λ q g.
    joined (tpdo_differences is_pdo_inhibit) subj rows s.micros more (map frames m.due) q (Holds waits) after
    (besides_run is_pdo_inhibit waits k subject rows s.micros before s.input q (timed_kept Since k.description.node (ids k) facts s.micros old) (λ reset. begins_timed Since k.description.node (ids k) k facts s.micros old of) met.clear.aside met.clear.beside
    (first_of N more (map frames m.due) sent) g)
    (λ r f. weaken (tpdo_differences is_pdo_inhibit) subj rows s.micros (map frames m.due) r (Walked (J []) (λ x. Unit {0})) after
    (λ x e. record {
      fresh = e.holds.fresh;
      kept = changed_below Since Since k.description.node (ids k) facts s.micros s.micros (ages_before m.due old []) (λ i. ages_of k i (s.input ∷ before)) x.pdos
          (λ i less a now. subst (λ l. Since s.micros a l) (sym (next_ages k i before s.input less met.keeps)) now) e.holds.kept;
      opened = e.holds.opened;
    })
    (walks is_pdo_inhibit (AreOwn is_pdo_inhibit Since subj s.micros frames (ids k) m.due old facts) J (λ x. Unit {0}) subj rows s.micros frames m.due r (inhibit_walk k subj s.micros frames m.due old of)
    (tpdo_ids n frames m.due met.clear.aside.tpdos (last_of N more (map frames m.due) sent))
    (due_all (AreOwn is_pdo_inhibit Since subj s.micros frames (ids k) m.due old facts) k.description t m.contents schedule (λ i o less at due among. all_own k subj s.micros before m t met.keeps o i of less at due among))
    (due_distinct k.description t m.contents schedule)
    (record { fresh = f.fresh; kept = changed Since Since k.description.node (ids k) facts s.micros s.micros old (ages_before m.due old m.due) r.pdos (λ i a now. subst (λ l. Since s.micros a l) (sym (at_first m.due old i)) now) f.kept; opened = f.opened })
    tt)))

-- ---- all inputs

all_met : (pdos : Pdos) (k : Constants) (inputs : List Stamped) (before : Inputs) (last : ℕ) → AllInputs (λ b l s. AreClear pdos k b s) before last inputs → AllKeepTpdos k before inputs → AreSpaced last inputs
    → AllInputs (λ b l s. IsMet pdos k b l s) before last inputs
all_met pdos k [] before last clear keeps time = tt
all_met pdos k (s ∷ later) before last clear keeps time =
    (record { clear = clear.0; keeps = keeps.0; time = inr time.0 }, all_met pdos k later (s.input ∷ before) s.micros clear.1 keeps.1 time.1)

first_met : (pdos : Pdos) (k : Constants) (inputs : List Stamped) (last : ℕ) → AllInputs (λ b l s. AreClear pdos k b s) [] last inputs → AllKeepTpdos k [] inputs → AreUnhurried inputs
    → AllInputs (λ b l s. IsMet pdos k b l s) [] last inputs
first_met pdos k [] last clear keeps time = tt
first_met pdos k (s ∷ later) last clear keeps time = (record { clear = clear.0; keeps = keeps.0; time = inl refl }, all_met pdos k later (s.input ∷ []) s.micros clear.1 keeps.1 time)

pub no_pdo_inhibit : (k : Constants) (subject : Subject) (rows : List Row) (inputs : List Stamped) → subject.node ≡ k.description.node → AreTpdosOf k subject.facts.pdos → AllKeepTpdos k [] inputs → AreUnhurried inputs
    → AreElsewhere (0x700 + k.description.node) inputs → AreNoTpdos subject.facts.pdos inputs → AllSendAside k [] inputs → AllSendBesideTpdos subject.facts.pdos k [] inputs
    → NameNoTpdos k.description.node (recording k inputs) → differences_in (tpdo_differences is_pdo_inhibit) subject rows (recording k inputs) ≡ []
no_pdo_inhibit k subject rows inputs is of keeps time control foreign aside beside none =
    let facts : Pdos = subject.facts.pdos in
    of_device_too is_pdo_inhibit k subject rows inputs is
    (of_recording is_pdo_inhibit k subject rows (λ b l s. IsMet facts k b l s) (Between k facts) (λ before last s p met h. input_runs k subject rows before last s p of met h) inputs
    (λ micros. begins_timed Since k.description.node (ids k) k facts micros (λ n. ages_of k n []) of)
    (λ last. first_met facts k inputs last (all_clear facts k inputs [] last control foreign aside beside (names_later k inputs none)) keeps time))
