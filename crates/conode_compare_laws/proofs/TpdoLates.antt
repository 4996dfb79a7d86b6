-- An event-driven TPDO of a device doesn't come later than its event timer after the one before, by what compare knows of it.
use Rattle.std.proofs.Common.{◌≡◌, ℕ, ◌+◌, ◌*◌, ◌-◌, ◌/◌, ◌<◌, ◌≤◌, Bool, true, false, List, [], ◌∷◌, ◌++◌, map, Option, Some, None, refl, ap, sym, ◌∙◌, subst, arith, ◌⊎◌, inl, inr}
use Rattle.std.specs.Prelude.{if◌then◌else◌, ◌==◌, ◌||◌, nat_le, not, IfSome}
use Rattle.std.proofs.lemmas.Bool.{and_parts, eq-eqb, le-leb}
use Rattle.std.proofs.lemmas.Bool.Decides.{nat_tests}
use Rattle.co_frame.specs.FrameContent.{FrameContent}
use Rattle.co_frame.specs.InhibitTimes.{in_ms}
use Rattle.co_dict.specs.CobIds.{identifier_of}
use Rattle.co_dict.specs.Rows.{number_at}
use Rattle.co_profile.specs.TransmissionTypes as types
use Rattle.co_profile.specs.TransmissionTypes.{is_supported_type}
use Rattle.co_sheet.specs.Content.{Row}
use Rattle.co_pdo.specs.declared.settings.Settings.{Settings}
use Rattle.co_pdo.specs.declared.tpdo.Occasion.{Occasion}
use Rattle.co_pdo.specs.Due.{is_due, sendings}
use Rattle.co_pdo.specs.Log.{Log}
use Rattle.co_pdo.specs.Schedules.{History as Schedule, is_among, is_tpdo_due}
use Rattle.co_pdo.specs.Tpdos.{is_active, settings_of, tpdo_key}
use Rattle.co_node_parts.specs.NmtStates.{is_state}
use Rattle.co_node_parts.specs.declared.nmt_state.NodeState.TheVariants as node
use Rattle.co_node_model.specs.declared.turn.Turn.{Turn}
use Rattle.co_node_model.specs.declared.turn.Turn.TheVariants as turn
use Rattle.co_node_model.specs.Device.{moment, moments, prescribed, state_of}
use Rattle.co_node_model.specs.Inputs.{Applied, Framed, InputView, Inputs, Ticked}
use Rattle.co_node_model.specs.Marks.{marked_key}
use Rattle.co_node_model.specs.Moments.{Constants, Moment}
use Rattle.co_node_model.specs.Tpdos.{schedule_log, tpdo_frame, turn_at, turn_with}
use Rattle.co_node_laws.specs.TpdoDistances.{tpdo_log}
use Rattle.conode_compare_pdos.specs.declared.deviation.Deviation.TheVariants.{Timer}
use Rattle.conode_compare_pdos.specs.declared.deviation.Moment.{Moment as Judged}
use Rattle.conode_compare_pdos.specs.declared.pdos.Pdos.{Pdos}
use Rattle.conode_compare_pdos.specs.declared.tpdo.Sent.{Sent}
use Rattle.conode_compare_pdos.specs.declared.tpdo.Tpdo.{Tpdo}
use Rattle.conode_compare_pdos.specs.Deviations.{drift_of, greatest_gap, is_event_driven, micros_of, timer_deviation}
use Rattle.conode_compare_pdos.specs.Tpdos.{is_id}
use Rattle.conode_compare_nmt.specs.declared.limits.Subject.{Subject}
use Rattle.conode_compare_rules.specs.declared.progress.Progress.{Progress}
use Rattle.conode_compare_rules.specs.FrameKinds.{length_of}
use Rattle.conode_compare_rules.specs.Processes.{moment_at}
use Rattle.conode_compare_laws.specs.Differences.{differences_in}
use Rattle.conode_compare_laws.specs.Identifiers.{AllSendAside, AreElsewhere}
use Rattle.conode_compare_laws.specs.NamedTpdos.{NameNoTpdos, NamesNoTpdo}
use Rattle.conode_compare_laws.specs.Recordings.{AreInTime, AreTimed as Timed, Stamped, elapsed, frame_of, recording}
use Rattle.conode_compare_laws.specs.TpdoDifferences.{is_pdo_late, tpdo_differences}
use Rattle.conode_compare_laws.specs.TpdoFrames.{AllSendBesideTpdos, AreNoTpdos}
use Rattle.conode_compare_laws.specs.TpdoParameters.{AllKeepTpdos, AreTpdosOf, IsTpdoOf, KeepsTpdos}
use Rattle.conode_compare_laws.proofs.Heard.{of_device}
use Rattle.conode_compare_laws.proofs.NamedKeys.{first_of, last_of}
use Rattle.conode_compare_laws.proofs.Runs.{AllRun, joined}
use Rattle.conode_compare_laws.proofs.TpdoDue.{IsAt, active, alone, active_kept, due_all, due_distinct, tpdo_number}
use Rattle.conode_compare_laws.proofs.TpdoInputs.{AllInputs, AreClear, all_clear, names_later, of_device_too, of_recording}
use Rattle.conode_compare_laws.proofs.TpdoKinds.{deviation_none, few_none, length_none, inhibit_none, state_none, sync_none, time_none}
use Rattle.conode_compare_laws.proofs.TpdoLogs.{ages_at, ages_of, log_is, next_ages, then_at}
use Rattle.conode_compare_laws.proofs.TpdoNames.{AllNameNone}
use Rattle.conode_compare_laws.proofs.TpdoOthers.{Holds, IsNewest, is_of, others}
use Rattle.conode_compare_laws.proofs.TpdoParts.{Walk, Walked, besides, besides_run, came_other, tpdo_ids, walks, weaken}
use Rattle.conode_compare_laws.proofs.TpdoStarts.{command_comes, is_start_all, is_tick_turn, start_commanded}
use Rattle.conode_compare_laws.proofs.TpdoInhibits.{driven, ids, olds, some_is}
use Rattle.conode_compare_laws.proofs.TpdoWaits.{IsInTime, IsLive, IsPrompt, in_time, prompt_next, settings_kept}
use Rattle.conode_compare_laws.proofs.TpdoTimes.{AreOwn, AreTimed, IsJudged, IsOwn, ages_before, at_first, begins_timed, changed, changed_below, time_step, timed_kept}

-- ---- one TPDO

-- while operational, its newest frame came as long ago at most as its newest sending is
abbrev Within : ℕ → Sent → List ℕ → Type 0
Within micros s [] = ⊥
Within micros s (n ∷ ages) = micros ≤ s.micros + n * 1000

abbrev While : Bool → ℕ → Sent → List ℕ → Type 0
While operational micros s ages = operational ≡ true → Within micros s ages

far_below : (passed timer inhibit tolerance more other : ℕ) → passed ≤ timer * 1000 + inhibit * 100 → passed ≤ timer * 1000 + inhibit * 100 + tolerance + more + other
far_below passed timer inhibit tolerance more other less = omega arith

few : (free micros last age t i : ℕ) → free ≤ micros → micros ≤ last + age * 1000 → (t == 0) ≡ false → (age ≤ t) ⊎ (age ≤ (i + 9) / 10) → free - last ≤ t * 1000 + i * 100
few free micros last age t i bus past some (inl less) = omega arith
few free micros last age t i bus past some (inr less) =
    let positive : 0 < t = grind (arith, nat_tests) in
    let tenfold : age * 10 ≤ i + 9 = omega arith in
    omega arith

on_none : (b : Bool) (passed t : ℕ) → b ≡ true → is_of is_pdo_late (if b then None else Some (Timer passed t)) ≡ false
on_none true passed t h = refl
on_none false passed t h = absurd (cc)

within : (moment : Judged) (micros i t : ℕ) (s : Sent) (age : ℕ) → moment.free ≤ micros → micros ≤ s.micros + age * 1000 → (t ≡ 0) ⊎ ((age ≤ t) ⊎ (age ≤ in_ms i)) → ((t == 0) || nat_le (moment.free - s.micros) (greatest_gap moment i t)) ≡ true
within moment micros i t s age bus past (inl zero) = ap (λ b. b || nat_le (moment.free - s.micros) (greatest_gap moment i t)) (eq-eqb t 0 zero)
within moment micros i t s age bus past (inr time) = by (t == 0) refl
  where
    by : (b : Bool) → (t == 0) ≡ b → (b || nat_le (moment.free - s.micros) (greatest_gap moment i t)) ≡ true
    by true is = refl
    by false is =
        le-leb (moment.free - s.micros) (greatest_gap moment i t)
        (far_below (moment.free - s.micros) t i (micros_of moment.tolerance) (drift_of moment t) (drift_of moment (i / 10)) (few moment.free micros s.micros age t i bus past is time))

-- by the settings that the device was built with
timer_fine : (moment : Judged) (micros i t : ℕ) (s : Sent) (settings : Settings) (ages : List ℕ) → moment.free ≤ micros → Within micros s ages → settings.inhibit_time ≡ i → settings.event_timer ≡ t → IsInTime settings ages
    → is_of is_pdo_late (timer_deviation moment i t s) ≡ false
timer_fine moment micros i t s settings [] bus past inhibit timer time = absurd past
timer_fine moment micros i t s settings (age ∷ ages) bus past inhibit timer time =
    let known : (t ≡ 0) ⊎ ((age ≤ t) ⊎ (age ≤ in_ms i)) = subst (λ x. (x ≡ 0) ⊎ ((age ≤ x) ⊎ (age ≤ in_ms i))) timer (subst (λ x. (settings.event_timer ≡ 0) ⊎ ((age ≤ settings.event_timer) ⊎ (age ≤ in_ms x))) inhibit time) in
    on_none ((t == 0) || nat_le (moment.free - s.micros) (greatest_gap moment i t)) (moment.micros - s.micros) t (within moment micros i t s age bus past known)

some_within : (operational : Bool) (sent : Option Sent) (s : Sent) (micros : ℕ) (ages : List ℕ) → operational ≡ true → sent ≡ Some s → IfSome sent (λ x. While operational micros x ages) → Within micros s ages
some_within operational None s micros ages on is h = absurd (cc)
some_within operational (Some x) s micros ages on is h = subst (λ y. IfSome y (λ z. Within micros z ages)) is (h on)

bus_free : (subject : Subject) (p : Progress) (micros : ℕ) → IsNewest micros p → (moment_at subject p micros).free ≤ micros
unfolding moment_at
bus_free subject p micros new = new.free

judged : (operational : Bool) → operational ≡ true → (subject : Subject) (micros : ℕ) (frame : ℕ → FrameContent) (all : List ℕ) (old : ℕ → List ℕ) (k : Constants) (sheet : Tpdo) (number n : ℕ) → IsTpdoOf k number sheet
    → (nat_le 254 (number_at k.start (tpdo_key n 2)) ≡ true → IsInTime (settings_of k.start n) (old n)) → IsJudged is_pdo_late (While operational) subject micros frame (ids k) all old sheet number n
judged operational running subject micros frame all old k sheet number n of timely p has_sync pdo new same own since =
    let moment : Judged = moment_at subject p micros in
    deviation_none is_pdo_late moment has_sync pdo (length_of (frame n)) (state_none is_pdo_late moment refl) (length_none is_pdo_late pdo.parameters.length pdo.odd (length_of (frame n)) (λ l m. refl))
    (sync_none is_pdo_late has_sync pdo refl)
    (few_none is_pdo_late moment has_sync pdo (λ s n. refl))
    (time_none is_pdo_late moment pdo
    (λ on.
    let kind : nat_le 254 (number_at k.start (tpdo_key n 2)) ≡ true =
    ap (λ i. nat_le 254 (number_at k.start (tpdo_key i 2))) own ∙ driven sheet.parameters.kind (number_at k.start (tpdo_key number 2)) of.kind (ap (λ parameters. is_event_driven parameters.kind) (sym same) ∙ on) in
    record {
      inhibit = λ i s known sent. inhibit_none is_pdo_late moment i s (λ passed m. refl);
      timer = λ i t s known timer sent.
          timer_fine moment micros i t s (settings_of k.start number) (old number) (bus_free subject p micros new) (some_within operational pdo.sent s micros (old number) running sent since)
          (some_is sheet.parameters.inhibit i (number_at k.start (tpdo_key number 3)) (ap (λ parameters. parameters.inhibit) (sym same) ∙ known) of.inhibit)
          (some_is sheet.parameters.timer t (number_at k.start (tpdo_key number 5)) (ap (λ parameters. parameters.timer) (sym same) ∙ timer) of.timer)
          (subst (λ j. IsInTime (settings_of k.start j) (old j)) own (timely kind));
    }))

-- ---- what a device sends

-- a TPDO of a type from 254 on that is active is event-driven
live : (k : Constants) (n : ℕ) → is_active k.start n ≡ true → nat_le 254 (number_at k.start (tpdo_key n 2)) ≡ true → IsLive (settings_of k.start n)
live k n on kind = record {
  active = on;
  driven = event_kind (number_at k.start (tpdo_key n 2)) (and_parts _ _ on).1 kind;
}
  where
    event_kind : (t : ℕ) → is_supported_type t ≡ true → nat_le 254 t ≡ true → types.is_event_driven t ≡ true
    event_kind t supported high = grind (arith, nat_tests)

-- it comes in time
all_timely : (k : Constants) (before : Inputs) (m : Moment) (t : Turn) (o : Occasion) (n : ℕ) → KeepsTpdos k m → n < 512 → IsAt m.contents t o → is_tpdo_due m.contents (schedule_log k (moments k before)) o n ≡ true
    → (IsLive (settings_of k.start n) → IsPrompt (settings_of k.start n) (tpdo_log k n before) (sendings (tpdo_log k n before)))
    → nat_le 254 (number_at k.start (tpdo_key n 2)) ≡ true → IsInTime (settings_of k.start n) (ages_at t (ages_of k n before))
all_timely k before m t o n keeps less at due prompt kind =
    let s : Settings = settings_of k.start n in
    let log : Log = tpdo_log k n before in
    let now : is_due s log o ≡ true = sym (ap (λ x. is_due x log o) (settings_kept k m n keeps less)) ∙ (sym (ap (λ l. is_due (settings_of m.contents n) l o) (log_is k n before)) ∙ due) in
    let on : is_active k.start n ≡ true = sym (active_kept k m n keeps less) ∙ active m.contents (schedule_log k (moments k before)) o n due in
    subst (IsInTime s) (then_at m.contents t o (ages_of k n before) at) (in_time s log o (live k n on kind) (prompt (live k n on kind)) now)

module _ (operational : Bool) (k : Constants) (subject : Subject) (micros : ℕ) (before : Inputs) (m : Moment) (t : Turn) (running : (o : Occasion) → IsAt m.contents t o → operational ≡ true) (keeps : KeepsTpdos k m)
    (prompt : (n : ℕ) → n < 512 → IsLive (settings_of k.start n) → IsPrompt (settings_of k.start n) (tpdo_log k n before) (sendings (tpdo_log k n before))) where
  abbrev frame : ℕ → FrameContent
  frame n = tpdo_frame k.description m.contents n

  one_own : (o : Occasion) (number : ℕ) (sheet : Tpdo) (n : ℕ) → IsTpdoOf k number sheet → n < 512 → IsAt m.contents t o → is_tpdo_due m.contents (schedule_log k (moments k before)) o n ≡ true
      → IsOwn is_pdo_late (While operational) subject micros frame (ids k) m.due (olds k before t) sheet number n
  one_own o number sheet n of less at due = record {
    own = λ here. alone k.start number sheet n of.alone less (sym (active_kept k m n keeps less) ∙ active m.contents (schedule_log k (moments k before)) o n due)
        (sym (ap (λ w. is_id sheet.parameters.id (identifier_of w)) (tpdo_number k m n 1 keeps less)) ∙ here);
    judged = judged operational (running o at) subject micros frame m.due (olds k before t) k sheet number n of (all_timely k before m t o n keeps less at due (prompt n less));
  }

  all_own : (o : Occasion) (n : ℕ) → AreTpdosOf k subject.facts.pdos → n < 512 → IsAt m.contents t o → is_tpdo_due m.contents (schedule_log k (moments k before)) o n ≡ true → is_among n m.due ≡ true
      → AreOwn is_pdo_late (While operational) subject micros frame (ids k) m.due (olds k before t) subject.facts.pdos n
  all_own o n of less at due sent = record {
    id = ap identifier_of (tpdo_number k m n 1 keeps less);
    sent = sent;
    first = one_own o 0 subject.facts.pdos.first n of.first less at due;
    second = one_own o 1 subject.facts.pdos.second n of.second less at due;
    third = one_own o 2 subject.facts.pdos.third n of.third less at due;
    fourth = one_own o 3 subject.facts.pdos.fourth n of.fourth less at due;
  }

late_walk : (operational : Bool) (k : Constants) (subject : Subject) (micros : ℕ) (frame : ℕ → FrameContent) (all : List ℕ) (old : ℕ → List ℕ) → AreTpdosOf k subject.facts.pdos
    → Walk is_pdo_late (AreOwn is_pdo_late (While operational) subject micros frame (ids k) all old subject.facts.pdos) (λ due. AreTimed (While operational) subject.node (ids k) subject.facts.pdos micros (ages_before all old due)) (λ p. Unit {0}) subject micros frame
late_walk operational k subject micros frame all old of = record {
  kept = λ due. timed_kept (While operational) subject.node (ids k) subject.facts.pdos micros (ages_before all old due);
  begins = λ p h. tt;
  goes_on = λ p n id h. tt;
  step = λ n later p new ok once none h.
      time_step is_pdo_late (While operational) subject micros frame (ids k) all old (λ free ages less on. omega arith) p n later of.apart new ok once h;
}

-- ---- time passes

-- no input but the first is later than the ticks have it
abbrev IsPunctual : Inputs → ℕ → Stamped → Type 0
IsPunctual before last s = (before ≡ []) ⊎ (s.micros ≤ last + elapsed s.input)

abbrev is_operational : Constants → Inputs → Bool
is_operational k inputs = is_state node.Operational (state_of k inputs)

aged : (t : Turn) (last micros : ℕ) (s : Sent) (ages : List ℕ) → is_start_all t ≡ false → micros ≤ last + (if is_tick_turn t then 1000 else 0) → Within last s ages → Within micros s (ages_at t ages)
aged t last micros s [] apart less h = absurd h
aged turn.Quiet last micros s (age ∷ ages) apart less h = omega arith
aged turn.StartAll last micros s (age ∷ ages) apart less h = absurd (cc)
aged (turn.Start n part) last micros s (age ∷ ages) apart less h = omega arith
aged (turn.Sync counter) last micros s (age ∷ ages) apart less h = omega arith
aged (turn.Asked asked) last micros s (age ∷ ages) apart less h = omega arith
aged turn.Tick last micros s (age ∷ ages) apart less h = omega arith

-- in operational each ms is a tick of the schedule
ticks : (k : Constants) (before : Inputs) (input : InputView) → is_operational k (input ∷ before) ≡ true → is_operational k before ≡ true → elapsed input ≤ (if is_tick_turn (turn_at (moment k (moments k before) input) (moments k before)) then 1000 else 0)
ticks k before (Framed frame) after on = omega arith
ticks k before (Applied event) after on = omega arith
ticks k before Ticked after on = rw (after, on) (omega arith)

entered : (k : Constants) (before : Inputs) (input : InputView) → is_operational k (input ∷ before) ≡ true → is_operational k before ≡ false → is_start_all (turn_at (moment k (moments k before) input) (moments k before)) ≡ true
entered k before input after off = rw (after, off) refl

passes : (k : Constants) (before : Inputs) (last : ℕ) (s : Stamped) → is_start_all (turn_at (moment k (moments k before) s.input) (moments k before)) ≡ false → IsPunctual before last s
    → (number : ℕ) (sent : Sent) → While (is_operational k before) last sent (ages_of k number before)
    → While (is_operational k (s.input ∷ before)) s.micros sent (ages_at (turn_at (moment k (moments k before) s.input) (moments k before)) (ages_of k number before))
passes k before last s apart time number sent h = λ after. by (is_operational k before) refl after h time
  where
    t : Turn
    t = turn_at (moment k (moments k before) s.input) (moments k before)

    by : (b : Bool) → is_operational k before ≡ b → is_operational k (s.input ∷ before) ≡ true → While b last sent (ages_of k number before) → IsPunctual before last s → Within s.micros sent (ages_at t (ages_of k number before))
    by false off after g punctual = absurd (let on : is_start_all t ≡ true = entered k before s.input after off in cc)
    by true on after g (inl first) = absurd (let off : is_operational k before ≡ false = ap (is_operational k) first in cc)
    by true on after g (inr less) =
        let tick : elapsed s.input ≤ (if is_tick_turn t then 1000 else 0) = ticks k before s.input after on in
        aged t last s.micros sent (ages_of k number before) apart (omega arith) (g refl)

-- ---- an input

-- a TPDO that is sent, is sent in operational
sends_running : (k : Constants) (before : Inputs) (input : InputView) (o : Occasion) → IsAt (moment k (moments k before) input).contents (turn_at (moment k (moments k before) input) (moments k before)) o → is_operational k (input ∷ before) ≡ true
sends_running k before input o at = by (is_operational k (input ∷ before)) (is_operational k before) at
  where
    m : Moment
    m = moment k (moments k before) input

    by : (a b : Bool) → IsAt m.contents (if not a then turn.Quiet else (if not b then turn.StartAll else turn_with (marked_key m.mark) m.mark)) o → a ≡ true
    by true b h = refl
    by false b h = absurd h

-- no live TPDO has waited longer than its times have it
abbrev ArePrompt : Constants → Inputs → Type 0
ArePrompt k before = (n : ℕ) → n < 512 → IsLive (settings_of k.start n) → IsPrompt (settings_of k.start n) (tpdo_log k n before) (sendings (tpdo_log k n before))

record IsMet (pdos : Pdos) (k : Constants) (before : Inputs) (last : ℕ) (s : Stamped) : Type 0 where
  clear : AreClear pdos k before s
  keeps : KeepsTpdos k (moment k (moments k before) s.input)
  time : IsPunctual before last s
  log : ArePrompt k before

abbrev Between : Constants → Pdos → Inputs → ℕ → Pdos → Type 0
Between k facts before last = AreTimed (While (is_operational k before)) k.description.node (ids k) facts last (λ n. ages_of k n before)

came : (k : Constants) (subject : Subject) (rows : List Row) (before : Inputs) (last : ℕ) (s : Stamped) (p : Progress) (b : Bool) → is_start_all (turn_at (moment k (moments k before) s.input) (moments k before)) ≡ b
    → IsMet subject.facts.pdos k before last s → AllNameNone k.description.node (frame_of s.input) → Holds (Between k subject.facts.pdos before last) p
    → AllRun (tpdo_differences is_pdo_late) (of_device k subject) rows s.micros p (frame_of s.input)
    (Holds (AreTimed (While (is_operational k (s.input ∷ before))) k.description.node (ids k) subject.facts.pdos s.micros (olds k before (turn_at (moment k (moments k before) s.input) (moments k before)))))
came k subject rows before last s p true is met none h =
    let t : Turn = turn_at (moment k (moments k before) s.input) (moments k before) in
    command_comes is_pdo_late (While (is_operational k (s.input ∷ before))) (ids k) (olds k before t) (of_device k subject) rows s.micros s.input p (start_commanded k (moments k before) s.input is) (record { fresh = h.fresh; kept = h.kept.knows; opened = h.opened })
came k subject rows before last s p false is met none h =
    let facts : Pdos = subject.facts.pdos in
    let t : Turn = turn_at (moment k (moments k before) s.input) (moments k before) in
    others is_pdo_late (AreTimed (While (is_operational k (s.input ∷ before))) k.description.node (ids k) facts s.micros (olds k before t)) (of_device k subject) rows s.micros (frame_of s.input) p (timed_kept (While (is_operational k (s.input ∷ before))) k.description.node (ids k) facts s.micros (olds k before t))
    (came_other facts k.description.node s.input none met.clear.control met.clear.foreign)
    (record { fresh = h.fresh; kept = changed (While (is_operational k before)) (While (is_operational k (s.input ∷ before))) k.description.node (ids k) facts last s.micros (λ n. ages_of k n before) (olds k before t) p.pdos (passes k before last s is met.time) h.kept; opened = h.opened })

input_runs : (k : Constants) (subject : Subject) (rows : List Row) (before : Inputs) (last : ℕ) (s : Stamped) (p : Progress) → AreTpdosOf k subject.facts.pdos → IsMet subject.facts.pdos k before last s
    → Holds (Between k subject.facts.pdos before last) p
    → AllRun (tpdo_differences is_pdo_late) (of_device k subject) rows s.micros p (frame_of s.input ++ prescribed k before s.input) (Holds (Between k subject.facts.pdos (s.input ∷ before) s.micros))
input_runs k subject rows before last s p of met h =
    let subj : Subject = of_device k subject in
    let now : ℕ → Sent → List ℕ → Type 0 = While (is_operational k (s.input ∷ before)) in
    let n : ℕ = k.description.node in
    let facts : Pdos = subject.facts.pdos in
    let m : Moment = moment k (moments k before) s.input in
    let t : Turn = turn_at m (moments k before) in
    let schedule : Schedule = schedule_log k (moments k before) in
    let frames : ℕ → FrameContent = tpdo_frame k.description m.contents in
    let first : List FrameContent = frame_of s.input in
    let more : List FrameContent = besides k m in
    let N : FrameContent → Type 0 = NamesNoTpdo n in
    let sent : AllNameNone n (more ++ map frames m.due) = last_of N first (prescribed k before s.input) met.clear.sdo in
    let old : ℕ → List ℕ = olds k before t in
    let waits : Pdos → Type 0 = AreTimed now k.description.node (ids k) facts s.micros old in
    let J : List ℕ → Pdos → Type 0 = λ due. AreTimed now k.description.node (ids k) facts s.micros (ages_before m.due old due) in
    let after : Progress → Type 0 = Holds (Between k facts (s.input ∷ before) s.micros) in
    joined (tpdo_differences is_pdo_late) subj rows s.micros first (more ++ map frames m.due) p (Holds waits) after
    (came k subject rows before last s p (is_start_all t) refl met (first_of N first (prescribed k before s.input) met.clear.sdo) h)
    (λ q g.
    joined (tpdo_differences is_pdo_late) subj rows s.micros more (map frames m.due) q (Holds waits) after
    (besides_run is_pdo_late waits k subject rows s.micros before s.input q (timed_kept now k.description.node (ids k) facts s.micros old) (λ reset. begins_timed now k.description.node (ids k) k facts s.micros old of) met.clear.aside met.clear.beside
    (first_of N more (map frames m.due) sent) g)
    (λ r f. weaken (tpdo_differences is_pdo_late) subj rows s.micros (map frames m.due) r (Walked (J []) (λ x. Unit {0})) after
    (λ x e. record {
      fresh = e.holds.fresh;
      kept = changed_below now now k.description.node (ids k) facts s.micros s.micros (ages_before m.due old []) (λ i. ages_of k i (s.input ∷ before)) x.pdos
          (λ i less a h2. subst (λ l. now s.micros a l) (sym (next_ages k i before s.input less met.keeps)) h2) e.holds.kept;
      opened = e.holds.opened;
    })
    (walks is_pdo_late (AreOwn is_pdo_late now subj s.micros frames (ids k) m.due old facts) J (λ x. Unit {0}) subj rows s.micros frames m.due r (late_walk (is_operational k (s.input ∷ before)) k subj s.micros frames m.due old of)
    (tpdo_ids n frames m.due met.clear.aside.tpdos (last_of N more (map frames m.due) sent))
    (due_all (AreOwn is_pdo_late now subj s.micros frames (ids k) m.due old facts) k.description t m.contents schedule (λ i o less at due among. all_own (is_operational k (s.input ∷ before)) k subj s.micros before m t (λ x y. sends_running k before s.input x y) met.keeps met.log o i of less at due among))
    (due_distinct k.description t m.contents schedule)
    (record { fresh = f.fresh; kept = changed now now k.description.node (ids k) facts s.micros s.micros old (ages_before m.due old m.due) r.pdos (λ i a h2. subst (λ l. now s.micros a l) (sym (at_first m.due old i)) h2) f.kept; opened = f.opened })
    tt)))

-- ---- all inputs

all_met : (pdos : Pdos) (k : Constants) (inputs : List Stamped) (before : Inputs) (last : ℕ) → AllInputs (λ b l s. AreClear pdos k b s) before last inputs → AllKeepTpdos k before inputs → AreInTime last inputs
    → ArePrompt k before → AllInputs (λ b l s. IsMet pdos k b l s) before last inputs
all_met pdos k [] before last clear keeps time log = tt
all_met pdos k (s ∷ later) before last clear keeps time log = (
  record { clear = clear.0; keeps = keeps.0; time = inr time.0; log = log },
  all_met pdos k later (s.input ∷ before) s.micros clear.1 keeps.1 time.1 (λ n less live. prompt_next k n before s.input less keeps.0 live (log n less live)),
)

first_met : (pdos : Pdos) (k : Constants) (inputs : List Stamped) (last : ℕ) → AllInputs (λ b l s. AreClear pdos k b s) [] last inputs → AllKeepTpdos k [] inputs → Timed inputs
    → AllInputs (λ b l s. IsMet pdos k b l s) [] last inputs
first_met pdos k [] last clear keeps time = tt
first_met pdos k (s ∷ later) last clear keeps time = (
  record { clear = clear.0; keeps = keeps.0; time = inl refl; log = λ n less live. tt },
  all_met pdos k later (s.input ∷ []) s.micros clear.1 keeps.1 time (λ n less live. prompt_next k n [] s.input less keeps.0 live tt),
)

pub no_pdo_late : (k : Constants) (subject : Subject) (rows : List Row) (inputs : List Stamped) → subject.node ≡ k.description.node → AreTpdosOf k subject.facts.pdos → AllKeepTpdos k [] inputs → Timed inputs
    → AreElsewhere (0x700 + k.description.node) inputs → AreNoTpdos subject.facts.pdos inputs → AllSendAside k [] inputs → AllSendBesideTpdos subject.facts.pdos k [] inputs
    → NameNoTpdos k.description.node (recording k inputs) → differences_in (tpdo_differences is_pdo_late) subject rows (recording k inputs) ≡ []
no_pdo_late k subject rows inputs is of keeps time control foreign aside beside none =
    let facts : Pdos = subject.facts.pdos in
    of_device_too is_pdo_late k subject rows inputs is
    (of_recording is_pdo_late k subject rows (λ b l s. IsMet facts k b l s) (Between k facts) (λ before last s p met h. input_runs k subject rows before last s p of met h) inputs
    (λ micros. begins_timed (While (is_operational k [])) k.description.node (ids k) k facts micros (λ n. ages_of k n []) of)
    (λ last. first_met facts k inputs last (all_clear facts k inputs [] last control foreign aside beside (names_later k inputs none)) keeps time))
