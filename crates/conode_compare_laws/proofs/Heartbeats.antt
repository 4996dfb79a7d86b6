-- The heartbeats that a device sends, over all its inputs: none is late by what compare knows of them.
use Rattle.std.proofs.Common.{◌≡◌, ℕ, zero, suc, ◌+◌, ◌*◌, ◌%◌, ◌<◌, ◌≤◌, Bool, true, false, List, [], ◌∷◌, ◌++◌, map, Option, Some, None, refl, sym, ap, ◌∙◌, subst, arith, ◌⊎◌, inl, inr}
use Rattle.std.specs.Prelude.{if◌then◌else◌, ◌==◌, ◌&&◌, ◌||◌, nat_lt, IfSome}
use Rattle.std.proofs.Math.Nat.{mod-lt}
use Rattle.std.proofs.lemmas.Bool.{false≢true, lt-ltb}
use Rattle.co_frame.specs.FrameContent.{FrameContent}
use Rattle.co_frame.specs.Heartbeats.{state_byte}
use Rattle.co_frame.specs.declared.heartbeat.Heartbeat.{Heartbeat}
use Rattle.co_frame.specs.declared.heartbeat.Heartbeat.TheVariants.{BootUp}
use Rattle.co_profile.specs.Keys.{producer_key}
use Rattle.co_dict.specs.Rows.{number_at}
use Rattle.co_sheet.specs.Content.{Row}
use Rattle.co_sdo.specs.Events.{frames_at}
use Rattle.co_node_parts.specs.NmtStates.{heartbeat_of}
use Rattle.co_node_parts.specs.Producers.{ProducerLog, is_heartbeat_due, period_of, ticks}
use Rattle.co_node_parts.specs.declared.heartbeat_producer.ProducerEvent.{ProducerEvent}
use Rattle.co_node_parts.specs.declared.heartbeat_producer.ProducerEvent.TheVariants as producer
use Rattle.co_node_parts.specs.declared.nmt_state.NodeState.{NodeState}
use Rattle.co_node_parts.specs.declared.nmt_state.NodeState.TheVariants as node
use Rattle.co_node_model.specs.Device.{moment, moments, prescribed}
use Rattle.co_node_model.specs.Emergencies.{emergency_frames}
use Rattle.co_node_model.specs.declared.mark.Mark.{Mark}
use Rattle.co_node_model.specs.declared.mark.Mark.TheVariants as was
use Rattle.co_node_model.specs.Heartbeats.{boot_up, life_frames, producer_event, producer_log}
use Rattle.co_node_model.specs.Inputs.{Applied, Framed, Inputs, InputView, Ticked}
use Rattle.co_node_model.specs.Keys.{is_set}
use Rattle.co_node_model.specs.Marks.{marked_key, marked_tick}
use Rattle.co_node_model.specs.Moments.{Constants, History, Moment}
use Rattle.co_node_model.specs.Nmt.{is_reset, state_at}
use Rattle.co_node_model.specs.Tpdos.{tpdo_frame}
use Rattle.conode_compare_nmt.specs.declared.limits.Subject.{Subject}
use Rattle.conode_compare_rules.specs.declared.progress.Progress.{Progress}
use Rattle.conode_compare_rules.specs.Gaps.{before_recording}
use Rattle.conode_compare_laws.specs.Differences.{differences_from, differences_in, late_differences}
use Rattle.conode_compare_laws.specs.Identifiers.{AllSendAside, AreAside, AreElsewhere, AreWithout, IsElsewhere, IsUnnamed, SendsAside}
use Rattle.conode_compare_laws.specs.Periods.{AllKeepPeriod, KnowsPeriod, period_after}
use Rattle.conode_compare_laws.specs.Recordings.{AreInTime, AreTimed, Recorded, Stamped, elapsed, frame_of, heard_from, recording}
use Rattle.conode_compare_laws.proofs.Beats.{Beats, KnowsBefore, all_others, always, beat_runs, boot_runs, later, more_ago, next_rest, unknown_beats, zero_beats}
use Rattle.conode_compare_laws.proofs.Runs.{AllRun, joined, then_none}
use Rattle.conode_compare_laws.proofs.Heard.{of_device}
use Rattle.conode_compare_laws.proofs.ShowsWord.{AllShow, ShowsFrom, at_once, both, ends_as, mapped_shows, parts, unnamed_shows}

-- ---- which frames these are

-- none of these is one of error control
pub uncontrolled : (node : ℕ) (frames : List FrameContent) → AreAside node frames → AreWithout (0x700 + node) frames
uncontrolled node [] aside = tt
uncontrolled node (frame ∷ frames) aside = (aside.0.1, uncontrolled node frames aside.1)

pub came_without : (id : ℕ) (input : InputView) → IsElsewhere id input → AreWithout id (frame_of input)
came_without id (Framed frame) elsewhere = (elsewhere, tt)
came_without id Ticked elsewhere = tt
came_without id (Applied event) elsewhere = tt

-- ---- how long the last heartbeat is ago

-- in microseconds, by the ticks since it; with a period of 0 it doesn't count
abbrev ago_of : ℕ → ProducerLog → ℕ
ago_of period log = (ticks log % period) * 1000

-- a heartbeat is no boot-up
no_boot : (state : NodeState) → (state_byte (heartbeat_of state) == 0) ≡ false
no_boot node.PreOperational = refl
no_boot node.Operational = refl
no_boot node.Stopped = refl

-- after a heartbeat any time may be said; else it is longer ago by what the input took
life_steps : (subject : Subject) (rows : List Row) (micros more period : ℕ) (p : Progress) (log : ProducerLog) (tick : Bool) (number : ℕ) (final : NodeState) → KnowsBefore period subject
    → 0 < period → period_of log ≡ period → more ≤ 1000 → (tick ≡ false → more ≡ 0) → Beats period micros (ago_of period log + more) p
    → AllRun late_differences subject rows micros p
    (life_frames subject.node (if is_heartbeat_due (if tick then producer.Tick else producer.Quiet) log then Some (heartbeat_of final) else None))
    (Beats period micros (ago_of period ((if tick then producer.Tick else producer.Quiet) ∷ log)))
life_steps subject rows micros more period p log false number final knows some same few none h =
    let zero_more : more ≡ 0 = none refl in
    more_ago period micros (ago_of period log + more) (ago_of period log) p (omega arith) h
life_steps subject rows micros more period p log true number final knows some same few none h = by ((ticks log + 1) % period == 0) refl
  where
    positive : nat_lt 0 (period_of log) ≡ true
    positive = ap (nat_lt 0) same ∙ lt-ltb 0 period some

    due : is_heartbeat_due producer.Tick log ≡ ((ticks log + 1) % period == 0)
    due = ap (λ b. b && ((ticks log + 1) % period_of log == 0)) positive ∙ ap (λ n. (ticks log + 1) % n == 0) same

    by : (b : Bool) → ((ticks log + 1) % period == 0) ≡ b
        → AllRun late_differences subject rows micros p (life_frames subject.node (if is_heartbeat_due producer.Tick log then Some (heartbeat_of final) else None)) (Beats period micros (((ticks log + 1) % period) * 1000))
    by true is =
        subst (λ b. AllRun late_differences subject rows micros p (life_frames subject.node (if b then Some (heartbeat_of final) else None)) (Beats period micros (((ticks log + 1) % period) * 1000))) (sym (due ∙ is))
        (beat_runs subject rows micros p (heartbeat_of final) period (ago_of period log + more) (((ticks log + 1) % period) * 1000) knows (no_boot final) some (inr (omega (arith, mod-lt (ticks log) some))) h)
    by false is =
        let next : (ticks log + 1) % period ≡ ticks log % period + 1 = elim (next_rest (ticks log) period some) [ inl on ↦ absurd (cc) | inr e ↦ e ] in
        subst (λ b. AllRun late_differences subject rows micros p (life_frames subject.node (if b then Some (heartbeat_of final) else None)) (Beats period micros (((ticks log + 1) % period) * 1000))) (sym (due ∙ is))
        (subst (λ n. Beats period micros n p) (ap (λ r. r * 1000) (sym next)) (more_ago period micros (ago_of period log + more) ((ticks log % period + 1) * 1000) p (omega arith) h))

-- ---- an input

-- 1017:00 is written at an input
abbrev pub is_written : Constants → Inputs → InputView → Bool
is_written k before input = is_set (marked_key (moment k (moments k before) input).mark) producer_key

-- nothing is known of the period
abbrev pub IsUnknown : Progress → Type 0
IsUnknown p = IfSome p.entries.period (λ n. ⊥)

-- a write is no reset
pub written_no_reset : (mark : Mark) → is_set (marked_key mark) producer_key ≡ true → is_reset mark ≡ false
written_no_reset (was.Command service) h = absurd (false≢true h)
written_no_reset _ h = refl

pub without_both : (id : ℕ) (xs ys : List FrameContent) → AreWithout id xs → AreWithout id ys → AreWithout id (xs ++ ys)
without_both id [] ys a b = b
without_both id (x ∷ xs) ys a b = (a.0, without_both id xs ys a.1 b)

-- its period is that which 1017:00 has after it
keeps : (k : Constants) (before : Inputs) (input : InputView)
    → (is_written k before input ≡ false → is_reset (moment k (moments k before) input).mark ≡ false → period_after k (input ∷ before) ≡ period_after k before)
    → period_of (producer_log k (moments k before)) ≡ period_after k before → period_of (producer_log k (moments k (input ∷ before))) ≡ period_after k (input ∷ before)
keeps k before input kept same = by (is_reset m.mark) (is_set (marked_key m.mark) producer_key) refl refl (marked_tick m.mark)
  where
    m : Moment
    m = moment k (moments k before) input

    by : (reset set : Bool) → is_reset (moment k (moments k before) input).mark ≡ reset → is_written k before input ≡ set → (tick : Bool)
        → period_of ((if reset || set then producer.Begin (period_after k (input ∷ before)) else (if tick then producer.Tick else producer.Quiet)) ∷ producer_log k (moments k before)) ≡ period_after k (input ∷ before)
    by true set r w tick = refl
    by false true r w tick = refl
    by false false r w true = same ∙ sym (kept w r)
    by false false r w false = same ∙ sym (kept w r)

-- an input takes 1 ms at most, and if it is no tick nothing
ms : (input : InputView) → elapsed input ≤ 1000
ms (Framed frame) = omega arith
ms Ticked = omega arith
ms (Applied event) = omega arith

no_time : (k : Constants) (history : History) (input : InputView) → marked_tick (moment k history input).mark ≡ false → elapsed input ≡ 0
no_time k history (Framed frame) off = refl
no_time k history Ticked off = absurd (cc)
no_time k history (Applied event) off = refl

-- it counts no longer than the period
below : (period n : ℕ) → 0 < period → (n % period) * 1000 ≤ period * 1000
below period n some = omega (arith, mod-lt n some)

at_most : (period n more : ℕ) → 0 < period → more ≤ 1000 → (n % period) * 1000 + more ≤ period * 1000
at_most period n more some few = omega (arith, mod-lt n some)

life_at : (k : Constants) (subject : Subject) (rows : List Row) (micros more period : ℕ) (history : History) (input : InputView) (p : Progress) → KnowsBefore period subject → 0 < period
    → period_of (producer_log k history) ≡ period → is_reset (moment k history input).mark ≡ false → is_set (marked_key (moment k history input).mark) producer_key ≡ false → more ≤ 1000
    → (marked_tick (moment k history input).mark ≡ false → more ≡ 0) → Beats period micros (ago_of period (producer_log k history) + more) p
    → AllRun late_differences subject rows micros p (life_frames subject.node (moment k history input).life) (Beats period micros (ago_of period (producer_log k (moment k history input ∷ history))))
life_at k subject rows micros more period history input p knows some same unreset off few none h =
    let m : Moment = moment k history input in
    let log : ProducerLog = producer_log k history in
    let final : NodeState = state_at (m ∷ history) in
    let Goal : Bool → Bool → Type 0 = λ reset set. AllRun late_differences subject rows micros p
    (life_frames subject.node (if reset then Some BootUp
    else (if is_heartbeat_due (if reset || set then producer.Begin (number_at m.contents producer_key) else (if marked_tick m.mark then producer.Tick else producer.Quiet)) log then Some (heartbeat_of final) else None)))
    (Beats period micros (ago_of period ((if reset || set then producer.Begin (number_at m.contents producer_key) else (if marked_tick m.mark then producer.Tick else producer.Quiet)) ∷ log))) in
    subst (λ reset. Goal reset (is_set (marked_key m.mark) producer_key)) (sym unreset)
    (subst (λ set. Goal false set) (sym off)
    (life_steps subject rows micros more period p log (marked_tick m.mark) (number_at m.contents producer_key) final knows some same few none h))

-- but at a reset a heartbeat is no boot-up
pub life_beats : (reset due : Bool) (state : NodeState) → reset ≡ false → IfSome (if reset then Some BootUp else (if due then Some (heartbeat_of state) else None)) (λ life. (state_byte life == 0) ≡ false)
life_beats true due state off = absurd (false≢true (sym off))
life_beats false false state off = tt
life_beats false true state off = no_boot state

-- at a reset it is one
life_boots : (reset due : Bool) (state : NodeState) → reset ≡ true → (if reset then Some BootUp else (if due then Some (heartbeat_of state) else None)) ≡ Some BootUp
life_boots true due state on = refl
life_boots false due state on = absurd (false≢true on)

-- with a period of 0, and where 1017:00 is written, no heartbeat is due
zero_due : (event : ProducerEvent) (log : ProducerLog) → period_of log ≡ 0 → is_heartbeat_due event log ≡ false
zero_due (producer.Begin period) log none = refl
zero_due producer.Tick log none = ap (λ n. nat_lt 0 n && (ticks log + 1) % n == 0) none
zero_due producer.Quiet log none = refl

begun_due : (reset set : Bool) (period : ℕ) (event : ProducerEvent) (log : ProducerLog) → set ≡ true → is_heartbeat_due (if reset || set then producer.Begin period else event) log ≡ false
begun_due true set period event log on = refl
begun_due false true period event log on = refl
begun_due false false period event log on = absurd (false≢true on)

-- then it sends none but at a reset
no_life : (reset due : Bool) (state : NodeState) → reset ≡ false → due ≡ false → (if reset then Some BootUp else (if due then Some (heartbeat_of state) else None)) ≡ None
no_life true due state off none = absurd (false≢true (sym off))
no_life false true state off none = absurd (false≢true (sym none))
no_life false false state off none = refl

-- so what is known of the last heartbeat stays
life_none : (subject : Subject) (rows : List Row) (micros period ago : ℕ) (life : Option Heartbeat) (p : Progress) → life ≡ None → Beats period micros ago p
    → AllRun late_differences subject rows micros p (life_frames subject.node life) (Beats period micros ago)
life_none subject rows micros period ago life p none h = subst (λ o. AllRun late_differences subject rows micros p (life_frames subject.node o) (Beats period micros ago)) (sym none) h

any_after : (subject : Subject) (rows : List Row) (micros : ℕ) (life : Option Heartbeat) (p : Progress) (period ago after : ℕ) → period ≡ 0 → AllRun late_differences subject rows micros p (life_frames subject.node life) (Beats period micros ago)
    → AllRun late_differences subject rows micros p (life_frames subject.node life) (Beats period micros after)
any_after subject rows micros None p period ago after none h = zero_beats period micros ago after p none h
any_after subject rows micros (Some life) p period ago after none h = (h.0, zero_beats period micros ago after _ none h.1)

zero_or : (n : ℕ) → (n ≡ 0) ⊎ (0 < n)
zero_or zero = inl refl
zero_or (suc n) = inr (omega arith)

-- what the period is, and what is known of it, at an input
pub record Follows (k : Constants) (subject : Subject) (before : Inputs) (input : InputView) : Type 0 where
  pub kept : is_written k before input ≡ false → is_reset (moment k (moments k before) input).mark ≡ false → period_after k (input ∷ before) ≡ period_after k before
  pub next : KnowsBefore (period_after k (input ∷ before)) subject
  pub boots : is_reset (moment k (moments k before) input).mark ≡ true → KnowsPeriod (period_after k (input ∷ before)) subject

module _ (k : Constants) (subject : Subject) (rows : List Row) (micros : ℕ) (before : Inputs) (input : InputView) (knows : KnowsBefore (period_after k before) subject)
    (same : period_of (producer_log k (moments k before)) ≡ period_after k before) (follows : Follows k subject before input) (aside : SendsAside k (moment k (moments k before) input)) (last_shows : Progress → Type 0) where
  abbrev own : Subject
  own = of_device k subject

  abbrev m : Moment
  m = moment k (moments k before) input

  abbrev period : ℕ
  period = period_after k before

  abbrev next : ℕ
  next = period_after k (input ∷ before)

  abbrev log : ProducerLog
  log = producer_log k (moments k before)

  -- how long the last heartbeat is ago before what the device sends, and after it
  abbrev ago : ℕ
  ago = ago_of (period_after k before) (producer_log k (moments k before)) + elapsed input

  abbrev after : ℕ
  after = ago_of (period_after k (input ∷ before)) (producer_log k (moments k (input ∷ before)))

  within : (period ≡ 0) ⊎ (ago ≤ period * 1000)
  within = elim (zero_or period) [ inl none ↦ inl none | inr some ↦ inr (at_most period (ticks log) (elapsed input) some (ms input)) ]

  within_after : (next ≡ 0) ⊎ (after ≤ next * 1000)
  within_after = elim (zero_or next) [ inl none ↦ inl none | inr some ↦ inr (below next (ticks (producer_log k (moments k (input ∷ before)))) some) ]

  -- what the device sends, the period being this one before its own heartbeat
  sent_runs : (one mid : ℕ) → KnowsBefore one subject → (one ≡ 0) ⊎ (mid ≤ one * 1000)
      → ((q : Progress) → Beats one micros mid q → AllRun late_differences own rows micros q (life_frames k.description.node m.life) (Beats next micros after)) → (p : Progress)
      → Beats one micros mid p → AllShow producer_key one own micros p (prescribed k before input) (λ q. Unit {0}) → AllShow producer_key next own micros p (prescribed k before input) last_shows
      → AllRun late_differences own rows micros p (prescribed k before input) (λ q. Beats next micros after q × last_shows q)
  sent_runs one mid known few life p h first shows =
      let n : ℕ = k.description.node in
      let a : List FrameContent = frames_at m.exchange in
      let b : List FrameContent = frames_at m.timed_out in
      let c : List FrameContent = emergency_frames m.contents m.emergency in
      let d : List FrameContent = life_frames n m.life in
      let e : List FrameContent = map (tpdo_frame k.description m.contents) m.due in
      let show_e : Progress → Type 0 = λ q. AllShow producer_key next own micros q e last_shows in
      let show_d : Progress → Type 0 = λ q. AllShow producer_key next own micros q d show_e in
      let none : Progress → Type 0 = λ q. Unit {0} in
      let none_e : Progress → Type 0 = λ q. AllShow producer_key one own micros q e none in
      let none_d : Progress → Type 0 = λ q. AllShow producer_key one own micros q d none_e in
      let apart : AreWithout (0x700 + n) (a ++ b ++ c) =
      without_both (0x700 + n) (a ++ b) c (without_both (0x700 + n) a b (uncontrolled n a aside.answers) (uncontrolled n b aside.time_out)) (uncontrolled n c aside.emergency) in
      joined late_differences own rows micros (a ++ b ++ c ++ d) e p (λ q. Beats next micros after q × show_e q) (λ q. Beats next micros after q × last_shows q)
      (joined late_differences own rows micros (a ++ b ++ c) d p (λ q. Beats one micros mid q × show_d q) (λ q. Beats next micros after q × show_e q)
      (all_others own rows micros (a ++ b ++ c) p one mid show_d known few apart h
      (ends_as producer_key one own micros next (a ++ b ++ c) p none_d show_d
      (parts producer_key one own micros (a ++ b ++ c) d p none_e (parts producer_key one own micros (a ++ b ++ c ++ d) e p none first))
      (parts producer_key next own micros (a ++ b ++ c) d p show_e (parts producer_key next own micros (a ++ b ++ c ++ d) e p last_shows shows))))
      (λ q g. both producer_key next own micros late_differences rows d q (Beats next micros after) show_e (life q g.0) g.1))
      (λ q g. all_others own rows micros e q next after last_shows follows.next within_after (uncontrolled n e aside.tpdos) g.0 g.1)

  -- where it isn't written, and no reset comes
  kept_life : is_reset m.mark ≡ false → is_written k before input ≡ false → (x : Progress) → Beats period micros ago x
      → AllRun late_differences own rows micros x (life_frames k.description.node m.life) (Beats period micros (ago_of period (producer_log k (moments k (input ∷ before)))))
  kept_life reset is x b = elim (zero_or period) [
    | inl none ↦
        let beats : AllRun late_differences own rows micros x (life_frames k.description.node m.life) (Beats period micros ago) =
        life_none own rows micros period ago m.life x
        (no_life (is_reset m.mark) (is_heartbeat_due (producer_event m.mark m.contents) log) (state_at (m ∷ moments k before)) reset (zero_due (producer_event m.mark m.contents) log (same ∙ none))) b in
        any_after own rows micros m.life x period ago (ago_of period (producer_log k (moments k (input ∷ before)))) none beats
    | inr some ↦ life_at k own rows micros (elapsed input) period (moments k before) input x knows some same reset is (ms input) (no_time k (moments k before) input) b
  ]

  -- what its frames show, after the frame that the input is
  abbrev Sends : Progress → Type 0
  Sends q =
      (is_written k before input ≡ true → IsUnknown q)
      × ((is_reset m.mark ≡ true → AllShow producer_key period own micros q (prescribed k before input) (λ r. Unit {0})) × AllShow producer_key next own micros q (prescribed k before input) last_shows)

  input_runs : (last : ℕ) (p : Progress) → micros ≤ last + elapsed input → IsElsewhere (0x700 + k.description.node) input → Beats period last (ago_of period log) p
      → AllShow producer_key period own micros p (frame_of input) Sends
      → AllRun late_differences own rows micros p (frame_of input ++ prescribed k before input) (λ q. Beats next micros after q × last_shows q)
  input_runs last p time control h shows =
      joined late_differences own rows micros (frame_of input) (prescribed k before input) p (λ q. Beats period micros ago q × Sends q) (λ q. Beats next micros after q × last_shows q)
      (all_others own rows micros (frame_of input) p period ago Sends knows within (came_without (0x700 + k.description.node) input control)
      (later period last micros (ago_of period log) (elapsed input) p time h) shows)
      (λ q g. by (is_written k before input) (is_reset m.mark) refl refl q g.0 g.1)
    where
      forgotten : (word : ℕ) (q : Progress) → AllShow producer_key word own micros q (prescribed k before input) last_shows → AllShow producer_key word own micros q (prescribed k before input) (λ r. Unit {0})
      forgotten word q g = mapped_shows producer_key word own micros (prescribed k before input) q last_shows (λ r. Unit {0}) (λ r x. tt) g

      due : Bool
      due = is_heartbeat_due (producer_event m.mark m.contents) log

      by : (w r : Bool) → is_written k before input ≡ w → is_reset m.mark ≡ r → (q : Progress) → Beats period micros ago q → Sends q → AllRun late_differences own rows micros q (prescribed k before input) (λ q. Beats next micros after q × last_shows q)
      by true r is reset q g shows =
          sent_runs next after follows.next within_after
          (λ x. life_none own rows micros next after m.life x
          (no_life (is_reset m.mark) (is_heartbeat_due (producer_event m.mark m.contents) log) (state_at (m ∷ moments k before)) (written_no_reset m.mark is)
          (begun_due (is_reset m.mark) (is_set (marked_key m.mark) producer_key) (number_at m.contents producer_key) (if marked_tick m.mark then producer.Tick else producer.Quiet) log is)))
          q (unknown_beats period next micros ago after q (shows.0 is) g) (forgotten next q shows.1.1) shows.1.1
      by false false is reset q g shows =
          let e : next ≡ period = follows.kept is reset in
          sent_runs period ago knows within
          (λ x b. subst (λ n. AllRun late_differences own rows micros x (life_frames k.description.node m.life) (Beats n micros (ago_of n (producer_log k (moments k (input ∷ before)))))) (sym e) (kept_life reset is x b))
          q g (subst (λ n. AllShow producer_key n own micros q (prescribed k before input) (λ r. Unit {0})) e (forgotten next q shows.1.1)) shows.1.1
      by false true is reset q g shows =
          sent_runs period ago knows within
          (λ x b. subst (λ life. AllRun late_differences own rows micros x (life_frames k.description.node life) (Beats next micros after))
          (sym (life_boots (is_reset m.mark) (is_heartbeat_due (producer_event m.mark m.contents) log) (state_at (m ∷ moments k before)) reset))
          (boot_runs own rows micros x period next ago after knows (record { before = (follows.boots reset).before; booted = (follows.boots reset).booted }) b))
          q g (shows.1.0 reset) shows.1.1

-- ---- all inputs

-- each transfer that ends at the frames of these inputs shows the number of 1017:00 then, or nothing; and after a frame that writes 1017:00
-- nothing is known of it
abbrev pub ShowsBy : Constants → Subject → Progress → Inputs → List Stamped → Type 0
ShowsBy k subject p before [] = Unit {0}
ShowsBy k subject p before (s ∷ later) =
    AllShow producer_key (period_after k before) subject s.micros p (frame_of s.input)
    (λ q. (is_written k before s.input ≡ true → IsUnknown q)
    × ((is_reset (moment k (moments k before) s.input).mark ≡ true → AllShow producer_key (period_after k before) subject s.micros q (prescribed k before s.input) (λ r. Unit {0}))
    × AllShow producer_key (period_after k (s.input ∷ before)) subject s.micros q (prescribed k before s.input) (λ r. ShowsBy k subject r (s.input ∷ before) later)))

-- from the boot-up on
abbrev pub ShowsAll : Constants → Subject → List Stamped → Type 0
ShowsAll k subject [] = Unit {0}
ShowsAll k subject (s ∷ later) = AllShow producer_key (period_after k []) subject s.micros (before_recording subject) (boot_up k ∷ []) (λ q. ShowsBy k subject q [] (s ∷ later))

abbrev pub AllFollow : Constants → Subject → Inputs → List Stamped → Type 0
AllFollow k subject before [] = Unit {0}
AllFollow k subject before (s ∷ later) = Follows k subject before s.input × AllFollow k subject (s.input ∷ before) later

all_none : (k : Constants) (subject : Subject) (rows : List Row) (inputs : List Stamped) (before : Inputs) (last : ℕ) (p : Progress) → KnowsBefore (period_after k before) subject
    → period_of (producer_log k (moments k before)) ≡ period_after k before → AllFollow k subject before inputs → AreInTime last inputs → AreElsewhere (0x700 + k.description.node) inputs → AllSendAside k before inputs
    → ShowsBy k (of_device k subject) p before inputs → Beats (period_after k before) last (ago_of (period_after k before) (producer_log k (moments k before))) p
    → differences_from late_differences (of_device k subject) rows p (heard_from k before inputs) ≡ []
all_none k subject rows [] before last p knows same follow time control aside shows h = refl
all_none k subject rows (s ∷ others) before last p knows same follow time control aside shows h =
    let frames : List FrameContent = frame_of s.input ++ prescribed k before s.input in
    let rest : List Recorded = heard_from k (s.input ∷ before) others in
    let shown : Progress → Type 0 = λ q. ShowsBy k (of_device k subject) q (s.input ∷ before) others in
    let next : ℕ = period_after k (s.input ∷ before) in
    then_none late_differences (of_device k subject) rows s.micros frames rest p (λ q. Beats next s.micros (ago_of next (producer_log k (moments k (s.input ∷ before)))) q × shown q)
    (input_runs k subject rows s.micros before s.input knows same follow.0 aside.0 shown last p time.0 control.0 h shows)
    (λ q g. all_none k subject rows others (s.input ∷ before) s.micros q follow.0.next (keeps k before s.input follow.0.kept same) follow.1 time.1 control.1 aside.1 g.1 g.0)

begins : (k : Constants) (subject : Subject) (rows : List Row) (micros : ℕ) → KnowsPeriod (period_after k []) subject
    → AllRun late_differences (of_device k subject) rows micros (before_recording (of_device k subject)) (boot_up k ∷ []) (Beats (period_after k []) micros (ago_of (period_after k []) (producer_log k (moments k []))))
begins k subject rows micros knows =
    let s : Subject = of_device k subject in
    boot_runs s rows micros (before_recording s) (period_after k []) (period_after k []) 0 _ knows.before (record { before = knows.before; booted = knows.booted })
    (record { fresh = tt; known = knows.before; since = always subject.facts.before.period (λ n. inr tt) })

of_recording : (k : Constants) (subject : Subject) (rows : List Row) (inputs : List Stamped) → KnowsPeriod (period_after k []) subject → AllFollow k subject [] inputs → AreTimed inputs
    → AreElsewhere (0x700 + k.description.node) inputs → AllSendAside k [] inputs → ShowsAll k (of_device k subject) inputs
    → differences_in late_differences (of_device k subject) rows (recording k inputs) ≡ []
of_recording k subject rows [] knows follow time control aside shows = refl
of_recording k subject rows (s ∷ others) knows follow time control aside shows =
    let subj : Subject = of_device k subject in
    let rest : List Recorded = heard_from k [] (s ∷ others) in
    let shown : Progress → Type 0 = λ q. ShowsBy k subj q [] (s ∷ others) in
    let first : ℕ = period_after k [] in
    then_none late_differences subj rows s.micros (boot_up k ∷ []) rest (before_recording subj) (λ q. Beats first s.micros (ago_of first (producer_log k (moments k []))) q × shown q)
    (both producer_key first subj s.micros late_differences rows (boot_up k ∷ []) (before_recording subj) (Beats first s.micros (ago_of first (producer_log k (moments k [])))) shown
    (begins k subject rows s.micros knows) shows)
    (λ q g. all_none k subject rows (s ∷ others) [] s.micros q knows.before refl follow (omega arith, time) control aside g.1 g.0)

-- where each transfer of 1017:00 that ends shows its number, or nothing
pub none_late : (k : Constants) (subject : Subject) (rows : List Row) (inputs : List Stamped) → subject.node ≡ k.description.node → KnowsPeriod (period_after k []) subject → AllFollow k subject [] inputs → AreTimed inputs
    → AreElsewhere (0x700 + k.description.node) inputs → AllSendAside k [] inputs → ShowsAll k (of_device k subject) inputs → differences_in late_differences subject rows (recording k inputs) ≡ []
none_late k subject rows inputs is knows follow time control aside shows =
    subst (λ n. differences_in late_differences (record subject { node = n }) rows (recording k inputs) ≡ []) (sym is)
    (of_recording k subject rows inputs knows follow time control aside shows)

-- ---- where it isn't written, and keeps its number

module _ (k : Constants) (subject : Subject) (period : ℕ) where
  same_follow : (inputs : List Stamped) (before : Inputs) → KnowsPeriod period subject → period_after k before ≡ period → AllKeepPeriod period k before inputs → AllFollow k subject before inputs
  same_follow [] before knows is keep = tt
  same_follow (s ∷ later) before knows is keep =
      let e : period ≡ period_after k (s.input ∷ before) = sym keep.0.number in (
        record { kept = λ w r. keep.0.number ∙ sym is; next = subst (λ n. KnowsBefore n subject) e knows.before; boots = λ r. subst (λ n. KnowsPeriod n subject) e knows },
        same_follow later (s.input ∷ before) knows keep.0.number keep.1,
      )

  shows_by : (inputs : List Stamped) (before : Inputs) (p : Progress) → period_after k before ≡ period → AllKeepPeriod period k before inputs → ShowsFrom producer_key period subject p (heard_from k before inputs)
      → ShowsBy k subject p before inputs
  shows_by [] before p is keep shows = tt
  shows_by (s ∷ later) before p is keep shows =
      let rest : List Recorded = heard_from k (s.input ∷ before) later in
      let next : Progress → Type 0 = λ q. ShowsFrom producer_key period subject q rest in
      let sent : List FrameContent = prescribed k before s.input in
      subst (λ n. AllShow producer_key n subject s.micros p (frame_of s.input)
      (λ q. (is_written k before s.input ≡ true → IsUnknown q)
      × ((is_reset (moment k (moments k before) s.input).mark ≡ true → AllShow producer_key n subject s.micros q sent (λ r. Unit {0}))
      × AllShow producer_key (period_after k (s.input ∷ before)) subject s.micros q sent (λ r. ShowsBy k subject r (s.input ∷ before) later)))) (sym is)
      (mapped_shows producer_key period subject s.micros (frame_of s.input) p (λ q. AllShow producer_key period subject s.micros q sent next) _
      (λ q g. (
        λ on. absurd (false≢true (sym keep.0.unwritten ∙ on)),
        (
          λ reset. mapped_shows producer_key period subject s.micros sent q next (λ r. Unit {0}) (λ r x. tt) g,
          subst (λ n. AllShow producer_key n subject s.micros q sent (λ r. ShowsBy k subject r (s.input ∷ before) later)) (sym keep.0.number)
              (mapped_shows producer_key period subject s.micros sent q next (λ r. ShowsBy k subject r (s.input ∷ before) later) (λ r x. shows_by later (s.input ∷ before) r keep.0.number keep.1 x) g),
        ),
      ))
      (parts producer_key period subject s.micros (frame_of s.input) sent p next
      (at_once producer_key period subject s.micros (frame_of s.input ++ sent) rest p shows)))

  shows_all : (inputs : List Stamped) → period_after k [] ≡ period → AllKeepPeriod period k [] inputs → ShowsFrom producer_key period subject (before_recording subject) (recording k inputs) → ShowsAll k subject inputs
  shows_all [] is keep shows = tt
  shows_all (s ∷ later) is keep shows =
      let rest : List Recorded = heard_from k [] (s ∷ later) in
      subst (λ n. AllShow producer_key n subject s.micros (before_recording subject) (boot_up k ∷ []) (λ q. ShowsBy k subject q [] (s ∷ later))) (sym is)
      (mapped_shows producer_key period subject s.micros (boot_up k ∷ []) (before_recording subject) (λ q. ShowsFrom producer_key period subject q rest) (λ q. ShowsBy k subject q [] (s ∷ later))
      (λ q g. shows_by (s ∷ later) [] q is keep g) (at_once producer_key period subject s.micros (boot_up k ∷ []) rest (before_recording subject) shows))

pub none_unwritten : (k : Constants) (subject : Subject) (rows : List Row) (period : ℕ) (inputs : List Stamped) → subject.node ≡ k.description.node → KnowsPeriod period subject → number_at k.start producer_key ≡ period
    → AllKeepPeriod period k [] inputs → AreTimed inputs → AreElsewhere (0x700 + k.description.node) inputs → AllSendAside k [] inputs
    → ShowsFrom producer_key period (of_device k subject) (before_recording (of_device k subject)) (recording k inputs)
    → differences_in late_differences subject rows (recording k inputs) ≡ []
none_unwritten k subject rows period inputs is knows start keep time control aside shows =
    none_late k subject rows inputs is (subst (λ n. KnowsPeriod n subject) (sym start) knows) (same_follow k subject period inputs [] knows start keep) time control aside
    (shows_all k (of_device k subject) period inputs start keep shows)

pub no_late_heartbeats : (k : Constants) (subject : Subject) (rows : List Row) (period : ℕ) (inputs : List Stamped) → subject.node ≡ k.description.node → KnowsPeriod period subject → number_at k.start producer_key ≡ period
    → AllKeepPeriod period k [] inputs → AreTimed inputs → AreElsewhere (0x700 + k.description.node) inputs → AllSendAside k [] inputs → IsUnnamed producer_key k.description.node (recording k inputs)
    → differences_in late_differences subject rows (recording k inputs) ≡ []
no_late_heartbeats k subject rows period inputs is knows start keep time control aside none =
    none_unwritten k subject rows period inputs is knows start keep time control aside
    (unnamed_shows producer_key period (of_device k subject) (recording k inputs) (before_recording (of_device k subject)) none tt)
