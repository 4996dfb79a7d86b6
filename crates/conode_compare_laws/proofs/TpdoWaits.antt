-- How long an event-driven TPDO that is active isn't sent: no longer than its event timer, or than its inhibit time where that is longer.
use Rattle.std.proofs.Common.{◌≡◌, ℕ, ◌+◌, ◌<◌, ◌≤◌, Bool, true, false, List, [], ◌∷◌, ◌++◌, map, Option, refl, ap, sym, ◌∙◌, subst, arith, ◌⊎◌, inl, inr}
use Rattle.std.specs.Prelude.{if◌then◌else◌, ◌==◌, ◌&&◌, ◌||◌, nat_le}
use Rattle.std.specs.List.{AllByRecursion, list_all}
use Rattle.std.proofs.lemmas.Bool.{and_parts, eqb-true, le-leb, leb-true, or_parts}
use Rattle.std.proofs.lemmas.Bool.Decides.{nat_tests}
use Rattle.co_frame.specs.InhibitTimes.{has_elapsed, in_ms}
use Rattle.co_profile.specs.TransmissionTypes.{is_event_driven}
use Rattle.co_pdo.specs.declared.settings.Settings.{Settings}
use Rattle.co_pdo.specs.declared.tpdo.Occasion.{Occasion}
use Rattle.co_pdo.specs.declared.tpdo.Occasion.TheVariants as occasion
use Rattle.co_pdo.specs.Due.{event_waits, is_due, is_due_by_event, is_inhibit_over, is_timer_event, sendings, timer_ticks}
use Rattle.co_pdo.specs.Log.{Happened, Log}
use Rattle.co_pdo.specs.Schedules.{is_among, sync_with}
use Rattle.co_pdo.specs.Tpdos.{is_active, settings_of}
use Rattle.co_node_model.specs.declared.turn.Turn.{Turn}
use Rattle.co_node_model.specs.declared.turn.Turn.TheVariants as turn
use Rattle.co_node_model.specs.Device.{moment, moments}
use Rattle.co_node_model.specs.Inputs.{InputView, Inputs}
use Rattle.co_node_model.specs.Moments.{Constants, Moment}
use Rattle.co_node_model.specs.Tpdos.{numbers_asked, turn_at}
use Rattle.co_node_laws.specs.TpdoDistances.{tpdo_log, turn_log}
use Rattle.co_node_laws.proofs.TpdoDistances as distances
use Rattle.conode_compare_laws.specs.TpdoParameters.{KeepsTpdos}
use Rattle.conode_compare_laws.proofs.TpdoDue.{active_kept, tpdo_number}
use Rattle.conode_compare_laws.proofs.TpdoLogs.{ages_then, is_start, no_start, sync_off}

-- ---- the sendings in a log

-- since the newest one its event timer counts; those before it are longer ago; while an event waits, the inhibit time isn't over, and
-- else the timer hasn't elapsed
pub record IsWaiting (s : Settings) (log : Log) (age : ℕ) (older : List ℕ) : Type 0 where
  pub ticks : timer_ticks log ≡ age
  pub sorted : AllByRecursion (λ n. age ≤ n) older
  pub held : event_waits log ≡ true → age < in_ms s.inhibit_time
  pub free : event_waits log ≡ false → (s.event_timer ≡ 0) ⊎ (age < s.event_timer)

abbrev pub IsPrompt : Settings → Log → List ℕ → Type 0
IsPrompt s log [] = Unit {0}
IsPrompt s log (age ∷ older) = IsWaiting s log age older

-- an event-driven TPDO that is active
pub record IsLive (s : Settings) : Type 0 where
  pub active : s.is_active ≡ true
  pub driven : is_event_driven s.transmission_type.0 ≡ true

-- ---- whether the inhibit time is over

all_elapsed : (inhibit age : ℕ) (older : List ℕ) → in_ms inhibit ≤ age → AllByRecursion (λ n. age ≤ n) older → list_all (λ n. has_elapsed inhibit n) older ≡ true
all_elapsed inhibit age [] less sorted = refl
all_elapsed inhibit age (n ∷ older) less sorted =
    let low : age ≤ n = sorted.0 in
    ap (λ b. b && list_all (λ x. has_elapsed inhibit x) older) (le-leb (in_ms inhibit) n (omega arith)) ∙ all_elapsed inhibit age older less sorted.1

not_over : (inhibit age : ℕ) (older : List ℕ) → AllByRecursion (λ n. age ≤ n) older → list_all (λ n. has_elapsed inhibit n) (age ∷ older) ≡ false → age < in_ms inhibit
not_over inhibit age older sorted off = by (nat_le (in_ms inhibit) age) refl
  where
    by : (b : Bool) → nat_le (in_ms inhibit) age ≡ b → age < in_ms inhibit
    by false is = grind (arith, nat_tests)
    by true is =
        let on : list_all (λ n. has_elapsed inhibit n) (age ∷ older) ≡ true =
        ap (λ b. b && list_all (λ n. has_elapsed inhibit n) older) is ∙ all_elapsed inhibit age older (leb-true (in_ms inhibit) age is) sorted in
        absurd (cc)

-- ---- one more tick

sorted_later : (age : ℕ) (older : List ℕ) → AllByRecursion (λ n. age ≤ n) older → AllByRecursion (λ n. age + 1 ≤ n) (map (λ n. n + 1) older)
sorted_later age [] h = tt
sorted_later age (n ∷ older) h = (let low : age ≤ n = h.0 in omega arith, sorted_later age older h.1)

all_from_0 : (numbers : List ℕ) → AllByRecursion (λ n. 0 ≤ n) numbers
all_from_0 [] = tt
all_from_0 (n ∷ numbers) = (omega arith, all_from_0 numbers)

timer_left : (timer : ℕ) → (timer ≡ 0) ⊎ (0 < timer)
timer_left timer = by (timer == 0) refl
  where
    by : (b : Bool) → (timer == 0) ≡ b → (timer ≡ 0) ⊎ (0 < timer)
    by true is = inl (eqb-true timer 0 is)
    by false is = inr (grind (arith, nat_tests))

just_sent : (s : Settings) (log : Log) (older : List ℕ) → timer_ticks log ≡ 0 → event_waits log ≡ false → IsPrompt s log (0 ∷ older)
just_sent s log older ticks waits = record { ticks = ticks; sorted = all_from_0 older; held = λ on. absurd (cc); free = λ off. timer_left s.event_timer }

-- a live TPDO is due by its event alone
live_due : (s : Settings) (log : Log) → IsLive s → (s.is_active && is_due_by_event s log) ≡ (event_waits log && is_inhibit_over s.inhibit_time log)
live_due s log live = rw (live.active, live.driven) refl

driven_kind : (kind : ℕ) → is_event_driven kind ≡ true → nat_le 254 kind ≡ true
driven_kind kind on = grind (arith, nat_tests)

live_sync : (s : Settings) (log : Log) (overflow : ℕ) (counter : Option ℕ) → IsLive s → is_due s log (occasion.Sync overflow counter) ≡ false
live_sync s log overflow counter live =
    ap (λ b. s.is_active && b) (sync_off s.transmission_type.0 log (Happened (occasion.Sync overflow counter) s false) (driven_kind s.transmission_type.0 live.driven)) ∙ last_off s.is_active
  where
    last_off : (b : Bool) → (b && false) ≡ false
    last_off true = refl
    last_off false = refl

-- ---- after one more entry of the log

tick_off : (s : Settings) (log : Log) (age : ℕ) (older : List ℕ) → IsLive s → sendings log ≡ age ∷ older → IsWaiting s log age older → is_due s log occasion.Tick ≡ false
    → IsPrompt s (Happened occasion.Tick s false ∷ log) ((age + 1) ∷ map (λ n. n + 1) older)
tick_off s log age older live is h off = record {
  ticks = ap (λ n. n + 1) h.ticks;
  sorted = sorted_later age older h.sorted;
  held = λ waits. not_over s.inhibit_time (age + 1) (map (λ n. n + 1) older) (sorted_later age older h.sorted) (over waits);
  free = λ none. elim (h.free (or_parts (event_waits log) (is_timer_event s.event_timer log) none).0) [
    | inl zero ↦ inl zero
    | inr less ↦ inr (let apart : (timer_ticks log + 1 == s.event_timer) ≡ false = (or_parts (event_waits log) (is_timer_event s.event_timer log) none).1 in
        let other : (age + 1 == s.event_timer) ≡ false = ap (λ n. n + 1 == s.event_timer) (sym h.ticks) ∙ apart in
        grind (arith, nat_tests))
  ];
}
  where
    later : Log
    later = Happened occasion.Tick s false ∷ log

    over : event_waits later ≡ true → list_all (λ n. has_elapsed s.inhibit_time n) ((age + 1) ∷ map (λ n. n + 1) older) ≡ false
    over waits =
        let due : (event_waits later && is_inhibit_over s.inhibit_time later) ≡ false = sym (live_due s later live) ∙ off in
        let left : is_inhibit_over s.inhibit_time later ≡ false = sym (ap (λ b. b && is_inhibit_over s.inhibit_time later) waits) ∙ due in
        sym (ap (λ l. list_all (λ n. has_elapsed s.inhibit_time n) (map (λ n. n + 1) l)) is) ∙ left

event_off : (s : Settings) (log : Log) (age : ℕ) (older : List ℕ) → IsLive s → sendings log ≡ age ∷ older → IsWaiting s log age older → is_due s log occasion.Event ≡ false
    → IsPrompt s (Happened occasion.Event s false ∷ log) (age ∷ older)
event_off s log age older live is h off = record {
  ticks = h.ticks;
  sorted = h.sorted;
  held = λ waits. not_over s.inhibit_time age older h.sorted over;
  free = λ none. absurd (cc);
}
  where
    later : Log
    later = Happened occasion.Event s false ∷ log

    over : list_all (λ n. has_elapsed s.inhibit_time n) (age ∷ older) ≡ false
    over =
        let left : is_inhibit_over s.inhibit_time later ≡ false = sym (live_due s later live) ∙ off in
        sym (ap (λ l. list_all (λ n. has_elapsed s.inhibit_time n) l) is) ∙ left

-- ---- a live TPDO that is sent: not later than its times have it

abbrev pub IsInTime : Settings → List ℕ → Type 0
IsInTime s [] = Unit {0}
IsInTime s (age ∷ older) = (s.event_timer ≡ 0) ⊎ ((age ≤ s.event_timer) ⊎ (age ≤ in_ms s.inhibit_time))

tick_in_time : (s : Settings) (log : Log) (age : ℕ) (older : List ℕ) → IsLive s → IsWaiting s log age older → is_due s log occasion.Tick ≡ true → IsInTime s ((age + 1) ∷ map (λ n. n + 1) older)
tick_in_time s log age older live h on = by (event_waits log) refl
  where
    later : Log
    later = Happened occasion.Tick s false ∷ log

    waits : event_waits later ≡ true
    waits = (and_parts (event_waits later) (is_inhibit_over s.inhibit_time later) (sym (live_due s later live) ∙ on)).0

    by : (b : Bool) → event_waits log ≡ b → IsInTime s ((age + 1) ∷ map (λ n. n + 1) older)
    by true is = inr (inr (let less : age < in_ms s.inhibit_time = h.held is in omega arith))
    by false is =
        let now : (timer_ticks log + 1 == s.event_timer) ≡ true = sym (ap (λ b. b || (timer_ticks log + 1 == s.event_timer)) is) ∙ waits in
        let same : age + 1 ≡ s.event_timer = ap (λ n. n + 1) (sym h.ticks) ∙ eqb-true (timer_ticks log + 1) s.event_timer now in
        inr (inl (omega arith))

event_in_time : (s : Settings) (log : Log) (age : ℕ) (older : List ℕ) → IsWaiting s log age older → IsInTime s (age ∷ older)
event_in_time s log age older h = by (event_waits log) refl
  where
    by : (b : Bool) → event_waits log ≡ b → IsInTime s (age ∷ older)
    by true is = inr (inr (let less : age < in_ms s.inhibit_time = h.held is in omega arith))
    by false is = elim (h.free is) [
      | inl zero ↦ inl zero
      | inr less ↦ inr (inl (omega arith))
    ]

sent_in_time : (s : Settings) (log : Log) (o : Occasion) (ages : List ℕ) → IsLive s → sendings log ≡ ages → IsPrompt s log ages → is_due s log o ≡ true → IsInTime s (ages_then o ages)
sent_in_time s log (occasion.Sync overflow counter) ages live is h on = absurd (let off : is_due s log (occasion.Sync overflow counter) ≡ false = live_sync s log overflow counter live in cc)
sent_in_time s log occasion.Event [] live is h on = tt
sent_in_time s log occasion.Event (age ∷ older) live is h on = event_in_time s log age older h
sent_in_time s log occasion.Tick [] live is h on = tt
sent_in_time s log occasion.Tick (age ∷ older) live is h on = tick_in_time s log age older live h on

pub in_time : (s : Settings) (log : Log) (o : Occasion) → IsLive s → IsPrompt s log (sendings log) → is_due s log o ≡ true → IsInTime s (ages_then o (sendings log))
in_time s log o live h on = sent_in_time s log o (sendings log) live refl h on

-- ---- after one more occasion, at which it is sent where it is due

happened : (s : Settings) (log : Log) (o : Occasion) (sent : Bool) (ages : List ℕ) → IsLive s → sendings log ≡ ages → IsPrompt s log ages → sent ≡ is_due s log o → IsPrompt s (Happened o s sent ∷ log) (if sent then 0 ∷ ages_then o ages else ages_then o ages)
happened s log (occasion.Sync overflow counter) true ages live is h same = absurd (let off : is_due s log (occasion.Sync overflow counter) ≡ false = live_sync s log overflow counter live in cc)
happened s log (occasion.Sync overflow counter) false [] live is h same = tt
happened s log (occasion.Sync overflow counter) false (age ∷ older) live is h same = record { ticks = h.ticks; sorted = h.sorted; held = h.held; free = h.free }
happened s log occasion.Event true ages live is h same = just_sent s (Happened occasion.Event s true ∷ log) ages refl refl
happened s log occasion.Event false [] live is h same = tt
happened s log occasion.Event false (age ∷ older) live is h same = event_off s log age older live is h (sym same)
happened s log occasion.Tick true ages live is h same = just_sent s (Happened occasion.Tick s true ∷ log) (map (λ n. n + 1) ages) refl refl
happened s log occasion.Tick false [] live is h same = tt
happened s log occasion.Tick false (age ∷ older) live is h same = tick_off s log age older live is h (sym same)

happened_sendings : (s : Settings) (log : Log) (o : Occasion) (sent : Bool) → sendings (Happened o s sent ∷ log) ≡ (if sent then 0 ∷ ages_then o (sendings log) else ages_then o (sendings log))
happened_sendings s log (occasion.Sync overflow counter) sent = refl
happened_sendings s log occasion.Event sent = refl
happened_sendings s log occasion.Tick sent = refl

next : (s : Settings) (log : Log) (o : Occasion) (sent : Bool) → IsLive s → IsPrompt s log (sendings log) → sent ≡ is_due s log o → IsPrompt s (Happened o s sent ∷ log) (sendings (Happened o s sent ∷ log))
next s log o sent live h same = subst (IsPrompt s (Happened o s sent ∷ log)) (sym (happened_sendings s log o sent)) (happened s log o sent (sendings log) live refl h same)

-- ---- an input

-- its settings stay as the device was built with
pub settings_kept : (k : Constants) (m : Moment) (n : ℕ) → KeepsTpdos k m → n < 512 → settings_of m.contents n ≡ settings_of k.start n
settings_kept k m n keeps less =
    by (is_active m.contents n) (is_active k.start n) _ _ _ _ _ _ _ _ (active_kept k m n keeps less) (tpdo_number k m n 2 keeps less) (tpdo_number k m n 3 keeps less) (tpdo_number k m n 5 keeps less) (tpdo_number k m n 6 keeps less)
  where
    made : Bool → ℕ → ℕ → ℕ → ℕ → Settings
    made a t i e v = record { is_active = a; transmission_type = record { 0 = t }; inhibit_time = i; event_timer = e; start_value = v }

    by : (a b : Bool) (t u i j e f v w : ℕ) → a ≡ b → t ≡ u → i ≡ j → e ≡ f → v ≡ w → made a t i e v ≡ made b u j f w
    by a b t u i j e f v w p q r s x = ap (λ y. made y t i e v) p ∙ ap (λ y. made b y i e v) q ∙ ap (λ y. made b u y e v) r ∙ ap (λ y. made b u j y v) s ∙ ap (λ y. made b u j f y) x

turn_next : (k : Constants) (n : ℕ) (before : Inputs) (input : InputView) (t : Turn) → n < 512 → turn_at (moment k (moments k before) input) (moments k before) ≡ t → is_start t ≡ false
    → settings_of (moment k (moments k before) input).contents n ≡ settings_of k.start n → IsLive (settings_of k.start n) → IsPrompt (settings_of k.start n) (tpdo_log k n before) (sendings (tpdo_log k n before))
    → IsPrompt (settings_of k.start n) (turn_log k.description n t (moment k (moments k before) input).contents (moment k (moments k before) input).due ++ tpdo_log k n before)
    (sendings (turn_log k.description n t (moment k (moments k before) input).contents (moment k (moments k before) input).due ++ tpdo_log k n before))
turn_next k n before input turn.Quiet less is off same live h = h
turn_next k n before input turn.StartAll less is off same live h = tt
turn_next k n before input (turn.Start j part) less is off same live h = absurd (cc)
turn_next k n before input (turn.Sync counter) less is off same live h =
    let m : Moment = moment k (moments k before) input in
    let s : Settings = settings_of k.start n in
    let log : Log = tpdo_log k n before in
    let o : Occasion = sync_with counter m.contents in
    subst (λ x. IsPrompt s (Happened o x (is_among n m.due) ∷ log) (sendings (Happened o x (is_among n m.due) ∷ log))) (sym same)
    (next s log o (is_among n m.due) live h (distances.at_sync k n before input counter less is ∙ ap (λ x. is_due x log o) same))
turn_next k n before input (turn.Asked asked) less is off same live h =
    let m : Moment = moment k (moments k before) input in
    let s : Settings = settings_of k.start n in
    let log : Log = tpdo_log k n before in
    asked_next s (settings_of m.contents n) log (is_among n (numbers_asked k.description m.contents asked)) (is_among n m.due) same live h (distances.at_event k n before input asked less is)
  where
    asked_next : (s now : Settings) (log : Log) (there sent : Bool) → now ≡ s → IsLive s → IsPrompt s log (sendings log) → sent ≡ (there && is_due now log occasion.Event)
        → IsPrompt s ((if there then Happened occasion.Event now sent ∷ [] else []) ++ log) (sendings ((if there then Happened occasion.Event now sent ∷ [] else []) ++ log))
    asked_next s now log false sent e l p d = p
    asked_next s now log true sent e l p d =
        subst (λ x. IsPrompt s (Happened occasion.Event x sent ∷ log) (sendings (Happened occasion.Event x sent ∷ log))) (sym e) (next s log occasion.Event sent l p (d ∙ ap (λ x. is_due x log occasion.Event) e))
turn_next k n before input turn.Tick less is off same live h =
    let m : Moment = moment k (moments k before) input in
    let s : Settings = settings_of k.start n in
    let log : Log = tpdo_log k n before in
    subst (λ x. IsPrompt s (Happened occasion.Tick x (is_among n m.due) ∷ log) (sendings (Happened occasion.Tick x (is_among n m.due) ∷ log))) (sym same)
    (next s log occasion.Tick (is_among n m.due) live h (distances.at_tick k n before input less is ∙ ap (λ x. is_due x log occasion.Tick) same))

pub prompt_next : (k : Constants) (n : ℕ) (before : Inputs) (input : InputView) → n < 512 → KeepsTpdos k (moment k (moments k before) input) → IsLive (settings_of k.start n)
    → IsPrompt (settings_of k.start n) (tpdo_log k n before) (sendings (tpdo_log k n before)) → IsPrompt (settings_of k.start n) (tpdo_log k n (input ∷ before)) (sendings (tpdo_log k n (input ∷ before)))
prompt_next k n before input less keeps live h =
    let m : Moment = moment k (moments k before) input in
    turn_next k n before input (turn_at m (moments k before)) less refl (no_start k m (moments k before) keeps) (settings_kept k m n keeps less) live h
