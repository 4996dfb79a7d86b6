-- Which TPDOs are due at an input, by what all inputs were to them.
use Rattle.std.proofs.Common.{◌≡◌, ℕ, ◌+◌, ◌<◌, Bool, true, false, cond, List, [], ◌∷◌, ◌++◌, Option, refl, sym, ap, ◌∙◌, arith}
use Rattle.std.specs.Prelude.{◌==◌, ◌&&◌}
use Rattle.std.specs.List.{filter}
use Rattle.std.proofs.lemmas.Map.Views.{any-filter_same}
use Rattle.co_dict.specs.Rows.{Contents}
use Rattle.co_dict.specs.Stores.{Description}
use Rattle.co_pdo.specs.declared.settings.Settings.{Settings}
use Rattle.co_pdo.specs.declared.tpdo.Occasion.TheVariants as occasion
use Rattle.co_pdo.specs.declared.tpdo.Part.{Part}
use Rattle.co_pdo.specs.declared.tpdo.Part.TheVariants.{Whole, Timer}
use Rattle.co_pdo.specs.Due.{is_inhibit_over, event_waits, timer_ticks, is_due}
use Rattle.co_profile.specs.TransmissionTypes.{is_event_driven}
use Rattle.co_pdo.specs.Log.{Log, Started, Happened}
use Rattle.co_pdo.specs.Schedules.{History as Schedule, log_of, is_among, sync_with, is_tpdo_due}
use Rattle.co_pdo.specs.Tpdos.{is_active, settings_of, tpdo_numbers}
use Rattle.co_node_model.specs.Tpdos.{numbers_asked, schedule_log, due_at, with_turn}
use Rattle.co_node_model.specs.Inputs.{InputView, Inputs, Ticked}
use Rattle.co_node_model.specs.declared.mark.Asked.{Asked as AskedFor}
use Rattle.co_node_model.specs.declared.turn.Turn.{Turn}
use Rattle.co_node_model.specs.declared.turn.Turn.TheVariants.{Quiet, StartAll, Start, Sync, Asked, Tick}
use Rattle.co_node_model.specs.Moments.{Constants}
use Rattle.co_node_model.specs.Device.{moments, contents_of}
use Rattle.co_node_laws.specs.Calls.{is_asked}
use Rattle.co_node_laws.specs.Distances.{moment_at}
use Rattle.co_node_laws.specs.TpdoDistances.{turn_of_input, is_sent, turn_log, tpdo_log, timer_after, ticks_of_timer}
use Rattle.co_node_laws.proofs.LossDistances.{same, among_range}

-- ---- the log of a TPDO

log_with : (d : Description) (n : ℕ) (t : Turn) (c : Contents) (due : List ℕ) (history : Schedule) → log_of n (with_turn d t c due history) ≡ turn_log d n t c due ++ log_of n history
log_with d n Quiet c due history = refl
log_with d n StartAll c due history = refl
log_with d n (Start j part) c due history = refl
log_with d n (Sync counter) c due history = refl
log_with d n (Asked asked) c due history = refl
log_with d n Tick c due history = refl

log_is : (k : Constants) (n : ℕ) (inputs : Inputs) → log_of n (schedule_log k (moments k inputs)) ≡ tpdo_log k n inputs
log_is k n [] = refl
log_is k n (input ∷ inputs) =
    let m = moment_at k inputs input in
    let t = turn_of_input k inputs input in
    log_with k.description n t m.contents m.due (schedule_log k (moments k inputs))
    ∙ ap (λ log. turn_log k.description n t m.contents m.due ++ log) (log_is k n inputs)

-- ---- which are due

right_true : (b : Bool) → b && true ≡ b
right_true true = refl
right_true false = refl

among_numbers : (n : ℕ) → n < 512 → is_among n tpdo_numbers ≡ true
unfolding tpdo_numbers
among_numbers n less = among_range 0 512 n (omega arith) (omega (arith, less))

among_filter : (p : ℕ → Bool) (n : ℕ) → n < 512 → is_among n (filter p tpdo_numbers) ≡ p n
among_filter p n less =
    any-filter_same (λ m. m == n) p (p n) (λ m e. ap p (same m n e)) tpdo_numbers
    ∙ ap (λ b. p n && b) (among_numbers n less)
    ∙ right_true (p n)

due_is : (k : Constants) (inputs : Inputs) (input : InputView) (t : Turn) → turn_of_input k inputs input ≡ t → (moment_at k inputs input).due ≡ due_at k.description t (contents_of k (input ∷ inputs)) (schedule_log k (moments k inputs))
due_is k inputs input t is = ap (λ turn. due_at k.description turn (contents_of k (input ∷ inputs)) (schedule_log k (moments k inputs))) is

pub at_sync : (k : Constants) (n : ℕ) (inputs : Inputs) (input : InputView) (counter : Option ℕ) → n < 512 → turn_of_input k inputs input ≡ Sync counter
    → is_sent k n inputs input ≡ is_due (settings_of (contents_of k (input ∷ inputs)) n) (tpdo_log k n inputs) (sync_with counter (contents_of k (input ∷ inputs)))
at_sync k n inputs input counter less is =
    let c = contents_of k (input ∷ inputs) in
    let history = schedule_log k (moments k inputs) in
    ap (is_among n) (due_is k inputs input (Sync counter) is)
    ∙ among_filter (λ j. is_tpdo_due c history (sync_with counter c) j) n less
    ∙ ap (λ log. is_due (settings_of c n) log (sync_with counter c)) (log_is k n inputs)

pub at_tick : (k : Constants) (n : ℕ) (inputs : Inputs) (input : InputView) → n < 512 → turn_of_input k inputs input ≡ Tick
    → is_sent k n inputs input ≡ is_due (settings_of (contents_of k (input ∷ inputs)) n) (tpdo_log k n inputs) occasion.Tick
at_tick k n inputs input less is =
    let c = contents_of k (input ∷ inputs) in
    let history = schedule_log k (moments k inputs) in
    ap (is_among n) (due_is k inputs input Tick is)
    ∙ among_filter (λ j. is_tpdo_due c history occasion.Tick j) n less
    ∙ ap (λ log. is_due (settings_of c n) log occasion.Tick) (log_is k n inputs)

pub at_event : (k : Constants) (n : ℕ) (inputs : Inputs) (input : InputView) (asked : AskedFor) → n < 512 → turn_of_input k inputs input ≡ Asked asked
    → is_sent k n inputs input ≡ is_among n (numbers_asked k.description (contents_of k (input ∷ inputs)) asked) && is_due (settings_of (contents_of k (input ∷ inputs)) n) (tpdo_log k n inputs) occasion.Event
at_event k n inputs input asked less is =
    let c = contents_of k (input ∷ inputs) in
    let history = schedule_log k (moments k inputs) in
    let numbers = numbers_asked k.description c asked in
    ap (is_among n) (due_is k inputs input (Asked asked) is)
    ∙ among_filter (λ j. is_among j numbers && is_tpdo_due c history occasion.Event j) n less
    ∙ ap (λ log. is_among n numbers && is_due (settings_of c n) log occasion.Event) (log_is k n inputs)

none_by : (d : Description) (t : Turn) (c : Contents) (history : Schedule) → is_asked t ≡ false → due_at d t c history ≡ []
none_by d Quiet c history off = refl
none_by d StartAll c history off = refl
none_by d (Start n part) c history off = refl
none_by d (Sync counter) c history off = absurd (cc)
none_by d (Asked asked) c history off = absurd (cc)
none_by d Tick c history off = absurd (cc)

pub elsewhere : (k : Constants) (inputs : Inputs) (input : InputView) → is_asked (turn_of_input k inputs input) ≡ false → (moment_at k inputs input).due ≡ []
elsewhere k inputs input off = none_by k.description (turn_of_input k inputs input) (contents_of k (input ∷ inputs)) (schedule_log k (moments k inputs)) off

-- ---- the event timer

started : (part : Part) (s : Settings) (log : Log) → timer_ticks (Started part s ∷ log) ≡ 0
started Whole s log = refl
started Timer s log = refl

-- a TPDO that an event isn't on isn't sent at it
timer_asked : (there sent : Bool) (s : Settings) (log : Log) → (sent ≡ true → there ≡ true) → timer_ticks (cond there (Happened occasion.Event s sent ∷ []) [] ++ log) ≡ cond sent 0 (timer_ticks log)
timer_asked true sent s log only = refl
timer_asked false true s log only = absurd (let no : false ≡ true = only refl in cc)
timer_asked false false s log only = refl

timer_started : (here : Bool) (part : Part) (s : Settings) (log : Log) → timer_ticks (cond here (Started part s ∷ []) [] ++ log) ≡ cond here 0 (timer_ticks log)
timer_started true part s log = started part s log
timer_started false part s log = refl

timer_with : (d : Description) (n : ℕ) (t : Turn) (c : Contents) (due : List ℕ) (log : Log) → ((asked : AskedFor) → t ≡ Asked asked → is_among n due ≡ true → is_among n (numbers_asked d c asked) ≡ true)
    → timer_ticks (turn_log d n t c due ++ log) ≡ timer_after n t (is_among n due) (timer_ticks log)
timer_with d n Quiet c due log only = refl
timer_with d n StartAll c due log only = refl
timer_with d n (Start j part) c due log only = timer_started (j == n) part (settings_of c n) log
timer_with d n (Sync counter) c due log only = refl
timer_with d n (Asked asked) c due log only = timer_asked (is_among n (numbers_asked d c asked)) (is_among n due) (settings_of c n) log (only asked refl)
timer_with d n Tick c due log only = refl

first_of_both : (a b : Bool) → a && b ≡ true → a ≡ true
first_of_both true b e = refl
first_of_both false b e = absurd (cc)

timer_is : (k : Constants) (n : ℕ) (inputs : Inputs) → n < 512 → timer_ticks (tpdo_log k n inputs) ≡ ticks_of_timer k n inputs
timer_is k n [] less = refl
timer_is k n (input ∷ inputs) less =
    let m = moment_at k inputs input in
    let t = turn_of_input k inputs input in
    timer_with k.description n t m.contents m.due (tpdo_log k n inputs)
    (λ asked is sent. first_of_both (is_among n (numbers_asked k.description m.contents asked)) _ (sym (at_event k n inputs input asked less is) ∙ sent))
    ∙ ap (λ ticks. timer_after n t (is_among n m.due) ticks) (timer_is k n inputs less)

by_timer : (s : Settings) (log : Log) → s.is_active ≡ true → is_event_driven s.transmission_type.0 ≡ true → event_waits log ≡ false → is_inhibit_over s.inhibit_time (Happened occasion.Tick s false ∷ log) ≡ true
    → is_due s log occasion.Tick ≡ (timer_ticks log + 1 == s.event_timer)
by_timer s log active kind waits over = rw (active, kind, waits, over) (right_true (timer_ticks log + 1 == s.event_timer))

pub at_timer : (k : Constants) (n : ℕ) (inputs : Inputs) → n < 512 → turn_of_input k inputs Ticked ≡ Tick
    → is_active (contents_of k (Ticked ∷ inputs)) n ≡ true
    → is_event_driven (settings_of (contents_of k (Ticked ∷ inputs)) n).transmission_type.0 ≡ true
    → event_waits (tpdo_log k n inputs) ≡ false
    → is_inhibit_over (settings_of (contents_of k (Ticked ∷ inputs)) n).inhibit_time (Happened occasion.Tick (settings_of (contents_of k (Ticked ∷ inputs)) n) false ∷ tpdo_log k n inputs) ≡ true
    → is_sent k n inputs Ticked ≡ (ticks_of_timer k n inputs + 1 == (settings_of (contents_of k (Ticked ∷ inputs)) n).event_timer)
at_timer k n inputs less is active kind waits over =
    let s = settings_of (contents_of k (Ticked ∷ inputs)) n in
    at_tick k n inputs Ticked less is
    ∙ by_timer s (tpdo_log k n inputs) active kind waits over
    ∙ ap (λ ticks. ticks + 1 == s.event_timer) (timer_is k n inputs less)
