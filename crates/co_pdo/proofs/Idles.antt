-- For how many ticks no TPDO is due.
use Rattle.std.proofs.Common.{◌≡◌, ℕ, zero, suc, ◌+◌, ◌-◌, ◌<◌, ◌≤◌, Bool, true, false, cond, eqb, ltb, leb, List, [], ◌∷◌, length, map, get_or, refl, sym, ap, ◌∙◌, subst, arith}
use Rattle.std.specs.Prelude.{◌&&◌, ◌||◌, max}
use Rattle.std.specs.List.{filter}
use Rattle.std.proofs.Math.Bool.{and-false}
use Rattle.std.proofs.lemmas.Bool.Decides.{nat_tests}
use Rattle.co_dict.specs.Rows.{Contents}
use Rattle.co_dict.specs.Stores.{Description, IsDictionary}
use Rattle.co_profile.specs.TransmissionTypes.{is_event_driven}
use Rattle.co_pdo.specs.declared.settings.Settings.{Settings}
use Rattle.co_pdo.specs.declared.tpdo.Occasion.TheVariants.{Tick}
use Rattle.co_pdo.specs.declared.tpdo.Tpdo.{Tpdo}
use Rattle.co_pdo.specs.declared.places.Places.{Places}
use Rattle.co_pdo.specs.Tpdos.{settings_of, tpdos_of}
use Rattle.co_pdo.specs.Log.{Log, Happened}
use Rattle.co_pdo.specs.Due.{NotDueFor, is_due, is_due_by_event}
use Rattle.co_pdo.specs.Countdowns.{IsAfter, IsCurrent}
use Rattle.co_pdo.specs.Schedules.{AllAfter, AllCurrent, AreNotDueFor, ArePlaces, History, IsScheduleAfter, NoTpdoDueFor, Timetable, all_due, is_tpdo_due, log_of, with_tick}
use Rattle.co_pdo.specs.Steps.{counted_with, wants_with}
use Rattle.co_pdo.proofs.Logs.{after_unsent, due_unwanted}
use Rattle.co_pdo.proofs.Histories.{absent_not_due, due_numbers, timetable}

-- ---- one TPDO

still_current : (s : Settings) (log : Log) → IsCurrent s log → IsCurrent s (Happened Tick s false ∷ log)
still_current s log f = record { started = f.started; timer = f.timer }

-- one tick at which the countdowns don't make it due
one_tick : (t : Tpdo) (log : Log) (s : Settings) → IsAfter t log → IsCurrent s log → wants_with s Tick t ≡ false → is_due s log Tick ≡ false
one_tick t log s h f unwanted = sym (due_unwanted t log s Tick (wants_with s Tick t) h f refl unwanted)

next_tick : (t : Tpdo) (log : Log) (s : Settings) → IsAfter t log → IsCurrent s log → IsAfter (counted_with s Tick t) (Happened Tick s false ∷ log)
next_tick t log s h f = after_unsent t (counted_with s Tick t) log s Tick refl h f

-- while the inhibit time runs
inhibited : (b : Bool) (left : ℕ) → 1 < left → b && eqb (left - 1) 0 ≡ false
inhibited b left lt = let more : eqb (left - 1) 0 ≡ false = grind (arith, nat_tests) in ap (λ (x : Bool). b && x) more ∙ and-false b

pub while_inhibited : (n : ℕ) (t : Tpdo) (log : Log) (s : Settings) → IsAfter t log → IsCurrent s log → n ≤ t.inhibit_left - 1 → NotDueFor s n log
while_inhibited zero t log s h f le = tt
while_inhibited (suc n) t log s h f le =
    let unwanted : wants_with s Tick t ≡ false =
    ap (λ (x : Bool). is_event_driven t.transmission_type.0 && x) (inhibited (t.event_waits || eqb t.timer_left 1) t.inhibit_left (omega arith))
    ∙ and-false (is_event_driven t.transmission_type.0) in (
      one_tick t log s h f unwanted,
      while_inhibited n (counted_with s Tick t) (Happened Tick s false ∷ log) s (next_tick t log s h f) (still_current s log f) (omega arith),
    )

-- before the event of the timer
no_event : (waits driven over : Bool) (left : ℕ) → waits ≡ false → eqb left 1 ≡ false → driven && ((waits || eqb left 1) && over) ≡ false
no_event waits driven over left none away = ap (λ (x : Bool). driven && ((x || eqb left 1) && over)) none ∙ ap (λ (x : Bool). driven && (x && over)) away ∙ and-false driven

pub before_timer : (n : ℕ) (t : Tpdo) (log : Log) (s : Settings) → IsAfter t log → IsCurrent s log → t.event_waits ≡ false → n ≤ t.timer_left - 1 → NotDueFor s n log
before_timer zero t log s h f none le = tt
before_timer (suc n) t log s h f none le =
    let away : eqb t.timer_left 1 ≡ false = grind (arith, nat_tests) in (
      one_tick t log s h f (no_event t.event_waits (is_event_driven t.transmission_type.0) (eqb (t.inhibit_left - 1) 0) t.timer_left none away),
      before_timer n (counted_with s Tick t) (Happened Tick s false ∷ log) s (next_tick t log s h f) (still_current s log f) (ap (λ (x : Bool). x || eqb t.timer_left 1) none ∙ away) (omega arith),
    )

pub without_timer : (n : ℕ) (t : Tpdo) (log : Log) (s : Settings) → IsAfter t log → IsCurrent s log → t.event_waits ≡ false → t.timer_left ≡ 0 → NotDueFor s n log
without_timer zero t log s h f none off = tt
without_timer (suc n) t log s h f none off =
    let away : eqb t.timer_left 1 ≡ false = ap (λ m. eqb m 1) off in (
      one_tick t log s h f (no_event t.event_waits (is_event_driven t.transmission_type.0) (eqb (t.inhibit_left - 1) 0) t.timer_left none away),
      without_timer n (counted_with s Tick t) (Happened Tick s false ∷ log) s (next_tick t log s h f) (still_current s log f) (ap (λ (x : Bool). x || eqb t.timer_left 1) none ∙ away) (ap (λ m. m - 1) off),
    )

-- at the transmission types that no event sends
pub not_driven : (n : ℕ) (t : Tpdo) (log : Log) (s : Settings) → IsAfter t log → IsCurrent s log → is_event_driven t.transmission_type.0 ≡ false → NotDueFor s n log
not_driven zero t log s h f off = tt
not_driven (suc n) t log s h f off = (
  one_tick t log s h f (ap (λ (b : Bool). b && ((t.event_waits || eqb t.timer_left 1) && eqb (t.inhibit_left - 1) 0)) off),
  not_driven n (counted_with s Tick t) (Happened Tick s false ∷ log) s (next_tick t log s h f) (still_current s log f) off,
)

-- the later of the two
pub until_both : (n : ℕ) (t : Tpdo) (log : Log) (s : Settings) → IsAfter t log → IsCurrent s log → t.event_waits ≡ false → n ≤ max t.timer_left t.inhibit_left - 1 → NotDueFor s n log
until_both n t log s h f none le = by (leb t.timer_left t.inhibit_left) refl
  where
    by : (b : Bool) → leb t.timer_left t.inhibit_left ≡ b → NotDueFor s n log
    by true e = while_inhibited n t log s h f (grind (arith, nat_tests))
    by false e = before_timer n t log s h f none (grind (arith, nat_tests))

-- one that isn't active
pub not_active : (n : ℕ) (log : Log) (s : Settings) → s.is_active ≡ false → NotDueFor s n log
not_active zero log s off = tt
not_active (suc n) log s off =
    (ap (λ (b : Bool). b && is_due_by_event s (Happened Tick s false ∷ log)) off, not_active n (Happened Tick s false ∷ log) s off)

-- ---- all TPDOs

-- one more of them isn't
pub one_more : (contents : Contents) (n i : ℕ) (tpdos : List Tpdo) (logs : ℕ → Log) → AreNotDueFor contents n i tpdos logs
    → ((e : Tpdo) → NotDueFor (settings_of contents (get_or tpdos i e).number) n (logs (get_or tpdos i e).number)) → AreNotDueFor contents n (i + 1) tpdos logs
one_more contents n i tpdos logs before here j e lt = by (ltb j i) refl
  where
    by : (b : Bool) → ltb j i ≡ b → NotDueFor (settings_of contents (get_or tpdos j e).number) n (logs (get_or tpdos j e).number)
    by true h = before j e (grind (arith, nat_tests))
    by false h =
        let same : i ≡ j = grind (arith, nat_tests) in
        subst (λ (m : ℕ). NotDueFor (settings_of contents (get_or tpdos m e).number) n (logs (get_or tpdos m e).number)) same (here e)

none_pass : (p : ℕ → Bool) (tpdos : List Tpdo) → ((i : ℕ) (e : Tpdo) → i < length tpdos → p (get_or tpdos i e).number ≡ false) → [] ≡ filter p (map (λ t. t.number) tpdos)
none_pass p [] off = refl
none_pass p (t ∷ tpdos) off =
    none_pass p tpdos (λ i e lt. off (suc i) e (omega arith))
    ∙ sym (ap (λ (b : Bool). cond b (t.number ∷ filter p (map (λ u. u.number) tpdos)) (filter p (map (λ u. u.number) tpdos))) (off 0 t (omega arith)))

module _ (d : Description) (contents : Contents) (tpdos : List Tpdo) (laws : IsDictionary d contents) (numbers : map (λ t. t.number) tpdos ≡ tpdos_of d.rows) where
  none_now : (n : ℕ) (history : History) → AreNotDueFor contents (suc n) (length tpdos) tpdos (λ k. log_of k history) → all_due contents history Tick ≡ []
  none_now n history all =
      sym (due_numbers d (λ k. is_tpdo_due contents history Tick k) tpdos [] (λ k h. absent_not_due d contents history Tick k laws h) numbers
      (none_pass (λ k. is_tpdo_due contents history Tick k) tpdos (λ i e lt. (all i e lt).0)))

  by_tpdos : (n : ℕ) (history : History) → AreNotDueFor contents n (length tpdos) tpdos (λ k. log_of k history) → NoTpdoDueFor contents n history
  by_tpdos zero history all = tt
  by_tpdos (suc n) history all = (none_now n history all, by_tpdos n (with_tick contents [] history) (λ i e lt. (all i e lt).1))

pub no_tpdo_due : (d : Description) (contents : Contents) (tpdos inner : List Tpdo) (places given : List Places) (value : Timetable) (history : History) (n : ℕ)
    → IsDictionary d contents → tpdos ≡ inner → places ≡ given → timetable inner given ≡ value → IsScheduleAfter d value history → AllCurrent contents history
    → (ArePlaces d (map (λ t. t.number) tpdos) places → AllAfter tpdos (λ k. log_of k history) → AreNotDueFor contents n (length tpdos) tpdos (λ k. log_of k history))
    → NoTpdoDueFor contents n history
no_tpdo_due d contents tpdos inner places given value history n laws same placed is stands current all =
    let there : IsScheduleAfter d (timetable inner given) history = subst (λ (v : Timetable). IsScheduleAfter d v history) (sym is) stands in
    let numbers : map (λ t. t.number) tpdos ≡ tpdos_of d.rows = ap (map (λ (t : Tpdo). t.number)) same ∙ there.numbers in
    let at : ArePlaces d (map (λ t. t.number) tpdos) places =
    subst (λ (ns : List ℕ). ArePlaces d ns places) (sym numbers) (subst (λ (ps : List Places). ArePlaces d (tpdos_of d.rows) ps) (sym placed) there.places) in
    let after : AllAfter tpdos (λ k. log_of k history) = subst (λ (ts : List Tpdo). AllAfter ts (λ k. log_of k history)) (sym same) there.countdowns in
    by_tpdos d contents tpdos laws numbers n history (all at after)
