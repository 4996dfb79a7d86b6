-- For how many ticks nothing is due, by what is left of the countdowns.
use Rattle.std.proofs.Common.{◌≡◌, ℕ, zero, suc, ◌+◌, ◌-◌, ◌<◌, ◌≤◌, Bool, true, false, cond, eqb, List, [], ◌∷◌, length, refl, sym, ap, ◌∙◌, subst, arith}
use Rattle.std.specs.Prelude.{◌%◌, ◌==◌, ◌&&◌, nat_lt, slice_get, Option, Some, None}
use Rattle.std.proofs.lemmas.Bool.Decides.{nat_tests}
use Rattle.co_frame.specs.declared.emergency.Emergency.{Emergency}
use Rattle.co_node_parts.specs.declared.emergencies.EmergencyEvent.TheVariants as emergencies
use Rattle.co_node_parts.specs.declared.heartbeat_consumer.Monitored.{Monitored}
use Rattle.co_node_parts.specs.declared.heartbeat_consumer.ConsumerEvent.TheVariants as one
use Rattle.co_node_parts.specs.declared.heartbeat_consumers.ConsumersEvent.TheVariants as consumers
use Rattle.co_node_parts.specs.declared.heartbeat_producer.ProducerEvent.TheVariants.{Tick}
use Rattle.co_node_parts.specs.Producers.{Producer, ProducerLog, ProducerStands, NoneDueFor, period_of, ticks}
use Rattle.co_node_parts.specs.Consumers.{ConsumerLog, NotLostFor, is_lost, is_over_after, later, monitored_after, silence, time_left}
use Rattle.co_node_parts.specs.ConsumerTables.{AreKeptFor, ConsumersLog, NoneLostFor, Noted, entry_log, entry_subs, lost_at}
use Rattle.co_node_parts.specs.EmergencyQueues.{EmergencyLog, NoneSentFor, inhibit_left, is_inhibit_over, queue_of, sendings}
use Rattle.co_node_parts.specs.EmergencyQueues.{Noted as Happened}
use Rattle.co_node_parts.proofs.Countdowns.{not_due, stands_running}
use Rattle.co_node_parts.proofs.Entries.{lost_none}
use Rattle.co_node_parts.proofs.Sendings.{left_older, none_while_left}

-- ---- the heartbeat producer

pub none_due : (n : ℕ) (p : Producer) (log : ProducerLog) → ProducerStands p log → n ≤ p.left - 1 → NoneDueFor n log
none_due zero p log s le = tt
none_due (suc n) p log s le =
    let lt : 1 < p.left = omega arith in
    (sym (not_due p log s lt), none_due n (record { period = p.period; left = p.left - 1 }) (Tick ∷ log) (stands_running p log s lt) (omega arith))

pub never_due : (n : ℕ) (log : ProducerLog) → period_of log ≡ 0 → NoneDueFor n log
never_due zero log off = tt
never_due (suc n) log off = (ap (λ k. nat_lt 0 k && (ticks log + 1) % k == 0) off, never_due n (Tick ∷ log) off)

-- ---- emergencies

pub none_sent : (may : Bool) (n : ℕ) (log : EmergencyLog) (left : ℕ) → left ≡ inhibit_left (sendings log) → n ≤ left - 1 → NoneSentFor may n log
none_sent may zero log left is le = tt
none_sent may (suc n) log left is le =
    let next : left - 1 ≡ inhibit_left (sendings (Happened emergencies.Tick ∷ log)) = ap (λ m. m - 1) is ∙ left_older (sendings log) in
    (sym (none_while_left may (Happened emergencies.Tick ∷ log) (left - 1) next (omega arith)), none_sent may n (Happened emergencies.Tick ∷ log) (left - 1) next (omega arith))

pub never_sent : (may : Bool) (n : ℕ) (log : EmergencyLog) → may ≡ false → NoneSentFor may n log
never_sent may zero log not = tt
never_sent may (suc n) log not =
    (ap (λ (b : Bool). cond (b && is_inhibit_over (Happened emergencies.Tick ∷ log)) (slice_get (queue_of log) 0) None) not, never_sent may n (Happened emergencies.Tick ∷ log) not)

pub no_items : (es : List Emergency) → eqb (length es) 0 ≡ true → es ≡ []
no_items [] e = refl
no_items (emergency ∷ es) e = let none : length (emergency ∷ es) ≡ 0 = grind (arith, nat_tests) in absurd (omega (arith, none))

pub none_waits : (may : Bool) (n : ℕ) (log : EmergencyLog) → queue_of log ≡ [] → NoneSentFor may n log
none_waits may zero log empty = tt
none_waits may (suc n) log empty = (by (may && is_inhibit_over (Happened emergencies.Tick ∷ log)), none_waits may n (Happened emergencies.Tick ∷ log) empty)
  where
    by : (b : Bool) → cond b (slice_get (queue_of log) 0) None ≡ None
    by true = ap (λ (es : List Emergency). slice_get es 0) empty
    by false = refl

-- ---- one entry of 1016h

over_is : (o : Option ℕ) (m : Option Monitored) → is_over_after o m ≡ eqb (time_left o m) 1
over_is None m = refl
over_is (Some n) None = refl
over_is (Some n) (Some m) = grind (arith, nat_tests)

left_later : (o : Option ℕ) (m : Option Monitored) → time_left (later o) m ≡ time_left o m - 1
left_later None m = refl
left_later (Some n) None = refl
left_later (Some n) (Some m) = omega arith

pub not_lost : (n : ℕ) (log : ConsumerLog) (left : ℕ) → left ≡ time_left (silence log) (monitored_after log) → n ≤ left - 1 → NotLostFor n log
not_lost zero log left is le = tt
not_lost (suc n) log left is le =
    let more : eqb left 1 ≡ false = grind (arith, nat_tests) in (
      over_is (silence log) (monitored_after log) ∙ ap (λ m. eqb m 1) (sym is) ∙ more,
      not_lost n (one.Tick ∷ log) (left - 1) (ap (λ m. m - 1) is ∙ sym (left_later (silence log) (monitored_after log))) (omega arith),
    )

pub never_lost : (n : ℕ) (log : ConsumerLog) → time_left (silence log) (monitored_after log) ≡ 0 → NotLostFor n log
never_lost zero log off = tt
never_lost (suc n) log off = (
  over_is (silence log) (monitored_after log) ∙ ap (λ m. eqb m 1) off,
  never_lost n (one.Tick ∷ log) (left_later (silence log) (monitored_after log) ∙ ap (λ m. m - 1) off),
)

-- ---- all entries

kept_next : (n : ℕ) (log : ConsumersLog) → AreKeptFor (suc n) 127 (λ sub. entry_log sub log) → AreKeptFor n 127 (λ sub. entry_log sub (Noted consumers.Tick ∷ log))
kept_next n log kept i lt = (kept i lt).1

none_now : (n : ℕ) (log : ConsumersLog) → AreKeptFor (suc n) 127 (λ sub. entry_log sub log) → lost_at consumers.Tick log ≡ []
unfolding entry_subs
none_now n log kept = lost_none (λ sub. is_lost one.Tick (entry_log sub log)) 0 127 (λ i low lt. (kept i (omega arith)).0)

by_entries : (n : ℕ) (log : ConsumersLog) → AreKeptFor n 127 (λ sub. entry_log sub log) → NoneLostFor n log
by_entries zero log kept = tt
by_entries (suc n) log kept = (none_now n log kept, by_entries n (Noted consumers.Tick ∷ log) (kept_next n log kept))

pub none_lost : (n count : ℕ) (log : ConsumersLog) → count ≡ 127 → AreKeptFor n count (λ sub. entry_log sub log) → NoneLostFor n log
none_lost n count log all kept = by_entries n log (subst (λ (m : ℕ). AreKeptFor n m (λ sub. entry_log sub log)) all kept)
