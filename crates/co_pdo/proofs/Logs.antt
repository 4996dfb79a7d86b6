-- One more call in a log.
use Rattle.std.proofs.Common.{◌≡◌, ℕ, suc, ◌+◌, ◌-◌, ◌<◌, Bool, true, false, cond, eqb, leb, List, [], ◌∷◌, length, refl, sym, ap, ◌∙◌, subst, arith}
use Rattle.std.specs.Prelude.{◌%◌, ◌&&◌, ◌||◌, not, Option, Some, None, map}
use Rattle.std.specs.List.{list_all}
use Rattle.std.proofs.lemmas.Bool.Decides.{nat_tests}
use Rattle.std.proofs.Math.Bool.{and-true, and-false, or-true, or-false}
use Rattle.co_frame.specs.InhibitTimes.{in_ms}
use Rattle.co_pdo.specs.declared.settings.Settings.{Settings}
use Rattle.co_pdo.specs.declared.tpdo.Occasion.{Occasion}
use Rattle.co_pdo.specs.declared.tpdo.Occasion.TheVariants.{Sync, Event, Tick}
use Rattle.co_pdo.specs.declared.tpdo.Part.TheVariants.{Whole, Timer}
use Rattle.co_pdo.specs.declared.tpdo.Tpdo.{Tpdo}
use Rattle.co_pdo.specs.Log.{Log, Started, Happened, started_with}
use Rattle.co_pdo.specs.Due.{begins_count, syncs, has_begun, since_beginning, counted_syncs, event_since_sync, timer_ticks, event_waits, sendings, is_due_by_count, is_due_at_sync, is_due_by_event, is_due}
use Rattle.co_profile.specs.TransmissionTypes.{is_event_driven}
use Rattle.co_pdo.specs.Countdowns.{left_of, type_of, inhibit_of, CountsSyncs, IsAfter, IsAsAt, IsCurrent}
use Rattle.co_pdo.specs.Steps.{passes_over, counted_with, wants_with, marked}
use Rattle.co_pdo.proofs.Counts.{last_sync, next_sync, left-tick, last_tick}

all_from_zero : (xs : List ℕ) → list_all (λ m. leb 0 m) xs ≡ true
all_from_zero [] = refl
all_from_zero (x ∷ xs) = ap (λ b. leb 0 x && b) (all_from_zero xs) ∙ from_zero x
  where
    from_zero : (x : ℕ) → leb 0 x && true ≡ true
    from_zero x = grind (arith, nat_tests)

all_later : (n : ℕ) (xs : List ℕ) → list_all (λ m. leb n m) (map (λ m. m + 1) xs) ≡ list_all (λ m. leb (n - 1) m) xs
all_later n [] = refl
all_later n (x ∷ xs) = ap (λ b. b && list_all (λ m. leb n m) (map (λ m. m + 1) xs)) (later n x) ∙ ap (λ b. leb (n - 1) x && b) (all_later n xs)
  where
    later : (n x : ℕ) → leb n (x + 1) ≡ leb (n - 1) x
    later n x = grind (arith, nat_tests)

left-later : (n : ℕ) (xs : List ℕ) → eqb (left_of (n - 1) xs) 0 ≡ eqb (left_of n (map (λ m. m + 1) xs)) 0
left-later n [] = refl
left-later n (x ∷ xs) = grind (arith, nat_tests)

sent_now : (n : ℕ) (xs : List ℕ) (b : Bool) → eqb n 0 ≡ b → eqb (n - 0) 0 ≡ list_all (λ m. leb n m) (0 ∷ xs)
sent_now n xs true e = let z : n ≡ 0 = grind (arith, nat_tests) in subst (λ (k : ℕ). eqb (k - 0) 0 ≡ list_all (λ m. leb k m) (0 ∷ xs)) (sym z) (sym (all_from_zero (0 ∷ xs)))
sent_now n xs false e =
    let none : eqb (n - 0) 0 ≡ false = grind (arith, nat_tests) in
    let low : leb n 0 ≡ false = grind (arith, nat_tests) in
    none ∙ ap (λ b. b && list_all (λ m. leb n m) xs) (sym low)

-- nothing is left of a time that is over: the last sending is the nearest
none_left : (n : ℕ) (log : Log) → eqb (left_of n (sendings log)) 0 ≡ list_all (λ m. leb n m) (sendings log)
none_left n [] = refl
none_left n (Started Whole s ∷ log) = refl
none_left n (Started Timer s ∷ log) = none_left n log
none_left n (Happened (Sync overflow counter) s true ∷ log) = sent_now n (sendings log) _ refl
none_left n (Happened (Sync overflow counter) s false ∷ log) = none_left n log
none_left n (Happened Event s true ∷ log) = sent_now n (sendings log) _ refl
none_left n (Happened Event s false ∷ log) = none_left n log
none_left n (Happened Tick s true ∷ log) = sent_now n (map (λ m. m + 1) (sendings log)) _ refl
none_left n (Happened Tick s false ∷ log) = sym (left-later n (sendings log)) ∙ none_left (n - 1) log ∙ sym (all_later n (sendings log))

-- ---- the count of SYNCs

-- before it begins nothing is counted
none_counted : (begins : List Bool) → has_begun begins ≡ false → counted_syncs begins ≡ 0
none_counted [] h = refl
none_counted (b ∷ older) h = ap (λ c. length (cond c (b ∷ since_beginning older) [])) h

-- one more SYNC, that counts or not
one_more : (b c : Bool) (older : List Bool) → has_begun (b ∷ older) ≡ c → counted_syncs (b ∷ older) ≡ cond c (counted_syncs older + 1) 0
one_more b true older h = ap (λ c. length (cond c (b ∷ since_beginning older) [])) h ∙ add-one-length (counted_syncs older)
  where
    add-one-length : (n : ℕ) → suc n ≡ n + 1
    add-one-length n = omega arith
one_more b false older h = ap (λ c. length (cond c (b ∷ since_beginning older) [])) h

begun_before : (b : Bool) (older : List Bool) → has_begun (b ∷ older) ≡ false → has_begun older ≡ false
begun_before true older h = cc
begun_before false older h = h

-- the countdown after one more SYNC
left_then : (kind left : ℕ) (b c : Bool) (older : List Bool) → has_begun (b ∷ older) ≡ c → left ≡ kind - counted_syncs older % kind
    → cond c (cond (leb left 1) kind (left - 1)) left ≡ kind - counted_syncs (b ∷ older) % kind
left_then kind left b true older e h = rw (h, one_more b true older e) (next_sync (counted_syncs older) kind)
left_then kind left b false older e h =
    h ∙ ap (λ n. kind - n % kind) (none_counted older (begun_before b older e) ∙ sym (one_more b false older e))

-- a SYNC counts where the count has begun with it
counts_is : (begun b : Bool) (older : List Bool) → begun ≡ has_begun older → begun || b ≡ has_begun (b ∷ older)
counts_is begun true older h = or-true begun
counts_is begun false older h = or-false begun ∙ h

-- the countdowns after a call in which the TPDO is not sent
after_counted : (t : Tpdo) (log : Log) (s : Settings) (o : Occasion) → IsAfter t log → IsCurrent s log → IsAfter (counted_with s o t) (Happened o s false ∷ log)
after_counted t log s (Sync overflow counter) h f =
    let b : Bool = begins_count s.start_value overflow counter in
    let c : CountsSyncs t → t.has_begun || b ≡ has_begun (b ∷ syncs log) = λ low. counts_is t.has_begun b (syncs log) (h.has_begun low) in
    record {
      transmission_type = h.transmission_type;
      inhibit = h.inhibit;
      timer = h.timer;
      has_begun = c;
      syncs_left = λ low. left_then t.transmission_type.0 t.syncs_left b (t.has_begun || b) (syncs log) (sym (c low)) (h.syncs_left low);
      event_since_sync = λ low. refl;
      event_waits = h.event_waits;
      inhibit_left = h.inhibit_left;
      timer_left = h.timer_left;
    }
after_counted t log s Event h f = record {
  transmission_type = h.transmission_type;
  inhibit = h.inhibit;
  timer = h.timer;
  has_begun = h.has_begun;
  syncs_left = h.syncs_left;
  event_since_sync = λ low. refl;
  event_waits = refl;
  inhibit_left = h.inhibit_left;
  timer_left = h.timer_left;
}
after_counted t log s Tick h f = record {
  transmission_type = h.transmission_type;
  inhibit = h.inhibit;
  timer = h.timer;
  has_begun = h.has_begun;
  syncs_left = h.syncs_left;
  event_since_sync = h.event_since_sync;
  event_waits =
      ap (λ b. b || eqb t.timer_left 1) h.event_waits
      ∙ ap (λ n. event_waits log || eqb n 1) h.timer_left
      ∙ ap (λ b. event_waits log || b) (last_tick t.timer (timer_ticks log) ∙ ap (eqb (timer_ticks log + 1)) (h.timer ∙ sym f.timer));
  inhibit_left = ap (λ n. n - 1) h.inhibit_left ∙ left-tick t.inhibit (sendings log);
  timer_left = omega (arith, h.timer_left);
}

-- the same where it is sent
after_marked : (t : Tpdo) (log : Log) (s : Settings) (o : Occasion) → IsAfter t (Happened o s false ∷ log) → IsAfter (marked t) (Happened o s true ∷ log)
after_marked t log s (Sync overflow counter) h = record { transmission_type = h.transmission_type; inhibit = h.inhibit; timer = h.timer; has_begun = h.has_begun; syncs_left = h.syncs_left; event_since_sync = h.event_since_sync; event_waits = refl; inhibit_left = omega arith; timer_left = omega arith }
after_marked t log s Event h = record { transmission_type = h.transmission_type; inhibit = h.inhibit; timer = h.timer; has_begun = h.has_begun; syncs_left = h.syncs_left; event_since_sync = h.event_since_sync; event_waits = refl; inhibit_left = omega arith; timer_left = omega arith }
after_marked t log s Tick h = record { transmission_type = h.transmission_type; inhibit = h.inhibit; timer = h.timer; has_begun = h.has_begun; syncs_left = h.syncs_left; event_since_sync = h.event_since_sync; event_waits = refl; inhibit_left = omega arith; timer_left = omega arith }

-- the type and the inhibit time are those that it was started with
record Same (t : Tpdo) (s : Settings) : Type 0 where
  kind : t.transmission_type.0 ≡ s.transmission_type.0
  inhibit : t.inhibit ≡ in_ms s.inhibit_time

same_as_started : (t : Tpdo) (s : Settings) (at : Option Settings) → t.transmission_type.0 ≡ type_of at → t.inhibit ≡ inhibit_of at → IsAsAt at s → Same t s
same_as_started t s None k i h = absurd h
same_as_started t s (Some at) k i h = record { kind = k ∙ h.0; inhibit = i ∙ ap in_ms h.1 }

same : (t : Tpdo) (log : Log) (s : Settings) → IsAfter t log → IsCurrent s log → s.is_active ≡ true → Same t s
same t log s h f e = same_as_started t s (started_with log) h.transmission_type h.inhibit (f.started e)

-- due by the countdown of SYNCs
by_count : (kind left : ℕ) (b c : Bool) (older : List Bool) → 0 < kind → has_begun (b ∷ older) ≡ c → left ≡ kind - counted_syncs older % kind
    → c && (leb left 1 && leb kind 240) ≡ c && (eqb (counted_syncs (b ∷ older) % kind) 0 && leb kind 240)
by_count kind left b true older above e h =
    ap (λ x. x && leb kind 240) (ap (λ n. leb n 1) h ∙ last_sync (counted_syncs older) kind above ∙ ap (λ n. eqb (n % kind) 0) (sym (one_more b true older e)))
by_count kind left b false older above e h = refl

none_high : (x y low : Bool) → low ≡ false → x && (y && low) ≡ false
none_high x y low high = ap (λ w. x && (y && w)) high ∙ ap (λ w. x && w) (and-false y) ∙ and-false x

at_sync : (t : Tpdo) (log : Log) (b : Bool) → IsAfter t log → (zero : Bool) → eqb t.transmission_type.0 0 ≡ zero
    → cond zero t.event_since_sync ((t.has_begun || b) && (leb t.syncs_left 1 && leb t.transmission_type.0 240)) ≡ cond zero (event_since_sync log) (is_due_by_count t.transmission_type.0 (b ∷ syncs log))
at_sync t log b h true e = h.event_since_sync low
  where
    low : leb t.transmission_type.0 240 ≡ true
    low = let none : t.transmission_type.0 ≡ 0 = grind (arith, nat_tests) in ap (λ n. leb n 240) none
at_sync t log b h false e = by_type (leb t.transmission_type.0 240) refl
  where
    due : Bool
    due = eqb (counted_syncs (b ∷ syncs log) % t.transmission_type.0) 0

    counted_low : leb t.transmission_type.0 240 ≡ true → (t.has_begun || b) && (leb t.syncs_left 1 && leb t.transmission_type.0 240) ≡ is_due_by_count t.transmission_type.0 (b ∷ syncs log)
    counted_low low =
        let above : 0 < t.transmission_type.0 = grind (arith, nat_tests) in
        let c : t.has_begun || b ≡ has_begun (b ∷ syncs log) = counts_is t.has_begun b (syncs log) (h.has_begun low) in
        by_count t.transmission_type.0 t.syncs_left b (t.has_begun || b) (syncs log) above (sym c) (h.syncs_left low)
        ∙ ap (λ x. x && (due && leb t.transmission_type.0 240)) c

    by_type : (low : Bool) → leb t.transmission_type.0 240 ≡ low → (t.has_begun || b) && (leb t.syncs_left 1 && leb t.transmission_type.0 240) ≡ is_due_by_count t.transmission_type.0 (b ∷ syncs log)
    by_type true low = counted_low low
    by_type false high = none_high (t.has_begun || b) (leb t.syncs_left 1) _ high ∙ sym (none_high (has_begun (b ∷ syncs log)) due _ high)

-- due by the counts after a call, types 254 and 255
by_event : (t : Tpdo) (log : Log) (s : Settings) → Same t s → IsAfter t log → is_event_driven t.transmission_type.0 && (t.event_waits && eqb t.inhibit_left 0) ≡ is_due_by_event s log
by_event t log s e h =
    ap (λ k. is_event_driven k && (t.event_waits && eqb t.inhibit_left 0)) e.kind
    ∙ ap (λ b. is_event_driven s.transmission_type.0 && (b && eqb t.inhibit_left 0)) h.event_waits
    ∙ ap (λ b. is_event_driven s.transmission_type.0 && (event_waits log && b)) (ap (λ n. eqb n 0) h.inhibit_left ∙ none_left t.inhibit log ∙ ap (λ n. list_all (λ m. leb n m) (sendings log)) e.inhibit)

-- a TPDO wants to go when it is due
wants_is : (t : Tpdo) (log : Log) (s : Settings) (o : Occasion) → IsAfter t log → IsCurrent s log → Same t s → s.is_active && wants_with s o t ≡ is_due s log o
wants_is t log s (Sync overflow counter) h f e =
    ap (λ b. s.is_active && b) (at_sync t log (begins_count s.start_value overflow counter) h (eqb t.transmission_type.0 0) refl ∙ ap (λ k. is_due_at_sync k log (Happened (Sync overflow counter) s false)) e.kind)
wants_is t log s Event h f e =
    ap (λ b. s.is_active && b) (by_event (counted_with s Event t) _ s (record { kind = e.kind; inhibit = e.inhibit }) (after_counted t log s Event h f))
wants_is t log s Tick h f e =
    ap (λ b. s.is_active && b) (by_event (counted_with s Tick t) _ s (record { kind = e.kind; inhibit = e.inhibit }) (after_counted t log s Tick h f))

due_by : (t : Tpdo) (log : Log) (s : Settings) (o : Occasion) → IsAfter t log → IsCurrent s log → (b : Bool) → s.is_active ≡ b → s.is_active && wants_with s o t ≡ is_due s log o
due_by t log s o h f true e = wants_is t log s o h f (same t log s h f e)
due_by t log s (Sync overflow counter) h f false e = ap (λ b. b && wants_with s (Sync overflow counter) t) e ∙ ap (λ b. b && is_due_at_sync s.transmission_type.0 log (Happened (Sync overflow counter) s false)) (sym e)
due_by t log s Event h f false e = ap (λ b. b && wants_with s Event t) e ∙ ap (λ b. b && is_due_by_event s (Happened Event s false ∷ log)) (sym e)
due_by t log s Tick h f false e = ap (λ b. b && wants_with s Tick t) e ∙ ap (λ b. b && is_due_by_event s (Happened Tick s false ∷ log)) (sym e)

pub due_is : (t : Tpdo) (log : Log) (s : Settings) (o : Occasion) → IsAfter t log → IsCurrent s log → s.is_active && wants_with s o t ≡ is_due s log o
due_is t log s o h f = due_by t log s o h f s.is_active refl

-- the countdowns after a call, by what was done to them
pub after_unsent : (t new : Tpdo) (log : Log) (s : Settings) (o : Occasion) → new ≡ counted_with s o t → IsAfter t log → IsCurrent s log → IsAfter new (Happened o s false ∷ log)
after_unsent t new log s o e h f = rw e (after_counted t log s o h f)

pub after_sent : (t mid new : Tpdo) (log : Log) (s : Settings) (o : Occasion) → mid ≡ counted_with s o t → new ≡ marked mid → IsAfter t log → IsCurrent s log → IsAfter new (Happened o s true ∷ log)
after_sent t mid new log s o e k h f = rw k (after_marked mid log s o (after_unsent t mid log s o e h f))

-- it was wanted, and the dictionary says whether the TPDO is active
pub due_wanted : (t : Tpdo) (log : Log) (s : Settings) (o : Occasion) (w : Bool) → IsAfter t log → IsCurrent s log → w ≡ wants_with s o t → w ≡ true → s.is_active ≡ is_due s log o
due_wanted t log s o w h f e k = sym (and-true s.is_active) ∙ ap (λ b. s.is_active && b) (sym k ∙ e) ∙ due_is t log s o h f

-- it was not wanted
pub due_unwanted : (t : Tpdo) (log : Log) (s : Settings) (o : Occasion) (w : Bool) → IsAfter t log → IsCurrent s log → w ≡ wants_with s o t → w ≡ false → false ≡ is_due s log o
due_unwanted t log s o w h f e k = sym (and-false s.is_active) ∙ ap (λ b. s.is_active && b) (sym k ∙ e) ∙ due_is t log s o h f

-- ---- a SYNC that is passed over

is_high : (low : Bool) → not low ≡ true → low ≡ false
is_high true h = cc
is_high false h = refl

pub after_passed : (t : Tpdo) (log : Log) (s : Settings) (o : Occasion) → passes_over o t ≡ true → IsAfter t log → IsAfter t (Happened o s false ∷ log)
after_passed t log s (Sync overflow counter) p h = record {
  transmission_type = h.transmission_type;
  inhibit = h.inhibit;
  timer = h.timer;
  has_begun = λ low. absurd (never low);
  syncs_left = λ low. absurd (never low);
  event_since_sync = λ low. absurd (never low);
  event_waits = h.event_waits;
  inhibit_left = h.inhibit_left;
  timer_left = h.timer_left;
}
  where
    never : CountsSyncs t → ⊥
    never low = let high : leb t.transmission_type.0 240 ≡ false = is_high _ p in cc
after_passed t log s Event p h = cc
after_passed t log s Tick p h = cc
