-- One more call in the history of a schedule.
use Rattle.std.proofs.Common.{◌≡◌, ◌≢◌, ℕ, zero, suc, ◌+◌, ◌<◌, ◌≤◌, Bool, true, false, cond, eqb, ltb, List, [], ◌∷◌, ◌++◌, length, map, get_or, set, take, Option, Some, None, refl, sym, ap, ◌∙◌, subst, arith, get_or-set_same, get_or-set_other, length-set}
use Rattle.std.specs.Prelude.{◌&&◌, ◌||◌, position}
use Rattle.std.specs.List.{filter, range_with_len}
use Rattle.std.proofs.Math.Bool.{and-false}
use Rattle.std.proofs.Math.Seq.{take-append_seam}
use Rattle.std.proofs.lemmas.List.{length-map}
use Rattle.std.proofs.lemmas.List.Quantifiers.{position-Some}
use Rattle.std.proofs.lemmas.Bool.Decides.{nat_tests}
use Rattle.co_dict.specs.Rows.{Rows, Contents, number_at}
use Rattle.co_dict.specs.Stores.{Description, IsDictionary}
use Rattle.co_pdo.specs.declared.settings.Settings.{Settings}
use Rattle.co_pdo.specs.declared.tpdo.Part.{Part}
use Rattle.co_pdo.specs.declared.tpdo.Occasion.{Occasion}
use Rattle.co_pdo.specs.declared.tpdo.Occasion.TheVariants.{Sync, Event, Tick}
use Rattle.co_pdo.specs.declared.tpdo.Tpdo.{Tpdo}
use Rattle.co_pdo.specs.declared.places.Places.{Places}
use Rattle.co_profile.specs.Keys.{counter_overflow_key}
use Rattle.co_pdo.specs.Tpdos.{places_of, settings_of, has_tpdo, tpdo_numbers, tpdos_of}
use Rattle.co_pdo.specs.Log.{Log, LogEntry, Started, Happened}
use Rattle.co_pdo.specs.Due.{is_due, is_due_at_sync, is_due_by_event}
use Rattle.co_pdo.specs.Countdowns.{IsAfter, IsCurrent}
use Rattle.co_pdo.specs.Schedules.{Call, Moment, History, is_among, part_of, log_of, with_start, with_all_started, with_event, with_events, is_tpdo_due, all_due, all_due_among, Timetable, IsTimetable, IsTable, ArePlaces, AllAfter, AllCurrentAfter, with_occasion, with_whole_start, with_events_among, IsScheduleAfter, AllCurrent}
use Rattle.co_dict.specs.declared.side.Side.TheVariants as side
use Rattle.co_pdo.proofs.Actives.{inactive}
use Rattle.co_pdo.proofs.Lists.{numbers_set, number_at_place, places_at}
use Rattle.co_pdo.proofs.Numbers.{one_tpdo, position-None}

-- TPDOs with their places
abbrev pub timetable : List Tpdo → List Places → Timetable
timetable tpdos places = record { tpdos = tpdos; places = places }

numbers_range : (rows : Rows) → tpdos_of rows ≡ filter (has_tpdo rows) (range_with_len 0 512)
unfolding tpdo_numbers
numbers_range rows = refl

eqb_same : (n : ℕ) → eqb n n ≡ true
eqb_same n = grind (arith, nat_tests)

-- ---- a TPDO that the dictionary doesn't have is never due

not_due : (s : Settings) (log : Log) (o : Occasion) → s.is_active ≡ false → is_due s log o ≡ false
not_due s log (Sync overflow counter) e = ap (λ b. b && is_due_at_sync s.transmission_type.0 log (Happened (Sync overflow counter) s false)) e
not_due s log Event e = ap (λ b. b && is_due_by_event s (Happened Event s false ∷ log)) e
not_due s log Tick e = ap (λ b. b && is_due_by_event s (Happened Tick s false ∷ log)) e

pub absent_not_due : (d : Description) (contents : Contents) (history : History) (o : Occasion) (k : ℕ) → IsDictionary d contents → has_tpdo d.rows k ≡ false → is_tpdo_due contents history o k ≡ false
absent_not_due d contents history o k laws h = not_due (settings_of contents k) (log_of k history) o (inactive side.Tpdo d contents k laws h)

filter_within : (p q : ℕ → Bool) → ((k : ℕ) → q k ≡ false → p k ≡ false) → (xs : List ℕ) → filter p (filter q xs) ≡ filter p xs
filter_within p q never [] = refl
filter_within p q never (x ∷ xs) = by_test (q x) refl (filter_within p q never xs)
  where
    by_test : (b : Bool) → q x ≡ b → filter p (filter q xs) ≡ filter p xs → filter p (cond b (x ∷ filter q xs) (filter q xs)) ≡ cond (p x) (x ∷ filter p xs) (filter p xs)
    by_test true e more = ap (λ ys. cond (p x) (x ∷ ys) ys) more
    by_test false e more = more ∙ ap (λ b. cond b (x ∷ filter p xs) (filter p xs)) (sym (never x e))

-- those that pass a test of the TPDOs that the dictionary has are those that pass it
pub due_numbers : (d : Description) (p : ℕ → Bool) (tpdos : List Tpdo) (sent : List ℕ) → ((k : ℕ) → has_tpdo d.rows k ≡ false → p k ≡ false) → map (λ t. t.number) tpdos ≡ tpdos_of d.rows
    → sent ≡ filter p (map (λ t. t.number) tpdos) → sent ≡ filter p tpdo_numbers
due_numbers d p tpdos sent never numbers e = e ∙ ap (filter p) numbers ∙ filter_within p (has_tpdo d.rows) never tpdo_numbers

-- ---- a number is among those of a range that pass a test if it passes

none_among : (p : ℕ → Bool) (k a n : ℕ) → k < a → is_among k (filter p (range_with_len a n)) ≡ false
none_among p k a zero lt = refl
none_among p k a (suc n) lt = by_test (p a) (none_among p k (a + 1) n (omega arith))
  where
    by_test : (b : Bool) → is_among k (filter p (range_with_len (a + 1) n)) ≡ false → is_among k (cond b (a ∷ filter p (range_with_len (a + 1) n)) (filter p (range_with_len (a + 1) n))) ≡ false
    by_test true more = let away : eqb a k ≡ false = grind (arith, nat_tests) in ap (λ b. b || is_among k (filter p (range_with_len (a + 1) n))) away ∙ more
    by_test false more = more

among_from : (p : ℕ → Bool) (k a n : ℕ) → a ≤ k → k < a + n → is_among k (filter p (range_with_len a n)) ≡ p k
among_from p k a zero le lt = absurd (omega arith)
among_from p k a (suc n) le lt = by_tests (eqb a k) refl (p a) refl (λ up. among_from p k (a + 1) n up (omega arith))
  where
    by_tests : (e : Bool) → eqb a k ≡ e → (b : Bool) → p a ≡ b → (a + 1 ≤ k → is_among k (filter p (range_with_len (a + 1) n)) ≡ p k)
        → is_among k (cond b (a ∷ filter p (range_with_len (a + 1) n)) (filter p (range_with_len (a + 1) n))) ≡ p k
    by_tests true e true h more =
        let same : a ≡ k = grind (arith, nat_tests) in
        ap (λ b. b || is_among k (filter p (range_with_len (a + 1) n))) e ∙ sym (sym (ap p same) ∙ h)
    by_tests true e false h more =
        let same : a ≡ k = grind (arith, nat_tests) in
        none_among p k (a + 1) n (omega arith) ∙ sym (sym (ap p same) ∙ h)
    by_tests false e true h more =
        let other : a ≢ k = grind (arith, nat_tests) in
        ap (λ b. b || is_among k (filter p (range_with_len (a + 1) n))) e ∙ more (omega arith)
    by_tests false e false h more =
        let other : a ≢ k = grind (arith, nat_tests) in
        more (omega arith)

among_range : (p : ℕ → Bool) (k : ℕ) → k < 512 → is_among k (filter p tpdo_numbers) ≡ p k
unfolding tpdo_numbers
among_range p k lt = among_from p k 0 512 (omega arith) (omega arith)

not_among : (k : ℕ) (tpdos : List Tpdo) → ((j : ℕ) (d : Tpdo) → j < length tpdos → eqb (get_or tpdos j d).number k ≡ false) → is_among k (map (λ t. t.number) tpdos) ≡ false
not_among k [] other = refl
not_among k (t ∷ tpdos) other = ap (λ b. b || is_among k (map (λ t. t.number) tpdos)) (other 0 t (omega arith)) ∙ not_among k tpdos (λ j d lt. other (suc j) d (omega arith))

-- the dictionary doesn't have a TPDO whose number isn't there
pub not_there : (rows : Rows) (k : ℕ) (tpdos : List Tpdo) → k < 512 → map (λ t. t.number) tpdos ≡ tpdos_of rows → ((j : ℕ) (d : Tpdo) → j < length tpdos → eqb (get_or tpdos j d).number k ≡ false) → has_tpdo rows k ≡ false
not_there rows k tpdos lt numbers other =
    sym (among_from (has_tpdo rows) k 0 512 (omega arith) (omega arith)) ∙ ap (is_among k) (sym (numbers ∙ numbers_range rows)) ∙ not_among k tpdos other

-- ---- a table of the same numbers

pub table_kept : (old new : List Tpdo) → IsTable old → map (λ t. t.number) new ≡ map (λ t. t.number) old → IsTable new
table_kept old new t e =
    let same : length new ≡ length old = simp length-map at (ap length e) in
    record {
      few = omega (arith, same, t.few);
      small = λ i d lt.
          let within : i < length old = omega arith in
          let number : (get_or old i d).number ≡ (get_or new i d).number = sym (number_at_place old i d within) ∙ ap (λ ns. get_or ns i 0) (sym e) ∙ number_at_place new i d lt in
          omega (arith, t.small i d within, number);
    }

-- ---- a call that names one TPDO

own : (b : Bool) (c : LogEntry) (log : Log) → b ≡ true → cond b (c ∷ []) [] ++ log ≡ c ∷ log
own true c log e = refl
own false c log e = cc

other_log : (b : Bool) (c : LogEntry) (log : Log) → b ≡ false → cond b (c ∷ []) [] ++ log ≡ log
other_log true c log e = cc
other_log false c log e = refl

pub log_started : (k : ℕ) (part : Part) (contents : Contents) (history : History) → log_of k (with_start k part contents history) ≡ Started part (settings_of contents k) ∷ log_of k history
log_started k part contents history = own (eqb k k) _ _ (eqb_same k)

pub log_not_started : (k : ℕ) (part : Part) (contents : Contents) (history : History) (j : ℕ) → eqb k j ≡ false → log_of j (with_start k part contents history) ≡ log_of j history
log_not_started k part contents history j e = other_log (eqb k j) (Started part (settings_of contents j)) _ e

sent_alone : (k : ℕ) (b : Bool) → is_among k (cond b (k ∷ []) []) ≡ b
sent_alone k true = ap (λ b. b || false) (eqb_same k)
sent_alone k false = refl

pub log_raised : (k : ℕ) (contents : Contents) (sent : Bool) (history : History) → log_of k (with_event k contents sent history) ≡ Happened Event (settings_of contents k) sent ∷ log_of k history
log_raised k contents sent history =
    own (eqb k k) (Happened Event (settings_of contents k) (is_among k (cond sent (k ∷ []) []))) _ (eqb_same k)
    ∙ ap (λ b. Happened Event (settings_of contents k) b ∷ log_of k history) (sent_alone k sent)

pub log_not_raised : (k : ℕ) (contents : Contents) (sent : Bool) (history : History) (j : ℕ) → eqb k j ≡ false → log_of j (with_event k contents sent history) ≡ log_of j history
log_not_raised k contents sent history j e = other_log (eqb k j) (Happened Event (settings_of contents j) (is_among j (cond sent (k ∷ []) []))) _ e

module _ (dict : Description) (tpdos : List Tpdo) (places : List Places) (value : Timetable) (history : History) (k : ℕ) (same : timetable tpdos places ≡ value) (given : IsScheduleAfter dict value history) where
  here : IsScheduleAfter dict (timetable tpdos places) history
  here = subst (λ (v : Timetable). IsScheduleAfter dict v history) (sym same) given

  -- where there is no such TPDO, the call changes nothing
  pub after_absent : position (λ t. eqb t.number k) tpdos ≡ None → (m : Moment) → ((j : ℕ) → eqb k j ≡ false → log_of j (m ∷ history) ≡ log_of j history) → IsScheduleAfter dict value (m ∷ history)
  after_absent none m others = subst (λ (v : Timetable). IsScheduleAfter dict v (m ∷ history)) same (record {
    numbers = here.numbers;
    places = here.places;
    countdowns = λ j d lt.
        let away : eqb (get_or tpdos j d).number k ≡ false = position-None (λ t. eqb t.number k) tpdos none j d lt in
        let apart : eqb k (get_or tpdos j d).number ≡ false = grind (arith, nat_tests) in
        subst (λ (log : Log). IsAfter (get_or tpdos j d) log) (sym (others (get_or tpdos j d).number apart)) (here.countdowns j d lt);
  })

  -- the places at the place of the TPDO with this number
  pub places_of_number : (slice : List Tpdo) (i : ℕ) (t : Tpdo) (p : Places) → slice ≡ tpdos → true ≡ ltb i (length slice) → t ≡ get_or slice i t → t.number ≡ k → get_or places i p ≡ places_of dict k
  places_of_number slice i t p s inside read number =
      let within : i < length slice = grind (arith, nat_tests) in
      let placed : ArePlaces dict (map (λ t. t.number) slice) places = here.places ∙ ap (map (places_of dict)) (sym here.numbers) ∙ ap (λ (ts : List Tpdo). map (places_of dict) (map (λ t. t.number) ts)) (sym s) in
      places_at dict slice places i t p within placed ∙ ap (λ (u : Tpdo). places_of dict u.number) (sym read) ∙ ap (places_of dict) number

  pub lacks : k < 512 → position (λ t. eqb t.number k) tpdos ≡ None → has_tpdo dict.rows k ≡ false
  lacks lt none = not_there dict.rows k tpdos lt here.numbers (position-None (λ t. eqb t.number k) tpdos none)

  module _ (i : ℕ) (old new : Tpdo) (found : position (λ t. eqb t.number k) tpdos ≡ Some i) (read : old ≡ get_or tpdos i old) (kept : new.number ≡ old.number) where
    within : i < length tpdos
    within = (position-Some (λ t. eqb t.number k) tpdos i old found).0

    pub is_k : old.number ≡ k
    is_k =
        let test : eqb (get_or tpdos i old).number k ≡ true = (position-Some (λ t. eqb t.number k) tpdos i old found).1 in
        let number : (get_or tpdos i old).number ≡ k = grind (arith, nat_tests) in
        ap (λ t. t.number) read ∙ number

    pub old_after : IsAfter old (log_of k history)
    old_after =
        let at_place : IsAfter (get_or tpdos i old) (log_of (get_or tpdos i old).number history) = here.countdowns i old within in
        let at_old : IsAfter old (log_of old.number history) = subst (λ (t : Tpdo). IsAfter t (log_of t.number history)) (sym read) at_place in
        subst (λ (n : ℕ). IsAfter old (log_of n history)) is_k at_old

    pub after_present : (m : Moment) → ((j : ℕ) → eqb k j ≡ false → log_of j (m ∷ history) ≡ log_of j history) → IsAfter new (log_of k (m ∷ history)) → IsScheduleAfter dict (timetable (set tpdos i new) places) (m ∷ history)
    after_present m others h = record {
      numbers = numbers_set tpdos i new old (kept ∙ ap (λ t. t.number) read) ∙ here.numbers;
      places = here.places;
      countdowns = λ j d lt. by_test j d (simp length-set at lt) (eqb j i) refl;
    }
      where
        by_test : (j : ℕ) (d : Tpdo) → j < length tpdos → (b : Bool) → eqb j i ≡ b → IsAfter (get_or (set tpdos i new) j d) (log_of (get_or (set tpdos i new) j d).number (m ∷ history))
        by_test j d below true e =
            let place : j ≡ i = grind (arith, nat_tests) in
            let inside : i < length tpdos = within in
            let number : new.number ≡ k = kept ∙ is_k in
            let written : get_or (set tpdos i new) j d ≡ new = ap (λ n. get_or (set tpdos i new) n d) place ∙ get_or-set_same tpdos i new d inside in
            subst (λ (t : Tpdo). IsAfter t (log_of t.number (m ∷ history))) (sym written) (subst (λ (n : ℕ). IsAfter new (log_of n (m ∷ history))) (sym number) h)
        by_test j d below false e =
            let place : j ≢ i = grind (arith, nat_tests) in
            let apart : eqb k (get_or tpdos j d).number ≡ false = other_number (eqb k (get_or tpdos j d).number) refl place below in
            let unchanged : get_or (set tpdos i new) j d ≡ get_or tpdos j d = get_or-set_other tpdos i j new d place in
            subst (λ (t : Tpdo). IsAfter t (log_of t.number (m ∷ history))) (sym unchanged)
            (subst (λ (log : Log). IsAfter (get_or tpdos j d) log) (sym (others (get_or tpdos j d).number apart)) (here.countdowns j d below))
          where
            other_number : (b : Bool) → eqb k (get_or tpdos j d).number ≡ b → j ≢ i → j < length tpdos → b ≡ false
            other_number true t place below =
                let equal : (get_or tpdos j d).number ≡ k = grind (arith, nat_tests) in
                let here_too : (get_or tpdos i old).number ≡ k = ap (λ t. t.number) (sym read) ∙ is_k in
                absurd (place (one_tpdo (has_tpdo dict.rows) 512 tpdos (here.numbers ∙ numbers_range dict.rows) j i d old below within (equal ∙ sym here_too)))
            other_number false t place below = refl

    -- the places at its place are its own
    pub own_places : (p : Places) → get_or places i p ≡ places_of dict k
    own_places p =
        let placed : ArePlaces dict (map (λ t. t.number) tpdos) places = here.places ∙ ap (map (places_of dict)) (sym here.numbers) in
        places_at dict tpdos places i old p within placed ∙ ap (λ (t : Tpdo). places_of dict t.number) (sym read) ∙ ap (places_of dict) is_k

    pub numbered_places : (p : Places) → get_or places i p ≡ places_of dict old.number
    numbered_places p = own_places p ∙ ap (places_of dict) (sym is_k)

    -- an event
    pub event_due : (contents : Contents) (sent : Bool) → k < 512 → AllCurrent contents history → ((log : Log) → IsAfter old log → IsCurrent (settings_of contents old.number) log → sent ≡ is_due (settings_of contents old.number) log Event) → sent ≡ is_tpdo_due contents history Event k
    event_due contents sent lt current due =
        subst (λ (n : ℕ). (log : Log) → IsAfter old log → IsCurrent (settings_of contents n) log → sent ≡ is_due (settings_of contents n) log Event) is_k due (log_of k history) old_after (current k lt)

    pub event_after : (contents : Contents) (sent : Bool) → k < 512 → AllCurrent contents history → ((log : Log) → IsAfter old log → IsCurrent (settings_of contents old.number) log → IsAfter new (Happened Event (settings_of contents old.number) sent ∷ log))
        → IsScheduleAfter dict (timetable (set tpdos i new) places) (with_event k contents sent history)
    event_after contents sent lt current after = after_present _ (log_not_raised k contents sent history) (
        subst (λ (log : Log). IsAfter new log) (sym (log_raised k contents sent history))
        (subst (λ (n : ℕ). (log : Log) → IsAfter old log → IsCurrent (settings_of contents n) log → IsAfter new (Happened Event (settings_of contents n) sent ∷ log)) is_k after (log_of k history) old_after (current k lt)))

    -- a start
    pub start_after : (contents : Contents) (settings : Settings) (part : Part) → settings ≡ settings_of contents k → ((log : Log) → IsAfter old log → IsAfter new (Started part settings ∷ log)) → IsScheduleAfter dict (timetable (set tpdos i new) places) (with_start k part contents history)
    start_after contents settings part read after = after_present _ (log_not_started k part contents history) (
        subst (λ (log : Log). IsAfter new log) (sym (log_started k part contents history))
        (subst (λ (s : Settings). IsAfter new (Started part s ∷ log_of k history)) read (after (log_of k history) old_after)))

-- ---- a call that concerns all

-- an event in a log, if there is one, and what the call is to the TPDO
log_asked : (asked sent due : Bool) (s : Settings) (log : Log) → sent ≡ asked && due → cond asked (Happened Event s due ∷ log) log ≡ cond asked (Happened Event s sent ∷ []) [] ++ log
log_asked true sent due s log h = ap (λ b. Happened Event s b ∷ log) (sym h)
log_asked false sent due s log h = refl

-- what a call left in the slice of a list is the list
pub all_written : (n : ℕ) (new rest : List Tpdo) → length new ≡ n → take n (new ++ rest) ≡ new
all_written n new rest e = ap (λ m. take m (new ++ rest)) (sym e) ∙ take-append_seam new rest

-- where there is no TPDO, a SYNC does the same whatever the counter overflow value is
module _ (old new : List Tpdo) (numbers : map (λ t. t.number) new ≡ map (λ t. t.number) old) (contents : Contents) (counter : Option ℕ) (n m : ℕ) (same : 0 < length old → n ≡ m) (Placed : Type 0) where
  by_overflow : (P : ℕ → Type 0) → (old ≡ [] → P n → P m) → P n → P m
  by_overflow P none p = by_list old refl same
    where
      by_list : (ts : List Tpdo) → old ≡ ts → (0 < length ts → n ≡ m) → P m
      by_list [] e h = none e p
      by_list (t ∷ ts) e h = subst P (h (omega arith)) p

  pub due_with : (sent : List ℕ) → ((logs : ℕ → Log) → Placed → AllAfter old logs → AllCurrentAfter contents logs → sent ≡ filter (λ k. is_due (settings_of contents k) (logs k) (Sync n counter)) (map (λ t. t.number) old))
      → (logs : ℕ → Log) → Placed → AllAfter old logs → AllCurrentAfter contents logs → sent ≡ filter (λ k. is_due (settings_of contents k) (logs k) (Sync m counter)) (map (λ t. t.number) old)
  due_with sent = by_overflow (λ v. (logs : ℕ → Log) → Placed → AllAfter old logs → AllCurrentAfter contents logs → sent ≡ filter (λ k. is_due (settings_of contents k) (logs k) (Sync v counter)) (map (λ t. t.number) old))
      (λ e due logs placed all current. due logs placed all current
      ∙ ap (λ (ts : List Tpdo). filter (λ k. is_due (settings_of contents k) (logs k) (Sync n counter)) (map (λ t. t.number) ts)) e
      ∙ sym (ap (λ (ts : List Tpdo). filter (λ k. is_due (settings_of contents k) (logs k) (Sync m counter)) (map (λ t. t.number) ts)) e))

  pub after_with : ((logs : ℕ → Log) → Placed → AllAfter old logs → AllCurrentAfter contents logs → AllAfter new (with_occasion contents (Sync n counter) logs))
      → (logs : ℕ → Log) → Placed → AllAfter old logs → AllCurrentAfter contents logs → AllAfter new (with_occasion contents (Sync m counter) logs)
  after_with = by_overflow (λ v. (logs : ℕ → Log) → Placed → AllAfter old logs → AllCurrentAfter contents logs → AllAfter new (with_occasion contents (Sync v counter) logs))
      (λ e after logs placed all current i t lt.
      let as_many : length new ≡ length old = simp length-map at (ap length numbers) in
      let none : length old ≡ 0 = ap length e in
      absurd (omega arith))

-- the same TPDOs in the slice of a list
pub same_timetable : (slice tpdos : List Tpdo) (places : List Places) (value : Timetable) → slice ≡ tpdos → timetable tpdos places ≡ value → timetable slice places ≡ value
same_timetable slice tpdos places value e same = ap (λ (ts : List Tpdo). timetable ts places) e ∙ same

-- a call that keeps the numbers leaves a timetable
pub timetable_kept : (tpdos slice new written : List Tpdo) (places : List Places) → slice ≡ tpdos → IsTimetable tpdos places → map (λ t. t.number) new ≡ map (λ t. t.number) slice → written ≡ new → IsTimetable written places
timetable_kept tpdos slice new written places s was numbers e =
    let table : IsTable slice = subst (λ (ts : List Tpdo). IsTable ts) (sym s) was.table in
    let as_many : length new ≡ length slice = simp length-map at (ap length numbers) in
    rw e (record {
      table = table_kept slice new table numbers;
      placed = was.placed ∙ sym (ap length s) ∙ sym as_many;
    })

module _ (d : Description) (value : Timetable) (old : List Tpdo) (places : List Places) (new : List Tpdo) (history : History) (same : timetable old places ≡ value) (given : IsScheduleAfter d value history) where
  had : IsScheduleAfter d (timetable old places) history
  had = subst (λ (v : Timetable). IsScheduleAfter d v history) (sym same) given

  -- the places of the TPDOs
  pub had_places : ArePlaces d (map (λ t. t.number) old) places
  had_places = had.places ∙ ap (map (places_of d)) (sym had.numbers)

  -- the counter overflow value, where there is a TPDO
  pub overflow_of : (contents : Contents) (slice : List Places) (n : ℕ) → slice ≡ places → ((numbers : List ℕ) → ArePlaces d numbers slice → 0 < length numbers → n ≡ number_at contents counter_overflow_key) → 0 < length old → n ≡ number_at contents counter_overflow_key
  overflow_of contents slice n e read lt =
      let there : 0 < length (map (λ (t : Tpdo). t.number) old) = simp length-map lt in
      read (map (λ t. t.number) old) (e ∙ had_places) there

  -- after a call that gives each its longer log
  after_call : IsTable old → map (λ t. t.number) new ≡ map (λ t. t.number) old → (next : ℕ → Log) → AllAfter new next → (m : Moment) → ((k : ℕ) → k < 512 → next k ≡ log_of k (m ∷ history)) → IsScheduleAfter d (timetable new places) (m ∷ history)
  after_call table numbers next after m is = record {
    numbers = numbers ∙ had.numbers;
    places = had.places;
    countdowns = λ i t lt. subst (λ (log : Log). IsAfter (get_or new i t) log) (is (get_or new i t).number ((table_kept old new table numbers).small i t lt)) (after i t lt);
  }

  module _ (table : IsTable old) (numbers : map (λ t. t.number) new ≡ map (λ t. t.number) old) (contents : Contents) (slice : List Places) (sliced : slice ≡ places) where
    placed : ArePlaces d (map (λ t. t.number) old) slice
    placed = sliced ∙ had_places

    pub after_all_started : ((logs : ℕ → Log) → ArePlaces d (map (λ t. t.number) old) slice → AllAfter old logs → AllAfter new (with_whole_start contents logs)) → (written : List Tpdo) → written ≡ new → IsScheduleAfter d (timetable written places) (with_all_started contents history)
    after_all_started after written e = rw e (after_call table numbers _ (after (λ k. log_of k history) placed had.countdowns) _ (λ k lt. refl))

    module _ (laws : IsDictionary d contents) (current : AllCurrent contents history) (sent : List ℕ) where
      module _ (o : Occasion) (due : (logs : ℕ → Log) → ArePlaces d (map (λ t. t.number) old) slice → AllAfter old logs → AllCurrentAfter contents logs → sent ≡ filter (λ k. is_due (settings_of contents k) (logs k) o) (map (λ t. t.number) old)) where
        pub all_due_is : sent ≡ all_due contents history o
        all_due_is = due_numbers d (λ k. is_tpdo_due contents history o k) old sent (λ k h. absent_not_due d contents history o k laws h) had.numbers (due (λ k. log_of k history) placed had.countdowns current)

        pub after_occasion : ((logs : ℕ → Log) → ArePlaces d (map (λ t. t.number) old) slice → AllAfter old logs → AllCurrentAfter contents logs → AllAfter new (with_occasion contents o logs))
            → (call : Call) → ((k : ℕ) → Happened o (settings_of contents k) (is_among k sent) ∷ [] ≡ part_of k call contents sent) → (written : List Tpdo) → written ≡ new
            → IsScheduleAfter d (timetable written places) (record { call = call; contents = contents; sent = sent } ∷ history)
        after_occasion after call each written e = rw e (after_call table numbers _ (after (λ k. log_of k history) placed had.countdowns current) _ (λ k lt.
            ap (λ b. Happened o (settings_of contents k) b ∷ log_of k history) (sym (ap (is_among k) all_due_is ∙ among_range (λ j. is_tpdo_due contents history o j) k lt))
            ∙ ap (λ (entries : Log). entries ++ log_of k history) (each k)))

      module _ (asked : List ℕ) (due : (logs : ℕ → Log) → ArePlaces d (map (λ t. t.number) old) slice → AllAfter old logs → AllCurrentAfter contents logs → sent ≡ filter (λ k. is_among k asked && is_due (settings_of contents k) (logs k) Event) (map (λ t. t.number) old)) where
        pub all_due_among_is : sent ≡ all_due_among asked contents history
        all_due_among_is =
            due_numbers d (λ k. is_among k asked && is_tpdo_due contents history Event k) old sent (λ k h. ap (λ b. is_among k asked && b) (absent_not_due d contents history Event k laws h) ∙ and-false (is_among k asked))
            had.numbers (due (λ k. log_of k history) placed had.countdowns current)

        pub after_events : ((logs : ℕ → Log) → ArePlaces d (map (λ t. t.number) old) slice → AllAfter old logs → AllCurrentAfter contents logs → AllAfter new (with_events_among asked contents logs)) → (written : List Tpdo) → written ≡ new → IsScheduleAfter d (timetable written places) (with_events asked contents sent history)
        after_events after written e = rw e (after_call table numbers _ (after (λ k. log_of k history) placed had.countdowns current) _ (λ k lt.
            log_asked (is_among k asked) (is_among k sent) (is_tpdo_due contents history Event k) (settings_of contents k) (log_of k history)
            (ap (is_among k) all_due_among_is ∙ among_range (λ j. is_among j asked && is_tpdo_due contents history Event j) k lt)))
