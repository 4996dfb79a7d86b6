-- All heartbeat consumers after one of them took note of what a call is to it.
use Rattle.std.proofs.Common.{◌≡◌, ◌≢◌, ℕ, ◌+◌, ◌<◌, ◌≤◌, Bool, true, false, cond, eqb, ltb, zero, suc, List, [], ◌∷◌, ◌++◌, length, get_or, set, refl, sym, ap, ◌∙◌, subst, arith, append-nil, length-append, get_or-set_same, get_or-set_other}
use Rattle.std.specs.Prelude.{Option, Some, None}
use Rattle.std.specs.List.{filter, range_with_len}
use Rattle.std.proofs.Math.ListN.{replicate}
use Rattle.std.proofs.lemmas.List.{map-id, get_or-replicate, length-replicate}
use Rattle.std.proofs.lemmas.List.FromFn.{filter_of_map_range_with_len_more}
use Rattle.std.proofs.lemmas.Bool.Decides.{nat_tests}
use Rattle.co_node_parts.specs.declared.heartbeat_consumer.ConsumerEvent.{ConsumerEvent}
use Rattle.co_node_parts.specs.declared.heartbeat_consumer.HeartbeatConsumer.{HeartbeatConsumer}
use Rattle.co_node_parts.specs.declared.heartbeat_consumers.ConsumersEvent.{ConsumersEvent}
use Rattle.co_node_parts.specs.declared.heartbeat_consumers.ConsumersEvent.TheVariants.{Begin, Heard, Tick, Quiet}
use Rattle.co_node_parts.specs.Consumers.{ConsumerLog, ConsumerStands, is_lost, is_over_after, monitored_after, silence, time_left}
use Rattle.co_node_parts.specs.ConsumerTables.{AllStand, AreIdleFrom, ArePassedFrom, IsPassed, Noted, entry_subs, event_of}

-- one more number of a range
range_more : (p : ℕ → Bool) (n : ℕ) → filter p (range_with_len 1 (n + 1)) ≡ filter p (range_with_len 1 n) ++ cond (p (n + 1)) ((n + 1) ∷ []) []
range_more p n =
    ap (filter p) (sym (map-id (range_with_len 1 (n + 1)))) ∙ filter_of_map_range_with_len_more p (λ (x : ℕ). x) 1 n (n + 1) (omega arith)
    ∙ ap (λ xs. filter p xs ++ cond (p (n + 1)) ((n + 1) ∷ []) []) (map-id (range_with_len 1 n))

-- what is appended, by a test
pub pushed : (b : Bool) (k : ℕ) (before after : List ℕ) → b ≡ true → after ≡ before ++ k ∷ [] → after ≡ before ++ cond b (k ∷ []) []
pushed b k before after e a = a ∙ ap (λ t. before ++ cond t (k ∷ []) []) (sym e)

pub kept : (b : Bool) (k : ℕ) (before after : List ℕ) → b ≡ false → after ≡ before → after ≡ before ++ cond b (k ∷ []) []
kept b k before after e a = a ∙ sym (append-nil before) ∙ ap (λ t. before ++ cond t (k ∷ []) []) (sym e)

pub few_more : (b : Bool) (i k : ℕ) (before after : List ℕ) → length before ≤ i → after ≡ before ++ cond b (k ∷ []) [] → length after ≤ i + 1
few_more true i k before after h e = omega (arith, ap length e, length-append before (k ∷ []))
few_more false i k before after h e = omega (arith, ap length e, length-append before [])

-- the entries past a place are as they were
pub rest_set : (fn xs : List HeartbeatConsumer) (i : ℕ) (new : HeartbeatConsumer) → ((j : ℕ) (d : HeartbeatConsumer) → i ≤ j → get_or xs j d ≡ get_or fn j d) → (j : ℕ) (d : HeartbeatConsumer) → i + 1 ≤ j → get_or (set xs i new) j d ≡ get_or fn j d
rest_set fn xs i new rest j d le = let other : j ≢ i = omega arith in rw get_or-set_other (rest j d (omega arith))

-- the entry at a place before it took note
pub stands_here : (fn xs : List HeartbeatConsumer) (i : ℕ) (d : HeartbeatConsumer) → i < length fn → ((j : ℕ) (e : HeartbeatConsumer) → i ≤ j → get_or xs j e ≡ get_or fn j e) → (logs : ℕ → ConsumerLog) → AllStand fn logs → ConsumerStands (get_or xs i d) (logs (i + 1))
stands_here fn xs i d lt rest logs all = subst (λ (c : HeartbeatConsumer). ConsumerStands c (logs (i + 1))) (sym (rest i d (omega arith))) (all i d lt)

-- the entry at a place took note of what the call is to it
pub done_set : (event : ℕ → ConsumerEvent) (xs : List HeartbeatConsumer) (i : ℕ) (new : HeartbeatConsumer) → i < length xs → (logs : ℕ → ConsumerLog) → ConsumerStands new (event (i + 1) ∷ logs (i + 1))
    → ((j : ℕ) (e : HeartbeatConsumer) → j < i → ConsumerStands (get_or xs j e) (event (j + 1) ∷ logs (j + 1)))
    → (j : ℕ) (e : HeartbeatConsumer) → j < i + 1 → ConsumerStands (get_or (set xs i new) j e) (event (j + 1) ∷ logs (j + 1))
done_set event xs i new within logs taken done j e below = by_test (eqb j i) refl
  where
    by_test : (b : Bool) → eqb j i ≡ b → ConsumerStands (get_or (set xs i new) j e) (event (j + 1) ∷ logs (j + 1))
    by_test true h = let same : j ≡ i = grind (arith, nat_tests) in rw same (rw get_or-set_same taken)
    by_test false h = let other : j ≢ i = grind (arith, nat_tests) in rw get_or-set_other (done j e (omega arith))

-- one more entry, with whether it loses its heartbeat
pub lost_more : (p : ℕ → Bool) (i : ℕ) (b : Bool) (before after : List ℕ) → before ≡ filter p (range_with_len 1 i) → b ≡ p (i + 1) → after ≡ before ++ cond b ((i + 1) ∷ []) [] → after ≡ filter p (range_with_len 1 (i + 1))
lost_more p i b before after e is a =
    a ∙ ap (λ ys. ys ++ cond b ((i + 1) ∷ []) []) e ∙ ap (λ (w : Bool). filter p (range_with_len 1 i) ++ cond w ((i + 1) ∷ []) []) is ∙ sym (range_more p i)

-- as many entries that didn't begin
pub stand_new : (n : ℕ) (c : HeartbeatConsumer) → ConsumerStands c [] → AllStand (replicate n c) (λ sub. [])
stand_new n c h i d lt = let below : i < n = simp length-replicate at lt in subst (λ (x : HeartbeatConsumer). ConsumerStands x []) (sym (get_or-replicate n i c d below)) h

-- and monitor nothing
pub idle_new : (n : ℕ) (c : HeartbeatConsumer) → c.monitored ≡ None → AreIdleFrom 0 (replicate n c)
idle_new n c none i d le lt = let below : i < n = simp length-replicate at lt in ap (λ (x : HeartbeatConsumer). x.monitored) (get_or-replicate n i c d below) ∙ none

-- all entries are 127
pub lost_of_all : (p : ℕ → Bool) (n : ℕ) → n ≡ 127 → filter p (range_with_len 1 n) ≡ filter p entry_subs
unfolding entry_subs
lost_of_all p n e = ap (λ m. filter p (range_with_len 1 m)) e

-- none where none may be lost
pub none_lost : (subs : List ℕ) → [] ≡ filter (λ sub. false) subs
none_lost [] = refl
none_lost (sub ∷ subs) = none_lost subs

-- ---- entries that an event passes over

time_none : (o : Option ℕ) → time_left o None ≡ 0
time_none None = refl
time_none (Some n) = refl

over_none : (o : Option ℕ) → is_over_after o None ≡ false
over_none None = refl
over_none (Some n) = refl

-- nothing is monitored, before and after: so nothing is left of a time
left_idle : (c : HeartbeatConsumer) (log : ConsumerLog) (after : Option ℕ) → c.monitored ≡ None → ConsumerStands c log
    → c.left ≡ time_left after (monitored_after log)
left_idle c log after idle s =
    let m : monitored_after log ≡ None = sym s.monitored ∙ idle in
    s.left ∙ ap (time_left (silence log)) m ∙ time_none (silence log) ∙ sym (ap (time_left after) m ∙ time_none after)

passed_stands : (event : ConsumersEvent) (sub : ℕ) (c : HeartbeatConsumer) (log : ConsumerLog) → IsPassed event c → ConsumerStands c log
    → ConsumerStands c (event_of sub (Noted event) ∷ log)
passed_stands (Begin begun word) sub c log passed s = absurd passed
passed_stands (Heard node) sub c log passed s = record { monitored = s.monitored; left = left_idle c log _ passed s }
passed_stands Tick sub c log passed s = record { monitored = s.monitored; left = left_idle c log _ passed s }
passed_stands Quiet sub c log passed s = record { monitored = s.monitored; left = left_idle c log _ passed s }

passed_kept : (event : ConsumersEvent) (sub : ℕ) (c : HeartbeatConsumer) (log : ConsumerLog) → IsPassed event c → ConsumerStands c log
    → is_lost (event_of sub (Noted event)) log ≡ false
passed_kept (Begin begun word) sub c log passed s = absurd passed
passed_kept (Heard node) sub c log passed s = refl
passed_kept Tick sub c log passed s = ap (is_over_after (silence log)) (sym s.monitored ∙ passed) ∙ over_none (silence log)
passed_kept Quiet sub c log passed s = refl

pub lost_none : (p : ℕ → Bool) (b n : ℕ) → ((i : ℕ) → b ≤ i → i < b + n → p (i + 1) ≡ false) → filter p (range_with_len (b + 1) n) ≡ []
lost_none p b zero e = refl
lost_none p b (suc n) e =
    ap (λ t. cond t ((b + 1) ∷ filter p (range_with_len (b + 1 + 1) n)) (filter p (range_with_len (b + 1 + 1) n))) (e b (omega arith) (omega arith))
    ∙ lost_none p (b + 1) n (λ i low high. e i (omega arith) (omega arith))

lost_front : (p : ℕ → Bool) (b n total : ℕ) → n ≤ total → ((i : ℕ) → b + n ≤ i → i < b + total → p (i + 1) ≡ false)
    → filter p (range_with_len (b + 1) n) ≡ filter p (range_with_len (b + 1) total)
lost_front p b zero total le e = sym (lost_none p b total (λ i low high. e i (omega arith) high))
lost_front p b (suc n) zero le e = absurd (omega (arith, le))
lost_front p b (suc n) (suc total) le e =
    ap (λ xs. cond (p (b + 1)) ((b + 1) ∷ xs) xs) (lost_front p (b + 1) n total (omega (arith, le)) (λ i low high. e i (omega arith) (omega arith)))

module _ (event : ConsumersEvent) (entries : List HeartbeatConsumer) (used n : ℕ) (at : n ≡ used) (within : used ≤ length entries)
    (passed : ArePassedFrom event used entries) (logs : ℕ → ConsumerLog) (all : AllStand entries logs) where
  -- an entry without a heartbeat
  none : HeartbeatConsumer
  none = record { monitored = None; left = 0 }

  -- those that are passed over lose nothing
  pub lost_used : (lost : List ℕ) → lost ≡ filter (λ sub. is_lost (event_of sub (Noted event)) (logs sub)) (range_with_len 1 n)
      → lost ≡ filter (λ sub. is_lost (event_of sub (Noted event)) (logs sub)) (range_with_len 1 (length entries))
  lost_used lost e =
      let p : ℕ → Bool = λ sub. is_lost (event_of sub (Noted event)) (logs sub) in
      e ∙ ap (λ (m : ℕ). filter p (range_with_len 1 m)) at
      ∙ lost_front p 0 used (length entries) within
      (λ i low high. passed_kept event (i + 1) (get_or entries i none) (logs (i + 1)) (passed i none (omega arith) (omega arith)) (all i none (omega arith)))

  -- and stand as they are
  pub stand_used : (after : List HeartbeatConsumer)
      → ((j : ℕ) (d : HeartbeatConsumer) → n ≤ j → get_or after j d ≡ get_or entries j d)
      → ((j : ℕ) (d : HeartbeatConsumer) → j < n → ConsumerStands (get_or after j d) (event_of (j + 1) (Noted event) ∷ logs (j + 1)))
      → (j : ℕ) (d : HeartbeatConsumer) → j < length entries → ConsumerStands (get_or after j d) (event_of (j + 1) (Noted event) ∷ logs (j + 1))
  stand_used after rest done j d lt = by_test (ltb j n) refl
    where
      by_test : (b : Bool) → ltb j n ≡ b → ConsumerStands (get_or after j d) (event_of (j + 1) (Noted event) ∷ logs (j + 1))
      by_test true h = done j d (grind (arith, nat_tests))
      by_test false h =
          let le : n ≤ j = grind (arith, nat_tests) in
          subst (λ (c : HeartbeatConsumer). ConsumerStands c (event_of (j + 1) (Noted event) ∷ logs (j + 1))) (sym (rest j d le))
          (passed_stands event (j + 1) (get_or entries j d) (logs (j + 1)) (passed j d (omega arith) lt) (all j d lt))

-- ---- from which entry on none monitors anything

-- those from there on stay so where they are as they were
pub idle_kept : (entries after : List HeartbeatConsumer) (used : ℕ) → length after ≡ length entries → AreIdleFrom used entries
    → ((i : ℕ) (d : HeartbeatConsumer) → used ≤ i → get_or after i d ≡ get_or entries i d) → AreIdleFrom used after
idle_kept entries after used same idle rest i d le lt =
    ap (λ (c : HeartbeatConsumer). c.monitored) (rest i d le) ∙ idle i d le (omega arith)
