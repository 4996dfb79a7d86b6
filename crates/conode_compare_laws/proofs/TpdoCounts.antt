-- How many SYNCs a device has counted since it sent a TPDO that answers each n-th one.
use Rattle.std.proofs.Common.{◌≡◌, ℕ, ◌+◌, ◌%◌, ◌<◌, ◌≤◌, Bool, true, false, List, [], ◌∷◌, ◌++◌, length, Option, Some, None, suc, refl, ap, sym, ◌∙◌, subst, arith, add-one, ltb, ◌⊎◌, inl, inr}
use Rattle.std.specs.Prelude.{if◌then◌else◌, ◌==◌, ◌&&◌, nat_le, not}
use Rattle.std.proofs.Math.Nat.{suc-mod, mod_self, mod-eq_of_lt, mod-lt}
use Rattle.std.proofs.lemmas.Bool.{and_parts, eqb-true}
use Rattle.std.proofs.lemmas.Bool.Decides.{nat_tests}
use Rattle.co_dict.specs.Rows.{Contents, number_at}
use Rattle.co_dict.specs.Stores.{Description}
use Rattle.co_frame.specs.declared.nmt.NmtService.{NmtService}
use Rattle.co_frame.specs.declared.nmt.NmtService.TheVariants.{Start, Stop, EnterPreOperational, ResetNode, ResetCommunication}
use Rattle.co_profile.specs.Keys.{counter_overflow_key}
use Rattle.co_profile.specs.TransmissionTypes as types
use Rattle.co_pdo.specs.declared.settings.Settings.{Settings}
use Rattle.co_pdo.specs.declared.tpdo.Occasion.TheVariants as occasion
use Rattle.co_pdo.specs.Due.{begins_count, counted_syncs, event_since_sync, has_begun, is_due, is_due_at_sync, is_due_by_count, since_beginning, syncs}
use Rattle.co_pdo.specs.Log.{Happened, Log, LogEntry}
use Rattle.co_pdo.specs.Schedules.{History as Schedule, is_among, is_tpdo_due, log_of, sync_with}
use Rattle.co_pdo.specs.Tpdos.{settings_of, tpdo_key}
use Rattle.co_node_parts.specs.NmtStates.{is_state}
use Rattle.co_node_parts.specs.declared.nmt_state.NodeState.{NodeState}
use Rattle.co_node_parts.specs.declared.nmt_state.NodeState.TheVariants as node
use Rattle.co_node_parts.specs.declared.nmt_state.NodeState.TheVariants.{Operational}
use Rattle.co_node_model.specs.declared.turn.Turn.{Turn}
use Rattle.co_node_model.specs.declared.turn.Turn.TheVariants as turn
use Rattle.co_node_model.specs.Device.{moment, moments, state_of}
use Rattle.co_node_model.specs.Inputs.{InputView, Inputs}
use Rattle.co_node_model.specs.Marks.{marked_key}
use Rattle.co_node_model.specs.Moments.{Constants, History, Moment}
use Rattle.co_node_model.specs.Nmt.{is_reset, is_reset_by, state_at}
use Rattle.co_node_model.specs.Tpdos.{due_at, numbers_asked, schedule_log, turn_at, turn_with}
use Rattle.co_node_laws.specs.TpdoDistances.{tpdo_log, turn_log}
use Rattle.conode_compare_pdos.specs.Cycles.{is_cyclic}
use Rattle.conode_compare_nmt.specs.declared.finding.NmtState.TheVariants.{PreOperational}
use Rattle.conode_compare_laws.specs.TpdoParameters.{KeepsTpdos}
use Rattle.conode_compare_laws.proofs.Inputs.{command_in, command_is, end_shown, state_by}
use Rattle.conode_compare_laws.proofs.Shown.{is_shown}
use Rattle.conode_compare_laws.proofs.TpdoDue.{among_filter, tpdo_number}
use Rattle.conode_compare_laws.proofs.TpdoLogs.{is_start, log_is, no_start}
use Rattle.conode_compare_laws.proofs.TpdoSyncs.{due_event, no_count}
use Rattle.conode_compare_laws.proofs.TpdoTurns.{is_sync_turn}

-- ---- numbers

at_least_none : (a : ℕ) → 0 ≤ a
at_least_none a = omega arith

with_more : (a b : ℕ) → a ≤ a + b
with_more a b = omega arith

below : (a b : ℕ) → a < b → a ≤ b
below a b less = omega arith

never_next : (a b : ℕ) → a ≡ b + 1 → a ≡ 0 → ⊥
never_next a b next none = absurd (omega arith)

at_end : (a b : ℕ) → a ≡ b → b ≤ a
at_end a b same = omega arith

-- one more, modulo n: it goes around, or it is one more
next_mod : (i n : ℕ) → 0 < n → ((n ≤ i % n + 1) × ((i + 1) % n ≡ 0)) ⊎ ((i + 1) % n ≡ i % n + 1)
next_mod i n some = by (ltb (i % n + 1) n) refl
  where
    step : (i + 1) % n ≡ (i % n + 1) % n
    step = rw (add-one, suc-mod i n, add-one) refl

    by : (b : Bool) → ltb (i % n + 1) n ≡ b → ((n ≤ i % n + 1) × ((i + 1) % n ≡ 0)) ⊎ ((i + 1) % n ≡ i % n + 1)
    by true e = let less : i % n + 1 < n = grind (arith, nat_tests) in inr (step ∙ mod-eq_of_lt less)
    by false e =
        let less : i % n < n = mod-lt i some in
        let same : i % n + 1 ≡ n = grind (arith, nat_tests) in
        inl (at_end (i % n + 1) n same, step ∙ ap (λ m. m % n) same ∙ mod_self n)

none_mod : (n i : ℕ) → 0 < n → 0 % n ≤ i
none_mod n i some = subst (λ m. m ≤ i) (sym (mod-eq_of_lt some)) (at_least_none i)

next_most : (i n : ℕ) → 0 < n → (i + 1) % n ≤ i % n + 1
next_most i n some = elim (next_mod i n some) [
  | inl e ↦ subst (λ m. m ≤ i % n + 1) (sym e.1) (at_least_none (i % n + 1))
  | inr e ↦ at_end (i % n + 1) ((i + 1) % n) (sym e)
]

next_none : (i n : ℕ) → 0 < n → (i + 1) % n ≡ 0 → n ≤ i % n + 1
next_none i n some none = elim (next_mod i n some) [
  | inl e ↦ e.0
  | inr e ↦ absurd (never_next ((i + 1) % n) (i % n) e none)
]

-- ---- a log

-- how many SYNCs were counted since it was sent, of a TPDO of type n
abbrev pub waits : ℕ → Log → ℕ
waits n log = counted_syncs (syncs log) % n

one_more : (b c : Bool) (older : List Bool) → has_begun (b ∷ older) ≡ c → counted_syncs (b ∷ older) ≡ (if c then counted_syncs older + 1 else 0)
one_more b true older begun = ap (λ c. length (if c then b ∷ since_beginning older else [])) begun ∙ counted (length (since_beginning older))
  where
    counted : (n : ℕ) → suc n ≡ n + 1
    counted n = omega arith
one_more b false older begun = ap (λ c. length (if c then b ∷ since_beginning older else [])) begun

sync_most : (n : ℕ) (b : Bool) (older : List Bool) → 0 < n → counted_syncs (b ∷ older) % n ≤ counted_syncs older % n + 1
sync_most n b older some = by (has_begun (b ∷ older)) refl
  where
    by : (c : Bool) → has_begun (b ∷ older) ≡ c → counted_syncs (b ∷ older) % n ≤ counted_syncs older % n + 1
    by true begun = subst (λ i. i % n ≤ counted_syncs older % n + 1) (sym (one_more b true older begun)) (next_most (counted_syncs older) n some)
    by false begun = subst (λ i. i % n ≤ counted_syncs older % n + 1) (sym (one_more b false older begun)) (none_mod n (counted_syncs older % n + 1) some)

-- it is due at the n-th
sync_due : (n : ℕ) (b : Bool) (older : List Bool) → 0 < n → is_due_by_count n (b ∷ older) ≡ true → (n ≤ counted_syncs older % n + 1) × (counted_syncs (b ∷ older) % n ≡ 0)
sync_due n b older some due =
    let parts : (has_begun (b ∷ older) ≡ true) × (((counted_syncs (b ∷ older) % n == 0) && types.is_synchronous n) ≡ true) = and_parts (has_begun (b ∷ older)) _ due in
    let none : counted_syncs (b ∷ older) % n ≡ 0 = eqb-true (counted_syncs (b ∷ older) % n) 0 (and_parts _ (types.is_synchronous n) parts.1).0 in
    (next_none (counted_syncs older) n some (ap (λ i. i % n) (sym (one_more b true older parts.0)) ∙ none), none)

-- ---- a turn

some_of : (n : ℕ) → is_cyclic n ≡ true → 0 < n
some_of n cyclic = let least : nat_le 2 n ≡ true = (and_parts (nat_le 2 n) (nat_le n 240) cyclic).0 in grind (arith, nat_tests)

pub most_of : (n : ℕ) → is_cyclic n ≡ true → n ≤ 240
most_of n cyclic = let most : nat_le n 240 ≡ true = (and_parts (nat_le 2 n) (nat_le n 240) cyclic).1 in grind (arith, nat_tests)

no_event : (n : ℕ) → is_cyclic n ≡ true → types.is_event_driven n ≡ true → ⊥
no_event n cyclic event =
    absurd (let no : nat_le n 240 ≡ false = no_count n event in let most : nat_le n 240 ≡ true = (and_parts (nat_le 2 n) (nat_le n 240) cyclic).1 in cc)

-- What a turn is to a TPDO of type n, with so many SYNCs counted before it and after it: a SYNC counts one at most, and the TPDO is
-- sent at the n-th alone.
pub record Counts (n number : ℕ) (t : Turn) (due : List ℕ) (before after : ℕ) : Type 0 where
  pub most : after ≤ before + (if is_sync_turn t then 1 else 0)
  pub sent : is_among number due ≡ true → (is_sync_turn t ≡ true) × (n ≤ before + 1) × (after ≡ 0)

unsent_still : (n number : ℕ) (t : Turn) (due : List ℕ) (before : ℕ) → (is_among number due ≡ true → ⊥) → Counts n number t due before before
unsent_still n number t due before off = record { most = with_more before (if is_sync_turn t then 1 else 0); sent = λ is. absurd (off is) }

none_among : (number : ℕ) → is_among number [] ≡ true → ⊥
none_among number is = absurd (cc)

some_not_zero : (n : ℕ) → is_cyclic n ≡ true → (n == 0) ≡ false
some_not_zero n cyclic = let least : nat_le 2 n ≡ true = (and_parts (nat_le 2 n) (nat_le n 240) cyclic).0 in grind (arith, nat_tests)

by_count : (n : ℕ) (events counts : Bool) → (n == 0) ≡ false → (if n == 0 then events else counts) ≡ true → counts ≡ true
by_count n events counts off due = sym (ap (λ b. if b then events else counts) off) ∙ due

due_by_count : (s : Settings) (log : Log) (overflow : ℕ) (counter : Option ℕ) (n : ℕ) → is_cyclic n ≡ true → s.transmission_type.0 ≡ n → is_due s log (occasion.Sync overflow counter) ≡ true
    → is_due_by_count n (begins_count s.start_value overflow counter ∷ syncs log) ≡ true
due_by_count s log overflow counter n cyclic kind due =
    let sync : LogEntry = Happened (occasion.Sync overflow counter) s false in
    by_count n (event_since_sync log) (is_due_by_count n (syncs (sync ∷ log))) (some_not_zero n cyclic) (subst (λ i. is_due_at_sync i log sync ≡ true) kind (and_parts s.is_active _ due).1)

asked_same : (there sent : Bool) (s : Settings) (log : Log) → syncs ((if there then Happened occasion.Event s sent ∷ [] else []) ++ log) ≡ syncs log
asked_same true sent s log = refl
asked_same false sent s log = refl

turn_counts : (d : Description) (number n : ℕ) (t : Turn) (c : Contents) (schedule : Schedule) → number < 512 → is_cyclic n ≡ true → number_at c (tpdo_key number 2) ≡ n → is_start t ≡ false
    → Counts n number t (due_at d t c schedule) (waits n (log_of number schedule)) (waits n (turn_log d number t c (due_at d t c schedule) ++ log_of number schedule))
turn_counts d number n turn.Quiet c schedule less cyclic kind off = unsent_still n number turn.Quiet [] (waits n (log_of number schedule)) (none_among number)
turn_counts d number n turn.StartAll c schedule less cyclic kind off = record { most = none_mod n _ (some_of n cyclic); sent = λ is. absurd (none_among number is) }
turn_counts d number n (turn.Start j part) c schedule less cyclic kind off = absurd (cc)
turn_counts d number n (turn.Sync counter) c schedule less cyclic kind off =
    let s : Settings = settings_of c number in
    let log : Log = log_of number schedule in
    let overflow : ℕ = number_at c counter_overflow_key in
    let begins : Bool = begins_count s.start_value overflow counter in
    record {
      most = sync_most n begins (syncs log) (some_of n cyclic);
      sent = λ is.
          let due : is_tpdo_due c schedule (sync_with counter c) number ≡ true = sym (among_filter (λ j. is_tpdo_due c schedule (sync_with counter c) j) number less) ∙ is in
          let parts : (n ≤ waits n log + 1) × (counted_syncs (begins ∷ syncs log) % n ≡ 0) = sync_due n begins (syncs log) (some_of n cyclic) (due_by_count s log overflow counter n cyclic kind due) in
          (refl, parts.0, parts.1);
    }
turn_counts d number n (turn.Asked asked) c schedule less cyclic kind off =
    let log : Log = log_of number schedule in
    let due : List ℕ = due_at d (turn.Asked asked) c schedule in
    let same : waits n (turn_log d number (turn.Asked asked) c due ++ log) ≡ waits n log =
    ap (λ l. counted_syncs l % n) (asked_same (is_among number (numbers_asked d c asked)) (is_among number due) (settings_of c number) log) in
    subst (Counts n number (turn.Asked asked) due (waits n log)) (sym same)
    (unsent_still n number (turn.Asked asked) due (waits n log)
    (λ is.
    let now : is_tpdo_due c schedule occasion.Event number ≡ true =
    (and_parts (is_among number (numbers_asked d c asked)) (is_tpdo_due c schedule occasion.Event number)
    (sym (among_filter (λ j. is_among j (numbers_asked d c asked) && is_tpdo_due c schedule occasion.Event j) number less) ∙ is)).1 in
    no_event n cyclic (ap types.is_event_driven (sym kind) ∙ due_event (settings_of c number) log occasion.Event now refl)))
turn_counts d number n turn.Tick c schedule less cyclic kind off =
    let log : Log = log_of number schedule in
    unsent_still n number turn.Tick (due_at d turn.Tick c schedule) (waits n log)
    (λ is.
    let now : is_tpdo_due c schedule occasion.Tick number ≡ true = sym (among_filter (λ j. is_tpdo_due c schedule occasion.Tick j) number less) ∙ is in
    no_event n cyclic (ap types.is_event_driven (sym kind) ∙ due_event (settings_of c number) log occasion.Tick now refl))

-- ---- the turn of an input, by whether the device is operational after it and before it

abbrev turn_in : Bool → Bool → Turn → Turn
turn_in after before t = if not after then turn.Quiet else (if not before then turn.StartAll else t)

by_states : (d : Description) (number n : ℕ) (after before : Bool) (t : Turn) (c : Contents) (schedule : Schedule) → number < 512 → is_cyclic n ≡ true → number_at c (tpdo_key number 2) ≡ n → is_start (turn_in after before t) ≡ false
    → Counts n number (turn_in after before t) (due_at d (turn_in after before t) c schedule) (if before then waits n (log_of number schedule) else 0)
    (if after then waits n (turn_log d number (turn_in after before t) c (due_at d (turn_in after before t) c schedule) ++ log_of number schedule) else 0)
by_states d number n false before t c schedule less cyclic kind off = record { most = at_least_none _; sent = λ is. absurd (none_among number is) }
by_states d number n true false t c schedule less cyclic kind off = record { most = none_mod n _ (some_of n cyclic); sent = λ is. absurd (none_among number is) }
by_states d number n true true t c schedule less cyclic kind off = turn_counts d number n t c schedule less cyclic kind off

none_outside : (d : Description) (number n counted : ℕ) (after : Bool) (t : Turn) (c : Contents) (schedule : Schedule) → after ≡ false
    → (if is_among number (due_at d (if not after then turn.Quiet else t) c schedule) then n else (if after then counted else 0)) ≡ 0
none_outside d number n counted false t c schedule off = refl
none_outside d number n counted true t c schedule off = absurd (cc)

-- ---- all inputs

-- the transmission type of a TPDO
abbrev pub kind_of : Constants → ℕ → ℕ
kind_of k number = number_at k.start (tpdo_key number 2)

-- how many SYNCs were counted since it was sent; none outside operational, since as that is entered the count begins anew
abbrev pub waiting : Constants → ℕ → Inputs → ℕ
waiting k number inputs = if is_state Operational (state_of k inputs) then waits (kind_of k number) (tpdo_log k number inputs) else 0

pub waiting_less : (k : Constants) (number : ℕ) (inputs : Inputs) → is_cyclic (kind_of k number) ≡ true → waiting k number inputs ≤ kind_of k number
waiting_less k number inputs cyclic = by (is_state Operational (state_of k inputs))
  where
    by : (b : Bool) → (if b then waits (kind_of k number) (tpdo_log k number inputs) else 0) ≤ kind_of k number
    by true = below (waits (kind_of k number) (tpdo_log k number inputs)) (kind_of k number) (mod-lt (counted_syncs (syncs (tpdo_log k number inputs))) (some_of (kind_of k number) cyclic))
    by false = at_least_none (kind_of k number)

pub next_counts : (k : Constants) (number : ℕ) (before : Inputs) (input : InputView) → number < 512 → is_cyclic (kind_of k number) ≡ true → KeepsTpdos k (moment k (moments k before) input)
    → Counts (kind_of k number) number (turn_at (moment k (moments k before) input) (moments k before)) (moment k (moments k before) input).due (waiting k number before) (waiting k number (input ∷ before))
next_counts k number before input less cyclic keeps =
    let history : History = moments k before in
    let m : Moment = moment k history input in
    let t : Turn = turn_at m history in
    let n : ℕ = kind_of k number in
    subst
    (λ log. Counts n number t m.due (if is_state Operational (state_at history) then waits n log else 0) (if is_state Operational (state_at (m ∷ history)) then waits n (turn_log k.description number t m.contents m.due ++ log) else 0))
    (log_is k number before)
    (by_states k.description number n (is_state Operational (state_at (m ∷ history))) (is_state Operational (state_at history)) (turn_with (marked_key m.mark) m.mark) m.contents (schedule_log k history) less cyclic
    (tpdo_number k m number 2 keeps less) (no_start k m history keeps))

-- ---- a reset

reset_shown : (service : Option NmtService) (state : NodeState) → is_reset_by service ≡ true → is_shown PreOperational (state_by service state) ≡ true
reset_shown None state reset = absurd (cc)
reset_shown (Some Start) state reset = absurd (cc)
reset_shown (Some Stop) state reset = absurd (cc)
reset_shown (Some EnterPreOperational) state reset = absurd (cc)
reset_shown (Some ResetNode) state reset = refl
reset_shown (Some ResetCommunication) state reset = refl

left_operational : (state : NodeState) → is_shown PreOperational state ≡ true → is_state Operational state ≡ false
left_operational node.PreOperational shown = refl
left_operational node.Operational shown = absurd (cc)
left_operational node.Stopped shown = refl

-- then none is due, and none was counted
pub reset_none : (k : Constants) (number : ℕ) (before : Inputs) (input : InputView) → is_reset (moment k (moments k before) input).mark ≡ true
    → (if is_among number (moment k (moments k before) input).due then kind_of k number else waiting k number (input ∷ before)) ≡ 0
reset_none k number before input reset =
    let history : History = moments k before in
    let m : Moment = moment k history input in
    let n : ℕ = kind_of k number in
    let shown : is_shown PreOperational (state_at (m ∷ history)) ≡ true =
    end_shown k history input PreOperational (reset_shown (command_in k.description.node input) (state_at history) (sym (ap is_reset_by (command_is k history input)) ∙ reset)) in
    none_outside k.description number n (waits n (tpdo_log k number (input ∷ before))) (is_state Operational (state_at (m ∷ history)))
    (if not (is_state Operational (state_at history)) then turn.StartAll else turn_with (marked_key m.mark) m.mark) m.contents (schedule_log k history) (left_operational (state_at (m ∷ history)) shown)
