-- Which heartbeats of other nodes are lost at a tick, by the ticks since the last ones.
use Rattle.std.proofs.Common.{◌≡◌, ℕ, suc, zero, ◌+◌, ◌-◌, ◌<◌, ◌≤◌, Bool, true, false, cond, [], ◌∷◌, Option, Some, None, refl, ap, ◌∙◌, arith}
use Rattle.std.specs.Prelude.{◌==◌, ◌&&◌, ◌||◌, is_some, is_none, slice_index}
use Rattle.std.specs.List.{filter, list_any, range_with_len}
use Rattle.std.proofs.lemmas.Bool.Decides.{nat_tests}
use Rattle.std.proofs.lemmas.List.FromFn.{get_or-map-range_with_len}
use Rattle.std.proofs.lemmas.Map.Views.{any-filter_same}
use Rattle.co_value.specs.declared.key.Key.{Key}
use Rattle.co_value.specs.Keys.{same_key, same_key-is}
use Rattle.co_dict.specs.Rows.{Contents, number_at}
use Rattle.co_dict.specs.ConsumerHeartbeats.{consumer_key}
use Rattle.co_pdo.specs.Schedules.{is_among}
use Rattle.co_node_parts.specs.declared.heartbeat_consumer.ConsumerEvent.{ConsumerEvent}
use Rattle.co_node_parts.specs.declared.heartbeat_consumer.ConsumerEvent.TheVariants as one
use Rattle.co_node_parts.specs.declared.heartbeat_consumers.ConsumersEvent.TheVariants as consumers
use Rattle.co_node_parts.specs.Consumers.{ConsumerLog, monitored_by, monitored_after, later, silence, is_over_after, is_lost}
use Rattle.co_node_parts.specs.ConsumerTables.{ConsumersCall, Noted, AllBegun, event_of, entry_log, entry_subs}
use Rattle.co_node_model.specs.declared.address.Address.TheVariants.{Sync, Rpdo}
use Rattle.co_node_model.specs.declared.mark.Mark.{Mark}
use Rattle.co_node_model.specs.declared.mark.Mark.TheVariants as was
use Rattle.co_node_model.specs.Inputs.{InputView, Inputs, Ticked, Written}
use Rattle.co_node_model.specs.Keys.{is_set}
use Rattle.co_node_model.specs.Nmt.{is_reset}
use Rattle.co_node_model.specs.Heartbeats.{is_consumer_key, consumer_words, begin_event, heard_event, consumers_call, consumers_log}
use Rattle.co_node_model.specs.Moments.{Constants}
use Rattle.co_node_model.specs.Device.{moments}
use Rattle.co_node_model.specs.Marks.{marked_heartbeat, marked_key, marked_tick}
use Rattle.co_node_laws.specs.Kinds.{is_tick}
use Rattle.co_node_laws.proofs.Ticks.{ticked_is}
use Rattle.co_node_laws.specs.Distances.{moment_at, begins_entry, heard_after, silence_after, monitored, ticks_silent, is_time_passed}
use Rattle.co_node_laws.proofs.Kept.{by_reset}

-- ---- an input that is a tick or a heartbeat sets no entry

apart : (mark : Mark) → (marked_tick mark || is_some (marked_heartbeat mark)) && is_some (marked_key mark) ≡ false
apart was.Quiet = refl
apart (was.Command service) = refl
apart (was.Written key) = refl
apart (was.Sync frame) = refl
apart (was.Rpdo frame) = refl
apart (was.Heard node) = refl
apart (was.Tick timed_out) = refl
apart (was.Asked asked) = refl

-- ---- what a call is to an entry

word_at : (c : Contents) (sub : ℕ) → 1 ≤ sub → sub ≤ 127 → slice_index (consumer_words c) (sub - 1) ≡ number_at c (consumer_key sub)
unfolding consumer_words
word_at c sub low high = get_or-map-range_with_len (λ n. number_at c (consumer_key n)) 1 127 (sub - 1) sub 0 (omega (arith, low, high)) (omega (arith, low))

abbrev of_heard : Option ℕ → ConsumerEvent
of_heard None = one.Quiet
of_heard (Some node) = one.Heard node

abbrev call_by : Bool → Bool → Option ℕ → Option Key → Contents → ConsumersCall
call_by reset ticked heard set c = cond reset (AllBegun (consumer_words c)) (Noted (cond ticked consumers.Tick (cond (is_none heard) (begin_event c set) (heard_event heard))))

other_entry : (c : Contents) (key : Key) (sub : ℕ) (b : Bool) → is_consumer_key key ≡ b → same_key key (consumer_key sub) ≡ false
    → event_of sub (Noted (cond b (consumers.Begin key.sub (number_at c key)) consumers.Quiet)) ≡ one.Quiet
other_entry c key sub false is differs = refl
other_entry c key sub true is differs =
    let other : (sub == key.sub) ≡ false = grind (arith, nat_tests) in
    ap (λ b. cond b (one.Begin (number_at c key)) one.Quiet) other

begun : (c : Contents) (key : Key) (sub : ℕ) (b : Bool) → same_key key (consumer_key sub) ≡ b → 1 ≤ sub → sub ≤ 127
    → event_of sub (Noted (begin_event c (Some key))) ≡ cond b (one.Begin (number_at c (consumer_key sub))) one.Quiet
begun c key sub true is low high =
    let here : is_consumer_key (consumer_key sub) ≡ true = grind (arith, nat_tests) in
    let self : (sub == sub) ≡ true = grind (arith, nat_tests) in
    ap (λ (k : Key). event_of sub (Noted (begin_event c (Some k)))) (same_key-is key (consumer_key sub) is)
    ∙ ap (λ b. event_of sub (Noted (cond b (consumers.Begin sub (number_at c (consumer_key sub))) consumers.Quiet))) here
    ∙ ap (λ b. cond b (one.Begin (number_at c (consumer_key sub))) one.Quiet) self
begun c key sub false is low high = other_entry c key sub (is_consumer_key key) refl is

entry_by : (reset ticked : Bool) (heard : Option ℕ) (set : Option Key) (c : Contents) (sub : ℕ) → (ticked || is_some heard) && is_some set ≡ false → 1 ≤ sub → sub ≤ 127
    → event_of sub (call_by reset ticked heard set c) ≡ cond (reset || is_set set (consumer_key sub)) (one.Begin (number_at c (consumer_key sub))) (cond ticked one.Tick (of_heard heard))
entry_by true ticked heard set c sub apart low high = ap (λ word. one.Begin word) (word_at c sub low high)
entry_by false true heard None c sub apart low high = refl
entry_by false true heard (Some key) c sub apart low high = absurd (cc)
entry_by false false (Some node) None c sub apart low high = refl
entry_by false false (Some node) (Some key) c sub apart low high = absurd (cc)
entry_by false false None None c sub apart low high = refl
entry_by false false None (Some key) c sub apart low high = begun c key sub (same_key key (consumer_key sub)) refl low high

entry_is : (k : Constants) (inputs : Inputs) (input : InputView) (sub : ℕ) → 1 ≤ sub → sub ≤ 127
    → event_of sub (consumers_call (moment_at k inputs input).mark (moment_at k inputs input).received)
    ≡ cond (begins_entry sub (moment_at k inputs input).mark) (one.Begin (number_at (moment_at k inputs input).received (consumer_key sub))) (cond (marked_tick (moment_at k inputs input).mark) one.Tick (of_heard (marked_heartbeat (moment_at k inputs input).mark)))
entry_is k inputs input sub low high =
    let m = moment_at k inputs input in
    entry_by (is_reset m.mark) (marked_tick m.mark) (marked_heartbeat m.mark) (marked_key m.mark) m.received sub (apart m.mark) low high

-- ---- what is monitored, and how long ago it was heard

monitored_with : (begins ticked : Bool) (heard : Option ℕ) (word : ℕ) (log : ConsumerLog) → monitored_after (cond begins (one.Begin word) (cond ticked one.Tick (of_heard heard)) ∷ log) ≡ cond begins (monitored_by word) (monitored_after log)
monitored_with true ticked heard word log = refl
monitored_with false true heard word log = refl
monitored_with false false None word log = refl
monitored_with false false (Some node) word log = refl

silence_with : (begins ticked : Bool) (heard : Option ℕ) (word : ℕ) (log : ConsumerLog) → silence (cond begins (one.Begin word) (cond ticked one.Tick (of_heard heard)) ∷ log) ≡ cond begins None (cond ticked (later (silence log)) (heard_after heard (monitored_after log) (silence log)))
silence_with true ticked heard word log = refl
silence_with false true heard word log = refl
silence_with false false None word log = refl
silence_with false false (Some node) word log = refl

pub monitored_is : (k : Constants) (sub : ℕ) (inputs : Inputs) → 1 ≤ sub → sub ≤ 127 → monitored_after (entry_log sub (consumers_log k (moments k inputs))) ≡ monitored k sub inputs
monitored_is k sub [] low high = ap monitored_by (word_at k.start sub low high)
monitored_is k sub (input ∷ inputs) low high =
    let m = moment_at k inputs input in
    let log = entry_log sub (consumers_log k (moments k inputs)) in
    let word = number_at m.received (consumer_key sub) in
    ap (λ e. monitored_after (e ∷ log)) (entry_is k inputs input sub low high)
    ∙ monitored_with (begins_entry sub m.mark) (marked_tick m.mark) (marked_heartbeat m.mark) word log
    ∙ ap (λ o. cond (begins_entry sub m.mark) (monitored_by word) o) (monitored_is k sub inputs low high)

pub silence_is : (k : Constants) (sub : ℕ) (inputs : Inputs) → 1 ≤ sub → sub ≤ 127 → silence (entry_log sub (consumers_log k (moments k inputs))) ≡ ticks_silent k sub inputs
silence_is k sub [] low high = refl
silence_is k sub (input ∷ inputs) low high =
    let m = moment_at k inputs input in
    let log = entry_log sub (consumers_log k (moments k inputs)) in
    let word = number_at m.received (consumer_key sub) in
    ap (λ e. silence (e ∷ log)) (entry_is k inputs input sub low high)
    ∙ silence_with (begins_entry sub m.mark) (marked_tick m.mark) (marked_heartbeat m.mark) word log
    ∙ ap (λ o. cond (begins_entry sub m.mark) None (silence_after m.mark o (silence log))) (monitored_is k sub inputs low high)
    ∙ ap (λ o. cond (begins_entry sub m.mark) None (silence_after m.mark (monitored k sub inputs) o)) (silence_is k sub inputs low high)

-- ---- which are lost

pub same : (a b : ℕ) → (a == b) ≡ true → a ≡ b
same a b e = grind (arith, nat_tests)

among_next : (a sub : ℕ) (rest b : Bool) → (a == sub) ≡ b → ((a == sub) ≡ false → rest ≡ true) → b || rest ≡ true
among_next a sub rest true e next = refl
among_next a sub rest false e next = next e

pub among_range : (a n sub : ℕ) → a ≤ sub → sub < a + n → list_any (λ m. m == sub) (range_with_len a n) ≡ true
among_range a zero sub low high = absurd (omega (arith, low, high))
among_range a (suc n) sub low high = among_next a sub (list_any (λ m. m == sub) (range_with_len (a + 1) n)) (a == sub) refl (λ e. among_range (a + 1) n sub (grind (arith, nat_tests)) (omega (arith, high)))

among_entries : (sub : ℕ) → 1 ≤ sub → sub ≤ 127 → is_among sub entry_subs ≡ true
unfolding entry_subs
among_entries sub low high = among_range 1 127 sub low (omega (arith, high))

among_filter : (p : ℕ → Bool) (sub : ℕ) → 1 ≤ sub → sub ≤ 127 → is_among sub (filter p entry_subs) ≡ p sub
among_filter p sub low high =
    any-filter_same (λ m. m == sub) p (p sub) (λ m e. ap p (same m sub e)) entry_subs
    ∙ ap (λ b. p sub && b) (among_entries sub low high)
    ∙ right_true (p sub)
  where
    right_true : (b : Bool) → b && true ≡ b
    right_true true = refl
    right_true false = refl

pub at_tick : (k : Constants) (inputs : Inputs) (sub : ℕ) → 1 ≤ sub → sub ≤ 127 → is_among sub (moment_at k inputs Ticked).lost ≡ is_time_passed k sub inputs
at_tick k inputs sub low high =
    let log = consumers_log k (moments k inputs) in
    among_filter (λ n. is_lost (event_of n (Noted consumers.Tick)) (entry_log n log)) sub low high
    ∙ ap (λ o. is_over_after o (monitored_after (entry_log sub log))) (silence_is k sub inputs low high)
    ∙ ap (λ o. is_over_after (ticks_silent k sub inputs) o) (monitored_is k sub inputs low high)

pub elsewhere : (k : Constants) (inputs : Inputs) (input : InputView) → is_tick input ≡ false → (moment_at k inputs input).lost ≡ []
elsewhere k inputs input off =
    let m = moment_at k inputs input in
    let ticked : marked_tick m.mark ≡ false = ticked_is k inputs input ∙ off in
    by_reset m.mark m.received (consumers_log k (moments k inputs)) (is_reset m.mark) refl ticked
