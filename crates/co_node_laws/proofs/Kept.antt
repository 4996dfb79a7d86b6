-- After an input that is no tick, no SYNC and no RPDO was received, nothing else changes the entries.
use Rattle.std.proofs.Common.{◌≡◌, ℕ, Bool, true, false, cond, eqb, List, [], ◌∷◌, Option, Some, None, refl, ap, ◌∙◌, subst, sym}
use Rattle.std.specs.Prelude.{◌||◌, is_none, if◌then◌else◌}
use Rattle.std.specs.List.{filter}
use Rattle.co_value.specs.declared.key.Key.{Key}
use Rattle.co_dict.specs.Rows.{Contents, number_at}
use Rattle.co_dict.specs.Stores.{Description}
use Rattle.co_node_parts.specs.declared.heartbeat_consumers.ConsumersEvent.{ConsumersEvent}
use Rattle.co_node_parts.specs.declared.heartbeat_consumers.ConsumersEvent.TheVariants as consumers
use Rattle.co_node_parts.specs.declared.heartbeat_consumer.ConsumerEvent.TheVariants as one
use Rattle.co_node_parts.specs.declared.nmt_state.Transition.{Transition}
use Rattle.co_node_parts.specs.declared.nmt_state.NodeState.TheVariants.{Operational, Stopped}
use Rattle.co_node_parts.specs.NmtStates.{leaves, is_state}
use Rattle.co_node_parts.specs.RpdoSlots.{SlotLog, taken_at}
use Rattle.co_node_parts.specs.ConsumerTables.{ConsumersLog, Noted, event_of, entry_log, entry_subs}
use Rattle.co_node_parts.specs.Consumers.{ConsumerLog, is_lost}
use Rattle.co_frame.specs.FrameContent.{FrameContent}
use Rattle.co_sdo.specs.Completed.{contents_with}
use Rattle.co_sdo.specs.Events.{set_of}
use Rattle.co_node_model.specs.declared.address.Address.{Address}
use Rattle.co_node_model.specs.declared.address.Address.TheVariants.{Channel}
use Rattle.co_node_model.specs.declared.mark.Mark.{Mark}
use Rattle.co_node_model.specs.Inputs.{InputView, Inputs, AppView, Applied, Written, EventOn, ChangedAt, Raised, Cleared, Framed}
use Rattle.co_node_model.specs.AppEvents.{event_refusal, with_app_event, app_contents}
use Rattle.co_node_model.specs.Rpdos.{slot_event, emptied_by, empties_slot, after_all_data, slot_log, arrival_errors, effective}
use Rattle.co_node_model.specs.Nmt.{is_reset, transition_of, state_at}
use Rattle.co_node_model.specs.Heartbeats.{is_consumer_key, begin_event, heard_event, consumers_call, consumers_log, lost_by, loss_errors}
use Rattle.co_node_model.specs.Emergencies.{all_raised}
use Rattle.co_node_model.specs.Moments.{Constants, Moment, History, channels, nothing_of}
use Rattle.co_node_model.specs.Sdo.{channel_logs}
use Rattle.co_node_model.specs.Device.{with_frame, moment, moments, contents_of, state_of}
use Rattle.co_node_model.specs.Addresses.{address_at}
use Rattle.co_node_model.specs.Marks.{marked_heartbeat, marked_key, marked_rpdo, marked_sync, marked_tick}
use Rattle.co_node_laws.proofs.MarkLemmas.{written_rpdo, written_sync, written_tick}

-- ---- no heartbeat is lost

abbrev is_tick : ConsumersEvent → Bool
is_tick consumers.Tick = true
is_tick event = false

begun : (b : Bool) (word : ℕ) (log : ConsumerLog) → is_lost (cond b (one.Begin word) one.Quiet) log ≡ false
begun true word log = refl
begun false word log = refl

none_lost : (event : ConsumersEvent) (log : ConsumersLog) (sub : ℕ) → is_tick event ≡ false → is_lost (event_of sub (Noted event)) (entry_log sub log) ≡ false
none_lost (consumers.Begin sub word) log n off = begun (eqb n sub) word (entry_log n log)
none_lost (consumers.Heard node) log n off = refl
none_lost consumers.Tick log n off = absurd (cc)
none_lost consumers.Quiet log n off = refl

none_pass : {X : Type 0} (p : X → Bool) → ((x : X) → p x ≡ false) → (xs : List X) → filter p xs ≡ []
none_pass p off [] = refl
none_pass p off (x ∷ xs) = ap (λ b. cond b (x ∷ filter p xs) (filter p xs)) (off x) ∙ none_pass p off xs

begins_no_tick : (c : Contents) (set : Option Key) → is_tick (begin_event c set) ≡ false
begins_no_tick c None = refl
begins_no_tick c (Some key) = by (is_consumer_key key)
  where
    by : (b : Bool) → is_tick (cond b (consumers.Begin key.sub (number_at c key)) consumers.Quiet) ≡ false
    by true = refl
    by false = refl

no_tick : (c : Contents) (heard : Option ℕ) (set : Option Key) → is_tick (cond (is_none heard) (begin_event c set) (heard_event heard)) ≡ false
no_tick c None set = begins_no_tick c set
no_tick c (Some node) set = refl

pub by_reset : (mark : Mark) (c : Contents) (log : ConsumersLog) (reset : Bool) → is_reset mark ≡ reset → marked_tick mark ≡ false → lost_by (consumers_call mark c) log ≡ []
by_reset mark c log true is ticked = rw is refl
by_reset mark c log false is ticked =
    rw (is, ticked) (none_pass (λ sub. is_lost (event_of sub (Noted (cond (is_none (marked_heartbeat mark)) (begin_event c (marked_key mark)) (heard_event (marked_heartbeat mark))))) (entry_log sub log))
    (λ sub. none_lost (cond (is_none (marked_heartbeat mark)) (begin_event c (marked_key mark)) (heard_event (marked_heartbeat mark))) log sub (no_tick c (marked_heartbeat mark) (marked_key mark))) entry_subs)

-- ---- no data of RPDOs

by_emptied : (set : Option Key) (log : SlotLog) → taken_at 512 (emptied_by set) log ≡ []
by_emptied None log = refl
by_emptied (Some key) log = by (empties_slot key) refl
  where
    by : (b : Bool) → empties_slot key ≡ b → taken_at 512 (emptied_by (Some key)) log ≡ []
    by true is = rw is refl
    by false is = rw is refl

pub none_taken : (d : Description) (c : Contents) (mark : Mark) (t : Transition) (log : SlotLog) (drops : Bool) (set : Option Key) → is_reset mark || leaves Operational t ≡ drops → marked_key mark ≡ set → marked_sync mark ≡ None → marked_rpdo mark ≡ None → taken_at 512 (slot_event d c mark t) log ≡ []
none_taken d c mark t log true set is e sync rpdo = rw is refl
none_taken d c mark t log false None is e sync rpdo = rw (is, sync, e, rpdo) refl
none_taken d c mark t log false (Some key) is e sync rpdo = rw (is, sync, e) (by_emptied (Some key) log)

-- ---- together

pub record IsSilent (m : Moment) : Type 0 where
  pub ticked : marked_tick m.mark ≡ false
  pub sync : marked_sync m.mark ≡ None
  pub rpdo : marked_rpdo m.mark ≡ None

pub kept : (k : Constants) (history : History) (input : InputView) → IsSilent (moment k history input) → (moment k history input).contents ≡ (moment k history input).received
kept k history input s =
    let m = moment k history input in
    let d = k.description in
    let lost : m.lost ≡ [] = by_reset m.mark m.received (consumers_log k history) (is_reset m.mark) refl s.ticked in
    let watched : m.watched ≡ m.received = ap (λ l. all_raised d.rows (loss_errors l) m.received) lost in
    let arrived : arrival_errors d m ≡ [] = rw (s.sync, s.rpdo) refl in
    let slots : taken_at 512 (slot_event d m.watched m.mark (transition_of m history)) (slot_log k history) ≡ [] = none_taken d m.watched m.mark (transition_of m history) (slot_log k history) _ (marked_key m.mark) refl refl s.sync s.rpdo in
    let taken : effective k history m ≡ [] = rw (slots, s.rpdo) refl in
    ap (λ errors. after_all_data d (all_raised d.rows errors m.watched) (effective k history m)) arrived
    ∙ ap (λ rpdos. after_all_data d m.watched rpdos) taken
    ∙ watched

silent_event : (d : Description) (event : AppView) (refusal : Option ℕ) (input : InputView) (c : Contents) → IsSilent (with_app_event d event refusal (nothing_of input c))
silent_event d event (Some code) input c = record { ticked = refl; sync = refl; rpdo = refl }
silent_event d (Written key bytes) None input c = record { ticked = refl; sync = refl; rpdo = refl }
silent_event d (EventOn n) None input c = record { ticked = refl; sync = refl; rpdo = refl }
silent_event d (ChangedAt key) None input c = record { ticked = refl; sync = refl; rpdo = refl }
silent_event d (Raised code bits manufacturer) None input c = record { ticked = refl; sync = refl; rpdo = refl }
silent_event d (Cleared bits) None input c = record { ticked = refl; sync = refl; rpdo = refl }

after_event : (k : Constants) (inputs : Inputs) (event : AppView) → contents_of k (Applied event ∷ inputs) ≡ (with_app_event k.description event (event_refusal k.description (contents_of k inputs) event) (nothing_of (Applied event) (contents_of k inputs))).received
after_event k inputs event =
    let p = silent_event k.description event (event_refusal k.description (contents_of k inputs) event) (Applied event) (contents_of k inputs) in
    kept k (moments k inputs) (Applied event) (record { ticked = p.ticked; sync = p.sync; rpdo = p.rpdo })

pub event_done : (k : Constants) (inputs : Inputs) (event : AppView) → event_refusal k.description (contents_of k inputs) event ≡ None → contents_of k (Applied event ∷ inputs) ≡ app_contents k.description event (contents_of k inputs)
event_done k inputs event done =
    after_event k inputs event
    ∙ ap (λ refusal. (with_app_event k.description event refusal (nothing_of (Applied event) (contents_of k inputs))).received) done

pub event_refused : (k : Constants) (inputs : Inputs) (event : AppView) (code : ℕ) → event_refusal k.description (contents_of k inputs) event ≡ Some code → contents_of k (Applied event ∷ inputs) ≡ contents_of k inputs
event_refused k inputs event code refused =
    after_event k inputs event
    ∙ ap (λ refusal. (with_app_event k.description event refusal (nothing_of (Applied event) (contents_of k inputs))).received) refused

-- ---- a frame that an SDO channel takes

pub silent_either : (b : Bool) (x y : Moment) → IsSilent x → IsSilent y → IsSilent (if b then x else y)
silent_either true x y p q = p
silent_either false x y p q = q

silent_request : (k : Constants) (history : History) (address : Address) (j : ℕ) (frame : FrameContent) (input : InputView) (c : Contents) → address ≡ Channel j → IsSilent (with_frame k history address frame (nothing_of input c))
silent_request k history address j frame input c is =
    subst (λ (a : Address). IsSilent (with_frame k history a frame (nothing_of input c))) (sym is)
    (silent_either (is_state Stopped (state_at history)) _ _ (record { ticked = refl; sync = refl; rpdo = refl })
    (record { ticked = written_tick _; sync = written_sync _; rpdo = written_rpdo _ }))

after_request : (k : Constants) (inputs : Inputs) (frame : FrameContent) (j : ℕ) → address_at k (moments k inputs) frame.id ≡ Channel j
    → contents_of k (Framed frame ∷ inputs) ≡ (with_frame k (moments k inputs) (Channel j) frame (nothing_of (Framed frame) (contents_of k inputs))).received
after_request k inputs frame j is =
    let p = silent_request k (moments k inputs) (address_at k (moments k inputs) frame.id) j frame (Framed frame) (contents_of k inputs) is in
    kept k (moments k inputs) (Framed frame) (record { ticked = p.ticked; sync = p.sync; rpdo = p.rpdo })
    ∙ ap (λ a. (with_frame k (moments k inputs) a frame (nothing_of (Framed frame) (contents_of k inputs))).received) is

by_stopped : (stopped b : Bool) (x y : Moment) → stopped ≡ b → (if stopped then x else y).received ≡ (if b then x else y).received
by_stopped stopped b x y is = rw is refl

pub request_running : (k : Constants) (inputs : Inputs) (frame : FrameContent) (j : ℕ) → address_at k (moments k inputs) frame.id ≡ Channel j → is_state Stopped (state_of k inputs) ≡ false
    → contents_of k (Framed frame ∷ inputs) ≡ contents_with (contents_of k inputs) (set_of (channels k) k.description (contents_of k inputs) (channel_logs (moments k inputs)) frame)
request_running k inputs frame j is running = after_request k inputs frame j is ∙ by_stopped (is_state Stopped (state_of k inputs)) false _ _ running

pub request_stopped : (k : Constants) (inputs : Inputs) (frame : FrameContent) (j : ℕ) → address_at k (moments k inputs) frame.id ≡ Channel j → is_state Stopped (state_of k inputs) ≡ true
    → contents_of k (Framed frame ∷ inputs) ≡ contents_of k inputs
request_stopped k inputs frame j is stopped = after_request k inputs frame j is ∙ by_stopped (is_state Stopped (state_of k inputs)) true _ _ stopped
