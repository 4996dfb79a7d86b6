-- The frame of an RPDO of a synchronous type takes effect at the next SYNC.
use Rattle.std.proofs.Common.{◌≡◌, ℕ, ◌-◌, Bool, true, false, cond, List, [], ◌∷◌, ◌++◌, Option, Some, None, refl, ap, ◌∙◌, sym, arith}
use Rattle.std.specs.Prelude.{◌==◌, ◌&&◌, ◌||◌, not, is_some, if◌then◌else◌}
use Rattle.std.proofs.lemmas.Bool.Decides.{nat_tests}
use Rattle.std.proofs.lemmas.List.{append-nil}
use Rattle.co_value.specs.declared.key.Key.{Key}
use Rattle.co_frame.specs.FrameContent.{FrameContent}
use Rattle.co_frame.specs.Heartbeats.{heartbeat_in}
use Rattle.co_profile.specs.Indices.{rpdo_communication}
use Rattle.co_dict.specs.Rows.{Contents}
use Rattle.co_dict.specs.Stores.{Description}
use Rattle.co_node_parts.specs.declared.nmt_state.NodeState.{NodeState}
use Rattle.co_node_parts.specs.declared.nmt_state.NodeState.TheVariants.{PreOperational, Operational, Stopped}
use Rattle.co_node_parts.specs.declared.rpdo_slots.KeptFrame.{KeptFrame}
use Rattle.co_node_parts.specs.declared.rpdo_slots.SlotEvent.{SlotEvent}
use Rattle.co_node_parts.specs.declared.rpdo_slots.SlotEvent.TheVariants as slot
use Rattle.co_node_parts.specs.NmtStates.{leaves, is_state}
use Rattle.co_node_parts.specs.RpdoSlots.{SlotLog, kept_of, taken_at, all_kept}
use Rattle.co_node_model.specs.Rpdos.{rpdo_type, is_short, empties_slot, emptied_by, kept_by, slot_event, immediate, slot_log, with_rpdo, with_pdos}
use Rattle.co_profile.specs.TransmissionTypes.{is_synchronous}
use Rattle.co_node_model.specs.Inputs.{InputView, Inputs, AppView, Framed, Ticked, Applied, Written, EventOn, ChangedAt, Raised, Cleared}
use Rattle.co_node_model.specs.AppEvents.{event_refusal, with_app_event}
use Rattle.co_node_model.specs.Nmt.{is_reset, state_at, transition_of}
use Rattle.co_node_model.specs.Heartbeats.{is_heartbeat, consumers_call, consumers_log, lost_by, with_lost, with_losses}
use Rattle.co_node_model.specs.declared.address.Address.{Address}
use Rattle.co_node_model.specs.declared.address.Address.TheVariants.{Nmt, Sync, Channel, Rpdo, ErrorControl, Nobody}
use Rattle.co_node_model.specs.Moments.{Constants, Moment, History, nothing_of}
use Rattle.co_node_model.specs.Sync.{with_sync}
use Rattle.co_node_model.specs.Device.{with_frame, moments, contents_of, state_of}
use Rattle.co_node_model.specs.Addresses.{address_at}
use Rattle.co_node_model.specs.Marks.{marked_key, marked_rpdo, marked_sync}
use Rattle.co_node_laws.specs.Distances.{moment_at}
use Rattle.co_node_laws.specs.RpdoWaits.{waiting_frame, renews, is_effective, is_newer_of, keeps_waiting, all_keep_waiting}
use Rattle.co_node_laws.proofs.Kept.{by_reset}
use Rattle.co_node_laws.proofs.Changed.{IsUncommanded, quiet_sync, quiet_rpdo}
use Rattle.co_node_laws.proofs.MarkLemmas.{command_rpdo, written_rpdo}

-- ---- it is kept as it comes

-- what this was to the frames that wait, as received in a state
abbrev slot_in : Constants → NodeState → Moment → SlotEvent
slot_in k state r = slot_event k.description r.watched r.mark (record { before = state; after = state })

-- what a moment was to them
abbrev slot_of : Constants → History → Moment → SlotEvent
slot_of k history m = slot_event k.description m.watched m.mark (transition_of m history)

slot_quiet : (k : Constants) (history : History) (r : Moment) (c : Contents) (lost : List ℕ) → lost ≡ [] → IsUncommanded r c → slot_of k history (with_lost k.description lost r) ≡ slot_in k (state_at history) r
slot_quiet k history r c lost none u = rw (none, u.command, u.received, u.watched) refl

slot_received : (k : Constants) (history : History) (r : Moment) (c : Contents) → IsUncommanded r c → slot_of k history (with_losses k history r) ≡ slot_in k (state_at history) r
slot_received k history r c u =
    slot_quiet k history r c (lost_by (consumers_call r.mark r.received) (consumers_log k history))
    (by_reset r.mark r.received (consumers_log k history) (is_reset r.mark) refl u.ticked) u

slot_rpdo : (k : Constants) (inputs : Inputs) (n : ℕ) (frame : FrameContent) → address_at k (moments k inputs) frame.id ≡ Rpdo n → state_of k inputs ≡ Operational
    → slot_of k (moments k inputs) (moment_at k inputs (Framed frame)) ≡ kept_by k.description (contents_of k inputs) (Some (record { number = n; frame = frame }))
slot_rpdo k inputs n frame is operational =
    let h = moments k inputs in
    let c = contents_of k inputs in
    ap (λ a. slot_of k h (with_losses k h (with_frame k h a frame (nothing_of (Framed frame) c)))) is
    ∙ slot_received k h (with_rpdo n (state_at h) frame (nothing_of (Framed frame) c)) c (quiet_rpdo n frame c (Framed frame) (state_at h))
    ∙ ap (λ state. slot_in k state (with_rpdo n state frame (nothing_of (Framed frame) c))) operational

self : (n : ℕ) (frame : FrameContent) (log : SlotLog) → kept_of n (slot.Keep n frame ∷ log) ≡ Some frame
self n frame log =
    let here : (n == n) ≡ true = grind (arith, nat_tests) in
    ap (λ b. cond b (Some frame) (kept_of n log)) here

pub begins : (k : Constants) (inputs : Inputs) (n : ℕ) (frame : FrameContent) → address_at k (moments k inputs) frame.id ≡ Rpdo n → state_of k inputs ≡ Operational
    → is_synchronous (rpdo_type (contents_of k inputs) n) ≡ true → is_short k.description (contents_of k inputs) (record { number = n; frame = frame }) ≡ false
    → waiting_frame k n (Framed frame ∷ inputs) ≡ Some frame
begins k inputs n frame is operational kind long =
    let log = slot_log k (moments k inputs) in
    ap (λ e. kept_of n (e ∷ log)) (slot_rpdo k inputs n frame is operational)
    ∙ ap (λ b. kept_of n (cond (b && not (is_short k.description (contents_of k inputs) (record { number = n; frame = frame }))) (slot.Keep n frame) slot.Quiet ∷ log)) kind
    ∙ ap (λ b. kept_of n (cond (not b) (slot.Keep n frame) slot.Quiet ∷ log)) long
    ∙ self n frame log

-- ---- it waits

emptied_other : (n : ℕ) (key : Key) (log : SlotLog) (b : Bool) → empties_slot key ≡ b → b && n == key.index - rpdo_communication.0 ≡ false
    → kept_of n (cond b (slot.Empty (key.index - rpdo_communication.0)) slot.Quiet ∷ log) ≡ kept_of n log
emptied_other n key log true is off = ap (λ b. cond b None (kept_of n log)) off
emptied_other n key log false is off = refl

right_true : (b : Bool) → b && true ≡ b
right_true true = refl
right_true false = refl

kept_other : (n : ℕ) (rpdo : KeptFrame) (log : SlotLog) (b : Bool) → n == rpdo.number && b ≡ false → kept_of n (cond b (slot.Keep rpdo.number rpdo.frame) slot.Quiet ∷ log) ≡ kept_of n log
kept_other n rpdo log true off = ap (λ b. cond b (Some rpdo.frame) (kept_of n log)) (sym (right_true (n == rpdo.number)) ∙ off)
kept_other n rpdo log false off = refl

not_true : (a : Bool) → not a ≡ true → a ≡ false
not_true true e = absurd (cc)
not_true false e = refl

first : (a b : Bool) → a && b ≡ true → a ≡ true
first true b e = refl
first false b e = absurd (cc)

second : (a b : Bool) → a && b ≡ true → b ≡ true
second true b e = e
second false b e = absurd (cc)

by_marks : (d : Description) (c : Contents) (n : ℕ) (ends syncs : Bool) (set : Option Key) (rpdo : Option KeptFrame) (log : SlotLog)
    → not ends && (not syncs && (not (renews n set) && not (is_newer_of n d c rpdo))) ≡ true
    → kept_of n (cond ends slot.EmptyAll (cond syncs slot.Sync (cond (is_some set) (emptied_by set) (kept_by d c rpdo))) ∷ log) ≡ kept_of n log
by_marks d c n true syncs set rpdo log keeps = absurd (cc)
by_marks d c n false true set rpdo log keeps = absurd (cc)
by_marks d c n false false (Some key) rpdo log keeps =
    emptied_other n key log (empties_slot key) refl (not_true (renews n (Some key)) (first (not (renews n (Some key))) (not (is_newer_of n d c rpdo)) keeps))
by_marks d c n false false None None log keeps = refl
by_marks d c n false false None (Some rpdo) log keeps =
    kept_other n rpdo log (is_synchronous (rpdo_type c rpdo.number) && not (is_short d c rpdo)) (not_true (n == rpdo.number && (is_synchronous (rpdo_type c rpdo.number) && not (is_short d c rpdo))) keeps)

-- ---- the frame of an RPDO changes no entry before it is looked at

-- a frame of this RPDO was received
pub record IsTaken (k : Constants) (inputs : Inputs) (input : InputView) (rpdo : KeptFrame) : Type 0 where
  pub is : input ≡ Framed rpdo.frame
  pub address : address_at k (moments k inputs) rpdo.frame.id ≡ Rpdo rpdo.number
  pub operational : state_of k inputs ≡ Operational

none_either : (b : Bool) (x y : Moment) → marked_rpdo x.mark ≡ None → marked_rpdo y.mark ≡ None → (marked_rpdo (if b then x else y).mark) ≡ None
none_either true x y p q = p
none_either false x y p q = q

not_some : {A : Type 0} (o : Option A) (x : A) → o ≡ None → o ≡ Some x → ⊥
not_some o x none some = absurd (cc)

-- which frame it is, by its address
pub record IsFor (s : NodeState) (address : Address) (frame : FrameContent) (rpdo : KeptFrame) : Type 0 where
  pub to : address ≡ Rpdo rpdo.number
  pub same : frame ≡ rpdo.frame
  pub operational : s ≡ Operational

rpdo_for : (n : ℕ) (frame : FrameContent) (m : Moment) (rpdo : KeptFrame) (s : NodeState) → marked_rpdo m.mark ≡ None → (marked_rpdo (with_rpdo n s frame m).mark) ≡ Some rpdo → IsFor s (Rpdo n) frame rpdo
rpdo_for n frame m rpdo PreOperational none e = absurd (not_some (marked_rpdo m.mark) rpdo none e)
rpdo_for n frame m rpdo Stopped none e = absurd (not_some (marked_rpdo m.mark) rpdo none e)
rpdo_for n frame m rpdo Operational none e =
    let is : record { number = n; frame = frame } ≡ rpdo = cc in
    record { to = ap (λ (r : KeptFrame). Rpdo r.number) is; same = ap (λ (r : KeptFrame). r.frame) is; operational = refl }

frame_for : (k : Constants) (history : History) (address : Address) (frame : FrameContent) (input : InputView) (c : Contents) (rpdo : KeptFrame)
    → (marked_rpdo (with_frame k history address frame (nothing_of input c)).mark) ≡ Some rpdo → IsFor (state_at history) address frame rpdo
frame_for k history Nmt frame input c rpdo e = absurd (not_some _ rpdo (command_rpdo _) e)
frame_for k history Sync frame input c rpdo e = absurd (not_some _ rpdo (none_either (is_state Stopped (state_at history)) _ _ refl refl) e)
frame_for k history (Channel j) frame input c rpdo e = absurd (not_some _ rpdo (none_either (is_state Stopped (state_at history)) _ _ refl (written_rpdo _)) e)
frame_for k history (Rpdo n) frame input c rpdo e = rpdo_for n frame (nothing_of input c) rpdo (state_at history) refl e
frame_for k history (ErrorControl node) frame input c rpdo e = absurd (not_some _ rpdo (none_either (is_heartbeat (heartbeat_in frame.bytes)) _ _ refl refl) e)
frame_for k history Nobody frame input c rpdo e = absurd (cc)

event_for : (d : Description) (event : AppView) (refusal : Option ℕ) (input : InputView) (c : Contents) → (marked_rpdo (with_app_event d event refusal (nothing_of input c)).mark) ≡ None
event_for d event (Some code) input c = refl
event_for d (Written key bytes) None input c = refl
event_for d (EventOn n) None input c = refl
event_for d (ChangedAt key) None input c = refl
event_for d (Raised code bits manufacturer) None input c = refl
event_for d (Cleared bits) None input c = refl

pub taken_for : (k : Constants) (inputs : Inputs) (input : InputView) (rpdo : KeptFrame) → (marked_rpdo (moment_at k inputs input).mark) ≡ Some rpdo → IsTaken k inputs input rpdo
taken_for k inputs (Framed frame) rpdo e =
    let h = moments k inputs in
    let is = frame_for k h (address_at k h frame.id) frame (Framed frame) (contents_of k inputs) rpdo e in
    record { is = ap Framed is.same; address = ap (λ (f : FrameContent). address_at k h f.id) (sym is.same) ∙ is.to; operational = is.operational }
taken_for k inputs Ticked rpdo e = absurd (cc)
taken_for k inputs (Applied event) rpdo e =
    absurd (not_some _ rpdo (event_for k.description event (event_refusal k.description (contents_of k inputs) event) (Applied event) (contents_of k inputs)) e)

pub watched_is : (k : Constants) (inputs : Inputs) (input : InputView) (rpdo : KeptFrame) → (marked_rpdo (moment_at k inputs input).mark) ≡ Some rpdo → (moment_at k inputs input).watched ≡ contents_of k inputs
watched_is k inputs input rpdo e =
    let is = taken_for k inputs input rpdo e in
    let h = moments k inputs in
    let c = contents_of k inputs in
    let r = with_rpdo rpdo.number (state_at h) rpdo.frame (nothing_of (Framed rpdo.frame) c) in
    let u = quiet_rpdo rpdo.number rpdo.frame c (Framed rpdo.frame) (state_at h) in
    ap (λ (i : InputView). (moment_at k inputs i).watched) is.is
    ∙ ap (λ a. (with_losses k h (with_frame k h a rpdo.frame (nothing_of (Framed rpdo.frame) c))).watched) is.address
    ∙ ap (λ lost. (with_lost k.description lost r).watched) (by_reset r.mark r.received (consumers_log k h) (is_reset r.mark) refl u.ticked)
    ∙ u.received

newer_by : (k : Constants) (inputs : Inputs) (input : InputView) (n : ℕ) (rpdo : Option KeptFrame) → (marked_rpdo (moment_at k inputs input).mark) ≡ rpdo
    → is_newer_of n k.description (contents_of k inputs) rpdo ≡ is_newer_of n k.description (moment_at k inputs input).watched rpdo
newer_by k inputs input n None is = refl
newer_by k inputs input n (Some rpdo) is = ap (λ c. is_newer_of n k.description c (Some rpdo)) (sym (watched_is k inputs input rpdo is))

pub newer_is : (k : Constants) (inputs : Inputs) (input : InputView) (n : ℕ)
    → is_newer_of n k.description (contents_of k inputs) (marked_rpdo (moment_at k inputs input).mark) ≡ is_newer_of n k.description (moment_at k inputs input).watched (marked_rpdo (moment_at k inputs input).mark)
newer_is k inputs input n = newer_by k inputs input n (marked_rpdo (moment_at k inputs input).mark) refl

pub goes_on : (k : Constants) (n : ℕ) (inputs : Inputs) (input : InputView) → keeps_waiting k n inputs input ≡ true → waiting_frame k n (input ∷ inputs) ≡ waiting_frame k n inputs
goes_on k n inputs input keeps =
    let m = moment_at k inputs input in
    let t = transition_of m (moments k inputs) in
    by_marks k.description m.watched n (is_reset m.mark || leaves Operational t) (is_effective (marked_sync m.mark) t) (marked_key m.mark) (marked_rpdo m.mark) (slot_log k (moments k inputs))
    (sym (ap (λ b. not (is_reset m.mark || leaves Operational t) && (not (is_effective (marked_sync m.mark) t) && (not (renews n (marked_key m.mark)) && not b))) (newer_is k inputs input n)) ∙ keeps)

pub waits : (k : Constants) (n : ℕ) (inputs later : Inputs) → all_keep_waiting k n inputs later ≡ true → waiting_frame k n (later ++ inputs) ≡ waiting_frame k n inputs
waits k n inputs [] all = refl
waits k n inputs (input ∷ later) all =
    goes_on k n (later ++ inputs) input (first (keeps_waiting k n (later ++ inputs) input) (all_keep_waiting k n inputs later) all)
    ∙ waits k n inputs later (second (keeps_waiting k n (later ++ inputs) input) (all_keep_waiting k n inputs later) all)

-- ---- a SYNC takes it

pub taken_by_sync : (k : Constants) (inputs : Inputs) (frame : FrameContent) → address_at k (moments k inputs) frame.id ≡ Sync → state_of k inputs ≡ Operational
    → (moment_at k inputs (Framed frame)).taken ≡ all_kept 512 (slot_log k (moments k inputs))
taken_by_sync k inputs frame is operational =
    let h = moments k inputs in
    let c = contents_of k inputs in
    let log = slot_log k h in
    let r = with_sync (state_at h) frame (nothing_of (Framed frame) c) in
    ap (λ a. (with_pdos k h (with_losses k h (with_frame k h a frame (nothing_of (Framed frame) c)))).taken) is
    ∙ ap (λ e. taken_at 512 e log ++ immediate k.description (with_losses k h r).watched (marked_rpdo r.mark)) (slot_received k h r c (quiet_sync frame c (Framed frame) (state_at h)))
    ∙ ap (λ state. taken_at 512 (slot_in k state (with_sync state frame (nothing_of (Framed frame) c))) log ++ immediate k.description (with_losses k h (with_sync state frame (nothing_of (Framed frame) c))).watched (marked_rpdo (with_sync state frame (nothing_of (Framed frame) c)).mark)) operational
    ∙ append-nil (all_kept 512 log)
