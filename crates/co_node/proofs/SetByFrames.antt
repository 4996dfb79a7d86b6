-- What an input sets by SDO or by RPDOs, by its kind: ticks and application events nothing, a request the entry of its download.
use Rattle.std.proofs.Common.{◌≡◌, ℕ, Bool, true, false, List, [], ◌∷◌, ◌++◌, refl, ap, ◌∙◌, append-nil}
use Rattle.std.specs.Prelude.{if◌then◌else◌, Option, Some, None}
use Rattle.std.specs.List.{cons_option}
use Rattle.co_value.specs.declared.key.Key.{Key}
use Rattle.co_frame.specs.FrameContent.{FrameContent}
use Rattle.co_dict.specs.Rows.{Contents}
use Rattle.co_dict.specs.Stores.{Description}
use Rattle.co_sdo.specs.Downloads.{Download}
use Rattle.co_sdo.specs.Completed.{key_set}
use Rattle.co_sdo.specs.Events.{set_of}
use Rattle.co_node_parts.specs.declared.nmt_state.NodeState.TheVariants.{Operational, Stopped}
use Rattle.co_node_parts.specs.declared.nmt_state.Transition.{Transition}
use Rattle.co_node_parts.specs.declared.rpdo_slots.KeptFrame.{KeptFrame}
use Rattle.co_node_parts.specs.declared.rpdo_slots.SlotEvent.{SlotEvent}
use Rattle.co_node_parts.specs.declared.rpdo_slots.SlotEvent.TheVariants.{Empty, EmptyAll, Quiet}
use Rattle.co_node_parts.specs.NmtStates.{is_state, leaves}
use Rattle.co_node_parts.specs.RpdoSlots.{SlotLog, taken_at}
use Rattle.co_node_model.specs.Inputs.{AppView, Applied, ChangedAt, Cleared, EventOn, Framed, InputView, Inputs, Raised, Ticked, Written}
use Rattle.co_node_model.specs.declared.mark.Mark.{Mark}
use Rattle.co_node_model.specs.declared.mark.Mark.TheVariants as was
use Rattle.co_node_model.specs.Marks.{marked_key, marked_rpdo, marked_sync, written_mark}
use Rattle.co_node_model.specs.declared.address.Address.TheVariants.{Channel}
use Rattle.co_node_model.specs.Addresses.{address_at}
use Rattle.co_node_model.specs.Sdo.{channel_logs, with_request}
use Rattle.co_node_model.specs.Moments.{Constants, History, Moment, channels, contents_at, nothing_of}
use Rattle.co_node_model.specs.AppEvents.{event_refusal, with_app_event}
use Rattle.co_node_model.specs.Emergencies.{all_raised}
use Rattle.co_node_model.specs.Nmt.{transition_of}
use Rattle.co_node_model.specs.Rpdos.{arrival_errors, emptied_by, empties_slot, slot_log}
use Rattle.co_node_model.specs.Device.{contents_of, moment, moments, state_of, with_frame}
use Rattle.co_node_device.specs.Effects.{taken_now}
use Rattle.co_node_device.specs.SetEntries.{last_set, set_by_all_data, set_by_rpdos}

-- ---- an input that is neither a SYNC nor a frame of an RPDO

module _ (d : Description) (contents : Contents) (t : Transition) (log : SlotLog) where
  unless_left : (b : Bool) (e : SlotEvent) → taken_at 512 e log ≡ [] → taken_at 512 (if b then EmptyAll else e) log ≡ []
  unless_left true e none = refl
  unless_left false e none = none

  emptied : (n : ℕ) (b : Bool) → taken_at 512 (if b then Empty n else Quiet) log ≡ []
  emptied n true = refl
  emptied n false = refl

  without : (taken : List KeptFrame) → taken ≡ [] → taken ++ [] ≡ []
  without taken none = ap (λ (xs : List KeptFrame). xs ++ []) none

  none_taken : (mark : Mark) → marked_sync mark ≡ None → marked_rpdo mark ≡ None → taken_now d contents mark t log ≡ []
  none_taken was.Quiet sync rpdo = without _ (unless_left (leaves Operational t) Quiet refl)
  none_taken (was.Command service) sync rpdo = without _ (unless_left _ Quiet refl)
  none_taken (was.Written key) sync rpdo = without _ (unless_left (leaves Operational t) (emptied_by (Some key)) (emptied _ (empties_slot key)))
  none_taken (was.Sync frame) sync rpdo = absurd cc
  none_taken (was.Rpdo frame) sync rpdo = absurd cc
  none_taken (was.Heard node) sync rpdo = without _ (unless_left (leaves Operational t) Quiet refl)
  none_taken (was.Tick timed_out) sync rpdo = without _ (unless_left (leaves Operational t) Quiet refl)
  none_taken (was.Asked asked) sync rpdo = without _ (unless_left (leaves Operational t) Quiet refl)

none_set : (k : Constants) (inputs : Inputs) (input : InputView) → marked_sync (moment k (moments k inputs) input).mark ≡ None
    → marked_rpdo (moment k (moments k inputs) input).mark ≡ None → set_by_rpdos k (moment k (moments k inputs) input) ≡ []
none_set k inputs input sync rpdo =
    let h : History = moments k inputs in
    let m : Moment = moment k h input in
    ap (set_by_all_data k.description (all_raised k.description.rows (arrival_errors k.description m) m.watched))
    (none_taken k.description m.watched (transition_of m h) (slot_log k h) m.mark sync rpdo)

-- ---- by kind

pub by_ticks : (k : Constants) (inputs : Inputs) → last_set k (Ticked ∷ inputs) ≡ []
by_ticks k inputs = none_set k inputs Ticked refl refl

-- the mark of an application event
no_sync : (d : Description) (event : AppView) (refusal : Option ℕ) (m : Moment) → m.mark ≡ was.Quiet → marked_sync (with_app_event d event refusal m).mark ≡ None
no_sync d event (Some code) m quiet = ap marked_sync quiet
no_sync d (Written key bytes) None m quiet = refl
no_sync d (EventOn n) None m quiet = refl
no_sync d (ChangedAt key) None m quiet = refl
no_sync d (Raised code bits manufacturer) None m quiet = refl
no_sync d (Cleared bits) None m quiet = refl

no_rpdo : (d : Description) (event : AppView) (refusal : Option ℕ) (m : Moment) → m.mark ≡ was.Quiet → marked_rpdo (with_app_event d event refusal m).mark ≡ None
no_rpdo d event (Some code) m quiet = ap marked_rpdo quiet
no_rpdo d (Written key bytes) None m quiet = refl
no_rpdo d (EventOn n) None m quiet = refl
no_rpdo d (ChangedAt key) None m quiet = refl
no_rpdo d (Raised code bits manufacturer) None m quiet = refl
no_rpdo d (Cleared bits) None m quiet = refl

pub by_events : (k : Constants) (inputs : Inputs) (event : AppView) → last_set k (Applied event ∷ inputs) ≡ []
by_events k inputs event =
    let h : History = moments k inputs in
    let before : Moment = nothing_of (Applied event) (contents_at k h) in
    let refusal : Option ℕ = event_refusal k.description (contents_at k h) event in
    none_set k inputs (Applied event) (no_sync k.description event refusal before refl) (no_rpdo k.description event refusal before refl)

-- ---- a request to an SDO channel

written_key : (key : Option Key) → marked_key (written_mark key) ≡ key
written_key None = refl
written_key (Some key) = refl

written_sync : (key : Option Key) → marked_sync (written_mark key) ≡ None
written_sync None = refl
written_sync (Some key) = refl

written_rpdo : (key : Option Key) → marked_rpdo (written_mark key) ≡ None
written_rpdo None = refl
written_rpdo (Some key) = refl

module _ (k : Constants) (inputs : Inputs) (frame : FrameContent) (j : ℕ) (to : address_at k (moments k inputs) frame.id ≡ Channel j) where
  abbrev h : History
  h = moments k inputs

  abbrev m : Moment
  m = moment k h (Framed frame)

  abbrev before : Moment
  before = nothing_of (Framed frame) (contents_at k h)

  abbrev set : Option Download
  set = set_of (channels k) k.description (contents_of k inputs) (channel_logs h) frame

  sent_to : (b : Bool) → is_state Stopped (state_of k inputs) ≡ b → m.mark ≡ (if b then before else with_request k (channel_logs h) frame before).mark
  sent_to b stopped =
      ap (λ a. (with_frame k h a frame before).mark) to
      ∙ ap (λ (b : Bool). (if b then before else with_request k (channel_logs h) frame before).mark) stopped

  pub by_requests : is_state Stopped (state_of k inputs) ≡ false → last_set k (Framed frame ∷ inputs) ≡ cons_option (key_set set) []
  by_requests running =
      let is : m.mark ≡ written_mark (key_set set) = sent_to false running in
      let none : set_by_rpdos k m ≡ [] = none_set k inputs (Framed frame) (ap marked_sync is ∙ written_sync (key_set set)) (ap marked_rpdo is ∙ written_rpdo (key_set set)) in
      ap (λ keys. cons_option (marked_key m.mark) [] ++ keys) none ∙ append-nil (cons_option (marked_key m.mark) [])
      ∙ ap (λ (mark : Mark). cons_option (marked_key mark) []) is ∙ ap (λ (key : Option Key). cons_option key []) (written_key (key_set set))

  pub none_stopped : is_state Stopped (state_of k inputs) ≡ true → last_set k (Framed frame ∷ inputs) ≡ []
  none_stopped stopped =
      let is : m.mark ≡ was.Quiet = sent_to true stopped in
      let none : set_by_rpdos k m ≡ [] = none_set k inputs (Framed frame) (ap marked_sync is) (ap marked_rpdo is) in
      ap (λ keys. cons_option (marked_key m.mark) [] ++ keys) none ∙ append-nil (cons_option (marked_key m.mark) [])
      ∙ ap (λ (mark : Mark). cons_option (marked_key mark) []) is
