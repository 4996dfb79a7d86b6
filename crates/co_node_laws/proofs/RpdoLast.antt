-- A frame that waits for a SYNC is the last one that its RPDO accepted.
use Rattle.std.proofs.Common.{◌≡◌, ℕ, ◌-◌, Bool, true, false, cond, [], ◌∷◌, Option, Some, None, refl, sym, ap, ◌∙◌, arith}
use Rattle.std.specs.Prelude.{◌==◌, ◌&&◌, ◌||◌, not, is_some}
use Rattle.std.proofs.lemmas.Bool.Decides.{nat_tests}
use Rattle.co_value.specs.declared.key.Key.{Key}
use Rattle.co_frame.specs.FrameContent.{FrameContent}
use Rattle.co_profile.specs.Indices.{rpdo_communication}
use Rattle.co_profile.specs.TransmissionTypes.{is_synchronous}
use Rattle.co_dict.specs.Rows.{Contents}
use Rattle.co_dict.specs.Stores.{Description}
use Rattle.co_node_parts.specs.declared.nmt_state.NodeState.TheVariants.{Operational}
use Rattle.co_node_parts.specs.declared.rpdo_slots.KeptFrame.{KeptFrame}
use Rattle.co_node_parts.specs.declared.rpdo_slots.SlotEvent.TheVariants as slot
use Rattle.co_node_parts.specs.NmtStates.{leaves}
use Rattle.co_node_parts.specs.RpdoSlots.{SlotLog, kept_of}
use Rattle.co_node_model.specs.Inputs.{InputView, Inputs, Framed}
use Rattle.co_node_model.specs.Moments.{Constants}
use Rattle.co_node_model.specs.Nmt.{is_reset, transition_of}
use Rattle.co_node_model.specs.Device.{moments}
use Rattle.co_node_model.specs.Rpdos.{emptied_by, empties_slot, is_short, kept_by, rpdo_type, slot_log}
use Rattle.co_node_model.specs.Marks.{marked_key, marked_rpdo, marked_sync}
use Rattle.co_node_model.specs.declared.mark.Mark.{Mark}
use Rattle.co_node_model.specs.declared.mark.Mark.TheVariants as was
use Rattle.co_node_laws.specs.Distances.{moment_at}
use Rattle.co_node_laws.specs.RpdoWaits.{
  IsLastAccepted,
  all_keep_waiting,
  is_effective,
  is_newer_of,
  keeps_waiting,
  renews,
  waiting_frame,
}
use Rattle.co_node_laws.proofs.RpdoWaits.{goes_on, newer_is, taken_for, watched_is}

-- ---- an input after which a frame waits that it didn't leave waiting

-- the frame of RPDO n that came, of a type from 0 to 240 and not short
pub record IsNew (d : Description) (c : Contents) (n : ℕ) (rpdo : Option KeptFrame) (frame : FrameContent) : Type 0 where
  pub is : rpdo ≡ Some (record { number = n; frame = frame })
  pub kind : is_synchronous (rpdo_type c n) ≡ true
  pub long : is_short d c (record { number = n; frame = frame }) ≡ false

emptied : (n : ℕ) (key : Key) (frame : FrameContent) (log : SlotLog) (b here : Bool) → (n == key.index - rpdo_communication.0) ≡ here → not (b && here) ≡ false
    → kept_of n (cond b (slot.Empty (key.index - rpdo_communication.0)) slot.Quiet ∷ log) ≡ Some frame → ⊥
emptied n key frame log true true is off e = let none : kept_of n (slot.Empty (key.index - rpdo_communication.0) ∷ log) ≡ None = ap (λ b. cond b None (kept_of n log)) is in absurd (cc)
emptied n key frame log true false is off e = absurd (cc)
emptied n key frame log false here is off e = absurd (cc)

replaced : (d : Description) (c : Contents) (n : ℕ) (rpdo : KeptFrame) (frame : FrameContent) (log : SlotLog) (here kind short : Bool)
    → (n == rpdo.number) ≡ here → is_synchronous (rpdo_type c rpdo.number) ≡ kind → is_short d c rpdo ≡ short → not (here && (kind && not short)) ≡ false
    → kept_of n (cond (kind && not short) (slot.Keep rpdo.number rpdo.frame) slot.Quiet ∷ log) ≡ Some frame → IsNew d c n (Some rpdo) frame
replaced d c n rpdo frame log true true false here kind short off e =
    let number : n ≡ rpdo.number = grind (arith, nat_tests) in
    let some : Some rpdo.frame ≡ Some frame = sym (ap (λ b. cond b (Some rpdo.frame) (kept_of n log)) here) ∙ e in
    let same : rpdo.frame ≡ frame = cc in
    let is : rpdo ≡ record { number = n; frame = frame } = λ i. record { number = sym number i; frame = same i } in
    record {
      is = ap Some is;
      kind = ap (λ (r : KeptFrame). is_synchronous (rpdo_type c r.number)) (sym is) ∙ kind;
      long = ap (λ (r : KeptFrame). is_short d c r) (sym is) ∙ short;
    }
replaced d c n rpdo frame log true true true here kind short off e = absurd (cc)
replaced d c n rpdo frame log true false short' here kind short off e = absurd (cc)
replaced d c n rpdo frame log false kind' short' here kind short off e = absurd (cc)

-- a frame that waits on leaves nothing else
new_by : (d : Description) (c : Contents) (n : ℕ) (ends syncs : Bool) (set : Option Key) (rpdo : Option KeptFrame) (frame : FrameContent) (log : SlotLog)
    → is_some set && is_some rpdo ≡ false
    → not ends && (not syncs && (not (renews n set) && not (is_newer_of n d c rpdo))) ≡ false
    → kept_of n (cond ends slot.EmptyAll (cond syncs slot.Sync (cond (is_some set) (emptied_by set) (kept_by d c rpdo))) ∷ log) ≡ Some frame → IsNew d c n rpdo frame
new_by d c n true syncs set rpdo frame log apart off e = absurd (cc)
new_by d c n false true set rpdo frame log apart off e = absurd (cc)
new_by d c n false false (Some key) (Some rpdo) frame log apart off e = absurd (cc)
new_by d c n false false (Some key) None frame log apart off e =
    absurd (emptied n key frame log (empties_slot key) (n == key.index - rpdo_communication.0) refl (sym (right_true (not (renews n (Some key)))) ∙ off) e)
  where
    right_true : (b : Bool) → b && true ≡ b
    right_true true = refl
    right_true false = refl
new_by d c n false false None None frame log apart off e = absurd (cc)
new_by d c n false false None (Some rpdo) frame log apart off e =
    replaced d c n rpdo frame log (n == rpdo.number) (is_synchronous (rpdo_type c rpdo.number)) (is_short d c rpdo) refl refl refl off e

-- ---- a write and a frame of an RPDO are never one input

apart : (mark : Mark) → is_some (marked_key mark) && is_some (marked_rpdo mark) ≡ false
apart was.Quiet = refl
apart (was.Command service) = refl
apart (was.Written key) = refl
apart (was.Sync frame) = refl
apart (was.Rpdo frame) = refl
apart (was.Heard node) = refl
apart (was.Tick timed_out) = refl
apart (was.Asked asked) = refl

-- ---- together

as_new : (k : Constants) (inputs : Inputs) (input : InputView) (n : ℕ) (frame : FrameContent) → IsNew k.description (moment_at k inputs input).watched n (marked_rpdo (moment_at k inputs input).mark) frame
    → IsLastAccepted k n (input ∷ inputs) frame
as_new k inputs input n frame new =
    let rpdo : KeptFrame = record { number = n; frame = frame } in
    let is = taken_for k inputs input rpdo new.is in
    let watched = sym (watched_is k inputs input rpdo new.is) in
    record {
      later = [];
      before = inputs;
      all = ap (λ (i : InputView). i ∷ inputs) is.is;
      accepted = record {
        address = is.address;
        operational = is.operational;
        kind = ap (λ c. is_synchronous (rpdo_type c n)) watched ∙ new.kind;
        long = ap (λ c. is_short k.description c rpdo) watched ∙ new.long;
      };
      since = refl;
    }

longer : (k : Constants) (n : ℕ) (input : InputView) (inputs : Inputs) (frame : FrameContent) → keeps_waiting k n inputs input ≡ true → IsLastAccepted k n inputs frame
    → IsLastAccepted k n (input ∷ inputs) frame
longer k n input inputs frame keeps last = record {
  later = input ∷ last.later;
  before = last.before;
  all = ap (λ (is : Inputs). input ∷ is) last.all;
  accepted = last.accepted;
  since =
      ap (λ (is : Inputs). keeps_waiting k n is input && all_keep_waiting k n (Framed frame ∷ last.before) last.later) (sym last.all)
      ∙ ap (λ b. b && all_keep_waiting k n (Framed frame ∷ last.before) last.later) keeps
      ∙ last.since;
}

step : (k : Constants) (n : ℕ) (input : InputView) (inputs : Inputs) (frame : FrameContent) (keeps : Bool) → keeps_waiting k n inputs input ≡ keeps
    → waiting_frame k n (input ∷ inputs) ≡ Some frame → (waiting_frame k n inputs ≡ Some frame → IsLastAccepted k n inputs frame) → IsLastAccepted k n (input ∷ inputs) frame
step k n input inputs frame true keeps e before = longer k n input inputs frame keeps (before (sym (goes_on k n inputs input keeps) ∙ e))
step k n input inputs frame false keeps e before =
    let m = moment_at k inputs input in
    let t = transition_of m (moments k inputs) in
    as_new k inputs input n frame
    (new_by k.description m.watched n (is_reset m.mark || leaves Operational t) (is_effective (marked_sync m.mark) t) (marked_key m.mark) (marked_rpdo m.mark) frame (slot_log k (moments k inputs))
    (apart m.mark)
    (sym (ap (λ b. not (is_reset m.mark || leaves Operational t) && (not (is_effective (marked_sync m.mark) t) && (not (renews n (marked_key m.mark)) && not b))) (newer_is k inputs input n)) ∙ keeps) e)

pub last_accepted : (k : Constants) (n : ℕ) (inputs : Inputs) (frame : FrameContent) → waiting_frame k n inputs ≡ Some frame → IsLastAccepted k n inputs frame
last_accepted k n [] frame e = absurd (cc)
last_accepted k n (input ∷ inputs) frame e = step k n input inputs frame (keeps_waiting k n inputs input) refl e (λ earlier. last_accepted k n inputs frame earlier)
