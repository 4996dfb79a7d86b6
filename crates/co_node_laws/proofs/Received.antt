-- What one input does to the entries from 1004h to 1FFFh, where it is no reset: one permitted write, or nothing.
use Rattle.std.proofs.Common.{◌≡◌, ℕ, Bool, true, false, List, [], ◌∷◌, Option, Some, None, refl, subst, sym, arith}
use Rattle.std.specs.Prelude.{if◌then◌else◌}
use Rattle.co_value.specs.declared.key.Key.{Key}
use Rattle.co_frame.specs.FrameContent.{FrameContent}
use Rattle.co_frame.specs.Nmt.{nmt_command_in}
use Rattle.co_frame.specs.Heartbeats.{heartbeat_in}
use Rattle.co_frame.specs.declared.nmt.NmtService.{NmtService}
use Rattle.co_frame.specs.declared.nmt.NmtService.TheVariants.{Start, Stop, EnterPreOperational, ResetNode, ResetCommunication}
use Rattle.co_dict.specs.Rows.{Contents, written}
use Rattle.co_dict.specs.Stores.{Description}
use Rattle.co_dict.specs.WriteRefusals.{writing_refusal}
use Rattle.co_sdo.specs.Downloads.{Download}
use Rattle.co_sdo.specs.Log.{Log}
use Rattle.co_sdo.specs.Refused.{completion_refusal}
use Rattle.co_sdo.specs.Completed.{contents_with, key_set}
use Rattle.co_sdo.specs.Events.{set_of}
use Rattle.co_node_parts.specs.declared.rpdo_slots.KeptFrame.{KeptFrame}
use Rattle.co_node_parts.specs.declared.nmt_state.NodeState.TheVariants.{Operational, Stopped}
use Rattle.co_node_parts.specs.NmtStates.{is_state}
use Rattle.co_node_model.specs.Inputs.{InputView, AppView, Framed, Applied, Written, EventOn, ChangedAt, Raised, Cleared}
use Rattle.co_node_model.specs.Inputs as inputs
use Rattle.co_node_model.specs.AppEvents.{event_refusal, with_app_event, app_error}
use Rattle.co_node_model.specs.Nmt.{is_reset, state_at, service_for, with_service}
use Rattle.co_node_model.specs.declared.address.Address.{Address}
use Rattle.co_node_model.specs.declared.address.Address.TheVariants.{Nmt, Sync, Channel, Rpdo, ErrorControl, Nobody}
use Rattle.co_node_model.specs.Rpdos.{after_data, after_all_data, data_errors, with_data, arrival_errors}
use Rattle.co_node_model.specs.Emergencies.{all_raised}
use Rattle.co_node_model.specs.Moments.{Constants, Moment, History, channels, contents_at, nothing_of}
use Rattle.co_node_model.specs.Sdo.{channel_logs, with_request}
use Rattle.co_node_model.specs.Device.{with_frame, with_input, moment}
use Rattle.co_node_model.specs.Addresses.{address_at}
use Rattle.co_node_model.specs.Heartbeats.{is_heartbeat, loss_errors}
use Rattle.co_node_model.specs.Marks.{marked_key}
use Rattle.co_node_laws.proofs.Below.{Below}
use Rattle.co_node_laws.specs.Settings.{HasSameSettings}
use Rattle.co_node_laws.proofs.SameSettings.{same_none, same_both, same_register, same_raised, same_all_raised}
use Rattle.co_node_laws.proofs.Writes.{IsWrite}
use Rattle.co_node_laws.proofs.MarkLemmas.{written_key}

-- the entries may change so, where this key was set or none was
abbrev pub MayBecome : Description → Option Key → Contents → Contents → Type 0
MayBecome d None c e = HasSameSettings c e
MayBecome d (Some key) c e = (bytes : List ℕ) × IsWrite d c e key bytes

and_then : (d : Description) (set : Option Key) (c e f : Contents) → MayBecome d set c e → HasSameSettings e f → MayBecome d set c f
and_then d None c e f may same = same_both c e f may same
and_then d (Some key) c e f may same = (may.0, record { permitted = may.1.permitted; same = same_both (written c key may.0) e f may.1.same same })

-- what was received did so, unless it was a reset
abbrev IsLawful : Description → Contents → Moment → Type 0
IsLawful d c m = is_reset m.mark ≡ false → MayBecome d (marked_key m.mark) c m.received

of_either : (d : Description) (c : Contents) (b : Bool) (x y : Moment) → IsLawful d c x → IsLawful d c y → IsLawful d c (if b then x else y)
of_either d c true x y p q = p
of_either d c false x y p q = q

to_writing : (d : Description) (c : Contents) (key : Key) (indicated : Option ℕ) (bytes : List ℕ) → completion_refusal d c key indicated bytes ≡ None → writing_refusal d c key indicated bytes ≡ None
unfolding completion_refusal
to_writing d c key indicated bytes h = h

-- ---- data of RPDOs

module _ (below : Below) where
  same_data : (d : Description) (c : Contents) (rpdo : KeptFrame) → HasSameSettings c (with_data d c rpdo)
  same_data d c rpdo = record { same = λ key low high. sym (below.by_rpdo d c rpdo.number rpdo.frame.bytes key (omega arith)) }

  same_all_data : (d : Description) (c : Contents) (rpdos : List KeptFrame) → HasSameSettings c (after_all_data d c rpdos)
  same_all_data d c [] = same_none c
  same_all_data d c (rpdo ∷ rpdos) =
      same_both c (after_data d c rpdo) _
      (same_both c (with_data d c rpdo) _ (same_data d c rpdo) (same_all_raised d.rows (data_errors d c rpdo) (with_data d c rpdo)))
      (same_all_data d (after_data d c rpdo) rpdos)

  -- ---- as it is received

  of_download : (d : Description) (c : Contents) (set : Option Download) → ((w : Download) → set ≡ Some w → completion_refusal d c w.key w.indicated w.bytes ≡ None) → MayBecome d (key_set set) c (contents_with c set)
  of_download d c None permitted = same_none c
  of_download d c (Some w) permitted = (
    w.bytes,
    record {
      permitted = below.by_sdo d c w.key w.indicated w.bytes (to_writing d c w.key w.indicated w.bytes (permitted w refl));
      same = same_none (written c w.key w.bytes);
    },
  )

  of_service : (d : Description) (c initial : Contents) (service : Option NmtService) (input : InputView) → IsLawful d c (with_service initial service (nothing_of input c))
  of_service d c initial None input = λ off. same_none c
  of_service d c initial (Some Start) input = λ off. same_none c
  of_service d c initial (Some Stop) input = λ off. same_none c
  of_service d c initial (Some EnterPreOperational) input = λ off. same_none c
  of_service d c initial (Some ResetNode) input = λ off. absurd (cc)
  of_service d c initial (Some ResetCommunication) input = λ off. absurd (cc)

  of_request : (k : Constants) (c : Contents) (logs : ℕ → Log) (frame : FrameContent) (input : InputView) → IsLawful k.description c (with_request k logs frame (nothing_of input c))
  of_request k c logs frame input = λ off.
      let set = set_of (channels k) k.description c logs frame in
      subst (λ (key : Option Key). MayBecome k.description key c (contents_with c set)) (sym (written_key (key_set set)))
      (of_download k.description c set (below.permitted (channels k) k.description c logs frame))

  of_frame : (k : Constants) (history : History) (address : Address) (frame : FrameContent) (c : Contents) (input : InputView) → IsLawful k.description c (with_frame k history address frame (nothing_of input c))
  of_frame k history Nmt frame c input = of_service k.description c k.description.initial (service_for k.description.node (nmt_command_in frame)) input
  of_frame k history Sync frame c input = of_either k.description c (is_state Stopped (state_at history)) _ _ (λ off. same_none c) (λ off. same_none c)
  of_frame k history (Channel j) frame c input = of_either k.description c (is_state Stopped (state_at history)) _ _ (λ off. same_none c) (of_request k c (channel_logs history) frame input)
  of_frame k history (Rpdo n) frame c input = of_either k.description c (is_state Operational (state_at history)) _ _ (λ off. same_none c) (λ off. same_none c)
  of_frame k history (ErrorControl node) frame c input = of_either k.description c (is_heartbeat (heartbeat_in frame.bytes)) _ _ (λ off. same_none c) (λ off. same_none c)
  of_frame k history Nobody frame c input = λ off. same_none c

  of_event : (d : Description) (c : Contents) (event : AppView) (refusal : Option ℕ) (input : InputView) → event_refusal d c event ≡ refusal → IsLawful d c (with_app_event d event refusal (nothing_of input c))
  of_event d c event (Some code) input is = λ off. same_none c
  of_event d c (Written key bytes) None input is = λ off. (bytes, record { permitted = below.by_application d c key bytes is; same = same_none (written c key bytes) })
  of_event d c (EventOn n) None input is = λ off. same_none c
  of_event d c (ChangedAt key) None input is = λ off. same_none c
  of_event d c (Raised code bits manufacturer) None input is = λ off. same_raised d.rows (app_error code bits manufacturer) c
  of_event d c (Cleared bits) None input is = λ off. same_register d.rows _ c

  of_input : (k : Constants) (history : History) (c : Contents) (input as_input : InputView) → IsLawful k.description c (with_input k history input (nothing_of as_input c))
  of_input k history c (Framed frame) as_input = of_frame k history (address_at k history frame.id) frame c as_input
  of_input k history c inputs.Ticked as_input = λ off. same_none c
  of_input k history c (Applied event) as_input = of_event k.description c event (event_refusal k.description c event) as_input refl

  -- ---- at the end of the input

  -- from the lost heartbeats on
  pub after_watched : (k : Constants) (history : History) (input : InputView) → HasSameSettings (moment k history input).watched (moment k history input).contents
  after_watched k history input =
      let m = moment k history input in
      let d = k.description in
      same_both m.watched (all_raised d.rows (arrival_errors d m) m.watched) m.contents (same_all_raised d.rows (arrival_errors d m) m.watched)
      (same_all_data d (all_raised d.rows (arrival_errors d m) m.watched) m.taken)

  pub after_received : (k : Constants) (history : History) (input : InputView) → HasSameSettings (moment k history input).received (moment k history input).contents
  after_received k history input =
      let m = moment k history input in
      let d = k.description in
      same_both m.received m.watched m.contents (same_all_raised d.rows (loss_errors m.lost) m.received) (after_watched k history input)

  pub changed_watched : (k : Constants) (history : History) (input : InputView) → is_reset (moment k history input).mark ≡ false → MayBecome k.description (marked_key (moment k history input).mark) (contents_at k history) (moment k history input).watched
  changed_watched k history input off =
      let m = moment k history input in
      and_then k.description (marked_key m.mark) (contents_at k history) m.received m.watched (of_input k history (contents_at k history) input input off) (same_all_raised k.description.rows (loss_errors m.lost) m.received)

  pub changed : (k : Constants) (history : History) (input : InputView) → is_reset (moment k history input).mark ≡ false → MayBecome k.description (marked_key (moment k history input).mark) (contents_at k history) (moment k history input).contents
  changed k history input off =
      let m = moment k history input in
      and_then k.description (marked_key m.mark) (contents_at k history) m.received m.contents (of_input k history (contents_at k history) input input off) (after_received k history input)
