-- What all changes of the entries keep holds after all inputs: writes by SDO and by the application, errors, the data of RPDOs, and
-- resets.
use Rattle.std.proofs.Common.{◌≡◌, ℕ, Bool, true, false, List, [], ◌∷◌, Option, Some, None, refl}
use Rattle.std.specs.Prelude.{if◌then◌else◌}
use Rattle.std.specs.List.{AllByRecursion}
use Rattle.co_value.specs.declared.key.Key.{Key}
use Rattle.co_frame.specs.FrameContent.{FrameContent}
use Rattle.co_frame.specs.Heartbeats.{heartbeat_in}
use Rattle.co_frame.specs.Nmt.{nmt_command_in}
use Rattle.co_frame.specs.declared.nmt.NmtService.{NmtService}
use Rattle.co_frame.specs.declared.nmt.NmtService.TheVariants.{Start, Stop, EnterPreOperational, ResetNode, ResetCommunication}
use Rattle.co_profile.specs.Keys.{error_register_key}
use Rattle.co_dict.specs.declared.area.Area.{Area}
use Rattle.co_dict.specs.declared.area.Area.TheVariants.{Communication, All}
use Rattle.co_dict.specs.declared.side.Side.TheVariants.{Rpdo}
use Rattle.co_dict.specs.ErrorField.{pushed}
use Rattle.co_dict.specs.Rows.{Contents, restored, with_number, written}
use Rattle.co_dict.specs.Stores.{Description}
use Rattle.co_dict.specs.WriteRefusals.{app_refusal}
use Rattle.co_sdo.specs.Channels.{ChannelSettings}
use Rattle.co_sdo.specs.Completed.{contents_with}
use Rattle.co_sdo.specs.Downloads.{Download}
use Rattle.co_sdo.specs.Events.{set_of}
use Rattle.co_sdo.specs.Log.{Log}
use Rattle.co_sdo.specs.Refused.{completion_refusal}
use Rattle.co_pdo.specs.Images.{contents_after}
use Rattle.co_pdo.specs.Mappings.{mapping_of}
use Rattle.co_node_parts.specs.declared.nmt_state.NodeState.TheVariants.{Operational, Stopped}
use Rattle.co_node_parts.specs.declared.rpdo_slots.KeptFrame.{KeptFrame}
use Rattle.co_node_parts.specs.NmtStates.{is_state}
use Rattle.co_node_model.specs.declared.address.Address.{Address}
use Rattle.co_node_model.specs.declared.address.Address.TheVariants.{Channel, ErrorControl, Nmt, Nobody, Rpdo as RpdoAddress, Sync}
use Rattle.co_node_model.specs.declared.device_error.DeviceError.{DeviceError}
use Rattle.co_node_model.specs.Addresses.{address_at}
use Rattle.co_node_model.specs.AppEvents.{app_error, event_refusal, with_app_event}
use Rattle.co_node_model.specs.Device.{moment, with_frame, with_input}
use Rattle.co_node_model.specs.Emergencies.{all_raised, raised, register_with, register_without, with_register}
use Rattle.co_node_model.specs.Heartbeats.{is_heartbeat, loss_errors}
use Rattle.co_node_model.specs.Inputs.{AppView, Applied, ChangedAt, Cleared, EventOn, Framed, InputView, Raised, Ticked, Written}
use Rattle.co_node_model.specs.Moments.{Constants, History, Moment, channels, contents_at, nothing_of}
use Rattle.co_node_model.specs.Nmt.{service_for, state_at, with_service}
use Rattle.co_node_model.specs.Rpdos.{after_all_data, after_data, arrival_errors, data_errors, with_data}
use Rattle.co_node_model.specs.Sdo.{channel_logs, with_request}

-- what each change keeps, where what is written is good, and so are the data of RPDOs
pub record Keeps (d : Description) (P : Contents → Type 0) (Good : Key → List ℕ → Type 0) (Data : List ℕ → Type 0) : Type 0 where
  pub write : (c : Contents) (key : Key) (bytes : List ℕ) → Good key bytes → P c → P (written c key bytes)
  pub register : (c : Contents) (n : ℕ) → P c → P (with_number d.rows error_register_key n c)
  pub error : (c : Contents) (code : ℕ) → P c → P (pushed d.rows code c)
  pub data_taken : (c : Contents) (n : ℕ) (bytes : List ℕ) → Data bytes → P c → P (contents_after d.rows (mapping_of Rpdo d c n) bytes c)
  pub reset : (area : Area) (c : Contents) → P c → P (restored area d.initial c)

-- what the application writes is good, where it isn't refused
abbrev pub GoodEvent : Description → (Key → List ℕ → Type 0) → Contents → AppView → Type 0
GoodEvent d Good c (Written key bytes) = app_refusal d c key bytes ≡ None → Good key bytes
GoodEvent d Good c (EventOn n) = Unit {0}
GoodEvent d Good c (ChangedAt key) = Unit {0}
GoodEvent d Good c (Raised code bits manufacturer) = Unit {0}
GoodEvent d Good c (Cleared bits) = Unit {0}

-- and so what an input sets, as it is received
abbrev pub GoodInput : Constants → (Key → List ℕ → Type 0) → History → InputView → Type 0
GoodInput k Good history (Framed frame) = (w : Download) → set_of (channels k) k.description (contents_at k history) (channel_logs history) frame ≡ Some w → Good w.key w.bytes
GoodInput k Good history Ticked = Unit {0}
GoodInput k Good history (Applied event) = GoodEvent k.description Good (contents_at k history) event

abbrev pub GoodFrames : (List ℕ → Type 0) → List KeptFrame → Type 0
GoodFrames Good frames = AllByRecursion (λ r. Good r.frame.bytes) frames

-- what a frame sets is permitted, as `co_sdo` proves it
abbrev pub SetsPermitted : Type 0
SetsPermitted =
    (channels : List ChannelSettings) (d : Description) (c : Contents) (logs : ℕ → Log) (frame : FrameContent) (w : Download)
    → set_of channels d c logs frame ≡ Some w → completion_refusal d c w.key w.indicated w.bytes ≡ None

module _ (k : Constants) (P : Contents → Type 0) (Good : Key → List ℕ → Type 0) (Data : List ℕ → Type 0) (keeps : Keeps k.description P Good Data) where
  -- ---- errors

  one_raised : (error : DeviceError) (c : Contents) → P c → P (raised k.description.rows error c)
  one_raised error c h = keeps.error (with_register k.description.rows (register_with error.bits c) c) error.code (keeps.register c (register_with error.bits c) h)

  errors_raised : (errors : List DeviceError) (c : Contents) → P c → P (all_raised k.description.rows errors c)
  errors_raised [] c h = h
  errors_raised (error ∷ errors) c h = errors_raised errors (raised k.description.rows error c) (one_raised error c h)

  -- ---- data of RPDOs

  all_data : (rpdos : List KeptFrame) (c : Contents) → GoodFrames Data rpdos → P c → P (after_all_data k.description c rpdos)
  all_data [] c good h = h
  all_data (rpdo ∷ rpdos) c good h =
      all_data rpdos (after_data k.description c rpdo) good.1
      (errors_raised (data_errors k.description c rpdo) (with_data k.description c rpdo) (keeps.data_taken c rpdo.number rpdo.frame.bytes good.0 h))

  -- ---- as it is received

  either : (b : Bool) (x y : Moment) → P x.received → P y.received → P (if b then x else y).received
  either true x y p q = p
  either false x y p q = q

  set_kept : (c : Contents) (set : Option Download) → ((w : Download) → set ≡ Some w → Good w.key w.bytes) → P c → P (contents_with c set)
  set_kept c None good h = h
  set_kept c (Some w) good h = keeps.write c w.key w.bytes (good w refl) h

  by_service : (service : Option NmtService) (c : Contents) (input : InputView) → P c → P (with_service k.description.initial service (nothing_of input c)).received
  by_service None c input h = h
  by_service (Some Start) c input h = h
  by_service (Some Stop) c input h = h
  by_service (Some EnterPreOperational) c input h = h
  by_service (Some ResetNode) c input h = keeps.reset All c h
  by_service (Some ResetCommunication) c input h = keeps.reset Communication c h

  by_request : (logs : ℕ → Log) (frame : FrameContent) (c : Contents) (input : InputView) → ((w : Download) → set_of (channels k) k.description c logs frame ≡ Some w → Good w.key w.bytes) → P c
      → P (with_request k logs frame (nothing_of input c)).received
  by_request logs frame c input good h =
      set_kept c (set_of (channels k) k.description c logs frame) good h

  by_frame : (history : History) (address : Address) (frame : FrameContent) (c : Contents) (input : InputView) → ((w : Download) → set_of (channels k) k.description c (channel_logs history) frame ≡ Some w → Good w.key w.bytes) → P c
      → P (with_frame k history address frame (nothing_of input c)).received
  by_frame history Nmt frame c input good h = by_service (service_for k.description.node (nmt_command_in frame)) c input h
  by_frame history Sync frame c input good h = either (is_state Stopped (state_at history)) _ _ h h
  by_frame history (Channel j) frame c input good h = either (is_state Stopped (state_at history)) _ _ h (by_request (channel_logs history) frame c input good h)
  by_frame history (RpdoAddress n) frame c input good h = either (is_state Operational (state_at history)) _ _ h h
  by_frame history (ErrorControl node) frame c input good h = either (is_heartbeat (heartbeat_in frame.bytes)) _ _ h h
  by_frame history Nobody frame c input good h = h

  by_event : (event : AppView) (refusal : Option ℕ) (c : Contents) (input : InputView) → event_refusal k.description c event ≡ refusal → GoodEvent k.description Good c event → P c → P (with_app_event k.description event refusal (nothing_of input c)).received
  by_event event (Some code) c input is good h = h
  by_event (Written key bytes) None c input is good h = keeps.write c key bytes (good is) h
  by_event (EventOn n) None c input is good h = h
  by_event (ChangedAt key) None c input is good h = h
  by_event (Raised code bits manufacturer) None c input is good h = one_raised (app_error code bits manufacturer) c h
  by_event (Cleared bits) None c input is good h = keeps.register c (register_without bits c) h

  by_input : (history : History) (input : InputView) → GoodInput k Good history input → P (contents_at k history) → P (with_input k history input (nothing_of input (contents_at k history))).received
  by_input history (Framed frame) good h = by_frame history (address_at k history frame.id) frame (contents_at k history) (Framed frame) good h
  by_input history Ticked good h = h
  by_input history (Applied event) good h = by_event event (event_refusal k.description (contents_at k history) event) (contents_at k history) (Applied event) refl good h

  -- ---- at the end of an input

  pub next : (history : History) (input : InputView) → GoodInput k Good history input → GoodFrames Data (moment k history input).taken → P (contents_at k history) → P (moment k history input).contents
  next history input good taken h =
      let m : Moment = moment k history input in
      let watched : P m.watched = errors_raised (loss_errors m.lost) m.received (by_input history input good h) in
      all_data m.taken (all_raised k.description.rows (arrival_errors k.description m) m.watched) taken (errors_raised (arrival_errors k.description m) m.watched watched)
