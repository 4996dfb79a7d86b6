-- What an input is to the NMT state of a device: the command that it is, and the state after it.
use Rattle.std.proofs.Common.{◌≡◌, ℕ, Bool, true, false, List, [], ◌∷◌, Option, Some, None, refl, ap, ◌∙◌}
use Rattle.std.specs.Prelude.{if◌then◌else◌, ◌==◌}
use Rattle.co_value.specs.declared.key.Key.{Key}
use Rattle.co_frame.specs.FrameContent.{FrameContent}
use Rattle.co_frame.specs.Heartbeats.{heartbeat_in}
use Rattle.co_frame.specs.Nmt.{nmt_command_in}
use Rattle.co_frame.specs.declared.nmt.NmtService.{NmtService}
use Rattle.co_dict.specs.Rows.{Contents, number_at}
use Rattle.co_dict.specs.Stores.{Description}
use Rattle.co_sdo.specs.Completed.{key_set}
use Rattle.co_sdo.specs.Events.{number_for, set_of}
use Rattle.co_profile.specs.Keys.{error_behaviour_key}
use Rattle.co_node_parts.specs.declared.nmt_state.NodeState.{NodeState}
use Rattle.co_node_parts.specs.declared.nmt_state.NodeState.TheVariants.{Operational, Stopped}
use Rattle.co_node_parts.specs.NmtStates.{StateLog, commanded, is_state, reaction_with, state_after}
use Rattle.co_node_model.specs.declared.address.Address.{Address}
use Rattle.co_node_model.specs.declared.address.Address.TheVariants.{ErrorControl, Nobody, Rpdo, Channel, Nmt, Sync}
use Rattle.co_node_model.specs.Addresses.{address_unless_channel, address_unless_rpdo, is_error_control}
use Rattle.co_node_model.specs.AppEvents.{event_refusal, with_app_event}
use Rattle.co_node_model.specs.Device.{moment, with_frame}
use Rattle.co_node_model.specs.Heartbeats.{is_heartbeat, loss_event}
use Rattle.co_node_model.specs.Inputs.{AppView, Applied, ChangedAt, Cleared, EventOn, Framed, InputView, Raised, Ticked, Written}
use Rattle.co_node_model.specs.Marks.{command_mark, marked_command, written_mark}
use Rattle.co_node_model.specs.Moments.{Constants, History, Moment, channels, contents_at, nothing_of}
use Rattle.co_node_model.specs.Nmt.{commanded_event, service_for, state_at, state_log}
use Rattle.co_node_model.specs.Rpdos.{rpdo_with}
use Rattle.co_node_model.specs.Sdo.{channel_logs}
use Rattle.co_node_model.specs.Sync.{is_sync_id}
use Rattle.conode_compare_nmt.specs.declared.finding.NmtState.{NmtState}
use Rattle.conode_compare_laws.proofs.Shown.{is_shown, lost}

-- ---- the command that an input is for the device

abbrev pub command_in : ℕ → InputView → Option NmtService
command_in node (Framed frame) = if frame.id == 0 then service_for node (nmt_command_in frame) else None
command_in node Ticked = None
command_in node (Applied event) = None

command_marked : (service : Option NmtService) → marked_command (command_mark service) ≡ service
command_marked None = refl
command_marked (Some service) = refl

none_written : (key : Option Key) → marked_command (written_mark key) ≡ None
none_written None = refl
none_written (Some key) = refl

either_none : (b : Bool) (x y : Moment) → marked_command x.mark ≡ None → marked_command y.mark ≡ None → marked_command (if b then x else y).mark ≡ None
either_none true x y p q = p
either_none false x y p q = q

abbrev is_nmt : Address → Bool
is_nmt Nmt = true
is_nmt address = false

none_in : (k : Constants) (history : History) (address : Address) (frame : FrameContent) (input : InputView) (c : Contents) → is_nmt address ≡ false
    → marked_command (with_frame k history address frame (nothing_of input c)).mark ≡ None
none_in k history Nmt frame input c off = absurd (cc)
none_in k history Sync frame input c off = either_none (is_state Stopped (state_at history)) _ _ refl refl
none_in k history (Channel j) frame input c off = either_none (is_state Stopped (state_at history)) _ _ refl (none_written (key_set (set_of (channels k) k.description c (channel_logs history) frame)))
none_in k history (Rpdo n) frame input c off = either_none (is_state Operational (state_at history)) _ _ refl refl
none_in k history (ErrorControl node) frame input c off = either_none (is_heartbeat (heartbeat_in frame.bytes)) _ _ refl refl
none_in k history Nobody frame input c off = refl

last_no_nmt : (control : Bool) (node : ℕ) → is_nmt (if control then ErrorControl node else Nobody) ≡ false
last_no_nmt true node = refl
last_no_nmt false node = refl

rpdo_no_nmt : (rpdo : Option ℕ) (id : ℕ) → is_nmt (address_unless_rpdo rpdo id) ≡ false
rpdo_no_nmt (Some n) id = refl
rpdo_no_nmt None id = last_no_nmt (is_error_control id) _

rest_no_nmt : (sync : Bool) (channel : Option ℕ) (c : Contents) (id : ℕ) → is_nmt (if sync then Sync else address_unless_channel channel c id) ≡ false
rest_no_nmt true channel c id = refl
rest_no_nmt false (Some j) c id = refl
rest_no_nmt false None c id = rpdo_no_nmt (rpdo_with c id) id

frame_command : (k : Constants) (history : History) (frame : FrameContent) → marked_command (moment k history (Framed frame)).mark ≡ command_in k.description.node (Framed frame)
frame_command k history frame = by (frame.id == 0)
  where
    by : (b : Bool)
        → marked_command (with_frame k history
        (if b then Nmt else (if is_sync_id (contents_at k history) frame.id then Sync else address_unless_channel (number_for (channels k) frame.id) (contents_at k history) frame.id))
        frame (nothing_of (Framed frame) (contents_at k history))).mark
        ≡ (if b then service_for k.description.node (nmt_command_in frame) else None)
    by true = command_marked (service_for k.description.node (nmt_command_in frame))
    by false = none_in k history (if is_sync_id (contents_at k history) frame.id then Sync else address_unless_channel (number_for (channels k) frame.id) (contents_at k history) frame.id) frame (Framed frame) (contents_at k history)
        (rest_no_nmt (is_sync_id (contents_at k history) frame.id) (number_for (channels k) frame.id) (contents_at k history) frame.id)

event_command : (d : Description) (event : AppView) (refusal : Option ℕ) (input : InputView) (c : Contents) → marked_command (with_app_event d event refusal (nothing_of input c)).mark ≡ None
event_command d event (Some code) input c = refl
event_command d (Written key bytes) None input c = refl
event_command d (EventOn n) None input c = refl
event_command d (ChangedAt key) None input c = refl
event_command d (Raised code bits manufacturer) None input c = refl
event_command d (Cleared bits) None input c = refl

pub command_is : (k : Constants) (history : History) (input : InputView) → marked_command (moment k history input).mark ≡ command_in k.description.node input
command_is k history (Framed frame) = frame_command k history frame
command_is k history Ticked = refl
command_is k history (Applied event) = event_command k.description event (event_refusal k.description (contents_at k history) event) (Applied event) (contents_at k history)

-- ---- the state after an input: by its command, and by a heartbeat that is lost at it

abbrev pub state_by : Option NmtService → NodeState → NodeState
state_by None actual = actual
state_by (Some service) actual = commanded service

by_command : (command : Option NmtService) (log : StateLog) → state_after (commanded_event command ∷ log) ≡ state_by command (state_after log)
by_command None log = refl
by_command (Some service) log = refl

by_loss : (subs : List ℕ) (c : Contents) (log : StateLog) (state : NmtState) → is_shown state (state_after log) ≡ true → is_shown state (state_after (loss_event subs c ∷ log)) ≡ true
by_loss [] c log state h = h
by_loss (sub ∷ subs) c log state h = lost state (state_after log) (reaction_with (number_at c error_behaviour_key)) h

pub end_shown : (k : Constants) (history : History) (input : InputView) (state : NmtState)
    → is_shown state (state_by (command_in k.description.node input) (state_at history)) ≡ true
    → is_shown state (state_at (moment k history input ∷ history)) ≡ true
end_shown k history input state h =
    let m : Moment = moment k history input in
    by_loss m.lost m.received (commanded_event (marked_command m.mark) ∷ state_log history) state
    (ap (is_shown state) (by_command (marked_command m.mark) (state_log history) ∙ ap (λ command. state_by command (state_at history)) (command_is k history input)) ∙ h)
