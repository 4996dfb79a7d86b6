-- What an input is to the schedule of TPDOs: which inputs are a SYNC.
use Rattle.std.proofs.Common.{◌≡◌, ℕ, ◌-◌, Bool, true, false, ◌∷◌, Option, Some, None, refl, ◌⊎◌, inl, inr}
use Rattle.std.specs.Prelude.{if◌then◌else◌, ◌==◌, not, is_some}
use Rattle.co_value.specs.declared.key.Key.{Key}
use Rattle.co_frame.specs.FrameContent.{FrameContent}
use Rattle.co_frame.specs.Heartbeats.{heartbeat_in}
use Rattle.co_frame.specs.Nmt.{nmt_command_in}
use Rattle.co_frame.specs.declared.nmt.NmtService.{NmtService}
use Rattle.co_dict.specs.Rows.{Contents}
use Rattle.co_dict.specs.Stores.{Description}
use Rattle.co_profile.specs.Indices.{is_within, tpdo_communication}
use Rattle.co_pdo.specs.declared.tpdo.Part.{Part}
use Rattle.co_sdo.specs.Completed.{key_set}
use Rattle.co_sdo.specs.Events.{number_for, set_of}
use Rattle.co_node_parts.specs.NmtStates.{is_state}
use Rattle.co_node_parts.specs.declared.nmt_state.NodeState.TheVariants.{Operational, Stopped}
use Rattle.co_node_model.specs.declared.address.Address.{Address}
use Rattle.co_node_model.specs.declared.address.Address.TheVariants.{ErrorControl, Nobody, Rpdo, Channel, Nmt, Sync}
use Rattle.co_node_model.specs.declared.mark.Mark.{Mark}
use Rattle.co_node_model.specs.declared.mark.Mark.TheVariants as was
use Rattle.co_node_model.specs.declared.turn.Turn.{Turn}
use Rattle.co_node_model.specs.declared.turn.Turn.TheVariants as turn
use Rattle.co_node_model.specs.Addresses.{address_unless_channel, address_unless_rpdo, is_error_control}
use Rattle.co_node_model.specs.AppEvents.{event_refusal, with_app_event}
use Rattle.co_node_model.specs.Device.{moment, with_frame}
use Rattle.co_node_model.specs.Heartbeats.{is_heartbeat}
use Rattle.co_node_model.specs.Inputs.{AppView, Applied, ChangedAt, Cleared, EventOn, Framed, InputView, Raised, Ticked, Written}
use Rattle.co_node_model.specs.Marks.{command_mark, marked_key, marked_sync, written_mark}
use Rattle.co_node_model.specs.Moments.{Constants, History, Moment, channels, contents_at, nothing_of}
use Rattle.co_node_model.specs.Nmt.{is_reset, service_for, state_at}
use Rattle.co_node_model.specs.Rpdos.{rpdo_with}
use Rattle.co_node_model.specs.Sdo.{channel_logs}
use Rattle.co_node_model.specs.Sync.{is_sync_id}
use Rattle.co_node_model.specs.Tpdos.{part_started, start_turn, turn_at, turn_by_write, turn_with}

-- ---- a turn that is a SYNC

abbrev pub is_sync_turn : Turn → Bool
is_sync_turn (turn.Sync counter) = true
is_sync_turn other = false

started : (n : ℕ) (part : Option Part) → is_sync_turn (start_turn n part) ≡ false
started n None = refl
started n (Some part) = refl

written : (key : Key) → is_sync_turn (turn_by_write key) ≡ false
written key = by (is_within tpdo_communication key.index)
  where
    by : (b : Bool) → is_sync_turn (if b then start_turn (key.index - tpdo_communication.0) (part_started key.sub) else turn.Quiet) ≡ false
    by true = started (key.index - tpdo_communication.0) (part_started key.sub)
    by false = refl

by_mark : (mark : Mark) → is_some (marked_sync mark) ≡ false → is_sync_turn (turn_with (marked_key mark) mark) ≡ false
by_mark was.Quiet off = refl
by_mark (was.Command service) off = refl
by_mark (was.Written key) off = written key
by_mark (was.Sync frame) off = absurd (cc)
by_mark (was.Rpdo frame) off = refl
by_mark (was.Heard node) off = refl
by_mark (was.Tick timed_out) off = refl
by_mark (was.Asked asked) off = refl

pub no_sync_turn : (m : Moment) (history : History) → is_some (marked_sync m.mark) ≡ false → is_sync_turn (turn_at m history) ≡ false
no_sync_turn m history off = by (is_state Operational (state_at (m ∷ history))) (is_state Operational (state_at history))
  where
    by : (a b : Bool) → is_sync_turn (if not a then turn.Quiet else (if not b then turn.StartAll else turn_with (marked_key m.mark) m.mark)) ≡ false
    by false b = refl
    by true false = refl
    by true true = by_mark m.mark off

pub no_reset : (mark : Mark) → is_some (marked_sync mark) ≡ true → is_reset mark ≡ false
no_reset was.Quiet on = absurd (cc)
no_reset (was.Command service) on = absurd (cc)
no_reset (was.Written key) on = absurd (cc)
no_reset (was.Sync frame) on = refl
no_reset (was.Rpdo frame) on = absurd (cc)
no_reset (was.Heard node) on = absurd (cc)
no_reset (was.Tick timed_out) on = absurd (cc)
no_reset (was.Asked asked) on = absurd (cc)

-- ---- an input that is one

command_off : (service : Option NmtService) → is_some (marked_sync (command_mark service)) ≡ false
command_off None = refl
command_off (Some service) = refl

written_off : (key : Option Key) → is_some (marked_sync (written_mark key)) ≡ false
written_off None = refl
written_off (Some key) = refl

either_off : (b : Bool) (x y : Moment) → is_some (marked_sync x.mark) ≡ false → is_some (marked_sync y.mark) ≡ false → is_some (marked_sync (if b then x else y).mark) ≡ false
either_off true x y p q = p
either_off false x y p q = q

abbrev is_sync_address : Address → Bool
is_sync_address Sync = true
is_sync_address address = false

frame_off : (k : Constants) (history : History) (address : Address) (frame : FrameContent) (input : InputView) (c : Contents) → is_sync_address address ≡ false
    → is_some (marked_sync (with_frame k history address frame (nothing_of input c)).mark) ≡ false
frame_off k history Nmt frame input c off = command_off (service_for k.description.node (nmt_command_in frame))
frame_off k history Sync frame input c off = absurd (cc)
frame_off k history (Channel j) frame input c off = either_off (is_state Stopped (state_at history)) _ _ refl (written_off (key_set (set_of (channels k) k.description c (channel_logs history) frame)))
frame_off k history (Rpdo n) frame input c off = either_off (is_state Operational (state_at history)) _ _ refl refl
frame_off k history (ErrorControl node) frame input c off = either_off (is_heartbeat (heartbeat_in frame.bytes)) _ _ refl refl
frame_off k history Nobody frame input c off = refl

last_off : (control : Bool) (node : ℕ) → is_sync_address (if control then ErrorControl node else Nobody) ≡ false
last_off true node = refl
last_off false node = refl

rpdo_off : (rpdo : Option ℕ) (id : ℕ) → is_sync_address (address_unless_rpdo rpdo id) ≡ false
rpdo_off (Some n) id = refl
rpdo_off None id = last_off (is_error_control id) _

channel_off : (channel : Option ℕ) (c : Contents) (id : ℕ) → is_sync_address (address_unless_channel channel c id) ≡ false
channel_off (Some j) c id = refl
channel_off None c id = rpdo_off (rpdo_with c id) id

event_off : (d : Description) (event : AppView) (refusal : Option ℕ) (input : InputView) (c : Contents) → is_some (marked_sync (with_app_event d event refusal (nothing_of input c)).mark) ≡ false
event_off d event (Some code) input c = refl
event_off d (Written key bytes) None input c = refl
event_off d (EventOn n) None input c = refl
event_off d (ChangedAt key) None input c = refl
event_off d (Raised code bits manufacturer) None input c = refl
event_off d (Cleared bits) None input c = refl

-- the input is a frame with the identifier of SYNC
abbrev pub IsSync : Contents → InputView → Type 0
IsSync c (Framed frame) = ((frame.id == 0) ≡ false) × (is_sync_id c frame.id ≡ true)
IsSync c Ticked = ⊥
IsSync c (Applied event) = ⊥

frame_sync : (k : Constants) (history : History) (frame : FrameContent) → (is_some (marked_sync (moment k history (Framed frame)).mark) ≡ false) ⊎ IsSync (contents_at k history) (Framed frame)
frame_sync k history frame = by (frame.id == 0) (is_sync_id (contents_at k history) frame.id)
  where
    rest : Address
    rest = address_unless_channel (number_for (channels k) frame.id) (contents_at k history) frame.id

    by : (a b : Bool) → (is_some (marked_sync (with_frame k history (if a then Nmt else (if b then Sync else rest)) frame (nothing_of (Framed frame) (contents_at k history))).mark) ≡ false) ⊎ ((a ≡ false) × (b ≡ true))
    by true b = inl (command_off (service_for k.description.node (nmt_command_in frame)))
    by false true = inr (refl, refl)
    by false false = inl (frame_off k history rest frame (Framed frame) (contents_at k history) (channel_off (number_for (channels k) frame.id) (contents_at k history) frame.id))

pub sync_or : (k : Constants) (history : History) (input : InputView) → (is_some (marked_sync (moment k history input).mark) ≡ false) ⊎ IsSync (contents_at k history) input
sync_or k history (Framed frame) = frame_sync k history frame
sync_or k history Ticked = inl refl
sync_or k history (Applied event) = inl (event_off k.description event (event_refusal k.description (contents_at k history) event) (Applied event) (contents_at k history))
