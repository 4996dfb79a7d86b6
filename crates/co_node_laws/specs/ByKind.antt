-- A device by the kind of its inputs: for each kind its effects and its frames. A law of this crate
-- states that a device so described sends `prescribed`, and has the state and the entries of
-- `co_node_model`.
use Rattle.std.specs.Prelude.{ℕ, ◌+◌, ◌==◌, ◌&&◌, not, Bool, true, false, List, [], ◌∷◌, ◌++◌, map, is_some, Option, Some, None, if◌then◌else◌}
use Rattle.std.specs.List.{filter}
use Rattle.co_frame.specs.FrameContent.{FrameContent}
use Rattle.co_frame.specs.Heartbeats.{heartbeat_in}
use Rattle.co_frame.specs.Nmt.{nmt_command_in}
use Rattle.co_frame.specs.declared.nmt.NmtService.{NmtService}
use Rattle.co_frame.specs.declared.nmt.NmtService.TheVariants.{Start, Stop, EnterPreOperational, ResetNode, ResetCommunication}
use Rattle.co_profile.specs.Keys.{error_behaviour_key, producer_key}
use Rattle.co_profile.specs.TransmissionTypes.{is_synchronous}
use Rattle.co_dict.specs.declared.area.Area.TheVariants.{Communication, All}
use Rattle.co_dict.specs.ConsumerHeartbeats.{consumer_key}
use Rattle.co_dict.specs.Rows.{number_at, written}
use Rattle.co_dict.specs.Stores.{Description}
use Rattle.co_sdo.specs.Downloads.{Download}
use Rattle.co_sdo.specs.Log.{Ticked as TickOfChannel}
use Rattle.co_sdo.specs.Events.{ChannelEvent, exchange_of, frames_at, logs_after, number_for, set_of, time_out_of, with_each}
use Rattle.co_pdo.specs.Schedules.{all_due, all_due_among, sync_with, with_events, with_sync, with_tick}
use Rattle.co_pdo.specs.Tpdos.{tpdo_numbers}
use Rattle.co_pdo.specs.declared.tpdo.Occasion.TheVariants as occasion
use Rattle.co_node_parts.specs.declared.nmt_state.NodeState.{NodeState}
use Rattle.co_node_parts.specs.declared.nmt_state.NodeState.TheVariants.{PreOperational, Operational, Stopped}
use Rattle.co_node_parts.specs.declared.rpdo_slots.KeptFrame.{KeptFrame}
use Rattle.co_node_parts.specs.Consumers.{is_monitored, is_over_after, later, monitored_by}
use Rattle.co_node_parts.specs.ConsumerTables.{entry_subs}
use Rattle.co_node_parts.specs.EmergencyQueues.{older}
use Rattle.co_node_parts.specs.NmtStates.{after_loss, commanded, heartbeat_of, is_state, reaction_with}
use Rattle.co_node_model.specs.declared.address.Address.{Address}
use Rattle.co_node_model.specs.declared.address.Address.TheVariants.{Nmt, Sync, Channel, Rpdo, ErrorControl, Nobody}
use Rattle.co_node_model.specs.Addresses.{address_of}
use Rattle.co_node_model.specs.AppEvents.{app_error, event_refusal}
use Rattle.co_node_model.specs.Emergencies.{cleared, clearing_of, emergency_frames}
use Rattle.co_node_model.specs.Heartbeats.{boot_up, is_heartbeat, life_frames, loss_errors}
use Rattle.co_node_model.specs.Inputs.{AppView, Applied, ChangedAt, Cleared, EventOn, Framed, Inputs, InputView, Raised, Ticked, Written}
use Rattle.co_node_model.specs.Moments.{Constants, channels}
use Rattle.co_node_model.specs.Nmt.{service_for}
use Rattle.co_node_model.specs.Rpdos.{immediate, is_short, rpdo_errors, rpdo_type}
use Rattle.co_node_model.specs.Sync.{counter_in, sync_errors}
use Rattle.co_node_model.specs.Tpdos.{is_mapped_into, tpdo_frame}
use Rattle.co_node_laws.specs.Devices.{
  Device,
  after_sending,
  built,
  emergency_at_end,
  frames_kept,
  in_state,
  reset,
  with_data,
  with_errors,
  with_write,
}
use Rattle.co_node_laws.specs.Distances.{is_multiple, queued}

-- ---- the outcome of an input

-- the outcome of an input: the device after it; the SDO frames; whether they abort a transfer that
-- timed out; and last the boot-up or heartbeat, and the TPDOs. Between SDO and last an emergency is
-- sent, if one may be
pub record Outcome : Type 0 where
  pub device : Device
  pub responses : List FrameContent
  pub aborted : Bool
  pub last : List FrameContent

-- no frame but a waiting emergency
abbrev pub no_frame : Device → Outcome
no_frame d = record { device = d; responses = []; aborted = false; last = [] }

-- ---- NMT commands to this node or to all nodes (CiA 301, 7.2.8.3.1)

-- start, stop and enter pre-operational change the state alone; a reset sends the boot-up alone
-- (7.2.8.3.3)
abbrev pub by_command : Constants → NmtService → Device → Outcome
by_command k Start d = no_frame (in_state Operational d)
by_command k Stop d = no_frame (in_state Stopped d)
by_command k EnterPreOperational d = no_frame (in_state PreOperational d)
by_command k ResetNode d = record { device = reset k All d; responses = []; aborted = false; last = boot_up k ∷ [] }
by_command k ResetCommunication d = record { device = reset k Communication d; responses = []; aborted = false; last = boot_up k ∷ [] }

-- ---- SYNC (7.2.5): nothing while stopped

-- in operational, with these entries: the TPDOs that are due at it (7.2.2.2 and 7.2.2.3)
abbrev pub with_tpdos_at_sync : Description → FrameContent → Device → Outcome
with_tpdos_at_sync description frame d =
    let due = all_due d.entries d.schedule (sync_with (counter_in frame) d.entries) in
    record {
      device = record d { schedule = with_sync (counter_in frame) d.entries due d.schedule };
      responses = [];
      aborted = false;
      last = map (tpdo_frame description d.entries) due;
    }

-- the error of its length is raised; in operational the frames of RPDOs that wait take effect, then
-- TPDOs are sent (7.2.2.2)
abbrev pub by_sync : Constants → FrameContent → NodeState → Device → Outcome
by_sync k frame Stopped d = no_frame d
by_sync k frame PreOperational d = no_frame (with_errors k.description (sync_errors d.entries (Some frame)) d)
by_sync k frame Operational d =
    let e = with_errors k.description (sync_errors d.entries (Some frame)) d in
    with_tpdos_at_sync k.description frame (record (with_data k.description (frames_kept e) e) { kept = λ n. None })

-- ---- a frame on the request identifier of an SDO channel (7.2.4): nothing while stopped

-- the entry of the permitted download that a frame completes, if any, is written (7.2.4.3.3,
-- 7.2.4.3.4, 7.2.4.3.9 to 7.2.4.3.11)
abbrev pub with_download : Option Download → Device → Device
with_download None d = d
with_download (Some w) d = with_write w.key (written d.entries w.key w.bytes) d

-- a frame of eight bytes is answered, and may set an entry (7.2.4.3)
abbrev pub answered : Constants → FrameContent → Device → Outcome
answered k frame d =
    let exchange = exchange_of (channels k) k.description d.entries d.transfers frame in
    let set = set_of (channels k) k.description d.entries d.transfers frame in
    record {
      device = with_download set (record d { transfers = logs_after exchange d.transfers });
      responses = frames_at exchange;
      aborted = false;
      last = [];
    }

-- a frame is ignored while the device is stopped (7.3.2.2)
abbrev pub by_request : Constants → FrameContent → NodeState → Device → Outcome
by_request k frame Stopped d = no_frame d
by_request k frame PreOperational d = answered k frame d
by_request k frame Operational d = answered k frame d

-- ---- a frame of RPDO n (7.2.2): nothing but in operational

-- the frame waits for a SYNC: the transmission type is 0 to 240, and it isn't too short (7.5.2.35)
abbrev pub waits_for_sync : Constants → KeptFrame → Device → Bool
waits_for_sync k rpdo d = is_synchronous (rpdo_type d.entries rpdo.number) && not (is_short k.description d.entries rpdo)

-- the error of its length is raised; its data take effect at once (types 254 and 255), or it
-- replaces the waiting frame (7.2.2.4 and 7.5.2.35)
abbrev pub by_rpdo : Constants → KeptFrame → NodeState → Device → Outcome
by_rpdo k rpdo Stopped d = no_frame d
by_rpdo k rpdo PreOperational d = no_frame d
by_rpdo k rpdo Operational d =
    let e = with_errors k.description (rpdo_errors k.description d.entries (Some rpdo)) d in
    no_frame (record (with_data k.description (immediate k.description d.entries (Some rpdo)) e) {
      kept = λ n. if waits_for_sync k rpdo d && n == rpdo.number then Some rpdo.frame else d.kept n;
    })

-- ---- a heartbeat of node c, in every state

-- the entries of 1016h that monitor the node restart their count (7.2.8.3.2 and 7.5.2.19)
abbrev pub by_heartbeat : ℕ → Device → Outcome
by_heartbeat c d = no_frame (record d {
  silence = λ sub. if is_monitored c (monitored_by (number_at d.entries (consumer_key sub))) then Some 0 else d.silence sub;
})

-- ---- an application event that isn't refused

-- an event of these TPDOs: in operational those that are due are sent (7.2.2.3)
abbrev pub by_events : Constants → List ℕ → NodeState → Device → Outcome
by_events k numbers Stopped d = no_frame d
by_events k numbers PreOperational d = no_frame d
by_events k numbers Operational d =
    let due = all_due_among numbers d.entries d.schedule in
    record {
      device = record d { schedule = with_events numbers d.entries due d.schedule };
      responses = [];
      aborted = false;
      last = map (tpdo_frame k.description d.entries) due;
    }

-- a write, an event of TPDO n, a change of an entry that TPDOs map, an error that is raised, or
-- errors that are cleared (7.2.7)
abbrev pub by_event : Constants → AppView → Device → Outcome
by_event k (Written key bytes) d = no_frame (with_write key (written d.entries key bytes) d)
by_event k (EventOn n) d = by_events k (n ∷ []) d.state d
by_event k (ChangedAt key) d = by_events k (filter (is_mapped_into k.description d.entries key) tpdo_numbers) d.state d
by_event k (Raised code bits manufacturer) d = no_frame (with_errors k.description (app_error code bits manufacturer ∷ []) d)
by_event k (Cleared bits) d = no_frame (record d {
  entries = cleared k.description.rows bits d.entries;
  queue = queued (clearing_of bits d.entries ∷ []) d.queue;
})

-- ---- a tick, 1 ms

-- the entries of 1016h whose heartbeat is lost: exactly their time has elapsed since the last one
-- (7.2.8.3.2)
abbrev pub lost_now : Device → List ℕ
lost_now d = filter (λ sub. is_over_after (d.silence sub) (monitored_by (number_at d.entries (consumer_key sub)))) entry_subs

-- the NMT state after a tick, by 1029:01 if a heartbeat is lost (7.5.2.32)
abbrev pub state_after_losses : List ℕ → Device → NodeState
state_after_losses [] d = d.state
state_after_losses (sub ∷ lost) d = after_loss (reaction_with (number_at d.entries error_behaviour_key)) d.state

-- the device 1 ms later, by the transfer that is aborted, if any, the lost heartbeats, and the
-- state after them (7.2.8.3.2)
abbrev pub one_ms_later : Constants → Option ChannelEvent → List ℕ → NodeState → Device → Device
one_ms_later k timed_out lost after d =
    in_state after (with_errors k.description (loss_errors lost) (record d {
      transfers = logs_after timed_out (with_each TickOfChannel d.transfers);
      sendings = map older d.sendings;
      produced = d.produced + 1;
      silence = λ sub. later (d.silence sub);
    }))

-- the TPDOs that are due at a tick, in operational (7.2.2.3)
abbrev pub due_at_tick : Device → List ℕ
due_at_tick d = if is_state Operational d.state then all_due d.entries d.schedule occasion.Tick else []

-- the heartbeat, if it is due (7.2.8.3.2), then the TPDOs
abbrev pub last_of_tick : Constants → Bool → Device → List FrameContent
last_of_tick k is_due d =
    life_frames k.description.node (if is_due then Some (heartbeat_of d.state) else None)
    ++ map (tpdo_frame k.description d.entries) (due_at_tick d)

-- the frames: the abort, the heartbeat, TPDOs (7.2.4.3.17, 7.2.8.3.2, 7.2.2.3)
abbrev pub ticked : Constants → Option ChannelEvent → List ℕ → NodeState → Bool → Device → Outcome
ticked k timed_out lost after is_due d =
    let e = one_ms_later k timed_out lost after d in
    record {
      device = record e { schedule = if is_state Operational after then with_tick e.entries (due_at_tick e) e.schedule else e.schedule };
      responses = frames_at timed_out;
      aborted = is_some timed_out;
      last = last_of_tick k is_due e;
    }

-- the lowest channel that has timed out aborts its transfer; heartbeats whose time has elapsed are
-- lost; the device's own is sent if its period divides the ticks since it began (7.2.4.3.17 and
-- 7.2.8.3.2)
abbrev pub by_tick : Constants → Device → Outcome
by_tick k d =
    ticked k (time_out_of (channels k) (with_each TickOfChannel d.transfers)) (lost_now d) (state_after_losses (lost_now d) d)
    (is_multiple d.produced (number_at d.entries producer_key)) d

-- ---- the kind of an input

-- a kind of input, as it is received
pub data Kind : Type 0 where
  -- 1 ms elapsed
  Tick : Kind
  -- an NMT command to this node or to all nodes
  Commanded : NmtService → Kind
  -- a frame on the identifier of SYNC
  Synced : FrameContent → Kind
  -- a frame on the request identifier of an SDO channel
  Requested : FrameContent → Kind
  -- a frame of an active RPDO
  Received : KeptFrame → Kind
  -- a heartbeat of another node
  Heard : ℕ → Kind
  -- a command to another node, a boot-up, or a frame for nobody
  Ignored : Kind
  -- an application event that isn't refused, and one that is
  Done : AppView → Kind
  Refused : ℕ → Kind

-- the kind of a command: it is ignored unless it is for this node or for all nodes (7.2.8.3.1)
abbrev pub kind_of_command : Option NmtService → Kind
kind_of_command None = Ignored
kind_of_command (Some service) = Commanded service

-- the kind of a frame, by its addressee (7.3.5)
abbrev pub kind_of_frame : Constants → Address → FrameContent → Kind
kind_of_frame k Nmt frame = kind_of_command (service_for k.description.node (nmt_command_in frame))
kind_of_frame k Sync frame = Synced frame
kind_of_frame k (Channel j) frame = Requested frame
kind_of_frame k (Rpdo n) frame = Received (record { number = n; frame = frame })
kind_of_frame k (ErrorControl c) frame = if is_heartbeat (heartbeat_in frame.bytes) then Heard c else Ignored
kind_of_frame k Nobody frame = Ignored

-- the kind of an application event, by its refusal
abbrev pub kind_of_event : AppView → Option ℕ → Kind
kind_of_event event None = Done event
kind_of_event event (Some code) = Refused code

-- the kind of an input: of a frame by its identifier, of an application event by the entries then
abbrev pub kind_of : Constants → Device → InputView → Kind
kind_of k d (Framed frame) = kind_of_frame k (address_of (number_for (channels k) frame.id) d.entries frame.id) frame
kind_of k d Ticked = Tick
kind_of k d (Applied event) = kind_of_event event (event_refusal k.description d.entries event)

-- an input without effect: ignored, or refused
abbrev pub is_inert : Kind → Bool
is_inert Ignored = true
is_inert (Refused code) = true
is_inert _ = false

-- a frame of SYNC, SDO or an RPDO: it has no effect while the device is stopped (7.3.2.2)
abbrev pub is_silent_while_stopped : Kind → Bool
is_silent_while_stopped (Synced frame) = true
is_silent_while_stopped (Requested frame) = true
is_silent_while_stopped (Received rpdo) = true
is_silent_while_stopped _ = false

-- the NMT state after an input of this kind: commands and lost heartbeats alone change it (7.3.2)
abbrev pub state_with : Kind → Device → NodeState
state_with Tick d = state_after_losses (lost_now d) d
state_with (Commanded service) d = commanded service
state_with _ d = d.state

-- ---- all kinds together

-- an input that is ignored or refused changes nothing
abbrev pub outcome : Constants → Kind → Device → Outcome
outcome k Tick d = by_tick k d
outcome k (Commanded service) d = by_command k service d
outcome k (Synced frame) d = by_sync k frame d.state d
outcome k (Requested frame) d = by_request k frame d.state d
outcome k (Received rpdo) d = by_rpdo k rpdo d.state d
outcome k (Heard c) d = by_heartbeat c d
outcome k Ignored d = no_frame d
outcome k (Done event) d = by_event k event d
outcome k (Refused code) d = no_frame d

-- the frames, in order: SDO, EMCY, the boot-up or a heartbeat, TPDOs
abbrev pub frames_of : Outcome → List FrameContent
frames_of o = o.responses ++ emergency_frames o.device.entries (emergency_at_end o.aborted o.device) ++ o.last

-- the device after these frames
abbrev pub device_after : Outcome → Device
device_after o = after_sending (emergency_at_end o.aborted o.device) o.device

-- ---- over all inputs, the newest first

-- a device after one more input
abbrev pub device_with : Constants → Device → InputView → Device
device_with k d input = device_after (outcome k (kind_of k d input) d)

-- a device after all its inputs
abbrev pub device_of : Constants → Inputs → Device
device_of k [] = built k
device_of k (input ∷ inputs) = device_with k (device_of k inputs) input

-- the frames that a device sends at one more input
abbrev pub sent_with : Constants → Device → InputView → List FrameContent
sent_with k d input = frames_of (outcome k (kind_of k d input) d)

-- the same after all inputs before it
abbrev pub sent_by : Constants → Inputs → InputView → List FrameContent
sent_by k inputs input = sent_with k (device_of k inputs) input
