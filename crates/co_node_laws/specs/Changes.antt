-- The entries after an input, by its kind, and for a frame by its addressee.
use Rattle.std.specs.Prelude.{◌==◌, ◌||◌, ℕ, Bool, List, Option, Some, None, length, if◌then◌else◌}
use Rattle.co_frame.specs.FrameContent.{FrameContent}
use Rattle.co_frame.specs.Nmt.{nmt_command_in, nmt_command_bytes}
use Rattle.co_frame.specs.declared.nmt.NmtService.{NmtService}
use Rattle.co_frame.specs.declared.nmt.NmtService.TheVariants.{ResetNode, ResetCommunication}
use Rattle.co_dict.specs.declared.area.Area.{Area}
use Rattle.co_dict.specs.declared.area.Area.TheVariants.{Communication, All}
use Rattle.co_dict.specs.Rows.{Contents}
use Rattle.co_dict.specs.Stores.{Description}
use Rattle.co_sdo.specs.Downloads.{Download}
use Rattle.co_sdo.specs.Completed.{set_by, contents_with}
use Rattle.co_sdo.specs.Log.{Log}
use Rattle.co_node_parts.specs.declared.nmt_state.NodeState.{NodeState}
use Rattle.co_node_parts.specs.declared.nmt_state.NodeState.TheVariants.{PreOperational, Operational, Stopped}
use Rattle.co_node_parts.specs.declared.heartbeat_consumers.ConsumersEvent.TheVariants as consumers
use Rattle.co_node_parts.specs.declared.rpdo_slots.KeptFrame.{KeptFrame}
use Rattle.co_node_parts.specs.ConsumerTables.{ConsumersLog, lost_at}
use Rattle.co_node_parts.specs.RpdoSlots.{SlotLog, all_kept}
use Rattle.co_node_model.specs.declared.address.Address.{Address}
use Rattle.co_node_model.specs.declared.address.Address.TheVariants.{Nmt, Sync, Channel, Rpdo, ErrorControl, Nobody}
use Rattle.co_node_model.specs.Inputs.{InputView, Inputs, AppView, Framed, Ticked, Applied}
use Rattle.co_node_model.specs.AppEvents.{event_refusal, app_contents}
use Rattle.co_node_model.specs.declared.device_error.DeviceError.{DeviceError}
use Rattle.co_node_model.specs.Emergencies.{all_raised}
use Rattle.co_node_model.specs.Sync.{sync_errors}
use Rattle.co_node_model.specs.Rpdos.{rpdo_errors, immediate, after_all_data, slot_log}
use Rattle.co_node_model.specs.Moments.{Constants}
use Rattle.co_node_model.specs.Sdo.{channel_logs}
use Rattle.co_node_model.specs.Heartbeats.{consumers_log, loss_errors}
use Rattle.co_node_model.specs.Nmt.{service_for, after_service}
use Rattle.co_node_model.specs.Addresses.{address_at}
use Rattle.co_node_model.specs.Device.{moments, state_of, contents_of}

-- the service that resets an area
abbrev pub reset_service : Area → NmtService
reset_service All = ResetNode
reset_service Communication = ResetCommunication

-- the NMT command that resets an area of the node with a node-ID, of all nodes if it is 0 (CiA 301,
-- 7.2.8.3.1)
abbrev pub reset_to : ℕ → Area → InputView
reset_to node area = Framed (record { id = 0; bytes = nmt_command_bytes (record { service = reset_service area; node = node }) })

-- an NMT command with a node-ID is for this device: for all nodes, or for its own node-ID
abbrev pub is_for : Constants → ℕ → Bool
is_for k node = node == 0 || node == k.description.node

-- these errors of length are raised, then the data of these frames take effect, in order
abbrev pub after_errors_and_data : Description → List DeviceError → List KeptFrame → Contents → Contents
after_errors_and_data d errors rpdos contents = after_all_data d (all_raised d.rows errors contents) rpdos

-- a SYNC: the error of its length, if any, is raised; in operational the waiting frames of RPDOs
-- take effect then, by number; while stopped nothing changes
abbrev pub changed_by_sync : Description → NodeState → SlotLog → FrameContent → Contents → Contents
changed_by_sync d Stopped log frame contents = contents
changed_by_sync d PreOperational log frame contents = all_raised d.rows (sync_errors contents (Some frame)) contents
changed_by_sync d Operational log frame contents = after_errors_and_data d (sync_errors contents (Some frame)) (all_kept 512 log) contents

-- a frame of an RPDO, in operational alone: the error of its length, if any, is raised; then its
-- data take effect, unless they wait for a SYNC
abbrev pub changed_by_rpdo : Description → NodeState → KeptFrame → Contents → Contents
changed_by_rpdo d Stopped rpdo contents = contents
changed_by_rpdo d PreOperational rpdo contents = contents
changed_by_rpdo d Operational rpdo contents =
    after_errors_and_data d (rpdo_errors d contents (Some rpdo)) (immediate d contents (Some rpdo)) contents

-- the download that a frame sets after the log of its channel: none if it hasn't eight bytes
abbrev pub download_set : Description → Contents → Log → FrameContent → Option Download
download_set d contents log frame = if length frame.bytes == 8 then set_by d contents log frame.bytes else None

-- a frame to an SDO channel with this log: it sets the entry of the whole, permitted download that
-- it completes; while stopped nothing changes
abbrev pub changed_by_request : Description → NodeState → Log → FrameContent → Contents → Contents
changed_by_request d Stopped log frame contents = contents
changed_by_request d PreOperational log frame contents = contents_with contents (download_set d contents log frame)
changed_by_request d Operational log frame contents = contents_with contents (download_set d contents log frame)

-- a frame, by its addressee: an NMT command that is no reset, error control, and a frame for nobody
-- change nothing
abbrev pub changed_by_frame : Constants → Inputs → Address → FrameContent → Contents
changed_by_frame k inputs Nmt frame =
    after_service k.description.initial (service_for k.description.node (nmt_command_in frame)) (contents_of k inputs)
changed_by_frame k inputs Sync frame =
    changed_by_sync k.description (state_of k inputs) (slot_log k (moments k inputs)) frame (contents_of k inputs)
changed_by_frame k inputs (Channel j) frame =
    changed_by_request k.description (state_of k inputs) (channel_logs (moments k inputs) j) frame (contents_of k inputs)
changed_by_frame k inputs (Rpdo n) frame =
    changed_by_rpdo k.description (state_of k inputs) (record { number = n; frame = frame }) (contents_of k inputs)
changed_by_frame k inputs (ErrorControl node) frame = contents_of k inputs
changed_by_frame k inputs Nobody frame = contents_of k inputs

-- a tick: an error is raised for each heartbeat lost at it
abbrev pub changed_by_tick : Description → ConsumersLog → Contents → Contents
changed_by_tick d log contents = all_raised d.rows (loss_errors (lost_at consumers.Tick log)) contents

-- an application event: its own effect, unless it is refused
abbrev pub changed_by_event : Description → AppView → Option ℕ → Contents → Contents
changed_by_event d event None contents = app_contents d event contents
changed_by_event d event (Some code) contents = contents

-- the entries after one more input
abbrev pub changed_by : Constants → Inputs → InputView → Contents
changed_by k inputs (Framed frame) = changed_by_frame k inputs (address_at k (moments k inputs) frame.id) frame
changed_by k inputs Ticked = changed_by_tick k.description (consumers_log k (moments k inputs)) (contents_of k inputs)
changed_by k inputs (Applied event) =
    changed_by_event k.description event (event_refusal k.description (contents_of k inputs) event) (contents_of k inputs)
