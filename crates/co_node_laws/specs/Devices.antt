-- The state of a device after its inputs, and the effects of a write, a change of the NMT state, a
-- reset, errors and the data of RPDOs: the terms in which `ByKind` describes each kind of input.
use Rattle.std.specs.Prelude.{ℕ, ◌-◌, ◌==◌, ◌&&◌, not, Bool, List, [], slice_get, Option, Some, None, if◌then◌else◌}
use Rattle.std.specs.List.{list_all, filter_map, range_with_len}
use Rattle.co_value.specs.declared.key.Key.{Key}
use Rattle.co_value.specs.Keys.{same_key}
use Rattle.co_frame.specs.FrameContent.{FrameContent}
use Rattle.co_frame.specs.declared.emergency.Emergency.{Emergency}
use Rattle.co_profile.specs.Indices.{rpdo_communication, tpdo_communication, is_within}
use Rattle.co_profile.specs.Keys.{producer_key, emergency_key, emergency_inhibit_key}
use Rattle.co_dict.specs.declared.area.Area.{Area}
use Rattle.co_dict.specs.CobIds.{is_valid}
use Rattle.co_dict.specs.ConsumerHeartbeats.{consumer_key}
use Rattle.co_dict.specs.Rows.{Contents, number_at, restored}
use Rattle.co_dict.specs.Stores.{Description}
use Rattle.co_sdo.specs.Log.{Log, Dropped}
use Rattle.co_sdo.specs.Events.{with_each}
use Rattle.co_pdo.specs.declared.tpdo.Part.{Part}
use Rattle.co_pdo.specs.Schedules.{History as Schedule, with_start, with_all_started}
use Rattle.co_node_parts.specs.declared.nmt_state.NodeState.{NodeState}
use Rattle.co_node_parts.specs.declared.nmt_state.NodeState.TheVariants.{PreOperational, Operational, Stopped}
use Rattle.co_node_parts.specs.declared.nmt_state.Transition.{Transition}
use Rattle.co_node_parts.specs.declared.rpdo_slots.KeptFrame.{KeptFrame}
use Rattle.co_node_parts.specs.NmtStates.{enters, is_state, leaves}
use Rattle.co_node_parts.specs.EmergencyQueues.{Sending, is_past}
use Rattle.co_node_parts.specs.RpdoSlots.{numbered}
use Rattle.co_node_model.specs.declared.device_error.DeviceError.{DeviceError}
use Rattle.co_node_model.specs.Emergencies.{all_raised, emergencies_of}
use Rattle.co_node_model.specs.Moments.{Constants}
use Rattle.co_node_model.specs.Rpdos.{empties_slot, after_all_data, all_data_emergencies}
use Rattle.co_node_model.specs.Sdo.{with_drop}
use Rattle.co_node_model.specs.Tpdos.{part_started}
use Rattle.co_node_laws.specs.Distances.{and_sent, queued, rest_after}

-- a device after its inputs
pub record Device : Type 0 where
  -- the NMT state (CiA 301, 7.3.2)
  pub state : NodeState
  -- the bytes of the entries (7.4)
  pub entries : Contents
  -- the requests of each SDO channel with their responses, its ticks, time-outs and drops, newest
  -- first (7.2.4)
  pub transfers : ℕ → Log
  -- the emergencies that wait, the oldest first (7.2.7)
  pub queue : List Emergency
  -- the emergencies that were sent since the last reset: how many ticks ago, and 1015:00 as it was
  -- then (7.5.2.18)
  pub sendings : List Sending
  -- how many ticks came since the producer of heartbeats began: at the last reset or write of
  -- 1017:00 (7.2.8.3.2)
  pub produced : ℕ
  -- for each entry of 1016h, how many ticks came since its last heartbeat, if one came since the
  -- entry began (7.2.8.3.2)
  pub silence : ℕ → Option ℕ
  -- for each RPDO, the frame that waits for a SYNC (7.2.2.2)
  pub kept : ℕ → Option FrameContent
  -- the starts of TPDOs, and in operational the SYNCs, events and ticks with the TPDOs sent at
  -- them, newest first (7.2.2.2 to 7.2.2.4)
  pub schedule : Schedule

-- a device that has just been built: pre-operational (7.3.2.2)
abbrev pub built : Constants → Device
built k = record {
  state = PreOperational;
  entries = k.start;
  transfers = λ j. [];
  queue = [];
  sendings = [];
  produced = 0;
  silence = λ sub. None;
  kept = λ n. None;
  schedule = [];
}

-- ---- the NMT state, and resets (7.3.2)

-- the device in another NMT state: entering stopped drops all SDO transfers, leaving operational
-- drops the waiting frames of RPDOs, entering operational starts all TPDOs
abbrev pub in_state : NodeState → Device → Device
in_state after d =
    let t : Transition = record { before = d.state; after = after } in
    record d {
      state = after;
      transfers = with_drop (enters Stopped t) d.transfers;
      kept = λ n. if leaves Operational t then None else d.kept n;
      schedule = if enters Operational t then with_all_started d.entries d.schedule else d.schedule;
    }

-- a reset restores its area, ends in pre-operational, drops open transfers, waiting frames and
-- emergencies, and restarts the heartbeat counts; TPDOs start when operational is entered (7.3.2.2)
abbrev pub reset : Constants → Area → Device → Device
reset k area d = record d {
  state = PreOperational;
  entries = restored area k.description.initial d.entries;
  transfers = with_each Dropped d.transfers;
  queue = [];
  sendings = [];
  produced = 0;
  silence = λ sub. None;
  kept = λ n. None;
}

-- ---- a write, of an SDO download or of the application

-- the key is that of the COB-ID or the transmission type of RPDO n, 1400h + n:01 or 02 (7.5.2.35)
abbrev pub is_rpdo_written : ℕ → Key → Bool
is_rpdo_written n key = empties_slot key && n == key.index - rpdo_communication.0

-- the schedule with a start of TPDO n, whole or its event timer, if there is one
abbrev pub with_part_started : ℕ → Option Part → Contents → Schedule → Schedule
with_part_started n None entries schedule = schedule
with_part_started n (Some part) entries schedule = with_start n part entries schedule

-- a write to 1800h + n:01 or 02 starts TPDO n, one to 1800h + n:05 its event timer (7.5.2.37)
abbrev pub with_tpdo_written : Key → Contents → Schedule → Schedule
with_tpdo_written key entries schedule =
    if is_within tpdo_communication key.index
    then with_part_started (key.index - tpdo_communication.0) (part_started key.sub) entries schedule
    else schedule

-- the device after a write, with the new entries: at 1017:00 the heartbeat producer begins again,
-- at an entry of 1016h its consumer. A write of a COB-ID or transmission type drops the waiting
-- frame of an RPDO, and in operational starts a TPDO
abbrev pub with_write : Key → Contents → Device → Device
with_write key entries d = record d {
  entries = entries;
  produced = if same_key key producer_key then 0 else d.produced;
  silence = λ sub. if same_key key (consumer_key sub) then None else d.silence sub;
  kept = λ n. if is_rpdo_written n key then None else d.kept n;
  schedule = if is_state Operational d.state then with_tpdo_written key entries d.schedule else d.schedule;
}

-- ---- errors, and the data of RPDOs (7.2.7 and 7.2.2)

-- the device after these errors were raised, in order: the error register, the pre-defined error
-- field, an emergency for each
abbrev pub with_errors : Description → List DeviceError → Device → Device
with_errors description errors d = record d {
  entries = all_raised description.rows errors d.entries;
  queue = queued (emergencies_of description.rows errors d.entries) d.queue;
}

-- the device after the data of these frames took effect, in order
abbrev pub with_data : Description → List KeptFrame → Device → Device
with_data description rpdos d = record d {
  entries = after_all_data description d.entries rpdos;
  queue = queued (all_data_emergencies description d.entries rpdos) d.queue;
}

-- the frames that wait for a SYNC, by the number of their RPDO
abbrev pub frames_kept : Device → List KeptFrame
frames_kept d = filter_map (λ n. numbered n (d.kept n)) (range_with_len 0 512)

-- ---- the end of an input

-- the emergency sent at the end of an input: the oldest in the queue, unless the device is stopped,
-- 1014:00 is no valid COB-ID, a transfer timed out at the input, or an inhibit time hasn't elapsed
-- (7.2.7, 7.5.2.17 and 7.5.2.18)
abbrev pub emergency_at_end : Bool → Device → Option Emergency
emergency_at_end aborted d =
    if (not (is_state Stopped d.state) && is_valid (number_at d.entries emergency_key) && not aborted) && list_all is_past d.sendings
    then slice_get d.queue 0 else None

-- the device after this emergency was sent, if any
abbrev pub after_sending : Option Emergency → Device → Device
after_sending sent d = record d {
  queue = rest_after sent d.queue;
  sendings = and_sent sent (number_at d.entries emergency_inhibit_key) d.sendings;
}
