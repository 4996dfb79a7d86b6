-- A small device by the kind of its inputs, computed from the definitions of `ByKind` alone.
use Rattle.std.proofs.Common.{◌≡◌, true, false, [], ◌∷◌, Some, None, refl}
use Rattle.co_frame.specs.declared.nmt.NmtService.TheVariants.{Start}
use Rattle.co_profile.specs.declared.access.Access.TheVariants.{Rw}
use Rattle.co_node_parts.specs.declared.nmt_state.NodeState.TheVariants.{Operational, Stopped}
use Rattle.co_node_model.specs.Inputs.{EventOn, Ticked}
use Rattle.co_node_model.specs.Moments.{Constants}
use Rattle.co_node_model.proofs.ExampleNode.{
  device,
  device_with,
  u8,
  u16,
  u32,
  came,
  emcy,
  event,
  frame,
  raise,
  request,
  reset_node,
  response,
  searches,
  start,
  stop,
  sync,
}
use Rattle.co_node_laws.specs.ByKind.{Commanded, Done, Heard, Ignored, Received, Refused, Requested, Synced, device_of, kind_of, lost_now, sent_by}
use Rattle.co_node_laws.specs.RpdoWaits.{all_keep_waiting}

-- ---- each kind

a_heartbeat : kind_of device (device_of device []) (came 0x707 1 0x7F) ≡ Heard 7
unfolding searches
a_heartbeat = refl

a_boot_up : kind_of device (device_of device []) (came 0x707 1 0) ≡ Ignored
unfolding searches
a_boot_up = refl

a_command : kind_of device (device_of device []) start ≡ Commanded Start
unfolding searches
a_command = refl

command_of_another : kind_of device (device_of device []) (came 0 2 0x0106) ≡ Ignored
unfolding searches
command_of_another = refl

a_sync : kind_of device (device_of device []) sync ≡ Synced (frame 0x80 0 0)
unfolding searches
a_sync = refl

a_request : kind_of device (device_of device []) (request 0x4000_1001_0000_0000) ≡ Requested (frame 0x605 8 0x4000_1001_0000_0000)
unfolding searches
a_request = refl

an_rpdo : kind_of device (device_of device []) (came 0x205 1 0) ≡ Received (record { number = 0; frame = frame 0x205 1 0 })
unfolding searches
an_rpdo = refl

of_nobody : kind_of device (device_of device []) (came 0x206 1 0) ≡ Ignored
unfolding searches
of_nobody = refl

an_event : kind_of device (device_of device []) (event 0) ≡ Done (EventOn 0)
unfolding searches
an_event = refl

no_tpdo_2 : kind_of device (device_of device []) (event 2) ≡ Refused 0x0602_0000
unfolding searches
no_tpdo_2 = refl

-- ---- commands

started : (device_of device (start ∷ [])).state ≡ Operational
unfolding searches
started = refl

stopped : (device_of device (stop ∷ start ∷ [])).state ≡ Stopped
unfolding searches
stopped = refl

reset_sends : sent_by device (raise 0x1000 ∷ stop ∷ []) reset_node ≡ frame 0x705 1 0 ∷ []
unfolding searches
reset_sends = refl

-- ---- an emergency waits while the device is stopped, also at a SYNC; the next input in another state sends it

not_at_sync : sent_by device (raise 0x1000 ∷ stop ∷ []) sync ≡ []
unfolding searches
not_at_sync = refl

at_start : sent_by device (raise 0x1000 ∷ stop ∷ []) start ≡ emcy 0x0010_0100_0000_0000 ∷ []
unfolding searches
at_start = refl

at_a_heartbeat : sent_by device (raise 0x2000 ∷ raise 0x1000 ∷ start ∷ raise 0x3000 ∷ stop ∷ []) (came 0x707 1 5) ≡ []
unfolding searches
at_a_heartbeat = refl

-- ---- SDO: 1001:00 is read, but not while stopped

reads : sent_by device [] (request 0x4001_1000_0000_0000) ≡ response 0x4F01_1000_0000_0000 ∷ []
unfolding searches
reads = refl

reads_nothing : sent_by device (stop ∷ []) (request 0x4001_1000_0000_0000) ≡ []
unfolding searches
reads_nothing = refl

-- ---- heartbeats: node 7 is monitored, for 2 ms; the device's own goes each 2 ms

abbrev listening : Constants
listening = device_with (u32 Rw 0x1016 1 0x0007_0002 ∷ u16 Rw 0x1017 0 2 ∷ [])

counts : (device_of listening (Ticked ∷ came 0x707 1 5 ∷ Ticked ∷ [])).silence 1 ≡ Some 1
unfolding searches
counts = refl

never_heard : (device_of listening (Ticked ∷ came 0x708 1 5 ∷ [])).silence 1 ≡ None
unfolding searches
never_heard = refl

not_yet : lost_now (device_of listening (came 0x707 1 5 ∷ [])) ≡ []
unfolding searches
not_yet = refl

lost : lost_now (device_of listening (Ticked ∷ came 0x707 1 5 ∷ [])) ≡ 1 ∷ []
unfolding searches
lost = refl

-- a lost heartbeat leaves operational, and then the heartbeat says so
leaves_operational : sent_by listening (Ticked ∷ came 0x707 1 5 ∷ start ∷ []) Ticked ≡ emcy 0x3081_1100_0000_0000 ∷ frame 0x705 1 0x7F ∷ []
unfolding searches
leaves_operational = refl

-- ---- an RPDO of type 1: a short frame leaves what waits, a longer one replaces it, SYNC takes it

abbrev synchronous : Constants
synchronous = device_with (u8 Rw 0x1400 2 1 ∷ [])

short_leaves : (device_of synchronous (came 0x205 3 0x01_0203 ∷ came 0x205 4 0x0102_0304 ∷ start ∷ [])).kept 0 ≡ Some (frame 0x205 4 0x0102_0304)
unfolding searches
short_leaves = refl

longer_replaces : (device_of synchronous (came 0x205 5 0x01_0203_0405 ∷ came 0x205 4 0x0102_0304 ∷ start ∷ [])).kept 0 ≡ Some (frame 0x205 5 0x01_0203_0405)
unfolding searches
longer_replaces = refl

sync_takes : (device_of synchronous (sync ∷ came 0x205 4 0x0102_0304 ∷ start ∷ [])).kept 0 ≡ None
unfolding searches
sync_takes = refl

not_in_pre_operational : (device_of synchronous (came 0x205 4 0x0102_0304 ∷ [])).kept 0 ≡ None
unfolding searches
not_in_pre_operational = refl

-- the same by the law on frames that wait
short_keeps : all_keep_waiting synchronous 0 (came 0x205 4 0x0102_0304 ∷ start ∷ []) (came 0x205 3 0x01_0203 ∷ []) ≡ true
unfolding searches
short_keeps = refl

newer_ends : all_keep_waiting synchronous 0 (came 0x205 4 0x0102_0304 ∷ start ∷ []) (came 0x205 4 0x0506_0708 ∷ []) ≡ false
unfolding searches
newer_ends = refl

sync_ends : all_keep_waiting synchronous 0 (came 0x205 4 0x0102_0304 ∷ start ∷ []) (sync ∷ []) ≡ false
unfolding searches
sync_ends = refl

-- ---- a TPDO at an event, in operational alone

event_sends : sent_by device (start ∷ []) (event 0) ≡ frame 0x185 4 0 ∷ []
unfolding searches
event_sends = refl

event_waits_for_start : sent_by device [] (event 0) ≡ []
unfolding searches
event_waits_for_start = refl
