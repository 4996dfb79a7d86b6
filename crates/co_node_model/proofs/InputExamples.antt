-- Who takes a frame, and what writes are to the parts, computed from the definitions: both sides of each edge.
use Rattle.std.proofs.Common.{◌≡◌, ℕ, true, false, Some, None, [], ◌∷◌, map, refl}
use Rattle.std.specs.Prelude.{Bool}
use Rattle.co_dict.proofs.ExampleDevice.{at, nothing, with_u8, with_u32}
use Rattle.co_dict.specs.Rows.{Contents}
use Rattle.co_frame.specs.declared.nmt.NmtService.TheVariants.{Start, Stop, EnterPreOperational, ResetNode, ResetCommunication}
use Rattle.co_frame.specs.declared.heartbeat.Heartbeat.TheVariants as heartbeat
use Rattle.co_node_parts.specs.declared.nmt_state.NodeState.TheVariants.{PreOperational, Operational, Stopped}
use Rattle.co_node_parts.specs.declared.rpdo_slots.SlotEvent.TheVariants.{Empty}
use Rattle.co_pdo.specs.declared.tpdo.Part.TheVariants.{Whole, Timer}
use Rattle.co_node_model.specs.Addresses.{is_error_control, address_of}
use Rattle.co_node_model.specs.Sync.{is_sync_id, counter_in}
use Rattle.co_node_model.specs.Rpdos.{rpdo_with, empties_slot, emptied_by}
use Rattle.co_profile.specs.TransmissionTypes.{is_synchronous}
use Rattle.co_node_model.specs.declared.address.Address.TheVariants.{Nmt, Sync, Channel, Rpdo, ErrorControl, Nobody}
use Rattle.co_node_model.specs.declared.mark.Mark.{Mark}
use Rattle.co_node_model.specs.declared.turn.Turn.TheVariants as turn
use Rattle.co_node_model.specs.declared.mark.Mark.TheVariants as was
use Rattle.co_node_model.specs.Nmt.{resets}
use Rattle.co_node_model.specs.Heartbeats.{is_consumer_key, life_of}
use Rattle.co_node_model.specs.Emergencies.{may_send}
use Rattle.co_node_model.specs.Tpdos.{turn_by_write, turn_of}

-- ---- who takes a frame

-- SYNC on 80h, and RPDOs 0 and 1 on 205h, each with something mapped
abbrev device : Contents
device = with_u32 0x1005 0 0x80 (with_u32 0x1400 1 0x205 (with_u8 0x1400 2 255 (with_u8 0x1600 0 1 (with_u32 0x1401 1 0x205 (with_u8 0x1401 2 1 (with_u8 0x1601 0 1 nothing))))))

nmt : address_of None device 0 ≡ Nmt
unfolding rpdo_with
nmt = refl

sync : address_of None device 0x80 ≡ Sync
unfolding rpdo_with
sync = refl

-- SYNC comes before an SDO channel, and that before RPDOs
sync_first : address_of (Some 3) device 0x80 ≡ Sync
unfolding rpdo_with
sync_first = refl

channel : address_of (Some 3) device 0x205 ≡ Channel 3
unfolding rpdo_with
channel = refl

-- of two RPDOs with one identifier the lower one
lower_rpdo : address_of None device 0x205 ≡ Rpdo 0
unfolding rpdo_with
lower_rpdo = refl

-- where that one isn't active: the other
active_rpdo : address_of None (with_u8 0x1400 2 241 device) 0x205 ≡ Rpdo 1
unfolding rpdo_with
active_rpdo = refl

nothing_mapped : address_of None (with_u8 0x1600 0 0 (with_u8 0x1601 0 0 device)) 0x205 ≡ Nobody
unfolding rpdo_with
nothing_mapped = refl

last_rpdo : address_of None (with_u32 0x15FF 1 0x206 (with_u8 0x15FF 2 0 (with_u8 0x17FF 0 1 nothing))) 0x206 ≡ Rpdo 511
unfolding rpdo_with
last_rpdo = refl

error_control : map is_error_control (0x700 ∷ 0x701 ∷ 0x77F ∷ 0x780 ∷ []) ≡ false ∷ true ∷ true ∷ false ∷ []
error_control = refl

of_node_7 : address_of None device 0x707 ≡ ErrorControl 7
unfolding rpdo_with
of_node_7 = refl

-- 1005:00 is looked at without its bit 31; 0, and no entry, are no SYNC
sync_ids : map (λ word. is_sync_id (with_u32 0x1005 0 word nothing) 0x80) (0x80 ∷ 0x8000_0080 ∷ 0x81 ∷ 0 ∷ []) ≡ true ∷ true ∷ false ∷ false ∷ []
sync_ids = refl

no_sync_entry : is_sync_id nothing 0 ≡ false
no_sync_entry = refl

-- ---- NMT

which_reset : map resets (Start ∷ Stop ∷ EnterPreOperational ∷ ResetNode ∷ ResetCommunication ∷ []) ≡ false ∷ false ∷ false ∷ true ∷ true ∷ []
which_reset = refl

-- ---- writes: heartbeat consumers 1016:01 to 7F

consumer_keys : map is_consumer_key (at 0x1016 0 ∷ at 0x1016 1 ∷ at 0x1016 0x7F ∷ at 0x1016 0x80 ∷ at 0x1015 1 ∷ at 0x1017 1 ∷ [])
    ≡ false ∷ true ∷ true ∷ false ∷ false ∷ false ∷ []
consumer_keys = refl

-- ---- writes: the COB-ID and the transmission type of an RPDO empty its slot

emptying_sub_indices : map (λ sub. empties_slot (at 0x1400 sub)) (0 ∷ 1 ∷ 2 ∷ 3 ∷ []) ≡ false ∷ true ∷ true ∷ false ∷ []
emptying_sub_indices = refl

emptying_indices : map (λ index. empties_slot (at index 1)) (0x13FF ∷ 0x1400 ∷ 0x15FF ∷ 0x1600 ∷ []) ≡ false ∷ true ∷ true ∷ false ∷ []
emptying_indices = refl

last_slot : emptied_by (Some (at 0x15FF 2)) ≡ Empty 511
last_slot = refl

synchronous : map is_synchronous (0 ∷ 240 ∷ 241 ∷ 254 ∷ []) ≡ true ∷ true ∷ false ∷ false ∷ []
synchronous = refl

-- ---- writes: which entry of a TPDO starts what

started_by : map (λ sub. turn_by_write (at 0x1800 sub)) (0 ∷ 1 ∷ 2 ∷ 3 ∷ 4 ∷ 5 ∷ 6 ∷ [])
    ≡ turn.Quiet ∷ turn.Start 0 Whole ∷ turn.Start 0 Whole ∷ turn.Quiet ∷ turn.Quiet ∷ turn.Start 0 Timer ∷ turn.Quiet ∷ []
started_by = refl

starting_indices : map (λ index. turn_by_write (at index 1)) (0x17FF ∷ 0x1801 ∷ 0x19FF ∷ 0x1A00 ∷ [])
    ≡ turn.Quiet ∷ turn.Start 1 Whole ∷ turn.Start 511 Whole ∷ turn.Quiet ∷ []
starting_indices = refl

-- ---- the counter of a SYNC: one byte alone

counters : map (λ bytes. counter_in (record { id = 0x80; bytes = bytes })) ([] ∷ (7 ∷ []) ∷ (7 ∷ 8 ∷ []) ∷ []) ≡ None ∷ Some 7 ∷ None ∷ []
counters = refl

-- ---- turns: by the states before and after a tick

abbrev ticked : Mark
ticked = was.Tick false

tick_in_operational : turn_of ticked (record { before = Operational; after = Operational }) ≡ turn.Tick
tick_in_operational = refl

-- a loss may leave operational in the tick
tick_that_leaves : turn_of ticked (record { before = Operational; after = PreOperational }) ≡ turn.Quiet
tick_that_leaves = refl

entering : turn_of (was.Command Start) (record { before = Stopped; after = Operational }) ≡ turn.StartAll
entering = refl

start_again : turn_of (was.Command Start) (record { before = Operational; after = Operational }) ≡ turn.Quiet
start_again = refl

-- a write in pre-operational starts no TPDO
written_before : turn_of (was.Written (at 0x1800 1)) (record { before = PreOperational; after = PreOperational }) ≡ turn.Quiet
written_before = refl

-- ---- emergencies: by the state after the input, 1014h, and whether an SDO transfer was aborted in the tick

abbrev may_with : ℕ → Bool
may_with word = may_send was.Quiet Operational (with_u32 0x1014 0 word nothing)

may_by_word : map may_with (0x85 ∷ 0 ∷ 0x8000_0085 ∷ 0x4000_0085 ∷ []) ≡ true ∷ false ∷ false ∷ true ∷ []
may_by_word = refl

may_by_state : map (λ state. may_send was.Quiet state (with_u32 0x1014 0 0x85 nothing)) (PreOperational ∷ Operational ∷ Stopped ∷ []) ≡ true ∷ true ∷ false ∷ []
may_by_state = refl

not_with_time_out : may_send (was.Tick true) Operational (with_u32 0x1014 0 0x85 nothing) ≡ false
not_with_time_out = refl

no_entry_of_1014 : may_send was.Quiet Operational nothing ≡ false
no_entry_of_1014 = refl

-- ---- boot-up and heartbeats

lives : map (λ state. life_of was.Quiet state true) (PreOperational ∷ Operational ∷ Stopped ∷ [])
    ≡ Some heartbeat.PreOperational ∷ Some heartbeat.Operational ∷ Some heartbeat.Stopped ∷ []
lives = refl

no_life : life_of was.Quiet Operational false ≡ None
no_life = refl
