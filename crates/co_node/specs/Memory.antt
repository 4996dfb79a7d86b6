-- The memory of a device: the length of each list that `build` allocates. All else has a fixed
-- size, by the invariants of its types: eight emergencies, and two tables of 2,048 identifiers.
use Rattle.std.specs.Prelude.{ℕ, ◌+◌, List, length, map}
use Rattle.std.specs.Box.{boxed_slice_items}
use Rattle.co_sdo.specs.Channels.{ChannelSettings}
use Rattle.co_sdo.specs.Banks.{all_settings}
use Rattle.co_node.specs.declared.node.Node.{Node}

pub record Memory : Type 0 where
  -- the entries of the dictionary, the bytes for their values, and those for their initial values
  pub entries : ℕ
  pub values : ℕ
  pub initial : ℕ
  -- the bytes of the buffer of each SDO channel
  pub buffers : List ℕ
  -- the compiled mappings of RPDOs and of TPDOs
  pub rpdos : ℕ
  pub tpdos : ℕ
  -- the slots for RPDO frames that wait for a SYNC, and for those that a SYNC takes
  pub waiting : ℕ
  pub taken : ℕ
  -- the TPDOs of the schedule, and the places of the parameters of each
  pub scheduled : ℕ
  pub places : ℕ

abbrev pub memory_of : Node → Memory
memory_of node = record {
  entries = length (boxed_slice_items node.device.store.slots);
  values = length (boxed_slice_items node.device.store.values);
  initial = length (boxed_slice_items node.device.store.initial);
  buffers = map (λ (c : ChannelSettings). c.greatest + 889) (all_settings node.device.parts.bank);
  rpdos = length node.device.parts.mappings.rpdos;
  tpdos = length node.device.parts.mappings.tpdos;
  waiting = length node.device.parts.slots.slots;
  taken = node.device.parts.slots.room;
  scheduled = length node.device.parts.schedule.tpdos;
  places = length node.device.parts.schedule.places;
}
