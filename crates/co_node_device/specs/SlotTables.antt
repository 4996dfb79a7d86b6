-- The slots for the frames of a dictionary's RPDOs that wait for a SYNC: one for each RPDO up to the
-- last.
use Rattle.std.specs.Prelude.{◌≡◌, ℕ, ◌<◌, ◌≤◌, length, None}
use Rattle.co_dict.specs.declared.side.Side.TheVariants.{Rpdo}
use Rattle.co_dict.specs.Stores.{Description}
use Rattle.co_node_parts.specs.RpdoSlots.{SlotContent, SlotLog, SlotsStand, kept_of}
use Rattle.co_node_device.specs.MappingTables.{Covers}

-- each RPDO of the dictionary has a slot, in the state after the log, and no frame of any other
-- waits
pub record AreSlotsOf (d : Description) (content : SlotContent) (log : SlotLog) : Type 0 where
  pub covers : Covers Rpdo d (length content.slots)
  pub few : length content.slots ≤ 512
  pub stand : SlotsStand (length content.slots) content log
  pub others : (k : ℕ) → length content.slots ≤ k → k < 512 → kept_of k log ≡ None
