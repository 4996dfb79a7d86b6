-- What is counted of the frames of a bus, and of several.
use Rattle.std.specs.Prelude.{ℕ, ◌+◌, ◌==◌, Bool, List, [], map}
use Rattle.std.specs.Str.{bytes_eq}
use Rattle.conode_record.specs.declared.fields.Identifier.{Identifier}
use Rattle.conode_record.specs.declared.fields.Identifier.TheVariants.{Base, Extended, Error}
use Rattle.conode_record.specs.declared.line.Record.{Record}
use Rattle.conode_stats_counts.specs.declared.load.Load.{Load}
use Rattle.conode_stats_counts.specs.declared.node.Node.{Node}
use Rattle.conode_stats_counts.specs.declared.row.Row.{Row}
use Rattle.conode_stats_counts.specs.declared.tally.Tally.{Tally}
use Rattle.conode_stats_counts.specs.Emergencies.{Emergent, emergent_of, emergent_with}
use Rattle.conode_stats_counts.specs.Failures.{Transferred, transfers_of, transfers_with}
use Rattle.conode_stats_counts.specs.Gaps.{counted}
use Rattle.conode_stats_counts.specs.Groups.{grouped, group_with, left_out, no_room}
use Rattle.conode_stats_counts.specs.Loads.{frame_size, load_of, load_with, second_of}
use Rattle.conode_stats_counts.specs.Nodes.{nodes_of, nodes_timed, nodes_with, shown_by, sign_of}
use Rattle.conode_stats_counts.specs.Tallies.{tally_of, tally_with}

-- the most identifiers counted on a bus, and the most buses
abbrev pub most_rows : ℕ
most_rows = 4096

abbrev pub most_buses : ℕ
most_buses = 16

-- ---- the frames of an identifier

-- an identifier as one number: one of 29 bits with bit 31, an error frame's class with bit 29
-- (linux/can.h)
abbrev pub can_id : Identifier → ℕ
can_id (Base id) = id
can_id (Extended id) = id + 0x80000000
can_id (Error class) = class + 0x20000000

abbrev pub id_of : Record → ℕ
id_of frame = can_id frame.id

abbrev pub same_id : ℕ → ℕ → Bool
same_id a b = a == b

abbrev pub stamps_of : List Record → List ℕ
stamps_of frames = map (λ frame. frame.micros) frames

-- the row of an identifier with these frames
abbrev pub row_of : ℕ → List Record → Row
row_of id frames = record { can_id = id; tally = tally_of (stamps_of frames) }

-- ---- the frames of a bus

pub record BusCounts : Type 0 where
  pub interface : List ℕ
  pub all : Tally
  pub load : Load
  pub nodes : List Node
  pub transfers : Transferred
  pub emergencies : Emergent
  pub rows : List Row
  pub left_out : ℕ

-- the counts of an interface with these frames: all frames, their bits, its nodes, its SDO
-- transfers, its EMCY messages, the rows by identifier in the order in which they came first, and
-- how many frames have no row
unfoldable pub bus_of : List ℕ → List Record → BusCounts
bus_of interface frames = record {
  interface = interface;
  all = tally_of (stamps_of frames);
  load = load_of frames;
  nodes = nodes_of frames;
  transfers = transfers_of frames;
  emergencies = emergent_of frames;
  rows = grouped same_id id_of most_rows row_of frames;
  left_out = counted (left_out same_id id_of most_rows frames);
}

-- ---- all frames

pub record Counted : Type 0 where
  pub buses : List BusCounts
  pub left_out : ℕ

abbrev pub bus_name : Record → List ℕ
bus_name frame = frame.interface

-- the counts of frames, the newest first: by interface in the order in which they came first, and
-- how many frames have no bus
unfoldable pub counts_of : List Record → Counted
counts_of frames = record {
  buses = grouped bytes_eq bus_name most_buses bus_of frames;
  left_out = counted (left_out bytes_eq bus_name most_buses frames);
}

-- ---- one frame more, as it is counted

abbrev pub row_with : ℕ → Row → Row
row_with micros row = record row { tally = tally_with row.tally micros }

abbrev pub new_row : ℕ → Row
new_row id = record { can_id = id; tally = tally_of [] }

abbrev pub is_row : ℕ → Row → Bool
is_row id row = row.can_id == id

unfoldable pub bus_with : BusCounts → Record → BusCounts
bus_with bus frame = record {
  interface = bus.interface;
  all = tally_with bus.all frame.micros;
  load = load_with bus.load (second_of frame) (frame_size frame);
  nodes = nodes_timed (shown_by bus.transfers.channels frame) frame.micros (nodes_with (sign_of frame) frame.micros bus.nodes);
  transfers = transfers_with bus.transfers frame;
  emergencies = emergent_with bus.emergencies frame;
  rows = group_with (is_row (id_of frame)) (row_with frame.micros) (new_row (id_of frame)) most_rows bus.rows;
  left_out = counted (bus.left_out + no_room (is_row (id_of frame)) most_rows bus.rows);
}

abbrev pub new_bus : List ℕ → BusCounts
new_bus interface = bus_of interface []

abbrev pub is_bus : List ℕ → BusCounts → Bool
is_bus interface bus = bytes_eq bus.interface interface

unfoldable pub counts_with : Counted → Record → Counted
counts_with counts frame = record {
  buses = group_with (is_bus frame.interface) (λ bus. bus_with bus frame) (new_bus frame.interface) most_buses counts.buses;
  left_out = counted (counts.left_out + no_room (is_bus frame.interface) most_buses counts.buses);
}
