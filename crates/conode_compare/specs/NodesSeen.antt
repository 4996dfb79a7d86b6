-- The nodes of a recording, by error control (CiA 301, 7.2.8.3.2 and 7.2.8.3.3).
use Rattle.std.specs.Prelude.{ℕ, ◌-◌, nat_lt, true, false, ◌&&◌, if◌then◌else◌, replicate, slice_set, Option, Some, None}
use Rattle.conode_record.specs.declared.content.Content.{Content}
use Rattle.conode_record.specs.declared.content.Content.TheVariants.{Data}
use Rattle.conode_record.specs.declared.fields.Identifier.{Identifier}
use Rattle.conode_record.specs.declared.fields.Identifier.TheVariants.{Base}
use Rattle.conode_record.specs.declared.line.Record.{Record}
use Rattle.conode_compare.specs.declared.nodes_seen.NodesSeen.{NodesSeen}

unfoldable pub no_nodes : NodesSeen
no_nodes = record { nodes = replicate 128 false }

-- the node-ID in the identifier of a data frame: a boot-up, a heartbeat, an answer of node guarding
abbrev pub node_of : Identifier → Content → Option ℕ
node_of (Base id) (Data bytes) = if nat_lt 0x700 id && nat_lt id 0x780 then Some (id - 0x700) else None
node_of id content = None

abbrev pub with_node : NodesSeen → Option ℕ → NodesSeen
with_node seen None = seen
with_node seen (Some node) = record { nodes = slice_set seen.nodes node true }

abbrev pub nodes_with : NodesSeen → Record → NodesSeen
nodes_with seen frame = with_node seen (node_of frame.id frame.content)
