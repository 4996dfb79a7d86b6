-- What the last frames of each node had, frame by frame of a recording.
use Rattle.std.specs.Prelude.{ℕ, List, Option, Some, None}
use Rattle.co_frame.specs.FrameContent.{FrameContent}
use Rattle.conode_record.specs.declared.content.Content.{Content}
use Rattle.conode_record.specs.declared.content.Content.TheVariants.{Data, Remote, Fd}
use Rattle.conode_record.specs.declared.fields.Identifier.{Identifier}
use Rattle.conode_record.specs.declared.fields.Identifier.TheVariants.{Base, Extended, Error}
use Rattle.conode_record.specs.declared.line.Record.{Record}
use Rattle.conode_explain_services.specs.declared.last.Last.{Last}
use Rattle.conode_explain_services.specs.declared.node.Node.{Node}
use Rattle.conode_explain_services.specs.Nodes.{last_for, nodes_after, nodes_asked, nothing_seen}

-- a data frame with an identifier of 11 bits: of no other one the node is known, and no other one is
-- of an SDO channel
abbrev pub packed_of : Identifier → Content → Option FrameContent
packed_of (Base id) (Data bytes) = Some (record { id = id; bytes = bytes })
packed_of id content = None

-- what the last frames of the node of such a frame had
abbrev pub last_in : List Node → List ℕ → Option FrameContent → Last
last_in nodes interface (Some frame) = last_for nodes interface frame
last_in nodes interface None = nothing_seen

-- read as one with this identifier
unfoldable pub last_at : List Node → Identifier → Record → Last
last_at nodes id frame = last_in nodes frame.interface (packed_of id frame.content)

-- the nodes after a frame with an identifier of 11 bits: a CAN FD frame doesn't count
abbrev pub nodes_of_base : List Node → List ℕ → ℕ → Content → List Node
nodes_of_base nodes interface id (Data bytes) = nodes_after nodes interface (record { id = id; bytes = bytes })
nodes_of_base nodes interface id (Remote count) = nodes_asked nodes interface id
nodes_of_base nodes interface id (Fd flags bytes) = nodes

-- and after any frame
abbrev pub nodes_in : List Node → List ℕ → Identifier → Content → List Node
nodes_in nodes interface (Base id) content = nodes_of_base nodes interface id content
nodes_in nodes interface (Extended id) content = nodes
nodes_in nodes interface (Error class) content = nodes

unfoldable pub nodes_with : List Node → Identifier → Record → List Node
nodes_with nodes id frame = nodes_in nodes frame.interface id frame.content
