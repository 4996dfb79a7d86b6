-- What a filter looks at of a frame.
use Rattle.std.specs.Prelude.{ℕ, ◌+◌, ◌%◌, nat_lt, Bool, true, false, ◌&&◌, if◌then◌else◌, List, length, slice_index, Option, Some, None}
use Rattle.conode_record.specs.declared.content.Content.{Content}
use Rattle.conode_record.specs.declared.content.Content.TheVariants.{Data, Remote}
use Rattle.conode_record.specs.declared.fields.Identifier.{Identifier}
use Rattle.conode_record.specs.declared.fields.Identifier.TheVariants.{Base, Extended, Error}
use Rattle.conode_explain_filter.specs.declared.condition.Written.{Written}
use Rattle.conode_explain_filter.specs.declared.kind.Kind.{Kind}
use Rattle.conode_explain_filter.specs.declared.kind.Kind.TheVariants.{Sdo, Pdo, Nmt, Sync, Other}
use Rattle.conode_explain_filter.specs.declared.subject.Subject.{Subject}
use Rattle.conode_explain_filter.specs.Kinds.{kind_at}

-- an identifier as it is written
abbrev pub written_of : Identifier → Written
written_of (Base id) = record { wide = false; number = id }
written_of (Extended id) = record { wide = true; number = id }
written_of (Error class) = record { wide = true; number = class + 0x20000000 }

-- two bytes or more, the second of them a node-ID, or 0 for all nodes
abbrev pub names_node : List ℕ → Bool
names_node bytes = nat_lt 1 (length bytes) && nat_lt (slice_index bytes 1) 128

-- the node that an NMT command is for (CiA 301, 7.2.8.3.1): many masters send it in more than two bytes
abbrev pub nmt_node : Content → Option ℕ
nmt_node (Data bytes) = if names_node bytes then Some (slice_index bytes 1) else None
nmt_node other = None

-- the node that a frame of a kind is of
abbrev pub node_at : Kind → ℕ → Content → Option ℕ
node_at Nmt id content = nmt_node content
node_at Sync id content = None
node_at Other id content = None
node_at service id content = Some (id % 128)

-- of an identifier of 11 bits: the PDO of a data sheet, if it is one, of this node; else by the
-- pre-defined connection set
unfoldable pub subject_at : Option ℕ → ℕ → Content → Subject
subject_at (Some node) id content = record { id = written_of (Base id); kind = Pdo; node = Some node }
subject_at None id content = record { id = written_of (Base id); kind = kind_at id; node = node_at (kind_at id) id content }

-- a frame of data or a remote frame by its identifier; every other one is of no node
unfoldable pub subject_of : Option ℕ → Identifier → Content → Subject
subject_of pdo (Base id) (Data bytes) = subject_at pdo id (Data bytes)
subject_of pdo (Base id) (Remote count) = subject_at pdo id (Remote count)
subject_of pdo id content = record { id = written_of id; kind = Other; node = None }

-- of a frame on the SDO channel of a node
unfoldable pub transfer_subject : ℕ → ℕ → Subject
transfer_subject base node = record { id = written_of (Base (base + node)); kind = Sdo; node = Some node }
