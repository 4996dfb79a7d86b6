-- What a frame of a recording is to the device that is compared (CiA 301, 7.3.3, pre-defined
-- connection set).
use Rattle.std.specs.Prelude.{ℕ, ◌+◌, ◌==◌, nat_lt, ◌||◌, if◌then◌else◌, [], ◌∷◌, length, slice_index, Option, Some, None}
use Rattle.co_frame.specs.FrameContent.{FrameContent}
use Rattle.co_frame.specs.declared.emergency.Emergency.{Emergency}
use Rattle.co_frame.specs.declared.nmt.NmtCommand.{NmtCommand}
use Rattle.co_frame.specs.Emergencies.{emergency_in}
use Rattle.co_frame.specs.Nmt.{nmt_command_in}
use Rattle.conode_explain_transfers.specs.declared.kinds.Side.TheVariants.{Client, Server}
use Rattle.conode_record.specs.declared.content.Content.{Content}
use Rattle.conode_record.specs.declared.content.Content.TheVariants.{Data, Remote, Fd}
use Rattle.conode_record.specs.declared.fields.Identifier.{Identifier}
use Rattle.conode_record.specs.declared.fields.Identifier.TheVariants.{Base, Extended, Error}
use Rattle.conode_compare_rules.specs.declared.kind.FrameKind.{FrameKind}
use Rattle.conode_compare_rules.specs.declared.kind.FrameKind.TheVariants.{Command, CommandToAll, LongCommand, Guarding, Control, OddControl, Emergency as Emcy, OddEmergency, Sdo, Process, Polled, Fault, Other}

-- how many bytes a frame has
abbrev pub length_of : FrameContent → ℕ
length_of frame = length frame.bytes

-- An NMT command has two bytes. Devices differ in whether they take one with more by its first two.
abbrev pub long_command_in : FrameContent → Option NmtCommand
long_command_in frame =
    if nat_lt 2 (length frame.bytes)
    then nmt_command_in (record { id = frame.id; bytes = slice_index frame.bytes 0 ∷ slice_index frame.bytes 1 ∷ [] })
    else None

abbrev pub long_to : ℕ → Option NmtCommand → FrameKind
long_to node None = Other
long_to node (Some command) = if command.node == 0 || command.node == node then LongCommand command.service else Other

-- an NMT command to all nodes, or to this one; else one with more bytes
abbrev pub command_to : ℕ → Option NmtCommand → Option NmtCommand → FrameKind
command_to node long None = long_to node long
command_to node long (Some command) =
    if command.node == 0 then CommandToAll command.service
    else (if command.node == node then Command command.service else Other)

abbrev pub command_kind : ℕ → FrameContent → FrameKind
command_kind node frame = command_to node (long_command_in frame) (nmt_command_in frame)

-- error control has one byte
abbrev pub control_kind : FrameContent → FrameKind
control_kind frame = if length frame.bytes == 1 then Control (slice_index frame.bytes 0) else OddControl (length_of frame)

-- an EMCY has eight bytes
abbrev pub emergency_with : ℕ → Option Emergency → FrameKind
emergency_with length None = OddEmergency length
emergency_with length (Some emergency) = Emcy emergency.code emergency.register

abbrev pub emergency_kind : FrameContent → FrameKind
emergency_kind frame = emergency_with (length_of frame) (emergency_in frame.bytes)

-- by its identifier
abbrev pub data_kind : ℕ → FrameContent → FrameKind
data_kind node frame =
    if frame.id == 0 then command_kind node frame
    else (if frame.id == 0x80 + node then emergency_kind frame
    else (if frame.id == 0x580 + node then Sdo Server frame
    else (if frame.id == 0x600 + node then Sdo Client frame
    else (if frame.id == 0x700 + node then control_kind frame else Process frame.id (length_of frame)))))

-- of every kind of frame
abbrev pub base_kind : ℕ → ℕ → Content → FrameKind
base_kind node id (Data bytes) = data_kind node (record { id = id; bytes = bytes })
base_kind node id (Remote length) = if id == 0x700 + node then Guarding else Polled id
base_kind node id (Fd flags bytes) = Other

abbrev pub kind_of : ℕ → Identifier → Content → FrameKind
kind_of node (Error class) content = Fault
kind_of node (Extended id) content = Other
kind_of node (Base id) content = base_kind node id content
