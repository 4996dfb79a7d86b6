-- What the program says if a command stops early.
use Rattle.std.specs.Prelude.{ℕ, List, [], ◌∷◌, ◌++◌, codes, decimal}
use Rattle.co_sheet_rows.specs.FaultTexts.{fault_text}
use Rattle.conode_io.specs.declared.fault.CmdFault.{CmdFault}
use Rattle.conode_io.specs.declared.fault.CmdFault.TheVariants.{Read, Write, BadLine, Memory, NeverEnds}
use Rattle.conode_io.specs.declared.message.Message.{Message}
use Rattle.co_dict_build.specs.BuildFaultTexts.{fault_text as build_fault_text}
use Rattle.conode_io.specs.declared.message.Message.TheVariants.{Stopped, Fault, BuildFault, CannotRead}

-- the number of a command's fault
abbrev pub cmd_fault_number : CmdFault → ℕ
cmd_fault_number Read = 1
cmd_fault_number Write = 2
cmd_fault_number (BadLine line) = 3
cmd_fault_number Memory = 4
cmd_fault_number NeverEnds = 5

-- the text of a command's fault
abbrev pub cmd_fault_text : CmdFault → List ℕ
cmd_fault_text Read = codes "Read"
cmd_fault_text Write = codes "Write"
cmd_fault_text (BadLine line) = codes "BadLine " ++ decimal line
cmd_fault_text Memory = codes "Memory"
cmd_fault_text NeverEnds = codes "NeverEnds"

-- the text of a message: `stopped: BadLine 3`, `fault 20 Memory line 0`,
-- `build fault 3 BadCobId 1800:01`, `cannot read NAME`
abbrev pub message_text : Message → List ℕ
message_text (Stopped fault) = codes "stopped: " ++ cmd_fault_text fault
message_text (Fault fault) = fault_text fault
message_text (BuildFault fault) = build_fault_text fault
message_text (CannotRead name) = codes "cannot read " ++ name.now

-- the line of a message
abbrev pub message_line : Message → List ℕ
message_line message = message_text message ++ 10 ∷ []
