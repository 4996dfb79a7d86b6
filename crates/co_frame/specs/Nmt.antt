-- Network management: how the state of a node is controlled (CiA 301, 7.2.8.3.1).
use Rattle.std.specs.Prelude.{◌≡◌, ◌<◌, ◌==◌, ◌&&◌, nat_lt, ℕ, if◌then◌else◌, Option, None, option_map, List, [], ◌∷◌, length, slice_index, find}
use Rattle.co_frame.specs.declared.nmt.NmtService.{NmtService}
use Rattle.co_frame.specs.declared.nmt.NmtService.TheVariants.{Start, Stop, EnterPreOperational, ResetNode, ResetCommunication}
use Rattle.co_frame.specs.declared.nmt.NmtCommand.{NmtCommand}
use Rattle.co_frame.specs.FrameContent.{FrameContent}

-- the command specifier of a service
abbrev pub specifier_of : NmtService → ℕ
specifier_of Start = 1
specifier_of Stop = 2
specifier_of EnterPreOperational = 128
specifier_of ResetNode = 129
specifier_of ResetCommunication = 130

-- a command that can be spelled: its node-ID is 0, for all nodes, or one of a node
abbrev pub IsNmtCommand : NmtCommand → Type 0
IsNmtCommand command = command.node < 128

-- the data bytes of a command: the command specifier and the node-ID
abbrev pub nmt_command_bytes : NmtCommand → List ℕ
nmt_command_bytes command = specifier_of command.service ∷ command.node ∷ []

-- a command's bytes on identifier 0
pub record SpellsNmtCommand (command : NmtCommand) (frame : FrameContent) : Type 0 where
  pub id : frame.id ≡ 0
  pub bytes : frame.bytes ≡ nmt_command_bytes command
  pub node : IsNmtCommand command

-- the services that there are
abbrev pub services : List NmtService
services = Start ∷ Stop ∷ EnterPreOperational ∷ ResetNode ∷ ResetCommunication ∷ []

-- the service with a command specifier
abbrev pub service_with : ℕ → Option NmtService
service_with specifier = find (λ service. specifier_of service == specifier) services

-- what a frame says
abbrev pub nmt_command_in : FrameContent → Option NmtCommand
nmt_command_in frame =
    let node = slice_index frame.bytes 1 in
    if frame.id == 0 && length frame.bytes == 2 && nat_lt node 128
    then option_map (λ service. record { service = service; node = node }) (service_with (slice_index frame.bytes 0))
    else None
