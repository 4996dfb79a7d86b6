-- The text of a frame, by its identifier and its service (CiA 301, 7.2 and 7.3.3).
use Rattle.std.specs.Prelude.{ℕ, ◌==◌, if◌then◌else◌, List, [], ◌∷◌, ◌++◌, length, codes, decimal}
use Rattle.std.specs.Option.{option_map_or}
use Rattle.co_text.specs.Printed.{digits_text}
use Rattle.conode_trace.specs.Printed.{frame_text}
use Rattle.co_frame.specs.FrameContent.{FrameContent}
use Rattle.co_frame.specs.declared.nmt.NmtService.{NmtService}
use Rattle.co_frame.specs.declared.nmt.NmtService.TheVariants.{Start, Stop, EnterPreOperational, ResetNode, ResetCommunication}
use Rattle.co_frame.specs.declared.nmt.NmtCommand.{NmtCommand}
use Rattle.co_frame.specs.Nmt.{nmt_command_in}
use Rattle.co_frame.specs.declared.sync.Sync.{Sync}
use Rattle.co_frame.specs.Syncs.{sync_in}
use Rattle.co_frame.specs.declared.emergency.Emergency.{Emergency}
use Rattle.co_frame.specs.Emergencies.{emergency_in}
use Rattle.co_frame.specs.declared.heartbeat.Heartbeat.{Heartbeat}
use Rattle.co_frame.specs.declared.heartbeat.Heartbeat.TheVariants.{BootUp, Stopped, Operational, PreOperational}
use Rattle.co_frame.specs.Heartbeats.{heartbeat_in}
use Rattle.co_frame.specs.SdoRequests.{request_in}
use Rattle.co_frame.specs.SdoResponses.{response_in}
use Rattle.conode_decode.specs.declared.service.Service.{Service}
use Rattle.conode_decode.specs.declared.service.Service.TheVariants as services
use Rattle.co_sheet_changes.specs.Names.{Names}
use Rattle.conode_decode.specs.Names.{name_text}
use Rattle.conode_decode.specs.SdoTexts.{request_text, request_key, answer_text, answer_key}
use Rattle.conode_decode.specs.Services.{node_of, base_of, service_at}

-- ---- the services that aren't a node's

-- the NMT service of a command
abbrev pub nmt_service_text : NmtService → List ℕ
nmt_service_text Start = codes "start"
nmt_service_text Stop = codes "stop"
nmt_service_text EnterPreOperational = codes "pre-operational"
nmt_service_text ResetNode = codes "reset-node"
nmt_service_text ResetCommunication = codes "reset-communication"

-- a command, and the node-ID that it is for, 0 for all nodes (CiA 301, 7.2.8.3.1)
unfoldable pub nmt_text : NmtCommand → List ℕ
nmt_text command = codes "NMT " ++ nmt_service_text command.service ++ codes " " ++ decimal command.node

-- SYNC, with the counter, if there is one (CiA 301, 7.2.5)
unfoldable pub sync_text : Sync → List ℕ
sync_text sync = codes "SYNC" ++ option_map_or (λ counter. codes " " ++ decimal counter) sync.counter []

-- ---- the services of a node

-- a service of a node
unfoldable pub of_node : List ℕ → ℕ → List ℕ
of_node service node = service ++ codes " node " ++ decimal node

-- the emergency error code and the error register, in hexadecimal digits (CiA 301, 7.2.7)
unfoldable pub emergency_text : ℕ → Emergency → List ℕ
emergency_text node emergency =
    of_node (codes "EMCY") node ++ codes " code " ++ digits_text 16 4 emergency.code
    ++ codes " register " ++ digits_text 16 2 emergency.register

-- a PDO by its number, 1 to 4 (CiA 301, 7.2.2)
unfoldable pub pdo_text : List ℕ → ℕ → ℕ → List ℕ
pdo_text service number node = of_node (service ++ decimal number) node

-- boot-up, or a heartbeat with the state of the node (CiA 301, 7.2.8.3.2 and 7.2.8.3.3)
abbrev pub heartbeat_text : ℕ → Heartbeat → List ℕ
heartbeat_text node BootUp = of_node (codes "boot-up") node
heartbeat_text node Stopped = of_node (codes "heartbeat") node ++ codes " stopped"
heartbeat_text node Operational = of_node (codes "heartbeat") node ++ codes " operational"
heartbeat_text node PreOperational = of_node (codes "heartbeat") node ++ codes " pre-operational"

-- a frame of no service, or with data that don't fit it
abbrev pub unknown_text : List ℕ
unknown_text = codes "unknown"

-- the request in eight bytes, with the name of the entry
unfoldable pub named_request : Names → ℕ → List ℕ → List ℕ
named_request names node bytes =
    option_map_or (λ request. request_text request ++ name_text names node (request_key request))
    (request_in bytes) unknown_text

-- the answer in eight bytes, with the name of the entry
unfoldable pub named_answer : Names → ℕ → List ℕ → List ℕ
named_answer names node bytes =
    option_map_or (λ answer. answer_text answer ++ name_text names node (answer_key answer))
    (response_in bytes) unknown_text

-- a request to a node, and an answer of a node
unfoldable pub sdo_request_text : Names → ℕ → List ℕ → List ℕ
sdo_request_text names node bytes = of_node (codes "SDO request") node ++ codes " " ++ named_request names node bytes

unfoldable pub sdo_answer_text : Names → ℕ → List ℕ → List ℕ
sdo_answer_text names node bytes = of_node (codes "SDO answer") node ++ codes " " ++ named_answer names node bytes

-- a frame with an identifier of a node
abbrev pub service_text : Names → ℕ → List ℕ → Service → List ℕ
service_text names node bytes services.Emergency =
    option_map_or (emergency_text node) (emergency_in bytes) unknown_text
service_text names node bytes (services.Tpdo number) = pdo_text (codes "TPDO") number node
service_text names node bytes (services.Rpdo number) = pdo_text (codes "RPDO") number node
service_text names node bytes services.SdoAnswer =
    if length bytes == 8 then sdo_answer_text names node bytes else unknown_text
service_text names node bytes services.SdoRequest =
    if length bytes == 8 then sdo_request_text names node bytes else unknown_text
service_text names node bytes services.ErrorControl =
    option_map_or (heartbeat_text node) (heartbeat_in bytes) unknown_text

-- ---- any frame

-- the text of a frame: identifier 0 is NMT, 80h is SYNC, every other one is of a service and a node
unfoldable pub text_of_frame : Names → FrameContent → List ℕ
text_of_frame names frame =
    if frame.id == 0 then option_map_or nmt_text (nmt_command_in frame) unknown_text
    else (if frame.id == 0x080 then option_map_or sync_text (sync_in frame.bytes) unknown_text
    else (if node_of frame.id == 0 then unknown_text
    else option_map_or (service_text names (node_of frame.id) frame.bytes) (service_at (base_of frame.id)) unknown_text))

-- the line of a frame: the number of its line in the trace, the frame, and its text
unfoldable pub decoded_line : Names → ℕ → FrameContent → List ℕ
decoded_line names number frame =
    decimal number ++ codes " " ++ frame_text frame ++ codes " " ++ text_of_frame names frame ++ 10 ∷ []
