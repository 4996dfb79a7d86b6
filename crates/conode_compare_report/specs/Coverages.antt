-- What a recording shows of a device, whatever is judged.
use Rattle.std.specs.Prelude.{ℕ, ◌==◌, nat_lt, true, false, if◌then◌else◌, List, [], ◌∷◌, length, position, replicate, Option, Some, None}
use Rattle.co_frame.specs.declared.nmt.NmtService.{NmtService}
use Rattle.co_frame.specs.declared.nmt.NmtService.TheVariants as nmt
use Rattle.co_sheet.specs.Content.{Row}
use Rattle.co_value.specs.declared.key.Key.{Key}
use Rattle.co_value.specs.Keys.{same_key}
use Rattle.conode_explain_transfers.specs.declared.ended.Ended.{Ended}
use Rattle.conode_explain_transfers.specs.declared.ended.Ending.{Ending}
use Rattle.conode_explain_transfers.specs.declared.ended.Ending.TheVariants.{Done, Aborted}
use Rattle.conode_explain_transfers.specs.declared.kinds.Direction.{Direction}
use Rattle.conode_explain_transfers.specs.declared.kinds.Direction.TheVariants.{Download, Upload}
use Rattle.conode_explain_transfers.specs.declared.kinds.Protocol.{Protocol}
use Rattle.conode_explain_transfers.specs.declared.kinds.Protocol.TheVariants.{Undecided, Expedited, Segmented, Block}
use Rattle.conode_explain_transfers.specs.declared.kinds.Side.TheVariants.{Server}
use Rattle.conode_compare_nmt.specs.declared.finding.NmtState.{NmtState}
use Rattle.conode_compare_rules.specs.declared.kind.FrameKind.{FrameKind}
use Rattle.conode_compare_rules.specs.declared.kind.FrameKind.TheVariants.{Command, CommandToAll, Guarding, Control, OddControl, Emergency as Emcy, OddEmergency, Process, Sdo}
use Rattle.conode_compare_report.specs.declared.before.Role.{Role}
use Rattle.conode_compare_report.specs.declared.before.Role.TheVariants.{Sync as SyncRole, Time as TimeRole, Tpdo, Rpdo, Other}
use Rattle.conode_compare_report.specs.declared.coverage.Covered.{Covered}
use Rattle.conode_compare_report.specs.declared.coverage.Numbered.{Numbered}
use Rattle.conode_compare_report.specs.declared.identity.Identity.{Identity}
use Rattle.conode_compare_report.specs.declared.lanes.Lane.{Lane}
use Rattle.conode_compare_report.specs.declared.lanes.Lane.TheVariants.{Heartbeats, Emergencies, Transfers, Tpdos, Rpdos}
use Rattle.conode_compare_report.specs.declared.lanes.States.{States}
use Rattle.conode_compare_report.specs.declared.service.Served.{Served}
use Rattle.conode_compare_report.specs.declared.service.Service.{Service}
use Rattle.conode_compare_report.specs.declared.service.Service.TheVariants.{Start, Stop, EnterPreOperational, ResetNode, ResetCommunication, BootUp, Heartbeat, NodeGuarding, Emergency, Sync, Time, ExpeditedUpload, SegmentedUpload, BlockUpload, ExpeditedDownload, SegmentedDownload, BlockDownload, Tpdo1, Tpdo2, Tpdo3, Tpdo4, Rpdo1, Rpdo2, Rpdo3, Rpdo4}
use Rattle.conode_compare_report.specs.Counts.{changed_at, numbered_with, one_more}
use Rattle.conode_compare_report.specs.Identities.{identity_with, no_identity}
use Rattle.conode_compare_report.specs.Services.{service_number}
use Rattle.conode_compare_report.specs.Spans.{no_states, states_with}

pub record CoverageView : Type 0 where
  pub entries : List Covered
  pub services : List Served
  pub states : States
  pub types : List Numbered
  pub aborts : List Numbered
  pub identity : Identity

-- ---- services

abbrev pub none_of : Service → Served
none_of service = record { service = service; count = 0 }

-- each once
abbrev pub no_services : List Served
no_services =
    none_of Start ∷ none_of Stop ∷ none_of EnterPreOperational ∷ none_of ResetNode ∷ none_of ResetCommunication
    ∷ none_of BootUp ∷ none_of Heartbeat ∷ none_of NodeGuarding ∷ none_of Emergency ∷ none_of Sync ∷ none_of Time
    ∷ none_of ExpeditedUpload ∷ none_of SegmentedUpload ∷ none_of BlockUpload ∷ none_of ExpeditedDownload
    ∷ none_of SegmentedDownload ∷ none_of BlockDownload ∷ none_of Tpdo1 ∷ none_of Tpdo2 ∷ none_of Tpdo3 ∷ none_of Tpdo4
    ∷ none_of Rpdo1 ∷ none_of Rpdo2 ∷ none_of Rpdo3 ∷ none_of Rpdo4 ∷ []

abbrev pub command_service : NmtService → Service
command_service nmt.Start = Start
command_service nmt.Stop = Stop
command_service nmt.EnterPreOperational = EnterPreOperational
command_service nmt.ResetNode = ResetNode
command_service nmt.ResetCommunication = ResetCommunication

-- a byte of error control: 0 is a boot-up; bit 7 is the toggle bit of node guarding
abbrev pub control_service : ℕ → Service
control_service byte = if byte == 0 then BootUp else (if nat_lt byte 0x80 then Heartbeat else NodeGuarding)

-- by the number of a PDO, from 1 on
abbrev pub tpdo_service : ℕ → Service
tpdo_service number = if number == 1 then Tpdo1 else (if number == 2 then Tpdo2 else (if number == 3 then Tpdo3 else Tpdo4))

abbrev pub rpdo_service : ℕ → Service
rpdo_service number = if number == 1 then Rpdo1 else (if number == 2 then Rpdo2 else (if number == 3 then Rpdo3 else Rpdo4))

abbrev pub role_service : Role → Option Service
role_service SyncRole = Some Sync
role_service TimeRole = Some Time
role_service (Tpdo number parameters) = Some (tpdo_service number)
role_service (Rpdo number) = Some (rpdo_service number)
role_service Other = None

-- a transfer that was confirmed; none is confirmed before its protocol is decided
abbrev pub transfer_service : Direction → Protocol → Option Service
transfer_service Upload Undecided = None
transfer_service Upload Expedited = Some ExpeditedUpload
transfer_service Upload Segmented = Some SegmentedUpload
transfer_service Upload Block = Some BlockUpload
transfer_service Download Undecided = None
transfer_service Download Expedited = Some ExpeditedDownload
transfer_service Download Segmented = Some SegmentedDownload
transfer_service Download Block = Some BlockDownload

abbrev pub done_service : Ending → Direction → Protocol → Option Service
done_service (Done crc) direction protocol = transfer_service direction protocol
done_service other direction protocol = None

abbrev pub ended_service : Option Ended → Option Service
ended_service None = None
ended_service (Some ended) = done_service ended.ending ended.direction ended.protocol

-- what a frame is of, with the transfer that ended with it
unfoldable pub service_of : FrameKind → Role → Option Ended → Option Service
service_of (Command service) role ended = Some (command_service service)
service_of (CommandToAll service) role ended = Some (command_service service)
service_of Guarding role ended = Some NodeGuarding
service_of (Control byte) role ended = Some (control_service byte)
service_of (OddControl length) role ended = Some Heartbeat
service_of (Emcy code register) role ended = Some Emergency
service_of (OddEmergency length) role ended = Some Emergency
service_of (Process id length) role ended = role_service role
service_of (Sdo side frame) role ended = ended_service ended
service_of _ role ended = None

abbrev pub served_once_more : Served → Served
served_once_more served = record served { count = one_more served.count }

unfoldable pub services_with : Option Service → List Served → List Served
services_with None services = services
services_with (Some service) services = changed_at (none_of service) (service_number service) served_once_more services

-- ---- lanes

abbrev pub role_lane : Role → Option Lane
role_lane (Tpdo number parameters) = Some Tpdos
role_lane (Rpdo number) = Some Rpdos
role_lane _ = None

-- in which lane a frame is
unfoldable pub lane_of : FrameKind → Role → Option Lane
lane_of (Control byte) role = Some Heartbeats
lane_of (OddControl length) role = Some Heartbeats
lane_of (Emcy code register) role = Some Emergencies
lane_of (OddEmergency length) role = Some Emergencies
lane_of (Sdo side frame) role = Some Transfers
lane_of (Process id length) role = role_lane role
lane_of _ role = None

-- ---- entries

abbrev pub not_covered : Covered
not_covered = record { read = false; written = false; refused = false }

abbrev pub covered_once : Direction → Covered → Covered
covered_once Upload covered = record covered { read = true }
covered_once Download covered = record covered { written = true }

abbrev pub covered_with : Direction → Ending → Covered → Covered
covered_with direction (Done crc) covered = covered_once direction covered
covered_with direction (Aborted Server code) covered = record covered { refused = true }
covered_with direction other covered = covered

-- the place of an entry
abbrev pub place_of : List Row → Key → Option ℕ
place_of rows key = position (λ row. same_key row.key key) rows

abbrev pub entries_at : Option ℕ → Ended → List Covered → List Covered
entries_at None ended entries = entries
entries_at (Some place) ended entries = changed_at not_covered place (covered_with ended.direction ended.ending) entries

abbrev pub entries_with : List Row → Ended → List Covered → List Covered
entries_with rows ended entries = entries_at (place_of rows ended.key) ended entries

-- ---- numbers

-- at most so many abort codes are kept apart, and so many types
abbrev pub most_aborts : ℕ
most_aborts = 64

abbrev pub most_types : ℕ
most_types = 256

abbrev pub aborts_with : Ending → List Numbered → List Numbered
aborts_with (Aborted by code) aborts = numbered_with most_aborts code.0 aborts
aborts_with other aborts = aborts

abbrev pub type_with : Option ℕ → List Numbered → List Numbered
type_with None types = types
type_with (Some kind) types = numbered_with most_types kind types

abbrev pub types_with : Role → List Numbered → List Numbered
types_with (Tpdo number parameters) types = type_with parameters.kind types
types_with _ types = types

-- ---- a frame

unfoldable pub transfers_with : List Row → Option Ended → CoverageView → CoverageView
transfers_with rows None coverage = coverage
transfers_with rows (Some ended) coverage = record coverage {
  entries = entries_with rows ended coverage.entries;
  aborts = aborts_with ended.ending coverage.aborts;
  identity = identity_with ended coverage.identity;
}

-- a frame, after which a state is known
unfoldable pub coverage_with : List Row → FrameKind → Role → NmtState → Option Ended → CoverageView → CoverageView
coverage_with rows kind role state ended coverage = transfers_with rows ended (record coverage {
  services = services_with (service_of kind role ended) coverage.services;
  states = states_with state coverage.states;
  types = types_with role coverage.types;
})

unfoldable pub no_coverage : ℕ → CoverageView
no_coverage rows = record {
  entries = replicate rows not_covered;
  services = no_services;
  states = no_states;
  types = [];
  aborts = [];
  identity = no_identity;
}
