-- The services of CiA 301 that a recording may have.
use Rattle.std.specs.Prelude.{ℕ, List, codes}
use Rattle.conode_compare_report.specs.declared.service.Service.{Service}
use Rattle.conode_compare_report.specs.declared.service.Service.TheVariants.{Start, Stop, EnterPreOperational, ResetNode, ResetCommunication, BootUp, Heartbeat, NodeGuarding, Emergency, Sync, Time, ExpeditedUpload, SegmentedUpload, BlockUpload, ExpeditedDownload, SegmentedDownload, BlockDownload, Tpdo1, Tpdo2, Tpdo3, Tpdo4, Rpdo1, Rpdo2, Rpdo3, Rpdo4}

abbrev pub service_name : Service → List ℕ
service_name Start = codes "NMT start"
service_name Stop = codes "NMT stop"
service_name EnterPreOperational = codes "NMT enter pre-operational"
service_name ResetNode = codes "NMT reset node"
service_name ResetCommunication = codes "NMT reset communication"
service_name BootUp = codes "boot-up"
service_name Heartbeat = codes "heartbeat"
service_name NodeGuarding = codes "node guarding"
service_name Emergency = codes "EMCY"
service_name Sync = codes "SYNC"
service_name Time = codes "TIME"
service_name ExpeditedUpload = codes "SDO upload expedited"
service_name SegmentedUpload = codes "SDO upload segmented"
service_name BlockUpload = codes "SDO block upload"
service_name ExpeditedDownload = codes "SDO download expedited"
service_name SegmentedDownload = codes "SDO download segmented"
service_name BlockDownload = codes "SDO block download"
service_name Tpdo1 = codes "TPDO1"
service_name Tpdo2 = codes "TPDO2"
service_name Tpdo3 = codes "TPDO3"
service_name Tpdo4 = codes "TPDO4"
service_name Rpdo1 = codes "RPDO1"
service_name Rpdo2 = codes "RPDO2"
service_name Rpdo3 = codes "RPDO3"
service_name Rpdo4 = codes "RPDO4"

-- the place among all
abbrev pub service_number : Service → ℕ
service_number Start = 0
service_number Stop = 1
service_number EnterPreOperational = 2
service_number ResetNode = 3
service_number ResetCommunication = 4
service_number BootUp = 5
service_number Heartbeat = 6
service_number NodeGuarding = 7
service_number Emergency = 8
service_number Sync = 9
service_number Time = 10
service_number ExpeditedUpload = 11
service_number SegmentedUpload = 12
service_number BlockUpload = 13
service_number ExpeditedDownload = 14
service_number SegmentedDownload = 15
service_number BlockDownload = 16
service_number Tpdo1 = 17
service_number Tpdo2 = 18
service_number Tpdo3 = 19
service_number Tpdo4 = 20
service_number Rpdo1 = 21
service_number Rpdo2 = 22
service_number Rpdo3 = 23
service_number Rpdo4 = 24
