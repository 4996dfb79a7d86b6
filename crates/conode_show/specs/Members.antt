-- The names of the members of objects in JSON.
use Rattle.std.specs.Prelude.{ℕ, List, codes}
use Rattle.conode_show.specs.declared.member.Member.{Member}
use Rattle.conode_show.specs.declared.member.Member.TheVariants as member

-- its name
abbrev pub member_name : Member → List ℕ
member_name member.Default = codes "default"
member_name member.Value = codes "value"
member_name member.Low = codes "low"
member_name member.High = codes "high"
member_name member.Index = codes "index"
member_name member.SubIndex = codes "subIndex"
member_name member.Name = codes "name"
member_name member.Type = codes "type"
member_name member.Access = codes "access"
member_name member.Version = codes "version"
member_name member.Node = codes "node"
member_name member.Bits = codes "bits"
member_name member.Words = codes "words"
member_name member.Pdo = codes "pdo"
member_name member.CobId = codes "cobId"
member_name member.TransmissionType = codes "transmissionType"
member_name member.InhibitTime = codes "inhibitTime"
member_name member.EventTimer = codes "eventTimer"
member_name member.Service = codes "service"
member_name member.Number = codes "number"
member_name member.Mapped = codes "mapped"
member_name member.Mappable = codes "mappable"
member_name member.Fault = codes "fault"
member_name member.Entries = codes "entries"
member_name member.Pdos = codes "pdos"
member_name member.Services = codes "services"
