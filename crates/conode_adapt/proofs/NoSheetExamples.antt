-- Why a text is no data sheet, evaluated on both sides of each edge.
use Rattle.std.proofs.Common.{◌≡◌, [], ◌∷◌, List, ℕ, Option, Some, None, refl}
use Rattle.std.specs.Prelude.{codes}
use Rattle.co_sheet_text.specs.declared.section_kind.SectionKind.{SectionKind}
use Rattle.co_sheet_text.specs.declared.section_kind.SectionKind.TheVariants.{MandatoryObjects, OptionalObjects, ManufacturerObjects, DummyUsage, DeviceInfo, DeviceCommissioning, Object, SubIndex, PassedOver}
use Rattle.co_sheet_text.specs.Sections.{TextSection}
use Rattle.conode_lint_marks.specs.declared.mark.OtherFormat.TheVariants.{Xml, EtherNetIp, Utf16}
use Rattle.conode_adapt.specs.NoSheet.{reason_of}

abbrev section : SectionKind → TextSection
section kind = record { kind = kind; name = []; line = 1; properties = [] }

-- what is said of a text with one section, of no other format
abbrev of_one : SectionKind → Option (List ℕ)
of_one kind = reason_of None (section kind ∷ [])

without_section : reason_of None [] ≡ Some (codes "this is no EDS: it has no section of an object, as [1000]")
without_section = refl

passed_over : of_one PassedOver ≡ Some (codes "this is no EDS: it has no section of an object, as [1000]")
passed_over = refl

mandatory : of_one MandatoryObjects ≡ None
mandatory = refl

optional : of_one OptionalObjects ≡ None
optional = refl

manufacturer : of_one ManufacturerObjects ≡ None
manufacturer = refl

dummies : of_one DummyUsage ≡ None
dummies = refl

device : of_one DeviceInfo ≡ None
device = refl

commissioning : of_one DeviceCommissioning ≡ None
commissioning = refl

an_object : of_one (Object 0x1000) ≡ None
an_object = refl

a_sub_index : of_one (SubIndex (record { index = 0x1018; sub = 1 })) ≡ None
a_sub_index = refl

the_second : reason_of None (section PassedOver ∷ section DeviceInfo ∷ []) ≡ None
the_second = refl

-- another format is the reason whatever the sections are, as in lint
of_xml : reason_of (Some Xml) [] ≡ Some (codes "this is XML, as an XDD (CiA 311) is, and no EDS")
of_xml = refl

of_ethernet_ip : reason_of (Some EtherNetIp) (section PassedOver ∷ [])
    ≡ Some (codes "this is an EDS of EtherNet/IP or DeviceNet, and none of CANopen")
of_ethernet_ip = refl

of_utf16 : reason_of (Some Utf16) [] ≡ Some (codes "this is in UTF-16, and an EDS is in ASCII")
of_utf16 = refl

object_in_xml : reason_of (Some Xml) (section (Object 0x1000) ∷ []) ≡ Some (codes "this is XML, as an XDD (CiA 311) is, and no EDS")
object_in_xml = refl
