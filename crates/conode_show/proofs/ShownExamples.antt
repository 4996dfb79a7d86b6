-- Which sections are shown, and why others aren't, evaluated on both sides of each edge.
use Rattle.std.proofs.Common.{◌≡◌, [], ◌∷◌, Some, None, refl}
use Rattle.std.specs.Prelude.{codes}
use Rattle.co_value.specs.declared.key.Key.{Key}
use Rattle.co_sheet_text.specs.declared.section_kind.SectionKind.{SectionKind}
use Rattle.co_sheet_text.specs.declared.section_kind.SectionKind.TheVariants.{DeviceInfo, Object, PassedOver, SubIndex}
use Rattle.co_sheet_text.specs.Sections.{TextSection}
use Rattle.conode_lint_marks.specs.declared.mark.OtherFormat.TheVariants.{Xml}
use Rattle.conode_show.specs.Shown.{unless_object}

abbrev vendor : Key
vendor = record { index = 0x1018; sub = 1 }

abbrev section : SectionKind → TextSection
section kind = record { kind = kind; name = []; line = 1; properties = [] }

without_section : unless_object None [] ≡ Some (codes "this is no EDS: it has no section of an object, as [1000]")
without_section = refl

other_sections : unless_object None (section DeviceInfo ∷ section PassedOver ∷ [])
    ≡ Some (codes "this is no EDS: it has no section of an object, as [1000]")
other_sections = refl

an_object : unless_object None (section DeviceInfo ∷ section (Object 0x1000) ∷ []) ≡ None
an_object = refl

a_sub_index : unless_object None (section (SubIndex vendor) ∷ section PassedOver ∷ []) ≡ None
a_sub_index = refl

of_xml : unless_object (Some Xml) (section PassedOver ∷ []) ≡ Some (codes "this is XML, as an XDD (CiA 311) is, and no EDS")
of_xml = refl

object_in_xml : unless_object (Some Xml) (section (Object 0x1000) ∷ []) ≡ None
object_in_xml = refl
