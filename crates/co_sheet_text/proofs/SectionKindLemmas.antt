-- Which sections are about the same.
use Rattle.std.proofs.Common.{◌≡◌, refl}
use Rattle.co_sheet_text.specs.declared.section_kind.SectionKind.{SectionKind}
use Rattle.co_sheet_text.specs.declared.section_kind.SectionKind.TheVariants.{MandatoryObjects, OptionalObjects, ManufacturerObjects, DummyUsage, DeviceInfo, DeviceCommissioning, Object, SubIndex, PassedOver}
use Rattle.co_sheet_text.specs.contracts.section_kind.SectionKindPartialEq.TheImpl.{ghosts}
use Rattle.co_sheet_text.specs.Names.{same_kind}

-- the test of two kinds that `==` makes
pub eq_alike : (a b : SectionKind) → ghosts.eq a b ≡ same_kind a b
eq_alike MandatoryObjects MandatoryObjects = refl
eq_alike MandatoryObjects OptionalObjects = refl
eq_alike MandatoryObjects ManufacturerObjects = refl
eq_alike MandatoryObjects DummyUsage = refl
eq_alike MandatoryObjects DeviceInfo = refl
eq_alike MandatoryObjects DeviceCommissioning = refl
eq_alike MandatoryObjects (Object j) = refl
eq_alike MandatoryObjects (SubIndex j) = refl
eq_alike MandatoryObjects PassedOver = refl
eq_alike OptionalObjects MandatoryObjects = refl
eq_alike OptionalObjects OptionalObjects = refl
eq_alike OptionalObjects ManufacturerObjects = refl
eq_alike OptionalObjects DummyUsage = refl
eq_alike OptionalObjects DeviceInfo = refl
eq_alike OptionalObjects DeviceCommissioning = refl
eq_alike OptionalObjects (Object j) = refl
eq_alike OptionalObjects (SubIndex j) = refl
eq_alike OptionalObjects PassedOver = refl
eq_alike ManufacturerObjects MandatoryObjects = refl
eq_alike ManufacturerObjects OptionalObjects = refl
eq_alike ManufacturerObjects ManufacturerObjects = refl
eq_alike ManufacturerObjects DummyUsage = refl
eq_alike ManufacturerObjects DeviceInfo = refl
eq_alike ManufacturerObjects DeviceCommissioning = refl
eq_alike ManufacturerObjects (Object j) = refl
eq_alike ManufacturerObjects (SubIndex j) = refl
eq_alike ManufacturerObjects PassedOver = refl
eq_alike DummyUsage MandatoryObjects = refl
eq_alike DummyUsage OptionalObjects = refl
eq_alike DummyUsage ManufacturerObjects = refl
eq_alike DummyUsage DummyUsage = refl
eq_alike DummyUsage DeviceInfo = refl
eq_alike DummyUsage DeviceCommissioning = refl
eq_alike DummyUsage (Object j) = refl
eq_alike DummyUsage (SubIndex j) = refl
eq_alike DummyUsage PassedOver = refl
eq_alike DeviceInfo MandatoryObjects = refl
eq_alike DeviceInfo OptionalObjects = refl
eq_alike DeviceInfo ManufacturerObjects = refl
eq_alike DeviceInfo DummyUsage = refl
eq_alike DeviceInfo DeviceInfo = refl
eq_alike DeviceInfo DeviceCommissioning = refl
eq_alike DeviceInfo (Object j) = refl
eq_alike DeviceInfo (SubIndex j) = refl
eq_alike DeviceInfo PassedOver = refl
eq_alike DeviceCommissioning MandatoryObjects = refl
eq_alike DeviceCommissioning OptionalObjects = refl
eq_alike DeviceCommissioning ManufacturerObjects = refl
eq_alike DeviceCommissioning DummyUsage = refl
eq_alike DeviceCommissioning DeviceInfo = refl
eq_alike DeviceCommissioning DeviceCommissioning = refl
eq_alike DeviceCommissioning (Object j) = refl
eq_alike DeviceCommissioning (SubIndex j) = refl
eq_alike DeviceCommissioning PassedOver = refl
eq_alike (Object i) MandatoryObjects = refl
eq_alike (Object i) OptionalObjects = refl
eq_alike (Object i) ManufacturerObjects = refl
eq_alike (Object i) DummyUsage = refl
eq_alike (Object i) DeviceInfo = refl
eq_alike (Object i) DeviceCommissioning = refl
eq_alike (Object i) (Object j) = refl
eq_alike (Object i) (SubIndex j) = refl
eq_alike (Object i) PassedOver = refl
eq_alike (SubIndex i) MandatoryObjects = refl
eq_alike (SubIndex i) OptionalObjects = refl
eq_alike (SubIndex i) ManufacturerObjects = refl
eq_alike (SubIndex i) DummyUsage = refl
eq_alike (SubIndex i) DeviceInfo = refl
eq_alike (SubIndex i) DeviceCommissioning = refl
eq_alike (SubIndex i) (Object j) = refl
eq_alike (SubIndex i) (SubIndex j) = refl
eq_alike (SubIndex i) PassedOver = refl
eq_alike PassedOver MandatoryObjects = refl
eq_alike PassedOver OptionalObjects = refl
eq_alike PassedOver ManufacturerObjects = refl
eq_alike PassedOver DummyUsage = refl
eq_alike PassedOver DeviceInfo = refl
eq_alike PassedOver DeviceCommissioning = refl
eq_alike PassedOver (Object j) = refl
eq_alike PassedOver (SubIndex j) = refl
eq_alike PassedOver PassedOver = refl
