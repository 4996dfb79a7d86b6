-- Objects and their lists, on both sides of each edge.
use Rattle.std.proofs.Common.{◌≡◌, [], ◌∷◌, true, false, refl, map}
use Rattle.co_sheet_text.specs.declared.section_kind.SectionKind.TheVariants.{MandatoryObjects, OptionalObjects, ManufacturerObjects}
use Rattle.co_sheet_text_warnings.specs.Lists.{is_right_list}

mandatory : map (is_right_list MandatoryObjects) (0x0FFF ∷ 0x1000 ∷ 0x1001 ∷ 0x1002 ∷ 0x1017 ∷ 0x1018 ∷ 0x1019 ∷ 0x2000 ∷ [])
    ≡ false ∷ true ∷ true ∷ false ∷ false ∷ true ∷ false ∷ false ∷ []
mandatory = refl

of_manufacturer : map (is_right_list ManufacturerObjects) (0x1018 ∷ 0x1FFF ∷ 0x2000 ∷ 0x5FFF ∷ 0x6000 ∷ [])
    ≡ false ∷ false ∷ true ∷ true ∷ false ∷ []
of_manufacturer = refl

optional : map (is_right_list OptionalObjects) (0x1001 ∷ 0x1002 ∷ 0x1018 ∷ 0x1FFF ∷ 0x2000 ∷ 0x5FFF ∷ 0x6000 ∷ 0xFFFF ∷ [])
    ≡ false ∷ true ∷ false ∷ true ∷ false ∷ false ∷ true ∷ true ∷ []
optional = refl
