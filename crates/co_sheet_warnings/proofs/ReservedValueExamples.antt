-- Values that CiA 301 reserves, on both sides of each edge.
use Rattle.std.proofs.Common.{◌≡◌, ℕ, List, [], ◌∷◌, true, false, refl, codes, map}
use Rattle.co_sheet_text.specs.declared.section_kind.SectionKind.TheVariants.{Object}
use Rattle.co_sheet_text_warnings.specs.declared.warning.WarningKind.TheVariants.{ReservedValue}
use Rattle.co_sheet_warnings.specs.ReservedValues.{has_reserved, is_reserved}
use Rattle.co_sheet_warnings.specs.Warnings.{few_places, places_in, places_of}
use Rattle.co_sheet_text_warnings.specs.InText.{place_in_text}
use Rattle.co_sheet_warnings.proofs.ExampleTexts.{places, sub_index}

overflow_values : map (is_reserved (Object 0x1019)) (0 ∷ 1 ∷ 2 ∷ 240 ∷ 241 ∷ 255 ∷ 256 ∷ []) ≡ false ∷ true ∷ false ∷ false ∷ true ∷ true ∷ false ∷ []
overflow_values = refl

-- of the last RPDO, and of the first TPDO
rpdo_types : map (is_reserved (sub_index 0x15FF 2)) (1 ∷ 240 ∷ 241 ∷ 251 ∷ 252 ∷ 253 ∷ 254 ∷ 255 ∷ []) ≡ false ∷ false ∷ true ∷ true ∷ true ∷ true ∷ false ∷ false ∷ []
rpdo_types = refl

tpdo_types : map (is_reserved (sub_index 0x1800 2)) (1 ∷ 240 ∷ 241 ∷ 251 ∷ 252 ∷ 253 ∷ 254 ∷ 255 ∷ []) ≡ false ∷ false ∷ true ∷ true ∷ false ∷ false ∷ false ∷ false ∷ []
tpdo_types = refl

objects : map (λ index. has_reserved (Object index)) (0x1018 ∷ 0x1019 ∷ 0x101A ∷ 0x1800 ∷ []) ≡ false ∷ true ∷ false ∷ false ∷ []
objects = refl

of_pdos : map (λ index. has_reserved (sub_index index 2)) (0x1019 ∷ 0x13FF ∷ 0x1400 ∷ 0x15FF ∷ 0x1600 ∷ 0x17FF ∷ 0x1800 ∷ 0x19FF ∷ 0x1A00 ∷ []) ≡ false ∷ false ∷ true ∷ true ∷ false ∷ false ∷ true ∷ true ∷ false ∷ []
of_pdos = refl

of_sub_indices : map (λ sub. has_reserved (sub_index 0x1800 sub)) (0 ∷ 1 ∷ 2 ∷ 3 ∷ 6 ∷ []) ≡ false ∷ false ∷ true ∷ false ∷ false ∷ []
of_sub_indices = refl

-- what the entry begins with: ParameterValue comes before the default
values : map (λ lines. places ReservedValue (codes "[1019]" ∷ codes "HighLimit=255" ∷ lines))
    ((codes "DefaultValue=0xFA" ∷ []) ∷ (codes "DefaultValue=1" ∷ codes "ParameterValue=2" ∷ []) ∷ (codes "DefaultValue=2" ∷ codes "ParameterValue=1" ∷ []) ∷ (codes "DefaultValue=x" ∷ []) ∷ (codes "AccessType=rw" ∷ []) ∷ [])
    ≡ (3 ∷ []) ∷ [] ∷ (4 ∷ []) ∷ [] ∷ [] ∷ []
unfolding places_of few_places place_in_text places_in
values = refl

types : places ReservedValue (codes "[1400sub2]" ∷ codes "DefaultValue=252" ∷ codes "[1800sub2]" ∷ codes "DefaultValue=252" ∷ codes "[1801sub2]" ∷ codes "DefaultValue=251" ∷ codes "[1801sub3]" ∷ codes "DefaultValue=251" ∷ []) ≡ 2 ∷ 6 ∷ []
unfolding places_of few_places place_in_text places_in
types = refl
