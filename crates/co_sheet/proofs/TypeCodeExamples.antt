-- The codes of data types, and those that are left out, computed from the definitions.
use Rattle.std.proofs.Common.{◌≡◌, [], ◌∷◌, refl, Some, None, true, false}
use Rattle.std.specs.Prelude.{map}
use Rattle.co_sheet.specs.ObjectLists.{is_one_of}
use Rattle.co_sheet.specs.Entries.{data_type_with}
use Rattle.co_sheet.specs.Checks.{left_out_codes}

-- the five codes that are left out, and their neighbours
left_out : map (λ code. is_one_of left_out_codes (Some code)) (0x08 ∷ 0x0B ∷ 0x0C ∷ 0x0D ∷ 0x11 ∷ [])
    ≡ true ∷ true ∷ true ∷ true ∷ true ∷ []
left_out = refl

not_left_out : map (λ code. is_one_of left_out_codes (Some code)) (0 ∷ 0x07 ∷ 0x09 ∷ 0x0A ∷ 0x0E ∷ 0x0F ∷ 0x10 ∷ 0x12 ∷ [])
    ≡ false ∷ false ∷ false ∷ false ∷ false ∷ false ∷ false ∷ false ∷ []
not_left_out = refl

no_types : map data_type_with (0 ∷ 0x08 ∷ 0x0B ∷ 0x0C ∷ 0x0D ∷ 0x0E ∷ 0x11 ∷ 0x17 ∷ 0x1C ∷ [])
    ≡ None ∷ None ∷ None ∷ None ∷ None ∷ None ∷ None ∷ None ∷ None ∷ []
no_types = refl
