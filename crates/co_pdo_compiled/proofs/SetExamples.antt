-- The entries that data set, computed from the definitions.
use Rattle.std.proofs.Common.{◌≡◌, pos, [], ◌∷◌, true, refl}
use Rattle.std.specs.Prelude.{Some}
use Rattle.co_value.specs.declared.data_type.DataType.TheVariants.{Unsigned8}
use Rattle.co_profile.specs.declared.access.Access.TheVariants.{Rw}
use Rattle.co_dict.specs.Rows.{Rows}
use Rattle.co_dict.proofs.ExampleDevice.{at, number_row}
use Rattle.co_pdo.specs.declared.mapping.Mapped.TheVariants.{Entry, Dummy}
use Rattle.co_pdo_compiled.specs.SetEntries.{keys_set}

-- each entry is an UNSIGNED8 up to 254
abbrev rows : Rows
rows key = Some (record (number_row Unsigned8 Rw true) { high = pos 254 })

-- all, in order, the first one twice; not the dummy
all : keys_set rows (Entry (at 0x2002 1) 1 ∷ Dummy 1 ∷ Entry (at 0x2002 2) 1 ∷ Entry (at 0x2002 1) 1 ∷ []) (254 ∷ 255 ∷ 0 ∷ 7 ∷ [])
    ≡ at 0x2002 1 ∷ at 0x2002 2 ∷ at 0x2002 1 ∷ []
all = refl

-- also by longer data, but by none that are too short
longer : keys_set rows (Entry (at 0x2002 1) 1 ∷ Dummy 1 ∷ []) (1 ∷ 2 ∷ 3 ∷ []) ≡ at 0x2002 1 ∷ []
longer = refl

too_short : keys_set rows (Entry (at 0x2002 1) 1 ∷ Dummy 1 ∷ []) (1 ∷ []) ≡ []
too_short = refl

-- a part outside its limits sets none
outside : keys_set rows (Entry (at 0x2002 1) 1 ∷ Entry (at 0x2002 2) 1 ∷ []) (0 ∷ 255 ∷ []) ≡ []
outside = refl
