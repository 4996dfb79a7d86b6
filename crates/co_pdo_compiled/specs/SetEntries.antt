-- The entries that the data of an RPDO set (CiA 301, 7.2.2 and 7.5.2.36).
use Rattle.std.specs.Prelude.{ℕ, ◌||◌, nat_lt, List, [], ◌∷◌, length, if◌then◌else◌}
use Rattle.co_value.specs.declared.key.Key.{Key}
use Rattle.co_dict.specs.Rows.{Rows}
use Rattle.co_pdo.specs.declared.mapping.Mapped.{Mapped}
use Rattle.co_pdo.specs.declared.mapping.Mapped.TheVariants.{Entry, Dummy}
use Rattle.co_pdo.specs.Mappings.{total_of}
use Rattle.co_pdo.specs.Images.{any_outside}

-- the entries that are mapped, in order; a dummy entry is none
abbrev pub keys_in : List Mapped → List Key
keys_in [] = []
keys_in (Entry key width ∷ mapping) = key ∷ keys_in mapping
keys_in (Dummy width ∷ mapping) = keys_in mapping

-- the entries that data set: none if the data are too short or a part is outside its limits, else
-- each that is mapped
abbrev pub keys_set : Rows → List Mapped → List ℕ → List Key
keys_set rows mapping bytes =
    if nat_lt (length bytes) (total_of mapping) || any_outside rows mapping bytes then [] else keys_in mapping
