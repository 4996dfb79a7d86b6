-- The numbers of the identity object, against those of DeviceInfo (CiA 306-1, device information).
use Rattle.std.specs.Prelude.{ℕ, ◌==◌, if◌then◌else◌, List, []}
use Rattle.std.specs.Option.{option_map_or}
use Rattle.co_sheet.specs.Entries.{Entry}
use Rattle.co_sheet_text_warnings.specs.declared.known_key.KnownKey.{KnownKey}
use Rattle.co_sheet_text_warnings.specs.declared.known_key.KnownKey.TheVariants as key
use Rattle.co_sheet_text_warnings.specs.Infos.{other_number_at}
use Rattle.co_sheet_text_warnings.specs.Keys.{WrittenKey}
use Rattle.co_sheet_warnings.specs.Communication.{number_at_sub}

-- the key with the number of a sub-index of the identity object, 1 to 3 (CiA 301, identity object)
abbrev pub identity_key : ℕ → KnownKey
identity_key sub =
    if sub == 1 then key.VendorNumber
    else if sub == 2 then key.ProductNumber
    else key.RevisionNumber

-- where it isn't the initial number of that sub-index, by the entries of the object
abbrev pub identity_number : List WrittenKey → List Entry → ℕ → List ℕ
identity_number keys entries sub =
    option_map_or (λ n. other_number_at keys (identity_key sub) (n, n)) (number_at_sub sub entries)
    []
