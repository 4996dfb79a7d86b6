-- The first bytes of numeric entries.
use Rattle.std.proofs.Common.{◌≡◌, ℕ, Some, refl}
use Rattle.co_value.specs.declared.data_type.DataType.{DataType}
use Rattle.co_value.specs.declared.data_type.DataType.TheVariants.{VisibleString, OctetString, Domain}
use Rattle.co_value.specs.Types.{width_of}
use Rattle.co_value.specs.Numbers.{bytes_of}
use Rattle.co_sheet.specs.Content.{Row as SheetRow}
use Rattle.co_dict_build.specs.InitialBytes.{initial_number, initial_at}

-- a type with a width begins with the bytes of its number
pub initial_at-numeric : (node : ℕ) (row : SheetRow) (t : DataType) (width : ℕ) → width_of t ≡ Some width → initial_at node row t ≡ bytes_of t (initial_number node row)
initial_at-numeric node row VisibleString width h = absurd (cc)
initial_at-numeric node row OctetString width h = absurd (cc)
initial_at-numeric node row Domain width h = absurd (cc)
initial_at-numeric node row t width h = refl
