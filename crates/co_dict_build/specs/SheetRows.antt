-- What makes an entry of the row of a data sheet (CiA 301, 7.4.7; CiA 306).
use Rattle.std.specs.Prelude.{◌≡◌, ◌≤◌, ℕ, true, length}
use Rattle.co_value.specs.Types.{InRange}
use Rattle.co_sheet.specs.Limits.{is_numeric}
use Rattle.co_sheet.specs.Content.{Row as SheetRow}
use Rattle.co_sheet.specs.SheetLaws.{IsSheetRow}
use Rattle.co_dict_build.specs.Capacities.{default_bytes}
use Rattle.co_dict_build.specs.InitialBytes.{initial_number}

-- a string's default is at most as long as an entry can be
abbrev pub HasShortDefault : SheetRow → Type 0
HasShortDefault row = length (default_bytes row.default) ≤ 65535

-- an entry can be made of a row for a node-ID: it is a sheet's, and the number that it begins with
-- is one of its type
pub record IsReady (node : ℕ) (row : SheetRow) : Type 0 where
  pub sheet : IsSheetRow row
  pub short : HasShortDefault row
  pub number : is_numeric row.data_type ≡ true → InRange row.data_type (initial_number node row)
