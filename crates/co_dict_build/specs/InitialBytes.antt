-- The bytes that an entry holds after the start and after a reset (CiA 301, 7.3.2.2.1; CiA 306,
-- DefaultValue, ParameterValue and $NODEID).
use Rattle.std.specs.Prelude.{ℕ, ◌+◌, ℤ, pos, int_lt, if◌then◌else◌, List, []}
use Rattle.co_value.specs.Keys.{same_key}
use Rattle.co_value.specs.declared.data_type.DataType.{DataType}
use Rattle.co_value.specs.declared.data_type.DataType.TheVariants.{VisibleString, OctetString, Domain}
use Rattle.co_value.specs.Numbers.{bytes_of}
use Rattle.co_sheet.specs.Limits.{Default, number, node_id}
use Rattle.co_sheet.specs.Content.{Row as SheetRow}
use Rattle.co_dict_build.specs.Capacities.{default_bytes}
use Rattle.co_sheet.specs.SheetLaws.{low_of, high_of}
use Rattle.co_dict.specs.SdoChannels.{request_key, answer_key}

-- 0, or where it is outside the limits the limit that is nearest to it
abbrev pub nearest_to_zero : ℤ → ℤ → ℤ
nearest_to_zero low high = if int_lt (pos 0) low then low else if int_lt high (pos 0) then high else pos 0

-- the number that the default of a numeric entry says, where `$NODEID` stands for the node-ID
abbrev pub number_with : ℕ → SheetRow → Default → ℤ
number_with node row (number value) = value
number_with node row (node_id n) = pos (node + n)
number_with node row other = nearest_to_zero (low_of row) (high_of row)

-- The number that a numeric entry begins with. 1200:01 and 1200:02 hold the identifiers of the
-- default SDO channel, whatever the sheet says (CiA 301, 7.5.2.33).
abbrev pub initial_number : ℕ → SheetRow → ℤ
initial_number node row =
    if same_key row.key (request_key 0) then pos (0x600 + node)
    else if same_key row.key (answer_key 0) then pos (0x580 + node)
    else number_with node row row.default

-- the bytes that an entry of a type begins with: a string those of its default, a domain none
abbrev pub initial_at : ℕ → SheetRow → DataType → List ℕ
initial_at node row VisibleString = default_bytes row.default
initial_at node row OctetString = default_bytes row.default
initial_at node row Domain = []
initial_at node row numeric = bytes_of numeric (initial_number node row)

-- the bytes that an entry begins with
abbrev pub initial_of : ℕ → SheetRow → List ℕ
initial_of node row = initial_at node row row.data_type
