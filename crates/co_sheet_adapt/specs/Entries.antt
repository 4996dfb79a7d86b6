-- What the lines of an entry become (CiA 306, object description): each kind of change, with the
-- lines that it makes.
use Rattle.std.specs.Prelude.{ℕ, Bool, ◌&&◌, if◌then◌else◌, List, [], ◌++◌, codes, Option, Some, None, option_map, option_and_then}
use Rattle.std.specs.Option.{option_map_or}
use Rattle.co_value.specs.declared.data_type.DataType.{DataType}
use Rattle.co_value.specs.declared.data_type.DataType.TheVariants.{OctetString}
use Rattle.co_value.specs.Types.{code_of}
use Rattle.co_sheet_text.specs.Text.{same_name}
use Rattle.co_sheet_changes.specs.declared.change.ChangeKind.{ChangeKind}
use Rattle.co_sheet_changes.specs.declared.change.ChangeKind.TheVariants as kind
use Rattle.co_sheet_changes.specs.Extended.{is_extended_limit, sign_extended}
use Rattle.co_sheet_changes.specs.Limits.{is_limit, is_preset}
use Rattle.co_sheet_changes.specs.Pieces.{Mended, mended, assigned}
use Rattle.co_sheet_adapt.specs.declared.left_out.LeftOut.{LeftOut}
use Rattle.co_sheet_adapt.specs.declared.left_out.LeftOut.TheVariants.{Real32, UnicodeString, TimeOfDay, TimeDifference, Real64}
use Rattle.co_sheet_adapt.specs.declared.facts.Facts.{Facts}
use Rattle.co_sheet_adapt.specs.LeftOut.{left_out_code, code_in_place, is_real, hexadecimal, value_in_place}
use Rattle.co_sheet_adapt.specs.Values.{pairs_without_blanks}

-- the code of the type that stands for the one that is left out, and that one's in a key of our own
abbrev pub type_lines : LeftOut → List ℕ → List ℕ
type_lines t name =
    assigned name (hexadecimal 4 (code_in_place t))
    ++ assigned (codes "OriginalDataType") (hexadecimal 4 (left_out_code t))

-- a number of REAL32 and REAL64 becomes its bits, a text its bytes; a time stays as it is
abbrev pub preset_kind : LeftOut → Option ChangeKind
preset_kind Real32 = Some kind.RealValue
preset_kind Real64 = Some kind.RealValue
preset_kind UnicodeString = Some kind.UnicodeValue
preset_kind TimeOfDay = None
preset_kind TimeDifference = None

abbrev pub preset_in_place : LeftOut → List ℕ → List ℕ → Option Mended
preset_in_place t name value =
    option_and_then
    (λ why. option_map (λ v. mended why (assigned name v)) (value_in_place t value))
    (preset_kind t)

-- a line of an entry whose type is left out
abbrev pub in_place : LeftOut → List ℕ → List ℕ → Option Mended
in_place t name value =
    if same_name name (codes "DataType") then Some (mended kind.DataType (type_lines t name))
    else if is_limit name && is_real t then Some (mended kind.RealLimit [])
    else if is_preset name then preset_in_place t name value
    else None

-- a value of an entry of another type
abbrev pub is_octets : DataType → Bool
is_octets t = Rattle.std.specs.Prelude.nat_eq (code_of t) (code_of OctetString)

abbrev pub extended_change : DataType → List ℕ → List ℕ → Option Mended
extended_change t name value =
    option_map (λ v. mended kind.SignExtended (assigned name v)) (sign_extended t value)

abbrev pub preset_at_type : DataType → List ℕ → List ℕ → Option Mended
preset_at_type t name value =
    if is_octets t
    then option_map (λ v. mended kind.OctetBlanks (assigned name v)) (pairs_without_blanks value)
    else extended_change t name value

-- a value, or a limit with its sign extended
abbrev pub number_at_type : Bool → DataType → List ℕ → List ℕ → Option Mended
number_at_type extended_low t name value =
    if is_preset name then preset_at_type t name value
    else if is_extended_limit extended_low t name value then extended_change t name value
    else None

-- a line of such an entry
abbrev pub at_type : Facts → List ℕ → List ℕ → Option Mended
at_type facts name value =
    if is_limit name && facts.has_unsigned_limits then Some (mended kind.UnsignedLimit [])
    else option_and_then
    (λ t. number_at_type facts.has_extended_low t name value) facts.data_type

-- what a name and its value become; None: they stay as they are
abbrev pub entry_change : Facts → List ℕ → List ℕ → Option Mended
entry_change facts name value =
    option_map_or (λ t. in_place t name value) facts.left_out (at_type facts name value)
