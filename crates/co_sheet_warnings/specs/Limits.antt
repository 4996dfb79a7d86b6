-- A limit that is another number than it looks (CiA 306-1, object description; CiA 301, integers with
-- a sign).
use Rattle.std.specs.Prelude.{
  ℕ,
  Bool,
  false,
  if◌then◌else◌,
  List,
  [],
  ◌∷◌,
  codes,
  is_some,
  pos,
  neg_ℤ,
  Option,
  option_and_then,
  Result,
  Ok,
}
use Rattle.std.specs.Option.{option_map_or}
use Rattle.std.specs.Ordering.{int_eq}
use Rattle.co_value.specs.declared.data_type.DataType.{DataType}
use Rattle.co_sheet_text.specs.declared.numeral.Numeral.{Numeral}
use Rattle.co_sheet_text.specs.declared.numeral.Numeral.TheVariants.{Hexadecimal}
use Rattle.co_sheet_text.specs.declared.numeral.NumeralFault.{NumeralFault}
use Rattle.co_sheet_text.specs.Numerals.{signed_numeral, value_at}
use Rattle.co_sheet_text.specs.Properties.{number_at}
use Rattle.co_sheet_text.specs.Sections.{Property, TextSection, property_at}
use Rattle.co_sheet.specs.Entries.{data_type_with}

-- hexadecimal digits that mean -1 at a type: two's complement, all bits are 1
abbrev pub is_all_ones : DataType → Result Numeral NumeralFault → Bool
is_all_ones t (Ok (Hexadecimal n)) = int_eq (value_at t (Hexadecimal n)) (neg_ℤ (pos 1))
is_all_ones t other = false

-- the type of an entry, by the code of its DataType
abbrev pub type_at : TextSection → Option DataType
type_at s = option_and_then data_type_with (number_at (codes "DataType") s)

-- the line of a HighLimit that is -1 at the type of its entry, without a LowLimit
abbrev pub line_of_minus_one : Property → DataType → List ℕ
line_of_minus_one k t = if is_all_ones t (signed_numeral k.value) then k.line ∷ [] else []

abbrev pub sole_high : TextSection → Property → List ℕ
sole_high s k =
    if is_some (property_at (codes "LowLimit") s) then []
    else option_map_or (line_of_minus_one k) (type_at s) []

abbrev pub negative_limit : TextSection → List ℕ
negative_limit s = option_map_or (sole_high s) (property_at (codes "HighLimit") s) []
