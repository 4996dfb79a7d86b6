-- What the properties of a section say (CiA 306, structure of an EDS).
use Rattle.std.specs.Prelude.{ℕ, List, Option, option_and_then}
use Rattle.std.specs.Result.{result_ok}
use Rattle.co_sheet_text.specs.Sections.{Property, TextSection, property_at}
use Rattle.co_sheet_text.specs.Numerals.{unsigned_number}

-- the number that a property has, where it has one
abbrev pub property_number : Property → Option ℕ
property_number k = result_ok (unsigned_number k.value)

-- the number at a name of a section, where it has one
abbrev pub number_at : List ℕ → TextSection → Option ℕ
number_at name section = option_and_then property_number (property_at name section)
