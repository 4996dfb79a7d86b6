-- Which bound of its entry a value or a limit exceeds (CiA 306-1, object description).
use Rattle.std.specs.Prelude.{ℕ, ℤ, pos, int_le, Bool, false, not, if◌then◌else◌, List, codes, Option, Some, None, option_map, option_and_then}
use Rattle.std.specs.Option.{option_map_or, option_or}
use Rattle.std.specs.Result.{result_ok}
use Rattle.co_value.specs.declared.data_type.DataType.{DataType}
use Rattle.co_sheet_text.specs.Properties.{number_at}
use Rattle.co_sheet_text.specs.Sections.{Property, TextSection, property_at}
use Rattle.co_sheet.specs.Entries.{data_type_with}
use Rattle.co_sheet.specs.Limits.{Default, number, is_in_type, is_numeric, numeric_default}
use Rattle.conode_lint_text.specs.Facts.{is_number, key_value, section_before}
use Rattle.conode_lint_text.specs.declared.bounds.Bound.{Bound}
use Rattle.conode_lint_text.specs.declared.fact.Fact.{Fact as SheetFact}
use Rattle.conode_lint_text.specs.declared.fact.Fact.TheVariants as fact
use Rattle.conode_lint_text.specs.declared.finding.About.{About}
use Rattle.conode_lint_text.specs.declared.finding.About.TheVariants.{Line, Fact}

-- the type of a section whose values are numbers
abbrev pub if_numeric : DataType → Option DataType
if_numeric t = if is_numeric t then Some t else None

abbrev pub numeric_type : TextSection → Option DataType
numeric_type s =
    option_and_then if_numeric (option_and_then data_type_with (number_at (codes "DataType") s))

-- the number that a value is at a type; a sum with `$NODEID` is none
abbrev pub plain_number : Default → Option ℤ
plain_number (number n) = Some n
plain_number other = None

abbrev pub number_of : DataType → List ℕ → Option ℤ
number_of t value = option_and_then plain_number (result_ok (numeric_default t value))

-- a limit that is a number at its type, on its line
abbrev pub bound_with : DataType → Property → Option Bound
bound_with t k = option_map (λ n. record { line = k.line; number = n }) (number_of t k.value)

abbrev pub bound_at : DataType → List ℕ → TextSection → Option Bound
bound_at t name s = option_and_then (bound_with t) (property_at name s)

-- a limit outside the type, which is itself at fault
abbrev pub is_outside : DataType → Bound → Bool
is_outside t limit = not (is_in_type t limit.number)

-- a number that is below LowLimit, and one above HighLimit, which may be below 0, as 0xFFFF is at
-- INTEGER16
abbrev pub below_fact : ℤ → Bound → Option SheetFact
below_fact n low =
    if int_le low.number n then None else Some (fact.BelowLow low.line low.number)

abbrev pub high_fact : Bound → SheetFact
high_fact high =
    if int_le (pos 0) high.number then fact.AboveHigh high.line high.number
    else fact.AboveNegative high.line high.number

abbrev pub above_fact : ℤ → Bound → Option SheetFact
above_fact n high = if int_le n high.number then None else Some (high_fact high)

-- what is said of a value that is below LowLimit, above HighLimit, or both: LowLimit comes first, since
-- a HighLimit below it is itself at fault; but last where LowLimit is outside the type
abbrev pub first_passed : Bool → Option SheetFact → Option SheetFact → Option SheetFact
first_passed low_outside low high = if low_outside then option_or high low else option_or low high

abbrev pub about_fact : Option SheetFact → About
about_fact found = option_map_or Fact found Line

-- of the BadDefault of a line, whose value is within the type
abbrev pub limit_passed : DataType → ℤ → TextSection → About
limit_passed t n s =
    let low = bound_at t (codes "LowLimit") s in
    let high = bound_at t (codes "HighLimit") s in
    about_fact
    (first_passed (option_map_or (is_outside t) low false)
    (option_and_then (below_fact n) low) (option_and_then (above_fact n) high))

abbrev pub value_of : TextSection → DataType → Option ℤ → About
value_of s t (Some n) = if is_in_type t n then limit_passed t n s else Fact (fact.ValueOutside t)
value_of s t None = Line

abbrev pub value_at_type : List ℕ → TextSection → DataType → About
value_at_type text s t = value_of s t (number_of t (key_value text))

-- an OCTET_STRING (CiA 301, data types)
abbrev pub pairs_fact : TextSection → About
pairs_fact s =
    if is_number 0xA (number_at (codes "DataType") s) then Fact fact.NoPairs else Line

abbrev pub value_in : List ℕ → TextSection → About
value_in text s = option_map_or (value_at_type text s) (numeric_type s) (pairs_fact s)

abbrev pub bad_default : ℕ → List TextSection → List ℕ → About
bad_default line sections text = option_map_or (value_in text) (section_before line sections) Line

-- of a limit that is below LowLimit: HighLimit, which may be below 0
abbrev pub crossed_fact : ℤ → ℕ → SheetFact
crossed_fact n line = if int_le (pos 0) n then fact.LimitsCrossed line else fact.NegativeHigh line

abbrev pub if_crossed : ℤ → Bound → Option SheetFact
if_crossed n low = if int_le low.number n then None else Some (crossed_fact n low.line)

-- of the BadLimits of a line: a limit outside the type, or below LowLimit
abbrev pub limit_of : TextSection → DataType → Option ℤ → About
limit_of s t (Some n) =
    if is_in_type t n
    then about_fact (option_and_then (if_crossed n) (bound_at t (codes "LowLimit") s))
    else Fact (fact.LimitOutside t)
limit_of s t None = Line

abbrev pub limit_at_type : List ℕ → TextSection → DataType → About
limit_at_type text s t = limit_of s t (number_of t (key_value text))

abbrev pub limit_in : List ℕ → TextSection → About
limit_in text s = option_map_or (limit_at_type text s) (numeric_type s) Line

abbrev pub bad_limits : ℕ → List TextSection → List ℕ → About
bad_limits line sections text = option_map_or (limit_in text) (section_before line sections) Line
