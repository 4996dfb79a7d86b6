-- Numbers with a leading zero (CiA 306, numerals), which some tools read as octal and others as
-- decimal: written anew, by the base that is asked for.
use Rattle.std.specs.Prelude.{ℕ, Bool, true, false, ◌==◌, if◌then◌else◌, List, [], ◌∷◌, ◌++◌, decimal, Option, Some, None, option_map, Result, Err}
use Rattle.std.specs.List.{list_any, before_first, after_first}
use Rattle.co_sheet_text.specs.declared.numeral.NumeralFault.{NumeralFault}
use Rattle.co_sheet_text.specs.declared.numeral.NumeralFault.TheVariants.{Ambiguous}
use Rattle.co_sheet_text.specs.Names.{number_in}
use Rattle.co_sheet_text.specs.Numerals.{is_number_in, unsigned_number}
use Rattle.co_sheet_text.specs.Text.{trim}
use Rattle.co_sheet.specs.Limits.{is_node_id, is_plus}
use Rattle.co_sheet_changes.specs.declared.request.LeadingZeros.{LeadingZeros}
use Rattle.co_sheet_changes.specs.declared.zeros.Anew.{Anew}
use Rattle.co_sheet_changes.specs.declared.zeros.Beside.{Beside}
use Rattle.co_sheet_changes.specs.declared.zeros.Beside.TheVariants.{Nothing, Minus, Left, Right}
use Rattle.co_sheet_changes.specs.declared.request.LeadingZeros.TheVariants.{Octal, Decimal}

abbrev pub base_of : LeadingZeros → ℕ
base_of Octal = 8
base_of Decimal = 10

-- ---- a value

-- digits that begin with 0, and are another number in octal
abbrev pub is_ambiguous : Result ℕ NumeralFault → Bool
is_ambiguous (Err Ambiguous) = true
is_ambiguous other = false

-- the number that digits are in the base; None where one isn't a digit of the base
abbrev pub number_of : LeadingZeros → List ℕ → Option ℕ
number_of zeros text =
    if is_number_in (base_of zeros) text then Some (number_in (base_of zeros) text) else None

-- that of digits that may be meant as octal, in decimal digits
abbrev pub digits_anew : LeadingZeros → List ℕ → Option (List ℕ)
digits_anew zeros text =
    if is_ambiguous (unsigned_number text) then option_map decimal (number_of zeros text) else None

-- the same after `-`
abbrev pub after_minus : List ℕ → List ℕ
after_minus digits = 45 ∷ digits

abbrev pub number_anew : LeadingZeros → List ℕ → Option (List ℕ)
number_anew zeros [] = None
number_anew zeros (b ∷ bs) =
    if b == 45 then option_map after_minus (digits_anew zeros bs) else digits_anew zeros (b ∷ bs)

-- and in a sum with `$NODEID`, on either side
abbrev pub sum_of : List ℕ → List ℕ → List ℕ
sum_of left right = left ++ 43 ∷ right

abbrev pub sum_anew : LeadingZeros → List ℕ → List ℕ → Option (List ℕ)
sum_anew zeros left right =
    if is_node_id left then option_map (sum_of left) (digits_anew zeros right)
    else if is_node_id right then option_map (λ digits. sum_of digits right) (digits_anew zeros left)
    else None

abbrev pub value_anew : LeadingZeros → List ℕ → Option (List ℕ)
value_anew zeros value =
    if list_any is_plus value
    then sum_anew zeros (trim (before_first is_plus value)) (trim (after_first is_plus value))
    else number_anew zeros value

-- ---- a value anew, without where its parts lie in memory

abbrev pub text_beside : Beside → List ℕ → List ℕ
text_beside Nothing digits = digits
text_beside Minus digits = after_minus digits
text_beside (Left left) digits = sum_of left.now digits
text_beside (Right right) digits = sum_of digits right.now

abbrev pub anew_text : Anew → List ℕ
anew_text anew = text_beside anew.beside (decimal anew.number)
