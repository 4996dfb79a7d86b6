-- What the code reads of an entry on the way (CiA 306, object description).
use Rattle.std.specs.Prelude.{◌≡◌, Bool, not, ◌&&◌, ◌||◌, is_none, codes, true, false, ℕ, List, ◌++◌, Option, Some, ℤ}
use Rattle.co_value.specs.declared.data_type.DataType.{DataType}
use Rattle.co_sheet_rows.specs.declared.fault.FaultKind.TheVariants.{BadLimits}
use Rattle.co_sheet_rows.specs.declared.fault.SheetFault.{SheetFault}
use Rattle.co_sheet_text.specs.Sections.{Property, property_at}
use Rattle.co_sheet.specs.Entries.{Entry, is_domain, single_codes, compound_codes}
use Rattle.co_sheet.specs.Limits.{Default, number, pairs, is_pairs, at_most, is_in_type}
use Rattle.co_sheet.specs.Checks.{fault_if}
use Rattle.co_sheet_faults.specs.declared.entries.Limits.{Limits}
use Rattle.co_sheet_faults.specs.Soundness.{is_low_at_fault, is_high_at_fault, sound_low, sound_high}

-- an entry lacks DataType or AccessType, which object type 2 needs neither of
abbrev pub lacks_key : Entry → Bool
lacks_key e =
    not (is_domain e)
    && (is_none (property_at (codes "DataType") e.section)
    || is_none (property_at (codes "AccessType") e.section))

-- the limits of an entry, and whether they are at fault
pub record AreLimits (t : DataType) (e : Entry) (limits : Limits) : Type 0 where
  pub low : limits.low ≡ sound_low t e
  pub high : limits.high ≡ sound_high t e
  pub is_low_bad : limits.is_low_bad ≡ is_low_at_fault t e
  pub is_high_bad : limits.is_high_bad ≡ is_high_at_fault t e

-- a limit that is at fault, at its line
abbrev pub limit_if : Bool → Property → List SheetFault
limit_if is_bad k = fault_if is_bad BadLimits k.line

-- a default outside the type or the limits, or no pairs of digits
abbrev pub is_beyond : DataType → Option ℤ → Option ℤ → Default → Bool
is_beyond t low high (number value) =
    not (is_in_type t value && at_most low (Some value) && at_most (Some value) high)
is_beyond t low high (pairs digits) = not (is_pairs digits)
is_beyond t low high default = false

-- the object types of a sub-index, and those of an object
abbrev pub codes_of : Bool → List ℕ
codes_of true = single_codes
codes_of false = single_codes ++ compound_codes
