-- What is checked of one entry, and what is read of it on the way (CiA 306, object description).
use Rattle.std.specs.Prelude.{nat_lt, ◌≡◌, ℕ, ◌∷◌, [], ◌++◌, Bool, false, ◌&&◌, not, List, ℤ, Option, Some, None, map, option_map, Ok}
use Rattle.std.specs.Option.{option_map_or, option_or}
use Rattle.co_value.specs.declared.data_type.DataType.{DataType}
use Rattle.co_value.specs.Types.{least_of, greatest_of}
use Rattle.co_sheet_rows.specs.declared.entry.Preset.{Preset}
use Rattle.co_sheet.specs.declared.checks.entries.Limit.{Limit}
use Rattle.co_sheet.specs.declared.checks.entries.Stated.{Stated}
use Rattle.co_sheet_rows.specs.declared.fault.FaultKind.TheVariants.{BadLimits}
use Rattle.co_sheet_rows.specs.declared.fault.SheetFault.{SheetFault}
use Rattle.co_sheet.specs.declared.checks.findings.Finding.{Finding}
use Rattle.co_sheet_text.specs.declared.text_section.Property.{Property as CodeProperty}
use Rattle.co_sheet_text.specs.Sections.{Property, property_at}
use Rattle.co_sheet_text.specs.Views.{property_view}
use Rattle.co_sheet_rows.specs.declared.entry.EntryRow.{EntryRow}
use Rattle.co_sheet.specs.Accepted.{least_fault}
use Rattle.co_sheet.specs.Content.{Row, row_of}
use Rattle.co_sheet.specs.SheetViews.{row_view}
use Rattle.co_sheet_text.specs.Numerals.{unsigned_number}
use Rattle.co_sheet.specs.Entries.{Entry}
use Rattle.co_sheet.specs.declared.checks.entries.Values.{Values}
use Rattle.co_sheet_rows.specs.declared.fault.FaultKind.TheVariants.{BadDefault}
use Rattle.co_sheet.specs.Limits.{Default, absent, number, pairs, number_at_type, numeric_default, stated_default, default_of, low_limit, high_limit, is_pairs, at_most, is_in_type}
use Rattle.co_sheet.specs.Checks.{fault_if, entry_checks, bad_type, left_out_type, in_numeric, unread_limits, bad_limits, bad_default}
use Rattle.co_sheet.specs.private.Findings.{first_finding, soonest}
use Rattle.co_sheet.specs.Views.{default_view}

-- what the checks of an entry find first, from check 10 on
abbrev pub entry_finding : Entry → Option Finding
entry_finding e = first_finding 10 entry_checks e

-- the fault that they find first in any of these
abbrev pub first_in : List Entry → Option SheetFault
first_in entries = option_map (λ f. f.fault) (soonest entry_finding entries)

-- what those of the type find first, and those of the limits and the default
abbrev pub type_finding : Entry → Option Finding
type_finding e = first_finding 12 (bad_type ∷ left_out_type ∷ []) e

abbrev pub value_finding : Entry → Option Finding
value_finding e =
    first_finding 15 (in_numeric unread_limits ∷ in_numeric bad_limits ∷ bad_default ∷ []) e

-- what a section gives at a name
abbrev pub IsGiven : List ℕ → Option CodeProperty → Entry → Type 0
IsGiven name given e = option_map property_view given ≡ property_at name e.section

-- the fault that is found at what is given
abbrev pub fault_in : (Property → List SheetFault) → Option CodeProperty → Option SheetFault
fault_in found given = least_fault (option_map_or found (option_map property_view given) [])

-- what rows say, each as that of an entry
abbrev pub entry_rows : List EntryRow → List (Option Row)
entry_rows rows = map (λ r. Some (row_view r)) rows

-- each entry has its row
abbrev pub HaveRows : List Entry → List EntryRow → Type 0
HaveRows entries rows = map row_of entries ≡ entry_rows rows

-- what is read at a key, where it is given
abbrev pub IsReadAt : {X : Type 0} → (Property → X → Type 0) → Option Property → Option X → Type 0
IsReadAt Reads None None = Unit {0}
IsReadAt Reads (Some k) (Some x) = Reads k x
IsReadAt Reads key x = ⊥

-- a number
abbrev pub IsNumberAt : Option Property → Option ℕ → Type 0
IsNumberAt key found = IsReadAt (λ k n. unsigned_number k.value ≡ Ok n) key found

-- a limit of a numeric type, with its line
abbrev pub IsLimitAt : DataType → Option Property → Option Limit → Type 0
IsLimitAt t key limit =
    IsReadAt
    (λ k (l : Limit). (number_at_type t k.value ≡ Ok l.value) × (k.line ≡ l.line)) key limit

-- the default of a numeric type, and of any, with its line
abbrev pub IsDefaultAt : DataType → Option Property → Option Stated → Type 0
IsDefaultAt t key stated =
    IsReadAt
    (λ k (s : Stated). (numeric_default t k.value ≡ Ok (default_view s.preset)) × (k.line ≡ s.line))
    key stated

abbrev pub IsStatedAt : DataType → Option Property → Option Stated → Type 0
IsStatedAt t key stated =
    IsReadAt
    (λ k (s : Stated). (stated_default t k ≡ default_view s.preset) × (k.line ≡ s.line)) key stated

-- the number of a limit
abbrev pub value_of : Option Limit → Option ℤ
value_of limit = option_map (λ l. l.value) limit

-- a limit outside the type's range
abbrev pub outside : DataType → Limit → List SheetFault
outside t limit = fault_if (not (is_in_type t limit.value)) BadLimits limit.line

-- a low limit that is outside the type's range, on an earlier line than the high one
abbrev pub low_before : DataType → Limit → Limit → Bool
low_before t high low = nat_lt low.line high.line && not (is_in_type t low.value)

abbrev pub rests : DataType → Option Limit → Option Limit → Bool
rests t low high = option_map_or (λ h. option_map_or (low_before t h) low false) high false

-- a low limit above the high one, where a limit that is absent is the type's end; not where that
-- rests on a fault before it
abbrev pub crossed : DataType → Option Limit → Option Limit → Limit → List SheetFault
crossed t low high last =
    let lowest = option_or (value_of low) (least_of t) in
    let highest = option_or (value_of high) (greatest_of t) in
    fault_if (not (at_most lowest highest) && not (rests t low high)) BadLimits last.line

-- what is wrong with limits
abbrev pub limits_found : DataType → Option Limit → Option Limit → List SheetFault
limits_found t low high =
    option_map_or (outside t) low [] ++ option_map_or (outside t) high []
    ++ option_map_or (crossed t low high) (option_or high low) []

-- a default that is stated, absent where none is
abbrev pub preset_of : Option Stated → Default
preset_of stated = option_map_or (λ s. default_view s.preset) stated absent

-- a default outside the type or the limits, or no pairs of digits
abbrev pub is_outside : DataType → Option ℤ → Option ℤ → Default → Bool
is_outside t low high (number value) =
    not (is_in_type t value && at_most low (Some value) && at_most (Some value) high)
is_outside t low high (pairs digits) = not (is_pairs digits)
is_outside t low high default = false

abbrev pub is_other_default : DataType → Values → Preset → Bool
is_other_default t values preset =
    is_outside t (value_of values.low) (value_of values.high) (default_view preset)

abbrev pub default_found : DataType → Values → Stated → List SheetFault
default_found t values s = fault_if (is_other_default t values s.preset) BadDefault s.line

-- what is wrong with defaults
abbrev pub defaults_found : DataType → Values → List SheetFault
defaults_found t values =
    option_map_or (default_found t values) values.default []
    ++ option_map_or (default_found t values) values.parameter []

-- the limits and the default of an entry, and what is wrong with them
pub record AreValues (t : DataType) (e : Entry) (values : Values) : Type 0 where
  pub low : low_limit t e ≡ value_of values.low
  pub high : high_limit t e ≡ value_of values.high
  pub default : default_of t e ≡ preset_of (option_or values.parameter values.default)
  pub limits : in_numeric bad_limits e ≡ limits_found t values.low values.high
  pub defaults : bad_default e ≡ defaults_found t values
