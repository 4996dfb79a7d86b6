-- Which texts are data sheets, and what the others have wrong with them (CiA 306).
use Rattle.std.specs.Prelude.{◌≡◌, ◌⊎◌, ℕ, nat_lt, nat_le, if◌then◌else◌, List, [], ◌∷◌, length, fold, Option, Some, None, option_map}
use Rattle.std.specs.Option.{option_or}
use Rattle.co_sheet_rows.specs.declared.fault.FaultKind.TheVariants.{TooLarge, Memory}
use Rattle.co_sheet_rows.specs.declared.fault.SheetFault.{SheetFault}
use Rattle.co_sheet_text.specs.Text.{lines_of}
use Rattle.co_sheet_text.specs.Sections.{TextSection, sections_of, first_line_fault}
use Rattle.co_sheet.specs.Faults.{fault_at, sheet_fault}
use Rattle.co_sheet.specs.Checks.{checks}

-- the sections of a text
abbrev pub sections_in : List ℕ → List TextSection
sections_in text = sections_of (lines_of text)

-- the fault of the first line that has one
abbrev pub first_bad_line : List ℕ → Option SheetFault
first_bad_line text = option_map sheet_fault (first_line_fault [] (lines_of text))

-- the fault with the smallest line
abbrev pub least_fault : List SheetFault → Option SheetFault
least_fault [] = None
least_fault (f ∷ faults) = Some (fold (λ f g. if nat_le f.line g.line then f else g) f faults)

-- of the first check that finds any fault, the one on the smallest line
abbrev pub first_found : List (List TextSection → List SheetFault)
    → List TextSection → Option SheetFault
first_found [] sections = None
first_found (check ∷ more) sections =
    option_or (least_fault (check sections)) (first_found more sections)

-- What is wrong with a text: its size, or else a line by itself, or else what the checks find.
abbrev pub first_fault : List ℕ → Option SheetFault
first_fault text =
    if nat_lt 1048576 (length text) then Some (fault_at 0 TooLarge)
    else option_or (first_bad_line text) (first_found checks (sections_in text))

-- a text is a data sheet
abbrev pub IsAccepted : List ℕ → Type 0
IsAccepted text = first_fault text ≡ None

-- a fault that is returned: the first, or out of memory, which has no line
abbrev pub IsAnswered : Option SheetFault → SheetFault → Type 0
IsAnswered first fault = (fault ≡ fault_at 0 Memory) ⊎ (first ≡ Some fault)
