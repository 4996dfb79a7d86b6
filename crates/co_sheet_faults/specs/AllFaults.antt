-- All that is wrong with a text (CiA 306).
use Rattle.std.specs.Prelude.{ℕ, nat_lt, if◌then◌else◌, List, [], ◌∷◌, ◌++◌, length, flat_map}
use Rattle.co_sheet_rows.specs.declared.fault.FaultKind.TheVariants.{TooLarge}
use Rattle.co_sheet_rows.specs.declared.fault.SheetFault.{SheetFault}
use Rattle.co_sheet_text.specs.Text.{Line, lines_of}
use Rattle.co_sheet_text.specs.Sections.{TextSection}
use Rattle.co_sheet.specs.Faults.{fault_at}
use Rattle.co_sheet_text.specs.LinesAtFault.{sections_read}
use Rattle.co_sheet_faults.specs.LinesAtFault.{line_faults}
use Rattle.co_sheet_faults.specs.AllChecks.{all_checks}

-- what checks find
abbrev pub found_by : List (List TextSection → List SheetFault)
    → List TextSection → List SheetFault
found_by checks sections = flat_map (λ check. check sections) checks

-- of lines: each line's own fault, then what each check finds in the sections that are read
abbrev pub faults_in : List Line → List SheetFault
faults_in lines = line_faults [] lines ++ found_by all_checks (sections_read lines)

-- of a text: where it is too large that alone
abbrev pub faults_of : List ℕ → List SheetFault
faults_of text =
    if nat_lt 1048576 (length text) then fault_at 0 TooLarge ∷ [] else faults_in (lines_of text)
