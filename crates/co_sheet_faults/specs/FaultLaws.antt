-- Laws of all faults of a text: how they relate to the first fault of a sheet, and which remain
-- when the lines of one kind of fault are emptied (CiA 306).
use Rattle.std.specs.Prelude.{◌≡◌, ◌⊎◌, ℕ, Bool, true, false, not, ◌&&◌, ◌==◌, ◌<◌, ◌≤◌, length, if◌then◌else◌, List, [], ◌∷◌, ◌++◌, Contains, map, filter}
use Rattle.std.specs.List.{list_any}
use Rattle.co_sheet_rows.specs.declared.fault.FaultKind.{FaultKind}
use Rattle.co_sheet_rows.specs.declared.fault.FaultKind.TheVariants.{TooLarge, DuplicateKey}
use Rattle.co_sheet_rows.specs.declared.fault.SheetFault.{SheetFault}
use Rattle.co_sheet_rows.specs.FaultTexts.{fault_number}
use Rattle.co_sheet_text.specs.Text.{Line, lines_of}
use Rattle.co_sheet_text.specs.SectionLaws.{RisesFrom}
use Rattle.co_sheet_text.specs.Sections.{TextSection}
use Rattle.co_sheet.specs.Faults.{fault_at}
use Rattle.co_sheet.specs.Checks.{checks}
use Rattle.co_sheet_text.specs.LinesAtFault.{emptied, own_fault, next_read, lines_read, sections_read}
use Rattle.co_sheet_faults.specs.LinesAtFault.{fault_of_line}
use Rattle.co_sheet_faults.specs.AllFaults.{found_by, faults_in}

-- a kind of a line's own fault: TooLarge, BadLine, KeyOutsideSection, DuplicateSection or
-- DuplicateKey
abbrev pub IsLineKind : FaultKind → Type 0
IsLineKind kind = fault_number kind ≤ 5

-- a fault is of a kind, and whether any of a list is
abbrev pub is_of : FaultKind → SheetFault → Bool
is_of kind fault = fault_number fault.kind == fault_number kind

abbrev pub has_kind : FaultKind → List SheetFault → Bool
has_kind kind [] = false
has_kind kind (fault ∷ faults) = if is_of kind fault then true else has_kind kind faults

-- lines, of which those whose own fault is of a kind are emptied
abbrev pub emptied_of : FaultKind → List Line → List Line → List Line
emptied_of kind before [] = []
emptied_of kind before (line ∷ lines) =
    (if has_kind kind (fault_of_line line (own_fault before line)) then emptied line else line)
    ∷ emptied_of kind (before ++ next_read before line ∷ []) lines

-- faults without those of a kind
abbrev pub without : FaultKind → List SheetFault → List SheetFault
without kind faults = filter (λ f. not (is_of kind f)) faults

-- whether a fault of a kind is at a line, and lines of which those are emptied
abbrev pub is_at : FaultKind → List SheetFault → ℕ → Bool
is_at kind faults line = list_any (λ f. is_of kind f && (f.line == line)) faults

abbrev pub emptied_where : FaultKind → List SheetFault → List Line → List Line
emptied_where kind faults lines =
    map (λ l. if is_at kind faults l.number then emptied l else l) lines

abbrev pub emptied_at : FaultKind → List Line → List Line
emptied_at kind lines = emptied_where kind (faults_in lines) lines

-- the numbers of lines rise, as those of a text do
abbrev pub AreNumbered : List Line → Type 0
AreNumbered lines = RisesFrom 1 (map (λ l. l.number) lines)

-- no line has a key that its section has already
abbrev pub HaveNoKeyTwice : List Line → Type 0
HaveNoKeyTwice lines = has_kind DuplicateKey (faults_in lines) ≡ false

-- a line has the fault, after the lines before it as they are read
pub record IsLineFault (lines : List Line) (fault : SheetFault) : Type 0 where
  pub before : List Line
  pub line : Line
  pub after : List Line
  pub cut : lines ≡ before ++ line ∷ after
  pub own : Contains (fault_of_line line (own_fault (lines_read [] before) line)) fault

-- a check of a sheet finds the fault in the sections that are read
abbrev pub IsFoundFault : List Line → SheetFault → Type 0
IsFoundFault lines fault = Contains (found_by checks (sections_read lines)) fault

-- the first check of a sheet that finds any fault there finds the fault
pub record IsFirstCheckFault (lines : List Line) (fault : SheetFault) : Type 0 where
  pub before : List (List TextSection → List SheetFault)
  pub check : List TextSection → List SheetFault
  pub after : List (List TextSection → List SheetFault)
  pub cut : checks ≡ before ++ check ∷ after
  pub none : found_by before (sections_read lines) ≡ []
  pub found : Contains (check (sections_read lines)) fault

-- a fault is one by its own definition: the text is too large, a line has it, or a check finds it
abbrev pub IsFaultOf : List ℕ → SheetFault → Type 0
IsFaultOf text fault =
    ((1048576 < length text) × (fault ≡ fault_at 0 TooLarge))
    ⊎ IsLineFault (lines_of text) fault ⊎ IsFoundFault (lines_of text) fault
