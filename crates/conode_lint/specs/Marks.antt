-- What is marked at the lines of a text.
use Rattle.std.specs.Prelude.{◌≡◌, ℕ, nat_lt, if◌then◌else◌, List, [], ◌∷◌, ◌++◌, length, map, Contains, Option, Some, None, option_and_then}
use Rattle.std.specs.List.Sorted.{IsNonDecreasingBy, IsPermutation, IsStableByKey, IsStrictlySortedBy}
use Rattle.std.specs.Ordering.{nat_cmp}
use Rattle.std.specs.Option.{option_map_or, option_or}
use Rattle.co_sheet_rows.specs.declared.fault.SheetFault.{SheetFault}
use Rattle.co_sheet.specs.Accepted.{first_found}
use Rattle.co_sheet.specs.Checks.{checks as sheet_checks}
use Rattle.co_sheet.specs.Content.{SheetContent, content_of}
use Rattle.co_sheet_text.specs.LinesAtFault.{sections_read}
use Rattle.co_sheet_text.specs.Sections.{TextSection}
use Rattle.co_sheet_text.specs.Text.{lines_of}
use Rattle.co_sheet_faults.specs.AllFaults.{faults_of}
use Rattle.co_sheet_faults.specs.FaultOrder.{fault_cmp}
use Rattle.co_sheet_text_warnings.specs.declared.warning.Warning.{Warning}
use Rattle.co_sheet_warnings.specs.Warnings.{IsByLine as IsWarningsByLine, warnings_of}
use Rattle.co_dict_build.specs.Built.{plan_of}
use Rattle.co_dict_build.specs.Capacities.{Limits, limits_view}
use Rattle.conode_lint_marks.specs.declared.mark.Mark.{Mark}
use Rattle.conode_lint_marks.specs.declared.mark.OtherFormat.{OtherFormat}
use Rattle.conode_lint_marks.specs.declared.mark.Subject.TheVariants.{Fault, Format}
use Rattle.conode_lint.specs.declared.marks.Checks.{Checks}
use Rattle.conode_lint_marks.specs.BuildLines.{built_marks}
use Rattle.conode_lint_marks.specs.Beside.{beside_marks, sheet_of}
use Rattle.conode_lint_marks.specs.KnownWarnings.{bad_lines, known_warnings, warning_mark}
use Rattle.conode_lint.specs.Formats.{format_line, found_format}
use Rattle.co_sheet_text_warnings.specs.Lines.{text_lines}

-- the mark of a fault
abbrev pub fault_mark : SheetFault → Mark
fault_mark fault = record { line = fault.line; subject = Fault fault.kind }

-- the mark of a text of another format, at the first line that shows it
abbrev pub format_mark : List (List ℕ) → OtherFormat → Mark
format_mark lines format = record { line = format_line format lines; subject = Format format }

-- the sections of a text in spite of its lines at fault; one that is too large isn't read
abbrev pub text_sections : List ℕ → List TextSection
text_sections text =
    if nat_lt 1048576 (length text) then [] else sections_read (lines_of text)

-- the sheet of sections, if no check finds anything in them
unfoldable pub sheet_in : List TextSection → Option SheetContent
sheet_in sections =
    option_map_or (λ fault. None) (first_found sheet_checks sections) (Some (content_of sections))

-- ---- why no dictionary can be built

-- the given node-ID, or else the sheet's own
abbrev pub node_for : Option ℕ → Option SheetContent → Option ℕ
node_for node sheet = option_or node (option_and_then (λ s. s.node_id) sheet)

-- the marks of a sheet's build; without a sheet or a node-ID nothing is built
abbrev pub sheet_marks : Limits → List TextSection → Option SheetContent → Option ℕ → List Mark
sheet_marks limits sections (Some sheet) (Some id) =
    built_marks sheet sections (plan_of id limits sheet)
sheet_marks limits sections other own = []

-- the marks of a text's build
unfoldable pub text_marks : List ℕ → Option ℕ → Limits → List Mark
text_marks text node limits =
    let sheet = sheet_of text in
    sheet_marks limits (sections_read (lines_of text)) sheet (node_for node sheet)

-- ---- all

-- all faults of a text, in order
pub record IsFaultList (text : List ℕ) (faults : List SheetFault) : Type 0 where
  pub all : (fault : SheetFault) → Contains (faults_of text) fault → Contains faults fault
  pub only : (fault : SheetFault) → Contains faults fault → Contains (faults_of text) fault
  pub increase : IsStrictlySortedBy fault_cmp faults

-- the warnings of a text that rest on nothing at fault, by its faults and the errors that are marked
abbrev pub left_of : List ℕ → List Mark → List SheetFault → List Warning → List Warning
left_of text errors faults warnings =
    known_warnings (text_lines text) (sections_read (lines_of text)) (bad_lines errors) faults warnings

-- marks, and after them those of a text's warnings
pub record AddsWarnings (text : List ℕ) (checks : Checks) (faults : List SheetFault)
    (before after : List Mark) : Type 0 where
  pub warnings : List Warning
  pub by_line : IsWarningsByLine (warnings_of text checks.node checks.all) warnings
  pub are : after ≡ before ++ map warning_mark (left_of text before faults warnings)

-- the errors of a text: its faults and its build, also beside faults
abbrev pub errors_of : List ℕ → Checks → List SheetFault → List Mark
errors_of text checks faults =
    map fault_mark faults
    ++ (text_marks text checks.node (limits_view checks.limits)
    ++ beside_marks text checks.node (limits_view checks.limits) faults)

-- the marks of a text: its faults, its build and its warnings
pub record IsMarked (text : List ℕ) (checks : Checks) (faults : List SheetFault) (marks : List Mark)
    : Type 0 where
  pub warnings : List Warning
  pub by_line : IsWarningsByLine (warnings_of text checks.node checks.all) warnings
  pub are : marks ≡ map fault_mark faults
      ++ (text_marks text checks.node (limits_view checks.limits)
      ++ (beside_marks text checks.node (limits_view checks.limits) faults
      ++ map warning_mark (left_of text (errors_of text checks faults) faults warnings)))

-- these marks by line: the line numbers don't decrease, and marks of one line keep their order
pub record IsByLine (marks sorted : List Mark) : Type 0 where
  pub moved : IsPermutation marks sorted
  pub rises : IsNonDecreasingBy (λ m. m.line) sorted
  pub stable : IsStableByKey (λ m. m.line) nat_cmp marks sorted

-- all that is found in a text that is read, by line
pub record IsAllFound (text : List ℕ) (checks : Checks) (faults : List SheetFault)
    (found : List Mark) : Type 0 where
  pub marks : List Mark
  pub are : IsMarked text checks faults marks
  pub by_line : IsByLine marks found

-- the format of a text with faults, if it is another
abbrev pub format_of : List (List ℕ) → List SheetFault → Option OtherFormat
format_of lines [] = None
format_of lines faults = found_format lines

-- what is found: only the format, if it is another one, else all
abbrev pub IsFoundIn : List ℕ → Checks → List SheetFault → List Mark → Option OtherFormat → Type 0
IsFoundIn text checks faults found (Some format) = found ≡ format_mark (text_lines text) format ∷ []
IsFoundIn text checks faults found None = IsAllFound text checks faults found

-- what is found in a text
pub record IsFound (text : List ℕ) (checks : Checks) (found : List Mark) : Type 0 where
  pub faults : List SheetFault
  pub are_faults : IsFaultList text faults
  pub marks : IsFoundIn text checks faults found (format_of (text_lines text) faults)
