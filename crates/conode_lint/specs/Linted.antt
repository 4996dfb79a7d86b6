-- The findings of a text, and what they say about it.
use Rattle.std.specs.Prelude.{◌≡◌, ℕ, ◌-◌, Bool, not, ◌&&◌, if◌then◌else◌, List, [], ◌∷◌, ◌++◌, length, map, take, Option, Some, None, is_none}
use Rattle.std.specs.List.{flat_map, list_any}
use Rattle.co_sheet.specs.Accepted.{first_fault}
use Rattle.co_sheet.specs.Content.{SheetContent}
use Rattle.co_sheet_text.specs.Sections.{TextSection}
use Rattle.co_dict_build.specs.Built.{plan_of}
use Rattle.co_dict_build.specs.BuildFaults.{build_fault}
use Rattle.co_dict_build.specs.Capacities.{Limits}
use Rattle.co_dict_build.specs.declared.build_fault.BuildFault.{BuildFault}
use Rattle.conode_lint.specs.declared.linted_text.Linted.{Linted}
use Rattle.conode_lint_marks.specs.declared.mark.Mark.{Mark}
use Rattle.conode_lint.specs.declared.marks.Checks.{Checks}
use Rattle.conode_lint.specs.Allowed.{error_count, error_of, is_error, kept, names_in, passes_by}
use Rattle.co_sheet_text_warnings.specs.Lines.{text_lines}
use Rattle.conode_lint.specs.Found.{finding_of, seen}
use Rattle.conode_lint.specs.Marks.{IsByLine, IsFound, node_for, text_sections}
use Rattle.conode_lint_marks.specs.Beside.{sheet_of}
use Rattle.conode_lint.specs.Words.{severity_of}

-- the marks whose names neither the command line nor the sheet allows
unfoldable pub left : List (List ℕ) → Checks → List Mark → List Mark
left lines checks found =
    kept (passes_by (map (λ name. name.now) checks.allowed.now) (names_in lines)) found

-- a mark that is no error
abbrev pub warning_of : Mark → List Mark
warning_of mark = if not (is_error (severity_of mark.subject)) then mark ∷ [] else []

-- at most so many marks: errors before warnings
abbrev pub most_severe : ℕ → List Mark → List Mark
most_severe most marks = take most (flat_map error_of marks ++ flat_map warning_of marks)

-- the findings of the 1,000 most severe marks by line, by the node-ID that is given, and the counts of
-- all of them
pub record IsMadeOf (lines : List (List ℕ)) (sections : List TextSection) (node : Option ℕ)
    (marks : List Mark) (linted : Linted) : Type 0 where
  pub printed : List Mark
  pub by_line : IsByLine (most_severe 1000 marks) printed
  pub findings : map seen linted.findings.items ≡ map (finding_of lines sections node) printed
  pub errors : linted.errors ≡ error_count marks
  pub warnings : linted.warnings ≡ length marks - linted.errors
  pub more : linted.more ≡ length marks - 1000

-- the findings of all that is found in a text, but for what is allowed
pub record IsLinted (text : List ℕ) (checks : Checks) (linted : Linted) : Type 0 where
  pub found : List Mark
  pub is_found : IsFound text checks found
  pub made :
      IsMadeOf (text_lines text) (text_sections text) checks.node
      (left (text_lines text) checks found) linted

-- ---- what they say about a text

-- one of these marks is an error
abbrev pub has_error : List Mark → Bool
has_error marks = list_any (λ mark. is_error (severity_of mark.subject)) marks

-- the fault that a build returns, if no dictionary can be built; without a sheet or a node-ID none
-- is built
abbrev pub first_build_fault : Limits → Option SheetContent → Option ℕ → Option BuildFault
first_build_fault limits (Some sheet) (Some id) = build_fault (plan_of id limits sheet)
first_build_fault limits other own = None

-- a text has no fault as a sheet, and no build fault for the given node-ID, or else its own
unfoldable pub is_good : List ℕ → Option ℕ → Limits → Bool
is_good text node limits =
    is_none (first_fault text)
    && is_none (first_build_fault limits (sheet_of text) (node_for node (sheet_of text)))
