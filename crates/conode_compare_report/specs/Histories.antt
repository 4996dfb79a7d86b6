-- What happens in a comparison, and what is kept of it: the law about the lines around differences.
use Rattle.std.specs.Prelude.{ℕ, ◌+◌, ◌-◌, Bool, List, [], ◌∷◌, ◌++◌, drop, take}
use Rattle.co_sheet.specs.Content.{Row}
use Rattle.conode_compare_text.specs.declared.details.Details.{Details}
use Rattle.conode_compare_nmt.specs.declared.finding.Finding.{Finding}
use Rattle.conode_compare_nmt.specs.declared.finding.NmtState.{NmtState}
use Rattle.conode_compare_rules.specs.declared.kind.FrameKind.{FrameKind}
use Rattle.conode_compare_rules.specs.declared.verdict.Findings.{Findings}
use Rattle.conode_compare_report.specs.declared.before.Before.{Before}
use Rattle.conode_compare_report.specs.declared.kind.Kind.{Kind}
use Rattle.conode_compare_report.specs.Contexts.{KeptLine}
use Rattle.conode_compare_report.specs.Reports.{line_of, nothing_kept, with_bad_line, with_finding, with_frame, with_line, with_passed}
use Rattle.conode_compare_report.specs.Views.{Kept}

-- a line comes, and may be bad; a frame is compared, or could have shown a difference of a kind; a
-- difference is found; as the calls say it
pub data Happening : Type 0 where
  Came : List ℕ → Happening
  WasBad : Happening
  Framed : List Row → ℕ → FrameKind → Before → NmtState → ℕ → Bool → Findings → Happening
  Passed : Kind → Happening
  Found : ℕ → Details → Finding → Happening

abbrev pub happened : Kept → Happening → Kept
happened kept (Came line) = with_line kept line
happened kept WasBad = with_bad_line kept
happened kept (Framed rows micros kind before state free judged found) = with_frame rows kept micros kind before state free judged found
happened kept (Passed kind) = with_passed kept kind
happened kept (Found micros details finding) = with_finding kept micros details finding

-- what is kept after all that happened, the newest first
unfoldable pub kept_of : List Row → ℕ → List Happening → Kept
kept_of rows node [] = nothing_kept rows node
kept_of rows node (newest ∷ older) = happened (kept_of rows node older) newest

abbrev pub line_in : Happening → List (List ℕ)
line_in (Came line) = line ∷ []
line_in other = []

-- the lines that came, the oldest first
unfoldable pub lines_of : List Happening → List (List ℕ)
lines_of [] = []
lines_of (newest ∷ older) = lines_of older ++ line_in newest

-- with their numbers, from this one on
unfoldable pub numbered_from : ℕ → List (List ℕ) → List KeptLine
numbered_from first [] = []
numbered_from first (line ∷ more) = line_of first line ∷ numbered_from (first + 1) more

-- of all lines of a recording those from the third before this one to the third after it
abbrev pub near : ℕ → List (List ℕ) → List KeptLine
near line lines = drop (line - 4) (take (line + 3) (numbered_from 1 lines))
