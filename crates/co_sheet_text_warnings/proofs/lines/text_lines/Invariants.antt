use Rattle.std.proofs.Common.{◌≡◌, ◌++◌, map, length}
use Rattle.std.specs.Str.Lines.{lines}
use Rattle.co_sheet_text_warnings.specs.Lines.{text_lines}
use Rattle.co_sheet_text_warnings.proofs.lines.text_lines.Given as goal

-- the lines so far and those of the rest are all
abbrev pub invariant-loop-line : goal.invariant-loop-line
invariant-loop-line l = map (λ line. line.now) l.lines.items ++ lines l.rest ≡ text_lines l.text

abbrev pub decreases-loop-line : goal.decreases-loop-line
decreases-loop-line l = length l.rest
