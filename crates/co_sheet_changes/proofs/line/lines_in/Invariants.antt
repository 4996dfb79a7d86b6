use Rattle.std.proofs.Common.{◌≡◌, ◌+◌, ◌≤◌, ◌++◌, length, map}
use Rattle.std.specs.Str.Lines.{lines}
use Rattle.co_sheet_text.specs.Text.{lines_of}
use Rattle.co_sheet_changes.specs.Views.{line_view}
use Rattle.co_sheet_changes.proofs.LineLemmas.{numbered}
use Rattle.co_sheet_changes.proofs.line.lines_in.Given as goal

-- the lines so far, and after them those of the rest
abbrev pub invariant-loop-bytes : goal.invariant-loop-bytes
invariant-loop-bytes l = record {
  read : map line_view l.lines.items ++ numbered l.number (lines l.rest) ≡ lines_of l.text;
  few : l.number + length l.rest ≤ 1048577;
}

abbrev pub decreases-loop-bytes : goal.decreases-loop-bytes
decreases-loop-bytes l = length l.rest
