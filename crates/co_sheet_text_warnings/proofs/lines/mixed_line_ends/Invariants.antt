use Rattle.std.proofs.Common.{◌≡◌, ◌+◌, ◌≤◌, drop}
use Rattle.co_sheet_text_warnings.specs.Lines.{mixed_line_ends, other_end}
use Rattle.co_sheet_text_warnings.proofs.lines.mixed_line_ends.Given as goal

-- what the rest has is what all have
abbrev pub invariant-loop-byte : goal.invariant-loop-byte
invariant-loop-byte l = record {
  found : other_end l.first l.line l.after_cr (drop l.byte-index l.text) ≡ mixed_line_ends l.text;
  few : l.line ≤ l.byte-index + 1;
}
