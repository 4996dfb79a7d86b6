use Rattle.std.proofs.Common.{◌≡◌, ◌+◌, ◌++◌, drop, map}
use Rattle.co_sheet_text_warnings.specs.Lines.{long_lines, numbered}
use Rattle.co_sheet_text_warnings.specs.Places.{warnings_at}
use Rattle.co_sheet_text_warnings.proofs.lines.add_long_lines.Given as goal

-- those so far, and after them those of the rest
abbrev pub invariant-loop-line : goal.invariant-loop-line
invariant-loop-line l = record {
  found : l.warnings.items ++ warnings_at l.kind (long_lines (numbered l.number (map (λ line. line.now) (drop l.line-index l.lines))))
      ≡ l.initial.warnings.items ++ warnings_at l.kind (long_lines (numbered 1 (map (λ line. line.now) l.lines)));
  next : l.number ≡ l.line-index + 1;
}
