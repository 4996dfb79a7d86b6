use Rattle.std.proofs.Common.{◌≡◌, ◌+◌, drop, map}
use Rattle.co_sheet_text_warnings.specs.Lines.{first_other, numbered}
use Rattle.co_sheet_text_warnings.proofs.lines.first_other.Given as goal

-- what the rest has is what all have
abbrev pub invariant-loop-line : goal.invariant-loop-line
invariant-loop-line l = record {
  found : first_other (numbered l.number (map (λ line. line.now) (drop l.line-index l.lines)))
      ≡ first_other (numbered 1 (map (λ line. line.now) l.lines));
  next : l.number ≡ l.line-index + 1;
}
