use Rattle.std.proofs.Common.{◌≡◌, ◌+◌, drop, map}
use Rattle.std.specs.List.{position_or_len}
use Rattle.conode_lint.specs.Formats.{shows}
use Rattle.conode_lint.proofs.other_format.format_line.Given as goal

-- those so far, and after them those of the rest
abbrev pub invariant-loop-line : goal.invariant-loop-line
invariant-loop-line l = record {
  found : l.number + position_or_len (shows l.format) (map (λ line. line.now) (drop l.line-index l.lines))
      ≡ 1 + position_or_len (shows l.format) (map (λ line. line.now) l.lines);
  next : l.number ≡ l.line-index + 1;
}
