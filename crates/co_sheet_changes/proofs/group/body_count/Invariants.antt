use Rattle.std.proofs.Common.{◌≡◌, ◌+◌, ◌≤◌, drop, map}
use Rattle.co_sheet_changes.specs.Groups.{body_count}
use Rattle.co_sheet_changes.specs.Views.{line_view}
use Rattle.co_sheet_changes.proofs.group.body_count.Given as goal

-- those so far, and those of the rest
abbrev pub invariant-loop-line : goal.invariant-loop-line
invariant-loop-line l = record {
  counted : l.count + body_count (map line_view (drop l.line-index l.lines)) ≡ body_count (map line_view l.lines);
  few : l.count ≤ l.line-index;
}
