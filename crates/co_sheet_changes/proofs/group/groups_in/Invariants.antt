use Rattle.std.proofs.Common.{◌≡◌, ◌++◌, drop, map}
use Rattle.co_sheet_changes.specs.Groups.{groups_of}
use Rattle.co_sheet_changes.specs.Views.{line_view, group_view}
use Rattle.co_sheet_changes.proofs.group.groups_in.Given as goal

-- the sections so far, and after them those of the rest
abbrev pub invariant-loop-place : goal.invariant-loop-place
invariant-loop-place l = map group_view l.groups.items ++ groups_of (map line_view (drop l.place l.lines)) ≡ groups_of (map line_view l.lines)
