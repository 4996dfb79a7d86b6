use Rattle.std.proofs.Common.{◌≡◌, ◌++◌, length, map}
use Rattle.co_sheet_text.specs.Views.{section_view}
use Rattle.conode_lint_marks.specs.KnownWarnings.{known_in, warning_mark}
use Rattle.conode_lint_marks.proofs.known_warnings.add_known_in.Given as goal

-- those so far, and after them those of the rest
abbrev pub invariant-loop-rest : goal.invariant-loop-rest
invariant-loop-rest l =
    l.marks.items ++ map warning_mark (known_in l.unknown l.forms l.kinds l.doubts l.bad (map section_view l.here) l.left l.rest)
    ≡ l.fn.marks.items ++ map warning_mark (known_in l.unknown l.forms l.kinds l.doubts l.bad (map section_view l.sections) l.faults l.warnings)

abbrev pub decreases-loop-rest : goal.decreases-loop-rest
decreases-loop-rest l = length l.rest
