use Rattle.std.proofs.Common.{◌≡◌, ◌++◌, map, take}
use Rattle.std.specs.List.{flat_map}
use Rattle.co_sheet_text.specs.Views.{section_view}
use Rattle.conode_lint_marks.specs.BuildLines.{build_marks}
use Rattle.conode_lint_marks.proofs.build_marks.add_build_faults.Given as goal

abbrev pub invariant-loop-fault : goal.invariant-loop-fault
invariant-loop-fault l =
    l.marks.items ≡ l.fn.marks.items ++ flat_map (build_marks l.sheet (map section_view l.sections)) (take l.fault-index l.faults)
