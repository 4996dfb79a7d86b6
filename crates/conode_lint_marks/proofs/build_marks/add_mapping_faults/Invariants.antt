use Rattle.std.proofs.Common.{◌≡◌, ◌++◌, map, take}
use Rattle.co_sheet_text.specs.Views.{section_view}
use Rattle.conode_lint_marks.specs.BuildLines.{mapping_mark}
use Rattle.conode_lint_marks.proofs.build_marks.add_mapping_faults.Given as goal

abbrev pub invariant-loop-fault : goal.invariant-loop-fault
invariant-loop-fault l =
    l.marks.items ≡ l.fn.marks.items ++ map (mapping_mark l.sheet (map section_view l.sections)) (take l.fault-index l.faults)
