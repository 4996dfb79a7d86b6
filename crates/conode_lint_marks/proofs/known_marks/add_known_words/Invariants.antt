use Rattle.std.proofs.Common.{◌≡◌, ◌++◌, map, take}
use Rattle.std.specs.List.{flat_map}
use Rattle.co_sheet.specs.SheetViews.{row_view}
use Rattle.co_sheet_text.specs.Views.{section_view}
use Rattle.conode_lint_marks.specs.KnownFaults.{known_word}
use Rattle.conode_lint_marks.proofs.known_marks.add_known_words.Given as goal

abbrev pub invariant-loop-fault : goal.invariant-loop-fault
invariant-loop-fault l =
    l.marks.items ≡ l.fn.marks.items
    ++ flat_map (known_word (map row_view l.rows) (map section_view l.sections) l.kinds) (take l.fault-index l.faults)
