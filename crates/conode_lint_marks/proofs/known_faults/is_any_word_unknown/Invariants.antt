use Rattle.std.proofs.Common.{◌≡◌, ◌-◌, map}
use Rattle.std.specs.List.{list_any, range_with_len}
use Rattle.co_sheet.specs.SheetViews.{row_view}
use Rattle.co_sheet_text.specs.Views.{section_view}
use Rattle.conode_lint_marks.specs.KnownFaults.{is_any_word_unknown, is_word_unknown}
use Rattle.conode_lint_marks.proofs.known_faults.is_any_word_unknown.Given as goal

-- what the rest gives is what all give
abbrev pub invariant-loop-sub : goal.invariant-loop-sub
invariant-loop-sub l =
    list_any (is_word_unknown (map row_view l.rows) (map section_view l.sections) l.kinds l.index) (range_with_len l.sub (65 - l.sub))
    ≡ is_any_word_unknown (map row_view l.rows) (map section_view l.sections) l.kinds l.index
