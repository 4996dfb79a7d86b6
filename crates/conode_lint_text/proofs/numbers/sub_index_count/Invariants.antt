use Rattle.std.proofs.Common.{◌≡◌, ◌+◌, ◌≤◌, drop, map}
use Rattle.co_sheet_text.specs.Views.{section_view}
use Rattle.conode_lint_text.specs.Facts.{sub_index_count}
use Rattle.conode_lint_text.proofs.numbers.sub_index_count.Given as goal

-- those so far and those of the rest are all
abbrev pub invariant-loop-section : goal.invariant-loop-section
invariant-loop-section l = record {
  counted : l.count + sub_index_count l.index (map section_view (drop l.section-index l.sections)) ≡ sub_index_count l.index (map section_view l.sections);
  few : l.count ≤ l.section-index;
}
