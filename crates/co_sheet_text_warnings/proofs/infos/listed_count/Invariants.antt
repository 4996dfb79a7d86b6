use Rattle.std.proofs.Common.{◌≡◌, ◌+◌, ◌≤◌, drop, map}
use Rattle.co_sheet_text.specs.Views.{section_view}
use Rattle.co_sheet_text_warnings.specs.Infos.{listed_count}
use Rattle.co_sheet_text_warnings.proofs.infos.listed_count.Given as goal

-- those so far and those of the rest are all
abbrev pub invariant-loop-section : goal.invariant-loop-section
invariant-loop-section l = record {
  counted : l.count + listed_count l.text.sections l.low l.high (map section_view (drop l.section-index l.sections)) ≡ listed_count l.text.sections l.low l.high (map section_view l.sections);
  few : l.count ≤ l.section-index;
}
