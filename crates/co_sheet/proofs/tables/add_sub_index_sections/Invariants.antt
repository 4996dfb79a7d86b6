use Rattle.std.proofs.Common.{◌≡◌, ℕ, drop, map, ◌++◌}
use Rattle.co_sheet.specs.Entries.{sub_indices}
use Rattle.co_sheet_text.specs.Views.{section_view}
use Rattle.co_sheet.specs.SectionViews.{parts_at}
use Rattle.co_sheet.proofs.tables.add_sub_index_sections.Given as goal

-- what is there so far, and after it what the rest has
abbrev pub invariant-loop-section : goal.invariant-loop-section
invariant-loop-section l =
    (i : ℕ) → parts_at l.parts.items i ++ sub_indices (map section_view (drop l.section-index l.sections)) i ≡ parts_at l.initial.parts.items i ++ sub_indices (map section_view l.sections) i
