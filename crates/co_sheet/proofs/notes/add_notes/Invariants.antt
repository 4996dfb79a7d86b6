use Rattle.std.proofs.Common.{◌≡◌, ◌++◌, drop, map}
use Rattle.std.specs.List.{flat_map}
use Rattle.co_sheet.specs.Notes.{notes_at}
use Rattle.co_sheet_text.specs.Views.{section_view}
use Rattle.co_sheet.proofs.notes.add_notes.Given as goal

-- those so far, and after them those of the rest
abbrev pub invariant-loop-section : goal.invariant-loop-section
invariant-loop-section l =
    l.notes.items ++ flat_map (λ s. notes_at l.tables s s.kind) (map section_view (drop l.section-index l.section-items)) ≡ l.initial.notes.items ++ flat_map (λ s. notes_at l.tables s s.kind) (map section_view l.section-items)
