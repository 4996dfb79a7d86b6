use Rattle.std.proofs.Common.{◌≡◌, ◌++◌, drop, map}
use Rattle.co_sheet_text.specs.Views.{section_view}
use Rattle.co_sheet.specs.SheetViews.{section_name_view}
use Rattle.co_sheet.proofs.rows.add_section_names.Given as goal

-- those so far, and after them those of the rest
abbrev pub invariant-loop-section : goal.invariant-loop-section
invariant-loop-section l =
    map section_name_view l.names.items ++ map (λ s. record { name = s.name; line = s.line }) (map section_view (drop l.section-index l.sections)) ≡ map section_name_view l.initial.names.items ++ map (λ s. record { name = s.name; line = s.line }) (map section_view l.sections)
