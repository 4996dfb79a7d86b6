use Rattle.std.proofs.Common.{◌≡◌, ◌++◌, drop, map}
use Rattle.std.specs.Prelude.{filter_map}
use Rattle.co_sheet_text.specs.Views.{section_view}
use Rattle.co_sheet_warnings.specs.Repeats.{repeats, same_scoped}
use Rattle.co_sheet_text_warnings.specs.Places.{warnings_at}
use Rattle.co_sheet_warnings.specs.private.Views.{placed_in, scoped_view}
use Rattle.co_sheet_warnings.proofs.repeats.add_repeats.Given as goal

-- those so far, and after them those of the rest
abbrev pub invariant-loop-section : goal.invariant-loop-section
invariant-loop-section l = l.warnings.items ++ warnings_at l.kind (repeats same_scoped (map scoped_view l.before.keys) (filter_map (placed_in l.once) (map section_view (drop l.section-index l.sections))))
    ≡ l.initial.warnings.items ++ warnings_at l.kind (repeats same_scoped (map scoped_view l.initial.before.keys) (filter_map (placed_in l.once) (map section_view l.sections)))
