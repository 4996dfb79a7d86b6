use Rattle.std.proofs.Common.{◌≡◌, drop, map}
use Rattle.co_sheet_text.specs.Views.{section_view}
use Rattle.co_sheet_warnings.specs.Repeats.{first_passing}
use Rattle.co_sheet_warnings.specs.private.Views.{is_sought, placed_in}
use Rattle.co_sheet_warnings.proofs.repeats.first_sought.Given as goal

-- what is found in the rest is found in all
abbrev pub invariant-loop-section : goal.invariant-loop-section
invariant-loop-section l = first_passing (is_sought l.sought) (placed_in l.once) (map section_view (drop l.section-index l.sections))
    ≡ first_passing (is_sought l.sought) (placed_in l.once) (map section_view l.sections)
