use Rattle.std.proofs.Common.{◌≡◌, ℕ, drop, map}
use Rattle.std.specs.Prelude.{option_map}
use Rattle.std.specs.Ordering.{nat_cmp}
use Rattle.std.specs.BTreeMap.{get}
use Rattle.std.specs.Option.{option_or}
use Rattle.co_sheet_text.specs.Views.{section_view}
use Rattle.co_sheet.specs.SectionViews.{object_view, object_at}
use Rattle.co_sheet.proofs.tables.index_objects.Given as goal

-- what is found so far, else what the rest has
abbrev pub invariant-loop-section : goal.invariant-loop-section
invariant-loop-section l =
    (i : ℕ) → option_or (option_map object_view (get nat_cmp l.objects i)) (object_at i (map section_view (drop l.section-index l.sections))) ≡ option_or (option_map object_view (get nat_cmp l.initial.objects i)) (object_at i (map section_view l.sections))
