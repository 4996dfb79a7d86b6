use Rattle.std.proofs.Common.{◌≡◌, ℕ, ◌||◌, nat_eq, drop, map}
use Rattle.indexmap.specs.IndexSet.{contains}
use Rattle.co_sheet_text.specs.Views.{section_view}
use Rattle.conode_lint_marks.specs.KnownWarnings.{is_object_compact}
use Rattle.conode_lint_marks.proofs.compact.compact_indices.Given as goal

-- an object is there so far, or is in compact form in the rest
abbrev pub invariant-loop-section : goal.invariant-loop-section
invariant-loop-section l = (i : ℕ) →
    (contains nat_eq l.indices i || is_object_compact (map section_view (drop l.section-index l.sections)) i) ≡ is_object_compact (map section_view l.sections) i
