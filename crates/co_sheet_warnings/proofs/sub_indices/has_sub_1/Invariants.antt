use Rattle.std.proofs.Common.{◌≡◌, drop, map}
use Rattle.co_sheet.specs.SectionViews.{entry_view}
use Rattle.co_sheet_warnings.specs.SubIndices.{has_sub_1}
use Rattle.co_sheet_warnings.proofs.sub_indices.has_sub_1.Given as goal

-- what the rest has is what all have
abbrev pub invariant-loop-part : goal.invariant-loop-part
invariant-loop-part l = has_sub_1 (map entry_view (drop l.part-index l.parts)) ≡ has_sub_1 (map entry_view l.parts)
