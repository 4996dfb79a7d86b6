use Rattle.std.proofs.Common.{◌≡◌, drop, map}
use Rattle.co_sheet_warnings.specs.SubIndices.{highest_from, highest_of}
use Rattle.co_sheet.specs.SectionViews.{entry_view}
use Rattle.co_sheet_warnings.proofs.sub_indices.highest_of.Given as goal

-- the highest of the rest and of those so far is the highest of all
abbrev pub invariant-loop-part : goal.invariant-loop-part
invariant-loop-part l = highest_from l.highest (map entry_view (drop l.part-index l.parts)) ≡ highest_of (map entry_view l.parts)
