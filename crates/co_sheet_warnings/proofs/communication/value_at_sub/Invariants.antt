use Rattle.std.proofs.Common.{◌≡◌, drop, map}
use Rattle.co_sheet_warnings.specs.Communication.{value_at_sub}
use Rattle.co_sheet.specs.SectionViews.{entry_view}
use Rattle.co_sheet_warnings.proofs.communication.value_at_sub.Given as goal

-- what the rest has is what all have
abbrev pub invariant-loop-part : goal.invariant-loop-part
invariant-loop-part l = value_at_sub l.sub (map entry_view (drop l.part-index l.parts)) ≡ value_at_sub l.sub (map entry_view l.parts)
