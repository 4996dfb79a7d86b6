use Rattle.std.proofs.Common.{◌≡◌, drop, map}
use Rattle.std.specs.List.{list_any}
use Rattle.co_sheet_warnings.specs.Communication.{consumes_before}
use Rattle.co_sheet.specs.SectionViews.{entry_view}
use Rattle.co_sheet_warnings.proofs.communication.is_consumed_twice.Given as goal

-- what the rest has is what all have
abbrev pub invariant-loop-part : goal.invariant-loop-part
invariant-loop-part l = list_any (consumes_before l.node l.sub l.word) (map entry_view (drop l.part-index l.parts)) ≡ list_any (consumes_before l.node l.sub l.word) (map entry_view l.parts)
