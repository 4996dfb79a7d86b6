use Rattle.std.proofs.Common.{◌≡◌, ◌++◌, drop, map}
use Rattle.co_sheet.specs.SectionViews.{entry_view}
use Rattle.co_sheet.proofs.checks.objects.add_parts.Given as goal

-- those so far, and after them the rest
abbrev pub invariant-loop-part : goal.invariant-loop-part
invariant-loop-part l = map entry_view l.entries.items ++ map entry_view (drop l.part-index l.parts) ≡ map entry_view l.initial.entries.items ++ map entry_view l.parts
