use Rattle.std.proofs.Common.{◌≡◌, drop, map}
use Rattle.co_sheet.specs.SectionViews.{entry_view}
use Rattle.co_sheet.specs.private.Findings.{sooner, soonest}
use Rattle.co_sheet.specs.private.ObjectReadings.{part_finding}
use Rattle.co_sheet.proofs.checks.objects.parts_finding.Given as goal

-- what is found first so far or in the rest is found first in all
abbrev pub invariant-loop-part : goal.invariant-loop-part
invariant-loop-part l = sooner l.first (soonest part_finding (map entry_view (drop l.part-index l.parts))) ≡ soonest part_finding (map entry_view l.parts)
