use Rattle.std.proofs.Common.{◌≡◌, drop, map}
use Rattle.co_sheet_text.specs.Views.{property_view}
use Rattle.conode_lint_text.specs.Facts.{high_line}
use Rattle.conode_lint_text.proofs.lists.high_line.Given as goal

-- what is found in the rest is found in all
abbrev pub invariant-loop-property : goal.invariant-loop-property
invariant-loop-property l =
    high_line l.counted (map property_view (drop l.property-index l.properties)) ≡ high_line l.counted (map property_view l.properties)
