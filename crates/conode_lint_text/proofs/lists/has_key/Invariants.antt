use Rattle.std.proofs.Common.{◌≡◌, drop, map}
use Rattle.co_sheet_text.specs.Views.{property_view}
use Rattle.conode_lint_text.specs.Facts.{has_key}
use Rattle.conode_lint_text.proofs.lists.has_key.Given as goal

-- what the rest has is what all have
abbrev pub invariant-loop-property : goal.invariant-loop-property
invariant-loop-property l = has_key l.place (map property_view (drop l.property-index l.properties)) ≡ has_key l.place (map property_view l.properties)
