use Rattle.std.proofs.Common.{◌≡◌, ◌+◌, ◌≤◌, drop, map}
use Rattle.co_sheet_text.specs.Views.{property_view}
use Rattle.conode_lint_text.specs.Facts.{next_from, next_key}
use Rattle.conode_lint_text.proofs.lists.next_key.Given as goal

-- the rest goes on from what is next
abbrev pub invariant-loop-property : goal.invariant-loop-property
invariant-loop-property l = record {
  next : next_from l.next (map property_view (drop l.property-index l.properties)) ≡ next_key (map property_view l.properties);
  few : l.next ≤ l.property-index + 1;
}
