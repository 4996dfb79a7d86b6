use Rattle.std.proofs.Common.{◌≡◌, ◌+◌, ◌≤◌, drop, map}
use Rattle.co_sheet_text.specs.Views.{property_view}
use Rattle.conode_lint_text.specs.Facts.{key_count}
use Rattle.conode_lint_text.proofs.lists.key_count.Given as goal

-- those so far and those of the rest are all
abbrev pub invariant-loop-property : goal.invariant-loop-property
invariant-loop-property l = record {
  counted : l.count + key_count l.most (map property_view (drop l.property-index l.properties)) ≡ key_count l.most (map property_view l.properties);
  few : l.count ≤ l.property-index;
}
