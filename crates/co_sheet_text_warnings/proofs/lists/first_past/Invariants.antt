use Rattle.std.proofs.Common.{◌≡◌, drop, map}
use Rattle.co_sheet_text.specs.Views.{property_view}
use Rattle.co_sheet_text_warnings.specs.Lists.{first_past}
use Rattle.co_sheet_text_warnings.proofs.lists.first_past.Given as goal

-- what the rest has is what all have
abbrev pub invariant-loop-given : goal.invariant-loop-given
invariant-loop-given l = first_past (map property_view (drop l.given-index l.properties)) l.count ≡ first_past (map property_view l.properties) l.count
