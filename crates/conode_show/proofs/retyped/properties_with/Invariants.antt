use Rattle.std.proofs.Common.{◌≡◌, map, take}
use Rattle.std.specs.Option.{option_copied}
use Rattle.co_sheet_text.specs.Views.{property_view}
use Rattle.conode_show.specs.Shown.{properties_with}
use Rattle.conode_show.proofs.retyped.properties_with.Given as goal

-- those so far
abbrev pub invariant-loop-property : goal.invariant-loop-property
invariant-loop-property l = map property_view l.made.items ≡ properties_with (option_copied l.code) (map property_view (take l.property-index l.properties))
